mod Unnumbering
mod Alone
mod Selected
mod Rules
mod Bound
mod TypedFields
mod Asked
