-- A table that was read again has the memory that it had.
use Rattle.std.proofs.Common.{◌≡◌, ◌∙◌, ℕ, List, refl, sym, subst}
use Rattle.std.specs.Prelude.{Option, Some, None, IsSome}
use Rattle.gno_port.specs.Tables.{Table}
use Rattle.gno_items.specs.declared.memory.Package.{Package}
use Rattle.gno_table.specs.FirstFormat.{IsNotFirst, Stands}
use Rattle.gno_table.proofs.OneMemory.{one_memory}
use Rattle.gno_cmd.specs.Headline.{HasMemory}

pub same_memory : (told : Option Table) (loaded held : List Package) → IsSome told → Stands told loaded → Stands told held → loaded ≡ held
same_memory None loaded held is s t = cc
same_memory (Some table) loaded held is s t = one_memory table loaded held s t

-- a table that packages stand in is of the first format
pub not_both : (told : Option Table) (loaded : List Package) → IsSome told → IsNotFirst told → Stands told loaded → ⊥
not_both None loaded is not_first stands = cc
not_both (Some table) loaded is not_first stands = not_first loaded stands

pub not_told : (told : Option Table) → (IsSome told → ⊥) → IsNotFirst told
not_told None untold = tt
not_told (Some table) untold = absurd (untold refl)

has_told : (told : Option Table) (memory : List Package) → HasMemory told memory → IsSome told × Stands told memory
has_told None memory has = absurd has
has_told (Some table) memory has = (refl, has)

-- what is known of the memory that was loaded is known of the memory that the table has
pub with_its_memory : (P : List Package → Type 0) (old mid new : List ℕ → Option Table) (name opened : List ℕ) (loaded memory : List Package) →
    mid ≡ old → new ≡ mid → opened ≡ name → HasMemory (old name) memory → Stands (mid opened) loaded → (IsSome (new name) → P loaded) → P memory
with_its_memory P old mid new name opened loaded memory m n o has stands p =
    let told = has_told (old name) memory has in
    let here : mid opened ≡ old name = λ i. (m i) (o i) in
    let there : new name ≡ old name = λ i. (n ∙ m) i name in
    let same : loaded ≡ memory = same_memory (old name) loaded memory told.0 (subst (λ (t : Option Table). Stands t loaded) here stands) told.1 in
    subst P same (p (subst (λ (t : Option Table). IsSome t) (sym there) told.0))
