use Rattle.std.proofs.Common.{refl}
use Rattle.std.proofs.lemmas.Option.{slice_get_within}
use Rattle.gno_terms.specs.declared.term.TermOf.TheVariants as t
use Rattle.gno_terms.specs.Tables.{error_interface}
use Rattle.gno_terms.specs.Terms.{type_of}
use Rattle.gno_type_table.proofs.Under.{of_error}
use Rattle.gno_type_table.proofs.tests.interface_of.Goals as goal

pub underlying-requires-clause-below : goal.underlying-requires-clause-below
underlying-requires-clause-below c = slice_get_within c.args.table.now.types c.args.error.0 (type_of t.Error) c.requires

pub underlying-requires-clause-known : goal.underlying-requires-clause-known
underlying-requires-clause-known c s is = (error_interface, of_error c.args.table.now c.args.error t.Error c.requires s is refl error_interface refl)

pub returns : goal.returns
returns c = let found = c.underlying.ensures (type_of t.Error) c.requires in slice_get_within c.args.table.now.types c.underlying.result.0 found.0 found.2
