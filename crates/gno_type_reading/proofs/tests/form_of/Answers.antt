use Rattle.std.proofs.Common.{subst, Option}
use Rattle.std.specs.Prelude.{IfSome}
use Rattle.std.proofs.lemmas.Option.{slice_get_within}
use Rattle.gno_terms.specs.declared.term.GoType.{GoType}
use Rattle.gno_terms.specs.declared.term.TypeRef.{TypeRef}
use Rattle.gno_terms.specs.Tables.{Is}
use Rattle.gno_type_reading.specs.TypeTexts.{IsTypeText}
use Rattle.gno_type_reading.proofs.tests.form_of.Goals as goal

pub form-requires : goal.form-requires
form-requires c =
    let table = c.read_text.new.types in
    let some = subst (λ (o : Option TypeRef). IfSome o (λ t. (s : GoType) × Is table t s × IsTypeText c.args.types.now c.args.text.now s)) c.in-Some.is c.in_ok-t.ensures.some in
    slice_get_within table.types c.in-Some.t.0 some.0 some.1
