-- The parts of what `error` is. Go specification, "Errors".
use Rattle.std.specs.Prelude.{[], ◌∷◌, false}
use Rattle.gno_base.specs.declared.kind.Kind.TheVariants.{Text}
use Rattle.gno_terms.specs.declared.term.GoType.{GoType}
use Rattle.gno_terms.specs.declared.term.TermOf.TheVariants as t
use Rattle.gno_terms.specs.Terms.{type_of}

abbrev pub text_type : GoType
text_type = type_of (t.Basic Text)

-- of its method
abbrev pub error_function : GoType
error_function = type_of (t.Function [] false (text_type ∷ []))
