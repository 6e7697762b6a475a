-- What may embed fields, and fields that are the same.
use Rattle.std.specs.Prelude.{Bool, true, false, ◌&&◌, nat_eq}
use Rattle.std.specs.Bool.{beq}
use Rattle.std.specs.Str.{bytes_eq}
use Rattle.gno_terms.specs.declared.term.FieldOf.{FieldOf}
use Rattle.gno_terms.specs.declared.term.TermOf.{TermOf}
use Rattle.gno_terms.specs.declared.term.TermOf.TheVariants as t
use Rattle.gno_terms.specs.declared.term.TypeRef.{TypeRef}

-- only a struct has fields, and what a declaration defines as one
abbrev pub may_embed : {A : Type 0} → TermOf A → Bool
may_embed (t.Defined path name local) = true
may_embed (t.Struct fs) = true
may_embed _ = false

abbrev pub is_same : FieldOf TypeRef → FieldOf TypeRef → Bool
is_same a b = bytes_eq a.name b.name && (bytes_eq a.«package» b.«package» && (beq a.embedded b.embedded && nat_eq a.of.0 b.of.0))
