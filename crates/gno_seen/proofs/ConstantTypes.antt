-- Types that constants may have.
use Rattle.std.proofs.Common.{◌≡◌, sym, ap, ◌∙◌, true, false, rules}
use Rattle.gno_judging.specs.Found.{ConstantTypeStands, TypeStands}
use Rattle.gno_terms.specs.Lawful.{IsTyped, is_untyped}
use Rattle.gno_terms.specs.Tables.{Table}
use Rattle.gno_terms.specs.Terms.{term_of}
use Rattle.gno_terms.specs.declared.term.GoType.{GoType}
use Rattle.gno_terms.specs.declared.term.TermOf.TheVariants as t
use Rattle.gno_terms.specs.declared.term.TypeRef.{TypeRef}

-- a type that values may have is not that of `nil`
pub no_nil : (s : GoType) → IsTyped s → term_of s ≡ t.UntypedNil → ⊥
no_nil s typed e = let h : true ≡ false = sym (ap is_untyped e) ∙ typed in search (rules, h)

-- a type that values may have may be one of constants
pub of_constants : (table : Table) (r : TypeRef) (s : GoType) → TypeStands table r s → ConstantTypeStands table r s
of_constants table r s h = record { is = h.is; no_nil = no_nil s h.typed }
