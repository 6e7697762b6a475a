use Rattle.std.specs.Prelude.{ℕ, ◌≡◌, ◌<◌, ◌≤◌, length, slice_get, Some}
use Rattle.gno_terms.specs.declared.term.TypeRef.{TypeRef}
use Rattle.gno_terms.specs.declared.term.TermOf.{TermOf}
use Rattle.gno_type_rows.specs.RowTypes.{unless_of_path}
use Rattle.gno_type_rows.proofs.rows.forget.Given as goal

abbrev pub invariant-loop-number : goal.invariant-loop-number
invariant-loop-number l = (length l.definitions.items ≡ length l.fn.definitions.items)
    × ((n : ℕ) (x : TermOf TypeRef) → n < l.number → slice_get l.terms n ≡ Some x → slice_get l.definitions.items n ≡ unless_of_path l.path x (slice_get l.fn.definitions.items n))
    × ((n : ℕ) → l.number ≤ n → slice_get l.definitions.items n ≡ slice_get l.fn.definitions.items n)
