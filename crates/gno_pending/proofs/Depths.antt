-- How deep the operations of a chain are.
use Rattle.std.proofs.Common.{ℕ, ◌≡◌, refl, ◌+◌, ◌*◌, ◌<◌, ◌≤◌, List, [], ◌∷◌, length, subst, ap, arith}
use denote.Param.Weighed.{most}
use Rattle.gno_terms.proofs.term.TypeRef.TheLaws.{the_row_laws}
use Rattle.gno_terms.specs.contracts.term.TypeRef.{the_row}
use Rattle.gno_terms.specs.declared.term.TypeRef.{TypeRef}
use Rattle.gno_typing.proofs.pending.PendingOperationOf.TheLaws.{the_size}
use Rattle.gno_typing.specs.declared.pending.PendingOperationOf.{PendingOperationOf}

abbrev pub depth : PendingOperationOf TypeRef → ℕ
depth = the_size the_row the_row_laws

abbrev pub deepest : List (PendingOperationOf TypeRef) → ℕ
deepest = most depth

-- the first of the operations that are left, and those behind it
pub first_falls : (x : PendingOperationOf TypeRef) (xs left all : List (PendingOperationOf TypeRef)) (t : ℕ) → left ≡ x ∷ xs → deepest left ≤ deepest all → 2 * deepest all + 1 ≡ t → 2 * depth x + 0 < t
first_falls x xs left all t is h e = let k : deepest (x ∷ xs) ≤ deepest all = subst (λ ys. deepest ys ≤ deepest all) is h in omega arith

pub rest_falls : (x : PendingOperationOf TypeRef) (xs left all : List (PendingOperationOf TypeRef)) → left ≡ x ∷ xs → deepest left ≤ deepest all → deepest xs ≤ deepest all
rest_falls x xs left all is h = let k : deepest (x ∷ xs) ≤ deepest all = subst (λ ys. deepest ys ≤ deepest all) is h in omega arith

pub same_depth : (left all : List (PendingOperationOf TypeRef)) → left ≡ all → deepest left ≤ deepest all
same_depth left all is = let e = ap deepest is in omega arith

-- the same where more functions stand between
pub first_of_left : (x : PendingOperationOf TypeRef) (xs left all : List (PendingOperationOf TypeRef)) (t : ℕ) → left ≡ x ∷ xs → deepest left ≤ deepest all → 4 * deepest all + 3 ≡ t → 4 * depth x + 2 < t
first_of_left x xs left all t is h e = let k : deepest (x ∷ xs) ≤ deepest all = subst (λ ys. deepest ys ≤ deepest all) is h in omega arith

pub no_items : {A : Type 0} (xs : List A) (n : ℕ) → n ≡ length xs → n ≡ 0 → xs ≡ []
no_items [] n e z = refl
no_items (x ∷ xs) n e z = absurd (omega arith)
