-- Those that hold what is on the stack.
use Rattle.std.proofs.Common.{◌≡◌, sym, ap, ◌∙◌, subst, ℕ, zero, suc, ◌+◌, ◌-◌, ◌<◌, ◌≤◌, List, [], ◌∷◌, Option, Some, None, length, drop, get_or, drop-cons, inl, inr, rules, arith}
use Rattle.std.specs.Prelude.{◌⊎◌, slice_get}
use Rattle.std.proofs.lemmas.Option.{slice_get_within}
use Rattle.gno_layouts.specs.declared.row.Row.{Row}
use Rattle.gno_layouts.specs.declared.settling.State.{State}
use Rattle.gno_layouts.specs.declared.settling.State.TheVariants.{Waiting, Settled}
use Rattle.gno_layouts.specs.Layouts.{parts}
use Rattle.gno_layouts.specs.Settling.{settled_at, In, Waits, IsDue, IsHeldUp, IsBoard, AreHolders, AreSettled, Holds, Stacked}
use Rattle.gno_layouts.proofs.Fitting.{each_at}

unwrapped : {A : Type 0} {a b : A} → Some a ≡ Some b → a ≡ b
unwrapped e = search (rules, e)

some_is_none : {A B : Type 0} {a : A} → Some a ≡ None → B
some_is_none e = absurd (search (rules, e))

-- ---- what is left of a list

pub none_left : (ns : List ℕ) (at n : ℕ) → length ns ≤ at → In n (drop at ns) → ⊥
none_left [] zero n h i = i
none_left [] (suc at) n h i = i
none_left (m ∷ ms) zero n h i = absurd (omega (arith, h))
none_left (m ∷ ms) (suc at) n h i = none_left ms at n (omega (arith, h)) i

pub one_less : (ns : List ℕ) (at d n : ℕ) → at < length ns → In n (drop at ns) → (n ≡ get_or ns at d → ⊥) → In n (drop (at + 1) ns)
one_less ns at d n w i f = by (subst (In n) (drop-cons ns at d w) i)
  where
    by : (n ≡ get_or ns at d) ⊎ In n (drop (suc at) ns) → In n (drop (at + 1) ns)
    by (inl e) = absurd (f e)
    by (inr j) = let k : suc at ≡ at + 1 = omega arith in subst (λ x. In n (drop x ns)) k j

-- ---- the top of the stack

module _ (rows : List Row) (states : List State) (links : List (Option ℕ)) where
  pub top_within : (n : ℕ) (stack : List ℕ) (room : ℕ) → IsBoard rows states links (Some n) stack (λ _. ⊥) room → n < length rows
  top_within n [] room is = some_is_none is.stacked
  top_within n (m ∷ ms) room is =
      let e : n ≡ m = unwrapped is.stacked.0 in
      let w = slice_get_within links m is.stacked.1 is.stacked.2 in
      let z = is.linked in
      omega (arith, e, w, z)

  pub some_room : (n : ℕ) (stack : List ℕ) (room : ℕ) → IsBoard rows states links (Some n) stack (λ _. ⊥) room → room - 1 + 1 ≡ room
  some_room n [] room is = some_is_none is.stacked
  some_room n (m ∷ ms) room is = let b = is.bound in omega (arith, b)

  module _ (holders : List (List ℕ)) (are : AreHolders rows holders) (n : ℕ) (next : Option ℕ) (hs : List ℕ) (room : ℕ) (link : slice_get links n ≡ Some next) (there : slice_get holders n ≡ Some hs) where
    holds : (k : ℕ) (row : Row) (place : ℕ) → slice_get rows k ≡ Some row → slice_get (parts row) place ≡ Some n → In k hs
    holds k row place h e =
        let a : Holds holders k n = each_at (Holds holders k) (parts row) place n (are.each k row h) e in
        subst (In k) (unwrapped (sym a.1 ∙ there)) a.2

    pub popped : (stack : List ℕ) → IsBoard rows states links (Some n) stack (λ _. ⊥) (room + 1) → (rest : List ℕ) × IsBoard rows states links next rest (λ k. In k hs) room
    popped [] is = some_is_none is.stacked
    popped (m ∷ ms) is = (
      ms,
      record {
        size = is.size;
        linked = is.linked;
        fits = is.fits;
        derived = is.derived;
        stacked = subst (λ t. Stacked links t ms) (unwrapped (sym is.stacked.2 ∙ ap (slice_get links) (sym same) ∙ link)) is.stacked.3;
        told = is.told.1;
        bound = let b = is.bound in omega (arith, b);
        due = λ k row place held h w known. by k row place h (is.due k row place held h w known);
      },
    ) where
      same : n ≡ m
      same = unwrapped is.stacked.0

      by_part : (k : ℕ) (row : Row) (place p : ℕ) → slice_get rows k ≡ Some row → slice_get (parts row) place ≡ Some p → (settled_at states p ≡ None) ⊎ In p (m ∷ ms) → In k hs ⊎ IsDue states ms row place
      by_part k row place p h e (inl none) = inr (p, e, inl none)
      by_part k row place p h e (inr (inl i)) = inl (holds k row place h (subst (λ x. slice_get (parts row) place ≡ Some x) (i ∙ sym same) e))
      by_part k row place p h e (inr (inr i)) = inr (p, e, inr i)

      by : (k : ℕ) (row : Row) (place : ℕ) → slice_get rows k ≡ Some row → ⊥ ⊎ IsDue states (m ∷ ms) row place → In k hs ⊎ IsDue states ms row place
      by k row place h (inl f) = absurd f
      by k row place h (inr d) = by_part k row place d.0 h d.1 d.2

-- ---- the end

module _ (rows : List Row) (states : List State) (links : List (Option ℕ)) (top : Option ℕ) (room : ℕ) where
  empty_settled : IsBoard rows states links top [] (λ _. ⊥) room → AreSettled rows states
  empty_settled is = record { size = is.size; fits = is.fits; derived = is.derived; waits = λ n row state h w. by n row state h w } where
    held_up : (row : Row) (place : ℕ) → ⊥ ⊎ IsDue states [] row place → IsHeldUp states row place
    held_up row place (inl f) = absurd f
    held_up row place (inr d) = (d.0, d.1, none_of d.2)
      where
        none_of : (settled_at states d.0 ≡ None) ⊎ ⊥ → settled_at states d.0 ≡ None
        none_of (inl e) = e
        none_of (inr f) = absurd f

    by : (n : ℕ) (row : Row) (state : State) → slice_get rows n ≡ Some row → slice_get states n ≡ Some state → Waits states row state
    by n row (Waiting place held) h w = λ known. held_up row place (is.due n row place held h w known)
    by n row (Settled layout) h w = tt

  pub settled_none : (stack : List ℕ) → top ≡ None → IsBoard rows states links top stack (λ _. ⊥) room → AreSettled rows states
  settled_none [] e is = empty_settled is
  settled_none (m ∷ ms) e is = some_is_none (sym is.stacked.0 ∙ e)

  pub settled_spent : (stack : List ℕ) → room ≡ zero → IsBoard rows states links top stack (λ _. ⊥) room → AreSettled rows states
  settled_spent [] e is = empty_settled is
  settled_spent (m ∷ ms) e is = let b = is.bound in absurd (omega (arith, e, b))
