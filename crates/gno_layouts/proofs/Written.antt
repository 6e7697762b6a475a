-- What is kept beside rows, where a part of it is written.
use Rattle.std.proofs.Common.{◌≡◌, refl, sym, ap, ◌∙◌, subst, ℕ, List, [], ◌∷◌, ◌++◌, Option, length, take}
use Rattle.gno_layouts.specs.declared.row.Row.{Row}
use Rattle.gno_layouts.specs.declared.settling.State.{State}
use Rattle.gno_layouts.specs.Settling.{AreHolders, AreLayouts, Holds}
use Rattle.gno_layouts.proofs.Pushed.{more_holders}

module _ {A : Type 0} where
  all_of : (new rest : List A) → take (length new) (new ++ rest) ≡ new
  all_of [] rest = refl
  all_of (x ∷ xs) rest = ap (λ l. x ∷ l) (all_of xs rest)

  pub written : (n : ℕ) (new rest : List A) → n ≡ length new → take n (new ++ rest) ≡ new
  written n new rest e = ap (λ k. take k (new ++ rest)) e ∙ all_of new rest

pub held_more : (rows : List Row) (states : List State) (holders : List (List ℕ)) (links : List (Option ℕ)) → AreLayouts rows states holders links
    → (was new : List (List ℕ)) → was ≡ holders → length new ≡ length was → ((m n : ℕ) → Holds was m n → Holds new m n) → AreLayouts rows states new links
held_more rows states holders links are was new was_is size grows = record {
  parts = are.parts;
  settled = are.settled;
  held = more_holders rows was new (subst (AreHolders rows) (sym was_is) are.held) size grows;
  linked = are.linked;
}
