-- What stands for a part that may be missing, and for an operator between two parts.
use Rattle.std.proofs.Common.{◌≡◌, refl, subst, Option, Some, None, option_map, Result, Ok, Err}
use Rattle.std.specs.Prelude.{IfOk}
use Rattle.gno_judging.proofs.Answers.{after_both}
use Rattle.gno_judging.specs.Answers.{Answers}
use Rattle.gno_judging.specs.Noting.{noted}
use Rattle.gno_judging.specs.Stands.{BothStand}
use Rattle.gno_judging.specs.Stands.{BothStand as both}
use Rattle.gno_scan.specs.declared.token.Pos.{Pos}
use Rattle.gno_terms.specs.declared.term.GoType.{GoType}
use Rattle.gno_tree.specs.declared.operator.BinaryOperator.{BinaryOperator}
use Rattle.gno_tree.specs.declared.operator.BinaryOperator.TheVariants as b
use Rattle.gno_typing.specs.Forms.{closed}
use Rattle.gno_typing.specs.Giving.{combined, joined_by, shifted_by}
use Rattle.gno_typing.specs.Verdicts.{AfterBoth, Verdict}
use Rattle.gno_typing.specs.declared.fault.Fault.{Fault}
use Rattle.gno_typing.specs.declared.form.FormOf.{FormOf}

module _ {A B : Type 0} (R : A → B → Type 0) (P : Option B → Type 0) where
  some_by : (a : A) (y : Option B) → BothStand R (Some a) y → ((b : B) → R a b → P (Some b)) → P y
  some_by a _ (both.some r) k = k _ r

  pub by_some : (a : A) (x : Option A) (y : Option B) → x ≡ Some a → BothStand R x y → ((b : B) → R a b → P (Some b)) → P y
  by_some a x y e h k = some_by a y (subst (λ z. BothStand R z y) e h) k

  none_by : (y : Option B) → BothStand R None y → P None → P y
  none_by _ both.none k = k

  pub by_none : (x : Option A) (y : Option B) → x ≡ None → BothStand R x y → P None → P y
  by_none x y e h k = none_by y (subst (λ z. BothStand R z y) e h) k

-- what is made of a part
module _ {A B C D : Type 0} (R : A → B → Type 0) (S : C → D → Type 0) (go : B → D) where
  pub made_of : (x : Option A) (y : Option B) (a : A) (c : C) → x ≡ Some a → BothStand R x y → ((b : B) → R a b → S c (go b)) → BothStand S (Some c) (option_map go y)
  made_of x y a c e h k = by_some R (λ z. BothStand S (Some c) (option_map go z)) a x y e h (λ b r. both.some (k b r))

  pub made_of_none : (x : Option A) (y : Option B) → x ≡ None → BothStand R x y → BothStand S None (option_map go y)
  made_of_none x y e h = by_none R (λ z. BothStand S None (option_map go z)) x y e h both.none

-- what is made of two parts
module _ {A B C D E F : Type 0} (R : A → B → Type 0) (Q : C → D → Type 0) (S : E → F → Type 0) (go : B → D → F) where
  pub made_of_both : (x : Option A) (y : Option B) (z : Option C) (w : Option D) (a : A) (c : C) (e : E) → x ≡ Some a → z ≡ Some c → BothStand R x y → BothStand Q z w → ((b : B) (d : D) → R a b → Q c d → S e (go b d)) → BothStand S (Some e) (combined go y w)
  made_of_both x y z w a c e is also h k go_on = by_some R (λ v. BothStand S (Some e) (combined go v w)) a x y is h
      (λ b r. by_some Q (λ v. BothStand S (Some e) (combined go (Some b) v)) c z w also k (λ d q. both.some (go_on b d r q)))

  pub made_of_no_left : (x : Option A) (y : Option B) (w : Option D) → x ≡ None → BothStand R x y → BothStand S None (combined go y w)
  made_of_no_left x y w is h = by_none R (λ v. BothStand S None (combined go v w)) x y is h both.none

  no_right : (y : Option B) → BothStand S None (combined go y None)
  no_right None = both.none
  no_right (Some b) = both.none

  pub made_of_no_right : (y : Option B) (z : Option C) (w : Option D) → z ≡ None → BothStand Q z w → BothStand S None (combined go y w)
  made_of_no_right y z w is k = by_none Q (λ v. BothStand S None (combined go y v)) z w is k (no_right y)

-- what answers a rule answers each that says as much
pub answers_by : {A B : Type 0} (R : A → B → Type 0) (J K : Verdict B → Type 0) (old new : Option Fault) (x : Option A) → ((v : Verdict B) → J v → K v) → Answers J R old new x → Answers K R old new x
answers_by R J K old new x f h = record { verdict = h.verdict; judged = f h.verdict h.judged; stands = h.stands; notes = h.notes }

-- an operator that takes both its operands
pub both_taken : (u : GoType) (at : Pos) (operator : BinaryOperator) (x y : FormOf GoType) → (operator ≡ b.BothTrue → ⊥) → (operator ≡ b.OneTrue → ⊥) → joined_by u at operator x y ≡ shifted_by u at operator x (closed y)
both_taken u at b.BothTrue x y both one = absurd (both refl)
both_taken u at b.OneTrue x y both one = absurd (one refl)
both_taken u at _ x y both one = refl

-- a verdict that is known
pub as_found : {A B : Type 0} (R : A → B → Type 0) (v : Verdict B) (x z : Option A) (old new : Option Fault) → x ≡ z → BothStand R x v.form → new ≡ noted old v.faults → Answers (λ a. a ≡ v) R old new z
as_found R v x z old new e h notes = record { verdict = v; judged = refl; stands = subst (λ a. BothStand R a v.form) e h; notes = notes }

-- after two parts, where what is behind them may fail for want of memory
module _ {A B C D E F X : Type 0} (R : A → B → Type 0) (Q : C → D → Type 0) (S : E → F → Type 0) (J : Verdict B → Type 0) (K : Verdict D → Type 0) (go : B → D → Verdict F → Type 0) (old mid late new : Option Fault) where
  pub after_both_ok : (res : Result (Option E) X) (a : A) (c : C) → Answers J R old mid (Some a) → Answers K Q mid late (Some c) → ((b : B) (d : D) → R a b → Q c d → IfOk res (λ z. Answers (go b d) S late new z)) → IfOk res (λ z. Answers (AfterBoth J K go) S old new z)
  after_both_ok (Ok z) a c h k behind = after_both R Q S J K go old mid late new z a c h k behind
  after_both_ok (Err e) a c h k behind = tt
