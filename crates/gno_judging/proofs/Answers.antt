-- How answers are put together.
use Rattle.std.proofs.Common.{ℕ, ◌≡◌, refl, sym, ap, ◌∙◌, List, [], ◌∷◌, ◌++◌, Option, Some, None, Result, Ok, Err, inl, inr}
use Rattle.std.specs.Prelude.{IfOk}
use Rattle.gno_judging.specs.Answers.{Answers}
use Rattle.gno_judging.specs.Noting.{noted}
use Rattle.gno_judging.specs.Stands.{BothStand}
use Rattle.gno_judging.specs.Stands.{BothStand as both}
use Rattle.gno_judging.proofs.Noting.{noted_append}
use Rattle.gno_scan.specs.declared.token.Pos.{Pos}
use Rattle.gno_typing.specs.Verdicts.{After, AfterBoth, Verdict, bad, good, on, on_two, unjudged, wants, wants_some, where_so}
use Rattle.gno_typing.specs.declared.fault.Fault.{Fault}

module _ {A B : Type 0} (R : A → B → Type 0) where
  pub gives : (old : Option Fault) (a : A) (b : B) → R a b → Answers (good b) R old old (Some a)
  gives old a b r = record { verdict = record { form = Some b; faults = [] }; judged = refl; stands = both.some r; notes = refl }

  pub gives_nothing : (old : Option Fault) → Answers unjudged R old old None
  gives_nothing old = record { verdict = record { form = None; faults = [] }; judged = refl; stands = both.none; notes = refl }

  pub refuses : (code : ℕ) (at : Pos) (old new : Option Fault) → new ≡ noted old (record { code = code; pos = at } ∷ []) → Answers (bad code at) R old new None
  refuses code at old new e = record { verdict = record { form = None; faults = record { code = code; pos = at } ∷ [] }; judged = refl; stands = both.none; notes = e }

  -- premises
  pub holds : (P : Type 0) (code : ℕ) (at : Pos) (J : Verdict B → Type 0) (old new : Option Fault) (x : Option A) → P → Answers J R old new x → Answers (wants P code at J) R old new x
  holds P code at J old new x p h = record { verdict = h.verdict; judged = inl (p, h.judged); stands = h.stands; notes = h.notes }

  pub fails : (P : Type 0) (code : ℕ) (at : Pos) (J : Verdict B → Type 0) (old new : Option Fault) → (P → ⊥) → new ≡ noted old (record { code = code; pos = at } ∷ []) → Answers (wants P code at J) R old new None
  fails P code at J old new p e = record { verdict = record { form = None; faults = record { code = code; pos = at } ∷ [] }; judged = inr (p, refl); stands = both.none; notes = e }

  pub finds : {C : Type 0} (P : C → Type 0) (code : ℕ) (at : Pos) (J : C → Verdict B → Type 0) (old new : Option Fault) (x : Option A) (c : C) → P c → Answers (J c) R old new x → Answers (wants_some P code at J) R old new x
  finds P code at J old new x c p h = record { verdict = h.verdict; judged = inl (c, p, h.judged); stands = h.stands; notes = h.notes }

  pub finds_none : {C : Type 0} (P : C → Type 0) (code : ℕ) (at : Pos) (J : C → Verdict B → Type 0) (old new : Option Fault) → ((c : C) → P c → ⊥) → new ≡ noted old (record { code = code; pos = at } ∷ []) → Answers (wants_some P code at J) R old new None
  finds_none P code at J old new p e = record { verdict = record { form = None; faults = record { code = code; pos = at } ∷ [] }; judged = inr (p, refl); stands = both.none; notes = e }

  pub is_so : (P : Type 0) (J K : Verdict B → Type 0) (old new : Option Fault) (x : Option A) → P → Answers J R old new x → Answers (where_so P J K) R old new x
  is_so P J K old new x p h = record { verdict = h.verdict; judged = inl (p, h.judged); stands = h.stands; notes = h.notes }

  pub is_not_so : (P : Type 0) (J K : Verdict B → Type 0) (old new : Option Fault) (x : Option A) → (P → ⊥) → Answers K R old new x → Answers (where_so P J K) R old new x
  is_not_so P J K old new x p h = record { verdict = h.verdict; judged = inr (p, h.judged); stands = h.stands; notes = h.notes }

-- a part, and what is judged behind it
module _ {A B C D : Type 0} (R : A → B → Type 0) (S : C → D → Type 0) (J : Verdict B → Type 0) (go : B → Verdict D → Type 0) (old mid new : Option Fault) where
  joined : (y : Option C) (part : Verdict B) → J part → mid ≡ noted old part.faults → (rest : Verdict D) → on go part.form rest → BothStand S y rest.form → new ≡ noted mid rest.faults → Answers (After J go) S old new y
  joined y part j e rest g s d = record {
    verdict = record { form = rest.form; faults = part.faults ++ rest.faults };
    judged = record { part = part; judged = j; rest = rest; goes_on = g; form = refl; faults = refl };
    stands = s;
    notes = d ∙ ap (λ n. noted n rest.faults) e ∙ sym (noted_append old part.faults rest.faults);
  }

  after_by : (y : Option C) (a : A) (form : Option B) (fs : List Fault) → J (record { form = form; faults = fs }) → mid ≡ noted old fs → BothStand R (Some a) form → ((b : B) → R a b → Answers (go b) S mid new y) → Answers (After J go) S old new y
  after_by y a _ fs j e (both.some {b = b} r) k = let h = k b r in joined y (record { form = Some b; faults = fs }) j e h.verdict h.judged h.stands h.notes

  pub after : (y : Option C) (a : A) → Answers J R old mid (Some a) → ((b : B) → R a b → Answers (go b) S mid new y) → Answers (After J go) S old new y
  after y a h k = after_by y a h.verdict.form h.verdict.faults h.judged h.notes h.stands k

  -- where what is behind it may fail for want of memory
  pub after_ok : {E : Type 0} (res : Result (Option C) E) (a : A) → Answers J R old mid (Some a) → ((b : B) → R a b → IfOk res (λ y. Answers (go b) S mid new y)) → IfOk res (λ y. Answers (After J go) S old new y)
  after_ok (Ok y) a h k = after y a h k
  after_ok (Err e) a h k = tt

module _ {A B C D : Type 0} (R : A → B → Type 0) (S : C → D → Type 0) (J : Verdict B → Type 0) (go : B → Verdict D → Type 0) (old new : Option Fault) where
  after_none_by : (form : Option B) (fs : List Fault) → J (record { form = form; faults = fs }) → new ≡ noted old fs → BothStand R None form → Answers (After J go) S old new None
  after_none_by _ fs j e both.none = joined R S J go old new new None (record { form = None; faults = fs }) j e (record { form = None; faults = [] }) refl both.none refl

  pub after_none : Answers J R old new None → Answers (After J go) S old new None
  after_none h = after_none_by h.verdict.form h.verdict.faults h.judged h.notes h.stands

-- two parts, and what is judged behind them
module _ {A B C D E F : Type 0} (R : A → B → Type 0) (Q : C → D → Type 0) (S : E → F → Type 0) (J : Verdict B → Type 0) (K : Verdict D → Type 0) (go : B → D → Verdict F → Type 0) (old mid late new : Option Fault) where
  joined_both : (z : Option E) (left : Verdict B) → J left → mid ≡ noted old left.faults → (right : Verdict D) → K right → late ≡ noted mid right.faults → (rest : Verdict F) → on_two go left.form right.form rest → BothStand S z rest.form → new ≡ noted late rest.faults → Answers (AfterBoth J K go) S old new z
  joined_both z left j e right k d rest g s c = record {
    verdict = record { form = rest.form; faults = left.faults ++ (right.faults ++ rest.faults) };
    judged = record { left = left; left_judged = j; right = right; right_judged = k; rest = rest; goes_on = g; form = refl; faults = refl };
    stands = s;
    notes = c ∙ ap (λ n. noted n rest.faults) (d ∙ ap (λ n. noted n right.faults) e) ∙ sym (noted_append (noted old left.faults) right.faults rest.faults) ∙ sym (noted_append old left.faults (right.faults ++ rest.faults));
  }

  after_both_by : (z : Option E) (a : A) (c : C) (x : Option B) (fs : List Fault) (y : Option D) (gs : List Fault) → J (record { form = x; faults = fs }) → mid ≡ noted old fs → BothStand R (Some a) x → K (record { form = y; faults = gs }) → late ≡ noted mid gs → BothStand Q (Some c) y
      → ((b : B) (d : D) → R a b → Q c d → Answers (go b d) S late new z) → Answers (AfterBoth J K go) S old new z
  after_both_by z a c _ fs _ gs j e (both.some {b = b} r) k d (both.some {b = y} q) go_on = let h = go_on b y r q in joined_both z (record { form = Some b; faults = fs }) j e (record { form = Some y; faults = gs }) k d h.verdict h.judged h.stands h.notes

  pub after_both : (z : Option E) (a : A) (c : C) → Answers J R old mid (Some a) → Answers K Q mid late (Some c) → ((b : B) (d : D) → R a b → Q c d → Answers (go b d) S late new z) → Answers (AfterBoth J K go) S old new z
  after_both z a c h k go_on = after_both_by z a c h.verdict.form h.verdict.faults k.verdict.form k.verdict.faults h.judged h.notes h.stands k.judged k.notes k.stands go_on

module _ {A B C D E F : Type 0} (R : A → B → Type 0) (Q : C → D → Type 0) (S : E → F → Type 0) (J : Verdict B → Type 0) (K : Verdict D → Type 0) (go : B → D → Verdict F → Type 0) (old mid new : Option Fault) where
  left_none_by : (x : Option B) (fs : List Fault) → J (record { form = x; faults = fs }) → mid ≡ noted old fs → BothStand R None x → (right : Verdict D) → K right → new ≡ noted mid right.faults → Answers (AfterBoth J K go) S old new None
  left_none_by _ fs j e both.none right k d = joined_both R Q S J K go old mid new new None (record { form = None; faults = fs }) j e right k d (record { form = None; faults = [] }) refl both.none refl

  pub left_none : (c : Option C) → Answers J R old mid None → Answers K Q mid new c → Answers (AfterBoth J K go) S old new None
  left_none c h k = left_none_by h.verdict.form h.verdict.faults h.judged h.notes h.stands k.verdict k.judged k.notes

  right_none_by : (x : Option B) (fs : List Fault) (y : Option D) (gs : List Fault) → J (record { form = x; faults = fs }) → mid ≡ noted old fs → K (record { form = y; faults = gs }) → new ≡ noted mid gs → BothStand Q None y → Answers (AfterBoth J K go) S old new None
  right_none_by None fs _ gs j e k d both.none = joined_both R Q S J K go old mid new new None (record { form = None; faults = fs }) j e (record { form = None; faults = gs }) k d (record { form = None; faults = [] }) refl both.none refl
  right_none_by (Some x) fs _ gs j e k d both.none = joined_both R Q S J K go old mid new new None (record { form = Some x; faults = fs }) j e (record { form = None; faults = gs }) k d (record { form = None; faults = [] }) refl both.none refl

  pub right_none : (a : Option A) → Answers J R old mid a → Answers K Q mid new None → Answers (AfterBoth J K go) S old new None
  right_none a h k = right_none_by h.verdict.form h.verdict.faults k.verdict.form k.verdict.faults h.judged h.notes k.judged k.notes k.stands
