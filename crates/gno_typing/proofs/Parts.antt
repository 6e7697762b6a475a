-- A rule that is put together of rules that give a form or a fault gives one.
use Rattle.std.proofs.Common.{◌≡◌, refl, sym, ap, ◌∙◌, subst, ℕ, List, [], ◌∷◌, ◌++◌, Option, Some, option_map, inl, inr, rules}
use Rattle.gno_scan.specs.declared.token.Pos.{Pos}
use Rattle.gno_typing.specs.declared.fault.Fault.{Fault}
use Rattle.gno_typing.specs.Laws.{HasForm}
use Rattle.gno_typing.specs.Verdicts.{Verdict, After, AfterBoth, good, bad, wants, wants_some, where_so, on, on_two}
use Rattle.gno_typing.specs.Giving.{both, combined, made}

pub no_fault : (f : Fault) (fs : List Fault) → f ∷ fs ≡ [] → ⊥
no_fault f fs e = search (rules, e)

pub front : (xs ys : List Fault) → xs ++ ys ≡ [] → xs ≡ []
front [] ys e = refl
front (x ∷ xs) ys e = absurd (no_fault _ _ e)

pub back : (xs ys : List Fault) → xs ++ ys ≡ [] → ys ≡ []
back [] ys e = e
back (x ∷ xs) ys e = absurd (no_fault _ _ e)

pub good_form : {A : Type 0} (a : A) → HasForm (good a)
good_form a v is none = (a, ap (λ x. x.form) is)

pub bad_form : {A : Type 0} (code : ℕ) (pos : Pos) → HasForm (bad {A = A} code pos)
bad_form code pos v is none = absurd (no_fault _ _ (sym (ap (λ x. x.faults) is) ∙ none))

pub wants_form : {A : Type 0} (P : Type 0) (code : ℕ) (pos : Pos) (J : Verdict A → Type 0) → HasForm J → HasForm (wants P code pos J)
wants_form P code pos J h v (inl (holds, judged)) none = h v judged none
wants_form P code pos J h v (inr (fails, is)) none = bad_form code pos v is none

pub some_form : {A B : Type 0} (P : B → Type 0) (code : ℕ) (pos : Pos) (J : B → Verdict A → Type 0) → ((b : B) → HasForm (J b)) → HasForm (wants_some P code pos J)
some_form P code pos J h v (inl (b, holds, judged)) none = h b v judged none
some_form P code pos J h v (inr (fails, is)) none = bad_form code pos v is none

pub where_form : {A : Type 0} (P : Type 0) (J K : Verdict A → Type 0) → HasForm J → HasForm K → HasForm (where_so P J K)
where_form P J K h k v (inl (holds, judged)) none = h v judged none
where_form P J K h k v (inr (fails, judged)) none = k v judged none

on_form : {A B : Type 0} (go : A → Verdict B → Type 0) → ((a : A) → HasForm (go a)) → (x : Option A) (a : A) → x ≡ Some a → HasForm (on go x)
on_form go h x a is = subst (λ y. HasForm (on go y)) (sym is) (h a)

on_two_form : {A B C : Type 0} (go : A → B → Verdict C → Type 0) → ((a : A) (b : B) → HasForm (go a b)) → (x : Option A) (y : Option B) (a : A) (b : B) → x ≡ Some a → y ≡ Some b → HasForm (on_two go x y)
on_two_form go h x y a b is also = subst (λ z. HasForm (on_two go z y)) (sym is) (subst (λ z. HasForm (on_two go (Some a) z)) (sym also) (h a b))

pub after_form : {A B : Type 0} (J : Verdict A → Type 0) (go : A → Verdict B → Type 0) → HasForm J → ((a : A) → HasForm (go a)) → HasForm (After J go)
after_form J go h k v it none =
    let all : it.part.faults ++ it.rest.faults ≡ [] = sym it.faults ∙ none in
    let a = h it.part it.judged (front it.part.faults it.rest.faults all) in
    let b = on_form go k it.part.form a.0 a.1 it.rest it.goes_on (back it.part.faults it.rest.faults all) in
    (b.0, it.form ∙ b.1)

abbrev pub Formed : {A : Type 0} → Option A → Type 0
Formed {A = A} x = (a : A) × (x ≡ Some a)

pub after_both_whole : {A B C : Type 0} (J : Verdict A → Type 0) (K : Verdict B → Type 0) (go : A → B → Verdict C → Type 0) (v : Verdict C) (it : AfterBoth J K go v) → (it.left.faults ≡ [] → it.right.faults ≡ [] → Formed it.left.form × Formed it.right.form) → ((a : A) (b : B) → HasForm (go a b)) → v.faults ≡ [] → Formed v.form
after_both_whole J K go v it h m none =
    let all : it.left.faults ++ (it.right.faults ++ it.rest.faults) ≡ [] = sym it.faults ∙ none in
    let behind = back it.left.faults (it.right.faults ++ it.rest.faults) all in
    let ab = h (front it.left.faults (it.right.faults ++ it.rest.faults) all) (front it.right.faults it.rest.faults behind) in
    let c = on_two_form go m it.left.form it.right.form ab.0.0 ab.1.0 ab.0.1 ab.1.1 it.rest it.goes_on (back it.right.faults it.rest.faults behind) in
    (c.0, it.form ∙ c.1)

pub after_both_form : {A B C : Type 0} (J : Verdict A → Type 0) (K : Verdict B → Type 0) (go : A → B → Verdict C → Type 0) → HasForm J → HasForm K → ((a : A) (b : B) → HasForm (go a b)) → HasForm (AfterBoth J K go)
after_both_form J K go h k m v it none = after_both_whole J K go v it (λ n o. (h it.left it.left_judged n, k it.right it.right_judged o)) m none

-- a verdict that has a form, if it has no fault
abbrev pub Whole : {A : Type 0} → Verdict A → Type 0
Whole {A = A} v = v.faults ≡ [] → (a : A) × (v.form ≡ Some a)

pub made_whole : {A B : Type 0} (go : A → B) (x : Verdict A) → Whole x → Whole (made go x)
made_whole go x h none = let a = h none in (go a.0, ap (option_map go) a.1)

pub both_whole : {A B C : Type 0} (go : A → B → C) (x : Verdict A) (y : Verdict B) → Whole x → Whole y → Whole (both go x y)
both_whole go x y h k none =
    let a = h (front x.faults y.faults none) in let b = k (back x.faults y.faults none) in
    (go a.0 b.0, ap (λ z. combined go z y.form) a.1 ∙ ap (combined go (Some a.0)) b.1)
