-- A rule that is put together of rules that allow one verdict allows one.
use Rattle.std.proofs.Common.{◌≡◌, sym, ap, ◌∙◌, subst, ℕ, List, [], ◌∷◌, ◌++◌, Option, Some, None, option_map, inl, inr, ◌⊎◌}
use Rattle.gno_scan.specs.declared.token.Pos.{Pos}
use Rattle.gno_typing.specs.Laws.{HasOne}
use Rattle.gno_typing.specs.Lists.{AreJudged, AreKept, where_found}
use Rattle.gno_typing.specs.Lists.{AreJudged as j}
use Rattle.gno_typing.specs.Lists.{AreKept as k}
use Rattle.gno_typing.specs.Slices.{AfterBounds, Bounds, maybe, on_bounds}
use Rattle.gno_typing.specs.Verdicts.{Verdict, After, AfterBoth, good, bad, unjudged, wants, wants_some, where_so, on, on_two}
use Rattle.gno_typing.specs.Giving.{both}

-- a verdict is its form and its faults
pub same_verdict : {A : Type 0} (v w : Verdict A) → v.form ≡ w.form → v.faults ≡ w.faults → v ≡ w
same_verdict v w form faults = ap (λ x. record { form = x; faults = v.faults }) form ∙ ap (λ x. record { form = w.form; faults = x }) faults

pub good_one : {A : Type 0} (a : A) → HasOne (good a)
good_one a v w is also = is ∙ sym also

pub bad_one : {A : Type 0} (code : ℕ) (pos : Pos) → HasOne (bad {A = A} code pos)
bad_one code pos v w is also = is ∙ sym also

pub unjudged_one : {A : Type 0} → HasOne (unjudged {A = A})
unjudged_one v w is also = is ∙ sym also

-- each of two cases has one, and they exclude one another
pub where_one : {A : Type 0} (P : Type 0) (J K : Verdict A → Type 0) → HasOne J → HasOne K → HasOne (where_so P J K)
where_one P J K h k v w (inl (holds, judged)) (inl (also, judged_too)) = h v w judged judged_too
where_one P J K h k v w (inl (holds, judged)) (inr (fails, judged_too)) = absurd (fails holds)
where_one P J K h k v w (inr (fails, judged)) (inl (holds, judged_too)) = absurd (fails holds)
where_one P J K h k v w (inr (fails, judged)) (inr (also, judged_too)) = k v w judged judged_too

pub wants_one : {A : Type 0} (P : Type 0) (code : ℕ) (pos : Pos) (J : Verdict A → Type 0) → HasOne J → HasOne (wants P code pos J)
wants_one P code pos J h = where_one P J (bad code pos) h (bad_one code pos)

-- one thing is found at most
abbrev pub Once : {B : Type 0} → (B → Type 0) → Type 0
Once {B = B} P = (b c : B) → P b → P c → b ≡ c

-- what is found decides, and where nothing is found something else does
abbrev pub found_or : {A B : Type 0} → (B → Type 0) → (B → Verdict A → Type 0) → (Verdict A → Type 0) → Verdict A → Type 0
found_or P J K v = ((b : _) × P b × J b v) ⊎ (((b : _) → P b → ⊥) × K v)

pub found_one : {A B : Type 0} (P : B → Type 0) (J : B → Verdict A → Type 0) (K : Verdict A → Type 0) → Once P → ((b : B) → HasOne (J b)) → HasOne K → HasOne (found_or P J K)
found_one P J K once h k v w (inl (b, is, judged)) (inl (c, also, judged_too)) = h b v w judged (subst (λ x. J x w) (sym (once b c is also)) judged_too)
found_one P J K once h k v w (inl (b, is, judged)) (inr (none, judged_too)) = absurd (none b is)
found_one P J K once h k v w (inr (none, judged)) (inl (b, is, judged_too)) = absurd (none b is)
found_one P J K once h k v w (inr (none, judged)) (inr (also, judged_too)) = k v w judged judged_too

pub some_one : {A B : Type 0} (P : B → Type 0) (code : ℕ) (pos : Pos) (J : B → Verdict A → Type 0) → Once P → ((b : B) → HasOne (J b)) → HasOne (wants_some P code pos J)
some_one P code pos J once h = found_one P J (bad code pos) once h (bad_one code pos)

-- the same of two things
pub found_two : {A B C : Type 0} (P : B → C → Type 0) (J : B → C → Verdict A → Type 0) (K : Verdict A → Type 0) → ((b d : B) (c e : C) → P b c → P d e → (b ≡ d) × (c ≡ e)) → ((b : B) (c : C) → HasOne (J b c)) → HasOne K
    → HasOne (λ v. ((b : B) × (c : C) × P b c × J b c v) ⊎ (((b : B) (c : C) → P b c → ⊥) × K v))
found_two P J K once h k v w (inl (b, c, is, judged)) (inl (d, e, also, judged_too)) =
    let same = once b d c e is also in
    h b c v w judged (subst (λ x. J b x w) (sym same.1) (subst (λ x. J x e w) (sym same.0) judged_too))
found_two P J K once h k v w (inl (b, c, is, judged)) (inr (none, judged_too)) = absurd (none b c is)
found_two P J K once h k v w (inr (none, judged)) (inl (b, c, is, judged_too)) = absurd (none b c is)
found_two P J K once h k v w (inr (none, judged)) (inr (also, judged_too)) = k v w judged judged_too

pub on_one : {A B : Type 0} (go : A → Verdict B → Type 0) → ((a : A) → HasOne (go a)) → (x : Option A) → HasOne (on go x)
on_one go h None = unjudged_one
on_one go h (Some a) = h a

pub on_two_one : {A B C : Type 0} (go : A → B → Verdict C → Type 0) → ((a : A) (b : B) → HasOne (go a b)) → (x : Option A) (y : Option B) → HasOne (on_two go x y)
on_two_one go h (Some a) (Some b) = h a b
on_two_one go h None y = unjudged_one
on_two_one go h (Some a) None = unjudged_one

pub after_one : {A B : Type 0} (J : Verdict A → Type 0) (go : A → Verdict B → Type 0) → HasOne J → ((a : A) → HasOne (go a)) → HasOne (After J go)
after_one J go h k v w it also =
    let part = h it.part also.part it.judged also.judged in
    let rest = on_one go k also.part.form it.rest also.rest (subst (λ p. on go p.form it.rest) part it.goes_on) also.goes_on in
    same_verdict v w (it.form ∙ ap (λ r. r.form) rest ∙ sym also.form) (it.faults ∙ ap (λ p. p.faults ++ it.rest.faults) part ∙ ap (λ r. also.part.faults ++ r.faults) rest ∙ sym also.faults)

pub after_both_one : {A B C : Type 0} (J : Verdict A → Type 0) (K : Verdict B → Type 0) (go : A → B → Verdict C → Type 0) → HasOne J → HasOne K → ((a : A) (b : B) → HasOne (go a b)) → HasOne (AfterBoth J K go)
after_both_one J K go h k m v w it also =
    let left = h it.left also.left it.left_judged also.left_judged in
    let right = k it.right also.right it.right_judged also.right_judged in
    let goes = subst (λ r. on_two go also.left.form r.form it.rest) right (subst (λ l. on_two go l.form it.right.form it.rest) left it.goes_on) in
    let rest = on_two_one go m also.left.form also.right.form it.rest also.rest goes also.goes_on in
    same_verdict v w (it.form ∙ ap (λ r. r.form) rest ∙ sym also.form)
    (it.faults ∙ ap (λ l. l.faults ++ (it.right.faults ++ it.rest.faults)) left ∙ ap (λ r. also.left.faults ++ (r.faults ++ it.rest.faults)) right ∙ ap (λ r. also.left.faults ++ (also.right.faults ++ r.faults)) rest ∙ sym also.faults)

maybe_one : {A B : Type 0} (go : A → Verdict B → Type 0) → ((a : A) → HasOne (go a)) → (x : Option A) → HasOne (maybe go x)
maybe_one go h None = good_one None
maybe_one go h (Some a) = after_one (go a) _ (h a) (λ y. good_one (Some y))

on_bounds_one : {B C : Type 0} (go : Bounds B → Verdict C → Type 0) → ((b : Bounds B) → HasOne (go b)) → (x y z : Option (Option B)) → HasOne (on_bounds go x y z)
on_bounds_one go h (Some x) (Some y) (Some z) = h _
on_bounds_one go h None y z = unjudged_one
on_bounds_one go h (Some x) None z = unjudged_one
on_bounds_one go h (Some x) (Some y) None = unjudged_one

pub after_bounds_one : {A B C : Type 0} (bound : A → Verdict B → Type 0) (bounds : Bounds A) (go : Bounds B → Verdict C → Type 0) → ((a : A) → HasOne (bound a)) → ((b : Bounds B) → HasOne (go b)) → HasOne (AfterBounds bound bounds go)
after_bounds_one bound bounds go h k v w it also =
    let low = maybe_one bound h bounds.low it.low also.low it.low_judged also.low_judged in
    let high = maybe_one bound h bounds.high it.high also.high it.high_judged also.high_judged in
    let max = maybe_one bound h bounds.max it.max also.max it.max_judged also.max_judged in
    let goes = subst (λ x. on_bounds go also.low.form also.high.form x.form it.rest) max (subst (λ x. on_bounds go also.low.form x.form it.max.form it.rest) high (subst (λ x. on_bounds go x.form it.high.form it.max.form it.rest) low it.goes_on)) in
    let rest = on_bounds_one go k also.low.form also.high.form also.max.form it.rest also.rest goes also.goes_on in
    same_verdict v w (it.form ∙ ap (λ r. r.form) rest ∙ sym also.form)
    (it.faults ∙ ap (λ x. x.faults ++ (it.high.faults ++ (it.max.faults ++ it.rest.faults))) low ∙ ap (λ x. also.low.faults ++ (x.faults ++ (it.max.faults ++ it.rest.faults))) high
    ∙ ap (λ x. also.low.faults ++ (also.high.faults ++ (x.faults ++ it.rest.faults))) max ∙ ap (λ x. also.low.faults ++ (also.high.faults ++ (also.max.faults ++ x.faults))) rest ∙ sym also.faults)

-- ---- lists

abbrev JudgedBy : {A B : Type 0} (J : A → Verdict B → Type 0) → List A → Verdict (List B) → Type 0
JudgedBy {B = B} J [] y = y ≡ record { form = Some []; faults = [] }
JudgedBy {B = B} J (x ∷ xs) y = (v : Verdict B) × (w : Verdict (List B)) × J x v × AreJudged J xs w × (y ≡ both (λ b bs. b ∷ bs) v w)

judged_by : {A B : Type 0} (J : A → Verdict B → Type 0) {xs : List A} {y : Verdict (List B)} → AreJudged J xs y → JudgedBy J xs y
judged_by J (j.none is) = is
judged_by J (j.more v w first rest is) = (v, w, first, rest, is)

pub judged_one : {A B : Type 0} (J : A → Verdict B → Type 0) → ((a : A) → HasOne (J a)) → (xs : List A) → HasOne (AreJudged J xs)
judged_one J h [] v w it also = judged_by J it ∙ sym (judged_by J also)
judged_one J h (x ∷ xs) v w it also =
    let a = judged_by J it in let b = judged_by J also in
    a.4 ∙ ap (λ z. both (λ b bs. b ∷ bs) z a.1) (h x a.0 b.0 a.2 b.2) ∙ ap (both (λ b bs. b ∷ bs) b.0) (judged_one J h xs a.1 b.1 a.3 b.3) ∙ sym b.4

pub where_found_one : {A B : Type 0} (J : A → Verdict B → Type 0) → ((a : A) → HasOne (J a)) → (x : Option A) → HasOne (where_found J x)
where_found_one J h None = unjudged_one
where_found_one J h (Some a) = h a

abbrev kept : {B : Type 0} → Verdict B → Verdict (List (Option B)) → Verdict (List (Option B))
kept v w = record { form = option_map (λ bs. v.form ∷ bs) w.form; faults = v.faults ++ w.faults }

abbrev KeptBy : {A B : Type 0} (J : A → Verdict B → Type 0) → List (Option A) → Verdict (List (Option B)) → Type 0
KeptBy {B = B} J [] y = y ≡ record { form = Some []; faults = [] }
KeptBy {B = B} J (x ∷ xs) y = (v : Verdict B) × (w : Verdict (List (Option B))) × where_found J x v × AreKept J xs w × (y ≡ kept v w)

kept_by : {A B : Type 0} (J : A → Verdict B → Type 0) {xs : List (Option A)} {y : Verdict (List (Option B))} → AreKept J xs y → KeptBy J xs y
kept_by J (k.none is) = is
kept_by J (k.more v w first rest is) = (v, w, first, rest, is)

pub kept_one : {A B : Type 0} (J : A → Verdict B → Type 0) → ((a : A) → HasOne (J a)) → (xs : List (Option A)) → HasOne (AreKept J xs)
kept_one J h [] v w it also = kept_by J it ∙ sym (kept_by J also)
kept_one J h (x ∷ xs) v w it also =
    let a = kept_by J it in let b = kept_by J also in
    a.4 ∙ ap (λ z. kept z a.1) (where_found_one J h x a.0 b.0 a.2 b.2) ∙ ap (kept b.0) (kept_one J h xs a.1 b.1 a.3 b.3) ∙ sym b.4
