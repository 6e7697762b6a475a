-- The fault that is told is the first at the least place.
use Rattle.std.proofs.Common.{ℕ, ◌≡◌, ◌≢◌, refl, sym, ap, ◌∙◌, subst, List, [], ◌∷◌, ◌++◌, Bool, true, false, if◌then◌else◌, nat_eq, nat_lt, Some, None, inl, inr, ◌⊎◌, ◌<◌, ◌≤◌, rules}
use Rattle.std.proofs.lemmas.Bool.{ltb-true, ltb-false}
use Rattle.std.proofs.lemmas.Bool.Decides.{eqb_tells}
use Rattle.std.proofs.Math.Nat.{lt_irrefl, lt_of_le_of_lt, lt_trans}
use Rattle.std.proofs.Math.Numerals.{lt_of_le_of_ne}
use Rattle.std.proofs.lemmas.Option.{same_Some}
use Rattle.gno_judging.specs.Noting.{AllPast, IsLeast, IsPast, NonePast, is_before, noted, sooner}
use Rattle.gno_scan.specs.declared.token.Pos.{Pos}
use Rattle.gno_typing.specs.declared.fault.Fault.{Fault}

-- ---- one part of a place

abbrev part : ℕ → ℕ → Bool → Bool
part x y rest = if nat_eq x y then rest else nat_lt x y

abbrev Past : ℕ → ℕ → Type 0 → Type 0
Past x y R = (x < y) ⊎ ((x ≡ y) × R)

choose : (x y : ℕ) (rest b : Bool) → nat_eq x y ≡ b → part x y rest ≡ (if b then rest else nat_lt x y)
choose x y rest b e = ap (λ c. if c then rest else nat_lt x y) e

part_true : (x y : ℕ) (rest : Bool) → part x y rest ≡ true → Past x y (rest ≡ true)
part_true x y rest e = by (eqb_tells x y)
  where
    by : ((nat_eq x y ≡ true) × (x ≡ y)) ⊎ ((nat_eq x y ≡ false) × (x ≢ y)) → Past x y (rest ≡ true)
    by (inl (t, same)) = inr (same, sym (choose x y rest true t) ∙ e)
    by (inr (f, apart)) = inl (ltb-true x y (sym (choose x y rest false f) ∙ e))

part_false : (x y : ℕ) (rest : Bool) → part x y rest ≡ false → Past y x (rest ≡ false)
part_false x y rest e = by (eqb_tells x y)
  where
    by : ((nat_eq x y ≡ true) × (x ≡ y)) ⊎ ((nat_eq x y ≡ false) × (x ≢ y)) → Past y x (rest ≡ false)
    by (inl (t, same)) = inr (sym same, sym (choose x y rest true t) ∙ e)
    by (inr (f, apart)) = inl (lt_of_le_of_ne (ltb-false x y (sym (choose x y rest false f) ∙ e)) (λ d. apart (sym d)))

chain : {x y z : ℕ} {P Q R : Type 0} → Past x y P → Past y z Q → (P → Q → R) → Past x z R
chain (inl l) (inl k) go = inl (lt_trans l k)
chain {x} (inl l) (inr (e, q)) go = inl (subst (λ n. x < n) e l)
chain {z = z} (inr (e, p)) (inl k) go = inl (subst (λ n. n < z) (sym e) k)
chain (inr (e, p)) (inr (d, q)) go = inr (e ∙ d, go p q)

never : {x : ℕ} {R : Type 0} → Past x x R → (R → ⊥) → ⊥
never {x} (inl l) go = lt_irrefl x l
never (inr (e, r)) go = go r

-- ---- places

-- a place is not past another one
pub record AtMost (a b : Pos) : Type 0 where
  pub place : (a.file < b.file) ⊎ ((a.file ≡ b.file) × ((a.line < b.line) ⊎ ((a.line ≡ b.line) × (a.column ≤ b.column))))

deeper : {x y : ℕ} {P Q : Type 0} → Past x y P → (P → Q) → Past x y Q
deeper (inl l) go = inl l
deeper (inr (e, p)) go = inr (e, go p)

pub before_is : (a b : Pos) → is_before a b ≡ true → IsPast b a
before_is a b e = record { place = deeper (part_true a.file b.file _ e) (λ d. deeper (part_true a.line b.line _ d) (λ c. ltb-true a.column b.column c)) }

pub not_before : (a b : Pos) → is_before a b ≡ false → AtMost b a
not_before a b e = record { place = deeper (part_false a.file b.file _ e) (λ d. deeper (part_false a.line b.line _ d) (λ c. ltb-false a.column b.column c)) }

pub past_past : (a b c : Pos) → IsPast a b → IsPast b c → IsPast a c
past_past a b c h k = record { place = chain k.place h.place (λ p q. chain p q lt_trans) }

pub past_at_most : (a b c : Pos) → IsPast a b → AtMost c b → IsPast a c
past_at_most a b c h k = record { place = chain k.place h.place (λ p q. chain p q lt_of_le_of_lt) }

pub not_past : (a b : Pos) → AtMost a b → IsPast a b → ⊥
not_past a b h k = never (chain h.place k.place (λ p q. chain p q lt_of_le_of_lt)) (λ p. never p (lt_irrefl a.column))

-- ---- lists

all_past : (a b : Pos) (fs : List Fault) → IsPast a b → AllPast a fs → AllPast b fs
all_past a b [] h k = tt
all_past a b (f ∷ fs) h k = (past_past f.pos a b k.0 h, all_past a b fs h k.1)

past_by : (a b c : Pos) (before : Bool) → is_before b c ≡ before → IsPast a b → (IsPast a c → ⊥) → IsPast c b
past_by a b c true e h k = before_is b c e
past_by a b c false e h k = absurd (k (past_at_most a b c h (not_before b c e)))

none_past : (a b : Pos) (fs : List Fault) → IsPast a b → NonePast a fs → AllPast b fs
none_past a b [] h k = tt
none_past a b (f ∷ fs) h k = (past_by a b f.pos (is_before b f.pos) refl h k.0, none_past a b fs h k.1)

all_both : (a : Pos) (fs gs : List Fault) → AllPast a fs → AllPast a gs → AllPast a (fs ++ gs)
all_both a [] gs h k = k
all_both a (f ∷ fs) gs h k = (h.0, all_both a fs gs h.1 k)

none_both : (a : Pos) (fs gs : List Fault) → NonePast a fs → NonePast a gs → NonePast a (fs ++ gs)
none_both a [] gs h k = k
none_both a (f ∷ fs) gs h k = (h.0, none_both a fs gs h.1 k)

append_append : (fs gs hs : List Fault) → (fs ++ gs) ++ hs ≡ fs ++ (gs ++ hs)
append_append [] gs hs = refl
append_append (f ∷ fs) gs hs = ap (λ xs. f ∷ xs) (append_append fs gs hs)

append_nothing : (fs : List Fault) → fs ++ [] ≡ fs
append_nothing [] = refl
append_nothing (f ∷ fs) = ap (λ xs. f ∷ xs) (append_nothing fs)

-- one more fault
with_one : (g x : Fault) (fs : List Fault) (before : Bool) → is_before x.pos g.pos ≡ before → IsLeast g fs → IsLeast (if before then x else g) (fs ++ x ∷ [])
with_one g x fs true e h = record {
  before = fs;
  behind = [];
  stands = refl;
  earlier = subst (AllPast x.pos) (sym h.stands) (all_both x.pos h.before (g ∷ h.behind) (all_past g.pos x.pos h.before (before_is x.pos g.pos e) h.earlier) (before_is x.pos g.pos e, none_past g.pos x.pos h.behind (before_is x.pos g.pos e) h.later));
  later = tt;
}
with_one g x fs false e h = record {
  before = h.before;
  behind = h.behind ++ x ∷ [];
  stands = ap (λ gs. gs ++ x ∷ []) h.stands ∙ append_append h.before (g ∷ h.behind) (x ∷ []);
  earlier = h.earlier;
  later = none_both g.pos h.behind (x ∷ []) h.later (not_past g.pos x.pos (not_before x.pos g.pos e), tt);
}

told_from : (g : Fault) (fs gs : List Fault) → IsLeast g fs → (f : Fault) → noted (Some g) gs ≡ Some f → IsLeast f (fs ++ gs)
told_from g fs [] h f e = subst (λ (xs : List Fault). IsLeast f xs) (sym (append_nothing fs)) (subst (λ (x : Fault). IsLeast x fs) (same_Some g f e) h)
told_from g fs (x ∷ gs) h f e = subst (λ (xs : List Fault). IsLeast f xs) (append_append fs (x ∷ []) gs) (told_from (sooner (Some g) x) (fs ++ x ∷ []) gs (with_one g x fs (is_before x.pos g.pos) refl h) f e)

first_least : (f : Fault) → IsLeast f (f ∷ [])
first_least f = record { before = []; behind = []; stands = refl; earlier = tt; later = tt }

pub told_is_least : (fs : List Fault) (f : Fault) → noted None fs ≡ Some f → IsLeast f fs
told_is_least [] f e = absurd (search (rules, e))
told_is_least (x ∷ fs) f e = told_from x (x ∷ []) fs (first_least x) f e
