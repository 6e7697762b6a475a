-- What the rows of a table say of whether terms are lawful.
use Rattle.std.proofs.Common.{◌≡◌, refl, ap, sym, subst, ◌∙◌, true≢false, ℕ, zero, suc, ◌+◌, ◌-◌, ◌≤◌, ◌<◌, Bool, true, false, arith, List, [], ◌∷◌, map, length, get_or, drop, Ok, Err}
use Rattle.std.specs.Prelude.{IsTrue, ◌↔◌, IfOk}
use Rattle.std.specs.declared.result.Result.{Result}
use Rattle.std.specs.declared.alloc.AllocError.{AllocError}
use Rattle.std.proofs.Math.Seq.{drop-cons}
use Rattle.std.proofs.lemmas.List.{drop_all}
use Rattle.gno_terms.specs.declared.term.GoType.{GoType}
use Rattle.gno_terms.specs.declared.term.TypeRef.{TypeRef}
use Rattle.gno_terms.specs.declared.term.TermOf.{TermOf}
use Rattle.gno_terms.specs.declared.term.TermOf.TheVariants as t
use Rattle.gno_terms.specs.declared.term.FieldOf.{FieldOf}
use Rattle.gno_terms.specs.declared.term.MethodOf.{MethodOf}
use Rattle.gno_terms.specs.Lawful.{Each, Last, IsLawful, IsLawfulField, IsLawfulMethod, IsTyped, is_function, is_slice, is_untyped}
use Rattle.gno_terms.specs.Tables.{Table, Is, deep, type_at, type_or}
use Rattle.gno_terms.specs.Terms.{term_of, term_with, parts, field_of, field_with, method_with}
use Rattle.gno_terms.proofs.Layers.{term_of-type_of}
use Rattle.gno_terms.proofs.Parts.{Each-left, Each-right}
use Rattle.gno_type_reading.specs.Known.{Known, IsOwnedName, IsOwnedMethod}
use Rattle.gno_type_reading.proofs.Standing.{known_at}

-- ---- rows

pub form_at : (table : Table) (r : TypeRef) (x : TermOf TypeRef) → Is table r (deep table.types x) → term_of (type_at table.types r) ≡ term_with (type_at table.types) x
form_at table r x h = ap (λ o. term_of (type_or o)) h ∙ term_of-type_of (term_with (type_at table.types) x)

pub no_function : {A : Type 0} (f : TypeRef → A) (x : TermOf TypeRef) → ((ps : List TypeRef) (v : Bool) (rs : List TypeRef) → x ≡ t.Function ps v rs → ⊥) → is_function (term_with f x) ≡ false
no_function f (t.Function ps v rs) other = absurd (other ps v rs refl)
no_function f _ other = refl

pub no_slice : {A : Type 0} (f : TypeRef → A) (x : TermOf TypeRef) → ((r : TypeRef) → x ≡ t.Slice r → ⊥) → is_slice (term_with f x) ≡ false
no_slice f (t.Slice r) other = absurd (other r refl)
no_slice f _ other = refl

-- ---- lists

pub each_at : {A : Type 0} (P : A → Type 0) (xs : List A) (i : ℕ) (d : A) → i < length xs → Each P xs → P (get_or xs i d)
each_at P [] i d w h = absurd (omega (arith, w))
each_at P (x ∷ xs) zero d w h = h.0
each_at P (x ∷ xs) (suc i) d w h = each_at P xs i d (omega (arith, w)) h.1

-- the first ones hold
pub record Rest {A : Type 0} (P : A → Type 0) (xs : List A) (i : ℕ) : Type 0 where
  pub all : Each P (drop i xs) → Each P xs
  pub rest : Each P xs → Each P (drop i xs)

pub rest_starts : {A : Type 0} (P : A → Type 0) (xs : List A) → Rest P xs 0
rest_starts P xs = record { all = λ h. h; rest = λ h. h }

pub rest_goes : {A : Type 0} (P : A → Type 0) (xs : List A) (i : ℕ) (d : A) → i < length xs → P (get_or xs i d) → Rest P xs i → Rest P xs (i + 1)
rest_goes P xs i d w p r =
    let next : suc i ≡ i + 1 = omega arith in
    let e : drop i xs ≡ get_or xs i d ∷ drop (i + 1) xs = drop-cons xs i d w ∙ ap (λ n. get_or xs i d ∷ drop n xs) next in
    record { all = λ h. r.all (subst (Each P) (sym e) (p, h)); rest = λ h. (subst (Each P) e (r.rest h)).1 }

pub rest_fails : {A : Type 0} (P : A → Type 0) (xs : List A) (i : ℕ) (d : A) → i < length xs → (P (get_or xs i d) → ⊥) → IsTrue false ↔ Each P xs
rest_fails P xs i d w wrong = (λ h. absurd (true≢false (sym h)), λ h. absurd (wrong (each_at P xs i d w h)))

pub rest_ends : {A : Type 0} (P : A → Type 0) (xs : List A) (i : ℕ) → length xs ≤ i → Rest P xs i → IsTrue true ↔ Each P xs
rest_ends P xs i w r = (λ h. r.all (subst (Each P) (sym (drop_all i xs w)) tt), λ h. refl)

pub last_at : {A B : Type 0} (P : B → Type 0) (f : A → B) (xs : List A) (d : A) → 0 < length xs → Last P (map f xs) ↔ P (f (get_or xs (length xs - 1) d))
last_at P f [] d w = absurd (omega (arith, w))
last_at P f (x ∷ []) d w = (λ h. h, λ h. h)
last_at P f (x ∷ y ∷ ys) d w =
    let e : length (x ∷ y ∷ ys) - 1 ≡ suc (length (y ∷ ys) - 1) = omega arith in
    subst (λ (n : ℕ). Last P (map f (y ∷ ys)) ↔ P (f (get_or (x ∷ y ∷ ys) n d))) (sym e) (last_at P f (y ∷ ys) d (omega arith))

-- ---- terms

pub if_ok : {P Q : Type 0} (r : Result Bool AllocError) → IfOk r (λ yes. IsTrue yes ↔ P) → ((b : Bool) → (IsTrue b ↔ P) → IsTrue b ↔ Q) → IfOk r (λ yes. IsTrue yes ↔ Q)
if_ok (Ok b) h f = f b h
if_ok (Err e) h f = tt

module _ (table : Table) where
  abbrev f : TypeRef → GoType
  f = type_at table.types

  typed_at : (r : TypeRef) → Known table r → IsTyped (f r)
  typed_at r k = subst IsTyped (sym (known_at table r k)) k.typed

  typed_all : (rs : List TypeRef) → Each (Known table) rs → Each IsTyped (map f rs)
  typed_all [] h = tt
  typed_all (r ∷ rs) h = (typed_at r h.0, typed_all rs h.1)

  -- the term is lawful, and not untyped
  abbrev pub MayBe : TermOf TypeRef → Type 0
  MayBe x = IsLawful (term_with f x) × (is_untyped x ≡ false)

  pub is_lawful : (x y : TermOf TypeRef) (P : Type 0) (b : Bool) → x ≡ y → (IsTrue b ↔ P) → (Each (Known table) (parts y) → P → MayBe y) → (MayBe y → P) → Each (Known table) (parts x) → IsTrue b ↔ MayBe x
  is_lawful x y P b e test to from known =
      (λ h. subst MayBe (sym e) (to (subst (λ (z : TermOf TypeRef). Each (Known table) (parts z)) e known) (test.0 h)), λ h. test.1 (from (subst MayBe e h)))

  pub function_lawful : (ps : List TypeRef) (v : Bool) (rs : List TypeRef) → Each (Known table) (parts (t.Function ps v rs)) → (v ≡ true → Last (λ s. is_slice (term_of s) ≡ true) (map f ps)) → MayBe (t.Function ps v rs)
  function_lawful ps v rs known last = (record { params = typed_all ps (Each-left (Known table) ps rs known); results = typed_all rs (Each-right (Known table) ps rs known); last = last }, refl)

  pub struct_lawful : (fs : List (FieldOf TypeRef)) → Each (Known table) (parts (t.Struct fs)) → Each (λ x. IsOwnedName x.name x.«package») fs → MayBe (t.Struct fs)
  struct_lawful fs known names = (all fs known names, refl)
    where
      all : (fs : List (FieldOf TypeRef)) → Each (Known table) (map field_of fs) → Each (λ x. IsOwnedName x.name x.«package») fs → Each IsLawfulField (map (field_with f) fs)
      all [] k n = tt
      all (x ∷ fs) k n = (record { name = n.0.0; owned = n.0.1; typed = typed_at x.of k.0 }, all fs k.1 n.1)

  pub struct_names : (fs : List (FieldOf TypeRef)) → Each IsLawfulField (map (field_with f) fs) → Each (λ x. IsOwnedName x.name x.«package») fs
  struct_names [] h = tt
  struct_names (x ∷ fs) h = ((h.0.name, h.0.owned), struct_names fs h.1)

  pub methods_lawful : (ms : List (MethodOf TypeRef)) → Each (IsOwnedMethod table.types) ms → Each IsLawfulMethod (map (method_with f) ms)
  methods_lawful [] h = tt
  methods_lawful (m ∷ ms) h = (record { name = h.0.0.0; owned = h.0.0.1; function = h.0.1; no_pointer = h.0.2 }, methods_lawful ms h.1)

  pub methods_owned : (ms : List (MethodOf TypeRef)) → Each IsLawfulMethod (map (method_with f) ms) → Each (IsOwnedMethod table.types) ms
  methods_owned [] h = tt
  methods_owned (m ∷ ms) h = (((h.0.name, h.0.owned), h.0.function, h.0.no_pointer), methods_owned ms h.1)
