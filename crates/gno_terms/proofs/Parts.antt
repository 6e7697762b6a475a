-- The parts of terms through functions.
use Rattle.std.proofs.Common.{◌≡◌, refl, sym, ap, ap₂, ◌∙◌, List, [], ◌∷◌, ◌++◌, map}
use Rattle.std.proofs.lemmas.List.{map-append, map-id}
use Rattle.std.proofs.lemmas.Simd.{map-map}
use Rattle.gno_terms.specs.declared.term.TermOf.{TermOf}
use Rattle.gno_terms.specs.declared.term.TermOf.TheVariants as t
use Rattle.gno_terms.specs.declared.term.FieldOf.{FieldOf}
use Rattle.gno_terms.specs.declared.term.MethodOf.{MethodOf}
use Rattle.gno_terms.specs.Lawful.{Each}
use Rattle.gno_terms.specs.Terms.{term_with, parts, field_with, field_of, method_with, method_of}

-- ---- each of a list

module _ {A : Type 0} where
  pub Each-append : (P : A → Type 0) (xs ys : List A) → Each P xs → Each P ys → Each P (xs ++ ys)
  Each-append P [] ys h k = k
  Each-append P (x ∷ xs) ys h k = (h.0, Each-append P xs ys h.1 k)

  pub Each-left : (P : A → Type 0) (xs ys : List A) → Each P (xs ++ ys) → Each P xs
  Each-left P [] ys h = tt
  Each-left P (x ∷ xs) ys h = (h.0, Each-left P xs ys h.1)

  pub Each-right : (P : A → Type 0) (xs ys : List A) → Each P (xs ++ ys) → Each P ys
  Each-right P [] ys h = h
  Each-right P (x ∷ xs) ys h = Each-right P xs ys h.1

  pub Each-weaken : (P Q : A → Type 0) → ((x : A) → P x → Q x) → (xs : List A) → Each P xs → Each Q xs
  Each-weaken P Q f [] h = tt
  Each-weaken P Q f (x ∷ xs) h = (f x h.0, Each-weaken P Q f xs h.1)

  pub Each-always : (P : A → Type 0) → ((x : A) → P x) → (xs : List A) → Each P xs
  Each-always P f [] = tt
  Each-always P f (x ∷ xs) = (f x, Each-always P f xs)

module _ {A B : Type 0} (P : B → Type 0) (f : A → B) where
  pub Each-map : (xs : List A) → Each (λ x. P (f x)) xs → Each P (map f xs)
  Each-map [] h = tt
  Each-map (x ∷ xs) h = (h.0, Each-map xs h.1)

  pub Each_before_map : (xs : List A) → Each P (map f xs) → Each (λ x. P (f x)) xs
  Each_before_map [] h = tt
  Each_before_map (x ∷ xs) h = (h.0, Each_before_map xs h.1)

pub map_alike : {A B : Type 0} (f g : A → B) (xs : List A) → Each (λ x. f x ≡ g x) xs → map f xs ≡ map g xs
map_alike f g [] h = refl
map_alike f g (x ∷ xs) h = ap₂ (λ y ys. y ∷ ys) h.0 (map_alike f g xs h.1)

-- ---- terms

module _ {A B : Type 0} (f : A → B) where
  pub parts_with : (x : TermOf A) → parts (term_with f x) ≡ map f (parts x)
  parts_with (t.Basic kind) = refl
  parts_with t.UntypedBool = refl
  parts_with t.UntypedWhole = refl
  parts_with t.UntypedRune = refl
  parts_with t.UntypedText = refl
  parts_with t.UntypedNil = refl
  parts_with t.Error = refl
  parts_with t.Realm = refl
  parts_with (t.Defined path name local) = refl
  parts_with (t.Pointer a) = refl
  parts_with (t.Slice a) = refl
  parts_with (t.Array n a) = refl
  parts_with (t.Map a b) = refl
  parts_with (t.Function ps variadic rs) = sym (map-append f ps rs)
  parts_with (t.Struct fs) = map-map field_of (field_with f) fs ∙ sym (map-map f field_of fs)
  parts_with (t.Interface ms) = map-map method_of (method_with f) ms ∙ sym (map-map f method_of ms)

pub term_with_twice : {A B C : Type 0} (f : B → C) (g : A → B) (x : TermOf A) → term_with f (term_with g x) ≡ term_with (λ a. f (g a)) x
term_with_twice f g (t.Basic kind) = refl
term_with_twice f g t.UntypedBool = refl
term_with_twice f g t.UntypedWhole = refl
term_with_twice f g t.UntypedRune = refl
term_with_twice f g t.UntypedText = refl
term_with_twice f g t.UntypedNil = refl
term_with_twice f g t.Error = refl
term_with_twice f g t.Realm = refl
term_with_twice f g (t.Defined path name local) = refl
term_with_twice f g (t.Pointer a) = refl
term_with_twice f g (t.Slice a) = refl
term_with_twice f g (t.Array n a) = refl
term_with_twice f g (t.Map a b) = refl
term_with_twice f g (t.Function ps variadic rs) = ap₂ (λ qs ss. t.Function qs variadic ss) (map-map f g ps) (map-map f g rs)
term_with_twice f g (t.Struct fs) = ap t.Struct (map-map (field_with f) (field_with g) fs)
term_with_twice f g (t.Interface ms) = ap t.Interface (map-map (method_with f) (method_with g) ms)

module _ {A B : Type 0} (f g : A → B) where
  fields_alike : (fs : List (FieldOf A)) → Each (λ a. f a ≡ g a) (map field_of fs) → map (field_with f) fs ≡ map (field_with g) fs
  fields_alike [] h = refl
  fields_alike (x ∷ fs) h = ap₂ (λ b l. record { name = x.name; «package» = x.«package»; embedded = x.embedded; of = b } ∷ l) h.0 (fields_alike fs h.1)

  methods_alike : (ms : List (MethodOf A)) → Each (λ a. f a ≡ g a) (map method_of ms) → map (method_with f) ms ≡ map (method_with g) ms
  methods_alike [] h = refl
  methods_alike (x ∷ ms) h = ap₂ (λ b l. record { name = x.name; «package» = x.«package»; of = b; pointer = x.pointer } ∷ l) h.0 (methods_alike ms h.1)

  pub term_with_alike : (x : TermOf A) → Each (λ a. f a ≡ g a) (parts x) → term_with f x ≡ term_with g x
  term_with_alike (t.Basic kind) h = refl
  term_with_alike t.UntypedBool h = refl
  term_with_alike t.UntypedWhole h = refl
  term_with_alike t.UntypedRune h = refl
  term_with_alike t.UntypedText h = refl
  term_with_alike t.UntypedNil h = refl
  term_with_alike t.Error h = refl
  term_with_alike t.Realm h = refl
  term_with_alike (t.Defined path name local) h = refl
  term_with_alike (t.Pointer a) h = ap t.Pointer h.0
  term_with_alike (t.Slice a) h = ap t.Slice h.0
  term_with_alike (t.Array n a) h = ap (t.Array n) h.0
  term_with_alike (t.Map a b) h = ap₂ t.Map h.0 h.1.0
  term_with_alike (t.Function ps variadic rs) h =
      ap₂ (λ qs ss. t.Function qs variadic ss) (map_alike f g ps (Each-left (λ a. f a ≡ g a) ps rs h)) (map_alike f g rs (Each-right (λ a. f a ≡ g a) ps rs h))
  term_with_alike (t.Struct fs) h = ap t.Struct (fields_alike fs h)
  term_with_alike (t.Interface ms) h = ap t.Interface (methods_alike ms h)

pub term_with_self : {A : Type 0} (x : TermOf A) → term_with (λ (a : A). a) x ≡ x
term_with_self (t.Basic kind) = refl
term_with_self t.UntypedBool = refl
term_with_self t.UntypedWhole = refl
term_with_self t.UntypedRune = refl
term_with_self t.UntypedText = refl
term_with_self t.UntypedNil = refl
term_with_self t.Error = refl
term_with_self t.Realm = refl
term_with_self (t.Defined path name local) = refl
term_with_self (t.Pointer a) = refl
term_with_self (t.Slice a) = refl
term_with_self (t.Array n a) = refl
term_with_self (t.Map a b) = refl
term_with_self (t.Function ps variadic rs) = ap₂ (λ qs ss. t.Function qs variadic ss) (map-id ps) (map-id rs)
term_with_self (t.Struct fs) = ap t.Struct (map-id fs)
term_with_self (t.Interface ms) = ap t.Interface (map-id ms)
