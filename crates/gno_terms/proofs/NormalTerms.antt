-- The normal form of a term.
use Rattle.std.proofs.Common.{◌≡◌, refl, sym, ap, ◌∙◌, subst, ℕ, Bool, true, false, if◌then◌else◌, List, [], ◌∷◌, map, is_gt, IsSorted, Ordering}
use Rattle.std.specs.Cmp.{IsTotalOrder, then_total, on_total}
use Rattle.std.specs.List.Sorted.{IsStable}
use Rattle.std.proofs.lemmas.Cmp.{nat_list_cmp_total}
use Rattle.std.proofs.lemmas.List.{map-id}
use Rattle.std.proofs.lemmas.Simd.{map-map}
use Rattle.gno_terms.specs.declared.term.GoType.{GoType}
use Rattle.gno_terms.specs.declared.term.TermOf.{TermOf}
use Rattle.gno_terms.specs.declared.term.TermOf.TheVariants as t
use Rattle.gno_terms.specs.declared.term.FieldOf.{FieldOf}
use Rattle.gno_terms.specs.declared.term.MethodOf.{MethodOf}
use Rattle.gno_terms.specs.Exported.{is_exported}
use Rattle.gno_terms.specs.Lawful.{Each, IsLawful, IsLawfulField, IsLawfulMethod, IsPath}
use Rattle.gno_terms.specs.Normal.{package_of, normal_field, normal_method, by_name, placed, in_byte_order, normal_term}
use Rattle.gno_terms.specs.Terms.{term_with, parts, field_with, field_of, method_with, method_of}
use Rattle.gno_terms.proofs.Ordered.{inserted, in_order, Each-in_order, in_order_rises, in_order_same, in_order_is}
use Rattle.gno_terms.proofs.Parts.{Each-map, Each_before_map, Each-weaken, Each-always, map_alike}

-- ---- the byte order of methods

module _ {A : Type 0} where
  abbrev pub by_names : MethodOf A → MethodOf A → Ordering
  by_names = by_name

  pub by_name_total : IsTotalOrder by_names
  by_name_total = then_total (on_total (λ (m : MethodOf A). m.name) nat_list_cmp_total) (on_total (λ (m : MethodOf A). m.«package») nat_list_cmp_total)

  placed_is : (m : MethodOf A) (ns : List (MethodOf A)) → placed m ns ≡ inserted by_names m ns
  placed_is m [] = refl
  placed_is m (n ∷ ns) = ap (λ us. if is_gt (by_name m n) then n ∷ us else m ∷ n ∷ ns) (placed_is m ns)

  pub in_byte_order_is : (ms : List (MethodOf A)) → in_byte_order ms ≡ in_order by_names ms
  in_byte_order_is [] = refl
  in_byte_order_is (m ∷ ms) = placed_is m (in_byte_order ms) ∙ ap (inserted by_names m) (in_byte_order_is ms)

  -- a stable sort by the names, and then by the packages, gives the byte order
  pub sorted_by_name : (ms ns : List (MethodOf A)) → IsSorted by_names ns → IsStable by_names ms ns → ns ≡ in_byte_order ms
  sorted_by_name ms ns s t = in_order_is by_names by_name_total ms ns s t ∙ sym (in_byte_order_is ms)

  pub in_byte_order_twice : (ms : List (MethodOf A)) → in_byte_order (in_byte_order ms) ≡ in_byte_order ms
  in_byte_order_twice ms = ap in_byte_order (in_byte_order_is ms) ∙ in_byte_order_is (in_order by_names ms)
      ∙ in_order_same by_names by_name_total (in_order by_names ms) (in_order_rises by_names by_name_total ms) ∙ sym (in_byte_order_is ms)

  pub Each-in_byte_order : (P : MethodOf A → Type 0) (ms : List (MethodOf A)) → Each P ms → Each P (in_byte_order ms)
  Each-in_byte_order P ms h = subst (Each P) (sym (in_byte_order_is ms)) (Each-in_order by_names P ms h)

-- ---- the normal form looks at no part

module _ {A B : Type 0} (f : A → B) where
  map_choice : (b : Bool) (us vs : List (MethodOf A)) → (if b then map (method_with f) us else map (method_with f) vs) ≡ map (method_with f) (if b then us else vs)
  map_choice true us vs = refl
  map_choice false us vs = refl

  placed_with : (m : MethodOf A) (ns : List (MethodOf A)) → placed (method_with f m) (map (method_with f) ns) ≡ map (method_with f) (placed m ns)
  placed_with m [] = refl
  placed_with m (n ∷ ns) =
      ap (λ us. if is_gt (by_name m n) then method_with f n ∷ us else map (method_with f) (m ∷ n ∷ ns)) (placed_with m ns)
      ∙ map_choice (is_gt (by_name m n)) (n ∷ placed m ns) (m ∷ n ∷ ns)

  in_byte_order_with : (ms : List (MethodOf A)) → in_byte_order (map (method_with f) ms) ≡ map (method_with f) (in_byte_order ms)
  in_byte_order_with [] = refl
  in_byte_order_with (m ∷ ms) = ap (placed (method_with f m)) (in_byte_order_with ms) ∙ placed_with m (in_byte_order ms)

  pub normal_term_with : (x : TermOf A) → normal_term (term_with f x) ≡ term_with f (normal_term x)
  normal_term_with (t.Basic kind) = refl
  normal_term_with t.UntypedBool = refl
  normal_term_with t.UntypedWhole = refl
  normal_term_with t.UntypedRune = refl
  normal_term_with t.UntypedText = refl
  normal_term_with t.UntypedNil = refl
  normal_term_with t.Error = refl
  normal_term_with t.Realm = refl
  normal_term_with (t.Defined path name local) = refl
  normal_term_with (t.Pointer a) = refl
  normal_term_with (t.Slice a) = refl
  normal_term_with (t.Array n a) = refl
  normal_term_with (t.Map a b) = refl
  normal_term_with (t.Function ps variadic rs) = refl
  normal_term_with (t.Struct fs) = ap t.Struct (map-map normal_field (field_with f) fs ∙ sym (map-map (field_with f) normal_field fs))
  normal_term_with (t.Interface ms) = ap t.Interface
      (ap in_byte_order (map-map normal_method (method_with f) ms ∙ sym (map-map (method_with f) normal_method ms)) ∙ in_byte_order_with (map normal_method ms))

-- ---- the parts of the normal form

pub parts_of_normal : {A : Type 0} (P : A → Type 0) (x : TermOf A) → Each P (parts x) → Each P (parts (normal_term x))
parts_of_normal P (t.Basic kind) h = h
parts_of_normal P t.UntypedBool h = h
parts_of_normal P t.UntypedWhole h = h
parts_of_normal P t.UntypedRune h = h
parts_of_normal P t.UntypedText h = h
parts_of_normal P t.UntypedNil h = h
parts_of_normal P t.Error h = h
parts_of_normal P t.Realm h = h
parts_of_normal P (t.Defined path name local) h = h
parts_of_normal P (t.Pointer a) h = h
parts_of_normal P (t.Slice a) h = h
parts_of_normal P (t.Array n a) h = h
parts_of_normal P (t.Map a b) h = h
parts_of_normal P (t.Function ps variadic rs) h = h
parts_of_normal P (t.Struct fs) h = subst (Each P) (sym (map-map field_of normal_field fs)) h
parts_of_normal P (t.Interface ms) h = Each-map P method_of (in_byte_order (map normal_method ms))
    (Each-in_byte_order (λ m. P m.of) (map normal_method ms) (Each-map (λ m. P m.of) normal_method ms (Each_before_map P method_of ms h)))

-- ---- the normal form of a normal form

if_twice : (b : Bool) (path : List ℕ) → (if b then [] else (if b then [] else path)) ≡ (if b then [] else path)
if_twice true path = refl
if_twice false path = refl

package_twice : (name path : List ℕ) → package_of name (package_of name path) ≡ package_of name path
package_twice name path = if_twice (is_exported name) path

module _ {A : Type 0} where
  field_twice : (f : FieldOf A) → normal_field (normal_field f) ≡ normal_field f
  field_twice f = ap (λ path. record f { «package» = path }) (package_twice f.name f.«package»)

  method_twice : (m : MethodOf A) → normal_method (normal_method m) ≡ normal_method m
  method_twice m = ap (λ path. record m { «package» = path }) (package_twice m.name m.«package»)

  methods_twice : (ms : List (MethodOf A)) → map normal_method (in_byte_order (map normal_method ms)) ≡ in_byte_order (map normal_method ms)
  methods_twice ms = map_alike normal_method (λ m. m) (in_byte_order (map normal_method ms))
      (Each-in_byte_order (λ m. normal_method m ≡ m) (map normal_method ms) (Each-map (λ m. normal_method m ≡ m) normal_method ms (Each-always (λ m. normal_method (normal_method m) ≡ normal_method m) method_twice ms)))
      ∙ map-id (in_byte_order (map normal_method ms))

  pub normal_term_twice : (x : TermOf A) → normal_term (normal_term x) ≡ normal_term x
  normal_term_twice (t.Basic kind) = refl
  normal_term_twice t.UntypedBool = refl
  normal_term_twice t.UntypedWhole = refl
  normal_term_twice t.UntypedRune = refl
  normal_term_twice t.UntypedText = refl
  normal_term_twice t.UntypedNil = refl
  normal_term_twice t.Error = refl
  normal_term_twice t.Realm = refl
  normal_term_twice (t.Defined path name local) = refl
  normal_term_twice (t.Pointer a) = refl
  normal_term_twice (t.Slice a) = refl
  normal_term_twice (t.Array n a) = refl
  normal_term_twice (t.Map a b) = refl
  normal_term_twice (t.Function ps variadic rs) = refl
  normal_term_twice (t.Struct fs) = ap t.Struct
      (map-map normal_field normal_field fs ∙ map_alike (λ f. normal_field (normal_field f)) normal_field fs (Each-always (λ f. normal_field (normal_field f) ≡ normal_field f) field_twice fs))
  normal_term_twice (t.Interface ms) = ap t.Interface (ap in_byte_order (methods_twice ms) ∙ in_byte_order_twice (map normal_method ms))

-- ---- lawful terms

still_owned : (b : Bool) (path : List ℕ) → (b ≡ false → IsPath path) → b ≡ false → IsPath (if b then [] else path)
still_owned true path f e = absurd (cc)
still_owned false path f e = f e

field_lawful : (f : FieldOf GoType) → IsLawfulField f → IsLawfulField (normal_field f)
field_lawful f h = record { name = h.name; owned = still_owned (is_exported f.name) f.«package» h.owned; typed = h.typed }

method_lawful : (m : MethodOf GoType) → IsLawfulMethod m → IsLawfulMethod (normal_method m)
method_lawful m h = record { name = h.name; owned = still_owned (is_exported m.name) m.«package» h.owned; function = h.function; no_pointer = h.no_pointer }

pub normal_term_lawful : (x : TermOf GoType) → IsLawful x → IsLawful (normal_term x)
normal_term_lawful (t.Basic kind) h = h
normal_term_lawful t.UntypedBool h = h
normal_term_lawful t.UntypedWhole h = h
normal_term_lawful t.UntypedRune h = h
normal_term_lawful t.UntypedText h = h
normal_term_lawful t.UntypedNil h = h
normal_term_lawful t.Error h = h
normal_term_lawful t.Realm h = h
normal_term_lawful (t.Defined path name local) h = h
normal_term_lawful (t.Pointer a) h = h
normal_term_lawful (t.Slice a) h = h
normal_term_lawful (t.Array n a) h = h
normal_term_lawful (t.Map a b) h = h
normal_term_lawful (t.Function ps variadic rs) h = h
normal_term_lawful (t.Struct fs) h = Each-map IsLawfulField normal_field fs (Each-weaken IsLawfulField (λ f. IsLawfulField (normal_field f)) field_lawful fs h)
normal_term_lawful (t.Interface ms) h = Each-in_byte_order IsLawfulMethod (map normal_method ms)
    (Each-map IsLawfulMethod normal_method ms (Each-weaken IsLawfulMethod (λ m. IsLawfulMethod (normal_method m)) method_lawful ms h))
