-- Different terms have different keys.
use Rattle.std.proofs.Common.{◌≡◌, refl, ap, List, [], ◌∷◌, ◌++◌, length, Bool, true, false, rules}
use Rattle.gno_base.specs.declared.kind.Kind.{Kind}
use Rattle.gno_base.specs.declared.kind.Kind.TheVariants as k
use Rattle.gno_terms.specs.declared.term.TypeRef.{TypeRef}
use Rattle.gno_terms.specs.declared.term.TermOf.{TermOf}
use Rattle.gno_terms.specs.declared.term.TermOf.TheVariants as t
use Rattle.gno_terms.specs.declared.term.FieldOf.{FieldOf}
use Rattle.gno_terms.specs.declared.term.MethodOf.{MethodOf}
use Rattle.gno_type_rows.specs.Keys.{flag, refs, kind_number, field_numbers, method_numbers, field_texts, method_texts, numbers_of, texts_of, form_of, key_of}
use Rattle.gno_type_rows.specs.declared.key.Key.{Key}

pub head_or : {A : Type 0} → A → List A → A
head_or d [] = d
head_or d (x ∷ xs) = x

tail_of : {A : Type 0} → List A → List A
tail_of [] = []
tail_of (x ∷ xs) = xs

pub head_eq : {A : Type 0} {x y : A} {xs ys : List A} → x ∷ xs ≡ y ∷ ys → x ≡ y
unfolding head_or
head_eq {A} {x} e = ap (head_or x) e

pub tail_eq : {A : Type 0} {x y : A} {xs ys : List A} → x ∷ xs ≡ y ∷ ys → xs ≡ ys
unfolding tail_of
tail_eq e = ap tail_of e

kind_inj : (a b : Kind) → kind_number a ≡ kind_number b → a ≡ b
kind_inj k.Bool k.Bool e = refl
kind_inj k.Text k.Text e = refl
kind_inj k.Int k.Int e = refl
kind_inj k.Int8 k.Int8 e = refl
kind_inj k.Int16 k.Int16 e = refl
kind_inj k.Int32 k.Int32 e = refl
kind_inj k.Int64 k.Int64 e = refl
kind_inj k.Uint k.Uint e = refl
kind_inj k.Uint8 k.Uint8 e = refl
kind_inj k.Uint16 k.Uint16 e = refl
kind_inj k.Uint32 k.Uint32 e = refl
kind_inj k.Uint64 k.Uint64 e = refl
kind_inj _ _ e = absurd (search (rules, e))

flag_inj : (a b : Bool) → flag a ≡ flag b → a ≡ b
flag_inj true true e = refl
flag_inj false false e = refl
flag_inj _ _ e = absurd (search (rules, e))

ref_inj : (a b : TypeRef) → a.0 ≡ b.0 → a ≡ b
ref_inj a b e = λ i. record { 0 = e i }

refs_inj : (rs qs : List TypeRef) → refs rs ≡ refs qs → rs ≡ qs
refs_inj [] [] e = refl
refs_inj (r ∷ rs) (q ∷ qs) e = let h = ref_inj r q (head_eq e) in let g = refs_inj rs qs (tail_eq e) in λ i. h i ∷ g i
refs_inj [] (q ∷ qs) e = absurd (search (rules, e))
refs_inj (r ∷ rs) [] e = absurd (search (rules, e))

data Both (ps qs rs ss : List TypeRef) : Type 0 where
  both : ps ≡ qs → rs ≡ ss → Both ps qs rs ss

one_more : {p q : TypeRef} {ps qs rs ss : List TypeRef} → p ≡ q → Both ps qs rs ss → Both (p ∷ ps) (q ∷ qs) rs ss
one_more h (both a b) = both (λ i. h i ∷ a i) b

-- lists of one length part in the same place
parted : (ps qs rs ss : List TypeRef) → length ps ≡ length qs → refs ps ++ refs rs ≡ refs qs ++ refs ss → Both ps qs rs ss
parted [] [] rs ss n e = both refl (refs_inj rs ss e)
parted (p ∷ ps) (q ∷ qs) rs ss n e = one_more (ref_inj p q (head_eq e)) (parted ps qs rs ss (search (rules, n)) (tail_eq e))
parted [] (q ∷ qs) rs ss n e = absurd (search (rules, n))
parted (p ∷ ps) [] rs ss n e = absurd (search (rules, n))

function_inj : {ps qs rs ss : List TypeRef} {v w : Bool} → v ≡ w → Both ps qs rs ss → t.Function ps v rs ≡ t.Function qs w ss
function_inj h (both a b) = λ i. t.Function (a i) (h i) (b i)

fields_inj : (fs gs : List (FieldOf TypeRef)) → field_numbers fs ≡ field_numbers gs → field_texts fs ≡ field_texts gs → fs ≡ gs
fields_inj [] [] n e = refl
fields_inj (f ∷ fs) (g ∷ gs) n e =
    let a = flag_inj f.embedded g.embedded (head_eq n) in
    let b = ref_inj f.of g.of (head_eq (tail_eq n)) in
    let c : f.name ≡ g.name = head_eq e in
    let d : f.«package» ≡ g.«package» = head_eq (tail_eq e) in
    let r = fields_inj fs gs (tail_eq (tail_eq n)) (tail_eq (tail_eq e)) in
    λ i. record { name = c i; «package» = d i; embedded = a i; of = b i } ∷ r i
fields_inj [] (g ∷ gs) n e = absurd (search (rules, e))
fields_inj (f ∷ fs) [] n e = absurd (search (rules, e))

methods_inj : (fs gs : List (MethodOf TypeRef)) → method_numbers fs ≡ method_numbers gs → method_texts fs ≡ method_texts gs → fs ≡ gs
methods_inj [] [] n e = refl
methods_inj (f ∷ fs) (g ∷ gs) n e =
    let a = flag_inj f.pointer g.pointer (head_eq n) in
    let b = ref_inj f.of g.of (head_eq (tail_eq n)) in
    let c : f.name ≡ g.name = head_eq e in
    let d : f.«package» ≡ g.«package» = head_eq (tail_eq e) in
    let r = methods_inj fs gs (tail_eq (tail_eq n)) (tail_eq (tail_eq e)) in
    λ i. record { name = c i; «package» = d i; of = b i; pointer = a i } ∷ r i
methods_inj [] (g ∷ gs) n e = absurd (search (rules, e))
methods_inj (f ∷ fs) [] n e = absurd (search (rules, e))

by_parts : (x y : TermOf TypeRef) → form_of x ≡ form_of y → numbers_of x ≡ numbers_of y → texts_of x ≡ texts_of y → x ≡ y
by_parts (t.Basic a) (t.Basic b) f n e = ap t.Basic (kind_inj a b (head_eq n))
by_parts t.UntypedBool t.UntypedBool f n e = refl
by_parts t.UntypedWhole t.UntypedWhole f n e = refl
by_parts t.UntypedRune t.UntypedRune f n e = refl
by_parts t.UntypedText t.UntypedText f n e = refl
by_parts t.UntypedNil t.UntypedNil f n e = refl
by_parts t.Error t.Error f n e = refl
by_parts t.Realm t.Realm f n e = refl
by_parts (t.Defined path name local) (t.Defined path-2 name-2 local-2) f n e = let a = head_eq e in let b = head_eq (tail_eq e) in let c = head_eq n in λ i. t.Defined (a i) (b i) (c i)
by_parts (t.Pointer a) (t.Pointer b) f n e = ap t.Pointer (ref_inj a b (head_eq n))
by_parts (t.Slice a) (t.Slice b) f n e = ap t.Slice (ref_inj a b (head_eq n))
by_parts (t.Array m a) (t.Array m-2 b) f n e = let c = head_eq n in let d = ref_inj a b (head_eq (tail_eq n)) in λ i. t.Array (c i) (d i)
by_parts (t.Map a b) (t.Map a-2 b-2) f n e = let c = ref_inj a a-2 (head_eq n) in let d = ref_inj b b-2 (head_eq (tail_eq n)) in λ i. t.Map (c i) (d i)
by_parts (t.Function ps v rs) (t.Function qs w ss) f n e = function_inj (flag_inj v w (head_eq n)) (parted ps qs rs ss (head_eq (tail_eq n)) (tail_eq (tail_eq n)))
by_parts (t.Struct fs) (t.Struct gs) f n e = ap t.Struct (fields_inj fs gs n e)
by_parts (t.Interface fs) (t.Interface gs) f n e = ap t.Interface (methods_inj fs gs n e)
by_parts _ _ f n e = absurd (search (rules, f))

pub key_inj : (x y : TermOf TypeRef) → key_of x ≡ key_of y → x ≡ y
key_inj x y e = by_parts x y (ap (λ (k : Key). k.form) e) (ap (λ (k : Key). k.numbers) e) (ap (λ (k : Key). k.texts) e)
