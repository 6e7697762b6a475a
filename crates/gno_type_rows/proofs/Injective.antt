-- A term is told from its parts through a function that tells the parts.
use Rattle.std.proofs.Common.{◌≡◌, refl, ap, ℕ, List, [], ◌∷◌, map, Bool, false, rules}
use Rattle.gno_base.specs.declared.kind.Kind.{Kind}
use Rattle.gno_terms.specs.declared.term.TermOf.{TermOf}
use Rattle.gno_terms.specs.declared.term.TermOf.TheVariants as t
use Rattle.gno_terms.specs.declared.term.FieldOf.{FieldOf}
use Rattle.gno_terms.specs.declared.term.MethodOf.{MethodOf}
use Rattle.gno_terms.specs.Lawful.{Each}
use Rattle.gno_terms.specs.Terms.{term_with, field_with, method_with, field_of, method_of, parts}
use Rattle.gno_terms.proofs.Parts.{Each-left, Each-right}
use Rattle.gno_type_rows.proofs.KeysDiffer.{head_eq, tail_eq}

-- what stands in a term beside its parts
abbrev kind_in : {A : Type 0} → Kind → TermOf A → Kind
kind_in d (t.Basic kind) = kind
kind_in d _ = d

abbrev number_in : {A : Type 0} → TermOf A → ℕ
number_in (t.Defined path name local) = local
number_in (t.Array n a) = n
number_in _ = 0

abbrev path_in : {A : Type 0} → TermOf A → List ℕ
path_in (t.Defined path name local) = path
path_in _ = []

abbrev name_in : {A : Type 0} → TermOf A → List ℕ
name_in (t.Defined path name local) = name
name_in _ = []

abbrev variadic_in : {A : Type 0} → TermOf A → Bool
variadic_in (t.Function ps variadic rs) = variadic
variadic_in _ = false

abbrev params_in : {A : Type 0} → TermOf A → List A
params_in (t.Function ps variadic rs) = ps
params_in _ = []

abbrev results_in : {A : Type 0} → TermOf A → List A
results_in (t.Function ps variadic rs) = rs
results_in _ = []

abbrev fields_in : {A : Type 0} → TermOf A → List (FieldOf A)
fields_in (t.Struct fs) = fs
fields_in _ = []

abbrev pub methods_in : {A : Type 0} → TermOf A → List (MethodOf A)
methods_in (t.Interface ms) = ms
methods_in _ = []

module _ {A B : Type 0} (P : A → Type 0) (f : A → B) (tells : (a b : A) → P a → P b → f a ≡ f b → a ≡ b) where
  list_inj : (xs ys : List A) → Each P xs → Each P ys → map f xs ≡ map f ys → xs ≡ ys
  list_inj [] [] p q e = refl
  list_inj (x ∷ xs) (y ∷ ys) p q e = let h = tells x y p.0 q.0 (head_eq e) in let r = list_inj xs ys p.1 q.1 (tail_eq e) in λ i. h i ∷ r i
  list_inj [] (y ∷ ys) p q e = absurd (search (rules, e))
  list_inj (x ∷ xs) [] p q e = absurd (search (rules, e))

  fields_inj : (xs ys : List (FieldOf A)) → Each P (map field_of xs) → Each P (map field_of ys) → map (field_with f) xs ≡ map (field_with f) ys → xs ≡ ys
  fields_inj [] [] p q e = refl
  fields_inj (x ∷ xs) (y ∷ ys) p q e =
      let h : field_with f x ≡ field_with f y = head_eq e in
      let a : x.name ≡ y.name = ap (λ z. z.name) h in
      let b : x.«package» ≡ y.«package» = ap (λ z. z.«package») h in
      let c : x.embedded ≡ y.embedded = ap (λ z. z.embedded) h in
      let d = tells x.of y.of p.0 q.0 (ap (λ z. z.of) h) in
      let r = fields_inj xs ys p.1 q.1 (tail_eq e) in
      λ i. record { name = a i; «package» = b i; embedded = c i; of = d i } ∷ r i
  fields_inj [] (y ∷ ys) p q e = absurd (search (rules, e))
  fields_inj (x ∷ xs) [] p q e = absurd (search (rules, e))

  methods_inj : (xs ys : List (MethodOf A)) → Each P (map method_of xs) → Each P (map method_of ys) → map (method_with f) xs ≡ map (method_with f) ys → xs ≡ ys
  methods_inj [] [] p q e = refl
  methods_inj (x ∷ xs) (y ∷ ys) p q e =
      let h : method_with f x ≡ method_with f y = head_eq e in
      let a : x.name ≡ y.name = ap (λ z. z.name) h in
      let b : x.«package» ≡ y.«package» = ap (λ z. z.«package») h in
      let c : x.pointer ≡ y.pointer = ap (λ z. z.pointer) h in
      let d = tells x.of y.of p.0 q.0 (ap (λ z. z.of) h) in
      let r = methods_inj xs ys p.1 q.1 (tail_eq e) in
      λ i. record { name = a i; «package» = b i; of = d i; pointer = c i } ∷ r i
  methods_inj [] (y ∷ ys) p q e = absurd (search (rules, e))
  methods_inj (x ∷ xs) [] p q e = absurd (search (rules, e))

  pub term_inj : (x y : TermOf A) → Each P (parts x) → Each P (parts y) → term_with f x ≡ term_with f y → x ≡ y
  term_inj (t.Basic a) (t.Basic b) p q e = ap t.Basic (ap (kind_in a) e)
  term_inj t.UntypedBool t.UntypedBool p q e = refl
  term_inj t.UntypedWhole t.UntypedWhole p q e = refl
  term_inj t.UntypedRune t.UntypedRune p q e = refl
  term_inj t.UntypedText t.UntypedText p q e = refl
  term_inj t.UntypedNil t.UntypedNil p q e = refl
  term_inj t.Error t.Error p q e = refl
  term_inj t.Realm t.Realm p q e = refl
  term_inj (t.Defined path name local) (t.Defined path-2 name-2 local-2) p q e =
      let a = ap path_in e in
      let b = ap name_in e in
      let c = ap number_in e in
      λ i. t.Defined (a i) (b i) (c i)
  term_inj (t.Pointer a) (t.Pointer b) p q e = ap t.Pointer (tells a b p.0 q.0 (head_eq (ap parts e)))
  term_inj (t.Slice a) (t.Slice b) p q e = ap t.Slice (tells a b p.0 q.0 (head_eq (ap parts e)))
  term_inj (t.Array m a) (t.Array n b) p q e =
      let c = ap number_in e in
      let d = tells a b p.0 q.0 (head_eq (ap parts e)) in
      λ i. t.Array (c i) (d i)
  term_inj (t.Map a b) (t.Map c d) p q e =
      let h = tells a c p.0 q.0 (head_eq (ap parts e)) in
      let k = tells b d p.1.0 q.1.0 (head_eq (tail_eq (ap parts e))) in
      λ i. t.Map (h i) (k i)
  term_inj (t.Function ps v rs) (t.Function qs w ss) p q e =
      let h = list_inj ps qs (Each-left P ps rs p) (Each-left P qs ss q) (ap params_in e) in
      let k = list_inj rs ss (Each-right P ps rs p) (Each-right P qs ss q) (ap results_in e) in
      let l = ap variadic_in e in
      λ i. t.Function (h i) (l i) (k i)
  term_inj (t.Struct fs) (t.Struct gs) p q e = ap t.Struct (fields_inj fs gs p q (ap fields_in e))
  term_inj (t.Interface fs) (t.Interface gs) p q e = ap t.Interface (methods_inj fs gs p q (ap methods_in e))
  term_inj _ _ p q e = absurd (search (rules, e))
