-- The parts of a type that come from those of its row.
use Rattle.std.proofs.Common.{◌≡◌, refl, sym, ap, ◌∙◌, ℕ, List, Bool, true, false, rules}
use Rattle.gno_base.specs.declared.kind.Kind.{Kind}
use Rattle.gno_embedding.specs.Embedding.{base_by, is_pointer}
use Rattle.gno_terms.specs.Lawful.{is_function, is_slice}
use Rattle.gno_terms.specs.Terms.{term_with}
use Rattle.gno_terms.specs.declared.term.TermOf.{TermOf}
use Rattle.gno_terms.specs.declared.term.TermOf.TheVariants as t
use Rattle.gno_typing.specs.Conversions.{is_basic}

is_map : {A : Type 0} → TermOf A → Bool
is_map (t.Map a b) = true
is_map _ = false

is_array : {A : Type 0} → TermOf A → Bool
is_array (t.Array n a) = true
is_array _ = false

abbrev kind_in : {A : Type 0} → Kind → TermOf A → Kind
kind_in kind (t.Basic own) = own
kind_in kind _ = kind

pub one_kind : {A : Type 0} (k l : Kind) (x y : TermOf A) → x ≡ t.Basic k → y ≡ t.Basic l → x ≡ y → k ≡ l
one_kind k l x y a b e = ap (kind_in k) (sym a ∙ e ∙ b)

pub one_pointer : {A : Type 0} (a b : A) → t.Pointer a ≡ t.Pointer b → a ≡ b
one_pointer a b e = ap (base_by a) e

abbrev element_in : {A : Type 0} → A → TermOf A → A
element_in a (t.Slice own) = own
element_in a _ = a

pub one_element : {A : Type 0} (a b : A) → t.Slice a ≡ t.Slice b → a ≡ b
one_element a b e = ap (element_in a) e

module _ {A B : Type 0} (f : A → B) where
  pub from_basic : (x : TermOf A) (kind : Kind) → term_with f x ≡ t.Basic kind → x ≡ t.Basic kind
  from_basic (t.Basic own) kind e = ap t.Basic (ap (kind_in kind) e)
  from_basic x kind e = absurd (search (rules, ap is_basic e))

  pub from_pointer : (x : TermOf A) (b : B) → term_with f x ≡ t.Pointer b → (a : A) × (x ≡ t.Pointer a) × (f a ≡ b)
  from_pointer (t.Pointer a) b e = (a, refl, ap (base_by b) e)
  from_pointer x b e = absurd (search (rules, ap is_pointer e))

  pub from_slice : (x : TermOf A) (b : B) → term_with f x ≡ t.Slice b → (a : A) × (x ≡ t.Slice a) × (f a ≡ b)
  from_slice (t.Slice a) b e = (a, refl, ap (element_in b) e)
  from_slice x b e = absurd (search (rules, ap is_slice e))

  pub no_map : (x : TermOf A) → ((a b : A) → x ≡ t.Map a b → ⊥) → (a b : B) → term_with f x ≡ t.Map a b → ⊥
  unfolding is_map
  no_map (t.Map a b) h c d e = h a b refl
  no_map x h c d e = search (rules, ap is_map e)

  pub no_array : (x : TermOf A) → ((n : ℕ) (a : A) → x ≡ t.Array n a → ⊥) → (n : ℕ) (a : B) → term_with f x ≡ t.Array n a → ⊥
  unfolding is_array
  no_array (t.Array n a) h m b e = h n a refl
  no_array x h m b e = search (rules, ap is_array e)

  pub no_pointer : (x : TermOf A) → ((a : A) → x ≡ t.Pointer a → ⊥) → (b : B) → term_with f x ≡ t.Pointer b → ⊥
  no_pointer x h b e = let p = from_pointer x b e in h p.0 p.1

  pub no_slice : (x : TermOf A) → ((a : A) → x ≡ t.Slice a → ⊥) → (b : B) → term_with f x ≡ t.Slice b → ⊥
  no_slice x h b e = let p = from_slice x b e in h p.0 p.1

  pub no_function : (x : TermOf A) → ((ps : List A) (variadic : Bool) (rs : List A) → x ≡ t.Function ps variadic rs → ⊥) → (ps : List B) (variadic : Bool) (rs : List B) → term_with f x ≡ t.Function ps variadic rs → ⊥
  no_function (t.Function qs own ss) h ps variadic rs e = h qs own ss refl
  no_function x h ps variadic rs e = search (rules, ap is_function e)
