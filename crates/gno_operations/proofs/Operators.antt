-- On which types operators are defined.
use Rattle.std.proofs.Common.{◌≡◌, refl, sym, ap, ◌∙◌, Bool, true, false, inl, inr}
use Rattle.std.specs.Prelude.{◌⊎◌, not}
use Rattle.gno_base.specs.declared.kind.Kind.TheVariants as k
use Rattle.gno_terms.proofs.Layers.{term_of-type_of}
use Rattle.gno_terms.specs.Terms.{term_of}
use Rattle.gno_terms.specs.declared.term.GoType.{GoType}
use Rattle.gno_terms.specs.declared.term.TermOf.{TermOf}
use Rattle.gno_terms.specs.declared.term.TermOf.TheVariants as t
use Rattle.gno_tree.specs.declared.operator.BinaryOperator.{BinaryOperator}
use Rattle.gno_tree.specs.declared.operator.BinaryOperator.TheVariants as b
use Rattle.gno_typing.specs.Binary.{is_defined_on}
use Rattle.gno_typing.specs.Classes.{basic, is_integer, is_ordered}

-- `&&` and `||`
abbrev pub is_logical : BinaryOperator → Bool
is_logical b.BothTrue = true
is_logical b.OneTrue = true
is_logical operator = false

-- `+`, and the comparisons of order
abbrev pub is_ordering : BinaryOperator → Bool
is_ordering b.Add = true
is_ordering b.Less = true
is_ordering b.LessEqual = true
is_ordering b.Greater = true
is_ordering b.GreaterEqual = true
is_ordering operator = false

pub either_logical : (o : BinaryOperator) → (o ≡ b.BothTrue) ⊎ (o ≡ b.OneTrue) → true ≡ is_logical o
either_logical o (inl e) = ap is_logical (sym e)
either_logical o (inr e) = ap is_logical (sym e)

pub one_ordering : (o : BinaryOperator) → (o ≡ b.Add) ⊎ ((o ≡ b.Less) ⊎ ((o ≡ b.LessEqual) ⊎ ((o ≡ b.Greater) ⊎ (o ≡ b.GreaterEqual)))) → true ≡ is_ordering o
one_ordering o (inl e) = ap is_ordering (sym e)
one_ordering o (inr (inl e)) = ap is_ordering (sym e)
one_ordering o (inr (inr (inl e))) = ap is_ordering (sym e)
one_ordering o (inr (inr (inr (inl e)))) = ap is_ordering (sym e)
one_ordering o (inr (inr (inr (inr e)))) = ap is_ordering (sym e)

pub not_logical : (o : BinaryOperator) → (o ≡ b.BothTrue → ⊥) → (o ≡ b.OneTrue → ⊥) → false ≡ is_logical o
not_logical b.BothTrue both one = absurd (both refl)
not_logical b.OneTrue both one = absurd (one refl)
not_logical _ both one = refl

pub not_ordering : (o : BinaryOperator) → (o ≡ b.Add → ⊥) → (o ≡ b.Less → ⊥) → (o ≡ b.LessEqual → ⊥) → (o ≡ b.Greater → ⊥) → (o ≡ b.GreaterEqual → ⊥) → false ≡ is_ordering o
not_ordering b.Add add less less_equal greater greater_equal = absurd (add refl)
not_ordering b.Less add less less_equal greater greater_equal = absurd (less refl)
not_ordering b.LessEqual add less less_equal greater greater_equal = absurd (less_equal refl)
not_ordering b.Greater add less less_equal greater greater_equal = absurd (greater refl)
not_ordering b.GreaterEqual add less less_equal greater greater_equal = absurd (greater_equal refl)
not_ordering _ add less less_equal greater greater_equal = refl

-- the default types of untyped values
abbrev bool_term : TermOf GoType
bool_term = t.Basic k.Bool

abbrev int_term : TermOf GoType
int_term = t.Basic k.Int

abbrev text_term : TermOf GoType
text_term = t.Basic k.Text

bool_takes : (o : BinaryOperator) → is_logical o ≡ is_defined_on o bool_term
bool_takes b.BothTrue = refl
bool_takes _ = refl

int_takes : (o : BinaryOperator) → not (is_logical o) ≡ is_defined_on o int_term
int_takes b.BothTrue = refl
int_takes _ = refl

text_takes : (o : BinaryOperator) → is_ordering o ≡ is_defined_on o text_term
text_takes b.Add = refl
text_takes _ = refl

pub on_bool : (o : BinaryOperator) (a : Bool) → a ≡ is_logical o → a ≡ is_defined_on o (term_of (basic k.Bool))
on_bool o a e = e ∙ bool_takes o ∙ ap (λ x. is_defined_on o x) (sym (term_of-type_of bool_term))

pub on_int : (o : BinaryOperator) (a : Bool) → a ≡ is_logical o → not a ≡ is_defined_on o (term_of (basic k.Int))
on_int o a e = ap not e ∙ int_takes o ∙ ap (λ x. is_defined_on o x) (sym (term_of-type_of int_term))

pub on_text : (o : BinaryOperator) (a : Bool) → a ≡ is_ordering o → a ≡ is_defined_on o (term_of (basic k.Text))
on_text o a e = e ∙ text_takes o ∙ ap (λ x. is_defined_on o x) (sym (term_of-type_of text_term))

-- by what an operator takes
module _ (P : (TermOf GoType → Bool) → Type 0) where
  pub where_ordering : (o : BinaryOperator) → true ≡ is_ordering o → P is_ordered → P (is_defined_on o)
  where_ordering b.Add e h = h
  where_ordering b.Less e h = h
  where_ordering b.LessEqual e h = h
  where_ordering b.Greater e h = h
  where_ordering b.GreaterEqual e h = h
  where_ordering _ e h = absurd cc

  pub where_neither : (o : BinaryOperator) → false ≡ is_ordering o → false ≡ is_logical o → P is_integer → P (is_defined_on o)
  where_neither b.Add e d h = absurd cc
  where_neither b.Less e d h = absurd cc
  where_neither b.LessEqual e d h = absurd cc
  where_neither b.Greater e d h = absurd cc
  where_neither b.GreaterEqual e d h = absurd cc
  where_neither b.BothTrue e d h = absurd cc
  where_neither b.OneTrue e d h = absurd cc
  where_neither _ e d h = h
