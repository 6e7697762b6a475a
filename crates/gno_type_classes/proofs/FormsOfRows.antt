-- The class of a type and of its row.
use Rattle.std.proofs.Common.{◌≡◌, refl, ap, ◌∙◌}
use Rattle.std.specs.Prelude.{◌||◌}
use Rattle.gno_constants.specs.declared.constant.Constant.{Constant}
use Rattle.gno_terms.specs.Lawful.{is_untyped}
use Rattle.gno_terms.specs.Terms.{term_with}
use Rattle.gno_terms.specs.declared.term.TermOf.{TermOf}
use Rattle.gno_terms.specs.declared.term.TermOf.TheVariants as t
use Rattle.gno_typing.specs.Classes.{fits, is_boolean, is_integer, is_ordered, is_text}
use Rattle.gno_typing.specs.Conversions.{is_basic}
use Rattle.gno_typing.specs.Selectors.{is_pointer_or_interface, is_pointer_term}

module _ {A B : Type 0} (f : A → B) where
  pub is_integer_itself : (x : TermOf A) → is_integer (term_with f x) ≡ is_integer x
  is_integer_itself (t.Basic kind) = refl
  is_integer_itself t.UntypedWhole = refl
  is_integer_itself t.UntypedRune = refl
  is_integer_itself _ = refl

  pub is_text_itself : (x : TermOf A) → is_text (term_with f x) ≡ is_text x
  is_text_itself (t.Basic kind) = refl
  is_text_itself t.UntypedText = refl
  is_text_itself _ = refl

  pub is_boolean_itself : (x : TermOf A) → is_boolean (term_with f x) ≡ is_boolean x
  is_boolean_itself (t.Basic kind) = refl
  is_boolean_itself t.UntypedBool = refl
  is_boolean_itself _ = refl

  pub is_ordered_itself : (x : TermOf A) → is_ordered (term_with f x) ≡ is_ordered x
  is_ordered_itself x = ap (λ b. b || is_text (term_with f x)) (is_integer_itself x) ∙ ap (λ b. is_integer x || b) (is_text_itself x)

  pub is_basic_itself : (x : TermOf A) → is_basic (term_with f x) ≡ is_basic x
  is_basic_itself (t.Basic kind) = refl
  is_basic_itself _ = refl

  pub is_untyped_itself : (x : TermOf A) → is_untyped (term_with f x) ≡ is_untyped x
  is_untyped_itself t.UntypedBool = refl
  is_untyped_itself t.UntypedWhole = refl
  is_untyped_itself t.UntypedRune = refl
  is_untyped_itself t.UntypedText = refl
  is_untyped_itself t.UntypedNil = refl
  is_untyped_itself _ = refl

  pub fits_itself : (c : Constant) (x : TermOf A) → fits c (term_with f x) ≡ fits c x
  fits_itself c (t.Basic kind) = refl
  fits_itself c _ = refl

  pub is_pointer_or_interface_itself : (x : TermOf A) → is_pointer_or_interface (term_with f x) ≡ is_pointer_or_interface x
  is_pointer_or_interface_itself (t.Pointer a) = refl
  is_pointer_or_interface_itself (t.Interface ms) = refl
  is_pointer_or_interface_itself _ = refl

  pub is_pointer_itself : (x : TermOf A) → is_pointer_term (term_with f x) ≡ is_pointer_term x
  is_pointer_itself (t.Pointer a) = refl
  is_pointer_itself _ = refl
