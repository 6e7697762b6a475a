-- What is answered where an operator gives something, clause by clause.
use Rattle.std.proofs.Common.{◌≡◌, ℤ, List, ℕ, Bool, ◌∙◌, sym, subst, refl, Ok, Err, Result}
use Rattle.std.specs.Prelude.{IfOk, IsErrOf}
use Rattle.gno_constants.specs.Exact.{Exact, IsTooWide, exact, exact_wholes, exact_texts, exact_bools}
use Rattle.gno_constants.specs.Exact.Exact.{Value, NoQuotient, NoShift}
use Rattle.gno_constants.specs.Gives.{Gives}
use Rattle.gno_constants.specs.declared.constant.Constant.{Constant}
use Rattle.gno_constants.specs.declared.constant.Constant.TheVariants as constant
use Rattle.gno_constants.specs.declared.operator.FoldFault.{FoldFault}
use Rattle.gno_constants.specs.declared.operator.FoldFault.TheVariants.{TooWide, DivideByZero, BadShift}
use Rattle.gno_constants.specs.declared.operator.FoldOp.{FoldOp}

pub of_wholes : (op : FoldOp) (l r : Constant) (x y : ℤ) → l ≡ constant.Whole x → r ≡ constant.Whole y → exact op l r ≡ exact_wholes op x y
unfolding exact
of_wholes op l r x y p q = let e : exact op (constant.Whole x) (constant.Whole y) ≡ exact_wholes op x y = refl in cc

pub of_texts : (op : FoldOp) (l r : Constant) (s t : List ℕ) → l ≡ constant.Text s → r ≡ constant.Text t → exact op l r ≡ exact_texts op s t
unfolding exact
of_texts op l r s t p q = let e : exact op (constant.Text s) (constant.Text t) ≡ exact_texts op s t = refl in cc

pub of_bools : (op : FoldOp) (l r : Constant) (a b : Bool) → l ≡ constant.Bool a → r ≡ constant.Bool b → exact op l r ≡ exact_bools op a b
unfolding exact
of_bools op l r a b p q = let e : exact op (constant.Bool a) (constant.Bool b) ≡ exact_bools op a b = refl in cc

pub value : (r : Result Constant FoldFault) (e e' : Exact) → e' ≡ e → Gives r e → IfOk r (λ c. e' ≡ Value c)
value (Ok c) e e' s g = s ∙ g
value (Err f) e e' s g = tt

at_fault : (r : Result Constant FoldFault) (f : FoldFault) (e e' : Exact) → e' ≡ e → Gives r e → r ≡ Err f → Gives (Err f) e'
at_fault r f e e' s g is = subst (λ (x : Exact). Gives (Err f) x) (sym s) (subst (λ (x : Result Constant FoldFault). Gives x e) is g)

pub too_wide : (r : Result Constant FoldFault) (e e' : Exact) → e' ≡ e → Gives r e → IsErrOf r TooWide → IsTooWide e'
too_wide r e e' s g is = at_fault r TooWide e e' s g is

pub by_zero : (r : Result Constant FoldFault) (e e' : Exact) → e' ≡ e → Gives r e → IsErrOf r DivideByZero → e' ≡ NoQuotient
by_zero r e e' s g is = at_fault r DivideByZero e e' s g is

pub bad_shift : (r : Result Constant FoldFault) (e e' : Exact) → e' ≡ e → Gives r e → IsErrOf r BadShift → e' ≡ NoShift
bad_shift r e e' s g is = at_fault r BadShift e e' s g is

pub text_value : (r : Result Constant FoldFault) (e e' : Exact) → e' ≡ e → IfOk r (λ c. e ≡ Value c) → IfOk r (λ c. e' ≡ Value c)
text_value (Ok c) e e' s g = s ∙ g
text_value (Err f) e e' s g = tt
