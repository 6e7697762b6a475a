-- An operator is defined exactly on constants of the kinds that it takes.
use Rattle.std.proofs.Common.{ℕ, ℤ, pos, negsuc, Bool, true, false, List, cond, refl}
use Rattle.std.specs.Prelude.{◌≢◌, ◌↔◌}
use Rattle.gno_constants.specs.Exact.{exact, exact_bools, exact_texts, exact_wholes, shifted_left, shifted_right}
use Rattle.gno_constants.specs.Exact.Exact.{NoQuotient, NotDefined, Value}
use Rattle.gno_constants.specs.Kinds.{Takes, TakesBools, TakesTexts, TakesWholes}
use Rattle.gno_constants.specs.declared.constant.Constant.{Constant}
use Rattle.gno_constants.specs.declared.constant.Constant.TheVariants as constant
use Rattle.gno_constants.specs.declared.operator.FoldOp.{FoldOp}
use Rattle.gno_constants.specs.declared.operator.FoldOp.TheVariants.{Add, Quo, Rem, Shl, Shr, Equal, NotEqual, Less, LessEqual, Greater, GreaterEqual, BothTrue, OneTrue}

divided : (by_zero : Bool) (c : Constant) → cond by_zero NoQuotient (Value c) ≢ NotDefined
divided true c e = cc
divided false c e = cc

left : (x y : ℤ) → shifted_left x y ≢ NotDefined
left x (pos n) e = cc
left x (negsuc n) e = cc

right : (x y : ℤ) → shifted_right x y ≢ NotDefined
right x (pos n) e = cc
right x (negsuc n) e = cc

wholes : (op : FoldOp) (x y : ℤ) → TakesWholes op → exact_wholes op x y ≢ NotDefined
wholes Quo x y h e = divided _ _ e
wholes Rem x y h e = divided _ _ e
wholes Shl x y h e = left x y e
wholes Shr x y h e = right x y e
wholes BothTrue x y h e = h
wholes OneTrue x y h e = h
wholes _ x y h e = cc

wholes_only : (op : FoldOp) (x y : ℤ) → exact_wholes op x y ≢ NotDefined → TakesWholes op
wholes_only BothTrue x y n = n refl
wholes_only OneTrue x y n = n refl
wholes_only _ x y n = tt

texts : (op : FoldOp) (s t : List ℕ) → TakesTexts op → exact_texts op s t ≢ NotDefined
texts Add s t h e = cc
texts Equal s t h e = cc
texts NotEqual s t h e = cc
texts Less s t h e = cc
texts LessEqual s t h e = cc
texts Greater s t h e = cc
texts GreaterEqual s t h e = cc
texts _ s t h e = h

texts_only : (op : FoldOp) (s t : List ℕ) → exact_texts op s t ≢ NotDefined → TakesTexts op
texts_only Add s t n = tt
texts_only Equal s t n = tt
texts_only NotEqual s t n = tt
texts_only Less s t n = tt
texts_only LessEqual s t n = tt
texts_only Greater s t n = tt
texts_only GreaterEqual s t n = tt
texts_only _ s t n = n refl

bools : (op : FoldOp) (a b : Bool) → TakesBools op → exact_bools op a b ≢ NotDefined
bools Equal a b h e = cc
bools NotEqual a b h e = cc
bools BothTrue a b h e = cc
bools OneTrue a b h e = cc
bools _ a b h e = h

bools_only : (op : FoldOp) (a b : Bool) → exact_bools op a b ≢ NotDefined → TakesBools op
bools_only Equal a b n = tt
bools_only NotEqual a b n = tt
bools_only BothTrue a b n = tt
bools_only OneTrue a b n = tt
bools_only _ a b n = n refl

pub defined : (op : FoldOp) (left right : Constant) → Takes op left right ↔ (exact op left right ≢ NotDefined)
unfolding exact
defined op (constant.Whole x) (constant.Whole y) = (wholes op x y, wholes_only op x y)
defined op (constant.Text s) (constant.Text t) = (texts op s t, texts_only op s t)
defined op (constant.Bool a) (constant.Bool b) = (bools op a b, bools_only op a b)
defined op _ _ = (λ h e. h, λ n. n refl)
