-- What an operator gives between two constants, worked out exactly.
-- Source: Go specification, "Constant expressions", with the sections that are named below.
use Rattle.std.specs.Prelude.{ℕ, ◌^◌, ℤ, pos, negsuc, neg_ℤ, ◌+ℤ◌, ◌-ℤ◌, ◌*ℤ◌, ◌<ℤ◌, ◌≤ℤ◌, ◌⊎◌, int_div, int_rem, List, ◌++◌, Bool, false, ◌&&◌, ◌||◌, if◌then◌else◌}
use Rattle.std.specs.Cmp.Lexicographic.{slice_cmp}
use Rattle.std.specs.Int.{int_div_euclid}
use Rattle.std.specs.declared.cmp.Ordering.{Ordering}
use Rattle.std.specs.Ordering.{nat_cmp, int_cmp, int_eq, bool_cmp, is_eq, is_ne, is_lt, is_le, is_gt, is_ge}
use Rattle.gno_constants.specs.Bits.{complement, with_both, with_either, with_one}
use Rattle.gno_constants.specs.declared.constant.Constant.{Constant}
use Rattle.gno_constants.specs.declared.constant.Constant.TheVariants as constant
use Rattle.gno_constants.specs.declared.operator.FoldOp.{FoldOp}
use Rattle.gno_constants.specs.declared.operator.FoldOp.TheVariants.{Add, Sub, Mul, Quo, Rem, And, Or, Xor, AndNot, Shl, Shr, Equal, NotEqual, Less, LessEqual, Greater, GreaterEqual, BothTrue, OneTrue}

-- a constant, whose whole number may have any size; or no quotient, since the divisor is 0; or no shift, since the count is negative; or the operator is not
-- defined on constants of these kinds
pub data Exact : Type 0 where
  Value : Constant → Exact
  NoQuotient : Exact
  NoShift : Exact
  NotDefined : Exact

abbrev pub whole : ℤ → Exact
whole z = Value (constant.Whole z)

abbrev pub truth : Bool → Exact
truth b = Value (constant.Bool b)

-- `/`: rounded toward zero ("Integer operators")
abbrev pub quotient : ℤ → ℤ → Exact
quotient x y = if int_eq y (pos 0) then NoQuotient else whole (int_div x y)

-- `%`: with the sign of the dividend ("Integer operators")
abbrev pub remainder : ℤ → ℤ → Exact
remainder x y = if int_eq y (pos 0) then NoQuotient else whole (int_rem x y)

-- `<<`: times 2, as often as the count says ("Integer operators")
abbrev pub shifted_left : ℤ → ℤ → Exact
shifted_left x (pos n) = whole (x *ℤ pos (2 ^ n))
shifted_left x (negsuc n) = NoShift

-- `>>`: divided by 2 as often, with a remainder from 0 up, so that the quotient is rounded toward negative infinity ("Integer operators")
abbrev pub shifted_right : ℤ → ℤ → Exact
shifted_right x (pos n) = whole (int_div_euclid x (pos (2 ^ n)))
shifted_right x (negsuc n) = NoShift

-- the comparison of two constants in that order ("Comparison operators")
abbrev pub holds : FoldOp → Ordering → Bool
holds Equal o = is_eq o
holds NotEqual o = is_ne o
holds Less o = is_lt o
holds LessEqual o = is_le o
holds Greater o = is_gt o
holds GreaterEqual o = is_ge o
holds _ o = false

-- two whole numbers ("Arithmetic operators")
abbrev pub exact_wholes : FoldOp → ℤ → ℤ → Exact
exact_wholes Add x y = whole (x +ℤ y)
exact_wholes Sub x y = whole (x -ℤ y)
exact_wholes Mul x y = whole (x *ℤ y)
exact_wholes Quo x y = quotient x y
exact_wholes Rem x y = remainder x y
exact_wholes And x y = whole (with_both x y)
exact_wholes Or x y = whole (with_either x y)
exact_wholes Xor x y = whole (with_one x y)
exact_wholes AndNot x y = whole (with_both x (complement y))
exact_wholes Shl x y = shifted_left x y
exact_wholes Shr x y = shifted_right x y
exact_wholes BothTrue x y = NotDefined
exact_wholes OneTrue x y = NotDefined
exact_wholes op x y = truth (holds op (int_cmp x y))

-- two texts: joined, or compared byte by byte ("String concatenation", "Comparison operators")
abbrev pub exact_texts : FoldOp → List ℕ → List ℕ → Exact
exact_texts Add s t = Value (constant.Text (s ++ t))
exact_texts Equal s t = truth (holds Equal (slice_cmp nat_cmp s t))
exact_texts NotEqual s t = truth (holds NotEqual (slice_cmp nat_cmp s t))
exact_texts Less s t = truth (holds Less (slice_cmp nat_cmp s t))
exact_texts LessEqual s t = truth (holds LessEqual (slice_cmp nat_cmp s t))
exact_texts Greater s t = truth (holds Greater (slice_cmp nat_cmp s t))
exact_texts GreaterEqual s t = truth (holds GreaterEqual (slice_cmp nat_cmp s t))
exact_texts _ s t = NotDefined

-- two booleans ("Logical operators", "Comparison operators")
abbrev pub exact_bools : FoldOp → Bool → Bool → Exact
exact_bools Equal a b = truth (holds Equal (bool_cmp a b))
exact_bools NotEqual a b = truth (holds NotEqual (bool_cmp a b))
exact_bools BothTrue a b = truth (a && b)
exact_bools OneTrue a b = truth (a || b)
exact_bools _ a b = NotDefined

unfoldable pub exact : FoldOp → Constant → Constant → Exact
exact op (constant.Whole x) (constant.Whole y) = exact_wholes op x y
exact op (constant.Text s) (constant.Text t) = exact_texts op s t
exact op (constant.Bool a) (constant.Bool b) = exact_bools op a b
exact op _ _ = NotDefined

-- it is a whole number that does not lie from -2^127 to 2^127-1
abbrev pub IsTooWide : Exact → Type 0
IsTooWide (Value (constant.Whole z)) = (z <ℤ neg_ℤ (pos (2 ^ 127))) ⊎ (pos (2 ^ 127) ≤ℤ z)
IsTooWide _ = ⊥
