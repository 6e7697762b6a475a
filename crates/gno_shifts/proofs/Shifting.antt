-- What the rules say of shifts of each value.
use Rattle.std.proofs.Common.{◌≡◌, refl, sym, subst, Bool, Option, Some, None}
use Rattle.gno_constants.specs.declared.constant.Constant.{Constant}
use Rattle.gno_constants.specs.Exact.{exact}
use Rattle.gno_seen.specs.Seen.{constant_in}
use Rattle.gno_scan.specs.declared.token.Pos.{Pos}
use Rattle.gno_terms.specs.declared.term.GoType.{GoType}
use Rattle.gno_terms.specs.Lawful.{is_untyped}
use Rattle.gno_terms.specs.Tables.{Table}
use Rattle.gno_terms.specs.Terms.{term_of}
use Rattle.gno_tree.specs.declared.operator.BinaryOperator.{BinaryOperator}
use Rattle.gno_typed.specs.declared.expr.TypedExprOf.{TypedExprOf}
use Rattle.gno_typing.specs.Binary.{calls_in, constant_shifted, fold_of, shifted}
use Rattle.gno_typing.specs.Classes.{IsOf, is_integer}
use Rattle.gno_typing.specs.Unary.{worked_out}
use Rattle.gno_typing.specs.Verdicts.{Verdict, wants}
use Rattle.gno_typing.specs.declared.value.ValueOf.{ValueOf}
use Rattle.gno_typing.specs.declared.value.ValueOf.TheVariants as v

module _ (P : (Verdict (ValueOf GoType) → Type 0) → Type 0) (table : Table) (place : Pos) (operator : BinaryOperator) (at : Pos) (s : GoType) (x : Constant) (count : TypedExprOf GoType) where
  pub by_a_constant : (r : ValueOf GoType) (y : Constant) → Some y ≡ constant_in r → P (wants (IsOf is_integer table s) 46 place (worked_out table place s (exact (fold_of operator) x y))) → P (shifted table place operator (v.Constant at s x) r count)
  by_a_constant (v.Constant behind t z) y e h = let d : y ≡ z = cc in subst (λ y. P (wants (IsOf is_integer table s) 46 place (worked_out table place s (exact (fold_of operator) x y)))) d h
  by_a_constant (v.Nil behind) y e h = absurd cc
  by_a_constant (v.Typed behind t stands calls form) y e h = absurd cc
  by_a_constant (v.Pending behind needs calls form) y e h = absurd cc

  pub by_another : (r : ValueOf GoType) → None ≡ constant_in r → P (wants (IsOf is_integer table s) 46 place (constant_shifted (is_untyped (term_of s)) place operator at s x (calls_in r) count)) → P (shifted table place operator (v.Constant at s x) r count)
  by_another (v.Constant behind t z) e h = absurd cc
  by_another (v.Nil behind) e h = h
  by_another (v.Typed behind t stands calls form) e h = h
  by_another (v.Pending behind needs calls form) e h = h
