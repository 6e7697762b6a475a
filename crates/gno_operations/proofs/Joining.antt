-- Which form an operator makes.
use Rattle.std.proofs.Common.{◌≡◌, refl}
use Rattle.gno_scan.specs.declared.token.Pos.{Pos}
use Rattle.gno_terms.specs.declared.term.GoType.{GoType}
use Rattle.gno_tree.specs.declared.operator.BinaryOperator.{BinaryOperator}
use Rattle.gno_tree.specs.declared.operator.BinaryOperator.TheVariants as b
use Rattle.gno_typing.specs.Forms.{closed}
use Rattle.gno_typing.specs.Giving.{joined_by, shifted_by}
use Rattle.gno_typing.specs.declared.form.FormOf.{FormOf}

-- an operator that is neither `&&` nor `||` takes both its operands
pub both_taken : (u : GoType) (at : Pos) (operator : BinaryOperator) (x y : FormOf GoType) → (operator ≡ b.BothTrue → ⊥) → (operator ≡ b.OneTrue → ⊥) → joined_by u at operator x y ≡ shifted_by u at operator x (closed y)
both_taken u at b.BothTrue x y both one = absurd (both refl)
both_taken u at b.OneTrue x y both one = absurd (one refl)
both_taken u at _ x y both one = refl
