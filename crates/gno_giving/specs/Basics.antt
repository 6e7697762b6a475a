-- The basic types that rules speak of. Go specification, "Boolean types", "String types" and "Numeric types".
use Rattle.gno_base.specs.declared.kind.Kind.TheVariants as k
use Rattle.gno_giving.specs.declared.basics.Basics.{Basics}
use Rattle.gno_terms.specs.Tables.{Is, Table}
use Rattle.gno_typing.specs.Classes.{basic}

-- each number stands for its type
pub record AreBasics (table : Table) (x : Basics) : Type 0 where
  pub bool : Is table x.bool (basic k.Bool)
  pub text : Is table x.text (basic k.Text)
  pub int : Is table x.int (basic k.Int)
  pub rune : Is table x.rune (basic k.Int32)
  pub uint : Is table x.uint (basic k.Uint)
  pub byte : Is table x.byte (basic k.Uint8)
