use Rattle.std.proofs.Common.{sym, ◌∙◌, true}
use Rattle.gno_terms.specs.Tables.{type_at}
use Rattle.gno_type_classes.proofs.Converting.{integer_is}
use Rattle.gno_typing.specs.Conversions.{Converts as way}
use Rattle.gno_type_classes.proofs.conversions.from_integer.Goals as goal

pub returns-then-is_integer-clause-some : goal.returns-then-is_integer-clause-some
returns-then-is_integer-clause-some c s u v w left right different =
    way.integers (integer_is (type_at c.args.types.now.types) v c.args.x.now left true c.requires.integer) (integer_is (type_at c.args.types.now.types) w c.args.y.now right true (sym c.is_integer.ensures ∙ c.if-is_integer.true)) different

pub returns-then-is_of_kind-clause-some : goal.returns-then-is_of_kind-clause-some
returns-then-is_of_kind-clause-some c s u v w left right different =
    way.character (integer_is (type_at c.args.types.now.types) v c.args.x.now left true c.requires.integer) (right ∙ (c.is_of_kind.ensures (type_at c.args.types.now.types)).0 c.if-is_of_kind.true)
