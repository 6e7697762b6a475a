use Rattle.std.proofs.Common.{sym, ◌∙◌, true, false, rules}
use Rattle.gno_terms.specs.Tables.{type_at}
use Rattle.gno_type_classes.proofs.Converting.{interface_is}
use Rattle.gno_typing.specs.Conversions.{Converts as way}
use Rattle.gno_type_classes.proofs.conversions.to_interface.Goals as goal

pub returns-then-not-has-clause-none : goal.returns-then-not-has-clause-none
returns-then-not-has-clause-none c _ s u is own h = search (rules, sym c.if-not-has.true ∙ (c.has.ensures s u is own).1 h)

pub returns-then-is_interface-clause-some : goal.returns-then-is_interface-clause-some
returns-then-is_interface-clause-some c s u v w is own left interface =
    way.between_interfaces interface (interface_is (type_at c.args.types.now.types) v c.args.x.now left true (sym c.is_interface.ensures ∙ c.if-is_interface.true)) ((c.has.ensures s u is own).0 c.if-not-has.false)

pub returns-else-is_interface-clause-some : goal.returns-else-is_interface-clause-some
returns-else-is_interface-clause-some c s u v w is own left interface =
    way.to_interface interface (interface_is (type_at c.args.types.now.types) v c.args.x.now left false (sym c.is_interface.ensures ∙ c.if-is_interface.false)) ((c.has.ensures s u is own).0 c.if-not-has.false)
