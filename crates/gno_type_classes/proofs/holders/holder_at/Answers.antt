use Rattle.std.proofs.Common.{sym, ◌∙◌, rules}
use Rattle.gno_type_classes.proofs.Holding.{has_members_of, pointed_holder}
use Rattle.gno_type_classes.proofs.holders.holder_at.Goals as goal

pub returns-then-has_members-clause-some : goal.returns-then-has_members-clause-some
returns-then-has_members-clause-some c s u is follows own = (own, pointed_holder c.args.types.now s u follows ((c.has_members.ensures u own).0 c.if-has_members.true) c.is_no_pointer.result (c.is_no_pointer.ensures s is))

pub returns-else-has_members-clause-none : goal.returns-else-has_members-clause-none
returns-else-has_members-clause-none c _ u b is by free = search (rules, sym c.if-has_members.false ∙ (c.has_members.ensures u is).1 (has_members_of c.args.types.now u b by free))
