use Rattle.std.proofs.Common.{subst, sym}
use Rattle.std.specs.Option.{option_copied}
use Rattle.gno_judging.specs.Stands.{BothStand}
use Rattle.gno_names.specs.Scopes.{NamedStands}
use Rattle.gno_names.proofs.Innermost.{innermost_at_end, innermost_stands}
use Rattle.gno_typing.specs.Names.{meaning_of}
use Rattle.gno_names.proofs.meaning.meaning_of.Goals as goal

pub returns : goal.returns
returns c table ms h = subst (λ x. BothStand (NamedStands table) x (meaning_of ms c.args.name.now)) (sym (innermost_at_end (option_copied c.loop-one.found) c.args.names.now c.loop-one.one-index c.args.name.now c.loop-one-test.false c.loop-one.invariant)) (innermost_stands table c.args.name.now c.args.names.now ms h)
