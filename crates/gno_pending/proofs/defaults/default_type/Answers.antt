use Rattle.std.proofs.Common.{sym, subst}
use Rattle.gno_base.specs.declared.kind.Kind.TheVariants as k
use Rattle.gno_giving.proofs.Defaults.{basic_is_typed}
use Rattle.gno_judging.specs.Found.{TypeStands}
use Rattle.gno_typing.specs.Giving.{default_of}
use Rattle.gno_pending.proofs.defaults.default_type.Goals as goal

pub returns-then-rune : goal.returns-then-rune
returns-then-rune c table basics = subst (λ b. TypeStands table c.args.basics.rune (default_of b)) (sym c.if-rune.true) (record { is = basics.rune; typed = basic_is_typed k.Int32 })

pub returns-else-rune : goal.returns-else-rune
returns-else-rune c table basics = subst (λ b. TypeStands table c.args.basics.int (default_of b)) (sym c.if-rune.false) (record { is = basics.int; typed = basic_is_typed k.Int })
