use Rattle.std.proofs.Common.{refl}
use Rattle.gno_type_classes.proofs.Known.{defined_known, undefined_known}
use Rattle.gno_type_classes.proofs.under.is_known.Goals as goal

pub returns-in-Defined : goal.returns-in-Defined
returns-in-Defined c s is = defined_known c.args.types.now c.args.t s is c.term.result.now c.term.ensures.is c.in-Defined.path c.in-Defined.name c.in-Defined.local c.in-Defined.is c.is_defined.result (c.is_defined.ensures s is)

pub returns-in_default : goal.returns-in_default
returns-in_default c s is = (λ _. undefined_known c.args.types.now c.args.t s is c.term.result.now c.term.ensures.is c.in_default.not-Defined, λ _. refl)
