use Rattle.std.proofs.Common.{refl}
use Rattle.gno_selectors.proofs.Rows.{undefined, underlying_defined, underlying_error, underlying_itself}
use Rattle.gno_selectors.proofs.members.underlying.Goals as goal

pub returns-in-Some-clause-underlying : goal.returns-in-Some-clause-underlying
returns-in-Some-clause-underlying c s is =
    underlying_defined c.args.rows.now c.args.t c.term-term.result.now c.term-term.ensures.is s is c.in-Defined.path c.in-Defined.name c.in-Defined.local c.in-Defined.is c.in-Some.definition.now c.in-Some.ensures.own c.in-Some.ensures.some
    c.term.result.now c.term.ensures.is

pub returns-in-None-clause-underlying : goal.returns-in-None-clause-underlying
returns-in-None-clause-underlying c s is =
    absurd (undefined c.args.rows.now c.args.t c.term-term.result.now c.term-term.ensures.is s is c.in-Defined.path c.in-Defined.name c.in-Defined.local c.in-Defined.is (c.requires.known s is) (c.in-None.ensures.none refl))

pub returns-in-Error-clause-underlying : goal.returns-in-Error-clause-underlying
returns-in-Error-clause-underlying c s is = underlying_error c.args.rows.now c.args.t c.term-term.result.now c.term-term.ensures.is s is c.in-Error.is c.args.error c.requires.error c.term-in-Error.result.now c.term-in-Error.ensures.is

pub returns-in_default-clause-underlying : goal.returns-in_default-clause-underlying
returns-in_default-clause-underlying c s is = underlying_itself c.args.rows.now c.args.t c.term-term.result.now c.term-term.ensures.is s is c.in_default.not-Defined c.in_default.not-Error
