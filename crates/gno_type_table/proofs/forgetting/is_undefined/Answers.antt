use Rattle.std.proofs.Common.{refl, rules, true, false, ◌≡◌}
use Rattle.gno_terms.specs.Tables.{type_at}
use Rattle.gno_type_table.proofs.Under.{of_defined, undefined, known_other}
use Rattle.gno_type_table.proofs.forgetting.is_undefined.Goals as goal

pub returns-in-Some-clause-known : goal.returns-in-Some-clause-known
returns-in-Some-clause-known c e s is = (
  type_at c.args.rows.now.types c.in-Some._definition.now.underlying,
  of_defined c.args.rows.now c.args.t c.term.result.now c.term.ensures.is s is c.in-Defined.path c.in-Defined.name c.in-Defined.local c.in-Defined.is c.in-Some._definition.now c.in-Some.ensures.own c.in-Some.ensures.some,
)

pub returns-in-None-clause-unknown : goal.returns-in-None-clause-unknown
returns-in-None-clause-unknown c e s is known =
    undefined c.args.rows.now c.args.t c.term.result.now c.term.ensures.is s is c.in-Defined.path c.in-Defined.name c.in-Defined.local c.in-Defined.is known.0 known.1 (c.in-None.ensures.none refl)

clash : false ≡ true → ⊥
clash e = search (rules, e)

pub returns-in_default : goal.returns-in_default
returns-in_default c = record {
  unknown = λ e. absurd (clash e);
  known = λ e s is. known_other c.args.rows.now c.args.t c.term.result.now c.term.ensures.is s is c.in_default.not-Defined;
}
