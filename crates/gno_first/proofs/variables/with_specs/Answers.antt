use Rattle.std.proofs.Common.{sym, ◌∙◌, arith, rules, option_map}
use Rattle.gno_first.specs.Declaring.{with_names, alone}
use Rattle.gno_first.specs.Form.{name_of_variable}
use Rattle.gno_first.specs.Options.{each}
use Rattle.gno_first.proofs.Declaring.{each_more, each_fails, each_ends, with_stands}
use Rattle.gno_first.proofs.Each.{rest_at, fails_with}
use Rattle.gno_first.proofs.variables.with_specs.Goals as goal

pub loop-spec-preserved : goal.loop-spec-preserved
loop-spec-preserved c =
    let at = rest_at c.args.specs.now c.loop-spec.spec-index c.spec-item.result (omega arith) c.spec-item.is in
    record {
      rest = each_more name_of_variable c.loop-spec.names c.args.specs.now c.loop-spec.spec-index _ _ at c.in_ok-names.ensures ∙ c.loop-spec.invariant.rest;
      stand = with_stands c.loop-spec.names _ _ c.in_ok-names.ensures;
    }

pub returns-in_err-names : goal.returns-in_err-names
returns-in_err-names c =
    let at = rest_at c.args.specs.now c.loop-spec.spec-index c.spec-item.result (omega arith) c.spec-item.is in
    let e = fails_with (with_names c.loop-spec.names (option_map alone (name_of_variable c.spec-item.result))) (with_names c.args.names (each name_of_variable c.args.specs.now)) _
    (λ none. sym c.loop-spec.invariant.rest ∙ each_fails name_of_variable c.loop-spec.names c.args.specs.now c.loop-spec.spec-index _ at none) c.in_err-names.ensures in
    search (rules, e)

pub returns : goal.returns
returns c = sym c.loop-spec.invariant.rest ∙ each_ends name_of_variable c.loop-spec.names c.args.specs.now c.loop-spec.spec-index (omega arith) c.loop-spec.invariant.stand
