use Rattle.std.proofs.Common.{sym, ◌∙◌, arith, rules, option_map}
use Rattle.gno_first.specs.Declaring.{with_names, alone}
use Rattle.gno_first.specs.Declaring.{name_in}
use Rattle.gno_first.specs.Options.{each}
use Rattle.gno_first.proofs.Declaring.{each_more, each_fails, each_ends, with_stands}
use Rattle.gno_first.proofs.Each.{rest_at, fails_with}
use Rattle.gno_first.proofs.functions.with_functions.Goals as goal

pub loop-item-preserved : goal.loop-item-preserved
loop-item-preserved c =
    let at = rest_at c.args.declared.now c.loop-item.item-index c.item-item.result (omega arith) c.item-item.is in
    record {
      rest = each_more name_in c.loop-item.names c.args.declared.now c.loop-item.item-index _ _ at c.in_ok-names.ensures ∙ c.loop-item.invariant.rest;
      stand = with_stands c.loop-item.names _ _ c.in_ok-names.ensures;
    }

pub returns-in_err-names : goal.returns-in_err-names
returns-in_err-names c =
    let at = rest_at c.args.declared.now c.loop-item.item-index c.item-item.result (omega arith) c.item-item.is in
    let e = fails_with (with_names c.loop-item.names (option_map alone (name_in c.item-item.result))) (with_names c.args.names (each name_in c.args.declared.now)) _
    (λ none. sym c.loop-item.invariant.rest ∙ each_fails name_in c.loop-item.names c.args.declared.now c.loop-item.item-index _ at none) c.in_err-names.ensures in
    search (rules, e)

pub returns : goal.returns
returns c = sym c.loop-item.invariant.rest ∙ each_ends name_in c.loop-item.names c.args.declared.now c.loop-item.item-index (omega arith) c.loop-item.invariant.stand
