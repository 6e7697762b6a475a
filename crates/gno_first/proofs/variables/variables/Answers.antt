use Rattle.std.proofs.Common.{sym, ◌∙◌, arith, rules, [], refl}
use Rattle.gno_first.specs.Declaring.{with_names}
use Rattle.gno_first.specs.Form.{names_in}
use Rattle.gno_first.specs.Options.{all_from}
use Rattle.gno_first.proofs.Declaring.{from_more, from_fails, from_ends, with_stands, nothing_stands}
use Rattle.gno_first.proofs.Each.{rest_at, fails_with}
use Rattle.gno_first.proofs.variables.variables.Goals as goal

pub loop-item-init : goal.loop-item-init
loop-item-init c = record { rest = rw c.new-names.ensures refl; stand = rw c.new-names.ensures nothing_stands }

pub loop-item-preserved : goal.loop-item-preserved
loop-item-preserved c =
    let at = rest_at c.args.declared.now c.loop-item.item-index c.item-item.result (omega arith) c.item-item.is in
    record {
      rest = from_more names_in c.loop-item.names c.args.declared.now c.loop-item.item-index _ _ at c.in_ok-names.ensures ∙ c.loop-item.invariant.rest;
      stand = with_stands c.loop-item.names _ _ c.in_ok-names.ensures;
    }

pub returns-in_err-names : goal.returns-in_err-names
returns-in_err-names c =
    let at = rest_at c.args.declared.now c.loop-item.item-index c.item-item.result (omega arith) c.item-item.is in
    let e = fails_with (with_names c.loop-item.names (names_in c.item-item.result)) (with_names [] (all_from names_in c.args.declared.now)) _
    (λ none. sym c.loop-item.invariant.rest ∙ from_fails names_in c.loop-item.names c.args.declared.now c.loop-item.item-index _ at none) c.in_err-names.ensures in
    search (rules, e)

pub returns : goal.returns
returns c = sym c.loop-item.invariant.rest ∙ from_ends names_in c.loop-item.names c.args.declared.now c.loop-item.item-index (omega arith) c.loop-item.invariant.stand
