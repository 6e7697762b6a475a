use Rattle.std.proofs.Common.{◌≡◌, ◌∙◌, sym, rules}
use Rattle.std.specs.Prelude.{Some, None}
use mathlib.Core.Path.{subst}
use Rattle.gno_port.specs.HeldTables.{shelved, desk_name, given_table}
use Rattle.gno_port.specs.Rows.{rows_table}
use Rattle.gno_port.proofs.HeldLemmas.{brought}
use Rattle.gno_port.proofs.held.HeldTables.bring.Goals as goal

pub returns-clause-tables : goal.returns-clause-tables
returns-clause-tables c =
    let self = c.args.self.now in
    let name = c.in_ok-name.name.items in
    let other_desk : desk_name self.desk ≡ Some c.args.name.now → ⊥ = search rules in
    let others : shelved c.put_back.new.shelf name ≡ shelved self.shelf name =
    subst (λ n. shelved c.put_back.new.shelf n ≡ shelved self.shelf n) (sym c.in_ok-name.ensures.items) (c.put_back.ensures.others c.args.name.now other_desk) in
    let fresh = subst (λ n. shelved self.shelf n ≡ None → rows_table c.in_ok-fresh.fresh ≡ given_table self.given n) (sym c.in_ok-name.ensures.items) c.in_ok-fresh.ensures in
    brought self.given self.shelf c.put_back.new.shelf c.remove.new.self self.desk c.put_back.new.desk name c.as_slice.result.now c.in_ok-fresh.fresh c.unwrap_or-rows.result c.remove.result
    c.in_ok-put_back.ensures.ok c.put_back.ensures.same others fresh c.as_slice.ensures.value c.remove.ensures.value c.remove.ensures.updates c.unwrap_or-rows.ensures
