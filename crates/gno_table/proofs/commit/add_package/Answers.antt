use Rattle.std.proofs.Common.{◌≡◌, ◌<◌, ◌^◌, ◌∷◌, ◌++◌, [], ap, subst, ℕ, arith, length, length-append}
use Rattle.gno_items.specs.declared.memory.Package.{Package}
use Rattle.gno_table.specs.Rows.{LeaveSame, added_rows, added_rows_at}
use Rattle.gno_table.proofs.AddedRows.{stands_added}
use Rattle.gno_table.proofs.commit.add_package.Goals as goal

pub returns-clause-stands : goal.returns-clause-stands
returns-clause-stands g c =
    let count : length c.push.new.self ≡ length (c.args.packages.now ++ c.args.held ∷ []) = ap length c.in-Ok-push.ensures.ok in
    let few : length c.push.new.self < 2 ^ 63 = omega (arith, count, length-append {A = Package}, c.len-order.ensures, c.if-order-ge-MOST_PACKAGES.false) in
    let leave : LeaveSame c.in-Ok.batch.changes (added_rows c.args.packages.now c.args.held) = subst (λ (n : ℕ). LeaveSame c.in-Ok.batch.changes (added_rows_at n c.args.held)) c.len-order.ensures c.in-Ok.ensures.rows in
    stands_added (g.K.Keeper.tables c.args.keeper.now) (g.K.Keeper.tables c.apply.new.self) (g.K.Keeper.open_name c.args.keeper.now) _ c.in-Ok.batch.changes c.args.packages.now _ c.args.held
    c.requires.stands c.requires.well c.requires.new few c.in_ok-apply.ensures.ok c.in_ok-apply.ensures.open.1 leave c.in-Ok-push.ensures.ok
