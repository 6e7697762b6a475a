use Rattle.std.proofs.Common.{sym, ap, ◌∙◌, subst, ℕ, List, [], ◌∷◌, ◌++◌, length, length-append, arith}
use Rattle.std.specs.Prelude.{slice_get}
use Rattle.gno_layouts.specs.declared.row.Row.{Row}
use Rattle.gno_layouts.specs.Settling.{AreRows}
use Rattle.gno_layouts.proofs.Ends.{get_left, get_last}
use Rattle.gno_layouts.proofs.tests.add.Goals as goal

pub push-requires : goal.push-requires
push-requires c = subst (λ (n : ℕ). AreRows n c.args.row) (sym c.requires.counted) c.requires.rows

pub returns-clause-counted : goal.returns-clause-counted
returns-clause-counted c =
    let e = ap length c.in_ok-push.ensures.ok in
    let a = length-append c.args.layouts.now (c.args.row ∷ []) in
    let n = c.requires.counted in
    omega (arith, e, a, n)

pub returns-clause-kept : goal.returns-clause-kept
returns-clause-kept c n old h = ap (λ (l : List Row). slice_get l n) c.in_ok-push.ensures.ok ∙ get_left c.args.layouts.now c.args.row n old h

pub returns-clause-added : goal.returns-clause-added
returns-clause-added c =
    ap (λ (l : List Row). slice_get l c.args.number) c.in_ok-push.ensures.ok
    ∙ ap (slice_get (c.args.layouts.now ++ c.args.row ∷ [])) (sym c.requires.counted) ∙ get_last c.args.layouts.now c.args.row
