use Rattle.std.proofs.Common.{◌≡◌, sym, ◌∙◌, subst, ◌+◌, ◌<◌, ◌≤◌, arith, length}
use Rattle.std.proofs.lemmas.Option.{slice_get_within}
use Rattle.gno_type_rows.proofs.Forgotten.{forgot_then, forgot_else, Forgot}
use Rattle.gno_type_rows.proofs.rows.forget.Goals as goal
use Rattle.gno_type_rows.proofs.rows.forget.Goals.{then-is_of_path+in-Some-1, then-is_of_path+in-None-1, else-is_of_path}

pub loop-number-preserved : goal.loop-number-preserved
loop-number-preserved c = elim c.if-is_of_path.branch [
  | then-is_of_path+in-Some-1 w ↦ subst (λ v. Forgot c.args.path.now c.args.terms.now c.args.definitions.now.items v.items (c.loop-number.number + 1)) (sym w.definitions-is)
      (forgot_then c.args.path.now c.args.terms.now c.args.definitions.now.items c.loop-number.definitions.items c.loop-number.number c.index-terms-number.result c.index-terms-number.is c.requires c.loop-number.invariant (sym c.is_of_path.ensures ∙ w.if-is_of_path.true))
  | then-is_of_path+in-None-1 w ↦ subst (λ v. Forgot c.args.path.now c.args.terms.now c.args.definitions.now.items v.items (c.loop-number.number + 1)) (sym w.definitions-is)
      (forgot_then c.args.path.now c.args.terms.now c.args.definitions.now.items c.loop-number.definitions.items c.loop-number.number c.index-terms-number.result c.index-terms-number.is c.requires c.loop-number.invariant (sym c.is_of_path.ensures ∙ w.if-is_of_path.true))
  | else-is_of_path w ↦ subst (λ v. Forgot c.args.path.now c.args.terms.now c.args.definitions.now.items v.items (c.loop-number.number + 1)) (sym w.definitions-is)
      (forgot_else c.args.path.now c.args.terms.now c.args.definitions.now.items c.loop-number.definitions.items c.loop-number.number c.index-terms-number.result c.index-terms-number.is c.requires c.loop-number.invariant (sym c.is_of_path.ensures ∙ w.if-is_of_path.false))
]

pub returns-clause-each : goal.returns-clause-each
returns-clause-each c n x h =
    let within : n < length c.args.terms.now = slice_get_within c.args.terms.now n x h in
    let size : length c.args.terms.now ≡ length c.args.definitions.now.items = c.requires in
    let end : c.len-number-end.result ≤ c.loop-number.number = c.loop-number-test.false in
    let len = c.len-number-end.ensures in
    let ok = c.args.definitions.now.ok.0 in
    c.loop-number.invariant.1 n x (omega (arith, within, size, end, len, ok)) h
