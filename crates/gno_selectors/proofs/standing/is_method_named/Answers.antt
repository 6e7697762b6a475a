use Rattle.std.proofs.Common.{refl, length}
use Rattle.std.proofs.lemmas.Option.{slice_get_read}
use Rattle.gno_embedding.proofs.Opened.{mapped}
use Rattle.gno_selectors.specs.Standings.{called, is_called, method_name}
use Rattle.gno_selectors.proofs.Standings.{called_at}
use Rattle.gno_selectors.proofs.standing.is_method_named.Goals as goal
use Rattle.std.proofs.Common.{map, arith, ap₂, ◌∙◌, List, ℕ}

pub returns : goal.returns
returns c =
    let methods = c.args.methods.now in
    let it = c.index-methods-place.result in
    called_at (map method_name methods) c.args.place (method_name it) (called c.args.name.now c.args.«package».now) c.is_called.result
    (mapped method_name methods c.args.place it (slice_get_read methods (length methods) c.args.place it refl (let w = c.if-place-methods.false in omega (arith, w)) c.index-methods-place.is)) (c.is_called.ensures ∙ ap₂ (λ (a b : List ℕ). is_called (called a b) (called c.args.name.now c.args.«package».now)) c.as_slice.ensures c.as_slice-2.ensures)
