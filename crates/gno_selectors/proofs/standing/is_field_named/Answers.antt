use Rattle.std.proofs.Common.{refl, length}
use Rattle.std.proofs.lemmas.Option.{slice_get_read}
use Rattle.gno_embedding.proofs.Opened.{mapped}
use Rattle.gno_selectors.specs.Standings.{called, is_called, field_name}
use Rattle.gno_selectors.proofs.Standings.{called_at}
use Rattle.gno_selectors.proofs.standing.is_field_named.Goals as goal
use Rattle.std.proofs.Common.{map, arith, ap₂, ◌∙◌, List, ℕ}

pub returns : goal.returns
returns c =
    let fields = c.args.fields.now in
    let it = c.index-fields-place.result in
    called_at (map field_name fields) c.args.place (field_name it) (called c.args.name.now c.args.«package».now) c.is_called.result
    (mapped field_name fields c.args.place it (slice_get_read fields (length fields) c.args.place it refl (let w = c.if-place-fields.false in omega (arith, w)) c.index-fields-place.is)) (c.is_called.ensures ∙ ap₂ (λ (a b : List ℕ). is_called (called a b) (called c.args.name.now c.args.«package».now)) c.as_slice.ensures c.as_slice-2.ensures)
