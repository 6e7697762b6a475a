use Rattle.std.proofs.Common.{◌≡◌, refl, sym, ap, ◌∙◌, ◌<◌, ◌≤◌, ℕ, length, Some, arith}
use Rattle.std.specs.Prelude.{slice_get}
use Rattle.std.proofs.lemmas.Option.{slice_get_read}
use Rattle.gno_embedding.proofs.Alike.{same_field, one_more, same_lists}
use Rattle.gno_embedding.proofs.fields.are_same.Goals as goal

pub loop-place-preserved : goal.loop-place-preserved
loop-place-preserved c =
    let place : ℕ = c.loop-place.place in
    let size : length c.args.a.now ≡ length c.args.b.now = c.if-a-b.false in
    let within : place < length c.args.a.now = c.loop-place-test.true in
    let p : slice_get c.args.a.now place ≡ Some c.index-a-place.result = slice_get_read c.args.a.now (length c.args.a.now) place c.index-a-place.result refl within c.index-a-place.is in
    let q : slice_get c.args.b.now place ≡ Some c.index-b-place.result = slice_get_read c.args.b.now (length c.args.b.now) place c.index-b-place.result refl (omega (arith, size, within)) c.index-b-place.is in
    let same : c.index-a-place.result ≡ c.index-b-place.result = same_field c.index-a-place.result c.index-b-place.result (sym c.is_same.ensures ∙ c.if-not-is_same.false) in
    one_more c.args.a.now c.args.b.now place c.loop-place.invariant (p ∙ ap Some same ∙ sym q)

pub returns : goal.returns
returns c =
    let past : length c.args.a.now ≤ c.loop-place.place = c.loop-place-test.false in
    (λ t. same_lists c.args.a.now c.args.b.now c.if-a-b.false (λ k w. c.loop-place.invariant k (omega (arith, w, past))), λ e. refl)
