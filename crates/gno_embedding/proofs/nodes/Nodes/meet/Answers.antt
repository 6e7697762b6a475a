use Rattle.std.proofs.Common.{◌≡◌, refl, sym, ap, ◌∙◌, ℕ, ◌<◌, length, Some}
use Rattle.std.specs.Prelude.{slice_get}
use Rattle.std.proofs.lemmas.Option.{slice_get_read, slice_get_within}
use Rattle.gno_type_rows.proofs.Defining.{ref_eq}
use Rattle.gno_embedding.specs.declared.ways.Reached.{Reached}
use Rattle.gno_embedding.specs.Nodes.{again, to_other}
use Rattle.gno_embedding.proofs.Nearest.{one_place}
use Rattle.gno_embedding.proofs.Placed.{replaced}
use Rattle.gno_embedding.proofs.nodes.Nodes.meet.Goals as goal

pub returns-then-index-way-clause-places : goal.returns-then-index-way-clause-places
returns-then-index-way-clause-places c =
    let nodes = c.args.self.now.items.items in
    let f = c.requires.places.found c.args.way.of.0 c.in-Some.place.now (sym c.in-Some.ensures.value) in
    let at : slice_get nodes c.in-Some.place.now ≡ Some c.index_mut.result.now = slice_get_read nodes (length nodes) c.in-Some.place.now c.index_mut.result.now refl (slice_get_within nodes c.in-Some.place.now f.0 f.1) c.index_mut.ensures.value in
    replaced nodes c.args.self.now.places c.requires.places c.in-Some.place.now c.index_mut.result.now _ at refl

pub returns-then-index-way-clause-meets : goal.returns-then-index-way-clause-meets
returns-then-index-way-clause-meets c =
    let nodes = c.args.self.now.items.items in
    let place : ℕ = c.in-Some.place.now in
    let f = c.requires.places.found c.args.way.of.0 place (sym c.in-Some.ensures.value) in
    let w : place < length nodes = slice_get_within nodes place f.0 f.1 in
    let at : slice_get nodes place ≡ Some c.index_mut.result.now = slice_get_read nodes (length nodes) place c.index_mut.result.now refl w c.index_mut.ensures.value in
    let read : slice_get nodes place ≡ Some c.index.result.now = slice_get_read nodes (length nodes) place c.index.result.now refl w c.index.ensures in
    let same : f.0 ≡ c.index_mut.result.now = one_place nodes place place f.1 at refl in
    let depth : c.index_mut.result.now.depth ≡ c.args.way.depth = ap (λ (z : Reached). z.depth) (one_place nodes place place at read refl) ∙ c.if-index-way.true in
    again place c.index_mut.result.now f.3 at (ref_eq c.index_mut.result.now.of c.args.way.of (ap (λ (z : Reached). z.of.0) (sym same) ∙ f.2)) depth refl

pub returns-else-index-way-clause-meets : goal.returns-else-index-way-clause-meets
returns-else-index-way-clause-meets c =
    let nodes = c.args.self.now.items.items in
    let place : ℕ = c.in-Some.place.now in
    let f = c.requires.places.found c.args.way.of.0 place (sym c.in-Some.ensures.value) in
    let w : place < length nodes = slice_get_within nodes place f.0 f.1 in
    let read : slice_get nodes place ≡ Some c.index.result.now = slice_get_read nodes (length nodes) place c.index.result.now refl w c.index.ensures in
    let same : f.0 ≡ c.index.result.now = one_place nodes place place f.1 read refl in
    to_other place c.index.result.now f.3 read (ref_eq c.index.result.now.of c.args.way.of (ap (λ (z : Reached). z.of.0) (sym same) ∙ f.2)) c.if-index-way.false refl
