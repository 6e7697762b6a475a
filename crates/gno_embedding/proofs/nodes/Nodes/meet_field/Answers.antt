use Rattle.std.proofs.Common.{◌≡◌, refl, ap, ◌∙◌, ◌<◌, ◌+◌, ◌||◌, length, arith}
use Rattle.std.proofs.lemmas.Option.{slice_get_read}
use Rattle.gno_type_rows.proofs.Pushed.{at_it}
use Rattle.gno_terms.specs.declared.term.GoType.{GoType}
use Rattle.gno_terms.specs.Tables.{deep, type_at}
use Rattle.gno_embedding.specs.declared.ways.Reached.{Reached}
use Rattle.gno_embedding.proofs.Nearest.{one_place}
use Rattle.gno_embedding.proofs.Opened.{leads_to}
use Rattle.gno_embedding.proofs.Walked.{by_first, by_second, met, node_stays, not_embedded, ok_both}
use Rattle.gno_embedding.proofs.nodes.Nodes.meet_field.Goals as goal
use Rattle.gno_embedding.proofs.nodes.Nodes.meet_field.Goals.{then-from, else-from}

pub returns-then-not-field-clause-at : goal.returns-then-not-field-clause-at
returns-then-not-field-clause-at c u of field =
    let at = c.requires.at in
    record {
      places_are = at.places_are;
      walking = not_embedded c.args.rows.now c.have_one_definition.ensures c.have_one_number.ensures (deep c.args.rows.now.types c.args.term.now) c.args.self.now.items.items c.args.next c.args.place at.walking u of c.args.field.now field c.if-not-field.true;
    }

pub overflow_add-way : goal.overflow_add-way
overflow_add-way c =
    let nodes = c.args.self.now.items.items in
    let within : c.args.next < length nodes = c.requires.within in
    let walk = c.requires.at.walking.1 in
    let low = walk.low c.args.next c.index-from.result.now (slice_get_read nodes (length nodes) c.args.next c.index-from.result.now refl within c.index-from.ensures) in
    let ok = c.args.self.now.items.ok in
    omega (arith, low, within, ok)

way_followed : (c : goal.After-meet) → c.if-from.way' ≡ (c.index-from.result.now.followed || c.pointed-pointer.result.1)
way_followed c = elim c.if-from.branch [ then-from w ↦ w.way'-is ∙ by_first _ _ w.if-from.true | else-from w ↦ w.way'-is ∙ by_second _ _ w.if-from.false ]

pub returns-clause-at : goal.returns-clause-at
returns-clause-at c = ok_both c.meet.result c.meet.ensures.places c.meet.ensures.meets
    (λ places meets u of field.
    let at = c.requires.at in
    let rows = c.args.rows.now in
    let nodes = c.args.self.now.items.items in
    let v : GoType = type_at rows.types c.pointed-pointer.result.0 in
    let same : c.index-from.result.now ≡ of.node = one_place nodes c.args.next c.args.next (slice_get_read nodes (length nodes) c.args.next c.index-from.result.now refl c.requires.within c.index-from.ensures) of.at refl in
    let followed : c.if-from.way' ≡ (c.index-from.result.now.followed || c.pointed-pointer.result.1) = way_followed c in
    record {
      places_are = places;
      walking = met rows c.have_one_definition.ensures c.have_one_number.ensures (deep rows.types c.args.term.now) nodes c.args.next c.args.place at.walking u of c.pointed-pointer.result.1 v
          (leads_to rows u c.args.place c.args.field.now field c.if-not-field.false c.pointed-pointer.result.1 v c.pointed-pointer.ensures.pointer c.pointed-pointer.ensures.base)
          (record { of = c.pointed-pointer.result.0; depth = c.index-from.result.now.depth + 1; followed = c.if-from.way'; twice = c.index-from.result.now.twice; from = c.args.next; place = c.args.place; pointer = c.pointed-pointer.result.1 })
          (at_it rows.types c.pointed-pointer.result.0 c.pointed-pointer.ensures.below)
          (ap (λ (z : Reached). z.depth + 1) same)
          (followed ∙ ap (λ (z : Reached). z.followed || c.pointed-pointer.result.1) same)
          (ap (λ (z : Reached). z.twice) same) refl refl refl c.meet.new.self.items.items meets;
    })

pub returns-clause-node : goal.returns-clause-node
returns-clause-node c = ok_both c.meet.result c.meet.ensures.places c.meet.ensures.meets
    (λ places meets u of. node_stays c.args.rows.now (deep c.args.rows.now.types c.args.term.now) _ c.args.self.now.items.items c.meet.new.self.items.items _ c.args.next u meets of)
