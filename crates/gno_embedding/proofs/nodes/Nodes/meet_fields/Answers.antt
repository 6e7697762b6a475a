use Rattle.std.proofs.Common.{refl, ◌≤◌, length, arith}
use Rattle.std.proofs.lemmas.Option.{slice_get_read, slice_get_within}
use Rattle.gno_terms.specs.Tables.{deep}
use Rattle.gno_embedding.proofs.Opened.{field_at, field_below}
use Rattle.gno_embedding.proofs.Walked.{all_fields}
use Rattle.gno_embedding.proofs.nodes.Nodes.meet_fields.Goals as goal

pub meet_field-requires-clause-below : goal.meet_field-requires-clause-below
meet_field-requires-clause-below c =
    let f = c.loop-place.invariant.fields in
    let fields = c.args.fields.now in
    field_below c.args.rows.now f.0 fields f.2 c.loop-place.place c.index-fields-place.result (slice_get_read fields (length fields) c.loop-place.place c.index-fields-place.result refl c.loop-place-test.true c.index-fields-place.is)

pub meet_field-requires-clause-within : goal.meet_field-requires-clause-within
meet_field-requires-clause-within c = let f = c.loop-place.invariant.fields in slice_get_within c.loop-place.self.items.items c.args.next f.1.node f.1.at

pub loop-place-preserved : goal.loop-place-preserved
loop-place-preserved c =
    let f = c.loop-place.invariant.fields in
    let fields = c.args.fields.now in
    let at = slice_get_read fields (length fields) c.loop-place.place c.index-fields-place.result refl c.loop-place-test.true c.index-fields-place.is in
    record {
      at = c.in_ok-meet_field.ensures.at f.0 f.1 (field_at c.args.rows.now f.0 fields f.2 c.loop-place.place c.index-fields-place.result at);
      fields = (f.0, c.in_ok-meet_field.ensures.node f.0 f.1, f.2);
    }

pub returns : goal.returns
returns c =
    let f = c.loop-place.invariant.fields in
    let past : length c.args.fields.now ≤ c.loop-place.place = c.loop-place-test.false in
    record {
      at = record {
        places_are = c.loop-place.invariant.at.places_are;
        walking = all_fields c.args.rows.now c.have_one_definition.ensures c.have_one_number.ensures (deep c.args.rows.now.types c.args.term.now) c.loop-place.self.items.items c.args.next c.loop-place.place c.loop-place.invariant.at.walking f.0 f.1 c.args.fields.now f.2 (let end = c.loop-place.auto.place-end in omega (arith, past, end));
      };
      within = slice_get_within c.loop-place.self.items.items c.args.next f.1.node f.1.at;
    }
