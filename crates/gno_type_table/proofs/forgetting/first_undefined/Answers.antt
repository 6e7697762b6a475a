use Rattle.std.proofs.Common.{◌≤◌, length, get_or, arith}
use Rattle.std.proofs.lemmas.Option.{slice_get-get_or}
use Rattle.gno_terms.specs.declared.term.TypeRef.{TypeRef}
use Rattle.gno_type_table.proofs.Cutting.{known_next}
use Rattle.gno_type_table.proofs.forgetting.first_undefined.Goals as goal

abbrev first : TypeRef
first = record { 0 = 0 }

pub loop-place-init : goal.loop-place-init
loop-place-init c = λ j t u w h is. absurd (omega (arith, w))

pub is_undefined-requires : goal.is_undefined-requires
is_undefined-requires c = c.requires c.loop-place.place (get_or c.args.types.now c.loop-place.place first) (slice_get-get_or c.args.types.now c.loop-place.place first c.loop-place-test.true)

pub loop-place-preserved : goal.loop-place-preserved
loop-place-preserved c =
    known_next c.args.rows.now c.args.types.now c.loop-place.place (get_or c.args.types.now c.loop-place.place first) (slice_get-get_or c.args.types.now c.loop-place.place first c.loop-place-test.true) c.loop-place.invariant
    (c.is_undefined.ensures.known c.if-is_undefined.false)

pub returns-then-is_undefined-clause-some : goal.returns-then-is_undefined-clause-some
returns-then-is_undefined-clause-some c = record {
  type = get_or c.args.types.now c.loop-place.place first;
  at = slice_get-get_or c.args.types.now c.loop-place.place first c.loop-place-test.true;
  unknown = c.is_undefined.ensures.unknown c.if-is_undefined.true;
  before = c.loop-place.invariant;
}

pub returns-clause-none : goal.returns-clause-none
returns-clause-none c e j t u w h is =
    let end : length c.args.types.now ≤ c.loop-place.place = c.loop-place-test.false in
    c.loop-place.invariant j t u (omega (arith, w, end)) h is
