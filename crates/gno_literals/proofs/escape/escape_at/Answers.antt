use Rattle.std.proofs.Common.{refl}
use Rattle.gno_scan.proofs.Escaping.{has_two, none_found}
use Rattle.gno_literals.proofs.Escaping.{big_found, hex_found, little_found, octal_found, part_as, short_found}
use Rattle.gno_literals.proofs.escape.escape_at.Goals as goal

pub returns-in-Some-clause-found : goal.returns-in-Some-clause-found
returns-in-Some-clause-found c =
    let text = c.args.text.now in
    part_as c.args.quote text c.byte_part.result _ c.byte_part.ensures
    (short_found c.args.quote c.in-Some.byte text (has_two text c.if-text-lt2.false c.if-text-ne92.false) c.in-Some.ensures.found)

pub returns-in-Some-octal_at-clause-found : goal.returns-in-Some-octal_at-clause-found
returns-in-Some-octal_at-clause-found c =
    let text = c.args.text.now in
    let found = c.in-Some-octal_at.ensures.found in
    part_as c.args.quote text c.byte_part-in-Some-octal_at.result _ c.byte_part-in-Some-octal_at.ensures
    (octal_found c.args.quote c.in-Some-octal_at.byte text (has_two text c.if-text-lt2.false c.if-text-ne92.false) found.0 found.1)

pub returns-in-Some-hex_byte_at-clause-found : goal.returns-in-Some-hex_byte_at-clause-found
returns-in-Some-hex_byte_at-clause-found c =
    let text = c.args.text.now in
    let found = c.in-Some-hex_byte_at.ensures.found in
    part_as c.args.quote text c.byte_part-in-Some-hex_byte_at.result _ c.byte_part-in-Some-hex_byte_at.ensures
    (hex_found c.args.quote c.in-Some-hex_byte_at.byte text (has_two text c.if-text-lt2.false c.if-text-ne92.false) found.0 found.1)

pub returns-in-Some-scalar_at-clause-found : goal.returns-in-Some-scalar_at-clause-found
returns-in-Some-scalar_at-clause-found c =
    let text = c.args.text.now in
    let found = c.in-Some-scalar_at.ensures.found in
    part_as c.args.quote text c.character_part.result _ c.character_part.ensures
    (little_found c.args.quote c.in-Some-scalar_at.c text (has_two text c.if-text-lt2.false c.if-text-ne92.false) found.0 found.1)

pub returns-in-Some-scalar_at-2-clause-found : goal.returns-in-Some-scalar_at-2-clause-found
returns-in-Some-scalar_at-2-clause-found c =
    let text = c.args.text.now in
    let found = c.in-Some-scalar_at-2.ensures.found in
    part_as c.args.quote text c.character_part-in-Some-scalar_at-2.result _ c.character_part-in-Some-scalar_at-2.ensures
    (big_found c.args.quote c.in-Some-scalar_at-2.c text (has_two text c.if-text-lt2.false c.if-text-ne92.false) found.0 found.1)

pub returns-in-None-clause-none : goal.returns-in-None-clause-none
returns-in-None-clause-none c = λ none.
    let text = c.args.text.now in
    none_found c.args.quote text (has_two text c.if-text-lt2.false c.if-text-ne92.false)
    (c.in_default.ensures.none refl) (c.in_default-octal_at.ensures.none refl) (c.in_default-hex_byte_at.ensures.none refl)
    (c.in_default-scalar_at.ensures.none refl) (c.in-None.ensures.none refl)
