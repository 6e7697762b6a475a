use Rattle.std.proofs.Common.{inl, inr, refl}
use Rattle.gno_scan.proofs.Escaping.{big_found, has_two, hex_found, little_found, none_found, octal_found, short_found}
use Rattle.gno_scan.proofs.Fronts.{not_true}
use Rattle.gno_scan.proofs.escape.escape_length.Goals as goal

pub returns-then-is_short-clause-found : goal.returns-then-is_short-clause-found
returns-then-is_short-clause-found c = short_found c.args.quote c.args.text.now (has_two c.args.text.now c.if-text-lt2.false c.if-text-ne92.false) (c.if-is_short.ensures.0 refl)

pub returns-then-is_byte_number-clause-found : goal.returns-then-is_byte_number-clause-found
returns-then-is_byte_number-clause-found c =
    let two = has_two c.args.text.now c.if-text-lt2.false c.if-text-ne92.false in
    elim (c.if-is_byte_number.ensures.0 refl) [ inl octal ↦ octal_found c.args.quote c.args.text.now two octal | inr hex ↦ hex_found c.args.quote c.args.text.now two hex ]

pub returns-then-is_scalar-clause-found : goal.returns-then-is_scalar-clause-found
returns-then-is_scalar-clause-found c = little_found c.args.quote c.args.text.now (has_two c.args.text.now c.if-text-lt2.false c.if-text-ne92.false) (c.if-is_scalar.ensures.0 refl)

pub returns-then-is_scalar-2-clause-found : goal.returns-then-is_scalar-2-clause-found
returns-then-is_scalar-2-clause-found c = big_found c.args.quote c.args.text.now (has_two c.args.text.now c.if-text-lt2.false c.if-text-ne92.false) (c.if-is_scalar-2.ensures.0 refl)

pub returns-else-is_scalar-2-clause-none : goal.returns-else-is_scalar-2-clause-none
returns-else-is_scalar-2-clause-none c = λ none.
    none_found c.args.quote c.args.text.now (has_two c.args.text.now c.if-text-lt2.false c.if-text-ne92.false)
    (λ short. not_true (c.if-is_short.ensures.1 short)) (λ octal. not_true (c.if-is_byte_number.ensures.1 (inl octal))) (λ hex. not_true (c.if-is_byte_number.ensures.1 (inr hex)))
    (λ little. not_true (c.if-is_scalar.ensures.1 little)) (λ big. not_true (c.if-is_scalar-2.ensures.1 big))
