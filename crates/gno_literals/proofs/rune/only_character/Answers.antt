use Rattle.std.proofs.Common.{◌≡◌, ◌∙◌, ◌++◌, [], ap, arith, length, subst, sym}
use Rattle.std.specs.Char.{encode_utf8, len_utf8}
use Rattle.std.specs.Str.{IsUtf8}
use Rattle.std.proofs.lemmas.List.{append-nil}
use Rattle.std.proofs.lemmas.Str.{encode_same, IsUtf8-encode, length-encode}
use Rattle.gno_scan.proofs.Characters.{not_empty}
use Rattle.gno_literals.proofs.rune.only_character.Goals as goal

pub returns-in_default-clause-none : goal.returns-in_default-clause-none
returns-in_default-clause-none c = λ none x scalar is. c.in_default.ensures.cases.0 (subst IsUtf8 (sym is) (IsUtf8-encode x scalar))

pub returns-in_err-first-clause-none : goal.returns-in_err-first-clause-none
returns-in_err-first-clause-none c = λ none x scalar is.
    omega (arith, c.in_err-first.ensures.steps.0.0, ap length c.chars.ensures.rest, ap length c.in-Ok.ensures.cases.0, ap length is, not_empty x)

pub returns-else-len_utf8-bytes-clause-none : goal.returns-else-len_utf8-bytes-clause-none
returns-else-len_utf8-bytes-clause-none c = λ none x scalar is.
    let rest = c.next.new.self.rest.now in
    let whole : encode_utf8 c.in_ok-first.first ++ rest ≡ encode_utf8 x ++ [] = sym c.in_ok-first.ensures.steps.0 ∙ c.chars.ensures.rest ∙ c.in-Ok.ensures.cases.0 ∙ is ∙ sym (append-nil (encode_utf8 x)) in
    let same : c.in_ok-first.first ≡ x = (encode_same c.in_ok-first.first x rest [] whole).0 in
    c.if-len_utf8-bytes.false (c.len_utf8.ensures.value ∙ ap len_utf8 same ∙ sym (length-encode x) ∙ sym (ap length is))
