use Rattle.std.proofs.Common.{◌≡◌, ◌≤◌, ◌<◌, length, arith, ap, ◌∙◌, sym, refl}
use Rattle.std.specs.Prelude.{codes}
use Rattle.std.specs.String.{string_bytes}
use Rattle.std.proofs.lemmas.Slice.Eq.{bytes_eq-Decides}
use Rattle.gno_cmd.specs.Usage.{is_table_name}
use Rattle.gno_cmd.proofs.ThreeWords.{last_one, three}
use Rattle.gno_cmd.proofs.usage.table_name.Goals as goal

pub returns-in-len3-clause-name : goal.returns-in-len3-clause-name
returns-in-len3-clause-name c =
    let low : 3 ≤ length c.args.words.now = omega (arith, c.in-len3.len_at_least) in
    let high : length c.args.words.now < 4 = omega (arith, c.in-len3.len_below) in
    let name = c.name-item-then-words-lt4.result in
    let w = three c.args.words.now c.replay-item.result c.store-item.result name low high c.replay-item.is c.store-item.is c.name-item-then-words-lt4.is in
    let v = three c.args.words.now c.replay-item.result c.store-item.result c.name-item.result low high c.replay-item.is c.store-item.is c.name-item.is in
    let same : c.name-item.result ≡ name = last_one _ _ _ _ (sym v ∙ w) in
    let replay : string_bytes c.replay-item.result ≡ codes "replay" = (bytes_eq-Decides _ _).0 (sym c.is_word.ensures ∙ c.if-not-is_word.false) in
    let store : string_bytes c.store-item.result ≡ codes "-store" = (bytes_eq-Decides _ _).0 (sym c.is_word-2.ensures ∙ c.if-not-is_word-2.false) in
    let shown : c.as_str-in-len3.result.now ≡ string_bytes name = c.as_str-in-len3.ensures.value in
    record {
      spelled = rw (w, replay, store, shown) refl;
      named = ap is_table_name (shown ∙ sym (ap string_bytes same) ∙ sym c.as_str.ensures.value) ∙ sym c.is_table_name.ensures ∙ c.if-not-is_table_name.false;
    }
