use Rattle.std.proofs.Common.{◌≡◌, ◌∙◌, ◌∷◌, ◌++◌, [], ap, sym, subst, arith, length, length-append, List, ℕ, to_z}
use Rattle.std.specs.Prelude.{Some, None}
use Rattle.std.specs.Int.{cast_unsigned, w64}
use Rattle.gno_port.specs.Tables.{latest}
use Rattle.gno_table.specs.Rows.{variable_key}
use Rattle.gno_table.specs.Sources.{word_in}
use Rattle.gno_table.proofs.FoundPackages.{bits_small, same_int, value_stands, values_end, word_found}
use Rattle.gno_base.specs.Number.{Number}
use Rattle.gno_machine.specs.Ints.{AreInts, IsInt}
use Rattle.gno_table.proofs.Zeros.{AreInts-push}
use Rattle.gno_table.proofs.loading.values_of.Goals as goal

pub loop-name-preserved : goal.loop-name-preserved
loop-name-preserved c =
    let is_int : IsInt c.int.result = (ap (λ (n : Number). n.kind) c.int.ensures.number, c.int.ensures.range) in
    record {
      count = omega (arith, ap length c.in_ok-push.ensures.ok, length-append {A = Number}, c.loop-name.invariant.count);
      ints = subst (λ (vs : List Number). AreInts vs) (sym c.in_ok-push.ensures.ok) (AreInts-push c.loop-name.values c.int.result c.loop-name.invariant.ints is_int);
      found = λ s values stand.
          let so = c.loop-name.invariant.found s values stand in
          let here = value_stands c.args.rows.now c.args.path.now c.args.names.now values c.loop-name.name-index c.name-item.result c.loop-name-test.true c.name-item.is so.1 in
          let key = c.as_slice-in-loop-name.ensures ∙ c.in_ok-key.ensures ∙ ap (variable_key c.args.path.now) c.as_slice.ensures in
          let word = sym c.in-Some.is ∙ c.word_of.ensures s ∙ ap word_in (ap (λ (k : List ℕ). latest c.args.rows.now k None) key ∙ here.1.1) in
          let made : c.int.result ≡ here.0 = same_int c.int.result here.0 c.in-Some.word (ap (λ (n : Number). n.value) c.int.ensures.number ∙ ap (λ z. to_z w64 (cast_unsigned w64 z)) c.cast_signed.ensures) is_int here.1.0 word in
          (c.in_ok-push.ensures.ok ∙ (λ i. so.0 i ++ made i ∷ []) ∙ sym here.1.2, here.1.3);
    }

pub returns-in_default-clause-finds : goal.returns-in_default-clause-finds
returns-in_default-clause-finds c s values stand =
    let so = c.loop-name.invariant.found s values stand in
    let here = value_stands c.args.rows.now c.args.path.now c.args.names.now values c.loop-name.name-index c.name-item.result c.loop-name-test.true c.name-item.is so.1 in
    let key = c.as_slice-in-loop-name.ensures ∙ c.in_ok-key.ensures ∙ ap (variable_key c.args.path.now) c.as_slice.ensures in
    let word = c.word_of.ensures s ∙ ap word_in (ap (λ (k : List ℕ). latest c.args.rows.now k None) key ∙ here.1.1) ∙ word_found (cast_unsigned w64 here.0.value) (bits_small here.0 here.1.0) in
    absurd (c.in_default.not-Some _ word)

pub returns-clause-finds : goal.returns-clause-finds
returns-clause-finds c s values stand =
    let so = c.loop-name.invariant.found s values stand in
    ap Some (so.0 ∙ values_end c.args.rows.now c.args.path.now c.args.names.now values c.loop-name.name-index c.loop-name-test.false so.1)
