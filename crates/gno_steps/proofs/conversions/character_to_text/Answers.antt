use Rattle.std.proofs.Common.{ℕ, ℤ, ◌≡◌, sym, ap, subst, ◌∙◌, List, rules}
use Rattle.std.proofs.lemmas.Int.{to_z-of_z}
use mir.Syntax.{w128}
use Rattle.std.specs.Prelude.{encode_utf8}
use Rattle.gno_typing.specs.Conversions.{character_of}
use Rattle.gno_constants.specs.declared.constant.Constant.TheVariants as k
use Rattle.gno_judging.proofs.Answers.{fails, gives, holds}
use Rattle.gno_judging.specs.Found.{ValueStands}
use Rattle.gno_judging.specs.Found.{ValueStands as value}
use Rattle.gno_steps.proofs.ConversionRules.{a_character, a_text}
use Rattle.gno_seen.proofs.ConstantTypes.{of_constants}
use Rattle.gno_type_classes.specs.Unnumbered.{unnumbered}
use Rattle.gno_typing.specs.declared.value.ValueOf.TheVariants as v
use Rattle.gno_steps.proofs.conversions.character_to_text.Goals as goal

pub returns-in_ok-text : goal.returns-in_ok-text
returns-in_ok-text c u of =
    let table = c.args.types.now in
    let same : c.in_ok-text.text ≡ encode_utf8 (character_of c.args.n) = c.in_ok-text.ensures ∙ ap (λ (z : ℤ). encode_utf8 (character_of z)) (to_z-of_z w128 c.args.n c.ranges.n) in
    let text = subst (λ (bytes : List ℕ). ValueStands table (v.Constant c.args.place c.args.of (k.Text c.in_ok-text.text)) (v.Constant c.args.place u (k.Text bytes))) same (value.constant c.args.place (k.Text c.in_ok-text.text) (of_constants table c.args.of u of)) in
    holds (ValueStands table) _ 58 c.args.place _ _ _ _ (a_character (unnumbered table) u c.args.n ((c.is_text.ensures u of.is).0 c.if-is_text.true)) (gives (ValueStands table) _ _ _ text)

pub returns-else-is_text : goal.returns-else-is_text
returns-else-is_text c u of = fails (ValueStands c.args.types.now) _ 58 c.args.place _ _ _ (λ p. search (rules, sym c.if-is_text.false ∙ (c.is_text.ensures u of.is).1 (a_text (unnumbered c.args.types.now) u c.args.n p))) c.note.ensures
