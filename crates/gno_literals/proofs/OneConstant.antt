-- A literal spells one constant.
use Rattle.std.proofs.Common.{◌≡◌, ℕ, pos, List, sym, ap, refl, ◌∙◌}
use Rattle.gno_constants.specs.declared.constant.Constant.{Constant}
use Rattle.gno_constants.specs.declared.constant.Constant.TheVariants.{Text, Whole}
use Rattle.gno_tree.specs.declared.word.LiteralKind.{LiteralKind}
use Rattle.gno_literals.specs.Literals.{Spells, integer, rune, string}
use Rattle.gno_literals.proofs.Spelling.{integer_of, one_integer, one_rune, one_text, rune_of, text_of}

pub one_constant : (kind : LiteralKind) (word : List ℕ) (v u : Constant) → Spells kind word v → Spells kind word u → v ≡ u
one_constant _ _ _ u (integer word value is) other = let o = integer_of _ word u other refl in ap (λ n. Whole (pos n)) (one_integer word value o.value is o.is) ∙ sym o.constant_is
one_constant _ _ _ u (rune word value is) other = let o = rune_of _ word u other refl in ap (λ n. Whole (pos n)) (one_rune word value o.value is o.is) ∙ sym o.constant_is
one_constant _ _ _ u (string word bytes is) other = let o = text_of _ word u other refl in ap Text (one_text word word bytes o.bytes is o.is refl) ∙ sym o.constant_is
