-- One token decides in lists of items that are judged apart.
use Rattle.std.proofs.Common.{◌≡◌, refl, ℕ, Bool, true, not, ◌&&◌, List, [], ◌∷◌}
use Rattle.gno_grammar.specs.Sets.{disjoint}
use Rattle.gno_grammar.specs.Phrases.{optional}
use Rattle.gno_grammar.specs.Readers.{null, first}
use Rattle.gno_grammar.specs.Deciding.{most, Sound}
use Rattle.gno_grammar.proofs.Plain.{plain}
use Rattle.gno_grammar.proofs.Sets.{and_both, not_true}
use Rattle.gno_scan.specs.declared.kind.TokenKind.{TokenKind}
use Rattle.gno_rules.specs.Kinds.{number}
use Rattle.gno_rules.specs.Parts.{P, a, to, past, up_to, listed, closed_list}
use Rattle.gno_rules.specs.Table.{grammar}
use Rattle.gno_rule_laws.proofs.TypeEnds.{shown_sets}

module _ (text : List ℕ) {A : Type 0} (separator closer : TokenKind) (item : P A) where
  -- whether the sets of an item fit its separator and what closes the list
  abbrev pub item_fits : Bool
  item_fits = not (null (grammar text) item) && (disjoint (most (grammar text) item) [] && disjoint (most (grammar text) item) (number separator ∷ []))

  abbrev pub rest_fits : Bool
  rest_fits = disjoint (most (grammar text) (past (a separator) (optional item))) (number separator ∷ [])

  abbrev pub close_fits : Bool
  close_fits = disjoint (most (grammar text) (listed separator item)) (number closer ∷ [])
      && disjoint (number closer ∷ []) (first (grammar text) (to {B = List A} (λ xs. xs.0) (up_to (listed separator item) (a closer))))

  abbrev pub tokens_fit : Bool
  tokens_fit = plain (grammar text) (a separator) && plain (grammar text) (a closer)

  -- whether all sets of such a list fit
  abbrev pub list_fits : Bool
  list_fits = tokens_fit && (item_fits && (rest_fits && close_fits))

  pub sound_closed_list : Sound (grammar text) item → list_fits ≡ true → Sound (grammar text) (closed_list separator closer item)
  unfolding shown_sets
  sound_closed_list s e =
      let tokens = and_both _ _ e in
      let items = and_both _ _ tokens.1 in
      let rests = and_both _ _ items.1 in
      let separators = and_both _ _ tokens.0 in
      let starts = and_both _ _ items.0 in
      let ends = and_both _ _ starts.1 in
      let closes = and_both _ _ rests.1 in
      ((separators.1, tt, refl), ((((s, tt, ends.0), (separators.0, (s, not_true _ starts.0), refl), refl, ends.1, rests.0), separators.1, closes.0), tt, refl), refl, closes.1)
