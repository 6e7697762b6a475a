-- One token decides in declarations and files.
use Rattle.std.proofs.Common.{◌≡◌, refl, ℕ, true, List, [], ◌∷◌}
use Rattle.gno_grammar.specs.Sets.{disjoint}
use Rattle.gno_grammar.specs.Readers.{first}
use Rattle.gno_grammar.specs.Deciding.{most, Sound}
use Rattle.gno_grammar.proofs.Plain.{easy}
use Rattle.gno_scan.specs.declared.kind.TokenKind.TheVariants as k
use Rattle.gno_rules.specs.Parts.{P, to, one, names}
use Rattle.gno_rules.specs.Kinds.{number}
use Rattle.gno_rules.specs.Declarations.{one_or_group, initial, const, var, const_declaration, type_declaration, var_declaration, declaration, receiver, function, top_level, imports, top_levels, package_clause, file}
use Rattle.gno_rules.specs.Table.{grammar}
use Rattle.gno_rules.specs.declared.expression.Place.TheVariants.{Plain}
use Rattle.gno_rule_laws.proofs.TypeEnds.{shown, shown_sets}
use Rattle.gno_rule_laws.proofs.Lists.{list_fits, sound_closed_list}
use Rattle.gno_rule_laws.proofs.SignaturesSound.{sound_name, sound_signature}
use Rattle.gno_rule_laws.proofs.ListsSound.{sound_values}

module _ (text : List ℕ) where
  -- ---- constants, types and variables

  sound_names : Sound (grammar text) (names text)
  unfolding shown
  sound_names = easy (grammar text) (names text) refl

  sound_initial : Sound (grammar text) (initial text)
  unfolding shown
  sound_initial = (refl, sound_values text Plain, refl)

  sound_const : Sound (grammar text) (const text)
  unfolding shown
  sound_const = (sound_names, ((sound_initial, tt, refl), ((tt, sound_initial, refl), tt, refl, refl), refl, refl), refl)

  sound_var : Sound (grammar text) (var text)
  unfolding shown
  sound_var = (sound_names, ((sound_initial, tt, refl), (tt, (sound_initial, tt, refl, refl), refl), refl, refl), refl)

  -- one, or any number in parentheses
  sound_group : {A : Type 0} (spec : P A) → Sound (grammar text) spec → list_fits text k.Semicolon k.RightParen spec ≡ true → disjoint (most (grammar text) spec) [] ≡ true
      → disjoint (number k.LeftParen ∷ []) (first (grammar text) (to one spec)) ≡ true → Sound (grammar text) (one_or_group text spec)
  unfolding shown_sets
  sound_group spec s fits ends starts = ((refl, sound_closed_list text k.Semicolon k.RightParen spec s fits, refl), (s, tt, ends), refl, starts)

  sound_const_declaration : Sound (grammar text) (const_declaration text)
  unfolding shown
  sound_const_declaration = (refl, sound_group (const text) sound_const refl refl refl, refl)

  sound_type_declaration : Sound (grammar text) (type_declaration text)
  unfolding shown
  sound_type_declaration = easy (grammar text) (type_declaration text) refl

  sound_var_declaration : Sound (grammar text) (var_declaration text)
  unfolding shown
  sound_var_declaration = (refl, sound_group (var text) sound_var refl refl refl, refl)

  pub sound_declaration : Sound (grammar text) (declaration text)
  unfolding shown
  sound_declaration = (sound_const_declaration, (sound_type_declaration, sound_var_declaration, refl, refl), refl, refl)

  -- ---- functions

  sound_receiver : Sound (grammar text) (receiver text)
  unfolding shown
  sound_receiver = easy (grammar text) (receiver text) refl

  sound_function : Sound (grammar text) (function text)
  unfolding shown
  sound_function = (refl, ((sound_receiver, refl), (sound_name text, ((sound_signature text, (tt, refl), refl), refl), refl), refl), refl)

  -- ---- files

  sound_top_level : Sound (grammar text) (top_level text)
  unfolding shown
  sound_top_level = ((sound_declaration, tt, refl), (sound_function, tt, refl), refl, refl)

  sound_imports : Sound (grammar text) (imports text)
  unfolding shown
  sound_imports = easy (grammar text) (imports text) refl

  sound_top_levels : Sound (grammar text) (top_levels text)
  unfolding shown
  sound_top_levels = (tt, (sound_top_level, refl, refl), refl, refl, refl)

  pub sound_file : Sound (grammar text) (file text)
  unfolding shown
  sound_file = (easy (grammar text) (package_clause text) refl, (sound_imports, sound_top_levels, refl), refl)
