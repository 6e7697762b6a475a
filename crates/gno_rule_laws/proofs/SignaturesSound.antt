-- One token decides in names of types, parameters and signatures.
use Rattle.std.proofs.Common.{◌≡◌, refl, ℕ, Bool, true, false, List, [], Option, Some, None}
use Rattle.gno_grammar.specs.Sets.{disjoint, within}
use Rattle.gno_grammar.specs.Phrases.{optional}
use Rattle.gno_grammar.specs.Deciding.{most, more, Sound}
use Rattle.gno_grammar.proofs.Plain.{easy}
use Rattle.gno_scan.specs.declared.kind.TokenKind.TheVariants as k
use Rattle.gno_scan.specs.declared.token.Pos.{Pos}
use Rattle.gno_tree.specs.declared.type_expr.Parameter.{Parameter}
use Rattle.gno_tree.specs.declared.word.Name.{Name as NameTree}
use Rattle.gno_rules.specs.Parts.{P, past, a, name, dotted}
use Rattle.gno_rules.specs.Signatures.{type_read_more, signature_more, COMMA, PARAMETERS_MORE, type_name, type_by_name, named_type, first_entry, further_names, next_entry, parameter_list, parameters, results, signature, with_results}
use Rattle.gno_rules.specs.Table.{grammar}
use Rattle.gno_rules.specs.declared.parameters.Entry.{Entry}
use Rattle.gno_rules.specs.declared.parameters.ListState.{ListState}
use Rattle.gno_rules.specs.declared.parameters.ListState.TheVariants.{Names, Types, Named, Last, Ended}
use Rattle.gno_rules.specs.declared.types.TypeEnd.{TypeEnd}
use Rattle.gno_rule_laws.proofs.TypeEnds.{shown, end_within, end_same, end_same_none, end_apart_none}

module _ (text : List ℕ) where
  -- ---- names of types

  pub sound_name : Sound (grammar text) (name text)
  unfolding shown
  sound_name = easy (grammar text) (name text) refl

  pub sound_type_name : Sound (grammar text) (type_name text)
  unfolding shown
  sound_type_name = easy (grammar text) (type_name text) refl

  name_within : (n : NameTree) (m : Option NameTree) → within (more (grammar text) (optional (dotted text)) m) (type_read_more (named_type n m)) ≡ true
  unfolding shown
  name_within n None = refl
  name_within n (Some m) = refl

  pub sound_type_by_name : Sound (grammar text) (type_by_name text)
  unfolding shown
  sound_type_by_name = (sound_name, λ _. easy (grammar text) (optional (dotted text)) refl, λ _. refl, λ _. refl, name_within, λ x. end_within x.end, λ _. refl)

  -- ---- parameters

  pub sound_further_names : Sound (grammar text) (further_names text)
  unfolding shown
  sound_further_names = easy (grammar text) (further_names text) refl

  -- the first entry of a list
  FirstFits : Bool → Type 0
  FirstFits variadics = Sound (grammar text) (first_entry text variadics) × (disjoint (most (grammar text) (first_entry text variadics)) [] ≡ true)
      × (disjoint (most (grammar text) (first_entry text variadics)) COMMA ≡ true) × (within (most (grammar text) (first_entry text variadics)) PARAMETERS_MORE ≡ true)

  first_fits : (variadics : Bool) → FirstFits variadics
  unfolding shown FirstFits
  first_fits true = (easy (grammar text) (first_entry text true) refl, refl, refl, refl)
  first_fits false = (easy (grammar text) (first_entry text false) refl, refl, refl, refl)

  -- an entry behind a comma, and the comma
  abbrev one_more : Bool → ListState → P Entry
  one_more variadics state = past (a k.Comma) (next_entry text variadics state)

  NextFits : Bool → ListState → Type 0
  NextFits variadics state = Sound (grammar text) (one_more variadics state)
      × ((e : Entry) → disjoint (more (grammar text) (one_more variadics state) e) COMMA ≡ true) × ((e : Entry) → within (more (grammar text) (one_more variadics state) e) PARAMETERS_MORE ≡ true)

  next_fits : (variadics : Bool) (state : ListState) → NextFits variadics state
  unfolding shown NextFits
  next_fits true Names = (easy (grammar text) (one_more true Names) refl, λ _. refl, λ _. refl)
  next_fits true Types = (easy (grammar text) (one_more true Types) refl, λ _. refl, λ _. refl)
  next_fits true Named = (easy (grammar text) (one_more true Named) refl, λ _. refl, λ _. refl)
  next_fits true Last = (easy (grammar text) (one_more true Last) refl, λ _. refl, λ _. refl)
  next_fits true Ended = (easy (grammar text) (one_more true Ended) refl, λ _. refl, λ _. refl)
  next_fits false Names = (easy (grammar text) (one_more false Names) refl, λ _. refl, λ _. refl)
  next_fits false Types = (easy (grammar text) (one_more false Types) refl, λ _. refl, λ _. refl)
  next_fits false Named = (easy (grammar text) (one_more false Named) refl, λ _. refl, λ _. refl)
  next_fits false Last = (easy (grammar text) (one_more false Last) refl, λ _. refl, λ _. refl)
  next_fits false Ended = (easy (grammar text) (one_more false Ended) refl, λ _. refl, λ _. refl)

  sound_parameter_list : (variadics : Bool) → Sound (grammar text) (parameter_list text variadics)
  unfolding shown FirstFits NextFits
  sound_parameter_list variadics = let first = first_fits variadics in (
    (first.0, tt, first.1),
    λ list. (next_fits variadics list.state).0,
    λ _. refl,
    λ _ _. first.2,
    λ list e _. (next_fits variadics list.state).1 e,
    λ _ _. refl,
    λ list e. (next_fits variadics list.state).2 e,
    λ _. first.3,
    λ _. refl,
    λ _. refl,
  )

  pub sound_parameters : (variadics : Bool) → Sound (grammar text) (parameters text variadics)
  unfolding shown
  sound_parameters true = (refl, ((refl, tt, refl), ((sound_parameter_list true, refl, refl), tt, refl), refl, refl), refl)
  sound_parameters false = (refl, ((refl, tt, refl), ((sound_parameter_list false, refl, refl), tt, refl), refl, refl), refl)

  -- ---- signatures

  sound_results : Sound (grammar text) (results text)
  unfolding shown
  sound_results = ((sound_parameters false, tt, refl), (tt, λ _. tt, λ x. end_same x.end, λ x. end_apart_none x.end, λ _ _. refl, λ rs. end_within rs.1, λ _. refl), refl, refl)

  results_within : (ps : Pos × List Parameter) (rs : Option (List Parameter × TypeEnd)) → within (more (grammar text) (optional (results text)) rs) (signature_more (with_results ps rs)) ≡ true
  unfolding shown
  results_within ps None = refl
  results_within ps (Some rs) = end_same_none rs.1

  pub sound_signature : Sound (grammar text) (signature text)
  unfolding shown
  sound_signature = (sound_parameters true, λ _. (sound_results, refl), λ _. refl, λ _. refl, results_within, λ x. end_within x.end, λ _. refl)
