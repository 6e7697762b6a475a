-- What a table says is said by a later one, and of known types no more.
use Rattle.std.proofs.Common.{◌≡◌, sym, ap, ◌∙◌, subst, ℕ, List, Bool}
use Rattle.gno_embedding.specs.Embedding.{Embeds, IsKnown}
use Rattle.gno_promotion.specs.MethodSets.{DeclaresBy, HasMembers, Member}
use Rattle.gno_terms.specs.declared.term.DefinitionOf.{DefinitionOf}
use Rattle.gno_terms.specs.declared.term.GoType.{GoType}
use Rattle.gno_terms.specs.declared.term.MethodOf.{MethodOf}
use Rattle.gno_terms.specs.declared.term.TermOf.{TermOf}
use Rattle.gno_terms.specs.declared.term.TermOf.TheVariants as t
use Rattle.gno_terms.specs.Tables.{Table, Defines, Underlying, UnderlyingBy}
use Rattle.gno_terms.specs.Terms.{term_of}
use Rattle.gno_type_table.specs.Kept.{Extends}

-- definitions that stand in another table
module _ (small big : Table) (stands : (d : DefinitionOf GoType) → Defines small d → Defines big d) where
  under_by : (s u : GoType) (x : TermOf GoType) → UnderlyingBy small s u x → UnderlyingBy big s u x
  under_by s u (t.Defined path name local) h = (h.0, stands h.0 h.1, h.2, h.3)
  under_by s u t.Error h = h
  under_by s u _ h = h

  pub under_up : (s u : GoType) → Underlying small s u → Underlying big s u
  under_up s u h = under_by s u (term_of s) h

  pub known_up : (s : GoType) → IsKnown small s → IsKnown big s
  known_up s k = (k.0, under_up s k.0 k.1)

-- definitions that stand in another table, but for those of one type
module _ (small big : Table) (new : GoType) (stands : (d : DefinitionOf GoType) → Defines small d → (d.of ≡ new → ⊥) → Defines big d) where
  known_by : (s u : GoType) (x : TermOf GoType) → (s ≡ new → ⊥) → UnderlyingBy small s u x → UnderlyingBy big s u x
  known_by s u (t.Defined path name local) f h = (h.0, stands h.0 h.1 (λ e. f (sym h.2 ∙ e)), h.2, h.3)
  known_by s u t.Error f h = h
  known_by s u _ f h = h

  pub known_of_other : (s : GoType) → (s ≡ new → ⊥) → IsKnown small s → IsKnown big s
  known_of_other s f k = (k.0, known_by s k.0 (term_of s) f k.1)

module _ (small big : Table) (extends : Extends small big) where
  one_by : (s u v : GoType) (x : TermOf GoType) → UnderlyingBy big s u x → UnderlyingBy big s v x → u ≡ v
  one_by s u v (t.Defined path name local) h k = sym h.3 ∙ ap (λ (d : DefinitionOf GoType). d.underlying) (extends.once h.0 k.0 h.1 k.1 (h.2 ∙ sym k.2)) ∙ k.3
  one_by s u v t.Error h k = h ∙ sym k
  one_by s u v _ h k = h ∙ sym k

  pub known : (s : GoType) → IsKnown small s → IsKnown big s
  known s k = known_up small big extends.stands s k

  up : (s u : GoType) → Underlying small s u → Underlying big s u
  up s u h = under_up small big extends.stands s u h

  down : (s u : GoType) → IsKnown small s → Underlying big s u → Underlying small s u
  down s u k h = subst (Underlying small s) (one_by s k.0 u (term_of s) (up s k.0 k.1) h) k.1

  pub embeds_up : (s : GoType) (place : ℕ) (pointer : Bool) (u : GoType) → Embeds small s place pointer u → Embeds big s place pointer u
  embeds_up s place pointer u e = record {
    underlying = e.underlying;
    by = up s e.underlying e.by;
    field = e.field;
    at = e.at;
    embedded = e.embedded;
    is_pointer = e.is_pointer;
    to = e.to;
  }

  pub embeds_down : (s : GoType) (place : ℕ) (pointer : Bool) (u : GoType) → IsKnown small s → Embeds big s place pointer u → Embeds small s place pointer u
  embeds_down s place pointer u k e = record {
    underlying = e.underlying;
    by = down s e.underlying k e.by;
    field = e.field;
    at = e.at;
    embedded = e.embedded;
    is_pointer = e.is_pointer;
    to = e.to;
  }

  declares_up : (s : GoType) (ms : List (MethodOf GoType)) (x : TermOf GoType) → DeclaresBy small s ms x → DeclaresBy big s ms x
  declares_up s ms (t.Defined path name local) h = (h.0, extends.stands h.0 h.1, h.2, h.3)
  declares_up s ms _ h = h

  declares_down : (s u : GoType) (ms : List (MethodOf GoType)) (x : TermOf GoType) → UnderlyingBy small s u x → DeclaresBy big s ms x → DeclaresBy small s ms x
  declares_down s u ms (t.Defined path name local) k h =
      (k.0, k.1, k.2, h.3 ∙ ap (λ (d : DefinitionOf GoType). d.methods) (extends.once h.0 k.0 h.1 (extends.stands k.0 k.1) (h.2 ∙ sym k.2)))
  declares_down s u ms _ k h = h

  pub members_up : (s : GoType) (ms : List Member) → HasMembers small s ms → HasMembers big s ms
  members_up s ms h = record {
    declared = h.declared;
    declares = declares_up s h.declared (term_of s) h.declares;
    underlying = h.underlying;
    by = up s h.underlying h.by;
    are = h.are;
  }

  pub members_down : (s : GoType) (ms : List Member) → IsKnown small s → HasMembers big s ms → HasMembers small s ms
  members_down s ms k h = record {
    declared = h.declared;
    declares = declares_down s k.0 h.declared (term_of s) k.1 h.declares;
    underlying = h.underlying;
    by = down s h.underlying k h.by;
    are = h.are;
  }
