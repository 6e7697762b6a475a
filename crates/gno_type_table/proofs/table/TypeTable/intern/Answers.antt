use Rattle.std.proofs.Common.{◌≡◌, refl, sym, ap, ◌∙◌, subst, length, Some}
use Rattle.std.specs.Prelude.{IfOk}
use Rattle.gno_terms.specs.declared.term.GoType.{GoType}
use Rattle.gno_terms.specs.declared.term.TypeRef.{TypeRef}
use Rattle.gno_terms.specs.declared.term.TermOf.{TermOf}
use Rattle.gno_terms.specs.Lawful.{IsLawful}
use Rattle.gno_terms.specs.Normal.{normal}
use Rattle.gno_terms.specs.Normal as n
use Rattle.gno_terms.specs.Tables.{Table, Is, Below, PartsBelow, deep, type_at}
use Rattle.gno_terms.specs.Terms.{term_with}
use Rattle.gno_terms.proofs.NormalTerms.{parts_of_normal}
use Rattle.gno_type_rows.specs.RowTypes.{IsGood}
use Rattle.gno_type_rows.proofs.Pushed.{normal_deep, good_normal}
use Rattle.gno_type_table.proofs.table.TypeTable.intern.Goals as goal

module _ (table : Table) (good : (r : TypeRef) (s : GoType) → Is table r s → IsGood s) (x term : TermOf TypeRef) (e : term ≡ n.normal_term x) (below : PartsBelow (length table.types) x) where
  parts_below : PartsBelow (length table.types) term
  parts_below = subst (PartsBelow (length table.types)) (sym e) (parts_of_normal (Below (length table.types)) x below)

  is_good : IsLawful (term_with (type_at table.types) x) → IsGood (deep table.types term)
  is_good lawful = subst (λ y. IsGood (deep table.types y)) (sym e) (good_normal table.types good x below lawful)

  is_normal : deep table.types term ≡ normal (deep table.types x)
  is_normal = ap (deep table.types) e ∙ sym (normal_deep table.types good x below)

pub add-requires-clause-below : goal.add-requires-clause-below
add-requires-clause-below c =
    subst (λ (v : Table). PartsBelow (length v.types) c.in_ok-term.term) c.self.view_is
    (parts_below c.self.inside.rows c.are_good.ensures c.args.term c.in_ok-term.term c.in_ok-term.ensures (subst (λ (v : Table). PartsBelow (length v.types) c.args.term) (sym c.self.view_is) c.requires.below))

pub add-requires-clause-good : goal.add-requires-clause-good
add-requires-clause-good c =
    subst (λ (v : Table). IsGood (deep v.types c.in_ok-term.term)) c.self.view_is
    (is_good c.self.inside.rows c.are_good.ensures c.args.term c.in_ok-term.term c.in_ok-term.ensures (subst (λ (v : Table). PartsBelow (length v.types) c.args.term) (sym c.self.view_is) c.requires.below)
    (subst (λ (v : Table). IsLawful (term_with (type_at v.types) c.args.term)) (sym c.self.view_is) c.requires.lawful))

pub add-requires-clause-new : goal.add-requires-clause-new
add-requires-clause-new c =
    subst (λ (v : Table). (r : TypeRef) → Is v r (deep v.types c.in_ok-term.term) → ⊥) c.self.view_is
    (c.in-None.ensures.none c.in_ok-term.term c.in_ok-key.ensures
    (parts_below c.self.inside.rows c.are_good.ensures c.args.term c.in_ok-term.term c.in_ok-term.ensures (subst (λ (v : Table). PartsBelow (length v.types) c.args.term) (sym c.self.view_is) c.requires.below))
    refl)

pub returns-in-Some-clause-is : goal.returns-in-Some-clause-is
returns-in-Some-clause-is c =
    subst (λ (v : Table). Is v c.in-Some.number (normal (deep v.types c.args.term))) c.self.view_is
    (c.in-Some.ensures.some c.in_ok-term.term c.in_ok-key.ensures
    ∙ ap Some (is_normal c.self.inside.rows c.are_good.ensures c.args.term c.in_ok-term.term c.in_ok-term.ensures (subst (λ (v : Table). PartsBelow (length v.types) c.args.term) (sym c.self.view_is) c.requires.below)))

pub returns-in-None-clause-is : goal.returns-in-None-clause-is
returns-in-None-clause-is c =
    subst (λ (s : GoType). IfOk c.add.result (λ (t : TypeRef). Is c.add.new.self t s))
    (subst (λ (v : Table). deep v.types c.in_ok-term.term ≡ normal (deep v.types c.args.term)) c.self.view_is
    (is_normal c.self.inside.rows c.are_good.ensures c.args.term c.in_ok-term.term c.in_ok-term.ensures (subst (λ (v : Table). PartsBelow (length v.types) c.args.term) (sym c.self.view_is) c.requires.below)))
    c.add.ensures.is
