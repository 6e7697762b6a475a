use Rattle.std.proofs.Common.{◌≡◌, refl, sym, ap, ◌∙◌, subst, length, Some}
use Rattle.std.specs.Prelude.{IfOk}
use Rattle.gno_terms.specs.declared.term.GoType.{GoType}
use Rattle.gno_terms.specs.declared.term.TypeRef.{TypeRef}
use Rattle.gno_terms.specs.declared.term.TermOf.{TermOf}
use Rattle.gno_terms.specs.Tables.{Table, Is, Below, PartsBelow, deep}
use Rattle.gno_terms.proofs.NormalTerms.{parts_of_normal}
use Rattle.gno_type_rows.specs.RowTypes.{IsGood, AreRows}
use Rattle.gno_type_rows.proofs.Pushed.{deep_normal, good_deep}
use Rattle.gno_type_rows.proofs.rows.Rows.intern.Goals as goal

pub push-requires-clause-below : goal.push-requires-clause-below
push-requires-clause-below c = subst (PartsBelow (length c.args.self.now.types)) (sym c.in_ok-term.ensures) (parts_of_normal (Below (length c.args.self.now.types)) c.args.term c.requires.below)

pub push-requires-clause-good : goal.push-requires-clause-good
push-requires-clause-good c =
    let rows : AreRows c.self.inside.terms.items c.args.self.now.types = subst (λ (v : Table). AreRows c.self.inside.terms.items v.types) c.self.view_is c.self.invariant.table.rows in
    subst (λ (x : TermOf TypeRef). IsGood (deep c.args.self.now.types x)) (sym c.in_ok-term.ensures) (good_deep c.self.inside.terms.items c.args.self.now.types rows c.args.term c.requires.below c.requires.lawful)

pub push-requires-clause-new : goal.push-requires-clause-new
push-requires-clause-new c = c.in-None.ensures.none c.in_ok-term.term c.in_ok-key.ensures (push-requires-clause-below c) refl

pub returns-in-Some-clause-is : goal.returns-in-Some-clause-is
returns-in-Some-clause-is c =
    let rows : AreRows c.self.inside.terms.items c.args.self.now.types = subst (λ (v : Table). AreRows c.self.inside.terms.items v.types) c.self.view_is c.self.invariant.table.rows in
    c.in-Some.ensures.some c.in_ok-term.term c.in_ok-key.ensures
    ∙ ap (λ (x : TermOf TypeRef). Some (deep c.args.self.now.types x)) c.in_ok-term.ensures
    ∙ ap Some (sym (deep_normal c.self.inside.terms.items c.args.self.now.types rows c.args.term c.requires.below))

pub returns-in-None-clause-is : goal.returns-in-None-clause-is
returns-in-None-clause-is c =
    let rows : AreRows c.self.inside.terms.items c.args.self.now.types = subst (λ (v : Table). AreRows c.self.inside.terms.items v.types) c.self.view_is c.self.invariant.table.rows in
    subst (λ (s : GoType). IfOk c.push.result (λ (t : TypeRef). Is c.push.new.self t s))
    (ap (λ (x : TermOf TypeRef). deep c.args.self.now.types x) c.in_ok-term.ensures ∙ sym (deep_normal c.self.inside.terms.items c.args.self.now.types rows c.args.term c.requires.below))
    c.push.ensures.is
