use Rattle.std.proofs.Common.{◌≡◌, sym, ap, ◌∙◌, subst, ℕ, List, [], ◌∷◌, ◌++◌, length, None, Option}
use Rattle.std.specs.Prelude.{slice_get, Some}
use Rattle.gno_terms.specs.Tables.{Table, Is, PartsBelow, deep}
use Rattle.gno_terms.specs.declared.term.TypeRef.{TypeRef}
use Rattle.gno_terms.specs.declared.term.TermOf.{TermOf}
use Rattle.gno_terms.specs.declared.term.DefinitionOf.{DefinitionOf}
use Rattle.gno_type_rows.specs.RowTypes.{IsGood, deeps, definitions_in}
use Rattle.gno_type_rows.proofs.Pushed.{deeps_push}
use Rattle.gno_type_rows.proofs.Steps.{same_table, at_lists, pushed_table, pushed_is, pushed_grows, pushed_definitions}
use Rattle.gno_layouts.specs.declared.row.Row.{Row}
use Rattle.gno_layouts.specs.Settling.{AreRows}
use Rattle.gno_type_rows.proofs.Laying.{laid_at, laid_push, row_below, after_failure}
use Rattle.gno_type_rows.proofs.rows.Rows.push.Goals as goal

pub push-requires : goal.push-requires
push-requires c =
    let below : PartsBelow (length (deeps c.self.inside.terms.items [])) c.args.term = subst (λ (v : Table). PartsBelow (length v.types) c.args.term) (sym c.self.view_is) c.requires.below in
    let size : length (deeps c.self.inside.terms.items []) ≡ length c.self.inside.layouts = c.self.invariant.table.rows.size ∙ sym c.self.invariant.laid.size in
    subst (λ (n : ℕ). AreRows n c.in_ok-row.row) size (subst (AreRows (length (deeps c.self.inside.terms.items []))) (sym c.in_ok-row.ensures) (row_below (length (deeps c.self.inside.terms.items [])) c.args.term below))

pub pop-requires : goal.pop-requires
pop-requires c = (c.self.inside.layouts, c.in_ok-row.row, c.in_ok-push.ensures.ok, c.have_rows.ensures)

pub invariant_of-self-in-Err : goal.invariant_of-self-in-Err
invariant_of-self-in-Err c = after_failure c.in_ok-row.row c.pop.ensures.0 c.self.invariant c.in_ok-reserve.ensures.items c.in_ok-reserve-2.ensures.items c.in-Err.ensures.err c.in_ok-push.ensures.ok c.pop.ensures.1

pub invariant_of-self-in-Err-2 : goal.invariant_of-self-in-Err-2
invariant_of-self-in-Err-2 c = after_failure c.in_ok-row.row c.pop.ensures.0 c.self.invariant c.in_ok-reserve.ensures.items c.in_ok-reserve-2.ensures.items c.in-Err.ensures.err c.in_ok-push.ensures.ok c.pop.ensures.1

pub invariant_of-self-in-Err-3 : goal.invariant_of-self-in-Err-3
invariant_of-self-in-Err-3 c = after_failure c.in_ok-row.row c.pop.ensures.0 c.self.invariant c.in_ok-reserve.ensures.items c.in_ok-reserve-2.ensures.items c.in-Err.ensures.err c.in_ok-push.ensures.ok c.pop.ensures.1

pub invariant_of-self-in-Err-4 : goal.invariant_of-self-in-Err-4
invariant_of-self-in-Err-4 c = after_failure c.in_ok-row.row c.pop.ensures.0 c.self.invariant c.in_ok-reserve.ensures.items c.in_ok-reserve-2.ensures.items c.in-Err.ensures.err c.in_ok-push.ensures.ok c.pop.ensures.1

pub invariant_of-self-in-Err-5 : goal.invariant_of-self-in-Err-5
invariant_of-self-in-Err-5 c = after_failure c.in_ok-row.row c.pop.ensures.0 c.self.invariant c.in_ok-reserve.ensures.items c.in_ok-reserve-2.ensures.items c.in-Err.ensures.err c.in_ok-push.ensures.ok c.pop.ensures.1

items : (c : goal.In_ok-push-in-Ok-2) → c.push-in-Ok.new.self.items ≡ c.self.inside.terms.items ++ c.args.term ∷ []
items c = cc (c.in_ok-push-in-Ok.ensures.items, c.in_ok-reserve.ensures.items)

beside : (c : goal.In_ok-push-in-Ok-2) → c.push-in-Ok-2.new.self.items ≡ c.self.inside.definitions.items ++ None ∷ []
beside c = cc (c.in_ok-push-in-Ok-2.ensures.items, c.in_ok-reserve-2.ensures.items)

count : (c : goal.In_ok-push-in-Ok-2) → c.len-number.result ≡ length c.self.inside.terms.items
count c = c.len-number.ensures ∙ c.in_ok-reserve.ensures.len ∙ c.self.inside.terms.ok.0

pub invariant_of-self-in-Ok : goal.invariant_of-self-in-Ok
invariant_of-self-in-Ok c = record {
  table = at_lists (items c) (beside c)
      (pushed_table c.self.inside.terms.items c.self.inside.numbers c.insert.new.self c.self.inside.definitions.items c.args.term c.args.key c.len-number.result c.self.invariant.table
      c.requires.key (count c)
      (subst (λ (v : Table). PartsBelow (length v.types) c.args.term) (sym c.self.view_is) c.requires.below)
      (subst (λ (v : Table). IsGood (deep v.types c.args.term)) (sym c.self.view_is) c.requires.good)
      (subst (λ (v : Table). (r : TypeRef) → Is v r (deep v.types c.args.term) → ⊥) (sym c.self.view_is) c.requires.new)
      c.in-Ok.ensures.updates);
  laid = laid_at (items c) (beside c) (c.in_ok-push.ensures.ok ∙ ap (λ (r : Row). c.self.inside.layouts ++ r ∷ []) c.in_ok-row.ensures)
      (laid_push c.self.inside.terms.items c.self.inside.definitions.items c.self.inside.layouts c.self.invariant.laid c.self.invariant.table.definitions.size c.args.term);
}

pub returns-in_ok-push-in-Ok-2-clause-is : goal.returns-in_ok-push-in-Ok-2-clause-is
returns-in_ok-push-in-Ok-2-clause-is c =
    subst (λ (l : List (TermOf TypeRef)). slice_get (deeps l []) c.len-number.result ≡ Some (deep c.args.self.now.types c.args.term)) (sym (items c))
    (subst (λ (v : Table). slice_get (deeps (c.self.inside.terms.items ++ c.args.term ∷ []) []) c.len-number.result ≡ Some (deep v.types c.args.term)) c.self.view_is
    (pushed_is c.self.inside.terms.items c.self.inside.numbers c.insert.new.self c.self.inside.definitions.items c.args.term c.args.key c.len-number.result c.self.invariant.table (count c)))

pub returns-in_ok-push-in-Ok-2-clause-grows : goal.returns-in_ok-push-in-Ok-2-clause-grows
returns-in_ok-push-in-Ok-2-clause-grows c r s h =
    subst (λ (l : List (TermOf TypeRef)). slice_get (deeps l []) r.0 ≡ Some s) (sym (items c))
    (pushed_grows c.self.inside.terms.items c.self.inside.numbers c.insert.new.self c.self.inside.definitions.items c.args.term c.args.key c.len-number.result c.self.invariant.table r.0 s
    (subst (λ (v : Table). Is v r s) (sym c.self.view_is) h))

pub returns-in_ok-push-in-Ok-2-clause-types : goal.returns-in_ok-push-in-Ok-2-clause-types
returns-in_ok-push-in-Ok-2-clause-types c =
    ap (λ (l : List (TermOf TypeRef)). deeps l []) (items c)
    ∙ deeps_push c.self.inside.terms.items c.args.term []
    ∙ ap (λ (v : Table). v.types ++ deep v.types c.args.term ∷ []) c.self.view_is

pub returns-in_ok-push-in-Ok-2-clause-definitions : goal.returns-in_ok-push-in-Ok-2-clause-definitions
returns-in_ok-push-in-Ok-2-clause-definitions c =
    ap (λ (l : List (TermOf TypeRef)). definitions_in (deeps l []) c.push-in-Ok-2.new.self.items) (items c)
    ∙ ap (λ (l : List (Option (DefinitionOf TypeRef))). definitions_in (deeps (c.self.inside.terms.items ++ c.args.term ∷ []) []) l) (beside c)
    ∙ pushed_definitions c.self.inside.terms.items c.self.inside.numbers c.insert.new.self c.self.inside.definitions.items c.args.term c.args.key c.len-number.result c.self.invariant.table
    ∙ ap (λ (v : Table). v.definitions) c.self.view_is
