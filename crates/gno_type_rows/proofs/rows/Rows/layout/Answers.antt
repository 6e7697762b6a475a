use Rattle.std.proofs.Common.{◌≡◌, sym, ap, ◌∙◌, subst, ℕ, ◌-◌, ◌^◌, min, Some, None, rules}
use Rattle.gno_layouts.specs.declared.row.Layout.{Layout}
use Rattle.gno_layouts.specs.Layouts.{saturated}
use Rattle.gno_terms.specs.declared.term.GoType.{GoType}
use Rattle.gno_terms.specs.Tables.{Table, Is, type_at}
use Rattle.gno_type_rows.specs.Holding.{Slots, IsComparable}
use Rattle.gno_type_rows.proofs.Held.{answered}
use Rattle.gno_type_rows.proofs.Pushed.{at_it}
use Rattle.gno_type_rows.proofs.rows.Rows.layout.Goals as goal

unwrapped : {a b : Layout} → Some a ≡ Some b → a ≡ b
unwrapped e = search (rules, e)

pub returns-clause-slots : goal.returns-clause-slots
returns-clause-slots c s n is slots =
    let a = answered c.self.inside.terms.items c.self.inside.numbers c.self.inside.definitions.items c.self.inside.layouts c.self.invariant c.args.t.0 s n c.layout.result
    (subst (λ (v : Table). Is v c.args.t s) (sym c.self.view_is) is) (subst (λ (v : Table). Slots v s n) (sym c.self.view_is) slots) c.layout.ensures.is in
    let same : c.in-Some.layout ≡ saturated a.layout = unwrapped (sym c.in-Some.is ∙ a.is_it) in
    ap (λ (l : Layout). l.slots) same ∙ ap (λ (k : ℕ). min k (2 ^ 64 - 1)) a.slots

pub returns-clause-comparable : goal.returns-clause-comparable
returns-clause-comparable c s is =
    let k = c.requires.known s is in
    let a = answered c.self.inside.terms.items c.self.inside.numbers c.self.inside.definitions.items c.self.inside.layouts c.self.invariant c.args.t.0 s k.0 c.layout.result
    (subst (λ (v : Table). Is v c.args.t s) (sym c.self.view_is) is) (subst (λ (v : Table). Slots v s k.0) (sym c.self.view_is) k.1) c.layout.ensures.is in
    let same : c.in-Some.layout ≡ saturated a.layout = unwrapped (sym c.in-Some.is ∙ a.is_it) in
    let bit : c.in-Some.layout.comparable ≡ a.layout.comparable = ap (λ (l : Layout). l.comparable) same in
    (λ t. subst (λ (v : Table). IsComparable v s) c.self.view_is (a.tells.0 (sym bit ∙ t)), λ h. bit ∙ a.tells.1 (subst (λ (v : Table). IsComparable v s) (sym c.self.view_is) h))

none_some : {a : Layout} → None ≡ Some a → ⊥
none_some e = search (rules, e)

pub unreachable-requires : goal.unreachable-requires
unreachable-requires c =
    let s : GoType = type_at c.args.self.now.types c.args.t in
    let is : Is c.args.self.now c.args.t s = at_it c.args.self.now.types c.args.t c.requires.below in
    let k = c.requires.known s is in
    let a = answered c.self.inside.terms.items c.self.inside.numbers c.self.inside.definitions.items c.self.inside.layouts c.self.invariant c.args.t.0 s k.0 c.layout.result
    (subst (λ (v : Table). Is v c.args.t s) (sym c.self.view_is) is) (subst (λ (v : Table). Slots v s k.0) (sym c.self.view_is) k.1) c.layout.ensures.is in
    none_some (sym c.in-None.is ∙ a.is_it)
