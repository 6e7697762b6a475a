use Rattle.std.proofs.Common.{◌≡◌, sym, ap, ◌∙◌, subst, ℕ, List, not}
use Rattle.std.specs.Prelude.{is_some}
use Rattle.gno_scoping.proofs.Scoping.{and_false, and_true, met_push}
use Rattle.gno_tree_typing.specs.WrittenTypes.{stands_in}
use Rattle.gno_typing.specs.Names.{is_blank}
use Rattle.gno_scoping.proofs.scopes.Scoped.repeats.Goals as goal

pub returns-in-Some : goal.returns-in-Some
returns-in-Some c before holds =
    let same : c.in_ok-key.key.items ≡ c.args.name.now.text = c.in_ok-key.ensures.items ∙ c.as_slice-2.ensures in
    let stands : stands_in c.args.name.now.text before ≡ is_some c.in_ok-insert.field-0 = subst (λ (t : List ℕ). stands_in t before ≡ is_some c.in_ok-insert.field-0) same (sym (holds c.in_ok-key.key.items) ∙ sym (ap is_some c.in_ok-insert.ensures.old)) in (
      ap not (c.is_blank-blank.ensures ∙ ap is_blank c.as_slice.ensures) ∙ and_true (not (is_blank c.args.name.now.text)) (stands_in c.args.name.now.text before) (stands ∙ ap is_some c.in-Some.is),
      met_push c.args.self.now.met c.insert.new.self before c.args.name.now c.in_ok-key.key tt holds same c.in_ok-insert.ensures.updates,
    )

pub returns-in-None : goal.returns-in-None
returns-in-None c before holds =
    let same : c.in_ok-key.key.items ≡ c.args.name.now.text = c.in_ok-key.ensures.items ∙ c.as_slice-2.ensures in
    let stands : stands_in c.args.name.now.text before ≡ is_some c.in_ok-insert.field-0 = subst (λ (t : List ℕ). stands_in t before ≡ is_some c.in_ok-insert.field-0) same (sym (holds c.in_ok-key.key.items) ∙ sym (ap is_some c.in_ok-insert.ensures.old)) in (
      and_false (not (is_blank c.args.name.now.text)) (stands_in c.args.name.now.text before) (stands ∙ ap is_some c.in-None.is),
      met_push c.args.self.now.met c.insert.new.self before c.args.name.now c.in_ok-key.key tt holds same c.in_ok-insert.ensures.updates,
    )
