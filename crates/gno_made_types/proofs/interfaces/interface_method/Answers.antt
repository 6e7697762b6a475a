use Rattle.std.proofs.Common.{None, Some, ap, false, refl, rules, subst, sym, true, ◌≡◌, ◌∙◌, ℕ, List}
use Rattle.gno_judging.proofs.Answers.{fails, gives, holds, refuses}
use Rattle.gno_judging.specs.Answers.{Answers}
use Rattle.gno_made_types.proofs.InterfaceRules.{blank_method, named_method}
use Rattle.gno_made_types.specs.Parts.{MethodStands}
use Rattle.gno_scan.specs.Names.{IsName}
use Rattle.gno_terms.specs.Normal.{package_of}
use Rattle.gno_typing.specs.Names.{is_blank}
use Rattle.gno_made_types.proofs.interfaces.interface_method.Goals as goal

pub returns-then-is_blank : goal.returns-then-is_blank
returns-then-is_blank c table s h =
    let blank : is_blank c.args.name.now.text ≡ true = ap is_blank (sym c.as_slice.ensures) ∙ sym c.is_blank.ensures ∙ c.if-is_blank.true in
    blank_method c.args.path.now c.args.name.now s (λ J. Answers J (MethodStands table) c.args.faults.now c.note.new.self None) blank (refuses (MethodStands table) 80 c.args.name.now.pos _ _ c.note.ensures)

pub returns-then-not-is_name : goal.returns-then-not-is_name
returns-then-not-is_name c table s h =
    let blank : is_blank c.args.name.now.text ≡ false = ap is_blank (sym c.as_slice.ensures) ∙ sym c.is_blank.ensures ∙ c.if-is_blank.false in
    named_method c.args.path.now c.args.name.now s (λ J. Answers J (MethodStands table) c.args.faults.now c.note-then-not-is_name.new.self None) blank
    (fails (MethodStands table) _ 78 c.args.name.now.pos _ _ _ (λ p. search (rules, sym c.if-not-is_name.true ∙ c.is_name.ensures.1 (subst IsName (sym c.as_slice-2.ensures) p))) c.note-then-not-is_name.ensures)

pub returns : goal.returns
returns c table s h =
    let blank : is_blank c.args.name.now.text ≡ false = ap is_blank (sym c.as_slice.ensures) ∙ sym c.is_blank.ensures ∙ c.if-is_blank.false in
    let name : c.in_ok-name.name ≡ c.args.name.now.text = c.in_ok-name.ensures ∙ c.as_slice-4.ensures in
    let owner : c.in_ok-package.package ≡ package_of c.args.name.now.text c.args.path.now = c.in_ok-package.ensures ∙ ap (λ (n : List ℕ). package_of n c.args.path.now) c.as_slice-3.ensures in
    named_method c.args.path.now c.args.name.now s (λ J. Answers J (MethodStands table) c.args.faults.now c.args.faults.now (Some (record { name = c.in_ok-name.name; «package» = c.in_ok-package.package; of = c.args.of; pointer = false }))) blank
    (holds (MethodStands table) _ 78 c.args.name.now.pos _ _ _ _ (subst IsName c.as_slice-2.ensures (c.is_name.ensures.0 c.if-not-is_name.false)) (gives (MethodStands table) _ _ _ (record { name = name; «package» = owner; of = h; pointer = refl })))
