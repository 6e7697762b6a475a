use Rattle.std.proofs.Common.{◌≡◌, ap, refl, rules, subst, sym, ◌∙◌, List}
use Rattle.gno_judging.specs.Found.{TypeStands}
use Rattle.gno_judging.specs.Stands.{BothStand as both}
use Rattle.gno_made_types.proofs.MadeTypes.{interface_stands}
use Rattle.gno_made_types.proofs.PartRules.{methods_are, methods_below, methods_lawful, part_methods}
use Rattle.gno_made_types.specs.Parts.{IsPartMethod}
use Rattle.gno_terms.specs.Lawful.{Each}
use Rattle.gno_terms.specs.declared.term.GoType.{GoType}
use Rattle.gno_terms.specs.declared.term.MethodOf.{MethodOf}
use Rattle.gno_terms.specs.declared.term.TermOf.TheVariants as t
use Rattle.gno_made_types.proofs.interfaces.interface_type.Goals as goal

pub returns-then-not-branch-clause-stands : goal.returns-then-not-branch-clause-stands
returns-then-not-branch-clause-stands c ms lawful hs =
    let table = c.args.types.now in
    absurd (search (rules, sym c.if-not-branch.true ∙ c.in_ok-are_methods.ensures.1 (subst (Each (IsPartMethod table)) (sym c.as_slice.ensures) (part_methods table c.args.methods ms hs lawful))))

pub intern-requires-clause-below : goal.intern-requires-clause-below
intern-requires-clause-below c =
    let table = c.args.types.now in
    methods_below table c.args.methods (subst (Each (IsPartMethod table)) c.as_slice.ensures (c.in_ok-are_methods.ensures.0 c.if-not-branch.false))

pub intern-requires-clause-lawful : goal.intern-requires-clause-lawful
intern-requires-clause-lawful c =
    let table = c.args.types.now in
    methods_lawful table c.args.methods (subst (Each (IsPartMethod table)) c.as_slice.ensures (c.in_ok-are_methods.ensures.0 c.if-not-branch.false))

pub returns-clause-stands : goal.returns-clause-stands
returns-clause-stands c ms lawful hs =
    let table = c.args.types.now in
    both.some (interface_stands table c.intern.new.self c.args.methods ms (ap (λ (xs : List (MethodOf GoType)). t.Interface xs) (methods_are table c.args.methods ms hs)) c.in_ok-made.made c.in_ok-made.ensures.is)
