use Rattle.std.proofs.Common.{None, Some, List, refl, subst, sym}
use Rattle.gno_judging.proofs.Answers.{finds, finds_none, gives}
use Rattle.gno_judging.specs.Answers.{Answers}
use Rattle.gno_judging.specs.Stands.{EachStands}
use Rattle.gno_made_types.proofs.InterfaceRules.{embedded_by}
use Rattle.gno_made_types.specs.Parts.{MethodStands}
use Rattle.gno_terms.specs.declared.term.MethodOf.{MethodOf}
use Rattle.gno_terms.specs.declared.term.TypeRef.{TypeRef}
use Rattle.gno_made_types.proofs.interfaces.embedded_methods.Goals as goal

pub returns-in_ok-methods-in-Some : goal.returns-in_ok-methods-in-Some
returns-in_ok-methods-in-Some c s h =
    let table = c.args.types.now in
    let it = c.in-Some.ensures.some s h.is in
    embedded_by table c.args.place s (λ J. Answers J (EachStands (MethodStands table)) c.args.faults.now c.args.faults.now (Some c.in_ok-methods-in-Some.methods))
    (finds (EachStands (MethodStands table)) _ 78 c.args.place _ _ _ _ it.0 it.1 (gives (EachStands (MethodStands table)) _ _ _ (subst (λ (ms : List (MethodOf TypeRef)). EachStands (MethodStands table) ms it.0) (sym c.in_ok-methods-in-Some.ensures) it.2)))

pub returns-in-None : goal.returns-in-None
returns-in-None c s h =
    let table = c.args.types.now in
    embedded_by table c.args.place s (λ J. Answers J (EachStands (MethodStands table)) c.args.faults.now c.note.new.self None)
    (finds_none (EachStands (MethodStands table)) _ 78 c.args.place _ _ _ (λ ms i. c.in-None.ensures.none refl s ms h.is i) c.note.ensures)
