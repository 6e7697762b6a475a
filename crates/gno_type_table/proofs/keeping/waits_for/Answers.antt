use Rattle.std.proofs.Common.{◌≡◌, sym, ap, ◌∙◌, Some}
use Rattle.std.proofs.lemmas.Bool.Decides.{Decides-eqb}
use Rattle.gno_terms.specs.declared.term.TypeRef.{TypeRef}
use Rattle.gno_type_table.proofs.keeping.waits_for.Goals as goal

unwrapped : {a b : TypeRef} → Some a ≡ Some b → a ≡ b
unwrapped e = cc

ref_eq : (a b : TypeRef) → a.0 ≡ b.0 → a ≡ b
ref_eq a b e = λ i. record { 0 = e i }

pub returns-in-Some : goal.returns-in-Some
returns-in-Some c =
    let test = Decides-eqb c.in-Some.other.0 c.args.t.0 in
    (λ e. sym c.in-Some.ensures ∙ ap Some (ref_eq c.in-Some.other c.args.t (test.0 (sym c.eq.ensures ∙ e))), λ e. c.eq.ensures ∙ test.1 (ap (λ (x : TypeRef). x.0) (unwrapped (c.in-Some.ensures ∙ e))))
