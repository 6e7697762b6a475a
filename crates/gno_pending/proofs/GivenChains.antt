-- How a chain in a type that is given goes on.
use Rattle.std.proofs.Common.{◌≡◌, refl, sym, ap, ◌∙◌, subst, List, [], ◌∷◌, ◌++◌, Option, option_map, Result}
use Rattle.std.specs.Prelude.{IfOk}
use Rattle.std.specs.declared.alloc.AllocError.{AllocError}
use Rattle.std.proofs.lemmas.Result.{IfOk-weaker}
use Rattle.gno_judging.proofs.Noting.{noted_append}
use Rattle.gno_judging.specs.Answers.{Answers}
use Rattle.gno_judging.specs.Found.{FormStands, PendingStands, PendingsStand}
use Rattle.gno_judging.specs.Noting.{noted}
use Rattle.gno_judging.specs.Stands.{BothStand, Stands}
use Rattle.gno_pending.proofs.PendingForms.{count_stands, no_operations, operand_stands}
use Rattle.gno_pending.specs.Chains.{GivenSoFar}
use Rattle.gno_scan.specs.declared.token.Pos.{Pos}
use Rattle.gno_terms.specs.declared.term.GoType.{GoType}
use Rattle.gno_terms.specs.declared.term.TypeRef.{TypeRef}
use Rattle.gno_terms.specs.Tables.{Table}
use Rattle.gno_tree.specs.declared.operator.BinaryOperator.{BinaryOperator}
use Rattle.gno_type_classes.specs.Unnumbered.{unnumbered}
use Rattle.gno_typed.specs.declared.expr.TypedExprOf.{TypedExprOf}
use Rattle.gno_typing.specs.Giving.{AreGiven, IsGiven, both, combined, joined_by, made, shifted_by}
use Rattle.gno_typing.specs.Giving.{AreGiven as are}
use Rattle.gno_typing.specs.Giving.{IsGiven as given}
use Rattle.gno_typing.specs.declared.fault.Fault.{Fault}
use Rattle.gno_typing.specs.declared.form.FormOf.{FormOf}
use Rattle.gno_typing.specs.declared.pending.PendingOf.{PendingOf}
use Rattle.gno_typing.specs.declared.pending.PendingOf.TheVariants as p
use Rattle.gno_typing.specs.declared.pending.PendingOperationOf.{PendingOperationOf}
use Rattle.gno_typing.specs.declared.pending.PendingOperationOf.TheVariants as o

module _ (table : Table) (u : GoType) (x : PendingOf GoType) (first : Option Fault) where
  -- behind the first operand
  pub begins : (b : PendingOf GoType) (left : List (PendingOperationOf TypeRef)) (rest : List (PendingOperationOf GoType)) (form : Option (FormOf TypeRef)) (now : Option Fault) → x ≡ p.Chain b rest → PendingsStand table left rest
      → Answers (IsGiven (unnumbered table) u b) (FormStands table) first now form → GivenSoFar table u x first left form now
  begins b left rest form now is stands h = record {
    rest = rest;
    left_stands = stands;
    next = h.verdict;
    goes_on = λ y more. given.chain b rest is h.verdict h.judged more;
    form_stands = h.stands;
    notes = h.notes;
  }

  -- behind an operand
  pub goes_on_by_operand : (operation : PendingOperationOf TypeRef) (left : List (PendingOperationOf TypeRef)) (at : Pos) (operator : BinaryOperator) (a : PendingOf TypeRef) (form right : Option (FormOf TypeRef)) (now later : Option Fault) (res : Result (Option (FormOf TypeRef)) AllocError)
      → operation ≡ o.Operand at operator a → GivenSoFar table u x first (operation ∷ left) form now
      → ((b : PendingOf GoType) → PendingStands table a b → Answers (IsGiven (unnumbered table) u b) (FormStands table) now later right)
      → ((y z : Option (FormOf GoType)) → BothStand (FormStands table) form y → BothStand (FormStands table) right z → IfOk res (λ r. BothStand (FormStands table) r (combined (joined_by u at operator) y z)))
      → IfOk res (λ r. GivenSoFar table u x first left r later)
  goes_on_by_operand operation left at operator a form right now later res is h operand_given joined =
      let it = operand_stands table operation left at operator a is h.left_stands in
      let z = operand_given it.operand it.stands in
      IfOk-weaker res _ _ (λ r stands. record {
        rest = it.rest;
        left_stands = it.rest_stands;
        next = both (joined_by u at operator) h.next z.verdict;
        goes_on = λ y more. h.goes_on y (subst (λ os. AreGiven (unnumbered table) u h.next os y) (sym it.is) (are.operand at operator it.operand z.verdict z.judged more));
        form_stands = stands;
        notes = z.notes ∙ ap (λ n. noted n z.verdict.faults) h.notes ∙ sym (noted_append first h.next.faults z.verdict.faults);
      }) (joined h.next.form z.verdict.form h.form_stands z.stands)

  -- behind the count of a shift
  pub goes_on_by_count : (operation : PendingOperationOf TypeRef) (left : List (PendingOperationOf TypeRef)) (at : Pos) (operator : BinaryOperator) (a : TypedExprOf TypeRef) (form : Option (FormOf TypeRef)) (now : Option Fault) (res : Result (Option (FormOf TypeRef)) AllocError)
      → operation ≡ o.Count at operator a → GivenSoFar table u x first (operation ∷ left) form now
      → ((y : Option (FormOf GoType)) (b : TypedExprOf GoType) → BothStand (FormStands table) form y → Stands table a b → IfOk res (λ r. BothStand (FormStands table) r (option_map (λ c. shifted_by u at operator c b) y)))
      → IfOk res (λ r. GivenSoFar table u x first left r now)
  goes_on_by_count operation left at operator a form now res is h shifted =
      let it = count_stands table operation left at operator a is h.left_stands in
      IfOk-weaker res _ _ (λ r stands. record {
        rest = it.rest;
        left_stands = it.rest_stands;
        next = made (λ c. shifted_by u at operator c it.count) h.next;
        goes_on = λ y more. h.goes_on y (subst (λ os. AreGiven (unnumbered table) u h.next os y) (sym it.is) (are.count at operator it.count more));
        form_stands = stands;
        notes = h.notes;
      }) (shifted h.next.form it.count h.form_stands it.stands)

  -- where no operation is left
  pub ends : (form : Option (FormOf TypeRef)) (now : Option Fault) → GivenSoFar table u x first [] form now → Answers (IsGiven (unnumbered table) u x) (FormStands table) first now form
  ends form now h = record {
    verdict = h.next;
    judged = h.goes_on h.next (subst (λ os. AreGiven (unnumbered table) u h.next os h.next) (sym (no_operations table h.left_stands)) (are.none refl));
    stands = h.form_stands;
    notes = h.notes;
  }
