-- How a chain goes on where its place names no type.
use Rattle.std.proofs.Common.{◌≡◌, refl, sym, ap, ◌∙◌, subst, List, [], ◌∷◌, ◌++◌, Bool, Option, Some, None, option_map, Result}
use Rattle.std.specs.Prelude.{IfOk}
use Rattle.std.specs.declared.alloc.AllocError.{AllocError}
use Rattle.std.proofs.lemmas.Result.{IfOk-weaker}
use Rattle.gno_constants.specs.declared.constant.Constant.{Constant}
use Rattle.gno_base.specs.declared.kind.Kind.TheVariants as k
use Rattle.gno_giving.proofs.Defaults.{basic_is_typed}
use Rattle.gno_giving.specs.InTypes.{InTypeStands}
use Rattle.gno_giving.specs.declared.in_type.InType.{InType}
use Rattle.gno_judging.proofs.Noting.{noted_append}
use Rattle.gno_judging.specs.Answers.{Answers}
use Rattle.gno_judging.specs.Found.{FormStands, PendingStands, PendingsStand, TypeStands}
use Rattle.gno_judging.specs.Noting.{noted}
use Rattle.gno_judging.specs.Stands.{BothStand, Stands}
use Rattle.gno_judging.specs.Stands.{BothStand as two}
use Rattle.gno_judging.specs.Waiting.{IsWaiting, MayFollow}
use Rattle.gno_pending.proofs.PendingForms.{constant_stands, count_stands, no_operations, operand_stands}
use Rattle.gno_pending.proofs.WaitingForms.{FollowsConstant, behind_constant, front_waits, more_follow, right_waits}
use Rattle.gno_pending.specs.Fronts.{DefaultedSoFar, FirstConstant, JudgedSoFar}
use Rattle.gno_scan.specs.declared.token.Pos.{Pos}
use Rattle.gno_terms.specs.declared.term.GoType.{GoType}
use Rattle.gno_terms.specs.declared.term.TypeRef.{TypeRef}
use Rattle.gno_terms.specs.Tables.{Is, Table}
use Rattle.gno_tree.specs.declared.operator.BinaryOperator.{BinaryOperator}
use Rattle.gno_type_classes.specs.Unnumbered.{unnumbered}
use Rattle.gno_typed.specs.declared.expr.TypedExprOf.{TypedExprOf}
use Rattle.gno_typing.specs.Classes.{basic}
use Rattle.gno_typing.specs.Forms.{with_operation}
use Rattle.gno_typing.specs.Giving as giving
use Rattle.gno_typing.specs.Giving.{AreDefaulted, IsBeside, IsDefaulted, IsGiven, both, combined, default_of, in_one_type, in_type, joined_by, made, shifted_by}
use Rattle.gno_typing.specs.Giving.{AreDefaulted as are, IsBeside as is_beside}
use Rattle.gno_typing.specs.Giving.{IsDefaulted as defaulted}
use Rattle.gno_typing.specs.Giving.{IsGiven as given}
use Rattle.gno_typing.specs.Verdicts.{AfterBoth, Verdict}
use Rattle.gno_typing.specs.declared.fault.Fault.{Fault}
use Rattle.gno_typing.specs.declared.form.FormOf.{FormOf}
use Rattle.gno_typing.specs.declared.pending.PendingOf.{PendingOf}
use Rattle.gno_typing.specs.declared.pending.PendingOf.TheVariants as p
use Rattle.gno_typing.specs.declared.pending.PendingOperationOf.{PendingOperationOf}
use Rattle.gno_typing.specs.declared.pending.PendingOperationOf.TheVariants as o

-- an operator between two forms, in the type of the left one, or of the right one
abbrev pub as_left : Pos → BinaryOperator → giving.InType → giving.InType → giving.InType
as_left at operator a c = in_type a.of (joined_by a.of at operator a.form c.form)

abbrev pub as_right : Pos → BinaryOperator → giving.InType → giving.InType → giving.InType
as_right at operator a c = in_type c.of (joined_by c.of at operator a.form c.form)

abbrev pub as_shifted : Pos → BinaryOperator → TypedExprOf GoType → giving.InType → giving.InType
as_shifted at operator count a = in_type a.of (shifted_by a.of at operator a.form count)

module _ (table : Table) (x : PendingOf GoType) (first : Option Fault) where
  -- behind the first operand
  pub begins : (b : PendingOf GoType) (left : List (PendingOperationOf TypeRef)) (rest : List (PendingOperationOf GoType)) (form : Option InType) (now : Option Fault) → x ≡ p.Chain b rest → PendingsStand table left rest → MayFollow rest
      → Answers (IsDefaulted (unnumbered table) b) (InTypeStands table) first now form → JudgedSoFar table x first left now form
  begins b left rest form now is stands follows h = record {
    rest = rest;
    left_stands = stands;
    follows = follows;
    next = h.verdict;
    goes_on = λ y more. defaulted.chain b rest is h.verdict h.judged more;
    form_stands = h.stands;
    notes = h.notes;
  }

  pub begins_by_constant : (b : PendingOf GoType) (left : List (PendingOperationOf TypeRef)) (rest : List (PendingOperationOf GoType)) (at : Pos) (value : Constant) (rune : Bool) → x ≡ p.Chain b rest → PendingsStand table left rest → IsWaiting x
      → b ≡ p.Constant at value rune → FirstConstant table x first left first at value rune
  begins_by_constant b left rest at value rune is stands waits b_is = record {
    rest = rest;
    left_stands = stands;
    is = is ∙ ap (λ c. p.Chain c rest) b_is;
    waits = waits;
    notes = refl;
  }

  -- behind the count of a shift
  pub goes_on_by_count : (operation : PendingOperationOf TypeRef) (left : List (PendingOperationOf TypeRef)) (at : Pos) (operator : BinaryOperator) (a : TypedExprOf TypeRef) (form : Option InType) (now : Option Fault) (res : Result (Option InType) AllocError)
      → operation ≡ o.Count at operator a → JudgedSoFar table x first (operation ∷ left) now form
      → ((y : Option giving.InType) (b : TypedExprOf GoType) → BothStand (InTypeStands table) form y → Stands table a b → IfOk res (λ r. BothStand (InTypeStands table) r (option_map (as_shifted at operator b) y)))
      → IfOk res (λ r. JudgedSoFar table x first left now r)
  goes_on_by_count operation left at operator a form now res is h shifted =
      let it = count_stands table operation left at operator a is h.left_stands in
      IfOk-weaker res _ _ (λ r stands. record {
        rest = it.rest;
        left_stands = it.rest_stands;
        follows = more_follow (subst MayFollow it.is h.follows);
        next = made (as_shifted at operator it.count) h.next;
        goes_on = λ y more. h.goes_on y (subst (λ os. AreDefaulted (unnumbered table) h.next os y) (sym it.is) (are.count at operator it.count more));
        form_stands = stands;
        notes = h.notes;
      }) (shifted h.next.form it.count h.form_stands it.stands)

  -- behind a value that waits
  pub goes_on_by_operand : (left : List (PendingOperationOf TypeRef)) (at : Pos) (operator : BinaryOperator) (a : PendingOf TypeRef) (form right : Option InType) (now mid later : Option Fault) (res : Result (Option InType) AllocError)
      → JudgedSoFar table x first (o.Operand at operator a ∷ left) now form
      → ((at : Pos) (value : Constant) (rune : Bool) → a ≡ p.Constant at value rune → ⊥)
      → ((b : PendingOf GoType) → PendingStands table a b → IsWaiting b → Answers (IsDefaulted (unnumbered table) b) (InTypeStands table) now mid right)
      → ((y z : Verdict giving.InType) → BothStand (InTypeStands table) form y.form → now ≡ noted first y.faults → BothStand (InTypeStands table) right z.form → mid ≡ noted now z.faults → IfOk res (λ r. Answers (AfterBoth (λ v. v ≡ y) (λ v. v ≡ z) (in_one_type at operator)) (InTypeStands table) first later r))
      → IfOk res (λ r. JudgedSoFar table x first left later r)
  goes_on_by_operand left at operator a form right now mid later res h not operand_defaulted joined =
      let it = operand_stands table (o.Operand at operator a) left at operator a refl h.left_stands in
      let follows = subst MayFollow it.is h.follows in
      let z = operand_defaulted it.operand it.stands (right_waits table at operator refl follows it.stands not) in
      IfOk-weaker res _ _ (λ r k. record {
        rest = it.rest;
        left_stands = it.rest_stands;
        follows = more_follow follows;
        next = k.verdict;
        goes_on = λ y more. h.goes_on y (subst (λ os. AreDefaulted (unnumbered table) h.next os y) (sym it.is) (are.operand at operator it.operand z.verdict z.judged k.verdict k.judged more));
        form_stands = k.stands;
        notes = k.notes;
      }) (joined h.next z.verdict h.form_stands h.notes z.stands z.notes)

  -- behind a constant
  pub goes_on_by_constant : (left : List (PendingOperationOf TypeRef)) (at : Pos) (operator : BinaryOperator) (right_at : Pos) (value : Constant) (rune : Bool) (form right : Option InType) (now later : Option Fault) (res : Result (Option InType) AllocError)
      → JudgedSoFar table x first (o.Operand at operator (p.Constant right_at value rune) ∷ left) now form
      → ((y : Option giving.InType) → BothStand (InTypeStands table) form y → Answers (IsBeside (unnumbered table) (p.Constant right_at value rune) y) (InTypeStands table) now later right)
      → ((y z : Option giving.InType) → BothStand (InTypeStands table) form y → BothStand (InTypeStands table) right z → IfOk res (λ r. BothStand (InTypeStands table) r (combined (as_left at operator) y z)))
      → IfOk res (λ r. JudgedSoFar table x first left later r)
  goes_on_by_constant left at operator right_at value rune form right now later res h beside joined =
      let it = operand_stands table (o.Operand at operator (p.Constant right_at value rune)) left at operator (p.Constant right_at value rune) refl h.left_stands in
      let same = constant_stands table right_at value rune refl it.stands in
      let z = beside h.next.form h.form_stands in
      IfOk-weaker res _ _ (λ r stands. record {
        rest = it.rest;
        left_stands = it.rest_stands;
        follows = more_follow (subst MayFollow it.is h.follows);
        next = both (as_left at operator) h.next z.verdict;
        goes_on = λ y more. h.goes_on y (subst (λ os. AreDefaulted (unnumbered table) h.next os y) (sym (it.is ∙ ap (λ b. o.Operand at operator b ∷ it.rest) same)) (are.constant at operator right_at value rune z.verdict z.judged more));
        form_stands = stands;
        notes = z.notes ∙ ap (λ n. noted n z.verdict.faults) h.notes ∙ sym (noted_append first h.next.faults z.verdict.faults);
      }) (joined h.next.form z.verdict.form h.form_stands z.stands)

  -- a constant that is shifted
  pub shifts_constant : (left : List (PendingOperationOf TypeRef)) (first_at : Pos) (value : Constant) (rune : Bool) (at : Pos) (operator : BinaryOperator) (a : TypedExprOf TypeRef) (now later : Option Fault) (form : Option (FormOf TypeRef)) (res : Result (Option InType) AllocError)
      → FirstConstant table x first (o.Count at operator a ∷ left) now first_at value rune
      → Answers (IsGiven (unnumbered table) (default_of rune) (p.Constant first_at value rune)) (FormStands table) now later form
      → ((y : Option (FormOf GoType)) (b : TypedExprOf GoType) → BothStand (FormStands table) form y → Stands table a b → IfOk res (λ r. BothStand (InTypeStands table) r (option_map (λ c. in_type (default_of rune) (shifted_by (default_of rune) at operator c b)) y)))
      → IfOk res (λ r. JudgedSoFar table x first left later r)
  shifts_constant left first_at value rune at operator a now later form res h z shifted =
      let it = count_stands table (o.Count at operator a) left at operator a refl h.left_stands in
      IfOk-weaker res _ _ (λ r stands. record {
        rest = it.rest;
        left_stands = it.rest_stands;
        follows = subst FollowsConstant it.is (behind_constant first_at value rune h.rest h.is h.waits);
        next = made (λ c. in_type (default_of rune) (shifted_by (default_of rune) at operator c it.count)) z.verdict;
        goes_on = λ y more. defaulted.shifted first_at value rune at operator it.count it.rest (h.is ∙ ap (p.Chain (p.Constant first_at value rune)) it.is) z.verdict z.judged more;
        form_stands = stands;
        notes = z.notes ∙ ap (λ n. noted n z.verdict.faults) h.notes;
      }) (shifted z.verdict.form it.count z.stands it.stands)

  -- a constant on the left of a value that waits
  pub joins_constant : (left : List (PendingOperationOf TypeRef)) (first_at : Pos) (value : Constant) (rune : Bool) (at : Pos) (operator : BinaryOperator) (a : PendingOf TypeRef) (now mid later fresh apart : Option Fault) (before right : Option InType) (res : Result (Option InType) AllocError)
      → FirstConstant table x first (o.Operand at operator a ∷ left) now first_at value rune
      → fresh ≡ None
      → ((b : PendingOf GoType) → PendingStands table a b → IsWaiting b → Answers (IsDefaulted (unnumbered table) b) (InTypeStands table) fresh apart right)
      → ((y : Option giving.InType) → BothStand (InTypeStands table) right y → Answers (IsBeside (unnumbered table) (p.Constant first_at value rune) y) (InTypeStands table) now mid before)
      → ((fs : List Fault) → apart ≡ noted None fs → later ≡ noted mid fs)
      → ((y z : Option giving.InType) → BothStand (InTypeStands table) before y → BothStand (InTypeStands table) right z → IfOk res (λ r. BothStand (InTypeStands table) r (combined (as_right at operator) y z)))
      → IfOk res (λ r. JudgedSoFar table x first left later r)
  joins_constant left first_at value rune at operator a now mid later fresh apart before right res h fresh_is right_defaulted beside noted_all joined =
      let it = operand_stands table (o.Operand at operator a) left at operator a refl h.left_stands in
      let follows : IsWaiting it.operand × MayFollow it.rest = subst FollowsConstant it.is (behind_constant first_at value rune h.rest h.is h.waits) in
      let z = right_defaulted it.operand it.stands follows.0 in
      let l = beside z.verdict.form z.stands in
      IfOk-weaker res _ _ (λ r stands. record {
        rest = it.rest;
        left_stands = it.rest_stands;
        follows = follows.1;
        next = both (as_right at operator) l.verdict z.verdict;
        goes_on = λ y more. defaulted.beside first_at value rune at operator it.operand it.rest (h.is ∙ ap (p.Chain (p.Constant first_at value rune)) it.is) z.verdict z.judged l.verdict l.judged more;
        form_stands = stands;
        notes = noted_all z.verdict.faults (z.notes ∙ ap (λ n. noted n z.verdict.faults) fresh_is) ∙ ap (λ n. noted n z.verdict.faults) (l.notes ∙ ap (λ n. noted n l.verdict.faults) h.notes) ∙ sym (noted_append first l.verdict.faults z.verdict.faults);
      }) (joined l.verdict.form z.verdict.form l.stands z.stands)

  -- where no operation is left
  pub ends : (form : Option InType) (now : Option Fault) → JudgedSoFar table x first [] now form → Answers (IsDefaulted (unnumbered table) x) (InTypeStands table) first now form
  ends form now h = record {
    verdict = h.next;
    judged = h.goes_on h.next (subst (λ os. AreDefaulted (unnumbered table) h.next os h.next) (sym (no_operations table h.left_stands)) (are.none refl));
    stands = h.form_stands;
    notes = h.notes;
  }

  pub ends_not : (now : Option Fault) (at : Pos) (value : Constant) (rune : Bool) → FirstConstant table x first [] now at value rune → ⊥
  ends_not now at value rune h = subst FollowsConstant (no_operations table h.left_stands) (behind_constant at value rune h.rest h.is h.waits)

-- a constant in the type of the operand beside it
module _ (table : Table) (at : Pos) (value : Constant) (rune : Bool) where
  constant_some : (r : TypeRef) (y : giving.InType) (old new : Option Fault) (form : FormOf TypeRef) (z : Option (FormOf GoType)) (fs : List Fault) → TypeStands table r y.of → IsGiven (unnumbered table) y.of (p.Constant at value rune) (record { form = z; faults = fs }) → new ≡ noted old fs → BothStand (FormStands table) (Some form) z
      → Answers (IsBeside (unnumbered table) (p.Constant at value rune) (Some y)) (InTypeStands table) old new (Some (record { of = r; form = form }))
  constant_some r y old new form _ fs is judged notes (two.some {b = b} h) = record {
    verdict = made (in_type y.of) (record { form = Some b; faults = fs });
    judged = is_beside.known y (record { form = Some b; faults = fs }) judged refl;
    stands = two.some (record { of = is; form = h });
    notes = notes;
  }

  pub constant_beside : (r : TypeRef) (y : giving.InType) (old new : Option Fault) (form : FormOf TypeRef) → TypeStands table r y.of → Answers (IsGiven (unnumbered table) y.of (p.Constant at value rune)) (FormStands table) old new (Some form)
      → Answers (IsBeside (unnumbered table) (p.Constant at value rune) (Some y)) (InTypeStands table) old new (Some (record { of = r; form = form }))
  constant_beside r y old new form is h = constant_some r y old new form h.verdict.form h.verdict.faults is h.judged h.notes h.stands

  constant_none : (y : giving.InType) (old new : Option Fault) (z : Option (FormOf GoType)) (fs : List Fault) → IsGiven (unnumbered table) y.of (p.Constant at value rune) (record { form = z; faults = fs }) → new ≡ noted old fs → BothStand (FormStands table) None z
      → Answers (IsBeside (unnumbered table) (p.Constant at value rune) (Some y)) (InTypeStands table) old new None
  constant_none y old new _ fs judged notes two.none = record {
    verdict = made (in_type y.of) (record { form = None; faults = fs });
    judged = is_beside.known y (record { form = None; faults = fs }) judged refl;
    stands = two.none;
    notes = notes;
  }

  pub no_constant_beside : (y : giving.InType) (old new : Option Fault) → Answers (IsGiven (unnumbered table) y.of (p.Constant at value rune)) (FormStands table) old new None
      → Answers (IsBeside (unnumbered table) (p.Constant at value rune) (Some y)) (InTypeStands table) old new None
  no_constant_beside y old new h = constant_none y old new h.verdict.form h.verdict.faults h.judged h.notes h.stands

  pub beside_none : (old : Option Fault) → Answers (IsBeside (unnumbered table) (p.Constant at value rune) None) (InTypeStands table) old old None
  beside_none old = record { verdict = record { form = None; faults = [] }; judged = is_beside.unknown refl; stands = two.none; notes = refl }

-- a comparison
pub compares : (table : Table) (y : PendingOf GoType) (at : Pos) (operator : BinaryOperator) (operands : GoType) (boxed : Option GoType) (left : FormOf GoType) (right : TypedExprOf GoType) (r : TypeRef) (form : FormOf TypeRef) (now : Option Fault) → y ≡ p.Comparison at operator operands boxed left right → Is table r (basic k.Bool)
    → FormStands table form (with_operation left (record { pos = at; of = basic k.Bool; operator = operator; operands = operands; boxed = boxed; operand = right }))
    → Answers (IsDefaulted (unnumbered table) y) (InTypeStands table) now now (Some (record { of = r; form = form }))
compares table y at operator operands boxed left right r form now is bool stands =
    let z : Verdict (FormOf GoType) = record { form = Some (with_operation left (record { pos = at; of = basic k.Bool; operator = operator; operands = operands; boxed = boxed; operand = right })); faults = [] } in
    record {
      verdict = made (in_type (basic k.Bool)) z;
      judged = defaulted.comparison at operator operands boxed left right is z (given.comparison at operator operands boxed left right is refl) refl;
      stands = two.some (record { of = record { is = bool; typed = basic_is_typed k.Bool }; form = stands });
      notes = refl;
    }
