use Rattle.std.proofs.Common.{◌≡◌, refl, sym, ◌∙◌, subst, ◌∷◌}
use Rattle.std.proofs.lemmas.Result.{IfOk-weaker}
use Rattle.std.specs.Vec.Iter.{into_iter_items, into_iter_len}
use Rattle.gno_judging.proofs.Answers.{gives}
use Rattle.gno_judging.specs.Answers.{Answers}
use Rattle.gno_judging.specs.Found.{FormStands, PendingStands}
use Rattle.gno_pending.proofs.Depths.{first_falls, no_items, rest_falls, same_depth}
use Rattle.gno_pending.proofs.GivenChains.{begins, ends, goes_on_by_count, goes_on_by_operand}
use Rattle.gno_pending.proofs.Parts.{answers_by}
use Rattle.gno_pending.proofs.PendingForms.{chain_stands, comparison_stands, constant_stands, unary_stands}
use Rattle.gno_pending.specs.Chains.{GivenSoFar}
use Rattle.gno_type_classes.specs.Unnumbered.{unnumbered}
use Rattle.gno_typed.specs.declared.expr.TypedExprOf.TheVariants as w
use Rattle.gno_typing.specs.Forms.{closed}
use Rattle.gno_typing.specs.Giving.{IsGiven, made}
use Rattle.gno_typing.specs.Giving.{IsGiven as given}
use Rattle.gno_typing.specs.declared.form.FormOf.TheVariants as f
use Rattle.gno_pending.proofs.given.+given.Goals as goal

pub all_given-loop-operation-init : goal.all_given-loop-operation-init
all_given-loop-operation-init t c =
    let items : into_iter_items c.into_iter-operation-iterator.result ≡ c.into_vec-operation-items.result.items = c.into_iter-operation-iterator.ensures.into_iter_gives.0 in
    let same : into_iter_items c.into_iter-operation-iterator.result ≡ c.args.rest = items ∙ c.into_vec-operation-items.ensures in
    record {
      no_deeper = same_depth _ c.args.rest same;
      goes_on = λ u y first is h. subst (λ xs. GivenSoFar c.args.types.now u y first xs c.args.form c.args.faults.now) (sym same) h;
    }

pub all_given-one_given-requires : goal.all_given-one_given-requires
all_given-one_given-requires t c = (first_falls c.in-Some.operation _ _ c.args.rest t c.in-Some.ensures.steps.0 c.loop-operation.invariant.no_deeper c.decreases, tt)

pub all_given-loop-operation-preserved : goal.all_given-loop-operation-preserved
all_given-loop-operation-preserved t c =
    let steps : into_iter_items c.loop-operation.operation-iterator ≡ c.in-Some.operation ∷ into_iter_items c.next.new.self = c.in-Some.ensures.steps.0 in
    record {
      no_deeper = rest_falls c.in-Some.operation _ _ c.args.rest steps c.loop-operation.invariant.no_deeper;
      goes_on = λ u y first is h. c.in_ok-form.ensures u y first _ is (subst (λ xs. GivenSoFar c.args.types.now u y first xs c.loop-operation.form c.loop-operation.faults) steps (c.loop-operation.invariant.goes_on u y first is h));
    }

pub all_given-returns : goal.all_given-returns
all_given-returns t c u y first is h =
    let none = no_items (into_iter_items c.loop-operation.operation-iterator) (into_iter_len c.loop-operation.operation-iterator) c.loop-operation.operation-iterator.rest.ok.0 c.in-None.ensures.steps.0 in
    ends c.args.types.now u y first c.loop-operation.form c.loop-operation.faults (subst (λ xs. GivenSoFar c.args.types.now u y first xs c.loop-operation.form c.loop-operation.faults) none (c.loop-operation.invariant.goes_on u y first is h))

pub given_type-same-rest : goal.given_type-same-rest
given_type-same-rest t c = refl

pub given_type-returns-in_ok-form-in-Comparison : goal.given_type-returns-in_ok-form-in-Comparison
given_type-returns-in_ok-form-in-Comparison t c u y is h =
    let it = comparison_stands c.args.types.now c.in-Comparison.pos c.in-Comparison.operator c.in-Comparison.operands c.in-Comparison.boxed c.in-Comparison.left c.in-Comparison.right c.in-Comparison.is h in
    answers_by (FormStands c.args.types.now) _ (IsGiven (unnumbered c.args.types.now) u y) _ _ _ (λ v judged. given.comparison c.in-Comparison.pos c.in-Comparison.operator it.operands it.boxed it.left it.right it.y_is judged)
    (gives (FormStands c.args.types.now) _ _ _ (c.in_ok-form-in-Comparison.ensures c.args.types.now u it.operands it.boxed it.left it.right is it.operands_stand it.boxed_stands it.left_stands it.right_stands))

pub given_type-returns-in-Constant : goal.given_type-returns-in-Constant
given_type-returns-in-Constant t c u y is h = subst (λ z. Answers (IsGiven (unnumbered c.args.types.now) u z) (FormStands c.args.types.now) c.args.faults.now c.constant.new.faults c.constant.result) (sym (constant_stands c.args.types.now c.in-Constant.pos c.in-Constant.value c.in-Constant.rune c.in-Constant.is h)) (c.constant.ensures u c.in-Constant.rune is)

pub given_type-returns-in_ok-form-in-Unary : goal.given_type-returns-in_ok-form-in-Unary
given_type-returns-in_ok-form-in-Unary t c u y is h =
    let it = unary_stands c.args.types.now c.in-Unary.pos c.in-Unary.operator c.in-Unary.operand c.in-Unary.is h in
    let z = c.in_ok-form-in-Unary.ensures u it.operand is (subst (λ x. PendingStands c.args.types.now x it.operand) (sym c.into_inner.ensures) it.stands) in
    IfOk-weaker c.unary_given.result _ _
    (λ r stands. record { verdict = made (λ a. f.Whole (w.Unary c.in-Unary.pos u c.in-Unary.operator (closed a))) z.verdict; judged = given.unary c.in-Unary.pos c.in-Unary.operator it.operand it.y_is z.verdict z.judged refl; stands = stands; notes = z.notes })
    (c.unary_given.ensures c.args.types.now u z.verdict.form is z.stands)

pub given_type-returns-in_ok-form-in-Chain : goal.given_type-returns-in_ok-form-in-Chain
given_type-returns-in_ok-form-in-Chain t c u y is h =
    let it = chain_stands c.args.types.now c.in-Chain.first c.in-Chain.rest c.in-Chain.is h in
    let z = c.in_ok-form-in-Chain.ensures u it.front is (subst (λ x. PendingStands c.args.types.now x it.front) (sym c.into_inner-in-Chain.ensures) it.front_stands) in
    c.all_given.ensures u y c.args.faults.now is (begins c.args.types.now u y c.args.faults.now it.front c.in-Chain.rest it.rest _ _ it.y_is it.rest_stands z)

pub one_given-returns-in-Ok : goal.one_given-returns-in-Ok
one_given-returns-in-Ok t c u y first left is h = goes_on_by_operand c.args.types.now u y first c.args.operation left c.in-Operand.pos c.in-Operand.operator c.in-Operand.operand c.args.form c.in-Ok.right c.args.faults.now c.given_type.new.faults c.joined_given.result c.in-Operand.is h
    (λ b stands. c.in-Ok.ensures u b is stands) (λ v z front right. c.joined_given.ensures c.args.types.now u v z is front right)

pub one_given-returns-in-Count : goal.one_given-returns-in-Count
one_given-returns-in-Count t c u y first left is h = goes_on_by_count c.args.types.now u y first c.args.operation left c.in-Count.pos c.in-Count.operator c.in-Count.count c.args.form c.args.faults.now c.shifted_given.result c.in-Count.is h
    (λ v b front stands. c.shifted_given.ensures c.args.types.now u v b is front stands)
