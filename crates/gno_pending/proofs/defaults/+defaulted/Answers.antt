use Rattle.std.proofs.Common.{◌≡◌, refl, sym, ◌∙◌, subst, ◌∷◌, []}
use Rattle.std.proofs.lemmas.Result.{IfOk-weaker}
use Rattle.std.specs.Vec.Iter.{into_iter_items, into_iter_len}
use Rattle.gno_base.specs.declared.kind.Kind.TheVariants as k
use Rattle.gno_judging.specs.Found.{PendingStands}
use Rattle.gno_pending.proofs.DefaultedChains.{begins, begins_by_constant, compares, ends, ends_not, goes_on_by_count, goes_on_by_operand, joins_constant}
use Rattle.gno_pending.proofs.Depths.{first_of_left, no_items, rest_falls, same_depth}
use Rattle.gno_pending.proofs.PendingForms.{chain_stands, comparison_stands, constant_stands, unary_stands}
use Rattle.gno_pending.proofs.WaitingForms.{front_waits, no_constant, operand_waits}
use Rattle.gno_pending.specs.Fronts.{DefaultedSoFar, FirstConstant, JudgedSoFar}
use Rattle.gno_typed.specs.declared.expr.TypedExprOf.TheVariants as w
use Rattle.gno_typing.specs.Classes.{basic}
use Rattle.gno_typing.specs.Forms.{closed}
use Rattle.gno_typing.specs.Giving.{in_type, made}
use Rattle.gno_typing.specs.Giving.{IsDefaulted as defaulted}
use Rattle.gno_typing.specs.declared.form.FormOf.TheVariants as f
use Rattle.gno_typing.specs.declared.pending.PendingOperationOf.TheVariants as o
use Rattle.gno_pending.proofs.defaults.+defaulted.Goals as goal

pub all_defaulted-loop-operation-init : goal.all_defaulted-loop-operation-init
all_defaulted-loop-operation-init t c =
    let items : into_iter_items c.into_iter-operation-iterator.result ≡ c.into_vec-operation-items.result.items = c.into_iter-operation-iterator.ensures.into_iter_gives.0 in
    let same : into_iter_items c.into_iter-operation-iterator.result ≡ c.args.rest = items ∙ c.into_vec-operation-items.ensures in
    record {
      no_deeper = same_depth _ c.args.rest same;
      goes_on = λ y first basics h. subst (λ xs. DefaultedSoFar c.args.types.now y first xs c.args.faults.now c.args.front) (sym same) h;
    }

pub all_defaulted-one_defaulted-requires : goal.all_defaulted-one_defaulted-requires
all_defaulted-one_defaulted-requires t c = (first_of_left c.in-Some.operation _ _ c.args.rest t c.in-Some.ensures.steps.0 c.loop-operation.invariant.no_deeper c.decreases, tt)

pub all_defaulted-loop-operation-preserved : goal.all_defaulted-loop-operation-preserved
all_defaulted-loop-operation-preserved t c =
    let steps : into_iter_items c.loop-operation.operation-iterator ≡ c.in-Some.operation ∷ into_iter_items c.next.new.self = c.in-Some.ensures.steps.0 in
    record {
      no_deeper = rest_falls c.in-Some.operation _ _ c.args.rest steps c.loop-operation.invariant.no_deeper;
      goes_on = λ y first basics h. c.in_ok-x.ensures y first _ basics (subst (λ xs. DefaultedSoFar c.args.types.now y first xs c.loop-operation.faults c.loop-operation.front) steps (c.loop-operation.invariant.goes_on y first basics h));
    }

pub all_defaulted-returns-in-Constant : goal.all_defaulted-returns-in-Constant
all_defaulted-returns-in-Constant t c y first basics h =
    let none = no_items (into_iter_items c.loop-operation.operation-iterator) (into_iter_len c.loop-operation.operation-iterator) c.loop-operation.operation-iterator.rest.ok.0 c.in-None.ensures.steps.0 in
    let at_end = subst (λ xs. DefaultedSoFar c.args.types.now y first xs c.loop-operation.faults c.loop-operation.front) none (c.loop-operation.invariant.goes_on y first basics h) in
    absurd (ends_not c.args.types.now y first c.loop-operation.faults c.in-Constant.pos c.in-Constant.value c.in-Constant.rune (subst (λ front. DefaultedSoFar c.args.types.now y first [] c.loop-operation.faults front) c.in-Constant.is at_end))

pub all_defaulted-returns-in-Judged : goal.all_defaulted-returns-in-Judged
all_defaulted-returns-in-Judged t c y first basics h =
    let none = no_items (into_iter_items c.loop-operation.operation-iterator) (into_iter_len c.loop-operation.operation-iterator) c.loop-operation.operation-iterator.rest.ok.0 c.in-None.ensures.steps.0 in
    let at_end = subst (λ xs. DefaultedSoFar c.args.types.now y first xs c.loop-operation.faults c.loop-operation.front) none (c.loop-operation.invariant.goes_on y first basics h) in
    ends c.args.types.now y first c.in-Judged.x c.loop-operation.faults (subst (λ front. DefaultedSoFar c.args.types.now y first [] c.loop-operation.faults front) c.in-Judged.is at_end)

pub one_defaulted-returns-in-Constant : goal.one_defaulted-returns-in-Constant
one_defaulted-returns-in-Constant t c y first left basics h = c.behind_constant.ensures y first left basics (subst (λ front. DefaultedSoFar c.args.types.now y first (c.args.operation ∷ left) c.args.faults.now front) c.in-Constant.is h)

pub one_defaulted-returns-in-Judged : goal.one_defaulted-returns-in-Judged
one_defaulted-returns-in-Judged t c y first left basics h = c.behind_judged.ensures y first left basics (subst (λ front. DefaultedSoFar c.args.types.now y first (c.args.operation ∷ left) c.args.faults.now front) c.in-Judged.is h)

pub behind_constant-returns-in-Operand : goal.behind_constant-returns-in-Operand
behind_constant-returns-in-Operand t c y first left basics h = c.constant_joined.ensures y c.args.rune first left basics (subst (λ operation. FirstConstant c.args.types.now y first (operation ∷ left) c.args.faults.now c.args.first_pos c.args.value c.args.rune) c.in-Operand.is h)

pub behind_constant-returns-in-Count : goal.behind_constant-returns-in-Count
behind_constant-returns-in-Count t c y first left basics h = c.constant_shifted.ensures y first left basics (subst (λ operation. FirstConstant c.args.types.now y first (operation ∷ left) c.args.faults.now c.args.first_pos c.args.value c.args.rune) c.in-Count.is h)

pub behind_judged-returns-in-Operand : goal.behind_judged-returns-in-Operand
behind_judged-returns-in-Operand t c y first left basics h = c.joined_operand.ensures y first left basics (subst (λ operation. JudgedSoFar c.args.types.now y first (operation ∷ left) c.args.faults.now c.args.x) c.in-Operand.is h)

pub behind_judged-returns-in-Count : goal.behind_judged-returns-in-Count
behind_judged-returns-in-Count t c y first left basics h = goes_on_by_count c.args.types.now y first c.args.operation left c.in-Count.pos c.in-Count.operator c.in-Count.count c.args.x c.args.faults.now c.shifted_in_type.result c.in-Count.is h
    (λ z b k stands. c.shifted_in_type.ensures c.args.types.now z b k stands)

pub constant_joined-returns : goal.constant_joined-returns
constant_joined-returns t c y rune first left basics h =
    joins_constant c.args.types.now y first left c.args.first_pos c.args.value rune c.args.pos c.args.operator c.args.operand c.args.faults.now c.beside-left.new.faults c.note_all.new.self c.new-later.result c.defaulted.new.faults c.beside-left.result c.in_ok-right.right c.joined_as_right.result h c.new-later.ensures
    (λ b stands waits. c.in_ok-right.ensures b basics stands waits) (λ z k. c.beside-left.ensures rune z k) c.note_all.ensures (λ z v k l. c.joined_as_right.ensures c.args.types.now z v k l)

pub joined_operand-returns-in-Constant : goal.joined_operand-returns-in-Constant
joined_operand-returns-in-Constant t c y first left basics h = c.joined_constant.ensures y first left (subst (λ a. JudgedSoFar c.args.types.now y first (o.Operand c.args.pos c.args.operator a ∷ left) c.args.faults.now c.args.x) c.in-Constant.is h)

pub joined_operand-returns-in-Ok : goal.joined_operand-returns-in-Ok
joined_operand-returns-in-Ok t c y first left basics h = goes_on_by_operand c.args.types.now y first left c.args.pos c.args.operator c.args.operand c.args.x c.in-Ok.right c.args.faults.now c.defaulted.new.faults c.joined_in_one_type.new.faults c.joined_in_one_type.result h c.in_default.not-Constant
    (λ b stands waits. c.in-Ok.ensures b basics stands waits) (λ z v k notes l more. c.joined_in_one_type.ensures first c.args.faults.now z v k notes l more)

pub first_defaulted-returns-in-Constant : goal.first_defaulted-returns-in-Constant
first_defaulted-returns-in-Constant t c y z left rest basics stands more is waits = begins_by_constant c.args.types.now y c.args.faults.now z left rest c.in-Constant.pos c.in-Constant.value c.in-Constant.rune is more waits (constant_stands c.args.types.now c.in-Constant.pos c.in-Constant.value c.in-Constant.rune c.in-Constant.is stands)

pub first_defaulted-returns-in_ok-x-in_default : goal.first_defaulted-returns-in_ok-x-in_default
first_defaulted-returns-in_ok-x-in_default t c y z left rest basics stands more is waits =
    let it = front_waits c.args.types.now y rest is waits stands c.in_default.not-Constant in
    begins c.args.types.now y c.args.faults.now z left rest _ _ is more it.1 (c.in_ok-x-in_default.ensures z basics stands it.0)

pub defaulted-returns-in_ok-form-in-Comparison : goal.defaulted-returns-in_ok-form-in-Comparison
defaulted-returns-in_ok-form-in-Comparison t c y basics h waits =
    let it = comparison_stands c.args.types.now c.in-Comparison.pos c.in-Comparison.operator c.in-Comparison.operands c.in-Comparison.boxed c.in-Comparison.left c.in-Comparison.right c.in-Comparison.is h in
    compares c.args.types.now y c.in-Comparison.pos c.in-Comparison.operator it.operands it.boxed it.left it.right c.args.basics.bool _ c.args.faults.now it.y_is basics.bool (c.in_ok-form-in-Comparison.ensures c.args.types.now (basic k.Bool) it.operands it.boxed it.left it.right basics.bool it.operands_stand it.boxed_stands it.left_stands it.right_stands)

pub defaulted-returns-in-Constant : goal.defaulted-returns-in-Constant
defaulted-returns-in-Constant t c y basics h waits = absurd (no_constant c.in-Constant.pos c.in-Constant.value c.in-Constant.rune (constant_stands c.args.types.now c.in-Constant.pos c.in-Constant.value c.in-Constant.rune c.in-Constant.is h) waits)

pub defaulted-returns-in_ok-x-in-Unary : goal.defaulted-returns-in_ok-x-in-Unary
defaulted-returns-in_ok-x-in-Unary t c y basics h waits =
    let it = unary_stands c.args.types.now c.in-Unary.pos c.in-Unary.operator c.in-Unary.operand c.in-Unary.is h in
    let z = c.in_ok-x-in-Unary.ensures it.operand basics (subst (λ x. PendingStands c.args.types.now x it.operand) (sym c.into_inner.ensures) it.stands) (operand_waits c.in-Unary.pos c.in-Unary.operator it.operand it.y_is waits) in
    IfOk-weaker c.unary_in_type.result _ _
    (λ r stands. record { verdict = made (λ a. in_type a.of (f.Whole (w.Unary c.in-Unary.pos a.of c.in-Unary.operator (closed a.form)))) z.verdict; judged = defaulted.unary c.in-Unary.pos c.in-Unary.operator it.operand it.y_is z.verdict z.judged refl; stands = stands; notes = z.notes })
    (c.unary_in_type.ensures c.args.types.now z.verdict.form z.stands)

pub defaulted-returns-in_ok-front-in-Chain : goal.defaulted-returns-in_ok-front-in-Chain
defaulted-returns-in_ok-front-in-Chain t c y basics h waits =
    let it = chain_stands c.args.types.now c.in-Chain.first c.in-Chain.rest c.in-Chain.is h in
    c.all_defaulted.ensures y c.args.faults.now basics (c.in_ok-front-in-Chain.ensures y it.front c.in-Chain.rest it.rest basics (subst (λ x. PendingStands c.args.types.now x it.front) (sym c.into_inner-in-Chain.ensures) it.front_stands) it.rest_stands it.y_is waits)
