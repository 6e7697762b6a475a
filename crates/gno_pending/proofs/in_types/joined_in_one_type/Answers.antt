use Rattle.std.proofs.Common.{◌≡◌, refl, Some, None}
use Rattle.gno_giving.specs.InTypes.{InTypeStands}
use Rattle.gno_judging.proofs.Answers.{left_none, right_none}
use Rattle.gno_pending.proofs.Parts.{after_both_ok, as_found}
use Rattle.gno_typing.specs.Giving.{in_one_type}
use Rattle.gno_pending.proofs.in_types.joined_in_one_type.Goals as goal

pub returns-in-Some-right : goal.returns-in-Some-right
returns-in-Some-right c first mid x y left left_notes right right_notes =
    let R = InTypeStands c.args.types.now in
    after_both_ok R R R (λ a. a ≡ x) (λ a. a ≡ y) (in_one_type c.args.pos c.args.operator) first mid c.args.faults.now _ c.in_one_type.result c.in-Some.left c.in-Some-right.right
    (as_found R x c.args.left (Some c.in-Some.left) first mid c.in-Some.is left left_notes) (as_found R y c.args.right (Some c.in-Some-right.right) mid c.args.faults.now c.in-Some-right.is right right_notes)
    (λ a b h k. c.in_one_type.ensures a b h k)

pub returns-in-None-right : goal.returns-in-None-right
returns-in-None-right c first mid x y left left_notes right right_notes =
    let R = InTypeStands c.args.types.now in
    right_none R R R (λ a. a ≡ x) (λ a. a ≡ y) (in_one_type c.args.pos c.args.operator) first mid c.args.faults.now c.args.left
    (as_found R x c.args.left c.args.left first mid refl left left_notes) (as_found R y c.args.right None mid c.args.faults.now c.in-None-right.is right right_notes)

pub returns-in-None : goal.returns-in-None
returns-in-None c first mid x y left left_notes right right_notes =
    let R = InTypeStands c.args.types.now in
    left_none R R R (λ a. a ≡ x) (λ a. a ≡ y) (in_one_type c.args.pos c.args.operator) first mid c.args.faults.now c.args.right
    (as_found R x c.args.left None first mid c.in-None.is left left_notes) (as_found R y c.args.right c.args.right mid c.args.faults.now refl right right_notes)
