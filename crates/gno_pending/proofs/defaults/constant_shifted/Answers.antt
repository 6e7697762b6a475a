use Rattle.std.proofs.Common.{refl, Some, None, Ok}
use Rattle.gno_giving.specs.InTypes.{InTypeStands}
use Rattle.gno_judging.specs.Found.{FormStands}
use Rattle.gno_pending.proofs.DefaultedChains.{shifts_constant}
use Rattle.gno_pending.proofs.Parts.{made_of, made_of_none}
use Rattle.gno_typing.specs.Giving.{default_of, in_type, shifted_by}
use Rattle.gno_pending.proofs.defaults.constant_shifted.Goals as goal

pub returns-in_ok-form-in-Some : goal.returns-in_ok-form-in-Some
returns-in_ok-form-in-Some c y first left basics h =
    let table = c.args.types.now in
    let u = default_of c.args.rune in
    let is = c.default_type-of.ensures table basics in
    shifts_constant table y first left c.args.first_pos c.args.value c.args.rune c.args.pos c.args.operator c.args.count c.args.faults.now _ (Some c.in-Some.form) (Ok _) h (c.in-Some.ensures u c.args.rune is.is)
    (λ z b k stands. made_of (FormStands table) (InTypeStands table) (λ a. in_type u (shifted_by u c.args.pos c.args.operator a b)) (Some c.in-Some.form) z c.in-Some.form _ refl k (λ a l. record { of = is; form = c.in_ok-form-in-Some.ensures table u a b is.is l stands }))

pub returns-in-None : goal.returns-in-None
returns-in-None c y first left basics h =
    let table = c.args.types.now in
    let u = default_of c.args.rune in
    let is = c.default_type-of.ensures table basics in
    shifts_constant table y first left c.args.first_pos c.args.value c.args.rune c.args.pos c.args.operator c.args.count c.args.faults.now _ None (Ok None) h (c.in-None.ensures u c.args.rune is.is)
    (λ z b k stands. made_of_none (FormStands table) (InTypeStands table) (λ a. in_type u (shifted_by u c.args.pos c.args.operator a b)) None z refl k)
