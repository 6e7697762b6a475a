use Rattle.std.proofs.Common.{ap, ◌∙◌}
use Rattle.gno_judging.specs.Stands.{StepStands as step}
use Rattle.gno_method_sets.proofs.Rows.{there}
use Rattle.gno_selecting.specs.Members.{holder_with}
use Rattle.gno_selecting.proofs.Bound.{field_given}
use Rattle.gno_selecting.proofs.Selected.{a_field}
use Rattle.gno_selecting.proofs.Unnumbering.{field_unnumbered}
use Rattle.gno_terms.specs.Tables.{type_at}
use Rattle.gno_terms.specs.Terms.{field_with}
use Rattle.gno_type_classes.specs.Unnumbered.{unnumbered}
use Rattle.gno_typing.specs.Selectors.{FieldFound, asked, reached}
use Rattle.gno_selecting.proofs.members.with_field.Goals as goal

pub returns : goal.returns
returns c path name s u y f own stands below form =
    let at = stands own.type own.is in
    let there_it = there c.args.types.now c.args.field.of below in
    let x : FieldFound = record { way = c.args.way; index = c.args.index; field = field_with (type_at c.args.types.now.types) c.args.field } in
    a_field (unnumbered c.args.types.now) c.args.types.now c.args.place path name s c.args.x.standing c.args.x.calls y (holder_with c.args.holder u) f f _ x
    (field_unnumbered c.args.types.now u name (asked path name) x (record { of = own.type; passes = own.passes; place = own.place; selects = own.selects; underlying = at.underlying; by = at.by; at = at.at }))
    (field_given c.args.types.now c.args.place s c.args.x.standing c.args.x.calls y (holder_with c.args.holder u) c.is_taken_as_place-as_place.result c.is_taken_as_place-as_place.ensures f x c.args.field.of c.reached-standing.result c.in_ok-form.form
    (c.reached-standing.ensures ∙ ap (λ l. reached c.args.holder.pointer l c.args.x.standing) c.as_slice.ensures) (record { is = there_it; typed = c.fields_are_typed.ensures own.type at.underlying c.args.index x.field own.is at.by at.at })
    (c.in_ok-form.ensures.stands c.args.types.now y _ form (step.field c.args.place c.is_taken_as_place-as_place.result c.args.holder.pointer c.args.way c.args.index there_it)))
