use Rattle.std.proofs.Common.{sym, ◌∙◌}
use Rattle.gno_method_sets.proofs.Rows.{there}
use Rattle.gno_selecting.specs.Members.{holder_with, method_found}
use Rattle.gno_selecting.proofs.Selected.{a_method, fields_alone}
use Rattle.gno_selecting.proofs.Unnumbering.{method_unnumbered}
use Rattle.gno_terms.specs.Tables.{type_at}
use Rattle.gno_type_classes.specs.Unnumbered.{unnumbered}
use Rattle.gno_typing.specs.Selectors.{asked}
use Rattle.gno_selecting.proofs.methods.with_method.Goals as goal

pub returns-then-holder : goal.returns-then-holder
returns-then-holder c path name s u y is own below form = fields_alone (unnumbered c.args.types.now) c.args.types.now c.args.place path name s c.args.x.standing c.args.x.calls y (holder_with c.args.holder u) _ _ c.args.holder.fields_alone c.if-holder.true c.note.ensures

pub returns-else-is_untyped : goal.returns-else-is_untyped
returns-else-is_untyped c path name s u y is own below form =
    let t = type_at c.args.types.now.types c.args.method.of in
    let at = there c.args.types.now c.args.method.of below in
    a_method (unnumbered c.args.types.now) c.args.types.now c.args.place path name s c.args.x.standing c.args.x.calls y (holder_with c.args.holder u) _ _ c.args.holder.fields_alone c.if-holder.false _ (method_found c.args.way own.type c.args.method t)
    (method_unnumbered c.args.types.now u name (asked path name) _ (record { passes = own.passes; place = own.place; selects = own.selects }))
    (c.method_selected.ensures s u own.type t y is own.is (record { is = at; typed = sym (c.is_untyped.ensures t at) ∙ c.if-is_untyped.false }) form)
