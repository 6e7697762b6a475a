use Rattle.std.proofs.Common.{refl, sym, ap, ◌∙◌}
use Rattle.std.specs.Prelude.{not}
use Rattle.gno_terms.specs.Tables.{type_at}
use Rattle.gno_type_classes.proofs.ByClass.{is_of, of_none}
use Rattle.gno_type_classes.proofs.FormsOfRows.{is_pointer_or_interface_itself}
use Rattle.gno_typing.specs.Selectors.{is_pointer_or_interface}
use Rattle.gno_type_classes.proofs.holders.has_members.Goals as goal

pub returns-in-Some : goal.returns-in-Some
returns-in-Some c s is = is_of c.args.types.now s c.in-Some.row.now (c.in-Some.ensures.some s is) (λ x. not (is_pointer_or_interface x)) c.has_members.result (c.has_members.ensures ∙ ap not (sym (is_pointer_or_interface_itself (type_at c.args.types.now.types) c.in-Some.row.now)))

pub returns-in-None : goal.returns-in-None
returns-in-None c s is = of_none c.args.types.now s (λ x. not (is_pointer_or_interface x)) (c.in-None.ensures.none refl s is)
