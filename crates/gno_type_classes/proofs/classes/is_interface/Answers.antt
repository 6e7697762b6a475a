use Rattle.std.proofs.Common.{refl, sym, ◌∙◌}
use Rattle.gno_promotion.specs.MethodSets.{is_interface}
use Rattle.gno_terms.specs.Tables.{type_at}
use Rattle.gno_type_classes.proofs.ByClass.{is_of, of_none}
use Rattle.gno_method_sets.proofs.Rows.{interface_itself}
use Rattle.gno_type_classes.proofs.classes.is_interface.Goals as goal

pub returns-in-Some : goal.returns-in-Some
returns-in-Some c s is = is_of c.args.types.now s c.in-Some.row.now (c.in-Some.ensures.some s is) is_interface c.is_interface.result (c.is_interface.ensures ∙ sym (interface_itself (type_at c.args.types.now.types) c.in-Some.row.now))

pub returns-in-None : goal.returns-in-None
returns-in-None c s is = of_none c.args.types.now s is_interface (c.in-None.ensures.none refl s is)
