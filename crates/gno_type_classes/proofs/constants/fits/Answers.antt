use Rattle.std.proofs.Common.{refl, sym, ◌∙◌}
use Rattle.gno_terms.specs.Tables.{type_at}
use Rattle.gno_type_classes.proofs.ByClass.{is_of, of_none}
use Rattle.gno_type_classes.proofs.FormsOfRows.{fits_itself}
use Rattle.gno_typing.specs.Classes.{fits}
use Rattle.gno_type_classes.proofs.constants.fits.Goals as goal

pub returns-in-Some : goal.returns-in-Some
returns-in-Some c s is = is_of c.args.types.now s c.in-Some.row.now (c.in-Some.ensures.some s is) (fits c.args.constant.now) c.fits_row.result (c.fits_row.ensures ∙ sym (fits_itself (type_at c.args.types.now.types) c.args.constant.now c.in-Some.row.now))

pub returns-in-None : goal.returns-in-None
returns-in-None c s is = of_none c.args.types.now s (fits c.args.constant.now) (c.in-None.ensures.none refl s is)
