use Rattle.gno_names.proofs.TypeNames.{no_type, the_type}
use Rattle.gno_names.proofs.types.as_type.Goals as goal

pub returns-in-Type : goal.returns-in-Type
returns-in-Type c table y h = the_type table c.args.at _ _ _ c.args.x.now y c.in-Type.is h

pub returns-in_default : goal.returns-in_default
returns-in_default c table y h = no_type table c.args.at _ _ c.args.x.now y h c.in_default.not-Type c.note.ensures
