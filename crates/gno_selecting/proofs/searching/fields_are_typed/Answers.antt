use Rattle.gno_selecting.proofs.TypedFields.{fields_typed}
use Rattle.gno_selecting.proofs.searching.fields_are_typed.Goals as goal

pub returns : goal.returns
returns c s u k f is by at = fields_typed c.args.types.now c.have_one_definition.ensures c.types_are_lawful.ensures.lawful c.args.t s u is by c.underlying-under.result c.underlying-under.ensures.some c.underlying-under.ensures.none k f at
