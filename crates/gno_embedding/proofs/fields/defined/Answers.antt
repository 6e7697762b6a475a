use Rattle.gno_embedding.proofs.Opened.{given_fields, not_given}
use Rattle.gno_embedding.proofs.fields.defined.Goals as goal

pub returns-in-Some-clause-some : goal.returns-in-Some-clause-some
returns-in-Some-clause-some c = given_fields c.args.rows.now c.args.number c.in-Some.definition.now c.term.result.now c.fields_of.result.now c.requires.defined c.in-Some.ensures.some c.in-Some.ensures.own c.term.ensures.is c.term.ensures.parts c.fields_of.ensures

pub returns-in-None-clause-none : goal.returns-in-None-clause-none
returns-in-None-clause-none c e = not_given c.args.rows.now c.args.number c.requires.below c.requires.defined (c.in-None.ensures.none e)
