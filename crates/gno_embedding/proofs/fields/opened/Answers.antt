use Rattle.std.proofs.Common.{rules}
use Rattle.gno_embedding.proofs.Opened.{defined_at, own_fields}
use Rattle.gno_embedding.proofs.fields.opened.Goals as goal

pub defined-requires-clause-defined : goal.defined-requires-clause-defined
defined-requires-clause-defined c = defined_at c.args.rows.now c.args.number c.args.term.now c.in-Defined.path c.in-Defined.name c.in-Defined.local c.in-Defined.is (c.requires.defined (search (rules, c.in-Defined.is)))

pub returns-in_default : goal.returns-in_default
returns-in_default c = record {
  some = own_fields c.args.rows.now c.args.term.now c.fields_of.result.now c.requires.parts c.in_default.not-Defined c.fields_of.ensures;
  none = λ e. search (rules, e);
}
