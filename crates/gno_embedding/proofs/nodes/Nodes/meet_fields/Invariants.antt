use Rattle.gno_terms.specs.Tables.{deep}
use Rattle.gno_embedding.specs.Nodes.{AreFieldsOf, IsAt}
use Rattle.gno_embedding.proofs.nodes.Nodes.meet_fields.Given as goal

abbrev pub invariant-loop-place : goal.invariant-loop-place
invariant-loop-place l = record {
  at : IsAt l.rows (deep l.rows.types l.term) l.self.items.items l.self.places l.next l.place;
  fields : AreFieldsOf l.rows (deep l.rows.types l.term) l.self.items.items l.next l.fields;
}
