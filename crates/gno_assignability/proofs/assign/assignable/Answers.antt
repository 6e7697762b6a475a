use Rattle.std.proofs.Common.{sym, ap, ◌∙◌, rules}
use Rattle.std.specs.Prelude.{option_map}
use Rattle.gno_assignability.proofs.Assigning.{for_nil}
use Rattle.gno_assignability.proofs.FormsOfRows.{not_nil_itself}
use Rattle.gno_method_sets.proofs.Rows.{term_is}
use Rattle.gno_terms.specs.Tables.{type_at}
use Rattle.gno_terms.specs.Terms.{term_with}
use Rattle.gno_assignability.proofs.assign.assignable.Goals as goal

pub takes-requires : goal.takes-requires
takes-requires c = record {
  from = c.requires.from;
  to = c.requires.to;
  complete = c.requires.complete;
  known = c.requires.known;
  different = λ s u is own i. search (rules, sym c.if-identical.false ∙ (c.identical.ensures s u is own).1 i);
  not_nil = λ s is e. not_nil_itself (type_at c.args.types.now.types) c.term.result.now c.in_default.not-UntypedNil (sym (term_is c.args.types.now c.args.from s c.term.result.now is c.term.ensures.is) ∙ e);
}

pub returns-in-UntypedNil : goal.returns-in-UntypedNil
returns-in-UntypedNil c s u is own =
    for_nil c.args.types.now s (option_map (λ it. it.now) c.args.constant) u (λ i. search (rules, sym c.if-identical.false ∙ (c.identical.ensures s u is own).1 i)) c.takes_nil.result
    (term_is c.args.types.now c.args.from s c.term.result.now is c.term.ensures.is ∙ ap (term_with (type_at c.args.types.now.types)) c.in-UntypedNil.is)
    (c.takes_nil.ensures u own)
