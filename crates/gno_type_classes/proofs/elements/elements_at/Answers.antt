use Rattle.std.proofs.Common.{refl, sym, ◌∙◌}
use Rattle.gno_method_sets.proofs.Rows.{some_map}
use Rattle.gno_terms.specs.Tables.{type_at}
use Rattle.gno_type_classes.proofs.OtherParts.{no_array}
use Rattle.gno_type_classes.proofs.elements.elements_at.Goals as goal

pub returns-in-Some-clause-some : goal.returns-in-Some-clause-some
returns-in-Some-clause-some c = some_map _ _ c.elements_of_array.result
    (λ it h s u a by is own.
    let under = c.in-Some.ensures.some a own in
    h s u a under.known.0 by is under.known.1 (under.is under.known.0 under.known.1)) c.elements_of_array.ensures.some

pub returns-in-Some-clause-none : goal.returns-in-Some-clause-none
returns-in-Some-clause-none c e a b element n own by is = no_array (type_at c.args.types.now.types) c.in-Some.row.now (c.elements_of_array.ensures.none e) n element (sym ((c.in-Some.ensures.some a own).is b by) ∙ is)

pub returns-in-None-clause-none : goal.returns-in-None-clause-none
returns-in-None-clause-none c _ a b element n own by is = c.in-None.ensures.none refl a own (b, by)
