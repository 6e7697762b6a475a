use Rattle.std.proofs.Common.{◌≡◌, ap, refl, rules, subst, sym, ◌∙◌, Bool, false, not}
use Rattle.gno_embedding.proofs.Paths.{same_underlying}
use Rattle.gno_made_types.proofs.InterfaceRules.{row_is, true_not}
use Rattle.gno_terms.specs.Tables.{type_at}
use Rattle.gno_tree_typing.specs.WrittenTypes.{is_pointer_or_interface_of}
use Rattle.gno_terms.specs.Terms.{term_of}
use Rattle.gno_made_types.proofs.structs.may_be_embedded.Goals as goal

pub returns-in-Some : goal.returns-in-Some
returns-in-Some c s is =
    let table = c.args.types.now in
    let under = c.in-Some.ensures.some s is in
    let told = c.is_pointer_or_interface.ensures (type_at table.types) in
    let row = row_is table c.have_one_definition.ensures s under.0 under.1 c.in-Some.under c.term.result.now under.2 c.term.ensures.is in (
      λ b. record { underlying = under.0; by = under.1; may = ap (is_pointer_or_interface_of c.args.star) (row under.0 under.1) ∙ sym told ∙ search (rules, b) },
      λ h. true_not (c.is_pointer_or_interface.result) (told ∙ ap (is_pointer_or_interface_of c.args.star) (sym (row h.underlying h.by)) ∙ h.may),
    )
