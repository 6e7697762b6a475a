use Rattle.std.proofs.Common.{◌≡◌, refl, sym, ap, ◌∙◌, false, true, rules}
use Rattle.gno_promotion.specs.MethodSets.{is_interface}
use Rattle.gno_terms.specs.Terms.{term_of}
use Rattle.gno_embedding.proofs.Paths.{same_underlying}
use Rattle.gno_method_sets.proofs.receiver.pointed.Goals as goal

pub returns-then-is_interface : goal.returns-then-is_interface
returns-then-is_interface c = record {
  some = tt;
  none = λ e s is. let u = c.is_interface.ensures s is in (u.0, u.1, sym u.2 ∙ c.if-is_interface.true);
}

pub returns-else-is_interface : goal.returns-else-is_interface
returns-else-is_interface c = record {
  some = (
    refl,
    λ s u is by.
        let v = c.is_interface.ensures s is in
        ap (λ x. is_interface (term_of x)) (same_underlying c.args.types.now c.have_one_definition.ensures s u v.0 by v.1) ∙ sym v.2 ∙ c.if-is_interface.false,
  );
  none = λ e. absurd (search (rules, e));
}
