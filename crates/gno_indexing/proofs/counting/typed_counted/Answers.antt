use Rattle.std.proofs.Common.{refl, sym, ◌∙◌, rules}
use Rattle.gno_judging.proofs.Answers.{fails, gives, holds}
use Rattle.gno_indexing.specs.Counting.{CountedStands}
use Rattle.gno_indexing.proofs.counting.typed_counted.Goals as goal

pub returns-in_ok-form : goal.returns-in_ok-form
returns-in_ok-form c s y at stands calls out_of_bounds end is h = holds (CountedStands c.args.types.now) _ c.args.no_integer c.args.place _ _ _ _ ((c.is_integer.ensures s is).0 c.if-is_integer.true)
    (gives (CountedStands c.args.types.now) _ _ _ (record { form = c.in_ok-form.ensures.stands c.args.types.now y h; value = refl }))

pub returns-else-is_integer : goal.returns-else-is_integer
returns-else-is_integer c s y at stands calls out_of_bounds end is h = fails (CountedStands c.args.types.now) _ c.args.no_integer c.args.place _ _ _ (λ p. search (rules, sym c.if-is_integer.false ∙ (c.is_integer.ensures s is).1 p)) c.note.ensures
