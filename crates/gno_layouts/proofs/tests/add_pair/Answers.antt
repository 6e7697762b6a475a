use Rattle.std.proofs.Common.{sym, subst, ℕ, ◌<◌, List}
use Rattle.std.specs.List.{AllByRecursion}
use Rattle.gno_layouts.proofs.tests.add_pair.Goals as goal

pub add-requires-clause-rows : goal.add-requires-clause-rows
add-requires-clause-rows c = subst (λ (l : List ℕ). AllByRecursion (λ n. n < c.args.number) l) (sym c.in_ok-fields.ensures) (c.requires.a, (c.requires.b, tt))
