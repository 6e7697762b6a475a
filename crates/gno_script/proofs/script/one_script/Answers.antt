use Rattle.std.proofs.Common.{sym, ◌∙◌}
use Rattle.std.proofs.lemmas.Option.{some_pair_parts}
use Rattle.gno_script.specs.declared.stage.Stage.TheVariants.{Between}
use Rattle.gno_script.proofs.Runs.{complete}
use Rattle.gno_script.proofs.script.one_script.Goals as goal

pub returns : goal.returns
returns c = λ lines a b p q. (some_pair_parts a b Between Between (sym (complete lines a p) ∙ complete lines b q)).0
