use Rattle.std.proofs.Common.{ap, ◌∙◌}
use Rattle.gno_indexing.proofs.CountingRules.{untyped_whole_by}
use Rattle.gno_indexing.specs.Counting.{is_of_wholes}
use Rattle.gno_terms.specs.Terms.{term_of}
use Rattle.gno_indexing.proofs.counting.is_untyped_whole.Goals as goal

pub returns : goal.returns
returns c s is = c.is_of_wholes.ensures ∙ ap is_of_wholes (c.default_kind.ensures s is) ∙ untyped_whole_by (term_of s)
