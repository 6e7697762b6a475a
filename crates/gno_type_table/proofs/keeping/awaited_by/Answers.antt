use Rattle.std.proofs.Common.{sym, ap, ◌∙◌}
use Rattle.gno_type_table.specs.Kept.{awaited_by, last_in}
use Rattle.gno_type_table.proofs.Taking.{last_at}
use Rattle.gno_type_table.proofs.keeping.awaited_by.Goals as goal

pub returns-in-Blocked : goal.returns-in-Blocked
returns-in-Blocked c = c.copied.ensures ∙ c.last.ensures.value ∙ last_at c.as_slice.result.now ∙ ap last_in c.as_slice.ensures ∙ sym (ap awaited_by c.in-Blocked.is)
