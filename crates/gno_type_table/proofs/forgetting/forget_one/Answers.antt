use Rattle.std.proofs.Common.{sym, subst, ℕ, ◌<◌}
use Rattle.gno_type_table.specs.Kept.{Was}
use Rattle.gno_type_table.proofs.Cutting.{at_below}
use Rattle.gno_type_table.proofs.forgetting.forget_one.Goals as goal

pub cut_back-new-requires-clause-was : goal.cut_back-new-requires-clause-was
cut_back-new-requires-clause-was c = subst (Was c.args.rows.now c.args.own.0) (sym c.replace-old.ensures.value) c.requires.was

pub flag-requires : goal.flag-requires
flag-requires c t e = subst (λ (n : ℕ). t.0 < n) (sym c.requires.flags) (at_below c.args.rows.now c.args.own c.cut_back-new.result c.requires.own c.cut_back-new.ensures t e)
