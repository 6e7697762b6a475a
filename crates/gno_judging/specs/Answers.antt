-- How code answers a rule. This project's own.
use Rattle.std.specs.Prelude.{◌≡◌, Option}
use Rattle.gno_judging.specs.Noting.{noted}
use Rattle.gno_judging.specs.Stands.{BothStand}
use Rattle.gno_typing.specs.Verdicts.{Verdict}
use Rattle.gno_typing.specs.declared.fault.Fault.{Fault}

-- A verdict is right. What was given stands for its form, or nothing was given and it has none; and its faults were noted.
pub record Answers {A B : Type 0} (J : Verdict B → Type 0) (R : A → B → Type 0) (old new : Option Fault) (x : Option A) : Type 0 where
  pub verdict : Verdict B
  pub judged : J verdict
  pub stands : BothStand R x verdict.form
  pub notes : new ≡ noted old verdict.faults
