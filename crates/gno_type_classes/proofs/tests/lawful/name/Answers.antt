use Rattle.std.proofs.Common.{◌≡◌, sym, subst, List, ℕ}
use Rattle.std.specs.Prelude.{codes}
use Rattle.std.proofs.lemmas.Result.{IfOk-weaker}
use Rattle.gno_scan.specs.Names.{IsName}
use Rattle.gno_type_classes.proofs.NameOfTypes.{t_is_name}
use Rattle.gno_type_classes.proofs.tests.lawful.name.Goals as goal

pub returns : goal.returns
returns c = IfOk-weaker c.from_slice.result (λ (x : List ℕ). x ≡ codes "T") IsName (λ x e. subst IsName (sym e) t_is_name) c.from_slice.ensures
