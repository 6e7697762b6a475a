use Rattle.std.proofs.Common.{◌≡◌, ◌∙◌, ◌<◌, ap, sym, rules, arith, refl, length, List}
use Rattle.std.specs.Prelude.{Some, slice_get}
use Rattle.std.proofs.lemmas.Option.{slice_get_read}
use Rattle.gno_first.specs.declared.tree.FirstFunc.{FirstFunc}
use Rattle.gno_machine.proofs.Steps.{body-at}
use Rattle.gno_machine.proofs.run.function_at.Goals as goal

pub returns : goal.returns
returns c =
    let within : c.args.function < length c.as_slice.result.now = rw c.as_slice.ensures c.requires.function in
    let found : slice_get c.args.file.now.functions c.args.function ≡ Some c.index-as_slice-function.result =
    ap (λ (fs : List FirstFunc). slice_get fs c.args.function) (sym c.as_slice.ensures) ∙ slice_get_read c.as_slice.result.now (length c.as_slice.result.now) c.args.function _ refl within c.index-as_slice-function.is in
    record {
      found = found;
      lawful = body-at _ c.args.file.now.functions c.args.function _ c.requires.lawful found;
    }
