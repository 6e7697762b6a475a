use Rattle.std.proofs.Common.{◌≡◌, ◌<◌, ◌∙◌, ap, sym, subst, refl, length, List}
use Rattle.std.specs.Prelude.{Some, slice_get}
use Rattle.std.specs.Option.{unwrap_or}
use Rattle.std.proofs.lemmas.Option.{slice_get_read}
use Rattle.gno_base.specs.Number.{Number}
use Rattle.gno_machine.specs.Ints.{IsInt}
use Rattle.gno_machine.specs.Meaning.{int_of, value_at}
use Rattle.gno_machine.proofs.Steps.{IsInt-value_at}
use Rattle.gno_machine.proofs.run.value_of.Goals as goal

pub returns-clause-int : goal.returns-clause-int
returns-clause-int c =
    let within : c.args.n < length c.as_slice.result.now = rw c.as_slice.ensures c.requires.within in
    let found : slice_get c.args.values.now c.args.n ≡ Some c.index-as_slice-n.result =
    ap (λ (vs : List Number). slice_get vs c.args.n) (sym c.as_slice.ensures) ∙ slice_get_read c.as_slice.result.now (length c.as_slice.result.now) c.args.n _ refl within c.index-as_slice-n.is in
    subst (λ (x : Number). IsInt x) (ap (λ o. unwrap_or o (int_of 0)) found) (IsInt-value_at c.args.values.now c.args.n c.requires.ints)
