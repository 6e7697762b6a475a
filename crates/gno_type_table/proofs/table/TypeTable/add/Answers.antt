use Rattle.std.proofs.Common.{◌≡◌, sym, ap, ◌∙◌, subst, length, List, [], ◌∷◌, ◌++◌, Some, Bool, true, false, arith}
use Rattle.std.specs.Prelude.{slice_get}
use Rattle.gno_layouts.proofs.Written.{written}
use Rattle.gno_promotion.specs.declared.found.Search.{Search}
use Rattle.gno_terms.specs.Tables.{deep, error_interface}
use Rattle.gno_type_table.proofs.Blocked.{awaited_below}
use Rattle.gno_type_table.proofs.Steps.{added}
use Rattle.gno_type_table.proofs.table.TypeTable.add.Goals as goal

pub flag-requires : goal.flag-requires
flag-requires c t e =
    let w = awaited_below c.self.inside.rows (deep c.self.inside.rows.types c.args.term) c.in_ok-search.search c.in_ok-search.ensures t e in
    let a = ap length c.deref_mut.ensures.value in
    let b = ap length c.in_ok-reserve-2.ensures.items in
    let d = c.self.invariant.kept.flags in
    omega (arith, w, a, b, d)

pub invariant_of-self-2 : goal.invariant_of-self-2
invariant_of-self-2 c =
    let was : c.deref_mut.result.now ≡ c.self.inside.awaited.items = c.deref_mut.ensures.value ∙ c.in_ok-reserve-2.ensures.items in
    let size : length c.flag.new.awaited ≡ length c.deref_mut.result.now = c.flag.auto.awaited in
    let len : c.reserve-2.new.self.len ≡ length c.flag.new.awaited = (let a = c.reserve-2.new.self.ok.0 in let b = ap length c.deref_mut.ensures.value in omega (arith, a, b, size)) in
    record {
      error_is = c.in_ok-number.ensures.grows c.self.inside.error error_interface c.self.invariant.error_is;
      kept = added c.self.inside.rows c.push.new.self (deep c.self.inside.rows.types c.args.term) c.in_ok-number.ensures.types c.in_ok-number.ensures.definitions c.have_one_definition.ensures
          c.in_ok-search.search c.in_ok-search.ensures c.self.inside.searches.items c.push-2.new.self.items c.self.inside.awaited.items c.flag.new.awaited c.push-3.new.self.items c.self.invariant.kept
          (λ k h. c.flag.ensures.rise k (subst (λ (l : List Bool). slice_get l k ≡ Some true) (sym was) h)) c.flag.ensures.flagged (size ∙ ap length was)
          (c.in_ok-push.ensures.items ∙ ap (λ (l : List Search). l ++ c.in_ok-search.search ∷ []) c.in_ok-reserve.ensures.items)
          (c.in_ok-push-2.ensures.items ∙ ap (λ (l : List Bool). l ++ false ∷ []) (written c.reserve-2.new.self.len c.flag.new.awaited _ len));
    }
