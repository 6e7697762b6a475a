use Rattle.std.proofs.Common.{◌≡◌, ◌∙◌, ap, false, is_lt}
use Rattle.std.proofs.lemmas.List.Sorted.{ranks_by, answers_always}
use Rattle.std.proofs.lemmas.Result.{IfOk-weaker}
use Rattle.gno_promotion.specs.Candidates.{by_names, picked}
use Rattle.gno_promotion.proofs.Sorted.{by_member_total, sorted_by_member}
use Rattle.gno_terms.specs.declared.term.TypeRef.{TypeRef}
use Rattle.gno_promotion.proofs.methods.selected.Goals as goal

pub returns : goal.returns
returns c =
    let sort = c.in_ok-sort_by.ensures in
    let ranks = ranks_by (by_member_total {A = TypeRef}) (λ m. m) in
    IfOk-weaker c.pick.result (λ it. it ≡ picked false c.as_slice.result.now) (λ it. it ≡ picked false (by_names c.args.candidates.items))
    (λ it e. e ∙ ap (picked false) (c.as_slice.ensures.value ∙ sorted_by_member c.args.candidates.items c.sort_by.new.self.items
    (sort.sorted _ ranks (answers_always _ _ _ (λ f a r f' k. ap is_lt k.met)))
    (sort.stable _ ranks (answers_always _ _ _ (λ f a r f' k. ap is_lt k.met)))))
    c.pick.ensures
