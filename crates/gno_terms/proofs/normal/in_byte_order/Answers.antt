use Rattle.std.proofs.Common.{◌∙◌, ap, is_lt}
use Rattle.std.proofs.lemmas.List.Sorted.{ranks_by, answers_always}
use Rattle.gno_terms.proofs.NormalTerms.{by_name_total, sorted_by_name}
use Rattle.gno_terms.specs.declared.term.TypeRef.{TypeRef}
use Rattle.gno_terms.specs.Normal.{in_byte_order}
use Rattle.gno_terms.proofs.normal.in_byte_order.Goals as goal

pub returns : goal.returns
returns c =
    let sort = c.in_ok-sort_by.ensures in
    let ranks = ranks_by (by_name_total {A = TypeRef}) (λ m. m) in
    c.from_vec.ensures
    ∙ sorted_by_name c.into_vec-methods.result.items c.sort_by.new.self.items
    (sort.sorted _ ranks (answers_always _ _ _ (λ f a r f' k. ap is_lt k.met)))
    (sort.stable _ ranks (answers_always _ _ _ (λ f a r f' k. ap is_lt k.met)))
    ∙ ap in_byte_order c.into_vec-methods.ensures
