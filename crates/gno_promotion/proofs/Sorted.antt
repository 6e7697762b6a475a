-- The candidates in byte order.
use Rattle.std.proofs.Common.{◌≡◌, refl, sym, ap, ◌∙◌, List, [], ◌∷◌, is_gt, IsSorted, Ordering, if◌then◌else◌}
use Rattle.std.specs.Cmp.{IsTotalOrder, on_total}
use Rattle.std.specs.List.Sorted.{IsStable}
use Rattle.gno_promotion.specs.Candidates.{by_member, by_names, placed}
use Rattle.gno_promotion.specs.declared.candidate.CandidateOf.{CandidateOf}
use Rattle.gno_terms.proofs.NormalTerms.{by_name_total}
use Rattle.gno_terms.proofs.Ordered.{inserted, in_order, in_order_is}

module _ {A : Type 0} where
  abbrev pub by_members : CandidateOf A → CandidateOf A → Ordering
  by_members = by_member

  pub by_member_total : IsTotalOrder by_members
  by_member_total = on_total (λ (c : CandidateOf A). c.member) by_name_total

  placed_is : (c : CandidateOf A) (ds : List (CandidateOf A)) → placed c ds ≡ inserted by_members c ds
  placed_is c [] = refl
  placed_is c (d ∷ ds) = ap (λ us. if is_gt (by_member c d) then d ∷ us else c ∷ d ∷ ds) (placed_is c ds)

  pub by_names_is : (cs : List (CandidateOf A)) → by_names cs ≡ in_order by_members cs
  by_names_is [] = refl
  by_names_is (c ∷ cs) = placed_is c (by_names cs) ∙ ap (inserted by_members c) (by_names_is cs)

  pub sorted_by_member : (cs ds : List (CandidateOf A)) → IsSorted by_members ds → IsStable by_members cs ds → ds ≡ by_names cs
  sorted_by_member cs ds s t = in_order_is by_members by_member_total cs ds s t ∙ sym (by_names_is cs)
