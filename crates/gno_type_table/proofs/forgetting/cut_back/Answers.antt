use Rattle.std.proofs.Common.{◌≡◌, refl, sym, subst, ℕ, List, Some, length}
use Rattle.std.specs.Prelude.{slice_get}
use Rattle.gno_embedding.specs.Reaching.{IsBlocked}
use Rattle.gno_promotion.specs.declared.found.Search.TheVariants as r
use Rattle.gno_terms.specs.declared.term.TypeRef.{TypeRef}
use Rattle.gno_terms.specs.Tables.{Below}
use Rattle.gno_type_table.specs.Kept.{IsAt}
use Rattle.gno_type_table.proofs.Cutting.{cut_first, cut_none, was_below}
use Rattle.gno_type_table.proofs.Loss.{unknown_blocked}
use Rattle.gno_type_table.proofs.forgetting.cut_back.Goals as goal

pub first_undefined-requires : goal.first_undefined-requires
first_undefined-requires c =
    subst (λ (l : List TypeRef). (i : ℕ) (t : TypeRef) → slice_get l i ≡ Some t → Below (length c.args.rows.now.types) t) (sym c.reached_in.ensures) (was_below c.args.rows.now c.args.own c.args.search c.requires.was c.requires.own)

pub returns-then-is_undefined : goal.returns-then-is_undefined
returns-then-is_undefined c s is = subst (IsBlocked c.args.rows.now s) (sym c.new.ensures) (unknown_blocked c.args.rows.now s (c.is_undefined.ensures.unknown c.if-is_undefined.true s is))

pub returns-in-Some : goal.returns-in-Some
returns-in-Some c =
    subst (λ (l : List TypeRef). IsAt c.args.rows.now c.args.own.0 (r.Blocked l)) (sym c.first_reached.ensures)
    (cut_first c.args.rows.now c.args.own c.args.search c.requires.was (c.is_undefined.ensures.known c.if-is_undefined.false) c.reached_in.result.now c.reached_in.ensures c.in-Some.place c.in-Some.ensures.some)

pub returns-in-None : goal.returns-in-None
returns-in-None c =
    cut_none c.args.rows.now c.args.own c.args.search c.requires.was (c.is_undefined.ensures.known c.if-is_undefined.false) c.reached_in.result.now c.reached_in.ensures (c.in-None.ensures.none refl)
