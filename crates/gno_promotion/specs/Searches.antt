-- What a search for the methods of a type finds.
use Rattle.std.specs.Prelude.{List, map, length}
use Rattle.gno_embedding.specs.Reaching.{IsBlocked, IsClosed}
use Rattle.gno_promotion.specs.declared.found.PromotedOf.{PromotedOf}
use Rattle.gno_promotion.specs.declared.found.Search.{Search}
use Rattle.gno_promotion.specs.declared.found.Search.TheVariants as r
use Rattle.gno_promotion.specs.MethodSets.{AreSelected}
use Rattle.gno_terms.specs.declared.term.GoType.{GoType}
use Rattle.gno_terms.specs.declared.term.TypeRef.{TypeRef}
use Rattle.gno_terms.specs.Lawful.{Each}
use Rattle.gno_terms.specs.Tables.{Table, Below, type_at}
use Rattle.gno_terms.specs.Terms.{method_with}

abbrev pub promoted_with : {A B : Type 0} → (A → B) → PromotedOf A → PromotedOf B
promoted_with f p = record { method = method_with f p.method; followed = p.followed }

-- the methods that are selected, and the types that were met on the way
pub record IsFound (table : Table) (s : GoType) (reached : List TypeRef) (methods : List (PromotedOf TypeRef)) : Type 0 where
  pub closed : IsClosed table s reached
  pub selected : AreSelected table s (map (promoted_with (type_at table.types)) methods)
  pub below : Each (λ p. Below (length table.types) p.method.of) methods

abbrev pub IsSearch : Table → GoType → Search → Type 0
IsSearch table s (r.Blocked reached) = IsBlocked table s reached
IsSearch table s (r.Found reached methods) = IsFound table s reached methods
