-- Which of a type's methods a value of the type, or a pointer to it, has.
use Rattle.std.specs.Prelude.{◌≡◌, ◌||◌, List, [], ◌∷◌, Bool, true, false, if◌then◌else◌, not}
use Rattle.std.specs.declared.cmp.Ordering.TheVariants.{Equal}
use Rattle.gno_embedding.specs.Embedding.{base, is_pointer}
use Rattle.gno_embedding.specs.Reaching.{In}
use Rattle.gno_promotion.specs.MethodSets.{is_interface}
use Rattle.gno_promotion.specs.declared.found.PromotedOf.{PromotedOf}
use Rattle.gno_terms.specs.declared.term.GoType.{GoType}
use Rattle.gno_terms.specs.declared.term.MethodOf.{MethodOf}
use Rattle.gno_terms.specs.declared.term.TypeRef.{TypeRef}
use Rattle.gno_terms.specs.Normal.{by_name}
use Rattle.gno_terms.specs.Tables.{Table, Is, Underlying}
use Rattle.gno_terms.specs.Terms.{term_of}

-- a method of a pointer receiver wants a pointer
abbrev pub receives : {A : Type 0} → Bool → PromotedOf A → Bool
receives pointer p = not p.method.pointer || (pointer || p.followed)

abbrev pub received : {A : Type 0} → Bool → List (PromotedOf A) → List (MethodOf A)
received pointer [] = []
received pointer (p ∷ ps) = if receives pointer p then p.method ∷ received pointer ps else received pointer ps

-- a method of this name and type is among them
pub record HasLike (pointer : Bool) (ps : List (PromotedOf TypeRef)) (wanted : MethodOf TypeRef) : Type 0 where
  pub promoted : PromotedOf TypeRef
  pub in_them : In promoted ps
  pub named : by_name promoted.method wanted ≡ Equal
  pub of : promoted.method.of ≡ wanted.of
  pub received : receives pointer promoted ≡ true

-- what a type's methods are declared on: the type, or what it points at, which is no interface
pub record IsReceiver (table : Table) (s : GoType) (r : TypeRef) (pointer : Bool) : Type 0 where
  pub base_is : Is table r (base s)
  pub pointer_is : pointer ≡ is_pointer (term_of s)
  pub no_interface : is_pointer (term_of s) ≡ true → (u : GoType) → Underlying table (base s) u → is_interface (term_of u) ≡ false

pub record IsPointerToInterface (table : Table) (s : GoType) : Type 0 where
  pub pointer : is_pointer (term_of s) ≡ true
  pub underlying : GoType
  pub by : Underlying table (base s) underlying
  pub interface : is_interface (term_of underlying) ≡ true
