-- The rules of assignability, one by one.
use Rattle.std.proofs.Common.{◌≡◌, refl, sym, ap, ◌∙◌, subst, List, [], ◌∷◌, map, Bool, true, false, Some, Option, rules, inl, inr}
use Rattle.std.specs.Prelude.{IsTrue, ◌↔◌, ◌⊎◌}
use Rattle.gno_assignability.proofs.Basics.{no_method}
use Rattle.gno_assignability.proofs.FormsOfRows.{with_default}
use Rattle.gno_assignability.specs.Assignability as a
use Rattle.gno_assignability.specs.Assignability.{Becomes, HaveOneUnderlying, IsAssignable, TakesUntyped, default_kind, has_nil}
use Rattle.gno_base.specs.declared.kind.Kind.{Kind}
use Rattle.gno_constants.specs.declared.constant.Constant.{Constant}
use Rattle.gno_embedding.proofs.Paths.{same_underlying}
use Rattle.gno_embedding.specs.Walking.{HasOneDefinition}
use Rattle.gno_method_sets.specs.Implementing.{HasMethod, Implements}
use Rattle.gno_terms.specs.Lawful.{Each, is_untyped}
use Rattle.gno_terms.specs.Normal.{Identical}
use Rattle.gno_terms.specs.Tables.{Table, Underlying}
use Rattle.gno_terms.specs.Terms.{method_with, term_of, type_of}
use Rattle.gno_terms.specs.declared.term.GoType.{GoType}
use Rattle.gno_terms.specs.declared.term.MethodOf.{MethodOf}
use Rattle.gno_terms.specs.declared.term.TermOf.{TermOf}
use Rattle.gno_terms.specs.declared.term.TermOf.TheVariants as t
use Rattle.gno_type_rows.proofs.Pushed.{term_of_type}

same_some : {A : Type 0} (x y : A) → Some x ≡ Some y → x ≡ y
same_some x y e = Rattle.std.proofs.lemmas.Option.same_Some x y e

module _ (table : Table) (s : GoType) (constant : Option Constant) (u : GoType) (different : Identical s u → ⊥) (result : Bool) where
  pub for_nil : term_of s ≡ t.UntypedNil → (IsTrue result ↔ ((v : GoType) × Underlying table u v × (has_nil (term_of v) ≡ true))) → IsTrue result ↔ IsAssignable table s constant u
  for_nil e h = (λ y. let v = h.0 y in a.nil v.0 e v.1 v.2, back)
    where
      back : IsAssignable table s constant u → IsTrue result
      back (a.identical i) = absurd (different i)
      back (a.nil v d by n) = h.1 (v, by, n)
      back (a.untyped kind d takes) = absurd (search (rules, sym (ap default_kind e) ∙ d))
      back (a.interface d i) = absurd (search (rules, sym (ap is_untyped e) ∙ d))
      back (a.underlying d i) = absurd (search (rules, sym (ap is_untyped e) ∙ d))

  pub for_untyped : (kind : Kind) → default_kind (term_of s) ≡ Some kind → (IsTrue result ↔ TakesUntyped table kind constant u) → IsTrue result ↔ IsAssignable table s constant u
  for_untyped kind e h = (λ y. a.untyped kind e (h.0 y), back)
    where
      back : IsAssignable table s constant u → IsTrue result
      back (a.identical i) = absurd (different i)
      back (a.nil v d by n) = absurd (search (rules, sym e ∙ ap default_kind d))
      back (a.untyped k d takes) = h.1 (subst (λ (j : Kind). TakesUntyped table j constant u) (same_some k kind (sym d ∙ e)) takes)
      back (a.interface d i) = absurd (search (rules, sym (with_default (term_of s) kind e) ∙ d))
      back (a.underlying d i) = absurd (search (rules, sym (with_default (term_of s) kind e) ∙ d))

  pub for_values : is_untyped (term_of s) ≡ false → (IsTrue result ↔ (Implements table s u ⊎ HaveOneUnderlying table s u)) → IsTrue result ↔ IsAssignable table s constant u
  for_values e h = (λ y. forth (h.0 y), back)
    where
      forth : Implements table s u ⊎ HaveOneUnderlying table s u → IsAssignable table s constant u
      forth (inl i) = a.interface e i
      forth (inr i) = a.underlying e i

      back : IsAssignable table s constant u → IsTrue result
      back (a.identical i) = absurd (different i)
      back (a.nil v d by n) = absurd (search (rules, sym e ∙ ap is_untyped d))
      back (a.untyped k d takes) = absurd (search (rules, sym e ∙ with_default (term_of s) k d))
      back (a.interface d i) = h.1 (inl i)
      back (a.underlying d i) = h.1 (inr i)

methods_in : TermOf GoType → List (MethodOf GoType)
methods_in (t.Interface ms) = ms
methods_in x = []

kind_in : Kind → TermOf GoType → Kind
kind_in k (t.Basic kind) = kind
kind_in k x = k

nothing : {A B : Type 0} (f : A → B) (xs : List A) → map f xs ≡ [] → xs ≡ []
nothing f [] e = refl
nothing f (x ∷ xs) e = absurd (search (rules, e))

module _ (table : Table) (one : HasOneDefinition table) (kind : Kind) (constant : Option Constant) (s u : GoType) (by : Underlying table s u) (result : Bool) where
  abbrev basic : GoType
  basic = type_of (t.Basic kind)

  none_of_basic : (ms : List (MethodOf GoType)) → Each (HasMethod table basic) ms → ms ≡ []
  none_of_basic [] h = refl
  none_of_basic (m ∷ ms) h = absurd (no_method table basic kind (term_of_type (t.Basic kind)) m h.0)

  same : (v : GoType) → Underlying table s v → term_of v ≡ term_of u
  same v h = ap term_of (same_underlying table one s v u h by)

  pub in_basic : (own : Kind) → term_of u ≡ t.Basic own → (IsTrue result ↔ Becomes constant kind own) → IsTrue result ↔ TakesUntyped table kind constant s
  unfolding kind_in
  in_basic own e h = (λ y. a.as_basic own u by e (h.0 y), back)
    where
      back : TakesUntyped table kind constant s → IsTrue result
      back (a.as_basic k v hv d b) = h.1 (subst (λ (j : Kind). Becomes constant kind j) (ap (kind_in k) (sym d ∙ same v hv ∙ e)) b)
      back (a.in_interface i b) = absurd (search (rules, sym i.is_interface ∙ same i.underlying i.by ∙ e))

  pub in_interface : {A : Type 0} (f : A → GoType) (ms : List (MethodOf A)) → term_of u ≡ t.Interface (map (method_with f) ms) → (IsTrue result ↔ ((ms ≡ []) × Becomes constant kind kind)) → IsTrue result ↔ TakesUntyped table kind constant s
  unfolding methods_in
  in_interface {A} f ms e h = (forth, back)
    where
      forth : IsTrue result → TakesUntyped table kind constant s
      forth y = a.in_interface (record { underlying = u; by = by; methods = []; is_interface = e ∙ ap (λ l. t.Interface (map (method_with f) l)) (h.0 y).0; has = tt }) (h.0 y).1

      back : TakesUntyped table kind constant s → IsTrue result
      back (a.as_basic k v hv d b) = absurd (search (rules, sym d ∙ same v hv ∙ e))
      back (a.in_interface i b) = h.1 (nothing (method_with f) ms (ap methods_in (sym e ∙ sym (same i.underlying i.by) ∙ i.is_interface) ∙ none_of_basic i.methods i.has), b)

  pub in_neither : ((k : Kind) → term_of u ≡ t.Basic k → ⊥) → ((ms : List (MethodOf GoType)) → term_of u ≡ t.Interface ms → ⊥) → IsTrue false ↔ TakesUntyped table kind constant s
  in_neither f g = (λ e. absurd (search (rules, e)), back)
    where
      back : TakesUntyped table kind constant s → IsTrue false
      back (a.as_basic k v hv d b) = absurd (f k (sym (same v hv) ∙ d))
      back (a.in_interface i b) = absurd (g i.methods (sym (same i.underlying i.by) ∙ i.is_interface))
