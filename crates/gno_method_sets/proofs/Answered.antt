-- What is answered of method sets.
use Rattle.std.proofs.Common.{◌≡◌, refl, sym, ap, ◌∙◌, subst, ℕ, zero, suc, ◌+◌, ◌<◌, List, [], ◌∷◌, map, length, get_or, drop, Bool, true, false, Result, Ok, Err, rules, arith, inl, inr}
use Rattle.std.specs.Prelude.{IfOk, IsTrue, ◌↔◌}
use Rattle.gno_embedding.specs.Embedding.{base, is_pointer}
use Rattle.gno_embedding.specs.Reaching.{In}
use Rattle.gno_embedding.specs.Walking.{HasOneNumber}
use Rattle.gno_method_sets.proofs.Like.{forth, back}
use Rattle.gno_method_sets.proofs.Selected.{each_received, is_method_set, no_methods, received_with}
use Rattle.gno_method_sets.specs.Implementing.{HasMethod}
use Rattle.gno_method_sets.specs.Receiving.{HasLike, IsPointerToInterface, IsReceiver, received}
use Rattle.gno_promotion.specs.MethodSets.{Ascend, AreSelected, IsMethodSet, method_in}
use Rattle.gno_promotion.specs.Searches.{promoted_with}
use Rattle.gno_promotion.specs.declared.found.PromotedOf.{PromotedOf}
use Rattle.gno_terms.proofs.Each.{each-map}
use Rattle.gno_terms.specs.Lawful.{Each}
use Rattle.gno_terms.specs.Normal.{normal}
use Rattle.gno_terms.specs.Tables.{Table, Is, Below, type_at}
use Rattle.gno_terms.specs.Terms.{method_of, method_with, term_of}
use Rattle.gno_terms.specs.declared.term.GoType.{GoType}
use Rattle.gno_terms.specs.declared.term.MethodOf.{MethodOf}
use Rattle.gno_terms.specs.declared.term.TypeRef.{TypeRef}

pub ok_map : {A E : Type 0} (P Q : A → Type 0) (r : Result A E) → ((x : A) → P x → Q x) → IfOk r P → IfOk r Q
ok_map P Q (Ok x) h p = h x p
ok_map P Q (Err e) h p = tt

pub ascends : {A B : Type 0} (f : A → B) (ps : List (PromotedOf A)) → Ascend (map method_in (map (promoted_with f) ps)) → Ascend (map method_in ps)
ascends f [] h = tt
ascends f (p ∷ []) h = tt
ascends f (p ∷ q ∷ ps) h = (h.0, ascends f (q ∷ ps) h.1)

pub each_index : {A B : Type 0} (P : B → Type 0) (f : A → B) (xs : List A) (k : ℕ) (d : A) → k < length xs → Each P (map f xs) → P (f (get_or xs k d))
each_index P f [] k d lt h = absurd (omega (arith, lt))
each_index P f (x ∷ xs) zero d lt h = h.0
each_index P f (x ∷ xs) (suc k) d lt h = each_index P f xs k d (omega (arith, lt)) h.1

pub each_dropped : {A B : Type 0} (P : B → Type 0) (f : A → B) (xs : List A) (k : ℕ) (d : A) → k < length xs → P (f (get_or xs k d)) → Each P (map f (drop (suc k) xs)) → Each P (map f (drop k xs))
each_dropped P f [] k d lt h rest = absurd (omega (arith, lt))
each_dropped P f (x ∷ xs) zero d lt h rest = (h, rest)
each_dropped P f (x ∷ xs) (suc k) d lt h rest = each_dropped P f xs k d (omega (arith, lt)) h rest

module _ (table : Table) (s : GoType) (b : TypeRef) (pointer : Bool) (receiver : IsReceiver table s b pointer) (ps : List (PromotedOf TypeRef))
    (selected : AreSelected table (base s) (map (promoted_with (type_at table.types)) ps)) where
  pub set_is : (ms : List (MethodOf TypeRef)) → ms ≡ received pointer ps → IsMethodSet table s (map (method_with (type_at table.types)) ms)
  set_is ms e =
      subst (IsMethodSet table s)
      (sym (ap (λ (p : Bool). received p (map (promoted_with (type_at table.types)) ps)) receiver.pointer_is) ∙ received_with (type_at table.types) pointer ps ∙ ap (map (method_with (type_at table.types))) (sym e))
      (is_method_set table s (map (promoted_with (type_at table.types)) ps) selected receiver.no_interface)

  pub has_it : (w : MethodOf TypeRef) (result : Bool) → HasOneNumber table → ((r : TypeRef) (u : GoType) → Is table r u → normal u ≡ u) → Each (λ p. Below (length table.types) p.method.of) ps → Below (length table.types) w.of
      → (IsTrue result ↔ HasLike pointer ps w) → IsTrue result ↔ HasMethod table s (method_with (type_at table.types) w)
  has_it w result one normals below own h = (
    λ t. forth table s ps selected w receiver.no_interface (subst (λ (p : Bool). HasLike p ps w) receiver.pointer_is (h.0 t)),
    λ m. h.1 (subst (λ (p : Bool). HasLike p ps w) (sym receiver.pointer_is) (back table s ps selected w one normals below own m)),
  )

pub parts_below : (n : ℕ) (pointer : Bool) (ps : List (PromotedOf TypeRef)) (ms : List (MethodOf TypeRef)) → ms ≡ received pointer ps → Each (λ p. Below n p.method.of) ps → Each (Below n) (map method_of ms)
parts_below n pointer ps ms e below = each-map (λ (m : MethodOf TypeRef). Below n m.of) (Below n) method_of (λ m h. h) ms
    (subst (Each (λ (m : MethodOf TypeRef). Below n m.of)) (sym e) (each_received pointer (λ m. Below n m.of) ps (λ p i r. at p ps i below)))
  where
    at : (p : PromotedOf TypeRef) (qs : List (PromotedOf TypeRef)) → In p qs → Each (λ q. Below n q.method.of) qs → Below n p.method.of
    at p [] i h = elim i [ ]
    at p (q ∷ qs) (inl j) h = subst (λ (x : PromotedOf TypeRef). Below n x.method.of) (sym j) h.0
    at p (q ∷ qs) (inr j) h = at p qs j h.1

-- a pointer to an interface has none
pub none_of : (table : Table) (s : GoType) (w : MethodOf GoType) → IsPointerToInterface table s → IsTrue false ↔ HasMethod table s w
none_of table s w i = (
  λ e. absurd (search (rules, e)),
  λ h. search (rules, sym i.interface ∙ h.in_set.no_interface i.pointer i.underlying i.by),
)

pub empty_set : (table : Table) (s : GoType) (ms : List (MethodOf TypeRef)) → ms ≡ [] → IsPointerToInterface table s → IsMethodSet table s (map (method_with (type_at table.types)) ms)
empty_set table s ms e i = subst (λ (l : List (MethodOf TypeRef)). IsMethodSet table s (map (method_with (type_at table.types)) l)) (sym e) (no_methods table s i.underlying i.pointer i.by i.interface)
