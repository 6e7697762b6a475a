-- The method set of a type, from the methods that are selected of it or of what it points at.
use Rattle.std.proofs.Common.{◌≡◌, refl, sym, ap, ◌∙◌, subst, List, [], ◌∷◌, map, Bool, true, false, ◌||◌, if◌then◌else◌, not, rules, inl, inr}
use Rattle.std.specs.Ordering.{is_lt}
use Rattle.gno_embedding.specs.Embedding.{base, is_pointer}
use Rattle.gno_embedding.specs.Reaching.{In}
use Rattle.gno_method_sets.proofs.Names.{before_all, rest_ascends}
use Rattle.gno_method_sets.specs.Receiving.{received, receives}
use Rattle.gno_promotion.specs.MethodSets.{Ascend, AreSelected, InMethodSet, IsMethodSet, IsPromoted, is_interface, method_in}
use Rattle.gno_promotion.specs.Searches.{promoted_with}
use Rattle.gno_promotion.specs.declared.found.PromotedOf.{PromotedOf}
use Rattle.gno_terms.specs.Lawful.{Each}
use Rattle.gno_terms.specs.Normal.{by_name}
use Rattle.gno_terms.specs.Tables.{Table, Underlying}
use Rattle.gno_terms.specs.Terms.{method_with, term_of}
use Rattle.gno_terms.specs.declared.term.GoType.{GoType}
use Rattle.gno_terms.specs.declared.term.MethodOf.{MethodOf}

-- what is received looks at no type
module _ {A B : Type 0} (f : A → B) where
  chosen : (b : Bool) (m : MethodOf A) (ms : List (MethodOf A)) → (if b then method_with f m ∷ map (method_with f) ms else map (method_with f) ms) ≡ map (method_with f) (if b then m ∷ ms else ms)
  chosen true m ms = refl
  chosen false m ms = refl

  pub received_with : (pointer : Bool) (ps : List (PromotedOf A)) → received pointer (map (promoted_with f) ps) ≡ map (method_with f) (received pointer ps)
  received_with pointer [] = refl
  received_with pointer (p ∷ ps) =
      ap (λ ms. if receives pointer p then method_with f p.method ∷ ms else ms) (received_with pointer ps)
      ∙ chosen (receives pointer p) p.method (received pointer ps)

module _ {A : Type 0} (pointer : Bool) where
  choose : (P : List (MethodOf A) → Type 0) (b : Bool) (m : MethodOf A) (ms : List (MethodOf A)) → (b ≡ true → P (m ∷ ms)) → P ms → P (if b then m ∷ ms else ms)
  choose P true m ms kept left = kept refl
  choose P false m ms kept left = left

  pub each_received : (Q : MethodOf A → Type 0) (ps : List (PromotedOf A)) → ((p : PromotedOf A) → In p ps → receives pointer p ≡ true → Q p.method) → Each Q (received pointer ps)
  each_received Q [] h = tt
  each_received Q (p ∷ ps) h =
      let rest = each_received Q ps (λ q i. h q (inr i)) in
      choose (Each Q) (receives pointer p) p.method (received pointer ps) (λ e. (h p (inl refl) e, rest)) rest

  pub in_received : (p : PromotedOf A) (ps : List (PromotedOf A)) → In p ps → receives pointer p ≡ true → In p.method (received pointer ps)
  in_received p [] i e = elim i [ ]
  in_received p (q ∷ ps) (inl i) e = choose_in (receives pointer q) (subst (λ (x : PromotedOf A). receives pointer x ≡ true) i e) (ap method_in i)
    where
      choose_in : (b : Bool) → b ≡ true → p.method ≡ q.method → In p.method (if b then q.method ∷ received pointer ps else received pointer ps)
      choose_in true t same = inl same
      choose_in false t same = absurd (search (rules, t))
  in_received p (q ∷ ps) (inr i) e =
      let rest = in_received p ps i e in
      choose (λ ms. In p.method ms) (receives pointer q) q.method (received pointer ps) (λ t. inr rest) rest

  below_first : (m : MethodOf A) (ms : List (MethodOf A)) → Each (λ n. is_lt (by_name m n) ≡ true) ms → Ascend ms → Ascend (m ∷ ms)
  below_first m [] h up = tt
  below_first m (n ∷ ms) h up = (h.0, up)

  pub received_ascends : (ps : List (PromotedOf A)) → Ascend (map method_in ps) → Ascend (received pointer ps)
  received_ascends [] up = tt
  received_ascends (p ∷ ps) up =
      let rest = received_ascends ps (rest_ascends p ps up) in
      choose Ascend (receives pointer p) p.method (received pointer ps)
      (λ e. below_first p.method (received pointer ps) (each_received (λ n. is_lt (by_name p.method n) ≡ true) ps (λ q i r. ap is_lt (before_all p ps up q i))) rest) rest

-- what `receives` says
received_at : (m p f : Bool) → (not m || (p || f)) ≡ true → m ≡ true → p || f ≡ true
received_at true p f e t = e
received_at false p f e t = absurd (search (rules, t))

at_received : (m p f : Bool) → (m ≡ true → p || f ≡ true) → (not m || (p || f)) ≡ true
at_received true p f h = h refl
at_received false p f h = refl

each_in : {A : Type 0} (Q : A → Type 0) (xs : List A) (x : A) → Each Q xs → In x xs → Q x
each_in Q [] x e i = elim i [ ]
each_in Q (y ∷ ys) x e (inl i) = subst Q (sym i) e.0
each_in Q (y ∷ ys) x e (inr i) = each_in Q ys x e.1 i

module _ (table : Table) (s : GoType) (ps : List (PromotedOf GoType)) (selected : AreSelected table (base s) ps) where
  pub has_in_set : (is_pointer (term_of s) ≡ true → (u : GoType) → Underlying table (base s) u → is_interface (term_of u) ≡ false) → (p : PromotedOf GoType) → In p ps → receives (is_pointer (term_of s)) p ≡ true → InMethodSet table s p.method
  has_in_set free p i r = record {
    followed = p.followed;
    promoted = each_in (λ p. IsPromoted table (base s) p.method p.followed) ps p selected.sound i;
    receives = λ t. received_at p.method.pointer (is_pointer (term_of s)) p.followed r t;
    no_interface = free;
  }

  pub of_set : (m : MethodOf GoType) → InMethodSet table s m → (p : PromotedOf GoType) × In p ps × (receives (is_pointer (term_of s)) p ≡ true) × (p.method ≡ m)
  of_set m it = (record { method = m; followed = it.followed }, selected.all m it.followed it.promoted, at_received m.pointer (is_pointer (term_of s)) it.followed it.receives, refl)

  pub is_method_set : (is_pointer (term_of s) ≡ true → (u : GoType) → Underlying table (base s) u → is_interface (term_of u) ≡ false) → IsMethodSet table s (received (is_pointer (term_of s)) ps)
  is_method_set free = record {
    sound = each_received (is_pointer (term_of s)) (InMethodSet table s) ps (has_in_set free);
    all = λ m it. let p = of_set m it in subst (λ (n : MethodOf GoType). In n (received (is_pointer (term_of s)) ps)) p.3 (in_received (is_pointer (term_of s)) p.0 ps p.1 p.2);
    order = received_ascends (is_pointer (term_of s)) ps selected.order;
  }

-- a pointer to an interface has no methods
pub no_methods : (table : Table) (s u : GoType) → is_pointer (term_of s) ≡ true → Underlying table (base s) u → is_interface (term_of u) ≡ true → IsMethodSet table s []
no_methods table s u pointer by interface = record {
  sound = tt;
  all = λ m it. absurd (search (rules, sym interface ∙ it.no_interface pointer u by));
  order = tt;
}
