-- A method of the same name and type among those that are selected, and in the method set.
use Rattle.std.proofs.Common.{◌≡◌, refl, sym, ap, ◌∙◌, subst, ℕ, List, [], ◌∷◌, map, length, Bool, true, false, nat_eq, inl, inr}
use Rattle.std.specs.Cmp.{tied_itself}
use Rattle.std.specs.Cmp.Lexicographic.{pointwise, slice_cmp, texts_ties}
use Rattle.std.specs.Ordering.{nat_cmp, is_eq, ordering_then}
use Rattle.std.specs.declared.cmp.Ordering.{Ordering}
use Rattle.std.specs.declared.cmp.Ordering.TheVariants.{Less, Equal, Greater}
use Rattle.std.proofs.Common.{rules}
use Rattle.std.proofs.lemmas.Slice.Eq.{bytes_eq-Decides}
use Rattle.gno_embedding.specs.Embedding.{base, is_pointer}
use Rattle.gno_embedding.specs.Reaching.{In}
use Rattle.gno_embedding.specs.Walking.{HasOneNumber}
use Rattle.gno_method_sets.proofs.Rows.{there}
use Rattle.gno_method_sets.proofs.Selected.{has_in_set, of_set}
use Rattle.gno_method_sets.specs.Implementing.{HasMethod}
use Rattle.gno_method_sets.specs.Receiving.{HasLike, receives}
use Rattle.gno_promotion.specs.MethodSets.{AreSelected, is_interface}
use Rattle.gno_promotion.specs.Searches.{promoted_with}
use Rattle.gno_promotion.specs.declared.found.PromotedOf.{PromotedOf}
use Rattle.gno_terms.proofs.NormalTerms.{by_name_total}
use Rattle.gno_terms.specs.Lawful.{Each}
use Rattle.gno_terms.specs.Normal.{by_name, normal}
use Rattle.gno_terms.specs.Tables.{Table, Is, Below, Underlying, type_at}
use Rattle.gno_terms.specs.Terms.{method_with, term_of}
use Rattle.gno_terms.specs.declared.term.GoType.{GoType}
use Rattle.gno_terms.specs.declared.term.MethodOf.{MethodOf}
use Rattle.gno_terms.specs.declared.term.TypeRef.{TypeRef}

both_equal : (r s : Ordering) → ordering_then r s ≡ Equal → (r ≡ Equal) × (s ≡ Equal)
both_equal Less s e = absurd (search (rules, e))
both_equal Equal s e = (refl, e)
both_equal Greater s e = absurd (search (rules, e))

same_text : (a b : List ℕ) → slice_cmp nat_cmp a b ≡ Equal → a ≡ b
same_text a b e = (bytes_eq-Decides a b).0 (texts_ties a b ∙ ap is_eq e)

pub same_names : {A : Type 0} (m n : MethodOf A) → by_name m n ≡ Equal → (m.name ≡ n.name) × (m.«package» ≡ n.«package»)
same_names m n e =
    let both = both_equal (slice_cmp nat_cmp m.name n.name) (slice_cmp nat_cmp m.«package» n.«package») e in
    (same_text m.name n.name both.0, same_text m.«package» n.«package» both.1)

pub names_same : {A : Type 0} (m n : MethodOf A) → m.name ≡ n.name → m.«package» ≡ n.«package» → by_name m n ≡ Equal
names_same m n e f = ap (λ x. ordering_then (slice_cmp nat_cmp m.name x) (slice_cmp nat_cmp m.«package» n.«package»)) (sym e)
    ∙ ap (λ x. ordering_then (slice_cmp nat_cmp m.name m.name) (slice_cmp nat_cmp m.«package» x)) (sym f) ∙ tied_itself by_name_total m

in_map : {A B : Type 0} (f : A → B) (x : A) (xs : List A) → In x xs → In (f x) (map f xs)
in_map f x [] i = elim i [ ]
in_map f x (y ∷ ys) (inl e) = inl (ap f e)
in_map f x (y ∷ ys) (inr i) = inr (in_map f x ys i)

of_map : {A B : Type 0} (f : A → B) (y : B) (xs : List A) → In y (map f xs) → (x : A) × In x xs × (f x ≡ y)
of_map f y [] i = elim i [ ]
of_map f y (x ∷ xs) (inl e) = (x, inl refl, sym e)
of_map f y (x ∷ xs) (inr i) = let it = of_map f y xs i in (it.0, inr it.1, it.2)

each_at : {A : Type 0} (P : A → Type 0) (xs : List A) (x : A) → Each P xs → In x xs → P x
each_at P [] x h i = elim i [ ]
each_at P (y ∷ ys) x h (inl e) = subst P (sym e) h.0
each_at P (y ∷ ys) x h (inr i) = each_at P ys x h.1 i

module _ (table : Table) (s : GoType) (ps : List (PromotedOf TypeRef)) (selected : AreSelected table (base s) (map (promoted_with (type_at table.types)) ps)) (w : MethodOf TypeRef) where
  abbrev at : TypeRef → GoType
  at = type_at table.types

  pub forth : (is_pointer (term_of s) ≡ true → (u : GoType) → Underlying table (base s) u → is_interface (term_of u) ≡ false) → HasLike (is_pointer (term_of s)) ps w → HasMethod table s (method_with at w)
  forth free h =
      let names = same_names h.promoted.method w h.named in record {
        method = method_with at h.promoted.method;
        in_set = has_in_set table s (map (promoted_with at) ps) selected free (promoted_with at h.promoted) (in_map (promoted_with at) h.promoted ps h.in_them) h.received;
        name = names.0;
        package_is = names.1;
        type = ap (λ r. normal (at r)) h.of;
      }

  pub back : HasOneNumber table → ((r : TypeRef) (u : GoType) → Is table r u → normal u ≡ u) → Each (λ p. Below (length table.types) p.method.of) ps → Below (length table.types) w.of → HasMethod table s (method_with at w) → HasLike (is_pointer (term_of s)) ps w
  back one normals below own h =
      let q = of_set table s (map (promoted_with at) ps) selected h.method h.in_set in
      let p = of_map (promoted_with at) q.0 ps q.1 in
      let method_is : method_with at p.0.method ≡ h.method = ap (λ (x : PromotedOf GoType). x.method) p.2 ∙ q.3 in
      let here : Is table p.0.method.of (at p.0.method.of) = there table p.0.method.of (each_at (λ x. Below (length table.types) x.method.of) ps p.0 below p.1) in
      let its : Is table w.of (at w.of) = there table w.of own in
      let same : at p.0.method.of ≡ at w.of = sym (normals p.0.method.of (at p.0.method.of) here) ∙ ap (λ (m : MethodOf GoType). normal m.of) method_is ∙ h.type ∙ normals w.of (at w.of) its in record {
        promoted = p.0;
        in_them = p.1;
        named = names_same p.0.method w (ap (λ (m : MethodOf GoType). m.name) method_is ∙ h.name) (ap (λ (m : MethodOf GoType). m.«package») method_is ∙ h.package_is);
        of = one p.0.method.of w.of (at w.of) (subst (Is table p.0.method.of) same here) its;
        received = ap (receives (is_pointer (term_of s))) p.2 ∙ q.2;
      }
