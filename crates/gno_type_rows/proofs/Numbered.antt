-- The numbers that rows are found by.
use Rattle.std.proofs.Common.{◌≡◌, refl, sym, ap, ◌∙◌, subst, ℕ, List, [], ◌∷◌, ◌++◌, length, Option, Some, None, Bool, true, false, cond}
use Rattle.std.specs.Prelude.{slice_get}
use Rattle.std.specs.BTreeMap.{BTreeMap, get, Updates, is_at}
use Rattle.std.specs.Map.{lookup}
use Rattle.std.specs.Ordering.{is_eq}
use Rattle.gno_terms.specs.declared.term.TypeRef.{TypeRef}
use Rattle.gno_terms.specs.declared.term.TermOf.{TermOf}
use Rattle.gno_type_rows.specs.Keys.{by_key, key_of}
use Rattle.gno_type_rows.specs.RowTypes.{HasNumbers}
use Rattle.gno_type_rows.specs.declared.key.Key.{Key}
use Rattle.gno_layouts.proofs.Ends.{get_left, get_last, Where, inside, last, get_where}
use Rattle.gno_type_rows.proofs.KeyOrder.{equal_keys, same_key}
use Rattle.gno_type_rows.proofs.KeysDiffer.{key_inj}

number_or : ℕ → Option ℕ → ℕ
number_or d None = d
number_or d (Some n) = n

some_eq : {m n : ℕ} → Some m ≡ Some n → m ≡ n
unfolding number_or
some_eq {m} e = ap (number_or m) e

pub same_numbers : (m n : BTreeMap Key ℕ) (terms : List (TermOf TypeRef)) → n.entries ≡ m.entries → HasNumbers m terms → HasNumbers n terms
same_numbers m n terms e has = record {
  found = λ x k h. has.found x k (same (key_of x) ∙ h);
  each = λ x k h. sym (same (key_of x)) ∙ has.each x k h;
}
  where
    same : (key : Key) → get by_key m key ≡ get by_key n key
    same key = ap (lookup (is_at (by_key key))) (sym e)

module _ (m n : BTreeMap Key ℕ) (terms : List (TermOf TypeRef)) (x : TermOf TypeRef) (key : Key) (count : ℕ) (has : HasNumbers m terms) (is : key ≡ key_of x) (at : count ≡ length terms)
    (new : (k : ℕ) → slice_get terms k ≡ Some x → ⊥) (updates : Updates by_key m n key (Some count)) where
  there : (y : TermOf TypeRef) (b : Bool) → is_eq (by_key key (key_of y)) ≡ b → get by_key n (key_of y) ≡ cond b (Some count) (get by_key m (key_of y))
  there y b e = updates.0 (key_of y) ∙ ap (λ t. cond t (Some count) (get by_key m (key_of y))) e

  same_term : (y : TermOf TypeRef) → is_eq (by_key key (key_of y)) ≡ true → x ≡ y
  same_term y e = key_inj x y (sym is ∙ equal_keys key (key_of y) e)

  found_by : (y : TermOf TypeRef) (i : ℕ) (b : Bool) → is_eq (by_key key (key_of y)) ≡ b → get by_key n (key_of y) ≡ Some i → slice_get (terms ++ x ∷ []) i ≡ Some y
  found_by y i true e h =
      let k : count ≡ i = some_eq (sym (there y true e) ∙ h) in
      subst (λ j. slice_get (terms ++ x ∷ []) j ≡ Some y) (sym at ∙ k) (get_last terms x ∙ ap Some (same_term y e))
  found_by y i false e h = get_left terms x i y (has.found y i (sym (there y false e) ∙ h))

  inside_by : (y : TermOf TypeRef) (i : ℕ) (b : Bool) → is_eq (by_key key (key_of y)) ≡ b → slice_get terms i ≡ Some y → get by_key n (key_of y) ≡ Some i
  inside_by y i true e h = absurd (new i (h ∙ ap Some (sym (same_term y e))))
  inside_by y i false e h = there y false e ∙ has.each y i h

  each_by : (y : TermOf TypeRef) (i : ℕ) → Where terms x i y → get by_key n (key_of y) ≡ Some i
  each_by y i (inside h) = inside_by y i (is_eq (by_key key (key_of y))) refl h
  each_by y i (last h k) =
      let same : key ≡ key_of y = is ∙ ap key_of (sym k) in
      there y true (ap (λ z. is_eq (by_key z (key_of y))) same ∙ same_key (key_of y)) ∙ ap Some (at ∙ sym h)

  pub numbers_push : HasNumbers n (terms ++ x ∷ [])
  numbers_push = record {
    found = λ y i h. found_by y i (is_eq (by_key key (key_of y))) refl h;
    each = λ y i h. each_by y i (get_where terms x i y h);
  }
