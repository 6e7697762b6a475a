-- The first of a list, and what stands behind it.
use Rattle.std.proofs.Common.{◌≡◌, refl, sym, subst, ◌≤◌, ◌<◌, ◌-◌, ℕ, Bool, true, false, List, [], ◌∷◌, ◌++◌, length, map, take, drop, length-drop, get_or, codes, arith}
use Rattle.std.proofs.lemmas.List.{take_all}
use Rattle.gno_terms.specs.declared.term.GoType.{GoType}
use Rattle.gno_terms.specs.declared.term.TypeRef.{TypeRef}
use Rattle.gno_terms.specs.declared.term.MethodOf.{MethodOf}
use Rattle.gno_terms.specs.Lawful.{Each, IsLawfulMethod, is_function}
use Rattle.gno_terms.specs.Tables.{Below, type_at}
use Rattle.gno_terms.specs.Terms.{method_of, method_with, term_of}
use Rattle.gno_terms.specs.Texts.{joined, results_text}
use Rattle.gno_type_texts.specs.Pieces.{ArePieceMethods, more_text, param_texts}

behind_is : {A : Type 0} (xs : List A) → take (length xs - 1) (drop 1 xs) ≡ drop 1 xs
behind_is xs = take_all (length xs - 1) (drop 1 xs) (omega (arith, length-drop 1 xs))

module _ {A B : Type 0} (P : B → Type 0) (f : A → B) where
  pub each_first : (xs : List A) (x : A) → 1 ≤ length xs → x ≡ get_or xs 0 x → Each P (map f xs) → P (f x)
  each_first [] x h e each = absurd (omega (arith, h))
  each_first (y ∷ xs) x h e each = subst (λ z. P (f z)) (sym e) each.0

  each_drop : (xs : List A) → Each P (map f xs) → Each P (map f (drop 1 xs))
  each_drop [] each = tt
  each_drop (x ∷ xs) each = each.1

  pub each_behind : (xs : List A) → Each P (map f xs) → Each P (map f (take (length xs - 1) (drop 1 xs)))
  each_behind xs each = subst (λ l. Each P (map f l)) (sym (behind_is xs)) (each_drop xs each)

-- the method may be a piece
pub first_method : (types : List GoType) (ms : List (MethodOf TypeRef)) (m : MethodOf TypeRef) → 1 ≤ length ms → m ≡ get_or ms 0 m → ArePieceMethods types ms
    → Below (length types) m.of × (is_function (term_of (type_at types m.of)) ≡ true)
first_method types ms m h e are = (each_first (Below (length types)) method_of ms m h e are.0, (each_first IsLawfulMethod (method_with (type_at types)) ms m h e are.1).function)

pub methods_behind : (types : List GoType) (ms : List (MethodOf TypeRef)) → ArePieceMethods types ms → ArePieceMethods types (take (length ms - 1) (drop 1 ms))
methods_behind types ms are = (each_behind (Below (length types)) method_of ms are.0, each_behind IsLawfulMethod (method_with (type_at types)) ms are.1)

-- parameters that are not the first
pub more_params : (at : TypeRef → List ℕ) (ts : List TypeRef) (variadic : Bool) → 1 ≤ length ts
    → more_text (codes ", ") (param_texts variadic (map at ts)) ≡ codes ", " ++ joined (codes ", ") (param_texts variadic (map at ts))
more_params at [] variadic h = absurd (omega (arith, h))
more_params at (t ∷ []) true h = refl
more_params at (t ∷ []) false h = refl
more_params at (t ∷ u ∷ ts) true h = refl
more_params at (t ∷ u ∷ ts) false h = refl

pub one_result : (at : TypeRef → List ℕ) (ts : List TypeRef) → 1 ≤ length ts → length ts < 2 → results_text (map at ts) ≡ codes " " ++ joined (codes ", ") (map at ts)
one_result at [] h k = absurd (omega (arith, h))
one_result at (t ∷ []) h k = refl
one_result at (t ∷ u ∷ ts) h k = absurd (omega (arith, k))
