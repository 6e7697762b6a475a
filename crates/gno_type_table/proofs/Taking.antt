-- The first numbers of a list, and its last.
use Rattle.std.proofs.Common.{◌≡◌, refl, sym, ap, ◌∙◌, ℕ, zero, suc, ◌-◌, ◌<◌, ◌≤◌, List, [], ◌∷◌, length, Some, take, rules, arith, inl, inr}
use Rattle.std.specs.Prelude.{slice_get}
use Rattle.gno_embedding.specs.Reaching.{In}
use Rattle.gno_terms.specs.declared.term.TypeRef.{TypeRef}
use Rattle.gno_type_table.specs.Kept.{last_in}

unwrapped : {A : Type 0} {a b : A} → Some a ≡ Some b → a ≡ b
unwrapped e = search (rules, e)

-- where an element stands
pub record Stands (ts : List TypeRef) (t : TypeRef) : Type 0 where
  pub at : ℕ
  pub is : slice_get ts at ≡ Some t

further : {u : TypeRef} {ts : List TypeRef} {t : TypeRef} → Stands ts t → Stands (u ∷ ts) t
further s = record { at = suc s.at; is = s.is }

pub stands : (ts : List TypeRef) (t : TypeRef) → In t ts → Stands ts t
stands (u ∷ ts) t (inl e) = record { at = 0; is = ap Some (sym e) }
stands (u ∷ ts) t (inr h) = further (stands ts t h)
stands [] t h = absurd h

pub is_in : (ts : List TypeRef) (i : ℕ) (t : TypeRef) → slice_get ts i ≡ Some t → In t ts
is_in [] i t h = absurd (search (rules, h))
is_in (u ∷ ts) zero t h = inl (sym (unwrapped h))
is_in (u ∷ ts) (suc i) t h = inr (is_in ts i t h)

pub data Took (m : ℕ) (ts : List TypeRef) (i : ℕ) (t : TypeRef) : Type 0 where
  took : i < m → slice_get ts i ≡ Some t → Took m ts i t

one_more : {m : ℕ} {u : TypeRef} {ts : List TypeRef} {i : ℕ} {t : TypeRef} → Took m ts i t → Took (suc m) (u ∷ ts) (suc i) t
one_more (took w h) = took (omega (arith, w)) h

pub took_at : (m : ℕ) (ts : List TypeRef) (i : ℕ) (t : TypeRef) → slice_get (take m ts) i ≡ Some t → Took m ts i t
took_at zero ts i t h = absurd (search (rules, h))
took_at (suc m) [] i t h = absurd (search (rules, h))
took_at (suc m) (u ∷ ts) zero t h = took (omega arith) h
took_at (suc m) (u ∷ ts) (suc i) t h = one_more (took_at m ts i t h)

pub take_take : (i m : ℕ) (ts : List TypeRef) → i ≤ m → take i (take m ts) ≡ take i ts
take_take zero m ts w = refl
take_take (suc i) zero ts w = absurd (omega (arith, w))
take_take (suc i) (suc m) [] w = refl
take_take (suc i) (suc m) (t ∷ ts) w = ap (λ l. t ∷ l) (take_take i m ts (omega (arith, w)))

pub last_taken : (k : ℕ) (ts : List TypeRef) (t : TypeRef) → slice_get ts k ≡ Some t → last_in (take (suc k) ts) ≡ Some t
last_taken k [] t h = absurd (search (rules, h))
last_taken zero (u ∷ ts) t h = h
last_taken (suc k) (u ∷ []) t h = absurd (search (rules, h))
last_taken (suc k) (u ∷ v ∷ ts) t h = last_taken k (v ∷ ts) t h

pub last_at : (ts : List TypeRef) → slice_get ts (length ts - 1) ≡ last_in ts
last_at [] = refl
last_at (t ∷ []) = refl
last_at (t ∷ u ∷ ts) =
    let e : length (t ∷ u ∷ ts) - 1 ≡ suc (length (u ∷ ts) - 1) = omega arith in
    ap (slice_get (t ∷ u ∷ ts)) e ∙ last_at (u ∷ ts)
