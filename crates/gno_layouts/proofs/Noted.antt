-- Which rows hold a row, where one is noted.
use Rattle.std.proofs.Common.{◌≡◌, refl, sym, ap, ◌∙◌, subst, ℕ, ◌<◌, List, [], ◌∷◌, ◌++◌, Some, length, inl, inr, rules}
use Rattle.std.specs.Prelude.{slice_get, slice_set, Result, Ok, Err, OnOk, OnErr}
use Rattle.gno_layouts.specs.Settling.{In, Holds}
use Rattle.gno_layouts.proofs.SetAt.{set_here, set_elsewhere, Same, here, elsewhere, where_is}

unwrapped : {A : Type 0} {a b : A} → Some a ≡ Some b → a ≡ b
unwrapped e = search (rules, e)

in_front : (ms : List ℕ) (x m : ℕ) → In m ms → In m (ms ++ x ∷ [])
in_front [] x m i = absurd i
in_front (n ∷ ns) x m (inl e) = inl e
in_front (n ∷ ns) x m (inr i) = inr (in_front ns x m i)

in_last : (ms : List ℕ) (x : ℕ) → In x (ms ++ x ∷ [])
in_last [] x = inl refl
in_last (n ∷ ns) x = inr (in_last ns x)

module _ {T E : Type 0} (result : Result T E) (holders : List (List ℕ)) (part number : ℕ) (old new : List ℕ) (there : slice_get holders part ≡ Some old) (within : part < length holders) where
  grown : (r : Result T E) → OnOk r (new ≡ old ++ number ∷ []) → OnErr r (new ≡ old) → (m : ℕ) → In m old → In m new
  grown (Ok x) ok err m i = subst (In m) (sym ok) (in_front old number m i)
  grown (Err e) ok err m i = subst (In m) (sym err) i

  pub noted_grows : OnOk result (new ≡ old ++ number ∷ []) → OnErr result (new ≡ old) → (m n : ℕ) → Holds holders m n → Holds (slice_set holders part new) m n
  noted_grows ok err m n h = by (where_is n part)
    where
      by : Same n part → Holds (slice_set holders part new) m n
      by (elsewhere f) = (h.0, set_elsewhere holders part new n f ∙ h.1, h.2)
      by (here e) =
          let same : h.0 ≡ old = unwrapped (sym h.1 ∙ ap (slice_get holders) e ∙ there) in
          (new, ap (slice_get (slice_set holders part new)) e ∙ set_here holders part new within, grown result ok err m (subst (In m) same h.2))

  noted_by : (r : Result T E) → OnOk r (new ≡ old ++ number ∷ []) → OnOk r (Holds (slice_set holders part new) number part)
  noted_by (Ok x) ok = (new, set_here holders part new within, subst (In number) (sym ok) (in_last old number))
  noted_by (Err e) ok = tt

  pub noted : OnOk result (new ≡ old ++ number ∷ []) → OnOk result (Holds (slice_set holders part new) number part)
  noted = noted_by result
