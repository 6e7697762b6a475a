-- Holders without those that hold nothing.
use Rattle.std.proofs.Common.{◌≡◌, refl, sym, ap, ◌∙◌, subst, ℕ, zero, suc, ◌<◌, List, [], ◌∷◌, ◌++◌, Some, None, length, get_or, true, inl, inr, rules, arith}
use Rattle.std.specs.Prelude.{◌⊎◌, slice_get, slice_set}
use Rattle.std.specs.List.{AllByRecursion}
use Rattle.gno_layouts.specs.declared.row.Row.{Row}
use Rattle.gno_layouts.specs.declared.row.Row.TheVariants as r
use Rattle.gno_layouts.specs.Layouts.{parts, is_known}
use Rattle.gno_layouts.specs.Settling.{In, Holds, AreHolders, Keeps, EachKeeps}
use Rattle.gno_layouts.proofs.Agreed.{each_wider}
use Rattle.gno_layouts.proofs.SetAt.{set_here, set_elsewhere, Same, here, elsewhere, where_is}

unwrapped : {A : Type 0} {a b : A} → Some a ≡ Some b → a ≡ b
unwrapped e = search (rules, e)

-- one of a list or behind it
in_split : (ms : List ℕ) (last n : ℕ) → In n (ms ++ last ∷ []) → (n ≡ last) ⊎ In n ms
in_split [] last n (inl e) = inl e
in_split [] last n (inr i) = absurd i
in_split (m ∷ ms) last n (inl e) = inr (inl e)
in_split (m ∷ ms) last n (inr i) = further (in_split ms last n i)
  where
    further : (n ≡ last) ⊎ In n ms → (n ≡ last) ⊎ In n (m ∷ ms)
    further (inl e) = inl e
    further (inr j) = inr (inr j)

last_at : (ms : List ℕ) (last : ℕ) → get_or (ms ++ last ∷ []) (length ms) 0 ≡ last
last_at [] last = refl
last_at (m ∷ ms) last = last_at ms last

pub put_none : (ms : List ℕ) (last at n : ℕ) → at ≡ length ms → In n (ms ++ last ∷ []) → (n ≡ get_or (ms ++ last ∷ []) at 0) ⊎ In n ms
put_none ms last at n e i = by (in_split ms last n i)
  where
    by : (n ≡ last) ⊎ In n ms → (n ≡ get_or (ms ++ last ∷ []) at 0) ⊎ In n ms
    by (inl f) = inl (f ∙ sym (ap (λ k. get_or (ms ++ last ∷ []) k 0) e ∙ last_at ms last))
    by (inr j) = inr j

pub put_last : (ms : List ℕ) (last at n : ℕ) → at < length ms → In n (ms ++ last ∷ []) → (n ≡ get_or (ms ++ last ∷ []) at 0) ⊎ In n (slice_set ms at last)
put_last [] last at n w i = absurd (omega (arith, w))
put_last (m ∷ ms) last zero n w (inl e) = inl e
put_last (m ∷ ms) last zero n w (inr i) = by (in_split ms last n i)
  where
    by : (n ≡ last) ⊎ In n ms → (n ≡ m) ⊎ In n (last ∷ ms)
    by (inl e) = inr (inl e)
    by (inr j) = inr (inr j)
put_last (m ∷ ms) last (suc at) n w (inl e) = inr (inl e)
put_last (m ∷ ms) last (suc at) n w (inr i) = by (put_last ms last at n (omega (arith, w)) i)
  where
    by : (n ≡ get_or (ms ++ last ∷ []) at 0) ⊎ In n (slice_set ms at last) → (n ≡ get_or (ms ++ last ∷ []) at 0) ⊎ In n (m ∷ slice_set ms at last)
    by (inl e) = inl e
    by (inr j) = inr (inr j)

-- without one that is not known
pub keeps_others : (rows : List Row) (old new : List ℕ) (number : ℕ) → ((n : ℕ) → In n old → (n ≡ number) ⊎ In n new) → ((row : Row) → slice_get rows number ≡ Some row → is_known row ≡ true → ⊥) → Keeps rows old new
keeps_others rows old new number others unknown n row h known i = by (others n i)
  where
    by : (n ≡ number) ⊎ In n new → In n new
    by (inl e) = absurd (unknown row (subst (λ k. slice_get rows k ≡ Some row) e h) known)
    by (inr j) = j

-- another list of holders
pub each_on : (rows : List Row) (holders now : List (List ℕ)) → EachKeeps rows holders now → (number : ℕ) (old new : List ℕ) → slice_get now number ≡ Some old → number < length now → Keeps rows old new → EachKeeps rows holders (slice_set now number new)
each_on rows holders now keeps number old new there within on k ms h = by (keeps k ms h) (where_is k number)
  where
    by : (ns : List ℕ) × (slice_get now k ≡ Some ns) × Keeps rows ms ns → Same k number → (ns : List ℕ) × (slice_get (slice_set now number new) k ≡ Some ns) × Keeps rows ms ns
    by t (elsewhere f) = (t.0, set_elsewhere now number new k f ∙ t.1, t.2)
    by t (here e) =
        let same : t.0 ≡ old = unwrapped (sym t.1 ∙ ap (slice_get now) e ∙ there) in
        (new, ap (slice_get (slice_set now number new)) e ∙ set_here now number new within, λ n row g known i. on n row g known (subst (In n) same (t.2 n row g known i)))

-- what is not known has no parts
data KnownOrNone (row : Row) : Type 0 where
  known : is_known row ≡ true → KnownOrNone row
  empty : parts row ≡ [] → KnownOrNone row

known_or_none : (row : Row) → KnownOrNone row
known_or_none (r.Single c) = known refl
known_or_none (r.Array l of) = known refl
known_or_none (r.Struct fs) = known refl
known_or_none (r.Defined None) = empty refl
known_or_none (r.Defined (Some of)) = known refl

pub known_holders : (rows : List Row) (holders less : List (List ℕ)) → length less ≡ length holders → EachKeeps rows holders less → AreHolders rows holders → AreHolders rows less
known_holders rows holders less size keeps are = record { size = size ∙ are.size; each = λ n row h. by n row h (known_or_none row) }
  where
    by : (n : ℕ) (row : Row) → slice_get rows n ≡ Some row → KnownOrNone row → AllByRecursion (Holds less n) (parts row)
    by n row h (empty e) = subst (AllByRecursion (Holds less n)) (sym e) tt
    by n row h (known k) = each_wider (Holds holders n) (Holds less n) (λ p d. let t = keeps p d.0 d.1 in (t.0, t.1, t.2 n row h k d.2)) (parts row) (are.each n row h)
