-- One more piece of what was read or written.
use Rattle.std.proofs.Common.{◌≡◌, ℕ, ◌+◌, ◌-◌, ◌≤◌, ◌<◌, List, [], ◌∷◌, ◌++◌, append_assoc, append-nil, sym, ◌∙◌, ap, rules, arith, take, drop, length, refl}
use Rattle.std.specs.Prelude.{Option, Some, None, min}
use Rattle.std.proofs.Math.Seq.{take-add}
use Rattle.std.proofs.lemmas.List.{take-append-drop, drop-drop, nil_from_length, take_all}
use Rattle.std.proofs.Common.{length-drop}
use Rattle.gno_port.specs.Streams.{with_more, with_first, Lost, LostSome}

pub with_more-nil : (a : Option (List ℕ)) → with_more a [] ≡ a
with_more-nil None = refl
with_more-nil (Some a) = simp append-nil

pub with_first-nil : (a : Option (List ℕ)) → with_first [] a ≡ a
with_first-nil None = refl
with_first-nil (Some a) = refl

pub with_more-with_more : (a : Option (List ℕ)) (x y : List ℕ) → with_more (with_more a x) y ≡ with_more a (x ++ y)
with_more-with_more None x y = refl
with_more-with_more (Some a) x y = simp append_assoc

pub with_first-with_first : (a : Option (List ℕ)) (x y : List ℕ) → with_first x (with_first y a) ≡ with_first (x ++ y) a
with_first-with_first None x y = refl
with_first-with_first (Some a) x y = simp append_assoc

pub wrote : (old mid new : Option (List ℕ)) (bytes piece : List ℕ) (w n : ℕ) → piece ≡ drop w bytes → mid ≡ with_more old (take w bytes) → new ≡ with_more mid (take n piece) → new ≡ with_more old (take (w + n) bytes)
wrote old mid new bytes piece w n e p q =
    q ∙ ap (λ m. with_more m (take n piece)) p ∙ with_more-with_more old (take w bytes) (take n piece)
    ∙ ap (λ t. with_more old (take w bytes ++ take n t)) e ∙ ap (λ t. with_more old t) (sym (take-add w n bytes))

pub read_front : (at n : ℕ) (holds buffer : List ℕ) → take n buffer ≡ take n (drop at holds) → drop at holds ≡ take n buffer ++ drop (at + n) holds
read_front at n holds buffer e =
    sym (take-append-drop n (drop at holds)) ∙ ap (λ t. t ++ drop n (drop at holds)) (sym e) ∙ ap (λ t. take n buffer ++ t) (drop-drop n at holds)

pub none_left : (at n m : ℕ) (holds : List ℕ) → n ≡ min (length (drop at holds)) m → n ≡ 0 → 0 < m → drop (at + n) holds ≡ []
none_left at n m holds e z h = nil_from_length _ (omega (arith, length-drop {A = ℕ}))

pub take_rest : (w : ℕ) (bytes : List ℕ) → take (length bytes - w) (drop w bytes) ≡ drop w bytes
take_rest w bytes = take_all _ (drop w bytes) (omega (arith, length-drop {A = ℕ}))

pub lost_some : (a b c : Option (List ℕ)) (x y : List ℕ) → Lost a b x → Lost b c y → LostSome a c
lost_some a b c x y p q = (x ++ y, p ∙ ap (with_first x) q ∙ with_first-with_first c x y)
