-- Words: runs of bytes that pass a test, and what stands behind them.
use Rattle.std.proofs.Common.{◌≡◌, refl, ap, sym, ◌∙◌, true≢false, ℕ, Bool, true, false, not, List, [], ◌∷◌, ◌++◌, drop}
use Rattle.std.specs.List.{list_all}
use Rattle.std.proofs.lemmas.Bool.{and_parts, and_from}
use Rattle.std.proofs.lemmas.List.Folds.{list_all-append}

-- the first byte passes
abbrev pub begins : (ℕ → Bool) → List ℕ → Bool
begins p [] = false
begins p (b ∷ bs) = p b

abbrev first_byte : List ℕ → ℕ
first_byte [] = 0
first_byte (b ∷ bs) = b

-- no first byte passes
abbrev pub stops : (ℕ → Bool) → List ℕ → Bool
stops p r = not (begins p r)

pub weaken : (p q : ℕ → Bool) → ((b : ℕ) → p b ≡ true → q b ≡ true) → (bs : List ℕ) → list_all p bs ≡ true → list_all q bs ≡ true
weaken p q h [] e = refl
weaken p q h (b ∷ bs) e = let t = and_parts (p b) (list_all p bs) e in and_from (q b) (list_all q bs) (h b t.0) (weaken p q h bs t.1)

pub weaken_first : (p q : ℕ → Bool) → ((b : ℕ) → p b ≡ true → q b ≡ true) → (bs : List ℕ) → begins p bs ≡ true → begins q bs ≡ true
weaken_first p q h [] e = absurd (true≢false (sym e))
weaken_first p q h (b ∷ bs) e = h b e

pub all-append : (p : ℕ → Bool) (a b : List ℕ) → list_all p a ≡ true → list_all p b ≡ true → list_all p (a ++ b) ≡ true
all-append p a b s t = list_all-append p a b ∙ and_from (list_all p a) (list_all p b) s t

pub begins-append : (p : ℕ → Bool) (a b : List ℕ) → begins p a ≡ true → begins p (a ++ b) ≡ true
begins-append p [] b e = absurd (true≢false (sym e))
begins-append p (x ∷ a) b e = e

-- a list cannot both begin so and stop so
pub not_both : (p : ℕ → Bool) (r q : List ℕ) → begins p r ≡ true → stops p q ≡ true → q ≡ r → ⊥
not_both p r q b s e = true≢false (sym s ∙ ap (stops p) e ∙ ap not b)

-- words before what ends them are the same
pub same_word : (p : ℕ → Bool) (xs ys r q : List ℕ) → list_all p xs ≡ true → list_all p ys ≡ true → stops p r ≡ true → stops p q ≡ true → xs ++ r ≡ ys ++ q → (xs ≡ ys) × (r ≡ q)
same_word p [] [] r q a b c d e = (refl, e)
same_word p [] (y ∷ ys) r q a b c d e = absurd (not_both p (y ∷ (ys ++ q)) r (and_parts (p y) (list_all p ys) b).0 c e)
same_word p (x ∷ xs) [] r q a b c d e = absurd (not_both p (x ∷ (xs ++ r)) q (and_parts (p x) (list_all p xs) a).0 d (sym e))
same_word p (x ∷ xs) (y ∷ ys) r q a b c d e =
    let t = same_word p xs ys r q (and_parts (p x) (list_all p xs) a).1 (and_parts (p y) (list_all p ys) b).1 c d (ap (drop 1) e) in
    ((λ i. first_byte (e i) ∷ t.0 i), t.1)

-- a word has no byte that fails
pub no_such : (p : ℕ → Bool) (c : ℕ) → p c ≡ false → (xs n : List ℕ) → list_all p (xs ++ (c ∷ n)) ≡ true → ⊥
no_such p c f xs n e =
    let t = and_parts (list_all p xs) (list_all p (c ∷ n)) (sym (list_all-append p xs (c ∷ n)) ∙ e) in
    true≢false (sym (and_parts (p c) (list_all p n) t.1).0 ∙ f)

-- words behind the last byte that fails are the same
pub same_last : (p : ℕ → Bool) (c : ℕ) → p c ≡ false → (xs ys n m : List ℕ) → list_all p n ≡ true → list_all p m ≡ true → xs ++ (c ∷ n) ≡ ys ++ (c ∷ m) → (xs ≡ ys) × (n ≡ m)
same_last p c f [] [] n m a b e = (refl, ap (drop 1) e)
same_last p c f [] (y ∷ ys) n m a b e = absurd (no_such p c f ys m (ap (list_all p) (sym (ap (drop 1) e)) ∙ a))
same_last p c f (x ∷ xs) [] n m a b e = absurd (no_such p c f xs n (ap (list_all p) (ap (drop 1) e) ∙ b))
same_last p c f (x ∷ xs) (y ∷ ys) n m a b e =
    let t = same_last p c f xs ys n m a b (ap (drop 1) e) in
    ((λ i. first_byte (e i) ∷ t.0 i), t.1)
