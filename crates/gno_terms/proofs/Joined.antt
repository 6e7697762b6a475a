-- Lists of items whose texts stand with a separator between them, before a closing byte.
use Rattle.std.proofs.Common.{◌≡◌, refl, ap, ap₂, sym, ◌∙◌, true≢false, ℕ, Bool, true, false, ◌||◌, ◌==◌, List, [], ◌∷◌, ◌++◌, append_assoc, map, drop, eq-eqb}
use Rattle.gno_terms.specs.Lawful.{Each}
use Rattle.gno_terms.specs.Texts.{joined}
use Rattle.gno_terms.proofs.Words.{begins}

-- `)`, `,`, `;`, `]` and `}` end a text
abbrev pub is_end : ℕ → Bool
is_end b = b == 41 || (b == 44 || (b == 59 || (b == 93 || b == 125)))

-- what may stand behind a text
abbrev pub ends : List ℕ → Bool
ends [] = true
ends (b ∷ bs) = is_end b

-- a text and what stands behind it tell the item
abbrev pub Reads : {A : Type 0} → (A → Type 0) → (A → List ℕ) → A → Type 0
Reads {A} Fits text a = (b : A) → Fits b → (r q : List ℕ) → ends r ≡ true → ends q ≡ true → text a ++ r ≡ text b ++ q → (a ≡ b) × (r ≡ q)

module _ {A : Type 0} (Fits : A → Type 0) (text : A → List ℕ) (mark closer : ℕ) where
  -- behind the first item
  abbrev behind : List A → List ℕ → List ℕ
  behind [] r = closer ∷ r
  behind (x ∷ xs) r = mark ∷ 32 ∷ (text x ++ behind xs r)

  abbrev listed : List A → List ℕ → List ℕ
  listed [] r = closer ∷ r
  listed (x ∷ xs) r = text x ++ behind xs r

  joined-listed : (xs : List A) (r : List ℕ) → joined (mark ∷ 32 ∷ []) (map text xs) ++ (closer ∷ r) ≡ listed xs r
  joined-listed [] r = refl
  joined-listed (x ∷ []) r = refl
  joined-listed (x ∷ y ∷ ys) r =
      append_assoc (text x) (mark ∷ 32 ∷ joined (mark ∷ 32 ∷ []) (map text (y ∷ ys))) (closer ∷ r)
      ∙ ap (λ l. text x ++ (mark ∷ 32 ∷ l)) (joined-listed (y ∷ ys) r)

  behind_ends : is_end mark ≡ true → is_end closer ≡ true → (xs : List A) (r : List ℕ) → ends (behind xs r) ≡ true
  behind_ends m c [] r = c
  behind_ends m c (x ∷ xs) r = m

  abbrev closes : List ℕ → Bool
  closes = begins (λ b. b == closer)

  module _ (m : is_end mark ≡ true) (c : is_end closer ≡ true) (apart : (mark == closer) ≡ false) where
    same_behind : (xs ys : List A) (r q : List ℕ) → Each (Reads Fits text) xs → Each Fits ys → behind xs r ≡ behind ys q → (xs ≡ ys) × (r ≡ q)
    same_behind [] [] r q reads fits e = (refl, ap (drop 1) e)
    same_behind [] (y ∷ ys) r q reads fits e = absurd (true≢false (sym (eq-eqb closer closer refl) ∙ ap closes e ∙ apart))
    same_behind (x ∷ xs) [] r q reads fits e = absurd (true≢false (sym (eq-eqb closer closer refl) ∙ ap closes (sym e) ∙ apart))
    same_behind (x ∷ xs) (y ∷ ys) r q reads fits e =
        let t = reads.0 y fits.0 (behind xs r) (behind ys q) (behind_ends m c xs r) (behind_ends m c ys q) (ap (drop 2) e) in
        let u = same_behind xs ys r q reads.1 fits.1 t.1 in
        (ap₂ (λ z zs. z ∷ zs) t.0 u.0, u.1)

    same_listed : (xs ys : List A) (r q : List ℕ) → Each (Reads Fits text) xs → Each Fits xs → Each Fits ys → (shown : (a : A) (r : List ℕ) → Fits a → begins (λ b. b == closer) (text a ++ r) ≡ false)
        → listed xs r ≡ listed ys q → (xs ≡ ys) × (r ≡ q)
    same_listed [] [] r q reads own fits shown e = (refl, ap (drop 1) e)
    same_listed [] (y ∷ ys) r q reads own fits shown e = absurd (true≢false (sym (eq-eqb closer closer refl) ∙ ap closes e ∙ shown y (behind ys q) fits.0))
    same_listed (x ∷ xs) [] r q reads own fits shown e = absurd (true≢false (sym (eq-eqb closer closer refl) ∙ ap closes (sym e) ∙ shown x (behind xs r) own.0))
    same_listed (x ∷ xs) (y ∷ ys) r q reads own fits shown e =
        let t = reads.0 y fits.0 (behind xs r) (behind ys q) (behind_ends m c xs r) (behind_ends m c ys q) e in
        let u = same_behind xs ys r q reads.1 fits.1 t.1 in
        (ap₂ (λ z zs. z ∷ zs) t.0 u.0, u.1)

    -- such lists with the same text are the same
    pub same_joined : (xs ys : List A) (r q : List ℕ) → Each (Reads Fits text) xs → Each Fits xs → Each Fits ys → ((a : A) (r : List ℕ) → Fits a → begins (λ b. b == closer) (text a ++ r) ≡ false)
        → joined (mark ∷ 32 ∷ []) (map text xs) ++ (closer ∷ r) ≡ joined (mark ∷ 32 ∷ []) (map text ys) ++ (closer ∷ q) → (xs ≡ ys) × (r ≡ q)
    same_joined xs ys r q reads own fits shown e = same_listed xs ys r q reads own fits shown (sym (joined-listed xs r) ∙ e ∙ joined-listed ys q)
