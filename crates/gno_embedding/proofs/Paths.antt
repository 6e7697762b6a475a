-- A path leads to one type.
use Rattle.std.proofs.Common.{◌≡◌, refl, sym, ap, ◌∙◌, subst, ℕ, List, [], ◌∷◌, Bool, false, ◌||◌, rules}
use Rattle.std.specs.Prelude.{slice_get}
use Rattle.std.proofs.lemmas.Option.{same_Some}
use Rattle.gno_terms.specs.declared.term.FieldOf.{FieldOf}
use Rattle.gno_terms.specs.declared.term.GoType.{GoType}
use Rattle.gno_terms.specs.declared.term.TermOf.{TermOf}
use Rattle.gno_terms.specs.declared.term.TermOf.TheVariants as t
use Rattle.gno_terms.specs.Tables.{Table, Underlying, UnderlyingBy}
use Rattle.gno_terms.specs.Terms.{term_of}
use Rattle.gno_embedding.specs.Embedding.{Embeds, Leads, here, along, base, fields_in, is_pointer}
use Rattle.gno_embedding.specs.Walking.{HasOneDefinition}

-- the last step of a path
pub record IsAlong (table : Table) (s : GoType) (place : ℕ) (rest : List ℕ) (followed : Bool) (x : GoType) : Type 0 where
  pub by : GoType
  pub pointer : Bool
  pub before : Bool
  pub leads : Leads table s rest before by
  pub embeds : Embeds table by place pointer x
  pub is : followed ≡ (before || pointer)

data Way (table : Table) (s : GoType) (p : List ℕ) (f : Bool) (x : GoType) : Type 0 where
  none : p ≡ [] → f ≡ false → x ≡ s → Way table s p f x
  more : (place : ℕ) (rest : List ℕ) → p ≡ place ∷ rest → IsAlong table s place rest f x → Way table s p f x

way : (table : Table) (s : GoType) (p : List ℕ) (f : Bool) (x : GoType) → Leads table s p f x → Way table s p f x
way table s _ _ _ here = none refl refl refl
way table s _ _ _ (along {path} {followed} {u} place pointer v l e) = more place path refl (record { by = u; pointer = pointer; before = followed; leads = l; embeds = e; is = refl })

head_of : ℕ → List ℕ → ℕ
head_of n [] = n
head_of n (x ∷ xs) = x

tail_of : List ℕ → List ℕ
tail_of [] = []
tail_of (x ∷ xs) = xs

pub head_is : {a b : ℕ} {xs ys : List ℕ} → a ∷ xs ≡ b ∷ ys → a ≡ b
unfolding head_of
head_is {a} e = ap (head_of a) e

pub tail_is : {a b : ℕ} {xs ys : List ℕ} → a ∷ xs ≡ b ∷ ys → xs ≡ ys
unfolding tail_of
tail_is e = ap tail_of e

module _ (table : Table) (s : GoType) where
  no_step : {p : List ℕ} {f : Bool} {x : GoType} → p ≡ [] → Way table s p f x → (f ≡ false) × (x ≡ s)
  no_step e (none p f x) = (f, x)
  no_step e (more place rest p a) = absurd (search (rules, sym e ∙ p))

  last_step : {q : ℕ} {qs p : List ℕ} {f : Bool} {x : GoType} → p ≡ q ∷ qs → Way table s p f x → IsAlong table s q qs f x
  last_step e (none p f x) = absurd (search (rules, sym e ∙ p))
  last_step {q} {qs} {p} {f} {x} e (more place rest d a) =
      subst (λ n. IsAlong table s n qs f x) (head_is (sym d ∙ e)) (subst (λ ns. IsAlong table s place ns f x) (tail_is (sym d ∙ e)) a)

  pub nothing_of : (f : Bool) (x : GoType) → Leads table s [] f x → (f ≡ false) × (x ≡ s)
  nothing_of f x l = no_step refl (way table s [] f x l)

  pub along_of : (q : ℕ) (qs : List ℕ) (f : Bool) (x : GoType) → Leads table s (q ∷ qs) f x → IsAlong table s q qs f x
  along_of q qs f x l = last_step refl (way table s (q ∷ qs) f x l)

module _ (table : Table) (one : HasOneDefinition table) where
  under_by : (s u v : GoType) (x : TermOf GoType) → UnderlyingBy table s u x → UnderlyingBy table s v x → u ≡ v
  under_by s u v (t.Defined path name local) a b =
      let e = one a.0 b.0 a.1 b.1 (a.2 ∙ sym b.2) in
      sym a.3 ∙ ap (λ d. d.underlying) e ∙ b.3
  under_by s u v _ a b = a ∙ sym b

  pub same_underlying : (s u v : GoType) → Underlying table s u → Underlying table s v → u ≡ v
  same_underlying s u v a b = under_by s u v (term_of s) a b

  pub same_embeds : (x : GoType) (place : ℕ) (p q : Bool) (v w : GoType) → Embeds table x place p v → Embeds table x place q w → (p ≡ q) × (v ≡ w)
  same_embeds x place p q v w a b =
      let u = same_underlying x a.underlying b.underlying a.by b.by in
      let f : a.field ≡ b.field = same_Some a.field b.field (sym a.at ∙ ap (λ z. slice_get (fields_in (term_of z)) place) u ∙ b.at) in
      (sym a.is_pointer ∙ ap (λ (z : FieldOf GoType). is_pointer (term_of z.of)) f ∙ b.is_pointer, sym a.to ∙ ap (λ (z : FieldOf GoType). base z.of) f ∙ b.to)

  pub same_leads : (s : GoType) (path : List ℕ) (f g : Bool) (x y : GoType) → Leads table s path f x → Leads table s path g y → (f ≡ g) × (x ≡ y)
  same_leads s [] f g x y a b =
      let p = nothing_of table s f x a in
      let q = nothing_of table s g y b in
      (p.0 ∙ sym q.0, p.1 ∙ sym q.1)
  same_leads s (place ∷ rest) f g x y a b =
      let p = along_of table s place rest f x a in
      let q = along_of table s place rest g y b in
      let r = same_leads s rest p.before q.before p.by q.by p.leads q.leads in
      let e = same_embeds q.by place p.pointer q.pointer x y (subst (λ z. Embeds table z place p.pointer x) r.1 p.embeds) q.embeds in
      (p.is ∙ ap (λ z. z || p.pointer) r.0 ∙ ap (λ z. q.before || z) e.0 ∙ sym q.is, e.1)
