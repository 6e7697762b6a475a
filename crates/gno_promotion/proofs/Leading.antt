-- Embedded fields lead along a path to one type, and a type has its members alone.
use Rattle.std.proofs.Common.{◌≡◌, refl, sym, ap, ap₂, ◌∙◌, subst, ℕ, List, [], ◌∷◌, Bool, false, ◌||◌, Option, Some, None}
use Rattle.std.specs.Prelude.{slice_get}
use Rattle.gno_embedding.specs.Embedding.{Embeds, Leads, base, fields_in, here, along, is_pointer}
use Rattle.gno_promotion.specs.MethodSets.{DeclaresBy, HasMembers, Member, members}
use Rattle.gno_terms.specs.declared.term.DefinitionOf.{DefinitionOf}
use Rattle.gno_terms.specs.declared.term.GoType.{GoType}
use Rattle.gno_terms.specs.declared.term.MethodOf.{MethodOf}
use Rattle.gno_terms.specs.declared.term.TermOf.{TermOf}
use Rattle.gno_terms.specs.declared.term.TermOf.TheVariants as t
use Rattle.gno_terms.specs.Tables.{Table, Defines, Underlying, UnderlyingBy}
use Rattle.gno_terms.specs.Terms.{term_of}

-- a type has one definition
abbrev pub IsOneDefinition : Table → Type 0
IsOneDefinition table = (d e : DefinitionOf GoType) → Defines table d → Defines table e → d.of ≡ e.of → d ≡ e

pub some_or : {A : Type 0} → A → Option A → A
some_or a None = a
some_or a (Some b) = b

pub some_eq : {A : Type 0} {a b : A} → Some a ≡ Some b → a ≡ b
unfolding some_or
some_eq {A} {a} e = ap (some_or a) e

-- the last step of a way
pub record Step (table : Table) (s : GoType) (place : ℕ) (path : List ℕ) (followed : Bool) (v : GoType) : Type 0 where
  pub before : Bool
  pub pointer : Bool
  pub by : GoType
  pub leads : Leads table s path before by
  pub embeds : Embeds table by place pointer v
  pub or : followed ≡ (before || pointer)

abbrev LeadsBy : Table → GoType → List ℕ → Bool → GoType → Type 0
LeadsBy table s [] followed u = (followed ≡ false) × (u ≡ s)
LeadsBy table s (place ∷ path) followed u = Step table s place path followed u

leads_by : {table : Table} {s : GoType} {path : List ℕ} {followed : Bool} {u : GoType} → Leads table s path followed u → LeadsBy table s path followed u
leads_by here = (refl, refl)
leads_by (along {path} {followed} {u} place pointer v leads embeds) = record { before = followed; pointer = pointer; by = u; leads = leads; embeds = embeds; or = refl }

pub to_itself : {table : Table} {s : GoType} {followed : Bool} {u : GoType} → Leads table s [] followed u → u ≡ s
to_itself leads = (leads_by leads).1

module _ (table : Table) (one : IsOneDefinition table) where
  underlying_by : (s u v : GoType) (x : TermOf GoType) → UnderlyingBy table s u x → UnderlyingBy table s v x → u ≡ v
  underlying_by s u v (t.Defined path name local) a b = sym a.3 ∙ ap (λ d. d.underlying) (one a.0 b.0 a.1 b.1 (a.2 ∙ sym b.2)) ∙ b.3
  underlying_by s u v t.Error a b = a ∙ sym b
  underlying_by s u v (t.Basic kind) a b = a ∙ sym b
  underlying_by s u v t.UntypedBool a b = a ∙ sym b
  underlying_by s u v t.UntypedWhole a b = a ∙ sym b
  underlying_by s u v t.UntypedRune a b = a ∙ sym b
  underlying_by s u v t.UntypedText a b = a ∙ sym b
  underlying_by s u v t.UntypedNil a b = a ∙ sym b
  underlying_by s u v t.Realm a b = a ∙ sym b
  underlying_by s u v (t.Pointer p) a b = a ∙ sym b
  underlying_by s u v (t.Slice p) a b = a ∙ sym b
  underlying_by s u v (t.Array n p) a b = a ∙ sym b
  underlying_by s u v (t.Map p q) a b = a ∙ sym b
  underlying_by s u v (t.Function ps variadic rs) a b = a ∙ sym b
  underlying_by s u v (t.Struct fs) a b = a ∙ sym b
  underlying_by s u v (t.Interface ms) a b = a ∙ sym b

  one_underlying : (s u v : GoType) → Underlying table s u → Underlying table s v → u ≡ v
  one_underlying s u v = underlying_by s u v (term_of s)

  declared_by : (s : GoType) (ms ns : List (MethodOf GoType)) (x : TermOf GoType) → DeclaresBy table s ms x → DeclaresBy table s ns x → ms ≡ ns
  declared_by s ms ns (t.Defined path name local) a b = a.3 ∙ ap (λ d. d.methods) (one a.0 b.0 a.1 b.1 (a.2 ∙ sym b.2)) ∙ sym b.3
  declared_by s ms ns t.Error a b = a ∙ sym b
  declared_by s ms ns (t.Basic kind) a b = a ∙ sym b
  declared_by s ms ns t.UntypedBool a b = a ∙ sym b
  declared_by s ms ns t.UntypedWhole a b = a ∙ sym b
  declared_by s ms ns t.UntypedRune a b = a ∙ sym b
  declared_by s ms ns t.UntypedText a b = a ∙ sym b
  declared_by s ms ns t.UntypedNil a b = a ∙ sym b
  declared_by s ms ns t.Realm a b = a ∙ sym b
  declared_by s ms ns (t.Pointer p) a b = a ∙ sym b
  declared_by s ms ns (t.Slice p) a b = a ∙ sym b
  declared_by s ms ns (t.Array n p) a b = a ∙ sym b
  declared_by s ms ns (t.Map p q) a b = a ∙ sym b
  declared_by s ms ns (t.Function ps variadic rs) a b = a ∙ sym b
  declared_by s ms ns (t.Struct fs) a b = a ∙ sym b
  declared_by s ms ns (t.Interface ks) a b = a ∙ sym b

  -- the members of a type are these alone
  pub one_members : (s u : GoType) (ms ns : List Member) → s ≡ u → HasMembers table s ms → HasMembers table u ns → ms ≡ ns
  one_members s u ms ns same a h =
      let b : HasMembers table s ns = subst (λ v. HasMembers table v ns) (sym same) h in
      a.are ∙ ap₂ (λ ds v. members ds (term_of v)) (declared_by s a.declared b.declared (term_of s) a.declares b.declares) (one_underlying s a.underlying b.underlying a.by b.by) ∙ sym b.are

  abbrev Same : GoType → Bool → GoType → Bool → Type 0
  Same u followed v followed-2 = (u ≡ v) × (followed ≡ followed-2)

  one_embedded : (s u v w : GoType) (place : ℕ) (p q : Bool) → s ≡ u → Embeds table s place p v → Embeds table u place q w → Same v p w q
  one_embedded s u v w place p q same a h =
      let b : Embeds table s place q w = subst (λ z. Embeds table z place q w) (sym same) h in
      let under = one_underlying s a.underlying b.underlying a.by b.by in
      let field : a.field ≡ b.field = some_eq (sym a.at ∙ ap (λ z. slice_get (fields_in (term_of z)) place) under ∙ b.at) in
      (sym a.to ∙ ap (λ f. base f.of) field ∙ b.to, sym a.is_pointer ∙ ap (λ f. is_pointer (term_of f.of)) field ∙ b.is_pointer)

  -- a path leads to one type
  pub one_way : (s : GoType) (path : List ℕ) (f g : Bool) (u v : GoType) → Leads table s path f u → Leads table s path g v → Same u f v g
  one_way s [] f g u v a b =
      let x = leads_by a in
      let y = leads_by b in
      (x.1 ∙ sym y.1, x.0 ∙ sym y.0)
  one_way s (place ∷ path) f g u v a b =
      let x : Step table s place path f u = leads_by a in
      let y : Step table s place path g v = leads_by b in
      let h = one_way s path x.before y.before x.by y.by x.leads y.leads in
      let k = one_embedded x.by y.by u v place x.pointer y.pointer h.0 x.embeds y.embeds in
      (k.0, x.or ∙ ap₂ (λ c d. c || d) h.1 k.1 ∙ sym y.or)
