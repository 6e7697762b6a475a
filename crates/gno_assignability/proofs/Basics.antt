-- Basic types have no methods.
use Rattle.std.proofs.Common.{◌≡◌, ap, ◌∙◌, subst, ℕ, List, [], ◌∷◌, Bool, Some, rules}
use Rattle.std.specs.Prelude.{slice_get}
use Rattle.gno_base.specs.declared.kind.Kind.{Kind}
use Rattle.gno_embedding.proofs.Paths.{along_of, nothing_of}
use Rattle.gno_embedding.specs.Embedding.{Embeds, Leads, base, base_by, fields_in}
use Rattle.gno_method_sets.specs.Implementing.{HasMethod}
use Rattle.gno_promotion.specs.MethodSets.{DeclaresBy, HasMembers, Member, members}
use Rattle.gno_terms.specs.Tables.{Table, Underlying, UnderlyingBy}
use Rattle.gno_terms.specs.Terms.{term_of}
use Rattle.gno_terms.specs.declared.term.GoType.{GoType}
use Rattle.gno_terms.specs.declared.term.MethodOf.{MethodOf}
use Rattle.gno_terms.specs.declared.term.TermOf.TheVariants as t

module _ (table : Table) (s : GoType) (kind : Kind) (e : term_of s ≡ t.Basic kind) where
  itself : (u : GoType) → Underlying table s u → term_of u ≡ t.Basic kind
  itself u by = ap term_of (subst (UnderlyingBy table s u) e by) ∙ e

  none_in : {A : Type 0} (xs : List A) (k : ℕ) (x : A) → xs ≡ [] → slice_get xs k ≡ Some x → ⊥
  none_in [] k x f g = search (rules, g)
  none_in (y ∷ xs) k x f g = search (rules, f)

  no_embedded : (place : ℕ) (pointer : Bool) (u : GoType) → Embeds table s place pointer u → ⊥
  no_embedded place pointer u h = none_in (fields_in (term_of h.underlying)) place h.field (ap fields_in (itself h.underlying h.by)) h.at

  leads_to_itself : (path : List ℕ) (followed : Bool) (u : GoType) → Leads table s path followed u → u ≡ s
  leads_to_itself [] followed u l = (nothing_of table s followed u l).1
  leads_to_itself (q ∷ qs) followed u l =
      let a = along_of table s q qs followed u l in
      absurd (no_embedded q a.pointer u (subst (λ (x : GoType). Embeds table x q a.pointer u) (leads_to_itself qs a.before a.by a.leads) a.embeds))

  no_members : (ms : List Member) → HasMembers table s ms → ms ≡ []
  no_members ms h = h.are
      ∙ ap (λ (d : List (MethodOf GoType)). members d (term_of h.underlying)) (subst (DeclaresBy table s h.declared) e h.declares)
      ∙ ap (members []) (itself h.underlying h.by)

  pub no_method : (w : MethodOf GoType) → HasMethod table s w → ⊥
  no_method w h =
      let p = h.in_set.promoted in
      let at_base : base s ≡ s = ap (base_by s) e in
      let of_is : p.entry.of ≡ s = leads_to_itself p.path h.in_set.followed p.entry.of (subst (λ (x : GoType). Leads table x p.path h.in_set.followed p.entry.of) at_base p.entry.leads) in
      none_in p.entry.members p.place _ (no_members p.entry.members (subst (λ (x : GoType). HasMembers table x p.entry.members) of_is p.entry.has)) p.entry.at
