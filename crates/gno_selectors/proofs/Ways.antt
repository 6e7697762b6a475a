-- The ways that steps back tell, and where they lead.
use Rattle.std.proofs.Common.{◌≡◌, refl, sym, ap, ◌∙◌, subst, ℕ, zero, suc, List, [], ◌∷◌, ◌++◌, append_assoc, Bool, false, ◌||◌, Some, length, map, reverse, arith}
use Rattle.std.specs.Prelude.{slice_get}
use Rattle.std.proofs.lemmas.List.{append-nil, length-reverse, map-append, reverse-append}
use Rattle.std.proofs.lemmas.Option.{same_Some}
use Rattle.gno_embedding.proofs.Opened.{same_size}
use Rattle.gno_embedding.specs.Embedding.{Embeds, Leads, along, here}
use Rattle.gno_embedding.specs.Reaching.{IsNumbered, IsStep}
use Rattle.gno_embedding.specs.declared.ways.Reached.{Reached}
use Rattle.gno_selectors.specs.Selectors.{Passes, path_of, place_of}
use Rattle.gno_selectors.specs.Standings.{GoesFrom}
use Rattle.gno_selectors.specs.declared.selection.Passed.{Passed}
use Rattle.gno_terms.specs.declared.term.GoType.{GoType}
use Rattle.gno_terms.specs.Tables.{Table}

-- a number stands for one type
numbered_one : (table : Table) (s : GoType) (its : List Reached) (n d e : ℕ) (u v : GoType) → IsNumbered table s its n d u → IsNumbered table s its n e v → (d ≡ e) × (u ≡ v)
numbered_one table s its zero d e u v a b = (a.1 ∙ sym b.1, a.0 ∙ sym b.0)
numbered_one table s its (suc k) d e u v a b =
    let same : a.0 ≡ b.0 = same_Some a.0 b.0 (sym a.1 ∙ b.1) in
    (sym a.3 ∙ ap (λ (z : Reached). z.depth) same ∙ b.3, same_Some u v (sym a.2 ∙ ap (λ (z : Reached). slice_get table.types z.of.0) same ∙ b.2))

pub goes_nowhere : (its : List Reached) (n : ℕ) → GoesFrom its n n []
goes_nowhere its n table s steps d e u v a b = (let h = numbered_one table s its n d e u v a b in (sym h.1, (let w = h.0 in omega (arith, w))))

module _ (its : List Reached) (to : ℕ) (n : ℕ) (it : Reached) (at : slice_get its n ≡ Some it) where
  abbrev step : Passed
  step = record { place = it.place; pointer = it.pointer }

  -- one step back
  goes_further : (way : List Passed) → GoesFrom its (suc n) to way → GoesFrom its it.from to (step ∷ way)
  goes_further way goes table s steps d e u v a b =
      let back : IsStep table s its n it = steps n it at in
      let same = numbered_one table s its it.from d back.depth u back.by a back.from in
      let far = goes table s steps it.depth e back.type v (it, at, back.is, refl) b in (
        (back.type, subst (λ z. Embeds table z it.place it.pointer back.type) (sym same.1) back.embeds, far.0),
        (let x = same.0 in let y = back.deeper in let z = far.1 in omega (arith, x, y, z)),
      )

  pub goes_back : (way : List Passed) → GoesFrom its (suc n) to (reverse way) → GoesFrom its it.from to (reverse (way ++ step ∷ []))
  goes_back way goes = subst (GoesFrom its it.from to) (sym (reverse-append way (step ∷ []))) (goes_further (reverse way) goes)

pub goes_on : (its : List Reached) (to number n : ℕ) (it : Reached) (way : List Passed) → number ≡ suc n → slice_get its n ≡ Some it → GoesFrom its number to (reverse way) → GoesFrom its it.from to (reverse (way ++ record { place = it.place; pointer = it.pointer } ∷ []))
goes_on its to number n it way e at goes = goes_back its to n it at way (subst (λ k. GoesFrom its k to (reverse way)) e goes)

-- the fields that are passed are a path
leads_on : (table : Table) (s : GoType) (way : List Passed) (u v : GoType) (path : List ℕ) (f : Bool) → Leads table s path f u → Passes table u way v → (g : Bool) × Leads table s (map place_of (reverse way) ++ path) g v
leads_on table s [] u v path f leads passes = (f, subst (Leads table s path f) (sym passes) leads)
leads_on table s (p ∷ way) u v path f leads passes =
    let far = leads_on table s way passes.0 v (p.place ∷ path) (f || p.pointer) (along p.place p.pointer passes.0 leads passes.1) passes.2 in
    let same : map place_of (reverse (p ∷ way)) ++ path ≡ map place_of (reverse way) ++ p.place ∷ path =
    ap (λ ps. map place_of ps ++ path) (reverse-append (p ∷ []) way) ∙ ap (λ ns. ns ++ path) (map-append place_of (reverse way) (p ∷ [])) ∙ append_assoc (map place_of (reverse way)) (p.place ∷ []) path in
    (far.0, subst (λ ns. Leads table s ns far.0 v) (sym same) far.1)

pub leads_to : (table : Table) (s : GoType) (way : List Passed) (u : GoType) → Passes table s way u → (f : Bool) × Leads table s (path_of way) f u
leads_to table s way u passes =
    let far = leads_on table s way s u [] false here passes in
    (far.0, subst (λ ns. Leads table s ns far.0 u) (append-nil (path_of way)) far.1)

pub path_size : (way : List Passed) → length (path_of way) ≡ length way
path_size way = same_size place_of (reverse way) ∙ length-reverse way
