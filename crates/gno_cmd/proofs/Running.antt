-- A session that has come so far, item by item.
use Rattle.std.proofs.Common.{◌≡◌, ℕ, ◌+◌, ◌≤◌, ◌<◌, suc, List, [], ◌∷◌, ◌++◌, append_assoc, ap, ◌∙◌, refl, sym, subst, arith, drop, get_or, length, add-one, drop-cons}
use Rattle.std.specs.Prelude.{Bool, true, false, ◌&&◌}
use Rattle.std.proofs.lemmas.List.{append-nil}
use Rattle.gno_script.specs.declared.item.Item.{Item}
use Rattle.gno_script.specs.declared.item.Item.TheVariants.{Add, Call, Reload}
use Rattle.gno_items.specs.declared.memory.Package.{Package}
use Rattle.gno_items.specs.Session.{IsSessionFrom, Replied, Replies, Session, behind, no_items}

and_assoc : (a b c : Bool) → (a && b) && c ≡ a && (b && c)
and_assoc true b c = refl
and_assoc false b c = refl

and_true : (a : Bool) → a ≡ a && true
and_true true = refl
and_true false = refl

-- the items say this, and so many are numbered after them
abbrev pub ComesTo : List Package → ℕ → List Item → Session → ℕ → Type 0
ComesTo memory done [] session done' = (session ≡ no_items memory) × (done' ≡ done)
ComesTo memory done (item ∷ items) session done' =
    (reply : Replied) × (rest : Session) × Replies memory done item reply × ComesTo reply.memory reply.done items rest done' × (session ≡ behind reply rest)

pub is_session : (memory : List Package) (done : ℕ) (items : List Item) (session : Session) (done' : ℕ) → ComesTo memory done items session done' → IsSessionFrom memory done items session
is_session memory done [] session done' h = h.0
is_session memory done (item ∷ items) session done' (reply, rest, r, k, e) = (reply, rest, r, is_session reply.memory reply.done items rest done' k, e)

-- one more item
abbrev pub pushed : Session → Replied → Session
pushed session reply = record { text = session.text ++ reply.text; good = session.good && reply.good; memory = reply.memory }

pub comes_push : (memory : List Package) (done : ℕ) (items : List Item) (session : Session) (done' : ℕ) (item : Item) (reply : Replied) →
    ComesTo memory done items session done' → Replies session.memory done' item reply → ComesTo memory done (items ++ item ∷ []) (pushed session reply) reply.done
comes_push memory done [] session done' item reply h r =
    let same : Replies memory done item reply = subst (λ (s : Session). Replies s.memory done item reply) h.0 (subst (λ (n : ℕ). Replies session.memory n item reply) h.1 r) in
    let is : pushed session reply ≡ behind reply (no_items reply.memory) =
    ap (λ (s : Session). pushed s reply) h.0 ∙ (λ i. record { text = sym (append-nil reply.text) i; good = and_true reply.good i; memory = reply.memory }) in
    (reply, no_items reply.memory, same, (refl, refl), is)
comes_push memory done (first ∷ items) session done' item reply (front, rest, f, k, e) r =
    let later : Replies rest.memory done' item reply = subst (λ (s : Session). Replies s.memory done' item reply) e r in
    let is : pushed session reply ≡ behind front (pushed rest reply) =
    ap (λ (s : Session). pushed s reply) e ∙ (λ i. record { text = append_assoc front.text rest.text reply.text i; good = and_assoc front.good rest.good reply.good i; memory = reply.memory }) in
    (front, pushed rest reply, f, comes_push front.memory front.done items rest done' item reply k later, is)

pub done_step : (memory : List Package) (done : ℕ) (item : Item) (reply : Replied) → Replies memory done item reply → reply.done ≤ done + 1
done_step memory done (Add budget caller path file) reply (end, a, e) = let d : reply.done ≡ done + 1 = ap (λ (r : Replied). r.done) e in omega (arith, d)
done_step memory done (Call budget caller path function) reply e = let d : reply.done ≡ done + 1 = ap (λ (r : Replied). r.done) e in omega (arith, d)
done_step memory done Reload reply e = let d : reply.done ≡ done = ap (λ (r : Replied). r.done) e in omega (arith, d)

pub at_item : (items : List Item) (at : ℕ) (item : Item) → at < length items → item ≡ get_or items at item → drop at items ≡ item ∷ drop (at + 1) items
at_item items at item h e = rw (add-one, drop-cons items at item) (ap (λ i. i ∷ drop (suc at) items) (sym e))
