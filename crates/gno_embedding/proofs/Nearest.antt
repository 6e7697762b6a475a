-- Where the shortest paths lead.
use Rattle.std.proofs.Common.{◌≡◌, sym, ap, ◌∙◌, subst, ℕ, zero, suc, ◌<◌, ◌≤◌, List, [], ◌∷◌, Bool, false, Some, length, arith, inl}
use Rattle.std.specs.Prelude.{slice_get}
use Rattle.std.proofs.lemmas.Option.{same_Some}
use Rattle.gno_terms.specs.declared.term.GoType.{GoType}
use Rattle.gno_terms.specs.Tables.{Table}
use Rattle.gno_embedding.specs.declared.ways.Reached.{Reached}
use Rattle.gno_embedding.specs.Embedding.{Leads}
use Rattle.gno_embedding.specs.Walking.{IsMetPath, IsNear, IsWalk}
use Rattle.gno_embedding.proofs.Paths.{along_of, nothing_of}

-- one number is below another, or not
pub data Order (a b : ℕ) : Type 0 where
  below : a < b → Order a b
  above : b ≤ a → Order a b

suc_order : (a b : ℕ) → Order a b → Order (suc a) (suc b)
suc_order a b (below w) = below (omega (arith, w))
suc_order a b (above w) = above (omega (arith, w))

pub order : (a b : ℕ) → Order a b
order a zero = above (omega arith)
order zero (suc b) = below (omega arith)
order (suc a) (suc b) = suc_order a b (order a b)

pub one_place : {A : Type 0} (xs : List A) (i j : ℕ) {a b : A} → slice_get xs i ≡ Some a → slice_get xs j ≡ Some b → i ≡ j → a ≡ b
one_place xs i j {a} {b} p q e = same_Some a b (sym p ∙ ap (slice_get xs) e ∙ q)

module _ (table : Table) (s : GoType) (nodes : List Reached) (types : List GoType) (m i : ℕ) (walk : IsWalk table s nodes types m i) where
  -- where each node that is less deep than d was met whole
  module _ (d : ℕ) (done : (k : ℕ) (it : Reached) → slice_get nodes k ≡ Some it → it.depth < d → k < m) where
    pub nearest : (p : List ℕ) (f : Bool) (x : GoType) → Leads table s p f x → length p ≤ d → IsNear nodes types (length p) x
    nearest [] f x l w = record {
      number = 0;
      node = walk.first;
      at = walk.first_at;
      type = walk.first_type ∙ ap Some (sym (nothing_of table s f x l).1);
      near = (let e = walk.first_depth in omega arith);
    }
    nearest (q ∷ qs) f x l w =
        let a = along_of table s q qs f x l in
        let n = nearest qs a.before a.by a.leads (omega (arith, w)) in
        let low = n.near in
        let c = walk.closed n.number n.node a.by q a.pointer x n.at n.type (inl (done n.number n.node n.at (omega (arith, w, low)))) a.embeds in
        let near = c.near in
        record { number = c.number; node = c.node; at = c.at; type = c.type; near = omega (arith, near, low) }

    pub all_met : (p : List ℕ) → length p ≤ d → IsMetPath table s types m i p
    all_met p w place rest f y e l =
        let long : length p ≡ suc (length rest) = ap length e in
        let n = nearest rest f y l (omega (arith, w, long)) in
        let low = n.near in
        (n.number, n.type, inl (done n.number n.node n.at (omega (arith, w, long, low))))

  -- what is known of the node that is being met
  module _ (now : Reached) (u : GoType) (at : slice_get nodes m ≡ Some now) (is : slice_get types m ≡ Some u) where
    before_by : (k : ℕ) (it : Reached) → Order k m → slice_get nodes k ≡ Some it → it.depth < now.depth → k < m
    before_by k it (below w) h lt = w
    before_by k it (above w) h lt = absurd (let r = walk.rises m k now it at h w in omega (arith, r, lt))

    before : (k : ℕ) (it : Reached) → slice_get nodes k ≡ Some it → it.depth < now.depth → k < m
    before k it h lt = before_by k it (order k m) h lt

    far_by : (p : List ℕ) → Order (length p) now.depth → (f : Bool) → Leads table s p f u → now.depth ≤ length p
    far_by p (above w) f l = w
    far_by p (below w) f l =
        let n = nearest now.depth before p f u l (omega (arith, w)) in
        let same : n.node ≡ now = one_place nodes n.number m n.at at (walk.once n.number m u n.type is) in
        subst (λ (z : Reached). z.depth ≤ length p) same n.near

    pub far : (p : List ℕ) (f : Bool) → Leads table s p f u → now.depth ≤ length p
    far p f l = far_by p (order (length p) now.depth) f l

    pub full : now.twice ≡ false → (p : List ℕ) (f : Bool) → Leads table s p f u → length p ≡ now.depth → p ≡ (walk.each m now u at is).path
    full t p f l e = (walk.each m now u at is).once t p f l e (all_met now.depth before p (omega (arith, e)))
