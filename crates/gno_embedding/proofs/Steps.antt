-- A field is met.
use Rattle.std.proofs.Common.{◌≡◌, ◌≢◌, refl, sym, ap, ◌∙◌, subst, ℕ, suc, ◌+◌, ◌<◌, ◌≤◌, List, [], ◌∷◌, ◌++◌, Bool, true, false, ◌||◌, Some, length, length-append, arith, inl, inr, rules}
use Rattle.std.specs.Prelude.{slice_get, slice_set}
use Rattle.std.proofs.lemmas.Option.{same_Some, slice_get_within}
use Rattle.gno_layouts.proofs.Ends.{get_left, get_last, Where, inside, last, get_where, some_at}
use Rattle.gno_layouts.proofs.SetAt.{set_size, set_here, set_elsewhere, Same, here, elsewhere, where_is}
use Rattle.gno_terms.specs.declared.term.GoType.{GoType}
use Rattle.gno_terms.specs.declared.term.TypeRef.{TypeRef}
use Rattle.gno_terms.specs.Tables.{Table, Is}
use Rattle.gno_embedding.specs.declared.ways.Reached.{Reached}
use Rattle.gno_embedding.specs.Embedding.{Embeds, Leads, along}
use Rattle.gno_embedding.specs.Walking.{HasOneDefinition, IsBehind, IsMet, IsMetPath, IsNear, IsNode, IsWalk}
use Rattle.gno_embedding.proofs.Paths.{along_of, same_embeds, same_leads, tail_is, head_is}
use Rattle.gno_embedding.proofs.Nearest.{Order, below, above, order, one_place, far, full}

-- a field that is met now, or was before
data Met (m i k place : ℕ) : Type 0 where
  old : IsMet m i k place → Met m i k place
  new : k ≡ m → place ≡ i → Met m i k place

met_at : (m i k place : ℕ) → k ≡ m → place < i + 1 → Order place i → Met m i k place
met_at m i k place e w (below lt) = old (inr (e, lt))
met_at m i k place e w (above le) = new e (omega (arith, w, le))

met_now : (m i k place : ℕ) → IsMet m (i + 1) k place → Met m i k place
met_now m i k place (inl w) = old (inl w)
met_now m i k place (inr h) = met_at m i k place h.0 h.1 (order place i)

met_later : (m i k place : ℕ) → IsMet m i k place → IsMet m (i + 1) k place
met_later m i k place (inl w) = inl w
met_later m i k place (inr h) = inr (h.0, let w = h.1 in omega (arith, w))

met_within : (m i k place : ℕ) → IsMet m i k place → k ≤ m
met_within m i k place (inl w) = omega (arith, w)
met_within m i k place (inr h) = (let e = h.0 in omega (arith, e))

not_before : (m i : ℕ) → IsMet m i m i → ⊥
not_before m i (inl w) = omega (arith, w)
not_before m i (inr h) = (let w = h.1 in omega (arith, w))

deeper : (nodes : List Reached) (types : List GoType) (d e : ℕ) (x : GoType) → d ≤ e → IsNear nodes types d x → IsNear nodes types e x
deeper nodes types d e x w n = record { number = n.number; node = n.node; at = n.at; type = n.type; near = (let low = n.near in omega (arith, w, low)) }

module _ (table : Table) (one : HasOneDefinition table) (s : GoType) (nodes : List Reached) (types : List GoType) (m i : ℕ) (walk : IsWalk table s nodes types m i)
    (now : Reached) (u : GoType) (at : slice_get nodes m ≡ Some now) (is : slice_get types m ≡ Some u) where
  -- no other field leads to this node by as few steps
  abbrev pub IsApart : Reached → GoType → Type 0
  IsApart it x = (pointer : Bool) → Embeds table u i pointer x → it.depth ≡ now.depth + 1 → ⊥

  module _ (later : List GoType) (wider : (k : ℕ) (x : GoType) → slice_get types k ≡ Some x → slice_get later k ≡ Some x)
      (same : (k : ℕ) (x : GoType) → k ≤ m → slice_get later k ≡ Some x → slice_get types k ≡ Some x) where
    was_by : (k : ℕ) (it : Reached) (x : GoType) → slice_get nodes k ≡ Some it → IsApart it x → (p : List ℕ) (f : Bool) → Leads table s p f x → length p ≡ it.depth
        → (place : ℕ) (rest : List ℕ) (g : Bool) (y : GoType) → p ≡ place ∷ rest → Leads table s rest g y → (j : ℕ) → slice_get later j ≡ Some y → Met m i j place → (n : ℕ) × (slice_get types n ≡ Some y) × IsMet m i n place
    was_by k it x there apart p f l long place rest g y e leads j h (old met) = (j, same j y (met_within m i j place met) h, met)
    was_by k it x there apart p f l long place rest g y e leads j h (new a b) =
        let to_u : y ≡ u = one_place types j m (same j y (omega (arith, a)) h) is a in
        let step = along_of table s place rest f x (subst (λ q. Leads table s q f x) e l) in
        let from = same_leads table one s rest step.before g step.by y step.leads leads in
        let embeds : Embeds table u i step.pointer x = subst (λ z. Embeds table z i step.pointer x) (from.1 ∙ to_u) (subst (λ n. Embeds table step.by n step.pointer x) b step.embeds) in
        let least : now.depth ≤ length rest = far table s nodes types m i walk now u at is rest g (subst (λ z. Leads table s rest g z) to_u leads) in
        let most : it.depth ≤ now.depth + 1 = walk.near k it now there at in
        let size : length p ≡ suc (length rest) = ap length e in
        absurd (apart step.pointer embeds (omega (arith, least, most, size, long)))

    was : (k : ℕ) (it : Reached) (x : GoType) → slice_get nodes k ≡ Some it → IsApart it x → (p : List ℕ) (f : Bool) → Leads table s p f x → length p ≡ it.depth → IsMetPath table s later m (i + 1) p → IsMetPath table s types m i p
    was k it x there apart p f l long met place rest g y e leads =
        let h = met place rest g y e leads in
        was_by k it x there apart p f l long place rest g y e leads h.0 h.1 (met_now m i h.0 place h.2)

    still : (p : List ℕ) → IsMetPath table s types m i p → IsMetPath table s later m (i + 1) p
    still p met place rest g y e leads =
        let h = met place rest g y e leads in
        (h.0, wider h.0 y h.1, met_later m i h.0 place h.2)

    -- a node that the field does not reach
    stays : (k : ℕ) (it : Reached) (x : GoType) → slice_get nodes k ≡ Some it → slice_get types k ≡ Some x → IsApart it x → IsNode table s later m (i + 1) it x
    stays k it x there type apart =
        let node = walk.each k it x there type in
        record {
          path = node.path;
          leads = node.leads;
          depth = node.depth;
          met = still node.path node.met;
          once = λ t p f l e met. node.once t p f l e (was k it x there apart p f l e met);
          twice = node.twice;
        }

  -- the field leads to no node, or to one that is not deeper than this
  module _ (edge : (pointer : Bool) (v : GoType) → Embeds table u i pointer v → IsNear nodes types now.depth v) where
    apart_near : (k : ℕ) (it : Reached) (x : GoType) → slice_get nodes k ≡ Some it → slice_get types k ≡ Some x → IsApart it x
    apart_near k it x there type pointer embeds deep =
        let n = edge pointer x embeds in
        let node : n.node ≡ it = one_place nodes n.number k n.at there (walk.once n.number k x n.type type) in
        let low : it.depth ≤ now.depth = subst (λ (z : Reached). z.depth ≤ now.depth) node n.near in
        omega (arith, low, deep)

    closed_near : (k : ℕ) (it : Reached) (x : GoType) (place : ℕ) (pointer : Bool) (v : GoType) → slice_get nodes k ≡ Some it → slice_get types k ≡ Some x → Met m i k place → Embeds table x place pointer v → IsNear nodes types (it.depth + 1) v
    closed_near k it x place pointer v there type (old met) embeds = walk.closed k it x place pointer v there type met embeds
    closed_near k it x place pointer v there type (new a b) embeds =
        let node : it ≡ now = one_place nodes k m there at a in
        let to_u : x ≡ u = one_place types k m type is a in
        let n = edge pointer v (subst (λ z. Embeds table z i pointer v) to_u (subst (λ n. Embeds table x n pointer v) b embeds)) in
        deeper nodes types now.depth (it.depth + 1) v (let e : it.depth ≡ now.depth = ap (λ (z : Reached). z.depth) node in omega (arith, e)) n

    pub passed : IsWalk table s nodes types m (i + 1)
    passed = record {
      first = walk.first;
      first_at = walk.first_at;
      first_depth = walk.first_depth;
      first_type = walk.first_type;
      size = walk.size;
      is = walk.is;
      once = walk.once;
      rises = walk.rises;
      low = walk.low;
      near = walk.near;
      each = λ k it x there type. stays types (λ j y h. h) (λ j y w h. h) k it x there type (apart_near k it x there type);
      closed = λ k it x place pointer v there type met embeds. closed_near k it x place pointer v there type (met_now m i k place met) embeds;
      chain = walk.chain;
      known = walk.known;
    }

  -- the field leads to a type by one step more than to this
  module _ (pointer : Bool) (v : GoType) (embeds : Embeds table u i pointer v) where
    only : (q : Bool) (w : GoType) → Embeds table u i q w → w ≡ v
    only q w e = (same_embeds table one u i q pointer w v e embeds).1

    abbrev pub node : IsNode table s types m i now u
    node = walk.each m now u at is

    new_leads : Leads table s (i ∷ node.path) (now.followed || pointer) v
    new_leads = along i pointer v node.leads embeds

    -- a way that was met before is another
    is_new : (p : List ℕ) → IsMetPath table s types m i p → i ∷ node.path ≡ p → ⊥
    is_new p met e =
        let h = met i node.path now.followed u (sym e) node.leads in
        not_before m i (subst (λ k. IsMet m i k i) (walk.once h.0 m u h.1 is) h.2)

    -- it is one that was met
    module _ (n : ℕ) (it : Reached) (there : slice_get nodes n ≡ Some it) (type : slice_get types n ≡ Some v) (deep : it.depth ≡ now.depth + 1) where
      abbrev it' : Reached
      it' = record it { twice = true }

      abbrev nodes' : List Reached
      nodes' = slice_set nodes n it'

      -- a node is as it was, or it is this one
      data Was (k : ℕ) (j : Reached) : Type 0 where
        other : (k ≡ n → ⊥) → slice_get nodes k ≡ Some j → Was k j
        marked_now : k ≡ n → j ≡ it' → Was k j

      was_at : (k : ℕ) (j : Reached) → Same k n → slice_get nodes' k ≡ Some j → Was k j
      was_at k j (here e) h = marked_now e (same_Some j it' (sym h ∙ ap (slice_get nodes') e ∙ set_here nodes n it' (slice_get_within nodes n it there)))
      was_at k j (elsewhere f) h = other f (sym (set_elsewhere nodes n it' k f) ∙ h)

      record IsLike (xs : List Reached) (k : ℕ) (j : Reached) : Type 0 where
        pub like : Reached
        pub like_at : slice_get xs k ≡ Some like
        pub like_depth : like.depth ≡ j.depth
        pub like_of : like.of ≡ j.of
        pub like_from : like.from ≡ j.from
        pub like_place : like.place ≡ j.place
        pub like_pointer : like.pointer ≡ j.pointer

      like_itself : (xs : List Reached) (k : ℕ) (j : Reached) → slice_get xs k ≡ Some j → IsLike xs k j
      like_itself xs k j h = record { like = j; like_at = h; like_depth = refl; like_of = refl; like_from = refl; like_place = refl; like_pointer = refl }

      back_by : (k : ℕ) (j : Reached) → Was k j → IsLike nodes k j
      back_by k j (other f h) = like_itself nodes k j h
      back_by k j (marked_now e h) = record {
        like = it;
        like_at = ap (slice_get nodes) e ∙ there;
        like_depth = ap (λ (z : Reached). z.depth) (sym h);
        like_of = ap (λ (z : Reached). z.of) (sym h);
        like_from = ap (λ (z : Reached). z.from) (sym h);
        like_place = ap (λ (z : Reached). z.place) (sym h);
        like_pointer = ap (λ (z : Reached). z.pointer) (sym h);
      }

      back : (k : ℕ) (j : Reached) → slice_get nodes' k ≡ Some j → IsLike nodes k j
      back k j h = back_by k j (was_at k j (where_is k n) h)

      front_by : (k : ℕ) (j : Reached) → Same k n → slice_get nodes k ≡ Some j → IsLike nodes' k j
      front_by k j (elsewhere f) h = like_itself nodes' k j (set_elsewhere nodes n it' k f ∙ h)
      front_by k j (here e) h =
          let same : it ≡ j = one_place nodes n k there h (sym e) in
          record {
            like = it';
            like_at = ap (slice_get nodes') e ∙ set_here nodes n it' (slice_get_within nodes n it there);
            like_depth = ap (λ (z : Reached). z.depth) same;
            like_of = ap (λ (z : Reached). z.of) same;
            like_from = ap (λ (z : Reached). z.from) same;
            like_place = ap (λ (z : Reached). z.place) same;
            like_pointer = ap (λ (z : Reached). z.pointer) same;
          }

      front : (k : ℕ) (j : Reached) → slice_get nodes k ≡ Some j → IsLike nodes' k j
      front k j h = front_by k j (where_is k n) h

      near_front : (d : ℕ) (x : GoType) → IsNear nodes types d x → IsNear nodes' types d x
      near_front d x a =
          let f = front a.number a.node a.at in
          record { number = a.number; node = f.like; at = f.like_at; type = a.type; near = (let e = f.like_depth in let low = a.near in omega (arith, e, low)) }

      each_by : (k : ℕ) (j : Reached) (x : GoType) → Was k j → slice_get types k ≡ Some x → IsNode table s types m (i + 1) j x
      each_by k j x (other f h) t = stays types (λ a b c. c) (λ a b c d. d) k j x h t (λ q e d. f (walk.once k n v (t ∙ ap Some (only q x e)) type))
      each_by k j x (marked_now e h) t =
          let to_v : x ≡ v = one_place types k n t type e in
          let old = walk.each n it v there type in
          subst (λ z. IsNode table s types m (i + 1) z x) (sym h) (subst (λ z. IsNode table s types m (i + 1) it' z) (sym to_v) (record {
            path = old.path;
            leads = old.leads;
            depth = old.depth;
            met = still types (λ a b c. c) (λ a b c d. d) old.path old.met;
            once = λ t. absurd (search (rules, t));
            twice = λ t. (i ∷ node.path, now.followed || pointer, new_leads, (let a = node.depth in omega (arith, a, deep)), is_new old.path old.met);
          }))

      closed_by : (k : ℕ) (it : Reached) (x : GoType) (place : ℕ) (q : Bool) (w : GoType) → slice_get nodes k ≡ Some it → slice_get types k ≡ Some x → Met m i k place → Embeds table x place q w → IsNear nodes types (it.depth + 1) w
      closed_by k j x place q w h t (old met) e = walk.closed k j x place q w h t met e
      closed_by k j x place q w h t (new a b) e =
          let same : j ≡ now = one_place nodes k m h at a in
          let to_u : x ≡ u = one_place types k m t is a in
          let to_v : w ≡ v = only q w (subst (λ z. Embeds table z i q w) to_u (subst (λ n. Embeds table x n q w) b e)) in
          record { number = n; node = it; at = there; type = type ∙ ap Some (sym to_v); near = (let f : j.depth ≡ now.depth = ap (λ (z : Reached). z.depth) same in omega (arith, f, deep)) }

      chain_like : (k : ℕ) (j : Reached) (x : GoType) → IsLike nodes k j → slice_get types k ≡ Some x → 0 < k → IsBehind table nodes' types k j x
      chain_like k j x l t w =
          let b = walk.chain k l.like x l.like_at t w in
          let f = front l.like.from b.node b.node_at in
          record {
            before = (let a = b.before in let e = l.like_from in omega (arith, a, e));
            node = f.like;
            node_at = ap (slice_get nodes') (sym l.like_from) ∙ f.like_at;
            deeper = (let a = b.deeper in let e = l.like_depth in let g = f.like_depth in omega (arith, a, e, g));
            by = b.by;
            at = ap (slice_get types) (sym l.like_from) ∙ b.at;
            embeds = subst (λ q. Embeds table b.by j.place q x) l.like_pointer (subst (λ n. Embeds table b.by n l.like.pointer x) l.like_place b.embeds);
          }

      first_like : IsLike nodes' 0 walk.first
      first_like = front 0 walk.first walk.first_at

      pub marked : IsWalk table s nodes' types m (i + 1)
      marked = record {
        first = first_like.like;
        first_at = first_like.like_at;
        first_depth = first_like.like_depth ∙ walk.first_depth;
        first_type = walk.first_type;
        size = walk.size ∙ sym (set_size nodes n it');
        is = λ k j x h t w. let b = back k j h in subst (λ (r : TypeRef). Is table r x) b.like_of (walk.is k b.like x b.like_at t w);
        once = walk.once;
        rises = λ a b x y p q w. (let c = back a x p in let d = back b y q in let e = walk.rises a b c.like d.like c.like_at d.like_at w in let f = c.like_depth in let g = d.like_depth in omega (arith, e, f, g));
        low = λ k j h. (let b = back k j h in let e = walk.low k b.like b.like_at in let f = b.like_depth in omega (arith, e, f));
        near = λ k j z h p. (let b = back k j h in let c = back m z p in let e = walk.near k b.like c.like b.like_at c.like_at in let f = b.like_depth in let g = c.like_depth in omega (arith, e, f, g));
        each = λ k j x h t. each_by k j x (was_at k j (where_is k n) h) t;
        closed = λ k j x place q w h t met e. let b = back k j h in near_front (j.depth + 1) w (subst (λ d. IsNear nodes types (d + 1) w) b.like_depth (closed_by k b.like x place q w b.like_at t (met_now m i k place met) e));
        chain = λ k j x h t w. chain_like k j x (back k j h) t w;
        known = walk.known;
      }

    -- it was not met before
    module _ (fresh : (k : ℕ) → slice_get types k ≡ Some v → ⊥) (t : TypeRef) (of : Is table t v) where
      abbrev found : Reached
      found = record { of = t; depth = now.depth + 1; followed = now.followed || pointer; twice = now.twice; from = m; place = i; pointer = pointer }

      abbrev more : List Reached
      more = nodes ++ found ∷ []

      abbrev types' : List GoType
      types' = types ++ v ∷ []

      within : m < length types
      within = slice_get_within types m u is

      wider' : (k : ℕ) (x : GoType) → slice_get types k ≡ Some x → slice_get types' k ≡ Some x
      wider' k x h = get_left types v k x h

      narrow_by : (k : ℕ) (x : GoType) → k ≤ m → Where types v k x → slice_get types k ≡ Some x
      narrow_by k x w (inside h) = h
      narrow_by k x w (last e h) = absurd (let l = within in omega (arith, w, e, l))

      narrow : (k : ℕ) (x : GoType) → k ≤ m → slice_get types' k ≡ Some x → slice_get types k ≡ Some x
      narrow k x w h = narrow_by k x w (get_where types v k x h)

      -- an old node with its type, or the new one
      data Both (k : ℕ) (j : Reached) (x : GoType) : Type 0 where
        both_old : slice_get nodes k ≡ Some j → slice_get types k ≡ Some x → Both k j x
        both_new : k ≡ length nodes → j ≡ found → x ≡ v → Both k j x

      both_by : (k : ℕ) (j : Reached) (x : GoType) → Where nodes found k j → Where types v k x → Both k j x
      both_by k j x (inside h) (inside e) = both_old h e
      both_by k j x (inside h) (last e f) = absurd (let w = slice_get_within nodes k j h in let z = walk.size in omega (arith, w, z, e))
      both_by k j x (last e f) (inside h) = absurd (let w = slice_get_within types k x h in let z = walk.size in omega (arith, w, z, e))
      both_by k j x (last e f) (last g h) = both_new e f h

      both : (k : ℕ) (j : Reached) (x : GoType) → slice_get more k ≡ Some j → slice_get types' k ≡ Some x → Both k j x
      both k j x h e = both_by k j x (get_where nodes found k j h) (get_where types v k x e)

      is_by : (k : ℕ) (j : Reached) (x : GoType) → Both k j x → 0 < k → Is table j.of x
      is_by k j x (both_old h e) w = walk.is k j x h e w
      is_by k j x (both_new e f g) w = subst (λ z. Is table j.of z) (sym g) (subst (λ (z : Reached). Is table z.of v) (sym f) of)

      once_by : (j k : ℕ) (x : GoType) → Where types v j x → Where types v k x → j ≡ k
      once_by j k x (inside a) (inside b) = walk.once j k x a b
      once_by j k x (inside a) (last e b) = absurd (fresh j (a ∙ ap Some b))
      once_by j k x (last e a) (inside b) = absurd (fresh k (b ∙ ap Some a))
      once_by j k x (last e a) (last f b) = e ∙ sym f

      deep_new : (j : Reached) → j ≡ found → j.depth ≡ now.depth + 1
      deep_new j e = ap (λ (z : Reached). z.depth) e

      rises_by : (j k : ℕ) (a b : Reached) → Where nodes found j a → Where nodes found k b → j ≤ k → a.depth ≤ b.depth
      rises_by j k a b (inside p) (inside q) w = walk.rises j k a b p q w
      rises_by j k a b (inside p) (last e q) w = (let n = walk.near j a now p at in let d = deep_new b q in omega (arith, n, d))
      rises_by j k a b (last e p) (inside q) w = absurd (let l = slice_get_within nodes k b q in omega (arith, w, e, l))
      rises_by j k a b (last e p) (last f q) w = (let d = deep_new a p in let g = deep_new b q in omega (arith, d, g))

      low_by : (k : ℕ) (j : Reached) → Where nodes found k j → j.depth ≤ k
      low_by k j (inside h) = walk.low k j h
      low_by k j (last e h) = (let d = deep_new j h in let l = walk.low m now at in let w = slice_get_within nodes m now at in omega (arith, d, e, l, w))

      near_by : (k : ℕ) (j z : Reached) → Where nodes found k j → Where nodes found m z → j.depth ≤ z.depth + 1
      near_by k j z (inside h) (inside p) = walk.near k j z h p
      near_by k j z (last e h) (inside p) = (let d = deep_new j h in let same : now.depth ≡ z.depth = ap (λ (y : Reached). y.depth) (one_place nodes m m at p refl) in omega (arith, d, same))
      near_by k j z w (last e p) = absurd (let l = slice_get_within nodes m now at in omega (arith, e, l))

      near_wider : (d : ℕ) (x : GoType) → IsNear nodes types d x → IsNear more types' d x
      near_wider d x a = record { number = a.number; node = a.node; at = get_left nodes found a.number a.node a.at; type = wider' a.number x a.type; near = a.near }

      near_new : (d : ℕ) → now.depth ≡ d → IsNear more types' (d + 1) v
      near_new d e = record {
        number = length nodes;
        node = found;
        at = get_last nodes found;
        type = ap (slice_get types') (sym walk.size) ∙ get_last types v;
        near = omega (arith, e);
      }

      -- each way to it that was met is by this field
      way_is_by : (q : ℕ) (rest : List ℕ) (y : GoType) (g p : Bool) (f : Bool) (j : ℕ) → Leads table s rest g y → Embeds table y q p v → slice_get types j ≡ Some y → Met m i j q → (q ≡ i) × (y ≡ u)
      way_is_by q rest y g p f j l e h (new a b) = (b, one_place types j m h is a)
      way_is_by q rest y g p f j l e h (old met) =
          let it = node_at j y h in
          let n = walk.closed j it.0 y q p v it.1 h met e in
          absurd (fresh n.number n.type)
        where
          node_at : (j : ℕ) (y : GoType) → slice_get types j ≡ Some y → (it : Reached) × (slice_get nodes j ≡ Some it)
          node_at j y h = some_at nodes j (let w = slice_get_within types j y h in let z = walk.size in omega (arith, w, z))

      new_once : now.twice ≡ false → (p : List ℕ) (f : Bool) → Leads table s p f v → length p ≡ now.depth + 1 → IsMetPath table s types' m (i + 1) p → p ≡ i ∷ node.path
      new_once t [] f l e met = absurd (omega (arith, e))
      new_once t (q ∷ rest) f l e met =
          let a = along_of table s q rest f v l in
          let h = met q rest a.before a.by refl a.leads in
          let k = narrow h.0 a.by (met_within m (i + 1) h.0 q h.2) h.1 in
          let w = way_is_by q rest a.by a.before a.pointer f h.0 a.leads a.embeds k (met_now m i h.0 q h.2) in
          let same : rest ≡ node.path = full table s nodes types m i walk now u at is t rest a.before (subst (λ z. Leads table s rest a.before z) w.1 a.leads) (omega (arith, e)) in
          ap (λ z. z ∷ rest) w.0 ∙ ap (λ zs. i ∷ zs) same

      new_twice : now.twice ≡ true → (p : List ℕ) × (f : Bool) × Leads table s p f v × (length p ≡ now.depth + 1) × (p ≢ i ∷ node.path)
      new_twice t =
          let w = node.twice t in
          (i ∷ w.0, w.1 || pointer, along i pointer v w.2 embeds, (let e = w.3 in omega (arith, e)), λ e. w.4 (tail_is e))

      new_met : IsMetPath table s types' m (i + 1) (i ∷ node.path)
      new_met place rest f y e l =
          let same : u ≡ y = (same_leads table one s rest now.followed f u y (subst (λ zs. Leads table s zs now.followed u) (tail_is e) node.leads) l).1 in
          (m, wider' m y (is ∙ ap Some same), inr (refl, (let h : i ≡ place = head_is e in omega (arith, h))))

      new_node : IsNode table s types' m (i + 1) found v
      new_node = record {
        path = i ∷ node.path;
        leads = new_leads;
        depth = (let d = node.depth in omega (arith, d));
        met = new_met;
        once = new_once;
        twice = new_twice;
      }

      each_both : (k : ℕ) (j : Reached) (x : GoType) → Both k j x → IsNode table s types' m (i + 1) j x
      each_both k j x (both_old h e) = stays types' wider' narrow k j x h e (λ q b d. fresh k (e ∙ ap Some (only q x b)))
      each_both k j x (both_new e f g) = subst (λ z. IsNode table s types' m (i + 1) z x) (sym f) (subst (λ z. IsNode table s types' m (i + 1) found z) (sym g) new_node)

      closed_old : (k : ℕ) (j : Reached) (x : GoType) (place : ℕ) (q : Bool) (w : GoType) → slice_get nodes k ≡ Some j → slice_get types k ≡ Some x → Met m i k place → Embeds table x place q w → IsNear more types' (j.depth + 1) w
      closed_old k j x place q w h t (old met) e = near_wider (j.depth + 1) w (walk.closed k j x place q w h t met e)
      closed_old k j x place q w h t (new a b) e =
          let same : now ≡ j = one_place nodes m k at h (sym a) in
          let to_u : x ≡ u = one_place types k m t is a in
          let to_v : w ≡ v = only q w (subst (λ z. Embeds table z i q w) to_u (subst (λ n. Embeds table x n q w) b e)) in
          subst (λ z. IsNear more types' (j.depth + 1) z) (sym to_v) (near_new j.depth (ap (λ (z : Reached). z.depth) same))

      closed_both : (k : ℕ) (j : Reached) (x : GoType) (place : ℕ) (q : Bool) (w : GoType) → Both k j x → IsMet m (i + 1) k place → Embeds table x place q w → IsNear more types' (j.depth + 1) w
      closed_both k j x place q w (both_old h t) met e = closed_old k j x place q w h t (met_now m i k place met) e
      closed_both k j x place q w (both_new a b d) met e = absurd (let l = met_within m (i + 1) k place met in let z = walk.size in let y = within in omega (arith, l, a, z, y))

      chain_new : IsBehind table more types' (length nodes) found v
      chain_new = record { before = slice_get_within nodes m now at; node = now; node_at = get_left nodes found m now at; deeper = refl; by = u; at = wider' m u is; embeds = embeds }

      chain_by : (k : ℕ) (j : Reached) (x : GoType) → Both k j x → 0 < k → IsBehind table more types' k j x
      chain_by k j x (both_old h t) w =
          let b = walk.chain k j x h t w in
          record { before = b.before; node = b.node; node_at = get_left nodes found j.from b.node b.node_at; deeper = b.deeper; by = b.by; at = wider' j.from b.by b.at; embeds = b.embeds }
      chain_by k j x (both_new e f g) w =
          subst (λ n. IsBehind table more types' n j x) (sym e) (subst (λ z. IsBehind table more types' (length nodes) z x) (sym f) (subst (λ z. IsBehind table more types' (length nodes) found z) (sym g) chain_new))

      pub added : IsWalk table s more types' m (i + 1)
      added = record {
        first = walk.first;
        first_at = get_left nodes found 0 walk.first walk.first_at;
        first_depth = walk.first_depth;
        first_type = wider' 0 s walk.first_type;
        size = (let z = walk.size in let a = length-append nodes (found ∷ []) in let b = length-append types (v ∷ []) in omega (arith, z, a, b));
        is = λ k j x h e w. is_by k j x (both k j x h e) w;
        once = λ j k x a b. once_by j k x (get_where types v j x a) (get_where types v k x b);
        rises = λ j k a b p q w. rises_by j k a b (get_where nodes found j a p) (get_where nodes found k b q) w;
        low = λ k j h. low_by k j (get_where nodes found k j h);
        near = λ k j z h p. near_by k j z (get_where nodes found k j h) (get_where nodes found m z p);
        each = λ k j x h e. each_both k j x (both k j x h e);
        closed = λ k j x place q w h t met e. closed_both k j x place q w (both k j x h t) met e;
        chain = λ k j x h t w. chain_by k j x (both k j x h t) w;
        known = λ k x h w. walk.known k x (narrow k x (omega (arith, w)) h) w;
      }
