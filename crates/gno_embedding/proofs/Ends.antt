-- The beginning and the end of a walk.
use Rattle.std.proofs.Common.{◌≡◌, refl, sym, ap, ◌∙◌, subst, ℕ, zero, suc, ◌+◌, ◌<◌, ◌≤◌, List, [], ◌∷◌, Bool, false, Some, length, map, take, arith, inl, inr, rules}
use Rattle.std.specs.Prelude.{slice_get, ◌⊎◌}
use Rattle.std.proofs.lemmas.Option.{same_Some, slice_get_within}
use Rattle.gno_layouts.proofs.Ends.{some_at}
use Rattle.gno_terms.specs.declared.term.GoType.{GoType}
use Rattle.gno_terms.specs.declared.term.TypeRef.{TypeRef}
use Rattle.gno_terms.specs.Lawful.{Each}
use Rattle.gno_terms.specs.Tables.{Table, Is}
use Rattle.gno_embedding.specs.declared.ways.Reached.{Reached}
use Rattle.gno_embedding.specs.Embedding.{Embeds, Leads, here, IsKnown}
use Rattle.gno_embedding.specs.Reaching.{In, IsAmong, IsChain, EndsUnknown, IsBlocked, IsNumbered, IsReached, IsStep, Rises, AreDistinct, AreReached, number_of}
use Rattle.gno_embedding.specs.Walking.{HasOneDefinition, IsMet, IsMetPath, IsNode, IsWalk}
use Rattle.gno_embedding.proofs.Paths.{along_of, same_leads}
use Rattle.gno_embedding.proofs.Nearest.{Order, below, above, order, one_place, nearest, all_met}

-- the one element of a list
pub only_one : {A : Type 0} (a b : A) (k : ℕ) → slice_get (a ∷ []) k ≡ Some b → (k ≡ 0) × (a ≡ b)
only_one a b zero h = (refl, same_Some a b h)
only_one a b (suc k) h = absurd (search (rules, h))

not_met : (k place : ℕ) → IsMet 0 0 k place → ⊥
not_met k place (inl w) = omega (arith, w)
not_met k place (inr h) = (let w = h.1 in omega (arith, w))

-- nothing is met yet
module _ (table : Table) (s : GoType) (root : Reached) (depth : root.depth ≡ 0) (followed : root.followed ≡ false) (twice : root.twice ≡ false) where
  begun_node : IsNode table s (s ∷ []) 0 0 root s
  begun_node = record {
    path = [];
    leads = subst (λ f. Leads table s [] f s) (sym followed) here;
    depth = sym depth;
    met = λ place rest f y e l. absurd (search (rules, e));
    once = λ t p f l e met. no_path p (e ∙ depth);
    twice = λ t. absurd (search rules);
  }
    where
      no_path : (p : List ℕ) → length p ≡ 0 → p ≡ []
      no_path [] e = refl
      no_path (q ∷ qs) e = absurd (omega (arith, e))

  pub begun : IsWalk table s (root ∷ []) (s ∷ []) 0 0
  begun = record {
    first = root;
    first_at = refl;
    first_depth = depth;
    first_type = refl;
    size = refl;
    is = λ k it x h t w. absurd (let e = (only_one root it k h).0 in omega (arith, w, e));
    once = λ j k x a b. (only_one s x j a).0 ∙ sym (only_one s x k b).0;
    rises = λ j k a b p q w. (let c : a.depth ≡ b.depth = ap (λ (z : Reached). z.depth) (sym (only_one root a j p).1 ∙ (only_one root b k q).1) in omega (arith, c));
    low = λ k it h. (let c : root.depth ≡ it.depth = ap (λ (z : Reached). z.depth) (only_one root it k h).1 in omega (arith, c, depth));
    near = λ k it z p q. (let c : root.depth ≡ it.depth = ap (λ (w : Reached). w.depth) (only_one root it k p).1 in omega (arith, c, depth));
    each = λ k it x h t. subst (λ z. IsNode table s (s ∷ []) 0 0 z x) (only_one root it k h).1 (subst (λ z. IsNode table s (s ∷ []) 0 0 root z) (only_one s x k t).1 begun_node);
    closed = λ k it x place q w h t met e. absurd (not_met k place met);
    chain = λ k it x h t w. absurd (let e = (only_one s x k t).0 in omega (arith, w, e));
    known = λ k x h w. absurd (omega (arith, w));
  }

-- all fields of a node are met
module _ (table : Table) (one : HasOneDefinition table) (s : GoType) (nodes : List Reached) (types : List GoType) (m i : ℕ) (walk : IsWalk table s nodes types m i)
    (now : Reached) (u : GoType) (at : slice_get nodes m ≡ Some now) (is : slice_get types m ≡ Some u)
    (last : (place : ℕ) (pointer : Bool) (v : GoType) → Embeds table u place pointer v → place < i) (known : IsKnown table u) where
  met_by : (k place : ℕ) (y x : GoType) (pointer : Bool) → Order k m → slice_get types k ≡ Some y → Embeds table y place pointer x → k < m + 1 → IsMet m i k place
  met_by k place y x pointer (below w) h e b = inl w
  met_by k place y x pointer (above w) h e b =
      let same : k ≡ m = omega (arith, w, b) in
      inr (same, last place pointer x (subst (λ z. Embeds table z place pointer x) (one_place types k m h is same) e))

  met_below : (k place : ℕ) → IsMet (m + 1) 0 k place → k < m + 1
  met_below k place (inl w) = w
  met_below k place (inr h) = absurd (let w = h.1 in omega (arith, w))

  met_before : (k place : ℕ) (y x : GoType) (pointer : Bool) → slice_get types k ≡ Some y → Embeds table y place pointer x → IsMet (m + 1) 0 k place → IsMet m i k place
  met_before k place y x pointer h e met = met_by k place y x pointer (order k m) h e (met_below k place met)

  met_after : (k place : ℕ) → IsMet m i k place → IsMet (m + 1) 0 k place
  met_after k place (inl w) = inl (omega (arith, w))
  met_after k place (inr h) = inl (let e = h.0 in omega (arith, e))

  path_before : (p : List ℕ) (f : Bool) (x : GoType) → Leads table s p f x → IsMetPath table s types (m + 1) 0 p → IsMetPath table s types m i p
  path_before p f x l met place rest g y e leads =
      let h = met place rest g y e leads in
      let a = along_of table s place rest f x (subst (λ q. Leads table s q f x) e l) in
      let same : a.by ≡ y = (same_leads table one s rest a.before g a.by y a.leads leads).1 in
      (h.0, h.1, met_before h.0 place y x a.pointer h.1 (subst (λ z. Embeds table z place a.pointer x) same a.embeds) h.2)

  finished_node : (it : Reached) (x : GoType) → IsNode table s types m i it x → IsNode table s types (m + 1) 0 it x
  finished_node it x node = record {
    path = node.path;
    leads = node.leads;
    depth = node.depth;
    met = λ place rest g y e leads. (let h = node.met place rest g y e leads in (h.0, h.1, met_after h.0 place h.2));
    once = λ t p f l e met. node.once t p f l e (path_before p f x l met);
    twice = node.twice;
  }

  known_by : (k : ℕ) (x : GoType) → Order k m → slice_get types k ≡ Some x → k < m + 1 → IsKnown table x
  known_by k x (below w) h b = walk.known k x h w
  known_by k x (above w) h b = subst (IsKnown table) (one_place types m k is h (omega (arith, w, b))) known

  pub finished : IsWalk table s nodes types (m + 1) 0
  finished = record {
    first = walk.first;
    first_at = walk.first_at;
    first_depth = walk.first_depth;
    first_type = walk.first_type;
    size = walk.size;
    is = walk.is;
    once = walk.once;
    rises = walk.rises;
    low = walk.low;
    near = λ k it z p q. (let n = walk.near k it now p at in let r = walk.rises m (m + 1) now z at q (omega arith) in omega (arith, n, r));
    each = λ k it x h t. finished_node it x (walk.each k it x h t);
    closed = λ k it x place q w h t met e. walk.closed k it x place q w h t (met_before k place x w q t e met) e;
    chain = walk.chain;
    known = λ k x h w. known_by k x (order k m) h w;
  }

in_take : (its : List Reached) (i j : ℕ) (it : Reached) → slice_get its j ≡ Some it → j < i → In it.of (take i (map number_of its))
in_take [] i j it h w = absurd (search (rules, h))
in_take (x ∷ its) zero j it h w = absurd (omega (arith, w))
in_take (x ∷ its) (suc i) zero it h w = inl (ap (λ (z : Reached). z.of) (sym (same_Some x it h)))
in_take (x ∷ its) (suc i) (suc j) it h w = inr (in_take its i j it h (omega (arith, w)))

number_at : (its : List Reached) (i : ℕ) (t : TypeRef) → slice_get (map number_of its) i ≡ Some t → (it : Reached) × (slice_get its i ≡ Some it) × (it.of ≡ t)
number_at [] i t h = absurd (search (rules, h))
number_at (x ∷ its) zero t h = (x, refl, same_Some x.of t h)
number_at (x ∷ its) (suc i) t h = number_at its i t h

in_place : (its : List Reached) (t : TypeRef) → In t (map number_of its) → (i : ℕ) × (it : Reached) × (slice_get its i ≡ Some it) × (it.of ≡ t)
in_place [] t h = absurd h
in_place (x ∷ its) t (inl e) = (0, x, refl, sym e)
in_place (x ∷ its) t (inr h) = (let r = in_place its t h in (suc r.0, r.1, r.2, r.3))

place_in : (its : List Reached) (i : ℕ) (it : Reached) → slice_get its i ≡ Some it → In it its × In it.of (map number_of its)
place_in [] i it h = absurd (search (rules, h))
place_in (x ∷ its) zero it h = (let e = same_Some x it h in (inl (sym e), inl (ap (λ (z : Reached). z.of) (sym e))))
place_in (x ∷ its) (suc i) it h = (let r = place_in its i it h in (inr r.0, inr r.1))

each_of : (P : Reached → Type 0) (its : List Reached) → ((i : ℕ) (it : Reached) → slice_get its i ≡ Some it → P it) → Each P its
each_of P [] f = tt
each_of P (x ∷ its) f = (f 0 x refl, each_of P its (λ i it h. f (suc i) it h))

rises_of : (its : List Reached) → ((j k : ℕ) (a b : Reached) → slice_get its j ≡ Some a → slice_get its k ≡ Some b → j ≤ k → a.depth ≤ b.depth) → Rises its
rises_of [] f = tt
rises_of (a ∷ []) f = tt
rises_of (a ∷ b ∷ its) f = (f 0 1 a b refl refl (omega arith), rises_of (b ∷ its) (λ j k c d p q w. f (suc j) (suc k) c d p q (omega (arith, w))))

distinct_of : (its : List Reached) → ((j k : ℕ) (a b : Reached) → slice_get its j ≡ Some a → slice_get its k ≡ Some b → a.of ≡ b.of → j ≡ k) → AreDistinct (map number_of its)
distinct_of [] f = tt
distinct_of (x ∷ its) f = (
  λ h. let r = in_place its x.of h in absurd (let e = f 0 (suc r.0) x r.1 refl r.2 (sym r.3) in omega (arith, e)),
  distinct_of its (λ j k a b p q e. let g = f (suc j) (suc k) a b p q e in omega (arith, g)),
)

ends_of : (table : Table) (s : GoType) (its : List Reached) (k : ℕ) (it : Reached) → slice_get its k ≡ Some it → length its ≡ suc k → ((u : GoType) → Is table it.of u → IsKnown table u → ⊥) → EndsUnknown table s (map number_of its)
ends_of table s [] k it h e f = absurd (search (rules, h))
ends_of table s (a ∷ []) zero it h e f = λ u is. f u (subst (λ (z : Reached). Is table z.of u) (same_Some a it h) is)
ends_of table s (a ∷ []) (suc k) it h e f = absurd (search (rules, h))
ends_of table s (a ∷ b ∷ its) zero it h e f = absurd (omega (arith, e))
ends_of table s (a ∷ b ∷ its) (suc k) it h e f = ends_of table s (b ∷ its) k it h (omega (arith, e)) f

module _ (table : Table) (s : GoType) (root : Reached) (its : List Reached) (types : List GoType) (m i : ℕ) (walk : IsWalk table s (root ∷ its) types m i) where
  type_of_node : (k : ℕ) (it : Reached) → slice_get its k ≡ Some it → (x : GoType) × (slice_get types (suc k) ≡ Some x) × Is table it.of x
  type_of_node k it h =
      let w = slice_get_within its k it h in
      let x = some_at types (suc k) (let z = walk.size in omega (arith, w, z)) in
      (x.0, x.1, walk.is (suc k) it x.0 h x.1 (omega arith))

  node_at : (k : ℕ) (x : GoType) → slice_get types (suc k) ≡ Some x → (it : Reached) × (slice_get its k ≡ Some it)
  node_at k x h = some_at its k (let w = slice_get_within types (suc k) x h in let z = walk.size in omega (arith, w, z))

  -- the first n of the others
  module _ (js : List Reached) (in_all : (k : ℕ) (it : Reached) → slice_get js k ≡ Some it → slice_get its k ≡ Some it) where
    in_js : (j k : ℕ) (a b : Reached) → j ≤ k → slice_get js k ≡ Some b → slice_get its j ≡ Some a → slice_get js j ≡ Some a
    in_js j k a b w h e =
        let x = some_at js j (let l = slice_get_within js k b h in omega (arith, w, l)) in
        x.1 ∙ sym (in_all j x.0 x.1) ∙ e

    among_by : (i : ℕ) (b : Reached) → slice_get js i ≡ Some b → (k : ℕ) (y : GoType) → slice_get types k ≡ Some y → k < suc i → IsAmong table s (take i (map number_of js)) y
    among_by i b h zero y e w = inl (same_Some y s (sym e ∙ walk.first_type))
    among_by i b h (suc k) y e w =
        let it = node_at k y e in
        let js_at : slice_get js k ≡ Some it.0 = in_js k i it.0 b (omega (arith, w)) h it.1 in
        inr (it.0.of, in_take js i k it.0 js_at (omega (arith, w)), walk.is (suc k) it.0 y it.1 e (omega arith))

    pub chain_of : IsChain table s (map number_of js)
    chain_of i t h =
        let it = number_at js i t h in
        let x = type_of_node i it.0 (in_all i it.0 it.1) in
        let b = walk.chain (suc i) it.0 x.0 (in_all i it.0 it.1) x.1 (omega arith) in
        record {
          by = b.by;
          among = among_by i it.0 it.1 it.0.from b.by b.at b.before;
          place = it.0.place;
          pointer = it.0.pointer;
          type = x.0;
          embeds = b.embeds;
          is = subst (λ (r : TypeRef). Is table r x.0) it.2 x.2;
        }

  -- everything is met
  module _ (one : HasOneDefinition table) (all : m ≡ length (root ∷ its)) where
    done : (d k : ℕ) (it : Reached) → slice_get (root ∷ its) k ≡ Some it → it.depth < d → k < m
    done d k it h w = (let l = slice_get_within (root ∷ its) k it h in omega (arith, l, all))

    reached : (k : ℕ) (it : Reached) → slice_get its k ≡ Some it → IsReached table s it
    reached k it h =
        let x = type_of_node k it h in
        let node = walk.each (suc k) it x.0 h x.1 in
        record {
          type = x.0;
          is = x.2;
          other = λ e. absurd (let z = walk.once (suc k) 0 s (x.1 ∙ ap Some e) walk.first_type in omega (arith, z));
          path = node.path;
          leads = node.leads;
          depth = node.depth;
          once = λ t p f l e. node.once t p f l e (all_met table s (root ∷ its) types m i walk (length p) (done (length p)) p (omega arith));
          twice = node.twice;
        }

    numbered : (n : ℕ) (node : Reached) (u : GoType) → slice_get (root ∷ its) n ≡ Some node → slice_get types n ≡ Some u → IsNumbered table s its n node.depth u
    numbered zero node u h t = (same_Some u s (sym t ∙ walk.first_type), ap (λ (z : Reached). z.depth) (one_place (root ∷ its) 0 0 h walk.first_at refl) ∙ walk.first_depth)
    numbered (suc k) node u h t = (node, h, walk.is (suc k) node u h t (omega arith), refl)

    step : (k : ℕ) (it : Reached) → slice_get its k ≡ Some it → IsStep table s its k it
    step k it h =
        let x = type_of_node k it h in
        let b = walk.chain (suc k) it x.0 h x.1 (omega arith) in
        record {
          by = b.by;
          depth = b.node.depth;
          from = numbered it.from b.node b.by b.node_at b.at;
          before = (let w = b.before in omega (arith, w));
          type = x.0;
          is = x.2;
          embeds = b.embeds;
          deeper = b.deeper;
        }

    among : (k : ℕ) (u : GoType) → slice_get types k ≡ Some u → IsAmong table s (map number_of its) u
    among zero u h = inl (same_Some u s (sym h ∙ walk.first_type))
    among (suc k) u h = (let it = node_at k u h in inr (it.0.of, (place_in its k it.0 it.1).1, walk.is (suc k) it.0 u it.1 h (omega arith)))

    place_of : (u : GoType) → IsAmong table s (map number_of its) u → (k : ℕ) × (slice_get types k ≡ Some u)
    place_of u (inl e) = (0, walk.first_type ∙ ap Some (sym e))
    place_of u (inr h) =
        let r = in_place its h.0 h.1 in
        let x = type_of_node r.0 r.1 r.2 in
        let same : x.0 ≡ u = same_Some x.0 u (sym x.2 ∙ ap (λ (t : TypeRef). slice_get table.types t.0) r.3 ∙ h.2) in
        (suc r.0, x.1 ∙ ap Some same)

    least_by : (d k : ℕ) (it : Reached) (u : GoType) → slice_get (root ∷ its) k ≡ Some it → slice_get types k ≡ Some u → it.depth ≤ d → (u ≡ s) ⊎ ((it : Reached) × In it its × Is table it.of u × (it.depth ≤ d))
    least_by d zero it u h t w = inl (same_Some u s (sym t ∙ walk.first_type))
    least_by d (suc k) it u h t w = inr (it, (place_in its k it h).0, walk.is (suc k) it u h t (omega arith), w)

    pub reached_all : AreReached table s its
    reached_all = record {
      each = each_of (IsReached table s) its reached;
      steps = step;
      rises = rises_of its (λ j k a b p q w. walk.rises (suc j) (suc k) a b p q (omega (arith, w)));
      distinct = distinct_of its (λ j k a b p q e.
          (let x = type_of_node j a p in
          let y = type_of_node k b q in
          let same : x.0 ≡ y.0 = same_Some x.0 y.0 (sym x.2 ∙ ap (λ (t : TypeRef). slice_get table.types t.0) e ∙ y.2) in
          let z = walk.once (suc j) (suc k) y.0 (x.1 ∙ ap Some same) y.1 in omega (arith, z)));
      closed = record {
        chain = chain_of its (λ k it h. h);
        known = λ u h. (let k = place_of u h in walk.known k.0 u k.1 (let l = slice_get_within types k.0 u k.1 in let z = walk.size in omega (arith, l, z, all)));
        closed = λ u place pointer v h e.
            (let k = place_of u h in
            let it = some_at (root ∷ its) k.0 (let l = slice_get_within types k.0 u k.1 in let z = walk.size in omega (arith, l, z)) in
            let n = walk.closed k.0 it.0 u place pointer v it.1 k.1 (inl (let l = slice_get_within types k.0 u k.1 in let z = walk.size in omega (arith, l, z, all))) e in
            among n.number v n.type);
      };
      least = λ path f u l. (let n = nearest table s (root ∷ its) types m i walk (length path) (done (length path)) path f u l (omega arith) in least_by (length path) n.number n.node u n.at n.type n.near);
    }

  -- the underlying type of a node is not known
  ends_at : (k : ℕ) → m ≡ k → (u : GoType) → slice_get types k ≡ Some u → (IsKnown table u → ⊥) → (js : List Reached) → length js ≡ k → ((k : ℕ) (it : Reached) → slice_get js k ≡ Some it → slice_get its k ≡ Some it) → EndsUnknown table s (map number_of js)
  ends_at zero e u h f [] l in_all = λ known. f (subst (IsKnown table) (same_Some s u (sym walk.first_type ∙ h)) known)
  ends_at zero e u h f (a ∷ js) l in_all = absurd (omega (arith, l))
  ends_at (suc k) e u h f js l in_all =
      let a = some_at js k (omega (arith, l)) in
      let x = type_of_node k a.0 (in_all k a.0 a.1) in
      let same : x.0 ≡ u = one_place types (suc k) (suc k) x.1 h refl in
      ends_of table s js k a.0 a.1 l (λ v is known. f (subst (IsKnown table) (same_Some v u (sym is ∙ x.2 ∙ ap Some same)) known))

  pub blocked : (u : GoType) → slice_get types m ≡ Some u → (IsKnown table u → ⊥) → (js : List Reached) → length js ≡ m → ((k : ℕ) (it : Reached) → slice_get js k ≡ Some it → slice_get its k ≡ Some it) → IsBlocked table s (map number_of js)
  blocked u h f js l in_all = record { chain = chain_of js in_all; ends = ends_at m refl u h f js l in_all }
