-- The names that were met in one scope, and those that repeat one.
use Rattle.std.proofs.Common.{◌≡◌, ◌∙◌, ℕ, suc, Option, None, Some, List, [], ◌∷◌, ◌++◌, Bool, true, false, sym, ap, Vec, refl, subst, not, ◌&&◌, ◌||◌, if◌then◌else◌, append_assoc, append-nil, rules, arith, zero, length, get_or, drop, drop-cons, ◌<◌, ◌≤◌, ◌+◌}
use Rattle.std.specs.Prelude.{is_some}
use Rattle.std.specs.declared.cmp.Ordering.{Ordering}
use Rattle.std.specs.BTreeMap.{BTreeMap, get_by, is_at, UpdatesBy}
use Rattle.std.specs.Map.{KeepsOthers, IsKeyTest, AreApart, lookup}
use Rattle.std.specs.Cmp.{eq_by_cmp_equiv}
use Rattle.std.specs.Cmp.Lexicographic.{slice_cmp, nat_list_cmp_total}
use Rattle.std.specs.Ordering.{nat_cmp, is_eq, eq_by_cmp}
use Rattle.std.specs.Str.{bytes_eq}
use Rattle.std.specs.declared.alloc.Global.{Global}
use Rattle.std.proofs.lemmas.Map.Text.{is_eq-slice_cmp}
use Rattle.std.proofs.lemmas.Slice.Eq.{bytes_eq-Decides}
use Rattle.gno_judging.proofs.Noting.{noted_append}
use Rattle.gno_judging.specs.Answers.{Answers}
use Rattle.gno_judging.specs.Noting.{noted}
use Rattle.gno_judging.specs.Stands.{BothStand}
use Rattle.gno_judging.specs.Stands.{BothStand as both}
use Rattle.gno_scoping.specs.Scopes.{AreDistinct, does_repeat}
use Rattle.gno_scoping.specs.declared.scopes.Distinct as code
use Rattle.gno_tree.specs.declared.word.Name.{Name}
use Rattle.gno_tree_typing.specs.WrittenTypes.{Distinct, distinct, distinct_by, repeats, stands_in}
use Rattle.gno_typing.specs.Names.{is_blank}
use Rattle.gno_typing.specs.declared.fault.Fault.{Fault}

abbrev key_cmp : Vec ℕ Global → Vec ℕ Global → Ordering
key_cmp x y = slice_cmp nat_cmp x.items y.items

-- a table has the texts of some names, and no others
abbrev pub Met : BTreeMap (Vec ℕ Global) Unit → List Name → Type 0
Met table names = (text : List ℕ) → is_some (get_by (λ k. slice_cmp nat_cmp text k.items) table) ≡ stands_in text names

or_assoc : (a b c : Bool) → ((a || b) || c) ≡ (a || (b || c))
or_assoc true b c = refl
or_assoc false b c = refl

or_false : (a : Bool) → (a || false) ≡ a
or_false true = refl
or_false false = refl

or_true : (a : Bool) → (a || true) ≡ true
or_true true = refl
or_true false = refl

stands_behind : (text : List ℕ) (names : List Name) (n : Name) → stands_in text (names ++ n ∷ []) ≡ (stands_in text names || bytes_eq n.text text)
stands_behind text [] n = or_false (bytes_eq n.text text)
stands_behind text (m ∷ ms) n = ap (λ b. bytes_eq m.text text || b) (stands_behind text ms n) ∙ sym (or_assoc (bytes_eq m.text text) (stands_in text ms) (bytes_eq n.text text))

same_eq : (text : List ℕ) → bytes_eq text text ≡ true
same_eq text = (bytes_eq-Decides text text).1 refl

eq_sym : (a b : List ℕ) (x : Bool) → bytes_eq a b ≡ x → bytes_eq b a ≡ x
eq_sym a b true e = (bytes_eq-Decides b a).1 (sym ((bytes_eq-Decides a b).0 e))
eq_sym a b false e = not_true (bytes_eq b a) (λ h. absurd (differ (sym e ∙ (bytes_eq-Decides a b).1 (sym ((bytes_eq-Decides b a).0 h)))))
  where
    differ : false ≡ true → ⊥
    differ h = search (rules, h)

    not_true : (x : Bool) → (x ≡ true → ⊥) → x ≡ false
    not_true true h = absurd (h refl)
    not_true false h = refl

-- the entries that a query for another key finds
others : (eq : Vec ℕ Global → Vec ℕ Global → Bool) (test other : Vec ℕ Global → Bool) (old new : List (Vec ℕ Global × Unit)) → KeepsOthers eq test old new → IsKeyTest eq other → AreApart test other
    → lookup other new ≡ lookup other old
unfolding KeepsOthers
others eq test other old new keeps is apart = keeps other is apart

apart_in_order : (name key other : List ℕ) → bytes_eq key name ≡ false → is_eq (slice_cmp nat_cmp key other) ≡ true → is_eq (slice_cmp nat_cmp name other) ≡ false
apart_in_order name key other differ e =
    let same : key ≡ other = (bytes_eq-Decides key other).0 (sym (is_eq-slice_cmp key other) ∙ e) in
    is_eq-slice_cmp name other ∙ subst (λ l. bytes_eq name l ≡ false) same (eq_sym key name false differ)

met_key : (table next : BTreeMap (Vec ℕ Global) Unit) (names : List Name) (n : Name) (key : Vec ℕ Global) (x : Unit) → Met table names → key.items ≡ n.text → UpdatesBy key_cmp (key_cmp key) table next (Some x) → (text : List ℕ) (b : Bool) → bytes_eq key.items text ≡ b
    → is_some (get_by (λ k. slice_cmp nat_cmp text k.items) next) ≡ stands_in text (names ++ n ∷ [])
met_key table next names n key x met is updates text true e =
    let same : key.items ≡ text = (bytes_eq-Decides key.items text).0 e in
    subst (λ l. is_some (get_by (λ k. slice_cmp nat_cmp l k.items) next) ≡ stands_in l (names ++ n ∷ [])) same
    (ap is_some updates.1 ∙ sym (stands_behind key.items names n ∙ ap (λ b. stands_in key.items names || b) (ap (λ l. bytes_eq l key.items) (sym is) ∙ same_eq key.items) ∙ or_true (stands_in key.items names)))
met_key table next names n key x met is updates text false e =
    ap is_some (others (eq_by_cmp key_cmp) (is_at (key_cmp key)) (λ k. is_eq (slice_cmp nat_cmp text k.items)) table.entries next.entries updates.3
    (λ a b. (eq_by_cmp_equiv nat_list_cmp_total).congr text a.items b.items) (λ k. apart_in_order text key.items k.items e))
    ∙ met text ∙ sym (stands_behind text names n ∙ ap (λ b. stands_in text names || b) (ap (λ l. bytes_eq l text) (sym is) ∙ e) ∙ or_false (stands_in text names))

pub met_push : (table next : BTreeMap (Vec ℕ Global) Unit) (names : List Name) (n : Name) (key : Vec ℕ Global) (x : Unit) → Met table names → key.items ≡ n.text → UpdatesBy key_cmp (key_cmp key) table next (Some x) → Met next (names ++ n ∷ [])
met_push table next names n key x met is updates = λ text. met_key table next names n key x met is updates text (bytes_eq key.items text) refl

-- ---- those that repeat one

pub and_true : (a b : Bool) → b ≡ true → a ≡ (a && b)
and_true true b e = sym e
and_true false b e = refl

pub and_false : (a b : Bool) → b ≡ false → false ≡ (a && b)
and_false true b e = sym e
and_false false b e = refl

abbrev told_of : Bool → Name → List Fault
told_of b n = if b then record { code = 64; pos = n.pos } ∷ [] else []

-- none so far, and none of those faults
abbrev after_found : Option code.Distinct → List Fault → Option Distinct
after_found (Some x) fs = distinct_by fs
after_found None fs = None

-- Names were met, and the rest is to come. What is found of all is what is found of the rest, behind what was found.
pub record Going (old : Option Fault) (before names rest : List Name) (table : BTreeMap (Vec ℕ Global) Unit) (now : Option Fault) (found : Option code.Distinct) : Type 0 where
  pub met : List Name
  pub holds : Met table met
  pub whole : met ++ rest ≡ before ++ names
  pub notes : noted now (repeats met rest) ≡ noted old (repeats before names)
  pub form : after_found found (repeats met rest) ≡ distinct_by (repeats before names)

module _ (old : Option Fault) (before names : List Name) where
  pub begins : (table : BTreeMap (Vec ℕ Global) Unit) (x : code.Distinct) → Met table before → Going old before names names table old (Some x)
  begins table x h = record { met = before; holds = h; whole = refl; notes = refl; form = refl }

  none_found : (found : Option code.Distinct) (f : Fault) (fs : List Fault) → after_found found (f ∷ fs) ≡ None
  none_found (Some x) f fs = refl
  none_found None f fs = refl

  module _ (n : Name) (rest : List Name) (table next : BTreeMap (Vec ℕ Global) Unit) (now later : Option Fault) (found : Option code.Distinct) (h : Going old before names (n ∷ rest) table now found) (holds : Met next (h.met ++ n ∷ [])) where
    told_first : (b : Bool) → does_repeat h.met n ≡ b → repeats h.met (n ∷ rest) ≡ told_of b n ++ repeats (h.met ++ n ∷ []) rest
    told_first b e = ap (λ (x : Bool). told_of x n ++ repeats (h.met ++ n ∷ []) rest) e

    pub again : does_repeat h.met n ≡ true → later ≡ noted now (record { code = 64; pos = n.pos } ∷ []) → Going old before names rest next later None
    again e told = record {
      met = h.met ++ n ∷ [];
      holds = holds;
      whole = append_assoc h.met (n ∷ []) rest ∙ h.whole;
      notes = ap (λ (x : Option Fault). noted x (repeats (h.met ++ n ∷ []) rest)) told ∙ sym (ap (noted now) (told_first true e)) ∙ h.notes;
      form = sym (none_found found (record { code = 64; pos = n.pos }) (repeats (h.met ++ n ∷ []) rest)) ∙ sym (ap (after_found found) (told_first true e)) ∙ h.form;
    }

    pub fresh : does_repeat h.met n ≡ false → Going old before names rest next now found
    fresh e = record {
      met = h.met ++ n ∷ [];
      holds = holds;
      whole = append_assoc h.met (n ∷ []) rest ∙ h.whole;
      notes = sym (ap (noted now) (told_first false e)) ∙ h.notes;
      form = sym (ap (after_found found) (told_first false e)) ∙ h.form;
    }

  -- ---- the end

  stands_by : (found : Option code.Distinct) → BothStand AreDistinct found (after_found found [])
  stands_by (Some x) = both.some tt
  stands_by None = both.none

  pub answered : (table : BTreeMap (Vec ℕ Global) Unit) (now : Option Fault) (found : Option code.Distinct) → Going old before names [] table now found → Answers (distinct before names) AreDistinct old now found
  unfolding distinct
  answered table now found h = record {
    verdict = record { form = distinct_by (repeats before names); faults = repeats before names };
    judged = refl;
    stands = subst (λ (x : Option Distinct). BothStand AreDistinct found x) h.form (stands_by found);
    notes = h.notes;
  }

  pub all_met : (table : BTreeMap (Vec ℕ Global) Unit) (now : Option Fault) (found : Option code.Distinct) → Going old before names [] table now found → Met table (before ++ names)
  all_met table now found h = subst (Met table) (sym (append-nil h.met) ∙ h.whole) h.holds

-- the rest of a list, from one of its names on
pub from_name : (names : List Name) (at : ℕ) (n : Name) → at < length names → n ≡ get_or names at n → drop at names ≡ n ∷ drop (at + 1) names
from_name names at n within is = drop-cons names at n within ∙ ap (λ (x : Name). x ∷ drop (suc at) names) (sym is) ∙ ap (λ (k : ℕ). n ∷ drop k names) (add_one at)
  where
    add_one : (k : ℕ) → suc k ≡ k + 1
    add_one k = omega (arith)

-- behind all of them
pub none_left : (names : List Name) (at : ℕ) → length names ≤ at → drop at names ≡ []
none_left [] zero h = refl
none_left [] (suc at) h = refl
none_left (n ∷ names) zero h = absurd (omega (arith, h))
none_left (n ∷ names) (suc at) h = none_left names at (omega (arith, h))
