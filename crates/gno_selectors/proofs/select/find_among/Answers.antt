use Rattle.std.proofs.Common.{◌≡◌, refl, sym, ap, ◌∙◌, subst, ℕ, ◌<◌, List, length, false, true≢false, get_or}
use Rattle.std.proofs.lemmas.Option.{get_or_from_slice_get, same_Some, slice_get_within}
use Rattle.std.proofs.lemmas.Result.{IfOk-weaker}
use Rattle.gno_embedding.specs.declared.ways.Reached.{Reached}
use Rattle.gno_promotion.proofs.Finding.{known_at}
use Rattle.gno_promotion.specs.MethodSets.{Member}
use Rattle.gno_selectors.specs.Selectors.{IsSelection}
use Rattle.gno_selectors.specs.Standings.{Holds, IsFirst, IsMember, Name, StandsIn, called}
use Rattle.gno_selectors.specs.declared.standing.Standing.{Standing}
use Rattle.gno_selectors.specs.declared.standing.Standing.TheVariants as st
use Rattle.gno_terms.specs.declared.term.GoType.{GoType}
use Rattle.gno_terms.specs.Tables.{Table, Is}
use Rattle.gno_embedding.specs.Embedding.{IsKnown}
use Rattle.gno_promotion.specs.Candidates.{IsKnownAt}
use Rattle.gno_selectors.specs.declared.selection.Passed.{Passed}
use Rattle.gno_selectors.specs.declared.selection.Selection.{Selection}
use Rattle.gno_selectors.proofs.Lists.{each_at}
use Rattle.gno_selectors.proofs.Selecting.{holds, missing, one_member, two_members, two_types, two_ways}
use Rattle.gno_selectors.proofs.Standings.{has_none, only_member}
use Rattle.gno_selectors.proofs.select.find_among.Goals as goal

-- what stands past the end
abbrev none : Reached
none = record { of = record { 0 = 0 }; depth = 0; followed = false; twice = false; from = 0; place = 0; pointer = false }

-- the first that has the name is the one that is read
read : (table : Table) (name : Name) (its : List Reached) (first : ℕ) (f : IsFirst table name its 0 first) → get_or its first none ≡ f.it
read table name its first f = get_or_from_slice_get its first f.it none f.at

module _ (table : Table) (name : Name) (its : List Reached) (first : ℕ) (f : IsFirst table name its 0 first) where
  stands_first : (x y : Standing) → x ≡ y → StandsIn table (get_or its first none).of name x → StandsIn table f.it.of name y
  stands_first x y e h = subst (λ (z : Reached). StandsIn table z.of name y) (read table name its first f) (subst (StandsIn table (get_or its first none).of name) e h)

  member_first : (place : ℕ) (m : Member) → IsMember table f.it.of place m → IsMember table (get_or its first none).of place m
  member_first place m h = subst (λ (z : Reached). IsMember table z.of place m) (sym (read table name its first f)) h

  holds_first : (way : List Passed) (m : Member) (it : Selection) → Holds table way (get_or its first none).of m it → Holds table way f.it.of m it
  holds_first way m it h = subst (λ (z : Reached). Holds table way z.of m it) (read table name its first f) h

pub first_from-requires-clause-known : goal.first_from-requires-clause-known
first_from-requires-clause-known c = (let own = c.requires.nowhere in known_at c.args.rows.now own.type c.args.reached.now (c.requires.reached own.type own.is))

pub returns-in_default-clause-selection : goal.returns-in_default-clause-selection
returns-in_default-clause-selection c s is =
    missing c.args.rows.now c.have_one_definition.ensures s c.args.name.now c.args.«package».now c.args.number is c.requires.named c.have_one_number.ensures c.requires.nowhere c.args.reached.now (c.requires.reached s is) (c.in_default.ensures.none refl)

pub returns-then-nearest-clause-selection : goal.returns-then-nearest-clause-selection
returns-then-nearest-clause-selection c s is = two_ways c.args.rows.now c.have_one_definition.ensures s c.args.name.now c.args.«package».now c.args.number is c.requires.named c.have_one_number.ensures c.requires.nowhere c.args.reached.now (c.requires.reached s is) c.in-Some.first c.in-Some.ensures.some (sym (ap (λ (z : Reached). z.twice) (read c.args.rows.now (called c.args.name.now c.args.«package».now) c.args.reached.now c.in-Some.first c.in-Some.ensures.some)) ∙ c.if-nearest.true)

pub has_rival-requires-clause-known : goal.has_rival-requires-clause-known
has_rival-requires-clause-known c = (let own = c.requires.nowhere in known_at c.args.rows.now own.type c.args.reached.now (c.requires.reached own.type own.is))

pub has_rival-requires-clause-place : goal.has_rival-requires-clause-place
has_rival-requires-clause-place c = (let f = c.in-Some.ensures.some in slice_get_within c.args.reached.now c.in-Some.first f.it f.at)

pub has_rival-requires-clause-rises : goal.has_rival-requires-clause-rises
has_rival-requires-clause-rises c = (let own = c.requires.nowhere in (c.requires.reached own.type own.is).rises)

pub returns-then-has_rival-clause-selection : goal.returns-then-has_rival-clause-selection
returns-then-has_rival-clause-selection c s is = two_types c.args.rows.now c.have_one_definition.ensures s c.args.name.now c.args.«package».now c.args.number is c.requires.named c.have_one_number.ensures c.requires.nowhere c.args.reached.now (c.requires.reached s is) c.in-Some.first c.in-Some.ensures.some (c.has_rival.ensures.0 c.if-has_rival.true)

pub standing_in-requires-clause-below : goal.standing_in-requires-clause-below
standing_in-requires-clause-below c =
    let f = c.in-Some.ensures.some in
    let m = f.has.is_member in
    subst (λ (z : Reached). z.of.0 < length c.args.rows.now.types) (sym (read c.args.rows.now (called c.args.name.now c.args.«package».now) c.args.reached.now c.in-Some.first c.in-Some.ensures.some)) (slice_get_within c.args.rows.now.types f.it.of.0 m.type m.is)

pub standing_in-requires-clause-known : goal.standing_in-requires-clause-known
standing_in-requires-clause-known c s is =
    let own = c.requires.nowhere in
    let f = c.in-Some.ensures.some in
    let k = each_at (IsKnownAt c.args.rows.now) c.args.reached.now c.in-Some.first f.it (known_at c.args.rows.now own.type c.args.reached.now (c.requires.reached own.type own.is)) f.at in
    let there : Is c.args.rows.now f.it.of s = subst (λ (z : Reached). Is c.args.rows.now z.of s) (read c.args.rows.now (called c.args.name.now c.args.«package».now) c.args.reached.now c.in-Some.first c.in-Some.ensures.some) is in
    subst (IsKnown c.args.rows.now) (same_Some k.type s (sym k.is ∙ there)) k.known

pub unreachable-requires : goal.unreachable-requires
unreachable-requires c =
    let f = c.in-Some.ensures.some in
    has_none c.args.rows.now c.have_one_definition.ensures f.it.of (called c.args.name.now c.args.«package».now) (stands_first c.args.rows.now (called c.args.name.now c.args.«package».now) c.args.reached.now c.in-Some.first c.in-Some.ensures.some c.standing_in.result st.Nowhere c.in-Nowhere.is c.standing_in.ensures) f.has

pub way_to-requires-clause-place : goal.way_to-requires-clause-place
way_to-requires-clause-place c = (let f = c.in-Some.ensures.some in slice_get_within c.args.reached.now c.in-Some.first f.it f.at)

pub way_to-requires-clause-behind : goal.way_to-requires-clause-behind
way_to-requires-clause-behind c k it h = (let own = c.requires.nowhere in ((c.requires.reached own.type own.is).steps k it h).before)

pub selected-requires-clause-known : goal.selected-requires-clause-known
selected-requires-clause-known c s is =
    let own = c.requires.nowhere in
    let f = c.in-Some.ensures.some in
    let k = each_at (IsKnownAt c.args.rows.now) c.args.reached.now c.in-Some.first f.it (known_at c.args.rows.now own.type c.args.reached.now (c.requires.reached own.type own.is)) f.at in
    let there : Is c.args.rows.now f.it.of s = subst (λ (z : Reached). Is c.args.rows.now z.of s) (read c.args.rows.now (called c.args.name.now c.args.«package».now) c.args.reached.now c.in-Some.first c.in-Some.ensures.some) is in
    subst (IsKnown c.args.rows.now) (same_Some k.type s (sym k.is ∙ there)) k.known

pub selected-requires-clause-member : goal.selected-requires-clause-member
selected-requires-clause-member c =
    let f = c.in-Some.ensures.some in
    let m = only_member c.args.rows.now c.have_one_definition.ensures f.it.of (called c.args.name.now c.args.«package».now) c.in-At.place (stands_first c.args.rows.now (called c.args.name.now c.args.«package».now) c.args.reached.now c.in-Some.first c.in-Some.ensures.some c.standing_in.result (st.At c.in-At.place) c.in-At.is c.standing_in.ensures) in
    (m.0, member_first c.args.rows.now (called c.args.name.now c.args.«package».now) c.args.reached.now c.in-Some.first f c.in-At.place m.0 m.1)

pub returns-in_ok-way-in-At-clause-selection : goal.returns-in_ok-way-in-At-clause-selection
returns-in_ok-way-in-At-clause-selection c =
    let table = c.args.rows.now in
    let its = c.args.reached.now in
    let f = c.in-Some.ensures.some in
    let stands = (stands_first c.args.rows.now (called c.args.name.now c.args.«package».now) c.args.reached.now c.in-Some.first c.in-Some.ensures.some c.standing_in.result (st.At c.in-At.place) c.in-At.is c.standing_in.ensures) in
    let m = only_member table c.have_one_definition.ensures f.it.of (called c.args.name.now c.args.«package».now) c.in-At.place stands in
    let once : f.it.twice ≡ false = sym (ap (λ (z : Reached). z.twice) (read c.args.rows.now (called c.args.name.now c.args.«package».now) c.args.reached.now c.in-Some.first c.in-Some.ensures.some)) ∙ c.if-nearest.false in
    IfOk-weaker c.selected.result (λ it. (m : Member) → IsMember table (get_or its c.in-Some.first none).of c.in-At.place m → Holds table c.in_ok-way-in-At.way (get_or its c.in-Some.first none).of m it) (λ it. (s : GoType) → Is table c.args.number s → IsSelection table s c.args.name.now c.args.«package».now it)
    (λ it h s is.
    holds table c.have_one_definition.ensures s c.args.name.now c.args.«package».now c.in_ok-way-in-At.way f.it.of m.0 it
    (holds_first table (called c.args.name.now c.args.«package».now) its c.in-Some.first f c.in_ok-way-in-At.way m.0 it (h m.0 (member_first table (called c.args.name.now c.args.«package».now) its c.in-Some.first f c.in-At.place m.0 m.1)))
    (one_member c.args.rows.now c.have_one_definition.ensures s c.args.name.now c.args.«package».now c.args.number is c.requires.named c.have_one_number.ensures c.requires.nowhere c.args.reached.now (c.requires.reached s is) c.in-Some.first c.in-Some.ensures.some once (λ r. true≢false (sym (c.has_rival.ensures.1 r) ∙ c.if-has_rival.false)) c.in_ok-way-in-At.way c.in_ok-way-in-At.ensures c.in-At.place stands m.0 m.1))
    c.selected.ensures.holds

pub returns-in-Twice-clause-selection : goal.returns-in-Twice-clause-selection
returns-in-Twice-clause-selection c s is = two_members c.args.rows.now c.have_one_definition.ensures s c.args.name.now c.args.«package».now c.args.number is c.requires.named c.have_one_number.ensures c.requires.nowhere c.args.reached.now (c.requires.reached s is) c.in-Some.first c.in-Some.ensures.some (stands_first c.args.rows.now (called c.args.name.now c.args.«package».now) c.args.reached.now c.in-Some.first c.in-Some.ensures.some c.standing_in.result st.Twice c.in-Twice.is c.standing_in.ensures)
