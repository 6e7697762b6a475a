use Rattle.std.proofs.Common.{◌≡◌, refl, sym, ap, ◌∙◌, subst, ◌<◌, ◌≤◌, ◌+◌, ◌-◌, ℕ, List, length, map, take, drop, arith}
use Rattle.gno_terms.specs.Tables.{deep}
use Rattle.gno_embedding.specs.declared.ways.Reached.{Reached}
use Rattle.gno_embedding.specs.Reaching.{AreReached, IsBlocked, number_of}
use Rattle.gno_embedding.proofs.Bounds.{behind_first, blocked_from, bounded, nothing_reached, reached_from}
use Rattle.gno_embedding.proofs.walk.follow_embedded.Goals as goal

pub returns-then-not-may_embed : goal.returns-then-not-may_embed
returns-then-not-may_embed c =
    let table = c.args.rows.now in
    subst (AreReached table (deep table.types c.args.term.now)) (sym c.new.ensures)
    (nothing_reached table c.have_one_definition.ensures c.have_one_number.ensures c.args.number c.args.term.now c.requires.parts (sym c.may_embed.ensures ∙ c.if-not-may_embed.true))

pub returns-in_default : goal.returns-in_default
returns-in_default c =
    let table = c.args.rows.now in
    let nodes = c.loop-next.nodes.items.items in
    let next : ℕ = c.loop-next.next in
    let size : c.len.result ≡ length nodes = c.len.ensures ∙ c.loop-next.nodes.items.ok.0 in
    let below : next < c.len.result = c.loop-next-test.true in
    let one : next + 1 - 1 ≡ next = omega arith in
    let numbers : c.in_ok-numbers.field-0 ≡ map number_of (take next (drop 1 nodes)) =
    c.in_ok-numbers.ensures ∙ ap (λ (n : ℕ). map number_of (take n (drop 1 c.deref.result.now))) one ∙ ap (λ (xs : List Reached). map number_of (take next (drop 1 xs))) c.deref.ensures.value in
    subst (IsBlocked table (deep table.types c.args.term.now)) (sym numbers)
    (blocked_from table (deep table.types c.args.term.now) nodes next 0 c.loop-next.invariant.at.walking (omega (arith, below, size)) (c.in_default.ensures.none refl))

pub loop-next-smaller : goal.loop-next-smaller
loop-next-smaller c =
    let most = bounded c.args.rows.now (deep c.args.rows.now.types c.args.term.now) c.loop-next.nodes.items.items c.loop-next.next 0 c.loop-next.invariant.at.walking in
    omega (arith, most)

pub loop-next-preserved : goal.loop-next-preserved
loop-next-preserved c = record { at = c.in_ok-meet_fields.ensures.at; within = (let w = c.in_ok-meet_fields.ensures.within in omega (arith, w)) }

pub returns : goal.returns
returns c =
    let table = c.args.rows.now in
    let nodes = c.loop-next.nodes.items.items in
    let all : c.in_ok-from_slice.field-0 ≡ drop 1 nodes = c.in_ok-from_slice.ensures ∙ behind_first c.deref-2.result.now ∙ ap (drop 1) c.deref-2.ensures.value in
    let size : c.len.result ≡ length nodes = c.len.ensures ∙ c.loop-next.nodes.items.ok.0 in
    let past : c.len.result ≤ c.loop-next.next = c.loop-next-test.false in
    let within : c.loop-next.next ≤ length nodes = c.loop-next.invariant.within in
    subst (AreReached table (deep table.types c.args.term.now)) (sym all)
    (reached_from table c.have_one_definition.ensures (deep table.types c.args.term.now) nodes c.loop-next.next c.loop-next.invariant.at.walking (omega (arith, past, within, size)))
