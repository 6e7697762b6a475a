use Rattle.std.proofs.Common.{◌≡◌, refl, sym, subst, ◌∙◌, List, ℕ, Option, Some, None}
use Rattle.std.specs.Prelude.{IfSome}
use Rattle.gno_terms.specs.Normal.{normal}
use Rattle.gno_terms.specs.Tables.{Is, deep}
use Rattle.gno_type_reading.specs.Known.{Known}
use Rattle.gno_terms.specs.declared.term.TypeRef.{TypeRef}
use Rattle.gno_type_reading.specs.declared.frame.FrameOf.{FrameOf}
use Rattle.gno_type_reading.proofs.Going.{Going, starts, ends, turn_opened, turn_opened_lighter, turn_parts, turn_made, turn_made_lighter, turn_wrong, turn_refused}
use Rattle.gno_type_reading.proofs.guess.guess.Goals as goal

pub parts-init : goal.parts-init
parts-init c =
    subst (λ (left : List ℕ). Going c.args.types.now c.args.text.now c.args.types.now c.new-frames.result.items None left) (sym c.new-cursor.ensures)
    (subst (λ (items : List (FrameOf TypeRef)). Going c.args.types.now c.args.text.now c.args.types.now items None c.args.text.now) (sym c.new-frames.ensures.items) (starts c.args.types.now c.args.text.now))

pub parts-smaller-in-Opened : goal.parts-smaller-in-Opened
parts-smaller-in-Opened c =
    turn_opened_lighter c.args.types.now c.args.text.now c.parts.types c.parts.frames.items c.parts.last c.parts.cursor c.parts.invariant (sym c.is_open.ensures ∙ c.parts-test.true) c.in_ok-frame.field-0 c.said.new.cursor c.said.new.frames.items c.in_ok-frame.ensures
    c.in-Opened.frame c.push.new.self.items c.in-Opened.is c.in_ok-push-in-Opened.ensures.items

pub parts-preserved-in-Opened : goal.parts-preserved-in-Opened
parts-preserved-in-Opened c =
    turn_opened c.args.types.now c.args.text.now c.parts.types c.parts.frames.items c.parts.last c.parts.cursor c.parts.invariant (sym c.is_open.ensures ∙ c.parts-test.true) c.in_ok-frame.field-0 c.said.new.cursor c.said.new.frames.items c.in_ok-frame.ensures
    c.in-Opened.frame c.push.new.self.items c.in-Opened.is c.in_ok-push-in-Opened.ensures.items

pub interned-requires : goal.interned-requires
interned-requires c =
    turn_parts c.args.types.now c.args.text.now c.parts.types c.parts.frames.items c.parts.last c.parts.cursor c.parts.invariant (sym c.is_open.ensures ∙ c.parts-test.true) c.in_ok-frame.field-0 c.said.new.cursor c.said.new.frames.items c.in_ok-frame.ensures
    c.in-Made.term c.in-Made.is

none_of : (o : Option TypeRef) → ((r : TypeRef) → o ≡ Some r → ⊥) → o ≡ None
none_of None other = refl
none_of (Some r) other = absurd (other r refl)

pub returns-in_default-clause-right : goal.returns-in_default-clause-right
returns-in_default-clause-right c s is =
    absurd (turn_wrong c.args.types.now c.args.text.now c.parts.types c.parts.frames.items c.parts.last c.parts.cursor c.parts.invariant (sym c.is_open.ensures ∙ c.parts-test.true) c.in_ok-frame.field-0 c.said.new.cursor c.said.new.frames.items c.in_ok-frame.ensures
    c.in-Made.term c.in-Made.is (c.in_ok-t-in-Made.ensures.none (none_of c.in_ok-t-in-Made.field-0 c.in_default.not-Some)) s is)

pub parts-smaller : goal.parts-smaller
parts-smaller c =
    turn_made_lighter c.args.types.now c.args.text.now c.parts.types c.parts.frames.items c.parts.last c.parts.cursor c.parts.invariant (sym c.is_open.ensures ∙ c.parts-test.true) c.in_ok-frame.field-0 c.said.new.cursor c.said.new.frames.items c.in_ok-frame.ensures
    c.in-Made.term c.in-Some.t c.in-Made.is

pub parts-preserved : goal.parts-preserved
parts-preserved c =
    let later = c.interned.new.types in
    turn_made c.args.types.now c.args.text.now c.parts.types c.parts.frames.items c.parts.last c.parts.cursor c.parts.invariant (sym c.is_open.ensures ∙ c.parts-test.true) c.in_ok-frame.field-0 c.said.new.cursor c.said.new.frames.items c.in_ok-frame.ensures
    c.in-Made.term later c.in-Some.t c.in-Made.is c.in_ok-t-in-Made.ensures.definitions c.in_ok-t-in-Made.ensures.grows
    (subst (λ (o : Option TypeRef). IfSome o (Known later)) c.in-Some.is c.in_ok-t-in-Made.ensures.known)
    (subst (λ (o : Option TypeRef). IfSome o (λ r. Is later r (normal (deep c.parts.types.types c.in-Made.term)))) c.in-Some.is c.in_ok-t-in-Made.ensures.is)

pub returns-in-Refused-clause-right : goal.returns-in-Refused-clause-right
returns-in-Refused-clause-right c s is =
    absurd (turn_refused c.args.types.now c.args.text.now c.parts.types c.parts.frames.items c.parts.last c.parts.cursor c.parts.invariant (sym c.is_open.ensures ∙ c.parts-test.true) c.in_ok-frame.field-0 c.said.new.cursor c.said.new.frames.items c.in_ok-frame.ensures
    c.in-Refused.is s is)

pub returns-clause-right : goal.returns-clause-right
returns-clause-right c = ends c.args.types.now c.args.text.now c.parts.types c.parts.frames.items c.parts.last c.parts.cursor c.parts.invariant (sym c.is_open.ensures ∙ c.parts-test.false)
