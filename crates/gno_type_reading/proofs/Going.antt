-- The turns of the loop that guesses a type.
use Rattle.std.proofs.Common.{◌≡◌, refl, ap, ap₂, sym, subst, true≢false, true, false, ◌∙◌, ℕ, zero, suc, ◌+◌, ◌*◌, ◌≤◌, ◌<◌, arith, List, [], ◌∷◌, ◌++◌, length, length-append, map, reverse, Option, Some, None}
use Rattle.std.specs.Prelude.{IfSome, ⊤}
use Rattle.std.proofs.lemmas.List.{reverse-append, length-reverse}
use Rattle.gno_terms.specs.declared.term.GoType.{GoType}
use Rattle.gno_terms.specs.declared.term.TypeRef.{TypeRef}
use Rattle.gno_terms.specs.declared.term.TermOf.{TermOf}
use Rattle.gno_terms.specs.Lawful.{Each}
use Rattle.gno_terms.specs.Normal.{normal}
use Rattle.gno_terms.specs.Tables.{Table, Is, Grows, type_at, type_or, deep}
use Rattle.gno_terms.specs.Terms.{term_with, parts}
use Rattle.gno_terms.proofs.Parts.{Each-weaken}
use Rattle.gno_type_reading.specs.declared.frame.FrameOf.{FrameOf}
use Rattle.gno_type_reading.specs.declared.frame.ActionOf.{ActionOf}
use Rattle.gno_type_reading.specs.declared.frame.ActionOf.TheVariants as act
use Rattle.gno_type_reading.specs.Frames.{frame_with, action_with, frame_parts, action_parts, Says, is_open}
use Rattle.gno_type_reading.specs.Known.{Known, MayStand}
use Rattle.gno_type_reading.specs.Turns.{Turn, turn, opened}
use Rattle.gno_type_reading.specs.TypeTexts.{IsTypeText}
use Rattle.gno_type_reading.proofs.Leads.{State, wants, has, Acts, Leads, LeadsTo, ActsTo}
use Rattle.gno_type_reading.proofs.Through.{turn_with, opened_with, closed_with, frame_alike, opened_hold, closed_hold}
use Rattle.gno_type_reading.proofs.Advances.{opened_fewer, made_fewer, closed_within}
use Rattle.gno_type_reading.proofs.Standing.{may_later, known_later, at_later, known_at}
use Rattle.gno_type_reading.proofs.Complete.{leads}

abbrev Frames : Type 0
Frames = List (FrameOf TypeRef)

abbrev state : (TypeRef → GoType) → Frames → Option TypeRef → List ℕ → State
state f frames None left = wants (map (frame_with f) frames) left
state f frames (Some r) left = has (map (frame_with f) frames) (f r) left

abbrev KnownFrame : Table → FrameOf TypeRef → Type 0
KnownFrame table x = Each (Known table) (frame_parts x)

-- where the loop stands: the frames, the last of which is open innermost, the part that was read last, and the bytes that are left
pub record Going (old : Table) (text : List ℕ) (table : Table) (items : Frames) (last : Option TypeRef) (left : List ℕ) : Type 0 where
  pub grows : Grows old table
  pub definitions : table.definitions ≡ old.definitions
  pub frames : Each (KnownFrame table) (reverse items)
  pub part : IfSome last (Known table)
  pub leads : (s : GoType) → IsTypeText old text s → LeadsTo old s (state (type_at table.types) (reverse items) last left)

-- where it stands once something is said
pub record Acting (old : Table) (text : List ℕ) (table : Table) (frames : Frames) (action : ActionOf TypeRef) (rest : List ℕ) : Type 0 where
  pub grows : Grows old table
  pub definitions : table.definitions ≡ old.definitions
  pub frames_known : Each (KnownFrame table) frames
  pub parts : Each (Known table) (action_parts action)
  pub acts : (s : GoType) → IsTypeText old text s → ActsTo old s (map (frame_with (type_at table.types)) frames) (turn (action_with (type_at table.types) action) rest)

pub starts : (old : Table) (text : List ℕ) → Going old text old [] None text
starts old text = record { grows = λ r s is. is; definitions = refl; frames = tt; part = tt; leads = λ s is. leads old text s is }

-- something is open, or no part was read
abbrev GoesOn : Frames → Option TypeRef → Type 0
GoesOn frames None = ⊤
GoesOn [] (Some of) = ⊥
GoesOn (f ∷ frames) (Some of) = ⊤

module _ (old : Table) (s : GoType) (f : TypeRef → GoType) where
  said_acts : (frames : Frames) (last : Option TypeRef) (left : List ℕ) (action : ActionOf TypeRef) (rest : List ℕ) (after : Frames) → GoesOn frames last → Says frames last left action rest after
      → LeadsTo old s (state f frames last left) → ActsTo old s (map (frame_with f) after) (turn (action_with f action) rest)
  said_acts frames None left action rest after goes says h = from h.0 h.1
    where
      from : (n : ℕ) → Leads old s n (wants (map (frame_with f) frames) left) → ActsTo old s (map (frame_with f) after) (turn (action_with f action) rest)
      from zero h = absurd h
      from (suc n) h = (
        n,
        subst (λ (l : Frames). Acts old (Leads old s n) (map (frame_with f) l) (action_with f action) rest) (sym says.1)
            (subst (λ (u : Turn GoType). Acts old (Leads old s n) (map (frame_with f) frames) u.action u.rest) (sym (ap (turn_with f) says.0 ∙ opened_with f left)) h),
      )
  said_acts [] (Some of) left action rest after goes says h = absurd goes
  said_acts (x ∷ frames) (Some of) left action rest after goes says h = from h.0 h.1
    where
      from : (n : ℕ) → Leads old s n (has (map (frame_with f) (x ∷ frames)) (f of) left) → ActsTo old s (map (frame_with f) after) (turn (action_with f action) rest)
      from zero h = absurd h
      from (suc n) h = (
        n,
        subst (λ (l : Frames). Acts old (Leads old s n) (map (frame_with f) l) (action_with f action) rest) (sym says.1)
            (subst (λ (u : Turn GoType). Acts old (Leads old s n) (map (frame_with f) frames) u.action u.rest) (sym (ap (turn_with f) says.0 ∙ closed_with f x of left)) h),
      )

module _ (P : TypeRef → Type 0) where
  abbrev EachPart : FrameOf TypeRef → Type 0
  EachPart x = Each P (frame_parts x)

  said_parts : (frames : Frames) (last : Option TypeRef) (left : List ℕ) (action : ActionOf TypeRef) (rest : List ℕ) (after : Frames) → GoesOn frames last → Says frames last left action rest after
      → Each EachPart frames → IfSome last P → Each EachPart after × Each P (action_parts action)
  said_parts frames None left action rest after goes says h k =
      (subst (Each EachPart) (sym says.1) h, subst (λ (u : Turn TypeRef). Each P (action_parts u.action)) (sym says.0) (opened_hold P left))
  said_parts [] (Some of) left action rest after goes says h k = absurd goes
  said_parts (x ∷ frames) (Some of) left action rest after goes says h k =
      (subst (Each EachPart) (sym says.1) h.1, subst (λ (u : Turn TypeRef). Each P (action_parts u.action)) (sym says.0) (closed_hold P x of left h.0 k))

pub says_acting : (old : Table) (text : List ℕ) (table : Table) (items : Frames) (last : Option TypeRef) (left : List ℕ) (action : ActionOf TypeRef) (rest : List ℕ) (after : Frames)
    → Going old text table items last left → GoesOn (reverse items) last → Says (reverse items) last left action rest after → Acting old text table after action rest
says_acting old text table items last left action rest after going goes says =
    let known = said_parts (Known table) (reverse items) last left action rest after goes says going.frames going.part in
    record {
      grows = going.grows;
      definitions = going.definitions;
      frames_known = known.0;
      parts = known.1;
      acts = λ s is. said_acts old s (type_at table.types) (reverse items) last left action rest after goes says (going.leads s is);
    }

pub opened_going : (old : Table) (text : List ℕ) (table : Table) (items : Frames) (f : FrameOf TypeRef) (rest : List ℕ) → Acting old text table (reverse items) (act.Opened f) rest → Going old text table (items ++ f ∷ []) None rest
opened_going old text table items f rest acting =
    let e : reverse (items ++ f ∷ []) ≡ f ∷ reverse items = reverse-append items (f ∷ []) in
    record {
      grows = acting.grows;
      definitions = acting.definitions;
      frames = subst (Each (KnownFrame table)) (sym e) (acting.parts, acting.frames_known);
      part = tt;
      leads = λ s is. subst (λ (l : Frames). LeadsTo old s (state (type_at table.types) l None rest)) (sym e) (acting.acts s is);
    }

frames_later : (table later : Table) → later.definitions ≡ table.definitions → Grows table later → (frames : Frames) → Each (KnownFrame table) frames
    → map (frame_with (type_at table.types)) frames ≡ map (frame_with (type_at later.types)) frames
frames_later table later same grown [] h = refl
frames_later table later same grown (x ∷ frames) h =
    ap₂ (λ y ys. y ∷ ys) (frame_alike (type_at table.types) (type_at later.types) x (Each-weaken _ _ (at_later table later same grown) (frame_parts x) h.0)) (frames_later table later same grown frames h.1)

module _ (old : Table) (text : List ℕ) (table later : Table) (items : Frames) (x : TermOf TypeRef) (rest : List ℕ) (same : later.definitions ≡ table.definitions) (grown : Grows table later) where
  pub made_going : (r : TypeRef) → Acting old text table (reverse items) (act.Made x) rest → Known later r → Is later r (normal (deep table.types x)) → Going old text later items (Some r) rest
  made_going r acting known is = record {
    grows = λ n s h. grown n s (acting.grows n s h);
    definitions = same ∙ acting.definitions;
    frames = Each-weaken _ _ (λ f h. Each-weaken _ _ (known_later table later same grown) (frame_parts f) h) (reverse items) acting.frames_known;
    part = known;
    leads = λ s h.
        let acts = acting.acts s h in (
          acts.0,
          subst (λ (l : List (FrameOf GoType)). Leads old s acts.0 (has l (type_at later.types r) rest)) (frames_later table later same grown (reverse items) acting.frames_known)
              (subst (λ (u : GoType). Leads old s acts.0 (has (map (frame_with (type_at table.types)) (reverse items)) u rest)) (sym (ap type_or is)) acts.1.1),
        );
  }

pub refused_wrong : (old : Table) (text : List ℕ) (table : Table) (frames : Frames) (rest : List ℕ) → Acting old text table frames act.Refused rest → (s : GoType) → IsTypeText old text s → ⊥
refused_wrong old text table frames rest acting s is = (acting.acts s is).1

pub made_wrong : (old : Table) (text : List ℕ) (table : Table) (frames : Frames) (x : TermOf TypeRef) (rest : List ℕ) → Acting old text table frames (act.Made x) rest
    → (MayStand table (term_with (type_at table.types) x) → ⊥) → (s : GoType) → IsTypeText old text s → ⊥
made_wrong old text table frames x rest acting wrong s is = wrong (may_later old table acting.definitions (term_with (type_at table.types) x) (acting.acts s is).1.0)

pub ends_right : (old : Table) (text : List ℕ) (table : Table) (items : Frames) (r : TypeRef) (left : List ℕ) → items ≡ [] → Going old text table items (Some r) left → (s : GoType) → IsTypeText old text s → Is table r s
ends_right old text table items r left e going s is = from h.0 h.1
  where
    h : LeadsTo old s (has [] (type_at table.types r) left)
    h = subst (λ (l : Frames). LeadsTo old s (state (type_at table.types) (reverse l) (Some r) left)) e (going.leads s is)

    from : (n : ℕ) → Leads old s n (has [] (type_at table.types r) left) → Is table r s
    from zero h = absurd h
    from (suc n) h = subst (Is table r) (sym (known_at table r going.part) ∙ h) going.part.is

-- ---- the measure

abbrev flag : Option TypeRef → ℕ
flag None = 0
flag (Some r) = 1

abbrev pub weight : List ℕ → Frames → Option TypeRef → ℕ
weight left items last = (3 * length left + length items) + flag last

-- what is said weighs less, by two at least
lighter : (frames : Frames) (last : Option TypeRef) (left : List ℕ) (action : ActionOf TypeRef) (rest : List ℕ) (after : Frames) → GoesOn frames last → Says frames last left action rest after
    → (turn action rest ≡ opened left → length rest < length left) → (3 * length rest + length after) + 1 < (3 * length left + length frames) + flag last
lighter frames None left action rest after goes says fewer =
    let bytes = fewer says.0 in
    let open_frames : length after ≡ length frames = ap length says.1 in
    omega (arith, bytes, open_frames)
lighter [] (Some of) left action rest after goes says fewer = absurd goes
lighter (x ∷ frames) (Some of) left action rest after goes says fewer =
    let bytes : length rest ≤ length left = subst (λ (u : Turn TypeRef). length u.rest ≤ length left) (sym says.0) (closed_within x of left) in
    let open_frames : length after ≡ length frames = ap length says.1 in
    omega (arith, bytes, open_frames)

module _ (items after : Frames) (last : Option TypeRef) (left rest : List ℕ) (goes : GoesOn (reverse items) last) where
  pub opened_lighter : (f : FrameOf TypeRef) → Says (reverse items) last left (act.Opened f) rest (reverse after) → weight rest (after ++ f ∷ []) None < weight left items last
  opened_lighter f says =
      let t = lighter (reverse items) last left (act.Opened f) rest (reverse after) goes says (opened_fewer TypeRef left f rest) in
      omega (arith, t, length-reverse items, length-reverse after, length-append after (f ∷ []))

  pub made_lighter : (x : TermOf TypeRef) (r : TypeRef) → Says (reverse items) last left (act.Made x) rest (reverse after) → weight rest after (Some r) < weight left items last
  made_lighter x r says =
      let t = lighter (reverse items) last left (act.Made x) rest (reverse after) goes says (made_fewer TypeRef left x rest) in
      omega (arith, t, length-reverse items, length-reverse after)

-- ---- the turns, as the code takes them

some_open : (frames : Frames) (r : TypeRef) → 0 < length frames → GoesOn frames (Some r)
some_open [] r h = absurd (omega (arith, h))
some_open (x ∷ frames) r h = tt

goes_by : (items : Frames) (last : Option TypeRef) → is_open items last ≡ true → GoesOn (reverse items) last
goes_by items None e = tt
goes_by [] (Some r) e = absurd (true≢false (sym e))
goes_by (x ∷ items) (Some r) e = some_open (reverse (x ∷ items)) r (omega (arith, length-reverse (x ∷ items)))

module _ (old : Table) (text : List ℕ) (table : Table) (items : Frames) (last : Option TypeRef) (left : List ℕ) (going : Going old text table items last left) where
  pub ends : is_open items last ≡ false → (s : GoType) → IsTypeText old text s → (r : TypeRef) × (last ≡ Some r) × Is table r s
  ends e s is = at items last e going
    where
      at : (items : Frames) (last : Option TypeRef) → is_open items last ≡ false → Going old text table items last left → (r : TypeRef) × (last ≡ Some r) × Is table r s
      at items None e going = absurd (true≢false e)
      at [] (Some r) e going = (r, refl, ends_right old text table [] r left refl going s is)
      at (x ∷ items) (Some r) e going = absurd (true≢false e)

  module _ (goes : is_open items last ≡ true) (action : ActionOf TypeRef) (rest : List ℕ) (after : Frames) (says : Says (reverse items) last left action rest (reverse after)) where
    acting_of : (x : ActionOf TypeRef) → action ≡ x → Acting old text table (reverse after) x rest
    acting_of x e = subst (λ (y : ActionOf TypeRef). Acting old text table (reverse after) y rest) e (says_acting old text table items last left action rest (reverse after) going (goes_by items last goes) says)

    said_as : (x : ActionOf TypeRef) → action ≡ x → Says (reverse items) last left x rest (reverse after)
    said_as x e = subst (λ (y : ActionOf TypeRef). Says (reverse items) last left y rest (reverse after)) e says

    pub turn_opened : (f : FrameOf TypeRef) (now : Frames) → action ≡ act.Opened f → now ≡ after ++ f ∷ [] → Going old text table now None rest
    turn_opened f now e d = subst (λ (l : Frames). Going old text table l None rest) (sym d) (opened_going old text table after f rest (acting_of (act.Opened f) e))

    pub turn_opened_lighter : (f : FrameOf TypeRef) (now : Frames) → action ≡ act.Opened f → now ≡ after ++ f ∷ [] → weight rest now None < weight left items last
    turn_opened_lighter f now e d = subst (λ (l : Frames). weight rest l None < weight left items last) (sym d) (opened_lighter items after last left rest (goes_by items last goes) f (said_as (act.Opened f) e))

    pub turn_parts : (x : TermOf TypeRef) → action ≡ act.Made x → Each (Known table) (parts x)
    turn_parts x e = (acting_of (act.Made x) e).parts

    pub turn_made : (x : TermOf TypeRef) (later : Table) (r : TypeRef) → action ≡ act.Made x → later.definitions ≡ table.definitions → Grows table later → Known later r → Is later r (normal (deep table.types x))
        → Going old text later after (Some r) rest
    turn_made x later r e same grown known is = made_going old text table later after x rest same grown r (acting_of (act.Made x) e) known is

    pub turn_made_lighter : (x : TermOf TypeRef) (r : TypeRef) → action ≡ act.Made x → weight rest after (Some r) < weight left items last
    turn_made_lighter x r e = made_lighter items after last left rest (goes_by items last goes) x r (said_as (act.Made x) e)

    pub turn_wrong : (x : TermOf TypeRef) → action ≡ act.Made x → (MayStand table (term_with (type_at table.types) x) → ⊥) → (s : GoType) → IsTypeText old text s → ⊥
    turn_wrong x e wrong s is = made_wrong old text table (reverse after) x rest (acting_of (act.Made x) e) wrong s is

    pub turn_refused : action ≡ act.Refused → (s : GoType) → IsTypeText old text s → ⊥
    turn_refused e s is = refused_wrong old text table (reverse after) rest (acting_of act.Refused e) s is
