-- Where the bytes that are left lead.
use Rattle.std.proofs.Common.{◌≡◌, ℕ, zero, suc, List, [], ◌∷◌, sym, subst}
use Rattle.gno_terms.specs.declared.term.GoType.{GoType}
use Rattle.gno_terms.specs.declared.term.TermOf.{TermOf}
use Rattle.gno_terms.specs.Normal.{normal}
use Rattle.gno_terms.specs.Tables.{Table}
use Rattle.gno_terms.specs.Terms.{type_of}
use Rattle.gno_type_reading.specs.Known.{MayStand}
use Rattle.gno_type_reading.specs.Turns.{Turn, turn, opened, closed}
use Rattle.gno_type_reading.specs.declared.frame.FrameOf.{FrameOf}
use Rattle.gno_type_reading.specs.declared.frame.ActionOf.{ActionOf}
use Rattle.gno_type_reading.specs.declared.frame.ActionOf.TheVariants as act

-- a type is read next, or was read
pub data State : Type 0 where
  wants : List (FrameOf GoType) → List ℕ → State
  has : List (FrameOf GoType) → GoType → List ℕ → State

abbrev pub Acts : Table → (State → Type 0) → List (FrameOf GoType) → ActionOf GoType → List ℕ → Type 0
Acts table goes frames (act.Opened f) text = goes (wants (f ∷ frames) text)
Acts table goes frames (act.Made x) text = MayStand table x × goes (has frames (normal (type_of x)) text)
Acts table goes frames act.Refused text = ⊥

-- in fewer turns than n the type is read
abbrev pub Leads : Table → GoType → ℕ → State → Type 0
Leads table s zero state = ⊥
Leads table s (suc n) (wants frames text) = Acts table (Leads table s n) frames (opened {A = GoType} text).action (opened {A = GoType} text).rest
Leads table s (suc n) (has [] of text) = of ≡ s
Leads table s (suc n) (has (f ∷ frames) of text) = Acts table (Leads table s n) frames (closed f of text).action (closed f of text).rest

module _ (table : Table) (s : GoType) where
  abbrev pub LeadsTo : State → Type 0
  LeadsTo state = (n : ℕ) × Leads table s n state

  abbrev pub ActsTo : List (FrameOf GoType) → Turn GoType → Type 0
  ActsTo frames t = (n : ℕ) × Acts table (Leads table s n) frames t.action t.rest

  pub by_opening : (frames : List (FrameOf GoType)) (text : List ℕ) (t : Turn GoType) → opened text ≡ t → ActsTo frames t → LeadsTo (wants frames text)
  by_opening frames text t e h = (suc h.0, subst (λ (t : Turn GoType). Acts table (Leads table s h.0) frames t.action t.rest) (sym e) h.1)

  pub by_closing : (f : FrameOf GoType) (frames : List (FrameOf GoType)) (of : GoType) (text : List ℕ) (t : Turn GoType) → closed f of text ≡ t → ActsTo frames t → LeadsTo (has (f ∷ frames) of text)
  by_closing f frames of text t e h = (suc h.0, subst (λ (t : Turn GoType). Acts table (Leads table s h.0) frames t.action t.rest) (sym e) h.1)

  -- texts that open alike lead alike
  pub alike : (frames : List (FrameOf GoType)) (text other : List ℕ) → opened {A = GoType} text ≡ opened other → LeadsTo (wants frames text) → LeadsTo (wants frames other)
  alike frames text other e h = from h.0 h.1
    where
      from : (n : ℕ) → Leads table s n (wants frames text) → LeadsTo (wants frames other)
      from zero h = absurd h
      from (suc n) h = (suc n, subst (λ (t : Turn GoType). Acts table (Leads table s n) frames t.action t.rest) e h)

  pub opens : (f : FrameOf GoType) (frames : List (FrameOf GoType)) (text : List ℕ) → LeadsTo (wants (f ∷ frames) text) → ActsTo frames (turn (act.Opened f) text)
  opens f frames text h = h

  pub makes : (x : TermOf GoType) (of : GoType) (frames : List (FrameOf GoType)) (text : List ℕ) → MayStand table x → normal (type_of x) ≡ of → LeadsTo (has frames of text) → ActsTo frames (turn (act.Made x) text)
  makes x of frames text okay e h = (h.0, (okay, subst (λ (of : GoType). Leads table s h.0 (has frames of text)) (sym e) h.1))
