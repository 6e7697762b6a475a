-- Faults that were noted apart, behind others.
use Rattle.std.proofs.Common.{◌≡◌, refl, sym, ap, ◌∙◌, List, [], ◌∷◌, Bool, true, false, if◌then◌else◌, Option, Some, None, rules}
use Rattle.gno_judging.specs.Noting.{is_before, noted, sooner}
use Rattle.gno_judging.proofs.Least.{before_is, not_before, not_past, past_at_most, past_past}
use Rattle.gno_judging.proofs.Noting.{none_is}
use Rattle.gno_scan.specs.declared.token.Pos.{Pos}
use Rattle.gno_typing.specs.declared.fault.Fault.{Fault}

both_before : (x f g : Pos) (b : Bool) → is_before x g ≡ b → is_before x f ≡ true → is_before f g ≡ true → b ≡ true
both_before x f g true e h k = refl
both_before x f g false e h k = absurd (not_past g x (not_before x g e) (past_past g f x (before_is f g k) (before_is x f h)))

neither_before : (x f g : Pos) (b : Bool) → is_before x g ≡ b → is_before x f ≡ false → is_before f g ≡ false → b ≡ false
neither_before x f g false e h k = refl
neither_before x f g true e h k = absurd (not_past g f (not_before f g k) (past_at_most g x f (before_is x g e) (not_before x f h)))

-- the first of three at the least place
abbrev pick : Bool → Fault → Fault → Fault
pick b f g = if b then f else g

first_of_three : (g f x : Fault) (b c : Bool) → is_before f.pos g.pos ≡ b → is_before x.pos f.pos ≡ c → sooner (Some (pick b f g)) x ≡ sooner (Some g) (pick c x f)
first_of_three g f x true true e d = ap (λ b. pick b x f) d ∙ sym (ap (λ b. pick b x g) (both_before x.pos f.pos g.pos (is_before x.pos g.pos) refl d e))
first_of_three g f x true false e d = ap (λ b. pick b x f) d ∙ sym (ap (λ b. pick b f g) e)
first_of_three g f x false true e d = refl
first_of_three g f x false false e d = ap (λ b. pick b x g) (neither_before x.pos f.pos g.pos (is_before x.pos g.pos) refl d e) ∙ sym (ap (λ b. pick b f g) e)

sooner_of_both : (old : Option Fault) (f x : Fault) → sooner (Some (sooner old f)) x ≡ sooner old (sooner (Some f) x)
sooner_of_both None f x = refl
sooner_of_both (Some g) f x = first_of_three g f x (is_before f.pos g.pos) (is_before x.pos f.pos) refl refl

behind_one : (old : Option Fault) (fs : List Fault) (f h : Fault) → noted (Some f) fs ≡ Some h → noted (Some (sooner old f)) fs ≡ Some (sooner old h)
behind_one old [] f h e = search (rules, e)
behind_one old (x ∷ fs) f h e = ap (λ g. noted (Some g) fs) (sooner_of_both old f x) ∙ behind_one old fs (sooner (Some f) x) h e

pub behind_none : (old : Option Fault) (fs : List Fault) → noted None fs ≡ None → old ≡ noted old fs
behind_none old fs e = ap (noted old) (sym (none_is fs e))

pub behind_some : (old : Option Fault) (fs : List Fault) (h : Fault) → noted None fs ≡ Some h → noted old (h ∷ []) ≡ noted old fs
behind_some old [] h e = absurd (search (rules, e))
behind_some old (f ∷ fs) h e = sym (behind_one old fs f h e)
