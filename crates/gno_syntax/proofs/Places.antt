-- Where the token of a number stands, or the text ends.
use Rattle.std.proofs.Common.{◌≡◌, refl, sym, ap, ℕ, zero, suc, List, [], ◌∷◌, Some, None, drop}
use Rattle.std.specs.Prelude.{Option, slice_get}
use Rattle.gno_scan.specs.declared.token.Pos.{Pos}
use Rattle.gno_scan.specs.declared.token.Token.{Token}
use Rattle.gno_syntax.specs.Parsing.{place_of}

none_some : {t : Token} → None ≡ Some t → ⊥
none_some e = cc

some_some : {t u : Token} → Some t ≡ Some u → t ≡ u
some_some e = cc

pub place_there : (end : Pos) (ts : List Token) (at : ℕ) (t : Token) → slice_get ts at ≡ Some t → place_of end (drop at ts) ≡ t.pos
place_there end [] at t e = absurd (none_some e)
place_there end (u ∷ ts) zero t e = ap (λ (t : Token). t.pos) (some_some e)
place_there end (u ∷ ts) (suc at) t e = place_there end ts at t e

pub place_past : (end : Pos) (ts : List Token) (at : ℕ) → slice_get ts at ≡ None → place_of end (drop at ts) ≡ end
place_past end [] zero e = refl
place_past end [] (suc at) e = refl
place_past end (u ∷ ts) zero e = absurd (none_some (sym e))
place_past end (u ∷ ts) (suc at) e = place_past end ts at e
