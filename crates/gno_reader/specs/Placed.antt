-- A value that depends on the place of a token before it.
use Rattle.gno_scan.specs.declared.token.Pos.{Pos}

abbrev pub placed : {A : Type 0} → Pos → (Pos → A) → A
placed pos f = f pos
