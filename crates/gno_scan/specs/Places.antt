-- Where a byte of a text stands: its line and its column, both from 1. A column counts bytes.
use Rattle.std.specs.Prelude.{ℕ, ◌+◌, ◌==◌, List, [], ◌∷◌, if◌then◌else◌, take}
use Rattle.std.specs.Str.{byte}
use Rattle.gno_scan.specs.declared.token.Pos.{Pos}

-- the place behind a byte
abbrev pub behind_byte : Pos → ℕ → Pos
behind_byte pos b =
    if b == byte "\n" then record { file = pos.file; line = pos.line + 1; column = 1 }
    else record { file = pos.file; line = pos.line; column = pos.column + 1 }

-- the place behind some bytes
abbrev pub behind : Pos → List ℕ → Pos
behind pos [] = pos
behind pos (b ∷ bs) = behind (behind_byte pos b) bs

-- the place of the first byte of a file
abbrev pub first_of : ℕ → Pos
first_of file = record { file = file; line = 1; column = 1 }

-- the place behind so many bytes of a text
abbrev pub place_of : ℕ → List ℕ → ℕ → Pos
place_of file text at = behind (first_of file) (take at text)
