-- Characters at the front of bytes.
use Rattle.std.specs.Prelude.{ℕ, ◌≡◌, ◌≢◌, ◌≤◌, List, ◌++◌, Bool, true, All, flat_map, length, take}
use Rattle.std.specs.List.{list_all}
use Rattle.std.specs.Char.{encode_utf8, IsScalar}

-- a character that passes the test stands at the front, and has so many bytes
pub record HasFront (p : ℕ → Bool) (text : List ℕ) (n : ℕ) : Type 0 where
  pub character : ℕ
  pub scalar : IsScalar character
  pub passes : p character ≡ true
  pub spelled : take n text ≡ encode_utf8 character
  pub within : n ≤ length text

-- no character that passes the test stands at the front
abbrev pub HasNoFront : (ℕ → Bool) → List ℕ → Type 0
HasNoFront p text = (c : ℕ) (rest : List ℕ) → IsScalar c → p c ≡ true → text ≢ encode_utf8 c ++ rest

-- the bytes of characters that pass the test
pub record IsRun (p : ℕ → Bool) (word : List ℕ) : Type 0 where
  pub characters : List ℕ
  pub scalars : All IsScalar characters
  pub spelled : word ≡ flat_map encode_utf8 characters
  pub each : list_all p characters ≡ true
