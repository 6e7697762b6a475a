-- What the scan of a text answers.
use Rattle.std.specs.Prelude.{ℕ, ◌≡◌, ◌<◌, ◌≤◌, ◌+◌, List, ◌++◌, Bool, ◌⊎◌, Option, Some, None, IfSome, Result, Ok, Err, length, map, drop}
use Rattle.std.specs.Str.{IsUtf8, IsValidUpTo}
use Rattle.gno_scan.specs.declared.token.Pos.{Pos}
use Rattle.gno_scan.specs.declared.token.Token.{Token}
use Rattle.gno_scan.specs.declared.token.ScanFault.{ScanFault}
use Rattle.gno_scan.specs.declared.token.ScanFault.TheVariants.{At, NoMemory}
use Rattle.gno_scan.specs.declared.scanner.Scanner.{Scanner}
use Rattle.gno_scan.specs.declared.scanner.Fault.{Fault as FaultAt}
use Rattle.gno_scan.specs.Places.{place_of}
use Rattle.gno_scan.specs.Tokens.{Fault, Span, Tokens, TokensOf}

-- A text's first fault, in the order of places: it is too long, which shows at its start; a byte is no UTF-8; or its tokens
-- have a fault. At one place the byte goes first.
pub data IsFirstFault (text : List ℕ) : Fault → Type 0 where
  too_long : 1048576 < length text → IsFirstFault text (record { code = 7; at = 0 })
  bad_byte : (at : ℕ) (spans : List Span) (found : Option Fault) → length text ≤ 1048576 → IsValidUpTo text at → TokensOf text spans found → IfSome found (λ fault. at ≤ fault.at) →
      IsFirstFault text (record { code = 1; at = at })
  in_tokens : (spans : List Span) (fault : Fault) → length text ≤ 1048576 → TokensOf text spans (Some fault) → IsUtf8 text ⊎ ((at : ℕ) × IsValidUpTo text at × (fault.at < at)) → IsFirstFault text fault

-- a text without a fault, and its tokens
pub record IsFaultless (text : List ℕ) (spans : List Span) : Type 0 where
  pub not_too_long : length text ≤ 1048576
  pub utf8 : IsUtf8 text
  pub tokens : TokensOf text spans None

-- a token where it stands in its file
abbrev pub token_at : ℕ → List ℕ → Span → Token
token_at file text span = record { kind = span.kind; start = span.start; end = span.end; pos = place_of file text span.start }

-- the tokens of a text, or its first fault; want of memory is free
abbrev pub Scans : ℕ → List ℕ → Result (List Token) ScanFault → Type 0
Scans file text (Ok tokens) = (spans : List Span) × IsFaultless text spans × (tokens ≡ map (token_at file text) spans)
Scans file text (Err (At code pos)) = (at : ℕ) × IsFirstFault text (record { code = code; at = at }) × (pos ≡ place_of file text at)
Scans file text (Err NoMemory) = Unit {0}

-- the scan has come to a place: what stands there goes on with the tokens that were read
pub record HasScanned (file : ℕ) (text : List ℕ) (at : ℕ) (closed : Bool) (tokens : List Token) (pos : Pos) : Type 0 where
  pub said : List Span
  pub tokens_are : tokens ≡ map (token_at file text) said
  pub goes_on : (more : List Span) (fault : Option Fault) → Tokens at closed (drop at text) more fault → TokensOf text (said ++ more) fault
  pub pos_is : pos ≡ place_of file text at
  pub within : at ≤ length text

-- the tokens end with a fault at a place
pub record EndsAt (file : ℕ) (text : List ℕ) (code at : ℕ) (pos : Pos) : Type 0 where
  pub spans : List Span
  pub fault : TokensOf text spans (Some (record { code = code; at = at }))
  pub pos_is : pos ≡ place_of file text at

-- where a scanner stands
abbrev pub Stands : Scanner → Type 0
Stands s = HasScanned s.file s.text.now s.at s.is_closed s.tokens s.pos

-- a place that is no further from the first than so many bytes are
pub record IsNear (pos : Pos) (at : ℕ) : Type 0 where
  pub line : pos.line ≤ at + 1
  pub column : pos.column ≤ at + 1

-- the tokens of a text without a fault of its tokens
abbrev pub AreTokensOf : ℕ → List ℕ → List Token → Type 0
AreTokensOf file text tokens = (spans : List Span) × TokensOf text spans None × (tokens ≡ map (token_at file text) spans)

-- the fault of a text's tokens, if they have one
abbrev pub IsFound : ℕ → List ℕ → Option FaultAt → Type 0
IsFound file text None = (spans : List Span) × TokensOf text spans None
IsFound file text (Some fault) = EndsAt file text fault.code fault.at fault.pos
