-- The answer of the parser: the outcome of a text's tokens, with the place of what is refused.
use Rattle.std.specs.Prelude.{◌≡◌, ℕ, ◌-◌, List, [], ◌∷◌, length, drop, Option, Some, None, Result, Ok, Err}
use Rattle.gno_grammar.specs.declared.refusal.LeftOut.{LeftOut}
use Rattle.gno_grammar.specs.declared.refusal.Refusal.{Refusal}
use Rattle.gno_grammar.specs.declared.refusal.Refusal.TheVariants.{Unexpected, TooDeep, LeftOut as leaves_out}
use Rattle.gno_grammar.specs.Readers.{refused}
use Rattle.gno_scan.specs.Places.{behind, first_of}
use Rattle.gno_scan.specs.declared.token.Pos.{Pos}
use Rattle.gno_scan.specs.declared.token.Token.{Token}
use Rattle.gno_rules.specs.Files.{IsOutcome}
use Rattle.gno_syntax.specs.declared.fault.SyntaxFault.{SyntaxFault}
use Rattle.gno_syntax.specs.declared.fault.SyntaxFault.TheVariants.{At, NoMemory}

abbrev pub code_of : Refusal → ℕ
code_of Unexpected = 20
code_of TooDeep = 21
code_of (leaves_out form count) = 22

abbrev pub form_of : Refusal → Option LeftOut
form_of Unexpected = None
form_of TooDeep = None
form_of (leaves_out form count) = Some form

-- how many tokens before the refused one the form began
abbrev pub begun : Refusal → ℕ
begun Unexpected = 0
begun TooDeep = 0
begun (leaves_out form count) = count

-- where the next token stands, or, where none is left, the text ends
abbrev pub place_of : Pos → List Token → Pos
place_of end [] = end
place_of end (t ∷ ts) = t.pos

-- where a refusal is reported: at the refused token, or at the one with which the form began
abbrev pub refused_at : Pos → List Token → Refusal → List Token → Pos
refused_at end tokens refusal rest = place_of end (drop (length tokens - length rest - begun refusal) tokens)

-- the end of a text in the file of that number
abbrev pub end_of : ℕ → List ℕ → Pos
end_of file text = behind (first_of file) text

-- a fault is that of the one outcome of the tokens: what is refused there, and where
abbrev pub IsFault : ℕ → List ℕ → List Token → SyntaxFault → Type 0
IsFault file text tokens NoMemory = Unit {0}
IsFault file text tokens (At code pos form) = (refusal : Refusal) × (rest : List Token) × IsOutcome text tokens (refused refusal rest)
    × (code ≡ code_of refusal) × (form ≡ form_of refusal) × (pos ≡ refused_at (end_of file text) tokens refusal rest)
