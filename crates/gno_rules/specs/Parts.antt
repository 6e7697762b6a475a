-- What the productions are written with.
use Rattle.std.specs.Prelude.{ℕ, ◌-◌, Bool, true, false, not, List, [], ◌∷◌, ◌++◌, Option, Some, None, take, drop}
use Rattle.gno_grammar.specs.Phrases.{Phrase, nothing, token, both, either, follow, repeat, optional}
use Rattle.gno_scan.specs.declared.kind.TokenKind.{TokenKind}
use Rattle.gno_scan.specs.declared.kind.TokenKind.TheVariants as k
use Rattle.gno_scan.specs.declared.token.Token.{Token}
use Rattle.gno_tree.specs.declared.statement.Block.{Block}
use Rattle.gno_tree.specs.declared.statement.Case.{Case}
use Rattle.gno_tree.specs.declared.expr.Step.{Step}
use Rattle.gno_tree.specs.declared.word.Literal.{Literal}
use Rattle.gno_tree.specs.declared.word.LiteralKind.{LiteralKind}
use Rattle.gno_tree.specs.declared.word.LiteralKind.TheVariants as l
use Rattle.gno_tree.specs.declared.word.Name.{Name}
use Rattle.gno_rules.specs.Kinds.{number, numbers}
use Rattle.gno_rules.specs.declared.expression.Elements.{Elements}
use Rattle.gno_rules.specs.declared.expression.Found.{Found}
use Rattle.gno_rules.specs.declared.rule.Rule.{Rule}
use Rattle.gno_rules.specs.declared.rule.Rule.TheVariants as r
use Rattle.gno_rules.specs.declared.types.OperandType.{OperandType}
use Rattle.gno_rules.specs.declared.types.TypeRead.{TypeRead}

-- what each construct gives
abbrev pub gives : Rule → Type 0
gives r.Type = TypeRead
gives r.OtherType = TypeRead
gives r.ResultType = TypeRead
gives r.DeclaredType = TypeRead
gives r.OperandType = OperandType
gives r.Function = Found
gives r.HeaderFunction = Found
gives r.Paren = Found
gives r.Index = Step
gives r.Arguments = Step
gives r.Elements = Elements
gives r.Unary = Found
gives r.HeaderUnary = Found
gives r.Block = Block
gives r.SwitchBody = List Case

abbrev pub P : Type 0 → Type 1
P A = Phrase Token Rule gives A

-- a token of this kind, and of one of these
abbrev pub a : TokenKind → P Token
a kind = token (number kind ∷ [])

abbrev pub any : List TokenKind → P Token
any kinds = token (numbers kinds)

-- a function of what a phrase reads
abbrev pub to : {A B : Type 0} → (A → B) → P A → P B
to f g = both {B = Unit {0}} (λ x _. f x) g (nothing tt)

-- the same, where what may follow depends on the value: at each value, and at any
abbrev pub given : {A B : Type 0} → (B → List ℕ) → List ℕ → (A → B) → P A → P B
given m w f g = follow {B = Unit {0}} m w [] (λ x _. f x) g (λ _. nothing tt)

-- one phrase, and then one that counts; one phrase that counts, and then another
abbrev pub past : {A B : Type 0} → P A → P B → P B
past g h = both (λ _ y. y) g h

abbrev pub up_to : {A B : Type 0} → P A → P B → P A
up_to g h = both (λ x _. x) g h

abbrev pub always : {A : Type 0} → A → Bool
always x = true

abbrev pub one : {A : Type 0} → A → List A
one x = x ∷ []

abbrev pub with_last : {A : Type 0} → List A → A → List A
with_last xs x = xs ++ x ∷ []

-- one item or more, with commas between them
abbrev pub separated : {A : Type 0} → P A → P (List A)
separated item = repeat always with_last (to one item) (past (a k.Comma) item)

-- one item or more with separators of this kind between them, and perhaps one behind; the flag says that one is
abbrev pub with_item : {A : Type 0} → List A × Bool → Option A → List A × Bool
with_item xs (Some x) = (xs.0 ++ x ∷ [], false)
with_item xs None = (xs.0, true)

abbrev pub listed : {A : Type 0} → TokenKind → P A → P (List A × Bool)
listed separator item = repeat (λ xs. not xs.1) with_item (to (λ x. (x ∷ [], false)) item) (past (a separator) (optional item))

-- any number of items with separators, then a token of that kind
abbrev pub closed_list : {A : Type 0} → TokenKind → TokenKind → P A → P (List A)
closed_list separator closer item = either (to (λ _. []) (a closer)) (to (λ xs. xs.0) (up_to (listed separator item) (a closer)))

abbrev pub literal_kind : TokenKind → LiteralKind
literal_kind k.Integer = l.Integer
literal_kind k.Rune = l.Rune
literal_kind _ = l.String

module _ (text : List ℕ) where
  -- the bytes of a token
  abbrev pub spelling : Token → List ℕ
  spelling t = take (t.end - t.start) (drop t.start text)

  abbrev pub name_of : Token → Name
  name_of t = record { text = spelling t; pos = t.pos }

  abbrev pub literal_of : Token → Literal
  literal_of t = record { kind = literal_kind t.kind; spelling = spelling t; pos = t.pos }

  unfoldable pub name : P Name
  name = to name_of (a k.Name)

  -- Names = name { "," name } .
  unfoldable pub names : P (List Name)
  names = separated name

  unfoldable pub dotted : P Name
  dotted = past (a k.Period) name
