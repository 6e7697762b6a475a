-- What the pieces of a text stand for, over the texts of types.
use Rattle.std.specs.Prelude.{ℕ, ◌≡◌, ◌+◌, ◌*◌, ◌≤◌, List, [], ◌∷◌, ◌++◌, map, drop, codes, length, Bool, true, if◌then◌else◌, ⊤}
use Rattle.gno_terms.specs.declared.term.GoType.{GoType}
use Rattle.gno_terms.specs.declared.term.TypeRef.{TypeRef}
use Rattle.gno_terms.specs.declared.term.FieldOf.{FieldOf}
use Rattle.gno_terms.specs.declared.term.MethodOf.{MethodOf}
use Rattle.gno_terms.specs.Lawful.{Each, Last, IsLawfulMethod, is_function, is_slice}
use Rattle.gno_terms.specs.Tables.{Below, type_at}
use Rattle.gno_terms.specs.Terms.{term_of, field_of, method_of, field_with, method_with}
use Rattle.gno_terms.specs.Texts.{joined, variadic_texts, results_text, field_text, method_text, type_text}
use Rattle.gno_type_texts.specs.declared.piece.Piece.{Piece}
use Rattle.gno_type_texts.specs.declared.piece.Piece.TheVariants as p
use Rattle.gno_type_texts.specs.declared.writer.Writer.{Writer}

-- the texts behind a first one
abbrev pub more_text : List ℕ → List (List ℕ) → List ℕ
more_text separator [] = []
more_text separator (text ∷ texts) = separator ++ joined separator (text ∷ texts)

-- the texts of parameters, of which the last may be variadic
abbrev pub param_texts : Bool → List (List ℕ) → List (List ℕ)
param_texts variadic texts = if variadic then variadic_texts texts else texts

abbrev pub field_texts : (TypeRef → List ℕ) → List (FieldOf TypeRef) → List (List ℕ)
field_texts at fs = map field_text (map (field_with at) fs)

abbrev pub method_texts : (TypeRef → List ℕ) → List (MethodOf TypeRef) → List (List ℕ)
method_texts at ms = map method_text (map (method_with at) ms)

abbrev pub piece_text : (TypeRef → List ℕ) → Piece → List ℕ
piece_text at (p.Text text) = text.now
piece_text at (p.Type t) = at t
piece_text at (p.Signature t) = drop 4 (at t)
piece_text at (p.Variadic t) = codes "..." ++ drop 2 (at t)
piece_text at (p.MoreParams ts variadic) = more_text (codes ", ") (param_texts variadic (map at ts.now))
piece_text at (p.Results ts) = results_text (map at ts.now)
piece_text at (p.MoreFields fs) = more_text (codes "; ") (field_texts at fs.now)
piece_text at (p.MoreMethods ms) = more_text (codes "; ") (method_texts at ms.now)

-- the pieces of a stack, the last one first
unfoldable pub stack_text : (TypeRef → List ℕ) → List Piece → List ℕ
stack_text at [] = []
stack_text at (piece ∷ pieces) = stack_text at pieces ++ piece_text at piece

-- what is written, and behind it what is still to be written
abbrev pub whole_text : (TypeRef → List ℕ) → Writer → List ℕ
whole_text at w = w.text ++ stack_text at w.pieces

-- the text of the type that a number stands for
abbrev pub text_at : List GoType → TypeRef → List ℕ
text_at types t = type_text (type_at types t)

-- parameters of types that stand in the table, of which the last is a slice where it is variadic
abbrev pub ArePieceParams : List GoType → List TypeRef → Bool → Type 0
ArePieceParams types ts variadic = Each (Below (length types)) ts × (variadic ≡ true → Last (λ s. is_slice (term_of s) ≡ true) (map (type_at types) ts))

-- methods of functions that stand in the table
abbrev pub ArePieceMethods : List GoType → List (MethodOf TypeRef) → Type 0
ArePieceMethods types ms = Each (Below (length types)) (map method_of ms) × Each IsLawfulMethod (map (method_with (type_at types)) ms)

-- the piece is of types that stand in the table, and a function or a slice where it says so
abbrev pub IsGoodPiece : List GoType → Piece → Type 0
IsGoodPiece types (p.Text text) = ⊤
IsGoodPiece types (p.Type t) = Below (length types) t
IsGoodPiece types (p.Signature t) = Below (length types) t × (is_function (term_of (type_at types t)) ≡ true)
IsGoodPiece types (p.Variadic t) = Below (length types) t × (is_slice (term_of (type_at types t)) ≡ true)
IsGoodPiece types (p.MoreParams ts variadic) = ArePieceParams types ts.now variadic
IsGoodPiece types (p.Results ts) = Each (Below (length types)) ts.now
IsGoodPiece types (p.MoreFields fs) = Each (Below (length types)) (map field_of fs.now)
IsGoodPiece types (p.MoreMethods ms) = ArePieceMethods types ms.now

unfoldable pub AreGood : List GoType → Writer → Type 0
AreGood types w = Each (IsGoodPiece types) w.pieces

-- the text is added to what is written, or in pieces to what is still to be written
abbrev pub AddsOf : (TypeRef → List ℕ) → Writer → Writer → List ℕ → Type 0
AddsOf at old new text = whole_text at new ≡ old.text ++ (text ++ stack_text at old.pieces)

-- whatever the texts of types are
abbrev pub Adds : Writer → Writer → ((TypeRef → List ℕ) → List ℕ) → Type 0
Adds old new text = (at : TypeRef → List ℕ) → AddsOf at old new (text at)

-- each byte that is written allows for four new pieces
abbrev pub Pays : ℕ → Writer → Writer → Type 0
Pays more old new = length new.pieces + 4 * length old.text ≤ length old.pieces + 4 * length new.text + more
