-- The phrases that are repeated take a token.
use Rattle.std.proofs.Common.{◌≡◌, refl, ℕ, ◌<◌, List, [], ◌∷◌, length}
use Rattle.gno_grammar.specs.Readers.{got}
use Rattle.gno_reader.specs.Scope.{Scope, reads}
use Rattle.gno_reader.proofs.Turns.{takes}
use Rattle.gno_rules.specs.Kinds.{numbers}
use Rattle.gno_rules.specs.Parts.{P, a, up_to}
use Rattle.gno_rules.specs.Declarations.{import_declaration, top_level}
use Rattle.gno_rule_laws.proofs.DeclarationsSound.{sound_file}
use Rattle.gno_rule_laws.proofs.TypeEnds.{shown_sets, shown_parts, shown_declarations}
use Rattle.gno_scan.specs.declared.kind.TokenKind.TheVariants as k
use Rattle.gno_scan.specs.declared.token.Token.{Token}
use Rattle.gno_tree.specs.declared.file.Import.{Import}
use Rattle.gno_tree.specs.declared.file.TopLevel.{TopLevel}

-- the kinds that begin an import, and a declaration or a function
abbrev pub IMPORT : List ℕ
IMPORT = numbers (k.Import ∷ [])

abbrev pub TOP_LEVEL : List ℕ
TOP_LEVEL = numbers (k.Const ∷ k.Type ∷ k.Var ∷ k.Func ∷ [])

-- an import, and a semicolon
abbrev pub next_imports : List ℕ → P (List Import)
next_imports text = up_to (import_declaration text) (a k.Semicolon)

pub takes_next_imports : (scope : Scope) (ts : List Token) (v : List Import) (rest : List Token) → reads scope next_imports ts ≡ got v rest → length rest < length ts
unfolding shown_sets shown_parts shown_declarations
takes_next_imports scope ts v rest e = takes scope next_imports (sound_file scope.text).1.0.1 refl ts v rest e

-- a declaration or a function, and a semicolon
abbrev pub next_top_level : List ℕ → P TopLevel
next_top_level text = up_to (top_level text) (a k.Semicolon)

pub takes_next_top_level : (scope : Scope) (ts : List Token) (v : TopLevel) (rest : List Token) → reads scope next_top_level ts ≡ got v rest → length rest < length ts
unfolding shown_sets shown_parts shown_declarations
takes_next_top_level scope ts v rest e = takes scope next_top_level (sound_file scope.text).1.1.1 refl ts v rest e
