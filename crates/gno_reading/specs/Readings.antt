-- What a source text is read as: its first fault, or its tree, by what the tree is in the first form.
use Rattle.std.specs.Prelude.{◌≡◌, ℕ, List, [], Option, Some, None, Ok, Err, ◌⊎◌}
use Rattle.gno_grammar.specs.declared.refusal.LeftOut.{LeftOut}
use Rattle.gno_grammar.specs.Readers.{got}
use Rattle.gno_scan.specs.Scan.{Scans}
use Rattle.gno_scan.specs.declared.token.Pos.{Pos}
use Rattle.gno_scan.specs.declared.token.ScanFault.TheVariants.{At as ScanAt}
use Rattle.gno_scan.specs.declared.token.Token.{Token}
use Rattle.gno_tree.specs.declared.file.FileTree.{FileTree}
use Rattle.gno_rules.specs.Files.{IsOutcome}
use Rattle.gno_first.specs.Form.{first_of}
use Rattle.gno_first.specs.Lawful.{IsLawful}
use Rattle.gno_first.specs.declared.tree.FirstFile.{FirstFile}
use Rattle.gno_syntax.specs.Parsing.{IsFault}
use Rattle.gno_syntax.specs.declared.fault.SyntaxFault.TheVariants.{At}
use Rattle.gno_reading.specs.declared.reading.Reading.{Reading}
use Rattle.gno_reading.specs.declared.reading.Reading.TheVariants.{Faulty, NotFirst, First}

-- the text has tokens, and they are this tree
pub record IsTree (text : List ℕ) (tree : FileTree) : Type 0 where
  pub tokens : List Token
  pub scanned : Scans 0 text (Ok tokens)
  pub read : IsOutcome text tokens (got tree [])

-- the text has tokens, and this is the fault of their one outcome
pub record IsSyntaxFault (text : List ℕ) (code : ℕ) (pos : Pos) (form : Option LeftOut) : Type 0 where
  pub tokens : List Token
  pub scanned : Scans 0 text (Ok tokens)
  pub fault : IsFault 0 text tokens (At code pos form)

-- the fault of the text's tokens, or that of their tree
abbrev pub IsFirstFault : List ℕ → ℕ → Pos → Option LeftOut → Type 0
IsFirstFault text code pos form = (Scans 0 text (Err (ScanAt code pos)) × (form ≡ None)) ⊎ IsSyntaxFault text code pos form

-- the text's tree is this in the first form
pub record HasForm (text : List ℕ) (form : Option FirstFile) : Type 0 where
  pub tree : FileTree
  pub read : IsTree text tree
  pub is : first_of tree ≡ form

-- the text is read as that
unfoldable pub IsReading : List ℕ → Reading → Type 0
IsReading text (Faulty code pos form) = IsFirstFault text code pos form
IsReading text NotFirst = HasForm text None
IsReading text (First file) = HasForm text (Some file)

-- a file that is read in the first form is lawful
abbrev pub IsLawfulReading : Reading → Type 0
IsLawfulReading (Faulty code pos form) = Unit {0}
IsLawfulReading NotFirst = Unit {0}
IsLawfulReading (First file) = IsLawful file
