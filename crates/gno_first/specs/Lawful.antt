-- What holds of each tree of the first form.
use Rattle.std.specs.Prelude.{ℕ, ◌<◌, ◌^◌, ◌≡◌, List, [], ◌∷◌, ◌++◌, map, length, Bool, true, false, not, ◌&&◌}
use Rattle.std.specs.List.{list_all}
use Rattle.gno_first.specs.declared.tree.FirstFile.{FirstFile}
use Rattle.gno_first.specs.declared.tree.FirstFunc.{FirstFunc}
use Rattle.gno_first.specs.declared.tree.FirstStmt.{FirstStmt}
use Rattle.gno_first.specs.declared.tree.FirstStmt.TheVariants.{Increment, Assign, Print, Return}
use Rattle.gno_first.specs.declared.tree.FirstExpr.{FirstExpr}
use Rattle.gno_first.specs.declared.tree.FirstExpr.TheVariants.{Name, Number, NameName, NameNumber, NumberName}
use Rattle.gno_first.specs.Names.{is_among, is_name}

-- each variable is declared, and each number is below 10^18
abbrev pub IsExprIn : ℕ → FirstExpr → Type 0
IsExprIn count (Name n) = n < count
IsExprIn count (Number v) = v < 10 ^ 18
IsExprIn count (NameName n op m) = (n < count) × (m < count)
IsExprIn count (NameNumber n op v) = (n < count) × (v < 10 ^ 18)
IsExprIn count (NumberName v op n) = (v < 10 ^ 18) × (n < count)

abbrev pub IsStmtIn : ℕ → FirstStmt → Type 0
IsStmtIn count (Increment n) = n < count
IsStmtIn count (Assign n e) = (n < count) × IsExprIn count e
IsStmtIn count (Print e) = IsExprIn count e
IsStmtIn count (Return e) = IsExprIn count e

-- Each statement is so. A body with a result has exactly one `return`, as its last statement, and no other body has one.
abbrev pub IsBodyIn : ℕ → Bool → List FirstStmt → Type 0
IsBodyIn count false [] = Unit {0}
IsBodyIn count true [] = ⊥
IsBodyIn count has_int (Increment n ∷ body) = (n < count) × IsBodyIn count has_int body
IsBodyIn count has_int (Assign n e ∷ body) = ((n < count) × IsExprIn count e) × IsBodyIn count has_int body
IsBodyIn count has_int (Print e ∷ body) = IsExprIn count e × IsBodyIn count has_int body
IsBodyIn count true (Return e ∷ []) = IsExprIn count e
IsBodyIn count false (Return e ∷ []) = ⊥
IsBodyIn count has_int (Return e ∷ s ∷ body) = ⊥

abbrev pub AreFuncsIn : ℕ → List FirstFunc → Type 0
AreFuncsIn count [] = Unit {0}
AreFuncsIn count (f ∷ fs) = IsBodyIn count f.has_int f.body × AreFuncsIn count fs

-- the names that a file declares
abbrev pub declared_names : FirstFile → List (List ℕ)
declared_names file = file.variables ++ map (λ f. f.name) file.functions

abbrev pub are_distinct : List (List ℕ) → Bool
are_distinct [] = true
are_distinct (name ∷ names) = not (is_among names name) && are_distinct names

pub record IsLawful (file : FirstFile) : Type 0 where
  pub names : list_all is_name (declared_names file) ≡ true
  pub differ : are_distinct (declared_names file) ≡ true
  pub functions : AreFuncsIn (length file.variables) file.functions
