-- The addition of a package. The refusals stand in their order: the first that applies is the answer.
use Rattle.std.specs.Prelude.{◌≡◌, ℕ, zero, suc, ◌-◌, List, Option, Some, None, Bool, true, false, not, ◌||◌, ◌&&◌, if◌then◌else◌, nat_lt, is_some, length, replicate, codes}
use Rattle.std.specs.List.{ends_with}
use Rattle.std.specs.Prelude.{nat_eq}
use Rattle.gno_base.specs.declared.names.NamedText.{NamedText}
use Rattle.gno_base.specs.declared.path.PathKind.{PathKind}
use Rattle.gno_base.specs.declared.path.PathKind.TheVariants.{Realm, Pure, Run, Bundled}
use Rattle.gno_base.specs.Paths.{kind_of}
use Rattle.gno_first.specs.declared.tree.FirstFile.{FirstFile}
use Rattle.gno_reading.specs.Readings.{IsReading}
use Rattle.gno_reading.specs.declared.reading.Reading.{Reading}
use Rattle.gno_reading.specs.declared.reading.Reading.TheVariants.{Faulty, NotFirst, First}
use Rattle.gno_machine.specs.Meaning.{int_of}
use Rattle.gno_items.specs.declared.memory.Package.{Package}
use Rattle.gno_items.specs.declared.adding.Added.{Added}
use Rattle.gno_items.specs.Memory.{package_of}
use Rattle.gno_items.specs.Replies.{ended, fault_at, refusal, spent}

abbrev pub is_realm : Option PathKind → Bool
is_realm (Some Realm) = true
is_realm (Some Pure) = false
is_realm (Some Run) = false
is_realm (Some Bundled) = false
is_realm None = false

abbrev pub is_realm_or_pure : Option PathKind → Bool
is_realm_or_pure (Some Realm) = true
is_realm_or_pure (Some Pure) = true
is_realm_or_pure (Some Run) = false
is_realm_or_pure (Some Bundled) = false
is_realm_or_pure None = false

abbrev pub is_test_name : List ℕ → Bool
is_test_name name = ends_with nat_eq name (codes "_test.gno") || ends_with nat_eq name (codes "_filetest.gno")

-- a new package, whose variables are 0
abbrev pub fresh : List ℕ → NamedText → FirstFile → Package
fresh path file tree = record { path = path; source = file; file = tree; values = replicate (length tree.variables) (int_of 0) }

-- what charges leave, and whether the last one did not fit
pub record Charged : Type 0 where
  pub spent : Bool
  pub left : ℕ

-- the declarations of so many variables: each charges 1 for itself and then 1 for its slot
abbrev pub charge_variables : ℕ → ℕ → Charged
charge_variables zero left = record { spent = false; left = left }
charge_variables (suc count) left =
    if nat_lt left 1 then record { spent = true; left = left }
    else (if nat_lt (left - 1) 1 then record { spent = true; left = left - 1 } else charge_variables count (left - 1 - 1))

abbrev pub refused_add : ℕ → Added
refused_add code = record { reply = refusal code; held = None }

-- the package's initialisation, on that budget
abbrev pub added_tree : ℕ → List ℕ → NamedText → FirstFile → Added
added_tree budget path file tree =
    let charged = charge_variables (length tree.variables) budget in
    if charged.spent then record { reply = spent (budget - charged.left); held = None }
    else record { reply = ended (budget - charged.left); held = Some (fresh path file tree) }

-- only a realm in a file that is no test is built yet
abbrev pub is_built : List ℕ → NamedText → Bool
is_built path file = is_realm (kind_of path) && not (is_test_name file.name)

-- what the file's text is read as decides. 1 to 7 and 20 to 22: the text's first fault. 199: what is not built yet.
abbrev pub added_reading : ℕ → List ℕ → NamedText → Reading → Added
added_reading budget path file (Faulty code pos form) = record { reply = fault_at code file.name pos form; held = None }
added_reading budget path file NotFirst = refused_add 199
added_reading budget path file (First tree) = if is_built path file then added_tree budget path file tree else refused_add 199

-- 101: not the path of a realm or a pure package. 102: the path is taken.
abbrev pub path_refusal : List Package → List ℕ → Option ℕ
path_refusal memory path =
    if not (is_realm_or_pure (kind_of path)) then Some 101
    else (if is_some (package_of memory path) then Some 102 else None)

-- the path is refused, or what the text is read as decides
abbrev pub IsAddedBehind : Option ℕ → ℕ → List ℕ → NamedText → Added → Type 0
IsAddedBehind (Some code) budget path file end = end ≡ refused_add code
IsAddedBehind None budget path file end = (reading : Reading) × IsReading file.text reading × (end ≡ added_reading budget path file reading)

abbrev pub IsAdded : List Package → ℕ → List ℕ → NamedText → Added → Type 0
IsAdded memory budget path file end = IsAddedBehind (path_refusal memory path) budget path file end
