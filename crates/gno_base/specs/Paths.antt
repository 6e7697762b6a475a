-- The paths of packages, and their kinds.
use Rattle.std.specs.Prelude.{ℕ, ◌-◌, List, [], ◌∷◌, length, take, drop, Bool, false, ◌==◌, ◌&&◌, ◌||◌, nat_lt, nat_eq, if◌then◌else◌, codes, Option, Some, None}
use Rattle.std.specs.List.{list_all, slice_split, starts_with, ends_with}
use Rattle.std.specs.Option.{option_map}
use Rattle.std.specs.Str.{bytes_eq}
use Rattle.gno_base.specs.declared.path.Path.{Path}
use Rattle.gno_base.specs.declared.path.PathKind.{PathKind}
use Rattle.gno_base.specs.declared.path.PathKind.TheVariants.{Realm, Pure, Run, Bundled}
use Rattle.gno_base.specs.Callers.{is_small_letter, is_digit, is_caller}

-- a small letter, a digit or `_`
abbrev pub is_name_byte : ℕ → Bool
is_name_byte b = is_small_letter b || (is_digit b || b == 95)

-- NAME: a small letter, then small letters, digits and `_`
abbrev pub is_name : List ℕ → Bool
is_name [] = false
is_name (b ∷ bs) = is_small_letter b && list_all is_name_byte bs

-- NAME, then any number of /NAME
abbrev pub are_names : List ℕ → Bool
are_names text = list_all is_name (slice_split (λ b. b == 47) text)

-- names behind the front
abbrev pub is_under : List ℕ → List ℕ → Bool
is_under front text = starts_with nat_eq text front && are_names (drop (length front) text)

-- CALLER/run
abbrev pub is_run : List ℕ → Bool
is_run text = ends_with nat_eq text (codes "/run") && is_caller (take (length text - 4) text)

abbrev pub is_run_path : List ℕ → Bool
is_run_path text = starts_with nat_eq text (codes "gno.land/e/") && is_run (drop 11 text)

-- the packages that come with the language
abbrev pub is_bundled : List ℕ → Bool
is_bundled text = bytes_eq text (codes "chain") || (bytes_eq text (codes "chain/runtime") || (bytes_eq text (codes "crypto/sha256")
    || (bytes_eq text (codes "errors") || (bytes_eq text (codes "strconv") || bytes_eq text (codes "testing")))))

-- the kind of the path that a text of any length spells
abbrev pub kind_by_form : List ℕ → Option PathKind
kind_by_form text = if is_under (codes "gno.land/r/") text then Some Realm else (if is_under (codes "gno.land/p/") text then Some Pure
    else (if is_run_path text then Some Run else (if is_bundled text then Some Bundled else None)))

-- a path has at most 128 bytes
unfoldable pub kind_of : List ℕ → Option PathKind
kind_of text = if nat_lt 128 (length text) then None else kind_by_form text

abbrev pub path_of : List ℕ → Option Path
path_of text = option_map (λ kind. record { kind = kind; text = text }) (kind_of text)
