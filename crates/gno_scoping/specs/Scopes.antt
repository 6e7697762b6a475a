-- Names that were met in one scope. This project's own.
use Rattle.std.specs.Prelude.{ℕ, ◌≡◌, ⊤, List, Bool, ◌&&◌, not, is_some}
use Rattle.std.specs.BTreeMap.{get_by}
use Rattle.std.specs.Cmp.Lexicographic.{slice_cmp}
use Rattle.std.specs.Ordering.{nat_cmp}
use Rattle.gno_scoping.specs.declared.scopes.Distinct.{Distinct}
use Rattle.gno_scoping.specs.declared.scopes.Scoped.{Scoped}
use Rattle.gno_tree.specs.declared.word.Name.{Name}
use Rattle.gno_tree_typing.specs.WrittenTypes as written
use Rattle.gno_tree_typing.specs.WrittenTypes.{stands_in}
use Rattle.gno_typing.specs.Names.{is_blank}

-- the texts that were met are those of the names
abbrev pub Holds : Scoped → List Name → Type 0
Holds x names = (text : List ℕ) → is_some (get_by (λ key. slice_cmp nat_cmp text key.items) x.met) ≡ stands_in text names

-- it has the name of one before it, which is not `_`
abbrev pub does_repeat : List Name → Name → Bool
does_repeat before name = not (is_blank name.text) && stands_in name.text before

abbrev pub AreDistinct : Distinct → written.Distinct → Type 0
AreDistinct x y = ⊤
