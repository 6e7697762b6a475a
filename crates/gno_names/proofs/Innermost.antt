-- The innermost declaration.
use Rattle.std.proofs.Common.{ℕ, ◌≡◌, refl, sym, ap, ◌∙◌, subst, List, Bool, true, false, Option, Some, None}
use Rattle.std.proofs.Math.ListN.{drop_of_length-le}
use Rattle.std.specs.Prelude.{◌≤◌, if◌then◌else◌, drop, length}
use Rattle.std.specs.Str.{bytes_eq}
use Rattle.gno_judging.specs.Stands.{BothStand}
use Rattle.gno_judging.specs.Stands.{BothStand as both}
use Rattle.gno_names.specs.Scopes.{NamedStands, NamesStand, innermost}
use Rattle.gno_names.specs.Scopes.{NamesStand as names}
use Rattle.gno_terms.specs.declared.term.GoType.{GoType}
use Rattle.gno_terms.specs.declared.term.TypeRef.{TypeRef}
use Rattle.gno_terms.specs.Tables.{Table}
use Rattle.gno_typed.specs.declared.scope.NamedOf.{NamedOf}
use Rattle.gno_typed.specs.declared.scope.ScopeName.{ScopeName}
use Rattle.gno_typing.specs.Names.{Meaning, later_or, meaning_of}

later_or_none : (x : Option (NamedOf GoType)) → later_or None x ≡ x
later_or_none None = refl
later_or_none (Some x) = refl

module _ (table : Table) (name : List ℕ) where
  chosen : (b : Bool) (found : Option (NamedOf TypeRef)) (y : Option (NamedOf GoType)) (x : NamedOf TypeRef) (m : NamedOf GoType) → BothStand (NamedStands table) found y → NamedStands table x m
      → BothStand (NamedStands table) (if b then Some x else found) (later_or y (if b then Some m else None))
  chosen true found y x m h k = both.some k
  chosen false found y x m h k = h

  nested : (x y z : Option (NamedOf GoType)) → later_or (later_or x y) z ≡ later_or x (later_or y z)
  nested x y None = refl
  nested x y (Some z) = refl

  from : (xs : List ScopeName) (ms : List Meaning) (found : Option (NamedOf TypeRef)) (y : Option (NamedOf GoType)) → BothStand (NamedStands table) found y → NamesStand table xs ms → BothStand (NamedStands table) (innermost found xs name) (later_or y (meaning_of ms name))
  from _ _ found y h names.none = h
  from _ _ found y h (names.more {x = x} {m = m} {xs = xs} {ms = ms} same is hs) =
      subst (BothStand (NamedStands table) (innermost (if bytes_eq x.name name then Some x.is else found) xs name)) (nested y (if bytes_eq m.name name then Some m.is else None) (meaning_of ms name))
      (from xs ms _ _ (subst (λ n. BothStand (NamedStands table) (if bytes_eq x.name name then Some x.is else found) (later_or y (if bytes_eq n name then Some m.is else None))) same (chosen (bytes_eq x.name name) found y x.is m.is h is)) hs)

  pub innermost_stands : (xs : List ScopeName) (ms : List Meaning) → NamesStand table xs ms → BothStand (NamedStands table) (innermost None xs name) (meaning_of ms name)
  innermost_stands xs ms h = subst (BothStand (NamedStands table) (innermost None xs name)) (later_or_none (meaning_of ms name)) (from xs ms None None both.none h)

pub innermost_at_end : (found : Option (NamedOf TypeRef)) (xs : List ScopeName) (i : ℕ) (name : List ℕ) → length xs ≤ i → innermost found (drop i xs) name ≡ innermost None xs name → found ≡ innermost None xs name
innermost_at_end found xs i name h e = ap (λ ys. innermost found ys name) (sym (drop_of_length-le xs h)) ∙ e
