-- The files of a script's items are named as the rows need it.
use Rattle.std.proofs.Common.{◌≡◌, ℕ, zero, suc, List, [], ◌∷◌, refl, arith}
use Rattle.std.specs.Prelude.{Bool, true, false, ◌&&◌, nat_lt, nat_le, codes, nat_eq, length}
use Rattle.std.specs.List.{list_all, ends_with}
use Rattle.std.proofs.lemmas.Bool.Decides.{nat_tests}
use Rattle.gno_script.specs.declared.item.Item.{Item}
use Rattle.gno_script.specs.Script.{IsScript, nothing, skipped, reload, call, add}
use Rattle.gno_script.specs.Words.{is_file_name, is_name_byte}
use Rattle.gno_items.specs.Well.{has_no_zero}
use Rattle.gno_cmd.specs.Performing.{AreNamed}

and_true : (a b : Bool) → a && b ≡ true → (a ≡ true) × (b ≡ true)
and_true true b e = (refl, e)
and_true false b e = cc

and_both : (a b : Bool) → a ≡ true → b ≡ true → a && b ≡ true
and_both a b p q = rw (p, q) refl

not_zero : (b : ℕ) → is_name_byte b ≡ true → nat_lt 0 b ≡ true
not_zero zero e = cc
not_zero (suc n) e = grind (arith, nat_tests)

no_zeros : (name : List ℕ) → list_all is_name_byte name ≡ true → has_no_zero name ≡ true
no_zeros [] e = refl
no_zeros (b ∷ bs) e = let t = and_true (is_name_byte b) (list_all is_name_byte bs) e in and_both (nat_lt 0 b) (has_no_zero bs) (not_zero b t.0) (no_zeros bs t.1)

file_named : (name : List ℕ) → is_file_name name ≡ true → has_no_zero name ≡ true
file_named name e =
    let t = and_true (nat_le (length name) 256) (ends_with nat_eq name (codes ".gno") && list_all is_name_byte name) e in
    no_zeros name (and_true (ends_with nat_eq name (codes ".gno")) (list_all is_name_byte name) t.1).1

pub all_named : (lines : List (List ℕ)) (items : List Item) → IsScript lines items → AreNamed items
all_named _ _ nothing = tt
all_named _ _ (skipped line lines items s more) = all_named lines items more
all_named _ _ (reload lines items more) = (tt, all_named lines items more)
all_named _ _ (call line budget caller path function lines items c more) = (tt, all_named lines items more)
all_named _ _ (add line file budget caller path name sources lines items a f more) = (file_named name f.name_is, all_named lines items more)
