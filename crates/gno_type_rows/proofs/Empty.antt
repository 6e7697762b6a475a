-- A table without rows.
use Rattle.std.proofs.Common.{◌≡◌, refl, sym, ap, ◌∙◌, ℕ, [], None, Some, rules}
use Rattle.std.specs.BTreeMap.{BTreeMap, is_at}
use Rattle.std.specs.Map.{lookup}
use Rattle.gno_type_rows.specs.Keys.{by_key, key_of}
use Rattle.gno_type_rows.specs.RowTypes.{IsTable, AreRows, deeps}
use Rattle.gno_type_rows.specs.declared.key.Key.{Key}

none_is_some : (n : ℕ) → None ≡ Some n → ⊥
none_is_some n e = search (rules, e)

no_rows : AreRows [] (deeps [] [])
unfolding deeps
no_rows = record {
  size = refl;
  rows = λ n x e. absurd (search (rules, e));
  below = λ n x e. absurd (search (rules, e));
  once = λ m n s e f. absurd (search (rules, e));
  good = λ n s e. absurd (search (rules, e));
}

pub empty_table : (m : BTreeMap Key ℕ) → m.entries ≡ [] → IsTable [] m []
empty_table m e = record {
  rows = no_rows;
  numbered = record {
    found = λ x n h. absurd (none_is_some n (sym (ap (lookup (is_at (by_key (key_of x)))) e) ∙ h));
    each = λ x n h. absurd (search (rules, h));
  };
  definitions = record { size = refl; each = λ n d h. absurd (search (rules, h)) };
}
