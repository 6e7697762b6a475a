-- What a type is made of, by the row of its underlying type.
use Rattle.std.proofs.Common.{◌≡◌, sym, ap, ◌∙◌, subst, List, length, map, Bool}
use Rattle.gno_method_sets.proofs.Rows.{there}
use Rattle.gno_terms.proofs.Parts.{Each-left, Each-right}
use Rattle.gno_terms.specs.Lawful.{Each}
use Rattle.gno_terms.specs.Tables.{Below, Is, PartsBelow, Table, type_at}
use Rattle.gno_terms.specs.Terms.{term_with}
use Rattle.gno_terms.specs.declared.term.GoType.{GoType}
use Rattle.gno_terms.specs.declared.term.TermOf.{TermOf}
use Rattle.gno_terms.specs.declared.term.TermOf.TheVariants as t
use Rattle.gno_terms.specs.declared.term.TypeRef.{TypeRef}
use Rattle.gno_type_classes.specs.Unnumbered.{unnumbered}
use Rattle.gno_type_classes.proofs.OtherParts.{no_function, no_map, no_pointer}
use Rattle.gno_type_classes.specs.Rows.{IsUnder}
use Rattle.gno_typing.specs.Calls.{Function, IsFunction}
use Rattle.gno_typing.specs.Indexes.{HasKeys}
use Rattle.gno_typing.specs.Selectors.{Follows}

module _ (table : Table) (s : GoType) (x : TermOf TypeRef) (under : IsUnder table s x) where
  pub keys_of : (a b : TypeRef) → PartsBelow (length table.types) x → x ≡ t.Map a b → (key : GoType) × (value : GoType) × HasKeys (unnumbered table) s key value × Is table a key × Is table b value
  keys_of a b parts e =
      let p = subst (PartsBelow (length table.types)) e parts in
      let keys : HasKeys (unnumbered table) s (type_at table.types a) (type_at table.types b) = record { underlying = under.known.0; by = under.known.1; is = under.is under.known.0 under.known.1 ∙ ap (term_with (type_at table.types)) e } in
      (type_at table.types a, type_at table.types b, keys, there table a p.0, there table b p.1.0)

  pub no_keys : ((a b : TypeRef) → x ≡ t.Map a b → ⊥) → (key value : GoType) → HasKeys (unnumbered table) s key value → ⊥
  no_keys h key value k = no_map (type_at table.types) x h key value (sym (under.is k.underlying k.by) ∙ k.is)

  pub function_of : (ps : List TypeRef) (variadic : Bool) (rs : List TypeRef) → x ≡ t.Function ps variadic rs → IsFunction (unnumbered table) s (record { params = map (type_at table.types) ps; variadic = variadic; results = map (type_at table.types) rs })
  function_of ps variadic rs e = record { underlying = under.known.0; by = under.known.1; is = under.is under.known.0 under.known.1 ∙ ap (term_with (type_at table.types)) e }

  pub no_function_of : ((ps : List TypeRef) (variadic : Bool) (rs : List TypeRef) → x ≡ t.Function ps variadic rs → ⊥) → (g : Function) → IsFunction (unnumbered table) s g → ⊥
  no_function_of h g k = no_function (type_at table.types) x h g.params g.variadic g.results (sym (under.is k.underlying k.by) ∙ k.is)

  pub follows_it : (a : TypeRef) → PartsBelow (length table.types) x → x ≡ t.Pointer a → (u : GoType) × Follows (unnumbered table) s u × Is table a u
  follows_it a parts e =
      let p = subst (PartsBelow (length table.types)) e parts in
      let follows : Follows (unnumbered table) s (type_at table.types a) = record { underlying = under.known.0; by = under.known.1; is = under.is under.known.0 under.known.1 ∙ ap (term_with (type_at table.types)) e } in
      (type_at table.types a, follows, there table a p.0)

  pub follows_nothing : ((a : TypeRef) → x ≡ t.Pointer a → ⊥) → (u : GoType) → Follows (unnumbered table) s u → ⊥
  follows_nothing h u k = no_pointer (type_at table.types) x h u (sym (under.is k.underlying k.by) ∙ k.is)

module _ (table : Table) (x : TermOf TypeRef) (parts : PartsBelow (length table.types) x) (ps : List TypeRef) (variadic : Bool) (rs : List TypeRef) (e : x ≡ t.Function ps variadic rs) where
  pub params_below : Each (Below (length table.types)) ps
  params_below = Each-left (Below (length table.types)) ps rs (subst (PartsBelow (length table.types)) e parts)

  pub results_below : Each (Below (length table.types)) rs
  results_below = Each-right (Below (length table.types)) ps rs (subst (PartsBelow (length table.types)) e parts)
