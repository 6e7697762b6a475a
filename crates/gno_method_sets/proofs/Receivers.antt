-- What a type's methods are declared on.
use Rattle.std.proofs.Common.{◌≡◌, refl, sym, ap, ◌∙◌, subst, List, length, Bool, true, false, rules}
use Rattle.gno_embedding.specs.Embedding.{IsComplete, IsKnown, base, is_pointer}
use Rattle.gno_method_sets.proofs.Rows.{complete_known, is_a_pointer, is_no_pointer, one_type, other_base, pointer_base, there}
use Rattle.gno_method_sets.specs.Receiving.{IsPointerToInterface, IsReceiver}
use Rattle.gno_method_sets.specs.declared.receiver.Receiver.{Receiver}
use Rattle.gno_promotion.specs.MethodSets.{is_interface}
use Rattle.gno_terms.specs.Tables.{Table, Below, Is, PartsBelow, Underlying, deep, type_at, type_or}
use Rattle.gno_terms.specs.Terms.{term_of}
use Rattle.gno_terms.specs.declared.term.GoType.{GoType}
use Rattle.gno_terms.specs.declared.term.TermOf.{TermOf}
use Rattle.gno_terms.specs.declared.term.TermOf.TheVariants as t
use Rattle.gno_terms.specs.declared.term.TypeRef.{TypeRef}

module _ (table : Table) (r : TypeRef) (x : TermOf TypeRef) (row : Is table r (deep table.types x)) where
  module _ (of : TypeRef) (e : x ≡ t.Pointer of) (parts : PartsBelow (length table.types) x) where
    pub of_below : Below (length table.types) of
    of_below = (subst (PartsBelow (length table.types)) e parts).0

    pub its_base : (s : GoType) → Is table r s → Is table of (base s)
    its_base s is = subst (Is table of) (sym (pointer_base table r x row s is of e)) (there table of of_below)

    pub of_known : Below (length table.types) r → ((s : GoType) → Is table r s → IsComplete table (base s)) → (u : GoType) → Is table of u → IsKnown table u
    of_known below complete u is =
        let own = there table r below in
        complete_known table u (subst (IsComplete table) (one_type table of (base (type_at table.types r)) u (its_base (type_at table.types r) own) is) (complete (type_at table.types r) own))

    pub receives_pointer : (it : Receiver) → it ≡ record { base = of; pointer = true } → ((s u : GoType) → Is table of s → Underlying table s u → is_interface (term_of u) ≡ false)
        → (s : GoType) → Is table r s → IsReceiver table s it.base it.pointer
    receives_pointer it p free s is = record {
      base_is = subst (λ (q : TypeRef). Is table q (base s)) (sym (ap (λ (i : Receiver). i.base) p)) (its_base s is);
      pointer_is = ap (λ (i : Receiver). i.pointer) p ∙ sym (is_a_pointer table r x row s is of e);
      no_interface = λ _ u by. free (base s) u (its_base s is) by;
    }

    pub points_to_interface : ((s : GoType) → Is table of s → (u : GoType) × Underlying table s u × (is_interface (term_of u) ≡ true)) → (s : GoType) → Is table r s → IsPointerToInterface table s
    points_to_interface h s is =
        let u = h (base s) (its_base s is) in
        record { pointer = is_a_pointer table r x row s is of e; underlying = u.0; by = u.1; interface = u.2 }

  pub receives_itself : ((a : TypeRef) → x ≡ t.Pointer a → ⊥) → (s : GoType) → Is table r s → IsReceiver table s r false
  receives_itself h s is = record {
    base_is = subst (Is table r) (sym (other_base table r x row s is h)) is;
    pointer_is = sym (is_no_pointer table r x row s is h);
    no_interface = λ p. absurd (search (rules, sym p ∙ is_no_pointer table r x row s is h));
  }

-- the type that has the methods is complete
pub receiver_complete : (table : Table) (r b : TypeRef) (pointer : Bool) → Below (length table.types) r → ((s : GoType) → Is table r s → IsReceiver table s b pointer) → ((s : GoType) → Is table r s → IsComplete table (base s))
    → (u : GoType) → Is table b u → IsComplete table u
receiver_complete table r b pointer below receiver complete u is =
    let own = there table r below in
    subst (IsComplete table) (one_type table b (base (type_at table.types r)) u (receiver (type_at table.types r) own).base_is is) (complete (type_at table.types r) own)
