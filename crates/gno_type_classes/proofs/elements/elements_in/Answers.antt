use Rattle.std.proofs.Common.{refl, sym, ◌∙◌, subst, length, rules}
use Rattle.gno_base.specs.declared.kind.Kind.TheVariants.{Text}
use Rattle.gno_method_sets.proofs.Rows.{some_map, there}
use Rattle.gno_terms.specs.Tables.{Is, PartsBelow, type_at}
use Rattle.gno_terms.specs.declared.term.TermOf.TheVariants as t
use Rattle.gno_terms.specs.declared.term.TypeRef.{TypeRef}
use Rattle.gno_type_classes.proofs.Indexed.{array_elements, no_elements, row_is, slice_elements}
use Rattle.gno_type_classes.proofs.OtherParts.{one_kind, one_pointer}
use Rattle.gno_type_classes.proofs.TypedParts.{array_typed, slice_typed}
use Rattle.gno_type_classes.proofs.elements.elements_in.Goals as goal

pub returns-in-Basic-clause-some : goal.returns-in-Basic-clause-some
returns-in-Basic-clause-some c = some_map _ _ c.elements_of_kind.result (λ it h s under. h s under.known.0 under.known.1 (row_is c.args.types.now s c.args.row.now under (t.Basic c.in-Basic.kind) c.in-Basic.is)) c.elements_of_kind.ensures.some

pub returns-in-Basic-clause-none : goal.returns-in-Basic-clause-none
returns-in-Basic-clause-none c e s x under = no_elements c.args.types.now s c.args.row.now under
    (λ i. c.elements_of_kind.ensures.none e (one_kind c.in-Basic.kind Text c.args.row.now c.args.row.now c.in-Basic.is i refl))
    (λ a i. search (rules, sym c.in-Basic.is ∙ i)) (λ n a i. search (rules, sym c.in-Basic.is ∙ i)) (λ a i. absurd (search (rules, sym c.in-Basic.is ∙ i))) x

pub returns-in-Slice-clause-some : goal.returns-in-Slice-clause-some
returns-in-Slice-clause-some c s under byte = slice_elements c.args.types.now s c.args.row.now under c.in-Slice.of c.requires.parts c.in-Slice.is

pub returns-in-Array-clause-some : goal.returns-in-Array-clause-some
returns-in-Array-clause-some c s under byte = array_elements c.args.types.now s c.args.row.now under c.in-Array.of c.requires.parts c.in-Array.count c.in-Array.is

pub returns-in-Pointer-clause-some : goal.returns-in-Pointer-clause-some
returns-in-Pointer-clause-some c = some_map _ _ c.elements_at.result
    (λ it h s under byte. h s under.known.0 (type_at c.args.types.now.types c.in-Pointer.of) under.known.1 (row_is c.args.types.now s c.args.row.now under (t.Pointer c.in-Pointer.of) c.in-Pointer.is)
    (there c.args.types.now c.in-Pointer.of (subst (PartsBelow (length c.args.types.now.types)) c.in-Pointer.is c.requires.parts).0)) c.elements_at.ensures.some

pub returns-in-Pointer-clause-none : goal.returns-in-Pointer-clause-none
returns-in-Pointer-clause-none c e s x under = no_elements c.args.types.now s c.args.row.now under
    (λ i. search (rules, sym c.in-Pointer.is ∙ i)) (λ a i. search (rules, sym c.in-Pointer.is ∙ i)) (λ n a i. search (rules, sym c.in-Pointer.is ∙ i))
    (λ a i b element n. c.elements_at.ensures.none e (type_at c.args.types.now.types a) b element n
    (subst (λ (r : TypeRef). Is c.args.types.now r (type_at c.args.types.now.types a)) (sym (one_pointer c.in-Pointer.of a (sym c.in-Pointer.is ∙ i)))
    (there c.args.types.now a (subst (PartsBelow (length c.args.types.now.types)) i c.requires.parts).0))) x

pub returns-in_default : goal.returns-in_default
returns-in_default c = record {
  some = tt;
  typed = tt;
  none = λ _ s x under. no_elements c.args.types.now s c.args.row.now under (c.in_default.not-Basic Text) c.in_default.not-Slice c.in_default.not-Array (λ a i. absurd (c.in_default.not-Pointer a i)) x;
}

pub returns-in-Slice-clause-typed : goal.returns-in-Slice-clause-typed
returns-in-Slice-clause-typed c of is byte = slice_typed c.args.types.now c.args.row.now c.requires.lawful c.in-Slice.of c.in-Slice.is of is

pub returns-in-Array-clause-typed : goal.returns-in-Array-clause-typed
returns-in-Array-clause-typed c of is byte = array_typed c.args.types.now c.args.row.now c.requires.lawful c.in-Array.count c.in-Array.of c.in-Array.is of is

pub returns-in-Pointer-clause-typed : goal.returns-in-Pointer-clause-typed
returns-in-Pointer-clause-typed c = some_map _ _ c.elements_at.result (λ it h of is byte. h of is) c.elements_at.ensures.typed
