use Rattle.std.proofs.Common.{◌≡◌, ap, refl, rules, subst, sym, ◌∙◌, None, List}
use Rattle.gno_judging.proofs.Answers.{fails, holds}
use Rattle.gno_judging.specs.Answers.{Answers}
use Rattle.gno_judging.specs.Found.{TypeStands}
use Rattle.gno_made_types.proofs.MadeTypes.{stands, struct_by}
use Rattle.gno_made_types.proofs.PartRules.{fields_are, fields_below, fields_lawful, have_names, hold_of_fields, normal_fields, part_fields}
use Rattle.gno_made_types.specs.Parts.{IsPartField}
use Rattle.gno_terms.specs.Lawful.{Each}
use Rattle.gno_terms.specs.Normal.{normal, normal_term}
use Rattle.gno_terms.specs.Tables.{type_at}
use Rattle.gno_terms.specs.Terms.{term_with, type_of}
use Rattle.gno_terms.specs.declared.term.FieldOf.{FieldOf}
use Rattle.gno_terms.specs.declared.term.GoType.{GoType}
use Rattle.gno_terms.specs.declared.term.TermOf.TheVariants as t
use Rattle.gno_made_types.proofs.structs.struct_type.Goals as goal

pub returns-then-not-branch-clause-answers : goal.returns-then-not-branch-clause-answers
returns-then-not-branch-clause-answers c path fs is_path own hs =
    let table = c.args.types.now in
    struct_by table table refl c.args.place fs (λ J. Answers J (TypeStands table) c.args.faults.now c.note.new.self None)
    (fails (TypeStands table) _ 78 c.args.place _ _ _ (λ names. search (rules, sym c.if-not-branch.true ∙ c.in_ok-are_fields.ensures.1 (subst (Each (IsPartField table)) (sym c.as_slice.ensures) (part_fields table path is_path c.args.fields fs hs own names)))) c.note.ensures)

pub intern-requires-clause-below : goal.intern-requires-clause-below
intern-requires-clause-below c =
    let table = c.args.types.now in
    fields_below table c.args.fields (subst (Each (IsPartField table)) c.as_slice.ensures (c.in_ok-are_fields.ensures.0 c.if-not-branch.false))

pub intern-requires-clause-lawful : goal.intern-requires-clause-lawful
intern-requires-clause-lawful c =
    let table = c.args.types.now in
    fields_lawful table c.args.fields (subst (Each (IsPartField table)) c.as_slice.ensures (c.in_ok-are_fields.ensures.0 c.if-not-branch.false))

pub returns-clause-answers : goal.returns-clause-answers
returns-clause-answers c path fs is_path own hs =
    let table = c.args.types.now in
    let later = c.intern.new.self in
    let parts : Each (IsPartField table) c.args.fields = subst (Each (IsPartField table)) c.as_slice.ensures (c.in_ok-are_fields.ensures.0 c.if-not-branch.false) in
    let same : term_with (type_at table.types) (t.Struct c.args.fields) ≡ t.Struct fs = ap (λ (xs : List (FieldOf GoType)). t.Struct xs) (fields_are table c.args.fields fs hs) in
    let kept : normal_term (t.Struct fs) ≡ t.Struct fs = ap (λ (xs : List (FieldOf GoType)). t.Struct xs) (normal_fields path fs own) in
    let it = stands table later (t.Struct c.args.fields) (t.Struct fs) same (hold_of_fields table (λ (s : GoType). normal s ≡ s) c.types_are_lawful.ensures.normal c.args.fields fs hs) kept refl c.in_ok-made.made c.in_ok-made.ensures.is in
    struct_by table later c.intern.ensures.definitions c.args.place fs (λ J. Answers J (TypeStands later) c.args.faults.now c.small.new.faults c.small.result)
    (holds (TypeStands later) _ 78 c.args.place _ _ _ _ (have_names table c.args.fields fs hs parts) (c.small.ensures (type_of (t.Struct fs)) it))
