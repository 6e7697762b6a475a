use Rattle.std.proofs.Common.{◌≡◌, sym, ap, ◌∙◌, subst}
use Rattle.std.proofs.lemmas.Option.{same_Some}
use Rattle.gno_type_rows.proofs.Pushed.{deep_inj}
use Rattle.gno_terms.specs.declared.term.TermOf.{TermOf}
use Rattle.gno_terms.specs.declared.term.TermOf.TheVariants.{Struct}
use Rattle.gno_terms.specs.declared.term.TypeRef.{TypeRef}
use Rattle.gno_terms.specs.Tables.{Is, deep}
use Rattle.gno_embedding.proofs.fields.is_of.Goals as goal

pub returns-in-Struct : goal.returns-in-Struct
returns-in-Struct c =
    let types = c.args.rows.now.types in
    let own : c.args.term.now ≡ Struct c.as_slice.result.now = c.in-Struct.is ∙ ap Struct (sym c.as_slice.ensures) in (
      λ t. subst (λ (x : TermOf TypeRef). Is c.args.rows.now c.args.of (deep types x)) (c.is_struct_of.ensures.0 t ∙ sym own) c.term.ensures.is,
      λ is. c.is_struct_of.ensures.1 (deep_inj types (λ m n s p q. ap (λ (r : TypeRef). r.0) (c.have_one_number.ensures (record { 0 = m }) (record { 0 = n }) s p q)) c.term.result.now c.args.term.now c.term.ensures.parts c.requires.parts (same_Some _ _ (sym c.term.ensures.is ∙ is)) ∙ own),
    )
