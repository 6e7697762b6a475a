use Rattle.std.proofs.Common.{sym, ap, ◌∙◌, true≢false}
use Rattle.gno_terms.specs.declared.term.TermOf.TheVariants as t
use Rattle.gno_terms.specs.Tables.{type_or}
use Rattle.gno_terms.specs.Terms.{term_of}
use Rattle.gno_terms.proofs.Layers.{term_of-type_of}
use Rattle.gno_type_rows.specs.RowTypes.{is_defined}
use Rattle.gno_type_reading.proofs.Standing.{normal_defined}
use Rattle.gno_type_reading.proofs.tests.declare.Goals as goal

pub define-requires-clause-defined : goal.define-requires-clause-defined
define-requires-clause-defined c =
    ap (λ o. is_defined (term_of (type_or o))) c.in_ok-t.ensures.is ∙ ap (λ s. is_defined (term_of s)) (normal_defined _ _ _) ∙ ap is_defined (term_of-type_of (t.Defined _ _ _))

pub define-requires-clause-new : goal.define-requires-clause-new
define-requires-clause-new c d h e =
    true≢false (sym ((c.is_defined.ensures _ c.in_ok-t.ensures.is).1 (d, h, e ∙ ap type_or c.in_ok-t.ensures.is)) ∙ c.if-is_defined.false)
