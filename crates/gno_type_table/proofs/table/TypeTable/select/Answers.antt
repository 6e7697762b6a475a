use Rattle.std.proofs.Common.{sym, subst, length}
use Rattle.std.specs.Prelude.{IfOk}
use Rattle.gno_embedding.specs.Embedding.{IsComplete}
use Rattle.gno_selectors.specs.Selectors.{IsSelection, IsSelectionBelow}
use Rattle.gno_selectors.specs.declared.selection.Selection.{Selection}
use Rattle.gno_terms.specs.declared.term.GoType.{GoType}
use Rattle.gno_terms.specs.Tables.{Table, Below, Is}
use Rattle.gno_type_table.proofs.table.TypeTable.select.Goals as goal

pub find_selected-requires-clause-error : goal.find_selected-requires-clause-error
find_selected-requires-clause-error c = c.self.invariant.error_is

pub find_selected-requires-clause-below : goal.find_selected-requires-clause-below
find_selected-requires-clause-below c = subst (λ (v : Table). Below (length v.types) c.args.t) (sym c.self.view_is) c.requires.below

pub find_selected-requires-clause-complete : goal.find_selected-requires-clause-complete
find_selected-requires-clause-complete c = subst (λ (v : Table). (s : GoType) → Is v c.args.t s → IsComplete v s) (sym c.self.view_is) c.requires.complete

pub returns-clause-selection : goal.returns-clause-selection
returns-clause-selection c =
    subst (λ (v : Table). IfOk c.find_selected.result (λ (it : Selection). (s : GoType) → Is v c.args.t s → IsSelection v s c.args.name.now c.args.«package».now it)) c.self.view_is c.find_selected.ensures.selection

pub returns-clause-below : goal.returns-clause-below
returns-clause-below c = subst (λ (v : Table). IfOk c.find_selected.result (λ (it : Selection). IsSelectionBelow (length v.types) it)) c.self.view_is c.find_selected.ensures.below
