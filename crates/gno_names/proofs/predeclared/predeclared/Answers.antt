use Rattle.std.proofs.Common.{sym, ap, ◌∙◌}
use Rattle.std.specs.Prelude.{codes}
use Rattle.std.specs.Str.{bytes_eq}
use Rattle.gno_judging.specs.Found.{OperandStands}
use Rattle.gno_judging.specs.Found.{OperandStands as operand, ValueStands as value}
use Rattle.gno_judging.proofs.Answers.{gives}
use Rattle.gno_names.specs.Scopes.{is_builtin}
use Rattle.gno_names.proofs.Judged.{is_not_so_by, is_so_by, known, unknown}
use Rattle.gno_names.proofs.predeclared.predeclared.Goals as goal

pub returns-then-is_nil : goal.returns-then-is_nil
returns-then-is_nil c table = is_so_by (OperandStands table) _ _ _ _ _ _ (ap (λ n. bytes_eq n (codes "nil")) (sym c.as_slice.ensures) ∙ sym c.is_nil.ensures ∙ c.if-is_nil.true) (gives (OperandStands table) _ _ _ (operand.value (value.nil c.args.at)))

pub returns-then-is_cross : goal.returns-then-is_cross
returns-then-is_cross c table = is_not_so_by (OperandStands table) _ _ _ _ _ _ (ap (λ n. bytes_eq n (codes "nil")) (sym c.as_slice.ensures) ∙ sym c.is_nil.ensures ∙ c.if-is_nil.false)
    (is_so_by (OperandStands table) _ _ _ _ _ _ (ap (λ n. bytes_eq n (codes "cross")) (sym c.as_slice-else-is_nil.ensures) ∙ sym c.is_cross.ensures ∙ c.if-is_cross.true) (gives (OperandStands table) _ _ _ (operand.cross c.args.at)))

pub returns-in_ok-name : goal.returns-in_ok-name
returns-in_ok-name c table = is_not_so_by (OperandStands table) _ _ _ _ _ _ (ap (λ n. bytes_eq n (codes "nil")) (sym c.as_slice.ensures) ∙ sym c.is_nil.ensures ∙ c.if-is_nil.false)
    (is_not_so_by (OperandStands table) _ _ _ _ _ _ (ap (λ n. bytes_eq n (codes "cross")) (sym c.as_slice-else-is_nil.ensures) ∙ sym c.is_cross.ensures ∙ c.if-is_cross.false)
    (known table c.args.at c.args.name.now c.args.faults.now c.args.faults.now c.in_ok-name.name c.in_ok-name.ensures (ap is_builtin (sym c.as_slice-else-is_cross.ensures) ∙ sym c.is_builtin.ensures ∙ c.if-is_builtin.true)))

pub returns-else-is_builtin : goal.returns-else-is_builtin
returns-else-is_builtin c table = is_not_so_by (OperandStands table) _ _ _ _ _ _ (ap (λ n. bytes_eq n (codes "nil")) (sym c.as_slice.ensures) ∙ sym c.is_nil.ensures ∙ c.if-is_nil.false)
    (is_not_so_by (OperandStands table) _ _ _ _ _ _ (ap (λ n. bytes_eq n (codes "cross")) (sym c.as_slice-else-is_nil.ensures) ∙ sym c.is_cross.ensures ∙ c.if-is_cross.false)
    (unknown table c.args.at c.args.name.now _ _ (ap is_builtin (sym c.as_slice-else-is_cross.ensures) ∙ sym c.is_builtin.ensures ∙ c.if-is_builtin.false) c.note.ensures))
