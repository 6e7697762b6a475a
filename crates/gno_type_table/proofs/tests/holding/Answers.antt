use Rattle.std.proofs.Common.{◌≡◌, refl, sym, ap, ◌∙◌, subst, ℕ, Some, true, rules}
use Rattle.gno_base.specs.declared.kind.Kind.{Kind}
use Rattle.gno_terms.specs.declared.term.GoType.{GoType}
use Rattle.gno_terms.specs.declared.term.TermOf.TheVariants.{Basic}
use Rattle.gno_terms.specs.declared.term.TypeRef.{TypeRef}
use Rattle.gno_terms.specs.Tables.{Table, Is}
use Rattle.gno_terms.specs.Terms.{type_of}
use Rattle.gno_type_rows.specs.Holding.{Slots, one, is_single}
use Rattle.gno_type_rows.proofs.Pushed.{term_of_type}
use Rattle.gno_type_table.proofs.tests.holding.Goals as goal

unwrapped : {a b : GoType} → Some a ≡ Some b → a ≡ b
unwrapped e = search (rules, e)

known : (table : Table) (t : TypeRef) (kind : Kind) → Is table t (type_of (Basic kind)) → (s : GoType) → Is table t s → (n : ℕ) × Slots table s n
known table t kind int s is = subst (λ (x : GoType). (n : ℕ) × Slots table x n) (unwrapped (sym int ∙ is)) (1, one (ap is_single (term_of_type (Basic kind))) refl)

pub slots-requires-clause-known : goal.slots-requires-clause-known
slots-requires-clause-known c = known c.args.table.now c.args.t c.args.kind c.requires.is

pub comparable-requires-clause-known : goal.comparable-requires-clause-known
comparable-requires-clause-known c = known c.args.table.now c.args.t c.args.kind c.requires.is
