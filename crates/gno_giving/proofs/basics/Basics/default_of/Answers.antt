use Rattle.std.proofs.Common.{sym, subst}
use Rattle.gno_base.specs.declared.kind.Kind.{Kind}
use Rattle.gno_giving.proofs.Defaults.{int_is_left}
use Rattle.gno_terms.specs.Tables.{Is}
use Rattle.gno_terms.specs.Terms.{term_of}
use Rattle.gno_typing.specs.Classes.{basic}
use Rattle.gno_giving.proofs.basics.Basics.default_of.Goals as goal

pub returns-in-Bool : goal.returns-in-Bool
returns-in-Bool c table s basics default = subst (λ (k : Kind). Is table c.args.self.bool (basic k)) (sym c.in-Bool.is) basics.bool

pub returns-in-Text : goal.returns-in-Text
returns-in-Text c table s basics default = subst (λ (k : Kind). Is table c.args.self.text (basic k)) (sym c.in-Text.is) basics.text

pub returns-in-Int32 : goal.returns-in-Int32
returns-in-Int32 c table s basics default = subst (λ (k : Kind). Is table c.args.self.rune (basic k)) (sym c.in-Int32.is) basics.rune

pub returns-in_default : goal.returns-in_default
returns-in_default c table s basics default = subst (λ (k : Kind). Is table c.args.self.int (basic k)) (sym (int_is_left (term_of s) c.args.kind default c.in_default.not-Bool c.in_default.not-Text c.in_default.not-Int32)) basics.int
