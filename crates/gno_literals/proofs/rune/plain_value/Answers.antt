use Rattle.std.proofs.Common.{refl, inl, inr, sym, subst, ℕ}
use Rattle.gno_literals.specs.Parts.{CharacterValue}
use Rattle.gno_literals.proofs.Runes.{no_character, plain_character, plain_line}
use Rattle.gno_literals.proofs.rune.plain_value.Goals as goal

pub returns-in-Some-clause-line : goal.returns-in-Some-clause-line
returns-in-Some-clause-line c =
    let test = c.in-Some.c-test.1 in
    plain_line c.args.inside.now c.in-Some.c c.in-Some.ensures.all (λ e. test (inr (inl e))) (λ e. test (inr (inr e))) (λ e. test (inl e))

pub returns-in-Some-clause-value : goal.returns-in-Some-clause-value
returns-in-Some-clause-value c =
    let test = c.in-Some.c-test.1 in
    subst (λ (n : ℕ). CharacterValue 39 c.args.inside.now n) (sym c.from.ensures) (plain_character c.args.inside.now c.in-Some.c c.in-Some.ensures.scalar c.in-Some.ensures.all (λ e. test (inr (inr e))))

pub returns-in-None-clause-none : goal.returns-in-None-clause-none
returns-in-None-clause-none c = λ _ line. no_character c.args.inside.now (c.in-None.ensures.none refl) c.requires
