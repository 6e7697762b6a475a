use Rattle.std.proofs.lemmas.Bool.{eqb-true, eq-eqb, leb-true, le-leb}
use Rattle.std.proofs.Common.{◌≡◌, ◌∙◌, ap, get_or, length, refl, sym}
use Rattle.std.specs.Prelude.{◌==◌, false, not}
use Rattle.gno_scan.proofs.Fronts.{not_true}
use Rattle.gno_scan.proofs.Judging.{plain_one, plain_only, stray_one, stray_only}
use Rattle.gno_scan.proofs.judge.is_one_plain.Goals as goal

pub returns-then-c-ne92 : goal.returns-then-c-ne92
returns-then-c-ne92 c =
    let text = c.args.inside.now in (
      λ e. plain_one c.in-Some.c text c.in-Some.ensures.scalar c.if-c-ne92.true c.in-Some.ensures.found (sym c.len_utf8.ensures.value ∙ eqb-true c.len_utf8.result (length text) e),
      λ one. eq-eqb c.len_utf8.result (length text) (c.len_utf8.ensures.value ∙ (plain_only c.in-Some.c text c.in-Some.ensures.found c.requires one).1),
    )

pub returns-else-c-ne92 : goal.returns-else-c-ne92
returns-else-c-ne92 c =
    let text = c.args.inside.now in
    let no : not (c.in-Some.c == 92) ≡ false = ap not (eq-eqb c.in-Some.c 92 c.if-c-ne92.false) in
    (λ e. absurd (not_true (sym no ∙ e)), λ one. absurd ((plain_only c.in-Some.c text c.in-Some.ensures.found c.requires one).0 c.if-c-ne92.false))

pub returns-then-inside-eq1 : goal.returns-then-inside-eq1
returns-then-inside-eq1 c =
    let text = c.args.inside.now in (
      λ e. stray_one text c.if-inside-eq1.true (leb-true 128 (get_or text 0 0) e),
      λ one. le-leb 128 (get_or text 0 0) (stray_only text (c.in-None.ensures.none refl) c.requires one).1,
    )

pub returns-else-inside-eq1 : goal.returns-else-inside-eq1
returns-else-inside-eq1 c =
    let text = c.args.inside.now in (
      λ e. absurd (c.if-inside-eq1.false (eqb-true (length text) 1 e)),
      λ one. absurd (c.if-inside-eq1.false (stray_only text (c.in-None.ensures.none refl) c.requires one).0),
    )
