use Rattle.std.proofs.Common.{◌≡◌, ◌∙◌, ◌-◌, ap, sym, drop, length}
use Rattle.std.specs.Option.{option_copied}
use Rattle.gno_scan.specs.Places.{behind}
use Rattle.gno_syntax.specs.Parsing.{begun, end_of, place_of}
use Rattle.gno_syntax.proofs.Places.{place_past, place_there}
use Rattle.gno_syntax.proofs.parse.refused_at.Goals as goal

pub returns-in-Some : goal.returns-in-Some
returns-in-Some c =
    let end = end_of c.args.file c.args.text.now in
    let at : c.saturating_sub-at.result ≡ length c.args.tokens.now - c.args.left - begun c.args.refusal =
    c.saturating_sub-at.ensures ∙ ap (λ n. n - c.begun.result) (c.saturating_sub.ensures ∙ ap (λ n. n - c.args.left) c.len.ensures) ∙ ap (λ n. length c.args.tokens.now - c.args.left - n) c.begun.ensures in
    sym (place_there end c.args.tokens.now c.saturating_sub-at.result c.in-Some.token.now (sym c.get.ensures.value ∙ ap option_copied c.in-Some.is)) ∙ ap (λ n. place_of end (drop n c.args.tokens.now)) at

pub returns-in-None : goal.returns-in-None
returns-in-None c =
    let end = end_of c.args.file c.args.text.now in
    let at : c.saturating_sub-at.result ≡ length c.args.tokens.now - c.args.left - begun c.args.refusal =
    c.saturating_sub-at.ensures ∙ ap (λ n. n - c.begun.result) (c.saturating_sub.ensures ∙ ap (λ n. n - c.args.left) c.len.ensures) ∙ ap (λ n. length c.args.tokens.now - c.args.left - n) c.begun.ensures in
    c.behind.ensures ∙ ap (λ pos. behind pos c.args.text.now) c.first_of.ensures
    ∙ sym (place_past end c.args.tokens.now c.saturating_sub-at.result (sym c.get.ensures.value ∙ ap option_copied c.in-None.is)) ∙ ap (λ n. place_of end (drop n c.args.tokens.now)) at
