use Rattle.std.proofs.Common.{◌≡◌, sym, ap, ◌∙◌}
use Rattle.gno_method_sets.specs.Receiving.{receives}
use Rattle.gno_method_sets.proofs.Names.{got, like, only}
use Rattle.gno_method_sets.proofs.received.has_like.Goals as goal

pub returns-in-Ok : goal.returns-in-Ok
returns-in-Ok c =
    let it = c.in-Ok.ensures.found in
    let here : it.0 ≡ c.index-promoted-at.result = got c.args.promoted.now c.in-Ok.at it.0 c.index-promoted-at.result it.1 c.index-promoted-at.is in (
      λ t. like c.args.pointer c.args.promoted.now c.args.wanted.now c.in-Ok.at it.0 it.1 it.2
          (ap (λ p. p.method.of) here ∙ (c.is_like.ensures.0 t).0)
          (ap (receives c.args.pointer) here ∙ (c.is_like.ensures.0 t).1),
      λ h. let same : h.promoted ≡ c.index-promoted-at.result = only c.args.pointer c.args.promoted.now c.args.wanted.now c.requires c.in-Ok.at it.0 it.1 it.2 h ∙ here in
          c.is_like.ensures.1 (ap (λ p. p.method.of) (sym same) ∙ h.of, ap (receives c.args.pointer) (sym same) ∙ h.received),
    )
