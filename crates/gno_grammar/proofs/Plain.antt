-- Phrases whose sets don't depend on what was read are judged by computation.
use Rattle.std.proofs.Common.{◌≡◌, sym, Bool, true, false, not, ◌&&◌, [], ◌∷◌, true≢false}
use Rattle.gno_grammar.specs.Sets.{member, disjoint}
use Rattle.gno_grammar.specs.Phrases.{Phrase, nothing, token, both, either, optional, chain, until, repeat, follow, construct, left_out, Grammar}
use Rattle.gno_grammar.specs.Readers.{null, first}
use Rattle.gno_grammar.specs.Deciding.{most, Sound}
use Rattle.gno_grammar.proofs.Sets.{and_both, not_true}

module _ {T R : Type 0} {gives : R → Type 0} (grammar : Grammar T R gives) where
  -- whether one token decides; false for `chain`, `until` and `follow`, which have to be judged at each value
  abbrev pub plain : {A : Type 0} → Phrase T R gives A → Bool
  plain (nothing x) = true
  plain (token []) = false
  plain (token (x ∷ s)) = member (grammar.code (grammar.token_of x)) (x ∷ s)
  plain (both f g h) = plain g && (plain h && disjoint (most grammar g) (first grammar h))
  plain (either g h) = plain g && (plain h && (not (null grammar g) && disjoint (first grammar g) (first grammar h)))
  plain (optional g) = plain g && not (null grammar g)
  plain (repeat p f g h) = plain g && (plain h && (not (null grammar h) && (disjoint (most grammar g) (first grammar h) && disjoint (most grammar h) (first grammar h))))
  plain (chain m w u p f g h) = false
  plain (until m w p f g h) = false
  plain (follow m w u f g h) = false
  plain (construct k) = true
  plain (left_out n c s g) = plain g && disjoint s (first grammar g)

  pub easy : {A : Type 0} (g : Phrase T R gives A) → plain g ≡ true → Sound grammar g
  easy (nothing x) e = tt
  easy (token []) e = absurd (true≢false (sym e))
  easy (token (x ∷ s)) e = e
  easy (both f g h) e = let a = and_both _ _ e in let b = and_both _ _ a.1 in (easy g a.0, easy h b.0, b.1)
  easy (either g h) e = let a = and_both _ _ e in let b = and_both _ _ a.1 in let c = and_both _ _ b.1 in (easy g a.0, easy h b.0, not_true _ c.0, c.1)
  easy (optional g) e = let a = and_both _ _ e in (easy g a.0, not_true _ a.1)
  easy (repeat p f g h) e =
      let a = and_both _ _ e in let b = and_both _ _ a.1 in let c = and_both _ _ b.1 in let d = and_both _ _ c.1 in (easy g a.0, easy h b.0, not_true _ c.0, d.0, d.1)
  easy (chain m w u p f g h) e = absurd (true≢false (sym e))
  easy (until m w p f g h) e = absurd (true≢false (sym e))
  easy (follow m w u f g h) e = absurd (true≢false (sym e))
  easy (construct k) e = tt
  easy (left_out n c s g) e = let a = and_both _ _ e in (easy g a.0, a.1)
