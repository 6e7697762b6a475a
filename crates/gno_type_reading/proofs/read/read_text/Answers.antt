use Rattle.std.proofs.Common.{sym, subst, ◌∙◌, Option}
use Rattle.std.specs.Prelude.{IfSome}
use Rattle.gno_terms.specs.declared.term.TypeRef.{TypeRef}
use Rattle.gno_type_reading.specs.Known.{Known}
use Rattle.gno_type_reading.proofs.Standing.{over_later}
use Rattle.gno_type_reading.proofs.read.read_text.Goals as goal

pub returns-then-is_text-clause-some : goal.returns-then-is_text-clause-some
returns-then-is_text-clause-some c =
    let later = c.guess.new.types in
    let k : Known later c.in-Some.t = subst (λ (o : Option TypeRef). IfSome o (Known later)) c.in-Some.is c.in_ok-t.ensures.known in (
      k.type,
      k.is,
      record {
        lawful = c.types_are_lawful.ensures.lawful c.in-Some.t k.type k.is;
        typed = k.typed;
        normal = c.types_are_lawful.ensures.normal c.in-Some.t k.type k.is;
        over = over_later later c.args.types.now (sym c.in_ok-t.ensures.definitions) k.over;
        is = sym (c.in_ok-own.ensures k.type k.is) ∙ c.is_text.ensures.0 c.if-is_text.true;
      },
    )
