use Rattle.std.proofs.Common.{sym, ◌∙◌, true≢false}
use Rattle.gno_terms.specs.Normal.{normal}
use Rattle.gno_terms.specs.Tables.{type_at, deep}
use Rattle.gno_type_reading.proofs.Standing.{known_made, other_term, declared_term, term_declared, defined_later}
use Rattle.gno_type_reading.proofs.guess.interned.Goals as goal

pub returns-then-not-defined-clause-known : goal.returns-then-not-defined-clause-known
returns-then-not-defined-clause-known c =
    let old = c.args.types.now in
    let later = c.intern.new.self in
    let lawful = c.in_ok-is_lawful.ensures.0 c.if-not-branch.false in
    known_made old later c.in_ok-t.ensures.definitions c.args.term c.requires c.types_are_lawful.ensures.normal c.in_ok-t.t lawful.1
    (other_term later (type_at old.types) c.args.term (sym c.is_defined-defined.ensures ∙ c.if-not-defined.true)) c.in_ok-t.ensures.is

pub returns-then-is_defined-clause-known : goal.returns-then-is_defined-clause-known
returns-then-is_defined-clause-known c =
    let old = c.args.types.now in
    let later = c.intern.new.self in
    let lawful = c.in_ok-is_lawful.ensures.0 c.if-not-branch.false in
    known_made old later c.in_ok-t.ensures.definitions c.args.term c.requires c.types_are_lawful.ensures.normal c.in_ok-t.t lawful.1
    (declared_term later (type_at old.types) c.args.term (sym c.is_defined-defined.ensures ∙ c.if-not-defined.false)
    ((c.is_defined.ensures (normal (deep old.types c.args.term)) c.in_ok-t.ensures.is).0 c.if-is_defined.true)) c.in_ok-t.ensures.is

pub returns-else-is_defined-clause-none : goal.returns-else-is_defined-clause-none
returns-else-is_defined-clause-none c e h =
    let old = c.args.types.now in
    let later = c.intern.new.self in
    let declared = term_declared later (type_at old.types) c.args.term (sym c.is_defined-defined.ensures ∙ c.if-not-defined.false) (defined_later old later c.in_ok-t.ensures.definitions _ h.known) in
    true≢false (sym ((c.is_defined.ensures (normal (deep old.types c.args.term)) c.in_ok-t.ensures.is).1 declared) ∙ c.if-is_defined.false)
