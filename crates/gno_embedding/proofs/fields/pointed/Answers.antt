use Rattle.gno_embedding.proofs.Opened.{points, stays_there}
use Rattle.gno_embedding.proofs.fields.pointed.Goals as goal

pub returns-in-Pointer-clause-base : goal.returns-in-Pointer-clause-base
returns-in-Pointer-clause-base c = (points c.args.rows.now.types c.args.of c.term.result.now c.in-Pointer.base c.term.ensures.is c.in-Pointer.is).0

pub returns-in-Pointer-clause-pointer : goal.returns-in-Pointer-clause-pointer
returns-in-Pointer-clause-pointer c = (points c.args.rows.now.types c.args.of c.term.result.now c.in-Pointer.base c.term.ensures.is c.in-Pointer.is).1

pub returns-in_default : goal.returns-in_default
returns-in_default c =
    let h = stays_there c.args.rows.now.types c.args.of c.term.result.now c.term.ensures.is c.in_default.not-Pointer in
    record { below = c.requires; base = h.0; pointer = h.1 }
