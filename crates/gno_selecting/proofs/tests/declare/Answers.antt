use Rattle.gno_selecting.proofs.tests.declare.Goals as goal

pub define-requires-clause-new : goal.define-requires-clause-new
define-requires-clause-new c d h e = c.is_open.ensures.new c.if-not-is_open.false d h e
