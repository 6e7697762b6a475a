use Rattle.gno_type_classes.proofs.tests.lawful.declared.Goals as goal

pub define-requires-clause-new : goal.define-requires-clause-new
define-requires-clause-new c d h e = c.is_open.ensures.new c.if-not-is_open.false d h e
