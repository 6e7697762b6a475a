use Rattle.std.proofs.Common.{sym, ◌∙◌, true, false, rules}
use Rattle.gno_method_sets.proofs.Rows.{some_map, term_is}
use Rattle.gno_terms.specs.Tables.{type_at}
use Rattle.gno_type_classes.proofs.Converting.{interface_is, no_way, to_interface_has}
use Rattle.gno_typing.specs.Conversions.{Converts as way}
use Rattle.gno_type_classes.proofs.conversions.by_underlying.Goals as goal

pub returns-then-is_interface-clause-some : goal.returns-then-is_interface-clause-some
returns-then-is_interface-clause-some c = some_map _ _ c.to_interface.result
    (λ how h s u v w is own left right. h s u v w is own (term_is c.args.types.now c.args.a v c.term-x.result.now left c.term-x.ensures.is)
    (interface_is (type_at c.args.types.now.types) w c.term-y.result.now (term_is c.args.types.now c.args.b w c.term-y.result.now right c.term-y.ensures.is) true (sym c.is_interface.ensures ∙ c.if-is_interface.true))) c.to_interface.ensures.some

pub returns-then-is_interface-clause-none : goal.returns-then-is_interface-clause-none
returns-then-is_interface-clause-none c e s u v w how is own left right under converts =
    let interface = interface_is (type_at c.args.types.now.types) w c.term-y.result.now (term_is c.args.types.now c.args.b w c.term-y.result.now right c.term-y.ensures.is) true (sym c.is_interface.ensures ∙ c.if-is_interface.true) in
    c.to_interface.ensures.none e s u is own (to_interface_has c.args.types.now s u v w how interface under converts)

pub returns-then-identical-clause-some : goal.returns-then-identical-clause-some
returns-then-identical-clause-some c s u v w is own left right =
    way.same (interface_is (type_at c.args.types.now.types) w c.term-y.result.now (term_is c.args.types.now c.args.b w c.term-y.result.now right c.term-y.ensures.is) false (sym c.is_interface.ensures ∙ c.if-is_interface.false))
    ((c.identical.ensures v w left right).0 c.if-identical.true)

pub returns-then-are_pointers-clause-some : goal.returns-then-are_pointers-clause-some
returns-then-are_pointers-clause-some c s u v w is own left right =
    way.pointers ((c.are_pointers.ensures s u is own).0 c.if-are_pointers.true) (λ i. search (rules, sym c.if-identical.false ∙ (c.identical.ensures v w left right).1 i))

pub returns-clause-some : goal.returns-clause-some
returns-clause-some c = some_map _ _ c.by_forms.result
    (λ how h s u v w is own left right. h s u v w (term_is c.args.types.now c.args.a v c.term-x.result.now left c.term-x.ensures.is) (term_is c.args.types.now c.args.b w c.term-y.result.now right c.term-y.ensures.is)
    (λ i. search (rules, sym c.if-identical.false ∙ (c.identical.ensures v w left right).1 i))) c.by_forms.ensures.some

pub returns-clause-none : goal.returns-clause-none
returns-clause-none c e s u v w how is own left right under =
    let row = term_is c.args.types.now c.args.b w c.term-y.result.now right c.term-y.ensures.is in
    no_way c.args.types.now s u v w how (interface_is (type_at c.args.types.now.types) w c.term-y.result.now row false (sym c.is_interface.ensures ∙ c.if-is_interface.false))
    (λ i. search (rules, sym c.if-identical.false ∙ (c.identical.ensures v w left right).1 i))
    (λ p. search (rules, sym c.if-are_pointers.false ∙ (c.are_pointers.ensures s u is own).1 p))
    (c.by_forms.ensures.none e v w (term_is c.args.types.now c.args.a v c.term-x.result.now left c.term-x.ensures.is) row)
