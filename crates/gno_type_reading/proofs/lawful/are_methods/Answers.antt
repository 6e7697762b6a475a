use Rattle.std.proofs.Common.{sym, subst}
use Rattle.gno_terms.specs.declared.term.TypeRef.{TypeRef}
use Rattle.gno_terms.specs.declared.term.MethodOf.{MethodOf}
use Rattle.gno_terms.specs.Terms.{method_of}
use Rattle.gno_terms.proofs.Each.{each_of-map}
use Rattle.gno_type_reading.specs.Known.{Known}
use Rattle.gno_type_reading.proofs.Lawfuls.{each_at}
use Rattle.gno_type_reading.proofs.lawful.are_methods.Goals as goal

pub is_method-requires : goal.is_method-requires
is_method-requires c =
    let methods = c.args.methods.now in
    let all = each_of-map (λ m. Known c.args.types.now m.of) (Known c.args.types.now) method_of (λ m h. h) methods c.requires in
    subst (λ (m : MethodOf TypeRef). Known c.args.types.now m.of) (sym c.method-item.is) (each_at (λ m. Known c.args.types.now m.of) methods c.loop-method.method-index c.method-item.result c.loop-method-test.true all)
