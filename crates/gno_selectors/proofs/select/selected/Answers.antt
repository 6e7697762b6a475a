use Rattle.std.proofs.Common.{◌≡◌, ap, subst, ◌≤◌, ◌-◌, List, Some, length, arith}
use Rattle.std.specs.Prelude.{slice_get}
use Rattle.gno_selectors.specs.declared.selection.Selection.{Selection}
use Rattle.gno_selectors.specs.declared.selection.Selection.TheVariants as r
use Rattle.gno_terms.specs.declared.term.FieldOf.{FieldOf}
use Rattle.gno_terms.specs.declared.term.MethodOf.{MethodOf}
use Rattle.gno_terms.specs.declared.term.TypeRef.{TypeRef}
use Rattle.std.proofs.lemmas.Option.{slice_get_within}
use Rattle.std.proofs.lemmas.Result.{IfOk-weaker}
use Rattle.gno_selectors.proofs.MembersOfRows.{row_of, holds_own, below_own, past_own, field_within, method_within, nothing_else, holds_field, holds_method, below_field, below_method}
use Rattle.gno_selectors.proofs.select.selected.Goals as goal

pub underlying-underlying-requires-clause-below : goal.underlying-underlying-requires-clause-below
underlying-underlying-requires-clause-below c = (let m = c.requires.member.1 in slice_get_within c.args.rows.now.types c.args.of.0 m.type m.is)

pub declared-requires : goal.declared-requires
declared-requires c = (let m = c.requires.member.1 in slice_get_within c.args.rows.now.types c.args.of.0 m.type m.is)

pub returns-then-place-methods-clause-holds : goal.returns-then-place-methods-clause-holds
returns-then-place-methods-clause-holds c =
    let table = c.args.rows.now in
    let m = c.requires.member.1 in
    let below = slice_get_within table.types c.args.of.0 m.type m.is in
    let declared = c.declared.result.now in
    let x = c.underlying-underlying.result.now in
    let row = row_of table c.args.of declared x below c.requires.known c.declared.ensures.declares c.underlying-underlying.ensures.underlying in
    IfOk-weaker c.method_at.result _ _ (λ it h m is. holds_own table c.args.of declared x row c.have_one_definition.ensures c.args.place m is c.own-methods.result.now c.own-methods.ensures c.args.way it h) c.method_at.ensures

pub returns-then-place-methods-clause-below : goal.returns-then-place-methods-clause-below
returns-then-place-methods-clause-below c =
    let table = c.args.rows.now in
    let m = c.requires.member.1 in
    let below = slice_get_within table.types c.args.of.0 m.type m.is in
    let declared = c.declared.result.now in
    let x = c.underlying-underlying.result.now in
    let row = row_of table c.args.of declared x below c.requires.known c.declared.ensures.declares c.underlying-underlying.ensures.underlying in
    IfOk-weaker c.method_at.result _ _ (λ it h. below_own table c.args.of declared x row c.have_one_definition.ensures c.args.place c.requires.member.0 m c.own-methods.result.now c.own-methods.ensures c.args.way it c.declared.ensures.below h) c.method_at.ensures

pub field_at-requires : goal.field_at-requires
field_at-requires c =
    let table = c.args.rows.now in
    let m = c.requires.member.1 in
    let below = slice_get_within table.types c.args.of.0 m.type m.is in
    let declared = c.declared.result.now in
    let x = c.underlying-underlying.result.now in
    let row = row_of table c.args.of declared x below c.requires.known c.declared.ensures.declares c.underlying-underlying.ensures.underlying in
    let past : length c.own-methods.result.now ≤ c.args.place = c.if-place-methods.false in
    let w = field_within table x c.in-Struct.fields _ c.requires.member.0 c.in-Struct.is (past_own table c.args.of declared x row c.have_one_definition.ensures c.args.place c.requires.member.0 m c.own-methods.result.now c.own-methods.ensures past) in
    let size : length c.as_slice.result.now ≡ length c.in-Struct.fields = ap length c.as_slice.ensures in
    omega (arith, w, size)

pub method_at-requires-in-Interface : goal.method_at-requires-in-Interface
method_at-requires-in-Interface c =
    let table = c.args.rows.now in
    let m = c.requires.member.1 in
    let below = slice_get_within table.types c.args.of.0 m.type m.is in
    let declared = c.declared.result.now in
    let x = c.underlying-underlying.result.now in
    let row = row_of table c.args.of declared x below c.requires.known c.declared.ensures.declares c.underlying-underlying.ensures.underlying in
    let past : length c.own-methods.result.now ≤ c.args.place = c.if-place-methods.false in
    let w = method_within table x c.in-Interface.methods _ c.requires.member.0 c.in-Interface.is (past_own table c.args.of declared x row c.have_one_definition.ensures c.args.place c.requires.member.0 m c.own-methods.result.now c.own-methods.ensures past) in
    let size : length c.as_slice-in-Interface.result.now ≡ length c.in-Interface.methods = ap length c.as_slice-in-Interface.ensures in
    omega (arith, w, size)

pub unreachable-requires : goal.unreachable-requires
unreachable-requires c =
    let table = c.args.rows.now in
    let m = c.requires.member.1 in
    let below = slice_get_within table.types c.args.of.0 m.type m.is in
    let declared = c.declared.result.now in
    let x = c.underlying-underlying.result.now in
    let row = row_of table c.args.of declared x below c.requires.known c.declared.ensures.declares c.underlying-underlying.ensures.underlying in
    let past : length c.own-methods.result.now ≤ c.args.place = c.if-place-methods.false in
    nothing_else table x _ c.requires.member.0 c.in_default.not-Struct c.in_default.not-Interface (past_own table c.args.of declared x row c.have_one_definition.ensures c.args.place c.requires.member.0 m c.own-methods.result.now c.own-methods.ensures past)

pub returns-in-Struct-clause-holds : goal.returns-in-Struct-clause-holds
returns-in-Struct-clause-holds c =
    let table = c.args.rows.now in
    let m = c.requires.member.1 in
    let below = slice_get_within table.types c.args.of.0 m.type m.is in
    let declared = c.declared.result.now in
    let x = c.underlying-underlying.result.now in
    let row = row_of table c.args.of declared x below c.requires.known c.declared.ensures.declares c.underlying-underlying.ensures.underlying in
    let past : length c.own-methods.result.now ≤ c.args.place = c.if-place-methods.false in
    IfOk-weaker c.field_at.result _ _ (λ (it : Selection) (h : (f : FieldOf TypeRef) × (slice_get c.as_slice.result.now (c.args.place - length c.own-methods.result.now) ≡ Some f) × (it ≡ r.Field c.args.way c.args.of (c.args.place - length c.own-methods.result.now) f)). λ n is. holds_field table c.args.of x (c.args.place - length c.own-methods.result.now) n (past_own table c.args.of declared x row c.have_one_definition.ensures c.args.place n is c.own-methods.result.now c.own-methods.ensures past) c.args.way it c.in-Struct.fields c.in-Struct.is c.underlying-underlying.ensures.underlying (subst (λ (l : List (FieldOf TypeRef)). (f : FieldOf TypeRef) × (slice_get l (c.args.place - length c.own-methods.result.now) ≡ Some f) × (it ≡ r.Field c.args.way c.args.of (c.args.place - length c.own-methods.result.now) f)) c.as_slice.ensures h)) c.field_at.ensures

pub returns-in-Struct-clause-below : goal.returns-in-Struct-clause-below
returns-in-Struct-clause-below c =
    let table = c.args.rows.now in
    let m = c.requires.member.1 in
    let below = slice_get_within table.types c.args.of.0 m.type m.is in
    let declared = c.declared.result.now in
    let x = c.underlying-underlying.result.now in
    IfOk-weaker c.field_at.result _ _ (λ (it : Selection) (h : (f : FieldOf TypeRef) × (slice_get c.as_slice.result.now (c.args.place - length c.own-methods.result.now) ≡ Some f) × (it ≡ r.Field c.args.way c.args.of (c.args.place - length c.own-methods.result.now) f)). below_field table c.args.of below x c.underlying-underlying.ensures.parts (c.args.place - length c.own-methods.result.now) c.args.way it c.in-Struct.fields c.in-Struct.is (subst (λ (l : List (FieldOf TypeRef)). (f : FieldOf TypeRef) × (slice_get l (c.args.place - length c.own-methods.result.now) ≡ Some f) × (it ≡ r.Field c.args.way c.args.of (c.args.place - length c.own-methods.result.now) f)) c.as_slice.ensures h)) c.field_at.ensures

pub returns-in-Interface-clause-holds : goal.returns-in-Interface-clause-holds
returns-in-Interface-clause-holds c =
    let table = c.args.rows.now in
    let m = c.requires.member.1 in
    let below = slice_get_within table.types c.args.of.0 m.type m.is in
    let declared = c.declared.result.now in
    let x = c.underlying-underlying.result.now in
    let row = row_of table c.args.of declared x below c.requires.known c.declared.ensures.declares c.underlying-underlying.ensures.underlying in
    let past : length c.own-methods.result.now ≤ c.args.place = c.if-place-methods.false in
    IfOk-weaker c.method_at-in-Interface.result _ _ (λ (it : Selection) (h : (f : MethodOf TypeRef) × (slice_get c.as_slice-in-Interface.result.now (c.args.place - length c.own-methods.result.now) ≡ Some f) × (it ≡ r.Method c.args.way c.args.of f)). λ n is. holds_method table c.args.of x (c.args.place - length c.own-methods.result.now) n (past_own table c.args.of declared x row c.have_one_definition.ensures c.args.place n is c.own-methods.result.now c.own-methods.ensures past) c.args.way it c.in-Interface.methods c.in-Interface.is (subst (λ (l : List (MethodOf TypeRef)). (f : MethodOf TypeRef) × (slice_get l (c.args.place - length c.own-methods.result.now) ≡ Some f) × (it ≡ r.Method c.args.way c.args.of f)) c.as_slice-in-Interface.ensures h)) c.method_at-in-Interface.ensures

pub returns-in-Interface-clause-below : goal.returns-in-Interface-clause-below
returns-in-Interface-clause-below c =
    let table = c.args.rows.now in
    let m = c.requires.member.1 in
    let below = slice_get_within table.types c.args.of.0 m.type m.is in
    let declared = c.declared.result.now in
    let x = c.underlying-underlying.result.now in
    IfOk-weaker c.method_at-in-Interface.result _ _ (λ (it : Selection) (h : (f : MethodOf TypeRef) × (slice_get c.as_slice-in-Interface.result.now (c.args.place - length c.own-methods.result.now) ≡ Some f) × (it ≡ r.Method c.args.way c.args.of f)). below_method table c.args.of below x c.underlying-underlying.ensures.parts (c.args.place - length c.own-methods.result.now) c.args.way it c.in-Interface.methods c.in-Interface.is (subst (λ (l : List (MethodOf TypeRef)). (f : MethodOf TypeRef) × (slice_get l (c.args.place - length c.own-methods.result.now) ≡ Some f) × (it ≡ r.Method c.args.way c.args.of f)) c.as_slice-in-Interface.ensures h)) c.method_at-in-Interface.ensures
