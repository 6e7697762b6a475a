use Rattle.std.proofs.Common.{◌≡◌, refl, ap, sym, subst, ◌∙◌, true≢false, not, true, List, map}
use Rattle.gno_terms.specs.declared.term.TypeRef.{TypeRef}
use Rattle.gno_terms.specs.declared.term.FieldOf.{FieldOf}
use Rattle.gno_terms.specs.declared.term.MethodOf.{MethodOf}
use Rattle.gno_terms.specs.declared.term.TermOf.TheVariants as t
use Rattle.gno_terms.specs.Lawful.{Each, Last, is_slice}
use Rattle.gno_terms.specs.Tables.{type_at}
use Rattle.gno_terms.specs.Terms.{term_of}
use Rattle.gno_type_reading.specs.Known.{IsOwnedName, IsOwnedMethod}
use Rattle.gno_type_reading.proofs.Lawfuls.{if_ok, is_lawful, function_lawful, struct_lawful, struct_names, methods_lawful, methods_owned}
use Rattle.gno_type_reading.proofs.lawful.is_lawful.Goals as goal

pub returns-in-Defined : goal.returns-in-Defined
returns-in-Defined c =
    if_ok c.is_lawful_name.result c.is_lawful_name.ensures (λ b test. is_lawful c.args.types.now c.args.term.now (t.Defined c.in-Defined.path c.in-Defined.name c.in-Defined.local) _ b c.in-Defined.is test (λ k p. (p, refl)) (λ m. m.0) c.requires)

pub returns-then-not-variadic : goal.returns-then-not-variadic
returns-then-not-variadic c =
    let v = c.in-Function.variadic in
    let ps = c.in-Function.params in
    let rs = c.in-Function.results in
    is_lawful c.args.types.now c.args.term.now (t.Function ps v rs) (v ≡ true → Last (λ s. is_slice (term_of s) ≡ true) (map (type_at c.args.types.now.types) ps)) (not v) c.in-Function.is
    (λ h e. absurd (true≢false (sym e ∙ c.if-not-variadic.true)), λ h. ap not c.if-not-variadic.true)
    (λ k p. function_lawful c.args.types.now ps v rs k p) (λ m. m.0.last) c.requires

pub returns-else-not-variadic : goal.returns-else-not-variadic
returns-else-not-variadic c =
    let v = c.in-Function.variadic in
    let ps = c.in-Function.params in
    let rs = c.in-Function.results in
    let slices : List TypeRef → Type 0 = λ l. Last (λ s. is_slice (term_of s) ≡ true) (map (type_at c.args.types.now.types) l) in
    is_lawful c.args.types.now c.args.term.now (t.Function ps v rs) (v ≡ true → slices ps) c.ends_in_slice.result c.in-Function.is
    (λ h e. subst slices c.as_slice.ensures (c.ends_in_slice.ensures.0 h), λ h. c.ends_in_slice.ensures.1 (subst slices (sym c.as_slice.ensures) (h c.if-not-variadic.false)))
    (λ k p. function_lawful c.args.types.now ps v rs k p) (λ m. m.0.last) c.requires

pub returns-in-Struct : goal.returns-in-Struct
returns-in-Struct c =
    let fs = c.in-Struct.fields in
    let names : List (FieldOf TypeRef) → Type 0 = Each (λ x. IsOwnedName x.name x.«package») in
    let same = c.as_slice-in-Struct.ensures in
    if_ok c.are_fields.result c.are_fields.ensures (λ b test. is_lawful c.args.types.now c.args.term.now (t.Struct fs) _ b c.in-Struct.is test
    (λ k p. struct_lawful c.args.types.now fs k (subst names same p)) (λ m. subst names (sym same) (struct_names c.args.types.now fs m.0)) c.requires)

pub returns-in-Interface : goal.returns-in-Interface
returns-in-Interface c =
    let ms = c.in-Interface.methods in
    let owned : List (MethodOf TypeRef) → Type 0 = Each (IsOwnedMethod c.args.types.now.types) in
    let same = c.as_slice-in-Interface.ensures in
    if_ok c.are_methods.result c.are_methods.ensures (λ b test. is_lawful c.args.types.now c.args.term.now (t.Interface ms) _ b c.in-Interface.is test
    (λ k p. (methods_lawful c.args.types.now ms (subst owned same p), refl)) (λ m. subst owned (sym same) (methods_owned c.args.types.now ms m.0)) c.requires)
