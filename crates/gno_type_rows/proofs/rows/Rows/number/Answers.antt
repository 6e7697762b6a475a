use Rattle.std.proofs.Common.{◌≡◌, sym, ap, ◌∙◌, subst, length, Some}
use Rattle.std.specs.Prelude.{slice_get}
use Rattle.std.specs.BTreeMap.{get}
use Rattle.gno_terms.specs.Tables.{Table, PartsBelow, deep}
use Rattle.gno_type_rows.specs.Keys.{by_key}
use Rattle.gno_type_rows.specs.declared.key.Key.{Key}
use Rattle.gno_type_rows.proofs.Steps.{found_is, not_there}
use Rattle.gno_type_rows.proofs.rows.Rows.number.Goals as goal

pub returns-in-Some-clause-some : goal.returns-in-Some-clause-some
returns-in-Some-clause-some c x e =
    subst (λ (v : Table). slice_get v.types c.in-Some.number.now ≡ Some (deep v.types x)) c.self.view_is
    (found_is c.self.inside.terms.items c.self.inside.numbers c.self.inside.definitions.items x c.in-Some.number.now c.self.invariant.table
    (ap (λ (k : Key). get by_key c.self.inside.numbers k) (sym e) ∙ sym c.in-Some.ensures.value))

pub returns-in-None-clause-none : goal.returns-in-None-clause-none
returns-in-None-clause-none c x e below none r h =
    not_there c.self.inside.terms.items c.self.inside.numbers c.self.inside.definitions.items x c.self.invariant.table
    (subst (λ (v : Table). PartsBelow (length v.types) x) (sym c.self.view_is) below)
    (ap (λ (k : Key). get by_key c.self.inside.numbers k) (sym e) ∙ sym c.in-None.ensures.value) r
    (subst (λ (v : Table). slice_get v.types r.0 ≡ Some (deep v.types x)) (sym c.self.view_is) h)
