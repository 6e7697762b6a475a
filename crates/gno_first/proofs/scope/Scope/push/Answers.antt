use Rattle.std.proofs.Common.{◌≡◌, ◌∙◌, None, sym, subst, true, length, map, ℕ, List, Bor}
use Rattle.std.proofs.lemmas.List.{map-append, length-map}
use Rattle.gno_first.specs.Places.{place}
use Rattle.gno_first.specs.Declaring.{is_new}
use Rattle.gno_first.proofs.Places.{not_among}
use Rattle.gno_first.proofs.Distinct.{new_is}
use Rattle.gno_first.proofs.Tables.{has_places_push}
use Rattle.gno_first.proofs.scope.Scope.push.Goals as goal

pub invariant_of-result : goal.invariant_of-result
invariant_of-result c =
    let seen : Bor (List ℕ) → List ℕ = λ name. name.now in
    let names : List (List ℕ) = map seen c.self.inside.names.items in
    let fresh : is_new names c.args.name.now ≡ true = subst (λ l. is_new l c.args.name.now ≡ true) (sym c.self.view_is) c.requires in
    let absent : place c.args.name.now names ≡ None = not_among c.args.name.now names (new_is names c.args.name.now fresh).1 in
    let count : c.len.result ≡ length names = c.len.ensures ∙ (c.self.inside.names.ok.0 ∙ sym (length-map c.self.inside.names.items seen)) in
    let found = has_places_push c.self.inside.numbers c.insert.new.self names c.args.name.now c.len.result c.self.invariant absent count c.in_ok-insert.ensures.updates in
    rw (c.in_ok-push.ensures.items, map-append) found
