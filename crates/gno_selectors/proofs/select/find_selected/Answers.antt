use Rattle.std.proofs.Common.{◌∙◌, sym, subst, List, [], inl, true≢false}
use Rattle.std.proofs.lemmas.Result.{IfOk-weaker}
use Rattle.gno_embedding.specs.Embedding.{here}
use Rattle.gno_promotion.specs.MethodSets.{Member}
use Rattle.gno_selectors.specs.Selectors.{IsSelected, IsSelection}
use Rattle.gno_selectors.specs.declared.selection.Passed.{Passed}
use Rattle.gno_selectors.specs.Standings.{Holds, IsMember, called}
use Rattle.gno_selectors.specs.declared.standing.Standing.TheVariants as st
use Rattle.gno_terms.specs.declared.term.GoType.{GoType}
use Rattle.gno_terms.specs.Tables.{Is}
use Rattle.gno_selectors.proofs.Selecting.{holds, own_selected, own_twice}
use Rattle.gno_selectors.proofs.Standings.{only_member, stands_as}
use Rattle.gno_selectors.proofs.select.find_selected.Goals as goal

pub standing_in-requires-clause-known : goal.standing_in-requires-clause-known
standing_in-requires-clause-known c s is = c.requires.complete s is [] _ s here

pub returns-in-Twice-clause-selection : goal.returns-in-Twice-clause-selection
returns-in-Twice-clause-selection c s is = own_twice c.args.rows.now c.have_one_definition.ensures s c.args.name.now c.args.«package».now c.args.number is (λ e. true≢false (sym (c.is_blank.ensures.1 e) ∙ c.if-is_blank.false)) (stands_as c.args.rows.now c.args.number (called c.args.name.now c.args.«package».now) c.standing_in.result st.Twice c.in-Twice.is c.standing_in.ensures)

pub find_embedded-requires-clause-nowhere : goal.find_embedded-requires-clause-nowhere
find_embedded-requires-clause-nowhere c = stands_as c.args.rows.now c.args.number (called c.args.name.now c.args.«package».now) c.standing_in.result st.Nowhere c.in-Nowhere.is c.standing_in.ensures

pub selected-requires-clause-known : goal.selected-requires-clause-known
selected-requires-clause-known c s is = c.requires.complete s is [] _ s here

pub selected-requires-clause-member : goal.selected-requires-clause-member
selected-requires-clause-member c =
    let m = only_member c.args.rows.now c.have_one_definition.ensures c.args.number (called c.args.name.now c.args.«package».now) c.in-At.place (stands_as c.args.rows.now c.args.number (called c.args.name.now c.args.«package».now) c.standing_in.result (st.At c.in-At.place) c.in-At.is c.standing_in.ensures) in
    (m.0, m.1)

pub returns-in-At-clause-selection : goal.returns-in-At-clause-selection
returns-in-At-clause-selection c =
    let table = c.args.rows.now in
    let own = stands_as c.args.rows.now c.args.number (called c.args.name.now c.args.«package».now) c.standing_in.result (st.At c.in-At.place) c.in-At.is c.standing_in.ensures in
    let m = only_member table c.have_one_definition.ensures c.args.number (called c.args.name.now c.args.«package».now) c.in-At.place own in
    IfOk-weaker c.selected.result (λ it. (m : Member) → IsMember table c.args.number c.in-At.place m → Holds table c.new.result c.args.number m it) (λ it. (s : GoType) → Is table c.args.number s → IsSelection table s c.args.name.now c.args.«package».now it)
    (λ it h s is. holds table c.have_one_definition.ensures s c.args.name.now c.args.«package».now c.new.result c.args.number m.0 it (h m.0 m.1)
    (subst (λ (way : List Passed). IsSelected table s c.args.name.now c.args.«package».now way c.args.number m.0) (sym c.new.ensures) (own_selected table c.have_one_definition.ensures s c.args.name.now c.args.«package».now c.args.number is (λ e. true≢false (sym (c.is_blank.ensures.1 e) ∙ c.if-is_blank.false)) c.in-At.place own m.0 m.1)))
    c.selected.ensures.holds

pub returns-then-is_blank-clause-selection : goal.returns-then-is_blank-clause-selection
returns-then-is_blank-clause-selection c s is = inl (c.is_blank.ensures.0 c.if-is_blank.true)

pub find_embedded-requires-clause-named : goal.find_embedded-requires-clause-named
find_embedded-requires-clause-named c e = true≢false (sym (c.is_blank.ensures.1 e) ∙ c.if-is_blank.false)
