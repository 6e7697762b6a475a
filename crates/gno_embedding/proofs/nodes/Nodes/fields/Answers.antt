use Rattle.std.proofs.Common.{◌≡◌, refl, ap, subst, ◌<◌, length, Some, arith}
use Rattle.std.specs.Prelude.{slice_get}
use Rattle.std.proofs.lemmas.Option.{slice_get_read, slice_get_within, IfSome_then}
use Rattle.gno_layouts.proofs.Ends.{some_at}
use Rattle.gno_terms.specs.Tables.{deep}
use Rattle.gno_embedding.specs.Embedding.{IsKnown}
use Rattle.gno_embedding.specs.declared.ways.Reached.{Reached}
use Rattle.gno_embedding.specs.Nodes.{IsOfNode}
use Rattle.gno_embedding.proofs.Nearest.{one_place}
use Rattle.gno_embedding.proofs.Walked.{one_type}
use Rattle.gno_embedding.proofs.nodes.Nodes.fields.Goals as goal

pub term-requires : goal.term-requires
term-requires c =
    let nodes = c.args.self.now.items.items in
    let walk = c.requires.at.walking.1 in
    let within : c.args.next < length nodes = c.requires.within in
    let at : slice_get nodes c.args.next ≡ Some c.index.result.now = slice_get_read nodes (length nodes) c.args.next c.index.result.now refl within c.index.ensures in
    let x = some_at c.requires.at.walking.0 c.args.next (let z = walk.size in omega (arith, within, z)) in
    slice_get_within c.args.rows.now.types c.index.result.now.of.0 x.0 (walk.is c.args.next c.index.result.now x.0 at x.1 (let n = c.if-next-eq0.false in omega (arith, n)))

node : (c : goal.After-opened-2) → IsOfNode c.args.rows.now (deep c.args.rows.now.types c.args.term.now) c.args.self.now.items.items c.args.next (deep c.args.rows.now.types c.term.result.now)
node c = record {
  node = c.index.result.now;
  at = slice_get_read c.args.self.now.items.items (length c.args.self.now.items.items) c.args.next c.index.result.now refl c.requires.within c.index.ensures;
  itself = λ e. absurd (c.if-next-eq0.false e);
  other = λ w. c.term.ensures.is;
}

pub returns-clause-some : goal.returns-clause-some
returns-clause-some c = IfSome_then c.opened-2.result c.opened-2.ensures.some (λ fields are. (deep c.args.rows.now.types c.term.result.now, node c, are))

pub returns-clause-none : goal.returns-clause-none
returns-clause-none c none u of known =
    let n = node c in
    let same : of.node ≡ n.node = one_place c.args.self.now.items.items c.args.next c.args.next of.at n.at refl in
    let pos : 0 < c.args.next = (let z = c.if-next-eq0.false in omega (arith, z)) in
    c.opened-2.ensures.none none (subst (IsKnown c.args.rows.now) (one_type c.args.rows.now of.node.of n.node.of u (deep c.args.rows.now.types c.term.result.now) (ap (λ (z : Reached). z.of) same) (of.other pos) (n.other pos)) known)
