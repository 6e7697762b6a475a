use Rattle.std.proofs.Common.{rules}
use Rattle.gno_reader.specs.Lists.{further, items, closed_items}
use Rattle.gno_reader.specs.Scope.{reads}
use Rattle.gno_reader.proofs.Shown.{reading}
use Rattle.gno_rules.specs.Parts.{name}
use Rattle.gno_rules.specs.Types.{member}
use Rattle.gno_type_readers.proofs.Items.{takes_member}
use Rattle.gno_type_readers.proofs.member.members.Goals as goal

pub closed_list-requires : goal.closed_list-requires
closed_list-requires g c = (
  reads (g.R.Reader.scope c.args.reader.now) member,
  record { callable = λ old. search rules; answers = λ old new x p. search (rules, p); takes = takes_member (g.R.Reader.scope c.args.reader.now) },
)

pub returns : goal.returns
unfolding reading further items closed_items member name
returns g c = c.closed_list.ensures (reads (g.R.Reader.scope c.args.reader.now) member)
    (record { callable = λ old. search rules; answers = λ old new x p. search (rules, p); takes = takes_member (g.R.Reader.scope c.args.reader.now) })
