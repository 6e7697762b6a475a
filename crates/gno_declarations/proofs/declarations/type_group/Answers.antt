use Rattle.std.proofs.Common.{rules}
use Rattle.gno_reader.specs.Lists.{further, items, closed_items}
use Rattle.gno_reader.specs.Scope.{reads}
use Rattle.gno_reader.proofs.Shown.{reading}
use Rattle.gno_rules.specs.Parts.{name}
use Rattle.gno_rules.specs.Declarations.{type}
use Rattle.gno_declarations.proofs.Items.{takes_type}
use Rattle.gno_declarations.proofs.declarations.type_group.Goals as goal

pub closed_list-requires : goal.closed_list-requires
closed_list-requires g c = (
  reads (g.R.Reader.scope c.args.reader.now) type,
  record { callable = λ old. search rules; answers = λ old new x p. search (rules, p); takes = takes_type (g.R.Reader.scope c.args.reader.now) },
)

pub returns : goal.returns
unfolding reading further items closed_items type name
returns g c = c.closed_list.ensures (reads (g.R.Reader.scope c.args.reader.now) type)
    (record { callable = λ old. search rules; answers = λ old new x p. search (rules, p); takes = takes_type (g.R.Reader.scope c.args.reader.now) })
