use Rattle.std.proofs.Common.{rules}
use Rattle.gno_reader.specs.Lists.{further, items, closed_items}
use Rattle.gno_reader.specs.Scope.{reads}
use Rattle.gno_reader.proofs.Shown.{reading}
use Rattle.gno_rules.specs.Parts.{name}
use Rattle.gno_rules.specs.Declarations.{import_spec}
use Rattle.gno_declarations.proofs.Items.{takes_import_spec}
use Rattle.gno_declarations.proofs.import.import_group.Goals as goal

pub closed_list-requires : goal.closed_list-requires
closed_list-requires g c = (
  reads (g.R.Reader.scope c.args.reader.now) import_spec,
  record { callable = λ old. search rules; answers = λ old new x p. search (rules, p); takes = takes_import_spec (g.R.Reader.scope c.args.reader.now) },
)

pub returns : goal.returns
unfolding reading further items closed_items import_spec name
returns g c = c.closed_list.ensures (reads (g.R.Reader.scope c.args.reader.now) import_spec)
    (record { callable = λ old. search rules; answers = λ old new x p. search (rules, p); takes = takes_import_spec (g.R.Reader.scope c.args.reader.now) })
