use Rattle.std.proofs.Common.{◌∙◌, ℕ, List}
use Rattle.std.specs.String.{string_bytes}
use Rattle.std.specs.Prelude.{map}
use Rattle.gno_cmd.specs.Usage.{AreReplayWords}
use Rattle.gno_cmd.proofs.Complete.{Knows, at_same_name, complete, faulty, limited, not_first, right_words_have_no_fault, same_name}
use Rattle.gno_cmd.proofs.top.gno.Given as given
use Rattle.gno_cmd.proofs.top.gno.Goals as goal
use Rattle.gno_cmd.proofs.top.gno.Goals.{in-Ok, in-Err}

-- what is known where the words name a table
known : (g : given.Over) (c : goal.After-write_line g) (name : List ℕ) → AreReplayWords (map string_bytes c.args.words.now) name →
    Knows c.match-table_name.status name (g.I.Source.left c.args.input.now) (g.I.Source.left c.match-table_name.input) (g.O.Sink.holds c.args.out.now) (g.O.Sink.holds c.match-table_name.out)
    (g.K.Keeper.tables c.args.keeper) (g.K.Keeper.tables c.match-table_name.kept) (g.I.Source.faults c.args.input.now) (g.I.Source.faults c.match-table_name.input)
    (g.O.Sink.faults c.args.out.now) (g.O.Sink.faults c.match-table_name.out) (g.O.Sink.zero_writes c.args.out.now) (g.O.Sink.zero_writes c.match-table_name.out)
    (g.K.Keeper.faults c.args.keeper) (g.K.Keeper.faults c.match-table_name.kept)
known g c name right =
    elim c.match-table_name.branch [
      | in-Ok w ↦
          let named = same_name _ w.in-Ok.name.now name w.in-Ok.ensures.name right in
          let same = w.as_bytes.ensures.value ∙ named in
          let facts = w.replay-status.ensures in
          rw (w.status-is, w.input-is, w.out-is, w.kept-is) (at_same_name w.replay-status.result _ name _ _ _ _ _ _ _ _ _ _ _ _ _ _ same
          (record { over = facts.over; stopped = facts.stopped; usage = facts.usage; read = facts.read; write = facts.write; stored = facts.store; damaged = facts.damaged; script = facts.script; limit = facts.limit }))
      | in-Err w ↦ absurd (right_words_have_no_fault _ name w.in-Err.word right w.in-Err.ensures.fault)
    ]

pub returns-clause-complete : goal.returns-clause-complete
returns-clause-complete g c = λ name memory given has. complete _ name _ _ _ _ _ _ _ _ _ _ _ _ _ _ c.match-table_name.status given.given.right_words (known g c name given.given.right_words) name memory given has

pub returns-clause-not_first : goal.returns-clause-not_first
returns-clause-not_first g c = λ name given told unlike. not_first _ name _ _ _ _ _ _ _ _ _ _ _ _ _ _ c.match-table_name.status given.given.right_words (known g c name given.given.right_words) name given told unlike

pub returns-clause-faulty : goal.returns-clause-faulty
returns-clause-faulty g c = λ line given. faulty _ given.name _ _ _ _ _ _ _ _ _ _ _ _ _ _ c.match-table_name.status given.given.right_words (known g c given.name given.given.right_words) line given

pub returns-clause-too_long : goal.returns-clause-too_long
returns-clause-too_long g c = λ given. limited _ given.name _ _ _ _ _ _ _ _ _ _ _ _ _ _ c.match-table_name.status given.given.right_words (known g c given.name given.given.right_words) given
