use Rattle.std.proofs.Common.{rules, arith, ◌≡◌, ◌≤◌, ◌<◌, ℕ, length, take, drop, ◌+◌, ap, ◌∙◌, List}
use Rattle.std.specs.Prelude.{min, Option, Some}
use Rattle.gno_port.proofs.Steps.{read_front, none_left}
use Rattle.gno_port.proofs.memory_source.MemorySourceSource.read.Goals as goal

some : List ℕ → Option (List ℕ)
some x = Some x

pub returns-else-count-eq0-clause-bytes : goal.returns-else-count-eq0-clause-bytes
unfolding some
returns-else-count-eq0-clause-bytes c =
    let same : c.rest_from-rest.result.now ≡ drop c.args.self.now.at c.args.self.now.holds = c.rest_from-rest.ensures ∙ ap (drop c.args.self.now.at) c.as_slice-2.ensures in
    let count : c.min-count.result ≡ min (length (drop c.args.self.now.at c.args.self.now.holds)) (length c.args.buf.now) = c.min-count.ensures ∙ ap (λ (t : List ℕ). min (length t) (length c.args.buf.now)) same in
    let len : length c.copy_front.new.buf ≡ length c.args.buf.now = search rules in (
      omega arith,
      ap some (read_front c.args.self.now.at c.min-count.result c.args.self.now.holds c.copy_front.new.buf (c.copy_front.ensures.front ∙ ap (take c.min-count.result) same)),
      λ z h. none_left _ _ (length c.copy_front.new.buf) _ (omega arith) z h,
    )
