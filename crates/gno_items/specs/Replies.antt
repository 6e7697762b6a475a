-- The replies to an item that did not come to a result.
use Rattle.std.specs.Prelude.{ℕ, List, [], Option, Some, None}
use Rattle.gno_grammar.specs.declared.refusal.LeftOut.{LeftOut}
use Rattle.gno_scan.specs.declared.token.Pos.{Pos}
use Rattle.gno_items.specs.declared.reply.ItemReply.{ItemReply}
use Rattle.gno_items.specs.declared.reply.End.TheVariants.{Ok, Refused, Spent}

-- nothing ran, and nothing was charged
abbrev pub refusal : ℕ → ItemReply
refusal code = record { end = Refused (record { code = code; place = None; form = None }); printed = []; used = 0 }

-- the same, for what stands in a file at a place
abbrev pub fault_at : ℕ → List ℕ → Pos → Option LeftOut → ItemReply
fault_at code file pos form = record { end = Refused (record { code = code; place = Some (record { file = file; pos = pos }); form = form }); printed = []; used = 0 }

abbrev pub spent : ℕ → ItemReply
spent used = record { end = Spent; printed = []; used = used }

abbrev pub ended : ℕ → ItemReply
ended used = record { end = Ok []; printed = []; used = used }
