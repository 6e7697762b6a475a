-- The numbers of the basic types keep their meaning.
use Rattle.gno_giving.specs.Basics.{AreBasics}
use Rattle.gno_giving.specs.declared.basics.Basics.{Basics}
use Rattle.gno_terms.specs.Tables.{Grows, Table}

pub basics_later : (table later : Table) → Grows table later → (x : Basics) → AreBasics table x → AreBasics later x
basics_later table later grows x h = record {
  bool = grows _ _ h.bool;
  text = grows _ _ h.text;
  int = grows _ _ h.int;
  rune = grows _ _ h.rune;
  uint = grows _ _ h.uint;
  byte = grows _ _ h.byte;
}
