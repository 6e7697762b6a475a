-- The statuses of a command: their numbers, and the one line that the ones from 2 on write.
use Rattle.std.specs.Prelude.{ℕ, List, [], ◌++◌, codes}
use Rattle.std.specs.Fmt.{decimal}
use Rattle.hex.specs.Hex.{encode_lower}
use Rattle.gno_base.specs.declared.names.LimitOf.{LimitOf}
use Rattle.gno_base.specs.declared.names.LimitOf.TheVariants.{Time, Count, Script}
use Rattle.gno_cmd.specs.declared.status.Status.{Status}
use Rattle.gno_cmd.specs.declared.status.Status.TheVariants.{Done, SomeFailed, Usage, ReadFault, WriteFault, StoreFault, Damaged, NoMemory, ScriptFault, Limit}

abbrev pub number_of : Status → ℕ
number_of Done = 0
number_of SomeFailed = 1
number_of (Usage word) = 2
number_of ReadFault = 3
number_of WriteFault = 4
number_of StoreFault = 5
number_of (Damaged key) = 6
number_of NoMemory = 7
number_of (ScriptFault line) = 8
number_of (Limit which) = 10

abbrev pub limit_name : LimitOf → List ℕ
limit_name Time = codes "time"
limit_name Count = codes "count"
limit_name Script = codes "script"

abbrev pub status_line : Status → List ℕ
status_line Done = []
status_line SomeFailed = []
status_line (Usage word) = codes "gno: usage at word " ++ (decimal word ++ codes "\n")
status_line ReadFault = codes "gno: read fault\n"
status_line WriteFault = codes "gno: write fault\n"
status_line StoreFault = codes "gno: store fault\n"
status_line (Damaged key) = codes "gno: damaged " ++ (encode_lower key ++ codes "\n")
status_line NoMemory = codes "gno: out of memory\n"
status_line (ScriptFault line) = codes "gno: script line " ++ (decimal line ++ codes "\n")
status_line (Limit which) = codes "gno: limit " ++ (limit_name which ++ codes "\n")
