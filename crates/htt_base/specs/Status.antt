-- The code with which a process ends for each status.
use Rattle.std.specs.Prelude.{ℕ}
use Rattle.htt_base.specs.declared.status.Status.{Status}
use Rattle.htt_base.specs.declared.status.Status.TheVariants.{Done, No, Usage, Syntax, Unproved, NotExtractable, Limit}
use Rattle.htt_base.specs.declared.status.Status.TheVariants.{ReadFault, WriteFault, MachineFault, Stopped, BadCode}
use Rattle.htt_base.specs.declared.status.Status.TheVariants.{BadHeap, NotEmptyStart, NoMemory, PreFalse, NotJudged}
use Rattle.htt_base.specs.declared.status.Status.TheVariants.{OtherCode}

abbrev pub status_code : Status → ℕ
status_code Done = 0
status_code (No decl at rule) = 1
status_code Usage = 2
status_code (Syntax at kind) = 3
status_code (Unproved count) = 4
status_code (NotExtractable why) = 5
status_code (Limit which) = 6
status_code ReadFault = 7
status_code WriteFault = 8
status_code (MachineFault kind location) = 9
status_code (Stopped which count) = 10
status_code (BadCode at) = 11
status_code (BadHeap line) = 12
status_code NotEmptyStart = 13
status_code NoMemory = 14
status_code PreFalse = 15
status_code NotJudged = 16
status_code OtherCode = 17
