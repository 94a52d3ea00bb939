use Rattle.std.proofs.Common.{◌≡◌, ◌≤◌, take}
use Rattle.theory_text_names.specs.Uses.{is_mem}
use Rattle.theory_printing.specs.Names.{count_of}
use Rattle.htt_printer_names.specs.Views.{innermost_sorts}
use Rattle.htt_printer_names.proofs.entries.mems.Given as goal

abbrev pub invariant-loop-sort : goal.invariant-loop-sort
invariant-loop-sort l = (l.count ≡ count_of is_mem (innermost_sorts (take l.sort-index l.entries))) × (l.count ≤ l.sort-index)
