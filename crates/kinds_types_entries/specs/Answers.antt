-- What a call answers beside what a phrase comes to: the same, or want of memory, which is free.
use Rattle.std.specs.Prelude.{Result, Ok, Err}
use Rattle.theory_checking.specs.Stops.{Stop, refused, passed}
use Rattle.kinds_types_entries.specs.declared.stop.TypeStop.{TypeStop}
use Rattle.kinds_types_entries.specs.declared.stop.TypeStop.TheVariants.{Ill, Limit, NoMemory}

abbrev pub Answers : {A B : Type 0} → (A → B) → (Result B Stop → Type 0) → Result A TypeStop → Type 0
Answers view Row (Ok given) = Row (Ok (view given))
Answers view Row (Err (Ill at rule)) = Row (Err (refused rule at))
Answers view Row (Err (Limit which)) = Row (Err (passed which))
Answers view Row (Err NoMemory) = Unit {0}
