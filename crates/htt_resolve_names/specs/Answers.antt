-- Which answers are right: what the definitions come to, want of memory aside.
use Rattle.std.specs.Prelude.{◌≡◌, Option, Some, None, Result, Ok, Err}
use Rattle.theory_text_names.specs.Stops.{Stop}
use Rattle.htt_resolve_names.specs.declared.stop.NameStop.{NameStop}
use Rattle.htt_resolve_names.specs.Views.{event_of}

-- a right answer where the definitions come to `due`; `tree` is what an answer is
abbrev pub IsStop : {T : Type 0} → Option Stop → Result T Stop → Type 0
IsStop None due = Unit {0}
IsStop (Some stop) due = due ≡ Err stop

abbrev pub Answers : {A T : Type 0} → (A → T) → Result A NameStop → Result T Stop → Type 0
Answers tree (Ok a) due = due ≡ Ok (tree a)
Answers tree (Err stop) due = IsStop (event_of stop) due
