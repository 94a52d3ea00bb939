-- What a phrase measures where it comes to a tree, and right answers of code that measures phrases and that builds
-- them.
use Rattle.std.specs.Prelude.{◌≡◌, Result, Ok, Err, IfOk}
use Rattle.htt_syntax_measure.specs.declared.size.Size.{Size}
use Rattle.theory_text_names.specs.Stops.{Stop}
use Rattle.htt_resolve_names.specs.declared.stop.NameStop.{NameStop}
use Rattle.htt_resolve_names.specs.Answers.{Answers}

abbrev pub sized : {X : Type 0} → (X → Size) → Result X Stop → Result Size Stop
sized size (Ok tree) = Ok (size tree)
sized size (Err stop) = Err stop

-- the size, or the stop that is met first
abbrev pub AnswersSize : {X : Type 0} → (X → Size) → Result Size NameStop → Result X Stop → Type 0
AnswersSize size answer due = Answers (λ z. z) answer (sized size due)

-- what is built is what the phrase comes to
abbrev pub Builds : {A X E : Type 0} → (A → X) → Result A E → Result X Stop → Type 0
Builds tree answer due = IfOk answer (λ a. due ≡ Ok (tree a))
