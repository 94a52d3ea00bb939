-- Which answer is due to a command, stage by stage, in the order in which a refusal comes.
use Rattle.std.specs.Prelude.{ℕ, List, Result, Ok, Err}
use Rattle.htt_syntax_words.specs.declared.words.Which.TheVariants.{File}
use Rattle.htt_top_words.specs.Forms.{WordsForm, go, run, HasForm, HasNoForm}
use Rattle.htt_top_answers.specs.declared.answer.Refusal.{Refusal}
use Rattle.htt_top_answers.specs.declared.answer.Refusal.TheVariants.{Usage, NoMemory}
use Rattle.htt_top_answers.specs.Answers.{Answer}
use Rattle.htt_top.specs.Words.{step_limit}
use Rattle.htt_top.specs.Stages.{Seen, Then, FileGives, CodeGives, StartGives, RunGives, GoGives}

-- the words; want of memory may stand at any point, so here too
abbrev pub WordsGive : List (List ℕ) → Result WordsForm Refusal → Type 0
WordsGive words (Ok form) = HasForm words form
WordsGive words (Err Usage) = HasNoForm words
WordsGive words (Err NoMemory) = Unit {0}
WordsGive words (Err refusal) = ⊥

-- `go`: reading the file, its size, its tokens, its declarations, what they say
-- `run`: reading the code file, its size, its format; reading the heap file, its size, its format; running
abbrev pub DueToForm : Seen → WordsForm → Answer → Type 0
DueToForm s (go file) = Then (FileGives s file File) GoGives
DueToForm s (run code heap steps) =
    Then (CodeGives s code) (λ c. Then (StartGives s heap) (λ h. RunGives c h (step_limit steps)))

-- the answer that is due to a command, with its cause
abbrev pub Due : List (List ℕ) → Seen → Answer → Type 0
Due words s = Then (WordsGive words) (DueToForm s)
