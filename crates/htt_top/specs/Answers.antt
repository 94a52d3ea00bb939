-- What a command answers and prints.
use Rattle.std.specs.Prelude.{ℕ, ◌≡◌, ◌≢◌, ◌⊎◌, List, Some, Ok, Err}
use Rattle.htt_base.specs.Outside.{Held, Rose}
use Rattle.htt_base.specs.declared.status.Status.{Status}
use Rattle.htt_base.specs.declared.status.Status.TheVariants as status
use Rattle.htt_syntax_words.specs.declared.words.Which.TheVariants.{File}
use Rattle.htt_lexer_tokens.specs.declared.tokens.Token.{Token}
use Rattle.htt_parser_trees.specs.Trees.{RawDeclTree}
use Rattle.htt_top_one_form.specs.declared.form.Form.{Form}
use Rattle.htt_top_one_form.specs.Form.{IsForm}
use Rattle.htt_top_words.specs.Forms.{go, HasForm}
use Rattle.htt_top_answers.specs.declared.answer.Refusal.TheVariants.{Syntax, NoMemory}
use Rattle.htt_top_answers.specs.Answers.{Answer, status_of}
use Rattle.htt_top_answers.specs.Lines.{AreLines}
use Rattle.htt_top_answers.specs.Printing.{Printed, Appended, Prints}
use Rattle.htt_top.specs.Stages.{Seen, FileGives, TokensGive, ParseGives}
use Rattle.htt_top.specs.Due.{Due}

-- a command prints what is due, and its status is that of the answer, unless printing it fails
abbrev pub Answers : List (List ℕ) → Seen → Printed → Status → Type 0
Answers words s p answer = (due : Answer) × Due words s due × Prints p due answer

-- nothing of the outside came between: no count of faults rose, and memory didn't run out
pub record IsUndisturbed (s : Seen) (p : Printed) (answer : Status) : Type 0 where
  pub no_read_fault : Rose s.before s.now → ⊥
  pub no_print_fault : Rose p.faults_before p.faults_after → ⊥
  pub memory : answer ≢ status.NoMemory

-- the words name a file whose text has declarations, but not those of a form
pub record IsOtherFile (words : List (List ℕ)) (s : Seen) : Type 0 where
  pub name : List ℕ
  pub bytes : List ℕ
  pub tokens : List Token
  pub decls : List RawDeclTree
  pub named : HasForm words (go name)
  pub read : FileGives s name File (Ok bytes)
  pub cut : TokensGive bytes (Ok tokens)
  pub parsed : ParseGives bytes tokens (Ok decls)
  pub other : (f : Form) → IsForm bytes decls f → ⊥

abbrev pub IsSyntax : Answer → Type 0
IsSyntax (Err (Syntax at kind)) = Unit {0}
IsSyntax answer = ⊥

-- one answer; only of such a file the place and the kind of the refusal are free
abbrev pub IsSameAnswer : List (List ℕ) → Seen → Answer → Answer → Type 0
IsSameAnswer words s due given = (given ≡ due) ⊎ (IsOtherFile words s × IsSyntax due × IsSyntax given)

-- where the files tell what they hold and nothing of the outside came between, a command answers
-- whatever is due to it and prints all its lines: each answer comes exactly where its cause stands
abbrev pub AnswersExactly : List (List ℕ) → Seen → Printed → Status → Type 0
AnswersExactly words s p answer =
    (held : Held)
    → s.held ≡ Some held
    → IsUndisturbed s p answer
    → (due : Answer)
    → Due words s due
    → due ≢ Err NoMemory →
    (given : Answer)
    × IsSameAnswer words s due given
    × (answer ≡ status_of given)
    × ((lines : List ℕ) × AreLines given lines × Appended p lines)
