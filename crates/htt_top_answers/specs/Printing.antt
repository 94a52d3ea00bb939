-- What comes of printing an answer.
use Rattle.std.specs.Prelude.{ℕ, ◌≡◌, ◌++◌, List, Option, Some}
use Rattle.htt_base.specs.Outside.{Told, Rose}
use Rattle.htt_base.specs.declared.status.Status.{Status}
use Rattle.htt_base.specs.declared.status.Status.TheVariants as status
use Rattle.htt_top_answers.specs.Answers.{Answer, status_of}
use Rattle.htt_top_answers.specs.Lines.{AreLines}

-- what is seen of the sink: its bytes and its count of faults at entry and at exit
pub record Printed : Type 0 where
  pub before : Option (List ℕ)
  pub after : Option (List ℕ)
  pub faults_before : ℕ
  pub faults_after : ℕ

abbrev pub printed : Option (List ℕ) → Option (List ℕ) → ℕ → ℕ → Printed
printed before after faults_before faults_after =
    record { before = before; after = after; faults_before = faults_before; faults_after = faults_after }

-- the sink has these bytes more, where it tells
abbrev pub Appended : Printed → List ℕ → Type 0
Appended p bytes = Told p.before (λ b. p.after ≡ Some (b ++ bytes))

-- the sink has some of the first of these bytes more, where it tells
abbrev pub Began : Printed → List ℕ → Type 0
Began p bytes = Told p.before (λ b. (done left : List ℕ) × (bytes ≡ done ++ left) × (p.after ≡ Some (b ++ done)))

-- what comes of printing lines for a status: the status, with all the lines appended, or else a
-- beginning of them, where the sink's faults rose or memory ran out
abbrev pub PutsLines : Printed → Status → List ℕ → Status → Type 0
PutsLines p due lines status.WriteFault = Began p lines × Rose p.faults_before p.faults_after
PutsLines p due lines status.NoMemory = Began p lines
PutsLines p due lines answer = (answer ≡ due) × Appended p lines

-- what comes of printing an answer
abbrev pub Prints : Printed → Answer → Status → Type 0
Prints p answer status = (lines : List ℕ) × AreLines answer lines × PutsLines p (status_of answer) lines status
