-- What was printed, where nothing of the outside came between.
use Rattle.std.proofs.Common.{ℕ, ◌≡◌, ◌≢◌, ◌⊎◌, List, Err, refl, ◌∙◌, ap, ⊎_elim, inl}
use Rattle.htt_base.specs.Outside.{Rose}
use Rattle.htt_base.specs.declared.status.Status.{Status}
use Rattle.htt_base.specs.declared.status.Status.TheVariants as status
use Rattle.htt_top_answers.specs.declared.answer.Refusal.TheVariants.{NoMemory}
use Rattle.htt_top_answers.specs.Answers.{Answer, status_of}
use Rattle.htt_top_answers.specs.Printing.{Printed, Appended, PutsLines, Prints}
use Rattle.htt_top.specs.Stages.{Seen}
use Rattle.htt_top.specs.Due.{Due}
use Rattle.htt_top.specs.Answers.{Answers, AnswersExactly}
use Rattle.htt_top.proofs.ExactLemmas.{answers_agree}

was_put : (p : Printed) (due : Status) (lines : List ℕ) (answer : Status)
    → PutsLines p due lines answer
    → (Rose p.faults_before p.faults_after → ⊥)
    → answer ≢ status.NoMemory
    → (answer ≡ due) × Appended p lines
was_put p due lines status.WriteFault h quiet memory = absurd (quiet h.1)
was_put p due lines status.NoMemory h quiet memory = absurd (memory refl)
was_put p due lines answer h quiet memory = h

is_not_no_memory : (e : Answer) (answer : Status) → answer ≡ status_of e → answer ≢ status.NoMemory → e ≢ Err NoMemory
is_not_no_memory e answer h m n = m (h ∙ ap status_of n)

pub answers_exactly : (words : List (List ℕ)) (s : Seen) (p : Printed) (answer : Status) → Answers words s p answer → AnswersExactly words s p answer
answers_exactly words s p answer h held is_told free due cause memory =
    let given = h.0 in
    let put = was_put p (status_of given) h.2.0 answer h.2.2 free.no_print_fault free.memory in (
      given,
      answers_agree s held is_told free.no_read_fault words due given cause h.1 memory (is_not_no_memory given answer put.0 free.memory),
      put.0,
      (h.2.0, h.2.1, put.1),
    )

-- what is printed is due: the answer, or that memory is wanting
pub answers_of : (words : List (List ℕ)) (s : Seen) (p : Printed) (due : Answer) (answer : Status)
    → Due words s due
    → Prints p due answer ⊎ Prints p (Err NoMemory) answer
    → Answers words s p answer
answers_of words s p due answer cause h =
    ⊎_elim
    (λ (i : Prints p due answer). (due, cause, i))
    (λ (i : Prints p (Err NoMemory) answer). (Err NoMemory, inl (NoMemory, tt, refl), i))
    h
