-- What a command answers, and the status of each answer.
use Rattle.std.specs.Prelude.{ℕ, List, Result, Ok, Err}
use Rattle.htt_base.specs.declared.status.Status.{Status}
use Rattle.htt_base.specs.declared.status.Status.TheVariants as status
use Rattle.htt_syntax_words.specs.declared.words.Rule.TheVariants.{Infer}
use Rattle.theory_values.specs.Heaps.{Heap}
use Rattle.heap_model_flat.specs.Blocks.{blocks_of}
use Rattle.htt_top_answers.specs.declared.answer.Success.{Success}
use Rattle.htt_top_answers.specs.declared.answer.Success.TheVariants.{Value, Halted}
use Rattle.htt_top_answers.specs.declared.answer.Refusal.{Refusal}
use Rattle.htt_top_answers.specs.declared.answer.Refusal.TheVariants.{Usage, ReadFault, Limit, Syntax, NotInferred}
use Rattle.htt_top_answers.specs.declared.answer.Refusal.TheVariants.{BadCode, BadHeap, Fault, Stopped, NoMemory}

-- what is seen of a success: the value of main, or the words and the heap with which code halted
pub data SeenSuccess : Type 0 where
  value : ℕ → SeenSuccess
  halt : List ℕ → Heap → SeenSuccess

abbrev pub outcome_of : Success → SeenSuccess
outcome_of (Value n) = value n
outcome_of (Halted words heap) = halt words (blocks_of heap)

abbrev pub Answer : Type 0
Answer = Result SeenSuccess Refusal

-- what is seen of an answer
abbrev pub seen_answer : Result Success Refusal → Answer
seen_answer (Ok success) = Ok (outcome_of success)
seen_answer (Err refusal) = Err refusal

abbrev pub refusal_status : Refusal → Status
refusal_status Usage = status.Usage
refusal_status ReadFault = status.ReadFault
refusal_status (Limit which) = status.Limit which
refusal_status (Syntax at kind) = status.Syntax at kind
refusal_status (NotInferred at) = status.No 1 at Infer
refusal_status (BadCode at) = status.BadCode at
refusal_status (BadHeap line) = status.BadHeap line
refusal_status (Fault kind location) = status.MachineFault kind location
refusal_status (Stopped bound count) = status.Stopped bound count
refusal_status NoMemory = status.NoMemory

abbrev pub status_of : Answer → Status
status_of (Ok outcome) = status.Done
status_of (Err refusal) = refusal_status refusal
