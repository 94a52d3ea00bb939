-- How an answer is printed.
use Rattle.std.proofs.Common.{ℕ, ◌≡◌, List, [], ◌++◌, Option, Some, None, Ok, Err, refl, sym, ap, append-nil}
use Rattle.htt_base.specs.Outside.{Told, PutGives}
use Rattle.htt_top_answers.specs.declared.answer.Refusal.TheVariants.{Usage, ReadFault, Limit, Syntax, NotInferred, BadCode, BadHeap, Fault, Stopped, NoMemory}
use Rattle.htt_top_answers.specs.Answers.{Answer, status_of}
use Rattle.htt_top_answers.specs.Printing.{Printed, Appended, PutsLines}

-- a put that was done appends
pub appended_done : (before after : Option (List ℕ)) (bytes : List ℕ) (u : Unit {0})
    → PutGives before after bytes (Ok u)
    → Told before (λ b. after ≡ Some (b ++ bytes))
appended_done None after bytes u h = tt
appended_done (Some b) None bytes u h = absurd h
appended_done (Some b) (Some n) bytes u h = ap Some h.done

-- all of the lines are a beginning of them
began_all : (before after : Option (List ℕ)) (bytes : List ℕ)
    → Told before (λ b. after ≡ Some (b ++ bytes))
    → Told before (λ b. (done left : List ℕ) × (bytes ≡ done ++ left) × (after ≡ Some (b ++ done)))
began_all None after bytes h = tt
began_all (Some b) after bytes h = (bytes, [], sym (append-nil bytes), h)

-- lines that were put print their answer
pub puts_appended : (p : Printed) (lines : List ℕ) (answer : Answer) → Appended p lines → PutsLines p (status_of answer) lines (status_of answer)
puts_appended p lines (Ok outcome) h = (refl, h)
puts_appended p lines (Err Usage) h = (refl, h)
puts_appended p lines (Err ReadFault) h = (refl, h)
puts_appended p lines (Err (Limit which)) h = (refl, h)
puts_appended p lines (Err (Syntax at kind)) h = (refl, h)
puts_appended p lines (Err (NotInferred at)) h = (refl, h)
puts_appended p lines (Err (BadCode at)) h = (refl, h)
puts_appended p lines (Err (BadHeap line)) h = (refl, h)
puts_appended p lines (Err (Fault kind location)) h = (refl, h)
puts_appended p lines (Err (Stopped bound count)) h = (refl, h)
puts_appended p lines (Err NoMemory) h = began_all p.before p.after lines h
