use Rattle.std.proofs.Common.{rules, ℕ, ◌≡◌, List, Ok, inr, subst}
use Rattle.htt_syntax_words.specs.declared.words.Which.TheVariants.{File}
use Rattle.htt_top_answers.specs.Answers.{Answer}
use Rattle.htt_top.specs.Stages.{Seen, Then, FileGives, GoGives}
use Rattle.htt_top.proofs.go.go.Goals as goal

read_text : (s : Seen) (name bytes text : List ℕ) (x : Answer)
    → FileGives s name File (Ok bytes)
    → text ≡ bytes
    → GoGives text x
    → Then (FileGives s name File) GoGives x
read_text s name bytes text x read same gives = inr (bytes, read, subst (λ b. GoGives b x) same gives)

pub returns-clause-due : goal.returns-clause-due
returns-clause-due g c = read_text _ _ c.in_ok-bytes.bytes.items _ _ c.in_ok-bytes.ensures.gives (search rules) c.run_text.ensures
