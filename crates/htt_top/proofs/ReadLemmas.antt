-- What was read in a call, and a call that is a part of another.
use Rattle.std.proofs.Common.{ℕ, ◌≡◌, ◌≤◌, List, [], ◌∷◌, ◌++◌, Option, Some, None, Result, Ok, Err, sym, ap, subst, ◌∙◌, append_assoc, arith, ⊎_elim, inl, inr}
use Rattle.htt_base.specs.Outside.{Held, Told, Rose}
use Rattle.htt_syntax_words.specs.declared.words.Which.{Which}
use Rattle.htt_syntax_words.specs.declared.words.Which.TheVariants.{CodeFile, HeapFile}
use Rattle.theory_values.specs.Heaps.{Heap}
use Rattle.word_loader_code.specs.declared.code.Code.{Code}
use Rattle.htt_top_answers.specs.declared.answer.Refusal.{Refusal}
use Rattle.htt_top_answers.specs.declared.answer.Refusal.TheVariants.{Usage, ReadFault, Limit, Syntax, NotInferred, BadCode, BadHeap, Fault, Stopped, NoMemory}
use Rattle.htt_top.specs.Words.{ReadsOf, ReadsRun, names_of}
use Rattle.htt_top.specs.Stages.{Then, FileGives, LoadGives, CodeGives, HeapGives, StartGives, seen}

-- ---- the names that were read, one part after the other

pub reads_both : (a b : List (List ℕ)) (before mid now : Option (List (List ℕ)))
    → Told before (λ r. mid ≡ Some (r ++ a))
    → ReadsOf b mid now
    → ReadsOf (a ++ b) before now
reads_both a b None mid now h g = tt
reads_both a b (Some r) mid now h g =
    let k : ReadsOf b (Some (r ++ a)) now = subst (λ (m : Option (List (List ℕ))). ReadsOf b m now) h g in
    (a ++ k.0, k.1, ap (λ (t : List (List ℕ)). a ++ t) k.2 ∙ sym (append_assoc a k.0 k.1), k.3 ∙ ap Some (append_assoc r a k.0))

-- ---- a stage in a longer call

rose_wider : (a b c d : ℕ) → c ≤ a → b ≤ d → Rose a b → Rose c d
rose_wider a b c d earlier later h = omega arith

module _ (held : Option Held) (a b c d : ℕ) (earlier : c ≤ a) (later : b ≤ d) where
  pub file_wider : (name : List ℕ) (which : Which) (x : Result (List ℕ) Refusal)
      → FileGives (seen held a b) name which x
      → FileGives (seen held c d) name which x
  file_wider name which (Ok bytes) h = h
  file_wider name which (Err (Limit passed)) h = h
  file_wider name which (Err ReadFault) h = rose_wider a b c d earlier later h
  file_wider name which (Err NoMemory) h = h
  file_wider name which (Err Usage) h = h
  file_wider name which (Err (Syntax at kind)) h = h
  file_wider name which (Err (NotInferred at)) h = h
  file_wider name which (Err (BadCode at)) h = h
  file_wider name which (Err (BadHeap line)) h = h
  file_wider name which (Err (Fault kind location)) h = h
  file_wider name which (Err (Stopped bound count)) h = h

  then_wider : {A : Type 0} (name : List ℕ) (which : Which) (next : List ℕ → Result A Refusal → Type 0) (x : Result A Refusal)
      → Then (FileGives (seen held a b) name which) next x
      → Then (FileGives (seen held c d) name which) next x
  then_wider {A = A} name which next x h =
      ⊎_elim
      (λ (i : (refusal : Refusal) × FileGives (seen held a b) name which (Err refusal) × (x ≡ Err refusal)).
      inl (i.0, file_wider name which (Err i.0) i.1, i.2))
      (λ (i : (bytes : List ℕ) × FileGives (seen held a b) name which (Ok bytes) × next bytes x). inr (i.0, i.1, i.2))
      h

  pub code_wider : (name : List ℕ) (x : Result Code Refusal) → CodeGives (seen held a b) name x → CodeGives (seen held c d) name x
  code_wider name x h = then_wider name CodeFile LoadGives x h

  pub start_wider : (name : Option (List ℕ)) (x : Result Heap Refusal) → StartGives (seen held a b) name x → StartGives (seen held c d) name x
  start_wider None x h = h
  start_wider (Some name) x h = then_wider name HeapFile HeapGives x h

-- ---- the names that a run reads

pub reads_run : (held : Option Held) (a b c : ℕ) (name : List ℕ) (heap : Option (List ℕ)) (code : Code)
    (before mid now : Option (List (List ℕ)))
    → CodeGives (seen held a b) name (Ok code)
    → b ≤ c
    → Told before (λ r. mid ≡ Some (r ++ (name ∷ [])))
    → ReadsOf (names_of heap) mid now
    → ReadsRun (seen held a c) name heap before now
reads_run held a b c name heap code before mid now coded later all more =
    let earlier : a ≤ a = omega arith in
    inr ((code, code_wider held a b a c earlier later name (Ok code) coded), reads_both (name ∷ []) (names_of heap) before mid now all more)
