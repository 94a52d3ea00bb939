-- How the answer of a run becomes due, stage by stage.
use Rattle.std.proofs.Common.{ℕ, ◌≡◌, ◌≤◌, ◌<◌, ◌^◌, List, Option, Some, None, Result, Ok, Err, refl, subst, ◌∙◌, arith, inl, inr, ⊎_elim}
use Rattle.std.specs.Option.{unwrap_or}
use Rattle.htt_top_words.specs.Forms.{run, HasForm}
use Rattle.htt_top.specs.Words.{step_limit}
use Rattle.htt_top.specs.Due.{Due}
use Rattle.htt_base.specs.Outside.{Held}
use Rattle.theory_values.specs.Heaps.{Heap, InUse, empty_heap}
use Rattle.word_loader_code.specs.declared.code.Code.{Code}
use Rattle.word_loader_code.specs.Valid.{IsValid}
use Rattle.htt_top_answers.specs.declared.answer.Refusal.{Refusal}
use Rattle.htt_top_answers.specs.Answers.{Answer}
use Rattle.htt_syntax_words.specs.declared.words.Which.TheVariants.{CodeFile, HeapFile}
use Rattle.htt_top.specs.Stages.{Seen, seen, Then, FileGives, HeapGives, LoadGives, CodeGives, StartGives, RunGives}
use Rattle.htt_top.proofs.ReadLemmas.{code_wider, start_wider}
use Rattle.htt_top.proofs.ValueLemmas.{empty_is_low}

at_or_above : (n : ℕ) → n ≤ n
at_or_above n = omega arith

abbrev pub RunDue : Seen → List ℕ → Option (List ℕ) → ℕ → Answer → Type 0
RunDue s name heap steps = Then (CodeGives s name) (λ c. Then (StartGives s heap) (λ h. RunGives c h steps))

pub due_no_code : (s : Seen) (name : List ℕ) (heap : Option (List ℕ)) (steps : ℕ) (r : Refusal) (x : Answer)
    → CodeGives s name (Err r)
    → x ≡ Err r
    → RunDue s name heap steps x
due_no_code s name heap steps r x p e = inl (r, p, e)

module _ (held mid : Option Held) (a b c : ℕ) (name : List ℕ) (heap : Option (List ℕ)) (steps : ℕ) (code : Code)
    (coded : CodeGives (seen held a b) name (Ok code)) (same : mid ≡ held) (earlier : a ≤ b) (later : b ≤ c) where
  start_seen : (x : Result Heap Refusal) → StartGives (seen mid b c) heap x → StartGives (seen held a c) heap x
  start_seen x p = start_wider held b c a c earlier (at_or_above c) heap x (subst (λ (o : Option Held). StartGives (seen o b c) heap x) same p)

  code_seen : CodeGives (seen held a c) name (Ok code)
  code_seen = code_wider held a b a c (at_or_above a) later name (Ok code) coded

  pub due_no_heap : (r : Refusal) (x : Answer) → StartGives (seen mid b c) heap (Err r) → x ≡ Err r → RunDue (seen held a c) name heap steps x
  due_no_heap r x p e = inr (code, code_seen, inl (r, start_seen (Err r) p, e))

  pub due_run : (h : Heap) (x : Answer) → StartGives (seen mid b c) heap (Ok h) → RunGives code h steps x → RunDue (seen held a c) name heap steps x
  due_run h x p ran = inr (code, code_seen, inr (h, start_seen (Ok h) p, ran))

-- ---- what a run may start from

ok_is_no_err : {A : Type 0} (a : A) (r : Refusal) (x : Result A Refusal) → x ≡ Ok a → x ≡ Err r → ⊥
ok_is_no_err a r x p q = cc

values_agree : {A : Type 0} (a b : A) (x : Result A Refusal) → x ≡ Ok a → x ≡ Ok b → a ≡ b
values_agree a b x p q = cc

pub loaded_is_valid : (s : Seen) (name : List ℕ) (code : Code) → CodeGives s name (Ok code) → IsValid code
loaded_is_valid s name code p =
    ⊎_elim
    (λ (i : (refusal : Refusal) × FileGives s name CodeFile (Err refusal) × (Ok code ≡ Err refusal)). absurd (ok_is_no_err code i.0 (Ok code) refl i.2))
    (λ (i : (bytes : List ℕ) × FileGives s name CodeFile (Ok bytes) × LoadGives bytes (Ok code)). i.2.valid)
    p

pub started_is_low : (s : Seen) (name : Option (List ℕ)) (h : Heap) → StartGives s name (Ok h) → (l : ℕ) → InUse h l → l < 2 ^ 63
started_is_low s None h p = empty_is_low h (values_agree h empty_heap (Ok h) refl p)
started_is_low s (Some name) h p =
    ⊎_elim
    (λ (i : (refusal : Refusal) × FileGives s name HeapFile (Err refusal) × (Ok h ≡ Err refusal)). absurd (ok_is_no_err h i.0 (Ok h) refl i.2))
    (λ (i : (bytes : List ℕ) × FileGives s name HeapFile (Ok bytes) × HeapGives bytes (Ok h)). i.2.below)
    p

-- ---- the words

limit_is : (steps : Option ℕ) → unwrap_or steps 10000000 ≡ step_limit steps
limit_is None = refl
limit_is (Some n) = refl

pub due_of_run : (words : List (List ℕ)) (s : Seen) (code : List ℕ) (heap : Option (List ℕ)) (steps : Option ℕ) (n : ℕ) (x : Answer)
    → HasForm words (run code heap steps)
    → n ≡ unwrap_or steps 10000000
    → RunDue s code heap n x
    → Due words s x
due_of_run words s code heap steps n x form e due = inr (run code heap steps, form, subst (λ k. RunDue s code heap k x) (e ∙ limit_is steps) due)
