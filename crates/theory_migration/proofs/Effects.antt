-- What an instruction does in migrated code, which goes on with the merged stack.
use Rattle.std.proofs.Common.{◌≡◌, ℕ, zero, suc, ◌+◌, List, [], ◌∷◌, ◌++◌, length, take, drop, Bool, true, false, nat_eq, if◌then◌else◌, Option, Some, None}
use Rattle.std.proofs.Common.{slice_get, refl, sym, ap, ◌∙◌, subst, arith}
use Rattle.htt_syntax_words.specs.declared.words.Kind.{Kind}
use Rattle.htt_syntax_words.specs.declared.words.Kind.TheVariants as kind
use Rattle.theory_values.specs.Heaps.{Heap, Block, with_block, without_block}
use Rattle.word_loader_code.specs.declared.code.Code.{Code}
use Rattle.word_loader_code.specs.declared.code.Function.{Function}
use Rattle.word_loader_code.specs.declared.code.Instr.{Instr}
use Rattle.word_loader_code.specs.declared.code.Instr.TheVariants.{Const, Mov, Op, Sel, Alloc, Get, Set, Free, Jump, Jz, Call, Ret, Tail}
use Rattle.word_loader_code.specs.Machine.{Frame, Stack, bottom, above, top, with_top, goes_on, Machine, going, halted, faulted, asking, words_at, with_words}
use Rattle.word_loader_code.specs.Machine.{local_at, operation_result}
use Rattle.word_loader_code.specs.Machine.{entered_frame, with_choice, is_fresh, at_block, returned, called, replaced, effect}
use Rattle.theory_migration.specs.Migration.{returns_as, is_returned, tail_or_call, retailed_instr, retailed_function, retailed}
use Rattle.theory_migration.proofs.Bodies.{function_or_none, function_there}
use Rattle.theory_migration.proofs.Merged.{waits_in, waits, merged_above, merged, merged_machine, top_merged, merged_with, merged_goes_on, merged_call}
use Rattle.theory_migration.proofs.Merged.{tail_merged}

if_merged : (code : Code) (b : Bool) (x y u v : Machine)
    → u ≡ merged_machine code x
    → v ≡ merged_machine code y
    → (if b then u else v) ≡ merged_machine code (if b then x else y)
if_merged code true x y u v p q = p
if_merged code false x y u v p q = q

block_merged : (code : Code) (kind : Kind) (l : ℕ) (o : Option Block) (n : ℕ) (f g : Block → Machine)
    → ((b : Block) → g b ≡ merged_machine code (f b))
    → at_block kind l o n g ≡ merged_machine code (at_block kind l o n f)
block_merged code kind l None n f g p = refl
block_merged code kind l (Some b) n f g p = if_merged code (nat_eq (length b) n) (f b) (faulted kind l) (g b) (faulted kind l) (p b) refl

choice_merged : (code : Code) (h : Heap) (choices : List ℕ) (f g : ℕ → List ℕ → Machine)
    → ((l : ℕ) (left : List ℕ) → g l left ≡ merged_machine code (f l left))
    → with_choice h choices g ≡ merged_machine code (with_choice h choices f)
choice_merged code h [] f g p = refl
choice_merged code h (l ∷ choices) f g p = if_merged code (is_fresh h l) (f l choices) asking (g l choices) asking (p l choices) refl

-- instructions that stay in their frame
abbrev pub Stays : Instr → Type 0
Stays (Call g a d) = ⊥
Stays (Ret s) = ⊥
Stays (Tail g a) = ⊥
Stays i = Unit {0}

module _ (code : Code) (f f' : Function) (h : Heap) (stack : Stack) (choices : List ℕ) where
  t : top (merged code stack) ≡ top stack
  t = top_merged code stack

  goes : (heap : Heap) (next : ℕ) (locals left : List ℕ)
      → going heap (goes_on (merged code stack) next locals) left ≡ merged_machine code (going heap (goes_on stack next locals) left)
  goes heap next locals left = ap (λ s. going heap s left) (sym (merged_goes_on code stack next locals))

  pub effect_merged : (i : Instr) → Stays i → effect (retailed code) f' i h (merged code stack) choices ≡ merged_machine code (effect code f i h stack choices)
  effect_merged (Const d v) s =
      (λ j. going h (goes_on (merged code stack) ((t j).next + 1) (with_words (t j).locals d (v ∷ []))) choices)
      ∙ goes h ((top stack).next + 1) (with_words (top stack).locals d (v ∷ [])) choices
  effect_merged (Mov d x n) s =
      (λ j. going h (goes_on (merged code stack) ((t j).next + 1) (with_words (t j).locals d (words_at (t j).locals x n))) choices)
      ∙ goes h ((top stack).next + 1) (with_words (top stack).locals d (words_at (top stack).locals x n)) choices
  effect_merged (Op d o a b) s =
      (λ j.
      going h (goes_on (merged code stack) ((t j).next + 1)
      (with_words (t j).locals d (operation_result o (local_at (t j).locals a) (local_at (t j).locals b) ∷ []))) choices)
      ∙ goes h ((top stack).next + 1)
      (with_words (top stack).locals d (operation_result o (local_at (top stack).locals a) (local_at (top stack).locals b) ∷ [])) choices
  effect_merged (Sel d c a b n) s =
      (λ j. going h (goes_on (merged code stack) ((t j).next + 1)
      (with_words (t j).locals d (if nat_eq (local_at (t j).locals c) 0 then words_at (t j).locals b n else words_at (t j).locals a n))) choices)
      ∙ goes h ((top stack).next + 1)
      (with_words (top stack).locals d
      (if nat_eq (local_at (top stack).locals c) 0 then words_at (top stack).locals b n else words_at (top stack).locals a n)) choices
  effect_merged (Alloc d x n) s =
      (λ j.
      with_choice h choices (λ l left.
      going (with_block h l (words_at (t j).locals x n)) (goes_on (merged code stack) ((t j).next + 1) (with_words (t j).locals d (l ∷ [])))
      left))
      ∙ choice_merged code h choices
      (λ l left.
      going (with_block h l (words_at (top stack).locals x n))
      (goes_on stack ((top stack).next + 1) (with_words (top stack).locals d (l ∷ []))) left)
      (λ l left.
      going (with_block h l (words_at (top stack).locals x n))
      (goes_on (merged code stack) ((top stack).next + 1) (with_words (top stack).locals d (l ∷ []))) left)
      (λ l left. goes (with_block h l (words_at (top stack).locals x n)) ((top stack).next + 1) (with_words (top stack).locals d (l ∷ [])) left)
  effect_merged (Get d p n) s =
      (λ j.
      at_block kind.Get (local_at (t j).locals p) (h (local_at (t j).locals p)) n
      (λ block. going h (goes_on (merged code stack) ((t j).next + 1) (with_words (t j).locals d block)) choices))
      ∙ block_merged code kind.Get (local_at (top stack).locals p) (h (local_at (top stack).locals p)) n
      (λ block. going h (goes_on stack ((top stack).next + 1) (with_words (top stack).locals d block)) choices)
      (λ block. going h (goes_on (merged code stack) ((top stack).next + 1) (with_words (top stack).locals d block)) choices)
      (λ block. goes h ((top stack).next + 1) (with_words (top stack).locals d block) choices)
  effect_merged (Set p x n) s =
      (λ j. at_block kind.Set (local_at (t j).locals p) (h (local_at (t j).locals p)) n
      (λ block. going (with_block h (local_at (t j).locals p) (words_at (t j).locals x n)) (goes_on (merged code stack) ((t j).next + 1) (t j).locals) choices))
      ∙ block_merged code kind.Set (local_at (top stack).locals p) (h (local_at (top stack).locals p)) n
      (λ block.
      going (with_block h (local_at (top stack).locals p) (words_at (top stack).locals x n))
      (goes_on stack ((top stack).next + 1) (top stack).locals) choices)
      (λ block.
      going (with_block h (local_at (top stack).locals p) (words_at (top stack).locals x n))
      (goes_on (merged code stack) ((top stack).next + 1) (top stack).locals) choices)
      (λ block. goes (with_block h (local_at (top stack).locals p) (words_at (top stack).locals x n)) ((top stack).next + 1) (top stack).locals choices)
  effect_merged (Free p n) s =
      (λ j. at_block kind.Free (local_at (t j).locals p) (h (local_at (t j).locals p)) n
      (λ block. going (without_block h (local_at (t j).locals p)) (goes_on (merged code stack) ((t j).next + 1) (t j).locals) choices))
      ∙ block_merged code kind.Free (local_at (top stack).locals p) (h (local_at (top stack).locals p)) n
      (λ block. going (without_block h (local_at (top stack).locals p)) (goes_on stack ((top stack).next + 1) (top stack).locals) choices)
      (λ block. going (without_block h (local_at (top stack).locals p)) (goes_on (merged code stack) ((top stack).next + 1) (top stack).locals) choices)
      (λ block. goes (without_block h (local_at (top stack).locals p)) ((top stack).next + 1) (top stack).locals choices)
  effect_merged (Jump target) s =
      (λ j. going h (goes_on (merged code stack) target (t j).locals) choices) ∙ goes h target (top stack).locals choices
  effect_merged (Jz c target) s =
      (λ j. if nat_eq (local_at (t j).locals c) 0 then going h (goes_on (merged code stack) target (t j).locals) choices
      else going h (goes_on (merged code stack) ((t j).next + 1) (t j).locals) choices)
      ∙ if_merged code (nat_eq (local_at (top stack).locals c) 0)
      (going h (goes_on stack target (top stack).locals) choices) (going h (goes_on stack ((top stack).next + 1) (top stack).locals) choices)
      (going h (goes_on (merged code stack) target (top stack).locals) choices)
      (going h (goes_on (merged code stack) ((top stack).next + 1) (top stack).locals) choices)
      (goes h target (top stack).locals choices) (goes h ((top stack).next + 1) (top stack).locals choices)
  effect_merged (Call g a d) s = absurd s
  effect_merged (Ret x) s = absurd s
  effect_merged (Tail g a) s = absurd s

  -- a call, whose frame stays or is replaced
  call_merged : (o : Option Function) (b : Bool) (g a d : ℕ)
      → slice_get code.functions g ≡ o
      → waits code (top (goes_on stack ((top stack).next + 1) (top stack).locals)) d g ≡ b
      → effect (retailed code) f' (tail_or_call b g a d) h (merged code stack) choices ≡ merged_machine code (called o h stack g choices a d)
  call_merged None true g a d q w = ap (λ k. replaced k h (merged code stack) g choices a) (function_there code code.functions g ∙ ap (function_or_none code) q)
  call_merged None false g a d q w =
      ap (λ k. called k h (merged code stack) g choices a d) (function_there code code.functions g ∙ ap (function_or_none code) q)
  call_merged (Some k) true g a d q w =
      let frame : Frame = entered_frame g k (words_at (top stack).locals a k.params) in
      ap (λ o. replaced o h (merged code stack) g choices a) (function_there code code.functions g ∙ ap (function_or_none code) q)
      ∙ (λ j. going h (with_top (merged code stack) (entered_frame g k (words_at (t j).locals a k.params))) choices)
      ∙ ap (λ s. going h s choices)
      (sym (merged_call code stack frame d ((top stack).next + 1) (top stack).locals true w
      ∙ tail_merged (merged code stack) frame ((top stack).next + 1) (top stack).locals))
  call_merged (Some k) false g a d q w =
      let frame : Frame = entered_frame g k (words_at (top stack).locals a k.params) in
      ap (λ o. called o h (merged code stack) g choices a d) (function_there code code.functions g ∙ ap (function_or_none code) q)
      ∙ (λ j. going h (above (entered_frame g k (words_at (t j).locals a k.params)) d (goes_on (merged code stack) ((t j).next + 1) (t j).locals)) choices)
      ∙ ap (λ s. going h s choices) (sym (merged_call code stack frame d ((top stack).next + 1) (top stack).locals false w))

  -- where the frame's function is f, it waits behind the call exactly where the call is returned
  waits_behind : (g d next : ℕ)
      → slice_get code.functions (top stack).function ≡ Some f
      → next ≡ suc (top stack).next
      → waits_in code (slice_get code.functions (top stack).function) next d g ≡ is_returned code f g d (slice_get f.body (suc (top stack).next))
  waits_behind g d next q r = (λ j. waits_in code (q j) next d g) ∙ ap (λ n. is_returned code f g d (slice_get f.body n)) r

  pub call_effect : (g a d : ℕ)
      → slice_get code.functions (top stack).function ≡ Some f
      → effect (retailed code) f' (retailed_instr code f (Call g a d) (slice_get f.body (suc (top stack).next))) h (merged code stack) choices
      ≡ merged_machine code (effect code f (Call g a d) h stack choices)
  call_effect g a d q =
      let next : (top stack).next + 1 ≡ suc (top stack).next = omega arith in
      call_merged (slice_get code.functions g) (is_returned code f g d (slice_get f.body (suc (top stack).next))) g a d refl
      (waits_on g d ∙ waits_behind g d ((top stack).next + 1) q next)
    where
      on_stack : (s : Stack) (g d : ℕ)
          → waits code (top (goes_on s ((top s).next + 1) (top s).locals)) d g
          ≡ waits_in code (slice_get code.functions (top s).function) ((top s).next + 1) d g
      on_stack (bottom frame) g d = refl
      on_stack (above frame e below) g d = refl

      waits_on : (g d : ℕ)
          → waits code (top (goes_on stack ((top stack).next + 1) (top stack).locals)) d g
          ≡ waits_in code (slice_get code.functions (top stack).function) ((top stack).next + 1) d g
      waits_on g d = on_stack stack g d

  -- a tail call of a function that returns as many words
  pub tail_effect : (g a : ℕ) (k : Function)
      → slice_get code.functions g ≡ Some k
      → ((below : Frame) (d : ℕ) → waits code below d g ≡ waits code below d (top stack).function)
      → effect (retailed code) f' (Tail g a) h (merged code stack) choices ≡ merged_machine code (effect code f (Tail g a) h stack choices)
  tail_effect g a k q same =
      ap (λ o. replaced o h (merged code stack) g choices a) (function_there code code.functions g ∙ ap (function_or_none code) q)
      ∙ (λ j. going h (with_top (merged code stack) (entered_frame g k (words_at (t j).locals a k.params))) choices)
      ∙ ap (λ s. going h s choices) (sym (merged_with code stack (entered_frame g k (words_at (top stack).locals a k.params)) same))
      ∙ ap (λ o. merged_machine code (replaced o h stack g choices a)) (sym q)
