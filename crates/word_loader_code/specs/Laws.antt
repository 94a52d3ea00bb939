-- The laws of the machine, and small runs.
use Rattle.std.specs.Prelude.{ℕ, ◌≡◌, ◌+◌, List, [], ◌∷◌, ◌++◌}
use Rattle.htt_syntax_words.specs.declared.words.Kind.TheVariants as kind
use Rattle.theory_values.specs.Heaps.{Heap, empty_heap, single_block, with_block, without_block}
use Rattle.word_loader_code.specs.declared.code.Code.{Code}
use Rattle.word_loader_code.specs.declared.code.Instr.{Instr}
use Rattle.word_loader_code.specs.declared.code.Instr.TheVariants.{Const, Mov, Op, Sel, Alloc, Get, Set, Free, Jump, Jz}
use Rattle.word_loader_code.specs.declared.code.Instr.TheVariants.{Call, Ret, Tail}
use Rattle.word_loader_code.specs.Machine.{Machine, going, halted, faulted, asking, machine_after}
use Rattle.word_loader_code.specs.Valid.{IsValid}

abbrev pub IsOver : Machine → Type 0
IsOver (going h stack choices) = ⊥
IsOver _ = Unit {0}

-- a machine that is over stays over
abbrev pub OverIsFinal : Type 0
OverIsFinal =
    (code : Code) (h : Heap) (choices : List ℕ) (n more : ℕ)
    → IsOver (machine_after code h choices n)
    → machine_after code h choices (n + more) ≡ machine_after code h choices n

-- the machine with more choices behind its own
abbrev pub machine_with_more : Machine → List ℕ → Machine
machine_with_more (going h stack choices) more = going h stack (choices ++ more)
machine_with_more machine more = machine

abbrev pub Asks : Machine → Type 0
Asks asking = Unit {0}
Asks _ = ⊥

abbrev pub MachineHandsOnChoices : Type 0
MachineHandsOnChoices =
    (code : Code) (h : Heap) (choices more : List ℕ) (n : ℕ)
    → (Asks (machine_after code h choices n) → ⊥)
    → machine_after code h (choices ++ more) n ≡ machine_with_more (machine_after code h choices n) more

-- code of version 2 with one function without parameters
abbrev pub single_function : ℕ → ℕ → List Instr → Code
single_function locals result body =
    record { version = 2; functions = record { params = 0; locals = locals; result = result; body = body } ∷ [] }

-- two functions; the second has two parameters and returns their difference
abbrev pub with_difference : List Instr → Code
with_difference body =
    record {
      version = 2;
      functions =
          record { params = 0; locals = 4; result = 1; body = body } ∷
          record { params = 2; locals = 3; result = 1; body = Op 2 1 0 1 ∷ Ret 2 ∷ [] } ∷ [];
    }

-- a function with two locals is called with one parameter and returns both
abbrev pub with_two_locals : Code
with_two_locals =
    record {
      version = 2;
      functions =
          record { params = 0; locals = 3; result = 2; body = Const 0 7 ∷ Const 1 8 ∷ Call 1 0 1 ∷ Ret 1 ∷ [] } ∷
          record { params = 1; locals = 2; result = 2; body = Ret 0 ∷ [] } ∷ [];
    }

-- a called function ends in a tail call of a third, which adds 1
abbrev pub with_tail_call : Code
with_tail_call =
    record {
      version = 2;
      functions =
          record { params = 0; locals = 3; result = 1; body = Const 0 4 ∷ Call 1 0 2 ∷ Ret 2 ∷ [] } ∷
          record { params = 1; locals = 1; result = 1; body = Tail 2 0 ∷ [] } ∷
          record { params = 1; locals = 2; result = 1; body = Const 1 1 ∷ Op 1 0 0 1 ∷ Ret 1 ∷ [] } ∷ [];
    }

-- the main function is a tail call of a function that returns 7
abbrev pub seven_by_tail : Code
seven_by_tail =
    record {
      version = 2;
      functions =
          record { params = 0; locals = 0; result = 1; body = Tail 1 0 ∷ [] } ∷
          record { params = 0; locals = 1; result = 1; body = Const 0 7 ∷ Ret 0 ∷ [] } ∷ [];
    }

pub record WorkedRuns : Type 0 where
  -- the halting return is a step
  pub two_steps : machine_after (single_function 1 1 (Const 0 5 ∷ Ret 0 ∷ [])) empty_heap [] 2
      ≡ halted (5 ∷ []) empty_heap
  -- a subtraction below 0 wraps; all words of a mov are read before any is written
  pub wraps :
      machine_after (single_function 3 3 (Const 0 1 ∷ Const 1 2 ∷ Op 2 1 0 1 ∷ Mov 0 1 2 ∷ Ret 0 ∷ [])) empty_heap [] 5
      ≡ halted (2 ∷ 18446744073709551615 ∷ 18446744073709551615 ∷ []) empty_heap
  -- the first choice is taken, and the block stands there
  pub allocates : machine_after (single_function 2 1 (Const 0 7 ∷ Alloc 1 0 1 ∷ Ret 1 ∷ [])) empty_heap (9 ∷ 4 ∷ []) 3
      ≡ halted (9 ∷ []) (with_block empty_heap 9 (7 ∷ []))
  -- no choice, 0, and a location in use ask
  pub no_choice : machine_after (single_function 1 0 (Alloc 0 0 1 ∷ Ret 0 ∷ [])) empty_heap [] 1 ≡ asking
  pub zero_choice : machine_after (single_function 1 0 (Alloc 0 0 1 ∷ Ret 0 ∷ [])) empty_heap (0 ∷ []) 1 ≡ asking
  pub used_choice : machine_after (single_function 1 0 (Alloc 0 0 1 ∷ Ret 0 ∷ [])) (single_block 3 (8 ∷ [])) (3 ∷ []) 1
      ≡ asking
  -- a get of a block of another length faults, and so does one at 0
  pub other_length :
      machine_after (single_function 2 0 (Const 0 3 ∷ Get 0 0 2 ∷ Ret 0 ∷ [])) (single_block 3 (8 ∷ [])) [] 2
      ≡ faulted kind.Get 3
  pub at_null : machine_after (single_function 2 0 (Get 0 0 1 ∷ Ret 0 ∷ [])) (single_block 3 (8 ∷ [])) [] 1
      ≡ faulted kind.Get 0
  -- a call's result goes to its place below: 9 - 4, with the parameters from place 1
  pub calls : machine_after (with_difference (Const 1 9 ∷ Const 2 4 ∷ Call 1 1 3 ∷ Ret 3 ∷ [])) empty_heap [] 6
      ≡ halted (5 ∷ []) empty_heap
  -- a tail call's result is the bottom frame's own
  pub tail_calls : machine_after (with_difference (Const 1 9 ∷ Const 2 4 ∷ Tail 1 1 ∷ [])) empty_heap [] 5
      ≡ halted (5 ∷ []) empty_heap
  -- a jump on 0 is taken at 0
  pub jumps : machine_after (single_function 1 1 (Jz 0 2 ∷ Ret 0 ∷ Const 0 6 ∷ Jump 1 ∷ [])) empty_heap [] 4
      ≡ halted (6 ∷ []) empty_heap
  -- not gives 1 exactly for 0; a shift takes its count modulo 64
  pub shifts : machine_after (single_function 2 1 (Op 0 10 1 1 ∷ Const 1 65 ∷ Op 0 6 0 1 ∷ Ret 0 ∷ [])) empty_heap [] 4
      ≡ halted (2 ∷ []) empty_heap
  -- a jump on 0 isn't taken at 1
  pub goes_on : machine_after (single_function 1 1 (Const 0 1 ∷ Jz 0 3 ∷ Ret 0 ∷ Jump 2 ∷ [])) empty_heap [] 3
      ≡ halted (1 ∷ []) empty_heap
  -- a choice of words: the first where the test isn't 0, and the second where it is
  pub first_chosen :
      machine_after (single_function 4 1 (Const 1 5 ∷ Const 2 6 ∷ Sel 3 1 1 2 1 ∷ Ret 3 ∷ [])) empty_heap [] 4
      ≡ halted (5 ∷ []) empty_heap
  pub second_chosen :
      machine_after (single_function 4 1 (Const 1 5 ∷ Const 2 6 ∷ Sel 3 0 1 2 1 ∷ Ret 3 ∷ [])) empty_heap [] 4
      ≡ halted (6 ∷ []) empty_heap
  -- a block is written and read, and then freed
  pub written :
      machine_after (single_function 2 1 (Const 0 3 ∷ Const 1 9 ∷ Set 0 1 1 ∷ Get 1 0 1 ∷ Ret 1 ∷ []))
      (single_block 3 (8 ∷ [])) [] 5
      ≡ halted (9 ∷ []) (with_block (single_block 3 (8 ∷ [])) 3 (9 ∷ []))
  pub freed : machine_after (single_function 1 0 (Const 0 3 ∷ Free 0 1 ∷ Ret 0 ∷ [])) (single_block 3 (8 ∷ [])) [] 3
      ≡ halted [] (without_block (single_block 3 (8 ∷ [])) 3)
  pub freed_twice :
      machine_after (single_function 1 0 (Const 0 3 ∷ Free 0 1 ∷ Free 0 1 ∷ Ret 0 ∷ [])) (single_block 3 (8 ∷ [])) [] 3
      ≡ faulted kind.Free 3
  pub set_of_other_length :
      machine_after (single_function 3 0 (Const 0 3 ∷ Set 0 1 2 ∷ Ret 0 ∷ [])) (single_block 3 (8 ∷ [])) [] 2
      ≡ faulted kind.Set 3
  pub free_of_other_length :
      machine_after (single_function 1 0 (Const 0 3 ∷ Free 0 2 ∷ Ret 0 ∷ [])) (single_block 3 (8 ∷ [])) [] 2
      ≡ faulted kind.Free 3
  -- a local that isn't a parameter is 0, whatever the caller has there
  pub other_locals : machine_after with_two_locals empty_heap [] 5 ≡ halted (7 ∷ 0 ∷ []) empty_heap
  -- what a tail call gives goes where the replaced frame's result would have gone
  pub tail_call_inside : machine_after with_tail_call empty_heap [] 7 ≡ halted (5 ∷ []) empty_heap
  pub tail_call_outside : machine_after seven_by_tail empty_heap [] 3 ≡ halted (7 ∷ []) empty_heap
  -- before the halting return the machine goes on
  pub before_the_end : IsOver (machine_after seven_by_tail empty_heap [] 2) → ⊥

-- code of version 1 with one function without parameters
abbrev pub old_function : ℕ → ℕ → List Instr → Code
old_function locals result body =
    record { version = 1; functions = record { params = 0; locals = locals; result = result; body = body } ∷ [] }

pub record WorkedCode : Type 0 where
  pub jump_to_itself : IsValid (old_function 0 0 (Jump 0 ∷ []))
  pub jump_too_far : IsValid (old_function 0 0 (Jump 1 ∷ [])) → ⊥
  pub tail_call : IsValid seven_by_tail
  -- version 1 has no tail call, and there is no version 3
  pub old_tail_call : IsValid (record { version = 1; functions = seven_by_tail.functions }) → ⊥
  pub no_third_version : IsValid (record { version = 3; functions = seven_by_tail.functions }) → ⊥
  -- a place of no words may be equal to the count of locals, and not above it
  pub no_words : IsValid (single_function 1 0 (Mov 1 1 0 ∷ Ret 0 ∷ []))
  pub no_words_beyond : IsValid (single_function 1 0 (Mov 2 1 0 ∷ Ret 0 ∷ [])) → ⊥
  pub same_place_twice : IsValid (single_function 2 1 (Op 0 10 1 1 ∷ Ret 0 ∷ []))
  pub other_place : IsValid (single_function 2 1 (Op 0 10 1 0 ∷ Ret 0 ∷ [])) → ⊥
  pub no_operation : IsValid (single_function 2 1 (Op 0 11 1 1 ∷ Ret 0 ∷ [])) → ⊥
  -- a body ends in an instruction that leaves, and has one
  pub open_end : IsValid (single_function 1 1 (Const 0 5 ∷ [])) → ⊥
  pub no_instruction : IsValid (single_function 1 1 []) → ⊥
  pub no_function : IsValid (record { version = 2; functions = [] }) → ⊥
  -- a return of more words than there are, and a call of a function that isn't there
  pub too_many_words : IsValid (single_function 1 2 (Ret 0 ∷ [])) → ⊥
  pub no_such_function : IsValid (single_function 1 1 (Call 1 0 0 ∷ Ret 0 ∷ [])) → ⊥
  -- the function that is entered takes no parameters
  pub main_takes_one :
      IsValid
      (record { version = 2; functions = record { params = 1; locals = 1; result = 1; body = Ret 0 ∷ [] } ∷ [] })
      → ⊥
