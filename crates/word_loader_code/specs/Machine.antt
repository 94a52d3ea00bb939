-- The written machine: its states, one step, and the machine after a number of steps.
use Rattle.std.specs.Prelude.{ℕ, zero, suc, ◌≡◌, ◌+◌, ◌-◌, List, [], ◌∷◌, ◌++◌, length, take, drop, replicate, Bool}
use Rattle.std.specs.Prelude.{true, false, Option, Some, None, nat_eq, nat_lt, slice_get, slice_index_or, if◌then◌else◌}
use Rattle.htt_syntax_words.specs.declared.words.Kind.{Kind}
use Rattle.htt_syntax_words.specs.declared.words.Kind.TheVariants as kind
use Rattle.htt_syntax.specs.declared.mono.Op.{Op as Operation}
use Rattle.htt_syntax.specs.declared.mono.Op.TheVariants as ops
use Rattle.theory_values.specs.Values.{Value, v_word, v_bool, op_value}
pub use Rattle.theory_values.specs.Heaps.{is_fresh}
use Rattle.theory_values.specs.Heaps.{Heap, Block, with_block, without_block}
use Rattle.word_loader_code.specs.declared.code.Code.{Code}
use Rattle.word_loader_code.specs.declared.code.Function.{Function}
use Rattle.word_loader_code.specs.declared.code.Instr.{Instr}
use Rattle.word_loader_code.specs.declared.code.Instr.TheVariants.{Const, Mov, Op, Sel, Alloc, Get, Set, Free, Jump, Jz}
use Rattle.word_loader_code.specs.declared.code.Instr.TheVariants.{Call, Ret, Tail}

-- a function by its number, where its next instruction stands, and its locals
pub record Frame : Type 0 where
  pub function : ℕ
  pub next : ℕ
  pub locals : List ℕ

-- the bottom frame, or a frame above others with the place for its result in the frame below
pub data Stack : Type 0 where
  bottom : Frame → Stack
  above : Frame → ℕ → Stack → Stack

-- a machine that goes on, with the choices of locations that are left, or one that is over
pub data Machine : Type 0 where
  going : Heap → Stack → List ℕ → Machine
  halted : List ℕ → Heap → Machine
  faulted : Kind → ℕ → Machine
  asking : Machine

-- the word at a place, n words from a place on, and the locals with these words from a place on
abbrev pub local_at : List ℕ → ℕ → ℕ
local_at locals place = slice_index_or locals place 0

abbrev pub words_at : List ℕ → ℕ → ℕ → List ℕ
words_at locals place n = take n (drop place locals)

abbrev pub with_words : List ℕ → ℕ → List ℕ → List ℕ
with_words locals place words = take place locals ++ words ++ drop (place + length words) locals

-- a value of a word or a boolean as a word
abbrev pub value_as_word : Value → ℕ
value_as_word (v_word n) = n
value_as_word (v_bool true) = 1
value_as_word _ = 0

abbrev pub on_words : Operation → ℕ → ℕ → ℕ
on_words op x y = value_as_word (op_value op x y)

-- the operations by their numbers, from 0 on: those of the language, equality, and whether a word is 0
abbrev pub operations : List (ℕ → ℕ → ℕ)
operations =
    on_words ops.Add ∷ on_words ops.Sub ∷ on_words ops.Mul ∷ on_words ops.And ∷ on_words ops.Or ∷ on_words ops.Xor ∷
    on_words ops.Shl ∷ on_words ops.Shr ∷ on_words ops.Lt ∷
    (λ x y. value_as_word (v_bool (nat_eq x y))) ∷ (λ x y. value_as_word (v_bool (nat_eq x 0))) ∷ []

abbrev pub op_result : Option (ℕ → ℕ → ℕ) → ℕ → ℕ → ℕ
op_result None x y = 0
op_result (Some operation) x y = operation x y

abbrev pub operation_result : ℕ → ℕ → ℕ → ℕ
operation_result o x y = op_result (slice_get operations o) x y

-- a new frame of the function with number g: its parameters, and 0 in its other locals
abbrev pub entered_frame : ℕ → Function → List ℕ → Frame
entered_frame g f params = record { function = g; next = 0; locals = params ++ replicate (f.locals - f.params) 0 }

-- the top frame of a stack, and the stack with another in its place
abbrev pub top : Stack → Frame
top (bottom frame) = frame
top (above frame d below) = frame

abbrev pub with_top : Stack → Frame → Stack
with_top (bottom old) frame = bottom frame
with_top (above old d below) frame = above frame d below

-- the frame goes on at a place of its body with these locals
abbrev pub goes_on : Stack → ℕ → List ℕ → Stack
goes_on stack next locals = with_top stack (record (top stack) { next = next; locals = locals })

-- the machine that takes the first of the choices, if it may be chosen
abbrev pub with_choice : Heap → List ℕ → (ℕ → List ℕ → Machine) → Machine
with_choice h [] then_go = asking
with_choice h (l ∷ choices) then_go = if is_fresh h l then then_go l choices else asking

-- the machine that has a block of length n at a location
abbrev pub at_block : Kind → ℕ → Option Block → ℕ → (Block → Machine) → Machine
at_block kind l None n then_go = faulted kind l
at_block kind l (Some block) n then_go = if nat_eq (length block) n then then_go block else faulted kind l

-- a return of these words
abbrev pub returned : Heap → Stack → List ℕ → List ℕ → Machine
returned h (bottom frame) words choices = halted words h
returned h (above frame d below) words choices =
    going h (goes_on below (top below).next (with_words (top below).locals d words)) choices

-- a call and a tail call of the function with number g, where there is one
abbrev pub called : Option Function → Heap → Stack → ℕ → List ℕ → ℕ → ℕ → Machine
called None h stack g choices a d = asking
called (Some f) h stack g choices a d =
    going h (above (entered_frame g f (words_at (top stack).locals a f.params)) d
    (goes_on stack ((top stack).next + 1) (top stack).locals)) choices

abbrev pub replaced : Option Function → Heap → Stack → ℕ → List ℕ → ℕ → Machine
replaced None h stack g choices a = asking
replaced (Some f) h stack g choices a =
    going h (with_top stack (entered_frame g f (words_at (top stack).locals a f.params))) choices

-- what an instruction of the function f does, by the table of instructions
abbrev pub effect : Code → Function → Instr → Heap → Stack → List ℕ → Machine
effect code f i h stack choices = row i
  where
    locals : List ℕ
    locals = (top stack).locals

    next : ℕ
    next = (top stack).next + 1

    becomes : ℕ → List ℕ → Machine
    becomes d words = going h (goes_on stack next (with_words locals d words)) choices

    goes_on_with : Heap → Machine
    goes_on_with heap = going heap (goes_on stack next locals) choices

    jumps : ℕ → Machine
    jumps target = going h (goes_on stack target locals) choices

    row : Instr → Machine
    row (Const d v) = becomes d (v ∷ [])
    row (Mov d s n) = becomes d (words_at locals s n)
    row (Op d o a b) = becomes d (operation_result o (local_at locals a) (local_at locals b) ∷ [])
    row (Sel d c a b n) = becomes d (if nat_eq (local_at locals c) 0 then words_at locals b n else words_at locals a n)
    row (Alloc d s n) =
        with_choice h choices (λ l left.
        going (with_block h l (words_at locals s n)) (goes_on stack next (with_words locals d (l ∷ []))) left)
    row (Get d p n) = at_block kind.Get (local_at locals p) (h (local_at locals p)) n (λ block. becomes d block)
    row (Set p s n) =
        at_block kind.Set (local_at locals p) (h (local_at locals p)) n
        (λ block. goes_on_with (with_block h (local_at locals p) (words_at locals s n)))
    row (Free p n) =
        at_block kind.Free (local_at locals p) (h (local_at locals p)) n
        (λ block. goes_on_with (without_block h (local_at locals p)))
    row (Jump target) = jumps target
    row (Jz c target) = if nat_eq (local_at locals c) 0 then jumps target else goes_on_with h
    row (Call g a d) = called (slice_get code.functions g) h stack g choices a d
    row (Ret s) = returned h stack (words_at locals s f.result) choices
    row (Tail g a) = replaced (slice_get code.functions g) h stack g choices a

-- the next instruction; where there is none, the machine asks
abbrev pub fetched : Code → Function → Option Instr → Heap → Stack → List ℕ → Machine
fetched code f None h stack choices = asking
fetched code f (Some i) h stack choices = effect code f i h stack choices

abbrev pub stepped : Code → Option Function → Heap → Stack → List ℕ → Machine
stepped code None h stack choices = asking
stepped code (Some f) h stack choices = fetched code f (slice_get f.body (top stack).next) h stack choices

-- one step; a machine that is over stays as it is
unfoldable pub step : Code → Machine → Machine
step code (going h stack choices) = stepped code (slice_get code.functions (top stack).function) h stack choices
step code over = over

-- a machine that enters the first function, with locals 0
abbrev pub started : Option Function → Heap → List ℕ → Machine
started None h choices = asking
started (Some main) h choices =
    going h (bottom (record { function = 0; next = 0; locals = replicate main.locals 0 })) choices

unfoldable pub after_steps : Code → Machine → ℕ → Machine
after_steps code machine zero = machine
after_steps code machine (suc n) = step code (after_steps code machine n)

-- the machine after n steps from a heap, with these choices
abbrev pub machine_after : Code → Heap → List ℕ → ℕ → Machine
machine_after code h choices n = after_steps code (started (slice_get code.functions 0) h choices) n
