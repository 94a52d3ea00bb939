-- A step of valid code keeps the frames fitting.
use Rattle.std.proofs.Common.{ℕ, zero, suc, ◌≡◌, ◌+◌, ◌<◌, ◌≤◌, List, [], ◌∷◌, length, Bool, true, false, nat_eq, if◌then◌else◌, Option, Some, None, slice_get}
use Rattle.std.proofs.Common.{refl, sym, ap, ◌∙◌, subst, arith}
use Rattle.std.proofs.lemmas.List.{length-replicate}
use Rattle.htt_syntax_words.specs.declared.words.Kind.{Kind}
use Rattle.htt_syntax_words.specs.declared.words.Kind.TheVariants as kind
use Rattle.theory_values.specs.Heaps.{Heap, Block}
use Rattle.word_loader_code.specs.declared.code.Code.{Code}
use Rattle.word_loader_code.specs.declared.code.Function.{Function}
use Rattle.word_loader_code.specs.declared.code.Instr.{Instr}
use Rattle.word_loader_code.specs.declared.code.Instr.TheVariants.{Const, Mov, Op, Sel, Alloc, Get, Set, Free, Jump, Jz, Call, Ret, Tail}
use Rattle.word_loader_code.specs.Valid.{IsValid, IsValidFunction, Takes, ResultFitsAt, ReturnsAs, NeverFallsThrough}
use Rattle.word_loader_code.specs.Machine.{Frame, Stack, bottom, above, top, with_top, goes_on, Machine, going, halted, faulted, asking, words_at, local_at}
use Rattle.word_loader_code.specs.Machine.{with_words, entered_frame, with_choice, is_fresh, at_block, returned, called, replaced, effect, fetched, stepped}
use Rattle.word_loader_code.specs.Machine.{step, started, after_steps, machine_after, operation_result}
use Rattle.theory_machine.specs.Fits.{function_of, FrameFits, ResultHasPlace, StackFits, FitsCode}
use Rattle.theory_machine.specs.Laws.{FramesKeepFitting}
use Rattle.theory_machine.proofs.Words.{length-with_words, length-words_at, length-if, length-entered}
use Rattle.theory_machine.proofs.Standing.{All-slice_get, found, top_fits, Standing, stands, next_within, some_instr}

-- the frame goes on in its function, with all its locals
pub goes_on_fits : (code : Code) (stack : Stack) (f : Function) (next : ℕ) (locals : List ℕ)
    → function_of code (top stack) ≡ Some f
    → StackFits code stack
    → next < length f.body
    → length locals ≡ f.locals
    → StackFits code (goes_on stack next locals)
goes_on_fits code (bottom frame) f next locals e fits within long = rw e (record { next = within; locals = long })
goes_on_fits code (above frame d below) f next locals e fits within long = (rw e (record { next = within; locals = long }), fits.1, fits.2)

-- a new frame of a valid function fits it
entered_fits : (code : Code) (g : ℕ) (f : Function) (params : List ℕ)
    → slice_get code.functions g ≡ Some f
    → IsValidFunction code f
    → length params ≡ f.params
    → FrameFits (function_of code (entered_frame g f params)) (entered_frame g f params)
entered_fits code g f params e valid long =
    rw e (record { next = some_instr f.body valid.last; locals = length-entered g f params long valid.params })

top-goes_on : (stack : Stack) (next : ℕ) (locals : List ℕ) → (top (goes_on stack next locals)).locals ≡ locals
top-goes_on (bottom frame) next locals = refl
top-goes_on (above frame d below) next locals = refl

called_fits : (code : Code) (o : Option Function) (h : Heap) (stack : Stack) (f : Function) (g : ℕ) (choices : List ℕ) (a d : ℕ)
    → IsValid code
    → slice_get code.functions g ≡ o
    → function_of code (top stack) ≡ Some f
    → StackFits code stack
    → length (top stack).locals ≡ f.locals
    → (top stack).next + 1 < length f.body
    → Takes f o a
    → ResultFitsAt f o d
    → FitsCode code (called o h stack g choices a d)
called_fits code None h stack f g choices a d valid there e fits long within takes returns = absurd takes
called_fits code (Some k) h stack f g choices a d valid there e fits long within takes returns =
    let params = length-words_at (top stack).locals a k.params (omega (arith, long)) in
    let vk = All-slice_get (IsValidFunction code) code.functions g k valid.functions there in (
      entered_fits code g k (words_at (top stack).locals a k.params) there vk params,
      rw (there, top-goes_on stack ((top stack).next + 1) (top stack).locals, long) returns,
      goes_on_fits code stack f ((top stack).next + 1) (top stack).locals e fits within long,
    )

-- another frame in the place of the top one
with_top_fits : (code : Code) (stack : Stack) (frame : Frame) (f k : Function)
    → function_of code (top stack) ≡ Some f
    → function_of code frame ≡ Some k
    → k.result ≡ f.result
    → StackFits code stack
    → FrameFits (function_of code frame) frame
    → StackFits code (with_top stack frame)
with_top_fits code (bottom old) frame f k e there same fits fit = fit
with_top_fits code (above old d below) frame f k e there same fits fit =
    let was : ResultHasPlace (Some f) d (top below) = subst (λ (o : Option Function). ResultHasPlace o d (top below)) e fits.1 in
    (fit, rw (there, same) was, fits.2)

replaced_fits : (code : Code) (o : Option Function) (h : Heap) (stack : Stack) (f : Function) (g : ℕ) (choices : List ℕ) (a : ℕ)
    → IsValid code
    → slice_get code.functions g ≡ o
    → function_of code (top stack) ≡ Some f
    → StackFits code stack
    → length (top stack).locals ≡ f.locals
    → Takes f o a
    → ReturnsAs f o
    → FitsCode code (replaced o h stack g choices a)
replaced_fits code None h stack f g choices a valid there e fits long takes returns = absurd takes
replaced_fits code (Some k) h stack f g choices a valid there e fits long takes returns =
    let params = length-words_at (top stack).locals a k.params (omega (arith, long)) in
    let vk = All-slice_get (IsValidFunction code) code.functions g k valid.functions there in
    with_top_fits code stack (entered_frame g k (words_at (top stack).locals a k.params)) f k e there returns fits
    (entered_fits code g k (words_at (top stack).locals a k.params) there vk params)

returned_fits : (code : Code) (h : Heap) (stack : Stack) (f : Function) (words choices : List ℕ)
    → function_of code (top stack) ≡ Some f
    → StackFits code stack
    → length words ≡ f.result
    → FitsCode code (returned h stack words choices)
returned_fits code h (bottom frame) f words choices e fits long = tt
returned_fits code h (above frame d below) f words choices e fits long =
    let place : ResultHasPlace (Some f) d (top below) = subst (λ (o : Option Function). ResultHasPlace o d (top below)) e fits.1 in
    let there = found (function_of code (top below)) (top below) (top_fits code below fits.2) in
    let kept = length-with_words (top below).locals d words (omega (arith, long)) in
    goes_on_fits code below there.0 (top below).next (with_words (top below).locals d words) there.1 fits.2 there.2.next (kept ∙ there.2.locals)

-- a test, a choice and a block
if_fits : (code : Code) (b : Bool) (x y : Machine) → FitsCode code x → FitsCode code y → FitsCode code (if b then x else y)
if_fits code true x y p q = p
if_fits code false x y p q = q

choice_fits : (code : Code) (h : Heap) (choices : List ℕ) (f : ℕ → List ℕ → Machine)
    → ((l : ℕ) (left : List ℕ) → FitsCode code (f l left))
    → FitsCode code (with_choice h choices f)
choice_fits code h [] f p = tt
choice_fits code h (l ∷ choices) f p = if_fits code (is_fresh h l) (f l choices) asking (p l choices) tt

true_fits : (code : Code) (b : Bool) (x y : Machine) → (b ≡ true → FitsCode code x) → FitsCode code y → FitsCode code (if b then x else y)
true_fits code true x y p q = p refl
true_fits code false x y p q = q

block_fits : (code : Code) (kind : Kind) (l : ℕ) (o : Option Block) (n : ℕ) (f : Block → Machine)
    → ((b : Block) → length b ≡ n → FitsCode code (f b))
    → FitsCode code (at_block kind l o n f)
block_fits code kind l None n f p = tt
block_fits code kind l (Some b) n f p = true_fits code (nat_eq (length b) n) (f b) (faulted kind l) (λ e. p b (search (e, arith))) tt

-- words written among the locals, and the same locals
becomes_fits : (code : Code) (stack : Stack) (f : Function) (i : Instr) (d : ℕ) (words : List ℕ)
    → StackFits code stack
    → Standing code stack f i
    → (NeverFallsThrough i → ⊥)
    → d + length words ≤ f.locals
    → StackFits code (goes_on stack ((top stack).next + 1) (with_words (top stack).locals d words))
becomes_fits code stack f i d words fits s stays within =
    goes_on_fits code stack f ((top stack).next + 1) (with_words (top stack).locals d words) s.function fits (next_within code stack f i s stays)
    (length-with_words (top stack).locals d words (omega (arith, s.locals)) ∙ s.locals)

stays_fits : (code : Code) (stack : Stack) (f : Function) (i : Instr)
    → StackFits code stack
    → Standing code stack f i
    → (NeverFallsThrough i → ⊥)
    → StackFits code (goes_on stack ((top stack).next + 1) (top stack).locals)
stays_fits code stack f i fits s stays =
    goes_on_fits code stack f ((top stack).next + 1) (top stack).locals s.function fits (next_within code stack f i s stays) s.locals

read_long : (code : Code) (stack : Stack) (f : Function) (i : Instr) (place n : ℕ)
    → Standing code stack f i
    → place + n ≤ f.locals
    → length (words_at (top stack).locals place n) ≡ n
read_long code stack f i place n s within = length-words_at (top stack).locals place n (omega (arith, s.locals))

-- the instruction keeps them fitting
pub effect_fits : (code : Code) (h : Heap) (stack : Stack) (choices : List ℕ) (f : Function) (i : Instr)
    → IsValid code
    → StackFits code stack
    → Standing code stack f i
    → FitsCode code (effect code f i h stack choices)
effect_fits code h stack choices f (Const d v) valid fits s = becomes_fits code stack f (Const d v) d (v ∷ []) fits s (λ x. x) s.valid
effect_fits code h stack choices f (Mov d a n) valid fits s =
    let long = read_long code stack f (Mov d a n) a n s s.valid.1 in
    becomes_fits code stack f (Mov d a n) d (words_at (top stack).locals a n) fits s (λ x. x) (rw long s.valid.0)
effect_fits code h stack choices f (Op d o a b) valid fits s =
    becomes_fits code stack f (Op d o a b) d (operation_result o (local_at (top stack).locals a) (local_at (top stack).locals b) ∷ []) fits s (λ x. x) s.valid.0
effect_fits code h stack choices f (Sel d c a b n) valid fits s =
    let yes = read_long code stack f (Sel d c a b n) a n s s.valid.2 in
    let no = read_long code stack f (Sel d c a b n) b n s s.valid.3 in
    let test : Bool = nat_eq (local_at (top stack).locals c) 0 in
    let long = length-if test (words_at (top stack).locals b n) (words_at (top stack).locals a n) n no yes in
    becomes_fits code stack f (Sel d c a b n) d (if test then words_at (top stack).locals b n else words_at (top stack).locals a n) fits s
    (λ x. x) (rw long s.valid.0)
effect_fits code h stack choices f (Alloc d a n) valid fits s =
    choice_fits code h choices _ (λ l left. becomes_fits code stack f (Alloc d a n) d (l ∷ []) fits s (λ x. x) s.valid.0)
effect_fits code h stack choices f (Get d p n) valid fits s =
    block_fits code kind.Get (local_at (top stack).locals p) (h (local_at (top stack).locals p)) n _
    (λ b long. becomes_fits code stack f (Get d p n) d b fits s (λ x. x) (rw long s.valid.0))
effect_fits code h stack choices f (Set p a n) valid fits s =
    block_fits code kind.Set (local_at (top stack).locals p) (h (local_at (top stack).locals p)) n _
    (λ b long. stays_fits code stack f (Set p a n) fits s (λ x. x))
effect_fits code h stack choices f (Free p n) valid fits s =
    block_fits code kind.Free (local_at (top stack).locals p) (h (local_at (top stack).locals p)) n _
    (λ b long. stays_fits code stack f (Free p n) fits s (λ x. x))
effect_fits code h stack choices f (Jump target) valid fits s = goes_on_fits code stack f target (top stack).locals s.function fits s.valid s.locals
effect_fits code h stack choices f (Jz c target) valid fits s =
    if_fits code (nat_eq (local_at (top stack).locals c) 0) _ _
    (goes_on_fits code stack f target (top stack).locals s.function fits s.valid.1 s.locals)
    (stays_fits code stack f (Jz c target) fits s (λ x. x))
effect_fits code h stack choices f (Call g a d) valid fits s =
    called_fits code (slice_get code.functions g) h stack f g choices a d valid refl s.function fits s.locals
    (next_within code stack f (Call g a d) s (λ x. x)) s.valid.0 s.valid.1
effect_fits code h stack choices f (Ret a) valid fits s =
    returned_fits code h stack f (words_at (top stack).locals a f.result) choices s.function fits (read_long code stack f (Ret a) a f.result s s.valid)
effect_fits code h stack choices f (Tail g a) valid fits s =
    replaced_fits code (slice_get code.functions g) h stack f g choices a valid refl s.function fits s.locals s.valid.1 s.valid.2

-- what a step does where this instruction stands
pub step-at : (code : Code) (h : Heap) (stack : Stack) (choices : List ℕ) (f : Function) (i : Instr)
    → function_of code (top stack) ≡ Some f
    → slice_get f.body (top stack).next ≡ Some i
    → step code (going h stack choices) ≡ effect code f i h stack choices
unfolding step
step-at code h stack choices f i e there =
    ap (λ (o : Option Function). stepped code o h stack choices) e ∙ ap (λ (o : Option Instr). fetched code f o h stack choices) there

pub step_fits : (code : Code) (machine : Machine) → IsValid code → FitsCode code machine → FitsCode code (step code machine)
unfolding step
step_fits code (going h stack choices) valid fits =
    let here = stands code stack valid fits in
    let s = here.1.1 in
    subst (FitsCode code) (sym (step-at code h stack choices here.0 here.1.0 s.function s.instr_is))
    (effect_fits code h stack choices here.0 here.1.0 valid fits s)
step_fits code (halted words h) valid fits = tt
step_fits code (faulted kind l) valid fits = tt
step_fits code asking valid fits = tt

pub started_fits : (code : Code) (h : Heap) (choices : List ℕ) → IsValid code → FitsCode code (started (slice_get code.functions 0) h choices)
started_fits code h choices valid = from code.functions refl
  where
    from : (functions : List Function) → code.functions ≡ functions → FitsCode code (started (slice_get functions 0) h choices)
    from [] e = tt
    from (main ∷ rest) e =
        let there : slice_get code.functions 0 ≡ Some main = rw e refl in
        let valid_main = All-slice_get (IsValidFunction code) code.functions 0 main valid.functions there in
        rw there (record { next = some_instr main.body valid_main.last; locals = length-replicate main.locals 0 })

pub run_fits : (code : Code) (h : Heap) (choices : List ℕ) (n : ℕ) → IsValid code → FitsCode code (machine_after code h choices n)
unfolding after_steps
run_fits code h choices zero valid = started_fits code h choices valid
run_fits code h choices (suc n) valid = step_fits code (machine_after code h choices n) valid (run_fits code h choices n valid)

pub frames_keep_fitting_lem : FramesKeepFitting
frames_keep_fitting_lem = record { at_start = started_fits; after_step = step_fits; after_run = run_fits }
