-- From what an instruction does to the heap and the frames, to a step of the machine.
use Rattle.std.proofs.Common.{ℕ, ◌≡◌, ◌<◌, List, [], ◌∷◌, length, get_or, Option, Some, None, slice_get, refl, sym, ap, ◌∙◌, subst, arith}
use Rattle.std.proofs.lemmas.Option.{slice_get_within, slice_get_read}
use Rattle.theory_values.specs.Heaps.{Heap}
use Rattle.word_loader_code.specs.declared.code.Code.{Code}
use Rattle.word_loader_code.specs.declared.code.Function.{Function}
use Rattle.word_loader_code.specs.declared.code.Instr.{Instr}
use Rattle.word_loader_code.specs.Valid.{IsValid, IsEntered}
use Rattle.word_loader_code.specs.Machine.{Machine as State, Stack, going, halted, faulted, asking, top, effect, step}
use Rattle.theory_machine.specs.Fits.{function_of, instr_at, FrameFits, StackFits, FitsCode}
use Rattle.theory_machine.proofs.Standing.{Standing, found, top_fits}
use Rattle.theory_machine.proofs.Fitting.{step-at, step_fits}
use Rattle.theory_machine.proofs.Asking.{next_instr-is}
use Rattle.word_machine.specs.declared.machine.Over.{Over}
use Rattle.word_machine.specs.declared.machine.Over.TheVariants as overs
use Rattle.word_machine.specs.declared.stepped.Stepped.{Stepped}
use Rattle.word_machine.specs.declared.stepped.Stepped.TheVariants.{Going, Halted, Fault, Asks}
use Rattle.word_machine.specs.States.{state, over_after, over_answer}
use Rattle.word_machine.specs.Steps.{with_choices, choices_left, next_of, StepsTo, Performs, IsGoing, IsHalted}
use Rattle.word_machine_frames.specs.Stacks.{locals_of}

-- an instruction that is done is a step
pub performed_steps : (code : Code) (h : Heap) (stack : Stack) (f : Function) (i : Instr) (fresh : ℕ) (rest : List ℕ) (s : Stepped)
    (h' : Heap) (stack' : Stack)
    → Standing code stack f i
    → Performs s h stack h' stack' (choices_left (Some i) fresh rest) (effect code f i h stack (fresh ∷ rest))
    → StepsTo code (going h stack []) fresh rest s (state (over_after s) h' stack')
performed_steps code h stack f i fresh rest Going h' stack' st p = (
  tt,
  step-at code h stack (fresh ∷ rest) f i st.function st.instr_is
      ∙ (p ∙ ap (λ (o : Option Instr). going h' stack' (choices_left o fresh rest)) (sym (next_instr-is code stack f i st))),
)
performed_steps code h stack f i fresh rest Halted h' stack' st p = (tt, step-at code h stack (fresh ∷ rest) f i st.function st.instr_is ∙ p)
performed_steps code h stack f i fresh rest (Fault kind l) h' stack' st p = (refl, step-at code h stack (fresh ∷ rest) f i st.function st.instr_is ∙ p)
performed_steps code h stack f i fresh rest Asks h' stack' st p =
    (ap (λ (k : Heap). going k stack' []) p.1 ∙ ap (λ (k : Stack). going h k []) p.2, step-at code h stack (fresh ∷ rest) f i st.function st.instr_is ∙ p.0)

-- a machine that is over answers the same again
pub over_steps : (code : Code) (o : Option Over) (over : Over) (h : Heap) (stack : Stack) (fresh : ℕ) (rest : List ℕ)
    → o ≡ Some over
    → StepsTo code (state o h stack) fresh rest (over_answer over) (state o h stack)
unfolding step
over_steps code o overs.Halted h stack fresh rest e = rw e (tt, refl)
over_steps code o (overs.Fault kind l) h stack fresh rest e = rw e (refl, refl)

-- choices don't matter to whether the frames fit
with_choices_fits : (code : Code) (m : State) (choices : List ℕ) → FitsCode code m → FitsCode code (with_choices m choices)
with_choices_fits code (going h stack old) choices fits = fits
with_choices_fits code (halted words h) choices fits = tt
with_choices_fits code (faulted kind l) choices fits = tt
with_choices_fits code asking choices fits = tt

fits_with_choices : (code : Code) (m : State) (choices : List ℕ) → FitsCode code (with_choices m choices) → FitsCode code m
fits_with_choices code (going h stack old) choices fits = fits
fits_with_choices code (halted words h) choices fits = tt
fits_with_choices code (faulted kind l) choices fits = tt
fits_with_choices code asking choices fits = tt

pub steps_fit : (code : Code) (before : State) (fresh : ℕ) (rest : List ℕ) (s : Stepped) (after : State)
    → IsValid code
    → FitsCode code before
    → StepsTo code before fresh rest s after
    → FitsCode code after
steps_fit code before fresh rest s after valid fits p = by_answer s p
  where
    next : State
    next = step code (with_choices before (fresh ∷ rest))

    next_fits : FitsCode code next
    next_fits = step_fits code (with_choices before (fresh ∷ rest)) valid (with_choices_fits code before (fresh ∷ rest) fits)

    by_answer : (s : Stepped) → StepsTo code before fresh rest s after → FitsCode code after
    by_answer Going p = fits_with_choices code after _ (subst (FitsCode code) p.1 next_fits)
    by_answer Halted p = subst (FitsCode code) p.1 next_fits
    by_answer (Fault kind l) p = subst (FitsCode code) p.1 next_fits
    by_answer Asks p = subst (FitsCode code) (sym p.0) fits

-- what a machine stands for is given by its parts
pub same_state : (o : Option Over) (h k : Heap) (stack other : Stack) → k ≡ h → other ≡ stack → state o k other ≡ state o h stack
same_state o h k stack other e p = ap (λ (x : Heap). state o x other) e ∙ ap (λ (x : Stack). state o h x) p

-- the frames of a machine that goes on fit
pub going_fits : (code : Code) (o : Option Over) (h : Heap) (stack : Stack) → o ≡ None → FitsCode code (state o h stack) → StackFits code stack
going_fits code o h stack e fits = subst (λ (x : Option Over). FitsCode code (state x h stack)) e fits

-- and their function and instruction are there
pub function_within : (code : Code) (stack : Stack) → StackFits code stack → (top stack).function < length code.functions
function_within code stack fits =
    let there = found (function_of code (top stack)) (top stack) (top_fits code stack fits) in
    slice_get_within code.functions (top stack).function there.0 there.1

pub function_read : (code : Code) (stack : Stack) (f : Function)
    → StackFits code stack
    → f ≡ get_or code.functions (top stack).function f
    → function_of code (top stack) ≡ Some f
function_read code stack f fits read = slice_get_read code.functions (length code.functions) (top stack).function f refl (function_within code stack fits) read

pub next_read : (code : Code) (stack : Stack) (f : Function) → StackFits code stack → function_of code (top stack) ≡ Some f → (top stack).next < length f.body
next_read code stack f fits e =
    let s : FrameFits (Some f) (top stack) = subst (λ (o : Option Function). FrameFits o (top stack)) e (top_fits code stack fits) in
    s.next

-- what the machine came to, whatever ended it before
pub same_machine : (o p : Option Over) (h k : Heap) (stack other : Stack) → p ≡ o → k ≡ h → other ≡ stack → state p k other ≡ state o h stack
same_machine o p h k stack other d e q = ap (λ (x : Option Over). state x k other) d ∙ same_state o h k stack other e q

-- the function that a machine enters
pub main_read : (code : Code) (main : Function) → IsValid code → main ≡ get_or code.functions 0 main → slice_get code.functions 0 ≡ Some main
main_read code main valid read = slice_get_read code.functions (length code.functions) 0 main refl (some code.functions valid.entered) read
  where
    some : (functions : List Function) → IsEntered functions → 0 < length functions
    some [] e = absurd e
    some (f ∷ rest) e = omega arith

-- an instruction that is done is a step of the machine
pub performed_machine : (code : Code) (o o' : Option Over) (h : Heap) (stack : Stack) (f : Function) (i : Instr) (fresh : ℕ) (rest : List ℕ)
    (s : Stepped) (h' : Heap) (stack' : Stack)
    → o ≡ None
    → o' ≡ over_after s
    → Standing code stack f i
    → Performs s h stack h' stack' (choices_left (Some i) fresh rest) (effect code f i h stack (fresh ∷ rest))
    → StepsTo code (state o h stack) fresh rest s (state o' h' stack')
performed_machine code o o' h stack f i fresh rest s h' stack' e e' st p = rw (e, e') (performed_steps code h stack f i fresh rest s h' stack' st p)

-- what is known of a machine that goes on, and of one that has halted
pub going_is : (o : Option Over) (h : Heap) (stack : Stack) → IsGoing (state o h stack) → o ≡ None
going_is None h stack g = refl
going_is (Some overs.Halted) h stack g = absurd g
going_is (Some (overs.Fault kind l)) h stack g = absurd g

pub is_going : (o : Option Over) (h : Heap) (stack : Stack) → o ≡ None → IsGoing (state o h stack)
is_going o h stack e = rw e tt

pub halt_is : (o : Option Over) (h : Heap) (stack : Stack) → IsHalted (state o h stack) → state o h stack ≡ halted (locals_of stack) h
halt_is None h stack g = absurd g
halt_is (Some overs.Halted) h stack g = refl
halt_is (Some (overs.Fault kind l)) h stack g = absurd g

-- the next instruction of one that goes on
pub next_of-read : (code : Code) (o : Option Over) (h : Heap) (stack : Stack) (f : Function) (i : Instr)
    → o ≡ None
    → function_of code (top stack) ≡ Some f
    → slice_get f.body (top stack).next ≡ Some i
    → next_of code (state o h stack) ≡ Some i
next_of-read code o h stack f i e there is = rw e (ap (λ (x : Option Function). instr_at x (top stack).next) there ∙ is)

pub going_state : (o : Option Over) (h : Heap) (stack : Stack) → IsGoing (state o h stack) → state o h stack ≡ going h stack []
going_state None h stack g = refl
going_state (Some overs.Halted) h stack g = absurd g
going_state (Some (overs.Fault kind l)) h stack g = absurd g
