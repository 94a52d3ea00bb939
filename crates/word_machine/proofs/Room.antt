-- The numbers that valid code keeps small.
use Rattle.std.proofs.Common.{ℕ, zero, suc, ◌≡◌, ◌+◌, ◌<◌, ◌≤◌, ◌^◌, List, [], ◌∷◌, length, Option, Some, None, slice_get, get_or, sum_by, refl, sym, ap, ◌∙◌}
use Rattle.std.proofs.Common.{subst, arith}
use Rattle.std.proofs.lemmas.List.Sums.{sum_by-cons}
use Rattle.std.proofs.lemmas.Option.{same_Some, slice_get_within, slice_get_read}
use Rattle.word_loader_code.specs.declared.code.Code.{Code}
use Rattle.word_loader_code.specs.declared.code.Function.{Function}
use Rattle.word_loader_code.specs.declared.code.Instr.{Instr}
use Rattle.word_loader_code.specs.declared.code.Instr.TheVariants.{Call, Tail}
use Rattle.word_loader_code.specs.Valid.{IsValid, IsValidFunction, Takes, NeverFallsThrough}
use Rattle.word_loader_code.specs.Machine.{Stack, bottom, above, top, with_top, goes_on, going, entered_frame, words_at, called, replaced, effect}
use Rattle.theory_values.specs.Heaps.{Heap}
use Rattle.word_machine_frames.specs.Stacks.{locals_of, ResultFits}
use Rattle.theory_machine.specs.Fits.{function_of, ResultHasPlace, StackFits}
use Rattle.theory_machine.proofs.Standing.{All-slice_get, Standing, next_within}

-- a body is at most as long as all together
body_within : (functions : List Function) (k : ℕ) (f : Function)
    → slice_get functions k ≡ Some f
    → length f.body ≤ sum_by (λ (g : Function). length g.body) functions
body_within [] k f e = absurd (none_some f e)
  where
    none_some : (f : Function) → None ≡ Some f → ⊥
    none_some f e = cc
body_within (g ∷ functions) zero f e =
    let same : length g.body ≡ length f.body = ap (λ (h : Function). length h.body) (same_Some g f e) in
    omega (arith, sum_by-cons (λ (h : Function). length h.body) g functions)
body_within (g ∷ functions) (suc k) f e =
    omega (arith, body_within functions k f e, sum_by-cons (λ (h : Function). length h.body) g functions)

-- the next place has a number of 32 bits
pub next_fits : (code : Code) (stack : Stack) (f : Function) (i : Instr)
    → IsValid code
    → Standing code stack f i
    → (NeverFallsThrough i → ⊥)
    → (top stack).next + 1 < 2 ^ 32
next_fits code stack f i valid s stays =
    let behind = next_within code stack f i s stays in
    omega (arith, valid.instrs, body_within code.functions (top stack).function f s.function)

-- the function that a call names, as it is read
named : (o : Option Function) (functions : List Function) (g : ℕ) (f : Function) (a : ℕ) → slice_get functions g ≡ o → Takes f o a → g < length functions
named None functions g f a e takes = absurd takes
named (Some k) functions g f a e takes = slice_get_within functions g k e

pub named_within : (code : Code) (f : Function) (g a : ℕ) → Takes f (slice_get code.functions g) a → g < length code.functions
named_within code f g a takes = named (slice_get code.functions g) code.functions g f a refl takes

-- what a call of it asks for
pub record Callee (code : Code) (f : Function) (g a : ℕ) (k : Function) : Type 0 where
  pub there : slice_get code.functions g ≡ Some k
  pub params : k.params ≤ k.locals
  pub read : a + k.params ≤ f.locals

pub callee_at : (code : Code) (f : Function) (g a : ℕ) (k : Function)
    → IsValid code
    → Takes f (slice_get code.functions g) a
    → k ≡ get_or code.functions g k
    → Callee code f g a k
callee_at code f g a k valid takes read =
    let there : slice_get code.functions g ≡ Some k = slice_get_read code.functions (length code.functions) g k refl (named_within code f g a takes) read in
    let vk : IsValidFunction code k = All-slice_get (IsValidFunction code) code.functions g k valid.functions there in
    record { there = there; params = vk.params; read = subst (λ (o : Option Function). Takes f o a) there takes }

-- the result of the top frame fits below
pub result_fits : (code : Code) (stack : Stack) (f : Function) → StackFits code stack → function_of code (top stack) ≡ Some f → ResultFits stack f.result
result_fits code (bottom frame) f fits e = tt
result_fits code (above frame d below) f fits e = subst (λ (o : Option Function). ResultHasPlace o d (top below)) e fits.1

-- what a call does, where the function is there
pub called-at : (code : Code) (f k : Function) (g a d : ℕ) (h : Heap) (stack stack' : Stack) (choices : List ℕ)
    → slice_get code.functions g ≡ Some k
    → stack' ≡ above (entered_frame g k (words_at (locals_of stack) a k.params)) d (goes_on stack ((top stack).next + 1) (locals_of stack))
    → effect code f (Call g a d) h stack choices ≡ going h stack' choices
called-at code f k g a d h stack stack' choices there is =
    ap (λ (o : Option Function). called o h stack g choices a d) there ∙ ap (λ (s : Stack). going h s choices) (sym is)

pub replaced-at : (code : Code) (f k : Function) (g a : ℕ) (h : Heap) (stack stack' : Stack) (choices : List ℕ) → slice_get code.functions g ≡ Some k →
    stack' ≡ with_top stack (entered_frame g k (words_at (locals_of stack) a k.params)) → effect code f (Tail g a) h stack choices ≡ going h stack' choices
replaced-at code f k g a h stack stack' choices there is =
    ap (λ (o : Option Function). replaced o h stack g choices a) there ∙ ap (λ (s : Stack). going h s choices) (sym is)
