-- What one step keeps: a machine that is over, and the choices that it doesn't use.
use Rattle.std.proofs.Common.{ℕ, zero, suc, ◌≡◌, ◌+◌, List, [], ◌∷◌, ◌++◌, Option, Some, None, Bool, true, false, refl, sym, ap, ◌∙◌, add-zero, add-suc, nat_eq}
use Rattle.std.proofs.Common.{if◌then◌else◌, slice_get, length}
use Rattle.htt_syntax_words.specs.declared.words.Kind.{Kind}
use Rattle.theory_values.specs.Heaps.{Heap, Block}
use Rattle.word_loader_code.specs.declared.code.Code.{Code}
use Rattle.word_loader_code.specs.declared.code.Function.{Function}
use Rattle.word_loader_code.specs.declared.code.Instr.{Instr}
use Rattle.word_loader_code.specs.declared.code.Instr.TheVariants.{Const, Mov, Op, Sel, Alloc, Get, Set, Free, Jump, Jz, Call, Ret, Tail}
use Rattle.word_loader_code.specs.Machine.{Machine, Stack, bottom, above, going, halted, faulted, asking, step, after_steps, machine_after, started, stepped}
use Rattle.word_loader_code.specs.Machine.{fetched, effect, called, replaced, returned, at_block, with_choice, is_fresh, top, words_at}
use Rattle.word_loader_code.specs.Laws.{IsOver, OverIsFinal, machine_with_more, Asks, MachineHandsOnChoices}

over_step : (code : Code) (m : Machine) → IsOver m → step code m ≡ m
unfolding step
over_step code (going h stack choices) o = absurd o
over_step code (halted words h) o = refl
over_step code (faulted kind l) o = refl
over_step code asking o = refl

over_stays : (code : Code) (m : Machine) (n more : ℕ) → IsOver (after_steps code m n) → after_steps code m (n + more) ≡ after_steps code m n
unfolding after_steps
over_stays code m n zero o = rw add-zero refl
over_stays code m n (suc more) o = rw (add-suc, over_stays code m n more o) (over_step code (after_steps code m n) o)

pub over_is_final_lem : OverIsFinal
over_is_final_lem code h choices n more o = over_stays code (started (slice_get code.functions 0) h choices) n more o

-- the parts of a step that look at a test, a block or a choice
if_more : (b : Bool) (x y u v : Machine) (more : List ℕ)
    → u ≡ machine_with_more x more
    → v ≡ machine_with_more y more
    → (if b then u else v) ≡ machine_with_more (if b then x else y) more
if_more true x y u v more p q = p
if_more false x y u v more p q = q

block_more : (kind : Kind) (l : ℕ) (o : Option Block) (n : ℕ) (f g : Block → Machine) (more : List ℕ)
    → ((b : Block) → g b ≡ machine_with_more (f b) more)
    → at_block kind l o n g ≡ machine_with_more (at_block kind l o n f) more
block_more kind l None n f g more p = refl
block_more kind l (Some b) n f g more p = if_more (nat_eq (length b) n) (f b) (faulted kind l) (g b) (faulted kind l) more (p b) refl

taken_more : (b : Bool) (x y : Machine) (more : List ℕ)
    → y ≡ machine_with_more x more
    → (Asks (if b then x else asking) → ⊥)
    → (if b then y else asking) ≡ machine_with_more (if b then x else asking) more
taken_more true x y more p a = p
taken_more false x y more p a = absurd (a tt)

choice_more : (h : Heap) (choices more : List ℕ) (f : ℕ → List ℕ → Machine)
    → ((l : ℕ) (left : List ℕ) → f l (left ++ more) ≡ machine_with_more (f l left) more)
    → (Asks (with_choice h choices f) → ⊥)
    → with_choice h (choices ++ more) f ≡ machine_with_more (with_choice h choices f) more
choice_more h [] more f p a = absurd (a tt)
choice_more h (l ∷ choices) more f p a = taken_more (is_fresh h l) (f l choices) (f l (choices ++ more)) more (p l choices) a

called_more : (o : Option Function) (h : Heap) (stack : Stack) (g : ℕ) (choices more : List ℕ) (a d : ℕ)
    → called o h stack g (choices ++ more) a d ≡ machine_with_more (called o h stack g choices a d) more
called_more None h stack g choices more a d = refl
called_more (Some f) h stack g choices more a d = refl

replaced_more : (o : Option Function) (h : Heap) (stack : Stack) (g : ℕ) (choices more : List ℕ) (a : ℕ)
    → replaced o h stack g (choices ++ more) a ≡ machine_with_more (replaced o h stack g choices a) more
replaced_more None h stack g choices more a = refl
replaced_more (Some f) h stack g choices more a = refl

returned_more : (h : Heap) (stack : Stack) (words choices more : List ℕ)
    → returned h stack words (choices ++ more) ≡ machine_with_more (returned h stack words choices) more
returned_more h (bottom frame) words choices more = refl
returned_more h (above frame d below) words choices more = refl

effect_more : (code : Code) (f : Function) (i : Instr) (h : Heap) (stack : Stack) (choices more : List ℕ)
    → (Asks (effect code f i h stack choices) → ⊥)
    → effect code f i h stack (choices ++ more) ≡ machine_with_more (effect code f i h stack choices) more
effect_more code f (Const d v) h stack choices more a = refl
effect_more code f (Mov d s n) h stack choices more a = refl
effect_more code f (Op d o x y) h stack choices more a = refl
effect_more code f (Sel d c x y n) h stack choices more a = refl
effect_more code f (Alloc d s n) h stack choices more a = choice_more h choices more _ (λ l left. refl) a
effect_more code f (Get d p n) h stack choices more a = block_more _ _ (h _) n _ _ more (λ b. refl)
effect_more code f (Set p s n) h stack choices more a = block_more _ _ (h _) n _ _ more (λ b. refl)
effect_more code f (Free p n) h stack choices more a = block_more _ _ (h _) n _ _ more (λ b. refl)
effect_more code f (Jump target) h stack choices more a = refl
effect_more code f (Jz c target) h stack choices more a = if_more _ _ _ _ _ more refl refl
effect_more code f (Call g x d) h stack choices more a = called_more (slice_get code.functions g) h stack g choices more x d
effect_more code f (Ret s) h stack choices more a = returned_more h stack (words_at (top stack).locals s f.result) choices more
effect_more code f (Tail g x) h stack choices more a = replaced_more (slice_get code.functions g) h stack g choices more x

fetched_more : (code : Code) (f : Function) (o : Option Instr) (h : Heap) (stack : Stack) (choices more : List ℕ)
    → (Asks (fetched code f o h stack choices) → ⊥)
    → fetched code f o h stack (choices ++ more) ≡ machine_with_more (fetched code f o h stack choices) more
fetched_more code f None h stack choices more a = refl
fetched_more code f (Some i) h stack choices more a = effect_more code f i h stack choices more a

stepped_more : (code : Code) (o : Option Function) (h : Heap) (stack : Stack) (choices more : List ℕ)
    → (Asks (stepped code o h stack choices) → ⊥)
    → stepped code o h stack (choices ++ more) ≡ machine_with_more (stepped code o h stack choices) more
stepped_more code None h stack choices more a = refl
stepped_more code (Some f) h stack choices more a = fetched_more code f (slice_get f.body (top stack).next) h stack choices more a

step_more : (code : Code) (m : Machine) (more : List ℕ) → (Asks (step code m) → ⊥) → step code (machine_with_more m more) ≡ machine_with_more (step code m) more
unfolding step
step_more code (going h stack choices) more a = stepped_more code (slice_get code.functions (top stack).function) h stack choices more a
step_more code (halted words h) more a = refl
step_more code (faulted kind l) more a = refl
step_more code asking more a = refl

-- a machine that doesn't ask after a step didn't ask before it
asked_before : (code : Code) (m : Machine) → Asks m → Asks (step code m)
unfolding step
asked_before code asking a = tt
asked_before code (going h stack choices) a = absurd a
asked_before code (halted words h) a = absurd a
asked_before code (faulted kind l) a = absurd a

after_more : (code : Code) (m : Machine) (more : List ℕ) (n : ℕ)
    → (Asks (after_steps code m n) → ⊥)
    → after_steps code (machine_with_more m more) n ≡ machine_with_more (after_steps code m n) more
unfolding after_steps
after_more code m more zero a = refl
after_more code m more (suc n) a =
    let before = after_more code m more n (λ asks. a (asked_before code (after_steps code m n) asks)) in
    ap (step code) before ∙ step_more code (after_steps code m n) more a

started_more : (o : Option Function) (h : Heap) (choices more : List ℕ) → started o h (choices ++ more) ≡ machine_with_more (started o h choices) more
started_more None h choices more = refl
started_more (Some main) h choices more = refl

pub choices_are_handed_on_lem : MachineHandsOnChoices
choices_are_handed_on_lem code h choices more n a =
    ap (λ m. after_steps code m n) (started_more (slice_get code.functions 0) h choices more)
    ∙ after_more code (started (slice_get code.functions 0) h choices) more n a
