-- Where a step of valid code asks.
use Rattle.std.proofs.Common.{ℕ, zero, suc, ◌≡◌, ◌+◌, List, [], ◌∷◌, length, Bool, true, false, nat_eq, if◌then◌else◌, Option, Some, None, slice_get, refl, sym}
use Rattle.std.proofs.Common.{ap, ◌∙◌, subst, arith, inl, inr}
use Rattle.std.specs.Prelude.{◌⊎◌}
use Rattle.htt_syntax_words.specs.declared.words.Kind.{Kind}
use Rattle.theory_values.specs.Heaps.{Heap, Block, InUse}
use Rattle.word_loader_code.specs.declared.code.Code.{Code}
use Rattle.word_loader_code.specs.declared.code.Function.{Function}
use Rattle.word_loader_code.specs.declared.code.Instr.{Instr}
use Rattle.word_loader_code.specs.declared.code.Instr.TheVariants.{Const, Mov, Op, Sel, Alloc, Get, Set, Free, Jump, Jz, Call, Ret, Tail}
use Rattle.word_loader_code.specs.Valid.{IsValid, Takes}
use Rattle.word_loader_code.specs.Machine.{Stack, bottom, above, top, Machine, going, faulted, asking, local_at, words_at, goes_on, with_choice, is_fresh}
use Rattle.word_loader_code.specs.Machine.{at_block, returned, called, replaced, effect, step}
use Rattle.word_loader_code.specs.Laws.{Asks}
use Rattle.theory_machine.specs.Fits.{instr_at, next_instr, StackFits}
use Rattle.theory_machine.specs.Laws.{CannotChoose, WantsChoice, AsksOnlyAtAlloc}
use Rattle.theory_machine.proofs.Standing.{Standing, stands}
use Rattle.theory_machine.proofs.Fitting.{step-at}

-- the tests that a step makes
if_asks : (b : Bool) (x y : Machine) → (Asks x → ⊥) → (Asks y → ⊥) → Asks (if b then x else y) → ⊥
if_asks true x y p q a = p a
if_asks false x y p q a = q a

block_asks : (kind : Kind) (l : ℕ) (o : Option Block) (n : ℕ) (f : Block → Machine) → ((b : Block) → Asks (f b) → ⊥) → Asks (at_block kind l o n f) → ⊥
block_asks kind l None n f p a = a
block_asks kind l (Some b) n f p a = if_asks (nat_eq (length b) n) (f b) (faulted kind l) (p b) (λ x. x) a

called_asks : (o : Option Function) (f : Function) (h : Heap) (stack : Stack) (g : ℕ) (choices : List ℕ) (a d : ℕ)
    → Takes f o a
    → Asks (called o h stack g choices a d)
    → ⊥
called_asks None f h stack g choices a d takes asks = takes
called_asks (Some k) f h stack g choices a d takes asks = asks

replaced_asks : (o : Option Function) (f : Function) (h : Heap) (stack : Stack) (g : ℕ) (choices : List ℕ) (a : ℕ)
    → Takes f o a
    → Asks (replaced o h stack g choices a)
    → ⊥
replaced_asks None f h stack g choices a takes asks = takes
replaced_asks (Some k) f h stack g choices a takes asks = asks

returned_asks : (h : Heap) (stack : Stack) (words choices : List ℕ) → Asks (returned h stack words choices) → ⊥
returned_asks h (bottom frame) words choices asks = asks
returned_asks h (above frame d below) words choices asks = asks

true≢false : true ≡ false → ⊥
true≢false e = cc

-- a location that isn't fresh is 0 or in use
in_use : (o : Option Block) → is_fresh (λ l. o) 1 ≡ false → (b : Block) × (o ≡ Some b)
in_use None e = absurd (true≢false e)
in_use (Some b) e = (b, refl)

not_fresh : (h : Heap) (l : ℕ) → is_fresh h l ≡ false → (l ≡ 0) ⊎ InUse h l
not_fresh h zero e = inl refl
not_fresh h (suc l) e = inr (in_use (h (suc l)) e)

pub fresh_free : (h : Heap) (l : ℕ) → (l ≡ 0) ⊎ InUse h l → is_fresh h l ≡ false
fresh_free h zero w = refl
fresh_free h (suc l) (inl e) = absurd (omega arith)
fresh_free h (suc l) (inr w) = rw w.1 refl

choice_asks : (h : Heap) (choices : List ℕ) (f : ℕ → List ℕ → Machine)
    → ((l : ℕ) (left : List ℕ) → Asks (f l left) → ⊥)
    → Asks (with_choice h choices f)
    → CannotChoose h choices
choice_asks h [] f p a = tt
choice_asks h (l ∷ choices) f p a = taken (is_fresh h l) refl
  where
    taken : (b : Bool) → is_fresh h l ≡ b → (l ≡ 0) ⊎ InUse h l
    taken true e = absurd (p l choices (subst (λ (b : Bool). Asks (if b then f l choices else asking)) e a))
    taken false e = not_fresh h l e

choice_wants : (h : Heap) (choices : List ℕ) (f : ℕ → List ℕ → Machine) → CannotChoose h choices → with_choice h choices f ≡ asking
choice_wants h [] f w = refl
choice_wants h (l ∷ choices) f w = rw (fresh_free h l w) refl

effect_asks : (code : Code) (h : Heap) (stack : Stack) (choices : List ℕ) (f : Function) (i : Instr)
    → Standing code stack f i
    → Asks (effect code f i h stack choices)
    → WantsChoice (Some i) h choices
effect_asks code h stack choices f (Const d v) s a = a
effect_asks code h stack choices f (Mov d x n) s a = a
effect_asks code h stack choices f (Op d o x y) s a = a
effect_asks code h stack choices f (Sel d c x y n) s a = a
effect_asks code h stack choices f (Alloc d x n) s a = choice_asks h choices _ (λ l left asks. asks) a
effect_asks code h stack choices f (Get d p n) s a = block_asks _ _ (h _) n _ (λ b asks. asks) a
effect_asks code h stack choices f (Set p x n) s a = block_asks _ _ (h _) n _ (λ b asks. asks) a
effect_asks code h stack choices f (Free p n) s a = block_asks _ _ (h _) n _ (λ b asks. asks) a
effect_asks code h stack choices f (Jump target) s a = a
effect_asks code h stack choices f (Jz c target) s a =
    if_asks (nat_eq (local_at (top stack).locals c) 0) (going h (goes_on stack target (top stack).locals) choices)
    (going h (goes_on stack ((top stack).next + 1) (top stack).locals) choices) (λ asks. asks) (λ asks. asks) a
effect_asks code h stack choices f (Call g x d) s a = called_asks (slice_get code.functions g) f h stack g choices x d s.valid.0 a
effect_asks code h stack choices f (Ret x) s a = returned_asks h stack (words_at (top stack).locals x f.result) choices a
effect_asks code h stack choices f (Tail g x) s a = replaced_asks (slice_get code.functions g) f h stack g choices x s.valid.1 a

effect_wants : (code : Code) (h : Heap) (stack : Stack) (choices : List ℕ) (f : Function) (i : Instr)
    → WantsChoice (Some i) h choices
    → effect code f i h stack choices ≡ asking
effect_wants code h stack choices f (Alloc d x n) w = choice_wants h choices _ w
effect_wants code h stack choices f (Const d v) w = absurd w
effect_wants code h stack choices f (Mov d x n) w = absurd w
effect_wants code h stack choices f (Op d o x y) w = absurd w
effect_wants code h stack choices f (Sel d c x y n) w = absurd w
effect_wants code h stack choices f (Get d p n) w = absurd w
effect_wants code h stack choices f (Set p x n) w = absurd w
effect_wants code h stack choices f (Free p n) w = absurd w
effect_wants code h stack choices f (Jump target) w = absurd w
effect_wants code h stack choices f (Jz c target) w = absurd w
effect_wants code h stack choices f (Call g x d) w = absurd w
effect_wants code h stack choices f (Ret x) w = absurd w
effect_wants code h stack choices f (Tail g x) w = absurd w

-- the next instruction is that which stands there
pub next_instr-is : (code : Code) (stack : Stack) (f : Function) (i : Instr) → Standing code stack f i → next_instr code stack ≡ Some i
next_instr-is code stack f i s = ap (λ (o : Option Function). instr_at o (top stack).next) s.function ∙ s.instr_is

asks_there_lem : (code : Code) (h : Heap) (stack : Stack) (choices : List ℕ)
    → IsValid code
    → StackFits code stack
    → Asks (step code (going h stack choices))
    → WantsChoice (next_instr code stack) h choices
asks_there_lem code h stack choices valid fits asks =
    let here = stands code stack valid fits in
    let s = here.1.1 in
    let there = effect_asks code h stack choices here.0 here.1.0 s (subst Asks (step-at code h stack choices here.0 here.1.0 s.function s.instr_is) asks) in
    subst (λ (o : Option Instr). WantsChoice o h choices) (sym (next_instr-is code stack here.0 here.1.0 s)) there

only_there_lem : (code : Code) (h : Heap) (stack : Stack) (choices : List ℕ)
    → IsValid code
    → StackFits code stack
    → WantsChoice (next_instr code stack) h choices
    → step code (going h stack choices) ≡ asking
only_there_lem code h stack choices valid fits wants =
    let here = stands code stack valid fits in
    let s = here.1.1 in
    step-at code h stack choices here.0 here.1.0 s.function s.instr_is
    ∙ effect_wants code h stack choices here.0 here.1.0
    (subst (λ (o : Option Instr). WantsChoice o h choices) (next_instr-is code stack here.0 here.1.0 s) wants)

pub asks_only_at_alloc_lem : AsksOnlyAtAlloc
asks_only_at_alloc_lem = record { asks_there = asks_there_lem; only_there = only_there_lem }
