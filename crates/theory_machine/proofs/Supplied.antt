-- A machine that goes on with choices above all locations of its heap, so many as it may still use.
use Rattle.std.proofs.Common.{ℕ, zero, suc, ◌≡◌, ◌+◌, ◌-◌, ◌<◌, ◌≤◌, List, [], ◌∷◌, length, Bool, true, false, nat_eq, if◌then◌else◌, Option, Some, None}
use Rattle.std.proofs.Common.{slice_get, refl, sym, subst, arith}
use Rattle.std.proofs.lemmas.Bool.{eqb-true}
use Rattle.htt_syntax_words.specs.declared.words.Kind.{Kind}
use Rattle.htt_syntax_words.specs.declared.words.Kind.TheVariants as kind
use Rattle.theory_values.specs.Heaps.{Heap, Block, InUse, with_block, without_block}
use Rattle.theory_meaning.specs.Choices.{IsGreatest, numbers_from}
use Rattle.word_loader_code.specs.declared.code.Code.{Code}
use Rattle.word_loader_code.specs.declared.code.Function.{Function}
use Rattle.word_loader_code.specs.declared.code.Instr.{Instr}
use Rattle.word_loader_code.specs.declared.code.Instr.TheVariants.{Const, Mov, Op, Sel, Alloc, Get, Set, Free, Jump, Jz, Call, Ret, Tail}
use Rattle.word_loader_code.specs.Valid.{IsValid, Takes}
use Rattle.word_loader_code.specs.Machine.{Stack, bottom, above, top, goes_on, Machine, going, halted, faulted, asking, local_at, words_at, with_choice}
use Rattle.word_loader_code.specs.Machine.{is_fresh, at_block, returned, called, replaced, effect, step, started, after_steps, machine_after}
use Rattle.word_loader_code.specs.Laws.{Asks}
use Rattle.theory_machine.specs.Fits.{FitsCode}
use Rattle.theory_machine.specs.Laws.{ShippedChoicesSufficeForCode}
use Rattle.theory_machine.proofs.Standing.{Standing, stands}
use Rattle.theory_machine.proofs.Fitting.{step-at, run_fits}

-- each location of the heap is below the first choice
abbrev pub AllBelow : Heap → ℕ → Type 0
AllBelow h first = (l : ℕ) → InUse h l → l < first

-- the choices are numbers from one on that is above all locations, and there are at least r
pub record Supply (r : ℕ) (h : Heap) (choices : List ℕ) : Type 0 where
  pub first : ℕ
  pub left : ℕ
  pub numbers : choices ≡ numbers_from (suc first) left
  pub below : AllBelow h (suc first)
  pub enough : r ≤ left

abbrev pub Supplied : ℕ → Machine → Type 0
Supplied r (going h stack choices) = Supply r h choices
Supplied r asking = ⊥
Supplied r over = Unit {0}

-- fewer are needed, and the heap has no other locations
less_supply : (r : ℕ) (h k : Heap) (choices : List ℕ) → ((l : ℕ) → InUse k l → InUse h l) → Supply (suc r) h choices → Supply r k choices
less_supply r h k choices same s =
    let fewer : r ≤ s.left = omega (arith, s.enough) in
    record { first = s.first; left = s.left; numbers = s.numbers; below = λ l u. s.below l (same l u); enough = fewer }

-- a block at a place that is in use, and a block that is taken away
place_in_use : (b : Bool) (o : Option Block) (l m : ℕ) (block : Block) (h : Heap)
    → nat_eq m l ≡ b
    → InUse h l
    → (x : Block) × ((if b then Some block else h m) ≡ Some x)
    → InUse h m
place_in_use true o l m block h e used w = subst (InUse h) (sym (eqb-true m l e)) used
place_in_use false o l m block h e used w = w

pub with_block_in_use : (h : Heap) (l : ℕ) (block : Block) → InUse h l → (m : ℕ) → InUse (with_block h l block) m → InUse h m
with_block_in_use h l block used m w = place_in_use (nat_eq m l) None l m block h refl used w

gone_in_use : (b : Bool) (m : ℕ) (h : Heap) → (x : Block) × ((if b then None else h m) ≡ Some x) → InUse h m
gone_in_use true m h w = absurd (none_some w.0 w.1)
  where
    none_some : (x : Block) → None ≡ Some x → ⊥
    none_some x e = cc
gone_in_use false m h w = w

pub without_block_in_use : (h : Heap) (l m : ℕ) → InUse (without_block h l) m → InUse h m
without_block_in_use h l m w = gone_in_use (nat_eq m l) m h w

-- the first choice is fresh, and the next one is above it
fresh_above : (h : Heap) (first : ℕ) → AllBelow h (suc first) → is_fresh h (suc first) ≡ true
fresh_above h first below = by_cases (h (suc first)) refl
  where
    by_cases : (o : Option Block) → h (suc first) ≡ o → is_fresh h (suc first) ≡ true
    by_cases None e = rw e refl
    by_cases (Some b) e = absurd (omega (arith, below (suc first) (b, e)))

below_new : (b : Bool) (h : Heap) (first l : ℕ) (block : Block)
    → nat_eq l (suc first) ≡ b
    → AllBelow h (suc first)
    → (x : Block) × ((if b then Some block else h l) ≡ Some x)
    → l < suc (suc first)
below_new true h first l block e below w = let same : l ≡ suc first = eqb-true l (suc first) e in omega arith
below_new false h first l block e below w = let less : l < suc first = below l w in omega arith

new_supply : (r : ℕ) (h : Heap) (first left : ℕ) (block : Block)
    → AllBelow h (suc first)
    → suc r ≤ suc left
    → Supply r (with_block h (suc first) block) (numbers_from (suc (suc first)) left)
new_supply r h first left block below enough =
    record {
      first = suc first;
      left = left;
      numbers = refl;
      below = λ l w. below_new (nat_eq l (suc first)) h first l block refl below w;
      enough = omega arith;
    }

choice_supplied : (r : ℕ) (h : Heap) (choices : List ℕ) (f : ℕ → List ℕ → Machine)
    → ((first left : ℕ) → AllBelow h (suc first) → suc r ≤ suc left → Supplied r (f (suc first) (numbers_from (suc (suc first)) left)))
    → Supply (suc r) h choices
    → Supplied r (with_choice h choices f)
choice_supplied r h choices f p s = with_left s.left s.numbers s.enough
  where
    with_left : (left : ℕ) → choices ≡ numbers_from (suc s.first) left → suc r ≤ left → Supplied r (with_choice h choices f)
    with_left zero e enough = absurd (omega arith)
    with_left (suc left) e enough = rw (e, fresh_above h s.first s.below) (p s.first left s.below enough)

if_supplied : (r : ℕ) (b : Bool) (x y : Machine) → Supplied r x → Supplied r y → Supplied r (if b then x else y)
if_supplied r true x y p q = p
if_supplied r false x y p q = q

block_supplied : (r : ℕ) (kind : Kind) (l : ℕ) (o : Option Block) (n : ℕ) (f : Block → Machine)
    → ((b : Block) → o ≡ Some b → Supplied r (f b))
    → Supplied r (at_block kind l o n f)
block_supplied r kind l None n f p = tt
block_supplied r kind l (Some b) n f p = if_supplied r (nat_eq (length b) n) (f b) (faulted kind l) (p b refl) tt

called_supplied : (r : ℕ) (o : Option Function) (f : Function) (h : Heap) (stack : Stack) (g : ℕ) (choices : List ℕ) (a d : ℕ)
    → Takes f o a
    → Supply r h choices
    → Supplied r (called o h stack g choices a d)
called_supplied r None f h stack g choices a d takes s = absurd takes
called_supplied r (Some k) f h stack g choices a d takes s = s

replaced_supplied : (r : ℕ) (o : Option Function) (f : Function) (h : Heap) (stack : Stack) (g : ℕ) (choices : List ℕ) (a : ℕ)
    → Takes f o a
    → Supply r h choices
    → Supplied r (replaced o h stack g choices a)
replaced_supplied r None f h stack g choices a takes s = absurd takes
replaced_supplied r (Some k) f h stack g choices a takes s = s

returned_supplied : (r : ℕ) (h : Heap) (stack : Stack) (words choices : List ℕ) → Supply r h choices → Supplied r (returned h stack words choices)
returned_supplied r h (bottom frame) words choices s = tt
returned_supplied r h (above frame d below) words choices s = s

effect_supplied : (code : Code) (h : Heap) (stack : Stack) (choices : List ℕ) (f : Function) (i : Instr) (r : ℕ)
    → Standing code stack f i
    → Supply (suc r) h choices
    → Supplied r (effect code f i h stack choices)
effect_supplied code h stack choices f i r st s = row i st
  where
    same : Supply r h choices
    same = less_supply r h h choices (λ l u. u) s

    row : (i : Instr) → Standing code stack f i → Supplied r (effect code f i h stack choices)
    row (Const d v) st = same
    row (Mov d x n) st = same
    row (Op d o x y) st = same
    row (Sel d c x y n) st = same
    row (Alloc d x n) st = choice_supplied r h choices _ (λ first left below enough. new_supply r h first left (words_at (top stack).locals x n) below enough) s
    row (Get d p n) st = block_supplied r kind.Get (local_at (top stack).locals p) (h (local_at (top stack).locals p)) n _ (λ b e. same)
    row (Set p x n) st =
        block_supplied r kind.Set (local_at (top stack).locals p) (h (local_at (top stack).locals p)) n _
        (λ b e.
        less_supply r h (with_block h (local_at (top stack).locals p) (words_at (top stack).locals x n)) choices
        (with_block_in_use h (local_at (top stack).locals p) (words_at (top stack).locals x n) (b, e)) s)
    row (Free p n) st =
        block_supplied r kind.Free (local_at (top stack).locals p) (h (local_at (top stack).locals p)) n _
        (λ b e. less_supply r h (without_block h (local_at (top stack).locals p)) choices (without_block_in_use h (local_at (top stack).locals p)) s)
    row (Jump target) st = same
    row (Jz c target) st =
        if_supplied r (nat_eq (local_at (top stack).locals c) 0) (going h (goes_on stack target (top stack).locals) choices)
        (going h (goes_on stack ((top stack).next + 1) (top stack).locals) choices) same same
    row (Call g x d) st = called_supplied r (slice_get code.functions g) f h stack g choices x d st.valid.0 same
    row (Ret x) st = returned_supplied r h stack (words_at (top stack).locals x f.result) choices same
    row (Tail g x) st = replaced_supplied r (slice_get code.functions g) f h stack g choices x st.valid.1 same

pub step_supplied : (code : Code) (machine : Machine) (r : ℕ) → IsValid code → FitsCode code machine → Supplied (suc r) machine → Supplied r (step code machine)
unfolding step
step_supplied code (going h stack choices) r valid fits s =
    let here = stands code stack valid fits in
    let st = here.1.1 in
    subst (Supplied r) (sym (step-at code h stack choices here.0 here.1.0 st.function st.instr_is))
    (effect_supplied code h stack choices here.0 here.1.0 r st s)
step_supplied code (halted words h) r valid fits s = tt
step_supplied code (faulted kind l) r valid fits s = tt
step_supplied code asking r valid fits s = absurd s

pub started_supplied : (code : Code) (h : Heap) (g count : ℕ)
    → IsValid code
    → IsGreatest h g
    → Supplied count (started (slice_get code.functions 0) h (numbers_from (suc g) count))
started_supplied code h g count valid greatest = from code.functions refl
  where
    from : (functions : List Function) → code.functions ≡ functions → Supplied count (started (slice_get functions 0) h (numbers_from (suc g) count))
    from [] e = absurd (rw e at valid.entered)
    from (main ∷ rest) e =
        record { first = g; left = count; numbers = refl; below = λ l u. (let le : l ≤ g = greatest.none_above l u in omega arith); enough = omega arith }

pub run_supplied : (code : Code) (h : Heap) (g count n r : ℕ)
    → IsValid code
    → IsGreatest h g
    → r + n ≡ count
    → Supplied r (machine_after code h (numbers_from (suc g) count) n)
unfolding after_steps
run_supplied code h g count zero r valid greatest e =
    let all : r ≡ count = omega arith in
    rw all (started_supplied code h g count valid greatest)
run_supplied code h g count (suc n) r valid greatest e =
    let sum : suc r + n ≡ count = omega arith in
    step_supplied code (machine_after code h (numbers_from (suc g) count) n) r valid (run_fits code h (numbers_from (suc g) count) n valid)
    (run_supplied code h g count n (suc r) valid greatest sum)

supplied_asks : (r : ℕ) (machine : Machine) → Supplied r machine → Asks machine → ⊥
supplied_asks r (going h stack choices) s a = a
supplied_asks r (halted words h) s a = a
supplied_asks r (faulted kind l) s a = a
supplied_asks r asking s a = s

pub shipped_choices_suffice_lem : ShippedChoicesSufficeForCode
shipped_choices_suffice_lem code h count choices n valid shipped within asks =
    let sum : count - n + n ≡ count = omega arith in
    let some = run_supplied code h shipped.greatest count n (count - n) valid shipped.is_greatest sum in
    supplied_asks (count - n) (machine_after code h (numbers_from (suc shipped.greatest) count) n) some
    (subst (λ (cs : List ℕ). Asks (machine_after code h cs n)) shipped.in_order asks)
