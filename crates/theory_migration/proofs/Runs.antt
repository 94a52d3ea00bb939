-- Migrated code does what the old code does: each of its steps is one or more steps of the old code, more than
-- one where a return goes through frames that wait.
use Rattle.std.proofs.Common.{◌≡◌, ◌≤◌, ◌<◌, ℕ, zero, suc, ◌+◌, ◌-◌, List, [], ◌∷◌, ◌++◌, length, take, drop, Bool, true, false, nat_eq, if◌then◌else◌, Option}
use Rattle.std.proofs.Common.{Some, None, slice_get, refl, sym, ap, ◌∙◌, subst, arith}
use Rattle.theory_values.specs.Heaps.{Heap}
use Rattle.word_loader_code.specs.declared.code.Code.{Code}
use Rattle.word_loader_code.specs.declared.code.Function.{Function}
use Rattle.word_loader_code.specs.declared.code.Instr.{Instr}
use Rattle.word_loader_code.specs.declared.code.Instr.TheVariants.{Const, Mov, Op, Sel, Alloc, Get, Set, Free, Jump, Jz, Call, Ret, Tail}
use Rattle.word_loader_code.specs.Valid.{IsValid, IsValidInstr, ReturnsAs, Takes}
use Rattle.word_loader_code.specs.Laws.{IsOver}
use Rattle.word_loader_code.specs.Machine.{Frame, Stack, bottom, above, top, with_top, goes_on, Machine, going, halted, faulted, asking, words_at, with_words}
use Rattle.word_loader_code.specs.Machine.{returned, effect, fetched, stepped, step, started}
use Rattle.word_loader_code.specs.Machine.{after_steps, machine_after}
use Rattle.theory_machine.specs.Fits.{function_of, ResultHasPlace, StackFits, FitsCode}
use Rattle.theory_machine.proofs.Words.{length-words_at}
use Rattle.theory_machine.proofs.Standing.{found, top_fits, Standing, stands}
use Rattle.theory_machine.proofs.Fitting.{step-at, run_fits}
use Rattle.theory_migration.specs.Migration.{returns_as, returns_at, is_returned, retailed_instr, retailed_body, retailed_function, retailed}
use Rattle.theory_migration.specs.Laws.{ComesTo, MigratedDoesTheSame}
use Rattle.theory_migration.proofs.Bodies.{function_or_none, function_there, instr_there, returned_is}
use Rattle.theory_migration.proofs.Merged.{waits_in, waits, merged_above, merged, merged_machine, top_merged, merged_goes_on, returned_with}
use Rattle.theory_migration.proofs.Effects.{Stays, effect_merged, call_effect, tail_effect}

-- steps from the other end
steps_from : (code : Code) (m : Machine) (n : ℕ) → after_steps code (step code m) n ≡ after_steps code m (suc n)
unfolding after_steps
steps_from code m zero = refl
steps_from code m (suc n) = ap (step code) (steps_from code m n)

over_steps : (code : Code) (m : Machine) (n : ℕ) → IsOver m → after_steps code m n ≡ m
unfolding after_steps step
over_steps code m zero o = refl
over_steps code (halted words h) (suc n) o = ap (step code) (over_steps code (halted words h) n tt)
over_steps code (faulted kind l) (suc n) o = ap (step code) (over_steps code (faulted kind l) n tt)
over_steps code asking (suc n) o = ap (step code) (over_steps code asking n tt)
over_steps code (going h stack choices) (suc n) o = absurd o

-- words that were written at d are read there
read_front : (words rest : List ℕ) (n : ℕ) → length words ≡ n → take n (words ++ rest) ≡ words
read_front [] rest zero q = refl
read_front [] rest (suc n) q = absurd (let r : 0 ≡ suc n = q in omega (arith, r))
read_front (w ∷ words) rest zero q = absurd (omega (arith, q))
read_front (w ∷ words) rest (suc n) q = let r : length words ≡ n = omega (arith, q) in λ j. w ∷ read_front words rest n r j

read_there : (locals words rest : List ℕ) (d n : ℕ) → length words ≡ n → d ≤ length locals → take n (drop d ((take d locals ++ words) ++ rest)) ≡ words
read_there locals words rest zero n q within = read_front words rest n q
read_there [] words rest (suc d) n q within = absurd (omega (arith, within))
read_there (x ∷ locals) words rest (suc d) n q within = read_there locals words rest d n q (omega (arith, within))

words_there : (locals : List ℕ) (d n : ℕ) (words : List ℕ) → length words ≡ n → d + n ≤ length locals → words_at (with_words locals d words) d n ≡ words
words_there locals d n words q within = read_there locals words (drop (d + length words) locals) d n q (omega (arith, within))

goes_on_locals : (stack : Stack) (next : ℕ) (locals : List ℕ) → (top (goes_on stack next locals)).locals ≡ locals
goes_on_locals (bottom frame) next locals = refl
goes_on_locals (above frame d below) next locals = refl

goes_on_function : (stack : Stack) (next : ℕ) (locals : List ℕ) → (top (goes_on stack next locals)).function ≡ (top stack).function
goes_on_function (bottom frame) next locals = refl
goes_on_function (above frame d below) next locals = refl

goes_on_next : (stack : Stack) (next : ℕ) (locals : List ℕ) → (top (goes_on stack next locals)).next ≡ next
goes_on_next (bottom frame) next locals = refl
goes_on_next (above frame d below) next locals = refl

module _ (code : Code) (valid : IsValid code) where
  -- the frame below, which waits at `ret d`, returns the words that it got
  returns_on : (h : Heap) (below : Stack) (choices words : List ℕ) (d : ℕ) (f : Function)
      → function_of code (top below) ≡ Some f
      → slice_get f.body (top below).next ≡ Some (Ret d)
      → length words ≡ f.result
      → d + f.result ≤ length (top below).locals
      → step code (going h (goes_on below (top below).next (with_words (top below).locals d words)) choices) ≡ returned h below words choices
  returns_on h below choices words d f e there long within =
      let next = (top below).next in
      let locals = with_words (top below).locals d words in
      let on = goes_on below next locals in
      step-at code h on choices f (Ret d) (ap (slice_get code.functions) (goes_on_function below next locals) ∙ e)
      (ap (slice_get f.body) (goes_on_next below next locals) ∙ there)
      ∙ ap (λ l. returned h on (words_at l d f.result) choices) (goes_on_locals below next locals)
      ∙ ap (λ l. returned h on l choices) (words_there (top below).locals d f.result words long within)
      ∙ returned_with h below (record (top below) { next = next; locals = locals }) words choices

  -- a return of migrated code is a chain of returns
  returned_merged : (h : Heap) (stack : Stack) (choices words : List ℕ) (f : Function)
      → StackFits code stack
      → function_of code (top stack) ≡ Some f
      → length words ≡ f.result
      → (k : ℕ) × (returned h (merged code stack) words choices ≡ merged_machine code (after_steps code (returned h stack words choices) k))
  unfolding after_steps
  returned_merged h (bottom frame) choices words f fits e long = (0, refl)
  returned_merged h (above frame d below) choices words f fits e long =
      let there = found (function_of code (top below)) (top below) (top_fits code below fits.2) in
      let place : ResultHasPlace (Some f) d (top below) = subst (λ (o : Option Function). ResultHasPlace o d (top below)) e fits.1 in
      by (waits code (top below) d frame.function) refl there.0 there.1 place
      (λ g q r. returned_merged h below choices words g fits.2 q r)
    where
      by : (b : Bool)
          → waits code (top below) d frame.function ≡ b
          → (g : Function)
          → function_of code (top below) ≡ Some g
          → d + f.result ≤ length (top below).locals
          → ((g : Function) → function_of code (top below) ≡ Some g → length words ≡ g.result
          → (k : ℕ) × (returned h (merged code below) words choices ≡ merged_machine code (after_steps code (returned h below words choices) k)))
          → (k : ℕ) × (returned h (merged_above b frame d (merged code below)) words choices
          ≡ merged_machine code (after_steps code (going h (goes_on below (top below).next (with_words (top below).locals d words)) choices) k))
      by false w g q place go = (
        0,
        (λ j. going h (goes_on (merged code below) (top_merged code below j).next (with_words (top_merged code below j).locals d words)) choices)
            ∙ ap (λ s. going h s choices) (sym (merged_goes_on code below (top below).next (with_words (top below).locals d words))),
      )
      by true w g q place go =
          let known =
          returned_is code g frame.function d (slice_get g.body (top below).next)
          (sym (ap (λ o. waits_in code o (top below).next d frame.function) q) ∙ w) in
          let same : f.result ≡ g.result = subst (ReturnsAs g) e (known.1) in
          let rest = go g q (long ∙ same) in (
            suc (rest.0),
            returned_with h (merged code below) frame words choices ∙ rest.1
                ∙ ap (λ m. merged_machine code (after_steps code m (rest.0)))
                (sym (returns_on h below choices words d g q (known.0) (long ∙ same) (subst (λ n. d + n ≤ length (top below).locals) same place)))
                ∙ ap (merged_machine code)
                (steps_from code (going h (goes_on below (top below).next (with_words (top below).locals d words)) choices) (rest.0)),
          )

  -- another function with as many words is waited for alike
  waits_same : (g g' : ℕ)
      → ((f : Function) → returns_as f (slice_get code.functions g) ≡ returns_as f (slice_get code.functions g'))
      → (frame : Frame) (d : ℕ)
      → waits code frame d g ≡ waits code frame d g'
  waits_same g g' same frame d = by (slice_get code.functions frame.function)
    where
      by : (o : Option Function) → waits_in code o frame.next d g ≡ waits_in code o frame.next d g'
      by None = refl
      by (Some f) = ap (λ (b : Bool). if returns_at d (slice_get f.body frame.next) then b else false) (same f)

  same_results : (f : Function) (o : Option Function) → ReturnsAs f o → (k : Function) × (o ≡ Some k) × (k.result ≡ f.result)
  same_results f None r = absurd r
  same_results f (Some k) r = (k, refl, r)

  -- one step of migrated code
  step_merged : (h : Heap) (stack : Stack) (choices : List ℕ)
      → StackFits code stack
      → (k : ℕ) × (step (retailed code) (going h (merged code stack) choices) ≡ merged_machine code (after_steps code (going h stack choices) (suc k)))
  unfolding after_steps
  step_merged h stack choices fits =
      let here = stands code stack valid fits in
      by here.0 here.1.0 here.1.1
    where
      new_step : (f : Function) (i : Instr) → Standing code stack f i
          → step (retailed code) (going h (merged code stack) choices)
          ≡ effect (retailed code) (retailed_function code f) (retailed_instr code f i (slice_get f.body (suc (top stack).next))) h (merged code stack) choices
      new_step f i s =
          step-at (retailed code) h (merged code stack) choices (retailed_function code f) (retailed_instr code f i (slice_get f.body (suc (top stack).next)))
          (ap (λ (t : Frame). slice_get (retailed code).functions t.function) (top_merged code stack) ∙ function_there code code.functions (top stack).function
          ∙ ap (function_or_none code) s.function)
          (ap (λ (t : Frame). slice_get (retailed_body code f f.body) t.next) (top_merged code stack) ∙ instr_there code f f.body (top stack).next i s.instr_is)

      old_step : (f : Function) (i : Instr) → Standing code stack f i → effect code f i h stack choices ≡ after_steps code (going h stack choices) 1
      old_step f i s = sym (step-at code h stack choices f i s.function s.instr_is)

      one : (f : Function) (i : Instr) → Standing code stack f i
          → effect (retailed code) (retailed_function code f) (retailed_instr code f i (slice_get f.body (suc (top stack).next))) h (merged code stack) choices
          ≡ merged_machine code (effect code f i h stack choices)
          → (k : ℕ) × (step (retailed code) (going h (merged code stack) choices) ≡ merged_machine code (after_steps code (going h stack choices) (suc k)))
      one f i s q = (0, new_step f i s ∙ q ∙ ap (merged_machine code) (old_step f i s))

      by : (f : Function) (i : Instr) → Standing code stack f i
          → (k : ℕ) × (step (retailed code) (going h (merged code stack) choices) ≡ merged_machine code (after_steps code (going h stack choices) (suc k)))
      by f (Const d v) s = one f (Const d v) s (effect_merged code f (retailed_function code f) h stack choices (Const d v) tt)
      by f (Mov d x n) s = one f (Mov d x n) s (effect_merged code f (retailed_function code f) h stack choices (Mov d x n) tt)
      by f (Op d o a b) s = one f (Op d o a b) s (effect_merged code f (retailed_function code f) h stack choices (Op d o a b) tt)
      by f (Sel d c a b n) s = one f (Sel d c a b n) s (effect_merged code f (retailed_function code f) h stack choices (Sel d c a b n) tt)
      by f (Alloc d x n) s = one f (Alloc d x n) s (effect_merged code f (retailed_function code f) h stack choices (Alloc d x n) tt)
      by f (Get d p n) s = one f (Get d p n) s (effect_merged code f (retailed_function code f) h stack choices (Get d p n) tt)
      by f (Set p x n) s = one f (Set p x n) s (effect_merged code f (retailed_function code f) h stack choices (Set p x n) tt)
      by f (Free p n) s = one f (Free p n) s (effect_merged code f (retailed_function code f) h stack choices (Free p n) tt)
      by f (Jump target) s = one f (Jump target) s (effect_merged code f (retailed_function code f) h stack choices (Jump target) tt)
      by f (Jz c target) s = one f (Jz c target) s (effect_merged code f (retailed_function code f) h stack choices (Jz c target) tt)
      by f (Call g a d) s = one f (Call g a d) s (call_effect code f (retailed_function code f) h stack choices g a d s.function)
      by f (Tail g a) s =
          let r = same_results f (slice_get code.functions g) (s.valid.2) in
          one f (Tail g a) s
          (tail_effect code f (retailed_function code f) h stack choices g a (r.0) (r.1)
          (waits_same g (top stack).function (λ (b : Function).
          ap (returns_as b) (r.1) ∙ ap (λ n. nat_eq n b.result) (r.2) ∙ sym (ap (returns_as b) s.function))))
      by f (Ret x) s =
          let words = words_at (top stack).locals x f.result in
          let long = length-words_at (top stack).locals x f.result (omega (arith, s.valid, s.locals)) in
          let rest = returned_merged h stack choices words f fits s.function long in (
            rest.0,
            new_step f (Ret x) s
                ∙ ap (λ (t : Frame). returned h (merged code stack) (words_at t.locals x f.result) choices) (top_merged code stack)
                ∙ rest.1
                ∙ ap (λ m. merged_machine code (after_steps code m (rest.0))) (sym (step-at code h stack choices f (Ret x) s.function s.instr_is))
                ∙ ap (merged_machine code) (steps_from code (going h stack choices) (rest.0)),
          )

  more_steps : (m : Machine) (n k : ℕ) → after_steps code (after_steps code m n) k ≡ after_steps code m (n + k)
  unfolding after_steps
  more_steps m n zero = let q : n ≡ n + 0 = omega arith in ap (after_steps code m) q
  more_steps m n (suc k) = let q : suc (n + k) ≡ n + suc k = omega arith in ap (step code) (more_steps m n k) ∙ ap (after_steps code m) q

  started_merged : (h : Heap) (choices : List ℕ) (o : Option Function) → started (function_or_none code o) h choices ≡ merged_machine code (started o h choices)
  started_merged h choices None = refl
  started_merged h choices (Some f) = refl

  -- each state of migrated code is one of the old code that comes no earlier
  follows : (h : Heap) (choices : List ℕ) (n : ℕ)
      → (m : ℕ) × (n ≤ m) × (machine_after (retailed code) h choices n ≡ merged_machine code (machine_after code h choices m))
  unfolding step after_steps
  follows h choices zero =
      (0, omega arith, ap (λ o. started o h choices) (function_there code code.functions 0) ∙ started_merged h choices (slice_get code.functions 0))
  follows h choices (suc n) =
      let before = follows h choices n in
      by (before.0) (before.1) (machine_after code h choices (before.0)) refl (run_fits code h choices (before.0) valid) (ap (step (retailed code)) (before.2))
    where
      by : (m : ℕ) → n ≤ m → (x : Machine)
          → machine_after code h choices m ≡ x
          → FitsCode code x
          → step (retailed code) (machine_after (retailed code) h choices n) ≡ step (retailed code) (merged_machine code x)
          → (m : ℕ) × (suc n ≤ m) × (step (retailed code) (machine_after (retailed code) h choices n) ≡ merged_machine code (machine_after code h choices m))
      by m le (going heap stack left) q fits s =
          let more = step_merged heap stack left fits in (
            m + suc (more.0),
            omega (arith, le),
            s ∙ more.1 ∙ ap (λ y. merged_machine code (after_steps code y (suc (more.0)))) (sym q)
                ∙ ap (merged_machine code) (more_steps (started (slice_get code.functions 0) h choices) m (suc (more.0))),
          )
      by m le (halted words heap) q fits s = (suc m, omega (arith, le), s ∙ ap (λ y. merged_machine code (step code y)) (sym q))
      by m le (faulted kind l) q fits s = (suc m, omega (arith, le), s ∙ ap (λ y. merged_machine code (step code y)) (sym q))
      by m le asking q fits s = (suc m, omega (arith, le), s ∙ ap (λ y. merged_machine code (step code y)) (sym q))

  unmerged : (x machine : Machine) → IsOver machine → merged_machine code x ≡ machine → x ≡ machine
  unmerged (going h stack choices) machine o q = absurd (subst IsOver (sym q) o)
  unmerged (halted words h) machine o q = q
  unmerged (faulted kind l) machine o q = q
  unmerged asking machine o q = q

  over_merged : (machine : Machine) → IsOver machine → merged_machine code machine ≡ machine
  over_merged (going h stack choices) o = absurd o
  over_merged (halted words h) o = refl
  over_merged (faulted kind l) o = refl
  over_merged asking o = refl

pub does_the_same : MigratedDoesTheSame
does_the_same code h choices machine valid over = (to_old, to_new)
  where
    to_old : ComesTo (retailed code) h choices machine → ComesTo code h choices machine
    to_old r =
        let f = follows code valid h choices (r.0) in
        (f.0, unmerged code valid (machine_after code h choices (f.0)) machine over (sym (f.2) ∙ r.1))

    to_new : ComesTo code h choices machine → ComesTo (retailed code) h choices machine
    to_new r =
        let f = follows code valid h choices (r.0) in
        let start = started (slice_get code.functions 0) h choices in
        let later : r.0 + (f.0 - r.0) ≡ f.0 = omega (arith, f.1) in
        let stays : machine_after code h choices (f.0) ≡ machine =
        ap (after_steps code start) (sym later) ∙ sym (more_steps code valid start (r.0) (f.0 - r.0))
        ∙ ap (λ m. after_steps code m (f.0 - r.0)) (r.1) ∙ over_steps code machine (f.0 - r.0) over in
        (r.0, f.2 ∙ ap (merged_machine code) stays ∙ over_merged code valid machine over)
