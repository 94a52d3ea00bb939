-- How a run with the shipped choices ends.
use Rattle.std.proofs.Common.{ℕ, ◌≡◌, ◌+◌, ◌<◌, ◌^◌, List, [], Option, Some, None, refl, sym, ap, ◌∙◌, subst, arith, ⊎_elim}
use Rattle.htt_syntax_words.specs.declared.words.Bound.{Bound}
use Rattle.htt_syntax_words.specs.declared.words.Bound.TheVariants as bounds
use Rattle.htt_syntax_words.specs.declared.words.Kind.{Kind}
use Rattle.theory_values.specs.Heaps.{Heap, InUse}
use Rattle.theory_meaning.specs.Choices.{IsGreatest}
use Rattle.word_loader_code.specs.declared.code.Code.{Code}
use Rattle.word_loader_code.specs.declared.code.Function.{Function}
use Rattle.word_loader_code.specs.declared.code.Instr.{Instr}
use Rattle.word_loader_code.specs.declared.code.Instr.TheVariants.{Const, Mov, Op, Sel, Alloc, Get, Set, Free, Jump, Jz, Call, Ret, Tail}
use Rattle.word_loader_code.specs.Valid.{IsValid}
use Rattle.word_loader_code.specs.Machine.{Machine as State, Stack, going, halted, faulted, asking, machine_after}
use Rattle.theory_machine.specs.Fits.{FitsCode, next_instr}
use Rattle.theory_machine.proofs.Standing.{Standing, stands}
use Rattle.theory_machine.proofs.Asking.{next_instr-is}
use Rattle.word_machine.specs.declared.runs.End.{End}
use Rattle.word_machine.specs.declared.runs.End.TheVariants.{Halted, Fault, Stopped}
use Rattle.word_machine.specs.declared.stepped.Stepped.TheVariants as stepped
use Rattle.word_machine.specs.Steps.{next_fresh, next_of, StepsTo}
use Rattle.word_machine.specs.Limits.{NamesFunction}
use Rattle.word_machine.specs.Runs.{PassesLimit, StopsAt, Reaches, IsStopped, EndsAs, EndsShipped}
use Rattle.word_machine.specs.Ends.{HaltsAs}
use Rattle.word_machine.proofs.Room.{named_within}
use Rattle.word_machine.proofs.Running.{shipped, rest_of, Running, goes_on_running, reaches_next, never_asks, stopped_running, uses_steps, shipped_are}

-- a run after n steps, from the greatest location of its heap
pub record Runs (code : Code) (h : Heap) (steps n : ℕ) (m : State) (fresh : ℕ) : Type 0 where
  pub greatest : ℕ
  pub is_greatest : IsGreatest h greatest
  pub running : Running code h greatest steps n m fresh

-- its locations are small
pub greatest_low : (h : Heap) (g : ℕ) → IsGreatest h g → ((l : ℕ) → InUse h l → l < 2 ^ 63) → g < 2 ^ 63
greatest_low h g greatest low = ⊎_elim (λ (u : InUse h g). low g u) (λ (e : g ≡ 0). omega arith) greatest.in_use_or_zero

-- the function that the next instruction names is there
standing_names : (code : Code) (stack : Stack) (f : Function) (i : Instr) → Standing code stack f i → NamesFunction code i
standing_names code stack f (Call g a d) s = named_within code f g a s.valid.0
standing_names code stack f (Tail g a) s = named_within code f g a s.valid.1
standing_names code stack f (Const d v) s = tt
standing_names code stack f (Mov d x n) s = tt
standing_names code stack f (Op d o x y) s = tt
standing_names code stack f (Sel d c x y n) s = tt
standing_names code stack f (Alloc d x n) s = tt
standing_names code stack f (Get d p n) s = tt
standing_names code stack f (Set p x n) s = tt
standing_names code stack f (Free p n) s = tt
standing_names code stack f (Jump target) s = tt
standing_names code stack f (Jz c target) s = tt
standing_names code stack f (Ret x) s = tt

pub next_names : (code : Code) (m : State) (i : Instr) → IsValid code → FitsCode code m → next_of code m ≡ Some i → NamesFunction code i
next_names code (going h stack choices) i valid fits e =
    let here = stands code stack valid fits in
    let same : Some here.1.0 ≡ Some i = sym (next_instr-is code stack here.0 here.1.0 here.1.1) ∙ e in
    subst (NamesFunction code) (some_same here.1.0 i same) (standing_names code stack here.0 here.1.0 here.1.1)
  where
    some_same : (x y : Instr) → Some x ≡ Some y → x ≡ y
    some_same x y e = cc
next_names code (halted words h) i valid fits e = absurd (none_some i e)
  where
    none_some : (i : Instr) → None ≡ Some i → ⊥
    none_some i e = cc
next_names code (faulted kind l) i valid fits e = absurd (none_some i e)
  where
    none_some : (i : Instr) → None ≡ Some i → ⊥
    none_some i e = cc
next_names code asking i valid fits e = absurd (none_some i e)
  where
    none_some : (i : Instr) → None ≡ Some i → ⊥
    none_some i e = cc

-- the limit on steps is no limit of an instruction
no_step : (code : Code) (h : Heap) (stack : Stack) (i : Option Instr) (total : ℕ) → PassesLimit code h stack i bounds.Step total → ⊥
no_step code h stack None total p = p
no_step code h stack (Some (Const d v)) total p = p
no_step code h stack (Some (Mov d x n)) total p = p
no_step code h stack (Some (Op d o x y)) total p = p
no_step code h stack (Some (Sel d c x y n)) total p = p
no_step code h stack (Some (Alloc d x n)) total p = p
no_step code h stack (Some (Get d q n)) total p = p
no_step code h stack (Some (Set q x n)) total p = p
no_step code h stack (Some (Free q n)) total p = p
no_step code h stack (Some (Jump target)) total p = p
no_step code h stack (Some (Jz c target)) total p = p
no_step code h stack (Some (Call g a d)) total p = p
no_step code h stack (Some (Ret x)) total p = p
no_step code h stack (Some (Tail g a)) total p = p

no_step_stops : (code : Code) (m : State) (total : ℕ) → StopsAt code m bounds.Step total → ⊥
no_step_stops code (going h stack choices) total s = no_step code h stack (next_instr code stack) total s
no_step_stops code (halted words h) total s = s
no_step_stops code (faulted kind l) total s = s
no_step_stops code asking total s = s

stopped_ends : (code : Code) (h : Heap) (choices : List ℕ) (steps : ℕ) (bound : Bound) (total : ℕ)
    → IsStopped code h choices steps bound total
    → EndsAs code h choices steps (Stopped bound total)
stopped_ends code h choices steps bounds.Step total s = absurd (no_step_stops code (machine_after code h choices s.count) total s.stops)
stopped_ends code h choices steps bounds.Frame total s = s
stopped_ends code h choices steps bounds.Heap total s = s
stopped_ends code h choices steps bounds.Fuel total s = s
stopped_ends code h choices steps bounds.Turns total s = s

halted_ends : (code : Code) (h : Heap) (choices : List ℕ) (steps : ℕ) (m : State) (end : End)
    → HaltsAs m end
    → Reaches code h choices steps m
    → EndsAs code h choices steps end
halted_ends code h choices steps m (Halted words k) halts r = subst (Reaches code h choices steps) halts r
halted_ends code h choices steps m (Fault kind l) halts r = absurd halts
halted_ends code h choices steps m (Stopped bound total) halts r = absurd halts

-- what stops an instruction stops the machine, and the other way round
pub stops_next : (code : Code) (m : State) (h : Heap) (stack : Stack) (i : Instr) (bound : Bound) (total : ℕ)
    → m ≡ going h stack []
    → next_of code m ≡ Some i
    → PassesLimit code h stack (Some i) bound total
    → StopsAt code m bound total
stops_next code m h stack i bound total is next p =
    rw is (subst (λ (o : Option Instr). PassesLimit code h stack o bound total) (sym next ∙ ap (next_of code) is) p)

pub free_next : (code : Code) (m : State) (h : Heap) (stack : Stack) (i : Instr)
    → m ≡ going h stack []
    → next_of code m ≡ Some i
    → ((bound : Bound) (total : ℕ) → PassesLimit code h stack (Some i) bound total → ⊥)
    → (bound : Bound) (total : ℕ)
    → StopsAt code m bound total
    → ⊥
free_next code m h stack i is next free bound total s =
    free bound total (subst (λ (o : Option Instr). PassesLimit code h stack o bound total) (sym (sym next ∙ ap (next_of code) is)) (rw is at s))

-- the ends of a run
pub ends_stopped : (code : Code) (h : Heap) (steps n : ℕ) (m : State) (fresh : ℕ) (bound : Bound) (total : ℕ)
    → Runs code h steps n m fresh
    → n < steps
    → StopsAt code m bound total
    → EndsShipped code h steps (Stopped bound total)
ends_stopped code h steps n m fresh bound total r less s =
    let g = r.greatest in (
      shipped g steps,
      shipped_are h g steps r.is_greatest,
      stopped_ends code h (shipped g steps) steps bound total (stopped_running code h g steps n m fresh bound total r.running less s),
    )

pub ends_halted : (code : Code) (h : Heap) (steps n : ℕ) (m : State) (fresh : ℕ) (m' : State) (end : End)
    → Runs code h steps n m fresh
    → n < steps
    → ((bound : Bound) (total : ℕ) → StopsAt code m bound total → ⊥)
    → ((rest : List ℕ) → StepsTo code m fresh rest stepped.Halted m')
    → HaltsAs m' end
    → EndsShipped code h steps end
ends_halted code h steps n m fresh m' end r less free s halts =
    let g = r.greatest in (
      shipped g steps,
      shipped_are h g steps r.is_greatest,
      halted_ends code h (shipped g steps) steps m' end halts
          (reaches_next code h g steps n m fresh m' r.running less free (s (rest_of g steps fresh)).1),
    )

pub ends_faulted : (code : Code) (h : Heap) (steps n : ℕ) (m : State) (fresh : ℕ) (m' : State) (kind : Kind) (l : ℕ)
    → Runs code h steps n m fresh
    → n < steps
    → ((bound : Bound) (total : ℕ) → StopsAt code m bound total → ⊥)
    → ((rest : List ℕ) → StepsTo code m fresh rest (stepped.Fault kind l) m')
    → EndsShipped code h steps (Fault kind l)
ends_faulted code h steps n m fresh m' kind l r less free s =
    let g = r.greatest in
    let p = s (rest_of g steps fresh) in
    (shipped g steps, shipped_are h g steps r.is_greatest, reaches_next code h g steps n m fresh (faulted kind l) r.running less free (p.1 ∙ p.0))

pub ends_after_steps : (code : Code) (h : Heap) (steps n : ℕ) (m : State) (fresh : ℕ)
    → Runs code h steps n m fresh
    → n ≡ steps
    → EndsShipped code h steps (Stopped bounds.Step steps)
ends_after_steps code h steps n m fresh r e =
    let g = r.greatest in
    (shipped g steps, shipped_are h g steps r.is_greatest, (refl, uses_steps code h g steps n m fresh r.running e))

pub asks_never : (code : Code) (h : Heap) (steps n : ℕ) (m : State) (fresh : ℕ) (m' : State)
    → IsValid code
    → Runs code h steps n m fresh
    → n < steps
    → ((rest : List ℕ) → StepsTo code m fresh rest stepped.Asks m')
    → ⊥
asks_never code h steps n m fresh m' valid r less s =
    never_asks code h r.greatest steps n m fresh valid r.is_greatest r.running less (s (rest_of r.greatest steps fresh)).1

pub runs_on : (code : Code) (h : Heap) (steps n : ℕ) (m : State) (fresh : ℕ) (m' : State) (i : Instr)
    → Runs code h steps n m fresh
    → n < steps
    → ((bound : Bound) (total : ℕ) → StopsAt code m bound total → ⊥)
    → ((rest : List ℕ) → StepsTo code m fresh rest stepped.Going m')
    → FitsCode code m'
    → next_of code m ≡ Some i
    → Runs code h steps (n + 1) m' (next_fresh (Some i) fresh)
runs_on code h steps n m fresh m' i r less free s fits next =
    let g = r.greatest in
    record {
      greatest = g;
      is_greatest = r.is_greatest;
      running =
          subst (λ (o : Option Instr). Running code h g steps (n + 1) m' (next_fresh o fresh)) next
          (goes_on_running code h g steps n m fresh m' r.running less free (s (rest_of g steps fresh)) fits);
    }
