-- A run with the shipped choices, step by step.
use Rattle.std.proofs.Common.{ℕ, suc, ◌≡◌, ◌+◌, ◌-◌, ◌<◌, ◌≤◌, List, [], ◌∷◌, Option, Some, None, slice_get, refl, sym, ap, ◌∙◌, subst, arith, add-one, ⊎_elim}
use Rattle.std.proofs.lemmas.Bool.{cases_lt}
use Rattle.htt_syntax_words.specs.declared.words.Bound.{Bound}
use Rattle.theory_values.specs.Heaps.{Heap}
use Rattle.theory_meaning.specs.Choices.{IsGreatest, numbers_from, AreShipped}
use Rattle.word_loader_code.specs.declared.code.Code.{Code}
use Rattle.word_loader_code.specs.declared.code.Function.{Function}
use Rattle.word_loader_code.specs.declared.code.Instr.{Instr}
use Rattle.word_loader_code.specs.declared.code.Instr.TheVariants.{Const, Mov, Op, Sel, Alloc, Get, Set, Free, Jump, Jz, Call, Ret, Tail}
use Rattle.word_loader_code.specs.Valid.{IsValid, IsEntered}
use Rattle.word_loader_code.specs.Machine.{Machine as State, going, halted, faulted, asking, step, started, after_steps, machine_after}
use Rattle.word_loader_code.specs.Laws.{Asks}
use Rattle.theory_machine.specs.Fits.{FitsCode}
use Rattle.theory_machine.proofs.Supplied.{shipped_choices_suffice_lem}
use Rattle.word_machine.specs.declared.stepped.Stepped.TheVariants as stepped
use Rattle.word_machine.specs.Steps.{with_choices, choices_left, next_fresh, next_of, IsGoing, StepsTo}
use Rattle.word_machine.specs.Runs.{StopsAt, Unstopped, Reaches, IsStopped, UsesSteps}

-- the shipped choices of so many steps, and those that are left from a location on
abbrev pub shipped : ℕ → ℕ → List ℕ
shipped g steps = numbers_from (suc g) steps

abbrev pub left_from : ℕ → ℕ → ℕ → List ℕ
left_from g steps fresh = numbers_from fresh (suc g + steps - fresh)

-- after n steps the run is in this state, with these choices left, and no limit has stopped it
pub record Running (code : Code) (h : Heap) (g steps n : ℕ) (m : State) (fresh : ℕ) : Type 0 where
  pub there : machine_after code h (shipped g steps) n ≡ with_choices m (left_from g steps fresh)
  pub going : IsGoing m
  pub fits : FitsCode code m
  pub unstopped : Unstopped code h (shipped g steps) n
  pub counted : fresh ≤ suc g + n

-- at the start
started_with : (code : Code) (h : Heap) (choices : List ℕ)
    → IsValid code
    → (started (slice_get code.functions 0) h choices ≡ with_choices (started (slice_get code.functions 0) h []) choices)
    × IsGoing (started (slice_get code.functions 0) h [])
started_with code h choices valid = from code.functions valid.entered
  where
    from : (functions : List Function)
        → IsEntered functions
        → (started (slice_get functions 0) h choices ≡ with_choices (started (slice_get functions 0) h []) choices)
        × IsGoing (started (slice_get functions 0) h [])
    from [] e = absurd e
    from (main ∷ rest) e = (refl, tt)

pub starts_running : (code : Code) (h : Heap) (g steps : ℕ) (m : State)
    → IsValid code
    → m ≡ started (slice_get code.functions 0) h []
    → FitsCode code m
    → Running code h g steps 0 m (g + 1)
unfolding after_steps
starts_running code h g steps m valid is fits =
    let all : suc g + steps - (g + 1) ≡ steps = omega arith in
    let from : left_from g steps (g + 1) ≡ shipped g steps = rw (all, add-one) refl in
    let begun = started_with code h (shipped g steps) valid in
    record {
      there = begun.0 ∙ (ap (λ (s : State). with_choices s (shipped g steps)) (sym is) ∙ ap (with_choices m) (sym from));
      going = rw is begun.1;
      fits = fits;
      unstopped = λ k less. absurd (omega arith);
      counted = omega arith;
    }

-- a limit sees no choices
stops_with : (code : Code) (m : State) (choices : List ℕ) (bound : Bound) (total : ℕ)
    → StopsAt code (with_choices m choices) bound total
    → StopsAt code m bound total
stops_with code (going h stack old) choices bound total s = s
stops_with code (halted words h) choices bound total s = s
stops_with code (faulted kind l) choices bound total s = s
stops_with code asking choices bound total s = s

pub stops_there : (code : Code) (m : State) (choices : List ℕ) (bound : Bound) (total : ℕ)
    → StopsAt code m bound total
    → StopsAt code (with_choices m choices) bound total
stops_there code (going h stack old) choices bound total s = s
stops_there code (halted words h) choices bound total s = s
stops_there code (faulted kind l) choices bound total s = s
stops_there code asking choices bound total s = s

-- one step more without a stop
unstopped_more : (code : Code) (h : Heap) (g steps n : ℕ) (m : State) (fresh : ℕ)
    → Running code h g steps n m fresh
    → ((bound : Bound) (total : ℕ) → StopsAt code m bound total → ⊥)
    → Unstopped code h (shipped g steps) (n + 1)
unstopped_more code h g steps n m fresh r free k less bound total stops =
    ⊎_elim (λ (d : k < n). r.unstopped k d bound total stops) (λ (d : n ≤ k). here (omega arith)) (cases_lt k n)
  where
    here : k ≡ n → ⊥
    here e =
        let at_n : StopsAt code (machine_after code h (shipped g steps) n) bound total = rw (← e) stops in
        free bound total (stops_with code m (left_from g steps fresh) bound total (subst (λ (s : State). StopsAt code s bound total) r.there at_n))

-- the first of the choices that are left is the location to choose
pub rest_of : ℕ → ℕ → ℕ → List ℕ
rest_of g steps fresh = numbers_from (suc fresh) (suc g + steps - suc fresh)

left_first : (g steps n fresh : ℕ) → n < steps → fresh ≤ suc g + n → left_from g steps fresh ≡ fresh ∷ rest_of g steps fresh
unfolding rest_of
left_first g steps n fresh less counted =
    let one : suc g + steps - fresh ≡ suc (suc g + steps - suc fresh) = omega arith in
    rw one refl

left_next : (g steps n fresh : ℕ) (i : Option Instr)
    → n < steps
    → fresh ≤ suc g + n
    → choices_left i fresh (rest_of g steps fresh) ≡ left_from g steps (next_fresh i fresh)
unfolding rest_of
left_next g steps n fresh (Some (Alloc d s k)) less counted = rw add-one refl
left_next g steps n fresh None less counted = sym (left_first g steps n fresh less counted)
left_next g steps n fresh (Some (Const d v)) less counted = sym (left_first g steps n fresh less counted)
left_next g steps n fresh (Some (Mov d s k)) less counted = sym (left_first g steps n fresh less counted)
left_next g steps n fresh (Some (Op d o a b)) less counted = sym (left_first g steps n fresh less counted)
left_next g steps n fresh (Some (Sel d c a b k)) less counted = sym (left_first g steps n fresh less counted)
left_next g steps n fresh (Some (Get d p k)) less counted = sym (left_first g steps n fresh less counted)
left_next g steps n fresh (Some (Set p s k)) less counted = sym (left_first g steps n fresh less counted)
left_next g steps n fresh (Some (Free p k)) less counted = sym (left_first g steps n fresh less counted)
left_next g steps n fresh (Some (Jump target)) less counted = sym (left_first g steps n fresh less counted)
left_next g steps n fresh (Some (Jz c target)) less counted = sym (left_first g steps n fresh less counted)
left_next g steps n fresh (Some (Call f a d)) less counted = sym (left_first g steps n fresh less counted)
left_next g steps n fresh (Some (Ret s)) less counted = sym (left_first g steps n fresh less counted)
left_next g steps n fresh (Some (Tail f a)) less counted = sym (left_first g steps n fresh less counted)

next_counted : (i : Option Instr) (fresh : ℕ) → next_fresh i fresh ≤ fresh + 1
next_counted (Some (Alloc d s k)) fresh = omega arith
next_counted None fresh = omega arith
next_counted (Some (Const d v)) fresh = omega arith
next_counted (Some (Mov d s k)) fresh = omega arith
next_counted (Some (Op d o a b)) fresh = omega arith
next_counted (Some (Sel d c a b k)) fresh = omega arith
next_counted (Some (Get d p k)) fresh = omega arith
next_counted (Some (Set p s k)) fresh = omega arith
next_counted (Some (Free p k)) fresh = omega arith
next_counted (Some (Jump target)) fresh = omega arith
next_counted (Some (Jz c target)) fresh = omega arith
next_counted (Some (Call f a d)) fresh = omega arith
next_counted (Some (Ret s)) fresh = omega arith
next_counted (Some (Tail f a)) fresh = omega arith

-- the machine after the next step
next_there : (code : Code) (h : Heap) (g steps n : ℕ) (m : State) (fresh : ℕ)
    → Running code h g steps n m fresh
    → n < steps
    → machine_after code h (shipped g steps) (n + 1) ≡ step code (with_choices m (fresh ∷ rest_of g steps fresh))
unfolding after_steps
next_there code h g steps n m fresh r less =
    rw add-one (ap (step code) (r.there ∙ ap (with_choices m) (left_first g steps n fresh less r.counted)))

-- it goes on
pub goes_on_running : (code : Code) (h : Heap) (g steps n : ℕ) (m : State) (fresh : ℕ) (m' : State)
    → Running code h g steps n m fresh
    → n < steps
    → ((bound : Bound) (total : ℕ) → StopsAt code m bound total → ⊥)
    → StepsTo code m fresh (rest_of g steps fresh) stepped.Going m'
    → FitsCode code m'
    → Running code h g steps (n + 1) m' (next_fresh (next_of code m) fresh)
goes_on_running code h g steps n m fresh m' r less free s fits =
    record {
      there = next_there code h g steps n m fresh r less ∙ (s.1 ∙ ap (with_choices m') (left_next g steps n fresh (next_of code m) less r.counted));
      going = s.0;
      fits = fits;
      unstopped = unstopped_more code h g steps n m fresh r free;
      counted = omega (arith, r.counted, next_counted (next_of code m) fresh);
    }

-- it is over
pub reaches_next : (code : Code) (h : Heap) (g steps n : ℕ) (m : State) (fresh : ℕ) (m' : State)
    → Running code h g steps n m fresh
    → n < steps
    → ((bound : Bound) (total : ℕ) → StopsAt code m bound total → ⊥)
    → step code (with_choices m (fresh ∷ rest_of g steps fresh)) ≡ m'
    → Reaches code h (shipped g steps) steps m'
reaches_next code h g steps n m fresh m' r less free e =
    record {
      count = n + 1;
      within = omega arith;
      unstopped = unstopped_more code h g steps n m fresh r free;
      there = next_there code h g steps n m fresh r less ∙ e;
    }

-- it never asks
pub never_asks : (code : Code) (h : Heap) (g steps n : ℕ) (m : State) (fresh : ℕ)
    → IsValid code
    → IsGreatest h g
    → Running code h g steps n m fresh
    → n < steps
    → step code (with_choices m (fresh ∷ rest_of g steps fresh)) ≡ asking
    → ⊥
never_asks code h g steps n m fresh valid greatest r less e =
    let asks = next_there code h g steps n m fresh r less ∙ e in
    let choices : AreShipped h steps (shipped g steps) = record { greatest = g; is_greatest = greatest; in_order = refl } in
    shipped_choices_suffice_lem code h steps (shipped g steps) (n + 1) valid choices (omega arith) (subst Asks (sym asks) tt)

-- a limit stops it
pub stopped_running : (code : Code) (h : Heap) (g steps n : ℕ) (m : State) (fresh : ℕ) (bound : Bound) (total : ℕ)
    → Running code h g steps n m fresh
    → n < steps
    → StopsAt code m bound total
    → IsStopped code h (shipped g steps) steps bound total
stopped_running code h g steps n m fresh bound total r less s =
    record {
      count = n;
      within = less;
      unstopped = r.unstopped;
      stops = subst (λ (x : State). StopsAt code x bound total) (sym r.there) (stops_there code m (left_from g steps fresh) bound total s);
    }

-- it has used its steps
going_with : (m : State) (choices : List ℕ) → IsGoing m → IsGoing (with_choices m choices)
going_with (going h stack old) choices g = tt
going_with (halted words h) choices g = absurd g
going_with (faulted kind l) choices g = absurd g
going_with asking choices g = absurd g

uses_all : (code : Code) (h : Heap) (g steps : ℕ) (m : State) (fresh : ℕ) → Running code h g steps steps m fresh → UsesSteps code h (shipped g steps) steps
uses_all code h g steps m fresh r =
    record { unstopped = r.unstopped; going = subst IsGoing (sym r.there) (going_with m (left_from g steps fresh) r.going) }

pub uses_steps : (code : Code) (h : Heap) (g steps n : ℕ) (m : State) (fresh : ℕ)
    → Running code h g steps n m fresh
    → n ≡ steps
    → UsesSteps code h (shipped g steps) steps
uses_steps code h g steps n m fresh r e = uses_all code h g steps m fresh (subst (λ (k : ℕ). Running code h g steps k m fresh) e r)

pub shipped_are : (h : Heap) (g steps : ℕ) → IsGreatest h g → AreShipped h steps (shipped g steps)
shipped_are h g steps greatest = record { greatest = g; is_greatest = greatest; in_order = refl }
