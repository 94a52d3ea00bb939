-- What each instruction does in the top frame of a stack, and steps in a row.
use Rattle.std.proofs.Common.{◌≡◌, ℕ, zero, suc, ◌+◌, List, [], ◌∷◌, ◌++◌, length, Option, Some, None, nat_eq, if◌then◌else◌, slice_get, refl, sym, ap, ◌∙◌, subst, arith}
use Rattle.htt_syntax_words.specs.declared.words.Kind.TheVariants as kind
use Rattle.theory_values.specs.Heaps.{Heap, with_block, without_block}
use Rattle.word_loader_code.specs.declared.code.Code.{Code}
use Rattle.word_loader_code.specs.declared.code.Function.{Function}
use Rattle.word_loader_code.specs.declared.code.Instr.{Instr}
use Rattle.word_loader_code.specs.declared.code.Instr.TheVariants.{Const, Mov, Op, Sel, Alloc, Get, Set, Free, Jump, Jz, Call, Ret, Tail}
use Rattle.word_loader_code.specs.Machine.{Frame, Stack, bottom, above, with_top, Machine, going, asking, called, replaced, returned, effect, step, after_steps}
use Rattle.word_loader_code.specs.Machine.{local_at, words_at, with_words, operation_result, entered_frame, with_choice, at_block}
use Rattle.theory_machine.proofs.Fitting.{step-at}
use Rattle.theory_emitted_words.specs.Frames.{FrameSite, frame_at, machine_at, Leads, InstrsAt}

-- steps after steps
pub more_steps : (code : Code) (m : Machine) (n k : ℕ) → after_steps code (after_steps code m n) k ≡ after_steps code m (n + k)
unfolding after_steps
more_steps code m n zero = let q : n ≡ n + 0 = omega arith in ap (after_steps code m) q
more_steps code m n (suc k) = let q : suc (n + k) ≡ n + suc k = omega arith in ap (step code) (more_steps code m n k) ∙ ap (after_steps code m) q

pub leads_none : {code : Code} {m k : Machine} → m ≡ k → Leads code m k
unfolding after_steps
leads_none q = record { steps = 0; there = q }

pub leads_one : {code : Code} {m k : Machine} → step code m ≡ k → Leads code m k
unfolding after_steps
leads_one q = record { steps = 1; there = q }

pub leads_on : {code : Code} {m k l : Machine} → Leads code m k → Leads code k l → Leads code m l
leads_on {code = code} {m = m} p q =
    record { steps = p.steps + q.steps; there = sym (more_steps code m p.steps q.steps) ∙ ap (λ x. after_steps code x q.steps) p.there ∙ q.there }

-- another number for the place at which the frame goes on
pub leads_to : (a : FrameSite) (m : Machine) (next other : ℕ) (locals : List ℕ)
    → next ≡ other
    → Leads a.code m (machine_at a next locals)
    → Leads a.code m (machine_at a other locals)
leads_to a m next other locals q l = subst (λ n. Leads a.code m (machine_at a n locals)) q l

-- the first and the second part of instructions that stand somewhere
pub stand_first : (body : List Instr) (at : ℕ) (xs ys : List Instr) → InstrsAt body at (xs ++ ys) → InstrsAt body at xs
stand_first body at [] ys s = tt
stand_first body at (x ∷ xs) ys s = (s.0, stand_first body (at + 1) xs ys s.1)

pub stand_second : (body : List Instr) (at : ℕ) (xs ys : List Instr) → InstrsAt body at (xs ++ ys) → InstrsAt body (at + length xs) ys
stand_second body at [] ys s = let q : at ≡ at + 0 = omega arith in subst (λ n. InstrsAt body n ys) q s
stand_second body at (x ∷ xs) ys s =
    let q : at + 1 + length xs ≡ at + suc (length xs) = omega arith in subst (λ n. InstrsAt body n ys) q (stand_second body (at + 1) xs ys s.1)

-- a body stands at its own start: in a body with instructions before them
before_stands : (body : List Instr) (x : Instr) (at : ℕ) (xs : List Instr) → InstrsAt body at xs → InstrsAt (x ∷ body) (suc at) xs
before_stands body x at [] s = tt
before_stands body x at (y ∷ xs) s =
    let q : suc (at + 1) ≡ suc at + 1 = omega arith in (s.0, subst (λ n. InstrsAt (x ∷ body) n xs) q (before_stands body x (at + 1) xs s.1))

pub stands_itself : (body : List Instr) → InstrsAt body 0 body
stands_itself [] = tt
stands_itself (x ∷ body) = let q : suc 0 ≡ 0 + 1 = omega arith in (refl, subst (λ n. InstrsAt (x ∷ body) n body) q (before_stands body x 0 body (stands_itself body)))

-- a call and a tail call from a frame, with the parameters from a place on
abbrev pub called_from : FrameSite → ℕ → List ℕ → Option Function → ℕ → ℕ → ℕ → Machine
called_from a next locals None g from d = asking
called_from a next locals (Some f) g from d =
    going a.heap
    (above (entered_frame g f (words_at locals from f.params)) d (with_top a.stack (frame_at a next locals))) a.choices

abbrev pub replaced_by : FrameSite → List ℕ → Option Function → ℕ → ℕ → Machine
replaced_by a locals None g from = asking
replaced_by a locals (Some f) g from =
    going a.heap (with_top a.stack (entered_frame g f (words_at locals from f.params))) a.choices

-- what an instruction of the function f comes to in the top frame, by the table of instructions
abbrev pub done_by : FrameSite → Function → ℕ → List ℕ → Instr → Machine
done_by a f next locals (Const d v) = machine_at a (next + 1) (with_words locals d (v ∷ []))
done_by a f next locals (Mov d s n) = machine_at a (next + 1) (with_words locals d (words_at locals s n))
done_by a f next locals (Op d o x y) =
    machine_at a (next + 1) (with_words locals d (operation_result o (local_at locals x) (local_at locals y) ∷ []))
done_by a f next locals (Sel d c x y n) =
    machine_at a (next + 1)
    (with_words locals d (if nat_eq (local_at locals c) 0 then words_at locals y n else words_at locals x n))
done_by a f next locals (Alloc d s n) =
    with_choice a.heap a.choices (λ l left.
    machine_at (record a { heap = with_block a.heap l (words_at locals s n); choices = left }) (next + 1)
    (with_words locals d (l ∷ [])))
done_by a f next locals (Get d p n) =
    at_block kind.Get (local_at locals p) (a.heap (local_at locals p)) n
    (λ block. machine_at a (next + 1) (with_words locals d block))
done_by a f next locals (Set p s n) =
    at_block kind.Set (local_at locals p) (a.heap (local_at locals p)) n
    (λ block. machine_at (record a { heap = with_block a.heap (local_at locals p) (words_at locals s n) }) (next + 1) locals)
done_by a f next locals (Free p n) =
    at_block kind.Free (local_at locals p) (a.heap (local_at locals p)) n
    (λ block. machine_at (record a { heap = without_block a.heap (local_at locals p) }) (next + 1) locals)
done_by a f next locals (Jump target) = machine_at a target locals
done_by a f next locals (Jz c target) =
    if nat_eq (local_at locals c) 0 then machine_at a target locals else machine_at a (next + 1) locals
done_by a f next locals (Call g from d) = called_from a (next + 1) locals (slice_get a.code.functions g) g from d
done_by a f next locals (Ret s) = returned a.heap a.stack (words_at locals s f.result) a.choices
done_by a f next locals (Tail g from) = replaced_by a locals (slice_get a.code.functions g) g from

module _ (code : Code) (f : Function) (number : ℕ) (h : Heap) (choices : List ℕ) (next : ℕ) (locals : List ℕ) where
  abbrev around : Stack → FrameSite
  around s = record { code = code; number = number; heap = h; stack = s; choices = choices }

  called_is : (s : Stack) (o : Option Function) (g from d : ℕ)
      → called o h (with_top s (frame_at (around s) next locals)) g choices from d ≡ called_from (around s) (next + 1) locals o g from d
  called_is s None g from d = refl
  called_is (bottom old) (Some k) g from d = refl
  called_is (above old e below) (Some k) g from d = refl

  replaced_is : (s : Stack) (o : Option Function) (g from : ℕ)
      → replaced o h (with_top s (frame_at (around s) next locals)) g choices from ≡ replaced_by (around s) locals o g from
  replaced_is s None g from = refl
  replaced_is (bottom old) (Some k) g from = refl
  replaced_is (above old e below) (Some k) g from = refl

  effect_is : (s : Stack) (i : Instr) → effect code f i h (with_top s (frame_at (around s) next locals)) choices ≡ done_by (around s) f next locals i
  effect_is s (Call g from d) = called_is s (slice_get code.functions g) g from d
  effect_is s (Tail g from) = replaced_is s (slice_get code.functions g) g from
  effect_is (bottom old) (Const d v) = refl
  effect_is (bottom old) (Mov d x n) = refl
  effect_is (bottom old) (Op d o x y) = refl
  effect_is (bottom old) (Sel d c x y n) = refl
  effect_is (bottom old) (Alloc d x n) = refl
  effect_is (bottom old) (Get d p n) = refl
  effect_is (bottom old) (Set p x n) = refl
  effect_is (bottom old) (Free p n) = refl
  effect_is (bottom old) (Jump target) = refl
  effect_is (bottom old) (Jz c target) = refl
  effect_is (bottom old) (Ret x) = refl
  effect_is (above old e below) (Const d v) = refl
  effect_is (above old e below) (Mov d x n) = refl
  effect_is (above old e below) (Op d o x y) = refl
  effect_is (above old e below) (Sel d c x y n) = refl
  effect_is (above old e below) (Alloc d x n) = refl
  effect_is (above old e below) (Get d p n) = refl
  effect_is (above old e below) (Set p x n) = refl
  effect_is (above old e below) (Free p n) = refl
  effect_is (above old e below) (Jump target) = refl
  effect_is (above old e below) (Jz c target) = refl
  effect_is (above old e below) (Ret x) = refl

  step_is : (s : Stack) (i : Instr)
      → slice_get code.functions number ≡ Some f
      → slice_get f.body next ≡ Some i
      → step code (machine_at (around s) next locals) ≡ done_by (around s) f next locals i
  step_is (bottom old) i there q = step-at code h (bottom (frame_at (around (bottom old)) next locals)) choices f i there q ∙ effect_is (bottom old) i
  step_is (above old d below) i there q =
      step-at code h (above (frame_at (around (above old d below)) next locals) d below) choices f i there q ∙ effect_is (above old d below) i

  returned_is : (s : Stack) (callee : Frame) (d : ℕ) (words : List ℕ)
      → returned h (above callee d (with_top s (frame_at (around s) next locals))) words choices ≡ machine_at (around s) next (with_words locals d words)
  returned_is (bottom old) callee d words = refl
  returned_is (above old e below) callee d words = refl

pub steps : (a : FrameSite) (f : Function) (next : ℕ) (locals : List ℕ) (i : Instr)
    → slice_get a.code.functions a.number ≡ Some f
    → slice_get f.body next ≡ Some i
    → step a.code (machine_at a next locals) ≡ done_by a f next locals i
steps a f next locals i there q = step_is a.code f a.number a.heap a.choices next locals a.stack i there q

pub returns : (a : FrameSite) (callee : Frame) (d next : ℕ) (locals words : List ℕ)
    → returned a.heap (above callee d (with_top a.stack (frame_at a next locals))) words a.choices ≡ machine_at a next (with_words locals d words)
returns a callee d next locals words = returned_is a.code (record { params = 0; locals = 0; result = 0; body = [] }) a.number a.heap a.choices next locals a.stack callee d words
