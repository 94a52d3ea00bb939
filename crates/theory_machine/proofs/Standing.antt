-- What stands before each frame of a stack that fits valid code.
use Rattle.std.proofs.Common.{ℕ, zero, suc, ◌≡◌, ◌+◌, ◌<◌, List, [], ◌∷◌, length, Option, Some, None, slice_get, All, refl, subst, arith}
use Rattle.std.proofs.lemmas.Option.{slice_get_within, get_or_from_slice_get}
use Rattle.word_loader_code.specs.declared.code.Code.{Code}
use Rattle.word_loader_code.specs.declared.code.Function.{Function}
use Rattle.word_loader_code.specs.declared.code.Instr.{Instr}
use Rattle.word_loader_code.specs.Valid.{IsValid, IsValidFunction, IsValidInstr, NeverFallsThrough, LastLeaves}
use Rattle.word_loader_code.specs.Machine.{Frame, Stack, bottom, above, top}
use Rattle.theory_machine.specs.Fits.{function_of, StandsIn, FrameFits, StackFits}

-- an element that a list has meets what all of them meet
pub All-slice_get : {X : Type 0} (P : X → Type 0) (xs : List X) (i : ℕ) (x : X) → All P xs → slice_get xs i ≡ Some x → P x
All-slice_get P xs i x all e = subst P (get_or_from_slice_get xs i x x e) (all i x (slice_get_within xs i x e))

pub top_fits : (code : Code) (stack : Stack) → StackFits code stack → FrameFits (function_of code (top stack)) (top stack)
top_fits code (bottom frame) fits = fits
top_fits code (above frame d below) fits = fits.0

-- a function that is there, with a frame that stands in it
pub found : (o : Option Function) (frame : Frame) → FrameFits o frame → (f : Function) × (o ≡ Some f) × StandsIn f frame
found None frame fits = absurd fits
found (Some f) frame fits = (f, refl, fits)

-- an instruction that isn't the last of its kind has one behind it
pub last_leaves : (body : List Instr) (i : ℕ) (instr : Instr)
    → LastLeaves body
    → slice_get body i ≡ Some instr
    → (NeverFallsThrough instr → ⊥)
    → i + 1 < length body
last_leaves [] i instr last e stays = absurd last
last_leaves (x ∷ []) zero instr last e stays = absurd (stays (subst (λ (o : Option Instr). LeavesOf o) e last))
  where
    LeavesOf : Option Instr → Type 0
    LeavesOf None = ⊥
    LeavesOf (Some j) = NeverFallsThrough j
last_leaves (x ∷ []) (suc i) instr last e stays = absurd (omega (arith, slice_get_within (x ∷ []) (suc i) instr e))
last_leaves (x ∷ y ∷ rest) zero instr last e stays = omega arith
last_leaves (x ∷ y ∷ rest) (suc i) instr last e stays =
    let more = last_leaves (y ∷ rest) i instr last e stays in
    omega arith

-- the first instruction of a valid function
pub some_instr : (body : List Instr) → LastLeaves body → 0 < length body
some_instr [] last = absurd last
some_instr (x ∷ rest) last = omega arith

-- the top frame of a stack that fits valid code: its function, its instruction, and that both are valid
pub record Standing (code : Code) (stack : Stack) (f : Function) (instr : Instr) : Type 0 where
  pub function : function_of code (top stack) ≡ Some f
  pub instr_is : slice_get f.body (top stack).next ≡ Some instr
  pub valid_function : IsValidFunction code f
  pub valid : IsValidInstr code f instr
  pub locals : length (top stack).locals ≡ f.locals
  pub next : (top stack).next < length f.body

pub standing_at : (code : Code) (stack : Stack) (f : Function) (instr : Instr)
    → IsValid code
    → StackFits code stack
    → function_of code (top stack) ≡ Some f
    → slice_get f.body (top stack).next ≡ Some instr
    → Standing code stack f instr
standing_at code stack f instr valid fits e i =
    let here : StandsIn f (top stack) = subst (λ (o : Option Function). FrameFits o (top stack)) e (top_fits code stack fits) in
    let vf : IsValidFunction code f = All-slice_get (IsValidFunction code) code.functions (top stack).function f valid.functions e in
    record {
      function = e;
      instr_is = i;
      valid_function = vf;
      valid = All-slice_get (IsValidInstr code f) f.body (top stack).next instr vf.instrs i;
      locals = here.locals;
      next = here.next;
    }

-- there is one
pub stands : (code : Code) (stack : Stack) → IsValid code → StackFits code stack → (f : Function) × ((instr : Instr) × Standing code stack f instr)
stands code stack valid fits =
    let there = found (function_of code (top stack)) (top stack) (top_fits code stack fits) in
    let f : Function = there.0 in
    let instr = instr_there f.body (top stack).next there.2.next in
    (f, (instr.0, standing_at code stack f instr.0 valid fits there.1 instr.1))
  where
    instr_there : (body : List Instr) (i : ℕ) → i < length body → (instr : Instr) × (slice_get body i ≡ Some instr)
    instr_there [] i within = absurd (omega arith)
    instr_there (x ∷ rest) zero within = (x, refl)
    instr_there (x ∷ rest) (suc i) within = instr_there rest i (omega arith)

-- what goes on behind the instruction
pub next_within : (code : Code) (stack : Stack) (f : Function) (instr : Instr)
    → Standing code stack f instr
    → (NeverFallsThrough instr → ⊥)
    → (top stack).next + 1 < length f.body
next_within code stack f instr s stays = last_leaves f.body (top stack).next instr s.valid_function.last s.instr_is stays
