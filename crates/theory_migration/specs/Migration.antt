-- Code of either version as version 2 code: a call whose result is returned as it is becomes a tail call. No
-- instruction is removed, so no target changes.
use Rattle.std.specs.Prelude.{ℕ, List, [], ◌∷◌, map, Option, Some, None, slice_get, Bool, true, false, nat_eq}
use Rattle.std.specs.Prelude.{if◌then◌else◌}
use Rattle.word_loader_code.specs.declared.code.Code.{Code}
use Rattle.word_loader_code.specs.declared.code.Function.{Function}
use Rattle.word_loader_code.specs.declared.code.Instr.{Instr}
use Rattle.word_loader_code.specs.declared.code.Instr.TheVariants.{Call, Ret, Tail}

-- A function that is called returns as many words as this one.
abbrev pub returns_as : Function → Option Function → Bool
returns_as f (Some g) = nat_eq g.result f.result
returns_as f None = false

-- What stands behind is a return of what is at d.
abbrev pub returns_at : ℕ → Option Instr → Bool
returns_at d (Some (Ret s)) = nat_eq s d
returns_at d behind = false

-- A call of g in f with its result at d is returned as it is, by the instruction that stands behind it.
abbrev pub is_returned : Code → Function → ℕ → ℕ → Option Instr → Bool
is_returned code f g d behind = if returns_at d behind then returns_as f (slice_get code.functions g) else false

abbrev pub tail_or_call : Bool → ℕ → ℕ → ℕ → Instr
tail_or_call true g a d = Tail g a
tail_or_call false g a d = Call g a d

-- What an instruction becomes, with what stands behind it.
abbrev pub retailed_instr : Code → Function → Instr → Option Instr → Instr
retailed_instr code f (Call g a d) behind = tail_or_call (is_returned code f g d behind) g a d
retailed_instr code f i behind = i

abbrev pub retailed_body : Code → Function → List Instr → List Instr
retailed_body code f [] = []
retailed_body code f (i ∷ others) = retailed_instr code f i (slice_get others 0) ∷ retailed_body code f others

abbrev pub retailed_function : Code → Function → Function
retailed_function code f =
    record { params = f.params; locals = f.locals; result = f.result; body = retailed_body code f f.body }

abbrev pub retailed : Code → Code
retailed code = record { version = 2; functions = map (retailed_function code) code.functions }
