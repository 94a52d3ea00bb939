-- The code of a list of instances, in both versions, and why a list has none.
use Rattle.std.specs.Prelude.{◌≡◌, ℕ, zero, suc, List, [], ◌∷◌, length, map, sum_by, Option, Some, None, nat_lt}
use Rattle.std.specs.Prelude.{if◌then◌else◌}
use Rattle.word_loader_code.specs.declared.code.Code.{Code}
use Rattle.word_loader_code.specs.declared.code.Function.{Function}
use Rattle.word_loader_code.specs.Valid.{word_limit, instr_limit}
use Rattle.theory_flat.specs.Flat.{Instance}
use Rattle.theory_emission.specs.Bodies.{Ending, is_returned, is_tail, emit_instance}

abbrev pub code_ended_by : ℕ → Ending → List Instance → Code
code_ended_by version ending instances =
    record { version = version; functions = map (emit_instance instances ending) instances }

-- Version 1, in which bodies end in a return, and version 2, in which a body is a tail body.
abbrev pub first_code : List Instance → Code
first_code instances = code_ended_by 1 is_returned instances

abbrev pub code_of : List Instance → Code
code_of instances = code_ended_by 2 is_tail instances

-- The function with this number needs too many locals; or there are too many instructions together.
pub data EmitRefusal : Type 0 where
  too_many_locals : ℕ → EmitRefusal
  too_long : EmitRefusal

abbrev pub wide_function : ℕ → List Function → Option ℕ
wide_function number [] = None
wide_function number (f ∷ others) =
    if nat_lt word_limit f.locals then Some number else wide_function (suc number) others

abbrev pub length_refusal : ℕ → Option EmitRefusal
length_refusal count = if nat_lt instr_limit count then Some too_long else None

abbrev pub refusal_for : Option ℕ → ℕ → Option EmitRefusal
refusal_for (Some number) count = Some (too_many_locals number)
refusal_for None count = length_refusal count

-- The first function that needs too many locals comes before the count of instructions.
abbrev pub emit_refusal : Code → Option EmitRefusal
emit_refusal code = refusal_for (wide_function zero code.functions) (sum_by (λ f. length f.body) code.functions)
