-- Valid code and code that isn't.
use Rattle.std.proofs.Common.{ℕ, ◌≡◌, ◌≤◌, List, [], ◌∷◌, length, All, ◌⊎◌, inl, inr, refl, arith}
use Rattle.std.proofs.lemmas.List.Elements.{All-nil, All-cons}
use Rattle.word_loader_code.specs.declared.code.Code.{Code}
use Rattle.word_loader_code.specs.declared.code.Function.{Function}
use Rattle.word_loader_code.specs.declared.code.Instr.{Instr}
use Rattle.word_loader_code.specs.declared.code.Instr.TheVariants.{Const, Mov, Op, Jump, Call, Ret, Tail}
use Rattle.word_loader_code.specs.Valid.{IsValid, IsValidFunction, IsValidInstr, LastLeaves}
use Rattle.word_loader_code.specs.Laws.{seven_by_tail, WorkedCode}

-- code of a version with one function, which has no parameters
abbrev one : ℕ → ℕ → ℕ → List Instr → Code
one v locals result body = record { version = v; functions = record { params = 0; locals = locals; result = result; body = body } ∷ [] }

abbrev function : ℕ → ℕ → List Instr → Function
function locals result body = record { params = 0; locals = locals; result = result; body = body }

one_instr : (code : Code) (f : Function) (i : Instr) → IsValidInstr code f i → All (IsValidInstr code f) (i ∷ [])
one_instr code f i p = All-cons (IsValidInstr code f) i [] p (All-nil (IsValidInstr code f))

two_instrs : (code : Code) (f : Function) (i j : Instr) → IsValidInstr code f i → IsValidInstr code f j → All (IsValidInstr code f) (i ∷ j ∷ [])
two_instrs code f i j p q = All-cons (IsValidInstr code f) i (j ∷ []) p (one_instr code f j q)

one_function : (code : Code) (f : Function) → IsValidFunction code f → All (IsValidFunction code) (f ∷ [])
one_function code f p = All-cons (IsValidFunction code) f [] p (All-nil (IsValidFunction code))

one_is_valid : (v locals result : ℕ) (body : List Instr)
    → (v ≡ 1) ⊎ (v ≡ 2)
    → locals ≤ 4096
    → result ≤ 4096
    → length body ≤ 1000000
    → All (IsValidInstr (one v locals result body) (function locals result body)) body
    → LastLeaves body
    → IsValid (one v locals result body)
one_is_valid v locals result body s l r n i t =
    record {
      version = s;
      entered = refl;
      count = omega arith;
      instrs = omega (arith, n);
      functions =
          one_function (one v locals result body) (function locals result body)
          (record { locals = l; params = omega arith; result = r; instrs = i; last = t });
    }

-- the first function of valid code, and its first and second instruction
first_function : (v : ℕ) (f : Function) (fs : List Function)
    → IsValid (record { version = v; functions = f ∷ fs })
    → IsValidFunction (record { version = v; functions = f ∷ fs }) f
first_function v f fs h = h.functions 0 f (omega arith)

first_instr : (code : Code) (locals result params : ℕ) (i : Instr) (rest : List Instr)
    → IsValidFunction code (record { params = params; locals = locals; result = result; body = i ∷ rest })
    → IsValidInstr code (record { params = params; locals = locals; result = result; body = i ∷ rest }) i
first_instr code locals result params i rest h = h.instrs 0 i (omega arith)

no_third : (v : ℕ) → v ≡ 3 → (v ≡ 1) ⊎ (v ≡ 2) → ⊥
no_third v t (inl e) = omega (arith, t, e)
no_third v t (inr e) = omega (arith, t, e)

-- the two functions of a main that is a tail call
tail_is_valid : IsValidFunction seven_by_tail (function 0 1 (Tail 1 0 ∷ []))
tail_is_valid = record {
  locals = omega arith;
  params = omega arith;
  result = omega arith;
  instrs = one_instr seven_by_tail (function 0 1 (Tail 1 0 ∷ [])) (Tail 1 0) (refl, omega arith, refl);
  last = tt;
}

seven_is_valid : IsValidFunction seven_by_tail (function 1 1 (Const 0 7 ∷ Ret 0 ∷ []))
seven_is_valid = record {
  locals = omega arith;
  params = omega arith;
  result = omega arith;
  instrs = two_instrs seven_by_tail (function 1 1 (Const 0 7 ∷ Ret 0 ∷ [])) (Const 0 7) (Ret 0) (omega arith) (omega arith);
  last = tt;
}

seven_by_tail_is_valid : IsValid seven_by_tail
seven_by_tail_is_valid =
    record {
      version = inr refl;
      entered = refl;
      count = omega arith;
      instrs = omega arith;
      functions =
          All-cons (IsValidFunction seven_by_tail) (function 0 1 (Tail 1 0 ∷ [])) (function 1 1 (Const 0 7 ∷ Ret 0 ∷ []) ∷ []) tail_is_valid
          (one_function seven_by_tail (function 1 1 (Const 0 7 ∷ Ret 0 ∷ [])) seven_is_valid);
    }

pub codes : WorkedCode
codes = record {
  jump_to_itself =
      one_is_valid 1 0 0 (Jump 0 ∷ []) (inl refl) (omega arith) (omega arith) (omega arith)
      (one_instr (one 1 0 0 (Jump 0 ∷ [])) (function 0 0 (Jump 0 ∷ [])) (Jump 0) (omega arith)) tt;
  jump_too_far = λ h. omega (arith, first_instr (one 1 0 0 (Jump 1 ∷ [])) 0 0 0 (Jump 1) [] (first_function 1 (function 0 0 (Jump 1 ∷ [])) [] h));
  tail_call = seven_by_tail_is_valid;
  old_tail_call = λ h.
      omega (
        arith,
        (first_instr (record { version = 1; functions = seven_by_tail.functions }) 0 1 0 (Tail 1 0) []
            (first_function 1 (function 0 1 (Tail 1 0 ∷ [])) (function 1 1 (Const 0 7 ∷ Ret 0 ∷ []) ∷ []) h)).0,
      );
  no_third_version = λ h. no_third 3 refl h.version;
  no_words =
      one_is_valid 2 1 0 (Mov 1 1 0 ∷ Ret 0 ∷ []) (inr refl) (omega arith) (omega arith) (omega arith)
      (two_instrs (one 2 1 0 (Mov 1 1 0 ∷ Ret 0 ∷ [])) (function 1 0 (Mov 1 1 0 ∷ Ret 0 ∷ [])) (Mov 1 1 0) (Ret 0)
      (omega arith, omega arith) (omega arith)) tt;
  no_words_beyond = λ h.
      omega (
        arith,
        (first_instr (one 2 1 0 (Mov 2 1 0 ∷ Ret 0 ∷ [])) 1 0 0 (Mov 2 1 0) (Ret 0 ∷ [])
            (first_function 2 (function 1 0 (Mov 2 1 0 ∷ Ret 0 ∷ [])) [] h)).0,
      );
  same_place_twice =
      one_is_valid 2 2 1 (Op 0 10 1 1 ∷ Ret 0 ∷ []) (inr refl) (omega arith) (omega arith) (omega arith)
      (two_instrs (one 2 2 1 (Op 0 10 1 1 ∷ Ret 0 ∷ [])) (function 2 1 (Op 0 10 1 1 ∷ Ret 0 ∷ [])) (Op 0 10 1 1) (Ret 0)
      (omega arith, record { known = omega arith; one_place = λ e. refl }, omega arith, omega arith) (omega arith)) tt;
  other_place = λ h.
      omega (
        arith,
        (first_instr (one 2 2 1 (Op 0 10 1 0 ∷ Ret 0 ∷ [])) 2 1 0 (Op 0 10 1 0) (Ret 0 ∷ [])
            (first_function 2 (function 2 1 (Op 0 10 1 0 ∷ Ret 0 ∷ [])) [] h)).1.one_place refl,
      );
  no_operation = λ h.
      omega (
        arith,
        (first_instr (one 2 2 1 (Op 0 11 1 1 ∷ Ret 0 ∷ [])) 2 1 0 (Op 0 11 1 1) (Ret 0 ∷ [])
            (first_function 2 (function 2 1 (Op 0 11 1 1 ∷ Ret 0 ∷ [])) [] h)).1.known,
      );
  open_end = λ h. (first_function 2 (function 1 1 (Const 0 5 ∷ [])) [] h).last;
  no_instruction = λ h. (first_function 2 (function 1 1 []) [] h).last;
  no_function = λ h. h.entered;
  too_many_words = λ h. omega (arith, first_instr (one 2 1 2 (Ret 0 ∷ [])) 1 2 0 (Ret 0) [] (first_function 2 (function 1 2 (Ret 0 ∷ [])) [] h));
  no_such_function = λ h.
      (first_instr (one 2 1 1 (Call 1 0 0 ∷ Ret 0 ∷ [])) 1 1 0 (Call 1 0 0) (Ret 0 ∷ [])
      (first_function 2 (function 1 1 (Call 1 0 0 ∷ Ret 0 ∷ [])) [] h)).0;
  main_takes_one = λ h. omega (arith, h.entered);
}
