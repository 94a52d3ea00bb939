-- Code that was worked out by hand, with its bytes.
use Rattle.std.specs.Prelude.{◌≡◌, ℕ, List, [], ◌∷◌, true, length, sum_by, Some, None}
use Rattle.htt_syntax.specs.declared.mono.Op.TheVariants.{Add, Mul}
use Rattle.htt_syntax.specs.Trees.{MonoTree, TermTree, m_word, m_bool, m_unit, m_pair, t_var, t_word, t_bool, t_loc, t_unit}
use Rattle.htt_syntax.specs.Trees.{t_fst, t_snd, t_not, t_bin}
use Rattle.word_loader_code.specs.declared.code.Code.{Code}
use Rattle.word_loader_code.specs.declared.code.Function.{Function}
use Rattle.word_loader_code.specs.declared.code.Instr.{Instr}
use Rattle.word_loader_code.specs.declared.code.Instr.TheVariants.{Const, Mov, Op, Alloc, Get, Free, Jump, Jz, Call}
use Rattle.word_loader_code.specs.declared.code.Instr.TheVariants.{Ret, Set}
use Rattle.word_loader_code.specs.declared.code.Instr.TheVariants.{Tail}
use Rattle.word_loader_format.specs.Layout.{code_bytes}
use Rattle.theory_flat.specs.Flat.{FlatTree, Instance, flat_ret, flat_step, flat_call, flat_get, flat_set, flat_free}
use Rattle.theory_flat.specs.Flat.{flat_if}
use Rattle.theory_flat.specs.Examples.{alone, sum_flat, cell_flat, blocks_flat, seven_flat, dup_flat, rep_flat, pick_flat}
use Rattle.theory_emission.specs.Codes.{first_code, code_of, emit_refusal, refusal_for, wide_function}
use Rattle.theory_emission.specs.Codes.{too_long, too_many_locals}

-- The number of instructions of a code.
abbrev pub instr_count : Code → ℕ
instr_count code = sum_by (λ f. length f.body) code.functions

-- One function without parameters.
abbrev pub only : ℕ → ℕ → List Instr → Code
only locals result body =
    record { version = 2; functions = record { params = 0; locals = locals; result = result; body = body } ∷ [] }

-- b <- if [word] true { ret 1 } { ret 2 }; ret M
abbrev pub chosen : TermTree → List Instance
chosen result =
    alone m_word
    (flat_step (flat_if m_word (t_bool true) (flat_ret (t_word 1)) (flat_ret (t_word 2))) (flat_ret result)) ∷ []

-- s <- (instance 1); ret M, and ret ()
abbrev pub unit_called : TermTree → List Instance
unit_called result =
    alone m_unit (flat_step (flat_call 1 []) (flat_ret result)) ∷ alone m_unit (flat_ret t_unit) ∷ []

-- x <- get[(word * word) * bool] place 5; _ <- set[bool] place 6 (not (snd x)); _ <- free[(word * word) * bool] place 5;
-- ret snd (fst x) * 2
abbrev pub words_and_bool : MonoTree
words_and_bool = m_pair (m_pair m_word m_word) m_bool

abbrev pub parts_flat : List Instance
parts_flat =
    alone m_word
    (flat_step (flat_get words_and_bool (t_loc 5))
    (flat_step (flat_set m_bool (t_loc 6) (t_not (t_snd (t_var 0))))
    (flat_step (flat_free words_and_bool (t_loc 5)) (flat_ret (t_bin Mul (t_snd (t_fst (t_var 2))) (t_word 2)))))) ∷ []

abbrev pub with_locals : ℕ → Function
with_locals count = record { params = 0; locals = count; result = 0; body = Ret 0 ∷ [] }

pub record WorkedCode : Type 0 where
  pub cell_code : code_of cell_flat ≡ only 3 1 (Const 0 7 ∷ Alloc 1 0 1 ∷ Get 2 1 1 ∷ Free 1 1 ∷ Ret 2 ∷ [])
  -- places of no words are the next free local
  pub blocks_code : code_of blocks_flat ≡ only 3 1 (Alloc 0 0 0 ∷ Alloc 1 1 0 ∷ Op 2 9 0 1 ∷ Ret 2 ∷ [])
  pub unit_code : code_of (alone m_unit (flat_ret t_unit) ∷ []) ≡ only 0 0 (Ret 0 ∷ [])
  pub dup_code :
      code_of dup_flat
      ≡ record {
        version = 2;
        functions = record {
          params = 0;
          locals = 20;
          result = 6;
          body = Const 0 3 ∷ Mov 1 0 1 ∷ Call 1 1 2 ∷ Const 4 4 ∷ Const 5 1 ∷ Mov 6 4 1 ∷ Mov 7 5 1 ∷ Mov 8 6 2 ∷
              Call 2 8 10 ∷ Mov 14 2 2 ∷ Mov 16 10 4 ∷ Ret 14 ∷ [];
        } ∷ record { params = 1; locals = 3; result = 2; body = Mov 1 0 1 ∷ Mov 2 0 1 ∷ Ret 1 ∷ [] } ∷
            record { params = 2; locals = 6; result = 4; body = Mov 2 0 2 ∷ Mov 4 0 2 ∷ Ret 2 ∷ [] } ∷ [];
      }
  pub dup_count : instr_count (code_of dup_flat) ≡ 18
  pub rep_code :
      code_of rep_flat
      ≡ record {
        version = 2;
        functions = record { params = 0; locals = 2; result = 1; body = Const 0 5 ∷ Mov 1 0 1 ∷ Tail 1 1 ∷ [] } ∷
            record { params = 1; locals = 2; result = 1; body = Mov 1 0 1 ∷ Tail 2 1 ∷ [] } ∷
            record {
              params = 1;
              locals = 10;
              result = 1;
              body = Const 1 0 ∷ Op 2 9 0 1 ∷ Jz 2 5 ∷ Const 3 0 ∷ Ret 3 ∷ Const 4 1 ∷ Op 5 1 0 4 ∷ Mov 6 5 1 ∷
                  Call 2 6 7 ∷ Const 8 2 ∷ Op 9 0 7 8 ∷ Ret 9 ∷ [];
            } ∷ [];
      }
  -- several parameters, of other widths, in a call and in a function
  pub pick_code :
      code_of pick_flat
      ≡ record {
        version = 2;
        functions = record {
          params = 0;
          locals = 8;
          result = 1;
          body = Const 0 3 ∷ Const 1 4 ∷ Mov 2 0 1 ∷ Mov 3 1 1 ∷ Const 4 1 ∷ Mov 5 2 2 ∷ Mov 7 4 1 ∷ Tail 1 5 ∷ [];
        } ∷ record { params = 3; locals = 7; result = 1; body = Mov 3 2 1 ∷ Mov 4 0 2 ∷ Mov 6 0 1 ∷ Tail 2 3 ∷ [] } ∷
            record {
              params = 4;
              locals = 10;
              result = 1;
              body = Jz 0 2 ∷ Ret 2 ∷ Const 4 1 ∷ Op 5 0 3 4 ∷ Mov 6 0 1 ∷ Mov 7 1 2 ∷ Mov 9 5 1 ∷ Tail 2 6 ∷ [];
            } ∷ [];
      }
  -- parts of a pair, `set`, `not`, and blocks of several words
  pub parts_code :
      code_of parts_flat
      ≡ only 9 1 (Const 0 5 ∷ Get 1 0 3 ∷ Const 4 6 ∷ Op 5 10 3 3 ∷ Set 4 5 1 ∷ Const 6 5 ∷ Free 6 3 ∷ Const 7 2 ∷
      Op 8 2 2 7 ∷ Ret 8 ∷ [])
  -- a tail call keeps no frame, and where the result is another term there is none
  pub tail_count : instr_count (code_of (unit_called (t_var 0))) ≡ 2
  pub call_count : instr_count (code_of (unit_called t_unit)) ≡ 3
  -- version 1 has no tail calls
  pub seven_code_of_one :
      first_code seven_flat
      ≡ record {
        version = 1;
        functions = record { params = 0; locals = 1; result = 1; body = Call 1 0 0 ∷ Ret 0 ∷ [] } ∷
            record { params = 0; locals = 1; result = 1; body = Const 0 7 ∷ Ret 0 ∷ [] } ∷ [];
      }
  -- branches in tail place are bodies, and others bring their results to one place
  pub branches_end : code_of (chosen (t_var 0))
      ≡ only 3 1 (Const 0 1 ∷ Jz 0 4 ∷ Const 1 1 ∷ Ret 1 ∷ Const 2 2 ∷ Ret 2 ∷ [])
  pub branches_join : code_of (chosen (t_bin Add (t_var 0) (t_word 1)))
      ≡ only 6 1 (Const 0 1 ∷ Jz 0 5 ∷ Const 2 1 ∷ Mov 1 2 1 ∷ Jump 7 ∷ Const 3 2 ∷ Mov 1 3 1 ∷ Const 4 1 ∷ Op 5 0 1 4 ∷
      Ret 5 ∷ [])
  pub none_refused : emit_refusal (code_of rep_flat) ≡ None
  -- at a limit, past it, and past both
  pub longest : refusal_for None 1_000_000 ≡ None
  pub one_longer : refusal_for None 1_000_001 ≡ Some too_long
  pub locals_come_first : refusal_for (Some 1) 1_000_001 ≡ Some (too_many_locals 1)
  pub widest : wide_function 0 (with_locals 4096 ∷ with_locals 4097 ∷ []) ≡ Some 1

pub record WorkedBytes : Type 0 where
  -- 33 bytes
  pub sum_bytes : code_bytes (first_code sum_flat)
      ≡ 0x48 ∷ 0x54 ∷ 0x54 ∷ 0x57 ∷ 1 ∷ 1 ∷ 0 ∷ 0 ∷ 0 ∷ 0 ∷ 0 ∷ 1 ∷ 0 ∷ 1 ∷ 0 ∷ 2 ∷ 0 ∷ 0 ∷ 0 ∷ 0 ∷ 0 ∷ 0 ∷ 5 ∷ 0 ∷ 0 ∷
      0 ∷ 0 ∷ 0 ∷ 0 ∷ 0 ∷ 0x0b ∷ 0 ∷ 0 ∷ []
  pub sum_bytes_of_two : code_bytes (code_of sum_flat)
      ≡ 0x48 ∷ 0x54 ∷ 0x54 ∷ 0x57 ∷ 2 ∷ 1 ∷ 0 ∷ 0 ∷ 0 ∷ 0 ∷ 0 ∷ 1 ∷ 0 ∷ 1 ∷ 0 ∷ 2 ∷ 0 ∷ 0 ∷ 0 ∷ 0 ∷ 0 ∷ 0 ∷ 5 ∷ 0 ∷ 0 ∷
      0 ∷ 0 ∷ 0 ∷ 0 ∷ 0 ∷ 0x0b ∷ 0 ∷ 0 ∷ []
  -- 52 bytes
  pub cell_bytes : code_bytes (code_of cell_flat)
      ≡ 0x48 ∷ 0x54 ∷ 0x54 ∷ 0x57 ∷ 2 ∷ 1 ∷ 0 ∷ 0 ∷ 0 ∷ 0 ∷ 0 ∷ 3 ∷ 0 ∷ 1 ∷ 0 ∷ 5 ∷ 0 ∷ 0 ∷ 0 ∷ 0 ∷ 0 ∷ 0 ∷ 7 ∷ 0 ∷ 0 ∷
      0 ∷ 0 ∷ 0 ∷ 0 ∷ 0 ∷ 4 ∷ 1 ∷ 0 ∷ 0 ∷ 0 ∷ 1 ∷ 0 ∷ 5 ∷ 2 ∷ 0 ∷ 1 ∷ 0 ∷ 1 ∷ 0 ∷ 7 ∷ 1 ∷ 0 ∷ 1 ∷ 0 ∷ 0x0b ∷ 2 ∷ 0 ∷ []
  -- 50 bytes, with a call in tail place
  pub seven_bytes : code_bytes (code_of seven_flat)
      ≡ 0x48 ∷ 0x54 ∷ 0x54 ∷ 0x57 ∷ 2 ∷ 2 ∷ 0 ∷ 0 ∷ 0 ∷ 0 ∷ 0 ∷ 0 ∷ 0 ∷ 1 ∷ 0 ∷ 1 ∷ 0 ∷ 0 ∷ 0 ∷ 0 ∷ 0 ∷ 1 ∷ 0 ∷ 1 ∷ 0 ∷
      2 ∷ 0 ∷ 0 ∷ 0 ∷ 0x0c ∷ 1 ∷ 0 ∷ 0 ∷ 0 ∷ 0 ∷ 0 ∷ 0 ∷ 0 ∷ 0 ∷ 7 ∷ 0 ∷ 0 ∷ 0 ∷ 0 ∷ 0 ∷ 0 ∷ 0 ∷ 0x0b ∷ 0 ∷ 0 ∷ []
