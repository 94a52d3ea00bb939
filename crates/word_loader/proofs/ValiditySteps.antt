-- One more step of the loops that test code.
use Rattle.std.proofs.Common.{◌≡◌, ℕ, ◌+◌, ◌-◌, ◌<◌, ◌≤◌, Bool, false, List, ◌∷◌, ◌++◌, length, get_or, drop, Ok, sym, ap, ◌∙◌, arith}
use Rattle.std.specs.Prelude.{nat_eq, ◌==◌}
use Rattle.std.proofs.lemmas.Bool.{ne_eqb, leb-true, and_parts}
use Rattle.std.proofs.lemmas.Bool.Decides.{nat_tests}
use Rattle.std.proofs.lemmas.List.{drop_more, drop_all, length-drop}
use Rattle.word_loader_code.specs.declared.code.Code.{Code}
use Rattle.word_loader_code.specs.declared.code.Function.{Function}
use Rattle.word_loader_code.specs.declared.code.Instr.{Instr}
use Rattle.word_loader_format.specs.declared.rows.Header.{Header}
use Rattle.word_loader_format.specs.declared.table.Operand.{Operand}
use Rattle.word_loader_format.specs.Rows.{Site, checked, header_tests, operand_tests}
use Rattle.word_loader_format.specs.Reading.{header_of}
use Rattle.word_loader_format.proofs.Tests.{met_from_ok}
use Rattle.word_loader.specs.Validity.{code_headers_tests, code_parts_tests, code_instr_tests, code_body_tests, code_bodies_tests}
use Rattle.word_loader.proofs.Steps.{Cut, not_zero, last_is}

-- ---- operands

pub next_part : (site : Site) (ops : List Operand) (ns : List ℕ) (i : ℕ) (d : Operand)
    → i < length ops
    → i < length ns
    → Cut (code_parts_tests site (drop i ops) (drop i ns)) (operand_tests site 0 (get_or ops i d) (get_or ns i 0))
    (code_parts_tests site (drop (i + 1) ops) (drop (i + 1) ns))
unfolding code_parts_tests
next_part site ops ns i d h k =
    record {
      split =
          ap (λ os. code_parts_tests site os (drop i ns)) (drop_more ops i d h)
          ∙ ap (code_parts_tests site (get_or ops i d ∷ drop (i + 1) ops)) (drop_more ns i 0 k);
    }

pub no_parts : (site : Site) (ops : List Operand) (ns : List ℕ) (i : ℕ) → length ops ≤ i → checked (code_parts_tests site (drop i ops) (drop i ns)) ≡ Ok tt
unfolding code_parts_tests
no_parts site ops ns i h = ap (λ os. checked (code_parts_tests site os (drop i ns))) (drop_all i ops h)

-- ---- headers

pub next_function : (fs : List Function) (i : ℕ) (f : Function) (h : Header) (is_first : Bool) (before : ℕ)
    → i < length fs
    → f ≡ get_or fs i f
    → h ≡ header_of f
    → Cut (code_headers_tests is_first before (drop i fs)) (header_tests 0 is_first before h)
    (code_headers_tests (nat_eq (i + 1) 0) (before + h.count) (drop (i + 1) fs))
unfolding code_headers_tests
next_function fs i f h is_first before lt here header =
    let rest : List Function = drop (i + 1) fs in
    record {
      split = ap (code_headers_tests is_first before) (drop_more fs i f lt)
          ∙ ap (λ (g : Function). code_headers_tests is_first before (g ∷ rest)) (sym here)
          ∙ ap (λ b. header_tests 0 is_first before (header_of f) ++ code_headers_tests b (before + length f.body) rest) (not_zero i)
          ∙ ap (λ (k : Header). header_tests 0 is_first before k ++ code_headers_tests (nat_eq (i + 1) 0) (before + k.count) rest) (sym header);
    }

pub no_functions : (fs : List Function) (i : ℕ) (is_first : Bool) (before : ℕ)
    → length fs ≤ i
    → checked (code_headers_tests is_first before (drop i fs)) ≡ Ok tt
unfolding code_headers_tests
no_functions fs i is_first before h = ap (λ gs. checked (code_headers_tests is_first before gs)) (drop_all i fs h)

-- a header that passes leaves the sum of counts within its bound
pub few_after : (at before : ℕ) (is_first : Bool) (header : Header) → checked (header_tests at is_first before header) ≡ Ok tt → before + header.count ≤ 1000000
few_after at before is_first header e =
    let m = met_from_ok (header_tests at is_first before header) e in
    let both = and_parts _ _ m.1.1.1.1.0 in
    leb-true _ _ both.1

-- ---- bodies

pub next_instr : (code : Code) (f : Function) (is js : List Instr) (i : ℕ) (d : Instr)
    → js ≡ is
    → i < length js
    → Cut (code_body_tests code f (drop i is)) (code_instr_tests code f (nat_eq (i + 1) (length js)) (get_or js i d))
    (code_body_tests code f (drop (i + 1) is))
unfolding code_body_tests
next_instr code f is js i d same h =
    record {
      split = ap (λ ks. code_body_tests code f (drop i ks)) (sym same) ∙ ap (code_body_tests code f) (drop_more js i d h)
          ∙ ap (λ b. code_instr_tests code f b (get_or js i d) ++ code_body_tests code f (drop (i + 1) js))
          (ap (λ n. n == 0) (length-drop (i + 1) js) ∙ last_is (length js) i h)
          ∙ ap (λ ks. code_instr_tests code f (nat_eq (i + 1) (length js)) (get_or js i d) ++ code_body_tests code f (drop (i + 1) ks)) same;
    }

pub no_instrs : (code : Code) (f : Function) (is : List Instr) (i : ℕ) → length is ≤ i → checked (code_body_tests code f (drop i is)) ≡ Ok tt
unfolding code_body_tests
no_instrs code f is i h = ap (λ js. checked (code_body_tests code f js)) (drop_all i is h)

pub next_body : (code : Code) (fs : List Function) (i : ℕ) (f : Function)
    → i < length fs
    → f ≡ get_or fs i f
    → Cut (code_bodies_tests code (drop i fs)) (code_body_tests code f f.body) (code_bodies_tests code (drop (i + 1) fs))
unfolding code_bodies_tests
next_body code fs i f h here =
    record {
      split = ap (code_bodies_tests code) (drop_more fs i f h)
          ∙ ap (λ (g : Function). code_body_tests code g g.body ++ code_bodies_tests code (drop (i + 1) fs)) (sym here);
    }

pub no_bodies : (code : Code) (fs : List Function) (i : ℕ) → length fs ≤ i → checked (code_bodies_tests code (drop i fs)) ≡ Ok tt
unfolding code_bodies_tests
no_bodies code fs i h = ap (λ gs. checked (code_bodies_tests code gs)) (drop_all i fs h)
