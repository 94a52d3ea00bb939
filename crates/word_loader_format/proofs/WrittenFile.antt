-- A file that is the layout of valid code meets all its tests, and its fields say that code.
use Rattle.std.proofs.Common.{◌≡◌, ℕ, ◌+◌, ◌*◌, ◌≤◌, Bool, true, false, List, [], ◌∷◌, ◌++◌, length, map, refl, sym, ap, ◌∙◌, subst, arith, append-nil, ⊎_elim}
use Rattle.std.specs.Prelude.{sum_by, ◌==◌, ◌||◌, not, ◌⊎◌}
use Rattle.std.specs.List.{AllByRecursion, flat_map}
use Rattle.std.proofs.lemmas.Bool.{le-leb, eq-eqb, and_from, or_right, or_left}
use Rattle.std.proofs.lemmas.List.{length-append}
use Rattle.std.proofs.lemmas.List.Sums.{sum_by-cons}
use Rattle.std.proofs.lemmas.List.Elements.{recursion_from_All}
use Rattle.word_loader_code.specs.declared.code.Code.{Code}
use Rattle.word_loader_code.specs.declared.code.Function.{Function}
use Rattle.word_loader_code.specs.declared.code.Instr.{Instr}
use Rattle.word_loader_code.specs.Valid.{IsValidFunction, IsEntered, LastLeaves}
use Rattle.word_loader_format.specs.declared.rows.Header.{Header}
use Rattle.word_loader_format.specs.Numbers.{number_in_file}
use Rattle.word_loader_format.specs.Layout.{Field, FitsField, field_bytes, header_fields, body_fields, code_fields, code_bytes, Bytes}
use Rattle.word_loader_format.specs.Rows.{Test, is_there, bodies_tests, after_bodies, header_at, header_tests, headers_at, headers_tests, opening_tests}
use Rattle.word_loader_format.specs.Rows.{end_tests, file_tests}
use Rattle.word_loader_format.specs.Reading.{functions_at, header_of, code_in}
use Rattle.word_loader_format.proofs.Numbers.{length-little_endian}
use Rattle.word_loader_format.proofs.Fields.{Stand, width_sum, width_sum-append, stand_left, stand_right, written_stands}
use Rattle.word_loader_format.proofs.Tests.{AreMet, met_both}
use Rattle.word_loader_format.proofs.Written.{all_right, bodies_stand, bodies_met}

-- ---- headers

record HeaderIs (file : List ℕ) (at : ℕ) (f : Function) (rest : List Field) : Type 0 where
  header : header_at file at ≡ header_of f
  room : at + 10 ≤ length file
  others : Stand file (at + 10) rest

header_stands : (file : List ℕ) (at : ℕ) (f : Function) (rest : List Field) → Stand file at (header_fields f ++ rest) → HeaderIs file at f rest
header_stands file at f rest s =
    let at4 : at + 4 ≡ at + 2 + 2 = omega arith in
    let at6 : at + 6 ≡ at + 2 + 2 + 2 = omega arith in
    let end : at + 2 + 2 + 2 + 4 ≡ at + 10 = omega arith in
    let result : number_in_file file (at + 4) 2 ≡ f.result = ap (λ a. number_in_file file a 2) at4 ∙ s.1.1.1.1.1.0 in
    let count : number_in_file file (at + 6) 4 ≡ length f.body = ap (λ a. number_in_file file a 4) at6 ∙ s.1.1.1.1.1.1.1.0 in
    record {
      header = rw (s.1.0, s.1.1.1.0, result, count) refl;
      room = omega (arith, s.1.1.1.1.1.1.0);
      others = subst (λ (a : ℕ). Stand file a rest) end s.1.1.1.1.1.1.1.1;
    }

headers_stand : (file : List ℕ) (fs : List Function) (at : ℕ) → Stand file at (flat_map header_fields fs) → headers_at file at (length fs) ≡ map header_of fs
unfolding headers_at
headers_stand file [] at s = refl
headers_stand file (f ∷ fs) at s =
    let here = header_stands file at f (flat_map header_fields fs) s in
    ap (λ (h : Header). h ∷ headers_at file (at + 10) (length fs)) here.header ∙ ap (λ hs. header_of f ∷ hs) (headers_stand file fs (at + 10) here.others)

pub some_instr : (is : List Instr) → LastLeaves is → 1 ≤ length is
some_instr [] last = absurd last
some_instr (i ∷ is) last = omega arith

first_met : (is_first : Bool) (f : Function) → (is_first ≡ true → f.params ≡ 0) → (not is_first || f.params == 0) ≡ true
first_met true f h = eq-eqb f.params 0 (h refl)
first_met false f h = refl

headers_met : (code : Code) (file : List ℕ) (fs : List Function) (at : ℕ) (is_first : Bool) (before : ℕ)
    → AllByRecursion (IsValidFunction code) fs
    → (is_first ≡ true → IsEntered fs)
    → before + sum_by (λ (f : Function). length f.body) fs ≤ 1000000
    → Stand file at (flat_map header_fields fs)
    → AreMet (headers_tests file at is_first before (length fs))
unfolding headers_tests
headers_met code file [] at is_first before valid entered few s = tt
headers_met code file (f ∷ fs) at is_first before valid entered few s =
    let here = header_stands file at f (flat_map header_fields fs) s in
    let v = valid.0 in
    let sum = sum_by-cons (λ (g : Function). length g.body) f fs in
    let count : (before + length f.body) + sum_by (λ (g : Function). length g.body) fs ≤ 1000000 = omega (arith, sum, few) in
    let others = headers_met code file fs (at + 10) false (before + length f.body) valid.1 (λ e. absurd cc) count here.others in
    let tests : AreMet (header_tests at is_first before (header_of f)) = (
      le-leb _ _ v.locals,
      (
        le-leb _ _ v.params,
        (
          first_met is_first f (λ e. entered e),
          (le-leb _ _ v.result, (and_from _ _ (le-leb _ _ (some_instr f.body v.last)) (le-leb _ _ (omega (arith, count))), tt)),
        ),
      ),
    ) in
    let all : AreMet (is_there file at 10 ∷ header_tests at is_first before (header_of f) ++
    headers_tests file (at + 10) false (before + (header_of f).count) (length fs)) = (
      le-leb _ _ here.room,
      met_both (header_tests at is_first before (header_of f)) (headers_tests file (at + 10) false (before + length f.body) (length fs))
          tests others,
    ) in
    subst (λ (h : Header).
    AreMet (is_there file at 10 ∷ header_tests at is_first before h ++ headers_tests file (at + 10) false (before + h.count) (length fs)))
    (sym here.header) all

width_sum-headers : (fs : List Function) → width_sum (flat_map header_fields fs) ≡ 10 * length fs
width_sum-headers [] = refl
width_sum-headers (f ∷ fs) = omega (arith, width_sum-headers fs)

pub length-fields : (fs : List Field) → length (flat_map field_bytes fs) ≡ width_sum fs
length-fields [] = refl
length-fields (f ∷ fs) = omega (arith, length-append (field_bytes f) (flat_map field_bytes fs), length-little_endian f.width f.value, length-fields fs)

-- ---- the file

-- the tests of a file whose fields say this count, version and headers, with the first instruction there
abbrev tests_by_fields : List ℕ → ℕ → ℕ → List Header → ℕ → List Test
tests_by_fields file count version headers first =
    opening_tests file ++ headers_tests file 9 true 0 count ++ bodies_tests file version headers first headers
    ++ end_tests file (after_bodies file version first headers)

pub record Written (file : List ℕ) (code : Code) : Type 0 where
  pub met : AreMet (file_tests file)
  pub says : code_in file ≡ code

pub some_function : (fs : List Function) → IsEntered fs → 1 ≤ length fs
some_function [] e = absurd e
some_function (f ∷ fs) e = omega arith

pub version_met : (version : ℕ) → (version ≡ 1) ⊎ (version ≡ 2) → (version == 1 || version == 2) ≡ true
version_met version h =
    ⊎_elim (λ e. or_left (version == 1) (version == 2) (eq-eqb version 1 e))
    (λ e. or_right (version == 1) (version == 2) (eq-eqb version 2 e)) h

pub written : (file : List ℕ) (code : Code) → Bytes file code → Written file code
unfolding file_tests
written file code b =
    let fs : List Function = code.functions in
    let hf : List Field = flat_map header_fields fs in
    let bf : List Field = flat_map body_fields fs in
    let valid = recursion_from_All (IsValidFunction code) fs b.valid.functions in
    let within = recursion_from_All FitsField (code_fields code) b.within in
    let stand : Stand file 0 (code_fields code) =
    written_stands file 0 (code_fields code) [] (omega arith) (b.layout ∙ sym (append-nil (code_bytes code))) within in
    let count : number_in_file file 5 4 ≡ length fs = stand.1.1.1.1.1.0 in
    let version : number_in_file file 4 1 ≡ code.version = stand.1.1.1.0 in
    let rest : Stand file 9 (hf ++ bf) = stand.1.1.1.1.1.1 in
    let sizes : length file ≡ 9 + width_sum (hf ++ bf) = ap length b.layout ∙ length-fields (code_fields code) ∙ omega arith in
    let split = width_sum-append hf bf in
    let heads : Stand file 9 hf = stand_left file 9 hf bf rest in
    let first : 9 + 10 * length fs ≡ 9 + width_sum hf = omega (arith, width_sum-headers fs) in
    let tails : Stand file (9 + 10 * length fs) bf = subst (λ (a : ℕ). Stand file a bf) (sym first) (stand_right file 9 hf bf rest) in
    let room : 9 + 10 * length fs ≤ length file = omega (arith, first, sizes, split) in
    let within_bodies = all_right FitsField hf bf within.1.1.1 in
    let headers : headers_at file 9 (length fs) ≡ map header_of fs = headers_stand file fs 9 heads in
    let bodies = bodies_stand code file fs (9 + 10 * length fs) valid within_bodies tails in
    let opening : AreMet (opening_tests file) = (
      le-leb _ _ stand.0,
      (
        eq-eqb _ _ stand.1.0,
        (
          le-leb _ _ stand.1.1.0,
          (
            subst (λ (v : ℕ). (v == 1 || v == 2) ≡ true) (sym version) (version_met code.version b.valid.version),
            (
              le-leb _ _ stand.1.1.1.1.0,
              (rw count (and_from _ _ (le-leb _ _ (some_function fs b.valid.entered)) (le-leb _ _ b.valid.count)), tt),
            ),
          ),
        ),
      ),
    ) in
    let head_tests = headers_met code file fs 9 true 0 valid (λ _. b.valid.entered) (omega (arith, b.valid.instrs)) heads in
    let body_tests = bodies_met code file fs (9 + 10 * length fs) room valid within_bodies tails in
    let ended : AreMet (end_tests file (after_bodies file code.version (9 + 10 * length fs) (map header_of fs))) =
    (eq-eqb _ _ (bodies.after ∙ omega (arith, first, sizes, split)), tt) in
    let all : AreMet (tests_by_fields file (length fs) code.version (map header_of fs) (9 + 10 * length fs)) =
    met_both (opening_tests file ++ headers_tests file 9 true 0 (length fs) ++
    bodies_tests file code.version (map header_of fs) (9 + 10 * length fs) (map header_of fs))
    (end_tests file (after_bodies file code.version (9 + 10 * length fs) (map header_of fs)))
    (met_both (opening_tests file ++ headers_tests file 9 true 0 (length fs))
    (bodies_tests file code.version (map header_of fs) (9 + 10 * length fs) (map header_of fs))
    (met_both (opening_tests file) (headers_tests file 9 true 0 (length fs)) opening head_tests) body_tests)
    ended in
    let heads_said : headers_at file 9 (number_in_file file 5 4) ≡ map header_of fs = ap (headers_at file 9) count ∙ headers in
    let first_said : 9 + 10 * number_in_file file 5 4 ≡ 9 + 10 * length fs = ap (λ n. 9 + 10 * n) count in
    record {
      met =
          subst (λ (n : ℕ).
          AreMet (tests_by_fields file n (number_in_file file 4 1) (headers_at file 9 (number_in_file file 5 4))
          (9 + 10 * number_in_file file 5 4))) (sym count)
          (subst (λ (v : ℕ).
          AreMet (tests_by_fields file (length fs) v (headers_at file 9 (number_in_file file 5 4)) (9 + 10 * number_in_file file 5 4)))
          (sym version)
          (subst (λ (hs : List Header). AreMet (tests_by_fields file (length fs) code.version hs (9 + 10 * number_in_file file 5 4))) (sym heads_said)
          (subst (λ (a : ℕ). AreMet (tests_by_fields file (length fs) code.version (map header_of fs) a)) (sym first_said) all)));
      says =
          ap (λ (v : ℕ). record {
            version = v;
            functions = functions_at file v (9 + 10 * number_in_file file 5 4) (headers_at file 9 (number_in_file file 5 4));
          }) version
          ∙ ap (λ (hs : List Header).
          record { version = code.version; functions = functions_at file code.version (9 + 10 * number_in_file file 5 4) hs }) heads_said
          ∙ ap (λ (a : ℕ). record { version = code.version; functions = functions_at file code.version a (map header_of fs) }) first_said
          ∙ ap (λ (gs : List Function). record { version = code.version; functions = gs }) bodies.functions;
    }
