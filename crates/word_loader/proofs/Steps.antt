-- The tests of a part and of what is left: the first that isn't met, and one more step of a loop.
use Rattle.std.proofs.Common.{◌≡◌, ℕ, suc, ◌+◌, ◌-◌, ◌<◌, ◌≤◌, Bool, false, List, [], ◌∷◌, ◌++◌, length, get_or, drop, Ok, Err, sym, ap, ◌∙◌, arith, append-nil}
use Rattle.std.proofs.Common.{append_assoc}
use Rattle.std.specs.Prelude.{nat_eq, ◌==◌}
use Rattle.std.proofs.lemmas.Bool.{ne_eqb}
use Rattle.std.proofs.lemmas.Bool.Decides.{nat_tests}
use Rattle.std.proofs.lemmas.List.{drop_more, drop_all}
use Rattle.word_loader_format.specs.declared.rows.Fault.{Fault}
use Rattle.word_loader_format.specs.declared.rows.Header.{Header}
use Rattle.word_loader_format.specs.declared.table.Operand.{Operand}
use Rattle.word_loader_format.specs.Numbers.{number_in_file}
use Rattle.word_loader_format.specs.Table.{width_of}
use Rattle.word_loader_format.specs.Rows.{Site, Test, checked, is_there, operand_tests, operands_tests, width_all, header_tests, header_at, headers_at}
use Rattle.word_loader_format.specs.Rows.{headers_tests, instr_tests, after_instr, body_tests, after_body, bodies_tests, after_bodies}
use Rattle.word_loader_format.specs.Reading.{instr_in, body_in, function_at, functions_at}
use Rattle.word_loader_format.proofs.Tests.{checked_after, checked_before}
use Rattle.word_loader.specs.declared.loader.LoadStop.{LoadStop}
use Rattle.word_loader.specs.declared.loader.LoadStop.TheVariants.{Bad, NoMemory}
use Rattle.word_loader.specs.Loads.{Loads}

-- ---- a part of all tests

-- all tests are decided by those that are left
pub record IsDecidedBy (all left : List Test) : Type 0 where
  pub same : checked all ≡ checked left

-- what is left is a part and the rest
pub record Cut (left part rest : List Test) : Type 0 where
  pub split : left ≡ part ++ rest

pub passed : {all left part rest : List Test} → IsDecidedBy all left → Cut left part rest → checked part ≡ Ok tt → IsDecidedBy all rest
passed {part = part} {rest = rest} decided cut ok = record { same = decided.same ∙ ap checked cut.split ∙ checked_after part rest ok }

pub failed : {all left part rest : List Test} (f : Fault) → IsDecidedBy all left → Cut left part rest → checked part ≡ Err f → checked all ≡ Err f
failed {part = part} {rest = rest} f decided cut bad = decided.same ∙ ap checked cut.split ∙ checked_before part rest f bad

-- a part that stops loading stops the whole
pub stopped : {X Y : Type 0} (V : X → Type 0) (W : Y → Type 0) {all left part rest : List Test} (stop : LoadStop)
    → IsDecidedBy all left
    → Cut left part rest
    → Loads (Err stop) part V
    → Loads (Err stop) all W
stopped V W (Bad at row) decided cut bad = failed (record { at = at; row = row }) decided cut bad
stopped V W NoMemory decided cut bad = tt

-- ---- operands

abbrev pub operand_part : List ℕ → Site → ℕ → Operand → List Test
operand_part file site at op = is_there file at (width_of op) ∷ operand_tests site at op (number_in_file file at (width_of op))

pub next_operand : (file : List ℕ) (site : Site) (at : ℕ) (ops : List Operand) (i : ℕ) (d : Operand)
    → i < length ops
    → Cut (operands_tests file site at (drop i ops)) (operand_part file site at (get_or ops i d))
    (operands_tests file site (at + width_of (get_or ops i d)) (drop (i + 1) ops))
unfolding operands_tests
next_operand file site at ops i d h = record { split = ap (operands_tests file site at) (drop_more ops i d h) }

pub width_more : (ops : List Operand) (i : ℕ) (d : Operand) → i < length ops → width_all (drop i ops) ≡ width_of (get_or ops i d) + width_all (drop (i + 1) ops)
width_more ops i d h = ap width_all (drop_more ops i d h)

pub width_none : (ops : List Operand) (i : ℕ) → length ops ≤ i → width_all (drop i ops) ≡ 0
width_none ops i h = ap width_all (drop_all i ops h)

pub no_operands : (file : List ℕ) (site : Site) (at : ℕ) (ops : List Operand) (i : ℕ)
    → length ops ≤ i
    → checked (operands_tests file site at (drop i ops)) ≡ Ok tt
unfolding operands_tests
no_operands file site at ops i h = ap (λ os. checked (operands_tests file site at os)) (drop_all i ops h)

-- ---- headers

abbrev pub header_part : List ℕ → ℕ → Bool → ℕ → List Test
header_part file at is_first before = is_there file at 10 ∷ header_tests at is_first before (header_at file at)

pub not_zero : (i : ℕ) → false ≡ nat_eq (i + 1) 0
not_zero i = sym (ne_eqb (i + 1) 0 (λ e. absurd (omega (arith, e))))

pub next_header : (file : List ℕ) (at : ℕ) (is_first : Bool) (before n i : ℕ)
    → i < n
    → Cut (headers_tests file at is_first before (n - i)) (header_part file at is_first before)
    (headers_tests file (at + 10) (nat_eq (i + 1) 0) (before + (header_at file at).count) (n - (i + 1)))
unfolding headers_tests
next_header file at is_first before n i h =
    let e : n - i ≡ suc (n - (i + 1)) = omega (arith, h) in
    record {
      split = ap (headers_tests file at is_first before) e
          ∙ ap (λ b. header_part file at is_first before ++ headers_tests file (at + 10) b (before + (header_at file at).count) (n - (i + 1))) (not_zero i);
    }

pub header_more : (file : List ℕ) (at n i : ℕ) → i < n → headers_at file at (n - i) ≡ header_at file at ∷ headers_at file (at + 10) (n - (i + 1))
unfolding headers_at
header_more file at n i h = let e : n - i ≡ suc (n - (i + 1)) = omega (arith, h) in ap (headers_at file at) e

pub no_headers : (file : List ℕ) (at : ℕ) (is_first : Bool) (before n : ℕ) → n ≡ 0 → checked (headers_tests file at is_first before n) ≡ Ok tt
unfolding headers_tests
no_headers file at is_first before n e = ap (λ k. checked (headers_tests file at is_first before k)) e

pub header_none : (file : List ℕ) (at n : ℕ) → n ≡ 0 → headers_at file at n ≡ []
unfolding headers_at
header_none file at n e = ap (headers_at file at) e

-- ---- bodies

pub last_is : (n i : ℕ) → i < n → (n - (i + 1) == 0) ≡ nat_eq (i + 1) n
last_is n i h = grind (arith, nat_tests)

pub next_instr : (file : List ℕ) (version : ℕ) (headers : List Header) (own : Header) (at n i : ℕ)
    → i < n
    → Cut (body_tests file version headers own at (n - i)) (instr_tests file version headers own (nat_eq (i + 1) n) at)
    (body_tests file version headers own (after_instr file version at) (n - (i + 1)))
unfolding body_tests
next_instr file version headers own at n i h =
    let e : n - i ≡ suc (n - (i + 1)) = omega (arith, h) in
    record {
      split = ap (body_tests file version headers own at) e
          ∙ ap (λ b.
          instr_tests file version headers own b at ++ body_tests file version headers own (after_instr file version at) (n - (i + 1)))
          (last_is n i h);
    }

pub instr_more : (file : List ℕ) (version at n i : ℕ)
    → i < n
    → body_in file version at (n - i) ≡ instr_in file version at ∷ body_in file version (after_instr file version at) (n - (i + 1))
unfolding body_in
instr_more file version at n i h = let e : n - i ≡ suc (n - (i + 1)) = omega (arith, h) in ap (body_in file version at) e

pub after_more : (file : List ℕ) (version at n i : ℕ)
    → i < n
    → after_body file version at (n - i) ≡ after_body file version (after_instr file version at) (n - (i + 1))
unfolding after_body
after_more file version at n i h = let e : n - i ≡ suc (n - (i + 1)) = omega (arith, h) in ap (after_body file version at) e

pub no_instrs : (file : List ℕ) (version : ℕ) (headers : List Header) (own : Header) (at n : ℕ)
    → n ≡ 0
    → checked (body_tests file version headers own at n) ≡ Ok tt
unfolding body_tests
no_instrs file version headers own at n e = ap (λ k. checked (body_tests file version headers own at k)) e

pub instr_none : (file : List ℕ) (version at n : ℕ) → n ≡ 0 → body_in file version at n ≡ []
unfolding body_in
instr_none file version at n e = ap (body_in file version at) e

pub after_none : (file : List ℕ) (version at n : ℕ) → n ≡ 0 → after_body file version at n ≡ at
unfolding after_body
after_none file version at n e = ap (after_body file version at) e

-- ---- functions

pub next_body : (file : List ℕ) (version : ℕ) (headers : List Header) (at : ℕ) (hs : List Header) (i : ℕ) (d : Header)
    → i < length hs
    → Cut (bodies_tests file version headers at (drop i hs)) (body_tests file version headers (get_or hs i d) at (get_or hs i d).count)
    (bodies_tests file version headers (after_body file version at (get_or hs i d).count) (drop (i + 1) hs))
unfolding bodies_tests
next_body file version headers at hs i d h = record { split = ap (bodies_tests file version headers at) (drop_more hs i d h) }

pub function_more : (file : List ℕ) (version at : ℕ) (hs : List Header) (i : ℕ) (d : Header)
    → i < length hs
    → functions_at file version at (drop i hs)
    ≡ function_at file version at (get_or hs i d) ∷
    functions_at file version (after_body file version at (get_or hs i d).count) (drop (i + 1) hs)
unfolding functions_at
function_more file version at hs i d h = ap (functions_at file version at) (drop_more hs i d h)

pub after_function : (file : List ℕ) (version at : ℕ) (hs : List Header) (i : ℕ) (d : Header)
    → i < length hs
    → after_bodies file version at (drop i hs)
    ≡ after_bodies file version (after_body file version at (get_or hs i d).count) (drop (i + 1) hs)
unfolding after_bodies
after_function file version at hs i d h = ap (after_bodies file version at) (drop_more hs i d h)

pub no_bodies : (file : List ℕ) (version : ℕ) (headers : List Header) (at : ℕ) (hs : List Header) (i : ℕ)
    → length hs ≤ i
    → checked (bodies_tests file version headers at (drop i hs)) ≡ Ok tt
unfolding bodies_tests
no_bodies file version headers at hs i h = ap (λ gs. checked (bodies_tests file version headers at gs)) (drop_all i hs h)

pub function_none : (file : List ℕ) (version at : ℕ) (hs : List Header) (i : ℕ) → length hs ≤ i → functions_at file version at (drop i hs) ≡ []
unfolding functions_at
function_none file version at hs i h = ap (functions_at file version at) (drop_all i hs h)

pub after_last : (file : List ℕ) (version at : ℕ) (hs : List Header) (i : ℕ) → length hs ≤ i → after_bodies file version at (drop i hs) ≡ at
unfolding after_bodies
after_last file version at hs i h = ap (after_bodies file version at) (drop_all i hs h)

-- ---- items so far, and those that are left

pub one_more : {X : Type 0} (out new all : List X) (x : X) (left rest : List X) → out ++ left ≡ all → left ≡ x ∷ rest → new ≡ out ++ x ∷ [] → new ++ rest ≡ all
one_more out new all x left rest e split push =
    ap (λ t. t ++ rest) push ∙ append_assoc out (x ∷ []) rest ∙ ap (λ t. out ++ t) (sym split) ∙ e

pub none_left : {X : Type 0} (out all left : List X) → out ++ left ≡ all → left ≡ [] → out ≡ all
none_left out all left e empty = sym (append-nil out) ∙ ap (λ t. out ++ t) (sym empty) ∙ e
