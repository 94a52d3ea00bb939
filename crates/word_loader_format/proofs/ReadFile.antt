-- A file that meets all its tests is the layout of the code that its fields say, and that code is valid.
use Rattle.std.proofs.Common.{◌≡◌, ℕ, zero, suc, ◌+◌, ◌*◌, ◌^◌, ◌<◌, ◌≤◌, Bool, true, false, List, [], ◌∷◌, ◌++◌, length, map, refl, sym, ap, ◌∙◌, subst, arith}
use Rattle.std.proofs.Common.{inl, inr}
use Rattle.std.specs.Prelude.{sum_by, nat_le, ◌==◌, ◌||◌, not, ◌⊎◌}
use Rattle.std.specs.List.{AllByRecursion, flat_map}
use Rattle.std.proofs.lemmas.Bool.{leb-true, eqb-true, and_parts, or_cases}
use Rattle.std.proofs.lemmas.List.{take_all}
use Rattle.std.proofs.lemmas.List.Sums.{sum_by-cons}
use Rattle.std.proofs.lemmas.List.Elements.{All-from_recursion}
use Rattle.word_loader_code.specs.declared.code.Code.{Code}
use Rattle.word_loader_code.specs.declared.code.Function.{Function}
use Rattle.word_loader_code.specs.Valid.{IsValidFunction, IsEntered}
use Rattle.word_loader_format.specs.declared.rows.Header.{Header}
use Rattle.word_loader_format.specs.Numbers.{number_in_file}
use Rattle.word_loader_format.specs.Layout.{Field, field, FitsField, header_fields, body_fields, code_fields, Bytes}
use Rattle.word_loader_format.specs.Rows.{Test, bodies_tests, after_bodies, after_body, header_at, header_tests, headers_at, headers_tests, opening_tests}
use Rattle.word_loader_format.specs.Rows.{end_tests, file_tests}
use Rattle.word_loader_format.specs.Reading.{function_at, functions_at, header_of, code_in}
use Rattle.word_loader_format.specs.Laws.{AreBytes}
use Rattle.word_loader_format.proofs.Numbers.{number_at-below}
use Rattle.word_loader_format.proofs.Fields.{Stand, width_sum, width_sum-append, stand_both, standing_is_written}
use Rattle.word_loader_format.proofs.Tests.{AreMet, met_left, met_right}
use Rattle.word_loader_format.proofs.Read.{IsGood, bodies_read, header_of-function_at, header_of-functions_at, length-body_at}

-- ---- headers

abbrev fields_of : Header → List Field
fields_of h = field 2 h.params ∷ field 2 h.locals ∷ field 2 h.result ∷ field 4 h.count ∷ []

header_fields-functions_at : (file : List ℕ) (version at : ℕ) (hs : List Header)
    → flat_map header_fields (functions_at file version at hs) ≡ flat_map fields_of hs
unfolding functions_at
header_fields-functions_at file version at [] = refl
header_fields-functions_at file version at (h ∷ hs) =
    ap (λ (g : Header). fields_of g ++ flat_map header_fields (functions_at file version (after_body file version at h.count) hs))
    (header_of-function_at file version at h)
    ∙ ap (λ gs. fields_of h ++ gs) (header_fields-functions_at file version (after_body file version at h.count) hs)

abbrev counts : List Header → ℕ
counts [] = 0
counts (h ∷ hs) = h.count + counts hs

sum_by-functions_at : (file : List ℕ) (version at : ℕ) (hs : List Header)
    → sum_by (λ (f : Function). length f.body) (functions_at file version at hs) ≡ counts hs
unfolding functions_at
sum_by-functions_at file version at [] = refl
sum_by-functions_at file version at (h ∷ hs) =
    let next : ℕ = after_body file version at h.count in
    sum_by-cons (λ (f : Function). length f.body) (function_at file version at h) (functions_at file version next hs)
    ∙ ap (λ n. n + sum_by (λ (f : Function). length f.body) (functions_at file version next hs)) (length-body_at file version at h.count)
    ∙ ap (λ n. h.count + n) (sum_by-functions_at file version next hs)

-- the first header has no parameters
abbrev IsBare : List Header → Type 0
IsBare [] = ⊥
IsBare (h ∷ hs) = h.params ≡ 0

entered_from : (file : List ℕ) (version at : ℕ) (hs : List Header) → IsBare hs → IsEntered (functions_at file version at hs)
unfolding functions_at
entered_from file version at [] b = absurd b
entered_from file version at (h ∷ hs) b = b

record HeadersAre (file : List ℕ) (at : ℕ) (is_first : Bool) (before n : ℕ) (hs : List Header) : Type 0 where
  stands : Stand file at (flat_map fields_of hs)
  good : AllByRecursion IsGood hs
  few : before + counts hs ≤ 1000000
  bare : is_first ≡ true → 1 ≤ n → IsBare hs
  size : length hs ≡ n
  width : width_sum (flat_map fields_of hs) ≡ 10 * n

header_stands : (file : List ℕ) (at : ℕ) (rest : List Field)
    → at + 10 ≤ length file
    → Stand file (at + 10) rest
    → Stand file at (fields_of (header_at file at) ++ rest)
header_stands file at rest room s =
    let at4 : at + 4 ≡ at + 2 + 2 = omega arith in
    let at6 : at + 6 ≡ at + 2 + 2 + 2 = omega arith in
    let end : at + 10 ≡ at + 2 + 2 + 2 + 4 = omega arith in
    let result : number_in_file file (at + 2 + 2) 2 ≡ number_in_file file (at + 4) 2 = ap (λ a. number_in_file file a 2) (sym at4) in
    let count : number_in_file file (at + 2 + 2 + 2) 4 ≡ number_in_file file (at + 6) 4 = ap (λ a. number_in_file file a 4) (sym at6) in (
      omega (arith, room),
      (
        refl,
        (
          omega (arith, room),
          (refl, (omega (arith, room), (result, (omega (arith, room), (count, subst (λ (a : ℕ). Stand file a rest) end s))))),
        ),
      ),
    )

bare_from : (is_first : Bool) (n : ℕ) → (not is_first || n == 0) ≡ true → is_first ≡ true → n ≡ 0
bare_from true n m e = eqb-true n 0 m
bare_from false n m e = absurd cc

headers_read : (file : List ℕ) (n at : ℕ) (is_first : Bool) (before : ℕ)
    → before ≤ 1000000
    → AreMet (headers_tests file at is_first before n)
    → HeadersAre file at is_first before n (headers_at file at n)
unfolding headers_tests headers_at
headers_read file zero at is_first before few m =
    record { stands = tt; good = tt; few = omega (arith, few); bare = λ e h. absurd (omega (arith, h)); size = refl; width = omega arith }
headers_read file (suc n) at is_first before few m =
    let h : Header = header_at file at in
    let hs : List Header = headers_at file (at + 10) n in
    let here : AreMet (header_tests at is_first before h) =
    met_left (header_tests at is_first before h) (headers_tests file (at + 10) false (before + h.count) n) m.1 in
    let sums = and_parts _ _ here.1.1.1.1.0 in
    let few_here : before + h.count ≤ 1000000 = leb-true _ _ sums.1 in
    let others : HeadersAre file (at + 10) false (before + h.count) n hs =
    headers_read file n (at + 10) false (before + h.count) few_here
    (met_right (header_tests at is_first before h) (headers_tests file (at + 10) false (before + h.count) n) m.1) in
    record {
      stands = header_stands file at (flat_map fields_of hs) (leb-true _ _ m.0) others.stands;
      good = (
        record {
          locals = leb-true _ _ here.0;
          params = leb-true _ _ here.1.0;
          result = leb-true _ _ here.1.1.1.0;
          some = leb-true _ _ sums.0;
        },
        others.good,
      );
      few = omega (arith, others.few);
      bare = λ e _. bare_from is_first h.params here.1.1.0 e;
      size = ap suc others.size;
      width = omega (arith, others.width);
    }

-- ---- the file

all_within : (file : List ℕ) (at : ℕ) (fs : List Field) → AreBytes file → Stand file at fs → AllByRecursion FitsField fs
all_within file at [] bytes s = tt
all_within file at (f ∷ fs) bytes s =
    (subst (λ (n : ℕ). n < 256 ^ f.width) s.1.0 (number_at-below file at f.width bytes), all_within file (at + f.width) fs bytes s.1.1)

pub version_from : (version : ℕ) → (version == 1 || version == 2) ≡ true → (version ≡ 1) ⊎ (version ≡ 2)
version_from version m =
    elim (or_cases (version == 1) (version == 2) m) [
      | inl e ↦ inl (eqb-true version 1 e)
      | inr e ↦ inr (eqb-true version 2 e)
    ]

length-functions_at : (file : List ℕ) (version at : ℕ) (hs : List Header) → length (functions_at file version at hs) ≡ length hs
unfolding functions_at
length-functions_at file version at [] = refl
length-functions_at file version at (h ∷ hs) = ap suc (length-functions_at file version (after_body file version at h.count) hs)

pub read : (file : List ℕ) → AreBytes file → AreMet (file_tests file) → Bytes file (code_in file)
unfolding file_tests
read file bytes m =
    let count : ℕ = number_in_file file 5 4 in
    let version : ℕ = number_in_file file 4 1 in
    let first : ℕ = 9 + 10 * count in
    let hs : List Header = headers_at file 9 count in
    let code : Code = code_in file in
    let fs : List Function = functions_at file version first hs in
    let heads : List Test = headers_tests file 9 true 0 count in
    let bodies : List Test = bodies_tests file version hs first hs in
    let ends : List Test = end_tests file (after_bodies file version first hs) in
    let front : AreMet (opening_tests file ++ heads ++ bodies) = met_left (opening_tests file ++ heads ++ bodies) ends m in
    let ended : AreMet ends = met_right (opening_tests file ++ heads ++ bodies) ends m in
    let opened : AreMet (opening_tests file ++ heads) = met_left (opening_tests file ++ heads) bodies front in
    let o : AreMet (opening_tests file) = met_left (opening_tests file) heads opened in
    let head : HeadersAre file 9 true 0 count hs = headers_read file count 9 true 0 (omega arith) (met_right (opening_tests file) heads opened) in
    let same : map header_of fs ≡ hs = header_of-functions_at file version first hs in
    let body =
    bodies_read code file bytes hs first head.good
    (subst (λ (gs : List Header). AreMet (bodies_tests file version gs first hs)) (sym same)
    (met_right (opening_tests file ++ heads) bodies front)) in
    let hf : List Field = flat_map header_fields fs in
    let bf : List Field = flat_map body_fields fs in
    let hf-is : hf ≡ flat_map fields_of hs = header_fields-functions_at file version first hs in
    let width : width_sum hf ≡ 10 * count = ap width_sum hf-is ∙ head.width in
    let heads_stand : Stand file 9 hf = subst (λ (t : List Field). Stand file 9 t) (sym hf-is) head.stands in
    let there : first ≡ 9 + width_sum hf = omega (arith, width) in
    let rest : Stand file 9 (hf ++ bf) = stand_both file 9 hf bf heads_stand (subst (λ (a : ℕ). Stand file a bf) there body.stands) in
    let size : count ≡ length fs = sym head.size ∙ sym (length-functions_at file version first hs) in
    let counted = and_parts (nat_le 1 count) (nat_le count 4096) o.1.1.1.1.1.0 in
    let stand : Stand file 0 (code_fields code) =
    (leb-true _ _ o.0, (eqb-true _ _ o.1.0, (leb-true _ _ o.1.1.0, (refl, (leb-true _ _ o.1.1.1.1.0, (size, rest)))))) in
    let end : first + width_sum bf ≡ length file = sym body.after ∙ eqb-true _ _ ended.0 in
    let whole : width_sum (code_fields code) ≡ length file = omega (arith, end, there, width_sum-append hf bf) in
    record {
      valid = record {
        version = version_from version o.1.1.1.0;
        entered = entered_from file version first hs (head.bare refl (leb-true _ _ counted.0));
        count = subst (λ (n : ℕ). n ≤ 4096) size (leb-true _ _ counted.1);
        instrs = subst (λ (n : ℕ). n ≤ 1000000) (sym (sum_by-functions_at file version first hs)) (omega (arith, head.few));
        functions = All-from_recursion (IsValidFunction code) fs body.valid;
      };
      within = All-from_recursion FitsField (code_fields code) (all_within file 0 (code_fields code) bytes stand);
      layout = sym (take_all (width_sum (code_fields code)) file (omega (arith, whole))) ∙ standing_is_written file 0 (code_fields code) bytes stand;
    }
