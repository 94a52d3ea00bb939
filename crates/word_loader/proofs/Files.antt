-- The tests of a file, one part after the other, and what loading answers.
use Rattle.std.proofs.Common.{◌≡◌, ℕ, ◌+◌, ◌*◌, true, List, [], ◌++◌, Result, Ok, Err, refl, sym, ap, ◌∙◌, subst, append_assoc, IfOk, MatchResult}
use Rattle.word_loader_code.specs.declared.code.Code.{Code}
use Rattle.word_loader_format.specs.declared.rows.Header.{Header}
use Rattle.word_loader_format.specs.Numbers.{number_in_file}
use Rattle.word_loader_format.specs.Layout.{Bytes}
use Rattle.word_loader_format.specs.Rows.{Test, opening_tests, headers_tests, headers_at, bodies_tests, after_bodies, end_tests, file_tests, version_of}
use Rattle.word_loader_format.specs.Rows.{headers_of, first_body}
use Rattle.word_loader_format.specs.Reading.{functions_at, code_in}
use Rattle.word_loader_format.specs.Laws.{AreBytes}
use Rattle.word_loader_format.proofs.Tests.{met_from_ok}
use Rattle.word_loader_format.proofs.WrittenFile.{written}
use Rattle.word_loader_format.proofs.ReadFile.{read}
use Rattle.word_loader_format.proofs.LawProofs.{coded_isnt_refused_lem}
use Rattle.word_loader.specs.declared.loader.LoadStop.{LoadStop}
use Rattle.word_loader.specs.declared.loader.LoadStop.TheVariants.{Bad, NoMemory}
use Rattle.word_loader.specs.Loads.{Loads}
use Rattle.word_loader.proofs.Steps.{Cut}

unfoldable pub last_tests : List ℕ → List Test
last_tests file = end_tests file (after_bodies file (version_of file) (first_body file) (headers_of file))

unfoldable pub body_tests_on : List ℕ → List Test
body_tests_on file = bodies_tests file (version_of file) (headers_of file) (first_body file) (headers_of file) ++ last_tests file

unfoldable pub header_tests_on : List ℕ → List Test
header_tests_on file = headers_tests file 9 true 0 (number_in_file file 5 4) ++ body_tests_on file

pub opening_cut : (file : List ℕ) → Cut (file_tests file) (opening_tests file) (header_tests_on file)
unfolding file_tests last_tests body_tests_on header_tests_on
opening_cut file =
    let heads : List Test = headers_tests file 9 true 0 (number_in_file file 5 4) in
    let bodies : List Test = bodies_tests file (version_of file) (headers_of file) (first_body file) (headers_of file) in
    let ends : List Test = end_tests file (after_bodies file (version_of file) (first_body file) (headers_of file)) in
    record { split = append_assoc (opening_tests file ++ heads) bodies ends ∙ append_assoc (opening_tests file) heads (bodies ++ ends) }

pub headers_cut : (file : List ℕ) (count : ℕ)
    → count ≡ number_in_file file 5 4
    → Cut (header_tests_on file) (headers_tests file 9 true 0 count) (body_tests_on file)
unfolding header_tests_on
headers_cut file count e = record { split = ap (λ n. headers_tests file 9 true 0 n ++ body_tests_on file) (sym e) }

-- what the fields that were read say
pub record IsOpened (file : List ℕ) (count version first : ℕ) (hs : List Header) : Type 0 where
  pub count_is : count ≡ number_in_file file 5 4
  pub version_is : version ≡ number_in_file file 4 1
  pub first_is : first ≡ 9 + 10 * count
  pub headers_are : hs ≡ headers_at file 9 count

there : {file : List ℕ} {count version first : ℕ} {hs : List Header} → IsOpened file count version first hs → first ≡ first_body file
there o = o.first_is ∙ ap (λ n. 9 + 10 * n) o.count_is

these : {file : List ℕ} {count version first : ℕ} {hs : List Header} → IsOpened file count version first hs → hs ≡ headers_of file
these {file = file} o = o.headers_are ∙ ap (headers_at file 9) o.count_is

pub bodies_cut : {file : List ℕ} {count version first : ℕ} {hs : List Header}
    → IsOpened file count version first hs
    → Cut (body_tests_on file) (bodies_tests file version hs first hs) (last_tests file)
unfolding body_tests_on
bodies_cut {file = file} {version = version} {first = first} {hs = hs} o =
    record {
      split = ap (λ v. bodies_tests file v (headers_of file) (first_body file) (headers_of file) ++ last_tests file) (sym o.version_is)
          ∙ ap (λ gs. bodies_tests file version gs (first_body file) gs ++ last_tests file) (sym (these o))
          ∙ ap (λ a. bodies_tests file version hs a hs ++ last_tests file) (sym (there o));
    }

pub end_cut : {file : List ℕ} {count version first : ℕ} {hs : List Header} (end : ℕ)
    → IsOpened file count version first hs
    → end ≡ after_bodies file version first hs
    → Cut (last_tests file) (end_tests file end) []
unfolding last_tests
end_cut {file = file} {version = version} {first = first} {hs = hs} end o e =
    record {
      split = ap (λ v. end_tests file (after_bodies file v (first_body file) (headers_of file))) (sym o.version_is)
          ∙ ap (λ gs. end_tests file (after_bodies file version (first_body file) gs)) (sym (these o))
          ∙ ap (λ a. end_tests file (after_bodies file version a hs)) (sym (there o)) ∙ ap (end_tests file) (sym e);
    }

pub code_is : {file : List ℕ} {count version first : ℕ} {hs : List Header}
    → IsOpened file count version first hs
    → ◌≡◌ {A = Code} (record { version = version; functions = functions_at file version first hs }) (code_in file)
code_is {file = file} {version = version} {first = first} {hs = hs} o =
    ap (λ (a : ℕ). record { version = version; functions = functions_at file version a hs }) (there o)
    ∙ ap (λ (gs : List Header). record { version = version; functions = functions_at file version (first_body file) gs }) (these o)
    ∙ ap (λ (v : ℕ). record { version = v; functions = functions_at file v (first_body file) (headers_of file) }) o.version_is

-- ---- what loading answers

pub loaded_has_bytes : (file : List ℕ)
    → AreBytes file
    → (r : Result Code LoadStop)
    → Loads r (file_tests file) (λ code. code ≡ code_in file)
    → IfOk r (λ code. Bytes file code)
loaded_has_bytes file bytes (Ok code) l = subst (Bytes file) (sym l.1) (read file bytes (met_from_ok (file_tests file) l.0))
loaded_has_bytes file bytes (Err stop) l = tt

pub bytes_are_loaded : (file : List ℕ) (r : Result Code LoadStop)
    → Loads r (file_tests file) (λ code. code ≡ code_in file)
    → (code : Code)
    → Bytes file code
    → MatchResult r (λ loaded. loaded ≡ code) (λ stop. stop ≡ NoMemory)
bytes_are_loaded file (Ok loaded) l code b = l.1 ∙ (written file code b).says
bytes_are_loaded file (Err (Bad at row)) l code b = absurd (coded_isnt_refused_lem file code at row b l)
bytes_are_loaded file (Err NoMemory) l code b = refl
