-- The laws of the format, from what is read where something was written and the other way round.
use Rattle.std.proofs.Common.{◌≡◌, ℕ, List, Result, Ok, Err, refl, sym, ap, ◌∙◌, inl, inr}
use Rattle.std.specs.Prelude.{◌⊎◌}
use Rattle.word_loader_code.specs.declared.code.Code.{Code}
use Rattle.word_loader_format.specs.declared.rows.Fault.{Fault}
use Rattle.word_loader_format.specs.Layout.{Bytes}
use Rattle.word_loader_format.specs.Rows.{checked, file_tests, IsRefused}
use Rattle.word_loader_format.specs.Reading.{code_in}
use Rattle.word_loader_format.specs.Laws.{OneCode, AreBytes, CodedOrRefused, CodedIsntRefused, OneCodeRefusal}
use Rattle.word_loader_format.proofs.Tests.{met_from_ok, ok_from_met}
use Rattle.word_loader_format.proofs.WrittenFile.{written}
use Rattle.word_loader_format.proofs.ReadFile.{read}

pub one_code_lem : OneCode
one_code_lem b code other x y = sym (written b code x).says ∙ (written b other y).says

by_result : (b : List ℕ)
    → AreBytes b
    → (r : Result (Unit {0}) Fault)
    → checked (file_tests b) ≡ r
    → ((code : Code) × Bytes b code) ⊎ ((at : ℕ) × (row : ℕ) × IsRefused b at row)
by_result b bytes (Ok u) e = inl (code_in b, read b bytes (met_from_ok (file_tests b) e))
by_result b bytes (Err f) e = inr (f.at, f.row, e)

pub coded_or_refused_lem : CodedOrRefused
coded_or_refused_lem b bytes = by_result b bytes (checked (file_tests b)) refl

pub coded_isnt_refused_lem : CodedIsntRefused
coded_isnt_refused_lem b code at row is faulty =
    let accepted = ok_from_met (file_tests b) (written b code is).met in
    let both = sym accepted ∙ faulty in
    absurd cc

abbrev refused : Fault → Result (Unit {0}) Fault
refused f = Err f

same_fault : (f g : Fault) → refused f ≡ refused g → f ≡ g
same_fault f g e = cc

pub one_refusal_lem : OneCodeRefusal
one_refusal_lem b at row other_at other_row x y =
    let same = same_fault (record { at = at; row = row }) (record { at = other_at; row = other_row }) (sym x ∙ y) in
    (ap (λ (f : Fault). f.at) same, ap (λ (f : Fault). f.row) same)
