-- What emission needs of a file's instances, from the laws of each part.
use Rattle.std.proofs.Common.{◌≡◌, ℕ, zero, List, [], ◌∷◌, Ok, Option, Some, None, slice_get, refl, sym, ap, ◌∙◌, subst}
use Rattle.std.proofs.lemmas.Option.{same_Some}
use Rattle.word_loader_code.specs.declared.code.Code.{Code}
use Rattle.word_loader_format.specs.Layout.{Bytes, code_bytes}
use Rattle.theory_typing.specs.Laws.{none}
use Rattle.theory_items.specs.Items.{ItemTree}
use Rattle.theory_instances.specs.Calls.{ProgramVal}
use Rattle.theory_flat.specs.Flat.{Instance, HasFlatInstances}
use Rattle.theory_flat_closed.proofs.Closed.{closed}
use Rattle.theory_flat_narrow.proofs.Narrow.{instances_are_narrow}
use Rattle.theory_emission_valid.specs.Laws.{BeginsWithMain, IsEmittable}
use Rattle.theory_emission_valid.proofs.Codes.{is_valid, numbers_fit}
use Rattle.theory_extraction.specs.Extraction.{HasVals, program, HasCode}
use Rattle.theory_extraction_formed.proofs.Files.{files_typed}
use Rattle.theory_extraction_narrow.proofs.Files.{checked_files_are_narrow}
use Rattle.theory_checking_files.specs.Files.{CheckedAll, ItemsComeTo}
use Rattle.theory_extraction_valid.specs.Laws.{ExtractedCodeIsValid}

none_is_some : {A : Type 0} {x : A} → None ≡ Some x → ⊥
none_is_some q = cc

begins : (instances : List Instance)
    → (main : Instance) × (slice_get instances zero ≡ Some main) × (main.params ≡ [])
    → BeginsWithMain instances
begins [] (main, q, e) = absurd (none_is_some q)
begins (first ∷ others) (main, q, e) = ap (λ (i : Instance). i.params) (same_Some first main q) ∙ e

emittable : (items : List ItemTree) (k : CheckedAll) (main : Option ℕ) (vals : List ProgramVal) (instances : List Instance)
    → ItemsComeTo zero none items (Ok k)
    → HasVals none items vals
    → HasFlatInstances (program vals main) instances
    → IsEmittable instances
emittable items k main vals instances come has flat = record {
  typed = files_typed items vals main instances has flat;
  main = begins instances (closed.main_is_first (program vals main) instances flat);
  few = closed.few (program vals main) instances flat;
  monos = instances_are_narrow (program vals main) instances (checked_files_are_narrow items k vals main come has) flat;
}

second_bytes : (items : List ItemTree) (k : CheckedAll) (main : Option ℕ) (code : Code)
    → ItemsComeTo zero none items (Ok k)
    → HasCode items main code
    → Bytes (code_bytes code) code
second_bytes items k main code come h =
    let ready = emittable items k main h.vals h.instances come h.has_vals h.has_instances in
    subst (λ (c : Code). Bytes (code_bytes c) c) (sym h.is)
    (record {
      valid = is_valid.second h.instances ready h.within;
      within = numbers_fit.second h.instances ready h.within;
      layout = refl;
    })

pub code_is_valid : ExtractedCodeIsValid
code_is_valid = record {
  second = second_bytes;
  first = λ items k main vals instances come has flat fine.
      let ready = emittable items k main vals instances come has flat in
      record {
        valid = is_valid.first instances ready fine;
        within = numbers_fit.first instances ready fine;
        layout = refl;
      };
}
