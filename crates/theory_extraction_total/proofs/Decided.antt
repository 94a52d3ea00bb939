-- A file whose values derive has code, or a reason why it has none.
use Rattle.std.proofs.Common.{◌≡◌, ℕ, List, [], ◌∷◌, map, Option, Some, None, ◌⊎◌, inl, inr, refl, subst}
use Rattle.word_loader_code.specs.declared.code.Code.{Code}
use Rattle.theory_typing.specs.Laws.{none}
use Rattle.theory_items.specs.Items.{ItemTree}
use Rattle.theory_items_sound.proofs.Kept.{items_keep_sound}
use Rattle.theory_denotation_relations.specs.Files.{AreVals}
use Rattle.theory_instances.specs.Calls.{ProgramVal}
use Rattle.theory_instances_canonical.specs.Keys.{val_tree, IsCanonicalProgram}
use Rattle.theory_flat.specs.Flat.{Instance, HasFlatInstances}
use Rattle.theory_emission.specs.Codes.{EmitRefusal, emit_refusal}
use Rattle.theory_extraction.specs.Extraction.{HasVals, program, HasCodeBy, ExtractionRefusal, of_list, of_code, RefusesCodeBy, refuses_list}
use Rattle.theory_extraction.specs.Extraction.{refuses_code}
use Rattle.theory_adequacy_files.specs.Laws.{trees_of}
use Rattle.theory_adequacy_files.proofs.Values.{are_vals}
use Rattle.theory_extraction_total.specs.Laws.{ProgramsAreDecided, ExtractionIsDecided}
use Rattle.theory_extraction_total.proofs.Lists.{program_decided}
use Rattle.theory_extraction_total.proofs.Flattened.{flat_bodies}

pub programs : ProgramsAreDecided
programs = record {
  lists = λ p program i. program_decided p program i;
  flat_bodies = λ p taken keys program h. flat_bodies p taken keys program h;
}

trees_are : (vals : List ProgramVal) → trees_of vals ≡ map val_tree vals
trees_are [] = refl
trees_are (v ∷ vals) = λ j. val_tree v ∷ trees_are vals j

file_canonical : {items : List ItemTree} {vals : List ProgramVal} (main : Option ℕ) → HasVals none items vals → IsCanonicalProgram (program vals main)
file_canonical {vals = vals} main v = subst (AreVals []) (trees_are vals) (are_vals v items_keep_sound.empty)

pub decided : (written : List Instance → Code) → ExtractionIsDecided written
decided written items vals main v i = elim (program_decided (program vals main) (file_canonical main v) i) [
  | inr r ↦ inr (of_list (r.0), refuses_list v (r.1))
  | inl h ↦
      let flat = flat_bodies (program vals main) (h.0) (h.1) (file_canonical main v) (h.2) in
      by (flat.0) (record { taken = h.0; keys = h.1; has = h.2; flat = flat.1 }) (emit_refusal (written (flat.0))) refl
]
  where
    by : (instances : List Instance)
        → HasFlatInstances (program vals main) instances
        → (o : Option EmitRefusal)
        → emit_refusal (written instances) ≡ o
        → ((code : Code) × HasCodeBy written items main code) ⊎ ((refusal : ExtractionRefusal) × RefusesCodeBy written items main refusal)
    by instances h None q = inl (
      written instances,
      record { vals = vals; has_vals = v; instances = instances; has_instances = h; within = q; is = refl },
    )
    by instances h (Some x) q = inr (of_code x, refuses_code v h q)
