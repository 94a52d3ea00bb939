-- The worked examples hold.
use Rattle.std.proofs.Common.{[], ◌∷◌, refl, arith}
use Rattle.theory_renaming.specs.Renaming.{rename_mono, rename_ty}
use Rattle.theory_canonical.specs.Eta.{expansion}
use Rattle.theory_canonical.specs.Folding.{contractum}
use Rattle.theory_typing.specs.Contexts.{forms_word, type_here, type_there}
use Rattle.theory_typing.specs.Positions.{plain_ty}
use Rattle.theory_typing.specs.Typing.{forms_hoare, forms_triple, forms_tt, forms_eq, fits_given, gives_var, gives_word, fits_do}
use Rattle.theory_typing.specs.Laws.{none}
use Rattle.theory_typing.proofs.Worked as typed
use Rattle.theory_items.specs.Items.{derives_abbreviation, derives_val}
use Rattle.theory_instances.specs.Calls.{ProgramVal}
use Rattle.theory_instances.specs.Examples.{sum}
use Rattle.theory_instances.specs.Lists.{refuses_no_main}
use Rattle.theory_flat.proofs.Worked as flat
use Rattle.theory_emission.specs.Terms.{emit_term}
use Rattle.theory_emission.specs.Bodies.{emit_flat}
use Rattle.theory_flat.specs.Examples.{sum_flat}
use Rattle.theory_extraction.specs.Extraction.{HasVals, vals_none, vals_next, refuses_list}
use Rattle.theory_extraction.specs.Examples.{two_items, WorkedExtraction}

two_vals : HasVals none two_items sum.vals
unfolding rename_ty rename_mono contractum expansion plain_ty
two_vals =
    vals_next (derives_abbreviation forms_word)
    (vals_next (derives_val (forms_hoare (forms_triple forms_tt forms_word
    (forms_eq forms_word (fits_given tt (gives_var (type_there (type_there type_here))) refl) (fits_given tt (gives_word (omega arith)) refl)))) tt
    (fits_do typed.worked.sum)) vals_none)

pub worked : WorkedExtraction
unfolding emit_term emit_flat
worked = record {
  sum_code = record {
    vals = sum.vals;
    has_vals = two_vals;
    instances = sum_flat;
    has_instances = flat.worked.sum_has;
    within = refl;
    is = refl;
  };
  sum_first_code = record {
    vals = sum.vals;
    has_vals = two_vals;
    instances = sum_flat;
    has_instances = flat.worked.sum_has;
    within = refl;
    is = refl;
  };
  unnamed = refuses_list two_vals (refuses_no_main refl);
  empty = refuses_list vals_none (refuses_no_main refl);
}
