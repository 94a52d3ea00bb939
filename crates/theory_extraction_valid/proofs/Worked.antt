-- The worked file is checked, premise by premise; it has its code, and by the law this has its bytes.
use Rattle.std.proofs.Common.{ℕ, zero, [], ◌∷◌, Ok, Some, refl, arith}
use Rattle.htt_syntax.specs.Trees.{m_word, t_word, t_bin, t_do, c_ret}
use Rattle.htt_syntax.specs.declared.mono.Op.TheVariants.{Add}
use Rattle.theory_renaming.specs.Renaming.{lift, lifts, rename_mono, rename_ty, rename_term}
use Rattle.theory_counts.specs.Nodes.{nodes_mono, nodes_formula, nodes_term}
use Rattle.theory_counts.specs.Depth.{depth_mono, depth_formula, depth_term}
use Rattle.theory_canonical.specs.Folding.{contractum}
use Rattle.theory_canonical.specs.Eta.{expansion}
use Rattle.theory_states.specs.States.{past, at_heap, start, some_values, within, ending, finish, last}
use Rattle.theory_typing.specs.Contexts.{Context, forms_word, type_here, type_there}
use Rattle.theory_typing.specs.Positions.{plain_ty}
use Rattle.theory_typing.specs.Laws.{none, sum_goal}
use Rattle.theory_items.specs.Items.{i_val, adds_val}
use Rattle.theory_items.specs.Examples.{gives_five}
use Rattle.theory_items.proofs.Worked as items
use Rattle.theory_file_derived.specs.Examples.{sum_file}
use Rattle.theory_instances.specs.Examples.{sum}
use Rattle.theory_flat.specs.Examples.{sum_flat}
use Rattle.theory_flat.proofs.Worked as flat
use Rattle.word_loader_format.specs.Numbers.{little_endian}
use Rattle.theory_emission.specs.Terms.{emit_term}
use Rattle.theory_emission.specs.Bodies.{emit_flat}
use Rattle.theory_extraction.specs.Extraction.{vals_none, vals_next, HasCode}
use Rattle.theory_checking.specs.Stops.{goes_on, comes, holds, finds, makes}
use Rattle.theory_checking.specs.Limits.{MonoComesTo}
use Rattle.theory_checking.specs.Results.{AssemblesTo}
use Rattle.theory_checking.specs.Checking.{TyComesTo, FormulaComesTo, TermComesTo, RunsTo}
use Rattle.theory_checking_items.specs.Items.{checked, ItemComesTo}
use Rattle.theory_checking_files.specs.Files.{checked_all, ItemsComeTo, items_end, item_then_items}
use Rattle.theory_extraction_valid.specs.Laws.{ExtractedCodeIsValid}
use Rattle.theory_extraction_valid.specs.Examples.{sum_env, sum_code, WorkedCodeFile}

word_mono : {g : Context} {at : ℕ} → MonoComesTo g at m_word (Ok tt)
unfolding nodes_mono
word_mono = goes_on (holds forms_word) (holds (omega arith))

sum_item : ItemComesTo none [] zero (i_val gives_five (t_do (c_ret (t_bin Add (t_word 2) (t_word 3)))))
    (Ok (checked (adds_val gives_five (t_do (c_ret (t_word 5)))) (sum_goal ∷ [])))
unfolding TyComesTo FormulaComesTo TermComesTo RunsTo AssemblesTo plain_ty nodes_mono nodes_formula nodes_term depth_mono
    depth_formula depth_term rename_ty rename_mono rename_term lift lifts past at_heap start some_values within ending finish last contractum expansion
sum_item =
    goes_on (goes_on (goes_on (holds (omega arith)) (goes_on comes (goes_on word_mono
    (goes_on (holds (omega arith)) (goes_on
    (goes_on word_mono
    (goes_on (goes_on (goes_on (finds (type_there (type_there type_here))) comes) (goes_on (holds refl) comes)) (goes_on (goes_on (goes_on (makes (omega arith)) comes) (goes_on (holds refl) comes)) comes)))
    comes))))) comes)
    (goes_on (holds tt)
    (goes_on (goes_on (goes_on (holds (omega arith)) (goes_on (goes_on (holds (omega arith)) (holds (omega arith)))
    (goes_on (goes_on (goes_on (goes_on (goes_on (goes_on (makes (omega arith)) comes) (goes_on (holds refl) comes)) (goes_on (goes_on (goes_on (makes (omega arith)) comes) (goes_on (holds refl) comes)) comes)) (goes_on (holds refl) comes)) comes)
    (goes_on (holds (omega arith)) (goes_on (goes_on (holds (omega arith)) (holds (omega arith)))
    (goes_on (goes_on (holds (omega arith)) (holds (omega arith))) (goes_on comes comes))))))) comes) comes))

pub sum_checked : ItemsComeTo zero none sum_file (Ok (checked_all sum_env ((sum_goal ∷ []) ∷ [])))
sum_checked = item_then_items (checked (adds_val gives_five (t_do (c_ret (t_word 5)))) (sum_goal ∷ [])) sum_item items_end

pub sum_has_code : HasCode sum_file (Some 0) sum_code
unfolding emit_term emit_flat
sum_has_code = record {
  vals = sum.vals;
  has_vals = vals_next items.worked.val vals_none;
  instances = sum_flat;
  has_instances = flat.worked.sum_has;
  within = refl;
  is = refl;
}

pub worked : ExtractedCodeIsValid → WorkedCodeFile
unfolding little_endian
worked law =
    let b = law.second sum_file (checked_all sum_env ((sum_goal ∷ []) ∷ [])) (Some 0) sum_code sum_checked sum_has_code in
    record {
      checked = sum_checked;
      has_code = sum_has_code;
      bytes = record { valid = b.valid; within = b.within; layout = refl };
      count = refl;
    }
