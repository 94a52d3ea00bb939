-- The worked texts, by computing.
use Rattle.std.specs.Prelude.{⊤}
use Rattle.std.proofs.Common.{refl}
use Rattle.std.specs.Fmt.{digits}
use Rattle.htt_syntax_walk.specs.Walk.{walk_mono, walk_formula}
use Rattle.theory_renaming.specs.Renaming.{lifts, lift, rename_mono, rename_term}
use Rattle.theory_counts.specs.Nodes.{nodes_mono, nodes_option, nodes_monos, nodes_ty, nodes_arg, nodes_args, nodes_proof}
use Rattle.theory_counts.specs.Depth.{depth_mono, depth_option, depth_monos, depth_ty, depth_arg, depth_args, depth_proof}
use Rattle.theory_text_names.specs.Stops.{◌>>=◌}
use Rattle.theory_text_names.specs.Scopes.{hypotheses, entry_locals, hypothesis_locals}
use Rattle.theory_text_names.specs.Uses.{local_use, declared_use, heap_outside}
use Rattle.theory_text_sugar.specs.Putting.{from_outside, with_monos, with_arguments}
use Rattle.theory_text.specs.Monotypes.{mono_comes, monos_come}
use Rattle.theory_text.specs.Phrases.{count_of, list_of, term_comes}
use Rattle.theory_text.specs.Proofs.{args_come, inst_at, proof_comes}
use Rattle.theory_text_items.specs.Declarations.{under_monos, under_params, params_come, closed_params_come, item_named, declarations_come}
use Rattle.theory_text_items.specs.Limits.{items_within}
use Rattle.theory_text_examples.specs.Examples.{Refusals, Scoping, Sugars, Proofs}

-- All that the texts below compute with.
computing : Type 0
unfolding ◌>>=◌ digits walk_mono walk_formula lifts lift rename_mono rename_term nodes_mono nodes_option nodes_monos nodes_ty nodes_arg
    nodes_args nodes_proof depth_mono depth_option depth_monos depth_ty depth_arg depth_args depth_proof hypotheses entry_locals
    hypothesis_locals local_use declared_use heap_outside from_outside with_monos with_arguments mono_comes monos_come count_of list_of
    term_comes args_come inst_at proof_comes under_monos under_params params_come closed_params_come item_named declarations_come
    items_within
computing = ⊤

pub refusals : Refusals
unfolding computing
refusals = record {
  own_body = refl;
  first_body = refl;
  hidden_by_index = refl;
  index_in_params = refl;
  reserved = refl;
  declared_twice = refl;
  too_few_mems = refl;
  counts_before_names = refl;
  no_heap_named = refl;
  declared_is_no_heap = refl;
  name_behind_number = refl;
  plain_form_of_recursive = refl;
  first_in_the_text = refl;
  init_in_a_precondition = refl;
  own_term = refl;
}

pub scoping : Scoping
unfolding computing
scoping = record {
  abbreviation_in_params = refl;
  mem_past_none = refl;
  params_see_no_params = refl;
  second_body = refl;
  recursive_function = refl;
  proof_before_its_item = refl;
  equal_params = refl;
  underscore_alone = refl;
  claimed = refl;
  outer_heaps = refl;
  recursive_at_a_heap = refl;
}

pub sugars : Sugars
unfolding computing
sugars = record {
  brackets = refl;
  separate_parts = refl;
  annotated_argument = refl;
  no_capture = refl;
  at_a_heap = refl;
  monotypes_put = refl;
  three_parts = refl;
  block_of_any = refl;
  dropped_argument = refl;
  only_grouping = refl;
  chain_bytes = refl;
}

pub proofs : Proofs
unfolding computing
proofs = record {
  second_part = refl;
  own_hypothesis = refl;
  one_space = refl;
  leading_zero = refl;
  entry_by_its_sort = refl;
  heap_as_term = refl;
  own_name_hides = refl;
  no_current_heap = refl;
  no_mem = refl;
  opened = refl;
  a_heap_opened = refl;
  unfolded = refl;
  not_visible_yet = refl;
  hypothesis_hides = refl;
  axiom_names_are_free = refl;
  use_at_a_heap = refl;
  case_branches = refl;
  app_bytes = refl;
}
