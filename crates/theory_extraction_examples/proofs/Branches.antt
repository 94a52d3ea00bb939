-- The program with an `if` within an `if`.
use Rattle.std.proofs.Common.{[], ◌∷◌, refl}
use Rattle.htt_syntax.specs.Trees.{m_word, t_do, triple, f_tt}
use Rattle.theory_canonical.specs.Skeletons.{skeleton}
use Rattle.theory_counts.specs.Nodes.{nodes_mono}
use Rattle.theory_counts_monotypes.specs.Monotypes.{greatest_in_term}
use Rattle.theory_substitution.specs.Monotypes.{fill_mono}
use Rattle.theory_truth.specs.TermValue.{term_value}
use Rattle.word_loader_code.specs.Machine.{step, after_steps}
use Rattle.theory_instances.specs.Calls.{sites_of}
use Rattle.theory_instances.specs.Bodies.{puts_none, body_of_val}
use Rattle.theory_instances.specs.Lists.{HasInstances, main_key, meets_none, takes_end, takes_next}
use Rattle.theory_instances.specs.Examples.{always}
use Rattle.theory_instances.specs.Orders.{value_taken}
use Rattle.theory_flat.specs.Flat.{flattens_ret, flattens_step, flattens_alloc, flattens_if, flat_none, flat_more}
use Rattle.theory_flat.specs.Reading.{flat_outcome, calling}
use Rattle.theory_emission.specs.Terms.{emit_term, emit_terms}
use Rattle.theory_emission.specs.Bodies.{emit_flat}
use Rattle.theory_extraction_examples.specs.Branches.{nested, nested_body, WorkedBranches}

nested_has : HasInstances nested (value_taken 0 nested_body ∷ []) (main_key 0 ∷ [])
unfolding skeleton sites_of greatest_in_term nodes_mono fill_mono
nested_has = record {
  number = 0;
  main = record { named = refl; val = record { ty = always m_word; term = t_do nested_body }; there = refl; spec = triple f_tt m_word f_tt; is_hoare = refl };
  all = takes_next refl (record {
    never_varies = tt;
    results = [];
    has_body = body_of_val refl refl puts_none;
    results_within = refl;
    monos_within = refl;
    same_key = refl;
    params = refl;
    result = refl;
  }) meets_none (takes_end refl);
}

pub worked : WorkedBranches
unfolding emit_term emit_terms emit_flat term_value flat_outcome calling after_steps step
worked = record {
  flat_bodies = record {
    taken = _;
    keys = _;
    has = nested_has;
    flat = flat_more (record {
      params = refl;
      result = refl;
      body = flattens_step flattens_alloc
          (flattens_step (flattens_if (flattens_step (flattens_if flattens_ret flattens_ret) flattens_ret) flattens_ret)
          (flattens_step (flattens_if (flattens_step (flattens_if flattens_ret flattens_ret) flattens_ret) flattens_ret) flattens_ret));
    }) flat_none;
  };
  code = refl;
  ends = refl;
  runs = refl;
}
