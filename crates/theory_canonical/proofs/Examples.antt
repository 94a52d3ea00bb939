-- The worked examples compute.
use Rattle.std.proofs.Common.{[], ◌∷◌, refl}
use Rattle.htt_syntax.specs.declared.mono.Op.TheVariants.{Add}
use Rattle.htt_syntax.specs.Trees.{m_var, t_var, t_val, t_app, t_lam, t_word, t_bin, t_eq}
use Rattle.theory_renaming.specs.Renaming.{rename_term, rename_mono, lift}
use Rattle.theory_canonical.specs.Skeletons.{skeleton, sk_o, sk_arrow}
use Rattle.theory_canonical.specs.Contexts.{as_term, here, open_mono, open_term}
use Rattle.theory_canonical.specs.Folding.{contractum}
use Rattle.theory_canonical.specs.Canonical.{IsCanonical, n_word, n_fst, n_eq, n_bin, n_lam, n_neutral, e_var, e_val, e_app, n_m_var}
use Rattle.theory_canonical.specs.Eta.{expansion}
use Rattle.theory_canonical.specs.Examples.{TheSkeletons, TheFoldings, NoFoldings, TheExpansions, TheCanonical, no_heads}

pub skeletons : TheSkeletons
unfolding skeleton
skeletons = record { of_function = refl; of_runner = refl }

pub foldings : TheFoldings
unfolding contractum
foldings = record {
  sum = refl;
  sum_that_wraps = refl;
  difference_that_wraps = refl;
  bits = refl;
  moved_up = refl;
  moved_down = refl;
  order = refl;
  negation = refl;
  equal_words = refl;
  other_places = refl;
  equal_truths = refl;
  part = refl;
  choice = refl;
}

pub unfolded : NoFoldings
unfolding contractum
unfolded = record {
  zero_added = refl;
  at_a_variable = refl;
  at_another = refl;
  part_of_a_word = refl;
  choice_of_one = refl;
  twice_negated = refl;
  pair_of_parts = refl;
}

pub expansions : TheExpansions
unfolding expansion rename_term rename_mono lift
expansions = record { at_a_word = refl; of_a_function = refl; of_a_computation = refl; of_a_runner = refl; of_a_functional = refl }

no_sum : IsCanonical no_heads [] (t_bin Add (t_word 2) (t_word 3)) sk_o → ⊥
unfolding contractum
no_sum (n_bin p q e) = cc
no_sum (n_neutral d) = elim d [ ]

not_long : IsCanonical no_heads (as_term (sk_arrow sk_o sk_o) ∷ []) (t_var 0) (sk_arrow sk_o sk_o) → ⊥
not_long d = elim d [ ]

no_entry : IsCanonical no_heads [] (t_var 0) sk_o → ⊥
no_entry (n_neutral (e_var d)) = elim d [ ]

no_redex : IsCanonical no_heads [] (t_app (t_lam (t_var 0)) (t_word 2)) sk_o → ⊥
no_redex (n_neutral (e_app d a)) = elim d [ ]

no_monotype : IsCanonical no_heads [] (t_lam (t_eq (m_var 0) (t_word 2) (t_word 2))) (sk_arrow sk_o sk_o) → ⊥
no_monotype (n_lam (n_eq (n_m_var d) p q e)) = elim d [ ]
no_monotype (n_lam (n_neutral d)) = elim d [ ]

no_val : IsCanonical no_heads [] (t_val 0) sk_o → ⊥
no_val (n_neutral (e_val d)) = elim d [ ]

pub canonical : TheCanonical
unfolding contractum
canonical = record {
  identity = n_lam (n_neutral (e_var here));
  part_of_a_word = n_fst n_word refl;
  open_variable = n_eq (n_m_var open_mono) (n_neutral (e_var open_term)) (n_neutral (e_var open_term)) refl;
  no_sum = no_sum;
  not_long = not_long;
  no_entry = no_entry;
  no_redex = no_redex;
  no_monotype = no_monotype;
  no_val = no_val;
}
