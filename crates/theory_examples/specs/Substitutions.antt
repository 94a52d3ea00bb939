-- Substitutions that were worked out by hand.
use Rattle.std.specs.Prelude.{◌≡◌}
use Rattle.htt_syntax.specs.declared.mono.Op.TheVariants.{Add}
use Rattle.htt_syntax.specs.Trees.{TermTree, CompTree, m_word, m_var, y_mono, y_fun, y_all, y_hoare, triple, t_var}
use Rattle.htt_syntax.specs.Trees.{t_app, t_inst, t_lam, t_word, t_bin, t_made, c_ret, c_step, s_claim, f_tt, f_rec}
use Rattle.htt_syntax.specs.Trees.{no_terms, more_terms}
use Rattle.theory_canonical.specs.Skeletons.{sk_o, sk_c, sk_arrow, sk_all, skeleton}
use Rattle.theory_substitution.specs.Closing.{closing}
use Rattle.theory_substitution.specs.Substitution.{SubTerm, SubComp, SubFormula, App}

pub record TheSubstitutions : Type 0 where
  -- a variable inside the gap stays, one outside falls by one
  pub inside_the_gap : closing 2 1 ≡ 1
  pub outside_the_gap : closing 2 5 ≡ 4
  -- (f : (x : word) -> word) -> [a] -> {tt} y : a {tt}
  pub nested_skeleton :
      skeleton (y_fun (y_fun (y_mono m_word) (y_mono m_word)) (y_all (y_hoare (triple f_tt (m_var 0) f_tt))))
      ≡ sk_arrow (sk_arrow sk_o sk_o) (sk_all sk_c)
  -- the arguments of an atom are replaced, and its heap is renamed
  pub in_an_atom :
      SubFormula (t_word 3) sk_o 0
      (f_rec 4 1 (t_var 0) (more_terms (t_bin Add (t_var 0) (t_word 1)) (more_terms (t_var 2) no_terms)))
      (f_rec 4 0 (t_word 3) (more_terms (t_word 4) (more_terms (t_var 1) no_terms)))
  -- a made function is a head, and what it has captured is replaced
  pub in_a_made_function :
      SubTerm (t_word 3) sk_o 0 (t_app (t_made 2 (more_terms (t_var 0) no_terms)) (t_var 0))
      (t_app (t_made 2 (more_terms (t_word 3) no_terms)) (t_word 3))
  -- f [a] x, where 3 is put for x
  pub in_an_instance :
      SubTerm (t_word 3) sk_o 0 (t_app (t_inst (t_var 1) (m_var 2)) (t_var 0))
      (t_app (t_inst (t_var 0) (m_var 1)) (t_word 3))
  -- f (fun y . y), where fun g . g 4 is put for f
  pub function_for_an_argument :
      SubTerm (t_lam (t_app (t_var 0) (t_word 4))) (sk_arrow (sk_arrow sk_o sk_o) sk_o) 0
      (t_app (t_var 0) (t_lam (t_var 0))) (t_word 4)
  -- there is no result where the skeleton is no function's, or where a claim stands
  pub no_function : (r : TermTree) → SubTerm (t_word 3) sk_o 0 (t_app (t_var 0) (t_word 1)) r → ⊥
  pub no_claim : (r : CompTree) → SubComp (t_word 3) sk_o 0 (c_step (s_claim f_tt) (c_ret (t_var 0))) r → ⊥
  pub no_application_of_a_word : (r : TermTree) → App (t_word 3) sk_o (t_word 1) r → ⊥
