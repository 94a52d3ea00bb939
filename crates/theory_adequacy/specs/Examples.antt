-- Values of the text that realise denotations, and some that don't, worked out by hand.
use Rattle.std.specs.Prelude.{[], None}
use Rattle.htt_syntax.specs.declared.mono.Op.TheVariants.{Add}
use Rattle.htt_syntax.specs.Trees.{TyTree, FixTree, CompTree, y_mono, y_fun, y_hoare, triple, f_tt, m_word, t_var}
use Rattle.htt_syntax.specs.Trees.{t_word, t_bin, t_lam, x_body, c_ret, c_step, s_run}
use Rattle.theory_values.specs.Values.{v_word, v_unit}
use Rattle.theory_meaning.specs.Closures.{base, fun_of, do_of, fix_of, nothing, Items}
use Rattle.theory_canonical.specs.Skeletons.{sk_o, sk_c, sk_arrow}
use Rattle.theory_denotation.specs.Outcomes.{Running, ended, out_of_fuel}
use Rattle.theory_denotation.specs.Recursion.{entered_running}
use Rattle.theory_denotation.specs.Valuations.{HeadEntries, no_entry}
use Rattle.theory_denotation.specs.Denotation.{term_den}
use Rattle.theory_adequacy.specs.Adequacy.{Realises}

abbrev pub no_items : Items
no_items = record { vals = []; defs = [] }

abbrev pub no_heads : HeadEntries
no_heads = record { vals = λ n. no_entry; made = λ n values. no_entry }

-- (x : word) -> word, and {tt} x : word {tt}
abbrev pub function_ty : TyTree
function_ty = y_fun (y_mono m_word) (y_mono m_word)

abbrev pub run_ty : TyTree
run_ty = y_hoare (triple f_tt m_word f_tt)

abbrev pub gives_five : Running
gives_five n h cs = ended (v_word 5) h cs

-- what ends with 5 where fuel is left
abbrev pub five_with_fuel : Running
five_with_fuel = entered_running gives_five

-- fix f . x <- f; ret x
abbrev pub endless_body : CompTree
endless_body = c_step (s_run (t_var 0) None) (c_ret (t_var 0))

abbrev pub endless : FixTree
endless = x_body (triple f_tt m_word f_tt) endless_body

pub record WorkedExamples : Type 0 where
  pub word_is_itself : Realises no_items [] (y_mono m_word) sk_o (base (v_word 3)) (v_word 3)
  pub no_other_word : Realises no_items [] (y_mono m_word) sk_o (base (v_word 3)) (v_word 4) → ⊥
  pub no_other_form : Realises no_items [] (y_mono m_word) sk_o (base v_unit) v_unit → ⊥
  -- fun x . x + 1
  pub function_by_its_body :
      Realises no_items [] function_ty (sk_arrow sk_o sk_o) (fun_of nothing (t_bin Add (t_var 0) (t_word 1)))
      (term_den no_heads [] (t_lam (t_bin Add (t_var 0) (t_word 1))) (sk_arrow sk_o sk_o))
  pub no_function : Realises no_items [] function_ty (sk_arrow sk_o sk_o) (base v_unit) (λ d. v_word 0) → ⊥
  pub computation_by_its_run : Realises no_items [] run_ty sk_c (do_of nothing (c_ret (t_word 5))) gives_five
  pub no_other_result : Realises no_items [] run_ty sk_c (do_of nothing (c_ret (t_word 6))) gives_five → ⊥
  -- the text may end where the denotation wants fuel, and then no computation is needed
  pub fuel_is_free : Realises no_items [] run_ty sk_c (do_of nothing (c_ret (t_word 5))) five_with_fuel
  pub want_of_fuel_is_free : Realises no_items [] run_ty sk_c (base v_unit) (λ n h cs. out_of_fuel)
  -- but not the other way round
  pub endless_never_ends : Realises no_items [] run_ty sk_c (fix_of nothing endless nothing endless) five_with_fuel → ⊥
