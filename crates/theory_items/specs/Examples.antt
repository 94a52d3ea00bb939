-- Items, worked out by hand.
use Rattle.std.specs.Prelude.{List, [], ◌∷◌}
use Rattle.htt_syntax.specs.declared.mono.Op.TheVariants.{Add, Sub}
use Rattle.htt_syntax.specs.Trees.{TyTree, m_word, m_var, y_mono, y_fun, y_hoare, triple, t_var, t_lam, t_do, t_word}
use Rattle.htt_syntax.specs.Trees.{t_bin, c_ret, f_tt, f_eq, f_rec, no_terms, more_terms}
use Rattle.theory_truth.specs.Predicates.{RecTree}
use Rattle.theory_typing.specs.Contexts.{en_term, Obligation}
use Rattle.theory_typing.specs.Laws.{none, sum_goal}
use Rattle.theory_items.specs.Items.{i_pred, i_def, i_val, i_rec, Added, adds_nothing, adds_def, adds_val, adds_rec}
use Rattle.theory_items.specs.Items.{Derives}

-- {tt} x : word {x =[word] 5}
abbrev pub gives_five : TyTree
gives_five = y_hoare (triple f_tt m_word (f_eq m_word (t_var 2) (t_word 5)))

-- pred dbl induct n (x : word) = { x =[word] 0 } { !dbl(n; x - 2) }
abbrev pub doubles : RecTree
doubles = record {
  params = m_word ∷ [];
  at_zero = f_eq m_word (t_var 1) (t_word 0);
  at_next = f_rec 0 0 (t_var 2) (more_terms (t_bin Sub (t_var 1) (t_word 2)) no_terms);
}

-- pred bad induct n () = { tt } { !bad(n + 1;) }
abbrev pub not_less : RecTree
not_less = record { params = []; at_zero = f_tt; at_next = f_rec 0 0 (t_bin Add (t_var 1) (t_word 1)) no_terms }

pub record WorkedExamples : Type 0 where
  -- def one : word = 1
  pub definition : Derives none [] (i_def (y_mono m_word) (t_word 1)) (adds_def (y_mono m_word) (t_word 1)) []
  -- val main : {tt} x : word {x =[word] 5} = do ret 2 + 3 gives `do ret 5`, and owes that x is 5; later
  -- items see its type alone
  pub val :
      Derives none [] (i_val gives_five (t_do (c_ret (t_bin Add (t_word 2) (t_word 3)))))
      (adds_val gives_five (t_do (c_ret (t_word 5)))) (sum_goal ∷ [])
  -- val a : (x : word) -> word = fun x . x, whose type doesn't end in a computation
  pub no_val : (added : Added) (o : List Obligation)
      → Derives none [] (i_val (y_fun (y_mono m_word) (y_mono m_word)) (t_lam (t_var 0))) added o
      → ⊥
  -- pred p[a](x : a, y : a) = x =[a] y
  pub predicate :
      Derives none [] (i_pred 1 (m_var 0 ∷ m_var 1 ∷ []) (f_eq (m_var 3) (t_var 2) (t_var 1))) adds_nothing []
  -- a parameter isn't a monotype: pred p[a](x : a, y : x)
  pub no_predicate : (added : Added) (o : List Obligation)
      → Derives none [] (i_pred 1 (m_var 0 ∷ m_var 0 ∷ []) f_tt) added o
      → ⊥
  pub recursive : Derives none [] (i_rec doubles) (adds_rec doubles) []
  pub index : (added : Added) (o : List Obligation) → Derives none [] (i_rec not_less) added o → ⊥
  -- in a context with a word x: def d : word = x
  pub in_context :
      Derives none (en_term (y_mono m_word) ∷ []) (i_def (y_mono m_word) (t_var 0)) (adds_def (y_mono m_word) (t_var 0))
      []
