-- Printed sequents, written by hand.
use Rattle.std.specs.Prelude.{◌≡◌, true, [], ◌∷◌, ◌++◌, codes}
use Rattle.htt_syntax.specs.declared.mono.Op.TheVariants.{Lt}
use Rattle.htt_syntax.specs.Trees.{m_word, m_bool, y_mono, y_fun, y_hoare, triple, t_var, t_word, t_bool, t_bin, f_tt}
use Rattle.htt_syntax.specs.Trees.{f_and, f_imp, f_all_t, f_ex_t, f_same, f_eq}
use Rattle.theory_typing.specs.Contexts.{en_mono, en_term, en_heap}
use Rattle.theory_views.specs.Contexts.{SequentTree}
use Rattle.theory_printing_sequents.specs.Sequents.{line, sequent_bytes}

-- without hypotheses, as an obligation is
abbrev pub no_capture : SequentTree
no_capture = record {
  context = en_heap ∷ en_heap ∷ en_term (y_mono m_word) ∷ [];
  hypotheses = [];
  goal =
      f_imp (f_and (f_and f_tt (f_same 0 1)) (f_eq m_word (t_var 2) (t_word 0)))
      (f_all_t m_word (f_ex_t m_word (f_eq m_bool (t_bin Lt (t_var 1) (t_var 0)) (t_bool true))));
}

-- the type of an entry is printed in the scope of those before it
abbrev pub own_names : SequentTree
own_names = record {
  context = en_term (y_fun (y_mono m_word) (y_hoare (triple f_tt m_word f_tt))) ∷ en_mono ∷ [];
  hypotheses = f_tt ∷ f_and f_tt f_tt ∷ [];
  goal = f_tt;
}

pub record SequentExamples : Type 0 where
  pub obligation : sequent_bytes (codes "main") 1 [] [] no_capture
      ≡ line (codes "obligation main.1") ++ line (codes "_x0 : word") ++ line (codes "_h1 : heap") ++
      line (codes "_h2 : heap") ++
      line (codes
      "|- [[tt /\\ Same(_h2, _h1)] /\\ _x0 =[word] 0] => [all _x3 : word . ex _x4 : word . _x3 < _x4 =[bool] true]")
  pub with_hypotheses : sequent_bytes (codes "f") 12 [] [] own_names
      ≡ line (codes "obligation f.12") ++ line (codes "_a0 : mono") ++
      line (codes "_x1 : (_x1 : word) -> {tt} _x2 : word {tt}") ++ line (codes "_u0 : [tt]") ++
      line (codes "_u1 : [tt /\\ tt]") ++ line (codes "|- tt")
