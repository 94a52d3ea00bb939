-- Triples that were worked out by hand.
use Rattle.std.specs.Prelude.{[], ◌∷◌}
use Rattle.htt_syntax.specs.declared.mono.Op.TheVariants.{Add}
use Rattle.htt_syntax.specs.Trees.{TripleTree, triple, m_word, m_unit, t_var, t_word, t_loc, t_unit, t_do, t_bin, c_ret}
use Rattle.htt_syntax.specs.Trees.{c_step, s_set, f_tt, f_emp, f_eq, f_cell}
use Rattle.theory_values.specs.Heaps.{Heap, empty_heap, single_block}
use Rattle.theory_meaning.specs.Closures.{Items}
use Rattle.theory_triples.specs.Triples.{MeetsTriple, run_of_val}

-- value 0 is `do ret 2 + 3`, value 1 is `do _ <- set[word] (place 5) 8; ret ()`
abbrev pub file : Items
file = record {
  vals =
      t_do (c_ret (t_bin Add (t_word 2) (t_word 3))) ∷
      t_do (c_step (s_set m_word (t_loc 5) (t_word 8)) (c_ret t_unit)) ∷ [];
  defs = [];
}

-- {emp} x : word {x =[word] 5}, and the same with 6
abbrev pub gives_five : TripleTree
gives_five = triple (f_emp 0) m_word (f_eq m_word (t_var 2) (t_word 5))

abbrev pub gives_six : TripleTree
gives_six = triple (f_emp 0) m_word (f_eq m_word (t_var 2) (t_word 6))

-- {place 5 |->[word] 7} x : unit {place 5 |->[word] 8}, and the same from any heap
abbrev pub writes_eight : TripleTree
writes_eight = triple (f_cell m_word 0 (t_loc 5) (t_word 7)) m_unit (f_cell m_word 0 (t_loc 5) (t_word 8))

abbrev pub writes_from_any : TripleTree
writes_from_any = triple f_tt m_unit (f_cell m_word 0 (t_loc 5) (t_word 8))

pub record WorkedExamples : Type 0 where
  pub five_is_given : (k : Heap) → MeetsTriple [] gives_five (run_of_val file 0 1 []) empty_heap k
  pub six_is_not : MeetsTriple [] gives_six (run_of_val file 0 1 []) empty_heap empty_heap → ⊥
  pub eight_beside_another :
      MeetsTriple [] writes_eight (run_of_val file 1 1 []) (single_block 5 (7 ∷ [])) (single_block 6 (1 ∷ []))
  pub not_from_any : MeetsTriple [] writes_from_any (run_of_val file 1 1 []) empty_heap empty_heap → ⊥
