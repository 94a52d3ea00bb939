-- Worlds, contexts and sorts of arguments that were worked out by hand.
use Rattle.std.specs.Prelude.{◌≡◌, [], ◌∷◌, true, false, Some, None}
use Rattle.htt_syntax.specs.declared.mono.Op.TheVariants.{Add}
use Rattle.htt_syntax.specs.Trees.{TyTree, FixTree, m_word, m_bool, m_loc, m_unit, m_pair, m_var, y_mono, y_fun, y_all}
use Rattle.htt_syntax.specs.Trees.{y_hoare, y_at, triple, t_var, t_fix, t_word, t_bin, t_at, x_param, x_body, c_ret}
use Rattle.htt_syntax.specs.Trees.{f_tt, f_eq, f_at, a_heap, a_term}
use Rattle.theory_values.specs.Values.{v_word, v_bool}
use Rattle.theory_values.specs.Heaps.{empty_heap}
use Rattle.theory_truth.specs.Worlds.{th_mono, th_value, th_heap, mono_under}
use Rattle.theory_typing.specs.Contexts.{en_mono, en_heap, en_term, IsHeapEntry, HasEntryType, FormsMono, EndsInHoare}
use Rattle.theory_typing.specs.Worlds.{IsWorldOf}
use Rattle.theory_typing.specs.Positions.{plain_ty, plain_term, plain_formula}
use Rattle.theory_logic_axioms.specs.Names.{join_assoc, cell_val, block_width, pair_eta}
use Rattle.theory_logic_axioms.specs.Table.{heap_sort, term_sort, place_sort, heaps, argument_sorts, fits_sorts}
use Rattle.theory_logic_axioms.specs.Table.{count_of_words, uses_of}

pub record TheWorlds : Type 0 where
  -- a heap and a value of a under the monotype a, which is bool
  pub world :
      IsWorldOf (en_term (y_mono (m_var 1)) ∷ en_heap ∷ en_mono ∷ [])
      (th_value (v_bool true) ∷ th_heap empty_heap ∷ th_mono m_bool ∷ [])
  pub other_monotype :
      IsWorldOf (en_term (y_mono (m_var 1)) ∷ en_heap ∷ en_mono ∷ [])
      (th_value (v_word 1) ∷ th_heap empty_heap ∷ th_mono m_bool ∷ [])
      → ⊥
  pub open_monotype : IsWorldOf (en_mono ∷ []) (th_mono (m_var 0) ∷ []) → ⊥
  pub entry_too_few : IsWorldOf (en_heap ∷ en_heap ∷ []) (th_heap empty_heap ∷ []) → ⊥
  pub monotype_in_it :
      mono_under (th_value (v_bool true) ∷ th_heap empty_heap ∷ th_mono m_bool ∷ []) (m_pair (m_var 2) m_word)
      ≡ m_pair m_bool m_word

-- fix f (n : word) : {tt} z : word {tt} . ret n
abbrev pub returned : FixTree
returned = x_param (y_mono m_word) (x_body (triple f_tt m_word f_tt) (c_ret (t_var 1)))

pub record TheContexts : Type 0 where
  -- a type is shifted past its own entry and those inside it
  pub own_entry : HasEntryType (en_term (y_mono (m_var 0)) ∷ en_mono ∷ []) 0 (y_mono (m_var 1))
  pub outer_entry : HasEntryType (en_heap ∷ en_term (y_mono (m_var 0)) ∷ en_mono ∷ []) 1 (y_mono (m_var 2))
  pub heap_is_no_term : (A : TyTree) → HasEntryType (en_heap ∷ []) 0 A → ⊥
  pub heap_entry : IsHeapEntry (en_term (y_mono m_word) ∷ en_heap ∷ []) 1
  pub term_is_no_heap : IsHeapEntry (en_term (y_mono m_word) ∷ en_heap ∷ []) 0 → ⊥
  pub formed_monotype : FormsMono (en_term (y_mono m_word) ∷ en_mono ∷ []) (m_pair (m_var 1) m_unit)
  pub term_is_no_monotype : FormsMono (en_term (y_mono m_word) ∷ en_mono ∷ []) (m_var 0) → ⊥
  -- [a] -> (x : a) -> {tt} y : a {tt}, and a function of words
  pub ends_in_a_computation : EndsInHoare (y_all (y_fun (y_mono (m_var 0)) (y_hoare (triple f_tt (m_var 1) f_tt))))
  pub ends_in_a_word : EndsInHoare (y_fun (y_mono m_word) (y_mono m_word)) → ⊥
  -- a position around a phrase goes, and the byte of a `fix`
  pub type_without_positions : plain_ty (y_at 8 (y_fun (y_at 9 (y_mono m_word)) (y_at 20 (y_mono m_bool))))
      ≡ y_fun (y_mono m_word) (y_mono m_bool)
  pub recursion_without_positions : plain_term (t_at 30 (t_fix 31 returned)) ≡ t_fix 0 returned
  pub formula_without_positions :
      plain_formula (f_at 1 (f_eq m_word (t_at 2 (t_bin Add (t_var 0) (t_at 6 (t_word 1)))) (t_word 1)))
      ≡ f_eq m_word (t_bin Add (t_var 0) (t_word 1)) (t_word 1)

pub record TheAxiomSorts : Type 0 where
  pub of_cell_val : argument_sorts cell_val (m_word ∷ [])
      ≡ Some (heap_sort ∷ term_sort m_loc ∷ term_sort m_word ∷ term_sort m_word ∷ [])
  pub no_monotype : argument_sorts cell_val [] ≡ None
  pub of_join_assoc : argument_sorts join_assoc []
      ≡ Some (heap_sort ∷ heap_sort ∷ heap_sort ∷ heap_sort ∷ heap_sort ∷ [])
  pub of_pair_eta : argument_sorts pair_eta (m_word ∷ m_bool ∷ []) ≡ Some (term_sort (m_pair m_word m_bool) ∷ [])
  pub of_block_width : argument_sorts block_width (m_word ∷ m_bool ∷ []) ≡ Some (heap_sort ∷ place_sort ∷ [])
  -- a heap as the third argument of cell_val, and a term in its place
  pub heap_for_a_term :
      fits_sorts (heap_sort ∷ place_sort ∷ term_sort m_word ∷ term_sort m_word ∷ [])
      (a_heap 1 ∷ a_term (t_var 0) ∷ a_heap 1 ∷ a_term (t_word 7) ∷ [])
      ≡ false
  pub all_in_place :
      fits_sorts (heap_sort ∷ place_sort ∷ term_sort m_word ∷ term_sort m_word ∷ [])
      (a_heap 1 ∷ a_term (t_var 0) ∷ a_term (t_word 1) ∷ a_term (t_word 7) ∷ [])
      ≡ true
  pub one_too_many : fits_sorts (heaps 2) (a_heap 1 ∷ a_heap 0 ∷ a_heap 0 ∷ []) ≡ false
  pub words_of_a_pair : count_of_words (m_pair m_word (m_pair m_unit (m_pair m_bool (m_var 3)))) ≡ 2
  pub uses_of_a_variable : uses_of 3 (m_pair (m_var 3) (m_pair (m_var 2) (m_var 3))) ≡ 2
