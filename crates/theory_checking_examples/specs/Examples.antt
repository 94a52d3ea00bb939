-- Phrases and items, and what they come to, worked out by hand: each with its text, whose bytes count from 0.
use Rattle.std.specs.Prelude.{◌≡◌, ℕ, zero, suc, [], ◌∷◌, true, length, Result, Ok, Err, Some, None}
use Rattle.htt_syntax_words.specs.declared.words.Rule.TheVariants.{Function, Instance, Pair, Project, Eq, Synth, Fun}
use Rattle.htt_syntax_words.specs.declared.words.Rule.TheVariants.{Do, Mismatch, Pure, Sort, Ending, Run, Index}
use Rattle.htt_syntax_words.specs.declared.words.Which.TheVariants.{Context as Entries, Mono}
use Rattle.htt_syntax.specs.declared.mono.Op.TheVariants.{Add}
use Rattle.htt_syntax.specs.Trees.{MonoTree, TermTree, m_word, m_bool, m_unit, m_pair, y_mono, y_fun, y_hoare}
use Rattle.htt_syntax.specs.Trees.{y_at, triple, t_var, t_def, t_app, t_inst, t_lam, t_do, t_word, t_bool, t_unit}
use Rattle.htt_syntax.specs.Trees.{t_pair}
use Rattle.htt_syntax.specs.Trees.{t_fst, t_bin, t_eq, t_ann, t_made, t_at, c_ret, c_step, s_run, f_tt, f_all_h, f_emp}
use Rattle.htt_syntax.specs.Trees.{f_eq, f_at, f_rec, no_terms}
use Rattle.theory_typing.specs.Contexts.{en_term, Context, Environment}
use Rattle.theory_typing.specs.Typing.{in_program}
use Rattle.theory_typing.specs.Laws.{none, word_to_word, sum_goal}
use Rattle.theory_items.specs.Items.{ItemTree, i_abbreviation, i_def, i_val, i_rec, adds_val, adds_rec}
use Rattle.theory_items.specs.Examples.{gives_five}
use Rattle.theory_checking.specs.Stops.{Stop, refused, passed}
use Rattle.theory_checking.specs.Checking.{FormulaComesTo, TermComesTo}
use Rattle.theory_checking_items.specs.Items.{Checked, checked, ItemComesTo}

-- `def a : word = ` and a term, which begins at byte 15
abbrev pub WordComesTo : TermTree → Result Checked Stop → Type 0
WordComesTo M = ItemComesTo none [] 0 (i_def (y_at 8 (y_mono m_word)) M)

-- after `def f : (x : word) -> word = fun x . x`
abbrev pub with_f : Environment
with_f = record { vals = []; defs = (word_to_word, t_lam (t_var 0)) ∷ []; recs = [] }

-- word * (word * .. (word * word)) with so many pairs: one more node than twice that
unfoldable pub wide : ℕ → MonoTree
wide zero = m_word
wide (suc n) = m_pair m_word (wide n)

pub record RefusedTerms : Type 0 where
  -- (fun x . x) 1
  pub function_for_a_head :
      WordComesTo (t_at 15 (t_app (t_at 16 (t_lam (t_at 24 (t_var 0)))) (t_at 27 (t_word 1)))) (Err (refused Synth 16))
  -- fun x . x
  pub function_for_a_word : WordComesTo (t_at 15 (t_lam (t_at 23 (t_var 0)))) (Err (refused Fun 15))
  -- (1, true)
  pub pair_for_a_word :
      WordComesTo (t_at 15 (t_pair (t_at 16 (t_word 1)) (t_at 19 (t_bool true)))) (Err (refused Pair 15))
  -- do ret 1
  pub do_for_a_word : WordComesTo (t_at 15 (t_do (c_ret (t_at 22 (t_word 1))))) (Err (refused Do 15))
  -- true
  pub truth_for_a_word : WordComesTo (t_at 15 (t_bool true)) (Err (refused Mismatch 15))
  -- (true : word)
  pub truth_annotated :
      WordComesTo (t_at 15 (t_ann (t_at 16 (t_bool true)) (y_at 23 (y_mono m_word)))) (Err (refused Mismatch 16))
  -- def a : bool = (1 : word)
  pub word_for_a_truth :
      ItemComesTo none [] 0
      (i_def (y_at 8 (y_mono m_bool)) (t_at 15 (t_ann (t_at 16 (t_word 1)) (y_at 20 (y_mono m_word)))))
      (Err (refused Mismatch 15))
  -- 1 (true true): the head comes before the argument
  pub head_first :
      WordComesTo
      (t_at 15 (t_app (t_at 15 (t_word 1)) (t_at 18 (t_app (t_at 18 (t_bool true)) (t_at 23 (t_bool true))))))
      (Err (refused Function 15))
  -- fst 1
  pub part_of_a_word : WordComesTo (t_at 15 (t_fst (t_at 19 (t_word 1)))) (Err (refused Project 15))
  -- fst (f, true true): the first part is no monotype, which comes before the second part
  pub function_in_a_pair :
      ItemComesTo with_f [] 0 (i_def (y_at 8 (y_mono m_word))
      (t_at 15
      (t_fst (t_at 19 (t_pair (t_at 20 (t_def 0)) (t_at 23 (t_app (t_at 23 (t_bool true)) (t_at 28 (t_bool true)))))))))
      (Err (refused Pair 19))
  -- 3 [T] with T of 65 nodes: the head comes before the monotype
  pub instance_of_a_word : WordComesTo (t_at 15 (t_inst (t_at 15 (t_word 3)) (wide 32))) (Err (refused Instance 15))
  -- eq[T]((), ()): the monotype's limit comes before the comparison
  pub wide_comparison : WordComesTo (t_at 15 (t_eq (wide 32) (t_at 21 t_unit) (t_at 25 t_unit))) (Err (passed Mono))
  -- eq[unit]((), ())
  pub comparison_of_units : WordComesTo (t_at 15 (t_eq m_unit (t_at 24 t_unit) (t_at 28 t_unit))) (Err (refused Eq 15))
  -- a variable without an entry, a definition without an item, a made function
  pub no_entry : TermComesTo none in_program [] 7 (t_var 0) None (Err (refused Sort 7))
  pub no_item : TermComesTo none in_program [] 7 (t_def 0) None (Err (refused Sort 7))
  pub made_function : TermComesTo none in_program [] 7 (t_made 0 no_terms) None (Err (refused Sort 7))

pub record RefusedFormulas : Type 0 where
  -- (1 2) =[T] 1 with T of 65 nodes: the monotype comes before the sides
  pub wide_equation :
      FormulaComesTo none [] 0
      (f_at 0 (f_eq (wide 32) (t_at 1 (t_app (t_at 1 (t_word 1)) (t_at 3 (t_word 2)))) (t_at 11 (t_word 1))))
      (Err (passed Mono))
  -- 1 (do ret 0) =[word] 2
  pub head_before_do :
      FormulaComesTo none [] 0 (f_at 0
      (f_eq m_word (t_at 0 (t_app (t_at 0 (t_word 1)) (t_at 3 (t_do (c_ret (t_at 10 (t_word 0)))))))
      (t_at 21 (t_word 2)))) (Err (refused Function 0))
  -- (do ret 0) =[word] 2
  pub do_in_a_formula :
      FormulaComesTo none [] 0 (f_at 0 (f_eq m_word (t_at 1 (t_do (c_ret (t_at 8 (t_word 0))))) (t_at 19 (t_word 2))))
      (Err (refused Pure 1))
  -- Emp(x) of a word x
  pub word_for_a_heap : FormulaComesTo none (en_term (y_mono m_word) ∷ []) 4 (f_emp 0) (Err (refused Sort 4))
  -- a recursive atom without a predicate
  pub no_predicate : FormulaComesTo none [] 4 (f_rec 0 0 (t_word 0) no_terms) (Err (refused Sort 4))
  -- all h : heap . tt, under 4,096 entries
  pub no_room : (g : Context) → length g ≡ 4096 → FormulaComesTo none g 4 (f_all_h f_tt) (Err (passed Entries))

-- pred bad induct n () = { tt } { !bad(..;) } with an index, which begins at byte 37
abbrev pub bad : TermTree → ItemTree
bad index =
    i_rec (record { params = []; at_zero = f_at 25 f_tt; at_next = f_at 32 (f_rec 0 0 (t_at 37 index) no_terms) })

pub record RefusedItems : Type 0 where
  -- val a : (x : word) -> word = ..
  pub no_ending : (M : TermTree)
      → ItemComesTo none [] 0 (i_val (y_at 8 (y_fun (y_at 13 (y_mono m_word)) (y_at 22 (y_mono m_word)))) M)
      (Err (refused Ending 8))
  -- val a : (f : {true =[word] 1} x : word {tt}) -> word = ..: the type is formed first
  pub type_first : (M : TermTree)
      → ItemComesTo none [] 0 (i_val
      (y_at 8 (y_fun (y_at 13
      (y_hoare (triple (f_at 14 (f_eq m_word (t_at 14 (t_bool true)) (t_at 27 (t_word 1)))) m_word (f_at 40 f_tt))))
      (y_at 48 (y_mono m_word)))) M) (Err (refused Mismatch 14))
  -- val a : {tt} x : word {tt} = do y <- 3; ret y
  pub run_of_a_word :
      ItemComesTo none [] 0 (i_val (y_at 8 (y_hoare (triple (f_at 9 f_tt) m_word (f_at 23 f_tt))))
      (t_at 29 (t_do (c_step (s_run (t_at 37 (t_word 3)) None) (c_ret (t_at 44 (t_var 0))))))) (Err (refused Run 37))
  -- a body under 4,095 entries: there is no room for its heaps
  pub no_room : (g : Context)
      → length g ≡ 4095
      → TermComesTo none in_program g 7 (t_do (c_ret (t_word 0))) (Some (y_hoare (triple f_tt m_word f_tt)))
      (Err (passed Entries))
  -- type a = T of 65 nodes
  pub wide_abbreviation : ItemComesTo none [] 0 (i_abbreviation (wide 32)) (Err (passed Mono))
  -- n + 1, and n + 0: the index counts as a canonical term
  pub other_index :
      ItemComesTo none [] 0 (bad (t_bin Add (t_at 37 (t_var 1)) (t_at 41 (t_word 1)))) (Err (refused Index 32))
  pub not_folded :
      ItemComesTo none [] 0 (bad (t_bin Add (t_at 37 (t_var 1)) (t_at 41 (t_word 0)))) (Err (refused Index 32))

pub record CheckedItems : Type 0 where
  -- val main : {tt} x : word {x =[word] 5} = do ret 2 + 3
  pub sum :
      ItemComesTo none [] 0
      (i_val (y_at 11 gives_five) (t_at 41 (t_do (c_ret (t_at 48 (t_bin Add (t_word 2) (t_word 3)))))))
      (Ok (checked (adds_val gives_five (t_do (c_ret (t_word 5)))) (sum_goal ∷ [])))
  -- fst (n, 3) is folded to n
  pub folded_index :
      ItemComesTo none [] 0 (bad (t_fst (t_at 41 (t_pair (t_at 42 (t_var 1)) (t_at 45 (t_word 3))))))
      (Ok (checked (adds_rec (record { params = []; at_zero = f_tt; at_next = f_rec 0 0 (t_var 1) no_terms })) []))
