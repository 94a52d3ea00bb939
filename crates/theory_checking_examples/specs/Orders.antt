-- Which of two premises that both fail refuses, and what stands just within a limit, found by hand.
use Rattle.std.specs.Prelude.{◌≡◌, ℕ, zero, suc, [], ◌∷◌, true, length, Ok, Err, Some, None}
use Rattle.htt_syntax_words.specs.declared.words.Rule.TheVariants.{Mismatch, Sort}
use Rattle.htt_syntax_words.specs.declared.words.Which.TheVariants.{Depth, Mono}
use Rattle.htt_syntax.specs.Trees.{FormulaTree, m_word, m_pair, m_var, y_mono, y_fun, y_all, y_hoare, triple, t_var}
use Rattle.htt_syntax.specs.Trees.{t_def, t_app, t_inst, t_lam, t_lam_t, t_do, t_word, t_bool, t_at, c_ret, s_get, s_set}
use Rattle.htt_syntax.specs.Trees.{s_if, f_tt, f_and, f_all_h, f_emp, f_cell, f_rec, no_terms, more_terms}
use Rattle.theory_typing.specs.Contexts.{en_heap, en_term, Context, Environment}
use Rattle.theory_typing.specs.Typing.{in_program}
use Rattle.theory_typing.specs.Laws.{none, word_to_word}
use Rattle.theory_items.specs.Items.{i_abbreviation, adds_nothing}
use Rattle.theory_checking.specs.Stops.{refused, passed}
use Rattle.theory_checking.specs.Limits.{MonoComesTo}
use Rattle.theory_checking.specs.Results.{typed}
use Rattle.theory_checking.specs.Checking.{TripleComesTo, FormulaComesTo, TermComesTo, StepComesTo}
use Rattle.theory_checking_items.specs.Items.{checked, ItemComesTo}
use Rattle.theory_checking_examples.specs.Examples.{with_f, wide}

-- after `def f : [a] -> (x : a * a) -> word = fun [a] . fun x . 0`
abbrev pub with_pairs : Environment
with_pairs = record {
  vals = [];
  defs = (y_all (y_fun (y_mono (m_pair (m_var 0) (m_var 0))) (y_mono m_word)), t_lam_t (t_lam (t_word 0))) ∷ [];
  recs = [];
}

-- after `pred p induct n (x : word) = { tt } { tt }`
abbrev pub with_p : Environment
with_p = record { vals = []; defs = []; recs = record { params = m_word ∷ []; at_zero = f_tt; at_next = f_tt } ∷ [] }

-- tt /\ (tt /\ .. (tt /\ tt)) with so many operands before the last
unfoldable pub deep : ℕ → FormulaTree
deep zero = f_tt
deep (suc n) = f_and f_tt (deep n)

pub record TermsInOrder : Type 0 where
  -- a monotype of 67 nodes with a variable that isn't there
  pub sort_before_width : MonoComesTo [] 7 (m_pair (m_var 0) (wide 32)) (Err (refused Sort 7))
  -- f true
  pub argument :
      TermComesTo with_f in_program [] 7 (t_at 7 (t_app (t_at 7 (t_def 0)) (t_at 9 (t_bool true)))) None
      (Err (refused Mismatch 9))
  -- f [T] with T of 33 nodes: T is within its limit, and T * T isn't
  pub wide_result : TermComesTo with_pairs in_program [] 7 (t_at 7 (t_inst (t_at 7 (t_def 0)) (wide 16))) None
      (Err (passed Mono))
  -- fun x . fun y . y
  pub under_a_function :
      TermComesTo none in_program [] 7 (t_at 7 (t_lam (t_at 15 (t_lam (t_at 23 (t_var 0))))))
      (Some (y_fun (y_mono m_word) word_to_word))
      (Ok (typed (y_fun (y_mono m_word) word_to_word) (t_lam (t_lam (t_var 0))) []))

pub record FormulasInOrder : Type 0 where
  -- Cell[word](x, true, true), x a word: the heap comes before the place
  pub heap_before_place :
      FormulaComesTo none (en_term (y_mono m_word) ∷ []) 4 (f_cell m_word 0 (t_at 9 (t_bool true)) (t_at 11 (t_bool true)))
      (Err (refused Sort 4))
  -- Cell[word](h, true, true): the place comes before the value
  pub place_before_value :
      FormulaComesTo none (en_heap ∷ []) 4 (f_cell m_word 0 (t_at 9 (t_bool true)) (t_at 11 (t_bool true)))
      (Err (refused Mismatch 9))
  -- !p(true;): the index comes before the count of arguments, and this before the arguments
  pub index_before_count : FormulaComesTo with_p (en_heap ∷ []) 4 (f_rec 0 0 (t_at 9 (t_bool true)) no_terms)
      (Err (refused Mismatch 9))
  pub count_before_arguments : FormulaComesTo with_p (en_heap ∷ []) 4
      (f_rec 0 0 (t_at 9 (t_word 1)) (more_terms (t_at 11 (t_bool true)) (more_terms (t_at 17 (t_word 1)) no_terms)))
      (Err (refused Sort 4))
  pub arguments : FormulaComesTo with_p (en_heap ∷ []) 4
      (f_rec 0 0 (t_at 9 (t_word 1)) (more_terms (t_at 11 (t_bool true)) no_terms)) (Err (refused Mismatch 11))
  -- {tt} x : T {Emp(y)} with T of 65 nodes and y no heap: the monotype comes before the postcondition
  pub mono_before_post : TripleComesTo none [] 7 (triple f_tt (wide 32) (f_emp 5)) (Err (passed Mono))

pub record StepsInOrder : Type 0 where
  -- get[T] true with T of 65 nodes
  pub mono_before_place : StepComesTo none [] 7 f_tt (s_get (wide 32) (t_at 9 (t_bool true))) (Err (passed Mono))
  -- set[word] true true
  pub place_before_value :
      StepComesTo none [] 7 f_tt (s_set m_word (t_at 9 (t_bool true)) (t_at 14 (t_bool true))) (Err (refused Mismatch 9))
  -- if [word] 1 { ret true } { ret true }
  pub test_before_branches :
      StepComesTo none [] 7 f_tt
      (s_if m_word (t_at 9 (t_word 1)) (c_ret (t_at 17 (t_bool true))) (c_ret (t_at 30 (t_bool true))))
      (Err (refused Mismatch 9))
  -- if [word] true { ret true } { ret true }
  pub first_branch_first :
      StepComesTo none [] 7 f_tt
      (s_if m_word (t_at 9 (t_bool true)) (c_ret (t_at 20 (t_bool true))) (c_ret (t_at 33 (t_bool true))))
      (Err (refused Mismatch 20))
  -- do ret true against {F} x : word {tt} with F of depth 1,000: the start has one level more, and comes first
  pub start_before_result :
      TermComesTo none in_program [] 7 (t_at 7 (t_do (c_ret (t_at 14 (t_bool true)))))
      (Some (y_hoare (triple (deep 999) m_word f_tt))) (Err (passed Depth))

pub record WithinLimits : Type 0 where
  -- all h : heap . tt, under 4,095 entries
  pub last_entry : (g : Context) → length g ≡ 4095 → FormulaComesTo none g 4 (f_all_h f_tt) (Ok (f_all_h f_tt))
  -- type a = T of 63 nodes
  pub widest : ItemComesTo none [] 0 (i_abbreviation (wide 31)) (Ok (checked adds_nothing []))
