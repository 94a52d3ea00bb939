-- Worked examples of substitution.
use Rattle.std.specs.Prelude.{◌≡◌, ℕ, true, false, Some}
use Rattle.htt_syntax.specs.declared.mono.Op.TheVariants.{Add, Lt}
use Rattle.htt_syntax.specs.Trees.{TermTree, CompTree, TripleTree, m_word, m_bool, m_loc, m_pair, m_var, y_mono, y_fun}
use Rattle.htt_syntax.specs.Trees.{y_all, y_hoare, triple, t_var, t_val, t_app, t_inst, t_lam, t_lam_t, t_do, t_fix}
use Rattle.htt_syntax.specs.Trees.{t_word, t_bool, t_pair, t_fst, t_bin, t_eq, t_sel, t_ann, x_param, x_body, c_ret}
use Rattle.htt_syntax.specs.Trees.{c_step, s_run, s_alloc, s_get, s_set, s_if, f_tt, f_and, f_cell, f_same, f_eq}
use Rattle.htt_syntax.specs.Trees.{f_all_h, f_ex_t, f_emp}
use Rattle.theory_canonical.specs.Skeletons.{sk_o, sk_c, sk_arrow, sk_all}
use Rattle.theory_substitution.specs.Monotypes.{put_mono_term, put_mono_ty, put_mono_comp}
use Rattle.theory_substitution.specs.Substitution.{SubTerm, SubComp, SubTy, SubFormula, App, Bind}

abbrev pub plus : TermTree → ℕ → TermTree
plus term n = t_bin Add term (t_word n)

-- fun f . fun x . f (f x)
abbrev pub twice : TermTree
twice = t_lam (t_lam (t_app (t_var 1) (t_app (t_var 1) (t_var 0))))

abbrev pub plus_one : TermTree
plus_one = t_lam (plus (t_var 0) 1)

abbrev pub plus_two : TermTree
plus_two = t_lam (plus (plus (t_var 0) 1) 1)

abbrev pub plus_four : TermTree
plus_four = t_lam (plus (plus (plus (plus (t_var 0) 1) 1) 1) 1)

-- twice (twice (fun y . y + 1)) 0
pub record Applications : Type 0 where
  pub once : App twice (sk_arrow sk_o sk_o) plus_one plus_two
  pub again : App twice (sk_arrow sk_o sk_o) plus_two plus_four
  pub at_zero : App plus_four sk_o (t_word 0) (t_word 4)
  pub no_function : (r : TermTree) → App (t_var 0) (sk_arrow sk_o sk_o) plus_one r → ⊥

pub record Terms : Type 0 where
  pub head : SubTerm plus_one (sk_arrow sk_o sk_o) 0 (t_app (t_var 0) (t_word 3)) (t_word 4)
  pub gap_closed :
      SubTerm (t_word 7) sk_o 1 (t_pair (t_var 0) (t_pair (t_var 1) (t_var 2)))
      (t_pair (t_var 0) (t_pair (t_word 7) (t_var 1)))
  pub no_capture :
      SubTerm (t_var 4) sk_o 0 (t_lam (t_bin Add (t_var 0) (t_var 1))) (t_lam (t_bin Add (t_var 0) (t_var 5)))
  pub zero_added : SubTerm (t_var 5) sk_o 0 (plus (t_var 0) 0) (plus (t_var 5) 0)
  pub choice : SubTerm (t_bool true) sk_o 0 (t_sel m_word (t_var 0) (t_word 1) (t_var 3)) (t_word 1)
  pub part : SubTerm (t_pair (t_word 2) (t_var 6)) sk_o 0 (t_fst (t_var 0)) (t_word 2)
  pub other_monotype :
      SubTerm (t_word 2) sk_o 0 (t_eq (m_var 1) (t_var 0) (t_word 2)) (t_eq (m_var 0) (t_word 2) (t_word 2))
  -- (fun [a] . fun x . eq[a](x, 3)) [word] 3
  pub instance :
      SubTerm (t_lam_t (t_lam (t_eq (m_var 1) (t_var 0) (t_word 3)))) (sk_all (sk_arrow sk_o sk_o)) 0
      (t_app (t_inst (t_var 0) m_word) (t_word 3)) (t_bool true)
  pub no_annotation : (r : TermTree) → SubTerm (t_word 2) sk_o 0 (t_ann (t_var 0) (y_mono m_word)) r → ⊥

pub record Monotypes : Type 0 where
  pub folded_at_words : put_mono_term m_word 0 (t_eq (m_var 0) (t_word 2) (t_word 2)) ≡ t_bool true
  pub unfolded_at_places : put_mono_term m_loc 0 (t_eq (m_var 0) (t_word 2) (t_word 2))
      ≡ t_eq m_loc (t_word 2) (t_word 2)
  pub identity : put_mono_term m_word 0 (t_lam (t_var 0)) ≡ t_lam (t_var 0)
  -- a pair that is put isn't expanded
  pub variable : put_mono_term (m_pair m_word m_word) 1 (t_var 0) ≡ t_var 0
  pub gap_closed : put_mono_term (m_var 0) 1 (t_eq (m_var 1) (t_var 0) (t_var 2)) ≡ t_eq (m_var 0) (t_var 0) (t_var 1)
  pub no_capture : put_mono_term (m_var 4) 0 (t_lam (t_eq (m_var 1) (t_var 0) (t_var 0)))
      ≡ t_lam (t_eq (m_var 5) (t_var 0) (t_var 0))

-- do z <- alloc[word] 5; ret (z, 1)
abbrev pub fresh : CompTree
fresh = c_step (s_alloc m_word (t_word 5)) (c_ret (t_pair (t_var 0) (t_word 1)))

pub record Computations : Type 0 where
  pub returned : Bind (c_ret (t_word 2)) (c_ret (plus (t_var 0) 1)) (c_ret (t_word 3))
  -- y <- get[word] l; ret y before set[word] l y, where l is the variable 0
  pub read_and_written :
      Bind (c_step (s_get m_word (t_var 0)) (c_ret (t_var 0)))
      (c_step (s_set m_word (t_var 1) (t_var 0)) (c_ret (t_var 0)))
      (c_step (s_get m_word (t_var 0)) (c_step (s_set m_word (t_var 1) (t_var 0)) (c_ret (t_var 0))))
  -- y <- x; ret fst y, where fresh is put for x
  pub spliced :
      SubComp (t_do fresh) sk_c 0 (c_step (s_run (t_var 0) (Some (m_pair m_loc m_word))) (c_ret (t_fst (t_var 0))))
      (c_step (s_alloc m_word (t_word 5)) (c_ret (t_var 0)))
  pub called :
      SubComp (t_word 3) sk_o 0 (c_step (s_run (t_app (t_val 0) (t_var 0)) (Some m_word)) (c_ret (t_var 1)))
      (c_step (s_run (t_app (t_val 0) (t_word 3)) (Some m_word)) (c_ret (t_word 3)))

-- a recursive function stays a head, though its argument is a literal
abbrev pub recursive : TermTree
recursive = t_fix 0 (x_param (y_mono m_word) (x_body (triple f_tt m_word f_tt) (c_ret (t_var 1))))

pub record Others : Type 0 where
  pub recursion_stays :
      SubComp (t_word 3) sk_o 0 (c_step (s_run (t_app recursive (t_var 0)) (Some m_word)) (c_ret (t_var 0)))
      (c_step (s_run (t_app recursive (t_word 3)) (Some m_word)) (c_ret (t_var 0)))
  -- all h : heap . Cell[word](h, y, x), where 3 is put for x
  pub formula :
      SubFormula (t_word 3) sk_o 0 (f_all_h (f_cell m_word 0 (t_var 2) (t_var 1)))
      (f_all_h (f_cell m_word 0 (t_var 1) (t_word 3)))

-- {l |->[word] x} y : word {y =[word] x /\ Same(mem, init)}, where x is the variable 0 and l the variable 1
abbrev pub reads : TermTree → TermTree → TermTree → TripleTree
reads place value outer = triple (f_cell m_word 0 place value) m_word (f_and (f_eq m_word (t_var 2) outer) (f_same 0 1))

-- fun n . do l <- alloc[word] n; ret l
abbrev pub allocates : TermTree
allocates = t_lam (t_do (c_step (s_alloc m_word (t_var 0)) (c_ret (t_var 0))))

pub record Binders : Type 0 where
  -- 3 is put for x under mem, and under the result, init and mem
  pub in_a_triple :
      SubTy (t_word 3) sk_o 0 (y_hoare (reads (t_var 2) (t_var 1) (t_var 3)))
      (y_hoare (reads (t_var 1) (t_word 3) (t_word 3)))
  -- and so is the variable l, which is renamed past them
  pub renamed_in_a_triple :
      SubTy (t_var 0) sk_o 0 (y_hoare (reads (t_var 2) (t_var 1) (t_var 3)))
      (y_hoare (reads (t_var 1) (t_var 1) (t_var 3)))
  -- (y : word) -> {Emp(mem)} z : word {z =[word] x}
  pub in_a_function_type :
      SubTy (t_word 3) sk_o 0
      (y_fun (y_mono m_word) (y_hoare (triple (f_emp 0) m_word (f_eq m_word (t_var 2) (t_var 4)))))
      (y_fun (y_mono m_word) (y_hoare (triple (f_emp 0) m_word (f_eq m_word (t_var 2) (t_word 3)))))
  -- ex y : word . x < y =[bool] true: another y that is put for x isn't captured
  pub no_capture :
      SubFormula (t_var 0) sk_o 0 (f_ex_t m_word (f_eq m_bool (t_bin Lt (t_var 1) (t_var 0)) (t_bool true)))
      (f_ex_t m_word (f_eq m_bool (t_bin Lt (t_var 1) (t_var 0)) (t_bool true)))
  -- fix f (n : word) : {tt} z : word {tt} . y <- f x; ret y, where 3 is put for x
  pub under_a_recursion :
      SubTerm (t_word 3) sk_o 0
      (t_fix 9 (x_param (y_mono m_word)
      (x_body (triple f_tt m_word f_tt) (c_step (s_run (t_app (t_var 0) (t_var 2)) (Some m_word)) (c_ret (t_var 0))))))
      (t_fix 9 (x_param (y_mono m_word)
      (x_body (triple f_tt m_word f_tt) (c_step (s_run (t_app (t_var 0) (t_word 3)) (Some m_word)) (c_ret (t_var 0))))))
  -- f (f (f (f 0))), where fun y . y + 1 is put for f
  pub four_times :
      SubTerm plus_one (sk_arrow sk_o sk_o) 0
      (t_app (t_var 0) (t_app (t_var 0) (t_app (t_var 0) (t_app (t_var 0) (t_word 0))))) (t_word 4)
  -- y <- f 3; ret y, where allocates is put for f
  pub called :
      SubComp allocates (sk_arrow sk_o sk_c) 0
      (c_step (s_run (t_app (t_var 0) (t_word 3)) (Some m_loc)) (c_ret (t_var 0)))
      (c_step (s_alloc m_word (t_word 3)) (c_ret (t_var 0)))
  -- a test that comes to be a literal stays
  pub no_branch_taken :
      SubComp (t_bool true) sk_o 0
      (c_step (s_if m_word (t_var 0) (c_ret (t_word 1)) (c_ret (t_word 2))) (c_ret (t_var 0)))
      (c_step (s_if m_word (t_bool true) (c_ret (t_word 1)) (c_ret (t_word 2))) (c_ret (t_var 0)))
  -- the rest of a computation goes past the steps that are put before it
  pub bound :
      Bind fresh (c_step (s_alloc m_loc (t_var 1)) (c_ret (t_fst (t_var 1))))
      (c_step (s_alloc m_word (t_word 5)) (c_step (s_alloc m_loc (t_var 1)) (c_ret (t_var 1))))
  -- word is put for a in [b] -> (x : a) -> {tt} y : b {tt}
  pub monotype_in_a_type :
      put_mono_ty m_word 0 (y_all (y_fun (y_mono (m_var 1)) (y_hoare (triple f_tt (m_var 1) f_tt))))
      ≡ y_all (y_fun (y_mono m_word) (y_hoare (triple f_tt (m_var 1) f_tt)))
  -- bool is put for a in `l <- alloc[a] x; ret eq[a](true, false)`, where x is the variable 1
  pub monotype_in_a_computation :
      put_mono_comp m_bool 0
      (c_step (s_alloc (m_var 0) (t_var 1)) (c_ret (t_eq (m_var 1) (t_bool true) (t_bool false))))
      ≡ c_step (s_alloc m_bool (t_var 0)) (c_ret (t_bool false))
