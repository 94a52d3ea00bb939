-- Worked examples of skeletons, folding, eta-expansions and canonical trees.
use Rattle.std.specs.Prelude.{◌≡◌, [], ◌∷◌, true, false, Some, None}
use Rattle.htt_syntax.specs.declared.mono.Op.TheVariants.{Add, Sub, Xor, Shl, Shr, Lt}
use Rattle.htt_syntax.specs.Trees.{TyTree, FixTree, m_word, m_bool, m_loc, m_var, y_mono, y_fun, y_all, y_hoare, triple}
use Rattle.htt_syntax.specs.Trees.{t_var, t_val, t_app, t_inst, t_lam, t_lam_t, t_do, t_fix, t_word, t_bool, t_loc}
use Rattle.htt_syntax.specs.Trees.{t_unit, t_pair, t_fst, t_snd, t_not, t_bin, t_eq, t_sel, t_ann, t_made, t_at}
use Rattle.htt_syntax.specs.Trees.{x_param, x_body, c_ret, c_step, s_run, s_alloc, s_get, s_free, s_if, s_claim, f_tt}
use Rattle.htt_syntax.specs.Trees.{f_and, f_all_t, f_ex_h, f_emp, f_cell, f_same, f_eq, no_terms, more_terms}
use Rattle.theory_canonical.specs.Skeletons.{sk_o, sk_c, sk_arrow, sk_all, skeleton}
use Rattle.theory_canonical.specs.Folding.{contractum, folding}
use Rattle.theory_canonical.specs.Contexts.{as_term, as_heap, as_open, Heads}
use Rattle.theory_canonical.specs.Canonical.{IsCanonical, IsNeutral, IsCanonicalFix, IsCanonicalComp, IsCanonicalStep}
use Rattle.theory_canonical.specs.Canonical.{IsCanonicalTy, IsCanonicalTriple, IsCanonicalFormula}
use Rattle.theory_canonical.specs.Eta.{eta}

abbrev pub word_to_word : TyTree
word_to_word = y_fun (y_mono m_word) (y_mono m_word)

-- [a] -> (x : a) -> {tt} y : a {tt}
abbrev pub runner : TyTree
runner = y_all (y_fun (y_mono (m_var 0)) (y_hoare (triple f_tt (m_var 1) f_tt)))

abbrev pub no_heads : Heads
no_heads = record { vals = []; made = [] }

pub record TheSkeletons : Type 0 where
  pub of_function : skeleton word_to_word ≡ sk_arrow sk_o sk_o
  pub of_runner : skeleton runner ≡ sk_all (sk_arrow sk_o sk_c)

pub record TheFoldings : Type 0 where
  pub sum : folding (t_bin Add (t_word 2) (t_word 3)) ≡ t_word 5
  pub sum_that_wraps : folding (t_bin Add (t_word 18446744073709551615) (t_word 2)) ≡ t_word 1
  pub difference_that_wraps : folding (t_bin Sub (t_word 0) (t_word 1)) ≡ t_word 18446744073709551615
  pub bits : folding (t_bin Xor (t_word 6) (t_word 3)) ≡ t_word 5
  -- a count of 65 counts as 1
  pub moved_up : folding (t_bin Shl (t_word 3) (t_word 65)) ≡ t_word 6
  pub moved_down : folding (t_bin Shr (t_word 7) (t_word 1)) ≡ t_word 3
  pub order : folding (t_bin Lt (t_word 2) (t_word 3)) ≡ t_bool true
  pub negation : folding (t_not (t_bool true)) ≡ t_bool false
  pub equal_words : folding (t_eq m_word (t_word 2) (t_word 2)) ≡ t_bool true
  pub other_places : folding (t_eq m_loc (t_loc 2) (t_loc 3)) ≡ t_bool false
  pub equal_truths : folding (t_eq m_bool (t_bool false) (t_bool false)) ≡ t_bool true
  pub part : folding (t_snd (t_pair (t_word 2) t_unit)) ≡ t_unit
  pub choice : folding (t_sel m_word (t_bool false) (t_word 2) (t_var 0)) ≡ t_var 0

-- What isn't folded: zero added, literals at another monotype, parts of what isn't a pair, a choice
-- between equals, a pair of the parts of one.
pub record NoFoldings : Type 0 where
  pub zero_added : contractum (t_bin Add (t_var 0) (t_word 0)) ≡ None
  pub at_a_variable : contractum (t_eq (m_var 0) (t_word 2) (t_word 2)) ≡ None
  pub at_another : contractum (t_eq m_loc (t_word 2) (t_word 2)) ≡ None
  pub part_of_a_word : contractum (t_fst (t_word 2)) ≡ None
  pub choice_of_one : contractum (t_sel m_word (t_var 0) (t_word 2) (t_word 2)) ≡ None
  pub twice_negated : contractum (t_not (t_not (t_var 0))) ≡ None
  pub pair_of_parts : contractum (t_pair (t_fst (t_var 0)) (t_snd (t_var 0))) ≡ None

pub record TheExpansions : Type 0 where
  pub at_a_word : eta (t_var 3) (y_mono m_word) ≡ t_var 3
  pub of_a_function : eta (t_var 0) word_to_word ≡ t_lam (t_app (t_var 1) (t_var 0))
  pub of_a_computation : eta (t_var 0) (y_hoare (triple f_tt m_word f_tt))
      ≡ t_do (c_step (s_run (t_var 0) (Some m_word)) (c_ret (t_var 0)))
  -- fun [a] . fun x . do y <- f [a] x; ret y
  pub of_a_runner : eta (t_var 0) runner
      ≡ t_lam_t
      (t_lam (t_do (c_step (s_run (t_app (t_inst (t_var 2) (m_var 1)) (t_var 0)) (Some (m_var 1))) (c_ret (t_var 0)))))
  -- fun g . f (fun x . g x)
  pub of_a_functional : eta (t_var 0) (y_fun word_to_word (y_mono m_word))
      ≡ t_lam (t_app (t_var 1) (t_lam (t_app (t_var 1) (t_var 0))))

pub record TheCanonical : Type 0 where
  pub identity : IsCanonical no_heads [] (t_lam (t_var 0)) (sk_arrow sk_o sk_o)
  pub part_of_a_word : IsCanonical no_heads [] (t_fst (t_word 2)) sk_o
  pub open_variable : IsCanonical no_heads (as_open ∷ []) (t_eq (m_var 0) (t_var 0) (t_var 0)) sk_o
  pub no_sum : IsCanonical no_heads [] (t_bin Add (t_word 2) (t_word 3)) sk_o → ⊥
  pub not_long : IsCanonical no_heads (as_term (sk_arrow sk_o sk_o) ∷ []) (t_var 0) (sk_arrow sk_o sk_o) → ⊥
  pub no_entry : IsCanonical no_heads [] (t_var 0) sk_o → ⊥
  pub no_redex : IsCanonical no_heads [] (t_app (t_lam (t_var 0)) (t_word 2)) sk_o → ⊥
  -- a variable of a function's argument is no monotype
  pub no_monotype : IsCanonical no_heads [] (t_lam (t_eq (m_var 0) (t_word 2) (t_word 2))) (sk_arrow sk_o sk_o) → ⊥
  pub no_val : IsCanonical no_heads [] (t_val 0) sk_o → ⊥

-- fix f (n : word) : {tt} z : word {tt} . b <- if [word] eq[word](n, 0) { ret 0 } { y <- f (n - 1); ret y }; ret b
abbrev pub count_down : FixTree
count_down =
    x_param (y_mono m_word) (x_body (triple f_tt m_word f_tt)
    (c_step (s_if m_word (t_eq m_word (t_var 1) (t_word 0)) (c_ret (t_word 0))
    (c_step (s_run (t_app (t_var 0) (t_bin Sub (t_var 1) (t_word 1))) (Some m_word)) (c_ret (t_var 0))))
    (c_ret (t_var 0))))

-- one made function, of a word, for two captured values
abbrev pub one_made : Heads
one_made = record { vals = []; made = sk_arrow sk_o sk_c ∷ [] }

pub record TheComputations : Type 0 where
  -- a recursive function is a head, and its eta-expansion is canonical
  pub recursion : IsNeutral no_heads [] (t_fix 9 count_down) (sk_arrow sk_o sk_c)
  pub expanded :
      IsCanonical no_heads []
      (t_lam (t_do (c_step (s_run (t_app (t_fix 9 count_down) (t_var 0)) (Some m_word)) (c_ret (t_var 0)))))
      (sk_arrow sk_o sk_c)
  -- a function of a word is no computation by itself
  pub no_other_skeleton : IsCanonicalFix no_heads [] (sk_arrow sk_o sk_c) count_down sk_c → ⊥
  pub made_head :
      IsNeutral one_made (as_term sk_o ∷ []) (t_made 0 (more_terms (t_word 1) (more_terms (t_var 0) no_terms)))
      (sk_arrow sk_o sk_c)
  pub no_such_made : IsNeutral no_heads [] (t_made 0 no_terms) sk_c → ⊥
  -- l <- alloc[word] 7; v <- get[word] l; u <- free[word] l; ret v
  pub one_cell :
      IsCanonicalComp no_heads []
      (c_step (s_alloc m_word (t_word 7))
      (c_step (s_get m_word (t_var 0)) (c_step (s_free m_word (t_var 1)) (c_ret (t_var 1)))))
  -- an `if` on a literal stays
  pub literal_test : IsCanonicalStep no_heads [] (s_if m_word (t_bool true) (c_ret (t_word 1)) (c_ret (t_word 2)))
  pub run_of_a_variable : IsCanonicalStep no_heads (as_term sk_c ∷ []) (s_run (t_var 0) (Some m_word))
  pub run_without_its_monotype : IsCanonicalStep no_heads (as_term sk_c ∷ []) (s_run (t_var 0) None) → ⊥
  pub no_run_of_a_do : IsCanonicalStep no_heads [] (s_run (t_do (c_ret (t_word 1))) (Some m_word)) → ⊥
  pub no_claim : IsCanonicalStep no_heads [] (s_claim f_tt) → ⊥
  -- a computation is a `do`, also where it is a variable
  pub not_long : IsCanonical no_heads (as_term sk_c ∷ []) (t_var 0) sk_c → ⊥
  pub no_annotation : IsCanonical no_heads [] (t_ann (t_word 2) (y_mono m_word)) sk_o → ⊥
  pub no_position : IsCanonical no_heads [] (t_at 3 (t_word 2)) sk_o → ⊥

pub record TheFormulas : Type 0 where
  -- {Emp(mem)} x : word {Same(init, mem) /\ x =[word] 1}
  pub spec :
      IsCanonicalTriple no_heads [] (triple (f_emp 0) m_word (f_and (f_same 1 0) (f_eq m_word (t_var 2) (t_word 1))))
  pub result_is_no_heap : IsCanonicalTriple no_heads [] (triple f_tt m_word (f_emp 2)) → ⊥
  -- [a] -> (x : a) -> {tt} y : a {tt}
  pub of_runner : IsCanonicalTy no_heads [] runner
  pub no_such_monotype : IsCanonicalTy no_heads [] (y_mono (m_var 0)) → ⊥
  -- all x : word . ex h : heap . Cell[word](h, l, x), where l is the innermost variable outside
  pub quantified :
      IsCanonicalFormula no_heads (as_term sk_o ∷ []) (f_all_t m_word (f_ex_h (f_cell m_word 0 (t_var 2) (t_var 1))))
  -- f (fun x . x) =[word] 3, where f is of (g : (x : word) -> word) -> word
  pub function_argument :
      IsCanonicalFormula no_heads (as_term (sk_arrow (sk_arrow sk_o sk_o) sk_o) ∷ [])
      (f_eq m_word (t_app (t_var 0) (t_lam (t_var 0))) (t_word 3))
  pub no_sum : IsCanonicalFormula no_heads [] (f_eq m_word (t_bin Add (t_word 2) (t_word 3)) (t_word 5)) → ⊥
  pub no_heap : IsCanonicalFormula no_heads (as_term sk_o ∷ []) (f_emp 0) → ⊥
  pub open_heap : IsCanonicalFormula no_heads (as_open ∷ as_heap ∷ []) (f_same 0 1)
