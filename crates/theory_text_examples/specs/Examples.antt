-- Texts that were worked out by hand.
use Rattle.std.specs.Prelude.{◌≡◌, List, [], ◌∷◌, true, Some, Ok, Err, codes}
use Rattle.htt_syntax.specs.declared.mono.Op.TheVariants.{Add, Sub, Mul}
use Rattle.htt_syntax.specs.Trees.{m_word, m_loc, m_var, y_mono, y_hoare, y_at, triple, t_var, t_def, t_app, t_inst}
use Rattle.htt_syntax.specs.Trees.{t_lam, t_do, t_fix, t_word, t_bool, t_loc, t_bin, t_ann, t_at, x_param, x_body}
use Rattle.htt_syntax.specs.Trees.{c_ret, c_step, s_claim, f_tt, f_and, f_all_t, f_ex_t, f_all_h, f_ex_h, f_emp, f_cell}
use Rattle.htt_syntax.specs.Trees.{f_block, f_join, f_same, f_eq, f_at, f_rec, no_terms, more_terms, a_heap, p_hyp}
use Rattle.htt_syntax.specs.Trees.{p_refl, p_second, p_both, p_app, p_inst, p_axiom, p_the, p_block, p_at, p_unfold}
use Rattle.htt_syntax.specs.Trees.{d_intro, d_open, d_at, b_then, b_end}
use Rattle.theory_typing.specs.Contexts.{en_term, en_heap}
use Rattle.theory_items.specs.Items.{i_abbreviation, i_pred, i_def, i_val, i_rec}
use Rattle.theory_text_names.specs.Stops.{unbound, duplicate, wrong_sort}
use Rattle.theory_text_names.specs.Scopes.{means_pred, means_rec}
use Rattle.theory_text_items.specs.Items.{an_item, a_proof}
use Rattle.theory_text_items.specs.Resolving.{file_comes, sequent_proof_comes}
use Rattle.theory_text_examples.specs.Short.{items_of}
use Rattle.theory_text_examples.specs.Texts.{own_body_decls, first_body_decls, hidden_by_index_decls}
use Rattle.theory_text_examples.specs.Texts.{index_in_params_decls, reserved_decls, declared_twice_decls}
use Rattle.theory_text_examples.specs.Texts.{too_few_mems_decls, counts_before_names_decls, no_heap_named_decls}
use Rattle.theory_text_examples.specs.Texts.{declared_is_no_heap_decls, name_behind_number_decls}
use Rattle.theory_text_examples.specs.Texts.{plain_form_of_recursive_decls, first_in_the_text_decls}
use Rattle.theory_text_examples.specs.Texts.{init_in_a_precondition_decls, abbreviation_in_params_decls}
use Rattle.theory_text_examples.specs.Texts.{mem_past_none_decls, params_see_no_params_decls, second_body_decls}
use Rattle.theory_text_examples.specs.Texts.{recursive_function_decls, proof_before_its_item_decls, brackets_decls}
use Rattle.theory_text_examples.specs.Texts.{separate_parts_decls, annotated_argument_decls, no_capture_decls}
use Rattle.theory_text_examples.specs.Texts.{at_a_heap_decls, monotypes_put_decls, second_part_proof}
use Rattle.theory_text_examples.specs.Texts.{own_hypothesis_proof, one_space_proof, leading_zero_proof}
use Rattle.theory_text_examples.specs.Texts.{entry_by_its_sort_proof, heap_as_term_proof, own_name_hides_proof}
use Rattle.theory_text_examples.specs.Texts.{no_current_heap_proof, no_mem_proof, opened_proof, a_heap_opened_proof}
use Rattle.theory_text_examples.specs.Texts.{unfolded_proof, not_visible_yet_proof, hypothesis_hides_proof}
use Rattle.theory_text_examples.specs.Texts.{axiom_names_are_free_proof, own_term_decls, equal_params_decls}
use Rattle.theory_text_examples.specs.Texts.{underscore_alone_decls, claimed_decls, outer_heaps_decls}
use Rattle.theory_text_examples.specs.Texts.{recursive_at_a_heap_decls, three_parts_decls, block_of_any_decls}
use Rattle.theory_text_examples.specs.Texts.{dropped_argument_decls, only_grouping_decls, chain_bytes_decls}
use Rattle.theory_text_examples.specs.Texts.{use_at_a_heap_proof, case_branches_proof, app_bytes_proof}

-- Texts that are refused, with the byte.
pub record Refusals : Type 0 where
  pub own_body :
      file_comes (codes "pred p() = !p()") own_body_decls ≡ Err (unbound 12)
  pub first_body :
      file_comes (codes "pred p induct n () = { !p(0;) } { tt }") first_body_decls ≡ Err (unbound 24)
  pub hidden_by_index : file_comes (codes "pred p induct p () = { tt } { !p(0;) }") hidden_by_index_decls
      ≡ Err (wrong_sort 31)
  pub index_in_params : file_comes (codes "pred p induct n (x : n) = { tt } { tt }") index_in_params_decls
      ≡ Err (unbound 21)
  pub reserved :
      file_comes (codes "def _x00 : word = 1") reserved_decls ≡ Err (duplicate 4)
  pub declared_twice :
      file_comes (codes "type t = word def t : word = 1") declared_twice_decls ≡ Err (duplicate 18)
  pub too_few_mems :
      file_comes (codes "pred p() = Emp(mem^1)") too_few_mems_decls ≡ Err (wrong_sort 15)
  pub counts_before_names :
      file_comes (codes "pred p() = tt val main : {!p(zz)} x : word {tt} = do ret 0") counts_before_names_decls
      ≡ Err (wrong_sort 26)
  pub no_heap_named : file_comes (codes "val main : {Emp(a)} x : word {tt} = do ret 0") no_heap_named_decls
      ≡ Err (unbound 16)
  pub declared_is_no_heap :
      file_comes (codes "def a : word = 1 val main : {Emp(a)} x : word {tt} = do ret 0") declared_is_no_heap_decls
      ≡ Err (wrong_sort 33)
  pub name_behind_number :
      file_comes (codes "def a : word = 1a") name_behind_number_decls ≡ Err (unbound 16)
  pub plain_form_of_recursive :
      file_comes (codes "pred p induct n () = { tt } { tt } pred q() = !p()") plain_form_of_recursive_decls
      ≡ Err (wrong_sort 47)
  pub first_in_the_text : file_comes (codes "def a : (x : b) -> c = d def a : word = 1") first_in_the_text_decls
      ≡ Err (unbound 13)
  pub init_in_a_precondition :
      file_comes (codes "val main : {Emp(init)} x : word {tt} = do ret 0") init_in_a_precondition_decls
      ≡ Err (wrong_sort 16)
  pub own_term :
      file_comes (codes "def a : word = a") own_term_decls ≡ Err (unbound 15)

-- What names stand for.
pub record Scoping : Type 0 where
  pub abbreviation_in_params :
      items_of (file_comes (codes "type n = word pred p induct n (x : n) = { tt } { tt }")
      abbreviation_in_params_decls) ≡ Ok (an_item (i_abbreviation m_word) ∷ an_item (i_rec (record {
        params =
            m_word ∷ [];
        at_zero = f_at 42 f_tt;
        at_next = f_at 49 f_tt;
      })) ∷ [])
  pub mem_past_none : items_of (file_comes (codes "pred p() = Emp(mem^0)") mem_past_none_decls)
      ≡ Ok (an_item (i_pred 0 [] (f_at 11 (f_emp 0))) ∷ [])
  pub params_see_no_params : items_of (file_comes (codes "pred p[a](a : word, y : a) = tt") params_see_no_params_decls)
      ≡ Ok (an_item (i_pred 1 (m_word ∷ m_var 1 ∷ []) (f_at 29 f_tt)) ∷ [])
  pub second_body :
      items_of (file_comes (codes "pred l induct n (p : loc) = { emp } { !l(n; p) }") second_body_decls) ≡ Ok
      (an_item (i_rec (record {
        params = m_loc ∷ [];
        at_zero = f_at 30 (f_emp 0);
        at_next = f_at 38 (f_rec 0 0
            (t_at 41 (t_var 2)) (more_terms (t_at 44 (t_var 1)) no_terms));
      })) ∷ [])
  pub recursive_function :
      items_of (file_comes (codes "def f : word = fix g (n : word) : {n =[word] 0} r : word {n =[word] r} . ret g")
      recursive_function_decls)
      ≡ Ok (an_item (i_def (y_at 8 (y_mono m_word))
      (t_at 15 (t_fix 15 (x_param (y_at 26 (y_mono m_word))
      (x_body (triple (f_at 35 (f_eq m_word (t_at 35 (t_var 1)) (t_at 45 (t_word 0)))) m_word
      (f_at 58 (f_eq m_word (t_at 58 (t_var 3)) (t_at 68 (t_var 2))))) (c_ret (t_at 77 (t_var 0)))))))) ∷ [])
  pub proof_before_its_item :
      items_of (file_comes (codes "proof f.1 = auto def f : word = 1 def g : word = f") proof_before_its_item_decls)
      ≡ Ok (a_proof (Some 1) 1 ∷ an_item (i_def (y_at 25 (y_mono m_word)) (t_at 32 (t_word 1))) ∷
      an_item (i_def (y_at 42 (y_mono m_word)) (t_at 49 (t_def 0))) ∷ [])
  pub equal_params : items_of (file_comes (codes "pred p[a, a](x : a, x : a) = x =[a] x") equal_params_decls)
      ≡ Ok (an_item
      (i_pred 2 (m_var 0 ∷ m_var 1 ∷ []) (f_at 29 (f_eq (m_var 3) (t_at 29 (t_var 1)) (t_at 36 (t_var 1))))) ∷ [])
  pub underscore_alone : items_of (file_comes (codes "def _x : word = 1") underscore_alone_decls)
      ≡ Ok (an_item (i_def (y_at 9 (y_mono m_word)) (t_at 16 (t_word 1))) ∷ [])
  pub claimed :
      items_of
      (file_comes (codes "val main : {tt} x : word {tt} = do _ <- claim {Same(init, mem)}; ret 0") claimed_decls)
      ≡ Ok (an_item (i_val (y_at 11 (y_hoare (triple (f_at 12 f_tt) m_word (f_at 26 f_tt))))
      (t_at 32 (t_do (c_step (s_claim (f_at 47 (f_same 1 0))) (c_ret (t_at 69 (t_word 0))))))) ∷ [])
  pub outer_heaps :
      items_of (file_comes
      (codes "val main : {tt} x : word {(do _ <- claim {Same(mem^1, init^1)}; ret 0) =[word] 1} = do ret 0")
      outer_heaps_decls)
      ≡ Ok (an_item (i_val (y_at 11
      (y_hoare (triple (f_at 12 f_tt) m_word
      (f_at 26 (f_eq m_word (t_at 27 (t_do (c_step (s_claim (f_at 42 (f_same 2 3))) (c_ret (t_at 68 (t_word 0))))))
      (t_at 79 (t_word 1))))))) (t_at 84 (t_do (c_ret (t_at 91 (t_word 0)))))) ∷ [])
  pub recursive_at_a_heap :
      items_of (file_comes (codes "pred l induct n () = { tt } { ex k : heap . !l@k(n;) }")
      recursive_at_a_heap_decls) ≡ Ok (an_item (i_rec (record {
        params = [];
        at_zero = f_at 23 f_tt;
        at_next =
            f_at 30 (f_ex_h (f_at 44 (f_rec 0 0 (t_at 49 (t_var 2)) no_terms)));
      })) ∷ [])

-- What sugar stands for, and the bytes of phrases.
pub record Sugars : Type 0 where
  pub brackets : items_of (file_comes (codes "def x : word = (1 + 2) * 3") brackets_decls)
      ≡ Ok (an_item (i_def (y_at 8 (y_mono m_word))
      (t_at 15 (t_bin Mul (t_at 16 (t_bin Add (t_at 16 (t_word 1)) (t_at 20 (t_word 2)))) (t_at 25 (t_word 3))))) ∷ [])
  pub separate_parts :
      items_of
      (file_comes (codes "val main : {emp ** emp} x : word {all h : heap . emp} = do ret 0") separate_parts_decls)
      ≡ Ok (an_item (i_val (y_at 11
      (y_hoare (triple
      (f_at 12 (f_ex_h (f_ex_h (f_and (f_join 2 1 0) (f_and (f_at 12 (f_emp 1)) (f_at 19 (f_emp 0))))))) m_word
      (f_at 34 (f_all_h (f_at 49 (f_emp 1))))))) (t_at 56 (t_do (c_ret (t_at 63 (t_word 0)))))) ∷ [])
  pub annotated_argument :
      items_of (file_comes (codes "pred p(x : word) = x =[word] x val main : {!p(true)} x : word {tt} = do ret 0")
      annotated_argument_decls)
      ≡ Ok (an_item (i_pred 0 (m_word ∷ []) (f_at 19 (f_eq m_word (t_at 19 (t_var 1)) (t_at 29 (t_var 1))))) ∷
      an_item (i_val (y_at 42 (y_hoare
      (triple (f_at 43 (f_eq m_word (t_at 19 (t_ann (t_at 46 (t_bool true)) (y_mono m_word)))
      (t_at 29 (t_ann (t_at 46 (t_bool true)) (y_mono m_word))))) m_word (f_at 63 f_tt))))
      (t_at 69 (t_do (c_ret (t_at 76 (t_word 0)))))) ∷ [])
  pub no_capture :
      items_of (file_comes
      (codes "pred p(x : word) = ex y : word . x =[word] y val main : {all y : word . !p(y)} x : word {tt} = do ret 0")
      no_capture_decls)
      ≡ Ok (an_item (i_pred 0 (m_word ∷ [])
      (f_at 19 (f_ex_t m_word (f_at 33 (f_eq m_word (t_at 33 (t_var 2)) (t_at 43 (t_var 0))))))) ∷
      an_item (i_val (y_at 56 (y_hoare
      (triple (f_at 57 (f_all_t m_word
      (f_at 72 (f_ex_t m_word
      (f_at 33 (f_eq m_word (t_at 33 (t_ann (t_at 75 (t_var 1)) (y_mono m_word))) (t_at 43 (t_var 0)))))))) m_word
      (f_at 89 f_tt)))) (t_at 95 (t_do (c_ret (t_at 102 (t_word 0)))))) ∷ [])
  pub at_a_heap :
      items_of (file_comes
      (codes "pred q() = ex h : heap . Same(h, mem) val main : {ex k : heap . @k [!q()]} x : word {tt} = do ret 0")
      at_a_heap_decls)
      ≡ Ok (an_item (i_pred 0 [] (f_at 11 (f_ex_h (f_at 25 (f_same 0 1))))) ∷
      an_item (i_val (y_at 49
      (y_hoare (triple (f_at 50 (f_ex_h (f_at 64 (f_at 68 (f_ex_h (f_at 25 (f_same 0 1))))))) m_word (f_at 85 f_tt))))
      (t_at 91 (t_do (c_ret (t_at 98 (t_word 0)))))) ∷ [])
  pub monotypes_put :
      items_of (file_comes
      (codes "pred c[a](x : a) = place 5 |->[a] x val main : {!c[word](7)} x : word {tt} = do ret 0")
      monotypes_put_decls)
      ≡ Ok (an_item (i_pred 1 (m_var 0 ∷ []) (f_at 19 (f_cell (m_var 2) 0 (t_at 19 (t_loc 5)) (t_at 34 (t_var 1))))) ∷
      an_item (i_val (y_at 47 (y_hoare
      (triple (f_at 48 (f_cell m_word 0 (t_at 19 (t_loc 5)) (t_at 34 (t_ann (t_at 57 (t_word 7)) (y_mono m_word)))))
      m_word (f_at 71 f_tt)))) (t_at 77 (t_do (c_ret (t_at 84 (t_word 0)))))) ∷ [])
  pub three_parts : items_of (file_comes (codes "pred p() = emp ** emp ** emp") three_parts_decls)
      ≡ Ok (an_item (i_pred 0 []
      (f_at 11 (f_ex_h (f_ex_h (f_and (f_join 2 1 0)
      (f_and (f_at 11 (f_emp 1))
      (f_at 18 (f_ex_h (f_ex_h (f_and (f_join 2 1 0) (f_and (f_at 18 (f_emp 1)) (f_at 25 (f_emp 0))))))))))))) ∷ [])
  pub block_of_any : items_of (file_comes (codes "pred p() = null |->[word] _") block_of_any_decls)
      ≡ Ok (an_item (i_pred 0 [] (f_at 11 (f_block m_word 0 (t_at 11 (t_loc 0))))) ∷ [])
  pub dropped_argument :
      items_of
      (file_comes (codes "pred p(x : word) = tt val main : {!p(true)} x : word {tt} = do ret 0") dropped_argument_decls)
      ≡ Ok (an_item (i_pred 0 (m_word ∷ []) (f_at 19 f_tt)) ∷
      an_item (i_val (y_at 33 (y_hoare (triple (f_at 34 f_tt) m_word (f_at 54 f_tt))))
      (t_at 60 (t_do (c_ret (t_at 67 (t_word 0)))))) ∷ [])
  pub only_grouping : items_of (file_comes (codes "def f : (word) = (1)") only_grouping_decls)
      ≡ Ok (an_item (i_def (y_at 8 (y_mono m_word)) (t_at 18 (t_word 1))) ∷ [])
  pub chain_bytes : items_of (file_comes (codes "def f : word = fun g . g 1 [word] - 2 + 3") chain_bytes_decls)
      ≡ Ok (an_item (i_def (y_at 8 (y_mono m_word))
      (t_at 15 (t_lam (t_at 23 (t_bin Add
      (t_at 23 (t_bin Sub (t_at 23 (t_inst (t_at 23 (t_app (t_at 23 (t_var 0)) (t_at 25 (t_word 1)))) m_word))
      (t_at 36 (t_word 2)))) (t_at 40 (t_word 3))))))) ∷ [])

-- Proofs in a sequent with the entries x, init and mem, and with some hypotheses.
pub record Proofs : Type 0 where
  pub second_part :
      sequent_proof_comes (codes "intro u; second(u)") [] 0 (en_heap ∷ en_heap ∷ en_term (y_mono m_word) ∷ []) 0
      second_part_proof
      ≡ Ok (p_block (b_then (d_at 0 d_intro) (b_end (p_at 9 (p_second (p_at 16 (p_hyp 0)))))))
  pub own_hypothesis :
      sequent_proof_comes (codes "second(_u0)") [] 0 (en_heap ∷ en_heap ∷ en_term (y_mono m_word) ∷ []) 2
      own_hypothesis_proof
      ≡ Ok (p_at 0 (p_second (p_at 7 (p_hyp 0))))
  pub one_space :
      sequent_proof_comes (codes "gen u; intro u; give(u, refl)") [] 0
      (en_heap ∷ en_heap ∷ en_term (y_mono m_word) ∷ []) 0 one_space_proof
      ≡ Err (wrong_sort 21)
  pub leading_zero :
      sequent_proof_comes (codes "the [_x00 =[word] 1] (refl)") [] 0 (en_heap ∷ en_heap ∷ en_term (y_mono m_word) ∷ [])
      0 leading_zero_proof
      ≡ Err (unbound 5)
  pub entry_by_its_sort :
      sequent_proof_comes (codes "the [Same(_h1, _x1)] (refl)") [] 0 (en_heap ∷ en_heap ∷ en_term (y_mono m_word) ∷ [])
      0 entry_by_its_sort_proof
      ≡ Err (unbound 15)
  pub heap_as_term :
      sequent_proof_comes (codes "the [_h1 =[word] 1] (refl)") [] 0 (en_heap ∷ en_heap ∷ en_term (y_mono m_word) ∷ []) 0
      heap_as_term_proof
      ≡ Err (wrong_sort 5)
  pub own_name_hides :
      sequent_proof_comes (codes "intro _x0; the [_x0 =[word] 1] (refl)") [] 0
      (en_heap ∷ en_heap ∷ en_term (y_mono m_word) ∷ []) 0 own_name_hides_proof
      ≡ Err (wrong_sort 16)
  pub no_current_heap :
      sequent_proof_comes (codes "have c : [emp] = u; c") [] 0 (en_heap ∷ en_heap ∷ en_term (y_mono m_word) ∷ []) 0
      no_current_heap_proof
      ≡ Err (wrong_sort 10)
  pub no_mem :
      sequent_proof_comes (codes "have c : [Emp(mem)] = u; c") [] 0 (en_heap ∷ en_heap ∷ en_term (y_mono m_word) ∷ []) 0
      no_mem_proof
      ≡ Err (wrong_sort 14)
  pub opened :
      sequent_proof_comes (codes "open x u = _u0; both(u, the [x =[word] _x0] (_u0))") [] 0
      (en_heap ∷ en_heap ∷ en_term (y_mono m_word) ∷ []) 1 opened_proof
      ≡ Ok (p_block (b_then (d_at 0 (d_open (p_at 11 (p_hyp 0))))
      (b_end (p_at 16 (p_both (p_at 21 (p_hyp 1))
      (p_at 24 (p_the (f_at 29 (f_eq m_word (t_at 29 (t_var 0)) (t_at 39 (t_var 3)))) (p_at 45 (p_hyp 0)))))))))
  pub a_heap_opened :
      sequent_proof_comes (codes "open h u = _u0; inst(u, @h, @_h2)") [] 0
      (en_heap ∷ en_heap ∷ en_term (y_mono m_word) ∷ []) 1 a_heap_opened_proof
      ≡ Ok (p_block (b_then (d_at 0 (d_open (p_at 11 (p_hyp 0))))
      (b_end (p_at 16 (p_inst (p_at 16 (p_inst (p_at 21 (p_hyp 1)) (a_heap 0))) (a_heap 1))))))
  pub unfolded :
      sequent_proof_comes (codes "axiom lst.0(@_h1)") (Some (record {
        name = codes "lst";
        meaning = means_rec 0
            1;
      }) ∷ []) 1 (en_heap ∷ en_heap ∷ en_term (y_mono m_word) ∷ []) 0 unfolded_proof ≡ Ok (p_at 0 (p_unfold 0
      0 (a_heap 1 ∷ [])))
  pub not_visible_yet :
      sequent_proof_comes (codes "axiom lst.0(@_h1)") (Some (record {
        name = codes "lst";
        meaning = means_rec 0
            1;
      }) ∷ []) 0 (en_heap ∷ en_heap ∷ en_term (y_mono m_word) ∷ []) 0 not_visible_yet_proof ≡ Err (unbound 6)
  pub hypothesis_hides :
      sequent_proof_comes (codes "intro lst; axiom lst.0(@_h1)") (Some (record {
        name = codes "lst";
        meaning =
            means_rec 0 1;
      }) ∷ []) 1 (en_heap ∷ en_heap ∷ en_term (y_mono m_word) ∷ []) 0 hypothesis_hides_proof ≡ Err
      (wrong_sort 17)
  pub axiom_names_are_free :
      sequent_proof_comes (codes "intro join_comm; axiom join_comm(@_h2)") [] 0
      (en_heap ∷ en_heap ∷ en_term (y_mono m_word) ∷ []) 0 axiom_names_are_free_proof
      ≡ Ok (p_block (b_then (d_at 0 d_intro) (b_end (p_at 17 (p_axiom (codes "join_comm") [] (a_heap 0 ∷ []))))))
  pub use_at_a_heap :
      sequent_proof_comes (codes "the [@_h1 [!p()]] (refl)") (Some (record {
        name = codes "p";
        meaning =
            means_pred (record { monos = 0; params = []; body = f_at 30 f_tt });
      }) ∷ []) 1 (en_heap ∷ en_heap ∷
      en_term (y_mono m_word) ∷ []) 0 use_at_a_heap_proof ≡ Ok (p_at 0 (p_the (f_at 5 (f_at 11 f_tt)) (p_at 19
      p_refl)))
  pub case_branches :
      sequent_proof_comes (codes "case(_u0, v . v, w . v)") [] 0 (en_heap ∷ en_heap ∷ en_term (y_mono m_word) ∷ []) 1
      case_branches_proof
      ≡ Err (unbound 21)
  pub app_bytes :
      sequent_proof_comes (codes "app(_u0, _u1, _u2)") [] 0 (en_heap ∷ en_heap ∷ en_term (y_mono m_word) ∷ []) 3
      app_bytes_proof
      ≡ Ok (p_at 0 (p_app (p_at 0 (p_app (p_at 4 (p_hyp 0)) (p_at 9 (p_hyp 1)))) (p_at 14 (p_hyp 2))))
