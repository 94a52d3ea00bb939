-- The raw trees of short texts.
use Rattle.std.specs.Prelude.{List, [], ◌∷◌, Some, None}
use Rattle.htt_parser_trees.specs.declared.place.Binder.TheVariants as binders
use Rattle.htt_parser_trees.specs.declared.mono.MonoName.TheVariants as mono_names
use Rattle.htt_parser_trees.specs.declared.tree.RawHeap.TheVariants as heaps
use Rattle.htt_parser_trees.specs.declared.proof.UnaryRule.TheVariants as rules
use Rattle.htt_parser_trees.specs.Trees as raw
use Rattle.theory_text_examples.specs.Short.{sp, named, word_at, one_rel, one_term, one_formula}

-- pred p() = !p()
abbrev pub own_body_decls : List raw.RawDeclTree
own_body_decls =
    (raw.decl_pred (sp 5 6) [] [] (one_formula (raw.g_use 11 (sp 12 13) [] raw.no_terms))) ∷ []

-- pred p induct n () = { !p(0;) } { tt }
abbrev pub first_body_decls : List raw.RawDeclTree
first_body_decls =
    (raw.decl_induct (sp 5 6) (named 14 15) [] (one_formula (raw.g_use_at 23 (sp 24 25) (one_term (raw.a_number
    26 0)) raw.no_terms)) (one_formula (raw.g_tt 34))) ∷ []

-- pred p induct p () = { tt } { !p(0;) }
abbrev pub hidden_by_index_decls : List raw.RawDeclTree
hidden_by_index_decls =
    (raw.decl_induct (sp 5 6) (named 14 15) [] (one_formula (raw.g_tt 23)) (one_formula (raw.g_use_at 30 (sp 31
    32) (one_term (raw.a_number 33 0)) raw.no_terms))) ∷ []

-- pred p induct n (x : n) = { tt } { tt }
abbrev pub index_in_params_decls : List raw.RawDeclTree
index_in_params_decls =
    (raw.decl_induct (sp 5 6) (named 14 15) ((raw.mono_param (sp 17 18) (raw.m_factor (raw.m_name
    (mono_names.Name (sp 21 22))))) ∷ []) (one_formula (raw.g_tt 28)) (one_formula (raw.g_tt 35))) ∷ []

-- def _x00 : word = 1
abbrev pub reserved_decls : List raw.RawDeclTree
reserved_decls =
    (raw.decl_def (sp 4 8) (raw.y_mono (word_at 11)) (one_term (raw.a_number 18 1))) ∷ []

-- type t = word def t : word = 1
abbrev pub declared_twice_decls : List raw.RawDeclTree
declared_twice_decls =
    (raw.decl_type (sp 5 6) (word_at 9)) ∷ (raw.decl_def (sp 18 19) (raw.y_mono (word_at 22)) (one_term
    (raw.a_number 29 1))) ∷ []

-- pred p() = Emp(mem^1)
abbrev pub too_few_mems_decls : List raw.RawDeclTree
too_few_mems_decls =
    (raw.decl_pred (sp 5 6) [] [] (one_formula (raw.g_emp_of 11 (heaps.Mem 15 (Some 1))))) ∷ []

-- pred p() = tt val main : {!p(zz)} x : word {tt} = do ret 0
abbrev pub counts_before_names_decls : List raw.RawDeclTree
counts_before_names_decls =
    (raw.decl_pred (sp 5 6) [] [] (one_formula (raw.g_tt 11))) ∷ (raw.decl_val (sp 18 22) (raw.y_hoare 25
    (raw.triple_of (one_formula (raw.g_use 26 (sp 27 28) [] (raw.more_terms (one_term (raw.a_name (sp 29 31)))
    raw.no_terms))) (named 34 35) (word_at 38) (one_formula (raw.g_tt 44)))) (raw.t_do 50 (raw.c_ret (one_term
    (raw.a_number 57 0))))) ∷ []

-- val main : {Emp(a)} x : word {tt} = do ret 0
abbrev pub no_heap_named_decls : List raw.RawDeclTree
no_heap_named_decls =
    (raw.decl_val (sp 4 8) (raw.y_hoare 11 (raw.triple_of (one_formula (raw.g_emp_of 12 (heaps.Name (sp 16
    17)))) (named 20 21) (word_at 24) (one_formula (raw.g_tt 30)))) (raw.t_do 36 (raw.c_ret (one_term
    (raw.a_number 43 0))))) ∷ []

-- def a : word = 1 val main : {Emp(a)} x : word {tt} = do ret 0
abbrev pub declared_is_no_heap_decls : List raw.RawDeclTree
declared_is_no_heap_decls =
    (raw.decl_def (sp 4 5) (raw.y_mono (word_at 8)) (one_term (raw.a_number 15 1))) ∷ (raw.decl_val (sp 21 25)
    (raw.y_hoare 28 (raw.triple_of (one_formula (raw.g_emp_of 29 (heaps.Name (sp 33 34)))) (named 37 38)
    (word_at 41) (one_formula (raw.g_tt 47)))) (raw.t_do 53 (raw.c_ret (one_term (raw.a_number 60 0))))) ∷ []

-- def a : word = 1a
abbrev pub name_behind_number_decls : List raw.RawDeclTree
name_behind_number_decls =
    (raw.decl_def (sp 4 5) (raw.y_mono (word_at 8)) (raw.t_rel (raw.r_sum (raw.s_sum (raw.x_prod (raw.l_apply
    (raw.a_number 15 1) (raw.atom_part (raw.a_name (sp 16 17)) raw.no_parts)) raw.x_end) raw.s_end)))) ∷ []

-- pred p induct n () = { tt } { tt } pred q() = !p()
abbrev pub plain_form_of_recursive_decls : List raw.RawDeclTree
plain_form_of_recursive_decls =
    (raw.decl_induct (sp 5 6) (named 14 15) [] (one_formula (raw.g_tt 23)) (one_formula (raw.g_tt 30))) ∷
    (raw.decl_pred (sp 40 41) [] [] (one_formula (raw.g_use 46 (sp 47 48) [] raw.no_terms))) ∷ []

-- def a : (x : b) -> c = d def a : word = 1
abbrev pub first_in_the_text_decls : List raw.RawDeclTree
first_in_the_text_decls =
    (raw.decl_def (sp 4 5) (raw.y_fun 8 (named 9 10) (raw.y_mono (raw.m_factor (raw.m_name (mono_names.Name (sp
    13 14))))) (raw.y_mono (raw.m_factor (raw.m_name (mono_names.Name (sp 19 20)))))) (one_term (raw.a_name (sp
    23 24)))) ∷ (raw.decl_def (sp 29 30) (raw.y_mono (word_at 33)) (one_term (raw.a_number 40 1))) ∷ []

-- val main : {Emp(init)} x : word {tt} = do ret 0
abbrev pub init_in_a_precondition_decls : List raw.RawDeclTree
init_in_a_precondition_decls =
    (raw.decl_val (sp 4 8) (raw.y_hoare 11 (raw.triple_of (one_formula (raw.g_emp_of 12 (heaps.Init 16 None)))
    (named 23 24) (word_at 27) (one_formula (raw.g_tt 33)))) (raw.t_do 39 (raw.c_ret (one_term (raw.a_number 46
    0))))) ∷ []

-- type n = word pred p induct n (x : n) = { tt } { tt }
abbrev pub abbreviation_in_params_decls : List raw.RawDeclTree
abbreviation_in_params_decls =
    (raw.decl_type (sp 5 6) (word_at 9)) ∷ (raw.decl_induct (sp 19 20) (named 28 29) ((raw.mono_param (sp 31 32)
    (raw.m_factor (raw.m_name (mono_names.Name (sp 35 36))))) ∷ []) (one_formula (raw.g_tt 42)) (one_formula
    (raw.g_tt 49))) ∷ []

-- pred p() = Emp(mem^0)
abbrev pub mem_past_none_decls : List raw.RawDeclTree
mem_past_none_decls =
    (raw.decl_pred (sp 5 6) [] [] (one_formula (raw.g_emp_of 11 (heaps.Mem 15 (Some 0))))) ∷ []

-- pred p[a](a : word, y : a) = tt
abbrev pub params_see_no_params_decls : List raw.RawDeclTree
params_see_no_params_decls =
    (raw.decl_pred (sp 5 6) ((sp 7 8) ∷ []) ((raw.mono_param (sp 10 11) (word_at 14)) ∷ (raw.mono_param (sp 20
    21) (raw.m_factor (raw.m_name (mono_names.Name (sp 24 25))))) ∷ []) (one_formula (raw.g_tt 29))) ∷ []

-- pred l induct n (p : loc) = { emp } { !l(n; p) }
abbrev pub second_body_decls : List raw.RawDeclTree
second_body_decls =
    (raw.decl_induct (sp 5 6) (named 14 15) ((raw.mono_param (sp 17 18) (raw.m_factor (raw.m_name
    (mono_names.Loc 21)))) ∷ []) (one_formula (raw.g_emp 30)) (one_formula (raw.g_use_at 38 (sp 39 40) (one_term
    (raw.a_name (sp 41 42))) (raw.more_terms (one_term (raw.a_name (sp 44 45))) raw.no_terms)))) ∷ []

-- def f : word = fix g (n : word) : {n =[word] 0} r : word {n =[word] r} . ret g
abbrev pub recursive_function_decls : List raw.RawDeclTree
recursive_function_decls =
    (raw.decl_def (sp 4 5) (raw.y_mono (word_at 8)) (raw.t_fix 15 (sp 19 20) (raw.more_params (named 22 23)
    (raw.y_mono (word_at 26)) raw.no_params) (raw.triple_of (one_formula (raw.g_eq (one_rel (raw.a_name (sp 35
    36))) (word_at 39) (one_rel (raw.a_number 45 0)))) (named 48 49) (word_at 52) (one_formula (raw.g_eq
    (one_rel (raw.a_name (sp 58 59))) (word_at 62) (one_rel (raw.a_name (sp 68 69)))))) (raw.c_ret (one_term
    (raw.a_name (sp 77 78)))))) ∷ []

-- proof f.1 = auto def f : word = 1 def g : word = f
abbrev pub proof_before_its_item_decls : List raw.RawDeclTree
proof_before_its_item_decls =
    (raw.decl_proof 0 (sp 6 7) 1 (raw.body_auto 12)) ∷ (raw.decl_def (sp 21 22) (raw.y_mono (word_at 25))
    (one_term (raw.a_number 32 1))) ∷ (raw.decl_def (sp 38 39) (raw.y_mono (word_at 42)) (one_term (raw.a_name
    (sp 49 50)))) ∷ []

-- def x : word = (1 + 2) * 3
abbrev pub brackets_decls : List raw.RawDeclTree
brackets_decls =
    (raw.decl_def (sp 4 5) (raw.y_mono (word_at 8)) (raw.t_rel (raw.r_sum (raw.s_sum (raw.x_prod (raw.l_apply
    (raw.a_brackets 15 (raw.t_rel (raw.r_sum (raw.s_sum (raw.x_prod (raw.l_apply (raw.a_number 16 1)
    raw.no_parts) raw.x_end) (raw.s_more raw.plus (raw.x_prod (raw.l_apply (raw.a_number 20 2) raw.no_parts)
    raw.x_end) raw.s_end))))) raw.no_parts) (raw.x_more raw.times (raw.l_apply (raw.a_number 25 3) raw.no_parts)
    raw.x_end)) raw.s_end)))) ∷ []

-- val main : {emp ** emp} x : word {all h : heap . emp} = do ret 0
abbrev pub separate_parts_decls : List raw.RawDeclTree
separate_parts_decls =
    (raw.decl_val (sp 4 8) (raw.y_hoare 11 (raw.triple_of (raw.f_disj (raw.d_conj (raw.j_star (raw.k_times
    (raw.g_emp 12) (raw.k_fatom (raw.g_emp 19)))))) (named 24 25) (word_at 28) (raw.f_all 34 (named 38 39)
    raw.over_heap (one_formula (raw.g_emp 49))))) (raw.t_do 56 (raw.c_ret (one_term (raw.a_number 63 0))))) ∷ []

-- pred p(x : word) = x =[word] x val main : {!p(true)} x : word {tt} = do ret 0
abbrev pub annotated_argument_decls : List raw.RawDeclTree
annotated_argument_decls =
    (raw.decl_pred (sp 5 6) [] ((raw.mono_param (sp 7 8) (word_at 11)) ∷ []) (one_formula (raw.g_eq (one_rel
    (raw.a_name (sp 19 20))) (word_at 23) (one_rel (raw.a_name (sp 29 30)))))) ∷ (raw.decl_val (sp 35 39)
    (raw.y_hoare 42 (raw.triple_of (one_formula (raw.g_use 43 (sp 44 45) [] (raw.more_terms (one_term
    (raw.a_true 46)) raw.no_terms))) (named 53 54) (word_at 57) (one_formula (raw.g_tt 63)))) (raw.t_do 69
    (raw.c_ret (one_term (raw.a_number 76 0))))) ∷ []

-- pred p(x : word) = ex y : word . x =[word] y val main : {all y : word . !p(y)} x : word {tt} = do ret 0
abbrev pub no_capture_decls : List raw.RawDeclTree
no_capture_decls =
    (raw.decl_pred (sp 5 6) [] ((raw.mono_param (sp 7 8) (word_at 11)) ∷ []) (raw.f_ex 19 (named 22 23)
    (raw.over_mono (word_at 26)) (one_formula (raw.g_eq (one_rel (raw.a_name (sp 33 34))) (word_at 37) (one_rel
    (raw.a_name (sp 43 44))))))) ∷ (raw.decl_val (sp 49 53) (raw.y_hoare 56 (raw.triple_of (raw.f_all 57 (named
    61 62) (raw.over_mono (word_at 65)) (one_formula (raw.g_use 72 (sp 73 74) [] (raw.more_terms (one_term
    (raw.a_name (sp 75 76))) raw.no_terms)))) (named 79 80) (word_at 83) (one_formula (raw.g_tt 89)))) (raw.t_do
    95 (raw.c_ret (one_term (raw.a_number 102 0))))) ∷ []

-- pred q() = ex h : heap . Same(h, mem) val main : {ex k : heap . @k [!q()]} x : word {tt} = do ret 0
abbrev pub at_a_heap_decls : List raw.RawDeclTree
at_a_heap_decls =
    (raw.decl_pred (sp 5 6) [] [] (raw.f_ex 11 (named 14 15) raw.over_heap (one_formula (raw.g_same 25
    (heaps.Name (sp 30 31)) (heaps.Mem 33 None))))) ∷ (raw.decl_val (sp 42 46) (raw.y_hoare 49 (raw.triple_of
    (raw.f_ex 50 (named 53 54) raw.over_heap (one_formula (raw.g_at_heap 64 (heaps.Name (sp 65 66)) (one_formula
    (raw.g_use 68 (sp 69 70) [] raw.no_terms))))) (named 75 76) (word_at 79) (one_formula (raw.g_tt 85))))
    (raw.t_do 91 (raw.c_ret (one_term (raw.a_number 98 0))))) ∷ []

-- pred c[a](x : a) = place 5 |->[a] x val main : {!c[word](7)} x : word {tt} = do ret 0
abbrev pub monotypes_put_decls : List raw.RawDeclTree
monotypes_put_decls =
    (raw.decl_pred (sp 5 6) ((sp 7 8) ∷ []) ((raw.mono_param (sp 10 11) (raw.m_factor (raw.m_name
    (mono_names.Name (sp 14 15))))) ∷ []) (one_formula (raw.g_points (one_rel (raw.a_place 19 5)) (raw.m_factor
    (raw.m_name (mono_names.Name (sp 31 32)))) (one_rel (raw.a_name (sp 34 35)))))) ∷ (raw.decl_val (sp 40 44)
    (raw.y_hoare 47 (raw.triple_of (one_formula (raw.g_use 48 (sp 49 50) ((word_at 51) ∷ []) (raw.more_terms
    (one_term (raw.a_number 57 7)) raw.no_terms))) (named 61 62) (word_at 65) (one_formula (raw.g_tt 71))))
    (raw.t_do 77 (raw.c_ret (one_term (raw.a_number 84 0))))) ∷ []

-- intro u; second(u)
abbrev pub second_part_proof : raw.RawProofTree
second_part_proof =
    (raw.p_step (raw.b_intro 0 (sp 6 7)) (raw.p_end (raw.e_unary 9 rules.Second (raw.p_end (raw.e_name (sp 16
    17))))))

-- second(_u0)
abbrev pub own_hypothesis_proof : raw.RawProofTree
own_hypothesis_proof =
    (raw.p_end (raw.e_unary 0 rules.Second (raw.p_end (raw.e_name (sp 7 10)))))

-- gen u; intro u; give(u, refl)
abbrev pub one_space_proof : raw.RawProofTree
one_space_proof =
    (raw.p_step (raw.b_gen 0 (named 4 5)) (raw.p_step (raw.b_intro 7 (sp 13 14)) (raw.p_end (raw.e_give 16
    (raw.arg_term (one_term (raw.a_name (sp 21 22)))) (raw.p_end (raw.e_refl 24))))))

-- the [_x00 =[word] 1] (refl)
abbrev pub leading_zero_proof : raw.RawProofTree
leading_zero_proof =
    (raw.p_end (raw.e_the 0 (one_formula (raw.g_eq (one_rel (raw.a_name (sp 5 9))) (word_at 12) (one_rel
    (raw.a_number 18 1)))) (raw.p_end (raw.e_refl 22))))

-- the [Same(_h1, _x1)] (refl)
abbrev pub entry_by_its_sort_proof : raw.RawProofTree
entry_by_its_sort_proof =
    (raw.p_end (raw.e_the 0 (one_formula (raw.g_same 5 (heaps.Name (sp 10 13)) (heaps.Name (sp 15 18))))
    (raw.p_end (raw.e_refl 22))))

-- the [_h1 =[word] 1] (refl)
abbrev pub heap_as_term_proof : raw.RawProofTree
heap_as_term_proof =
    (raw.p_end (raw.e_the 0 (one_formula (raw.g_eq (one_rel (raw.a_name (sp 5 8))) (word_at 11) (one_rel
    (raw.a_number 17 1)))) (raw.p_end (raw.e_refl 21))))

-- intro _x0; the [_x0 =[word] 1] (refl)
abbrev pub own_name_hides_proof : raw.RawProofTree
own_name_hides_proof =
    (raw.p_step (raw.b_intro 0 (sp 6 9)) (raw.p_end (raw.e_the 11 (one_formula (raw.g_eq (one_rel (raw.a_name
    (sp 16 19))) (word_at 22) (one_rel (raw.a_number 28 1)))) (raw.p_end (raw.e_refl 32)))))

-- have c : [emp] = u; c
abbrev pub no_current_heap_proof : raw.RawProofTree
no_current_heap_proof =
    (raw.p_step (raw.b_have 0 (sp 5 6) (one_formula (raw.g_emp 10)) (raw.p_end (raw.e_name (sp 17 18))))
    (raw.p_end (raw.e_name (sp 20 21))))

-- have c : [Emp(mem)] = u; c
abbrev pub no_mem_proof : raw.RawProofTree
no_mem_proof =
    (raw.p_step (raw.b_have 0 (sp 5 6) (one_formula (raw.g_emp_of 10 (heaps.Mem 14 None))) (raw.p_end
    (raw.e_name (sp 22 23)))) (raw.p_end (raw.e_name (sp 25 26))))

-- open x u = _u0; both(u, the [x =[word] _x0] (_u0))
abbrev pub opened_proof : raw.RawProofTree
opened_proof =
    (raw.p_step (raw.b_open 0 (named 5 6) (sp 7 8) (raw.p_end (raw.e_name (sp 11 14)))) (raw.p_end (raw.e_both
    16 (raw.p_end (raw.e_name (sp 21 22))) (raw.p_end (raw.e_the 24 (one_formula (raw.g_eq (one_rel (raw.a_name
    (sp 29 30))) (word_at 33) (one_rel (raw.a_name (sp 39 42))))) (raw.p_end (raw.e_name (sp 45 48))))))))

-- open h u = _u0; inst(u, @h, @_h2)
abbrev pub a_heap_opened_proof : raw.RawProofTree
a_heap_opened_proof =
    (raw.p_step (raw.b_open 0 (named 5 6) (sp 7 8) (raw.p_end (raw.e_name (sp 11 14)))) (raw.p_end (raw.e_inst
    16 (raw.p_end (raw.e_name (sp 21 22))) (raw.arg_heap 24 (heaps.Name (sp 25 26))) ((raw.arg_heap 28
    (heaps.Name (sp 29 32))) ∷ []))))

-- axiom lst.0(@_h1)
abbrev pub unfolded_proof : raw.RawProofTree
unfolded_proof =
    (raw.p_end (raw.e_unfold 0 (sp 6 9) 0 (raw.arg_heap 12 (heaps.Name (sp 13 16))) []))

-- axiom lst.0(@_h1)
abbrev pub not_visible_yet_proof : raw.RawProofTree
not_visible_yet_proof =
    (raw.p_end (raw.e_unfold 0 (sp 6 9) 0 (raw.arg_heap 12 (heaps.Name (sp 13 16))) []))

-- intro lst; axiom lst.0(@_h1)
abbrev pub hypothesis_hides_proof : raw.RawProofTree
hypothesis_hides_proof =
    (raw.p_step (raw.b_intro 0 (sp 6 9)) (raw.p_end (raw.e_unfold 11 (sp 17 20) 0 (raw.arg_heap 23 (heaps.Name
    (sp 24 27))) [])))

-- intro join_comm; axiom join_comm(@_h2)
abbrev pub axiom_names_are_free_proof : raw.RawProofTree
axiom_names_are_free_proof =
    (raw.p_step (raw.b_intro 0 (sp 6 15)) (raw.p_end (raw.e_axiom 17 (sp 23 32) [] ((raw.arg_heap 33 (heaps.Name
    (sp 34 37))) ∷ []))))

-- def a : word = a
abbrev pub own_term_decls : List raw.RawDeclTree
own_term_decls =
    (raw.decl_def (sp 4 5) (raw.y_mono (word_at 8)) (one_term (raw.a_name (sp 15 16)))) ∷ []

-- pred p[a, a](x : a, x : a) = x =[a] x
abbrev pub equal_params_decls : List raw.RawDeclTree
equal_params_decls =
    (raw.decl_pred (sp 5 6) ((sp 7 8) ∷ (sp 10 11) ∷ []) ((raw.mono_param (sp 13 14) (raw.m_factor (raw.m_name
    (mono_names.Name (sp 17 18))))) ∷ (raw.mono_param (sp 20 21) (raw.m_factor (raw.m_name (mono_names.Name (sp
    24 25))))) ∷ []) (one_formula (raw.g_eq (one_rel (raw.a_name (sp 29 30))) (raw.m_factor (raw.m_name
    (mono_names.Name (sp 33 34)))) (one_rel (raw.a_name (sp 36 37)))))) ∷ []

-- def _x : word = 1
abbrev pub underscore_alone_decls : List raw.RawDeclTree
underscore_alone_decls =
    (raw.decl_def (sp 4 6) (raw.y_mono (word_at 9)) (one_term (raw.a_number 16 1))) ∷ []

-- val main : {tt} x : word {tt} = do _ <- claim {Same(init, mem)}; ret 0
abbrev pub claimed_decls : List raw.RawDeclTree
claimed_decls =
    (raw.decl_val (sp 4 8) (raw.y_hoare 11 (raw.triple_of (one_formula (raw.g_tt 12)) (named 16 17) (word_at 20)
    (one_formula (raw.g_tt 26)))) (raw.t_do 32 (raw.c_step binders.Blank (raw.s_claim (one_formula (raw.g_same
    47 (heaps.Init 52 None) (heaps.Mem 58 None)))) (raw.c_ret (one_term (raw.a_number 69 0)))))) ∷ []

-- val main : {tt} x : word {(do _ <- claim {Same(mem^1, init^1)}; ret 0) =[word] 1} = do ret 0
abbrev pub outer_heaps_decls : List raw.RawDeclTree
outer_heaps_decls =
    (raw.decl_val (sp 4 8) (raw.y_hoare 11 (raw.triple_of (one_formula (raw.g_tt 12)) (named 16 17) (word_at 20)
    (one_formula (raw.g_eq (one_rel (raw.a_brackets 26 (raw.t_do 27 (raw.c_step binders.Blank (raw.s_claim
    (one_formula (raw.g_same 42 (heaps.Mem 47 (Some 1)) (heaps.Init 54 (Some 1))))) (raw.c_ret (one_term
    (raw.a_number 68 0))))))) (word_at 73) (one_rel (raw.a_number 79 1)))))) (raw.t_do 84 (raw.c_ret (one_term
    (raw.a_number 91 0))))) ∷ []

-- pred l induct n () = { tt } { ex k : heap . !l@k(n;) }
abbrev pub recursive_at_a_heap_decls : List raw.RawDeclTree
recursive_at_a_heap_decls =
    (raw.decl_induct (sp 5 6) (named 14 15) [] (one_formula (raw.g_tt 23)) (raw.f_ex 30 (named 33 34)
    raw.over_heap (one_formula (raw.g_use_at_heap 44 (sp 45 46) (heaps.Name (sp 47 48)) (one_term (raw.a_name
    (sp 49 50))) raw.no_terms)))) ∷ []

-- pred p() = emp ** emp ** emp
abbrev pub three_parts_decls : List raw.RawDeclTree
three_parts_decls =
    (raw.decl_pred (sp 5 6) [] [] (raw.f_disj (raw.d_conj (raw.j_star (raw.k_times (raw.g_emp 11) (raw.k_times
    (raw.g_emp 18) (raw.k_fatom (raw.g_emp 25)))))))) ∷ []

-- pred p() = null |->[word] _
abbrev pub block_of_any_decls : List raw.RawDeclTree
block_of_any_decls =
    (raw.decl_pred (sp 5 6) [] [] (one_formula (raw.g_points_any (one_rel (raw.a_null 11)) (word_at 20)))) ∷ []

-- pred p(x : word) = tt val main : {!p(true)} x : word {tt} = do ret 0
abbrev pub dropped_argument_decls : List raw.RawDeclTree
dropped_argument_decls =
    (raw.decl_pred (sp 5 6) [] ((raw.mono_param (sp 7 8) (word_at 11)) ∷ []) (one_formula (raw.g_tt 19))) ∷
    (raw.decl_val (sp 26 30) (raw.y_hoare 33 (raw.triple_of (one_formula (raw.g_use 34 (sp 35 36) []
    (raw.more_terms (one_term (raw.a_true 37)) raw.no_terms))) (named 44 45) (word_at 48) (one_formula (raw.g_tt
    54)))) (raw.t_do 60 (raw.c_ret (one_term (raw.a_number 67 0))))) ∷ []

-- def f : (word) = (1)
abbrev pub only_grouping_decls : List raw.RawDeclTree
only_grouping_decls =
    (raw.decl_def (sp 4 5) (raw.y_mono (raw.m_factor (raw.m_brackets 8 (word_at 9)))) (one_term (raw.a_brackets
    17 (one_term (raw.a_number 18 1))))) ∷ []

-- def f : word = fun g . g 1 [word] - 2 + 3
abbrev pub chain_bytes_decls : List raw.RawDeclTree
chain_bytes_decls =
    (raw.decl_def (sp 4 5) (raw.y_mono (word_at 8)) (raw.t_fun 15 (named 19 20) (raw.t_rel (raw.r_sum (raw.s_sum
    (raw.x_prod (raw.l_apply (raw.a_name (sp 23 24)) (raw.atom_part (raw.a_number 25 1) (raw.mono_part (word_at
    28) raw.no_parts))) raw.x_end) (raw.s_more raw.minus (raw.x_prod (raw.l_apply (raw.a_number 36 2)
    raw.no_parts) raw.x_end) (raw.s_more raw.plus (raw.x_prod (raw.l_apply (raw.a_number 40 3) raw.no_parts)
    raw.x_end) raw.s_end))))))) ∷ []

-- the [@_h1 [!p()]] (refl)
abbrev pub use_at_a_heap_proof : raw.RawProofTree
use_at_a_heap_proof =
    (raw.p_end (raw.e_the 0 (one_formula (raw.g_at_heap 5 (heaps.Name (sp 6 9)) (one_formula (raw.g_use 11 (sp
    12 13) [] raw.no_terms)))) (raw.p_end (raw.e_refl 19))))

-- case(_u0, v . v, w . v)
abbrev pub case_branches_proof : raw.RawProofTree
case_branches_proof =
    (raw.p_end (raw.e_case 0 (raw.p_end (raw.e_name (sp 5 8))) (sp 10 11) (raw.p_end (raw.e_name (sp 14 15)))
    (sp 17 18) (raw.p_end (raw.e_name (sp 21 22)))))

-- app(_u0, _u1, _u2)
abbrev pub app_bytes_proof : raw.RawProofTree
app_bytes_proof =
    (raw.p_end (raw.e_app 0 (raw.p_end (raw.e_name (sp 4 7))) (raw.p_end (raw.e_name (sp 9 12)))
    (raw.more_proofs (raw.p_end (raw.e_name (sp 14 17))) raw.no_proofs)))
