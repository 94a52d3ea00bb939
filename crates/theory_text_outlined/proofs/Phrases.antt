-- What stops types, terms, computations and formulas, row by row.
use Rattle.std.proofs.Common.{◌≡◌, ℕ, refl, ap, subst, List, [], ◌∷◌}
use Rattle.std.specs.Prelude.{length, ◌==◌, ◌&&◌, Result}
use Rattle.htt_syntax.specs.Trees.{TermTree, FixTree}
use Rattle.htt_parser_trees.specs.declared.mono.MonoName.{MonoName}
use Rattle.htt_parser_trees.specs.declared.mono.MonoName.TheVariants as mono_names
use Rattle.htt_parser_trees.specs.Trees as raw
use Rattle.theory_text_names.specs.Stops.{Stop}
use Rattle.theory_text_names.specs.Scopes.{a_mono, a_term, a_heap, Names, Scope, under, under_name, at_heap, under_mem, under_heaps}
use Rattle.theory_text_names.specs.Uses.{current_heap}
use Rattle.theory_text_sugar.specs.Sugar.{left_part, right_part}
use Rattle.theory_text.specs.Monotypes.{mono_name_comes, factor_comes, mono_comes, monos_come}
use Rattle.theory_text.specs.Phrases.{right_count, count_of, ty_comes, triple_comes, term_comes, params_come, rel_comes, sum_comes, sum_rest_comes}
use Rattle.theory_text.specs.Phrases.{prod_comes, prod_rest_comes, appl_comes, parts_come, atom_comes, terms_come, comp_comes, step_comes}
use Rattle.theory_text.specs.Phrases.{formula_comes, disj_comes, conj_comes, star_comes, fatom_comes}
use Rattle.theory_text_outlined.specs.Outlines.{AlikeNames, with_names, SameStop}
use Rattle.theory_text_outlined.proofs.Uses.{ok_same, bind_same, bind_related, mono_name_same, term_name_same, pred_name_related, rec_name_related}
use Rattle.theory_text_outlined.proofs.Uses.{heap_related}

pub self_same : {A : Type 0} (r : Result A Stop) → SameStop r r
self_same r = record { same = refl }

counts_same : (at n m k l a b : ℕ) → n ≡ m → k ≡ l → SameStop (right_count at (a == n && b == k)) (right_count at (a == m && b == l))
counts_same at n m k l a b h e =
    subst (λ x. SameStop (right_count at (a == n && b == k)) (right_count at (a == x && b == l))) h
    (subst (λ y. SameStop (right_count at (a == n && b == k)) (right_count at (a == n && b == y))) e (self_same _))

count_same : (at n m a : ℕ) → n ≡ m → SameStop (right_count at (a == n)) (right_count at (a == m))
count_same at n m a h = subst (λ x. SameStop (right_count at (a == n)) (right_count at (a == x))) h (self_same _)

module _ (names : Names) where
  word_same : (s : Scope) → AlikeNames s.names names → (n : MonoName) → SameStop (mono_name_comes s n) (mono_name_comes (with_names s names) n)
  word_same s h (mono_names.Word at) = ok_same
  word_same s h (mono_names.Bool at) = ok_same
  word_same s h (mono_names.Loc at) = ok_same
  word_same s h (mono_names.Unit at) = ok_same
  word_same s h (mono_names.Name span) = mono_name_same names s h span

  mutual
    unfolding factor_comes

    factor_same : (s : Scope) → AlikeNames s.names names → (f : raw.RawFactorTree) → SameStop (factor_comes s f) (factor_comes (with_names s names) f)
    factor_same s h (raw.m_name n) = word_same s h n
    factor_same s h (raw.m_brackets at m) = mono_same s h m

    pub mono_same : (s : Scope) → AlikeNames s.names names → (m : raw.RawMonoTree) → SameStop (mono_comes s m) (mono_comes (with_names s names) m)
    mono_same s h (raw.m_factor f) = factor_same s h f
    mono_same s h (raw.m_pair f m) = bind_same (factor_same s h f) (λ _ _. bind_same (mono_same s h m) (λ _ _. ok_same))

  pub monos_same : (s : Scope) → AlikeNames s.names names → (ms : List raw.RawMonoTree) → SameStop (monos_come s ms) (monos_come (with_names s names) ms)
  unfolding monos_come
  monos_same s h [] = ok_same
  monos_same s h (m ∷ ms) = bind_same (mono_same s h m) (λ _ _. bind_same (monos_same s h ms) (λ _ _. ok_same))

  mutual
    unfolding term_comes

    pub ty_same : (s : Scope) → AlikeNames s.names names → (A : raw.RawTyTree) → SameStop (ty_comes s A) (ty_comes (with_names s names) A)
    ty_same s h (raw.y_fun at b A C) = bind_same (ty_same s h A) (λ _ _. bind_same (ty_same (under s b a_term) h C) (λ _ _. ok_same))
    ty_same s h (raw.y_all at a C) = bind_same (ty_same (under_name s a a_mono) h C) (λ _ _. ok_same)
    ty_same s h (raw.y_hoare at T) = bind_same (triple_same s h T) (λ _ _. ok_same)
    ty_same s h (raw.y_mono m) = bind_same (mono_same s h m) (λ _ _. ok_same)

    triple_same : (s : Scope) → AlikeNames s.names names → (T : raw.RawTripleTree) → SameStop (triple_comes s T) (triple_comes (with_names s names) T)
    triple_same s h (raw.triple_of P b m Q) =
        bind_same (formula_same (under_mem s) h P)
        (λ _ _. bind_same (mono_same s h m) (λ _ _. bind_same (formula_same (under_heaps (under s b a_term)) h Q) (λ _ _. ok_same)))

    pub term_same : (s : Scope) → AlikeNames s.names names → (M : raw.RawTermTree) → SameStop (term_comes s M) (term_comes (with_names s names) M)
    term_same s h (raw.t_fun at b M) = bind_same (term_same (under s b a_term) h M) (λ _ _. ok_same)
    term_same s h (raw.t_fun_mono at a M) = bind_same (term_same (under_name s a a_mono) h M) (λ _ _. ok_same)
    term_same s h (raw.t_do at E) = bind_same (comp_same s h E) (λ _ _. ok_same)
    term_same s h (raw.t_fix at f ps T E) =
        bind_same (params_same s h ps _ _
        (λ inner g. bind_same (triple_same inner g T) (λ _ _. bind_same (comp_same (under_name inner f a_term) g E) (λ _ _. ok_same))))
        (λ _ _. ok_same)
    term_same s h (raw.t_rel R) = rel_same s h R

    params_same : (s : Scope) → AlikeNames s.names names → (ps : raw.RawParamTrees) (K L : Scope → Result FixTree Stop)
        → ((inner : Scope) → AlikeNames inner.names names → SameStop (K inner) (L (with_names inner names)))
        → SameStop (params_come s ps K) (params_come (with_names s names) ps L)
    params_same s h raw.no_params K L k = k s h
    params_same s h (raw.more_params b A ps) K L k = bind_same (ty_same s h A) (λ _ _. bind_same (params_same (under s b a_term) h ps K L k) (λ _ _. ok_same))

    rel_same : (s : Scope) → AlikeNames s.names names → (R : raw.RawRelTree) → SameStop (rel_comes s R) (rel_comes (with_names s names) R)
    rel_same s h (raw.r_sum S) = sum_same s h S
    rel_same s h (raw.r_less S T) = bind_same (sum_same s h S) (λ _ _. bind_same (sum_same s h T) (λ _ _. ok_same))

    sum_same : (s : Scope) → AlikeNames s.names names → (S : raw.RawSumTree) → SameStop (sum_comes s S) (sum_comes (with_names s names) S)
    sum_same s h (raw.s_sum P rest) = bind_same (prod_same s h P) (λ M N. sum_rest_same s h _ M N rest)

    sum_rest_same : (s : Scope) → AlikeNames s.names names → (at : ℕ) (M N : TermTree) (rest : raw.RawSumRestTree)
        → SameStop (sum_rest_comes s at M rest) (sum_rest_comes (with_names s names) at N rest)
    sum_rest_same s h at M N raw.s_end = ok_same
    sum_rest_same s h at M N (raw.s_more sign P rest) = bind_same (prod_same s h P) (λ _ _. sum_rest_same s h at _ _ rest)

    prod_same : (s : Scope) → AlikeNames s.names names → (P : raw.RawProdTree) → SameStop (prod_comes s P) (prod_comes (with_names s names) P)
    prod_same s h (raw.x_prod A rest) = bind_same (appl_same s h A) (λ M N. prod_rest_same s h _ M N rest)

    prod_rest_same : (s : Scope) → AlikeNames s.names names → (at : ℕ) (M N : TermTree) (rest : raw.RawProdRestTree)
        → SameStop (prod_rest_comes s at M rest) (prod_rest_comes (with_names s names) at N rest)
    prod_rest_same s h at M N raw.x_end = ok_same
    prod_rest_same s h at M N (raw.x_more sign A rest) = bind_same (appl_same s h A) (λ _ _. prod_rest_same s h at _ _ rest)

    appl_same : (s : Scope) → AlikeNames s.names names → (A : raw.RawApplTree) → SameStop (appl_comes s A) (appl_comes (with_names s names) A)
    appl_same s h (raw.l_unary at w a) = bind_same (atom_same s h a) (λ _ _. ok_same)
    appl_same s h (raw.l_apply a ps) = bind_same (atom_same s h a) (λ M N. parts_same s h _ M N ps)

    parts_same : (s : Scope) → AlikeNames s.names names → (at : ℕ) (M N : TermTree) (ps : raw.RawPartTrees)
        → SameStop (parts_come s at M ps) (parts_come (with_names s names) at N ps)
    parts_same s h at M N raw.no_parts = ok_same
    parts_same s h at M N (raw.atom_part a ps) = bind_same (atom_same s h a) (λ _ _. parts_same s h at _ _ ps)
    parts_same s h at M N (raw.mono_part m ps) = bind_same (mono_same s h m) (λ _ _. parts_same s h at _ _ ps)

    atom_same : (s : Scope) → AlikeNames s.names names → (a : raw.RawAtomTree) → SameStop (atom_comes s a) (atom_comes (with_names s names) a)
    atom_same s h (raw.a_name span) = bind_same (term_name_same names s h span) (λ _ _. ok_same)
    atom_same s h (raw.a_number at value) = ok_same
    atom_same s h (raw.a_true at) = ok_same
    atom_same s h (raw.a_false at) = ok_same
    atom_same s h (raw.a_null at) = ok_same
    atom_same s h (raw.a_place at value) = ok_same
    atom_same s h (raw.a_unit at) = ok_same
    atom_same s h (raw.a_eq at m M N) = bind_same (mono_same s h m) (λ _ _. bind_same (term_same s h M) (λ _ _. bind_same (term_same s h N) (λ _ _. ok_same)))
    atom_same s h (raw.a_sel at m M N P) =
        bind_same (mono_same s h m)
        (λ _ _. bind_same (term_same s h M) (λ _ _. bind_same (term_same s h N) (λ _ _. bind_same (term_same s h P) (λ _ _. ok_same))))
    atom_same s h (raw.a_brackets at M) = term_same s h M
    atom_same s h (raw.a_pair at M N) = bind_same (term_same s h M) (λ _ _. bind_same (term_same s h N) (λ _ _. ok_same))
    atom_same s h (raw.a_annotated at M A) = bind_same (term_same s h M) (λ _ _. bind_same (ty_same s h A) (λ _ _. ok_same))

    terms_same : (s : Scope) → AlikeNames s.names names → (Ms : raw.RawTermTrees) → SameStop (terms_come s Ms) (terms_come (with_names s names) Ms)
    terms_same s h raw.no_terms = ok_same
    terms_same s h (raw.more_terms M Ms) = bind_same (term_same s h M) (λ _ _. bind_same (terms_same s h Ms) (λ _ _. ok_same))

    pub comp_same : (s : Scope) → AlikeNames s.names names → (E : raw.RawCompTree) → SameStop (comp_comes s E) (comp_comes (with_names s names) E)
    comp_same s h (raw.c_ret M) = bind_same (term_same s h M) (λ _ _. ok_same)
    comp_same s h (raw.c_step b S E) = bind_same (step_same s h S) (λ _ _. bind_same (comp_same (under s b a_term) h E) (λ _ _. ok_same))

    step_same : (s : Scope) → AlikeNames s.names names → (S : raw.RawStepTree) → SameStop (step_comes s S) (step_comes (with_names s names) S)
    step_same s h (raw.s_alloc m a) = bind_same (mono_same s h m) (λ _ _. bind_same (atom_same s h a) (λ _ _. ok_same))
    step_same s h (raw.s_get m a) = bind_same (mono_same s h m) (λ _ _. bind_same (atom_same s h a) (λ _ _. ok_same))
    step_same s h (raw.s_free m a) = bind_same (mono_same s h m) (λ _ _. bind_same (atom_same s h a) (λ _ _. ok_same))
    step_same s h (raw.s_set m a c) = bind_same (mono_same s h m) (λ _ _. bind_same (atom_same s h a) (λ _ _. bind_same (atom_same s h c) (λ _ _. ok_same)))
    step_same s h (raw.s_if m a E F) =
        bind_same (mono_same s h m)
        (λ _ _. bind_same (atom_same s h a) (λ _ _. bind_same (comp_same s h E) (λ _ _. bind_same (comp_same s h F) (λ _ _. ok_same))))
    step_same s h (raw.s_claim P) = bind_same (formula_same (under_heaps s) h P) (λ _ _. ok_same)
    step_same s h (raw.s_run A) = bind_same (appl_same s h A) (λ _ _. ok_same)

    pub formula_same : (s : Scope) → AlikeNames s.names names → (F : raw.RawFormulaTree) → SameStop (formula_comes s F) (formula_comes (with_names s names) F)
    formula_same s h (raw.f_all at b (raw.over_mono m) F) =
        bind_same (mono_same s h m) (λ _ _. bind_same (formula_same (under s b a_term) h F) (λ _ _. ok_same))
    formula_same s h (raw.f_all at b raw.over_heap F) = bind_same (formula_same (under s b a_heap) h F) (λ _ _. ok_same)
    formula_same s h (raw.f_ex at b (raw.over_mono m) F) = bind_same (mono_same s h m) (λ _ _. bind_same (formula_same (under s b a_term) h F) (λ _ _. ok_same))
    formula_same s h (raw.f_ex at b raw.over_heap F) = bind_same (formula_same (under s b a_heap) h F) (λ _ _. ok_same)
    formula_same s h (raw.f_disj D) = disj_same s h D
    formula_same s h (raw.f_implies D F) = bind_same (disj_same s h D) (λ _ _. bind_same (formula_same s h F) (λ _ _. ok_same))

    disj_same : (s : Scope) → AlikeNames s.names names → (D : raw.RawDisjTree) → SameStop (disj_comes s D) (disj_comes (with_names s names) D)
    disj_same s h (raw.d_conj C) = conj_same s h C
    disj_same s h (raw.d_or C D) = bind_same (conj_same s h C) (λ _ _. bind_same (disj_same s h D) (λ _ _. ok_same))

    conj_same : (s : Scope) → AlikeNames s.names names → (C : raw.RawConjTree) → SameStop (conj_comes s C) (conj_comes (with_names s names) C)
    conj_same s h (raw.j_star K) = star_same s h K
    conj_same s h (raw.j_and K C) = bind_same (star_same s h K) (λ _ _. bind_same (conj_same s h C) (λ _ _. ok_same))

    star_same : (s : Scope) → AlikeNames s.names names → (K : raw.RawStarTree) → SameStop (star_comes s K) (star_comes (with_names s names) K)
    star_same s h (raw.k_fatom G) = fatom_same s h G
    star_same s h (raw.k_times G K) =
        bind_same (self_same (current_heap s _))
        (λ _ _. bind_same (fatom_same (left_part s) h G) (λ _ _. bind_same (star_same (right_part s) h K) (λ _ _. ok_same)))

    fatom_same : (s : Scope) → AlikeNames s.names names → (G : raw.RawFatomTree) → SameStop (fatom_comes s G) (fatom_comes (with_names s names) G)
    fatom_same s h (raw.g_tt at) = ok_same
    fatom_same s h (raw.g_ff at) = ok_same
    fatom_same s h (raw.g_emp at) = bind_same (self_same (current_heap s at)) (λ _ _. ok_same)
    fatom_same s h (raw.g_brackets at F) = formula_same s h F
    fatom_same s h (raw.g_at_heap at k F) =
        bind_related (heap_related names s h k) (λ x y e.
        bind_same (subst (λ z. SameStop (formula_comes (at_heap s x) F) (formula_comes (at_heap (with_names s names) z) F)) e
        (formula_same (at_heap s x) h F)) (λ _ _. ok_same))
    fatom_same s h (raw.g_emp_of at k) = bind_related (heap_related names s h k) (λ _ _ _. ok_same)
    fatom_same s h (raw.g_same at k l) = bind_related (heap_related names s h k) (λ _ _ _. bind_related (heap_related names s h l) (λ _ _ _. ok_same))
    fatom_same s h (raw.g_join at k l m) =
        bind_related (heap_related names s h k)
        (λ _ _ _. bind_related (heap_related names s h l) (λ _ _ _. bind_related (heap_related names s h m) (λ _ _ _. ok_same)))
    fatom_same s h (raw.g_cell at m k M N) =
        bind_same (mono_same s h m) (λ _ _.
        bind_related (heap_related names s h k)
        (λ _ _ _. bind_same (term_same s h M) (λ _ _. bind_same (term_same s h N) (λ _ _. ok_same))))
    fatom_same s h (raw.g_block at m k M) =
        bind_same (mono_same s h m) (λ _ _. bind_related (heap_related names s h k) (λ _ _ _. bind_same (term_same s h M) (λ _ _. ok_same)))
    fatom_same s h (raw.g_use at x ms Ms) =
        bind_same (self_same (current_heap s at)) (λ _ _.
        bind_related (pred_name_related names s h x) (λ p q e.
        bind_same (counts_same at p.monos q.monos (length p.params) (length q.params) (length ms) (count_of Ms) e.0 e.1) (λ _ _.
        bind_same (monos_same s h ms) (λ _ _.
        bind_same (terms_same s h Ms) (λ _ _. ok_same)))))
    fatom_same s h (raw.g_use_at at x N Ms) =
        bind_same (self_same (current_heap s at)) (λ _ _.
        bind_related (rec_name_related names s h x) (λ p q e.
        bind_same (count_same at p.1 q.1 (count_of Ms) (ap (λ n. n.1) e)) (λ _ _.
        bind_same (term_same s h N) (λ _ _.
        bind_same (terms_same s h Ms) (λ _ _. ok_same)))))
    fatom_same s h (raw.g_use_at_heap at x k N Ms) =
        bind_related (rec_name_related names s h x) (λ p q e.
        bind_same (count_same at p.1 q.1 (count_of Ms) (ap (λ n. n.1) e)) (λ _ _.
        bind_related (heap_related names s h k) (λ _ _ _.
        bind_same (term_same s h N) (λ _ _.
        bind_same (terms_same s h Ms) (λ _ _. ok_same)))))
    fatom_same s h (raw.g_eq R m S) = bind_same (rel_same s h R) (λ _ _. bind_same (mono_same s h m) (λ _ _. bind_same (rel_same s h S) (λ _ _. ok_same)))
    fatom_same s h (raw.g_points R m S) =
        bind_same (self_same (current_heap s _))
        (λ _ _. bind_same (rel_same s h R) (λ _ _. bind_same (mono_same s h m) (λ _ _. bind_same (rel_same s h S) (λ _ _. ok_same))))
    fatom_same s h (raw.g_points_any R m) =
        bind_same (self_same (current_heap s _)) (λ _ _. bind_same (rel_same s h R) (λ _ _. bind_same (mono_same s h m) (λ _ _. ok_same)))
