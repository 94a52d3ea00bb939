-- From the marks of a tree to a derivation: terms.
use Rattle.std.proofs.Common.{ℕ, refl}
use Rattle.htt_parser_trees.specs.Trees.{SumSign as SumSignTree}
use Rattle.htt_parser_trees.specs.Trees.{plus, minus, bar, caret}
use Rattle.htt_parser_trees.specs.Trees.{ProdSign}
use Rattle.htt_parser_trees.specs.Trees.{times, ampersand, shift_left, shift_right}
use Rattle.htt_parser_trees.specs.declared.tree.UnaryWord.{UnaryWord as UnaryWordTree}
use Rattle.htt_parser_trees.specs.declared.tree.UnaryWord.TheVariants as unary_words
use Rattle.htt_parser_trees.specs.Trees.{RawTyTree, RawTripleTree, RawTermTree, RawParamTrees, RawRelTree, RawSumTree, RawSumRestTree, RawProdTree}
use Rattle.htt_parser_trees.specs.Trees.{RawProdRestTree, RawApplTree, RawPartTrees, RawAtomTree, RawCompTree, RawStepTree, RawFormulaTree, RawSortTree}
use Rattle.htt_parser_trees.specs.Trees.{RawDisjTree, RawConjTree, RawStarTree, RawFatomTree, RawTermTrees, y_fun, y_all, y_hoare, y_mono, triple_of, t_fun}
use Rattle.htt_parser_trees.specs.Trees.{t_fun_mono, t_do, t_fix, t_rel, no_params, more_params, r_sum, r_less, s_sum, s_end, s_more, x_prod, x_end, x_more}
use Rattle.htt_parser_trees.specs.Trees.{l_unary, l_apply, no_parts, atom_part, mono_part, a_name, a_number, a_true, a_false, a_null, a_place, a_eq, a_sel}
use Rattle.htt_parser_trees.specs.Trees.{a_unit, a_brackets, a_pair, a_annotated, c_ret, c_step, s_alloc, s_get, s_set, s_free, s_if, s_claim, s_run, f_all}
use Rattle.htt_parser_trees.specs.Trees.{f_ex, f_disj, f_implies, over_mono, over_heap, d_conj, d_or, j_star, j_and, k_fatom, k_times, g_tt, g_ff, g_emp}
use Rattle.htt_parser_trees.specs.Trees.{g_brackets, g_at_heap, g_emp_of, g_same, g_join, g_cell, g_block, g_use, g_use_at, g_use_at_heap, g_eq, g_points}
use Rattle.htt_parser_trees.specs.Trees.{g_points_any, no_terms, more_terms}
use Rattle.htt_parser_table.specs.declared.symbols.Nonterminal.TheVariants.{SumSign, ProductSign, UnaryWord, TypePhrase, Triple, Term, Parameters, Relation}
use Rattle.htt_parser_table.specs.declared.symbols.Nonterminal.TheVariants.{Sum, SumRest, Product, ProductRest, Application, Parts, Atom, Comp, Step, Formula}
use Rattle.htt_parser_table.specs.declared.symbols.Nonterminal.TheVariants.{Sort, Disjunction, Conjunction, Separation, FormulaAtom, Terms, TermsAfter}
use Rattle.theory_grammar.specs.Marks.{sign, word_at}
use Rattle.theory_grammar.specs.Grammar
use Rattle.theory_grammar_table.proofs.Takes.{Makes, none, one, one_alone, sub, last, unnumbered, by}
use Rattle.theory_grammar_table.proofs.MonotypesMake.{binder_makes, heap_makes, mono_makes, mono_in_brackets_makes, monos_makes}

pub sum_sign_makes : (l : ℕ) (x : SumSignTree) → Makes (sign l (Grammar.sum_sign x)) SumSign
unfolding Grammar.term
sum_sign_makes l plus = by 0 tt (one_alone refl)
sum_sign_makes l minus = by 1 tt (one_alone refl)
sum_sign_makes l bar = by 2 tt (one_alone refl)
sum_sign_makes l caret = by 3 tt (one_alone refl)

pub product_sign_makes : (l : ℕ) (x : ProdSign) → Makes (sign l (Grammar.prod_sign x)) ProductSign
unfolding Grammar.term
product_sign_makes l times = by 0 tt (one_alone refl)
product_sign_makes l ampersand = by 1 tt (one_alone refl)
product_sign_makes l shift_left = by 2 tt (one_alone refl)
product_sign_makes l shift_right = by 3 tt (one_alone refl)

pub unary_word_makes : (l : ℕ) (x : ℕ × UnaryWordTree) → Makes (word_at l (Grammar.unary_word x.1) x.0) UnaryWord
unfolding Grammar.term
unary_word_makes l (a0, unary_words.Fst) = by 0 tt (one_alone refl)
unary_word_makes l (a0, unary_words.Snd) = by 1 tt (one_alone refl)
unary_word_makes l (a0, unary_words.Not) = by 2 tt (one_alone refl)

mutual
  unfolding Grammar.term

  pub type_phrase_makes : (l : ℕ) (x : RawTyTree) → Makes (Grammar.ty l x) TypePhrase
  type_phrase_makes l (y_fun a0 x1 x3 x6) =
      by 0 tt (one _ refl
      (sub (binder_makes _ x1) (one _ refl (sub (type_phrase_makes _ x3) (one _ refl (one _ refl (last (type_phrase_makes _ x6))))))))
  type_phrase_makes l (y_all a0 s1 x4) = by 1 tt (one _ refl (one _ refl (one _ refl (one _ refl (last (type_phrase_makes _ x4))))))
  type_phrase_makes l (y_hoare a0 x1) = by 2 tt (one _ refl (last (triple_makes _ x1)))
  type_phrase_makes l (y_mono x0) = by 3 tt (last (mono_makes _ x0))

  pub triple_makes : (l : ℕ) (x : RawTripleTree) → Makes (Grammar.triple l x) Triple
  triple_makes l (triple_of x0 x2 x4 x6) =
      by 0 tt (sub (formula_makes _ x0)
      (one _ refl (sub (binder_makes _ x2) (one _ refl (sub (mono_makes _ x4) (one _ refl (sub (formula_makes _ x6) (one_alone refl))))))))

  pub term_makes : (l : ℕ) (x : RawTermTree) → Makes (Grammar.term l x) Term
  term_makes l (t_fun a0 x1 x3) = by 0 tt (one _ refl (sub (binder_makes _ x1) (one _ refl (last (term_makes _ x3)))))
  term_makes l (t_fun_mono a0 s2 x5) = by 1 tt (one _ refl (one _ refl (one _ refl (one _ refl (one _ refl (last (term_makes _ x5)))))))
  term_makes l (t_do a0 x1) = by 2 tt (one _ refl (last (comp_makes _ x1)))
  term_makes l (t_fix a0 s1 x2 x5 x7) =
      by 3 tt (one _ refl
      (one _ refl (sub (parameters_makes _ x2) (one _ refl (one _ refl (sub (triple_makes _ x5) (one _ refl (last (comp_makes _ x7)))))))))
  term_makes l (t_rel x0) = by 4 tt (last (relation_makes _ x0))

  pub parameters_makes : (l : ℕ) (x : RawParamTrees) → Makes (Grammar.params l x) Parameters
  parameters_makes l no_params = by 0 tt none
  parameters_makes l (more_params x1 x3 x5) =
      by 1 tt (one _ refl (sub (binder_makes _ x1) (one _ refl (sub (type_phrase_makes _ x3) (one _ refl (last (parameters_makes _ x5)))))))

  pub relation_makes : (l : ℕ) (x : RawRelTree) → Makes (Grammar.rel l x) Relation
  relation_makes l (r_sum x0) = by 0 tt (last (sum_makes _ x0))
  relation_makes l (r_less x0 x2) = by 1 tt (sub (sum_makes _ x0) (one _ refl (last (sum_makes _ x2))))

  pub sum_makes : (l : ℕ) (x : RawSumTree) → Makes (Grammar.sum l x) Sum
  sum_makes l (s_sum x0 x1) = by 0 tt (sub (product_makes _ x0) (last (sum_rest_makes _ _ x1)))

  pub sum_rest_makes : (l k : ℕ) (x : RawSumRestTree) → Makes (Grammar.sum_rest l k x) SumRest
  sum_rest_makes l k s_end = by 0 tt none
  sum_rest_makes l k (s_more x0 x1 x2) = by 1 tt (sub (sum_sign_makes _ x0) (sub (unnumbered _ (product_makes _ x1)) (last (sum_rest_makes _ _ x2))))

  pub product_makes : (l : ℕ) (x : RawProdTree) → Makes (Grammar.prod l x) Product
  product_makes l (x_prod x0 x1) = by 0 tt (sub (application_makes _ x0) (last (product_rest_makes _ _ x1)))

  pub product_rest_makes : (l k : ℕ) (x : RawProdRestTree) → Makes (Grammar.prod_rest l k x) ProductRest
  product_rest_makes l k x_end = by 0 tt none
  product_rest_makes l k (x_more x0 x1 x2) =
      by 1 tt (sub (product_sign_makes _ x0) (sub (unnumbered _ (application_makes _ x1)) (last (product_rest_makes _ _ x2))))

  pub application_makes : (l : ℕ) (x : RawApplTree) → Makes (Grammar.appl l x) Application
  application_makes l (l_unary x0a x0b x1) = by 0 tt (sub (unary_word_makes _ (x0a, x0b)) (last (atom_makes _ x1)))
  application_makes l (l_apply x0 x1) = by 1 tt (sub (atom_makes _ x0) (last (parts_makes _ _ x1)))

  pub parts_makes : (l k : ℕ) (x : RawPartTrees) → Makes (Grammar.parts l k x) Parts
  parts_makes l k no_parts = by 0 tt none
  parts_makes l k (atom_part x0 x1) = by 1 tt (sub (unnumbered _ (atom_makes _ x0)) (last (parts_makes _ _ x1)))
  parts_makes l k (mono_part x1 x3) = by 2 tt (one _ refl (sub (unnumbered _ (mono_makes _ x1)) (one _ refl (last (parts_makes _ _ x3)))))

  pub atom_makes : (l : ℕ) (x : RawAtomTree) → Makes (Grammar.atom l x) Atom
  atom_makes l (a_name s0) = by 0 tt (one_alone refl)
  atom_makes l (a_number a0 n0) = by 1 tt (one_alone (n0, refl))
  atom_makes l (a_true a0) = by 2 tt (one_alone refl)
  atom_makes l (a_false a0) = by 3 tt (one_alone refl)
  atom_makes l (a_null a0) = by 4 tt (one_alone refl)
  atom_makes l (a_place a0 n1) = by 5 tt (one _ refl (one_alone (n1, refl)))
  atom_makes l (a_eq a0 x1 x3 x5) =
      by 6 tt (one _ refl
      (sub (mono_in_brackets_makes _ x1) (one _ refl (sub (term_makes _ x3) (one _ refl (sub (term_makes _ x5) (one_alone refl)))))))
  atom_makes l (a_sel a0 x1 x3 x5 x7) =
      by 7 tt (one _ refl (sub (mono_in_brackets_makes _ x1)
      (one _ refl (sub (term_makes _ x3) (one _ refl (sub (term_makes _ x5) (one _ refl (sub (term_makes _ x7) (one_alone refl)))))))))
  atom_makes l (a_unit a0) = by 8 tt (one _ refl (one_alone refl))
  atom_makes l (a_brackets a0 x1) = by 9 tt (one _ refl (sub (term_makes _ x1) (one_alone refl)))
  atom_makes l (a_pair a0 x1 x3) = by 10 tt (one _ refl (sub (term_makes _ x1) (one _ refl (sub (term_makes _ x3) (one_alone refl)))))
  atom_makes l (a_annotated a0 x1 x3) = by 11 tt (one _ refl (sub (term_makes _ x1) (one _ refl (sub (type_phrase_makes _ x3) (one_alone refl)))))

  pub comp_makes : (l : ℕ) (x : RawCompTree) → Makes (Grammar.comp l x) Comp
  comp_makes l (c_ret x1) = by 0 tt (one _ refl (last (term_makes _ x1)))
  comp_makes l (c_step x0 x2 x4) = by 1 tt (sub (binder_makes _ x0) (one _ refl (sub (step_makes _ x2) (one _ refl (last (comp_makes _ x4))))))

  pub step_makes : (l : ℕ) (x : RawStepTree) → Makes (Grammar.step l x) Step
  step_makes l (s_alloc x1 x2) = by 0 tt (one _ refl (sub (mono_in_brackets_makes _ x1) (last (atom_makes _ x2))))
  step_makes l (s_get x1 x2) = by 1 tt (one _ refl (sub (mono_in_brackets_makes _ x1) (last (atom_makes _ x2))))
  step_makes l (s_set x1 x2 x3) = by 2 tt (one _ refl (sub (mono_in_brackets_makes _ x1) (sub (atom_makes _ x2) (last (atom_makes _ x3)))))
  step_makes l (s_free x1 x2) = by 3 tt (one _ refl (sub (mono_in_brackets_makes _ x1) (last (atom_makes _ x2))))
  step_makes l (s_if x1 x2 x4 x7) =
      by 4 tt (one _ refl (sub (mono_in_brackets_makes _ x1)
      (sub (atom_makes _ x2) (one _ refl (sub (comp_makes _ x4) (one _ refl (one _ refl (sub (comp_makes _ x7) (one_alone refl)))))))))
  step_makes l (s_claim x2) = by 5 tt (one _ refl (one _ refl (sub (formula_makes _ x2) (one_alone refl))))
  step_makes l (s_run x0) = by 6 tt (last (application_makes _ x0))

  pub formula_makes : (l : ℕ) (x : RawFormulaTree) → Makes (Grammar.formula l x) Formula
  formula_makes l (f_all a0 x1 x3 x5) =
      by 0 tt (one _ refl (sub (binder_makes _ x1) (one _ refl (sub (sort_makes _ x3) (one _ refl (last (formula_makes _ x5)))))))
  formula_makes l (f_ex a0 x1 x3 x5) =
      by 1 tt (one _ refl (sub (binder_makes _ x1) (one _ refl (sub (sort_makes _ x3) (one _ refl (last (formula_makes _ x5)))))))
  formula_makes l (f_disj x0) = by 2 tt (last (disjunction_makes _ x0))
  formula_makes l (f_implies x0 x2) = by 3 tt (sub (disjunction_makes _ x0) (one _ refl (last (formula_makes _ x2))))

  pub sort_makes : (l : ℕ) (x : RawSortTree) → Makes (Grammar.sort l x) Sort
  sort_makes l (over_mono x0) = by 0 tt (last (mono_makes _ x0))
  sort_makes l over_heap = by 1 tt (one_alone refl)

  pub disjunction_makes : (l : ℕ) (x : RawDisjTree) → Makes (Grammar.disj l x) Disjunction
  disjunction_makes l (d_conj x0) = by 0 tt (last (conjunction_makes _ x0))
  disjunction_makes l (d_or x0 x2) = by 1 tt (sub (conjunction_makes _ x0) (one _ refl (last (disjunction_makes _ x2))))

  pub conjunction_makes : (l : ℕ) (x : RawConjTree) → Makes (Grammar.conj l x) Conjunction
  conjunction_makes l (j_star x0) = by 0 tt (last (separation_makes _ x0))
  conjunction_makes l (j_and x0 x2) = by 1 tt (sub (separation_makes _ x0) (one _ refl (last (conjunction_makes _ x2))))

  pub separation_makes : (l : ℕ) (x : RawStarTree) → Makes (Grammar.star l x) Separation
  separation_makes l (k_fatom x0) = by 0 tt (last (formula_atom_makes _ x0))
  separation_makes l (k_times x0 x2) = by 1 tt (sub (formula_atom_makes _ x0) (one _ refl (last (separation_makes _ x2))))

  pub formula_atom_makes : (l : ℕ) (x : RawFatomTree) → Makes (Grammar.fatom l x) FormulaAtom
  formula_atom_makes l (g_tt a0) = by 0 tt (one_alone refl)
  formula_atom_makes l (g_ff a0) = by 1 tt (one_alone refl)
  formula_atom_makes l (g_emp a0) = by 2 tt (one_alone refl)
  formula_atom_makes l (g_brackets a0 x1) = by 3 tt (one _ refl (sub (formula_makes _ x1) (one_alone refl)))
  formula_atom_makes l (g_at_heap a0 x1 x3) = by 4 tt (one _ refl (sub (heap_makes _ x1) (one _ refl (sub (formula_makes _ x3) (one_alone refl)))))
  formula_atom_makes l (g_emp_of a0 x2) = by 5 tt (one _ refl (one _ refl (sub (heap_makes _ x2) (one_alone refl))))
  formula_atom_makes l (g_same a0 x2 x4) = by 6 tt (one _ refl (one _ refl (sub (heap_makes _ x2) (one _ refl (sub (heap_makes _ x4) (one_alone refl))))))
  formula_atom_makes l (g_join a0 x2 x4 x6) =
      by 7 tt (one _ refl
      (one _ refl (sub (heap_makes _ x2) (one _ refl (sub (heap_makes _ x4) (one _ refl (sub (heap_makes _ x6) (one_alone refl))))))))
  formula_atom_makes l (g_cell a0 x1 x3 x5 x7) =
      by 8 tt (one _ refl (sub (mono_in_brackets_makes _ x1)
      (one _ refl (sub (heap_makes _ x3) (one _ refl (sub (term_makes _ x5) (one _ refl (sub (term_makes _ x7) (one_alone refl)))))))))
  formula_atom_makes l (g_block a0 x1 x3 x5) =
      by 9 tt (one _ refl
      (sub (mono_in_brackets_makes _ x1) (one _ refl (sub (heap_makes _ x3) (one _ refl (sub (term_makes _ x5) (one_alone refl)))))))
  formula_atom_makes l (g_use a0 s1 x2 x4) = by 10 tt (one _ refl (one _ refl (sub (monos_makes _ x2) (one _ refl (sub (terms_makes _ x4) (one_alone refl))))))
  formula_atom_makes l (g_use_at a0 s1 x3 x5) =
      by 11 tt (one _ refl (one _ refl (one _ refl (sub (term_makes _ x3) (one _ refl (sub (terms_makes _ x5) (one_alone refl)))))))
  formula_atom_makes l (g_use_at_heap a0 s1 x3 x5 x7) =
      by 12 tt (one _ refl (one _ refl
      (one _ refl (sub (heap_makes _ x3) (one _ refl (sub (term_makes _ x5) (one _ refl (sub (terms_makes _ x7) (one_alone refl)))))))))
  formula_atom_makes l (g_eq x0 x2 x3) = by 13 tt (sub (relation_makes _ x0) (one _ refl (sub (mono_in_brackets_makes _ x2) (last (relation_makes _ x3)))))
  formula_atom_makes l (g_points x0 x2 x3) = by 14 tt (sub (relation_makes _ x0) (one _ refl (sub (mono_in_brackets_makes _ x2) (last (relation_makes _ x3)))))
  formula_atom_makes l (g_points_any x0 x2) = by 15 tt (sub (relation_makes _ x0) (one _ refl (sub (mono_in_brackets_makes _ x2) (one_alone refl))))

  pub terms_makes : (l : ℕ) (x : RawTermTrees) → Makes (Grammar.terms l x) Terms
  terms_makes l no_terms = by 0 tt none
  terms_makes l (more_terms x0 x1) = by 1 tt (sub (term_makes _ x0) (last (terms_after_makes _ x1)))

  pub terms_after_makes : (l : ℕ) (x : RawTermTrees) → Makes (Grammar.terms_after l x) TermsAfter
  terms_after_makes l no_terms = by 0 tt none
  terms_after_makes l (more_terms x1 x2) = by 1 tt (one _ refl (sub (term_makes _ x1) (last (terms_after_makes _ x2))))
