-- From the marks of a tree to a derivation: proofs.
use Rattle.std.proofs.Common.{ℕ, List, [], ◌∷◌, refl}
use Rattle.htt_lexer_tokens.specs.declared.tokens.Sign.TheVariants.{CommaSign}
use Rattle.htt_parser_trees.specs.declared.proof.UnaryRule.{UnaryRule as UnaryRuleTree}
use Rattle.htt_parser_trees.specs.declared.proof.UnaryRule.TheVariants as unary_rules
use Rattle.htt_parser_trees.specs.Trees.{RawArgTree, arg_heap, arg_term, RawMotiveTree, motive_of, RawProofTree, RawStmtTree, RawEndTree, RawProofTrees, p_end}
use Rattle.htt_parser_trees.specs.Trees.{p_step, b_intro, b_gen, b_open, b_have, e_name, e_trivial, e_refl, e_unary, e_both, e_give, e_app, e_inst, e_case}
use Rattle.htt_parser_trees.specs.Trees.{e_rewrite, e_induct, e_split, e_axiom, e_unfold, e_lem, e_the, no_proofs, more_proofs}
use Rattle.htt_parser_table.specs.declared.symbols.Nonterminal.TheVariants.{UnaryRule, Argument, Arguments, ArgumentsAfter, Motive, Proof, Statement, End}
use Rattle.htt_parser_table.specs.declared.symbols.Nonterminal.TheVariants.{ProofsAfter}
use Rattle.theory_grammar.specs.Marks.{sign, word_at, each_after}
use Rattle.theory_grammar.specs.Grammar
use Rattle.theory_grammar_table.proofs.Takes.{Makes, none, one, one_alone, sub, last, left_first, unnumbered, by}
use Rattle.theory_grammar_table.proofs.Operands.{arguments_unnumbered}
use Rattle.theory_grammar_table.proofs.MonotypesMake.{binder_makes, heap_makes, monos_makes}
use Rattle.theory_grammar_table.proofs.TermsMake.{term_makes, formula_makes}

pub unary_rule_makes : (l : ℕ) (x : ℕ × UnaryRuleTree) → Makes (word_at l (Grammar.unary_rule x.1) x.0) UnaryRule
unfolding Grammar.proof each_after
unary_rule_makes l (a0, unary_rules.First) = by 0 tt (one_alone refl)
unary_rule_makes l (a0, unary_rules.Second) = by 1 tt (one_alone refl)
unary_rule_makes l (a0, unary_rules.Left) = by 2 tt (one_alone refl)
unary_rule_makes l (a0, unary_rules.Right) = by 3 tt (one_alone refl)
unary_rule_makes l (a0, unary_rules.Absurd) = by 4 tt (one_alone refl)

pub argument_makes : (l : ℕ) (x : RawArgTree) → Makes (Grammar.arg l x) Argument
unfolding Grammar.proof each_after
argument_makes l (arg_heap a0 x1) = by 0 tt (one _ refl (last (heap_makes _ x1)))
argument_makes l (arg_term x0) = by 1 tt (last (term_makes _ x0))

pub arguments_after_makes : (l : ℕ) (x : List RawArgTree) → Makes (each_after (sign l CommaSign) (Grammar.arg l) x) ArgumentsAfter
unfolding Grammar.proof each_after
arguments_after_makes l [] = by 0 tt none
arguments_after_makes l (x1 ∷ x2) = by 1 tt (one _ refl (sub (argument_makes _ x1) (last (arguments_after_makes _ x2))))

pub arguments_makes : (l : ℕ) (x : List RawArgTree) → Makes (Grammar.args l x) Arguments
unfolding Grammar.proof each_after
arguments_makes l [] = by 0 tt none
arguments_makes l (x0 ∷ x1) = by 1 tt (sub (argument_makes _ x0) (last (arguments_after_makes _ x1)))

pub motive_makes : (l : ℕ) (x : RawMotiveTree) → Makes (Grammar.motive l x) Motive
unfolding Grammar.proof each_after
motive_makes l (motive_of x0 x3) = by 0 tt (sub (binder_makes _ x0) (one _ refl (one _ refl (sub (formula_makes _ x3) (one_alone refl)))))

mutual
  unfolding Grammar.proof each_after

  pub proof_makes : (l : ℕ) (x : RawProofTree) → Makes (Grammar.proof l x) Proof
  proof_makes l (p_end x0) = by 0 tt (last (end_makes _ x0))
  proof_makes l (p_step x0 x1) = by 1 tt (sub (statement_makes _ x0) (last (proof_makes _ x1)))

  pub statement_makes : (l : ℕ) (x : RawStmtTree) → Makes (Grammar.stmt l x) Statement
  statement_makes l (b_intro a0 s1) = by 0 tt (one _ refl (one _ refl (one_alone refl)))
  statement_makes l (b_gen a0 x1) = by 1 tt (one _ refl (sub (binder_makes _ x1) (one_alone refl)))
  statement_makes l (b_open a0 x1 s2 x4) = by 2 tt (one _ refl (sub (binder_makes _ x1) (one _ refl (one _ refl (sub (proof_makes _ x4) (one_alone refl))))))
  statement_makes l (b_have a0 s1 x4 x7) =
      by 3 tt (one _ refl
      (one _ refl (one _ refl (one _ refl (sub (formula_makes _ x4) (one _ refl (one _ refl (sub (proof_makes _ x7) (one_alone refl)))))))))

  pub end_makes : (l : ℕ) (x : RawEndTree) → Makes (Grammar.ending l x) End
  end_makes l (e_name s0) = by 0 tt (one_alone refl)
  end_makes l (e_trivial a0) = by 1 tt (one_alone refl)
  end_makes l (e_refl a0) = by 2 tt (one_alone refl)
  end_makes l (e_unary x0a x0b x2) = by 3 tt (sub (unary_rule_makes _ (x0a, x0b)) (one _ refl (sub (proof_makes _ x2) (one_alone refl))))
  end_makes l (e_both a0 x2 x4) = by 4 tt (one _ refl (one _ refl (sub (proof_makes _ x2) (one _ refl (sub (proof_makes _ x4) (one_alone refl))))))
  end_makes l (e_give a0 x2 x4) = by 5 tt (one _ refl (one _ refl (sub (argument_makes _ x2) (one _ refl (sub (proof_makes _ x4) (one_alone refl))))))
  end_makes l (e_app a0 x2 x4 x5) =
      by 6 tt (one _ refl (one _ refl
      (sub (proof_makes _ x2) (one _ refl (sub (unnumbered _ (proof_makes _ x4)) (sub (proofs_after_makes _ _ x5) (one_alone refl)))))))
  end_makes l (e_inst a0 x2 x4 x5) =
      by 7 tt (one _ refl (one _ refl
      (sub (proof_makes _ x2) (one _ refl
      (sub (unnumbered _ (argument_makes _ x4)) (sub (arguments_unnumbered _ _ x5 (arguments_after_makes _ x5)) (one_alone refl)))))))
  end_makes l (e_case a0 x2 s4 x6 s8 x10) =
      by 8 tt (one _ refl (one _ refl
      (sub (proof_makes _ x2) (one _ refl
      (one _ refl
      (one _ refl (sub (proof_makes _ x6) (one _ refl (one _ refl (one _ refl (sub (proof_makes _ x10) (one_alone refl))))))))))))
  end_makes l (e_rewrite a0 x2 x4 x6) =
      by 9 tt (one _ refl
      (one _ refl (sub (proof_makes _ x2) (one _ refl (sub (motive_makes _ x4) (one _ refl (sub (proof_makes _ x6) (one_alone refl))))))))
  end_makes l (e_induct a0 x2 x4 x6 x8 s9 s10 x12) =
      by 10 tt (one _ refl (one _ refl
      (sub (motive_makes _ x2) (one _ refl
      (sub (term_makes _ x4) (one _ refl
      (sub (proof_makes _ x6)
      (one _ refl (sub (binder_makes _ x8) (one _ refl (one _ refl (one _ refl (sub (proof_makes _ x12) (one_alone refl))))))))))))))
  end_makes l (e_split a0 x2 x4 x6 x8) =
      by 11 tt (one _ refl (one _ refl
      (sub (motive_makes _ x2)
      (one _ refl (sub (term_makes _ x4) (one _ refl (sub (proof_makes _ x6) (one _ refl (sub (proof_makes _ x8) (one_alone refl))))))))))
  end_makes l (e_axiom a0 s1 x2 x4) = by 12 tt (one _ refl (one _ refl (sub (monos_makes _ x2) (one _ refl (sub (arguments_makes _ x4) (one_alone refl))))))
  end_makes l (e_unfold a0 s1 n3 x5 x6) =
      by 13 tt (one _ refl (one _ refl
      (one _ refl
      (one _ (n3, refl) (one _ refl (left_first _ _ _ (sub (argument_makes _ x5) (sub (arguments_after_makes _ x6) (one_alone refl)))))))))
  end_makes l (e_lem a0 x2) = by 14 tt (one _ refl (one _ refl (sub (formula_makes _ x2) (one_alone refl))))
  end_makes l (e_the a0 x2 x5) =
      by 15 tt (one _ refl (one _ refl (sub (formula_makes _ x2) (one _ refl (one _ refl (sub (proof_makes _ x5) (one_alone refl)))))))

  pub proofs_after_makes : (l k : ℕ) (x : RawProofTrees) → Makes (Grammar.proofs_after l k x) ProofsAfter
  proofs_after_makes l k no_proofs = by 0 tt none
  proofs_after_makes l k (more_proofs x1 x2) = by 1 tt (one _ refl (sub (unnumbered _ (proof_makes _ x1)) (last (proofs_after_makes _ _ x2))))
