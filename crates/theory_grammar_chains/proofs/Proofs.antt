-- No operand is deeper than the tokens before it: proofs.
use Rattle.std.proofs.Common.{ℕ, suc, ◌≤◌, List, [], ◌∷◌, refl, arith}
use Rattle.htt_parser_trees.specs.declared.tree.RawHeap.{RawHeap}
use Rattle.htt_parser_trees.specs.Trees.{RawArgTree, arg_heap, arg_term, RawMotiveTree, motive_of, RawProofTree, RawStmtTree, RawEndTree, RawProofTrees, p_end}
use Rattle.htt_parser_trees.specs.Trees.{p_step, b_intro, b_gen, b_open, b_have, e_name, e_trivial, e_refl, e_unary, e_both, e_give, e_app, e_inst, e_case}
use Rattle.htt_parser_trees.specs.Trees.{e_rewrite, e_induct, e_split, e_axiom, e_unfold, e_lem, e_the, no_proofs, more_proofs}
use Rattle.htt_lexer_tokens.specs.declared.tokens.Sign.TheVariants.{AtSign}
use Rattle.theory_grammar.specs.Marks.{◌⨟◌, numbered, sign_at}
use Rattle.theory_grammar.specs.Grammar
use Rattle.theory_grammar.proofs.Opens.{opens_term, opens_proof}
use Rattle.theory_grammar_chains.proofs.Even.{Even, none, one, alone, sub, behind, level_of, again, separated_even}
use Rattle.theory_grammar_chains.proofs.Monotypes.{binder_even, heap_even, monos_even}
use Rattle.theory_grammar_chains.proofs.Terms.{term_even, formula_even}

less : {n : ℕ} (l : ℕ) → suc l ≤ n → l ≤ n
less l low = omega (arith, low)

-- a heap as a further operand, behind its sign
heap_again : {n : ℕ} (l k : ℕ) → l ≤ n → (at : ℕ) (h : RawHeap) → Even n (numbered k (sign_at l AtSign at ⨟ Grammar.heap l h))
unfolding ◌⨟◌
heap_again l k low at h = let rest = heap_even l h in record { even = (λ more. low, λ _. rest.even) }

pub arg_even : {n : ℕ} (l : ℕ) (x : RawArgTree) → Even n (Grammar.arg l x)
arg_even l (arg_heap a0 x1) = one _ refl (heap_even _ x1)
arg_even l (arg_term x0) = term_even _ x0

pub args_even : {n : ℕ} (l : ℕ) (x : List RawArgTree) → Even n (Grammar.args l x)
args_even l = separated_even _ refl (arg_even l)

pub motive_even : {n : ℕ} (l : ℕ) (x : RawMotiveTree) → Even n (Grammar.motive l x)
motive_even l (motive_of x0 x3) = sub (binder_even _ x0) (one _ refl (one _ refl (sub (formula_even _ x3) (alone refl))))

-- an argument as a further operand; a term is one level deeper than the chain
again_arg : {n : ℕ} (l k : ℕ) → suc l ≤ n → (x : RawArgTree) → Even n (numbered k (Grammar.arg l x))
unfolding ◌⨟◌
again_arg l k low (arg_heap at h) = heap_again l k (less l low) at h
again_arg l k low (arg_term m) = again k _ (opens_term (suc l) m) low (term_even (suc l) m)

args_after_even : {n : ℕ} (l k : ℕ) → suc l ≤ n → (x : List RawArgTree) → Even n (Grammar.args_after l k x)
args_after_even l k low [] = none
args_after_even l k low (x1 ∷ x2) = one _ refl (sub (again_arg l k low x1) (args_after_even l (suc k) low x2))

mutual
  unfolding Grammar.proof

  pub proof_even : {n : ℕ} (l : ℕ) (x : RawProofTree) → Even n (Grammar.proof l x)
  proof_even l (p_end x0) = end_even _ x0
  proof_even l (p_step x0 x1) = sub (stmt_even _ x0) (proof_even _ x1)

  pub stmt_even : {n : ℕ} (l : ℕ) (x : RawStmtTree) → Even n (Grammar.stmt l x)
  stmt_even l (b_intro a0 s1) = one _ refl (one _ refl (alone refl))
  stmt_even l (b_gen a0 x1) = one _ refl (sub (binder_even _ x1) (alone refl))
  stmt_even l (b_open a0 x1 s2 x4) = one _ refl (sub (binder_even _ x1) (one _ refl (one _ refl (sub (proof_even _ x4) (alone refl)))))
  stmt_even l (b_have a0 s1 x4 x7) =
      one _ refl
      (one _ refl (one _ refl (one _ refl (sub (formula_even _ x4) (one _ refl (one _ refl (sub (proof_even _ x7) (alone refl))))))))

  pub end_even : {n : ℕ} (l : ℕ) (x : RawEndTree) → Even n (Grammar.ending l x)
  end_even l (e_name s0) = alone refl
  end_even l (e_trivial a0) = alone refl
  end_even l (e_refl a0) = alone refl
  end_even l (e_unary x0a x0b x2) = one _ refl (one _ refl (sub (proof_even _ x2) (alone refl)))
  end_even l (e_both a0 x2 x4) = one _ refl (one _ refl (sub (proof_even _ x2) (one _ refl (sub (proof_even _ x4) (alone refl)))))
  end_even l (e_give a0 x2 x4) = one _ refl (one _ refl (sub (arg_even _ x2) (one _ refl (sub (proof_even _ x4) (alone refl)))))
  end_even l (e_app a0 x2 x4 x5) =
      one _ refl (one _ refl (behind (proof_even (suc l) x2) (λ most.
      let low = level_of _ _ (opens_proof (suc l) x2) most in
      one _ refl (sub (again 2 _ (opens_proof (suc l) x4) low (proof_even (suc l) x4)) (sub (proofs_after_even l 3 low x5) (alone refl))))))
  end_even l (e_inst a0 x2 x4 x5) =
      one _ refl (one _ refl (behind (proof_even (suc l) x2) (λ most.
      let low = level_of _ _ (opens_proof (suc l) x2) most in
      one _ refl (sub (again_arg l 2 low x4) (sub (args_after_even l 3 low x5) (alone refl))))))
  end_even l (e_case a0 x2 s4 x6 s8 x10) =
      one _ refl (one _ refl (sub (proof_even _ x2)
      (one _ refl
      (one _ refl (one _ refl (sub (proof_even _ x6) (one _ refl (one _ refl (one _ refl (sub (proof_even _ x10) (alone refl)))))))))))
  end_even l (e_rewrite a0 x2 x4 x6) =
      one _ refl
      (one _ refl (sub (proof_even _ x2) (one _ refl (sub (motive_even _ x4) (one _ refl (sub (proof_even _ x6) (alone refl)))))))
  end_even l (e_induct a0 x2 x4 x6 x8 s9 s10 x12) =
      one _ refl (one _ refl (sub (motive_even _ x2)
      (one _ refl (sub (term_even _ x4)
      (one _ refl (sub (proof_even _ x6)
      (one _ refl (sub (binder_even _ x8) (one _ refl (one _ refl (one _ refl (sub (proof_even _ x12) (alone refl)))))))))))))
  end_even l (e_split a0 x2 x4 x6 x8) =
      one _ refl (one _ refl (sub (motive_even _ x2)
      (one _ refl (sub (term_even _ x4) (one _ refl (sub (proof_even _ x6) (one _ refl (sub (proof_even _ x8) (alone refl)))))))))
  end_even l (e_axiom a0 s1 x2 x4) = one _ refl (one _ refl (sub (monos_even _ x2) (one _ refl (sub (args_even _ x4) (alone refl)))))
  end_even l (e_unfold a0 s1 n3 x5 x6) = one _ refl (one _ refl (one _ refl (one _ refl (one _ refl (sub (args_even _ (x5 ∷ x6)) (alone refl))))))
  end_even l (e_lem a0 x2) = one _ refl (one _ refl (sub (formula_even _ x2) (alone refl)))
  end_even l (e_the a0 x2 x5) = one _ refl (one _ refl (sub (formula_even _ x2) (one _ refl (one _ refl (sub (proof_even _ x5) (alone refl))))))

  pub proofs_after_even : {n : ℕ} (l k : ℕ) → suc l ≤ n → (x : RawProofTrees) → Even n (Grammar.proofs_after l k x)
  proofs_after_even l k low no_proofs = none
  proofs_after_even l k low (more_proofs x1 x2) =
      one _ refl (sub (again k _ (opens_proof (suc l) x1) low (proof_even (suc l) x1)) (proofs_after_even l (suc k) low x2))
