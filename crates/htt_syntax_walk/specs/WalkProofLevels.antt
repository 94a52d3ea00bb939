-- The walk over a proof, one level at a time: an equation for each form of node.
use Rattle.std.specs.Prelude.{ℕ, ◌+◌, ◌≡◌, refl, List, map}
use Rattle.htt_syntax.specs.Trees.{MonoTree, TermTree, FormulaTree, ArgTree, ProofTree, StmtTree, BlockTree, binders_of}
use Rattle.htt_syntax.specs.Trees.{p_hyp, p_trivial, p_refl, p_first, p_second, p_left, p_right, p_absurd, p_both}
use Rattle.htt_syntax.specs.Trees.{p_give, p_app, p_inst, p_case, p_rewrite, p_induct, p_split, p_axiom, p_lem, p_the}
use Rattle.htt_syntax.specs.Trees.{p_block, p_at, p_unfold, d_intro, d_gen, d_have, d_open, d_at, b_then, b_end, a_heap}
use Rattle.htt_syntax.specs.Trees.{a_term}
use Rattle.htt_syntax_walk.specs.Walk.{Puts, walk_mono, walk_term, walk_formula}
use Rattle.htt_syntax_walk.specs.WalkProof.{walk_arg, walk_proof, walk_stmt, walk_block}

pub intro_binds : binders_of d_intro ≡ 0
unfolding binders_of
intro_binds = refl

pub gen_binds : binders_of d_gen ≡ 1
unfolding binders_of
gen_binds = refl

pub have_binds : (formula : FormulaTree) (proof : ProofTree) → binders_of (d_have formula proof) ≡ 0
unfolding binders_of
have_binds formula proof = refl

pub unpack_binds : (proof : ProofTree) → binders_of (d_open proof) ≡ 1
unfolding binders_of
unpack_binds proof = refl

pub at_binds : (at : ℕ) (stmt : StmtTree) → binders_of (d_at at stmt) ≡ binders_of stmt
unfolding binders_of
at_binds at stmt = refl

module _ (p : Puts) (d : ℕ) where
  pub arg_heap_walk : (heap : ℕ) → walk_arg p d (a_heap heap) ≡ a_heap (p.on_heap d heap)
  unfolding walk_arg
  arg_heap_walk heap = refl

  pub arg_term_walk : (term : TermTree) → walk_arg p d (a_term term) ≡ a_term (walk_term p d term)
  unfolding walk_arg
  arg_term_walk term = refl

  pub proof_hyp_walk : (number : ℕ) → walk_proof p d (p_hyp number) ≡ p_hyp number
  unfolding walk_proof
  proof_hyp_walk number = refl

  pub proof_trivial_walk : walk_proof p d p_trivial ≡ p_trivial
  unfolding walk_proof
  proof_trivial_walk = refl

  pub proof_refl_walk : walk_proof p d p_refl ≡ p_refl
  unfolding walk_proof
  proof_refl_walk = refl

  pub proof_first_walk : (proof : ProofTree) → walk_proof p d (p_first proof) ≡ p_first (walk_proof p d proof)
  unfolding walk_proof
  proof_first_walk proof = refl

  pub proof_second_walk : (proof : ProofTree) → walk_proof p d (p_second proof) ≡ p_second (walk_proof p d proof)
  unfolding walk_proof
  proof_second_walk proof = refl

  pub proof_left_walk : (proof : ProofTree) → walk_proof p d (p_left proof) ≡ p_left (walk_proof p d proof)
  unfolding walk_proof
  proof_left_walk proof = refl

  pub proof_right_walk : (proof : ProofTree) → walk_proof p d (p_right proof) ≡ p_right (walk_proof p d proof)
  unfolding walk_proof
  proof_right_walk proof = refl

  pub proof_absurd_walk : (proof : ProofTree) → walk_proof p d (p_absurd proof) ≡ p_absurd (walk_proof p d proof)
  unfolding walk_proof
  proof_absurd_walk proof = refl

  pub proof_both_walk : (left : ProofTree) (right : ProofTree)
      → walk_proof p d (p_both left right) ≡ p_both (walk_proof p d left) (walk_proof p d right)
  unfolding walk_proof
  proof_both_walk left right = refl

  pub proof_give_walk : (arg : ArgTree) (proof : ProofTree)
      → walk_proof p d (p_give arg proof) ≡ p_give (walk_arg p d arg) (walk_proof p d proof)
  unfolding walk_proof
  proof_give_walk arg proof = refl

  pub proof_app_walk : (function : ProofTree) (argument : ProofTree)
      → walk_proof p d (p_app function argument) ≡ p_app (walk_proof p d function) (walk_proof p d argument)
  unfolding walk_proof
  proof_app_walk function argument = refl

  pub proof_inst_walk : (proof : ProofTree) (arg : ArgTree)
      → walk_proof p d (p_inst proof arg) ≡ p_inst (walk_proof p d proof) (walk_arg p d arg)
  unfolding walk_proof
  proof_inst_walk proof arg = refl

  pub proof_case_walk : (either : ProofTree) (left : ProofTree) (right : ProofTree)
      → walk_proof p d (p_case either left right)
      ≡ p_case (walk_proof p d either) (walk_proof p d left) (walk_proof p d right)
  unfolding walk_proof
  proof_case_walk either left right = refl

  pub proof_rewrite_walk : (equation : ProofTree) (motive : FormulaTree) (proof : ProofTree)
      → walk_proof p d (p_rewrite equation motive proof)
      ≡ p_rewrite (walk_proof p d equation) (walk_formula p (d + 1) motive) (walk_proof p d proof)
  unfolding walk_proof
  proof_rewrite_walk equation motive proof = refl

  pub proof_induct_walk : (motive : FormulaTree) (word : TermTree) (at_zero : ProofTree) (at_next : ProofTree)
      → walk_proof p d (p_induct motive word at_zero at_next)
      ≡ p_induct (walk_formula p (d + 1) motive) (walk_term p d word) (walk_proof p d at_zero)
      (walk_proof p (d + 1) at_next)
  unfolding walk_proof
  proof_induct_walk motive word at_zero at_next = refl

  pub proof_split_walk : (motive : FormulaTree) (test : TermTree) (on_true : ProofTree) (on_false : ProofTree)
      → walk_proof p d (p_split motive test on_true on_false)
      ≡ p_split (walk_formula p (d + 1) motive) (walk_term p d test) (walk_proof p d on_true) (walk_proof p d on_false)
  unfolding walk_proof
  proof_split_walk motive test on_true on_false = refl

  pub proof_axiom_walk : (name : List ℕ) (monos : List MonoTree) (arguments : List ArgTree)
      → walk_proof p d (p_axiom name monos arguments)
      ≡ p_axiom name (map (walk_mono p d) monos) (map (walk_arg p d) arguments)
  unfolding walk_proof
  proof_axiom_walk name monos arguments = refl

  pub proof_lem_walk : (formula : FormulaTree) → walk_proof p d (p_lem formula) ≡ p_lem (walk_formula p d formula)
  unfolding walk_proof
  proof_lem_walk formula = refl

  pub proof_the_walk : (formula : FormulaTree) (proof : ProofTree)
      → walk_proof p d (p_the formula proof) ≡ p_the (walk_formula p d formula) (walk_proof p d proof)
  unfolding walk_proof
  proof_the_walk formula proof = refl

  pub proof_block_walk : (block : BlockTree) → walk_proof p d (p_block block) ≡ p_block (walk_block p d block)
  unfolding walk_proof
  proof_block_walk block = refl

  pub proof_at_walk : (at : ℕ) (proof : ProofTree) → walk_proof p d (p_at at proof) ≡ p_at at (walk_proof p d proof)
  unfolding walk_proof
  proof_at_walk at proof = refl

  pub proof_unfold_walk : (number : ℕ) (case : ℕ) (arguments : List ArgTree)
      → walk_proof p d (p_unfold number case arguments) ≡ p_unfold number case (map (walk_arg p d) arguments)
  unfolding walk_proof
  proof_unfold_walk number case arguments = refl

  pub stmt_intro_walk : walk_stmt p d d_intro ≡ d_intro
  unfolding walk_proof
  stmt_intro_walk = refl

  pub stmt_gen_walk : walk_stmt p d d_gen ≡ d_gen
  unfolding walk_proof
  stmt_gen_walk = refl

  pub stmt_have_walk : (formula : FormulaTree) (proof : ProofTree)
      → walk_stmt p d (d_have formula proof) ≡ d_have (walk_formula p d formula) (walk_proof p d proof)
  unfolding walk_proof
  stmt_have_walk formula proof = refl

  pub stmt_unpack_walk : (proof : ProofTree) → walk_stmt p d (d_open proof) ≡ d_open (walk_proof p d proof)
  unfolding walk_proof
  stmt_unpack_walk proof = refl

  pub stmt_at_walk : (at : ℕ) (stmt : StmtTree) → walk_stmt p d (d_at at stmt) ≡ d_at at (walk_stmt p d stmt)
  unfolding walk_proof
  stmt_at_walk at stmt = refl

  pub then_walk : (stmt : StmtTree) (others : BlockTree)
      → walk_block p d (b_then stmt others) ≡ b_then (walk_stmt p d stmt) (walk_block p (d + binders_of stmt) others)
  unfolding walk_proof
  then_walk stmt others = refl

  pub end_walk : (proof : ProofTree) → walk_block p d (b_end proof) ≡ b_end (walk_proof p d proof)
  unfolding walk_proof
  end_walk proof = refl

pub ruleset binders = (intro_binds, gen_binds, have_binds, unpack_binds, at_binds)

pub ruleset arg_walks = (arg_heap_walk, arg_term_walk)

pub ruleset proof_walks = (
  proof_hyp_walk,
  proof_trivial_walk,
  proof_refl_walk,
  proof_first_walk,
  proof_second_walk,
  proof_left_walk,
  proof_right_walk,
  proof_absurd_walk,
  proof_both_walk,
  proof_give_walk,
  proof_app_walk,
  proof_inst_walk,
  proof_case_walk,
  proof_rewrite_walk,
  proof_induct_walk,
  proof_split_walk,
  proof_axiom_walk,
  proof_lem_walk,
  proof_the_walk,
  proof_block_walk,
  proof_at_walk,
  proof_unfold_walk,
)

pub ruleset stmt_walks = (stmt_intro_walk, stmt_gen_walk, stmt_have_walk, stmt_unpack_walk, stmt_at_walk)

pub ruleset block_walks = (then_walk, end_walk)
