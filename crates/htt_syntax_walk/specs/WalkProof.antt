-- The walk over a proof that puts something in the place of each variable. Hypotheses are numbered
-- apart, and stay.
use Rattle.std.specs.Prelude.{ℕ, ◌+◌, List, map}
use Rattle.htt_syntax.specs.Trees.{MonoTree, TermTree, FormulaTree, ArgTree, ProofTree, StmtTree, BlockTree, binders_of}
use Rattle.htt_syntax.specs.Trees.{p_hyp, p_trivial, p_refl, p_first, p_second, p_left, p_right, p_absurd, p_both}
use Rattle.htt_syntax.specs.Trees.{p_give, p_app, p_inst, p_case, p_rewrite, p_induct, p_split, p_axiom, p_lem, p_the}
use Rattle.htt_syntax.specs.Trees.{p_block, p_at, p_unfold, d_intro, d_gen, d_have, d_open, d_at, b_then, b_end, a_heap}
use Rattle.htt_syntax.specs.Trees.{a_term}
use Rattle.htt_syntax_walk.specs.Walk.{Puts, walk_mono, walk_term, walk_formula}

unfoldable pub walk_arg : Puts → ℕ → ArgTree → ArgTree
walk_arg p d (a_heap heap) = a_heap (p.on_heap d heap)
walk_arg p d (a_term term) = a_term (walk_term p d term)

unfoldable mutual
  pub walk_proof : Puts → ℕ → ProofTree → ProofTree
  walk_proof p d (p_hyp number) = p_hyp number
  walk_proof p d p_trivial = p_trivial
  walk_proof p d p_refl = p_refl
  walk_proof p d (p_first proof) = p_first (walk_proof p d proof)
  walk_proof p d (p_second proof) = p_second (walk_proof p d proof)
  walk_proof p d (p_left proof) = p_left (walk_proof p d proof)
  walk_proof p d (p_right proof) = p_right (walk_proof p d proof)
  walk_proof p d (p_absurd proof) = p_absurd (walk_proof p d proof)
  walk_proof p d (p_both left right) = p_both (walk_proof p d left) (walk_proof p d right)
  walk_proof p d (p_give arg proof) = p_give (walk_arg p d arg) (walk_proof p d proof)
  walk_proof p d (p_app function argument) = p_app (walk_proof p d function) (walk_proof p d argument)
  walk_proof p d (p_inst proof arg) = p_inst (walk_proof p d proof) (walk_arg p d arg)
  walk_proof p d (p_case either left right) =
      p_case (walk_proof p d either) (walk_proof p d left) (walk_proof p d right)
  walk_proof p d (p_rewrite equation motive proof) =
      p_rewrite (walk_proof p d equation) (walk_formula p (d + 1) motive) (walk_proof p d proof)
  walk_proof p d (p_induct motive word at_zero at_next) =
      p_induct (walk_formula p (d + 1) motive) (walk_term p d word) (walk_proof p d at_zero)
      (walk_proof p (d + 1) at_next)
  walk_proof p d (p_split motive test on_true on_false) =
      p_split (walk_formula p (d + 1) motive) (walk_term p d test) (walk_proof p d on_true) (walk_proof p d on_false)
  walk_proof p d (p_axiom name monos arguments) =
      p_axiom name (map (walk_mono p d) monos) (map (walk_arg p d) arguments)
  walk_proof p d (p_lem formula) = p_lem (walk_formula p d formula)
  walk_proof p d (p_the formula proof) = p_the (walk_formula p d formula) (walk_proof p d proof)
  walk_proof p d (p_block block) = p_block (walk_block p d block)
  walk_proof p d (p_at at proof) = p_at at (walk_proof p d proof)
  walk_proof p d (p_unfold number case arguments) = p_unfold number case (map (walk_arg p d) arguments)

  pub walk_stmt : Puts → ℕ → StmtTree → StmtTree
  walk_stmt p d d_intro = d_intro
  walk_stmt p d d_gen = d_gen
  walk_stmt p d (d_have formula proof) = d_have (walk_formula p d formula) (walk_proof p d proof)
  walk_stmt p d (d_open proof) = d_open (walk_proof p d proof)
  walk_stmt p d (d_at at stmt) = d_at at (walk_stmt p d stmt)

  pub walk_block : Puts → ℕ → BlockTree → BlockTree
  walk_block p d (b_then stmt others) = b_then (walk_stmt p d stmt) (walk_block p (d + binders_of stmt) others)
  walk_block p d (b_end proof) = b_end (walk_proof p d proof)
