-- The tree that each proof is, matched as TreeViews matches the others.
use Rattle.std.specs.Prelude.{map}
use Rattle.htt_parser_trees.specs.declared.proof.RawStmt.{RawStmt}
use Rattle.htt_parser_trees.specs.declared.proof.RawStmt as stmt
use Rattle.htt_parser_trees.specs.declared.proof.RawEnd.{RawEnd}
use Rattle.htt_parser_trees.specs.declared.proof.RawEnd as end
use Rattle.htt_parser_trees.specs.declared.proof.RawEnd.TheBlock.{Row_of-RawProof, Row_of-RawStmt, end_of-RawProof}
use Rattle.htt_parser_trees.specs.declared.proof.RawEnd.TheBlock.{end_of-RawStmt, more_of-RawProof, more_of-RawStmt}
use Rattle.htt_parser_trees.specs.Trees.{RawArgTree, arg_heap, arg_term, RawMotiveTree, motive_of, RawEndTree}
use Rattle.htt_parser_trees.specs.Trees.{RawProofTree, RawProofTrees, RawStmtTree, b_gen, b_have, b_intro, b_open}
use Rattle.htt_parser_trees.specs.Trees.{e_app, e_axiom, e_both, e_case, e_give, e_induct, e_inst, e_lem, e_name}
use Rattle.htt_parser_trees.specs.Trees.{e_refl, e_rewrite, e_split, e_the, e_trivial, e_unary, e_unfold, more_proofs}
use Rattle.htt_parser_trees.specs.Trees.{no_proofs, p_end, p_step}
use Rattle.htt_parser_trees.specs.declared.proof.RawArg.{RawArg}
use Rattle.htt_parser_trees.specs.declared.proof.RawArg.TheVariants as arg
use Rattle.htt_parser_trees.specs.declared.proof.RawMotive.{RawMotive}
use Rattle.htt_parser_trees.specs.MonoLevels.{raw_mono_tree}
use Rattle.htt_parser_trees.specs.TreeViews.{raw_term_tree, raw_formula_tree}

abbrev pub raw_arg_tree : RawArg → RawArgTree
raw_arg_tree (arg.Heap at heap) = arg_heap at heap
raw_arg_tree (arg.Term term) = arg_term (raw_term_tree term)

unfoldable pub raw_motive_tree : RawMotive → RawMotiveTree
raw_motive_tree m = motive_of m.name (raw_formula_tree m.formula)

unfoldable mutual
  pub raw_stmt_tree : RawStmt → RawStmtTree
  raw_stmt_tree (stmt.Intro x1 x2) = b_intro x1 x2
  raw_stmt_tree (stmt.Gen x1 x2) = b_gen x1 x2
  raw_stmt_tree (stmt.Open' x1 x2 x3 _ x4 x5) = b_open x1 x2 x3 (raw_stmts_row x4 (p_end (raw_end_tree x5)))
  raw_stmt_tree (stmt.Have' x1 x2 x3 _ x4 x5) =
      b_have x1 x2 (raw_formula_tree x3) (raw_stmts_row x4 (p_end (raw_end_tree x5)))

  pub raw_end_tree : RawEnd → RawEndTree
  raw_end_tree (end.Name x1) = e_name x1
  raw_end_tree (end.Trivial x1) = e_trivial x1
  raw_end_tree (end.Refl x1) = e_refl x1
  raw_end_tree (end.Unary' x1 x2 _ (more_of-RawProof _ x3 x4 end_of-RawProof)) =
      e_unary x1 x2 (raw_stmts_row x3 (p_end (raw_end_tree x4)))
  raw_end_tree (end.Both' x1 _ (more_of-RawProof _ x2 x3 end_of-RawProof) _ (more_of-RawProof _ x4 x5 end_of-RawProof))
      = e_both x1 (raw_stmts_row x2 (p_end (raw_end_tree x3))) (raw_stmts_row x4 (p_end (raw_end_tree x5)))
  raw_end_tree (end.Give' x1 x2 _ (more_of-RawProof _ x3 x4 end_of-RawProof)) =
      e_give x1 (raw_arg_tree x2) (raw_stmts_row x3 (p_end (raw_end_tree x4)))
  raw_end_tree
      (end.App' x1 _ (more_of-RawProof _ x2 x3 end_of-RawProof) _ (more_of-RawProof _ x4 x5 end_of-RawProof) _ x6) =
      e_app x1 (raw_stmts_row x2 (p_end (raw_end_tree x3))) (raw_stmts_row x4 (p_end (raw_end_tree x5)))
      (raw_proofs_row x6)
  raw_end_tree (end.Inst' x1 _ (more_of-RawProof _ x2 x3 end_of-RawProof) x4 x5) =
      e_inst x1 (raw_stmts_row x2 (p_end (raw_end_tree x3))) (raw_arg_tree x4) (map raw_arg_tree x5)
  raw_end_tree (end.Case' x1 _ (more_of-RawProof _ x2 x3 end_of-RawProof) x4 _
      (more_of-RawProof _ x5 x6 end_of-RawProof) x7 _ (more_of-RawProof _ x8 x9 end_of-RawProof)) =
      e_case x1 (raw_stmts_row x2 (p_end (raw_end_tree x3))) x4 (raw_stmts_row x5 (p_end (raw_end_tree x6))) x7
      (raw_stmts_row x8 (p_end (raw_end_tree x9)))
  raw_end_tree
      (end.Rewrite' x1 _ (more_of-RawProof _ x2 x3 end_of-RawProof) x4 _ (more_of-RawProof _ x5 x6 end_of-RawProof)) =
      e_rewrite x1 (raw_stmts_row x2 (p_end (raw_end_tree x3))) (raw_motive_tree x4)
      (raw_stmts_row x5 (p_end (raw_end_tree x6)))
  raw_end_tree (end.Induct' x1 x2 x3 _ (more_of-RawProof _ x4 x5 end_of-RawProof) x6 x7 x8 _
      (more_of-RawProof _ x9 x10 end_of-RawProof)) =
      e_induct x1 (raw_motive_tree x2) (raw_term_tree x3) (raw_stmts_row x4 (p_end (raw_end_tree x5))) x6 x7 x8
      (raw_stmts_row x9 (p_end (raw_end_tree x10)))
  raw_end_tree
      (end.Split' x1 x2 x3 _ (more_of-RawProof _ x4 x5 end_of-RawProof) _ (more_of-RawProof _ x6 x7 end_of-RawProof)) =
      e_split x1 (raw_motive_tree x2) (raw_term_tree x3) (raw_stmts_row x4 (p_end (raw_end_tree x5)))
      (raw_stmts_row x6 (p_end (raw_end_tree x7)))
  raw_end_tree (end.Axiom x1 x2 x3 x4) = e_axiom x1 x2 (map raw_mono_tree x3) (map raw_arg_tree x4)
  raw_end_tree (end.Unfold x1 x2 x3 x4 x5) = e_unfold x1 x2 x3 (raw_arg_tree x4) (map raw_arg_tree x5)
  raw_end_tree (end.Lem x1 x2) = e_lem x1 (raw_formula_tree x2)
  raw_end_tree (end.The' x1 x2 _ (more_of-RawProof _ x3 x4 end_of-RawProof)) =
      e_the x1 (raw_formula_tree x2) (raw_stmts_row x3 (p_end (raw_end_tree x4)))

  pub raw_proofs_row : {shape : _} → Row_of-RawProof shape → RawProofTrees
  raw_proofs_row end_of-RawProof = no_proofs
  raw_proofs_row (more_of-RawProof _ x1 x2 others) =
      more_proofs (raw_stmts_row x1 (p_end (raw_end_tree x2))) (raw_proofs_row others)

  pub raw_stmts_row : {shape : _} → Row_of-RawStmt shape → RawProofTree → RawProofTree
  raw_stmts_row end_of-RawStmt last = last
  raw_stmts_row (more_of-RawStmt first others) last = p_step (raw_stmt_tree first) (raw_stmts_row others last)
