-- The tree that each value of the Rust type of proofs is, matched as `Views` matches the others.
use Rattle.std.specs.Prelude.{map}
use Rattle.htt_syntax.specs.declared.proof.Arg.{Arg}
use Rattle.htt_syntax.specs.declared.proof.Arg.TheVariants as arg
use Rattle.htt_syntax.specs.declared.proof.Proof.{Proof, more_of-Proof, end_of-Proof, Row_of-Stmt, more_of-Stmt}
use Rattle.htt_syntax.specs.declared.proof.Proof.{end_of-Stmt}
use Rattle.htt_syntax.specs.declared.proof.Proof as proof
use Rattle.htt_syntax.specs.declared.proof.Stmt.{Stmt}
use Rattle.htt_syntax.specs.declared.proof.Stmt as stmt
use Rattle.htt_syntax.specs.Trees.{ArgTree, ProofTree, StmtTree, BlockTree, a_heap, a_term, b_then, b_end, p_hyp}
use Rattle.htt_syntax.specs.Trees.{p_trivial, p_refl, p_first, p_second, p_left, p_right, p_absurd, p_both, p_give}
use Rattle.htt_syntax.specs.Trees.{p_app, p_inst, p_case, p_rewrite, p_induct, p_split, p_axiom, p_lem, p_the, p_block}
use Rattle.htt_syntax.specs.Trees.{p_at, p_unfold, d_intro, d_gen, d_have, d_open, d_at}
use Rattle.htt_syntax.specs.Views.{mono_tree, term_tree, formula_tree}

unfoldable pub arg_tree : Arg → ArgTree
arg_tree (arg.Heap a) = a_heap a
arg_tree (arg.Term a) = a_term (term_tree a)

unfoldable mutual
  pub proof_tree : Proof → ProofTree
  proof_tree (proof.Hyp a) = p_hyp a
  proof_tree proof.Trivial = p_trivial
  proof_tree proof.Refl = p_refl
  proof_tree (proof.First' pa (more_of-Proof a end_of-Proof)) = p_first (proof_tree a)
  proof_tree (proof.Second' pa (more_of-Proof a end_of-Proof)) = p_second (proof_tree a)
  proof_tree (proof.Left' pa (more_of-Proof a end_of-Proof)) = p_left (proof_tree a)
  proof_tree (proof.Right' pa (more_of-Proof a end_of-Proof)) = p_right (proof_tree a)
  proof_tree (proof.Absurd' pa (more_of-Proof a end_of-Proof)) = p_absurd (proof_tree a)
  proof_tree (proof.Both' pa (more_of-Proof a end_of-Proof) pb (more_of-Proof b end_of-Proof)) =
      p_both (proof_tree a) (proof_tree b)
  proof_tree (proof.Give' a pb (more_of-Proof b end_of-Proof)) = p_give (arg_tree a) (proof_tree b)
  proof_tree (proof.App' pa (more_of-Proof a end_of-Proof) pb (more_of-Proof b end_of-Proof)) =
      p_app (proof_tree a) (proof_tree b)
  proof_tree (proof.Inst' pa (more_of-Proof a end_of-Proof) b) = p_inst (proof_tree a) (arg_tree b)
  proof_tree (proof.Case' pa (more_of-Proof a end_of-Proof) pb (more_of-Proof b end_of-Proof) pc
      (more_of-Proof c end_of-Proof)) = p_case (proof_tree a) (proof_tree b) (proof_tree c)
  proof_tree (proof.Rewrite' pa (more_of-Proof a end_of-Proof) b pc (more_of-Proof c end_of-Proof)) =
      p_rewrite (proof_tree a) (formula_tree b) (proof_tree c)
  proof_tree (proof.Induct' a b pc (more_of-Proof c end_of-Proof) pe (more_of-Proof e end_of-Proof)) =
      p_induct (formula_tree a) (term_tree b) (proof_tree c) (proof_tree e)
  proof_tree (proof.Split' a b pc (more_of-Proof c end_of-Proof) pe (more_of-Proof e end_of-Proof)) =
      p_split (formula_tree a) (term_tree b) (proof_tree c) (proof_tree e)
  proof_tree (proof.Axiom a b c) = p_axiom a (map mono_tree b) (map arg_tree c)
  proof_tree (proof.Lem a) = p_lem (formula_tree a)
  proof_tree (proof.The' a pb (more_of-Proof b end_of-Proof)) = p_the (formula_tree a) (proof_tree b)
  proof_tree (proof.Block' pa a pb (more_of-Proof b end_of-Proof)) = p_block (stmts_row a (proof_tree b))
  proof_tree (proof.At' a pb (more_of-Proof b end_of-Proof)) = p_at a (proof_tree b)
  proof_tree (proof.Unfold a b c) = p_unfold a b (map arg_tree c)

  pub stmt_tree : Stmt → StmtTree
  stmt_tree stmt.Intro = d_intro
  stmt_tree stmt.Gen = d_gen
  stmt_tree (stmt.Have a b) = d_have (formula_tree a) (proof_tree b)
  stmt_tree (stmt.Unpack a) = d_open (proof_tree a)
  stmt_tree (stmt.At' a pb (more_of-Stmt b end_of-Stmt)) = d_at a (stmt_tree b)

  pub stmts_row : {shape : _} → Row_of-Stmt shape → ProofTree → BlockTree
  stmts_row end_of-Stmt last = b_end last
  stmts_row (more_of-Stmt first others) last = b_then (stmt_tree first) (stmts_row others last)
