-- A position around a proof or a statement says nothing.
use Rattle.std.proofs.Common.{ℕ, List}
use Rattle.htt_syntax.specs.Trees.{FormulaTree, ProofTree, StmtTree, BlockTree, p_at, d_at, b_then}
use Rattle.theory_typing.specs.Contexts.{Context, Environment}
use Rattle.theory_logic_rules.specs.Rules.{Infers, Proves, ProvesBlock, infers_at, proves_at, proves_inferred, block_at}
use Rattle.theory_logic_rules.specs.Laws.{PositionsInfer, PositionsProve, PositionsState}

module _ {env : Environment} {g : Context} {hs : List FormulaTree} where
  inferred : {at : ℕ} {p : ProofTree} {F : FormulaTree} → Infers env g hs (p_at at p) F → Infers env g hs p F
  inferred (infers_at d) = d

  proved : {at : ℕ} {p : ProofTree} {G : FormulaTree} → Proves env g hs (p_at at p) G → Proves env g hs p G
  proved (proves_at d) = d
  proved (proves_inferred d e) = proves_inferred (inferred d) e

  stated : {at : ℕ} {stmt : StmtTree} {rest : BlockTree} {G : FormulaTree}
      → ProvesBlock env g hs (b_then (d_at at stmt) rest) G
      → ProvesBlock env g hs (b_then stmt rest) G
  stated (block_at d) = d

pub positions_infer : PositionsInfer
positions_infer env g hs at p F = (inferred, infers_at)

pub positions_prove : PositionsProve
positions_prove env g hs at p G = (proved, proves_at)

pub positions_state : PositionsState
positions_state env g hs at stmt rest G = (stated, block_at)
