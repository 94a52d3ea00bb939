-- The laws of the proof rules.
use Rattle.std.specs.Prelude.{◌≡◌, ℕ, List, ◌↔◌}
use Rattle.htt_syntax.specs.Trees.{FormulaTree, ArgTree, ProofTree, StmtTree, BlockTree, p_at, d_at, b_then}
use Rattle.theory_typing.specs.Contexts.{Context, Environment}
use Rattle.theory_logic_axioms.specs.Table.{ArgSort}
use Rattle.theory_logic_rules.specs.Sequents.{PutArgs, FitsArgs}
use Rattle.theory_logic_rules.specs.Rules.{Infers, Proves, ProvesBlock}

-- A proof infers at most one formula.
abbrev pub OneInferred : Type 0
OneInferred =
    (env : Environment) (g : Context) (hypotheses : List FormulaTree) (p : ProofTree) (F G : FormulaTree)
    → Infers env g hypotheses p F
    → Infers env g hypotheses p G
    → F ≡ G

-- A position around a proof or a statement says nothing.
abbrev pub PositionsInfer : Type 0
PositionsInfer =
    (env : Environment) (g : Context) (hypotheses : List FormulaTree) (at : ℕ) (p : ProofTree) (F : FormulaTree)
    → Infers env g hypotheses (p_at at p) F ↔ Infers env g hypotheses p F

abbrev pub PositionsProve : Type 0
PositionsProve =
    (env : Environment) (g : Context) (hypotheses : List FormulaTree) (at : ℕ) (p : ProofTree) (G : FormulaTree)
    → Proves env g hypotheses (p_at at p) G ↔ Proves env g hypotheses p G

abbrev pub PositionsState : Type 0
PositionsState =
    (env : Environment) (g : Context) (hypotheses : List FormulaTree) (at : ℕ) (stmt : StmtTree) (rest : BlockTree)
    (G : FormulaTree)
    → ProvesBlock env g hypotheses (b_then (d_at at stmt) rest) G ↔ ProvesBlock env g hypotheses (b_then stmt rest) G

-- Arguments that are put for variables give at most one formula.
abbrev pub OnePut : Type 0
OnePut = (arguments : List ArgTree) (F G H : FormulaTree) → PutArgs arguments F G → PutArgs arguments F H → G ≡ H

-- Arguments that fit sorts have at most one canonical form.
abbrev pub OneFit : Type 0
OneFit =
    (env : Environment) (g : Context) (arguments r q : List ArgTree) (sorts : List ArgSort)
    → FitsArgs env g arguments sorts r
    → FitsArgs env g arguments sorts q
    → r ≡ q
