-- The laws of checked proofs.
use Rattle.std.specs.Prelude.{ℕ, List, Result, Ok, Option, Some, None}
use Rattle.htt_syntax.specs.Trees.{FormulaTree, ProofTree}
use Rattle.theory_typing.specs.Contexts.{Context, Environment}
use Rattle.theory_logic_rules.specs.Rules.{Infers, Proves}
use Rattle.theory_checking.specs.Stops.{Stop}
use Rattle.theory_checking.specs.Laws.{Once}
use Rattle.theory_checking_complete.specs.Reaching.{IsOrLimit, Reaches}
use Rattle.theory_checking_proofs.specs.Checking.{ProofComesTo}

-- a proof comes to one thing at most: what it infers or proves, or one stop
abbrev pub ProofsComeToOne : Type 0
ProofsComeToOne =
    (env : Environment) (g : Context) (hs : List FormulaTree) (at : ℕ) (p : ProofTree) (asked : Option FormulaTree)
    → Once (ProofComesTo env g hs at p asked)

-- what a proof gives, the rules infer or prove
pub record CheckedProofsProve : Type 0 where
  pub inferred : (env : Environment) (g : Context) (hs : List FormulaTree) (at : ℕ) (p : ProofTree) (F : FormulaTree)
      → ProofComesTo env g hs at p None (Ok F)
      → Infers env g hs p F
  pub proved : (env : Environment) (g : Context) (hs : List FormulaTree) (at : ℕ) (p : ProofTree) (F G : FormulaTree)
      → ProofComesTo env g hs at p (Some G) (Ok F)
      → Proves env g hs p G

-- what the rules infer or prove, a proof comes to, at whatever byte it stands, or to a limit
pub record ProvedReaches : Type 0 where
  pub inferred : (env : Environment) (g : Context) (hs : List FormulaTree) (at : ℕ) (p : ProofTree) (F : FormulaTree)
      → Infers env g hs p F
      → Reaches (ProofComesTo env g hs at p None) F
  pub proved : (env : Environment) (g : Context) (hs : List FormulaTree) (at : ℕ) (p : ProofTree) (G : FormulaTree)
      → Proves env g hs p G
      → Reaches (ProofComesTo env g hs at p (Some G)) G

-- and to nothing else: no rule refuses it
pub record ProvedIsNotRefused : Type 0 where
  pub inferred : (env : Environment) (g : Context) (hs : List FormulaTree) (at : ℕ) (p : ProofTree) (F : FormulaTree)
      (r : Result FormulaTree Stop)
      → Infers env g hs p F
      → ProofComesTo env g hs at p None r
      → IsOrLimit F r
  pub proved : (env : Environment) (g : Context) (hs : List FormulaTree) (at : ℕ) (p : ProofTree) (G : FormulaTree)
      (r : Result FormulaTree Stop)
      → Proves env g hs p G
      → ProofComesTo env g hs at p (Some G) r
      → IsOrLimit G r
