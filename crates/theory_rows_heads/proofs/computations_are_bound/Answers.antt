use Rattle.theory_substitution.specs.Substitution.{b_ret, b_step}
use Rattle.theory_rows_heads.proofs.Steps.{bound_result, bound_step}
use Rattle.theory_rows_heads.proofs.computations_are_bound.Goals as goal

pub returns : goal.returns
returns c =
    record {
      result = λ term others r b. bound_result b;
      bound = λ term others r p. b_ret p;
      step = λ step comp others r b. bound_step b;
      before = λ step comp others rest b. b_step b;
    }
