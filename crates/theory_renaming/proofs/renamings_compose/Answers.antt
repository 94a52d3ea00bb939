use Rattle.std.proofs.Common.{refl}
use Rattle.theory_renaming.proofs.Composition.{term_joins, formula_joins, proof_joins}
use Rattle.theory_renaming.proofs.renamings_compose.Goals as goal

pub returns : goal.returns
returns c = record {
  law = λ m k.
      (term_joins m k (λ n. m (k n)) (λ n. refl), formula_joins m k (λ n. m (k n)) (λ n. refl), proof_joins m k (λ n. m (k n)) (λ n. refl));
}
