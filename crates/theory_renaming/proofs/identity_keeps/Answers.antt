use Rattle.std.proofs.Common.{refl}
use Rattle.theory_renaming.proofs.Identity.{term_stays, formula_stays, proof_stays}
use Rattle.theory_renaming.proofs.identity_keeps.Goals as goal

pub returns : goal.returns
returns c = record { law = (term_stays (λ n. n) (λ n. refl), formula_stays (λ n. n) (λ n. refl), proof_stays (λ n. n) (λ n. refl)) }
