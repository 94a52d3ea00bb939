use Rattle.theory_canonical_expansion.proofs.Forms.{eta_mono, eta_fun, eta_all, eta_hoare, eta_at, rungs_kept}
use Rattle.theory_canonical_expansion.proofs.eta_goes_by_forms.Goals as goal

pub returns : goal.returns
returns c = record {
  forms = record { at_mono = eta_mono; at_fun = eta_fun; at_all = eta_all; at_hoare = eta_hoare; at_position = eta_at };
  rungs = rungs_kept;
}
