use Rattle.theory_emission.proofs.Worked.{codes, bytes}
use Rattle.theory_emission.proofs.worked_emission.Goals as goal

pub returns : goal.returns
returns c = record { code = codes; bytes = bytes }
