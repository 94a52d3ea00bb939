use Rattle.std.proofs.Common.{rules}
use Rattle.shared_terms_renaming.specs.Known.{held}
use Rattle.shared_terms_folding.specs.Folded.{nothing}
use Rattle.shared_terms_folding.proofs.Others.{other_told}
use Rattle.shared_terms_folding.proofs.computing.compute.Goals as goal

pub returns-in_default : goal.returns-in_default
returns-in_default c = record { told = nothing (other_told (held c.args.work.now) c.args.row (search (rules, c.in_default))) }

pub returns-in_default-2 : goal.returns-in_default-2
returns-in_default-2 c = record { told = nothing (other_told (held c.args.work.now) c.args.row (search (rules, c.in_default))) }
