use Rattle.std.proofs.Common.{◌*◌, ◌+◌}
use Rattle.htt_parser_proofs.proofs.proofs.+Proofs-deeper_proof+fn-Proofs-deeper_proof-closure.Given as goal

abbrev pub decreases-Proofs::deeper_proof : goal.decreases-Proofs::deeper_proof
decreases-Proofs::deeper_proof l = l.left * 2

abbrev pub decreases-closure : goal.decreases-closure
decreases-closure l = l.below * 2 + 1
