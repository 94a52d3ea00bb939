use Rattle.std.proofs.Common.{arith}
use Rattle.word_loader.proofs.Files.{loaded_has_bytes, bytes_are_loaded}
use Rattle.word_loader.proofs.loader.load.Goals as goal

pub returns-clause-loaded : goal.returns-clause-loaded
returns-clause-loaded c = loaded_has_bytes c.args.bytes.now (λ i. omega (arith, c.type_inv.bytes i)) c.read_code.result c.read_code.ensures

pub returns-clause-complete : goal.returns-clause-complete
returns-clause-complete c = bytes_are_loaded c.args.bytes.now c.read_code.result c.read_code.ensures
