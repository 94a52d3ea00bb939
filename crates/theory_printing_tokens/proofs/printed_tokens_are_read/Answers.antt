use Rattle.theory_printing_tokens.proofs.Printed.{printed_tokens}
use Rattle.theory_printing_tokens.proofs.printed_tokens_are_read.Goals as goal

pub returns : goal.returns
returns c = record { law = printed_tokens }
