use Rattle.theory_items.proofs.MorePhrases.{more_keeps}
use Rattle.theory_items.proofs.more_keeps_typing.Goals as goal

pub returns : goal.returns
returns c = record { law = more_keeps }
