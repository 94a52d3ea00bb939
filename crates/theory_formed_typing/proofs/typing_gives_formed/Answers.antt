use Rattle.theory_formed_typing.proofs.Typed.{gives_formed}
use Rattle.theory_formed_typing.proofs.typing_gives_formed.Goals as goal

pub returns : goal.returns
returns c = record { law = gives_formed }
