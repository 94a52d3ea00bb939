-- The text of a pair, piece by piece.
use Rattle.std.proofs.Common.{◌≡◌, ◌++◌, List, ℕ}
use Rattle.std.proofs.lemmas.List.{append_assoc}

pub pieces_join : (o a x b y c : List ℕ) → ((((o ++ a) ++ x) ++ b) ++ y) ++ c ≡ o ++ ((((a ++ x) ++ b) ++ y) ++ c)
pieces_join o a x b y c = simp append_assoc
