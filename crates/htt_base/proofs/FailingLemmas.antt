-- What the test for a failing number says.
use Rattle.std.proofs.Common.{ℕ, ◌≡◌, List, Bool, eqb, Decides, Contains}
use Rattle.std.proofs.lemmas.Bool.Decides.{Decides-eqb}
use Rattle.std.specs.List.{IsAnyAnswer}
use Rattle.std.proofs.lemmas.List.Elements.{contains_decides, Decides-contains}

pub Contains-decided : (xs : List ℕ) (x : ℕ) (r : Bool) → IsAnyAnswer (λ y t. eqb y x ≡ t) xs r → Decides r (Contains xs x)
Contains-decided xs x r h = Decides-contains xs x r (contains_decides eqb Decides-eqb xs x r h)
