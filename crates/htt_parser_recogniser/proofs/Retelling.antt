-- The same answer, told of another fact.
use Rattle.std.specs.Prelude.{Bool, Result, Ok, Err, IfOk, IsTrue, ◌↔◌}

pub retold : {E : Type 0} (answer : Result Bool E) (A B : Type 0) → (A ↔ B) → IfOk answer (λ found. IsTrue found ↔ A) → IfOk answer (λ found. IsTrue found ↔ B)
retold (Ok found) A B same told = (λ h. same.0 (told.0 h), λ b. told.1 (same.1 b))
retold (Err e) A B same told = told
