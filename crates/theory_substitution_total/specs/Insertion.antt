-- A context with one more entry, which becomes the variable x.
use Rattle.std.specs.Prelude.{ℕ, zero, suc, List, ◌∷◌}
use Rattle.theory_canonical.specs.Contexts.{Standing}

pub data Inserted : ℕ → Standing → List Standing → List Standing → Type 0 where
  ins_here : {entry : Standing} {g : List Standing} → Inserted zero entry g (entry ∷ g)
  ins_next : {x : ℕ} {entry inner : Standing} {g whole : List Standing}
      → Inserted x entry g whole
      → Inserted (suc x) entry (inner ∷ g) (inner ∷ whole)
