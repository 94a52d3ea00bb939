-- A valuation with one more entry, which becomes that of the variable x.
use Rattle.std.specs.Prelude.{ℕ, zero, suc, ◌∷◌}
use Rattle.theory_denotation.specs.Valuations.{ValuationEntry, Valuation}

pub data InsertedEntry : ℕ → ValuationEntry → Valuation → Valuation → Type 0 where
  entry_here : {entry : ValuationEntry} {w : Valuation} → InsertedEntry zero entry w (entry ∷ w)
  entry_next : {x : ℕ} {entry inner : ValuationEntry} {w w' : Valuation}
      → InsertedEntry x entry w w'
      → InsertedEntry (suc x) entry (inner ∷ w) (inner ∷ w')
