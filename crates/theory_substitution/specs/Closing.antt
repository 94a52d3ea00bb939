-- What becomes of the variables when one is taken out, and under a binder.
use Rattle.std.specs.Prelude.{ℕ, zero, suc}
use Rattle.htt_syntax.specs.Trees.{TermTree}
use Rattle.theory_renaming.specs.Renaming.{Map, lift, rename_term}

-- The map that closes the gap which the variable x leaves. What it says of x itself is never used.
unfoldable pub closing : ℕ → Map
closing zero zero = zero
closing zero (suc n) = n
closing (suc x) n = lift (closing x) n

-- A term under one more binder.
abbrev pub up : TermTree → TermTree
up term = rename_term suc term
