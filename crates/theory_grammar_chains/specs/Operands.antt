-- A further operand of a chain is never the first token of its tree that is so deep. Operands stand at
-- one level, but for the arguments of `inst`: a heap stands at the chain's, a term one deeper, as the
-- proof before them does.
use Rattle.std.specs.Prelude.{◌≡◌, ℕ, ◌<◌, ◌≤◌, List, [], ◌∷◌, ◌++◌}
use Rattle.theory_grammar.specs.Marks.{Mark}
use Rattle.theory_grammar.specs.Grammar.{mono, formula, proof, file}

-- these tokens have at most this level
abbrev pub AtMost : ℕ → List Mark → Type 0
AtMost n [] = Unit {0}
AtMost n (mark ∷ marks) = (mark.level ≤ n) × AtMost n marks

-- where the tokens before a further operand have at most this level, it has no greater one
abbrev pub OperandsStandNoDeeper : {A : Type 0} → (A → List Mark) → Type 0
OperandsStandNoDeeper {A = A} marks =
    (tree : A) (first others : List Mark) (mark : Mark) (n : ℕ)
    → marks tree ≡ first ++ (mark ∷ others)
    → AtMost n first
    → 1 < mark.operand
    → mark.level ≤ n

abbrev pub InMonotypes : Type 0
InMonotypes = OperandsStandNoDeeper (mono 1)

abbrev pub InFormulas : Type 0
InFormulas = OperandsStandNoDeeper (formula 1)

abbrev pub InProofs : Type 0
InProofs = OperandsStandNoDeeper (proof 1)

abbrev pub InFiles : Type 0
InFiles = OperandsStandNoDeeper file
