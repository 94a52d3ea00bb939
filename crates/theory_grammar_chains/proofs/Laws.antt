-- Where the tokens before a further operand have at most some level, it has no greater one.
use Rattle.std.proofs.Common.{ℕ, List, subst}
use Rattle.theory_grammar.specs.Marks.{Mark}
use Rattle.theory_grammar.specs.Grammar
use Rattle.theory_grammar_chains.specs.Operands.{OperandsStandNoDeeper, InMonotypes, InFormulas, InProofs, InFiles}
use Rattle.theory_grammar_chains.proofs.Even.{Even, IsEven, no_deeper}
use Rattle.theory_grammar_chains.proofs.Monotypes.{mono_even}
use Rattle.theory_grammar_chains.proofs.Terms.{formula_even}
use Rattle.theory_grammar_chains.proofs.Proofs.{proof_even}
use Rattle.theory_grammar_chains.proofs.Files.{file_even}

stand_no_deeper : {A : Type 0} (marks : A → List Mark) → ((n : ℕ) (x : A) → Even n (marks x)) → OperandsStandNoDeeper marks
stand_no_deeper marks even tree first others mark n whole most more =
    no_deeper n first others mark (subst (λ ms. IsEven n ms) whole (even n tree).even) most more

pub in_monotypes : InMonotypes
in_monotypes = stand_no_deeper (Grammar.mono 1) (λ n x. mono_even 1 x)

pub in_formulas : InFormulas
in_formulas = stand_no_deeper (Grammar.formula 1) (λ n x. formula_even 1 x)

pub in_proofs : InProofs
in_proofs = stand_no_deeper (Grammar.proof 1) (λ n x. proof_even 1 x)

pub in_files : InFiles
in_files = stand_no_deeper Grammar.file (λ n x. file_even x)
