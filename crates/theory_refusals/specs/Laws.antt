-- A reader stops at the first token with which what was read can't go on, for the right reason.
use Rattle.std.specs.Prelude.{◌≡◌, List, [], ◌∷◌, Result, Ok, Err}
use Rattle.htt_lexer_tokens.specs.declared.tokens.Token.{Token}
use Rattle.htt_parser_trees.specs.Trees.{RawMonoTree, RawFormulaTree, RawProofTree, RawDeclTree}
use Rattle.theory_grammar.specs.Marks.{Mark, AllFit, AllWithin}
use Rattle.theory_grammar.specs.Grammar.{mono, formula, proof}
use Rattle.theory_grammar.specs.Derivations.{the_limits, IsFile, IsFormulaWithin, IsProofWithin, IsFileWithin}
use Rattle.theory_grammar.specs.Readers.{Halt, expected}
use Rattle.theory_reading.specs.Laws.{read_mono, read_formula, read_proof, read_file, IsMonoWithin}
use Rattle.theory_refusals.specs.Refusals.{Refusal, FileRefusal, Ended}

-- ---- a refused token

abbrev pub MonoIsRefused : Type 0
MonoIsRefused = (tokens : List Token) (halt : Halt) → read_mono tokens ≡ Err halt → Refusal (mono 1) tokens halt

abbrev pub FormulaIsRefused : Type 0
FormulaIsRefused =
    (tokens : List Token) (halt : Halt) → read_formula tokens ≡ Err halt → Refusal (formula 1) tokens halt

abbrev pub ProofIsRefused : Type 0
ProofIsRefused = (tokens : List Token) (halt : Halt) → read_proof tokens ≡ Err halt → Refusal (proof 1) tokens halt

abbrev pub FileIsRefused : Type 0
FileIsRefused = (tokens : List Token) (halt : Halt) → read_file tokens ≡ Err halt → FileRefusal tokens halt

-- ---- a token behind a whole phrase

abbrev pub MonoIsEnded : Type 0
MonoIsEnded =
    (tokens : List Token) (tree : RawMonoTree) (token : Token) (rest : List Token)
    → read_mono tokens ≡ Ok (tree, token ∷ rest)
    → Ended IsMonoWithin (mono 1) tokens tree token rest

abbrev pub FormulaIsEnded : Type 0
FormulaIsEnded =
    (tokens : List Token) (tree : RawFormulaTree) (token : Token) (rest : List Token)
    → read_formula tokens ≡ Ok (tree, token ∷ rest)
    → Ended IsFormulaWithin (formula 1) tokens tree token rest

abbrev pub ProofIsEnded : Type 0
ProofIsEnded =
    (tokens : List Token) (tree : RawProofTree) (token : Token) (rest : List Token)
    → read_proof tokens ≡ Ok (tree, token ∷ rest)
    → Ended IsProofWithin (proof 1) tokens tree token rest

-- ---- to the end of the tokens

abbrev pub nothing_left : {A : Type 0} → A → List Token → Result A Halt
nothing_left tree [] = Ok tree
nothing_left tree (token ∷ rest) = Err (record { why = expected; rest = token ∷ rest })

-- the tree, where no token is left
abbrev pub to_end : {A : Type 0} → Result (A × List Token) Halt → Result A Halt
to_end (Ok read) = nothing_left read.0 read.1
to_end (Err halt) = Err halt

abbrev pub WholeMonoIsRefused : Type 0
WholeMonoIsRefused =
    (tokens : List Token) (halt : Halt) → to_end (read_mono tokens) ≡ Err halt → Refusal (mono 1) tokens halt

abbrev pub WholeFormulaIsRefused : Type 0
WholeFormulaIsRefused =
    (tokens : List Token) (halt : Halt) → to_end (read_formula tokens) ≡ Err halt → Refusal (formula 1) tokens halt

abbrev pub WholeProofIsRefused : Type 0
WholeProofIsRefused =
    (tokens : List Token) (halt : Halt) → to_end (read_proof tokens) ≡ Err halt → Refusal (proof 1) tokens halt

-- ---- what is refused rightly isn't derived within the limits

abbrev pub NotDerived : {A : Type 0} → (A → List Mark) → Type 0
NotDerived {A = A} marks =
    (tokens : List Token) (halt : Halt) (tree : A)
    → Refusal marks tokens halt
    → AllFit tokens (marks tree)
    → AllWithin the_limits (marks tree)
    → ⊥

abbrev pub RefusedMonoIsNotDerived : Type 0
RefusedMonoIsNotDerived = NotDerived (mono 1)

abbrev pub RefusedFormulaIsNotDerived : Type 0
RefusedFormulaIsNotDerived = NotDerived (formula 1)

abbrev pub RefusedProofIsNotDerived : Type 0
RefusedProofIsNotDerived = NotDerived (proof 1)

abbrev pub RefusedFileIsNotDerived : Type 0
RefusedFileIsNotDerived =
    (tokens : List Token) (halt : Halt) (decls : List RawDeclTree)
    → FileRefusal tokens halt
    → IsFile tokens decls
    → IsFileWithin decls
    → ⊥

-- ---- a right refusal has one place

abbrev pub OnePlace : {A : Type 0} → (A → List Mark) → Type 0
OnePlace marks =
    (tokens : List Token) (halt other : Halt)
    → Refusal marks tokens halt
    → Refusal marks tokens other
    → halt.rest ≡ other.rest

abbrev pub MonoHasOnePlace : Type 0
MonoHasOnePlace = OnePlace (mono 1)

abbrev pub FormulaHasOnePlace : Type 0
FormulaHasOnePlace = OnePlace (formula 1)

abbrev pub ProofHasOnePlace : Type 0
ProofHasOnePlace = OnePlace (proof 1)

abbrev pub FileHasOnePlace : Type 0
FileHasOnePlace =
    (tokens : List Token) (halt other : Halt)
    → FileRefusal tokens halt
    → FileRefusal tokens other
    → halt.rest ≡ other.rest
