-- What is read from left to right is what the grammar derives within the limits.
use Rattle.std.specs.Prelude.{◌≡◌, List, [], Ok}
use Rattle.htt_lexer_tokens.specs.declared.tokens.Token.{Token}
use Rattle.htt_parser_trees.specs.Trees.{RawMonoTree, RawFormulaTree, RawProofTree, RawDeclTree}
use Rattle.theory_grammar.specs.Derivations.{the_limits, IsMono, IsFormula, IsProof, IsFile, IsFormulaWithin}
use Rattle.theory_grammar.specs.Derivations.{IsProofWithin, IsFileWithin}
use Rattle.theory_grammar.specs.Marks.{AllWithin}
use Rattle.theory_grammar.specs.Grammar.{mono}
use Rattle.theory_grammar.specs.Readers.{Reader}
use Rattle.theory_grammar.specs.Phrases.{Deeper}
use Rattle.theory_grammar.specs.Reading.{deeper, file_on}

-- 256 levels, and 63 operands after the first one of a chain
abbrev pub outermost : Deeper
outermost = deeper 63 256

abbrev pub read_mono : Reader RawMonoTree
read_mono = outermost.mono

abbrev pub read_formula : Reader RawFormulaTree
read_formula = outermost.formula

abbrev pub read_proof : Reader RawProofTree
read_proof = outermost.proof

abbrev pub read_file : Reader (List RawDeclTree)
read_file = file_on outermost 10_000

abbrev pub IsMonoWithin : RawMonoTree → Type 0
IsMonoWithin tree = AllWithin the_limits (mono 1 tree)

-- ---- what is read is derived, and is within the limits

abbrev pub MonoIsDerived : Type 0
MonoIsDerived =
    (tokens : List Token) (tree : RawMonoTree)
    → read_mono tokens ≡ Ok (tree, [])
    → IsMono tokens tree × IsMonoWithin tree

abbrev pub FormulaIsDerived : Type 0
FormulaIsDerived =
    (tokens : List Token) (tree : RawFormulaTree)
    → read_formula tokens ≡ Ok (tree, [])
    → IsFormula tokens tree × IsFormulaWithin tree

abbrev pub ProofIsDerived : Type 0
ProofIsDerived =
    (tokens : List Token) (tree : RawProofTree)
    → read_proof tokens ≡ Ok (tree, [])
    → IsProof tokens tree × IsProofWithin tree

-- a file is read to its end
abbrev pub FileIsDerived : Type 0
FileIsDerived =
    (tokens : List Token) (decls : List RawDeclTree) (rest : List Token)
    → read_file tokens ≡ Ok (decls, rest)
    → IsFile tokens decls × IsFileWithin decls × (rest ≡ [])

-- ---- what is derived within the limits is read

abbrev pub MonoIsRead : Type 0
MonoIsRead =
    (tokens : List Token) (tree : RawMonoTree)
    → IsMono tokens tree
    → IsMonoWithin tree
    → read_mono tokens ≡ Ok (tree, [])

abbrev pub FormulaIsRead : Type 0
FormulaIsRead =
    (tokens : List Token) (tree : RawFormulaTree)
    → IsFormula tokens tree
    → IsFormulaWithin tree
    → read_formula tokens ≡ Ok (tree, [])

abbrev pub ProofIsRead : Type 0
ProofIsRead =
    (tokens : List Token) (tree : RawProofTree)
    → IsProof tokens tree
    → IsProofWithin tree
    → read_proof tokens ≡ Ok (tree, [])

abbrev pub FileIsRead : Type 0
FileIsRead =
    (tokens : List Token) (decls : List RawDeclTree)
    → IsFile tokens decls
    → IsFileWithin decls
    → read_file tokens ≡ Ok (decls, [])
