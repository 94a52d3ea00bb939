-- Parts of readers that a function of its own reads.
use Rattle.std.specs.Prelude.{ℕ, List, ◌∷◌}
use Rattle.htt_lexer_tokens.specs.declared.tokens.Kind.TheVariants.{Sign}
use Rattle.htt_lexer_tokens.specs.declared.tokens.Sign.TheVariants.{EqualSign, SemicolonSign, DotSign, CloseParenSign}
use Rattle.htt_parser_trees.specs.declared.place.Span.{Span}
use Rattle.htt_parser_trees.specs.declared.proof.RawArg.{RawArg}
use Rattle.htt_parser_trees.specs.declared.proof.RawProof.{RawProof}
use Rattle.htt_parser_trees.specs.declared.proof.RawStmt.{RawStmt}
use Rattle.htt_parser_trees.specs.Trees.{RawArgTree, arg_term, RawEndTree, RawFormulaTree, RawMotiveTree, RawStmtTree}
use Rattle.htt_parser_trees.specs.Trees.{RawTermTree, b_have, e_induct, RawProofTree, RawProofTrees, more_proofs, p_end}
use Rattle.htt_parser_trees.specs.Trees.{p_step}
use Rattle.htt_parser_trees.specs.ProofViews.{raw_arg_tree, raw_stmt_tree}
use Rattle.htt_parser_trees.specs.ProofLevels.{raw_proof_tree}
use Rattle.theory_grammar.specs.Readers.{Reader, give, ◌>>=◌, token}
use Rattle.theory_grammar.specs.Phrases.{Deeper, a_binder, a_name_there}
use Rattle.theory_grammar.specs.Reading.{end_reader}

abbrev pub put_arg : RawArg → List RawArgTree → List RawArgTree
put_arg a more = raw_arg_tree a ∷ more

abbrev pub put_proof : RawProof → RawProofTrees → RawProofTrees
put_proof p more = more_proofs (raw_proof_tree p) more

-- a term as an argument
abbrev pub term_arg_on : Deeper → Reader RawArgTree
term_arg_on d = d.term >>= (λ m. give (arg_term m))

-- a proof without statements
abbrev pub ended_at : Deeper → Reader RawProofTree
ended_at d = end_reader d >>= (λ e. give (p_end e))

abbrev pub put_stmt : RawStmt → RawProofTree → RawProofTree
put_stmt s rest = p_step (raw_stmt_tree s) rest

-- what follows the formula of `have`
abbrev pub have_rest_on : Deeper → ℕ → Span → RawFormulaTree → Reader RawStmtTree
have_rest_on d at u f =
    token (Sign EqualSign) >>= (λ _. d.proof >>= (λ p. token (Sign SemicolonSign) >>= (λ _. give (b_have at u f p))))

-- what follows the first proof of `induct` and its comma
abbrev pub induct_rest_on : Deeper → ℕ → RawMotiveTree → RawTermTree → RawProofTree → Reader RawEndTree
induct_rest_on d at c m p = a_binder >>= (λ b.
    a_name_there >>= (λ u.
    a_name_there >>= (λ v.
    token (Sign DotSign) >>= (λ _.
    d.proof >>= (λ q.
    token (Sign CloseParenSign) >>= (λ _.
    give (e_induct at c m p b u v q)))))))
