-- The trees of proofs, one level at a time: an equation for each variant.
use Rattle.std.specs.Prelude.{◌≡◌, ℕ, List, [], ◌∷◌, refl, map, ⊤}
use Rattle.std.proofs.Common.{ap}
use Rattle.htt_parser_trees.specs.declared.place.Span.{Span}
use Rattle.htt_parser_trees.specs.declared.place.Binder.{Binder}
use Rattle.htt_parser_trees.specs.declared.mono.RawMono.{RawMono}
use Rattle.htt_parser_trees.specs.declared.tree.RawTerm.{RawTerm}
use Rattle.htt_parser_trees.specs.declared.tree.RawFormula.{RawFormula}
use Rattle.htt_parser_trees.specs.declared.proof.RawProof.{RawProof}
use Rattle.htt_parser_trees.specs.declared.proof.RawStmt.{RawStmt}
use Rattle.htt_parser_trees.specs.declared.proof.RawStmt.TheVariants as vstmt
use Rattle.htt_parser_trees.specs.declared.proof.RawEnd.TheVariants as vend
use Rattle.htt_parser_trees.specs.declared.proof.UnaryRule.{UnaryRule}
use Rattle.htt_parser_trees.specs.declared.proof.RawMotive.{RawMotive}
use Rattle.htt_parser_trees.specs.declared.proof.RawArg.{RawArg}
use Rattle.htt_parser_trees.specs.declared.proof.RawEnd.TheBlock as block
use Rattle.htt_parser_trees.specs.Trees.{RawProofTree, RawProofTrees, b_gen, b_have, b_intro, b_open, e_app, e_axiom}
use Rattle.htt_parser_trees.specs.Trees.{e_both, e_case, e_give, e_induct, e_inst, e_lem, e_name, e_refl, e_rewrite}
use Rattle.htt_parser_trees.specs.Trees.{e_split, e_the, e_trivial, e_unary, e_unfold, more_proofs, no_proofs, onto}
use Rattle.htt_parser_trees.specs.Trees.{p_end, p_step}
use Rattle.htt_parser_trees.specs.MonoLevels.{raw_mono_tree}
use Rattle.htt_parser_trees.specs.TreeViews.{raw_formula_tree, raw_term_tree}
use Rattle.htt_parser_trees.specs.ProofViews.{raw_arg_tree, raw_end_tree, raw_motive_tree, raw_proofs_row}
use Rattle.htt_parser_trees.specs.ProofViews.{raw_stmt_tree, raw_stmts_row}

abbrev pub raw_stmts_tree : List RawStmt → RawProofTree → RawProofTree
raw_stmts_tree xs last = onto (λ x. p_step (raw_stmt_tree x)) xs last

unfoldable pub raw_proof_tree : RawProof → RawProofTree
raw_proof_tree p = raw_stmts_tree p.statements (p_end (raw_end_tree p.end))

abbrev pub raw_proof_trees : List RawProof → RawProofTrees
raw_proof_trees xs = onto (λ x. more_proofs (raw_proof_tree x)) xs no_proofs

-- all that the equations below compute with
generated : Type 0
unfolding raw_stmt_tree raw_proof_tree block.hidden-the_row-RawProof-1 denote.Hole.Carrier.hidden
generated = ⊤

stmts_row_is : (xs : List RawStmt) (last : RawProofTree)
    → raw_stmts_row (block.hidden-the_row-RawStmt-0 xs) last ≡ raw_stmts_tree xs last
unfolding raw_stmt_tree block.hidden-the_row-RawStmt-0 denote.Hole.Carrier.hidden
stmts_row_is [] last = refl
stmts_row_is (x ∷ xs) last = ap (p_step (raw_stmt_tree x)) (stmts_row_is xs last)

proof_is : (p : RawProof)
    → raw_stmts_row (block.hidden-the_row-RawStmt-0 p.statements) (p_end (raw_end_tree p.end)) ≡ raw_proof_tree p
unfolding raw_proof_tree
proof_is p = stmts_row_is p.statements (p_end (raw_end_tree p.end))

proofs_row_is : (xs : List RawProof) → raw_proofs_row (block.hidden-the_row-RawProof-2 xs) ≡ raw_proof_trees xs
unfolding raw_stmt_tree raw_proof_tree block.hidden-the_row-RawProof-2 denote.Hole.Carrier.hidden
proofs_row_is [] = refl
proofs_row_is (x ∷ xs) = λ j. more_proofs (proof_is x j) (proofs_row_is xs j)

pub raw_stmt_intro : (at : ℕ) (x : Span) → raw_stmt_tree (vstmt.Intro at x) ≡ b_intro at x
unfolding generated
raw_stmt_intro at x = refl

pub raw_stmt_gen : (at : ℕ) (x : Binder) → raw_stmt_tree (vstmt.Gen at x) ≡ b_gen at x
unfolding generated
raw_stmt_gen at x = refl

pub raw_stmt_open : (at : ℕ) (x : Binder) (hypothesis : Span) (p : RawProof)
    → raw_stmt_tree (vstmt.Open at x hypothesis p) ≡ b_open at x hypothesis (raw_proof_tree p)
unfolding generated
raw_stmt_open at x hypothesis p = λ j. b_open at x hypothesis (proof_is p j)

pub raw_stmt_have : (at : ℕ) (hypothesis : Span) (f : RawFormula) (p : RawProof)
    → raw_stmt_tree (vstmt.Have at hypothesis f p) ≡ b_have at hypothesis (raw_formula_tree f) (raw_proof_tree p)
unfolding generated
raw_stmt_have at hypothesis f p = λ j. b_have at hypothesis (raw_formula_tree f) (proof_is p j)

pub raw_end_name : (span : Span) → raw_end_tree (vend.Name span) ≡ e_name span
unfolding generated
raw_end_name span = refl

pub raw_end_trivial : (at : ℕ) → raw_end_tree (vend.Trivial at) ≡ e_trivial at
unfolding generated
raw_end_trivial at = refl

pub raw_end_refl : (at : ℕ) → raw_end_tree (vend.Refl at) ≡ e_refl at
unfolding generated
raw_end_refl at = refl

pub raw_end_unary : (at : ℕ) (by : UnaryRule) (p : RawProof)
    → raw_end_tree (vend.Unary at by p) ≡ e_unary at by (raw_proof_tree p)
unfolding generated
raw_end_unary at by p = λ j. e_unary at by (proof_is p j)

pub raw_end_both : (at : ℕ) (left : RawProof) (right : RawProof)
    → raw_end_tree (vend.Both at left right) ≡ e_both at (raw_proof_tree left) (raw_proof_tree right)
unfolding generated
raw_end_both at left right = λ j. e_both at (proof_is left j) (proof_is right j)

pub raw_end_give : (at : ℕ) (argument : RawArg) (p : RawProof)
    → raw_end_tree (vend.Give at argument p) ≡ e_give at (raw_arg_tree argument) (raw_proof_tree p)
unfolding generated
raw_end_give at argument p = λ j. e_give at (raw_arg_tree argument) (proof_is p j)

pub raw_end_app : (at : ℕ) (head : RawProof) (first : RawProof) (others : List RawProof)
    → raw_end_tree (vend.App at head first others)
    ≡ e_app at (raw_proof_tree head) (raw_proof_tree first) (raw_proof_trees others)
unfolding generated
raw_end_app at head first others = λ j. e_app at (proof_is head j) (proof_is first j) (proofs_row_is others j)

pub raw_end_inst : (at : ℕ) (head : RawProof) (first : RawArg) (others : List RawArg)
    → raw_end_tree (vend.Inst at head first others)
    ≡ e_inst at (raw_proof_tree head) (raw_arg_tree first) (map raw_arg_tree others)
unfolding generated
raw_end_inst at head first others = λ j. e_inst at (proof_is head j) (raw_arg_tree first) (map raw_arg_tree others)

pub raw_end_case : (at : ℕ) (p : RawProof) (left_name : Span) (left : RawProof) (right_name : Span) (right : RawProof)
    → raw_end_tree (vend.Case at p left_name left right_name right)
    ≡ e_case at (raw_proof_tree p) left_name (raw_proof_tree left) right_name (raw_proof_tree right)
unfolding generated
raw_end_case at p left_name left right_name right =
    λ j. e_case at (proof_is p j) left_name (proof_is left j) right_name (proof_is right j)

pub raw_end_rewrite : (at : ℕ) (equation : RawProof) (motive : RawMotive) (p : RawProof)
    → raw_end_tree (vend.Rewrite at equation motive p)
    ≡ e_rewrite at (raw_proof_tree equation) (raw_motive_tree motive) (raw_proof_tree p)
unfolding generated
raw_end_rewrite at equation motive p = λ j. e_rewrite at (proof_is equation j) (raw_motive_tree motive) (proof_is p j)

pub raw_end_induct : (at : ℕ) (motive : RawMotive) (t : RawTerm) (zero : RawProof) (x : Binder) (below : Span)
    (hypothesis : Span) (after : RawProof)
    → raw_end_tree (vend.Induct at motive t zero x below hypothesis after)
    ≡ e_induct at (raw_motive_tree motive) (raw_term_tree t) (raw_proof_tree zero) x below hypothesis
    (raw_proof_tree after)
unfolding generated
raw_end_induct at motive t zero x below hypothesis after =
    λ j. e_induct at (raw_motive_tree motive) (raw_term_tree t) (proof_is zero j) x below hypothesis (proof_is after j)

pub raw_end_split : (at : ℕ) (motive : RawMotive) (t : RawTerm) (this : RawProof) (that : RawProof)
    → raw_end_tree (vend.Split at motive t this that)
    ≡ e_split at (raw_motive_tree motive) (raw_term_tree t) (raw_proof_tree this) (raw_proof_tree that)
unfolding generated
raw_end_split at motive t this that =
    λ j. e_split at (raw_motive_tree motive) (raw_term_tree t) (proof_is this j) (proof_is that j)

pub raw_end_axiom : (at : ℕ) (x : Span) (monos : List RawMono) (arguments : List RawArg)
    → raw_end_tree (vend.Axiom at x monos arguments)
    ≡ e_axiom at x (map raw_mono_tree monos) (map raw_arg_tree arguments)
unfolding generated
raw_end_axiom at x monos arguments = refl

pub raw_end_unfold : (at : ℕ) (x : Span) (number : ℕ) (first : RawArg) (others : List RawArg)
    → raw_end_tree (vend.Unfold at x number first others)
    ≡ e_unfold at x number (raw_arg_tree first) (map raw_arg_tree others)
unfolding generated
raw_end_unfold at x number first others = refl

pub raw_end_lem : (at : ℕ) (f : RawFormula) → raw_end_tree (vend.Lem at f) ≡ e_lem at (raw_formula_tree f)
unfolding generated
raw_end_lem at f = refl

pub raw_end_the : (at : ℕ) (f : RawFormula) (p : RawProof)
    → raw_end_tree (vend.The at f p) ≡ e_the at (raw_formula_tree f) (raw_proof_tree p)
unfolding generated
raw_end_the at f p = λ j. e_the at (raw_formula_tree f) (proof_is p j)
