-- The tree of a proof, one level at a time: an equation for each variant.
use Rattle.std.specs.Prelude.{ℕ, List, [], ◌∷◌, ◌≡◌, refl, map, ⊤}
use Rattle.std.proofs.Common.{ap}
use Rattle.htt_syntax.specs.declared.mono.Mono.{Mono}
use Rattle.htt_syntax.specs.declared.tree.Term.{Term}
use Rattle.htt_syntax.specs.declared.tree.Formula.{Formula}
use Rattle.htt_syntax.specs.declared.proof.Arg.{Arg}
use Rattle.htt_syntax.specs.declared.proof.Arg.TheVariants as varg
use Rattle.htt_syntax.specs.declared.proof.Proof.{Proof}
use Rattle.htt_syntax.specs.declared.proof.Proof.TheVariants as vproof
use Rattle.htt_syntax.specs.declared.proof.Proof.TheBlock as block
use Rattle.htt_syntax.specs.declared.proof.Stmt.{Stmt}
use Rattle.htt_syntax.specs.declared.proof.Stmt.TheVariants as vstmt
use Rattle.htt_syntax.specs.Trees.{ProofTree, BlockTree, a_heap, a_term, b_then, b_end, p_hyp, p_trivial, p_refl}
use Rattle.htt_syntax.specs.Trees.{p_first, p_second, p_left, p_right, p_absurd, p_both, p_give, p_app, p_inst, p_case}
use Rattle.htt_syntax.specs.Trees.{p_rewrite, p_induct, p_split, p_axiom, p_lem, p_the, p_block, p_at, p_unfold}
use Rattle.htt_syntax.specs.Trees.{d_intro, d_gen, d_have, d_open, d_at}
use Rattle.htt_syntax.specs.Views.{mono_tree, term_tree, formula_tree}
use Rattle.htt_syntax.specs.ProofViews.{arg_tree, proof_tree, stmt_tree, stmts_row}

-- the statements, and the proof of what they leave
abbrev pub stmts_tree : List Stmt → ProofTree → BlockTree
stmts_tree [] last = b_end last
stmts_tree (s ∷ ss) last = b_then (stmt_tree s) (stmts_tree ss last)

-- All that the equations below compute with.
generated : Type 0
unfolding arg_tree proof_tree block.hidden-the_row-Proof-0 block.hidden-the_row-Stmt-2 denote.Hole.Carrier.hidden
generated = ⊤

stmts_row_is : (ss : List Stmt) (last : ProofTree)
    → stmts_row (block.hidden-the_row-Stmt-1 ss) last ≡ stmts_tree ss last
unfolding proof_tree block.hidden-the_row-Stmt-1 denote.Hole.Carrier.hidden
stmts_row_is [] last = refl
stmts_row_is (s ∷ ss) last = ap (b_then (stmt_tree s)) (stmts_row_is ss last)

pub arg_heap : (a : ℕ) → arg_tree (varg.Heap a) ≡ a_heap a
unfolding generated
arg_heap a = refl

pub arg_term : (a : Term) → arg_tree (varg.Term a) ≡ a_term (term_tree a)
unfolding generated
arg_term a = refl

pub proof_hyp : (a : ℕ) → proof_tree (vproof.Hyp a) ≡ p_hyp a
unfolding generated
proof_hyp a = refl

pub proof_trivial : proof_tree vproof.Trivial ≡ p_trivial
unfolding generated
proof_trivial = refl

pub proof_refl : proof_tree vproof.Refl ≡ p_refl
unfolding generated
proof_refl = refl

pub proof_first : (a : Proof) → proof_tree (vproof.First a) ≡ p_first (proof_tree a)
unfolding generated
proof_first a = refl

pub proof_second : (a : Proof) → proof_tree (vproof.Second a) ≡ p_second (proof_tree a)
unfolding generated
proof_second a = refl

pub proof_left : (a : Proof) → proof_tree (vproof.Left a) ≡ p_left (proof_tree a)
unfolding generated
proof_left a = refl

pub proof_right : (a : Proof) → proof_tree (vproof.Right a) ≡ p_right (proof_tree a)
unfolding generated
proof_right a = refl

pub proof_absurd : (a : Proof) → proof_tree (vproof.Absurd a) ≡ p_absurd (proof_tree a)
unfolding generated
proof_absurd a = refl

pub proof_both : (a : Proof) (b : Proof) → proof_tree (vproof.Both a b) ≡ p_both (proof_tree a) (proof_tree b)
unfolding generated
proof_both a b = refl

pub proof_give : (a : Arg) (b : Proof) → proof_tree (vproof.Give a b) ≡ p_give (arg_tree a) (proof_tree b)
unfolding generated
proof_give a b = refl

pub proof_app : (a : Proof) (b : Proof) → proof_tree (vproof.App a b) ≡ p_app (proof_tree a) (proof_tree b)
unfolding generated
proof_app a b = refl

pub proof_inst : (a : Proof) (b : Arg) → proof_tree (vproof.Inst a b) ≡ p_inst (proof_tree a) (arg_tree b)
unfolding generated
proof_inst a b = refl

pub proof_case : (a : Proof) (b : Proof) (c : Proof)
    → proof_tree (vproof.Case a b c) ≡ p_case (proof_tree a) (proof_tree b) (proof_tree c)
unfolding generated
proof_case a b c = refl

pub proof_rewrite : (a : Proof) (b : Formula) (c : Proof)
    → proof_tree (vproof.Rewrite a b c) ≡ p_rewrite (proof_tree a) (formula_tree b) (proof_tree c)
unfolding generated
proof_rewrite a b c = refl

pub proof_induct : (a : Formula) (b : Term) (c : Proof) (e : Proof)
    → proof_tree (vproof.Induct a b c e) ≡ p_induct (formula_tree a) (term_tree b) (proof_tree c) (proof_tree e)
unfolding generated
proof_induct a b c e = refl

pub proof_split : (a : Formula) (b : Term) (c : Proof) (e : Proof)
    → proof_tree (vproof.Split a b c e) ≡ p_split (formula_tree a) (term_tree b) (proof_tree c) (proof_tree e)
unfolding generated
proof_split a b c e = refl

pub proof_axiom : (a : List ℕ) (b : List Mono) (c : List Arg)
    → proof_tree (vproof.Axiom a b c) ≡ p_axiom a (map mono_tree b) (map arg_tree c)
unfolding generated
proof_axiom a b c = refl

pub proof_lem : (a : Formula) → proof_tree (vproof.Lem a) ≡ p_lem (formula_tree a)
unfolding generated
proof_lem a = refl

pub proof_the : (a : Formula) (b : Proof) → proof_tree (vproof.The a b) ≡ p_the (formula_tree a) (proof_tree b)
unfolding generated
proof_the a b = refl

pub proof_block : (a : List Stmt) (b : Proof) → proof_tree (vproof.Block a b) ≡ p_block (stmts_tree a (proof_tree b))
unfolding generated
proof_block a b = simp stmts_row_is refl

pub proof_at : (a : ℕ) (b : Proof) → proof_tree (vproof.At a b) ≡ p_at a (proof_tree b)
unfolding generated
proof_at a b = refl

pub proof_unfold : (a : ℕ) (b : ℕ) (c : List Arg) → proof_tree (vproof.Unfold a b c) ≡ p_unfold a b (map arg_tree c)
unfolding generated
proof_unfold a b c = refl

pub stmt_intro : stmt_tree vstmt.Intro ≡ d_intro
unfolding generated
stmt_intro = refl

pub stmt_gen : stmt_tree vstmt.Gen ≡ d_gen
unfolding generated
stmt_gen = refl

pub stmt_have : (a : Formula) (b : Proof) → stmt_tree (vstmt.Have a b) ≡ d_have (formula_tree a) (proof_tree b)
unfolding generated
stmt_have a b = refl

pub stmt_unpack : (a : Proof) → stmt_tree (vstmt.Unpack a) ≡ d_open (proof_tree a)
unfolding generated
stmt_unpack a = refl

pub stmt_at : (a : ℕ) (b : Stmt) → stmt_tree (vstmt.At a b) ≡ d_at a (stmt_tree b)
unfolding generated
stmt_at a b = refl

pub ruleset arg_levels = (arg_heap, arg_term)

pub ruleset proof_levels = (
  proof_hyp,
  proof_trivial,
  proof_refl,
  proof_first,
  proof_second,
  proof_left,
  proof_right,
  proof_absurd,
  proof_both,
  proof_give,
  proof_app,
  proof_inst,
  proof_case,
  proof_rewrite,
  proof_induct,
  proof_split,
  proof_axiom,
  proof_lem,
  proof_the,
  proof_block,
  proof_at,
  proof_unfold,
)

pub ruleset stmt_levels = (stmt_intro, stmt_gen, stmt_have, stmt_unpack, stmt_at)
