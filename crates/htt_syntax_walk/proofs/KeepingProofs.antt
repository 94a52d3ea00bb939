-- A walk that puts each variable for itself gives the proof itself.
use Rattle.std.proofs.Common.{ℕ, ◌+◌, ◌≡◌, refl, List, [], ◌∷◌, map}
use Rattle.htt_syntax.specs.Trees.{MonoTree, TermTree, FormulaTree, ArgTree, ProofTree, StmtTree, BlockTree, binders_of, p_hyp, p_trivial, p_refl, p_first}
use Rattle.htt_syntax.specs.Trees.{p_second, p_left, p_right, p_absurd, p_both, p_give, p_app, p_inst, p_case, p_rewrite, p_induct, p_split, p_axiom, p_lem}
use Rattle.htt_syntax.specs.Trees.{p_the, p_block, p_at, p_unfold, d_intro, d_gen, d_have, d_open, d_at, b_then, b_end, a_heap, a_term}
use Rattle.htt_syntax_walk.specs.Walk.{walk_mono}
use Rattle.htt_syntax_walk.specs.Kept.{kept}
use Rattle.htt_syntax_walk.proofs.Keeping.{mono_kept, term_kept, formula_kept}
use Rattle.htt_syntax_walk.specs.WalkProof.{walk_arg, walk_proof, walk_stmt, walk_block}

pub arg_kept : (t : ArgTree) (d : ℕ) → walk_arg kept d t ≡ t
unfolding walk_arg
arg_kept (a_heap heap) d = refl
arg_kept (a_term term) d = λ j. a_term (term_kept term d j)

args_kept : (ts : List ArgTree) (d : ℕ) → map (walk_arg kept d) ts ≡ ts
args_kept [] d = refl
args_kept (t ∷ ts) d = λ j. arg_kept t d j ∷ args_kept ts d j

monos_kept : (ts : List MonoTree) (d : ℕ) → map (walk_mono kept d) ts ≡ ts
monos_kept [] d = refl
monos_kept (t ∷ ts) d = λ j. mono_kept t d j ∷ monos_kept ts d j

mutual
  unfolding walk_proof

  pub proof_kept : (t : ProofTree) (d : ℕ) → walk_proof kept d t ≡ t
  proof_kept (p_hyp number) d = refl
  proof_kept p_trivial d = refl
  proof_kept p_refl d = refl
  proof_kept (p_first proof) d = λ j. p_first (proof_kept proof d j)
  proof_kept (p_second proof) d = λ j. p_second (proof_kept proof d j)
  proof_kept (p_left proof) d = λ j. p_left (proof_kept proof d j)
  proof_kept (p_right proof) d = λ j. p_right (proof_kept proof d j)
  proof_kept (p_absurd proof) d = λ j. p_absurd (proof_kept proof d j)
  proof_kept (p_both left right) d = λ j. p_both (proof_kept left d j) (proof_kept right d j)
  proof_kept (p_give arg proof) d = λ j. p_give (arg_kept arg d j) (proof_kept proof d j)
  proof_kept (p_app function argument) d = λ j. p_app (proof_kept function d j) (proof_kept argument d j)
  proof_kept (p_inst proof arg) d = λ j. p_inst (proof_kept proof d j) (arg_kept arg d j)
  proof_kept (p_case either left right) d = λ j. p_case (proof_kept either d j) (proof_kept left d j) (proof_kept right d j)
  proof_kept (p_rewrite equation motive proof) d = λ j. p_rewrite (proof_kept equation d j) (formula_kept motive (d + 1) j) (proof_kept proof d j)
  proof_kept (p_induct motive word at_zero at_next) d =
      λ j. p_induct (formula_kept motive (d + 1) j) (term_kept word d j) (proof_kept at_zero d j) (proof_kept at_next (d + 1) j)
  proof_kept (p_split motive test on_true on_false) d =
      λ j. p_split (formula_kept motive (d + 1) j) (term_kept test d j) (proof_kept on_true d j) (proof_kept on_false d j)
  proof_kept (p_axiom name monos arguments) d = λ j. p_axiom name (monos_kept monos d j) (args_kept arguments d j)
  proof_kept (p_lem formula) d = λ j. p_lem (formula_kept formula d j)
  proof_kept (p_the formula proof) d = λ j. p_the (formula_kept formula d j) (proof_kept proof d j)
  proof_kept (p_block block) d = λ j. p_block (block_kept block d j)
  proof_kept (p_at at proof) d = λ j. p_at at (proof_kept proof d j)
  proof_kept (p_unfold number case arguments) d = λ j. p_unfold number case (args_kept arguments d j)

  pub stmt_kept : (t : StmtTree) (d : ℕ) → walk_stmt kept d t ≡ t
  stmt_kept d_intro d = refl
  stmt_kept d_gen d = refl
  stmt_kept (d_have formula proof) d = λ j. d_have (formula_kept formula d j) (proof_kept proof d j)
  stmt_kept (d_open proof) d = λ j. d_open (proof_kept proof d j)
  stmt_kept (d_at at stmt) d = λ j. d_at at (stmt_kept stmt d j)

  pub block_kept : (t : BlockTree) (d : ℕ) → walk_block kept d t ≡ t
  block_kept (b_then stmt others) d = λ j. b_then (stmt_kept stmt d j) (block_kept others (d + binders_of stmt) j)
  block_kept (b_end proof) d = λ j. b_end (proof_kept proof d j)
