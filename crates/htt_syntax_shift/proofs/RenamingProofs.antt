-- The same for proofs.
use Rattle.std.proofs.Common.{ℕ, ◌+◌, ◌≡◌, refl, List, [], ◌∷◌, map}
use Rattle.htt_syntax.specs.Trees.{MonoTree, TermTree, FormulaTree, ArgTree, ProofTree, StmtTree, BlockTree, binders_of, p_hyp, p_trivial, p_refl, p_first}
use Rattle.htt_syntax.specs.Trees.{p_second, p_left, p_right, p_absurd, p_both, p_give, p_app, p_inst, p_case, p_rewrite, p_induct, p_split, p_axiom, p_lem}
use Rattle.htt_syntax.specs.Trees.{p_the, p_block, p_at, p_unfold, d_intro, d_gen, d_have, d_open, d_at, b_then, b_end, a_heap, a_term}
use Rattle.htt_syntax_walk.specs.Walk.{walk_mono}
use Rattle.theory_renaming.specs.Renaming.{Map, lift, lifts, rename_mono, rename_arg, rename_proof, rename_stmt, rename_block}
use Rattle.htt_syntax_shift.specs.Renamed.{renamed}
use Rattle.htt_syntax_shift.proofs.Depths.{deeper, deeper_by}
use Rattle.htt_syntax_shift.proofs.Renaming.{mono_renamed, term_renamed, formula_renamed}
use Rattle.htt_syntax_walk.specs.WalkProof.{walk_arg, walk_proof, walk_stmt, walk_block}

module _ (m : Map) where
  pub arg_renamed : (t : ArgTree) (d : ℕ) (k : Map) → lifts d m ≡ k → walk_arg (renamed m) d t ≡ rename_arg k t
  unfolding walk_arg rename_arg
  arg_renamed (a_heap heap) d k e = λ j. a_heap (e j heap)
  arg_renamed (a_term term) d k e = λ j. a_term (term_renamed m term d k e j)

  args_renamed : (ts : List ArgTree) (d : ℕ) (k : Map) → lifts d m ≡ k → map (walk_arg (renamed m) d) ts ≡ map (rename_arg k) ts
  args_renamed [] d k e = refl
  args_renamed (t ∷ ts) d k e = λ j. arg_renamed t d k e j ∷ args_renamed ts d k e j

  monos_renamed : (ts : List MonoTree) (d : ℕ) (k : Map) → lifts d m ≡ k → map (walk_mono (renamed m) d) ts ≡ map (rename_mono k) ts
  monos_renamed [] d k e = refl
  monos_renamed (t ∷ ts) d k e = λ j. mono_renamed m t d k e j ∷ monos_renamed ts d k e j

  mutual
    unfolding walk_proof rename_proof

    pub proof_renamed : (t : ProofTree) (d : ℕ) (k : Map) → lifts d m ≡ k → walk_proof (renamed m) d t ≡ rename_proof k t
    proof_renamed (p_hyp number) d k e = refl
    proof_renamed p_trivial d k e = refl
    proof_renamed p_refl d k e = refl
    proof_renamed (p_first proof) d k e = λ j. p_first (proof_renamed proof d k e j)
    proof_renamed (p_second proof) d k e = λ j. p_second (proof_renamed proof d k e j)
    proof_renamed (p_left proof) d k e = λ j. p_left (proof_renamed proof d k e j)
    proof_renamed (p_right proof) d k e = λ j. p_right (proof_renamed proof d k e j)
    proof_renamed (p_absurd proof) d k e = λ j. p_absurd (proof_renamed proof d k e j)
    proof_renamed (p_both left right) d k e = λ j. p_both (proof_renamed left d k e j) (proof_renamed right d k e j)
    proof_renamed (p_give arg proof) d k e = λ j. p_give (arg_renamed arg d k e j) (proof_renamed proof d k e j)
    proof_renamed (p_app function argument) d k e = λ j. p_app (proof_renamed function d k e j) (proof_renamed argument d k e j)
    proof_renamed (p_inst proof arg) d k e = λ j. p_inst (proof_renamed proof d k e j) (arg_renamed arg d k e j)
    proof_renamed (p_case either left right) d k e = λ j. p_case (proof_renamed either d k e j) (proof_renamed left d k e j) (proof_renamed right d k e j)
    proof_renamed (p_rewrite equation motive proof) d k e = λ j.
        p_rewrite (proof_renamed equation d k e j) (formula_renamed m motive (d + 1) (lift k) (deeper m d k e) j)
        (proof_renamed proof d k e j)
    proof_renamed (p_induct motive word at_zero at_next) d k e =
        λ j.
        p_induct (formula_renamed m motive (d + 1) (lift k) (deeper m d k e) j) (term_renamed m word d k e j)
        (proof_renamed at_zero d k e j) (proof_renamed at_next (d + 1) (lift k) (deeper m d k e) j)
    proof_renamed (p_split motive test on_true on_false) d k e =
        λ j.
        p_split (formula_renamed m motive (d + 1) (lift k) (deeper m d k e) j) (term_renamed m test d k e j) (proof_renamed on_true d k e j)
        (proof_renamed on_false d k e j)
    proof_renamed (p_axiom name monos arguments) d k e = λ j. p_axiom name (monos_renamed monos d k e j) (args_renamed arguments d k e j)
    proof_renamed (p_lem formula) d k e = λ j. p_lem (formula_renamed m formula d k e j)
    proof_renamed (p_the formula proof) d k e = λ j. p_the (formula_renamed m formula d k e j) (proof_renamed proof d k e j)
    proof_renamed (p_block block) d k e = λ j. p_block (block_renamed block d k e j)
    proof_renamed (p_at at proof) d k e = λ j. p_at at (proof_renamed proof d k e j)
    proof_renamed (p_unfold number case arguments) d k e = λ j. p_unfold number case (args_renamed arguments d k e j)

    pub stmt_renamed : (t : StmtTree) (d : ℕ) (k : Map) → lifts d m ≡ k → walk_stmt (renamed m) d t ≡ rename_stmt k t
    stmt_renamed d_intro d k e = refl
    stmt_renamed d_gen d k e = refl
    stmt_renamed (d_have formula proof) d k e = λ j. d_have (formula_renamed m formula d k e j) (proof_renamed proof d k e j)
    stmt_renamed (d_open proof) d k e = λ j. d_open (proof_renamed proof d k e j)
    stmt_renamed (d_at at stmt) d k e = λ j. d_at at (stmt_renamed stmt d k e j)

    pub block_renamed : (t : BlockTree) (d : ℕ) (k : Map) → lifts d m ≡ k → walk_block (renamed m) d t ≡ rename_block k t
    block_renamed (b_then stmt others) d k e = λ j.
        b_then (stmt_renamed stmt d k e j)
        (block_renamed others (d + binders_of stmt) (lifts (binders_of stmt) k) (deeper_by m (binders_of stmt) d k e) j)
    block_renamed (b_end proof) d k e = λ j. b_end (proof_renamed proof d k e j)

  pub proof_shifted : (t : ProofTree) → walk_proof (renamed m) 0 t ≡ rename_proof m t
  unfolding lifts
  proof_shifted t = proof_renamed t 0 m refl
