-- What stops proofs, row by row; the law.
use Rattle.std.proofs.Common.{◌≡◌, ℕ, refl, subst, List, [], ◌∷◌}
use Rattle.htt_syntax.specs.Trees.{ProofTree}
use Rattle.htt_parser_trees.specs.Trees as raw
use Rattle.theory_text_names.specs.Scopes.{a_term_or_heap, Names, Scope, under, under_hypothesis}
use Rattle.theory_text.specs.Proofs.{arg_comes, args_come, motive_comes, after_stmt, proof_comes, block_comes, stmt_comes, end_comes, app_rest_comes}
use Rattle.theory_text_outlined.specs.Outlines.{AlikeNames, with_names, SameStop}
use Rattle.theory_text_outlined.specs.Laws.{StopsHangOnOutlines}
use Rattle.theory_text_outlined.proofs.Uses.{ok_same, bind_same, bind_related, hypothesis_name_same, rec_name_related, heap_related}
use Rattle.theory_text_outlined.proofs.Phrases.{mono_same, monos_same, ty_same, term_same, comp_same, formula_same}

module _ (names : Names) where
  arg_same : (s : Scope) → AlikeNames s.names names → (a : raw.RawArgTree) → SameStop (arg_comes s a) (arg_comes (with_names s names) a)
  arg_same s h (raw.arg_heap at k) = bind_related (heap_related names s h k) (λ _ _ _. ok_same)
  arg_same s h (raw.arg_term M) = bind_same (term_same names s h M) (λ _ _. ok_same)

  args_same : (s : Scope) → AlikeNames s.names names → (ass : List raw.RawArgTree) → SameStop (args_come s ass) (args_come (with_names s names) ass)
  unfolding args_come
  args_same s h [] = ok_same
  args_same s h (a ∷ rest) = bind_same (arg_same s h a) (λ _ _. bind_same (args_same s h rest) (λ _ _. ok_same))

  motive_same : (s : Scope) → AlikeNames s.names names → (m : raw.RawMotiveTree) → SameStop (motive_comes s m) (motive_comes (with_names s names) m)
  motive_same s h (raw.motive_of b F) = formula_same names (under s b a_term_or_heap) h F

  -- behind a statement
  after_alike : (s : Scope) → AlikeNames s.names names → (d : raw.RawStmtTree) → AlikeNames (after_stmt s d).names names
  after_alike s h (raw.b_intro at u) = h
  after_alike s h (raw.b_gen at x) = h
  after_alike s h (raw.b_open at x u q) = h
  after_alike s h (raw.b_have at u F q) = h

  after_with : (s : Scope) (d : raw.RawStmtTree) → with_names (after_stmt s d) names ≡ after_stmt (with_names s names) d
  after_with s (raw.b_intro at u) = refl
  after_with s (raw.b_gen at x) = refl
  after_with s (raw.b_open at x u q) = refl
  after_with s (raw.b_have at u F q) = refl

  mutual
    unfolding proof_comes

    pub proof_same : (s : Scope) → AlikeNames s.names names → (p : raw.RawProofTree) → SameStop (proof_comes s p) (proof_comes (with_names s names) p)
    proof_same s h (raw.p_end e) = end_same s h e
    proof_same s h (raw.p_step d p) =
        bind_same (stmt_same s h d) (λ _ _.
        bind_same (subst (λ r. SameStop (block_comes (after_stmt s d) p) (block_comes r p)) (after_with s d)
        (block_same (after_stmt s d) (after_alike s h d) p)) (λ _ _. ok_same))

    block_same : (s : Scope) → AlikeNames s.names names → (p : raw.RawProofTree) → SameStop (block_comes s p) (block_comes (with_names s names) p)
    block_same s h (raw.p_end e) = bind_same (end_same s h e) (λ _ _. ok_same)
    block_same s h (raw.p_step d p) =
        bind_same (stmt_same s h d) (λ _ _.
        bind_same (subst (λ r. SameStop (block_comes (after_stmt s d) p) (block_comes r p)) (after_with s d)
        (block_same (after_stmt s d) (after_alike s h d) p)) (λ _ _. ok_same))

    stmt_same : (s : Scope) → AlikeNames s.names names → (d : raw.RawStmtTree) → SameStop (stmt_comes s d) (stmt_comes (with_names s names) d)
    stmt_same s h (raw.b_intro at u) = ok_same
    stmt_same s h (raw.b_gen at x) = ok_same
    stmt_same s h (raw.b_open at x u q) = bind_same (proof_same s h q) (λ _ _. ok_same)
    stmt_same s h (raw.b_have at u F q) = bind_same (formula_same names s h F) (λ _ _. bind_same (proof_same s h q) (λ _ _. ok_same))

    end_same : (s : Scope) → AlikeNames s.names names → (e : raw.RawEndTree) → SameStop (end_comes s e) (end_comes (with_names s names) e)
    end_same s h (raw.e_name span) = bind_same (hypothesis_name_same names s h span) (λ _ _. ok_same)
    end_same s h (raw.e_trivial at) = ok_same
    end_same s h (raw.e_refl at) = ok_same
    end_same s h (raw.e_unary at rule p) = bind_same (proof_same s h p) (λ _ _. ok_same)
    end_same s h (raw.e_both at p q) = bind_same (proof_same s h p) (λ _ _. bind_same (proof_same s h q) (λ _ _. ok_same))
    end_same s h (raw.e_give at a p) = bind_same (arg_same s h a) (λ _ _. bind_same (proof_same s h p) (λ _ _. ok_same))
    end_same s h (raw.e_app at p q rest) = bind_same (proof_same s h p) (λ _ _. bind_same (proof_same s h q) (λ _ _. app_rest_same s h at _ _ rest))
    end_same s h (raw.e_inst at p a rest) =
        bind_same (proof_same s h p) (λ _ _. bind_same (arg_same s h a) (λ _ _. bind_same (args_same s h rest) (λ _ _. ok_same)))
    end_same s h (raw.e_case at p u q v r) =
        bind_same (proof_same s h p) (λ _ _.
        bind_same (proof_same (under_hypothesis s u) h q) (λ _ _. bind_same (proof_same (under_hypothesis s v) h r) (λ _ _. ok_same)))
    end_same s h (raw.e_rewrite at p m q) =
        bind_same (proof_same s h p) (λ _ _. bind_same (motive_same s h m) (λ _ _. bind_same (proof_same s h q) (λ _ _. ok_same)))
    end_same s h (raw.e_induct at m M p y u v q) =
        bind_same (motive_same s h m) (λ _ _.
        bind_same (term_same names s h M) (λ _ _.
        bind_same (proof_same s h p)
        (λ _ _. bind_same (proof_same (under_hypothesis (under_hypothesis (under s y a_term_or_heap) u) v) h q) (λ _ _. ok_same))))
    end_same s h (raw.e_split at m M p q) =
        bind_same (motive_same s h m) (λ _ _.
        bind_same (term_same names s h M) (λ _ _. bind_same (proof_same s h p) (λ _ _. bind_same (proof_same s h q) (λ _ _. ok_same))))
    end_same s h (raw.e_axiom at x ms ass) = bind_same (monos_same names s h ms) (λ _ _. bind_same (args_same s h ass) (λ _ _. ok_same))
    end_same s h (raw.e_unfold at x n a rest) =
        bind_related (rec_name_related names s h x)
        (λ _ _ _. bind_same (arg_same s h a) (λ _ _. bind_same (args_same s h rest) (λ _ _. ok_same)))
    end_same s h (raw.e_lem at F) = bind_same (formula_same names s h F) (λ _ _. ok_same)
    end_same s h (raw.e_the at F p) = bind_same (formula_same names s h F) (λ _ _. bind_same (proof_same s h p) (λ _ _. ok_same))

    app_rest_same : (s : Scope) → AlikeNames s.names names → (at : ℕ) (p q : ProofTree) (rest : raw.RawProofTrees)
        → SameStop (app_rest_comes s at p rest) (app_rest_comes (with_names s names) at q rest)
    app_rest_same s h at p q raw.no_proofs = ok_same
    app_rest_same s h at p q (raw.more_proofs r rest) = bind_same (proof_same s h r) (λ _ _. app_rest_same s h at _ _ rest)

pub law : StopsHangOnOutlines
law = record {
  monos = λ s names t h. mono_same names s h t;
  types = λ s names A h. ty_same names s h A;
  terms = λ s names M h. term_same names s h M;
  comps = λ s names E h. comp_same names s h E;
  formulas = λ s names F h. formula_same names s h F;
  proofs = λ s names p h. proof_same names s h p;
}
