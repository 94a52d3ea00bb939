-- What proofs stand for in a sequent, or the first event that stops them. Hypotheses and variables share one space of
-- names; a statement adds to the scope of what follows it.
use Rattle.std.specs.Prelude.{ℕ, List, [], ◌∷◌, Result, Ok}
use Rattle.htt_syntax.specs.Trees.{FormulaTree, ArgTree, ProofTree, StmtTree, BlockTree, a_heap, a_term, p_hyp}
use Rattle.htt_syntax.specs.Trees.{p_trivial, p_refl, p_first, p_second, p_left, p_right, p_absurd, p_both, p_give}
use Rattle.htt_syntax.specs.Trees.{p_app, p_inst, p_case, p_rewrite, p_induct, p_split, p_axiom, p_lem, p_the, p_block}
use Rattle.htt_syntax.specs.Trees.{p_at, p_unfold, d_intro, d_gen, d_have, d_open, d_at, b_then, b_end}
use Rattle.htt_parser_trees.specs.declared.proof.UnaryRule.{UnaryRule}
use Rattle.htt_parser_trees.specs.declared.proof.UnaryRule.TheVariants as rules
use Rattle.htt_parser_trees.specs.Trees as raw
use Rattle.theory_text_names.specs.Stops.{Stop, ◌>>=◌}
use Rattle.theory_text_names.specs.Scopes.{a_term_or_heap, Scope, bytes_of, under, under_hypothesis}
use Rattle.theory_text_names.specs.Uses.{hypothesis_named, rec_named, heap_comes}
use Rattle.theory_text.specs.Monotypes.{monos_come}
use Rattle.theory_text.specs.Phrases.{term_comes, formula_comes}

abbrev pub arg_comes : Scope → raw.RawArgTree → Result ArgTree Stop
arg_comes s (raw.arg_heap at heap) = do
  h ← heap_comes s heap
  Ok (a_heap h)
arg_comes s (raw.arg_term term) = do
  M ← term_comes s term
  Ok (a_term M)

unfoldable pub args_come : Scope → List raw.RawArgTree → Result (List ArgTree) Stop
args_come s [] = Ok []
args_come s (arg ∷ args) = do
  first ← arg_comes s arg
  others ← args_come s args
  Ok (first ∷ others)

-- the formula of a motive, under its variable
abbrev pub motive_comes : Scope → raw.RawMotiveTree → Result FormulaTree Stop
motive_comes s (raw.motive_of b formula) = formula_comes (under s b a_term_or_heap) formula

abbrev pub unary_rule : UnaryRule → ProofTree → ProofTree
unary_rule rules.First p = p_first p
unary_rule rules.Second p = p_second p
unary_rule rules.Left p = p_left p
unary_rule rules.Right p = p_right p
unary_rule rules.Absurd p = p_absurd p

-- a chain of arguments groups to the left, and each of its nodes begins with the chain
abbrev pub app_at : ℕ → ProofTree → ProofTree → ProofTree
app_at at p q = p_at at (p_app p q)

unfoldable pub inst_at : ℕ → ProofTree → List ArgTree → ProofTree
inst_at at p [] = p
inst_at at p (arg ∷ args) = inst_at at (p_at at (p_inst p arg)) args

-- what follows a statement is under the variable, and then the hypothesis, that it adds
abbrev pub after_stmt : Scope → raw.RawStmtTree → Scope
after_stmt s (raw.b_intro at u) = under_hypothesis s u
after_stmt s (raw.b_gen at x) = under s x a_term_or_heap
after_stmt s (raw.b_open at x u proof) = under_hypothesis (under s x a_term_or_heap) u
after_stmt s (raw.b_have at u formula proof) = under_hypothesis s u

unfoldable mutual
  -- a proof without statements is its end
  pub proof_comes : Scope → raw.RawProofTree → Result ProofTree Stop
  proof_comes s (raw.p_end end) = end_comes s end
  proof_comes s (raw.p_step stmt proof) = do
    d ← stmt_comes s stmt
    b ← block_comes (after_stmt s stmt) proof
    Ok (p_block (b_then d b))

  pub block_comes : Scope → raw.RawProofTree → Result BlockTree Stop
  block_comes s (raw.p_end end) = do
    p ← end_comes s end
    Ok (b_end p)
  block_comes s (raw.p_step stmt proof) = do
    d ← stmt_comes s stmt
    b ← block_comes (after_stmt s stmt) proof
    Ok (b_then d b)

  pub stmt_comes : Scope → raw.RawStmtTree → Result StmtTree Stop
  stmt_comes s (raw.b_intro at u) = Ok (d_at at d_intro)
  stmt_comes s (raw.b_gen at x) = Ok (d_at at d_gen)
  stmt_comes s (raw.b_open at x u proof) = do
    p ← proof_comes s proof
    Ok (d_at at (d_open p))
  stmt_comes s (raw.b_have at u formula proof) = do
    F ← formula_comes s formula
    p ← proof_comes s proof
    Ok (d_at at (d_have F p))

  pub end_comes : Scope → raw.RawEndTree → Result ProofTree Stop
  end_comes s (raw.e_name span) = do
    number ← hypothesis_named s span
    Ok (p_at span.from (p_hyp number))
  end_comes s (raw.e_trivial at) = Ok (p_at at p_trivial)
  end_comes s (raw.e_refl at) = Ok (p_at at p_refl)
  end_comes s (raw.e_unary at rule proof) = do
    p ← proof_comes s proof
    Ok (p_at at (unary_rule rule p))
  end_comes s (raw.e_both at left right) = do
    p ← proof_comes s left
    q ← proof_comes s right
    Ok (p_at at (p_both p q))
  end_comes s (raw.e_give at argument proof) = do
    a ← arg_comes s argument
    p ← proof_comes s proof
    Ok (p_at at (p_give a p))
  end_comes s (raw.e_app at head first rest) = do
    p ← proof_comes s head
    q ← proof_comes s first
    app_rest_comes s at (app_at at p q) rest
  end_comes s (raw.e_inst at head first rest) = do
    p ← proof_comes s head
    a ← arg_comes s first
    others ← args_come s rest
    Ok (inst_at at p (a ∷ others))
  end_comes s (raw.e_case at either u left v right) = do
    p ← proof_comes s either
    q ← proof_comes (under_hypothesis s u) left
    r ← proof_comes (under_hypothesis s v) right
    Ok (p_at at (p_case p q r))
  end_comes s (raw.e_rewrite at equation motive proof) = do
    p ← proof_comes s equation
    C ← motive_comes s motive
    q ← proof_comes s proof
    Ok (p_at at (p_rewrite p C q))
  -- the second proof is under the word and then two hypotheses
  end_comes s (raw.e_induct at motive term at_zero y u v at_next) = do
    C ← motive_comes s motive
    M ← term_comes s term
    p ← proof_comes s at_zero
    q ← proof_comes (under_hypothesis (under_hypothesis (under s y a_term_or_heap) u) v) at_next
    Ok (p_at at (p_induct C M p q))
  end_comes s (raw.e_split at motive term on_true on_false) = do
    C ← motive_comes s motive
    M ← term_comes s term
    p ← proof_comes s on_true
    q ← proof_comes s on_false
    Ok (p_at at (p_split C M p q))
  -- the name of an axiom is looked up nowhere
  end_comes s (raw.e_axiom at name monos arguments) = do
    ts ← monos_come s monos
    args ← args_come s arguments
    Ok (p_at at (p_axiom (bytes_of s.text name) ts args))
  end_comes s (raw.e_unfold at name number first rest) = do
    p ← rec_named s name
    a ← arg_comes s first
    others ← args_come s rest
    Ok (p_at at (p_unfold p.0 number (a ∷ others)))
  end_comes s (raw.e_lem at formula) = do
    F ← formula_comes s formula
    Ok (p_at at (p_lem F))
  end_comes s (raw.e_the at formula proof) = do
    F ← formula_comes s formula
    p ← proof_comes s proof
    Ok (p_at at (p_the F p))

  pub app_rest_comes : Scope → ℕ → ProofTree → raw.RawProofTrees → Result ProofTree Stop
  app_rest_comes s at p raw.no_proofs = Ok p
  app_rest_comes s at p (raw.more_proofs proof proofs) = do
    q ← proof_comes s proof
    app_rest_comes s at (app_at at p q) proofs
