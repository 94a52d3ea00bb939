-- What a proof stands for in a sorted scope is sorted.
use Rattle.std.specs.Prelude.{◌≡◌, ℕ, ◌<◌, Bool, true, false, if◌then◌else◌, List, [], ◌∷◌, Option, Some, None}
use Rattle.std.proofs.Common.{refl, sym, subst, arith}
use Rattle.htt_syntax.specs.Trees.{MonoTree, ArgTree, ProofTree, StmtTree, BlockTree, b_then, p_at, p_inst}
use Rattle.htt_parser_trees.specs.declared.place.Span.{Span}
use Rattle.htt_parser_trees.specs.declared.proof.UnaryRule.{UnaryRule}
use Rattle.htt_parser_trees.specs.declared.proof.UnaryRule.TheVariants as rules
use Rattle.htt_parser_trees.specs.Trees as raw
use Rattle.theory_text_names.specs.Scopes.{Sort, a_mono, a_term, a_heap, a_term_or_heap, the_init, the_mem, a_hypothesis, Local, Declared, Names, Scope}
use Rattle.theory_text_names.specs.Scopes.{bytes_of, one_more, one_more_hypothesis, hypotheses, under, under_hypothesis}
use Rattle.theory_text_names.specs.Uses.{Use, a_variable, the_hypothesis, a_declared, is_named, use_of, local_use, meaning_of, declares, declared_use}
use Rattle.theory_text_names.specs.Uses.{first_some, use_at, hypothesis_of_use, hypothesis_named}
use Rattle.theory_text.specs.Proofs.{arg_comes, args_come, motive_comes, unary_rule, app_at, inst_at, after_stmt, proof_comes, block_comes, stmt_comes}
use Rattle.theory_text.specs.Proofs.{end_comes, app_rest_comes}
use Rattle.theory_text_scoped.specs.Sorted.{Sorts, SortedFormula}
use Rattle.theory_text_scoped.specs.SortedProofs.{AreSortedMonos, SortedArg, AreSortedArgs, sorts_after, hypotheses_after, SortedProof, sorted_hyp}
use Rattle.theory_text_scoped.specs.SortedProofs.{sorted_trivial, sorted_refl, sorted_first, sorted_second, sorted_left, sorted_right, sorted_absurd}
use Rattle.theory_text_scoped.specs.SortedProofs.{sorted_both, sorted_give, sorted_app, sorted_inst, sorted_case, sorted_rewrite, sorted_induct, sorted_split}
use Rattle.theory_text_scoped.specs.SortedProofs.{sorted_axiom, sorted_lem, sorted_the, sorted_block, sorted_at, sorted_unfold, SortedStmt, sorted_intro}
use Rattle.theory_text_scoped.specs.SortedProofs.{sorted_gen, sorted_have, sorted_open, sorted_stmt_at, SortedBlock, sorted_then, sorted_end}
use Rattle.theory_text_scoped.specs.Scopes.{sorts_in, IsSortedScope}
use Rattle.theory_text_scoped.proofs.Binding.{Gives, gives, stops, if_bind, any_ok}
use Rattle.theory_text_scoped.proofs.Named.{AreSorted, under_fits, heap_sorted, monos_sorted}
use Rattle.theory_text_scoped.proofs.Phrases.{term_sorted, formula_sorted}

-- ---- hypotheses

abbrev pub IsBelow : ℕ → Option Use → Type 0
IsBelow n (Some (the_hypothesis number)) = number < n
IsBelow n _ = Unit {0}

is_below_either : (n : ℕ) (b : Bool) (one other : Option Use) → IsBelow n one → IsBelow n other → IsBelow n (if b then one else other)
is_below_either n true one other h k = h
is_below_either n false one other h k = k

raised : (s : Sort) (n : ℕ) (u : Option Use) → IsBelow n u → IsBelow (one_more_hypothesis s n) u
raised s n None h = tt
raised s n (Some (a_variable i t)) h = tt
raised s n (Some (a_declared m)) h = tt
raised a_hypothesis n (Some (the_hypothesis number)) h = omega (arith, h)
raised a_mono n (Some (the_hypothesis number)) h = h
raised a_term n (Some (the_hypothesis number)) h = h
raised a_heap n (Some (the_hypothesis number)) h = h
raised a_term_or_heap n (Some (the_hypothesis number)) h = h
raised the_init n (Some (the_hypothesis number)) h = h
raised the_mem n (Some (the_hypothesis number)) h = h

own : (s : Sort) (n : ℕ) (ls : List Local) → IsBelow (one_more_hypothesis s (hypotheses ls)) (Some (use_of s n ls))
own a_hypothesis n ls = omega arith
own a_mono n ls = tt
own a_term n ls = tt
own a_heap n ls = tt
own a_term_or_heap n ls = tt
own the_init n ls = tt
own the_mem n ls = tt

local_below : (name : List ℕ) (n : ℕ) (ls : List Local) → IsBelow (hypotheses ls) (local_use name n ls)
unfolding local_use hypotheses
local_below name n [] = tt
local_below name n (l ∷ ls) =
    is_below_either (one_more_hypothesis l.sort (hypotheses ls)) (is_named name l.name) (Some (use_of l.sort n ls))
    (local_use name (one_more l.sort n) ls) (own l.sort n ls)
    (raised l.sort (hypotheses ls) (local_use name (one_more l.sort n) ls) (local_below name (one_more l.sort n) ls))

meant_below : (n : ℕ) (d : Option Declared) → IsBelow n (meaning_of d)
meant_below n None = tt
meant_below n (Some d) = tt

declared_below : (n : ℕ) (name : List ℕ) (names : Names) → IsBelow n (declared_use name names)
unfolding declared_use
declared_below n name [] = tt
declared_below n name (d ∷ ds) = is_below_either n (declares name d) (meaning_of d) (declared_use name ds) (meant_below n d) (declared_below n name ds)

first_below : (n : ℕ) (one other : Option Use) → IsBelow n one → IsBelow n other → IsBelow n (first_some one other)
first_below n None other h k = k
first_below n (Some u) other h k = h

hypothesis_used : (n at : ℕ) (u : Option Use) → IsBelow n u → Gives (hypothesis_of_use at u) (λ number. number < n)
hypothesis_used n at None h = stops
hypothesis_used n at (Some (the_hypothesis number)) h = gives h
hypothesis_used n at (Some u) h = stops

hypothesis_below : (s : Scope) (span : Span) → Gives (hypothesis_named s span) (λ number. number < hypotheses s.locals)
hypothesis_below s span =
    hypothesis_used (hypotheses s.locals) span.from (use_at s span)
    (first_below (hypotheses s.locals) (local_use (bytes_of s.text span) 0 s.locals) (declared_use (bytes_of s.text span) s.names)
    (local_below (bytes_of s.text span) 0 s.locals) (declared_below (hypotheses s.locals) (bytes_of s.text span) s.names))

-- ---- arguments

arg_sorted : (s : Scope) → IsSortedScope s → (a : raw.RawArgTree) → Gives (arg_comes s a) (SortedArg (sorts_in s.locals))
arg_sorted s fits (raw.arg_heap at heap) = if_bind (heap_sorted s fits heap) (λ h hh. gives hh)
arg_sorted s fits (raw.arg_term term) = if_bind (term_sorted s fits term) (λ M hM. gives hM)

args_sorted : (s : Scope) → IsSortedScope s → (args : List raw.RawArgTree) → Gives (args_come s args) (AreSortedArgs (sorts_in s.locals))
unfolding args_come AreSortedArgs
args_sorted s fits [] = gives tt
args_sorted s fits (arg ∷ args) = if_bind (arg_sorted s fits arg) (λ a ha. if_bind (args_sorted s fits args) (λ others hothers. gives (ha, hothers)))

are_monos : (g : Sorts) (ts : List MonoTree) → AreSorted g ts → AreSortedMonos g ts
unfolding AreSorted AreSortedMonos
are_monos g [] h = tt
are_monos g (t ∷ ts) h = (h.0, are_monos g ts h.1)

motive_sorted : (s : Scope)
    → IsSortedScope s
    → (motive : raw.RawMotiveTree)
    → Gives (motive_comes s motive) (SortedFormula (a_term_or_heap ∷ sorts_in s.locals))
unfolding sorts_in
motive_sorted s fits (raw.motive_of b formula) = formula_sorted (under s b a_term_or_heap) (under_fits a_term_or_heap fits) formula

unary_sorted : {g : Sorts} {n : ℕ} (rule : UnaryRule) {p : ProofTree} → SortedProof g n p → SortedProof g n (unary_rule rule p)
unary_sorted rules.First h = sorted_first h
unary_sorted rules.Second h = sorted_second h
unary_sorted rules.Left h = sorted_left h
unary_sorted rules.Right h = sorted_right h
unary_sorted rules.Absurd h = sorted_absurd h

inst_sorted : {g : Sorts} {n : ℕ} (at : ℕ) (p : ProofTree) (args : List ArgTree)
    → SortedProof g n p
    → AreSortedArgs g args
    → SortedProof g n (inst_at at p args)
unfolding inst_at AreSortedArgs
inst_sorted at p [] h k = h
inst_sorted at p (a ∷ args) h k = inst_sorted at (p_at at (p_inst p a)) args (sorted_at (sorted_inst h k.0)) k.1

-- ---- proofs

after_fits : (s : Scope) (stmt : raw.RawStmtTree) → IsSortedScope s → IsSortedScope (after_stmt s stmt)
after_fits s (raw.b_intro at u) fits = under_fits a_hypothesis fits
after_fits s (raw.b_gen at x) fits = under_fits a_term_or_heap fits
after_fits s (raw.b_open at x u proof) fits = under_fits a_hypothesis (under_fits a_term_or_heap fits)
after_fits s (raw.b_have at u formula proof) fits = under_fits a_hypothesis fits

-- a statement of a scope, and what it adds
pub record StmtIn (s : Scope) (stmt : raw.RawStmtTree) (d : StmtTree) : Type 0 where
  pub sorted : SortedStmt (sorts_in s.locals) (hypotheses s.locals) d
  pub sorts : sorts_after d (sorts_in s.locals) ≡ sorts_in (after_stmt s stmt).locals
  pub hyps : hypotheses_after d (hypotheses s.locals) ≡ hypotheses (after_stmt s stmt).locals

then_sorted : (s : Scope) (stmt : raw.RawStmtTree) (d : StmtTree) (b : BlockTree)
    → StmtIn s stmt d
    → SortedBlock (sorts_in (after_stmt s stmt).locals) (hypotheses (after_stmt s stmt).locals) b
    → SortedBlock (sorts_in s.locals) (hypotheses s.locals) (b_then d b)
then_sorted s stmt d b h k =
    sorted_then h.sorted (subst (λ g. SortedBlock g (hypotheses_after d (hypotheses s.locals)) b) (sym h.sorts)
    (subst (λ n. SortedBlock (sorts_in (after_stmt s stmt).locals) n b) (sym h.hyps) k))

mutual
  unfolding proof_comes sorts_in hypotheses sorts_after hypotheses_after AreSortedArgs

  pub proof_sorted : (s : Scope) → IsSortedScope s → (t : raw.RawProofTree) → Gives (proof_comes s t) (SortedProof (sorts_in s.locals) (hypotheses s.locals))
  proof_sorted s fits (raw.p_end end) = end_sorted s fits end
  proof_sorted s fits (raw.p_step stmt proof) =
      if_bind (stmt_sorted s fits stmt) (λ d hd.
      if_bind (block_sorted (after_stmt s stmt) (after_fits s stmt fits) proof)
      (λ b hb. gives (sorted_block (then_sorted s stmt d b hd hb))))

  pub block_sorted : (s : Scope) → IsSortedScope s → (t : raw.RawProofTree) → Gives (block_comes s t) (SortedBlock (sorts_in s.locals) (hypotheses s.locals))
  block_sorted s fits (raw.p_end end) = if_bind (end_sorted s fits end) (λ p hp. gives (sorted_end hp))
  block_sorted s fits (raw.p_step stmt proof) =
      if_bind (stmt_sorted s fits stmt)
      (λ d hd. if_bind (block_sorted (after_stmt s stmt) (after_fits s stmt fits) proof) (λ b hb. gives (then_sorted s stmt d b hd hb)))

  pub stmt_sorted : (s : Scope) → IsSortedScope s → (t : raw.RawStmtTree) → Gives (stmt_comes s t) (StmtIn s t)
  stmt_sorted s fits (raw.b_intro at u) = gives (record { sorted = sorted_stmt_at sorted_intro; sorts = refl; hyps = refl })
  stmt_sorted s fits (raw.b_gen at x) = gives (record { sorted = sorted_stmt_at sorted_gen; sorts = refl; hyps = refl })
  stmt_sorted s fits (raw.b_open at x u proof) =
      if_bind (proof_sorted s fits proof) (λ p hp. gives (record { sorted = sorted_stmt_at (sorted_open hp); sorts = refl; hyps = refl }))
  stmt_sorted s fits (raw.b_have at u formula proof) =
      if_bind (formula_sorted s fits formula) (λ F hF.
      if_bind (proof_sorted s fits proof)
      (λ p hp. gives (record { sorted = sorted_stmt_at (sorted_have hF hp); sorts = refl; hyps = refl })))

  pub end_sorted : (s : Scope) → IsSortedScope s → (t : raw.RawEndTree) → Gives (end_comes s t) (SortedProof (sorts_in s.locals) (hypotheses s.locals))
  end_sorted s fits (raw.e_name span) = if_bind (hypothesis_below s span) (λ number h. gives (sorted_at (sorted_hyp h)))
  end_sorted s fits (raw.e_trivial at) = gives (sorted_at sorted_trivial)
  end_sorted s fits (raw.e_refl at) = gives (sorted_at sorted_refl)
  end_sorted s fits (raw.e_unary at rule proof) = if_bind (proof_sorted s fits proof) (λ p hp. gives (sorted_at (unary_sorted rule hp)))
  end_sorted s fits (raw.e_both at left right) =
      if_bind (proof_sorted s fits left) (λ p hp. if_bind (proof_sorted s fits right) (λ q hq. gives (sorted_at (sorted_both hp hq))))
  end_sorted s fits (raw.e_give at argument proof) =
      if_bind (arg_sorted s fits argument) (λ a ha. if_bind (proof_sorted s fits proof) (λ p hp. gives (sorted_at (sorted_give ha hp))))
  end_sorted s fits (raw.e_app at head first rest) =
      if_bind (proof_sorted s fits head)
      (λ p hp. if_bind (proof_sorted s fits first) (λ q hq. app_rest_sorted s fits at (app_at at p q) (sorted_at (sorted_app hp hq)) rest))
  end_sorted s fits (raw.e_inst at head first rest) =
      if_bind (proof_sorted s fits head) (λ p hp.
      if_bind (arg_sorted s fits first)
      (λ a ha. if_bind (args_sorted s fits rest) (λ others hothers. gives (inst_sorted at p (a ∷ others) hp (ha, hothers)))))
  end_sorted s fits (raw.e_case at either u left v right) =
      if_bind (proof_sorted s fits either) (λ p hp.
      if_bind (proof_sorted (under_hypothesis s u) (under_fits a_hypothesis fits) left) (λ q hq.
      if_bind (proof_sorted (under_hypothesis s v) (under_fits a_hypothesis fits) right)
      (λ r hr. gives (sorted_at (sorted_case hp hq hr)))))
  end_sorted s fits (raw.e_rewrite at equation motive proof) =
      if_bind (proof_sorted s fits equation) (λ p hp.
      if_bind (motive_sorted s fits motive)
      (λ C hC. if_bind (proof_sorted s fits proof) (λ q hq. gives (sorted_at (sorted_rewrite hp hC hq)))))
  end_sorted s fits (raw.e_induct at motive term at_zero y u v at_next) =
      if_bind (motive_sorted s fits motive) (λ C hC.
      if_bind (term_sorted s fits term) (λ M hM.
      if_bind (proof_sorted s fits at_zero) (λ p hp.
      if_bind (proof_sorted (under_hypothesis (under_hypothesis (under s y a_term_or_heap) u) v)
      (under_fits a_hypothesis (under_fits a_hypothesis (under_fits a_term_or_heap fits))) at_next)
      (λ q hq. gives (sorted_at (sorted_induct hC hM hp hq))))))
  end_sorted s fits (raw.e_split at motive term on_true on_false) =
      if_bind (motive_sorted s fits motive) (λ C hC.
      if_bind (term_sorted s fits term) (λ M hM.
      if_bind (proof_sorted s fits on_true)
      (λ p hp. if_bind (proof_sorted s fits on_false) (λ q hq. gives (sorted_at (sorted_split hC hM hp hq))))))
  end_sorted s fits (raw.e_axiom at name monos arguments) =
      if_bind (monos_sorted s fits monos)
      (λ ts hts. if_bind (args_sorted s fits arguments) (λ args hargs. gives (sorted_at (sorted_axiom (are_monos _ ts hts.0) hargs))))
  end_sorted s fits (raw.e_unfold at name number first rest) =
      if_bind (any_ok _) (λ p hp.
      if_bind (arg_sorted s fits first)
      (λ a ha. if_bind (args_sorted s fits rest) (λ others hothers. gives (sorted_at (sorted_unfold (ha, hothers))))))
  end_sorted s fits (raw.e_lem at formula) = if_bind (formula_sorted s fits formula) (λ F hF. gives (sorted_at (sorted_lem hF)))
  end_sorted s fits (raw.e_the at formula proof) =
      if_bind (formula_sorted s fits formula) (λ F hF. if_bind (proof_sorted s fits proof) (λ p hp. gives (sorted_at (sorted_the hF hp))))

  pub app_rest_sorted : (s : Scope)
      → IsSortedScope s
      → (at : ℕ) (p : ProofTree)
      → SortedProof (sorts_in s.locals) (hypotheses s.locals) p
      → (t : raw.RawProofTrees)
      → Gives (app_rest_comes s at p t) (SortedProof (sorts_in s.locals) (hypotheses s.locals))
  app_rest_sorted s fits at p hp raw.no_proofs = gives hp
  app_rest_sorted s fits at p hp (raw.more_proofs proof proofs) =
      if_bind (proof_sorted s fits proof) (λ q hq. app_rest_sorted s fits at (app_at at p q) (sorted_at (sorted_app hp hq)) proofs)
