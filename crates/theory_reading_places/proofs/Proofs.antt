-- The readers of proofs follow one another.
use Rattle.std.proofs.Common.{◌≡◌, ℕ, zero, suc, List, [], refl}
use Rattle.std.specs.Prelude.{Err}
use Rattle.htt_lexer_tokens.specs.declared.tokens.Kind.{Kind}
use Rattle.htt_lexer_tokens.specs.declared.tokens.Kind.TheVariants.{Name, Keyword, Sign}
use Rattle.htt_lexer_tokens.specs.declared.tokens.Keyword.TheVariants.{IntroWord, GenWord, HaveWord, OpenWord, BothWord, LeftWord, RightWord, GiveWord}
use Rattle.htt_lexer_tokens.specs.declared.tokens.Keyword.TheVariants.{TrivialWord, ReflWord, AbsurdWord, CaseWord, RewriteWord, InductWord, SplitWord}
use Rattle.htt_lexer_tokens.specs.declared.tokens.Keyword.TheVariants.{FirstWord, SecondWord, AppWord, InstWord, AxiomWord, LemWord, TheWord}
use Rattle.htt_lexer_tokens.specs.declared.tokens.Sign.TheVariants.{OpenParenSign, CloseParenSign, OpenBracketSign, DotSign, AtSign}
use Rattle.htt_parser_trees.specs.declared.place.Span.{Span}
use Rattle.htt_parser_trees.specs.declared.proof.UnaryRule.{UnaryRule}
use Rattle.htt_parser_trees.specs.declared.proof.UnaryRule.TheVariants as unary_rules
use Rattle.htt_parser_trees.specs.Trees.{RawArgTree, RawProofTree, RawEndTree}
use Rattle.theory_grammar.specs.Readers.{give, ◌>>=◌, token, expected, stop, either, if_first}
use Rattle.theory_grammar.specs.Phrases.{Deeper}
use Rattle.theory_grammar.specs.Reading.{arg_case, arg_reader, more_args, args_there, motive_reader, args_on, proofs_on, app_more, inst_more, unary_reader}
use Rattle.theory_grammar.specs.Reading.{axiom_case, end_case, end_reader, stmt_case, stmt_reader, proof_on, proof_reader}
use Rattle.theory_reading_places.proofs.Follows.{Greater, Follows, Both, follow_give, follow_stop, follow_refuse, follow_then, follow_either, follow_eaten}
use Rattle.theory_reading_places.proofs.Follows.{follow_that, follow_skip, follow_first, follow_measured}
use Rattle.theory_reading_places.proofs.Refuses.{refuses_then, follow_refused}
use Rattle.theory_reading_places.proofs.Words.{Follow, Chain, chain_less, chain_none, chain_more, binder_follows, name_follows, number_follows, heap_follows}
use Rattle.theory_reading_places.proofs.Words.{mono_follows, more_follow, more_monos_follow}
use Rattle.theory_reading_places.proofs.Refusing.{arg_refuses}

no_proof_more : (p : Deeper) (k : ℕ) → proof_on p k [] ≡ Err (record { why = expected; rest = [] })
unfolding proof_on if_first end_reader either ◌>>=◌ stop
no_proof_more p zero = refl
no_proof_more p (suc k) = refl

module _ {b : Greater} (d d' : Deeper) (trust : Follow b d d') where
  arg_cases : (i j : ℕ) (k : Kind) (s : Span) → Both b i j s (arg_case k) (arg_case k)
  arg_cases i j (Sign AtSign) s = follow_then heap_follows (λ z. follow_give _)
  arg_cases i j _ s = tt

  pub arg_follows : {i j : ℕ} → Follows b i j (arg_reader d) (arg_reader d')
  unfolding arg_reader
  arg_follows = follow_either _ _ (arg_cases _ _) (follow_then trust.term (λ z. follow_give _))

  pub more_args_follow : {i j : ℕ} → Follows b i j (more_args d) (more_args d')
  unfolding more_args
  more_args_follow = more_follow _ _ (λ i j. arg_follows)

  pub args_follow : {i j : ℕ} → Follows b i j (args_there d) (args_there d')
  unfolding args_there
  args_follow = follow_first _ (follow_give _) (follow_then arg_follows (λ a. follow_then more_args_follow (λ z. follow_give _)))

  pub motive_follows : {i j : ℕ} → Follows b i j (motive_reader d) (motive_reader d')
  unfolding motive_reader
  motive_follows =
      follow_then binder_follows
      (λ b. follow_skip _ (λ _. follow_skip _ (λ _. follow_then trust.formula (λ f. follow_skip _ (λ _. follow_give _)))))

  pub args_on_follow : {i j : ℕ} (k l : ℕ) → Chain b k l → Follows b i j (args_on d k) (args_on d' l)
  unfolding args_on
  args_on_follow zero zero h = follow_that _ (follow_refuse _ _) (follow_give _)
  args_on_follow zero (suc l) h = follow_that _ (follow_refused _ _ (chain_more b l h) (refuses_then _ (arg_refuses d' trust.refused.term))) (follow_give _)
  args_on_follow (suc k) zero h = absurd (chain_none b k h)
  args_on_follow (suc k) (suc l) h =
      follow_that _ (follow_then arg_follows (λ a. follow_then (args_on_follow k l (chain_less b k l h)) (λ more. follow_give _)))
      (follow_give _)

  pub proofs_on_follow : {i j : ℕ} (k l : ℕ) → Chain b k l → Follows b i j (proofs_on d k) (proofs_on d' l)
  unfolding proofs_on
  proofs_on_follow zero zero h = follow_that _ (follow_refuse _ _) (follow_give _)
  proofs_on_follow zero (suc l) h = follow_that _ (follow_refused _ _ (chain_more b l h) (refuses_then _ trust.refused.proof)) (follow_give _)
  proofs_on_follow (suc k) zero h = absurd (chain_none b k h)
  proofs_on_follow (suc k) (suc l) h =
      follow_that _ (follow_then trust.proof (λ p. follow_then (proofs_on_follow k l (chain_less b k l h)) (λ more. follow_give _)))
      (follow_give _)

  pub app_follows : {i j : ℕ} (k l : ℕ) → Chain b k l → (at : ℕ) (p : RawProofTree) → Follows b i j (app_more d at k p) (app_more d' at l p)
  unfolding app_more
  app_follows zero zero h at p = follow_refuse _ _
  app_follows zero (suc l) h at p = follow_refused _ _ (chain_more b l h) (refuses_then _ trust.refused.proof)
  app_follows (suc k) zero h at p = absurd (chain_none b k h)
  app_follows (suc k) (suc l) h at p =
      follow_then trust.proof (λ q. follow_then (proofs_on_follow k l (chain_less b k l h)) (λ qs. follow_skip _ (λ _. follow_give _)))

  pub inst_follows : {i j : ℕ} (k l : ℕ) → Chain b k l → (at : ℕ) (p : RawProofTree) → Follows b i j (inst_more d at k p) (inst_more d' at l p)
  unfolding inst_more
  inst_follows zero zero h at p = follow_refuse _ _
  inst_follows zero (suc l) h at p = follow_refused _ _ (chain_more b l h) (refuses_then _ (arg_refuses d' trust.refused.term))
  inst_follows (suc k) zero h at p = absurd (chain_none b k h)
  inst_follows (suc k) (suc l) h at p =
      follow_then arg_follows (λ a. follow_then (args_on_follow k l (chain_less b k l h)) (λ more. follow_skip _ (λ _. follow_give _)))

  pub unary_follows : {i j : ℕ} (at : ℕ) (w : UnaryRule) → Follows b i j (unary_reader d at w) (unary_reader d' at w)
  unfolding unary_reader
  unary_follows at w = follow_skip _ (λ _. follow_then trust.proof (λ p. follow_skip _ (λ _. follow_give _)))

  pub args_then_follow : {i j : ℕ} (make : List RawArgTree → RawEndTree)
      → Follows b i j (args_there d >>= (λ more. token (Sign CloseParenSign) >>= (λ _. give (make more))))
      (args_there d' >>= (λ more. token (Sign CloseParenSign) >>= (λ _. give (make more))))
  args_then_follow make = follow_then args_follow (λ more. follow_skip _ (λ _. follow_give _))

  axiom_cases : (i j at : ℕ) (x : Span) (k : Kind) (s : Span) → Both b i j s (axiom_case d at x k) (axiom_case d' at x k)
  axiom_cases i j at x (Sign DotSign) s =
      follow_then number_follows
      (λ v. follow_skip _ (λ _. follow_then arg_follows (λ a. follow_then more_args_follow (λ more. follow_skip _ (λ _. follow_give _)))))
  axiom_cases i j at x (Sign OpenBracketSign) s =
      follow_then (mono_follows d d' trust)
      (λ t. follow_then (more_monos_follow d d' trust) (λ ts. follow_skip _ (λ _. follow_skip _ (λ _. args_then_follow _))))
  axiom_cases i j at x (Sign OpenParenSign) s = args_then_follow _
  axiom_cases i j at x _ s = tt

  end_cases : (i j : ℕ) (k : Kind) (s : Span) → Both b i j s (end_case d k) (end_case d' k)
  end_cases i j Name s = follow_give _
  end_cases i j (Keyword TrivialWord) s = follow_give _
  end_cases i j (Keyword ReflWord) s = follow_give _
  end_cases i j (Keyword FirstWord) s = unary_follows s.from unary_rules.First
  end_cases i j (Keyword SecondWord) s = unary_follows s.from unary_rules.Second
  end_cases i j (Keyword LeftWord) s = unary_follows s.from unary_rules.Left
  end_cases i j (Keyword RightWord) s = unary_follows s.from unary_rules.Right
  end_cases i j (Keyword AbsurdWord) s = unary_follows s.from unary_rules.Absurd
  end_cases i j (Keyword BothWord) s =
      follow_skip _
      (λ _. follow_then trust.proof (λ p. follow_skip _ (λ _. follow_then trust.proof (λ q. follow_skip _ (λ _. follow_give _)))))
  end_cases i j (Keyword GiveWord) s =
      follow_skip _
      (λ _. follow_then arg_follows (λ a. follow_skip _ (λ _. follow_then trust.proof (λ q. follow_skip _ (λ _. follow_give _)))))
  end_cases i j (Keyword AppWord) s =
      follow_skip _ (λ _. follow_then trust.proof (λ p. follow_skip _ (λ _. app_follows d.further d'.further trust.further s.from p)))
  end_cases i j (Keyword InstWord) s =
      follow_skip _ (λ _. follow_then trust.proof (λ p. follow_skip _ (λ _. inst_follows d.further d'.further trust.further s.from p)))
  end_cases i j (Keyword CaseWord) s =
      follow_skip _ (λ _.
      follow_then trust.proof (λ p.
      follow_skip _ (λ _.
      follow_then name_follows (λ u.
      follow_skip _ (λ _.
      follow_then trust.proof (λ q.
      follow_skip _
      (λ _. follow_then name_follows (λ v. follow_skip _ (λ _. follow_then trust.proof (λ r. follow_skip _ (λ _. follow_give _)))))))))))
  end_cases i j (Keyword RewriteWord) s =
      follow_skip _ (λ _.
      follow_then trust.proof (λ p.
      follow_skip _
      (λ _. follow_then motive_follows (λ m. follow_skip _ (λ _. follow_then trust.proof (λ q. follow_skip _ (λ _. follow_give _)))))))
  end_cases i j (Keyword InductWord) s =
      follow_skip _ (λ _.
      follow_then motive_follows (λ m.
      follow_skip _ (λ _.
      follow_then trust.term (λ t.
      follow_skip _ (λ _.
      follow_then trust.proof (λ p.
      follow_skip _ (λ _.
      follow_then binder_follows (λ b.
      follow_then name_follows
      (λ u. follow_then name_follows (λ v. follow_skip _ (λ _. follow_then trust.proof (λ q. follow_skip _ (λ _. follow_give _)))))))))))))
  end_cases i j (Keyword SplitWord) s =
      follow_skip _ (λ _.
      follow_then motive_follows (λ m.
      follow_skip _ (λ _.
      follow_then trust.term (λ t.
      follow_skip _
      (λ _. follow_then trust.proof (λ p. follow_skip _ (λ _. follow_then trust.proof (λ q. follow_skip _ (λ _. follow_give _)))))))))
  end_cases i j (Keyword AxiomWord) s = follow_then name_follows (λ x. follow_either _ _ (axiom_cases _ _ s.from x) follow_stop)
  end_cases i j (Keyword LemWord) s = follow_skip _ (λ _. follow_then trust.formula (λ f. follow_skip _ (λ _. follow_give _)))
  end_cases i j (Keyword TheWord) s =
      follow_skip _ (λ _.
      follow_then trust.formula
      (λ f. follow_skip _ (λ _. follow_skip _ (λ _. follow_then trust.proof (λ p. follow_skip _ (λ _. follow_give _))))))
  end_cases i j _ s = tt

  stmt_cases : (i j : ℕ) (k : Kind) (s : Span) → Both b i j s (stmt_case d k) (stmt_case d' k)
  stmt_cases i j (Keyword IntroWord) s = follow_then name_follows (λ u. follow_skip _ (λ _. follow_give _))
  stmt_cases i j (Keyword GenWord) s = follow_then binder_follows (λ b. follow_skip _ (λ _. follow_give _))
  stmt_cases i j (Keyword OpenWord) s =
      follow_then binder_follows
      (λ b. follow_then name_follows (λ u. follow_skip _ (λ _. follow_then trust.proof (λ p. follow_skip _ (λ _. follow_give _)))))
  stmt_cases i j (Keyword HaveWord) s =
      follow_then name_follows (λ u.
      follow_skip _ (λ _.
      follow_skip _ (λ _.
      follow_then trust.formula
      (λ f. follow_skip _ (λ _. follow_skip _ (λ _. follow_then trust.proof (λ p. follow_skip _ (λ _. follow_give _))))))))
  stmt_cases i j _ s = tt

  pub end_follows : {i j : ℕ} → Follows b i j (end_reader d) (end_reader d')
  unfolding end_reader
  end_follows = follow_either _ _ (end_cases _ _) follow_stop

  pub stmt_follows : {i j : ℕ} → Follows b i j (stmt_reader d) (stmt_reader d')
  unfolding stmt_reader
  stmt_follows = follow_either _ _ (stmt_cases _ _) follow_stop

  proof_turn : (k j : ℕ)
      → ((i : Unit {0}) → Follows b k j (proof_on d k) (proof_on d' j))
      → (i : Unit {0})
      → Follows b (suc k) (suc j) (proof_on d (suc k)) (proof_on d' (suc j))
  unfolding proof_on stmt_reader
  proof_turn k j next i =
      follow_first _ (follow_eaten _ _ (stmt_cases _ _) (λ s. follow_then (next tt) (λ p. follow_give _)))
      (follow_then end_follows (λ e. follow_give _))

  pub proof_follows : {i j : ℕ} → Follows b i j (proof_reader d) (proof_reader d')
  unfolding proof_reader
  proof_follows =
      follow_measured (λ (i : Unit {0}) k. proof_on d k) (λ i k. proof_on d' k) (Err (record { why = expected; rest = [] })) refl refl
      (λ i k. no_proof_more d k) (λ i k. no_proof_more d' k) proof_turn tt
