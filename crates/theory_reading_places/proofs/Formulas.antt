-- The readers of formulas follow one another.
use Rattle.std.proofs.Common.{ℕ}
use Rattle.htt_lexer_tokens.specs.declared.tokens.Kind.{Kind}
use Rattle.htt_lexer_tokens.specs.declared.tokens.Kind.TheVariants.{Keyword, Sign}
use Rattle.htt_lexer_tokens.specs.declared.tokens.Keyword.TheVariants.{EmpWord, TtWord, FfWord, AllWord, ExWord, CapitalEmpWord, CellWord, BlockWord, JoinWord}
use Rattle.htt_lexer_tokens.specs.declared.tokens.Keyword.TheVariants.{SameWord}
use Rattle.htt_lexer_tokens.specs.declared.tokens.Sign.TheVariants.{OpenParenSign, CloseParenSign, OpenBracketSign, CommaSign, SemicolonSign, EqualSign}
use Rattle.htt_lexer_tokens.specs.declared.tokens.Sign.TheVariants.{PointsToSign, AtSign, BangSign}
use Rattle.htt_parser_trees.specs.declared.place.Span.{Span}
use Rattle.htt_parser_trees.specs.declared.place.Binder.{Binder}
use Rattle.htt_parser_trees.specs.Trees.{RawTermTree, RawRelTree, RawFormulaTree, RawSortTree, RawTermTrees}
use Rattle.theory_grammar.specs.Readers.{give, ◌>>=◌, token}
use Rattle.theory_grammar.specs.Phrases.{Deeper, terms_there, sort_reader, quantified, argument_case, use_case, fatom_case, relation_case, fatom_reader}
use Rattle.theory_grammar.specs.Phrases.{star_reader, conj_reader, disj_reader, quantifier_case, formula_reader}
use Rattle.theory_reading_places.proofs.Follows.{Greater, Follows, Both, follow_give, follow_stop, follow_then, follow_either, follow_that, follow_skip}
use Rattle.theory_reading_places.proofs.Words.{Follow, binder_follows, name_follows, heap_follows, mono_follows, bracketed_follows, more_monos_follow}
use Rattle.theory_reading_places.proofs.Terms.{more_terms_follow, terms_follow, rel_follows}

module _ {b : Greater} (d d' : Deeper) (trust : Follow b d d') where
  pub terms_then_follow : {A : Type 0} (i j : ℕ) (make : RawTermTrees → A)
      → Follows b i j (terms_there d >>= (λ ms. token (Sign CloseParenSign) >>= (λ _. give (make ms))))
      (terms_there d' >>= (λ ms. token (Sign CloseParenSign) >>= (λ _. give (make ms))))
  terms_then_follow i j make = follow_then (terms_follow d d' trust) (λ ms. follow_skip _ (λ _. follow_give _))

  argument_cases : (i j at : ℕ) (p : Span) (m : RawTermTree) (k : Kind) (s : Span) → Both b i j s (argument_case d at p m k) (argument_case d' at p m k)
  argument_cases i j at p m (Sign SemicolonSign) s = terms_then_follow _ _ _
  argument_cases i j at p m (Sign CommaSign) s =
      follow_then trust.term (λ n. follow_then (more_terms_follow d d' trust) (λ ms. follow_skip _ (λ _. follow_give _)))
  argument_cases i j at p m (Sign CloseParenSign) s = follow_give _
  argument_cases i j at p m _ s = tt

  use_cases : (i j at : ℕ) (p : Span) (k : Kind) (s : Span) → Both b i j s (use_case d at p k) (use_case d' at p k)
  use_cases i j at p (Sign OpenBracketSign) s =
      follow_then (mono_follows d d' trust)
      (λ t. follow_then (more_monos_follow d d' trust) (λ ts. follow_skip _ (λ _. follow_skip _ (λ _. terms_then_follow _ _ _))))
  use_cases i j at p (Sign AtSign) s =
      follow_then heap_follows (λ h. follow_skip _ (λ _. follow_then trust.term (λ m. follow_skip _ (λ _. terms_then_follow _ _ _))))
  use_cases i j at p (Sign OpenParenSign) s =
      follow_that _ (follow_give _) (follow_then trust.term (λ m. follow_either _ _ (argument_cases _ _ at p m) follow_stop))
  use_cases i j at p _ s = tt

  fatom_cases : (i j : ℕ) (k : Kind) (s : Span) → Both b i j s (fatom_case d k) (fatom_case d' k)
  fatom_cases i j (Keyword TtWord) s = follow_give _
  fatom_cases i j (Keyword FfWord) s = follow_give _
  fatom_cases i j (Keyword EmpWord) s = follow_give _
  fatom_cases i j (Keyword CapitalEmpWord) s = follow_skip _ (λ _. follow_then heap_follows (λ h. follow_skip _ (λ _. follow_give _)))
  fatom_cases i j (Keyword SameWord) s =
      follow_skip _
      (λ _. follow_then heap_follows (λ h. follow_skip _ (λ _. follow_then heap_follows (λ k. follow_skip _ (λ _. follow_give _)))))
  fatom_cases i j (Keyword JoinWord) s =
      follow_skip _ (λ _.
      follow_then heap_follows (λ h.
      follow_skip _
      (λ _. follow_then heap_follows (λ j. follow_skip _ (λ _. follow_then heap_follows (λ k. follow_skip _ (λ _. follow_give _)))))))
  fatom_cases i j (Keyword CellWord) s =
      follow_then (bracketed_follows d d' trust) (λ t.
      follow_skip _ (λ _.
      follow_then heap_follows (λ h.
      follow_skip _
      (λ _. follow_then trust.term (λ m. follow_skip _ (λ _. follow_then trust.term (λ n. follow_skip _ (λ _. follow_give _))))))))
  fatom_cases i j (Keyword BlockWord) s =
      follow_then (bracketed_follows d d' trust) (λ t.
      follow_skip _
      (λ _. follow_then heap_follows (λ h. follow_skip _ (λ _. follow_then trust.term (λ m. follow_skip _ (λ _. follow_give _))))))
  fatom_cases i j (Sign OpenBracketSign) s = follow_then trust.formula (λ p. follow_skip _ (λ _. follow_give _))
  fatom_cases i j (Sign AtSign) s = follow_then heap_follows (λ h. follow_skip _ (λ _. follow_then trust.formula (λ p. follow_skip _ (λ _. follow_give _))))
  fatom_cases i j (Sign BangSign) s = follow_then name_follows (λ p. follow_either _ _ (use_cases _ _ s.from p) follow_stop)
  fatom_cases i j _ s = tt

  relation_cases : (i j : ℕ) (m : RawRelTree) (k : Kind) (s : Span) → Both b i j s (relation_case d m k) (relation_case d' m k)
  relation_cases i j m (Sign EqualSign) s = follow_then (bracketed_follows d d' trust) (λ t. follow_then (rel_follows d d' trust) (λ z. follow_give _))
  relation_cases i j m (Sign PointsToSign) s =
      follow_then (bracketed_follows d d' trust)
      (λ t. follow_that _ (follow_give _) (follow_then (rel_follows d d' trust) (λ z. follow_give _)))
  relation_cases i j m _ s = tt

  pub fatom_follows : {i j : ℕ} → Follows b i j (fatom_reader d) (fatom_reader d')
  unfolding fatom_reader
  fatom_follows = follow_either _ _ (fatom_cases _ _) (follow_then (rel_follows d d' trust) (λ m. follow_either _ _ (relation_cases _ _ m) follow_stop))

  pub star_follows : {i j : ℕ} → Follows b i j (star_reader d) (star_reader d')
  unfolding star_reader
  star_follows = follow_then fatom_follows (λ f. follow_that _ (follow_then trust.star (λ z. follow_give _)) (follow_give _))

  pub conj_follows : {i j : ℕ} → Follows b i j (conj_reader d) (conj_reader d')
  unfolding conj_reader
  conj_follows = follow_then star_follows (λ f. follow_that _ (follow_then trust.conj (λ z. follow_give _)) (follow_give _))

  pub disj_follows : {i j : ℕ} → Follows b i j (disj_reader d) (disj_reader d')
  unfolding disj_reader
  disj_follows = follow_then conj_follows (λ f. follow_that _ (follow_then trust.disj (λ z. follow_give _)) (follow_give _))

  pub sort_follows : {i j : ℕ} → Follows b i j (sort_reader d) (sort_reader d')
  unfolding sort_reader
  sort_follows = follow_that _ (follow_give _) (follow_then (mono_follows d d' trust) (λ z. follow_give _))

  pub quantified_follows : {i j : ℕ} (make : Binder → RawSortTree → RawFormulaTree → RawFormulaTree) → Follows b i j (quantified d make) (quantified d' make)
  unfolding quantified
  quantified_follows make =
      follow_then binder_follows
      (λ x. follow_skip _ (λ _. follow_then sort_follows (λ o. follow_skip _ (λ _. follow_then trust.formula (λ p. follow_give _)))))

  quantifier_cases : (i j : ℕ) (k : Kind) (s : Span) → Both b i j s (quantifier_case d k) (quantifier_case d' k)
  quantifier_cases i j (Keyword AllWord) s = quantified_follows _
  quantifier_cases i j (Keyword ExWord) s = quantified_follows _
  quantifier_cases i j _ s = tt

  pub formula_follows : {i j : ℕ} → Follows b i j (formula_reader d) (formula_reader d')
  unfolding formula_reader
  formula_follows =
      follow_either _ _ (quantifier_cases _ _)
      (follow_then disj_follows (λ e. follow_that _ (follow_then trust.formula (λ z. follow_give _)) (follow_give _)))
