-- The readers of formulas tell the truth.
use Rattle.std.proofs.Common.{◌≡◌, ℕ, suc, List, ◌∷◌, ◌++◌, refl, sym, ◌∙◌, ap, append_assoc, append-nil}
use Rattle.htt_lexer_tokens.specs.declared.tokens.Kind.{Kind}
use Rattle.htt_lexer_tokens.specs.declared.tokens.Kind.TheVariants.{Keyword, Sign}
use Rattle.htt_lexer_tokens.specs.declared.tokens.Keyword.TheVariants.{HeapWord, EmpWord, TtWord, FfWord, AllWord, ExWord, CapitalEmpWord, CellWord, BlockWord}
use Rattle.htt_lexer_tokens.specs.declared.tokens.Keyword.TheVariants.{JoinWord, SameWord}
use Rattle.htt_lexer_tokens.specs.declared.tokens.Sign.TheVariants.{OpenParenSign, CloseParenSign, OpenBracketSign, CloseBracketSign, CommaSign, SemicolonSign}
use Rattle.htt_lexer_tokens.specs.declared.tokens.Sign.TheVariants.{ColonSign, DotSign, EqualSign, ImpliesSign, PointsToSign, UnderscoreSign, DoubleStarSign}
use Rattle.htt_lexer_tokens.specs.declared.tokens.Sign.TheVariants.{AndSign, OrSign, AtSign, BangSign}
use Rattle.htt_parser_trees.specs.declared.place.Span.{Span}
use Rattle.htt_parser_trees.specs.declared.place.Binder.{Binder}
use Rattle.htt_parser_trees.specs.Trees.{RawTermTree, RawRelTree, RawFormulaTree, RawSortTree, RawTermTrees, f_all, f_ex, f_implies, over_mono, d_or, j_and}
use Rattle.htt_parser_trees.specs.Trees.{k_times, g_use, g_use_at, g_use_at_heap, g_eq, g_points}
use Rattle.theory_grammar.specs.Marks.{Mark, Limits, ◌⨟◌, sign, name, sign_at, word_at, each_after}
use Rattle.theory_grammar.specs.Grammar
use Rattle.theory_grammar.specs.Readers.{give, ◌>>=◌, token}
use Rattle.theory_grammar.specs.Phrases.{Deeper, terms_there, sort_reader, quantified, argument_case, use_case, fatom_case, relation_case, fatom_reader}
use Rattle.theory_grammar.specs.Phrases.{star_reader, conj_reader, disj_reader, quantifier_case, formula_reader}
use Rattle.theory_reading.proofs.Tells.{Tells, Told, alone, told_then, told_last, told_give, told_stop, Case, told_either, list_in_brackets}
use Rattle.theory_reading.proofs.Words.{Trusts, Stands, at_word, at_sign, a_sign', or_sign, or_word, skip, binder_tells, name_tells, heap_tells, mono_tells}
use Rattle.theory_reading.proofs.Words.{bracketed_tells, more_monos_tell}
use Rattle.theory_reading.proofs.Terms.{more_terms_tell, terms_tell, rel_tells}

module _ {lim : Limits} (d : Deeper) (l : ℕ) (here : Stands lim l) (trust : Trusts lim d (suc l)) where
  terms_then : {A : Type 0} {round : List Mark → List Mark} {marks : A → List Mark} (make : RawTermTrees → A)
      → ((ms : RawTermTrees) → round (Grammar.terms l ms ⨟ sign l CloseParenSign) ≡ marks (make ms))
      → Told lim round (terms_there d >>= (λ ms. token (Sign CloseParenSign) >>= (λ _. give (make ms)))) marks
  unfolding ◌⨟◌
  terms_then make same = told_then _ (terms_tell d l here trust) (λ ms. skip l here CloseParenSign _ (told_give _ (same ms)))

  argument_told : (at : ℕ) (p : Span) (m : RawTermTree) (k : Kind) (s : Span)
      → Case lim (λ ns. sign_at l BangSign at ⨟ (name l p ⨟ (sign l OpenParenSign ⨟ (Grammar.term (suc l) m ⨟ ns)))) (Grammar.fatom l) k s
      (argument_case d at p m k)
  unfolding Grammar.term ◌⨟◌
  argument_told at p m (Sign SemicolonSign) s = a_sign' l here SemicolonSign s _ (terms_then (g_use_at at p m) (λ ms. refl))
  argument_told at p m (Sign CommaSign) s =
      a_sign' l here CommaSign s _
      (told_then _ trust.term (λ n. told_then _ (more_terms_tell d l here trust) (λ ms. skip l here CloseParenSign _ (told_give _
      (ap (λ ns. sign_at l BangSign at ++ (name l p ++ (sign l OpenParenSign ++ ns)))
      (sym (append_assoc (Grammar.term (suc l) m) (sign l CommaSign ++ (Grammar.term (suc l) n ++ Grammar.terms_after l ms))
      (sign l CloseParenSign)
      ∙ ap (λ ns. Grammar.term (suc l) m ++ (sign l CommaSign ++ ns))
      (append_assoc (Grammar.term (suc l) n) (Grammar.terms_after l ms) (sign l CloseParenSign)))))))))
  argument_told at p m (Sign CloseParenSign) s =
      a_sign' l here CloseParenSign s _
      (told_give _ (ap (λ ns. sign_at l BangSign at ++ (name l p ++ (sign l OpenParenSign ++ (ns ++ sign l CloseParenSign))))
      (sym (append-nil (Grammar.term (suc l) m)))))
  argument_told at p m _ s = tt

  use_told : (at : ℕ) (p : Span) (k : Kind) (s : Span) → Case lim (λ ns. sign_at l BangSign at ⨟ (name l p ⨟ ns)) (Grammar.fatom l) k s (use_case d at p k)
  unfolding Grammar.term ◌⨟◌
  use_told at p (Sign OpenBracketSign) s =
      a_sign' l here OpenBracketSign s _
      (told_then _ (mono_tells d l here trust) (λ t.
      told_then _ (more_monos_tell d l here trust)
      (λ ts. skip l here CloseBracketSign _ (skip l here OpenParenSign _ (terms_then (g_use at p (t ∷ ts)) (λ ms.
      ap (λ ns. sign_at l BangSign at ++ (name l p ++ (sign l OpenBracketSign ++ ns)))
      (list_in_brackets (Grammar.mono l t) (each_after (sign l CommaSign) (Grammar.mono l) ts) (sign l CloseBracketSign)
      (sign l OpenParenSign ++ (Grammar.terms l ms ++ sign l CloseParenSign)))))))))
  use_told at p (Sign AtSign) s =
      a_sign' l here AtSign s _
      (told_then _ (heap_tells l here) (λ h.
      skip l here OpenParenSign _
      (told_then _ trust.term (λ m. skip l here SemicolonSign _ (terms_then (g_use_at_heap at p h m) (λ ms. refl))))))
  use_told at p (Sign OpenParenSign) s =
      a_sign' l here OpenParenSign s _
      (or_sign l here CloseParenSign _ _ (told_give _ refl) (told_then _ trust.term (λ m. told_either _ (argument_told at p m) told_stop)))
  use_told at p _ s = tt

  fatom_told : (k : Kind) (s : Span) → Case lim (λ ns. ns) (Grammar.fatom l) k s (fatom_case d k)
  unfolding Grammar.term ◌⨟◌
  fatom_told (Keyword TtWord) s = at_word l here TtWord s _ (told_give _ refl)
  fatom_told (Keyword FfWord) s = at_word l here FfWord s _ (told_give _ refl)
  fatom_told (Keyword EmpWord) s = at_word l here EmpWord s _ (told_give _ refl)
  fatom_told (Keyword CapitalEmpWord) s =
      at_word l here CapitalEmpWord s _
      (skip l here OpenParenSign _ (told_then _ (heap_tells l here) (λ h. skip l here CloseParenSign _ (told_give _ refl))))
  fatom_told (Keyword SameWord) s =
      at_word l here SameWord s _
      (skip l here OpenParenSign _
      (told_then _ (heap_tells l here)
      (λ h. skip l here CommaSign _ (told_then _ (heap_tells l here) (λ k. skip l here CloseParenSign _ (told_give _ refl))))))
  fatom_told (Keyword JoinWord) s =
      at_word l here JoinWord s _
      (skip l here OpenParenSign _
      (told_then _ (heap_tells l here) (λ h.
      skip l here CommaSign _ (told_then _ (heap_tells l here)
      (λ j. skip l here CommaSign _ (told_then _ (heap_tells l here) (λ k. skip l here CloseParenSign _ (told_give _ refl))))))))
  fatom_told (Keyword CellWord) s =
      at_word l here CellWord s _
      (told_then _ (bracketed_tells d l here trust) (λ t.
      skip l here OpenParenSign _
      (told_then _ (heap_tells l here) (λ h.
      skip l here CommaSign _ (told_then _ trust.term
      (λ m. skip l here CommaSign _ (told_then _ trust.term (λ n. skip l here CloseParenSign _ (told_give _ refl)))))))))
  fatom_told (Keyword BlockWord) s =
      at_word l here BlockWord s _
      (told_then _ (bracketed_tells d l here trust) (λ t.
      skip l here OpenParenSign _
      (told_then _ (heap_tells l here)
      (λ h. skip l here CommaSign _ (told_then _ trust.term (λ m. skip l here CloseParenSign _ (told_give _ refl)))))))
  fatom_told (Sign OpenBracketSign) s = at_sign l here OpenBracketSign s _ (told_then _ trust.formula (λ p. skip l here CloseBracketSign _ (told_give _ refl)))
  fatom_told (Sign AtSign) s =
      at_sign l here AtSign s _
      (told_then _ (heap_tells l here)
      (λ h. skip l here OpenBracketSign _ (told_then _ trust.formula (λ p. skip l here CloseBracketSign _ (told_give _ refl)))))
  fatom_told (Sign BangSign) s = at_sign l here BangSign s _ (told_then _ (name_tells l here) (λ p. told_either _ (use_told s.from p) told_stop))
  fatom_told _ s = tt

  relation_told : (m : RawRelTree) (k : Kind) (s : Span) → Case lim (λ ns. Grammar.rel l m ⨟ ns) (Grammar.fatom l) k s (relation_case d m k)
  unfolding Grammar.term ◌⨟◌
  relation_told m (Sign EqualSign) s =
      a_sign' l here EqualSign s _
      (told_then _ (bracketed_tells d l here trust) (λ t. told_last (g_eq m t) (rel_tells d l here trust) (λ n. refl)))
  relation_told m (Sign PointsToSign) s =
      a_sign' l here PointsToSign s _
      (told_then _ (bracketed_tells d l here trust)
      (λ t. or_sign l here UnderscoreSign _ _ (told_give _ refl) (told_last (g_points m t) (rel_tells d l here trust) (λ n. refl))))
  relation_told m _ s = tt

  pub fatom_tells : Tells lim (fatom_reader d) (Grammar.fatom l)
  unfolding fatom_reader
  fatom_tells = alone (told_either _ fatom_told (told_then _ (rel_tells d l here trust) (λ m. told_either _ (relation_told m) told_stop)))

  pub star_tells : Tells lim (star_reader d) (Grammar.star l)
  unfolding star_reader Grammar.term ◌⨟◌
  star_tells =
      alone (told_then _ fatom_tells (λ f.
      or_sign l here DoubleStarSign _ _ (told_last (k_times f) trust.star (λ s. refl)) (told_give _ (append-nil (Grammar.fatom l f)))))

  pub conj_tells : Tells lim (conj_reader d) (Grammar.conj l)
  unfolding conj_reader Grammar.term ◌⨟◌
  conj_tells =
      alone (told_then _ star_tells
      (λ f. or_sign l here AndSign _ _ (told_last (j_and f) trust.conj (λ s. refl)) (told_give _ (append-nil (Grammar.star l f)))))

  pub disj_tells : Tells lim (disj_reader d) (Grammar.disj l)
  unfolding disj_reader Grammar.term ◌⨟◌
  disj_tells =
      alone (told_then _ conj_tells
      (λ f. or_sign l here OrSign _ _ (told_last (d_or f) trust.disj (λ s. refl)) (told_give _ (append-nil (Grammar.conj l f)))))

  pub sort_tells : Tells lim (sort_reader d) (Grammar.sort l)
  unfolding sort_reader Grammar.term ◌⨟◌
  sort_tells = alone (or_word l here HeapWord _ _ (told_give _ refl) (told_last over_mono (mono_tells d l here trust) (λ m. refl)))

  quantified_told : (round : List Mark → List Mark) (make : Binder → RawSortTree → RawFormulaTree → RawFormulaTree)
      → ((b : Binder) (o : RawSortTree) (p : RawFormulaTree) →
      round (Grammar.binder l b ⨟ (sign l ColonSign ⨟ (Grammar.sort l o ⨟ (sign l DotSign ⨟ Grammar.formula (suc l) p))))
      ≡ Grammar.formula l (make b o p))
      → Told lim round (quantified d make) (Grammar.formula l)
  unfolding quantified
  quantified_told round make same =
      told_then _ (binder_tells l here) (λ b.
      skip l here ColonSign _ (told_then _ sort_tells (λ o. skip l here DotSign _ (told_last (make b o) trust.formula (λ p. same b o p)))))

  quantifier_told : (k : Kind) (s : Span) → Case lim (λ ns. ns) (Grammar.formula l) k s (quantifier_case d k)
  unfolding Grammar.term
  quantifier_told (Keyword AllWord) s = at_word l here AllWord s _ (quantified_told (λ ns. word_at l AllWord s.from ⨟ ns) (f_all s.from) (λ b o p. refl))
  quantifier_told (Keyword ExWord) s = at_word l here ExWord s _ (quantified_told (λ ns. word_at l ExWord s.from ⨟ ns) (f_ex s.from) (λ b o p. refl))
  quantifier_told _ s = tt

  pub formula_tells : Tells lim (formula_reader d) (Grammar.formula l)
  unfolding formula_reader Grammar.term ◌⨟◌
  formula_tells =
      alone (told_either _ quantifier_told
      (told_then _ disj_tells (λ e.
      or_sign l here ImpliesSign _ _ (told_last (f_implies e) trust.formula (λ p. refl)) (told_give _ (append-nil (Grammar.disj l e))))))
