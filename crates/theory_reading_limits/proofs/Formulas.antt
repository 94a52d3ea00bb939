-- Stops at a limit in formulas.
use Rattle.htt_lexer_tokens.specs.declared.tokens.Kind.{Kind}
use Rattle.htt_lexer_tokens.specs.declared.tokens.Kind.TheVariants.{Keyword, Sign}
use Rattle.htt_lexer_tokens.specs.declared.tokens.Keyword.TheVariants.{HeapWord, EmpWord, TtWord, FfWord, AllWord, ExWord, CapitalEmpWord, CellWord, BlockWord}
use Rattle.htt_lexer_tokens.specs.declared.tokens.Keyword.TheVariants.{JoinWord, SameWord}
use Rattle.htt_lexer_tokens.specs.declared.tokens.Sign.TheVariants.{OpenParenSign, CloseParenSign, OpenBracketSign, CloseBracketSign, CommaSign, SemicolonSign}
use Rattle.htt_lexer_tokens.specs.declared.tokens.Sign.TheVariants.{ColonSign, DotSign, EqualSign, ImpliesSign, PointsToSign, UnderscoreSign, DoubleStarSign}
use Rattle.htt_lexer_tokens.specs.declared.tokens.Sign.TheVariants.{AndSign, OrSign, AtSign, BangSign}
use Rattle.htt_parser_trees.specs.declared.place.Span.{Span}
use Rattle.htt_parser_trees.specs.declared.place.Binder.{Binder}
use Rattle.htt_parser_trees.specs.Trees.{RawTermTree, RawRelTree, RawFormulaTree, RawSortTree, RawTermTrees, f_all, f_ex, f_implies, over_mono, d_or, j_and}
use Rattle.htt_parser_trees.specs.Trees.{k_times, g_use, g_use_at, g_use_at_heap, g_eq, g_points}
use Rattle.theory_grammar.specs.Marks.{Mark, Limits, ◌⨟◌, sign, name, sign_at, word_at, each_after}
use Rattle.theory_grammar.specs.Grammar
use Rattle.theory_grammar.specs.Readers.{give, ◌>>=◌, token}
use Rattle.theory_grammar.specs.Phrases.{Deeper, terms_there, sort_reader, quantified, argument_case, use_case, fatom_case, relation_case, fatom_reader}
use Rattle.theory_grammar.specs.Phrases.{star_reader, conj_reader, disj_reader, quantifier_case, formula_reader}
use Rattle.std.proofs.Common.{◌≡◌, ℕ, suc, List, ◌∷◌, ◌++◌, refl, sym, ◌∙◌, ap, append_assoc, append-nil}
use Rattle.theory_reading.proofs.Tells.{list_in_brackets}
use Rattle.theory_reading.proofs.Words.{Stands}
use Rattle.theory_reading_limits.proofs.Bars.{Bars, Barred, Case, same_ok, bars_then, bars_last, bars_give, bars_stop, bars_either}
use Rattle.theory_reading_limits.proofs.Words.{Bar, at_word, at_sign, a_sign', or_sign, or_word, skip, binder_barred, name_barred, heap_barred, mono_barred}
use Rattle.theory_reading_limits.proofs.Words.{bracketed_barred, more_monos_barred}
use Rattle.theory_reading.proofs.Formulas as told_here
use Rattle.theory_reading_places.proofs.Formulas as places
use Rattle.theory_reading_limits.proofs.Terms.{more_terms_barred, terms_barred, rel_barred}

module _ {lim : Limits} (d d' : Deeper) (l : ℕ) (here : Stands lim l) (trust : Bar lim d d' (suc l)) where
  terms_then : {A : Type 0} {round : List Mark → List Mark} {marks : A → List Mark} (make : RawTermTrees → A)
      → ((ms : RawTermTrees) → round (Grammar.terms l ms ⨟ sign l CloseParenSign) ≡ marks (make ms))
      → Bars lim round (terms_there d >>= (λ ms. token (Sign CloseParenSign) >>= (λ _. give (make ms))))
      (terms_there d' >>= (λ ms. token (Sign CloseParenSign) >>= (λ _. give (make ms)))) marks
  unfolding ◌⨟◌
  terms_then make same = bars_then (terms_barred d d' l here trust) (λ ms. skip l here CloseParenSign (λ _. bars_give _ (same ms)))

  argument_bars : (at : ℕ) (p : Span) (m : RawTermTree) (k : Kind) (s : Span)
      → Case lim (λ ns. sign_at l BangSign at ⨟ (name l p ⨟ (sign l OpenParenSign ⨟ (Grammar.term (suc l) m ⨟ ns)))) (Grammar.fatom l) k s
      (argument_case d at p m k) (argument_case d' at p m k)
  unfolding Grammar.term ◌⨟◌
  argument_bars at p m (Sign SemicolonSign) s = a_sign' l here SemicolonSign s (terms_then (g_use_at at p m) (λ ms. refl))
  argument_bars at p m (Sign CommaSign) s =
      a_sign' l here CommaSign s
      (bars_then trust.term (λ n.
      bars_then (more_terms_barred d d' l here trust) (λ ms.
      skip l here CloseParenSign (λ _.
      bars_give _ (ap (λ ns. sign_at l BangSign at ++ (name l p ++ (sign l OpenParenSign ++ ns)))
      (sym (append_assoc (Grammar.term (suc l) m) (sign l CommaSign ++ (Grammar.term (suc l) n ++ Grammar.terms_after l ms))
      (sign l CloseParenSign)
      ∙ ap (λ ns. Grammar.term (suc l) m ++ (sign l CommaSign ++ ns))
      (append_assoc (Grammar.term (suc l) n) (Grammar.terms_after l ms) (sign l CloseParenSign)))))))))
  argument_bars at p m (Sign CloseParenSign) s =
      a_sign' l here CloseParenSign s
      (bars_give _ (ap (λ ns. sign_at l BangSign at ++ (name l p ++ (sign l OpenParenSign ++ (ns ++ sign l CloseParenSign))))
      (sym (append-nil (Grammar.term (suc l) m)))))
  argument_bars at p m _ s = tt

  use_bars : (at : ℕ) (p : Span) (k : Kind) (s : Span)
      → Case lim (λ ns. sign_at l BangSign at ⨟ (name l p ⨟ ns)) (Grammar.fatom l) k s (use_case d at p k) (use_case d' at p k)
  unfolding Grammar.term ◌⨟◌
  use_bars at p (Sign OpenBracketSign) s =
      a_sign' l here OpenBracketSign s
      (bars_then (mono_barred d d' l here trust) (λ t.
      bars_then (more_monos_barred d d' l here trust) (λ ts.
      skip l here CloseBracketSign (λ _.
      skip l here OpenParenSign (λ _.
      terms_then (g_use at p (t ∷ ts)) (λ ms.
      ap (λ ns. sign_at l BangSign at ++ (name l p ++ (sign l OpenBracketSign ++ ns)))
      (list_in_brackets (Grammar.mono l t) (each_after (sign l CommaSign) (Grammar.mono l) ts) (sign l CloseBracketSign)
      (sign l OpenParenSign ++ (Grammar.terms l ms ++ sign l CloseParenSign)))))))))
  use_bars at p (Sign AtSign) s =
      a_sign' l here AtSign s (bars_then (heap_barred l here) (λ h.
      skip l here OpenParenSign
      (λ _. bars_then trust.term (λ m. skip l here SemicolonSign (λ _. terms_then (g_use_at_heap at p h m) (λ ms. refl))))))
  use_bars at p (Sign OpenParenSign) s =
      a_sign' l here OpenParenSign s
      (or_sign l here CloseParenSign (bars_give _ refl) (bars_then trust.term (λ m. bars_either _ _ (argument_bars at p m) bars_stop)))
  use_bars at p _ s = tt

  fatom_bars : (k : Kind) (s : Span) → Case lim (λ ns. ns) (Grammar.fatom l) k s (fatom_case d k) (fatom_case d' k)
  unfolding Grammar.term ◌⨟◌
  fatom_bars (Keyword TtWord) s = at_word l here TtWord s (bars_give _ refl)
  fatom_bars (Keyword FfWord) s = at_word l here FfWord s (bars_give _ refl)
  fatom_bars (Keyword EmpWord) s = at_word l here EmpWord s (bars_give _ refl)
  fatom_bars (Keyword CapitalEmpWord) s =
      at_word l here CapitalEmpWord s
      (skip l here OpenParenSign (λ _. bars_then (heap_barred l here) (λ h. skip l here CloseParenSign (λ _. bars_give _ refl))))
  fatom_bars (Keyword SameWord) s =
      at_word l here SameWord s
      (skip l here OpenParenSign (λ _.
      bars_then (heap_barred l here)
      (λ h. skip l here CommaSign (λ _. bars_then (heap_barred l here) (λ k. skip l here CloseParenSign (λ _. bars_give _ refl))))))
  fatom_bars (Keyword JoinWord) s =
      at_word l here JoinWord s
      (skip l here OpenParenSign (λ _.
      bars_then (heap_barred l here) (λ h.
      skip l here CommaSign (λ _.
      bars_then (heap_barred l here)
      (λ j. skip l here CommaSign (λ _. bars_then (heap_barred l here) (λ k. skip l here CloseParenSign (λ _. bars_give _ refl))))))))
  fatom_bars (Keyword CellWord) s =
      at_word l here CellWord s
      (bars_then (bracketed_barred d d' l here trust) (λ t.
      skip l here OpenParenSign (λ _.
      bars_then (heap_barred l here) (λ h.
      skip l here CommaSign (λ _.
      bars_then trust.term
      (λ m. skip l here CommaSign (λ _. bars_then trust.term (λ n. skip l here CloseParenSign (λ _. bars_give _ refl)))))))))
  fatom_bars (Keyword BlockWord) s =
      at_word l here BlockWord s
      (bars_then (bracketed_barred d d' l here trust) (λ t.
      skip l here OpenParenSign (λ _.
      bars_then (heap_barred l here)
      (λ h. skip l here CommaSign (λ _. bars_then trust.term (λ m. skip l here CloseParenSign (λ _. bars_give _ refl)))))))
  fatom_bars (Sign OpenBracketSign) s = at_sign l here OpenBracketSign s (bars_then trust.formula (λ p. skip l here CloseBracketSign (λ _. bars_give _ refl)))
  fatom_bars (Sign AtSign) s =
      at_sign l here AtSign s (bars_then (heap_barred l here)
      (λ h. skip l here OpenBracketSign (λ _. bars_then trust.formula (λ p. skip l here CloseBracketSign (λ _. bars_give _ refl)))))
  fatom_bars (Sign BangSign) s = at_sign l here BangSign s (bars_then (name_barred l here) (λ p. bars_either _ _ (use_bars s.from p) bars_stop))
  fatom_bars _ s = tt

  relation_bars : (m : RawRelTree) (k : Kind) (s : Span)
      → Case lim (λ ns. Grammar.rel l m ⨟ ns) (Grammar.fatom l) k s (relation_case d m k) (relation_case d' m k)
  unfolding Grammar.term ◌⨟◌
  relation_bars m (Sign EqualSign) s =
      a_sign' l here EqualSign s
      (bars_then (bracketed_barred d d' l here trust) (λ t. bars_last (g_eq m t) (rel_barred d d' l here trust).bars (λ n. refl)))
  relation_bars m (Sign PointsToSign) s =
      a_sign' l here PointsToSign s
      (bars_then (bracketed_barred d d' l here trust)
      (λ t. or_sign l here UnderscoreSign (bars_give _ refl) (bars_last (g_points m t) (rel_barred d d' l here trust).bars (λ n. refl))))
  relation_bars m _ s = tt

  fatom_barred : Barred lim (fatom_reader d) (fatom_reader d') (Grammar.fatom l)
  unfolding fatom_reader
  fatom_barred = record {
    tells = told_here.fatom_tells d l here trust.trust;
    same = same_ok (λ n m. places.fatom_follows d d' trust.follow);
    bars = bars_either _ _ fatom_bars (bars_then (rel_barred d d' l here trust) (λ m. bars_either _ _ (relation_bars m) bars_stop));
  }

  pub star_barred : Barred lim (star_reader d) (star_reader d') (Grammar.star l)
  unfolding star_reader Grammar.term ◌⨟◌
  star_barred = record {
    tells = told_here.star_tells d l here trust.trust;
    same = same_ok (λ n m. places.star_follows d d' trust.follow);
    bars =
        bars_then fatom_barred (λ f.
        or_sign l here DoubleStarSign (bars_last (k_times f) trust.star.bars (λ s. refl)) (bars_give _ (append-nil (Grammar.fatom l f))));
  }

  pub conj_barred : Barred lim (conj_reader d) (conj_reader d') (Grammar.conj l)
  unfolding conj_reader Grammar.term ◌⨟◌
  conj_barred = record {
    tells = told_here.conj_tells d l here trust.trust;
    same = same_ok (λ n m. places.conj_follows d d' trust.follow);
    bars =
        bars_then star_barred
        (λ f. or_sign l here AndSign (bars_last (j_and f) trust.conj.bars (λ s. refl)) (bars_give _ (append-nil (Grammar.star l f))));
  }

  pub disj_barred : Barred lim (disj_reader d) (disj_reader d') (Grammar.disj l)
  unfolding disj_reader Grammar.term ◌⨟◌
  disj_barred = record {
    tells = told_here.disj_tells d l here trust.trust;
    same = same_ok (λ n m. places.disj_follows d d' trust.follow);
    bars =
        bars_then conj_barred
        (λ f. or_sign l here OrSign (bars_last (d_or f) trust.disj.bars (λ s. refl)) (bars_give _ (append-nil (Grammar.conj l f))));
  }

  sort_barred : Barred lim (sort_reader d) (sort_reader d') (Grammar.sort l)
  unfolding sort_reader Grammar.term ◌⨟◌
  sort_barred = record {
    tells = told_here.sort_tells d l here trust.trust;
    same = same_ok (λ n m. places.sort_follows d d' trust.follow);
    bars = or_word l here HeapWord (bars_give _ refl) (bars_last over_mono (mono_barred d d' l here trust).bars (λ m. refl));
  }

  quantified_bars : (round : List Mark → List Mark) (make : Binder → RawSortTree → RawFormulaTree → RawFormulaTree)
      → ((b : Binder) (o : RawSortTree) (p : RawFormulaTree) →
      round (Grammar.binder l b ⨟ (sign l ColonSign ⨟ (Grammar.sort l o ⨟ (sign l DotSign ⨟ Grammar.formula (suc l) p))))
      ≡ Grammar.formula l (make b o p))
      → Bars lim round (quantified d make) (quantified d' make) (Grammar.formula l)
  unfolding quantified
  quantified_bars round make same =
      bars_then (binder_barred l here) (λ b.
      skip l here ColonSign
      (λ _. bars_then sort_barred (λ o. skip l here DotSign (λ _. bars_last (make b o) trust.formula.bars (λ p. same b o p)))))

  quantifier_bars : (k : Kind) (s : Span) → Case lim (λ ns. ns) (Grammar.formula l) k s (quantifier_case d k) (quantifier_case d' k)
  unfolding Grammar.term
  quantifier_bars (Keyword AllWord) s = at_word l here AllWord s (quantified_bars (λ ns. word_at l AllWord s.from ⨟ ns) (f_all s.from) (λ b o p. refl))
  quantifier_bars (Keyword ExWord) s = at_word l here ExWord s (quantified_bars (λ ns. word_at l ExWord s.from ⨟ ns) (f_ex s.from) (λ b o p. refl))
  quantifier_bars _ s = tt

  pub formula_barred : Barred lim (formula_reader d) (formula_reader d') (Grammar.formula l)
  unfolding formula_reader Grammar.term ◌⨟◌
  formula_barred = record {
    tells = told_here.formula_tells d l here trust.trust;
    same = same_ok (λ n m. places.formula_follows d d' trust.follow);
    bars =
        bars_either _ _ quantifier_bars
        (bars_then disj_barred (λ e.
        or_sign l here ImpliesSign (bars_last (f_implies e) trust.formula.bars (λ p. refl)) (bars_give _ (append-nil (Grammar.disj l e)))));
  }
