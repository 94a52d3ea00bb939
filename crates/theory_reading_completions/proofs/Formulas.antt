-- The readers of formulas stop behind what begins some tree.
use Rattle.std.proofs.Common.{◌≡◌, ℕ, suc, List, ◌∷◌, ◌++◌, refl, sym, ◌∙◌, ap, append_assoc, append-nil}
use Rattle.htt_lexer_tokens.specs.declared.tokens.Kind.{Kind}
use Rattle.htt_lexer_tokens.specs.declared.tokens.Kind.TheVariants.{Keyword, Sign}
use Rattle.htt_lexer_tokens.specs.declared.tokens.Keyword.TheVariants.{HeapWord, EmpWord, TtWord, FfWord, AllWord, ExWord, CapitalEmpWord, CellWord, BlockWord}
use Rattle.htt_lexer_tokens.specs.declared.tokens.Keyword.TheVariants.{JoinWord, SameWord}
use Rattle.htt_lexer_tokens.specs.declared.tokens.Sign.TheVariants.{OpenParenSign, CloseParenSign, OpenBracketSign, CloseBracketSign, CommaSign, SemicolonSign}
use Rattle.htt_lexer_tokens.specs.declared.tokens.Sign.TheVariants.{ColonSign, DotSign, EqualSign, ImpliesSign, PointsToSign, UnderscoreSign, DoubleStarSign}
use Rattle.htt_lexer_tokens.specs.declared.tokens.Sign.TheVariants.{AndSign, OrSign, AtSign, BangSign}
use Rattle.htt_parser_trees.specs.declared.place.Span.{Span}
use Rattle.htt_parser_trees.specs.declared.place.Binder.{Binder}
use Rattle.htt_parser_trees.specs.Trees.{RawTermTree, RawRelTree, RawFormulaTree, RawSortTree, RawTermTrees, f_all, f_ex, f_implies, over_mono, d_or, j_and}
use Rattle.htt_parser_trees.specs.Trees.{k_times, g_use, g_use_at, g_use_at_heap, g_eq, g_points}
use Rattle.theory_grammar.specs.Marks.{Mark, Limits, ◌⨟◌, sign, name, sign_at, word_at, each_after}
use Rattle.theory_grammar.specs.Grammar
use Rattle.theory_grammar.specs.Readers.{give, ◌>>=◌, token}
use Rattle.theory_grammar.specs.Phrases.{Deeper, terms_there, sort_reader, quantified, argument_case, use_case, fatom_case, relation_case, fatom_reader}
use Rattle.theory_grammar.specs.Phrases.{star_reader, conj_reader, disj_reader, quantifier_case, formula_reader}
use Rattle.theory_reading.proofs.Words.{Stands}
use Rattle.theory_reading.proofs.Tells.{list_in_brackets}
use Rattle.theory_reading_completions.proofs.Halts.{Halts, Ends, Case, halts_then, halts_last, halts_give, halts_either, halts_choice}
use Rattle.theory_reading_completions.proofs.Words.{Ending, at_word, at_sign, a_sign', or_sign, or_word, skip, binder_ends, name_ends, heap_ends, mono_ends}
use Rattle.theory_reading_completions.proofs.Words.{bracketed_ends, more_monos_end}
use Rattle.theory_reading.proofs.Formulas as formulas
use Rattle.theory_reading_completions.proofs.Starts.{the_span}
use Rattle.theory_reading_completions.proofs.Terms.{more_terms_end, terms_end, rel_ends}

module _ {lim : Limits} (d : Deeper) (l : ℕ) (here : Stands lim l) (trust : Ending lim d (suc l)) where
  terms_then : {A : Type 0} {round : List Mark → List Mark} {marks : A → List Mark} (make : RawTermTrees → A)
      → ((ms : RawTermTrees) → round (Grammar.terms l ms ⨟ sign l CloseParenSign) ≡ marks (make ms))
      → Halts lim round (terms_there d >>= (λ ms. token (Sign CloseParenSign) >>= (λ _. give (make ms)))) marks
  unfolding ◌⨟◌
  terms_then make same = halts_then _ (terms_end d l here trust) (λ ms. skip l here CloseParenSign _ (halts_give _ (same ms)))

  argument_halts : (at : ℕ) (p : Span) (m : RawTermTree) (k : Kind) (s : Span)
      → Case lim (λ ns. sign_at l BangSign at ⨟ (name l p ⨟ (sign l OpenParenSign ⨟ (Grammar.term (suc l) m ⨟ ns)))) (Grammar.fatom l) k s
      (argument_case d at p m k)
  unfolding Grammar.term ◌⨟◌
  argument_halts at p m (Sign SemicolonSign) s = a_sign' l here SemicolonSign s _ (terms_then (g_use_at at p m) (λ ms. refl))
  argument_halts at p m (Sign CommaSign) s =
      a_sign' l here CommaSign s _
      (halts_then _ trust.term (λ n.
      halts_then _ (more_terms_end d l here trust) (λ ms.
      skip l here CloseParenSign _
      (halts_give _ (ap (λ ns. sign_at l BangSign at ++ (name l p ++ (sign l OpenParenSign ++ ns)))
      (sym (append_assoc (Grammar.term (suc l) m) (sign l CommaSign ++ (Grammar.term (suc l) n ++ Grammar.terms_after l ms))
      (sign l CloseParenSign)
      ∙ ap (λ ns. Grammar.term (suc l) m ++ (sign l CommaSign ++ ns))
      (append_assoc (Grammar.term (suc l) n) (Grammar.terms_after l ms) (sign l CloseParenSign)))))))))
  argument_halts at p m (Sign CloseParenSign) s =
      a_sign' l here CloseParenSign s _
      (halts_give _ (ap (λ ns. sign_at l BangSign at ++ (name l p ++ (sign l OpenParenSign ++ (ns ++ sign l CloseParenSign))))
      (sym (append-nil (Grammar.term (suc l) m)))))
  argument_halts at p m _ s = tt

  use_halts : (at : ℕ) (p : Span) (k : Kind) (s : Span) → Case lim (λ ns. sign_at l BangSign at ⨟ (name l p ⨟ ns)) (Grammar.fatom l) k s (use_case d at p k)
  unfolding Grammar.term ◌⨟◌
  use_halts at p (Sign OpenBracketSign) s =
      a_sign' l here OpenBracketSign s _
      (halts_then _ (mono_ends d l here trust) (λ t.
      halts_then _ (more_monos_end d l here trust) (λ ts.
      skip l here CloseBracketSign _
      (skip l here OpenParenSign _
      (terms_then (g_use at p (t ∷ ts)) (λ ms.
      ap (λ ns. sign_at l BangSign at ++ (name l p ++ (sign l OpenBracketSign ++ ns)))
      (list_in_brackets (Grammar.mono l t) (each_after (sign l CommaSign) (Grammar.mono l) ts) (sign l CloseBracketSign)
      (sign l OpenParenSign ++ (Grammar.terms l ms ++ sign l CloseParenSign)))))))))
  use_halts at p (Sign AtSign) s =
      a_sign' l here AtSign s _
      (halts_then _ (heap_ends l here) (λ h.
      skip l here OpenParenSign _
      (halts_then _ trust.term (λ m. skip l here SemicolonSign _ (terms_then (g_use_at_heap at p h m) (λ ms. refl))))))
  use_halts at p (Sign OpenParenSign) s =
      a_sign' l here OpenParenSign s _
      (or_sign l here CloseParenSign _ _ (halts_give _ refl)
      (halts_then _ trust.term (λ m. halts_choice _ (argument_halts at p m (Sign CloseParenSign) the_span) (argument_halts at p m))))
  use_halts at p _ s = tt

  fatom_halts : (k : Kind) (s : Span) → Case lim (λ ns. ns) (Grammar.fatom l) k s (fatom_case d k)
  unfolding Grammar.term ◌⨟◌
  fatom_halts (Keyword TtWord) s = at_word l here TtWord s _ (halts_give _ refl)
  fatom_halts (Keyword FfWord) s = at_word l here FfWord s _ (halts_give _ refl)
  fatom_halts (Keyword EmpWord) s = at_word l here EmpWord s _ (halts_give _ refl)
  fatom_halts (Keyword CapitalEmpWord) s =
      at_word l here CapitalEmpWord s _
      (skip l here OpenParenSign _ (halts_then _ (heap_ends l here) (λ h. skip l here CloseParenSign _ (halts_give _ refl))))
  fatom_halts (Keyword SameWord) s =
      at_word l here SameWord s _
      (skip l here OpenParenSign _
      (halts_then _ (heap_ends l here)
      (λ h. skip l here CommaSign _ (halts_then _ (heap_ends l here) (λ k. skip l here CloseParenSign _ (halts_give _ refl))))))
  fatom_halts (Keyword JoinWord) s =
      at_word l here JoinWord s _
      (skip l here OpenParenSign _
      (halts_then _ (heap_ends l here) (λ h.
      skip l here CommaSign _ (halts_then _ (heap_ends l here)
      (λ j. skip l here CommaSign _ (halts_then _ (heap_ends l here) (λ k. skip l here CloseParenSign _ (halts_give _ refl))))))))
  fatom_halts (Keyword CellWord) s =
      at_word l here CellWord s _
      (halts_then _ (bracketed_ends d l here trust) (λ t.
      skip l here OpenParenSign _
      (halts_then _ (heap_ends l here) (λ h.
      skip l here CommaSign _ (halts_then _ trust.term
      (λ m. skip l here CommaSign _ (halts_then _ trust.term (λ n. skip l here CloseParenSign _ (halts_give _ refl)))))))))
  fatom_halts (Keyword BlockWord) s =
      at_word l here BlockWord s _
      (halts_then _ (bracketed_ends d l here trust) (λ t.
      skip l here OpenParenSign _
      (halts_then _ (heap_ends l here)
      (λ h. skip l here CommaSign _ (halts_then _ trust.term (λ m. skip l here CloseParenSign _ (halts_give _ refl)))))))
  fatom_halts (Sign OpenBracketSign) s =
      at_sign l here OpenBracketSign s _ (halts_then _ trust.formula (λ p. skip l here CloseBracketSign _ (halts_give _ refl)))
  fatom_halts (Sign AtSign) s =
      at_sign l here AtSign s _
      (halts_then _ (heap_ends l here)
      (λ h. skip l here OpenBracketSign _ (halts_then _ trust.formula (λ p. skip l here CloseBracketSign _ (halts_give _ refl)))))
  fatom_halts (Sign BangSign) s =
      at_sign l here BangSign s _
      (halts_then _ (name_ends l here) (λ p. halts_choice _ (use_halts s.from p (Sign OpenParenSign) the_span) (use_halts s.from p)))
  fatom_halts _ s = tt

  relation_halts : (m : RawRelTree) (k : Kind) (s : Span) → Case lim (λ ns. Grammar.rel l m ⨟ ns) (Grammar.fatom l) k s (relation_case d m k)
  unfolding Grammar.term ◌⨟◌
  relation_halts m (Sign EqualSign) s =
      a_sign' l here EqualSign s _
      (halts_then _ (bracketed_ends d l here trust) (λ t. halts_last (g_eq m t) (rel_ends d l here trust) (λ n. refl)))
  relation_halts m (Sign PointsToSign) s =
      a_sign' l here PointsToSign s _
      (halts_then _ (bracketed_ends d l here trust)
      (λ t. or_sign l here UnderscoreSign _ _ (halts_give _ refl) (halts_last (g_points m t) (rel_ends d l here trust) (λ n. refl))))
  relation_halts m _ s = tt

  pub fatom_ends : Ends lim (fatom_reader d) (Grammar.fatom l)
  unfolding fatom_reader
  fatom_ends = record {
    tells = formulas.fatom_tells d l here trust.trust;
    halts =
        halts_either _ fatom_halts
        (halts_then _ (rel_ends d l here trust) (λ m. halts_choice _ (relation_halts m (Sign PointsToSign) the_span) (relation_halts m)));
  }

  pub star_ends : Ends lim (star_reader d) (Grammar.star l)
  unfolding star_reader Grammar.term ◌⨟◌
  star_ends = record {
    tells = formulas.star_tells d l here trust.trust;
    halts =
        halts_then _ fatom_ends (λ f.
        or_sign l here DoubleStarSign _ _ (halts_last (k_times f) trust.star (λ s. refl)) (halts_give _ (append-nil (Grammar.fatom l f))));
  }

  pub conj_ends : Ends lim (conj_reader d) (Grammar.conj l)
  unfolding conj_reader Grammar.term ◌⨟◌
  conj_ends = record {
    tells = formulas.conj_tells d l here trust.trust;
    halts =
        halts_then _ star_ends
        (λ f. or_sign l here AndSign _ _ (halts_last (j_and f) trust.conj (λ s. refl)) (halts_give _ (append-nil (Grammar.star l f))));
  }

  pub disj_ends : Ends lim (disj_reader d) (Grammar.disj l)
  unfolding disj_reader Grammar.term ◌⨟◌
  disj_ends = record {
    tells = formulas.disj_tells d l here trust.trust;
    halts =
        halts_then _ conj_ends
        (λ f. or_sign l here OrSign _ _ (halts_last (d_or f) trust.disj (λ s. refl)) (halts_give _ (append-nil (Grammar.conj l f))));
  }

  pub sort_ends : Ends lim (sort_reader d) (Grammar.sort l)
  unfolding sort_reader Grammar.term ◌⨟◌
  sort_ends = record {
    tells = formulas.sort_tells d l here trust.trust;
    halts = or_word l here HeapWord _ _ (halts_give _ refl) (halts_last over_mono (mono_ends d l here trust) (λ m. refl));
  }

  quantified_halts : (round : List Mark → List Mark) (make : Binder → RawSortTree → RawFormulaTree → RawFormulaTree)
      → ((b : Binder) (o : RawSortTree) (p : RawFormulaTree) →
      round (Grammar.binder l b ⨟ (sign l ColonSign ⨟ (Grammar.sort l o ⨟ (sign l DotSign ⨟ Grammar.formula (suc l) p))))
      ≡ Grammar.formula l (make b o p))
      → Halts lim round (quantified d make) (Grammar.formula l)
  unfolding quantified
  quantified_halts round make same =
      halts_then _ (binder_ends l here) (λ b.
      skip l here ColonSign _ (halts_then _ sort_ends (λ o. skip l here DotSign _ (halts_last (make b o) trust.formula (λ p. same b o p)))))

  quantifier_halts : (k : Kind) (s : Span) → Case lim (λ ns. ns) (Grammar.formula l) k s (quantifier_case d k)
  unfolding Grammar.term
  quantifier_halts (Keyword AllWord) s = at_word l here AllWord s _ (quantified_halts (λ ns. word_at l AllWord s.from ⨟ ns) (f_all s.from) (λ b o p. refl))
  quantifier_halts (Keyword ExWord) s = at_word l here ExWord s _ (quantified_halts (λ ns. word_at l ExWord s.from ⨟ ns) (f_ex s.from) (λ b o p. refl))
  quantifier_halts _ s = tt

  pub formula_ends : Ends lim (formula_reader d) (Grammar.formula l)
  unfolding formula_reader Grammar.term ◌⨟◌
  formula_ends = record {
    tells = formulas.formula_tells d l here trust.trust;
    halts =
        halts_either _ quantifier_halts
        (halts_then _ disj_ends (λ e.
        or_sign l here ImpliesSign _ _ (halts_last (f_implies e) trust.formula (λ p. refl))
        (halts_give _ (append-nil (Grammar.disj l e)))));
  }
