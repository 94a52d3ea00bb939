-- The readers of terms, types and computations stop behind what begins some tree.
use Rattle.std.proofs.Common.{◌≡◌, ℕ, zero, suc, ◌+◌, ◌≤◌, refl, arith, append-nil, [], ◌∷◌, ◌<◌}
use Rattle.htt_lexer_tokens.specs.declared.tokens.Kind.{Kind}
use Rattle.htt_lexer_tokens.specs.declared.tokens.Kind.TheVariants.{Name, Number, Keyword, Sign}
use Rattle.htt_lexer_tokens.specs.declared.tokens.Keyword.TheVariants.{FunWord, DoWord, FixWord, RetWord, AllocWord, GetWord, SetWord, FreeWord, IfWord}
use Rattle.htt_lexer_tokens.specs.declared.tokens.Keyword.TheVariants.{ClaimWord, TrueWord, FalseWord, NullWord, PlaceWord, FstWord, SndWord, NotWord, EqWord}
use Rattle.htt_lexer_tokens.specs.declared.tokens.Keyword.TheVariants.{SelWord}
use Rattle.htt_lexer_tokens.specs.declared.tokens.Sign.TheVariants.{OpenParenSign, CloseParenSign, OpenBracketSign, CloseBracketSign, OpenBraceSign}
use Rattle.htt_lexer_tokens.specs.declared.tokens.Sign.TheVariants.{CloseBraceSign, CommaSign, SemicolonSign, ColonSign, DotSign, ArrowSign, LeftArrowSign}
use Rattle.htt_lexer_tokens.specs.declared.tokens.Sign.TheVariants.{PlusSign, MinusSign, StarSign, AmpersandSign, BarSign, CaretSign, ShiftLeftSign}
use Rattle.htt_lexer_tokens.specs.declared.tokens.Sign.TheVariants.{ShiftRightSign, LessSign}
use Rattle.htt_parser_trees.specs.declared.place.Span.{Span}
use Rattle.htt_parser_trees.specs.declared.tree.UnaryWord.TheVariants as unary_words
use Rattle.htt_parser_trees.specs.Trees.{ProdSign, SumSign, ampersand, bar, caret, minus, plus, shift_left, shift_right, times, RawTermTree, RawSumRestTree}
use Rattle.htt_parser_trees.specs.Trees.{RawProdRestTree, RawPartTrees, y_fun, y_all, y_hoare, y_mono, t_fun, t_fun_mono, t_do, t_fix, t_rel, more_params}
use Rattle.htt_parser_trees.specs.Trees.{r_sum, r_less, s_sum, s_more, x_prod, x_more, l_unary, l_apply, atom_part, mono_part, a_place, c_ret, c_step, s_alloc}
use Rattle.htt_parser_trees.specs.Trees.{s_get, s_set, s_free, s_run, more_terms, s_end, x_end, no_parts}
use Rattle.theory_grammar.specs.Marks.{Limits, ◌⨟◌, sign, sign_at}
use Rattle.theory_grammar.specs.Grammar
use Rattle.theory_grammar.specs.Readers.{Reader, measured, give, ◌>>=◌, stop, either}
use Rattle.theory_grammar.specs.Beginnings.{sum_sign_of, prod_sign_of, begins_mono, begins_atom, begins_appl}
use Rattle.theory_grammar.specs.Phrases.{Deeper, mono_reader, terms_on, terms_there, bracket_case, atom_case, atom_reader, part_case, no_part_case, parts_on}
use Rattle.theory_grammar.specs.Phrases.{unary_case, appl_reader, on_prod_sign, prod_on, prod_reader, on_sum_sign, sum_on, sum_reader, rel_reader}
use Rattle.theory_grammar.specs.Phrases.{triple_reader, params_on, term_case, term_reader, starts_function, function_case, ty_case, ty_reader, step_case}
use Rattle.theory_grammar.specs.Phrases.{step_reader, comp_on, comp_reader}
use Rattle.theory_grammar.proofs.Spells.{begins_of}
use Rattle.theory_grammar.proofs.Opens.{opens_mono, opens_atom, opens_appl, opens_prod}
use Rattle.theory_reading.proofs.Words.{Stands}
use Rattle.theory_reading.proofs.Terms as terms
use Rattle.theory_reading_completions.proofs.Halts.{Halts, Ends, Case, halts_then, halts_last, halts_give, halts_stop, halts_either, halts_choice, halts_first}
use Rattle.theory_reading_completions.proofs.Halts.{ends_measured, whole_start, halts_past, halts_cond}
use Rattle.theory_reading_completions.proofs.Starts.{the_span, starts_mono, starts_atom, starts_appl, starts_prod, starts_comp}
use Rattle.theory_reading_completions.proofs.Words.{Ending, numbered_ends, at_word, at_sign, at_number, a_word, a_sign', a_name', or_sign, or_word, skip}
use Rattle.theory_reading_completions.proofs.Words.{binder_ends, name_ends, number_ends, mono_ends, bracketed_ends}

-- the operand with this number is the next of a chain, of which so many more may be read
pub chain_next : (k m chain : ℕ) → k + suc m ≡ suc chain → suc k + m ≡ suc chain
chain_next k m chain h = grind (arith, h)

pub chain_now : (k m chain : ℕ) → k + suc m ≡ suc chain → k ≤ chain
chain_now k m chain h = omega (arith, h)

pub at_most : (k m chain : ℕ) → k + m ≡ suc chain → k + m ≤ suc chain
at_most k m chain h = omega (arith, h)

pub none_left : (k chain : ℕ) → k + 0 ≡ suc chain → chain < k
none_left k chain h = omega (arith, h)

module _ {lim : Limits} (d : Deeper) (l : ℕ) (here : Stands lim l) (trust : Ending lim d (suc l)) where
  -- ---- lists of terms

  pub terms_on_end : (n : ℕ) → Ends lim (terms_on d n) (Grammar.terms_after l)
  unfolding terms_on Grammar.term ◌⨟◌
  terms_on_end zero = record { tells = terms.terms_on_tell d l here trust.trust zero; halts = halts_give _ refl }
  terms_on_end (suc n) = record {
    tells = terms.terms_on_tell d l here trust.trust (suc n);
    halts =
        or_sign l here CommaSign _ _ (halts_then _ trust.term (λ m. halts_last (more_terms m) (terms_on_end n) (λ ms. refl)))
        (halts_give _ refl);
  }

  pub more_terms_end : Ends lim (measured (terms_on d)) (Grammar.terms_after l)
  more_terms_end = ends_measured (λ n. terms_on_end n)

  pub terms_end : Ends lim (terms_there d) (Grammar.terms l)
  unfolding terms_there Grammar.term ◌⨟◌
  terms_end = record {
    tells = terms.terms_tell d l here trust.trust;
    halts = halts_first _ (halts_give _ refl) (halts_then _ trust.term (λ m. halts_last (more_terms m) more_terms_end (λ ms. refl)));
  }

  -- ---- atoms

  bracket_halts : (at : ℕ) (m : RawTermTree) (k : Kind) (s : Span)
      → Case lim (λ ns. sign_at l OpenParenSign at ⨟ (Grammar.term (suc l) m ⨟ ns)) (Grammar.atom l) k s (bracket_case d at m k)
  unfolding Grammar.term ◌⨟◌
  bracket_halts at m (Sign CloseParenSign) s = a_sign' l here CloseParenSign s _ (halts_give _ refl)
  bracket_halts at m (Sign CommaSign) s = a_sign' l here CommaSign s _ (halts_then _ trust.term (λ n. skip l here CloseParenSign _ (halts_give _ refl)))
  bracket_halts at m (Sign ColonSign) s = a_sign' l here ColonSign s _ (halts_then _ trust.ty (λ a. skip l here CloseParenSign _ (halts_give _ refl)))
  bracket_halts at m _ s = tt

  atom_halts : (k : Kind) (s : Span) → Case lim (λ ns. ns) (Grammar.atom l) k s (atom_case d k)
  unfolding Grammar.term ◌⨟◌
  atom_halts Name s = a_name' l here s _ (halts_give _ refl)
  atom_halts (Number v) s = at_number l here v s _ (halts_give _ refl)
  atom_halts (Keyword TrueWord) s = at_word l here TrueWord s _ (halts_give _ refl)
  atom_halts (Keyword FalseWord) s = at_word l here FalseWord s _ (halts_give _ refl)
  atom_halts (Keyword NullWord) s = at_word l here NullWord s _ (halts_give _ refl)
  atom_halts (Keyword PlaceWord) s = at_word l here PlaceWord s _ (halts_last (a_place s.from) (number_ends l here) (λ v. refl))
  atom_halts (Keyword EqWord) s =
      at_word l here EqWord s _
      (halts_then _ (bracketed_ends d l here trust) (λ t.
      skip l here OpenParenSign _
      (halts_then _ trust.term
      (λ m. skip l here CommaSign _ (halts_then _ trust.term (λ n. skip l here CloseParenSign _ (halts_give _ refl)))))))
  atom_halts (Keyword SelWord) s =
      at_word l here SelWord s _
      (halts_then _ (bracketed_ends d l here trust) (λ t.
      skip l here OpenParenSign _
      (halts_then _ trust.term (λ b.
      skip l here CommaSign _ (halts_then _ trust.term
      (λ m. skip l here CommaSign _ (halts_then _ trust.term (λ n. skip l here CloseParenSign _ (halts_give _ refl)))))))))
  atom_halts (Sign OpenParenSign) s =
      at_sign l here OpenParenSign s _
      (or_sign l here CloseParenSign _ _ (halts_give _ refl)
      (halts_then _ trust.term (λ m. halts_choice _ (bracket_halts s.from m (Sign CloseParenSign) the_span) (bracket_halts s.from m))))
  atom_halts _ s = tt

  pub atom_ends : Ends lim (atom_reader d) (Grammar.atom l)
  unfolding atom_reader
  atom_ends = record { tells = terms.atom_tells d l here trust.trust; halts = halts_choice _ (atom_halts Name the_span) atom_halts }

  -- ---- chains

  no_part_halts : (n : ℕ) → lim.chain < n → (k : Kind) (s : Span) → Case lim (λ ns. ns) (Grammar.parts l n) k s (no_part_case k)
  unfolding Grammar.term ◌⨟◌
  no_part_halts n past (Sign OpenBracketSign) s =
      a_sign' l here OpenBracketSign s _
      (halts_past begins_mono Name the_span refl n past (λ k x h. (l, starts_mono l k x h)) (λ m. mono_part m no_parts)
      (sign l CloseBracketSign) (record { kind = Sign CloseBracketSign; from = 0; to = 0 } ∷ [])
      (record { kind = refl; at = tt; span = tt }, tt) (λ m. refl))
  no_part_halts n past _ s = tt

  part_halts : (n : ℕ) (next : Reader RawPartTrees)
      → n ≤ lim.chain
      → Ends lim next (Grammar.parts l (suc n))
      → (k : Kind) (s : Span)
      → Case lim (λ ns. ns) (Grammar.parts l n) k s (part_case d next k)
  unfolding Grammar.term ◌⨟◌
  part_halts n next within more (Sign OpenBracketSign) s =
      a_sign' l here OpenBracketSign s _
      (halts_then _ (numbered_ends begins_mono n within here.chain (λ x. begins_of begins_mono l (Grammar.mono l x) (opens_mono l x))
      (mono_ends d l here trust)) (λ m. skip l here CloseBracketSign _ (halts_last (mono_part m) more (λ ps. refl))))
  part_halts n next within more _ s = tt

  pub parts_end : (m k : ℕ) → k + m ≡ suc lim.chain → Ends lim (parts_on d m) (Grammar.parts l k)
  unfolding parts_on Grammar.term ◌⨟◌
  parts_end zero k room = record {
    tells = terms.parts_tell d l here trust.trust zero k (at_most k 0 lim.chain room);
    halts =
        halts_either _ (no_part_halts k (none_left k lim.chain room))
        (halts_first _ (halts_past begins_atom Name the_span refl k (none_left k lim.chain room) (λ x s h. (l, starts_atom l x s h))
        (λ a. atom_part a no_parts) [] [] tt (λ a. refl)) (halts_give _ refl));
  }
  parts_end (suc m) k room =
      let within = chain_now k m lim.chain room in
      let more = parts_end m (suc k) (chain_next k m lim.chain room) in
      record {
        tells = terms.parts_tell d l here trust.trust (suc m) k (at_most k (suc m) lim.chain room);
        halts =
            halts_either _ (part_halts k (parts_on d m) within more)
            (halts_first _ (halts_then _
            (numbered_ends begins_atom k within here.chain (λ x. begins_of begins_atom l (Grammar.atom l x) (opens_atom l x)) atom_ends)
            (λ a. halts_last (atom_part a) more (λ ps. refl))) (halts_give _ refl));
      }

  all_room : 2 + d.further ≡ suc lim.chain
  all_room = let h = trust.further in omega (arith, h)

  unary_halts : (k : Kind) (s : Span) → Case lim (λ ns. ns) (Grammar.appl l) k s (unary_case d k)
  unfolding Grammar.term ◌⨟◌
  unary_halts (Keyword FstWord) s = at_word l here FstWord s _ (halts_last (l_unary s.from unary_words.Fst) atom_ends (λ a. refl))
  unary_halts (Keyword SndWord) s = at_word l here SndWord s _ (halts_last (l_unary s.from unary_words.Snd) atom_ends (λ a. refl))
  unary_halts (Keyword NotWord) s = at_word l here NotWord s _ (halts_last (l_unary s.from unary_words.Not) atom_ends (λ a. refl))
  unary_halts _ s = tt

  pub appl_ends : Ends lim (appl_reader d) (Grammar.appl l)
  unfolding appl_reader Grammar.term
  appl_ends = record {
    tells = terms.appl_tells d l here trust.trust;
    halts = halts_either _ unary_halts (halts_then _ atom_ends (λ a. halts_last (l_apply a) (parts_end d.further 2 all_room) (λ ps. refl)));
  }

  prod_sign_halts : (n : ℕ) (next : ProdSign → Reader RawProdRestTree)
      → ((o : ProdSign) → Halts lim (λ ns. sign l (Grammar.prod_sign o) ⨟ ns) (next o) (Grammar.prod_rest l n))
      → (k : Kind) (s : Span)
      → Case lim (λ ns. ns) (Grammar.prod_rest l n) k s (on_prod_sign next (prod_sign_of k))
  prod_sign_halts n next told (Sign StarSign) s = a_sign' l here StarSign s _ (told times)
  prod_sign_halts n next told (Sign AmpersandSign) s = a_sign' l here AmpersandSign s _ (told ampersand)
  prod_sign_halts n next told (Sign ShiftLeftSign) s = a_sign' l here ShiftLeftSign s _ (told shift_left)
  prod_sign_halts n next told (Sign ShiftRightSign) s = a_sign' l here ShiftRightSign s _ (told shift_right)
  prod_sign_halts n next told _ s = tt

  pub prod_rest_ends : (m k : ℕ) → k + m ≡ suc lim.chain → Ends lim (prod_on d m) (Grammar.prod_rest l k)
  unfolding prod_on Grammar.term ◌⨟◌
  prod_rest_ends zero k room = record {
    tells = terms.prod_rest_tells d l here trust.trust zero k (at_most k 0 lim.chain room);
    halts =
        halts_either _ (prod_sign_halts k _ (λ o.
        halts_past begins_appl Name the_span refl k (none_left k lim.chain room) (λ x s h. (l, starts_appl l x s h)) (λ a. x_more o a x_end)
        [] [] tt (λ a. refl))) (halts_give _ refl);
  }
  prod_rest_ends (suc m) k room = record {
    tells = terms.prod_rest_tells d l here trust.trust (suc m) k (at_most k (suc m) lim.chain room);
    halts =
        halts_either _ (prod_sign_halts k _ (λ o.
        halts_then _ (numbered_ends begins_appl k (chain_now k m lim.chain room) here.chain
        (λ x. begins_of begins_appl l (Grammar.appl l x) (opens_appl l x)) appl_ends)
        (λ a. halts_last (x_more o a) (prod_rest_ends m (suc k) (chain_next k m lim.chain room)) (λ rest. refl)))) (halts_give _ refl);
  }

  pub prod_ends : Ends lim (prod_reader d) (Grammar.prod l)
  unfolding prod_reader Grammar.term
  prod_ends = record {
    tells = terms.prod_tells d l here trust.trust;
    halts = halts_then _ appl_ends (λ a. halts_last (x_prod a) (prod_rest_ends d.further 2 all_room) (λ rest. refl));
  }

  sum_sign_halts : (n : ℕ) (next : SumSign → Reader RawSumRestTree)
      → ((o : SumSign) → Halts lim (λ ns. sign l (Grammar.sum_sign o) ⨟ ns) (next o) (Grammar.sum_rest l n))
      → (k : Kind) (s : Span)
      → Case lim (λ ns. ns) (Grammar.sum_rest l n) k s (on_sum_sign next (sum_sign_of k))
  sum_sign_halts n next told (Sign PlusSign) s = a_sign' l here PlusSign s _ (told plus)
  sum_sign_halts n next told (Sign MinusSign) s = a_sign' l here MinusSign s _ (told minus)
  sum_sign_halts n next told (Sign BarSign) s = a_sign' l here BarSign s _ (told bar)
  sum_sign_halts n next told (Sign CaretSign) s = a_sign' l here CaretSign s _ (told caret)
  sum_sign_halts n next told _ s = tt

  pub sum_rest_ends : (m k : ℕ) → k + m ≡ suc lim.chain → Ends lim (sum_on d m) (Grammar.sum_rest l k)
  unfolding sum_on Grammar.term ◌⨟◌
  sum_rest_ends zero k room = record {
    tells = terms.sum_rest_tells d l here trust.trust zero k (at_most k 0 lim.chain room);
    halts =
        halts_either _ (sum_sign_halts k _ (λ o.
        halts_past begins_appl Name the_span refl k (none_left k lim.chain room) (λ x s h. (l, starts_prod l x s h)) (λ a. s_more o a s_end)
        [] [] tt (λ a. refl))) (halts_give _ refl);
  }
  sum_rest_ends (suc m) k room = record {
    tells = terms.sum_rest_tells d l here trust.trust (suc m) k (at_most k (suc m) lim.chain room);
    halts =
        halts_either _ (sum_sign_halts k _ (λ o.
        halts_then _ (numbered_ends begins_appl k (chain_now k m lim.chain room) here.chain
        (λ x. begins_of begins_appl l (Grammar.prod l x) (opens_prod l x)) prod_ends)
        (λ a. halts_last (s_more o a) (sum_rest_ends m (suc k) (chain_next k m lim.chain room)) (λ rest. refl)))) (halts_give _ refl);
  }

  pub sum_ends : Ends lim (sum_reader d) (Grammar.sum l)
  unfolding sum_reader Grammar.term
  sum_ends = record {
    tells = terms.sum_tells d l here trust.trust;
    halts = halts_then _ prod_ends (λ a. halts_last (s_sum a) (sum_rest_ends d.further 2 all_room) (λ rest. refl));
  }

  pub rel_ends : Ends lim (rel_reader d) (Grammar.rel l)
  unfolding rel_reader Grammar.term ◌⨟◌
  rel_ends = record {
    tells = terms.rel_tells d l here trust.trust;
    halts =
        halts_then _ sum_ends (λ s.
        or_sign l here LessSign _ _ (halts_last (r_less s) sum_ends (λ r. refl)) (halts_give (r_sum s) (append-nil (Grammar.sum l s))));
  }

  -- ---- triples and terms

  pub triple_ends : Ends lim (triple_reader d) (Grammar.triple l)
  unfolding triple_reader Grammar.term ◌⨟◌
  triple_ends = record {
    tells = terms.triple_tells d l here trust.trust;
    halts =
        halts_then _ trust.formula (λ p.
        skip l here CloseBraceSign _
        (halts_then _ (binder_ends l here) (λ b.
        skip l here ColonSign _ (halts_then _ (mono_ends d l here trust)
        (λ m. skip l here OpenBraceSign _ (halts_then _ trust.formula (λ q. skip l here CloseBraceSign _ (halts_give _ refl))))))));
  }

  pub params_end : (n : ℕ) → Ends lim (params_on d n) (Grammar.params l)
  unfolding params_on Grammar.term ◌⨟◌
  params_end zero = record { tells = terms.params_tell d l here trust.trust zero; halts = halts_give _ refl }
  params_end (suc n) = record {
    tells = terms.params_tell d l here trust.trust (suc n);
    halts =
        or_sign l here OpenParenSign _ _
        (halts_then _ (binder_ends l here) (λ b.
        skip l here ColonSign _
        (halts_then _ trust.ty (λ a. skip l here CloseParenSign _ (halts_last (more_params b a) (params_end n) (λ ps. refl))))))
        (halts_give _ refl);
  }

  term_halts : (k : Kind) (s : Span) → Case lim (λ ns. ns) (Grammar.term l) k s (term_case d k)
  unfolding Grammar.term ◌⨟◌
  term_halts (Keyword FunWord) s =
      at_word l here FunWord s _
      (or_sign l here OpenBracketSign _ _
      (halts_then _ (name_ends l here)
      (λ a. skip l here CloseBracketSign _ (skip l here DotSign _ (halts_last (t_fun_mono s.from a) trust.term (λ m. refl)))))
      (halts_then _ (binder_ends l here) (λ b. skip l here DotSign _ (halts_last (t_fun s.from b) trust.term (λ m. refl)))))
  term_halts (Keyword DoWord) s = at_word l here DoWord s _ (halts_last (t_do s.from) trust.comp (λ e. refl))
  term_halts (Keyword FixWord) s =
      at_word l here FixWord s _
      (halts_then _ (name_ends l here) (λ f.
      halts_then _ (ends_measured (λ n. params_end n)) (λ ps.
      skip l here ColonSign _ (skip l here OpenBraceSign _
      (halts_then _ triple_ends (λ t. skip l here DotSign _ (halts_last (t_fix s.from f ps t) trust.comp (λ e. refl))))))))
  term_halts _ s = tt

  pub term_ends : Ends lim (term_reader d) (Grammar.term l)
  unfolding term_reader Grammar.term
  term_ends = record { tells = terms.term_tells d l here trust.trust; halts = halts_either _ term_halts (halts_last t_rel rel_ends (λ r. refl)) }

  -- ---- computations

  step_halts : (k : Kind) (s : Span) → Case lim (λ ns. ns) (Grammar.step l) k s (step_case d k)
  unfolding Grammar.term ◌⨟◌
  step_halts (Keyword AllocWord) s =
      a_word l here AllocWord s _ (halts_then _ (bracketed_ends d l here trust) (λ t. halts_last (s_alloc t) atom_ends (λ a. refl)))
  step_halts (Keyword GetWord) s = a_word l here GetWord s _ (halts_then _ (bracketed_ends d l here trust) (λ t. halts_last (s_get t) atom_ends (λ a. refl)))
  step_halts (Keyword SetWord) s =
      a_word l here SetWord s _
      (halts_then _ (bracketed_ends d l here trust) (λ t. halts_then _ atom_ends (λ a. halts_last (s_set t a) atom_ends (λ b. refl))))
  step_halts (Keyword FreeWord) s = a_word l here FreeWord s _ (halts_then _ (bracketed_ends d l here trust) (λ t. halts_last (s_free t) atom_ends (λ a. refl)))
  step_halts (Keyword IfWord) s =
      a_word l here IfWord s _ (halts_then _ (bracketed_ends d l here trust) (λ t.
      halts_then _ atom_ends (λ a.
      skip l here OpenBraceSign _
      (halts_then _ trust.comp (λ e.
      skip l here CloseBraceSign _
      (skip l here OpenBraceSign _ (halts_then _ trust.comp (λ f. skip l here CloseBraceSign _ (halts_give _ refl)))))))))
  step_halts (Keyword ClaimWord) s =
      a_word l here ClaimWord s _
      (skip l here OpenBraceSign _ (halts_then _ trust.formula (λ p. skip l here CloseBraceSign _ (halts_give _ refl))))
  step_halts _ s = tt

  pub step_ends : Ends lim (step_reader d) (Grammar.step l)
  unfolding step_reader Grammar.term
  step_ends = record { tells = terms.step_tells d l here trust.trust; halts = halts_either _ step_halts (halts_last s_run appl_ends (λ a. refl)) }

  pub comp_on_ends : (n : ℕ) → Ends lim (comp_on d n) (Grammar.comp l)
  unfolding comp_on Grammar.term ◌⨟◌
  comp_on_ends zero = record {
    tells = terms.comp_on_tells d l here trust.trust zero;
    halts = halts_stop (whole_start (starts_comp l (Keyword RetWord) the_span refl));
  }
  comp_on_ends (suc n) = record {
    tells = terms.comp_on_tells d l here trust.trust (suc n);
    halts =
        or_word l here RetWord _ _ (halts_last c_ret trust.term (λ m. refl))
        (halts_then _ (binder_ends l here) (λ b.
        skip l here LeftArrowSign _
        (halts_then _ step_ends (λ s. skip l here SemicolonSign _ (halts_last (c_step b s) (comp_on_ends n) (λ e. refl))))));
  }

  pub comp_ends : Ends lim (comp_reader d) (Grammar.comp l)
  unfolding comp_reader
  comp_ends = ends_measured (λ n. comp_on_ends n)

  -- ---- types

  function_halts : (k : Kind) (s : Span) → Case lim (λ ns. ns) (Grammar.ty l) k s (function_case d k)
  unfolding Grammar.term ◌⨟◌
  function_halts (Sign OpenParenSign) s =
      at_sign l here OpenParenSign s _
      (halts_then _ (binder_ends l here) (λ b.
      skip l here ColonSign _ (halts_then _ trust.ty
      (λ a. skip l here CloseParenSign _ (skip l here ArrowSign _ (halts_last (y_fun s.from b a) trust.ty (λ c. refl)))))))
  function_halts _ s = tt

  ty_halts : (k : Kind) (s : Span) → Case lim (λ ns. ns) (Grammar.ty l) k s (ty_case d k)
  unfolding Grammar.term ◌⨟◌
  ty_halts (Sign OpenBracketSign) s =
      at_sign l here OpenBracketSign s _
      (halts_then _ (name_ends l here)
      (λ a. skip l here CloseBracketSign _ (skip l here ArrowSign _ (halts_last (y_all s.from a) trust.ty (λ c. refl)))))
  ty_halts (Sign OpenBraceSign) s = at_sign l here OpenBraceSign s _ (halts_last (y_hoare s.from) triple_ends (λ t. refl))
  ty_halts _ s = tt

  pub ty_ends : Ends lim (ty_reader d) (Grammar.ty l)
  unfolding ty_reader Grammar.term
  ty_ends = record {
    tells = terms.ty_tells d l here trust.trust;
    halts =
        record { whole = other.whole; halted = λ before ts go carry. halts_cond (starts_function ts) function other before ts go carry };
  }
    where
      function : Halts lim (λ ns. ns) (either (function_case d) stop) (Grammar.ty l)
      function = halts_choice _ (function_halts (Sign OpenParenSign) the_span) function_halts

      other : Halts lim (λ ns. ns) (either (ty_case d) (mono_reader d >>= (λ m. give (y_mono m)))) (Grammar.ty l)
      other = halts_either _ ty_halts (halts_last y_mono (mono_ends d l here trust) (λ m. refl))
