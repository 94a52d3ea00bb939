-- Stops at a limit in terms, types and computations.
use Rattle.htt_lexer_tokens.specs.declared.tokens.Kind.{Kind}
use Rattle.htt_lexer_tokens.specs.declared.tokens.Kind.TheVariants.{Name, Number, Keyword, Sign}
use Rattle.htt_lexer_tokens.specs.declared.tokens.Keyword.TheVariants.{FunWord, DoWord, FixWord, RetWord, AllocWord, GetWord, SetWord, FreeWord, IfWord}
use Rattle.htt_lexer_tokens.specs.declared.tokens.Keyword.TheVariants.{ClaimWord, TrueWord, FalseWord, NullWord, PlaceWord, FstWord, SndWord, NotWord, EqWord}
use Rattle.htt_lexer_tokens.specs.declared.tokens.Keyword.TheVariants.{SelWord}
use Rattle.htt_lexer_tokens.specs.declared.tokens.Sign.TheVariants.{OpenParenSign, CloseParenSign, OpenBracketSign, CloseBracketSign, OpenBraceSign}
use Rattle.htt_lexer_tokens.specs.declared.tokens.Sign.TheVariants.{CloseBraceSign, CommaSign, SemicolonSign, ColonSign, DotSign, ArrowSign, LeftArrowSign}
use Rattle.htt_lexer_tokens.specs.declared.tokens.Sign.TheVariants.{PlusSign, MinusSign, StarSign, AmpersandSign, BarSign, CaretSign, ShiftLeftSign}
use Rattle.htt_lexer_tokens.specs.declared.tokens.Sign.TheVariants.{ShiftRightSign, LessSign}
use Rattle.htt_parser_trees.specs.declared.place.Span.{Span}
use Rattle.htt_parser_trees.specs.declared.tree.UnaryWord.TheVariants as unary_words
use Rattle.htt_parser_trees.specs.Trees.{ProdSign, SumSign, ampersand, bar, caret, minus, plus, shift_left, shift_right, times, RawTermTree, RawSumRestTree}
use Rattle.htt_parser_trees.specs.Trees.{RawProdRestTree, RawPartTrees, y_fun, y_all, y_hoare, y_mono, t_fun, t_fun_mono, t_do, t_fix, t_rel, more_params}
use Rattle.htt_parser_trees.specs.Trees.{r_sum, r_less, s_sum, s_more, x_prod, x_more, l_unary, l_apply, atom_part, mono_part, a_place, c_ret, c_step, s_alloc}
use Rattle.htt_parser_trees.specs.Trees.{s_get, s_set, s_free, s_run, more_terms}
use Rattle.theory_grammar.specs.Marks.{Limits, ◌⨟◌, sign, sign_at}
use Rattle.theory_grammar.specs.Grammar
use Rattle.theory_grammar.specs.Readers.{Reader, measured}
use Rattle.theory_grammar.specs.Beginnings.{sum_sign_of, prod_sign_of, begins_mono, begins_atom, begins_appl}
use Rattle.theory_grammar.specs.Phrases.{Deeper, mono_reader, terms_on, terms_there, bracket_case, atom_case, atom_reader, part_case, no_part_case, parts_on}
use Rattle.theory_grammar.specs.Phrases.{unary_case, appl_reader, on_prod_sign, prod_on, prod_reader, on_sum_sign, sum_on, sum_reader, rel_reader}
use Rattle.theory_grammar.specs.Phrases.{triple_reader, params_on, term_case, term_reader, starts_function, function_case, ty_case, ty_reader, step_case}
use Rattle.theory_grammar.specs.Phrases.{step_reader, comp_on, comp_reader}
use Rattle.std.proofs.Common.{◌≡◌, ℕ, zero, suc, ◌+◌, ◌<◌, ◌≤◌, refl, arith, append-nil}
use Rattle.theory_reading.proofs.Tells.{tells_measured}
use Rattle.theory_reading.proofs.Words.{Stands}
use Rattle.theory_reading_limits.proofs.Bars.{Bars, Barred, Case, same_ok, forms_then, forms_last, bars_then, bars_last, bars_give, bars_stop, bars_refuse}
use Rattle.theory_reading_limits.proofs.Bars.{bars_either, bars_cond, bars_first, bars_measured, bars_past}
use Rattle.theory_grammar.proofs.Spells.{begins_of}
use Rattle.theory_grammar.proofs.Opens.{opens_mono, opens_atom, opens_appl, opens_prod}
use Rattle.theory_reading.proofs.Terms as told_terms
use Rattle.theory_reading_places.proofs.Follows.{in_all}
use Rattle.theory_reading_places.proofs.Words.{Chain, chain_less, chain_none}
use Rattle.theory_reading_places.proofs.Terms as places
use Rattle.theory_reading_limits.proofs.Words.{Bar, numbered_barred, at_word, at_sign, at_number, a_word, a_sign', a_name', or_sign, or_word, skip}
use Rattle.theory_reading_limits.proofs.Words.{binder_barred, name_barred, number_barred, mono_barred, bracketed_barred}

-- the operand with this number is the next of a chain, of which so many more may be read
pub chain_next : (k m chain : ℕ) → k + suc m ≡ suc chain → suc k + m ≡ suc chain
chain_next k m chain h = grind (arith, h)

pub chain_now : (k m chain : ℕ) → k + suc m ≡ suc chain → k ≤ chain
chain_now k m chain h = omega (arith, h)

pub at_most : (k m chain : ℕ) → k + m ≡ suc chain → k + m ≤ suc chain
at_most k m chain h = omega (arith, h)

pub none_left : (k chain : ℕ) → k + 0 ≡ suc chain → chain < k
none_left k chain h = omega (arith, h)

module _ {lim : Limits} (d d' : Deeper) (l : ℕ) (here : Stands lim l) (trust : Bar lim d d' (suc l)) where
  -- ---- lists of terms

  terms_on_bars : (n : ℕ) → Bars lim (λ ns. ns) (terms_on d n) (terms_on d' n) (Grammar.terms_after l)
  unfolding terms_on Grammar.term ◌⨟◌
  terms_on_bars zero = bars_give _ refl
  terms_on_bars (suc n) = or_sign l here CommaSign (bars_then trust.term (λ m. bars_last (more_terms m) (terms_on_bars n) (λ ms. refl))) (bars_give _ refl)

  pub more_terms_barred : Barred lim (measured (terms_on d)) (measured (terms_on d')) (Grammar.terms_after l)
  more_terms_barred = record {
    tells = told_terms.more_terms_tell d l here trust.trust;
    same = same_ok (λ n m. places.more_terms_follow d d' trust.follow);
    bars = bars_measured (λ n. terms_on_bars n);
  }

  pub terms_barred : Barred lim (terms_there d) (terms_there d') (Grammar.terms l)
  unfolding terms_there Grammar.term ◌⨟◌
  terms_barred = record {
    tells = told_terms.terms_tell d l here trust.trust;
    same = same_ok (λ n m. places.terms_follow d d' trust.follow);
    bars = bars_first _ (bars_give _ refl) (bars_then trust.term (λ m. bars_last (more_terms m) more_terms_barred.bars (λ ms. refl)));
  }

  -- ---- atoms

  bracket_bars : (at : ℕ) (m : RawTermTree) (k : Kind) (s : Span)
      → Case lim (λ ns. sign_at l OpenParenSign at ⨟ (Grammar.term (suc l) m ⨟ ns)) (Grammar.atom l) k s (bracket_case d at m k)
      (bracket_case d' at m k)
  unfolding Grammar.term ◌⨟◌
  bracket_bars at m (Sign CloseParenSign) s = a_sign' l here CloseParenSign s (bars_give _ refl)
  bracket_bars at m (Sign CommaSign) s = a_sign' l here CommaSign s (bars_then trust.term (λ n. skip l here CloseParenSign (λ _. bars_give _ refl)))
  bracket_bars at m (Sign ColonSign) s = a_sign' l here ColonSign s (bars_then trust.ty (λ a. skip l here CloseParenSign (λ _. bars_give _ refl)))
  bracket_bars at m _ s = tt

  atom_bars : (k : Kind) (s : Span) → Case lim (λ ns. ns) (Grammar.atom l) k s (atom_case d k) (atom_case d' k)
  unfolding Grammar.term ◌⨟◌
  atom_bars Name s = a_name' l here s (bars_give _ refl)
  atom_bars (Number v) s = at_number l here v s (bars_give _ refl)
  atom_bars (Keyword TrueWord) s = at_word l here TrueWord s (bars_give _ refl)
  atom_bars (Keyword FalseWord) s = at_word l here FalseWord s (bars_give _ refl)
  atom_bars (Keyword NullWord) s = at_word l here NullWord s (bars_give _ refl)
  atom_bars (Keyword PlaceWord) s = at_word l here PlaceWord s (bars_last (a_place s.from) (number_barred l here).bars (λ v. refl))
  atom_bars (Keyword EqWord) s =
      at_word l here EqWord s (bars_then (bracketed_barred d d' l here trust) (λ t.
      skip l here OpenParenSign (λ _.
      bars_then trust.term
      (λ m. skip l here CommaSign (λ _. bars_then trust.term (λ n. skip l here CloseParenSign (λ _. bars_give _ refl)))))))
  atom_bars (Keyword SelWord) s =
      at_word l here SelWord s (bars_then (bracketed_barred d d' l here trust) (λ t.
      skip l here OpenParenSign (λ _.
      bars_then trust.term (λ b.
      skip l here CommaSign (λ _.
      bars_then trust.term
      (λ m. skip l here CommaSign (λ _. bars_then trust.term (λ n. skip l here CloseParenSign (λ _. bars_give _ refl)))))))))
  atom_bars (Sign OpenParenSign) s =
      at_sign l here OpenParenSign s
      (or_sign l here CloseParenSign (bars_give _ refl) (bars_then trust.term (λ m. bars_either _ _ (bracket_bars s.from m) bars_stop)))
  atom_bars _ s = tt

  pub atom_barred : Barred lim (atom_reader d) (atom_reader d') (Grammar.atom l)
  unfolding atom_reader
  atom_barred = record {
    tells = told_terms.atom_tells d l here trust.trust;
    same = same_ok (λ n m. places.atom_follows d d' trust.follow);
    bars = bars_either _ _ atom_bars bars_stop;
  }

  -- ---- chains

  no_part_bars : (k : ℕ) (o : Kind) (s : Span) → Case lim (λ ns. ns) (Grammar.parts l k) o s (no_part_case o) (no_part_case o)
  no_part_bars k (Sign OpenBracketSign) s = a_sign' l here OpenBracketSign s (bars_refuse _ _)
  no_part_bars k _ s = tt

  past_part_bars : (k : ℕ) (next : Reader RawPartTrees)
      → lim.chain < k
      → (o : Kind) (s : Span)
      → Case lim (λ ns. ns) (Grammar.parts l k) o s (no_part_case o) (part_case d' next o)
  unfolding Grammar.term ◌⨟◌
  past_part_bars k next past (Sign OpenBracketSign) s =
      a_sign' l here OpenBracketSign s
      (bars_past (mono_reader d') begins_mono (Grammar.mono l) k past (λ x. begins_of begins_mono l (Grammar.mono l x) (opens_mono l x))
      (λ m. forms_then _ (λ _. sign l CloseBracketSign) (λ _. forms_last next (Grammar.parts l (suc k)) (mono_part m) (λ ps. refl))))
  past_part_bars k next past _ s = tt

  part_bars : (n : ℕ) (next other : Reader RawPartTrees)
      → n ≤ lim.chain
      → Bars lim (λ ns. ns) next other (Grammar.parts l (suc n))
      → (k : Kind) (s : Span)
      → Case lim (λ ns. ns) (Grammar.parts l n) k s (part_case d next k) (part_case d' other k)
  unfolding Grammar.term ◌⨟◌
  part_bars n next other within more (Sign OpenBracketSign) s =
      a_sign' l here OpenBracketSign s
      (bars_then (numbered_barred begins_mono n within here.chain (λ x. begins_of begins_mono l (Grammar.mono l x) (opens_mono l x))
      (mono_barred d d' l here trust)) (λ m. skip l here CloseBracketSign (λ _. bars_last (mono_part m) more (λ ps. refl))))
  part_bars n next other within more _ s = tt

  parts_bars : (m j k : ℕ) → Chain in_all m j → k + m ≡ suc lim.chain → Bars lim (λ ns. ns) (parts_on d m) (parts_on d' j) (Grammar.parts l k)
  unfolding parts_on Grammar.term ◌⨟◌
  parts_bars zero zero k chain room = bars_either _ _ (no_part_bars k) (bars_first _ (bars_refuse _ _) (bars_give _ refl))
  parts_bars zero (suc j) k chain room =
      bars_either _ _ (past_part_bars k (parts_on d' j) (none_left k lim.chain room))
      (bars_first _ (bars_past (atom_reader d') begins_atom (Grammar.atom l) k (none_left k lim.chain room)
      (λ x. begins_of begins_atom l (Grammar.atom l x) (opens_atom l x))
      (λ a. forms_last (parts_on d' j) (Grammar.parts l (suc k)) (atom_part a) (λ ps. refl))) (bars_give _ refl))
  parts_bars (suc m) zero k chain room = absurd (chain_none in_all m chain)
  parts_bars (suc m) (suc j) k chain room =
      let within = chain_now k m lim.chain room in
      let more = parts_bars m j (suc k) (chain_less in_all m j chain) (chain_next k m lim.chain room) in
      bars_either _ _ (part_bars k (parts_on d m) (parts_on d' j) within more)
      (bars_first _ (bars_then
      (numbered_barred begins_atom k within here.chain (λ x. begins_of begins_atom l (Grammar.atom l x) (opens_atom l x)) atom_barred)
      (λ a. bars_last (atom_part a) more (λ ps. refl))) (bars_give _ refl))

  all_room : 2 + d.further ≡ suc lim.chain
  all_room = let h = trust.further in omega (arith, h)

  unary_bars : (k : Kind) (s : Span) → Case lim (λ ns. ns) (Grammar.appl l) k s (unary_case d k) (unary_case d' k)
  unfolding Grammar.term ◌⨟◌
  unary_bars (Keyword FstWord) s = at_word l here FstWord s (bars_last (l_unary s.from unary_words.Fst) atom_barred.bars (λ a. refl))
  unary_bars (Keyword SndWord) s = at_word l here SndWord s (bars_last (l_unary s.from unary_words.Snd) atom_barred.bars (λ a. refl))
  unary_bars (Keyword NotWord) s = at_word l here NotWord s (bars_last (l_unary s.from unary_words.Not) atom_barred.bars (λ a. refl))
  unary_bars _ s = tt

  pub appl_barred : Barred lim (appl_reader d) (appl_reader d') (Grammar.appl l)
  unfolding appl_reader Grammar.term
  appl_barred = record {
    tells = told_terms.appl_tells d l here trust.trust;
    same = same_ok (λ n m. places.appl_follows d d' trust.follow);
    bars =
        bars_either _ _ unary_bars
        (bars_then atom_barred (λ a. bars_last (l_apply a) (parts_bars d.further d'.further 2 trust.follow.further all_room) (λ ps. refl)));
  }

  prod_sign_bars : (n : ℕ) (next other : ProdSign → Reader RawProdRestTree)
      → ((o : ProdSign) → Bars lim (λ ns. sign l (Grammar.prod_sign o) ⨟ ns) (next o) (other o) (Grammar.prod_rest l n))
      → (k : Kind) (s : Span)
      → Case lim (λ ns. ns) (Grammar.prod_rest l n) k s (on_prod_sign next (prod_sign_of k)) (on_prod_sign other (prod_sign_of k))
  prod_sign_bars n next other bars (Sign StarSign) s = a_sign' l here StarSign s (bars times)
  prod_sign_bars n next other bars (Sign AmpersandSign) s = a_sign' l here AmpersandSign s (bars ampersand)
  prod_sign_bars n next other bars (Sign ShiftLeftSign) s = a_sign' l here ShiftLeftSign s (bars shift_left)
  prod_sign_bars n next other bars (Sign ShiftRightSign) s = a_sign' l here ShiftRightSign s (bars shift_right)
  prod_sign_bars n next other bars _ s = tt

  prod_rest_bars : (m j k : ℕ) → Chain in_all m j → k + m ≡ suc lim.chain → Bars lim (λ ns. ns) (prod_on d m) (prod_on d' j) (Grammar.prod_rest l k)
  unfolding prod_on Grammar.term ◌⨟◌
  prod_rest_bars zero zero k chain room = bars_either _ _ (prod_sign_bars k _ _ (λ o. bars_refuse _ _)) (bars_give _ refl)
  prod_rest_bars zero (suc j) k chain room =
      bars_either _ _ (prod_sign_bars k _ _ (λ o.
      bars_past (appl_reader d') begins_appl (Grammar.appl l) k (none_left k lim.chain room)
      (λ x. begins_of begins_appl l (Grammar.appl l x) (opens_appl l x))
      (λ a. forms_last (prod_on d' j) (Grammar.prod_rest l (suc k)) (x_more o a) (λ rest. refl)))) (bars_give _ refl)
  prod_rest_bars (suc m) zero k chain room = absurd (chain_none in_all m chain)
  prod_rest_bars (suc m) (suc j) k chain room =
      bars_either _ _ (prod_sign_bars k _ _ (λ o.
      bars_then (numbered_barred begins_appl k (chain_now k m lim.chain room) here.chain
      (λ x. begins_of begins_appl l (Grammar.appl l x) (opens_appl l x)) appl_barred) (λ a.
      bars_last (x_more o a) (prod_rest_bars m j (suc k) (chain_less in_all m j chain) (chain_next k m lim.chain room)) (λ rest. refl))))
      (bars_give _ refl)

  prod_barred : Barred lim (prod_reader d) (prod_reader d') (Grammar.prod l)
  unfolding prod_reader Grammar.term
  prod_barred = record {
    tells = told_terms.prod_tells d l here trust.trust;
    same = same_ok (λ n m. places.prod_follows d d' trust.follow);
    bars =
        bars_then appl_barred
        (λ a. bars_last (x_prod a) (prod_rest_bars d.further d'.further 2 trust.follow.further all_room) (λ rest. refl));
  }

  sum_sign_bars : (n : ℕ) (next other : SumSign → Reader RawSumRestTree)
      → ((o : SumSign) → Bars lim (λ ns. sign l (Grammar.sum_sign o) ⨟ ns) (next o) (other o) (Grammar.sum_rest l n))
      → (k : Kind) (s : Span)
      → Case lim (λ ns. ns) (Grammar.sum_rest l n) k s (on_sum_sign next (sum_sign_of k)) (on_sum_sign other (sum_sign_of k))
  sum_sign_bars n next other bars (Sign PlusSign) s = a_sign' l here PlusSign s (bars plus)
  sum_sign_bars n next other bars (Sign MinusSign) s = a_sign' l here MinusSign s (bars minus)
  sum_sign_bars n next other bars (Sign BarSign) s = a_sign' l here BarSign s (bars bar)
  sum_sign_bars n next other bars (Sign CaretSign) s = a_sign' l here CaretSign s (bars caret)
  sum_sign_bars n next other bars _ s = tt

  sum_rest_bars : (m j k : ℕ) → Chain in_all m j → k + m ≡ suc lim.chain → Bars lim (λ ns. ns) (sum_on d m) (sum_on d' j) (Grammar.sum_rest l k)
  unfolding sum_on Grammar.term ◌⨟◌
  sum_rest_bars zero zero k chain room = bars_either _ _ (sum_sign_bars k _ _ (λ o. bars_refuse _ _)) (bars_give _ refl)
  sum_rest_bars zero (suc j) k chain room =
      bars_either _ _ (sum_sign_bars k _ _ (λ o.
      bars_past (prod_reader d') begins_appl (Grammar.prod l) k (none_left k lim.chain room)
      (λ x. begins_of begins_appl l (Grammar.prod l x) (opens_prod l x))
      (λ a. forms_last (sum_on d' j) (Grammar.sum_rest l (suc k)) (s_more o a) (λ rest. refl)))) (bars_give _ refl)
  sum_rest_bars (suc m) zero k chain room = absurd (chain_none in_all m chain)
  sum_rest_bars (suc m) (suc j) k chain room =
      bars_either _ _ (sum_sign_bars k _ _ (λ o.
      bars_then (numbered_barred begins_appl k (chain_now k m lim.chain room) here.chain
      (λ x. begins_of begins_appl l (Grammar.prod l x) (opens_prod l x)) prod_barred) (λ a.
      bars_last (s_more o a) (sum_rest_bars m j (suc k) (chain_less in_all m j chain) (chain_next k m lim.chain room)) (λ rest. refl))))
      (bars_give _ refl)

  sum_barred : Barred lim (sum_reader d) (sum_reader d') (Grammar.sum l)
  unfolding sum_reader Grammar.term
  sum_barred = record {
    tells = told_terms.sum_tells d l here trust.trust;
    same = same_ok (λ n m. places.sum_follows d d' trust.follow);
    bars =
        bars_then prod_barred
        (λ a. bars_last (s_sum a) (sum_rest_bars d.further d'.further 2 trust.follow.further all_room) (λ rest. refl));
  }

  pub rel_barred : Barred lim (rel_reader d) (rel_reader d') (Grammar.rel l)
  unfolding rel_reader Grammar.term ◌⨟◌
  rel_barred = record {
    tells = told_terms.rel_tells d l here trust.trust;
    same = same_ok (λ n m. places.rel_follows d d' trust.follow);
    bars =
        bars_then sum_barred (λ s.
        or_sign l here LessSign (bars_last (r_less s) sum_barred.bars (λ r. refl)) (bars_give (r_sum s) (append-nil (Grammar.sum l s))));
  }

  -- ---- triples and terms

  triple_barred : Barred lim (triple_reader d) (triple_reader d') (Grammar.triple l)
  unfolding triple_reader Grammar.term ◌⨟◌
  triple_barred = record {
    tells = told_terms.triple_tells d l here trust.trust;
    same = same_ok (λ n m. places.triple_follows d d' trust.follow);
    bars =
        bars_then trust.formula (λ p.
        skip l here CloseBraceSign (λ _.
        bars_then (binder_barred l here) (λ b.
        skip l here ColonSign (λ _.
        bars_then (mono_barred d d' l here trust)
        (λ m. skip l here OpenBraceSign (λ _. bars_then trust.formula (λ q. skip l here CloseBraceSign (λ _. bars_give _ refl))))))));
  }

  params_bars : (n : ℕ) → Bars lim (λ ns. ns) (params_on d n) (params_on d' n) (Grammar.params l)
  unfolding params_on Grammar.term ◌⨟◌
  params_bars zero = bars_give _ refl
  params_bars (suc n) =
      or_sign l here OpenParenSign
      (bars_then (binder_barred l here) (λ b.
      skip l here ColonSign
      (λ _. bars_then trust.ty (λ a. skip l here CloseParenSign (λ _. bars_last (more_params b a) (params_bars n) (λ ps. refl))))))
      (bars_give _ refl)

  more_params_barred : Barred lim (measured (params_on d)) (measured (params_on d')) (Grammar.params l)
  more_params_barred = record {
    tells = tells_measured (λ n. told_terms.params_tell d l here trust.trust n);
    same = same_ok (λ n m. places.more_params_follow d d' trust.follow);
    bars = bars_measured (λ n. params_bars n);
  }

  term_bars : (k : Kind) (s : Span) → Case lim (λ ns. ns) (Grammar.term l) k s (term_case d k) (term_case d' k)
  unfolding Grammar.term ◌⨟◌
  term_bars (Keyword FunWord) s =
      at_word l here FunWord s (or_sign l here OpenBracketSign
      (bars_then (name_barred l here)
      (λ a. skip l here CloseBracketSign (λ _. skip l here DotSign (λ _. bars_last (t_fun_mono s.from a) trust.term.bars (λ m. refl)))))
      (bars_then (binder_barred l here) (λ b. skip l here DotSign (λ _. bars_last (t_fun s.from b) trust.term.bars (λ m. refl)))))
  term_bars (Keyword DoWord) s = at_word l here DoWord s (bars_last (t_do s.from) trust.comp.bars (λ e. refl))
  term_bars (Keyword FixWord) s =
      at_word l here FixWord s (bars_then (name_barred l here) (λ f.
      bars_then more_params_barred (λ ps.
      skip l here ColonSign (λ _.
      skip l here OpenBraceSign
      (λ _. bars_then triple_barred (λ t. skip l here DotSign (λ _. bars_last (t_fix s.from f ps t) trust.comp.bars (λ e. refl))))))))
  term_bars _ s = tt

  pub term_barred : Barred lim (term_reader d) (term_reader d') (Grammar.term l)
  unfolding term_reader Grammar.term
  term_barred = record {
    tells = told_terms.term_tells d l here trust.trust;
    same = same_ok (λ n m. places.term_follows d d' trust.follow);
    bars = bars_either _ _ term_bars (bars_last t_rel rel_barred.bars (λ r. refl));
  }

  -- ---- computations

  step_bars : (k : Kind) (s : Span) → Case lim (λ ns. ns) (Grammar.step l) k s (step_case d k) (step_case d' k)
  unfolding Grammar.term ◌⨟◌
  step_bars (Keyword AllocWord) s =
      a_word l here AllocWord s (bars_then (bracketed_barred d d' l here trust) (λ t. bars_last (s_alloc t) atom_barred.bars (λ a. refl)))
  step_bars (Keyword GetWord) s =
      a_word l here GetWord s (bars_then (bracketed_barred d d' l here trust) (λ t. bars_last (s_get t) atom_barred.bars (λ a. refl)))
  step_bars (Keyword SetWord) s =
      a_word l here SetWord s (bars_then (bracketed_barred d d' l here trust)
      (λ t. bars_then atom_barred (λ a. bars_last (s_set t a) atom_barred.bars (λ b. refl))))
  step_bars (Keyword FreeWord) s =
      a_word l here FreeWord s (bars_then (bracketed_barred d d' l here trust) (λ t. bars_last (s_free t) atom_barred.bars (λ a. refl)))
  step_bars (Keyword IfWord) s =
      a_word l here IfWord s (bars_then (bracketed_barred d d' l here trust) (λ t.
      bars_then atom_barred (λ a.
      skip l here OpenBraceSign (λ _.
      bars_then trust.comp (λ e.
      skip l here CloseBraceSign
      (λ _. skip l here OpenBraceSign (λ _. bars_then trust.comp (λ f. skip l here CloseBraceSign (λ _. bars_give _ refl)))))))))
  step_bars (Keyword ClaimWord) s =
      a_word l here ClaimWord s
      (skip l here OpenBraceSign (λ _. bars_then trust.formula (λ p. skip l here CloseBraceSign (λ _. bars_give _ refl))))
  step_bars _ s = tt

  step_barred : Barred lim (step_reader d) (step_reader d') (Grammar.step l)
  unfolding step_reader Grammar.term
  step_barred = record {
    tells = told_terms.step_tells d l here trust.trust;
    same = same_ok (λ n m. places.step_follows d d' trust.follow);
    bars = bars_either _ _ step_bars (bars_last s_run appl_barred.bars (λ a. refl));
  }

  comp_on_bars : (n : ℕ) → Bars lim (λ ns. ns) (comp_on d n) (comp_on d' n) (Grammar.comp l)
  unfolding comp_on Grammar.term ◌⨟◌
  comp_on_bars zero = bars_stop
  comp_on_bars (suc n) =
      or_word l here RetWord (bars_last c_ret trust.term.bars (λ m. refl))
      (bars_then (binder_barred l here) (λ b.
      skip l here LeftArrowSign
      (λ _. bars_then step_barred (λ s. skip l here SemicolonSign (λ _. bars_last (c_step b s) (comp_on_bars n) (λ e. refl))))))

  pub comp_barred : Barred lim (comp_reader d) (comp_reader d') (Grammar.comp l)
  unfolding comp_reader
  comp_barred = record {
    tells = told_terms.comp_tells d l here trust.trust;
    same = same_ok (λ n m. places.comp_follows d d' trust.follow);
    bars = bars_measured (λ n. comp_on_bars n);
  }

  -- ---- types

  function_bars : (k : Kind) (s : Span) → Case lim (λ ns. ns) (Grammar.ty l) k s (function_case d k) (function_case d' k)
  unfolding Grammar.term ◌⨟◌
  function_bars (Sign OpenParenSign) s =
      at_sign l here OpenParenSign s
      (bars_then (binder_barred l here) (λ b.
      skip l here ColonSign (λ _.
      bars_then trust.ty
      (λ a. skip l here CloseParenSign (λ _. skip l here ArrowSign (λ _. bars_last (y_fun s.from b a) trust.ty.bars (λ c. refl)))))))
  function_bars _ s = tt

  ty_bars : (k : Kind) (s : Span) → Case lim (λ ns. ns) (Grammar.ty l) k s (ty_case d k) (ty_case d' k)
  unfolding Grammar.term ◌⨟◌
  ty_bars (Sign OpenBracketSign) s =
      at_sign l here OpenBracketSign s
      (bars_then (name_barred l here)
      (λ a. skip l here CloseBracketSign (λ _. skip l here ArrowSign (λ _. bars_last (y_all s.from a) trust.ty.bars (λ c. refl)))))
  ty_bars (Sign OpenBraceSign) s = at_sign l here OpenBraceSign s (bars_last (y_hoare s.from) triple_barred.bars (λ t. refl))
  ty_bars _ s = tt

  pub ty_barred : Barred lim (ty_reader d) (ty_reader d') (Grammar.ty l)
  unfolding ty_reader Grammar.term
  ty_barred = record {
    tells = told_terms.ty_tells d l here trust.trust;
    same = same_ok (λ n m. places.ty_follows d d' trust.follow);
    bars =
        bars_cond starts_function (λ ts. refl) (λ ts. refl) (bars_either _ _ function_bars bars_stop)
        (bars_either _ _ ty_bars (bars_last y_mono (mono_barred d d' l here trust).bars (λ m. refl)));
  }
