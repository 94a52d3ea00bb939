-- The readers of terms, types and computations tell the truth.
use Rattle.std.proofs.Common.{◌≡◌, ℕ, zero, suc, ◌+◌, ◌≤◌, List, refl, arith, append-nil}
use Rattle.std.specs.Prelude.{Bool, true, false, Ok, cond}
use Rattle.htt_lexer_tokens.specs.declared.tokens.Kind.{Kind}
use Rattle.htt_lexer_tokens.specs.declared.tokens.Kind.TheVariants.{Name, Number, Keyword, Sign}
use Rattle.htt_lexer_tokens.specs.declared.tokens.Token.{Token}
use Rattle.htt_lexer_tokens.specs.declared.tokens.Keyword.TheVariants.{FunWord, DoWord, FixWord, RetWord, AllocWord, GetWord, SetWord, FreeWord, IfWord}
use Rattle.htt_lexer_tokens.specs.declared.tokens.Keyword.TheVariants.{ClaimWord, TrueWord, FalseWord, NullWord, PlaceWord, FstWord, SndWord, NotWord, EqWord}
use Rattle.htt_lexer_tokens.specs.declared.tokens.Keyword.TheVariants.{SelWord}
use Rattle.htt_lexer_tokens.specs.declared.tokens.Sign.TheVariants.{OpenParenSign, CloseParenSign, OpenBracketSign, CloseBracketSign, OpenBraceSign}
use Rattle.htt_lexer_tokens.specs.declared.tokens.Sign.TheVariants.{CloseBraceSign, CommaSign, SemicolonSign, ColonSign, DotSign, ArrowSign, LeftArrowSign}
use Rattle.htt_lexer_tokens.specs.declared.tokens.Sign.TheVariants.{PlusSign, MinusSign, StarSign, AmpersandSign, BarSign, CaretSign, ShiftLeftSign}
use Rattle.htt_lexer_tokens.specs.declared.tokens.Sign.TheVariants.{ShiftRightSign, LessSign}
use Rattle.htt_parser_trees.specs.declared.place.Span.{Span}
use Rattle.htt_parser_trees.specs.declared.tree.UnaryWord.TheVariants as unary_words
use Rattle.htt_parser_trees.specs.Trees.{ProdSign, SumSign, ampersand, bar, caret, minus, plus, shift_left, shift_right, times, RawTyTree, RawTermTree}
use Rattle.htt_parser_trees.specs.Trees.{RawSumRestTree, RawProdRestTree, RawPartTrees, y_fun, y_all, y_hoare, y_mono, t_fun, t_fun_mono, t_do, t_fix, t_rel}
use Rattle.htt_parser_trees.specs.Trees.{more_params, r_sum, r_less, s_sum, s_more, x_prod, x_more, l_unary, l_apply, atom_part, mono_part, a_place, c_ret}
use Rattle.htt_parser_trees.specs.Trees.{c_step, s_alloc, s_get, s_set, s_free, s_run, more_terms}
use Rattle.theory_grammar.specs.Marks.{Limits, ◌⨟◌, sign, sign_at}
use Rattle.theory_grammar.specs.Grammar
use Rattle.theory_grammar.specs.Readers.{Reader, measured, give, ◌>>=◌, stop, either}
use Rattle.theory_grammar.specs.Beginnings.{sum_sign_of, prod_sign_of}
use Rattle.theory_grammar.specs.Phrases.{Deeper, mono_reader, terms_on, terms_there, bracket_case, atom_case, atom_reader, part_case, no_part_case, parts_on}
use Rattle.theory_grammar.specs.Phrases.{unary_case, appl_reader, on_prod_sign, prod_on, prod_reader, on_sum_sign, sum_on, sum_reader, rel_reader}
use Rattle.theory_grammar.specs.Phrases.{triple_reader, params_on, term_case, term_reader, starts_function, function_case, ty_case, ty_reader, step_case}
use Rattle.theory_grammar.specs.Phrases.{step_reader, comp_on, comp_reader}
use Rattle.theory_grammar.proofs.Spells.{Spells}
use Rattle.theory_reading.proofs.Tells.{Tells, Told, alone, told_then, told_last, told_give, told_stop, told_refuse, Case, told_either, told_first}
use Rattle.theory_reading.proofs.Tells.{tells_measured}
use Rattle.theory_reading.proofs.Words.{Trusts, Stands, numbered_tells, at_word, at_sign, at_number, a_word, a_sign', a_name', or_sign, or_word, skip}
use Rattle.theory_reading.proofs.Words.{binder_tells, name_tells, number_tells, mono_tells, bracketed_tells}

-- the marks of a chain from the operand with this number on
pub chain_next : (k m chain : ℕ) → k + suc m ≤ suc chain → suc k + m ≤ suc chain
chain_next k m chain h = grind (arith, h)

pub chain_now : (k m chain : ℕ) → k + suc m ≤ suc chain → k ≤ chain
chain_now k m chain h = omega (arith, h)

module _ {lim : Limits} (d : Deeper) (l : ℕ) (here : Stands lim l) (trust : Trusts lim d (suc l)) where
  -- ---- lists of terms

  pub terms_on_tell : (n : ℕ) → Tells lim (terms_on d n) (Grammar.terms_after l)
  unfolding terms_on Grammar.term ◌⨟◌
  terms_on_tell zero = alone (told_give _ refl)
  terms_on_tell (suc n) =
      alone (or_sign l here CommaSign _ _ (told_then _ trust.term (λ m. told_last (more_terms m) (terms_on_tell n) (λ ms. refl)))
      (told_give _ refl))

  pub more_terms_tell : Tells lim (measured (terms_on d)) (Grammar.terms_after l)
  more_terms_tell = tells_measured (λ n. terms_on_tell n)

  pub terms_tell : Tells lim (terms_there d) (Grammar.terms l)
  unfolding terms_there Grammar.term ◌⨟◌
  terms_tell = alone (told_first _ (told_give _ refl) (told_then _ trust.term (λ m. told_last (more_terms m) more_terms_tell (λ ms. refl))))

  -- ---- atoms

  bracket_told : (at : ℕ) (m : RawTermTree) (k : Kind) (s : Span)
      → Case lim (λ ns. sign_at l OpenParenSign at ⨟ (Grammar.term (suc l) m ⨟ ns)) (Grammar.atom l) k s (bracket_case d at m k)
  unfolding Grammar.term ◌⨟◌
  bracket_told at m (Sign CloseParenSign) s = a_sign' l here CloseParenSign s _ (told_give _ refl)
  bracket_told at m (Sign CommaSign) s = a_sign' l here CommaSign s _ (told_then _ trust.term (λ n. skip l here CloseParenSign _ (told_give _ refl)))
  bracket_told at m (Sign ColonSign) s = a_sign' l here ColonSign s _ (told_then _ trust.ty (λ a. skip l here CloseParenSign _ (told_give _ refl)))
  bracket_told at m _ s = tt

  atom_told : (k : Kind) (s : Span) → Case lim (λ ns. ns) (Grammar.atom l) k s (atom_case d k)
  unfolding Grammar.term ◌⨟◌
  atom_told Name s = a_name' l here s _ (told_give _ refl)
  atom_told (Number v) s = at_number l here v s _ (told_give _ refl)
  atom_told (Keyword TrueWord) s = at_word l here TrueWord s _ (told_give _ refl)
  atom_told (Keyword FalseWord) s = at_word l here FalseWord s _ (told_give _ refl)
  atom_told (Keyword NullWord) s = at_word l here NullWord s _ (told_give _ refl)
  atom_told (Keyword PlaceWord) s = at_word l here PlaceWord s _ (told_last (a_place s.from) (number_tells l here) (λ v. refl))
  atom_told (Keyword EqWord) s =
      at_word l here EqWord s _
      (told_then _ (bracketed_tells d l here trust) (λ t.
      skip l here OpenParenSign _
      (told_then _ trust.term
      (λ m. skip l here CommaSign _ (told_then _ trust.term (λ n. skip l here CloseParenSign _ (told_give _ refl)))))))
  atom_told (Keyword SelWord) s =
      at_word l here SelWord s _
      (told_then _ (bracketed_tells d l here trust) (λ t.
      skip l here OpenParenSign _
      (told_then _ trust.term (λ b.
      skip l here CommaSign _ (told_then _ trust.term
      (λ m. skip l here CommaSign _ (told_then _ trust.term (λ n. skip l here CloseParenSign _ (told_give _ refl)))))))))
  atom_told (Sign OpenParenSign) s =
      at_sign l here OpenParenSign s _
      (or_sign l here CloseParenSign _ _ (told_give _ refl) (told_then _ trust.term (λ m. told_either _ (bracket_told s.from m) told_stop)))
  atom_told _ s = tt

  pub atom_tells : Tells lim (atom_reader d) (Grammar.atom l)
  unfolding atom_reader
  atom_tells = alone (told_either _ atom_told told_stop)

  -- ---- chains

  no_part_told : (n : ℕ) (k : Kind) (s : Span) → Case lim (λ ns. ns) (Grammar.parts l n) k s (no_part_case k)
  no_part_told n (Sign OpenBracketSign) s = a_sign' l here OpenBracketSign s _ (told_refuse _ _)
  no_part_told n _ s = tt

  part_told : (n : ℕ) (next : Reader RawPartTrees)
      → n ≤ lim.chain
      → Tells lim next (Grammar.parts l (suc n))
      → (k : Kind) (s : Span)
      → Case lim (λ ns. ns) (Grammar.parts l n) k s (part_case d next k)
  unfolding Grammar.term ◌⨟◌
  part_told n next within more (Sign OpenBracketSign) s =
      a_sign' l here OpenBracketSign s _
      (told_then _ (numbered_tells n within (mono_tells d l here trust))
      (λ m. skip l here CloseBracketSign _ (told_last (mono_part m) more (λ ps. refl))))
  part_told n next within more _ s = tt

  pub parts_tell : (m k : ℕ) → k + m ≤ suc lim.chain → Tells lim (parts_on d m) (Grammar.parts l k)
  unfolding parts_on Grammar.term ◌⨟◌
  parts_tell zero k room = alone (told_either _ (no_part_told k) (told_first _ (told_refuse _ _) (told_give _ refl)))
  parts_tell (suc m) k room =
      let within = chain_now k m lim.chain room in
      let more = parts_tell m (suc k) (chain_next k m lim.chain room) in
      alone (told_either _ (part_told k (parts_on d m) within more)
      (told_first _ (told_then _ (numbered_tells k within atom_tells) (λ a. told_last (atom_part a) more (λ ps. refl))) (told_give _ refl)))

  all_room : 2 + d.further ≤ suc lim.chain
  all_room = let h = trust.further in omega (arith, h)

  unary_told : (k : Kind) (s : Span) → Case lim (λ ns. ns) (Grammar.appl l) k s (unary_case d k)
  unfolding Grammar.term ◌⨟◌
  unary_told (Keyword FstWord) s = at_word l here FstWord s _ (told_last (l_unary s.from unary_words.Fst) atom_tells (λ a. refl))
  unary_told (Keyword SndWord) s = at_word l here SndWord s _ (told_last (l_unary s.from unary_words.Snd) atom_tells (λ a. refl))
  unary_told (Keyword NotWord) s = at_word l here NotWord s _ (told_last (l_unary s.from unary_words.Not) atom_tells (λ a. refl))
  unary_told _ s = tt

  pub appl_tells : Tells lim (appl_reader d) (Grammar.appl l)
  unfolding appl_reader Grammar.term
  appl_tells = alone (told_either _ unary_told (told_then _ atom_tells (λ a. told_last (l_apply a) (parts_tell d.further 2 all_room) (λ ps. refl))))

  prod_sign_told : (n : ℕ) (next : ProdSign → Reader RawProdRestTree)
      → ((o : ProdSign) → Told lim (λ ns. sign l (Grammar.prod_sign o) ⨟ ns) (next o) (Grammar.prod_rest l n))
      → (k : Kind) (s : Span)
      → Case lim (λ ns. ns) (Grammar.prod_rest l n) k s (on_prod_sign next (prod_sign_of k))
  prod_sign_told n next told (Sign StarSign) s = a_sign' l here StarSign s _ (told times)
  prod_sign_told n next told (Sign AmpersandSign) s = a_sign' l here AmpersandSign s _ (told ampersand)
  prod_sign_told n next told (Sign ShiftLeftSign) s = a_sign' l here ShiftLeftSign s _ (told shift_left)
  prod_sign_told n next told (Sign ShiftRightSign) s = a_sign' l here ShiftRightSign s _ (told shift_right)
  prod_sign_told n next told _ s = tt

  pub prod_rest_tells : (m k : ℕ) → k + m ≤ suc lim.chain → Tells lim (prod_on d m) (Grammar.prod_rest l k)
  unfolding prod_on Grammar.term ◌⨟◌
  prod_rest_tells zero k room = alone (told_either _ (prod_sign_told k _ (λ o. told_refuse _ _)) (told_give _ refl))
  prod_rest_tells (suc m) k room =
      alone (told_either _ (prod_sign_told k _ (λ o.
      told_then _ (numbered_tells k (chain_now k m lim.chain room) appl_tells)
      (λ a. told_last (x_more o a) (prod_rest_tells m (suc k) (chain_next k m lim.chain room)) (λ rest. refl)))) (told_give _ refl))

  pub prod_tells : Tells lim (prod_reader d) (Grammar.prod l)
  unfolding prod_reader Grammar.term
  prod_tells = alone (told_then _ appl_tells (λ a. told_last (x_prod a) (prod_rest_tells d.further 2 all_room) (λ rest. refl)))

  sum_sign_told : (n : ℕ) (next : SumSign → Reader RawSumRestTree)
      → ((o : SumSign) → Told lim (λ ns. sign l (Grammar.sum_sign o) ⨟ ns) (next o) (Grammar.sum_rest l n))
      → (k : Kind) (s : Span)
      → Case lim (λ ns. ns) (Grammar.sum_rest l n) k s (on_sum_sign next (sum_sign_of k))
  sum_sign_told n next told (Sign PlusSign) s = a_sign' l here PlusSign s _ (told plus)
  sum_sign_told n next told (Sign MinusSign) s = a_sign' l here MinusSign s _ (told minus)
  sum_sign_told n next told (Sign BarSign) s = a_sign' l here BarSign s _ (told bar)
  sum_sign_told n next told (Sign CaretSign) s = a_sign' l here CaretSign s _ (told caret)
  sum_sign_told n next told _ s = tt

  pub sum_rest_tells : (m k : ℕ) → k + m ≤ suc lim.chain → Tells lim (sum_on d m) (Grammar.sum_rest l k)
  unfolding sum_on Grammar.term ◌⨟◌
  sum_rest_tells zero k room = alone (told_either _ (sum_sign_told k _ (λ o. told_refuse _ _)) (told_give _ refl))
  sum_rest_tells (suc m) k room =
      alone (told_either _ (sum_sign_told k _ (λ o.
      told_then _ (numbered_tells k (chain_now k m lim.chain room) prod_tells)
      (λ a. told_last (s_more o a) (sum_rest_tells m (suc k) (chain_next k m lim.chain room)) (λ rest. refl)))) (told_give _ refl))

  pub sum_tells : Tells lim (sum_reader d) (Grammar.sum l)
  unfolding sum_reader Grammar.term
  sum_tells = alone (told_then _ prod_tells (λ a. told_last (s_sum a) (sum_rest_tells d.further 2 all_room) (λ rest. refl)))

  pub rel_tells : Tells lim (rel_reader d) (Grammar.rel l)
  unfolding rel_reader Grammar.term ◌⨟◌
  rel_tells =
      alone (told_then _ sum_tells
      (λ s. or_sign l here LessSign _ _ (told_last (r_less s) sum_tells (λ r. refl)) (told_give (r_sum s) (append-nil (Grammar.sum l s)))))

  -- ---- triples and terms

  pub triple_tells : Tells lim (triple_reader d) (Grammar.triple l)
  unfolding triple_reader Grammar.term ◌⨟◌
  triple_tells =
      alone (told_then _ trust.formula (λ p.
      skip l here CloseBraceSign _
      (told_then _ (binder_tells l here) (λ b.
      skip l here ColonSign _ (told_then _ (mono_tells d l here trust)
      (λ m. skip l here OpenBraceSign _ (told_then _ trust.formula (λ q. skip l here CloseBraceSign _ (told_give _ refl)))))))))

  pub params_tell : (n : ℕ) → Tells lim (params_on d n) (Grammar.params l)
  unfolding params_on Grammar.term ◌⨟◌
  params_tell zero = alone (told_give _ refl)
  params_tell (suc n) =
      alone (or_sign l here OpenParenSign _ _
      (told_then _ (binder_tells l here) (λ b.
      skip l here ColonSign _
      (told_then _ trust.ty (λ a. skip l here CloseParenSign _ (told_last (more_params b a) (params_tell n) (λ ps. refl))))))
      (told_give _ refl))

  term_told : (k : Kind) (s : Span) → Case lim (λ ns. ns) (Grammar.term l) k s (term_case d k)
  unfolding Grammar.term ◌⨟◌
  term_told (Keyword FunWord) s = at_word l here FunWord s _ (or_sign l here OpenBracketSign _ _
      (told_then _ (name_tells l here) (λ a. skip l here CloseBracketSign _ (skip l here DotSign _ (told_last (t_fun_mono s.from a) trust.term (λ m. refl)))))
      (told_then _ (binder_tells l here) (λ b. skip l here DotSign _ (told_last (t_fun s.from b) trust.term (λ m. refl)))))
  term_told (Keyword DoWord) s = at_word l here DoWord s _ (told_last (t_do s.from) trust.comp (λ e. refl))
  term_told (Keyword FixWord) s =
      at_word l here FixWord s _
      (told_then _ (name_tells l here) (λ f.
      told_then _ (tells_measured (λ n. params_tell n)) (λ ps.
      skip l here ColonSign _ (skip l here OpenBraceSign _
      (told_then _ triple_tells (λ t. skip l here DotSign _ (told_last (t_fix s.from f ps t) trust.comp (λ e. refl))))))))
  term_told _ s = tt

  pub term_tells : Tells lim (term_reader d) (Grammar.term l)
  unfolding term_reader Grammar.term
  term_tells = alone (told_either _ term_told (told_last t_rel rel_tells (λ r. refl)))

  -- ---- computations

  step_told : (k : Kind) (s : Span) → Case lim (λ ns. ns) (Grammar.step l) k s (step_case d k)
  unfolding Grammar.term ◌⨟◌
  step_told (Keyword AllocWord) s =
      a_word l here AllocWord s _ (told_then _ (bracketed_tells d l here trust) (λ t. told_last (s_alloc t) atom_tells (λ a. refl)))
  step_told (Keyword GetWord) s = a_word l here GetWord s _ (told_then _ (bracketed_tells d l here trust) (λ t. told_last (s_get t) atom_tells (λ a. refl)))
  step_told (Keyword SetWord) s =
      a_word l here SetWord s _
      (told_then _ (bracketed_tells d l here trust) (λ t. told_then _ atom_tells (λ a. told_last (s_set t a) atom_tells (λ b. refl))))
  step_told (Keyword FreeWord) s = a_word l here FreeWord s _ (told_then _ (bracketed_tells d l here trust) (λ t. told_last (s_free t) atom_tells (λ a. refl)))
  step_told (Keyword IfWord) s =
      a_word l here IfWord s _ (told_then _ (bracketed_tells d l here trust) (λ t.
      told_then _ atom_tells (λ a.
      skip l here OpenBraceSign _
      (told_then _ trust.comp (λ e.
      skip l here CloseBraceSign _
      (skip l here OpenBraceSign _ (told_then _ trust.comp (λ f. skip l here CloseBraceSign _ (told_give _ refl)))))))))
  step_told (Keyword ClaimWord) s =
      a_word l here ClaimWord s _
      (skip l here OpenBraceSign _ (told_then _ trust.formula (λ p. skip l here CloseBraceSign _ (told_give _ refl))))
  step_told _ s = tt

  pub step_tells : Tells lim (step_reader d) (Grammar.step l)
  unfolding step_reader Grammar.term
  step_tells = alone (told_either _ step_told (told_last s_run appl_tells (λ a. refl)))

  pub comp_on_tells : (n : ℕ) → Tells lim (comp_on d n) (Grammar.comp l)
  unfolding comp_on Grammar.term ◌⨟◌
  comp_on_tells zero = alone told_stop
  comp_on_tells (suc n) =
      alone (or_word l here RetWord _ _ (told_last c_ret trust.term (λ m. refl))
      (told_then _ (binder_tells l here) (λ b.
      skip l here LeftArrowSign _
      (told_then _ step_tells (λ s. skip l here SemicolonSign _ (told_last (c_step b s) (comp_on_tells n) (λ e. refl)))))))

  pub comp_tells : Tells lim (comp_reader d) (Grammar.comp l)
  unfolding comp_reader
  comp_tells = tells_measured (λ n. comp_on_tells n)

  -- ---- types

  function_told : (k : Kind) (s : Span) → Case lim (λ ns. ns) (Grammar.ty l) k s (function_case d k)
  unfolding Grammar.term ◌⨟◌
  function_told (Sign OpenParenSign) s =
      at_sign l here OpenParenSign s _
      (told_then _ (binder_tells l here) (λ b.
      skip l here ColonSign _ (told_then _ trust.ty
      (λ a. skip l here CloseParenSign _ (skip l here ArrowSign _ (told_last (y_fun s.from b a) trust.ty (λ c. refl)))))))
  function_told _ s = tt

  ty_told : (k : Kind) (s : Span) → Case lim (λ ns. ns) (Grammar.ty l) k s (ty_case d k)
  unfolding Grammar.term ◌⨟◌
  ty_told (Sign OpenBracketSign) s =
      at_sign l here OpenBracketSign s _
      (told_then _ (name_tells l here)
      (λ a. skip l here CloseBracketSign _ (skip l here ArrowSign _ (told_last (y_all s.from a) trust.ty (λ c. refl)))))
  ty_told (Sign OpenBraceSign) s = at_sign l here OpenBraceSign s _ (told_last (y_hoare s.from) triple_tells (λ t. refl))
  ty_told _ s = tt

  either_of : (b : Bool) (r q : Reader RawTyTree) (ts : List Token) (x : RawTyTree) (rest : List Token)
      → Tells lim r (Grammar.ty l)
      → Tells lim q (Grammar.ty l)
      → cond b (r ts) (q ts) ≡ Ok (x, rest)
      → Spells lim (Grammar.ty l x) ts rest
  either_of true r q ts x rest one other e = one.tells ts x rest e
  either_of false r q ts x rest one other e = other.tells ts x rest e

  pub ty_tells : Tells lim (ty_reader d) (Grammar.ty l)
  unfolding ty_reader Grammar.term
  ty_tells = record {
    tells = λ ts x rest e.
        either_of (starts_function ts) (either (function_case d) stop) (either (ty_case d) (mono_reader d >>= (λ m. give (y_mono m)))) ts x
        rest (alone (told_either _ function_told told_stop))
        (alone (told_either _ ty_told (told_last y_mono (mono_tells d l here trust) (λ m. refl)))) e;
  }
