-- The readers of terms, types and computations get what is spelled.
use Rattle.std.proofs.Common.{◌≡◌, ℕ, lit≤, zero, suc, ◌+◌, ◌<◌, ◌≤◌, List, refl, sym, ap, subst, arith}
use Rattle.std.specs.Prelude.{Bool, true, false, Some, None}
use Rattle.htt_lexer_tokens.specs.declared.tokens.Kind.{Kind}
use Rattle.htt_lexer_tokens.specs.declared.tokens.Kind.TheVariants.{Keyword, Sign}
use Rattle.htt_lexer_tokens.specs.declared.tokens.Token.{Token}
use Rattle.htt_lexer_tokens.specs.declared.tokens.Keyword.TheVariants.{FunWord, DoWord, FixWord, RetWord, FstWord, SndWord, NotWord, AllocWord, GetWord}
use Rattle.htt_lexer_tokens.specs.declared.tokens.Keyword.TheVariants.{SetWord, FreeWord, IfWord, ClaimWord}
use Rattle.htt_lexer_tokens.specs.declared.tokens.Sign.TheVariants.{OpenParenSign, CloseParenSign, OpenBracketSign, OpenBraceSign, CommaSign, LessSign}
use Rattle.htt_parser_trees.specs.declared.tree.UnaryWord.TheVariants as unary_words
use Rattle.htt_parser_trees.specs.Trees.{ProdSign, SumSign, ampersand, bar, caret, minus, plus, shift_left, shift_right, times, RawTripleTree, RawTermTree}
use Rattle.htt_parser_trees.specs.Trees.{RawParamTrees, RawRelTree, RawSumTree, RawSumRestTree, RawProdTree, RawProdRestTree, RawApplTree, RawPartTrees}
use Rattle.htt_parser_trees.specs.Trees.{RawAtomTree, RawCompTree, RawStepTree, RawTermTrees, triple_of, t_fun, t_fun_mono, t_do, t_fix, t_rel, no_params}
use Rattle.htt_parser_trees.specs.Trees.{more_params, r_sum, r_less, s_sum, s_end, s_more, x_prod, x_end, x_more, l_unary, l_apply, no_parts, atom_part}
use Rattle.htt_parser_trees.specs.Trees.{mono_part, a_name, a_number, a_true, a_false, a_null, a_place, a_eq, a_sel, a_unit, a_brackets, a_pair, a_annotated}
use Rattle.htt_parser_trees.specs.Trees.{c_ret, c_step, s_alloc, s_get, s_set, s_free, s_if, s_claim, s_run, no_terms, more_terms}
use Rattle.theory_grammar.specs.Marks.{Mark, Limits, ◌⨟◌, sign, numbered}
use Rattle.theory_grammar.specs.Grammar
use Rattle.theory_grammar.specs.Readers.{Reader, measured, give, ◌>>=◌, either, that, same_kind, token}
use Rattle.theory_grammar.specs.Beginnings.{begins_binder, begins_mono, begins_atom, begins_appl, begins_term, begins_comp, sum_sign_of, prod_sign_of, is_some}
use Rattle.theory_grammar.specs.Beginnings.{goes_on_list, goes_on_params, goes_on_appl, goes_on_prod, goes_on_sum, goes_on_rel}
use Rattle.theory_grammar.specs.Phrases.{Deeper, terms_on, terms_there, is_close, atom_reader, part_case, no_part_case, parts_on, unary_case, appl_reader}
use Rattle.theory_grammar.specs.Phrases.{on_prod_sign, prod_on, prod_reader, on_sum_sign, sum_on, sum_reader, rel_reader, triple_reader, params_on, term_case}
use Rattle.theory_grammar.specs.Phrases.{term_reader, ty_case, step_case, step_reader, comp_on, comp_reader}
use Rattle.theory_grammar.proofs.Spells.{Spells, Stops, Leads, leads_of, leads_then, leads_numbered, leads_length, begins_of}
use Rattle.theory_grammar.proofs.Gets.{Gets, giving, then, then_any, until, until_last, then_nothing, last, less_going, taken, taken_less, taken_at}
use Rattle.theory_grammar.proofs.Gets.{taken_alone, passed, ended, first_yes, first_no, first_ended, closed_now, measuring, no_room, operand, past_last}
use Rattle.theory_grammar.proofs.Gets.{stops_less, never_stops, then_less, or_left, or_right, that_not, skip, skip_last}
use Rattle.theory_grammar.proofs.Opens.{opens_mono, opens_atom, opens_appl, opens_prod, opens_rel, opens_term, opens_comp, opens_binder}
use Rattle.theory_grammar.proofs.Monotypes.{Knows, binder_gets, name_gets, number_gets, mono_gets, bracketed_gets, list_goes_on, leads_mark, stops_at}

-- ---- operators

sum_sign_back : (s : SumSign) → sum_sign_of (Sign (Grammar.sum_sign s)) ≡ Some s
sum_sign_back plus = refl
sum_sign_back minus = refl
sum_sign_back bar = refl
sum_sign_back caret = refl

prod_sign_back : (s : ProdSign) → prod_sign_of (Sign (Grammar.prod_sign s)) ≡ Some s
prod_sign_back times = refl
prod_sign_back ampersand = refl
prod_sign_back shift_left = refl
prod_sign_back shift_right = refl

sum_sign_ends : (s : SumSign) → goes_on_prod (Sign (Grammar.sum_sign s)) ≡ false
sum_sign_ends plus = refl
sum_sign_ends minus = refl
sum_sign_ends bar = refl
sum_sign_ends caret = refl

prod_sign_ends : (s : ProdSign) → goes_on_appl (Sign (Grammar.prod_sign s)) ≡ false
prod_sign_ends times = refl
prod_sign_ends ampersand = refl
prod_sign_ends shift_left = refl
prod_sign_ends shift_right = refl

no_sum_sign : (next : SumSign → Reader RawSumRestTree) (o : _) → is_some o ≡ false → on_sum_sign next o ≡ None
no_sum_sign next None h = refl
no_sum_sign next (Some s) h = absurd (let no : true ≡ false = h in cc)

no_prod_sign : (next : ProdSign → Reader RawProdRestTree) (o : _) → is_some o ≡ false → on_prod_sign next o ≡ None
no_prod_sign next None h = refl
no_prod_sign next (Some s) h = absurd (let no : true ≡ false = h in cc)

-- ---- which first tokens are not chosen

no_unary : (d : Deeper) (k : Kind) → begins_atom k ≡ true → unary_case d k ≡ None
no_unary d (Keyword FstWord) h = absurd (let no : false ≡ true = h in cc)
no_unary d (Keyword SndWord) h = absurd (let no : false ≡ true = h in cc)
no_unary d (Keyword NotWord) h = absurd (let no : false ≡ true = h in cc)
no_unary d _ h = refl

no_part : (d : Deeper) (next : Reader RawPartTrees) (k : Kind) → begins_atom k ≡ true → part_case d next k ≡ None
no_part d next (Sign OpenBracketSign) h = absurd (let no : false ≡ true = h in cc)
no_part d next _ h = refl

no_part_left : (k : Kind) → begins_atom k ≡ true → no_part_case k ≡ None
no_part_left (Sign OpenBracketSign) h = absurd (let no : false ≡ true = h in cc)
no_part_left _ h = refl

no_more_part : (d : Deeper) (next : Reader RawPartTrees) (k : Kind) → goes_on_appl k ≡ false → part_case d next k ≡ None
no_more_part d next (Sign OpenBracketSign) h = absurd (let no : true ≡ false = h in cc)
no_more_part d next _ h = refl

no_more_part_left : (k : Kind) → goes_on_appl k ≡ false → no_part_case k ≡ None
no_more_part_left (Sign OpenBracketSign) h = absurd (let no : true ≡ false = h in cc)
no_more_part_left _ h = refl

pub no_close : (k : Kind) → begins_term k ≡ true → is_close k ≡ false
no_close (Sign CloseParenSign) h = absurd (let no : false ≡ true = h in cc)
no_close _ h = refl

no_term_word : (d : Deeper) (k : Kind) → begins_appl k ≡ true → term_case d k ≡ None
no_term_word d (Keyword FunWord) h = absurd (let no : false ≡ true = h in cc)
no_term_word d (Keyword DoWord) h = absurd (let no : false ≡ true = h in cc)
no_term_word d (Keyword FixWord) h = absurd (let no : false ≡ true = h in cc)
no_term_word d _ h = refl

no_step_word : (d : Deeper) (k : Kind) → begins_appl k ≡ true → step_case d k ≡ None
no_step_word d (Keyword AllocWord) h = absurd (let no : false ≡ true = h in cc)
no_step_word d (Keyword GetWord) h = absurd (let no : false ≡ true = h in cc)
no_step_word d (Keyword SetWord) h = absurd (let no : false ≡ true = h in cc)
no_step_word d (Keyword FreeWord) h = absurd (let no : false ≡ true = h in cc)
no_step_word d (Keyword IfWord) h = absurd (let no : false ≡ true = h in cc)
no_step_word d (Keyword ClaimWord) h = absurd (let no : false ≡ true = h in cc)
no_step_word d _ h = refl

pub no_type_sign : (d : Deeper) (k : Kind) → begins_mono k ≡ true → ty_case d k ≡ None
no_type_sign d (Sign OpenBracketSign) h = absurd (let no : false ≡ true = h in cc)
no_type_sign d (Sign OpenBraceSign) h = absurd (let no : false ≡ true = h in cc)
no_type_sign d _ h = refl

-- a word that isn't `that`
pub not_that : {A : Type 0} (begins : Kind → Bool) (kind : Kind) (next : Reader A)
    → ((k : Kind) → begins k ≡ true → same_kind k kind ≡ false)
    → (k : Kind)
    → begins k ≡ true
    → that kind next k ≡ None
not_that begins kind next other k h = that_not k kind next (other k h)

binder_no_bracket : (k : Kind) → begins_binder k ≡ true → same_kind k (Sign OpenBracketSign) ≡ false
binder_no_bracket (Sign OpenBracketSign) h = absurd (let no : false ≡ true = h in cc)
binder_no_bracket _ h = refl

binder_no_ret : (k : Kind) → begins_binder k ≡ true → same_kind k (Keyword RetWord) ≡ false
binder_no_ret (Keyword w) h = absurd (let no : false ≡ true = h in cc)
binder_no_ret _ h = refl

module _ {lim : Limits} (d : Deeper) (l : ℕ) (know : Knows lim d (suc l)) where
  -- ---- lists of terms

  pub terms_before : (ms : RawTermTrees) (mid rest : List Token)
      → Spells lim (Grammar.terms_after l ms) mid rest
      → Stops (list_goes_on goes_on_rel) rest
      → Stops goes_on_rel mid
  unfolding Grammar.terms_after
  terms_before no_terms mid rest s stops =
      subst (Stops goes_on_rel) (sym s)
      (stops_less (list_goes_on goes_on_rel) goes_on_rel rest (λ k h. or_right (same_kind k (Sign CommaSign)) (goes_on_rel k) h) stops)
  terms_before (more_terms m ms) mid rest s stops = stops_at goes_on_rel lim _ _ mid rest refl s

  terms_on_get : (n : ℕ) (ms : RawTermTrees) → Gets lim (list_goes_on goes_on_rel) n (terms_on d n) (Grammar.terms_after l ms) ms
  unfolding Grammar.terms_after terms_on
  terms_on_get zero no_terms = giving
  terms_on_get zero (more_terms m ms) = no_room goes_on_list (leads_mark goes_on_list _ _ refl)
  terms_on_get (suc n) no_terms = ended (λ k h. that_not k (Sign CommaSign) _ (or_left (same_kind k (Sign CommaSign)) (goes_on_rel k) h)) giving
  terms_on_get (suc n) (more_terms m ms) = taken_less _ _ _ refl (λ s at span. then _ (know.term m) (terms_before ms) (last (more_terms m) (terms_on_get n ms)))

  pub more_terms_get : {n : ℕ} (ms : RawTermTrees) → Gets lim (list_goes_on goes_on_rel) n (measured (terms_on d)) (Grammar.terms_after l ms) ms
  more_terms_get ms = measuring (λ k. terms_on_get k ms)

  pub term_leads : (m : RawTermTree) (ns : List Mark) → Leads begins_term (Grammar.term (suc l) m ⨟ ns)
  term_leads m ns = leads_then begins_term (Grammar.term (suc l) m) ns (leads_of begins_term (suc l) (Grammar.term (suc l) m) (opens_term (suc l) m))

  -- what begins with a term isn't a closing bracket
  pub before_close : {A : Type 0} {c : Kind → Bool} {n : ℕ} {other : Reader A} {ms : List Mark} {x : A} (next : Reader A)
      → Leads begins_term ms
      → Gets lim c n other ms x
      → Gets lim c n (either (that (Sign CloseParenSign) next) other) ms x
  before_close next leads gets = passed begins_term leads (not_that begins_term (Sign CloseParenSign) next no_close) gets

  -- ---- atoms

  pub atom_gets : {c : Kind → Bool} {n : ℕ} (a : RawAtomTree) → Gets lim c n (atom_reader d) (Grammar.atom l a) a
  unfolding Grammar.atom atom_reader
  atom_gets (a_name s) = taken_alone _ _ refl (λ there e span. ap a_name span)
  atom_gets (a_number at v) = taken_alone _ _ refl (λ there e span. ap (λ a. a_number a v) e)
  atom_gets (a_true at) = taken_alone _ _ refl (λ there e span. ap a_true e)
  atom_gets (a_false at) = taken_alone _ _ refl (λ there e span. ap a_false e)
  atom_gets (a_null at) = taken_alone _ _ refl (λ there e span. ap a_null e)
  atom_gets (a_place at v) = taken_at (λ a. a_place a v) _ _ _ _ _ _ refl (λ s. last (a_place s.from) (number_gets l v))
  atom_gets (a_eq at t m n) =
      taken_at (λ a. a_eq a t m n) _ _ _ _ _ _ refl (λ s.
      then_any _ (bracketed_gets d l know t)
      (skip _ _ _ refl (until _ _ _ refl (know.term m) (skip _ _ _ refl (until_last _ refl (know.term n) (skip_last _ refl))))))
  atom_gets (a_sel at t b m n) =
      taken_at (λ a. a_sel a t b m n) _ _ _ _ _ _ refl (λ s.
      then_any _ (bracketed_gets d l know t)
      (skip _ _ _ refl (until _ _ _ refl (know.term b)
      (skip _ _ _ refl (until _ _ _ refl (know.term m) (skip _ _ _ refl (until_last _ refl (know.term n) (skip_last _ refl))))))))
  atom_gets (a_unit at) = taken_at a_unit _ _ _ _ _ _ refl (λ s. taken_alone _ _ refl (λ there e span. refl))
  atom_gets (a_brackets at m) =
      taken_at (λ a. a_brackets a m) _ _ _ _ _ _ refl
      (λ s. before_close _ (term_leads m _) (until_last _ refl (know.term m) (taken_alone _ _ refl (λ there e span. refl))))
  atom_gets (a_pair at m n) =
      taken_at (λ a. a_pair a m n) _ _ _ _ _ _ refl (λ s.
      before_close _ (term_leads m _)
      (until _ _ _ refl (know.term m) (taken _ _ _ refl (λ there e span. until_last _ refl (know.term n) (skip_last _ refl)))))
  atom_gets (a_annotated at m a) =
      taken_at (λ b. a_annotated b m a) _ _ _ _ _ _ refl (λ s.
      before_close _ (term_leads m _)
      (until _ _ _ refl (know.term m) (taken _ _ _ refl (λ there e span. until_last _ refl (know.ty a) (skip_last _ refl)))))

  some_terms_get : {n : ℕ} (m : RawTermTree) (ms : RawTermTrees)
      → Gets lim (list_goes_on goes_on_rel) n (terms_there d) (Grammar.terms l (more_terms m ms)) (more_terms m ms)
  unfolding Grammar.terms terms_there
  some_terms_get m ms = first_no _ begins_term (term_leads m _) no_close (then _ (know.term m) (terms_before ms) (last (more_terms m) (more_terms_get ms)))

  -- terms, and the closing bracket after them
  pub terms_close : {A : Type 0} {c : Kind → Bool} {n : ℕ} (make : RawTermTrees → A) (ms : RawTermTrees)
      → Gets lim c n (terms_there d >>= (λ others. token (Sign CloseParenSign) >>= (λ _. give (make others))))
      (Grammar.terms l ms ⨟ sign l CloseParenSign) (make ms)
  unfolding Grammar.terms terms_there
  terms_close make no_terms = closed_now _ no_terms _ _ _ refl (skip_last _ refl)
  terms_close make (more_terms m ms) = until_last _ refl (some_terms_get m ms) (skip_last _ refl)

  pub after_close : (ms : RawTermTrees) (mid rest : List Token) → Spells lim (Grammar.terms_after l ms ⨟ sign l CloseParenSign) mid rest → Stops goes_on_rel mid
  unfolding Grammar.terms_after ◌⨟◌
  after_close no_terms mid rest s = subst (Stops goes_on_rel) (sym s.2) (ap goes_on_rel s.3.kind)
  after_close (more_terms m ms) mid rest s = subst (Stops goes_on_rel) (sym s.2) (ap goes_on_rel s.3.kind)

  -- ---- chains

  parts_get : {n : ℕ} (m k : ℕ) → lim.chain < k + m → 1 ≤ k → (ps : RawPartTrees) → Gets lim goes_on_appl n (parts_on d m) (Grammar.parts l k ps) ps
  unfolding Grammar.atom parts_on
  parts_get zero k past one no_parts = ended no_more_part_left (first_ended _ (λ j h. or_right (same_kind j (Sign OpenBracketSign)) (begins_atom j) h))
  parts_get zero k past one (atom_part a ps) =
      past_last (Grammar.atom l a) _ begins_atom k (omega (arith, past)) (begins_of begins_atom l (Grammar.atom l a) (opens_atom l a))
  parts_get zero k past one (mono_part t ps) =
      taken _ _ _ refl (λ there e span.
      past_last (Grammar.mono l t) _ begins_mono k (omega (arith, past)) (begins_of begins_mono l (Grammar.mono l t) (opens_mono l t)))
  parts_get (suc m) k past one no_parts =
      ended (no_more_part d (parts_on d m)) (first_ended _ (λ j h. or_right (same_kind j (Sign OpenBracketSign)) (begins_atom j) h))
  parts_get (suc m) k past one (atom_part a ps) =
      let leads =
      leads_then begins_atom (numbered k (Grammar.atom l a)) (Grammar.parts l (suc k) ps)
      (leads_numbered begins_atom k (Grammar.atom l a) (leads_of begins_atom l (Grammar.atom l a) (opens_atom l a))) in
      passed begins_atom leads (no_part d (parts_on d m)) (first_yes _ begins_atom leads
      (then_any _ (operand begins_atom k one (begins_of begins_atom l (Grammar.atom l a) (opens_atom l a)) (atom_gets a))
      (last (atom_part a) (parts_get m (suc k) (grind (arith, past)) (omega arith) ps))))
  parts_get (suc m) k past one (mono_part t ps) = taken _ _ _ refl (λ there e span.
      until _ _ _ refl (operand begins_mono k one (begins_of begins_mono l (Grammar.mono l t) (opens_mono l t)) (mono_gets d l know t))
      (skip _ _ _ refl (last (mono_part t) (parts_get m (suc k) (grind (arith, past)) (omega arith) ps))))

  two_operands : lim.chain < 2 + d.further
  two_operands = let h = know.further in omega (arith, h)

  pub appl_gets : {n : ℕ} (a : RawApplTree) → Gets lim goes_on_appl n (appl_reader d) (Grammar.appl l a) a
  unfolding Grammar.atom appl_reader
  appl_gets (l_unary at unary_words.Fst a) =
      taken_at (λ b. l_unary b unary_words.Fst a) _ _ _ _ _ _ refl (λ s. last (l_unary s.from unary_words.Fst) (atom_gets a))
  appl_gets (l_unary at unary_words.Snd a) =
      taken_at (λ b. l_unary b unary_words.Snd a) _ _ _ _ _ _ refl (λ s. last (l_unary s.from unary_words.Snd) (atom_gets a))
  appl_gets (l_unary at unary_words.Not a) =
      taken_at (λ b. l_unary b unary_words.Not a) _ _ _ _ _ _ refl (λ s. last (l_unary s.from unary_words.Not) (atom_gets a))
  appl_gets (l_apply a ps) =
      passed begins_atom (leads_then begins_atom (Grammar.atom l a) _ (leads_of begins_atom l (Grammar.atom l a) (opens_atom l a))) (no_unary d)
      (then_any _ (atom_gets a) (last (l_apply a) (parts_get d.further 2 two_operands (lit≤ tt) ps)))

  prod_before : (k : ℕ) (rest : RawProdRestTree) (mid after : List Token)
      → Spells lim (Grammar.prod_rest l k rest) mid after
      → Stops goes_on_prod after
      → Stops goes_on_appl mid
  unfolding Grammar.atom
  prod_before k x_end mid after s stops =
      subst (Stops goes_on_appl) (sym s)
      (stops_less goes_on_prod goes_on_appl after (λ j h. or_right (is_some (prod_sign_of j)) (goes_on_appl j) h) stops)
  prod_before k (x_more sign' a rest) mid after s stops = stops_at goes_on_appl lim _ _ mid after (prod_sign_ends sign') s

  prod_rest_get : {n : ℕ} (m k : ℕ)
      → lim.chain < k + m
      → 1 ≤ k
      → (rest : RawProdRestTree)
      → Gets lim goes_on_prod n (prod_on d m) (Grammar.prod_rest l k rest) rest
  unfolding Grammar.atom prod_on
  prod_rest_get zero k past one x_end = ended (λ j h. no_prod_sign _ (prod_sign_of j) (or_left (is_some (prod_sign_of j)) (goes_on_appl j) h)) giving
  prod_rest_get zero k past one (x_more s a rest) =
      taken _ _ _ (ap (on_prod_sign _) (prod_sign_back s)) (λ there e span.
      past_last (Grammar.appl l a) _ begins_appl k (omega (arith, past)) (begins_of begins_appl l (Grammar.appl l a) (opens_appl l a)))
  prod_rest_get (suc m) k past one x_end = ended (λ j h. no_prod_sign _ (prod_sign_of j) (or_left (is_some (prod_sign_of j)) (goes_on_appl j) h)) giving
  prod_rest_get (suc m) k past one (x_more s a rest) = taken _ _ _ (ap (on_prod_sign _) (prod_sign_back s)) (λ there e span.
      then _ (operand begins_appl k one (begins_of begins_appl l (Grammar.appl l a) (opens_appl l a)) (appl_gets a))
      (prod_before (suc k) rest) (last (x_more s a) (prod_rest_get m (suc k) (grind (arith, past)) (omega arith) rest)))

  pub prod_gets : {n : ℕ} (p : RawProdTree) → Gets lim goes_on_prod n (prod_reader d) (Grammar.prod l p) p
  unfolding Grammar.atom prod_reader
  prod_gets (x_prod a rest) = then _ (appl_gets a) (prod_before 2 rest) (last (x_prod a) (prod_rest_get d.further 2 two_operands (lit≤ tt) rest))

  sum_before : (k : ℕ) (rest : RawSumRestTree) (mid after : List Token)
      → Spells lim (Grammar.sum_rest l k rest) mid after
      → Stops goes_on_sum after
      → Stops goes_on_prod mid
  unfolding Grammar.atom
  sum_before k s_end mid after s stops =
      subst (Stops goes_on_prod) (sym s)
      (stops_less goes_on_sum goes_on_prod after (λ j h. or_right (is_some (sum_sign_of j)) (goes_on_prod j) h) stops)
  sum_before k (s_more sign' a rest) mid after s stops = stops_at goes_on_prod lim _ _ mid after (sum_sign_ends sign') s

  sum_rest_get : {n : ℕ} (m k : ℕ) → lim.chain < k + m → 1 ≤ k → (rest : RawSumRestTree) → Gets lim goes_on_sum n (sum_on d m) (Grammar.sum_rest l k rest) rest
  unfolding Grammar.atom sum_on
  sum_rest_get zero k past one s_end = ended (λ j h. no_sum_sign _ (sum_sign_of j) (or_left (is_some (sum_sign_of j)) (goes_on_prod j) h)) giving
  sum_rest_get zero k past one (s_more s p rest) =
      taken _ _ _ (ap (on_sum_sign _) (sum_sign_back s)) (λ there e span.
      past_last (Grammar.prod l p) _ begins_appl k (omega (arith, past)) (begins_of begins_appl l (Grammar.prod l p) (opens_prod l p)))
  sum_rest_get (suc m) k past one s_end = ended (λ j h. no_sum_sign _ (sum_sign_of j) (or_left (is_some (sum_sign_of j)) (goes_on_prod j) h)) giving
  sum_rest_get (suc m) k past one (s_more s p rest) = taken _ _ _ (ap (on_sum_sign _) (sum_sign_back s)) (λ there e span.
      then _ (operand begins_appl k one (begins_of begins_appl l (Grammar.prod l p) (opens_prod l p)) (prod_gets p))
      (sum_before (suc k) rest) (last (s_more s p) (sum_rest_get m (suc k) (grind (arith, past)) (omega arith) rest)))

  pub sum_gets : {n : ℕ} (s : RawSumTree) → Gets lim goes_on_sum n (sum_reader d) (Grammar.sum l s) s
  unfolding Grammar.atom sum_reader
  sum_gets (s_sum p rest) = then _ (prod_gets p) (sum_before 2 rest) (last (s_sum p) (sum_rest_get d.further 2 two_operands (lit≤ tt) rest))

  pub rel_gets : {n : ℕ} (r : RawRelTree) → Gets lim goes_on_rel n (rel_reader d) (Grammar.rel l r) r
  unfolding Grammar.atom rel_reader
  rel_gets (r_sum s) =
      then_nothing _ (λ k h. or_right (same_kind k (Sign LessSign)) (goes_on_sum k) h) (sum_gets s)
      (ended (λ k h. that_not k (Sign LessSign) _ (or_left (same_kind k (Sign LessSign)) (goes_on_sum k) h)) giving)
  rel_gets (r_less s r) =
      until _ _ _ refl (sum_gets s)
      (taken _ _ _ refl
      (λ there e span. last (r_less s) (less_going (λ k h. or_right (same_kind k (Sign LessSign)) (goes_on_sum k) h) (sum_gets r))))

  -- ---- triples and terms

  pub triple_gets : {c : Kind → Bool} {n : ℕ} (t : RawTripleTree) → Gets lim c n (triple_reader d) (Grammar.triple l t) t
  unfolding Grammar.triple triple_reader
  triple_gets (triple_of p b m q) =
      until _ _ _ refl (know.formula p)
      (skip _ _ _ refl (then_any _ (binder_gets l b)
      (skip _ _ _ refl
      (until _ _ _ refl (mono_gets d l know m) (skip _ _ _ refl (until_last _ refl (know.formula q) (skip_last _ refl)))))))

  params_get : (n : ℕ) (ps : RawParamTrees) → Gets lim goes_on_params n (params_on d n) (Grammar.params l ps) ps
  unfolding Grammar.params params_on
  params_get zero no_params = giving
  params_get zero (more_params b a ps) = no_room goes_on_params (leads_mark goes_on_params _ _ refl)
  params_get (suc n) no_params = ended (λ k h. that_not k (Sign OpenParenSign) _ h) giving
  params_get (suc n) (more_params b a ps) =
      taken_less _ _ _ refl (λ s at span.
      then_any _ (binder_gets l b)
      (skip _ _ _ refl (until _ _ _ refl (know.ty a) (skip _ _ _ refl (last (more_params b a) (params_get n ps))))))

  pub term_gets : {n : ℕ} (m : RawTermTree) → Gets lim goes_on_rel n (term_reader d) (Grammar.term l m) m
  unfolding Grammar.term term_reader
  term_gets (t_fun at b m) =
      taken_at (λ a. t_fun a b m) _ _ _ _ _ _ refl (λ s.
      passed begins_binder
      (leads_then begins_binder (Grammar.binder l b) _ (leads_of begins_binder l (Grammar.binder l b) (opens_binder l b)))
      (not_that begins_binder (Sign OpenBracketSign) _ binder_no_bracket)
      (then_any _ (binder_gets l b) (skip _ _ _ refl (last (t_fun s.from b) (know.term m)))))
  term_gets (t_fun_mono at a m) =
      taken_at (λ b. t_fun_mono b a m) _ _ _ _ _ _ refl (λ s.
      taken _ _ _ refl
      (λ there e span. then_any _ (name_gets l a) (skip _ _ _ refl (skip _ _ _ refl (last (t_fun_mono s.from a) (know.term m))))))
  term_gets (t_do at e) = taken_at (λ a. t_do a e) _ _ _ _ _ _ refl (λ s. last (t_do s.from) (know.comp e))
  term_gets (t_fix at f ps t e) =
      taken_at (λ a. t_fix a f ps t e) _ _ _ _ _ _ refl (λ s.
      then_any _ (name_gets l f)
      (until _ _ _ refl (measuring (λ k. params_get k ps))
      (skip _ _ _ refl (skip _ _ _ refl (then_any _ (triple_gets t) (skip _ _ _ refl (last (t_fix s.from f ps t) (know.comp e))))))))
  term_gets (t_rel r) = passed begins_appl (leads_of begins_appl l (Grammar.rel l r) (opens_rel l r)) (no_term_word d) (last t_rel (rel_gets r))

  -- ---- computations

  pub step_gets : {n : ℕ} (s : RawStepTree) → Gets lim goes_on_appl n (step_reader d) (Grammar.step l s) s
  unfolding Grammar.step step_reader
  step_gets (s_alloc t a) = taken _ _ _ refl (λ there e span. then_any _ (bracketed_gets d l know t) (last (s_alloc t) (atom_gets a)))
  step_gets (s_get t a) = taken _ _ _ refl (λ there e span. then_any _ (bracketed_gets d l know t) (last (s_get t) (atom_gets a)))
  step_gets (s_set t a b) =
      taken _ _ _ refl (λ there e span. then_any _ (bracketed_gets d l know t) (then_any _ (atom_gets a) (last (s_set t a) (atom_gets b))))
  step_gets (s_free t a) = taken _ _ _ refl (λ there e span. then_any _ (bracketed_gets d l know t) (last (s_free t) (atom_gets a)))
  step_gets (s_if t a e f) =
      taken _ _ _ refl (λ there at span.
      then_any _ (bracketed_gets d l know t)
      (then_any _ (atom_gets a)
      (skip _ _ _ refl
      (until _ _ _ refl (know.comp e) (skip _ _ _ refl (skip _ _ _ refl (until_last _ refl (know.comp f) (skip_last _ refl))))))))
  step_gets (s_claim p) = taken _ _ _ refl (λ there at span. skip _ _ _ refl (until_last _ refl (know.formula p) (skip_last _ refl)))
  step_gets (s_run a) = passed begins_appl (leads_of begins_appl l (Grammar.appl l a) (opens_appl l a)) (no_step_word d) (last s_run (appl_gets a))

  comp_get : (n : ℕ) (e : RawCompTree) → Gets lim goes_on_rel n (comp_on d n) (Grammar.comp l e) e
  unfolding Grammar.comp comp_on
  comp_get zero e = no_room begins_comp (leads_of begins_comp l (Grammar.comp l e) (opens_comp l e))
  comp_get (suc n) (c_ret m) = taken _ _ _ refl (λ there at span. last c_ret (know.term m))
  comp_get (suc n) (c_step b s e) =
      let leads = leads_of begins_binder l (Grammar.binder l b) (opens_binder l b) in
      passed begins_binder (leads_then begins_binder (Grammar.binder l b) _ leads) (not_that begins_binder (Keyword RetWord) _ binder_no_ret)
      (then_less _ (leads_length begins_binder (Grammar.binder l b) leads) (binder_gets l b) (λ mid rest told stops. never_stops mid)
      (skip _ _ _ refl (until _ _ _ refl (step_gets s) (skip _ _ _ refl (last (c_step b s) (comp_get n e))))))

  pub comp_gets : {n : ℕ} (e : RawCompTree) → Gets lim goes_on_rel n (comp_reader d) (Grammar.comp l e) e
  unfolding comp_reader
  comp_gets e = measuring (λ k. comp_get k e)
