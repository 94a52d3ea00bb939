-- Stops at a limit in names, numbers, heaps and monotypes.
use Rattle.htt_lexer_tokens.specs.declared.tokens.Kind.{Kind}
use Rattle.htt_lexer_tokens.specs.declared.tokens.Kind.TheVariants.{Name, Number, Keyword, Sign}
use Rattle.htt_lexer_tokens.specs.declared.tokens.Keyword as a_keyword
use Rattle.htt_lexer_tokens.specs.declared.tokens.Keyword.TheVariants.{WordWord, BoolWord, LocWord, UnitWord, InitWord, MemWord}
use Rattle.htt_lexer_tokens.specs.declared.tokens.Sign as a_sign
use Rattle.htt_lexer_tokens.specs.declared.tokens.Sign.TheVariants.{OpenParenSign, CloseParenSign, OpenBracketSign, CloseBracketSign, CommaSign, UnderscoreSign}
use Rattle.htt_lexer_tokens.specs.declared.tokens.Sign.TheVariants.{StarSign, CaretSign}
use Rattle.htt_parser_trees.specs.declared.place.Span.{Span}
use Rattle.htt_parser_trees.specs.declared.tree.RawHeap.TheVariants as heaps
use Rattle.htt_parser_trees.specs.Trees.{with_right, RawMonoTree, m_name, m_brackets}
use Rattle.theory_grammar.specs.Marks.{Mark, Limits, IsWithin, ◌⨟◌, sign, word, name, number, sign_at, word_at, number_at, numbered, each_after}
use Rattle.theory_grammar.specs.Grammar
use Rattle.theory_grammar.specs.Readers.{Reader, measured, ◌>>=◌, stop, either, that, token, after_commas, Halt}
use Rattle.theory_grammar.specs.Phrases.{Deeper, binder_case, a_binder, name_case, a_name_there, number_case, a_number_there, over_there, heap_case, a_heap}
use Rattle.theory_grammar.specs.Phrases.{mono_right, mono_closes, mono_name_case, mono_inside, mono_case, mono_opens, mono_reader, bracketed, more_monos}
use Rattle.std.proofs.Common.{◌≡◌, ℕ, zero, suc, ◌≤◌, List, [], ◌∷◌, ◌++◌, refl, sym, ap, subst, append-nil}
use Rattle.std.specs.Prelude.{Bool, Some, None, Result, Ok, Err}
use Rattle.theory_reading.proofs.Tells.{renumber}
use Rattle.theory_reading.proofs.Words.{Trusts, Stands, numbered_tells, token_tells, opened, right_marks, in_brackets_again, after_name}
use Rattle.theory_reading.proofs.Words as told
use Rattle.theory_reading_places.proofs.Follows.{in_all, Follows, follow_token}
use Rattle.theory_reading_limits.proofs.Bars.{Held, Barrier, Bars, Barred, Takes, Case, same_ok, forms_id, bars_then, bars_last, bars_give, bars_stop}
use Rattle.theory_reading_limits.proofs.Bars.{bars_reround, bars_either, bars_measured, bars_that}
use Rattle.htt_lexer_tokens.specs.declared.tokens.Token.{Token}
use Rattle.theory_grammar.proofs.Spells.{Spells, Begins}
use Rattle.theory_reading_places.proofs.Words.{Follow}
use Rattle.theory_reading_places.proofs.Words as places

-- the second readers read the same as the first, and are barred where these stop at a limit
pub record Bar (lim : Limits) (d d' : Deeper) (l : ℕ) : Type 0 where
  pub trust : Trusts lim d l
  pub follow : Follow in_all d d'
  pub further : suc d.further ≡ lim.chain
  pub ty : Barred lim d.ty d'.ty (Grammar.ty l)
  pub term : Barred lim d.term d'.term (Grammar.term l)
  pub comp : Barred lim d.comp d'.comp (Grammar.comp l)
  pub formula : Barred lim d.formula d'.formula (Grammar.formula l)
  pub disj : Barred lim d.disj d'.disj (Grammar.disj l)
  pub conj : Barred lim d.conj d'.conj (Grammar.conj l)
  pub star : Barred lim d.star d'.star (Grammar.star l)
  pub mono : Barred lim d.mono d'.mono (Grammar.mono l)
  pub proof : Barred lim d.proof d'.proof (Grammar.proof l)

over_numbered : (lim : Limits) (k : ℕ) (m : Mark) → 1 ≤ lim.chain → m.operand ≡ 1 → (IsWithin lim m → ⊥) → IsWithin lim (record m { operand = k }) → ⊥
over_numbered lim k m one first over within = over (record { level = within.level; operand = subst (λ n. n ≤ lim.chain) (sym first) one })

-- the operand with this number
numbered_barrier : {A : Type 0} (lim : Limits) (ms : A → List Mark) (begins : Kind → Bool) (k : ℕ) (ts : List Token) (halt : Halt) (x : A)
    (first : List Mark) (m : Mark) (others : List Mark)
    → k ≤ lim.chain
    → 1 ≤ lim.chain
    → Begins begins (ms x)
    → ms x ≡ first ++ (m ∷ others)
    → Spells lim first ts halt.rest
    → (IsWithin lim m → ⊥)
    → Barrier lim (λ y. numbered k (ms y)) ts halt x
numbered_barrier lim ms begins k ts halt x [] m others within one opens whole spelled over = record {
  first = [];
  mark = record m { operand = k };
  others = others;
  whole = ap (numbered k) whole;
  spelled = spelled;
  over = over_numbered lim k m one (subst (Begins begins) whole opens).1 over;
}
numbered_barrier lim ms begins k ts halt x (n ∷ first) m others within one opens whole spelled over = record {
  first = numbered k (n ∷ first);
  mark = m;
  others = others;
  whole = ap (numbered k) whole;
  spelled = renumber lim k (n ∷ first) ts halt.rest within spelled;
  over = over;
}

pub numbered_barred : {A : Type 0} {lim : Limits} {r q : Reader A} {ms : A → List Mark} (begins : Kind → Bool) (k : ℕ)
    → k ≤ lim.chain
    → 1 ≤ lim.chain
    → ((x : A) → Begins begins (ms x))
    → Barred lim r q ms
    → Barred lim r q (λ x. numbered k (ms x))
numbered_barred {A = A} {lim = lim} {r = r} {q = q} {ms = ms} begins k within one opens barred = record {
  tells = numbered_tells k within barred.tells;
  same = barred.same;
  bars = record {
    form = forms_id;
    held = λ before ts go carry. held before ts (r ts) (q ts) (barred.bars.held ts ts (λ ns end s. s) (λ a b. refl)) go;
  };
}
  where
    held : (before ts : List Token) (o p : Result (A × List Token) Halt)
        → Held lim ms ts o p
        → ((ns : List Mark) (end : List Token) → Spells lim ns ts end → Spells lim ns before end)
        → Held lim (λ x. numbered k (ms x)) before o p
    held before ts (Ok read) p h go = tt
    held before ts (Err halt) (Err halted) h go = tt
    held before ts (Err halt) (Ok read) h go = λ limit.
        let b = h limit in
        let c = numbered_barrier lim ms begins k ts halt read.0 b.first b.mark b.others within one (opens read.0) b.whole b.spelled b.over in
        record { first = c.first; mark = c.mark; others = c.others; whole = c.whole; spelled = go c.first halt.rest c.spelled; over = c.over }

module _ {lim : Limits} (l : ℕ) (here : Stands lim l) where
  within_here : (m : Mark) → m.level ≡ l → m.operand ≡ 1 → IsWithin lim m
  within_here m level operand =
      record { level = subst (λ n. n ≤ lim.nesting) (sym level) here.level; operand = subst (λ n. n ≤ lim.chain) (sym operand) here.chain }

  module _ {A : Type 0} {round : List Mark → List Mark} {marks : A → List Mark} {next other : Reader A} where
    pub at_word : (w : a_keyword.Keyword) (s : Span)
        → Bars lim (λ ns. round (word_at l w s.from ⨟ ns)) next other marks
        → Takes lim round (Keyword w) s next other marks
    at_word w s then = record {
      mark = record { kind = Keyword w; at = Some s.from; span = None; level = l; operand = 1 };
      same = refl;
      at = refl;
      there = tt;
      within = within_here _ refl refl;
      then = then;
    }

    pub at_sign : (w : a_sign.Sign) (s : Span) → Bars lim (λ ns. round (sign_at l w s.from ⨟ ns)) next other marks → Takes lim round (Sign w) s next other marks
    at_sign w s then = record {
      mark = record { kind = Sign w; at = Some s.from; span = None; level = l; operand = 1 };
      same = refl;
      at = refl;
      there = tt;
      within = within_here _ refl refl;
      then = then;
    }

    pub at_number : (v : ℕ) (s : Span) → Bars lim (λ ns. round (number_at l v s.from ⨟ ns)) next other marks → Takes lim round (Number v) s next other marks
    at_number v s then = record {
      mark = record { kind = Number v; at = Some s.from; span = None; level = l; operand = 1 };
      same = refl;
      at = refl;
      there = tt;
      within = within_here _ refl refl;
      then = then;
    }

    pub a_word : (w : a_keyword.Keyword) (s : Span) → Bars lim (λ ns. round (word l w ⨟ ns)) next other marks → Takes lim round (Keyword w) s next other marks
    a_word w s then = record {
      mark = record { kind = Keyword w; at = None; span = None; level = l; operand = 1 };
      same = refl;
      at = tt;
      there = tt;
      within = within_here _ refl refl;
      then = then;
    }

    pub a_sign' : (w : a_sign.Sign) (s : Span) → Bars lim (λ ns. round (sign l w ⨟ ns)) next other marks → Takes lim round (Sign w) s next other marks
    a_sign' w s then = record {
      mark = record { kind = Sign w; at = None; span = None; level = l; operand = 1 };
      same = refl;
      at = tt;
      there = tt;
      within = within_here _ refl refl;
      then = then;
    }

    a_number' : (v : ℕ) (s : Span) → Bars lim (λ ns. round (number l v ⨟ ns)) next other marks → Takes lim round (Number v) s next other marks
    a_number' v s then = record {
      mark = record { kind = Number v; at = None; span = None; level = l; operand = 1 };
      same = refl;
      at = tt;
      there = tt;
      within = within_here _ refl refl;
      then = then;
    }

    pub a_name' : (s : Span) → Bars lim (λ ns. round (name l s ⨟ ns)) next other marks → Takes lim round Name s next other marks
    a_name' s then = record {
      mark = record { kind = Name; at = None; span = Some s; level = l; operand = 1 };
      same = refl;
      at = tt;
      there = refl;
      within = within_here _ refl refl;
      then = then;
    }

  module _ {A : Type 0} {round : List Mark → List Mark} {marks : A → List Mark} {next other rest otherwise : Reader A} where
    pub or_sign : (w : a_sign.Sign)
        → Bars lim (λ ns. round (sign l w ⨟ ns)) next other marks
        → Bars lim round rest otherwise marks
        → Bars lim round (either (that (Sign w) next) rest) (either (that (Sign w) other) otherwise) marks
    or_sign w then else' = bars_that (record { kind = Sign w; at = None; span = None; level = l; operand = 1 }) refl refl (within_here _ refl refl) then else'

    pub or_word : (w : a_keyword.Keyword)
        → Bars lim (λ ns. round (word l w ⨟ ns)) next other marks
        → Bars lim round rest otherwise marks
        → Bars lim round (either (that (Keyword w) next) rest) (either (that (Keyword w) other) otherwise) marks
    or_word w then else' =
        bars_that (record { kind = Keyword w; at = None; span = None; level = l; operand = 1 }) refl refl (within_here _ refl refl) then
        else'

  token_barred : (w : a_sign.Sign) → Barred lim (token (Sign w)) (token (Sign w)) (λ _. sign l w)
  unfolding token ◌⨟◌
  token_barred w = record {
    tells = token_tells l here w;
    same = same_ok {b = in_all} (λ n m. follow_token (Sign w));
    bars = or_sign w (bars_give tt refl) bars_stop;
  }

  -- a sign that is wanted, and what follows
  pub skip : {A : Type 0} {round : List Mark → List Mark} {marks : A → List Mark} {k j : Unit {0} → Reader A} (w : a_sign.Sign)
      → ((x : Unit {0}) → Bars lim (λ ns. round (sign l w ⨟ ns)) (k x) (j x) marks)
      → Bars lim round (token (Sign w) >>= k) (token (Sign w) >>= j) marks
  skip w then = bars_then (token_barred w) then

  -- ---- words

  pub binder_barred : Barred lim a_binder a_binder (Grammar.binder l)
  unfolding a_binder ◌⨟◌
  binder_barred = record {
    tells = told.binder_tells l here;
    same = same_ok {b = in_all} (λ n m. places.binder_follows);
    bars = bars_either _ _ cases bars_stop;
  }
    where
      cases : (k : Kind) (s : Span) → Case lim (λ ns. ns) (Grammar.binder l) k s (binder_case k) (binder_case k)
      cases Name s = a_name' s (bars_give _ refl)
      cases (Sign UnderscoreSign) s = a_sign' UnderscoreSign s (bars_give _ refl)
      cases _ s = tt

  pub name_barred : Barred lim a_name_there a_name_there (name l)
  unfolding a_name_there ◌⨟◌
  name_barred = record { tells = told.name_tells l here; same = same_ok {b = in_all} (λ n m. places.name_follows); bars = bars_either _ _ cases bars_stop }
    where
      cases : (k : Kind) (s : Span) → Case lim (λ ns. ns) (name l) k s (name_case k) (name_case k)
      cases Name s = a_name' s (bars_give _ refl)
      cases _ s = tt

  pub number_barred : Barred lim a_number_there a_number_there (number l)
  unfolding a_number_there ◌⨟◌
  number_barred = record {
    tells = told.number_tells l here;
    same = same_ok {b = in_all} (λ n m. places.number_follows);
    bars = bars_either _ _ cases bars_stop;
  }
    where
      cases : (k : Kind) (s : Span) → Case lim (λ ns. ns) (number l) k s (number_case k) (number_case k)
      cases (Number v) s = a_number' v s (bars_give _ refl)
      cases _ s = tt

  over_barred : Barred lim over_there over_there (Grammar.over l)
  unfolding over_there ◌⨟◌
  over_barred = record {
    tells = told.over_tells l here;
    same = same_ok {b = in_all} (λ n m. places.over_follows);
    bars = or_sign CaretSign (bars_last Some number_barred.bars (λ x. refl)) (bars_give _ refl);
  }

  pub heap_barred : Barred lim a_heap a_heap (Grammar.heap l)
  unfolding a_heap ◌⨟◌
  heap_barred = record { tells = told.heap_tells l here; same = same_ok {b = in_all} (λ n m. places.heap_follows); bars = bars_either _ _ cases bars_stop }
    where
      cases : (k : Kind) (s : Span) → Case lim (λ ns. ns) (Grammar.heap l) k s (heap_case k) (heap_case k)
      cases Name s = a_name' s (bars_give _ refl)
      cases (Keyword InitWord) s = at_word InitWord s (bars_last (heaps.Init s.from) over_barred.bars (λ n. refl))
      cases (Keyword MemWord) s = at_word MemWord s (bars_last (heaps.Mem s.from) over_barred.bars (λ n. refl))
      cases _ s = tt

  -- ---- lists with commas

  commas_bars : {A : Type 0} (r q : Reader A) (marks : A → List Mark)
      → Barred lim r q marks
      → (n : ℕ)
      → Bars lim (λ ns. ns) (after_commas (Sign CommaSign) r n) (after_commas (Sign CommaSign) q n) (each_after (sign l CommaSign) marks)
  unfolding after_commas each_after ◌⨟◌
  commas_bars r q marks item zero = bars_give _ refl
  commas_bars r q marks item (suc n) =
      or_sign CommaSign (bars_then item (λ x. bars_last (λ xs. x ∷ xs) (commas_bars r q marks item n) (λ xs. refl))) (bars_give _ refl)

  pub more_barred : {A : Type 0} (r q : Reader A) (marks : A → List Mark)
      → ((n m : ℕ) → Follows in_all n m r q)
      → Barred lim r q marks
      → Barred lim (measured (after_commas (Sign CommaSign) r)) (measured (after_commas (Sign CommaSign) q))
      (each_after (sign l CommaSign) marks)
  more_barred r q marks follows item = record {
    tells = told.more_tell l here r marks item.tells;
    same = same_ok (λ n m. places.more_follow r q follows);
    bars = bars_measured (λ n. commas_bars r q marks item n);
  }

-- ---- monotypes

module _ {lim : Limits} (d d' : Deeper) (l : ℕ) (here : Stands lim l) (trust : Bar lim d d' (suc l)) where
  mono_name_bars : (k : Kind) (s : Span) → Case lim (λ ns. ns) (Grammar.mono_name l) k s (mono_name_case k) (mono_name_case k)
  unfolding ◌⨟◌
  mono_name_bars Name s = a_name' l here s (bars_give _ refl)
  mono_name_bars (Keyword WordWord) s = at_word l here WordWord s (bars_give _ refl)
  mono_name_bars (Keyword BoolWord) s = at_word l here BoolWord s (bars_give _ refl)
  mono_name_bars (Keyword LocWord) s = at_word l here LocWord s (bars_give _ refl)
  mono_name_bars (Keyword UnitWord) s = at_word l here UnitWord s (bars_give _ refl)
  mono_name_bars _ s = tt

  mono_name_barred : Barred lim (either mono_name_case stop) (either mono_name_case stop) (Grammar.mono_name l)
  mono_name_barred = record {
    tells = told.mono_name_tells d l here trust.trust;
    same = same_ok {b = in_all} (λ n m. places.mono_name_follows);
    bars = bars_either _ _ mono_name_bars bars_stop;
  }

  right_barred : Barred lim (mono_right d) (mono_right d') (right_marks l)
  unfolding mono_right right_marks ◌⨟◌
  right_barred = record {
    tells = told.right_tells d l here trust.trust;
    same = same_ok (λ n m. places.right_follows d d' trust.follow);
    bars = or_sign l here StarSign (bars_last Some trust.mono.bars (λ m. refl)) (bars_give None refl);
  }

  closes_bars : (opens : List ℕ) (m : RawMonoTree)
      → Bars lim (λ ns. opened l opens (Grammar.mono l m ⨟ ns)) (mono_closes d opens m) (mono_closes d' opens m) (Grammar.mono l)
  unfolding mono_closes opened ◌⨟◌
  closes_bars [] m = bars_give m (append-nil (Grammar.mono l m))
  closes_bars (at ∷ opens) m =
      skip l here CloseParenSign (λ _.
      bars_then right_barred (λ r.
      bars_reround _ _ (λ ns. ap (opened l opens) (in_brackets_again l at m r ns)) (closes_bars opens (with_right (m_brackets at m) r))))

  inside_bars : (opens : List ℕ) → Bars lim (opened l opens) (mono_inside d opens) (mono_inside d' opens) (Grammar.mono l)
  unfolding mono_inside
  inside_bars opens =
      bars_then mono_name_barred (λ x.
      bars_then right_barred
      (λ r. bars_reround _ _ (λ ns. ap (opened l opens) (after_name l x r ns)) (closes_bars opens (with_right (m_name x) r))))

  opens_bars : (n : ℕ) (opens : List ℕ) → Bars lim (opened l opens) (mono_opens d n opens) (mono_opens d' n opens) (Grammar.mono l)
  unfolding mono_opens opened
  opens_bars zero opens = bars_stop
  opens_bars (suc n) opens = bars_either _ _ (cases n opens (λ s. opens_bars n (s.from ∷ opens))) (inside_bars opens)
    where
      cases : (n : ℕ) (opens : List ℕ)
          → ((s : Span) →
          Bars lim (opened l (s.from ∷ opens)) (mono_opens d n (s.from ∷ opens)) (mono_opens d' n (s.from ∷ opens)) (Grammar.mono l))
          → (k : Kind) (s : Span)
          → Case lim (opened l opens) (Grammar.mono l) k s (mono_case (mono_opens d n) opens k) (mono_case (mono_opens d' n) opens k)
      cases n opens next (Sign OpenParenSign) s = at_sign l here OpenParenSign s (next s)
      cases n opens next _ s = tt

  pub mono_barred : Barred lim (mono_reader d) (mono_reader d') (Grammar.mono l)
  unfolding mono_reader opened
  mono_barred = record {
    tells = told.mono_tells d l here trust.trust;
    same = same_ok (λ n m. places.mono_follows d d' trust.follow);
    bars = bars_measured (λ n. opens_bars n []);
  }

  pub bracketed_barred : Barred lim (bracketed d) (bracketed d') (Grammar.in_brackets l)
  unfolding bracketed ◌⨟◌
  bracketed_barred = record {
    tells = told.bracketed_tells d l here trust.trust;
    same = same_ok (λ n m. places.bracketed_follows d d' trust.follow);
    bars = skip l here OpenBracketSign (λ _. bars_then mono_barred (λ m. skip l here CloseBracketSign (λ _. bars_give m refl)));
  }

  pub more_monos_barred : Barred lim (more_monos d) (more_monos d') (each_after (sign l CommaSign) (Grammar.mono l))
  unfolding more_monos
  more_monos_barred = more_barred l here (mono_reader d) (mono_reader d') (Grammar.mono l) (λ n m. places.mono_follows d d' trust.follow) mono_barred
