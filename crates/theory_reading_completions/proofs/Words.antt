-- The readers of names, numbers, heaps and monotypes stop behind what begins some tree.
use Rattle.std.proofs.Common.{◌<◌, arith, ◌≡◌, ℕ, zero, suc, ◌≤◌, List, [], ◌∷◌, ◌++◌, refl, sym, ap, subst, append-nil}
use Rattle.std.specs.Prelude.{Bool, Result, Ok, Err, Some, None}
use Rattle.htt_lexer_tokens.specs.declared.tokens.Kind.{Kind}
use Rattle.htt_lexer_tokens.specs.declared.tokens.Kind.TheVariants.{Name, Number, Keyword, Sign}
use Rattle.htt_lexer_tokens.specs.declared.tokens.Keyword as a_keyword
use Rattle.htt_lexer_tokens.specs.declared.tokens.Keyword.TheVariants.{WordWord, BoolWord, LocWord, UnitWord, InitWord, MemWord}
use Rattle.htt_lexer_tokens.specs.declared.tokens.Sign as a_sign
use Rattle.htt_lexer_tokens.specs.declared.tokens.Sign.TheVariants.{OpenParenSign, CloseParenSign, OpenBracketSign, CloseBracketSign, CommaSign, UnderscoreSign}
use Rattle.htt_lexer_tokens.specs.declared.tokens.Sign.TheVariants.{StarSign, CaretSign}
use Rattle.htt_parser_trees.specs.declared.place.Span.{Span}
use Rattle.htt_parser_trees.specs.declared.tree.RawHeap.TheVariants as heaps
use Rattle.htt_parser_trees.specs.Trees.{with_right, RawMonoTree, m_name, m_brackets}
use Rattle.theory_grammar.specs.Marks.{Mark, Limits, IsWithin, ◌⨟◌, sign, word, name, number, sign_at, word_at, number_at, numbered, each_after, AllFit}
use Rattle.theory_grammar.specs.Grammar
use Rattle.htt_lexer_tokens.specs.declared.tokens.Token.{Token}
use Rattle.theory_grammar.proofs.Spells.{Spells, Begins}
use Rattle.theory_grammar.specs.Readers.{Halt, Why, expected, too_nested, too_long, Reader, measured, give, ◌>>=◌, stop, either, that, token, after_commas}
use Rattle.theory_grammar.specs.Phrases.{Deeper, binder_case, a_binder, name_case, a_name_there, number_case, a_number_there, over_there, heap_case, a_heap}
use Rattle.theory_grammar.specs.Phrases.{mono_right, mono_closes, mono_name_case, mono_inside, mono_case, mono_opens, mono_reader, bracketed, more_monos}
use Rattle.theory_reading.proofs.Tells.{renumber}
use Rattle.theory_reading.proofs.Words.{Trusts, Stands, numbered_tells, token_tells, opened, right_marks, in_brackets_again, after_name}
use Rattle.theory_reading.proofs.Words as words
use Rattle.theory_reading_completions.proofs.Halts.{Halts, Ends, Completion, Stopped, Past, Takes, Case, halts_then, halts_last, halts_give, halts_stop}
use Rattle.theory_reading_completions.proofs.Halts.{halts_reround, halts_either, halts_choice, halts_that, ends_measured, halts_measured}
use Rattle.theory_reading_completions.proofs.Starts.{the_span}

-- the readers at this level tell the truth, and stop behind what begins some tree
pub record Ending (lim : Limits) (d : Deeper) (l : ℕ) : Type 0 where
  pub trust : Trusts lim d l
  pub further : suc d.further ≡ lim.chain
  pub ty : Ends lim d.ty (Grammar.ty l)
  pub term : Ends lim d.term (Grammar.term l)
  pub comp : Ends lim d.comp (Grammar.comp l)
  pub formula : Ends lim d.formula (Grammar.formula l)
  pub disj : Ends lim d.disj (Grammar.disj l)
  pub conj : Ends lim d.conj (Grammar.conj l)
  pub star : Ends lim d.star (Grammar.star l)
  pub mono : Ends lim d.mono (Grammar.mono l)
  pub proof : Ends lim d.proof (Grammar.proof l)

fit_numbered : (k : ℕ) (ts : List Token) (ms : List Mark) → AllFit ts ms → AllFit ts (numbered k ms)
fit_numbered k [] [] h = tt
fit_numbered k [] (m ∷ ms) h = absurd h
fit_numbered k (t ∷ ts) [] h = absurd h
fit_numbered k (t ∷ ts) (m ∷ ms) h = (record { kind = h.0.kind; at = h.0.at; span = h.0.span }, h.1)

-- the operand with this number; the first token of an operand isn't refused as one too many by its own reader
numbered_past : (lim : Limits) (k : ℕ) (why : Why) (rest ts : List Token) (begins : Kind → Bool) (ms : List Mark)
    → 1 ≤ lim.chain
    → Begins begins ms
    → Past lim why rest ts ms
    → Past lim why rest ts (numbered k ms)
numbered_past lim k expected rest ts begins ms one opens h = tt
numbered_past lim k too_nested (u ∷ rest) (t ∷ ts) begins (m ∷ ms) one opens h = h
numbered_past lim k too_long (u ∷ rest) (t ∷ ts) begins (m ∷ ms) one opens h = absurd (let no : ⊥ = past_one m.operand lim.chain opens.1 one h.1 in no)
  where
    past_one : (n chain : ℕ) → n ≡ 1 → 1 ≤ chain → chain < n → ⊥
    past_one n chain is one past = omega (arith, is, one, past)
numbered_past lim k _ _ _ begins _ one opens h = absurd h

numbered_stop : {A : Type 0} (lim : Limits) (ms : A → List Mark) (begins : Kind → Bool) (k : ℕ) (ts : List Token) (halt : Halt) (tree : A)
    (first others : List Mark) (tokens : List Token)
    → k ≤ lim.chain
    → 1 ≤ lim.chain
    → Begins begins (ms tree)
    → ms tree ≡ first ++ others
    → Spells lim first ts halt.rest
    → AllFit tokens others
    → Past lim halt.why halt.rest tokens others
    → Completion lim (λ x. numbered k (ms x)) ts halt
numbered_stop lim ms begins k ts halt tree [] others tokens within one opens whole spelled fit past = record {
  tree = tree;
  first = [];
  others = numbered k others;
  tokens = tokens;
  whole = ap (numbered k) whole;
  spelled = spelled;
  fit = fit_numbered k tokens others fit;
  past = numbered_past lim k halt.why halt.rest tokens begins others one (subst (Begins begins) whole opens) past;
}
numbered_stop lim ms begins k ts halt tree (m ∷ first) others tokens within one opens whole spelled fit past = record {
  tree = tree;
  first = numbered k (m ∷ first);
  others = others;
  tokens = tokens;
  whole = ap (numbered k) whole;
  spelled = renumber lim k (m ∷ first) ts halt.rest within spelled;
  fit = fit;
  past = past;
}

pub numbered_ends : {A : Type 0} {lim : Limits} {r : Reader A} {ms : A → List Mark} (begins : Kind → Bool) (k : ℕ)
    → k ≤ lim.chain
    → 1 ≤ lim.chain
    → ((x : A) → Begins begins (ms x))
    → Ends lim r ms
    → Ends lim r (λ x. numbered k (ms x))
numbered_ends {A = A} {lim = lim} {r = r} {ms = ms} begins k within one opens ends =
    let w = ends.halts.whole in
    record {
      tells = numbered_tells k within ends.tells;
      halts = record {
        whole = record {
          tree = w.tree;
          others = numbered k w.others;
          tokens = w.tokens;
          same = ap (numbered k) w.same;
          fit = fit_numbered k w.tokens w.others w.fit;
        };
        halted = λ before ts go carry. stopped before ts (r ts) (ends.halts.halted ts ts (λ ns end s. s) (λ a b. refl)) go carry;
      };
    }
  where
    stopped : (before ts : List Token) (o : Result (A × List Token) Halt)
        → Stopped lim ms ts o
        → ((ns : List Mark) (end : List Token) → Spells lim ns ts end → Spells lim ns before end)
        → ((a b : List Mark) → a ++ b ≡ a ++ b)
        → Stopped lim (λ x. numbered k (ms x)) before o
    stopped before ts (Ok read) h go carry = tt
    stopped before ts (Err halt) h go carry =
        let c = numbered_stop lim ms begins k ts halt h.tree h.first h.others h.tokens within one (opens h.tree) h.whole h.spelled h.fit h.past in
        record {
          tree = c.tree;
          first = c.first;
          others = c.others;
          tokens = c.tokens;
          whole = c.whole;
          spelled = go c.first halt.rest c.spelled;
          fit = c.fit;
          past = c.past;
        }

module _ {lim : Limits} (l : ℕ) (here : Stands lim l) where
  within_here : (m : Mark) → m.level ≡ l → m.operand ≡ 1 → IsWithin lim m
  within_here m level operand =
      record { level = subst (λ n. n ≤ lim.nesting) (sym level) here.level; operand = subst (λ n. n ≤ lim.chain) (sym operand) here.chain }

  module _ {A : Type 0} {round : List Mark → List Mark} {marks : A → List Mark} where
    pub at_word : (w : a_keyword.Keyword) (s : Span) (next : Reader A)
        → Halts lim (λ ns. round (word_at l w s.from ⨟ ns)) next marks
        → Takes lim round (Keyword w) s next marks
    at_word w s next then = record {
      mark = record { kind = Keyword w; at = Some s.from; span = None; level = l; operand = 1 };
      same = refl;
      at = refl;
      there = tt;
      within = within_here _ refl refl;
      then = then;
    }

    pub at_sign : (w : a_sign.Sign) (s : Span) (next : Reader A)
        → Halts lim (λ ns. round (sign_at l w s.from ⨟ ns)) next marks
        → Takes lim round (Sign w) s next marks
    at_sign w s next then = record {
      mark = record { kind = Sign w; at = Some s.from; span = None; level = l; operand = 1 };
      same = refl;
      at = refl;
      there = tt;
      within = within_here _ refl refl;
      then = then;
    }

    pub at_number : (v : ℕ) (s : Span) (next : Reader A)
        → Halts lim (λ ns. round (number_at l v s.from ⨟ ns)) next marks
        → Takes lim round (Number v) s next marks
    at_number v s next then = record {
      mark = record { kind = Number v; at = Some s.from; span = None; level = l; operand = 1 };
      same = refl;
      at = refl;
      there = tt;
      within = within_here _ refl refl;
      then = then;
    }

    pub a_word : (w : a_keyword.Keyword) (s : Span) (next : Reader A)
        → Halts lim (λ ns. round (word l w ⨟ ns)) next marks
        → Takes lim round (Keyword w) s next marks
    a_word w s next then = record {
      mark = record { kind = Keyword w; at = None; span = None; level = l; operand = 1 };
      same = refl;
      at = tt;
      there = tt;
      within = within_here _ refl refl;
      then = then;
    }

    pub a_sign' : (w : a_sign.Sign) (s : Span) (next : Reader A) → Halts lim (λ ns. round (sign l w ⨟ ns)) next marks → Takes lim round (Sign w) s next marks
    a_sign' w s next then = record {
      mark = record { kind = Sign w; at = None; span = None; level = l; operand = 1 };
      same = refl;
      at = tt;
      there = tt;
      within = within_here _ refl refl;
      then = then;
    }

    pub a_number' : (v : ℕ) (s : Span) (next : Reader A) → Halts lim (λ ns. round (number l v ⨟ ns)) next marks → Takes lim round (Number v) s next marks
    a_number' v s next then = record {
      mark = record { kind = Number v; at = None; span = None; level = l; operand = 1 };
      same = refl;
      at = tt;
      there = tt;
      within = within_here _ refl refl;
      then = then;
    }

    pub a_name' : (s : Span) (next : Reader A) → Halts lim (λ ns. round (name l s ⨟ ns)) next marks → Takes lim round Name s next marks
    a_name' s next then = record {
      mark = record { kind = Name; at = None; span = Some s; level = l; operand = 1 };
      same = refl;
      at = tt;
      there = refl;
      within = within_here _ refl refl;
      then = then;
    }

    pub or_sign : (w : a_sign.Sign) (next otherwise : Reader A)
        → Halts lim (λ ns. round (sign l w ⨟ ns)) next marks
        → Halts lim round otherwise marks
        → Halts lim round (either (that (Sign w) next) otherwise) marks
    or_sign w next otherwise then other =
        halts_that (record { kind = Sign w; at = None; span = None; level = l; operand = 1 }) refl refl (within_here _ refl refl) next
        otherwise then other

    pub or_word : (w : a_keyword.Keyword) (next otherwise : Reader A)
        → Halts lim (λ ns. round (word l w ⨟ ns)) next marks
        → Halts lim round otherwise marks
        → Halts lim round (either (that (Keyword w) next) otherwise) marks
    or_word w next otherwise then other =
        halts_that (record { kind = Keyword w; at = None; span = None; level = l; operand = 1 }) refl refl (within_here _ refl refl) next
        otherwise then other

  pub token_ends : (w : a_sign.Sign) → Ends lim (token (Sign w)) (λ _. sign l w)
  unfolding token ◌⨟◌
  token_ends w = record {
    tells = words.token_tells l here w;
    halts =
        or_sign w (give tt) stop (halts_give tt refl)
        (halts_stop (record {
          tree = tt;
          others = sign l w;
          tokens = record { kind = Sign w; from = 0; to = 0 } ∷ [];
          same = refl;
          fit = (record { kind = refl; at = tt; span = tt }, tt);
        }));
  }

  -- a sign that is wanted, and what follows
  pub skip : {A : Type 0} {round : List Mark → List Mark} {marks : A → List Mark} (w : a_sign.Sign) (k : Unit {0} → Reader A)
      → Halts lim (λ ns. round (sign l w ⨟ ns)) (k tt) marks
      → Halts lim round (token (Sign w) >>= k) marks
  skip w k then = halts_then k (token_ends w) (λ x. told_unit k x then)
    where
      told_unit : {A : Type 0} {round : List Mark → List Mark} {marks : A → List Mark} (k : Unit {0} → Reader A) (x : Unit {0})
          → Halts lim round (k tt) marks
          → Halts lim round (k x) marks
      told_unit k x then = then

  -- ---- words

  pub binder_ends : Ends lim a_binder (Grammar.binder l)
  unfolding a_binder ◌⨟◌
  binder_ends = record { tells = words.binder_tells l here; halts = halts_choice _ (cases (Sign UnderscoreSign) the_span) cases }
    where
      cases : (k : Kind) (s : Span) → Case lim (λ ns. ns) (Grammar.binder l) k s (binder_case k)
      cases Name s = a_name' s _ (halts_give _ refl)
      cases (Sign UnderscoreSign) s = a_sign' UnderscoreSign s _ (halts_give _ refl)
      cases _ s = tt

  pub name_ends : Ends lim a_name_there (name l)
  unfolding a_name_there ◌⨟◌
  name_ends = record { tells = words.name_tells l here; halts = halts_choice _ (cases Name the_span) cases }
    where
      cases : (k : Kind) (s : Span) → Case lim (λ ns. ns) (name l) k s (name_case k)
      cases Name s = a_name' s _ (halts_give _ refl)
      cases _ s = tt

  pub number_ends : Ends lim a_number_there (number l)
  unfolding a_number_there ◌⨟◌
  number_ends = record { tells = words.number_tells l here; halts = halts_choice _ (cases (Number 0) the_span) cases }
    where
      cases : (k : Kind) (s : Span) → Case lim (λ ns. ns) (number l) k s (number_case k)
      cases (Number v) s = a_number' v s _ (halts_give _ refl)
      cases _ s = tt

  pub over_ends : Ends lim over_there (Grammar.over l)
  unfolding over_there ◌⨟◌
  over_ends = record { tells = words.over_tells l here; halts = or_sign CaretSign _ _ (halts_last Some number_ends (λ x. refl)) (halts_give _ refl) }

  pub heap_ends : Ends lim a_heap (Grammar.heap l)
  unfolding a_heap ◌⨟◌
  heap_ends = record { tells = words.heap_tells l here; halts = halts_choice _ (cases Name the_span) cases }
    where
      cases : (k : Kind) (s : Span) → Case lim (λ ns. ns) (Grammar.heap l) k s (heap_case k)
      cases Name s = a_name' s _ (halts_give _ refl)
      cases (Keyword InitWord) s = at_word InitWord s _ (halts_last (heaps.Init s.from) over_ends (λ n. refl))
      cases (Keyword MemWord) s = at_word MemWord s _ (halts_last (heaps.Mem s.from) over_ends (λ n. refl))
      cases _ s = tt

  -- ---- lists with commas

  pub commas_end : {A : Type 0} (r : Reader A) (marks : A → List Mark)
      → Ends lim r marks
      → (n : ℕ)
      → Ends lim (after_commas (Sign CommaSign) r n) (each_after (sign l CommaSign) marks)
  unfolding after_commas each_after ◌⨟◌
  commas_end r marks item zero = record { tells = words.commas_tell l here r marks item.tells zero; halts = halts_give _ refl }
  commas_end r marks item (suc n) = record {
    tells = words.commas_tell l here r marks item.tells (suc n);
    halts =
        or_sign CommaSign _ _ (halts_then _ item (λ x. halts_last (λ xs. x ∷ xs) (commas_end r marks item n) (λ xs. refl)))
        (halts_give _ refl);
  }

  pub more_end : {A : Type 0} (r : Reader A) (marks : A → List Mark)
      → Ends lim r marks
      → Ends lim (measured (after_commas (Sign CommaSign) r)) (each_after (sign l CommaSign) marks)
  more_end r marks item = ends_measured (λ n. commas_end r marks item n)

-- ---- monotypes

module _ {lim : Limits} (d : Deeper) (l : ℕ) (here : Stands lim l) (trust : Ending lim d (suc l)) where
  mono_name_halts : (k : Kind) (s : Span) → Case lim (λ ns. ns) (Grammar.mono_name l) k s (mono_name_case k)
  unfolding ◌⨟◌
  mono_name_halts Name s = a_name' l here s _ (halts_give _ refl)
  mono_name_halts (Keyword WordWord) s = at_word l here WordWord s _ (halts_give _ refl)
  mono_name_halts (Keyword BoolWord) s = at_word l here BoolWord s _ (halts_give _ refl)
  mono_name_halts (Keyword LocWord) s = at_word l here LocWord s _ (halts_give _ refl)
  mono_name_halts (Keyword UnitWord) s = at_word l here UnitWord s _ (halts_give _ refl)
  mono_name_halts _ s = tt

  pub mono_name_ends : Ends lim (either mono_name_case stop) (Grammar.mono_name l)
  mono_name_ends = record {
    tells = words.mono_name_tells d l here trust.trust;
    halts = halts_choice _ (mono_name_halts (Keyword WordWord) the_span) mono_name_halts;
  }

  pub right_ends : Ends lim (mono_right d) (right_marks l)
  unfolding mono_right right_marks ◌⨟◌
  right_ends = record {
    tells = words.right_tells d l here trust.trust;
    halts = or_sign l here StarSign _ _ (halts_last Some trust.mono (λ m. refl)) (halts_give None refl);
  }

  closes_halts : (opens : List ℕ) (m : RawMonoTree) → Halts lim (λ ns. opened l opens (Grammar.mono l m ⨟ ns)) (mono_closes d opens m) (Grammar.mono l)
  unfolding mono_closes opened ◌⨟◌
  closes_halts [] m = halts_give m (append-nil (Grammar.mono l m))
  closes_halts (at ∷ opens) m =
      skip l here CloseParenSign _
      (halts_then _ right_ends (λ r.
      halts_reround _ _ (λ ns. ap (opened l opens) (in_brackets_again l at m r ns)) (closes_halts opens (with_right (m_brackets at m) r))))

  inside_halts : (opens : List ℕ) → Halts lim (opened l opens) (mono_inside d opens) (Grammar.mono l)
  unfolding mono_inside
  inside_halts opens =
      halts_then _ mono_name_ends (λ x.
      halts_then _ right_ends
      (λ r. halts_reround _ _ (λ ns. ap (opened l opens) (after_name l x r ns)) (closes_halts opens (with_right (m_name x) r))))

  opens_halts : (n : ℕ) (opens : List ℕ) → Halts lim (opened l opens) (mono_opens d n opens) (Grammar.mono l)
  unfolding mono_opens opened
  opens_halts zero opens = halts_stop (inside_halts opens).whole
  opens_halts (suc n) opens = halts_either _ (cases n opens (λ s. opens_halts n (s.from ∷ opens))) (inside_halts opens)
    where
      cases : (n : ℕ) (opens : List ℕ)
          → ((s : Span) → Halts lim (opened l (s.from ∷ opens)) (mono_opens d n (s.from ∷ opens)) (Grammar.mono l))
          → (k : Kind) (s : Span)
          → Case lim (opened l opens) (Grammar.mono l) k s (mono_case (mono_opens d n) opens k)
      cases n opens next (Sign OpenParenSign) s = at_sign l here OpenParenSign s _ (next s)
      cases n opens next _ s = tt

  pub mono_ends : Ends lim (mono_reader d) (Grammar.mono l)
  unfolding mono_reader opened
  mono_ends = record { tells = words.mono_tells d l here trust.trust; halts = halts_measured (λ n. opens_halts n []) }

  pub bracketed_ends : Ends lim (bracketed d) (Grammar.in_brackets l)
  unfolding bracketed ◌⨟◌
  bracketed_ends = record {
    tells = words.bracketed_tells d l here trust.trust;
    halts = skip l here OpenBracketSign _ (halts_then _ mono_ends (λ m. skip l here CloseBracketSign _ (halts_give m refl)));
  }

  pub more_monos_end : Ends lim (more_monos d) (each_after (sign l CommaSign) (Grammar.mono l))
  unfolding more_monos
  more_monos_end = more_end l here (mono_reader d) (Grammar.mono l) mono_ends
