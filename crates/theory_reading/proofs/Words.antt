-- The readers of names, numbers, heaps and monotypes tell the truth.
use Rattle.std.proofs.Common.{◌≡◌, ℕ, zero, suc, ◌≤◌, List, [], ◌∷◌, ◌++◌, refl, sym, ◌∙◌, ap, subst, append_assoc, append-nil}
use Rattle.std.specs.Prelude.{Option, Some, None}
use Rattle.htt_lexer_tokens.specs.declared.tokens.Kind.{Kind}
use Rattle.htt_lexer_tokens.specs.declared.tokens.Kind.TheVariants.{Name, Number, Keyword, Sign}
use Rattle.htt_lexer_tokens.specs.declared.tokens.Keyword as a_keyword
use Rattle.htt_lexer_tokens.specs.declared.tokens.Keyword.TheVariants.{WordWord, BoolWord, LocWord, UnitWord, InitWord, MemWord}
use Rattle.htt_lexer_tokens.specs.declared.tokens.Sign as a_sign
use Rattle.htt_lexer_tokens.specs.declared.tokens.Sign.TheVariants.{OpenParenSign, CloseParenSign, OpenBracketSign, CloseBracketSign, CommaSign, UnderscoreSign}
use Rattle.htt_lexer_tokens.specs.declared.tokens.Sign.TheVariants.{StarSign, CaretSign}
use Rattle.htt_parser_trees.specs.declared.place.Span.{Span}
use Rattle.htt_parser_trees.specs.declared.mono.MonoName.{MonoName}
use Rattle.htt_parser_trees.specs.declared.tree.RawHeap.TheVariants as heaps
use Rattle.htt_parser_trees.specs.Trees.{with_right, RawFactorTree, RawMonoTree, m_name, m_brackets}
use Rattle.theory_grammar.specs.Marks.{Mark, Limits, IsWithin, ◌⨟◌, sign, word, name, number, sign_at, word_at, number_at, numbered, each_after}
use Rattle.theory_grammar.specs.Grammar
use Rattle.theory_grammar.specs.Readers.{Reader, measured, give, ◌>>=◌, stop, either, that, token, after_commas}
use Rattle.theory_grammar.specs.Phrases.{Deeper, binder_case, a_binder, name_case, a_name_there, number_case, a_number_there, over_there, heap_case, a_heap}
use Rattle.theory_grammar.specs.Phrases.{mono_right, mono_closes, mono_name_case, mono_inside, mono_case, mono_opens, mono_reader, bracketed, more_monos}
use Rattle.theory_reading.proofs.Tells.{Tells, Told, alone, told_then, told_last, told_give, told_stop, Taken, Case, told_either, tells_measured, told_that}
use Rattle.theory_reading.proofs.Tells.{renumber, reround}

-- the readers at this level tell the truth
pub record Trusts (lim : Limits) (d : Deeper) (l : ℕ) : Type 0 where
  pub further : suc d.further ≤ lim.chain
  pub ty : Tells lim d.ty (Grammar.ty l)
  pub term : Tells lim d.term (Grammar.term l)
  pub comp : Tells lim d.comp (Grammar.comp l)
  pub formula : Tells lim d.formula (Grammar.formula l)
  pub disj : Tells lim d.disj (Grammar.disj l)
  pub conj : Tells lim d.conj (Grammar.conj l)
  pub star : Tells lim d.star (Grammar.star l)
  pub mono : Tells lim d.mono (Grammar.mono l)
  pub proof : Tells lim d.proof (Grammar.proof l)

-- a level at which tokens may stand
pub record Stands (lim : Limits) (l : ℕ) : Type 0 where
  pub level : l ≤ lim.nesting
  pub chain : 1 ≤ lim.chain

pub numbered_tells : {A : Type 0} {lim : Limits} {r : Reader A} {ms : A → List Mark} (k : ℕ)
    → k ≤ lim.chain
    → Tells lim r ms
    → Tells lim r (λ x. numbered k (ms x))
numbered_tells {lim = lim} {ms = ms} k within tells = record { tells = λ ts x rest e. renumber lim k (ms x) ts rest within (tells.tells ts x rest e) }

module _ {lim : Limits} (l : ℕ) (here : Stands lim l) where
  within_here : (m : Mark) → m.level ≡ l → m.operand ≡ 1 → IsWithin lim m
  within_here m level operand =
      record { level = subst (λ n. n ≤ lim.nesting) (sym level) here.level; operand = subst (λ n. n ≤ lim.chain) (sym operand) here.chain }

  module _ {A : Type 0} {round : List Mark → List Mark} {marks : A → List Mark} where
    pub at_word : (w : a_keyword.Keyword) (s : Span) (next : Reader A)
        → Told lim (λ ns. round (word_at l w s.from ⨟ ns)) next marks
        → Taken lim round (Keyword w) s next marks
    at_word w s next then = record {
      mark = record { kind = Keyword w; at = Some s.from; span = None; level = l; operand = 1 };
      same = refl;
      at = refl;
      there = tt;
      within = within_here _ refl refl;
      then = then;
    }

    pub at_sign : (w : a_sign.Sign) (s : Span) (next : Reader A)
        → Told lim (λ ns. round (sign_at l w s.from ⨟ ns)) next marks
        → Taken lim round (Sign w) s next marks
    at_sign w s next then = record {
      mark = record { kind = Sign w; at = Some s.from; span = None; level = l; operand = 1 };
      same = refl;
      at = refl;
      there = tt;
      within = within_here _ refl refl;
      then = then;
    }

    pub at_number : (v : ℕ) (s : Span) (next : Reader A)
        → Told lim (λ ns. round (number_at l v s.from ⨟ ns)) next marks
        → Taken lim round (Number v) s next marks
    at_number v s next then = record {
      mark = record { kind = Number v; at = Some s.from; span = None; level = l; operand = 1 };
      same = refl;
      at = refl;
      there = tt;
      within = within_here _ refl refl;
      then = then;
    }

    pub a_word : (w : a_keyword.Keyword) (s : Span) (next : Reader A)
        → Told lim (λ ns. round (word l w ⨟ ns)) next marks
        → Taken lim round (Keyword w) s next marks
    a_word w s next then = record {
      mark = record { kind = Keyword w; at = None; span = None; level = l; operand = 1 };
      same = refl;
      at = tt;
      there = tt;
      within = within_here _ refl refl;
      then = then;
    }

    pub a_sign' : (w : a_sign.Sign) (s : Span) (next : Reader A) → Told lim (λ ns. round (sign l w ⨟ ns)) next marks → Taken lim round (Sign w) s next marks
    a_sign' w s next then = record {
      mark = record { kind = Sign w; at = None; span = None; level = l; operand = 1 };
      same = refl;
      at = tt;
      there = tt;
      within = within_here _ refl refl;
      then = then;
    }

    pub a_number' : (v : ℕ) (s : Span) (next : Reader A) → Told lim (λ ns. round (number l v ⨟ ns)) next marks → Taken lim round (Number v) s next marks
    a_number' v s next then = record {
      mark = record { kind = Number v; at = None; span = None; level = l; operand = 1 };
      same = refl;
      at = tt;
      there = tt;
      within = within_here _ refl refl;
      then = then;
    }

    pub a_name' : (s : Span) (next : Reader A) → Told lim (λ ns. round (name l s ⨟ ns)) next marks → Taken lim round Name s next marks
    a_name' s next then = record {
      mark = record { kind = Name; at = None; span = Some s; level = l; operand = 1 };
      same = refl;
      at = tt;
      there = refl;
      within = within_here _ refl refl;
      then = then;
    }

    pub or_sign : (w : a_sign.Sign) (next otherwise : Reader A)
        → Told lim (λ ns. round (sign l w ⨟ ns)) next marks
        → Told lim round otherwise marks
        → Told lim round (either (that (Sign w) next) otherwise) marks
    or_sign w next otherwise then other =
        told_that (record { kind = Sign w; at = None; span = None; level = l; operand = 1 }) refl refl (within_here _ refl refl) next
        otherwise then other

    pub or_word : (w : a_keyword.Keyword) (next otherwise : Reader A)
        → Told lim (λ ns. round (word l w ⨟ ns)) next marks
        → Told lim round otherwise marks
        → Told lim round (either (that (Keyword w) next) otherwise) marks
    or_word w next otherwise then other =
        told_that (record { kind = Keyword w; at = None; span = None; level = l; operand = 1 }) refl refl (within_here _ refl refl) next
        otherwise then other

  pub token_tells : (w : a_sign.Sign) → Tells lim (token (Sign w)) (λ _. sign l w)
  unfolding token ◌⨟◌
  token_tells w = alone (or_sign w (give tt) stop (told_give tt refl) told_stop)

  -- a sign that is wanted, and what follows
  pub skip : {A : Type 0} {round : List Mark → List Mark} {marks : A → List Mark} (w : a_sign.Sign) (k : Unit {0} → Reader A)
      → Told lim (λ ns. round (sign l w ⨟ ns)) (k tt) marks
      → Told lim round (token (Sign w) >>= k) marks
  skip w k then = told_then k (token_tells w) (λ x. told_unit k x then)
    where
      told_unit : {A : Type 0} {round : List Mark → List Mark} {marks : A → List Mark} (k : Unit {0} → Reader A) (x : Unit {0})
          → Told lim round (k tt) marks
          → Told lim round (k x) marks
      told_unit k x then = then

  -- ---- words

  pub binder_tells : Tells lim a_binder (Grammar.binder l)
  unfolding a_binder ◌⨟◌
  binder_tells = alone (told_either _ cases told_stop)
    where
      cases : (k : Kind) (s : Span) → Case lim (λ ns. ns) (Grammar.binder l) k s (binder_case k)
      cases Name s = a_name' s _ (told_give _ refl)
      cases (Sign UnderscoreSign) s = a_sign' UnderscoreSign s _ (told_give _ refl)
      cases _ s = tt

  pub name_tells : Tells lim a_name_there (name l)
  unfolding a_name_there ◌⨟◌
  name_tells = alone (told_either _ cases told_stop)
    where
      cases : (k : Kind) (s : Span) → Case lim (λ ns. ns) (name l) k s (name_case k)
      cases Name s = a_name' s _ (told_give _ refl)
      cases _ s = tt

  pub number_tells : Tells lim a_number_there (number l)
  unfolding a_number_there ◌⨟◌
  number_tells = alone (told_either _ cases told_stop)
    where
      cases : (k : Kind) (s : Span) → Case lim (λ ns. ns) (number l) k s (number_case k)
      cases (Number v) s = a_number' v s _ (told_give _ refl)
      cases _ s = tt

  pub over_tells : Tells lim over_there (Grammar.over l)
  unfolding over_there ◌⨟◌
  over_tells = alone (or_sign CaretSign _ _ (told_last Some number_tells (λ x. refl)) (told_give _ refl))

  pub heap_tells : Tells lim a_heap (Grammar.heap l)
  unfolding a_heap ◌⨟◌
  heap_tells = alone (told_either _ cases told_stop)
    where
      cases : (k : Kind) (s : Span) → Case lim (λ ns. ns) (Grammar.heap l) k s (heap_case k)
      cases Name s = a_name' s _ (told_give _ refl)
      cases (Keyword InitWord) s = at_word InitWord s _ (told_last (heaps.Init s.from) over_tells (λ n. refl))
      cases (Keyword MemWord) s = at_word MemWord s _ (told_last (heaps.Mem s.from) over_tells (λ n. refl))
      cases _ s = tt

  -- ---- lists with commas

  pub commas_tell : {A : Type 0} (r : Reader A) (marks : A → List Mark)
      → Tells lim r marks
      → (n : ℕ)
      → Tells lim (after_commas (Sign CommaSign) r n) (each_after (sign l CommaSign) marks)
  unfolding after_commas each_after ◌⨟◌
  commas_tell r marks item zero = alone (told_give _ refl)
  commas_tell r marks item (suc n) =
      alone (or_sign CommaSign _ _ (told_then _ item (λ x. told_last (λ xs. x ∷ xs) (commas_tell r marks item n) (λ xs. refl)))
      (told_give _ refl))

  pub more_tell : {A : Type 0} (r : Reader A) (marks : A → List Mark)
      → Tells lim r marks
      → Tells lim (measured (after_commas (Sign CommaSign) r)) (each_after (sign l CommaSign) marks)
  more_tell r marks item = tells_measured (λ n. commas_tell r marks item n)

-- ---- monotypes

-- the marks of the brackets that are open, the outermost first, before others
unfoldable pub opened : ℕ → List ℕ → List Mark → List Mark
opened l [] ns = ns
opened l (at ∷ opens) ns = opened l opens (sign_at l OpenParenSign at ⨟ ns)

-- the marks of what stands at the right of a factor
unfoldable pub right_marks : ℕ → Option RawMonoTree → List Mark
right_marks l None = []
right_marks l (Some m) = sign l StarSign ⨟ Grammar.mono (suc l) m

pub with_right_marks : (l : ℕ) (f : RawFactorTree) (r : Option RawMonoTree) → Grammar.mono l (with_right f r) ≡ Grammar.factor l f ⨟ right_marks l r
unfolding right_marks Grammar.mono ◌⨟◌
with_right_marks l f None = sym (append-nil (Grammar.factor l f))
with_right_marks l f (Some m) = refl

pub in_brackets_again : (l at : ℕ) (m : RawMonoTree) (r : Option RawMonoTree) (ns : List Mark)
    → Grammar.mono l (with_right (m_brackets at m) r) ⨟ ns
    ≡ sign_at l OpenParenSign at ⨟ (Grammar.mono l m ⨟ (sign l CloseParenSign ⨟ (right_marks l r ⨟ ns)))
unfolding Grammar.factor ◌⨟◌
in_brackets_again l at m r ns =
    ap (λ ms. ms ++ ns) (with_right_marks l (m_brackets at m) r)
    ∙ ap (λ ms. sign_at l OpenParenSign at ++ ms)
    (append_assoc (Grammar.mono l m ++ sign l CloseParenSign) (right_marks l r) ns
    ∙ append_assoc (Grammar.mono l m) (sign l CloseParenSign) (right_marks l r ++ ns))

pub after_name : (l : ℕ) (x : MonoName) (r : Option RawMonoTree) (ns : List Mark)
    → Grammar.mono l (with_right (m_name x) r) ⨟ ns ≡ Grammar.mono_name l x ⨟ (right_marks l r ⨟ ns)
unfolding Grammar.factor ◌⨟◌
after_name l x r ns = ap (λ ms. ms ++ ns) (with_right_marks l (m_name x) r) ∙ append_assoc (Grammar.mono_name l x) (right_marks l r) ns

module _ {lim : Limits} (d : Deeper) (l : ℕ) (here : Stands lim l) (trust : Trusts lim d (suc l)) where
  mono_name_told : (k : Kind) (s : Span) → Case lim (λ ns. ns) (Grammar.mono_name l) k s (mono_name_case k)
  unfolding ◌⨟◌
  mono_name_told Name s = a_name' l here s _ (told_give _ refl)
  mono_name_told (Keyword WordWord) s = at_word l here WordWord s _ (told_give _ refl)
  mono_name_told (Keyword BoolWord) s = at_word l here BoolWord s _ (told_give _ refl)
  mono_name_told (Keyword LocWord) s = at_word l here LocWord s _ (told_give _ refl)
  mono_name_told (Keyword UnitWord) s = at_word l here UnitWord s _ (told_give _ refl)
  mono_name_told _ s = tt

  pub mono_name_tells : Tells lim (either mono_name_case stop) (Grammar.mono_name l)
  mono_name_tells = alone (told_either _ mono_name_told told_stop)

  pub right_tells : Tells lim (mono_right d) (right_marks l)
  unfolding mono_right right_marks ◌⨟◌
  right_tells = alone (or_sign l here StarSign _ _ (told_last Some trust.mono (λ m. refl)) (told_give None refl))

  closes_told : (opens : List ℕ) (m : RawMonoTree) → Told lim (λ ns. opened l opens (Grammar.mono l m ⨟ ns)) (mono_closes d opens m) (Grammar.mono l)
  unfolding mono_closes opened ◌⨟◌
  closes_told [] m = told_give m (append-nil (Grammar.mono l m))
  closes_told (at ∷ opens) m = skip l here CloseParenSign _ (told_then _ right_tells (λ r.
      reround _ _ (λ ns. ap (opened l opens) (in_brackets_again l at m r ns)) (closes_told opens (with_right (m_brackets at m) r))))

  opens_told : (n : ℕ) (opens : List ℕ) → Told lim (opened l opens) (mono_opens d n opens) (Grammar.mono l)
  unfolding mono_opens mono_inside opened
  opens_told zero opens = told_stop
  opens_told (suc n) opens = told_either _ (cases n opens (λ s. opens_told n (s.from ∷ opens))) (told_then _ mono_name_tells (λ x. told_then _ right_tells (λ r.
      reround _ _ (λ ns. ap (opened l opens) (after_name l x r ns)) (closes_told opens (with_right (m_name x) r)))))
    where
      cases : (n : ℕ) (opens : List ℕ)
          → ((s : Span) → Told lim (opened l (s.from ∷ opens)) (mono_opens d n (s.from ∷ opens)) (Grammar.mono l))
          → (k : Kind) (s : Span)
          → Case lim (opened l opens) (Grammar.mono l) k s (mono_case (mono_opens d n) opens k)
      cases n opens next (Sign OpenParenSign) s = at_sign l here OpenParenSign s _ (next s)
      cases n opens next _ s = tt

  pub mono_tells : Tells lim (mono_reader d) (Grammar.mono l)
  unfolding mono_reader opened
  mono_tells = tells_measured (λ n. alone (opens_told n []))

  pub bracketed_tells : Tells lim (bracketed d) (Grammar.in_brackets l)
  unfolding bracketed ◌⨟◌
  bracketed_tells = alone (skip l here OpenBracketSign _ (told_then _ mono_tells (λ m. skip l here CloseBracketSign _ (told_give m refl))))

  pub more_monos_tell : Tells lim (more_monos d) (each_after (sign l CommaSign) (Grammar.mono l))
  unfolding more_monos
  more_monos_tell = more_tell l here (mono_reader d) (Grammar.mono l) mono_tells
