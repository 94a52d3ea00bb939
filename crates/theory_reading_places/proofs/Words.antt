-- The readers of names, numbers, heaps and monotypes follow one another.
use Rattle.std.proofs.Common.{◌≡◌, ℕ, zero, suc, ◌≤◌, List, [], ◌∷◌, refl, arith}
use Rattle.std.specs.Prelude.{true, false, None, Ok, Err}
use Rattle.htt_lexer_tokens.specs.declared.tokens.Kind.{Kind}
use Rattle.htt_lexer_tokens.specs.declared.tokens.Kind.TheVariants.{Name, Number, Keyword, Sign}
use Rattle.htt_lexer_tokens.specs.declared.tokens.Keyword.TheVariants.{WordWord, BoolWord, LocWord, UnitWord, InitWord, MemWord}
use Rattle.htt_lexer_tokens.specs.declared.tokens.Sign.TheVariants.{OpenParenSign, CommaSign, UnderscoreSign}
use Rattle.htt_parser_trees.specs.declared.place.Span.{Span}
use Rattle.htt_parser_trees.specs.Trees.{RawMonoTree}
use Rattle.theory_grammar.specs.Readers.{Reader, expected, too_long, measured, give, ◌>>=◌, stop, either, after_commas}
use Rattle.theory_grammar.specs.Beginnings.{begins_mono, begins_ty, begins_term, begins_comp, begins_fatom, begins_formula, begins_proof}
use Rattle.theory_grammar.specs.Phrases.{Deeper, binder_case, a_binder, name_case, a_name_there, number_case, a_number_there, over_there, heap_case, a_heap}
use Rattle.theory_grammar.specs.Phrases.{mono_right, mono_closes, mono_name_case, mono_inside, mono_case, mono_opens, mono_reader, bracketed, more_monos}
use Rattle.theory_reading_places.proofs.Follows.{Greater, in_none, in_levels, Kept, Follows, Both, follow_give, follow_stop, follow_then, follow_either}
use Rattle.theory_reading_places.proofs.Follows.{follow_either_less, follow_that, follow_that_less, follow_skip, follow_measured}
use Rattle.theory_reading_places.proofs.Refuses.{Refuses, refuses_stop, refuses_then, refuses_either, refuses_measured}

-- how many operands may follow here, and there
abbrev pub Chain : Greater → ℕ → ℕ → Type 0
Chain in_none k j = k ≡ j
Chain in_levels k j = k ≡ j
Chain _ k j = k ≤ j

pub chain_same : (b : Greater) (k : ℕ) → Chain b k k
chain_same in_none k = refl
chain_same in_levels k = refl
chain_same _ k = omega arith

pub chain_less : (b : Greater) (k j : ℕ) → Chain b (suc k) (suc j) → Chain b k j
chain_less in_none k j h = omega (arith, h)
chain_less in_levels k j h = omega (arith, h)
chain_less _ k j h = omega (arith, h)

pub chain_none : (b : Greater) (k : ℕ) → Chain b (suc k) zero → ⊥
chain_none in_none k h = omega (arith, h)
chain_none in_levels k h = omega (arith, h)
chain_none _ k h = omega (arith, h)

-- only greater limits let more operands follow
pub chain_more : (b : Greater) (j : ℕ) → Chain b zero (suc j) → Kept b too_long → ⊥
chain_more in_none j h kept = omega (arith, h)
chain_more in_levels j h kept = omega (arith, h)
chain_more _ j h kept = kept

-- the readers of the phrases refuse what begins none
pub record Refused (d : Deeper) : Type 0 where
  pub ty : Refuses begins_ty d.ty
  pub term : Refuses begins_term d.term
  pub comp : Refuses begins_comp d.comp
  pub formula : Refuses begins_formula d.formula
  pub disj : Refuses begins_fatom d.disj
  pub conj : Refuses begins_fatom d.conj
  pub star : Refuses begins_fatom d.star
  pub mono : Refuses begins_mono d.mono
  pub proof : Refuses begins_proof d.proof

-- these readers of the phrases follow those
pub record Follow (b : Greater) (d e : Deeper) : Type 0 where
  pub further : Chain b d.further e.further
  pub refused : Refused e
  pub ty : {n m : ℕ} → Follows b n m d.ty e.ty
  pub term : {n m : ℕ} → Follows b n m d.term e.term
  pub comp : {n m : ℕ} → Follows b n m d.comp e.comp
  pub formula : {n m : ℕ} → Follows b n m d.formula e.formula
  pub disj : {n m : ℕ} → Follows b n m d.disj e.disj
  pub conj : {n m : ℕ} → Follows b n m d.conj e.conj
  pub star : {n m : ℕ} → Follows b n m d.star e.star
  pub mono : {n m : ℕ} → Follows b n m d.mono e.mono
  pub proof : {n m : ℕ} → Follows b n m d.proof e.proof

-- ---- words

pub binder_cases : (b : Greater) (n m : ℕ) (k : Kind) (s : Span) → Both b n m s (binder_case k) (binder_case k)
binder_cases b n m Name s = follow_give _
binder_cases b n m (Sign UnderscoreSign) s = follow_give _
binder_cases b n m _ s = tt

pub binder_follows : {b : Greater} {n m : ℕ} → Follows b n m a_binder a_binder
unfolding a_binder
binder_follows = follow_either _ _ (binder_cases _ _ _) follow_stop

name_cases : (b : Greater) (n m : ℕ) (k : Kind) (s : Span) → Both b n m s (name_case k) (name_case k)
name_cases b n m Name s = follow_give _
name_cases b n m _ s = tt

pub name_follows : {b : Greater} {n m : ℕ} → Follows b n m a_name_there a_name_there
unfolding a_name_there
name_follows = follow_either _ _ (name_cases _ _ _) follow_stop

number_cases : (b : Greater) (n m : ℕ) (k : Kind) (s : Span) → Both b n m s (number_case k) (number_case k)
number_cases b n m (Number v) s = follow_give _
number_cases b n m _ s = tt

pub number_follows : {b : Greater} {n m : ℕ} → Follows b n m a_number_there a_number_there
unfolding a_number_there
number_follows = follow_either _ _ (number_cases _ _ _) follow_stop

pub over_follows : {b : Greater} {n m : ℕ} → Follows b n m over_there over_there
unfolding over_there
over_follows = follow_that _ (follow_then number_follows (λ v. follow_give _)) (follow_give _)

heap_cases : (b : Greater) (n m : ℕ) (k : Kind) (s : Span) → Both b n m s (heap_case k) (heap_case k)
heap_cases b n m Name s = follow_give _
heap_cases b n m (Keyword InitWord) s = follow_then over_follows (λ v. follow_give _)
heap_cases b n m (Keyword MemWord) s = follow_then over_follows (λ v. follow_give _)
heap_cases b n m _ s = tt

pub heap_follows : {b : Greater} {n m : ℕ} → Follows b n m a_heap a_heap
unfolding a_heap
heap_follows = follow_either _ _ (heap_cases _ _ _) follow_stop

-- ---- lists with commas

no_more : {A : Type 0} (p : Reader A) (k : ℕ) → after_commas (Sign CommaSign) p k [] ≡ Ok ([], [])
unfolding after_commas either give
no_more p zero = refl
no_more p (suc k) = refl

commas_turn : {A : Type 0} {b : Greater} (r q : Reader A)
    → ((i j : ℕ) → Follows b i j r q)
    → (k j : ℕ)
    → ((i : Unit {0}) → Follows b k j (after_commas (Sign CommaSign) r k) (after_commas (Sign CommaSign) q j))
    → (i : Unit {0})
    → Follows b (suc k) (suc j) (after_commas (Sign CommaSign) r (suc k)) (after_commas (Sign CommaSign) q (suc j))
unfolding after_commas
commas_turn r q item k j next i = follow_that_less _ (follow_then (item k j) (λ x. follow_then (next tt) (λ xs. follow_give _))) (follow_give _)

pub more_follow : {A : Type 0} {b : Greater} {n m : ℕ} (r q : Reader A)
    → ((i j : ℕ) → Follows b i j r q)
    → Follows b n m (measured (after_commas (Sign CommaSign) r)) (measured (after_commas (Sign CommaSign) q))
more_follow r q item =
    follow_measured (λ (i : Unit {0}) k. after_commas (Sign CommaSign) r k) (λ i k. after_commas (Sign CommaSign) q k) (Ok ([], [])) refl
    refl (λ i k. no_more r k) (λ i k. no_more q k) (commas_turn r q item) tt

-- ---- monotypes

mono_name_cases : (b : Greater) (n m : ℕ) (k : Kind) (s : Span) → Both b n m s (mono_name_case k) (mono_name_case k)
mono_name_cases b n m Name s = follow_give _
mono_name_cases b n m (Keyword WordWord) s = follow_give _
mono_name_cases b n m (Keyword BoolWord) s = follow_give _
mono_name_cases b n m (Keyword LocWord) s = follow_give _
mono_name_cases b n m (Keyword UnitWord) s = follow_give _
mono_name_cases b n m _ s = tt

pub mono_name_follows : {b : Greater} {n m : ℕ} → Follows b n m (either mono_name_case stop) (either mono_name_case stop)
mono_name_follows = follow_either _ _ (mono_name_cases _ _ _) follow_stop

module _ {b : Greater} (d e : Deeper) (trust : Follow b d e) where
  pub right_follows : {n m : ℕ} → Follows b n m (mono_right d) (mono_right e)
  unfolding mono_right
  right_follows = follow_that _ (follow_then trust.mono (λ t. follow_give _)) (follow_give _)

  pub closes_follows : {n m : ℕ} (opens : List ℕ) (t : RawMonoTree) → Follows b n m (mono_closes d opens t) (mono_closes e opens t)
  unfolding mono_closes
  closes_follows [] t = follow_give _
  closes_follows (at ∷ opens) t = follow_skip _ (λ _. follow_then right_follows (λ r. closes_follows opens _))

  pub inside_follows : {n m : ℕ} (opens : List ℕ) → Follows b n m (mono_inside d opens) (mono_inside e opens)
  unfolding mono_inside
  inside_follows opens = follow_then mono_name_follows (λ x. follow_then right_follows (λ r. closes_follows opens _))

  opens_turn : (k j : ℕ)
      → ((opens : List ℕ) → Follows b k j (mono_opens d k opens) (mono_opens e j opens))
      → (opens : List ℕ)
      → Follows b (suc k) (suc j) (mono_opens d (suc k) opens) (mono_opens e (suc j) opens)
  unfolding mono_opens
  opens_turn k j next opens = follow_either_less _ _ cases (inside_follows opens)
    where
      cases : (l : Kind) (s : Span) → Both b k j s (mono_case (mono_opens d k) opens l) (mono_case (mono_opens e j) opens l)
      cases (Sign OpenParenSign) s = next (s.from ∷ opens)
      cases _ s = tt

  opens_end : (p : Deeper) (opens : List ℕ) (k : ℕ) → mono_opens p k opens [] ≡ Err (record { why = expected; rest = [] })
  unfolding mono_opens mono_inside either ◌>>=◌ stop
  opens_end p opens zero = refl
  opens_end p opens (suc k) = refl

  -- behind so many open brackets
  pub opens_follow : {n m : ℕ} (opens : List ℕ) → Follows b n m (measured (λ k. mono_opens d k opens)) (measured (λ k. mono_opens e k opens))
  opens_follow opens =
      follow_measured (λ l k. mono_opens d k l) (λ l k. mono_opens e k l) (Err (record { why = expected; rest = [] })) refl refl
      (opens_end d) (opens_end e) opens_turn opens

  pub mono_follows : {n m : ℕ} → Follows b n m (mono_reader d) (mono_reader e)
  unfolding mono_reader
  mono_follows = opens_follow []

  pub bracketed_follows : {n m : ℕ} → Follows b n m (bracketed d) (bracketed e)
  unfolding bracketed
  bracketed_follows = follow_skip _ (λ _. follow_then mono_follows (λ t. follow_skip _ (λ _. follow_give _)))

  pub more_monos_follow : {n m : ℕ} → Follows b n m (more_monos d) (more_monos e)
  unfolding more_monos
  more_monos_follow = more_follow (mono_reader d) (mono_reader e) (λ i j. mono_follows)

-- ---- what begins none is refused

no_mono_name : (k : Kind) → begins_mono k ≡ false → mono_name_case k ≡ None
no_mono_name Name h = absurd (let no : true ≡ false = h in cc)
no_mono_name (Keyword WordWord) h = absurd (let no : true ≡ false = h in cc)
no_mono_name (Keyword BoolWord) h = absurd (let no : true ≡ false = h in cc)
no_mono_name (Keyword LocWord) h = absurd (let no : true ≡ false = h in cc)
no_mono_name (Keyword UnitWord) h = absurd (let no : true ≡ false = h in cc)
no_mono_name _ h = refl

no_open : (next : List ℕ → Reader RawMonoTree) (opens : List ℕ) (k : Kind) → begins_mono k ≡ false → mono_case next opens k ≡ None
no_open next opens (Sign OpenParenSign) h = absurd (let no : true ≡ false = h in cc)
no_open next opens _ h = refl

opens_refuse : (d : Deeper) (k : ℕ) → Refuses begins_mono (mono_opens d k [])
unfolding mono_opens mono_inside
opens_refuse d zero = refuses_stop _
opens_refuse d (suc k) = refuses_either _ (no_open (mono_opens d k) []) (refuses_then _ (refuses_either _ no_mono_name (refuses_stop _)))

pub mono_refuses : (d : Deeper) → Refuses begins_mono (mono_reader d)
unfolding mono_reader
mono_refuses d = refuses_measured (opens_refuse d)
