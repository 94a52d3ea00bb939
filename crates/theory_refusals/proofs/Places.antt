-- Where a reader stops, by the trees that its completions give and by the readers that may read on.
use Rattle.std.proofs.Common.{◌≡◌, ℕ, ◌+◌, ◌≤◌, List, [], ◌∷◌, ◌++◌, length, refl, sym, ◌∙◌, ap, subst, arith, append_assoc}
use Rattle.std.specs.Prelude.{Ok, Err}
use Rattle.std.proofs.lemmas.List.{append_cancel_right}
use Rattle.htt_lexer_tokens.specs.declared.tokens.Token.{Token}
use Rattle.theory_grammar.specs.Marks.{Mark, Limits, IsWithin, AllFit, AllWithin}
use Rattle.theory_grammar.specs.Derivations.{the_limits}
use Rattle.theory_grammar.specs.Readers.{Reader, Halt, Why}
use Rattle.theory_grammar.specs.Phrases.{Deeper}
use Rattle.theory_grammar.specs.Reading.{deeper}
use Rattle.theory_grammar.proofs.Monotypes.{Knows}
use Rattle.theory_grammar.proofs.Files.{knows}
use Rattle.theory_grammar.proofs.One.{levels, operands, within}
use Rattle.theory_reading.specs.Laws.{outermost}
use Rattle.theory_reading.proofs.Tells.{left_of}
use Rattle.theory_reading_places.specs.Alike.{Alike}
use Rattle.theory_reading_places.proofs.Follows.{Greater, in_none, in_all, Kept, Answers}
use Rattle.theory_reading_places.proofs.Words.{Follow}
use Rattle.theory_reading_places.proofs.Files.{follow_self, follow_greater}
use Rattle.theory_reading_completions.proofs.Halts.{fit_both}
use Rattle.theory_reading_completions.proofs.Words.{Ending}
use Rattle.theory_reading_completions.proofs.Files.{ending}
use Rattle.theory_reading_places.proofs.Laws.{answers_alike}
use Rattle.theory_reading_limits.specs.Limits.{IsLimit}
use Rattle.theory_reading_limits.proofs.Bars.{Bars}
use Rattle.theory_reading_limits.proofs.Laws.{stops_past}
use Rattle.theory_reading_limits.proofs.Words.{Bar}
use Rattle.theory_reading_limits.proofs.Files.{bar}

-- ---- a reader that follows doesn't read on to the end

pub clash : {A : Type 0} {b : Greater} {m : ℕ} {q : Reader A} {us : List Token} {halt : Halt}
    → Answers b m q us (Err halt)
    → (before other : List Token)
    → us ≡ before ++ halt.rest
    → Alike halt.rest other
    → length (before ++ other) ≤ m
    → Kept b halt.why
    → (y : A)
    → q (before ++ other) ≡ Ok (y, [])
    → ⊥
clash got before other parts alike fits kept y read =
    let stops = answers_alike got before other parts alike fits kept in
    cc (sym read ∙ stops)

pub clash_ended : {A : Type 0} {b : Greater} {m : ℕ} {q : Reader A} {us : List Token} {x : A} {token : Token} {rest : List Token}
    → Answers b m q us (Ok (x, token ∷ rest))
    → (before other : List Token)
    → us ≡ before ++ (token ∷ rest)
    → length (before ++ (token ∷ other)) ≤ m
    → (y : A)
    → q (before ++ (token ∷ other)) ≡ Ok (y, [])
    → ⊥
unfolding left_of
clash_ended {token = token} got before other parts fits y read =
    let ends = answers_alike got before (token ∷ other) parts refl fits tt in
    let no : [] ≡ token ∷ other = ap (left_of []) (sym read ∙ ends) in
    cc

pub one_more : (before : List Token) (t : Token) (more : List Token) → before ++ (t ∷ []) ++ more ≡ before ++ (t ∷ more)
one_more before t more = append_assoc before (t ∷ []) more

-- ---- limits that are wide enough for a tree

abbrev pub wider : List Mark → Limits
wider ms = record { nesting = 256 + levels ms; chain = 63 + operands ms }

abbrev pub widest : List Mark → Deeper
widest ms = deeper (wider ms).chain (wider ms).nesting

pub knows_widest : (ms : List Mark) → Knows (wider ms) (widest ms) 1
knows_widest ms = knows (wider ms) (wider ms).chain (wider ms).nesting 1 (omega arith) (omega arith)

pub all_within : (ms : List Mark) → AllWithin (wider ms) ms
all_within ms = within ms (wider ms) (omega arith) (omega arith)

pub follow_widest : (ms : List Mark) → Follow in_all outermost (widest ms)
follow_widest ms = follow_greater 63 (wider ms).chain 256 (wider ms).nesting (omega arith) (omega arith)

pub follow_outermost : Follow in_none outermost outermost
follow_outermost = follow_self 63 256

pub ending_outermost : Ending the_limits outermost 1
ending_outermost = ending the_limits 63 256 1 refl refl

pub bar_widest : (ms : List Mark) → Bar the_limits outermost (widest ms) 1
bar_widest ms = bar the_limits 63 (wider ms).chain 256 (wider ms).nesting 1 refl refl (omega arith) (omega arith)

-- ---- a mark past the limits doesn't stand within them

tail_of : {A : Type 0} → List A → List A
tail_of [] = []
tail_of (x ∷ xs) = xs

same_tail : {A : Type 0} (x y : A) (xs ys : List A) → x ∷ xs ≡ y ∷ ys → xs ≡ ys
unfolding tail_of
same_tail x y xs ys e = ap tail_of e

first_within : (lim : Limits) (f m : Mark) (fs ms : List Mark) → f ∷ fs ≡ m ∷ ms → IsWithin lim f → IsWithin lim m
first_within lim f m fs ms e within = let same : f ≡ m = cc in subst (λ x. IsWithin lim x) same within

stands_within : (lim : Limits) (before : List Token) (t : Token) (first : List Mark) (m : Mark) (others all rest : List Mark)
    → AllFit before first
    → AllFit (before ++ (t ∷ [])) all
    → all ++ rest ≡ first ++ (m ∷ others)
    → AllWithin lim all
    → IsWithin lim m
stands_within lim [] t [] m others [] rest fit fits same within = absurd fits
stands_within lim [] t [] m others (a ∷ all) rest fit fits same within = first_within lim a m (all ++ rest) others same within.0
stands_within lim [] t (f ∷ first) m others all rest fit fits same within = absurd fit
stands_within lim (b ∷ before) t [] m others all rest fit fits same within = absurd fit
stands_within lim (b ∷ before) t (f ∷ first) m others [] rest fit fits same within = absurd fits
stands_within lim (b ∷ before) t (f ∷ first) m others (a ∷ all) rest fit fits same within =
    stands_within lim before t first m others all rest fit.1 fits.1 (same_tail a f (all ++ rest) (first ++ (m ∷ others)) same) within.1

-- a reader that stops at a limit, where another reads a tree whose marks up to there are within it
pub not_past : {A : Type 0} {lim : Limits} {r q : Reader A} {marks : A → List Mark}
    → Bars lim (λ ns. ns) r q marks
    → (before : List Token) (t : Token) (more : List Token) (why : Why)
    → IsLimit why
    → r (before ++ (t ∷ more)) ≡ Err (record { why = why; rest = t ∷ more })
    → (y : A)
    → q (before ++ (t ∷ more)) ≡ Ok (y, [])
    → (all rest : List Mark)
    → marks y ≡ all ++ rest
    → AllFit (before ++ (t ∷ [])) all
    → AllWithin lim all
    → ⊥
not_past {lim = lim} bars before t more why limit stops y reads all rest whole fits within =
    let p = stops_past bars (before ++ (t ∷ more)) (record { why = why; rest = t ∷ more }) y [] stops limit reads in
    let same : p.before ≡ before = append_cancel_right p.before before (t ∷ more) (sym p.parts) in
    p.past (stands_within lim before t p.first p.mark p.others all rest (subst (λ ts. AllFit ts p.first) same p.fit) fits (sym whole ∙ p.whole) within)

-- tokens that fit the marks of a tree, put together
pub fit_whole : (tokens more : List Token) (first others ms : List Mark)
    → ms ≡ first ++ others
    → AllFit tokens first
    → AllFit more others
    → AllFit (tokens ++ more) ms
fit_whole tokens more first others ms whole fit goes_on = subst (λ ns. AllFit (tokens ++ more) ns) (sym whole) (fit_both tokens more first others fit goes_on)
