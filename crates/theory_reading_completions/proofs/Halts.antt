-- Where a reader stops, what it read begins some tree. How this goes from the parts of a phrase to the
-- phrase.
use Rattle.std.proofs.Common.{◌≡◌, ℕ, ◌<◌, List, [], ◌∷◌, ◌++◌, length, refl, sym, ◌∙◌, ap, subst, append_assoc}
use Rattle.std.specs.Prelude.{Bool, true, false, Option, Some, None, Result, Ok, Err, cond}
use Rattle.htt_lexer_tokens.specs.declared.tokens.Kind.{Kind}
use Rattle.htt_lexer_tokens.specs.declared.tokens.Token.{Token}
use Rattle.htt_parser_trees.specs.declared.place.Span.{Span}
use Rattle.theory_grammar.specs.Marks.{Mark, Limits, Given, IsWithin, AllFit, span_of, ◌⨟◌, numbered}
use Rattle.theory_grammar.specs.Readers.{Reader, Halt, Why, expected, too_nested, too_long, give, then_read, ◌>>=◌, stop, refused, refuse, chosen, either}
use Rattle.theory_grammar.specs.Readers.{first_is, if_first, measured, same_kind, that}
use Rattle.theory_grammar.proofs.Spells.{Spells}
use Rattle.theory_reading.proofs.Tells.{Tells, join, same_kinds}

-- a tree whose marks are these, behind others, with tokens that fit them
pub record Whole {A : Type 0} (round : List Mark → List Mark) (marks : A → List Mark) : Type 0 where
  pub tree : A
  pub others : List Mark
  pub tokens : List Token
  pub same : round others ≡ marks tree
  pub fit : AllFit tokens others

-- the refused token, and a mark of it that is past a limit
abbrev pub Past : Limits → Why → List Token → List Token → List Mark → Type 0
Past lim expected rest tokens marks = Unit {0}
Past lim too_nested (u ∷ us) (t ∷ ts) (m ∷ ms) = (t ≡ u) × (lim.nesting < m.level)
Past lim too_long (u ∷ us) (t ∷ ts) (m ∷ ms) = (t ≡ u) × (lim.chain < m.operand)
Past lim _ _ _ _ = ⊥

-- a tree that begins with what was read before the stop
pub record Completion {A : Type 0} (lim : Limits) (marks : A → List Mark) (ts : List Token) (halt : Halt) : Type 0 where
  pub tree : A
  pub first : List Mark
  pub others : List Mark
  pub tokens : List Token
  pub whole : marks tree ≡ first ++ others
  pub spelled : Spells lim first ts halt.rest
  pub fit : AllFit tokens others
  pub past : Past lim halt.why halt.rest tokens others

abbrev pub Stopped : {A : Type 0} → Limits → (A → List Mark) → List Token → Result (A × List Token) Halt → Type 0
Stopped lim marks ts (Ok read) = Unit {0}
Stopped lim marks ts (Err halt) = Completion lim marks ts halt

-- behind what was read before: what is spelled here is spelled there with these marks round it
pub record Halts {A : Type 0} (lim : Limits) (round : List Mark → List Mark) (reader : Reader A) (marks : A → List Mark) : Type 0 where
  pub whole : Whole round marks
  pub halted : (before ts : List Token)
      → ((ns : List Mark) (end : List Token) → Spells lim ns ts end → Spells lim (round ns) before end)
      → ((a b : List Mark) → round a ++ b ≡ round (a ++ b))
      → Stopped lim marks before (reader ts)

-- a reader that tells the truth, and whose stops are such
pub record Ends {A : Type 0} (lim : Limits) (reader : Reader A) (marks : A → List Mark) : Type 0 where
  pub tells : Tells lim reader marks
  pub halts : Halts lim (λ ns. ns) reader marks

pub fit_both : (ts us : List Token) (ms ns : List Mark) → AllFit ts ms → AllFit us ns → AllFit (ts ++ us) (ms ++ ns)
fit_both [] us [] ns h g = g
fit_both [] us (m ∷ ms) ns h g = absurd h
fit_both (t ∷ ts) us [] ns h g = absurd h
fit_both (t ∷ ts) us (m ∷ ms) ns h g = (h.0, fit_both ts us ms ns h.1 g)

past_more : (lim : Limits) (why : Why) (rest ts us : List Token) (ms ns : List Mark) → Past lim why rest ts ms → Past lim why rest (ts ++ us) (ms ++ ns)
past_more lim expected rest ts us ms ns h = tt
past_more lim too_nested (u ∷ rest) (t ∷ ts) us (m ∷ ms) ns h = h
past_more lim too_long (u ∷ rest) (t ∷ ts) us (m ∷ ms) ns h = h
past_more lim _ _ _ us _ ns h = absurd h

-- ---- one after the other

pub halts_then : {A B : Type 0} {lim : Limits} {round : List Mark → List Mark} {r : Reader A} {ms : A → List Mark} {marks : B → List Mark}
    (k : A → Reader B)
    → Ends lim r ms
    → ((x : A) → Halts lim (λ ns. round (ms x ⨟ ns)) (k x) marks)
    → Halts lim round (r >>= k) marks
unfolding ◌>>=◌ ◌⨟◌
halts_then {A = A} {B = B} {lim = lim} {round = round} {r = r} {ms = ms} {marks = marks} k first next =
    let w = first.halts.whole in
    let n = (next w.tree).whole in
    record {
      whole = record {
        tree = n.tree;
        others = w.others ++ n.others;
        tokens = w.tokens ++ n.tokens;
        same = ap (λ ns. round (ns ++ n.others)) w.same ∙ n.same;
        fit = fit_both w.tokens n.tokens w.others n.others w.fit n.fit;
      };
      halted = λ before ts go carry. by_first before ts (r ts) refl (first.halts.halted ts ts (λ ns end s. s) (λ a b. refl)) go carry;
    }
  where
    by_first : (before ts : List Token) (o : Result (A × List Token) Halt)
        → r ts ≡ o
        → Stopped lim ms ts o
        → ((ns : List Mark) (end : List Token) → Spells lim ns ts end → Spells lim (round ns) before end)
        → ((a b : List Mark) → round a ++ b ≡ round (a ++ b))
        → Stopped lim marks before (then_read o k)
    by_first before ts (Ok read) e stopped go carry =
        (next read.0).halted before read.1
        (λ ns end s. go (ms read.0 ++ ns) end (join lim (ms read.0) ns ts read.1 end (first.tells.tells ts read.0 read.1 e) s))
        (λ a b. carry (ms read.0 ++ a) b ∙ ap round (append_assoc (ms read.0) a b))
    by_first before ts (Err halt) e stopped go carry =
        let n = (next stopped.tree).whole in
        record {
          tree = n.tree;
          first = round stopped.first;
          others = stopped.others ++ n.others;
          tokens = stopped.tokens ++ n.tokens;
          whole =
              sym n.same
              ∙ ap (λ ns. round (ns ++ n.others)) stopped.whole
              ∙ ap round (append_assoc stopped.first stopped.others n.others)
              ∙ sym (carry stopped.first (stopped.others ++ n.others));
          spelled = go stopped.first halt.rest stopped.spelled;
          fit = fit_both stopped.tokens n.tokens stopped.others n.others stopped.fit n.fit;
          past = past_more lim halt.why halt.rest stopped.tokens n.tokens stopped.others n.others stopped.past;
        }

-- what is given at the end
pub halts_last : {A B : Type 0} {lim : Limits} {round : List Mark → List Mark} {r : Reader A} {ms : A → List Mark} {marks : B → List Mark}
    (make : A → B)
    → Ends lim r ms
    → ((x : A) → round (ms x) ≡ marks (make x))
    → Halts lim round (r >>= (λ x. give (make x))) marks
unfolding ◌>>=◌ give
halts_last {A = A} {B = B} {lim = lim} {round = round} {r = r} {ms = ms} {marks = marks} make first same =
    let w = first.halts.whole in
    record {
      whole = record { tree = make w.tree; others = w.others; tokens = w.tokens; same = ap round w.same ∙ same w.tree; fit = w.fit };
      halted = λ before ts go carry. by_first before ts (r ts) (first.halts.halted ts ts (λ ns end s. s) (λ a b. refl)) go carry;
    }
  where
    by_first : (before ts : List Token) (o : Result (A × List Token) Halt)
        → Stopped lim ms ts o
        → ((ns : List Mark) (end : List Token) → Spells lim ns ts end → Spells lim (round ns) before end)
        → ((a b : List Mark) → round a ++ b ≡ round (a ++ b))
        → Stopped lim marks before (then_read o (λ x. give (make x)))
    by_first before ts (Ok read) stopped go carry = tt
    by_first before ts (Err halt) stopped go carry = record {
      tree = make stopped.tree;
      first = round stopped.first;
      others = stopped.others;
      tokens = stopped.tokens;
      whole = sym (same stopped.tree) ∙ ap round stopped.whole ∙ sym (carry stopped.first stopped.others);
      spelled = go stopped.first halt.rest stopped.spelled;
      fit = stopped.fit;
      past = stopped.past;
    }

pub halts_give : {A : Type 0} {lim : Limits} {round : List Mark → List Mark} {marks : A → List Mark} (y : A)
    → round [] ≡ marks y
    → Halts lim round (give y) marks
unfolding give
halts_give y same = record {
  whole = record { tree = y; others = []; tokens = []; same = same; fit = tt };
  halted = λ before ts go carry. tt;
}

-- a stop at once, as unexpected
pub at_once : {A : Type 0} {lim : Limits} {round : List Mark → List Mark} {marks : A → List Mark} (w : Whole round marks)
    (before ts : List Token)
    → ((ns : List Mark) (end : List Token) → Spells lim ns ts end → Spells lim (round ns) before end)
    → ((a b : List Mark) → round a ++ b ≡ round (a ++ b))
    → Completion lim marks before (record { why = expected; rest = ts })
at_once {round = round} w before ts go carry = record {
  tree = w.tree;
  first = round [];
  others = w.others;
  tokens = w.tokens;
  whole = sym w.same ∙ sym (carry [] w.others);
  spelled = go [] ts refl;
  fit = w.fit;
  past = tt;
}

pub halts_stop : {A : Type 0} {lim : Limits} {round : List Mark → List Mark} {marks : A → List Mark} → Whole round marks → Halts lim round stop marks
unfolding stop
halts_stop w = record { whole = w; halted = λ before ts go carry. at_once w before ts go carry }

pub halts_reround : {A : Type 0} {lim : Limits} {r : Reader A} {marks : A → List Mark} (round other : List Mark → List Mark)
    → ((ns : List Mark) → round ns ≡ other ns)
    → Halts lim round r marks
    → Halts lim other r marks
halts_reround {lim = lim} round other same halts = record {
  whole = record {
    tree = halts.whole.tree;
    others = halts.whole.others;
    tokens = halts.whole.tokens;
    same = sym (same halts.whole.others) ∙ halts.whole.same;
    fit = halts.whole.fit;
  };
  halted = λ before ts go carry.
      halts.halted before ts (λ ns end s. subst (λ ms. Spells lim ms before end) (sym (same ns)) (go ns end s))
      (λ a b. ap (λ ns. ns ++ b) (same a) ∙ carry a b ∙ sym (same (a ++ b)));
}

-- ---- by the first token

pub record Takes {A : Type 0} (lim : Limits) (round : List Mark → List Mark) (kind : Kind) (span : Span) (reader : Reader A)
    (marks : A → List Mark) : Type 0 where
  pub mark : Mark
  pub same : kind ≡ mark.kind
  pub at : Given mark.at span.from
  pub there : Given mark.span span
  pub within : IsWithin lim mark
  pub then : Halts lim (λ ns. round ((mark ∷ []) ⨟ ns)) reader marks

abbrev pub Case : {A : Type 0} → Limits → (List Mark → List Mark) → (A → List Mark) → Kind → Span → Option (Span → Reader A) → Type 0
Case lim round marks kind span None = Unit {0}
Case lim round marks kind span (Some next) = Takes lim round kind span (next span) marks

by_case : {A : Type 0} (lim : Limits) (round : List Mark → List Mark) (marks : A → List Mark) (otherwise : Reader A) (t : Token)
    (us before : List Token) (o : Option (Span → Reader A))
    → Case lim round marks t.kind (span_of t) o
    → Halts lim round otherwise marks
    → ((ns : List Mark) (end : List Token) → Spells lim ns (t ∷ us) end → Spells lim (round ns) before end)
    → ((a b : List Mark) → round a ++ b ≡ round (a ++ b))
    → Stopped lim marks before (chosen o otherwise t us)
unfolding ◌⨟◌
by_case lim round marks otherwise t us before None case other go carry = other.halted before (t ∷ us) go carry
by_case lim round marks otherwise t us before (Some next) case other go carry =
    case.then.halted before us
    (λ ns end s. go ((case.mark ∷ []) ++ ns) end (t, us, refl, record { kind = case.same; at = case.at; span = case.there }, case.within, s))
    (λ a b. carry (case.mark ∷ a) b)

pub halts_either : {A : Type 0} {lim : Limits} {round : List Mark → List Mark} {otherwise : Reader A} {marks : A → List Mark}
    (choose : Kind → Option (Span → Reader A))
    → ((k : Kind) (s : Span) → Case lim round marks k s (choose k))
    → Halts lim round otherwise marks
    → Halts lim round (either choose otherwise) marks
unfolding either
halts_either {A = A} {lim = lim} {round = round} {otherwise = otherwise} {marks = marks} choose case other = record { whole = other.whole; halted = by_first }
  where
    by_first : (before ts : List Token)
        → ((ns : List Mark) (end : List Token) → Spells lim ns ts end → Spells lim (round ns) before end)
        → ((a b : List Mark) → round a ++ b ≡ round (a ++ b))
        → Stopped lim marks before (either choose otherwise ts)
    by_first before [] go carry = other.halted before [] go carry
    by_first before (t ∷ us) go carry = by_case lim round marks otherwise t us before (choose t.kind) (case t.kind (span_of t)) other go carry

pub whole_case : {A : Type 0} {lim : Limits} {round : List Mark → List Mark} {kind : Kind} {span : Span} {reader : Reader A}
    {marks : A → List Mark}
    → Takes lim round kind span reader marks
    → Whole round marks
unfolding ◌⨟◌
whole_case {kind = kind} {span = span} case =
    let w = case.then.whole in
    record {
      tree = w.tree;
      others = case.mark ∷ w.others;
      tokens = record { kind = kind; from = span.from; to = span.to } ∷ w.tokens;
      same = w.same;
      fit = (record { kind = case.same; at = case.at; span = case.there }, w.fit);
    }

-- one of some cases, of which one is named
pub halts_choice : {A : Type 0} {lim : Limits} {round : List Mark → List Mark} {kind : Kind} {span : Span} {reader : Reader A}
    {marks : A → List Mark} (choose : Kind → Option (Span → Reader A))
    → Takes lim round kind span reader marks
    → ((k : Kind) (s : Span) → Case lim round marks k s (choose k))
    → Halts lim round (either choose stop) marks
halts_choice choose one case = halts_either choose case (halts_stop (whole_case one))

pub halts_first : {A : Type 0} {lim : Limits} {round : List Mark → List Mark} {one other : Reader A} {marks : A → List Mark}
    (test : Kind → Bool)
    → Halts lim round one marks
    → Halts lim round other marks
    → Halts lim round (if_first test one other) marks
unfolding if_first
halts_first {A = A} {lim = lim} {round = round} {one = one} {other = other} {marks = marks} test yes' no' =
    record { whole = no'.whole; halted = λ before ts go carry. by_test (first_is test ts) before ts go carry }
  where
    by_test : (b : Bool) (before ts : List Token)
        → ((ns : List Mark) (end : List Token) → Spells lim ns ts end → Spells lim (round ns) before end)
        → ((a b : List Mark) → round a ++ b ≡ round (a ++ b))
        → Stopped lim marks before (cond b (one ts) (other ts))
    by_test true before ts go carry = yes'.halted before ts go carry
    by_test false before ts go carry = no'.halted before ts go carry

pub halts_measured : {A : Type 0} {lim : Limits} {round : List Mark → List Mark} {r : ℕ → Reader A} {marks : A → List Mark}
    → ((n : ℕ) → Halts lim round (r n) marks)
    → Halts lim round (measured r) marks
unfolding measured
halts_measured each = record { whole = (each 0).whole; halted = λ before ts go carry. (each (length ts)).halted before ts go carry }

pub ends_measured : {A : Type 0} {lim : Limits} {r : ℕ → Reader A} {marks : A → List Mark} → ((n : ℕ) → Ends lim (r n) marks) → Ends lim (measured r) marks
unfolding measured
ends_measured each = record {
  tells = record { tells = λ ts x rest e. (each (length ts)).tells.tells ts x rest e };
  halts = record { whole = (each 0).halts.whole; halted = λ before ts go carry. (each (length ts)).halts.halted before ts go carry };
}

-- a token of this kind, with a mark that says no more
pub halts_that : {A : Type 0} {lim : Limits} {round : List Mark → List Mark} {marks : A → List Mark} (mark : Mark)
    → mark.at ≡ None
    → mark.span ≡ None
    → IsWithin lim mark
    → (next otherwise : Reader A)
    → Halts lim (λ ns. round ((mark ∷ []) ⨟ ns)) next marks
    → Halts lim round otherwise marks
    → Halts lim round (either (that mark.kind next) otherwise) marks
halts_that {A = A} {lim = lim} {round = round} {marks = marks} mark no_at no_span within next otherwise then other =
    halts_either _ (λ k s. by_same (same_kind k mark.kind) k s (same_kinds k mark.kind)) other
  where
    by_same : (b : Bool) (k : Kind) (s : Span) → (b ≡ true → k ≡ mark.kind) → Case lim round marks k s (cond b (Some (λ _. next)) None)
    by_same true k s same = record {
      mark = mark;
      same = same refl;
      at = subst (λ o. Given o s.from) (sym no_at) tt;
      there = subst (λ o. Given o s) (sym no_span) tt;
      within = within;
      then = then;
    }
    by_same false k s same = tt

-- ---- at a limit

-- a tree of this phrase that begins with a token of this kind, at a level
pub record Start {A : Type 0} (marks : A → List Mark) (level : ℕ) (kind : Kind) (span : Span) : Type 0 where
  pub tree : A
  pub mark : Mark
  pub others : List Mark
  pub tokens : List Token
  pub whole : marks tree ≡ mark ∷ others
  pub same : kind ≡ mark.kind
  pub at : Given mark.at span.from
  pub there : Given mark.span span
  pub deep : mark.level ≡ level
  pub fit : AllFit tokens others

abbrev pub IsPast : Limits → Why → Mark → Type 0
IsPast lim too_nested m = lim.nesting < m.level
IsPast lim too_long m = lim.chain < m.operand
IsPast lim _ m = ⊥

-- behind other marks, a tree that goes on with this token, past a limit
pub record Reach {A : Type 0} (lim : Limits) (why : Why) (round : List Mark → List Mark) (marks : A → List Mark) (kind : Kind) (span : Span) : Type 0 where
  pub tree : A
  pub mark : Mark
  pub others : List Mark
  pub tokens : List Token
  pub whole : round (mark ∷ others) ≡ marks tree
  pub same : kind ≡ mark.kind
  pub at : Given mark.at span.from
  pub there : Given mark.span span
  pub past : IsPast lim why mark
  pub fit : AllFit tokens others

past_mark : (lim : Limits) (why : Why) (t : Token) (us ts : List Token) (m : Mark) (ms : List Mark) → IsPast lim why m → Past lim why (t ∷ us) (t ∷ ts) (m ∷ ms)
past_mark lim too_nested t us ts m ms h = (refl, h)
past_mark lim too_long t us ts m ms h = (refl, h)
past_mark lim _ t us ts m ms h = absurd h

pub halts_refuse : {A : Type 0} {lim : Limits} {round : List Mark → List Mark} {marks : A → List Mark} (why : Why) (begins : Kind → Bool)
    → Whole round marks
    → ((k : Kind) (s : Span) → begins k ≡ true → Reach lim why round marks k s)
    → Halts lim round (refuse why begins) marks
unfolding refuse
halts_refuse {A = A} {lim = lim} {round = round} {marks = marks} why begins w reach = record { whole = w; halted = by_first }
  where
    by_test : (t : Token) (us before : List Token) (b : Bool)
        → begins t.kind ≡ b
        → ((ns : List Mark) (end : List Token) → Spells lim ns (t ∷ us) end → Spells lim (round ns) before end)
        → ((a b : List Mark) → round a ++ b ≡ round (a ++ b))
        → Completion lim marks before (record { why = cond b why expected; rest = t ∷ us })
    by_test t us before false e go carry = at_once w before (t ∷ us) go carry
    by_test t us before true e go carry =
        let r = reach t.kind (span_of t) e in
        record {
          tree = r.tree;
          first = round [];
          others = r.mark ∷ r.others;
          tokens = t ∷ r.tokens;
          whole = sym r.whole ∙ sym (carry [] (r.mark ∷ r.others));
          spelled = go [] (t ∷ us) refl;
          fit = (record { kind = r.same; at = r.at; span = r.there }, r.fit);
          past = past_mark lim why t us r.tokens r.mark r.others r.past;
        }

    by_first : (before ts : List Token)
        → ((ns : List Mark) (end : List Token) → Spells lim ns ts end → Spells lim (round ns) before end)
        → ((a b : List Mark) → round a ++ b ≡ round (a ++ b))
        → Completion lim marks before (record { why = refused why begins ts; rest = ts })
    by_first before [] go carry = at_once w before [] go carry
    by_first before (t ∷ us) go carry = by_test t us before (begins t.kind) refl go carry

-- past the last level
pub halts_deep : {A : Type 0} {lim : Limits} {marks : A → List Mark} (begins : Kind → Bool) (l : ℕ) (one : Kind) (s : Span)
    → begins one ≡ true
    → lim.nesting < l
    → ((k : Kind) (s : Span) → begins k ≡ true → Start marks l k s)
    → Halts lim (λ ns. ns) (refuse too_nested begins) marks
halts_deep {lim = lim} begins l one s begun past starts =
    let first = starts one s begun in
    halts_refuse too_nested begins
    (record {
      tree = first.tree;
      others = first.mark ∷ first.others;
      tokens = record { kind = one; from = s.from; to = s.to } ∷ first.tokens;
      same = sym first.whole;
      fit = (record { kind = first.same; at = first.at; span = first.there }, first.fit);
    })
    (λ k x h.
    let r = starts k x h in
    record {
      tree = r.tree;
      mark = r.mark;
      others = r.others;
      tokens = r.tokens;
      whole = sym r.whole;
      same = r.same;
      at = r.at;
      there = r.there;
      past = subst (λ n. lim.nesting < n) (sym r.deep) past;
      fit = r.fit;
    })

pub whole_start : {A : Type 0} {marks : A → List Mark} {l : ℕ} {kind : Kind} {span : Span} → Start marks l kind span → Whole (λ ns. ns) marks
whole_start {kind = kind} {span = span} one = record {
  tree = one.tree;
  others = one.mark ∷ one.others;
  tokens = record { kind = kind; from = span.from; to = span.to } ∷ one.tokens;
  same = sym one.whole;
  fit = (record { kind = one.same; at = one.at; span = one.there }, one.fit);
}

-- past the last operand of a chain
pub halts_past : {A B : Type 0} {lim : Limits} {round : List Mark → List Mark} {ms : A → List Mark} {marks : B → List Mark}
    (begins : Kind → Bool) (one : Kind) (s : Span)
    → begins one ≡ true
    → (k : ℕ)
    → lim.chain < k
    → ((k : Kind) (s : Span) → begins k ≡ true → (n : ℕ) × Start ms n k s)
    → (make : A → B) (ends : List Mark) (tokens : List Token)
    → AllFit tokens ends
    → ((x : A) → round (numbered k (ms x) ++ ends) ≡ marks (make x))
    → Halts lim round (refuse too_long begins) marks
halts_past {A = A} {B = B} {lim = lim} {round = round} {ms = ms} {marks = marks} begins one s begun k past starts make ends tokens fit same =
    halts_refuse too_long begins
    (record {
      tree = (reach one s begun).tree;
      others = (reach one s begun).mark ∷ (reach one s begun).others;
      tokens = record { kind = one; from = s.from; to = s.to } ∷ (reach one s begun).tokens;
      same = (reach one s begun).whole;
      fit = (record { kind = (reach one s begun).same; at = (reach one s begun).at; span = (reach one s begun).there }, (reach one s begun).fit);
    })
    reach
  where
    reach : (kind : Kind) (span : Span) → begins kind ≡ true → Reach lim too_long round marks kind span
    reach kind span h =
        let r = (starts kind span h).1 in
        record {
          tree = make r.tree;
          mark = record r.mark { operand = k };
          others = r.others ++ ends;
          tokens = r.tokens ++ tokens;
          whole = sym (ap (λ ns. round (numbered k ns ++ ends)) r.whole) ∙ same r.tree;
          same = r.same;
          at = r.at;
          there = r.there;
          past = past;
          fit = fit_both r.tokens tokens r.others ends r.fit fit;
        }

pub halts_cond : {A : Type 0} {lim : Limits} {round : List Mark → List Mark} {one other : Reader A} {marks : A → List Mark} (b : Bool)
    → Halts lim round one marks
    → Halts lim round other marks
    → (before ts : List Token)
    → ((ns : List Mark) (end : List Token) → Spells lim ns ts end → Spells lim (round ns) before end)
    → ((a b : List Mark) → round a ++ b ≡ round (a ++ b))
    → Stopped lim marks before (cond b (one ts) (other ts))
halts_cond true yes' no' before ts go carry = yes'.halted before ts go carry
halts_cond false yes' no' before ts go carry = no'.halted before ts go carry
