-- Where one reader stops at a limit and another reads on, the other's tree has a mark there that is
-- past the limit. How this goes from the parts of a phrase to the phrase.
use Rattle.std.proofs.Common.{◌≡◌, ℕ, ◌<◌, ◌≤◌, List, [], ◌∷◌, ◌++◌, length, refl, sym, ◌∙◌, ap, subst, arith, append_assoc}
use Rattle.std.specs.Prelude.{Bool, true, false, Option, Some, None, Result, Ok, Err, cond}
use Rattle.htt_lexer_tokens.specs.declared.tokens.Kind.{Kind}
use Rattle.htt_lexer_tokens.specs.declared.tokens.Token.{Token}
use Rattle.htt_parser_trees.specs.declared.place.Span.{Span}
use Rattle.theory_grammar.specs.Marks.{Mark, Limits, Given, IsWithin, span_of, ◌⨟◌, numbered}
use Rattle.theory_grammar.specs.Readers.{Reader, Halt, Why, expected, too_nested, too_long, too_many, give, then_read, ◌>>=◌, stop, refused, refuse, chosen}
use Rattle.theory_grammar.specs.Readers.{either, first_is, if_first, measured, same_kind, that}
use Rattle.theory_grammar.proofs.Spells.{Spells, Opens, Begins}
use Rattle.theory_reading.proofs.Tells.{Tells, join, same_kinds}
use Rattle.theory_reading_limits.specs.Limits.{IsLimit}
use Rattle.theory_reading_places.proofs.Follows.{Greater, Answers, Follows, alike_self}

-- the tree begins with what was read before the stop, and goes on past the limits
pub record Barrier {A : Type 0} (lim : Limits) (marks : A → List Mark) (ts : List Token) (halt : Halt) (tree : A) : Type 0 where
  pub first : List Mark
  pub mark : Mark
  pub others : List Mark
  pub whole : marks tree ≡ first ++ (mark ∷ others)
  pub spelled : Spells lim first ts halt.rest
  pub over : IsWithin lim mark → ⊥

abbrev pub Held : {A : Type 0} → Limits → (A → List Mark) → List Token → Result (A × List Token) Halt → Result (A × List Token) Halt → Type 0
Held lim marks ts (Ok read) other = Unit {0}
Held lim marks ts (Err halt) (Err halted) = Unit {0}
Held lim marks ts (Err halt) (Ok read) = IsLimit halt.why → Barrier lim marks ts halt read.0

-- the marks of the tree are some others with these round them
pub record Form {A : Type 0} (round : List Mark → List Mark) (marks : A → List Mark) (tree : A) : Type 0 where
  pub others : List Mark
  pub same : round others ≡ marks tree

abbrev pub Formed : {A : Type 0} → (List Mark → List Mark) → (A → List Mark) → Result (A × List Token) Halt → Type 0
Formed round marks (Ok read) = Form round marks read.0
Formed round marks (Err halt) = Unit {0}

pub record Forms {A : Type 0} (round : List Mark → List Mark) (reader : Reader A) (marks : A → List Mark) : Type 0 where
  pub forms : (ts : List Token) → Formed round marks (reader ts)

-- behind what was read before: the one reader is held where the other goes past a limit
pub record Bars {A : Type 0} (lim : Limits) (round : List Mark → List Mark) (reader other : Reader A) (marks : A → List Mark) : Type 0 where
  pub form : Forms round other marks
  pub held : (before ts : List Token)
      → ((ns : List Mark) (end : List Token) → Spells lim ns ts end → Spells lim (round ns) before end)
      → ((a b : List Mark) → round a ++ b ≡ round (a ++ b))
      → Held lim marks before (reader ts) (other ts)

abbrev pub SameOk : {A : Type 0} → Result (A × List Token) Halt → Result (A × List Token) Halt → Type 0
SameOk (Ok read) other = other ≡ Ok read
SameOk (Err halt) other = Unit {0}

-- a reader that tells the truth, and another that reads the same and maybe more
pub record Barred {A : Type 0} (lim : Limits) (reader other : Reader A) (marks : A → List Mark) : Type 0 where
  pub tells : Tells lim reader marks
  pub same : (ts : List Token) → SameOk (reader ts) (other ts)
  pub bars : Bars lim (λ ns. ns) reader other marks

pub same_ok : {A : Type 0} {b : Greater} {r q : Reader A} → ((n m : ℕ) → Follows b n m r q) → (ts : List Token) → SameOk (r ts) (q ts)
same_ok {A = A} {b = b} {r = r} {q = q} follows ts = by_answer (r ts) ((follows (length ts) (length ts)).answers ts (omega arith))
  where
    by_answer : (o : Result (A × List Token) Halt) → Answers b (length ts) q ts o → SameOk o (q ts)
    by_answer (Ok read) got = ap q got.parts ∙ got.same read.1 (alike_self read.1) (subst (λ us. length us ≤ length ts) got.parts (omega arith)) tt
    by_answer (Err halt) got = tt

-- ---- forms

pub forms_id : {A : Type 0} {r : Reader A} {marks : A → List Mark} → Forms (λ ns. ns) r marks
forms_id {A = A} {r = r} {marks = marks} = record { forms = λ ts. any (r ts) }
  where
    any : (o : Result (A × List Token) Halt) → Formed (λ ns. ns) marks o
    any (Ok read) = record { others = marks read.0; same = refl }
    any (Err halt) = tt

pub forms_then : {A B : Type 0} {round : List Mark → List Mark} {k : A → Reader B} {marks : B → List Mark} (r : Reader A)
    (ms : A → List Mark)
    → ((x : A) → Forms (λ ns. round (ms x ⨟ ns)) (k x) marks)
    → Forms round (r >>= k) marks
unfolding ◌>>=◌ ◌⨟◌
forms_then {A = A} {B = B} {round = round} {k = k} {marks = marks} r ms next = record { forms = λ ts. by_first (r ts) }
  where
    longer : (x : A) (o : Result (B × List Token) Halt) → Formed (λ ns. round (ms x ++ ns)) marks o → Formed round marks o
    longer x (Ok read) f = record { others = ms x ++ f.others; same = f.same }
    longer x (Err halt) f = tt

    by_first : (o : Result (A × List Token) Halt) → Formed round marks (then_read o k)
    by_first (Ok read) = longer read.0 (k read.0 read.1) ((next read.0).forms read.1)
    by_first (Err halt) = tt

pub forms_last : {A B : Type 0} {round : List Mark → List Mark} {marks : B → List Mark} (r : Reader A) (ms : A → List Mark) (make : A → B)
    → ((x : A) → round (ms x) ≡ marks (make x))
    → Forms round (r >>= (λ x. give (make x))) marks
unfolding ◌>>=◌ give
forms_last {A = A} {B = B} {round = round} {marks = marks} r ms make same = record { forms = λ ts. by_first (r ts) }
  where
    by_first : (o : Result (A × List Token) Halt) → Formed round marks (then_read o (λ x. give (make x)))
    by_first (Ok read) = record { others = ms read.0; same = same read.0 }
    by_first (Err halt) = tt

pub forms_give : {A : Type 0} {round : List Mark → List Mark} {marks : A → List Mark} (y : A) → round [] ≡ marks y → Forms round (give y) marks
unfolding give
forms_give y same = record { forms = λ ts. record { others = []; same = same } }

-- ---- one after the other

pub bars_then : {A B : Type 0} {lim : Limits} {round : List Mark → List Mark} {r q : Reader A} {ms : A → List Mark} {marks : B → List Mark}
    {k j : A → Reader B}
    → Barred lim r q ms
    → ((x : A) → Bars lim (λ ns. round (ms x ⨟ ns)) (k x) (j x) marks)
    → Bars lim round (r >>= k) (q >>= j) marks
unfolding ◌>>=◌ ◌⨟◌
bars_then {A = A} {B = B} {lim = lim} {round = round} {r = r} {q = q} {ms = ms} {marks = marks} {k = k} {j = j} first next = record {
  form = forms_then q ms (λ x. (next x).form);
  held = λ before ts go carry. by_first before ts (r ts) (q ts) refl (first.same ts) (first.bars.held ts ts (λ ns end s. s) (λ a b. refl)) go carry;
}
  where
    by_form : (before ts : List Token) (halt : Halt) (x : A) (o : Result (B × List Token) Halt)
        → Formed (λ ns. round (ms x ++ ns)) marks o
        → (IsLimit halt.why → Barrier lim ms ts halt x)
        → ((ns : List Mark) (end : List Token) → Spells lim ns ts end → Spells lim (round ns) before end)
        → ((a b : List Mark) → round a ++ b ≡ round (a ++ b))
        → Held lim marks before (Err halt) o
    by_form before ts halt x (Ok read) form barrier go carry = λ limit.
        let c = barrier limit in
        record {
          first = round c.first;
          mark = c.mark;
          others = c.others ++ form.others;
          whole =
              sym form.same
              ∙ ap (λ ns. round (ns ++ form.others)) c.whole
              ∙ ap round (append_assoc c.first (c.mark ∷ c.others) form.others)
              ∙ sym (carry c.first (c.mark ∷ (c.others ++ form.others)));
          spelled = go c.first halt.rest c.spelled;
          over = c.over;
        }
    by_form before ts halt x (Err halted) form barrier go carry = tt

    by_first : (before ts : List Token) (o p : Result (A × List Token) Halt)
        → r ts ≡ o
        → SameOk o p
        → Held lim ms ts o p
        → ((ns : List Mark) (end : List Token) → Spells lim ns ts end → Spells lim (round ns) before end)
        → ((a b : List Mark) → round a ++ b ≡ round (a ++ b))
        → Held lim marks before (then_read o k) (then_read p j)
    by_first before ts (Ok read) p e same held go carry =
        subst (λ a. Held lim marks before (k read.0 read.1) (then_read a j)) (sym same)
        ((next read.0).held before read.1
        (λ ns end s. go (ms read.0 ++ ns) end (join lim (ms read.0) ns ts read.1 end (first.tells.tells ts read.0 read.1 e) s))
        (λ a b. carry (ms read.0 ++ a) b ∙ ap round (append_assoc (ms read.0) a b)))
    by_first before ts (Err halt) (Err halted) e same held go carry = tt
    by_first before ts (Err halt) (Ok read) e same held go carry =
        by_form before ts halt read.0 (j read.0 read.1) ((next read.0).form.forms read.1) held go carry

-- what is given at the end
pub bars_last : {A B : Type 0} {lim : Limits} {round : List Mark → List Mark} {r q : Reader A} {ms : A → List Mark} {marks : B → List Mark}
    (make : A → B)
    → Bars lim (λ ns. ns) r q ms
    → ((x : A) → round (ms x) ≡ marks (make x))
    → Bars lim round (r >>= (λ x. give (make x))) (q >>= (λ x. give (make x))) marks
unfolding ◌>>=◌ give
bars_last {A = A} {B = B} {lim = lim} {round = round} {r = r} {q = q} {ms = ms} {marks = marks} make first same = record {
  form = forms_last q ms make same;
  held = λ before ts go carry. by_first before ts (r ts) (q ts) (first.held ts ts (λ ns end s. s) (λ a b. refl)) go carry;
}
  where
    by_first : (before ts : List Token) (o p : Result (A × List Token) Halt)
        → Held lim ms ts o p
        → ((ns : List Mark) (end : List Token) → Spells lim ns ts end → Spells lim (round ns) before end)
        → ((a b : List Mark) → round a ++ b ≡ round (a ++ b))
        → Held lim marks before (then_read o (λ x. give (make x))) (then_read p (λ x. give (make x)))
    by_first before ts (Ok read) p held go carry = tt
    by_first before ts (Err halt) (Err halted) held go carry = tt
    by_first before ts (Err halt) (Ok read) held go carry = λ limit.
        let c = held limit in
        record {
          first = round c.first;
          mark = c.mark;
          others = c.others;
          whole = sym (same read.0) ∙ ap round c.whole ∙ sym (carry c.first (c.mark ∷ c.others));
          spelled = go c.first halt.rest c.spelled;
          over = c.over;
        }

pub bars_give : {A : Type 0} {lim : Limits} {round : List Mark → List Mark} {marks : A → List Mark} (y : A)
    → round [] ≡ marks y
    → Bars lim round (give y) (give y) marks
unfolding give
bars_give y same = record { form = forms_give y same; held = λ before ts go carry. tt }

pub bars_stop : {A : Type 0} {lim : Limits} {round : List Mark → List Mark} {marks : A → List Mark} → Bars lim round stop stop marks
unfolding stop
bars_stop = record { form = record { forms = λ ts. tt }; held = λ before ts go carry. tt }

pub bars_refuse : {A : Type 0} {lim : Limits} {round : List Mark → List Mark} {marks : A → List Mark} (why : Why) (begins : Kind → Bool)
    → Bars lim round (refuse why begins) (refuse why begins) marks
unfolding refuse
bars_refuse why begins = record { form = record { forms = λ ts. tt }; held = λ before ts go carry. tt }

pub bars_reround : {A : Type 0} {lim : Limits} {r q : Reader A} {marks : A → List Mark} (round other : List Mark → List Mark)
    → ((ns : List Mark) → round ns ≡ other ns)
    → Bars lim round r q marks
    → Bars lim other r q marks
bars_reround {A = A} {lim = lim} {r = r} {q = q} {marks = marks} round other same bars = record {
  form = record { forms = λ ts. again (q ts) (bars.form.forms ts) };
  held = λ before ts go carry.
      bars.held before ts (λ ns end s. subst (λ ms. Spells lim ms before end) (sym (same ns)) (go ns end s))
      (λ a b. ap (λ ns. ns ++ b) (same a) ∙ carry a b ∙ sym (same (a ++ b)));
}
  where
    again : (o : Result (A × List Token) Halt) → Formed round marks o → Formed other marks o
    again (Ok read) f = record { others = f.others; same = sym (same f.others) ∙ f.same }
    again (Err halt) f = tt

-- ---- by the first token

pub record Takes {A : Type 0} (lim : Limits) (round : List Mark → List Mark) (kind : Kind) (span : Span) (reader other : Reader A)
    (marks : A → List Mark) : Type 0 where
  pub mark : Mark
  pub same : kind ≡ mark.kind
  pub at : Given mark.at span.from
  pub there : Given mark.span span
  pub within : IsWithin lim mark
  pub then : Bars lim (λ ns. round ((mark ∷ []) ⨟ ns)) reader other marks

abbrev pub Case : {A : Type 0} → Limits → (List Mark → List Mark) → (A → List Mark) → Kind → Span → Option (Span → Reader A) → Option (Span → Reader A) → Type 0
Case lim round marks kind span None None = Unit {0}
Case lim round marks kind span (Some next) (Some other) = Takes lim round kind span (next span) (other span) marks
Case lim round marks kind span _ _ = ⊥

pub bars_either : {A : Type 0} {lim : Limits} {round : List Mark → List Mark} {next other : Reader A} {marks : A → List Mark}
    (choose choice : Kind → Option (Span → Reader A))
    → ((k : Kind) (s : Span) → Case lim round marks k s (choose k) (choice k))
    → Bars lim round next other marks
    → Bars lim round (either choose next) (either choice other) marks
unfolding either ◌⨟◌
bars_either {A = A} {lim = lim} {round = round} {next = next} {other = other} {marks = marks} choose choice case rest = record {
  form = record { forms = forms };
  held = held;
}
  where
    longer : (m : Mark) (o : Result (A × List Token) Halt) → Formed (λ ns. round (m ∷ ns)) marks o → Formed round marks o
    longer m (Ok read) f = record { others = m ∷ f.others; same = f.same }
    longer m (Err halt) f = tt

    form_case : (t : Token) (us : List Token) (o p : Option (Span → Reader A))
        → Case lim round marks t.kind (span_of t) o p
        → Formed round marks (chosen p other t us)
    form_case t us None None case = rest.form.forms (t ∷ us)
    form_case t us (Some f) (Some g) case = longer case.mark (g (span_of t) us) (case.then.form.forms us)
    form_case t us None (Some g) case = absurd case
    form_case t us (Some f) None case = absurd case

    forms : (ts : List Token) → Formed round marks (either choice other ts)
    forms [] = rest.form.forms []
    forms (t ∷ us) = form_case t us (choose t.kind) (choice t.kind) (case t.kind (span_of t))

    held_case : (before : List Token) (t : Token) (us : List Token) (o p : Option (Span → Reader A))
        → Case lim round marks t.kind (span_of t) o p
        → ((ns : List Mark) (end : List Token) → Spells lim ns (t ∷ us) end → Spells lim (round ns) before end)
        → ((a b : List Mark) → round a ++ b ≡ round (a ++ b))
        → Held lim marks before (chosen o next t us) (chosen p other t us)
    held_case before t us None None case go carry = rest.held before (t ∷ us) go carry
    held_case before t us (Some f) (Some g) case go carry =
        case.then.held before us
        (λ ns end s. go (case.mark ∷ ns) end (t, us, refl, record { kind = case.same; at = case.at; span = case.there }, case.within, s))
        (λ a b. carry (case.mark ∷ a) b)
    held_case before t us None (Some g) case go carry = absurd case
    held_case before t us (Some f) None case go carry = absurd case

    held : (before ts : List Token)
        → ((ns : List Mark) (end : List Token) → Spells lim ns ts end → Spells lim (round ns) before end)
        → ((a b : List Mark) → round a ++ b ≡ round (a ++ b))
        → Held lim marks before (either choose next ts) (either choice other ts)
    held before [] go carry = rest.held before [] go carry
    held before (t ∷ us) go carry = held_case before t us (choose t.kind) (choice t.kind) (case t.kind (span_of t)) go carry

pub bars_cond : {A : Type 0} {lim : Limits} {round : List Mark → List Mark} {marks : A → List Mark} {one other uno otro r q : Reader A}
    (test : List Token → Bool)
    → ((ts : List Token) → r ts ≡ cond (test ts) (one ts) (other ts))
    → ((ts : List Token) → q ts ≡ cond (test ts) (uno ts) (otro ts))
    → Bars lim round one uno marks
    → Bars lim round other otro marks
    → Bars lim round r q marks
bars_cond {A = A} {lim = lim} {round = round} {marks = marks} {one = one} {other = other} {uno = uno} {otro = otro} {q = q} test is is' yes' no' = record {
  form = record { forms = λ ts. subst (λ o. Formed round marks o) (sym (is' ts)) (form (test ts) ts) };
  held = λ before ts go carry.
      subst (λ o. Held lim marks before o (q ts)) (sym (is ts))
      (subst (λ o. Held lim marks before (cond (test ts) (one ts) (other ts)) o) (sym (is' ts)) (held (test ts) before ts go carry));
}
  where
    form : (b : Bool) (ts : List Token) → Formed round marks (cond b (uno ts) (otro ts))
    form true ts = yes'.form.forms ts
    form false ts = no'.form.forms ts

    held : (b : Bool) (before ts : List Token)
        → ((ns : List Mark) (end : List Token) → Spells lim ns ts end → Spells lim (round ns) before end)
        → ((a b : List Mark) → round a ++ b ≡ round (a ++ b))
        → Held lim marks before (cond b (one ts) (other ts)) (cond b (uno ts) (otro ts))
    held true before ts go carry = yes'.held before ts go carry
    held false before ts go carry = no'.held before ts go carry

pub bars_first : {A : Type 0} {lim : Limits} {round : List Mark → List Mark} {marks : A → List Mark} {one other uno otro : Reader A}
    (test : Kind → Bool)
    → Bars lim round one uno marks
    → Bars lim round other otro marks
    → Bars lim round (if_first test one other) (if_first test uno otro) marks
unfolding if_first
bars_first {one = one} {other = other} {uno = uno} {otro = otro} test yes' no' = bars_cond (λ ts. first_is test ts) (λ ts. refl) (λ ts. refl) yes' no'

pub bars_measured : {A : Type 0} {lim : Limits} {round : List Mark → List Mark} {r q : ℕ → Reader A} {marks : A → List Mark}
    → ((n : ℕ) → Bars lim round (r n) (q n) marks)
    → Bars lim round (measured r) (measured q) marks
unfolding measured
bars_measured each = record {
  form = record { forms = λ ts. (each (length ts)).form.forms ts };
  held = λ before ts go carry. (each (length ts)).held before ts go carry;
}

-- a token of this kind, with a mark that says no more
pub bars_that : {A : Type 0} {lim : Limits} {round : List Mark → List Mark} {marks : A → List Mark} {next other rest otherwise : Reader A}
    (mark : Mark)
    → mark.at ≡ None
    → mark.span ≡ None
    → IsWithin lim mark
    → Bars lim (λ ns. round ((mark ∷ []) ⨟ ns)) next other marks
    → Bars lim round rest otherwise marks
    → Bars lim round (either (that mark.kind next) rest) (either (that mark.kind other) otherwise) marks
bars_that {A = A} {lim = lim} {round = round} {marks = marks} {next = next} {other = other} mark no_at no_span within then else' =
    bars_either _ _ (λ k s. by_same (same_kind k mark.kind) k s (same_kinds k mark.kind)) else'
  where
    by_same : (b : Bool) (k : Kind) (s : Span)
        → (b ≡ true → k ≡ mark.kind)
        → Case lim round marks k s (cond b (Some (λ _. next)) None) (cond b (Some (λ _. other)) None)
    by_same true k s same = record {
      mark = mark;
      same = same refl;
      at = subst (λ o. Given o s.from) (sym no_at) tt;
      there = subst (λ o. Given o s) (sym no_span) tt;
      within = within;
      then = then;
    }
    by_same false k s same = tt

-- ---- at a limit

-- past the last level
pub bars_deep : {A : Type 0} {lim : Limits} {q : Reader A} {marks : A → List Mark} (begins : Kind → Bool) (l : ℕ)
    → lim.nesting < l
    → ((x : A) → Opens begins l (marks x))
    → Bars lim (λ ns. ns) (refuse too_nested begins) q marks
unfolding refuse
bars_deep {A = A} {lim = lim} {q = q} {marks = marks} begins l past opens = record { form = forms_id; held = λ before ts go carry. held before ts go (q ts) }
  where
    too_deep : (m : Mark) → m.level ≡ l → IsWithin lim m → ⊥
    too_deep m deep within = let h = within.level in omega (arith, deep, past, h)

    barrier : (before ts : List Token) (why : Why) (x : A) (ms : List Mark)
        → marks x ≡ ms
        → Opens begins l ms
        → Spells lim [] before ts
        → Barrier lim marks before (record { why = why; rest = ts }) x
    barrier before ts why x [] e opening s = absurd opening
    barrier before ts why x (m ∷ ms) e opening s = record { first = []; mark = m; others = ms; whole = e; spelled = s; over = too_deep m opening.1 }

    held : (before ts : List Token)
        → ((ns : List Mark) (end : List Token) → Spells lim ns ts end → Spells lim ns before end)
        → (o : Result (A × List Token) Halt)
        → Held lim marks before (Err (record { why = refused too_nested begins ts; rest = ts })) o
    held before ts go (Ok read) = λ limit. barrier before ts _ read.0 (marks read.0) refl (opens read.0) (go [] ts refl)
    held before ts go (Err halt) = tt

-- past the last operand of a chain
pub bars_past : {A B : Type 0} {lim : Limits} {round : List Mark → List Mark} {j : A → Reader B} {marks : B → List Mark} (x : Reader A)
    (begins : Kind → Bool) (ms : A → List Mark) (k : ℕ)
    → lim.chain < k
    → ((x : A) → Begins begins (ms x))
    → ((x : A) → Forms (λ ns. round (numbered k (ms x) ⨟ ns)) (j x) marks)
    → Bars lim round (refuse too_long begins) (x >>= j) marks
unfolding refuse ◌>>=◌ ◌⨟◌
bars_past {A = A} {B = B} {lim = lim} {round = round} {j = j} {marks = marks} x begins ms k past opens next = record {
  form = forms_then x (λ a. numbered k (ms a)) next;
  held = λ before ts go carry. by_first before ts go carry (x ts);
}
  where
    too_far : (m : Mark) → m.operand ≡ k → IsWithin lim m → ⊥
    too_far m far within = let h = within.operand in omega (arith, far, past, h)

    barrier : (before ts : List Token) (why : Why) (a : A) (y : B) (form : Form (λ ns. round (numbered k (ms a) ++ ns)) marks y)
        (ns : List Mark)
        → ms a ≡ ns
        → Begins begins ns
        → Spells lim (round []) before ts
        → ((a b : List Mark) → round a ++ b ≡ round (a ++ b))
        → Barrier lim marks before (record { why = why; rest = ts }) y
    barrier before ts why a y form [] e opening s carry = absurd opening
    barrier before ts why a y form (m ∷ ns) e opening s carry = record {
      first = round [];
      mark = record m { operand = k };
      others = ns ++ form.others;
      whole = sym form.same ∙ ap (λ l. round (numbered k l ++ form.others)) e ∙ sym (carry [] (record m { operand = k } ∷ (ns ++ form.others)));
      spelled = s;
      over = too_far (record m { operand = k }) refl;
    }

    by_next : (before ts : List Token)
        → ((ns : List Mark) (end : List Token) → Spells lim ns ts end → Spells lim (round ns) before end)
        → ((a b : List Mark) → round a ++ b ≡ round (a ++ b))
        → (a : A) (o : Result (B × List Token) Halt)
        → Formed (λ ns. round (numbered k (ms a) ++ ns)) marks o
        → Held lim marks before (Err (record { why = refused too_long begins ts; rest = ts })) o
    by_next before ts go carry a (Ok read) form = λ limit. barrier before ts _ a read.0 form (ms a) refl (opens a) (go [] ts refl) carry
    by_next before ts go carry a (Err halt) form = tt

    by_first : (before ts : List Token)
        → ((ns : List Mark) (end : List Token) → Spells lim ns ts end → Spells lim (round ns) before end)
        → ((a b : List Mark) → round a ++ b ≡ round (a ++ b))
        → (o : Result (A × List Token) Halt)
        → Held lim marks before (Err (record { why = refused too_long begins ts; rest = ts })) (then_read o j)
    by_first before ts go carry (Ok read) = by_next before ts go carry read.0 (j read.0 read.1) ((next read.0).forms read.1)
    by_first before ts go carry (Err halt) = tt

-- where no more declarations are read
pub bars_many : {A : Type 0} {lim : Limits} {q : Reader A} {marks : A → List Mark} (begins : Kind → Bool) → Bars lim (λ ns. ns) (refuse too_many begins) q marks
unfolding refuse
bars_many {A = A} {lim = lim} {q = q} {marks = marks} begins = record { form = forms_id; held = λ before ts go carry. held before ts (q ts) }
  where
    no_limit : (b : Bool) → IsLimit (cond b too_many expected) → ⊥
    no_limit true h = h
    no_limit false h = h

    not_here : (ts : List Token) → IsLimit (refused too_many begins ts) → ⊥
    not_here [] h = h
    not_here (t ∷ ts) h = no_limit (begins t.kind) h

    held : (before ts : List Token) (o : Result (A × List Token) Halt) → Held lim marks before (Err (record { why = refused too_many begins ts; rest = ts })) o
    held before ts (Ok read) = λ limit. absurd (not_here ts limit)
    held before ts (Err halt) = tt
