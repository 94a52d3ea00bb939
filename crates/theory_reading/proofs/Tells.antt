-- A reader tells the truth where each tree that it answers is spelled by what it read. How this goes
-- from the parts of a phrase to the phrase.
use Rattle.std.proofs.Common.{◌≡◌, ℕ, ◌≤◌, List, [], ◌∷◌, ◌++◌, length, refl, sym, ◌∙◌, ap, subst, arith, rules, append_assoc}
use Rattle.std.specs.Prelude.{Bool, true, false, Option, Some, None, Result, Ok, Err, cond}
use Rattle.std.proofs.lemmas.Bool.Decides.{nat_tests}
use denote.Enum.Bare.{same_true}
use Rattle.htt_lexer_tokens.specs.contracts.tokens.Keyword as keyword_enum
use Rattle.htt_lexer_tokens.specs.contracts.tokens.Sign as sign_enum
use Rattle.htt_lexer_tokens.specs.declared.tokens.Kind.{Kind}
use Rattle.htt_lexer_tokens.specs.declared.tokens.Kind.TheVariants.{Name, Number, Keyword, Sign}
use Rattle.htt_lexer_tokens.specs.declared.tokens.Token.{Token}
use Rattle.htt_parser_trees.specs.declared.place.Span.{Span}
use Rattle.theory_grammar.specs.Marks.{Mark, Limits, Given, IsWithin, span_of, ◌⨟◌, numbered}
use Rattle.theory_grammar.specs.Readers.{Reader, Halt, Why, give, then_read, ◌>>=◌, stop, refuse, chosen, either, first_is, if_first, measured, same_kind, that}
use Rattle.theory_grammar.proofs.Spells.{Spells}

pub record Tells {A : Type 0} (lim : Limits) (reader : Reader A) (marks : A → List Mark) : Type 0 where
  pub tells : (ts : List Token) (x : A) (rest : List Token) → reader ts ≡ Ok (x, rest) → Spells lim (marks x) ts rest

-- the same behind what was read before: what is spelled here is spelled there with these marks round it
pub record Told {A : Type 0} (lim : Limits) (round : List Mark → List Mark) (reader : Reader A) (marks : A → List Mark) : Type 0 where
  pub told : (before ts : List Token) (x : A) (rest : List Token)
      → ((ns : List Mark) (end : List Token) → Spells lim ns ts end → Spells lim (round ns) before end)
      → reader ts ≡ Ok (x, rest)
      → Spells lim (marks x) before rest

pub join : (lim : Limits) (a b : List Mark) (ts mid rest : List Token) → Spells lim a ts mid → Spells lim b mid rest → Spells lim (a ⨟ b) ts rest
unfolding ◌⨟◌
join lim [] b ts mid rest s r = subst (λ us. Spells lim b us rest) (sym s) r
join lim (m ∷ a) b ts mid rest s r = (s.0, s.1, s.2, s.3, s.4, join lim a b s.1 mid rest s.5 r)

pub alone : {A : Type 0} {lim : Limits} {r : Reader A} {marks : A → List Mark} → Told lim (λ ns. ns) r marks → Tells lim r marks
alone told = record { tells = λ ts x rest e. told.told ts ts x rest (λ ns end s. s) e }

pub at_front : {A : Type 0} {lim : Limits} {r : Reader A} {marks : A → List Mark} → Tells lim r marks → Told lim (λ ns. ns) r marks
at_front {marks = marks} tells = record { told = λ before ts x rest round e. round (marks x) rest (tells.tells ts x rest e) }

-- ---- one after the other

pub record Bound {A B : Type 0} (o : Result (A × List Token) Halt) (k : A → Reader B) (y : B) (rest : List Token) : Type 0 where
  pub value : A
  pub mid : List Token
  pub first : o ≡ Ok (value, mid)
  pub next : k value mid ≡ Ok (y, rest)

pub bound : {A B : Type 0} (o : Result (A × List Token) Halt) (k : A → Reader B) (y : B) (rest : List Token) → then_read o k ≡ Ok (y, rest) → Bound o k y rest
bound (Ok read) k y rest e = record { value = read.0; mid = read.1; first = refl; next = e }
bound (Err halt) k y rest e = cc

unfoldable pub read_of : {A : Type 0} → A → Result (A × List Token) Halt → A
read_of x (Ok read) = read.0
read_of x (Err halt) = x

unfoldable pub left_of : {A : Type 0} → List Token → Result (A × List Token) Halt → List Token
left_of rest (Ok read) = read.1
left_of rest (Err halt) = rest

pub told_then : {A B : Type 0} {lim : Limits} {round : List Mark → List Mark} {r : Reader A} {ms : A → List Mark} {marks : B → List Mark}
    (k : A → Reader B)
    → Tells lim r ms
    → ((x : A) → Told lim (λ ns. round (ms x ⨟ ns)) (k x) marks)
    → Told lim round (r >>= k) marks
unfolding ◌>>=◌
told_then {lim = lim} {r = r} {ms = ms} k first next = record {
  told = λ before ts y rest round e.
      let b = bound (r ts) k y rest e in
      (next b.value).told before b.mid y rest
      (λ ns end s. round (ms b.value ⨟ ns) end (join lim (ms b.value) ns ts b.mid end (first.tells ts b.value b.mid b.first) s)) b.next;
}

-- what is given at the end
pub told_last : {A B : Type 0} {lim : Limits} {round : List Mark → List Mark} {r : Reader A} {ms : A → List Mark} {marks : B → List Mark}
    (make : A → B)
    → Tells lim r ms
    → ((x : A) → round (ms x) ≡ marks (make x))
    → Told lim round (r >>= (λ x. give (make x))) marks
unfolding ◌>>=◌ give read_of left_of
told_last {lim = lim} {r = r} {ms = ms} {marks = marks} make first same = record {
  told = λ before ts y rest round e.
      let b = bound (r ts) (λ x. give (make x)) y rest e in
      let spelled = round (ms b.value) b.mid (first.tells ts b.value b.mid b.first) in
      let there = subst (λ ns. Spells lim ns before b.mid) (same b.value) spelled in
      let now = subst (λ z. Spells lim (marks z) before b.mid) (ap (read_of y) b.next) there in
      subst (λ us. Spells lim (marks y) before us) (ap (left_of rest) b.next) now;
}

pub told_give : {A : Type 0} {lim : Limits} {round : List Mark → List Mark} {marks : A → List Mark} (y : A) → round [] ≡ marks y → Told lim round (give y) marks
unfolding give read_of left_of
told_give {lim = lim} {marks = marks} y same = record {
  told = λ before ts z rest round e.
      let there = subst (λ ns. Spells lim ns before ts) same (round [] ts refl) in
      let now = subst (λ w. Spells lim (marks w) before ts) (ap (read_of z) e) there in
      subst (λ us. Spells lim (marks z) before us) (ap (left_of rest) e) now;
}

pub told_stop : {A : Type 0} {lim : Limits} {round : List Mark → List Mark} {marks : A → List Mark} → Told lim round stop marks
unfolding stop
told_stop = record { told = λ before ts x rest round e. cc }

pub told_refuse : {A : Type 0} {lim : Limits} {round : List Mark → List Mark} {marks : A → List Mark} (why : Why) (begins : Kind → Bool)
    → Told lim round (refuse why begins) marks
unfolding refuse
told_refuse why begins = record { told = λ before ts x rest round e. cc }

pub reround : {A : Type 0} {lim : Limits} {r : Reader A} {marks : A → List Mark} (round other : List Mark → List Mark)
    → ((ns : List Mark) → round ns ≡ other ns)
    → Told lim round r marks
    → Told lim other r marks
reround {lim = lim} round other same told = record {
  told = λ before ts x rest go e.
      told.told before ts x rest (λ ns end s. subst (λ ms. Spells lim ms before end) (sym (same ns)) (go ns end s)) e;
}

-- ---- by the first token

pub record Taken {A : Type 0} (lim : Limits) (round : List Mark → List Mark) (kind : Kind) (span : Span) (reader : Reader A)
    (marks : A → List Mark) : Type 0 where
  pub mark : Mark
  pub same : kind ≡ mark.kind
  pub at : Given mark.at span.from
  pub there : Given mark.span span
  pub within : IsWithin lim mark
  pub then : Told lim (λ ns. round ((mark ∷ []) ⨟ ns)) reader marks

abbrev pub Case : {A : Type 0} → Limits → (List Mark → List Mark) → (A → List Mark) → Kind → Span → Option (Span → Reader A) → Type 0
Case lim round marks kind span None = Unit {0}
Case lim round marks kind span (Some next) = Taken lim round kind span (next span) marks

by_case : {A : Type 0} (lim : Limits) (round : List Mark → List Mark) (marks : A → List Mark) (otherwise : Reader A) (t : Token)
    (us before : List Token) (x : A) (rest : List Token) (o : Option (Span → Reader A))
    → Case lim round marks t.kind (span_of t) o
    → Told lim round otherwise marks
    → ((ns : List Mark) (end : List Token) → Spells lim ns (t ∷ us) end → Spells lim (round ns) before end)
    → chosen o otherwise t us ≡ Ok (x, rest)
    → Spells lim (marks x) before rest
unfolding ◌⨟◌
by_case lim round marks otherwise t us before x rest None case other go e = other.told before (t ∷ us) x rest go e
by_case lim round marks otherwise t us before x rest (Some next) case other go e =
    case.then.told before us x rest
    (λ ns end s.
    go ((case.mark ∷ []) ++ ns) end (t, us, refl, record { kind = case.same; at = case.at; span = case.there }, case.within, s)) e

pub told_either : {A : Type 0} {lim : Limits} {round : List Mark → List Mark} {otherwise : Reader A} {marks : A → List Mark}
    (choose : Kind → Option (Span → Reader A))
    → ((k : Kind) (s : Span) → Case lim round marks k s (choose k))
    → Told lim round otherwise marks
    → Told lim round (either choose otherwise) marks
unfolding either
told_either {A = A} {lim = lim} {round = round} {otherwise = otherwise} {marks = marks} choose case other = record {
  told = λ before ts x rest go e. by_first before ts x rest go e;
}
  where
    by_first : (before ts : List Token) (x : A) (rest : List Token)
        → ((ns : List Mark) (end : List Token) → Spells lim ns ts end → Spells lim (round ns) before end)
        → either choose otherwise ts ≡ Ok (x, rest)
        → Spells lim (marks x) before rest
    by_first before [] x rest go e = other.told before [] x rest go e
    by_first before (t ∷ us) x rest go e = by_case lim round marks otherwise t us before x rest (choose t.kind) (case t.kind (span_of t)) other go e

pub told_first : {A : Type 0} {lim : Limits} {round : List Mark → List Mark} {one other : Reader A} {marks : A → List Mark}
    (test : Kind → Bool)
    → Told lim round one marks
    → Told lim round other marks
    → Told lim round (if_first test one other) marks
unfolding if_first
told_first {A = A} {lim = lim} {round = round} {one = one} {other = other} {marks = marks} test yes' no' = record {
  told = λ before ts x rest go e. by_test (first_is test ts) before ts x rest go e;
}
  where
    by_test : (b : Bool) (before ts : List Token) (x : A) (rest : List Token)
        → ((ns : List Mark) (end : List Token) → Spells lim ns ts end → Spells lim (round ns) before end)
        → cond b (one ts) (other ts) ≡ Ok (x, rest)
        → Spells lim (marks x) before rest
    by_test true before ts x rest go e = yes'.told before ts x rest go e
    by_test false before ts x rest go e = no'.told before ts x rest go e

pub tells_measured : {A : Type 0} {lim : Limits} {r : ℕ → Reader A} {marks : A → List Mark} → ((n : ℕ) → Tells lim (r n) marks) → Tells lim (measured r) marks
unfolding measured
tells_measured each = record { tells = λ ts x rest e. (each (length ts)).tells ts x rest e }

-- ---- tokens

pub same_kinds : (a b : Kind) → same_kind a b ≡ true → a ≡ b
same_kinds Name Name e = refl
same_kinds (Number n) (Number m) e = let same : n ≡ m = grind (arith, nat_tests) in ap Number same
same_kinds (Keyword a) (Keyword b) e = ap Keyword (same_true keyword_enum.the_type (search rules) a b e)
same_kinds (Sign a) (Sign b) e = ap Sign (same_true sign_enum.the_type (search rules) a b e)
same_kinds _ _ e = cc

-- a token of this kind, with a mark that says no more
pub told_that : {A : Type 0} {lim : Limits} {round : List Mark → List Mark} {marks : A → List Mark} (mark : Mark)
    → mark.at ≡ None
    → mark.span ≡ None
    → IsWithin lim mark
    → (next otherwise : Reader A)
    → Told lim (λ ns. round ((mark ∷ []) ⨟ ns)) next marks
    → Told lim round otherwise marks
    → Told lim round (either (that mark.kind next) otherwise) marks
told_that {A = A} {lim = lim} {round = round} {marks = marks} mark no_at no_span within next otherwise then other =
    told_either _ (λ k s. by_same (same_kind k mark.kind) k s (same_kinds k mark.kind)) other
  where
    by_same : (b : Bool) (k : Kind) (s : Span) → (b ≡ true → k ≡ mark.kind) → Case lim round marks k s (cond b (Some (λ _. next)) None)
    by_same true k s same = record {
      mark = mark;
      same = same refl;
      at = subst (λ o. Given o s.from) (sym no_at) tt;
      there = subst (λ o. Given o s) (sym no_span) tt;
      within = within;
      then = then;
    }
    by_same false k s same = tt

pub renumber : (lim : Limits) (k : ℕ) (ms : List Mark) (ts rest : List Token) → k ≤ lim.chain → Spells lim ms ts rest → Spells lim (numbered k ms) ts rest
renumber lim k [] ts rest within s = s
renumber lim k (m ∷ ms) ts rest within s =
    (s.0, s.1, s.2, record { kind = s.3.kind; at = s.3.at; span = s.3.span }, record { level = s.4.level; operand = within }, s.5)

-- a list, the bracket after it and what follows, however they are put together
pub list_in_brackets : (first more close ns : List Mark) → first ++ (more ++ (close ++ ns)) ≡ ((first ++ more) ++ close) ++ ns
list_in_brackets first more close ns = sym (append_assoc (first ++ more) close ns ∙ append_assoc first more (close ++ ns))
