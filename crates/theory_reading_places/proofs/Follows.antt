-- One reader follows another where it answers the same to whatever begins alike. How this goes from
-- the parts of a phrase to the phrase.
use Rattle.std.proofs.Common.{◌≡◌, ℕ, zero, suc, ◌≤◌, List, [], ◌∷◌, ◌++◌, length, refl, sym, ◌∙◌, ap, subst, arith, append_assoc}
use Rattle.std.specs.Prelude.{Bool, true, false, Option, Some, None, Result, Ok, Err, cond}
use Rattle.std.proofs.lemmas.List.{append_cancel_right, length-append}
use Rattle.htt_lexer_tokens.specs.declared.tokens.Kind.{Kind}
use Rattle.htt_lexer_tokens.specs.declared.tokens.Token.{Token}
use Rattle.htt_parser_trees.specs.declared.place.Span.{Span}
use Rattle.theory_grammar.specs.Marks.{span_of}
use Rattle.theory_grammar.specs.Readers.{Reader, Halt, Why, expected, too_nested, too_long, give, then_read, ◌>>=◌, stop, refused, refuse, chosen, either}
use Rattle.theory_grammar.specs.Readers.{first_is, if_first, measured, same_kind, that, token}
use Rattle.theory_reading_places.specs.Alike.{Alike}

-- in which limits the reader that follows may be greater
pub data Greater : Type 0 where
  in_none in_chains in_levels in_all : Greater

-- which reasons are kept: one that speaks of a limit only where this is the same
abbrev pub Kept : Greater → Why → Type 0
Kept b expected = Unit {0}
Kept in_none _ = Unit {0}
Kept in_chains too_nested = Unit {0}
Kept in_levels too_long = Unit {0}
Kept _ _ = ⊥

abbrev pub Claimed : {A : Type 0} → Greater → Result (A × List Token) Halt → Type 0
Claimed b (Ok read) = Unit {0}
Claimed b (Err halt) = Kept b halt.why

abbrev pub rest_of : {A : Type 0} → Result (A × List Token) Halt → List Token
rest_of (Ok read) = read.1
rest_of (Err halt) = halt.rest

abbrev pub with_rest : {A : Type 0} → Result (A × List Token) Halt → List Token → Result (A × List Token) Halt
with_rest (Ok read) other = Ok (read.0, other)
with_rest (Err halt) other = Err (record { why = halt.why; rest = other })

-- the answer to these tokens, and how the other reader answers to those that begin alike
pub record Answers {A : Type 0} (b : Greater) (n : ℕ) (follower : Reader A) (us : List Token) (o : Result (A × List Token) Halt) : Type 0 where
  pub before : List Token
  pub parts : us ≡ before ++ rest_of o
  pub same : (other : List Token) → Alike (rest_of o) other → length (before ++ other) ≤ n → Claimed b o → follower (before ++ other) ≡ with_rest o other

-- for lists of at most so many tokens
pub record Follows {A : Type 0} (b : Greater) (n m : ℕ) (reader follower : Reader A) : Type 0 where
  pub answers : (us : List Token) → length us ≤ n → Answers b m follower us (reader us)

-- ---- texts that begin alike

pub alike_self : (us : List Token) → Alike us us
alike_self [] = tt
alike_self (t ∷ us) = refl

pub alike_behind : (before rest other : List Token) → Alike rest other → Alike (before ++ rest) (before ++ other)
alike_behind [] rest other h = h
alike_behind (t ∷ before) rest other h = refl

pub alike_first : (test : Kind → Bool) (us vs : List Token) → Alike us vs → first_is test us ≡ first_is test vs
alike_first test [] [] h = refl
alike_first test [] (v ∷ vs) h = absurd h
alike_first test (u ∷ us) [] h = absurd h
alike_first test (u ∷ us) (v ∷ vs) h = ap (λ t. test t.kind) h

nothing_alike : (us : List Token) → Alike [] us → us ≡ []
nothing_alike [] h = refl
nothing_alike (u ∷ us) h = absurd h

refused_alike : (why : Why) (begins : Kind → Bool) (us vs : List Token) → Alike us vs → refused why begins vs ≡ refused why begins us
refused_alike why begins [] [] h = refl
refused_alike why begins [] (v ∷ vs) h = absurd h
refused_alike why begins (u ∷ us) [] h = absurd h
refused_alike why begins (u ∷ us) (v ∷ vs) h = ap (λ t. cond (begins t.kind) why expected) (sym h)

no_longer : (us before rest : List Token) → us ≡ before ++ rest → length rest ≤ length us
no_longer us before rest e = let whole = ap length e ∙ length-append before rest in omega (arith, whole)

-- ---- giving and stopping

pub follow_give : {A : Type 0} {b : Greater} {n m : ℕ} (x : A) → Follows b n m (give x) (give x)
unfolding give
follow_give x = record { answers = λ us short. record { before = []; parts = refl; same = λ other alike fits claimed. refl } }

pub follow_stop : {A : Type 0} {b : Greater} {n m : ℕ} → Follows {A = A} b n m stop stop
unfolding stop
follow_stop = record { answers = λ us short. record { before = []; parts = refl; same = λ other alike fits claimed. refl } }

pub follow_refuse : {A : Type 0} {b : Greater} {n m : ℕ} (why : Why) (begins : Kind → Bool) → Follows {A = A} b n m (refuse why begins) (refuse why begins)
unfolding refuse
follow_refuse why begins = record {
  answers = λ us short. record {
    before = [];
    parts = refl;
    same = λ other alike fits claimed. ap (λ w. Err (record { why = w; rest = other })) (refused_alike why begins us other alike);
  };
}

-- ---- one after the other

extended : {A B : Type 0} {b : Greater} {m : ℕ} {q : Reader A} (j : A → Reader B) {us : List Token} {x : A} {mid : List Token}
    (o : Result (B × List Token) Halt)
    → Answers b m q us (Ok (x, mid))
    → ((before : List Token) → us ≡ before ++ mid → Answers b m (j x) mid o)
    → Answers b m (q >>= j) us o
unfolding ◌>>=◌
extended {b = b} {m = m} {q = q} j {us = us} {x = x} {mid = mid} o first next =
    let second = next first.before first.parts in
    record {
      before = first.before ++ second.before;
      parts = first.parts ∙ ap (λ ts. first.before ++ ts) second.parts ∙ sym (append_assoc first.before second.before (rest_of o));
      same = λ other alike fits claimed.
          let whole : first.before ++ second.before ++ other ≡ first.before ++ (second.before ++ other) = append_assoc first.before second.before other in
          let near : Alike mid (second.before ++ other) =
          subst (λ ts. Alike ts (second.before ++ other)) (sym second.parts) (alike_behind second.before (rest_of o) other alike) in
          let fits' : length (first.before ++ (second.before ++ other)) ≤ m = subst (λ ts. length ts ≤ m) whole fits in
          let less : length (second.before ++ other) ≤ m = let h = length-append first.before (second.before ++ other) in omega (arith, h, fits') in
          ap (λ ts. then_read (q ts) j) whole
          ∙ ap (λ p. then_read p j) (first.same (second.before ++ other) near fits' tt)
          ∙ second.same other alike less claimed;
    }

halted_first : {A B : Type 0} {b : Greater} {m : ℕ} {q : Reader A} (j : A → Reader B) {us : List Token} {halt : Halt}
    → Answers b m q us (Err halt)
    → Answers b m (q >>= j) us (Err halt)
unfolding ◌>>=◌
halted_first j first = record {
  before = first.before;
  parts = first.parts;
  same = λ other alike fits claimed. ap (λ p. then_read p j) (first.same other alike fits claimed);
}

pub follow_then : {A B : Type 0} {b : Greater} {n m : ℕ} {r q : Reader A} {k j : A → Reader B}
    → Follows b n m r q
    → ((x : A) → Follows b n m (k x) (j x))
    → Follows b n m (r >>= k) (q >>= j)
unfolding ◌>>=◌
follow_then {A = A} {B = B} {b = b} {n = n} {m = m} {r = r} {q = q} {k = k} {j = j} first next = record {
  answers = λ us short. by_first us (r us) short (first.answers us short);
}
  where
    by_first : (us : List Token) (o : Result (A × List Token) Halt) → length us ≤ n → Answers b m q us o → Answers b m (q >>= j) us (then_read o k)
    by_first us (Ok read) short got =
        extended j (k read.0 read.1) got
        (λ before e. (next read.0).answers read.1 (let h = no_longer us before read.1 e in omega (arith, h, short)))
    by_first us (Err halt) short got = halted_first j got

-- ---- by the first token

abbrev pub Both : {A : Type 0} → Greater → ℕ → ℕ → Span → Option (Span → Reader A) → Option (Span → Reader A) → Type 0
Both b n m s None None = Unit {0}
Both b n m s (Some next) (Some other) = Follows b n m (next s) (other s)
Both b n m s _ _ = ⊥

behind : {A : Type 0} {b : Greater} {m : ℕ} {q p : Reader A} {t : Token} {ts : List Token} {o : Result (A × List Token) Halt}
    → ((us : List Token) → p (t ∷ us) ≡ q us)
    → Answers b m q ts o
    → Answers b (suc m) p (t ∷ ts) o
behind {m = m} {t = t} same got = record {
  before = t ∷ got.before;
  parts = ap (λ us. t ∷ us) got.parts;
  same = λ other alike fits claimed. same (got.before ++ other) ∙ got.same other alike (grind (arith, fits)) claimed;
}

otherwise_alike : {A : Type 0} (choose : Kind → Option (Span → Reader A)) (otherwise : Reader A) (t : Token) (us : List Token)
    → choose t.kind ≡ None
    → Alike (t ∷ []) us
    → either choose otherwise us ≡ otherwise us
unfolding either
otherwise_alike choose otherwise t [] none h = absurd h
otherwise_alike choose otherwise t (u ∷ us) none h = ap (λ p. chosen p otherwise u us) (ap (λ x. choose x.kind) (sym h) ∙ none)

one_alike : (t : Token) (ts before rest other : List Token) → t ∷ ts ≡ before ++ rest → Alike rest other → Alike (t ∷ []) (before ++ other)
one_alike t ts before rest other e h = first (before ++ other) (subst (λ us. Alike us (before ++ other)) (sym e) (alike_behind before rest other h))
  where
    first : (us : List Token) → Alike (t ∷ ts) us → Alike (t ∷ []) us
    first [] h = h
    first (u ∷ us) h = h

-- the cases read so many tokens, and all of it one more, or as many
either_to : {A : Type 0} {b : Greater} {n m i j : ℕ} {other next : Reader A} (choose choice : Kind → Option (Span → Reader A))
    → i ≤ suc n
    → j ≤ suc m
    → ((k : Kind) (s : Span) → Both b n m s (choose k) (choice k))
    → Follows b i j next other
    → Follows b i j (either choose next) (either choice other)
unfolding either
either_to {A = A} {b = b} {n = n} {m = m} {i = i} {j = j} {other = other} {next = next} choose choice small few cases rest = record { answers = by_first }
  where
    less : {p : Reader A} {us : List Token} {o : Result (A × List Token) Halt} → Answers b (suc m) p us o → Answers b j p us o
    less got = record { before = got.before; parts = got.parts; same = λ ts alike fits claimed. got.same ts alike (omega (arith, fits, few)) claimed }

    by_case : (t : Token) (ts : List Token) (p q : Option (Span → Reader A))
        → choice t.kind ≡ q
        → length (t ∷ ts) ≤ i
        → Both b n m (span_of t) p q
        → Answers b j (either choice other) (t ∷ ts) (chosen p next t ts)
    by_case t ts None None e short both =
        let got = rest.answers (t ∷ ts) short in
        record {
          before = got.before;
          parts = got.parts;
          same = λ us alike fits claimed.
              otherwise_alike choice other t (got.before ++ us) e (one_alike t ts got.before (rest_of (next (t ∷ ts))) us got.parts alike)
              ∙ got.same us alike fits claimed;
        }
    by_case t ts (Some f) (Some g) e short both = less (behind (λ us. ap (λ p. chosen p other t us) e) (both.answers ts (grind (arith, short, small))))
    by_case t ts None (Some g) e short both = absurd both
    by_case t ts (Some f) None e short both = absurd both

    by_first : (us : List Token) → length us ≤ i → Answers b j (either choice other) us (either choose next us)
    by_first [] short =
        let got = rest.answers [] short in
        record {
          before = got.before;
          parts = got.parts;
          same = λ us alike fits claimed.
              let none : got.before ++ us ≡ [] =
              nothing_alike (got.before ++ us)
              (subst (λ ts. Alike ts (got.before ++ us)) (sym got.parts) (alike_behind got.before (rest_of (next [])) us alike)) in
              ap (either choice other) none ∙ ap other (sym none) ∙ got.same us alike fits claimed;
        }
    by_first (t ∷ ts) short = by_case t ts (choose t.kind) (choice t.kind) refl short (cases t.kind (span_of t))

pub follow_either : {A : Type 0} {b : Greater} {n m : ℕ} {other next : Reader A} (choose choice : Kind → Option (Span → Reader A))
    → ((k : Kind) (s : Span) → Both b n m s (choose k) (choice k))
    → Follows b n m next other
    → Follows b n m (either choose next) (either choice other)
follow_either choose choice cases rest = either_to choose choice (omega arith) (omega arith) cases rest

-- where what follows is read with one token less
pub follow_either_less : {A : Type 0} {b : Greater} {n m : ℕ} {other next : Reader A} (choose choice : Kind → Option (Span → Reader A))
    → ((k : Kind) (s : Span) → Both b n m s (choose k) (choice k))
    → Follows b (suc n) (suc m) next other
    → Follows b (suc n) (suc m) (either choose next) (either choice other)
follow_either_less choose choice cases rest = either_to choose choice (omega arith) (omega arith) cases rest

-- a token that is chosen, then what follows, where this is read with one token less
pub follow_eaten : {A B : Type 0} {b : Greater} {n m : ℕ} {k j : A → Reader B} (choose choice : Kind → Option (Span → Reader A))
    → ((l : Kind) (s : Span) → Both b n m s (choose l) (choice l))
    → ((x : A) → Follows b n m (k x) (j x))
    → Follows b (suc n) (suc m) (either choose stop >>= k) (either choice stop >>= j)
unfolding either ◌>>=◌ stop
follow_eaten {A = A} {B = B} {b = b} {n = n} {m = m} {k = k} {j = j} choose choice cases next = record { answers = by_first }
  where
    by_case : (t : Token) (ts : List Token) (p q : Option (Span → Reader A))
        → choice t.kind ≡ q
        → length (t ∷ ts) ≤ suc n
        → Both b n m (span_of t) p q
        → Answers b (suc m) (either choice stop >>= j) (t ∷ ts) (then_read (chosen p stop t ts) k)
    by_case t ts None None e short both = record {
      before = [];
      parts = refl;
      same = λ us alike fits claimed. ap (λ p. then_read p j) (otherwise_alike choice stop t us e (one_alike t ts [] (t ∷ ts) us refl alike));
    }
    by_case t ts (Some f) (Some g) e short both =
        behind (λ us. ap (λ p. then_read (chosen p stop t us) j) e) ((follow_then both next).answers ts (grind (arith, short)))
    by_case t ts None (Some g) e short both = absurd both
    by_case t ts (Some f) None e short both = absurd both

    by_first : (us : List Token) → length us ≤ suc n → Answers b (suc m) (either choice stop >>= j) us ((either choose stop >>= k) us)
    by_first [] short = record {
      before = [];
      parts = refl;
      same = λ us alike fits claimed.
          ap (either choice stop >>= j) (nothing_alike us alike)
          ∙ ap (λ ts. Err (record { why = expected; rest = ts })) (sym (nothing_alike us alike));
    }
    by_first (t ∷ ts) short = by_case t ts (choose t.kind) (choice t.kind) refl short (cases t.kind (span_of t))

both_that : {A : Type 0} {b : Greater} {n m : ℕ} {next other : Reader A} (kind : Kind)
    → Follows b n m next other
    → (k : Kind) (s : Span)
    → Both b n m s (that kind next k) (that kind other k)
both_that {b = b} {n = n} {m = m} {next = next} {other = other} kind then k s = by_same (same_kind k kind)
  where
    by_same : (c : Bool) → Both b n m s (cond c (Some (λ _. next)) None) (cond c (Some (λ _. other)) None)
    by_same true = then
    by_same false = tt

-- a token of this kind, or otherwise
pub follow_that : {A : Type 0} {b : Greater} {n m : ℕ} {next other rest otherwise : Reader A} (kind : Kind)
    → Follows b n m next other
    → Follows b n m rest otherwise
    → Follows b n m (either (that kind next) rest) (either (that kind other) otherwise)
follow_that kind then else' = follow_either _ _ (both_that kind then) else'

pub follow_that_less : {A : Type 0} {b : Greater} {n m : ℕ} {next other rest otherwise : Reader A} (kind : Kind)
    → Follows b n m next other
    → Follows b (suc n) (suc m) rest otherwise
    → Follows b (suc n) (suc m) (either (that kind next) rest) (either (that kind other) otherwise)
follow_that_less kind then else' = follow_either_less _ _ (both_that kind then) else'

pub follow_token : {b : Greater} {n m : ℕ} (kind : Kind) → Follows b n m (token kind) (token kind)
unfolding token
follow_token kind = follow_that kind (follow_give tt) follow_stop

-- a token that is wanted, and what follows
pub follow_skip : {B : Type 0} {b : Greater} {n m : ℕ} {k j : Unit {0} → Reader B} (kind : Kind)
    → ((x : Unit {0}) → Follows b n m (k x) (j x))
    → Follows b n m (token kind >>= k) (token kind >>= j)
follow_skip kind next = follow_then (follow_token kind) next

pub follow_first : {A : Type 0} {b : Greater} {n m : ℕ} {one other uno otro : Reader A} (test : Kind → Bool)
    → Follows b n m one uno
    → Follows b n m other otro
    → Follows b n m (if_first test one other) (if_first test uno otro)
unfolding if_first
follow_first {A = A} {b = b} {n = n} {m = m} {one = one} {other = other} {uno = uno} {otro = otro} test yes' no' =
    record { answers = λ us short. by_test us (first_is test us) refl short }
  where
    by_test : (us : List Token) (c : Bool) → first_is test us ≡ c → length us ≤ n → Answers b m (if_first test uno otro) us (cond c (one us) (other us))
    by_test us true e short =
        let got = yes'.answers us short in
        record {
          before = got.before;
          parts = got.parts;
          same = λ ts alike fits claimed.
              let near : Alike us (got.before ++ ts) =
              subst (λ vs. Alike vs (got.before ++ ts)) (sym got.parts) (alike_behind got.before (rest_of (one us)) ts alike) in
              ap (λ c. cond c (uno (got.before ++ ts)) (otro (got.before ++ ts))) (sym (alike_first test us (got.before ++ ts) near) ∙ e)
              ∙ got.same ts alike fits claimed;
        }
    by_test us false e short =
        let got = no'.answers us short in
        record {
          before = got.before;
          parts = got.parts;
          same = λ ts alike fits claimed.
              let near : Alike us (got.before ++ ts) =
              subst (λ vs. Alike vs (got.before ++ ts)) (sym got.parts) (alike_behind got.before (rest_of (other us)) ts alike) in
              ap (λ c. cond c (uno (got.before ++ ts)) (otro (got.before ++ ts))) (sym (alike_first test us (got.before ++ ts) near) ∙ e)
              ∙ got.same ts alike fits claimed;
        }

-- ---- readers that go on as often as there are tokens

short_is_nothing : (us : List Token) → length us ≤ 0 → us ≡ []
short_is_nothing [] h = refl
short_is_nothing (t ∷ us) h = absurd (let no : ⊥ = omega (arith, h) in no)

-- at no tokens both answer alike, and one turn more follows one turn more
module _ {A I : Type 0} {b : Greater} (r q : I → ℕ → Reader A) (o : Result (A × List Token) Halt) (none : rest_of o ≡ [])
    (whole : with_rest o [] ≡ o) (at_end : (i : I) (n : ℕ) → r i n [] ≡ o) (at_end' : (i : I) (n : ℕ) → q i n [] ≡ o)
    (turn : (n m : ℕ) → ((i : I) → Follows b n m (r i n) (q i m)) → (i : I) → Follows b (suc n) (suc m) (r i (suc n)) (q i (suc m))) where
  no_turn : (m : ℕ) (i : I) (us : List Token) → us ≡ [] → Answers b m (q i m) us (r i 0 us)
  no_turn m i us empty = record {
    before = [];
    parts = empty ∙ sym none ∙ ap rest_of (sym (at_end i 0) ∙ ap (r i 0) (sym empty));
    same = λ other alike fits claimed.
        let is : r i 0 us ≡ o = ap (r i 0) empty ∙ at_end i 0 in
        let no_more : other ≡ [] = nothing_alike other (subst (λ ts. Alike ts other) (ap rest_of is ∙ none) alike) in
        ap (q i m) no_more ∙ at_end' i m ∙ sym whole ∙ sym (λ l. with_rest (is l) (no_more l));
  }

  each : (n m : ℕ) (i : I) → Follows b n m (r i n) (q i m)
  each zero m i = record { answers = λ us short. no_turn m i us (short_is_nothing us short) }
  each (suc n) zero i = record {
    answers = λ us short.
        let got = (turn n 0 (λ l. each n 0 l) i).answers us short in
        record {
          before = got.before;
          parts = got.parts;
          same = λ other alike fits claimed.
              let empty = short_is_nothing (got.before ++ other) fits in
              ap (q i 0) empty ∙ at_end' i 0 ∙ sym (at_end' i 1) ∙ ap (q i 1) (sym empty) ∙ got.same other alike (omega (arith, fits)) claimed;
        };
  }
  each (suc n) (suc m) i = turn n m (λ l. each n m l) i

  pub follow_measured : {n m : ℕ} (i : I) → Follows b n m (measured (r i)) (measured (q i))
  unfolding measured
  follow_measured i = record {
    answers = λ us short.
        let first = (each (length us) 0 i).answers us (omega arith) in
        record {
          before = first.before;
          parts = first.parts;
          same = λ other alike fits claimed.
              let much = length (first.before ++ other) in
              let got = (each (length us) much i).answers us (omega arith) in
              let same_before : got.before ≡ first.before =
              append_cancel_right got.before first.before (rest_of (r i (length us) us)) (sym got.parts ∙ first.parts) in
              subst (λ ts. q i much (ts ++ other) ≡ with_rest (r i (length us) us) other) same_before
              (got.same other alike (subst (λ ts. length (ts ++ other) ≤ much) (sym same_before) (omega arith)) claimed);
        };
  }
