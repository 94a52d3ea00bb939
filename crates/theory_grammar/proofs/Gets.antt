-- A reader gets a tree from whatever is spelled as the tree's marks. How this goes from the parts of
-- a phrase to the phrase.
use Rattle.std.proofs.Common.{append_assoc, append-nil, ◌≡◌, ℕ, suc, ◌<◌, ◌≤◌, List, [], ◌∷◌, ◌++◌, length, refl, sym, ◌∙◌, ap, subst, arith}
use Rattle.std.specs.Prelude.{Bool, true, false, ◌||◌, Option, Some, None, Ok, cond}
use Rattle.htt_lexer_tokens.specs.declared.tokens.Kind.{Kind}
use Rattle.htt_lexer_tokens.specs.declared.tokens.Token.{Token}
use Rattle.htt_parser_trees.specs.declared.place.Span.{Span}
use Rattle.theory_grammar.specs.Marks.{Mark, Limits, Given, span_of, ◌⨟◌, numbered}
use Rattle.theory_grammar.specs.Readers.{Reader, give, then_read, ◌>>=◌, chosen, either, first_is, if_first, measured, same_kind, that, token}
use Rattle.theory_grammar.specs.Beginnings.{never}
use Rattle.theory_grammar.proofs.Spells.{Spells, Stops, Opens, Begins, split, no_longer, spelled_length, Leads, first_token, level_within, leads_length}
use Rattle.theory_grammar.proofs.Spells.{renumbered}

-- the tree is read, and all that follows is left, if this doesn't go on with it
pub record Gets {A : Type 0} (lim : Limits) (goes_on : Kind → Bool) (n : ℕ) (reader : Reader A) (ms : List Mark) (x : A) : Type 0 where
  pub reads : (ts rest : List Token) → length ts ≤ n → Spells lim ms ts rest → Stops goes_on rest → reader ts ≡ Ok (x, rest)

pub never_stops : (ts : List Token) → Stops never ts
never_stops [] = tt
never_stops (t ∷ ts) = refl

pub stops_less : (c e : Kind → Bool) (ts : List Token) → ((k : Kind) → c k ≡ false → e k ≡ false) → Stops c ts → Stops e ts
stops_less c e [] less h = tt
stops_less c e (t ∷ ts) less h = less t.kind h

pub or_left : (a b : Bool) → (a || b) ≡ false → a ≡ false
or_left true b h = h
or_left false b h = refl

pub or_right : (a b : Bool) → (a || b) ≡ false → b ≡ false
or_right true b h = absurd (let no : true ≡ false = h in cc)
or_right false b h = h

-- ---- giving, and one after the other

pub giving : {A : Type 0} {lim : Limits} {c : Kind → Bool} {n : ℕ} {x : A} → Gets lim c n (give x) [] x
unfolding give
giving {x = x} = record { reads = λ ts rest _ s _. ap (λ us. Ok (x, us)) s }

pub then : {A B : Type 0} {lim : Limits} {c e : Kind → Bool} {n : ℕ} {r : Reader A} {ms ns : List Mark} {x : A} {y : B} (k : A → Reader B)
    → Gets lim c n r ms x
    → ((mid rest : List Token) → Spells lim ns mid rest → Stops e rest → Stops c mid)
    → Gets lim e n (k x) ns y
    → Gets lim e n (r >>= k) (ms ⨟ ns) y
unfolding ◌>>=◌
then {lim = lim} {n = n} {ms = ms} {ns = ns} {x = x} k first before second = record {
  reads = λ ts rest short s stops.
      let parts = split lim ms ns ts rest s in
      let mid = parts.0 in
      let still : length mid ≤ n = let h = no_longer lim ms ts mid parts.1 in omega (arith, h, short) in
      ap (λ o. then_read o k) (first.reads ts mid short parts.1 (before mid rest parts.2 stops)) ∙ second.reads mid rest still parts.2 stops;
}

-- where what follows is read with one token less
pub then_less : {A B : Type 0} {lim : Limits} {c e : Kind → Bool} {n : ℕ} {r : Reader A} {ms ns : List Mark} {x : A} {y : B}
    (k : A → Reader B)
    → 1 ≤ length ms
    → Gets lim c (suc n) r ms x
    → ((mid rest : List Token) → Spells lim ns mid rest → Stops e rest → Stops c mid)
    → Gets lim e n (k x) ns y
    → Gets lim e (suc n) (r >>= k) (ms ⨟ ns) y
unfolding ◌>>=◌
then_less {lim = lim} {n = n} {ms = ms} {ns = ns} {x = x} k some first before second = record {
  reads = λ ts rest short s stops.
      let parts = split lim ms ns ts rest s in
      let mid = parts.0 in
      let still : length mid ≤ n = let h = spelled_length lim ms ts mid parts.1 in omega (arith, h, short, some) in
      ap (λ o. then_read o k) (first.reads ts mid short parts.1 (before mid rest parts.2 stops)) ∙ second.reads mid rest still parts.2 stops;
}

-- what always ends, and what follows
pub then_any : {A B : Type 0} {lim : Limits} {e : Kind → Bool} {n : ℕ} {r : Reader A} {ms ns : List Mark} {x : A} {y : B} (k : A → Reader B)
    → Gets lim never n r ms x
    → Gets lim e n (k x) ns y
    → Gets lim e n (r >>= k) (ms ⨟ ns) y
then_any k first second = then k first (λ mid rest s stops. never_stops mid) second

-- what ends before the token of this mark
pub until : {A B : Type 0} {lim : Limits} {c e : Kind → Bool} {n : ℕ} {r : Reader A} {ms : List Mark} {x : A} {y : B} (k : A → Reader B)
    (ns : List Mark) (m : Mark)
    → c m.kind ≡ false
    → Gets lim c n r ms x
    → Gets lim e n (k x) ((m ∷ []) ⨟ ns) y
    → Gets lim e n (r >>= k) (ms ⨟ ((m ∷ []) ⨟ ns)) y
unfolding ◌⨟◌
until {c = c} k ns m ends first second = then k first (λ mid rest s stops. subst (Stops c) (sym s.2) (ap c s.3.kind ∙ ends)) second

pub until_last : {A B : Type 0} {lim : Limits} {c e : Kind → Bool} {n : ℕ} {r : Reader A} {ms : List Mark} {m : Mark} {x : A} {y : B}
    (k : A → Reader B)
    → c m.kind ≡ false
    → Gets lim c n r ms x
    → Gets lim e n (k x) (m ∷ []) y
    → Gets lim e n (r >>= k) (ms ⨟ (m ∷ [])) y
until_last {c = c} {m = m} k ends first second = then k first (λ mid rest s stops. subst (Stops c) (sym s.2) (ap c s.3.kind ∙ ends)) second

-- what reads nothing more
pub then_nothing : {A B : Type 0} {lim : Limits} {c e : Kind → Bool} {n : ℕ} {r : Reader A} {ms : List Mark} {x : A} {y : B}
    (k : A → Reader B)
    → ((k : Kind) → e k ≡ false → c k ≡ false)
    → Gets lim c n r ms x
    → Gets lim e n (k x) [] y
    → Gets lim e n (r >>= k) ms y
unfolding ◌>>=◌
then_nothing {lim = lim} {c = c} {e = e} {n = n} {ms = ms} {x = x} k less first second = record {
  reads = λ ts rest short s stops.
      let still : length rest ≤ n = let h = no_longer lim ms ts rest s in omega (arith, h, short) in
      ap (λ o. then_read o k) (first.reads ts rest short s (stops_less e c rest less stops)) ∙ second.reads rest rest still refl stops;
}

pub last : {A B : Type 0} {lim : Limits} {c : Kind → Bool} {n : ℕ} {r : Reader A} {ms : List Mark} {x : A} (make : A → B)
    → Gets lim c n r ms x
    → Gets lim c n (r >>= (λ z. give (make z))) ms (make x)
last make first = then_nothing _ (λ k h. h) first giving

pub less_going : {A : Type 0} {lim : Limits} {c e : Kind → Bool} {n : ℕ} {r : Reader A} {ms : List Mark} {x : A}
    → ((k : Kind) → e k ≡ false → c k ≡ false)
    → Gets lim c n r ms x
    → Gets lim e n r ms x
less_going {c = c} {e = e} less gets = record { reads = λ ts rest short s stops. gets.reads ts rest short s (stops_less e c rest less stops) }

-- ---- by the first token

-- a token that is chosen, wherever it stands
pub taken : {A : Type 0} {lim : Limits} {c : Kind → Bool} {n : ℕ} {next : Span → Reader A} {ns : List Mark} {x : A}
    (choose : Kind → Option (Span → Reader A)) (otherwise : Reader A) (m : Mark)
    → choose m.kind ≡ Some next
    → ((s : Span) → Given m.at s.from → Given m.span s → Gets lim c n (next s) ns x)
    → Gets lim c n (either choose otherwise) ((m ∷ []) ⨟ ns) x
unfolding either ◌⨟◌
taken {lim = lim} {n = n} {next = next} {ns = ns} choose otherwise m is gets = record {
  reads = λ ts rest short s stops.
      let longer = ap length s.2 in
      let still : length s.1 ≤ n = grind (arith, short, longer) in
      ap (either choose otherwise) s.2 ∙ ap (λ o. chosen o otherwise s.0 s.1) (ap choose s.3.kind ∙ is)
      ∙ (gets (span_of s.0) s.3.at s.3.span).reads s.1 rest still s.5 stops;
}

-- the same, where what follows is read with one token less
pub taken_less : {A : Type 0} {lim : Limits} {c : Kind → Bool} {n : ℕ} {next : Span → Reader A} {ns : List Mark} {x : A}
    (choose : Kind → Option (Span → Reader A)) (otherwise : Reader A) (m : Mark)
    → choose m.kind ≡ Some next
    → ((s : Span) → Given m.at s.from → Given m.span s → Gets lim c n (next s) ns x)
    → Gets lim c (suc n) (either choose otherwise) ((m ∷ []) ⨟ ns) x
unfolding either ◌⨟◌
taken_less {lim = lim} {n = n} {next = next} {ns = ns} choose otherwise m is gets = record {
  reads = λ ts rest short s stops.
      let longer = ap length s.2 in
      let still : length s.1 ≤ n = grind (arith, short, longer) in
      ap (either choose otherwise) s.2 ∙ ap (λ o. chosen o otherwise s.0 s.1) (ap choose s.3.kind ∙ is)
      ∙ (gets (span_of s.0) s.3.at s.3.span).reads s.1 rest still s.5 stops;
}

-- a token whose first byte the tree has
pub taken_at : {A : Type 0} {lim : Limits} {c : Kind → Bool} {n : ℕ} {next : Span → Reader A} (y : ℕ → A)
    (choose : Kind → Option (Span → Reader A)) (otherwise : Reader A) (kind : Kind) (at l : ℕ) (ns : List Mark)
    → choose kind ≡ Some next
    → ((s : Span) → Gets lim c n (next s) ns (y s.from))
    → Gets lim c n (either choose otherwise) ((record { kind = kind; at = Some at; span = None; level = l; operand = 1 } ∷ []) ⨟ ns) (y at)
taken_at {lim = lim} {c = c} {n = n} {next = next} y choose otherwise kind at l ns is gets =
    taken _ _ _ is (λ s e _. subst (λ a. Gets lim c n (next s) ns (y a)) e (gets s))

-- one token
pub taken_alone : {A : Type 0} {lim : Limits} {c : Kind → Bool} {n : ℕ} {make : Span → A} {m : Mark} {x : A}
    (choose : Kind → Option (Span → Reader A)) (otherwise : Reader A)
    → choose m.kind ≡ Some (λ s. give (make s))
    → ((s : Span) → Given m.at s.from → Given m.span s → make s ≡ x)
    → Gets lim c n (either choose otherwise) (m ∷ []) x
unfolding either give
taken_alone {lim = lim} {n = n} {make = make} {m = m} choose otherwise is same = record {
  reads = λ ts rest short s stops.
      ap (either choose otherwise) s.2 ∙ ap (λ o. chosen o otherwise s.0 s.1) (ap choose s.3.kind ∙ is)
      ∙ (λ i. Ok (same (span_of s.0) s.3.at s.3.span i, s.5 i));
}

not_chosen : {A : Type 0} (choose : Kind → Option (Span → Reader A)) (otherwise : Reader A) (begins : Kind → Bool) (ts : List Token)
    → first_is begins ts ≡ true
    → ((k : Kind) → begins k ≡ true → choose k ≡ None)
    → either choose otherwise ts ≡ otherwise ts
unfolding either
not_chosen choose otherwise begins [] h none = refl
not_chosen choose otherwise begins (t ∷ ts) h none = ap (λ o. chosen o otherwise t ts) (none t.kind h)

-- a phrase that begins otherwise
pub passed : {A : Type 0} {lim : Limits} {c : Kind → Bool} {n : ℕ} {choose : Kind → Option (Span → Reader A)} {otherwise : Reader A}
    {ms : List Mark} {x : A} (begins : Kind → Bool)
    → Leads begins ms
    → ((k : Kind) → begins k ≡ true → choose k ≡ None)
    → Gets lim c n otherwise ms x
    → Gets lim c n (either choose otherwise) ms x
passed {lim = lim} {choose = choose} {otherwise = otherwise} {ms = ms} begins leads none gets = record {
  reads = λ ts rest short s stops. not_chosen choose otherwise begins ts (first_token lim begins ms ts rest leads s) none ∙ gets.reads ts rest short s stops;
}

at_end : {A : Type 0} (c : Kind → Bool) (choose : Kind → Option (Span → Reader A)) (otherwise : Reader A) (ts : List Token)
    → Stops c ts
    → ((k : Kind) → c k ≡ false → choose k ≡ None)
    → either choose otherwise ts ≡ otherwise ts
unfolding either
at_end c choose otherwise [] h none = refl
at_end c choose otherwise (t ∷ ts) h none = ap (λ o. chosen o otherwise t ts) (none t.kind h)

-- a phrase of no tokens, or what ends there
pub ended : {A : Type 0} {lim : Limits} {c : Kind → Bool} {n : ℕ} {choose : Kind → Option (Span → Reader A)} {otherwise : Reader A} {x : A}
    → ((k : Kind) → c k ≡ false → choose k ≡ None)
    → Gets lim c n otherwise [] x
    → Gets lim c n (either choose otherwise) [] x
ended {c = c} {choose = choose} {otherwise = otherwise} none gets = record {
  reads = λ ts rest short s stops.
      ap (either choose otherwise) s ∙ at_end c choose otherwise rest stops none ∙ ap otherwise (sym s) ∙ gets.reads ts rest short s stops;
}

pub first_yes : {A : Type 0} {lim : Limits} {c : Kind → Bool} {n : ℕ} {one : Reader A} {ms : List Mark} {x : A} (other : Reader A)
    (begins : Kind → Bool)
    → Leads begins ms
    → Gets lim c n one ms x
    → Gets lim c n (if_first begins one other) ms x
unfolding if_first
first_yes {lim = lim} {one = one} {ms = ms} other begins leads gets = record {
  reads = λ ts rest short s stops. ap (λ b. cond b (one ts) (other ts)) (first_token lim begins ms ts rest leads s) ∙ gets.reads ts rest short s stops;
}

is_first : (begins test : Kind → Bool) (ts : List Token)
    → first_is begins ts ≡ true
    → ((k : Kind) → begins k ≡ true → test k ≡ false)
    → first_is test ts ≡ false
is_first begins test [] h not = refl
is_first begins test (t ∷ ts) h not = not t.kind h

pub first_no : {A : Type 0} {lim : Limits} {c : Kind → Bool} {n : ℕ} {test : Kind → Bool} {other : Reader A} {ms : List Mark} {x : A}
    (one : Reader A) (begins : Kind → Bool)
    → Leads begins ms
    → ((k : Kind) → begins k ≡ true → test k ≡ false)
    → Gets lim c n other ms x
    → Gets lim c n (if_first test one other) ms x
unfolding if_first
first_no {lim = lim} {test = test} {other = other} {ms = ms} one begins leads not gets = record {
  reads = λ ts rest short s stops.
      ap (λ b. cond b (one ts) (other ts)) (is_first begins test ts (first_token lim begins ms ts rest leads s) not)
      ∙ gets.reads ts rest short s stops;
}

is_end : (c test : Kind → Bool) (ts : List Token) → Stops c ts → ((k : Kind) → c k ≡ false → test k ≡ false) → first_is test ts ≡ false
is_end c test [] h not = refl
is_end c test (t ∷ ts) h not = not t.kind h

-- nothing more, where the first token is asked
pub first_ended : {A : Type 0} {lim : Limits} {c : Kind → Bool} {n : ℕ} {test : Kind → Bool} {x : A} (one : Reader A)
    → ((k : Kind) → c k ≡ false → test k ≡ false)
    → Gets lim c n (if_first test one (give x)) [] x
unfolding if_first give
first_ended {c = c} {test = test} {x = x} one not = record {
  reads = λ ts rest short s stops. ap (if_first test one (give x)) s ∙ ap (λ b. cond b (one rest) (Ok (x, rest))) (is_end c test rest stops not);
}

-- an empty list before a token that ends it
pub closed_now : {A B : Type 0} {lim : Limits} {c : Kind → Bool} {n : ℕ} {y : B} (test : Kind → Bool) (empty : A) (other : Reader A)
    (k : A → Reader B) (m : Mark)
    → test m.kind ≡ true
    → Gets lim c n (k empty) (m ∷ []) y
    → Gets lim c n (if_first test (give empty) other >>= k) ([] ⨟ (m ∷ [])) y
unfolding if_first give ◌>>=◌ ◌⨟◌
closed_now {lim = lim} test empty other k m is gets = record {
  reads = λ ts rest short s stops.
      ap (λ b. then_read (cond b (Ok (empty, ts)) (other ts)) k) (first_token lim test (m ∷ []) ts rest is s)
      ∙ gets.reads ts rest short s stops;
}

pub measuring : {A : Type 0} {lim : Limits} {c : Kind → Bool} {n : ℕ} {r : ℕ → Reader A} {ms : List Mark} {x : A}
    → ((k : ℕ) → Gets lim c k (r k) ms x)
    → Gets lim c n (measured r) ms x
unfolding measured
measuring gets = record { reads = λ ts rest short s stops. (gets (length ts)).reads ts rest (omega arith) s stops }

-- no token, and so no phrase
pub no_room : {A : Type 0} {lim : Limits} {c : Kind → Bool} {r : Reader A} {ms : List Mark} {x : A} (begins : Kind → Bool)
    → Leads begins ms
    → Gets lim c 0 r ms x
no_room {lim = lim} {ms = ms} begins leads = record {
  reads = λ ts rest short s stops.
      let some = leads_length begins ms leads in
      let whole = spelled_length lim ms ts rest s in
      absurd (let no : ⊥ = omega (arith, some, whole, short) in no);
}

-- the operand of a chain with this number
pub operand : {A : Type 0} {lim : Limits} {c : Kind → Bool} {n : ℕ} {r : Reader A} {ms : List Mark} {x : A} (begins : Kind → Bool) (k : ℕ)
    → 1 ≤ k
    → Begins begins ms
    → Gets lim c n r ms x
    → Gets lim c n r (numbered k ms) x
operand {lim = lim} {ms = ms} begins k one opens gets = record {
  reads = λ ts rest short s stops. gets.reads ts rest short (renumbered lim begins k ms ts rest one opens s).0 stops;
}

-- an operand past the last can't stand there
pub past_last : {A : Type 0} {lim : Limits} {c : Kind → Bool} {n : ℕ} {r : Reader A} {x : A} (ms : List Mark) (ns : List Mark)
    (begins : Kind → Bool) (k : ℕ)
    → lim.chain < k
    → Begins begins ms
    → Gets lim c n r (numbered k ms ⨟ ns) x
past_last {lim = lim} ms ns begins k past opens = record {
  reads = λ ts rest short s stops.
      let parts = split lim (numbered k ms) ns ts rest s in
      let within = (renumbered lim begins k ms ts parts.0 (omega (arith, past)) opens parts.1).1 in
      absurd (let no : ⊥ = omega (arith, within, past) in no);
}

-- a phrase past the last level can't stand there
pub too_deep_here : {A : Type 0} {lim : Limits} {c : Kind → Bool} {n : ℕ} {r : Reader A} {ms : List Mark} {x : A} (begins : Kind → Bool)
    (l : ℕ)
    → lim.nesting < l
    → Opens begins l ms
    → Gets lim c n r ms x
too_deep_here {lim = lim} {ms = ms} begins l past opens = record {
  reads = λ ts rest short s stops.
      let within = level_within lim begins l ms ts rest opens s in
      absurd (let no : ⊥ = omega (arith, within, past) in no);
}

-- ---- lists of marks

pub regroup : {A : Type 0} {lim : Limits} {c : Kind → Bool} {n : ℕ} {r : Reader A} {x : A} (a b ns : List Mark)
    → Gets lim c n r (a ⨟ (b ⨟ ns)) x
    → Gets lim c n r ((a ⨟ b) ⨟ ns) x
unfolding ◌⨟◌
regroup {lim = lim} {c = c} {n = n} {r = r} {x = x} a b ns gets = subst (λ ms. Gets lim c n r ms x) (sym (append_assoc a b ns)) gets

-- an empty part
pub nothing_first : {A : Type 0} {lim : Limits} {c : Kind → Bool} {n : ℕ} {r : Reader A} {x : A} (ns : List Mark)
    → Gets lim c n r ns x
    → Gets lim c n r ([] ⨟ ns) x
unfolding ◌⨟◌
nothing_first ns gets = gets

pub nothing_after : {A : Type 0} {lim : Limits} {c : Kind → Bool} {n : ℕ} {r : Reader A} {x : A} (ms : List Mark)
    → Gets lim c n r (ms ⨟ []) x
    → Gets lim c n r ms x
unfolding ◌⨟◌
nothing_after {lim = lim} {c = c} {n = n} {r = r} {x = x} ms gets = subst (λ ns. Gets lim c n r ns x) (append-nil ms) gets

-- a part with nothing after it
pub empty_gone : {A : Type 0} {lim : Limits} {c : Kind → Bool} {n : ℕ} {r : Reader A} {x : A} (a ns : List Mark)
    → Gets lim c n r (a ⨟ ns) x
    → Gets lim c n r ((a ⨟ []) ⨟ ns) x
unfolding ◌⨟◌
empty_gone {lim = lim} {c = c} {n = n} {r = r} {x = x} a ns gets = subst (λ ms. Gets lim c n r (ms ++ ns) x) (sym (append-nil a)) gets

pub regroup_in : {A : Type 0} {lim : Limits} {c : Kind → Bool} {n : ℕ} {r : Reader A} {x : A} (a b d ns : List Mark)
    → Gets lim c n r (a ⨟ (b ⨟ (d ⨟ ns))) x
    → Gets lim c n r (a ⨟ ((b ⨟ d) ⨟ ns)) x
unfolding ◌⨟◌
regroup_in {lim = lim} {c = c} {n = n} {r = r} {x = x} a b d ns gets = subst (λ ms. Gets lim c n r (a ++ ms) x) (sym (append_assoc b d ns)) gets

pub no_nothing : {A : Type 0} {lim : Limits} {c : Kind → Bool} {n : ℕ} {r : Reader A} {x : A} (ns : List Mark)
    → Gets lim c n r ([] ⨟ ns) x
    → Gets lim c n r ns x
unfolding ◌⨟◌
no_nothing ns gets = gets

-- ---- a token of a kind

pub that_is : {A : Type 0} (k kind : Kind) (next : Reader A) → same_kind k kind ≡ true → that kind next k ≡ Some (λ _. next)
that_is k kind next h = ap (λ b. cond b (Some (λ _. next)) None) h

pub that_not : {A : Type 0} (k kind : Kind) (next : Reader A) → same_kind k kind ≡ false → that kind next k ≡ None
that_not k kind next h = ap (λ b. cond b (Some (λ _. next)) None) h

-- a token that is wanted, and what follows
pub skip : {A : Type 0} {lim : Limits} {e : Kind → Bool} {n : ℕ} {ns : List Mark} {y : A} (kind : Kind) (k : Unit {0} → Reader A) (m : Mark)
    → same_kind m.kind kind ≡ true
    → Gets lim e n (k tt) ns y
    → Gets lim e n (token kind >>= k) ((m ∷ []) ⨟ ns) y
unfolding token
skip kind k m same gets = then_any _ (taken_alone _ _ (that_is m.kind kind (give tt) same) (λ s at span. refl)) gets

pub skip_last : {A : Type 0} {lim : Limits} {e : Kind → Bool} {n : ℕ} {m : Mark} {y : A} (kind : Kind)
    → same_kind m.kind kind ≡ true
    → Gets lim e n (token kind >>= (λ _. give y)) (m ∷ []) y
unfolding token
skip_last {m = m} {y = y} kind same =
    less_going (λ k h. refl) (last (λ _. y) (taken_alone {c = never} _ _ (that_is m.kind kind (give tt) same) (λ s at span. refl)))
