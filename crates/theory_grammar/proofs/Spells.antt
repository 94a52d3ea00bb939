-- Tokens that fit marks within limits, and what follows them.
use Rattle.std.proofs.Common.{◌≡◌, ℕ, ◌+◌, ◌≤◌, List, [], ◌∷◌, length, refl, ◌∙◌, ap, subst, arith}
use Rattle.std.specs.Prelude.{Bool, true, false}
use Rattle.htt_lexer_tokens.specs.declared.tokens.Kind.{Kind}
use Rattle.htt_lexer_tokens.specs.declared.tokens.Token.{Token}
use Rattle.theory_grammar.specs.Marks.{Mark, Limits, FitsMark, IsWithin, AllFit, AllWithin, ◌⨟◌, numbered}
use Rattle.theory_grammar.specs.Readers.{first_is}

abbrev pub Spells : Limits → List Mark → List Token → List Token → Type 0
Spells lim [] ts rest = ts ≡ rest
Spells lim (m ∷ ms) ts rest = (t : Token) × (us : List Token) × (ts ≡ t ∷ us) × FitsMark t m × IsWithin lim m × Spells lim ms us rest

-- the rest doesn't begin with a token of this kind
abbrev pub Stops : (Kind → Bool) → List Token → Type 0
Stops goes_on [] = Unit {0}
Stops goes_on (t ∷ ts) = goes_on t.kind ≡ false

-- the first mark has such a kind, this level, and begins no further operand
abbrev pub Opens : (Kind → Bool) → ℕ → List Mark → Type 0
Opens begins l [] = ⊥
Opens begins l (m ∷ ms) = (begins m.kind ≡ true) × (m.level ≡ l) × (m.operand ≡ 1)

-- the same, whatever the level
abbrev pub Begins : (Kind → Bool) → List Mark → Type 0
Begins begins [] = ⊥
Begins begins (m ∷ ms) = (begins m.kind ≡ true) × (m.operand ≡ 1)

-- the kind alone
abbrev pub Leads : (Kind → Bool) → List Mark → Type 0
Leads begins [] = ⊥
Leads begins (m ∷ ms) = begins m.kind ≡ true

pub leads_of : (begins : Kind → Bool) (l : ℕ) (a : List Mark) → Opens begins l a → Leads begins a
leads_of begins l [] h = absurd h
leads_of begins l (m ∷ a) h = h.0

pub leads_then : (begins : Kind → Bool) (a b : List Mark) → Leads begins a → Leads begins (a ⨟ b)
unfolding ◌⨟◌
leads_then begins [] b h = absurd h
leads_then begins (m ∷ a) b h = h

pub leads_numbered : (begins : Kind → Bool) (n : ℕ) (a : List Mark) → Leads begins a → Leads begins (numbered n a)
leads_numbered begins n [] h = absurd h
leads_numbered begins n (m ∷ a) h = h

pub leads_wider : (begins others : Kind → Bool) (a : List Mark) → ((k : Kind) → begins k ≡ true → others k ≡ true) → Leads begins a → Leads others a
leads_wider begins others [] wider h = absurd h
leads_wider begins others (m ∷ a) wider h = wider m.kind h

pub leads_length : (begins : Kind → Bool) (a : List Mark) → Leads begins a → 1 ≤ length a
leads_length begins [] h = absurd h
leads_length begins (m ∷ a) h = grind arith

pub begins_of : (begins : Kind → Bool) (l : ℕ) (a : List Mark) → Opens begins l a → Begins begins a
begins_of begins l [] h = absurd h
begins_of begins l (m ∷ a) h = (h.0, h.2)

pub split : (lim : Limits) (a b : List Mark) (ts rest : List Token)
    → Spells lim (a ⨟ b) ts rest
    → (mid : List Token) × Spells lim a ts mid × Spells lim b mid rest
unfolding ◌⨟◌
split lim [] b ts rest s = (ts, refl, s)
split lim (m ∷ a) b ts rest s =
    let r = split lim a b s.1 rest s.5 in
    (r.0, (s.0, s.1, s.2, s.3, s.4, r.1), r.2)

pub spelled_length : (lim : Limits) (ms : List Mark) (ts rest : List Token) → Spells lim ms ts rest → length ts ≡ length ms + length rest
spelled_length lim [] ts rest s = ap length s ∙ omega arith
spelled_length lim (m ∷ ms) ts rest s =
    let others = spelled_length lim ms s.1 rest s.5 in
    let whole = ap length s.2 in
    grind (arith, others, whole)

pub no_longer : (lim : Limits) (ms : List Mark) (ts rest : List Token) → Spells lim ms ts rest → length rest ≤ length ts
no_longer lim ms ts rest s = let h = spelled_length lim ms ts rest s in omega (arith, h)

pub opens_then : (begins : Kind → Bool) (l : ℕ) (a b : List Mark) → Opens begins l a → Opens begins l (a ⨟ b)
unfolding ◌⨟◌
opens_then begins l [] b h = absurd h
opens_then begins l (m ∷ a) b h = h

pub opens_wider : (begins others : Kind → Bool) (l : ℕ) (a : List Mark) → ((k : Kind) → begins k ≡ true → others k ≡ true) → Opens begins l a → Opens others l a
opens_wider begins others l [] wider h = absurd h
opens_wider begins others l (m ∷ a) wider h = (wider m.kind h.0, h.1, h.2)

pub first_token : (lim : Limits) (begins : Kind → Bool) (ms : List Mark) (ts rest : List Token)
    → Leads begins ms
    → Spells lim ms ts rest
    → first_is begins ts ≡ true
first_token lim begins [] ts rest h s = absurd h
first_token lim begins (m ∷ ms) ts rest h s = ap (first_is begins) s.2 ∙ ap begins s.3.kind ∙ h

pub level_within : (lim : Limits) (begins : Kind → Bool) (l : ℕ) (ms : List Mark) (ts rest : List Token)
    → Opens begins l ms
    → Spells lim ms ts rest
    → l ≤ lim.nesting
level_within lim begins l [] ts rest h s = absurd h
level_within lim begins l (m ∷ ms) ts rest h s = subst (λ n. n ≤ lim.nesting) h.1 s.4.level

pub renumbered : (lim : Limits) (begins : Kind → Bool) (n : ℕ) (ms : List Mark) (ts rest : List Token)
    → 1 ≤ n
    → Begins begins ms
    → Spells lim (numbered n ms) ts rest
    → Spells lim ms ts rest × (n ≤ lim.chain)
renumbered lim begins n [] ts rest one h s = absurd h
renumbered lim begins n (m ∷ ms) ts rest one h s =
    let here : n ≤ lim.chain = s.4.operand in
    let first = h.1 in
    let within : m.operand ≤ lim.chain = omega (arith, one, here, first) in
    ((s.0, s.1, s.2, record { kind = s.3.kind; at = s.3.at; span = s.3.span }, record { level = s.4.level; operand = within }, s.5), here)

-- ---- from the definition

pub spelled : (lim : Limits) (ts : List Token) (ms : List Mark) → AllFit ts ms → AllWithin lim ms → Spells lim ms ts []
spelled lim [] [] fit within = refl
spelled lim [] (m ∷ ms) fit within = absurd fit
spelled lim (t ∷ ts) [] fit within = absurd fit
spelled lim (t ∷ ts) (m ∷ ms) fit within = (t, ts, refl, fit.0, within.0, spelled lim ts ms fit.1 within.1)
