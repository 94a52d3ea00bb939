-- A key denotes what the call does whose key it is: the values that aren't captured are left out, which changes
-- nothing, and then the captured ones are renumbered.
use Rattle.std.proofs.Common.{◌≡◌, ℕ, zero, suc, ◌+◌, List, [], ◌∷◌, ◌++◌, map, flat_map, Bool, true, false, nat_eq, if◌then◌else◌, refl, sym, ap, ◌∙◌, subst}
use Rattle.std.proofs.Common.{arith}
use Rattle.htt_syntax.specs.Trees.{MonoTree, TermTree, m_word, m_bool, m_loc, m_unit, m_pair, m_var}
use Rattle.theory_renaming.specs.Renaming.{rename_mono, rename_term}
use Rattle.theory_values.specs.Values.{Value, v_unit}
use Rattle.theory_canonical.specs.Skeletons.{Skeleton, sk_o}
use Rattle.theory_denotation.specs.Valuations.{ValuationEntry, den_term, no_entry, Valuation, entry_at, mono_of_entry, mono_in, HeadEntries}
use Rattle.theory_denotation.specs.Denotation.{term_den, head_den}
use Rattle.theory_denotation_renaming.specs.Along.{AgreeAlong}
use Rattle.theory_denotation_renaming.proofs.Renamed.{mono_renamed, term_renamed, head_renamed}
use Rattle.theory_instances.specs.Calls.{Argument, of_term, of_mono, rename_argument}
use Rattle.theory_instances.specs.Occurrences.{Occurrence, met_in_term, met_in_argument}
use Rattle.theory_instances.specs.Keys.{is_among, met_after, variables_met, captured_of, number_in}
use Rattle.theory_instances_passing.specs.Pinned.{GivenArgument, given_term, given_mono, given}
use Rattle.theory_instances_keys.specs.Laws.{value_entry, with_values, value_at, captured_values, KeysDenote}
use Rattle.theory_instances_keys.proofs.Agreeing.{EachMet, head_by_met, term_by_met}

-- the entries at the captured variables alone, from an index on
abbrev entry_if : Bool → ValuationEntry → ValuationEntry
entry_if true x = x
entry_if false x = no_entry

abbrev kept_from : ℕ → List ℕ → Valuation → Valuation
kept_from i captured [] = []
kept_from i captured (x ∷ w) = entry_if (is_among i captured) x ∷ kept_from (suc i) captured w

no_entry_if : (b : Bool) → entry_if b no_entry ≡ no_entry
no_entry_if true = refl
no_entry_if false = refl

kept_at : (i : ℕ) (captured : List ℕ) (w : Valuation) (n : ℕ) → entry_at (kept_from i captured w) n ≡ entry_if (is_among (i + n) captured) (entry_at w n)
kept_at i captured [] n = sym (no_entry_if (is_among (i + n) captured))
kept_at i captured (x ∷ w) zero = let q : i ≡ i + 0 = omega arith in ap (λ k. entry_if (is_among k captured) x) q
kept_at i captured (x ∷ w) (suc n) =
    let q : suc i + n ≡ i + suc n = omega arith in kept_at (suc i) captured w n ∙ ap (λ k. entry_if (is_among k captured) (entry_at w n)) q

kept : (captured : List ℕ) (w : Valuation) (n : ℕ) → entry_at (kept_from zero captured w) n ≡ entry_if (is_among n captured) (entry_at w n)
kept captured w n = let q : 0 + n ≡ n = omega arith in kept_at zero captured w n ∙ ap (λ k. entry_if (is_among k captured) (entry_at w n)) q

value_there : (vs : List Value) (n : ℕ) → entry_at (with_values vs) n ≡ value_entry (value_at vs n)
value_there [] n = refl
value_there (v ∷ vs) zero = refl
value_there (v ∷ vs) (suc n) = value_there vs n

-- what the captured values are at their numbers
numbered : (vs : List Value) (captured : List ℕ) (n : ℕ)
    → entry_at (with_values (map (value_at vs) captured)) (number_in captured n) ≡ entry_if (is_among n captured) (value_entry (value_at vs n))
numbered vs [] n = refl
numbered vs (m ∷ captured) n = by (nat_eq n m) refl (numbered vs captured n)
  where
    by : (b : Bool) → nat_eq n m ≡ b
        → entry_at (with_values (map (value_at vs) captured)) (number_in captured n) ≡ entry_if (is_among n captured) (value_entry (value_at vs n))
        → entry_at (with_values (map (value_at vs) (m ∷ captured))) (if b then zero else suc (number_in captured n))
        ≡ entry_if (if b then true else is_among n captured) (value_entry (value_at vs n))
    by true q rest = let same : m ≡ n = grind (arith, q) in ap (λ k. value_entry (value_at vs k)) same
    by false q rest = rest

along : (vs : List Value) (captured : List ℕ)
    → AgreeAlong (number_in captured) (kept_from zero captured (with_values vs)) (with_values (map (value_at vs) captured))
along vs captured = record {
  at = λ n. numbered vs captured n ∙ ap (entry_if (is_among n captured)) (sym (value_there vs n)) ∙ sym (kept captured (with_values vs) n);
}

value_mono : (b : Bool) (v : Value) → mono_of_entry (value_entry v) ≡ mono_of_entry (entry_if b (value_entry v))
value_mono true v = refl
value_mono false v = refl

kept_monos : (vs : List Value) (captured : List ℕ) (n : ℕ)
    → mono_of_entry (entry_at (with_values vs) n) ≡ mono_of_entry (entry_at (kept_from zero captured (with_values vs)) n)
kept_monos vs captured n =
    ap mono_of_entry (value_there vs n) ∙ value_mono (is_among n captured) (value_at vs n)
    ∙ ap (λ x. mono_of_entry (entry_if (is_among n captured) x)) (sym (value_there vs n)) ∙ ap mono_of_entry (sym (kept captured (with_values vs) n))

mono_kept : (vs : List Value) (captured : List ℕ) (t : MonoTree) → mono_in (with_values vs) t ≡ mono_in (kept_from zero captured (with_values vs)) t
mono_kept vs captured m_word = refl
mono_kept vs captured m_bool = refl
mono_kept vs captured m_loc = refl
mono_kept vs captured m_unit = refl
mono_kept vs captured (m_pair t u) = λ j. m_pair (mono_kept vs captured t j) (mono_kept vs captured u j)
mono_kept vs captured (m_var index) = kept_monos vs captured index

-- what was met is among what was met
first_among : (n : ℕ) (others : List ℕ) → is_among n (n ∷ others) ≡ true
first_among n others = let q : nat_eq n n ≡ true = grind arith in ap (λ b. if b then true else is_among n others) q

more_among : (n m : ℕ) (others : List ℕ) → is_among n others ≡ true → is_among n (m ∷ others) ≡ true
more_among n m others q = by (nat_eq n m)
  where
    by : (b : Bool) → (if b then true else is_among n others) ≡ true
    by true = refl
    by false = q

stays_among : (n : ℕ) (known others : List ℕ) → is_among n known ≡ true → is_among n (met_after known others) ≡ true
stays_among n known [] q = q
stays_among n known (m ∷ others) q = by (is_among m known) (stays_among n known others q) (stays_among n (m ∷ known) others (more_among n m known q))
  where
    by : (b : Bool)
        → is_among n (met_after known others) ≡ true
        → is_among n (met_after (m ∷ known) others) ≡ true
        → is_among n (met_after (if b then known else m ∷ known) others) ≡ true
    by true x y = x
    by false x y = y

abbrev AllAmong : List ℕ → List ℕ → Type 0
AllAmong [] all = Unit {0}
AllAmong (n ∷ others) all = (is_among n all ≡ true) × AllAmong others all

all_among : (known others : List ℕ) → AllAmong others (met_after known others)
all_among known [] = tt
all_among known (n ∷ others) = (by (is_among n known) refl, all_among (if is_among n known then known else n ∷ known) others)
  where
    by : (b : Bool) → is_among n known ≡ b → is_among n (met_after (if b then known else n ∷ known) others) ≡ true
    by true q = stays_among n known others q
    by false q = stays_among n (n ∷ known) others (first_among n known)

abbrev variables_of : List Occurrence → List ℕ
variables_of xs = map (λ (o : Occurrence). o.variable) xs

agreed : (vs : List Value) (captured : List ℕ) (xs : List Occurrence)
    → AllAmong (variables_of xs) captured
    → EachMet (with_values vs) (kept_from zero captured (with_values vs)) xs
agreed vs captured [] a = tt
agreed vs captured (x ∷ xs) a =
    (sym (kept captured (with_values vs) x.variable ∙ ap (λ b. entry_if b (entry_at (with_values vs) x.variable)) (a.0)), agreed vs captured xs (a.1))

split_left : (xs ys : List Occurrence) (all : List ℕ) → AllAmong (variables_of (xs ++ ys)) all → AllAmong (variables_of xs) all
split_left [] ys all a = tt
split_left (x ∷ xs) ys all a = (a.0, split_left xs ys all (a.1))

split_right : (xs ys : List Occurrence) (all : List ℕ) → AllAmong (variables_of (xs ++ ys)) all → AllAmong (variables_of ys) all
split_right [] ys all a = a
split_right (x ∷ xs) ys all a = split_right xs ys all (a.1)

key_head : (e : HeadEntries) (vs : List Value) (head : TermTree) (fixed : List Argument)
    → head_den e (with_values vs) head
    ≡ head_den e (with_values (captured_values vs head fixed)) (rename_term (number_in (captured_of head fixed)) head)
key_head e vs head fixed =
    let captured = captured_of head fixed in
    head_by_met e head (with_values vs) (kept_from zero captured (with_values vs)) (kept_monos vs captured)
    (agreed vs captured (met_in_term zero [] head)
    (split_left (met_in_term zero [] head) (flat_map met_in_argument fixed) captured (all_among [] (variables_met head fixed))))
    ∙ sym (head_renamed e head (along vs captured))

key_argument : (e : HeadEntries) (vs : List Value) (captured : List ℕ) (argument : Argument)
    → AllAmong (variables_of (met_in_argument argument)) captured
    → given e (with_values vs) argument ≡ given e (with_values (map (value_at vs) captured)) (rename_argument (number_in captured) argument)
key_argument e vs captured (of_term term) a = λ j.
    given_term (λ s.
    (term_by_met e term (with_values vs) (kept_from zero captured (with_values vs)) (kept_monos vs captured)
    (agreed vs captured (met_in_term zero [] term) a) s
    ∙ sym (term_renamed e term (along vs captured) s)) j)
key_argument e vs captured (of_mono mono) a = ap given_mono (mono_kept vs captured mono ∙ sym (mono_renamed (along vs captured) mono))

key_arguments : (e : HeadEntries) (vs : List Value) (captured : List ℕ) (fixed : List Argument)
    → AllAmong (variables_of (flat_map met_in_argument fixed)) captured
    → map (given e (with_values vs)) fixed ≡ map (given e (with_values (map (value_at vs) captured))) (map (rename_argument (number_in captured)) fixed)
key_arguments e vs captured [] a = refl
key_arguments e vs captured (x ∷ fixed) a =
    let here = key_argument e vs captured x (split_left (met_in_argument x) (flat_map met_in_argument fixed) captured a) in
    let rest = key_arguments e vs captured fixed (split_right (met_in_argument x) (flat_map met_in_argument fixed) captured a) in
    λ j. here j ∷ rest j

pub keys : KeysDenote
keys = record {
  heads = key_head;
  arguments = λ e vs head fixed.
      key_arguments e vs (captured_of head fixed) fixed
      (split_right (met_in_term zero [] head) (flat_map met_in_argument fixed) (captured_of head fixed) (all_among [] (variables_met head fixed)));
}
