-- The values that the made function of a key is given in its own body are those of the captured variables.
use Rattle.std.proofs.Common.{◌≡◌, ◌<◌, ℕ, zero, suc, ◌+◌, List, [], ◌∷◌, ◌++◌, length, map, reverse, flat_map, All, ◌⊎◌, inl, inr, refl, sym, ap, ◌∙◌, subst, arith}
use Rattle.std.proofs.lemmas.List.{reverse-append, length-reverse}
use Rattle.std.proofs.lemmas.List.Elements.{All-head, All-tail}
use Rattle.htt_syntax.specs.Trees.{MonoTree, TermTree, m_word, m_bool, m_loc, m_unit, m_pair, m_var}
use Rattle.theory_renaming.specs.Renaming.{lifts, shifting, rename_term}
use Rattle.theory_values.specs.Values.{Value}
use Rattle.theory_canonical.specs.Skeletons.{Skeleton, sk_o}
use Rattle.theory_denotation.specs.Valuations.{Valuation, entry_at, mono_of_entry, value_of_entry, mono_in, HeadEntries}
use Rattle.theory_denotation.specs.Denotation.{term_den, terms_den, head_den}
use Rattle.theory_denotation_renaming.specs.Along.{AgreeAlong}
use Rattle.theory_instances.specs.Calls.{Argument, of_term, of_mono, terms_from, variables}
use Rattle.theory_instances.specs.Occurrences.{Occurrence, met_in_term, met_in_argument}
use Rattle.theory_instances.specs.Keys.{Key, variables_met}
use Rattle.theory_instances_passing.specs.Pinned.{GivenArgument, given_term, given_mono, given}
use Rattle.theory_instances_keys.specs.Laws.{value_entry, with_values, value_at}
use Rattle.theory_instances_keys.proofs.Agreeing.{EachMet, head_by_met, term_by_met}
use Rattle.theory_instances_captured.specs.Laws.{MeetsOnlyCaptured}

-- the innermost so many of the values, the outermost first
abbrev pub first_values : List Value → ℕ → List Value
first_values vs zero = []
first_values vs (suc n) = value_at vs n ∷ first_values vs n

pub value_there : (vs : List Value) (n : ℕ) → entry_at (with_values vs) n ≡ value_entry (value_at vs n)
value_there [] n = refl
value_there (v ∷ vs) zero = refl
value_there (v ∷ vs) (suc n) = value_there vs n

pub captured_are : (e : HeadEntries) (w : Valuation) (vs : List Value) (r : ℕ)
    → AgreeAlong (shifting zero r) (with_values vs) w
    → (n : ℕ)
    → terms_den e w (terms_from (map (rename_term (shifting zero r)) (variables n))) ≡ first_values vs n
unfolding term_den rename_term lifts
captured_are e w vs r a zero = refl
captured_are e w vs r a (suc n) = λ j. value_of_entry ((a.at n ∙ value_there vs n) j) ∷ captured_are e w vs r a n j

in_front : (front : List Value) (v : Value) (n : ℕ) → n < length front → entry_at (with_values (front ++ v ∷ [])) n ≡ entry_at (with_values front) n
in_front [] v n l = absurd (omega (arith, l))
in_front (u ∷ front) v zero l = refl
in_front (u ∷ front) v (suc n) l = in_front front v n (omega (arith, l))

at_end : (front : List Value) (v : Value) → entry_at (with_values (front ++ v ∷ [])) (length front) ≡ value_entry v
at_end [] v = refl
at_end (u ∷ front) v = at_end front v

first_count : (vs : List Value) (c : ℕ) → length (first_values vs c) ≡ c
first_count vs zero = refl
first_count vs (suc c) = ap suc (first_count vs c)

-- innermost first they are the first values
pub first_agree : (vs : List Value) (c n : ℕ) → n < c → entry_at (with_values (reverse (first_values vs c))) n ≡ entry_at (with_values vs) n
first_agree vs zero n l = absurd (omega (arith, l))
first_agree vs (suc c) n l =
    let front = reverse (first_values vs c) in
    let v = value_at vs c in
    let count : length front ≡ c = length-reverse (first_values vs c) ∙ first_count vs c in
    let split : reverse (first_values vs (suc c)) ≡ front ++ v ∷ [] = reverse-append (v ∷ []) (first_values vs c) in
    ap (λ (l : List Value). entry_at (with_values l) n) split
    ∙ elim (below_or_at c n l) [
      | inl m ↦ in_front front v n (omega (arith, m, count)) ∙ first_agree vs c n m
      | inr q ↦ ap (entry_at (with_values (front ++ v ∷ []))) (q ∙ sym count) ∙ at_end front v ∙ sym (value_there vs c) ∙ ap (entry_at (with_values vs)) (sym q)
    ]
  where
    below_or_at : (c n : ℕ) → n < suc c → (n < c) ⊎ (n ≡ c)
    below_or_at zero zero l = inr refl
    below_or_at zero (suc n) l = absurd (omega (arith, l))
    below_or_at (suc c) zero l = inl (omega arith)
    below_or_at (suc c) (suc n) l = elim (below_or_at c n (omega (arith, l))) [ inl m ↦ inl (omega (arith, m)) | inr q ↦ inr (ap suc q) ]

no_monos : (vs : List Value) (n : ℕ) → mono_of_entry (entry_at (with_values vs) n) ≡ m_unit
no_monos [] n = refl
no_monos (v ∷ vs) zero = refl
no_monos (v ∷ vs) (suc n) = no_monos vs n

same_monos : (vs us : List Value) (n : ℕ) → mono_of_entry (entry_at (with_values vs) n) ≡ mono_of_entry (entry_at (with_values us) n)
same_monos vs us n = no_monos vs n ∙ sym (no_monos us n)

mono_same : (vs us : List Value) (t : MonoTree) → mono_in (with_values vs) t ≡ mono_in (with_values us) t
mono_same vs us m_word = refl
mono_same vs us m_bool = refl
mono_same vs us m_loc = refl
mono_same vs us m_unit = refl
mono_same vs us (m_pair t u) = λ j. m_pair (mono_same vs us t j) (mono_same vs us u j)
mono_same vs us (m_var index) = same_monos vs us index

-- values that agree below a count give the same to what meets variables below it
module _ (e : HeadEntries) (c : ℕ) (vs us : List Value) (agree : (n : ℕ) → n < c → entry_at (with_values vs) n ≡ entry_at (with_values us) n) where
  met_below : (xs : List Occurrence) → All (λ (n : ℕ). n < c) (map (λ (o : Occurrence). o.variable) xs) → EachMet (with_values vs) (with_values us) xs
  met_below [] a = tt
  met_below (x ∷ xs) a =
      let P : ℕ → Type 0 = λ n. n < c in
      let rest = map (λ (o : Occurrence). o.variable) xs in
      (agree x.variable (All-head P x.variable rest a), met_below xs (All-tail P x.variable rest a))

  met_left : (xs ys : List Occurrence) → EachMet (with_values vs) (with_values us) (xs ++ ys) → EachMet (with_values vs) (with_values us) xs
  met_left [] ys a = tt
  met_left (x ∷ xs) ys a = (a.0, met_left xs ys (a.1))

  met_right : (xs ys : List Occurrence) → EachMet (with_values vs) (with_values us) (xs ++ ys) → EachMet (with_values vs) (with_values us) ys
  met_right [] ys a = a
  met_right (x ∷ xs) ys a = met_right xs ys (a.1)

  argument_same : (argument : Argument)
      → EachMet (with_values vs) (with_values us) (met_in_argument argument)
      → given e (with_values vs) argument ≡ given e (with_values us) argument
  argument_same (of_term term) m = λ j. given_term (λ s. term_by_met e term (with_values vs) (with_values us) (same_monos vs us) m s j)
  argument_same (of_mono mono) m = ap given_mono (mono_same vs us mono)

  arguments_same : (fixed : List Argument)
      → EachMet (with_values vs) (with_values us) (flat_map met_in_argument fixed)
      → map (given e (with_values vs)) fixed ≡ map (given e (with_values us)) fixed
  arguments_same [] m = refl
  arguments_same (x ∷ fixed) m =
      let here = argument_same x (met_left (met_in_argument x) (flat_map met_in_argument fixed) m) in
      let rest = arguments_same fixed (met_right (met_in_argument x) (flat_map met_in_argument fixed) m) in λ j. here j ∷ rest j

  pub key_head_same : (key : Key)
      → All (λ (n : ℕ). n < c) (variables_met key.head key.fixed)
      → head_den e (with_values vs) key.head ≡ head_den e (with_values us) key.head
  key_head_same key a =
      let all = met_below (met_in_term zero [] key.head ++ flat_map met_in_argument key.fixed) a in
      head_by_met e key.head (with_values vs) (with_values us) (same_monos vs us)
      (met_left (met_in_term zero [] key.head) (flat_map met_in_argument key.fixed) all)

  pub key_arguments_same : (key : Key)
      → All (λ (n : ℕ). n < c) (variables_met key.head key.fixed)
      → map (given e (with_values vs)) key.fixed ≡ map (given e (with_values us)) key.fixed
  key_arguments_same key a =
      let all = met_below (met_in_term zero [] key.head ++ flat_map met_in_argument key.fixed) a in
      arguments_same key.fixed (met_right (met_in_term zero [] key.head) (flat_map met_in_argument key.fixed) all)
