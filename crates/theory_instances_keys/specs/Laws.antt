-- What a tree denotes hangs on the variables that occur in it alone. So a key, with its captured variables'
-- values and no others, denotes what the call does whose key it is.
use Rattle.std.specs.Prelude.{◌≡◌, ℕ, zero, suc, List, [], ◌∷◌, map, All}
use Rattle.htt_syntax.specs.Trees.{TermTree}
use Rattle.theory_renaming.specs.Renaming.{rename_term}
use Rattle.theory_values.specs.Values.{Value, v_unit}
use Rattle.theory_canonical.specs.Skeletons.{Skeleton, sk_o}
use Rattle.theory_denotation.specs.Valuations.{ValuationEntry, den_term, Valuation, entry_at, mono_of_entry}
use Rattle.theory_denotation.specs.Valuations.{HeadEntries}
use Rattle.theory_denotation.specs.Denotation.{term_den, head_den}
use Rattle.theory_instances.specs.Calls.{Argument, rename_argument}
use Rattle.theory_instances.specs.Occurrences.{Occurrence, met_in_term}
use Rattle.theory_instances.specs.Keys.{captured_of, number_in}
use Rattle.theory_instances_passing.specs.Pinned.{given}

-- Two valuations give the same to each variable that occurs, and the same monotype to each.
pub record AgreeAtMet (met : List Occurrence) (w w' : Valuation) : Type 0 where
  pub entries : All (λ (o : Occurrence). entry_at w o.variable ≡ entry_at w' o.variable) met
  pub monos : (n : ℕ) → mono_of_entry (entry_at w n) ≡ mono_of_entry (entry_at w' n)

pub record OnlyMetCount : Type 0 where
  pub terms : (e : HeadEntries) (w w' : Valuation) (term : TermTree) (s : Skeleton)
      → AgreeAtMet (met_in_term zero [] term) w w'
      → term_den e w term s ≡ term_den e w' term s
  pub heads : (e : HeadEntries) (w w' : Valuation) (term : TermTree)
      → AgreeAtMet (met_in_term zero [] term) w w'
      → head_den e w term ≡ head_den e w' term

-- The valuation of variables that have these values, the innermost first, and one of them.
abbrev pub value_entry : Value → ValuationEntry
value_entry v = den_term sk_o v

abbrev pub with_values : List Value → Valuation
with_values vs = map value_entry vs

abbrev pub value_at : List Value → ℕ → Value
value_at [] n = v_unit
value_at (v ∷ vs) zero = v
value_at (v ∷ vs) (suc n) = value_at vs n

-- The values that a head with its fixed arguments captures.
abbrev pub captured_values : List Value → TermTree → List Argument → List Value
captured_values vs head fixed = map (value_at vs) (captured_of head fixed)

pub record KeysDenote : Type 0 where
  pub heads : (e : HeadEntries) (vs : List Value) (head : TermTree) (fixed : List Argument)
      → head_den e (with_values vs) head
      ≡ head_den e (with_values (captured_values vs head fixed)) (rename_term (number_in (captured_of head fixed)) head)
  pub arguments : (e : HeadEntries) (vs : List Value) (head : TermTree) (fixed : List Argument)
      → map (given e (with_values vs)) fixed
      ≡ map (given e (with_values (captured_values vs head fixed)))
      (map (rename_argument (number_in (captured_of head fixed))) fixed)
