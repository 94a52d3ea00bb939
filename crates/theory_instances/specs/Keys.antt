-- Which instance a call names: its head with its fixed arguments, and the monotypes of the variables that
-- these capture. The captured variables are numbered as they are first met, the first one being outermost.
use Rattle.std.specs.Prelude.{◌≡◌, ℕ, zero, suc, List, [], ◌∷◌, ◌++◌, map, flat_map, Bool, true, false}
use Rattle.std.specs.Prelude.{if◌then◌else◌, nat_eq}
use Rattle.htt_syntax.specs.Trees.{MonoTree, TermTree, m_unit, t_val, t_fix}
use Rattle.theory_renaming.specs.Renaming.{Map, rename_term}
use Rattle.theory_canonical.specs.Skeletons.{skeleton}
use Rattle.theory_typing.specs.Positions.{plain_term}
use Rattle.theory_instances.specs.Calls.{Program, Argument, of_term, of_mono, rename_argument, head_of, arguments_of}
use Rattle.theory_instances.specs.Calls.{fixed_of, head_ty, Site}
use Rattle.theory_instances.specs.Occurrences.{Occurrence, met_in_term, met_in_argument}

-- The head, which is a value or a recursive function, and the fixed arguments stand under the captured
-- variables, whose monotypes are given with the innermost first.
pub record Key : Type 0 where
  pub head : TermTree
  pub fixed : List Argument
  pub captured : List MonoTree

abbrev pub is_among : ℕ → List ℕ → Bool
is_among n [] = false
is_among n (m ∷ others) = if nat_eq n m then true else is_among n others

-- The variables so far, the last met first, and then those of a list, each where it is met first.
abbrev pub met_after : List ℕ → List ℕ → List ℕ
met_after known [] = known
met_after known (n ∷ others) = met_after (if is_among n known then known else n ∷ known) others

abbrev pub variables_met : TermTree → List Argument → List ℕ
variables_met head fixed =
    map (λ (o : Occurrence). o.variable) (met_in_term zero [] head ++ flat_map met_in_argument fixed)

-- The captured variables of a head and its fixed arguments, the innermost first.
abbrev pub captured_of : TermTree → List Argument → List ℕ
captured_of head fixed = met_after [] (variables_met head fixed)

-- What index a captured variable has. Another one, which doesn't occur, goes past all of them.
abbrev pub number_in : List ℕ → Map
number_in [] n = n
number_in (m ∷ others) n = if nat_eq n m then zero else suc (number_in others n)

abbrev pub mono_at : List MonoTree → ℕ → MonoTree
mono_at [] n = m_unit
mono_at (mono ∷ others) zero = mono
mono_at (mono ∷ others) (suc n) = mono_at others n

abbrev pub key_with : List ℕ → List MonoTree → TermTree → List Argument → Key
key_with captured g head fixed =
    record {
      head = rename_term (number_in captured) head;
      fixed = map (rename_argument (number_in captured)) fixed;
      captured = map (mono_at g) captured;
    }

-- The key that a head with its fixed arguments has under variables of these monotypes.
abbrev pub key_of : List MonoTree → TermTree → List Argument → Key
key_of g head fixed = key_with (captured_of head fixed) g head fixed

abbrev pub key_of_site : Program → Site → Key
key_of_site p site =
    key_of site.context (head_of site.call)
    (fixed_of (skeleton (head_ty p (head_of site.call))) (arguments_of site.call))

-- The key that a call names by itself. A made function is an instance that is there already.
abbrev pub keys_of_head : TermTree → Key → List Key
keys_of_head (t_val number) key = key ∷ []
keys_of_head (t_fix at fix) key = key ∷ []
keys_of_head head key = []

abbrev pub keys_of_site : Program → Site → List Key
keys_of_site p site = keys_of_head (head_of site.call) (key_of_site p site)

-- Two calls have one instance where heads and fixed arguments are the same, but for the bytes of recursive
-- functions, and the captured variables have the same monotypes.
abbrev pub plain_argument : Argument → Argument
plain_argument (of_term term) = of_term (plain_term term)
plain_argument (of_mono mono) = of_mono mono

abbrev pub plain_key : Key → Key
plain_key key =
    record { head = plain_term key.head; fixed = map plain_argument key.fixed; captured = key.captured }

abbrev pub IsSameKey : Key → Key → Type 0
IsSameKey key other = plain_key key ≡ plain_key other
