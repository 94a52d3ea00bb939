-- When a place of a text has the names that are printed: its binders bear the printed names, and the declared names
-- stand for the values and the recursive predicates with their numbers.
use Rattle.std.specs.Prelude.{◌≡◌, ℕ, zero, suc, Bool, true, false, List, [], ◌∷◌, length, Option, Some, None}
use Rattle.std.specs.Prelude.{slice_get}
use Rattle.theory_text_names.specs.Scopes.{Sort, a_hypothesis, the_init, the_mem, Local, Names, Scope, means_rec}
use Rattle.theory_text_names.specs.Scopes.{means_val}
use Rattle.theory_text_names.specs.Uses.{a_declared, declared_use}
use Rattle.theory_printing.specs.Names.{PrintScope, name_at, hypothesis_name}

abbrev pub is_named : Sort → Bool
is_named the_init = false
is_named the_mem = false
is_named a_hypothesis = false
is_named _ = true

-- binders whose entries have these sorts, the innermost first, with so many hypotheses among them
pub data AreNamed : List Local → List Sort → ℕ → Type 0 where
  named_none : AreNamed [] [] zero
  named_entry : {locals : List Local} {sorts : List Sort} {n : ℕ} {name : Option (List ℕ)} {sort : Sort}
      → is_named sort ≡ true
      → name ≡ Some (name_at sort (length sorts))
      → AreNamed locals sorts n
      → AreNamed (record { name = name; sort = sort } ∷ locals) (sort ∷ sorts) n
  named_init : {locals : List Local} {sorts : List Sort} {n : ℕ}
      → AreNamed locals sorts n
      → AreNamed (record { name = None; sort = the_init } ∷ locals) (the_init ∷ sorts) n
  named_mem : {locals : List Local} {sorts : List Sort} {n : ℕ}
      → AreNamed locals sorts n
      → AreNamed (record { name = None; sort = the_mem } ∷ locals) (the_mem ∷ sorts) n
  named_hypothesis : {locals : List Local} {sorts : List Sort} {n : ℕ} {name : Option (List ℕ)}
      → name ≡ Some (hypothesis_name n)
      → AreNamed locals sorts n
      → AreNamed (record { name = name; sort = a_hypothesis } ∷ locals) sorts (suc n)

pub record AreDeclared (s : PrintScope) (counts : List ℕ) (names : Names) : Type 0 where
  pub vals : (number : ℕ) (name : List ℕ)
      → slice_get s.vals number ≡ Some name
      → declared_use name names ≡ Some (a_declared (means_val number))
  pub recs : (number : ℕ) (name : List ℕ)
      → slice_get s.recs number ≡ Some name
      → (params : ℕ)
      × (slice_get counts number ≡ Some params)
      × (declared_use name names ≡ Some (a_declared (means_rec number params)))

pub record HasPrintedNames (s : PrintScope) (counts : List ℕ) (r : Scope) : Type 0 where
  pub locals : AreNamed r.locals s.entries s.hypotheses
  pub declared : AreDeclared s counts r.names
