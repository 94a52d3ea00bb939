-- A recursive function whose fixed parameters are pinned: whatever it is given for them, it takes the
-- arguments that are set here.
use Rattle.std.specs.Prelude.{◌≡◌, List, [], ◌∷◌}
use Rattle.htt_syntax.specs.Trees.{MonoTree, TermTree}
use Rattle.theory_canonical.specs.Skeletons.{Skeleton, sk_o, sk_c, sk_arrow, sk_all}
use Rattle.theory_denotation.specs.Valuations.{Domain, ValuationEntry, Valuation, applied_entry, instance_entry}
use Rattle.theory_denotation.specs.Valuations.{mono_in}
use Rattle.theory_denotation.specs.Valuations.{HeadEntries}
use Rattle.theory_denotation.specs.Denotation.{term_den}
use Rattle.theory_instances.specs.Calls.{Argument, of_term, of_mono}

-- What an argument denotes at each skeleton.
abbrev pub AtEach : Type 0
AtEach = (s : Skeleton) → Domain s

-- An argument of this skeleton is fixed, and not passed at run time.
abbrev pub IsFixed : Skeleton → Type 0
IsFixed sk_o = ⊥
IsFixed s = Unit {0}

abbrev pub pinned : (s : Skeleton) → List AtEach → Domain s → Domain s
pinned (sk_arrow sk_o t) set f = λ d. pinned t set (f d)
pinned (sk_arrow s t) (x ∷ set) f = λ d. pinned t set (f (x s))
pinned s set f = f

-- What a call gives to a head: what an argument denotes, or a monotype.
pub data GivenArgument : Type 0 where
  given_term : AtEach → GivenArgument
  given_mono : MonoTree → GivenArgument

abbrev pub given : HeadEntries → Valuation → Argument → GivenArgument
given e w (of_term term) = given_term (term_den e w term)
given e w (of_mono mono) = given_mono (mono_in w mono)

-- A function that is given arguments, one after the other.
abbrev pub applied_to : ValuationEntry → List GivenArgument → ValuationEntry
applied_to x [] = x
applied_to x (given_term argument ∷ others) = applied_to (applied_entry x argument) others
applied_to x (given_mono mono ∷ others) = applied_to (instance_entry x mono) others

-- Of these arguments of a recursive function, these are the fixed ones.
pub data Splits : Skeleton → List GivenArgument → List AtEach → Type 0 where
  splits_end : Splits sk_c [] []
  splits_value : {t : Skeleton} {argument : AtEach} {arguments : List GivenArgument} {set : List AtEach}
      → Splits t arguments set
      → Splits (sk_arrow sk_o t) (given_term argument ∷ arguments) set
  splits_fixed : {s t : Skeleton} {argument : AtEach} {arguments : List GivenArgument} {set : List AtEach}
      → IsFixed s
      → Splits t arguments set
      → Splits (sk_arrow s t) (given_term argument ∷ arguments) (argument ∷ set)

-- From one skeleton down to another, the terms at fixed parameters denote what is set.
pub data Denote (e : HeadEntries) (w : Valuation) : Skeleton → Skeleton → List TermTree → List AtEach → Type 0 where
  denote_end : {t : Skeleton} → Denote e w t t [] []
  denote_value : {s t : Skeleton} {param : TermTree} {params : List TermTree} {set : List AtEach}
      → Denote e w s t params set
      → Denote e w (sk_arrow sk_o s) t (param ∷ params) set
  denote_fixed : {r s t : Skeleton} {param : TermTree} {params : List TermTree} {x : AtEach} {set : List AtEach}
      → IsFixed r
      → term_den e w param r ≡ x r
      → Denote e w s t params set
      → Denote e w (sk_arrow r s) t (param ∷ params) (x ∷ set)
