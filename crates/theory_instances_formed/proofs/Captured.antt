-- The captured variables of a key: each variable that occurs is among them, and has its monotype at its number.
use Rattle.std.proofs.Common.{◌≡◌, ℕ, zero, suc, List, [], ◌∷◌, ◌++◌, map, flat_map, All, Bool, true, false, nat_eq, if◌then◌else◌, Some, None, slice_get}
use Rattle.std.proofs.Common.{refl, sym, ap, ◌∙◌, subst, arith}
use Rattle.std.proofs.lemmas.List.Elements.{All-nil, All-cons, All-head, All-tail}
use Rattle.std.proofs.lemmas.Option.{same_Some}
use Rattle.htt_syntax.specs.Trees.{MonoTree, TermTree}
use Rattle.theory_values.specs.Values.{IsClosed, closed_unit}
use Rattle.theory_instances.specs.Calls.{Argument}
use Rattle.theory_instances.specs.Occurrences.{Occurrence, met_in_term, met_in_argument}
use Rattle.theory_instances.specs.Keys.{is_among, met_after, captured_of, number_in, mono_at}
use Rattle.theory_formed_shapes.specs.Shapes.{sh_mono, HasShape}
use Rattle.theory_formed_met.specs.Laws.{CarriesEntry, HasEntry}
use Rattle.theory_formed_met.proofs.Occurring.{EachMet}
use Rattle.theory_instances_formed.specs.Formed.{values_shapes}
use Rattle.theory_instances_formed.proofs.Shapes.{carries, value_at}
use Rattle.theory_instances_formed.proofs.Variables.{Stand}

-- what was met is among what was met
first_among : (n : ℕ) (others : List ℕ) → is_among n (n ∷ others) ≡ true
first_among n others = let q : nat_eq n n ≡ true = grind arith in ap (λ b. if b then true else is_among n others) q

more_among : (n m : ℕ) (others : List ℕ) → is_among n others ≡ true → is_among n (m ∷ others) ≡ true
more_among n m others q = by (nat_eq n m)
  where
    by : (b : Bool) → (if b then true else is_among n others) ≡ true
    by true = refl
    by false = q

stays_among : (n : ℕ) (known others : List ℕ) → is_among n known ≡ true → is_among n (met_after known others) ≡ true
stays_among n known [] q = q
stays_among n known (m ∷ others) q = by (is_among m known) (stays_among n known others q) (stays_among n (m ∷ known) others (more_among n m known q))
  where
    by : (b : Bool)
        → is_among n (met_after known others) ≡ true
        → is_among n (met_after (m ∷ known) others) ≡ true
        → is_among n (met_after (if b then known else m ∷ known) others) ≡ true
    by true x y = x
    by false x y = y

abbrev pub AllAmong : List Occurrence → List ℕ → Type 0
AllAmong [] all = Unit {0}
AllAmong (o ∷ others) all = (is_among o.variable all ≡ true) × AllAmong others all

abbrev variables_of : List Occurrence → List ℕ
variables_of xs = map (λ (o : Occurrence). o.variable) xs

all_among : (known : List ℕ) (xs : List Occurrence) → AllAmong xs (met_after known (variables_of xs))
all_among known [] = tt
all_among known (o ∷ others) =
    (by (is_among o.variable known) refl, all_among (if is_among o.variable known then known else o.variable ∷ known) others)
  where
    by : (b : Bool)
        → is_among o.variable known ≡ b
        → is_among o.variable (met_after (if b then known else o.variable ∷ known) (variables_of others)) ≡ true
    by true q = stays_among o.variable known (variables_of others) q
    by false q = stays_among o.variable (o.variable ∷ known) (variables_of others) (first_among o.variable known)

pub met_among : (head : TermTree) (fixed : List Argument)
    → AllAmong (met_in_term zero [] head ++ flat_map met_in_argument fixed) (captured_of head fixed)
met_among head fixed = all_among [] (met_in_term zero [] head ++ flat_map met_in_argument fixed)

-- the monotype of a captured variable stands at its number
number_there : (captured : List ℕ) (ts : List MonoTree) (n : ℕ)
    → is_among n captured ≡ true
    → slice_get (map (mono_at ts) captured) (number_in captured n) ≡ Some (mono_at ts n)
number_there [] ts n q = absurd (cc)
number_there (m ∷ captured) ts n q = by (nat_eq n m) refl q (λ r. number_there captured ts n r)
  where
    by : (b : Bool)
        → nat_eq n m ≡ b
        → (if b then true else is_among n captured) ≡ true
        → (is_among n captured ≡ true → slice_get (map (mono_at ts) captured) (number_in captured n) ≡ Some (mono_at ts n))
        → slice_get (map (mono_at ts) (m ∷ captured)) (if b then zero else suc (number_in captured n)) ≡ Some (mono_at ts n)
    by true r q rest = let same : m ≡ n = grind (arith, r) in ap (λ k. Some (mono_at ts k)) same
    by false r q rest = rest q

none_some : {A : Type 0} {x : A} → None ≡ Some x → ⊥
none_some q = cc

pub mono_at_is : (ts : List MonoTree) (n : ℕ) (t : MonoTree) → slice_get ts n ≡ Some t → mono_at ts n ≡ t
mono_at_is [] n t q = absurd (none_some q)
mono_at_is (u ∷ ts) zero t q = same_Some u t q
mono_at_is (u ∷ ts) (suc n) t q = mono_at_is ts n t q

closed_at : (ts : List MonoTree) (n : ℕ) → All IsClosed ts → IsClosed (mono_at ts n)
closed_at [] n c = closed_unit
closed_at (t ∷ ts) zero c = All-head IsClosed t ts c
closed_at (t ∷ ts) (suc n) c = closed_at ts n (All-tail IsClosed t ts c)

pub captured_closed : (ts : List MonoTree) (captured : List ℕ) → All IsClosed ts → All IsClosed (map (mono_at ts) captured)
captured_closed ts [] c = All-nil IsClosed
captured_closed ts (n ∷ captured) c =
    All-cons IsClosed (mono_at ts n) (map (mono_at ts) captured) (closed_at ts n c) (captured_closed ts captured c)

-- so renumbering carries the entries of all variables that occur
pub carries_met : (captured : List ℕ) (ts : List MonoTree) (xs : List Occurrence)
    → All IsClosed ts
    → AllAmong xs captured
    → EachMet (CarriesEntry (number_in captured) (values_shapes ts) (values_shapes (map (mono_at ts) captured))) xs
carries_met captured ts [] c a = tt
carries_met captured ts (o ∷ xs) c a = (
  carries (number_in captured) ts (map (mono_at ts) captured) o.variable c (captured_closed ts captured c)
      (λ t q. number_there captured ts o.variable (a.0) ∙ ap Some (mono_at_is ts o.variable t q)),
  carries_met captured ts xs c (a.1),
)

-- ---- and the captured variables are of their monotypes in the context of the call

entry_stands : (ts : List MonoTree) (n : ℕ) → All IsClosed ts → HasEntry (values_shapes ts) n → HasShape (values_shapes ts) n (sh_mono (mono_at ts n))
entry_stands ts n c e =
    let r = value_at ts c (e.1) in
    subst (λ t. HasShape (values_shapes ts) n (sh_mono t)) (sym (mono_at_is ts n r.mono r.there)) (subst (HasShape (values_shapes ts) n) r.is (e.1))

abbrev StandAll : List MonoTree → List ℕ → Type 0
StandAll ts ns = Stand (values_shapes ts) ns (map (mono_at ts) ns)

met_stand : (ts : List MonoTree) (known : List ℕ) (xs : List Occurrence)
    → All IsClosed ts
    → StandAll ts known
    → EachMet (HasEntry (values_shapes ts)) xs
    → StandAll ts (met_after known (variables_of xs))
met_stand ts known [] c a e = a
met_stand ts known (o ∷ xs) c a e = met_stand ts (if is_among o.variable known then known else o.variable ∷ known) xs c (by (is_among o.variable known)) (e.1)
  where
    by : (b : Bool) → StandAll ts (if b then known else o.variable ∷ known)
    by true = a
    by false = (entry_stands ts o.variable c (e.0), a)

pub captured_stand : (ts : List MonoTree) (xs : List Occurrence)
    → All IsClosed ts
    → EachMet (HasEntry (values_shapes ts)) xs
    → StandAll ts (met_after [] (variables_of xs))
captured_stand ts xs c e = met_stand ts [] xs c tt e
