-- Two valuations that differ in one entry, which is a recursive function, and the same with its fixed
-- parameters pinned; and heads that are applied to what passes these on.
use Rattle.std.proofs.Common.{◌≡◌, ℕ, zero, suc, ◌+◌, List, [], ◌∷◌, ◌++◌, map, Bool, true, false, nat_eq, Option, Some, None, ◌⊎◌, inl, inr, refl, sym, ap}
use Rattle.std.proofs.Common.{◌∙◌, subst, arith}
use Rattle.htt_syntax.specs.Trees.{MonoTree, TermTree, m_word, m_bool, m_loc, m_unit, m_pair, m_var}
use Rattle.theory_renaming.specs.Renaming.{lifts, shifting, rename_term}
use Rattle.theory_canonical.specs.Skeletons.{Skeleton, sk_o, sk_c, sk_arrow, sk_all}
use Rattle.theory_canonical.specs.Contexts.{Standing, as_mono, as_term, Stands}
use Rattle.theory_denotation.specs.Valuations.{Domain, ValuationEntry, den_mono, den_heap, den_term, Valuation, entry_at, mono_of_entry, applied_entry}
use Rattle.theory_denotation.specs.Valuations.{instance_entry, mono_in}
use Rattle.theory_denotation.specs.Valuations.{HeadEntries}
use Rattle.theory_denotation.specs.Denotation.{term_den}
use Rattle.theory_denotation.specs.Valued.{IsOf, ContextValued}
use Rattle.theory_denotation.proofs.HeadsDenote.{valued_term, valued_other}
use Rattle.theory_denotation_renaming.specs.Along.{AgreeAlong}
use Rattle.theory_denotation_renaming.proofs.Renamed.{term_renamed}
use Rattle.theory_denotation_renaming.proofs.Entries.{applied_same}
use Rattle.theory_denotation_substitution.proofs.Results.{arrow_parts}
use Rattle.theory_instances.specs.Calls.{Argument, of_term, of_mono}
use Rattle.theory_instances.specs.Occurrences.{Occurrence, outside, met}
use Rattle.theory_instances.specs.Varying.{PassesOn, passes_end, passes_value, passes_fixed}
use Rattle.theory_instances_passing.specs.Pinned.{AtEach, IsFixed, pinned, Denote, denote_end, denote_value, denote_fixed}

-- each occurrence of the recursion variable in a list passes on
abbrev pub OwnPasses : Skeleton → List TermTree → Bool → Occurrence → Type 0
OwnPasses s params true o = PassesOn s (map (rename_term (shifting zero o.inside)) params) o.arguments
OwnPasses s params false o = Unit {0}

abbrev pub EachOwn : Skeleton → List TermTree → List Occurrence → Type 0
EachOwn s params [] = Unit {0}
EachOwn s params (o ∷ others) = OwnPasses s params (nat_eq o.variable zero) o × EachOwn s params others

pub both : (s : Skeleton) (params : List TermTree) (xs ys : List Occurrence) → EachOwn s params (xs ++ ys) → EachOwn s params xs × EachOwn s params ys
both s params [] ys m = (tt, m)
both s params (x ∷ xs) ys m = let r = both s params xs ys (m.1) in ((m.0, r.0), r.1)

outside_itself : (d : ℕ) → outside d d ≡ Some zero
outside_itself zero = refl
outside_itself (suc d) = outside_itself d

-- the variable itself, where it is applied to these arguments
pub own_met : (s : Skeleton) (params : List TermTree) (d index : ℕ) (arguments : List Argument)
    → index ≡ d
    → EachOwn s params (met d arguments (outside d index))
    → PassesOn s (map (rename_term (shifting zero d)) params) arguments
own_met s params d index arguments q m =
    (subst (λ o. EachOwn s params (met d arguments o)) (outside_itself d) (subst (λ n. EachOwn s params (met d arguments (outside d n))) q m)).0

-- d binders inside of the valuation base, in which the parameters denote what is set
pub record Apart (whole : Skeleton) (own : Domain whole) (set : List AtEach) (base : Valuation) (d : ℕ) (g : List Standing) (w w' : Valuation) : Type 0 where
  pub here : entry_at w d ≡ den_term whole own
  pub pinned_here : entry_at w' d ≡ den_term whole (pinned whole set own)
  pub others : (n : ℕ) → (n ≡ d) ⊎ (entry_at w n ≡ entry_at w' n)
  pub along : (n : ℕ) → entry_at w (n + d) ≡ entry_at base n
  pub valued : ContextValued g w

further : (d : ℕ) (w w' : Valuation) (x : ValuationEntry)
    → ((n : ℕ) → (n ≡ d) ⊎ (entry_at w n ≡ entry_at w' n))
    → (n : ℕ)
    → (n ≡ suc d) ⊎ (entry_at (x ∷ w) n ≡ entry_at (x ∷ w') n)
further d w w' x others zero = inr refl
further d w w' x others (suc n) = elim (others n) [ inl q ↦ inl (ap suc q) | inr q ↦ inr q ]

further_along : (base : Valuation) (d : ℕ) (w : Valuation) (x : ValuationEntry)
    → ((n : ℕ) → entry_at w (n + d) ≡ entry_at base n)
    → (n : ℕ)
    → entry_at (x ∷ w) (n + suc d) ≡ entry_at base n
further_along base d w x along n =
    let q : n + suc d ≡ suc (n + d) = omega arith in ap (entry_at (x ∷ w)) q ∙ along n

module _ {whole : Skeleton} {own : Domain whole} {set : List AtEach} {base : Valuation} where
  pub next_term : {d : ℕ} {g : List Standing} {w w' : Valuation} (s : Skeleton) (x : Domain s)
      → Apart whole own set base d g w w'
      → Apart whole own set base (suc d) (as_term s ∷ g) (den_term s x ∷ w) (den_term s x ∷ w')
  next_term {d = d} {w = w} {w' = w'} s x a = record {
    here = a.here;
    pinned_here = a.pinned_here;
    others = further d w w' (den_term s x) a.others;
    along = further_along base d w (den_term s x) a.along;
    valued = valued_term s x a.valued;
  }

  pub next_mono : {d : ℕ} {g : List Standing} {w w' : Valuation} (t : MonoTree)
      → Apart whole own set base d g w w'
      → Apart whole own set base (suc d) (as_mono ∷ g) (den_mono t ∷ w) (den_mono t ∷ w')
  next_mono {d = d} {w = w} {w' = w'} t a = record {
    here = a.here;
    pinned_here = a.pinned_here;
    others = further d w w' (den_mono t) a.others;
    along = further_along base d w (den_mono t) a.along;
    valued = (valued_other (den_mono t) a.valued).0;
  }

  -- a monotype is the same in both
  pub mono_agrees : {d : ℕ} {g : List Standing} {w w' : Valuation} → Apart whole own set base d g w w' → (t : MonoTree) → mono_in w t ≡ mono_in w' t
  mono_agrees a m_word = refl
  mono_agrees a m_bool = refl
  mono_agrees a m_loc = refl
  mono_agrees a m_unit = refl
  mono_agrees a (m_pair t u) = λ j. m_pair (mono_agrees a t j) (mono_agrees a u j)
  mono_agrees {w = w} {w' = w'} a (m_var index) =
      elim (a.others index) [
        | inl q ↦ ap (λ n. mono_of_entry (entry_at w n)) q ∙ ap mono_of_entry a.here ∙ sym (ap mono_of_entry a.pinned_here)
            ∙ sym (ap (λ n. mono_of_entry (entry_at w' n)) q)
        | inr q ↦ ap mono_of_entry q
      ]

  pub denote_within : {e : HeadEntries} {d : ℕ} {g : List Standing} {w w' : Valuation} {s t : Skeleton} {params : List TermTree} {others : List AtEach}
      → Apart whole own set base d g w w'
      → Denote e base s t params others
      → Denote e w s t (map (rename_term (shifting zero d)) params) others
  unfolding lifts
  denote_within a denote_end = denote_end
  denote_within a (denote_value m) = denote_value (denote_within a m)
  denote_within {e = e} {d = d} {w = w} a (denote_fixed {r = r} {param = param} i q m) =
      let along : AgreeAlong (shifting zero d) base w = record { at = a.along } in
      denote_fixed i (term_renamed e param along r ∙ q) (denote_within a m)

-- Two entries for a head that awaits arguments: the same, or the function and the one that is pinned.
pub data Agreeing (e : HeadEntries) (w : Valuation) (t : Skeleton) (pending : List Argument) (x y : ValuationEntry) : Type 0 where
  agree_same : x ≡ y → Agreeing e w t pending x y
  agree_own : {u : Skeleton} {params : List TermTree} {set : List AtEach} (f : Domain u)
      → t ≡ u
      → PassesOn u params pending
      → Denote e w u sk_c params set
      → x ≡ den_term u f
      → y ≡ den_term u (pinned u set f)
      → Agreeing e w t pending x y

pub agreed_run : {e : HeadEntries} {w : Valuation} {x y : ValuationEntry} → Agreeing e w sk_c [] x y → x ≡ y
agreed_run (agree_same q) = q
agreed_run (agree_own f r passes_end denote_end p q) = p ∙ sym q

pub agreed_value : {e : HeadEntries} {w : Valuation} {x y : ValuationEntry} → Agreeing e w sk_o [] x y → x ≡ y
agreed_value (agree_same q) = q
agreed_value (agree_own f r passes_end m p q) = absurd (cc)

pub agreed_instance : {e : HeadEntries} {w : Valuation} {s : Skeleton} {pending : List Argument} {x y : ValuationEntry} {t u mono : MonoTree}
    → Agreeing e w (sk_all s) (of_mono mono ∷ pending) x y
    → t ≡ u
    → Agreeing e w s pending (instance_entry x t) (instance_entry y u)
agreed_instance (agree_same q) r = agree_same (λ j. instance_entry (q j) (r j))
agreed_instance (agree_own f r passes m p q) s = elim passes [ ]

pinned_fixed : (s t : Skeleton) → IsFixed s → (k : AtEach) (set : List AtEach) (f : Domain s → Domain t) (d : Domain s)
    → pinned (sk_arrow s t) (k ∷ set) f d ≡ pinned t set (f (k s))
pinned_fixed sk_o t i k set f d = absurd i
pinned_fixed sk_c t i k set f d = refl
pinned_fixed (sk_arrow r s) t i k set f d = refl
pinned_fixed (sk_all s) t i k set f d = refl

pub agreed_applied : {e : HeadEntries} {w : Valuation} (w' : Valuation) {s t : Skeleton} {pending : List Argument} {x y : ValuationEntry} {argument : TermTree}
    → Agreeing e w (sk_arrow s t) (of_term argument ∷ pending) x y
    → IsOf (sk_arrow s t) x
    → term_den e w argument s ≡ term_den e w' argument s
    → Agreeing e w t pending (applied_entry x (term_den e w argument)) (applied_entry y (term_den e w' argument))
agreed_applied {e = e} {w = w} w' {argument = argument} (agree_same q) o r =
    agree_same (sym (applied_same (term_den e w argument) (term_den e w' argument) o (sym q) (sym r)))
agreed_applied {e = e} {w = w} w' {argument = argument} (agree_own f c (passes_value {t = t} pass) (denote_value {set = set} m) p q) o r =
    let parts = arrow_parts c in
    agree_own (f (term_den e w argument sk_o)) (parts.1) pass m (ap (λ v. applied_entry v (term_den e w argument)) p)
    (ap (λ v. applied_entry v (term_den e w' argument)) q
    ∙ ap (λ v. den_term t (pinned t set (f v))) (sym (subst (λ u. term_den e w argument u ≡ term_den e w' argument u) (parts.0) r)))
agreed_applied w' (agree_own f c (passes_value pass) (denote_fixed i d m) p q) o r = absurd i
agreed_applied {e = e} {w = w} w' {argument = argument} (agree_own f c (passes_fixed {t = t} same pass) (denote_value {set = set} m) p q) o r =
    let parts = arrow_parts c in
    agree_own (f (term_den e w argument sk_o)) (parts.1) pass m (ap (λ v. applied_entry v (term_den e w argument)) p)
    (ap (λ v. applied_entry v (term_den e w' argument)) q
    ∙ ap (λ v. den_term t (pinned t set (f v))) (sym (subst (λ u. term_den e w argument u ≡ term_den e w' argument u) (parts.0) r)))
agreed_applied {e = e} {w = w} w' {argument = argument}
    (agree_own f c (passes_fixed {s = s} {t = t} same pass) (denote_fixed {x = k} {set = set} i d m) p q) o r =
    agree_own (f (k s)) ((arrow_parts c).1) pass m
    (ap (λ v. applied_entry v (term_den e w argument)) p ∙ ap (λ v. den_term t (f v)) (ap (λ m. term_den e w m s) same ∙ d))
    (ap (λ v. applied_entry v (term_den e w' argument)) q ∙ ap (den_term t) (pinned_fixed s t i k set f (term_den e w' argument s)))
