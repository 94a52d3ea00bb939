-- Heads with their arguments as applications, and arguments that come to the same.
use Rattle.std.proofs.Common.{◌≡◌, List, [], ◌∷◌, ◌++◌, map, refl, sym, ap, ◌∙◌}
use Rattle.htt_syntax.specs.Trees.{MonoTree, TermTree, t_app, t_inst}
use Rattle.theory_values.specs.Values.{Value}
use Rattle.theory_canonical.specs.Skeletons.{Skeleton, sk_o, sk_c, sk_arrow, sk_all}
use Rattle.theory_canonical.specs.Contexts.{Standing, Heads}
use Rattle.theory_denotation.specs.Outcomes.{Running}
use Rattle.theory_denotation.specs.Valuations.{Domain, ValuationEntry, den_term, Valuation, running_of_entry, nothing_at, applied_entry, instance_entry}
use Rattle.theory_denotation.specs.Valuations.{mono_in, HeadEntries}
use Rattle.theory_denotation.specs.Recursion.{entered, entered_running}
use Rattle.theory_denotation.specs.Denotation.{term_den, head_den}
use Rattle.theory_instances.specs.Calls.{Argument, of_term, of_mono, head_of, arguments_of, fixed_of, passed_of, all_arguments}
use Rattle.theory_instances_passing.specs.Pinned.{AtEach, GivenArgument, given_term, given_mono, given, applied_to}
use Rattle.theory_instances_denoted.specs.Arguments.{CanonicalArguments, arguments_none, arguments_term, arguments_mono}

applied_append : (x : ValuationEntry) (xs ys : List GivenArgument) → applied_to x (xs ++ ys) ≡ applied_to (applied_to x xs) ys
applied_append x [] ys = refl
applied_append x (given_term a ∷ xs) ys = applied_append (applied_entry x a) xs ys
applied_append x (given_mono t ∷ xs) ys = applied_append (instance_entry x t) xs ys

given_append : (e : HeadEntries) (w : Valuation) (xs ys : List Argument) → map (given e w) (xs ++ ys) ≡ map (given e w) xs ++ map (given e w) ys
given_append e w [] ys = refl
given_append e w (x ∷ xs) ys = λ j. given e w x ∷ given_append e w xs ys j

-- a call is its head, given its arguments
pub call_applies : (e : HeadEntries) (w : Valuation) (term : TermTree)
    → head_den e w term ≡ applied_to (head_den e w (head_of term)) (map (given e w) (arguments_of term))
unfolding term_den head_of arguments_of
call_applies e w (t_app function argument) =
    (λ j. applied_entry (call_applies e w function j) (term_den e w argument))
    ∙ sym (applied_append (head_den e w (head_of function)) (map (given e w) (arguments_of function)) (given_term (term_den e w argument) ∷ []))
    ∙ ap (applied_to (head_den e w (head_of function))) (sym (given_append e w (arguments_of function) (of_term argument ∷ [])))
call_applies e w (t_inst function mono) =
    (λ j. instance_entry (call_applies e w function j) (mono_in w mono))
    ∙ sym (applied_append (head_den e w (head_of function)) (map (given e w) (arguments_of function)) (given_mono (mono_in w mono) ∷ []))
    ∙ ap (applied_to (head_den e w (head_of function))) (sym (given_append e w (arguments_of function) (of_mono mono ∷ [])))
call_applies e w term = refl

-- what is entered at all its arguments is the computation, entered
pub entered_applies : {heads : Heads} {g : List Standing} {s : Skeleton} {arguments : List Argument} (e : HeadEntries) (w : Valuation)
    → CanonicalArguments heads g s arguments sk_c
    → (f : Domain s) (r : Running)
    → applied_to (den_term s f) (map (given e w) arguments) ≡ den_term sk_c r
    → applied_to (den_term s (entered s f)) (map (given e w) arguments) ≡ den_term sk_c (entered_running r)
entered_applies e w arguments_none f r q = ap (λ x. den_term sk_c (entered_running (running_of_entry x))) q
entered_applies e w (arguments_term {s = s} {term = term} c more) f r q = entered_applies e w more (f (term_den e w term s)) r q
entered_applies e w (arguments_mono {mono = mono} c more) f r q = entered_applies e w more (f (mono_in w mono)) r q

-- arguments that come to the same at the skeletons of a function's parameters
pub data AgreeGiven : Skeleton → List GivenArgument → List GivenArgument → Type 0 where
  given_none : AgreeGiven sk_c [] []
  given_terms : {s t : Skeleton} {a b : AtEach} {xs ys : List GivenArgument}
      → a s ≡ b s
      → AgreeGiven t xs ys
      → AgreeGiven (sk_arrow s t) (given_term a ∷ xs) (given_term b ∷ ys)
  given_monos : {s : Skeleton} {t u : MonoTree} {xs ys : List GivenArgument}
      → t ≡ u
      → AgreeGiven s xs ys
      → AgreeGiven (sk_all s) (given_mono t ∷ xs) (given_mono u ∷ ys)

pub agreed_applies : {s : Skeleton} {xs ys : List GivenArgument} (f : Domain s)
    → AgreeGiven s xs ys
    → applied_to (den_term s f) xs ≡ applied_to (den_term s f) ys
agreed_applies f given_none = refl
agreed_applies f (given_terms {s = s} {t = t} {b = b} {xs = xs} q more) = ap (λ d. applied_to (den_term t (f d)) xs) q ∙ agreed_applies (f (b s)) more
agreed_applies f (given_monos {s = s} {u = u} {xs = xs} q more) = ap (λ m. applied_to (den_term s (f m)) xs) q ∙ agreed_applies (f u) more

-- a given argument at a skeleton, and as a monotype
abbrev given_at : (s : Skeleton) → GivenArgument → Domain s
given_at s (given_term a) = a s
given_at s (given_mono t) = nothing_at s

abbrev given_as_mono : GivenArgument → MonoTree → MonoTree
given_as_mono (given_mono t) u = t
given_as_mono (given_term a) u = u

no_mono : {a : AtEach} {t : MonoTree} → given_term a ≡ given_mono t → ⊥
no_mono q = cc

no_given : {x : GivenArgument} {xs : List GivenArgument} → x ∷ xs ≡ [] → ⊥
no_given q = cc

same_given : {x y : GivenArgument} {xs ys : List GivenArgument} → x ∷ xs ≡ y ∷ ys → x ≡ y
same_given q = cc

same_givens : {x y : GivenArgument} {xs ys : List GivenArgument} → x ∷ xs ≡ y ∷ ys → xs ≡ ys
same_givens q = cc

no_value : {x : Value} {xs : List Value} → x ∷ xs ≡ [] → ⊥
no_value q = cc

same_value : {x y : Value} {xs ys : List Value} → x ∷ xs ≡ y ∷ ys → x ≡ y
same_value q = cc

same_values : {x y : Value} {xs ys : List Value} → x ∷ xs ≡ y ∷ ys → xs ≡ ys
same_values q = cc

module _ (e : HeadEntries) (w w' : Valuation) where
  -- what the call gives, and what stands in the body for it
  abbrev pub Agreed : Skeleton → List Argument → Type 0
  Agreed s arguments =
      (fixed : List Argument) (passed : List TermTree)
      → map (given e w) (fixed_of s arguments) ≡ map (given e w') fixed
      → map (λ (x : TermTree). term_den e w x sk_o) (passed_of s arguments) ≡ map (λ (x : TermTree). term_den e w' x sk_o) passed
      → AgreeGiven s (map (given e w) arguments) (map (given e w') (all_arguments s fixed passed))

  -- a fixed argument first
  first_fixed : (s t : Skeleton) (term : TermTree) (argument : Argument) (xs ys : List GivenArgument)
      → given_term (term_den e w term) ≡ given e w' argument
      → AgreeGiven t xs ys
      → AgreeGiven (sk_arrow s t) (given_term (term_den e w term) ∷ xs) (given e w' argument ∷ ys)
  first_fixed s t term (of_term x) xs ys q more = given_terms (ap (given_at s) q) more
  first_fixed s t term (of_mono m) xs ys q more = absurd (no_mono q)

  first_mono : (s : Skeleton) (mono : MonoTree) (argument : Argument) (xs ys : List GivenArgument)
      → given_mono (mono_in w mono) ≡ given e w' argument
      → AgreeGiven s xs ys
      → AgreeGiven (sk_all s) (given_mono (mono_in w mono) ∷ xs) (given e w' argument ∷ ys)
  first_mono s mono (of_term x) xs ys q more = absurd (no_mono (sym q))
  first_mono s mono (of_mono m) xs ys q more = given_monos (ap (λ x. given_as_mono x m) q) more

  arrow_agrees : (s t : Skeleton) (term : TermTree) (others : List Argument)
      → Agreed t others
      → (fixed : List Argument) (passed : List TermTree)
      → map (given e w) (fixed_of (sk_arrow s t) (of_term term ∷ others)) ≡ map (given e w') fixed
      → map (λ (x : TermTree). term_den e w x sk_o) (passed_of (sk_arrow s t) (of_term term ∷ others)) ≡ map (λ (x : TermTree). term_den e w' x sk_o) passed
      → AgreeGiven (sk_arrow s t) (map (given e w) (of_term term ∷ others)) (map (given e w') (all_arguments (sk_arrow s t) fixed passed))
  arrow_agrees sk_o t term others go fixed [] p q = absurd (no_value q)
  arrow_agrees sk_o t term others go fixed (x ∷ passed) p q = given_terms (same_value q) (go fixed passed p (same_values q))
  arrow_agrees sk_c t term others go [] passed p q = absurd (no_given p)
  arrow_agrees sk_c t term others go (x ∷ fixed) passed p q =
      first_fixed sk_c t term x (map (given e w) others) (map (given e w') (all_arguments t fixed passed)) (same_given p) (go fixed passed (same_givens p) q)
  arrow_agrees (sk_arrow r s) t term others go [] passed p q = absurd (no_given p)
  arrow_agrees (sk_arrow r s) t term others go (x ∷ fixed) passed p q =
      first_fixed (sk_arrow r s) t term x (map (given e w) others) (map (given e w') (all_arguments t fixed passed)) (same_given p)
      (go fixed passed (same_givens p) q)
  arrow_agrees (sk_all s) t term others go [] passed p q = absurd (no_given p)
  arrow_agrees (sk_all s) t term others go (x ∷ fixed) passed p q =
      first_fixed (sk_all s) t term x (map (given e w) others) (map (given e w') (all_arguments t fixed passed)) (same_given p)
      (go fixed passed (same_givens p) q)

  all_agrees : (s : Skeleton) (mono : MonoTree) (others : List Argument)
      → Agreed s others
      → (fixed : List Argument) (passed : List TermTree)
      → map (given e w) (fixed_of (sk_all s) (of_mono mono ∷ others)) ≡ map (given e w') fixed
      → map (λ (x : TermTree). term_den e w x sk_o) (passed_of (sk_all s) (of_mono mono ∷ others)) ≡ map (λ (x : TermTree). term_den e w' x sk_o) passed
      → AgreeGiven (sk_all s) (map (given e w) (of_mono mono ∷ others)) (map (given e w') (all_arguments (sk_all s) fixed passed))
  all_agrees s mono others go [] passed p q = absurd (no_given p)
  all_agrees s mono others go (x ∷ fixed) passed p q =
      first_mono s mono x (map (given e w) others) (map (given e w') (all_arguments s fixed passed)) (same_given p) (go fixed passed (same_givens p) q)

  pub arguments_agree : {heads : Heads} {g : List Standing} {s : Skeleton} {arguments : List Argument}
      → CanonicalArguments heads g s arguments sk_c
      → Agreed s arguments
  arguments_agree arguments_none = λ fixed passed p q. given_none
  arguments_agree (arguments_term {s = s} {t = t} {term = term} {others = others} c more) =
      λ fixed passed p q. arrow_agrees s t term others (arguments_agree more) fixed passed p q
  arguments_agree (arguments_mono {s = s} {mono = mono} {others = others} c more) =
      λ fixed passed p q. all_agrees s mono others (arguments_agree more) fixed passed p q
