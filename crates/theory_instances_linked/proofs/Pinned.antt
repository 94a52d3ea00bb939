-- Of the arguments of a recursive function those that are fixed, and the function with these pinned.
use Rattle.std.proofs.Common.{◌≡◌, ℕ, suc, List, [], ◌∷◌, length, map, refl, sym, ap, ◌∙◌, arith}
use Rattle.htt_syntax.specs.Trees.{TermTree, FixTree}
use Rattle.theory_renaming.specs.Renaming.{Map}
use Rattle.theory_canonical.specs.Skeletons.{Skeleton, sk_o, sk_c, sk_arrow, sk_all}
use Rattle.theory_canonical.specs.Contexts.{Standing, Heads}
use Rattle.theory_canonical.specs.Canonical.{IsCanonicalFix, n_param, n_body}
use Rattle.theory_denotation.specs.Valuations.{Domain, den_term, Valuation, mono_in, HeadEntries}
use Rattle.theory_denotation.specs.Denotation.{term_den}
use Rattle.theory_denotation_renaming.specs.Along.{AgreeAlong}
use Rattle.theory_denotation_renaming.proofs.Renamed.{term_renamed}
use Rattle.theory_denotation_unfolding.specs.Agreement.{SteadyValuation, SteadyHeads, SameSteadily}
use Rattle.theory_denotation_unfolding.proofs.Unfolded.{canonical_steady}
use Rattle.theory_instances.specs.Calls.{Argument, of_term, of_mono, rename_argument, passed_count, all_arguments}
use Rattle.theory_instances_passing.specs.Pinned.{AtEach, GivenArgument, given_term, given_mono, given, IsFixed, pinned, applied_to, Splits, splits_end}
use Rattle.theory_instances_passing.specs.Pinned.{splits_value, splits_fixed}
use Rattle.theory_instances_denoted.specs.Arguments.{CanonicalArguments, arguments_none, arguments_term, arguments_mono}
use Rattle.theory_instances_canonical.specs.Keys.{CanonicalFixed, fixed_end, fixed_value, fixed_term, fixed_mono}
use Rattle.theory_instances_heads.specs.Heads.{pinned_to}

-- what fixed terms denote
abbrev pub set_of : HeadEntries → Valuation → List Argument → List AtEach
set_of e w [] = []
set_of e w (of_term term ∷ others) = term_den e w term ∷ set_of e w others
set_of e w (of_mono mono ∷ others) = set_of e w others

pub set_renamed : (e : HeadEntries) {m : Map} {w w' : Valuation}
    → AgreeAlong m w w'
    → (fixed : List Argument)
    → set_of e w' (map (rename_argument m) fixed) ≡ set_of e w fixed
set_renamed e a [] = refl
set_renamed e a (of_term term ∷ fixed) = λ j. (λ s. term_renamed e term a s j) ∷ set_renamed e a fixed j
set_renamed e a (of_mono mono ∷ fixed) = set_renamed e a fixed

first_split : (e : HeadEntries) (w : Valuation) (r t : Skeleton) (term : TermTree) (fixed : List Argument) (passed : List TermTree) {set : List AtEach}
    → IsFixed r
    → Splits t (map (given e w) (all_arguments t fixed passed)) set
    → Splits (sk_arrow r t) (map (given e w) (all_arguments (sk_arrow r t) (of_term term ∷ fixed) passed)) (term_den e w term ∷ set)
first_split e w sk_o t term fixed passed i m = absurd i
first_split e w sk_c t term fixed passed i m = splits_fixed i m
first_split e w (sk_arrow r s) t term fixed passed i m = splits_fixed i m
first_split e w (sk_all s) t term fixed passed i m = splits_fixed i m

first_count : (r t : Skeleton) → IsFixed r → passed_count (sk_arrow r t) ≡ passed_count t
first_count sk_o t i = absurd i
first_count sk_c t i = refl
first_count (sk_arrow r s) t i = refl
first_count (sk_all s) t i = refl

pub arguments_split : {heads few : Heads} {g h : List Standing} {inner s : Skeleton} {fix : FixTree} {fixed : List Argument} (e : HeadEntries)
    (w : Valuation) (passed : List TermTree)
    → IsCanonicalFix heads g inner fix s
    → CanonicalFixed few h s fixed
    → length passed ≡ passed_count s
    → Splits s (map (given e w) (all_arguments s fixed passed)) (set_of e w fixed)
arguments_split e w passed (n_body b c) fixed_end l = splits_end
arguments_split e w [] (n_param b q rest) (fixed_value f) l = absurd (omega (arith, l))
arguments_split e w (x ∷ passed) (n_param b q rest) (fixed_value f) l = splits_value (arguments_split e w passed rest f (omega (arith, l)))
arguments_split e w passed (n_param {s = r} {t = t} b q rest) (fixed_term {term = term} {fixed = fixed} i c f) l =
    first_split e w r t term fixed passed i (arguments_split e w passed rest f (l ∙ first_count r t i))

-- the function with what is set pinned
first_pinned : (r t : Skeleton) (x : AtEach) (given_set : List GivenArgument) (set : List AtEach) (d : Domain (sk_arrow r t))
    → IsFixed r
    → pinned_to t given_set (d (x r)) ≡ pinned t set (d (x r))
    → pinned_to (sk_arrow r t) (given_term x ∷ given_set) d ≡ pinned (sk_arrow r t) (x ∷ set) d
first_pinned sk_o t x given_set set d i q = absurd i
first_pinned sk_c t x given_set set d i q = λ j y. q j
first_pinned (sk_arrow r s) t x given_set set d i q = λ j y. q j
first_pinned (sk_all s) t x given_set set d i q = λ j y. q j

pub pinned_is : {heads few : Heads} {g h : List Standing} {inner s : Skeleton} {fix : FixTree} {fixed : List Argument} (e : HeadEntries) (w : Valuation)
    → IsCanonicalFix heads g inner fix s
    → CanonicalFixed few h s fixed
    → (d : Domain s)
    → pinned_to s (map (given e w) fixed) d ≡ pinned s (set_of e w fixed) d
pinned_is e w (n_body b c) fixed_end d = refl
pinned_is e w (n_param b q rest) (fixed_value f) d = λ j x. pinned_is e w rest f (d x) j
pinned_is e w (n_param {s = r} {t = t} b q rest) (fixed_term {term = term} {fixed = fixed} i c f) d =
    first_pinned r t (term_den e w term) (map (given e w) fixed) (set_of e w fixed) d i (pinned_is e w rest f (d (term_den e w term r)))

-- what comes to the same for steady arguments does at canonical ones
pub steady_applies : {heads : Heads} {g : List Standing} {s : Skeleton} {arguments : List Argument} (e : HeadEntries) (w : Valuation)
    → CanonicalArguments heads g s arguments sk_c
    → SteadyHeads heads e
    → SteadyValuation g w
    → (d c : Domain s)
    → SameSteadily s d c
    → applied_to (den_term s d) (map (given e w) arguments) ≡ applied_to (den_term s c) (map (given e w) arguments)
steady_applies e w arguments_none h r d c q = ap (den_term sk_c) q
steady_applies {heads = heads} {g = g} e w (arguments_term {s = s} {term = term} a more) h r d c q =
    let x = term_den e w term s in steady_applies e w more h r (d x) (c x) (q x (canonical_steady.steady heads e g w h r term s a))
steady_applies e w (arguments_mono {mono = mono} a more) h r d c q = steady_applies e w more h r (d (mono_in w mono)) (c (mono_in w mono)) (q (mono_in w mono))
