-- A function that is given arguments denotes its application to what they denote.
use Rattle.std.proofs.Common.{◌≡◌, List, [], ◌∷◌, ◌++◌, map, refl, sym, ap, ◌∙◌, subst}
use Rattle.htt_syntax.specs.Trees.{TermTree, FixTree, x_param, x_body}
use Rattle.theory_canonical.specs.Skeletons.{Skeleton, sk_c, sk_arrow, skeleton}
use Rattle.theory_canonical.specs.Contexts.{Standing, as_term, Heads}
use Rattle.theory_canonical.specs.Canonical.{IsCanonical, IsCanonicalFix, IsCanonicalTy, n_param, n_body, n_lam, n_do, n_fun, n_hoare}
use Rattle.theory_substitution_total.specs.Insertion.{ins_here}
use Rattle.theory_substitution_total.proofs.Filled.{term_filled}
use Rattle.theory_substitution_total.proofs.Places.{put_fills}
use Rattle.theory_substitution_total.proofs.Results.{app_result}
use Rattle.theory_denotation.specs.Valuations.{den_term, Valuation, HeadEntries}
use Rattle.theory_denotation.specs.Denotation.{term_den, fix_den}
use Rattle.theory_denotation.specs.Valued.{ContextValued, HeadsValued}
use Rattle.theory_denotation_substitution.proofs.Results.{family_body}
use Rattle.theory_denotation_substitution.proofs.Formulas.{application}
use Rattle.theory_instances.specs.Calls.{Argument, of_term, fix_ty}
use Rattle.theory_instances.specs.Bodies.{Puts, puts_none, puts_term, puts_mono, opened_fix, opened_skeleton}
use Rattle.theory_instances_passing.specs.Pinned.{AtEach, GivenArgument, given_term, given, applied_to, Splits, splits_end, splits_value, splits_fixed}
use Rattle.theory_instances_denoted.specs.Arguments.{CanonicalArguments, arguments_none, arguments_term, arguments_mono}

pub put_denotes : {heads : Heads} {e : HeadEntries} {g : List Standing} {w : Valuation} {function last : TermTree} {s t : Skeleton} {arguments : List Argument}
    {results : List TermTree}
    → HeadsValued heads e
    → ContextValued g w
    → Puts function s arguments results last
    → IsCanonical heads g function s
    → CanonicalArguments heads g s arguments t
    → den_term t (term_den e w last t) ≡ applied_to (den_term s (term_den e w function s)) (map (given e w) arguments)
put_denotes h z puts_none c arguments_none = refl
put_denotes {heads = heads} {e = e} {g = g} {w = w} h z
    (puts_term {function = function} {argument = argument} {next = next} {s = s} {t = t} {others = others} a rest) c (arguments_term d more)
    =
    put_denotes h z rest (app_result c d a) more
    ∙ ap (λ x. applied_to (den_term t x) (map (given e w) others)) (application.terms heads e g w h z function argument next s t a c d)
put_denotes {heads = heads} {e = e} {g = g} {w = w} h z (puts_mono {body = body} {mono = mono} {s = s} {others = others} rest) c (arguments_mono d more) =
    put_denotes h z rest (term_filled (family_body c) (put_fills ins_here d)) more
    ∙ ap (λ x. applied_to (den_term s x) (map (given e w) others)) (application.monotypes heads e g w h z body mono s c d)

pub given_append : (e : HeadEntries) (w : Valuation) (xs ys : List Argument) → map (given e w) (xs ++ ys) ≡ map (given e w) xs ++ map (given e w) ys
given_append e w [] ys = refl
given_append e w (x ∷ xs) ys = λ j. given e w x ∷ given_append e w xs ys j

-- a recursive function as a function of itself, last
pub opened_denotes : {heads : Heads} {g : List Standing} {inner s : Skeleton} (e : HeadEntries) (fix : FixTree) (w : Valuation)
    (whole : Skeleton) (x : AtEach) (arguments : List GivenArgument) (set : List AtEach)
    → IsCanonicalFix heads g inner fix s
    → Splits s arguments set
    → applied_to (den_term (opened_skeleton whole fix) (term_den e w (opened_fix fix) (opened_skeleton whole fix)))
    (arguments ++ given_term x ∷ [])
    ≡ applied_to (den_term (skeleton (fix_ty fix)) (fix_den e w (den_term whole (x whole)) fix (skeleton (fix_ty fix)))) arguments
unfolding term_den skeleton fix_ty opened_fix opened_skeleton
opened_denotes e (x_param ty others) w whole x arguments set (n_param b q rest) (splits_value {argument = argument} {arguments = more} {set = set'} split) =
    opened_denotes e others (den_term (skeleton ty) (argument (skeleton ty)) ∷ w) whole x more set' rest split
opened_denotes e (x_param ty others) w whole x arguments set (n_param b q rest) (splits_fixed {argument = argument} {arguments = more} {set = set'} i split) =
    opened_denotes e others (den_term (skeleton ty) (argument (skeleton ty)) ∷ w) whole x more set' rest split
opened_denotes e (x_body spec comp) w whole x arguments set (n_body b c) splits_end = refl

pub opened_canonical : {heads : Heads} {fix : FixTree} {whole s : Skeleton} {g : List Standing}
    → IsCanonicalFix heads g whole fix s
    → IsCanonical heads g (opened_fix fix) (opened_skeleton whole fix)
unfolding opened_fix opened_skeleton
opened_canonical {heads = heads} {whole = whole} {g = g} (n_param {others = others} b q rest) =
    n_lam (subst (λ u. IsCanonical heads (as_term u ∷ g) (opened_fix others) (opened_skeleton whole others)) (sym q) (opened_canonical rest))
opened_canonical (n_body b c) = n_lam (n_do c)

pub opened_arguments : {heads : Heads} {fix : FixTree} {whole s : Skeleton} {g h : List Standing} {arguments : List Argument} {last : TermTree}
    → IsCanonicalFix heads g whole fix s
    → CanonicalArguments heads h s arguments sk_c
    → IsCanonical heads h last whole
    → CanonicalArguments heads h (opened_skeleton whole fix) (arguments ++ of_term last ∷ []) sk_c
unfolding opened_skeleton
opened_arguments {heads = heads} {h = h} (n_param b q rest) (arguments_term {term = term} d more) c =
    arguments_term (subst (IsCanonical heads h term) (sym q) d) (opened_arguments rest more c)
opened_arguments (n_body b d) arguments_none c = arguments_term c arguments_none

pub fix_ty_canonical : {heads : Heads} {fix : FixTree} {whole s : Skeleton} {g : List Standing}
    → IsCanonicalFix heads g whole fix s
    → IsCanonicalTy heads g (fix_ty fix)
unfolding fix_ty
fix_ty_canonical (n_param b q rest) = n_fun b q (fix_ty_canonical rest)
fix_ty_canonical (n_body b c) = n_hoare b

pub fix_ty_skeleton : {heads : Heads} {fix : FixTree} {whole s : Skeleton} {g : List Standing} → IsCanonicalFix heads g whole fix s → skeleton (fix_ty fix) ≡ s
unfolding skeleton fix_ty
fix_ty_skeleton (n_param b q rest) = λ j. sk_arrow (q j) (fix_ty_skeleton rest j)
fix_ty_skeleton (n_body b c) = refl
