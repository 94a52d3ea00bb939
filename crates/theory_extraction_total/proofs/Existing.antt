-- The body of an instance with a canonical key exists: substitution in canonical trees gives a tree.
use Rattle.std.proofs.Common.{◌≡◌, ℕ, zero, ◌+◌, List, [], ◌∷◌, ◌++◌, length, refl, sym, subst, arith}
use Rattle.htt_syntax.specs.Trees.{TermTree, FixTree, CompTree, t_lam_t, t_fix, t_do}
use Rattle.theory_renaming.specs.Renaming.{rename_fix}
use Rattle.theory_canonical.specs.Skeletons.{Skeleton, sk_c, sk_all, skeleton}
use Rattle.theory_canonical.specs.Eta.{eta}
use Rattle.theory_canonical.specs.Contexts.{Standing, as_mono, Heads, HasSkeleton, KeepsStandings}
use Rattle.theory_canonical.specs.Canonical.{IsCanonical, IsNeutral, IsCanonicalFix, n_lam_t, n_do, e_made}
use Rattle.theory_canonical.proofs.Renamed as renamed
use Rattle.theory_canonical.proofs.Expanded.{expanded_canonical}
use Rattle.theory_substitution.specs.Monotypes.{put_mono_term}
use Rattle.theory_substitution_total.specs.Insertion.{ins_here}
use Rattle.theory_substitution_total.proofs.Filled.{term_filled}
use Rattle.theory_substitution_total.proofs.Places.{put_fills}
use Rattle.theory_substitution_total.proofs.Total.{applied_canonical}
use Rattle.theory_items.proofs.MoreHeads.{term_more}
use Rattle.theory_instances.specs.Calls.{Program, Argument, of_term, of_mono, passed_count, fix_ty}
use Rattle.theory_instances.specs.Keys.{Key}
use Rattle.theory_instances.specs.Bodies.{Puts, puts_none, puts_term, puts_mono, opened_fix, opened_skeleton, past_passed, arguments_within, made_of, HasBody}
use Rattle.theory_instances.specs.Bodies.{body_of_val, body_of_fix}
use Rattle.theory_instances_denoted.specs.Arguments.{CanonicalArguments, arguments_none, arguments_term, arguments_mono}
use Rattle.theory_instances_denoted.proofs.Put.{opened_canonical, opened_arguments, fix_ty_canonical, fix_ty_skeleton}
use Rattle.theory_instances_canonical.specs.Keys.{values_context, heads_with, IsCanonicalProgram, CanonicalFixed, IsCanonicalKey, canonical_val}
use Rattle.theory_instances_canonical.specs.Keys.{canonical_fix}
use Rattle.theory_instances_canonical.proofs.Contexts.{closed_within}
use Rattle.theory_instances_canonical.proofs.More.{first_more, val_canonical}
use Rattle.theory_instances_canonical.proofs.Sites.{fixed_renamed}
use Rattle.theory_instances_canonical.proofs.Bodies.{all_canonical, captured_canonical, past_keeps}

-- what is left of a canonical function that is given canonical arguments
record Left (heads : Heads) (g : List Standing) (function : TermTree) (s : Skeleton) (arguments : List Argument) (t : Skeleton) : Type 0 where
  results : List TermTree
  last : TermTree
  puts : Puts function s arguments results last
  canonical : IsCanonical heads g last t

lambda_of : {heads : Heads} {g : List Standing} {term : TermTree} {s : Skeleton}
    → IsCanonical heads g term (sk_all s)
    → (body : TermTree) × (term ≡ t_lam_t body) × IsCanonical heads (as_mono ∷ g) body s
lambda_of (n_lam_t {body = body} c) = (body, refl, c)

given : {heads : Heads} {g : List Standing} {s t : Skeleton} {arguments : List Argument}
    → CanonicalArguments heads g s arguments t
    → (function : TermTree)
    → IsCanonical heads g function s
    → Left heads g function s arguments t
given arguments_none function c = record { results = []; last = function; puts = puts_none; canonical = c }
given (arguments_term d more) function c =
    let r = applied_canonical c d in
    let rest = given more (r.0) (r.2) in
    record { results = r.0 ∷ rest.results; last = rest.last; puts = puts_term (r.1) rest.puts; canonical = rest.canonical }
given {heads = heads} {g = g} (arguments_mono {s = s} {mono = mono} {others = others} d more) function c =
    let l = lambda_of c in
    let rest = given more (put_mono_term mono zero (l.0)) (term_filled (l.2) (put_fills ins_here d)) in
    record {
      results = put_mono_term mono zero (l.0) ∷ rest.results;
      last = rest.last;
      puts = subst (λ (f : TermTree). Puts f (sk_all s) (of_mono mono ∷ others) (put_mono_term mono zero (l.0) ∷ rest.results) rest.last) (sym (l.1))
          (puts_mono rest.puts);
      canonical = rest.canonical;
    }

is_do : {heads : Heads} {g : List Standing} {term : TermTree} → IsCanonical heads g term sk_c → (comp : CompTree) × (term ≡ t_do comp)
is_do (n_do {comp = comp} c) = (comp, refl)

pub record Bodied (p : Program) (number : ℕ) (key : Key) : Type 0 where
  pub results : List TermTree
  pub body : CompTree
  pub has : HasBody p number key results body

unmoved : (g : List Standing) → KeepsStandings (λ n. n) g g
unmoved g = record { at = λ n entry d. d }

fix_bodied : {heads : Heads} {p : Program} (number m at : ℕ) (key : Key) {fix : FixTree} {s : Skeleton}
    → key.head ≡ t_fix at fix
    → HasSkeleton heads.made number s
    → IsCanonicalFix heads (values_context m) s fix s
    → CanonicalFixed heads (values_context m) s key.fixed
    → Bodied p number key
fix_bodied {heads = heads} number m at key {fix = fix} {s = s} q there c fixed =
    let z : Skeleton = skeleton (fix_ty fix) in
    let own : FixTree = rename_fix (past_passed z) fix in
    let u : Skeleton = skeleton (fix_ty own) in
    let captured : ℕ = length key.captured in
    let k : ℕ = m + passed_count z + passed_count u + captured in
    let g : List Standing = values_context k in
    let own_canonical = renamed.fix_renamed c (past_keeps (passed_count z) m k (omega arith)) in
    let same : u ≡ s = fix_ty_skeleton own_canonical in
    let own_at : IsCanonicalFix heads g u own u = subst (λ (x : Skeleton). IsCanonicalFix heads g x own x) (sym same) own_canonical in
    let fixed_at : CanonicalFixed heads (values_context m) u key.fixed =
    subst (λ (x : Skeleton). CanonicalFixed heads (values_context m) x key.fixed) (sym same) fixed in
    let made : IsNeutral heads g (made_of number u key) u =
    e_made (subst (HasSkeleton heads.made number) (sym same) there) (captured_canonical k (passed_count u) captured (omega arith)) in
    let itself : IsCanonical heads g (eta (made_of number u key) (fix_ty own)) u =
    expanded_canonical (made_of number u key) (fix_ty_canonical own_at) (unmoved g) made in
    let arguments = opened_arguments own_at
    (all_canonical k (fixed_renamed (past_passed u) fixed_at (past_keeps (passed_count u) m k (omega arith))) (omega arith)) itself in
    let left = given arguments (opened_fix own) (opened_canonical own_at) in
    let d = is_do left.canonical in
    record {
      results = left.results;
      body = d.0;
      has = body_of_fix q refl (subst (λ (t : TermTree). Puts (opened_fix own) (opened_skeleton u own)
          (arguments_within u key ++ of_term (eta (made_of number u key) (fix_ty own)) ∷ []) left.results t) (d.1) left.puts);
    }

pub bodied : {p : Program} (all : List Key) (number : ℕ) (key : Key)
    → IsCanonicalProgram p
    → ((s : Skeleton) (at : ℕ) (fix : FixTree) → key.head ≡ t_fix at fix → skeleton (fix_ty fix) ≡ s → HasSkeleton (heads_with p all).made number s)
    → IsCanonicalKey (heads_with p all) p key
    → Bodied p number key
bodied {p = p} all number key program there (canonical_val m {n = n} {v = v} q found fixed) =
    let s : Skeleton = skeleton v.ty in
    let k : ℕ = m + passed_count s in
    let arguments = all_canonical k (fixed_renamed (past_passed s) fixed (past_keeps (passed_count s) m k (omega arith))) (omega arith) in
    let left = given arguments v.term (closed_within (values_context k) (term_more (first_more p all) (val_canonical p program n v found))) in
    let d = is_do left.canonical in
    record {
      results = left.results;
      body = d.0;
      has = body_of_val q found (subst (λ (t : TermTree). Puts v.term s (arguments_within s key) left.results t) (d.1) left.puts);
    }
bodied all number key program there (canonical_fix m {at = at} {fix = fix} {s = s} q c fixed) =
    fix_bodied number m at key q (there s at fix q (fix_ty_skeleton c)) c fixed
