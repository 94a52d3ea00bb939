-- The body of an instance with a canonical key is canonical.
use Rattle.std.proofs.Common.{◌≡◌, ◌<◌, ◌≤◌, ℕ, zero, suc, ◌+◌, List, [], ◌∷◌, ◌++◌, length, map, slice_get, refl, sym, ap, ◌∙◌, subst, arith}
use Rattle.std.proofs.lemmas.Option.{same_Some}
use Rattle.htt_syntax.specs.Trees.{TermTree, FixTree, CompTree, t_var, t_val, t_fix, t_do}
use Rattle.theory_renaming.specs.Renaming.{lifts, shifting, rename_term, rename_fix}
use Rattle.theory_canonical.specs.Skeletons.{Skeleton, sk_o, sk_c, sk_arrow, sk_all, skeleton}
use Rattle.theory_canonical.specs.Eta.{eta}
use Rattle.theory_canonical.specs.Contexts.{Standing, Heads, HasSkeleton, KeepsStandings}
use Rattle.theory_canonical.specs.Canonical.{IsCanonical, IsNeutral, IsCanonicalTerms, IsCanonicalFix, IsCanonicalComp, n_neutral, e_var, e_made, n_no_terms}
use Rattle.theory_canonical.specs.Canonical.{n_more_terms}
use Rattle.theory_canonical.proofs.Renamed as renamed
use Rattle.theory_canonical.proofs.Expanded.{expanded_canonical}
use Rattle.theory_substitution_total.specs.Insertion.{ins_here}
use Rattle.theory_substitution_total.proofs.Filled.{term_filled}
use Rattle.theory_substitution_total.proofs.Places.{put_fills}
use Rattle.theory_substitution_total.proofs.Results.{app_result}
use Rattle.theory_denotation_substitution.proofs.Results.{family_body, do_comp}
use Rattle.theory_items.proofs.MoreHeads.{term_more}
use Rattle.theory_instances.specs.Calls.{ProgramVal, Program, Argument, of_term, passed_count, all_arguments, fix_ty, terms_from}
use Rattle.theory_instances.specs.Calls.{variables}
use Rattle.theory_instances.specs.Keys.{Key}
use Rattle.theory_instances.specs.Bodies.{Puts, puts_none, puts_term, puts_mono, opened_fix, opened_skeleton, past_passed, arguments_within, made_of, HasBody}
use Rattle.theory_instances.specs.Bodies.{body_of_val, body_of_fix}
use Rattle.theory_instances_passing.specs.Pinned.{IsFixed}
use Rattle.theory_instances_denoted.specs.Arguments.{CanonicalArguments, arguments_none, arguments_term, arguments_mono}
use Rattle.theory_instances_denoted.proofs.Put.{opened_canonical, opened_arguments, fix_ty_canonical, fix_ty_skeleton}
use Rattle.theory_instances_canonical.specs.Keys.{values_context, heads_with, IsCanonicalProgram, CanonicalFixed, fixed_end, fixed_value, fixed_term}
use Rattle.theory_instances_canonical.specs.Keys.{fixed_mono, IsCanonicalKey, canonical_val, canonical_fix}
use Rattle.theory_instances_canonical.proofs.Contexts.{stands_there, keeps_values, closed_within}
use Rattle.theory_instances_canonical.proofs.More.{first_more, val_canonical}
use Rattle.theory_instances_canonical.proofs.Sites.{fixed_renamed}

put_canonical : {heads : Heads} {g : List Standing} {function last : TermTree} {s t : Skeleton} {arguments : List Argument} {results : List TermTree}
    → Puts function s arguments results last
    → IsCanonical heads g function s
    → CanonicalArguments heads g s arguments t
    → IsCanonical heads g last t
put_canonical puts_none c arguments_none = c
put_canonical (puts_term a rest) c (arguments_term d more) = put_canonical rest (app_result c d a) more
put_canonical (puts_mono rest) c (arguments_mono d more) = put_canonical rest (term_filled (family_body c) (put_fills ins_here d)) more

variable_canonical : {heads : Heads} (m n : ℕ) → n < m → IsCanonical heads (values_context m) (t_var n) sk_o
variable_canonical m n l = n_neutral (e_var (stands_there m n l))

-- all arguments, those that are passed being variables
fixed_first : {heads : Heads} (m : ℕ) (s t : Skeleton) (fixed : List Argument) {term : TermTree}
    → IsFixed s
    → IsCanonical heads (values_context m) term s
    → CanonicalArguments heads (values_context m) t (all_arguments t fixed (variables (passed_count t))) sk_c
    → CanonicalArguments heads (values_context m) (sk_arrow s t)
    (all_arguments (sk_arrow s t) (of_term term ∷ fixed) (variables (passed_count (sk_arrow s t)))) sk_c
fixed_first m sk_o t fixed i c more = absurd i
fixed_first m sk_c t fixed i c more = arguments_term c more
fixed_first m (sk_arrow r s) t fixed i c more = arguments_term c more
fixed_first m (sk_all s) t fixed i c more = arguments_term c more

fixed_count : (s t : Skeleton) → IsFixed s → passed_count (sk_arrow s t) ≡ passed_count t
fixed_count sk_o t i = absurd i
fixed_count sk_c t i = refl
fixed_count (sk_arrow r s) t i = refl
fixed_count (sk_all s) t i = refl

pub all_canonical : {heads : Heads} (m : ℕ) {s : Skeleton} {fixed : List Argument}
    → CanonicalFixed heads (values_context m) s fixed
    → passed_count s ≤ m
    → CanonicalArguments heads (values_context m) s (all_arguments s fixed (variables (passed_count s))) sk_c
all_canonical m fixed_end l = arguments_none
all_canonical m (fixed_value {t = t} f) l = arguments_term (variable_canonical m (passed_count t) (omega (arith, l))) (all_canonical m f (omega (arith, l)))
all_canonical m (fixed_term {s = s} {t = t} {fixed = fixed} i c f) l =
    let q = fixed_count s t i in fixed_first m s t fixed i c (all_canonical m f (omega (arith, l, q)))
all_canonical m (fixed_mono c f) l = arguments_mono c (all_canonical m f l)

pub captured_canonical : {heads : Heads} (m r k : ℕ)
    → k + r ≤ m
    → IsCanonicalTerms heads (values_context m) (terms_from (map (rename_term (shifting zero r)) (variables k)))
unfolding rename_term lifts
captured_canonical m r zero l = n_no_terms
captured_canonical m r (suc k) l = n_more_terms (variable_canonical m (k + r) (omega (arith, l))) (captured_canonical m r k (omega (arith, l)))

pub past_keeps : (r m k : ℕ) → m + r ≤ k → KeepsStandings (shifting zero r) (values_context m) (values_context k)
unfolding lifts
past_keeps r m k l = keeps_values (shifting zero r) m k (λ n q. omega (arith, l, q))

same_fix : {a b : ℕ} {f g : FixTree} → t_fix a f ≡ t_fix b g → f ≡ g
same_fix q = cc

same_val : {n m : ℕ} → t_val n ≡ t_val m → n ≡ m
same_val q = cc

no_fix : {n a : ℕ} {f : FixTree} → t_val n ≡ t_fix a f → ⊥
no_fix q = cc

unmoved : (g : List Standing) → KeepsStandings (λ n. n) g g
unmoved g = record { at = λ n entry d. d }

-- a recursive function, opened and given its arguments
fix_canonical : {heads : Heads} {number : ℕ} (m : ℕ) (key : Key) {fix : FixTree} {s : Skeleton} {results : List TermTree} {comp : CompTree}
    → HasSkeleton heads.made number s
    → IsCanonicalFix heads (values_context m) s fix s
    → CanonicalFixed heads (values_context m) s key.fixed
    → Puts (opened_fix (rename_fix (past_passed s) fix)) (opened_skeleton s (rename_fix (past_passed s) fix))
    (arguments_within s key ++ of_term (eta (made_of number s key) (fix_ty (rename_fix (past_passed s) fix))) ∷ []) results (t_do comp)
    → IsCanonicalComp heads (values_context (m + passed_count s + length key.captured)) comp
fix_canonical {heads = heads} {number = number} m key {fix = fix} {s = s} there c fixed puts =
    let k = m + passed_count s + length key.captured in
    let keeps = past_keeps (passed_count s) m k (omega arith) in
    let own = renamed.fix_renamed c keeps in
    let made : IsNeutral heads (values_context k) (made_of number s key) s =
    e_made there (captured_canonical k (passed_count s) (length key.captured) (omega arith)) in
    let q = fix_ty_skeleton own in
    let last : IsCanonical heads (values_context k) (eta (made_of number s key) (fix_ty (rename_fix (past_passed s) fix))) s =
    subst (IsCanonical heads (values_context k) (eta (made_of number s key) (fix_ty (rename_fix (past_passed s) fix)))) q
    (expanded_canonical (made_of number s key) (fix_ty_canonical own) (unmoved (values_context k))
    (subst (IsNeutral heads (values_context k) (made_of number s key)) (sym q) made)) in
    do_comp (put_canonical puts (opened_canonical own)
    (opened_arguments own (all_canonical k (fixed_renamed (past_passed s) fixed keeps) (omega arith)) last))

pub body_canonical : {p : Program} (all : List Key) {number : ℕ} {key : Key} {results : List TermTree} {comp : CompTree}
    → IsCanonicalProgram p
    → ((s : Skeleton) (at : ℕ) (fix : FixTree) → key.head ≡ t_fix at fix → skeleton (fix_ty fix) ≡ s → HasSkeleton (heads_with p all).made number s)
    → IsCanonicalKey (heads_with p all) p key
    → HasBody p number key results comp
    → (k : ℕ) × IsCanonicalComp (heads_with p all) (values_context k) comp
body_canonical {p = p} all {key = key} {results = results} {comp = comp} program there (canonical_val m {n = n} {v = v} q found fixed)
    (body_of_val {n = i} {v = u} r here puts) =
    let same : u ≡ v = same_Some u v (sym here ∙ ap (λ j. slice_get p.vals j) (same_val (sym r ∙ q)) ∙ found) in
    let s = skeleton v.ty in
    let k = m + passed_count s in
    let keeps = past_keeps (passed_count s) m k (omega arith) in (
      k,
      do_comp (put_canonical (subst (λ (x : ProgramVal). Puts x.term (skeleton x.ty) (arguments_within (skeleton x.ty) key) results (t_do comp)) same puts)
          (closed_within (values_context k) (term_more (first_more p all) (val_canonical p program n v found)))
          (all_canonical k (fixed_renamed (past_passed s) fixed keeps) (omega arith))),
    )
body_canonical all {number = number} {key = key} {results = results} {comp = comp} program there
    (canonical_fix m {at = at} {fix = fix} {s = s} q c fixed) (body_of_fix {fix = other} {own = own} r is_own puts) =
    let same : own ≡ rename_fix (past_passed s) fix =
    is_own ∙ ap (λ (f : FixTree). rename_fix (past_passed (skeleton (fix_ty f))) f) (same_fix (sym r ∙ q))
    ∙ ap (λ (u : Skeleton). rename_fix (past_passed u) fix) (fix_ty_skeleton c) in
    let keeps = past_keeps (passed_count s) m (m + passed_count s + length key.captured) (omega arith) in
    let own_skeleton : skeleton (fix_ty (rename_fix (past_passed s) fix)) ≡ s = fix_ty_skeleton (renamed.fix_renamed c keeps) in (
      m + passed_count s + length key.captured,
      fix_canonical m key (there s at fix q (fix_ty_skeleton c)) c fixed
          (subst (λ (u : Skeleton).
          Puts (opened_fix (rename_fix (past_passed s) fix)) (opened_skeleton u (rename_fix (past_passed s) fix))
          (arguments_within u key ++ of_term (eta (made_of number u key) (fix_ty (rename_fix (past_passed s) fix))) ∷ []) results (t_do comp)) own_skeleton
          (subst (λ (o : FixTree).
          Puts (opened_fix o) (opened_skeleton (skeleton (fix_ty o)) o)
          (arguments_within (skeleton (fix_ty o)) key ++ of_term (eta (made_of number (skeleton (fix_ty o)) key) (fix_ty o)) ∷ []) results
          (t_do comp)) same puts)),
    )
body_canonical all program there (canonical_val m q found fixed) (body_of_fix r is_own puts) = absurd (no_fix (sym q ∙ r))
body_canonical all program there (canonical_fix m q c fixed) (body_of_val r here puts) = absurd (no_fix (sym r ∙ q))
