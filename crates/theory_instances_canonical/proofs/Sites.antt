-- The calls of a canonical computation, and the keys of these.
use Rattle.std.proofs.Common.{◌≡◌, ℕ, zero, suc, ◌+◌, List, [], ◌∷◌, ◌++◌, length, map, flat_map, Some, slice_get, refl, sym, ap, ◌∙◌, subst}
use Rattle.htt_syntax.specs.Trees.{MonoTree, TermTree, CompTree, StepTree}
use Rattle.theory_renaming.specs.Renaming.{Map, rename_term}
use Rattle.theory_canonical.specs.Skeletons.{Skeleton, sk_o, sk_c, sk_arrow, sk_all, skeleton}
use Rattle.theory_canonical.specs.Contexts.{Standing, as_term, Heads, HasSkeleton, first_head, later_head, KeepsStandings}
use Rattle.theory_canonical.specs.Canonical.{IsCanonical, IsNeutral, IsCanonicalMono, IsCanonicalComp, IsCanonicalStep, e_var, e_val, e_made}
use Rattle.theory_canonical.specs.Canonical.{e_fix, e_app, e_inst, n_ret, n_step, n_run, n_alloc, n_get}
use Rattle.theory_canonical.specs.Canonical.{n_set, n_free, n_if}
use Rattle.theory_canonical.proofs.Renamed as renamed
use Rattle.theory_instances.specs.Calls.{ProgramVal, Program, Argument, of_term, of_mono, rename_argument, head_of, arguments_of, fixed_of, ty_of_val}
use Rattle.theory_instances.specs.Calls.{head_ty, bound_mono, Site, sites_of, sites_of_step}
use Rattle.theory_instances.specs.Keys.{Key, captured_of, number_in, key_of_site, keys_of_head, keys_of_site}
use Rattle.theory_instances_denoted.specs.Arguments.{CanonicalArguments, arguments_none, arguments_term, arguments_mono}
use Rattle.theory_instances_denoted.proofs.Put.{fix_ty_skeleton}
use Rattle.theory_instances_canonical.specs.Keys.{values_context, heads_with, CanonicalFixed, fixed_end, fixed_value, fixed_term, fixed_mono, IsCanonicalKey}
use Rattle.theory_instances_canonical.specs.Keys.{canonical_val, canonical_fix}
use Rattle.theory_instances_canonical.proofs.Contexts.{keeps_values, number_within}

-- one more argument, last
then_term : {heads : Heads} {g : List Standing} {r s t : Skeleton} {arguments : List Argument} {term : TermTree}
    → CanonicalArguments heads g r arguments (sk_arrow s t)
    → IsCanonical heads g term s
    → CanonicalArguments heads g r (arguments ++ of_term term ∷ []) t
then_term arguments_none c = arguments_term c arguments_none
then_term (arguments_term a more) c = arguments_term a (then_term more c)
then_term (arguments_mono a more) c = arguments_mono a (then_term more c)

then_mono : {heads : Heads} {g : List Standing} {r s : Skeleton} {arguments : List Argument} {mono : MonoTree}
    → CanonicalArguments heads g r arguments (sk_all s)
    → IsCanonicalMono g mono
    → CanonicalArguments heads g r (arguments ++ of_mono mono ∷ []) s
then_mono arguments_none c = arguments_mono c arguments_none
then_mono (arguments_term a more) c = arguments_term a (then_mono more c)
then_mono (arguments_mono a more) c = arguments_mono a (then_mono more c)

-- a neutral term is a head with canonical arguments
pub record Spine (heads : Heads) (g : List Standing) (term : TermTree) (s : Skeleton) : Type 0 where
  pub whole : Skeleton
  pub head : IsNeutral heads g (head_of term) whole
  pub arguments : CanonicalArguments heads g whole (arguments_of term) s

pub spine_of : {heads : Heads} {g : List Standing} {term : TermTree} {s : Skeleton} → IsNeutral heads g term s → Spine heads g term s
unfolding head_of arguments_of
spine_of {s = s} (e_var d) = record { whole = s; head = e_var d; arguments = arguments_none }
spine_of {s = s} (e_val d) = record { whole = s; head = e_val d; arguments = arguments_none }
spine_of {s = s} (e_made d c) = record { whole = s; head = e_made d c; arguments = arguments_none }
spine_of {s = s} (e_fix d) = record { whole = s; head = e_fix d; arguments = arguments_none }
spine_of (e_app a c) = let r = spine_of a in record { whole = r.whole; head = r.head; arguments = then_term r.arguments c }
spine_of (e_inst a c) = let r = spine_of a in record { whole = r.whole; head = r.head; arguments = then_mono r.arguments c }

-- of canonical arguments, those that are fixed
fixed_arrow : {heads : Heads} {g : List Standing} (s t : Skeleton) (others : List Argument) {term : TermTree}
    → IsCanonical heads g term s
    → CanonicalFixed heads g t (fixed_of t others)
    → CanonicalFixed heads g (sk_arrow s t) (fixed_of (sk_arrow s t) (of_term term ∷ others))
fixed_arrow sk_o t others c f = fixed_value f
fixed_arrow sk_c t others c f = fixed_term tt c f
fixed_arrow (sk_arrow r s) t others c f = fixed_term tt c f
fixed_arrow (sk_all s) t others c f = fixed_term tt c f

pub fixed_canonical : {heads : Heads} {g : List Standing} {s : Skeleton} {arguments : List Argument}
    → CanonicalArguments heads g s arguments sk_c
    → CanonicalFixed heads g s (fixed_of s arguments)
fixed_canonical arguments_none = fixed_end
fixed_canonical (arguments_term {s = s} {t = t} {others = others} a more) = fixed_arrow s t others a (fixed_canonical more)
fixed_canonical (arguments_mono a more) = fixed_mono a (fixed_canonical more)

pub fixed_renamed : {heads : Heads} {g h : List Standing} {s : Skeleton} {fixed : List Argument} (m : Map)
    → CanonicalFixed heads g s fixed
    → KeepsStandings m g h
    → CanonicalFixed heads h s (map (rename_argument m) fixed)
fixed_renamed m fixed_end k = fixed_end
fixed_renamed m (fixed_value f) k = fixed_value (fixed_renamed m f k)
fixed_renamed m (fixed_term i c f) k = fixed_term i (renamed.term_renamed c k) (fixed_renamed m f k)
fixed_renamed m (fixed_mono c f) k = fixed_mono (renamed.mono_renamed c k) (fixed_renamed m f k)

-- what holds of each call
abbrev pub EachSite : (Site → Type 0) → List Site → Type 0
EachSite P [] = Unit {0}
EachSite P (site ∷ others) = P site × EachSite P others

each_append : (P : Site → Type 0) (xs ys : List Site) → EachSite P xs → EachSite P ys → EachSite P (xs ++ ys)
each_append P [] ys a b = b
each_append P (x ∷ xs) ys a b = (a.0, each_append P xs ys (a.1) b)

abbrev pub RunsThere : Heads → Site → Type 0
RunsThere heads site = (k : ℕ) × IsNeutral heads (values_context k) site.call sk_c

mutual
  unfolding sites_of

  pub sites_canonical : {heads : Heads} {comp : CompTree} {context : List Standing} (k : ℕ) (g : List MonoTree)
      → IsCanonicalComp heads context comp
      → context ≡ values_context k
      → EachSite (RunsThere heads) (sites_of g comp)
  sites_canonical k g (n_ret c) q = tt
  sites_canonical {heads = heads} k g (n_step {step = step} {others = others} a b) q =
      each_append (RunsThere heads) (sites_of_step g step) (sites_of (bound_mono step ∷ g) others) (step_canonical k g a q)
      (sites_canonical (suc k) (bound_mono step ∷ g) b (λ j. as_term sk_o ∷ q j))

  step_canonical : {heads : Heads} {step : StepTree} {context : List Standing} (k : ℕ) (g : List MonoTree)
      → IsCanonicalStep heads context step
      → context ≡ values_context k
      → EachSite (RunsThere heads) (sites_of_step g step)
  step_canonical {heads = heads} k g (n_run {term = term} a t) q = ((k, subst (λ (c : List Standing). IsNeutral heads c term sk_c) q a), tt)
  step_canonical k g (n_alloc t a) q = tt
  step_canonical k g (n_get t a) q = tt
  step_canonical k g (n_set t a b) q = tt
  step_canonical k g (n_free t a) q = tt
  step_canonical {heads = heads} k g (n_if {on_true = on_true} {on_false = on_false} t a b c) q =
      each_append (RunsThere heads) (sites_of g on_true) (sites_of g on_false) (sites_canonical k g b q) (sites_canonical k g c q)

-- the value of a number is where its skeleton is
pub val_there : (vals : List ProgramVal) (n : ℕ) (s : Skeleton)
    → HasSkeleton (map (λ (v : ProgramVal). skeleton v.ty) vals) n s
    → (v : ProgramVal) × (slice_get vals n ≡ Some v) × (skeleton v.ty ≡ s)
val_there [] n s d = elim d [ ]
val_there (v ∷ vals) zero s first_head = (v, refl, refl)
val_there (v ∷ vals) (suc n) s (later_head d) = val_there vals n s d

abbrev pub EachKeyOf : Heads → Program → List Key → Type 0
EachKeyOf heads p [] = Unit {0}
EachKeyOf heads p (key ∷ others) = IsCanonicalKey heads p key × EachKeyOf heads p others

-- the key of a call whose head is a value or a recursive function
key_canonical : (p : Program) (all : List Key) (k : ℕ) (site : Site) (whole : Skeleton) (term : TermTree)
    → IsNeutral (heads_with p all) (values_context k) term whole
    → head_of site.call ≡ term
    → CanonicalArguments (heads_with p all) (values_context k) whole (arguments_of site.call) sk_c
    → EachKeyOf (heads_with p all) p (keys_of_head term (key_of_site p site))
unfolding rename_term
key_canonical p all k site whole term (e_val {number = n} d) q arguments =
    let r = val_there p.vals n whole d in
    let of_head : Skeleton = skeleton (head_ty p (head_of site.call)) in
    let eq : of_head ≡ whole = ap (λ h. skeleton (head_ty p h)) q ∙ ap (λ o. skeleton (ty_of_val o)) (r.1) ∙ r.2 in
    let captured = captured_of (head_of site.call) (fixed_of of_head (arguments_of site.call)) in
    let keeps = keeps_values (number_in captured) k (length captured + k) (λ i l. number_within captured k i l) in (
      canonical_val (length captured + k) (ap (rename_term (number_in captured)) q) (r.1)
          (subst (λ u.
          CanonicalFixed (heads_with p all) (values_context (length captured + k)) u
          (map (rename_argument (number_in captured)) (fixed_of of_head (arguments_of site.call)))) (eq ∙ sym (r.2))
          (fixed_renamed (number_in captured)
          (subst (λ u. CanonicalFixed (heads_with p all) (values_context k) u (fixed_of u (arguments_of site.call))) (sym eq)
          (fixed_canonical arguments)) keeps)),
      tt,
    )
key_canonical p all k site whole term (e_fix {at = at} {fix = fix} d) q arguments =
    let of_head : Skeleton = skeleton (head_ty p (head_of site.call)) in
    let eq : of_head ≡ whole = ap (λ h. skeleton (head_ty p h)) q ∙ fix_ty_skeleton d in
    let captured = captured_of (head_of site.call) (fixed_of of_head (arguments_of site.call)) in
    let keeps = keeps_values (number_in captured) k (length captured + k) (λ i l. number_within captured k i l) in (
      canonical_fix (length captured + k) (ap (rename_term (number_in captured)) q) (renamed.fix_renamed d keeps)
          (subst (λ u.
          CanonicalFixed (heads_with p all) (values_context (length captured + k)) u
          (map (rename_argument (number_in captured)) (fixed_of of_head (arguments_of site.call)))) eq
          (fixed_renamed (number_in captured)
          (subst (λ u. CanonicalFixed (heads_with p all) (values_context k) u (fixed_of u (arguments_of site.call))) (sym eq)
          (fixed_canonical arguments)) keeps)),
      tt,
    )
key_canonical p all k site whole term (e_made d c) q arguments = tt
key_canonical p all k site whole term (e_var d) q arguments = tt
key_canonical p all k site whole term (e_app a c) q arguments = tt
key_canonical p all k site whole term (e_inst a c) q arguments = tt

keys_append : (heads : Heads) (p : Program) (xs ys : List Key) → EachKeyOf heads p xs → EachKeyOf heads p ys → EachKeyOf heads p (xs ++ ys)
keys_append heads p [] ys a b = b
keys_append heads p (x ∷ xs) ys a b = (a.0, keys_append heads p xs ys (a.1) b)

-- the keys of all calls
pub keys_canonical : (p : Program) (all : List Key) (sites : List Site)
    → EachSite (RunsThere (heads_with p all)) sites
    → EachKeyOf (heads_with p all) p (flat_map (keys_of_site p) sites)
keys_canonical p all [] a = tt
keys_canonical p all (site ∷ sites) a =
    let spine = spine_of ((a.0).1) in
    keys_append (heads_with p all) p (keys_of_site p site) (flat_map (keys_of_site p) sites)
    (key_canonical p all ((a.0).0) site spine.whole (head_of site.call) spine.head refl spine.arguments) (keys_canonical p all sites (a.1))
