-- The instances of a canonical program have flat bodies: each call of a body names a key that is known, or an
-- instance that is there already.
use Rattle.std.proofs.Common.{◌≡◌, ℕ, zero, suc, List, [], ◌∷◌, ◌++◌, length, map, flat_map, reverse, Some, None, slice_get, refl, ap}
use Rattle.std.proofs.Common.{subst}
use Rattle.htt_syntax.specs.Trees.{MonoTree, TermTree, CompTree, StepTree, t_app, t_inst}
use Rattle.theory_canonical.specs.Skeletons.{Skeleton, sk_o, sk_c, skeleton}
use Rattle.theory_canonical.specs.Contexts.{Standing, as_term, Heads, HasSkeleton, first_head, later_head}
use Rattle.theory_canonical.specs.Canonical.{IsNeutral, IsCanonicalComp, IsCanonicalStep, e_var, e_val, e_made, e_fix, e_app, e_inst, n_ret, n_step}
use Rattle.theory_canonical.specs.Canonical.{n_run, n_alloc, n_get, n_set, n_free, n_if}
use Rattle.theory_instances.specs.Calls.{Program, Argument, Site, head_of, arguments_of, head_ty, bound_mono, sites_of, sites_of_step}
use Rattle.theory_instances.specs.Keys.{Key, key_of_site, keys_of_head, keys_of_site}
use Rattle.theory_instances.specs.Lists.{IsKnownAs, Meets, meets_none, meets_known, meets_new, Taken, TakesAll, takes_end, takes_next, HasInstances}
use Rattle.theory_instances_denoted.specs.Arguments.{CanonicalArguments, arguments_none, arguments_term, arguments_mono}
use Rattle.theory_instances_canonical.specs.Keys.{values_context, heads_with, IsCanonicalProgram}
use Rattle.theory_instances_canonical.proofs.Contexts.{stands_is}
use Rattle.theory_instances_canonical.proofs.More.{taken_more, comp_more}
use Rattle.theory_instances_canonical.proofs.Sites.{spine_of, EachSite}
use Rattle.theory_instances_canonical.proofs.Values.{term_skeleton}
use Rattle.theory_instances_canonical.proofs.Taken.{canonical}
use Rattle.theory_flat.specs.Flat.{FlatTree, FlatStepTree, flat_ret, flat_step, flat_call, flat_alloc, flat_get, flat_set, flat_free, flat_if, Instance}
use Rattle.theory_flat.specs.Flat.{Names, names_key, names_made, Flattens, flattens_ret, flattens_step, FlattensStep, flattens_run, flattens_alloc}
use Rattle.theory_flat.specs.Flat.{flattens_get, flattens_set, flattens_free, flattens_if, AreFlat, flat_none, flat_more}
use Rattle.theory_extraction_total.proofs.Lists.{met_stays}

none_or_some : {A : Type 0} {x : A} → None ≡ Some x → ⊥
none_or_some q = cc

-- a key of a list, but for bytes
abbrev IsKnown : List Key → Key → Type 0
IsKnown final key = (number : ℕ) × IsKnownAs final number key

data EachKnown (final : List Key) : List Key → Type 0 where
  none_known : EachKnown final []
  more_known : {key : Key} {others : List Key} → IsKnown final key → EachKnown final others → EachKnown final (key ∷ others)

first_known : (final xs ys : List Key) → EachKnown final (xs ++ ys) → EachKnown final xs
first_known final [] ys e = none_known
first_known final (x ∷ xs) ys (more_known k e) = more_known k (first_known final xs ys e)

last_known : (final xs ys : List Key) → EachKnown final (xs ++ ys) → EachKnown final ys
last_known final [] ys e = e
last_known final (x ∷ xs) ys (more_known k e) = last_known final xs ys e

one_known : {final : List Key} {key : Key} → EachKnown final (key ∷ []) → IsKnown final key
one_known (more_known k e) = k

stays_all : {p : Program} {keys final : List Key} {number : ℕ} {rows : List Taken}
    → TakesAll p keys number rows final
    → (n : ℕ) (k : Key)
    → slice_get keys n ≡ Some k
    → slice_get final n ≡ Some k
stays_all (takes_end r) n k q = q
stays_all (takes_next r u m rest) n k q = stays_all rest n k (met_stays m n k q)

at_end : (keys : List Key) (key : Key) → slice_get (keys ++ key ∷ []) (length keys) ≡ Some key
at_end [] key = refl
at_end (x ∷ keys) key = at_end keys key

-- the keys that are met are known at the end
met_are_known : (final : List Key) {keys met after : List Key}
    → Meets keys met after
    → ((n : ℕ) (k : Key) → slice_get after n ≡ Some k → slice_get final n ≡ Some k)
    → EachKnown final met
met_are_known final meets_none f = none_known
met_are_known final (meets_known number k m) f =
    more_known (number, record { known = k.known; at = f number k.known (met_stays m number k.known k.at); same = k.same }) (met_are_known final m f)
met_are_known final {keys = keys} (meets_new {key = key} new room m) f =
    more_known
    (length keys, record { known = key; at = f (length keys) key (met_stays m (length keys) key (at_end keys key)); same = refl })
    (met_are_known final m f)

-- call by call
site_first : (P : Site → Type 0) (xs ys : List Site) → EachSite P (xs ++ ys) → EachSite P xs
site_first P [] ys e = tt
site_first P (x ∷ xs) ys e = (e.0, site_first P xs ys (e.1))

site_last : (P : Site → Type 0) (xs ys : List Site) → EachSite P (xs ++ ys) → EachSite P ys
site_last P [] ys e = e
site_last P (x ∷ xs) ys e = site_last P xs ys (e.1)

abbrev KnownThere : Program → List Key → Site → Type 0
KnownThere p final site = EachKnown final (keys_of_site p site)

sites_known : (p : Program) (final : List Key) (sites : List Site)
    → EachKnown final (flat_map (keys_of_site p) sites)
    → EachSite (KnownThere p final) sites
sites_known p final [] e = tt
sites_known p final (site ∷ sites) e =
    let rest : List Key = flat_map (keys_of_site p) sites in (
      first_known final (keys_of_site p site) rest e,
      sites_known p final sites (last_known final (keys_of_site p site) rest e),
    )

-- a head isn't applied
abbrev IsHead : TermTree → Type 0
IsHead (t_app function argument) = ⊥
IsHead (t_inst function mono) = ⊥
IsHead term = Unit {0}

is_head : {heads : Heads} {g : List Standing} {term : TermTree} {s : Skeleton} → IsNeutral heads g term s → IsHead (head_of term)
unfolding head_of
is_head (e_var d) = tt
is_head (e_val d) = tt
is_head (e_made d c) = tt
is_head (e_fix d) = tt
is_head (e_app a c) = is_head a
is_head (e_inst a c) = is_head a

-- a variable of a monotype isn't run
not_run : {heads : Heads} {g : List Standing} {s : Skeleton} {arguments : List Argument} → CanonicalArguments heads g s arguments sk_c → s ≡ sk_o → ⊥
not_run arguments_none q = cc
not_run (arguments_term d more) q = cc
not_run (arguments_mono d more) q = cc

made_there : (p : Program) (keys : List Key) (n : ℕ) (s : Skeleton)
    → HasSkeleton (map (λ (k : Key). skeleton (head_ty p k.head)) keys) n s
    → (key : Key) × (slice_get keys n ≡ Some key)
made_there p [] n s d = elim d [ ]
made_there p (key ∷ keys) zero s first_head = (key, refl)
made_there p (key ∷ keys) (suc n) s (later_head d) = made_there p keys n s d

module _ (p : Program) (final : List Key) where
  abbrev HasName : Site → Type 0
  HasName site = (number : ℕ) × (params : List TermTree) × Names p final site number params

  by_key : (site : Site) → keys_of_site p site ≡ key_of_site p site ∷ [] → KnownThere p final site → HasName site
  by_key site q e = let k = one_known (subst (EachKnown final) q e) in (k.0, _, names_key q (k.1))

  by_head : (site : Site) (k : ℕ) (head : TermTree) {whole : Skeleton}
      → IsNeutral (heads_with p final) (values_context k) head whole
      → head_of site.call ≡ head
      → IsHead head
      → CanonicalArguments (heads_with p final) (values_context k) whole (arguments_of site.call) sk_c
      → KnownThere p final site
      → HasName site
  by_head site k head (e_val d) q i a e = by_key site (ap (λ h. keys_of_head h (key_of_site p site)) q) e
  by_head site k head (e_fix d) q i a e = by_key site (ap (λ h. keys_of_head h (key_of_site p site)) q) e
  by_head site k head {whole = whole} (e_made {number = number} d c) q i a e =
      let r = made_there p final number whole d in (number, _, names_made q (r.1))
  by_head site k head {whole = whole} (e_var {index = index} d) q i a e =
      absurd (not_run a (term_skeleton ((stands_is k index (as_term whole) d).0)))
  by_head site k head (e_app a' c) q i a e = absurd i
  by_head site k head (e_inst a' c) q i a e = absurd i

  named : (site : Site) (k : ℕ) → IsNeutral (heads_with p final) (values_context k) site.call sk_c → KnownThere p final site → HasName site
  named site k n e = let spine = spine_of n in by_head site k (head_of site.call) spine.head refl (is_head n) spine.arguments e

  mutual
    unfolding sites_of

    flattened : {comp : CompTree} {context : List Standing} (k : ℕ) (g : List MonoTree)
        → IsCanonicalComp (heads_with p final) context comp
        → context ≡ values_context k
        → EachSite (KnownThere p final) (sites_of g comp)
        → (flat : FlatTree) × Flattens p final g comp flat
    flattened k g (n_ret {term = term} c) q e = (flat_ret term, flattens_ret)
    flattened k g (n_step {step = step} {others = others} a b) q e =
        let here = sites_of_step g step in
        let later = sites_of (bound_mono step ∷ g) others in
        let first = step_flattened k g a q (site_first (KnownThere p final) here later e) in
        let rest = flattened (suc k) (bound_mono step ∷ g) b (λ j. as_term sk_o ∷ q j) (site_last (KnownThere p final) here later e) in
        (flat_step (first.0) (rest.0), flattens_step (first.1) (rest.1))

    step_flattened : {step : StepTree} {context : List Standing} (k : ℕ) (g : List MonoTree)
        → IsCanonicalStep (heads_with p final) context step
        → context ≡ values_context k
        → EachSite (KnownThere p final) (sites_of_step g step)
        → (flat : FlatStepTree) × FlattensStep p final g step flat
    step_flattened k g (n_run {term = term} a t) q e =
        let site : Site = record { call = term; context = g } in
        let r = named site k (subst (λ (c : List Standing). IsNeutral (heads_with p final) c term sk_c) q a) (e.0) in
        (flat_call (r.0) (r.1), flattens_run (r.2))
    step_flattened k g (n_alloc {mono = mono} {value = value} t a) q e = (flat_alloc mono value, flattens_alloc)
    step_flattened k g (n_get {mono = mono} {place = place} t a) q e = (flat_get mono place, flattens_get)
    step_flattened k g (n_set {mono = mono} {place = place} {value = value} t a b) q e = (flat_set mono place value, flattens_set)
    step_flattened k g (n_free {mono = mono} {place = place} t a) q e = (flat_free mono place, flattens_free)
    step_flattened k g (n_if {mono = mono} {test = test} {on_true = on_true} {on_false = on_false} t a b c) q e =
        let x = flattened k g b q (site_first (KnownThere p final) (sites_of g on_true) (sites_of g on_false) e) in
        let y = flattened k g c q (site_last (KnownThere p final) (sites_of g on_true) (sites_of g on_false) e) in
        (flat_if mono test (x.0) (y.0), flattens_if (x.1) (y.1))

  abbrev CanonicalBodies : List Taken → Type 0
  CanonicalBodies rows =
      (n : ℕ) (taken : Taken)
      → slice_get rows n ≡ Some taken
      → (m : ℕ) × IsCanonicalComp (heads_with p final) (values_context m) taken.body

  all_flattened : {keys : List Key} {number : ℕ} {rows : List Taken}
      → TakesAll p keys number rows final
      → CanonicalBodies rows
      → (instances : List Instance) × AreFlat p final rows instances
  all_flattened (takes_end q) bodies = ([], flat_none)
  all_flattened (takes_next {taken = taken} here u m rest) bodies =
      let known = met_are_known final m (λ n k q. stays_all rest n k q) in
      let body = bodies zero taken refl in
      let flat = flattened (body.0) taken.params (body.1) refl (sites_known p final (sites_of taken.params taken.body) known) in
      let more = all_flattened rest (λ n t q. bodies (suc n) t q) in
      let instance : Instance = record { params = reverse taken.params; result = taken.result; body = flat.0 } in
      (instance ∷ more.0, flat_more (record { params = refl; result = refl; body = flat.1 }) (more.1))

pub flat_bodies : (p : Program) (taken : List Taken) (keys : List Key)
    → IsCanonicalProgram p
    → HasInstances p taken keys
    → (instances : List Instance) × AreFlat p keys taken instances
flat_bodies p taken keys program h =
    all_flattened p keys h.all
    (λ n t q. let c = canonical.bodies p taken keys program h n t q in (c.0, comp_more (taken_more p (suc n) keys) (c.1)))
