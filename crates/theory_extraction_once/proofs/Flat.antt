-- A list of instances has one list of flat bodies.
use Rattle.std.proofs.Common.{◌≡◌, ℕ, List, [], ◌∷◌, ◌++◌, reverse, Some, slice_get, refl, sym, ap, ◌∙◌, subst}
use Rattle.std.proofs.lemmas.Option.{same_Some}
use Rattle.htt_syntax.specs.Trees.{MonoTree, TermTree, CompTree, StepTree, TermTrees, t_made}
use Rattle.theory_canonical.specs.Skeletons.{skeleton}
use Rattle.theory_instances.specs.Calls.{Program, Site, head_of, arguments_of, passed_of, head_ty, list_of}
use Rattle.theory_instances.specs.Keys.{Key, keys_of_head, keys_of_site, key_of_site, plain_key}
use Rattle.theory_instances.specs.Lists.{Taken}
use Rattle.theory_flat.specs.Flat.{FlatTree, FlatStepTree, flat_ret, flat_step, flat_call, flat_if, Instance, Names, names_key, names_made, Flattens}
use Rattle.theory_flat.specs.Flat.{flattens_ret, flattens_step}
use Rattle.theory_flat.specs.Flat.{FlattensStep, flattens_run, flattens_alloc, flattens_get, flattens_set, flattens_free, flattens_if, IsFlat, AreFlat}
use Rattle.theory_flat.specs.Flat.{flat_none, flat_more, HasFlatInstances}
use Rattle.theory_extraction_once.specs.Laws.{InstancesAreOne}
use Rattle.theory_extraction_once.proofs.Lists.{Distinct, lists_once, list_or_not, refusal_once, keys_distinct}

same_first : {key other : Key} {xs ys : List Key} → key ∷ xs ≡ other ∷ ys → key ≡ other
same_first q = cc

no_first : {key : Key} {xs : List Key} → [] ≡ key ∷ xs → ⊥
no_first q = cc

same_number : {n m : ℕ} {vs us : TermTrees} → t_made n vs ≡ t_made m us → n ≡ m
same_number q = cc

same_values : {n m : ℕ} {vs us : TermTrees} → t_made n vs ≡ t_made m us → vs ≡ us
same_values q = cc

made_or_key : (p : Program) (site : Site) {n : ℕ} {vs : TermTrees} {key : Key} → head_of site.call ≡ t_made n vs → keys_of_site p site ≡ key ∷ [] → ⊥
made_or_key p site q r = no_first (sym (ap (λ h. keys_of_head h (key_of_site p site)) q) ∙ r)

module _ {p : Program} {keys : List Key} (distinct : Distinct keys) where
  names_once : {site : Site} {n m : ℕ} {params others : List TermTree} → Names p keys site n params → Names p keys site m others → (n ≡ m) × (params ≡ others)
  names_once {n = n} {m = m} (names_key q k) (names_key r l) =
      (distinct n m k.known l.known k.at l.at (k.same ∙ ap plain_key (same_first (sym q ∙ r)) ∙ sym l.same), refl)
  names_once {site = site} (names_key q k) (names_made r a) = absurd (made_or_key p site r q)
  names_once {site = site} (names_made r a) (names_key q k) = absurd (made_or_key p site r q)
  names_once {site = site} (names_made {key = key} q a) (names_made {key = key'} r b) =
      let number = same_number (sym q ∙ r) in
      let values = same_values (sym q ∙ r) in
      let same = same_Some key key' (sym a ∙ ap (slice_get keys) number ∙ b) in
      (number, λ j. list_of (values j) ++ passed_of (skeleton (head_ty p (same j).head)) (arguments_of site.call))

  mutual
    flat_once : {g : List MonoTree} {comp : CompTree} {flat other : FlatTree} → Flattens p keys g comp flat → Flattens p keys g comp other → flat ≡ other
    flat_once flattens_ret flattens_ret = refl
    flat_once (flattens_step a b) (flattens_step c d) = let x = step_once a c in let y = flat_once b d in λ j. flat_step (x j) (y j)

    step_once : {g : List MonoTree} {step : StepTree} {flat other : FlatStepTree}
        → FlattensStep p keys g step flat
        → FlattensStep p keys g step other
        → flat ≡ other
    step_once (flattens_run a) (flattens_run b) = let x = names_once a b in λ j. flat_call ((x.0) j) ((x.1) j)
    step_once flattens_alloc flattens_alloc = refl
    step_once flattens_get flattens_get = refl
    step_once flattens_set flattens_set = refl
    step_once flattens_free flattens_free = refl
    step_once (flattens_if {mono = mono} {test = test} a b) (flattens_if c d) =
        let x = flat_once a c in let y = flat_once b d in λ j. flat_if mono test (x j) (y j)

  instance_once : {taken : Taken} {instance other : Instance} → IsFlat p keys taken instance → IsFlat p keys taken other → instance ≡ other
  instance_once a b =
      let params = a.params ∙ sym b.params in
      let result = a.result ∙ sym b.result in
      let body = flat_once a.body b.body in
      λ j. record { params = params j; result = result j; body = body j }

  pub rows_once : {rows : List Taken} {instances others : List Instance} → AreFlat p keys rows instances → AreFlat p keys rows others → instances ≡ others
  rows_once flat_none flat_none = refl
  rows_once (flat_more a b) (flat_more c d) = let x = instance_once a c in let y = rows_once b d in λ j. x j ∷ y j

pub flat_instances_once : {p : Program} {instances others : List Instance} → HasFlatInstances p instances → HasFlatInstances p others → instances ≡ others
flat_instances_once {p = p} {others = others} a b =
    let one = lists_once b.has a.has in
    rows_once (keys_distinct a.has) a.flat
    (subst (λ (rows : List Taken). AreFlat p a.keys rows others) (one.0) (subst (λ (keys : List Key). AreFlat p keys b.taken others) (one.1) b.flat))

pub instances_one : InstancesAreOne
instances_one = record {
  lists = λ p instances others keys more a b. lists_once a b;
  flat_bodies = λ p instances others a b. flat_instances_once a b;
  refusals = λ p refusal other a b. refusal_once a b;
  either = λ p instances keys refusal a b. list_or_not a b;
}
