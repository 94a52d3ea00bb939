-- Flat bodies: the body of an instance, where each call is that of an instance by its number, with all its
-- parameters. Where one is typed no function is left in it.
use Rattle.std.specs.Prelude.{◌≡◌, ℕ, List, [], ◌∷◌, ◌++◌, map, reverse, Option, Some, slice_get}
use Rattle.htt_syntax.specs.Trees.{MonoTree, TermTree, CompTree, StepTree, TermTrees, t_var, t_made, c_ret, c_step}
use Rattle.htt_syntax.specs.Trees.{s_run, s_alloc, s_get, s_set, s_free, s_if}
use Rattle.theory_canonical.specs.Skeletons.{skeleton}
use Rattle.theory_instances.specs.Calls.{Program, Site, head_of, arguments_of, fixed_of, passed_of, head_ty, list_of}
use Rattle.theory_instances.specs.Calls.{bound_mono}
use Rattle.theory_instances.specs.Keys.{Key, captured_of, keys_of_site}
use Rattle.theory_instances.specs.Lists.{IsKnownAs, Taken, HasInstances}

mutual
  -- a result, or a step and what stands under its variable
  pub data FlatTree : Type 0 where
    flat_ret : TermTree → FlatTree
    flat_step : FlatStepTree → FlatTree → FlatTree

  pub data FlatStepTree : Type 0 where
    -- an instance, and its parameters in order
    flat_call : ℕ → List TermTree → FlatStepTree
    flat_alloc : MonoTree → TermTree → FlatStepTree
    flat_get : MonoTree → TermTree → FlatStepTree
    flat_set : MonoTree → TermTree → TermTree → FlatStepTree
    flat_free : MonoTree → TermTree → FlatStepTree
    flat_if : MonoTree → TermTree → FlatTree → FlatTree → FlatStepTree

-- An instance: the monotypes of its parameters in order, that of its result, and its flat body, which
-- stands under the parameters, the last one innermost.
pub record Instance : Type 0 where
  pub params : List MonoTree
  pub result : MonoTree
  pub body : FlatTree

-- The captured variables of a call that names a key by itself, as parameters.
abbrev pub captured_params : Program → Site → List TermTree
captured_params p site =
    map t_var
    (reverse (captured_of (head_of site.call)
    (fixed_of (skeleton (head_ty p (head_of site.call))) (arguments_of site.call))))

-- A call names an instance, whose parameters are the captured variables and then what is passed. A made
-- function is the instance that it names, with the values that it has captured.
pub data Names (p : Program) (keys : List Key) (site : Site) : ℕ → List TermTree → Type 0 where
  names_key : {number : ℕ} {key : Key}
      → keys_of_site p site ≡ key ∷ []
      → IsKnownAs keys number key
      → Names p keys site number
      (captured_params p site ++ passed_of (skeleton (head_ty p (head_of site.call))) (arguments_of site.call))
  names_made : {number : ℕ} {key : Key} {values : TermTrees}
      → head_of site.call ≡ t_made number values
      → slice_get keys number ≡ Some key
      → Names p keys site number (list_of values ++ passed_of (skeleton (head_ty p key.head)) (arguments_of site.call))

-- A computation under variables of these monotypes, the innermost first, made flat.
mutual
  pub data Flattens (p : Program) (keys : List Key) : List MonoTree → CompTree → FlatTree → Type 0 where
    flattens_ret : {g : List MonoTree} {term : TermTree} → Flattens p keys g (c_ret term) (flat_ret term)
    flattens_step : {g : List MonoTree} {step : StepTree} {others : CompTree} {flat : FlatStepTree} {rest : FlatTree}
        → FlattensStep p keys g step flat
        → Flattens p keys (bound_mono step ∷ g) others rest
        → Flattens p keys g (c_step step others) (flat_step flat rest)

  pub data FlattensStep (p : Program) (keys : List Key) : List MonoTree → StepTree → FlatStepTree → Type 0 where
    flattens_run : {g : List MonoTree} {term : TermTree} {mono : Option MonoTree} {number : ℕ} {params : List TermTree}
        → Names p keys (record { call = term; context = g }) number params
        → FlattensStep p keys g (s_run term mono) (flat_call number params)
    flattens_alloc : {g : List MonoTree} {mono : MonoTree} {value : TermTree}
        → FlattensStep p keys g (s_alloc mono value) (flat_alloc mono value)
    flattens_get : {g : List MonoTree} {mono : MonoTree} {place : TermTree}
        → FlattensStep p keys g (s_get mono place) (flat_get mono place)
    flattens_set : {g : List MonoTree} {mono : MonoTree} {place value : TermTree}
        → FlattensStep p keys g (s_set mono place value) (flat_set mono place value)
    flattens_free : {g : List MonoTree} {mono : MonoTree} {place : TermTree}
        → FlattensStep p keys g (s_free mono place) (flat_free mono place)
    flattens_if : {g : List MonoTree} {mono : MonoTree} {test : TermTree} {on_true on_false : CompTree}
        {flat_true flat_false : FlatTree}
        → Flattens p keys g on_true flat_true
        → Flattens p keys g on_false flat_false
        → FlattensStep p keys g (s_if mono test on_true on_false) (flat_if mono test flat_true flat_false)

-- An instance that was taken up, made flat.
pub record IsFlat (p : Program) (keys : List Key) (taken : Taken) (instance : Instance) : Type 0 where
  pub params : instance.params ≡ reverse taken.params
  pub result : instance.result ≡ taken.result
  pub body : Flattens p keys taken.params taken.body instance.body

pub data AreFlat (p : Program) (keys : List Key) : List Taken → List Instance → Type 0 where
  flat_none : AreFlat p keys [] []
  flat_more : {taken : Taken} {instance : Instance} {others : List Taken} {rest : List Instance}
      → IsFlat p keys taken instance
      → AreFlat p keys others rest
      → AreFlat p keys (taken ∷ others) (instance ∷ rest)

-- The instances of a program with their flat bodies.
pub record HasFlatInstances (p : Program) (instances : List Instance) : Type 0 where
  pub taken : List Taken
  pub keys : List Key
  pub has : HasInstances p taken keys
  pub flat : AreFlat p keys taken instances
