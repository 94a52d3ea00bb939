-- Flat bodies whose monotypes are within the limit.
use Rattle.std.specs.Prelude.{◌≤◌}
use Rattle.htt_syntax.specs.Trees.{MonoTree}
use Rattle.theory_counts.specs.Nodes.{nodes_mono}
use Rattle.theory_instances.specs.Lists.{mono_limit}
use Rattle.theory_flat.specs.Flat.{FlatTree, FlatStepTree, flat_ret, flat_step, flat_call, flat_alloc, flat_get}
use Rattle.theory_flat.specs.Flat.{flat_set, flat_free, flat_if, Instance}

-- What holds of the monotype with which a step is written, for each step that has one.
unfoldable mutual
  pub EachMono : (MonoTree → Type 0) → FlatTree → Type 0
  EachMono P (flat_ret term) = Unit {0}
  EachMono P (flat_step step others) = EachMonoOfStep P step × EachMono P others

  pub EachMonoOfStep : (MonoTree → Type 0) → FlatStepTree → Type 0
  EachMonoOfStep P (flat_call number params) = Unit {0}
  EachMonoOfStep P (flat_alloc mono value) = P mono
  EachMonoOfStep P (flat_get mono place) = P mono
  EachMonoOfStep P (flat_set mono place value) = P mono
  EachMonoOfStep P (flat_free mono place) = P mono
  EachMonoOfStep P (flat_if mono test on_true on_false) = P mono × EachMono P on_true × EachMono P on_false

abbrev pub IsWithin : MonoTree → Type 0
IsWithin mono = nodes_mono mono ≤ mono_limit

pub record HasMonosWithin (instance : Instance) : Type 0 where
  pub result : IsWithin instance.result
  pub body : EachMono IsWithin instance.body
