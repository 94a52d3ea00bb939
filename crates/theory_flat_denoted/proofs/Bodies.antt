-- Flat bodies denote what the bodies of the instances do: by fuel, and then by how a body is made flat.
use Rattle.std.proofs.Common.{◌≡◌, ◌<◌, ℕ, zero, suc, List, ◌∷◌, length, reverse, Some, None, slice_get, refl, sym, ap, ◌∙◌, subst, arith}
use Rattle.std.proofs.lemmas.Option.{same_Some}
use Rattle.htt_syntax.specs.Trees.{MonoTree, CompTree, StepTree}
use Rattle.theory_values.specs.Values.{Value}
use Rattle.theory_values.specs.Heaps.{Heap}
use Rattle.theory_canonical.specs.Canonical.{IsCanonicalComp, IsCanonicalStep, n_ret, n_step, n_run, n_alloc, n_get, n_set, n_free, n_if}
use Rattle.theory_denotation.specs.Outcomes.{ended, then_outcome, alloc_outcome, get_outcome, set_outcome, free_outcome, branch_outcome}
use Rattle.theory_denotation.specs.Valuations.{HeadEntries, running_of_entry}
use Rattle.theory_denotation.specs.Recursion.{entered_running}
use Rattle.theory_denotation.specs.Denotation.{comp_den, step_den}
use Rattle.theory_denotation.specs.Valued.{HeadsRun}
use Rattle.theory_instances.specs.Calls.{Program, Site}
use Rattle.theory_instances.specs.Keys.{Key}
use Rattle.theory_instances.specs.Lists.{Taken, HasInstances}
use Rattle.theory_flat.specs.Flat.{FlatTree, FlatStepTree, Instance, Flattens, flattens_ret, flattens_step, FlattensStep, flattens_run, flattens_alloc}
use Rattle.theory_flat.specs.Flat.{flattens_get, flattens_set, flattens_free, flattens_if, IsFlat, AreFlat, flat_none, flat_more}
use Rattle.theory_flat.specs.Reading.{Calling, flat_outcome, flat_step_outcome, body_outcome, calling}
use Rattle.theory_flat_closed.specs.Calls.{EachCall, EachCallOfStep}
use Rattle.theory_flat_closed.proofs.Closed.{closed}
use Rattle.theory_instances_keys.specs.Laws.{with_values}
use Rattle.theory_instances_canonical.specs.Keys.{values_context, heads_with, IsCanonicalProgram}
use Rattle.theory_instances_canonical.proofs.More.{taken_more, comp_more}
use Rattle.theory_instances_canonical.proofs.Taken.{canonical}
use Rattle.theory_instances_heads.specs.Heads.{AreInstanceHeads}
use Rattle.theory_instances_linked.specs.Laws.{values_of}
use Rattle.theory_instances_linked.proofs.Calls.{calls}
use Rattle.theory_flat_denoted.specs.Laws.{FlatBodiesDenote}
use Rattle.theory_flat_denoted.proofs.Terms.{heads_run, mono_itself, value_is, params_agree}

none_or_some : {A : Type 0} {x : A} → None ≡ Some x → ⊥
none_or_some q = cc

-- each row has an instance, and each number of an instance a row
pub record FlatRow (p : Program) (keys : List Key) (instances : List Instance) (number : ℕ) (row : Taken) : Type 0 where
  pub instance : Instance
  pub at : slice_get instances number ≡ Some instance
  pub flat : IsFlat p keys row instance

pub flat_row : {p : Program} {keys : List Key} {rows : List Taken} {instances : List Instance}
    → AreFlat p keys rows instances
    → (number : ℕ) (row : Taken)
    → slice_get rows number ≡ Some row
    → FlatRow p keys instances number row
flat_row flat_none number row q = absurd (none_or_some q)
flat_row {p = p} {keys = keys} (flat_more {taken = taken} {instance = instance} f others) zero row q =
    record { instance = instance; at = refl; flat = subst (λ (t : Taken). IsFlat p keys t instance) (same_Some taken row q) f }
flat_row (flat_more f others) (suc number) row q =
    let r = flat_row others number row q in record { instance = r.instance; at = r.at; flat = r.flat }

row_there : {p : Program} {keys : List Key} {rows : List Taken} {instances : List Instance}
    → AreFlat p keys rows instances
    → (number : ℕ)
    → number < length instances
    → (row : Taken) × (slice_get rows number ≡ Some row)
row_there flat_none number l = absurd (omega (arith, l))
row_there (flat_more {taken = taken} f others) zero l = (taken, refl)
row_there (flat_more f others) (suc number) l = row_there others number (omega (arith, l))

module _ (p : Program) (rows : List Taken) (keys : List Key) (instances : List Instance) (e : HeadEntries) (program : IsCanonicalProgram p)
    (has : HasInstances p rows keys) (flat : AreFlat p keys rows instances) (a : AreInstanceHeads p keys e) where
  runs : HeadsRun (heads_with p keys)
  runs = heads_run p rows keys program has

  abbrev Within : ℕ → Type 0
  Within called = called < length instances

  -- what calls come to with this fuel
  abbrev CallsDo : ℕ → Type 0
  CallsDo n =
      (number : ℕ) (row : Taken)
      → slice_get rows number ≡ Some row
      → (values : List Value) (h : Heap) (cs : List ℕ)
      → calling instances n number values h cs ≡ entered_running (comp_den e (with_values (reverse values)) row.body) n h cs

  module _ (n : ℕ) (calls_do : CallsDo n) where
    abbrev call : Calling
    call = calling instances n

    mutual
      unfolding flat_outcome comp_den EachCall

      comp_does : (m : ℕ) (vs : List Value) {g : List MonoTree} {comp : CompTree} {body : FlatTree}
          → Flattens p keys g comp body
          → EachCall Within body
          → IsCanonicalComp (heads_with p keys) (values_context m) comp
          → (h : Heap) (cs : List ℕ)
          → flat_outcome call vs body h cs ≡ comp_den e (with_values vs) comp n h cs
      comp_does m vs flattens_ret each (n_ret c) h cs = λ j. ended (value_is e runs m vs c j) h cs
      comp_does m vs (flattens_step s others) each (n_step c d) h cs =
          λ j. then_outcome (step_does m vs s (each.0) c h cs j) (λ v k ds. comp_does (suc m) (v ∷ vs) others (each.1) d k ds j)

      step_does : (m : ℕ) (vs : List Value) {g : List MonoTree} {step : StepTree} {body : FlatStepTree}
          → FlattensStep p keys g step body
          → EachCallOfStep Within body
          → IsCanonicalStep (heads_with p keys) (values_context m) step
          → (h : Heap) (cs : List ℕ)
          → flat_step_outcome call vs body h cs ≡ step_den e (with_values vs) step n h cs
      step_does m vs {g = g} (flattens_run {term = term} {number = number} {params = params} names) within (n_run c t) h cs =
          let site : Site = record { call = term; context = g } in
          let row = row_there flat number within in
          ap (λ (values : List Value). call number values h cs) (params_agree e runs m vs c names)
          ∙ calls_do number (row.0) (row.1) (values_of e vs params) h cs
          ∙ sym (ap (λ x. running_of_entry x n h cs) (calls p rows keys e program has a m vs site number params (row.0) c names (row.1)))
      step_does m vs flattens_alloc each (n_alloc t c) h cs = λ j. alloc_outcome (value_is e runs m vs c j) h cs
      step_does m vs flattens_get each (n_get t c) h cs = λ j. get_outcome (mono_itself m (with_values vs) t j) (value_is e runs m vs c j) h cs
      step_does m vs flattens_set each (n_set t c d) h cs =
          λ j. set_outcome (mono_itself m (with_values vs) t j) (value_is e runs m vs c j) (value_is e runs m vs d j) h cs
      step_does m vs flattens_free each (n_free t c) h cs = λ j. free_outcome (mono_itself m (with_values vs) t j) (value_is e runs m vs c j) h cs
      step_does m vs (flattens_if f g) each (n_if t c on_true on_false) h cs =
          λ j. branch_outcome (value_is e runs m vs c j) (comp_does m vs f (each.0) on_true h cs j) (comp_does m vs g (each.1) on_false h cs j)

    body_does : (number : ℕ) (row : Taken)
        → slice_get rows number ≡ Some row
        → (values : List Value) (h : Heap) (cs : List ℕ)
        → body_outcome (slice_get instances number) call values h cs ≡ comp_den e (with_values (reverse values)) row.body n h cs
    body_does number row q values h cs =
        let r = flat_row flat number row q in
        let each = closed.calls p instances number r.instance (record { taken = rows; keys = keys; has = has; flat = flat }) r.at in
        let c = canonical.bodies p rows keys program has number row q in
        ap (λ o. body_outcome o call values h cs) r.at
        ∙ comp_does (c.0) (reverse values) r.flat.body each (comp_more (taken_more p (suc number) keys) (c.1)) h cs

  calls_do_by : (n : ℕ) → CallsDo n
  unfolding calling
  calls_do_by zero number row q values h cs = refl
  calls_do_by (suc n) number row q values h cs = body_does n (calls_do_by n) number row q values h cs

pub flat_denoted : FlatBodiesDenote
flat_denoted = record {
  bodies = λ p rows keys instances e program has flat a number row q n values h cs.
      body_does p rows keys instances e program has flat a n (calls_do_by p rows keys instances e program has flat a n) number row q values h cs;
  calls = λ p rows keys instances e program has flat a number row q n values h cs.
      calls_do_by p rows keys instances e program has flat a n number row q values h cs;
}
