-- The texts of a file's values and their canonical terms come to the same.
use Rattle.std.proofs.Common.{◌≡◌, ◌↔◌, ℕ, zero, suc, ◌+◌, List, [], Some, slice_get, refl, sym, ap, ◌∙◌, subst, arith}
use Rattle.htt_syntax.specs.Trees.{MonoTree, TyTree, TripleTree, y_hoare}
use Rattle.theory_values.specs.Values.{Value}
use Rattle.theory_values.specs.Heaps.{Heap}
use Rattle.theory_meaning.specs.Closures.{RunValue, base, RunResult, done, no_fuel, asks, fault, Items}
use Rattle.theory_meaning.specs.Meaning.{item_result, inner_result, run_with, then_run, start_result, runner_of}
use Rattle.theory_triples.specs.Triples.{run_of_val}
use Rattle.theory_canonical.specs.Skeletons.{Skeleton, sk_c, skeleton}
use Rattle.theory_typing.specs.Laws.{none}
use Rattle.theory_items.specs.Items.{ItemTree}
use Rattle.theory_items_sound.proofs.Kept.{items_keep_sound}
use Rattle.theory_denotation.specs.Outcomes.{Outcome, Running, ended, out_of_fuel, asking, wrong, then_outcome}
use Rattle.theory_denotation.specs.Valuations.{den_term, running_of_entry, HeadEntries}
use Rattle.theory_denotation.specs.Denotation.{term_den}
use Rattle.theory_denotation.specs.Satisfaction.{answer_mono}
use Rattle.theory_denotation.specs.Laws.{run_result}
use Rattle.theory_denotation_heads.proofs.Files.{denote}
use Rattle.theory_meaning_simulation.specs.Simulation.{Shaped, AlikeOutcomes, Does, ValDoes}
use Rattle.theory_meaning_simulation.proofs.Results.{alike_with}
use Rattle.theory_file_derived.specs.Derived.{val_terms, def_terms, texts_of}
use Rattle.theory_instances.specs.Calls.{ProgramVal}
use Rattle.theory_extraction.specs.Extraction.{HasVals}
use Rattle.theory_adequacy.specs.Adequacy.{Reaches, Realises, ValRealises}
use Rattle.theory_adequacy.proofs.Fuel.{reaches_with, reaches_then, reaches_end}
use Rattle.theory_adequacy_terms.proofs.Same.{same_outcomes}
use Rattle.theory_adequacy_files.specs.Laws.{trees_of, entries_of, FilesAreAdequate}
use Rattle.theory_adequacy_files.proofs.Growing.{nothing_holds}
use Rattle.theory_adequacy_files.proofs.Values.{continues_all, are_vals, ValHolds, values_hold}

-- a run and then its result is the run
alike_end : (t : MonoTree) (r : RunResult) (o : Outcome) → AlikeOutcomes t r o → AlikeOutcomes t (then_run r (λ v k ds. done v k ds)) o
alike_end t (done u h cs) o a = a
alike_end t no_fuel o a = a
alike_end t asks o a = a
alike_end t fault o a = a

then_itself : (o : Outcome) → then_outcome o (λ v k ds. ended v k ds) ≡ o
then_itself (ended v h cs) = refl
then_itself out_of_fuel = refl
then_itself asking = refl
then_itself wrong = refl

module _ (items : Items) (e : HeadEntries) (number : ℕ) (spec : TripleTree) (h : Heap) (cs : List ℕ) where
  abbrev started : ℕ → RunValue → RunResult
  started j u = start_result (runner_of items j) u h cs

  abbrev run_item : ℕ → RunResult
  run_item j = run_with (item_result (inner_result items j) (slice_get items.vals number)) (started j)

  run_alike : (fuel : ℕ)
      → ValDoes items e number (y_hoare spec)
      → AlikeOutcomes (answer_mono [] spec) (run_of_val items number fuel cs h) (running_of_entry (e.vals number) fuel h cs)
  unfolding Does skeleton
  run_alike fuel v =
      let f : Running = v.of in
      let is : running_of_entry (e.vals number) ≡ f = ap running_of_entry v.is in
      subst (λ (g : Running). AlikeOutcomes (answer_mono [] spec) (run_of_val items number fuel cs h) (g fuel h cs)) (sym is)
      (alike_end (answer_mono [] spec) (run_item fuel) (f fuel h cs)
      (alike_with (answer_mono [] spec) (item_result (inner_result items fuel) (slice_get items.vals number))
      (λ u. Does items [] (y_hoare spec) sk_c (suc fuel) u f) (started fuel) (f fuel h cs) (v.does (suc fuel) fuel)
      (λ u hu. hu fuel fuel (omega arith) (omega arith) h cs)))

  run_reaches : (n : ℕ)
      → ValRealises items e number (y_hoare spec)
      → Reaches (answer_mono [] spec) (λ j. run_of_val items number j cs h) (running_of_entry (e.vals number) n h cs)
  unfolding Realises skeleton
  run_reaches n v =
      let t = answer_mono [] spec in
      let f : Running = v.of in
      let is : running_of_entry (e.vals number) ≡ f = ap running_of_entry v.is in
      subst (λ (g : Running). Reaches t (λ j. run_of_val items number j cs h) (g n h cs)) (sym is)
      (subst (λ o. Reaches t (λ j. run_of_val items number j cs h) o) (then_itself (f n h cs))
      (reaches_then t t run_item (f n h cs) (λ j u k ds. done u k ds) (λ u k ds. ended u k ds)
      (reaches_with t (λ j. item_result (inner_result items j) (slice_get items.vals number))
      (λ u. Realises items [] (y_hoare spec) sk_c u f) started (f n h cs) v.realises (λ u hu. hu n h cs))
      (λ u k ds s. reaches_end t u k ds (λ j. refl) s)))

file_values : (items : List ItemTree) (vals : List ProgramVal)
    → HasVals none items vals
    → (number : ℕ) (v : ProgramVal)
    → slice_get vals number ≡ Some v
    → ValHolds (texts_of items) (entries_of vals) number v
file_values items vals d number v q =
    let e : zero + number ≡ number = omega arith in
    subst (λ n. ValHolds (texts_of items) (entries_of vals) n v) e
    (values_hold (texts_of items) (trees_of vals) (entries_of vals) (denote (trees_of vals) (are_vals d items_keep_sound.empty)) d
    (nothing_holds (texts_of items) (entries_of vals)) (continues_all (trees_of vals)) (continues_all (val_terms items))
    (continues_all (def_terms items)) number v q)

running_is : (e : HeadEntries) (number : ℕ) (v : ProgramVal) (ty : TyTree) (spec : TripleTree)
    → ty ≡ y_hoare spec
    → e.vals number ≡ den_term (skeleton ty) (term_den e [] v.term (skeleton ty))
    → running_of_entry (e.vals number) ≡ term_den e [] v.term sk_c
unfolding skeleton
running_is e number v ty spec q is =
    ap running_of_entry (is ∙ ap (λ (s : Skeleton). den_term s (term_den e [] v.term s)) (ap skeleton q))

done_with : (t : MonoTree) (u : RunValue) (k : Heap) (left : List ℕ) (o : Outcome)
    → AlikeOutcomes t (done u k left) o
    → (x : Value) × (u ≡ base x) × Shaped x t
done_with t u k left (ended v g ds) a = (v, a.0, a.1)
done_with t u k left out_of_fuel a = absurd a
done_with t u k left asking a = absurd a
done_with t u k left wrong a = absurd a

pub files : FilesAreAdequate
files = record {
  values = λ items vals d number v q. (file_values items vals d number v q).realises;
  outcomes = λ items vals d number v spec q is h cs end has.
      let x = file_values items vals d number v q in
      let e = entries_of vals in
      let texts = texts_of items in
      let does = subst (ValDoes texts e number) is x.does in
      let realises = subst (ValRealises texts e number) is x.realises in
      subst (λ (f : Running).
      ((fuel : ℕ) × (run_of_val texts number fuel cs h ≡ run_result end)) ↔ ((n : ℕ) × (f n h cs ≡ end)))
      (running_is e number v v.ty spec is x.denotes)
      (same_outcomes (answer_mono [] spec) (λ j. run_of_val texts number j cs h) (λ n. running_of_entry (e.vals number) n h cs) end has
      (λ j. run_alike texts e number spec h cs j does) (λ n. run_reaches texts e number spec h cs n realises));
  results = λ items vals d number v spec q is h cs fuel u k left ends.
      let x = file_values items vals d number v q in
      let e = entries_of vals in
      let texts = texts_of items in
      let does = subst (ValDoes texts e number) is x.does in
      let o = running_of_entry (e.vals number) fuel h cs in
      done_with (answer_mono [] spec) u k left o
      (subst (λ r. AlikeOutcomes (answer_mono [] spec) r o) ends (run_alike texts e number spec h cs fuel does));
}
