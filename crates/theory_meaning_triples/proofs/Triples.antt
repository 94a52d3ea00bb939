-- The run of a value's text meets the triple of its type.
use Rattle.std.proofs.Common.{◌≡◌, ◌≢◌, ℕ, zero, suc, List, [], ◌∷◌, slice_get, refl, sym, ap, subst, arith}
use Rattle.htt_syntax.specs.Trees.{MonoTree, TripleTree, m_pair, y_hoare}
use Rattle.theory_values.specs.Values.{Value, HasType}
use Rattle.theory_values.specs.Heaps.{Heap, IsJoin}
use Rattle.theory_values.proofs.Joins.{part_is_heap}
use Rattle.theory_truth.specs.Worlds.{th_value, th_heap}
use Rattle.theory_truth.specs.Predicates.{RecTree, recs_of}
use Rattle.theory_meaning.specs.Closures.{RunValue, RunResult, done, no_fuel, asks, fault, Items}
use Rattle.theory_meaning.specs.Meaning.{item_result, inner_result, then_run, start_result, runner_of}
use Rattle.theory_triples.specs.Triples.{Leaves, PreHolds, PostHolds, result_mono, run_of_val}
use Rattle.theory_canonical.specs.Skeletons.{Skeleton, sk_o, sk_c, skeleton}
use Rattle.theory_canonical.specs.Contexts.{as_heap, as_term, Stands, here, there, Heads}
use Rattle.theory_canonical.specs.Canonical.{IsCanonicalTriple, IsCanonicalTy, IsCanonicalMono, n_m_word, n_m_bool, n_m_loc, n_m_unit, n_m_pair, n_m_var}
use Rattle.theory_canonical.specs.Canonical.{n_triple, n_hoare}
use Rattle.theory_denotation.specs.Outcomes.{Outcome, Running, ended, out_of_fuel, asking, wrong}
use Rattle.theory_denotation.specs.Valuations.{running_of_entry, mono_in, HeadEntries}
use Rattle.theory_denotation.specs.Satisfaction.{PreAt, PostAt, answer_mono}
use Rattle.theory_denotation.specs.Valued.{HeadsRun, OnlyValues}
use Rattle.theory_denotation.proofs.FirstOrder.{truth_first}
use Rattle.theory_denotation_types.specs.Meeting.{Post, EndsWell, Meets}
use Rattle.theory_denotation_types.specs.Types.{Means}
use Rattle.theory_typing_sound.specs.Environments.{ValMeans}
use Rattle.theory_meaning_simulation.specs.Simulation.{AlikeOutcomes, Does, ValDoes}
use Rattle.theory_meaning_simulation.proofs.Results.{alike_with}
use Rattle.theory_meaning_triples.specs.Laws.{TextMeetsTriples}

only_pre : OnlyValues (as_heap ∷ [])
only_pre = record { at = go }
  where
    go : (n : ℕ) (s : Skeleton) → Stands (as_heap ∷ []) n (as_term s) → s ≡ sk_o
    go zero s d = elim d [ ]
    go (suc n) s (there d) = elim d [ ]

only_post : OnlyValues (as_heap ∷ as_heap ∷ as_term sk_o ∷ [])
only_post = record { at = go }
  where
    go : (n : ℕ) (s : Skeleton) → Stands (as_heap ∷ as_heap ∷ as_term sk_o ∷ []) n (as_term s) → s ≡ sk_o
    go zero s d = elim d [ ]
    go (suc zero) s (there d) = elim d [ ]
    go (suc (suc zero)) s (there (there here)) = refl
    go (suc (suc (suc n))) s (there (there (there d))) = elim d [ ]

-- a monotype without variables is itself
mono_itself : {t : MonoTree} → IsCanonicalMono [] t → mono_in [] t ≡ t
mono_itself n_m_word = refl
mono_itself n_m_bool = refl
mono_itself n_m_loc = refl
mono_itself n_m_unit = refl
mono_itself (n_m_pair a b) = λ j. m_pair (mono_itself a j) (mono_itself b j)
mono_itself (n_m_var d) = elim d [ ]

pre_itself : (table : List RecTree) {heads : Heads} (e : HeadEntries) {spec : TripleTree}
    → HeadsRun heads
    → IsCanonicalTriple heads [] spec
    → (h : Heap)
    → PreHolds table spec h
    → PreAt (recs_of table) e [] spec h
pre_itself table e r (n_triple p m q) h holds = subst (λ (T : Type 0). T) (sym (truth_first (recs_of table) e (th_heap h ∷ []) r only_pre p)) holds

post_itself : (table : List RecTree) {heads : Heads} (e : HeadEntries) {spec : TripleTree}
    → HeadsRun heads
    → IsCanonicalTriple heads [] spec
    → (v : Value) (before after : Heap)
    → PostAt (recs_of table) e [] spec v before after
    → PostHolds table spec v before after
post_itself table e r (n_triple p m q) v before after holds =
    subst (λ (T : Type 0). T) (truth_first (recs_of table) e (th_heap after ∷ th_heap before ∷ th_value v ∷ []) r only_post q) holds

answer_itself : {heads : Heads} {spec : TripleTree} → IsCanonicalTriple heads [] spec → answer_mono [] spec ≡ result_mono spec
answer_itself (n_triple p m q) = mono_itself m

-- a run and then its result is the run
alike_end : (t : MonoTree) (r : RunResult) (o : Outcome) → AlikeOutcomes t r o → AlikeOutcomes t (then_run r (λ v k ds. done v k ds)) o
alike_end t (done u h cs) o a = a
alike_end t no_fuel o a = a
alike_end t asks o a = a
alike_end t fault o a = a

no_fault : (t : MonoTree) (mono : MonoTree) (post : Post) (before frame : Heap) (r : RunResult) (o : Outcome)
    → AlikeOutcomes t r o
    → EndsWell mono post before frame o
    → r ≢ fault
no_fault t mono post before frame (done u h cs) o a b = λ q. cc
no_fault t mono post before frame no_fuel o a b = λ q. cc
no_fault t mono post before frame asks o a b = λ q. cc
no_fault t mono post before frame fault (ended v k ds) a b = absurd a
no_fault t mono post before frame fault out_of_fuel a b = absurd a
no_fault t mono post before frame fault asking a b = absurd a
no_fault t mono post before frame fault wrong a b = absurd b

ended_so : (table : List RecTree) {heads : Heads} (e : HeadEntries) (t : MonoTree) {spec : TripleTree}
    → HeadsRun heads
    → IsCanonicalTriple heads [] spec
    → (before frame : Heap) (v : RunValue) (g : Heap) (rest : List ℕ) (o : Outcome)
    → AlikeOutcomes t (done v g rest) o
    → EndsWell (answer_mono [] spec) (PostAt (recs_of table) e [] spec) before frame o
    → Leaves table spec before frame v g
ended_so table e t r c before frame v g rest (ended x k ds) a b =
    let l = b.0 in
    record {
      own = l.own;
      own_is_heap = (part_is_heap l.parts l.is_heap).0;
      parts = subst (λ (i : Heap). IsJoin i l.own frame) (sym a.2) l.parts;
      value = x;
      is_value = a.0;
      typed = subst (HasType x) (answer_itself c) l.typed;
      post = post_itself table e r c x before l.own l.holds;
    }
ended_so table e t r c before frame v g rest out_of_fuel a b = absurd a
ended_so table e t r c before frame v g rest asking a b = absurd a
ended_so table e t r c before frame v g rest wrong a b = absurd a

spec_of : {heads : Heads} {spec : TripleTree} → IsCanonicalTy heads [] (y_hoare spec) → IsCanonicalTriple heads [] spec
spec_of (n_hoare c) = c

-- what the text comes to, and that it meets the triple
run_alike : (items : Items) (e : HeadEntries) (number : ℕ) (spec : TripleTree) (fuel : ℕ) (cs : List ℕ) (whole : Heap)
    → ValDoes items e number (y_hoare spec)
    → AlikeOutcomes (answer_mono [] spec) (run_of_val items number fuel cs whole) (running_of_entry (e.vals number) fuel whole cs)
unfolding Does skeleton
run_alike items e number spec fuel cs whole v =
    let f : Running = v.of in
    let is : running_of_entry (e.vals number) ≡ f = ap running_of_entry v.is in
    subst (λ (g : Running). AlikeOutcomes (answer_mono [] spec) (run_of_val items number fuel cs whole) (g fuel whole cs)) (sym is)
    (alike_end (answer_mono [] spec) _ (f fuel whole cs)
    (alike_with (answer_mono [] spec) (item_result (inner_result items fuel) (slice_get items.vals number))
    (λ u. Does items [] (y_hoare spec) sk_c (suc fuel) u f) (λ u. start_result (runner_of items fuel) u whole cs) (f fuel whole cs)
    (v.does (suc fuel) fuel) (λ u hu. hu fuel fuel (omega arith) (omega arith) whole cs)))

run_meets : (table : List RecTree) (e : HeadEntries) (number : ℕ) (spec : TripleTree)
    → ValMeans table e number (y_hoare spec)
    → Meets (PreAt (recs_of table) e [] spec) (answer_mono [] spec) (PostAt (recs_of table) e [] spec) (running_of_entry (e.vals number))
unfolding Means skeleton
run_meets table e number spec v =
    let f : Running = v.of in
    let is : running_of_entry (e.vals number) ≡ f = ap running_of_entry v.is in
    subst (λ (g : Running). Meets (PreAt (recs_of table) e [] spec) (answer_mono [] spec) (PostAt (recs_of table) e [] spec) g) (sym is) v.means

pub meets : TextMeetsTriples
meets table items env e known runs means does number spec q fuel cs words h k =
    let c = spec_of (known.val_types number (y_hoare spec) q) in
    let m = run_meets table e number spec (means.vals number (y_hoare spec) q) in
    let alike = λ (whole : Heap). run_alike items e number spec fuel cs whole (does.vals number (y_hoare spec) q) in
    record {
      no_fault = λ whole i j p.
          no_fault (answer_mono [] spec) (answer_mono [] spec) (PostAt (recs_of table) e [] spec) h k
          (run_of_val items number fuel cs whole) (running_of_entry (e.vals number) fuel whole cs) (alike whole)
          (m.at fuel h k whole cs i j words (pre_itself table e runs c h p));
      ends_so = λ whole i j p v g rest r. ended_so table e (answer_mono [] spec) runs c h k v g rest (running_of_entry (e.vals number) fuel whole cs)
          (subst (λ (x : RunResult). AlikeOutcomes (answer_mono [] spec) x (running_of_entry (e.vals number) fuel whole cs)) r
          (alike whole)) (m.at fuel h k whole cs i j words (pre_itself table e runs c h p));
    }
