-- A run of the text and its denotation have the same outcomes.
use Rattle.std.proofs.Common.{◌≡◌, ◌≢◌, ◌<◌, ◌≤◌, ◌↔◌, ℕ, suc, [], refl, sym, ◌∙◌, subst, arith}
use Rattle.htt_syntax.specs.Trees.{MonoTree}
use Rattle.theory_values.specs.Values.{Value}
use Rattle.theory_meaning.specs.Closures.{base, nothing, RunResult}
use Rattle.theory_meaning.specs.Meaning.{run}
use Rattle.theory_typing_canonical.specs.Environments.{no_entry}
use Rattle.theory_denotation.specs.Outcomes.{Outcome, ended, out_of_fuel, asking, wrong}
use Rattle.theory_denotation.specs.Denotation.{comp_den}
use Rattle.theory_denotation.specs.Laws.{run_result}
use Rattle.theory_denotation.specs.Satisfaction.{answer_mono}
use Rattle.theory_meaning_simulation.specs.Simulation.{AlikeOutcomes, Matches, match_none}
use Rattle.theory_meaning_simulation.proofs.Denoted.{body_do}
use Rattle.theory_adequacy.specs.Adequacy.{Reaches, realised_none}
use Rattle.theory_adequacy_terms.specs.Laws.{OutcomesAreSame}
use Rattle.theory_adequacy_terms.proofs.Adequate.{body_realises}

same_base : {v u : Value} → base v ≡ base u → v ≡ u
same_base e = cc

-- what a run comes to is the outcome that it is alike
pub alike_is : (t : MonoTree) (end o : Outcome) → end ≢ out_of_fuel → AlikeOutcomes t (run_result end) o → o ≡ end
alike_is t (ended v h cs) (ended u k ds) has a = λ j. ended (sym (same_base a.0) j) (sym a.2 j) (sym a.3 j)
alike_is t (ended v h cs) out_of_fuel has a = absurd a
alike_is t (ended v h cs) asking has a = absurd a
alike_is t (ended v h cs) wrong has a = absurd a
alike_is t out_of_fuel o has a = absurd (has refl)
alike_is t asking (ended u k ds) has a = absurd a
alike_is t asking out_of_fuel has a = absurd a
alike_is t asking asking has a = refl
alike_is t asking wrong has a = absurd a
alike_is t wrong (ended u k ds) has a = absurd a
alike_is t wrong out_of_fuel has a = absurd a
alike_is t wrong asking has a = absurd a
alike_is t wrong wrong has a = refl

-- two that are alike with the same fuel, and of which the first reaches what the second comes to
pub same_outcomes : (t : MonoTree) (r : ℕ → RunResult) (f : ℕ → Outcome) (end : Outcome)
    → end ≢ out_of_fuel
    → ((j : ℕ) → AlikeOutcomes t (r j) (f j))
    → ((n : ℕ) → Reaches t r (f n))
    → ((j : ℕ) × (r j ≡ run_result end)) ↔ ((n : ℕ) × (f n ≡ end))
same_outcomes t r f end has a b = (forth, back)
  where
    forth : (j : ℕ) × (r j ≡ run_result end) → (n : ℕ) × (f n ≡ end)
    forth p = (p.0, alike_is t end (f p.0) has (subst (λ x. AlikeOutcomes t x (f p.0)) p.1 (a p.0)))

    back : (n : ℕ) × (f n ≡ end) → (j : ℕ) × (r j ≡ run_result end)
    back p =
        let x = b p.0 (λ q. has (sym p.1 ∙ q)) in
        (x.fuel, subst (λ o. r x.fuel ≡ run_result o) p.1 (x.comes x.fuel (omega arith)))

pub same : OutcomesAreSame
same items env e known do_so realise E r spec o x d h cs end has =
    same_outcomes (answer_mono [] spec) (λ j. run items j nothing E h cs) (λ n. comp_den e [] r n h cs) end has
    (λ j.
    let m : Matches items (suc j) [] nothing [] = match_none in
    body_do items env e known do_so d x no_entry m j j (omega arith) (omega arith) h cs)
    (λ n. body_realises items env e known realise d x no_entry realised_none n h cs)
