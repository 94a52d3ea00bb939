-- The worked examples hold.
use Rattle.std.proofs.Common.{◌≡◌, ◌≤◌, ℕ, zero, suc, List, [], ◌∷◌, refl, ap, ◌∙◌, sym, arith}
use Rattle.htt_syntax.specs.declared.mono.Op.TheVariants.{Add}
use Rattle.htt_syntax.specs.Trees.{TermTree, c_ret, m_word, t_var, t_word, t_bin, y_mono}
use Rattle.theory_values.specs.Values.{Value, v_word, v_bool, v_loc, v_unit, v_pair, value_of_op}
use Rattle.theory_values.specs.Heaps.{Heap, empty_heap}
use Rattle.theory_meaning.specs.Closures.{RunValue, base, fun_of, fix_of, nothing, with_value, gives, faults, done, no_fuel}
use Rattle.theory_meaning.specs.Meaning.{application_result, inner_result, then_run, runner_of}
use Rattle.theory_canonical.specs.Skeletons.{sk_o}
use Rattle.theory_denotation.specs.Outcomes.{ended}
use Rattle.theory_denotation.specs.Valuations.{den_term}
use Rattle.theory_denotation.specs.Denotation.{term_den}
use Rattle.theory_meaning_simulation.specs.Simulation.{Shaped}
use Rattle.theory_adequacy.specs.Adequacy.{EventuallyGives, Realises}
use Rattle.theory_adequacy.specs.Examples.{no_items, no_heads, gives_five, endless_body, endless, WorkedExamples}
use Rattle.theory_adequacy.proofs.Fuel.{eventually_entered, two_given, reaches_started, reaches_body, reaches_end}

one_word : {x y : ℕ} → base (v_word x) ≡ base (v_word y) → x ≡ y
one_word e = cc

no_value : {u : RunValue} → faults ≡ gives u → ⊥
no_value e = cc

value_of_end : {v u : RunValue} {h g : Heap} {cs ds : List ℕ} → done v h cs ≡ done u g ds → v ≡ u
value_of_end e = cc

no_end : {u : RunValue} {h : Heap} {cs : List ℕ} → no_fuel ≡ done u h cs → ⊥
no_end e = cc

four_is_not_three : base (v_word 3) ≡ base (v_word 4) → ⊥
four_is_not_three e = let f : 3 ≡ 4 = one_word e in omega (arith, f)

five_is_not_six : base (v_word 6) ≡ base (v_word 5) → ⊥
five_is_not_six e = let f : 6 ≡ 5 = one_word e in omega (arith, f)

abbrev one_more : TermTree
one_more = t_bin Add (t_var 0) (t_word 1)

adds_one : (x : RunValue) (d : Value)
    → x ≡ base d
    → Shaped d m_word
    → EventuallyGives (λ i. application_result (inner_result no_items i) (fun_of nothing one_more) x)
    (λ y. Realises no_items (den_term sk_o d ∷ []) (y_mono m_word) sk_o y (term_den no_heads (den_term sk_o d ∷ []) one_more sk_o))
unfolding Realises term_den
adds_one x (v_word n) q s =
    let P = λ (y : RunValue). Realises no_items (den_term sk_o (v_word n) ∷ []) (y_mono m_word) sk_o y (term_den no_heads (den_term sk_o (v_word n) ∷ []) one_more sk_o) in
    eventually_entered no_items P (with_value x nothing) one_more
    (two_given (value_of_op Add) (v_word n) (v_word 1) x (base (v_word 1)) P q refl (refl, tt))
adds_one x (v_bool b) q s = absurd s
adds_one x (v_loc n) q s = absurd s
adds_one x v_unit q s = absurd s
adds_one x (v_pair a b) q s = absurd s

loops : (j : ℕ) (h : Heap) (cs : List ℕ) → runner_of no_items j (with_value (fix_of nothing endless nothing endless) nothing) endless_body h cs ≡ no_fuel
loops zero h cs = refl
loops (suc j) h cs = ap (λ r. then_run r (λ v k ds. done v k ds)) (loops j h cs)

pub examples : WorkedExamples
unfolding Realises term_den
examples = record {
  word_is_itself = (refl, tt);
  no_other_word = λ h. four_is_not_three h.0;
  no_other_form = λ h. h.1;
  function_by_its_body = λ x d h. adds_one x d h.0 h.1;
  no_function = λ h. let a = h (base (v_word 0)) (v_word 0) (refl, tt) in no_value (a.given a.fuel (omega arith));
  computation_by_its_run = λ n h cs.
      reaches_started no_items m_word nothing (c_ret (t_word 5)) h cs (ended (v_word 5) h cs) (reaches_end m_word (v_word 5) h cs (λ j. refl) tt);
  no_other_result = λ h.
      let a = h zero empty_heap [] (λ q. cc) in five_is_not_six (value_of_end (a.comes (suc a.fuel) (omega arith)));
  fuel_is_free = reaches_body no_items m_word nothing (c_ret (t_word 5)) gives_five
      (λ n h cs. reaches_end m_word (v_word 5) h cs (λ j. refl) tt);
  want_of_fuel_is_free = λ n h cs has. absurd (has refl);
  endless_never_ends = λ h.
      let a = h 1 empty_heap [] (λ q. cc) in
      no_end (sym (loops a.fuel empty_heap []) ∙ a.comes a.fuel (omega arith));
}
