-- More fuel keeps what calls and bodies come to.
use Rattle.std.proofs.Common.{◌≡◌, ◌≢◌, ℕ, zero, suc, ◌+◌, List, ◌∷◌, map, reverse, Bool, true, false, Option, Some, None, slice_get, refl, sym, ap, ◌∙◌, subst}
use Rattle.std.proofs.Common.{arith}
use Rattle.theory_values.specs.Values.{Value, v_word, v_bool, v_loc, v_unit, v_pair}
use Rattle.theory_values.specs.Heaps.{Heap}
use Rattle.theory_denotation.specs.Outcomes.{Outcome, ended, out_of_fuel, asking, wrong, then_outcome, branch_outcome}
use Rattle.theory_flat.specs.Flat.{FlatTree, FlatStepTree, flat_ret, flat_step, flat_call, flat_alloc, flat_get, flat_set, flat_free, flat_if, Instance}
use Rattle.theory_flat.specs.Reading.{Calling, value_in, flat_outcome, flat_step_outcome, body_outcome, calling}
use Rattle.theory_flat_fuel.specs.Laws.{MoreFuelKeepsFlat}

-- what the one comes to, unless it wants fuel, the other does
abbrev Keeps : Outcome → Outcome → Type 0
Keeps a b = a ≢ out_of_fuel → b ≡ a

sequence_keeps : (a b : Outcome) (f g : Value → Heap → List ℕ → Outcome)
    → Keeps a b
    → ((v : Value) (h : Heap) (cs : List ℕ) → Keeps (f v h cs) (g v h cs))
    → Keeps (then_outcome a f) (then_outcome b g)
sequence_keeps (ended v h cs) b f g k next d = ap (λ o. then_outcome o g) (k (λ e. cc)) ∙ next v h cs d
sequence_keeps out_of_fuel b f g k next d = absurd (d refl)
sequence_keeps asking b f g k next d = ap (λ o. then_outcome o g) (k (λ e. cc))
sequence_keeps wrong b f g k next d = ap (λ o. then_outcome o g) (k (λ e. cc))

branch_keeps : (v : Value) (a b c d : Outcome) → Keeps a c → Keeps b d → Keeps (branch_outcome v a b) (branch_outcome v c d)
branch_keeps (v_bool true) a b c d p q = p
branch_keeps (v_bool false) a b c d p q = q
branch_keeps (v_word n) a b c d p q = λ e. refl
branch_keeps (v_loc n) a b c d p q = λ e. refl
branch_keeps v_unit a b c d p q = λ e. refl
branch_keeps (v_pair x y) a b c d p q = λ e. refl

module _ (f g : Calling) (k : (number : ℕ) (vs : List Value) (h : Heap) (cs : List ℕ) → Keeps (f number vs h cs) (g number vs h cs)) where
  mutual
    unfolding flat_outcome

    flat_keeps : (flat : FlatTree) (vs : List Value) (h : Heap) (cs : List ℕ) → Keeps (flat_outcome f vs flat h cs) (flat_outcome g vs flat h cs)
    flat_keeps (flat_ret term) vs h cs = λ d. refl
    flat_keeps (flat_step step others) vs h cs =
        sequence_keeps (flat_step_outcome f vs step h cs) (flat_step_outcome g vs step h cs)
        (λ v i ds. flat_outcome f (v ∷ vs) others i ds) (λ v i ds. flat_outcome g (v ∷ vs) others i ds)
        (step_keeps step vs h cs) (λ v i ds. flat_keeps others (v ∷ vs) i ds)

    step_keeps : (step : FlatStepTree) (vs : List Value) (h : Heap) (cs : List ℕ) → Keeps (flat_step_outcome f vs step h cs) (flat_step_outcome g vs step h cs)
    step_keeps (flat_call number params) vs h cs = k number (map (value_in vs) params) h cs
    step_keeps (flat_alloc mono value) vs h cs = λ d. refl
    step_keeps (flat_get mono place) vs h cs = λ d. refl
    step_keeps (flat_set mono place value) vs h cs = λ d. refl
    step_keeps (flat_free mono place) vs h cs = λ d. refl
    step_keeps (flat_if mono test on_true on_false) vs h cs =
        branch_keeps (value_in vs test) (flat_outcome f vs on_true h cs) (flat_outcome f vs on_false h cs)
        (flat_outcome g vs on_true h cs) (flat_outcome g vs on_false h cs) (flat_keeps on_true vs h cs) (flat_keeps on_false vs h cs)

  body_keeps : (o : Option Instance) (vs : List Value) (h : Heap) (cs : List ℕ) → Keeps (body_outcome o f vs h cs) (body_outcome o g vs h cs)
  body_keeps None vs h cs = λ d. refl
  body_keeps (Some instance) vs h cs = flat_keeps instance.body (reverse vs) h cs

calls_keep : (instances : List Instance) (n more number : ℕ) (vs : List Value) (h : Heap) (cs : List ℕ)
    → Keeps (calling instances n number vs h cs) (calling instances (n + more) number vs h cs)
unfolding calling
calls_keep instances zero more number vs h cs = λ d. absurd (d refl)
calls_keep instances (suc n) more number vs h cs =
    let q : suc (n + more) ≡ suc n + more = omega arith in
    subst (λ m. Keeps (calling instances (suc n) number vs h cs) (calling instances m number vs h cs)) q
    (body_keeps (calling instances n) (calling instances (n + more)) (calls_keep instances n more) (slice_get instances number) vs h cs)

pub kept : MoreFuelKeepsFlat
kept = record {
  calls = calls_keep;
  bodies = λ instances n more number vs h cs.
      body_keeps (calling instances n) (calling instances (n + more)) (calls_keep instances n more) (slice_get instances number) vs h cs;
}
