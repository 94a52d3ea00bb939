-- What a machine comes to: after steps, one after the other, and as something weaker.
use Rattle.std.proofs.Common.{◌≡◌, ◌≤◌, ℕ, suc, ◌+◌, List, refl, sym, ap, ◌∙◌, subst, arith}
use Rattle.theory_values.specs.Values.{Value}
use Rattle.theory_values.specs.Heaps.{Heap}
use Rattle.theory_denotation.specs.Outcomes.{Outcome, ended, out_of_fuel, asking, wrong, then_outcome}
use Rattle.word_loader_code.specs.declared.code.Code.{Code}
use Rattle.word_loader_code.specs.Machine.{Machine, asking as machine_asking, step, after_steps}
use Rattle.word_loader_code.specs.Laws.{IsOver}
use Rattle.theory_emitted_words.specs.Frames.{Leads}
use Rattle.theory_emitted_words.proofs.Steps.{more_steps}
use Rattle.theory_emitted_bodies.specs.Comes.{Follows, ComesTo}

-- some steps first, and so many are counted
counted : {code : Code} {m k : Machine} {Ends : Value → Heap → List ℕ → Machine → Type 0} {more : ℕ} {o : Outcome} (n : ℕ) (l : Leads code m k)
    → n ≤ l.steps + more
    → ComesTo code more Ends k o
    → ComesTo code n Ends m o
counted {code = code} {m = m} {k = k} {Ends = Ends} {more = more} {o = o} n l less c = record { follows = by o c.follows }
  where
    later : (steps : ℕ) → after_steps code k steps ≡ after_steps code m (l.steps + steps)
    later steps = ap (λ x. after_steps code x steps) (sym l.there) ∙ more_steps code m l.steps steps

    by : (o : Outcome) → Follows code more Ends k o → Follows code n Ends m o
    by (ended v h cs) c = (l.steps + c.0, subst (Ends v h cs) (later (c.0)) (c.1))
    by out_of_fuel c = (l.steps + c.0, omega (arith, less, c.1), subst (λ x. IsOver x → ⊥) (later (c.0)) (c.2))
    by asking c = (l.steps + c.0, sym (later (c.0)) ∙ c.1)
    by wrong c = tt

pub comes_after : {code : Code} {m k : Machine} {Ends : Value → Heap → List ℕ → Machine → Type 0} {n : ℕ} {o : Outcome}
    → Leads code m k
    → ComesTo code n Ends k o
    → ComesTo code n Ends m o
comes_after {n = n} l c = counted n l (omega arith) c

pub comes_step : {code : Code} {m k : Machine} {Ends : Value → Heap → List ℕ → Machine → Type 0} {n : ℕ} {o : Outcome}
    → step code m ≡ k
    → ComesTo code n Ends k o
    → ComesTo code (suc n) Ends m o
unfolding after_steps
comes_step {code = code} {m = m} {k = k} {n = n} q c =
    let l : Leads code m k = record { steps = 1; there = q } in counted (suc n) l (omega arith) c

pub comes_ended : {code : Code} {m k : Machine} {Ends : Value → Heap → List ℕ → Machine → Type 0} {n : ℕ} {v : Value} {h : Heap} {cs : List ℕ}
    → Leads code m k
    → Ends v h cs k
    → ComesTo code n Ends m (ended v h cs)
comes_ended {Ends = Ends} {v = v} {h = h} {cs = cs} l e = record { follows = (l.steps, subst (Ends v h cs) (sym l.there) e) }

pub comes_asking : {code : Code} {m : Machine} {Ends : Value → Heap → List ℕ → Machine → Type 0} {n : ℕ} → Leads code m machine_asking → ComesTo code n Ends m asking
comes_asking l = record { follows = (l.steps, l.there) }

pub comes_wrong : {code : Code} {m : Machine} {Ends : Value → Heap → List ℕ → Machine → Type 0} {n : ℕ} → ComesTo code n Ends m wrong
comes_wrong = record { follows = tt }

reached : (code : Code) (m : Machine) (steps : ℕ) → Leads code m (after_steps code m steps)
reached code m steps = record { steps = steps; there = refl }

pub comes_then : {code : Code} {m : Machine} {Ends Then : Value → Heap → List ℕ → Machine → Type 0} {n : ℕ} (o : Outcome) (f : Value → Heap → List ℕ → Outcome)
    → ComesTo code n Ends m o
    → ((v : Value) (h : Heap) (cs : List ℕ) (k : Machine) → Ends v h cs k → ComesTo code n Then k (f v h cs))
    → ComesTo code n Then m (then_outcome o f)
comes_then {code = code} {m = m} (ended v h cs) f c next =
    comes_after (reached code m (c.follows.0)) (next v h cs (after_steps code m (c.follows.0)) (c.follows.1))
comes_then out_of_fuel f c next = record { follows = c.follows }
comes_then asking f c next = record { follows = c.follows }
comes_then wrong f c next = comes_wrong

-- the same outcome, after what is done with what it ends with
pub comes_through : {code : Code} {m : Machine} {Ends Then : Value → Heap → List ℕ → Machine → Type 0} {n : ℕ} (o : Outcome)
    → ComesTo code n Ends m o
    → ((v : Value) (h : Heap) (cs : List ℕ) (k : Machine) → Ends v h cs k → ComesTo code n Then k (ended v h cs))
    → ComesTo code n Then m o
comes_through {code = code} {m = m} (ended v h cs) c next =
    comes_after (reached code m (c.follows.0)) (next v h cs (after_steps code m (c.follows.0)) (c.follows.1))
comes_through out_of_fuel c next = record { follows = c.follows }
comes_through asking c next = record { follows = c.follows }
comes_through wrong c next = comes_wrong

pub comes_as : {code : Code} {m : Machine} {Ends Then : Value → Heap → List ℕ → Machine → Type 0} {n : ℕ} (o : Outcome)
    → ((v : Value) (h : Heap) (cs : List ℕ) (k : Machine) → Ends v h cs k → Then v h cs k)
    → ComesTo code n Ends m o
    → ComesTo code n Then m o
comes_as {code = code} {m = m} (ended v h cs) f c = record { follows = (c.follows.0, f v h cs (after_steps code m (c.follows.0)) (c.follows.1)) }
comes_as out_of_fuel f c = record { follows = c.follows }
comes_as asking f c = record { follows = c.follows }
comes_as wrong f c = comes_wrong
