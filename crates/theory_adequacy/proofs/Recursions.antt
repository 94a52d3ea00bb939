-- A recursive function of the text realises what the recursion denotes: it realises each of the turns,
-- and takes its arguments without evaluation.
use Rattle.std.proofs.Common.{ℕ, zero, suc, List, ◌∷◌, refl}
use Rattle.htt_syntax.specs.Trees.{TyTree, FixTree}
use Rattle.theory_meaning.specs.Closures.{RunValue, fix_of, Env, with_value, Items}
use Rattle.theory_canonical.specs.Skeletons.{skeleton}
use Rattle.theory_typing.specs.Contexts.{Context, Environment, Obligation}
use Rattle.theory_typing.specs.Typing.{FitsFix, fix_param, fix_body}
use Rattle.theory_denotation.specs.Valuations.{Domain, den_term, Valuation}
use Rattle.theory_denotation.specs.Recursion.{entered, unentered, turns, by_fuel}
use Rattle.theory_adequacy.specs.Adequacy.{Realises}
use Rattle.theory_adequacy.specs.Laws.{RecursionIsRealised}
use Rattle.theory_adequacy.proofs.Fuel.{eventually_is, eventually_was}

module _ (items : Items) where
  -- what is never entered wants fuel
  pub realises_unentered : {env : Environment} {g : Context} {whole ty : TyTree} {fix r : FixTree} {o : List Obligation}
      → FitsFix env g whole fix ty r o
      → (w : Valuation) (e0 e : Env) (fix0 : FixTree)
      → Realises items w ty (skeleton ty) (fix_of e0 fix0 e fix) (unentered (skeleton ty))
  unfolding Realises skeleton
  realises_unentered (fix_param {argument' = argument'} {rest = rest} {answer = answer} a) w e0 e fix0 = λ x d h.
      eventually_is (λ y. Realises items (den_term (skeleton argument') d ∷ w) answer (skeleton answer) y (unentered (skeleton answer)))
      (λ i. refl) (realises_unentered a (den_term (skeleton argument') d ∷ w) e0 (with_value x e) fix0)
  realises_unentered (fix_body a) w e0 e fix0 = λ n h cs has. absurd (has refl)

  -- what realises each of many, realises them by fuel
  pub realises_by_fuel : {env : Environment} {g : Context} {whole ty : TyTree} {fix r : FixTree} {o : List Obligation}
      → FitsFix env g whole fix ty r o
      → (w : Valuation) (e0 e : Env) (fix0 : FixTree) (f : ℕ → Domain (skeleton ty))
      → ((m : ℕ) → Realises items w ty (skeleton ty) (fix_of e0 fix0 e fix) (f m))
      → Realises items w ty (skeleton ty) (fix_of e0 fix0 e fix) (by_fuel (skeleton ty) f)
  unfolding Realises skeleton
  realises_by_fuel (fix_param {argument' = argument'} {rest = rest} {answer = answer} a) w e0 e fix0 f all = λ x d h.
      let inner = den_term (skeleton argument') d ∷ w in
      eventually_is (λ y. Realises items inner answer (skeleton answer) y (by_fuel (skeleton answer) (λ m. f m d))) (λ i. refl)
      (realises_by_fuel a inner e0 (with_value x e) fix0 (λ m. f m d) (λ m.
      eventually_was (fix_of e0 fix0 (with_value x e) rest) (λ y. Realises items inner answer (skeleton answer) y (f m d)) (all m x d h)))
  realises_by_fuel (fix_body a) w e0 e fix0 f all = λ n h cs. all (suc n) n h cs

  pub realises_turns : (ty : TyTree) (w : Valuation) (u : RunValue) (f : Domain (skeleton ty) → Domain (skeleton ty))
      → Realises items w ty (skeleton ty) u (unentered (skeleton ty))
      → ((d : Domain (skeleton ty)) → Realises items w ty (skeleton ty) u d → Realises items w ty (skeleton ty) u (entered (skeleton ty) (f d)))
      → (m : ℕ)
      → Realises items w ty (skeleton ty) u (turns (skeleton ty) f m)
  realises_turns ty w u f base step zero = base
  realises_turns ty w u f base step (suc m) = step (turns (skeleton ty) f m) (realises_turns ty w u f base step m)

pub recursed : RecursionIsRealised
recursed items env g whole ty fix r o d w own all v f keeps =
    realises_by_fuel items d w own v all (turns (skeleton ty) f)
    (realises_turns items ty w (fix_of own all v fix) f (realises_unentered items d w own v all) keeps)
