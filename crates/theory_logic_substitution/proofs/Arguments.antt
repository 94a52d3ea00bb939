-- Arguments put for the innermost variables are further entries of the world.
use Rattle.std.proofs.Common.{◌≡◌, ◌≢◌, ℕ, zero, suc, ◌+◌, List, [], ◌∷◌, length, refl, sym, ap, ◌∙◌, subst, arith}
use Rattle.htt_syntax.specs.Trees.{TermTree, FormulaTree, ArgTree}
use Rattle.theory_renaming.specs.Renaming.{Map, lift, lifts}
use Rattle.theory_truth.specs.Worlds.{Thing, World, th_value, th_heap, thing_at, heap_at}
use Rattle.theory_truth.specs.TermValue.{term_value}
use Rattle.theory_truth.specs.Truth.{Recs, Holds}
use Rattle.theory_truth.specs.Predicates.{recs_of}
use Rattle.theory_truth.specs.Laws.{Agrees}
use Rattle.theory_truth.proofs.Renamed.{agrees_next, value_renamed, truth_renamed, both_ways}
use Rattle.theory_substitution.specs.Closing.{closing}
use Rattle.theory_logic_rules.specs.Sequents.{putting, raised_term, PutArgs, put_none, put_term_first, put_heap_first}
use Rattle.theory_logic_sorts.specs.Sorts.{Sorts, for_value, for_heap, SortedFormula, AreSortedArgs, under_args}
use Rattle.theory_logic_sorts.proofs.Renamed.{keeps_putting, formula_sorted}
use Rattle.theory_logic_sorts.proofs.Substituted.{formula_put}
use Rattle.theory_logic_sorts.proofs.Arguments.{lifts_inside, closes_outermost, above_args, raised_sorted, keeps_args}
use Rattle.theory_logic_substitution.specs.Reindexing.{HasMore, thing_of_arg, world_of_args, AreHeapsIn}
use Rattle.theory_logic_substitution.specs.Laws.{ArgumentsReindex}
use Rattle.theory_logic_substitution.proofs.Terms.{Put, truth_put}
use Rattle.theory_logic_substitution.proofs.Heaps.{agrees_putting}

-- The second has so many things more, in front.
data Above : ℕ → World → World → Type 0 where
  above_none : {w : World} → Above zero w w
  above_more : {k : ℕ} {w v : World} (x : Thing) → Above k w v → Above (suc k) w (x ∷ v)

one_more : {k : ℕ} {x : Thing} {w v : World} → Above k (x ∷ w) v → Above (suc k) w v
one_more {x = x} above_none = above_more x above_none
one_more (above_more y a) = above_more y (one_more a)

above_world : (w inner : World) (arguments : List ArgTree) → Above (length arguments) inner (world_of_args w inner arguments)
above_world w inner [] = above_none
above_world w inner (argument ∷ others) = one_more (above_world w (thing_of_arg w argument ∷ inner) others)

raised_value : {k : ℕ} {w v : World} → Above k w v → (M : TermTree) → term_value v (raised_term k M) ≡ term_value w M
unfolding raised_term
raised_value above_none M = refl
raised_value (above_more {k = k} {v = v} x a) M = value_renamed {m = suc} {w = v} {w' = x ∷ v} (record { at = λ n. refl }) (raised_term k M) ∙ raised_value a M

more_next : {x : ℕ} {t : Thing} {w whole : World} (y : Thing) → HasMore x t w whole → HasMore (suc x) t (y ∷ w) (y ∷ whole)
unfolding closing lift
more_next {x = x} {t = t} {w = w} {whole = whole} y p = record { here = p.here; others = go }
  where
    go : (n : ℕ) → n ≢ suc x → thing_at (y ∷ whole) n ≡ thing_at (y ∷ w) (closing (suc x) n)
    go zero e = refl
    go (suc n) e = p.others n (λ q. e (ap suc q))

more_args : (v : World) (arguments : List ArgTree) (x : ℕ) (t : Thing) (w whole : World)
    → HasMore x t w whole
    → HasMore (x + length arguments) t (world_of_args v w arguments) (world_of_args v whole arguments)
more_args v [] x t w whole p = let e : x ≡ x + 0 = omega arith in subst (λ n. HasMore n t w whole) e p
more_args v (argument ∷ others) x t w whole p =
    let y = thing_of_arg v argument in
    let e : suc x + length others ≡ x + suc (length others) = omega arith in
    subst (λ n. HasMore n t (world_of_args v (y ∷ w) others) (world_of_args v (y ∷ whole) others)) e
    (more_args v others (suc x) t (y ∷ w) (y ∷ whole) (more_next y p))

more_first : (t : Thing) (w : World) → HasMore zero t w (t ∷ w)
unfolding closing
more_first t w = record { here = refl; others = go }
  where
    go : (n : ℕ) → n ≢ zero → thing_at (t ∷ w) n ≡ thing_at w (closing zero n)
    go zero e = absurd (e refl)
    go (suc n) e = refl

-- the outermost of the arguments' entries
more_outermost : (v : World) (arguments : List ArgTree) (t : Thing) (w : World)
    → HasMore (length arguments) t (world_of_args v w arguments) (world_of_args v (t ∷ w) arguments)
more_outermost v arguments t w =
    let e : zero + length arguments ≡ length arguments = omega arith in
    subst (λ n. HasMore n t (world_of_args v w arguments) (world_of_args v (t ∷ w) arguments)) e
    (more_args v arguments zero t w (t ∷ w) (more_first t w))

agrees_args : (v : World) (arguments : List ArgTree) (m : Map) (w u : World)
    → Agrees m w u
    → Agrees (lifts (length arguments) m) (world_of_args v w arguments) (world_of_args v u arguments)
unfolding lifts
agrees_args v [] m w u a = a
agrees_args v (argument ∷ others) m w u a =
    let y = thing_of_arg v argument in
    subst (λ (r : Map). Agrees r (world_of_args v (y ∷ w) others) (world_of_args v (y ∷ u) others)) (lifts_inside (length others) m)
    (agrees_args v others (lift m) (y ∷ w) (y ∷ u) (agrees_next y a))

term_outermost : (w : World) (m : TermTree) (others : List ArgTree) (g : Sorts)
    → Put (raised_term (length others) m) (length others) (under_args others (for_value ∷ g)) (world_of_args w w others)
    (world_of_args w (th_value (term_value w m) ∷ w) others)
term_outermost w m others g = record {
  more =
      subst (λ v. HasMore (length others) (th_value v) (world_of_args w w others) (world_of_args w (th_value (term_value w m) ∷ w) others))
      (sym (raised_value (above_world w w others) m)) (more_outermost w others (th_value (term_value w m)) w);
  sort = (closes_outermost others for_value g).here;
}

pub truth_of_args : (R : Recs) {F G : FormulaTree} {arguments : List ArgTree} (g : Sorts) (w : World)
    → PutArgs arguments F G
    → AreSortedArgs g arguments
    → AreHeapsIn w arguments
    → SortedFormula (under_args arguments g) F
    → Holds R w G ≡ Holds R (world_of_args w w arguments) F
truth_of_args R g w put_none a h d = refl
truth_of_args R g w (put_term_first {m = m} {others = others} p rest) a h d =
    let sorted = formula_put refl (closes_outermost others for_value g) (raised_sorted (above_args others g) m a.0) p d in
    truth_of_args R g w rest a.1 h sorted ∙ truth_put R p refl (term_outermost w m others g) d
truth_of_args R g w (put_heap_first {h = heap} {others = others} {F = F} rest) a h d =
    let sorted = formula_sorted F (keeps_args others (putting heap) (for_heap ∷ g) g (keeps_putting heap g a.0)) d in
    truth_of_args R g w rest a.1 h.1 sorted
    ∙ truth_renamed R F (agrees_args w others (putting heap) (th_heap (heap_at w heap) ∷ w) w (agrees_putting w heap (heap_at w heap) h.0))

pub arguments_are_entries : ArgumentsReindex
arguments_are_entries table g w arguments a h F R p d = both_ways (truth_of_args (recs_of table) g w p a h d)
