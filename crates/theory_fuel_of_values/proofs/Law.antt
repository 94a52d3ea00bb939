-- A canonical computation has the same outcomes where each use of a value takes fuel and where none does.
use Rattle.std.proofs.Common.{◌≡◌, ◌≢◌, ℕ, zero, suc, List, [], ◌∷◌, map, Some, None, slice_get, sym, ap, ◌∙◌, subst}
use Rattle.std.proofs.lemmas.Option.{same_Some}
use Rattle.theory_values.specs.Heaps.{Heap}
use Rattle.theory_canonical.specs.Skeletons.{Skeleton, sk_c, skeleton}
use Rattle.theory_canonical.specs.Canonical.{IsCanonical}
use Rattle.theory_denotation.specs.Outcomes.{Outcome, Running, out_of_fuel}
use Rattle.theory_denotation.specs.Valuations.{den_term}
use Rattle.theory_denotation.specs.Denotation.{term_den}
use Rattle.theory_denotation_heads.proofs.Files.{denote}
use Rattle.theory_instances.specs.Calls.{ProgramVal, Program}
use Rattle.theory_instances_canonical.specs.Keys.{heads_with, val_tree, IsCanonicalProgram}
use Rattle.theory_instances_canonical.proofs.More.{val_canonical}
use Rattle.theory_fuel_of_values.specs.Reaching.{ReachedBy}
use Rattle.theory_fuel_of_values.specs.Laws.{plain_heads, CountedValuesKeepOutcomes, InstanceHeadsKeepOutcomes}
use Rattle.theory_fuel_of_values.proofs.Terms.{term_reached}
use Rattle.theory_fuel_of_values.proofs.Values.{closed, counted_reached, plain_reached}

none_or_some : {A : Type 0} {x : A} → None ≡ Some x → ⊥
none_or_some q = cc

tree_there : (vals : List ProgramVal) (n : ℕ) (v : ProgramVal) → slice_get vals n ≡ Some v → slice_get (map val_tree vals) n ≡ Some (val_tree v)
tree_there [] n v q = absurd (none_or_some q)
tree_there (u ∷ vals) zero v q = ap (λ (x : ProgramVal). Some (val_tree x)) (same_Some u v q)
tree_there (u ∷ vals) (suc n) v q = tree_there vals n v q

plain_is : (p : Program)
    → IsCanonicalProgram p
    → (n : ℕ) (v : ProgramVal)
    → slice_get p.vals n ≡ Some v
    → (plain_heads p).vals n ≡ den_term (skeleton v.ty) (term_den (plain_heads p) [] v.term (skeleton v.ty))
plain_is p a n v there = denote (map val_tree p.vals) a n (val_tree v) (tree_there p.vals n v there)

reached_end : (f g : Running) (h : Heap) (cs : List ℕ) (end : Outcome)
    → ReachedBy f g
    → end ≢ out_of_fuel
    → (n : ℕ) × (f n h cs ≡ end)
    → (n : ℕ) × (g n h cs ≡ end)
reached_end f g h cs end q other (n, is) = let found = q.at n h cs (λ x. other (sym is ∙ x)) in (found.0, found.1 ∙ is)

pub counted : CountedValuesKeepOutcomes
counted p e a c term canonical h cs end other =
    let plain = plain_heads p in (
      reached_end (term_den e [] term sk_c) (term_den plain [] term sk_c) h cs end
          (term_reached (plain_reached p.vals e plain a c.at (plain_is p a)) canonical closed) other,
      reached_end (term_den plain [] term sk_c) (term_den e [] term sk_c) h cs end
          (term_reached (counted_reached p.vals e plain a c.at (plain_is p a)) canonical closed) other,
    )

pub instance_heads : InstanceHeadsKeepOutcomes
instance_heads p keys e a heads number v there run =
    counted p e a (record { at = heads.vals }) v.term
    (subst (λ (s : Skeleton). IsCanonical (heads_with p []) [] v.term s) run (val_canonical p a number v there))
