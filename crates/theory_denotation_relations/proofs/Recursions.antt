-- Recursions are related where what they repeat keeps the relation.
use Rattle.std.proofs.Common.{◌≡◌, ℕ, zero, suc, ◌+◌, subst, arith}
use Rattle.theory_canonical.specs.Skeletons.{Skeleton}
use Rattle.theory_denotation.specs.Valuations.{Domain}
use Rattle.theory_denotation.specs.Recursion.{entered, unentered, turns, by_fuel, recursion}
use Rattle.theory_denotation.specs.Valued.{EndsInRun, ends_c, ends_arrow, ends_all}
use Rattle.theory_denotation_relations.specs.Relating.{Relation, Related, IsKept}

module _ (Q : Relation) (kept : IsKept Q) where
  unentered_related : {s : Skeleton} → EndsInRun s → (d : Domain s) → Related Q s (unentered s) d
  unentered_related ends_c d = kept.unentered d
  unentered_related (ends_arrow r) d = λ x y q. unentered_related r (d y)
  unentered_related (ends_all r) d = λ t. unentered_related r (d t)

  pub entered_related : {s : Skeleton} → EndsInRun s → (d c : Domain s) → Related Q s d c → Related Q s (entered s d) (entered s c)
  entered_related ends_c d c q = kept.entered d c q
  entered_related (ends_arrow r) d c q = λ x y p. entered_related r (d x) (c y) (q x y p)
  entered_related (ends_all r) d c q = λ t. entered_related r (d t) (c t) (q t)

  fuel_related : {s : Skeleton}
      → EndsInRun s
      → (f g : ℕ → Domain s)
      → ((m more : ℕ) → Related Q s (f m) (g (m + more)))
      → Related Q s (by_fuel s f) (by_fuel s g)
  fuel_related ends_c f g q = kept.by_fuel f g q
  fuel_related (ends_arrow r) f g q = λ x y p. fuel_related r (λ m. f m x) (λ m. g m y) (λ m more. q m more x y p)
  fuel_related (ends_all r) f g q = λ t. fuel_related r (λ m. f m t) (λ m. g m t) (λ m more. q m more t)

  turns_related : {s : Skeleton}
      → EndsInRun s
      → (f g : Domain s → Domain s)
      → ((d c : Domain s) → Related Q s d c → Related Q s (f d) (g c))
      → (m more : ℕ)
      → Related Q s (turns s f m) (turns s g (m + more))
  turns_related {s = s} r f g q zero more = unentered_related r (turns s g (zero + more))
  turns_related {s = s} r f g q (suc m) more =
      let e : suc (m + more) ≡ suc m + more = omega arith in
      subst (λ k. Related Q s (turns s f (suc m)) (turns s g k)) e
      (entered_related r (f (turns s f m)) (g (turns s g (m + more)))
      (q (turns s f m) (turns s g (m + more)) (turns_related r f g q m more)))

  pub recursion_related : {s : Skeleton}
      → EndsInRun s
      → (f g : Domain s → Domain s)
      → ((d c : Domain s) → Related Q s d c → Related Q s (f d) (g c))
      → Related Q s (recursion s f) (recursion s g)
  recursion_related {s = s} r f g q = fuel_related r (turns s f) (turns s g) (turns_related r f g q)
