-- Where all variables have values, a context of values is valued.
use Rattle.std.proofs.Common.{◌≡◌, ℕ, zero, suc, List, [], ◌∷◌, refl, sym, subst}
use Rattle.theory_values.specs.Values.{Value, v_unit}
use Rattle.theory_canonical.specs.Skeletons.{Skeleton, sk_o}
use Rattle.theory_canonical.specs.Contexts.{as_term}
use Rattle.theory_denotation.specs.Valuations.{entry_at}
use Rattle.theory_denotation.specs.Valued.{IsOf, ContextValued}
use Rattle.theory_instances_keys.specs.Laws.{with_values}
use Rattle.theory_instances_canonical.specs.Keys.{values_context}
use Rattle.theory_instances_canonical.proofs.Contexts.{stands_is}

pub entry_of_values : (vs : List Value) (n : ℕ) → IsOf sk_o (entry_at (with_values vs) n)
entry_of_values [] n = record { of = v_unit; is = refl }
entry_of_values (v ∷ vs) zero = record { of = v; is = refl }
entry_of_values (v ∷ vs) (suc n) = entry_of_values vs n

pub term_skeleton : {s t : Skeleton} → as_term s ≡ as_term t → s ≡ t
term_skeleton q = cc

pub values_valued : (m : ℕ) (vs : List Value) → ContextValued (values_context m) (with_values vs)
values_valued m vs = record {
  at = λ n s d. subst (λ (t : Skeleton). IsOf t (entry_at (with_values vs) n)) (term_skeleton (sym ((stands_is m n (as_term s) d).0))) (entry_of_values vs n);
}
