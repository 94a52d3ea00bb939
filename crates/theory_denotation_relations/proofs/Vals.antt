-- The values of a file are related, denote at their skeletons and end in computations.
use Rattle.std.proofs.Common.{ℕ, List, [], ◌∷◌, ◌++◌, refl}
use Rattle.std.specs.Prelude.{slice_get}
use Rattle.theory_canonical.specs.Skeletons.{Skeleton}
use Rattle.theory_canonical.specs.Contexts.{HasSkeleton, first_head, later_head}
use Rattle.theory_canonical.specs.Canonical.{IsCanonical}
use Rattle.theory_denotation.specs.Valuations.{ValuationEntry}
use Rattle.theory_denotation.specs.Denotation.{term_den, ValTree, entry_or_none, heads_of_entries, val_entry, entries_of_vals, heads_of_vals}
use Rattle.theory_denotation.specs.Valued.{EndsInRun, HeadsRun, HeadsValued}
use Rattle.theory_denotation_relations.specs.Relating.{Relation, IsKept, RelatedEntries, RelatedValuations, RelatedHeads}
use Rattle.theory_denotation_relations.specs.Files.{heads_of_skeletons, AreVals, vals_end, vals_more, skeletons_after, heads_of_file}
use Rattle.theory_denotation_relations.proofs.Related.{term_related}

-- Each entry is related to itself at its skeleton, which ends in a computation.
data AreEntries (Q : Relation) : List Skeleton → List ValuationEntry → Type 0 where
  entries_end : AreEntries Q [] []
  entries_more : {s : Skeleton} {ss : List Skeleton} {x : ValuationEntry} {xs : List ValuationEntry}
      → EndsInRun s
      → RelatedEntries Q s x x
      → AreEntries Q ss xs
      → AreEntries Q (s ∷ ss) (x ∷ xs)

one_more : {Q : Relation} {s : Skeleton} {ss : List Skeleton} {x : ValuationEntry} {xs : List ValuationEntry}
    → AreEntries Q ss xs
    → EndsInRun s
    → RelatedEntries Q s x x
    → AreEntries Q (ss ++ (s ∷ [])) (xs ++ (x ∷ []))
one_more entries_end r o = entries_more r o entries_end
one_more (entries_more i p a) r o = entries_more i p (one_more a r o)

entry_related : {Q : Relation} {s : Skeleton} {ss : List Skeleton} {xs : List ValuationEntry} {n : ℕ}
    → AreEntries Q ss xs
    → HasSkeleton ss n s
    → RelatedEntries Q s (entry_or_none (slice_get xs n)) (entry_or_none (slice_get xs n))
entry_related entries_end d = elim d [ ]
entry_related (entries_more r o a) first_head = o
entry_related (entries_more r o a) (later_head d) = entry_related a d

entry_runs : {Q : Relation} {s : Skeleton} {ss : List Skeleton} {xs : List ValuationEntry} {n : ℕ} → AreEntries Q ss xs → HasSkeleton ss n s → EndsInRun s
entry_runs entries_end d = elim d [ ]
entry_runs (entries_more r o a) first_head = r
entry_runs (entries_more r o a) (later_head d) = entry_runs a d

heads_related : {Q : Relation} {ss : List Skeleton} {xs : List ValuationEntry}
    → AreEntries Q ss xs
    → RelatedHeads Q (heads_of_skeletons ss) (heads_of_entries xs) (heads_of_entries xs)
heads_related a = record { vals = λ n s d. entry_related a d; made = λ n s values d. elim d [ ] }

module _ (Q : Relation) (kept : IsKept Q) where
  closed : RelatedValuations Q [] [] []
  closed = record { terms = λ n s d. elim d [ ]; monos = λ n d. elim d [ ] }

  val_related : {ss : List Skeleton} {xs : List ValuationEntry} {v : ValTree}
      → AreEntries Q ss xs
      → IsCanonical (heads_of_skeletons ss) [] v.term v.skeleton
      → RelatedEntries Q v.skeleton (val_entry (heads_of_entries xs) v) (val_entry (heads_of_entries xs) v)
  val_related {xs = xs} {v = v} a c =
      let d = term_den (heads_of_entries xs) [] v.term v.skeleton in
      record { left = d; right = d; is_left = refl; is_right = refl; related = term_related Q kept (heads_related a) c closed }

  vals_related : {ss : List Skeleton} {xs : List ValuationEntry} {vs : List ValTree}
      → AreEntries Q ss xs
      → AreVals ss vs
      → AreEntries Q (skeletons_after ss vs) (entries_of_vals xs vs)
  vals_related a vals_end = a
  vals_related a (vals_more {v = v} c r others) = vals_related (one_more a r (val_related {v = v} a c)) others

  pub file_related : (vs : List ValTree) → AreVals [] vs → RelatedHeads Q (heads_of_file vs) (heads_of_vals vs) (heads_of_vals vs)
  file_related vs a = heads_related (vals_related entries_end a)

  pub file_valued : (vs : List ValTree) → AreVals [] vs → HeadsValued (heads_of_file vs) (heads_of_vals vs)
  file_valued vs a = record {
    vals = λ n s d. let o = entry_related (vals_related entries_end a) d in record { of = o.left; is = o.is_left };
    made = λ n s values d. elim d [ ];
  }

  pub file_runs : (vs : List ValTree) → AreVals [] vs → HeadsRun (heads_of_file vs)
  file_runs vs a = record { vals = λ n s d. entry_runs (vals_related entries_end a) d; made = λ n s d. elim d [ ] }
