-- The entry of each value of a file is what its term denotes where all values of the file are the heads.
use Rattle.std.proofs.Common.{◌≡◌, ℕ, zero, suc, ◌+◌, List, [], ◌∷◌, ◌++◌, length, Some, slice_get, refl, sym, ap, ◌∙◌, subst, arith}
use Rattle.std.proofs.lemmas.Option.{same_Some}
use Rattle.theory_canonical.specs.Skeletons.{Skeleton}
use Rattle.theory_canonical.specs.Contexts.{HasSkeleton, first_head, later_head}
use Rattle.theory_canonical.specs.Canonical.{IsCanonical}
use Rattle.theory_denotation.specs.Valuations.{ValuationEntry, den_term}
use Rattle.theory_denotation.specs.Denotation.{term_den, ValTree, entry_or_none, heads_of_entries, val_entry, entries_of_vals}
use Rattle.theory_denotation.specs.Valued.{IsOf, ContextValued, HeadsValued}
use Rattle.theory_denotation_relations.specs.Files.{heads_of_skeletons, AreVals, vals_more}
use Rattle.theory_denotation_heads.specs.Agreeing.{HeadsAgree}
use Rattle.theory_denotation_heads.specs.Laws.{FileEntriesDenote}
use Rattle.theory_denotation_heads.proofs.Agreed.{term_agrees}

-- Entries of these skeletons.
data KnownFor : List Skeleton → List ValuationEntry → Type 0 where
  known_none : KnownFor [] []
  known_more : {s : Skeleton} {ss : List Skeleton} {x : ValuationEntry} {xs : List ValuationEntry} → IsOf s x → KnownFor ss xs → KnownFor (s ∷ ss) (x ∷ xs)

one_more : {s : Skeleton} {ss : List Skeleton} {x : ValuationEntry} {xs : List ValuationEntry}
    → KnownFor ss xs
    → IsOf s x
    → KnownFor (ss ++ (s ∷ [])) (xs ++ (x ∷ []))
one_more known_none o = known_more o known_none
one_more (known_more p k) o = known_more p (one_more k o)

record Known (xs : List ValuationEntry) (n : ℕ) (s : Skeleton) : Type 0 where
  entry : ValuationEntry
  found : slice_get xs n ≡ Some entry
  is_of : IsOf s entry

known_at : {ss : List Skeleton} {xs : List ValuationEntry} {n : ℕ} {s : Skeleton} → KnownFor ss xs → HasSkeleton ss n s → Known xs n s
known_at known_none d = elim d [ ]
known_at (known_more {x = x} o k) first_head = record { entry = x; found = refl; is_of = o }
known_at (known_more o k) (later_head d) = let r = known_at k d in record { entry = r.entry; found = r.found; is_of = r.is_of }

in_front : (xs ys : List ValuationEntry) (n : ℕ) (x : ValuationEntry) → slice_get xs n ≡ Some x → slice_get (xs ++ ys) n ≡ Some x
in_front [] ys n x q = absurd (cc)
in_front (z ∷ xs) ys zero x q = q
in_front (z ∷ xs) ys (suc n) x q = in_front xs ys n x q

at_end : (xs : List ValuationEntry) (y : ValuationEntry) → slice_get (xs ++ y ∷ []) (length xs) ≡ Some y
at_end [] y = refl
at_end (x ∷ xs) y = at_end xs y

longer : (xs : List ValuationEntry) (y : ValuationEntry) → length (xs ++ y ∷ []) ≡ suc (length xs)
longer [] y = refl
longer (x ∷ xs) y = ap suc (longer xs y)

kept : (known : List ValuationEntry) (vs : List ValTree) (n : ℕ) (x : ValuationEntry)
    → slice_get known n ≡ Some x
    → slice_get (entries_of_vals known vs) n ≡ Some x
kept known [] n x q = q
kept known (v ∷ vs) n x q =
    kept (known ++ (val_entry (heads_of_entries known) v ∷ [])) vs n x (in_front known (val_entry (heads_of_entries known) v ∷ []) n x q)

closed : ContextValued [] []
closed = record { at = λ n s d. elim d [ ] }

known_valued : {ss : List Skeleton} {xs : List ValuationEntry} → KnownFor ss xs → HeadsValued (heads_of_skeletons ss) (heads_of_entries xs)
known_valued k = record { vals = λ n s d. let r = known_at k d in subst (IsOf s) (sym (ap entry_or_none r.found)) r.is_of; made = λ n s values d. elim d [ ] }

known_agrees : {ss : List Skeleton} (xs : List ValuationEntry) (vs : List ValTree)
    → KnownFor ss xs
    → HeadsAgree (heads_of_skeletons ss) (heads_of_entries xs) (heads_of_entries (entries_of_vals xs vs))
known_agrees xs vs k = record {
  vals = λ n s d. let r = known_at k d in ap entry_or_none (kept xs vs n r.entry r.found) ∙ sym (ap entry_or_none r.found);
  made = λ n s values d. elim d [ ];
}

-- what the file's entries are to be at a value
abbrev Denotes : List ValuationEntry → ℕ → ValTree → Type 0
Denotes all n v = slice_get all n ≡ Some (den_term v.skeleton (term_den (heads_of_entries all) [] v.term v.skeleton))

first_denotes : {ss : List Skeleton} (known : List ValuationEntry) (v : ValTree) (vs : List ValTree)
    → KnownFor ss known
    → IsCanonical (heads_of_skeletons ss) [] v.term v.skeleton
    → Denotes (entries_of_vals known (v ∷ vs)) (length known) v
first_denotes {ss = ss} known v vs k c =
    let x = val_entry (heads_of_entries known) v in
    kept (known ++ (x ∷ [])) vs (length known) x (at_end known x)
    ∙ ap (λ d. Some (den_term v.skeleton d))
    (sym (term_agrees (heads_of_skeletons ss) (heads_of_entries known) (heads_of_entries (entries_of_vals known (v ∷ vs))) (known_valued k)
    (known_agrees known (v ∷ vs) k) c closed))

each_denotes : {ss : List Skeleton} (known : List ValuationEntry) (vs : List ValTree)
    → KnownFor ss known
    → AreVals ss vs
    → (j : ℕ) (v : ValTree)
    → slice_get vs j ≡ Some v
    → Denotes (entries_of_vals known vs) (length known + j) v
each_denotes known [] k a j v q = absurd (cc)
each_denotes known (u ∷ vs) k (vals_more c r others) zero v q =
    let e : length known ≡ length known + 0 = omega arith in
    subst (λ n. Denotes (entries_of_vals known (u ∷ vs)) n v) e
    (subst (Denotes (entries_of_vals known (u ∷ vs)) (length known)) (same_Some u v q) (first_denotes known u vs k c))
each_denotes known (u ∷ vs) k (vals_more c r others) (suc j) v q =
    let x = val_entry (heads_of_entries known) u in
    let l = longer known x in
    let e : length (known ++ (x ∷ [])) + j ≡ length known + suc j = omega (arith, l) in
    subst (λ n. Denotes (entries_of_vals known (u ∷ vs)) n v) e
    (each_denotes (known ++ (x ∷ [])) vs (one_more k (record { of = term_den (heads_of_entries known) [] u.term u.skeleton; is = refl }))
    others j v q)

pub denote : FileEntriesDenote
denote vs a n v q =
    let e : 0 + n ≡ n = omega arith in
    ap entry_or_none (subst (λ m. Denotes (entries_of_vals [] vs) m v) e (each_denotes [] vs known_none a n v q))
