-- The counted entries of a canonical program's values: they are steady, and each is what its term denotes, entered,
-- for all entries of heads that have them.
use Rattle.std.proofs.Common.{◌≡◌, ℕ, zero, suc, ◌+◌, List, [], ◌∷◌, ◌++◌, length, map, Some, slice_get, refl, sym, ap, ◌∙◌, subst, arith}
use Rattle.std.proofs.lemmas.List.{append-nil, append_assoc}
use Rattle.std.proofs.lemmas.Option.{same_Some}
use Rattle.theory_canonical.specs.Skeletons.{Skeleton, skeleton}
use Rattle.theory_canonical.specs.Canonical.{IsCanonical}
use Rattle.theory_denotation.specs.Valuations.{ValuationEntry, den_term, HeadEntries}
use Rattle.theory_denotation.specs.Recursion.{entered}
use Rattle.theory_denotation.specs.Denotation.{term_den, entry_or_none}
use Rattle.theory_denotation.specs.Valued.{EndsInRun, ContextValued}
use Rattle.theory_denotation_relations.specs.Files.{heads_of_skeletons, AreVals, vals_more}
use Rattle.theory_denotation_heads.specs.Agreeing.{HeadsAgree}
use Rattle.theory_denotation_heads.proofs.Agreed.{term_agrees}
use Rattle.theory_denotation_unfolding.specs.Agreement.{SteadyValuation}
use Rattle.theory_denotation_unfolding.proofs.Recursions.{entered_agree}
use Rattle.theory_denotation_unfolding.proofs.Agreed as steady
use Rattle.theory_instances.specs.Calls.{ProgramVal}
use Rattle.theory_instances_canonical.specs.Keys.{val_tree}
use Rattle.theory_instances_canonical.specs.Counted.{counted_entry}
use Rattle.theory_instances_heads.specs.Heads.{MadeFunction, counted_entries, heads_from}
use Rattle.theory_instances_heads.proofs.Each.{Each, each_none, one_more, found, in_front, at_end, longer, SteadyEntry, SteadyMade, from_valued, from_steady}

closed : ContextValued [] []
closed = record { at = λ n s d. elim d [ ] }

closed_steady : SteadyValuation [] []
closed_steady bound = record { terms = λ n s d. elim d [ ]; monos = λ n d. elim d [ ] }

abbrev Known : List Skeleton → List ValuationEntry → Type 0
Known ss xs = Each SteadyEntry ss xs

none_made : Each SteadyMade [] []
none_made = each_none

counted_steady : {ss : List Skeleton} {xs : List ValuationEntry} (v : ProgramVal)
    → Known ss xs
    → IsCanonical (heads_of_skeletons ss) [] v.term (skeleton v.ty)
    → EndsInRun (skeleton v.ty)
    → SteadyEntry (skeleton v.ty) (counted_entry (heads_from xs []) v)
counted_steady {xs = xs} v k c r bound =
    let d = term_den (heads_from xs []) [] v.term (skeleton v.ty) in record {
      left = entered (skeleton v.ty) d;
      right = entered (skeleton v.ty) d;
      is_left = refl;
      is_right = refl;
      agree = entered_agree r bound d d (λ i l. steady.term_agrees i c (from_steady k none_made i) (closed_steady i));
    }

-- all entries are so
pub all_steady : {ss : List Skeleton} {xs : List ValuationEntry} (vals : List ProgramVal)
    → Known ss xs
    → AreVals ss (map val_tree vals)
    → Known (ss ++ map (λ (v : ProgramVal). skeleton v.ty) vals) (counted_entries xs vals)
all_steady {ss = ss} {xs = xs} [] k a = subst (λ (l : List Skeleton). Known l xs) (sym (append-nil ss)) k
all_steady {ss = ss} {xs = xs} (v ∷ vals) k (vals_more c r others) =
    subst (λ (l : List Skeleton). Known l (counted_entries xs (v ∷ vals)))
    (append_assoc ss (skeleton v.ty ∷ []) (map (λ (u : ProgramVal). skeleton u.ty) vals))
    (all_steady {ss = ss ++ (skeleton v.ty ∷ [])} {xs = xs ++ (counted_entry (heads_from xs []) v ∷ [])} vals
    (one_more (skeleton v.ty) (counted_entry (heads_from xs []) v) k (counted_steady v k c r)) others)

kept : (known : List ValuationEntry) (vals : List ProgramVal) (n : ℕ) (x : ValuationEntry)
    → slice_get known n ≡ Some x
    → slice_get (counted_entries known vals) n ≡ Some x
kept known [] n x q = q
kept known (v ∷ vals) n x q =
    kept (known ++ (counted_entry (heads_from known []) v ∷ [])) vals n x (in_front known (counted_entry (heads_from known []) v ∷ []) n x q)

module _ (all : List ValuationEntry) (fs : List MadeFunction) where
  abbrev e : HeadEntries
  e = heads_from all fs

  -- the entries before agree with all
  before_agrees : {ss : List Skeleton} (xs : List ValuationEntry)
      → Known ss xs
      → ((n : ℕ) (x : ValuationEntry) → slice_get xs n ≡ Some x → slice_get all n ≡ Some x)
      → HeadsAgree (heads_of_skeletons ss) (heads_from xs []) e
  before_agrees xs k stays = record {
    vals = λ n s d. let r = found k d in ap entry_or_none (stays n r.it r.there) ∙ sym (ap entry_or_none r.there);
    made = λ n s values d. elim d [ ];
  }

  first_is : {ss : List Skeleton} (known : List ValuationEntry) (v : ProgramVal) (vals : List ProgramVal)
      → Known ss known
      → IsCanonical (heads_of_skeletons ss) [] v.term (skeleton v.ty)
      → counted_entries known (v ∷ vals) ≡ all
      → slice_get all (length known) ≡ Some (counted_entry e v)
  first_is {ss = ss} known v vals k c q =
      let x = counted_entry (heads_from known []) v in
      let stays : (n : ℕ) (y : ValuationEntry) → slice_get (known ++ (x ∷ [])) n ≡ Some y → slice_get all n ≡ Some y = λ n y r.
      subst (λ (l : List ValuationEntry). slice_get l n ≡ Some y) q (kept (known ++ (x ∷ [])) vals n y r) in
      stays (length known) x (at_end known x)
      ∙ ap (λ d. Some (den_term (skeleton v.ty) (entered (skeleton v.ty) d)))
      (sym (term_agrees (heads_of_skeletons ss) (heads_from known []) e (from_valued k none_made)
      (before_agrees known k (λ n y r. stays n y (in_front known (x ∷ []) n y r))) c closed))

  each_is : {ss : List Skeleton} (known : List ValuationEntry) (vals : List ProgramVal)
      → Known ss known
      → AreVals ss (map val_tree vals)
      → counted_entries known vals ≡ all
      → (j : ℕ) (v : ProgramVal)
      → slice_get vals j ≡ Some v
      → slice_get all (length known + j) ≡ Some (counted_entry e v)
  each_is known [] k a q j v found_at = absurd (cc)
  each_is known (u ∷ vals) k (vals_more c r others) q zero v found_at =
      let i : length known ≡ length known + 0 = omega arith in
      subst (λ n. slice_get all n ≡ Some (counted_entry e v)) i
      (subst (λ (w : ProgramVal). slice_get all (length known) ≡ Some (counted_entry e w)) (same_Some u v found_at) (first_is known u vals k c q))
  each_is {ss = ss} known (u ∷ vals) k (vals_more c r others) q (suc j) v found_at =
      let x = counted_entry (heads_from known []) u in
      let l = longer known x in
      let i : length (known ++ (x ∷ [])) + j ≡ length known + suc j = omega (arith, l) in
      subst (λ n. slice_get all n ≡ Some (counted_entry e v)) i
      (each_is {ss = ss ++ (skeleton u.ty ∷ [])} (known ++ (x ∷ [])) vals (one_more (skeleton u.ty) x k (counted_steady u k c r)) others q j v found_at)

  pub vals_counted : (vals : List ProgramVal)
      → AreVals [] (map val_tree vals)
      → counted_entries [] vals ≡ all
      → (n : ℕ) (v : ProgramVal)
      → slice_get vals n ≡ Some v
      → e.vals n ≡ counted_entry e v
  vals_counted vals a q n v there =
      let i : 0 + n ≡ n = omega arith in ap entry_or_none (subst (λ m. slice_get all m ≡ Some (counted_entry e v)) i (each_is [] vals each_none a q n v there))
