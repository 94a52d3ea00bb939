-- A term that may be put for a variable may be put for it under one more binder too, and what stands
-- beside the variable is valued alike.
use Rattle.std.proofs.Common.{◌≡◌, ℕ, suc, List, ◌∷◌, sym, subst, ap, ◌∙◌, refl, inl, inr}
use Rattle.htt_syntax.specs.Trees.{MonoTree, TermTree, m_pair}
use Rattle.theory_renaming.specs.Renaming.{rename_mono}
use Rattle.theory_canonical.specs.Skeletons.{Skeleton}
use Rattle.theory_canonical.specs.Contexts.{Standing, as_mono, as_heap, as_term, Stands, Heads}
use Rattle.theory_canonical.specs.Canonical.{IsCanonicalMono, IsCanonical, n_m_word, n_m_bool, n_m_loc, n_m_unit, n_m_pair, n_m_var}
use Rattle.theory_canonical.proofs.Renamed.{keeps_suc, term_renamed as canonical_renamed}
use Rattle.theory_substitution.specs.Closing.{closing, up}
use Rattle.theory_values.specs.Heaps.{Heap}
use Rattle.theory_substitution_total.specs.Insertion.{Inserted, ins_here, ins_next}
use Rattle.theory_substitution_total.proofs.Places.{place_of, skeleton_at}
use Rattle.theory_denotation.specs.Valuations.{Domain, ValuationEntry, den_mono, den_heap, den_term, Valuation, entry_at, mono_of_entry, mono_in, HeadEntries}
use Rattle.theory_denotation.specs.Denotation.{term_den}
use Rattle.theory_denotation.specs.Valued.{IsOf, ContextValued, HeadsValued}
use Rattle.theory_denotation.proofs.HeadsDenote.{valued_term, valued_other}
use Rattle.theory_denotation_renaming.specs.Insertion.{InsertedEntry, entry_here, entry_next}
use Rattle.theory_denotation_renaming.proofs.Renamed.{agree_suc, term_renamed}
use Rattle.theory_denotation_renaming.proofs.Entries.{entry_beside, entry_put}
use Rattle.theory_denotation_substitution.specs.Put.{MayPutIn}

put_next : {heads : Heads} {e : HeadEntries} {new : TermTree} {s : Skeleton} {x : ℕ} {g whole : List Standing} {w w' : Valuation}
    (standing : Standing) (y : ValuationEntry)
    → ContextValued (standing ∷ g) (y ∷ w)
    → MayPutIn heads e new s x g whole w w'
    → MayPutIn heads e (up new) s (suc x) (standing ∷ g) (standing ∷ whole) (y ∷ w) (y ∷ w')
put_next {e = e} {new = new} {s = s} {x = x} {g = g} {w = w} {w' = w'} standing y z p = record {
  may = record { inserted = ins_next p.may.inserted; canonical = canonical_renamed p.may.canonical (keeps_suc standing g) };
  valuation = subst (λ d. InsertedEntry (suc x) (den_term s d) (y ∷ w) (y ∷ w')) (sym (term_renamed e new (agree_suc y w) s)) (entry_next p.valuation);
  valued = z;
  heads_valued = p.heads_valued;
}

pub put_term : {heads : Heads} {e : HeadEntries} {new : TermTree} {s : Skeleton} {x : ℕ} {g whole : List Standing} {w w' : Valuation}
    (t : Skeleton) (d : Domain t)
    → MayPutIn heads e new s x g whole w w'
    → MayPutIn heads e (up new) s (suc x) (as_term t ∷ g) (as_term t ∷ whole) (den_term t d ∷ w) (den_term t d ∷ w')
put_term t d p = put_next (as_term t) (den_term t d) (valued_term t d p.valued) p

pub put_mono_entry : {heads : Heads} {e : HeadEntries} {new : TermTree} {s : Skeleton} {x : ℕ} {g whole : List Standing} {w w' : Valuation}
    (t : MonoTree)
    → MayPutIn heads e new s x g whole w w'
    → MayPutIn heads e (up new) s (suc x) (as_mono ∷ g) (as_mono ∷ whole) (den_mono t ∷ w) (den_mono t ∷ w')
put_mono_entry t p = put_next as_mono (den_mono t) (valued_other (den_mono t) p.valued).0 p

pub put_heap : {heads : Heads} {e : HeadEntries} {new : TermTree} {s : Skeleton} {x : ℕ} {g whole : List Standing} {w w' : Valuation}
    (h : Heap)
    → MayPutIn heads e new s x g whole w w'
    → MayPutIn heads e (up new) s (suc x) (as_heap ∷ g) (as_heap ∷ whole) (den_heap h ∷ w) (den_heap h ∷ w')
put_heap h p = put_next as_heap (den_heap h) (valued_other (den_heap h) p.valued).1 p

-- a term that is put for the innermost variable
pub put_here : {heads : Heads} {e : HeadEntries} {new : TermTree} {s : Skeleton} {g : List Standing} {w : Valuation}
    → HeadsValued heads e
    → ContextValued g w
    → IsCanonical heads g new s
    → MayPutIn heads e new s 0 g (as_term s ∷ g) w (den_term s (term_den e w new s) ∷ w)
put_here h z c = record { may = record { inserted = ins_here; canonical = c }; valuation = entry_here; valued = z; heads_valued = h }

-- the whole valuation gives the whole context denotations
pub valued_whole : {heads : Heads} {e : HeadEntries} {new : TermTree} {s : Skeleton} {x : ℕ} {g whole : List Standing} {w w' : Valuation}
    → MayPutIn heads e new s x g whole w w'
    → ContextValued whole w'
valued_whole {e = e} {new = new} {s = s} {w = w} {w' = w'} p = record {
  at = λ n t d. elim (place_of p.may.inserted d) [
    | inl (q, b) ↦
        subst (λ u. IsOf u (entry_at w' n)) (skeleton_at b)
        (record { of = term_den e w new s; is = ap (entry_at w') q ∙ entry_put p.valuation })
    | inr (q, b) ↦ subst (λ y. IsOf t y) (entry_beside p.valuation n q) (p.valued.at (closing _ n) t b)
  ];
}

pub mono_beside : {t : MonoTree} {x : ℕ} {s : Skeleton} {g whole : List Standing} {y : ValuationEntry} {w w' : Valuation}
    → IsCanonicalMono whole t
    → Inserted x (as_term s) g whole
    → InsertedEntry x y w w'
    → mono_in w (rename_mono (closing x) t) ≡ mono_in w' t
unfolding rename_mono
mono_beside n_m_word i v = refl
mono_beside n_m_bool i v = refl
mono_beside n_m_loc i v = refl
mono_beside n_m_unit i v = refl
mono_beside (n_m_pair a b) i v = λ j. m_pair (mono_beside a i v j) (mono_beside b i v j)
mono_beside (n_m_var {index = index} d) i v = elim (place_of i d) [ inl (q, b) ↦ elim b [ ] | inr (q, b) ↦ ap mono_of_entry (entry_beside v index q) ]

pub heap_beside : {x n : ℕ} {s : Skeleton} {g whole : List Standing} {y : ValuationEntry} {w w' : Valuation}
    → Stands whole n as_heap
    → Inserted x (as_term s) g whole
    → InsertedEntry x y w w'
    → entry_at w (closing x n) ≡ entry_at w' n
heap_beside {n = n} d i v = elim (place_of i d) [ inl (q, b) ↦ elim b [ ] | inr (q, b) ↦ entry_beside v n q ]
