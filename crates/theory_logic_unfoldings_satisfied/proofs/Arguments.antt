-- Arguments that are put for the innermost variables are further entries of the valuation.
use Rattle.std.proofs.Common.{◌≡◌, ℕ, zero, suc, ◌+◌, List, [], ◌∷◌, length, arith, refl, sym, ◌∙◌, subst}
use Rattle.htt_syntax.specs.Trees.{TermTree, FormulaTree, ArgTree, a_heap, a_term}
use Rattle.theory_renaming.specs.Renaming.{Map, lift, lifts}
use Rattle.theory_truth.specs.Truth.{Recs}
use Rattle.theory_truth.specs.Predicates.{recs_of}
use Rattle.theory_truth.proofs.Renamed.{both_ways}
use Rattle.theory_canonical.specs.Skeletons.{sk_o}
use Rattle.theory_canonical.specs.Contexts.{Standing, as_heap, as_term, Stands, here, there, KeepsStandings, Heads}
use Rattle.theory_canonical.specs.Canonical.{IsCanonical, IsCanonicalFormula}
use Rattle.theory_canonical.proofs.Renamed.{keeps_lift, keeps_suc, term_renamed, formula_renamed}
use Rattle.theory_logic_axioms.specs.Laws.{AreCanonicalArgs}
use Rattle.theory_logic_rules.specs.Sequents.{putting, raised_term, PutArgs, put_none, put_term_first, put_heap_first}
use Rattle.theory_logic_sorts.proofs.Arguments.{lifts_inside}
use Rattle.theory_substitution_total.specs.Insertion.{Inserted, ins_here, ins_next}
use Rattle.theory_substitution_total.specs.Laws.{MayBePut}
use Rattle.theory_substitution_total.proofs.Results.{formula_result}
use Rattle.theory_denotation.specs.Valuations.{Domain, ValuationEntry, den_heap, den_term, Valuation, entry_at, heap_in, HeadEntries}
use Rattle.theory_denotation.specs.Denotation.{term_den}
use Rattle.theory_denotation.specs.Satisfaction.{Satisfies}
use Rattle.theory_denotation.specs.Valued.{ContextValued, HeadsValued}
use Rattle.theory_denotation.proofs.HeadsDenote.{valued_term, valued_other}
use Rattle.theory_denotation_renaming.specs.Along.{AgreeAlong}
use Rattle.theory_denotation_renaming.specs.Insertion.{InsertedEntry, entry_here, entry_next}
use Rattle.theory_denotation_renaming.proofs.Renamed as renaming
use Rattle.theory_denotation_renaming.proofs.RenamedTruth.{truth_renamed}
use Rattle.theory_denotation_substitution.specs.Put.{MayPutIn}
use Rattle.theory_denotation_substitution.proofs.Formulas.{formula_put}
use Rattle.theory_logic_unfoldings_satisfied.specs.Entries.{standing_of_arg, entry_of_arg, with_args, with_entries, AreHeapsIn}
use Rattle.theory_logic_unfoldings_satisfied.specs.Laws.{ArgumentsAreEntries}

-- The second list has so many elements more, in front.
data Above {A : Type 0} : ℕ → List A → List A → Type 0 where
  above_none : {g : List A} → Above zero g g
  above_more : {k : ℕ} {g h : List A} (x : A) → Above k g h → Above (suc k) g (x ∷ h)

one_more : {A : Type 0} {k : ℕ} {x : A} {g h : List A} → Above k (x ∷ g) h → Above (suc k) g h
one_more {x = x} above_none = above_more x above_none
one_more (above_more y a) = above_more y (one_more a)

above_args : (arguments : List ArgTree) (g : List Standing) → Above (length arguments) g (with_args arguments g)
above_args [] g = above_none
above_args (argument ∷ others) g = one_more (above_args others (standing_of_arg argument ∷ g))

above_entries : (e : HeadEntries) (w : Valuation) (arguments : List ArgTree) (inner : Valuation)
    → Above (length arguments) inner (with_entries e w arguments inner)
above_entries e w [] inner = above_none
above_entries e w (argument ∷ others) inner = one_more (above_entries e w others (entry_of_arg e w argument ∷ inner))

raised_canonical : {heads : Heads} {k : ℕ} {g h : List Standing} (m : TermTree)
    → Above k g h
    → IsCanonical heads g m sk_o
    → IsCanonical heads h (raised_term k m) sk_o
unfolding raised_term
raised_canonical m above_none d = d
raised_canonical m (above_more {h = h} x a) d = term_renamed (raised_canonical m a d) (keeps_suc x h)

raised_den : (e : HeadEntries) {k : ℕ} {w v : Valuation} (m : TermTree) → Above k w v → term_den e v (raised_term k m) sk_o ≡ term_den e w m sk_o
unfolding raised_term
raised_den e m above_none = refl
raised_den e m (above_more {k = k} {h = v} x a) = renaming.term_renamed e (raised_term k m) (renaming.agree_suc x v) sk_o ∙ raised_den e m a

-- the outermost of the arguments' entries
inserted_args : (arguments : List ArgTree) (x : ℕ) (s : Standing) (g whole : List Standing)
    → Inserted x s g whole
    → Inserted (x + length arguments) s (with_args arguments g) (with_args arguments whole)
inserted_args [] x s g whole i = let q : x ≡ x + 0 = omega arith in subst (λ (n : ℕ). Inserted n s g whole) q i
inserted_args (argument ∷ others) x s g whole i =
    let t = standing_of_arg argument in
    let q : suc x + length others ≡ x + suc (length others) = omega arith in
    subst (λ (n : ℕ). Inserted n s (with_args others (t ∷ g)) (with_args others (t ∷ whole))) q
    (inserted_args others (suc x) s (t ∷ g) (t ∷ whole) (ins_next i))

inserted_entries : (e : HeadEntries) (v : Valuation) (arguments : List ArgTree) (x : ℕ) (y : ValuationEntry) (w whole : Valuation)
    → InsertedEntry x y w whole
    → InsertedEntry (x + length arguments) y (with_entries e v arguments w) (with_entries e v arguments whole)
inserted_entries e v [] x y w whole i = let q : x ≡ x + 0 = omega arith in subst (λ (n : ℕ). InsertedEntry n y w whole) q i
inserted_entries e v (argument ∷ others) x y w whole i =
    let t = entry_of_arg e v argument in
    let q : suc x + length others ≡ x + suc (length others) = omega arith in
    subst (λ (n : ℕ). InsertedEntry n y (with_entries e v others (t ∷ w)) (with_entries e v others (t ∷ whole))) q
    (inserted_entries e v others (suc x) y (t ∷ w) (t ∷ whole) (entry_next i))

no_more : (arguments : List ArgTree) → zero + length arguments ≡ length arguments
no_more arguments = omega arith

may_be_put : {heads : Heads} {g : List Standing} (m : TermTree) (others : List ArgTree)
    → IsCanonical heads g m sk_o
    → MayBePut heads (raised_term (length others) m) sk_o (length others) (with_args others g) (with_args others (as_term sk_o ∷ g))
may_be_put {g = g} m others d = record {
  inserted =
      subst (λ (n : ℕ). Inserted n (as_term sk_o) (with_args others g) (with_args others (as_term sk_o ∷ g))) (no_more others)
      (inserted_args others zero (as_term sk_o) g (as_term sk_o ∷ g) ins_here);
  canonical = raised_canonical m (above_args others g) d;
}

valued_args : (e : HeadEntries) (v : Valuation) (arguments : List ArgTree) {g : List Standing} {w : Valuation}
    → ContextValued g w
    → ContextValued (with_args arguments g) (with_entries e v arguments w)
valued_args e v [] z = z
valued_args e v (a_heap h ∷ others) z = valued_args e v others (valued_other (den_heap (heap_in v h)) z).1
valued_args e v (a_term m ∷ others) z = valued_args e v others (valued_term sk_o (term_den e v m sk_o) z)

may_put_in : {heads : Heads} {e : HeadEntries} {g : List Standing} {w : Valuation} (m : TermTree) (others : List ArgTree)
    → HeadsValued heads e
    → ContextValued g w
    → IsCanonical heads g m sk_o
    → MayPutIn heads e (raised_term (length others) m) sk_o (length others) (with_args others g) (with_args others (as_term sk_o ∷ g))
    (with_entries e w others w) (with_entries e w others (den_term sk_o (term_den e w m sk_o) ∷ w))
may_put_in {e = e} {w = w} m others h z d = record {
  may = may_be_put m others d;
  valuation =
      let v = term_den e w m sk_o in
      let first = inserted_entries e w others zero (den_term sk_o v) w (den_term sk_o v ∷ w) entry_here in
      let placed =
      subst (λ (n : ℕ). InsertedEntry n (den_term sk_o v) (with_entries e w others w) (with_entries e w others (den_term sk_o v ∷ w)))
      (no_more others) first in
      subst (λ (u : Domain sk_o).
      InsertedEntry (length others) (den_term sk_o u) (with_entries e w others w) (with_entries e w others (den_term sk_o v ∷ w)))
      (sym (raised_den e m (above_entries e w others w))) placed;
  valued = valued_args e w others z;
  heads_valued = h;
}

-- a heap for a variable
pub keeps_putting : (h : ℕ) (g : List Standing) → Stands g h as_heap → KeepsStandings (putting h) (as_heap ∷ g) g
unfolding putting
keeps_putting h g d = record { at = go }
  where
    go : (n : ℕ) (s : Standing) → Stands (as_heap ∷ g) n s → Stands g (putting h n) s
    go zero s here = d
    go (suc n) s (there i) = i

pub agree_putting : (w : Valuation) (h : ℕ) → entry_at w h ≡ den_heap (heap_in w h) → AgreeAlong (putting h) (den_heap (heap_in w h) ∷ w) w
unfolding putting
agree_putting w h q = record { at = go }
  where
    go : (n : ℕ) → entry_at w (putting h n) ≡ entry_at (den_heap (heap_in w h) ∷ w) n
    go zero = q
    go (suc n) = refl

keeps_args : (arguments : List ArgTree) (m : Map) (g h : List Standing)
    → KeepsStandings m g h
    → KeepsStandings (lifts (length arguments) m) (with_args arguments g) (with_args arguments h)
unfolding lifts
keeps_args [] m g h k = k
keeps_args (argument ∷ others) m g h k =
    let t = standing_of_arg argument in
    subst (λ (r : Map). KeepsStandings r (with_args others (t ∷ g)) (with_args others (t ∷ h))) (lifts_inside (length others) m)
    (keeps_args others (lift m) (t ∷ g) (t ∷ h) (keeps_lift t k))

agree_args : (e : HeadEntries) (v : Valuation) (arguments : List ArgTree) (m : Map) (w u : Valuation)
    → AgreeAlong m w u
    → AgreeAlong (lifts (length arguments) m) (with_entries e v arguments w) (with_entries e v arguments u)
unfolding lifts
agree_args e v [] m w u a = a
agree_args e v (argument ∷ others) m w u a =
    let y = entry_of_arg e v argument in
    subst (λ (r : Map). AgreeAlong r (with_entries e v others (y ∷ w)) (with_entries e v others (y ∷ u))) (lifts_inside (length others) m)
    (agree_args e v others (lift m) (y ∷ w) (y ∷ u) (renaming.agree_next y a))

-- what is put in a canonical formula
pub args_canonical : {heads : Heads} {F R : FormulaTree} {arguments : List ArgTree} (g : List Standing)
    → PutArgs arguments F R
    → AreCanonicalArgs heads g arguments
    → IsCanonicalFormula heads (with_args arguments g) F
    → IsCanonicalFormula heads g R
args_canonical g put_none a d = d
args_canonical g (put_term_first {m = m} {others = others} p rest) a d = args_canonical g rest a.1 (formula_result (may_be_put m others a.0) d p)
args_canonical g (put_heap_first {h = h} {others = others} rest) a d =
    args_canonical g rest a.1 (formula_renamed d (keeps_args others (putting h) (as_heap ∷ g) g (keeps_putting h g a.0)))

pub truth_of_args : (R : Recs) {heads : Heads} {e : HeadEntries} {F G : FormulaTree} {arguments : List ArgTree} (g : List Standing)
    (w : Valuation)
    → HeadsValued heads e
    → ContextValued g w
    → PutArgs arguments F G
    → AreCanonicalArgs heads g arguments
    → AreHeapsIn w arguments
    → IsCanonicalFormula heads (with_args arguments g) F
    → Satisfies R e w G ≡ Satisfies R e (with_entries e w arguments w) F
truth_of_args R g w h z put_none a i d = refl
truth_of_args R g w h z (put_term_first {m = m} {others = others} p rest) a i d =
    truth_of_args R g w h z rest a.1 i (formula_result (may_be_put m others a.0) d p) ∙ formula_put R p d (may_put_in m others h z a.0)
truth_of_args R {e = e} g w h z (put_heap_first {h = heap} {others = others} {F = F} rest) a i d =
    let c = formula_renamed d (keeps_args others (putting heap) (as_heap ∷ g) g (keeps_putting heap g a.0)) in
    truth_of_args R g w h z rest a.1 i.1 c
    ∙ truth_renamed R e F (agree_args e w others (putting heap) (den_heap (heap_in w heap) ∷ w) w (agree_putting w heap i.0))

pub are_entries : ArgumentsAreEntries
are_entries = record {
  canonical = λ heads g arguments a F R p d. args_canonical g p a d;
  satisfied = λ table heads e g w h z arguments a i F R p d. both_ways (truth_of_args (recs_of table) g w h z p a i d);
}
