-- What single rules need: terms and heaps that are put for variables, motives, induction and cases.
use Rattle.std.proofs.Common.{◌≡◌, ℕ, zero, suc, List, ◌∷◌, arith, refl, sym, ap, ◌∙◌, subst}
use Rattle.std.specs.Prelude.{true, false}
use Rattle.htt_syntax.specs.declared.mono.Op.TheVariants.{Add, Lt}
use Rattle.htt_syntax.specs.Trees.{TermTree, FormulaTree, m_bool, t_var, t_word, t_bool, t_bin}
use Rattle.theory_renaming.specs.Renaming.{lift, rename_formula}
use Rattle.theory_values.specs.Values.{Value, v_word, HasType, is_bool, IsWord}
use Rattle.theory_values.specs.Heaps.{Heap, IsSame}
use Rattle.theory_truth.specs.Truth.{Recs}
use Rattle.theory_canonical.specs.Skeletons.{sk_o}
use Rattle.theory_canonical.specs.Contexts.{Standing, as_term, Heads}
use Rattle.theory_canonical.specs.Canonical.{IsCanonical, n_word, n_bool, IsCanonicalFormula}
use Rattle.theory_substitution.specs.Substitution.{SubFormula}
use Rattle.theory_logic_rules.specs.Sequents.{SameTerm, SameFormula, put_heap, below_greatest}
use Rattle.theory_logic_axioms_true.specs.WordLaws.{IsBelow, word_op}
use Rattle.theory_logic_axioms_true.proofs.Order.{below}
use Rattle.theory_logic_axioms_true.proofs.Induction.{word_induction}
use Rattle.theory_denotation.specs.Valuations.{den_heap, den_term, Valuation, entry_at, heap_in, HeadEntries}
use Rattle.theory_denotation.specs.Denotation.{term_den}
use Rattle.theory_denotation.specs.Satisfaction.{Satisfies}
use Rattle.theory_denotation.specs.Valued.{ContextValued, HeadsValued}
use Rattle.theory_denotation.proofs.HeadsDenote.{valued_term}
use Rattle.theory_denotation_positions.proofs.Plain.{term_plain}
use Rattle.theory_denotation_positions.proofs.PlainTruth.{truth_plain}
use Rattle.theory_denotation_renaming.proofs.Renamed.{agree_next, agree_suc}
use Rattle.theory_denotation_renaming.proofs.RenamedTruth.{truth_renamed}
use Rattle.theory_denotation_substitution.proofs.Placing.{put_here}
use Rattle.theory_denotation_substitution.proofs.Formulas.{formula_put}
use Rattle.theory_logic_unfoldings_satisfied.proofs.Arguments.{agree_putting}
use Rattle.theory_logic_unfoldings_satisfied.proofs.Unfolded.{op_denotes, literal_denotes}
use Rattle.theory_logic_satisfied.proofs.Forms.{next_motive_formed, next_word_formed}
use Rattle.theory_logic_true.proofs.Rules.{below_is_word}

abbrev as_is : (A : Type 0) → Type 0
as_is A = A

-- positions say nothing
pub same_value : (e : HeadEntries) (w : Valuation) (m n : TermTree) → SameTerm m n → term_den e w m sk_o ≡ term_den e w n sk_o
same_value e w m n q = sym (term_plain e m w sk_o) ∙ ap (λ (t : TermTree). term_den e w t sk_o) q ∙ term_plain e n w sk_o

same_saying : (R : Recs) (e : HeadEntries) (w : Valuation) (F G : FormulaTree) → SameFormula F G → Satisfies R e w F ≡ Satisfies R e w G
same_saying R e w F G q = sym (truth_plain R e F w) ∙ ap (Satisfies R e w) q ∙ truth_plain R e G w

pub same_to : (R : Recs) (e : HeadEntries) (w : Valuation) (F G : FormulaTree) → SameFormula F G → Satisfies R e w F → Satisfies R e w G
same_to R e w F G q h = subst as_is (same_saying R e w F G q) h

pub same_from : (R : Recs) (e : HeadEntries) (w : Valuation) (F G : FormulaTree) → SameFormula F G → Satisfies R e w G → Satisfies R e w F
same_from R e w F G q h = subst as_is (sym (same_saying R e w F G q)) h

-- Heads and variables denote at their skeletons.
pub record Valued (heads : Heads) (e : HeadEntries) (g : List Standing) (w : Valuation) : Type 0 where
  pub heads_valued : HeadsValued heads e
  pub context_valued : ContextValued g w

-- a term for the innermost variable
putting_in : (R : Recs) {heads : Heads} {e : HeadEntries} {g : List Standing} {w : Valuation} {new : TermTree} {F G : FormulaTree}
    → Valued heads e g w
    → SubFormula new sk_o zero F G
    → IsCanonical heads g new sk_o
    → IsCanonicalFormula heads (as_term sk_o ∷ g) F
    → Satisfies R e w G ≡ Satisfies R e (den_term sk_o (term_den e w new sk_o) ∷ w) F
putting_in R z p c d = formula_put R p d (put_here z.heads_valued z.context_valued c)

pub put_in : (R : Recs) {heads : Heads} {e : HeadEntries} {g : List Standing} {w : Valuation} {new : TermTree} {F G : FormulaTree}
    → Valued heads e g w
    → SubFormula new sk_o zero F G
    → IsCanonical heads g new sk_o
    → IsCanonicalFormula heads (as_term sk_o ∷ g) F
    → Satisfies R e (den_term sk_o (term_den e w new sk_o) ∷ w) F
    → Satisfies R e w G
put_in R z p c d h = subst as_is (sym (putting_in R z p c d)) h

pub take_out : (R : Recs) {heads : Heads} {e : HeadEntries} {g : List Standing} {w : Valuation} {new : TermTree} {F G : FormulaTree}
    → Valued heads e g w
    → SubFormula new sk_o zero F G
    → IsCanonical heads g new sk_o
    → IsCanonicalFormula heads (as_term sk_o ∷ g) F
    → Satisfies R e w G
    → Satisfies R e (den_term sk_o (term_den e w new sk_o) ∷ w) F
take_out R z p c d h = subst as_is (putting_in R z p c d) h

-- a heap for the innermost variable
pub heap_put : (R : Recs) (e : HeadEntries) (w : Valuation) (h : ℕ) (F : FormulaTree)
    → entry_at w h ≡ den_heap (heap_in w h)
    → Satisfies R e (den_heap (heap_in w h) ∷ w) F
    → Satisfies R e w (put_heap h F)
heap_put R e w h F q t = subst as_is (sym (truth_renamed R e F (agree_putting w h q))) t

pub heap_taken : (R : Recs) (e : HeadEntries) (w : Valuation) (h : ℕ) (F : FormulaTree)
    → entry_at w h ≡ den_heap (heap_in w h)
    → Satisfies R e w (put_heap h F)
    → Satisfies R e (den_heap (heap_in w h) ∷ w) F
heap_taken R e w h F q t = subst as_is (truth_renamed R e F (agree_putting w h q)) t

-- an equation between terms, in a motive
pub rewritten : (R : Recs) {heads : Heads} {e : HeadEntries} {g : List Standing} {w : Valuation} {m n : TermTree} (G : FormulaTree)
    {C at_left at_right : FormulaTree}
    → Valued heads e g w
    → term_den e w m sk_o ≡ term_den e w n sk_o
    → IsCanonical heads g m sk_o
    → IsCanonical heads g n sk_o
    → SubFormula n sk_o zero C at_right
    → SameFormula G at_right
    → SubFormula m sk_o zero C at_left
    → IsCanonicalFormula heads (as_term sk_o ∷ g) C
    → Satisfies R e w at_left
    → Satisfies R e w G
rewritten R {e = e} {w = w} G {C = C} {at_right = at_right} z q a b p same u d h =
    same_from R e w G at_right same
    (put_in R z p b d (subst (λ (v : Value). Satisfies R e (den_term sk_o v ∷ w) C) q (take_out R z u a d h)))

-- the same for heaps
pub rewritten_heap : (R : Recs) (e : HeadEntries) (w : Valuation) (h k : ℕ) (C G : FormulaTree)
    → IsSame (heap_in w h) (heap_in w k)
    → entry_at w h ≡ den_heap (heap_in w h)
    → entry_at w k ≡ den_heap (heap_in w k)
    → SameFormula G (put_heap k C)
    → Satisfies R e w (put_heap h C)
    → Satisfies R e w G
rewritten_heap R e w h k C G s i j same t =
    let q : heap_in w h ≡ heap_in w k = λ r l. s.each l r in
    same_from R e w G (put_heap k C) same (heap_put R e w k C j (subst (λ (x : Heap). Satisfies R e (den_heap x ∷ w) C) q (heap_taken R e w h C i t)))

-- by induction on words, a motive is true at each word
next_denotes : (e : HeadEntries) (y : ℕ) (w : Valuation)
    → term_den e (den_term sk_o (v_word y) ∷ w) (t_bin Add (t_var 0) (t_word 1)) sk_o ≡ v_word (word_op Add y 1)
unfolding term_den
next_denotes e y w = refl

variable_denotes : (e : HeadEntries) (y : ℕ) (w : Valuation) → term_den e (den_term sk_o (v_word y) ∷ w) (t_var 0) sk_o ≡ v_word y
unfolding term_den
variable_denotes e y w = refl

-- the hypothesis that y isn't the greatest word
pub below_is_true : (R : Recs) (e : HeadEntries) (y : ℕ) (w : Valuation)
    → IsBelow y 18446744073709551615
    → Satisfies R e (den_term sk_o (v_word y) ∷ w) (below_greatest (t_var 0))
unfolding Satisfies term_den
below_is_true R e y w l =
    let v = den_term sk_o (v_word y) ∷ w in
    op_denotes e v Lt (t_var 0) (t_word 18446744073709551615) y 18446744073709551615 (variable_denotes e y w)
    (literal_denotes e v 18446744073709551615)
    ∙ l

pub valued_next : {heads : Heads} {e : HeadEntries} {g : List Standing} {w : Valuation} (v : Value)
    → Valued heads e g w
    → Valued heads e (as_term sk_o ∷ g) (den_term sk_o v ∷ w)
valued_next v z = record { heads_valued = z.heads_valued; context_valued = valued_term sk_o v z.context_valued }

next_motive : (R : Recs) {heads : Heads} {e : HeadEntries} {g : List Standing} {w : Valuation} (y : ℕ) (C at_next : FormulaTree)
    → Valued heads e g w
    → SubFormula (t_bin Add (t_var 0) (t_word 1)) sk_o zero (rename_formula (lift suc) C) at_next
    → IsCanonicalFormula heads (as_term sk_o ∷ g) C
    → Satisfies R e (den_term sk_o (v_word y) ∷ w) at_next
    → Satisfies R e (den_term sk_o (v_word (word_op Add y 1)) ∷ w) C
next_motive R {e = e} {g = g} {w = w} y C at_next z p d h =
    let whole = take_out R (valued_next (v_word y) z) p next_word_formed (next_motive_formed g C d) h in
    let x = den_term sk_o (v_word (word_op Add y 1)) in
    subst as_is (truth_renamed R e C (agree_next x (agree_suc (den_term sk_o (v_word y)) w)))
    (subst (λ (v : Value). Satisfies R e (den_term sk_o v ∷ den_term sk_o (v_word y) ∷ w) (rename_formula (lift suc) C))
    (next_denotes e y w) whole)

pub by_induction : (R : Recs) {heads : Heads} {e : HeadEntries} {g : List Standing} {w : Valuation} (C at_zero at_next : FormulaTree)
    → Valued heads e g w
    → IsCanonicalFormula heads (as_term sk_o ∷ g) C
    → SubFormula (t_word 0) sk_o zero C at_zero
    → Satisfies R e w at_zero
    → SubFormula (t_bin Add (t_var 0) (t_word 1)) sk_o zero (rename_formula (lift suc) C) at_next
    → ((y : ℕ) → IsWord y → IsBelow y 18446744073709551615 → Satisfies R e (den_term sk_o (v_word y) ∷ w) C →
    Satisfies R e (den_term sk_o (v_word y) ∷ w) at_next)
    → (n : ℕ)
    → IsWord n
    → Satisfies R e (den_term sk_o (v_word n) ∷ w) C
by_induction R {e = e} {w = w} C at_zero at_next z d p base q step n word =
    word_induction (λ n. Satisfies R e (den_term sk_o (v_word n) ∷ w) C)
    (subst (λ (v : Value). Satisfies R e (den_term sk_o v ∷ w) C) (literal_denotes e w 0) (take_out R z p n_word d base))
    (λ y l h. next_motive R y C at_next z q d (step y (below_is_word y l) l h))
    n word

-- a motive that is true at both truth values is true at each
pub at_each_truth : (R : Recs) {heads : Heads} {e : HeadEntries} {g : List Standing} {w : Valuation} (C : FormulaTree)
    {at_true at_false : FormulaTree}
    → Valued heads e g w
    → IsCanonicalFormula heads (as_term sk_o ∷ g) C
    → SubFormula (t_bool true) sk_o zero C at_true
    → Satisfies R e w at_true
    → SubFormula (t_bool false) sk_o zero C at_false
    → Satisfies R e w at_false
    → (v : Value)
    → HasType v m_bool
    → Satisfies R e (den_term sk_o v ∷ w) C
unfolding term_den
at_each_truth R C z d p a q b v (is_bool {b = true}) = take_out R z p n_bool d a
at_each_truth R C z d p a q b v (is_bool {b = false}) = take_out R z q n_bool d b

-- a motive that is true at the word that a term denotes is true at the term
pub at_value : (R : Recs) {heads : Heads} {e : HeadEntries} {g : List Standing} {w : Valuation} {m : TermTree} (G : FormulaTree)
    {C at_word : FormulaTree} (n : ℕ)
    → term_den e w m sk_o ≡ v_word n
    → Valued heads e g w
    → SameFormula G at_word
    → SubFormula m sk_o zero C at_word
    → IsCanonical heads g m sk_o
    → IsCanonicalFormula heads (as_term sk_o ∷ g) C
    → Satisfies R e (den_term sk_o (v_word n) ∷ w) C
    → Satisfies R e w G
at_value R {e = e} {w = w} G {C = C} {at_word = at_word} n q z same u c d h =
    same_from R e w G at_word same (put_in R z u c d (subst (λ (v : Value). Satisfies R e (den_term sk_o v ∷ w) C) (sym q) h))
