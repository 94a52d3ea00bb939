-- Both forms of unfolding a recursive predicate are true in every valuation.
use Rattle.std.proofs.Common.{◌≡◌, ℕ, suc, ◌+◌, List, [], ◌∷◌, ◌++◌, length, map, Some, arith, refl, sym, ap, ◌∙◌, subst}
use Rattle.std.specs.Prelude.{◌↔◌, slice_get, true}
use Rattle.htt_syntax.specs.declared.mono.Op.{Op}
use Rattle.htt_syntax.specs.declared.mono.Op.TheVariants.{Add, Lt}
use Rattle.htt_syntax.specs.Trees.{MonoTree, TermTree, FormulaTree, ArgTree, m_word, y_mono, t_word, t_bool, t_bin, f_imp, f_rec, a_heap, a_term}
use Rattle.theory_values.specs.Values.{Value, v_word, HasType, is_word, IsWord, op_value, value_of_op}
use Rattle.theory_truth.specs.Worlds.{th_value}
use Rattle.theory_truth.specs.TermValue.{value_or_unit, word_of}
use Rattle.theory_truth.specs.Predicates.{RecTree, recs_of}
use Rattle.theory_truth.proofs.Unfolding.{unfolds}
use Rattle.theory_canonical.specs.Skeletons.{sk_o, skeleton}
use Rattle.theory_canonical.specs.Contexts.{as_term}
use Rattle.theory_canonical.specs.Folding.{folding}
use Rattle.theory_logic_axioms_true.specs.WordLaws.{IsBelow}
use Rattle.theory_logic_axioms_true.proofs.Order.{below, next_word}
use Rattle.theory_typing.specs.Contexts.{Context, Environment, en_term}
use Rattle.theory_typing_canonical.specs.Environments.{standings, heads_of}
use Rattle.theory_logic_axioms.specs.Table.{ArgSort, heap_sort, term_sort}
use Rattle.theory_logic_axioms.specs.Laws.{AreCanonicalArgs}
use Rattle.theory_logic_rules.specs.Sequents.{PutArgs, terms_of, FitsArgs, fits_no_args, fits_heap_arg, fits_term_arg, below_greatest, both_ways}
use Rattle.theory_denotation.specs.Valuations.{den_heap, den_term, Valuation, entry_at, heap_in, HeadEntries}
use Rattle.theory_denotation.specs.Denotation.{term_den, terms_den}
use Rattle.theory_denotation.specs.Satisfaction.{Satisfies}
use Rattle.theory_denotation.proofs.HeadsDenote.{valued_term}
use Rattle.theory_denotation_renaming.proofs.Folded.{folded}
use Rattle.theory_denotation_shapes.proofs.Given.{context_valued}
use Rattle.theory_typing_canonical.proofs.Entries.{heap_stands}
use Rattle.theory_logic_unfoldings_satisfied.specs.Entries.{AreHeapsIn, Setting}
use Rattle.theory_logic_unfoldings_satisfied.specs.Laws.{UnfoldingsAreSatisfied}
use Rattle.theory_logic_unfoldings_satisfied.proofs.Arguments.{truth_of_args}
use Rattle.theory_logic_unfoldings_satisfied.proofs.Fitting.{heap_of, value_of, form_of, args_formed, more_formed}
use Rattle.theory_logic_unfoldings_satisfied.proofs.Bodies.{AllTerms, with_values, args_entries, as_many, heads_run, same_none, same_value, body_wider}
use Rattle.theory_logic_unfoldings_satisfied.proofs.Bodies.{body_said}
use Rattle.theory_logic_unfoldings_satisfied.proofs.Bodies.{nothing_valued, only, keeps}

no_more : {x : ArgSort} {xs : List ArgSort} → x ∷ xs ≡ [] → ⊥
no_more q = cc

no_heap : {t : MonoTree} {xs ys : List ArgSort} → heap_sort ∷ xs ≡ term_sort t ∷ ys → ⊥
no_heap q = cc

rest_same : {x y : ArgSort} {xs ys : List ArgSort} → x ∷ xs ≡ y ∷ ys → xs ≡ ys
rest_same q = cc

pub fits_terms : {env : Environment} {g : Context} {arguments values : List ArgTree} {sorts : List ArgSort}
    → FitsArgs env g arguments sorts values
    → (params : List MonoTree)
    → sorts ≡ map term_sort params
    → AllTerms values × (length values ≡ length params)
fits_terms fits_no_args [] q = (tt, refl)
fits_terms fits_no_args (t ∷ params) q = absurd (no_more (sym q))
fits_terms (fits_heap_arg i rest) [] q = absurd (no_more q)
fits_terms (fits_heap_arg i rest) (t ∷ params) q = absurd (no_heap q)
fits_terms (fits_term_arg d rest) [] q = absurd (no_more q)
fits_terms (fits_term_arg d rest) (t ∷ params) q = let r = fits_terms rest params (rest_same q) in (r.0, ap suc r.1)

heaps_in : (w : Valuation) (values : List ArgTree) (h : ℕ) → AllTerms values → entry_at w h ≡ den_heap (heap_in w h) → AreHeapsIn w (values ++ a_heap h ∷ [])
heaps_in w [] h d q = (q, tt)
heaps_in w (a_heap k ∷ others) h d q = absurd d
heaps_in w (a_term m ∷ others) h d q = heaps_in w others h d q

as_is : (A : Type 0) → Type 0
as_is A = A

-- one type follows from another, and back, where it does from an equal one
through : {A B C : Type 0} → A ↔ B → C ≡ B → (A → C) × (C → A)
unfolding as_is
through i q = ((λ a. subst as_is (sym q) (i.0 a)), (λ c. i.1 (subst as_is q c)))

through_place : {A B C : Type 0} → C ≡ A → A ↔ B → C ↔ B
unfolding as_is
through_place q i = ((λ c. i.0 (subst as_is q c)), (λ b. subst as_is (sym q) (i.1 b)))

-- a term of a word
pub word_in : {v : Value} → HasType v m_word → (n : ℕ) × IsWord n × (v ≡ v_word n)
word_in (is_word {n = n} l) = (n, l, refl)

pub op_denotes : (e : HeadEntries) (w : Valuation) (op : Op) (x y : TermTree) (m n : ℕ)
    → term_den e w x sk_o ≡ v_word m
    → term_den e w y sk_o ≡ v_word n
    → term_den e w (folding (t_bin op x y)) sk_o ≡ op_value op m n
unfolding term_den
op_denotes e w op x y m n p q = folded e w (t_bin op x y) ∙ (λ j. value_or_unit (value_of_op op (p j) (q j)))

pub literal_denotes : (e : HeadEntries) (w : Valuation) (n : ℕ) → term_den e w (t_word n) sk_o ≡ v_word n
unfolding term_den
literal_denotes e w n = refl

-- the word after a word that isn't the greatest
next_place : (e : HeadEntries) (w : Valuation) (m : TermTree) (n : ℕ)
    → term_den e w m sk_o ≡ v_word n
    → term_den e w (folding (t_bin Lt m (t_word 18446744073709551615))) sk_o ≡ term_den e w (t_bool true) sk_o
    → word_of (term_den e w (folding (t_bin Add m (t_word 1))) sk_o) ≡ suc n
unfolding term_den
next_place e w m n p q =
    let l : IsBelow n 18446744073709551615 =
    sym (op_denotes e w Lt m (t_word 18446744073709551615) n 18446744073709551615 p (literal_denotes e w 18446744073709551615)) ∙ q in
    let r = next_word n 18446744073709551615 (omega arith) (below n 18446744073709551615 l) in
    let s : n + 1 ≡ suc n = omega arith in
    ap word_of (op_denotes e w Add m (t_word 1) n 1 p (literal_denotes e w 1)) ∙ r ∙ s

unfolds_at_zero : (env : Environment) (e : HeadEntries) (g : Context) (w : Valuation)
    → Setting env e g w
    → (number : ℕ) (r : RecTree)
    → slice_get env.recs number ≡ Some r
    → (h : ℕ) (arguments values : List ArgTree)
    → FitsArgs env g arguments (heap_sort ∷ map term_sort r.params) (a_heap h ∷ values)
    → (F : FormulaTree)
    → PutArgs (values ++ a_heap h ∷ []) r.at_zero F
    → Satisfies (recs_of env.recs) e w (both_ways (f_rec number h (t_word 0) (terms_of values)) F)
unfolding Satisfies term_den
unfolds_at_zero env e g w s number r found h arguments values (fits_heap_arg i rest) F put =
    let R = recs_of env.recs in
    let t = fits_terms rest r.params refl in
    let vs = terms_den e w (terms_of values) in
    let body = (s.environment.recs_sound number r found).at_zero in
    let wide = body_wider r.params values [] (standings g) h t.0 t.1 (keeps (standings g)).0 body in
    let formed = more_formed (heads_of env) values h (args_formed s.environment s.context rest) (heap_stands i) in
    let said = truth_of_args R (standings g) w s.heads (context_valued s.valuation) put formed (heaps_in w values h t.0 (heap_of s i).0) wide
    ∙ ap (λ (v : Valuation). Satisfies R e v r.at_zero) (args_entries e w values h w t.0)
    ∙ body_said R r.params vs (heap_in w h) [] [] w s.heads (heads_run s.environment) only.0 nothing_valued (same_none [] w)
    (as_many e w values t.0 ∙ t.1) body in
    through (unfolds.at_zero env.recs s.environment.recs_founded number r found vs (heap_in w h)) said

unfolds_at_next : (env : Environment) (e : HeadEntries) (g : Context) (w : Valuation)
    → Setting env e g w
    → (number : ℕ) (r : RecTree)
    → slice_get env.recs number ≡ Some r
    → (h : ℕ) (m : TermTree) (arguments values : List ArgTree)
    → FitsArgs env g arguments (heap_sort ∷ term_sort m_word ∷ map term_sort r.params) (a_heap h ∷ a_term m ∷ values)
    → (F : FormulaTree)
    → PutArgs (a_term m ∷ values ++ a_heap h ∷ []) r.at_next F
    → Satisfies (recs_of env.recs) e w
    (f_imp (below_greatest m) (both_ways (f_rec number h (folding (t_bin Add m (t_word 1))) (terms_of values)) F))
unfolding Satisfies skeleton
unfolds_at_next env e g w s number r found h m arguments values (fits_heap_arg i (fits_term_arg d rest)) F put = λ isb.
    let R = recs_of env.recs in
    let t = fits_terms rest r.params refl in
    let vs = terms_den e w (terms_of values) in
    let a = word_in (value_of m_word s d) in
    let c = en_term (y_mono m_word) ∷ [] in
    let body = (s.environment.recs_sound number r found).at_next in
    let wide = body_wider r.params values c (as_term sk_o ∷ standings g) h t.0 t.1 (keeps (standings g)).1 body in
    let formed : AreCanonicalArgs (heads_of env) (standings g) (a_term m ∷ values ++ a_heap h ∷ []) = (
      form_of m_word s.environment s.context d,
      more_formed (heads_of env) values h (args_formed s.environment s.context rest) (heap_stands i),
    ) in
    let many = as_many e w values t.0 ∙ t.1 in
    let said = truth_of_args R (standings g) w s.heads (context_valued s.valuation) put formed (heaps_in w values h t.0 (heap_of s i).0) wide
    ∙ ap (λ (v : Valuation). Satisfies R e v r.at_next) (args_entries e w values h (den_term sk_o (term_den e w m sk_o) ∷ w) t.0)
    ∙ ap (λ (x : Value). Satisfies R e (den_heap (heap_in w h) ∷ with_values vs (den_term sk_o x ∷ w)) r.at_next) a.2
    ∙ body_said R r.params vs (heap_in w h) c (th_value (v_word a.0) ∷ []) (den_term sk_o (v_word a.0) ∷ w) s.heads
    (heads_run s.environment) only.1 (valued_term sk_o (v_word a.0) nothing_valued) (same_value (v_word a.0) (same_none [] w)) many body in
    let law = unfolds.at_next env.recs s.environment.recs_founded number r found a.0 vs many (heap_in w h) in
    let place = ap (λ (n : ℕ). recs_of env.recs number n vs (heap_in w h)) (next_place e w m a.0 a.2 isb) in
    through (through_place place law) said

pub unfoldings : UnfoldingsAreSatisfied
unfoldings = record { at_zero = unfolds_at_zero; at_next = unfolds_at_next }
