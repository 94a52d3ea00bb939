-- What stands for a sugar of sorted parts is sorted.
use Rattle.std.specs.Prelude.{◌≡◌, ℕ, Bool, true, false, ◌&&◌, ◌==◌, List, [], ◌∷◌, length}
use Rattle.std.proofs.Common.{refl, subst, arith}
use Rattle.std.proofs.lemmas.Bool.{eqb-true}
use Rattle.htt_parser_trees.specs.declared.tree.UnaryWord.{UnaryWord}
use Rattle.htt_parser_trees.specs.declared.tree.UnaryWord.TheVariants as unary_words
use Rattle.htt_syntax.specs.Trees.{MonoTree, TermTree, TermTrees, FormulaTree, no_terms, more_terms, t_ann, y_mono}
use Rattle.theory_text_names.specs.Scopes.{a_mono, a_term, a_heap, PredTree}
use Rattle.theory_text_sugar.specs.Putting.{Put, put_mono, put_term, with_monos, with_arguments, put_into_mono, used_at}
use Rattle.theory_text_sugar.specs.Sugar.{placed, star}
use Rattle.theory_text.specs.Phrases.{unary, list_of}
use Rattle.theory_text_scoped.specs.Sorted.{Sorts, sort_here, sort_there, IsHeap, SortedTerm, SortedTerms, SortedFormula, sorted_t_fst, sorted_t_snd}
use Rattle.theory_text_scoped.specs.Sorted.{sorted_t_not, sorted_t_ann, sorted_y_mono, sorted_more_terms, sorted_f_and, sorted_f_ex_h, sorted_f_join}
use Rattle.theory_text_scoped.specs.Sorted.{sorted_f_at}
use Rattle.theory_text_scoped.specs.Scopes.{under_monotypes, under_parameters, SortedParams, SortedPred}
use Rattle.theory_text_scoped.proofs.Put.{AreFor, for_none, for_mono, for_term, for_heap, under_none, mono_put_into, formula_put_into}
use Rattle.theory_text_scoped.proofs.Named.{AreSorted}

pub unary_sorted : {g : Sorts} (word : UnaryWord) {m : TermTree} → SortedTerm g m → SortedTerm g (unary word m)
unary_sorted unary_words.Fst h = sorted_t_fst h
unary_sorted unary_words.Snd h = sorted_t_snd h
unary_sorted unary_words.Not h = sorted_t_not h

pub joined_sorted : {g : Sorts} {h : ℕ} {P Q : FormulaTree}
    → IsHeap g h
    → SortedFormula (a_heap ∷ a_heap ∷ g) P
    → SortedFormula (a_heap ∷ a_heap ∷ g) Q
    → SortedFormula g (star h P Q)
joined_sorted hh hP hQ =
    sorted_f_ex_h (sorted_f_ex_h
    (sorted_f_and (sorted_f_join (sort_there (sort_there hh)) (sort_there (sort_here refl)) (sort_here refl)) (sorted_f_and hP hQ)))

pub placed_sorted : {g : Sorts} (at : ℕ) {F : FormulaTree} → SortedFormula g F → SortedFormula g (placed at F)
placed_sorted at (sorted_f_at h) = sorted_f_at h
placed_sorted at h = sorted_f_at h

-- ---- uses of predicates

both : (a b : Bool) → (a && b) ≡ true → (a ≡ true) × (b ≡ true)
both true b e = (refl, e)
both false b e = absurd (cc e)

monos_for : {g : Sorts} (puts : List Put) (b : Sorts)
    → AreFor g puts b
    → (ts : List MonoTree)
    → AreSorted g ts
    → AreFor g (with_monos puts ts) (under_monotypes (length ts) b)
unfolding with_monos under_monotypes AreSorted
monos_for puts b a [] h = a
monos_for puts b a (t ∷ ts) h = monos_for (put_mono t ∷ puts) (a_mono ∷ b) (for_mono h.0 a) ts h.1

arguments_for : {g : Sorts} (puts : List Put) (b : Sorts)
    → AreFor g puts b
    → (ts : List MonoTree)
    → SortedParams b ts
    → (Ms : TermTrees)
    → SortedTerms g Ms
    → length (list_of Ms) ≡ length ts
    → AreFor g (with_arguments puts ts (list_of Ms)) (under_parameters (length ts) b)
unfolding with_arguments under_parameters SortedParams list_of
arguments_for puts b a [] h no_terms k e = a
arguments_for puts b a [] h (more_terms M Ms) k e = absurd (omega (arith, e))
arguments_for puts b a (t ∷ ts) h no_terms k e = absurd (omega (arith, e))
arguments_for puts b a (t ∷ ts) h (more_terms M Ms) (sorted_more_terms hM hMs) e =
    arguments_for (put_term (t_ann M (y_mono (put_into_mono puts t))) ∷ puts) (a_term ∷ b)
    (for_term (sorted_t_ann hM (sorted_y_mono (mono_put_into a under_none h.0))) a) ts h.1 Ms hMs (omega (arith, e))

pub use_sorted : {g : Sorts} (p : PredTree)
    → SortedPred p
    → (ts : List MonoTree)
    → AreSorted g ts
    → length ts ≡ p.monos
    → (Ms : TermTrees)
    → SortedTerms g Ms
    → length (list_of Ms) ≡ length p.params
    → (h : ℕ)
    → IsHeap g h
    → SortedFormula g (used_at p ts (list_of Ms) h)
use_sorted {g} p hp ts hts n Ms hMs m h hh =
    let monos : AreFor g (with_monos [] ts) (under_monotypes p.monos []) =
    subst (λ k. AreFor g (with_monos [] ts) (under_monotypes k [])) n (monos_for [] [] for_none ts hts) in
    formula_put_into (for_heap hh (arguments_for (with_monos [] ts) (under_monotypes p.monos []) monos p.params hp.params Ms hMs m)) under_none hp.body

pub counts : (a b c d : ℕ) → (a == b && c == d) ≡ true → (a ≡ b) × (c ≡ d)
counts a b c d e = let (x, y) = both (a == b) (c == d) e in (eqb-true a b x, eqb-true c d y)
