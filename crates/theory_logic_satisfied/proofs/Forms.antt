-- Parts of canonical formulas, and that what a proof infers is canonical.
use Rattle.std.proofs.Common.{◌≡◌, ℕ, zero, suc, List, [], ◌∷◌, ◌++◌, map, Option, Some, IfSome, refl, subst}
use Rattle.std.specs.Prelude.{slice_get}
use Rattle.htt_syntax.specs.declared.mono.Op.TheVariants.{Add, Lt}
use Rattle.htt_syntax.specs.Trees.{MonoTree, TermTree, FormulaTree, ArgTree, ProofTree, m_word, y_mono, t_var, t_word, t_bin, f_and, f_or, f_imp, f_all_t}
use Rattle.htt_syntax.specs.Trees.{f_ex_t, f_all_h, f_ex_h, f_same, f_eq, f_rec, a_heap, a_term}
use Rattle.theory_renaming.specs.Renaming.{lift, rename_formula}
use Rattle.theory_truth.specs.Predicates.{RecTree}
use Rattle.theory_canonical.specs.Skeletons.{sk_o, skeleton}
use Rattle.theory_canonical.specs.Contexts.{Standing, as_heap, as_term, Stands, here, Heads}
use Rattle.theory_canonical.specs.Canonical.{IsCanonicalMono, n_m_bool, IsCanonical, n_word, n_bool, n_bin, n_neutral, e_var, n_mono, IsCanonicalFormula, n_ff}
use Rattle.theory_canonical.specs.Canonical.{n_and, n_or, n_imp, n_all_t, n_ex_t, n_all_h, n_ex_h, n_same, n_equal, n_rec}
use Rattle.theory_canonical.specs.Folding.{contractum, folding}
use Rattle.theory_canonical.proofs.Renamed.{keeps_lift, keeps_suc, formula_renamed}
use Rattle.theory_substitution.specs.Substitution.{SubFormula}
use Rattle.theory_substitution_total.proofs.Folded.{bin_folded}
use Rattle.theory_substitution_total.proofs.Results.{formula_result}
use Rattle.theory_typing.specs.Contexts.{en_heap, en_term, Context, Environment}
use Rattle.theory_typing.specs.Typing.{FormsFormula}
use Rattle.theory_typing_canonical.specs.Environments.{standings, heads_of, IsCanonicalContext, heap_entry, term_entry}
use Rattle.theory_typing_canonical.proofs.Entries.{heap_stands, put_here}
use Rattle.theory_typing_canonical.proofs.Typed.{formed_formula}
use Rattle.theory_logic_axioms.specs.Table.{heap_sort, term_sort, formula_of}
use Rattle.theory_logic_axioms.specs.Laws.{AreCanonicalArgs}
use Rattle.theory_logic_axioms.proofs.Canonicity.{instance_canonical}
use Rattle.theory_logic_rules.specs.Sequents.{put_heap, PutArgs, terms_of, FitsArgs, fits_heap_arg, fits_term_arg, below_greatest, both_ways}
use Rattle.theory_logic_rules.specs.Rules.{Infers, infers_hyp, infers_first, infers_second, infers_app, infers_inst_term, infers_inst_heap, infers_axiom}
use Rattle.theory_logic_rules.specs.Rules.{infers_lem, infers_the, infers_at_zero, infers_at_next, infers_at}
use Rattle.theory_logic_true.proofs.Scenes.{each_at}
use Rattle.theory_items_sound.specs.Environments.{SoundEnvironment}
use Rattle.theory_logic_unfoldings_satisfied.proofs.Arguments.{keeps_putting, args_canonical}
use Rattle.theory_logic_unfoldings_satisfied.proofs.Fitting.{form_of, args_formed, monos_formed, terms_formed, more_formed}
use Rattle.theory_logic_unfoldings_satisfied.proofs.Bodies.{keeps, body_wider}
use Rattle.theory_logic_unfoldings_satisfied.proofs.Unfolded.{fits_terms}
use Rattle.theory_logic_satisfied.specs.Laws.{AreCanonical, InferredIsCanonical}

module _ {heads : Heads} {g : List Standing} where
  pub and_parts : {A B : FormulaTree} → IsCanonicalFormula heads g (f_and A B) → IsCanonicalFormula heads g A × IsCanonicalFormula heads g B
  and_parts (n_and a b) = (a, b)

  pub or_parts : {A B : FormulaTree} → IsCanonicalFormula heads g (f_or A B) → IsCanonicalFormula heads g A × IsCanonicalFormula heads g B
  or_parts (n_or a b) = (a, b)

  pub imp_parts : {A B : FormulaTree} → IsCanonicalFormula heads g (f_imp A B) → IsCanonicalFormula heads g A × IsCanonicalFormula heads g B
  imp_parts (n_imp a b) = (a, b)

  pub all_parts : {t : MonoTree} {F : FormulaTree}
      → IsCanonicalFormula heads g (f_all_t t F)
      → IsCanonicalMono g t × IsCanonicalFormula heads (as_term sk_o ∷ g) F
  all_parts (n_all_t m d) = (m, d)

  pub ex_parts : {t : MonoTree} {F : FormulaTree}
      → IsCanonicalFormula heads g (f_ex_t t F)
      → IsCanonicalMono g t × IsCanonicalFormula heads (as_term sk_o ∷ g) F
  ex_parts (n_ex_t m d) = (m, d)

  pub all_heap_part : {F : FormulaTree} → IsCanonicalFormula heads g (f_all_h F) → IsCanonicalFormula heads (as_heap ∷ g) F
  all_heap_part (n_all_h d) = d

  pub ex_heap_part : {F : FormulaTree} → IsCanonicalFormula heads g (f_ex_h F) → IsCanonicalFormula heads (as_heap ∷ g) F
  ex_heap_part (n_ex_h d) = d

  pub equal_parts : {t : MonoTree} {m n : TermTree}
      → IsCanonicalFormula heads g (f_eq t m n)
      → IsCanonicalMono g t × IsCanonical heads g m sk_o × IsCanonical heads g n sk_o
  equal_parts (n_equal t a b) = (t, a, b)

  pub same_parts : {h k : ℕ} → IsCanonicalFormula heads g (f_same h k) → Stands g h as_heap × Stands g k as_heap
  same_parts (n_same a b) = (a, b)

-- a term and a heap for the innermost variable
pub put_formed : {heads : Heads} {g : List Standing} {new : TermTree} {F G : FormulaTree}
    → SubFormula new sk_o zero F G
    → IsCanonical heads g new sk_o
    → IsCanonicalFormula heads (as_term sk_o ∷ g) F
    → IsCanonicalFormula heads g G
put_formed p c d = formula_result (put_here c) d p

pub heap_formed : {heads : Heads} {g : List Standing} {h : ℕ} (F : FormulaTree)
    → Stands g h as_heap
    → IsCanonicalFormula heads (as_heap ∷ g) F
    → IsCanonicalFormula heads g (put_heap h F)
heap_formed {g = g} {h = h} F i d = formula_renamed d (keeps_putting h g i)

pub raised_formed : {heads : Heads} {g : List Standing} (entry : Standing) (F : FormulaTree)
    → IsCanonicalFormula heads g F
    → IsCanonicalFormula heads (entry ∷ g) (rename_formula suc F)
raised_formed {g = g} entry F d = formula_renamed d (keeps_suc entry g)

-- a motive in a context with one more value, and with one more heap
pub motive_formed : {env : Environment} {g : Context} {C C' : FormulaTree} (t : MonoTree)
    → SoundEnvironment env
    → IsCanonicalContext (heads_of env) g
    → IsCanonicalMono (standings g) t
    → FormsFormula env (en_term (y_mono t) ∷ g) C C'
    → IsCanonicalFormula (heads_of env) (as_term sk_o ∷ standings g) C'
unfolding skeleton
motive_formed {env = env} t s c m d = formed_formula env s.canonical (term_entry c (n_mono m)) d

pub heap_motive_formed : {env : Environment} {g : Context} {C C' : FormulaTree}
    → SoundEnvironment env
    → IsCanonicalContext (heads_of env) g
    → FormsFormula env (en_heap ∷ g) C C'
    → IsCanonicalFormula (heads_of env) (as_heap ∷ standings g) C'
heap_motive_formed {env = env} s c d = formed_formula env s.canonical (heap_entry c) d

-- the motive for the next word, in the context with y
pub next_motive_formed : {heads : Heads} (g : List Standing) (C : FormulaTree)
    → IsCanonicalFormula heads (as_term sk_o ∷ g) C
    → IsCanonicalFormula heads (as_term sk_o ∷ as_term sk_o ∷ g) (rename_formula (lift suc) C)
next_motive_formed g C d = formula_renamed d (keeps_lift (as_term sk_o) (keeps_suc (as_term sk_o) g))

pub first_formed : {heads : Heads} {g : List Standing} → IsCanonical heads (as_term sk_o ∷ g) (t_var 0) sk_o
first_formed = n_neutral (e_var here)

pub next_word_formed : {heads : Heads} {g : List Standing} → IsCanonical heads (as_term sk_o ∷ g) (t_bin Add (t_var 0) (t_word 1)) sk_o
unfolding contractum
next_word_formed = n_bin (n_neutral (e_var here)) n_word refl

pub below_formed : {heads : Heads} {g : List Standing} (m : TermTree) → IsCanonical heads g m sk_o → IsCanonicalFormula heads g (below_greatest m)
below_formed m d = n_equal n_m_bool (bin_folded Lt m (t_word 18446744073709551615) d n_word) n_bool

-- unfoldings
ways_formed : {heads : Heads} {g : List Standing} {A B : FormulaTree}
    → IsCanonicalFormula heads g A
    → IsCanonicalFormula heads g B
    → IsCanonicalFormula heads g (both_ways A B)
ways_formed a b = n_and (n_imp a b) (n_imp b a)

zero_formed : {env : Environment} {g : Context} (number : ℕ) (r : RecTree)
    → slice_get env.recs number ≡ Some r
    → SoundEnvironment env
    → IsCanonicalContext (heads_of env) g
    → {h : ℕ} {arguments values : List ArgTree}
    → FitsArgs env g arguments (heap_sort ∷ map term_sort r.params) (a_heap h ∷ values)
    → {F : FormulaTree}
    → PutArgs (values ++ a_heap h ∷ []) r.at_zero F
    → IsCanonicalFormula (heads_of env) (standings g) (both_ways (f_rec number h (t_word 0) (terms_of values)) F)
zero_formed {env = env} {g = g} number r found s c {h = h} {values = values} (fits_heap_arg i rest) put =
    let t = fits_terms rest r.params refl in
    let a = args_formed s c rest in
    let wide = body_wider r.params values [] (standings g) h t.0 t.1 (keeps (standings g)).0 (s.recs_sound number r found).at_zero in
    ways_formed (n_rec (heap_stands i) n_word (terms_formed values a))
    (args_canonical (standings g) put (more_formed (heads_of env) values h a (heap_stands i)) wide)

next_formed : {env : Environment} {g : Context} (number : ℕ) (r : RecTree)
    → slice_get env.recs number ≡ Some r
    → SoundEnvironment env
    → IsCanonicalContext (heads_of env) g
    → {h : ℕ} {m : TermTree} {arguments values : List ArgTree}
    → FitsArgs env g arguments (heap_sort ∷ term_sort m_word ∷ map term_sort r.params) (a_heap h ∷ a_term m ∷ values)
    → {F : FormulaTree}
    → PutArgs (a_term m ∷ values ++ a_heap h ∷ []) r.at_next F
    → IsCanonicalFormula (heads_of env) (standings g)
    (f_imp (below_greatest m) (both_ways (f_rec number h (folding (t_bin Add m (t_word 1))) (terms_of values)) F))
unfolding skeleton
next_formed {env = env} {g = g} number r found s c {h = h} {m = m} {values = values} (fits_heap_arg i (fits_term_arg d rest)) put =
    let t = fits_terms rest r.params refl in
    let a = args_formed s c rest in
    let n = form_of m_word s c d in
    let wide =
    body_wider r.params values (en_term (y_mono m_word) ∷ []) (as_term sk_o ∷ standings g) h t.0 t.1 (keeps (standings g)).1
    (s.recs_sound number r found).at_next in
    let formed : AreCanonicalArgs (heads_of env) (standings g) (a_term m ∷ values ++ a_heap h ∷ []) =
    (n, more_formed (heads_of env) values h a (heap_stands i)) in
    n_imp (below_formed m n) (ways_formed (n_rec (heap_stands i) (bin_folded Add m (t_word 1) n n_word) (terms_formed values a))
    (args_canonical (standings g) put formed wide))

given : (P : FormulaTree → Type 0) (o : Option FormulaTree) (F : FormulaTree) → o ≡ Some F → IfSome o P → P F
given P o F q d = subst (λ (o : Option FormulaTree). IfSome o P) q d

pub infers_formed : {env : Environment} {g : Context} {hs : List FormulaTree} {p : ProofTree} {F : FormulaTree}
    → Infers env g hs p F
    → SoundEnvironment env
    → IsCanonicalContext (heads_of env) g
    → AreCanonical env g hs
    → IsCanonicalFormula (heads_of env) (standings g) F
infers_formed {env = env} {g = g} {hs = hs} (infers_hyp {number = number} {F = F} q) s c d =
    each_at (IsCanonicalFormula (heads_of env) (standings g)) hs number F q d
infers_formed (infers_first p) s c d = (and_parts (infers_formed p s c d)).0
infers_formed (infers_second p) s c d = (and_parts (infers_formed p s c d)).1
infers_formed (infers_app p q) s c d = (imp_parts (infers_formed p s c d)).1
infers_formed (infers_inst_term {t = t} p f u) s c d = put_formed u (form_of t s c f) (all_parts (infers_formed p s c d)).1
infers_formed (infers_inst_heap {F = F} p i) s c d = heap_formed F (heap_stands i) (all_heap_part (infers_formed p s c d))
infers_formed {env = env} {g = g} (infers_axiom axiom_name {monos = monos} {arguments' = values} {F = F} text m shaped side sorted fits row)
    s c d =
    given (IsCanonicalFormula (heads_of env) (standings g)) (formula_of axiom_name monos values) F row
    (instance_canonical (heads_of env) (standings g) axiom_name monos values (monos_formed m) (args_formed s c fits))
infers_formed {env = env} (infers_lem p) s c d = let f = formed_formula env s.canonical c p in n_or f (n_imp f n_ff)
infers_formed {env = env} (infers_the p q) s c d = formed_formula env s.canonical c p
infers_formed (infers_at_zero {number = number} {r = r} q sorted fits put) s c d = zero_formed number r q s c fits put
infers_formed (infers_at_next {number = number} {r = r} q sorted fits put) s c d = next_formed number r q s c fits put
infers_formed (infers_at p) s c d = infers_formed p s c d

pub inferred_canonical : InferredIsCanonical
inferred_canonical env g s c hs d p F i = infers_formed i s c d
