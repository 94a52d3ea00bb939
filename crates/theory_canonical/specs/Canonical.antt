-- Canonical trees: what has no redex and is long at function types. A context says what each free
-- variable is; a made function is a head like a variable. Nothing else is canonical: no claim, no
-- definition, no annotation, no position, and no run without the monotype of its result.
use Rattle.std.specs.Prelude.{◌≡◌, ℕ, List, ◌∷◌, Bool, Some, None}
use Rattle.htt_syntax.specs.declared.mono.Op.{Op}
use Rattle.htt_syntax.specs.Trees.{MonoTree, TyTree, TripleTree, TermTree, FixTree, CompTree, StepTree, FormulaTree}
use Rattle.htt_syntax.specs.Trees.{TermTrees, m_word, m_bool, m_loc, m_unit, m_pair, m_var, y_mono, y_fun, y_all}
use Rattle.htt_syntax.specs.Trees.{y_hoare, triple, t_var, t_val, t_app, t_inst, t_lam, t_lam_t, t_do, t_fix, t_word}
use Rattle.htt_syntax.specs.Trees.{t_bool, t_loc, t_unit, t_pair, t_fst, t_snd, t_not, t_bin, t_eq, t_sel, t_made}
use Rattle.htt_syntax.specs.Trees.{x_param, x_body, c_ret, c_step, s_run, s_alloc, s_get, s_set, s_free, s_if, f_tt}
use Rattle.htt_syntax.specs.Trees.{f_ff, f_and, f_or, f_imp, f_all_t, f_ex_t, f_all_h, f_ex_h, f_emp, f_cell, f_block}
use Rattle.htt_syntax.specs.Trees.{f_join, f_same, f_eq, f_rec, no_terms, more_terms}
use Rattle.theory_canonical.specs.Skeletons.{Skeleton, sk_o, sk_c, sk_arrow, sk_all, skeleton}
use Rattle.theory_canonical.specs.Folding.{contractum}
use Rattle.theory_canonical.specs.Contexts.{Standing, as_mono, as_heap, as_term, Stands, Heads, HasSkeleton}

-- A monotype, whose variables are monotypes of the context.
pub data IsCanonicalMono : List Standing → MonoTree → Type 0 where
  n_m_word : {g : List Standing} → IsCanonicalMono g m_word
  n_m_bool : {g : List Standing} → IsCanonicalMono g m_bool
  n_m_loc : {g : List Standing} → IsCanonicalMono g m_loc
  n_m_unit : {g : List Standing} → IsCanonicalMono g m_unit
  n_m_pair : {g : List Standing} {left right : MonoTree}
      → IsCanonicalMono g left
      → IsCanonicalMono g right
      → IsCanonicalMono g (m_pair left right)
  n_m_var : {g : List Standing} {index : ℕ} → Stands g index as_mono → IsCanonicalMono g (m_var index)

mutual
  -- a term: long at function types and under monotypes, with each operation folded that can be
  pub data IsCanonical (heads : Heads) : List Standing → TermTree → Skeleton → Type 0 where
    n_word : {g : List Standing} {word : ℕ} → IsCanonical heads g (t_word word) sk_o
    n_bool : {g : List Standing} {truth : Bool} → IsCanonical heads g (t_bool truth) sk_o
    n_loc : {g : List Standing} {place : ℕ} → IsCanonical heads g (t_loc place) sk_o
    n_unit : {g : List Standing} → IsCanonical heads g t_unit sk_o
    n_pair : {g : List Standing} {left right : TermTree}
        → IsCanonical heads g left sk_o
        → IsCanonical heads g right sk_o
        → IsCanonical heads g (t_pair left right) sk_o
    n_fst : {g : List Standing} {pair : TermTree}
        → IsCanonical heads g pair sk_o
        → contractum (t_fst pair) ≡ None
        → IsCanonical heads g (t_fst pair) sk_o
    n_snd : {g : List Standing} {pair : TermTree}
        → IsCanonical heads g pair sk_o
        → contractum (t_snd pair) ≡ None
        → IsCanonical heads g (t_snd pair) sk_o
    n_not : {g : List Standing} {term : TermTree}
        → IsCanonical heads g term sk_o
        → contractum (t_not term) ≡ None
        → IsCanonical heads g (t_not term) sk_o
    n_bin : {g : List Standing} {op : Op} {left right : TermTree}
        → IsCanonical heads g left sk_o
        → IsCanonical heads g right sk_o
        → contractum (t_bin op left right) ≡ None
        → IsCanonical heads g (t_bin op left right) sk_o
    n_eq : {g : List Standing} {mono : MonoTree} {left right : TermTree}
        → IsCanonicalMono g mono
        → IsCanonical heads g left sk_o
        → IsCanonical heads g right sk_o
        → contractum (t_eq mono left right) ≡ None
        → IsCanonical heads g (t_eq mono left right) sk_o
    n_sel : {g : List Standing} {mono : MonoTree} {test on_true on_false : TermTree}
        → IsCanonicalMono g mono
        → IsCanonical heads g test sk_o
        → IsCanonical heads g on_true sk_o
        → IsCanonical heads g on_false sk_o
        → contractum (t_sel mono test on_true on_false) ≡ None
        → IsCanonical heads g (t_sel mono test on_true on_false) sk_o
    n_lam : {g : List Standing} {body : TermTree} {s t : Skeleton}
        → IsCanonical heads (as_term s ∷ g) body t
        → IsCanonical heads g (t_lam body) (sk_arrow s t)
    n_lam_t : {g : List Standing} {body : TermTree} {s : Skeleton}
        → IsCanonical heads (as_mono ∷ g) body s
        → IsCanonical heads g (t_lam_t body) (sk_all s)
    n_do : {g : List Standing} {comp : CompTree} → IsCanonicalComp heads g comp → IsCanonical heads g (t_do comp) sk_c
    n_neutral : {g : List Standing} {term : TermTree} → IsNeutral heads g term sk_o → IsCanonical heads g term sk_o

  -- a head that is never reduced, with its arguments
  pub data IsNeutral (heads : Heads) : List Standing → TermTree → Skeleton → Type 0 where
    e_var : {g : List Standing} {index : ℕ} {s : Skeleton}
        → Stands g index (as_term s)
        → IsNeutral heads g (t_var index) s
    e_val : {g : List Standing} {number : ℕ} {s : Skeleton}
        → HasSkeleton (heads.vals) number s
        → IsNeutral heads g (t_val number) s
    e_made : {g : List Standing} {number : ℕ} {values : TermTrees} {s : Skeleton}
        → HasSkeleton (heads.made) number s
        → IsCanonicalTerms heads g values
        → IsNeutral heads g (t_made number values) s
    e_fix : {g : List Standing} {at : ℕ} {fix : FixTree} {s : Skeleton}
        → IsCanonicalFix heads g s fix s
        → IsNeutral heads g (t_fix at fix) s
    e_app : {g : List Standing} {function argument : TermTree} {s t : Skeleton}
        → IsNeutral heads g function (sk_arrow s t)
        → IsCanonical heads g argument s
        → IsNeutral heads g (t_app function argument) t
    e_inst : {g : List Standing} {function : TermTree} {mono : MonoTree} {s : Skeleton}
        → IsNeutral heads g function (sk_all s)
        → IsCanonicalMono g mono
        → IsNeutral heads g (t_inst function mono) s

  -- terms of monotypes
  pub data IsCanonicalTerms (heads : Heads) : List Standing → TermTrees → Type 0 where
    n_no_terms : {g : List Standing} → IsCanonicalTerms heads g no_terms
    n_more_terms : {g : List Standing} {term : TermTree} {others : TermTrees}
        → IsCanonical heads g term sk_o
        → IsCanonicalTerms heads g others
        → IsCanonicalTerms heads g (more_terms term others)

  -- a recursive function: the skeleton of the whole, and that from this parameter on
  pub data IsCanonicalFix (heads : Heads) : List Standing → Skeleton → FixTree → Skeleton → Type 0 where
    n_param : {g : List Standing} {whole s t : Skeleton} {ty : TyTree} {others : FixTree}
        → IsCanonicalTy heads g ty
        → skeleton ty ≡ s
        → IsCanonicalFix heads (as_term s ∷ g) whole others t
        → IsCanonicalFix heads g whole (x_param ty others) (sk_arrow s t)
    n_body : {g : List Standing} {whole : Skeleton} {spec : TripleTree} {comp : CompTree}
        → IsCanonicalTriple heads g spec
        → IsCanonicalComp heads (as_term whole ∷ g) comp
        → IsCanonicalFix heads g whole (x_body spec comp) sk_c

  -- a computation, without claims
  pub data IsCanonicalComp (heads : Heads) : List Standing → CompTree → Type 0 where
    n_ret : {g : List Standing} {term : TermTree} → IsCanonical heads g term sk_o → IsCanonicalComp heads g (c_ret term)
    n_step : {g : List Standing} {step : StepTree} {others : CompTree}
        → IsCanonicalStep heads g step
        → IsCanonicalComp heads (as_term sk_o ∷ g) others
        → IsCanonicalComp heads g (c_step step others)

  pub data IsCanonicalStep (heads : Heads) : List Standing → StepTree → Type 0 where
    n_run : {g : List Standing} {term : TermTree} {mono : MonoTree}
        → IsNeutral heads g term sk_c
        → IsCanonicalMono g mono
        → IsCanonicalStep heads g (s_run term (Some mono))
    n_alloc : {g : List Standing} {mono : MonoTree} {value : TermTree}
        → IsCanonicalMono g mono
        → IsCanonical heads g value sk_o
        → IsCanonicalStep heads g (s_alloc mono value)
    n_get : {g : List Standing} {mono : MonoTree} {place : TermTree}
        → IsCanonicalMono g mono
        → IsCanonical heads g place sk_o
        → IsCanonicalStep heads g (s_get mono place)
    n_set : {g : List Standing} {mono : MonoTree} {place value : TermTree}
        → IsCanonicalMono g mono
        → IsCanonical heads g place sk_o
        → IsCanonical heads g value sk_o
        → IsCanonicalStep heads g (s_set mono place value)
    n_free : {g : List Standing} {mono : MonoTree} {place : TermTree}
        → IsCanonicalMono g mono
        → IsCanonical heads g place sk_o
        → IsCanonicalStep heads g (s_free mono place)
    n_if : {g : List Standing} {mono : MonoTree} {test : TermTree} {on_true on_false : CompTree}
        → IsCanonicalMono g mono
        → IsCanonical heads g test sk_o
        → IsCanonicalComp heads g on_true
        → IsCanonicalComp heads g on_false
        → IsCanonicalStep heads g (s_if mono test on_true on_false)

  pub data IsCanonicalTy (heads : Heads) : List Standing → TyTree → Type 0 where
    n_mono : {g : List Standing} {mono : MonoTree} → IsCanonicalMono g mono → IsCanonicalTy heads g (y_mono mono)
    n_fun : {g : List Standing} {argument answer : TyTree} {s : Skeleton}
        → IsCanonicalTy heads g argument
        → skeleton argument ≡ s
        → IsCanonicalTy heads (as_term s ∷ g) answer
        → IsCanonicalTy heads g (y_fun argument answer)
    n_all : {g : List Standing} {body : TyTree}
        → IsCanonicalTy heads (as_mono ∷ g) body
        → IsCanonicalTy heads g (y_all body)
    n_hoare : {g : List Standing} {spec : TripleTree}
        → IsCanonicalTriple heads g spec
        → IsCanonicalTy heads g (y_hoare spec)

  -- the precondition under mem; the postcondition under the result, init and mem
  pub data IsCanonicalTriple (heads : Heads) : List Standing → TripleTree → Type 0 where
    n_triple : {g : List Standing} {pre post : FormulaTree} {mono : MonoTree}
        → IsCanonicalFormula heads (as_heap ∷ g) pre
        → IsCanonicalMono g mono
        → IsCanonicalFormula heads (as_heap ∷ as_heap ∷ as_term sk_o ∷ g) post
        → IsCanonicalTriple heads g (triple pre mono post)

  pub data IsCanonicalFormula (heads : Heads) : List Standing → FormulaTree → Type 0 where
    n_tt : {g : List Standing} → IsCanonicalFormula heads g f_tt
    n_ff : {g : List Standing} → IsCanonicalFormula heads g f_ff
    n_and : {g : List Standing} {left right : FormulaTree}
        → IsCanonicalFormula heads g left
        → IsCanonicalFormula heads g right
        → IsCanonicalFormula heads g (f_and left right)
    n_or : {g : List Standing} {left right : FormulaTree}
        → IsCanonicalFormula heads g left
        → IsCanonicalFormula heads g right
        → IsCanonicalFormula heads g (f_or left right)
    n_imp : {g : List Standing} {left right : FormulaTree}
        → IsCanonicalFormula heads g left
        → IsCanonicalFormula heads g right
        → IsCanonicalFormula heads g (f_imp left right)
    n_all_t : {g : List Standing} {mono : MonoTree} {body : FormulaTree}
        → IsCanonicalMono g mono
        → IsCanonicalFormula heads (as_term sk_o ∷ g) body
        → IsCanonicalFormula heads g (f_all_t mono body)
    n_ex_t : {g : List Standing} {mono : MonoTree} {body : FormulaTree}
        → IsCanonicalMono g mono
        → IsCanonicalFormula heads (as_term sk_o ∷ g) body
        → IsCanonicalFormula heads g (f_ex_t mono body)
    n_all_h : {g : List Standing} {body : FormulaTree}
        → IsCanonicalFormula heads (as_heap ∷ g) body
        → IsCanonicalFormula heads g (f_all_h body)
    n_ex_h : {g : List Standing} {body : FormulaTree}
        → IsCanonicalFormula heads (as_heap ∷ g) body
        → IsCanonicalFormula heads g (f_ex_h body)
    n_emp : {g : List Standing} {heap : ℕ} → Stands g heap as_heap → IsCanonicalFormula heads g (f_emp heap)
    n_cell : {g : List Standing} {mono : MonoTree} {heap : ℕ} {place value : TermTree}
        → IsCanonicalMono g mono
        → Stands g heap as_heap
        → IsCanonical heads g place sk_o
        → IsCanonical heads g value sk_o
        → IsCanonicalFormula heads g (f_cell mono heap place value)
    n_block : {g : List Standing} {mono : MonoTree} {heap : ℕ} {place : TermTree}
        → IsCanonicalMono g mono
        → Stands g heap as_heap
        → IsCanonical heads g place sk_o
        → IsCanonicalFormula heads g (f_block mono heap place)
    n_join : {g : List Standing} {whole left right : ℕ}
        → Stands g whole as_heap
        → Stands g left as_heap
        → Stands g right as_heap
        → IsCanonicalFormula heads g (f_join whole left right)
    n_same : {g : List Standing} {left right : ℕ}
        → Stands g left as_heap
        → Stands g right as_heap
        → IsCanonicalFormula heads g (f_same left right)
    n_equal : {g : List Standing} {mono : MonoTree} {left right : TermTree}
        → IsCanonicalMono g mono
        → IsCanonical heads g left sk_o
        → IsCanonical heads g right sk_o
        → IsCanonicalFormula heads g (f_eq mono left right)
    n_rec : {g : List Standing} {number heap : ℕ} {place : TermTree} {arguments : TermTrees}
        → Stands g heap as_heap
        → IsCanonical heads g place sk_o
        → IsCanonicalTerms heads g arguments
        → IsCanonicalFormula heads g (f_rec number heap place arguments)
