-- Formed canonical trees: what is canonical, and fits by the shapes of types. What fits doesn't depend on
-- the formulas of types, since a canonical argument of a function or computation is long. Other than
-- in a formula that is written, computations may stand in a formula: as arguments of a variable, where
-- a definition or a substitution has put them.
use Rattle.std.specs.Prelude.{◌≡◌, ℕ, suc, List, [], ◌∷◌, map, Bool, Some, None, slice_get}
use Rattle.htt_syntax.specs.declared.mono.Op.{Op}
use Rattle.htt_syntax.specs.Trees.{MonoTree, TyTree, TripleTree, TermTree, FixTree, CompTree, StepTree, FormulaTree}
use Rattle.htt_syntax.specs.Trees.{TermTrees, m_word, m_bool, m_loc, m_unit, m_pair, m_var, y_mono, y_fun, y_all}
use Rattle.htt_syntax.specs.Trees.{y_hoare, triple, t_var, t_val, t_app, t_inst, t_lam, t_lam_t, t_do, t_fix, t_word}
use Rattle.htt_syntax.specs.Trees.{t_bool, t_loc, t_unit, t_pair, t_fst, t_snd, t_not, t_bin, t_eq, t_sel, t_made}
use Rattle.htt_syntax.specs.Trees.{x_param, x_body, c_ret, c_step, s_run, s_alloc, s_get, s_set, s_free, s_if, f_tt}
use Rattle.htt_syntax.specs.Trees.{f_ff, f_and, f_or, f_imp, f_all_t, f_ex_t, f_all_h, f_ex_h, f_emp, f_cell, f_block}
use Rattle.htt_syntax.specs.Trees.{f_join, f_same, f_eq, f_rec, no_terms, more_terms}
use Rattle.theory_renaming.specs.Renaming.{rename_mono}
use Rattle.theory_values.specs.Values.{IsWord, op_mono}
use Rattle.theory_truth.specs.Predicates.{RecTree}
use Rattle.theory_canonical.specs.Folding.{contractum}
use Rattle.theory_substitution.specs.Monotypes.{Filling, fill_mono}
use Rattle.theory_typing.specs.Contexts.{Environment, IsComparable}
use Rattle.theory_formed_shapes.specs.Shapes.{Shape, sh_mono, sh_fun, sh_all, sh_comp, shape_of, up_shape, first_filled}
use Rattle.theory_formed_shapes.specs.Shapes.{fill_shape, in_mono, in_heap, in_term, Shapes, IsMonoAt, IsHeapAt}
use Rattle.theory_formed_shapes.specs.Shapes.{HasShape}

-- A made function: the monotypes of the values that it captures, and its shape; both are closed.
pub record MadeShape : Type 0 where
  pub captured : List MonoTree
  pub whole : Shape

-- What formed trees are told of the file: the shapes of its values, which are closed, its made functions,
-- and the monotypes of the parameters of its recursive predicates.
pub record FileShapes : Type 0 where
  pub vals : List Shape
  pub made : List MadeShape
  pub recs : List (List MonoTree)

abbrev pub file_shapes : Environment → FileShapes
file_shapes env = record { vals = map shape_of env.vals; made = []; recs = map (λ (r : RecTree). r.params) env.recs }

-- A monotype, whose variables are monotypes of the context.
pub data IsFormedMono (g : Shapes) : MonoTree → Type 0 where
  z_m_word : IsFormedMono g m_word
  z_m_bool : IsFormedMono g m_bool
  z_m_loc : IsFormedMono g m_loc
  z_m_unit : IsFormedMono g m_unit
  z_m_pair : {left right : MonoTree} → IsFormedMono g left → IsFormedMono g right → IsFormedMono g (m_pair left right)
  z_m_var : {index : ℕ} → IsMonoAt g index → IsFormedMono g (m_var index)

mutual
  -- a term of a shape
  pub data IsFormedTerm (file : FileShapes) : Shapes → TermTree → Shape → Type 0 where
    z_word : {g : Shapes} {word : ℕ} → IsWord word → IsFormedTerm file g (t_word word) (sh_mono m_word)
    z_bool : {g : Shapes} {truth : Bool} → IsFormedTerm file g (t_bool truth) (sh_mono m_bool)
    z_loc : {g : Shapes} {place : ℕ} → IsWord place → IsFormedTerm file g (t_loc place) (sh_mono m_loc)
    z_unit : {g : Shapes} → IsFormedTerm file g t_unit (sh_mono m_unit)
    z_pair : {g : Shapes} {left right : TermTree} {t u : MonoTree}
        → IsFormedTerm file g left (sh_mono t)
        → IsFormedTerm file g right (sh_mono u)
        → IsFormedTerm file g (t_pair left right) (sh_mono (m_pair t u))
    z_fst : {g : Shapes} {pair : TermTree} {t u : MonoTree}
        → IsFormedTerm file g pair (sh_mono (m_pair t u))
        → contractum (t_fst pair) ≡ None
        → IsFormedTerm file g (t_fst pair) (sh_mono t)
    z_snd : {g : Shapes} {pair : TermTree} {t u : MonoTree}
        → IsFormedTerm file g pair (sh_mono (m_pair t u))
        → contractum (t_snd pair) ≡ None
        → IsFormedTerm file g (t_snd pair) (sh_mono u)
    z_not : {g : Shapes} {term : TermTree}
        → IsFormedTerm file g term (sh_mono m_bool)
        → contractum (t_not term) ≡ None
        → IsFormedTerm file g (t_not term) (sh_mono m_bool)
    z_bin : {g : Shapes} {op : Op} {left right : TermTree}
        → IsFormedTerm file g left (sh_mono m_word)
        → IsFormedTerm file g right (sh_mono m_word)
        → contractum (t_bin op left right) ≡ None
        → IsFormedTerm file g (t_bin op left right) (sh_mono (op_mono op))
    z_eq : {g : Shapes} {t : MonoTree} {left right : TermTree}
        → IsComparable t
        → IsFormedTerm file g left (sh_mono t)
        → IsFormedTerm file g right (sh_mono t)
        → contractum (t_eq t left right) ≡ None
        → IsFormedTerm file g (t_eq t left right) (sh_mono m_bool)
    z_sel : {g : Shapes} {t : MonoTree} {test on_true on_false : TermTree}
        → IsFormedMono g t
        → IsFormedTerm file g test (sh_mono m_bool)
        → IsFormedTerm file g on_true (sh_mono t)
        → IsFormedTerm file g on_false (sh_mono t)
        → contractum (t_sel t test on_true on_false) ≡ None
        → IsFormedTerm file g (t_sel t test on_true on_false) (sh_mono t)
    z_lam : {g : Shapes} {body : TermTree} {s t : Shape}
        → IsFormedTerm file (in_term s ∷ g) body (up_shape t)
        → IsFormedTerm file g (t_lam body) (sh_fun s t)
    z_lam_t : {g : Shapes} {body : TermTree} {s : Shape}
        → IsFormedTerm file (in_mono ∷ g) body s
        → IsFormedTerm file g (t_lam_t body) (sh_all s)
    z_do : {g : Shapes} {comp : CompTree} {t : MonoTree}
        → IsFormedComp file g comp t
        → IsFormedTerm file g (t_do comp) (sh_comp t)
    z_neutral : {g : Shapes} {term : TermTree} {t : MonoTree}
        → IsFormedNeutral file g term (sh_mono t)
        → IsFormedTerm file g term (sh_mono t)

  -- a head with its arguments
  pub data IsFormedNeutral (file : FileShapes) : Shapes → TermTree → Shape → Type 0 where
    w_var : {g : Shapes} {index : ℕ} {s : Shape} → HasShape g index s → IsFormedNeutral file g (t_var index) s
    w_val : {g : Shapes} {number : ℕ} {s : Shape}
        → slice_get file.vals number ≡ Some s
        → IsFormedNeutral file g (t_val number) s
    w_made : {g : Shapes} {number : ℕ} {values : TermTrees} {m : MadeShape}
        → slice_get file.made number ≡ Some m
        → IsFormedTerms file g values m.captured
        → IsFormedNeutral file g (t_made number values) m.whole
    w_fix : {g : Shapes} {at : ℕ} {fix : FixTree} {s : Shape}
        → IsFormedFix file g s fix s
        → IsFormedNeutral file g (t_fix at fix) s
    w_app : {g : Shapes} {function argument : TermTree} {s t : Shape}
        → IsFormedNeutral file g function (sh_fun s t)
        → IsFormedTerm file g argument s
        → IsFormedNeutral file g (t_app function argument) t
    w_inst : {g : Shapes} {function : TermTree} {t : MonoTree} {s : Shape}
        → IsFormedNeutral file g function (sh_all s)
        → IsFormedMono g t
        → IsFormedNeutral file g (t_inst function t) (fill_shape (first_filled t) s)

  -- terms of these monotypes, in order
  pub data IsFormedTerms (file : FileShapes) : Shapes → TermTrees → List MonoTree → Type 0 where
    z_no_terms : {g : Shapes} → IsFormedTerms file g no_terms []
    z_more_terms : {g : Shapes} {term : TermTree} {others : TermTrees} {t : MonoTree} {ts : List MonoTree}
        → IsFormedTerm file g term (sh_mono t)
        → IsFormedTerms file g others ts
        → IsFormedTerms file g (more_terms term others) (t ∷ ts)

  -- a recursive function: the shape of the whole, seen from the context, and that from this parameter on
  pub data IsFormedFix (file : FileShapes) : Shapes → Shape → FixTree → Shape → Type 0 where
    z_param : {g : Shapes} {whole t : Shape} {ty : TyTree} {others : FixTree}
        → IsFormedTy file g ty
        → IsFormedFix file (in_term (shape_of ty) ∷ g) (up_shape whole) others (up_shape t)
        → IsFormedFix file g whole (x_param ty others) (sh_fun (shape_of ty) t)
    z_body : {g : Shapes} {whole : Shape} {pre post : FormulaTree} {t : MonoTree} {comp : CompTree}
        → IsFormedTriple file g (triple pre t post)
        → IsFormedComp file (in_term whole ∷ g) comp (rename_mono suc t)
        → IsFormedFix file g whole (x_body (triple pre t post) comp) (sh_comp t)

  -- a computation, with the monotype of its result
  pub data IsFormedComp (file : FileShapes) : Shapes → CompTree → MonoTree → Type 0 where
    z_ret : {g : Shapes} {term : TermTree} {t : MonoTree}
        → IsFormedTerm file g term (sh_mono t)
        → IsFormedComp file g (c_ret term) t
    z_step : {g : Shapes} {step : StepTree} {others : CompTree} {t u : MonoTree}
        → IsFormedStep file g step u
        → IsFormedComp file (in_term (sh_mono u) ∷ g) others (rename_mono suc t)
        → IsFormedComp file g (c_step step others) t

  -- a step, with the monotype of its variable
  pub data IsFormedStep (file : FileShapes) : Shapes → StepTree → MonoTree → Type 0 where
    z_run : {g : Shapes} {term : TermTree} {t : MonoTree}
        → IsFormedNeutral file g term (sh_comp t)
        → IsFormedMono g t
        → IsFormedStep file g (s_run term (Some t)) t
    z_alloc : {g : Shapes} {t : MonoTree} {value : TermTree}
        → IsFormedMono g t
        → IsFormedTerm file g value (sh_mono t)
        → IsFormedStep file g (s_alloc t value) m_loc
    z_get : {g : Shapes} {t : MonoTree} {place : TermTree}
        → IsFormedMono g t
        → IsFormedTerm file g place (sh_mono m_loc)
        → IsFormedStep file g (s_get t place) t
    z_set : {g : Shapes} {t : MonoTree} {place value : TermTree}
        → IsFormedMono g t
        → IsFormedTerm file g place (sh_mono m_loc)
        → IsFormedTerm file g value (sh_mono t)
        → IsFormedStep file g (s_set t place value) m_unit
    z_free : {g : Shapes} {t : MonoTree} {place : TermTree}
        → IsFormedMono g t
        → IsFormedTerm file g place (sh_mono m_loc)
        → IsFormedStep file g (s_free t place) m_unit
    z_if : {g : Shapes} {t : MonoTree} {test : TermTree} {on_true on_false : CompTree}
        → IsFormedMono g t
        → IsFormedTerm file g test (sh_mono m_bool)
        → IsFormedComp file g on_true t
        → IsFormedComp file g on_false t
        → IsFormedStep file g (s_if t test on_true on_false) t

  -- a type
  pub data IsFormedTy (file : FileShapes) : Shapes → TyTree → Type 0 where
    z_mono : {g : Shapes} {t : MonoTree} → IsFormedMono g t → IsFormedTy file g (y_mono t)
    z_fun : {g : Shapes} {argument answer : TyTree}
        → IsFormedTy file g argument
        → IsFormedTy file (in_term (shape_of argument) ∷ g) answer
        → IsFormedTy file g (y_fun argument answer)
    z_all : {g : Shapes} {body : TyTree} → IsFormedTy file (in_mono ∷ g) body → IsFormedTy file g (y_all body)
    z_hoare : {g : Shapes} {spec : TripleTree} → IsFormedTriple file g spec → IsFormedTy file g (y_hoare spec)

  -- the precondition under mem; the postcondition under the result, init and mem
  pub data IsFormedTriple (file : FileShapes) : Shapes → TripleTree → Type 0 where
    z_triple : {g : Shapes} {pre post : FormulaTree} {t : MonoTree}
        → IsFormedFormula file (in_heap ∷ g) pre
        → IsFormedMono g t
        → IsFormedFormula file (in_heap ∷ in_heap ∷ in_term (sh_mono t) ∷ g) post
        → IsFormedTriple file g (triple pre t post)

  -- a formula
  pub data IsFormedFormula (file : FileShapes) : Shapes → FormulaTree → Type 0 where
    z_tt : {g : Shapes} → IsFormedFormula file g f_tt
    z_ff : {g : Shapes} → IsFormedFormula file g f_ff
    z_and : {g : Shapes} {left right : FormulaTree}
        → IsFormedFormula file g left
        → IsFormedFormula file g right
        → IsFormedFormula file g (f_and left right)
    z_or : {g : Shapes} {left right : FormulaTree}
        → IsFormedFormula file g left
        → IsFormedFormula file g right
        → IsFormedFormula file g (f_or left right)
    z_imp : {g : Shapes} {left right : FormulaTree}
        → IsFormedFormula file g left
        → IsFormedFormula file g right
        → IsFormedFormula file g (f_imp left right)
    z_all_t : {g : Shapes} {t : MonoTree} {body : FormulaTree}
        → IsFormedMono g t
        → IsFormedFormula file (in_term (sh_mono t) ∷ g) body
        → IsFormedFormula file g (f_all_t t body)
    z_ex_t : {g : Shapes} {t : MonoTree} {body : FormulaTree}
        → IsFormedMono g t
        → IsFormedFormula file (in_term (sh_mono t) ∷ g) body
        → IsFormedFormula file g (f_ex_t t body)
    z_all_h : {g : Shapes} {body : FormulaTree}
        → IsFormedFormula file (in_heap ∷ g) body
        → IsFormedFormula file g (f_all_h body)
    z_ex_h : {g : Shapes} {body : FormulaTree}
        → IsFormedFormula file (in_heap ∷ g) body
        → IsFormedFormula file g (f_ex_h body)
    z_emp : {g : Shapes} {heap : ℕ} → IsHeapAt g heap → IsFormedFormula file g (f_emp heap)
    z_cell : {g : Shapes} {t : MonoTree} {heap : ℕ} {place value : TermTree}
        → IsFormedMono g t
        → IsHeapAt g heap
        → IsFormedTerm file g place (sh_mono m_loc)
        → IsFormedTerm file g value (sh_mono t)
        → IsFormedFormula file g (f_cell t heap place value)
    z_block : {g : Shapes} {t : MonoTree} {heap : ℕ} {place : TermTree}
        → IsFormedMono g t
        → IsHeapAt g heap
        → IsFormedTerm file g place (sh_mono m_loc)
        → IsFormedFormula file g (f_block t heap place)
    z_join : {g : Shapes} {whole left right : ℕ}
        → IsHeapAt g whole
        → IsHeapAt g left
        → IsHeapAt g right
        → IsFormedFormula file g (f_join whole left right)
    z_same : {g : Shapes} {left right : ℕ}
        → IsHeapAt g left
        → IsHeapAt g right
        → IsFormedFormula file g (f_same left right)
    z_equal : {g : Shapes} {t : MonoTree} {left right : TermTree}
        → IsFormedMono g t
        → IsFormedTerm file g left (sh_mono t)
        → IsFormedTerm file g right (sh_mono t)
        → IsFormedFormula file g (f_eq t left right)
    z_rec : {g : Shapes} {number heap : ℕ} {place : TermTree} {arguments : TermTrees} {ts : List MonoTree}
        → slice_get file.recs number ≡ Some ts
        → IsHeapAt g heap
        → IsFormedTerm file g place (sh_mono m_word)
        → IsFormedTerms file g arguments ts
        → IsFormedFormula file g (f_rec number heap place arguments)

-- What the file says is closed: no filling changes it.
abbrev pub fill_monos : Filling → List MonoTree → List MonoTree
fill_monos f ts = map (fill_mono f) ts

pub record IsClosedFile (file : FileShapes) : Type 0 where
  pub vals : (number : ℕ) (s : Shape) → slice_get file.vals number ≡ Some s → (f : Filling) → fill_shape f s ≡ s
  pub captured : (number : ℕ) (m : MadeShape)
      → slice_get file.made number ≡ Some m
      → (f : Filling)
      → fill_monos f m.captured ≡ m.captured
  pub made : (number : ℕ) (m : MadeShape)
      → slice_get file.made number ≡ Some m
      → (f : Filling)
      → fill_shape f m.whole ≡ m.whole
  pub recs : (number : ℕ) (ts : List MonoTree)
      → slice_get file.recs number ≡ Some ts
      → (f : Filling)
      → fill_monos f ts ≡ ts
