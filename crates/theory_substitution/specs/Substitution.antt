-- Hereditary substitution: a new term of a skeleton is put for the variable x of a canonical tree, and
-- what comes to stand as a redex is reduced. The new term is shifted under each binder, and the gap
-- that x leaves is closed. Trees with a claim, a definition, an annotation or a position have no case.
use Rattle.std.specs.Prelude.{◌≡◌, ◌≢◌, ℕ, zero, suc, Bool, Option, option_map}
use Rattle.htt_syntax.specs.declared.mono.Op.{Op}
use Rattle.htt_syntax.specs.Trees.{MonoTree, TyTree, TripleTree, TermTree, FixTree, CompTree, StepTree, FormulaTree}
use Rattle.htt_syntax.specs.Trees.{TermTrees, y_mono, y_fun, y_all, y_hoare, triple, t_var, t_val, t_app, t_inst, t_lam}
use Rattle.htt_syntax.specs.Trees.{t_lam_t, t_do, t_fix, t_word, t_bool, t_loc, t_unit, t_pair, t_fst, t_snd, t_not}
use Rattle.htt_syntax.specs.Trees.{t_bin, t_eq, t_sel, t_made, x_param, x_body, c_ret, c_step, s_run, s_alloc, s_get}
use Rattle.htt_syntax.specs.Trees.{s_set, s_free, s_if, f_tt, f_ff, f_and, f_or, f_imp, f_all_t, f_ex_t, f_all_h}
use Rattle.htt_syntax.specs.Trees.{f_ex_h, f_emp, f_cell, f_block, f_join, f_same, f_eq, f_rec, no_terms, more_terms}
use Rattle.theory_renaming.specs.Renaming.{lift, rename_mono, rename_comp}
use Rattle.theory_canonical.specs.Skeletons.{Skeleton, sk_o, sk_c, sk_arrow, sk_all}
use Rattle.theory_canonical.specs.Folding.{folding}
use Rattle.theory_substitution.specs.Closing.{closing, up}
use Rattle.theory_substitution.specs.Monotypes.{put_mono_term}

mutual
  -- a head that isn't x stays, and the arguments are replaced
  pub data Kept : TermTree → Skeleton → ℕ → TermTree → TermTree → Type 0 where
    k_var : {new : TermTree} {s : Skeleton} {x : ℕ} {index : ℕ}
        → index ≢ x
        → Kept new s x (t_var index) (t_var (closing x index))
    k_val : {new : TermTree} {s : Skeleton} {x : ℕ} {number : ℕ} → Kept new s x (t_val number) (t_val number)
    k_made : {new : TermTree} {s : Skeleton} {x : ℕ} {number : ℕ} {values values' : TermTrees}
        → SubTerms new s x values values'
        → Kept new s x (t_made number values) (t_made number values')
    k_fix : {new : TermTree} {s : Skeleton} {x : ℕ} {at : ℕ} {fix fix' : FixTree}
        → SubFix new s x fix fix'
        → Kept new s x (t_fix at fix) (t_fix at fix')
    k_app : {new : TermTree} {s : Skeleton} {x : ℕ} {function function' argument argument' : TermTree}
        → Kept new s x function function'
        → SubTerm new s x argument argument'
        → Kept new s x (t_app function argument) (t_app function' argument')
    k_inst : {new : TermTree} {s : Skeleton} {x : ℕ} {function function' : TermTree} {mono : MonoTree}
        → Kept new s x function function'
        → Kept new s x (t_inst function mono) (t_inst function' (rename_mono (closing x) mono))

  -- the head x becomes the new term, which is applied to each argument; the skeleton is that of
  -- the result
  pub data Reduced : TermTree → Skeleton → ℕ → TermTree → TermTree → Skeleton → Type 0 where
    r_var : {new : TermTree} {s : Skeleton} {x : ℕ} {index : ℕ} → index ≡ x → Reduced new s x (t_var index) new s
    r_app : {new : TermTree} {s : Skeleton} {x : ℕ} {left right : Skeleton}
        {function function' argument argument' result : TermTree}
        → Reduced new s x function function' (sk_arrow left right)
        → SubTerm new s x argument argument'
        → App function' left argument' result
        → Reduced new s x (t_app function argument) result right
    r_inst : {new : TermTree} {s : Skeleton} {x : ℕ} {left : Skeleton} {function body : TermTree} {mono : MonoTree}
        → Reduced new s x function (t_lam_t body) (sk_all left)
        → Reduced new s x (t_inst function mono) (put_mono_term (rename_mono (closing x) mono) zero body) left

  -- a function applied to an argument of a skeleton
  pub data App : TermTree → Skeleton → TermTree → TermTree → Type 0 where
    applied : {s : Skeleton} {body argument result : TermTree}
        → SubTerm argument s zero body result
        → App (t_lam body) s argument result

  pub data SubTerm : TermTree → Skeleton → ℕ → TermTree → TermTree → Type 0 where
    u_kept : {new : TermTree} {s : Skeleton} {x : ℕ} {term term' : TermTree}
        → Kept new s x term term'
        → SubTerm new s x term term'
    u_reduced : {new : TermTree} {s : Skeleton} {x : ℕ} {term result : TermTree} {left : Skeleton}
        → Reduced new s x term result left
        → SubTerm new s x term result
    u_word : {new : TermTree} {s : Skeleton} {x : ℕ} {word : ℕ} → SubTerm new s x (t_word word) (t_word word)
    u_bool : {new : TermTree} {s : Skeleton} {x : ℕ} {truth : Bool} → SubTerm new s x (t_bool truth) (t_bool truth)
    u_loc : {new : TermTree} {s : Skeleton} {x : ℕ} {place : ℕ} → SubTerm new s x (t_loc place) (t_loc place)
    u_unit : {new : TermTree} {s : Skeleton} {x : ℕ} → SubTerm new s x t_unit t_unit
    u_pair : {new : TermTree} {s : Skeleton} {x : ℕ} {left left' right right' : TermTree}
        → SubTerm new s x left left'
        → SubTerm new s x right right'
        → SubTerm new s x (t_pair left right) (t_pair left' right')
    u_fst : {new : TermTree} {s : Skeleton} {x : ℕ} {pair pair' : TermTree}
        → SubTerm new s x pair pair'
        → SubTerm new s x (t_fst pair) (folding (t_fst pair'))
    u_snd : {new : TermTree} {s : Skeleton} {x : ℕ} {pair pair' : TermTree}
        → SubTerm new s x pair pair'
        → SubTerm new s x (t_snd pair) (folding (t_snd pair'))
    u_not : {new : TermTree} {s : Skeleton} {x : ℕ} {term term' : TermTree}
        → SubTerm new s x term term'
        → SubTerm new s x (t_not term) (folding (t_not term'))
    u_bin : {new : TermTree} {s : Skeleton} {x : ℕ} {op : Op} {left left' right right' : TermTree}
        → SubTerm new s x left left'
        → SubTerm new s x right right'
        → SubTerm new s x (t_bin op left right) (folding (t_bin op left' right'))
    u_eq : {new : TermTree} {s : Skeleton} {x : ℕ} {mono : MonoTree} {left left' right right' : TermTree}
        → SubTerm new s x left left'
        → SubTerm new s x right right'
        → SubTerm new s x (t_eq mono left right) (folding (t_eq (rename_mono (closing x) mono) left' right'))
    u_sel : {new : TermTree} {s : Skeleton} {x : ℕ} {mono : MonoTree}
        {test test' on_true on_true' on_false on_false' : TermTree}
        → SubTerm new s x test test'
        → SubTerm new s x on_true on_true'
        → SubTerm new s x on_false on_false'
        → SubTerm new s x (t_sel mono test on_true on_false)
        (folding (t_sel (rename_mono (closing x) mono) test' on_true' on_false'))
    u_lam : {new : TermTree} {s : Skeleton} {x : ℕ} {body body' : TermTree}
        → SubTerm (up new) s (suc x) body body'
        → SubTerm new s x (t_lam body) (t_lam body')
    u_lam_t : {new : TermTree} {s : Skeleton} {x : ℕ} {body body' : TermTree}
        → SubTerm (up new) s (suc x) body body'
        → SubTerm new s x (t_lam_t body) (t_lam_t body')
    u_do : {new : TermTree} {s : Skeleton} {x : ℕ} {comp comp' : CompTree}
        → SubComp new s x comp comp'
        → SubTerm new s x (t_do comp) (t_do comp')

  pub data SubTerms : TermTree → Skeleton → ℕ → TermTrees → TermTrees → Type 0 where
    u_no_terms : {new : TermTree} {s : Skeleton} {x : ℕ} → SubTerms new s x no_terms no_terms
    u_more_terms : {new : TermTree} {s : Skeleton} {x : ℕ} {term term' : TermTree} {others others' : TermTrees}
        → SubTerm new s x term term'
        → SubTerms new s x others others'
        → SubTerms new s x (more_terms term others) (more_terms term' others')

  pub data SubFix : TermTree → Skeleton → ℕ → FixTree → FixTree → Type 0 where
    u_x_param : {new : TermTree} {s : Skeleton} {x : ℕ} {ty ty' : TyTree} {others others' : FixTree}
        → SubTy new s x ty ty'
        → SubFix (up new) s (suc x) others others'
        → SubFix new s x (x_param ty others) (x_param ty' others')
    u_x_body : {new : TermTree} {s : Skeleton} {x : ℕ} {spec spec' : TripleTree} {comp comp' : CompTree}
        → SubTriple new s x spec spec'
        → SubComp (up new) s (suc x) comp comp'
        → SubFix new s x (x_body spec comp) (x_body spec' comp')

  -- a step that comes to run a computation is replaced by that computation's steps
  pub data SubComp : TermTree → Skeleton → ℕ → CompTree → CompTree → Type 0 where
    u_ret : {new : TermTree} {s : Skeleton} {x : ℕ} {term term' : TermTree}
        → SubTerm new s x term term'
        → SubComp new s x (c_ret term) (c_ret term')
    u_step : {new : TermTree} {s : Skeleton} {x : ℕ} {step step' : StepTree} {others others' : CompTree}
        → SubStep new s x step step'
        → SubComp (up new) s (suc x) others others'
        → SubComp new s x (c_step step others) (c_step step' others')
    u_spliced : {new : TermTree} {s : Skeleton} {x : ℕ} {term : TermTree} {mono : Option MonoTree}
        {comp others others' result : CompTree}
        → Reduced new s x term (t_do comp) sk_c
        → SubComp (up new) s (suc x) others others'
        → Bind comp others' result
        → SubComp new s x (c_step (s_run term mono) others) result

  -- a computation, and then another that stands under its result
  pub data Bind : CompTree → CompTree → CompTree → Type 0 where
    b_ret : {term : TermTree} {others result : CompTree}
        → SubComp term sk_o zero others result
        → Bind (c_ret term) others result
    b_step : {step : StepTree} {comp others result : CompTree}
        → Bind comp (rename_comp (lift suc) others) result
        → Bind (c_step step comp) others (c_step step result)

  pub data SubStep : TermTree → Skeleton → ℕ → StepTree → StepTree → Type 0 where
    u_run : {new : TermTree} {s : Skeleton} {x : ℕ} {term term' : TermTree} {mono : Option MonoTree}
        → Kept new s x term term'
        → SubStep new s x (s_run term mono) (s_run term' (option_map (rename_mono (closing x)) mono))
    u_s_alloc : {new : TermTree} {s : Skeleton} {x : ℕ} {mono : MonoTree} {value value' : TermTree}
        → SubTerm new s x value value'
        → SubStep new s x (s_alloc mono value) (s_alloc (rename_mono (closing x) mono) value')
    u_s_get : {new : TermTree} {s : Skeleton} {x : ℕ} {mono : MonoTree} {place place' : TermTree}
        → SubTerm new s x place place'
        → SubStep new s x (s_get mono place) (s_get (rename_mono (closing x) mono) place')
    u_s_set : {new : TermTree} {s : Skeleton} {x : ℕ} {mono : MonoTree} {place place' value value' : TermTree}
        → SubTerm new s x place place'
        → SubTerm new s x value value'
        → SubStep new s x (s_set mono place value) (s_set (rename_mono (closing x) mono) place' value')
    u_s_free : {new : TermTree} {s : Skeleton} {x : ℕ} {mono : MonoTree} {place place' : TermTree}
        → SubTerm new s x place place'
        → SubStep new s x (s_free mono place) (s_free (rename_mono (closing x) mono) place')
    u_s_if : {new : TermTree} {s : Skeleton} {x : ℕ} {mono : MonoTree} {test test' : TermTree}
        {on_true on_true' on_false on_false' : CompTree}
        → SubTerm new s x test test'
        → SubComp new s x on_true on_true'
        → SubComp new s x on_false on_false'
        → SubStep new s x (s_if mono test on_true on_false)
        (s_if (rename_mono (closing x) mono) test' on_true' on_false')

  pub data SubTy : TermTree → Skeleton → ℕ → TyTree → TyTree → Type 0 where
    u_y_mono : {new : TermTree} {s : Skeleton} {x : ℕ} {mono : MonoTree}
        → SubTy new s x (y_mono mono) (y_mono (rename_mono (closing x) mono))
    u_y_fun : {new : TermTree} {s : Skeleton} {x : ℕ} {argument argument' answer answer' : TyTree}
        → SubTy new s x argument argument'
        → SubTy (up new) s (suc x) answer answer'
        → SubTy new s x (y_fun argument answer) (y_fun argument' answer')
    u_y_all : {new : TermTree} {s : Skeleton} {x : ℕ} {body body' : TyTree}
        → SubTy (up new) s (suc x) body body'
        → SubTy new s x (y_all body) (y_all body')
    u_y_hoare : {new : TermTree} {s : Skeleton} {x : ℕ} {spec spec' : TripleTree}
        → SubTriple new s x spec spec'
        → SubTy new s x (y_hoare spec) (y_hoare spec')

  pub data SubTriple : TermTree → Skeleton → ℕ → TripleTree → TripleTree → Type 0 where
    u_triple : {new : TermTree} {s : Skeleton} {x : ℕ} {pre pre' post post' : FormulaTree} {mono : MonoTree}
        → SubFormula (up new) s (suc x) pre pre'
        → SubFormula (up (up (up new))) s (suc (suc (suc x))) post post'
        → SubTriple new s x (triple pre mono post) (triple pre' (rename_mono (closing x) mono) post')

  pub data SubFormula : TermTree → Skeleton → ℕ → FormulaTree → FormulaTree → Type 0 where
    u_f_tt : {new : TermTree} {s : Skeleton} {x : ℕ} → SubFormula new s x f_tt f_tt
    u_f_ff : {new : TermTree} {s : Skeleton} {x : ℕ} → SubFormula new s x f_ff f_ff
    u_f_and : {new : TermTree} {s : Skeleton} {x : ℕ} {left left' right right' : FormulaTree}
        → SubFormula new s x left left'
        → SubFormula new s x right right'
        → SubFormula new s x (f_and left right) (f_and left' right')
    u_f_or : {new : TermTree} {s : Skeleton} {x : ℕ} {left left' right right' : FormulaTree}
        → SubFormula new s x left left'
        → SubFormula new s x right right'
        → SubFormula new s x (f_or left right) (f_or left' right')
    u_f_imp : {new : TermTree} {s : Skeleton} {x : ℕ} {left left' right right' : FormulaTree}
        → SubFormula new s x left left'
        → SubFormula new s x right right'
        → SubFormula new s x (f_imp left right) (f_imp left' right')
    u_f_all_t : {new : TermTree} {s : Skeleton} {x : ℕ} {mono : MonoTree} {body body' : FormulaTree}
        → SubFormula (up new) s (suc x) body body'
        → SubFormula new s x (f_all_t mono body) (f_all_t (rename_mono (closing x) mono) body')
    u_f_ex_t : {new : TermTree} {s : Skeleton} {x : ℕ} {mono : MonoTree} {body body' : FormulaTree}
        → SubFormula (up new) s (suc x) body body'
        → SubFormula new s x (f_ex_t mono body) (f_ex_t (rename_mono (closing x) mono) body')
    u_f_all_h : {new : TermTree} {s : Skeleton} {x : ℕ} {body body' : FormulaTree}
        → SubFormula (up new) s (suc x) body body'
        → SubFormula new s x (f_all_h body) (f_all_h body')
    u_f_ex_h : {new : TermTree} {s : Skeleton} {x : ℕ} {body body' : FormulaTree}
        → SubFormula (up new) s (suc x) body body'
        → SubFormula new s x (f_ex_h body) (f_ex_h body')
    u_f_emp : {new : TermTree} {s : Skeleton} {x : ℕ} {heap : ℕ}
        → SubFormula new s x (f_emp heap) (f_emp (closing x heap))
    u_f_cell : {new : TermTree} {s : Skeleton} {x : ℕ} {mono : MonoTree} {heap : ℕ}
        {place place' value value' : TermTree}
        → SubTerm new s x place place'
        → SubTerm new s x value value'
        → SubFormula new s x (f_cell mono heap place value)
        (f_cell (rename_mono (closing x) mono) (closing x heap) place' value')
    u_f_block : {new : TermTree} {s : Skeleton} {x : ℕ} {mono : MonoTree} {heap : ℕ} {place place' : TermTree}
        → SubTerm new s x place place'
        → SubFormula new s x (f_block mono heap place) (f_block (rename_mono (closing x) mono) (closing x heap) place')
    u_f_join : {new : TermTree} {s : Skeleton} {x : ℕ} {whole left right : ℕ}
        → SubFormula new s x (f_join whole left right) (f_join (closing x whole) (closing x left) (closing x right))
    u_f_same : {new : TermTree} {s : Skeleton} {x : ℕ} {left right : ℕ}
        → SubFormula new s x (f_same left right) (f_same (closing x left) (closing x right))
    u_f_eq : {new : TermTree} {s : Skeleton} {x : ℕ} {mono : MonoTree} {left left' right right' : TermTree}
        → SubTerm new s x left left'
        → SubTerm new s x right right'
        → SubFormula new s x (f_eq mono left right) (f_eq (rename_mono (closing x) mono) left' right')
    u_f_rec : {new : TermTree} {s : Skeleton} {x : ℕ} {number heap : ℕ} {place place' : TermTree}
        {arguments arguments' : TermTrees}
        → SubTerm new s x place place'
        → SubTerms new s x arguments arguments'
        → SubFormula new s x (f_rec number heap place arguments) (f_rec number (closing x heap) place' arguments')
