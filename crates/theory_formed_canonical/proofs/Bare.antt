-- A formed tree is canonical: by the derivations.
use Rattle.std.proofs.Common.{◌≡◌, ℕ, zero, suc, List, [], ◌∷◌, All, map, Some, slice_get, refl, sym, subst, arith, ◌∙◌}
use Rattle.std.proofs.lemmas.Option.{same_Some}
use Rattle.htt_syntax.specs.Trees.{MonoTree, TyTree, TripleTree, TermTree, FixTree, CompTree, StepTree, FormulaTree, TermTrees, y_mono, y_fun, y_all, y_hoare}
use Rattle.htt_syntax.specs.Trees.{y_at, triple, t_inst}
use Rattle.theory_canonical.specs.Skeletons.{Skeleton, sk_arrow, sk_all, skeleton}
use Rattle.theory_canonical.specs.Contexts.{Standing, as_mono, as_heap, as_term, Stands, here, there, Heads, HasSkeleton, first_head, later_head}
use Rattle.theory_canonical.specs.Canonical.{IsCanonicalMono, n_m_word, n_m_bool, n_m_loc, n_m_unit, n_m_pair, n_m_var, IsCanonical, n_word, n_bool, n_loc}
use Rattle.theory_canonical.specs.Canonical.{n_unit, n_pair, n_fst, n_snd, n_not, n_bin, n_eq, n_sel, n_lam, n_lam_t, n_do, n_neutral, IsNeutral, e_var, e_val}
use Rattle.theory_canonical.specs.Canonical.{e_made, e_fix, e_app, e_inst, IsCanonicalTerms, n_no_terms, n_more_terms, IsCanonicalFix, n_param, n_body}
use Rattle.theory_canonical.specs.Canonical.{IsCanonicalComp, n_ret, n_step, IsCanonicalStep, n_run, n_alloc, n_get, n_set, n_free, n_if, IsCanonicalTy, n_mono}
use Rattle.theory_canonical.specs.Canonical.{n_fun, n_all, n_hoare, IsCanonicalTriple, n_triple, IsCanonicalFormula, n_tt, n_ff, n_and, n_or, n_imp, n_all_t}
use Rattle.theory_canonical.specs.Canonical.{n_ex_t, n_all_h, n_ex_h, n_emp, n_cell, n_block, n_join, n_same, n_equal, n_rec}
use Rattle.theory_typing.specs.Contexts.{IsComparable, compares_word, compares_bool, compares_loc, en_mono, en_heap, en_term, Context, Environment}
use Rattle.theory_typing_canonical.specs.Environments.{standings, heads_of, IsCanonicalEnvironment, IsCanonicalContext, no_entry, mono_entry, heap_entry}
use Rattle.theory_typing_canonical.specs.Environments.{term_entry}
use Rattle.theory_substitution.specs.Monotypes.{Filling, next_filling}
use Rattle.theory_formed_shapes.specs.Shapes.{Shape, sh_mono, sh_fun, sh_all, sh_comp, fill_shape, renaming_of, up_shape, dropping, first_filled, shape_of}
use Rattle.theory_formed_shapes.specs.Shapes.{in_term, Shapes, IsMonoAt, mono_at_zero, mono_further, IsHeapAt, heap_at_zero, heap_further, HasShape, shape_here}
use Rattle.theory_formed_shapes.specs.Shapes.{shape_there, shapes_of}
use Rattle.theory_formed_shapes.specs.Formed.{FileShapes, file_shapes, IsFormedMono, z_m_word, z_m_bool, z_m_loc, z_m_unit, z_m_pair, z_m_var, IsFormedTerm}
use Rattle.theory_formed_shapes.specs.Formed.{z_word, z_bool, z_loc, z_unit, z_pair, z_fst, z_snd, z_not, z_bin, z_eq, z_sel, z_lam, z_lam_t, z_do, z_neutral}
use Rattle.theory_formed_shapes.specs.Formed.{IsFormedNeutral, w_var, w_val, w_made, w_fix, w_app, w_inst, IsFormedTerms, z_no_terms, z_more_terms, IsFormedFix}
use Rattle.theory_formed_shapes.specs.Formed.{z_param, z_body, IsFormedComp, z_ret, z_step, IsFormedStep, z_run, z_alloc, z_get, z_set, z_free, z_if}
use Rattle.theory_formed_shapes.specs.Formed.{IsFormedTy, z_mono, z_fun, z_all, z_hoare, IsFormedTriple, z_triple, IsFormedFormula, z_tt, z_ff, z_and, z_or}
use Rattle.theory_formed_shapes.specs.Formed.{z_imp, z_all_t, z_ex_t, z_all_h, z_ex_h, z_emp, z_cell, z_block, z_join, z_same, z_equal, z_rec}
use Rattle.theory_formed_shapes.specs.Environments.{IsFormedContext, formed_none, formed_mono, formed_heap, formed_term, FormsEnvironment}
use Rattle.theory_formed_canonical.specs.Laws.{bare, bare_context, bare_made, bare_heads, FormedIsCanonical}

bare_filled : (f : Filling) (s : Shape) → bare (fill_shape f s) ≡ bare s
unfolding bare fill_shape
bare_filled f (sh_mono mono) = refl
bare_filled f (sh_fun argument answer) = λ j. sk_arrow (bare_filled f argument j) (bare_filled f answer j)
bare_filled f (sh_all body) = λ j. sk_all (bare_filled (next_filling f) body j)
bare_filled f (sh_comp mono) = refl

bare_up : (s : Shape) → bare (up_shape s) ≡ bare s
bare_up s = bare_filled (renaming_of suc) s

pub bare_shape : (ty : TyTree) → bare (shape_of ty) ≡ skeleton ty
unfolding bare shape_of skeleton
bare_shape (y_mono mono) = refl
bare_shape (y_fun argument answer) = λ j. sk_arrow (bare_shape argument j) ((bare_filled dropping (shape_of answer) ∙ bare_shape answer) j)
bare_shape (y_all body) = λ j. sk_all (bare_shape body j)
bare_shape (y_hoare (triple pre mono post)) = refl
bare_shape (y_at at ty) = bare_shape ty

mono_stands : {g : Shapes} {n : ℕ} → IsMonoAt g n → Stands (bare_context g) n as_mono
mono_stands mono_at_zero = here
mono_stands (mono_further d) = there (mono_stands d)

heap_stands : {g : Shapes} {n : ℕ} → IsHeapAt g n → Stands (bare_context g) n as_heap
heap_stands heap_at_zero = here
heap_stands (heap_further d) = there (heap_stands d)

term_stands : {g : Shapes} {n : ℕ} {s : Shape} → HasShape g n s → Stands (bare_context g) n (as_term (bare s))
term_stands (shape_here {g = g} {shape = s}) = subst (λ (t : Skeleton). Stands (bare_context (in_term s ∷ g)) zero (as_term t)) (sym (bare_up s)) here
term_stands (shape_there {g = g} {entry = entry} {n = n} {shape = s} d) =
    subst (λ (t : Skeleton). Stands (bare_context (entry ∷ g)) (suc n) (as_term t)) (sym (bare_up s)) (there (term_stands d))

head_stands : {A : Type 0} (f : A → Skeleton) (vals : List A) (number : ℕ) (s : A) → slice_get vals number ≡ Some s → HasSkeleton (map f vals) number (f s)
head_stands f [] number s e = grind arith
head_stands f (first ∷ vals) zero s e = subst (λ t. HasSkeleton (map f (first ∷ vals)) zero (f t)) (same_Some first s e) first_head
head_stands f (first ∷ vals) (suc number) s e = later_head (head_stands f vals number s e)

compared_canonical : {g : List Standing} {t : MonoTree} → IsComparable t → IsCanonicalMono g t
compared_canonical compares_word = n_m_word
compared_canonical compares_bool = n_m_bool
compared_canonical compares_loc = n_m_loc

pub mono_bare : {g : Shapes} {t : MonoTree} → IsFormedMono g t → IsCanonicalMono (bare_context g) t
mono_bare z_m_word = n_m_word
mono_bare z_m_bool = n_m_bool
mono_bare z_m_loc = n_m_loc
mono_bare z_m_unit = n_m_unit
mono_bare (z_m_pair d e) = n_m_pair (mono_bare d) (mono_bare e)
mono_bare (z_m_var d) = n_m_var (mono_stands d)

module _ {file : FileShapes} where
  mutual
    unfolding bare

    pub term_bare : {g : Shapes} {term : TermTree} {s : Shape} → IsFormedTerm file g term s → IsCanonical (bare_heads file) (bare_context g) term (bare s)
    term_bare (z_word l) = n_word
    term_bare z_bool = n_bool
    term_bare (z_loc l) = n_loc
    term_bare z_unit = n_unit
    term_bare (z_pair d e) = n_pair (term_bare d) (term_bare e)
    term_bare (z_fst d e) = n_fst (term_bare d) e
    term_bare (z_snd d e) = n_snd (term_bare d) e
    term_bare (z_not d e) = n_not (term_bare d) e
    term_bare (z_bin d e f) = n_bin (term_bare d) (term_bare e) f
    term_bare (z_eq i d e f) = n_eq (compared_canonical i) (term_bare d) (term_bare e) f
    term_bare (z_sel m d e f c) = n_sel (mono_bare m) (term_bare d) (term_bare e) (term_bare f) c
    term_bare (z_lam {g = g} {body = body} {s = s} {t = t} d) =
        n_lam (subst (IsCanonical (bare_heads file) (as_term (bare s) ∷ bare_context g) body) (bare_up t) (term_bare d))
    term_bare (z_lam_t d) = n_lam_t (term_bare d)
    term_bare (z_do d) = n_do (comp_bare d)
    term_bare (z_neutral d) = n_neutral (neutral_bare d)

    neutral_bare : {g : Shapes} {term : TermTree} {s : Shape} → IsFormedNeutral file g term s → IsNeutral (bare_heads file) (bare_context g) term (bare s)
    neutral_bare (w_var d) = e_var (term_stands d)
    neutral_bare (w_val {number = number} {s = s} e) = e_val (head_stands bare file.vals number s e)
    neutral_bare (w_made {number = number} {m = m} e d) = e_made (head_stands bare_made file.made number m e) (terms_bare d)
    neutral_bare (w_fix d) = e_fix (fix_bare d)
    neutral_bare (w_app d e) = e_app (neutral_bare d) (term_bare e)
    neutral_bare (w_inst {g = g} {function = function} {t = t} {s = s} d m) =
        subst (IsNeutral (bare_heads file) (bare_context g) (t_inst function t)) (sym (bare_filled (first_filled t) s))
        (e_inst (neutral_bare d) (mono_bare m))

    terms_bare : {g : Shapes} {terms : TermTrees} {ts : List MonoTree}
        → IsFormedTerms file g terms ts
        → IsCanonicalTerms (bare_heads file) (bare_context g) terms
    terms_bare z_no_terms = n_no_terms
    terms_bare (z_more_terms d e) = n_more_terms (term_bare d) (terms_bare e)

    fix_bare : {g : Shapes} {whole s : Shape} {fix : FixTree}
        → IsFormedFix file g whole fix s
        → IsCanonicalFix (bare_heads file) (bare_context g) (bare whole) fix (bare s)
    fix_bare (z_param {g = g} {whole = whole} {t = t} {ty = ty} {others = others} d e) =
        n_param (ty_bare d) (sym (bare_shape ty))
        (subst (λ (w : Skeleton). IsCanonicalFix (bare_heads file) (as_term (bare (shape_of ty)) ∷ bare_context g) w others (bare t))
        (bare_up whole) (subst
        (IsCanonicalFix (bare_heads file) (as_term (bare (shape_of ty)) ∷ bare_context g) (bare (up_shape whole)) others) (bare_up t)
        (fix_bare e)))
    fix_bare (z_body d e) = n_body (triple_bare d) (comp_bare e)

    pub comp_bare : {g : Shapes} {comp : CompTree} {t : MonoTree} → IsFormedComp file g comp t → IsCanonicalComp (bare_heads file) (bare_context g) comp
    comp_bare (z_ret d) = n_ret (term_bare d)
    comp_bare (z_step d e) = n_step (step_bare d) (comp_bare e)

    step_bare : {g : Shapes} {step : StepTree} {t : MonoTree} → IsFormedStep file g step t → IsCanonicalStep (bare_heads file) (bare_context g) step
    step_bare (z_run d m) = n_run (neutral_bare d) (mono_bare m)
    step_bare (z_alloc m d) = n_alloc (mono_bare m) (term_bare d)
    step_bare (z_get m d) = n_get (mono_bare m) (term_bare d)
    step_bare (z_set m d e) = n_set (mono_bare m) (term_bare d) (term_bare e)
    step_bare (z_free m d) = n_free (mono_bare m) (term_bare d)
    step_bare (z_if m d e f) = n_if (mono_bare m) (term_bare d) (comp_bare e) (comp_bare f)

    pub ty_bare : {g : Shapes} {ty : TyTree} → IsFormedTy file g ty → IsCanonicalTy (bare_heads file) (bare_context g) ty
    ty_bare (z_mono m) = n_mono (mono_bare m)
    ty_bare (z_fun {argument = argument} d e) = n_fun (ty_bare d) (sym (bare_shape argument)) (ty_bare e)
    ty_bare (z_all d) = n_all (ty_bare d)
    ty_bare (z_hoare d) = n_hoare (triple_bare d)

    triple_bare : {g : Shapes} {spec : TripleTree} → IsFormedTriple file g spec → IsCanonicalTriple (bare_heads file) (bare_context g) spec
    triple_bare (z_triple d m e) = n_triple (formula_bare d) (mono_bare m) (formula_bare e)

    pub formula_bare : {g : Shapes} {formula : FormulaTree} → IsFormedFormula file g formula → IsCanonicalFormula (bare_heads file) (bare_context g) formula
    formula_bare z_tt = n_tt
    formula_bare z_ff = n_ff
    formula_bare (z_and d e) = n_and (formula_bare d) (formula_bare e)
    formula_bare (z_or d e) = n_or (formula_bare d) (formula_bare e)
    formula_bare (z_imp d e) = n_imp (formula_bare d) (formula_bare e)
    formula_bare (z_all_t m d) = n_all_t (mono_bare m) (formula_bare d)
    formula_bare (z_ex_t m d) = n_ex_t (mono_bare m) (formula_bare d)
    formula_bare (z_all_h d) = n_all_h (formula_bare d)
    formula_bare (z_ex_h d) = n_ex_h (formula_bare d)
    formula_bare (z_emp h) = n_emp (heap_stands h)
    formula_bare (z_cell m h d e) = n_cell (mono_bare m) (heap_stands h) (term_bare d) (term_bare e)
    formula_bare (z_block m h d) = n_block (mono_bare m) (heap_stands h) (term_bare d)
    formula_bare (z_join h i k) = n_join (heap_stands h) (heap_stands i) (heap_stands k)
    formula_bare (z_same h i) = n_same (heap_stands h) (heap_stands i)
    formula_bare (z_equal m d e) = n_equal (mono_bare m) (term_bare d) (term_bare e)
    formula_bare (z_rec e h d f) = n_rec (heap_stands h) (term_bare d) (terms_bare f)

-- contexts and files
pub context_bare : (g : Context) → bare_context (shapes_of g) ≡ standings g
context_bare [] = refl
context_bare (en_mono ∷ g) = λ j. as_mono ∷ context_bare g j
context_bare (en_heap ∷ g) = λ j. as_heap ∷ context_bare g j
context_bare (en_term ty ∷ g) = λ j. as_term (bare_shape ty j) ∷ context_bare g j

vals_bare : (vals : List TyTree) → map bare (map shape_of vals) ≡ map skeleton vals
vals_bare [] = refl
vals_bare (ty ∷ vals) = λ j. bare_shape ty j ∷ vals_bare vals j

pub file_bare : (env : Environment) → bare_heads (file_shapes env) ≡ heads_of env
file_bare env = λ j. record { vals = vals_bare env.vals j; made = [] }

-- what stands in an environment's own contexts
pub type_bare : (env : Environment) (g : Context) (ty : TyTree) → IsFormedTy (file_shapes env) (shapes_of g) ty → IsCanonicalTy (heads_of env) (standings g) ty
type_bare env g ty d =
    subst (λ (h : Heads). IsCanonicalTy h (standings g) ty) (file_bare env)
    (subst (λ (l : List Standing). IsCanonicalTy (bare_heads (file_shapes env)) l ty) (context_bare g) (ty_bare d))

closed_bare : (env : Environment) (ty : TyTree) (M : TermTree)
    → IsFormedTerm (file_shapes env) [] M (shape_of ty)
    → IsCanonical (heads_of env) [] M (skeleton ty)
closed_bare env ty M d =
    subst (λ (h : Heads). IsCanonical h [] M (skeleton ty)) (file_bare env)
    (subst (IsCanonical (bare_heads (file_shapes env)) [] M) (bare_shape ty) (term_bare d))

monos_bare : (ts : List MonoTree) → All (IsFormedMono []) ts → All (IsCanonicalMono []) ts
monos_bare ts d = λ k t l. mono_bare (d k t l)

pub environment_bare : (env : Environment) → FormsEnvironment env → IsCanonicalEnvironment env
environment_bare env known = record {
  val_types = λ n ty q. type_bare env [] ty (known.vals n ty q);
  def_types = λ n u q. type_bare env [] (u.0) (known.def_types n u q);
  def_terms = λ n u q. closed_bare env (u.0) (u.1) (known.def_terms n u q);
  rec_params = λ n r q. monos_bare r.params (known.rec_params n r q);
}

pub entries_bare : (env : Environment) (g : Context) → IsFormedContext (file_shapes env) g → IsCanonicalContext (heads_of env) g
entries_bare env [] formed_none = no_entry
entries_bare env (en_mono ∷ g) (formed_mono k) = mono_entry (entries_bare env g k)
entries_bare env (en_heap ∷ g) (formed_heap k) = heap_entry (entries_bare env g k)
entries_bare env (en_term ty ∷ g) (formed_term k d) = term_entry (entries_bare env g k) (type_bare env g ty d)

pub formed_is_canonical : FormedIsCanonical
formed_is_canonical = record {
  skeletons = bare_shape;
  contexts = context_bare;
  files = file_bare;
  terms = λ file g term s d. term_bare d;
  computations = λ file g comp t d. comp_bare d;
  types = λ file g ty d. ty_bare d;
  formulas = λ file g formula d. formula_bare d;
  environments = environment_bare;
  entries = entries_bare;
}
