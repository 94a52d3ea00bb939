-- The typing rules, with their premises in the written order. Each rule gives the canonical form of
-- what it types, and what it owes, in the order in which the rules come to it.
--
-- A term gives a type, or fits a type that is expected. A term that is written in a formula has no
-- computation and no recursive function in it. A computation is checked against a triple by the
-- states of `theory_states`: each step goes on from a state, and owes what its move owes there.
--
-- x' is the canonical form of x; o, p and q are what is owed.
use Rattle.std.specs.Prelude.{◌≡◌, ℕ, zero, suc, Bool, true, false, List, [], ◌∷◌, ◌++◌, length, Option, Some, None}
use Rattle.std.specs.Prelude.{slice_get}
use Rattle.htt_syntax.specs.declared.mono.Op.{Op}
use Rattle.htt_syntax.specs.Trees.{MonoTree, TyTree, TripleTree, TermTree, FixTree, CompTree, StepTree, FormulaTree}
use Rattle.htt_syntax.specs.Trees.{TermTrees, m_word, m_bool, m_loc, m_unit, m_pair, y_mono, y_fun, y_all, y_hoare}
use Rattle.htt_syntax.specs.Trees.{y_at, triple, t_var, t_val, t_def, t_app, t_inst, t_lam, t_lam_t, t_do, t_fix}
use Rattle.htt_syntax.specs.Trees.{t_word, t_bool, t_loc, t_unit, t_pair, t_fst, t_snd, t_not, t_bin, t_eq, t_sel}
use Rattle.htt_syntax.specs.Trees.{t_ann, t_at, x_param, x_body, c_ret, c_step, s_run, s_alloc, s_get, s_set, s_free}
use Rattle.htt_syntax.specs.Trees.{s_if, s_claim, f_tt, f_ff, f_and, f_or, f_imp, f_all_t, f_ex_t, f_all_h, f_ex_h}
use Rattle.htt_syntax.specs.Trees.{f_emp, f_cell, f_block, f_join, f_same, f_eq, f_at, f_rec, no_terms, more_terms}
use Rattle.theory_renaming.specs.Renaming.{rename_mono, rename_ty, rename_triple}
use Rattle.theory_values.specs.Values.{IsWord, op_mono}
use Rattle.theory_truth.specs.Predicates.{RecTree}
use Rattle.theory_states.specs.States.{move_alloc, move_get, move_set, move_free, move_run, move_claim, start, owed}
use Rattle.theory_states.specs.States.{after, branch, finish, merge, last}
use Rattle.theory_canonical.specs.Skeletons.{sk_o, skeleton}
use Rattle.theory_canonical.specs.Folding.{folding}
use Rattle.theory_canonical.specs.Eta.{eta}
use Rattle.theory_substitution.specs.Monotypes.{put_mono_term, put_mono_ty}
use Rattle.theory_substitution.specs.Substitution.{SubTerm, SubTy, SubComp, Bind}
use Rattle.theory_typing.specs.Positions.{plain_ty}
use Rattle.theory_typing.specs.Contexts.{en_mono, en_heap, en_term, Context, Environment, IsHeapEntry, HasEntryType}
use Rattle.theory_typing.specs.Contexts.{FormsMono, Obligation, IsComparable, count_of}

-- where a term is written
pub data Mode : Type 0 where
  in_program in_formula : Mode

-- a phrase whose type is inferred where one is expected: all but those that have a checking rule
abbrev pub IsInferred : TermTree → Type 0
IsInferred (t_lam body) = ⊥
IsInferred (t_lam_t body) = ⊥
IsInferred (t_do comp) = ⊥
IsInferred (t_pair left right) = ⊥
IsInferred (t_at at term) = ⊥
IsInferred _ = Unit {0}

-- the context of a state: the heaps init and mem, mem the innermost
abbrev pub with_heaps : Context → Context
with_heaps g = en_heap ∷ en_heap ∷ g

abbrev pub owes : Context → Option FormulaTree → List Obligation
owes g None = []
owes g (Some goal) = record { context = with_heaps g; goal = goal } ∷ []

-- what a body owes at its end, under its result
abbrev pub owes_at_end : Context → FormulaTree → List MonoTree → MonoTree → TermTree → FormulaTree → List Obligation
owes_at_end g end zs mono value post =
    record { context = with_heaps (en_term (y_mono mono) ∷ g); goal = last (finish end zs mono value) post } ∷ []

-- what a step becomes in a canonical computation: a step, the computation that it runs, or nothing,
-- and then its variable is ()
pub data Part : Type 0 where
  part_step : StepTree → Part
  part_comp : CompTree → Part
  part_unit : Part

-- a part and what follows it, as one computation
pub data Joined : Part → CompTree → CompTree → Type 0 where
  joined_step : {step : StepTree} {others : CompTree} → Joined (part_step step) others (c_step step others)
  joined_comp : {comp others result : CompTree} → Bind comp others result → Joined (part_comp comp) others result
  joined_unit : {others result : CompTree} → SubComp t_unit sk_o zero others result → Joined part_unit others result

-- the computation that a body or a branch becomes: its parts and its result, joined from the last part to
-- the first
pub data Assembled : List Part → TermTree → CompTree → Type 0 where
  assembled_end : {last_value : TermTree} → Assembled [] last_value (c_ret last_value)
  assembled_part : {parts : List Part} {last_value : TermTree} {others : CompTree} {part : Part} {result : CompTree}
      → Assembled parts last_value others
      → Joined part others result
      → Assembled (part ∷ parts) last_value result

mutual
  -- a type is formed, with its canonical form
  pub data FormsTy (env : Environment) : Context → TyTree → TyTree → Type 0 where
    forms_mono : {g : Context} {mono : MonoTree} → FormsMono g mono → FormsTy env g (y_mono mono) (y_mono mono)
    forms_fun : {g : Context} {argument argument' answer answer' : TyTree}
        → FormsTy env g argument argument'
        → FormsTy env (en_term argument' ∷ g) answer answer'
        → FormsTy env g (y_fun argument answer) (y_fun argument' answer')
    forms_all : {g : Context} {ty ty' : TyTree}
        → FormsTy env (en_mono ∷ g) ty ty'
        → FormsTy env g (y_all ty) (y_all ty')
    forms_hoare : {g : Context} {spec spec' : TripleTree}
        → FormsTriple env g spec spec'
        → FormsTy env g (y_hoare spec) (y_hoare spec')
    forms_ty_at : {g : Context} {ty ty' : TyTree} {at : ℕ} → FormsTy env g ty ty' → FormsTy env g (y_at at ty) ty'

  -- the precondition under mem; the postcondition under the result, init and mem
  pub data FormsTriple (env : Environment) : Context → TripleTree → TripleTree → Type 0 where
    forms_triple : {g : Context} {pre pre' : FormulaTree} {mono : MonoTree} {post post' : FormulaTree}
        → FormsFormula env (en_heap ∷ g) pre pre'
        → FormsMono g mono
        → FormsFormula env (with_heaps (en_term (y_mono mono) ∷ g)) post post'
        → FormsTriple env g (triple pre mono post) (triple pre' mono post')

  -- a formula is formed, with its canonical form
  pub data FormsFormula (env : Environment) : Context → FormulaTree → FormulaTree → Type 0 where
    forms_tt : {g : Context} → FormsFormula env g f_tt f_tt
    forms_ff : {g : Context} → FormsFormula env g f_ff f_ff
    forms_and : {g : Context} {left left' right right' : FormulaTree}
        → FormsFormula env g left left'
        → FormsFormula env g right right'
        → FormsFormula env g (f_and left right) (f_and left' right')
    forms_or : {g : Context} {left left' right right' : FormulaTree}
        → FormsFormula env g left left'
        → FormsFormula env g right right'
        → FormsFormula env g (f_or left right) (f_or left' right')
    forms_imp : {g : Context} {left left' right right' : FormulaTree}
        → FormsFormula env g left left'
        → FormsFormula env g right right'
        → FormsFormula env g (f_imp left right) (f_imp left' right')
    forms_all_t : {g : Context} {mono : MonoTree} {body body' : FormulaTree}
        → FormsMono g mono
        → FormsFormula env (en_term (y_mono mono) ∷ g) body body'
        → FormsFormula env g (f_all_t mono body) (f_all_t mono body')
    forms_ex_t : {g : Context} {mono : MonoTree} {body body' : FormulaTree}
        → FormsMono g mono
        → FormsFormula env (en_term (y_mono mono) ∷ g) body body'
        → FormsFormula env g (f_ex_t mono body) (f_ex_t mono body')
    forms_all_h : {g : Context} {body body' : FormulaTree}
        → FormsFormula env (en_heap ∷ g) body body'
        → FormsFormula env g (f_all_h body) (f_all_h body')
    forms_ex_h : {g : Context} {body body' : FormulaTree}
        → FormsFormula env (en_heap ∷ g) body body'
        → FormsFormula env g (f_ex_h body) (f_ex_h body')
    forms_emp : {g : Context} {heap : ℕ} → IsHeapEntry g heap → FormsFormula env g (f_emp heap) (f_emp heap)
    forms_cell : {g : Context} {mono : MonoTree} {heap : ℕ} {place place' value value' : TermTree}
        → FormsMono g mono
        → IsHeapEntry g heap
        → Fits env in_formula g place (y_mono m_loc) place' []
        → Fits env in_formula g value (y_mono mono) value' []
        → FormsFormula env g (f_cell mono heap place value) (f_cell mono heap place' value')
    forms_block : {g : Context} {mono : MonoTree} {heap : ℕ} {place place' : TermTree}
        → FormsMono g mono
        → IsHeapEntry g heap
        → Fits env in_formula g place (y_mono m_loc) place' []
        → FormsFormula env g (f_block mono heap place) (f_block mono heap place')
    forms_join : {g : Context} {whole_heap left_heap right_heap : ℕ}
        → IsHeapEntry g whole_heap
        → IsHeapEntry g left_heap
        → IsHeapEntry g right_heap
        → FormsFormula env g (f_join whole_heap left_heap right_heap) (f_join whole_heap left_heap right_heap)
    forms_same : {g : Context} {left_heap right_heap : ℕ}
        → IsHeapEntry g left_heap
        → IsHeapEntry g right_heap
        → FormsFormula env g (f_same left_heap right_heap) (f_same left_heap right_heap)
    forms_eq : {g : Context} {mono : MonoTree} {first first' second second' : TermTree}
        → FormsMono g mono
        → Fits env in_formula g first (y_mono mono) first' []
        → Fits env in_formula g second (y_mono mono) second' []
        → FormsFormula env g (f_eq mono first second) (f_eq mono first' second')
    forms_rec : {number : ℕ} {r : RecTree} {g : Context} {heap : ℕ} {term term' : TermTree} {terms terms' : TermTrees}
        → slice_get env.recs number ≡ Some r
        → IsHeapEntry g heap
        → Fits env in_formula g term (y_mono m_word) term' []
        → count_of terms ≡ length r.params
        → FitsAll env g terms (r.params) terms'
        → FormsFormula env g (f_rec number heap term terms) (f_rec number heap term' terms')
    forms_formula_at : {g : Context} {formula formula' : FormulaTree} {at : ℕ}
        → FormsFormula env g formula formula'
        → FormsFormula env g (f_at at formula) formula'

  -- the arguments of a recursive atom, each of the parameter's monotype
  pub data FitsAll (env : Environment) : Context → TermTrees → List MonoTree → TermTrees → Type 0 where
    fits_none : {g : Context} → FitsAll env g no_terms [] no_terms
    fits_more : {g : Context} {term : TermTree} {mono : MonoTree} {term' : TermTree} {terms : TermTrees}
        {params : List MonoTree} {terms' : TermTrees}
        → Fits env in_formula g term (y_mono mono) term' []
        → FitsAll env g terms params terms'
        → FitsAll env g (more_terms term terms) (mono ∷ params) (more_terms term' terms')

  -- a term gives a type, with its canonical form and what it owes
  pub data Gives (env : Environment) : Mode → Context → TermTree → TyTree → TermTree → List Obligation → Type 0 where
    gives_var : {g : Context} {index : ℕ} {ty : TyTree} {m : Mode}
        → HasEntryType g index ty
        → Gives env m g (t_var index) ty (eta (t_var index) ty) []
    gives_val : {number : ℕ} {ty : TyTree} {m : Mode} {g : Context}
        → slice_get env.vals number ≡ Some ty
        → Gives env m g (t_val number) ty (eta (t_val number) ty) []
    gives_def : {number : ℕ} {definition : TyTree × TermTree} {m : Mode} {g : Context}
        → slice_get env.defs number ≡ Some definition
        → Gives env m g (t_def number) (definition.0) (definition.1) []
    gives_word : {m : Mode} {g : Context} {word : ℕ}
        → IsWord word
        → Gives env m g (t_word word) (y_mono m_word) (t_word word) []
    gives_bool : {m : Mode} {g : Context} {truth : Bool}
        → Gives env m g (t_bool truth) (y_mono m_bool) (t_bool truth) []
    gives_loc : {m : Mode} {g : Context} {place_at : ℕ}
        → IsWord place_at
        → Gives env m g (t_loc place_at) (y_mono m_loc) (t_loc place_at) []
    gives_unit : {m : Mode} {g : Context} → Gives env m g t_unit (y_mono m_unit) t_unit []
    gives_app : {m : Mode} {g : Context} {function : TermTree} {argument answer : TyTree} {inner : TermTree}
        {o : List Obligation} {value value' : TermTree} {p : List Obligation} {answer' : TyTree} {inner' : TermTree}
        → Gives env m g function (y_fun argument answer) (t_lam inner) o
        → Fits env m g value argument value' p
        → SubTy value' (skeleton argument) zero answer answer'
        → SubTerm value' (skeleton argument) zero inner inner'
        → Gives env m g (t_app function value) answer' inner' (o ++ p)
    gives_inst : {m : Mode} {g : Context} {function : TermTree} {ty : TyTree} {inner : TermTree} {o : List Obligation}
        {mono : MonoTree}
        → Gives env m g function (y_all ty) (t_lam_t inner) o
        → FormsMono g mono
        → Gives env m g (t_inst function mono) (put_mono_ty mono zero ty) (put_mono_term mono zero inner) o
    gives_ann : {g : Context} {ty ty' : TyTree} {m : Mode} {term term' : TermTree} {o : List Obligation}
        → FormsTy env g ty ty'
        → Fits env m g term ty' term' o
        → Gives env m g (t_ann term ty) ty' term' o
    gives_pair : {m : Mode} {g : Context} {first : TermTree} {left_mono : MonoTree} {first' : TermTree}
        {o : List Obligation} {second : TermTree} {right_mono : MonoTree} {second' : TermTree} {p : List Obligation}
        → Gives env m g first (y_mono left_mono) first' o
        → Gives env m g second (y_mono right_mono) second' p
        → Gives env m g (t_pair first second) (y_mono (m_pair left_mono right_mono)) (t_pair first' second') (o ++ p)
    gives_fst : {m : Mode} {g : Context} {term : TermTree} {left_mono right_mono : MonoTree} {term' : TermTree}
        {o : List Obligation}
        → Gives env m g term (y_mono (m_pair left_mono right_mono)) term' o
        → Gives env m g (t_fst term) (y_mono left_mono) (folding (t_fst term')) o
    gives_snd : {m : Mode} {g : Context} {term : TermTree} {left_mono right_mono : MonoTree} {term' : TermTree}
        {o : List Obligation}
        → Gives env m g term (y_mono (m_pair left_mono right_mono)) term' o
        → Gives env m g (t_snd term) (y_mono right_mono) (folding (t_snd term')) o
    gives_bin : {m : Mode} {g : Context} {first first' : TermTree} {o : List Obligation} {second second' : TermTree}
        {p : List Obligation} {op : Op}
        → Fits env m g first (y_mono m_word) first' o
        → Fits env m g second (y_mono m_word) second' p
        → Gives env m g (t_bin op first second) (y_mono (op_mono op)) (folding (t_bin op first' second')) (o ++ p)
    gives_not : {m : Mode} {g : Context} {term term' : TermTree} {o : List Obligation}
        → Fits env m g term (y_mono m_bool) term' o
        → Gives env m g (t_not term) (y_mono m_bool) (folding (t_not term')) o
    gives_eq : {g : Context} {mono : MonoTree} {m : Mode} {first first' : TermTree} {o : List Obligation}
        {second second' : TermTree} {p : List Obligation}
        → FormsMono g mono
        → IsComparable mono
        → Fits env m g first (y_mono mono) first' o
        → Fits env m g second (y_mono mono) second' p
        → Gives env m g (t_eq mono first second) (y_mono m_bool) (folding (t_eq mono first' second')) (o ++ p)
    gives_sel : {g : Context} {mono : MonoTree} {m : Mode} {first first' : TermTree} {o : List Obligation}
        {second second' : TermTree} {p : List Obligation} {third third' : TermTree} {q : List Obligation}
        → FormsMono g mono
        → Fits env m g first (y_mono m_bool) first' o
        → Fits env m g second (y_mono mono) second' p
        → Fits env m g third (y_mono mono) third' q
        → Gives env m g (t_sel mono first second third) (y_mono mono) (folding (t_sel mono first' second' third'))
        (o ++ p ++ q)
    gives_fix : {g : Context} {fix : FixTree} {ty : TyTree} {fix' : FixTree} {o : List Obligation} {at : ℕ}
        → FormsHeader env g fix ty
        → FitsFix env g ty fix ty fix' o
        → Gives env in_program g (t_fix at fix) ty (eta (t_fix at fix') ty) o
    gives_at : {m : Mode} {g : Context} {term : TermTree} {ty : TyTree} {term' : TermTree} {o : List Obligation}
        {at : ℕ}
        → Gives env m g term ty term' o
        → Gives env m g (t_at at term) ty term' o

  -- a term fits a canonical type
  pub data Fits (env : Environment) : Mode → Context → TermTree → TyTree → TermTree → List Obligation → Type 0 where
    fits_lam : {m : Mode} {argument : TyTree} {g : Context} {term : TermTree} {answer : TyTree} {term' : TermTree}
        {o : List Obligation}
        → Fits env m (en_term argument ∷ g) term answer term' o
        → Fits env m g (t_lam term) (y_fun argument answer) (t_lam term') o
    fits_lam_t : {m : Mode} {g : Context} {term : TermTree} {ty : TyTree} {term' : TermTree} {o : List Obligation}
        → Fits env m (en_mono ∷ g) term ty term' o
        → Fits env m g (t_lam_t term) (y_all ty) (t_lam_t term') o
    fits_pair : {m : Mode} {g : Context} {first : TermTree} {left_mono : MonoTree} {first' : TermTree}
        {o : List Obligation} {second : TermTree} {right_mono : MonoTree} {second' : TermTree} {p : List Obligation}
        → Fits env m g first (y_mono left_mono) first' o
        → Fits env m g second (y_mono right_mono) second' p
        → Fits env m g (t_pair first second) (y_mono (m_pair left_mono right_mono)) (t_pair first' second') (o ++ p)
    fits_do : {g : Context} {comp : CompTree} {spec : TripleTree} {comp' : CompTree} {o : List Obligation}
        → FitsBody env g comp spec comp' o
        → Fits env in_program g (t_do comp) (y_hoare spec) (t_do comp') o
    fits_given : {term : TermTree} {m : Mode} {g : Context} {ty' : TyTree} {term' : TermTree} {o : List Obligation}
        {ty : TyTree}
        → IsInferred term
        → Gives env m g term ty' term' o
        → plain_ty ty' ≡ plain_ty ty
        → Fits env m g term ty term' o
    fits_at : {m : Mode} {g : Context} {term : TermTree} {ty : TyTree} {term' : TermTree} {o : List Obligation} {at : ℕ}
        → Fits env m g term ty term' o
        → Fits env m g (t_at at term) ty term' o

  -- the type of a recursive function: each parameter is formed under those before it, and the triple
  -- under all
  pub data FormsHeader (env : Environment) : Context → FixTree → TyTree → Type 0 where
    header_param : {g : Context} {argument argument' : TyTree} {rest : FixTree} {answer : TyTree}
        → FormsTy env g argument argument'
        → FormsHeader env (en_term argument' ∷ g) rest answer
        → FormsHeader env g (x_param argument rest) (y_fun argument' answer)
    header_body : {g : Context} {spec spec' : TripleTree} {comp : CompTree}
        → FormsTriple env g spec spec'
        → FormsHeader env g (x_body spec comp) (y_hoare spec')

  -- the body of a recursive function of this whole type, seen from the context, under the parameters
  -- that are left and then the function
  pub data FitsFix (env : Environment) : Context → TyTree → FixTree → TyTree → FixTree → List Obligation → Type 0 where
    fix_param : {argument' : TyTree} {g : Context} {whole : TyTree} {rest : FixTree} {answer : TyTree} {rest' : FixTree}
        {o : List Obligation} {argument : TyTree}
        → FitsFix env (en_term argument' ∷ g) (rename_ty suc whole) rest answer rest' o
        → FitsFix env g whole (x_param argument rest) (y_fun argument' answer) (x_param argument' rest') o
    fix_body : {whole : TyTree} {g : Context} {comp : CompTree} {spec' : TripleTree} {comp' : CompTree}
        {o : List Obligation} {spec : TripleTree}
        → FitsBody env (en_term whole ∷ g) comp (rename_triple suc spec') comp' o
        → FitsFix env g whole (x_body spec comp) (y_hoare spec') (x_body spec' comp') o

  -- a computation is checked against a triple; its last obligation is that its end implies the
  -- postcondition, and after that it is assembled
  pub data FitsBody (env : Environment) : Context → CompTree → TripleTree → CompTree → List Obligation → Type 0 where
    fits_body : {g : Context} {mono : MonoTree} {pre : FormulaTree} {comp : CompTree} {end : FormulaTree}
        {zs : List MonoTree} {last_value : TermTree} {parts : List Part} {o : List Obligation} {comp' : CompTree}
        {post : FormulaTree}
        → Runs env g mono (start pre) comp end zs last_value parts o
        → Assembled parts last_value comp'
        → FitsBody env g comp (triple pre mono post) comp' (o ++ owes_at_end g end zs mono last_value post)

  -- a computation runs from a state, for a result of this monotype, to an end: its state, the
  -- monotypes of its steps' variables, its result, and what its steps become
  pub data Runs (env : Environment) : Context → MonoTree → FormulaTree → CompTree → FormulaTree → List MonoTree
      → TermTree → List Part → List Obligation → Type 0 where
    runs_ret : {g : Context} {term : TermTree} {mono : MonoTree} {term' : TermTree} {o : List Obligation}
        {state : FormulaTree}
        → Fits env in_program g term (y_mono mono) term' o
        → Runs env g mono state (c_ret term) state [] term' [] o
    runs_step : {g : Context} {state : FormulaTree} {step : StepTree} {step_mono : MonoTree} {next : FormulaTree}
        {part : Part} {o : List Obligation} {mono : MonoTree} {others : CompTree} {end : FormulaTree}
        {zs : List MonoTree} {last_value : TermTree} {parts : List Part} {p : List Obligation}
        → Moves env g state step step_mono next part o
        → Runs env (en_term (y_mono step_mono) ∷ g) (rename_mono suc mono) next others end zs last_value parts p
        → Runs env g mono state (c_step step others) end (step_mono ∷ zs) last_value (part ∷ parts) (o ++ p)

  -- a step goes on from a state: the monotype of its variable, the next state, what it becomes, and
  -- what it owes, its terms first
  pub data Moves (env : Environment) : Context → FormulaTree → StepTree → MonoTree → FormulaTree → Part
      → List Obligation → Type 0 where
    moves_alloc : {g : Context} {mono : MonoTree} {value value' : TermTree} {o : List Obligation} {state : FormulaTree}
        → FormsMono g mono
        → Fits env in_program g value (y_mono mono) value' o
        → Moves env g state (s_alloc mono value) m_loc (after (move_alloc mono value') state)
        (part_step (s_alloc mono value')) (o ++ owes g (owed (move_alloc mono value') state))
    moves_get : {g : Context} {mono : MonoTree} {place place' : TermTree} {o : List Obligation} {state : FormulaTree}
        → FormsMono g mono
        → Fits env in_program g place (y_mono m_loc) place' o
        → Moves env g state (s_get mono place) mono (after (move_get mono place') state) (part_step (s_get mono place'))
        (o ++ owes g (owed (move_get mono place') state))
    moves_set : {g : Context} {mono : MonoTree} {place place' : TermTree} {o : List Obligation}
        {value value' : TermTree} {p : List Obligation} {state : FormulaTree}
        → FormsMono g mono
        → Fits env in_program g place (y_mono m_loc) place' o
        → Fits env in_program g value (y_mono mono) value' p
        → Moves env g state (s_set mono place value) m_unit (after (move_set mono place' value') state)
        (part_step (s_set mono place' value')) (o ++ p ++ owes g (owed (move_set mono place' value') state))
    moves_free : {g : Context} {mono : MonoTree} {place place' : TermTree} {o : List Obligation} {state : FormulaTree}
        → FormsMono g mono
        → Fits env in_program g place (y_mono m_loc) place' o
        → Moves env g state (s_free mono place) m_unit (after (move_free mono place') state)
        (part_step (s_free mono place')) (o ++ owes g (owed (move_free mono place') state))
    -- the monotype that a run is written with isn't looked at
    moves_run : {g : Context} {term : TermTree} {pre : FormulaTree} {mono : MonoTree} {post : FormulaTree}
        {comp : CompTree} {o : List Obligation} {state : FormulaTree} {given : Option MonoTree}
        → Gives env in_program g term (y_hoare (triple pre mono post)) (t_do comp) o
        → Moves env g state (s_run term given) mono (after (move_run (triple pre mono post)) state) (part_comp comp)
        (o ++ owes g (owed (move_run (triple pre mono post)) state))
    moves_if : {g : Context} {mono : MonoTree} {test test' : TermTree} {o : List Obligation} {state : FormulaTree}
        {on_true : CompTree} {yes_end : FormulaTree} {zs : List MonoTree} {yes_value : TermTree} {yes_parts : List Part}
        {p : List Obligation} {on_true' on_false : CompTree} {no_end : FormulaTree} {ys : List MonoTree}
        {no_value : TermTree} {no_parts : List Part} {q : List Obligation} {on_false' : CompTree}
        → FormsMono g mono
        → Fits env in_program g test (y_mono m_bool) test' o
        → Runs env g mono (branch state test' true) on_true yes_end zs yes_value yes_parts p
        → Assembled yes_parts yes_value on_true'
        → Runs env g mono (branch state test' false) on_false no_end ys no_value no_parts q
        → Assembled no_parts no_value on_false'
        → Moves env g state (s_if mono test on_true on_false) mono
        (merge (finish yes_end zs mono yes_value) (finish no_end ys mono no_value))
        (part_step (s_if mono test' on_true' on_false')) (o ++ p ++ q)
    moves_claim : {g : Context} {claim claim' state : FormulaTree}
        → FormsFormula env (with_heaps g) claim claim'
        → Moves env g state (s_claim claim) m_unit (after (move_claim claim') state) part_unit
        (owes g (owed (move_claim claim') state))
