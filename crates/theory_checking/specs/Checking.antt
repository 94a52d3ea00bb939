-- What a phrase comes to when it is checked: what it gives, or the first premise or limit that stops it.
-- One row a rule, with its premises and limits in the written order, each with the word and the byte of
-- its refusal. `at` is the byte of the nearest position round the phrase.
--
-- A term is asked what it gives (`None`), or is to fit a canonical type (`Some`). A literal that is no word
-- has no row: no tree of the program has one.
use Rattle.std.specs.Prelude.{◌≡◌, ℕ, zero, suc, true, false, List, [], ◌∷◌, ◌++◌, length, Result, Option, Some, None}
use Rattle.std.specs.Prelude.{slice_get}
use Rattle.htt_syntax_words.specs.declared.words.Rule.TheVariants.{Function, Instance, Pair, Project, Eq, Synth, Fun}
use Rattle.htt_syntax_words.specs.declared.words.Rule.TheVariants.{Do, Pure, Sort, Run}
use Rattle.htt_syntax.specs.Trees.{MonoTree, TyTree, TripleTree, TermTree, FixTree, CompTree, StepTree, FormulaTree}
use Rattle.htt_syntax.specs.Trees.{TermTrees, m_word, m_bool, m_loc, m_unit, m_pair, y_mono, y_fun, y_all, y_hoare}
use Rattle.htt_syntax.specs.Trees.{y_at, triple, t_var, t_val, t_def, t_app, t_inst, t_lam, t_lam_t, t_do, t_fix}
use Rattle.htt_syntax.specs.Trees.{t_word, t_bool, t_loc, t_unit, t_pair, t_fst, t_snd, t_not, t_bin, t_eq, t_sel}
use Rattle.htt_syntax.specs.Trees.{t_ann, t_made, t_at, x_param, x_body, c_ret, c_step, s_run, s_alloc, s_get, s_set}
use Rattle.htt_syntax.specs.Trees.{s_free, s_if, s_claim, f_tt, f_ff, f_and, f_or, f_imp, f_all_t, f_ex_t, f_all_h}
use Rattle.htt_syntax.specs.Trees.{f_ex_h, f_emp, f_cell, f_block, f_join, f_same, f_eq, f_at, f_rec, no_terms}
use Rattle.htt_syntax.specs.Trees.{more_terms}
use Rattle.theory_renaming.specs.Renaming.{rename_mono, rename_ty, rename_triple}
use Rattle.theory_values.specs.Values.{IsWord, op_mono}
use Rattle.theory_truth.specs.Predicates.{RecTree}
use Rattle.theory_canonical.specs.Skeletons.{skeleton}
use Rattle.theory_canonical.specs.Folding.{folding}
use Rattle.theory_canonical.specs.Eta.{eta}
use Rattle.theory_substitution.specs.Monotypes.{put_mono_ty, put_mono_term}
use Rattle.theory_states.specs.States.{move_alloc, move_get, move_set, move_free, move_run, move_claim, branch, merge}
use Rattle.theory_typing.specs.Contexts.{en_mono, en_heap, en_term, Context, Environment, IsHeapEntry, HasEntryType}
use Rattle.theory_typing.specs.Contexts.{IsComparable, count_of}
use Rattle.theory_typing.specs.Typing.{Mode, in_program, in_formula, with_heaps, part_step, part_comp, part_unit}
use Rattle.theory_checking.specs.Stops.{Stop, refused, ◌>>=◌, ◌>>◌, Comes, Refuses, Needs, Finds, Makes}
use Rattle.theory_checking.specs.Limits.{HasRoom, IsNarrow, MonoComesTo, StateIsWithin, TyIsWithin, TermIsWithin}
use Rattle.theory_checking.specs.Limits.{PutsInTy, PutsInTerm}
use Rattle.theory_checking.specs.Results.{Typed, typed, Fixed, fixed, Ran, ran, Moved, moved, byte_of_term}
use Rattle.theory_checking.specs.Results.{Inferred, GoesOn, BodyComesTo, BranchComesTo}

-- a heap of the context, which is nothing else
abbrev pub HeapComesTo : Context → ℕ → ℕ → Result (Unit {0}) Stop → Type 0
HeapComesTo g at heap = Needs (IsHeapEntry g heap) (refused Sort at)

-- the monotype of a computation's result
abbrev pub result_of : TripleTree → MonoTree
result_of (triple pre mono post) = mono

unfoldable mutual
  -- a type is formed, with its canonical form
  pub TyComesTo : Environment → Context → ℕ → TyTree → Result TyTree Stop → Type 0
  TyComesTo env g at (y_mono mono) = do
    MonoComesTo g at mono
    Comes (y_mono mono)
  TyComesTo env g at (y_fun argument answer) = do
    argument' ← TyComesTo env g at argument
    HasRoom g 1
    answer' ← TyComesTo env (en_term argument' ∷ g) at answer
    Comes (y_fun argument' answer')
  TyComesTo env g at (y_all ty) = do
    HasRoom g 1
    ty' ← TyComesTo env (en_mono ∷ g) at ty
    Comes (y_all ty')
  TyComesTo env g at (y_hoare spec) = do
    spec' ← TripleComesTo env g at spec
    Comes (y_hoare spec')
  TyComesTo env g at (y_at inner ty) = TyComesTo env g inner ty

  -- the precondition under mem, the monotype, the postcondition under the result, init and mem
  pub TripleComesTo : Environment → Context → ℕ → TripleTree → Result TripleTree Stop → Type 0
  TripleComesTo env g at (triple pre mono post) = do
    HasRoom g 1
    pre' ← FormulaComesTo env (en_heap ∷ g) at pre
    MonoComesTo g at mono
    HasRoom g 3
    post' ← FormulaComesTo env (with_heaps (en_term (y_mono mono) ∷ g)) at post
    Comes (triple pre' mono post')

  -- a formula is formed, with its canonical form
  pub FormulaComesTo : Environment → Context → ℕ → FormulaTree → Result FormulaTree Stop → Type 0
  FormulaComesTo env g at f_tt = Comes f_tt
  FormulaComesTo env g at f_ff = Comes f_ff
  FormulaComesTo env g at (f_and left right) = do
    left' ← FormulaComesTo env g at left
    right' ← FormulaComesTo env g at right
    Comes (f_and left' right')
  FormulaComesTo env g at (f_or left right) = do
    left' ← FormulaComesTo env g at left
    right' ← FormulaComesTo env g at right
    Comes (f_or left' right')
  FormulaComesTo env g at (f_imp left right) = do
    left' ← FormulaComesTo env g at left
    right' ← FormulaComesTo env g at right
    Comes (f_imp left' right')
  FormulaComesTo env g at (f_all_t mono body) = do
    MonoComesTo g at mono
    HasRoom g 1
    body' ← FormulaComesTo env (en_term (y_mono mono) ∷ g) at body
    Comes (f_all_t mono body')
  FormulaComesTo env g at (f_ex_t mono body) = do
    MonoComesTo g at mono
    HasRoom g 1
    body' ← FormulaComesTo env (en_term (y_mono mono) ∷ g) at body
    Comes (f_ex_t mono body')
  FormulaComesTo env g at (f_all_h body) = do
    HasRoom g 1
    body' ← FormulaComesTo env (en_heap ∷ g) at body
    Comes (f_all_h body')
  FormulaComesTo env g at (f_ex_h body) = do
    HasRoom g 1
    body' ← FormulaComesTo env (en_heap ∷ g) at body
    Comes (f_ex_h body')
  FormulaComesTo env g at (f_emp heap) = do
    HeapComesTo g at heap
    Comes (f_emp heap)
  FormulaComesTo env g at (f_cell mono heap place value) = do
    MonoComesTo g at mono
    HeapComesTo g at heap
    place' ← TermComesTo env in_formula g at place (Some (y_mono m_loc))
    value' ← TermComesTo env in_formula g at value (Some (y_mono mono))
    Comes (f_cell mono heap place'.term value'.term)
  FormulaComesTo env g at (f_block mono heap place) = do
    MonoComesTo g at mono
    HeapComesTo g at heap
    place' ← TermComesTo env in_formula g at place (Some (y_mono m_loc))
    Comes (f_block mono heap place'.term)
  FormulaComesTo env g at (f_join whole_heap left_heap right_heap) = do
    HeapComesTo g at whole_heap
    HeapComesTo g at left_heap
    HeapComesTo g at right_heap
    Comes (f_join whole_heap left_heap right_heap)
  FormulaComesTo env g at (f_same left_heap right_heap) = do
    HeapComesTo g at left_heap
    HeapComesTo g at right_heap
    Comes (f_same left_heap right_heap)
  FormulaComesTo env g at (f_eq mono first second) = do
    MonoComesTo g at mono
    first' ← TermComesTo env in_formula g at first (Some (y_mono mono))
    second' ← TermComesTo env in_formula g at second (Some (y_mono mono))
    Comes (f_eq mono first'.term second'.term)
  FormulaComesTo env g at (f_rec number heap term terms) = do
    r ← Finds (λ (r : RecTree). slice_get env.recs number ≡ Some r) (refused Sort at)
    HeapComesTo g at heap
    term' ← TermComesTo env in_formula g at term (Some (y_mono m_word))
    Needs (count_of terms ≡ length r.params) (refused Sort at)
    terms' ← TermsComeTo env g at terms r.params
    Comes (f_rec number heap term'.term terms')
  FormulaComesTo env g at (f_at inner formula) = FormulaComesTo env g inner formula

  -- the arguments of a recursive atom, of which there are as many as parameters
  pub TermsComeTo : Environment → Context → ℕ → TermTrees → List MonoTree → Result TermTrees Stop → Type 0
  TermsComeTo env g at no_terms [] = Comes no_terms
  TermsComeTo env g at no_terms (mono ∷ params) = Refuses (refused Sort at)
  TermsComeTo env g at (more_terms term terms) [] = Refuses (refused Sort at)
  TermsComeTo env g at (more_terms term terms) (mono ∷ params) = do
    term' ← TermComesTo env in_formula g at term (Some (y_mono mono))
    terms' ← TermsComeTo env g at terms params
    Comes (more_terms term'.term terms')

  -- a term gives a type, or fits the one that is expected
  pub TermComesTo : Environment → Mode → Context → ℕ → TermTree → Option TyTree → Result Typed Stop → Type 0
  TermComesTo env m g at (t_var index) asked = Inferred at asked (do
    ty ← Finds (λ (ty : TyTree). HasEntryType g index ty) (refused Sort at)
    Comes (typed ty (eta (t_var index) ty) []))
  TermComesTo env m g at (t_val number) asked = Inferred at asked (do
    ty ← Finds (λ (ty : TyTree). slice_get env.vals number ≡ Some ty) (refused Sort at)
    Comes (typed ty (eta (t_val number) ty) []))
  TermComesTo env m g at (t_def number) asked = Inferred at asked (do
    (ty, term) ← Finds (λ (d : TyTree × TermTree). slice_get env.defs number ≡ Some d) (refused Sort at)
    Comes (typed ty term []))
  TermComesTo env m g at (t_word word) asked = Inferred at asked (do
    Makes (λ (known : Unit {0}). IsWord word)
    Comes (typed (y_mono m_word) (t_word word) []))
  TermComesTo env m g at (t_bool truth) asked = Inferred at asked (Comes (typed (y_mono m_bool) (t_bool truth) []))
  TermComesTo env m g at (t_loc place) asked = Inferred at asked (do
    Makes (λ (known : Unit {0}). IsWord place)
    Comes (typed (y_mono m_loc) (t_loc place) []))
  TermComesTo env m g at t_unit asked = Inferred at asked (Comes (typed (y_mono m_unit) t_unit []))
  TermComesTo env m g at (t_app function value) asked = Inferred at asked (do
    k ← TermComesTo env m g at function None
    (argument, answer) ← Finds (λ (f : TyTree × TyTree). k.ty ≡ y_fun (f.0) (f.1)) (refused Function at)
    v ← TermComesTo env m g at value (Some argument)
    answer' ← PutsInTy v.term (skeleton argument) answer
    inner ← Makes (λ (inner : TermTree). k.term ≡ t_lam inner)
    inner' ← PutsInTerm v.term (skeleton argument) inner
    Comes (typed answer' inner' (k.owed ++ v.owed)))
  TermComesTo env m g at (t_inst function mono) asked = Inferred at asked (do
    k ← TermComesTo env m g at function None
    ty ← Finds (λ (ty : TyTree). k.ty ≡ y_all ty) (refused Instance at)
    MonoComesTo g at mono
    TyIsWithin (put_mono_ty mono zero ty)
    inner ← Makes (λ (inner : TermTree). k.term ≡ t_lam_t inner)
    TermIsWithin (put_mono_term mono zero inner)
    Comes (typed (put_mono_ty mono zero ty) (put_mono_term mono zero inner) k.owed))
  TermComesTo env m g at (t_ann term ty) asked = Inferred at asked (do
    ty' ← TyComesTo env g at ty
    v ← TermComesTo env m g at term (Some ty')
    Comes (typed ty' v.term v.owed))
  TermComesTo env m g at (t_pair first second) None = do
    k ← TermComesTo env m g at first None
    left ← Finds (λ (t : MonoTree). k.ty ≡ y_mono t) (refused Pair at)
    l ← TermComesTo env m g at second None
    right ← Finds (λ (t : MonoTree). l.ty ≡ y_mono t) (refused Pair at)
    IsNarrow (m_pair left right)
    Comes (typed (y_mono (m_pair left right)) (t_pair k.term l.term) (k.owed ++ l.owed))
  TermComesTo env m g at (t_pair first second) (Some (y_mono (m_pair left right))) = do
    k ← TermComesTo env m g at first (Some (y_mono left))
    l ← TermComesTo env m g at second (Some (y_mono right))
    Comes (typed (y_mono (m_pair left right)) (t_pair k.term l.term) (k.owed ++ l.owed))
  TermComesTo env m g at (t_pair first second) (Some _) = Refuses (refused Pair at)
  TermComesTo env m g at (t_fst term) asked = Inferred at asked (do
    k ← TermComesTo env m g at term None
    (left, right) ← Finds (λ (t : MonoTree × MonoTree). k.ty ≡ y_mono (m_pair (t.0) (t.1))) (refused Project at)
    Comes (typed (y_mono left) (folding (t_fst k.term)) k.owed))
  TermComesTo env m g at (t_snd term) asked = Inferred at asked (do
    k ← TermComesTo env m g at term None
    (left, right) ← Finds (λ (t : MonoTree × MonoTree). k.ty ≡ y_mono (m_pair (t.0) (t.1))) (refused Project at)
    Comes (typed (y_mono right) (folding (t_snd k.term)) k.owed))
  TermComesTo env m g at (t_bin op first second) asked = Inferred at asked (do
    k ← TermComesTo env m g at first (Some (y_mono m_word))
    l ← TermComesTo env m g at second (Some (y_mono m_word))
    Comes (typed (y_mono (op_mono op)) (folding (t_bin op k.term l.term)) (k.owed ++ l.owed)))
  TermComesTo env m g at (t_not term) asked = Inferred at asked (do
    k ← TermComesTo env m g at term (Some (y_mono m_bool))
    Comes (typed (y_mono m_bool) (folding (t_not k.term)) k.owed))
  TermComesTo env m g at (t_eq mono first second) asked = Inferred at asked (do
    MonoComesTo g at mono
    Needs (IsComparable mono) (refused Eq at)
    k ← TermComesTo env m g at first (Some (y_mono mono))
    l ← TermComesTo env m g at second (Some (y_mono mono))
    Comes (typed (y_mono m_bool) (folding (t_eq mono k.term l.term)) (k.owed ++ l.owed)))
  TermComesTo env m g at (t_sel mono first second third) asked = Inferred at asked (do
    MonoComesTo g at mono
    k ← TermComesTo env m g at first (Some (y_mono m_bool))
    l ← TermComesTo env m g at second (Some (y_mono mono))
    n ← TermComesTo env m g at third (Some (y_mono mono))
    Comes (typed (y_mono mono) (folding (t_sel mono k.term l.term n.term)) (k.owed ++ l.owed ++ n.owed)))
  TermComesTo env in_formula g at (t_fix keyword fix) asked = Refuses (refused Pure at)
  TermComesTo env in_program g at (t_fix keyword fix) asked = Inferred at asked (do
    ty ← HeaderComesTo env g at fix
    x ← FixComesTo env g at ty fix ty
    Comes (typed ty (eta (t_fix keyword x.fix) ty) x.owed))
  TermComesTo env m g at (t_lam term) None = Refuses (refused Synth at)
  TermComesTo env m g at (t_lam term) (Some (y_fun argument answer)) = do
    HasRoom g 1
    k ← TermComesTo env m (en_term argument ∷ g) at term (Some answer)
    Comes (typed (y_fun argument answer) (t_lam k.term) k.owed)
  TermComesTo env m g at (t_lam term) (Some _) = Refuses (refused Fun at)
  TermComesTo env m g at (t_lam_t term) None = Refuses (refused Synth at)
  TermComesTo env m g at (t_lam_t term) (Some (y_all ty)) = do
    HasRoom g 1
    k ← TermComesTo env m (en_mono ∷ g) at term (Some ty)
    Comes (typed (y_all ty) (t_lam_t k.term) k.owed)
  TermComesTo env m g at (t_lam_t term) (Some _) = Refuses (refused Fun at)
  TermComesTo env in_formula g at (t_do comp) asked = Refuses (refused Pure at)
  TermComesTo env in_program g at (t_do comp) None = Refuses (refused Synth at)
  TermComesTo env in_program g at (t_do comp) (Some (y_hoare spec)) = do
    c ← BodyComesTo g spec (λ mono state. RunsTo env g at mono state comp)
    Comes (typed (y_hoare spec) (t_do c.comp) c.owed)
  TermComesTo env in_program g at (t_do comp) (Some _) = Refuses (refused Do at)
  TermComesTo env m g at (t_made number values) asked = Refuses (refused Sort at)
  TermComesTo env m g at (t_at inner term) asked = TermComesTo env m g inner term asked

  -- the type of a recursive function
  pub HeaderComesTo : Environment → Context → ℕ → FixTree → Result TyTree Stop → Type 0
  HeaderComesTo env g at (x_param argument rest) = do
    argument' ← TyComesTo env g at argument
    HasRoom g 1
    answer' ← HeaderComesTo env (en_term argument' ∷ g) at rest
    Comes (y_fun argument' answer')
  HeaderComesTo env g at (x_body spec comp) = do
    spec' ← TripleComesTo env g at spec
    Comes (y_hoare spec')

  -- the body of a recursive function of this whole type, under the parameters of the type that is left and
  -- then the function; the type is that of the header
  pub FixComesTo : Environment → Context → ℕ → TyTree → FixTree → TyTree → Result Fixed Stop → Type 0
  FixComesTo env g at whole (x_param argument rest) (y_fun argument' answer) = do
    x ← FixComesTo env (en_term argument' ∷ g) at (rename_ty suc whole) rest answer
    Comes (fixed (x_param argument' x.fix) x.owed)
  FixComesTo env g at whole (x_param argument rest) _ = Refuses (refused Sort at)
  FixComesTo env g at whole (x_body spec comp) (y_hoare spec') = do
    HasRoom g 1
    c ← BodyComesTo (en_term whole ∷ g) (rename_triple suc spec')
        (λ mono state. RunsTo env (en_term whole ∷ g) at mono state comp)
    Comes (fixed (x_body spec' c.comp) c.owed)
  FixComesTo env g at whole (x_body spec comp) _ = Refuses (refused Sort at)

  -- a computation runs from a state, for a result of this monotype
  pub RunsTo : Environment → Context → ℕ → MonoTree → FormulaTree → CompTree → Result Ran Stop → Type 0
  RunsTo env g at mono state (c_ret term) = do
    v ← TermComesTo env in_program g at term (Some (y_mono mono))
    Comes (ran state [] v.term [] v.owed)
  RunsTo env g at mono state (c_step step others) = do
    s ← StepComesTo env g at state step
    r ← RunsTo env (en_term (y_mono s.mono) ∷ g) at (rename_mono suc mono) s.next others
    Comes (ran r.end (s.mono ∷ r.zs) r.value (s.part ∷ r.parts) (s.owed ++ r.owed))

  -- a step goes on from a state
  pub StepComesTo : Environment → Context → ℕ → FormulaTree → StepTree → Result Moved Stop → Type 0
  StepComesTo env g at state (s_alloc mono value) = do
    MonoComesTo g at mono
    v ← TermComesTo env in_program g at value (Some (y_mono mono))
    GoesOn g state (move_alloc mono v.term) m_loc (part_step (s_alloc mono v.term)) v.owed
  StepComesTo env g at state (s_get mono place) = do
    MonoComesTo g at mono
    p ← TermComesTo env in_program g at place (Some (y_mono m_loc))
    GoesOn g state (move_get mono p.term) mono (part_step (s_get mono p.term)) p.owed
  StepComesTo env g at state (s_set mono place value) = do
    MonoComesTo g at mono
    p ← TermComesTo env in_program g at place (Some (y_mono m_loc))
    v ← TermComesTo env in_program g at value (Some (y_mono mono))
    GoesOn g state (move_set mono p.term v.term) m_unit (part_step (s_set mono p.term v.term)) (p.owed ++ v.owed)
  StepComesTo env g at state (s_free mono place) = do
    MonoComesTo g at mono
    p ← TermComesTo env in_program g at place (Some (y_mono m_loc))
    GoesOn g state (move_free mono p.term) m_unit (part_step (s_free mono p.term)) p.owed
  StepComesTo env g at state (s_run term given) = do
    k ← TermComesTo env in_program g at term None
    spec ← Finds (λ (spec : TripleTree). k.ty ≡ y_hoare spec) (refused Run (byte_of_term at term))
    comp ← Makes (λ (comp : CompTree). k.term ≡ t_do comp)
    GoesOn g state (move_run spec) (result_of spec) (part_comp comp) k.owed
  StepComesTo env g at state (s_if mono test on_true on_false) = do
    MonoComesTo g at mono
    k ← TermComesTo env in_program g at test (Some (y_mono m_bool))
    when_true ← BranchComesTo g mono (branch state k.term true) (λ from. RunsTo env g at mono from on_true)
    when_false ← BranchComesTo g mono (branch state k.term false) (λ from. RunsTo env g at mono from on_false)
    HasRoom g 3
    StateIsWithin (merge when_true.ending when_false.ending)
    Comes (moved mono (merge when_true.ending when_false.ending)
        (part_step (s_if mono k.term when_true.comp when_false.comp)) (k.owed ++ when_true.owed ++ when_false.owed))
  StepComesTo env g at state (s_claim claim) = do
    HasRoom g 2
    claim' ← FormulaComesTo env (with_heaps g) at claim
    GoesOn g state (move_claim claim') m_unit part_unit []
