-- What a proof infers, and each sequent of a derivation, is formed.
use Rattle.std.proofs.Common.{◌≡◌, ℕ, zero, suc, List, [], ◌∷◌, ◌++◌, map, Some, None, arith, refl, subst}
use Rattle.std.specs.Prelude.{slice_get}
use Rattle.htt_syntax.specs.declared.mono.Op.TheVariants.{Add, Lt}
use Rattle.htt_syntax.specs.Trees.{MonoTree, TermTree, FormulaTree, ArgTree, ProofTree, BlockTree, m_word, y_mono, t_var, t_word, t_bin, f_and}
use Rattle.htt_syntax.specs.Trees.{f_or, f_imp, f_all_t, f_ex_t, f_all_h, f_ex_h, f_same, f_eq, f_rec, a_heap, a_term}
use Rattle.theory_renaming.specs.Renaming.{lift, rename_formula}
use Rattle.theory_truth.specs.Predicates.{RecTree}
use Rattle.theory_canonical.specs.Skeletons.{sk_o}
use Rattle.theory_canonical.specs.Folding.{contractum, folding}
use Rattle.theory_substitution.specs.Monotypes.{fill_mono}
use Rattle.theory_substitution.specs.Substitution.{SubFormula}
use Rattle.theory_typing.specs.Contexts.{EntryTree, en_heap, en_term, Context, Environment}
use Rattle.theory_typing.specs.Typing.{FormsFormula}
use Rattle.theory_logic_axioms.specs.Table.{heap_sort, term_sort}
use Rattle.theory_logic_rules.specs.Sequents.{raised, PutArgs, terms_of, FitsArgs, fits_heap_arg, fits_term_arg, below_greatest, both_ways}
use Rattle.theory_logic_rules.specs.Rules.{Infers, Proves, ProvesBlock, infers_hyp, infers_first, infers_second, infers_app, infers_inst_term, infers_inst_heap}
use Rattle.theory_logic_rules.specs.Rules.{infers_axiom, infers_lem, infers_the, infers_at_zero, infers_at_next, infers_at, proves_both, proves_left}
use Rattle.theory_logic_rules.specs.Rules.{proves_right, proves_give_term, proves_give_heap, proves_trivial, proves_refl_term, proves_refl_heap, proves_absurd}
use Rattle.theory_logic_rules.specs.Rules.{proves_case, proves_rewrite_term, proves_rewrite_heap, proves_induct, proves_split, proves_inferred, proves_block}
use Rattle.theory_logic_rules.specs.Rules.{proves_at, block_end, block_intro, block_gen_term, block_gen_heap, block_have, block_open_term, block_open_heap}
use Rattle.theory_logic_rules.specs.Rules.{block_at}
use Rattle.std.proofs.lemmas.Option.{same_Some}
use Rattle.theory_formed_shapes.specs.Shapes.{sh_mono, shape_of, fill_shape, ShapeEntry, in_heap, in_term, Shapes, IsHeapAt, shape_here, entry_shape, shapes_of}
use Rattle.theory_formed_shapes.specs.Formed.{FileShapes, file_shapes, IsFormedMono, z_m_word, z_m_bool, IsFormedTerm, z_word, z_bool, z_bin, z_neutral, w_var}
use Rattle.theory_formed_shapes.specs.Formed.{z_mono, IsFormedFormula, z_ff, z_and, z_or, z_imp, z_all_t, z_ex_t, z_all_h, z_ex_h, z_same, z_equal, z_rec}
use Rattle.theory_formed_shapes.specs.Formed.{IsClosedFile}
use Rattle.theory_formed_shapes.proofs.Folded.{bin_folded}
use Rattle.theory_formed_shapes.proofs.Renamed.{formula_renamed, fills_suc, fills_lift}
use Rattle.theory_formed_substitution.proofs.Put.{puts_first, formula_put}
use Rattle.theory_formed_shapes.specs.Environments.{IsFormedContext, formed_heap, formed_term}
use Rattle.theory_formed_typing.proofs.Closed.{map_get, file_closed}
use Rattle.theory_formed_typing.proofs.Typed as typed
use Rattle.theory_formed_items.specs.Environments.{IsFormedEnvironment}
use Rattle.theory_formed_proofs.specs.Sequents.{formed_term_arg, AreClosedSorts, IsFormedIn, AreFormedIn, IsFormedSequent}
use Rattle.theory_formed_proofs.specs.Derivations.{FormedInference, FormedProof, FormedBlock}
use Rattle.theory_formed_proofs.specs.Laws.{ProofInfersFormed}
use Rattle.theory_formed_proofs.proofs.Instances.{instance_at}
use Rattle.theory_formed_proofs.proofs.Arguments.{heap_formed_at, monos_formed, value_formed, args_fitted, terms_formed, with_heap_arg, heap_put, args_put}
use Rattle.theory_formed_proofs.proofs.Arguments.{extended, closed_params, params_sorts}

-- parts of formed formulas
module _ {file : FileShapes} {g : Shapes} where
  and_parts : {A B : FormulaTree} → IsFormedFormula file g (f_and A B) → IsFormedFormula file g A × IsFormedFormula file g B
  and_parts (z_and a b) = (a, b)

  or_parts : {A B : FormulaTree} → IsFormedFormula file g (f_or A B) → IsFormedFormula file g A × IsFormedFormula file g B
  or_parts (z_or a b) = (a, b)

  imp_parts : {A B : FormulaTree} → IsFormedFormula file g (f_imp A B) → IsFormedFormula file g A × IsFormedFormula file g B
  imp_parts (z_imp a b) = (a, b)

  all_parts : {t : MonoTree} {F : FormulaTree}
      → IsFormedFormula file g (f_all_t t F)
      → IsFormedMono g t × IsFormedFormula file (in_term (sh_mono t) ∷ g) F
  all_parts (z_all_t m d) = (m, d)

  ex_parts : {t : MonoTree} {F : FormulaTree}
      → IsFormedFormula file g (f_ex_t t F)
      → IsFormedMono g t × IsFormedFormula file (in_term (sh_mono t) ∷ g) F
  ex_parts (z_ex_t m d) = (m, d)

  all_heap_part : {F : FormulaTree} → IsFormedFormula file g (f_all_h F) → IsFormedFormula file (in_heap ∷ g) F
  all_heap_part (z_all_h d) = d

  ex_heap_part : {F : FormulaTree} → IsFormedFormula file g (f_ex_h F) → IsFormedFormula file (in_heap ∷ g) F
  ex_heap_part (z_ex_h d) = d

  equal_parts : {t : MonoTree} {m n : TermTree}
      → IsFormedFormula file g (f_eq t m n)
      → IsFormedMono g t × IsFormedTerm file g m (sh_mono t) × IsFormedTerm file g n (sh_mono t)
  equal_parts (z_equal t a b) = (t, a, b)

  same_parts : {h k : ℕ} → IsFormedFormula file g (f_same h k) → IsHeapAt g h × IsHeapAt g k
  same_parts (z_same a b) = (a, b)

-- a term for the innermost variable
put_formed : {file : FileShapes} {g : Shapes} {new : TermTree} {t : MonoTree} {F G : FormulaTree}
    → SubFormula new sk_o zero F G
    → IsClosedFile file
    → IsFormedTerm file g new (sh_mono t)
    → IsFormedFormula file (in_term (sh_mono t) ∷ g) F
    → IsFormedFormula file g G
put_formed p c d f = formula_put p f c (puts_first d)

raised_formed : {file : FileShapes} (entry : ShapeEntry) (g : Shapes) (F : FormulaTree)
    → IsClosedFile file
    → IsFormedFormula file g F
    → IsFormedFormula file (entry ∷ g) (rename_formula suc F)
raised_formed entry g F c d = formula_renamed d c (fills_suc entry g)

first_word : {file : FileShapes} {g : Shapes} → IsFormedTerm file (in_term (sh_mono m_word) ∷ g) (t_var 0) (sh_mono m_word)
unfolding fill_shape fill_mono
first_word = z_neutral (w_var shape_here)

word_one : {file : FileShapes} {g : Shapes} → IsFormedTerm file g (t_word 1) (sh_mono m_word)
word_one = z_word (omega arith)

word_zero : {file : FileShapes} {g : Shapes} → IsFormedTerm file g (t_word 0) (sh_mono m_word)
word_zero = z_word (omega arith)

next_word : {file : FileShapes} {g : Shapes} → IsFormedTerm file (in_term (sh_mono m_word) ∷ g) (t_bin Add (t_var 0) (t_word 1)) (sh_mono m_word)
unfolding contractum
next_word = z_bin first_word word_one refl

below_formed : {file : FileShapes} {g : Shapes} (m : TermTree) → IsFormedTerm file g m (sh_mono m_word) → IsFormedFormula file g (below_greatest m)
below_formed m d = z_equal z_m_bool (bin_folded Lt m (t_word 18446744073709551615) d (z_word (omega arith))) z_bool

next_motive : {file : FileShapes} (g : Shapes) (C : FormulaTree)
    → IsClosedFile file
    → IsFormedFormula file (in_term (sh_mono m_word) ∷ g) C
    → IsFormedFormula file (in_term (sh_mono m_word) ∷ in_term (sh_mono m_word) ∷ g) (rename_formula (lift suc) C)
unfolding fill_shape fill_mono
next_motive g C c d = formula_renamed d c (fills_lift (sh_mono m_word) (fills_suc (in_term (sh_mono m_word)) g))

ways_formed : {file : FileShapes} {g : Shapes} {A B : FormulaTree}
    → IsFormedFormula file g A
    → IsFormedFormula file g B
    → IsFormedFormula file g (both_ways A B)
ways_formed a b = z_and (z_imp a b) (z_imp b a)

-- hypotheses
no_element : {F : FormulaTree} → None ≡ Some F → ⊥
no_element q = cc

hypothesis_formed : (env : Environment) (g : Context) (hs : List FormulaTree) (n : ℕ) (F : FormulaTree)
    → slice_get hs n ≡ Some F
    → AreFormedIn env g hs
    → IsFormedIn env g F
hypothesis_formed env g [] n F q d = absurd (no_element q)
hypothesis_formed env g (G ∷ hs) zero F q d = subst (IsFormedIn env g) (same_Some G F q) d.0
hypothesis_formed env g (G ∷ hs) (suc n) F q d = hypothesis_formed env g hs n F q d.1

more_formed : (env : Environment) (g : Context) (hs more : List FormulaTree)
    → AreFormedIn env g hs
    → AreFormedIn env g more
    → AreFormedIn env g (hs ++ more)
more_formed env g [] more d e = e
more_formed env g (G ∷ hs) more d e = (d.0, more_formed env g hs more d.1 e)

raised_under : (env : Environment) (entry : EntryTree) (g : Context) (hs : List FormulaTree)
    → IsClosedFile (file_shapes env)
    → AreFormedIn env g hs
    → AreFormedIn env (entry ∷ g) (raised hs)
raised_under env entry g [] c d = tt
raised_under env entry g (G ∷ hs) c d = (raised_formed (entry_shape entry) (shapes_of g) G c d.0, raised_under env entry g hs c d.1)

module _ (env : Environment) (known : IsFormedEnvironment env) where
  closed : IsClosedFile (file_shapes env)
  closed = file_closed known.forms

  -- unfoldings
  zero_formed : {g : Context} (number : ℕ) (r : RecTree)
      → slice_get env.recs number ≡ Some r
      → IsFormedContext (file_shapes env) g
      → {h : ℕ} {arguments values : List ArgTree}
      → FitsArgs env g arguments (heap_sort ∷ map term_sort r.params) (a_heap h ∷ values)
      → {F : FormulaTree}
      → PutArgs (values ++ a_heap h ∷ []) r.at_zero F
      → IsFormedIn env g (both_ways (f_rec number h (t_word 0) (terms_of values)) F)
  zero_formed {g = g} number r found c (fits_heap_arg i rest) put =
      let k = known.recs_formed number r found in
      let a = args_fitted rest known.forms c in
      let all = with_heap_arg a (heap_formed_at i) in
      let sorts = closed_params r.params k.params in
      let body = subst (λ (s : Shapes). IsFormedFormula (file_shapes env) s r.at_zero) (params_sorts r.params []) k.at_zero in
      ways_formed (z_rec (map_get (λ (r : RecTree). r.params) env.recs number r found) (heap_formed_at i) word_zero (terms_formed r.params a))
      (args_put closed sorts all put (extended (shapes_of g) closed sorts all body))

  next_formed : {g : Context} (number : ℕ) (r : RecTree)
      → slice_get env.recs number ≡ Some r
      → IsFormedContext (file_shapes env) g
      → {h : ℕ} {m : TermTree} {arguments values : List ArgTree}
      → FitsArgs env g arguments (heap_sort ∷ term_sort m_word ∷ map term_sort r.params) (a_heap h ∷ a_term m ∷ values)
      → {F : FormulaTree}
      → PutArgs (a_term m ∷ values ++ a_heap h ∷ []) r.at_next F
      → IsFormedIn env g (f_imp (below_greatest m) (both_ways (f_rec number h (folding (t_bin Add m (t_word 1))) (terms_of values)) F))
  unfolding shape_of
  next_formed {g = g} number r found c {m = m} (fits_heap_arg i (fits_term_arg d rest)) put =
      let k = known.recs_formed number r found in
      let a = args_fitted rest known.forms c in
      let n = value_formed d known.forms c in
      let all = formed_term_arg n (with_heap_arg a (heap_formed_at i)) in
      let sorts : AreClosedSorts (term_sort m_word ∷ map term_sort r.params ++ heap_sort ∷ []) = (z_m_word, closed_params r.params k.params) in
      let body =
      subst (λ (s : Shapes). IsFormedFormula (file_shapes env) s r.at_next) (params_sorts r.params (en_term (y_mono m_word) ∷ [])) k.at_next in
      z_imp (below_formed m n) (ways_formed
      (z_rec (map_get (λ (r : RecTree). r.params) env.recs number r found) (heap_formed_at i) (bin_folded Add m (t_word 1) n word_one)
      (terms_formed r.params a)) (args_put closed sorts all put (extended (shapes_of g) closed sorts all body)))

  inferred : {g : Context} {hs : List FormulaTree} {p : ProofTree} {F : FormulaTree}
      → Infers env g hs p F
      → IsFormedContext (file_shapes env) g
      → AreFormedIn env g hs
      → IsFormedIn env g F
  inferred {g = g} {hs = hs} (infers_hyp {number = number} {F = F} q) c d = hypothesis_formed env g hs number F q d
  inferred (infers_first p) c d = (and_parts (inferred p c d)).0
  inferred (infers_second p) c d = (and_parts (inferred p c d)).1
  inferred (infers_app p q) c d = (imp_parts (inferred p c d)).1
  inferred (infers_inst_term p f u) c d = put_formed u closed (value_formed f known.forms c) (all_parts (inferred p c d)).1
  inferred (infers_inst_heap {F = F} p i) c d = heap_put F closed (heap_formed_at i) (all_heap_part (inferred p c d))
  inferred {g = g} (infers_axiom axiom_name {monos = monos} {sorts = sorts} {arguments' = values} {F = F} text m shaped side sorted fits row) c d =
      instance_at (file_shapes env) (shapes_of g) axiom_name monos sorts values F closed (monos_formed m) shaped (args_fitted fits known.forms c)
      (record { side_condition = side; row = row })
  inferred (infers_lem p) c d = let f = typed.formed_formula env known.forms p c in z_or f (z_imp f z_ff)
  inferred (infers_the p q) c d = typed.formed_formula env known.forms p c
  inferred (infers_at_zero {number = number} {r = r} q sorted fits put) c d = zero_formed number r q c fits put
  inferred (infers_at_next {number = number} {r = r} q sorted fits put) c d = next_formed number r q c fits put
  inferred (infers_at p) c d = inferred p c d

  -- motives
  term_context : {g : Context} {t : MonoTree}
      → IsFormedContext (file_shapes env) g
      → IsFormedMono (shapes_of g) t
      → IsFormedContext (file_shapes env) (en_term (y_mono t) ∷ g)
  term_context c m = formed_term c (z_mono m)

  motive : {g : Context} {t : MonoTree} {C C' : FormulaTree}
      → FormsFormula env (en_term (y_mono t) ∷ g) C C'
      → IsFormedContext (file_shapes env) g
      → IsFormedMono (shapes_of g) t
      → IsFormedFormula (file_shapes env) (in_term (sh_mono t) ∷ shapes_of g) C'
  unfolding shape_of
  motive f c m = typed.formed_formula env known.forms f (formed_term c (z_mono m))

  sequent : {g : Context} {hs : List FormulaTree} {G : FormulaTree}
      → IsFormedContext (file_shapes env) g
      → AreFormedIn env g hs
      → IsFormedIn env g G
      → IsFormedSequent env g hs G
  sequent c d e = record { context = c; hypotheses_formed = d; goal_formed = e }

  with_one : (g : Context) (hs : List FormulaTree) {A : FormulaTree} → AreFormedIn env g hs → IsFormedIn env g A → AreFormedIn env g (hs ++ A ∷ [])
  with_one g hs {A = A} d a = more_formed env g hs (A ∷ []) d (a, tt)

  mutual
    unfolding FormedInference FormedProof FormedBlock shape_of

    inference : {g : Context} {hs : List FormulaTree} {p : ProofTree} {F : FormulaTree} (x : Infers env g hs p F)
        → IsFormedContext (file_shapes env) g
        → AreFormedIn env g hs
        → FormedInference x
    inference (infers_hyp q) c d = inferred (infers_hyp q) c d
    inference (infers_first p) c d = (inferred (infers_first p) c d, inference p c d)
    inference (infers_second p) c d = (inferred (infers_second p) c d, inference p c d)
    inference (infers_app p q) c d = (inferred (infers_app p q) c d, inference p c d, proof q c d (imp_parts (inferred p c d)).0)
    inference (infers_inst_term p m u) c d = (inferred (infers_inst_term p m u) c d, inference p c d)
    inference (infers_inst_heap p i) c d = (inferred (infers_inst_heap p i) c d, inference p c d)
    inference (infers_axiom a text m shaped side sorted fits row) c d = inferred (infers_axiom a text m shaped side sorted fits row) c d
    inference (infers_lem f) c d = inferred (infers_lem f) c d
    inference (infers_the f p) c d = let F = typed.formed_formula env known.forms f c in (F, proof p c d F)
    inference (infers_at_zero q sorted fits put) c d = inferred (infers_at_zero q sorted fits put) c d
    inference (infers_at_next q sorted fits put) c d = inferred (infers_at_next q sorted fits put) c d
    inference (infers_at p) c d = inference p c d

    proof : {g : Context} {hs : List FormulaTree} {p : ProofTree} {G : FormulaTree} (x : Proves env g hs p G)
        → IsFormedContext (file_shapes env) g
        → AreFormedIn env g hs
        → IsFormedIn env g G
        → FormedProof x
    proof (proves_both p q) c d e = (sequent c d e, proof p c d (and_parts e).0, proof q c d (and_parts e).1)
    proof (proves_left p) c d e = (sequent c d e, proof p c d (or_parts e).0)
    proof (proves_right p) c d e = (sequent c d e, proof p c d (or_parts e).1)
    proof (proves_give_term m u p) c d e =
        (sequent c d e, proof p c d (put_formed u closed (value_formed m known.forms c) (ex_parts e).1))
    proof (proves_give_heap {F = F} i p) c d e = (sequent c d e, proof p c d (heap_put F closed (heap_formed_at i) (ex_heap_part e)))
    proof proves_trivial c d e = sequent c d e
    proof (proves_refl_term q) c d e = sequent c d e
    proof proves_refl_heap c d e = sequent c d e
    proof (proves_absurd p) c d e = (sequent c d e, proof p c d z_ff)
    proof {hs = hs} (proves_case p q r) c d e =
        let parts = or_parts (inferred p c d) in
        (sequent c d e, inference p c d, proof q c (with_one _ hs d parts.0) e, proof r c (with_one _ hs d parts.1) e)
    proof (proves_rewrite_term p f u same v q) c d e =
        let parts = equal_parts (inferred p c d) in
        (sequent c d e, inference p c d, proof q c d (put_formed v closed parts.1 (motive f c parts.0)))
    proof (proves_rewrite_heap {C' = C'} p f same q) c d e =
        let parts = same_parts (inferred p c d) in
        let m = typed.formed_formula env known.forms f (formed_heap c) in
        (sequent c d e, inference p c d, proof q c d (heap_put C' closed parts.0 m))
    proof {g = g} {hs = hs} (proves_induct {C' = C'} f m u same z p n q) c d e =
        let k = motive f c z_m_word in
        let under : AreFormedIn env (en_term (y_mono m_word) ∷ g) (raised hs ++ below_greatest (t_var 0) ∷ C' ∷ []) =
        more_formed env (en_term (y_mono m_word) ∷ g) (raised hs) (below_greatest (t_var 0) ∷ C' ∷ [])
        (raised_under env (en_term (y_mono m_word)) g hs closed d) (below_formed (t_var 0) first_word, (k, tt)) in (
          sequent c d e,
          proof p c d (put_formed z closed word_zero k),
          proof q (formed_term c (z_mono z_m_word)) under (put_formed n closed next_word (next_motive (shapes_of g) C' closed k)),
        )
    proof (proves_split f m u same t p n q) c d e =
        let k = motive f c z_m_bool in
        (sequent c d e, proof p c d (put_formed t closed z_bool k), proof q c d (put_formed n closed z_bool k))
    proof (proves_inferred p same) c d e = (sequent c d e, inference p c d)
    proof (proves_block p) c d e = block p c d e
    proof (proves_at p) c d e = proof p c d e

    block : {g : Context} {hs : List FormulaTree} {b : BlockTree} {G : FormulaTree} (x : ProvesBlock env g hs b G)
        → IsFormedContext (file_shapes env) g
        → AreFormedIn env g hs
        → IsFormedIn env g G
        → FormedBlock x
    block (block_end p) c d e = proof p c d e
    block {hs = hs} (block_intro p) c d e = (sequent c d e, block p c (with_one _ hs d (imp_parts e).0) (imp_parts e).1)
    block {g = g} {hs = hs} (block_gen_term {t = t} p) c d e =
        let parts = all_parts e in
        (sequent c d e, block p (formed_term c (z_mono parts.0)) (raised_under env (en_term (y_mono t)) g hs closed d) parts.1)
    block {g = g} {hs = hs} (block_gen_heap p) c d e =
        (sequent c d e, block p (formed_heap c) (raised_under env en_heap g hs closed d) (all_heap_part e))
    block {hs = hs} (block_have f p q) c d e =
        let F = typed.formed_formula env known.forms f c in (sequent c d e, proof p c d F, block q c (with_one _ hs d F) e)
    block {g = g} {hs = hs} (block_open_term {t = t} {F = F} {G = G} p q) c d e =
        let parts = ex_parts (inferred p c d) in
        let entry = in_term (sh_mono t) in
        let under : AreFormedIn env (en_term (y_mono t) ∷ g) (raised hs ++ F ∷ []) =
        more_formed env (en_term (y_mono t) ∷ g) (raised hs) (F ∷ []) (raised_under env (en_term (y_mono t)) g hs closed d) (parts.1, tt) in
        (sequent c d e, inference p c d, block q (formed_term c (z_mono parts.0)) under (raised_formed entry (shapes_of g) G closed e))
    block {g = g} {hs = hs} (block_open_heap {F = F} {G = G} p q) c d e =
        let part = ex_heap_part (inferred p c d) in
        let under : AreFormedIn env (en_heap ∷ g) (raised hs ++ F ∷ []) =
        more_formed env (en_heap ∷ g) (raised hs) (F ∷ []) (raised_under env en_heap g hs closed d) (part, tt) in
        (sequent c d e, inference p c d, block q (formed_heap c) under (raised_formed in_heap (shapes_of g) G closed e))
    block (block_at p) c d e = block p c d e

pub infers_formed_all : ProofInfersFormed
infers_formed_all = record {
  inferred = λ env g known c hs d p F x. inferred env known x c d;
  instances = λ file c g axiom_name monos sorts arguments F m shaped d i. instance_at file g axiom_name monos sorts arguments F c m shaped d i;
  arguments = λ file closed g sorts arguments F R c d put f. args_put closed c d put f;
  inferences = λ env g known c hs d p F x. inference env known x c d;
  proofs = λ env g known hs goal s p x. proof env known x s.context s.hypotheses_formed s.goal_formed;
}
