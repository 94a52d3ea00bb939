-- What the typing rules owe is formed, by the derivation.
use Rattle.std.proofs.Common.{◌≡◌, ℕ, zero, suc, refl, ap, subst, List, [], ◌∷◌, ◌++◌, length, Option, Some, None, true, false}
use Rattle.htt_syntax.specs.Trees.{MonoTree, m_word, m_bool, m_loc, m_unit, m_pair, m_var, TyTree, y_mono, y_fun, y_hoare, TripleTree, triple, TermTree}
use Rattle.htt_syntax.specs.Trees.{FixTree, CompTree, StepTree, FormulaTree}
use Rattle.theory_renaming.specs.Renaming.{rename_mono}
use Rattle.theory_states.specs.States.{past, Move, move_alloc, move_get, move_set, move_free, move_run, move_claim, owed}
use Rattle.theory_typing.specs.Contexts.{Context, Environment, Obligation}
use Rattle.theory_typing.specs.Typing.{Mode, Part, owes, Gives, gives_var, gives_val, gives_def, gives_word, gives_bool, gives_loc, gives_unit, gives_app}
use Rattle.theory_typing.specs.Typing.{gives_inst, gives_ann, gives_pair, gives_fst, gives_snd, gives_bin, gives_not, gives_eq, gives_sel, gives_fix, gives_at}
use Rattle.theory_typing.specs.Typing.{Fits, fits_lam, fits_lam_t, fits_pair, fits_do, fits_given, fits_at, FitsFix, fix_param, fix_body, FitsBody, fits_body}
use Rattle.theory_typing.specs.Typing.{Runs, runs_ret, runs_step, Moves, moves_alloc, moves_get, moves_set, moves_free, moves_run, moves_if, moves_claim}
use Rattle.theory_items.specs.Items.{ItemTree, Added, Derives, derives_abbreviation, derives_pred, derives_def, derives_val, derives_rec}
use Rattle.theory_formed_shapes.specs.Shapes.{sh_mono, shape_of, in_term, Shapes, shapes_of}
use Rattle.theory_formed_shapes.specs.Formed.{FileShapes, file_shapes, IsFormedMono, z_m_word, z_m_bool, z_m_loc, z_m_unit, z_m_pair, IsFormedTerm, IsFormedTy}
use Rattle.theory_formed_shapes.specs.Formed.{z_mono, z_fun, z_all, z_hoare, IsFormedTriple, z_triple, IsFormedFormula, IsClosedFile}
use Rattle.theory_formed_shapes.proofs.Filled.{mono_raised}
use Rattle.theory_formed_shapes.proofs.Renamed.{ty_renamed, triple_renamed, fills_suc}
use Rattle.theory_formed_shapes.specs.Environments.{IsFormedContext, formed_mono, formed_heap, formed_term, FormsEnvironment}
use Rattle.theory_formed_typing.proofs.Closed.{file_closed}
use Rattle.theory_formed_typing.proofs.Terms.{mono_formed}
use Rattle.theory_formed_typing.proofs.Typed.{formed_ty, formed_formula, given_formed, fit_formed, header_formed}
use Rattle.theory_formed_states.specs.Laws.{at_state, under, IsFormedRow, IsFormedMove, IsFormedOwed}
use Rattle.theory_formed_states.proofs.States.{start_formed, owed_formed, after_formed, branch_formed, merge_formed, last_formed}
use Rattle.theory_formed_states.proofs.Ending.{finish_formed}
use Rattle.theory_formed_obligations.specs.Laws.{AreFormed, OwedStandsFormed}

joined : (file : FileShapes) (o p : List Obligation) → AreFormed file o → AreFormed file p → AreFormed file (o ++ p)
joined file [] p d e = e
joined file (x ∷ o) p d e = (d.0, joined file o p d.1 e)

-- the monotype of a result, past the variables of the steps
past_suc : (k n : ℕ) → past k (suc n) ≡ suc (past k n)
unfolding past
past_suc zero n = refl
past_suc (suc k) n = ap suc (past_suc k n)

mono_past_suc : (k : ℕ) (t : MonoTree) → rename_mono (past k) (rename_mono suc t) ≡ rename_mono (past (suc k)) t
unfolding rename_mono past
mono_past_suc k m_word = refl
mono_past_suc k m_bool = refl
mono_past_suc k m_loc = refl
mono_past_suc k m_unit = refl
mono_past_suc k (m_pair left right) = λ j. m_pair (mono_past_suc k left j) (mono_past_suc k right j)
mono_past_suc k (m_var index) = ap m_var (past_suc k index)

mono_past_zero : (t : MonoTree) → t ≡ rename_mono (past zero) t
unfolding rename_mono past
mono_past_zero m_word = refl
mono_past_zero m_bool = refl
mono_past_zero m_loc = refl
mono_past_zero m_unit = refl
mono_past_zero (m_pair left right) = λ j. m_pair (mono_past_zero left j) (mono_past_zero right j)
mono_past_zero (m_var index) = refl

module _ {file : FileShapes} {g : Shapes} where
  argument_part : {A B : TyTree} → IsFormedTy file g (y_fun A B) → IsFormedTy file g A
  argument_part (z_fun d e) = d

  answer_part : {A B : TyTree} → IsFormedTy file g (y_fun A B) → IsFormedTy file (in_term (shape_of A) ∷ g) B
  answer_part (z_fun d e) = e

  spec_part : {spec : TripleTree} → IsFormedTy file g (y_hoare spec) → IsFormedTriple file g spec
  spec_part (z_hoare d) = d

  spec_mono : {pre post : FormulaTree} {t : MonoTree} → IsFormedTriple file g (triple pre t post) → IsFormedMono g t
  spec_mono (z_triple d m e) = m

  pair_left : {t u : MonoTree} → IsFormedTy file g (y_mono (m_pair t u)) → IsFormedMono g t
  pair_left (z_mono (z_m_pair a b)) = a

  pair_right : {t u : MonoTree} → IsFormedTy file g (y_mono (m_pair t u)) → IsFormedMono g u
  pair_right (z_mono (z_m_pair a b)) = b

-- what a computation comes to
record Ran (file : FileShapes) (g : Shapes) (t : MonoTree) (end : FormulaTree) (zs : List MonoTree) (M : TermTree) (o : List Obligation) : Type 0 where
  state : IsFormedFormula file (at_state (under zs g)) end
  row : IsFormedRow g zs
  value : IsFormedTerm file (under zs g) M (sh_mono (rename_mono (past (length zs)) t))
  all : AreFormed file o

-- what a step comes to
record Moved (file : FileShapes) (g : Shapes) (t : MonoTree) (next : FormulaTree) (o : List Obligation) : Type 0 where
  mono : IsFormedMono g t
  state : IsFormedFormula file (at_state (in_term (sh_mono t) ∷ g)) next
  all : AreFormed file o

module _ (env : Environment) (known : FormsEnvironment env) where
  closed : IsClosedFile (file_shapes env)
  closed = file_closed known

  join : (o p : List Obligation) → AreFormed (file_shapes env) o → AreFormed (file_shapes env) p → AreFormed (file_shapes env) (o ++ p)
  join o p d e = joined (file_shapes env) o p d e

  owing : (g : Context) (goal : Option FormulaTree)
      → IsFormedContext (file_shapes env) g
      → IsFormedOwed (file_shapes env) (at_state (shapes_of g)) goal
      → AreFormed (file_shapes env) (owes g goal)
  owing g None c d = tt
  owing g (Some goal) c d = ((formed_heap (formed_heap c), d), tt)

  -- a step whose terms are formed, and what it owes
  moved : {g : Context} (step : Move) {state : FormulaTree} (o : List Obligation)
      → IsFormedContext (file_shapes env) g
      → IsFormedMove (file_shapes env) (shapes_of g) step
      → IsFormedFormula (file_shapes env) (at_state (shapes_of g)) state
      → AreFormed (file_shapes env) o
      → AreFormed (file_shapes env) (o ++ owes g (owed step state))
  moved {g = g} step {state = state} o c d s all = join o _ all (owing g (owed step state) c (owed_formed closed (shapes_of g) step d s))

  mutual
    unfolding shape_of

    pub given_stands : {m : Mode} {g : Context} {M N : TermTree} {A : TyTree} {o : List Obligation}
        → Gives env m g M A N o
        → IsFormedContext (file_shapes env) g
        → AreFormed (file_shapes env) o
    given_stands (gives_var d) c = tt
    given_stands (gives_val q) c = tt
    given_stands (gives_def q) c = tt
    given_stands (gives_word i) c = tt
    given_stands gives_bool c = tt
    given_stands (gives_loc i) c = tt
    given_stands gives_unit c = tt
    given_stands (gives_app {o = o} {p = p} a b d f) c = join o p (given_stands a c) (fit_stands b c (argument_part (given_formed env known a c).0))
    given_stands (gives_inst a f) c = given_stands a c
    given_stands (gives_ann f a) c = fit_stands a c (formed_ty env known f c)
    given_stands (gives_pair {o = o} {p = p} a b) c = join o p (given_stands a c) (given_stands b c)
    given_stands (gives_fst a) c = given_stands a c
    given_stands (gives_snd a) c = given_stands a c
    given_stands (gives_bin {o = o} {p = p} a b) c = join o p (fit_stands a c (z_mono z_m_word)) (fit_stands b c (z_mono z_m_word))
    given_stands (gives_not a) c = fit_stands a c (z_mono z_m_bool)
    given_stands (gives_eq {o = o} {p = p} m k a b) c = join o p (fit_stands a c (z_mono (mono_formed m))) (fit_stands b c (z_mono (mono_formed m)))
    given_stands (gives_sel {o = o} {p = p} {q = q} m a b d) c =
        join (o ++ p) q (join o p (fit_stands a c (z_mono z_m_bool)) (fit_stands b c (z_mono (mono_formed m))))
        (fit_stands d c (z_mono (mono_formed m)))
    given_stands (gives_fix h a) c = let x = header_formed env known h c in fix_stands a c x x
    given_stands (gives_at a) c = given_stands a c

    pub fit_stands : {m : Mode} {g : Context} {M N : TermTree} {A : TyTree} {o : List Obligation}
        → Fits env m g M A N o
        → IsFormedContext (file_shapes env) g
        → IsFormedTy (file_shapes env) (shapes_of g) A
        → AreFormed (file_shapes env) o
    fit_stands (fits_lam a) c x = fit_stands a (formed_term c (argument_part x)) (answer_part x)
    fit_stands (fits_lam_t a) c (z_all x) = fit_stands a (formed_mono c) x
    fit_stands (fits_pair {o = o} {p = p} a b) c x = join o p (fit_stands a c (z_mono (pair_left x))) (fit_stands b c (z_mono (pair_right x)))
    fit_stands (fits_do a) c x = body_stands a c (spec_part x)
    fit_stands (fits_given i a q) c x = given_stands a c
    fit_stands (fits_at a) c x = fit_stands a c x

    fix_stands : {g : Context} {whole ty : TyTree} {fix r : FixTree} {o : List Obligation}
        → FitsFix env g whole fix ty r o
        → IsFormedContext (file_shapes env) g
        → IsFormedTy (file_shapes env) (shapes_of g) whole
        → IsFormedTy (file_shapes env) (shapes_of g) ty
        → AreFormed (file_shapes env) o
    fix_stands {g = g} (fix_param {argument' = argument'} a) c y x =
        fix_stands a (formed_term c (argument_part x)) (ty_renamed y closed (fills_suc (in_term (shape_of argument')) (shapes_of g)))
        (answer_part x)
    fix_stands {g = g} (fix_body {whole = whole} a) c y x =
        body_stands a (formed_term c y) (triple_renamed (spec_part x) closed (fills_suc (in_term (shape_of whole)) (shapes_of g)))

    body_stands : {g : Context} {spec : TripleTree} {comp r : CompTree} {o : List Obligation}
        → FitsBody env g comp spec r o
        → IsFormedContext (file_shapes env) g
        → IsFormedTriple (file_shapes env) (shapes_of g) spec
        → AreFormed (file_shapes env) o
    body_stands {g = g} (fits_body {zs = zs} {o = o} a b) c (z_triple p m q) =
        let x = run_stands a c m (start_formed closed (shapes_of g) p) in
        join o _ x.all ((formed_heap (formed_heap (formed_term c (z_mono m))), last_formed (finish_formed closed zs x.state x.row m x.value) q), tt)

    run_stands : {g : Context} {mono : MonoTree} {state end : FormulaTree} {comp : CompTree} {zs : List MonoTree} {value : TermTree}
        {parts : List Part} {o : List Obligation}
        → Runs env g mono state comp end zs value parts o
        → IsFormedContext (file_shapes env) g
        → IsFormedMono (shapes_of g) mono
        → IsFormedFormula (file_shapes env) (at_state (shapes_of g)) state
        → Ran (file_shapes env) (shapes_of g) mono end zs value o
    run_stands {g = g} {mono = mono} (runs_ret {term' = term'} a) c m s = record {
      state = s;
      row = tt;
      value =
          subst (λ (t : MonoTree). IsFormedTerm (file_shapes env) (shapes_of g) term' (sh_mono t)) (mono_past_zero mono)
          (fit_formed env known a c (z_mono m));
      all = fit_stands a c (z_mono m);
    }
    run_stands {g = g} {mono = mono} {value = value} (runs_step {step_mono = left} {o = o} {zs = zs} {p = p} a b) c m s =
        let x = move_stands a c s in
        let y = run_stands b (formed_term c (z_mono x.mono)) (mono_raised (in_term (sh_mono left)) m) x.state in
        record {
          state = y.state;
          row = (x.mono, y.row);
          value =
              subst (λ (t : MonoTree). IsFormedTerm (file_shapes env) (under zs (in_term (sh_mono left) ∷ shapes_of g)) value (sh_mono t))
              (mono_past_suc (length zs) mono) y.value;
          all = join o p x.all y.all;
        }

    move_stands : {g : Context} {state next : FormulaTree} {step : StepTree} {mono : MonoTree} {part : Part} {o : List Obligation}
        → Moves env g state step mono next part o
        → IsFormedContext (file_shapes env) g
        → IsFormedFormula (file_shapes env) (at_state (shapes_of g)) state
        → Moved (file_shapes env) (shapes_of g) mono next o
    move_stands {g = g} (moves_alloc {mono = mono} {value' = value'} {o = o} m a) c s =
        let step = move_alloc mono value' in
        let d : IsFormedMove (file_shapes env) (shapes_of g) step = (mono_formed m, fit_formed env known a c (z_mono (mono_formed m))) in
        record { mono = z_m_loc; state = after_formed closed (shapes_of g) step d s; all = moved step o c d s (fit_stands a c (z_mono (mono_formed m))) }
    move_stands {g = g} (moves_get {mono = mono} {place' = place'} {o = o} m a) c s =
        let step = move_get mono place' in
        let d : IsFormedMove (file_shapes env) (shapes_of g) step = (mono_formed m, fit_formed env known a c (z_mono z_m_loc)) in
        record { mono = mono_formed m; state = after_formed closed (shapes_of g) step d s; all = moved step o c d s (fit_stands a c (z_mono z_m_loc)) }
    move_stands {g = g} (moves_set {mono = mono} {place' = place'} {o = o} {value' = value'} {p = p} m a b) c s =
        let step = move_set mono place' value' in
        let d : IsFormedMove (file_shapes env) (shapes_of g) step =
        (mono_formed m, fit_formed env known a c (z_mono z_m_loc), fit_formed env known b c (z_mono (mono_formed m))) in
        record {
          mono = z_m_unit;
          state = after_formed closed (shapes_of g) step d s;
          all = moved step (o ++ p) c d s (join o p (fit_stands a c (z_mono z_m_loc)) (fit_stands b c (z_mono (mono_formed m))));
        }
    move_stands {g = g} (moves_free {mono = mono} {place' = place'} {o = o} m a) c s =
        let step = move_free mono place' in
        let d : IsFormedMove (file_shapes env) (shapes_of g) step = (mono_formed m, fit_formed env known a c (z_mono z_m_loc)) in
        record { mono = z_m_unit; state = after_formed closed (shapes_of g) step d s; all = moved step o c d s (fit_stands a c (z_mono z_m_loc)) }
    move_stands {g = g} (moves_run {pre = pre} {mono = mono} {post = post} {o = o} a) c s =
        let step = move_run (triple pre mono post) in
        let d = spec_part (given_formed env known a c).0 in
        record { mono = spec_mono d; state = after_formed closed (shapes_of g) step d s; all = moved step o c d s (given_stands a c) }
    move_stands {g = g} (moves_if {o = o} {zs = zs} {p = p} {ys = ys} {q = q} m a b k d l) c s =
        let x = fit_formed env known a c (z_mono z_m_bool) in
        let y = run_stands b c (mono_formed m) (branch_formed closed (shapes_of g) true s x) in
        let z = run_stands d c (mono_formed m) (branch_formed closed (shapes_of g) false s x) in
        record {
          mono = mono_formed m;
          state = merge_formed (finish_formed closed zs y.state y.row (mono_formed m) y.value) (finish_formed closed ys z.state z.row (mono_formed m) z.value);
          all = join (o ++ p) q (join o p (fit_stands a c (z_mono z_m_bool)) y.all) z.all;
        }
    move_stands {g = g} (moves_claim {claim' = claim'} {state = state} a) c s =
        let d = formed_formula env known a (formed_heap (formed_heap c)) in
        record {
          mono = z_m_unit;
          state = after_formed closed (shapes_of g) (move_claim claim') d s;
          all = owing g (owed (move_claim claim') state) c (owed_formed closed (shapes_of g) (move_claim claim') d s);
        }

  pub item_stands : {g : Context} {item : ItemTree} {added : Added} {o : List Obligation}
      → Derives env g item added o
      → IsFormedContext (file_shapes env) g
      → AreFormed (file_shapes env) o
  item_stands (derives_abbreviation a) c = tt
  item_stands (derives_pred a b) c = tt
  item_stands (derives_def a b) c = fit_stands b c (formed_ty env known a c)
  item_stands (derives_val a h b) c = fit_stands b c (formed_ty env known a c)
  item_stands (derives_rec f a b i) c = tt

pub owed_formed_all : OwedStandsFormed
owed_formed_all = record {
  given = λ env g known c m M N A o d. given_stands env known d c;
  fitting = λ env g known c m M N A o x d. fit_stands env known d c x;
  items = λ env g known c item added o d. item_stands env known d c;
}
