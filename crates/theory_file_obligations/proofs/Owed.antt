-- What the typing rules owe stands in canonical contexts, by the derivation.
use Rattle.std.proofs.Common.{List, [], ◌∷◌, ◌++◌, Option, Some, None, true, false}
use Rattle.htt_syntax.specs.Trees.{MonoTree, TyTree, TripleTree, TermTree, FixTree, CompTree, StepTree, FormulaTree}
use Rattle.theory_states.specs.States.{move_alloc, move_get, move_set, move_free, move_run, move_claim, owed}
use Rattle.theory_canonical.specs.Skeletons.{sk_o, skeleton}
use Rattle.theory_canonical.specs.Contexts.{as_term, Heads}
use Rattle.theory_canonical.specs.Canonical.{IsCanonicalMono, n_m_word, n_m_bool, n_m_loc, IsCanonicalTy, n_mono, IsCanonicalTriple, n_triple}
use Rattle.theory_canonical.specs.Canonical.{IsCanonicalFormula}
use Rattle.theory_canonical.proofs.Renamed.{keeps_suc, mono_renamed, ty_renamed, triple_renamed}
use Rattle.theory_typing.specs.Contexts.{Context, Environment, Obligation}
use Rattle.theory_typing.specs.Typing.{Mode, Part, owes, Gives, gives_var, gives_val, gives_def, gives_word, gives_bool, gives_loc, gives_unit, gives_app}
use Rattle.theory_typing.specs.Typing.{gives_inst, gives_ann, gives_pair, gives_fst, gives_snd, gives_bin, gives_not, gives_eq, gives_sel, gives_fix, gives_at}
use Rattle.theory_typing.specs.Typing.{Fits, fits_lam, fits_lam_t, fits_pair, fits_do, fits_given, fits_at, FitsFix, fix_param, fix_body, FitsBody, fits_body}
use Rattle.theory_typing.specs.Typing.{Runs, runs_ret, runs_step, Moves, moves_alloc, moves_get, moves_set, moves_free, moves_run, moves_if, moves_claim}
use Rattle.theory_typing_canonical.specs.Environments.{standings, heads_of, at_state, IsCanonicalEnvironment, IsCanonicalContext, mono_entry}
use Rattle.theory_typing_canonical.specs.Environments.{heap_entry, term_entry}
use Rattle.theory_typing_canonical.proofs.StatesKept.{start_kept, branch_kept}
use Rattle.theory_typing_canonical.proofs.Entries.{mono_canonical, argument_part, answer_part, under_mono, spec_part, left_mono_part, right_mono_part}
use Rattle.theory_typing_canonical.proofs.Typed as canonical
use Rattle.theory_items.specs.Items.{ItemTree, Added, Derives, derives_abbreviation, derives_pred, derives_def, derives_val, derives_rec}
use Rattle.theory_file_obligations.specs.Laws.{StandCanonical, OwedStandsCanonical}

joined : (heads : Heads) (o p : List Obligation) → StandCanonical heads o → StandCanonical heads p → StandCanonical heads (o ++ p)
joined heads [] p d e = e
joined heads (x ∷ o) p d e = (d.0, joined heads o p d.1 e)

module _ (env : Environment) (known : IsCanonicalEnvironment env) where
  join : (o p : List Obligation) → StandCanonical (heads_of env) o → StandCanonical (heads_of env) p → StandCanonical (heads_of env) (o ++ p)
  join o p d e = joined (heads_of env) o p d e

  owing : (g : Context) (goal : Option FormulaTree) → IsCanonicalContext (heads_of env) g → StandCanonical (heads_of env) (owes g goal)
  owing g None c = tt
  owing g (Some goal) c = (heap_entry (heap_entry c), tt)

  mutual
    unfolding skeleton

    pub given_stands : {m : Mode} {g : Context} {M N : TermTree} {A : TyTree} {o : List Obligation}
        → Gives env m g M A N o
        → IsCanonicalContext (heads_of env) g
        → StandCanonical (heads_of env) o
    given_stands (gives_var d) c = tt
    given_stands (gives_val q) c = tt
    given_stands (gives_def q) c = tt
    given_stands (gives_word i) c = tt
    given_stands gives_bool c = tt
    given_stands (gives_loc i) c = tt
    given_stands gives_unit c = tt
    given_stands (gives_app {o = o} {p = p} a b d f) c = join o p (given_stands a c) (fit_stands b c (argument_part (canonical.given env known c a).ty))
    given_stands (gives_inst a f) c = given_stands a c
    given_stands (gives_ann f a) c = fit_stands a c (canonical.formed_ty env known c f)
    given_stands (gives_pair {o = o} {p = p} a b) c = join o p (given_stands a c) (given_stands b c)
    given_stands (gives_fst a) c = given_stands a c
    given_stands (gives_snd a) c = given_stands a c
    given_stands (gives_bin {o = o} {p = p} a b) c = join o p (fit_stands a c (n_mono n_m_word)) (fit_stands b c (n_mono n_m_word))
    given_stands (gives_not a) c = fit_stands a c (n_mono n_m_bool)
    given_stands (gives_eq {o = o} {p = p} m k a b) c = join o p (fit_stands a c (n_mono (mono_canonical m))) (fit_stands b c (n_mono (mono_canonical m)))
    given_stands (gives_sel {o = o} {p = p} {q = q} m a b d) c =
        join (o ++ p) q (join o p (fit_stands a c (n_mono n_m_bool)) (fit_stands b c (n_mono (mono_canonical m))))
        (fit_stands d c (n_mono (mono_canonical m)))
    given_stands (gives_fix h a) c = let x = canonical.header env known c h in fix_stands a c x x
    given_stands (gives_at a) c = given_stands a c

    pub fit_stands : {m : Mode} {g : Context} {M N : TermTree} {A : TyTree} {o : List Obligation}
        → Fits env m g M A N o
        → IsCanonicalContext (heads_of env) g
        → IsCanonicalTy (heads_of env) (standings g) A
        → StandCanonical (heads_of env) o
    fit_stands (fits_lam a) c x = fit_stands a (term_entry c (argument_part x)) (answer_part x)
    fit_stands (fits_lam_t a) c x = fit_stands a (mono_entry c) (under_mono x)
    fit_stands (fits_pair {o = o} {p = p} a b) c x = join o p (fit_stands a c (n_mono (left_mono_part x))) (fit_stands b c (n_mono (right_mono_part x)))
    fit_stands (fits_do a) c x = body_stands a c (spec_part x)
    fit_stands (fits_given i a q) c x = given_stands a c
    fit_stands (fits_at a) c x = fit_stands a c x

    fix_stands : {g : Context} {whole ty : TyTree} {fix r : FixTree} {o : List Obligation}
        → FitsFix env g whole fix ty r o
        → IsCanonicalContext (heads_of env) g
        → IsCanonicalTy (heads_of env) (standings g) whole
        → IsCanonicalTy (heads_of env) (standings g) ty
        → StandCanonical (heads_of env) o
    fix_stands {g = g} (fix_param {argument' = argument'} a) c y x =
        fix_stands a (term_entry c (argument_part x)) (ty_renamed y (keeps_suc (as_term (skeleton argument')) (standings g)))
        (answer_part x)
    fix_stands {g = g} (fix_body {whole = whole} a) c y x =
        body_stands a (term_entry c y) (triple_renamed (spec_part x) (keeps_suc (as_term (skeleton whole)) (standings g)))

    body_stands : {g : Context} {spec : TripleTree} {comp r : CompTree} {o : List Obligation}
        → FitsBody env g comp spec r o
        → IsCanonicalContext (heads_of env) g
        → IsCanonicalTriple (heads_of env) (standings g) spec
        → StandCanonical (heads_of env) o
    body_stands {g = g} (fits_body {o = o} a b) c (n_triple p m q) =
        join o _ (run_stands a c m (start_kept (standings g) p)) (heap_entry (heap_entry (term_entry c (n_mono m))), tt)

    run_stands : {g : Context} {mono : MonoTree} {state end : FormulaTree} {comp : CompTree} {zs : List MonoTree} {value : TermTree}
        {parts : List Part} {o : List Obligation}
        → Runs env g mono state comp end zs value parts o
        → IsCanonicalContext (heads_of env) g
        → IsCanonicalMono (standings g) mono
        → IsCanonicalFormula (heads_of env) (at_state (standings g)) state
        → StandCanonical (heads_of env) o
    run_stands (runs_ret a) c m s = fit_stands a c (n_mono m)
    run_stands {g = g} (runs_step {o = o} {p = p} a b) c m s =
        let x = canonical.moved env known c s a in
        join o p (move_stands a c s) (run_stands b (term_entry c (n_mono x.mono)) (mono_renamed m (keeps_suc (as_term sk_o) (standings g))) x.state)

    move_stands : {g : Context} {state next : FormulaTree} {step : StepTree} {mono : MonoTree} {part : Part} {o : List Obligation}
        → Moves env g state step mono next part o
        → IsCanonicalContext (heads_of env) g
        → IsCanonicalFormula (heads_of env) (at_state (standings g)) state
        → StandCanonical (heads_of env) o
    move_stands {g = g} (moves_alloc {mono = mono} {value' = value'} {o = o} {state = state} m a) c s =
        join o _ (fit_stands a c (n_mono (mono_canonical m))) (owing g (owed (move_alloc mono value') state) c)
    move_stands {g = g} (moves_get {mono = mono} {place' = place'} {o = o} {state = state} m a) c s =
        join o _ (fit_stands a c (n_mono n_m_loc)) (owing g (owed (move_get mono place') state) c)
    move_stands {g = g} (moves_set {mono = mono} {place' = place'} {o = o} {value' = value'} {p = p} {state = state} m a b) c s =
        join (o ++ p) _ (join o p (fit_stands a c (n_mono n_m_loc)) (fit_stands b c (n_mono (mono_canonical m))))
        (owing g (owed (move_set mono place' value') state) c)
    move_stands {g = g} (moves_free {mono = mono} {place' = place'} {o = o} {state = state} m a) c s =
        join o _ (fit_stands a c (n_mono n_m_loc)) (owing g (owed (move_free mono place') state) c)
    move_stands {g = g} (moves_run {o = o} {state = state} a) c s = join o _ (given_stands a c) (owing g (owed (move_run _) state) c)
    move_stands {g = g} (moves_if {o = o} {p = p} {q = q} m a b k d l) c s =
        let x = canonical.fitted env known c (n_mono n_m_bool) a in
        join (o ++ p) q
        (join o p (fit_stands a c (n_mono n_m_bool)) (run_stands b c (mono_canonical m) (branch_kept (standings g) true s x.term)))
        (run_stands d c (mono_canonical m) (branch_kept (standings g) false s x.term))
    move_stands {g = g} (moves_claim {claim' = claim'} {state = state} a) c s = owing g (owed (move_claim claim') state) c

  pub item_stands : {g : Context} {item : ItemTree} {added : Added} {o : List Obligation}
      → Derives env g item added o
      → IsCanonicalContext (heads_of env) g
      → StandCanonical (heads_of env) o
  item_stands (derives_abbreviation a) c = tt
  item_stands (derives_pred a b) c = tt
  item_stands (derives_def a b) c = fit_stands b c (canonical.formed_ty env known c a)
  item_stands (derives_val a h b) c = fit_stands b c (canonical.formed_ty env known c a)
  item_stands (derives_rec f a b i) c = tt

pub owed_canonical : OwedStandsCanonical
owed_canonical = record {
  given = λ env m g M N A o known c d. given_stands env known d c;
  fitting = λ env m g M N A o known c x d. fit_stands env known d c x;
  items = λ env g item added o known c d. item_stands env known d c;
}
