-- What the typing rules give is canonical: by the derivations.
use Rattle.std.proofs.Common.{zero, suc, List, [], ◌∷◌, ◌++◌, All, length, true, false, refl, sym, subst}
use Rattle.std.proofs.lemmas.List.Elements.{All-head, All-tail}
use Rattle.htt_syntax.specs.Trees.{MonoTree, TyTree, TripleTree, TermTree, FixTree, CompTree, StepTree, FormulaTree, TermTrees, triple, t_var, t_val, t_fix}
use Rattle.theory_states.specs.States.{move_alloc, move_get, move_set, move_free, move_run, move_claim}
use Rattle.theory_canonical.specs.Skeletons.{Skeleton, sk_o, skeleton}
use Rattle.theory_canonical.specs.Contexts.{Standing, as_term, Heads, KeepsStandings}
use Rattle.theory_canonical.specs.Canonical.{IsCanonicalMono, IsCanonical, IsCanonicalTerms, IsCanonicalFix, IsCanonicalComp, IsCanonicalTy, IsCanonicalTriple}
use Rattle.theory_canonical.specs.Canonical.{IsCanonicalFormula, n_m_word, n_m_bool, n_m_loc, n_m_unit, n_m_pair, n_word, n_bool, n_loc, n_unit, n_pair, n_lam}
use Rattle.theory_canonical.specs.Canonical.{n_lam_t, n_do, e_var, e_val, e_fix, n_no_terms, n_more_terms, n_param, n_body, n_alloc, n_get, n_set}
use Rattle.theory_canonical.specs.Canonical.{n_free, n_if, n_mono, n_fun, n_all, n_hoare, n_triple, n_tt, n_ff, n_and, n_or, n_imp, n_all_t, n_ex_t, n_all_h}
use Rattle.theory_canonical.specs.Canonical.{n_ex_h, n_emp, n_cell, n_block, n_join, n_same, n_equal, n_rec}
use Rattle.theory_canonical.proofs.Renamed.{keeps_suc, skeleton_stays, mono_renamed, ty_renamed, triple_renamed}
use Rattle.theory_canonical.proofs.Expanded.{expanded_canonical}
use Rattle.theory_substitution.specs.Closing.{closing}
use Rattle.theory_substitution.specs.Monotypes.{put_mono, put_mono_term}
use Rattle.theory_substitution.proofs.Skeletons.{skeleton_kept, skeleton_filled}
use Rattle.theory_substitution_total.specs.Insertion.{ins_here}
use Rattle.theory_substitution_total.proofs.Folded.{fst_folded, snd_folded, not_folded, bin_folded, eq_folded, sel_folded}
use Rattle.theory_substitution_total.proofs.Filled.{ty_filled, term_filled}
use Rattle.theory_substitution_total.proofs.Places.{put_fills}
use Rattle.theory_substitution_total.proofs.Results.{term_result, ty_result}
use Rattle.theory_typing.specs.Contexts.{Context, Environment, Obligation}
use Rattle.theory_typing.specs.Typing.{Mode, Part, FormsTy, FormsTriple, FormsFormula, FitsAll, Gives, Fits, FormsHeader, FitsFix, FitsBody, Runs, Moves}
use Rattle.theory_typing.specs.Typing.{forms_mono, forms_fun, forms_all, forms_hoare, forms_ty_at, forms_triple, forms_tt, forms_ff, forms_and, forms_or}
use Rattle.theory_typing.specs.Typing.{forms_imp, forms_all_t, forms_ex_t, forms_all_h, forms_ex_h, forms_emp, forms_cell, forms_block, forms_join, forms_same}
use Rattle.theory_typing.specs.Typing.{forms_eq, forms_rec, forms_formula_at, fits_none, fits_more, gives_var, gives_val, gives_def, gives_word, gives_bool}
use Rattle.theory_typing.specs.Typing.{gives_loc, gives_unit, gives_app, gives_inst, gives_ann, gives_pair, gives_fst, gives_snd, gives_bin, gives_not}
use Rattle.theory_typing.specs.Typing.{gives_eq, gives_sel, gives_fix, gives_at, fits_lam, fits_lam_t, fits_pair, fits_do, fits_given, fits_at, header_param}
use Rattle.theory_typing.specs.Typing.{header_body, fix_param, fix_body, fits_body, runs_ret, runs_step, moves_alloc, moves_get, moves_set, moves_free}
use Rattle.theory_typing.specs.Typing.{moves_run, moves_if, moves_claim}
use Rattle.theory_typing_canonical.specs.Environments.{standings, heads_of, IsCanonicalEnvironment, IsCanonicalContext, mono_entry, heap_entry, term_entry}
use Rattle.theory_typing_canonical.specs.Environments.{at_state, with_values, IsCanonicalRow}
use Rattle.theory_typing_canonical.specs.Laws.{AreCanonical}
use Rattle.theory_typing_canonical.proofs.StatesKept.{start_kept, owed_kept, after_kept, branch_kept, finish_kept, merge_kept, last_kept}
use Rattle.theory_typing_canonical.proofs.Entries.{put_here, none_owed, one_owed, argument_part, answer_part, under_mono, spec_part, spec_mono, left_mono_part}
use Rattle.theory_typing_canonical.proofs.Entries.{right_mono_part, mono_part, lam_body, lam_t_body, do_comp, owes_canonical, closed_mono, heap_stands}
use Rattle.theory_typing_canonical.proofs.Entries.{mono_canonical, op_mono_canonical, same_skeleton, entry_canonical, variable_stands, closed_ty, closed_term}
use Rattle.theory_typing_canonical.proofs.Entries.{head_of, IsCanonicalPart, AreCanonicalParts, assembled_canonical, owed_joined, values_inside, row_inside}

identity_kept : (g : List Standing) → KeepsStandings (λ n. n) g g
identity_kept g = record { at = λ n entry d. d }

-- what an end of a computation has
pub record AtEnd (heads :
    Heads) (g : List Standing) (end : FormulaTree) (zs : List MonoTree) (result : TermTree) (becomes : List Part) (owed : List Obligation) :
    Type 0 where
  pub state : IsCanonicalFormula heads (at_state (with_values (length zs) g)) end
  pub row : IsCanonicalRow zero g zs
  pub value : IsCanonical heads (with_values (length zs) g) result sk_o
  pub parts : AreCanonicalParts heads g becomes result
  pub all : AreCanonical heads owed

-- what follows a step
pub record AfterStep (heads : Heads) (g : List Standing) (t : MonoTree) (next : FormulaTree) (r : Part) (owed : List Obligation) : Type 0 where
  pub mono : IsCanonicalMono g t
  pub state : IsCanonicalFormula heads (at_state (as_term sk_o ∷ g)) next
  pub part : IsCanonicalPart heads g r
  pub all : AreCanonical heads owed

pub record Fitted (heads : Heads) (g : List Standing) (a : TyTree) (r : TermTree) (owed : List Obligation) : Type 0 where
  pub term : IsCanonical heads g r (skeleton a)
  pub all : AreCanonical heads owed

pub record Given (heads : Heads) (g : List Standing) (a : TyTree) (r : TermTree) (owed : List Obligation) : Type 0 where
  pub ty : IsCanonicalTy heads g a
  pub term : IsCanonical heads g r (skeleton a)
  pub all : AreCanonical heads owed

module _ (env : Environment) (known : IsCanonicalEnvironment env) where
  mutual
    unfolding skeleton with_values IsCanonicalRow AreCanonicalParts

    pub formed_ty : {g : Context} {t r : TyTree} → IsCanonicalContext (heads_of env) g → FormsTy env g t r → IsCanonicalTy (heads_of env) (standings g) r
    formed_ty c (forms_mono m) = n_mono (mono_canonical m)
    formed_ty c (forms_fun a b) = let x = formed_ty c a in n_fun x refl (formed_ty (term_entry c x) b)
    formed_ty c (forms_all a) = n_all (formed_ty (mono_entry c) a)
    formed_ty c (forms_hoare a) = n_hoare (formed_triple c a)
    formed_ty c (forms_ty_at a) = formed_ty c a

    pub formed_triple : {g : Context} {t r : TripleTree}
        → IsCanonicalContext (heads_of env) g
        → FormsTriple env g t r
        → IsCanonicalTriple (heads_of env) (standings g) r
    formed_triple c (forms_triple p m q) =
        n_triple (formed_formula (heap_entry c) p) (mono_canonical m)
        (formed_formula (heap_entry (heap_entry (term_entry c (n_mono (mono_canonical m))))) q)

    pub formed_formula : {g : Context} {t r : FormulaTree}
        → IsCanonicalContext (heads_of env) g
        → FormsFormula env g t r
        → IsCanonicalFormula (heads_of env) (standings g) r
    formed_formula c forms_tt = n_tt
    formed_formula c forms_ff = n_ff
    formed_formula c (forms_and a b) = n_and (formed_formula c a) (formed_formula c b)
    formed_formula c (forms_or a b) = n_or (formed_formula c a) (formed_formula c b)
    formed_formula c (forms_imp a b) = n_imp (formed_formula c a) (formed_formula c b)
    formed_formula c (forms_all_t m a) = n_all_t (mono_canonical m) (formed_formula (term_entry c (n_mono (mono_canonical m))) a)
    formed_formula c (forms_ex_t m a) = n_ex_t (mono_canonical m) (formed_formula (term_entry c (n_mono (mono_canonical m))) a)
    formed_formula c (forms_all_h a) = n_all_h (formed_formula (heap_entry c) a)
    formed_formula c (forms_ex_h a) = n_ex_h (formed_formula (heap_entry c) a)
    formed_formula c (forms_emp i) = n_emp (heap_stands i)
    formed_formula c (forms_cell m i a b) =
        n_cell (mono_canonical m) (heap_stands i) (fitted c (n_mono n_m_loc) a).term (fitted c (n_mono (mono_canonical m)) b).term
    formed_formula c (forms_block m i a) = n_block (mono_canonical m) (heap_stands i) (fitted c (n_mono n_m_loc) a).term
    formed_formula c (forms_join i k l) = n_join (heap_stands i) (heap_stands k) (heap_stands l)
    formed_formula c (forms_same i k) = n_same (heap_stands i) (heap_stands k)
    formed_formula c (forms_eq m a b) = n_equal (mono_canonical m) (fitted c (n_mono (mono_canonical m)) a).term (fitted c (n_mono (mono_canonical m)) b).term
    formed_formula c (forms_rec {number = number} {r = r} l i a n b) =
        n_rec (heap_stands i) (fitted c (n_mono n_m_word) a).term (all_fitted c (known.rec_params number r l) b)
    formed_formula c (forms_formula_at a) = formed_formula c a

    all_fitted : {g : Context} {t r : TermTrees} {params : List MonoTree}
        → IsCanonicalContext (heads_of env) g
        → All (IsCanonicalMono []) params
        → FitsAll env g t params r
        → IsCanonicalTerms (heads_of env) (standings g) r
    all_fitted c k fits_none = n_no_terms
    all_fitted {g = g} c k (fits_more a b) =
        n_more_terms (fitted c (n_mono (closed_mono (standings g) (All-head (IsCanonicalMono []) _ _ k))) a).term
        (all_fitted c (All-tail (IsCanonicalMono []) _ _ k) b)

    pub given : {m : Mode} {g : Context} {t r : TermTree} {a : TyTree} {o : List Obligation}
        → IsCanonicalContext (heads_of env) g
        → Gives env m g t a r o
        → Given (heads_of env) (standings g) a r o
    given {g = g} c (gives_var {index = index} d) =
        let x = entry_canonical c d in
        record {
          ty = x;
          term = expanded_canonical (t_var index) x (identity_kept (standings g)) (e_var (variable_stands d));
          all = none_owed (heads_of env);
        }
    given {g = g} c (gives_val {number = number} {ty = ty} d) =
        let x = closed_ty (standings g) (known.val_types number ty d) in
        record {
          ty = x;
          term = expanded_canonical (t_val number) x (identity_kept (standings g)) (e_val (head_of env.vals number ty d));
          all = none_owed (heads_of env);
        }
    given {g = g} c (gives_def {number = number} {definition = definition} d) = record {
      ty = closed_ty (standings g) (known.def_types number definition d);
      term = closed_term (standings g) (known.def_terms number definition d);
      all = none_owed (heads_of env);
    }
    given c (gives_word i) = record { ty = n_mono n_m_word; term = n_word; all = none_owed (heads_of env) }
    given c gives_bool = record { ty = n_mono n_m_bool; term = n_bool; all = none_owed (heads_of env) }
    given c (gives_loc i) = record { ty = n_mono n_m_loc; term = n_loc; all = none_owed (heads_of env) }
    given c gives_unit = record { ty = n_mono n_m_unit; term = n_unit; all = none_owed (heads_of env) }
    given {g = g} c (gives_app {answer = answer} {inner = inner} {o = o} {p = p} {answer' = answer'} {inner' = inner'} k v s t) =
        let x = given c k in
        let y = fitted c (argument_part x.ty) v in
        let put = put_here y.term in
        record {
          ty = ty_result put (answer_part x.ty) s;
          term = subst (λ (q : Skeleton). IsCanonical (heads_of env) (standings g) inner' q) (sym (skeleton_kept s)) (term_result put (lam_body x.term) t);
          all = owed_joined o p x.all y.all;
        }
    given {g = g} c (gives_inst {ty = ty} {inner = inner} {mono = mono} k f) =
        let x = given c k in
        let fills = put_fills ins_here (mono_canonical f) in
        record {
          ty = ty_filled (under_mono x.ty) fills;
          term =
              subst (λ (q : Skeleton). IsCanonical (heads_of env) (standings g) (put_mono_term mono zero inner) q)
              (sym (skeleton_filled (put_mono mono zero) (closing zero) ty)) (term_filled (lam_t_body x.term) fills);
          all = x.all;
        }
    given c (gives_ann a b) = let x = formed_ty c a in let y = fitted c x b in record { ty = x; term = y.term; all = y.all }
    given c (gives_pair {o = o} {p = p} a b) =
        let x = given c a in
        let y = given c b in
        record { ty = n_mono (n_m_pair (mono_part x.ty) (mono_part y.ty)); term = n_pair x.term y.term; all = owed_joined o p x.all y.all }
    given c (gives_fst a) = let x = given c a in record { ty = n_mono (left_mono_part x.ty); term = fst_folded _ x.term; all = x.all }
    given c (gives_snd a) = let x = given c a in record { ty = n_mono (right_mono_part x.ty); term = snd_folded _ x.term; all = x.all }
    given c (gives_bin {o = o} {p = p} {op = op} a b) =
        let x = fitted c (n_mono n_m_word) a in
        let y = fitted c (n_mono n_m_word) b in
        record { ty = n_mono (op_mono_canonical op); term = bin_folded op _ _ x.term y.term; all = owed_joined o p x.all y.all }
    given c (gives_not a) = let x = fitted c (n_mono n_m_bool) a in record { ty = n_mono n_m_bool; term = not_folded _ x.term; all = x.all }
    given c (gives_eq {o = o} {p = p} m i a b) =
        let x = fitted c (n_mono (mono_canonical m)) a in
        let y = fitted c (n_mono (mono_canonical m)) b in
        record { ty = n_mono n_m_bool; term = eq_folded _ _ _ (mono_canonical m) x.term y.term; all = owed_joined o p x.all y.all }
    given c (gives_sel {o = o} {p = p} {q = q} m a b d) =
        let x = fitted c (n_mono n_m_bool) a in
        let y = fitted c (n_mono (mono_canonical m)) b in
        let z = fitted c (n_mono (mono_canonical m)) d in
        record {
          ty = n_mono (mono_canonical m);
          term = sel_folded _ _ _ _ (mono_canonical m) x.term y.term z.term;
          all = owed_joined (o ++ p) q (owed_joined o p x.all y.all) z.all;
        }
    given {g = g} c (gives_fix {fix' = fix'} {at = at} a b) =
        let x = header c a in
        let y = fixed c x x b in
        record { ty = x; term = expanded_canonical (t_fix at fix') x (identity_kept (standings g)) (e_fix y.0); all = y.1 }
    given c (gives_at a) = given c a

    pub fitted : {m : Mode} {g : Context} {t r : TermTree} {a : TyTree} {o : List Obligation}
        → IsCanonicalContext (heads_of env) g
        → IsCanonicalTy (heads_of env) (standings g) a
        → Fits env m g t a r o
        → Fitted (heads_of env) (standings g) a r o
    fitted c k (fits_lam a) = let x = fitted (term_entry c (argument_part k)) (answer_part k) a in record { term = n_lam x.term; all = x.all }
    fitted c k (fits_lam_t a) = let x = fitted (mono_entry c) (under_mono k) a in record { term = n_lam_t x.term; all = x.all }
    fitted c k (fits_pair {o = o} {p = p} a b) =
        let x = fitted c (n_mono (left_mono_part k)) a in
        let y = fitted c (n_mono (right_mono_part k)) b in record { term = n_pair x.term y.term; all = owed_joined o p x.all y.all }
    fitted c k (fits_do a) = let x = body c (spec_part k) a in record { term = n_do x.0; all = x.1 }
    fitted {g = g} c k (fits_given {ty' = ty'} {term' = term'} {ty = ty} i a e) =
        let x = given c a in
        record {
          term = subst (λ (q : Skeleton). IsCanonical (heads_of env) (standings g) term' q) (same_skeleton ty' ty e) x.term;
          all = x.all;
        }
    fitted c k (fits_at a) = fitted c k a

    pub header : {g : Context} {t : FixTree} {r : TyTree}
        → IsCanonicalContext (heads_of env) g
        → FormsHeader env g t r
        → IsCanonicalTy (heads_of env) (standings g) r
    header c (header_param a b) = let x = formed_ty c a in n_fun x refl (header (term_entry c x) b)
    header c (header_body a) = n_hoare (formed_triple c a)

    pub fixed : {g : Context} {w a : TyTree} {t r : FixTree} {o : List Obligation}
        → IsCanonicalContext (heads_of env) g
        → IsCanonicalTy (heads_of env) (standings g) w
        → IsCanonicalTy (heads_of env) (standings g) a
        → FitsFix env g w t a r o
        → IsCanonicalFix (heads_of env) (standings g) (skeleton w) r (skeleton a) × AreCanonical (heads_of env) o
    fixed {g = g} c w k (fix_param {argument' = argument'} {whole = whole} {answer = answer} {rest' = rest'} a) =
        let inner = as_term (skeleton argument') in
        let x = fixed (term_entry c (argument_part k)) (ty_renamed w (keeps_suc inner (standings g))) (answer_part k) a in (
          n_param (argument_part k) refl
              (subst (λ (q : Skeleton). IsCanonicalFix (heads_of env) (inner ∷ standings g) q rest' (skeleton answer))
              (skeleton_stays suc whole) x.0),
          x.1,
        )
    fixed {g = g} c w k (fix_body {whole = whole} a) =
        let x = body (term_entry c w) (triple_renamed (spec_part k) (keeps_suc (as_term (skeleton whole)) (standings g))) a in
        (n_body (spec_part k) x.0, x.1)

    pub body : {g : Context} {s : TripleTree} {t r : CompTree} {o : List Obligation}
        → IsCanonicalContext (heads_of env) g
        → IsCanonicalTriple (heads_of env) (standings g) s
        → FitsBody env g t s r o
        → IsCanonicalComp (heads_of env) (standings g) r × AreCanonical (heads_of env) o
    body {g = g} c (n_triple p m q) (fits_body {zs = zs} {o = o} a b) =
        let x = ran c m (start_kept (standings g) p) a in
        (assembled_canonical x.parts b, owed_joined o _ x.all (one_owed _ (last_kept _ (finish_kept (standings g) zs x.state x.row m x.value) q)))

    pub ran : {g : Context} {m : MonoTree} {s x : FormulaTree} {t : CompTree} {zs : List MonoTree} {v : TermTree} {r : List Part}
        {o : List Obligation}
        → IsCanonicalContext (heads_of env) g
        → IsCanonicalMono (standings g) m
        → IsCanonicalFormula (heads_of env) (at_state (standings g)) s
        → Runs env g m s t x zs v r o
        → AtEnd (heads_of env) (standings g) x zs v r o
    ran c m s (runs_ret a) = let x = fitted c (n_mono m) a in record { state = s; row = tt; value = x.term; parts = x.term; all = x.all }
    ran {g = g} c m s (runs_step {o = o} {end = end} {zs = zs} {last_value = last_value} {p = p} a b) =
        let x = moved c s a in
        let y = ran (term_entry c (n_mono x.mono)) (mono_renamed m (keeps_suc (as_term sk_o) (standings g))) x.state b in
        let e = values_inside (length zs) (standings g) in
        record {
          state = subst (λ (h : List Standing). IsCanonicalFormula (heads_of env) (at_state h) end) e y.state;
          row = (x.mono, row_inside zero (standings g) zs y.row);
          value = subst (λ (h : List Standing). IsCanonical (heads_of env) h last_value sk_o) e y.value;
          parts = (x.part, y.parts);
          all = owed_joined o p x.all y.all;
        }

    pub moved : {g : Context} {s : FormulaTree} {t : StepTree} {m : MonoTree} {x : FormulaTree} {r : Part} {o : List Obligation}
        → IsCanonicalContext (heads_of env) g
        → IsCanonicalFormula (heads_of env) (at_state (standings g)) s
        → Moves env g s t m x r o
        → AfterStep (heads_of env) (standings g) m x r o
    moved {g = g} c s (moves_alloc {mono = mono} {value' = value'} {o = o} m a) =
        let x = fitted c (n_mono (mono_canonical m)) a in
        let step = move_alloc mono value' in
        record {
          mono = n_m_loc;
          state = after_kept (standings g) step (mono_canonical m, x.term) s;
          part = n_alloc (mono_canonical m) x.term;
          all = owed_joined o _ x.all (owes_canonical g _ (owed_kept (standings g) step (mono_canonical m, x.term) s));
        }
    moved {g = g} c s (moves_get {mono = mono} {place' = place'} {o = o} m a) =
        let x = fitted c (n_mono n_m_loc) a in
        let step = move_get mono place' in
        record {
          mono = mono_canonical m;
          state = after_kept (standings g) step (mono_canonical m, x.term) s;
          part = n_get (mono_canonical m) x.term;
          all = owed_joined o _ x.all (owes_canonical g _ (owed_kept (standings g) step (mono_canonical m, x.term) s));
        }
    moved {g = g} c s (moves_set {mono = mono} {place' = place'} {o = o} {value' = value'} {p = p} m a b) =
        let x = fitted c (n_mono n_m_loc) a in
        let y = fitted c (n_mono (mono_canonical m)) b in
        let step = move_set mono place' value' in
        record {
          mono = n_m_unit;
          state = after_kept (standings g) step (mono_canonical m, x.term, y.term) s;
          part = n_set (mono_canonical m) x.term y.term;
          all =
              owed_joined (o ++ p) _ (owed_joined o p x.all y.all)
              (owes_canonical g _ (owed_kept (standings g) step (mono_canonical m, x.term, y.term) s));
        }
    moved {g = g} c s (moves_free {mono = mono} {place' = place'} {o = o} m a) =
        let x = fitted c (n_mono n_m_loc) a in
        let step = move_free mono place' in
        record {
          mono = n_m_unit;
          state = after_kept (standings g) step (mono_canonical m, x.term) s;
          part = n_free (mono_canonical m) x.term;
          all = owed_joined o _ x.all (owes_canonical g _ (owed_kept (standings g) step (mono_canonical m, x.term) s));
        }
    moved {g = g} c s (moves_run {pre = pre} {mono = mono} {post = post} {o = o} a) =
        let x = given c a in
        let spec = spec_part x.ty in
        let step = move_run (triple pre mono post) in
        record {
          mono = spec_mono spec;
          state = after_kept (standings g) step spec s;
          part = do_comp x.term;
          all = owed_joined o _ x.all (owes_canonical g _ (owed_kept (standings g) step spec s));
        }
    moved {g = g} c s (moves_if {o = o} {zs = zs} {p = p} {ys = ys} {q = q} m a b k d l) =
        let x = fitted c (n_mono n_m_bool) a in
        let y = ran c (mono_canonical m) (branch_kept (standings g) true s x.term) b in
        let z = ran c (mono_canonical m) (branch_kept (standings g) false s x.term) d in
        record {
          mono = mono_canonical m;
          state =
              merge_kept _ (finish_kept (standings g) zs y.state y.row (mono_canonical m) y.value)
              (finish_kept (standings g) ys z.state z.row (mono_canonical m) z.value);
          part = n_if (mono_canonical m) x.term (assembled_canonical y.parts k) (assembled_canonical z.parts l);
          all = owed_joined (o ++ p) q (owed_joined o p x.all y.all) z.all;
        }
    moved {g = g} c s (moves_claim {claim' = claim'} a) =
        let x = formed_formula (heap_entry (heap_entry c)) a in
        record {
          mono = n_m_unit;
          state = after_kept (standings g) (move_claim claim') x s;
          part = tt;
          all = owes_canonical g _ (owed_kept (standings g) (move_claim claim') x s);
        }
