-- A canonical term that is put into a canonical tree gives a canonical tree: by the size of its skeleton,
-- and then by the tree.
use Rattle.std.proofs.Common.{◌≡◌, ◌≢◌, ℕ, zero, suc, ◌+◌, ◌<◌, ◌≤◌, List, [], ◌∷◌, Option, Some, ◌⊎◌, inl, inr, ◌∙◌, subst, arith}
use Rattle.htt_syntax.specs.Trees.{MonoTree, TyTree, TripleTree, TermTree, FixTree, CompTree, StepTree, FormulaTree, TermTrees, y_mono, y_fun, y_all, y_hoare}
use Rattle.htt_syntax.specs.Trees.{triple, t_var, t_val, t_app, t_inst, t_lam, t_lam_t, t_do, t_fix, t_word, t_bool, t_loc, t_unit, t_pair, t_fst, t_snd, t_not}
use Rattle.htt_syntax.specs.Trees.{t_bin, t_eq, t_sel, t_made, x_param, x_body, c_ret, c_step, s_run, f_tt, f_ff, f_and, f_or, f_imp, f_all_t, f_ex_t, f_all_h}
use Rattle.htt_syntax.specs.Trees.{f_ex_h, f_emp, f_cell, f_block, f_join, f_same, f_eq, f_rec, no_terms, more_terms}
use Rattle.theory_renaming.specs.Renaming.{rename_mono}
use Rattle.theory_canonical.specs.Skeletons.{Skeleton, sk_o, sk_c, sk_arrow, sk_all}
use Rattle.theory_canonical.specs.Folding.{folding}
use Rattle.theory_canonical.specs.Contexts.{Standing, as_mono, as_heap, as_term, Stands, Heads}
use Rattle.theory_canonical.specs.Canonical.{IsCanonical, IsNeutral, IsCanonicalTerms, IsCanonicalFix, IsCanonicalComp, IsCanonicalStep, IsCanonicalTy}
use Rattle.theory_canonical.specs.Canonical.{IsCanonicalTriple, IsCanonicalFormula, IsCanonicalMono, n_word, n_bool, n_loc, n_unit, n_pair, n_fst, n_snd, n_not}
use Rattle.theory_canonical.specs.Canonical.{n_bin, n_eq, n_sel, n_lam, n_lam_t, n_do, n_neutral, e_var, e_val, e_made, e_fix, e_app, e_inst, n_no_terms}
use Rattle.theory_canonical.specs.Canonical.{n_more_terms, n_param, n_body, n_ret, n_step, n_run, n_alloc, n_get, n_set, n_free, n_if, n_mono, n_fun, n_all}
use Rattle.theory_canonical.specs.Canonical.{n_hoare, n_triple, n_tt, n_ff, n_and, n_or, n_imp, n_all_t, n_ex_t, n_all_h, n_ex_h, n_emp, n_cell, n_block}
use Rattle.theory_canonical.specs.Canonical.{n_join, n_same, n_equal, n_rec}
use Rattle.theory_substitution.specs.Closing.{closing, up}
use Rattle.theory_substitution.specs.Monotypes.{put_mono_term}
use Rattle.theory_substitution.specs.Substitution.{Kept, Reduced, App, SubTerm, SubTerms, SubFix, SubComp, Bind, SubStep, SubTy, SubTriple, SubFormula, k_var}
use Rattle.theory_substitution.specs.Substitution.{k_val, k_made, k_fix, k_app, k_inst, r_var, r_app, r_inst, applied, u_kept, u_reduced, u_word, u_bool, u_loc}
use Rattle.theory_substitution.specs.Substitution.{u_unit, u_pair, u_fst, u_snd, u_not, u_bin, u_eq, u_sel, u_lam, u_lam_t, u_do, u_no_terms, u_more_terms}
use Rattle.theory_substitution.specs.Substitution.{u_x_param, u_x_body, u_ret, u_step, u_spliced, b_ret, b_step, u_run, u_s_alloc, u_s_get, u_s_set, u_s_free}
use Rattle.theory_substitution.specs.Substitution.{u_s_if, u_y_mono, u_y_fun, u_y_all, u_y_hoare, u_triple, u_f_tt, u_f_ff, u_f_and, u_f_or, u_f_imp, u_f_all_t}
use Rattle.theory_substitution.specs.Substitution.{u_f_ex_t, u_f_all_h, u_f_ex_h, u_f_emp, u_f_cell, u_f_block, u_f_join, u_f_same, u_f_eq, u_f_rec}
use Rattle.theory_substitution_total.specs.Insertion.{Inserted, ins_here, ins_next}
use Rattle.theory_substitution.proofs.Skeletons.{skeleton_kept}
use Rattle.theory_canonical.proofs.Renamed.{keeps_lift, keeps_suc, term_renamed, comp_renamed}
use Rattle.theory_substitution_total.proofs.Filled.{term_filled}
use Rattle.theory_substitution_total.proofs.Folded.{fst_folded, snd_folded, not_folded, bin_folded, eq_folded, sel_folded}
use Rattle.theory_substitution_total.proofs.Places.{place_of, skeleton_at, heap_stays, mono_closed, put_fills}

-- The measure: a skeleton is larger than each of its parts, and a computation larger than a monotype.
abbrev pub size : Skeleton → ℕ
size sk_o = 0
size sk_c = 1
size (sk_arrow s t) = suc (size s + size t)
size (sk_all s) = suc (size s)

-- A head with its arguments stays a head, or it is reduced to what has a smaller skeleton.
data Head (heads : Heads) (g : List Standing) (new : TermTree) (s : Skeleton) (x : ℕ) (term : TermTree) (t : Skeleton) : Type 0 where
  stays : (r : TermTree) → Kept new s x term r → IsNeutral heads g r t → Head heads g new s x term t
  reduces : (r : TermTree) → Reduced new s x term r t → IsCanonical heads g r t → size t ≤ size s → Head heads g new s x term t

-- A step stays a step, or it comes to run a computation.
data Next (heads : Heads) (g : List Standing) (new : TermTree) (s : Skeleton) (x : ℕ) : StepTree → Type 0 where
  steps : {step r : StepTree} → SubStep new s x step r → IsCanonicalStep heads g r → Next heads g new s x step
  runs : {term : TermTree} {mono : Option MonoTree} {comp : CompTree}
      → Reduced new s x term (t_do comp) sk_c
      → IsCanonicalComp heads g comp
      → 1 ≤ size s
      → Next heads g new s x (s_run term mono)

-- What is proved for all skeletons below a size.
pub record Smaller (heads : Heads) (k : ℕ) : Type 0 where
  pub term : (x : ℕ) (s t : Skeleton) (g whole : List Standing) (new term : TermTree)
      → size s < k
      → Inserted x (as_term s) g whole
      → IsCanonical heads g new s
      → IsCanonical heads whole term t
      → (r : TermTree) × SubTerm new s x term r × IsCanonical heads g r t
  pub comp : (x : ℕ) (s : Skeleton) (g whole : List Standing) (new : TermTree) (comp : CompTree)
      → size s < k
      → Inserted x (as_term s) g whole
      → IsCanonical heads g new s
      → IsCanonicalComp heads whole comp
      → (r : CompTree) × SubComp new s x comp r × IsCanonicalComp heads g r

head_done : {heads : Heads} {x : ℕ} {s : Skeleton} {g : List Standing} {new term : TermTree}
    → Head heads g new s x term sk_o
    → (r : TermTree) × SubTerm new s x term r × IsCanonical heads g r sk_o
head_done (stays r d e) = (r, u_kept d, n_neutral e)
head_done (reduces r d e l) = (r, u_reduced d, e)

var_head : {heads : Heads} {x n : ℕ} {s t : Skeleton} {g : List Standing} {new : TermTree}
    → IsCanonical heads g new s
    → ((n ≡ x) × Stands (as_term s ∷ []) zero (as_term t)) ⊎ ((n ≢ x) × Stands g (closing x n) (as_term t))
    → Head heads g new s x (t_var n) t
var_head {heads = heads} {x = x} {n = n} {s = s} {g = g} {new = new} d (inl (p, q)) =
    subst (λ u. Head heads g new s x (t_var n) u) (skeleton_at q) (reduces new (r_var p) d (omega arith))
var_head {x = x} {n = n} d (inr (p, q)) = stays (t_var (closing x n)) (k_var p) (e_var q)

inst_head : {heads : Heads} {x : ℕ} {s t : Skeleton} {g : List Standing} {new term : TermTree} {mono : MonoTree}
    → Head heads g new s x term (sk_all t)
    → IsCanonicalMono g (rename_mono (closing x) mono)
    → Head heads g new s x (t_inst term mono) t
inst_head {x = x} {mono = mono} (stays r d e) m = stays (t_inst r (rename_mono (closing x) mono)) (k_inst d) (e_inst e m)
inst_head {x = x} {mono = mono} (reduces r d (n_lam_t {body = body} e) le) m =
    reduces (put_mono_term (rename_mono (closing x) mono) zero body) (r_inst d) (term_filled e (put_fills ins_here m)) (omega (arith, le))

next_run : {heads : Heads} {x : ℕ} {s : Skeleton} {g : List Standing} {new term : TermTree} {mono : MonoTree}
    → Head heads g new s x term sk_c
    → IsCanonicalMono g (rename_mono (closing x) mono)
    → Next heads g new s x (s_run term (Some mono))
next_run (stays r d e) m = steps (u_run d) (n_run e m)
next_run (reduces r d (n_do e) le) m = runs d e le

module _ (heads : Heads) (k : ℕ) (ih : Smaller heads k) where
  pub spliced : {g : List Standing} {comp others : CompTree}
      → 0 < k
      → IsCanonicalComp heads g comp
      → IsCanonicalComp heads (as_term sk_o ∷ g) others
      → (r : CompTree) × Bind comp others r × IsCanonicalComp heads g r
  spliced {g = g} {others = others} l (n_ret {term = term} d) e =
      let r = ih.comp 0 sk_o g (as_term sk_o ∷ g) term others l ins_here d e in (r.0, b_ret (r.1), r.2)
  spliced {g = g} l (n_step {step = step} d f) e =
      let r = spliced l f (comp_renamed e (keeps_lift (as_term sk_o) (keeps_suc (as_term sk_o) g))) in
      (c_step step (r.0), b_step (r.1), n_step d (r.2))

  app_head : {x : ℕ} {s t u : Skeleton} {g : List Standing} {new term argument : TermTree}
      → size s < suc k
      → Head heads g new s x term (sk_arrow t u)
      → ((r : TermTree) × SubTerm new s x argument r × IsCanonical heads g r t)
      → Head heads g new s x (t_app term argument) u
  app_head l (stays r d e) a = stays (t_app r (a.0)) (k_app d (a.1)) (e_app e (a.2))
  app_head {t = t} {u = u} {g = g} l (reduces r d (n_lam {body = body} e) le) a =
      let q = ih.term 0 t u g (as_term t ∷ g) (a.0) body (omega (arith, l, le)) ins_here (a.2) e in
      reduces (q.0) (r_app d (a.1) (applied (q.1))) (q.2) (omega (arith, le))

  joined : {x : ℕ} {s : Skeleton} {g : List Standing} {new : TermTree} {step : StepTree} {others : CompTree}
      → size s < suc k
      → Next heads g new s x step
      → ((q : CompTree) × SubComp (up new) s (suc x) others q × IsCanonicalComp heads (as_term sk_o ∷ g) q)
      → (r : CompTree) × SubComp new s x (c_step step others) r × IsCanonicalComp heads g r
  joined l (steps {r = r} d e) q = (c_step r (q.0), u_step d (q.1), n_step e (q.2))
  joined l (runs d e le) q = let r = spliced (omega (arith, l, le)) e (q.2) in (r.0, u_spliced d (q.1) (r.1), r.2)

  mutual
    pub term_put : {x : ℕ} {s : Skeleton} {t : Skeleton} {g whole : List Standing} {new : TermTree} {term : TermTree}
        → size s < suc k
        → Inserted x (as_term s) g whole
        → IsCanonical heads g new s
        → IsCanonical heads whole term t
        → (r : TermTree) × SubTerm new s x term r × IsCanonical heads g r t
    term_put l i n (n_word {word = word}) = (t_word word, u_word, n_word)
    term_put l i n (n_bool {truth = truth}) = (t_bool truth, u_bool, n_bool)
    term_put l i n (n_loc {place = place}) = (t_loc place, u_loc, n_loc)
    term_put l i n n_unit = (t_unit, u_unit, n_unit)
    term_put l i n (n_pair d0 d1) =
        let r0 = term_put l i n d0 in let r1 = term_put l i n d1 in (t_pair (r0.0) (r1.0), u_pair (r0.1) (r1.1), n_pair (r0.2) (r1.2))
    term_put l i n (n_fst d0 d1) = let r0 = term_put l i n d0 in (folding (t_fst (r0.0)), u_fst (r0.1), fst_folded _ (r0.2))
    term_put l i n (n_snd d0 d1) = let r0 = term_put l i n d0 in (folding (t_snd (r0.0)), u_snd (r0.1), snd_folded _ (r0.2))
    term_put l i n (n_not d0 d1) = let r0 = term_put l i n d0 in (folding (t_not (r0.0)), u_not (r0.1), not_folded _ (r0.2))
    term_put l i n (n_bin {op = op} d0 d1 d2) =
        let r0 = term_put l i n d0 in
        let r1 = term_put l i n d1 in (folding (t_bin op (r0.0) (r1.0)), u_bin (r0.1) (r1.1), bin_folded op _ _ (r0.2) (r1.2))
    term_put {x = x} l i n (n_eq {mono = mono} d0 d1 d2 d3) =
        let r1 = term_put l i n d1 in
        let r2 = term_put l i n d2 in
        (folding (t_eq (rename_mono (closing x) mono) (r1.0) (r2.0)), u_eq (r1.1) (r2.1), eq_folded _ _ _ (mono_closed d0 i) (r1.2) (r2.2))
    term_put {x = x} l i n (n_sel {mono = mono} d0 d1 d2 d3 d4) =
        let r1 = term_put l i n d1 in
        let r2 = term_put l i n d2 in
        let r3 = term_put l i n d3 in (
          folding (t_sel (rename_mono (closing x) mono) (r1.0) (r2.0) (r3.0)),
          u_sel (r1.1) (r2.1) (r3.1),
          sel_folded _ _ _ _ (mono_closed d0 i) (r1.2) (r2.2) (r3.2),
        )
    term_put {g = g} l i n (n_lam {s = s} d0) =
        let r0 = term_put l (ins_next i) (term_renamed n (keeps_suc (as_term s) g)) d0 in (t_lam (r0.0), u_lam (r0.1), n_lam (r0.2))
    term_put {g = g} l i n (n_lam_t d0) =
        let r0 = term_put l (ins_next i) (term_renamed n (keeps_suc as_mono g)) d0 in (t_lam_t (r0.0), u_lam_t (r0.1), n_lam_t (r0.2))
    term_put l i n (n_do d0) = let r0 = comp_put l i n d0 in (t_do (r0.0), u_do (r0.1), n_do (r0.2))
    term_put l i n (n_neutral d) = head_done (head_put l i n d)

    head_put : {x : ℕ} {s t : Skeleton} {g whole : List Standing} {new term : TermTree}
        → size s < suc k
        → Inserted x (as_term s) g whole
        → IsCanonical heads g new s
        → IsNeutral heads whole term t
        → Head heads g new s x term t
    head_put l i n (e_var d) = var_head n (place_of i d)
    head_put l i n (e_val {number = number} d) = stays (t_val number) k_val (e_val d)
    head_put l i n (e_made {number = number} d e) = let r = terms_put l i n e in stays (t_made number (r.0)) (k_made (r.1)) (e_made d (r.2))
    head_put l i n (e_fix {at = at} d) = let r = fix_put l i n d in stays (t_fix at (r.0)) (k_fix (r.1)) (e_fix (r.2))
    head_put l i n (e_app d e) = app_head l (head_put l i n d) (term_put l i n e)
    head_put l i n (e_inst d e) = inst_head (head_put l i n d) (mono_closed e i)

    terms_put : {x : ℕ} {s : Skeleton} {g whole : List Standing} {new : TermTree} {term : TermTrees}
        → size s < suc k
        → Inserted x (as_term s) g whole
        → IsCanonical heads g new s
        → IsCanonicalTerms heads whole term
        → (r : TermTrees) × SubTerms new s x term r × IsCanonicalTerms heads g r
    terms_put l i n n_no_terms = (no_terms, u_no_terms, n_no_terms)
    terms_put l i n (n_more_terms d0 d1) =
        let r0 = term_put l i n d0 in
        let r1 = terms_put l i n d1 in (more_terms (r0.0) (r1.0), u_more_terms (r0.1) (r1.1), n_more_terms (r0.2) (r1.2))

    fix_put : {x : ℕ} {s : Skeleton} {t over : Skeleton} {g whole : List Standing} {new : TermTree} {term : FixTree}
        → size s < suc k
        → Inserted x (as_term s) g whole
        → IsCanonical heads g new s
        → IsCanonicalFix heads whole over term t
        → (r : FixTree) × SubFix new s x term r × IsCanonicalFix heads g over r t
    fix_put {g = g} l i n (n_param {s = s} d0 d1 d2) =
        let r0 = ty_put l i n d0 in
        let r2 = fix_put l (ins_next i) (term_renamed n (keeps_suc (as_term s) g)) d2 in
        (x_param (r0.0) (r2.0), u_x_param (r0.1) (r2.1), n_param (r0.2) (skeleton_kept (r0.1) ∙ d1) (r2.2))
    fix_put {g = g} l i n (n_body {whole = whole} d0 d1) =
        let r0 = triple_put l i n d0 in
        let r1 = comp_put l (ins_next i) (term_renamed n (keeps_suc (as_term whole) g)) d1 in
        (x_body (r0.0) (r1.0), u_x_body (r0.1) (r1.1), n_body (r0.2) (r1.2))

    pub comp_put : {x : ℕ} {s : Skeleton} {g whole : List Standing} {new : TermTree} {term : CompTree}
        → size s < suc k
        → Inserted x (as_term s) g whole
        → IsCanonical heads g new s
        → IsCanonicalComp heads whole term
        → (r : CompTree) × SubComp new s x term r × IsCanonicalComp heads g r
    comp_put l i n (n_ret d) = let r = term_put l i n d in (c_ret (r.0), u_ret (r.1), n_ret (r.2))
    comp_put {g = g} l i n (n_step d e) = joined l (step_put l i n d) (comp_put l (ins_next i) (term_renamed n (keeps_suc (as_term sk_o) g)) e)

    step_put : {x : ℕ} {s : Skeleton} {g whole : List Standing} {new : TermTree} {step : StepTree}
        → size s < suc k
        → Inserted x (as_term s) g whole
        → IsCanonical heads g new s
        → IsCanonicalStep heads whole step
        → Next heads g new s x step
    step_put l i n (n_run d e) = next_run (head_put l i n d) (mono_closed e i)
    step_put {x = x} l i n (n_alloc {mono = mono} d0 d1) = let r1 = term_put l i n d1 in steps (u_s_alloc (r1.1)) (n_alloc (mono_closed d0 i) (r1.2))
    step_put {x = x} l i n (n_get {mono = mono} d0 d1) = let r1 = term_put l i n d1 in steps (u_s_get (r1.1)) (n_get (mono_closed d0 i) (r1.2))
    step_put {x = x} l i n (n_set {mono = mono} d0 d1 d2) =
        let r1 = term_put l i n d1 in let r2 = term_put l i n d2 in steps (u_s_set (r1.1) (r2.1)) (n_set (mono_closed d0 i) (r1.2) (r2.2))
    step_put {x = x} l i n (n_free {mono = mono} d0 d1) = let r1 = term_put l i n d1 in steps (u_s_free (r1.1)) (n_free (mono_closed d0 i) (r1.2))
    step_put {x = x} l i n (n_if {mono = mono} d0 d1 d2 d3) =
        let r1 = term_put l i n d1 in
        let r2 = comp_put l i n d2 in
        let r3 = comp_put l i n d3 in steps (u_s_if (r1.1) (r2.1) (r3.1)) (n_if (mono_closed d0 i) (r1.2) (r2.2) (r3.2))

    pub ty_put : {x : ℕ} {s : Skeleton} {g whole : List Standing} {new : TermTree} {term : TyTree}
        → size s < suc k
        → Inserted x (as_term s) g whole
        → IsCanonical heads g new s
        → IsCanonicalTy heads whole term
        → (r : TyTree) × SubTy new s x term r × IsCanonicalTy heads g r
    ty_put {x = x} l i n (n_mono {mono = mono} d0) = (y_mono (rename_mono (closing x) mono), u_y_mono, n_mono (mono_closed d0 i))
    ty_put {g = g} l i n (n_fun {s = s} d0 d1 d2) =
        let r0 = ty_put l i n d0 in
        let r2 = ty_put l (ins_next i) (term_renamed n (keeps_suc (as_term s) g)) d2 in
        (y_fun (r0.0) (r2.0), u_y_fun (r0.1) (r2.1), n_fun (r0.2) (skeleton_kept (r0.1) ∙ d1) (r2.2))
    ty_put {g = g} l i n (n_all d0) = let r0 = ty_put l (ins_next i) (term_renamed n (keeps_suc as_mono g)) d0 in (y_all (r0.0), u_y_all (r0.1), n_all (r0.2))
    ty_put l i n (n_hoare d0) = let r0 = triple_put l i n d0 in (y_hoare (r0.0), u_y_hoare (r0.1), n_hoare (r0.2))

    triple_put : {x : ℕ} {s : Skeleton} {g whole : List Standing} {new : TermTree} {term : TripleTree}
        → size s < suc k
        → Inserted x (as_term s) g whole
        → IsCanonical heads g new s
        → IsCanonicalTriple heads whole term
        → (r : TripleTree) × SubTriple new s x term r × IsCanonicalTriple heads g r
    triple_put {x = x} {g = g} l i n (n_triple {mono = mono} d0 d1 d2) =
        let r0 = formula_put l (ins_next i) (term_renamed n (keeps_suc as_heap g)) d0 in
        let r2 =
        formula_put l (ins_next (ins_next (ins_next i)))
        (term_renamed (term_renamed (term_renamed n (keeps_suc (as_term sk_o) g)) (keeps_suc as_heap (as_term sk_o ∷ g)))
        (keeps_suc as_heap (as_heap ∷ as_term sk_o ∷ g))) d2 in
        (triple (r0.0) (rename_mono (closing x) mono) (r2.0), u_triple (r0.1) (r2.1), n_triple (r0.2) (mono_closed d1 i) (r2.2))

    pub formula_put : {x : ℕ} {s : Skeleton} {g whole : List Standing} {new : TermTree} {term : FormulaTree}
        → size s < suc k
        → Inserted x (as_term s) g whole
        → IsCanonical heads g new s
        → IsCanonicalFormula heads whole term
        → (r : FormulaTree) × SubFormula new s x term r × IsCanonicalFormula heads g r
    formula_put l i n n_tt = (f_tt, u_f_tt, n_tt)
    formula_put l i n n_ff = (f_ff, u_f_ff, n_ff)
    formula_put l i n (n_and d0 d1) =
        let r0 = formula_put l i n d0 in let r1 = formula_put l i n d1 in (f_and (r0.0) (r1.0), u_f_and (r0.1) (r1.1), n_and (r0.2) (r1.2))
    formula_put l i n (n_or d0 d1) =
        let r0 = formula_put l i n d0 in let r1 = formula_put l i n d1 in (f_or (r0.0) (r1.0), u_f_or (r0.1) (r1.1), n_or (r0.2) (r1.2))
    formula_put l i n (n_imp d0 d1) =
        let r0 = formula_put l i n d0 in let r1 = formula_put l i n d1 in (f_imp (r0.0) (r1.0), u_f_imp (r0.1) (r1.1), n_imp (r0.2) (r1.2))
    formula_put {x = x} {g = g} l i n (n_all_t {mono = mono} d0 d1) =
        let r1 = formula_put l (ins_next i) (term_renamed n (keeps_suc (as_term sk_o) g)) d1 in
        (f_all_t (rename_mono (closing x) mono) (r1.0), u_f_all_t (r1.1), n_all_t (mono_closed d0 i) (r1.2))
    formula_put {x = x} {g = g} l i n (n_ex_t {mono = mono} d0 d1) =
        let r1 = formula_put l (ins_next i) (term_renamed n (keeps_suc (as_term sk_o) g)) d1 in
        (f_ex_t (rename_mono (closing x) mono) (r1.0), u_f_ex_t (r1.1), n_ex_t (mono_closed d0 i) (r1.2))
    formula_put {g = g} l i n (n_all_h d0) =
        let r0 = formula_put l (ins_next i) (term_renamed n (keeps_suc as_heap g)) d0 in (f_all_h (r0.0), u_f_all_h (r0.1), n_all_h (r0.2))
    formula_put {g = g} l i n (n_ex_h d0) =
        let r0 = formula_put l (ins_next i) (term_renamed n (keeps_suc as_heap g)) d0 in (f_ex_h (r0.0), u_f_ex_h (r0.1), n_ex_h (r0.2))
    formula_put {x = x} l i n (n_emp {heap = heap} d0) = (f_emp (closing x heap), u_f_emp, n_emp (heap_stays i d0))
    formula_put {x = x} l i n (n_cell {mono = mono} {heap = heap} d0 d1 d2 d3) =
        let r2 = term_put l i n d2 in
        let r3 = term_put l i n d3 in (
          f_cell (rename_mono (closing x) mono) (closing x heap) (r2.0) (r3.0),
          u_f_cell (r2.1) (r3.1),
          n_cell (mono_closed d0 i) (heap_stays i d1) (r2.2) (r3.2),
        )
    formula_put {x = x} l i n (n_block {mono = mono} {heap = heap} d0 d1 d2) =
        let r2 = term_put l i n d2 in (
          f_block (rename_mono (closing x) mono) (closing x heap) (r2.0),
          u_f_block (r2.1),
          n_block (mono_closed d0 i) (heap_stays i d1) (r2.2),
        )
    formula_put {x = x} l i n (n_join {whole = whole} {left = left} {right = right} d0 d1 d2) = (
      f_join (closing x whole) (closing x left) (closing x right),
      u_f_join,
      n_join (heap_stays i d0) (heap_stays i d1) (heap_stays i d2),
    )
    formula_put {x = x} l i n (n_same {left = left} {right = right} d0 d1) =
        (f_same (closing x left) (closing x right), u_f_same, n_same (heap_stays i d0) (heap_stays i d1))
    formula_put {x = x} l i n (n_equal {mono = mono} d0 d1 d2) =
        let r1 = term_put l i n d1 in
        let r2 = term_put l i n d2 in
        (f_eq (rename_mono (closing x) mono) (r1.0) (r2.0), u_f_eq (r1.1) (r2.1), n_equal (mono_closed d0 i) (r1.2) (r2.2))
    formula_put {x = x} l i n (n_rec {number = number} {heap = heap} d0 d1 d2) =
        let r1 = term_put l i n d1 in
        let r2 = terms_put l i n d2 in
        (f_rec number (closing x heap) (r1.0) (r2.0), u_f_rec (r1.1) (r2.1), n_rec (heap_stays i d0) (r1.2) (r2.2))

pub smaller : (heads : Heads) (k : ℕ) → Smaller heads k
smaller heads zero = record { term = λ x s t g whole new term l. absurd (omega (arith, l)); comp = λ x s g whole new comp l. absurd (omega (arith, l)) }
smaller heads (suc k) = record {
  term = λ x s t g whole new term l i n d. term_put heads k (smaller heads k) l i n d;
  comp = λ x s g whole new comp l i n d. comp_put heads k (smaller heads k) l i n d;
}

pub applied_canonical : {heads : Heads} {g : List Standing} {function argument : TermTree} {s t : Skeleton}
    → IsCanonical heads g function (sk_arrow s t)
    → IsCanonical heads g argument s
    → (r : TermTree) × App function s argument r × IsCanonical heads g r t
applied_canonical {heads = heads} {s = s} (n_lam d) e =
    let r = term_put heads (size s) (smaller heads (size s)) (omega arith) ins_here e d in (r.0, applied (r.1), r.2)
