-- What the typing rules make of a text is formed in a canonical environment and context, by the derivation.
use Rattle.std.proofs.Common.{◌≡◌, ℕ, zero, suc, List, [], ◌∷◌, All, refl, sym, ap, ◌∙◌, subst}
use Rattle.std.proofs.lemmas.List.Elements.{All-head, All-tail}
use Rattle.htt_syntax.specs.Trees.{MonoTree, TyTree, TripleTree, TermTree, FixTree, CompTree, StepTree, FormulaTree, TermTrees, m_unit, y_fun}
use Rattle.htt_syntax.specs.Trees.{y_all, y_hoare, triple, t_unit, t_lam, t_lam_t}
use Rattle.theory_renaming.specs.Renaming.{rename_mono, rename_ty}
use Rattle.theory_truth.specs.Predicates.{RecTree}
use Rattle.theory_canonical.specs.Skeletons.{Skeleton, sk_o, skeleton}
use Rattle.theory_canonical.specs.Contexts.{as_term}
use Rattle.theory_canonical.specs.Canonical.{IsCanonicalMono, n_m_word, n_m_bool, n_m_loc, n_m_unit, IsCanonicalTy, n_mono}
use Rattle.theory_canonical.proofs.Renamed.{keeps_suc, mono_renamed, ty_renamed}
use Rattle.theory_substitution.specs.Closing.{closing}
use Rattle.theory_substitution.specs.Monotypes.{Filling, put_mono, put_mono_ty, put_mono_term}
use Rattle.theory_substitution.specs.Substitution.{SubTy, SubTerm}
use Rattle.theory_typing.specs.Contexts.{Context, Environment, Obligation, IsMonoEntry, mono_here, mono_there, IsHeapEntry, heap_here, heap_there}
use Rattle.theory_typing.specs.Contexts.{FormsMono, forms_word, forms_bool, forms_loc, forms_unit, forms_pair, forms_var}
use Rattle.theory_typing.specs.Typing.{Mode, Part, part_step, part_comp, part_unit, Joined, joined_step, joined_comp, joined_unit, FormsTy, forms_mono}
use Rattle.theory_typing.specs.Typing.{forms_fun, forms_all, forms_hoare, forms_ty_at, FormsTriple, forms_triple, FormsFormula, forms_tt, forms_ff, forms_and}
use Rattle.theory_typing.specs.Typing.{forms_or, forms_imp, forms_all_t, forms_ex_t, forms_all_h, forms_ex_h, forms_emp, forms_cell, forms_block, forms_join}
use Rattle.theory_typing.specs.Typing.{forms_same, forms_eq, forms_rec, forms_formula_at, FitsAll, fits_none, fits_more, Gives, gives_var, gives_val, gives_def}
use Rattle.theory_typing.specs.Typing.{gives_word, gives_bool, gives_loc, gives_unit, gives_app, gives_inst, gives_ann, gives_pair, gives_fst, gives_snd}
use Rattle.theory_typing.specs.Typing.{gives_bin, gives_not, gives_eq, gives_sel, gives_fix, gives_at, Fits, fits_lam, fits_lam_t, fits_pair, fits_do}
use Rattle.theory_typing.specs.Typing.{fits_given, fits_at, FormsHeader, header_param, header_body, FitsFix, fix_param, fix_body, FitsBody, fits_body, Runs}
use Rattle.theory_typing.specs.Typing.{runs_ret, runs_step, Moves, moves_alloc, moves_get, moves_set, moves_free, moves_run, moves_if, moves_claim}
use Rattle.theory_typing.specs.Typing.{Assembled, assembled_end, assembled_part}
use Rattle.theory_formed_shapes.specs.Shapes.{Shape, sh_mono, fill_shape, renaming_of, up_shape, shape_of, in_term, Shapes, shapes_of}
use Rattle.theory_formed_shapes.specs.Shapes.{IsMonoAt, mono_at_zero, mono_further, IsHeapAt, heap_at_zero, heap_further}
use Rattle.theory_formed_shapes.specs.Formed.{FileShapes, file_shapes, IsFormedMono, z_m_word, z_m_bool, z_m_loc, z_m_unit, z_m_pair, z_m_var, IsFormedTerm}
use Rattle.theory_formed_shapes.specs.Formed.{z_word, z_bool, z_loc, z_unit, z_pair, z_lam, z_lam_t, z_do, w_var, w_val, w_fix, IsFormedTerms, z_no_terms}
use Rattle.theory_formed_shapes.specs.Formed.{z_more_terms, IsFormedFix, z_param, z_body, IsFormedComp, z_ret, z_step, IsFormedStep, z_alloc, z_get, z_set}
use Rattle.theory_formed_shapes.specs.Formed.{z_free, z_if, IsFormedTy, z_mono, z_fun, z_all, z_hoare, IsFormedTriple, z_triple, IsFormedFormula, z_tt, z_ff}
use Rattle.theory_formed_shapes.specs.Formed.{z_and, z_or, z_imp, z_all_t, z_ex_t, z_all_h, z_ex_h, z_emp, z_cell, z_block, z_join, z_same, z_equal, z_rec}
use Rattle.theory_formed_shapes.specs.Formed.{IsClosedFile}
use Rattle.theory_formed_shapes.proofs.Fillings.{put_is_first, up_mono_closed}
use Rattle.theory_formed_shapes.proofs.ShapesOf.{shape_filled, shape_renamed, shape_put, shape_plain, entry_has_shape}
use Rattle.theory_formed_shapes.proofs.Folded.{fst_folded, snd_folded, not_folded, bin_folded, eq_folded, sel_folded}
use Rattle.theory_formed_substitution.proofs.Put.{puts_first, lam_body, do_comp, instance_formed, term_put, comp_put, bind_formed}
use Rattle.theory_formed_shapes.specs.Environments.{DefinitionsFormed}
use Rattle.theory_formed_shapes.proofs.Monos.{answer_monos, formed_monos}
use Rattle.theory_typing_canonical.specs.Environments.{standings, heads_of, IsCanonicalEnvironment, IsCanonicalContext, mono_entry, heap_entry, term_entry}
use Rattle.theory_typing_canonical.proofs.Entries.{argument_part, answer_part, under_mono, spec_part, spec_mono, left_mono_part, right_mono_part, closed_mono}
use Rattle.theory_typing_canonical.proofs.Entries.{mono_canonical, entry_canonical, closed_ty}
use Rattle.theory_typing_canonical.proofs.Typed as canonical
use Rattle.theory_formed_canonical.proofs.Bare.{type_bare}
use Rattle.theory_formed_canonical.proofs.Monos.{canonical_monos}
use Rattle.theory_formed_typing.proofs.Closed.{up_dropped, map_get, canonical_closed, closed_term}
use Rattle.theory_formed_typing.proofs.Expanded.{eta_formed}

-- entries
mono_at : {g : Context} {n : ℕ} → IsMonoEntry g n → IsMonoAt (shapes_of g) n
mono_at mono_here = mono_at_zero
mono_at (mono_there d) = mono_further (mono_at d)

heap_at : {g : Context} {n : ℕ} → IsHeapEntry g n → IsHeapAt (shapes_of g) n
heap_at heap_here = heap_at_zero
heap_at (heap_there d) = heap_further (heap_at d)

pub mono_formed : {g : Context} {t : MonoTree} → FormsMono g t → IsFormedMono (shapes_of g) t
mono_formed forms_word = z_m_word
mono_formed forms_bool = z_m_bool
mono_formed forms_loc = z_m_loc
mono_formed forms_unit = z_m_unit
mono_formed (forms_pair p q) = z_m_pair (mono_formed p) (mono_formed q)
mono_formed (forms_var i) = z_m_var (mono_at i)

-- what a step becomes
abbrev PartFormed : FileShapes → Shapes → Part → MonoTree → Type 0
PartFormed file g (part_step step) t = IsFormedStep file g step t
PartFormed file g (part_comp comp) t = IsFormedComp file g comp t
PartFormed file g part_unit t = t ≡ m_unit

unit_put : {file : FileShapes} {g : Shapes} → IsFormedTerm file g t_unit (sh_mono m_unit)
unit_put = z_unit

joined_formed : {file : FileShapes} {g : Shapes} {part : Part} {others R : CompTree} {t u : MonoTree}
    → Joined part others R
    → IsClosedFile file
    → PartFormed file g part t
    → IsFormedComp file (in_term (sh_mono t) ∷ g) others (rename_mono suc u)
    → IsFormedComp file g R u
joined_formed joined_step c d e = z_step d e
joined_formed (joined_comp b) c d e = bind_formed b d e c
joined_formed {file = file} {g = g} {R = R} {u = u} (joined_unit {others = others} a) c d e =
    subst (IsFormedComp file g R) (up_mono_closed u)
    (comp_put a (subst (λ (v : MonoTree). IsFormedComp file (in_term (sh_mono v) ∷ g) others (rename_mono suc u)) d e) c
    (puts_first unit_put))

module _ (env : Environment) (known : IsCanonicalEnvironment env) (defs : DefinitionsFormed env) where
  closed : IsClosedFile (file_shapes env)
  closed = canonical_closed known

  -- a function's body at an argument, where the answer's type has the argument put in
  app_given : (g : Context) {A B B' : TyTree} {inner value inner' : TermTree} {sk : Skeleton}
      → IsCanonicalTy (heads_of env) (standings g) (y_fun A B)
      → IsFormedTerm (file_shapes env) (shapes_of g) (t_lam inner) (shape_of (y_fun A B))
      → IsFormedTerm (file_shapes env) (shapes_of g) value (shape_of A)
      → SubTy value sk zero B B'
      → SubTerm value sk zero inner inner'
      → IsFormedTerm (file_shapes env) (shapes_of g) inner' (shape_of B')
  unfolding shape_of
  app_given g {inner' = inner'} d f v types terms =
      let put = term_put terms (lam_body f) closed (puts_first v) in
      let q = ap (fill_shape (renaming_of (closing zero))) (up_dropped (answer_monos (canonical_monos g d))) ∙ sym (shape_put types) in
      subst (IsFormedTerm (file_shapes env) (shapes_of g) inner') q put

  inst_given : {g : Shapes} (B : TyTree) {inner : TermTree} {t : MonoTree}
      → IsFormedMono g t
      → IsFormedTerm (file_shapes env) g (t_lam_t inner) (shape_of (y_all B))
      → IsFormedTerm (file_shapes env) g (put_mono_term t zero inner) (shape_of (put_mono_ty t zero B))
  unfolding shape_of
  inst_given {g = g} B {inner = inner} {t = t} m f =
      let q = ap (λ (f : Filling). fill_shape f (shape_of B)) (sym (put_is_first t)) ∙ sym (shape_filled (put_mono t zero) (closing zero) B) in
      subst (IsFormedTerm (file_shapes env) g (put_mono_term t zero inner)) q (instance_formed {a = shape_of B} f m closed)

  -- the monotype of a formed triple, as it stands in the context
  triple_mono : (g : Context) {pre post : FormulaTree} {t : MonoTree}
      → IsFormedTriple (file_shapes env) (shapes_of g) (triple pre t post)
      → IsCanonicalMono (standings g) t
  triple_mono g {pre = pre} {post = post} {t = t} d = spec_mono (spec_part (type_bare env g (y_hoare (triple pre t post)) (z_hoare d)))

  mutual
    unfolding shape_of rename_ty skeleton

    pub formed_ty : {g : Context} {A R : TyTree} → FormsTy env g A R → IsCanonicalContext (heads_of env) g → IsFormedTy (file_shapes env) (shapes_of g) R
    formed_ty (forms_mono p) k = z_mono (mono_formed p)
    formed_ty (forms_fun p q) k = z_fun (formed_ty p k) (formed_ty q (term_entry k (canonical.formed_ty env known k p)))
    formed_ty (forms_all p) k = z_all (formed_ty p (mono_entry k))
    formed_ty (forms_hoare p) k = z_hoare (formed_triple p k)
    formed_ty (forms_ty_at p) k = formed_ty p k

    formed_triple : {g : Context} {spec R : TripleTree}
        → FormsTriple env g spec R
        → IsCanonicalContext (heads_of env) g
        → IsFormedTriple (file_shapes env) (shapes_of g) R
    formed_triple (forms_triple p m q) k =
        z_triple (formed_formula p (heap_entry k)) (mono_formed m)
        (formed_formula q (heap_entry (heap_entry (term_entry k (n_mono (mono_canonical m))))))

    pub formed_formula : {g : Context} {F R : FormulaTree}
        → FormsFormula env g F R
        → IsCanonicalContext (heads_of env) g
        → IsFormedFormula (file_shapes env) (shapes_of g) R
    formed_formula forms_tt k = z_tt
    formed_formula forms_ff k = z_ff
    formed_formula (forms_and p q) k = z_and (formed_formula p k) (formed_formula q k)
    formed_formula (forms_or p q) k = z_or (formed_formula p k) (formed_formula q k)
    formed_formula (forms_imp p q) k = z_imp (formed_formula p k) (formed_formula q k)
    formed_formula (forms_all_t m p) k = z_all_t (mono_formed m) (formed_formula p (term_entry k (n_mono (mono_canonical m))))
    formed_formula (forms_ex_t m p) k = z_ex_t (mono_formed m) (formed_formula p (term_entry k (n_mono (mono_canonical m))))
    formed_formula (forms_all_h p) k = z_all_h (formed_formula p (heap_entry k))
    formed_formula (forms_ex_h p) k = z_ex_h (formed_formula p (heap_entry k))
    formed_formula (forms_emp i) k = z_emp (heap_at i)
    formed_formula (forms_cell m i p q) k = z_cell (mono_formed m) (heap_at i) (fit_term p k (n_mono n_m_loc)) (fit_term q k (n_mono (mono_canonical m)))
    formed_formula (forms_block m i p) k = z_block (mono_formed m) (heap_at i) (fit_term p k (n_mono n_m_loc))
    formed_formula (forms_join i j l) k = z_join (heap_at i) (heap_at j) (heap_at l)
    formed_formula (forms_same i j) k = z_same (heap_at i) (heap_at j)
    formed_formula (forms_eq m p q) k =
        z_equal (mono_formed m) (fit_term p k (n_mono (mono_canonical m))) (fit_term q k (n_mono (mono_canonical m)))
    formed_formula (forms_rec {number = number} {r = r} e i p many ps) k =
        z_rec (map_get (λ (r : RecTree). r.params) env.recs number r e) (heap_at i) (fit_term p k (n_mono n_m_word))
        (all_formed ps k (known.rec_params number r e))
    formed_formula (forms_formula_at p) k = formed_formula p k

    all_formed : {g : Context} {Ms Ns : TermTrees} {params : List MonoTree}
        → FitsAll env g Ms params Ns
        → IsCanonicalContext (heads_of env) g
        → All (IsCanonicalMono []) params
        → IsFormedTerms (file_shapes env) (shapes_of g) Ns params
    all_formed fits_none k d = z_no_terms
    all_formed {g = g} (fits_more {mono = t} {params = ts} p q) k d =
        z_more_terms (fit_term p k (n_mono (closed_mono (standings g) (All-head (IsCanonicalMono []) t ts d))))
        (all_formed q k (All-tail (IsCanonicalMono []) t ts d))

    pub given_term : {m : Mode} {g : Context} {M N : TermTree} {A : TyTree} {o : List Obligation}
        → Gives env m g M A N o
        → IsCanonicalContext (heads_of env) g
        → IsFormedTerm (file_shapes env) (shapes_of g) N (shape_of A)
    given_term {g = g} (gives_var i) k = eta_formed (canonical_monos g (entry_canonical k i)) closed (w_var (entry_has_shape i))
    given_term {g = g} (gives_val {number = number} {ty = ty} e) k =
        eta_formed (canonical_monos g (closed_ty (standings g) (known.val_types number ty e))) closed (w_val (map_get shape_of env.vals number ty e))
    given_term {g = g} (gives_def {number = number} {definition = definition} e) k = closed_term (shapes_of g) (defs number definition e) closed
    given_term (gives_word l) k = z_word l
    given_term gives_bool k = z_bool
    given_term (gives_loc l) k = z_loc l
    given_term gives_unit k = z_unit
    given_term {g = g} (gives_app p q types terms) k =
        let c = (canonical.given env known k p).ty in app_given g c (given_term p k) (fit_term q k (argument_part c)) types terms
    given_term (gives_inst {ty = ty} p f) k = inst_given ty (mono_formed f) (given_term p k)
    given_term (gives_ann f p) k = fit_term p k (canonical.formed_ty env known k f)
    given_term (gives_pair p q) k = z_pair (given_term p k) (given_term q k)
    given_term (gives_fst p) k = fst_folded _ (given_term p k)
    given_term (gives_snd p) k = snd_folded _ (given_term p k)
    given_term (gives_bin {op = op} p q) k = bin_folded op _ _ (fit_term p k (n_mono n_m_word)) (fit_term q k (n_mono n_m_word))
    given_term (gives_not p) k = not_folded _ (fit_term p k (n_mono n_m_bool))
    given_term (gives_eq {mono = t} f c p q) k =
        eq_folded t _ _ c (fit_term p k (n_mono (mono_canonical f))) (fit_term q k (n_mono (mono_canonical f)))
    given_term (gives_sel {mono = t} f p q r) k =
        sel_folded t _ _ _ (mono_formed f) (fit_term p k (n_mono n_m_bool)) (fit_term q k (n_mono (mono_canonical f)))
        (fit_term r k (n_mono (mono_canonical f)))
    given_term {g = g} (gives_fix {ty = ty} h d) k =
        let a = header_formed h k in eta_formed (formed_monos a) closed (w_fix (fix_formed d k (type_bare env g ty a) a))
    given_term (gives_at p) k = given_term p k

    pub fit_term : {m : Mode} {g : Context} {M N : TermTree} {A : TyTree} {o : List Obligation}
        → Fits env m g M A N o
        → IsCanonicalContext (heads_of env) g
        → IsCanonicalTy (heads_of env) (standings g) A
        → IsFormedTerm (file_shapes env) (shapes_of g) N (shape_of A)
    fit_term {g = g} (fits_lam {argument = argument} {term' = term'} p) k a =
        z_lam (subst (IsFormedTerm (file_shapes env) (in_term (shape_of argument) ∷ shapes_of g) term')
        (sym (up_dropped (answer_monos (canonical_monos g a))))
        (fit_term p (term_entry k (argument_part a)) (answer_part a)))
    fit_term (fits_lam_t p) k a = z_lam_t (fit_term p (mono_entry k) (under_mono a))
    fit_term (fits_pair p q) k a = z_pair (fit_term p k (n_mono (left_mono_part a))) (fit_term q k (n_mono (right_mono_part a)))
    fit_term (fits_do (fits_body p q)) k a = z_do (runs_formed p q k (spec_mono (spec_part a)))
    fit_term {g = g} (fits_given {ty' = ty'} {term' = term'} {ty = ty} i p q) k a =
        subst (IsFormedTerm (file_shapes env) (shapes_of g) term') (sym (shape_plain ty') ∙ ap shape_of q ∙ shape_plain ty) (given_term p k)
    fit_term (fits_at p) k a = fit_term p k a

    pub header_formed : {g : Context} {fix : FixTree} {A : TyTree}
        → FormsHeader env g fix A
        → IsCanonicalContext (heads_of env) g
        → IsFormedTy (file_shapes env) (shapes_of g) A
    header_formed (header_param p q) k = z_fun (formed_ty p k) (header_formed q (term_entry k (canonical.formed_ty env known k p)))
    header_formed (header_body p) k = z_hoare (formed_triple p k)

    fix_formed : {g : Context} {whole A : TyTree} {fix R : FixTree} {o : List Obligation}
        → FitsFix env g whole fix A R o
        → IsCanonicalContext (heads_of env) g
        → IsCanonicalTy (heads_of env) (standings g) whole
        → IsFormedTy (file_shapes env) (shapes_of g) A
        → IsFormedFix (file_shapes env) (shapes_of g) (shape_of whole) R (shape_of A)
    fix_formed {g = g} (fix_param {argument' = argument'} {whole = whole} {answer = answer} {rest' = rest'} p) k w (z_fun d e) =
        let c = type_bare env g argument' d in
        let inner = fix_formed p (term_entry k c) (ty_renamed w (keeps_suc (as_term (skeleton argument')) (standings g))) e in
        z_param d (subst
        (IsFormedFix (file_shapes env) (in_term (shape_of argument') ∷ shapes_of g) (up_shape (shape_of whole)) rest')
        (sym (up_dropped (formed_monos e)))
        (subst (λ (s : Shape). IsFormedFix (file_shapes env) (in_term (shape_of argument') ∷ shapes_of g) s rest' (shape_of answer))
        (shape_renamed suc whole) inner))
    fix_formed {g = g} (fix_body {whole = whole} {spec' = triple pre t post} {comp' = comp'} p) k w (z_hoare d) =
        z_body d (body_formed p (term_entry k w) (mono_renamed (triple_mono g d) (keeps_suc (as_term (skeleton whole)) (standings g))))

    pub body_formed : {g : Context} {E R : CompTree} {pre post : FormulaTree} {t : MonoTree} {o : List Obligation}
        → FitsBody env g E (triple pre t post) R o
        → IsCanonicalContext (heads_of env) g
        → IsCanonicalMono (standings g) t
        → IsFormedComp (file_shapes env) (shapes_of g) R t
    body_formed (fits_body p q) k m = runs_formed p q k m

    runs_formed : {g : Context} {t : MonoTree} {state end : FormulaTree} {E R : CompTree} {zs : List MonoTree} {value : TermTree}
        {parts : List Part}
        {o : List Obligation}
        → Runs env g t state E end zs value parts o
        → Assembled parts value R
        → IsCanonicalContext (heads_of env) g
        → IsCanonicalMono (standings g) t
        → IsFormedComp (file_shapes env) (shapes_of g) R t
    runs_formed (runs_ret p) assembled_end k m = z_ret (fit_term p k (n_mono m))
    runs_formed {g = g} (runs_step {step_mono = left} p q) (assembled_part rest j) k m =
        let r = moves_formed p k in
        joined_formed j closed r.1 (runs_formed q rest (term_entry k (n_mono r.0)) (mono_renamed m (keeps_suc (as_term sk_o) (standings g))))

    moves_formed : {g : Context} {state next : FormulaTree} {step : StepTree} {t : MonoTree} {part : Part} {o : List Obligation}
        → Moves env g state step t next part o
        → IsCanonicalContext (heads_of env) g
        → IsCanonicalMono (standings g) t × PartFormed (file_shapes env) (shapes_of g) part t
    moves_formed (moves_alloc m p) k = (n_m_loc, z_alloc (mono_formed m) (fit_term p k (n_mono (mono_canonical m))))
    moves_formed (moves_get m p) k = (mono_canonical m, z_get (mono_formed m) (fit_term p k (n_mono n_m_loc)))
    moves_formed (moves_set m p q) k = (n_m_unit, z_set (mono_formed m) (fit_term p k (n_mono n_m_loc)) (fit_term q k (n_mono (mono_canonical m))))
    moves_formed (moves_free m p) k = (n_m_unit, z_free (mono_formed m) (fit_term p k (n_mono n_m_loc)))
    moves_formed (moves_run p) k = (spec_mono (spec_part (canonical.given env known k p).ty), do_comp (given_term p k))
    moves_formed (moves_if m p q a r b) k = (
      mono_canonical m,
      z_if (mono_formed m) (fit_term p k (n_mono n_m_bool)) (runs_formed q a k (mono_canonical m)) (runs_formed r b k (mono_canonical m)),
    )
    moves_formed (moves_claim p) k = (n_m_unit, refl)
