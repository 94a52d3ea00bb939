-- Typing is sound: by the derivation.
use Rattle.std.proofs.Common.{◌≡◌, ℕ, zero, suc, List, [], ◌∷◌, ◌++◌, true, false, refl, sym, ap, ◌∙◌, subst, inl, inr}
use Rattle.htt_syntax.specs.Trees.{MonoTree, TyTree, TripleTree, TermTree, FixTree, CompTree, StepTree, FormulaTree, m_bool, y_mono, y_hoare, triple, t_var}
use Rattle.htt_syntax.specs.Trees.{t_val, t_fix, t_fst, t_snd, t_not, t_bin, t_eq, t_sel}
use Rattle.theory_renaming.specs.Renaming.{rename_ty, rename_triple}
use Rattle.theory_values.specs.Values.{Value, op_mono, v_bool, HasType, is_word, is_bool, is_loc, is_unit, is_pair}
use Rattle.theory_values.specs.Heaps.{Heap, IsHeap}
use Rattle.theory_values.proofs.Joins.{part_is_heap}
use Rattle.theory_truth.specs.Predicates.{RecTree, recs_of}
use Rattle.theory_canonical.specs.Skeletons.{Skeleton, sk_o, sk_c, sk_arrow, skeleton}
use Rattle.theory_canonical.specs.Contexts.{as_term}
use Rattle.theory_canonical.specs.Canonical.{IsCanonicalTy, IsCanonicalTriple, IsCanonicalFormula, IsCanonicalMono, n_mono, n_m_bool, n_triple}
use Rattle.theory_canonical.proofs.Renamed.{keeps_suc, skeleton_stays, mono_renamed as mono_canonical_renamed, ty_renamed, triple_renamed}
use Rattle.theory_substitution.specs.Monotypes.{put_mono, put_mono_ty, put_mono_term}
use Rattle.theory_substitution.specs.Closing.{closing}
use Rattle.theory_substitution.proofs.Skeletons.{skeleton_kept, skeleton_filled}
use Rattle.theory_substitution_total.specs.Insertion.{ins_here}
use Rattle.theory_states.specs.States.{move_get, move_set, move_free, move_run, move_claim, owed, finish, merge, last}
use Rattle.theory_typing.specs.Contexts.{Context, Environment, Obligation, en_term, EndsInHoare}
use Rattle.theory_typing.specs.Typing.{Mode, with_heaps, owes, Part, Gives, Fits, FormsHeader, FitsFix, FitsBody, Runs, Moves, gives_var, gives_val, gives_def}
use Rattle.theory_typing.specs.Typing.{gives_word, gives_bool, gives_loc, gives_unit, gives_app, gives_inst, gives_ann, gives_pair, gives_fst, gives_snd}
use Rattle.theory_typing.specs.Typing.{gives_bin, gives_not, gives_eq, gives_sel, gives_fix, gives_at, fits_lam, fits_lam_t, fits_pair, fits_do, fits_given}
use Rattle.theory_typing.specs.Typing.{fits_at, header_param, header_body, fix_param, fix_body, fits_body, runs_ret, runs_step, moves_alloc, moves_get}
use Rattle.theory_typing.specs.Typing.{moves_set, moves_free, moves_run, moves_if, moves_claim, Assembled, assembled_end, assembled_part}
use Rattle.theory_typing_canonical.specs.Environments.{standings, heads_of, at_state, IsCanonicalEnvironment, IsCanonicalContext, mono_entry, term_entry}
use Rattle.theory_typing_canonical.proofs.Entries.{mono_canonical, argument_part, answer_part, under_mono, spec_part, lam_body, lam_t_body, assembled_canonical}
use Rattle.theory_typing_canonical.proofs.StatesKept.{start_kept, branch_kept}
use Rattle.theory_typing_canonical.proofs.Typed.{formed_ty, given as canonical_given, fitted as canonical_fitted, header, ran, moved}
use Rattle.theory_denotation.specs.Outcomes.{Outcome, Running, branch_outcome}
use Rattle.theory_denotation.specs.Valuations.{Domain, ValuationEntry, den_mono, den_heap, den_term, Valuation, mono_in, HeadEntries}
use Rattle.theory_denotation.specs.Recursion.{recursion}
use Rattle.theory_denotation.specs.Denotation.{fix_skeleton, term_den, fix_den, comp_den}
use Rattle.theory_denotation.specs.Satisfaction.{Satisfies, PreAt, PostAt, answer_mono}
use Rattle.theory_denotation.proofs.HeadsDenote.{fix_value, valued_other}
use Rattle.theory_denotation_renaming.specs.Insertion.{entry_here}
use Rattle.theory_denotation_renaming.proofs.Renamed.{agree_suc, mono_renamed}
use Rattle.theory_denotation_renaming.proofs.Entries.{fix_entry}
use Rattle.theory_denotation_renaming.proofs.Folded.{folded}
use Rattle.theory_denotation_renaming.proofs.Expanded.{expanded}
use Rattle.theory_denotation_renaming.proofs.FilledTruth.{put_along}
use Rattle.theory_denotation_substitution.proofs.Placing.{put_here}
use Rattle.theory_denotation_substitution.proofs.Terms.{term_put, family_put}
use Rattle.theory_items_sound.specs.Environments.{SoundEnvironment}
use Rattle.theory_denotation_shapes.proofs.Reindexed.{ending_shaped}
use Rattle.theory_typing_shaped.proofs.Fitting.{fit_shaped}
use Rattle.theory_denotation_types.proofs.Shaped.{context_shaped}
use Rattle.theory_denotation_types.specs.Meeting.{Post, EndsWell, Meets}
use Rattle.theory_denotation_types.specs.Types.{Means, ContextMeans, means_mono, means_heap, means_term}
use Rattle.theory_denotation_types.proofs.Reindexed.{means_renamed, means_put, means_filled}
use Rattle.theory_denotation_types.proofs.Recursions.{recursion_means}
use Rattle.theory_denotation_types.proofs.Given.{given as entries_given, context_valued}
use Rattle.theory_denotation_positions.proofs.Plain.{plain_skeleton}
use Rattle.theory_denotation_positions.proofs.PlainTruth.{means_plain}
use Rattle.theory_typing.specs.Positions.{plain_ty}
use Rattle.theory_denotation_moves.specs.States.{NextState, InState}
use Rattle.theory_denotation_moves.proofs.Agreeing.{into, out_of}
use Rattle.theory_denotation_moves.proofs.Sound.{sound as moves_sound}
use Rattle.theory_typing_sound.specs.Environments.{EnvironmentMeans, IsTrueGoal, AllTrue}
use Rattle.theory_typing_sound.specs.Laws.{TypingIsSound}
use Rattle.theory_typing_shaped.proofs.Values.{fst_typed, snd_typed, not_typed, op_typed, eq_typed, sel_typed, op_mono_in}
use Rattle.theory_typing_sound.proofs.Values.{closed_in, all_left, all_right, owed_true}
use Rattle.theory_typing_sound.proofs.Closed.{closed_means, closed_den, heads_valued}
use Rattle.theory_typing_sound.proofs.Parts.{part_den, joined_den}
use Rattle.theory_typing_sound.proofs.Ends.{EndPost, finish_holds, ends_mapped, ends_then}

pub header_ends : {env : Environment} {g : Context} {fix : FixTree} {ty : TyTree} → FormsHeader env g fix ty → EndsInHoare ty
header_ends (header_param a b) = header_ends b
header_ends (header_body a) = tt

pub fix_is_of : {env : Environment} {g : Context} {whole ty : TyTree} {fix r : FixTree} {o : List Obligation}
    → FitsFix env g whole fix ty r o
    → fix_skeleton r ≡ skeleton ty
unfolding fix_skeleton skeleton
fix_is_of (fix_param {argument' = argument'} a) = λ j. sk_arrow (skeleton argument') (fix_is_of a j)
fix_is_of (fix_body a) = refl

fix_ends : {env : Environment} {g : Context} {whole ty : TyTree} {fix r : FixTree} {o : List Obligation} → FitsFix env g whole fix ty r o → EndsInHoare ty
fix_ends (fix_param a) = fix_ends a
fix_ends (fix_body a) = tt

module _ (table : List RecTree) (env : Environment) (e : HeadEntries) (enough : SoundEnvironment env) (valued : EnvironmentMeans table env e) where
  known : IsCanonicalEnvironment env
  known = enough.canonical

  -- a denotation is of a type at the skeleton of another
  same_type : (w : Valuation) (ty u : TyTree) (f : (s : Skeleton) → Domain s)
      → plain_ty ty ≡ plain_ty u
      → Means (recs_of table) e w ty (skeleton ty) (f (skeleton ty))
      → Means (recs_of table) e w u (skeleton u) (f (skeleton u))
  same_type w ty u f q m =
      let there : skeleton ty ≡ skeleton u = sym (plain_skeleton ty) ∙ ap skeleton q ∙ plain_skeleton u in
      let plain = into (means_plain (recs_of table) e ty w (skeleton ty) (f (skeleton ty))) m in
      let other = subst (λ t. Means (recs_of table) e w t (skeleton ty) (f (skeleton ty))) q plain in
      let back = out_of (means_plain (recs_of table) e u w (skeleton ty) (f (skeleton ty))) other in
      subst (λ s. Means (recs_of table) e w u s (f s)) there back

  -- the last obligation at the end
  last_true : (S Q : FormulaTree) (g : Context) (w : Valuation)
      → IsTrueGoal table e (record { context = g; goal = last S Q })
      → ContextMeans (recs_of table) e g w
      → Satisfies (recs_of table) e w S
      → Satisfies (recs_of table) e w Q
  unfolding last Satisfies
  last_true S Q g w goal k holds = goal w k holds

  merged_left : (F G : FormulaTree) (w : Valuation) → Satisfies (recs_of table) e w F → Satisfies (recs_of table) e w (merge F G)
  unfolding merge Satisfies
  merged_left F G w f = λ deny. deny (inl f)

  merged_right : (F G : FormulaTree) (w : Valuation) → Satisfies (recs_of table) e w G → Satisfies (recs_of table) e w (merge F G)
  unfolding merge Satisfies
  merged_right F G w f = λ deny. deny (inr f)

  -- a triple that is seen from one more entry
  hoare_seen : (w : Valuation) (y : ValuationEntry) (spec : TripleTree) (f : Running)
      → Meets (PreAt (recs_of table) e (y ∷ w) (rename_triple suc spec)) (answer_mono (y ∷ w) (rename_triple suc spec))
      (PostAt (recs_of table) e (y ∷ w) (rename_triple suc spec)) f
      → Means (recs_of table) e w (y_hoare spec) sk_c f
  unfolding Means rename_ty
  hoare_seen w y spec f m = out_of (means_renamed (recs_of table) e (y_hoare spec) (agree_suc y w) sk_c f) m

  -- one branch is run
  branches_mean : {v : Value} (t : MonoTree) (post : Post) (init frame : Heap) (x y : Outcome)
      → HasType v m_bool
      → (v ≡ v_bool true → EndsWell t post init frame x)
      → (v ≡ v_bool false → EndsWell t post init frame y)
      → EndsWell t post init frame (branch_outcome v x y)
  branches_mean t post init frame x y (is_bool {b = true}) f g = f refl
  branches_mean t post init frame x y (is_bool {b = false}) f g = g refl

  mutual
    unfolding Means skeleton term_den

    pub given_means : {m : Mode} {g : Context} {term r : TermTree} {ty : TyTree} {o : List Obligation} {w : Valuation}
        → Gives env m g term ty r o
        → IsCanonicalContext (heads_of env) g
        → ContextMeans (recs_of table) e g w
        → AllTrue table e o
        → Means (recs_of table) e w ty (skeleton ty) (term_den e w r (skeleton ty))
    given_means {w = w} (gives_var {index = index} {ty = ty} d) c k t =
        let o = entries_given.terms table e k index ty d in
        subst (Means (recs_of table) e w ty (skeleton ty)) (sym (expanded e ty (λ n. n) (t_var index) w o.of refl o.is)) o.means
    given_means {w = w} (gives_val {number = number} {ty = ty} q) c k t =
        let o = valued.vals number ty q in
        subst (Means (recs_of table) e w ty (skeleton ty)) (sym (expanded e ty (λ n. n) (t_val number) w o.of refl o.is))
        (closed_means (recs_of table) ty w (heads_valued valued) (known.val_types number ty q) o.of o.means)
    given_means {w = w} (gives_def {number = number} {definition = definition} q) c k t =
        let ty = definition.0 in
        subst (Means (recs_of table) e w ty (skeleton ty)) (sym (closed_den w (heads_valued valued) (known.def_terms number definition q)))
        (closed_means (recs_of table) ty w (heads_valued valued) (known.def_types number definition q)
        (term_den e [] (definition.1) (skeleton ty)) (valued.defs number definition q))
    given_means (gives_word i) c k t = is_word i
    given_means gives_bool c k t = is_bool
    given_means (gives_loc i) c k t = is_loc i
    given_means gives_unit c k t = is_unit
    given_means {w = w} (gives_app {argument = argument} {answer = answer} {inner = inner} {o = o} {value' = value'} {p = p}
        {answer' = answer'} {inner' = inner'} a b d f) c k t =
        let x = canonical_given env known c a in
        let y = canonical_fitted env known c (argument_part x.ty) b in
        let h = heads_valued valued in
        let v = term_den e w value' (skeleton argument) in
        let may = put_here h (context_valued table e k) y.term in
        let m = (given_means a c k (all_left table e o p t)).1 v (fit_means b (argument_part x.ty) c k (all_right table e o p t)) in
        let n = subst (Means (recs_of table) e (den_term (skeleton argument) v ∷ w) answer (skeleton answer)) (sym (term_put f (lam_body x.term) may)) m in
        subst (λ s. Means (recs_of table) e w answer' s (term_den e w inner' s)) (sym (skeleton_kept d))
        (into (means_put (recs_of table) d (answer_part x.ty) may (skeleton answer) refl (term_den e w inner' (skeleton answer))) n)
    given_means {w = w} (gives_inst {ty = ty} {inner = inner} {mono = mono} a f) c k t =
        let x = canonical_given env known c a in
        let h = heads_valued valued in
        let z = context_valued table e k in
        let t' = mono_in w mono in
        let m = given_means a c k t t' (closed_in table e f k) in
        let n = subst (Means (recs_of table) e (den_mono t' ∷ w) ty (skeleton ty)) (sym (family_put mono h z (lam_t_body x.term))) m in
        let fills = put_along (record { context = ins_here; valuation = entry_here; valued = (valued_other (den_mono t') z).0; heads_valued = h }) in
        subst (λ s. Means (recs_of table) e w (put_mono_ty mono zero ty) s (term_den e w (put_mono_term mono zero inner) s))
        (sym (skeleton_filled (put_mono mono zero) (closing zero) ty))
        (into (means_filled (recs_of table) ty h (under_mono x.ty) fills (valued_other (den_mono t') z).0 (skeleton ty) refl
        (term_den e w (put_mono_term mono zero inner) (skeleton ty))) n)
    given_means (gives_ann a b) c k t = fit_means b (formed_ty env known c a) c k t
    given_means (gives_pair {o = o} {p = p} a b) c k t = is_pair (given_means a c k (all_left table e o p t)) (given_means b c k (all_right table e o p t))
    given_means {w = w} (gives_fst {left_mono = left} {term' = term'} a) c k t =
        subst (λ v. HasType v (mono_in w left)) (sym (folded e w (t_fst term'))) (fst_typed (given_means a c k t))
    given_means {w = w} (gives_snd {right_mono = right} {term' = term'} a) c k t =
        subst (λ v. HasType v (mono_in w right)) (sym (folded e w (t_snd term'))) (snd_typed (given_means a c k t))
    given_means {w = w} (gives_bin {first' = first'} {o = o} {second' = second'} {p = p} {op = op} a b) c k t =
        subst (λ v. HasType v (mono_in w (op_mono op))) (sym (folded e w (t_bin op first' second')))
        (subst (HasType _) (sym (op_mono_in w op))
        (op_typed op (value_means a c k (all_left table e o p t)) (value_means b c k (all_right table e o p t))))
    given_means {w = w} (gives_not {term' = term'} a) c k t = subst (λ v. HasType v m_bool) (sym (folded e w (t_not term'))) (not_typed (value_means a c k t))
    given_means {w = w} (gives_eq {mono = mono} {first' = first'} {o = o} {second' = second'} {p = p} m i a b) c k t =
        subst (λ v. HasType v m_bool) (sym (folded e w (t_eq mono first' second')))
        (eq_typed w i (value_means a c k (all_left table e o p t)) (value_means b c k (all_right table e o p t)))
    given_means {w = w} (gives_sel {mono = mono} {first' = first'} {o = o} {second' = second'} {p = p} {third' = third'} {q = q} m a b d) c
        k t =
        subst (λ v. HasType v (mono_in w mono)) (sym (folded e w (t_sel mono first' second' third')))
        (sel_typed (value_means a c k (all_left table e o p (all_left table e (o ++ p) q t)))
        (value_means b c k (all_right table e o p (all_left table e (o ++ p) q t))) (value_means d c k (all_right table e (o ++ p) q t)))
    given_means {w = w} (gives_fix {ty = ty} {fix' = fix'} {at = at} a b) c k t =
        let x = header env known c a in
        let f = λ (own : Domain (skeleton ty)). fix_den e w (den_term (skeleton ty) own) fix' (skeleton ty) in
        let r = recursion (skeleton ty) f in
        subst (Means (recs_of table) e w ty (skeleton ty))
        (sym (expanded e ty (λ n. n) (t_fix at fix') w r (fix_value e w at fix') (ap (fix_entry e w fix') (fix_is_of b))))
        (recursion_means (recs_of table) e ty (header_ends a) w f (λ own m. fix_means b x x c k t (skeleton ty) refl own m))
    given_means (gives_at a) c k t = given_means a c k t

    -- a term of a monotype
    pub value_means : {m : Mode} {g : Context} {term r : TermTree} {mono : MonoTree} {o : List Obligation} {w : Valuation}
        → Fits env m g term (y_mono mono) r o
        → IsCanonicalContext (heads_of env) g
        → ContextMeans (recs_of table) e g w
        → AllTrue table e o
        → HasType (term_den e w r sk_o) (mono_in w mono)
    value_means (fits_pair {o = o} {p = p} a b) c k t = is_pair (value_means a c k (all_left table e o p t)) (value_means b c k (all_right table e o p t))
    value_means {mono = mono} {w = w} (fits_given {ty' = ty'} {term' = term'} i a q) c k t =
        same_type w ty' (y_mono mono) (term_den e w term') q (given_means a c k t)
    value_means (fits_at a) c k t = value_means a c k t

    pub fit_means : {m : Mode} {g : Context} {term r : TermTree} {ty : TyTree} {o : List Obligation} {w : Valuation}
        → Fits env m g term ty r o
        → IsCanonicalTy (heads_of env) (standings g) ty
        → IsCanonicalContext (heads_of env) g
        → ContextMeans (recs_of table) e g w
        → AllTrue table e o
        → Means (recs_of table) e w ty (skeleton ty) (term_den e w r (skeleton ty))
    fit_means (fits_lam a) x c k t = (
      fit_shaped e enough c (context_shaped (recs_of table) e k) x (fits_lam a),
      λ d m. fit_means a (answer_part x) (term_entry c (argument_part x)) (means_term m k) t,
    )
    fit_means (fits_lam_t a) x c k t = λ u closed. fit_means a (under_mono x) (mono_entry c) (means_mono closed k) t
    fit_means (fits_pair {o = o} {p = p} a b) x c k t = is_pair (value_means a c k (all_left table e o p t)) (value_means b c k (all_right table e o p t))
    fit_means (fits_do a) x c k t = body_means a (spec_part x) c k t
    fit_means {w = w} (fits_given {ty' = ty'} {term' = term'} {ty = ty} i a q) x c k t = same_type w ty' ty (term_den e w term') q (given_means a c k t)
    fit_means (fits_at a) x c k t = fit_means a x c k t

    fix_means : {g : Context} {whole ty : TyTree} {fix r : FixTree} {o : List Obligation} {w : Valuation}
        → FitsFix env g whole fix ty r o
        → IsCanonicalTy (heads_of env) (standings g) whole
        → IsCanonicalTy (heads_of env) (standings g) ty
        → IsCanonicalContext (heads_of env) g
        → ContextMeans (recs_of table) e g w
        → AllTrue table e o
        → (s : Skeleton)
        → skeleton whole ≡ s
        → (own : Domain s)
        → Means (recs_of table) e w whole s own
        → Means (recs_of table) e w ty (skeleton ty) (fix_den e w (den_term s own) r (skeleton ty))
    fix_means {g = g} {ty = ty} {r = r} {w = w} (fix_param {argument' = argument'} {whole = whole} a) y x c k t s q own m = (
      ending_shaped w ty (fix_ends a) (skeleton ty) (fix_den e w (den_term s own) r (skeleton ty)),
      λ d n.
          fix_means a (ty_renamed y (keeps_suc (as_term (skeleton argument')) (standings g))) (answer_part x)
          (term_entry c (argument_part x)) (means_term n k) t s (skeleton_stays suc whole ∙ q) own
          (into (means_renamed (recs_of table) e whole (agree_suc (den_term (skeleton argument') d) w) s own) m),
    )
    fix_means {g = g} {w = w} (fix_body {whole = whole} {spec' = spec'} {comp' = comp'} a) y x c k t s q own m =
        subst (λ (u : Skeleton).
        (d : Domain u)
        → Means (recs_of table) e w whole u d
        → Means (recs_of table) e w (y_hoare spec') sk_c (comp_den e (den_term u d ∷ w) comp')) q
        (λ d n. hoare_seen w (den_term (skeleton whole) d) spec' (comp_den e (den_term (skeleton whole) d ∷ w) comp')
        (body_means a (triple_renamed (spec_part x) (keeps_suc (as_term (skeleton whole)) (standings g))) (term_entry c y) (means_term n k) t)) own m

    pub body_means : {g : Context} {spec : TripleTree} {comp r : CompTree} {o : List Obligation} {w : Valuation}
        → FitsBody env g comp spec r o
        → IsCanonicalTriple (heads_of env) (standings g) spec
        → IsCanonicalContext (heads_of env) g
        → ContextMeans (recs_of table) e g w
        → AllTrue table e o
        → Meets (PreAt (recs_of table) e w spec) (answer_mono w spec) (PostAt (recs_of table) e w spec) (comp_den e w r)
    body_means {g = g} {w = w} (fits_body {mono = mono} {end = end} {zs = zs} {last_value = value} {o = o} {comp' = comp'} {post = post} a b)
        (n_triple p m q) c k t = record {
          at = λ n before frame whole cs i j words holds.
              let bh = (part_is_heap j i).0 in
              let goal = (all_right table e o _ t).0 in
              ends_mapped (mono_in w mono) (EndPost table e w end zs value) _ before frame (comp_den e w comp' n whole cs)
              (λ v own io typed ends.
              last_true (finish end zs mono value) post (with_heaps (en_term (y_mono mono) ∷ g))
              (den_heap own ∷ den_heap before ∷ den_term sk_o v ∷ w) goal (means_heap io (means_heap bh (means_term typed k)))
              (finish_holds table e end zs mono value v before own w ends))
              (runs_means a b m (start_kept (standings g) p) c k (all_left table e o _ t) n before before frame whole cs
              (record { is_heap = i; parts = j; words = words; state = moves_sound.starting table e w _ before holds }) bh);
        }

    runs_means : {g : Context} {mono : MonoTree} {state : FormulaTree} {comp : CompTree} {end : FormulaTree} {zs : List MonoTree}
        {value : TermTree} {parts : List Part} {r : CompTree} {o : List Obligation} {w : Valuation}
        → Runs env g mono state comp end zs value parts o
        → Assembled parts value r
        → IsCanonicalMono (standings g) mono
        → IsCanonicalFormula (heads_of env) (at_state (standings g)) state
        → IsCanonicalContext (heads_of env) g
        → ContextMeans (recs_of table) e g w
        → AllTrue table e o
        → (n : ℕ) (init mem frame whole : Heap) (cs : List ℕ)
        → InState table e w state init mem frame whole cs
        → IsHeap init
        → EndsWell (mono_in w mono) (EndPost table e w end zs value) init frame (comp_den e w r n whole cs)
    runs_means (runs_ret a) assembled_end mc sc c k t n init mem frame whole cs s i =
        (record { own = mem; parts = s.parts; is_heap = s.is_heap; typed = value_means a c k t; holds = (s.state, refl) }, s.words)
    runs_means {g = g} {w = w}
        (runs_step {step_mono = left} {next = next} {part = part} {o = o} {mono = mono} {end = end} {zs = zs} {last_value = value}
        {p = p} a b) (assembled_part {others = others'} rest j) mc sc c k t n init mem frame whole cs s i =
        let x = moved env known c sc a in
        let inner = term_entry c (n_mono x.mono) in
        let mc' = mono_canonical_renamed mc (keeps_suc (as_term sk_o) (standings g)) in
        let y = ran env known inner mc' x.state b in
        subst (λ (f : Running). EndsWell (mono_in w mono) (EndPost table e w end (left ∷ zs) value) init frame (f n whole cs))
        (sym (joined_den j (heads_valued valued) (context_valued table e k) x.part (assembled_canonical y.parts rest)))
        (ends_then (mono_in w left) (mono_in w mono) (NextState table e w next) (EndPost table e w end (left ∷ zs) value) init frame
        (part_den e w part n whole cs) (λ v h ds. comp_den e (den_term sk_o v ∷ w) others' n h ds)
        (λ v own h ds ih jh words typed holds.
        ends_mapped (mono_in w mono) (EndPost table e (den_term sk_o v ∷ w) end zs value) (EndPost table e w end (left ∷ zs) value) init
        frame (comp_den e (den_term sk_o v ∷ w) others' n h ds) (λ u own2 io tu ends. (v, typed, ends))
        (subst
        (λ u. EndsWell u (EndPost table e (den_term sk_o v ∷ w) end zs value) init frame (comp_den e (den_term sk_o v ∷ w) others' n h ds))
        (mono_renamed (agree_suc (den_term sk_o v) w) mono)
        (runs_means b rest mc' x.state inner (means_term typed k) (all_right table e o p t) n init own frame h ds
        (record { is_heap = ih; parts = jh; words = words; state = holds }) i)))
        (moves_mean a sc c k (all_left table e o p t) n init mem frame whole cs s i))

    moves_mean : {g : Context} {state next : FormulaTree} {step : StepTree} {mono : MonoTree} {part : Part} {o : List Obligation}
        {w : Valuation}
        → Moves env g state step mono next part o
        → IsCanonicalFormula (heads_of env) (at_state (standings g)) state
        → IsCanonicalContext (heads_of env) g
        → ContextMeans (recs_of table) e g w
        → AllTrue table e o
        → (n : ℕ) (init mem frame whole : Heap) (cs : List ℕ)
        → InState table e w state init mem frame whole cs
        → IsHeap init
        → EndsWell (mono_in w mono) (NextState table e w next) init frame (part_den e w part n whole cs)
    moves_mean {w = w} (moves_alloc {mono = mono} {value' = value'} {o = o} {state = state} m a) sc c k t n init mem frame whole cs s i =
        moves_sound.alloc table e w mono value' state n init mem frame whole cs s (value_means a c k (all_left table e o _ t))
    moves_mean {g = g} {w = w} (moves_get {mono = mono} {place' = place'} {o = o} {state = state} m a) sc c k t n init mem frame whole cs s i =
        moves_sound.get table e w mono place' state n init mem frame whole cs s (value_means a c k (all_left table e o _ t))
        (owed_true table e g (owed (move_get mono place') state) w init mem (all_right table e o _ t) k i
        (part_is_heap s.parts s.is_heap).0)
    moves_mean {g = g} {w = w} (moves_set {mono = mono} {place' = place'} {o = o} {value' = value'} {p = p} {state = state} m a b) sc c k t
        n init mem frame whole cs s i =
        let owing = owes g (owed (move_set mono place' value') state) in
        let terms = all_left table e (o ++ p) owing t in
        moves_sound.set table e w mono place' value' state n init mem frame whole cs s (value_means a c k (all_left table e o p terms))
        (value_means b c k (all_right table e o p terms))
        (owed_true table e g (owed (move_set mono place' value') state) w init mem (all_right table e (o ++ p) owing t) k i (part_is_heap s.parts s.is_heap).0)
    moves_mean {g = g} {w = w} (moves_free {mono = mono} {place' = place'} {o = o} {state = state} m a) sc c k t n init mem frame whole cs s i =
        moves_sound.free table e w mono place' state n init mem frame whole cs s (value_means a c k (all_left table e o _ t))
        (owed_true table e g (owed (move_free mono place') state) w init mem (all_right table e o _ t) k i
        (part_is_heap s.parts s.is_heap).0)
    moves_mean {g = g} {w = w} (moves_run {pre = pre} {mono = mono} {post = post} {comp = comp} {o = o} {state = state} a) sc c k t n init
        mem frame whole cs s i =
        moves_sound.run table e w (triple pre mono post) (comp_den e w comp) state n init mem frame whole cs s
        (given_means a c k (all_left table e o _ t))
        (owed_true table e g (owed (move_run (triple pre mono post)) state) w init mem (all_right table e o _ t) k i
        (part_is_heap s.parts s.is_heap).0)
    moves_mean {g = g} {w = w}
        (moves_if {mono = mono} {test' = test'} {o = o} {state = state} {yes_end = yes_end} {zs = zs} {yes_value = yes_value}
        {p = p} {on_true' = on_true'} {no_end = no_end} {ys = ys} {no_value = no_value} {q = q} {on_false' = on_false'} m a b l d r) sc c k t n
        init mem frame whole cs s i =
        let first = all_left table e (o ++ p) q t in
        let test = value_means a c k (all_left table e o p first) in
        let x = canonical_fitted env known c (n_mono n_m_bool) a in
        let yes = λ (is : term_den e w test' sk_o ≡ v_bool true). ends_mapped (mono_in w mono) (EndPost table e w yes_end zs yes_value)
        (NextState table e w (merge (finish yes_end zs mono yes_value) (finish no_end ys mono no_value))) init frame
        (comp_den e w on_true' n whole cs)
        (λ v own io typed ends.
        merged_left (finish yes_end zs mono yes_value) (finish no_end ys mono no_value) (den_heap own ∷ den_heap init ∷ den_term sk_o v ∷ w)
        (finish_holds table e yes_end zs mono yes_value v init own w ends))
        (runs_means b l (mono_canonical m) (branch_kept (standings g) true sc x.term) c k (all_right table e o p first) n init mem frame whole
        cs (record {
          is_heap = s.is_heap;
          parts = s.parts;
          words = s.words;
          state = moves_sound.branching table e w test' state true init mem s.state is;
        }) i) in
        let no = λ (is : term_den e w test' sk_o ≡ v_bool false). ends_mapped (mono_in w mono) (EndPost table e w no_end ys no_value)
        (NextState table e w (merge (finish yes_end zs mono yes_value) (finish no_end ys mono no_value))) init frame
        (comp_den e w on_false' n whole cs)
        (λ v own io typed ends.
        merged_right (finish yes_end zs mono yes_value) (finish no_end ys mono no_value)
        (den_heap own ∷ den_heap init ∷ den_term sk_o v ∷ w) (finish_holds table e no_end ys mono no_value v init own w ends))
        (runs_means d r (mono_canonical m) (branch_kept (standings g) false sc x.term) c k (all_right table e (o ++ p) q t) n init mem frame
        whole cs (record {
          is_heap = s.is_heap;
          parts = s.parts;
          words = s.words;
          state = moves_sound.branching table e w test' state false init mem s.state is;
        }) i) in
        branches_mean (mono_in w mono) (NextState table e w (merge (finish yes_end zs mono yes_value) (finish no_end ys mono no_value)))
        init frame (comp_den e w on_true' n whole cs) (comp_den e w on_false' n whole cs) test yes no
    moves_mean {g = g} {w = w} (moves_claim {claim' = claim'} {state = state} a) sc c k t n init mem frame whole cs s i = (
      record {
        own = mem;
        parts = s.parts;
        is_heap = s.is_heap;
        typed = is_unit;
        holds =
            moves_sound.claim table e w claim' state init mem s.state
            (owed_true table e g (owed (move_claim claim') state) w init mem t k i (part_is_heap s.parts s.is_heap).0);
      },
      s.words,
    )

pub sound : TypingIsSound
sound = record {
  given = λ table env e g w a m M N A o d t. given_means table env e a.sound a.environment d a.canonical a.context t;
  fitting = λ table env e g w a m M N A o c d t. fit_means table env e a.sound a.environment d c a.canonical a.context t;
  bodies = λ table env e g w a E r spec o c d t. body_means table env e a.sound a.environment d c a.canonical a.context t;
}
