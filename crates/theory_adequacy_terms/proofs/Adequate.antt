-- A term or computation of the text realises what its canonical form denotes: by the derivation.
use Rattle.std.proofs.Common.{◌≡◌, ℕ, zero, suc, List, [], ◌∷◌, true, false, Some, slice_get, refl, sym, ap, ◌∙◌, subst}
use Rattle.htt_syntax.specs.Trees.{MonoTree, TyTree, TripleTree, TermTree, FixTree, CompTree, StepTree, FormulaTree, m_word, m_bool, m_loc, m_unit, m_pair}
use Rattle.htt_syntax.specs.Trees.{y_mono, y_fun, y_all, y_hoare, triple, t_var, t_val, t_lam, t_lam_t, t_do, t_fix, t_fst, t_snd, t_not, t_bin, t_eq, t_sel, c_step}
use Rattle.theory_values.specs.Values.{v_word, v_bool, v_loc, v_unit, v_pair, op_mono, value_of_op, value_of_not, value_of_eq, value_of_sel, value_of_fst, value_of_snd}
use Rattle.theory_values.specs.Heaps.{Heap}
use Rattle.theory_meaning.specs.Closures.{RunValue, base, fix_of, Env, with_mono, with_value, PureResult, RunResult, done, Items}
use Rattle.theory_meaning.specs.Meaning.{base_or_fault, of_eq, item_result, application_result, instance_result, term_result, inner_result, run_with}
use Rattle.theory_meaning.specs.Meaning.{start_result, alloc_result, get_result, set_result, free_result, branch_result, comp_result, step_result, runner_of}
use Rattle.theory_canonical.specs.Skeletons.{Skeleton, sk_o, sk_c, skeleton}
use Rattle.theory_canonical.specs.Contexts.{as_term}
use Rattle.theory_canonical.specs.Folding.{folding}
use Rattle.theory_canonical.specs.Eta.{eta}
use Rattle.theory_truth.specs.TermValue.{value_or_unit}
use Rattle.theory_canonical.specs.Canonical.{IsCanonicalTy, IsCanonicalTriple, IsCanonicalFormula, IsCanonicalMono, n_mono, n_m_bool, n_triple}
use Rattle.theory_canonical.proofs.Renamed.{keeps_suc, skeleton_stays, mono_renamed as mono_canonical_renamed, ty_renamed, triple_renamed}
use Rattle.theory_substitution.specs.Monotypes.{put_mono, put_mono_ty, put_mono_term}
use Rattle.theory_substitution.specs.Closing.{closing}
use Rattle.theory_substitution.proofs.Skeletons.{skeleton_kept, skeleton_filled}
use Rattle.theory_substitution_total.specs.Insertion.{ins_here}
use Rattle.theory_typing.specs.Contexts.{Context, Environment, Obligation}
use Rattle.theory_typing.specs.Typing.{Mode, Part, Gives, Fits, FitsFix, FitsBody, Runs, Moves, gives_var, gives_val, gives_def, gives_word}
use Rattle.theory_typing.specs.Typing.{gives_bool, gives_loc, gives_unit, gives_app, gives_inst, gives_ann, gives_pair, gives_fst, gives_snd, gives_bin}
use Rattle.theory_typing.specs.Typing.{gives_not, gives_eq, gives_sel, gives_fix, gives_at, fits_lam, fits_lam_t, fits_pair, fits_do, fits_given, fits_at}
use Rattle.theory_typing.specs.Typing.{fix_param, fix_body, fits_body, runs_ret, runs_step, moves_alloc, moves_get, moves_set}
use Rattle.theory_typing.specs.Typing.{moves_free, moves_run, moves_if, moves_claim, Assembled, assembled_end, assembled_part}
use Rattle.theory_typing_canonical.specs.Environments.{standings, heads_of, at_state, IsCanonicalEnvironment, IsCanonicalContext, mono_entry, term_entry}
use Rattle.theory_typing_canonical.proofs.Entries.{mono_canonical, argument_part, answer_part, under_mono, spec_part, lam_body, lam_t_body, assembled_canonical}
use Rattle.theory_typing_canonical.proofs.StatesKept.{start_kept, branch_kept}
use Rattle.theory_typing_canonical.proofs.Typed.{formed_ty, given as canonical_given, fitted as canonical_fitted, header, ran, moved}
use Rattle.theory_denotation.specs.Outcomes.{Running, ended, alloc_outcome, get_outcome, set_outcome, free_outcome, branch_outcome}
use Rattle.theory_denotation.specs.Valuations.{Domain, den_mono, den_term, Valuation, mono_in, HeadEntries}
use Rattle.theory_denotation.specs.Recursion.{entered, turns, recursion}
use Rattle.theory_denotation.specs.Denotation.{term_den, fix_den, comp_den}
use Rattle.theory_denotation.specs.Satisfaction.{answer_mono}
use Rattle.theory_denotation.proofs.HeadsDenote.{fix_value, valued_other}
use Rattle.theory_denotation_renaming.specs.Insertion.{entry_here}
use Rattle.theory_denotation_renaming.proofs.Renamed.{agree_suc, mono_renamed}
use Rattle.theory_denotation_renaming.proofs.RenamedTruth.{answer_renamed}
use Rattle.theory_denotation_renaming.proofs.Entries.{fix_entry}
use Rattle.theory_denotation_renaming.proofs.Folded.{folded}
use Rattle.theory_denotation_renaming.proofs.Expanded.{expanded}
use Rattle.theory_denotation_renaming.proofs.FilledTruth.{put_along}
use Rattle.theory_denotation_substitution.proofs.Placing.{put_here}
use Rattle.theory_denotation_substitution.proofs.Terms.{term_put, family_put}
use Rattle.theory_denotation_moves.proofs.Agreeing.{into}
use Rattle.theory_typing_sound.proofs.Closed.{closed_den}
use Rattle.theory_typing_sound.proofs.Parts.{part_den, joined_den}
use Rattle.theory_typing_sound.proofs.Sound.{fix_is_of}
use Rattle.theory_meaning_simulation.specs.Simulation.{GivesSo}
use Rattle.theory_meaning_simulation.proofs.Results.{gives_more, IsValue, fst_so, snd_so, not_so, op_so, eq_so, sel_so, op_shape_in}
use Rattle.theory_adequacy.specs.Adequacy.{EventuallyGives, Reaches, Realises, Realised, realised_mono, realised_value, ItemsRealise}
use Rattle.theory_adequacy.proofs.Fuel.{eventually_then, eventually_more, eventually_is, eventually_entered, reaches_with, reaches_then, reaches_end}
use Rattle.theory_adequacy.proofs.Fuel.{reaches_started, reaches_body, one_given, two_given, three_given, alloc_reached, get_reached, set_reached}
use Rattle.theory_adequacy.proofs.Fuel.{free_reached, branch_reached}
use Rattle.theory_adequacy.proofs.Reindexed.{realises_renamed, realises_put, realises_filled}
use Rattle.theory_adequacy.proofs.Matching.{found, mono_closed, realised_valued}
use Rattle.theory_adequacy.proofs.Recursions.{realises_unentered, realises_by_fuel, realises_turns}
use Rattle.theory_adequacy.proofs.Valued.{closed_realises, same_realises, items_valued}
use Rattle.theory_adequacy_terms.specs.Laws.{DenotationIsAdequate}

module _ (items : Items) (env : Environment) (e : HeadEntries) (known : IsCanonicalEnvironment env) (written : ItemsRealise items env e) where
  -- what evaluating gives with so much fuel, and what running comes to
  abbrev value_of : Env → TermTree → ℕ → PureResult
  value_of v term i = term_result items (inner_result items i) v term

  abbrev run_of : Env → CompTree → Heap → List ℕ → ℕ → RunResult
  run_of v comp h cs j = comp_result items (inner_result items j) (runner_of items j) v comp h cs

  mutual
    unfolding Realises skeleton term_den

    pub given_realises : {m : Mode} {g : Context} {term r : TermTree} {ty : TyTree} {o : List Obligation} {v : Env} {w : Valuation}
        → Gives env m g term ty r o
        → IsCanonicalContext (heads_of env) g
        → Realised items g v w
        → EventuallyGives (value_of v term) (λ u. Realises items w ty (skeleton ty) u (term_den e w r (skeleton ty)))
    given_realises {w = w} (gives_var {index = index} {ty = ty} d) c a =
        let o = found items d a in
        eventually_is (λ u. Realises items w ty (skeleton ty) u (term_den e w (eta (t_var index) ty) (skeleton ty))) (λ i. o.is)
        (subst (Realises items w ty (skeleton ty) o.value) (sym (expanded e ty (λ n. n) (t_var index) w o.of refl o.entry)) o.realises)
    given_realises {w = w} (gives_val {number = number} {ty = ty} q) c a =
        let o = written.vals number ty q in
        eventually_more (λ i. item_result (inner_result items i) (slice_get items.vals number)) (λ u. Realises items [] ty (skeleton ty) u o.of)
        (λ u. Realises items w ty (skeleton ty) u (term_den e w (eta (t_val number) ty) (skeleton ty)))
        (λ u h.
        subst (Realises items w ty (skeleton ty) u) (sym (expanded e ty (λ n. n) (t_val number) w o.of refl o.is))
        (closed_realises items ty w (items_valued written) (known.val_types number ty q) u o.of h)) o.realises
    given_realises {w = w} (gives_def {number = number} {definition = definition} q) c a =
        let ty = definition.0 in
        let d = term_den e [] (definition.1) (skeleton ty) in
        eventually_more (λ i. item_result (inner_result items i) (slice_get items.defs number)) (λ u. Realises items [] ty (skeleton ty) u d)
        (λ u. Realises items w ty (skeleton ty) u (term_den e w (definition.1) (skeleton ty)))
        (λ u h.
        subst (Realises items w ty (skeleton ty) u) (sym (closed_den w (items_valued written) (known.def_terms number definition q)))
        (closed_realises items ty w (items_valued written) (known.def_types number definition q) u d h))
        (written.defs number definition q)
    given_realises {w = w} (gives_word {word = word} q) c a = eventually_is (IsValue m_word (v_word word)) (λ i. refl) (refl, tt)
    given_realises {w = w} (gives_bool {truth = truth}) c a = eventually_is (IsValue m_bool (v_bool truth)) (λ i. refl) (refl, tt)
    given_realises {w = w} (gives_loc {place_at = place} q) c a = eventually_is (IsValue m_loc (v_loc place)) (λ i. refl) (refl, tt)
    given_realises {w = w} gives_unit c a = eventually_is (IsValue m_unit v_unit) (λ i. refl) (refl, tt)
    given_realises {v = v} {w = w}
        (gives_app {function = function} {argument = argument} {answer = answer} {inner = inner} {value = value} {value' = value'}
        {answer' = answer'} {inner' = inner'} p q d f) c a =
        let x = canonical_given env known c p in
        let y = canonical_fitted env known c (argument_part x.ty) q in
        let n = term_den e w value' (skeleton argument) in
        let may = put_here (items_valued written) (realised_valued items a) y.term in
        let goal = λ (u : RunValue). Realises items w answer' (skeleton answer') u (term_den e w inner' (skeleton answer')) in
        eventually_then (value_of v function)
        (λ u.
        Realises items w (y_fun argument answer) (skeleton (y_fun argument answer)) u
        (term_den e w (t_lam inner) (skeleton (y_fun argument answer)))) goal _ (given_realises p c a) (λ u hu.
        eventually_then (value_of v value) (λ b. Realises items w argument (skeleton argument) b n) goal _
        (fit_realises q (argument_part x.ty) c a) (λ b hb.
        eventually_more (λ i. application_result (inner_result items i) u b)
        (λ z.
        Realises items (den_term (skeleton argument) n ∷ w) answer (skeleton answer) z
        (term_den e (den_term (skeleton argument) n ∷ w) inner (skeleton answer))) goal
        (λ z hz. subst (λ s. Realises items w answer' s z (term_den e w inner' s)) (sym (skeleton_kept d))
        (into (realises_put items d (answer_part x.ty) may (skeleton answer) refl z (term_den e w inner' (skeleton answer)))
        (subst (Realises items (den_term (skeleton argument) n ∷ w) answer (skeleton answer) z) (sym (term_put f (lam_body x.term) may)) hz)))
        (hu b n hb)))
    given_realises {v = v} {w = w} (gives_inst {function = function} {ty = ty} {inner = inner} {mono = mono} p f) c a =
        let x = canonical_given env known c p in
        let h = items_valued written in
        let z = realised_valued items a in
        let t = mono_in w mono in
        let fills = put_along (record { context = ins_here; valuation = entry_here; valued = (valued_other (den_mono t) z).0; heads_valued = h }) in
        let goal = λ (u : RunValue).
        Realises items w (put_mono_ty mono zero ty) (skeleton (put_mono_ty mono zero ty)) u
        (term_den e w (put_mono_term mono zero inner) (skeleton (put_mono_ty mono zero ty))) in
        eventually_then (value_of v function)
        (λ u. Realises items w (y_all ty) (skeleton (y_all ty)) u (term_den e w (t_lam_t inner) (skeleton (y_all ty)))) goal _
        (given_realises p c a) (λ u hu.
        subst (λ s. EventuallyGives (λ i. instance_result (inner_result items i) u s) goal) (sym (mono_closed items f a))
        (eventually_more (λ i. instance_result (inner_result items i) u (Some t))
        (λ b. Realises items (den_mono t ∷ w) ty (skeleton ty) b (term_den e (den_mono t ∷ w) inner (skeleton ty))) goal
        (λ b hb.
        subst (λ s. Realises items w (put_mono_ty mono zero ty) s b (term_den e w (put_mono_term mono zero inner) s))
        (sym (skeleton_filled (put_mono mono zero) (closing zero) ty))
        (into (realises_filled items ty h (under_mono x.ty) fills (valued_other (den_mono t) z).0 (skeleton ty) refl b
        (term_den e w (put_mono_term mono zero inner) (skeleton ty)))
        (subst (Realises items (den_mono t ∷ w) ty (skeleton ty) b) (sym (family_put mono h z (lam_t_body x.term))) hb)))
        (hu t)))
    given_realises (gives_ann p q) c a = fit_realises q (formed_ty env known c p) c a
    given_realises {v = v} {w = w}
        (gives_pair {first = first} {left_mono = left} {first' = first'} {second = second} {right_mono = right} {second' = second'} p q) c a =
        let x = term_den e w first' sk_o in
        let y = term_den e w second' sk_o in
        let goal = IsValue (m_pair (mono_in w left) (mono_in w right)) (v_pair x y) in
        eventually_then (value_of v first) (IsValue (mono_in w left) x) goal _ (given_realises p c a) (λ u hu.
        eventually_then (value_of v second) (IsValue (mono_in w right) y) goal _ (given_realises q c a)
        (λ b hb. two_given (λ n l. Some (v_pair n l)) x y u b goal hu.0 hb.0 (refl, (hu.1, hb.1))))
    given_realises {v = v} {w = w} (gives_fst {term = term} {left_mono = left} {right_mono = right} {term' = term'} p) c a =
        let x = term_den e w term' sk_o in
        let goal = IsValue (mono_in w left) (term_den e w (folding (t_fst term')) sk_o) in
        eventually_then (value_of v term) (IsValue (m_pair (mono_in w left) (mono_in w right)) x) goal _ (given_realises p c a) (λ u hu.
        one_given value_of_fst x u goal hu.0
        (subst (λ n. GivesSo (base_or_fault (value_of_fst x)) (IsValue (mono_in w left) n)) (sym (folded e w (t_fst term')))
        (fst_so (mono_in w left) (mono_in w right) x hu.1)))
    given_realises {v = v} {w = w} (gives_snd {term = term} {left_mono = left} {right_mono = right} {term' = term'} p) c a =
        let x = term_den e w term' sk_o in
        let goal = IsValue (mono_in w right) (term_den e w (folding (t_snd term')) sk_o) in
        eventually_then (value_of v term) (IsValue (m_pair (mono_in w left) (mono_in w right)) x) goal _ (given_realises p c a) (λ u hu.
        one_given value_of_snd x u goal hu.0
        (subst (λ n. GivesSo (base_or_fault (value_of_snd x)) (IsValue (mono_in w right) n)) (sym (folded e w (t_snd term')))
        (snd_so (mono_in w left) (mono_in w right) x hu.1)))
    given_realises {v = v} {w = w} (gives_bin {first = first} {first' = first'} {second = second} {second' = second'} {op = op} p q) c a =
        let x = term_den e w first' sk_o in
        let y = term_den e w second' sk_o in
        let goal = IsValue (mono_in w (op_mono op)) (term_den e w (folding (t_bin op first' second')) sk_o) in
        eventually_then (value_of v first) (IsValue m_word x) goal _ (value_realises p c a) (λ u hu.
        eventually_then (value_of v second) (IsValue m_word y) goal _ (value_realises q c a)
        (λ b hb. two_given (value_of_op op) x y u b goal hu.0 hb.0
        (subst (λ n. GivesSo (base_or_fault (value_of_op op x y)) (IsValue (mono_in w (op_mono op)) n))
        (sym (folded e w (t_bin op first' second')))
        (let n = value_or_unit (value_of_op op x y) in
        gives_more (base_or_fault (value_of_op op x y)) (IsValue (op_mono op) n) (IsValue (mono_in w (op_mono op)) n)
        (λ z hz. (hz.0, op_shape_in n w op hz.1)) (op_so op x y hu.1 hb.1)))))
    given_realises {v = v} {w = w} (gives_not {term = term} {term' = term'} p) c a =
        let x = term_den e w term' sk_o in
        let goal = IsValue m_bool (term_den e w (folding (t_not term')) sk_o) in
        eventually_then (value_of v term) (IsValue m_bool x) goal _ (value_realises p c a) (λ u hu.
        one_given value_of_not x u goal hu.0
        (subst (λ n. GivesSo (base_or_fault (value_of_not x)) (IsValue m_bool n)) (sym (folded e w (t_not term'))) (not_so x hu.1)))
    given_realises {v = v} {w = w} (gives_eq {mono = mono} {first = first} {first' = first'} {second = second} {second' = second'} f s p q) c a =
        let x = term_den e w first' sk_o in
        let y = term_den e w second' sk_o in
        let goal = IsValue m_bool (term_den e w (folding (t_eq mono first' second')) sk_o) in
        eventually_then (value_of v first) (IsValue (mono_in w mono) x) goal _ (value_realises p c a)
        (λ u hu. eventually_then (value_of v second) (IsValue (mono_in w mono) y) goal _ (value_realises q c a) (λ b hb.
        subst (λ t. EventuallyGives (λ i. of_eq t u b) goal) (sym (mono_closed items f a))
        (two_given (value_of_eq (mono_in w mono)) x y u b goal hu.0 hb.0
        (subst (λ n. GivesSo (base_or_fault (value_of_eq (mono_in w mono) x y)) (IsValue m_bool n))
        (sym (folded e w (t_eq mono first' second'))) (eq_so w x y s hu.1 hb.1)))))
    given_realises {v = v} {w = w} (gives_sel {mono = mono} {first = first} {first' = first'} {second = second} {second' = second'}
        {third = third} {third' = third'} f p q s) c a =
        let x = term_den e w first' sk_o in
        let y = term_den e w second' sk_o in
        let z = term_den e w third' sk_o in
        let goal = IsValue (mono_in w mono) (term_den e w (folding (t_sel mono first' second' third')) sk_o) in
        eventually_then (value_of v first) (IsValue m_bool x) goal _ (value_realises p c a) (λ u hu.
        eventually_then (value_of v second) (IsValue (mono_in w mono) y) goal _ (value_realises q c a)
        (λ b hb. eventually_then (value_of v third) (IsValue (mono_in w mono) z) goal _ (value_realises s c a) (λ d hd.
        three_given value_of_sel x y z u b d goal hu.0 hb.0 hd.0
        (subst (λ n. GivesSo (base_or_fault (value_of_sel x y z)) (IsValue (mono_in w mono) n))
        (sym (folded e w (t_sel mono first' second' third'))) (sel_so (mono_in w mono) x y z hu.1 hb.1 hd.1)))))
    given_realises {v = v} {w = w} (gives_fix {fix = fix} {ty = ty} {fix' = fix'} {at = at} p q) c a =
        let x = header env known c p in
        let u = fix_of v fix v fix in
        let f = λ (own : Domain (skeleton ty)). fix_den e w (den_term (skeleton ty) own) fix' (skeleton ty) in
        let r =
        realises_by_fuel items q w v v fix (turns (skeleton ty) f)
        (realises_turns items ty w u f (realises_unentered items q w v v fix) (λ d hd. params_realise q x x c v fix a (skeleton ty) refl d hd)) in
        eventually_is (λ z. Realises items w ty (skeleton ty) z (term_den e w (eta (t_fix at fix') ty) (skeleton ty))) (λ i. refl)
        (subst (Realises items w ty (skeleton ty) u)
        (sym (expanded e ty (λ n. n) (t_fix at fix') w (recursion (skeleton ty) f) (fix_value e w at fix')
        (ap (fix_entry e w fix') (fix_is_of q)))) r)
    given_realises (gives_at p) c a = given_realises p c a

    -- a term of a monotype
    value_realises : {m : Mode} {g : Context} {term r : TermTree} {mono : MonoTree} {o : List Obligation} {v : Env} {w : Valuation}
        → Fits env m g term (y_mono mono) r o
        → IsCanonicalContext (heads_of env) g
        → Realised items g v w
        → EventuallyGives (value_of v term) (IsValue (mono_in w mono) (term_den e w r sk_o))
    value_realises {v = v} {w = w}
        (fits_pair {first = first} {left_mono = left} {first' = first'} {second = second} {right_mono = right} {second' = second'} p q) c a =
        let x = term_den e w first' sk_o in
        let y = term_den e w second' sk_o in
        let goal = IsValue (m_pair (mono_in w left) (mono_in w right)) (v_pair x y) in
        eventually_then (value_of v first) (IsValue (mono_in w left) x) goal _ (value_realises p c a) (λ u hu.
        eventually_then (value_of v second) (IsValue (mono_in w right) y) goal _ (value_realises q c a)
        (λ b hb. two_given (λ n l. Some (v_pair n l)) x y u b goal hu.0 hb.0 (refl, (hu.1, hb.1))))
    value_realises {mono = mono} {v = v} {w = w} (fits_given {term = term} {ty' = ty'} {term' = term'} s p q) c a =
        eventually_more (value_of v term) (λ u. Realises items w ty' (skeleton ty') u (term_den e w term' (skeleton ty')))
        (IsValue (mono_in w mono) (term_den e w term' sk_o)) (λ u h. same_realises items w ty' (y_mono mono) u (term_den e w term') q h)
        (given_realises p c a)
    value_realises (fits_at p) c a = value_realises p c a

    pub fit_realises : {m : Mode} {g : Context} {term r : TermTree} {ty : TyTree} {o : List Obligation} {v : Env} {w : Valuation}
        → Fits env m g term ty r o
        → IsCanonicalTy (heads_of env) (standings g) ty
        → IsCanonicalContext (heads_of env) g
        → Realised items g v w
        → EventuallyGives (value_of v term) (λ u. Realises items w ty (skeleton ty) u (term_den e w r (skeleton ty)))
    fit_realises {v = v} {w = w} (fits_lam {argument = argument} {term = term} {answer = answer} {term' = term'} p) x c a =
        eventually_is
        (λ u.
        Realises items w (y_fun argument answer) (skeleton (y_fun argument answer)) u
        (term_den e w (t_lam term') (skeleton (y_fun argument answer)))) (λ i. refl) (λ b d h.
        eventually_entered items (λ z.
        Realises items (den_term (skeleton argument) d ∷ w) answer (skeleton answer) z
        (term_den e (den_term (skeleton argument) d ∷ w) term' (skeleton answer))) (with_value b v) term
        (fit_realises p (answer_part x) (term_entry c (argument_part x)) (realised_value h a)))
    fit_realises {v = v} {w = w} (fits_lam_t {term = term} {ty = ty} {term' = term'} p) x c a =
        eventually_is (λ u. Realises items w (y_all ty) (skeleton (y_all ty)) u (term_den e w (t_lam_t term') (skeleton (y_all ty))))
        (λ i. refl) (λ t.
        eventually_entered items (λ z. Realises items (den_mono t ∷ w) ty (skeleton ty) z (term_den e (den_mono t ∷ w) term' (skeleton ty)))
        (with_mono t v) term (fit_realises p (under_mono x) (mono_entry c) (realised_mono a)))
    fit_realises {v = v} {w = w}
        (fits_pair {first = first} {left_mono = left} {first' = first'} {second = second} {right_mono = right} {second' = second'} p q) x c a =
        let y = term_den e w first' sk_o in
        let z = term_den e w second' sk_o in
        let goal = IsValue (m_pair (mono_in w left) (mono_in w right)) (v_pair y z) in
        eventually_then (value_of v first) (IsValue (mono_in w left) y) goal _ (value_realises p c a) (λ u hu.
        eventually_then (value_of v second) (IsValue (mono_in w right) z) goal _ (value_realises q c a)
        (λ b hb. two_given (λ n l. Some (v_pair n l)) y z u b goal hu.0 hb.0 (refl, (hu.1, hb.1))))
    fit_realises {v = v} {w = w} (fits_do {comp = comp} {spec = spec} {comp' = comp'} p) x c a =
        eventually_is (λ u. Realises items w (y_hoare spec) sk_c u (comp_den e w comp')) (λ i. refl)
        (λ n h cs. reaches_started items (answer_mono w spec) v comp h cs (comp_den e w comp' n h cs) (body_realises p (spec_part x) c a n h cs))
    fit_realises {v = v} {w = w} (fits_given {term = term} {ty' = ty'} {term' = term'} {ty = ty} s p q) x c a =
        eventually_more (value_of v term) (λ u. Realises items w ty' (skeleton ty') u (term_den e w term' (skeleton ty')))
        (λ u. Realises items w ty (skeleton ty) u (term_den e w term' (skeleton ty)))
        (λ u h. same_realises items w ty' ty u (term_den e w term') q h) (given_realises p c a)
    fit_realises (fits_at p) x c a = fit_realises p x c a

    params_realise : {g : Context} {whole ty : TyTree} {fix r : FixTree} {o : List Obligation} {v : Env} {w : Valuation}
        → FitsFix env g whole fix ty r o
        → IsCanonicalTy (heads_of env) (standings g) whole
        → IsCanonicalTy (heads_of env) (standings g) ty
        → IsCanonicalContext (heads_of env) g
        → (v0 : Env) (fix0 : FixTree)
        → Realised items g v w
        → (s : Skeleton)
        → skeleton whole ≡ s
        → (own : Domain s)
        → Realises items w whole s (fix_of v0 fix0 v0 fix0) own
        → Realises items w ty (skeleton ty) (fix_of v0 fix0 v fix) (entered (skeleton ty) (fix_den e w (den_term s own) r (skeleton ty)))
    params_realise {g = g} {v = v} {w = w} (fix_param {argument' = argument'} {whole = whole} {rest = rest} {answer = answer} {rest' = rest'} p)
        y x c v0 fix0 a s q own h = λ b d hb.
        eventually_is (λ z.
        Realises items (den_term (skeleton argument') d ∷ w) answer (skeleton answer) z
        (entered (skeleton answer) (fix_den e (den_term (skeleton argument') d ∷ w) (den_term s own) rest' (skeleton answer)))) (λ i. refl)
        (params_realise p (ty_renamed y (keeps_suc (as_term (skeleton argument')) (standings g))) (answer_part x)
        (term_entry c (argument_part x)) v0 fix0 (realised_value hb a) s (skeleton_stays suc whole ∙ q) own
        (into (realises_renamed items whole (agree_suc (den_term (skeleton argument') d) w) s (fix_of v0 fix0 v0 fix0) own) h))
    params_realise {g = g} {v = v} {w = w} (fix_body {whole = whole} {comp = comp} {spec' = spec'} {comp' = comp'} p) y x c v0 fix0 a s q
        own h = λ n heap cs.
        subst (λ (z : Skeleton).
        (d : Domain z)
        → Realises items w whole z (fix_of v0 fix0 v0 fix0) d
        → Reaches (answer_mono w spec') (λ j. runner_of items j (with_value (fix_of v0 fix0 v0 fix0) v) comp heap cs)
        (entered sk_c (comp_den e (den_term z d ∷ w) comp') n heap cs)) q
        (λ d hd.
        reaches_body items (answer_mono w spec') (with_value (fix_of v0 fix0 v0 fix0) v) comp (comp_den e (den_term (skeleton whole) d ∷ w) comp')
        (λ m heap2 ds.
        subst (λ t.
        Reaches t (run_of (with_value (fix_of v0 fix0 v0 fix0) v) comp heap2 ds) (comp_den e (den_term (skeleton whole) d ∷ w) comp' m heap2 ds))
        (answer_renamed spec' (agree_suc (den_term (skeleton whole) d) w))
        (body_realises p (triple_renamed (spec_part x) (keeps_suc (as_term (skeleton whole)) (standings g))) (term_entry c y)
        (realised_value hd a) m heap2 ds)) n heap cs) own h

    pub body_realises : {g : Context} {spec : TripleTree} {comp r : CompTree} {o : List Obligation} {v : Env} {w : Valuation}
        → FitsBody env g comp spec r o
        → IsCanonicalTriple (heads_of env) (standings g) spec
        → IsCanonicalContext (heads_of env) g
        → Realised items g v w
        → (n : ℕ) (h : Heap) (cs : List ℕ)
        → Reaches (answer_mono w spec) (run_of v comp h cs) (comp_den e w r n h cs)
    body_realises {g = g} (fits_body p q) (n_triple x m y) c a n h cs = runs_realise p q m (start_kept (standings g) x) c a n h cs

    runs_realise : {g : Context} {mono : MonoTree} {state : FormulaTree} {comp : CompTree} {end : FormulaTree} {zs : List MonoTree}
        {value : TermTree} {parts : List Part} {r : CompTree} {o : List Obligation} {v : Env} {w : Valuation}
        → Runs env g mono state comp end zs value parts o
        → Assembled parts value r
        → IsCanonicalMono (standings g) mono
        → IsCanonicalFormula (heads_of env) (at_state (standings g)) state
        → IsCanonicalContext (heads_of env) g
        → Realised items g v w
        → (n : ℕ) (h : Heap) (cs : List ℕ)
        → Reaches (mono_in w mono) (run_of v comp h cs) (comp_den e w r n h cs)
    runs_realise {v = v} {w = w} (runs_ret {term = term} {mono = mono} {term' = term'} p) assembled_end mc sc c a n h cs =
        let x = term_den e w term' sk_o in
        reaches_with (mono_in w mono) (value_of v term) (IsValue (mono_in w mono) x) (λ j u. done u h cs) (ended x h cs) (value_realises p c a)
        (λ u hu. reaches_end (mono_in w mono) x h cs (λ j. ap (λ z. done z h cs) hu.0) hu.1)
    runs_realise {g = g} {v = v} {w = w}
        (runs_step {step = step} {step_mono = left} {part = part} {mono = mono} {others = others} p q)
        (assembled_part {others = others'} rest s) mc sc c a n h cs =
        let x = moved env known c sc p in
        let inner = term_entry c (n_mono x.mono) in
        let mc' = mono_canonical_renamed mc (keeps_suc (as_term sk_o) (standings g)) in
        let y = ran env known inner mc' x.state q in
        subst (λ (f : Running). Reaches (mono_in w mono) (run_of v (c_step step others) h cs) (f n h cs))
        (sym (joined_den s (items_valued written) (realised_valued items a) x.part (assembled_canonical y.parts rest)))
        (reaches_then (mono_in w left) (mono_in w mono) (λ j. step_result items (inner_result items j) (runner_of items j) v step h cs)
        (part_den e w part n h cs) (λ j u l ds. comp_result items (inner_result items j) (runner_of items j) (with_value u v) others l ds)
        (λ u l ds. comp_den e (den_term sk_o u ∷ w) others' n l ds) (moves_realise p sc c a n h cs)
        (λ u l ds su.
        subst (λ t. Reaches t (run_of (with_value (base u) v) others l ds) (comp_den e (den_term sk_o u ∷ w) others' n l ds))
        (mono_renamed (agree_suc (den_term sk_o u) w) mono)
        (runs_realise q rest mc' x.state inner (realised_value {ty = y_mono left} {u = base u} {d = u} (refl, su) a) n l ds)))

    moves_realise : {g : Context} {state next : FormulaTree} {step : StepTree} {mono : MonoTree} {part : Part} {o : List Obligation}
        {v : Env} {w : Valuation}
        → Moves env g state step mono next part o
        → IsCanonicalFormula (heads_of env) (at_state (standings g)) state
        → IsCanonicalContext (heads_of env) g
        → Realised items g v w
        → (n : ℕ) (h : Heap) (cs : List ℕ)
        → Reaches (mono_in w mono) (λ j. step_result items (inner_result items j) (runner_of items j) v step h cs) (part_den e w part n h cs)
    moves_realise {v = v} {w = w} (moves_alloc {mono = mono} {value = value} {value' = value'} m p) sc c a n h cs =
        let x = term_den e w value' sk_o in
        reaches_with m_loc (value_of v value) (IsValue (mono_in w mono) x) (λ j u. alloc_result u h cs) (alloc_outcome x h cs)
        (value_realises p c a)
        (λ u hu. subst (λ z. Reaches m_loc (λ j. alloc_result z h cs) (alloc_outcome x h cs)) (sym hu.0) (alloc_reached x h cs))
    moves_realise {v = v} {w = w} (moves_get {mono = mono} {place = place} {place' = place'} m p) sc c a n h cs =
        let x = term_den e w place' sk_o in
        let t = mono_in w mono in
        subst (λ z. Reaches t (λ j. run_with (value_of v place j) (λ u. get_result z u h cs)) (get_outcome t x h cs)) (sym (mono_closed items m a))
        (reaches_with t (value_of v place) (IsValue m_loc x) (λ j u. get_result (Some t) u h cs) (get_outcome t x h cs) (value_realises p c a)
        (λ u hu. subst (λ z. Reaches t (λ j. get_result (Some t) z h cs) (get_outcome t x h cs)) (sym hu.0) (get_reached t x h cs)))
    moves_realise {v = v} {w = w} (moves_set {mono = mono} {place = place} {place' = place'} {value = value} {value' = value'} m p q) sc c a n h cs =
        let x = term_den e w place' sk_o in
        let y = term_den e w value' sk_o in
        let t = mono_in w mono in
        subst (λ z.
        Reaches m_unit (λ j. run_with (value_of v place j) (λ u. run_with (value_of v value j) (λ b. set_result z u b h cs)))
        (set_outcome t x y h cs)) (sym (mono_closed items m a))
        (reaches_with m_unit (value_of v place) (IsValue m_loc x) (λ j u. run_with (value_of v value j) (λ b. set_result (Some t) u b h cs))
        (set_outcome t x y h cs) (value_realises p c a) (λ u hu.
        reaches_with m_unit (value_of v value) (IsValue t y) (λ j b. set_result (Some t) u b h cs) (set_outcome t x y h cs) (value_realises q c a) (λ b hb.
        subst (λ z. Reaches m_unit (λ j. set_result (Some t) z b h cs) (set_outcome t x y h cs)) (sym hu.0)
        (subst (λ z. Reaches m_unit (λ j. set_result (Some t) (base x) z h cs) (set_outcome t x y h cs)) (sym hb.0)
        (set_reached t x y h cs)))))
    moves_realise {v = v} {w = w} (moves_free {mono = mono} {place = place} {place' = place'} m p) sc c a n h cs =
        let x = term_den e w place' sk_o in
        let t = mono_in w mono in
        subst (λ z. Reaches m_unit (λ j. run_with (value_of v place j) (λ u. free_result z u h cs)) (free_outcome t x h cs)) (sym (mono_closed items m a))
        (reaches_with m_unit (value_of v place) (IsValue m_loc x) (λ j u. free_result (Some t) u h cs) (free_outcome t x h cs)
        (value_realises p c a)
        (λ u hu. subst (λ z. Reaches m_unit (λ j. free_result (Some t) z h cs) (free_outcome t x h cs)) (sym hu.0) (free_reached t x h cs)))
    moves_realise {v = v} {w = w} (moves_run {term = term} {pre = pre} {mono = mono} {post = post} {comp = comp} p) sc c a n h cs =
        reaches_with (mono_in w mono) (value_of v term)
        (λ u.
        Realises items w (y_hoare (triple pre mono post)) (skeleton (y_hoare (triple pre mono post))) u
        (term_den e w (t_do comp) (skeleton (y_hoare (triple pre mono post))))) (λ j u. start_result (runner_of items j) u h cs)
        (comp_den e w comp n h cs) (given_realises p c a) (λ u hu. hu n h cs)
    moves_realise {g = g} {v = v} {w = w}
        (moves_if {mono = mono} {test = test} {test' = test'} {on_true = on_true} {on_true' = on_true'} {on_false = on_false}
        {on_false' = on_false'} m p q l s r) sc c a n h cs =
        let x = term_den e w test' sk_o in
        let t = mono_in w mono in
        let y = canonical_fitted env known c (n_mono n_m_bool) p in
        let yes = run_of v on_true h cs in
        let no = run_of v on_false h cs in
        let o = branch_outcome x (comp_den e w on_true' n h cs) (comp_den e w on_false' n h cs) in
        reaches_with t (value_of v test) (IsValue m_bool x) (λ j u. branch_result u (yes j) (no j)) o (value_realises p c a)
        (λ u hu. subst (λ z. Reaches t (λ j. branch_result z (yes j) (no j)) o) (sym hu.0)
        (branch_reached t x yes no (comp_den e w on_true' n h cs) (comp_den e w on_false' n h cs) hu.1
        (runs_realise q l (mono_canonical m) (branch_kept (standings g) true sc y.term) c a n h cs)
        (runs_realise s r (mono_canonical m) (branch_kept (standings g) false sc y.term) c a n h cs)))
    moves_realise {w = w} (moves_claim p) sc c a n h cs = reaches_end m_unit v_unit h cs (λ j. refl) tt

pub adequate : DenotationIsAdequate
adequate = record {
  given = λ items env e g v w a m M N A o d. given_realises items env e a.known a.items_realise d a.canonical a.realised;
  fitting = λ items env e g v w a m M N A o x d. fit_realises items env e a.known a.items_realise d x a.canonical a.realised;
  bodies = λ items env e g v w a E r spec o x d n h cs. body_realises items env e a.known a.items_realise d x a.canonical a.realised n h cs;
}
