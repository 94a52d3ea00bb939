-- A term or computation of the text does what its canonical form denotes: by the derivation.
use Rattle.std.proofs.Common.{◌≡◌, ◌<◌, ◌≤◌, ℕ, zero, suc, List, [], ◌∷◌, true, false, Some, slice_get, refl, sym, ap, ◌∙◌, subst, arith}
use Rattle.htt_syntax.specs.Trees.{MonoTree, TyTree, TripleTree, TermTree, FixTree, CompTree, StepTree, FormulaTree, m_word, m_bool, m_loc, m_unit, m_pair}
use Rattle.htt_syntax.specs.Trees.{y_mono, y_fun, y_all, y_hoare, triple, t_var, t_val, t_lam, t_lam_t, t_do, t_fix, t_fst, t_snd, t_not, t_bin, t_eq, t_sel}
use Rattle.theory_values.specs.Values.{v_pair, op_mono, value_of_op, value_of_not, value_of_eq, value_of_sel, value_of_fst, value_of_snd}
use Rattle.theory_values.specs.Heaps.{Heap}
use Rattle.theory_meaning.specs.Closures.{RunValue, base, fix_of, Env, with_mono, with_value, PureResult, done, Items}
use Rattle.theory_meaning.specs.Meaning.{base_or_fault, of_eq, item_result, application_result, instance_result, term_result, inner_result, run_with, then_run}
use Rattle.theory_meaning.specs.Meaning.{start_result, alloc_result, get_result, set_result, free_result, branch_result, comp_result, step_result, runner_of}
use Rattle.theory_canonical.specs.Skeletons.{Skeleton, sk_o, sk_c, skeleton}
use Rattle.theory_canonical.specs.Contexts.{as_term}
use Rattle.theory_canonical.specs.Folding.{folding}
use Rattle.theory_canonical.specs.Eta.{eta}
use Rattle.theory_truth.specs.TermValue.{value_or_unit}
use Rattle.theory_canonical.specs.Canonical.{IsCanonicalTy, IsCanonicalTriple, IsCanonicalFormula, IsCanonicalMono, n_mono, n_m_bool, n_triple}
use Rattle.theory_canonical.proofs.Renamed.{keeps_suc, skeleton_stays, mono_renamed as mono_canonical_renamed, ty_renamed, triple_renamed}
use Rattle.theory_substitution.specs.Monotypes.{put_mono, put_mono_ty, put_mono_term}
use Rattle.theory_substitution.specs.Closing.{closing}
use Rattle.theory_substitution.proofs.Skeletons.{skeleton_kept, skeleton_filled}
use Rattle.theory_substitution_total.specs.Insertion.{ins_here}
use Rattle.theory_typing.specs.Contexts.{Context, Environment, Obligation}
use Rattle.theory_typing.specs.Typing.{Mode, Part, Gives, Fits, FitsFix, FitsBody, Runs, Moves, gives_var, gives_val, gives_def, gives_word}
use Rattle.theory_typing.specs.Typing.{gives_bool, gives_loc, gives_unit, gives_app, gives_inst, gives_ann, gives_pair, gives_fst, gives_snd, gives_bin}
use Rattle.theory_typing.specs.Typing.{gives_not, gives_eq, gives_sel, gives_fix, gives_at, fits_lam, fits_lam_t, fits_pair, fits_do, fits_given, fits_at}
use Rattle.theory_typing.specs.Typing.{fix_param, fix_body, fits_body, runs_ret, runs_step, moves_alloc, moves_get, moves_set}
use Rattle.theory_typing.specs.Typing.{moves_free, moves_run, moves_if, moves_claim, Assembled, assembled_end, assembled_part}
use Rattle.theory_typing_canonical.specs.Environments.{standings, heads_of, at_state, IsCanonicalEnvironment, IsCanonicalContext, mono_entry, term_entry}
use Rattle.theory_typing_canonical.proofs.Entries.{mono_canonical, argument_part, answer_part, under_mono, spec_part, lam_body, lam_t_body, assembled_canonical}
use Rattle.theory_typing_canonical.proofs.StatesKept.{start_kept, branch_kept}
use Rattle.theory_typing_canonical.proofs.Typed.{formed_ty, given as canonical_given, fitted as canonical_fitted, header, ran, moved}
use Rattle.theory_denotation.specs.Outcomes.{Running, ended, alloc_outcome, get_outcome, set_outcome, free_outcome, branch_outcome}
use Rattle.theory_denotation.specs.Valuations.{Domain, den_mono, den_term, Valuation, mono_in, HeadEntries}
use Rattle.theory_denotation.specs.Recursion.{entered, turns, recursion}
use Rattle.theory_denotation.specs.Denotation.{term_den, fix_den, comp_den}
use Rattle.theory_denotation.specs.Satisfaction.{answer_mono}
use Rattle.theory_denotation.proofs.HeadsDenote.{fix_value, valued_other}
use Rattle.theory_denotation_renaming.specs.Insertion.{entry_here}
use Rattle.theory_denotation_renaming.proofs.Renamed.{agree_suc, mono_renamed}
use Rattle.theory_denotation_renaming.proofs.RenamedTruth.{answer_renamed}
use Rattle.theory_denotation_renaming.proofs.Entries.{fix_entry}
use Rattle.theory_denotation_renaming.proofs.Folded.{folded}
use Rattle.theory_denotation_renaming.proofs.Expanded.{expanded}
use Rattle.theory_denotation_renaming.proofs.FilledTruth.{put_along}
use Rattle.theory_denotation_substitution.proofs.Placing.{put_here}
use Rattle.theory_denotation_substitution.proofs.Terms.{term_put, family_put}
use Rattle.theory_denotation_moves.proofs.Agreeing.{into}
use Rattle.theory_typing_sound.proofs.Closed.{closed_den}
use Rattle.theory_typing_sound.proofs.Parts.{part_den, joined_den}
use Rattle.theory_meaning_simulation.specs.Simulation.{GivesSo, AlikeOutcomes, Does, Matches, match_mono, match_value, ItemsDo}
use Rattle.theory_meaning_simulation.specs.Laws.{TextIsDenoted}
use Rattle.theory_meaning_simulation.proofs.Results.{gives_then, gives_more, gives_is, alike_with, alike_then, IsValue, fst_so, snd_so, not_so, op_so, eq_so}
use Rattle.theory_meaning_simulation.proofs.Results.{sel_so, op_shape_in, alloc_alike, get_alike, set_alike, free_alike, branch_alike}
use Rattle.theory_meaning_simulation.proofs.Reindexed.{does_renamed, does_put, does_filled}
use Rattle.theory_meaning_simulation.proofs.Matching.{does_down, match_down, found, mono_closed, match_valued}
use Rattle.theory_meaning_simulation.proofs.Recursions.{does_by_fuel, does_at_zero, turns_do}
use Rattle.theory_meaning_simulation.proofs.Valued.{closed_does, same_does, entered_so, started_alike, one_so, two_so, three_so, items_valued}
use Rattle.theory_typing_sound.proofs.Sound.{header_ends, fix_is_of}

module _ (items : Items) (env : Environment) (e : HeadEntries) (known : IsCanonicalEnvironment env) (written : ItemsDo items env e) where
  -- what evaluating gives at so much fuel
  abbrev value_of : ℕ → Env → TermTree → PureResult
  value_of i v term = term_result items (inner_result items i) v term

  -- a recursive function with all its arguments, run
  body_alike : (t : MonoTree) (v : Env) (comp : CompTree) (f : Running) (j n : ℕ)
      → j ≤ n
      → ((i m : ℕ) → suc i ≡ j → i ≤ m → suc m ≡ n → (h : Heap) (cs : List ℕ) →
      AlikeOutcomes t (comp_result items (inner_result items i) (runner_of items i) v comp h cs) (f m h cs))
      → (h : Heap) (cs : List ℕ)
      → AlikeOutcomes t (runner_of items j v comp h cs) (entered sk_c f n h cs)
  body_alike t v comp f zero n le g h cs = tt
  body_alike t v comp f (suc j) zero le g h cs = absurd (omega (arith, le))
  body_alike t v comp f (suc j) (suc n) le g h cs = g j n refl (omega (arith, le)) refl h cs

  mutual
    unfolding Does skeleton term_den

    pub given_do : {m : Mode} {g : Context} {term r : TermTree} {ty : TyTree} {o : List Obligation} {k : ℕ} {v : Env} {w : Valuation}
        → Gives env m g term ty r o
        → IsCanonicalContext (heads_of env) g
        → Matches items k g v w
        → (i : ℕ)
        → GivesSo (term_result items (inner_result items i) v term) (λ u. Does items w ty (skeleton ty) k u (term_den e w r (skeleton ty)))
    given_do {k = k} {w = w} (gives_var {index = index} {ty = ty} d) c a i =
        let o = found items d a in
        gives_is (λ u. Does items w ty (skeleton ty) k u (term_den e w (eta (t_var index) ty) (skeleton ty))) o.is
        (subst (Does items w ty (skeleton ty) k o.value) (sym (expanded e ty (λ n. n) (t_var index) w o.of refl o.entry)) o.does)
    given_do {k = k} {w = w} (gives_val {number = number} {ty = ty} q) c a i =
        let o = written.vals number ty q in
        gives_more (item_result (inner_result items i) (slice_get items.vals number)) (λ u. Does items [] ty (skeleton ty) k u o.of)
        (λ u. Does items w ty (skeleton ty) k u (term_den e w (eta (t_val number) ty) (skeleton ty)))
        (λ u h.
        subst (Does items w ty (skeleton ty) k u) (sym (expanded e ty (λ n. n) (t_val number) w o.of refl o.is))
        (closed_does items ty w (items_valued written) (known.val_types number ty q) k u o.of h)) (o.does k i)
    given_do {k = k} {w = w} (gives_def {number = number} {definition = definition} q) c a i =
        let ty = definition.0 in
        let d = term_den e [] (definition.1) (skeleton ty) in
        gives_more (item_result (inner_result items i) (slice_get items.defs number)) (λ u. Does items [] ty (skeleton ty) k u d)
        (λ u. Does items w ty (skeleton ty) k u (term_den e w (definition.1) (skeleton ty)))
        (λ u h.
        subst (Does items w ty (skeleton ty) k u) (sym (closed_den w (items_valued written) (known.def_terms number definition q)))
        (closed_does items ty w (items_valued written) (known.def_types number definition q) k u d h))
        (written.defs number definition q k i)
    given_do (gives_word q) c a i = (refl, tt)
    given_do gives_bool c a i = (refl, tt)
    given_do (gives_loc q) c a i = (refl, tt)
    given_do gives_unit c a i = (refl, tt)
    given_do {k = k} {v = v} {w = w}
        (gives_app {function = function} {argument = argument} {answer = answer} {inner = inner} {value = value} {value' = value'}
        {answer' = answer'} {inner' = inner'} p q d f) c a i =
        let x = canonical_given env known c p in
        let y = canonical_fitted env known c (argument_part x.ty) q in
        let n = term_den e w value' (skeleton argument) in
        let may = put_here (items_valued written) (match_valued items a) y.term in
        let goal = λ (u : RunValue). Does items w answer' (skeleton answer') k u (term_den e w inner' (skeleton answer')) in
        gives_then (value_of i v function)
        (λ u.
        Does items w (y_fun argument answer) (skeleton (y_fun argument answer)) k u
        (term_den e w (t_lam inner) (skeleton (y_fun argument answer)))) goal _ (given_do p c a i) (λ u hu.
        gives_then (value_of i v value) (λ b. Does items w argument (skeleton argument) k b n) goal _ (fit_do q (argument_part x.ty) c a i) (λ b hb.
        gives_more (application_result (inner_result items i) u b)
        (λ z.
        Does items (den_term (skeleton argument) n ∷ w) answer (skeleton answer) k z
        (term_den e (den_term (skeleton argument) n ∷ w) inner (skeleton answer))) goal
        (λ z hz. subst (λ s. Does items w answer' s k z (term_den e w inner' s)) (sym (skeleton_kept d))
        (into (does_put items d (answer_part x.ty) may (skeleton answer) refl k z (term_den e w inner' (skeleton answer)))
        (subst (Does items (den_term (skeleton argument) n ∷ w) answer (skeleton answer) k z) (sym (term_put f (lam_body x.term) may)) hz)))
        (hu k (omega arith) b n hb i)))
    given_do {k = k} {v = v} {w = w} (gives_inst {function = function} {ty = ty} {inner = inner} {mono = mono} p f) c a i =
        let x = canonical_given env known c p in
        let h = items_valued written in
        let z = match_valued items a in
        let t = mono_in w mono in
        let fills = put_along (record { context = ins_here; valuation = entry_here; valued = (valued_other (den_mono t) z).0; heads_valued = h }) in
        let goal = λ (u : RunValue).
        Does items w (put_mono_ty mono zero ty) (skeleton (put_mono_ty mono zero ty)) k u
        (term_den e w (put_mono_term mono zero inner) (skeleton (put_mono_ty mono zero ty))) in
        gives_then (value_of i v function)
        (λ u. Does items w (y_all ty) (skeleton (y_all ty)) k u (term_den e w (t_lam_t inner) (skeleton (y_all ty)))) goal _
        (given_do p c a i) (λ u hu.
        subst (λ s. GivesSo (instance_result (inner_result items i) u s) goal) (sym (mono_closed items f a))
        (gives_more (instance_result (inner_result items i) u (Some t))
        (λ b. Does items (den_mono t ∷ w) ty (skeleton ty) k b (term_den e (den_mono t ∷ w) inner (skeleton ty))) goal
        (λ b hb.
        subst (λ s. Does items w (put_mono_ty mono zero ty) s k b (term_den e w (put_mono_term mono zero inner) s))
        (sym (skeleton_filled (put_mono mono zero) (closing zero) ty))
        (into (does_filled items ty h (under_mono x.ty) fills (valued_other (den_mono t) z).0 (skeleton ty) refl k b
        (term_den e w (put_mono_term mono zero inner) (skeleton ty)))
        (subst (Does items (den_mono t ∷ w) ty (skeleton ty) k b) (sym (family_put mono h z (lam_t_body x.term))) hb)))
        (hu t i)))
    given_do (gives_ann p q) c a i = fit_do q (formed_ty env known c p) c a i
    given_do {v = v} {w = w}
        (gives_pair {first = first} {left_mono = left} {first' = first'} {second = second} {right_mono = right} {second' = second'} p q) c a
        i =
        let x = term_den e w first' sk_o in
        let y = term_den e w second' sk_o in
        let goal = IsValue (m_pair (mono_in w left) (mono_in w right)) (v_pair x y) in
        gives_then (value_of i v first) (IsValue (mono_in w left) x) goal _ (given_do p c a i) (λ u hu.
        gives_then (value_of i v second) (IsValue (mono_in w right) y) goal _ (given_do q c a i)
        (λ b hb. two_so (λ n l. Some (v_pair n l)) x y u b goal hu.0 hb.0 (refl, (hu.1, hb.1))))
    given_do {v = v} {w = w} (gives_fst {term = term} {left_mono = left} {right_mono = right} {term' = term'} p) c a i =
        let x = term_den e w term' sk_o in
        let goal = IsValue (mono_in w left) (term_den e w (folding (t_fst term')) sk_o) in
        gives_then (value_of i v term) (IsValue (m_pair (mono_in w left) (mono_in w right)) x) goal _ (given_do p c a i) (λ u hu.
        one_so value_of_fst x u goal hu.0
        (subst (λ n. GivesSo (base_or_fault (value_of_fst x)) (IsValue (mono_in w left) n)) (sym (folded e w (t_fst term')))
        (fst_so (mono_in w left) (mono_in w right) x hu.1)))
    given_do {v = v} {w = w} (gives_snd {term = term} {left_mono = left} {right_mono = right} {term' = term'} p) c a i =
        let x = term_den e w term' sk_o in
        let goal = IsValue (mono_in w right) (term_den e w (folding (t_snd term')) sk_o) in
        gives_then (value_of i v term) (IsValue (m_pair (mono_in w left) (mono_in w right)) x) goal _ (given_do p c a i) (λ u hu.
        one_so value_of_snd x u goal hu.0
        (subst (λ n. GivesSo (base_or_fault (value_of_snd x)) (IsValue (mono_in w right) n)) (sym (folded e w (t_snd term')))
        (snd_so (mono_in w left) (mono_in w right) x hu.1)))
    given_do {v = v} {w = w} (gives_bin {first = first} {first' = first'} {second = second} {second' = second'} {op = op} p q) c a i =
        let x = term_den e w first' sk_o in
        let y = term_den e w second' sk_o in
        let goal = IsValue (mono_in w (op_mono op)) (term_den e w (folding (t_bin op first' second')) sk_o) in
        gives_then (value_of i v first) (IsValue m_word x) goal _ (value_do p c a i) (λ u hu.
        gives_then (value_of i v second) (IsValue m_word y) goal _ (value_do q c a i)
        (λ b hb. two_so (value_of_op op) x y u b goal hu.0 hb.0
        (subst (λ n. GivesSo (base_or_fault (value_of_op op x y)) (IsValue (mono_in w (op_mono op)) n))
        (sym (folded e w (t_bin op first' second')))
        (let n = value_or_unit (value_of_op op x y) in
        gives_more (base_or_fault (value_of_op op x y)) (IsValue (op_mono op) n) (IsValue (mono_in w (op_mono op)) n)
        (λ z hz. (hz.0, op_shape_in n w op hz.1)) (op_so op x y hu.1 hb.1)))))
    given_do {v = v} {w = w} (gives_not {term = term} {term' = term'} p) c a i =
        let x = term_den e w term' sk_o in
        let goal = IsValue m_bool (term_den e w (folding (t_not term')) sk_o) in
        gives_then (value_of i v term) (IsValue m_bool x) goal _ (value_do p c a i) (λ u hu.
        one_so value_of_not x u goal hu.0
        (subst (λ n. GivesSo (base_or_fault (value_of_not x)) (IsValue m_bool n)) (sym (folded e w (t_not term'))) (not_so x hu.1)))
    given_do {v = v} {w = w} (gives_eq {mono = mono} {first = first} {first' = first'} {second = second} {second' = second'} f s p q) c a i =
        let x = term_den e w first' sk_o in
        let y = term_den e w second' sk_o in
        let goal = IsValue m_bool (term_den e w (folding (t_eq mono first' second')) sk_o) in
        gives_then (value_of i v first) (IsValue (mono_in w mono) x) goal _ (value_do p c a i)
        (λ u hu. gives_then (value_of i v second) (IsValue (mono_in w mono) y) goal _ (value_do q c a i) (λ b hb.
        subst (λ t. GivesSo (of_eq t u b) goal) (sym (mono_closed items f a))
        (two_so (value_of_eq (mono_in w mono)) x y u b goal hu.0 hb.0
        (subst (λ n. GivesSo (base_or_fault (value_of_eq (mono_in w mono) x y)) (IsValue m_bool n))
        (sym (folded e w (t_eq mono first' second'))) (eq_so w x y s hu.1 hb.1)))))
    given_do {v = v} {w = w} (gives_sel {mono = mono} {first = first} {first' = first'} {second = second} {second' = second'}
        {third = third} {third' = third'} f p q s) c a i =
        let x = term_den e w first' sk_o in
        let y = term_den e w second' sk_o in
        let z = term_den e w third' sk_o in
        let goal = IsValue (mono_in w mono) (term_den e w (folding (t_sel mono first' second' third')) sk_o) in
        gives_then (value_of i v first) (IsValue m_bool x) goal _ (value_do p c a i) (λ u hu.
        gives_then (value_of i v second) (IsValue (mono_in w mono) y) goal _ (value_do q c a i)
        (λ b hb. gives_then (value_of i v third) (IsValue (mono_in w mono) z) goal _ (value_do s c a i) (λ d hd.
        three_so value_of_sel x y z u b d goal hu.0 hb.0 hd.0
        (subst (λ n. GivesSo (base_or_fault (value_of_sel x y z)) (IsValue (mono_in w mono) n))
        (sym (folded e w (t_sel mono first' second' third'))) (sel_so (mono_in w mono) x y z hu.1 hb.1 hd.1)))))
    given_do {k = k} {v = v} {w = w} (gives_fix {fix = fix} {ty = ty} {fix' = fix'} {at = at} p q) c a i =
        let x = header env known c p in
        let u = fix_of v fix v fix in
        let f = λ (own : Domain (skeleton ty)). fix_den e w (den_term (skeleton ty) own) fix' (skeleton ty) in
        let r =
        does_by_fuel items ty (header_ends p) w k u (turns (skeleton ty) f) (λ l.
        turns_do items ty w u f k (λ m. does_at_zero items q w 0 (omega arith) v v fix (turns (skeleton ty) f m))
        (λ n m le h.
        params_do q x x c (suc n) n (omega arith) v fix (match_down items (suc n) le a) (skeleton ty) refl (turns (skeleton ty) f m) h) l.at
        l.turn l.enough l.below) in
        subst (Does items w ty (skeleton ty) k u)
        (sym (expanded e ty (λ n. n) (t_fix at fix') w (recursion (skeleton ty) f) (fix_value e w at fix')
        (ap (fix_entry e w fix') (fix_is_of q)))) r
    given_do (gives_at p) c a i = given_do p c a i

    -- a term of a monotype
    value_do : {m : Mode} {g : Context} {term r : TermTree} {mono : MonoTree} {o : List Obligation} {k : ℕ} {v : Env} {w : Valuation}
        → Fits env m g term (y_mono mono) r o
        → IsCanonicalContext (heads_of env) g
        → Matches items k g v w
        → (i : ℕ)
        → GivesSo (term_result items (inner_result items i) v term) (IsValue (mono_in w mono) (term_den e w r sk_o))
    value_do {v = v} {w = w}
        (fits_pair {first = first} {left_mono = left} {first' = first'} {second = second} {right_mono = right} {second' = second'} p q) c a
        i =
        let x = term_den e w first' sk_o in
        let y = term_den e w second' sk_o in
        let goal = IsValue (m_pair (mono_in w left) (mono_in w right)) (v_pair x y) in
        gives_then (value_of i v first) (IsValue (mono_in w left) x) goal _ (value_do p c a i) (λ u hu.
        gives_then (value_of i v second) (IsValue (mono_in w right) y) goal _ (value_do q c a i)
        (λ b hb. two_so (λ n l. Some (v_pair n l)) x y u b goal hu.0 hb.0 (refl, (hu.1, hb.1))))
    value_do {mono = mono} {k = k} {v = v} {w = w} (fits_given {term = term} {ty' = ty'} {term' = term'} s p q) c a i =
        gives_more (value_of i v term) (λ u. Does items w ty' (skeleton ty') k u (term_den e w term' (skeleton ty')))
        (IsValue (mono_in w mono) (term_den e w term' sk_o)) (λ u h. same_does items w ty' (y_mono mono) k u (term_den e w term') q h)
        (given_do p c a i)
    value_do (fits_at p) c a i = value_do p c a i

    pub fit_do : {m : Mode} {g : Context} {term r : TermTree} {ty : TyTree} {o : List Obligation} {k : ℕ} {v : Env} {w : Valuation}
        → Fits env m g term ty r o
        → IsCanonicalTy (heads_of env) (standings g) ty
        → IsCanonicalContext (heads_of env) g
        → Matches items k g v w
        → (i : ℕ)
        → GivesSo (term_result items (inner_result items i) v term) (λ u. Does items w ty (skeleton ty) k u (term_den e w r (skeleton ty)))
    fit_do {v = v} {w = w} (fits_lam {argument = argument} {term = term} {answer = answer} {term' = term'} p) x c a i = λ m le b d h n.
        entered_so items (λ z.
        Does items (den_term (skeleton argument) d ∷ w) answer (skeleton answer) m z
        (term_den e (den_term (skeleton argument) d ∷ w) term' (skeleton answer))) (with_value b v) term
        (λ l. fit_do p (answer_part x) (term_entry c (argument_part x)) (match_value h (match_down items m le a)) l) n
    fit_do {k = k} {v = v} {w = w} (fits_lam_t {term = term} {ty = ty} {term' = term'} p) x c a i = λ t n.
        entered_so items (λ z. Does items (den_mono t ∷ w) ty (skeleton ty) k z (term_den e (den_mono t ∷ w) term' (skeleton ty)))
        (with_mono t v) term (λ l. fit_do p (under_mono x) (mono_entry c) (match_mono a) l) n
    fit_do {v = v} {w = w}
        (fits_pair {first = first} {left_mono = left} {first' = first'} {second = second} {right_mono = right} {second' = second'} p q) x c
        a i =
        let y = term_den e w first' sk_o in
        let z = term_den e w second' sk_o in
        let goal = IsValue (m_pair (mono_in w left) (mono_in w right)) (v_pair y z) in
        gives_then (value_of i v first) (IsValue (mono_in w left) y) goal _ (value_do p c a i) (λ u hu.
        gives_then (value_of i v second) (IsValue (mono_in w right) z) goal _ (value_do q c a i)
        (λ b hb. two_so (λ n l. Some (v_pair n l)) y z u b goal hu.0 hb.0 (refl, (hu.1, hb.1))))
    fit_do {k = k} {v = v} {w = w} (fits_do {comp = comp} {spec = spec} {comp' = comp'} p) x c a i =
        started_alike items (answer_mono w spec) v comp (comp_den e w comp') k
        (λ j n below le h cs. body_do p (spec_part x) c a j n below le h cs)
    fit_do {k = k} {v = v} {w = w} (fits_given {term = term} {ty' = ty'} {term' = term'} {ty = ty} s p q) x c a i =
        gives_more (value_of i v term) (λ u. Does items w ty' (skeleton ty') k u (term_den e w term' (skeleton ty')))
        (λ u. Does items w ty (skeleton ty) k u (term_den e w term' (skeleton ty)))
        (λ u h. same_does items w ty' ty k u (term_den e w term') q h) (given_do p c a i)
    fit_do (fits_at p) x c a i = fit_do p x c a i

    params_do : {g : Context} {whole ty : TyTree} {fix r : FixTree} {o : List Obligation} {v : Env} {w : Valuation}
        → FitsFix env g whole fix ty r o
        → IsCanonicalTy (heads_of env) (standings g) whole
        → IsCanonicalTy (heads_of env) (standings g) ty
        → IsCanonicalContext (heads_of env) g
        → (k l : ℕ)
        → k ≤ suc l
        → (v0 : Env) (fix0 : FixTree)
        → Matches items k g v w
        → (s : Skeleton)
        → skeleton whole ≡ s
        → (own : Domain s)
        → Does items w whole s l (fix_of v0 fix0 v0 fix0) own
        → Does items w ty (skeleton ty) k (fix_of v0 fix0 v fix) (entered (skeleton ty) (fix_den e w (den_term s own) r (skeleton ty)))
    params_do {g = g} {v = v} {w = w} (fix_param {argument' = argument'} {whole = whole} p) y x c k l le v0 fix0 a s q own h = λ m below b d hb i.
        params_do p (ty_renamed y (keeps_suc (as_term (skeleton argument')) (standings g))) (answer_part x) (term_entry c (argument_part x))
        m l (omega (arith, below, le)) v0 fix0 (match_value hb (match_down items m below a)) s (skeleton_stays suc whole ∙ q) own
        (into (does_renamed items whole (agree_suc (den_term (skeleton argument') d) w) s l (fix_of v0 fix0 v0 fix0) own) h)
    params_do {g = g} {v = v} {w = w} (fix_body {whole = whole} {comp = comp} {spec' = spec'} {comp' = comp'} p) y x c k l le v0 fix0 a s q
        own h = λ j n below more heap cs.
        subst (λ (z : Skeleton).
        (d : Domain z)
        → Does items w whole z l (fix_of v0 fix0 v0 fix0) d
        → AlikeOutcomes (answer_mono w spec') (runner_of items j (with_value (fix_of v0 fix0 v0 fix0) v) comp heap cs)
        (entered sk_c (comp_den e (den_term z d ∷ w) comp') n heap cs)) q
        (λ d hd.
        body_alike (answer_mono w spec') (with_value (fix_of v0 fix0 v0 fix0) v) comp (comp_den e (den_term (skeleton whole) d ∷ w) comp') j
        n more (λ i m is lower is' heap2 ds.
        let in_k : j ≤ k = omega (arith, below) in
        let in_l : j ≤ l = omega (arith, below, le) in
        let in_j : i < j = omega (arith, is) in
        subst (λ t.
        AlikeOutcomes t (comp_result items (inner_result items i) (runner_of items i) (with_value (fix_of v0 fix0 v0 fix0) v) comp heap2 ds)
        (comp_den e (den_term (skeleton whole) d ∷ w) comp' m heap2 ds)) (answer_renamed spec' (agree_suc (den_term (skeleton whole) d) w))
        (body_do p (triple_renamed (spec_part x) (keeps_suc (as_term (skeleton whole)) (standings g))) (term_entry c y)
        (match_value (does_down items whole w (skeleton whole) l j (fix_of v0 fix0 v0 fix0) d in_l hd) (match_down items j in_k a)) i m in_j
        lower heap2 ds)) heap cs) own h

    pub body_do : {g : Context} {spec : TripleTree} {comp r : CompTree} {o : List Obligation} {k : ℕ} {v : Env} {w : Valuation}
        → FitsBody env g comp spec r o
        → IsCanonicalTriple (heads_of env) (standings g) spec
        → IsCanonicalContext (heads_of env) g
        → Matches items k g v w
        → (j n : ℕ)
        → j < k
        → j ≤ n
        → (h : Heap) (cs : List ℕ)
        → AlikeOutcomes (answer_mono w spec) (comp_result items (inner_result items j) (runner_of items j) v comp h cs)
        (comp_den e w r n h cs)
    body_do {g = g} (fits_body p q) (n_triple x m y) c a j n below le h cs = runs_do p q m (start_kept (standings g) x) c a j n below le h cs

    runs_do : {g : Context} {mono : MonoTree} {state : FormulaTree} {comp : CompTree} {end : FormulaTree} {zs : List MonoTree}
        {value : TermTree} {parts : List Part} {r : CompTree} {o : List Obligation} {k : ℕ} {v : Env} {w : Valuation}
        → Runs env g mono state comp end zs value parts o
        → Assembled parts value r
        → IsCanonicalMono (standings g) mono
        → IsCanonicalFormula (heads_of env) (at_state (standings g)) state
        → IsCanonicalContext (heads_of env) g
        → Matches items k g v w
        → (j n : ℕ)
        → j < k
        → j ≤ n
        → (h : Heap) (cs : List ℕ)
        → AlikeOutcomes (mono_in w mono) (comp_result items (inner_result items j) (runner_of items j) v comp h cs) (comp_den e w r n h cs)
    runs_do {v = v} {w = w} (runs_ret {term = term} {mono = mono} {term' = term'} p) assembled_end mc sc c a j n below le h cs =
        alike_with (mono_in w mono) (value_of j v term) (IsValue (mono_in w mono) (term_den e w term' sk_o)) (λ u. done u h cs)
        (ended (term_den e w term' sk_o) h cs) (value_do p c a j) (λ u hu. (hu.0, hu.1, refl, refl))
    runs_do {g = g} {k = k} {v = v} {w = w}
        (runs_step {step = step} {step_mono = left} {part = part} {mono = mono} {others = others} p q)
        (assembled_part {others = others'} rest s) mc sc c a j n
        below le h cs =
        let x = moved env known c sc p in
        let inner = term_entry c (n_mono x.mono) in
        let mc' = mono_canonical_renamed mc (keeps_suc (as_term sk_o) (standings g)) in
        let y = ran env known inner mc' x.state q in
        subst (λ (f : Running).
        AlikeOutcomes (mono_in w mono)
        (then_run (step_result items (inner_result items j) (runner_of items j) v step h cs)
        (λ u l ds. comp_result items (inner_result items j) (runner_of items j) (with_value u v) others l ds)) (f n h cs))
        (sym (joined_den s (items_valued written) (match_valued items a) x.part (assembled_canonical y.parts rest)))
        (alike_then (mono_in w left) (mono_in w mono) (step_result items (inner_result items j) (runner_of items j) v step h cs)
        (part_den e w part n h cs) _ (λ u l ds. comp_den e (den_term sk_o u ∷ w) others' n l ds) (moves_do p sc c a j n below le h cs)
        (λ u l ds su.
        subst (λ t.
        AlikeOutcomes t (comp_result items (inner_result items j) (runner_of items j) (with_value (base u) v) others l ds)
        (comp_den e (den_term sk_o u ∷ w) others' n l ds)) (mono_renamed (agree_suc (den_term sk_o u) w) mono)
        (runs_do q rest mc' x.state inner (match_value {ty = y_mono left} {u = base u} {d = u} (refl, su) a) j n below le l ds)))

    moves_do : {g : Context} {state next : FormulaTree} {step : StepTree} {mono : MonoTree} {part : Part} {o : List Obligation} {k : ℕ}
        {v : Env} {w : Valuation}
        → Moves env g state step mono next part o
        → IsCanonicalFormula (heads_of env) (at_state (standings g)) state
        → IsCanonicalContext (heads_of env) g
        → Matches items k g v w
        → (j n : ℕ)
        → j < k
        → j ≤ n
        → (h : Heap) (cs : List ℕ)
        → AlikeOutcomes (mono_in w mono) (step_result items (inner_result items j) (runner_of items j) v step h cs)
        (part_den e w part n h cs)
    moves_do {v = v} {w = w} (moves_alloc {mono = mono} {value = value} {value' = value'} m p) sc c a j n below le h cs =
        let x = term_den e w value' sk_o in
        alike_with m_loc (value_of j v value) (IsValue (mono_in w mono) x) (λ u. alloc_result u h cs) (alloc_outcome x h cs)
        (value_do p c a j)
        (λ u hu. subst (λ z. AlikeOutcomes m_loc (alloc_result z h cs) (alloc_outcome x h cs)) (sym hu.0) (alloc_alike x h cs))
    moves_do {v = v} {w = w} (moves_get {mono = mono} {place = place} {place' = place'} m p) sc c a j n below le h cs =
        let x = term_den e w place' sk_o in
        let t = mono_in w mono in
        subst (λ z. AlikeOutcomes t (run_with (value_of j v place) (λ u. get_result z u h cs)) (get_outcome t x h cs)) (sym (mono_closed items m a))
        (alike_with t (value_of j v place) (IsValue m_loc x) (λ u. get_result (Some t) u h cs) (get_outcome t x h cs) (value_do p c a j)
        (λ u hu. subst (λ z. AlikeOutcomes t (get_result (Some t) z h cs) (get_outcome t x h cs)) (sym hu.0) (get_alike t x h cs)))
    moves_do {v = v} {w = w} (moves_set {mono = mono} {place = place} {place' = place'} {value = value} {value' = value'} m p q) sc c a j n below le h cs =
        let x = term_den e w place' sk_o in
        let y = term_den e w value' sk_o in
        let t = mono_in w mono in
        subst (λ z.
        AlikeOutcomes m_unit (run_with (value_of j v place) (λ u. run_with (value_of j v value) (λ b. set_result z u b h cs)))
        (set_outcome t x y h cs)) (sym (mono_closed items m a))
        (alike_with m_unit (value_of j v place) (IsValue m_loc x) (λ u. run_with (value_of j v value) (λ b. set_result (Some t) u b h cs))
        (set_outcome t x y h cs) (value_do p c a j) (λ u hu.
        alike_with m_unit (value_of j v value) (IsValue t y) (λ b. set_result (Some t) u b h cs) (set_outcome t x y h cs) (value_do q c a j) (λ b hb.
        subst (λ z. AlikeOutcomes m_unit (set_result (Some t) z b h cs) (set_outcome t x y h cs)) (sym hu.0)
        (subst (λ z. AlikeOutcomes m_unit (set_result (Some t) (base x) z h cs) (set_outcome t x y h cs)) (sym hb.0)
        (set_alike t x y h cs)))))
    moves_do {v = v} {w = w} (moves_free {mono = mono} {place = place} {place' = place'} m p) sc c a j n below le h cs =
        let x = term_den e w place' sk_o in
        let t = mono_in w mono in
        subst (λ z. AlikeOutcomes m_unit (run_with (value_of j v place) (λ u. free_result z u h cs)) (free_outcome t x h cs)) (sym (mono_closed items m a))
        (alike_with m_unit (value_of j v place) (IsValue m_loc x) (λ u. free_result (Some t) u h cs) (free_outcome t x h cs)
        (value_do p c a j)
        (λ u hu. subst (λ z. AlikeOutcomes m_unit (free_result (Some t) z h cs) (free_outcome t x h cs)) (sym hu.0) (free_alike t x h cs)))
    moves_do {k = k} {v = v} {w = w} (moves_run {term = term} {pre = pre} {mono = mono} {post = post} {comp = comp} p) sc c a j n below le h cs =
        alike_with (mono_in w mono) (value_of j v term)
        (λ u.
        Does items w (y_hoare (triple pre mono post)) (skeleton (y_hoare (triple pre mono post))) k u
        (term_den e w (t_do comp) (skeleton (y_hoare (triple pre mono post))))) (λ u. start_result (runner_of items j) u h cs)
        (comp_den e w comp n h cs) (given_do p c a j) (λ u hu. hu j n below le h cs)
    moves_do {g = g} {v = v} {w = w}
        (moves_if {mono = mono} {test = test} {test' = test'} {on_true = on_true} {on_true' = on_true'} {on_false = on_false}
        {on_false' = on_false'} m p q l s r) sc c a j n below le h cs =
        let x = term_den e w test' sk_o in
        let t = mono_in w mono in
        let y = canonical_fitted env known c (n_mono n_m_bool) p in
        let yes = comp_result items (inner_result items j) (runner_of items j) v on_true h cs in
        let no = comp_result items (inner_result items j) (runner_of items j) v on_false h cs in
        let o = branch_outcome x (comp_den e w on_true' n h cs) (comp_den e w on_false' n h cs) in
        alike_with t (value_of j v test) (IsValue m_bool x) (λ u. branch_result u yes no) o (value_do p c a j)
        (λ u hu. subst (λ z. AlikeOutcomes t (branch_result z yes no) o) (sym hu.0)
        (branch_alike t x yes no (comp_den e w on_true' n h cs) (comp_den e w on_false' n h cs) hu.1
        (runs_do q l (mono_canonical m) (branch_kept (standings g) true sc y.term) c a j n below le h cs)
        (runs_do s r (mono_canonical m) (branch_kept (standings g) false sc y.term) c a j n below le h cs)))
    moves_do (moves_claim p) sc c a j n below le h cs = (refl, tt, refl, refl)

pub denoted : TextIsDenoted
denoted = record {
  given = λ items env e k g v w a m M N A o d i. given_do items env e a.known a.items_do d a.canonical a.matches i;
  fitting = λ items env e k g v w a m M N A o x d i. fit_do items env e a.known a.items_do d x a.canonical a.matches i;
  bodies = λ items env e k g v w a E r spec o x d j n below le h cs. body_do items env e a.known a.items_do d x a.canonical a.matches j n below le h cs;
}
