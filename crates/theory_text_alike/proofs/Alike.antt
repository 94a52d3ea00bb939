-- Phrases that differ in bound names alone come to the same.
use Rattle.std.specs.Prelude.{◌≡◌, ℕ, zero, suc, Bool, true, false, ◌&&◌, ◌==◌, List, [], ◌∷◌, length, Option, Some, None, Result, Ok, Err}
use Rattle.std.proofs.Common.{refl, sym, ap, subst, ◌∙◌}
use Rattle.htt_syntax.specs.declared.mono.Op.TheVariants.{Lt}
use Rattle.htt_syntax.specs.Trees.{TermTree, FixTree, m_pair, y_mono, y_fun, y_all, y_hoare, triple, t_app, t_inst, t_lam, t_lam_t, t_do, t_fix, t_pair, t_fst}
use Rattle.htt_syntax.specs.Trees.{t_snd, t_not, t_bin, t_eq, t_sel, t_ann, x_param, x_body, c_ret, c_step, s_run, s_alloc, s_get, s_set, s_free, s_if, s_claim}
use Rattle.htt_syntax.specs.Trees.{f_and, f_or, f_imp, f_all_t, f_ex_t, f_all_h, f_ex_h, f_emp, f_cell, f_block, f_join, f_same, f_eq, f_rec, more_terms}
use Rattle.theory_typing.specs.Positions.{plain_ty, plain_triple, plain_term, plain_fix, plain_comp, plain_step, plain_formula, plain_terms}
use Rattle.htt_parser_trees.specs.declared.place.Span.{Span}
use Rattle.htt_parser_trees.specs.declared.mono.MonoName.{MonoName}
use Rattle.htt_parser_trees.specs.declared.tree.UnaryWord.{UnaryWord}
use Rattle.htt_parser_trees.specs.declared.tree.UnaryWord.TheVariants as unary_words
use Rattle.htt_parser_trees.specs.declared.tree.RawHeap.{RawHeap}
use Rattle.htt_parser_trees.specs.Trees as raw
use Rattle.theory_text_names.specs.Stops.{Stop, unbound, wrong_sort, ◌>>=◌}
use Rattle.theory_text_names.specs.Scopes.{Sort, a_mono, a_term, a_heap, a_term_or_heap, the_init, the_mem, Local, Scope, one_more, with_local, heap_past}
use Rattle.theory_text_names.specs.Scopes.{at_heap, under_mem, under_heaps}
use Rattle.theory_text_names.specs.Uses.{Use, mono_of_use, term_of_use, heap_of_use, pred_of_use, rec_of_use, term_named, pred_named, rec_named, is_init}
use Rattle.theory_text_names.specs.Uses.{is_mem, heap_or_outer, heap_outside, passed_over, heap_there, heap_comes, current_heap}
use Rattle.theory_text_sugar.specs.Putting.{used_at}
use Rattle.theory_text_sugar.specs.Sugar.{star, left_part, right_part}
use Rattle.theory_text.specs.Monotypes.{mono_name_comes, factor_comes, mono_comes, monos_come}
use Rattle.theory_text.specs.Phrases.{sum_op, prod_op, unary, right_count, count_of, list_of, ty_comes, triple_comes, term_comes, params_come, rel_comes}
use Rattle.theory_text.specs.Phrases.{sum_comes, sum_rest_comes, prod_comes, prod_rest_comes, appl_comes, parts_come, atom_comes, terms_come, comp_comes}
use Rattle.theory_text.specs.Phrases.{step_comes, formula_comes, disj_comes, conj_comes, star_comes, fatom_comes}
use Rattle.theory_text_alike.specs.Agreeing.{SameResult}
use Rattle.theory_text_alike.specs.Alike.{plain_pred, same_mono, alike_preds, same_rec, same_def, same_val, AlikeUse, both_unbound, same_variable}
use Rattle.theory_text_alike.specs.Alike.{same_hypothesis, alike_meanings, AlikeName, under_all, SameSorts, AreAlike, AlikeHeap, AlikeMonoName, AlikeFactor}
use Rattle.theory_text_alike.specs.Alike.{AlikeMono, AlikeMonos, AlikeTy, AlikeTriple, AlikeTerm, AlikeParams, AlikeRel, AlikeSum, AlikeSumRest, AlikeProd}
use Rattle.theory_text_alike.specs.Alike.{AlikeProdRest, AlikeAppl, AlikeParts, AlikeAtom, AlikeTerms, AlikeComp, AlikeStep, AlikeFormula, AlikeDisj, AlikeConj}
use Rattle.theory_text_alike.specs.Alike.{AlikeStar, AlikeFatom, alike_heap_name, alike_init, alike_mem, alike_word, alike_bool, alike_loc, alike_unit}
use Rattle.theory_text_alike.specs.Alike.{alike_mono_name, alike_m_name, alike_m_brackets, alike_m_factor, alike_m_pair, alike_no_monos, alike_more_monos}
use Rattle.theory_text_alike.specs.Alike.{alike_y_fun, alike_y_all, alike_y_hoare, alike_y_mono, alike_triple_of, alike_t_fun, alike_t_fun_mono, alike_t_do}
use Rattle.theory_text_alike.specs.Alike.{alike_t_fix, alike_t_rel, alike_no_params, alike_more_params, alike_r_sum, alike_r_less, alike_s_sum, alike_s_end}
use Rattle.theory_text_alike.specs.Alike.{alike_s_more, alike_x_prod, alike_x_end, alike_x_more, alike_l_unary, alike_l_apply, alike_no_parts, alike_atom_part}
use Rattle.theory_text_alike.specs.Alike.{alike_mono_part, alike_a_name, alike_a_number, alike_a_true, alike_a_false, alike_a_null, alike_a_place, alike_a_eq}
use Rattle.theory_text_alike.specs.Alike.{alike_a_sel, alike_a_unit, alike_a_brackets, alike_a_pair, alike_a_annotated, alike_no_terms, alike_more_terms}
use Rattle.theory_text_alike.specs.Alike.{alike_c_ret, alike_c_step, alike_s_alloc, alike_s_get, alike_s_set, alike_s_free, alike_s_if, alike_s_claim}
use Rattle.theory_text_alike.specs.Alike.{alike_s_run, alike_f_all_t, alike_f_all_h, alike_f_ex_t, alike_f_ex_h, alike_f_disj, alike_f_implies, alike_d_conj}
use Rattle.theory_text_alike.specs.Alike.{alike_d_or, alike_j_star, alike_j_and, alike_k_fatom, alike_k_times, alike_g_tt, alike_g_ff, alike_g_emp}
use Rattle.theory_text_alike.specs.Alike.{alike_g_brackets, alike_g_at_heap, alike_g_emp_of, alike_g_same, alike_g_join, alike_g_cell, alike_g_block}
use Rattle.theory_text_alike.specs.Alike.{alike_g_use, alike_g_use_at, alike_g_use_at_heap, alike_g_eq, alike_g_points, alike_g_points_any}
use Rattle.theory_text_alike.proofs.PlainUses.{use_plain, placed_plain}

pub record Agree {A B : Type 0} (plain : A → B) (r r' : Result A Stop) : Type 0 where
  pub same : SameResult plain r r'

pub agree : {A B : Type 0} {plain : A → B} {a b : A} → plain a ≡ plain b → Agree plain (Ok a) (Ok b)
agree h = record { same = h }

unbound_too : {A B : Type 0} {plain : A → B} (at at' : ℕ) → Agree plain (Err (unbound at)) (Err (unbound at'))
unbound_too at at' = record { same = refl }

wrong_too : {A B : Type 0} {plain : A → B} (at at' : ℕ) → Agree plain (Err (wrong_sort at)) (Err (wrong_sort at'))
wrong_too at at' = record { same = refl }

pub agree_bind : {A A' B B' : Type 0} {f : A → A'} {g : B → B'} {r r' : Result A Stop} {next next' : A → Result B Stop}
    → Agree f r r'
    → ((a a' : A) → f a ≡ f a' → Agree g (next a) (next' a'))
    → Agree g (r >>= next) (r' >>= next')
unfolding ◌>>=◌
agree_bind {r = Ok a} {r' = Ok a'} h k = k a a' h.same
agree_bind {r = Err e} {r' = Err e'} h k = record { same = h.same }
agree_bind {r = Ok a} {r' = Err e'} h k = absurd h.same
agree_bind {r = Err e} {r' = Ok a'} h k = absurd h.same

right_count_alike : (at at' : ℕ) {b b' : Bool} → b ≡ b' → Agree (λ c. c) (right_count at b) (right_count at' b')
right_count_alike at at' {b} {b'} e = go b b' e
  where
    go : (b b' : Bool) → b ≡ b' → Agree (λ c. c) (right_count at b) (right_count at' b')
    go true true e = agree refl
    go false false e = wrong_too at at'
    go true false e = absurd (cc e)
    go false true e = absurd (cc e)

-- ---- scopes

past_alike : (sort : Sort) {h h' : Option ℕ} → h ≡ h' → heap_past sort h ≡ heap_past sort h'
past_alike sort e = ap (heap_past sort) e

pub under_alike : {s s' : Scope} {name name' : Option (List ℕ)} (sort : Sort) → AreAlike s s' → AreAlike (with_local name sort s) (with_local name' sort s')
under_alike sort fits = record { sorts = (refl, fits.sorts); current = past_alike sort fits.current }

at_heap_alike : {s s' : Scope} (h : ℕ) → AreAlike s s' → AreAlike (at_heap s h) (at_heap s' h)
at_heap_alike h fits = record { sorts = fits.sorts; current = refl }

pub under_mem_alike : {s s' : Scope} → AreAlike s s' → AreAlike (under_mem s) (under_mem s')
under_mem_alike fits = at_heap_alike 0 (under_alike the_mem fits)

under_heaps_alike : {s s' : Scope} → AreAlike s s' → AreAlike (under_heaps s) (under_heaps s')
under_heaps_alike fits = under_mem_alike (under_alike the_init fits)

left_part_alike : {s s' : Scope} → AreAlike s s' → AreAlike (left_part s) (left_part s')
left_part_alike fits = at_heap_alike 1 (under_alike a_heap (under_alike a_heap fits))

right_part_alike : {s s' : Scope} → AreAlike s s' → AreAlike (right_part s) (right_part s')
right_part_alike fits = at_heap_alike 0 (under_alike a_heap (under_alike a_heap fits))

-- ---- names

mono_used : (at at' : ℕ) {u u' : Option Use} → AlikeUse u u' → Agree (λ t. t) (mono_of_use at u) (mono_of_use at' u')
mono_used at at' both_unbound = unbound_too at at'
mono_used at at' (same_variable {s = a_mono}) = agree refl
mono_used at at' (same_variable {s = s}) = wrong_too at at'
mono_used at at' same_hypothesis = wrong_too at at'
mono_used at at' (alike_meanings same_mono) = agree refl
mono_used at at' (alike_meanings (alike_preds h)) = wrong_too at at'
mono_used at at' (alike_meanings same_rec) = wrong_too at at'
mono_used at at' (alike_meanings same_def) = wrong_too at at'
mono_used at at' (alike_meanings same_val) = wrong_too at at'

term_used : (at at' : ℕ) {u u' : Option Use} → AlikeUse u u' → Agree plain_term (term_of_use at u) (term_of_use at' u')
term_used at at' both_unbound = unbound_too at at'
term_used at at' (same_variable {s = a_term}) = agree refl
term_used at at' (same_variable {s = a_term_or_heap}) = agree refl
term_used at at' (same_variable {s = s}) = wrong_too at at'
term_used at at' same_hypothesis = wrong_too at at'
term_used at at' (alike_meanings same_mono) = wrong_too at at'
term_used at at' (alike_meanings (alike_preds h)) = wrong_too at at'
term_used at at' (alike_meanings same_rec) = wrong_too at at'
term_used at at' (alike_meanings same_def) = agree refl
term_used at at' (alike_meanings same_val) = agree refl

heap_used : (at at' : ℕ) {u u' : Option Use} → AlikeUse u u' → Agree (λ h. h) (heap_of_use at u) (heap_of_use at' u')
heap_used at at' both_unbound = unbound_too at at'
heap_used at at' (same_variable {s = a_heap}) = agree refl
heap_used at at' (same_variable {s = a_term_or_heap}) = agree refl
heap_used at at' (same_variable {s = s}) = wrong_too at at'
heap_used at at' same_hypothesis = wrong_too at at'
heap_used at at' (alike_meanings same_mono) = wrong_too at at'
heap_used at at' (alike_meanings (alike_preds h)) = wrong_too at at'
heap_used at at' (alike_meanings same_rec) = wrong_too at at'
heap_used at at' (alike_meanings same_def) = wrong_too at at'
heap_used at at' (alike_meanings same_val) = wrong_too at at'

pred_used : (at at' : ℕ) {u u' : Option Use} → AlikeUse u u' → Agree plain_pred (pred_of_use at u) (pred_of_use at' u')
pred_used at at' both_unbound = unbound_too at at'
pred_used at at' same_variable = wrong_too at at'
pred_used at at' same_hypothesis = wrong_too at at'
pred_used at at' (alike_meanings same_mono) = wrong_too at at'
pred_used at at' (alike_meanings (alike_preds h)) = agree h
pred_used at at' (alike_meanings same_rec) = wrong_too at at'
pred_used at at' (alike_meanings same_def) = wrong_too at at'
pred_used at at' (alike_meanings same_val) = wrong_too at at'

rec_used : (at at' : ℕ) {u u' : Option Use} → AlikeUse u u' → Agree (λ p. p) (rec_of_use at u) (rec_of_use at' u')
rec_used at at' both_unbound = unbound_too at at'
rec_used at at' same_variable = wrong_too at at'
rec_used at at' same_hypothesis = wrong_too at at'
rec_used at at' (alike_meanings same_mono) = wrong_too at at'
rec_used at at' (alike_meanings (alike_preds h)) = wrong_too at at'
rec_used at at' (alike_meanings same_rec) = agree refl
rec_used at at' (alike_meanings same_def) = wrong_too at at'
rec_used at at' (alike_meanings same_val) = wrong_too at at'

term_named_alike : (s s' : Scope) (x x' : Span) → AlikeName s s' x x' → Agree plain_term (term_named s x) (term_named s' x')
term_named_alike s s' x x' h = term_used x.from x'.from h

pred_named_alike : (s s' : Scope) (x x' : Span) → AlikeName s s' x x' → Agree plain_pred (pred_named s x) (pred_named s' x')
pred_named_alike s s' x x' h = pred_used x.from x'.from h

rec_named_alike : (s s' : Scope) (x x' : Span) → AlikeName s s' x x' → Agree (λ p. p) (rec_named s x) (rec_named s' x')
rec_named_alike s s' x x' h = rec_used x.from x'.from h

-- ---- heaps

there_alike : (at at' : ℕ) {h h' : Option ℕ} → h ≡ h' → Agree (λ i. i) (heap_there at h) (heap_there at' h')
there_alike at at' {h} {h'} e = go h h' e
  where
    go : (h h' : Option ℕ) → h ≡ h' → Agree (λ i. i) (heap_there at h) (heap_there at' h')
    go None None e = wrong_too at at'
    go (Some i) (Some i') e = agree (cc e)
    go None (Some i') e = absurd (cc e)
    go (Some i) None e = absurd (cc e)

current_alike : {s s' : Scope} → AreAlike s s' → (at at' : ℕ) → Agree (λ h. h) (current_heap s at) (current_heap s' at')
current_alike fits at at' = there_alike at at' fits.current

outer_alike : (b : Bool) (over n : ℕ) (outer outer' : ℕ → Option ℕ)
    → ((k : ℕ) → outer k ≡ outer' k)
    → heap_or_outer b over n outer ≡ heap_or_outer b over n outer'
outer_alike true zero n outer outer' h = refl
outer_alike true (suc fewer) n outer outer' h = h fewer
outer_alike false over n outer outer' h = h over

outside_alike : (kind : Sort → Bool) (over n : ℕ) (ls ks : List Local) → SameSorts ls ks → heap_outside kind over n ls ≡ heap_outside kind over n ks
unfolding heap_outside
outside_alike kind over n [] [] h = refl
outside_alike kind over n [] (k ∷ ks) h = absurd h
outside_alike kind over n (l ∷ ls) [] h = absurd h
outside_alike kind over n (l ∷ ls) (k ∷ ks) h =
    outer_alike (kind l.sort) over n (λ left. heap_outside kind left (one_more l.sort n) ls)
    (λ left. heap_outside kind left (one_more l.sort n) ks) (λ left. outside_alike kind left (one_more l.sort n) ls ks h.1)
    ∙ ap (λ t. heap_or_outer (kind t) over n (λ left. heap_outside kind left (one_more t n) ks)) h.0

heap_alike : {s s' : Scope} {h h' : RawHeap} → AlikeHeap s s' h h' → AreAlike s s' → Agree (λ i. i) (heap_comes s h) (heap_comes s' h')
heap_alike (alike_heap_name {x = x} {x' = x'} p) fits = heap_used x.from x'.from p
heap_alike {s} {s'} (alike_init {at = at} {at' = at'} {over = over} e) fits =
    there_alike at at'
    (outside_alike is_init (passed_over over) 0 s.locals s'.locals fits.sorts ∙ ap (λ n. heap_outside is_init n 0 s'.locals) e)
heap_alike {s} {s'} (alike_mem {at = at} {at' = at'} {over = over} e) fits =
    there_alike at at'
    (outside_alike is_mem (passed_over over) 0 s.locals s'.locals fits.sorts ∙ ap (λ n. heap_outside is_mem n 0 s'.locals) e)

-- ---- monotypes

mono_name_alike : {s s' : Scope} {t t' : MonoName} → AlikeMonoName s s' t t' → Agree (λ t. t) (mono_name_comes s t) (mono_name_comes s' t')
mono_name_alike alike_word = agree refl
mono_name_alike alike_bool = agree refl
mono_name_alike alike_loc = agree refl
mono_name_alike alike_unit = agree refl
mono_name_alike (alike_mono_name {x = x} {x' = x'} h) = mono_used x.from x'.from h

mutual
  unfolding mono_comes

  factor_alike : {s s' : Scope} {t t' : raw.RawFactorTree} → AlikeFactor s s' t t' → AreAlike s s' → Agree (λ t. t) (factor_comes s t) (factor_comes s' t')
  factor_alike (alike_m_name p) fits = mono_name_alike p
  factor_alike (alike_m_brackets p) fits = mono_alike p fits

  pub mono_alike : {s s' : Scope} {t t' : raw.RawMonoTree} → AlikeMono s s' t t' → AreAlike s s' → Agree (λ t. t) (mono_comes s t) (mono_comes s' t')
  mono_alike (alike_m_factor p) fits = factor_alike p fits
  mono_alike (alike_m_pair p q) fits =
      agree_bind (factor_alike p fits) (λ a a' ha. agree_bind (mono_alike q fits) (λ b b' hb. agree (λ j. m_pair (ha j) (hb j))))

monos_alike : {s s' : Scope} {t t' : List raw.RawMonoTree} → AlikeMonos s s' t t' → AreAlike s s' → Agree (λ ts. ts) (monos_come s t) (monos_come s' t')
unfolding monos_come
monos_alike alike_no_monos fits = agree refl
monos_alike (alike_more_monos p q) fits = agree_bind (mono_alike p fits) (λ a a' ha. agree_bind (monos_alike q fits) (λ b b' hb. agree (λ j. ha j ∷ hb j)))

-- ---- counts

monos_counted : {s s' : Scope} {t t' : List raw.RawMonoTree} → AlikeMonos s s' t t' → length t ≡ length t'
monos_counted alike_no_monos = refl
monos_counted (alike_more_monos p q) = ap suc (monos_counted q)

terms_counted : {s s' : Scope} {t t' : raw.RawTermTrees} → AlikeTerms s s' t t' → count_of t ≡ count_of t'
unfolding count_of
terms_counted alike_no_terms = refl
terms_counted (alike_more_terms p q) = ap suc (terms_counted q)

unary_alike : (word : UnaryWord) (m m' : TermTree) → plain_term m ≡ plain_term m' → plain_term (unary word m) ≡ plain_term (unary word m')
unfolding plain_term
unary_alike unary_words.Fst m m' h = ap t_fst h
unary_alike unary_words.Snd m m' h = ap t_snd h
unary_alike unary_words.Not m m' h = ap t_not h

-- ---- phrases

mutual
  unfolding term_comes plain_term count_of list_of

  pub ty_alike : {s s' : Scope} {t t' : raw.RawTyTree} → AlikeTy s s' t t' → AreAlike s s' → Agree plain_ty (ty_comes s t) (ty_comes s' t')
  ty_alike (alike_y_fun p0 p1) fits =
      agree_bind (ty_alike p0 fits)
      (λ A A' hA. agree_bind (ty_alike p1 (under_alike a_term fits)) (λ B B' hB. agree (λ j. y_fun (hA j) (hB j))))
  ty_alike (alike_y_all p0) fits = agree_bind (ty_alike p0 (under_alike a_mono fits)) (λ B B' hB. agree (λ j. y_all (hB j)))
  ty_alike (alike_y_hoare p0) fits = agree_bind (triple_alike p0 fits) (λ T T' hT. agree (λ j. y_hoare (hT j)))
  ty_alike (alike_y_mono p0) fits = agree_bind (mono_alike p0 fits) (λ t t' ht. agree (λ j. y_mono (ht j)))

  pub triple_alike : {s s' : Scope} {t t' : raw.RawTripleTree}
      → AlikeTriple s s' t t'
      → AreAlike s s'
      → Agree plain_triple (triple_comes s t) (triple_comes s' t')
  triple_alike (alike_triple_of p0 p1 p2) fits =
      agree_bind (formula_alike p0 (under_mem_alike fits)) (λ P P' hP.
      agree_bind (mono_alike p1 fits) (λ t t' ht.
      agree_bind (formula_alike p2 (under_heaps_alike (under_alike a_term fits))) (λ Q Q' hQ. agree (λ j. triple (hP j) (ht j) (hQ j)))))

  pub term_alike : {s s' : Scope} {t t' : raw.RawTermTree} → AlikeTerm s s' t t' → AreAlike s s' → Agree plain_term (term_comes s t) (term_comes s' t')
  term_alike (alike_t_fun p0) fits = agree_bind (term_alike p0 (under_alike a_term fits)) (λ M M' hM. agree (λ j. t_lam (hM j)))
  term_alike (alike_t_fun_mono p0) fits = agree_bind (term_alike p0 (under_alike a_mono fits)) (λ M M' hM. agree (λ j. t_lam_t (hM j)))
  term_alike (alike_t_do p0) fits = agree_bind (comp_alike p0 fits) (λ E E' hE. agree (λ j. t_do (hE j)))
  term_alike (alike_t_fix p q r) fits =
      agree_bind (params_alike p fits _ _ (λ inside.
      agree_bind (triple_alike q inside)
      (λ T T' hT. agree_bind (comp_alike r (under_alike a_term inside)) (λ E E' hE. agree (λ j. x_body (hT j) (hE j))))))
      (λ X X' hX. agree (λ j. t_fix 0 (hX j)))
  term_alike (alike_t_rel p0) fits = rel_alike p0 fits

  params_alike : {s s' : Scope} {t t' : raw.RawParamTrees}
      → AlikeParams s s' t t'
      → AreAlike s s'
      → (rest rest' : Scope → Result FixTree Stop)
      → (AreAlike (under_all s t) (under_all s' t') → Agree plain_fix (rest (under_all s t)) (rest' (under_all s' t')))
      → Agree plain_fix (params_come s t rest) (params_come s' t' rest')
  params_alike alike_no_params fits rest rest' k = k fits
  params_alike (alike_more_params p q) fits rest rest' k =
      agree_bind (ty_alike p fits)
      (λ A A' hA. agree_bind (params_alike q (under_alike a_term fits) rest rest' k) (λ X X' hX. agree (λ j. x_param (hA j) (hX j))))

  pub rel_alike : {s s' : Scope} {t t' : raw.RawRelTree} → AlikeRel s s' t t' → AreAlike s s' → Agree plain_term (rel_comes s t) (rel_comes s' t')
  rel_alike (alike_r_sum p0) fits = sum_alike p0 fits
  rel_alike (alike_r_less p0 p1) fits =
      agree_bind (sum_alike p0 fits) (λ M M' hM. agree_bind (sum_alike p1 fits) (λ N N' hN. agree (λ j. t_bin Lt (hM j) (hN j))))

  pub sum_alike : {s s' : Scope} {t t' : raw.RawSumTree} → AlikeSum s s' t t' → AreAlike s s' → Agree plain_term (sum_comes s t) (sum_comes s' t')
  sum_alike (alike_s_sum p0 p1) fits = agree_bind (prod_alike p0 fits) (λ M M' hM. sum_rest_alike p1 fits _ _ _ _ hM)

  pub sum_rest_alike : {s s' : Scope} {t t' : raw.RawSumRestTree}
      → AlikeSumRest s s' t t'
      → AreAlike s s'
      → (at at' : ℕ) (M M' : TermTree)
      → plain_term M ≡ plain_term M'
      → Agree plain_term (sum_rest_comes s at M t) (sum_rest_comes s' at' M' t')
  sum_rest_alike alike_s_end fits at at' M M' hM = agree hM
  sum_rest_alike (alike_s_more {sign = sign} p0 p1) fits at at' M M' hM =
      agree_bind (prod_alike p0 fits) (λ N N' hN. sum_rest_alike p1 fits _ _ _ _ (λ j. t_bin (sum_op sign) (hM j) (hN j)))

  pub prod_alike : {s s' : Scope} {t t' : raw.RawProdTree} → AlikeProd s s' t t' → AreAlike s s' → Agree plain_term (prod_comes s t) (prod_comes s' t')
  prod_alike (alike_x_prod p0 p1) fits = agree_bind (appl_alike p0 fits) (λ M M' hM. prod_rest_alike p1 fits _ _ _ _ hM)

  pub prod_rest_alike : {s s' : Scope} {t t' : raw.RawProdRestTree}
      → AlikeProdRest s s' t t'
      → AreAlike s s'
      → (at at' : ℕ) (M M' : TermTree)
      → plain_term M ≡ plain_term M'
      → Agree plain_term (prod_rest_comes s at M t) (prod_rest_comes s' at' M' t')
  prod_rest_alike alike_x_end fits at at' M M' hM = agree hM
  prod_rest_alike (alike_x_more {sign = sign} p0 p1) fits at at' M M' hM =
      agree_bind (appl_alike p0 fits) (λ N N' hN. prod_rest_alike p1 fits _ _ _ _ (λ j. t_bin (prod_op sign) (hM j) (hN j)))

  pub appl_alike : {s s' : Scope} {t t' : raw.RawApplTree} → AlikeAppl s s' t t' → AreAlike s s' → Agree plain_term (appl_comes s t) (appl_comes s' t')
  appl_alike (alike_l_unary {word = word} p0) fits = agree_bind (atom_alike p0 fits) (λ M M' hM. agree (unary_alike word M M' hM))
  appl_alike (alike_l_apply p0 p1) fits = agree_bind (atom_alike p0 fits) (λ M M' hM. parts_alike p1 fits _ _ _ _ hM)

  pub parts_alike : {s s' : Scope} {t t' : raw.RawPartTrees}
      → AlikeParts s s' t t'
      → AreAlike s s'
      → (at at' : ℕ) (M M' : TermTree)
      → plain_term M ≡ plain_term M'
      → Agree plain_term (parts_come s at M t) (parts_come s' at' M' t')
  parts_alike alike_no_parts fits at at' M M' hM = agree hM
  parts_alike (alike_atom_part p0 p1) fits at at' M M' hM = agree_bind (atom_alike p0 fits) (λ N N' hN. parts_alike p1 fits _ _ _ _ (λ j. t_app (hM j) (hN j)))
  parts_alike (alike_mono_part p0 p1) fits at at' M M' hM = agree_bind (mono_alike p0 fits) (λ t t' ht. parts_alike p1 fits _ _ _ _ (λ j. t_inst (hM j) (ht j)))

  pub atom_alike : {s s' : Scope} {t t' : raw.RawAtomTree} → AlikeAtom s s' t t' → AreAlike s s' → Agree plain_term (atom_comes s t) (atom_comes s' t')
  atom_alike (alike_a_name {s = s} {s' = s'} {span = span} {span' = span'} p0) fits =
      agree_bind (term_named_alike s s' span span' p0) (λ M M' hM. agree (λ j. hM j))
  atom_alike alike_a_number fits = agree refl
  atom_alike alike_a_true fits = agree refl
  atom_alike alike_a_false fits = agree refl
  atom_alike alike_a_null fits = agree refl
  atom_alike alike_a_place fits = agree refl
  atom_alike (alike_a_eq p0 p1 p2) fits =
      agree_bind (mono_alike p0 fits) (λ t t' ht.
      agree_bind (term_alike p1 fits) (λ M M' hM. agree_bind (term_alike p2 fits) (λ N N' hN. agree (λ j. t_eq (ht j) (hM j) (hN j)))))
  atom_alike (alike_a_sel p0 p1 p2 p3) fits =
      agree_bind (mono_alike p0 fits) (λ t t' ht.
      agree_bind (term_alike p1 fits) (λ B B' hB.
      agree_bind (term_alike p2 fits)
      (λ M M' hM. agree_bind (term_alike p3 fits) (λ N N' hN. agree (λ j. t_sel (ht j) (hB j) (hM j) (hN j))))))
  atom_alike alike_a_unit fits = agree refl
  atom_alike (alike_a_brackets p0) fits = term_alike p0 fits
  atom_alike (alike_a_pair p0 p1) fits =
      agree_bind (term_alike p0 fits) (λ M M' hM. agree_bind (term_alike p1 fits) (λ N N' hN. agree (λ j. t_pair (hM j) (hN j))))
  atom_alike (alike_a_annotated p0 p1) fits =
      agree_bind (term_alike p0 fits) (λ M M' hM. agree_bind (ty_alike p1 fits) (λ A A' hA. agree (λ j. t_ann (hM j) (hA j))))

  pub terms_alike : {s s' : Scope} {t t' : raw.RawTermTrees} → AlikeTerms s s' t t' → AreAlike s s' → Agree plain_terms (terms_come s t) (terms_come s' t')
  terms_alike alike_no_terms fits = agree refl
  terms_alike (alike_more_terms p0 p1) fits =
      agree_bind (term_alike p0 fits)
      (λ M M' hM. agree_bind (terms_alike p1 fits) (λ others others' hothers. agree (λ j. more_terms (hM j) (hothers j))))

  pub comp_alike : {s s' : Scope} {t t' : raw.RawCompTree} → AlikeComp s s' t t' → AreAlike s s' → Agree plain_comp (comp_comes s t) (comp_comes s' t')
  comp_alike (alike_c_ret p0) fits = agree_bind (term_alike p0 fits) (λ M M' hM. agree (λ j. c_ret (hM j)))
  comp_alike (alike_c_step p0 p1) fits =
      agree_bind (step_alike p0 fits)
      (λ S S' hS. agree_bind (comp_alike p1 (under_alike a_term fits)) (λ E E' hE. agree (λ j. c_step (hS j) (hE j))))

  pub step_alike : {s s' : Scope} {t t' : raw.RawStepTree} → AlikeStep s s' t t' → AreAlike s s' → Agree plain_step (step_comes s t) (step_comes s' t')
  step_alike (alike_s_alloc p0 p1) fits =
      agree_bind (mono_alike p0 fits) (λ t t' ht. agree_bind (atom_alike p1 fits) (λ M M' hM. agree (λ j. s_alloc (ht j) (hM j))))
  step_alike (alike_s_get p0 p1) fits =
      agree_bind (mono_alike p0 fits) (λ t t' ht. agree_bind (atom_alike p1 fits) (λ M M' hM. agree (λ j. s_get (ht j) (hM j))))
  step_alike (alike_s_set p0 p1 p2) fits =
      agree_bind (mono_alike p0 fits) (λ t t' ht.
      agree_bind (atom_alike p1 fits) (λ M M' hM. agree_bind (atom_alike p2 fits) (λ N N' hN. agree (λ j. s_set (ht j) (hM j) (hN j)))))
  step_alike (alike_s_free p0 p1) fits =
      agree_bind (mono_alike p0 fits) (λ t t' ht. agree_bind (atom_alike p1 fits) (λ M M' hM. agree (λ j. s_free (ht j) (hM j))))
  step_alike (alike_s_if p0 p1 p2 p3) fits =
      agree_bind (mono_alike p0 fits) (λ t t' ht.
      agree_bind (atom_alike p1 fits) (λ B B' hB.
      agree_bind (comp_alike p2 fits)
      (λ E E' hE. agree_bind (comp_alike p3 fits) (λ E' E'' hE'. agree (λ j. s_if (ht j) (hB j) (hE j) (hE' j))))))
  step_alike (alike_s_claim p0) fits = agree_bind (formula_alike p0 (under_heaps_alike fits)) (λ F F' hF. agree (λ j. s_claim (hF j)))
  step_alike (alike_s_run p0) fits = agree_bind (appl_alike p0 fits) (λ K K' hK. agree (λ j. s_run (hK j) None))

  pub formula_alike : {s s' : Scope} {t t' : raw.RawFormulaTree}
      → AlikeFormula s s' t t'
      → AreAlike s s'
      → Agree plain_formula (formula_comes s t) (formula_comes s' t')
  formula_alike (alike_f_all_t p0 p1) fits =
      agree_bind (mono_alike p0 fits)
      (λ t t' ht. agree_bind (formula_alike p1 (under_alike a_term fits)) (λ F F' hF. agree (λ j. f_all_t (ht j) (hF j))))
  formula_alike (alike_f_all_h p0) fits = agree_bind (formula_alike p0 (under_alike a_heap fits)) (λ F F' hF. agree (λ j. f_all_h (hF j)))
  formula_alike (alike_f_ex_t p0 p1) fits =
      agree_bind (mono_alike p0 fits)
      (λ t t' ht. agree_bind (formula_alike p1 (under_alike a_term fits)) (λ F F' hF. agree (λ j. f_ex_t (ht j) (hF j))))
  formula_alike (alike_f_ex_h p0) fits = agree_bind (formula_alike p0 (under_alike a_heap fits)) (λ F F' hF. agree (λ j. f_ex_h (hF j)))
  formula_alike (alike_f_disj p0) fits = disj_alike p0 fits
  formula_alike (alike_f_implies p0 p1) fits =
      agree_bind (disj_alike p0 fits) (λ F F' hF. agree_bind (formula_alike p1 fits) (λ G G' hG. agree (λ j. f_imp (hF j) (hG j))))

  pub disj_alike : {s s' : Scope} {t t' : raw.RawDisjTree} → AlikeDisj s s' t t' → AreAlike s s' → Agree plain_formula (disj_comes s t) (disj_comes s' t')
  disj_alike (alike_d_conj p0) fits = conj_alike p0 fits
  disj_alike (alike_d_or p0 p1) fits = agree_bind (conj_alike p0 fits) (λ F F' hF. agree_bind (disj_alike p1 fits) (λ G G' hG. agree (λ j. f_or (hF j) (hG j))))

  pub conj_alike : {s s' : Scope} {t t' : raw.RawConjTree} → AlikeConj s s' t t' → AreAlike s s' → Agree plain_formula (conj_comes s t) (conj_comes s' t')
  conj_alike (alike_j_star p0) fits = star_alike p0 fits
  conj_alike (alike_j_and p0 p1) fits =
      agree_bind (star_alike p0 fits) (λ F F' hF. agree_bind (conj_alike p1 fits) (λ G G' hG. agree (λ j. f_and (hF j) (hG j))))

  pub star_alike : {s s' : Scope} {t t' : raw.RawStarTree} → AlikeStar s s' t t' → AreAlike s s' → Agree plain_formula (star_comes s t) (star_comes s' t')
  star_alike (alike_k_fatom p0) fits = fatom_alike p0 fits
  star_alike (alike_k_times p0 p1) fits =
      agree_bind (current_alike fits _ _) (λ h h' hh.
      agree_bind (fatom_alike p0 (left_part_alike fits))
      (λ P P' hP. agree_bind (star_alike p1 (right_part_alike fits)) (λ Q Q' hQ. agree (λ j. star (hh j) (hP j) (hQ j)))))

  pub fatom_alike : {s s' : Scope} {t t' : raw.RawFatomTree} → AlikeFatom s s' t t' → AreAlike s s' → Agree plain_formula (fatom_comes s t) (fatom_comes s' t')
  fatom_alike alike_g_tt fits = agree refl
  fatom_alike alike_g_ff fits = agree refl
  fatom_alike alike_g_emp fits = agree_bind (current_alike fits _ _) (λ h h' hh. agree (λ j. f_emp (hh j)))
  fatom_alike (alike_g_brackets p0) fits = formula_alike p0 fits
  fatom_alike (alike_g_at_heap {s = s} {s' = s'} {formula = formula} {formula' = formula'} p0 p1) fits =
      agree_bind (heap_alike p0 fits) (λ k k' hk.
      agree_bind (subst (λ i. Agree plain_formula (formula_comes (at_heap s k) formula) (formula_comes (at_heap s' i) formula')) hk
      (formula_alike (p1 k) (at_heap_alike k fits))) (λ P P' hP. agree (λ j. hP j)))
  fatom_alike (alike_g_emp_of p0) fits = agree_bind (heap_alike p0 fits) (λ h h' hh. agree (λ j. f_emp (hh j)))
  fatom_alike (alike_g_same p0 p1) fits =
      agree_bind (heap_alike p0 fits) (λ h h' hh. agree_bind (heap_alike p1 fits) (λ k k' hk. agree (λ j. f_same (hh j) (hk j))))
  fatom_alike (alike_g_join p0 p1 p2) fits =
      agree_bind (heap_alike p0 fits) (λ h h' hh.
      agree_bind (heap_alike p1 fits) (λ a a' ha. agree_bind (heap_alike p2 fits) (λ b b' hb. agree (λ j. f_join (hh j) (ha j) (hb j)))))
  fatom_alike (alike_g_cell p0 p1 p2 p3) fits =
      agree_bind (mono_alike p0 fits) (λ t t' ht.
      agree_bind (heap_alike p1 fits) (λ h h' hh.
      agree_bind (term_alike p2 fits)
      (λ M M' hM. agree_bind (term_alike p3 fits) (λ N N' hN. agree (λ j. f_cell (ht j) (hh j) (hM j) (hN j))))))
  fatom_alike (alike_g_block p0 p1 p2) fits =
      agree_bind (mono_alike p0 fits) (λ t t' ht.
      agree_bind (heap_alike p1 fits) (λ h h' hh. agree_bind (term_alike p2 fits) (λ M M' hM. agree (λ j. f_block (ht j) (hh j) (hM j)))))
  fatom_alike (alike_g_use {s = s} {s' = s'} {at = at} {at' = at'} {name = name} {name' = name'} p0 p1 p2) fits =
      agree_bind (current_alike fits _ _) (λ h h' hh.
      agree_bind (pred_named_alike s s' name name' p0) (λ p p' hp.
      agree_bind (right_count_alike _ _ (λ j. monos_counted p1 j == (hp j).monos && terms_counted p2 j == length (hp j).params)) (λ c c' hc.
      agree_bind (monos_alike p1 fits) (λ ts ts' hts.
      agree_bind (terms_alike p2 fits) (λ Ms Ms' hMs.
      agree (placed_plain at (used_at p ts (list_of Ms) h)
      ∙ use_plain p ts Ms h
      ∙ (λ j. used_at (hp j) (hts j) (list_of (hMs j)) (hh j))
      ∙ sym (use_plain p' ts' Ms' h')
      ∙ sym (placed_plain at' (used_at p' ts' (list_of Ms') h'))))))))
  fatom_alike (alike_g_use_at {s = s} {s' = s'} {name = name} {name' = name'} p0 p1 p2) fits =
      agree_bind (current_alike fits _ _) (λ h h' hh.
      agree_bind (rec_named_alike s s' name name' p0) (λ p p' hp.
      agree_bind (right_count_alike _ _ (λ j. terms_counted p2 j == (hp j).1)) (λ counted counted' hcounted.
      agree_bind (term_alike p1 fits)
      (λ N N' hN. agree_bind (terms_alike p2 fits) (λ Ms Ms' hMs. agree (λ j. f_rec (hp j).0 (hh j) (hN j) (hMs j)))))))
  fatom_alike (alike_g_use_at_heap {s = s} {s' = s'} {name = name} {name' = name'} p0 p1 p2 p3) fits =
      agree_bind (rec_named_alike s s' name name' p0) (λ p p' hp.
      agree_bind (right_count_alike _ _ (λ j. terms_counted p3 j == (hp j).1)) (λ counted counted' hcounted.
      agree_bind (heap_alike p1 fits) (λ h h' hh.
      agree_bind (term_alike p2 fits)
      (λ N N' hN. agree_bind (terms_alike p3 fits) (λ Ms Ms' hMs. agree (λ j. f_rec (hp j).0 (hh j) (hN j) (hMs j)))))))
  fatom_alike (alike_g_eq p0 p1 p2) fits =
      agree_bind (rel_alike p0 fits) (λ M M' hM.
      agree_bind (mono_alike p1 fits) (λ t t' ht. agree_bind (rel_alike p2 fits) (λ N N' hN. agree (λ j. f_eq (ht j) (hM j) (hN j)))))
  fatom_alike (alike_g_points p0 p1 p2) fits =
      agree_bind (current_alike fits _ _) (λ h h' hh.
      agree_bind (rel_alike p0 fits) (λ M M' hM.
      agree_bind (mono_alike p1 fits)
      (λ t t' ht. agree_bind (rel_alike p2 fits) (λ N N' hN. agree (λ j. f_cell (ht j) (hh j) (hM j) (hN j))))))
  fatom_alike (alike_g_points_any p0 p1) fits =
      agree_bind (current_alike fits _ _) (λ h h' hh.
      agree_bind (rel_alike p0 fits) (λ M M' hM. agree_bind (mono_alike p1 fits) (λ t t' ht. agree (λ j. f_block (ht j) (hh j) (hM j)))))
