-- The values of terms, and of the parameters of calls, where all variables have values.
use Rattle.std.proofs.Common.{◌≡◌, ℕ, zero, suc, List, [], ◌∷◌, ◌++◌, map, Some, slice_get, refl, sym, ap, ◌∙◌, subst}
use Rattle.std.proofs.lemmas.List.{map-append}
use Rattle.htt_syntax.specs.Trees.{MonoTree, TermTree, TermTrees, m_pair, t_var, t_made}
use Rattle.theory_values.specs.Values.{Value}
use Rattle.theory_truth.specs.Worlds.{th_value}
use Rattle.theory_truth.specs.TermValue.{term_value}
use Rattle.theory_canonical.specs.Skeletons.{Skeleton, sk_o, sk_c, sk_arrow, sk_all, skeleton}
use Rattle.theory_canonical.specs.Contexts.{Standing, as_mono, as_term, Stands, Heads, HasSkeleton, first_head, later_head}
use Rattle.theory_canonical.specs.Canonical.{IsCanonicalMono, n_m_word, n_m_bool, n_m_loc, n_m_unit, n_m_pair, n_m_var}
use Rattle.theory_canonical.specs.Canonical.{IsCanonical, IsNeutral, IsCanonicalTerms, n_word, n_bool, n_loc, n_unit, n_pair, n_fst, n_snd, n_not, n_bin}
use Rattle.theory_canonical.specs.Canonical.{n_eq, n_sel, n_lam, n_lam_t, n_do, n_neutral, e_made, n_no_terms, n_more_terms}
use Rattle.theory_denotation.specs.Valuations.{den_term, Valuation, mono_in, HeadEntries}
use Rattle.theory_denotation.specs.Denotation.{term_den}
use Rattle.theory_denotation.specs.Valued.{EndsInRun, ends_c, ends_arrow, ends_all, HeadsRun, OnlyValues, valuation_of}
use Rattle.theory_denotation.proofs.FirstOrder.{value_first}
use Rattle.theory_denotation_relations.specs.Files.{AreVals, vals_more}
use Rattle.theory_instances.specs.Calls.{ProgramVal, Program, Argument, of_term, of_mono, passed_of, head_of, arguments_of, head_ty, list_of, Site}
use Rattle.theory_instances.specs.Keys.{Key}
use Rattle.theory_instances.specs.Lists.{Taken, HasInstances}
use Rattle.theory_flat.specs.Flat.{captured_params, Names, names_key, names_made}
use Rattle.theory_flat.specs.Reading.{value_in}
use Rattle.theory_instances_denoted.specs.Arguments.{CanonicalArguments, arguments_none, arguments_term, arguments_mono}
use Rattle.theory_instances_keys.specs.Laws.{with_values}
use Rattle.theory_instances_canonical.specs.Keys.{values_context, heads_with, val_tree, IsCanonicalProgram, CanonicalFixed, fixed_end, fixed_value}
use Rattle.theory_instances_canonical.specs.Keys.{fixed_term, fixed_mono}
use Rattle.theory_instances_canonical.proofs.Contexts.{stands_is}
use Rattle.theory_instances_canonical.proofs.Values.{term_skeleton}
use Rattle.theory_instances_canonical.proofs.More.{taken_more, key_more}
use Rattle.theory_instances_canonical.proofs.Sites.{spine_of}
use Rattle.theory_instances_canonical.proofs.Taken.{canonical}
use Rattle.theory_instances_heads.proofs.Made.{skeleton_of_key, key_parts}
use Rattle.theory_instances_linked.specs.Laws.{values_of}

-- all heads end in computations
vals_run : (vals : List ProgramVal) {before : List Skeleton}
    → AreVals before (map val_tree vals)
    → (n : ℕ) (s : Skeleton)
    → HasSkeleton (map (λ (v : ProgramVal). skeleton v.ty) vals) n s
    → EndsInRun s
vals_run [] a n s d = elim d [ ]
vals_run (v ∷ vals) (vals_more c r others) zero s first_head = r
vals_run (v ∷ vals) (vals_more c r others) (suc n) s (later_head d) = vals_run vals others n s d

fixed_runs : {heads : Heads} {g : List Standing} {s : Skeleton} {fixed : List Argument} → CanonicalFixed heads g s fixed → EndsInRun s
fixed_runs fixed_end = ends_c
fixed_runs (fixed_value f) = ends_arrow (fixed_runs f)
fixed_runs (fixed_term i c f) = ends_arrow (fixed_runs f)
fixed_runs (fixed_mono c f) = ends_all (fixed_runs f)

made_run : (p : Program) (keys : List Key)
    → ((n : ℕ) (key : Key) → slice_get keys n ≡ Some key → EndsInRun (skeleton_of_key p key))
    → (n : ℕ) (s : Skeleton)
    → HasSkeleton (map (skeleton_of_key p) keys) n s
    → EndsInRun s
made_run p [] each n s d = elim d [ ]
made_run p (key ∷ keys) each zero s first_head = each zero key refl
made_run p (key ∷ keys) each (suc n) s (later_head d) = made_run p keys (λ i. each (suc i)) n s d

pub heads_run : (p : Program) (instances : List Taken) (keys : List Key)
    → IsCanonicalProgram p
    → HasInstances p instances keys
    → HeadsRun (heads_with p keys)
heads_run p instances keys program h = record {
  vals = vals_run p.vals program;
  made = made_run p keys (λ n key q.
      fixed_runs ((key_parts keys (key_more (taken_more p n keys) (canonical.keys p instances keys program h n key q))).fixed));
}

only_values : (m : ℕ) → OnlyValues (values_context m)
only_values m = record { at = λ n s d. term_skeleton ((stands_is m n (as_term s) d).0) }

no_mono : as_mono ≡ as_term sk_o → ⊥
no_mono q = cc

-- a monotype has no variables
closed_mono : {g : List Standing} (w : Valuation) {t : MonoTree}
    → ((n : ℕ) → Stands g n as_mono → ⊥)
    → IsCanonicalMono g t
    → t ≡ mono_in w t
closed_mono w none n_m_word = refl
closed_mono w none n_m_bool = refl
closed_mono w none n_m_loc = refl
closed_mono w none n_m_unit = refl
closed_mono w none (n_m_pair a b) = λ j. m_pair (closed_mono w none a j) (closed_mono w none b j)
closed_mono w none (n_m_var {index = index} d) = absurd (none index d)

pub mono_itself : (m : ℕ) (w : Valuation) {t : MonoTree} → IsCanonicalMono (values_context m) t → t ≡ mono_in w t
mono_itself m w c = closed_mono w (λ n d. no_mono ((stands_is m n as_mono d).0)) c

valuation_is : (vs : List Value) → valuation_of (map th_value vs) ≡ with_values vs
valuation_is [] = refl
valuation_is (v ∷ vs) = λ j. den_term sk_o v ∷ valuation_is vs j

variable_value : (e : HeadEntries) (vs : List Value) (n : ℕ) → value_in vs (t_var n) ≡ term_den e (with_values vs) (t_var n) sk_o
unfolding term_den term_value
variable_value e [] n = refl
variable_value e (v ∷ vs) zero = refl
variable_value e (v ∷ vs) (suc n) = variable_value e vs n

module _ {heads : Heads} (e : HeadEntries) (runs : HeadsRun heads) (m : ℕ) (vs : List Value) where
  pub value_is : {term : TermTree} → IsCanonical heads (values_context m) term sk_o → value_in vs term ≡ term_den e (with_values vs) term sk_o
  value_is {term = term} c =
      sym (value_first e (map th_value vs) runs (only_values m) c) ∙ ap (λ (w : Valuation). term_den e w term sk_o) (valuation_is vs)

  -- a term of any skeleton, read as a value
  read_as_value : {term : TermTree} {s : Skeleton}
      → IsCanonical heads (values_context m) term s
      → value_in vs term ≡ term_den e (with_values vs) term sk_o
  unfolding term_den term_value
  read_as_value n_word = refl
  read_as_value n_bool = refl
  read_as_value n_loc = refl
  read_as_value n_unit = refl
  read_as_value (n_pair a b) = value_is (n_pair a b)
  read_as_value (n_fst a q) = value_is (n_fst a q)
  read_as_value (n_snd a q) = value_is (n_snd a q)
  read_as_value (n_not a q) = value_is (n_not a q)
  read_as_value (n_bin a b q) = value_is (n_bin a b q)
  read_as_value (n_eq t a b q) = value_is (n_eq t a b q)
  read_as_value (n_sel t a b c q) = value_is (n_sel t a b c q)
  read_as_value (n_lam a) = refl
  read_as_value (n_lam_t a) = refl
  read_as_value (n_do a) = refl
  read_as_value (n_neutral a) = value_is (n_neutral a)

  abbrev Agree : List TermTree → Type 0
  Agree terms = map (value_in vs) terms ≡ values_of e vs terms

  variables_agree : (l : List ℕ) → Agree (map t_var l)
  variables_agree [] = refl
  variables_agree (n ∷ l) = λ j. variable_value e vs n j ∷ variables_agree l j

  terms_agree : {terms : TermTrees} → IsCanonicalTerms heads (values_context m) terms → Agree (list_of terms)
  terms_agree n_no_terms = refl
  terms_agree (n_more_terms a b) = λ j. value_is a j ∷ terms_agree b j

  appended_agree : (xs ys : List TermTree) → Agree xs → Agree ys → Agree (xs ++ ys)
  appended_agree xs ys p q =
      map-append (value_in vs) xs ys ∙ (λ j. p j ++ q j) ∙ sym (map-append (λ (x : TermTree). term_den e (with_values vs) x sk_o) xs ys)

  none_passed : (s : Skeleton) → Agree (passed_of s [])
  none_passed sk_o = refl
  none_passed sk_c = refl
  none_passed (sk_arrow sk_o t) = refl
  none_passed (sk_arrow sk_c t) = refl
  none_passed (sk_arrow (sk_arrow r s) t) = refl
  none_passed (sk_arrow (sk_all s) t) = refl
  none_passed (sk_all s) = refl

  term_passed : (s : Skeleton) (term : TermTree) (others : List Argument)
      → value_in vs term ≡ term_den e (with_values vs) term sk_o
      → ((t : Skeleton) → Agree (passed_of t others))
      → Agree (passed_of s (of_term term ∷ others))
  term_passed sk_o term others q more = refl
  term_passed sk_c term others q more = refl
  term_passed (sk_arrow sk_o t) term others q more = λ j. q j ∷ more t j
  term_passed (sk_arrow sk_c t) term others q more = more t
  term_passed (sk_arrow (sk_arrow r s) t) term others q more = more t
  term_passed (sk_arrow (sk_all s) t) term others q more = more t
  term_passed (sk_all s) term others q more = refl

  mono_passed : (s : Skeleton) (mono : MonoTree) (others : List Argument)
      → ((t : Skeleton) → Agree (passed_of t others))
      → Agree (passed_of s (of_mono mono ∷ others))
  mono_passed sk_o mono others more = refl
  mono_passed sk_c mono others more = refl
  mono_passed (sk_arrow sk_o t) mono others more = refl
  mono_passed (sk_arrow sk_c t) mono others more = refl
  mono_passed (sk_arrow (sk_arrow r s) t) mono others more = refl
  mono_passed (sk_arrow (sk_all s) t) mono others more = refl
  mono_passed (sk_all s) mono others more = more s

  passed_agree : {t u : Skeleton} {arguments : List Argument}
      → CanonicalArguments heads (values_context m) t arguments u
      → (s : Skeleton)
      → Agree (passed_of s arguments)
  passed_agree arguments_none s = none_passed s
  passed_agree (arguments_term {term = term} {others = others} c more) s = term_passed s term others (read_as_value c) (passed_agree more)
  passed_agree (arguments_mono {mono = mono} {others = others} c more) s = mono_passed s mono others (passed_agree more)

  made_agree : {number : ℕ} {values : TermTrees} {s : Skeleton}
      → IsNeutral heads (values_context m) (t_made number values) s
      → Agree (list_of values)
  made_agree (e_made d c) = terms_agree c

  -- the parameters of a call
  pub params_agree : {p : Program} {keys : List Key} {site : Site} {number : ℕ} {params : List TermTree}
      → IsNeutral heads (values_context m) site.call sk_c
      → Names p keys site number params
      → Agree params
  params_agree {p = p} {site = site} neutral (names_key q k) =
      let s : Skeleton = skeleton (head_ty p (head_of site.call)) in
      appended_agree (captured_params p site) (passed_of s (arguments_of site.call)) (variables_agree _) (passed_agree (spine_of neutral).arguments s)
  params_agree {p = p} {site = site} neutral (names_made {key = key} {values = values} q there) =
      let spine = spine_of neutral in
      let s : Skeleton = skeleton (head_ty p key.head) in
      appended_agree (list_of values) (passed_of s (arguments_of site.call))
      (made_agree (subst (λ t. IsNeutral heads (values_context m) t spine.whole) q spine.head)) (passed_agree spine.arguments s)
