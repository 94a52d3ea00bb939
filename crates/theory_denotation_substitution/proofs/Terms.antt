-- Substitution in terms and computations is an equality of denotations, and splicing is sequencing.
use Rattle.std.proofs.Common.{◌≡◌, ℕ, zero, suc, List, ◌∷◌, refl, sym, ap, ◌∙◌, subst}
use Rattle.htt_syntax.specs.Trees.{MonoTree, TermTree, FixTree, CompTree, StepTree, TermTrees, t_fst, t_snd, t_not, t_bin, t_eq, t_sel, t_lam}
use Rattle.theory_renaming.specs.Renaming.{lift, rename_mono, rename_comp}
use Rattle.theory_values.specs.Values.{Value, v_pair, value_of_op, value_of_not, value_of_eq, value_of_sel, value_of_fst, value_of_snd}
use Rattle.theory_values.specs.Heaps.{Heap}
use Rattle.theory_truth.specs.TermValue.{value_or_unit}
use Rattle.theory_canonical.specs.Skeletons.{Skeleton, sk_o, sk_arrow}
use Rattle.theory_canonical.specs.Contexts.{Standing, as_mono, as_term, Heads}
use Rattle.theory_canonical.specs.Canonical.{IsCanonical, IsNeutral, IsCanonicalTerms, IsCanonicalFix, IsCanonicalComp, IsCanonicalStep, n_fst, n_snd, n_not}
use Rattle.theory_canonical.specs.Canonical.{n_bin, n_eq, n_sel, n_lam, n_lam_t, n_do, n_neutral, e_made, e_fix, e_app, e_inst, n_more_terms, n_param, n_body}
use Rattle.theory_canonical.specs.Canonical.{n_ret, n_step, n_run, n_alloc, n_get, n_set, n_free, n_if}
use Rattle.theory_canonical.proofs.Renamed.{keeps_lift, keeps_suc, comp_renamed as canonical_comp_renamed}
use Rattle.theory_substitution.specs.Closing.{closing}
use Rattle.theory_substitution.specs.Monotypes.{put_mono_term}
use Rattle.theory_substitution.specs.Substitution.{Kept, Reduced, SubTerm, SubTerms, SubFix, SubComp, Bind, SubStep, k_var, k_val, k_made, k_fix, k_app, k_inst}
use Rattle.theory_substitution.specs.Substitution.{r_var, r_app, r_inst, applied, u_kept, u_reduced, u_word, u_bool, u_loc, u_unit, u_pair, u_fst, u_snd, u_not}
use Rattle.theory_substitution.specs.Substitution.{u_bin, u_eq, u_sel, u_lam, u_lam_t, u_do, u_no_terms, u_more_terms, u_x_param, u_x_body, u_ret, u_step}
use Rattle.theory_substitution.specs.Substitution.{u_spliced, b_ret, b_step, u_run, u_s_alloc, u_s_get, u_s_set, u_s_free, u_s_if}
use Rattle.theory_substitution_total.specs.Insertion.{ins_here}
use Rattle.theory_substitution_total.proofs.Results.{term_result, comp_result}
use Rattle.theory_denotation.specs.Outcomes.{Outcome, ended, out_of_fuel, asking, wrong, then_outcome, in_sequence, alloc_outcome, get_outcome, set_outcome}
use Rattle.theory_denotation.specs.Outcomes.{free_outcome, branch_outcome}
use Rattle.theory_denotation.specs.Valuations.{Domain, ValuationEntry, den_mono, den_term, Valuation, entry_at, value_of_entry, running_of_entry, applied_entry}
use Rattle.theory_denotation.specs.Valuations.{instance_entry, at_skeleton, mono_in, HeadEntries}
use Rattle.theory_denotation.specs.Recursion.{recursion}
use Rattle.theory_denotation.specs.Denotation.{term_den, terms_den, head_den, fix_den, comp_den, step_den}
use Rattle.theory_denotation.specs.Valued.{ContextValued, HeadsValued}
use Rattle.theory_denotation.proofs.HeadsDenote.{fix_is_of, head_is_of, head_value, fix_value, valued_term, valued_other}
use Rattle.theory_denotation_renaming.specs.Insertion.{entry_here}
use Rattle.theory_denotation_renaming.proofs.Renamed.{agree_next, agree_suc, comp_renamed}
use Rattle.theory_denotation_renaming.proofs.Entries.{applied_same, fix_entry, entry_beside, entry_put}
use Rattle.theory_denotation_renaming.proofs.Folded.{folded}
use Rattle.theory_denotation_renaming.proofs.Filled.{term_filled}
use Rattle.theory_denotation_renaming.proofs.FilledTruth.{put_along}
use Rattle.theory_denotation_substitution.specs.Put.{MayPutIn}
use Rattle.theory_denotation_substitution.proofs.Results.{arrow_parts, pair_parts, lam_body, family_body, do_comp, HeadAt, head_at, kept_head, reduced_head}
use Rattle.theory_denotation_substitution.proofs.Results.{fix_skeleton_put, reduced_result}
use Rattle.theory_denotation_substitution.proofs.Placing.{put_term, put_mono_entry, put_here, valued_whole, mono_beside}

then_in_turn : (o : Outcome) (f g : Value → Heap → List ℕ → Outcome) → then_outcome (then_outcome o f) g ≡ then_outcome o (λ v h cs. then_outcome (f v h cs) g)
then_in_turn (ended v h cs) f g = refl
then_in_turn out_of_fuel f g = refl
then_in_turn asking f g = refl
then_in_turn wrong f g = refl

-- under one more entry the second computation stands renamed
beside_entry : (e : HeadEntries) (others : CompTree) (y u : ValuationEntry) (w : Valuation)
    → comp_den e (y ∷ u ∷ w) (rename_comp (lift suc) others) ≡ comp_den e (y ∷ w) others
beside_entry e others y u w = comp_renamed e others (agree_next y (agree_suc u w))

-- of a head that stays the value is that of its entry
kept_value : {new : TermTree} {s : Skeleton} {x : ℕ} {term r : TermTree} (e : HeadEntries) (w : Valuation)
    → Kept new s x term r
    → term_den e w r sk_o ≡ value_of_entry (head_den e w r)
unfolding term_den
kept_value e w (k_var q) = refl
kept_value e w k_val = refl
kept_value e w (k_made a) = refl
kept_value e w (k_fix {at = at} {fix' = fix'} a) = fix_value e w at fix'
kept_value e w (k_app k a) = refl
kept_value e w (k_inst k) = refl

from_kept : {heads : Heads} {g : List Standing} {new : TermTree} {s t : Skeleton} {x : ℕ} {term r : TermTree} (e : HeadEntries)
    (w w' : Valuation)
    → Kept new s x term r
    → HeadAt heads g term t
    → (IsNeutral heads g term sk_o → head_den e w r ≡ head_den e w' term)
    → term_den e w r t ≡ term_den e w' term t
from_kept e w w' k (head_at d) f = kept_value e w k ∙ ap value_of_entry (f d) ∙ sym (head_value e w' d)

from_reduced : {heads : Heads} {g : List Standing} {term : TermTree} {t : Skeleton} (e : HeadEntries) (r : TermTree) (w w' : Valuation)
    → HeadAt heads g term t
    → (IsNeutral heads g term sk_o → head_den e w' term ≡ den_term sk_o (term_den e w r sk_o))
    → term_den e w r t ≡ term_den e w' term t
from_reduced e r w w' (head_at d) f = sym (head_value e w' d ∙ ap value_of_entry (f d))

-- a family at a monotype
pub family_put : {heads : Heads} {e : HeadEntries} {g : List Standing} {w : Valuation} {body : TermTree} {s : Skeleton} (mono : MonoTree)
    → HeadsValued heads e
    → ContextValued g w
    → IsCanonical heads (as_mono ∷ g) body s
    → term_den e w (put_mono_term mono zero body) s ≡ term_den e (den_mono (mono_in w mono) ∷ w) body s
family_put {w = w} mono h z c =
    term_filled h c (put_along
    (record { context = ins_here; valuation = entry_here; valued = (valued_other (den_mono (mono_in w mono)) z).0; heads_valued = h }))
    (valued_other (den_mono (mono_in w mono)) z).0

mutual
  unfolding term_den

  pub term_put : {heads : Heads} {e : HeadEntries} {new : TermTree} {s t : Skeleton} {x : ℕ} {term r : TermTree} {g whole : List Standing}
      {w w' : Valuation}
      → SubTerm new s x term r
      → IsCanonical heads whole term t
      → MayPutIn heads e new s x g whole w w'
      → term_den e w r t ≡ term_den e w' term t
  term_put {e = e} {w = w} {w' = w'} (u_kept k) c p = from_kept e w w' k (kept_head k c) (λ d. head_put k d p)
  term_put {e = e} {r = r} {w = w} {w' = w'} (u_reduced k) c p = from_reduced e r w w' (reduced_head k c) (λ d. redex_put k d p)
  term_put u_word c p = refl
  term_put u_bool c p = refl
  term_put u_loc c p = refl
  term_put u_unit c p = refl
  term_put {t = t} (u_pair a b) c p = λ j. at_skeleton (v_pair (term_put a (pair_parts c).0 p j) (term_put b (pair_parts c).1 p j)) t
  term_put (u_fst a) (n_neutral d) p = elim d [ ]
  term_put {e = e} {w = w} (u_fst {pair' = pair'} a) (n_fst c q) p = folded e w (t_fst pair') ∙ (λ j. value_or_unit (value_of_fst (term_put a c p j)))
  term_put (u_snd a) (n_neutral d) p = elim d [ ]
  term_put {e = e} {w = w} (u_snd {pair' = pair'} a) (n_snd c q) p = folded e w (t_snd pair') ∙ (λ j. value_or_unit (value_of_snd (term_put a c p j)))
  term_put (u_not a) (n_neutral d) p = elim d [ ]
  term_put {e = e} {w = w} (u_not {term' = term'} a) (n_not c q) p = folded e w (t_not term') ∙ (λ j. value_or_unit (value_of_not (term_put a c p j)))
  term_put (u_bin a b) (n_neutral d) p = elim d [ ]
  term_put {e = e} {w = w} (u_bin {op = op} {left' = left'} {right' = right'} a b) (n_bin c d q) p =
      folded e w (t_bin op left' right') ∙ (λ j. value_or_unit (value_of_op op (term_put a c p j) (term_put b d p j)))
  term_put (u_eq a b) (n_neutral d) p = elim d [ ]
  term_put {e = e} {x = x} {w = w} (u_eq {mono = mono} {left' = left'} {right' = right'} a b) (n_eq m c d q) p =
      folded e w (t_eq (rename_mono (closing x) mono) left' right')
      ∙ (λ j. value_or_unit (value_of_eq (mono_beside m p.may.inserted p.valuation j) (term_put a c p j) (term_put b d p j)))
  term_put (u_sel a b f) (n_neutral d) p = elim d [ ]
  term_put {e = e} {x = x} {w = w} (u_sel {mono = mono} {test' = test'} {on_true' = on_true'} {on_false' = on_false'} a b f)
      (n_sel m c d h q) p =
      folded e w (t_sel (rename_mono (closing x) mono) test' on_true' on_false')
      ∙ (λ j. value_or_unit (value_of_sel (term_put a c p j) (term_put b d p j) (term_put f h p j)))
  term_put (u_lam a) (n_neutral d) p = elim d [ ]
  term_put (u_lam a) (n_lam {s = u} c) p = λ j d. term_put a c (put_term u d p) j
  term_put (u_lam_t a) (n_neutral d) p = elim d [ ]
  term_put (u_lam_t a) (n_lam_t c) p = λ j t. term_put a c (put_mono_entry t p) j
  term_put (u_do a) (n_neutral d) p = elim d [ ]
  term_put (u_do a) (n_do c) p = comp_put a c p

  pub terms_put : {heads : Heads} {e : HeadEntries} {new : TermTree} {s : Skeleton} {x : ℕ} {terms r : TermTrees} {g whole : List Standing}
      {w w' : Valuation}
      → SubTerms new s x terms r
      → IsCanonicalTerms heads whole terms
      → MayPutIn heads e new s x g whole w w'
      → terms_den e w r ≡ terms_den e w' terms
  terms_put u_no_terms c p = refl
  terms_put (u_more_terms a b) (n_more_terms c d) p = λ j. term_put a c p j ∷ terms_put b d p j

  pub head_put : {heads : Heads} {e : HeadEntries} {new : TermTree} {s t : Skeleton} {x : ℕ} {term r : TermTree} {g whole : List Standing}
      {w w' : Valuation}
      → Kept new s x term r
      → IsNeutral heads whole term t
      → MayPutIn heads e new s x g whole w w'
      → head_den e w r ≡ head_den e w' term
  head_put (k_var {index = index} q) c p = entry_beside p.valuation index q
  head_put k_val c p = refl
  head_put {e = e} (k_made {number = number} a) (e_made d c) p = λ j. e.made number (terms_put a c p j)
  head_put {e = e} {t = t} {w = w} {w' = w'} (k_fix {fix = fix} {fix' = fix'} a) (e_fix c) p =
      ap (fix_entry e w fix') (fix_skeleton_put a ∙ fix_is_of c)
      ∙ (λ j. den_term t (recursion t (λ own. fix_put a c own p j)))
      ∙ sym (ap (fix_entry e w' fix) (fix_is_of c))
  head_put {e = e} {w = w} {w' = w'} (k_app {argument = argument} {argument' = argument'} k a) (e_app d c) p =
      applied_same (term_den e w' argument) (term_den e w argument') (head_is_of p.heads_valued (valued_whole p) d) (head_put k d p)
      (term_put a c p)
  head_put (k_inst k) (e_inst d m) p = λ j. instance_entry (head_put k d p j) (mono_beside m p.may.inserted p.valuation j)

  pub redex_put : {heads : Heads} {e : HeadEntries} {new : TermTree} {s t u : Skeleton} {x : ℕ} {term r : TermTree}
      {g whole : List Standing} {w w' : Valuation}
      → Reduced new s x term r u
      → IsNeutral heads whole term t
      → MayPutIn heads e new s x g whole w w'
      → head_den e w' term ≡ den_term t (term_den e w r t)
  redex_put {e = e} {new = new} {w = w} {w' = w'} (r_var q) d p =
      ap (entry_at w') q ∙ entry_put p.valuation ∙ ap (λ u. den_term u (term_den e w new u)) (reduced_result (r_var q) p.may d).0
  redex_put {heads = heads} {e = e} {g = g} {w = w} {w' = w'}
      (r_app {left = left} {argument = argument} {argument' = argument'} {result = result} k a (applied {body = body} b))
      (e_app {s = v} {t = t} d c) p =
      let h = reduced_result k p.may d in
      let q = (arrow_parts h.0).0 in
      let of_argument = subst (λ i. IsCanonical heads g argument' i) (sym q) (term_result p.may c a) in
      let of_body = lam_body (subst (λ i. IsCanonical heads g (t_lam body) (sk_arrow i t)) (sym q) h.1) in
      ap (λ y. applied_entry y (term_den e w' argument)) (redex_put k d p)
      ∙ ap (λ y. den_term t (term_den e (den_term v y ∷ w) body t)) (sym (term_put a c p))
      ∙ ap (λ i. den_term t (term_den e (den_term i (term_den e w argument' i) ∷ w) body t)) (sym q)
      ∙ ap (λ y. den_term t y) (sym (term_put b of_body (put_here p.heads_valued p.valued of_argument)))
  redex_put {e = e} {x = x} {w = w} {w' = w'} (r_inst {body = body} {mono = mono} k) (e_inst {s = v} d m) p =
      ap (λ y. instance_entry y (mono_in w' mono)) (redex_put k d p)
      ∙ ap (λ y. den_term v (term_den e (den_mono y ∷ w) body v)) (sym (mono_beside m p.may.inserted p.valuation))
      ∙ ap (λ y. den_term v y) (sym (family_put (rename_mono (closing x) mono) p.heads_valued p.valued (family_body (reduced_result k p.may d).1)))

  fix_put : {heads : Heads} {e : HeadEntries} {new : TermTree} {s t over : Skeleton} {x : ℕ} {fix r : FixTree} {g whole : List Standing}
      {w w' : Valuation}
      → SubFix new s x fix r
      → IsCanonicalFix heads whole over fix t
      → (own : Domain over)
      → MayPutIn heads e new s x g whole w w'
      → fix_den e w (den_term over own) r t ≡ fix_den e w' (den_term over own) fix t
  fix_put (u_x_param a b) (n_param {s = u} ty q c) own p = λ j d. fix_put b c own (put_term u d p) j
  fix_put (u_x_body a b) (n_body {whole = over} spec c) own p = comp_put b c (put_term over own p)

  pub comp_put : {heads : Heads} {e : HeadEntries} {new : TermTree} {s : Skeleton} {x : ℕ} {comp r : CompTree} {g whole : List Standing}
      {w w' : Valuation}
      → SubComp new s x comp r
      → IsCanonicalComp heads whole comp
      → MayPutIn heads e new s x g whole w w'
      → comp_den e w r ≡ comp_den e w' comp
  comp_put (u_ret a) (n_ret c) p = λ j n h cs. ended (term_put a c p j) h cs
  comp_put (u_step a b) (n_step c d) p = λ j n h cs. then_outcome (step_put a c p j n h cs) (λ v k ds. comp_put b d (put_term sk_o v p) j n k ds)
  comp_put {e = e} {g = g} {w = w} {w' = w'} (u_spliced {term = term} {others' = others'} k b q) (n_step (n_run c m) d) p =
      let own = do_comp (reduced_result k p.may c).1 in
      let rest = comp_result (put_term sk_o (term_den e w term sk_o) p).may d b in
      spliced q own rest p.heads_valued p.valued
      ∙ ap (λ y n h cs. then_outcome (running_of_entry y n h cs) (λ v l ds. comp_den e (den_term sk_o v ∷ w) others' n l ds)) (sym (redex_put k c p))
      ∙ (λ j n h cs. then_outcome (running_of_entry (head_den e w' term) n h cs) (λ v l ds. comp_put b d (put_term sk_o v p) j n l ds))

  pub spliced : {heads : Heads} {e : HeadEntries} {comp others r : CompTree} {g : List Standing} {w : Valuation}
      → Bind comp others r
      → IsCanonicalComp heads g comp
      → IsCanonicalComp heads (as_term sk_o ∷ g) others
      → HeadsValued heads e
      → ContextValued g w
      → comp_den e w r ≡ in_sequence (comp_den e w comp) (λ v. comp_den e (den_term sk_o v ∷ w) others)
  spliced (b_ret a) (n_ret c) d h z = comp_put a d (put_here h z c)
  spliced {e = e} {g = g} {w = w} (b_step {step = step} {comp = comp} {others = others} a) (n_step c i) d h z =
      let later = λ (v : Value). spliced a i (canonical_comp_renamed d (keeps_lift (as_term sk_o) (keeps_suc (as_term sk_o) g))) h (valued_term sk_o v z) in
      (λ j n l cs. then_outcome (step_den e w step n l cs) (λ v k ds. later v j n k ds))
      ∙ (λ j n l cs.
      then_outcome (step_den e w step n l cs) (λ v k ds.
      then_outcome (comp_den e (den_term sk_o v ∷ w) comp n k ds)
      (λ u i es. beside_entry e others (den_term sk_o u) (den_term sk_o v) w j n i es)))
      ∙ (λ j n l cs.
      sym (then_in_turn (step_den e w step n l cs) (λ v k ds. comp_den e (den_term sk_o v ∷ w) comp n k ds)
      (λ u i es. comp_den e (den_term sk_o u ∷ w) others n i es)) j)

  step_put : {heads : Heads} {e : HeadEntries} {new : TermTree} {s : Skeleton} {x : ℕ} {step r : StepTree} {g whole : List Standing}
      {w w' : Valuation}
      → SubStep new s x step r
      → IsCanonicalStep heads whole step
      → MayPutIn heads e new s x g whole w w'
      → step_den e w r ≡ step_den e w' step
  step_put (u_run k) (n_run c m) p = λ j n h cs. running_of_entry (head_put k c p j) n h cs
  step_put (u_s_alloc a) (n_alloc m c) p = λ j n h cs. alloc_outcome (term_put a c p j) h cs
  step_put (u_s_get a) (n_get m c) p = λ j n h cs. get_outcome (mono_beside m p.may.inserted p.valuation j) (term_put a c p j) h cs
  step_put (u_s_set a b) (n_set m c d) p = λ j n h cs. set_outcome (mono_beside m p.may.inserted p.valuation j) (term_put a c p j) (term_put b d p j) h cs
  step_put (u_s_free a) (n_free m c) p = λ j n h cs. free_outcome (mono_beside m p.may.inserted p.valuation j) (term_put a c p j) h cs
  step_put (u_s_if a b f) (n_if m c d i) p = λ j n h cs. branch_outcome (term_put a c p j) (comp_put b d p j n h cs) (comp_put f i p j n h cs)
