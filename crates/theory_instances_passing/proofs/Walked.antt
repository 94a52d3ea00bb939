-- From the parameters of a recursive function to its body: what is set for the fixed ones is what their
-- eta-expansions denote there.
use Rattle.std.proofs.Common.{◌≡◌, ℕ, zero, suc, ◌+◌, List, [], ◌∷◌, ◌++◌, map, filter, All, Bool, true, false, nat_eq, cond, ◌⊎◌, inl, inr, refl, sym, ap, ◌∙◌}
use Rattle.std.proofs.Common.{subst, arith}
use Rattle.std.proofs.lemmas.List.Elements.{All-head, All-tail}
use Rattle.htt_syntax.specs.Trees.{TyTree, TermTree, FixTree, CompTree, x_param, x_body, t_var, t_fix}
use Rattle.theory_renaming.specs.Renaming.{rename_term}
use Rattle.theory_canonical.specs.Skeletons.{Skeleton, sk_o, sk_c, sk_arrow, skeleton}
use Rattle.theory_canonical.specs.Eta.{expansion}
use Rattle.theory_canonical.specs.Contexts.{Standing, as_term, Heads}
use Rattle.theory_canonical.specs.Canonical.{IsCanonicalFix, IsCanonicalComp, n_param, n_body}
use Rattle.theory_substitution.specs.Closing.{up}
use Rattle.theory_denotation.specs.Valuations.{Domain, ValuationEntry, den_term, Valuation, entry_at, HeadEntries}
use Rattle.theory_denotation.specs.Denotation.{term_den, head_den, fix_den, comp_den}
use Rattle.theory_denotation.specs.Valued.{ContextValued, HeadsValued}
use Rattle.theory_denotation.proofs.HeadsDenote.{fix_is_of, valued_term}
use Rattle.theory_denotation_renaming.proofs.Renamed.{agree_suc, term_renamed}
use Rattle.theory_denotation_renaming.proofs.Expanded.{expanded}
use Rattle.theory_instances.specs.Calls.{fix_ty, fix_comp}
use Rattle.theory_instances.specs.Occurrences.{Occurrence, met_in_comp}
use Rattle.theory_instances.specs.Varying.{PassesOnAt, own_occurrences, expanded_params, NeverVaries}
use Rattle.theory_instances_passing.specs.Pinned.{AtEach, GivenArgument, IsFixed, pinned, applied_to, Splits, splits_end, splits_value, splits_fixed, Denote}
use Rattle.theory_instances_passing.specs.Pinned.{denote_end, denote_value, denote_fixed}
use Rattle.theory_instances_passing.specs.Laws.{PassingOnAgrees}
use Rattle.theory_instances_passing.proofs.Own.{OwnPasses, EachOwn, Apart}
use Rattle.theory_instances_passing.proofs.Passing.{comp_agrees}

-- one more entry leaves what terms denote that go past it
further : {e : HeadEntries} {w : Valuation} {s t : Skeleton} {params : List TermTree} {set : List AtEach} (x : ValuationEntry)
    → Denote e w s t params set
    → Denote e (x ∷ w) s t (map up params) set
further x denote_end = denote_end
further x (denote_value m) = denote_value (further x m)
further {e = e} {w = w} x (denote_fixed {r = r} {param = param} i q m) = denote_fixed i (term_renamed e param (agree_suc x w) r ∙ q) (further x m)

-- one more parameter
then_value : {e : HeadEntries} {w : Valuation} {s t : Skeleton} {params : List TermTree} {set : List AtEach} (param : TermTree)
    → Denote e w s (sk_arrow sk_o t) params set
    → Denote e w s t (params ++ param ∷ []) set
then_value param denote_end = denote_value denote_end
then_value param (denote_value m) = denote_value (then_value param m)
then_value param (denote_fixed i q m) = denote_fixed i q (then_value param m)

then_fixed : {e : HeadEntries} {w : Valuation} {r s t : Skeleton} {params : List TermTree} {set : List AtEach} (param : TermTree) (x : AtEach)
    → IsFixed r
    → term_den e w param r ≡ x r
    → Denote e w s (sk_arrow r t) params set
    → Denote e w s t (params ++ param ∷ []) (set ++ x ∷ [])
then_fixed param x i q denote_end = denote_fixed i q denote_end
then_fixed param x i q (denote_value m) = denote_value (then_fixed param x i q m)
then_fixed param x i q (denote_fixed k d m) = denote_fixed k d (then_fixed param x i q m)

-- a parameter denotes the argument
param_denotes : (e : HeadEntries) (w : Valuation) (ty : TyTree) {s : Skeleton}
    → skeleton ty ≡ s
    → (d : Domain s)
    → term_den e (den_term s d ∷ w) (expansion suc (t_var zero) ty) s ≡ d
unfolding term_den
param_denotes e w ty q =
    subst (λ (u : Skeleton). (d : Domain u) → term_den e (den_term u d ∷ w) (expansion suc (t_var zero) ty) u ≡ d) q
    (λ d. expanded e ty suc (t_var zero) (den_term (skeleton ty) d ∷ w) d refl refl)

append_one : (xs : List AtEach) (x : AtEach) (ys : List AtEach) → (xs ++ x ∷ []) ++ ys ≡ xs ++ x ∷ ys
append_one [] x ys = refl
append_one (z ∷ xs) x ys = λ j. z ∷ append_one xs x ys j

append_none : (xs : List AtEach) → xs ++ [] ≡ xs
append_none [] = refl
append_none (x ∷ xs) = λ j. x ∷ append_none xs j

module _ (heads : Heads) (e : HeadEntries) (h : HeadsValued heads e) (whole : Skeleton) (own : Domain whole) where
  -- at the body
  body_agrees : {comp : CompTree} {g : List Standing} {w : Valuation} {params : List TermTree} (set : List AtEach)
      → IsCanonicalComp heads (as_term whole ∷ g) comp
      → ContextValued g w
      → Denote e w whole sk_c params set
      → EachOwn whole (map up params) (met_in_comp zero comp)
      → comp_den e (den_term whole own ∷ w) comp ≡ comp_den e (den_term whole (pinned whole set own) ∷ w) comp
  body_agrees {comp = comp} {g = g} {w = w} {params = params} set b z m passes =
      let base : Valuation = den_term whole own ∷ w in
      let apart : Apart whole own set base zero (as_term whole ∷ g) base (den_term whole (pinned whole set own) ∷ w) =
      record {
        here = refl;
        pinned_here = refl;
        others = λ n. apart_at n;
        along = λ n. let q : n + 0 ≡ n = omega arith in ap (entry_at base) q;
        valued = valued_term whole own z;
      } in
      comp_agrees heads e h whole (map up params) own set base (further (den_term whole own) m) b apart passes
    where
      apart_at : (n : ℕ) → (n ≡ zero) ⊎ (entry_at (den_term whole own ∷ w) n ≡ entry_at (den_term whole (pinned whole set own) ∷ w) n)
      apart_at zero = inl refl
      apart_at (suc n) = inr refl

  walked : {fix : FixTree} {t : Skeleton} {g : List Standing} {w : Valuation} {params : List TermTree} (before : List AtEach)
      (arguments : List GivenArgument) (after : List AtEach)
      → IsCanonicalFix heads g whole fix t
      → ContextValued g w
      → Denote e w whole t params before
      → Splits t arguments after
      → EachOwn whole (expanded_params params fix) (met_in_comp zero (fix_comp fix))
      → applied_to (den_term t (fix_den e w (den_term whole own) fix t)) arguments
      ≡ applied_to (den_term t (fix_den e w (den_term whole (pinned whole (before ++ after) own)) fix t)) arguments
  unfolding term_den fix_comp
  walked {w = w} before arguments after (n_param {s = s} {t = t} {ty = ty} {others = others} b q rest) z m
      (splits_value {argument = x} {arguments = more} split) passes =
      walked before more after rest (valued_term s (x s) z)
      (then_value (expansion suc (t_var zero) ty) (further (den_term s (x s)) m)) split passes
  walked {w = w} before arguments after (n_param {s = s} {t = t} {ty = ty} {others = others} b q rest) z m
      (splits_fixed {argument = x} {arguments = more} {set = later} i split) passes =
      walked (before ++ x ∷ []) more later rest (valued_term s (x s) z)
      (then_fixed (expansion suc (t_var zero) ty) x i (param_denotes e w ty q (x s)) (further (den_term s (x s)) m)) split passes
      ∙ ap
      (λ (l : List AtEach). applied_to (den_term t (fix_den e (den_term s (x s) ∷ w) (den_term whole (pinned whole l own)) others t)) more)
      (append_one before x later)
  walked {w = w} before arguments after (n_body {comp = comp} spec b) z m splits_end passes =
      ap (den_term sk_c) (body_agrees before b z m passes)
      ∙ ap (λ (l : List AtEach). den_term sk_c (comp_den e (den_term whole (pinned whole l own) ∷ w) comp)) (sym (append_none before))

-- what never varies, occurrence by occurrence
each_own : (s : Skeleton) (params : List TermTree) (xs : List Occurrence)
    → All (λ (o : Occurrence). OwnPasses s params true o) (filter (λ (o : Occurrence). nat_eq o.variable zero) xs)
    → EachOwn s params xs
each_own s params [] m = tt
each_own s params (x ∷ xs) m = by (nat_eq x.variable zero) m (λ a. each_own s params xs a)
  where
    P : Occurrence → Type 0
    P o = OwnPasses s params true o

    own : List Occurrence
    own = filter (λ (o : Occurrence). nat_eq o.variable zero) xs

    by : (b : Bool) → All P (cond b (x ∷ own) own) → (All P own → EachOwn s params xs) → OwnPasses s params b x × EachOwn s params xs
    by true a go = (All-head P x own a, go (All-tail P x own a))
    by false a go = (tt, go a)

skeleton_of_fix : (fix : FixTree) (s : Skeleton) {heads : Heads} {g : List Standing} {whole : Skeleton}
    → IsCanonicalFix heads g whole fix s
    → skeleton (fix_ty fix) ≡ s
unfolding skeleton fix_ty
skeleton_of_fix (x_param ty others) s (n_param {t = t} b q rest) = λ j. sk_arrow (q j) (skeleton_of_fix others t rest j)
skeleton_of_fix (x_body spec comp) s (n_body a b) = refl

pub agrees : PassingOnAgrees
agrees heads e g w h z at fix s c never own arguments set split =
    let passes : EachOwn (skeleton (fix_ty fix)) (expanded_params [] fix) (met_in_comp zero (fix_comp fix)) =
    each_own (skeleton (fix_ty fix)) (expanded_params [] fix) (met_in_comp zero (fix_comp fix)) never in
    walked heads e h s own [] arguments set c z denote_end split
    (subst (λ (u : Skeleton). EachOwn u (expanded_params [] fix) (met_in_comp zero (fix_comp fix))) (skeleton_of_fix fix s c) passes)
