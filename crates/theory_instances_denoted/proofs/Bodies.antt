-- What the bodies of instances denote.
use Rattle.std.proofs.Common.{◌≡◌, ℕ, List, [], ◌∷◌, ◌++◌, map, slice_get, refl, sym, ap, ◌∙◌, subst}
use Rattle.std.proofs.lemmas.Option.{same_Some}
use Rattle.htt_syntax.specs.Trees.{TyTree, TermTree, FixTree, CompTree, t_val, t_fix, t_do}
use Rattle.theory_renaming.specs.Renaming.{rename_fix}
use Rattle.theory_canonical.specs.Skeletons.{Skeleton, sk_o, sk_c, skeleton}
use Rattle.theory_canonical.specs.Eta.{eta}
use Rattle.theory_canonical.specs.Contexts.{Standing, Heads, KeepsStandings}
use Rattle.theory_canonical.specs.Canonical.{IsCanonical, IsNeutral, IsCanonicalFix}
use Rattle.theory_canonical.proofs.Renamed.{fix_renamed}
use Rattle.theory_canonical.proofs.Expanded.{expanded_canonical}
use Rattle.theory_denotation.specs.Valuations.{Domain, ValuationEntry, den_term, Valuation, value_of_entry, HeadEntries}
use Rattle.theory_denotation.specs.Recursion.{recursion}
use Rattle.theory_denotation.specs.Denotation.{term_den, head_den, fix_den, comp_den}
use Rattle.theory_denotation.specs.Valued.{ContextValued, HeadsValued}
use Rattle.theory_denotation_renaming.specs.Along.{AgreeAlong}
use Rattle.theory_denotation_renaming.proofs.Renamed as renamed
use Rattle.theory_denotation_renaming.proofs.Expanded.{expanded}
use Rattle.theory_instances.specs.Calls.{ProgramVal, Program, of_term, fix_ty}
use Rattle.theory_instances.specs.Keys.{Key}
use Rattle.theory_instances.specs.Bodies.{Puts, HasBody, body_of_val, body_of_fix, arguments_within, past_passed, made_of, opened_fix, opened_skeleton}
use Rattle.theory_instances.specs.Varying.{NeverVaries}
use Rattle.theory_instances_passing.specs.Pinned.{AtEach, GivenArgument, given_term, pinned, given, applied_to, Splits}
use Rattle.theory_instances_passing.proofs.Walked.{agrees}
use Rattle.theory_instances_denoted.specs.Arguments.{CanonicalArguments}
use Rattle.theory_instances_denoted.specs.Laws.{ValBodiesDenote, FixBodiesDenote, MadeIsPinned}
use Rattle.theory_instances_denoted.proofs.Put.{put_denotes, given_append, opened_denotes, opened_canonical, opened_arguments, fix_ty_canonical}
use Rattle.theory_instances_denoted.proofs.Put.{fix_ty_skeleton}

same_val : {n m : ℕ} → t_val n ≡ t_val m → n ≡ m
same_val q = cc

same_fix : {a b : ℕ} {f g : FixTree} → t_fix a f ≡ t_fix b g → f ≡ g
same_fix q = cc

no_fix : {n a : ℕ} {f : FixTree} → t_val n ≡ t_fix a f → ⊥
no_fix q = cc

pub vals_denote : ValBodiesDenote
unfolding term_den
vals_denote heads e g w h z p number n key val results comp q there c arguments (body_of_fix r own puts) = absurd (no_fix (sym q ∙ r))
vals_denote heads e g w h z p number n key val results comp q there c arguments (body_of_val {n = m} {v = v} r found puts) =
    let same : v ≡ val = same_Some v val (sym found ∙ ap (λ k. slice_get p.vals k) (same_val (sym r ∙ q)) ∙ there) in
    put_denotes h z (subst (λ (u : ProgramVal). Puts u.term (skeleton u.ty) (arguments_within (skeleton u.ty) key) results (t_do comp)) same puts) c arguments

-- a recursive function, as the recursion variable, is itself
eta_denotes : (e : HeadEntries) (w : Valuation) (term : TermTree) (ty : TyTree) {s : Skeleton}
    → term_den e w term sk_o ≡ value_of_entry (head_den e w term)
    → skeleton ty ≡ s
    → (x : Domain s)
    → head_den e w term ≡ den_term s x
    → term_den e w (eta term ty) s ≡ x
eta_denotes e w term ty v q =
    subst (λ (u : Skeleton). (x : Domain u) → head_den e w term ≡ den_term u x → term_den e w (eta term ty) u ≡ x) q
    (λ x p. expanded e ty (λ n. n) term w x v p)

unmoved : (g : List Standing) → KeepsStandings (λ n. n) g g
unmoved g = record { at = λ n entry d. d }

module _ {heads : Heads} {e : HeadEntries} {g0 g : List Standing} {w0 w : Valuation} (h : HeadsValued heads e) (z0 : ContextValued g0 w0)
    (z : ContextValued g w) where
  fix_body : {number : ℕ} (at : ℕ) {key : Key} {fix : FixTree} {s : Skeleton} {set : List AtEach} {results : List TermTree}
      {comp : CompTree}
      → KeepsStandings (past_passed s) g0 g
      → AgreeAlong (past_passed s) w0 w
      → IsCanonicalFix heads g0 s fix s
      → NeverVaries (t_fix at fix)
      → IsNeutral heads g (made_of number s key) s
      → CanonicalArguments heads g s (arguments_within s key) sk_c
      → MadeIsPinned e number key fix s set w0 w
      → Puts (opened_fix (rename_fix (past_passed s) fix)) (opened_skeleton s (rename_fix (past_passed s) fix))
      (arguments_within s key ++ of_term (eta (made_of number s key) (fix_ty (rename_fix (past_passed s) fix))) ∷ []) results (t_do comp)
      → den_term sk_c (comp_den e w comp)
      ≡ applied_to (den_term s (fix_den e w0 (den_term s (recursion s (λ own. fix_den e w0 (den_term s own) fix s))) fix s))
      (map (given e w) (arguments_within s key))
  unfolding term_den
  fix_body {number = number} at {key = key} {fix = fix} {s = s} {set = set} {comp = comp} keeps along c never neutral arguments made puts =
      let own : FixTree = rename_fix (past_passed s) fix in
      let made_term : TermTree = made_of number s key in
      let c' : IsCanonicalFix heads g s own s = fix_renamed c keeps in
      let q : skeleton (fix_ty own) ≡ s = fix_ty_skeleton c' in
      let self : Domain s = recursion s (λ own. fix_den e w0 (den_term s own) fix s) in
      let last : IsCanonical heads g (eta made_term (fix_ty own)) s =
      subst (IsCanonical heads g (eta made_term (fix_ty own))) q
      (expanded_canonical made_term (fix_ty_canonical c') (unmoved g) (subst (IsNeutral heads g made_term) (sym q) neutral)) in
      let all : List GivenArgument = map (given e w) (arguments_within s key) in
      put_denotes h z puts (opened_canonical c') (opened_arguments c' arguments last)
      ∙ ap (applied_to (den_term (opened_skeleton s own) (term_den e w (opened_fix own) (opened_skeleton s own))))
      (given_append e w (arguments_within s key) (of_term (eta made_term (fix_ty own)) ∷ []))
      ∙ opened_denotes e own w s (term_den e w (eta made_term (fix_ty own))) all set c' made.splits
      ∙ (λ j. applied_to (den_term (q j) (fix_den e w (den_term s (term_den e w (eta made_term (fix_ty own)) s)) own (q j))) all)
      ∙ ap (λ (x : Domain s). applied_to (den_term s (fix_den e w (den_term s x) own s)) all)
      (eta_denotes e w made_term (fix_ty own) refl q (pinned s set self) made.is_pinned)
      ∙ ap (λ (x : Domain s). applied_to (den_term s x) all) (renamed.fix_renamed e fix (den_term s (pinned s set self)) along s)
      ∙ sym (agrees heads e g0 w0 h z0 at fix s c never self all set made.splits)

pub fixes_denote : FixBodiesDenote
fixes_denote heads e g0 g w0 w h z0 z p number at key fix s set results comp q keeps along c never neutral arguments made (body_of_val r found puts) =
    absurd (no_fix (sym r ∙ q))
fixes_denote heads e g0 g w0 w h z0 z p number at key fix s set results comp q keeps along c never neutral arguments made
    (body_of_fix {fix = other} {own = own} r is_own puts) =
    let same : own ≡ rename_fix (past_passed s) fix =
    is_own ∙ ap (λ (f : FixTree). rename_fix (past_passed (skeleton (fix_ty f))) f) (same_fix (sym r ∙ q))
    ∙ ap (λ (u : Skeleton). rename_fix (past_passed u) fix) (fix_ty_skeleton c) in
    let skeleton_of : skeleton (fix_ty (rename_fix (past_passed s) fix)) ≡ s = fix_ty_skeleton (fix_renamed c keeps) in
    fix_body h z0 z at keeps along c never neutral arguments made
    (subst (λ (u : Skeleton).
    Puts (opened_fix (rename_fix (past_passed s) fix)) (opened_skeleton u (rename_fix (past_passed s) fix))
    (arguments_within u key ++ of_term (eta (made_of number u key) (fix_ty (rename_fix (past_passed s) fix))) ∷ []) results (t_do comp)) skeleton_of
    (subst (λ (o : FixTree).
    Puts (opened_fix o) (opened_skeleton (skeleton (fix_ty o)) o)
    (arguments_within (skeleton (fix_ty o)) key ++ of_term (eta (made_of number (skeleton (fix_ty o)) key) (fix_ty o)) ∷ []) results (t_do comp)) same puts))
