-- What an instance denotes.
use Rattle.std.proofs.Common.{◌≡◌, ◌<◌, ◌≤◌, ℕ, zero, suc, ◌+◌, List, [], ◌∷◌, ◌++◌, length, map, reverse, take, Some, slice_get, refl, sym, ap, ◌∙◌, subst, arith}
use Rattle.std.proofs.lemmas.List.{length-reverse}
use Rattle.std.proofs.lemmas.Option.{same_Some}
use Rattle.htt_syntax.specs.Trees.{TermTree, FixTree, CompTree, t_val, t_fix}
use Rattle.theory_renaming.specs.Renaming.{lifts, shifting, rename_term}
use Rattle.theory_values.specs.Values.{Value}
use Rattle.theory_canonical.specs.Skeletons.{Skeleton, sk_c, skeleton}
use Rattle.theory_canonical.specs.Contexts.{Standing, Heads, HasSkeleton}
use Rattle.theory_canonical.specs.Canonical.{IsCanonical, IsNeutral, IsCanonicalFix, e_made}
use Rattle.theory_denotation.specs.Valuations.{Domain, den_term, Valuation, entry_at, HeadEntries}
use Rattle.theory_denotation.specs.Recursion.{entered, entered_running, recursion}
use Rattle.theory_denotation.specs.Denotation.{term_den, terms_den, head_den, comp_den}
use Rattle.theory_denotation.proofs.HeadsDenote.{fix_is_of}
use Rattle.theory_denotation_renaming.proofs.Entries.{fix_entry}
use Rattle.theory_denotation_unfolding.specs.Laws.{turn}
use Rattle.theory_denotation_unfolding.proofs.Unfolded.{unfolds}
use Rattle.theory_items.proofs.MoreHeads.{term_more}
use Rattle.theory_instances.specs.Calls.{ProgramVal, Program, rename_argument, passed_count, all_arguments, fix_ty, head_ty, ty_of_val, terms_from, variables}
use Rattle.theory_instances.specs.Keys.{Key}
use Rattle.theory_instances.specs.Bodies.{HasBody, past_passed, arguments_within, made_of}
use Rattle.theory_instances.specs.Lists.{Taken, HasInstances}
use Rattle.theory_instances.specs.Varying.{NeverVaries}
use Rattle.theory_instances_passing.specs.Pinned.{AtEach, given, pinned, applied_to, Splits}
use Rattle.theory_instances_denoted.specs.Laws.{MadeIsPinned}
use Rattle.theory_instances_denoted.proofs.Put.{fix_ty_skeleton}
use Rattle.theory_instances_denoted.proofs.Bodies.{vals_denote, fixes_denote}
use Rattle.theory_instances_keys.specs.Laws.{with_values}
use Rattle.theory_instances_captured.specs.Laws.{MeetsOnlyCaptured}
use Rattle.theory_instances_captured.proofs.Captured.{captured}
use Rattle.theory_instances_canonical.specs.Keys.{values_context, heads_with, CanonicalFixed, IsCanonicalKey, canonical_val, canonical_fix}
use Rattle.theory_instances_canonical.proofs.Contexts.{closed_within, skeleton_there}
use Rattle.theory_instances_canonical.proofs.Values.{values_valued}
use Rattle.theory_instances_canonical.proofs.More.{first_more, taken_more, key_more, val_canonical}
use Rattle.theory_instances_canonical.proofs.Sites.{fixed_renamed}
use Rattle.theory_instances_canonical.proofs.Bodies.{all_canonical, captured_canonical, past_keeps}
use Rattle.theory_instances_canonical.proofs.Taken.{canonical}
use Rattle.theory_instances_heads.specs.Heads.{pinned_to, pinned_entry, AreInstanceHeads}
use Rattle.theory_instances_heads.proofs.Made.{values_steady}
use Rattle.theory_instances_called.proofs.Closed.{closed_same}
use Rattle.theory_instances_called.proofs.Given.{entered_applies}
use Rattle.theory_instances_called.proofs.Called.{past_along}
use Rattle.theory_instances_linked.specs.Laws.{InstancesDenote}
use Rattle.theory_instances_linked.proofs.TakenUp.{taken_up}
use Rattle.theory_instances_linked.proofs.Captured.{first_values, captured_are, first_agree, key_head_same, key_arguments_same}
use Rattle.theory_instances_linked.proofs.Pinned.{set_of, set_renamed, arguments_split, pinned_is, steady_applies}

variables_count : (n : ℕ) → length (variables n) ≡ n
variables_count zero = refl
variables_count (suc n) = ap suc (variables_count n)

module _ (p : Program) (keys : List Key) (e : HeadEntries) (a : AreInstanceHeads p keys e) where
  abbrev heads : Heads
  heads = heads_with p keys

  -- what is to be shown of an instance, at the skeleton of its head
  abbrev Denotes : Key → Skeleton → List Value → List Value → CompTree → Type 0
  Denotes key s passed rest comp =
      applied_to (head_den e (with_values rest) key.head) (map (given e (with_values (reverse passed ++ rest))) (arguments_within s key))
      ≡ den_term sk_c (entered_running (comp_den e (with_values (reverse passed ++ rest)) comp))

  value_denotes : (m number n : ℕ) (key : Key) (v : ProgramVal) (passed rest : List Value) (results : List TermTree) (comp : CompTree)
      → key.head ≡ t_val n
      → slice_get p.vals n ≡ Some v
      → IsCanonical heads [] v.term (skeleton v.ty)
      → CanonicalFixed heads (values_context m) (skeleton v.ty) key.fixed
      → HasBody p number key results comp
      → Denotes key (skeleton v.ty) passed rest comp
  unfolding term_den
  value_denotes m number n key v passed rest results comp q there c fixed body =
      let s = skeleton v.ty in
      let r = passed_count s in
      let k = m + r in
      let w : Valuation = with_values (reverse passed ++ rest) in
      let arguments = all_canonical k (fixed_renamed (past_passed s) fixed (past_keeps r m k (omega arith))) (omega arith) in
      let body_is =
      vals_denote heads e (values_context k) w a.valued (values_valued k (reverse passed ++ rest)) p number n key v results comp q there
      (closed_within (values_context k) c) arguments body in
      let applied : applied_to (den_term s (term_den e [] v.term s)) (map (given e w) (arguments_within s key)) ≡ den_term sk_c (comp_den e w comp) =
      ap (λ (d : Domain s). applied_to (den_term s d) (map (given e w) (arguments_within s key))) (sym (closed_same w a.valued c)) ∙ sym body_is in
      ap (λ t. applied_to (head_den e (with_values rest) t) (map (given e w) (arguments_within s key))) q
      ∙ ap (λ x. applied_to x (map (given e w) (arguments_within s key))) (a.vals n v there)
      ∙ entered_applies e w arguments (term_den e [] v.term s) (comp_den e w comp) applied

  -- the made function of a recursive function's key, in its own body
  made_is_pinned : (m number at : ℕ) (key : Key) (fix : FixTree) (s : Skeleton) (passed rest : List Value)
      → slice_get keys number ≡ Some key
      → MeetsOnlyCaptured key
      → key.head ≡ t_fix at fix
      → IsCanonicalFix heads (values_context m) s fix s
      → CanonicalFixed heads (values_context m) s key.fixed
      → length passed ≡ passed_count s
      → MadeIsPinned e number key fix s (set_of e (with_values rest) key.fixed) (with_values rest) (with_values (reverse passed ++ rest))
  unfolding term_den
  made_is_pinned m number at key fix s passed rest there met q c fixed count =
      let r = passed_count s in
      let w0 : Valuation = with_values rest in
      let w : Valuation = with_values (reverse passed ++ rest) in
      let along = past_along (reverse passed) rest r (length-reverse passed ∙ count) in
      let n = length key.captured in
      let first = first_values rest n in
      let moved = fixed_renamed (past_passed s) fixed (past_keeps r m (m + r) (omega arith)) in
      let self : Domain s = recursion s (turn e w0 fix s) in
      let agree : (i : ℕ) → i < n → entry_at (with_values (reverse first)) i ≡ entry_at w0 i = λ i l. first_agree rest n i l in record {
        splits =
            subst (λ (set : List AtEach). Splits s (map (given e w) (arguments_within s key)) set) (set_renamed e along key.fixed)
            (arguments_split e w (variables r) c moved (variables_count r));
        is_pinned =
            ap (e.made number) (captured_are e w rest r along n)
            ∙ a.made number key there first
            ∙ ap (λ x. pinned_entry (map (given e (with_values (reverse first))) key.fixed) x) (key_head_same e n (reverse first) rest agree key met)
            ∙ ap (λ set. pinned_entry set (head_den e w0 key.head)) (key_arguments_same e n (reverse first) rest agree key met)
            ∙ ap (λ h. pinned_entry (map (given e w0) key.fixed) (head_den e w0 h)) q
            ∙ ap (λ t. pinned_entry (map (given e w0) key.fixed) (fix_entry e w0 fix t)) (fix_is_of c)
            ∙ ap (den_term s) (pinned_is e w0 c fixed self);
      }

  fix_denotes : (m number at : ℕ) (key : Key) (fix : FixTree) (s : Skeleton) (passed rest : List Value) (results : List TermTree) (comp : CompTree)
      → slice_get keys number ≡ Some key
      → MeetsOnlyCaptured key
      → key.head ≡ t_fix at fix
      → IsCanonicalFix heads (values_context m) s fix s
      → CanonicalFixed heads (values_context m) s key.fixed
      → NeverVaries (t_fix at fix)
      → length passed ≡ passed_count s
      → HasBody p number key results comp
      → Denotes key s passed rest comp
  unfolding term_den
  fix_denotes m number at key fix s passed rest results comp there met q c fixed never count body =
      let r = passed_count s in
      let k = m + r + length key.captured in
      let w0 : Valuation = with_values rest in
      let w : Valuation = with_values (reverse passed ++ rest) in
      let keeps = past_keeps r m k (omega arith) in
      let along = past_along (reverse passed) rest r (length-reverse passed ∙ count) in
      let arguments = all_canonical k (fixed_renamed (past_passed s) fixed keeps) (omega arith) in
      let self : Domain s = recursion s (turn e w0 fix s) in
      let skeleton_is : skeleton (head_ty p key.head) ≡ s = ap (λ h. skeleton (head_ty p h)) q ∙ fix_ty_skeleton c in
      let has : HasSkeleton heads.made number s =
      subst (λ (t : Skeleton). HasSkeleton heads.made number t) skeleton_is (skeleton_there (λ (k : Key). skeleton (head_ty p k.head)) keys number key there) in
      let neutral : IsNeutral heads (values_context k) (made_of number s key) s = e_made has (captured_canonical k r (length key.captured) (omega arith)) in
      let made = made_is_pinned m number at key fix s passed rest there met q c fixed count in
      let body_is =
      fixes_denote heads e (values_context m) (values_context k) w0 w a.valued (values_valued m rest) (values_valued k (reverse passed ++ rest)) p number at key
      fix s (set_of e w0 key.fixed) results comp q keeps along c never neutral arguments made body in
      ap (λ h. applied_to (head_den e w0 h) (map (given e w) (arguments_within s key))) q
      ∙ ap (λ t. applied_to (fix_entry e w0 fix t) (map (given e w) (arguments_within s key))) (fix_is_of c)
      ∙ steady_applies e w arguments a.steady (values_steady k (reverse passed ++ rest)) self (entered s (turn e w0 fix s self))
      (unfolds heads e (values_context m) w0 a.steady (values_steady m rest) fix s c)
      ∙ entered_applies e w arguments (turn e w0 fix s self) (comp_den e w comp) (sym body_is)

pub denote : InstancesDenote
denote p instances keys e program h a number key taken there row rest passed count =
    let i : 0 + number ≡ number = omega arith in
    let up = taken_up h.all number taken row in
    let up_there : slice_get keys number ≡ Some up.key = subst (λ n. slice_get keys n ≡ Some up.key) i up.at in
    let same : up.key ≡ key = same_Some up.key key (sym up_there ∙ there) in
    by (key_more (taken_more p number keys) (canonical.keys p instances keys program h number key there)) up.takes.results
    (subst (λ n. HasBody p n key up.takes.results taken.body) i (subst (λ (k : Key). HasBody p (0 + number) k up.takes.results taken.body) same up.takes.has_body))
    (subst (λ (k : Key). NeverVaries k.head) same up.takes.never_varies)
  where
    by : IsCanonicalKey (heads_with p keys) p key → (results : List TermTree) → HasBody p number key results taken.body → NeverVaries key.head
        → Denotes p keys e a key (skeleton (head_ty p key.head)) passed rest taken.body
    by (canonical_val m {n = n} {v = v} q found fixed) results body never =
        let s : skeleton (head_ty p key.head) ≡ skeleton v.ty = ap (λ t. skeleton (head_ty p t)) q ∙ ap (λ o. skeleton (ty_of_val o)) found in
        subst (λ (t : Skeleton). Denotes p keys e a key t passed rest taken.body) (sym s)
        (value_denotes p keys e a m number n key v passed rest results taken.body q found (term_more (first_more p keys) (val_canonical p program n v found))
        fixed body)
    by (canonical_fix m {at = at} {fix = fix} {s = s} q c fixed) results body never =
        let t : skeleton (head_ty p key.head) ≡ s = ap (λ o. skeleton (head_ty p o)) q ∙ fix_ty_skeleton c in
        subst (λ (u : Skeleton). Denotes p keys e a key u passed rest taken.body) (sym t)
        (fix_denotes p keys e a m number at key fix s passed rest results taken.body there (captured p instances keys h number key there) q c fixed
        (subst NeverVaries q never) (count ∙ ap passed_count t) body)
