-- What a call of a value denotes.
use Rattle.std.proofs.Common.{◌≡◌, ℕ, zero, suc, ◌+◌, List, [], ◌∷◌, ◌++◌, length, map, reverse, Some, slice_get, refl, sym, ap, ◌∙◌, subst, arith}
use Rattle.std.proofs.lemmas.List.{append_assoc, reverse-append, length-reverse, length-map}
use Rattle.htt_syntax.specs.Trees.{TermTree, CompTree, t_val}
use Rattle.theory_renaming.specs.Renaming.{lifts, shifting, rename_term}
use Rattle.theory_values.specs.Values.{Value}
use Rattle.theory_canonical.specs.Skeletons.{Skeleton, sk_o, sk_c, sk_arrow, sk_all, skeleton}
use Rattle.theory_canonical.specs.Contexts.{Standing, Heads}
use Rattle.theory_canonical.specs.Canonical.{IsCanonical, IsNeutral}
use Rattle.theory_denotation.specs.Valuations.{Domain, ValuationEntry, den_term, Valuation, entry_at, value_of_entry, HeadEntries}
use Rattle.theory_denotation.specs.Recursion.{entered_running}
use Rattle.theory_denotation.specs.Denotation.{term_den, head_den, comp_den}
use Rattle.theory_denotation.specs.Valued.{IsOf, HeadsValued}
use Rattle.theory_denotation.proofs.HeadsDenote.{head_is_of}
use Rattle.theory_denotation_renaming.specs.Along.{AgreeAlong}
use Rattle.theory_denotation_renaming.proofs.Renamed.{mono_renamed, term_renamed}
use Rattle.theory_instances.specs.Calls.{ProgramVal, Program, Argument, of_term, of_mono, rename_argument, head_of, arguments_of, fixed_of, passed_of}
use Rattle.theory_instances.specs.Calls.{passed_count, variables, head_ty, ty_of_val, Site}
use Rattle.theory_instances.specs.Keys.{Key, captured_of, number_in, key_of}
use Rattle.theory_instances.specs.Bodies.{HasBody, arguments_within, past_passed}
use Rattle.theory_instances_passing.specs.Pinned.{given_term, given_mono, given, applied_to}
use Rattle.theory_instances_denoted.specs.Arguments.{CanonicalArguments, arguments_none, arguments_term, arguments_mono}
use Rattle.theory_instances_denoted.proofs.Bodies.{vals_denote}
use Rattle.theory_instances_keys.specs.Laws.{value_entry, with_values, captured_values}
use Rattle.theory_instances_keys.proofs.Keys.{keys}
use Rattle.theory_instances_canonical.specs.Keys.{values_context}
use Rattle.theory_instances_canonical.specs.Counted.{counted_entry}
use Rattle.theory_instances_canonical.proofs.Contexts.{keeps_values, number_within, closed_within}
use Rattle.theory_instances_canonical.proofs.Values.{values_valued}
use Rattle.theory_instances_canonical.proofs.Sites.{spine_of, fixed_canonical, fixed_renamed}
use Rattle.theory_instances_canonical.proofs.Bodies.{all_canonical, past_keeps}
use Rattle.theory_instances_called.specs.Laws.{passed_values, parameter_values, CallsOfValuesDenote}
use Rattle.theory_instances_called.proofs.Closed.{closed_same}
use Rattle.theory_instances_called.proofs.Given.{call_applies, entered_applies, agreed_applies, arguments_agree}

-- values that stand before others
past_front : (front rest : List Value) (n : ℕ) → entry_at (with_values (front ++ rest)) (n + length front) ≡ entry_at (with_values rest) n
past_front [] rest n = let q : n + 0 ≡ n = omega arith in ap (entry_at (with_values rest)) q
past_front (v ∷ front) rest n =
    let q : n + suc (length front) ≡ suc (n + length front) = omega arith in
    ap (entry_at (with_values (v ∷ front ++ rest))) q ∙ past_front front rest n

pub past_along : (front rest : List Value) (r : ℕ) → length front ≡ r → AgreeAlong (shifting zero r) (with_values rest) (with_values (front ++ rest))
unfolding lifts
past_along front rest r q = record {
  at = λ n. subst (λ k. entry_at (with_values (front ++ rest)) (n + k) ≡ entry_at (with_values rest) n) q (past_front front rest n);
}

-- what was passed stands, the last innermost, before the captured values
at_front : (front : List Value) (v : Value) (rest : List Value) → entry_at (with_values (front ++ v ∷ rest)) (length front) ≡ value_entry v
at_front [] v rest = refl
at_front (u ∷ front) v rest = at_front front v rest

pub variables_pass : (e : HeadEntries) (passed rest : List Value)
    → map (λ (x : TermTree). term_den e (with_values (reverse passed ++ rest)) x sk_o) (variables (length passed)) ≡ passed
unfolding term_den
variables_pass e [] rest = refl
variables_pass e (v ∷ passed) rest =
    let moved : reverse (v ∷ passed) ++ rest ≡ reverse passed ++ (v ∷ rest) =
    ap (λ (l : List Value). l ++ rest) (reverse-append (v ∷ []) passed) ∙ append_assoc (reverse passed) (v ∷ []) rest in
    ap (λ (l : List Value). map (λ (x : TermTree). term_den e (with_values l) x sk_o) (variables (suc (length passed)))) moved
    ∙ (λ j. value_of_entry (first j) ∷ variables_pass e passed (v ∷ rest) j)
  where
    first : entry_at (with_values (reverse passed ++ (v ∷ rest))) (length passed) ≡ value_entry v
    first = subst (λ n. entry_at (with_values (reverse passed ++ (v ∷ rest))) n ≡ value_entry v) (length-reverse passed) (at_front (reverse passed) v rest)

pub given_past : (e : HeadEntries) (front rest : List Value) (r : ℕ)
    → length front ≡ r
    → (fixed : List Argument)
    → map (given e (with_values (front ++ rest))) (map (rename_argument (shifting zero r)) fixed) ≡ map (given e (with_values rest)) fixed
given_past e front rest r q [] = refl
given_past e front rest r q (of_term term ∷ fixed) =
    λ j. given_term (λ s. term_renamed e term (past_along front rest r q) s j) ∷ given_past e front rest r q fixed j
given_past e front rest r q (of_mono mono ∷ fixed) =
    λ j. given_mono (mono_renamed (past_along front rest r q) mono j) ∷ given_past e front rest r q fixed j

-- as many are passed as the skeleton says
arrow_count : (s t : Skeleton) (term : TermTree) (others : List Argument)
    → length (passed_of t others) ≡ passed_count t
    → length (passed_of (sk_arrow s t) (of_term term ∷ others)) ≡ passed_count (sk_arrow s t)
arrow_count sk_o t term others q = ap suc q
arrow_count sk_c t term others q = q
arrow_count (sk_arrow r s) t term others q = q
arrow_count (sk_all s) t term others q = q

pub count_passed : {heads : Heads} {g : List Standing} {s : Skeleton} {arguments : List Argument}
    → CanonicalArguments heads g s arguments sk_c
    → length (passed_of s arguments) ≡ passed_count s
count_passed arguments_none = refl
count_passed (arguments_term {s = s} {t = t} {term = term} {others = others} c more) = arrow_count s t term others (count_passed more)
count_passed (arguments_mono c more) = count_passed more

abbrev skeleton_of_entry : ValuationEntry → Skeleton
skeleton_of_entry (den_term s d) = s
skeleton_of_entry x = sk_o

pub one_skeleton : {s t : Skeleton} {x : ValuationEntry} {d : Domain t} → IsOf s x → x ≡ den_term t d → s ≡ t
one_skeleton o q = ap skeleton_of_entry (sym o.is ∙ q)

-- the key of a call at a skeleton of its head
abbrev key_at : List Value → Site → Skeleton → Key
key_at vs site s =
    key_of site.context (head_of site.call) (fixed_of s (arguments_of site.call))

module _ {heads : Heads} {e : HeadEntries} (h : HeadsValued heads e) (p : Program) (n m number : ℕ) (val : ProgramVal) (vs : List Value) (site : Site) where
  called_at : (results : List TermTree) (comp : CompTree)
      → slice_get p.vals n ≡ Some val
      → e.vals n ≡ counted_entry e val
      → IsCanonical heads [] val.term (skeleton val.ty)
      → head_of site.call ≡ t_val n
      → CanonicalArguments heads (values_context m) (skeleton val.ty) (arguments_of site.call) sk_c
      → HasBody p number (key_at vs site (skeleton val.ty)) results comp
      → head_den e (with_values vs) site.call
      ≡ den_term sk_c (entered_running (comp_den e (with_values (parameter_values e vs (skeleton val.ty) site.call)) comp))
  unfolding rename_term term_den
  called_at results comp there counted canonical head arguments body =
      let s = skeleton val.ty in
      let call = site.call in
      let w : Valuation = with_values vs in
      let fixed = fixed_of s (arguments_of call) in
      let captured = captured_of (head_of call) fixed in
      let passed : List Value = passed_values e vs s call in
      let rest : List Value = captured_values vs (head_of call) fixed in
      let w' : Valuation = with_values (reverse passed ++ rest) in
      let key : Key = key_at vs site s in
      let r = passed_count s in
      let count : length passed ≡ r = length-map (passed_of s (arguments_of call)) (λ (x : TermTree). term_den e w x sk_o) ∙ count_passed arguments in
      let front : length (reverse passed) ≡ r = length-reverse passed ∙ count in
      let k = length captured + m in
      let within = keeps_values (number_in captured) m k (λ i l. number_within captured m i l) in
      let fixed_within =
      fixed_renamed (past_passed s) (fixed_renamed (number_in captured) (fixed_canonical arguments) within)
      (past_keeps r k (k + r) (omega arith)) in
      let arguments' = all_canonical (k + r) fixed_within (omega arith) in
      let body_is = vals_denote heads e (values_context (k + r)) w' h (values_valued (k + r) (reverse passed ++ rest)) p number n key val results comp
      (ap (rename_term (number_in captured)) head) there (closed_within (values_context (k + r)) canonical) arguments' body in
      let fixed_same : map (given e w) fixed ≡ map (given e w') (map (rename_argument (shifting zero r)) key.fixed) =
      keys.arguments e vs (head_of call) fixed ∙ sym (given_past e (reverse passed) rest r front key.fixed) in
      let passed_same : map (λ (x : TermTree). term_den e w x sk_o) (passed_of s (arguments_of call)) ≡ map
      (λ (x : TermTree). term_den e w' x sk_o) (variables r) =
      sym (variables_pass e passed rest) ∙ ap (λ i. map (λ (x : TermTree). term_den e w' x sk_o) (variables i)) count in
      let agreed = arguments_agree e w w' arguments (map (rename_argument (shifting zero r)) key.fixed) (variables r) fixed_same passed_same in
      let applied : applied_to (den_term s (term_den e [] val.term s)) (map (given e w) (arguments_of call)) ≡ den_term sk_c (comp_den e w' comp) =
      agreed_applies (term_den e [] val.term s) agreed
      ∙ ap (λ (d : Domain s). applied_to (den_term s d) (map (given e w') (arguments_within s key))) (sym (closed_same w' h canonical))
      ∙ sym body_is in
      call_applies e w call
      ∙ ap (λ t. applied_to (head_den e w t) (map (given e w) (arguments_of call))) head
      ∙ ap (λ x. applied_to x (map (given e w) (arguments_of call))) counted
      ∙ entered_applies e w arguments (term_den e [] val.term s) (comp_den e w' comp) applied

pub called : CallsOfValuesDenote
unfolding term_den
called heads e h p n m number val vs site results comp there counted canonical head neutral body =
    let s = skeleton val.ty in
    let spine = spine_of neutral in
    let of_head : IsOf spine.whole (e.vals n) =
    head_is_of h (values_valued m vs) (subst (λ t. IsNeutral heads (values_context m) t spine.whole) head spine.head) in
    let whole_is : spine.whole ≡ s = one_skeleton of_head counted in
    let declared : skeleton (head_ty p (head_of site.call)) ≡ s = ap (λ t. skeleton (head_ty p t)) head ∙ ap (λ o. skeleton (ty_of_val o)) there in
    called_at h p n m number val vs site results comp there counted canonical head
    (subst (λ t. CanonicalArguments heads (values_context m) t (arguments_of site.call) sk_c) whole_is spine.arguments)
    (subst (λ t. HasBody p number (key_at vs site t) results comp) declared body)
