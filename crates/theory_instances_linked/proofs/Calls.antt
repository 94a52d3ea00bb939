-- What a call does: it enters the body of the instance that it names.
use Rattle.std.proofs.Common.{◌≡◌, ℕ, zero, suc, List, [], ◌∷◌, ◌++◌, length, map, reverse, Some, slice_get, refl, sym, ap, ◌∙◌, subst, arith}
use Rattle.std.proofs.lemmas.Option.{same_Some}
use Rattle.std.proofs.lemmas.List.{length-map, length-reverse, map-append, reverse-append, reverse-reverse}
use Rattle.htt_syntax.specs.Trees.{MonoTree, TermTree, FixTree, CompTree, TermTrees, t_var, t_val, t_fix, t_made, no_terms, more_terms}
use Rattle.theory_renaming.specs.Renaming.{Map}
use Rattle.theory_values.specs.Values.{Value}
use Rattle.theory_canonical.specs.Skeletons.{Skeleton, sk_o, sk_c, sk_arrow, sk_all, skeleton}
use Rattle.theory_canonical.specs.Contexts.{Standing, Heads, HasSkeleton, first_head, later_head}
use Rattle.theory_canonical.specs.Canonical.{IsNeutral, e_var, e_val, e_made, e_fix, e_app, e_inst}
use Rattle.theory_typing.specs.Positions.{plain_term}
use Rattle.theory_denotation.specs.Valuations.{Domain, ValuationEntry, den_term, Valuation, entry_at, value_of_entry, nothing_at, mono_in, HeadEntries}
use Rattle.theory_denotation.specs.Recursion.{entered_running}
use Rattle.theory_denotation.specs.Denotation.{term_den, terms_den, head_den, comp_den}
use Rattle.theory_denotation.specs.Valued.{IsOf}
use Rattle.theory_denotation.proofs.HeadsDenote.{head_is_of}
use Rattle.theory_denotation_renaming.specs.Along.{AgreeAlong}
use Rattle.theory_denotation_renaming.proofs.Renamed.{mono_renamed, term_renamed}
use Rattle.theory_denotation_positions.proofs.Plain.{term_plain, head_plain}
use Rattle.theory_instances.specs.Calls.{Program, Argument, of_term, of_mono, rename_argument, head_of, arguments_of, fixed_of, passed_of, passed_count}
use Rattle.theory_instances.specs.Calls.{all_arguments, head_ty, ty_of_val, list_of, variables, Site}
use Rattle.theory_instances.specs.Keys.{Key, captured_of, key_of_site, keys_of_head, plain_argument, plain_key}
use Rattle.theory_instances.specs.Bodies.{arguments_within, past_passed}
use Rattle.theory_instances.specs.Lists.{IsKnownAs, Taken, HasInstances}
use Rattle.theory_flat.specs.Flat.{captured_params, Names, names_key, names_made}
use Rattle.theory_instances_passing.specs.Pinned.{AtEach, GivenArgument, given_term, given_mono, given, IsFixed, applied_to}
use Rattle.theory_instances_denoted.specs.Arguments.{CanonicalArguments, arguments_none, arguments_term, arguments_mono}
use Rattle.theory_instances_denoted.proofs.Put.{fix_ty_skeleton}
use Rattle.theory_instances_keys.specs.Laws.{with_values, value_at, captured_values}
use Rattle.theory_instances_keys.proofs.Keys as call_keys
use Rattle.theory_instances_canonical.specs.Keys.{values_context, heads_with, IsCanonicalProgram, CanonicalFixed, fixed_end, fixed_value, fixed_term, fixed_mono}
use Rattle.theory_instances_canonical.proofs.Values.{values_valued}
use Rattle.theory_instances_canonical.proofs.More.{taken_more, key_more}
use Rattle.theory_instances_canonical.proofs.Sites.{Spine, spine_of, val_there}
use Rattle.theory_instances_canonical.proofs.Taken.{canonical}
use Rattle.theory_instances_heads.specs.Heads.{pinned_to, pinned_entry, AreInstanceHeads}
use Rattle.theory_instances_heads.proofs.Made.{skeleton_of_key, KeyParts, key_parts}
use Rattle.theory_instances_called.proofs.Given.{call_applies, agreed_applies, arguments_agree}
use Rattle.theory_instances_called.proofs.Called.{past_along, variables_pass, given_past, count_passed, one_skeleton}
use Rattle.theory_instances_linked.specs.Laws.{values_of, CallsDenote}
use Rattle.theory_instances_linked.proofs.Captured.{value_there}
use Rattle.theory_instances_linked.proofs.Instances.{denote}

-- the values of parameters
variables_are : (e : HeadEntries) (vs : List Value) (l : List ℕ) → values_of e vs (map t_var l) ≡ map (value_at vs) l
unfolding term_den
variables_are e vs [] = refl
variables_are e vs (n ∷ l) = λ j. value_of_entry (value_there vs n j) ∷ variables_are e vs l j

list_is : (e : HeadEntries) (vs : List Value) (terms : TermTrees) → values_of e vs (list_of terms) ≡ terms_den e (with_values vs) terms
unfolding term_den
list_is e vs no_terms = refl
list_is e vs (more_terms first others) = λ j. term_den e (with_values vs) first sk_o ∷ list_is e vs others j

map_reverse : {X Y : Type 0} (f : X → Y) (l : List X) → map f (reverse l) ≡ reverse (map f l)
map_reverse f [] = refl
map_reverse f (x ∷ l) =
    ap (map f) (reverse-append (x ∷ []) l) ∙ map-append f (reverse l) (x ∷ []) ∙ (λ j. map_reverse f l j ++ (f x ∷ []))
    ∙ sym (reverse-append (f x ∷ []) (map f l))

both_reversed : (front passed : List Value) → reverse (front ++ passed) ≡ reverse passed ++ reverse front
both_reversed front passed = reverse-append front passed

-- plain keys
plain_given : (e : HeadEntries) (w : Valuation) (argument : Argument) → given e w (plain_argument argument) ≡ given e w argument
plain_given e w (of_term term) = λ j. given_term (λ s. term_plain e term w s j)
plain_given e w (of_mono mono) = refl

plain_givens : (e : HeadEntries) (w : Valuation) (fixed : List Argument) → map (given e w) (map plain_argument fixed) ≡ map (given e w) fixed
plain_givens e w [] = refl
plain_givens e w (x ∷ fixed) = λ j. plain_given e w x j ∷ plain_givens e w fixed j

same_head : (e : HeadEntries) (w : Valuation) (known key : Key) → plain_key known ≡ plain_key key → head_den e w known.head ≡ head_den e w key.head
same_head e w known key q = sym (head_plain e known.head w) ∙ ap (λ (k : Key). head_den e w k.head) q ∙ head_plain e key.head w

same_fixed : (e : HeadEntries) (w : Valuation) (known key : Key)
    → plain_key known ≡ plain_key key
    → map (given e w) known.fixed ≡ map (given e w) key.fixed
same_fixed e w known key q =
    sym (plain_givens e w known.fixed) ∙ ap (λ (k : Key). map (given e w) k.fixed) q ∙ plain_givens e w key.fixed

-- the key of a call
no_key : {key : Key} → [] ≡ key ∷ [] → ⊥
no_key q = cc

key_of_head : (head : TermTree) (own key : Key) → keys_of_head head own ≡ key ∷ [] → own ≡ key
key_of_head (t_val n) own key q = cc
key_of_head (t_fix at fix) own key q = cc
key_of_head _ own key q = absurd (no_key q)

head_skeleton : (p : Program) (keys : List Key) {g : List Standing} {head : TermTree} {whole : Skeleton} (own key : Key)
    → IsNeutral (heads_with p keys) g head whole
    → keys_of_head head own ≡ key ∷ []
    → skeleton (head_ty p head) ≡ whole
head_skeleton p keys own key (e_val {number = n} {s = s} d) q = let r = val_there p.vals n s d in ap (λ o. skeleton (ty_of_val o)) (r.1) ∙ r.2
head_skeleton p keys own key (e_fix d) q = fix_ty_skeleton d
head_skeleton p keys own key (e_var d) q = absurd (no_key q)
head_skeleton p keys own key (e_made d c) q = absurd (no_key q)
head_skeleton p keys own key (e_app c d) q = absurd (no_key q)
head_skeleton p keys own key (e_inst c d) q = absurd (no_key q)

made_there : (p : Program) (keys : List Key) (n : ℕ) (key : Key) (s : Skeleton)
    → slice_get keys n ≡ Some key
    → HasSkeleton (map (skeleton_of_key p) keys) n s
    → skeleton_of_key p key ≡ s
made_there p [] n key s q d = elim d [ ]
made_there p (k ∷ keys) zero key s q first_head = ap (skeleton_of_key p) (sym (same_Some k key q))
made_there p (k ∷ keys) (suc n) key s q (later_head d) = made_there p keys n key s q d

made_skeleton : (p : Program) (keys : List Key) (number : ℕ) (values : TermTrees) (key : Key) {g : List Standing} {whole : Skeleton}
    → slice_get keys number ≡ Some key
    → IsNeutral (heads_with p keys) g (t_made number values) whole
    → skeleton_of_key p key ≡ whole
made_skeleton p keys number values key {whole = whole} q (e_made d c) = made_there p keys number key whole q d

no_value : {x : Value} {xs : List Value} → x ∷ xs ≡ [] → ⊥
no_value q = cc

same_value : {x y : Value} {xs ys : List Value} → x ∷ xs ≡ y ∷ ys → x ≡ y
same_value q = cc

same_values : {x y : Value} {xs ys : List Value} → x ∷ xs ≡ y ∷ ys → xs ≡ ys
same_values q = cc

-- what is pinned, at the arguments of a call
module _ (e : HeadEntries) (m : Map) (w0 wv w : Valuation) (along : AgreeAlong m w0 w) where
  -- the values that a call passes are those of these terms
  abbrev Passes : Skeleton → List Argument → List TermTree → Type 0
  Passes s arguments passed = map (λ (x : TermTree). term_den e wv x sk_o) (passed_of s arguments) ≡ map (λ (x : TermTree). term_den e w x sk_o) passed

  abbrev PinnedApplies : (s : Skeleton) → List Argument → List Argument → Type 0
  PinnedApplies s fixed arguments =
      (d : Domain s) (passed : List TermTree)
      → Passes s arguments passed
      → applied_to (den_term s (pinned_to s (map (given e w0) fixed) d)) (map (given e wv) arguments)
      ≡ applied_to (den_term s d) (map (given e w) (all_arguments s (map (rename_argument m) fixed) passed))

  value_pinned : (t : Skeleton) (term : TermTree) (fixed others : List Argument) → PinnedApplies t fixed others → PinnedApplies (sk_arrow sk_o t) fixed (of_term term ∷ others)
  value_pinned t term fixed others go d [] q = absurd (no_value q)
  value_pinned t term fixed others go d (x ∷ passed) q =
      ap (λ (v : Value). applied_to (den_term t (pinned_to t (map (given e w0) fixed) (d v))) (map (given e wv) others)) (same_value q)
      ∙ go (d (term_den e w x sk_o)) passed (same_values q)

  fixed_pinned : (r t : Skeleton) (term x : TermTree) (fixed others : List Argument)
      → IsFixed r
      → PinnedApplies t fixed others
      → PinnedApplies (sk_arrow r t) (of_term x ∷ fixed) (of_term term ∷ others)
  fixed_pinned sk_o t term x fixed others i go d passed q = absurd i
  fixed_pinned sk_c t term x fixed others i go d passed q =
      go (d (term_den e w0 x sk_c)) passed q
      ∙ ap (λ y. applied_to (den_term t (d y)) (map (given e w) (all_arguments t (map (rename_argument m) fixed) passed))) (sym (term_renamed e x along sk_c))
  fixed_pinned (sk_arrow a b) t term x fixed others i go d passed q =
      go (d (term_den e w0 x (sk_arrow a b))) passed q
      ∙ ap (λ y. applied_to (den_term t (d y)) (map (given e w) (all_arguments t (map (rename_argument m) fixed) passed)))
      (sym (term_renamed e x along (sk_arrow a b)))
  fixed_pinned (sk_all a) t term x fixed others i go d passed q =
      go (d (term_den e w0 x (sk_all a))) passed q
      ∙ ap (λ y. applied_to (den_term t (d y)) (map (given e w) (all_arguments t (map (rename_argument m) fixed) passed)))
      (sym (term_renamed e x along (sk_all a)))

  mono_pinned : (s : Skeleton) (mono u : MonoTree) (fixed others : List Argument)
      → PinnedApplies s fixed others
      → PinnedApplies (sk_all s) (of_mono u ∷ fixed) (of_mono mono ∷ others)
  mono_pinned s mono u fixed others go d passed q =
      go (d (mono_in w0 u)) passed q
      ∙ ap (λ t. applied_to (den_term s (d t)) (map (given e w) (all_arguments s (map (rename_argument m) fixed) passed))) (sym (mono_renamed along u))

  pinned_applies : {heads few : Heads} {g h : List Standing} {s : Skeleton} {arguments fixed : List Argument}
      → CanonicalArguments heads g s arguments sk_c
      → CanonicalFixed few h s fixed
      → PinnedApplies s fixed arguments
  pinned_applies arguments_none fixed_end = λ d passed q. refl
  pinned_applies (arguments_term {t = t} {term = term} {others = others} a more) (fixed_value {fixed = fixed} f) =
      value_pinned t term fixed others (pinned_applies more f)
  pinned_applies (arguments_term {s = r} {t = t} {term = term} {others = others} a more) (fixed_term {term = x} {fixed = fixed} i c f) =
      fixed_pinned r t term x fixed others i (pinned_applies more f)
  pinned_applies (arguments_mono {s = s} {mono = mono} {others = others} a more) (fixed_mono {mono = u} {fixed = fixed} c f) =
      mono_pinned s mono u fixed others (pinned_applies more f)

module _ (p : Program) (instances : List Taken) (keys : List Key) (e : HeadEntries) (program : IsCanonicalProgram p) (h : HasInstances p instances keys)
    (a : AreInstanceHeads p keys e) where
  -- an instance, at the skeleton of its head and the values that a call gives
  instance_at : (number : ℕ) (key : Key) (taken : Taken) (rest passed : List Value) (s : Skeleton)
      → slice_get keys number ≡ Some key
      → slice_get instances number ≡ Some taken
      → skeleton_of_key p key ≡ s
      → length passed ≡ passed_count s
      → applied_to (head_den e (with_values rest) key.head) (map (given e (with_values (reverse passed ++ rest))) (arguments_within s key))
      ≡ den_term sk_c (entered_running (comp_den e (with_values (reverse passed ++ rest)) taken.body))
  instance_at number key taken rest passed s there row is count =
      subst (λ (t : Skeleton).
      applied_to (head_den e (with_values rest) key.head) (map (given e (with_values (reverse passed ++ rest))) (arguments_within t key))
      ≡ den_term sk_c (entered_running (comp_den e (with_values (reverse passed ++ rest)) taken.body))) is
      (denote p instances keys e program h a number key taken there row rest passed (count ∙ ap passed_count (sym is)))

  parts_of : (number : ℕ) (key : Key) → slice_get keys number ≡ Some key → KeyParts (heads_with p keys) p key
  parts_of number key there = key_parts keys (key_more (taken_more p number keys) (canonical.keys p instances keys program h number key there))

  passed_same : (rest passed : List Value) (s : Skeleton) (arguments : List Argument) (vs : List Value)
      → passed ≡ values_of e vs (passed_of s arguments)
      → length passed ≡ passed_count s
      → values_of e vs (passed_of s arguments)
      ≡ map (λ (x : TermTree). term_den e (with_values (reverse passed ++ rest)) x sk_o) (variables (passed_count s))
  passed_same rest passed s arguments vs q count =
      sym q ∙ sym (variables_pass e passed rest)
      ∙ ap (λ i. map (λ (x : TermTree). term_den e (with_values (reverse passed ++ rest)) x sk_o) (variables i)) count

  known_denotes : (m : ℕ) (vs : List Value) (site : Site) (number : ℕ) (key : Key) (taken : Taken)
      → IsNeutral (heads_with p keys) (values_context m) site.call sk_c
      → keys_of_head (head_of site.call) (key_of_site p site) ≡ key ∷ []
      → IsKnownAs keys number key
      → slice_get instances number ≡ Some taken
      → head_den e (with_values vs) site.call
      ≡ den_term sk_c
      (entered_running (comp_den e
      (with_values (reverse (values_of e vs (captured_params p site ++ passed_of (skeleton (head_ty p (head_of site.call))) (arguments_of site.call))))) taken.body))
  known_denotes m vs site number key taken neutral q k row =
      let call = site.call in
      let head = head_of call in
      let s : Skeleton = skeleton (head_ty p head) in
      let arguments = arguments_of call in
      let fixed = fixed_of s arguments in
      let own : Key = key_of_site p site in
      let known : Key = k.known in
      let wv : Valuation = with_values vs in
      let rest : List Value = captured_values vs head fixed in
      let passed : List Value = values_of e vs (passed_of s arguments) in
      let w : Valuation = with_values (reverse passed ++ rest) in
      let spine = spine_of neutral in
      let whole_is : spine.whole ≡ s = sym (head_skeleton p keys own key spine.head q) in
      let args = subst (λ (t : Skeleton). CanonicalArguments (heads_with p keys) (values_context m) t arguments sk_c) whole_is spine.arguments in
      let count : length passed ≡ passed_count s = length-map (passed_of s arguments) (λ (x : TermTree). term_den e wv x sk_o) ∙ count_passed args in
      let front : length (reverse passed) ≡ passed_count s = length-reverse passed ∙ count in
      let same : plain_key known ≡ plain_key own = k.same ∙ ap plain_key (sym (key_of_head head own key q)) in
      let heads_same : head_den e wv head ≡ head_den e (with_values rest) known.head =
      call_keys.keys.heads e vs head fixed ∙ sym (same_head e (with_values rest) known own same) in
      let fixed_same : map (given e wv) fixed ≡ map (given e w) (map (rename_argument (past_passed s)) known.fixed) =
      call_keys.keys.arguments e vs head fixed ∙ sym (same_fixed e (with_values rest) known own same)
      ∙ sym (given_past e (reverse passed) rest (passed_count s) front known.fixed) in
      let parts = parts_of number known k.at in
      let known_of = head_is_of a.valued (values_valued parts.m rest) parts.head in
      let own_of = head_is_of a.valued (values_valued m vs) spine.head in
      let known_is : skeleton_of_key p known ≡ s = sym (one_skeleton own_of (heads_same ∙ known_of.is)) ∙ whole_is in
      let agreed = arguments_agree e wv w args (map (rename_argument (past_passed s)) known.fixed) (variables (passed_count s)) fixed_same
      (passed_same rest passed s arguments vs refl count) in
      let known_at : IsOf s (head_den e (with_values rest) known.head) =
      subst (λ (t : Skeleton). IsOf t (head_den e (with_values rest) known.head)) known_is known_of in
      let values_are : reverse (values_of e vs (captured_params p site ++ passed_of s arguments)) ≡ reverse passed ++ rest =
      ap reverse (map-append (λ (x : TermTree). term_den e wv x sk_o) (captured_params p site) (passed_of s arguments)
      ∙ ap (λ (l : List Value). l ++ passed) (variables_are e vs (reverse (captured_of head fixed)) ∙ map_reverse (value_at vs) (captured_of head fixed)))
      ∙ both_reversed (reverse rest) passed ∙ ap (λ (l : List Value). reverse passed ++ l) (reverse-reverse rest) in
      call_applies e wv call
      ∙ ap (λ x. applied_to x (map (given e wv) arguments)) (heads_same ∙ known_at.is)
      ∙ agreed_applies known_at.of agreed
      ∙ ap (λ x. applied_to x (map (given e w) (arguments_within s known))) (sym known_at.is)
      ∙ instance_at number known taken rest passed s k.at row known_is count
      ∙ ap (λ (l : List Value). den_term sk_c (entered_running (comp_den e (with_values l) taken.body))) (sym values_are)

  made_denotes : (m : ℕ) (vs : List Value) (site : Site) (number : ℕ) (key : Key) (values : TermTrees) (taken : Taken)
      → IsNeutral (heads_with p keys) (values_context m) site.call sk_c
      → head_of site.call ≡ t_made number values
      → slice_get keys number ≡ Some key
      → slice_get instances number ≡ Some taken
      → head_den e (with_values vs) site.call
      ≡ den_term sk_c
      (entered_running (comp_den e
      (with_values (reverse (values_of e vs (list_of values ++ passed_of (skeleton (head_ty p key.head)) (arguments_of site.call))))) taken.body))
  unfolding term_den
  made_denotes m vs site number key values taken neutral q there row =
      let call = site.call in
      let s : Skeleton = skeleton (head_ty p key.head) in
      let arguments = arguments_of call in
      let wv : Valuation = with_values vs in
      let captured : List Value = terms_den e wv values in
      let rest : List Value = reverse captured in
      let passed : List Value = values_of e vs (passed_of s arguments) in
      let w0 : Valuation = with_values rest in
      let w : Valuation = with_values (reverse passed ++ rest) in
      let spine = spine_of neutral in
      let head = subst (λ t. IsNeutral (heads_with p keys) (values_context m) t spine.whole) q spine.head in
      let whole_is : spine.whole ≡ s = sym (made_skeleton p keys number values key there head) in
      let args = subst (λ (t : Skeleton). CanonicalArguments (heads_with p keys) (values_context m) t arguments sk_c) whole_is spine.arguments in
      let count : length passed ≡ passed_count s = length-map (passed_of s arguments) (λ (x : TermTree). term_den e wv x sk_o) ∙ count_passed args in
      let along = past_along (reverse passed) rest (passed_count s) (length-reverse passed ∙ count) in
      let parts = parts_of number key there in
      let of : IsOf s (head_den e w0 key.head) = head_is_of a.valued (values_valued parts.m rest) parts.head in
      let values_are : reverse (values_of e vs (list_of values ++ passed_of s arguments)) ≡ reverse passed ++ rest =
      ap reverse (map-append (λ (x : TermTree). term_den e wv x sk_o) (list_of values) (passed_of s arguments)
      ∙ ap (λ (l : List Value). l ++ passed) (list_is e vs values))
      ∙ both_reversed captured passed in
      call_applies e wv call
      ∙ ap (λ t. applied_to (head_den e wv t) (map (given e wv) arguments)) q
      ∙ ap (λ x. applied_to x (map (given e wv) arguments)) (a.made number key there captured)
      ∙ ap (λ x. applied_to (pinned_entry (map (given e w0) key.fixed) x) (map (given e wv) arguments)) of.is
      ∙ pinned_applies e (past_passed s) w0 wv w along args parts.fixed of.of (variables (passed_count s)) (passed_same rest passed s arguments vs refl count)
      ∙ ap (λ x. applied_to x (map (given e w) (arguments_within s key))) (sym of.is)
      ∙ instance_at number key taken rest passed s there row refl count
      ∙ ap (λ (l : List Value). den_term sk_c (entered_running (comp_den e (with_values l) taken.body))) (sym values_are)

pub calls : CallsDenote
calls p instances keys e program h a m vs site number params taken neutral (names_key {key = key} q k) row =
    known_denotes p instances keys e program h a m vs site number key taken neutral q k row
calls p instances keys e program h a m vs site number params taken neutral (names_made {key = key} {values = values} q there) row =
    made_denotes p instances keys e program h a m vs site number key values taken neutral q there row
