-- An instance is taken up in one way, or refused in one way.
use Rattle.std.proofs.Common.{◌≡◌, ◌≢◌, ℕ, zero, suc, List, [], ◌∷◌, ◌++◌, All, Some, None, Option, slice_get, refl, sym, ap, ◌∙◌, subst}
use Rattle.std.proofs.lemmas.Option.{same_Some}
use Rattle.std.proofs.lemmas.List.Elements.{All-head, All-tail}
use Rattle.htt_syntax.specs.Trees.{TermTree, FixTree, CompTree, t_val, t_fix, t_do, t_lam_t}
use Rattle.theory_renaming.specs.Renaming.{rename_fix}
use Rattle.theory_canonical.specs.Skeletons.{Skeleton, sk_o, skeleton}
use Rattle.theory_canonical.specs.Eta.{eta}
use Rattle.theory_substitution.specs.Monotypes.{put_mono_term}
use Rattle.theory_substitution.specs.Substitution.{App}
use Rattle.theory_substitution.proofs.Once.{app_once}
use Rattle.theory_instances.specs.Calls.{ProgramVal, Program, Argument, of_term, fix_ty}
use Rattle.theory_instances.specs.Occurrences.{Occurrence}
use Rattle.theory_instances.specs.Keys.{Key}
use Rattle.theory_instances.specs.Bodies.{Puts, puts_none, puts_term, puts_mono, opened_fix, opened_skeleton, arguments_within, past_passed, made_of, HasBody}
use Rattle.theory_instances.specs.Bodies.{body_of_val, body_of_fix}
use Rattle.theory_instances.specs.Varying.{PassesOn, passes_value, passes_fixed, VariesAt, varies_here, varies_past_value, varies_past_fixed, PassesOnAt}
use Rattle.theory_instances.specs.Varying.{NeverVaries, Varies, own_occurrences, expanded_at}
use Rattle.theory_instances.specs.Lists.{Refusal, is_varying, result_refusal, mono_refusal, Taken, TakesUp, RefusesUp, up_varies, up_result, up_mono}

pub no_fix : {n a : ℕ} {f : FixTree} → t_val n ≡ t_fix a f → ⊥
no_fix q = cc

same_val : {n m : ℕ} → t_val n ≡ t_val m → n ≡ m
same_val q = cc

same_fix : {a b : ℕ} {f g : FixTree} → t_fix a f ≡ t_fix b g → f ≡ g
same_fix q = cc

same_at : {a b : ℕ} {f g : FixTree} → t_fix a f ≡ t_fix b g → a ≡ b
same_at q = cc

same_do : {c d : CompTree} → t_do c ≡ t_do d → c ≡ d
same_do q = cc

same_family : {f g : TermTree} → t_lam_t f ≡ t_lam_t g → f ≡ g
same_family q = cc

puts_once : {function other last end : TermTree} {s : Skeleton} {arguments : List Argument} {results more : List TermTree}
    → function ≡ other
    → Puts function s arguments results last
    → Puts other s arguments more end
    → (results ≡ more) × (last ≡ end)
puts_once q puts_none puts_none = (refl, q)
puts_once q (puts_term {argument = argument} {next = next} {s = s} a rest) (puts_term {next = next'} b more) =
    let same : next ≡ next' = app_once a (subst (λ f. App f s argument next') (sym q) b) in
    let r = puts_once same rest more in
    ((λ j. same j ∷ (r.0) j), r.1)
puts_once q (puts_mono {mono = mono} rest) (puts_mono more) =
    let same = ap (put_mono_term mono zero) (same_family q) in
    let r = puts_once same rest more in
    ((λ j. same j ∷ (r.0) j), r.1)

pub body_once : {p : Program} {number : ℕ} {key : Key} {results more : List TermTree} {comp other : CompTree}
    → HasBody p number key results comp
    → HasBody p number key more other
    → (results ≡ more) × (comp ≡ other)
body_once {p = p} {key = key} {more = more} {other = other} (body_of_val {n = n} {v = v} q found puts) (body_of_val {n = m} {v = u} r there again) =
    let same : u ≡ v = same_Some u v (sym there ∙ ap (λ k. slice_get p.vals k) (same_val (sym r ∙ q)) ∙ found) in
    let one =
    puts_once refl puts
    (subst (λ (x : ProgramVal). Puts x.term (skeleton x.ty) (arguments_within (skeleton x.ty) key) more (t_do other)) same again) in
    (one.0, same_do (one.1))
body_once {number = number} {key = key} {more = more} {other = other} (body_of_fix {fix = fix} {own = own} q is_own puts)
    (body_of_fix {fix = fix'} {own = own'} r is_own' again) =
    let same : own' ≡ own =
    is_own' ∙ ap (λ (f : FixTree). rename_fix (past_passed (skeleton (fix_ty f))) f) (same_fix (sym r ∙ q)) ∙ sym is_own in
    let one = puts_once refl puts (subst (λ (o : FixTree).
    Puts (opened_fix o) (opened_skeleton (skeleton (fix_ty o)) o)
    (arguments_within (skeleton (fix_ty o)) key ++ of_term (eta (made_of number (skeleton (fix_ty o)) key) (fix_ty o)) ∷ []) more
    (t_do other)) same again) in
    (one.0, same_do (one.1))
body_once (body_of_val q found puts) (body_of_fix r own again) = absurd (no_fix (sym q ∙ r))
body_once (body_of_fix q own puts) (body_of_val r found again) = absurd (no_fix (sym r ∙ q))

pub taken_once : {p : Program} {number : ℕ} {key : Key} {taken other : Taken} → TakesUp p number key taken → TakesUp p number key other → taken ≡ other
taken_once a b =
    let key = a.same_key ∙ sym b.same_key in
    let params = a.params ∙ sym b.params in
    let result = a.result ∙ sym b.result in
    let body = (body_once a.has_body b.has_body).1 in
    λ j. record { key = key j; params = params j; result = result j; body = body j }

-- what varies at an occurrence isn't passed on there
varies_not_passed : {s : Skeleton} {params : List TermTree} {arguments : List Argument} {position : ℕ}
    → VariesAt s params arguments position
    → PassesOn s params arguments
    → ⊥
varies_not_passed (varies_here d e) (passes_value p) = d refl
varies_not_passed (varies_here d e) (passes_fixed q p) = e q
varies_not_passed (varies_past_value v) (passes_value p) = varies_not_passed v p
varies_not_passed (varies_past_value v) (passes_fixed q p) = varies_not_passed v p
varies_not_passed (varies_past_fixed r v) (passes_value p) = varies_not_passed v p
varies_not_passed (varies_past_fixed r v) (passes_fixed q p) = varies_not_passed v p

position_once : {s : Skeleton} {params : List TermTree} {arguments : List Argument} {n m : ℕ}
    → VariesAt s params arguments n
    → VariesAt s params arguments m
    → n ≡ m
position_once (varies_here d e) (varies_here c f) = refl
position_once (varies_here d e) (varies_past_value v) = absurd (d refl)
position_once (varies_here d e) (varies_past_fixed q v) = absurd (e q)
position_once (varies_past_value v) (varies_here c f) = absurd (c refl)
position_once (varies_past_value v) (varies_past_value u) = ap suc (position_once v u)
position_once (varies_past_value v) (varies_past_fixed q u) = ap suc (position_once v u)
position_once (varies_past_fixed q v) (varies_here c f) = absurd (f q)
position_once (varies_past_fixed q v) (varies_past_value u) = ap suc (position_once v u)
position_once (varies_past_fixed q v) (varies_past_fixed r u) = ap suc (position_once v u)

same_first : {A : Type 0} {x y : A} {xs ys : List A} → x ∷ xs ≡ y ∷ ys → x ≡ y
same_first q = cc

same_others : {A : Type 0} {x y : A} {xs ys : List A} → x ∷ xs ≡ y ∷ ys → xs ≡ ys
same_others q = cc

module _ (fix : FixTree) where
  abbrev Here : Occurrence → ℕ → Type 0
  Here o position = VariesAt (skeleton (fix_ty fix)) (expanded_at fix o) o.arguments position

  first_once : (before : List Occurrence) (here : Occurrence) (after earlier : List Occurrence) (there : Occurrence) (later : List Occurrence) {n m : ℕ}
      → before ++ here ∷ after ≡ earlier ++ there ∷ later
      → All (PassesOnAt fix) before
      → All (PassesOnAt fix) earlier
      → Here here n
      → Here there m
      → n ≡ m
  first_once [] here after [] there later {m = m} q a b v u = position_once v (subst (λ o. Here o m) (sym (same_first q)) u)
  first_once [] here after (x ∷ earlier) there later q a b v u =
      absurd (varies_not_passed v (subst (PassesOnAt fix) (sym (same_first q)) (All-head (PassesOnAt fix) x earlier b)))
  first_once (x ∷ before) here after [] there later q a b v u =
      absurd (varies_not_passed u (subst (PassesOnAt fix) (same_first q) (All-head (PassesOnAt fix) x before a)))
  first_once (x ∷ before) here after (y ∷ earlier) there later q a b v u =
      first_once before here after earlier there later (same_others q) (All-tail (PassesOnAt fix) x before a) (All-tail (PassesOnAt fix) y earlier b) v u

  one_among : (before : List Occurrence) (here : Occurrence) (after : List Occurrence) → All (PassesOnAt fix) (before ++ here ∷ after) → PassesOnAt fix here
  one_among [] here after a = All-head (PassesOnAt fix) here after a
  one_among (x ∷ before) here after a = one_among before here after (All-tail (PassesOnAt fix) x (before ++ here ∷ after) a)

  varies_once : {n m : ℕ} → Varies fix n → Varies fix m → n ≡ m
  varies_once a b = first_once a.before a.here a.after b.before b.here b.after (sym a.all ∙ b.all) a.passed_on b.passed_on a.varies b.varies

  never_or : {n : ℕ} → Varies fix n → All (PassesOnAt fix) (own_occurrences fix) → ⊥
  never_or v a = varies_not_passed v.varies (one_among v.before v.here v.after (subst (All (PassesOnAt fix)) v.all a))

-- a head that never varies doesn't vary
pub varies_or_not : {head : TermTree} {at position : ℕ} {fix : FixTree} → head ≡ t_fix at fix → Varies fix position → NeverVaries head → ⊥
varies_or_not {fix = fix} q v a = never_or fix v (subst NeverVaries q a)

none_is_some : {A : Type 0} {x : A} {o : Option A} → o ≡ None → o ≡ Some x → ⊥
none_is_some q r = absurd (let e = sym q ∙ r in cc)

pub up_once : {p : Program} {number : ℕ} {key : Key} {refusal other : Refusal} → RefusesUp p number key refusal → RefusesUp p number key other → refusal ≡ other
up_once (up_varies {fix = fix} q v) (up_varies {position = position'} r u) =
    let w : Varies fix position' = subst (λ f. Varies f position') (same_fix (sym r ∙ q)) u in
    let at = same_at (sym q ∙ r) in
    let place = varies_once fix v w in
    λ j. is_varying (at j) (place j)
up_once (up_varies q v) (up_result n b r) = absurd (varies_or_not q v n)
up_once (up_varies q v) (up_mono n b r s) = absurd (varies_or_not q v n)
up_once (up_result n b r) (up_varies q v) = absurd (varies_or_not q v n)
up_once (up_mono n b r s) (up_varies q v) = absurd (varies_or_not q v n)
up_once {key = key} (up_result {refusal = x} n b r) (up_result {refusal = y} m c s) =
    same_Some x y (sym r ∙ ap (result_refusal key.head) ((body_once b c).0) ∙ s)
up_once {key = key} (up_result n b r) (up_mono m c s t) = absurd (none_is_some s (sym (ap (result_refusal key.head) ((body_once b c).0)) ∙ r))
up_once {key = key} (up_mono m c s t) (up_result n b r) = absurd (none_is_some s (ap (result_refusal key.head) ((body_once c b).0) ∙ r))
up_once (up_mono {refusal = x} m c s t) (up_mono {refusal = y} n d r u) = same_Some x y (sym t ∙ u)

pub up_or_not : {p : Program} {number : ℕ} {key : Key} {taken : Taken} {refusal : Refusal} → TakesUp p number key taken → RefusesUp p number key refusal → ⊥
up_or_not a (up_varies q v) = varies_or_not q v a.never_varies
up_or_not {key = key} a (up_result n b r) = none_is_some a.results_within (ap (result_refusal key.head) ((body_once a.has_body b).0) ∙ r)
up_or_not a (up_mono n b r s) = none_is_some a.monos_within ((λ j. mono_refusal (a.result j ∷ a.params j)) ∙ s)
