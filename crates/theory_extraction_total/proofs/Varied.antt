-- A canonical recursive function varies, or it passes its fixed parameters on.
use Rattle.std.proofs.Common.{◌≡◌, ◌≢◌, ℕ, zero, suc, ◌+◌, List, [], ◌∷◌, ◌++◌, length, map, filter, All, Bool, true, false, nat_eq, cond, ◌⊎◌, inl, inr}
use Rattle.std.proofs.Common.{refl, sym, ap, ◌∙◌, subst, arith}
use Rattle.std.proofs.lemmas.List.{length-append, length-map}
use Rattle.std.proofs.lemmas.List.Elements.{All-nil, All-cons}
use Rattle.htt_syntax.specs.Trees.{TermTree, FixTree, t_var, t_fix, x_param, x_body}
use Rattle.theory_trees_decided.proofs.Decided.{term_decided}
use Rattle.theory_renaming.specs.Renaming.{shifting, rename_term}
use Rattle.theory_canonical.specs.Skeletons.{Skeleton, sk_o, sk_c, sk_arrow, sk_all, skeleton}
use Rattle.theory_canonical.specs.Eta.{expansion}
use Rattle.theory_canonical.specs.Contexts.{Standing, Heads}
use Rattle.theory_canonical.specs.Canonical.{IsCanonicalFix}
use Rattle.theory_substitution.specs.Closing.{up}
use Rattle.theory_instances.specs.Calls.{Argument, of_term, fix_ty, fix_comp}
use Rattle.theory_instances.specs.Occurrences.{Occurrence, met_in_comp}
use Rattle.theory_instances.specs.Varying.{expanded_params, expanded_at, PassesOn, passes_end, passes_value, passes_fixed, VariesAt, varies_here}
use Rattle.theory_instances.specs.Varying.{varies_past_value, varies_past_fixed, PassesOnAt, NeverVaries, Varies}
use Rattle.theory_instances_denoted.proofs.Put.{fix_ty_skeleton}
use Rattle.theory_extraction_total.proofs.Applied.{Applied, applied_c, applied_term, OwnApplied, EachApplied, none_applied, more_applied, own_applied}

-- one term for each parameter of a recursive function
pub data IsOfParams : Skeleton → List TermTree → Type 0 where
  of_none : IsOfParams sk_c []
  of_more : {s t : Skeleton} {param : TermTree} {params : List TermTree}
      → IsOfParams t params
      → IsOfParams (sk_arrow s t) (param ∷ params)

abbrev count_of_params : FixTree → ℕ
count_of_params (x_param ty others) = suc (count_of_params others)
count_of_params (x_body spec comp) = zero

expanded_count : (before : List TermTree) (fix : FixTree) → length (expanded_params before fix) ≡ length before + count_of_params fix
expanded_count before (x_param ty others) =
    let param : TermTree = expansion suc (t_var zero) ty in
    let b = length-append (map up before) (param ∷ []) in
    let c = length-map before up in
    let one : length (map up before ++ param ∷ []) + count_of_params others ≡ length before + suc (count_of_params others) =
    omega (arith, b, c) in
    expanded_count (map up before ++ param ∷ []) others ∙ one
expanded_count before (x_body spec comp) =
    let c = length-map before up in
    let none : length before ≡ length before + zero = omega arith in c ∙ none

of_params : (fix : FixTree) (params : List TermTree) → length params ≡ count_of_params fix → IsOfParams (skeleton (fix_ty fix)) params
unfolding skeleton fix_ty
of_params (x_param ty others) [] q = let r : zero ≡ suc (count_of_params others) = q in absurd (omega (arith, r))
of_params (x_param ty others) (param ∷ params) q =
    let r : suc (length params) ≡ suc (count_of_params others) = q in of_more (of_params others params (omega (arith, r)))
of_params (x_body spec comp) [] q = of_none
of_params (x_body spec comp) (param ∷ params) q = let r : suc (length params) ≡ zero = q in absurd (omega (arith, r))

abbrev Decided : Skeleton → List TermTree → List Argument → Type 0
Decided s params arguments = PassesOn s params arguments ⊎ ((position : ℕ) × VariesAt s params arguments position)

past_fixed : {s t : Skeleton} {param argument : TermTree} {params : List TermTree} {arguments : List Argument}
    → s ≢ sk_o
    → Decided t params arguments
    → Decided (sk_arrow s t) (param ∷ params) (of_term argument ∷ arguments)
past_fixed {param = param} {argument = argument} d rest = elim (term_decided argument param) [
  | inl q ↦ elim rest [ inl a ↦ inl (passes_fixed q a) | inr r ↦ inr (suc (r.0), varies_past_fixed q (r.1)) ]
  | inr n ↦ inr (1, varies_here d n)
]

past_param : (s : Skeleton) {t : Skeleton} {param argument : TermTree} {params : List TermTree} {arguments : List Argument}
    → Decided t params arguments
    → Decided (sk_arrow s t) (param ∷ params) (of_term argument ∷ arguments)
past_param sk_o rest = elim rest [ inl a ↦ inl (passes_value a) | inr r ↦ inr (suc (r.0), varies_past_value (r.1)) ]
past_param sk_c rest = past_fixed (λ q. cc) rest
past_param (sk_arrow r s) rest = past_fixed (λ q. cc) rest
past_param (sk_all s) rest = past_fixed (λ q. cc) rest

params_decided : {s : Skeleton} {params : List TermTree} {arguments : List Argument}
    → IsOfParams s params
    → Applied s arguments
    → Decided s params arguments
params_decided of_none applied_c = inl passes_end
params_decided (of_more {s = s} m) (applied_term a) = past_param s (params_decided m a)

-- the first occurrence of a list that varies
record FirstVaries (fix : FixTree) (xs : List Occurrence) : Type 0 where
  position : ℕ
  before : List Occurrence
  here : Occurrence
  after : List Occurrence
  all : xs ≡ before ++ here ∷ after
  passed_on : All (PassesOnAt fix) before
  varies : VariesAt (skeleton (fix_ty fix)) (expanded_at fix here) here.arguments position

module _ (fix : FixTree) where
  abbrev AllDecided : List Occurrence → Type 0
  AllDecided xs = All (PassesOnAt fix) xs ⊎ FirstVaries fix xs

  one_more : (o : Occurrence) (others : List Occurrence)
      → Decided (skeleton (fix_ty fix)) (expanded_at fix o) o.arguments
      → AllDecided others
      → AllDecided (o ∷ others)
  one_more o others d rest = elim d [
    | inl a ↦ elim rest [
      | inl all ↦ inl (All-cons (PassesOnAt fix) o others a all)
      | inr v ↦ inr (record {
        position = v.position;
        before = o ∷ v.before;
        here = v.here;
        after = v.after;
        all = ap (λ (l : List Occurrence). o ∷ l) v.all;
        passed_on = All-cons (PassesOnAt fix) o v.before a v.passed_on;
        varies = v.varies;
      })
    ]
    | inr r ↦ inr (record {
      position = r.0;
      before = [];
      here = o;
      after = others;
      all = refl;
      passed_on = All-nil (PassesOnAt fix);
      varies = r.1;
    })
  ]

  occurrences_decided : {xs : List Occurrence}
      → EachApplied (skeleton (fix_ty fix)) xs
      → AllDecided (filter (λ (o : Occurrence). nat_eq o.variable zero) xs)
  occurrences_decided none_applied = inl (All-nil (PassesOnAt fix))
  occurrences_decided (more_applied {o = o} {others = others} a rest) = by (nat_eq o.variable zero) a (occurrences_decided rest)
    where
      own : List Occurrence
      own = filter (λ (x : Occurrence). nat_eq x.variable zero) others

      by : (b : Bool) → OwnApplied (skeleton (fix_ty fix)) b o → AllDecided own → AllDecided (cond b (o ∷ own) own)
      by true p d =
          let count = length-map (expanded_params [] fix) (rename_term (shifting zero o.inside)) in
          let same : zero + count_of_params fix ≡ count_of_params fix = omega arith in
          one_more o own (params_decided (of_params fix (expanded_at fix o) (count ∙ expanded_count [] fix ∙ same)) p) d
      by false p d = d

pub varies_or_not : {heads : Heads} {g : List Standing} {s : Skeleton} (at : ℕ) (fix : FixTree)
    → IsCanonicalFix heads g s fix s
    → NeverVaries (t_fix at fix) ⊎ ((position : ℕ) × Varies fix position)
varies_or_not at fix c =
    elim (occurrences_decided fix (subst (λ (u : Skeleton). EachApplied u (met_in_comp zero (fix_comp fix))) (sym (fix_ty_skeleton c)) (own_applied c))) [
      | inl a ↦ inl a
      | inr v ↦ inr (v.position, record { before = v.before; here = v.here; after = v.after; all = v.all; passed_on = v.passed_on; varies = v.varies })
    ]
