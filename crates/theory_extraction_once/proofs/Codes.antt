-- A file has at most one code, or one reason why it has none.
use Rattle.std.proofs.Common.{◌≡◌, ℕ, List, [], ◌∷◌, ◌++◌, Option, Some, None, refl, sym, ap, ◌∙◌, subst}
use Rattle.std.proofs.lemmas.Option.{same_Some}
use Rattle.word_loader_code.specs.declared.code.Code.{Code}
use Rattle.theory_typing.specs.Contexts.{Environment}
use Rattle.theory_items.specs.Items.{ItemTree, with_added}
use Rattle.theory_items.proofs.Derived.{items_give_one}
use Rattle.theory_instances.specs.Calls.{ProgramVal}
use Rattle.theory_instances.specs.Lists.{Refusal, RefusesInstances}
use Rattle.theory_flat.specs.Flat.{Instance, HasFlatInstances}
use Rattle.theory_emission.specs.Codes.{EmitRefusal, emit_refusal}
use Rattle.theory_extraction.specs.Extraction.{HasVals, vals_none, vals_next, vals_with, program, HasCodeBy, ExtractionRefusal, of_list, of_code}
use Rattle.theory_extraction.specs.Extraction.{RefusesCodeBy, refuses_list, refuses_code}
use Rattle.theory_extraction_once.specs.Laws.{CodeIsOne}
use Rattle.theory_extraction_once.proofs.Lists.{list_or_not, refusal_once, none_or_some}
use Rattle.theory_extraction_once.proofs.Flat.{flat_instances_once}

vals_once : {env : Environment} {items : List ItemTree} {vals others : List ProgramVal} → HasVals env items vals → HasVals env items others → vals ≡ others
vals_once vals_none vals_none = refl
vals_once {env = env} (vals_next {item = item} {added = added} {owed = owed} {items = items} d rest)
    (vals_next {added = other} {owed = owed'} {vals = vals'} e again) =
    let x = (items_give_one env [] item added other owed owed' d e).0 in
    let y = vals_once rest (subst (λ a. HasVals (with_added env a) items vals') (sym x) again) in
    λ j. vals_with (x j) (y j)

at_vals : {main : Option ℕ} {env : Environment} {items : List ItemTree} {vals others : List ProgramVal} {instances : List Instance}
    → HasVals env items vals
    → HasVals env items others
    → HasFlatInstances (program others main) instances
    → HasFlatInstances (program vals main) instances
at_vals {main = main} {instances = instances} a b h = subst (λ v. HasFlatInstances (program v main) instances) (vals_once b a) h

refused_at : {main : Option ℕ} {env : Environment} {items : List ItemTree} {vals others : List ProgramVal} {refusal : Refusal}
    → HasVals env items vals
    → HasVals env items others
    → RefusesInstances (program others main) refusal
    → RefusesInstances (program vals main) refusal
refused_at {main = main} {refusal = refusal} a b r = subst (λ v. RefusesInstances (program v main) refusal) (vals_once b a) r

module _ (written : List Instance → Code) where
  refusals_one : {items : List ItemTree} {main : Option ℕ} {refusal other : ExtractionRefusal}
      → RefusesCodeBy written items main refusal
      → RefusesCodeBy written items main other
      → refusal ≡ other
  refusals_one (refuses_list v r) (refuses_list u s) = ap of_list (refusal_once r (refused_at v u s))
  refusals_one (refuses_list v r) (refuses_code u h q) = absurd (list_or_not (at_vals v u h).has r)
  refusals_one (refuses_code v h q) (refuses_list u r) = absurd (list_or_not (at_vals u v h).has r)
  refusals_one (refuses_code {refusal = x} v h q) (refuses_code {refusal = y} u k r) =
      ap of_code (same_Some x y (sym q ∙ ap (λ i. emit_refusal (written i)) (flat_instances_once h (at_vals v u k)) ∙ r))

  code_or_not : {items : List ItemTree} {main : Option ℕ} {code : Code} {refusal : ExtractionRefusal}
      → HasCodeBy written items main code
      → RefusesCodeBy written items main refusal
      → ⊥
  code_or_not a (refuses_list u r) = list_or_not (at_vals u a.has_vals a.has_instances).has r
  code_or_not a (refuses_code u h q) =
      none_or_some
      (sym a.within ∙ ap (λ i. emit_refusal (written i)) (flat_instances_once a.has_instances (at_vals a.has_vals u h)) ∙ q)

  pub code_one : CodeIsOne written
  code_one = record {
    codes = λ items main code other a b.
        a.is ∙ ap written (flat_instances_once a.has_instances (at_vals a.has_vals b.has_vals b.has_instances)) ∙ sym b.is;
    refusals = λ items main refusal other a b. refusals_one a b;
    either = λ items main code refusal a b. code_or_not a b;
  }
