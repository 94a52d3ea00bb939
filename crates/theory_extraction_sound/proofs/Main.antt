-- Main of a file that has code: a value of the file, whose type is a triple.
use Rattle.std.proofs.Common.{◌≡◌, ℕ, List, [], ◌∷◌, ◌++◌, map, Some, slice_get, refl, sym, ap, ◌∙◌, subst, append_assoc, append-nil}
use Rattle.std.proofs.Common.{option_map}
use Rattle.std.proofs.lemmas.Option.{same_Some, slice_get-map}
use Rattle.htt_syntax.specs.Trees.{TyTree, TripleTree, y_hoare}
use Rattle.word_loader_code.specs.declared.code.Code.{Code}
use Rattle.theory_typing.specs.Contexts.{Environment, Obligation}
use Rattle.theory_typing.specs.Laws.{none}
use Rattle.theory_items.specs.Items.{ItemTree, Added, adds_nothing, adds_def, adds_val, adds_rec, with_added}
use Rattle.theory_items.proofs.Derived.{items_give_one}
use Rattle.theory_file_derived.specs.Derived.{DerivesAll, derives_none, derives_more}
use Rattle.theory_instances.specs.Calls.{ProgramVal}
use Rattle.theory_extraction.specs.Extraction.{HasVals, vals_none, vals_next, vals_with, HasCode}

abbrev type_of : ProgramVal → TyTree
type_of v = v.ty

types_with : (added : Added) (env : Environment) (vals : List ProgramVal)
    → (with_added env added).vals ++ map type_of vals ≡ env.vals ++ map type_of (vals_with added vals)
types_with (adds_val ty term) env vals = append_assoc env.vals (ty ∷ []) (map type_of vals)
types_with adds_nothing env vals = refl
types_with (adds_def ty term) env vals = refl
types_with (adds_rec r) env vals = refl

-- the environment of all items has the types of the program's values behind those that it began with
types_after : {env final : Environment} {items : List ItemTree} {rows : List (List Obligation)} {vals : List ProgramVal}
    → DerivesAll env items final rows
    → HasVals env items vals
    → final.vals ≡ env.vals ++ map type_of vals
types_after (derives_none {env = env}) vals_none = sym (append-nil env.vals)
types_after {final = final} (derives_more {env = env} {item = item} {added = added} {items = items} {owed = owed} d rest)
    (vals_next {added = other} {owed = due} {vals = vals} e others) =
    let same : added ≡ other = (items_give_one env [] item added other owed due d e).0 in
    let later = types_after rest (subst (λ (a : Added). HasVals (with_added env a) items vals) (sym same) others) in
    later ∙ types_with added env vals ∙ ap (λ (a : Added). env.vals ++ map type_of (vals_with a vals)) same

-- main's value, its type, and where it stands
pub record HasMain (final : Environment) (vals : List ProgramVal) (main : ℕ) : Type 0 where
  pub val : ProgramVal
  pub spec : TripleTree
  pub there : slice_get vals main ≡ Some val
  pub is_hoare : val.ty ≡ y_hoare spec
  pub typed : slice_get final.vals main ≡ Some (y_hoare spec)

pub main_of : {final : Environment} {items : List ItemTree} {rows : List (List Obligation)} {main : ℕ} {code : Code}
    → DerivesAll none items final rows
    → (h : HasCode items (Some main) code)
    → HasMain final h.vals main
main_of {final = final} {main = main} d h =
    let number = h.has_instances.has.number in
    let m = h.has_instances.has.main in
    let same : number ≡ main = sym (same_Some main number m.named) in
    let there = subst (λ n. slice_get h.vals n ≡ Some m.val) same m.there in
    record {
      val = m.val;
      spec = m.spec;
      there = there;
      is_hoare = m.is_hoare;
      typed =
          ap (λ (types : List TyTree). slice_get types main) (types_after d h.has_vals)
          ∙ slice_get-map type_of h.vals main
          ∙ ap (option_map type_of) there
          ∙ ap Some m.is_hoare;
    }
