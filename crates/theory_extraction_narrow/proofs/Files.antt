-- What each item adds is narrow, since an item derives what it is checked to, and nothing else.
use Rattle.std.proofs.Common.{◌≡◌, ℕ, zero, suc, List, [], ◌∷◌, Ok, Some, None, slice_get, subst}
use Rattle.std.proofs.lemmas.Option.{same_Some}
use Rattle.theory_typing.specs.Contexts.{Environment}
use Rattle.theory_typing.specs.Laws.{none}
use Rattle.theory_items.specs.Items.{ItemTree, Added, adds_nothing, adds_def, adds_val, adds_rec, with_added}
use Rattle.theory_items.proofs.Derived.{items_give_one}
use Rattle.theory_instances.specs.Calls.{ProgramVal}
use Rattle.theory_extraction.specs.Extraction.{HasVals, vals_none, vals_next, vals_with}
use Rattle.theory_checking_items.proofs.Items.{checked_items_derive}
use Rattle.theory_checking_narrow.specs.Narrow.{IsNarrowTerm, IsNarrowEnvironment, IsNarrowAdded}
use Rattle.theory_checking_narrow.proofs.Items.{checked_items_are_narrow}
use Rattle.theory_checking_files.specs.Files.{CheckedAll, checked_all, ItemsComeTo, items_end, item_then_items}
use Rattle.theory_extraction_narrow.specs.Laws.{CheckedFilesAreNarrow}

none_is_some : {A : Type 0} {x : A} → None ≡ Some x → ⊥
none_is_some q = cc

nothing_narrow : IsNarrowEnvironment none
nothing_narrow = record {
  val_types = λ number ty q. absurd (none_is_some q);
  def_types = λ number definition q. absurd (none_is_some q);
  def_terms = λ number definition q. absurd (none_is_some q);
  rec_params = λ number r q. absurd (none_is_some q);
}

abbrev AreNarrowVals : List ProgramVal → Type 0
AreNarrowVals vals = (number : ℕ) (v : ProgramVal) → slice_get vals number ≡ Some v → IsNarrowTerm v.term

with_narrow : (added : Added) (vals : List ProgramVal) → IsNarrowAdded added → AreNarrowVals vals → AreNarrowVals (vals_with added vals)
with_narrow (adds_val ty term) vals here others zero v q =
    subst (λ (x : ProgramVal). IsNarrowTerm x.term) (same_Some (record { ty = ty; term = term }) v q) (here.1)
with_narrow (adds_val ty term) vals here others (suc number) v q = others number v q
with_narrow adds_nothing vals here others number v q = others number v q
with_narrow (adds_def ty term) vals here others number v q = others number v q
with_narrow (adds_rec r) vals here others number v q = others number v q

vals_narrow : (n : ℕ) (env : Environment) (items : List ItemTree) (k : CheckedAll) {vals : List ProgramVal}
    → IsNarrowEnvironment env
    → ItemsComeTo n env items (Ok k)
    → HasVals env items vals
    → AreNarrowVals vals
vals_narrow n env [] k known items_end vals_none number v q = absurd (none_is_some q)
vals_narrow n env (item ∷ items) k known (item_then_items {final = f} {rows = o} c d x) (vals_next {added = added} {owed = owed} {vals = others} e rest) number v q =
    let same : c.added ≡ added = (items_give_one env [] item c.added added c.owed owed (checked_items_derive env [] zero item c d) e).0 in
    let here : IsNarrowAdded added = subst IsNarrowAdded same (checked_items_are_narrow.added env [] known tt zero item c d) in
    let come = subst (λ (a : Added). ItemsComeTo (suc n) (with_added env a) items (Ok (checked_all f o))) same x in
    with_narrow added others here
    (vals_narrow (suc n) (with_added env added) items (checked_all f o) (checked_items_are_narrow.environment env added known here) come rest) number v q

pub checked_files_are_narrow : CheckedFilesAreNarrow
checked_files_are_narrow items k vals main come has = record { terms = vals_narrow zero none items k nothing_narrow come has }
