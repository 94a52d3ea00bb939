-- A file's items give one environment and one list of obligations.
use Rattle.std.proofs.Common.{◌≡◌, ℕ, List, [], ◌∷◌, Some, refl, sym, ◌∙◌, subst, inl, inr}
use Rattle.htt_syntax.specs.Trees.{ProofTree}
use Rattle.theory_typing.specs.Contexts.{Environment, Obligation}
use Rattle.theory_typing.specs.Laws.{none}
use Rattle.theory_items.specs.Items.{ItemTree, Added, with_added}
use Rattle.theory_items.proofs.Derived.{items_give_one}
use Rattle.theory_file_derived.specs.Derived.{by_auto, by_proof, ProofItem, DerivesAll, derives_none, derives_more, owed_at, IsDerived, IsOpen}
use Rattle.theory_file_derived.specs.Laws.{DerivedFiles}

pub all_once : {env final other : Environment} {items : List ItemTree} {rows sides : List (List Obligation)}
    → DerivesAll env items final rows
    → DerivesAll env items other sides
    → (final ≡ other) × (rows ≡ sides)
all_once derives_none derives_none = (refl, refl)
all_once (derives_more {env = env} {final = final} {item = item} {added = added} {items = items} {owed = owed} {rows = rows} d rest)
    (derives_more {added = other} {owed = due} e more) =
    let x = items_give_one env [] item added other owed due d e in
    let y = all_once (subst (λ (a : Added). DerivesAll (with_added env a) items final rows) x.0 rest) more in
    (y.0, λ j. x.1 j ∷ y.1 j)

not_none : {p : ProofTree} → by_proof p ∷ [] ≡ [] → ⊥
not_none e = cc

not_auto : {p : ProofTree} → by_proof p ∷ [] ≡ by_auto ∷ [] → ⊥
not_auto e = cc

pub none_open : {items : List ItemTree} {proofs : List ProofItem} {final : Environment}
    → IsDerived items proofs final
    → (rows : List (List Obligation))
    → DerivesAll none items final rows
    → (item number : ℕ) (o : Obligation)
    → IsOpen rows proofs item number o
    → ⊥
none_open d rows derives item number o open_one =
    let same = (all_once derives d.derives).1 in
    let p = d.proved item number o (subst (λ (r : List (List Obligation)). owed_at r (Some item) number ≡ Some o) same open_one.owed) in
    elim open_one.unproved [ inl e ↦ not_none (sym p.only ∙ e) | inr e ↦ not_auto (sym p.only ∙ e) ]

pub files : DerivedFiles
files = record {
  one_list = λ env final other items rows sides d e. all_once d e;
  one_environment = λ items proofs more final other d e. (all_once d.derives e.derives).0;
  none_open = λ items proofs final d rows derives item number o x. none_open d rows derives item number o x;
}
