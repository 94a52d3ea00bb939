-- The laws, from what the parts give.
use Rattle.std.specs.Prelude.{◌≡◌, List, [], Result, Ok, IfOk}
use Rattle.std.proofs.Common.{subst}
use Rattle.htt_parser_trees.specs.Trees as raw
use Rattle.theory_text_names.specs.Stops.{Stop}
use Rattle.theory_text_items.specs.Resolving.{file_comes}
use Rattle.theory_text_scoped.specs.Scopes.{SortedNames}
use Rattle.theory_text_scoped.specs.Items.{AreSortedItems}
use Rattle.theory_text_scoped.specs.Laws.{PhrasesAreSorted, SortedIsScoped, FilesAreSorted}
use Rattle.theory_text_scoped.proofs.Binding.{Gives, gives, if_bind, any_ok}
use Rattle.theory_text_scoped.proofs.InScope.{ty_scoped, term_scoped, comp_scoped, formula_scoped}
use Rattle.theory_text_scoped.proofs.Phrases.{ty_sorted, term_sorted, comp_sorted, formula_sorted}
use Rattle.theory_text_scoped.proofs.Proofs.{proof_sorted}
use Rattle.theory_text_scoped.proofs.Items.{rows_sorted}

what_comes : {A : Type 0} (P : A → Type 0) {r : Result A Stop} {a : A} → Gives r P → r ≡ Ok a → P a
what_comes P h e = subst (λ r. IfOk r P) e h.given

pub phrases : PhrasesAreSorted
phrases = record {
  types = λ s t A fits e. what_comes _ (ty_sorted s fits t) e;
  terms = λ s t M fits e. what_comes _ (term_sorted s fits t) e;
  comps = λ s t E fits e. what_comes _ (comp_sorted s fits t) e;
  formulas = λ s t F fits e. what_comes _ (formula_sorted s fits t) e;
  proofs = λ s t p fits e. what_comes _ (proof_sorted s fits t) e;
}

pub scoped : SortedIsScoped
scoped = record {
  types = λ g A h. ty_scoped h;
  terms = λ g M h. term_scoped h;
  comps = λ g E h. comp_scoped h;
  formulas = λ g F h. formula_scoped h;
}

file_sorted : (text : List _) (decls : List raw.RawDeclTree) → Gives (file_comes text decls) (λ file. AreSortedItems file.items × SortedNames file.names)
unfolding SortedNames
file_sorted text decls = if_bind (rows_sorted decls text [] tt decls) (λ file h. if_bind (any_ok _) (λ fits k. gives h))

pub files : FilesAreSorted
files = λ text decls file e. what_comes _ (file_sorted text decls) e
