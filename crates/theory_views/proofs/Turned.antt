-- A context is turned round.
use Rattle.std.specs.Prelude.{◌≡◌, suc, List, [], ◌∷◌, ◌++◌, length, map, reverse}
use Rattle.std.proofs.Common.{refl, ap, ◌∙◌}
use Rattle.std.proofs.lemmas.List.{reverse-append, length-reverse}
use Rattle.htt_syntax.specs.declared.sequent.Entry.{Entry}
use Rattle.theory_typing.specs.Contexts.{EntryTree}
use Rattle.theory_views.specs.Contexts.{entry_tree, context_of}
use Rattle.theory_views.specs.Laws.{ContextsAreTurned}

mapped : (entries : List Entry) (e : Entry) → map entry_tree (entries ++ e ∷ []) ≡ map entry_tree entries ++ entry_tree e ∷ []
mapped [] e = refl
mapped (first ∷ others) e = ap (λ ts. entry_tree first ∷ ts) (mapped others e)

as_many : (entries : List Entry) → length (map entry_tree entries) ≡ length entries
as_many [] = refl
as_many (first ∷ others) = ap suc (as_many others)

pub turned : ContextsAreTurned
turned = record {
  added = λ entries e. ap reverse (mapped entries e) ∙ reverse-append (map entry_tree entries) (entry_tree e ∷ []);
  as_many = λ entries. length-reverse (map entry_tree entries) ∙ as_many entries;
}
