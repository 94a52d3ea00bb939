-- The laws of views of contexts.
use Rattle.std.specs.Prelude.{◌≡◌, List, [], ◌∷◌, ◌++◌, length}
use Rattle.htt_syntax.specs.declared.sequent.Entry.{Entry}
use Rattle.theory_views.specs.Contexts.{entry_tree, context_of}

pub record ContextsAreTurned : Type 0 where
  -- the entry that is added at the end is the innermost one
  pub added : (entries : List Entry) (e : Entry) → context_of (entries ++ e ∷ []) ≡ entry_tree e ∷ context_of entries
  pub as_many : (entries : List Entry) → length (context_of entries) ≡ length entries
