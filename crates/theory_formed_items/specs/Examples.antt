-- Environments, worked out by hand.
use Rattle.std.specs.Prelude.{[], ◌∷◌, true}
use Rattle.htt_syntax.specs.Trees.{m_word, y_mono, t_bool, t_do, t_word, c_ret}
use Rattle.theory_typing.specs.Contexts.{en_term, Environment}
use Rattle.theory_items.specs.Examples.{gives_five, doubles, not_less}
use Rattle.theory_formed_items.specs.Environments.{IsFormedEnvironment, IsFormedIn}

-- a value, a definition and a predicate
abbrev pub small : Environment
small = record { vals = gives_five ∷ []; defs = (y_mono m_word, t_word 1) ∷ []; recs = doubles ∷ [] }

pub record WorkedExamples : Type 0 where
  -- the environment of the three, with a word in the context
  pub formed : IsFormedIn small (en_term (y_mono m_word) ∷ [])
  -- a value of a word, a predicate that isn't founded, and a word that is a truth value or a computation
  pub value_of_word : IsFormedEnvironment (record { vals = y_mono m_word ∷ []; defs = []; recs = [] }) → ⊥
  pub not_founded : IsFormedEnvironment (record { vals = []; defs = []; recs = not_less ∷ [] }) → ⊥
  pub other_monotype : IsFormedEnvironment (record { vals = []; defs = (y_mono m_word, t_bool true) ∷ []; recs = [] })
      → ⊥
  pub other_shape :
      IsFormedEnvironment (record { vals = []; defs = (y_mono m_word, t_do (c_ret (t_word 1))) ∷ []; recs = [] }) → ⊥
