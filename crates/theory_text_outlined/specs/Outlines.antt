-- Names that are alike but for what they stand for, and what stops a phrase.
use Rattle.std.specs.Prelude.{◌≡◌, ℕ, [], ◌∷◌, length, Option, Some, None, Result, Ok, Err}
use Rattle.htt_syntax.specs.Trees.{MonoTree}
use Rattle.theory_text_names.specs.Stops.{Stop}
use Rattle.theory_text_names.specs.Scopes.{PredTree, Meaning, means_mono, means_pred, means_rec, means_def, means_val}
use Rattle.theory_text_names.specs.Scopes.{Declared, Names, Scope}

-- meanings of one kind; of predicates, with as many monotypes and parameters
pub data AlikeMeaning : Meaning → Meaning → Type 0 where
  alike_mono : {t u : MonoTree} → AlikeMeaning (means_mono t) (means_mono u)
  alike_pred : {p q : PredTree}
      → p.monos ≡ q.monos
      → length p.params ≡ length q.params
      → AlikeMeaning (means_pred p) (means_pred q)
  alike_rec : {number params : ℕ} → AlikeMeaning (means_rec number params) (means_rec number params)
  alike_def : {n m : ℕ} → AlikeMeaning (means_def n) (means_def m)
  alike_val : {n m : ℕ} → AlikeMeaning (means_val n) (means_val m)

-- rows that declare the same name with meanings that are alike, or both none
abbrev pub AlikeRow : Option Declared → Option Declared → Type 0
AlikeRow (Some d) (Some e) = (d.name ≡ e.name) × AlikeMeaning d.meaning e.meaning
AlikeRow None None = Unit {0}
AlikeRow _ _ = ⊥

-- row by row
abbrev pub AlikeNames : Names → Names → Type 0
AlikeNames [] [] = Unit {0}
AlikeNames (d ∷ ds) (e ∷ es) = AlikeRow d e × AlikeNames ds es
AlikeNames _ _ = ⊥

-- the place with other names declared
abbrev pub with_names : Scope → Names → Scope
with_names s names = record { text = s.text; names = names; locals = s.locals; current = s.current }

-- what stops a phrase, if something does
abbrev pub stop_of : {A : Type 0} → Result A Stop → Option Stop
stop_of (Ok tree) = None
stop_of (Err stop) = Some stop

-- two phrases that are stopped by the same, or neither of them
pub record SameStop {A B : Type 0} (a : Result A Stop) (b : Result B Stop) : Type 0 where
  pub same : stop_of a ≡ stop_of b

-- two phrases that come to what is related, or are stopped by the same
pub data Related {A B : Type 0} (R : A → B → Type 0) : Result A Stop → Result B Stop → Type 0 where
  both_give : {x : A} {y : B} → R x y → Related R (Ok x) (Ok y)
  both_stop : {e : Stop} → Related R (Err e) (Err e)
