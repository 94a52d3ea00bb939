-- Values that are laid out as a monotype says, whatever their words are. What is emitted rests on this alone.
use Rattle.std.specs.Prelude.{ℕ, Bool, List, [], ◌∷◌, ◌++◌}
use Rattle.htt_syntax.specs.Trees.{MonoTree, m_word, m_bool, m_loc, m_unit, m_pair}
use Rattle.theory_values.specs.Values.{Value, v_word, v_bool, v_loc, v_unit, v_pair, encoding}

pub data HasLayout : Value → MonoTree → Type 0 where
  lays_word : {n : ℕ} → HasLayout (v_word n) m_word
  lays_bool : {b : Bool} → HasLayout (v_bool b) m_bool
  lays_loc : {n : ℕ} → HasLayout (v_loc n) m_loc
  lays_unit : HasLayout v_unit m_unit
  lays_pair : {x y : Value} {t u : MonoTree} → HasLayout x t → HasLayout y u → HasLayout (v_pair x y) (m_pair t u)

pub data HaveLayouts : List Value → List MonoTree → Type 0 where
  lay_none : HaveLayouts [] []
  lay_more : {v : Value} {t : MonoTree} {vs : List Value} {ts : List MonoTree}
      → HasLayout v t
      → HaveLayouts vs ts
      → HaveLayouts (v ∷ vs) (t ∷ ts)

-- The words of values in order.
abbrev pub encodings : List Value → List ℕ
encodings [] = []
encodings (v ∷ vs) = encoding v ++ encodings vs
