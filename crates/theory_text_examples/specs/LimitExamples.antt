-- The limits of trees, on trees that were counted by hand.
use Rattle.std.specs.Prelude.{◌≡◌, ℕ, zero, suc, ◌+◌, [], ◌∷◌, Ok, Err}
use Rattle.htt_syntax.specs.Trees.{MonoTree, m_word, m_pair, y_mono, t_unit, t_inst}
use Rattle.theory_items.specs.Items.{i_abbreviation, i_def}
use Rattle.theory_text_names.specs.Stops.{too_large, too_deep}
use Rattle.theory_text_items.specs.Items.{an_item}
use Rattle.theory_text_items.specs.Limits.{items_within}

-- what t0 = word and tk = t(k-1) * t(k-1) stand for: 1, 3, 7 and so on nodes, so 1,048,575 for t19
unfoldable pub doubled : ℕ → MonoTree
doubled zero = m_word
doubled (suc k) = m_pair (doubled k) (doubled k)

-- word * (word * ..), so many pairs in one another: one level more than pairs
unfoldable pub chained : ℕ → MonoTree
chained zero = m_word
chained (suc k) = m_pair m_word (chained k)

pub record Limits : Type 0 where
  pub large_abbreviation : items_within (an_item (i_abbreviation (doubled 19)) ∷ []) ≡ Err too_large
  pub deepest : items_within (an_item (i_abbreviation (chained 999)) ∷ []) ≡ Ok tt
  pub too_deep_by_one : items_within (an_item (i_abbreviation (chained 1000)) ∷ []) ≡ Err too_deep
  -- the nodes of a term come before the depth of its type
  pub nodes_first : items_within (an_item (i_def (y_mono (chained 1000)) (t_inst t_unit (doubled 19))) ∷ [])
      ≡ Err too_large
  pub first_declaration :
      items_within (an_item (i_abbreviation (chained 1000)) ∷ an_item (i_abbreviation (doubled 19)) ∷ []) ≡ Err too_deep
