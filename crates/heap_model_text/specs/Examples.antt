-- Texts that were worked out by hand.
use Rattle.std.specs.Prelude.{◌≡◌, [], ◌∷◌, codes}
use Rattle.heap_model_text.specs.HeapText.{block_text, listing_text, first_lines}

pub record WorkedExamples : Type 0 where
  pub no_block : listing_text [] ≡ []
  pub empty_block : block_text (5, []) ≡ codes "5:"
  pub three_words : block_text (9, 1 ∷ 0 ∷ 7 ∷ []) ≡ codes "9: 1 0 7"
  pub two_lines : listing_text ((5, 4 ∷ []) ∷ (9, []) ∷ []) ≡ codes "5: 4\n9:\n"
  pub first_of_two : first_lines 1 (codes "5: 1\n5: 2") ≡ codes "5: 1\n"
  pub both_of_two : first_lines 2 (codes "5: 1\n5: 2") ≡ codes "5: 1\n5: 2"
  pub an_empty_line : first_lines 1 (codes "\n5:\n") ≡ codes "\n"
