-- The induction principle of words.
use Rattle.std.proofs.Common.{◌≡◌, ℕ, zero, suc, ◌∷◌, ◌+◌, ◌<◌, ◌∙◌, subst, arith}
use Rattle.std.specs.Prelude.{◌^◌, ◌%◌}
use Rattle.htt_syntax.specs.declared.mono.Op.TheVariants.{Add}
use Rattle.theory_values.specs.Values.{v_word, IsWord}
use Rattle.theory_truth.specs.Worlds.{th_value}
use Rattle.theory_truth.specs.Truth.{Holds}
use Rattle.theory_truth.specs.Predicates.{recs_of}
use Rattle.theory_logic_axioms_true.specs.WordLaws.{InductionOnWords, IsBelow, word_op}
use Rattle.theory_logic_axioms_true.proofs.Order.{is_below, next_word}

-- What is so of 0, and of the next word of each word below the greatest of which it is so, is so of
-- each word.
pub word_induction : (P : ℕ → Type 0) → P 0 → ((y : ℕ) → IsBelow y 18446744073709551615 → P y → P (word_op Add y 1)) → (n : ℕ) → IsWord n → P n
word_induction P base step zero p = base
word_induction P base step (suc n) p =
    let l : n < 18446744073709551615 = omega (arith, p) in
    let e : (n + 1) % 2 ^ 64 ≡ suc n = next_word n 18446744073709551615 (omega arith) l ∙ omega arith in
    subst P e (step n (is_below n 18446744073709551615 l) (word_induction P base step n (omega (arith, p))))

pub on_words : InductionOnWords
on_words table w F base step n p = word_induction (λ n. Holds (recs_of table) (th_value (v_word n) ∷ w) F) base step n p
