-- The value at the front of words.
use Rattle.std.proofs.Common.{◌≡◌, ◌≢◌, ℕ, zero, suc, ◌+◌, ◌-◌, ◌<◌, ◌≤◌, List, [], ◌∷◌, length, take, drop, get_or, Option, Some, None, nat_eq, refl, sym, ap}
use Rattle.std.proofs.Common.{◌∙◌, arith}
use Rattle.std.proofs.lemmas.Bool.Decides.{nat_tests}
use Rattle.std.proofs.lemmas.List.{length-drop}
use Rattle.std.proofs.Math.Seq.{take-length}
use Rattle.htt_syntax.specs.Trees.{MonoTree, m_word, m_bool, m_loc, m_pair}
use Rattle.theory_values.specs.Values.{Value, v_word, v_bool, v_loc, v_pair, IsWord, width, value_of_words, pair_of}
use Rattle.theory_values.proofs.Decoding.{decodes}
use Rattle.theory_values.proofs.Encoding.{encoding_is_as_wide}
use Rattle.heap_model.specs.Fronts.{front_value}

-- words that have a value are as many as the monotype is wide
as_wide : (t : MonoTree) (words : List ℕ) (v : Value) → value_of_words t words ≡ Some v → length words ≡ width t
as_wide t words v e = let d = decodes t words v e in ap length (sym d.encoded) ∙ encoding_is_as_wide d.typed

some_is_not_none : {v : Value} → None ≡ Some v → ⊥
some_is_not_none e = cc

whole : (t : MonoTree) (words : List ℕ) → length words ≡ width t → front_value t words ≡ value_of_words t words
whole t words e = ap (value_of_words t) (ap (λ k. take k words) (sym e) ∙ take-length words)

-- where no value stands at the front, or one of fewer words, the words are those of no value
pub none_of_front : (t : MonoTree) (words : List ℕ) → front_value t words ≡ None → value_of_words t words ≡ None
none_of_front t words e = go (value_of_words t words) refl
  where
    go : (o : Option Value) → value_of_words t words ≡ o → value_of_words t words ≡ None
    go None f = f
    go (Some v) f = absurd (some_is_not_none (sym e ∙ whole t words (as_wide t words v f) ∙ f))

pub none_of_more : (t : MonoTree) (words : List ℕ) → length words ≢ width t → value_of_words t words ≡ None
none_of_more t words d = go (value_of_words t words) refl
  where
    go : (o : Option Value) → value_of_words t words ≡ o → value_of_words t words ≡ None
    go None f = f
    go (Some v) f = absurd (d (as_wide t words v f))

pub some_of_front : (t : MonoTree) (words : List ℕ) (v : Value) → front_value t words ≡ Some v → length words ≡ width t → value_of_words t words ≡ Some v
some_of_front t words v e f = sym (whole t words f) ∙ e

-- ---- the parts of a pair

suc_more : (m n : ℕ) → suc m + n ≡ suc (m + n)
suc_more m n = omega arith

zero_more : (n : ℕ) → 0 + n ≡ n
zero_more n = omega arith

take_of_take : (m n : ℕ) (xs : List ℕ) → take m (take (m + n) xs) ≡ take m xs
take_of_take zero n xs = refl
take_of_take (suc m) n [] = ap (λ k. take (suc m) (take k [])) (suc_more m n)
take_of_take (suc m) n (x ∷ xs) = ap (λ k. take (suc m) (take k (x ∷ xs))) (suc_more m n) ∙ ap (λ ys. x ∷ ys) (take_of_take m n xs)

drop_of_take : (m n : ℕ) (xs : List ℕ) → drop m (take (m + n) xs) ≡ take n (drop m xs)
drop_of_take zero n xs = ap (λ k. take k xs) (zero_more n)
drop_of_take (suc m) n [] = ap (λ k. drop (suc m) (take k [])) (suc_more m n) ∙ sym (take_nothing n)
  where
    take_nothing : (n : ℕ) → take {A = ℕ} n [] ≡ []
    take_nothing zero = refl
    take_nothing (suc n) = refl
drop_of_take (suc m) n (x ∷ xs) = ap (λ k. drop (suc m) (take k (x ∷ xs))) (suc_more m n) ∙ drop_of_take m n xs

pub front_of_pair : (t u : MonoTree) (words : List ℕ) → front_value (m_pair t u) words ≡ pair_of (front_value t words) (front_value u (drop (width t) words))
front_of_pair t u words =
    ap (λ xs. pair_of (value_of_words t xs) (value_of_words u (drop (width t) (take (width t + width u) words))))
    (take_of_take (width t) (width u) words)
    ∙ ap (λ xs. pair_of (front_value t words) (value_of_words u xs)) (drop_of_take (width t) (width u) words)

pub no_first : (t u : MonoTree) (words : List ℕ) → front_value t words ≡ None → front_value (m_pair t u) words ≡ None
no_first t u words e = front_of_pair t u words ∙ ap (λ o. pair_of o (front_value u (drop (width t) words))) e

pair_of_none : (o : Option Value) → pair_of o None ≡ None
pair_of_none None = refl
pair_of_none (Some v) = refl

pub no_second : (t u : MonoTree) (words : List ℕ) → front_value u (drop (width t) words) ≡ None → front_value (m_pair t u) words ≡ None
no_second t u words e = front_of_pair t u words ∙ ap (pair_of (front_value t words)) e ∙ pair_of_none (front_value t words)

pub both_parts : (t u : MonoTree) (words : List ℕ) (x y : Value)
    → front_value t words ≡ Some x
    → front_value u (drop (width t) words) ≡ Some y
    → front_value (m_pair t u) words ≡ Some (v_pair x y)
both_parts t u words x y e f = front_of_pair t u words ∙ ap (λ o. pair_of o (front_value u (drop (width t) words))) e ∙ ap (pair_of (Some x)) f

rest_is : (n : ℕ) (words : List ℕ) → take (length words - n) (drop n words) ≡ drop n words
rest_is n words = ap (λ k. take k (drop n words)) (sym (length-drop n words)) ∙ take-length (drop n words)

-- the second part is read from what the first one left
pub pair_refused : (t u : MonoTree) (words : List ℕ) (n : ℕ)
    → n ≡ width t
    → front_value u (take (length words - n) (drop n words)) ≡ None
    → front_value (m_pair t u) words ≡ None
pair_refused t u words n w e = no_second t u words (ap (front_value u) (ap (λ k. drop k words) (sym w) ∙ sym (rest_is n words)) ∙ e)

pub pair_read : (t u : MonoTree) (words : List ℕ) (n m : ℕ) (x y v : Value)
    → front_value t words ≡ Some x
    → n ≡ width t
    → width t ≤ length words
    → front_value u (take (length words - n) (drop n words)) ≡ Some y
    → m ≡ width u
    → width u ≤ length (take (length words - n) (drop n words))
    → v ≡ v_pair x y
    → (front_value (m_pair t u) words ≡ Some v) × (n + m ≡ width t + width u) × (width t + width u ≤ length words)
pair_read t u words n m x y v e w fits f z left_fits g = (
  both_parts t u words x y e (ap (front_value u) (ap (λ k. drop k words) (sym w) ∙ sym (rest_is n words)) ∙ f) ∙ ap Some (sym g),
  omega (arith, w, z),
  omega (arith, w, fits, left_fits, ap length (rest_is n words), length-drop n words),
)

-- ---- one word

pub nothing_in_front : (words : List ℕ)
    → length words ≡ 0
    → (front_value m_word words ≡ None) × (front_value m_bool words ≡ None) × (front_value m_loc words ≡ None)
nothing_in_front [] e = (refl, refl, refl)
nothing_in_front (w ∷ ws) e = absurd (omega (arith, e))

pub word_in_front : (words : List ℕ)
    → 0 < length words
    → IsWord (get_or words 0 0)
    → (front_value m_word words ≡ Some (v_word (get_or words 0 0))) × (front_value m_loc words ≡ Some (v_loc (get_or words 0 0)))
word_in_front [] l i = absurd (omega (arith, l))
word_in_front (w ∷ ws) l i = (grind (arith, nat_tests), grind (arith, nat_tests))

pub no_truth_in_front : (words : List ℕ) → 1 < get_or words 0 0 → front_value m_bool words ≡ None
no_truth_in_front [] h = refl
no_truth_in_front (w ∷ ws) h = grind (arith, nat_tests)

pub truth_in_front : (words : List ℕ) → 0 < length words → get_or words 0 0 ≤ 1 → front_value m_bool words ≡ Some (v_bool (nat_eq (get_or words 0 0) 1))
truth_in_front [] l h = absurd (omega (arith, l))
truth_in_front (w ∷ ws) l h = grind (arith, nat_tests)
