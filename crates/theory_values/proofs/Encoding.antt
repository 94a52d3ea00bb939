-- A value's encoding is words, as many as its monotype is wide, and tells the value.
use Rattle.std.proofs.Common.{◌≡◌, ℕ, ◌<◌, List, [], ◌∷◌, ◌++◌, length, refl, sym, ap, ◌∙◌, arith, append_assoc, length-append}
use Rattle.std.specs.Prelude.{All, true, false, ◌^◌}
use Rattle.std.proofs.lemmas.List.Elements.{All-nil, All-cons, All-append}
use Rattle.htt_syntax.specs.Trees.{MonoTree}
use Rattle.theory_values.specs.Values.{Value, v_word, v_bool, v_loc, v_unit, v_pair, IsWord, HasType, is_word, is_bool, is_loc, is_unit, is_pair, IsClosed}
use Rattle.theory_values.specs.Values.{closed_word, closed_bool, closed_loc, closed_unit, closed_pair, width, encoding}

pub typed_is_closed : {v : Value} {t : MonoTree} → HasType v t → IsClosed t
typed_is_closed (is_word l) = closed_word
typed_is_closed is_bool = closed_bool
typed_is_closed (is_loc l) = closed_loc
typed_is_closed is_unit = closed_unit
typed_is_closed (is_pair p q) = closed_pair (typed_is_closed p) (typed_is_closed q)

zero_is_word : 0 < 2 ^ 64
zero_is_word = omega arith

pub closed_has_value : {t : MonoTree} → IsClosed t → (v : Value) × HasType v t
closed_has_value closed_word = (v_word 0, is_word zero_is_word)
closed_has_value closed_bool = (v_bool false, is_bool)
closed_has_value closed_loc = (v_loc 0, is_loc zero_is_word)
closed_has_value closed_unit = (v_unit, is_unit)
closed_has_value (closed_pair p q) = let x = closed_has_value p in let y = closed_has_value q in (v_pair x.0 y.0, is_pair x.1 y.1)

pub encoding_is_as_wide : {v : Value} {t : MonoTree} → HasType v t → length (encoding v) ≡ width t
encoding_is_as_wide (is_word l) = refl
encoding_is_as_wide (is_bool {b = true}) = refl
encoding_is_as_wide (is_bool {b = false}) = refl
encoding_is_as_wide (is_loc l) = refl
encoding_is_as_wide is_unit = refl
encoding_is_as_wide (is_pair {x = x} {y = y} p q) = omega (arith, length-append (encoding x) (encoding y), encoding_is_as_wide p, encoding_is_as_wide q)

one_word : (n : ℕ) → IsWord n → All IsWord (n ∷ [])
one_word n l = All-cons IsWord n [] l (All-nil IsWord)

pub encoding_is_words : {v : Value} {t : MonoTree} → HasType v t → All IsWord (encoding v)
encoding_is_words (is_word {n = n} l) = one_word n l
encoding_is_words (is_bool {b = true}) = one_word 1 (omega arith)
encoding_is_words (is_bool {b = false}) = one_word 0 (omega arith)
encoding_is_words (is_loc {n = n} l) = one_word n l
encoding_is_words is_unit = All-nil IsWord
encoding_is_words (is_pair {x = x} {y = y} p q) = All-append IsWord (encoding x) (encoding y) (encoding_is_words p) (encoding_is_words q)

pub encodings_split : {v u : Value} {t : MonoTree} → HasType v t → HasType u t → (xs ys : List ℕ) → encoding v ++ xs ≡ encoding u ++ ys → (v ≡ u) × (xs ≡ ys)
encodings_split (is_word l) (is_word m) xs ys e = (cc, cc)
encodings_split (is_bool {b = true}) (is_bool {b = true}) xs ys e = (refl, cc)
encodings_split (is_bool {b = true}) (is_bool {b = false}) xs ys e = (cc, cc)
encodings_split (is_bool {b = false}) (is_bool {b = true}) xs ys e = (cc, cc)
encodings_split (is_bool {b = false}) (is_bool {b = false}) xs ys e = (refl, cc)
encodings_split (is_loc l) (is_loc m) xs ys e = (cc, cc)
encodings_split is_unit is_unit xs ys e = (refl, e)
encodings_split (is_pair {x = a} {y = b} p q) (is_pair {x = c} {y = d} r s) xs ys e =
    let f : encoding a ++ (encoding b ++ xs) ≡ encoding c ++ (encoding d ++ ys) =
    sym (append_assoc (encoding a) (encoding b) xs) ∙ e ∙ append_assoc (encoding c) (encoding d) ys in
    let first = encodings_split p r (encoding b ++ xs) (encoding d ++ ys) f in
    let second = encodings_split q s xs ys first.1 in
    ((λ j. v_pair (first.0 j) (second.0 j)), second.1)

pub encoding_tells : {v u : Value} {t : MonoTree} → HasType v t → HasType u t → encoding v ≡ encoding u → v ≡ u
encoding_tells {v = v} {u = u} p q e = (encodings_split p q [] [] (ap (λ (xs : List ℕ). xs ++ []) e)).0
