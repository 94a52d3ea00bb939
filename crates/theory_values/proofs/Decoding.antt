-- What is decoded is exactly what is encoded.
use Rattle.std.proofs.Common.{◌≡◌, ℕ, List, [], ◌∷◌, ◌++◌, length, take, drop, Option, Some, None, refl, sym, ap, ◌∙◌, subst, arith}
use Rattle.std.specs.Prelude.{Bool, true, false, option_map}
use Rattle.std.proofs.lemmas.Bool.Decides.{nat_tests}
use Rattle.std.proofs.lemmas.List.{take-append-drop}
use Rattle.htt_syntax.specs.Trees.{MonoTree, m_word, m_bool, m_loc, m_unit, m_pair, m_var}
use Rattle.theory_values.specs.Values.{Value, v_word, v_bool, v_loc, v_unit, v_pair, IsWord, HasType, is_word, is_bool, is_loc, is_unit, is_pair, width}
use Rattle.theory_values.specs.Values.{encoding, word_of_number, bool_of_number, pair_of, value_of_words}
use Rattle.theory_values.proofs.Encoding.{encoding_is_as_wide}

read_word_is : (n m : ℕ) → word_of_number n ≡ Some m → (n ≡ m) × IsWord m
read_word_is n m e = grind (arith, nat_tests)

word_is_read : (n : ℕ) → IsWord n → word_of_number n ≡ Some n
word_is_read n l = grind (arith, nat_tests)

abbrev bit : Bool → ℕ
bit true = 1
bit false = 0

read_bool_is : (n : ℕ) (b : Bool) → bool_of_number n ≡ Some b → n ≡ bit b
read_bool_is n true e = grind (arith, nat_tests)
read_bool_is n false e = grind (arith, nat_tests)

record Mapped {A : Type 0} (f : A → Value) (o : Option A) (v : Value) : Type 0 where
  of : A
  was : o ≡ Some of
  is : f of ≡ v

mapped : {A : Type 0} (f : A → Value) (o : Option A) (v : Value) → option_map f o ≡ Some v → Mapped f o v
mapped f None v e = cc
mapped f (Some a) v e = record { of = a; was = refl; is = cc }

record Paired (a b : Option Value) (v : Value) : Type 0 where
  left : Value
  right : Value
  left_was : a ≡ Some left
  right_was : b ≡ Some right
  is : v_pair left right ≡ v

paired : (a b : Option Value) (v : Value) → pair_of a b ≡ Some v → Paired a b v
paired None b v e = cc
paired (Some x) None v e = cc
paired (Some x) (Some y) v e = record { left = x; right = y; left_was = refl; right_was = refl; is = cc }

pub record Decodes (t : MonoTree) (words : List ℕ) (v : Value) : Type 0 where
  pub typed : HasType v t
  pub encoded : encoding v ≡ words

as_is : {t : MonoTree} {words : List ℕ} {v u : Value} → v ≡ u → Decodes t words v → Decodes t words u
as_is {t = t} {words = words} e d = subst (Decodes t words) e d

of_bool : (n : ℕ) (b : Bool) → n ≡ bit b → Decodes m_bool (n ∷ []) (v_bool b)
of_bool n true e = record { typed = is_bool; encoded = ap (λ (k : ℕ). k ∷ []) (sym e) }
of_bool n false e = record { typed = is_bool; encoded = ap (λ (k : ℕ). k ∷ []) (sym e) }

pub decodes : (t : MonoTree) (words : List ℕ) (v : Value) → value_of_words t words ≡ Some v → Decodes t words v
decodes m_word [] v e = cc
decodes m_word (n ∷ []) v e =
    let m = mapped v_word (word_of_number n) v e in
    let r = read_word_is n m.of m.was in as_is m.is (record { typed = is_word r.1; encoded = ap (λ (k : ℕ). k ∷ []) (sym r.0) })
decodes m_word (n ∷ m ∷ words) v e = cc
decodes m_bool [] v e = cc
decodes m_bool (n ∷ []) v e = let m = mapped v_bool (bool_of_number n) v e in as_is m.is (of_bool n m.of (read_bool_is n m.of m.was))
decodes m_bool (n ∷ m ∷ words) v e = cc
decodes m_loc [] v e = cc
decodes m_loc (n ∷ []) v e =
    let m = mapped v_loc (word_of_number n) v e in
    let r = read_word_is n m.of m.was in as_is m.is (record { typed = is_loc r.1; encoded = ap (λ (k : ℕ). k ∷ []) (sym r.0) })
decodes m_loc (n ∷ m ∷ words) v e = cc
decodes m_unit [] v e = let f : v_unit ≡ v = cc in as_is f (record { typed = is_unit; encoded = refl })
decodes m_unit (n ∷ words) v e = cc
decodes (m_pair t u) words v e =
    let p = paired (value_of_words t (take (width t) words)) (value_of_words u (drop (width t) words)) v e in
    let l = decodes t (take (width t) words) p.left p.left_was in
    let r = decodes u (drop (width t) words) p.right p.right_was in
    as_is p.is (record { typed = is_pair l.typed r.typed; encoded = (λ j. l.encoded j ++ r.encoded j) ∙ take-append-drop (width t) words })
decodes (m_var index) words v e = cc

take_front : (xs ys : List ℕ) → take (length xs) (xs ++ ys) ≡ xs
take_front [] ys = refl
take_front (x ∷ xs) ys = ap (λ (k : List ℕ). x ∷ k) (take_front xs ys)

drop_front : (xs ys : List ℕ) → drop (length xs) (xs ++ ys) ≡ ys
drop_front [] ys = refl
drop_front (x ∷ xs) ys = drop_front xs ys

pub encoding_is_decoded : {v : Value} {t : MonoTree} → HasType v t → value_of_words t (encoding v) ≡ Some v
encoding_is_decoded (is_word {n = n} l) = ap (option_map v_word) (word_is_read n l)
encoding_is_decoded (is_bool {b = true}) = refl
encoding_is_decoded (is_bool {b = false}) = refl
encoding_is_decoded (is_loc {n = n} l) = ap (option_map v_loc) (word_is_read n l)
encoding_is_decoded is_unit = refl
encoding_is_decoded (is_pair {x = x} {y = y} {t = t} {u = u} p q) =
    let w : width t ≡ length (encoding x) = sym (encoding_is_as_wide p) in
    let front : take (width t) (encoding x ++ encoding y) ≡ encoding x =
    ap (λ (n : ℕ). take n (encoding x ++ encoding y)) w ∙ take_front (encoding x) (encoding y) in
    let back : drop (width t) (encoding x ++ encoding y) ≡ encoding y =
    ap (λ (n : ℕ). drop n (encoding x ++ encoding y)) w ∙ drop_front (encoding x) (encoding y) in
    (λ j. pair_of (value_of_words t (front j)) (value_of_words u (back j))) ∙ (λ j. pair_of (encoding_is_decoded p j) (encoding_is_decoded q j))
