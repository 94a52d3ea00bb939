-- Reads and writes of locals.
use Rattle.std.proofs.Common.{◌≡◌, ◌≤◌, ℕ, zero, suc, ◌+◌, List, [], ◌∷◌, ◌++◌, length, take, drop, sym, ap, ◌∙◌, arith, append_assoc}
use Rattle.std.proofs.lemmas.List.{length-take-le, take-take, take_at, take-append-le, drop_at, drop-drop, drop-take}
use Rattle.word_loader_code.specs.Machine.{local_at, words_at, with_words}
use Rattle.theory_emitted_words.specs.Laws.{WordsAreRead}

-- what is written, with what stands before it first
in_parts : (locals : List ℕ) (place : ℕ) (words : List ℕ)
    → with_words locals place words ≡ take place locals ++ (words ++ drop (place + length words) locals)
in_parts locals place words = append_assoc (take place locals) words (drop (place + length words) locals)

pub written : (locals : List ℕ) (place : ℕ) (words : List ℕ) (n : ℕ)
    → length words ≡ n
    → place ≤ length locals
    → words_at (with_words locals place words) place n ≡ words
written locals place words n long within =
    let rest = drop (place + length words) locals in
    ap (λ (l : List ℕ). words_at l place n) (in_parts locals place words)
    ∙ ap (take n) (drop_at (take place locals) (words ++ rest) place (length-take-le place locals within))
    ∙ take_at words rest n long

pub before : (locals : List ℕ) (place : ℕ) (words : List ℕ) (n : ℕ)
    → n ≤ place
    → place ≤ length locals
    → take n (with_words locals place words) ≡ take n locals
before locals place words n less within =
    let long = length-take-le place locals within in
    ap (take n) (in_parts locals place words)
    ∙ take-append-le n (take place locals) (words ++ drop (place + length words) locals) (omega (arith, less, long))
    ∙ take-take n place locals less

-- locals that agree below a place agree below one that comes before it
pub agree_less : (locals others : List ℕ) (below n : ℕ) → take below others ≡ take below locals → n ≤ below → take n others ≡ take n locals
agree_less locals others below n same less = sym (take-take n below others less) ∙ ap (take n) same ∙ take-take n below locals less

pub agreeing : (locals others : List ℕ) (below place n : ℕ)
    → take below others ≡ take below locals
    → place + n ≤ below
    → words_at others place n ≡ words_at locals place n
agreeing locals others below place n same less =
    sym (drop-take place n others) ∙ ap (drop place) (agree_less locals others below (place + n) same less) ∙ drop-take place n locals

pub one : (locals : List ℕ) (place word : ℕ) → words_at locals place 1 ≡ word ∷ [] → local_at locals place ≡ word
one [] zero word q = absurd (none q)
  where
    none : [] ≡ word ∷ [] → ⊥
    none e = cc
one [] (suc place) word q = absurd (none q)
  where
    none : [] ≡ word ∷ [] → ⊥
    none e = cc
one (x ∷ locals) zero word q = cc
one (x ∷ locals) (suc place) word q = one locals place word q

take_more : (m n : ℕ) (l : List ℕ) → take (m + n) l ≡ take m l ++ take n (drop m l)
take_more zero n l = let q : 0 + n ≡ n = omega arith in ap (λ k. take k l) q
take_more (suc m) zero [] = let q : suc m + 0 ≡ suc m = omega arith in ap (λ k. take k []) q
take_more (suc m) (suc n) [] = let q : suc m + suc n ≡ suc (m + suc n) = omega arith in ap (λ k. take k []) q
take_more (suc m) n (x ∷ l) =
    let q : suc m + n ≡ suc (m + n) = omega arith in
    ap (λ k. take k (x ∷ l)) q ∙ ap (λ (k : List ℕ). x ∷ k) (take_more m n l)

pub side_by_side : (locals : List ℕ) (place m n : ℕ) → words_at locals place (m + n) ≡ words_at locals place m ++ words_at locals (place + m) n
side_by_side locals place m n =
    take_more m n (drop place locals) ∙ ap (λ l. words_at locals place m ++ take n l) (drop-drop m place locals)

pub first : (locals : List ℕ) (place m n : ℕ) (left right : List ℕ)
    → words_at locals place (m + n) ≡ left ++ right
    → length left ≡ m
    → words_at locals place m ≡ left
first locals place m n left right q long =
    sym (take-take m (m + n) (drop place locals) (omega arith)) ∙ ap (take m) q ∙ take_at left right m long

pub second : (locals : List ℕ) (place m n : ℕ) (left right : List ℕ)
    → words_at locals place (m + n) ≡ left ++ right
    → length left ≡ m
    → words_at locals (place + m) n ≡ right
second locals place m n left right q long =
    ap (take n) (sym (drop-drop m place locals)) ∙ sym (drop-take m n (drop place locals)) ∙ ap (drop m) q ∙ drop_at left right m long

pub read : WordsAreRead
read = record {
  written = written;
  before = before;
  agreeing = agreeing;
  one = one;
  side_by_side = side_by_side;
  first = first;
  second = second;
}
