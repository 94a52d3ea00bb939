-- Reads and writes in the last part of a list, seen from its start.
use Rattle.std.proofs.Common.{ℕ, zero, suc, ◌≡◌, ◌+◌, ◌-◌, ◌<◌, ◌≤◌, List, [], ◌∷◌, ◌++◌, length, take, drop, set, append_assoc, zero-add, suc-add, add-one}
use Rattle.std.proofs.Common.{sym, ap, ◌∙◌, refl, arith, rules, replicate}
use Rattle.std.proofs.lemmas.List.{length-append, length-take, length-drop, length-replicate, drop-drop, get_or-drop, set_split, take-take, take_at, drop_at}
use Rattle.std.proofs.lemmas.List.{take-append-le, drop-append-le, drop-replicate}
use Rattle.std.proofs.lemmas.Slice.{between_is}
use Rattle.std.proofs.Math.Seq.{take-append-add}
use Rattle.theory_machine.proofs.Words.{length-words_at}
use Rattle.word_loader_code.specs.Machine.{local_at, words_at, with_words}

-- a write past the start leaves what stands before it
pub take-with_words : (start : ℕ) (words : List ℕ) (place : ℕ) (ws : List ℕ)
    → start ≤ length words
    → take start (with_words words (start + place) ws) ≡ take start words
take-with_words zero words place ws within = refl
take-with_words (suc start) [] place ws within = absurd (omega arith)
take-with_words (suc start) (x ∷ words) place ws within =
    simp suc-add (ap (λ (l : List ℕ). x ∷ l) (take-with_words start words place ws (omega arith)))

-- and is a write in what stands from there on
pub drop-with_words : (start : ℕ) (words : List ℕ) (place : ℕ) (ws : List ℕ)
    → start ≤ length words
    → drop start (with_words words (start + place) ws) ≡ with_words (drop start words) place ws
drop-with_words zero words place ws within = rw zero-add refl
drop-with_words (suc start) [] place ws within = absurd (omega arith)
drop-with_words (suc start) (x ∷ words) place ws within = simp suc-add (drop-with_words start words place ws (omega arith))

pub word_at-drop : (start : ℕ) (words : List ℕ) (place : ℕ) → local_at (drop start words) place ≡ local_at words (start + place)
word_at-drop start words place = get_or-drop start words place 0

pub words_at-drop : (start : ℕ) (words : List ℕ) (place n : ℕ) → words_at (drop start words) place n ≡ words_at words (start + place) n
words_at-drop start words place n = ap (take n) (drop-drop place start words)

-- one word
pub set-with_words : (words : List ℕ) (place word : ℕ) → place < length words → set words place word ≡ with_words words place (word ∷ [])
set-with_words words place word within =
    set_split words place word within
    ∙ (rw add-one (sym (append_assoc (take place words) (word ∷ []) (drop (suc place) words))))

take-append-ge : (n : ℕ) (xs ys : List ℕ) → length xs ≤ n → take n (xs ++ ys) ≡ xs ++ take (n - length xs) ys
take-append-ge n xs ys h =
    let sum : n ≡ length xs + (n - length xs) = omega arith in
    ap (λ (k : ℕ). take k (xs ++ ys)) sum ∙ take-append-add xs ys (n - length xs)

take-drop : (n k : ℕ) (words : List ℕ) → take (n - k) (drop k words) ≡ drop k (take n words)
take-drop n k words = search (rules, between_is)

-- a write before a place, seen up to that place
pub take-with_words_past : (n : ℕ) (words : List ℕ) (place : ℕ) (ws : List ℕ)
    → place + length ws ≤ n
    → n ≤ length words
    → take n (with_words words place ws) ≡ with_words (take n words) place ws
take-with_words_past n words place ws before within =
    let front : length (take place words ++ ws) ≡ place + length ws = simp (length-append, length-take) (omega arith) in
    let shorter : place ≤ n = omega arith in
    take-append-ge n (take place words ++ ws) (drop (place + length ws) words) (omega (arith, front))
    ∙ rw (front, take-drop n (place + length ws) words, take-take place n words shorter) refl

-- words at the end, where what stands there is cut off behind them
pub take-with_words_end : (words : List ℕ) (start n : ℕ) (ws : List ℕ)
    → length ws ≡ n
    → start ≤ length words
    → take (start + n) (with_words words start ws) ≡ take start words ++ ws
take-with_words_end words start n ws long within =
    let front : length (take start words ++ ws) ≡ start + n = simp (length-append, length-take, long) (omega arith) in
    take_at (take start words ++ ws) (drop (start + length ws) words) (start + n) front

-- words that are copied to the front of zeros behind them
pub appended : (words words' : List ℕ) (from p n : ℕ)
    → from + p ≤ length words
    → words' ≡ with_words (words ++ replicate n 0) (length words) (words_at (words ++ replicate n 0) from p)
    → words' ≡ words ++ (words_at words from p ++ replicate (n - p) 0)
appended words words' from p n within e =
    let zeros : List ℕ = replicate n 0 in
    let begun : from ≤ length words = omega arith in
    let some : p ≤ length (drop from words) = omega (arith, length-drop from words) in
    let read : words_at (words ++ zeros) from p ≡ words_at words from p =
    rw (drop-append-le from words zeros begun) (take-append-le p (drop from words) zeros some) in
    let long : length (words_at words from p) ≡ p = length-words_at words from p within in
    let behind : drop (length words + p) (words ++ zeros) ≡ replicate (n - p) 0 =
    sym (drop-drop p (length words) (words ++ zeros)) ∙ (ap (drop p) (drop_at words zeros (length words) refl) ∙ drop-replicate p n 0) in
    let front : take (length words) (words ++ zeros) ≡ words = take_at words zeros (length words) refl in
    e ∙ rw (read, long, behind, front) (append_assoc words (words_at words from p) (replicate (n - p) 0))

-- words of a place on, with zeros behind them, in the place of all that stood there
pub replaced : (words grown copied zeroed : List ℕ) (start from p n : ℕ)
    → start ≤ from
    → p ≤ n
    → from + p ≤ length words
    → grown ≡ words ++ replicate (start + n - length words) 0
    → copied ≡ with_words grown start (words_at grown from p)
    → zeroed ≡ with_words copied (start + p) (replicate (n - p) 0)
    → take (start + n) zeroed ≡ take start words ++ (words_at words from p ++ replicate (n - p) 0)
replaced words grown copied zeroed start from p n order some within g c z =
    let zeros : List ℕ = replicate (start + n - length words) 0 in
    let end : start + n ≡ start + p + (n - p) = omega arith in
    let low : start ≤ length words = omega arith in
    let more : p ≤ length (drop from words) = omega (arith, length-drop from words) in
    let read : words_at (words ++ zeros) from p ≡ words_at words from p =
    rw (drop-append-le from words zeros (omega arith)) (take-append-le p (drop from words) zeros more) in
    let long : length (words_at words from p) ≡ p = length-words_at words from p within in
    let longer : length (words ++ zeros) ≡ length words + (start + n - length words) =
    length-append words zeros ∙ ap (λ k. length words + k) (length-replicate (start + n - length words) 0) in
    let made : copied ≡ with_words (words ++ zeros) start (words_at words from p) = c ∙ rw (g, read) refl in
    let front : take (start + p) copied ≡ take start words ++ words_at words from p =
    ap (take (start + p)) made
    ∙ (take-with_words_end (words ++ zeros) start p (words_at words from p) long (omega (arith, longer))
    ∙ ap (λ (l : List ℕ). l ++ words_at words from p) (take-append-le start words zeros low)) in
    let reaches : start + p ≤ length copied = rw made (simp (length-append, length-take, length-drop) (omega (arith, longer, long))) in
    rw (z, end) (take-with_words_end copied (start + p) (n - p) (replicate (n - p) 0) (length-replicate (n - p) 0) reaches)
    ∙ (ap (λ (l : List ℕ). l ++ replicate (n - p) 0) front ∙ append_assoc (take start words) (words_at words from p) (replicate (n - p) 0))
