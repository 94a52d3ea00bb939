-- How many words the reads and writes of locals have.
use Rattle.std.proofs.Common.{ℕ, ◌≡◌, ◌+◌, ◌≤◌, List, length, drop, Bool, true, false, if◌then◌else◌, arith}
use Rattle.std.proofs.lemmas.List.{length-append, length-take, length-take-le, length-drop, length-replicate}
use Rattle.word_loader_code.specs.declared.code.Function.{Function}
use Rattle.word_loader_code.specs.Machine.{words_at, with_words, entered_frame}

pub length-with_words : (words : List ℕ) (place : ℕ) (ws : List ℕ) → place + length ws ≤ length words → length (with_words words place ws) ≡ length words
length-with_words words place ws within =
    simp (length-append, length-take, length-drop) (omega arith)

pub length-words_at : (words : List ℕ) (place n : ℕ) → place + n ≤ length words → length (words_at words place n) ≡ n
length-words_at words place n within = length-take-le n (drop place words) (omega (arith, length-drop place words))

pub length-if : (b : Bool) (xs ys : List ℕ) (n : ℕ) → length xs ≡ n → length ys ≡ n → length (if b then xs else ys) ≡ n
length-if true xs ys n x y = x
length-if false xs ys n x y = y

pub length-entered : (g : ℕ) (f : Function) (params : List ℕ)
    → length params ≡ f.params
    → f.params ≤ f.locals
    → length (entered_frame g f params).locals ≡ f.locals
length-entered g f params long some = simp (length-append, length-replicate) (omega (arith, long))
