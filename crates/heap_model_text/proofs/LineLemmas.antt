-- A line tells its block, and lines in a row the blocks.
use Rattle.std.proofs.Common.{◌≡◌, ◌≢◌, ℕ, ◌<◌, List, [], ◌∷◌, ◌++◌, refl, sym, ◌∙◌, arith, ◌⊎◌, inl, inr}
use Rattle.std.specs.Prelude.{⊤}
use Rattle.std.specs.Fmt.{decimal}
use Rattle.std.proofs.lemmas.Fmt.{decimal_injective}
use Rattle.std.proofs.lemmas.List.{append_assoc}
use Rattle.theory_values.specs.Values.{IsWord}
use Rattle.theory_values.specs.Heaps.{Block}
use Rattle.heap_model_text.specs.HeapText.{words_text, block_text, listing_text}
use Rattle.heap_model_text.proofs.CutLemmas.{IsFree, IsStopped, free_append, same_parts}
use Rattle.heap_model_text.proofs.DecimalLemmas.{decimal_free}

-- the words of blocks are words, as are the locations
abbrev pub AreWords : Block → Type 0
AreWords [] = ⊤
AreWords (w ∷ ws) = IsWord w × AreWords ws

abbrev pub ArePlaced : List (ℕ × Block) → Type 0
ArePlaced [] = ⊤
ArePlaced (p ∷ ps) = IsWord p.0 × AreWords p.1 × ArePlaced ps

pub words_stop : (b : Block) → IsStopped 32 (words_text b)
words_stop [] = tt
words_stop (w ∷ ws) = refl

words_free : (m : ℕ) (b : Block) → (m < 48) ⊎ (57 < m) → m ≢ 32 → AreWords b → IsFree m (words_text b)
words_free m [] o d a = tt
words_free m (w ∷ ws) o d a = (λ e. d (sym e), free_append m (decimal w) (words_text ws) (decimal_free m w o a.0) (words_free m ws o d a.1))

pub block_free : (p : ℕ × Block) → IsWord p.0 → AreWords p.1 → IsFree 10 (block_text p)
block_free p l a =
    free_append 10 (decimal p.0) (58 ∷ words_text p.1) (decimal_free 10 p.0 (inl (omega arith)) l)
    (λ e. omega (arith, e), words_free 10 p.1 (inl (omega arith)) (λ e. omega (arith, e)) a)

tails : {x y : ℕ} {xs ys : List ℕ} → x ∷ xs ≡ y ∷ ys → xs ≡ ys
tails e = cc

pub words_tell : (a b : Block) → AreWords a → AreWords b → words_text a ≡ words_text b → a ≡ b
words_tell [] [] p q e = refl
words_tell [] (w ∷ ws) p q e = cc
words_tell (w ∷ ws) [] p q e = cc
words_tell (v ∷ vs) (w ∷ ws) p q e =
    let s =
    same_parts 32 (decimal v) (decimal w) (words_text vs) (words_text ws) (decimal_free 32 v (inl (omega arith)) p.0)
    (decimal_free 32 w (inl (omega arith)) q.0) (words_stop vs) (words_stop ws) (tails e) in
    let f = decimal_injective v w p.0 q.0 s.0 in
    let g = words_tell vs ws p.1 q.1 s.1 in
    λ j. f j ∷ g j

pub block_tells : (p q : ℕ × Block) → IsWord p.0 → AreWords p.1 → IsWord q.0 → AreWords q.1 → block_text p ≡ block_text q → p ≡ q
block_tells p q l a m b e =
    let s =
    same_parts 58 (decimal p.0) (decimal q.0) (58 ∷ words_text p.1) (58 ∷ words_text q.1) (decimal_free 58 p.0 (inr (omega arith)) l)
    (decimal_free 58 q.0 (inr (omega arith)) m) refl refl e in
    let f = decimal_injective p.0 q.0 l m s.0 in
    let g = words_tell p.1 q.1 a b (tails s.1) in
    λ j. (f j, g j)

nothing_is_no_line : (p : ℕ × Block) (r : List ℕ) → block_text p ++ (10 ∷ r) ≡ [] → ⊥
nothing_is_no_line p r e = go (block_text p) e
  where
    go : (a : List ℕ) → a ++ (10 ∷ r) ≡ [] → ⊥
    go [] e = cc
    go (x ∷ xs) e = cc

-- where lines and a rest are lines, the first of these are the same and the others are the rest
pub lines_tell : (xs ys : List (ℕ × Block)) (r : List ℕ)
    → ArePlaced xs
    → ArePlaced ys
    → listing_text xs ++ r ≡ listing_text ys
    → (zs : List (ℕ × Block)) × (ys ≡ xs ++ zs) × (r ≡ listing_text zs)
lines_tell [] ys r p q e = (ys, refl, e)
lines_tell (x ∷ xs) [] r p q e = absurd (nothing_is_no_line x (listing_text xs ++ r) (sym (append_assoc (block_text x) (10 ∷ listing_text xs) r) ∙ e))
lines_tell (x ∷ xs) (y ∷ ys) r p q e =
    let s =
    same_parts 10 (block_text x) (block_text y) (10 ∷ (listing_text xs ++ r)) (10 ∷ listing_text ys) (block_free x p.0 p.1)
    (block_free y q.0 q.1) refl refl (sym (append_assoc (block_text x) (10 ∷ listing_text xs) r) ∙ e) in
    let f = block_tells x y p.0 p.1 q.0 q.1 s.0 in
    let t = lines_tell xs ys r p.2 q.2 (tails s.1) in
    (t.0, λ j. (sym f j) ∷ (t.1 j), t.2)
