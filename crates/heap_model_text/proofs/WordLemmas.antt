-- The words that were read so far of a line, and the parts of a line.
use Rattle.std.proofs.Common.{◌≡◌, ◌≢◌, ℕ, ◌<◌, ◌^◌, List, [], ◌∷◌, ◌++◌, refl, sym, ap, ◌∙◌, arith, inl, inr}
use Rattle.std.specs.Prelude.{All}
use Rattle.std.specs.Fmt.{decimal}
use Rattle.std.proofs.lemmas.List.{append_assoc, append-nil}
use Rattle.theory_values.specs.Values.{IsWord}
use Rattle.theory_values.specs.Heaps.{Block}
use Rattle.heap_model_text.specs.Cutting.{before_mark, from_mark}
use Rattle.heap_model_text.specs.HeapText.{words_text, block_text}
use Rattle.heap_model_text.specs.Reading.{IsNext}
use Rattle.heap_model_text.proofs.CutLemmas.{cut_at, parts_join, from_begins}
use Rattle.heap_model_text.proofs.DecimalLemmas.{decimal_free}
use Rattle.heap_model_text.proofs.LineLemmas.{AreWords, words_stop}
use Rattle.heap_model_text.proofs.FileLemmas.{words_from_all}

pub words_text-append : (a b : Block) → words_text (a ++ b) ≡ words_text a ++ words_text b
words_text-append [] b = refl
words_text-append (w ∷ ws) b =
    ap (λ t. 32 ∷ (decimal w ++ t)) (words_text-append ws b)
    ∙ ap (λ t. 32 ∷ t) (sym (append_assoc (decimal w) (words_text ws) (words_text b)))

pub words_text-push : (b : Block) (w : ℕ) → words_text (b ++ w ∷ []) ≡ words_text b ++ (32 ∷ decimal w)
words_text-push b w = words_text-append b (w ∷ []) ∙ ap (λ t. words_text b ++ (32 ∷ t)) (append-nil (decimal w))

pub tails : {x y : ℕ} {xs ys : List ℕ} → x ∷ xs ≡ y ∷ ys → xs ≡ ys
tails e = cc

heads : {x y : ℕ} {xs ys : List ℕ} → x ∷ xs ≡ y ∷ ys → x ≡ y
heads e = cc

-- the words are those of the text before the rest, and any words of the text go on in the rest
pub record WordsSoFar (text rest : List ℕ) (block : Block) : Type 0 where
  pub words : AreWords block
  pub written : text ≡ words_text block ++ rest
  pub goes_on : (b : Block) → AreWords b → text ≡ words_text b → (c : Block) × AreWords c × (rest ≡ words_text c)

pub no_words : (text : List ℕ) → WordsSoFar text text []
no_words text = record { words = tt; written = refl; goes_on = λ b a e. (b, a, e) }

push_word : (b : Block) (w : ℕ) → AreWords b → IsWord w → AreWords (b ++ w ∷ [])
push_word [] w a h = (h, tt)
push_word (x ∷ xs) w a h = (a.0, push_word xs w a.1 h)

-- a word that the text goes on with
next_word : (mark : ℕ) (after : List ℕ) (c : Block)
    → AreWords c
    → mark ∷ after ≡ words_text c
    → (w : ℕ)
    × (ws : Block)
    × (mark ≡ 32)
    × IsWord w
    × AreWords ws
    × (before_mark 32 after ≡ decimal w)
    × (from_mark 32 after ≡ words_text ws)
next_word mark after [] a e = cc
next_word mark after (w ∷ ws) a e =
    let c = cut_at 32 (decimal w) (words_text ws) (decimal_free 32 w (inl (omega arith)) a.0) (words_stop ws) in
    (w, ws, heads e, a.0, a.1, ap (before_mark 32) (tails e) ∙ c.0, ap (from_mark 32) (tails e) ∙ c.1)

module _ (text : List ℕ) (mark : ℕ) (after : List ℕ) (block : Block) (so_far : WordsSoFar text (mark ∷ after) block) where
  pub one_more_word : (w : ℕ) → IsWord w → mark ≡ 32 → before_mark 32 after ≡ decimal w → WordsSoFar text (from_mark 32 after) (block ++ w ∷ [])
  one_more_word w h m e = record {
    words = push_word block w so_far.words h;
    written =
        so_far.written
        ∙ ap (λ t. words_text block ++ t) (λ j. m j ∷ (parts_join 32 after ∙ ap (λ t. t ++ from_mark 32 after) e) j)
        ∙ ap (λ t. words_text block ++ (32 ∷ (t ++ from_mark 32 after))) (sym (append-nil (decimal w)))
        ∙ sym (append_assoc (words_text block) (words_text (w ∷ [])) (from_mark 32 after))
        ∙ ap (λ t. t ++ from_mark 32 after) (sym (words_text-append block (w ∷ [])));
    goes_on = λ b a f.
        let g = so_far.goes_on b a f in
        let n = next_word mark after g.0 g.1 g.2 in
        (n.1, n.4, n.6);
  }

  pub no_space : mark ≢ 32 → (b : Block) → All IsWord b → text ≡ words_text b → ⊥
  no_space d b a e = let g = so_far.goes_on b (words_from_all b a) e in let n = next_word mark after g.0 g.1 g.2 in d n.2

  pub no_word : ((n : ℕ) → n < 2 ^ 64 → before_mark 32 after ≢ decimal n) → (b : Block) → All IsWord b → text ≡ words_text b → ⊥
  no_word f b a e = let g = so_far.goes_on b (words_from_all b a) e in let n = next_word mark after g.0 g.1 g.2 in f n.0 n.3 n.5

pub all_words : (text rest : List ℕ) (block : Block) → WordsSoFar text rest block → rest ≡ [] → text ≡ words_text block
all_words text rest block s e = s.written ∙ ap (λ t. words_text block ++ t) e ∙ append-nil (words_text block)

-- ---- the parts of a line

pub line_told : (text tail : List ℕ) (mark l : ℕ) (b : Block)
    → before_mark 58 text ≡ decimal l
    → from_mark 58 text ≡ mark ∷ tail
    → tail ≡ words_text b
    → text ≡ block_text (l, b)
line_told text tail mark l b e f g =
    parts_join 58 text ∙ ap (λ t. t ++ from_mark 58 text) e ∙ ap (λ t. decimal l ++ t) (f ∙ (λ j. from_begins 58 mark text tail f j ∷ g j))

pub line_parts : (text : List ℕ) (last : ℕ) (p : ℕ × Block)
    → IsNext text last p
    → (before_mark 58 text ≡ decimal p.0) × (from_mark 58 text ≡ 58 ∷ words_text p.1)
line_parts text last p i =
    let c = cut_at 58 (decimal p.0) (58 ∷ words_text p.1) (decimal_free 58 p.0 (inr (omega arith)) (omega (arith, i.below))) refl in
    (ap (before_mark 58) i.written ∙ c.0, ap (from_mark 58) i.written ∙ c.1)
