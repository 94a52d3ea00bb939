-- What was read so far of a heap file, and what a line that can't be read says.
use Rattle.std.proofs.Common.{◌≡◌, ℕ, zero, suc, ◌+◌, ◌-◌, ◌<◌, ◌≤◌, ◌^◌, List, [], ◌∷◌, ◌++◌, length, Some, None, refl, sym, ap, ◌∙◌, subst, arith, ⊎_elim}
use Rattle.std.proofs.Common.{inr}
use Rattle.std.proofs.lemmas.Bool.{cases_eq}
use Rattle.std.proofs.lemmas.Bool.Decides.{nat_tests}
use Rattle.std.proofs.lemmas.List.{append_assoc, append-nil, length-append}
use Rattle.theory_values.specs.Heaps.{Heap, Block, InUse, empty_heap, with_block}
use Rattle.theory_meaning.specs.Choices.{IsGreatest}
use Rattle.heap_model_flat.specs.Listing.{heap_of_list, AscendsAbove}
use Rattle.heap_model_text.specs.HeapText.{block_text, listing_text, IsHeapFile, first_lines, IsBadLine}
use Rattle.heap_model_text.specs.Cutting.{before_mark, from_mark}
use Rattle.heap_model_text.specs.Reading.{IsNext}
use Rattle.heap_model_text.proofs.CutLemmas.{IsFree, cut_at}
use Rattle.heap_model_text.proofs.LineLemmas.{ArePlaced, block_free, lines_tell}
use Rattle.heap_model_text.proofs.FileLemmas.{AreBelow, words_from_all, all_from_words, file_of_listing, first_lines_line, listing_placed, listing_below}
use Rattle.heap_model_text.proofs.PushLemmas.{listing_text-append, ascends_push, heap_push, greatest_push, ascends_past, placed_push, below_push, push_placed}
use Rattle.heap_model_text.proofs.PushLemmas.{push_below}

-- the lines before the rest are those of the heap
pub record ReadSoFar (bytes rest : List ℕ) (heap : Heap) (last line : ℕ) : Type 0 where
  pub blocks : List (ℕ × Block)
  pub written : bytes ≡ listing_text blocks ++ rest
  pub ascending : AscendsAbove 0 blocks
  pub placed : ArePlaced blocks
  pub below : AreBelow (2 ^ 63) blocks
  pub same_blocks : heap ≡ heap_of_list blocks
  pub greatest : IsGreatest (heap_of_list blocks) last
  pub counted : line ≡ length blocks + 1
  pub room : line + length rest ≤ length bytes + 1

pub read_nothing : (bytes : List ℕ) → ReadSoFar bytes bytes empty_heap 0 1
read_nothing bytes = record {
  blocks = [];
  written = refl;
  ascending = tt;
  placed = tt;
  below = tt;
  same_blocks = refl;
  greatest = record { none_above = λ l used. absurd (none_is_no_block used.0 used.1); in_use_or_zero = inr refl };
  counted = refl;
  room = omega arith;
}
  where
    none_is_no_block : (b : Block) → None ≡ Some b → ⊥
    none_is_no_block b e = cc

module _ (bytes rest : List ℕ) (heap : Heap) (last line : ℕ) (so_far : ReadSoFar bytes rest heap last line) where
  -- what follows isn't a line of a block that may stand there
  abbrev pub IsRefused : Type 0
  IsRefused = (z : ℕ × Block) (more : List ℕ) → rest ≡ block_text z ++ (10 ∷ more) → IsNext (block_text z) last z → ⊥

  next_free : (z : ℕ × Block) → IsNext (block_text z) last z → IsFree 10 (block_text z)
  next_free z i = block_free z (omega (arith, i.below)) (words_from_all z.1 i.of_words)

  pub read_all : rest ≡ [] → IsHeapFile bytes heap
  read_all e =
      let b = so_far.written ∙ ap (λ r. listing_text so_far.blocks ++ r) e ∙ append-nil (listing_text so_far.blocks) in
      subst (λ (t : List ℕ). IsHeapFile t heap) (sym b)
      (subst (λ (h : Heap). IsHeapFile (listing_text so_far.blocks) h) (sym so_far.same_blocks)
      (file_of_listing so_far.blocks so_far.ascending so_far.placed so_far.below))

  pub read_more : (text after : List ℕ) (p : ℕ × Block) (next : Heap)
      → rest ≡ text ++ (10 ∷ after)
      → IsNext text last p
      → next ≡ with_block heap p.0 p.1
      → ReadSoFar bytes after next p.0 (line + 1)
  read_more text after p next e i n = record {
    blocks = so_far.blocks ++ p ∷ [];
    written =
        so_far.written
        ∙ ap (λ r. listing_text so_far.blocks ++ r)
        (e ∙ ap (λ t. t ++ (10 ∷ after)) i.written ∙ sym (append_assoc (block_text p) (10 ∷ []) after))
        ∙ sym (append_assoc (listing_text so_far.blocks) (block_text p ++ 10 ∷ []) after)
        ∙ ap (λ r. r ++ after) (sym (listing_text-append so_far.blocks (p ∷ [])));
    ascending = ascends_push p 0 so_far.blocks so_far.ascending (omega (arith, i.above)) later;
    placed = push_placed so_far.blocks p so_far.placed (omega (arith, i.below)) (words_from_all p.1 i.of_words);
    below = push_below (2 ^ 63) so_far.blocks p so_far.below i.below;
    same_blocks = n ∙ ap (λ h. with_block h p.0 p.1) so_far.same_blocks ∙ sym (λ j q. heap_push p 0 so_far.blocks so_far.ascending later q j);
    greatest = greatest_push p so_far.blocks so_far.ascending later;
    counted = omega (arith, so_far.counted, length-append so_far.blocks (p ∷ []));
    room = omega (arith, so_far.room, ap length e, length-append text (10 ∷ after));
  }
    where
      later : (l : ℕ) → InUse (heap_of_list so_far.blocks) l → l < p.0
      later l used = let g = so_far.greatest.none_above l used in omega (arith, g, i.above)

  -- what follows has no line feed, or its first line isn't one that may stand there
  pub no_line_feed : length (from_mark 10 rest) ≡ 0 → IsRefused
  no_line_feed n z more e i = let c = cut_at 10 (block_text z) (10 ∷ more) (next_free z i) refl in omega (arith, n, ap length (ap (from_mark 10) e ∙ c.1))

  pub no_next : ((p : ℕ × Block) → IsNext (before_mark 10 rest) last p → ⊥) → IsRefused
  no_next f z more e i =
      let c = cut_at 10 (block_text z) (10 ∷ more) (next_free z i) refl in
      f z (subst (λ (t : List ℕ). IsNext t last z) (sym (ap (before_mark 10) e ∙ c.0)) i)

  first_lines_more : (xs : List (ℕ × Block)) (n : ℕ) (r : List ℕ)
      → ArePlaced xs
      → first_lines (length xs + n) (listing_text xs ++ r) ≡ listing_text xs ++ first_lines n r
  first_lines_more [] n r a = ap (λ k. first_lines k r) (zero_more n)
    where
      zero_more : (n : ℕ) → 0 + n ≡ n
      zero_more n = omega arith
  first_lines_more (x ∷ xs) n r a =
      ap (λ k. first_lines k (listing_text (x ∷ xs) ++ r)) (more (length xs) n)
      ∙ ap (first_lines (suc (length xs + n))) (append_assoc (block_text x) (10 ∷ listing_text xs) r)
      ∙ first_lines_line (length xs + n) (block_text x) (listing_text xs ++ r) (block_free x a.0 a.1)
      ∙ ap (λ t. block_text x ++ (10 ∷ t)) (first_lines_more xs n r a.2)
      ∙ sym (append_assoc (block_text x) (10 ∷ listing_text xs) (first_lines n r))
    where
      more : (m n : ℕ) → suc m + n ≡ suc (m + n)
      more m n = omega arith

  rest_of_lines : (n : ℕ) (r : List ℕ) → (more : List ℕ) × (r ≡ first_lines n r ++ more)
  rest_of_lines zero r = (r, refl)
  rest_of_lines (suc n) [] = ([], refl)
  rest_of_lines (suc n) (b ∷ r) =
      ⊎_elim (λ (e : b ≡ 10). let t = rest_of_lines n r in (t.0, (let f = t.1 in grind (arith, nat_tests))))
      (λ (d : b ≡ 10 → ⊥). let t = rest_of_lines (suc n) r in (t.0, (let f = t.1 in grind (arith, nat_tests)))) (cases_eq b 10)

  something_has_a_line : (r : List ℕ) → 0 < length r → first_lines 1 r ≡ [] → ⊥
  something_has_a_line [] l e = omega (arith, l)
  something_has_a_line (b ∷ r) l e = cc

  refused_line : IsRefused
      → 0 < length rest
      → (ys zs : List (ℕ × Block))
      → AscendsAbove 0 ys
      → ArePlaced ys
      → AreBelow (2 ^ 63) ys
      → ys ≡ so_far.blocks ++ zs
      → first_lines 1 rest ≡ listing_text zs
      → ⊥
  refused_line refused l ys [] a p b e f = something_has_a_line rest l f
  refused_line refused l ys (z ∷ zs) a p b e f =
      let t = rest_of_lines 1 rest in
      let past = ascends_past z 0 so_far.blocks zs (subst (AscendsAbove 0) e a) in
      let w = placed_push so_far.blocks z zs (subst ArePlaced e p) in
      refused z (listing_text zs ++ t.0)
      (t.1 ∙ ap (λ r. r ++ t.0) f ∙ append_assoc (block_text z) (10 ∷ listing_text zs) t.0)
      (record {
        written = refl;
        above =
            ⊎_elim (λ (u : InUse (heap_of_list so_far.blocks) last). past.1 last u) (λ (u : last ≡ zero). omega (arith, u, past.0))
            so_far.greatest.in_use_or_zero;
        below = below_push (2 ^ 63) so_far.blocks z zs (subst (AreBelow (2 ^ 63)) e b);
        of_words = all_from_words z.1 w.1;
      })

  pub read_bad : IsRefused → 0 < length rest → IsBadLine bytes line
  read_bad refused l = record {
    heap_before = heap_of_list so_far.blocks;
    before =
        subst (λ (t : List ℕ). IsHeapFile t (heap_of_list so_far.blocks)) (sym lines_before)
        (file_of_listing so_far.blocks so_far.ascending so_far.placed so_far.below);
    bad = λ h i.
        let p = listing_placed h i.is_text.blocks i.is_heap i.is_text.is_listing in
        let t = lines_tell so_far.blocks i.is_text.blocks (first_lines 1 rest) so_far.placed p (sym lines_with ∙ i.is_text.written) in
        refused_line refused l i.is_text.blocks t.0 i.is_text.is_listing.ascending p (listing_below (first_lines line bytes) h i) t.1 t.2;
  }
    where
      lines_before : first_lines (line - 1) bytes ≡ listing_text so_far.blocks
      lines_before =
          ap (first_lines (line - 1)) so_far.written
          ∙ ap (λ k. first_lines k (listing_text so_far.blocks ++ rest)) (omega (arith, so_far.counted))
          ∙ first_lines_more so_far.blocks 0 rest so_far.placed
          ∙ append-nil (listing_text so_far.blocks)

      lines_with : first_lines line bytes ≡ listing_text so_far.blocks ++ first_lines 1 rest
      lines_with =
          ap (first_lines line) so_far.written
          ∙ ap (λ k. first_lines k (listing_text so_far.blocks ++ rest)) so_far.counted
          ∙ first_lines_more so_far.blocks 1 rest so_far.placed
