-- A word takes two bytes of a heap file at least, and a block three more.
use Rattle.std.proofs.Common.{ℕ, ◌≡◌, ◌+◌, ◌*◌, ◌≤◌, List, [], ◌∷◌, ◌++◌, length, ap, arith, length-append}
use Rattle.std.specs.Fmt.{decimal}
use Rattle.std.proofs.lemmas.Fmt.{decimal_nonempty}
use Rattle.std.proofs.lemmas.List.Sums.{sum_by-cons}
use Rattle.theory_values.specs.Heaps.{Block}
use Rattle.heap_model_flat.specs.Listing.{listing_size}
use Rattle.heap_model_flat.proofs.ChangedListing.{listing_laws}
use Rattle.heap_model_text.specs.HeapText.{words_text, listing_text}
use Rattle.heap_model_text.proofs.LineLemmas.{AreWords, ArePlaced}
use Rattle.heap_model_text.proofs.FileLemmas.{listing_placed}
use Rattle.htt_top.specs.Laws.{HeapFilesFit}

words_long : (b : Block) → AreWords b → 2 * length b ≤ length (words_text b)
words_long [] a = omega arith
words_long (w ∷ ws) a = omega (arith, words_long ws a.1, decimal_nonempty w a.0, length-append (decimal w) (words_text ws))

listing_long : (ps : List (ℕ × Block)) → ArePlaced ps → 2 * listing_size ps ≤ length (listing_text ps)
listing_long [] a = omega arith
listing_long (p ∷ ps) a =
    let size : listing_size (p ∷ ps) ≡ (length p.1 + 1) + listing_size ps = sum_by-cons (λ (q : ℕ × Block). length q.1 + 1) p ps in
    omega (
      arith,
      listing_long ps a.2,
      words_long p.1 a.1,
      decimal_nonempty p.0 a.0,
      length-append (decimal p.0) (58 ∷ words_text p.1),
      length-append (decimal p.0 ++ (58 ∷ words_text p.1)) (10 ∷ listing_text ps),
    )

half : (bytes text size n : ℕ) → bytes ≡ text → n ≡ size → 2 * size ≤ text → bytes ≤ 16777216 → n ≤ 16000000
half bytes text size n e same long within = omega arith

pub heap_files_fit_lem : HeapFilesFit
heap_files_fit_lem bytes h n file within size =
    let blocks = file.is_text.blocks in
    let listing = file.is_text.is_listing in
    let long = listing_long blocks (listing_placed h blocks file.is_heap listing) in
    let same = listing_laws.sizes_agree h n (listing_size blocks) size (record { blocks = blocks; is_listing = listing; counted = λ j. listing_size blocks }) in
    half (length bytes) (length (listing_text blocks)) (listing_size blocks) n (ap length file.is_text.written) same long within
