-- The steps on a heap touch their own part alone.
use Rattle.std.proofs.Common.{◌≡◌, ℕ, zero, suc, ◌<◌, List, [], ◌∷◌, length, Option, Some, None, refl, ap, ◌∙◌, subst, arith}
use Rattle.std.specs.Prelude.{All, Bool, true, false, is_none, nat_eq, if◌then◌else◌}
use Rattle.std.proofs.lemmas.Bool.Decides.{nat_tests}
use Rattle.htt_syntax.specs.Trees.{MonoTree}
use Rattle.theory_values.specs.Values.{Value, v_loc, v_unit, IsWord, HasType, encoding, width}
use Rattle.theory_values.specs.Heaps.{Block, Heap, IsHeap, IsOnly, IsJoin, with_block, without_block}
use Rattle.theory_values.proofs.Decoding.{encoding_is_decoded}
use Rattle.theory_values.proofs.Encoding.{encoding_is_words}
use Rattle.theory_values.proofs.Joins.{single_is_only, only_is_heap}
use Rattle.theory_meaning.specs.Meaning.{is_fresh, block_value, is_as_wide}
use Rattle.theory_denotation.specs.Outcomes.{Outcome, ended, asking, wrong, value_outcome, alloc_outcome, get_outcome, set_outcome, free_outcome}
use Rattle.theory_denotation_moves.specs.FrameLaws.{Allocates, Replaced, StepsAreLocal}
use Rattle.theory_denotation_moves.proofs.Places.{joins_left, joins_none, place_changed, block_added, block_replaced, block_taken, heap_with, heap_without}

-- a fresh place isn't 0 and has no block
none_of : (o : Option Block) → is_none o ≡ true → o ≡ None
none_of None q = refl
none_of (Some b) q = cc

fresh_is : (h : Heap) (l : ℕ) → is_fresh h l ≡ true → (0 < l) × (h l ≡ None)
fresh_is h zero q = absurd (cc)
fresh_is h (suc l) q = (omega arith, none_of (h (suc l)) q)

first_word : (l : ℕ) (cs : List ℕ) → All IsWord (l ∷ cs) → IsWord l
first_word l cs a = a 0 0 (omega arith)

later_words : (l : ℕ) (cs : List ℕ) → All IsWord (l ∷ cs) → All IsWord cs
later_words l cs a = λ k d below. a (suc k) d (omega (arith, below))

fresh_local : (t : MonoTree) (v : Value) (whole before frame : Heap) (l : ℕ) (cs : List ℕ) (b : Bool)
    → is_fresh whole l ≡ b
    → IsHeap whole
    → IsJoin whole before frame
    → All IsWord (l ∷ cs)
    → HasType v t
    → Allocates v before frame (if b then ended (v_loc l) (with_block whole l (encoding v)) cs else asking)
fresh_local t v whole before frame l cs false q i j a typed = tt
fresh_local t v whole before frame l cs true q i j a typed =
    let fresh = fresh_is whole l q in
    let parts = joins_none (whole l) (before l) (frame l) (j.each l) fresh.1 in
    let words = encoding_is_words typed in (
      record {
        place = l;
        is_place = refl;
        is_word = first_word l cs a;
        own = with_block before l (encoding v);
        parts = place_changed l (Some (encoding v)) j parts.1;
        is_heap = heap_with l (encoding v) i fresh.0 (first_word l cs a) words;
        adds = block_added l (encoding v) parts.0;
        block_is_heap = only_is_heap (single_is_only l (encoding v)) fresh.0 (first_word l cs a) words;
      },
      later_words l cs a,
    )

alloc_local : (t : MonoTree) (v : Value) (whole before frame : Heap) (cs : List ℕ)
    → IsHeap whole
    → IsJoin whole before frame
    → All IsWord cs
    → HasType v t
    → Allocates v before frame (alloc_outcome v whole cs)
alloc_local t v whole before frame [] i j a typed = tt
alloc_local t v whole before frame (l ∷ cs) i j a typed = fresh_local t v whole before frame l cs (is_fresh whole l) refl i j a typed

-- a block of a part of the own part stands in the whole, and the frame has none there
block_in_whole : {whole own frame g k : Heap} {l : ℕ} {b : Block}
    → IsJoin whole own frame
    → IsJoin own g k
    → IsOnly g l b
    → (whole l ≡ Some b) × (frame l ≡ None)
block_in_whole {whole = whole} {own = own} {frame = frame} {g = g} {k = k} {l = l} {b = b} j i o =
    joins_left (whole l) (own l) (frame l) b (j.each l) (joins_left (own l) (g l) (k l) b (i.each l) o.here).0

get_local : (t : MonoTree) (v : Value) (l : ℕ) (whole own frame g k : Heap) (cs : List ℕ)
    → IsJoin whole own frame
    → IsJoin own g k
    → IsOnly g l (encoding v)
    → HasType v t
    → get_outcome t (v_loc l) whole cs ≡ ended v whole cs
get_local t v l whole own frame g k cs j i o typed =
    ap (λ x. value_outcome (block_value (Some t) x) whole cs) (block_in_whole j i o).0
    ∙ ap (λ x. value_outcome x whole cs) (encoding_is_decoded typed)

wide_is : (b : Block) (t : MonoTree) → length b ≡ width t → nat_eq (length b) (width t) ≡ true
wide_is b t q = grind (arith, nat_tests)

-- the test of a width that is right
as_wide : {whole own frame g k : Heap} {l : ℕ} {b : Block} (t : MonoTree) (x y : Outcome)
    → IsJoin whole own frame
    → IsJoin own g k
    → IsOnly g l b
    → length b ≡ width t
    → (if is_as_wide (Some t) (whole l) then x else y) ≡ x
as_wide {b = b} t x y j i o q = ap (λ c. if is_as_wide (Some t) c then x else y) (block_in_whole j i o).0 ∙ ap (λ c. if c then x else y) (wide_is b t q)

set_local : (t : MonoTree) (v : Value) (l : ℕ) (b : Block) (whole own frame g k : Heap) (cs : List ℕ)
    → IsHeap whole
    → IsJoin whole own frame
    → IsJoin own g k
    → IsOnly g l b
    → length b ≡ width t
    → HasType v t
    → (set_outcome t (v_loc l) v whole cs ≡ ended v_unit (with_block whole l (encoding v)) cs)
    × Replaced l (encoding v) k frame (with_block whole l (encoding v))
set_local t v l b whole own frame g k cs h j i o q typed =
    let here = block_in_whole j i o in
    let words = encoding_is_words typed in
    let above = h.above_zero l b here.0 in
    let word = h.at_words l b here.0 in (
      as_wide t (ended v_unit (with_block whole l (encoding v)) cs) wrong j i o q,
      record {
        own = with_block own l (encoding v);
        parts = place_changed l (Some (encoding v)) j here.1;
        is_heap = heap_with l (encoding v) h above word words;
        has = block_replaced l b (encoding v) i o;
        block_is_heap = only_is_heap (single_is_only l (encoding v)) above word words;
      },
    )

free_local : (t : MonoTree) (l : ℕ) (b : Block) (whole own frame g k : Heap) (cs : List ℕ)
    → IsHeap whole
    → IsJoin whole own frame
    → IsJoin own g k
    → IsOnly g l b
    → length b ≡ width t
    → (free_outcome t (v_loc l) whole cs ≡ ended v_unit (without_block whole l) cs)
    × IsJoin (without_block whole l) k frame
    × IsHeap (without_block whole l)
free_local t l b whole own frame g k cs h j i o q =
    let here = block_in_whole j i o in
    let left = place_changed l None j here.1 in (
      as_wide t (ended v_unit (without_block whole l) cs) wrong j i o q,
      subst (λ (x : Heap). IsJoin (without_block whole l) x frame) (λ d m. block_taken l b i o m d) left,
      heap_without l h,
    )

pub local : StepsAreLocal
local = record { alloc = alloc_local; get = get_local; set = set_local; free = free_local }
