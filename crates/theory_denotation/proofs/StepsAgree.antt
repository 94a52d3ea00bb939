-- The steps on a heap are those of the written meaning.
use Rattle.std.proofs.Common.{◌≡◌, ℕ, List, [], ◌∷◌, Option, Some, None, refl}
use Rattle.std.specs.Prelude.{Bool, true, false, if◌then◌else◌}
use Rattle.htt_syntax.specs.Trees.{MonoTree}
use Rattle.theory_values.specs.Values.{Value, v_bool, v_loc, v_unit, encoding}
use Rattle.theory_values.specs.Heaps.{Heap, with_block, without_block}
use Rattle.theory_meaning.specs.Closures.{base}
use Rattle.theory_meaning.specs.Meaning.{is_fresh, block_value, is_as_wide, value_result, alloc_result, get_result, set_result, free_result, branch_result}
use Rattle.theory_denotation.specs.Outcomes.{Outcome, ended, asking, wrong, value_outcome, alloc_outcome, get_outcome, set_outcome, free_outcome}
use Rattle.theory_denotation.specs.Outcomes.{branch_outcome}
use Rattle.theory_denotation.specs.Laws.{run_result, StepsAgree}

either : (b : Bool) (x y : Outcome) → run_result (if b then x else y) ≡ (if b then run_result x else run_result y)
either true x y = refl
either false x y = refl

value : (o : Option Value) (h : Heap) (cs : List ℕ) → run_result (value_outcome o h cs) ≡ value_result o h cs
value (Some v) h cs = refl
value None h cs = refl

alloc : (v : Value) (h : Heap) (cs : List ℕ) → run_result (alloc_outcome v h cs) ≡ alloc_result (base v) h cs
alloc v h [] = refl
alloc v h (l ∷ cs) = either (is_fresh h l) (ended (v_loc l) (with_block h l (encoding v)) cs) asking

get : (t : MonoTree) (v : Value) (h : Heap) (cs : List ℕ) → run_result (get_outcome t v h cs) ≡ get_result (Some t) (base v) h cs
get t (v_loc l) h cs = value (block_value (Some t) (h l)) h cs
get t _ h cs = refl

set : (t : MonoTree) (v u : Value) (h : Heap) (cs : List ℕ) → run_result (set_outcome t v u h cs) ≡ set_result (Some t) (base v) (base u) h cs
set t (v_loc l) u h cs = either (is_as_wide (Some t) (h l)) (ended v_unit (with_block h l (encoding u)) cs) wrong
set t _ u h cs = refl

free : (t : MonoTree) (v : Value) (h : Heap) (cs : List ℕ) → run_result (free_outcome t v h cs) ≡ free_result (Some t) (base v) h cs
free t (v_loc l) h cs = either (is_as_wide (Some t) (h l)) (ended v_unit (without_block h l) cs) wrong
free t _ h cs = refl

branch : (v : Value) (on_true on_false : Outcome)
    → run_result (branch_outcome v on_true on_false) ≡ branch_result (base v) (run_result on_true) (run_result on_false)
branch (v_bool true) x y = refl
branch (v_bool false) x y = refl
branch _ x y = refl

pub agree : StepsAgree
agree = record { alloc = alloc; get = get; set = set; free = free; branch = branch }
