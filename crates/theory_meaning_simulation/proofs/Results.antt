-- How results that are so are put together, and the steps on a heap.
use Rattle.std.proofs.Common.{◌≡◌, ℕ, List, [], ◌∷◌, Option, Some, None, refl, sym, subst, true, false}
use Rattle.std.specs.Prelude.{Bool, if◌then◌else◌}
use Rattle.htt_syntax.specs.declared.mono.Op.{Op}
use Rattle.htt_syntax.specs.declared.mono.Op.TheVariants.{Lt}
use Rattle.htt_syntax.specs.Trees.{MonoTree, m_word, m_bool, m_loc, m_unit, m_pair}
use Rattle.theory_values.specs.Values.{Value, v_word, v_bool, v_loc, v_unit, v_pair, HasType, is_word, is_bool, is_loc, is_unit, is_pair, op_mono, op_value}
use Rattle.theory_values.specs.Values.{encoding, value_of_op, value_of_not, value_of_eq, value_of_sel, value_of_fst, value_of_snd}
use Rattle.theory_values.specs.Heaps.{Block, Heap, with_block, without_block}
use Rattle.theory_values.proofs.Decoding.{decodes}
use Rattle.theory_truth.specs.TermValue.{value_or_unit}
use Rattle.theory_typing.specs.Contexts.{IsComparable, compares_word, compares_bool, compares_loc}
use Rattle.theory_meaning.specs.Closures.{RunValue, base, PureResult, gives, lacks_fuel, faults, RunResult, done, no_fuel, asks, fault}
use Rattle.theory_meaning.specs.Meaning.{then_with, base_or_fault, run_with, then_run, is_fresh, block_value, is_as_wide, alloc_result, get_result, set_result}
use Rattle.theory_meaning.specs.Meaning.{free_result, branch_result}
use Rattle.theory_denotation.specs.Outcomes.{Outcome, ended, out_of_fuel, asking, wrong, then_outcome, value_outcome, alloc_outcome, get_outcome, set_outcome}
use Rattle.theory_denotation.specs.Outcomes.{free_outcome, branch_outcome}
use Rattle.theory_denotation.specs.Valuations.{Valuation, mono_in}
use Rattle.theory_denotation.specs.Laws.{run_result}
use Rattle.theory_denotation.proofs.StepsAgree.{agree}
use Rattle.theory_meaning_simulation.specs.Simulation.{Shaped, GivesSo, AlikeOutcomes}

pub gives_then : (r : PureResult) (P Q : RunValue → Type 0) (f : RunValue → PureResult)
    → GivesSo r P
    → ((u : RunValue) → P u → GivesSo (f u) Q)
    → GivesSo (then_with r f) Q
gives_then (gives u) P Q f h g = g u h
gives_then lacks_fuel P Q f h g = tt
gives_then faults P Q f h g = h

pub gives_more : (r : PureResult) (P Q : RunValue → Type 0) → ((u : RunValue) → P u → Q u) → GivesSo r P → GivesSo r Q
gives_more (gives u) P Q g h = g u h
gives_more lacks_fuel P Q g h = tt
gives_more faults P Q g h = h

-- what holds of the one result for each of many
pub gives_each : {A : Type 0} (r : PureResult) (P : A → RunValue → Type 0) (a : A) → ((x : A) → GivesSo r (P x)) → GivesSo r (λ u. (x : A) → P x u)
gives_each (gives u) P a f = f
gives_each lacks_fuel P a f = tt
gives_each faults P a f = f a

pub gives_is : {r : PureResult} {u : RunValue} (P : RunValue → Type 0) → r ≡ gives u → P u → GivesSo r P
gives_is P q h = subst (λ r. GivesSo r P) (sym q) h

pub alike_with : (t : MonoTree) (r : PureResult) (P : RunValue → Type 0) (f : RunValue → RunResult) (o : Outcome)
    → GivesSo r P
    → ((u : RunValue) → P u → AlikeOutcomes t (f u) o)
    → AlikeOutcomes t (run_with r f) o
alike_with t (gives u) P f o h g = g u h
alike_with t lacks_fuel P f o h g = tt
alike_with t faults P f o h g = absurd h

pub alike_then : (t s : MonoTree) (r : RunResult) (o : Outcome) (f : RunValue → Heap → List ℕ → RunResult)
    (g : Value → Heap → List ℕ → Outcome)
    → AlikeOutcomes t r o
    → ((v : Value) (h : Heap) (cs : List ℕ) → Shaped v t → AlikeOutcomes s (f (base v) h cs) (g v h cs))
    → AlikeOutcomes s (then_run r f) (then_outcome o g)
alike_then t s (done u h cs) (ended v k ds) f g a b =
    subst (λ x. AlikeOutcomes s (f x h cs) (g v k ds)) (sym a.0)
    (subst (λ x. AlikeOutcomes s (f (base v) x cs) (g v k ds)) (sym a.2)
    (subst (λ x. AlikeOutcomes s (f (base v) k x) (g v k ds)) (sym a.3) (b v k ds a.1)))
alike_then t s (done u h cs) out_of_fuel f g a b = absurd a
alike_then t s (done u h cs) asking f g a b = absurd a
alike_then t s (done u h cs) wrong f g a b = absurd a
alike_then t s no_fuel o f g a b = tt
alike_then t s asks (ended v k ds) f g a b = absurd a
alike_then t s asks out_of_fuel f g a b = absurd a
alike_then t s asks asking f g a b = tt
alike_then t s asks wrong f g a b = absurd a
alike_then t s fault (ended v k ds) f g a b = absurd a
alike_then t s fault out_of_fuel f g a b = absurd a
alike_then t s fault asking f g a b = absurd a
alike_then t s fault wrong f g a b = tt

-- a value of a monotype has its form
pub shaped : {v : Value} {t : MonoTree} → HasType v t → Shaped v t
shaped (is_word p) = tt
shaped is_bool = tt
shaped (is_loc p) = tt
shaped is_unit = tt
shaped (is_pair p q) = (shaped p, shaped q)

-- the value of the text, and the form of the denotation
abbrev pub IsValue : MonoTree → Value → RunValue → Type 0
IsValue t v u = (u ≡ base v) × Shaped v t

pub fst_so : (t s : MonoTree) (v : Value) → Shaped v (m_pair t s) → GivesSo (base_or_fault (value_of_fst v)) (IsValue t (value_or_unit (value_of_fst v)))
fst_so t s (v_pair x y) p = (refl, p.0)
fst_so t s (v_word n) p = absurd p
fst_so t s (v_bool b) p = absurd p
fst_so t s (v_loc n) p = absurd p
fst_so t s v_unit p = absurd p

pub snd_so : (t s : MonoTree) (v : Value) → Shaped v (m_pair t s) → GivesSo (base_or_fault (value_of_snd v)) (IsValue s (value_or_unit (value_of_snd v)))
snd_so t s (v_pair x y) p = (refl, p.1)
snd_so t s (v_word n) p = absurd p
snd_so t s (v_bool b) p = absurd p
snd_so t s (v_loc n) p = absurd p
snd_so t s v_unit p = absurd p

pub not_so : (v : Value) → Shaped v m_bool → GivesSo (base_or_fault (value_of_not v)) (IsValue m_bool (value_or_unit (value_of_not v)))
not_so (v_bool b) p = (refl, tt)
not_so (v_word n) p = absurd p
not_so (v_loc n) p = absurd p
not_so v_unit p = absurd p
not_so (v_pair x y) p = absurd p

op_shaped : (op : Op) (x y : ℕ) → Shaped (op_value op x y) (op_mono op)
op_shaped Lt x y = tt
op_shaped _ x y = tt

pub op_so : (op : Op) (v u : Value)
    → Shaped v m_word
    → Shaped u m_word
    → GivesSo (base_or_fault (value_of_op op v u)) (IsValue (op_mono op) (value_or_unit (value_of_op op v u)))
op_so op (v_word x) (v_word y) p q = (refl, op_shaped op x y)
op_so op (v_word x) (v_bool b) p q = absurd q
op_so op (v_word x) (v_loc n) p q = absurd q
op_so op (v_word x) v_unit p q = absurd q
op_so op (v_word x) (v_pair a b) p q = absurd q
op_so op (v_bool b) u p q = absurd p
op_so op (v_loc n) u p q = absurd p
op_so op v_unit u p q = absurd p
op_so op (v_pair a b) u p q = absurd p

-- the forms of the comparable monotypes, and of truths
data WordForm : Value → Type 0 where
  word_form : {n : ℕ} → WordForm (v_word n)

data BoolForm : Value → Type 0 where
  bool_form : {b : Bool} → BoolForm (v_bool b)

data LocForm : Value → Type 0 where
  loc_form : {n : ℕ} → LocForm (v_loc n)

word_of_shape : (v : Value) → Shaped v m_word → WordForm v
word_of_shape (v_word n) p = word_form
word_of_shape (v_bool b) p = absurd p
word_of_shape (v_loc n) p = absurd p
word_of_shape v_unit p = absurd p
word_of_shape (v_pair x y) p = absurd p

bool_of_shape : (v : Value) → Shaped v m_bool → BoolForm v
bool_of_shape (v_bool b) p = bool_form
bool_of_shape (v_word b) p = absurd p
bool_of_shape (v_loc n) p = absurd p
bool_of_shape v_unit p = absurd p
bool_of_shape (v_pair x y) p = absurd p

loc_of_shape : (v : Value) → Shaped v m_loc → LocForm v
loc_of_shape (v_loc n) p = loc_form
loc_of_shape (v_word b) p = absurd p
loc_of_shape (v_bool n) p = absurd p
loc_of_shape v_unit p = absurd p
loc_of_shape (v_pair x y) p = absurd p

eq_word : {v u : Value} → WordForm v → WordForm u → GivesSo (base_or_fault (value_of_eq m_word v u)) (IsValue m_bool (value_or_unit (value_of_eq m_word v u)))
eq_word word_form word_form = (refl, tt)

eq_bool : {v u : Value} → BoolForm v → BoolForm u → GivesSo (base_or_fault (value_of_eq m_bool v u)) (IsValue m_bool (value_or_unit (value_of_eq m_bool v u)))
eq_bool bool_form bool_form = (refl, tt)

eq_loc : {v u : Value} → LocForm v → LocForm u → GivesSo (base_or_fault (value_of_eq m_loc v u)) (IsValue m_bool (value_or_unit (value_of_eq m_loc v u)))
eq_loc loc_form loc_form = (refl, tt)

pub eq_so : {t : MonoTree} (w : Valuation) (v u : Value)
    → IsComparable t
    → Shaped v (mono_in w t)
    → Shaped u (mono_in w t)
    → GivesSo (base_or_fault (value_of_eq (mono_in w t) v u)) (IsValue m_bool (value_or_unit (value_of_eq (mono_in w t) v u)))
eq_so w v u compares_word p q = eq_word (word_of_shape v p) (word_of_shape u q)
eq_so w v u compares_bool p q = eq_bool (bool_of_shape v p) (bool_of_shape u q)
eq_so w v u compares_loc p q = eq_loc (loc_of_shape v p) (loc_of_shape u q)

sel_of : (t : MonoTree) {b : Value} (v u : Value)
    → BoolForm b
    → Shaped v t
    → Shaped u t
    → GivesSo (base_or_fault (value_of_sel b v u)) (IsValue t (value_or_unit (value_of_sel b v u)))
sel_of t v u (bool_form {b = true}) p q = (refl, p)
sel_of t v u (bool_form {b = false}) p q = (refl, q)

pub sel_so : (t : MonoTree) (b v u : Value)
    → Shaped b m_bool
    → Shaped v t
    → Shaped u t
    → GivesSo (base_or_fault (value_of_sel b v u)) (IsValue t (value_or_unit (value_of_sel b v u)))
sel_so t b v u s p q = sel_of t v u (bool_of_shape b s) p q

pub op_shape_in : (v : Value) (w : Valuation) (op : Op) → Shaped v (op_mono op) → Shaped v (mono_in w (op_mono op))
op_shape_in v w Lt p = p
op_shape_in v w _ p = p

-- an outcome is its own result, where its value is of the form
Formed : MonoTree → Outcome → Type 0
Formed t (ended v h cs) = Shaped v t
Formed t _ = Unit {0}

alike_itself : (t : MonoTree) (o : Outcome) → Formed t o → AlikeOutcomes t (run_result o) o
unfolding Formed
alike_itself t (ended v h cs) f = (refl, f, refl, refl)
alike_itself t out_of_fuel f = tt
alike_itself t asking f = tt
alike_itself t wrong f = tt

either_formed : (t : MonoTree) (b : Bool) (x y : Outcome) → Formed t x → Formed t y → Formed t (if b then x else y)
either_formed t true x y p q = p
either_formed t false x y p q = q

alloc_formed : (v : Value) (h : Heap) (cs : List ℕ) → Formed m_loc (alloc_outcome v h cs)
unfolding Formed
alloc_formed v h [] = tt
alloc_formed v h (l ∷ cs) = either_formed m_loc (is_fresh h l) (ended (v_loc l) (with_block h l (encoding v)) cs) asking tt tt

value_formed : (t : MonoTree) (o : Option Value) (h : Heap) (cs : List ℕ) → ((v : Value) → o ≡ Some v → Shaped v t) → Formed t (value_outcome o h cs)
unfolding Formed
value_formed t (Some v) h cs f = f v refl
value_formed t None h cs f = tt

block_shaped : (t : MonoTree) (b : Option Block) (v : Value) → block_value (Some t) b ≡ Some v → Shaped v t
block_shaped t (Some b) v q = shaped ((decodes t b v q).typed)
block_shaped t None v q = absurd (cc)

get_formed : (t : MonoTree) (v : Value) (h : Heap) (cs : List ℕ) → Formed t (get_outcome t v h cs)
unfolding Formed
get_formed t (v_loc l) h cs = value_formed t (block_value (Some t) (h l)) h cs (λ v q. block_shaped t (h l) v q)
get_formed t (v_word n) h cs = tt
get_formed t (v_bool b) h cs = tt
get_formed t v_unit h cs = tt
get_formed t (v_pair x y) h cs = tt

set_formed : (t : MonoTree) (v u : Value) (h : Heap) (cs : List ℕ) → Formed m_unit (set_outcome t v u h cs)
unfolding Formed
set_formed t (v_loc l) u h cs = either_formed m_unit (is_as_wide (Some t) (h l)) (ended v_unit (with_block h l (encoding u)) cs) wrong tt tt
set_formed t (v_word n) u h cs = tt
set_formed t (v_bool b) u h cs = tt
set_formed t v_unit u h cs = tt
set_formed t (v_pair x y) u h cs = tt

free_formed : (t : MonoTree) (v : Value) (h : Heap) (cs : List ℕ) → Formed m_unit (free_outcome t v h cs)
unfolding Formed
free_formed t (v_loc l) h cs = either_formed m_unit (is_as_wide (Some t) (h l)) (ended v_unit (without_block h l) cs) wrong tt tt
free_formed t (v_word n) h cs = tt
free_formed t (v_bool b) h cs = tt
free_formed t v_unit h cs = tt
free_formed t (v_pair x y) h cs = tt

pub alloc_alike : (v : Value) (h : Heap) (cs : List ℕ) → AlikeOutcomes m_loc (alloc_result (base v) h cs) (alloc_outcome v h cs)
alloc_alike v h cs =
    subst (λ r. AlikeOutcomes m_loc r (alloc_outcome v h cs)) (agree.alloc v h cs)
    (alike_itself m_loc (alloc_outcome v h cs) (alloc_formed v h cs))

pub get_alike : (t : MonoTree) (v : Value) (h : Heap) (cs : List ℕ) → AlikeOutcomes t (get_result (Some t) (base v) h cs) (get_outcome t v h cs)
get_alike t v h cs = subst (λ r. AlikeOutcomes t r (get_outcome t v h cs)) (agree.get t v h cs) (alike_itself t (get_outcome t v h cs) (get_formed t v h cs))

pub set_alike : (t : MonoTree) (v u : Value) (h : Heap) (cs : List ℕ)
    → AlikeOutcomes m_unit (set_result (Some t) (base v) (base u) h cs) (set_outcome t v u h cs)
set_alike t v u h cs =
    subst (λ r. AlikeOutcomes m_unit r (set_outcome t v u h cs)) (agree.set t v u h cs)
    (alike_itself m_unit (set_outcome t v u h cs) (set_formed t v u h cs))

pub free_alike : (t : MonoTree) (v : Value) (h : Heap) (cs : List ℕ) → AlikeOutcomes m_unit (free_result (Some t) (base v) h cs) (free_outcome t v h cs)
free_alike t v h cs =
    subst (λ r. AlikeOutcomes m_unit r (free_outcome t v h cs)) (agree.free t v h cs)
    (alike_itself m_unit (free_outcome t v h cs) (free_formed t v h cs))

pub branch_alike : (t : MonoTree) (v : Value) (x y : RunResult) (a b : Outcome)
    → Shaped v m_bool
    → AlikeOutcomes t x a
    → AlikeOutcomes t y b
    → AlikeOutcomes t (branch_result (base v) x y) (branch_outcome v a b)
branch_alike t (v_bool true) x y a b s p q = p
branch_alike t (v_bool false) x y a b s p q = q
branch_alike t (v_word n) x y a b s p q = absurd s
branch_alike t (v_loc n) x y a b s p q = absurd s
branch_alike t v_unit x y a b s p q = absurd s
branch_alike t (v_pair c d) x y a b s p q = absurd s
