-- The nodes of a monotype and when it is formed, one level at a time.
use Rattle.std.proofs.Common.{◌≡◌, ℕ, suc, ◌+◌, ◌<◌, Result, Ok, Err, refl, arith}
use Rattle.htt_syntax.specs.Trees.{MonoTree, m_word, m_bool, m_loc, m_unit, m_pair, m_var}
use Rattle.theory_counts.specs.Nodes.{nodes_mono}
use Rattle.theory_typing.specs.Contexts.{Context, FormsMono, forms_word, forms_bool, forms_loc, forms_unit, forms_pair, forms_var, IsMonoEntry, IsComparable, compares_word, compares_bool, compares_loc}
use Rattle.theory_checking.specs.Stops.{holds, goes_on}
use Rattle.theory_checking.specs.Limits.{IsNarrow, MonoComesTo}
use Rattle.kinds_types_entries.specs.declared.stop.TypeStop.{TypeStop}
use Rattle.kinds_types_entries.specs.declared.stop.TypeStop.TheVariants.{Ill, Limit, NoMemory}
use Rattle.kinds_types_entries.specs.Answers.{Answers}

pub nodes_word : nodes_mono m_word ≡ 1
unfolding nodes_mono
nodes_word = refl

pub nodes_bool : nodes_mono m_bool ≡ 1
unfolding nodes_mono
nodes_bool = refl

pub nodes_loc : nodes_mono m_loc ≡ 1
unfolding nodes_mono
nodes_loc = refl

pub nodes_unit : nodes_mono m_unit ≡ 1
unfolding nodes_mono
nodes_unit = refl

pub nodes_pair : (a b : MonoTree) → nodes_mono (m_pair a b) ≡ suc (nodes_mono a + nodes_mono b)
unfolding nodes_mono
nodes_pair a b = refl

pub nodes_var : (i : ℕ) → nodes_mono (m_var i) ≡ 1
unfolding nodes_mono
nodes_var i = refl

pub ruleset node_levels = (nodes_word, nodes_bool, nodes_loc, nodes_unit, nodes_pair, nodes_var)

pub some_node : (t : MonoTree) → 0 < nodes_mono t
unfolding nodes_mono
some_node m_word = omega arith
some_node m_bool = omega arith
some_node m_loc = omega arith
some_node m_unit = omega arith
some_node (m_pair a b) = omega arith
some_node (m_var i) = omega arith

-- ---- formed monotypes

pub pair_left : {g : Context} {a b : MonoTree} → FormsMono g (m_pair a b) → FormsMono g a
pair_left (forms_pair l r) = l

pub pair_right : {g : Context} {a b : MonoTree} → FormsMono g (m_pair a b) → FormsMono g b
pair_right (forms_pair l r) = r

pub var_entry : {g : Context} {i : ℕ} → FormsMono g (m_var i) → IsMonoEntry g i
var_entry (forms_var h) = h

pub ruleset forms_levels = (forms_word, forms_bool, forms_loc, forms_unit, forms_pair, forms_var, pair_left, pair_right, var_entry)

-- ---- monotypes whose values are compared

pub no_unit : IsComparable m_unit → ⊥
no_unit compared = elim compared [ ]

pub no_pair : {a b : MonoTree} → IsComparable (m_pair a b) → ⊥
no_pair compared = elim compared [ ]

pub no_var : {i : ℕ} → IsComparable (m_var i) → ⊥
no_var compared = elim compared [ ]

pub ruleset compared_levels = (compares_word, compares_bool, compares_loc, no_unit, no_pair, no_var)

-- ---- what a monotype comes to

pub formed_comes : (g : Context) (at : ℕ) (t : MonoTree) (made : Result (Unit {0}) TypeStop)
    → FormsMono g t
    → Answers (λ u. u) (IsNarrow t) made
    → Answers (λ u. u) (MonoComesTo g at t) made
formed_comes g at t (Ok u) formed narrow = goes_on (holds formed) narrow
formed_comes g at t (Err (Ill byte rule)) formed narrow = goes_on (holds formed) narrow
formed_comes g at t (Err (Limit which)) formed narrow = goes_on (holds formed) narrow
formed_comes g at t (Err NoMemory) formed narrow = tt
