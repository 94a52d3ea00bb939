-- Operations on values of their monotypes give values of theirs.
use Rattle.std.proofs.Common.{◌≡◌, refl}
use Rattle.std.specs.Prelude.{true, false}
use Rattle.htt_syntax.specs.declared.mono.Op.{Op}
use Rattle.htt_syntax.specs.declared.mono.Op.TheVariants.{Lt}
use Rattle.htt_syntax.specs.Trees.{MonoTree, m_word, m_bool, m_pair}
use Rattle.theory_values.specs.Values.{Value, HasType, is_word, is_bool, is_loc, is_pair, op_mono, value_of_op, value_of_not, value_of_eq, value_of_sel}
use Rattle.theory_values.specs.Values.{value_of_fst, value_of_snd}
use Rattle.theory_values.proofs.Operations.{op_is_typed}
use Rattle.theory_truth.specs.TermValue.{value_or_unit}
use Rattle.theory_typing.specs.Contexts.{IsComparable, compares_word, compares_bool, compares_loc}
use Rattle.theory_denotation.specs.Valuations.{Valuation, mono_in}

pub fst_typed : {v : Value} {t u : MonoTree} → HasType v (m_pair t u) → HasType (value_or_unit (value_of_fst v)) t
fst_typed (is_pair p q) = p

pub snd_typed : {v : Value} {t u : MonoTree} → HasType v (m_pair t u) → HasType (value_or_unit (value_of_snd v)) u
snd_typed (is_pair p q) = q

pub not_typed : {v : Value} → HasType v m_bool → HasType (value_or_unit (value_of_not v)) m_bool
not_typed is_bool = is_bool

pub op_typed : {v u : Value} (op : Op) → HasType v m_word → HasType u m_word → HasType (value_or_unit (value_of_op op v u)) (op_mono op)
op_typed op (is_word {n = x} p) (is_word {n = y} q) = op_is_typed op x y p q

pub eq_typed : {t : MonoTree} {v u : Value} (w : Valuation)
    → IsComparable t
    → HasType v (mono_in w t)
    → HasType u (mono_in w t)
    → HasType (value_or_unit (value_of_eq (mono_in w t) v u)) m_bool
eq_typed w compares_word (is_word p) (is_word q) = is_bool
eq_typed w compares_bool is_bool is_bool = is_bool
eq_typed w compares_loc (is_loc p) (is_loc q) = is_bool

pub sel_typed : {t : MonoTree} {b v u : Value} → HasType b m_bool → HasType v t → HasType u t → HasType (value_or_unit (value_of_sel b v u)) t
sel_typed (is_bool {b = true}) p q = p
sel_typed (is_bool {b = false}) p q = q

pub op_mono_in : (w : Valuation) (op : Op) → mono_in w (op_mono op) ≡ op_mono op
op_mono_in w Lt = refl
op_mono_in w _ = refl
