-- An operation on formed terms is formed once it is folded.
use Rattle.std.proofs.Common.{ℕ, refl}
use Rattle.std.specs.Prelude.{true, false}
use Rattle.htt_syntax.specs.declared.mono.Op.{Op}
use Rattle.htt_syntax.specs.Trees.{MonoTree, TermTree, m_word, m_bool, m_loc, m_pair, t_word, t_bool, t_loc, t_pair, t_fst, t_snd, t_not, t_bin, t_eq, t_sel}
use Rattle.theory_values.specs.Values.{Value, IsWord, HasType, is_word, is_bool, is_loc, is_unit, is_pair, op_mono}
use Rattle.theory_values.proofs.Operations.{op_is_typed}
use Rattle.theory_canonical.specs.Folding.{contractum, folding, literal}
use Rattle.theory_typing.specs.Contexts.{IsComparable}
use Rattle.theory_formed_shapes.specs.Shapes.{sh_mono, Shapes}
use Rattle.theory_formed_shapes.specs.Formed.{FileShapes, IsFormedMono, IsFormedTerm, z_word, z_bool, z_loc, z_unit, z_pair, z_fst, z_snd, z_not, z_bin, z_eq}
use Rattle.theory_formed_shapes.specs.Formed.{z_sel, z_neutral}

pair_parts : {file : FileShapes} {g : Shapes} {left right : TermTree} {t u : MonoTree}
    → IsFormedTerm file g (t_pair left right) (sh_mono (m_pair t u))
    → IsFormedTerm file g left (sh_mono t) × IsFormedTerm file g right (sh_mono u)
pair_parts (z_pair d e) = (d, e)
pair_parts (z_neutral k) = elim k [ ]

pub fst_folded : {file : FileShapes} {g : Shapes} (M : TermTree) {t u : MonoTree}
    → IsFormedTerm file g M (sh_mono (m_pair t u))
    → IsFormedTerm file g (folding (t_fst M)) (sh_mono t)
unfolding contractum
fst_folded (t_pair left right) d = (pair_parts d).0
fst_folded _ d = z_fst d refl

pub snd_folded : {file : FileShapes} {g : Shapes} (M : TermTree) {t u : MonoTree}
    → IsFormedTerm file g M (sh_mono (m_pair t u))
    → IsFormedTerm file g (folding (t_snd M)) (sh_mono u)
unfolding contractum
snd_folded (t_pair left right) d = (pair_parts d).1
snd_folded _ d = z_snd d refl

pub not_folded : {file : FileShapes} {g : Shapes} (M : TermTree)
    → IsFormedTerm file g M (sh_mono m_bool)
    → IsFormedTerm file g (folding (t_not M)) (sh_mono m_bool)
unfolding contractum
not_folded (t_bool x) d = z_bool
not_folded _ d = z_not d refl

word_of : {file : FileShapes} {g : Shapes} {x : ℕ} → IsFormedTerm file g (t_word x) (sh_mono m_word) → IsWord x
word_of (z_word l) = l
word_of (z_neutral k) = elim k [ ]

pub literal_formed : {file : FileShapes} {g : Shapes} {v : Value} {t : MonoTree} → HasType v t → IsFormedTerm file g (literal v) (sh_mono t)
literal_formed (is_word l) = z_word l
literal_formed is_bool = z_bool
literal_formed (is_loc l) = z_loc l
literal_formed is_unit = z_unit
literal_formed (is_pair p q) = z_pair (literal_formed p) (literal_formed q)

pub bin_folded : {file : FileShapes} {g : Shapes} (op : Op) (M N : TermTree)
    → IsFormedTerm file g M (sh_mono m_word)
    → IsFormedTerm file g N (sh_mono m_word)
    → IsFormedTerm file g (folding (t_bin op M N)) (sh_mono (op_mono op))
unfolding contractum
bin_folded op (t_word x) (t_word y) d e = literal_formed (op_is_typed op x y (word_of d) (word_of e))
bin_folded op _ _ d e = z_bin d e refl

pub eq_folded : {file : FileShapes} {g : Shapes} (t : MonoTree) (M N : TermTree)
    → IsComparable t
    → IsFormedTerm file g M (sh_mono t)
    → IsFormedTerm file g N (sh_mono t)
    → IsFormedTerm file g (folding (t_eq t M N)) (sh_mono m_bool)
unfolding contractum
eq_folded m_word (t_word x) (t_word y) p d e = z_bool
eq_folded m_bool (t_bool x) (t_bool y) p d e = z_bool
eq_folded m_loc (t_loc x) (t_loc y) p d e = z_bool
eq_folded _ _ _ p d e = z_eq p d e refl

pub sel_folded : {file : FileShapes} {g : Shapes} (t : MonoTree) (M N R : TermTree)
    → IsFormedMono g t
    → IsFormedTerm file g M (sh_mono m_bool)
    → IsFormedTerm file g N (sh_mono t)
    → IsFormedTerm file g R (sh_mono t)
    → IsFormedTerm file g (folding (t_sel t M N R)) (sh_mono t)
unfolding contractum
sel_folded t (t_bool true) N R m d e f = e
sel_folded t (t_bool false) N R m d e f = f
sel_folded t _ N R m d e f = z_sel m d e f refl
