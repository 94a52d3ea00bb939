-- Whether a term is folded is told by what folding looks at.
use Rattle.std.proofs.Common.{◌≡◌, true, false, ◌&&◌, not, refl}
use Rattle.htt_syntax.specs.declared.mono.Op.{Op}
use Rattle.htt_syntax.specs.Trees.{MonoTree, TermTree, m_word, m_bool, m_loc, t_word, t_bool, t_loc, t_pair, t_fst, t_snd, t_not, t_bin, t_eq, t_sel}
use Rattle.theory_canonical.specs.Folding.{contractum}
use Rattle.theory_canonical_decided.specs.Standings.{is_kept}
use Rattle.canonical_forms_decision.specs.Literals.{literal_of, is_word, is_bool, is_pair, eq_stays}

pub fst_kept : (pair : TermTree) → is_kept (contractum (t_fst pair)) ≡ not (is_pair (literal_of pair))
unfolding contractum literal_of
fst_kept (t_pair left right) = refl
fst_kept _ = refl

pub snd_kept : (pair : TermTree) → is_kept (contractum (t_snd pair)) ≡ not (is_pair (literal_of pair))
unfolding contractum literal_of
snd_kept (t_pair left right) = refl
snd_kept _ = refl

pub not_kept : (term : TermTree) → is_kept (contractum (t_not term)) ≡ not (is_bool (literal_of term))
unfolding contractum literal_of
not_kept (t_bool truth) = refl
not_kept _ = refl

pub bin_kept : (op : Op) (left right : TermTree)
    → is_kept (contractum (t_bin op left right)) ≡ not (is_word (literal_of left) && is_word (literal_of right))
unfolding contractum literal_of
bin_kept op (t_word x) (t_word y) = refl
bin_kept op (t_word x) _ = refl
bin_kept op _ right = refl

pub eq_kept : (mono : MonoTree) (left right : TermTree)
    → is_kept (contractum (t_eq mono left right)) ≡ eq_stays mono (literal_of left) (literal_of right)
unfolding contractum literal_of
eq_kept m_word (t_word x) (t_word y) = refl
eq_kept m_word (t_word x) _ = refl
eq_kept m_word _ right = refl
eq_kept m_bool (t_bool x) (t_bool y) = refl
eq_kept m_bool (t_bool x) _ = refl
eq_kept m_bool _ right = refl
eq_kept m_loc (t_loc x) (t_loc y) = refl
eq_kept m_loc (t_loc x) _ = refl
eq_kept m_loc _ right = refl
eq_kept _ left right = refl

pub sel_kept : (mono : MonoTree) (test on_true on_false : TermTree)
    → is_kept (contractum (t_sel mono test on_true on_false)) ≡ not (is_bool (literal_of test))
unfolding contractum literal_of
sel_kept mono (t_bool true) on_true on_false = refl
sel_kept mono (t_bool false) on_true on_false = refl
sel_kept mono _ on_true on_false = refl
