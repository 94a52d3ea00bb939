-- An operation on canonical terms, folded if it can be, is canonical.
use Rattle.std.proofs.Common.{ℕ, List, true, false, refl}
use Rattle.htt_syntax.specs.declared.mono.Op.{Op}
use Rattle.htt_syntax.specs.declared.mono.Op.TheVariants.{Lt}
use Rattle.htt_syntax.specs.Trees.{MonoTree, TermTree, m_word, m_bool, m_loc, t_word, t_bool, t_loc, t_pair, t_fst, t_snd, t_not, t_bin, t_eq, t_sel}
use Rattle.theory_canonical.specs.Skeletons.{sk_o}
use Rattle.theory_canonical.specs.Folding.{contractum, folding, op_literal}
use Rattle.theory_canonical.specs.Contexts.{Standing, Heads}
use Rattle.theory_canonical.specs.Canonical.{IsCanonical, IsCanonicalMono, n_word, n_bool, n_pair, n_fst, n_snd, n_not, n_bin, n_eq, n_sel, n_neutral}
use Rattle.theory_canonical.proofs.Renamed.{literal_canonical}

pair_left : {heads : Heads} {g : List Standing} {left right : TermTree} → IsCanonical heads g (t_pair left right) sk_o → IsCanonical heads g left sk_o
pair_left (n_pair d e) = d
pair_left (n_neutral k) = elim k [ ]

pair_right : {heads : Heads} {g : List Standing} {left right : TermTree} → IsCanonical heads g (t_pair left right) sk_o → IsCanonical heads g right sk_o
pair_right (n_pair d e) = e
pair_right (n_neutral k) = elim k [ ]

pub fst_folded : {heads : Heads} {g : List Standing} (t : TermTree) → IsCanonical heads g t sk_o → IsCanonical heads g (folding (t_fst t)) sk_o
unfolding contractum
fst_folded (t_pair left right) d = pair_left d
fst_folded t d = n_fst d refl

pub snd_folded : {heads : Heads} {g : List Standing} (t : TermTree) → IsCanonical heads g t sk_o → IsCanonical heads g (folding (t_snd t)) sk_o
unfolding contractum
snd_folded (t_pair left right) d = pair_right d
snd_folded t d = n_snd d refl

pub not_folded : {heads : Heads} {g : List Standing} (t : TermTree) → IsCanonical heads g t sk_o → IsCanonical heads g (folding (t_not t)) sk_o
unfolding contractum
not_folded (t_bool x) d = n_bool
not_folded t d = n_not d refl

pub bin_folded : {heads : Heads} {g : List Standing} (op : Op) (t r : TermTree)
    → IsCanonical heads g t sk_o
    → IsCanonical heads g r sk_o
    → IsCanonical heads g (folding (t_bin op t r)) sk_o
unfolding contractum
bin_folded op (t_word x) (t_word y) d e = literal_canonical op x y
bin_folded op t r d e = n_bin d e refl

pub eq_folded : {heads : Heads} {g : List Standing} (mono : MonoTree) (t r : TermTree)
    → IsCanonicalMono g mono
    → IsCanonical heads g t sk_o
    → IsCanonical heads g r sk_o
    → IsCanonical heads g (folding (t_eq mono t r)) sk_o
unfolding contractum
eq_folded m_word (t_word x) (t_word y) m d e = n_bool
eq_folded m_bool (t_bool x) (t_bool y) m d e = n_bool
eq_folded m_loc (t_loc x) (t_loc y) m d e = n_bool
eq_folded mono t r m d e = n_eq m d e refl

pub sel_folded : {heads : Heads} {g : List Standing} (mono : MonoTree) (t r q : TermTree)
    → IsCanonicalMono g mono
    → IsCanonical heads g t sk_o
    → IsCanonical heads g r sk_o
    → IsCanonical heads g q sk_o
    → IsCanonical heads g (folding (t_sel mono t r q)) sk_o
unfolding contractum
sel_folded mono (t_bool true) r q m d e h = e
sel_folded mono (t_bool false) r q m d e h = h
sel_folded mono t r q m d e h = n_sel m d e h refl
