-- Lists of as many monotypes as a signature takes.
use Rattle.std.proofs.Common.{◌≡◌, ◌<◌, ◌≤◌, List, [], ◌∷◌, length, map, get_or, Some, ap, arith}
use Rattle.htt_syntax.specs.declared.mono.Mono.{Mono}
use Rattle.htt_syntax.specs.Trees.{MonoTree}
use Rattle.htt_syntax.specs.Views.{mono_tree}
use Rattle.theory_logic_axioms.specs.Table.{ArgSort, SameWidth, no_mono, two_monos, two_as_wide, sorts_at, condition_at}

pub none_taken : (monos : List Mono) (sorts found : List ArgSort)
    → length monos < 1
    → sorts ≡ found
    → sorts_at (no_mono sorts) (map mono_tree monos) ≡ Some found
none_taken [] sorts found none e = ap Some e
none_taken (t ∷ ts) sorts found none e = absurd (omega arith)

pub two_taken : (monos : List Mono) (sorts : MonoTree → MonoTree → List ArgSort) (found : List ArgSort)
    → 2 ≤ length monos
    → length monos < 3
    → ((t s : MonoTree) → sorts t s ≡ found)
    → sorts_at (two_monos sorts) (map mono_tree monos) ≡ Some found
two_taken [] sorts found low high e = absurd (omega arith)
two_taken (t ∷ []) sorts found low high e = absurd (omega arith)
two_taken (t ∷ s ∷ []) sorts found low high e = ap Some (e (mono_tree t) (mono_tree s))
two_taken (t ∷ s ∷ r ∷ rs) sorts found low high e = absurd (omega arith)

two_items : (monos : List Mono) (t s : Mono)
    → 2 ≤ length monos
    → length monos < 3
    → t ≡ get_or monos 0 t
    → s ≡ get_or monos 1 s
    → monos ≡ t ∷ s ∷ []
two_items [] t s low high e f = absurd (omega arith)
two_items (a ∷ []) t s low high e f = absurd (omega arith)
two_items (a ∷ b ∷ []) t s low high e f = cc
two_items (a ∷ b ∷ r ∷ rs) t s low high e f = absurd (omega arith)

pub wide_taken : (monos : List Mono) (t s : Mono) (sorts : MonoTree → MonoTree → List ArgSort) (found : List ArgSort)
    → 2 ≤ length monos
    → length monos < 3
    → t ≡ get_or monos 0 t
    → s ≡ get_or monos 1 s
    → ((u v : MonoTree) → sorts u v ≡ found)
    → SameWidth (mono_tree t) (mono_tree s)
    → (sorts_at (two_as_wide sorts) (map mono_tree monos) ≡ Some found) × condition_at (two_as_wide sorts) (map mono_tree monos)
wide_taken monos t s sorts found low high e f h wide =
    rw (two_items monos t s low high e f) (ap Some (h (mono_tree t) (mono_tree s)), wide)
