-- The width of a monotype is at most its size.
use Rattle.std.proofs.Common.{◌≡◌, ◌≤◌, subst, arith}
use Rattle.htt_syntax.specs.Trees.{MonoTree, m_word, m_bool, m_loc, m_unit, m_pair, m_var}
use Rattle.theory_values.specs.Values.{IsClosed, closed_pair, width}
use Rattle.theory_counts.specs.Nodes.{nodes_mono}

pub parts_closed : {t u : MonoTree} → IsClosed (m_pair t u) → IsClosed t × IsClosed u
parts_closed (closed_pair a b) = (a, b)

pub pair_closed : (m t u : MonoTree) → m ≡ m_pair t u → IsClosed m → IsClosed t × IsClosed u
pair_closed m t u e c = parts_closed (subst (λ (x : MonoTree). IsClosed x) e c)

pub width_small : (t : MonoTree) → width t ≤ nodes_mono t
unfolding nodes_mono
width_small m_word = omega arith
width_small m_bool = omega arith
width_small m_loc = omega arith
width_small m_unit = omega arith
width_small (m_pair t u) = let a = width_small t in let b = width_small u in omega (arith, a, b)
width_small (m_var i) = omega arith
