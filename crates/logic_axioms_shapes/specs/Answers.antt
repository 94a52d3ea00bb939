-- What is answered for the shape of an axiom.
use Rattle.std.specs.Prelude.{◌≡◌, ◌<◌, ◌≤◌, List, [], ◌∷◌, Option, Some, None, IfSome, IsSomeAnd}
use Rattle.htt_syntax.specs.Trees.{MonoTree, m_pair}
use Rattle.theory_counts.specs.Nodes.{nodes_mono}
use Rattle.theory_logic_axioms.specs.Names.{AxiomName, pair_eta}
use Rattle.theory_logic_axioms.specs.Table.{ArgSort, Signature, two_monos, term_sort, sorts_at, condition_at}
use Rattle.theory_logic_axioms.specs.Table.{argument_sorts, SideCondition}
use Rattle.logic_axioms_shapes.specs.declared.sort.AxiomStop.{AxiomStop}
use Rattle.logic_axioms_shapes.specs.declared.sort.AxiomStop.TheVariants.{BadInstance, MonoTooLarge, TooLarge, NoMemory}

-- the pair that an axiom makes of its monotypes, if it makes one
abbrev pub made_pair : AxiomName → List MonoTree → Option MonoTree
made_pair pair_eta (t ∷ s ∷ []) = Some (m_pair t s)
made_pair _ _ = None

-- the axiom can be used at these monotypes, and takes arguments of these sorts
pub record Takes (axiom_name : AxiomName) (monos : List MonoTree) (sorts : List ArgSort) : Type 0 where
  pub as_many : argument_sorts axiom_name monos ≡ Some sorts
  pub side_condition : SideCondition axiom_name monos

-- its shape, which has no monotype of more than 64 nodes that the axiom makes
pub record IsShape (axiom_name : AxiomName) (monos : List MonoTree) (sorts : List ArgSort) : Type 0 where
  pub takes : Takes axiom_name monos sorts
  pub narrow : IfSome (made_pair axiom_name monos) (λ pair. nodes_mono pair ≤ 64)

-- why it has no shape
abbrev pub Stops : AxiomName → List MonoTree → AxiomStop → Type 0
Stops axiom_name monos BadInstance = (sorts : List ArgSort) → Takes axiom_name monos sorts → ⊥
Stops axiom_name monos MonoTooLarge = IsSomeAnd (made_pair axiom_name monos) (λ pair. 64 < nodes_mono pair)
Stops axiom_name monos TooLarge = ⊥
Stops axiom_name monos NoMemory = Unit {0}

-- ---- the same of a signature alone, and of that of `pair_eta`

abbrev pub IsShapeAt : Signature → List MonoTree → List ArgSort → Type 0
IsShapeAt taken monos sorts = (sorts_at taken monos ≡ Some sorts) × condition_at taken monos

abbrev pub StopsAt : Signature → List MonoTree → AxiomStop → Type 0
StopsAt taken monos BadInstance = (sorts : List ArgSort) → IsShapeAt taken monos sorts → ⊥
StopsAt taken monos NoMemory = Unit {0}
StopsAt taken monos _ = ⊥

abbrev pub pair_signature : Signature
pair_signature = two_monos (λ t s. term_sort (m_pair t s) ∷ [])

abbrev pub IsPairShape : List MonoTree → List ArgSort → Type 0
IsPairShape monos sorts = IsShapeAt pair_signature monos sorts × IfSome (made_pair pair_eta monos) (λ pair. nodes_mono pair ≤ 64)

abbrev pub StopsPair : List MonoTree → AxiomStop → Type 0
StopsPair monos MonoTooLarge = IsSomeAnd (made_pair pair_eta monos) (λ pair. 64 < nodes_mono pair)
StopsPair monos stop = StopsAt pair_signature monos stop
