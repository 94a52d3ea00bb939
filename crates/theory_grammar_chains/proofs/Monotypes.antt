-- No operand is deeper than the tokens before it: names, heaps and monotypes, which have no chains.
use Rattle.std.proofs.Common.{ℕ, List, [], ◌∷◌, refl}
use Rattle.std.specs.Prelude.{Option, Some, None}
use Rattle.htt_parser_trees.specs.declared.place.Binder.{Binder}
use Rattle.htt_parser_trees.specs.declared.place.Binder.TheVariants as binders
use Rattle.htt_parser_trees.specs.declared.mono.MonoName.{MonoName}
use Rattle.htt_parser_trees.specs.declared.mono.MonoName.TheVariants as mono_names
use Rattle.htt_parser_trees.specs.declared.tree.RawHeap.{RawHeap}
use Rattle.htt_parser_trees.specs.declared.tree.RawHeap.TheVariants as heaps
use Rattle.htt_parser_trees.specs.Trees.{RawFactorTree, RawMonoTree, m_name, m_brackets, m_factor, m_pair}
use Rattle.theory_grammar.specs.Grammar
use Rattle.theory_grammar_chains.proofs.Even.{Even, none, one, alone, sub, separated_even}

pub binder_even : {n : ℕ} (l : ℕ) (x : Binder) → Even n (Grammar.binder l x)
binder_even l (binders.Name s0) = alone refl
binder_even l binders.Blank = alone refl

pub mono_name_even : {n : ℕ} (l : ℕ) (x : MonoName) → Even n (Grammar.mono_name l x)
mono_name_even l (mono_names.Word a0) = alone refl
mono_name_even l (mono_names.Bool a0) = alone refl
mono_name_even l (mono_names.Loc a0) = alone refl
mono_name_even l (mono_names.Unit a0) = alone refl
mono_name_even l (mono_names.Name s0) = alone refl

pub heap_number_even : {n : ℕ} (l : ℕ) (x : Option ℕ) → Even n (Grammar.over l x)
heap_number_even l None = none
heap_number_even l (Some n1) = one _ refl (alone refl)

pub heap_even : {n : ℕ} (l : ℕ) (x : RawHeap) → Even n (Grammar.heap l x)
heap_even l (heaps.Name s0) = alone refl
heap_even l (heaps.Init a0 x1) = one _ refl (heap_number_even _ x1)
heap_even l (heaps.Mem a0 x1) = one _ refl (heap_number_even _ x1)

mutual
  unfolding Grammar.mono

  pub factor_even : {n : ℕ} (l : ℕ) (x : RawFactorTree) → Even n (Grammar.factor l x)
  factor_even l (m_name x0) = mono_name_even _ x0
  factor_even l (m_brackets a0 x1) = one _ refl (sub (mono_even _ x1) (alone refl))

  pub mono_even : {n : ℕ} (l : ℕ) (x : RawMonoTree) → Even n (Grammar.mono l x)
  mono_even l (m_factor x0) = factor_even _ x0
  mono_even l (m_pair x0 x2) = sub (factor_even _ x0) (one _ refl (mono_even _ x2))

pub in_brackets_even : {n : ℕ} (l : ℕ) (x : RawMonoTree) → Even n (Grammar.in_brackets l x)
in_brackets_even l x1 = one _ refl (sub (mono_even _ x1) (alone refl))

pub monos_even : {n : ℕ} (l : ℕ) (x : List RawMonoTree) → Even n (Grammar.monos l x)
monos_even l [] = none
monos_even l (x1 ∷ x2) = one _ refl (sub (separated_even _ refl (mono_even l) (x1 ∷ x2)) (alone refl))
