-- From the marks of a tree to a derivation: monotypes.
use Rattle.std.proofs.Common.{ℕ, List, [], ◌∷◌, refl}
use Rattle.std.specs.Prelude.{Option, Some, None}
use Rattle.htt_lexer_tokens.specs.declared.tokens.Sign.TheVariants.{CommaSign}
use Rattle.htt_parser_trees.specs.declared.place.Binder.{Binder as BinderTree}
use Rattle.htt_parser_trees.specs.declared.place.Binder.TheVariants as binders
use Rattle.htt_parser_trees.specs.declared.mono.MonoName.{MonoName as MonoNameTree}
use Rattle.htt_parser_trees.specs.declared.mono.MonoName.TheVariants as mono_names
use Rattle.htt_parser_trees.specs.declared.tree.RawHeap.{RawHeap}
use Rattle.htt_parser_trees.specs.declared.tree.RawHeap.TheVariants as heaps
use Rattle.htt_parser_trees.specs.Trees.{RawFactorTree, RawMonoTree, m_name, m_brackets, m_factor, m_pair}
use Rattle.htt_parser_table.specs.declared.symbols.Nonterminal.TheVariants.{Binder, MonoName, HeapNumber, Heap, Factor, Mono, MonoInBrackets, MonosAfter, Monos}
use Rattle.theory_grammar.specs.Marks.{sign, each_after}
use Rattle.theory_grammar.specs.Grammar
use Rattle.theory_grammar_table.proofs.Takes.{Makes, none, one, one_alone, sub, last, left_first, by}

pub binder_makes : (l : ℕ) (x : BinderTree) → Makes (Grammar.binder l x) Binder
unfolding Grammar.mono each_after
binder_makes l (binders.Name s0) = by 0 tt (one_alone refl)
binder_makes l binders.Blank = by 1 tt (one_alone refl)

pub mono_name_makes : (l : ℕ) (x : MonoNameTree) → Makes (Grammar.mono_name l x) MonoName
unfolding Grammar.mono each_after
mono_name_makes l (mono_names.Word a0) = by 0 tt (one_alone refl)
mono_name_makes l (mono_names.Bool a0) = by 1 tt (one_alone refl)
mono_name_makes l (mono_names.Loc a0) = by 2 tt (one_alone refl)
mono_name_makes l (mono_names.Unit a0) = by 3 tt (one_alone refl)
mono_name_makes l (mono_names.Name s0) = by 4 tt (one_alone refl)

pub heap_number_makes : (l : ℕ) (x : Option ℕ) → Makes (Grammar.over l x) HeapNumber
unfolding Grammar.mono each_after
heap_number_makes l None = by 0 tt none
heap_number_makes l (Some n1) = by 1 tt (one _ refl (one_alone (n1, refl)))

pub heap_makes : (l : ℕ) (x : RawHeap) → Makes (Grammar.heap l x) Heap
unfolding Grammar.mono each_after
heap_makes l (heaps.Name s0) = by 0 tt (one_alone refl)
heap_makes l (heaps.Init a0 x1) = by 1 tt (one _ refl (last (heap_number_makes _ x1)))
heap_makes l (heaps.Mem a0 x1) = by 2 tt (one _ refl (last (heap_number_makes _ x1)))

mutual
  unfolding Grammar.mono each_after

  pub factor_makes : (l : ℕ) (x : RawFactorTree) → Makes (Grammar.factor l x) Factor
  factor_makes l (m_name x0) = by 0 tt (last (mono_name_makes _ x0))
  factor_makes l (m_brackets a0 x1) = by 1 tt (one _ refl (sub (mono_makes _ x1) (one_alone refl)))

  pub mono_makes : (l : ℕ) (x : RawMonoTree) → Makes (Grammar.mono l x) Mono
  mono_makes l (m_factor x0) = by 0 tt (last (factor_makes _ x0))
  mono_makes l (m_pair x0 x2) = by 1 tt (sub (factor_makes _ x0) (one _ refl (last (mono_makes _ x2))))

pub mono_in_brackets_makes : (l : ℕ) (x : RawMonoTree) → Makes (Grammar.in_brackets l x) MonoInBrackets
unfolding Grammar.mono each_after
mono_in_brackets_makes l x1 = by 0 tt (one _ refl (sub (mono_makes _ x1) (one_alone refl)))

pub monos_after_makes : (l : ℕ) (x : List RawMonoTree) → Makes (each_after (sign l CommaSign) (Grammar.mono l) x) MonosAfter
unfolding Grammar.mono each_after
monos_after_makes l [] = by 0 tt none
monos_after_makes l (x1 ∷ x2) = by 1 tt (one _ refl (sub (mono_makes _ x1) (last (monos_after_makes _ x2))))

pub monos_makes : (l : ℕ) (x : List RawMonoTree) → Makes (Grammar.monos l x) Monos
unfolding Grammar.mono each_after
monos_makes l [] = by 0 tt none
monos_makes l (x1 ∷ x2) = by 1 tt (one _ refl (left_first _ _ _ (sub (mono_makes _ x1) (sub (monos_after_makes _ x2) (one_alone refl)))))
