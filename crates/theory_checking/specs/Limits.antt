-- The limits that are tested while a phrase is checked: of a tree its nodes come before its depth, and of
-- a substitution's result its nodes before the monotypes in it.
use Rattle.std.specs.Prelude.{ℕ, zero, ◌+◌, ◌≤◌, length, Result, Option, Some, None}
use Rattle.htt_syntax_words.specs.declared.words.Rule.TheVariants.{Sort}
use Rattle.htt_syntax_words.specs.declared.words.Which.TheVariants.{Nodes, Depth, Context as Entries, Mono}
use Rattle.htt_syntax.specs.Trees.{MonoTree, TyTree, TermTree, CompTree, FormulaTree, t_unit}
use Rattle.theory_counts.specs.Nodes.{nodes_mono, nodes_ty, nodes_term, nodes_comp, nodes_formula}
use Rattle.theory_counts.specs.Depth.{depth_formula}
use Rattle.theory_counts_monotypes.specs.Monotypes.{greatest_in_ty, greatest_in_term, greatest_in_comp}
use Rattle.theory_canonical.specs.Skeletons.{Skeleton, sk_o}
use Rattle.theory_substitution.specs.Substitution.{SubTerm, SubTy, SubComp, Bind}
use Rattle.theory_typing.specs.Contexts.{Context, FormsMono}
use Rattle.theory_checking.specs.Stops.{Stop, refused, passed, ◌>>=◌, ◌>>◌, Comes, Needs, Makes}

-- The largest permitted numbers.
abbrev pub node_limit : ℕ
node_limit = 1_000_000

abbrev pub depth_limit : ℕ
depth_limit = 1_000

abbrev pub entry_limit : ℕ
entry_limit = 4096

abbrev pub mono_limit : ℕ
mono_limit = 64

-- so many entries more
abbrev pub HasRoom : Context → ℕ → Result (Unit {0}) Stop → Type 0
HasRoom g n = Needs (length g + n ≤ entry_limit) (passed Entries)

-- a monotype: all its variables, and then its nodes
abbrev pub IsNarrow : MonoTree → Result (Unit {0}) Stop → Type 0
IsNarrow t = Needs (nodes_mono t ≤ mono_limit) (passed Mono)

abbrev pub MonoComesTo : Context → ℕ → MonoTree → Result (Unit {0}) Stop → Type 0
MonoComesTo g at t = do
  Needs (FormsMono g t) (refused Sort at)
  IsNarrow t

-- a state, or the goal of an obligation
abbrev pub StateIsWithin : FormulaTree → Result (Unit {0}) Stop → Type 0
StateIsWithin F = do
  Needs (nodes_formula F ≤ node_limit) (passed Nodes)
  Needs (depth_formula F ≤ depth_limit) (passed Depth)

abbrev pub OwedIsWithin : Option FormulaTree → Result (Unit {0}) Stop → Type 0
OwedIsWithin None = Comes tt
OwedIsWithin (Some F) = StateIsWithin F

-- the result of a substitution, which has so many nodes, and so many in its greatest monotype
abbrev pub ResultIsWithin : ℕ → ℕ → Result (Unit {0}) Stop → Type 0
ResultIsWithin nodes greatest = do
  Needs (nodes ≤ node_limit) (passed Nodes)
  Needs (greatest ≤ mono_limit) (passed Mono)

abbrev pub TyIsWithin : TyTree → Result (Unit {0}) Stop → Type 0
TyIsWithin A = ResultIsWithin (nodes_ty A) (greatest_in_ty A)

abbrev pub TermIsWithin : TermTree → Result (Unit {0}) Stop → Type 0
TermIsWithin M = ResultIsWithin (nodes_term M) (greatest_in_term M)

abbrev pub CompIsWithin : CompTree → Result (Unit {0}) Stop → Type 0
CompIsWithin E = ResultIsWithin (nodes_comp E) (greatest_in_comp E)

-- a term of a skeleton put for the innermost variable of a type, of a term
abbrev pub PutsInTy : TermTree → Skeleton → TyTree → Result TyTree Stop → Type 0
PutsInTy new s A = do
  result ← Makes (SubTy new s zero A)
  TyIsWithin result
  Comes result

abbrev pub PutsInTerm : TermTree → Skeleton → TermTree → Result TermTree Stop → Type 0
PutsInTerm new s M = do
  result ← Makes (SubTerm new s zero M)
  TermIsWithin result
  Comes result

-- a computation that is run before another, and `()` put for the variable of a claim
abbrev pub RunsBefore : CompTree → CompTree → Result CompTree Stop → Type 0
RunsBefore E others = do
  result ← Makes (Bind E others)
  CompIsWithin result
  Comes result

abbrev pub DropsClaim : CompTree → Result CompTree Stop → Type 0
DropsClaim others = do
  result ← Makes (SubComp t_unit sk_o zero others)
  CompIsWithin result
  Comes result
