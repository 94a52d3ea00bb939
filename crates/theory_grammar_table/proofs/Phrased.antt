-- Which trees the phrases of the table have, and what a row of the table has.
use Rattle.std.proofs.Common.{◌≡◌, ℕ, ◌⊎◌, inl, inr, List, [], ◌∷◌, refl}
use Rattle.std.specs.Prelude.{Option}
use Rattle.htt_lexer_tokens.specs.declared.tokens.Token.{Token}
use Rattle.htt_lexer_tokens.specs.declared.tokens.Sign.TheVariants.{CommaSign}
use Rattle.htt_parser_trees.specs.declared.place.Span.{Span}
use Rattle.htt_parser_trees.specs.declared.place.Binder.{Binder as BinderTree}
use Rattle.htt_parser_trees.specs.declared.mono.MonoName.{MonoName as MonoNameTree}
use Rattle.htt_parser_trees.specs.Trees.{SumSign as SumSignTree}
use Rattle.htt_parser_trees.specs.Trees.{ProdSign}
use Rattle.htt_parser_trees.specs.declared.tree.UnaryWord.{UnaryWord as UnaryWordTree}
use Rattle.htt_parser_trees.specs.declared.tree.RawHeap.{RawHeap}
use Rattle.htt_parser_trees.specs.declared.proof.UnaryRule.{UnaryRule as UnaryRuleTree}
use Rattle.htt_parser_trees.specs.Trees.{RawFactorTree, RawMonoTree, RawTyTree, RawTripleTree, RawTermTree, RawParamTrees, RawRelTree, RawSumTree}
use Rattle.htt_parser_trees.specs.Trees.{RawSumRestTree, RawProdTree, RawProdRestTree, RawApplTree, RawPartTrees, RawAtomTree, RawCompTree, RawStepTree}
use Rattle.htt_parser_trees.specs.Trees.{RawFormulaTree, RawSortTree, RawDisjTree, RawConjTree, RawStarTree, RawFatomTree, RawTermTrees, RawArgTree}
use Rattle.htt_parser_trees.specs.Trees.{RawMotiveTree, RawProofTree, RawStmtTree, RawEndTree, RawProofTrees, RawMonoParamTree, RawBodyTree, RawDeclTree}
use Rattle.htt_parser_table.specs.declared.symbols.Nonterminal.{Nonterminal}
use Rattle.htt_parser_table.specs.declared.symbols.Nonterminal.TheVariants.{Binder, MonoName, SumSign, ProductSign, UnaryWord, UnaryRule, HeapNumber, Heap}
use Rattle.htt_parser_table.specs.declared.symbols.Nonterminal.TheVariants.{Factor, Mono, MonoInBrackets, MonosAfter, Monos, TypePhrase, Triple, Term}
use Rattle.htt_parser_table.specs.declared.symbols.Nonterminal.TheVariants.{Parameters, Relation, Sum, SumRest, Product, ProductRest, Application, Parts, Atom}
use Rattle.htt_parser_table.specs.declared.symbols.Nonterminal.TheVariants.{Comp, Step, Formula, Sort, Disjunction, Conjunction, Separation, FormulaAtom, Terms}
use Rattle.htt_parser_table.specs.declared.symbols.Nonterminal.TheVariants.{TermsAfter, Argument, Arguments, ArgumentsAfter, Motive, Proof, Statement, End}
use Rattle.htt_parser_table.specs.declared.symbols.Nonterminal.TheVariants.{ProofsAfter, NamesAfter, Names, MonoParameter, MonoParametersAfter, MonoParameters}
use Rattle.htt_parser_table.specs.declared.symbols.Nonterminal.TheVariants.{Body, Declaration, File}
use Rattle.theory_grammar.specs.Marks as marks
use Rattle.theory_grammar.specs.Marks.{span_of, ◌⨟◌, sign, word_at, name, number, each_after}
use Rattle.theory_grammar.specs.Grammar
use Rattle.htt_parser_table.specs.declared.symbols.Symbol.{Symbol}
use Rattle.htt_parser_table.specs.declared.symbols.Symbol.TheVariants.{Word, Mark, Name, Number, Phrase}
use Rattle.htt_parser_table.specs.Table.{alternatives_of}
use Rattle.htt_parser_table.specs.Derives.{IsOne, Derives, SomeRow, Row, derived, this_row, a_later_row, row_ends, token_first, phrase_first}
use Rattle.theory_grammar_table.proofs.Takes.{Reads, row_at}

abbrev pub Tree : Nonterminal → Type 0
Tree Binder = BinderTree
Tree MonoName = MonoNameTree
Tree SumSign = SumSignTree
Tree ProductSign = ProdSign
Tree UnaryWord = ℕ × UnaryWordTree
Tree UnaryRule = ℕ × UnaryRuleTree
Tree HeapNumber = Option ℕ
Tree Heap = RawHeap
Tree Factor = RawFactorTree
Tree Mono = RawMonoTree
Tree MonoInBrackets = RawMonoTree
Tree MonosAfter = List RawMonoTree
Tree Monos = List RawMonoTree
Tree TypePhrase = RawTyTree
Tree Triple = RawTripleTree
Tree Term = RawTermTree
Tree Parameters = RawParamTrees
Tree Relation = RawRelTree
Tree Sum = RawSumTree
Tree SumRest = RawSumRestTree
Tree Product = RawProdTree
Tree ProductRest = RawProdRestTree
Tree Application = RawApplTree
Tree Parts = RawPartTrees
Tree Atom = RawAtomTree
Tree Comp = RawCompTree
Tree Step = RawStepTree
Tree Formula = RawFormulaTree
Tree Sort = RawSortTree
Tree Disjunction = RawDisjTree
Tree Conjunction = RawConjTree
Tree Separation = RawStarTree
Tree FormulaAtom = RawFatomTree
Tree Terms = RawTermTrees
Tree TermsAfter = RawTermTrees
Tree Argument = RawArgTree
Tree Arguments = List RawArgTree
Tree ArgumentsAfter = List RawArgTree
Tree Motive = RawMotiveTree
Tree Proof = RawProofTree
Tree Statement = RawStmtTree
Tree End = RawEndTree
Tree ProofsAfter = RawProofTrees
Tree NamesAfter = List Span
Tree Names = List Span
Tree MonoParameter = RawMonoParamTree
Tree MonoParametersAfter = List RawMonoParamTree
Tree MonoParameters = List RawMonoParamTree
Tree Body = RawBodyTree
Tree Declaration = RawDeclTree
Tree File = List RawDeclTree

-- the marks of a tree at a level, from an operand of a chain on
abbrev pub marks_of : (n : Nonterminal) → ℕ → ℕ → Tree n → List marks.Mark
marks_of Binder l k x = Grammar.binder l x
marks_of MonoName l k x = Grammar.mono_name l x
marks_of SumSign l k x = sign l (Grammar.sum_sign x)
marks_of ProductSign l k x = sign l (Grammar.prod_sign x)
marks_of UnaryWord l k x = word_at l (Grammar.unary_word x.1) x.0
marks_of UnaryRule l k x = word_at l (Grammar.unary_rule x.1) x.0
marks_of HeapNumber l k x = Grammar.over l x
marks_of Heap l k x = Grammar.heap l x
marks_of Factor l k x = Grammar.factor l x
marks_of Mono l k x = Grammar.mono l x
marks_of MonoInBrackets l k x = Grammar.in_brackets l x
marks_of MonosAfter l k x = each_after (sign l CommaSign) (Grammar.mono l) x
marks_of Monos l k x = Grammar.monos l x
marks_of TypePhrase l k x = Grammar.ty l x
marks_of Triple l k x = Grammar.triple l x
marks_of Term l k x = Grammar.term l x
marks_of Parameters l k x = Grammar.params l x
marks_of Relation l k x = Grammar.rel l x
marks_of Sum l k x = Grammar.sum l x
marks_of SumRest l k x = Grammar.sum_rest l k x
marks_of Product l k x = Grammar.prod l x
marks_of ProductRest l k x = Grammar.prod_rest l k x
marks_of Application l k x = Grammar.appl l x
marks_of Parts l k x = Grammar.parts l k x
marks_of Atom l k x = Grammar.atom l x
marks_of Comp l k x = Grammar.comp l x
marks_of Step l k x = Grammar.step l x
marks_of Formula l k x = Grammar.formula l x
marks_of Sort l k x = Grammar.sort l x
marks_of Disjunction l k x = Grammar.disj l x
marks_of Conjunction l k x = Grammar.conj l x
marks_of Separation l k x = Grammar.star l x
marks_of FormulaAtom l k x = Grammar.fatom l x
marks_of Terms l k x = Grammar.terms l x
marks_of TermsAfter l k x = Grammar.terms_after l x
marks_of Argument l k x = Grammar.arg l x
marks_of Arguments l k x = Grammar.args l x
marks_of ArgumentsAfter l k x = each_after (sign l CommaSign) (Grammar.arg l) x
marks_of Motive l k x = Grammar.motive l x
marks_of Proof l k x = Grammar.proof l x
marks_of Statement l k x = Grammar.stmt l x
marks_of End l k x = Grammar.ending l x
marks_of ProofsAfter l k x = Grammar.proofs_after l k x
marks_of NamesAfter l k x = each_after (sign 0 CommaSign) (name 0) x
marks_of Names l k x = Grammar.names x
marks_of MonoParameter l k x = Grammar.mono_parameter x
marks_of MonoParametersAfter l k x = each_after (sign 0 CommaSign) Grammar.mono_parameter x
marks_of MonoParameters l k x = Grammar.mono_parameters x
marks_of Body l k x = Grammar.body x
marks_of Declaration l k x = Grammar.decl x
marks_of File l k x = Grammar.file x

-- some tree is read, at any level
abbrev pub Phrased : Nonterminal → List Token → List Token → Type 0
Phrased n ts us = (x : Tree n) × ((l k : ℕ) → Reads (marks_of n l k x) ts us)

abbrev pub Walk : List Symbol → List Token → List Token → Type 0
Walk [] ts us = ts ≡ us
Walk (Phrase n ∷ row) ts us = (vs : List Token) × Phrased n ts vs × Walk row vs us
Walk (Word w ∷ row) ts us = (t : Token) × (vs : List Token) × (ts ≡ t ∷ vs) × IsOne (Word w) t.kind × Walk row vs us
Walk (Mark s ∷ row) ts us = (t : Token) × (vs : List Token) × (ts ≡ t ∷ vs) × IsOne (Mark s) t.kind × Walk row vs us
Walk (Name ∷ row) ts us = (t : Token) × (vs : List Token) × (ts ≡ t ∷ vs) × IsOne Name t.kind × Walk row vs us
Walk (Number ∷ row) ts us = (t : Token) × (vs : List Token) × (ts ≡ t ∷ vs) × IsOne Number t.kind × Walk row vs us

abbrev pub SomeWalk : List (List Symbol) → List Token → List Token → Type 0
SomeWalk [] ts us = ⊥
SomeWalk (row ∷ rows) ts us = Walk row ts us ⊎ SomeWalk rows ts us

-- the alternative of this number has a tree
abbrev pub Built : Nonterminal → ℕ → Type 0
Built n k = (ts us : List Token) → Walk (row_at k (alternatives_of n)) ts us → Phrased n ts us

abbrev pub AllBuilt : Nonterminal → Type 0
AllBuilt n = (ts us : List Token) → SomeWalk (alternatives_of n) ts us → Phrased n ts us

token_walk : (s : Symbol) (row : List Symbol) (t : Token) (ts us : List Token) → IsOne s t.kind → Walk row ts us → Walk (s ∷ row) (t ∷ ts) us
token_walk (Word w) row t ts us one rest = (t, ts, refl, one, rest)
token_walk (Mark s) row t ts us one rest = (t, ts, refl, one, rest)
token_walk Name row t ts us one rest = (t, ts, refl, one, rest)
token_walk Number row t ts us one rest = (t, ts, refl, one, rest)
token_walk (Phrase n) row t ts us one rest = absurd one

-- what is derived has a tree, if each alternative has
module _ (built : (n : Nonterminal) → AllBuilt n) where
  mutual
    pub phrase_tree : (n : Nonterminal) (ts us : List Token) → Derives n ts us → Phrased n ts us
    phrase_tree n ts us (derived rows) = built n ts us (rows_walk (alternatives_of n) ts us rows)

    rows_walk : (rows : List (List Symbol)) (ts us : List Token) → SomeRow rows ts us → SomeWalk rows ts us
    rows_walk (row ∷ rows) ts us (this_row r) = inl (row_walk row ts us r)
    rows_walk (row ∷ rows) ts us (a_later_row r) = inr (rows_walk rows ts us r)

    row_walk : (row : List Symbol) (ts us : List Token) → Row row ts us → Walk row ts us
    row_walk [] ts _ row_ends = refl
    row_walk (s ∷ row) (t ∷ ts) us (token_first one r) = token_walk s row t ts us one (row_walk row ts us r)
    row_walk (Phrase n ∷ row) ts vs (phrase_first {us = us} d r) = (us, phrase_tree n ts us d, row_walk row us vs r)
