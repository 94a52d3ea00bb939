-- The grammar as a table: the alternatives of each nonterminal, each a row of symbols.
use Rattle.std.specs.Prelude.{List, [], ◌∷◌}
use Rattle.htt_lexer_tokens.specs.declared.tokens.Keyword.TheVariants.{AbsurdWord, AllWord, AllocWord, AppWord}
use Rattle.htt_lexer_tokens.specs.declared.tokens.Keyword.TheVariants.{AutoWord, AxiomWord, BlockWord, BoolWord}
use Rattle.htt_lexer_tokens.specs.declared.tokens.Keyword.TheVariants.{BothWord, CapitalEmpWord, CaseWord, CellWord}
use Rattle.htt_lexer_tokens.specs.declared.tokens.Keyword.TheVariants.{ClaimWord, DefWord, DoWord, EmpWord, EqWord}
use Rattle.htt_lexer_tokens.specs.declared.tokens.Keyword.TheVariants.{ExWord, FalseWord, FfWord, FirstWord, FixWord}
use Rattle.htt_lexer_tokens.specs.declared.tokens.Keyword.TheVariants.{FreeWord, FstWord, FunWord, GenWord, GetWord}
use Rattle.htt_lexer_tokens.specs.declared.tokens.Keyword.TheVariants.{GiveWord, HaveWord, HeapWord, IfWord, InductWord}
use Rattle.htt_lexer_tokens.specs.declared.tokens.Keyword.TheVariants.{InitWord, InstWord, IntroWord, JoinWord}
use Rattle.htt_lexer_tokens.specs.declared.tokens.Keyword.TheVariants.{LeftWord, LemWord, LocWord, MemWord, NotWord}
use Rattle.htt_lexer_tokens.specs.declared.tokens.Keyword.TheVariants.{NullWord, OpenWord, PlaceWord, PredWord}
use Rattle.htt_lexer_tokens.specs.declared.tokens.Keyword.TheVariants.{ProofWord, ReflWord, RetWord, RewriteWord}
use Rattle.htt_lexer_tokens.specs.declared.tokens.Keyword.TheVariants.{RightWord, SameWord, SecondWord, SelWord}
use Rattle.htt_lexer_tokens.specs.declared.tokens.Keyword.TheVariants.{SetWord, SndWord, SplitWord, TheWord}
use Rattle.htt_lexer_tokens.specs.declared.tokens.Keyword.TheVariants.{TrivialWord, TrueWord, TtWord, TypeWord}
use Rattle.htt_lexer_tokens.specs.declared.tokens.Keyword.TheVariants.{UnitWord, ValWord, WordWord}
use Rattle.htt_lexer_tokens.specs.declared.tokens.Sign.TheVariants.{AmpersandSign, AndSign, ArrowSign, AtSign, BangSign}
use Rattle.htt_lexer_tokens.specs.declared.tokens.Sign.TheVariants.{BarSign, CaretSign, CloseBraceSign}
use Rattle.htt_lexer_tokens.specs.declared.tokens.Sign.TheVariants.{CloseBracketSign, CloseParenSign, ColonSign}
use Rattle.htt_lexer_tokens.specs.declared.tokens.Sign.TheVariants.{CommaSign, DotSign, DoubleStarSign, EqualSign}
use Rattle.htt_lexer_tokens.specs.declared.tokens.Sign.TheVariants.{ImpliesSign, LeftArrowSign, LessSign, MinusSign}
use Rattle.htt_lexer_tokens.specs.declared.tokens.Sign.TheVariants.{OpenBraceSign, OpenBracketSign, OpenParenSign}
use Rattle.htt_lexer_tokens.specs.declared.tokens.Sign.TheVariants.{OrSign, PlusSign, PointsToSign, SemicolonSign}
use Rattle.htt_lexer_tokens.specs.declared.tokens.Sign.TheVariants.{ShiftLeftSign, ShiftRightSign, StarSign}
use Rattle.htt_lexer_tokens.specs.declared.tokens.Sign.TheVariants.{UnderscoreSign}
use Rattle.htt_parser_table.specs.declared.symbols.Symbol.{Symbol}
use Rattle.htt_parser_table.specs.declared.symbols.Symbol.TheVariants.{Word, Mark, Name, Number, Phrase}
use Rattle.htt_parser_table.specs.declared.symbols.Nonterminal.{Nonterminal}
use Rattle.htt_parser_table.specs.declared.symbols.Nonterminal.TheVariants.{Binder, MonoName, SumSign, ProductSign}
use Rattle.htt_parser_table.specs.declared.symbols.Nonterminal.TheVariants.{UnaryWord, UnaryRule, HeapNumber, Heap}
use Rattle.htt_parser_table.specs.declared.symbols.Nonterminal.TheVariants.{Factor, Mono, MonoInBrackets, MonosAfter}
use Rattle.htt_parser_table.specs.declared.symbols.Nonterminal.TheVariants.{Monos, TypePhrase, Triple, Term, Parameters}
use Rattle.htt_parser_table.specs.declared.symbols.Nonterminal.TheVariants.{Relation, Sum, SumRest, Product}
use Rattle.htt_parser_table.specs.declared.symbols.Nonterminal.TheVariants.{ProductRest, Application, Parts, Atom, Comp}
use Rattle.htt_parser_table.specs.declared.symbols.Nonterminal.TheVariants.{Step, Formula, Sort, Disjunction}
use Rattle.htt_parser_table.specs.declared.symbols.Nonterminal.TheVariants.{Conjunction, Separation, FormulaAtom, Terms}
use Rattle.htt_parser_table.specs.declared.symbols.Nonterminal.TheVariants.{TermsAfter, Argument, Arguments}
use Rattle.htt_parser_table.specs.declared.symbols.Nonterminal.TheVariants.{ArgumentsAfter, Motive, Proof, Statement}
use Rattle.htt_parser_table.specs.declared.symbols.Nonterminal.TheVariants.{End, ProofsAfter, NamesAfter, Names}
use Rattle.htt_parser_table.specs.declared.symbols.Nonterminal.TheVariants.{MonoParameter, MonoParametersAfter}
use Rattle.htt_parser_table.specs.declared.symbols.Nonterminal.TheVariants.{MonoParameters, Body, Declaration, File}

abbrev pub alternatives_of : Nonterminal → List (List Symbol)
alternatives_of Binder =
    (Name ∷ [])
    ∷ (Mark UnderscoreSign ∷ [])
    ∷ []
alternatives_of MonoName =
    (Word WordWord ∷ [])
    ∷ (Word BoolWord ∷ [])
    ∷ (Word LocWord ∷ [])
    ∷ (Word UnitWord ∷ [])
    ∷ (Name ∷ [])
    ∷ []
alternatives_of SumSign =
    (Mark PlusSign ∷ [])
    ∷ (Mark MinusSign ∷ [])
    ∷ (Mark BarSign ∷ [])
    ∷ (Mark CaretSign ∷ [])
    ∷ []
alternatives_of ProductSign =
    (Mark StarSign ∷ [])
    ∷ (Mark AmpersandSign ∷ [])
    ∷ (Mark ShiftLeftSign ∷ [])
    ∷ (Mark ShiftRightSign ∷ [])
    ∷ []
alternatives_of UnaryWord =
    (Word FstWord ∷ [])
    ∷ (Word SndWord ∷ [])
    ∷ (Word NotWord ∷ [])
    ∷ []
alternatives_of UnaryRule =
    (Word FirstWord ∷ [])
    ∷ (Word SecondWord ∷ [])
    ∷ (Word LeftWord ∷ [])
    ∷ (Word RightWord ∷ [])
    ∷ (Word AbsurdWord ∷ [])
    ∷ []
alternatives_of HeapNumber =
    ([])
    ∷ (Mark CaretSign ∷ Number ∷ [])
    ∷ []
alternatives_of Heap =
    (Name ∷ [])
    ∷ (Word InitWord ∷ Phrase HeapNumber ∷ [])
    ∷ (Word MemWord ∷ Phrase HeapNumber ∷ [])
    ∷ []
alternatives_of Factor =
    (Phrase MonoName ∷ [])
    ∷ (Mark OpenParenSign ∷ Phrase Mono ∷ Mark CloseParenSign ∷ [])
    ∷ []
alternatives_of Mono =
    (Phrase Factor ∷ [])
    ∷ (Phrase Factor ∷ Mark StarSign ∷ Phrase Mono ∷ [])
    ∷ []
alternatives_of MonoInBrackets =
    (Mark OpenBracketSign ∷ Phrase Mono ∷ Mark CloseBracketSign ∷ [])
    ∷ []
alternatives_of MonosAfter =
    ([])
    ∷ (Mark CommaSign ∷ Phrase Mono ∷ Phrase MonosAfter ∷ [])
    ∷ []
alternatives_of Monos =
    ([])
    ∷ (Mark OpenBracketSign ∷ Phrase Mono ∷ Phrase MonosAfter ∷ Mark CloseBracketSign ∷ [])
    ∷ []
alternatives_of TypePhrase =
    (Mark OpenParenSign ∷ Phrase Binder ∷ Mark ColonSign ∷ Phrase TypePhrase ∷ Mark CloseParenSign ∷ Mark ArrowSign ∷
    Phrase TypePhrase ∷ [])
    ∷ (Mark OpenBracketSign ∷ Name ∷ Mark CloseBracketSign ∷ Mark ArrowSign ∷ Phrase TypePhrase ∷ [])
    ∷ (Mark OpenBraceSign ∷ Phrase Triple ∷ [])
    ∷ (Phrase Mono ∷ [])
    ∷ []
alternatives_of Triple =
    (Phrase Formula ∷ Mark CloseBraceSign ∷ Phrase Binder ∷ Mark ColonSign ∷ Phrase Mono ∷ Mark OpenBraceSign ∷
    Phrase Formula ∷ Mark CloseBraceSign ∷ [])
    ∷ []
alternatives_of Term =
    (Word FunWord ∷ Phrase Binder ∷ Mark DotSign ∷ Phrase Term ∷ [])
    ∷ (Word FunWord ∷ Mark OpenBracketSign ∷ Name ∷ Mark CloseBracketSign ∷ Mark DotSign ∷ Phrase Term ∷ [])
    ∷ (Word DoWord ∷ Phrase Comp ∷ [])
    ∷ (Word FixWord ∷ Name ∷ Phrase Parameters ∷ Mark ColonSign ∷ Mark OpenBraceSign ∷ Phrase Triple ∷ Mark DotSign ∷
    Phrase Comp ∷ [])
    ∷ (Phrase Relation ∷ [])
    ∷ []
alternatives_of Parameters =
    ([])
    ∷ (Mark OpenParenSign ∷ Phrase Binder ∷ Mark ColonSign ∷ Phrase TypePhrase ∷ Mark CloseParenSign ∷
    Phrase Parameters ∷ [])
    ∷ []
alternatives_of Relation =
    (Phrase Sum ∷ [])
    ∷ (Phrase Sum ∷ Mark LessSign ∷ Phrase Sum ∷ [])
    ∷ []
alternatives_of Sum =
    (Phrase Product ∷ Phrase SumRest ∷ [])
    ∷ []
alternatives_of SumRest =
    ([])
    ∷ (Phrase SumSign ∷ Phrase Product ∷ Phrase SumRest ∷ [])
    ∷ []
alternatives_of Product =
    (Phrase Application ∷ Phrase ProductRest ∷ [])
    ∷ []
alternatives_of ProductRest =
    ([])
    ∷ (Phrase ProductSign ∷ Phrase Application ∷ Phrase ProductRest ∷ [])
    ∷ []
alternatives_of Application =
    (Phrase UnaryWord ∷ Phrase Atom ∷ [])
    ∷ (Phrase Atom ∷ Phrase Parts ∷ [])
    ∷ []
alternatives_of Parts =
    ([])
    ∷ (Phrase Atom ∷ Phrase Parts ∷ [])
    ∷ (Mark OpenBracketSign ∷ Phrase Mono ∷ Mark CloseBracketSign ∷ Phrase Parts ∷ [])
    ∷ []
alternatives_of Atom =
    (Name ∷ [])
    ∷ (Number ∷ [])
    ∷ (Word TrueWord ∷ [])
    ∷ (Word FalseWord ∷ [])
    ∷ (Word NullWord ∷ [])
    ∷ (Word PlaceWord ∷ Number ∷ [])
    ∷ (Word EqWord ∷ Phrase MonoInBrackets ∷ Mark OpenParenSign ∷ Phrase Term ∷ Mark CommaSign ∷ Phrase Term ∷
    Mark CloseParenSign ∷ [])
    ∷ (Word SelWord ∷ Phrase MonoInBrackets ∷ Mark OpenParenSign ∷ Phrase Term ∷ Mark CommaSign ∷ Phrase Term ∷
    Mark CommaSign ∷ Phrase Term ∷ Mark CloseParenSign ∷ [])
    ∷ (Mark OpenParenSign ∷ Mark CloseParenSign ∷ [])
    ∷ (Mark OpenParenSign ∷ Phrase Term ∷ Mark CloseParenSign ∷ [])
    ∷ (Mark OpenParenSign ∷ Phrase Term ∷ Mark CommaSign ∷ Phrase Term ∷ Mark CloseParenSign ∷ [])
    ∷ (Mark OpenParenSign ∷ Phrase Term ∷ Mark ColonSign ∷ Phrase TypePhrase ∷ Mark CloseParenSign ∷ [])
    ∷ []
alternatives_of Comp =
    (Word RetWord ∷ Phrase Term ∷ [])
    ∷ (Phrase Binder ∷ Mark LeftArrowSign ∷ Phrase Step ∷ Mark SemicolonSign ∷ Phrase Comp ∷ [])
    ∷ []
alternatives_of Step =
    (Word AllocWord ∷ Phrase MonoInBrackets ∷ Phrase Atom ∷ [])
    ∷ (Word GetWord ∷ Phrase MonoInBrackets ∷ Phrase Atom ∷ [])
    ∷ (Word SetWord ∷ Phrase MonoInBrackets ∷ Phrase Atom ∷ Phrase Atom ∷ [])
    ∷ (Word FreeWord ∷ Phrase MonoInBrackets ∷ Phrase Atom ∷ [])
    ∷ (Word IfWord ∷ Phrase MonoInBrackets ∷ Phrase Atom ∷ Mark OpenBraceSign ∷ Phrase Comp ∷ Mark CloseBraceSign ∷
    Mark OpenBraceSign ∷ Phrase Comp ∷ Mark CloseBraceSign ∷ [])
    ∷ (Word ClaimWord ∷ Mark OpenBraceSign ∷ Phrase Formula ∷ Mark CloseBraceSign ∷ [])
    ∷ (Phrase Application ∷ [])
    ∷ []
alternatives_of Formula =
    (Word AllWord ∷ Phrase Binder ∷ Mark ColonSign ∷ Phrase Sort ∷ Mark DotSign ∷ Phrase Formula ∷ [])
    ∷ (Word ExWord ∷ Phrase Binder ∷ Mark ColonSign ∷ Phrase Sort ∷ Mark DotSign ∷ Phrase Formula ∷ [])
    ∷ (Phrase Disjunction ∷ [])
    ∷ (Phrase Disjunction ∷ Mark ImpliesSign ∷ Phrase Formula ∷ [])
    ∷ []
alternatives_of Sort =
    (Phrase Mono ∷ [])
    ∷ (Word HeapWord ∷ [])
    ∷ []
alternatives_of Disjunction =
    (Phrase Conjunction ∷ [])
    ∷ (Phrase Conjunction ∷ Mark OrSign ∷ Phrase Disjunction ∷ [])
    ∷ []
alternatives_of Conjunction =
    (Phrase Separation ∷ [])
    ∷ (Phrase Separation ∷ Mark AndSign ∷ Phrase Conjunction ∷ [])
    ∷ []
alternatives_of Separation =
    (Phrase FormulaAtom ∷ [])
    ∷ (Phrase FormulaAtom ∷ Mark DoubleStarSign ∷ Phrase Separation ∷ [])
    ∷ []
alternatives_of FormulaAtom =
    (Word TtWord ∷ [])
    ∷ (Word FfWord ∷ [])
    ∷ (Word EmpWord ∷ [])
    ∷ (Mark OpenBracketSign ∷ Phrase Formula ∷ Mark CloseBracketSign ∷ [])
    ∷ (Mark AtSign ∷ Phrase Heap ∷ Mark OpenBracketSign ∷ Phrase Formula ∷ Mark CloseBracketSign ∷ [])
    ∷ (Word CapitalEmpWord ∷ Mark OpenParenSign ∷ Phrase Heap ∷ Mark CloseParenSign ∷ [])
    ∷ (Word SameWord ∷ Mark OpenParenSign ∷ Phrase Heap ∷ Mark CommaSign ∷ Phrase Heap ∷ Mark CloseParenSign ∷ [])
    ∷ (Word JoinWord ∷ Mark OpenParenSign ∷ Phrase Heap ∷ Mark CommaSign ∷ Phrase Heap ∷ Mark CommaSign ∷ Phrase Heap ∷
    Mark CloseParenSign ∷ [])
    ∷ (Word CellWord ∷ Phrase MonoInBrackets ∷ Mark OpenParenSign ∷ Phrase Heap ∷ Mark CommaSign ∷ Phrase Term ∷
    Mark CommaSign ∷ Phrase Term ∷ Mark CloseParenSign ∷ [])
    ∷ (Word BlockWord ∷ Phrase MonoInBrackets ∷ Mark OpenParenSign ∷ Phrase Heap ∷ Mark CommaSign ∷ Phrase Term ∷
    Mark CloseParenSign ∷ [])
    ∷ (Mark BangSign ∷ Name ∷ Phrase Monos ∷ Mark OpenParenSign ∷ Phrase Terms ∷ Mark CloseParenSign ∷ [])
    ∷ (Mark BangSign ∷ Name ∷ Mark OpenParenSign ∷ Phrase Term ∷ Mark SemicolonSign ∷ Phrase Terms ∷
    Mark CloseParenSign ∷ [])
    ∷ (Mark BangSign ∷ Name ∷ Mark AtSign ∷ Phrase Heap ∷ Mark OpenParenSign ∷ Phrase Term ∷ Mark SemicolonSign ∷
    Phrase Terms ∷ Mark CloseParenSign ∷ [])
    ∷ (Phrase Relation ∷ Mark EqualSign ∷ Phrase MonoInBrackets ∷ Phrase Relation ∷ [])
    ∷ (Phrase Relation ∷ Mark PointsToSign ∷ Phrase MonoInBrackets ∷ Phrase Relation ∷ [])
    ∷ (Phrase Relation ∷ Mark PointsToSign ∷ Phrase MonoInBrackets ∷ Mark UnderscoreSign ∷ [])
    ∷ []
alternatives_of Terms =
    ([])
    ∷ (Phrase Term ∷ Phrase TermsAfter ∷ [])
    ∷ []
alternatives_of TermsAfter =
    ([])
    ∷ (Mark CommaSign ∷ Phrase Term ∷ Phrase TermsAfter ∷ [])
    ∷ []
alternatives_of Argument =
    (Mark AtSign ∷ Phrase Heap ∷ [])
    ∷ (Phrase Term ∷ [])
    ∷ []
alternatives_of Arguments =
    ([])
    ∷ (Phrase Argument ∷ Phrase ArgumentsAfter ∷ [])
    ∷ []
alternatives_of ArgumentsAfter =
    ([])
    ∷ (Mark CommaSign ∷ Phrase Argument ∷ Phrase ArgumentsAfter ∷ [])
    ∷ []
alternatives_of Motive =
    (Phrase Binder ∷ Mark DotSign ∷ Mark OpenBracketSign ∷ Phrase Formula ∷ Mark CloseBracketSign ∷ [])
    ∷ []
alternatives_of Proof =
    (Phrase End ∷ [])
    ∷ (Phrase Statement ∷ Phrase Proof ∷ [])
    ∷ []
alternatives_of Statement =
    (Word IntroWord ∷ Name ∷ Mark SemicolonSign ∷ [])
    ∷ (Word GenWord ∷ Phrase Binder ∷ Mark SemicolonSign ∷ [])
    ∷ (Word OpenWord ∷ Phrase Binder ∷ Name ∷ Mark EqualSign ∷ Phrase Proof ∷ Mark SemicolonSign ∷ [])
    ∷ (Word HaveWord ∷ Name ∷ Mark ColonSign ∷ Mark OpenBracketSign ∷ Phrase Formula ∷ Mark CloseBracketSign ∷
    Mark EqualSign ∷ Phrase Proof ∷ Mark SemicolonSign ∷ [])
    ∷ []
alternatives_of End =
    (Name ∷ [])
    ∷ (Word TrivialWord ∷ [])
    ∷ (Word ReflWord ∷ [])
    ∷ (Phrase UnaryRule ∷ Mark OpenParenSign ∷ Phrase Proof ∷ Mark CloseParenSign ∷ [])
    ∷ (Word BothWord ∷ Mark OpenParenSign ∷ Phrase Proof ∷ Mark CommaSign ∷ Phrase Proof ∷ Mark CloseParenSign ∷ [])
    ∷ (Word GiveWord ∷ Mark OpenParenSign ∷ Phrase Argument ∷ Mark CommaSign ∷ Phrase Proof ∷ Mark CloseParenSign ∷ [])
    ∷ (Word AppWord ∷ Mark OpenParenSign ∷ Phrase Proof ∷ Mark CommaSign ∷ Phrase Proof ∷ Phrase ProofsAfter ∷
    Mark CloseParenSign ∷ [])
    ∷ (Word InstWord ∷ Mark OpenParenSign ∷ Phrase Proof ∷ Mark CommaSign ∷ Phrase Argument ∷ Phrase ArgumentsAfter ∷
    Mark CloseParenSign ∷ [])
    ∷ (Word CaseWord ∷ Mark OpenParenSign ∷ Phrase Proof ∷ Mark CommaSign ∷ Name ∷ Mark DotSign ∷ Phrase Proof ∷
    Mark CommaSign ∷ Name ∷ Mark DotSign ∷ Phrase Proof ∷ Mark CloseParenSign ∷ [])
    ∷ (Word RewriteWord ∷ Mark OpenParenSign ∷ Phrase Proof ∷ Mark CommaSign ∷ Phrase Motive ∷ Mark CommaSign ∷
    Phrase Proof ∷ Mark CloseParenSign ∷ [])
    ∷ (Word InductWord ∷ Mark OpenParenSign ∷ Phrase Motive ∷ Mark CommaSign ∷ Phrase Term ∷ Mark CommaSign ∷
    Phrase Proof ∷ Mark CommaSign ∷ Phrase Binder ∷ Name ∷ Name ∷ Mark DotSign ∷ Phrase Proof ∷ Mark CloseParenSign ∷
    [])
    ∷ (Word SplitWord ∷ Mark OpenParenSign ∷ Phrase Motive ∷ Mark CommaSign ∷ Phrase Term ∷ Mark CommaSign ∷
    Phrase Proof ∷ Mark CommaSign ∷ Phrase Proof ∷ Mark CloseParenSign ∷ [])
    ∷ (Word AxiomWord ∷ Name ∷ Phrase Monos ∷ Mark OpenParenSign ∷ Phrase Arguments ∷ Mark CloseParenSign ∷ [])
    ∷ (Word AxiomWord ∷ Name ∷ Mark DotSign ∷ Number ∷ Mark OpenParenSign ∷ Phrase Argument ∷ Phrase ArgumentsAfter ∷
    Mark CloseParenSign ∷ [])
    ∷ (Word LemWord ∷ Mark OpenBracketSign ∷ Phrase Formula ∷ Mark CloseBracketSign ∷ [])
    ∷ (Word TheWord ∷ Mark OpenBracketSign ∷ Phrase Formula ∷ Mark CloseBracketSign ∷ Mark OpenParenSign ∷
    Phrase Proof ∷ Mark CloseParenSign ∷ [])
    ∷ []
alternatives_of ProofsAfter =
    ([])
    ∷ (Mark CommaSign ∷ Phrase Proof ∷ Phrase ProofsAfter ∷ [])
    ∷ []
alternatives_of NamesAfter =
    ([])
    ∷ (Mark CommaSign ∷ Name ∷ Phrase NamesAfter ∷ [])
    ∷ []
alternatives_of Names =
    ([])
    ∷ (Mark OpenBracketSign ∷ Name ∷ Phrase NamesAfter ∷ Mark CloseBracketSign ∷ [])
    ∷ []
alternatives_of MonoParameter =
    (Name ∷ Mark ColonSign ∷ Phrase Mono ∷ [])
    ∷ []
alternatives_of MonoParametersAfter =
    ([])
    ∷ (Mark CommaSign ∷ Phrase MonoParameter ∷ Phrase MonoParametersAfter ∷ [])
    ∷ []
alternatives_of MonoParameters =
    (Mark OpenParenSign ∷ Mark CloseParenSign ∷ [])
    ∷ (Mark OpenParenSign ∷ Phrase MonoParameter ∷ Phrase MonoParametersAfter ∷ Mark CloseParenSign ∷ [])
    ∷ []
alternatives_of Body =
    (Word AutoWord ∷ [])
    ∷ (Phrase Proof ∷ [])
    ∷ []
alternatives_of Declaration =
    (Word TypeWord ∷ Name ∷ Mark EqualSign ∷ Phrase Mono ∷ [])
    ∷ (Word PredWord ∷ Name ∷ Phrase Names ∷ Phrase MonoParameters ∷ Mark EqualSign ∷ Phrase Formula ∷ [])
    ∷ (Word PredWord ∷ Name ∷ Word InductWord ∷ Phrase Binder ∷ Phrase MonoParameters ∷ Mark EqualSign ∷
    Mark OpenBraceSign ∷ Phrase Formula ∷ Mark CloseBraceSign ∷ Mark OpenBraceSign ∷ Phrase Formula ∷
    Mark CloseBraceSign ∷ [])
    ∷ (Word DefWord ∷ Name ∷ Mark ColonSign ∷ Phrase TypePhrase ∷ Mark EqualSign ∷ Phrase Term ∷ [])
    ∷ (Word ValWord ∷ Name ∷ Mark ColonSign ∷ Phrase TypePhrase ∷ Mark EqualSign ∷ Phrase Term ∷ [])
    ∷ (Word ProofWord ∷ Name ∷ Mark DotSign ∷ Number ∷ Mark EqualSign ∷ Phrase Body ∷ [])
    ∷ []
alternatives_of File =
    ([])
    ∷ (Phrase Declaration ∷ Phrase File ∷ [])
    ∷ []

-- each nonterminal once, after those of which one alone may make up a phrase of it
abbrev pub every_nonterminal : List Nonterminal
every_nonterminal =
    Binder ∷ MonoName ∷ SumSign ∷ ProductSign ∷ UnaryWord ∷ UnaryRule ∷ HeapNumber ∷ Heap ∷ Factor ∷ Mono ∷
    MonoInBrackets ∷ MonosAfter ∷ Monos ∷ TypePhrase ∷ Triple ∷ Atom ∷ Application ∷ Product ∷ Sum ∷ Relation ∷ Term ∷
    Parameters ∷ SumRest ∷ ProductRest ∷ Parts ∷ Comp ∷ Step ∷ FormulaAtom ∷ Separation ∷ Conjunction ∷ Disjunction ∷
    Formula ∷ Sort ∷ Terms ∷ TermsAfter ∷ Argument ∷ Arguments ∷ ArgumentsAfter ∷ Motive ∷ End ∷ Proof ∷ Statement ∷
    ProofsAfter ∷ NamesAfter ∷ Names ∷ MonoParameter ∷ MonoParametersAfter ∷ MonoParameters ∷ Body ∷ Declaration ∷
    File ∷ []
