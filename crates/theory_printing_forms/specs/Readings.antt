-- When printed tokens are read as a tree of the grammar: the tokens fit the tree's marks, with the printed levels and
-- operands, and the tree comes to what is told. And what a phrase is read as at a place, where brackets may stand.
use Rattle.std.specs.Prelude.{◌≡◌, ℕ, zero, suc, List, [], ◌∷◌, Option, Some, None, Result, Ok, if◌then◌else◌}
use Rattle.htt_lexer_tokens.specs.declared.tokens.Token.{Token}
use Rattle.htt_syntax.specs.Trees.{MonoTree, TyTree, TermTree, FormulaTree}
use Rattle.htt_parser_trees.specs.Trees as raw
use Rattle.theory_grammar.specs.Marks.{Mark, FitsMark, ◌⨟◌}
use Rattle.theory_grammar.specs.Grammar as grammar
use Rattle.theory_text_names.specs.Stops.{Stop}
use Rattle.theory_text_names.specs.Scopes.{Scope}
use Rattle.theory_text.specs.Bytes.{byte_of_atom}
use Rattle.theory_text.specs.Monotypes.{factor_comes, mono_comes}
use Rattle.theory_text.specs.Phrases.{ty_comes, term_comes, rel_comes, appl_comes, parts_come, atom_comes, formula_comes}
use Rattle.theory_text.specs.Phrases.{fatom_comes}
use Rattle.theory_printing.specs.Pieces.{Printed, deeper, in_parens, in_brackets, marks_of}
use Rattle.theory_printing.specs.Brackets.{Form, an_atom, an_application, a_prefixed, an_operation, a_binding, Place}
use Rattle.theory_printing.specs.Brackets.{an_operand, needs_brackets}
use Rattle.theory_printing_tokens.specs.Spoken.{Spoken, tokens_of}
use Rattle.theory_printing_forms.specs.Said.{said_ty, said_term, said_formula}

-- ---- tokens side by side with the marks of what was printed and those of a tree

pub record MeetsMark (t : Token) (m g : Mark) : Type 0 where
  pub fits : FitsMark t g
  pub level : g.level ≡ m.level
  pub operand : g.operand ≡ m.operand

abbrev pub Meets : List Token → List Mark → List Mark → Type 0
Meets [] [] [] = Unit {0}
Meets (t ∷ ts) (m ∷ ms) (g ∷ gs) = MeetsMark t m g × Meets ts ms gs
Meets _ _ _ = ⊥

-- the tokens of a printed piece at a level meet these marks
pub record MeetsPrinted (text : List ℕ) (l : ℕ) (p : Printed) (v : Spoken text p) (gs : List Mark) : Type 0 where
  pub meets : Meets (tokens_of text p v) (marks_of l p) gs

-- ---- what is read

-- a printed piece is read as a tree of the grammar, which comes to what is told
pub record Reads {Raw Tree : Type 0} (spell : Raw → List Mark) (reading : Raw → Result Tree Stop) (said : Tree → Tree)
    (text : List ℕ) (l : ℕ) (p : Printed) (v : Spoken text p) (told : Tree) : Type 0 where
  pub tree : Raw
  pub meets : MeetsPrinted text l p v (spell tree)
  pub given : Tree
  pub comes : reading tree ≡ Ok given
  pub same : said given ≡ told

abbrev pub as_it_is : {Tree : Type 0} → Tree → Tree
as_it_is tree = tree

abbrev pub ReadsMono : (r : Scope) (l : ℕ) (p : Printed) → Spoken r.text p → MonoTree → Type 0
ReadsMono r l p v told = Reads (grammar.mono l) (mono_comes r) as_it_is r.text l p v told

abbrev pub ReadsFactor : (r : Scope) (l : ℕ) (p : Printed) → Spoken r.text p → MonoTree → Type 0
ReadsFactor r l p v told = Reads (grammar.factor l) (factor_comes r) as_it_is r.text l p v told

abbrev pub NaturalMono : (r : Scope) (l : ℕ) (p : Printed) → Spoken r.text p → MonoTree → Form → Type 0
NaturalMono r l p v told an_atom = ReadsFactor r l p v told
NaturalMono r l p v told _ = ReadsMono r l p v told

-- a printed monotype that is read as what it is
pub record MonoRead (r : Scope) (l : ℕ) (p : Printed) (v : Spoken r.text p) (told : MonoTree) (form : Form) : Type 0 where
  pub natural : NaturalMono r l p v told form

abbrev pub mono_at : Form → Printed → Printed
mono_at form p = if needs_brackets an_operand form then in_parens p else p

abbrev pub ReadsTerm : (r : Scope) (l : ℕ) (p : Printed) → Spoken r.text p → TermTree → Type 0
ReadsTerm r l p v told = Reads (grammar.term l) (term_comes r) said_term r.text l p v told

abbrev pub ReadsRel : (r : Scope) (l : ℕ) (p : Printed) → Spoken r.text p → TermTree → Type 0
ReadsRel r l p v told = Reads (grammar.rel l) (rel_comes r) said_term r.text l p v told

abbrev pub ReadsAppl : (r : Scope) (l : ℕ) (p : Printed) → Spoken r.text p → TermTree → Type 0
ReadsAppl r l p v told = Reads (grammar.appl l) (appl_comes r) said_term r.text l p v told

abbrev pub ReadsAtom : (r : Scope) (l : ℕ) (p : Printed) → Spoken r.text p → TermTree → Type 0
ReadsAtom r l p v told = Reads (grammar.atom l) (atom_comes r) said_term r.text l p v told

abbrev pub count_parts : raw.RawPartTrees → ℕ
count_parts raw.no_parts = zero
count_parts (raw.atom_part a parts) = suc (count_parts parts)
count_parts (raw.mono_part t parts) = suc (count_parts parts)

-- a head with so many arguments
pub record ReadsHead (r : Scope) (l : ℕ) (p : Printed) (v : Spoken r.text p) (told : TermTree) (arguments : ℕ) : Type 0 where
  pub head : raw.RawAtomTree
  pub parts : raw.RawPartTrees
  pub count : count_parts parts ≡ arguments
  pub meets : MeetsPrinted r.text l p v (grammar.atom l head ⨟ grammar.parts l 2 parts)
  pub first : TermTree
  pub first_comes : atom_comes r head ≡ Ok first
  pub given : TermTree
  pub comes : parts_come r (byte_of_atom head) first parts ≡ Ok given
  pub same : said_term given ≡ told

abbrev pub NaturalTerm : (r : Scope) (l : ℕ) (p : Printed) → Spoken r.text p → TermTree → ℕ → Form → Type 0
NaturalTerm r l p v told arguments an_atom = ReadsAtom r l p v told × (arguments ≡ zero)
NaturalTerm r l p v told arguments an_application = ReadsHead r l p v told arguments
NaturalTerm r l p v told arguments a_prefixed = ReadsAppl r l p v told × (arguments ≡ zero)
NaturalTerm r l p v told arguments an_operation = ReadsRel r l p v told × (arguments ≡ zero)
NaturalTerm r l p v told arguments a_binding = ReadsTerm r l p v told × (arguments ≡ zero)

-- a printed term that is read as what it is
pub record TermRead (r : Scope) (l : ℕ) (p : Printed) (v : Spoken r.text p) (told : TermTree) (arguments : ℕ) (form : Form) : Type 0 where
  pub natural : NaturalTerm r l p v told arguments form

-- what is printed of a phrase of this form at a place
abbrev pub term_at : Place → Form → Printed → Printed
term_at place form p = if needs_brackets place form then in_parens (deeper p) else p

-- a printed term that is read at every level
abbrev pub IsRead : (r : Scope) (p : Printed) → TermTree → ℕ → Form → Type 0
IsRead r p told arguments form = (l : ℕ) (v : Spoken r.text p) → TermRead r l p v told arguments form

abbrev pub ReadsFormula : (r : Scope) (l : ℕ) (p : Printed) → Spoken r.text p → FormulaTree → Type 0
ReadsFormula r l p v told = Reads (grammar.formula l) (formula_comes r) said_formula r.text l p v told

abbrev pub ReadsFatom : (r : Scope) (l : ℕ) (p : Printed) → Spoken r.text p → FormulaTree → Type 0
ReadsFatom r l p v told = Reads (grammar.fatom l) (fatom_comes r) said_formula r.text l p v told

abbrev pub NaturalFormula : (r : Scope) (l : ℕ) (p : Printed) → Spoken r.text p → FormulaTree → Form → Type 0
NaturalFormula r l p v told an_atom = ReadsFatom r l p v told
NaturalFormula r l p v told _ = ReadsFormula r l p v told

-- a printed formula that is read as what it is
pub record FormulaRead (r : Scope) (l : ℕ) (p : Printed) (v : Spoken r.text p) (told : FormulaTree) (form : Form) : Type 0 where
  pub natural : NaturalFormula r l p v told form

abbrev pub formula_at : Form → Printed → Printed
formula_at form p = if needs_brackets an_operand form then in_brackets (deeper p) else p

abbrev pub ReadsTy : (r : Scope) (l : ℕ) (p : Printed) → Spoken r.text p → TyTree → Type 0
ReadsTy r l p v told = Reads (grammar.ty l) (ty_comes r) said_ty r.text l p v told
