-- What is printed at a place, with brackets or without, is read as what the grammar has at that place.
use Rattle.std.specs.Prelude.{ℕ}
use Rattle.htt_syntax.specs.Trees.{MonoTree, TermTree, FormulaTree}
use Rattle.theory_text_names.specs.Scopes.{Scope}
use Rattle.theory_printing.specs.Pieces.{Printed}
use Rattle.theory_printing.specs.Brackets.{Form, a_side, an_operand, a_run, a_head}
use Rattle.theory_printing_tokens.specs.Spoken.{Spoken}
use Rattle.theory_printing_forms.specs.Readings.{ReadsFactor, MonoRead, mono_at, ReadsRel, ReadsAppl, ReadsAtom, ReadsHead}
use Rattle.theory_printing_forms.specs.Readings.{term_at, IsRead, ReadsFatom, FormulaRead, formula_at}

pub record BracketsFit : Type 0 where
  pub monotypes : (r : Scope) (p : Printed) (told : MonoTree) (form : Form) (l : ℕ)
      → ((v : Spoken r.text p) → MonoRead r l p v told form)
      → (v : Spoken r.text (mono_at form p))
      → ReadsFactor r l (mono_at form p) v told
  pub operands : (r : Scope) (p : Printed) (told : TermTree) (arguments : ℕ) (form : Form) (l : ℕ)
      → IsRead r p told arguments form
      → (v : Spoken r.text (term_at an_operand form p))
      → ReadsAtom r l (term_at an_operand form p) v told
  pub heads : (r : Scope) (p : Printed) (told : TermTree) (arguments : ℕ) (form : Form) (l : ℕ)
      → IsRead r p told arguments form
      → (v : Spoken r.text (term_at a_head form p))
      → ReadsHead r l (term_at a_head form p) v told arguments
  pub runs : (r : Scope) (p : Printed) (told : TermTree) (arguments : ℕ) (form : Form) (l : ℕ)
      → IsRead r p told arguments form
      → (v : Spoken r.text (term_at a_run form p))
      → ReadsAppl r l (term_at a_run form p) v told
  pub sides : (r : Scope) (p : Printed) (told : TermTree) (arguments : ℕ) (form : Form) (l : ℕ)
      → IsRead r p told arguments form
      → (v : Spoken r.text (term_at a_side form p))
      → ReadsRel r l (term_at a_side form p) v told
  pub formulas : (r : Scope) (p : Printed) (told : FormulaTree) (form : Form) (l : ℕ)
      → ((k : ℕ) (v : Spoken r.text p) → FormulaRead r k p v told form)
      → (v : Spoken r.text (formula_at form p))
      → ReadsFatom r l (formula_at form p) v told
