-- Where brackets are printed: one table, by the place where a phrase stands and by what it is. A term and a monotype
-- are put in `( )`, a formula in `[ ]`.
use Rattle.std.specs.Prelude.{Bool, true, false, if◌then◌else◌}
use Rattle.htt_syntax.specs.Trees.{MonoTree, TermTree, FormulaTree, m_pair, t_app, t_inst, t_lam, t_lam_t, t_do, t_fix}
use Rattle.htt_syntax.specs.Trees.{t_fst, t_snd, t_not, t_bin, t_at, f_and, f_or, f_imp, f_all_t, f_ex_t, f_all_h}
use Rattle.htt_syntax.specs.Trees.{f_ex_h, f_at}
use Rattle.theory_printing.specs.Pieces.{Printed, deeper, in_parens, in_brackets}

-- What a phrase is: of one piece, or held together by its own brackets; a head with arguments; `fst`, `snd` or `not`
-- of a term; parts with a sign between them; what begins with a binder, or with `do`.
pub data Form : Type 0 where
  an_atom an_application a_prefixed an_operation a_binding : Form

-- Where it stands: a side of `=`; an operand of a sign or of `fst`, `snd`, `not`, an argument, or where the grammar has
-- an atom; what a step runs; what has arguments. Everywhere else nothing is put in brackets.
pub data Place : Type 0 where
  a_side an_operand a_run a_head : Place

unfoldable pub needs_brackets : Place → Form → Bool
needs_brackets place an_atom = false
needs_brackets a_side a_binding = true
needs_brackets a_side _ = false
needs_brackets an_operand _ = true
needs_brackets a_run an_application = false
needs_brackets a_run a_prefixed = false
needs_brackets a_run _ = true
needs_brackets a_head an_application = false
needs_brackets a_head _ = true

-- ---- what each phrase is; a position is passed over

abbrev pub mono_form : MonoTree → Form
mono_form (m_pair left right) = an_operation
mono_form _ = an_atom

unfoldable pub term_form : TermTree → Form
term_form (t_app function argument) = an_application
term_form (t_inst function mono) = an_application
term_form (t_fst pair) = a_prefixed
term_form (t_snd pair) = a_prefixed
term_form (t_not term) = a_prefixed
term_form (t_bin op left right) = an_operation
term_form (t_lam body) = a_binding
term_form (t_lam_t body) = a_binding
term_form (t_do comp) = a_binding
term_form (t_fix at fix) = a_binding
term_form (t_at at term) = term_form term
term_form _ = an_atom

unfoldable pub formula_form : FormulaTree → Form
formula_form (f_and left right) = an_operation
formula_form (f_or left right) = an_operation
formula_form (f_imp left right) = an_operation
formula_form (f_all_t mono body) = a_binding
formula_form (f_ex_t mono body) = a_binding
formula_form (f_all_h body) = a_binding
formula_form (f_ex_h body) = a_binding
formula_form (f_at at formula) = formula_form formula
formula_form _ = an_atom

-- ---- what is printed of a phrase at a place, from what is printed of it alone

abbrev pub mono_in : Place → MonoTree → Printed → Printed
mono_in place t printed = if needs_brackets place (mono_form t) then in_parens printed else printed

abbrev pub term_in : Place → TermTree → Printed → Printed
term_in place M printed = if needs_brackets place (term_form M) then in_parens (deeper printed) else printed

abbrev pub formula_in : Place → FormulaTree → Printed → Printed
formula_in place F printed = if needs_brackets place (formula_form F) then in_brackets (deeper printed) else printed
