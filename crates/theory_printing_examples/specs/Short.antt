-- Short forms for trees and scopes that are written out.
use Rattle.std.specs.Prelude.{ℕ, List, [], ◌∷◌, codes}
use Rattle.htt_syntax.specs.Trees.{MonoTree, TyTree, TermTree, FixTree, StepTree, FormulaTree, ProofTree, m_word}
use Rattle.htt_syntax.specs.Trees.{y_mono}
use Rattle.htt_syntax.specs.Trees.{triple, t_var, t_val, t_word, t_app, t_do, t_bin, x_param, x_body, c_ret, c_step}
use Rattle.htt_syntax.specs.Trees.{f_tt, f_same, f_emp}
use Rattle.htt_syntax.specs.declared.mono.Op.TheVariants.{Add}
use Rattle.theory_text_names.specs.Scopes.{Sort, a_mono, a_term, a_heap}
use Rattle.theory_printing.specs.Pieces.{bytes_of}
use Rattle.theory_printing.specs.Names.{PrintScope}
use Rattle.theory_printing.specs.Phrases.{mono, ty, term, step, formula}
use Rattle.theory_printing.specs.Proofs.{proof}

abbrev pub among : List Sort → PrintScope
among entries =
    record { entries = entries; hypotheses = 1; vals = codes "f" ∷ codes "main" ∷ []; recs = codes "lst" ∷ [] }

-- the entries _a0, _x1 and _h2, so that index 0 is _h2, 1 is _x1 and 2 is _a0; the hypothesis _u0
abbrev pub s : PrintScope
s = among (a_heap ∷ a_term ∷ a_mono ∷ [])

abbrev pub of_mono : MonoTree → List ℕ
of_mono t = bytes_of (mono s t)

abbrev pub of_ty : TyTree → List ℕ
of_ty A = bytes_of (ty s A)

abbrev pub of_term : TermTree → List ℕ
of_term M = bytes_of (term s M)

abbrev pub of_step : StepTree → List ℕ
of_step S = bytes_of (step s S)

abbrev pub of_formula : FormulaTree → List ℕ
of_formula F = bytes_of (formula s F)

abbrev pub of_proof : ProofTree → List ℕ
of_proof p = bytes_of (proof s p)

abbrev pub x : TermTree
x = t_var 1

abbrev pub f : TermTree
f = t_val 0

abbrev pub one_and_two : TermTree
one_and_two = t_bin Add (t_word 1) (t_word 2)

abbrev pub do_one : TermTree
do_one = t_do (c_ret (t_word 1))

-- of a word, with its own name and this parameter in its body
abbrev pub a_fix : FixTree
a_fix = x_param (y_mono m_word) (x_body (triple f_tt m_word (f_same 1 0)) (c_ret (t_app (t_var 0) (t_var 1))))
