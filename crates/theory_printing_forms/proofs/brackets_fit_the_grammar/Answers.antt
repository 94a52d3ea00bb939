use Rattle.theory_printing_forms.proofs.Forms.{factor_at, atom_at, head_at, run_at, side_at, fatom_at}
use Rattle.theory_printing_forms.proofs.brackets_fit_the_grammar.Goals as goal

pub returns : goal.returns
returns c = record {
  law = record {
    monotypes = λ r p told form l h v. factor_at form h v;
    operands = λ r p told arguments form l h v. atom_at form l h v;
    heads = λ r p told arguments form l h v. head_at form l h v;
    runs = λ r p told arguments form l h v. run_at form l h v;
    sides = λ r p told arguments form l h v. side_at form l h v;
    formulas = λ r p told form l h v. fatom_at form l h v;
  };
}
