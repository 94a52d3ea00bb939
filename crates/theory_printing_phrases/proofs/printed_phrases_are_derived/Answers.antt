use Rattle.theory_printing.specs.Brackets.{formula_form}
use Rattle.theory_printing_forms.proofs.Forms.{any_formula}
use Rattle.theory_printing_phrases.proofs.Phrases.{read_ty, read_formula}
use Rattle.theory_printing_phrases.proofs.printed_phrases_are_derived.Goals as goal

pub returns : goal.returns
returns c = record {
  law = record {
    types = λ counts s r A l names has v. read_ty names A has l v;
    formulas = λ counts s r F l names has v. any_formula (formula_form F) (read_formula names F has l v);
  };
}
