use Rattle.theory_typing_canonical.proofs.Typed.{formed_ty, formed_formula, given, fitted, body}
use Rattle.theory_typing_canonical.proofs.typing_gives_canonical.Goals as goal

pub returns : goal.returns
returns c = record {
  law = record {
    types = λ env g ty r k e d. formed_ty env k e d;
    formulas = λ env g F r k e d. formed_formula env k e d;
    given_types = λ env m g M r A o k e d. (given env k e d).ty;
    given_terms = λ env m g M r A o k e d. (given env k e d).term;
    given_owed = λ env m g M r A o k e d. (given env k e d).all;
    fitting = λ env m g M r A o k e t d. (fitted env k e t d).term;
    fitting_owed = λ env m g M r A o k e t d. (fitted env k e t d).all;
    bodies = λ env g E r spec o k e t d. (body env k e t d).0;
    bodies_owed = λ env g E r spec o k e t d. (body env k e t d).1;
  };
}
