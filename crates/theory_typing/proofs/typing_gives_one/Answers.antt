use Rattle.std.proofs.Common.{refl}
use Rattle.theory_typing.proofs.Once.{ty_formed_once, formula_formed_once, gives_once, fits_once, body_once}
use Rattle.theory_typing.proofs.typing_gives_one.Goals as goal

pub returns : goal.returns
returns c = record {
  law = record {
    types = λ env g ty r q a b. ty_formed_once env refl a b;
    formulas = λ env g F r q a b. formula_formed_once env refl a b;
    given = λ env m g M r q A B o p a b. gives_once env refl a b;
    fitting = λ env m g M r q A o p a b. fits_once env refl refl a b;
    bodies = λ env g E r q spec o p a b. body_once env refl refl a b;
  };
}
