-- A formed environment is sound.
use Rattle.std.proofs.Common.{List, subst}
use Rattle.htt_syntax.specs.Trees.{FormulaTree}
use Rattle.theory_truth.specs.Predicates.{RecTree}
use Rattle.theory_canonical.specs.Contexts.{Standing, Heads}
use Rattle.theory_canonical.specs.Canonical.{IsCanonicalFormula}
use Rattle.theory_typing.specs.Contexts.{Context, Environment}
use Rattle.theory_typing_canonical.specs.Environments.{standings, heads_of}
use Rattle.theory_items.specs.Items.{zero_context, next_context}
use Rattle.theory_items_sound.specs.Environments.{IsSoundRec, SoundEnvironment}
use Rattle.theory_formed_shapes.specs.Shapes.{shapes_of}
use Rattle.theory_formed_shapes.specs.Formed.{file_shapes, IsFormedFormula}
use Rattle.theory_formed_canonical.specs.Laws.{bare_heads}
use Rattle.theory_formed_canonical.proofs.Bare.{formula_bare, context_bare, file_bare, environment_bare}
use Rattle.theory_formed_items.specs.Environments.{IsFormedRec, IsFormedEnvironment}

body_canonical : (env : Environment) (g : Context) (F : FormulaTree)
    → IsFormedFormula (file_shapes env) (shapes_of g) F
    → IsCanonicalFormula (heads_of env) (standings g) F
body_canonical env g F d =
    subst (λ (h : Heads). IsCanonicalFormula h (standings g) F) (file_bare env)
    (subst (λ (l : List Standing). IsCanonicalFormula (bare_heads (file_shapes env)) l F) (context_bare g) (formula_bare d))

rec_sound : (env : Environment) (r : RecTree) → IsFormedRec (file_shapes env) r → IsSoundRec (heads_of env) r
rec_sound env r d = record {
  at_zero = body_canonical env (zero_context r.params) r.at_zero d.at_zero;
  at_next = body_canonical env (next_context r.params) r.at_next d.at_next;
}

pub formed_sound : (env : Environment) → IsFormedEnvironment env → SoundEnvironment env
formed_sound env known = record {
  canonical = environment_bare env known.forms;
  vals_end = known.vals_end;
  defs_formed = known.forms.def_terms;
  recs_sound = λ n r q. rec_sound env r (known.recs_formed n r q);
  recs_founded = known.recs_founded;
}
