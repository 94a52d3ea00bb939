-- What a file says of an environment with one more value or predicate.
use Rattle.std.proofs.Common.{◌≡◌, ℕ, List, [], ◌∷◌, ◌++◌, map, Some, sym, subst}
use Rattle.std.specs.Prelude.{slice_get}
use Rattle.std.proofs.lemmas.List.{map-append}
use Rattle.htt_syntax.specs.Trees.{TyTree}
use Rattle.theory_truth.specs.Predicates.{RecTree}
use Rattle.theory_typing.specs.Contexts.{Environment}
use Rattle.theory_items.specs.Items.{with_val, with_rec}
use Rattle.theory_items.proofs.Lists.{get_more}
use Rattle.theory_formed_shapes.specs.Shapes.{shape_of}
use Rattle.theory_formed_shapes.specs.Formed.{file_shapes}
use Rattle.theory_formed_shapes.proofs.More.{HasFile}

mapped_more : {A B : Type 0} (f : A → B) (xs ys : List A) (n : ℕ) (y : B) → slice_get (map f xs) n ≡ Some y → slice_get (map f (xs ++ ys)) n ≡ Some y
mapped_more f xs ys n y q = subst (λ l. slice_get l n ≡ Some y) (sym (map-append f xs ys)) (get_more (map f xs) (map f ys) n y q)

pub val_file : (env : Environment) (ty : TyTree) → HasFile (file_shapes env) (file_shapes (with_val env ty))
val_file env ty = record { vals = λ n s q. mapped_more shape_of env.vals (ty ∷ []) n s q; made = λ n m q. q; recs = λ n ts q. q }

pub rec_file : (env : Environment) (r : RecTree) → HasFile (file_shapes env) (file_shapes (with_rec env r))
rec_file env r = record { vals = λ n s q. q; made = λ n m q. q; recs = λ n ts q. mapped_more (λ (r : RecTree). r.params) env.recs (r ∷ []) n ts q }
