-- The shapes of types, after renaming, substitution and filling.
use Rattle.std.proofs.Common.{◌≡◌, ℕ, zero, suc, ◌∷◌, refl, sym, ap, ◌∙◌, subst}
use Rattle.htt_syntax.specs.Trees.{MonoTree, TyTree, TermTree, triple, m_word, m_bool, m_loc, m_unit, m_pair, m_var, y_mono, y_fun, y_all, y_hoare, y_at}
use Rattle.theory_renaming.specs.Renaming.{Map, lift, rename_mono, rename_ty}
use Rattle.theory_canonical.specs.Skeletons.{Skeleton}
use Rattle.theory_substitution.specs.Closing.{closing}
use Rattle.theory_substitution.specs.Monotypes.{Filling, next_filling, fill_mono, fill_ty}
use Rattle.theory_substitution.specs.Substitution.{SubTy, u_y_mono, u_y_fun, u_y_all, u_y_hoare, u_triple}
use Rattle.theory_typing.specs.Positions.{plain_ty}
use Rattle.theory_typing.specs.Contexts.{Context, HasEntryType, type_here, type_there}
use Rattle.theory_formed_shapes.specs.Shapes.{Shape, sh_mono, sh_fun, sh_all, sh_comp, fill_shape, renaming_of, dropping, shape_of, in_term, HasShape}
use Rattle.theory_formed_shapes.specs.Shapes.{shape_here, shape_there, entry_shape, shapes_of}
use Rattle.theory_formed_shapes.proofs.Fillings.{mono_renamed, next_renaming, both_ways}

mono_back : (t : MonoTree) → fill_mono dropping (rename_mono suc t) ≡ t
unfolding fill_mono dropping rename_mono
mono_back m_word = refl
mono_back m_bool = refl
mono_back m_loc = refl
mono_back m_unit = refl
mono_back (m_pair left right) = λ j. m_pair (mono_back left j) (mono_back right j)
mono_back (m_var index) = refl

-- what is left out stays out
dropped_after : (f : Filling) (A : Shape) → fill_shape dropping (fill_shape (next_filling f) A) ≡ fill_shape f (fill_shape dropping A)
unfolding fill_mono next_filling dropping
dropped_after f A = both_ways (next_filling f) dropping dropping f go A
  where
    go : (n : ℕ) → fill_mono dropping (next_filling f n) ≡ fill_mono f (dropping n)
    go zero = refl
    go (suc n) = mono_back (f n)

pub shape_filled : (f : Filling) (m : Map) (A : TyTree) → shape_of (fill_ty f m A) ≡ fill_shape f (shape_of A)
unfolding shape_of fill_ty fill_shape
shape_filled f m (y_mono mono) = refl
shape_filled f m (y_fun argument answer) = λ j.
    sh_fun (shape_filled f m argument j)
    ((ap (fill_shape dropping) (shape_filled (next_filling f) (lift m) answer) ∙ dropped_after f (shape_of answer)) j)
shape_filled f m (y_all body) = ap sh_all (shape_filled (next_filling f) (lift m) body)
shape_filled f m (y_hoare (triple pre mono post)) = refl
shape_filled f m (y_at at ty) = shape_filled f m ty

lifted_shape : (m : Map) (A : Shape) → fill_shape (renaming_of (lift m)) A ≡ fill_shape (next_filling (renaming_of m)) A
lifted_shape m A = ap (λ (f : Filling). fill_shape f A) (sym (next_renaming m))

pub shape_renamed : (m : Map) (A : TyTree) → shape_of (rename_ty m A) ≡ fill_shape (renaming_of m) (shape_of A)
unfolding shape_of rename_ty fill_shape
shape_renamed m (y_mono mono) = ap sh_mono (sym (mono_renamed m mono))
shape_renamed m (y_fun argument answer) = λ j.
    sh_fun (shape_renamed m argument j)
    ((ap (fill_shape dropping) (shape_renamed (lift m) answer ∙ lifted_shape m (shape_of answer))
    ∙ dropped_after (renaming_of m) (shape_of answer)) j)
shape_renamed m (y_all body) = ap sh_all (shape_renamed (lift m) body ∙ lifted_shape m (shape_of body))
shape_renamed m (y_hoare (triple pre mono post)) = ap sh_comp (sym (mono_renamed m mono))
shape_renamed m (y_at at ty) = shape_renamed m ty

pub shape_put : {new : TermTree} {s : Skeleton} {x : ℕ} {A R : TyTree} → SubTy new s x A R → shape_of R ≡ fill_shape (renaming_of (closing x)) (shape_of A)
unfolding shape_of fill_shape closing
shape_put {x = x} (u_y_mono {mono = mono}) = ap sh_mono (sym (mono_renamed (closing x) mono))
shape_put {x = x} (u_y_fun {answer = answer} a b) = λ j.
    sh_fun (shape_put a j) ((ap (fill_shape dropping) (shape_put b ∙ lifted_shape (closing x) (shape_of answer))
    ∙ dropped_after (renaming_of (closing x)) (shape_of answer)) j)
shape_put {x = x} (u_y_all {body = body} a) = ap sh_all (shape_put a ∙ lifted_shape (closing x) (shape_of body))
shape_put {x = x} (u_y_hoare (u_triple {mono = mono} a b)) = ap sh_comp (sym (mono_renamed (closing x) mono))

pub shape_plain : (A : TyTree) → shape_of (plain_ty A) ≡ shape_of A
unfolding shape_of plain_ty
shape_plain (y_mono mono) = refl
shape_plain (y_fun argument answer) = λ j. sh_fun (shape_plain argument j) (fill_shape dropping (shape_plain answer j))
shape_plain (y_all body) = ap sh_all (shape_plain body)
shape_plain (y_hoare (triple pre mono post)) = refl
shape_plain (y_at at ty) = shape_plain ty

pub entry_has_shape : {g : Context} {n : ℕ} {A : TyTree} → HasEntryType g n A → HasShape (shapes_of g) n (shape_of A)
entry_has_shape (type_here {g = g} {ty = ty}) = subst (HasShape (in_term (shape_of ty) ∷ shapes_of g) zero) (sym (shape_renamed suc ty)) shape_here
entry_has_shape (type_there {g = g} {entry = entry} {n = n} {ty = ty} i) =
    subst (HasShape (entry_shape entry ∷ shapes_of g) (suc n)) (sym (shape_renamed suc ty)) (shape_there (entry_has_shape i))
