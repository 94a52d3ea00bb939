-- The body of an instance with a formed key is formed under its parameters.
use Rattle.std.proofs.Common.{◌≡◌, ℕ, zero, suc, List, [], ◌∷◌, ◌++◌, length, Some, slice_get, refl, sym, ap, ◌∙◌, subst}
use Rattle.htt_syntax.specs.Trees.{MonoTree, TermTree, FixTree}
use Rattle.theory_renaming.specs.Renaming.{lifts, shifting}
use Rattle.theory_canonical.specs.Skeletons.{Skeleton}
use Rattle.theory_substitution.specs.Monotypes.{Filling}
use Rattle.theory_formed_shapes.specs.Shapes.{Shape, sh_mono, sh_fun, sh_all, sh_comp, shape_of, fill_shape, first_filled, renaming_of, dropping, in_term, Shapes}
use Rattle.theory_formed_shapes.specs.Formed.{FileShapes, IsFormedTerm, z_lam, z_do, IsFormedFix, z_param, z_body, IsFormedComp, IsFormedTy}
use Rattle.theory_formed_shapes.specs.Formed.{z_fun, z_hoare, IsClosedFile}
use Rattle.theory_formed_shapes.proofs.Fillings.{mono_renamed, up_dropped}
use Rattle.theory_formed_substitution.proofs.Put.{app_formed, instance_formed}
use Rattle.theory_formed_canonical.specs.Laws.{bare}
use Rattle.theory_instances.specs.Calls.{Argument, of_term, all_arguments, fix_ty}
use Rattle.theory_instances.specs.Bodies.{Puts, puts_none, puts_term, puts_mono, opened_fix}
use Rattle.theory_formed_met.proofs.Occurring.{EachMet}
use Rattle.theory_instances.specs.Occurrences.{Occurrence}
use Rattle.theory_instances_formed.specs.Formed.{IsFixedShape, FormedFixed, fixed_end, fixed_value, fixed_term, fixed_mono}
use Rattle.theory_instances_formed.proofs.Sites.{FormedArguments, arguments_none, arguments_term, arguments_mono, FormedPassed, passed_none, passed_more}
use Rattle.theory_instances_formed.proofs.Sites.{bare_filled}
use Rattle.theory_instances_formed.proofs.Variables.{past_some}

-- what is left of a formed function after formed arguments is formed
pub put_formed : {file : FileShapes} {g : Shapes} {function last : TermTree} {k : Skeleton} {s u : Shape} {arguments : List Argument} {results : List TermTree}
    → IsClosedFile file
    → Puts function k arguments results last
    → IsFormedTerm file g function s
    → FormedArguments file g s arguments u
    → IsFormedTerm file g last u
put_formed c puts_none d arguments_none = d
put_formed c (puts_term a rest) d (arguments_term e more) = put_formed c rest (app_formed a d e c) more
put_formed c (puts_mono rest) d (arguments_mono m more) = put_formed c rest (instance_formed d m c) more

-- all arguments, the passed ones among the fixed ones
fixed_first : {file : FileShapes} {g : Shapes} (a s : Shape) (fixed : List Argument) (passed : List TermTree) {term : TermTree} {r : MonoTree}
    → IsFixedShape a
    → IsFormedTerm file g term a
    → FormedArguments file g s (all_arguments (bare s) fixed passed) (sh_comp r)
    → FormedArguments file g (sh_fun a s) (all_arguments (bare (sh_fun a s)) (of_term term ∷ fixed) passed) (sh_comp r)
unfolding bare
fixed_first (sh_mono t) s fixed passed i d more = absurd i
fixed_first (sh_fun a b) s fixed passed i d more = arguments_term d more
fixed_first (sh_all a) s fixed passed i d more = arguments_term d more
fixed_first (sh_comp t) s fixed passed i d more = arguments_term d more

pub all_formed : {file : FileShapes} {g : Shapes} {s : Shape} {fixed : List Argument} {ts : List MonoTree} {r : MonoTree} {passed : List TermTree}
    → FormedFixed file g s fixed ts r
    → FormedPassed file g passed ts
    → FormedArguments file g s (all_arguments (bare s) fixed passed) (sh_comp r)
unfolding bare
all_formed fixed_end passed_none = arguments_none
all_formed (fixed_value f) (passed_more d p) = arguments_term d (all_formed f p)
all_formed {passed = passed} (fixed_term {a = a} {s = s} {fixed = fixed} i d f) p = fixed_first a s fixed passed i d (all_formed f p)
all_formed {file = file} {g = g} {r = r} {passed = passed} (fixed_mono {t = t} {s = s} {fixed = fixed} m f) p =
    arguments_mono m
    (subst (λ (k : Skeleton). FormedArguments file g (fill_shape (first_filled t) s) (all_arguments k fixed passed) (sh_comp r))
    (bare_filled (first_filled t) s) (all_formed f p))

pub each_any : (P : ℕ → Type 0) (xs : List Occurrence) → ((n : ℕ) → P n) → EachMet P xs
each_any P [] p = tt
each_any P (o ∷ xs) p = (p o.variable, each_any P xs p)

-- the captured variables go past those that are passed
pub past_keeps : (k : ℕ) (passed captured : List MonoTree) → k ≡ length passed → (n : ℕ) (t : MonoTree)
    → slice_get captured n ≡ Some t
    → slice_get (passed ++ captured) (shifting zero k n) ≡ Some t
unfolding lifts
past_keeps k passed captured q n t r = past_some passed captured k n q ∙ r

-- ---- a recursive function, opened

abbrev pub opened_shape : Shape → Shape → Shape
opened_shape whole (sh_fun a s) = sh_fun a (opened_shape whole s)
opened_shape whole (sh_comp t) = sh_fun whole (sh_comp t)
opened_shape whole s = s

opened_filled : (f : Filling) (whole s : Shape) → fill_shape f (opened_shape whole s) ≡ opened_shape (fill_shape f whole) (fill_shape f s)
unfolding fill_shape
opened_filled f whole (sh_mono t) = refl
opened_filled f whole (sh_fun a s) = λ j. sh_fun (fill_shape f a) (opened_filled f whole s j)
opened_filled f whole (sh_all s) = refl
opened_filled f whole (sh_comp t) = refl

pub opened_formed : {file : FileShapes} {g : Shapes} {whole s : Shape} {fix : FixTree}
    → IsFormedFix file g whole fix s
    → IsFormedTerm file g (opened_fix fix) (opened_shape whole s)
unfolding opened_fix fill_shape
opened_formed {file = file} {g = g} {whole = whole} (z_param {t = t} {ty = ty} {others = others} d e) =
    z_lam (subst (IsFormedTerm file (in_term (shape_of ty) ∷ g) (opened_fix others)) (sym (opened_filled (renaming_of suc) whole t)) (opened_formed e))
opened_formed {file = file} {g = g} {whole = whole} (z_body {t = t} {comp = comp} d e) =
    z_lam (z_do (subst (IsFormedComp file (in_term whole ∷ g) comp) (sym (mono_renamed suc t)) e))

pub fix_ty_formed : {file : FileShapes} {g : Shapes} {whole s : Shape} {fix : FixTree} → IsFormedFix file g whole fix s → IsFormedTy file g (fix_ty fix)
unfolding fix_ty
fix_ty_formed (z_param d e) = z_fun d (fix_ty_formed e)
fix_ty_formed (z_body d e) = z_hoare d

pub fix_ty_shape : {file : FileShapes} {g : Shapes} {whole s : Shape} {fix : FixTree} → IsFormedFix file g whole fix s → shape_of (fix_ty fix) ≡ s
unfolding fix_ty shape_of
fix_ty_shape (z_param {t = t} {ty = ty} d e) = ap (sh_fun (shape_of ty)) (ap (fill_shape dropping) (fix_ty_shape e) ∙ up_dropped t)
fix_ty_shape (z_body d e) = refl

-- no family is in it
abbrev pub IsPlain : Shape → Type 0
IsPlain (sh_fun a s) = IsPlain s
IsPlain (sh_comp t) = Unit {0}
IsPlain s = ⊥

plain_filled : (f : Filling) (s : Shape) → IsPlain (fill_shape f s) → IsPlain s
unfolding fill_shape
plain_filled f (sh_mono t) i = i
plain_filled f (sh_fun a s) i = plain_filled f s i
plain_filled f (sh_all s) i = i
plain_filled f (sh_comp t) i = i

pub fix_plain : {file : FileShapes} {g : Shapes} {whole s : Shape} {fix : FixTree} → IsFormedFix file g whole fix s → IsPlain s
fix_plain (z_param {t = t} d e) = plain_filled (renaming_of suc) t (fix_plain e)
fix_plain (z_body d e) = tt

-- its arguments and, last, itself
pub opened_arguments : {file : FileShapes} {g : Shapes} {whole s : Shape} {arguments : List Argument} {term : TermTree} {r : MonoTree}
    → FormedArguments file g s arguments (sh_comp r)
    → IsPlain s
    → IsFormedTerm file g term whole
    → FormedArguments file g (opened_shape whole s) (arguments ++ of_term term ∷ []) (sh_comp r)
opened_arguments arguments_none i e = arguments_term e arguments_none
opened_arguments (arguments_term d more) i e = arguments_term d (opened_arguments more i e)
opened_arguments (arguments_mono m more) i e = absurd i
