-- A monotype that a term fits is one of the context, and the term's form is a formed term of it.
use Rattle.std.proofs.Common.{◌≡◌, List, refl, ap, ◌∙◌, subst}
use Rattle.htt_syntax.specs.Trees.{MonoTree, TyTree, TermTree, m_pair, y_mono}
use Rattle.theory_canonical.specs.Skeletons.{sk_o, skeleton}
use Rattle.theory_canonical.specs.Contexts.{Standing, Heads}
use Rattle.theory_canonical.specs.Canonical.{IsCanonicalMono, n_m_pair, IsCanonicalTy, n_mono, n_fun, n_all, n_hoare, IsCanonical}
use Rattle.theory_typing.specs.Contexts.{Context, Environment, Obligation}
use Rattle.theory_typing.specs.Positions.{plain_ty}
use Rattle.theory_typing.specs.Typing.{Mode, Fits, fits_lam, fits_lam_t, fits_pair, fits_do, fits_given, fits_at}
use Rattle.theory_typing_canonical.specs.Environments.{standings, heads_of, IsCanonicalEnvironment, IsCanonicalContext}
use Rattle.theory_typing_canonical.proofs.Typed as canonical
use Rattle.theory_formed_shapes.specs.Shapes.{sh_mono, shape_of, shapes_of}
use Rattle.theory_formed_shapes.specs.Formed.{file_shapes, IsFormedTerm}
use Rattle.theory_formed_shapes.specs.Environments.{DefinitionsFormed}
use Rattle.theory_formed_typing.proofs.Terms.{fit_term}

same_mono : {t u : MonoTree} → y_mono t ≡ y_mono u → t ≡ u
same_mono e = cc

mono_of_type : {heads : Heads} {g : List Standing} {A : TyTree} (t : MonoTree) → IsCanonicalTy heads g A → plain_ty A ≡ y_mono t → IsCanonicalMono g t
unfolding plain_ty
mono_of_type {g = g} t (n_mono m) e = subst (IsCanonicalMono g) (same_mono e) m
mono_of_type t (n_fun c q d) e = cc
mono_of_type t (n_all d) e = cc
mono_of_type t (n_hoare d) e = cc

left_mono : {t u v : MonoTree} → y_mono (m_pair t u) ≡ y_mono v → m_pair t u ≡ v
left_mono e = cc

fits_mono : {env : Environment} {g : Context} {m : Mode} {M N : TermTree} {A : TyTree} {o : List Obligation}
    → Fits env m g M A N o
    → (t : MonoTree)
    → A ≡ y_mono t
    → IsCanonicalEnvironment env
    → IsCanonicalContext (heads_of env) g
    → IsCanonicalMono (standings g) t
unfolding plain_ty
fits_mono (fits_lam p) t e s c = cc
fits_mono (fits_lam_t p) t e s c = cc
fits_mono {g = g} (fits_pair {left_mono = a} {right_mono = b} p q) t e s c =
    subst (IsCanonicalMono (standings g)) (left_mono e) (n_m_pair (fits_mono p a refl s c) (fits_mono q b refl s c))
fits_mono (fits_do p) t e s c = cc
fits_mono {env = env} (fits_given i p q) t e s c = mono_of_type t (canonical.given env s c p).ty (q ∙ ap plain_ty e)
fits_mono (fits_at p) t e s c = fits_mono p t e s c

pub mono_fits : {env : Environment} {g : Context} {m : Mode} {M N : TermTree} (t : MonoTree) {o : List Obligation}
    → IsCanonicalEnvironment env
    → IsCanonicalContext (heads_of env) g
    → Fits env m g M (y_mono t) N o
    → IsCanonicalMono (standings g) t
mono_fits t s c d = fits_mono d t refl s c

pub mono_fitted : {env : Environment} {g : Context} {m : Mode} {M N : TermTree} (t : MonoTree) {o : List Obligation}
    → IsCanonicalEnvironment env
    → IsCanonicalContext (heads_of env) g
    → Fits env m g M (y_mono t) N o
    → IsCanonical (heads_of env) (standings g) N sk_o
unfolding skeleton
mono_fitted {env = env} t s c d = (canonical.fitted env s c (n_mono (mono_fits t s c d)) d).term

pub mono_formed : {env : Environment} {g : Context} {m : Mode} {M N : TermTree} (t : MonoTree) {o : List Obligation}
    → IsCanonicalEnvironment env
    → DefinitionsFormed env
    → IsCanonicalContext (heads_of env) g
    → Fits env m g M (y_mono t) N o
    → IsFormedTerm (file_shapes env) (shapes_of g) N (sh_mono t)
unfolding shape_of
mono_formed {env = env} t s defs c d = fit_term env s defs d c (n_mono (mono_fits t s c d))
