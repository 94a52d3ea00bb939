-- What fits or gives a type denotes in the type's shape.
use Rattle.std.proofs.Common.{◌≡◌, List, sym, subst}
use Rattle.htt_syntax.specs.Trees.{MonoTree, TyTree, TermTree, y_mono}
use Rattle.theory_values.specs.Values.{HasType}
use Rattle.theory_canonical.specs.Skeletons.{sk_o, skeleton}
use Rattle.theory_canonical.specs.Contexts.{Heads}
use Rattle.theory_canonical.specs.Canonical.{IsCanonicalTy, n_mono, IsCanonical}
use Rattle.theory_typing.specs.Contexts.{Context, Environment, Obligation}
use Rattle.theory_typing.specs.Typing.{Mode, Gives, Fits}
use Rattle.theory_typing_canonical.specs.Environments.{standings, heads_of, IsCanonicalContext, mono_entry, heap_entry, term_entry}
use Rattle.theory_typing_canonical.proofs.Typed as canonical
use Rattle.theory_formed_shapes.specs.Shapes.{shape_of, shapes_of}
use Rattle.theory_formed_shapes.specs.Formed.{file_shapes, IsFormedTerm}
use Rattle.theory_formed_canonical.proofs.Monos.{canonical_monos}
use Rattle.theory_formed_typing.proofs.Terms.{given_term, fit_term}
use Rattle.theory_formed_typing.proofs.Fitted.{mono_fits}
use Rattle.theory_formed_typing.proofs.Ends.{environment_ends}
use Rattle.theory_denotation.specs.Valuations.{Valuation, mono_in, HeadEntries}
use Rattle.theory_denotation.specs.Denotation.{term_den}
use Rattle.theory_items_sound.specs.Environments.{SoundEnvironment}
use Rattle.theory_denotation_shapes.specs.Shapes.{InShape, ContextShaped, shaped_none, shaped_mono, shaped_heap, shaped_term}
use Rattle.theory_typing_shaped.specs.Laws.{TypingGivesShape}
use Rattle.theory_typing_shaped.proofs.Shaped.{type_shaped}
use Rattle.theory_typing_shaped.proofs.Typed.{Shaped, sv_none, sv_mono, sv_heap, sv_term, term_shaped}

as_is : {A B : Type 0} → A ≡ B → A → B
as_is e a = subst (λ (X : Type 0). X) e a

pub by_shapes : {heads : Heads} {g : Context} {w : Valuation} → IsCanonicalContext heads g → ContextShaped g w → Shaped (shapes_of g) (standings g) w
by_shapes c shaped_none = sv_none
by_shapes (mono_entry c) (shaped_mono closed k) = sv_mono closed (by_shapes c k)
by_shapes (heap_entry c) (shaped_heap is k) = sv_heap is (by_shapes c k)
by_shapes (term_entry {g = g} {ty = ty} c d) (shaped_term {w = w} {d = x} m k) =
    sv_term (as_is (sym (type_shaped ty w (canonical_monos g d) (skeleton ty) x)) m) (by_shapes c k)

-- a canonical term that is formed, of the type's shape
term_in_shape : (env : Environment) (e : HeadEntries) {g : Context} {w : Valuation} {N : TermTree} (A : TyTree)
    → SoundEnvironment env
    → IsCanonicalContext (heads_of env) g
    → ContextShaped g w
    → IsCanonicalTy (heads_of env) (standings g) A
    → IsFormedTerm (file_shapes env) (shapes_of g) N (shape_of A)
    → IsCanonical (heads_of env) (standings g) N (skeleton A)
    → InShape w A (skeleton A) (term_den e w N (skeleton A))
term_in_shape env e {g = g} {w = w} {N = N} A s c k a formed d =
    as_is (type_shaped A w (canonical_monos g a) (skeleton A) (term_den e w N (skeleton A)))
    (term_shaped e (environment_ends env s.vals_end) formed d (by_shapes c k))

pub given_shaped : {env : Environment} (e : HeadEntries) {g : Context} {w : Valuation} {m : Mode} {M N : TermTree} {A : TyTree}
    {o : List Obligation}
    → SoundEnvironment env
    → IsCanonicalContext (heads_of env) g
    → ContextShaped g w
    → Gives env m g M A N o
    → InShape w A (skeleton A) (term_den e w N (skeleton A))
given_shaped {env = env} e {A = A} s c k d =
    let r = canonical.given env s.canonical c d in term_in_shape env e A s c k r.ty (given_term env s.canonical s.defs_formed d c) r.term

pub fit_shaped : {env : Environment} (e : HeadEntries) {g : Context} {w : Valuation} {m : Mode} {M N : TermTree} {A : TyTree}
    {o : List Obligation}
    → SoundEnvironment env
    → IsCanonicalContext (heads_of env) g
    → ContextShaped g w
    → IsCanonicalTy (heads_of env) (standings g) A
    → Fits env m g M A N o
    → InShape w A (skeleton A) (term_den e w N (skeleton A))
fit_shaped {env = env} e {A = A} s c k a d =
    term_in_shape env e A s c k a (fit_term env s.canonical s.defs_formed d c a) (canonical.fitted env s.canonical c a d).term

-- a term of a monotype has a value of it
pub mono_valued : {env : Environment} (e : HeadEntries) {g : Context} {w : Valuation} {m : Mode} {M N : TermTree} (t : MonoTree)
    {o : List Obligation}
    → SoundEnvironment env
    → IsCanonicalContext (heads_of env) g
    → ContextShaped g w
    → Fits env m g M (y_mono t) N o
    → HasType (term_den e w N sk_o) (mono_in w t)
unfolding InShape skeleton
mono_valued e t s c k d = fit_shaped e s c k (n_mono (mono_fits t s.canonical c d)) d

pub gives_shape : TypingGivesShape
gives_shape = record {
  given = λ env e g w s c k m M N A o d. given_shaped e s c k d;
  fitting = λ env e g w s c k m M N A o a d. fit_shaped e s c k a d;
  values = λ env e g w s c k m M N t o d. mono_valued e t s c k d;
}
