-- A type that is given is formed in a formed environment and context; and the same of what the rules make there.
use Rattle.std.proofs.Common.{ℕ, List, ◌∷◌}
use Rattle.htt_syntax.specs.declared.mono.Op.{Op}
use Rattle.htt_syntax.specs.declared.mono.Op.TheVariants.{Lt}
use Rattle.htt_syntax.specs.Trees.{MonoTree, TyTree, TermTree, FixTree, FormulaTree, m_pair, y_mono, y_fun}
use Rattle.htt_syntax.specs.Trees.{y_all}
use Rattle.theory_values.specs.Values.{op_mono}
use Rattle.theory_typing.specs.Contexts.{Context, Environment, Obligation, HasEntryType}
use Rattle.theory_typing.specs.Contexts.{type_here, type_there}
use Rattle.theory_typing.specs.Typing.{Mode, FormsTy}
use Rattle.theory_typing.specs.Typing.{FormsFormula}
use Rattle.theory_typing.specs.Typing.{Gives, gives_var, gives_val, gives_def}
use Rattle.theory_typing.specs.Typing.{gives_word, gives_bool, gives_loc, gives_unit, gives_app, gives_inst, gives_ann, gives_pair, gives_fst, gives_snd}
use Rattle.theory_typing.specs.Typing.{gives_bin, gives_not, gives_eq, gives_sel, gives_fix, gives_at, Fits}
use Rattle.theory_typing.specs.Typing.{FormsHeader}
use Rattle.theory_formed_shapes.specs.Shapes.{shape_of, in_mono, in_heap, in_term, Shapes, shapes_of}
use Rattle.theory_formed_shapes.specs.Formed.{FileShapes, file_shapes, IsFormedMono, z_m_word, z_m_bool, z_m_loc, z_m_unit, z_m_pair, IsFormedTerm}
use Rattle.theory_formed_shapes.specs.Formed.{IsFormedTy, z_mono, z_fun, z_all, IsFormedFormula}
use Rattle.theory_formed_shapes.specs.Formed.{IsClosedFile}
use Rattle.theory_formed_shapes.proofs.Filled.{ty_filled}
use Rattle.theory_formed_shapes.proofs.Renamed.{ty_renamed, fills_suc}
use Rattle.theory_formed_substitution.proofs.Put.{puts_first, fills_first, ty_put}
use Rattle.theory_formed_shapes.specs.Environments.{IsFormedContext, formed_mono, formed_heap, formed_term, FormsEnvironment}
use Rattle.theory_formed_typing.specs.Laws.{TypingGivesFormed}
use Rattle.theory_typing_canonical.specs.Environments.{IsCanonicalEnvironment}
use Rattle.theory_formed_canonical.proofs.Bare.{type_bare, environment_bare, entries_bare}
use Rattle.theory_formed_typing.proofs.Closed.{file_closed, closed_ty}
use Rattle.theory_formed_typing.proofs.Terms as terms
use Rattle.theory_formed_typing.proofs.Terms.{mono_formed}

op_formed : {g : Shapes} (op : Op) → IsFormedMono g (op_mono op)
op_formed Lt = z_m_bool
op_formed _ = z_m_word

entry_formed : {file : FileShapes} {g : Context} {n : ℕ} {A : TyTree}
    → HasEntryType g n A
    → IsFormedContext file g
    → IsClosedFile file
    → IsFormedTy file (shapes_of g) A
entry_formed (type_here {g = g} {ty = ty}) (formed_term k d) c = ty_renamed d c (fills_suc (in_term (shape_of ty)) (shapes_of g))
entry_formed (type_there {g = g} i) (formed_mono k) c = ty_renamed (entry_formed i k c) c (fills_suc in_mono (shapes_of g))
entry_formed (type_there {g = g} i) (formed_heap k) c = ty_renamed (entry_formed i k c) c (fills_suc in_heap (shapes_of g))
entry_formed (type_there {g = g} i) (formed_term {ty = ty} k d) c = ty_renamed (entry_formed i k c) c (fills_suc (in_term (shape_of ty)) (shapes_of g))

-- parts of types
module _ {file : FileShapes} {g : Shapes} where
  fun_parts : {A B : TyTree} → IsFormedTy file g (y_fun A B) → IsFormedTy file g A × IsFormedTy file (in_term (shape_of A) ∷ g) B
  fun_parts (z_fun d e) = (d, e)

  all_part : {B : TyTree} → IsFormedTy file g (y_all B) → IsFormedTy file (in_mono ∷ g) B
  all_part (z_all d) = d

  mono_part : {t : MonoTree} → IsFormedTy file g (y_mono t) → IsFormedMono g t
  mono_part (z_mono m) = m

  pair_monos : {t u : MonoTree} → IsFormedTy file g (y_mono (m_pair t u)) → IsFormedMono g t × IsFormedMono g u
  pair_monos (z_mono (z_m_pair a b)) = (a, b)

module _ (env : Environment) (known : FormsEnvironment env) where
  closed : IsClosedFile (file_shapes env)
  closed = file_closed known

  known_canonical : IsCanonicalEnvironment env
  known_canonical = environment_bare env known

  pub formed_ty : {g : Context} {A R : TyTree} → FormsTy env g A R → IsFormedContext (file_shapes env) g → IsFormedTy (file_shapes env) (shapes_of g) R
  formed_ty {g = g} p k = terms.formed_ty env known_canonical known.def_terms p (entries_bare env g k)

  pub formed_formula : {g : Context} {F R : FormulaTree}
      → FormsFormula env g F R
      → IsFormedContext (file_shapes env) g
      → IsFormedFormula (file_shapes env) (shapes_of g) R
  formed_formula {g = g} p k = terms.formed_formula env known_canonical known.def_terms p (entries_bare env g k)

  pub header_formed : {g : Context} {fix : FixTree} {A : TyTree}
      → FormsHeader env g fix A
      → IsFormedContext (file_shapes env) g
      → IsFormedTy (file_shapes env) (shapes_of g) A
  header_formed {g = g} p k = terms.header_formed env known_canonical known.def_terms p (entries_bare env g k)

  given_term : {m : Mode} {g : Context} {M N : TermTree} {A : TyTree} {o : List Obligation}
      → Gives env m g M A N o
      → IsFormedContext (file_shapes env) g
      → IsFormedTerm (file_shapes env) (shapes_of g) N (shape_of A)
  given_term {g = g} p k = terms.given_term env known_canonical known.def_terms p (entries_bare env g k)

  pub fit_formed : {m : Mode} {g : Context} {M N : TermTree} {A : TyTree} {o : List Obligation}
      → Fits env m g M A N o
      → IsFormedContext (file_shapes env) g
      → IsFormedTy (file_shapes env) (shapes_of g) A
      → IsFormedTerm (file_shapes env) (shapes_of g) N (shape_of A)
  fit_formed {g = g} {A = A} p k a = terms.fit_term env known_canonical known.def_terms p (entries_bare env g k) (type_bare env g A a)

  -- the type that a term gives
  given_type : {m : Mode} {g : Context} {M N : TermTree} {A : TyTree} {o : List Obligation}
      → Gives env m g M A N o
      → IsFormedContext (file_shapes env) g
      → IsFormedTy (file_shapes env) (shapes_of g) A
  given_type (gives_var i) k = entry_formed i k closed
  given_type {g = g} (gives_val {number = number} {ty = ty} e) k = closed_ty (shapes_of g) (known.vals number ty e) closed
  given_type {g = g} (gives_def {number = number} {definition = definition} e) k = closed_ty (shapes_of g) (known.def_types number definition e) closed
  given_type (gives_word l) k = z_mono z_m_word
  given_type gives_bool k = z_mono z_m_bool
  given_type (gives_loc l) k = z_mono z_m_loc
  given_type gives_unit k = z_mono z_m_unit
  given_type (gives_app p q types _) k =
      let parts = fun_parts (given_type p k) in ty_put types parts.1 closed (puts_first (fit_formed q k parts.0))
  given_type (gives_inst p f) k = ty_filled (all_part (given_type p k)) closed (fills_first (mono_formed f))
  given_type (gives_ann f p) k = formed_ty f k
  given_type (gives_pair p q) k = z_mono (z_m_pair (mono_part (given_type p k)) (mono_part (given_type q k)))
  given_type (gives_fst p) k = z_mono (pair_monos (given_type p k)).0
  given_type (gives_snd p) k = z_mono (pair_monos (given_type p k)).1
  given_type (gives_bin {op = op} p q) k = z_mono (op_formed op)
  given_type (gives_not p) k = z_mono z_m_bool
  given_type (gives_eq f c p q) k = z_mono z_m_bool
  given_type (gives_sel f p q r) k = z_mono (mono_formed f)
  given_type (gives_fix h d) k = header_formed h k
  given_type (gives_at p) k = given_type p k

  pub given_formed : {m : Mode} {g : Context} {M N : TermTree} {A : TyTree} {o : List Obligation}
      → Gives env m g M A N o
      → IsFormedContext (file_shapes env) g
      → IsFormedTy (file_shapes env) (shapes_of g) A × IsFormedTerm (file_shapes env) (shapes_of g) N (shape_of A)
  given_formed p k = (given_type p k, given_term p k)

pub gives_formed : TypingGivesFormed
gives_formed = record {
  types = λ env g known defs k A R d. terms.formed_ty env known defs d k;
  formulas = λ env g known defs k F R d. terms.formed_formula env known defs d k;
  given = λ env g known defs k m M N A o d. terms.given_term env known defs d k;
  given_types = λ env g known k m M N A o d. given_type env known d k;
  fitting = λ env g known defs k m M N A o a d. terms.fit_term env known defs d k a;
  bodies = λ env g known defs k E R pre post t o m d. terms.body_formed env known defs d k m;
}
