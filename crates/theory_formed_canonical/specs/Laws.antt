-- A formed tree is canonical, at the skeleton of its shape.
use Rattle.std.specs.Prelude.{List, map, ◌≡◌}
use Rattle.htt_syntax.specs.Trees.{MonoTree, TyTree, TermTree, CompTree, FormulaTree}
use Rattle.theory_canonical.specs.Skeletons.{Skeleton, sk_o, sk_c, sk_arrow, sk_all, skeleton}
use Rattle.theory_canonical.specs.Contexts.{Standing, as_mono, as_heap, as_term, Heads}
use Rattle.theory_canonical.specs.Canonical.{IsCanonical, IsCanonicalComp, IsCanonicalTy, IsCanonicalFormula}
use Rattle.theory_typing.specs.Contexts.{Context, Environment}
use Rattle.theory_typing_canonical.specs.Environments.{standings, heads_of, IsCanonicalEnvironment, IsCanonicalContext}
use Rattle.theory_formed_shapes.specs.Shapes.{Shape, sh_mono, sh_fun, sh_all, sh_comp, shape_of, ShapeEntry, in_mono}
use Rattle.theory_formed_shapes.specs.Shapes.{in_heap, in_term, Shapes, shapes_of}
use Rattle.theory_formed_shapes.specs.Formed.{MadeShape, FileShapes, file_shapes, IsFormedTerm, IsFormedComp}
use Rattle.theory_formed_shapes.specs.Formed.{IsFormedTy, IsFormedFormula}
use Rattle.theory_formed_shapes.specs.Environments.{IsFormedContext, FormsEnvironment}

-- the skeleton of a shape: its monotypes are forgotten too
unfoldable pub bare : Shape → Skeleton
bare (sh_mono mono) = sk_o
bare (sh_fun argument answer) = sk_arrow (bare argument) (bare answer)
bare (sh_all body) = sk_all (bare body)
bare (sh_comp mono) = sk_c

abbrev pub bare_entry : ShapeEntry → Standing
bare_entry in_mono = as_mono
bare_entry in_heap = as_heap
bare_entry (in_term s) = as_term (bare s)

abbrev pub bare_context : Shapes → List Standing
bare_context g = map bare_entry g

abbrev pub bare_made : MadeShape → Skeleton
bare_made m = bare m.whole

abbrev pub bare_heads : FileShapes → Heads
bare_heads file = record { vals = map bare file.vals; made = map bare_made file.made }

pub record FormedIsCanonical : Type 0 where
  pub skeletons : (ty : TyTree) → bare (shape_of ty) ≡ skeleton ty
  -- the context and the file of an environment are the typing rules' own
  pub contexts : (g : Context) → bare_context (shapes_of g) ≡ standings g
  pub files : (env : Environment) → bare_heads (file_shapes env) ≡ heads_of env
  pub terms : (file : FileShapes) (g : Shapes) (term : TermTree) (s : Shape)
      → IsFormedTerm file g term s
      → IsCanonical (bare_heads file) (bare_context g) term (bare s)
  pub computations : (file : FileShapes) (g : Shapes) (comp : CompTree) (t : MonoTree)
      → IsFormedComp file g comp t
      → IsCanonicalComp (bare_heads file) (bare_context g) comp
  pub types : (file : FileShapes) (g : Shapes) (ty : TyTree)
      → IsFormedTy file g ty
      → IsCanonicalTy (bare_heads file) (bare_context g) ty
  pub formulas : (file : FileShapes) (g : Shapes) (formula : FormulaTree)
      → IsFormedFormula file g formula
      → IsCanonicalFormula (bare_heads file) (bare_context g) formula
  -- and so are environments and the types of entries
  pub environments : (env : Environment) → FormsEnvironment env → IsCanonicalEnvironment env
  pub entries : (env : Environment) (g : Context)
      → IsFormedContext (file_shapes env) g
      → IsCanonicalContext (heads_of env) g
