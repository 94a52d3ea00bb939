-- What realises a denotation is kept by renaming and by substitution, and is closed under recursion.
use Rattle.std.specs.Prelude.{◌↔◌, ℕ, List}
use Rattle.htt_syntax.specs.Trees.{MonoTree, TyTree, TermTree, FixTree}
use Rattle.theory_renaming.specs.Renaming.{Map, rename_ty}
use Rattle.theory_meaning.specs.Closures.{RunValue, fix_of, Env, Items}
use Rattle.theory_canonical.specs.Skeletons.{Skeleton, skeleton}
use Rattle.theory_canonical.specs.Contexts.{Standing, Heads}
use Rattle.theory_canonical.specs.Canonical.{IsCanonicalTy}
use Rattle.theory_substitution.specs.Monotypes.{put_mono_ty}
use Rattle.theory_substitution.specs.Substitution.{SubTy}
use Rattle.theory_typing.specs.Contexts.{Context, Environment, Obligation}
use Rattle.theory_typing.specs.Positions.{plain_ty}
use Rattle.theory_typing.specs.Typing.{FitsFix}
use Rattle.theory_denotation.specs.Valuations.{Domain, Valuation, HeadEntries}
use Rattle.theory_denotation.specs.Recursion.{entered, recursion}
use Rattle.theory_denotation_renaming.specs.Along.{AgreeAlong}
use Rattle.theory_denotation_renaming.specs.Laws.{MayFillIn}
use Rattle.theory_denotation_substitution.specs.Put.{MayPutIn}
use Rattle.theory_adequacy.specs.Adequacy.{Realises}

-- A renamed type, and one in which a term or a monotype is put for a variable, is realised by what
-- realises the type in the valuation that gives the variables so. Positions say nothing.
pub record RealisationReindexes : Type 0 where
  pub renamed : (items : Items) {m : Map} {w w' : Valuation}
      → AgreeAlong m w w'
      → (ty : TyTree) (s : Skeleton) (u : RunValue) (d : Domain s)
      → Realises items w' (rename_ty m ty) s u d ↔ Realises items w ty s u d
  pub terms : (items : Items) (heads : Heads) (e : HeadEntries) (new : TermTree) (s : Skeleton) (x : ℕ)
      (g whole : List Standing) (w w' : Valuation)
      → MayPutIn heads e new s x g whole w w'
      → (ty r : TyTree)
      → SubTy new s x ty r
      → IsCanonicalTy heads whole ty
      → (u : RunValue) (d : Domain (skeleton ty))
      → Realises items w r (skeleton ty) u d ↔ Realises items w' ty (skeleton ty) u d
  pub monotypes : (items : Items) (heads : Heads) (e : HeadEntries) (mono : MonoTree) (x : ℕ)
      (g whole : List Standing) (w w' : Valuation)
      → MayFillIn heads e mono x g whole w w'
      → (ty : TyTree)
      → IsCanonicalTy heads whole ty
      → (u : RunValue) (d : Domain (skeleton ty))
      → Realises items w (put_mono_ty mono x ty) (skeleton ty) u d ↔ Realises items w' ty (skeleton ty) u d
  pub positions : (items : Items) (w : Valuation) (ty : TyTree) (s : Skeleton) (u : RunValue) (d : Domain s)
      → Realises items w (plain_ty ty) s u d ↔ Realises items w ty s u d

-- A recursive function of the text, with some of its arguments, realises the recursion of what it
-- realises whenever it realises the recursion so far.
abbrev pub RecursionIsRealised : Type 0
RecursionIsRealised =
    (items : Items) (env : Environment) (g : Context) (whole ty : TyTree) (fix r : FixTree) (o : List Obligation)
    → FitsFix env g whole fix ty r o
    → (w : Valuation) (own : Env) (all : FixTree) (v : Env) (f : Domain (skeleton ty) → Domain (skeleton ty))
    → ((d : Domain (skeleton ty)) → Realises items w ty (skeleton ty) (fix_of own all v fix) d →
    Realises items w ty (skeleton ty) (fix_of own all v fix) (entered (skeleton ty) (f d)))
    → Realises items w ty (skeleton ty) (fix_of own all v fix) (recursion (skeleton ty) f)
