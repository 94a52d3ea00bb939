-- The values of a file whose items derive, as a program: formed with all values as heads, and canonical.
use Rattle.std.proofs.Common.{◌≡◌, ℕ, List, [], ◌∷◌, ◌++◌, map, Option, Some, slice_get, All, inl, inr, refl, sym, ap, ◌∙◌, subst}
use Rattle.std.proofs.lemmas.List.{append-nil, append_assoc, map-append}
use Rattle.htt_syntax.specs.Trees.{MonoTree, TyTree, TermTree}
use Rattle.theory_truth.specs.Predicates.{RecTree}
use Rattle.theory_typing.specs.Contexts.{Environment}
use Rattle.theory_typing.specs.Laws.{none}
use Rattle.theory_canonical.specs.Skeletons.{skeleton}
use Rattle.theory_typing_canonical.specs.Environments.{no_entry}
use Rattle.theory_typing_canonical.proofs.Typed.{fitted}
use Rattle.theory_typing_canonical.proofs.Typed as Canonical
use Rattle.theory_items.specs.Items.{ItemTree, with_val, derives_abbreviation, derives_pred, derives_def, derives_val, derives_rec}
use Rattle.theory_items.proofs.Lists.{no_element, appended}
use Rattle.theory_items_sound.specs.Environments.{SoundEnvironment}
use Rattle.theory_items_sound.proofs.Files.{val_file, rec_file}
use Rattle.theory_items_sound.proofs.Kept.{items_keep_sound}
use Rattle.theory_formed_shapes.specs.Shapes.{shape_of}
use Rattle.theory_formed_shapes.specs.Formed.{FileShapes, file_shapes, IsFormedMono, IsFormedTerm, IsFormedTy}
use Rattle.theory_formed_shapes.specs.Environments.{formed_none}
use Rattle.theory_formed_shapes.proofs.More.{term_more}
use Rattle.theory_formed_typing.proofs.Closed.{map_get, mapped}
use Rattle.theory_formed_typing.proofs.Typed.{formed_ty, fit_formed}
use Rattle.theory_formed_items.specs.Environments.{IsFormedEnvironment}
use Rattle.theory_formed_items.proofs.Kept.{items_keep_formed}
use Rattle.theory_denotation_relations.specs.Files.{AreVals, vals_end, vals_more}
use Rattle.theory_logic_unfoldings_satisfied.proofs.Bodies.{ends_run}
use Rattle.theory_instances.specs.Calls.{ProgramVal}
use Rattle.theory_instances_formed.specs.Formed.{file_with, IsFormedProgram}
use Rattle.theory_instances_canonical.specs.Keys.{val_tree}
use Rattle.theory_extraction.specs.Extraction.{HasVals, vals_none, vals_next, program}
use Rattle.theory_flat_formed.proofs.Listed.{flat_typed}
use Rattle.theory_extraction_formed.specs.Laws.{FileProgramsAreFormed, FileProgramsAreTyped}

-- ---- formed

abbrev ty_of : ProgramVal → TyTree
ty_of v = v.ty

abbrev params_in : RecTree → List MonoTree
params_in r = r.params

-- the values so far are those of the environment, and their terms are formed in it
record ValsFormed (env : Environment) (before : List ProgramVal) : Type 0 where
  types : map ty_of before ≡ env.vals
  terms : (n : ℕ) (v : ProgramVal) → slice_get before n ≡ Some v → IsFormedTerm (file_shapes env) [] v.term (shape_of v.ty)

shapes_are : (vals : List ProgramVal) → map shape_of (map ty_of vals) ≡ map (λ (v : ProgramVal). shape_of v.ty) vals
shapes_are [] = refl
shapes_are (v ∷ vals) = ap (λ ss. shape_of v.ty ∷ ss) (shapes_are vals)

-- one value more
val_formed : (env : Environment) (before : List ProgramVal) (ty : TyTree) (term : TermTree)
    → ValsFormed env before
    → IsFormedTerm (file_shapes env) [] term (shape_of ty)
    → ValsFormed (with_val env ty) (before ++ record { ty = ty; term = term } ∷ [])
val_formed env before ty term k d = record {
  types = map-append ty_of before (record { ty = ty; term = term } ∷ []) ∙ ap (λ tys. tys ++ ty ∷ []) k.types;
  terms = λ n v q. elim (appended before (record { ty = ty; term = term }) n v q) [
    | inl f ↦ term_more (val_file env ty) (k.terms n v f)
    | inr (p, f) ↦
        subst (λ (x : ProgramVal). IsFormedTerm (file_shapes (with_val env ty)) [] x.term (shape_of x.ty)) f (term_more (val_file env ty) d)
  ];
}

abbrev FormedProgram : List ProgramVal → Option ℕ → Type 0
FormedProgram vals main = (recs : List (List MonoTree)) × IsFormedProgram recs (program vals main)

-- at the end of the file
end_formed : (env : Environment) (vals : List ProgramVal) (main : Option ℕ) → IsFormedEnvironment env → ValsFormed env vals → FormedProgram vals main
end_formed env vals main known k =
    let recs = map params_in env.recs in
    let file : file_shapes env ≡ file_with recs (program vals main) [] =
    λ j. record { vals = (ap (map shape_of) (sym k.types) ∙ shapes_are vals) j; made = []; recs = recs } in
    let at : (n : ℕ) (v : ProgramVal) → slice_get vals n ≡ Some v → slice_get env.vals n ≡ Some v.ty =
    λ n v q. subst (λ tys. slice_get tys n ≡ Some v.ty) k.types (map_get ty_of vals n v q) in (
      recs,
      record {
        types = λ n v q. subst (λ (f : FileShapes). IsFormedTy f [] v.ty) file (known.forms.vals n v.ty (at n v q));
        ends = λ n v q. known.vals_end n v.ty (at n v q);
        terms = λ n v q. subst (λ (f : FileShapes). IsFormedTerm f [] v.term (shape_of v.ty)) file (k.terms n v q);
        params = λ n ts q. let o = mapped params_in env.recs n ts q in subst (λ us. All (IsFormedMono []) us) o.is (known.forms.rec_params n o.of o.found);
      },
    )

all_formed : {env : Environment} {items : List ItemTree} {vals : List ProgramVal} (main : Option ℕ) (before : List ProgramVal)
    → HasVals env items vals
    → IsFormedEnvironment env
    → ValsFormed env before
    → FormedProgram (before ++ vals) main
all_formed {env = env} main before vals_none known k = end_formed env (before ++ []) main known (subst (ValsFormed env) (sym (append-nil before)) k)
all_formed main before (vals_next {env = env} {item = item} {added = added} {owed = owed} (derives_abbreviation a) rest) known k =
    all_formed main before rest known k
all_formed main before (vals_next (derives_pred a b) rest) known k = all_formed main before rest known k
all_formed main before (vals_next {env = env} {item = item} {added = added} {owed = owed} (derives_def a b) rest) known k =
    all_formed main before rest (items_keep_formed.kept env item added owed known (derives_def a b)) (record { types = k.types; terms = k.terms })
all_formed main before (vals_next {env = env} {item = item} {added = added} {owed = owed} {vals = vals} (derives_val {ty' = ty'} {term' = term'} a ends b) rest) known k =
    let v : ProgramVal = record { ty = ty'; term = term' } in
    let term = fit_formed env known.forms b formed_none (formed_ty env known.forms a formed_none) in
    subst (λ vs. FormedProgram vs main) (append_assoc before (v ∷ []) vals)
    (all_formed main (before ++ v ∷ []) rest (items_keep_formed.kept env item added owed known (derives_val a ends b)) (val_formed env before ty' term' k term))
all_formed main before (vals_next {env = env} {item = item} {added = added} {owed = owed} (derives_rec {r = r} {at_zero = at_zero} {at_next = at_next} f a b i) rest) known k =
    let made : RecTree = record { params = r.params; at_zero = at_zero; at_next = at_next } in
    all_formed main before rest (items_keep_formed.kept env item added owed known (derives_rec f a b i))
    (record { types = k.types; terms = λ n v q. term_more (rec_file env made) (k.terms n v q) })

none_formed : ValsFormed none []
none_formed = record { types = refl; terms = λ n v q. absurd (no_element q) }

file_formed : (items : List ItemTree) (vals : List ProgramVal) (main : Option ℕ) → HasVals none items vals → FormedProgram vals main
file_formed items vals main h = all_formed main [] h items_keep_formed.empty none_formed

-- ---- canonical

-- each under those before it
pub vals_canonical : {env : Environment} {items : List ItemTree} {vals : List ProgramVal}
    → HasVals env items vals
    → SoundEnvironment env
    → AreVals (map skeleton env.vals) (map val_tree vals)
vals_canonical vals_none s = vals_end
vals_canonical (vals_next {env = env} {item = item} {added = added} {owed = owed} {vals = vals} (derives_val {ty' = ty'} a ends b) rest) s =
    vals_more (fitted env s.canonical no_entry (Canonical.formed_ty env s.canonical no_entry a) b).term (ends_run ty' ends)
    (subst (λ before. AreVals before (map val_tree vals)) (map-append skeleton env.vals (ty' ∷ []))
    (vals_canonical rest (items_keep_sound.kept env item added owed s (derives_val a ends b))))
vals_canonical (vals_next (derives_abbreviation a) rest) s = vals_canonical rest s
vals_canonical (vals_next (derives_pred a b) rest) s = vals_canonical rest s
vals_canonical (vals_next {env = env} {item = item} {added = added} {owed = owed} (derives_def a b) rest) s =
    vals_canonical rest (items_keep_sound.kept env item added owed s (derives_def a b))
vals_canonical (vals_next {env = env} {item = item} {added = added} {owed = owed} (derives_rec f a b i) rest) s =
    vals_canonical rest (items_keep_sound.kept env item added owed s (derives_rec f a b i))

pub files_formed : FileProgramsAreFormed
files_formed = record {
  formed = file_formed;
  canonical = λ items vals main h. vals_canonical h items_keep_sound.empty;
}

pub files_typed : FileProgramsAreTyped
files_typed = λ items vals main instances h has.
    let f = file_formed items vals main h in flat_typed.programs (f.0) (program vals main) instances (f.1) has
