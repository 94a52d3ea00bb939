-- A call that names a key by itself: the key is formed, and what is passed and captured at the call is of the
-- monotypes of the key's parameters.
use Rattle.std.proofs.Common.{◌≡◌, ℕ, zero, List, [], ◌++◌, map, flat_map, All, Some, slice_get, sym, ap, ◌∙◌, subst}
use Rattle.htt_syntax.specs.Trees.{MonoTree, TyTree, TermTree, FixTree, t_val, t_fix}
use Rattle.theory_renaming.specs.Renaming.{rename_term, rename_fix}
use Rattle.theory_values.specs.Values.{IsClosed}
use Rattle.theory_canonical.specs.Skeletons.{Skeleton, skeleton}
use Rattle.theory_formed_shapes.specs.Shapes.{Shape, sh_comp, shape_of, renaming_of, Shapes}
use Rattle.theory_formed_shapes.specs.Formed.{FileShapes, IsFormedNeutral, w_val, w_fix, IsFormedFix, IsClosedFile}
use Rattle.theory_formed_shapes.proofs.Monos.{MonosFormed, formed_monos}
use Rattle.theory_formed_canonical.specs.Laws.{bare}
use Rattle.theory_formed_canonical.proofs.Bare.{bare_shape}
use Rattle.theory_instances.specs.Calls.{ProgramVal, Program, Argument, head_of, arguments_of, fixed_of, passed_of, fix_ty, ty_of_val, head_ty, Site}
use Rattle.theory_instances.specs.Occurrences.{met_in_term, met_in_argument}
use Rattle.theory_instances.specs.Keys.{captured_of, number_in, mono_at, key_of_site}
use Rattle.theory_formed_met.specs.Laws.{CarriesEntry, HasEntry}
use Rattle.theory_formed_met.proofs.Occurring.{EachMet, both, head_by_met}
use Rattle.theory_formed_met.proofs.Entries.{joined, head_has_entries, term_has_entries}
use Rattle.theory_instances_formed.specs.Formed.{values_shapes, FormedFixed, fixed_end, fixed_value, fixed_term, fixed_mono}
use Rattle.theory_instances_formed.specs.Formed.{IsFormedKey, formed_val, formed_fix}
use Rattle.theory_instances_formed.proofs.Shapes.{IsClosedShape, no_mono, no_heap, closed_shape}
use Rattle.theory_instances_formed.proofs.Captured.{met_among, captured_closed, carries_met, captured_stand}
use Rattle.theory_instances_formed.proofs.Sites.{FormedArguments, FormedPassed, parted, fixed_carried}
use Rattle.theory_instances_formed.proofs.Variables.{Stand}
use Rattle.theory_instances_formed.proofs.Bodies.{fix_ty_shape, fix_ty_formed}
use Rattle.theory_instances_formed.proofs.Taken.{Told, told, fix_of}

-- the skeleton of a call's head, its fixed arguments, and the variables that these capture
abbrev pub skeleton_at : Program → Site → Skeleton
skeleton_at p site = skeleton (head_ty p (head_of site.call))

abbrev pub fixed_at : Program → Site → List Argument
fixed_at p site = fixed_of (skeleton_at p site) (arguments_of site.call)

abbrev pub captured_at : Program → Site → List ℕ
captured_at p site = captured_of (head_of site.call) (fixed_at p site)

pub record NamedCall (file : FileShapes) (p : Program) (site : Site) (r : MonoTree) : Type 0 where
  pub monos : List MonoTree
  pub key : IsFormedKey file p (key_of_site p site)
  pub told : Told p (key_of_site p site) monos r
  pub captured : Stand (values_shapes site.context) (captured_at p site) (map (mono_at site.context) (captured_at p site))
  pub passed : FormedPassed file (values_shapes site.context) (passed_of (skeleton_at p site) (arguments_of site.call)) monos

fixed_has_entries : {file : FileShapes} {g : Shapes} {s : Shape} {fixed : List Argument} {ts : List MonoTree} {r : MonoTree}
    → FormedFixed file g s fixed ts r
    → EachMet (HasEntry g) (flat_map met_in_argument fixed)
fixed_has_entries fixed_end = tt
fixed_has_entries (fixed_value d) = fixed_has_entries d
fixed_has_entries {g = g} (fixed_term {term = term} {fixed = fixed} i e d) =
    joined (HasEntry g) (met_in_term zero [] term) (flat_map met_in_argument fixed) (term_has_entries e) (fixed_has_entries d)
fixed_has_entries (fixed_mono m d) = fixed_has_entries d

-- the type of a key's head, which may stand under other variables than that of the call's
record HeadTy (p : Program) (head : TermTree) (whole : Shape) : Type 0 where
  ty : TyTree
  is : head_ty p head ≡ ty
  context : Shapes
  monos : MonosFormed context ty
  shape : shape_of ty ≡ whole

module _ {file : FileShapes} (p : Program) (site : Site) (closed : IsClosedFile file) (c : All IsClosed site.context) where
  abbrev g : Shapes
  g = values_shapes site.context

  abbrev us : List MonoTree
  us = map (mono_at site.context) (captured_at p site)

  abbrev Carried : ℕ → Type 0
  Carried = CarriesEntry (number_in (captured_at p site)) g (values_shapes us)

  carried_at : EachMet Carried (met_in_term zero [] (head_of site.call)) × EachMet Carried (flat_map met_in_argument (fixed_at p site))
  carried_at =
      both Carried (met_in_term zero [] (head_of site.call)) (flat_map met_in_argument (fixed_at p site))
      (carries_met (captured_at p site) site.context (met_in_term zero [] (head_of site.call) ++ flat_map met_in_argument (fixed_at p site)) c
      (met_among (head_of site.call) (fixed_at p site)))

  named_by : {whole : Shape} {r : MonoTree}
      → IsFormedNeutral file g (head_of site.call) whole
      → shape_of (head_ty p (head_of site.call)) ≡ whole
      → IsClosedShape whole
      → FormedArguments file g whole (arguments_of site.call) (sh_comp r)
      → HeadTy p (key_of_site p site).head whole
      → ((ts : List MonoTree) → FormedFixed file (values_shapes us) whole (key_of_site p site).fixed ts r → IsFormedKey file p (key_of_site p site))
      → NamedCall file p site r
  named_by {whole = whole} {r = r} head shape k arguments own as_key =
      let same : bare whole ≡ skeleton_at p site = ap bare (sym shape) ∙ bare_shape (head_ty p (head_of site.call)) in
      let parts = parted arguments in
      let fixed : FormedFixed file g whole (fixed_at p site) parts.monos r =
      subst (λ x. FormedFixed file g whole (fixed_of x (arguments_of site.call)) parts.monos r) same parts.fixed in
      let keys_fixed = fixed_carried (number_in (captured_at p site)) site.context us closed k fixed (carried_at.1) in
      record {
        monos = parts.monos;
        key = as_key parts.monos keys_fixed;
        told =
            told p (key_of_site p site) own.ty own.is own.monos
            (subst (λ s. FormedFixed file (values_shapes us) s (key_of_site p site).fixed parts.monos r) (sym own.shape) keys_fixed);
        captured =
            captured_stand site.context (met_in_term zero [] (head_of site.call) ++ flat_map met_in_argument (fixed_at p site)) c
            (joined (HasEntry g) (met_in_term zero [] (head_of site.call)) (flat_map met_in_argument (fixed_at p site)) (head_has_entries head)
            (fixed_has_entries fixed));
        passed = subst (λ x. FormedPassed file g (passed_of x (arguments_of site.call)) parts.monos) same parts.passed;
      }

  -- the head is a recursive function
  pub named_fix : {whole : Shape} {r : MonoTree} {at : ℕ} {fix : FixTree}
      → IsFormedFix file g whole fix whole
      → head_of site.call ≡ t_fix at fix
      → FormedArguments file g whole (arguments_of site.call) (sh_comp r)
      → NamedCall file p site r
  unfolding rename_term
  named_fix {whole = whole} {at = at} {fix = fix} d q arguments =
      let m = number_in (captured_at p site) in
      let k : IsClosedShape whole = subst IsClosedShape (fix_ty_shape d) (closed_shape site.context (formed_monos (fix_ty_formed d))) in
      let head : IsFormedNeutral file g (head_of site.call) whole = subst (λ h. IsFormedNeutral file g h whole) (sym q) (w_fix {at = at} d) in
      let renamed : IsFormedNeutral file (values_shapes us) (rename_term m (head_of site.call)) whole =
      subst (IsFormedNeutral file (values_shapes us) (rename_term m (head_of site.call))) (k (renaming_of m))
      (head_by_met closed (λ n h. absurd (no_mono site.context n h)) (λ n h. absurd (no_heap site.context n h)) (carried_at.0) head) in
      let is : rename_term m (head_of site.call) ≡ t_fix at (rename_fix m fix) = ap (rename_term m) q in
      let own : IsFormedFix file (values_shapes us) whole (rename_fix m fix) whole = fix_of (subst (λ h. IsFormedNeutral file (values_shapes us) h whole) is renamed) in
      named_by head (ap (λ h. shape_of (head_ty p h)) q ∙ fix_ty_shape d) k arguments
      (record { ty = fix_ty (rename_fix m fix); is = ap (head_ty p) is; context = values_shapes us; monos = formed_monos (fix_ty_formed own); shape = fix_ty_shape own })
      (λ ts f. formed_fix is own (captured_closed site.context (captured_at p site) c) f)

  -- the head is a value
  pub named_val : {whole : Shape} {r : MonoTree} {n : ℕ} {context : Shapes} (v : ProgramVal)
      → slice_get p.vals n ≡ Some v
      → MonosFormed context v.ty
      → shape_of v.ty ≡ whole
      → IsClosedShape whole
      → slice_get file.vals n ≡ Some whole
      → head_of site.call ≡ t_val n
      → FormedArguments file g whole (arguments_of site.call) (sh_comp r)
      → NamedCall file p site r
  unfolding rename_term
  named_val {whole = whole} {r = r} {n = n} {context = context} v found monos shape k d q arguments =
      let m = number_in (captured_at p site) in
      let is : rename_term m (head_of site.call) ≡ t_val n = ap (rename_term m) q in
      let ty_is : head_ty p (t_val n) ≡ v.ty = ap ty_of_val found in
      named_by (subst (λ h. IsFormedNeutral file g h whole) (sym q) (w_val d)) (ap (λ h. shape_of (head_ty p h)) q ∙ ap shape_of ty_is ∙ shape) k arguments
      (record { ty = v.ty; is = ap (head_ty p) is ∙ ty_is; context = context; monos = monos; shape = shape })
      (λ ts f. formed_val is found (captured_closed site.context (captured_at p site) c)
      (subst (λ s. FormedFixed file (values_shapes us) s (key_of_site p site).fixed ts r) (sym shape) f))
