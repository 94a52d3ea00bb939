-- The bodies of instances with formed keys, for each kind of head.
use Rattle.std.proofs.Common.{◌≡◌, ℕ, zero, List, [], ◌∷◌, ◌++◌, length, map, flat_map, reverse, All, Some, slice_get, sym, ap, ◌∙◌, subst}
use Rattle.std.proofs.lemmas.List.{length-reverse, reverse-reverse}
use Rattle.std.proofs.lemmas.List.Elements.{All-nil, All-cons, All-append, All-head, All-tail}
use Rattle.htt_syntax.specs.Trees.{MonoTree, TyTree, TermTree, FixTree, CompTree, m_var, t_fix, t_do}
use Rattle.theory_renaming.specs.Renaming.{shifting, rename_term, rename_fix}
use Rattle.theory_values.specs.Values.{IsClosed}
use Rattle.theory_canonical.specs.Skeletons.{Skeleton, skeleton}
use Rattle.theory_canonical.specs.Eta.{eta}
use Rattle.theory_formed_shapes.specs.Shapes.{Shape, sh_comp, shape_of, renaming_of, Shapes}
use Rattle.theory_formed_shapes.specs.Formed.{FileShapes, IsFormedTerm, IsFormedNeutral, w_made, w_fix, IsFormedFix, IsFormedComp, IsClosedFile, IsFormedTerms}
use Rattle.theory_formed_shapes.proofs.Fillings.{shape_kept}
use Rattle.theory_formed_shapes.proofs.Monos.{MonosFormed, formed_monos}
use Rattle.theory_formed_shapes.proofs.Renamed.{neutral_renamed}
use Rattle.theory_formed_substitution.proofs.Put.{do_comp}
use Rattle.theory_formed_canonical.specs.Laws.{bare}
use Rattle.theory_formed_canonical.proofs.Bare.{bare_shape}
use Rattle.theory_formed_typing.proofs.Closed.{map_get}
use Rattle.theory_formed_typing.proofs.Expanded.{eta_formed}
use Rattle.theory_instances.specs.Calls.{Program, Argument, of_term, rename_argument, passed_count, all_arguments, fix_ty, head_ty, terms_from, variables}
use Rattle.theory_instances.specs.Keys.{Key}
use Rattle.theory_instances.specs.Occurrences.{met_in_argument}
use Rattle.theory_instances.specs.Bodies.{passed_monos, result_mono, params_of, result_of, Puts, opened_fix, opened_skeleton, past_passed, arguments_within, made_of}
use Rattle.theory_formed_met.specs.Laws.{CarriesEntry}
use Rattle.theory_instances_formed.specs.Formed.{values_shapes, made_of_head, made_shape, file_with, FormedFixed, fixed_end, fixed_value, fixed_term, fixed_mono}
use Rattle.theory_instances_formed.proofs.Shapes.{IsClosedShape, closed_value, closed_result, closed_argument, closed_answer, closed_instance, formed_closed, carries}
use Rattle.theory_instances_formed.proofs.Shapes.{fills_values}
use Rattle.theory_instances_formed.proofs.Sites.{FormedArguments, FormedPassed, fixed_carried}
use Rattle.theory_instances_formed.proofs.Variables.{Stand, reverse_cons, from, variables_are, variables_past, front_stands, back_stands, stand_reverse, stand_terms, stand_passed}
use Rattle.theory_instances_formed.proofs.Passed.{monos_are, count_is}
use Rattle.theory_instances_formed.proofs.Bodies.{put_formed, all_formed, each_any, past_keeps, opened_formed, fix_ty_formed, fix_ty_shape, fix_plain}
use Rattle.theory_instances_formed.proofs.Bodies.{opened_arguments}

-- what is passed, and the result, are of closed monotypes
pub passed_closed : {file : FileShapes} (xs : List MonoTree) {s : Shape} {fixed : List Argument} {ts : List MonoTree} {r : MonoTree}
    → IsClosedShape s
    → FormedFixed file (values_shapes xs) s fixed ts r
    → All IsClosed ts × IsClosed r
passed_closed xs c fixed_end = (All-nil IsClosed, closed_result c)
passed_closed xs c (fixed_value {t = t} {ts = ts} d) =
    let k = passed_closed xs (closed_answer c) d in (All-cons IsClosed t ts (closed_value (closed_argument c)) (k.0), k.1)
passed_closed xs c (fixed_term i e d) = passed_closed xs (closed_answer c) d
passed_closed xs c (fixed_mono m d) = passed_closed xs (closed_instance c (formed_closed xs m)) d

pub reversed_closed : (ts : List MonoTree) → All IsClosed ts → All IsClosed (reverse ts)
reversed_closed [] c = All-nil IsClosed
reversed_closed (t ∷ ts) c =
    subst (All IsClosed) (sym (reverse_cons t ts))
    (All-append IsClosed (reverse ts) (t ∷ []) (reversed_closed ts (All-tail IsClosed t ts c))
    (All-cons IsClosed t [] (All-head IsClosed t ts c) (All-nil IsClosed)))

-- the parameters of a key and its result
pub record Told (p : Program) (key : Key) (ts : List MonoTree) (r : MonoTree) : Type 0 where
  pub params : params_of p key ≡ reverse ts ++ key.captured
  pub result : result_of p key ≡ r

pub told : {file : FileShapes} {g c : Shapes} (p : Program) (key : Key) (ty : TyTree) {ts : List MonoTree} {r : MonoTree}
    → head_ty p key.head ≡ ty
    → MonosFormed c ty
    → FormedFixed file g (shape_of ty) key.fixed ts r
    → Told p key ts r
told {file = file} {g = g} p key ty {ts = ts} {r = r} q m d =
    let k = monos_are (λ n. m_var n) m (subst (λ s. FormedFixed file g s key.fixed ts r) (sym (shape_kept (shape_of ty))) d) in
    record {
      params = ap (λ a. reverse (passed_monos m_var a key.fixed) ++ key.captured) q ∙ ap (λ us. reverse us ++ key.captured) (k.0);
      result = ap (λ a. result_mono m_var a key.fixed) q ∙ k.1;
    }

module _ {file : FileShapes} (closed : IsClosedFile file) (key : Key) (captured : All IsClosed key.captured) where
  -- the arguments of the head, within the body
  within_formed : {s : Shape} {ts : List MonoTree} {r : MonoTree} (k : Skeleton)
      → IsClosedShape s
      → bare s ≡ k
      → FormedFixed file (values_shapes key.captured) s key.fixed ts r
      → FormedArguments file (values_shapes (reverse ts ++ key.captured)) s (arguments_within k key) (sh_comp r)
  within_formed {s = s} {ts = ts} {r = r} k c q d =
      let n = passed_count k in
      let count : n ≡ length (reverse ts) = ap passed_count (sym q) ∙ count_is d ∙ sym (length-reverse ts) in
      let whole = reverse ts ++ key.captured in
      let all : All IsClosed whole =
      All-append IsClosed (reverse ts) key.captured (reversed_closed ts ((passed_closed key.captured c d).0)) captured in
      let fixed : FormedFixed file (values_shapes whole) s (map (rename_argument (shifting zero n)) key.fixed) ts r =
      fixed_carried (shifting zero n) key.captured whole closed c d
      (each_any (CarriesEntry (shifting zero n) (values_shapes key.captured) (values_shapes whole)) (flat_map met_in_argument key.fixed)
      (λ i. carries (shifting zero n) key.captured whole i captured all (past_keeps n (reverse ts) key.captured count i))) in
      let stand : Stand (values_shapes whole) (reverse (from zero n)) ts =
      subst (Stand (values_shapes whole) (reverse (from zero n))) (reverse-reverse ts)
      (stand_reverse (values_shapes whole) (from zero n) (reverse ts)
      (subst (λ m. Stand (values_shapes whole) (from zero m) (reverse ts)) (sym count) (front_stands (reverse ts) key.captured all))) in
      let passed : FormedPassed file (values_shapes whole) (variables n) ts =
      subst (λ vs. FormedPassed file (values_shapes whole) vs ts) (sym (variables_are n)) (stand_passed (values_shapes whole) (reverse (from zero n)) ts stand) in
      subst (λ m. FormedArguments file (values_shapes whole) s (all_arguments m (map (rename_argument (shifting zero n)) key.fixed) (variables n)) (sh_comp r)) q
      (all_formed fixed passed)

  pub val_body : {s : Shape} {ts : List MonoTree} {r : MonoTree} (k : Skeleton) {term : TermTree} {results : List TermTree} {comp : CompTree}
      → IsClosedShape s
      → bare s ≡ k
      → FormedFixed file (values_shapes key.captured) s key.fixed ts r
      → IsFormedTerm file (values_shapes (reverse ts ++ key.captured)) term s
      → Puts term k (arguments_within k key) results (t_do comp)
      → IsFormedComp file (values_shapes (reverse ts ++ key.captured)) comp r
  val_body k c q d t puts = do_comp (put_formed closed puts t (within_formed k c q d))

pub fix_of : {file : FileShapes} {g : Shapes} {at : ℕ} {fix : FixTree} {s : Shape} → IsFormedNeutral file g (t_fix at fix) s → IsFormedFix file g s fix s
fix_of (w_fix d) = d

module _ (recs : List (List MonoTree)) (p : Program) (keys : List Key) (closed : IsClosedFile (file_with recs p keys)) where
  abbrev file : FileShapes
  file = file_with recs p keys

  -- a recursive function, with the captured variables past those that are passed
  own_formed : {s : Shape} (at : ℕ) {fix : FixTree} (n : ℕ) (passed us : List MonoTree)
      → n ≡ length passed
      → All IsClosed us
      → All IsClosed (passed ++ us)
      → IsClosedShape s
      → IsFormedFix file (values_shapes us) s fix s
      → IsFormedFix file (values_shapes (passed ++ us)) s (rename_fix (shifting zero n) fix) s
  unfolding rename_term
  own_formed {s = s} at {fix = fix} n passed us q c all k d =
      let head =
      neutral_renamed (w_fix {at = at} d) closed
      (fills_values (shifting zero n) us (passed ++ us) c all (λ i. past_keeps n passed us q i)) in
      fix_of (subst (IsFormedNeutral file (values_shapes (passed ++ us)) (t_fix at (rename_fix (shifting zero n) fix))) (k (renaming_of (shifting zero n))) head)

  pub fix_body : (number : ℕ) (key : Key) {s : Shape} {at : ℕ} {fix own : FixTree} {ts : List MonoTree} {r : MonoTree} {results : List TermTree} {comp : CompTree}
      → All IsClosed key.captured
      → slice_get keys number ≡ Some key
      → key.head ≡ t_fix at fix
      → IsClosedShape s
      → IsFormedFix file (values_shapes key.captured) s fix s
      → FormedFixed file (values_shapes key.captured) s key.fixed ts r
      → own ≡ rename_fix (past_passed (skeleton (fix_ty fix))) fix
      → Puts (opened_fix own) (opened_skeleton (skeleton (fix_ty own)) own)
      (arguments_within (skeleton (fix_ty own)) key ++ of_term (eta (made_of number (skeleton (fix_ty own)) key) (fix_ty own)) ∷ []) results (t_do comp)
      → IsFormedComp file (values_shapes (reverse ts ++ key.captured)) comp r
  fix_body number key {s = s} {at = at} {fix = fix} {own = own} {ts = ts} {r = r} captured there head k d f is_own puts =
      let whole = reverse ts ++ key.captured in
      let all : All IsClosed whole =
      All-append IsClosed (reverse ts) key.captured (reversed_closed ts ((passed_closed key.captured k f).0)) captured in
      let first : skeleton (fix_ty fix) ≡ bare s = sym (bare_shape (fix_ty fix)) ∙ ap bare (fix_ty_shape d) in
      let count : passed_count (skeleton (fix_ty fix)) ≡ length (reverse ts) = ap passed_count first ∙ count_is f ∙ sym (length-reverse ts) in
      let formed : IsFormedFix file (values_shapes whole) s own s =
      subst (λ o. IsFormedFix file (values_shapes whole) s o s) (sym is_own)
      (own_formed at (passed_count (skeleton (fix_ty fix))) (reverse ts) key.captured count captured all k d) in
      let again : bare s ≡ skeleton (fix_ty own) = ap bare (sym (fix_ty_shape formed)) ∙ bare_shape (fix_ty own) in
      let n = passed_count (skeleton (fix_ty own)) in
      let own_count : n ≡ length (reverse ts) = ap passed_count (sym again) ∙ count_is f ∙ sym (length-reverse ts) in
      let terms : IsFormedTerms file (values_shapes whole)
      (terms_from (map (rename_term (past_passed (skeleton (fix_ty own)))) (variables (length key.captured)))) (reverse key.captured) =
      subst (λ vs. IsFormedTerms file (values_shapes whole) (terms_from vs) (reverse key.captured)) (sym (variables_past n (length key.captured)))
      (stand_terms (values_shapes whole) (reverse (from n (length key.captured))) (reverse key.captured)
      (stand_reverse (values_shapes whole) (from n (length key.captured)) key.captured (back_stands (reverse ts) key.captured n own_count all))) in
      let shape : shape_of (fix_ty fix) ≡ shape_of (fix_ty own) = fix_ty_shape d ∙ sym (fix_ty_shape formed) in
      let found : slice_get file.made number ≡ Some (made_of_head key.captured (t_fix at fix)) =
      map_get made_shape keys number key there ∙ ap (λ h. Some (made_of_head key.captured h)) head in
      let made : IsFormedNeutral file (values_shapes whole) (made_of number (skeleton (fix_ty own)) key) (shape_of (fix_ty own)) =
      subst (IsFormedNeutral file (values_shapes whole) (made_of number (skeleton (fix_ty own)) key)) shape (w_made found terms) in
      let itself : IsFormedTerm file (values_shapes whole) (eta (made_of number (skeleton (fix_ty own)) key) (fix_ty own)) s =
      subst (IsFormedTerm file (values_shapes whole) (eta (made_of number (skeleton (fix_ty own)) key) (fix_ty own))) (fix_ty_shape formed)
      (eta_formed (formed_monos (fix_ty_formed formed)) closed made) in
      do_comp (put_formed closed puts (opened_formed formed)
      (opened_arguments (within_formed closed key captured (skeleton (fix_ty own)) k again f) (fix_plain formed) itself))
