-- Along the list of instances, keys and bodies are formed, with the made functions of the keys so far.
use Rattle.std.proofs.Common.{◌≡◌, ℕ, zero, suc, List, [], ◌∷◌, ◌++◌, map, flat_map, reverse, All, Some, None, slice_get, ◌⊎◌, inl, inr, refl, sym, ap, ◌∙◌, subst}
use Rattle.std.proofs.lemmas.List.Elements.{All-nil, All-cons, All-append, All-head, All-tail}
use Rattle.std.proofs.lemmas.Option.{same_Some}
use Rattle.htt_syntax.specs.Trees.{MonoTree, TyTree, TripleTree, TermTree, FixTree, CompTree, StepTree, y_hoare, triple, t_val, t_fix, t_do}
use Rattle.theory_renaming.specs.Renaming.{rename_fix}
use Rattle.theory_values.specs.Values.{IsClosed, closed_loc, closed_unit}
use Rattle.theory_canonical.specs.Skeletons.{skeleton}
use Rattle.theory_substitution.specs.Monotypes.{Filling, next_filling, fill_mono}
use Rattle.theory_formed_shapes.specs.Shapes.{Shape, sh_mono, sh_comp, shape_of, fill_shape, in_term, Shapes}
use Rattle.theory_formed_shapes.specs.Formed.{MadeShape, FileShapes, IsFormedMono, IsFormedNeutral, w_var, w_val, w_made, w_fix, w_app, w_inst, IsFormedComp}
use Rattle.theory_formed_shapes.specs.Formed.{z_ret, z_step, IsFormedStep, z_run, z_alloc, z_get, z_set, z_free, z_if, fill_monos, IsClosedFile}
use Rattle.theory_formed_shapes.proofs.Monos.{formed_monos}
use Rattle.theory_formed_shapes.proofs.More.{HasFile, term_more, fix_more, comp_more}
use Rattle.theory_formed_canonical.proofs.Bare.{bare_shape}
use Rattle.theory_formed_typing.proofs.Closed.{map_get, mapped, closed_term}
use Rattle.theory_instances.specs.Calls.{ProgramVal, Program, Argument, head_of, arguments_of, fix_ty, ty_of_val, head_ty, bound_mono, Site, sites_of}
use Rattle.theory_instances.specs.Calls.{sites_of_step}
use Rattle.theory_instances.specs.Keys.{Key, key_of_site, keys_of_head, keys_of_site}
use Rattle.theory_instances.specs.Bodies.{params_of, result_of, Puts, past_passed, arguments_within, HasBody, body_of_val, body_of_fix}
use Rattle.theory_instances.specs.Lists.{Meets, meets_none, meets_known, meets_new, Taken, TakesUp, TakesAll, takes_end, takes_next, IsMain, main_key}
use Rattle.theory_instances_formed.specs.Formed.{not_made, made_of_head, values_shapes, made_shape, file_with, IsFormedProgram, FormedFixed, fixed_end, fixed_value, fixed_term, fixed_mono, IsFormedKey}
use Rattle.theory_instances_formed.specs.Formed.{formed_val, formed_fix}
use Rattle.theory_instances_formed.specs.Laws.{InstancesAreFormed}
use Rattle.theory_instances_formed.proofs.Shapes.{IsClosedShape, closed_filled, formed_closed, closed_shape}
use Rattle.theory_instances_formed.proofs.Sites.{FormedArguments, spine_of}
use Rattle.theory_instances_formed.proofs.Bodies.{fix_ty_shape, fix_ty_formed}
use Rattle.theory_instances_formed.proofs.Named.{NamedCall, named_val, named_fix}
use Rattle.theory_instances_formed.proofs.Taken.{passed_closed, reversed_closed, Told, told, val_body, fix_body}

none_some : {A : Type 0} {x : A} → None ≡ Some x → ⊥
none_some q = cc

none_named : {key : Key} → [] ≡ key ∷ [] → ⊥
none_named q = cc

not_made_closed : IsClosedShape not_made.whole
unfolding fill_shape fill_mono next_filling
not_made_closed = λ f. refl

-- ---- with more keys

in_front : {A : Type 0} (xs ys : List A) (n : ℕ) (x : A) → slice_get xs n ≡ Some x → slice_get (xs ++ ys) n ≡ Some x
in_front [] ys n x q = absurd (none_some q)
in_front (y ∷ xs) ys zero x q = q
in_front (y ∷ xs) ys (suc n) x q = in_front xs ys n x q

at_end : (keys : List Key) (key k : Key) (n : ℕ) → slice_get (keys ++ key ∷ []) n ≡ Some k → (slice_get keys n ≡ Some k) ⊎ (key ≡ k)
at_end [] key k zero q = inr (same_Some key k q)
at_end [] key k (suc n) q = absurd (none_some q)
at_end (x ∷ keys) key k zero q = inl q
at_end (x ∷ keys) key k (suc n) q = at_end keys key k n q

-- the keys that are there stay there
abbrev pub Within : List Key → List Key → Type 0
Within keys more = (n : ℕ) (k : Key) → slice_get keys n ≡ Some k → slice_get more n ≡ Some k

pub met_stays : {keys met after : List Key} → Meets keys met after → Within keys after
met_stays meets_none n k q = q
met_stays (meets_known i l a) n k q = met_stays a n k q
met_stays {keys = keys} (meets_new {key = key} f l a) n k q = met_stays a n k (in_front keys (key ∷ []) n k q)

pub taken_stays : {p : Program} {keys final : List Key} {number : ℕ} {rows : List Taken} → TakesAll p keys number rows final → Within keys final
taken_stays (takes_end r) n k q = q
taken_stays (takes_next r u m rest) n k q = taken_stays rest n k (met_stays m n k q)

fixed_more : {file more : FileShapes} {g : Shapes} {s : Shape} {fixed : List Argument} {ts : List MonoTree} {r : MonoTree}
    → HasFile file more
    → FormedFixed file g s fixed ts r
    → FormedFixed more g s fixed ts r
fixed_more h fixed_end = fixed_end
fixed_more h (fixed_value d) = fixed_value (fixed_more h d)
fixed_more h (fixed_term i e d) = fixed_term i (term_more h e) (fixed_more h d)
fixed_more h (fixed_mono m d) = fixed_mono m (fixed_more h d)

key_more : {file more : FileShapes} {p : Program} {key : Key} → HasFile file more → IsFormedKey file p key → IsFormedKey more p key
key_more h (formed_val q f c d) = formed_val q f c (fixed_more h d)
key_more h (formed_fix q d c f) = formed_fix q (fix_more h d) c (fixed_more h f)

-- ---- the calls of a formed computation

record SiteFormed (file : FileShapes) (site : Site) : Type 0 where
  result : MonoTree
  formed : IsFormedNeutral file (values_shapes site.context) site.call (sh_comp result)
  closed : All IsClosed site.context

abbrev EachSite : FileShapes → List Site → Type 0
EachSite file [] = Unit {0}
EachSite file (site ∷ others) = SiteFormed file site × EachSite file others

each_append : (file : FileShapes) (xs ys : List Site) → EachSite file xs → EachSite file ys → EachSite file (xs ++ ys)
each_append file [] ys a b = b
each_append file (x ∷ xs) ys a b = (a.0, each_append file xs ys (a.1) b)

-- the monotype of the variable that a step binds
pub step_bound : {file : FileShapes} {g : Shapes} {step : StepTree} {u : MonoTree} → IsFormedStep file g step u → bound_mono step ≡ u
step_bound (z_run d m) = refl
step_bound (z_alloc m d) = refl
step_bound (z_get m d) = refl
step_bound (z_set m d e) = refl
step_bound (z_free m d) = refl
step_bound (z_if m d e f) = refl

pub step_closed : {file : FileShapes} (g : List MonoTree) {step : StepTree} {u : MonoTree} → IsFormedStep file (values_shapes g) step u → IsClosed u
step_closed g (z_run d m) = formed_closed g m
step_closed g (z_alloc m d) = closed_loc
step_closed g (z_get m d) = formed_closed g m
step_closed g (z_set m d e) = closed_unit
step_closed g (z_free m d) = closed_unit
step_closed g (z_if m d e f) = formed_closed g m

mutual
  unfolding sites_of

  sites_formed : {file : FileShapes} {context : Shapes} {comp : CompTree} {t : MonoTree} (g : List MonoTree)
      → IsFormedComp file context comp t
      → context ≡ values_shapes g
      → All IsClosed g
      → EachSite file (sites_of g comp)
  sites_formed g (z_ret d) q c = tt
  sites_formed {file = file} g (z_step {step = step} {others = others} {t = t} {u = u} d e) q c =
      let closed : IsClosed u = step_closed g (subst (λ k. IsFormedStep file k step u) q d) in
      each_append file (sites_of_step g step) (sites_of (bound_mono step ∷ g) others) (step_formed g d q c)
      (subst (λ x. EachSite file (sites_of (x ∷ g) others)) (sym (step_bound d))
      (sites_formed (u ∷ g) e (λ j. in_term (sh_mono u) ∷ q j) (All-cons IsClosed u g closed c)))

  step_formed : {file : FileShapes} {context : Shapes} {step : StepTree} {u : MonoTree} (g : List MonoTree)
      → IsFormedStep file context step u
      → context ≡ values_shapes g
      → All IsClosed g
      → EachSite file (sites_of_step g step)
  step_formed {file = file} g (z_run {term = term} {t = t} d m) q c =
      (record { result = t; formed = subst (λ k. IsFormedNeutral file k term (sh_comp t)) q d; closed = c }, tt)
  step_formed g (z_alloc m d) q c = tt
  step_formed g (z_get m d) q c = tt
  step_formed g (z_set m d e) q c = tt
  step_formed g (z_free m d) q c = tt
  step_formed {file = file} g (z_if {on_true = on_true} {on_false = on_false} m d e f) q c =
      each_append file (sites_of g on_true) (sites_of g on_false) (sites_formed g e q c) (sites_formed g f q c)

module _ (recs : List (List MonoTree)) (p : Program) (program : IsFormedProgram recs p) where
  abbrev file : List Key → FileShapes
  file keys = file_with recs p keys

  pub file_more : (keys more : List Key) → Within keys more → HasFile (file keys) (file more)
  file_more keys more w = record {
    vals = λ n s q. q;
    made = λ n m q.
        let o = mapped made_shape keys n m q in subst (λ x. slice_get (map made_shape more) n ≡ Some x) o.is (map_get made_shape more n o.of (w n o.of o.found));
    recs = λ n ts q. q;
  }

  -- the shape of a value is closed
  val_shape : (n : ℕ) (v : ProgramVal) → slice_get p.vals n ≡ Some v → IsClosedShape (shape_of v.ty)
  val_shape n v q = closed_shape [] (formed_monos (program.types n v q))

  -- the keys so far are formed
  abbrev pub Known : List Key → Type 0
  Known keys = (n : ℕ) (k : Key) → slice_get keys n ≡ Some k → IsFormedKey (file keys) p k

  -- the made function of a formed key is closed
  key_made : {some : FileShapes} {key : Key} → IsFormedKey some p key → IsClosedShape (made_shape key).whole
  key_made {key = key} (formed_val q found c d) = subst (λ h. IsClosedShape (made_of_head key.captured h).whole) (sym q) not_made_closed
  key_made {key = key} (formed_fix q d c f) =
      subst (λ h. IsClosedShape (made_of_head key.captured h).whole) (sym q) (closed_shape key.captured (formed_monos (fix_ty_formed d)))

  monos_stay : (f : Filling) (ts : List MonoTree) → All IsClosed ts → fill_monos f ts ≡ ts
  monos_stay f [] c = refl
  monos_stay f (t ∷ ts) c = λ j. closed_filled f (All-head IsClosed t ts c) j ∷ monos_stay f ts (All-tail IsClosed t ts c) j

  made_captured : (key : Key) (f : Filling) → All IsClosed key.captured → fill_monos f (made_shape key).captured ≡ (made_shape key).captured
  made_captured key f c = go key.head
    where
      go : (head : TermTree) → fill_monos f (made_of_head key.captured head).captured ≡ (made_of_head key.captured head).captured
      go (t_fix at fix) = monos_stay f (reverse key.captured) (reversed_closed key.captured c)
      go head = refl

  key_captured : {some : FileShapes} {key : Key} → IsFormedKey some p key → All IsClosed key.captured
  key_captured (formed_val q found c d) = c
  key_captured (formed_fix q d c f) = c

  params_closed : (ts : List MonoTree) → All (IsFormedMono []) ts → All IsClosed ts
  params_closed ts a = λ k d l. formed_closed [] (a k d l)

  pub file_closed : (keys : List Key) → Known keys → IsClosedFile (file keys)
  file_closed keys known = record {
    vals = λ n s q f.
        let o = mapped (λ (v : ProgramVal). shape_of v.ty) p.vals n s q in subst (λ a. fill_shape f a ≡ a) o.is (val_shape n o.of o.found f);
    captured = λ n m q f.
        let o = mapped made_shape keys n m q in
        subst (λ (x : MadeShape). fill_monos f x.captured ≡ x.captured) o.is (made_captured o.of f (key_captured (known n o.of o.found)));
    made = λ n m q f.
        let o = mapped made_shape keys n m q in subst (λ (x : MadeShape). fill_shape f x.whole ≡ x.whole) o.is (key_made (known n o.of o.found) f);
    recs = λ n ts q f. monos_stay f ts (params_closed ts (program.params n ts q));
  }

  abbrev EachKey : List Key → List Key → Type 0
  EachKey keys [] = Unit {0}
  EachKey keys (key ∷ others) = IsFormedKey (file keys) p key × EachKey keys others

  keys_append : (keys xs ys : List Key) → EachKey keys xs → EachKey keys ys → EachKey keys (xs ++ ys)
  keys_append keys [] ys a b = b
  keys_append keys (x ∷ xs) ys a b = (a.0, keys_append keys xs ys (a.1) b)

  -- a call whose head is a value or a recursive function
  named_head : (keys : List Key) (site : Site) (whole : Shape) (term : TermTree) (key : Key) {r : MonoTree}
      → IsClosedFile (file keys)
      → All IsClosed site.context
      → IsFormedNeutral (file keys) (values_shapes site.context) term whole
      → head_of site.call ≡ term
      → FormedArguments (file keys) (values_shapes site.context) whole (arguments_of site.call) (sh_comp r)
      → keys_of_head term (key_of_site p site) ≡ key ∷ []
      → NamedCall (file keys) p site r
  named_head keys site whole term key closed c (w_val {number = n} d) q arguments names =
      let o = mapped (λ (v : ProgramVal). shape_of v.ty) p.vals n whole d in
      named_val p site closed c o.of o.found (formed_monos (program.types n o.of o.found)) o.is (subst IsClosedShape o.is (val_shape n o.of o.found)) d q arguments
  named_head keys site whole term key closed c (w_fix d) q arguments names = named_fix p site closed c d q arguments
  named_head keys site whole term key closed c (w_made d e) q arguments names = absurd (none_named names)
  named_head keys site whole term key closed c (w_var d) q arguments names = absurd (none_named names)
  named_head keys site whole term key closed c (w_app d e) q arguments names = absurd (none_named names)
  named_head keys site whole term key closed c (w_inst d e) q arguments names = absurd (none_named names)

  pub named : (keys : List Key) (site : Site) (key : Key) {r : MonoTree}
      → IsClosedFile (file keys)
      → All IsClosed site.context
      → IsFormedNeutral (file keys) (values_shapes site.context) site.call (sh_comp r)
      → keys_of_site p site ≡ key ∷ []
      → NamedCall (file keys) p site r
  named keys site key closed c d names =
      let spine = spine_of d in named_head keys site spine.whole (head_of site.call) key closed c spine.head refl spine.arguments names

  key_formed : (keys : List Key) (site : Site) (term : TermTree)
      → IsClosedFile (file keys)
      → SiteFormed (file keys) site
      → head_of site.call ≡ term
      → EachKey keys (keys_of_head term (key_of_site p site))
  key_formed keys site (t_val n) closed s q =
      ((named keys site (key_of_site p site) closed s.closed s.formed (ap (λ h. keys_of_head h (key_of_site p site)) q)).key, tt)
  key_formed keys site (t_fix at fix) closed s q =
      ((named keys site (key_of_site p site) closed s.closed s.formed (ap (λ h. keys_of_head h (key_of_site p site)) q)).key, tt)
  key_formed keys site term closed s q = tt

  keys_formed : (keys : List Key) (sites : List Site) → IsClosedFile (file keys) → EachSite (file keys) sites → EachKey keys (flat_map (keys_of_site p) sites)
  keys_formed keys [] closed a = tt
  keys_formed keys (site ∷ sites) closed a =
      keys_append keys (keys_of_site p site) (flat_map (keys_of_site p) sites) (key_formed keys site (head_of site.call) closed (a.0) refl)
      (keys_formed keys sites closed (a.1))

  -- ---- bodies

  record BodyFormed (keys : List Key) (key : Key) (comp : CompTree) : Type 0 where
    params : All IsClosed (params_of p key)
    result : IsClosed (result_of p key)
    formed : IsFormedComp (file keys) (values_shapes (params_of p key)) comp (result_of p key)

  same_val : {n m : ℕ} → t_val n ≡ t_val m → n ≡ m
  same_val q = cc

  same_fix : {a b : ℕ} {f g : FixTree} → t_fix a f ≡ t_fix b g → f ≡ g
  same_fix q = cc

  no_fix : {n a : ℕ} {f : FixTree} → t_val n ≡ t_fix a f → ⊥
  no_fix q = cc

  as_told : (keys : List Key) (key : Key) {comp : CompTree} {ts : List MonoTree} {r : MonoTree}
      → Told p key ts r
      → All IsClosed ts × IsClosed r
      → All IsClosed key.captured
      → IsFormedComp (file keys) (values_shapes (reverse ts ++ key.captured)) comp r
      → BodyFormed keys key comp
  as_told keys key {comp = comp} {ts = ts} {r = r} t c k d = record {
    params = subst (All IsClosed) (sym t.params) (All-append IsClosed (reverse ts) key.captured (reversed_closed ts (c.0)) k);
    result = subst IsClosed (sym t.result) (c.1);
    formed =
        subst (λ g. IsFormedComp (file keys) (values_shapes g) comp (result_of p key)) (sym t.params)
        (subst (IsFormedComp (file keys) (values_shapes (reverse ts ++ key.captured)) comp) (sym t.result) d);
  }

  body_formed : (keys : List Key) (number : ℕ) (key : Key) {results : List TermTree} {comp : CompTree}
      → IsClosedFile (file keys)
      → slice_get keys number ≡ Some key
      → IsFormedKey (file keys) p key
      → HasBody p number key results comp
      → BodyFormed keys key comp
  body_formed keys number key {results = results} {comp = comp} closed there (formed_val {n = n} {v = v} {ts = ts} q found captured d)
      (body_of_val {n = i} {v = u} r here puts) =
      let same : u ≡ v = same_Some u v (sym here ∙ ap (λ j. slice_get p.vals j) (same_val (sym r ∙ q)) ∙ found) in
      let shape = val_shape n v found in
      let term = closed_term (values_shapes (reverse ts ++ key.captured)) (term_more (file_more [] keys (λ i k z. absurd (none_some z))) (program.terms n v found)) closed in
      as_told keys key
      (told p key v.ty (ap (head_ty p) q ∙ ap ty_of_val found) (formed_monos (program.types n v found)) d) (passed_closed key.captured shape d) captured
      (val_body closed key captured (skeleton v.ty) shape (bare_shape v.ty) d term
      (subst (λ (x : ProgramVal). Puts x.term (skeleton x.ty) (arguments_within (skeleton x.ty) key) results (t_do comp)) same puts))
  body_formed keys number key closed there (formed_fix {at = at} {fix = fix} {s = s} {ts = ts} {r = answer} q d captured f) (body_of_fix {fix = other} {own = own} r is_own puts) =
      let shape : IsClosedShape s = subst IsClosedShape (fix_ty_shape d) (closed_shape key.captured (formed_monos (fix_ty_formed d))) in
      let same : own ≡ rename_fix (past_passed (skeleton (fix_ty fix))) fix =
      is_own ∙ ap (λ (x : FixTree). rename_fix (past_passed (skeleton (fix_ty x))) x) (same_fix (sym r ∙ q)) in
      as_told keys key
      (told p key (fix_ty fix) (ap (head_ty p) q) (formed_monos (fix_ty_formed d))
      (subst (λ a. FormedFixed (file keys) (values_shapes key.captured) a key.fixed ts answer) (sym (fix_ty_shape d)) f))
      (passed_closed key.captured shape f) captured
      (fix_body recs p keys closed number key captured there q shape d f same puts)
  body_formed keys number key closed there (formed_val q found captured d) (body_of_fix r is_own puts) = absurd (no_fix (sym q ∙ r))
  body_formed keys number key closed there (formed_fix q d captured f) (body_of_val r here puts) = absurd (no_fix (sym r ∙ q))

  -- ---- along the list

  each_more : (keys more xs : List Key) → Within keys more → EachKey keys xs → EachKey more xs
  each_more keys more [] w a = tt
  each_more keys more (x ∷ xs) w a = (key_more (file_more keys more w) (a.0), each_more keys more xs w (a.1))

  met_known : {keys met after : List Key} → Meets keys met after → Known keys → EachKey keys met → Known after
  met_known meets_none a b = a
  met_known (meets_known i l m) a b = met_known m a (b.1)
  met_known {keys = keys} (meets_new {others = others} {key = key} f l m) a b =
      let w : Within keys (keys ++ key ∷ []) = λ n k q. in_front keys (key ∷ []) n k q in
      let h = file_more keys (keys ++ key ∷ []) w in
      met_known m
      (λ n k q. elim (at_end keys key k n q) [
        | inl r ↦ key_more h (a n k r)
        | inr r ↦ subst (IsFormedKey (file (keys ++ key ∷ [])) p) r (key_more h (b.0))
      ]) (each_more keys (keys ++ key ∷ []) others w (b.1))

  record TakenFormed (keys : List Key) (taken : Taken) : Type 0 where
    params : All IsClosed taken.params
    result : IsClosed taken.result
    formed : IsFormedComp (file keys) (values_shapes taken.params) taken.body taken.result

  taken_formed : (keys : List Key) (number : ℕ) (key : Key) (taken : Taken)
      → Known keys
      → slice_get keys number ≡ Some key
      → TakesUp p number key taken
      → TakenFormed keys taken
  taken_formed keys number key taken known there u =
      let b = body_formed keys number key (file_closed keys known) there (known number key there) u.has_body in
      record {
        params = subst (All IsClosed) (sym u.params) b.params;
        result = subst IsClosed (sym u.result) b.result;
        formed =
            subst (λ g. IsFormedComp (file keys) (values_shapes g) taken.body taken.result) (sym u.params)
            (subst (IsFormedComp (file keys) (values_shapes (params_of p key)) taken.body) (sym u.result) b.formed);
      }

  abbrev AllFormed : List Key → List Taken → Type 0
  AllFormed keys rows = (n : ℕ) (taken : Taken) → slice_get rows n ≡ Some taken → TakenFormed keys taken

  first_row : (keys : List Key) (taken : Taken) (others : List Taken) → TakenFormed keys taken → AllFormed keys others → AllFormed keys (taken ∷ others)
  first_row keys taken others a b zero other q = subst (TakenFormed keys) (same_Some taken other q) a
  first_row keys taken others a b (suc n) other q = b n other q

  all_formed_rows : {keys final : List Key} {number : ℕ} {rows : List Taken} → TakesAll p keys number rows final → Known keys → Known final × AllFormed final rows
  all_formed_rows (takes_end q) a = (a, λ n taken r. absurd (none_some r))
  all_formed_rows {keys = keys} {final = final} {number = number} (takes_next {key = key} {taken = taken} {others = others} q u m rest) a =
      let b = taken_formed keys number key taken a q u in
      let met = keys_formed keys (sites_of taken.params taken.body) (file_closed keys a) (sites_formed taken.params b.formed refl b.params) in
      let r = all_formed_rows rest (met_known m a met) in
      let w : Within keys final = λ n k z. taken_stays rest n k (met_stays m n k z) in (
        r.0,
        first_row final taken others
            (record { params = b.params; result = b.result; formed = comp_more (file_more keys final w) b.formed }) (r.1),
      )

  abbrev mono_of : TripleTree → MonoTree
  mono_of (triple pre t post) = t

  main_fixed : (some : FileShapes) (spec : TripleTree) → FormedFixed some [] (shape_of (y_hoare spec)) [] [] (mono_of spec)
  unfolding shape_of
  main_fixed some (triple pre t post) = fixed_end

  main_known : {number : ℕ} → IsMain p number → Known (main_key number ∷ [])
  main_known {number = number} m zero k q =
      subst (IsFormedKey (file (main_key number ∷ [])) p) (same_Some (main_key number) k q)
      (formed_val refl m.there (All-nil IsClosed)
      (subst (λ (t : TyTree). FormedFixed (file (main_key number ∷ [])) [] (shape_of t) [] [] (mono_of m.spec)) (sym m.is_hoare)
      (main_fixed (file (main_key number ∷ [])) m.spec)))
  main_known m (suc n) k q = absurd (none_some q)

pub formed : InstancesAreFormed
formed = record {
  keys = λ recs p instances keys program h. (all_formed_rows recs p program h.all (main_known recs p program h.main)).0;
  params = λ recs p instances keys program h number taken q.
      let t = (all_formed_rows recs p program h.all (main_known recs p program h.main)).1 number taken q in (t.params, t.result);
  bodies = λ recs p instances keys program h number taken q.
      ((all_formed_rows recs p program h.all (main_known recs p program h.main)).1 number taken q).formed;
}
