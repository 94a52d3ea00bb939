-- A call in a formed body names an instance, and gives it parameters of the instance's monotypes.
use Rattle.std.proofs.Common.{◌≡◌, ◌≤◌, ℕ, zero, suc, ◌+◌, List, [], ◌∷◌, ◌++◌, length, map, reverse, All, Some, None, slice_get, refl, sym, ap, ◌∙◌, subst, arith}
use Rattle.std.proofs.lemmas.List.{reverse-append, reverse-reverse}
use Rattle.std.proofs.lemmas.Option.{slice_get_within, same_Some}
use Rattle.htt_syntax.specs.Trees.{MonoTree, TermTree, TermTrees, t_val, t_fix, t_made}
use Rattle.theory_values.specs.Values.{IsClosed}
use Rattle.theory_canonical.specs.Skeletons.{skeleton}
use Rattle.theory_formed_shapes.specs.Shapes.{Shape, sh_comp, Shapes}
use Rattle.theory_formed_shapes.specs.Formed.{MadeShape, FileShapes, IsFormedNeutral, w_made, IsFormedTerms, IsClosedFile}
use Rattle.theory_formed_canonical.specs.Laws.{bare}
use Rattle.theory_formed_canonical.proofs.Bare.{bare_shape}
use Rattle.theory_formed_typing.proofs.Closed.{mapped}
use Rattle.theory_instances.specs.Calls.{Program, Argument, Site, head_of, arguments_of, passed_of, head_ty, fix_ty, list_of}
use Rattle.theory_instances.specs.Keys.{Key, key_of_site, mono_at, keys_of_head, keys_of_site, plain_key}
use Rattle.theory_instances.specs.Bodies.{params_of, result_of}
use Rattle.theory_instances.specs.Lists.{IsKnownAs, Taken, TakesAll, takes_end, takes_next}
use Rattle.theory_flat.specs.Flat.{Instance, captured_params, Names, names_key, names_made, IsFlat, AreFlat, flat_none, flat_more}
use Rattle.theory_flat_typed.specs.Typed.{HaveMonotypes, typed_none, typed_more}
use Rattle.theory_instances_formed.specs.Formed.{not_made, made_of_head, made_shape, values_shapes, file_with, IsFormedProgram}
use Rattle.theory_instances_formed.specs.Formed.{IsFormedKey, formed_val, formed_fix}
use Rattle.theory_instances_formed.proofs.Sites.{FormedArguments, arguments_term, spine_of, parted}
use Rattle.theory_instances_formed.proofs.Variables.{stand_reverse, stand_passed}
use Rattle.theory_instances_formed.proofs.Bodies.{fix_plain, fix_ty_shape}
use Rattle.theory_instances_formed.proofs.Taken.{Told}
use Rattle.theory_instances_formed.proofs.Named.{captured_at}
use Rattle.theory_instances_formed.proofs.Listed.{met_stays, taken_stays, named}
use Rattle.theory_flat_formed.proofs.Terms.{HeadsEnd, passed_typed, terms_typed, no_each}
use Rattle.theory_flat_formed.proofs.Same.{plain_told, fix_told, same_key}

-- ---- the instance of a key

some_or_none : {A : Type 0} {x : A} → Some x ≡ None → ⊥
some_or_none q = cc

none_key : {key : Key} → [] ≡ key ∷ [] → ⊥
none_key q = cc

first_key : {own key : Key} → own ∷ [] ≡ key ∷ [] → own ≡ key
first_key q = cc

record RowOf (p : Program) (rows : List Taken) (i : ℕ) (key : Key) : Type 0 where
  taken : Taken
  there : slice_get rows i ≡ Some taken
  params : taken.params ≡ params_of p key
  result : taken.result ≡ result_of p key

past_end : {A : Type 0} (xs : List A) (n : ℕ) → slice_get xs n ≡ None → length xs ≤ n
past_end [] n q = omega arith
past_end (x ∷ xs) zero q = absurd (some_or_none q)
past_end (x ∷ xs) (suc n) q = let r = past_end xs n q in omega (arith, r)

row_at : {p : Program} {keys final : List Key} {number : ℕ} {rows : List Taken}
    → TakesAll p keys number rows final
    → (i : ℕ) (key : Key)
    → slice_get final (i + number) ≡ Some key
    → RowOf p rows i key
row_at {keys = keys} {number = number} (takes_end q) i key r =
    let a = past_end keys number q in let b = slice_get_within keys (i + number) key r in absurd (omega (arith, a, b))
row_at {p = p} {final = final} {number = number} (takes_next {key = first} {taken = taken} q u m rest) zero key r =
    let e : zero + number ≡ number = omega arith in
    let here : slice_get final number ≡ Some key = subst (λ n. slice_get final n ≡ Some key) e r in
    let same : first ≡ key = same_Some first key (sym (taken_stays rest number first (met_stays m number first q)) ∙ here) in
    record { taken = taken; there = refl; params = u.params ∙ ap (params_of p) same; result = u.result ∙ ap (result_of p) same }
row_at {final = final} {number = number} (takes_next q u m rest) (suc i) key r =
    let e : suc i + number ≡ i + suc number = omega arith in
    let o = row_at rest i key (subst (λ n. slice_get final n ≡ Some key) e r) in
    record { taken = o.taken; there = o.there; params = o.params; result = o.result }

record FlatOf (p : Program) (keys : List Key) (instances : List Instance) (i : ℕ) (taken : Taken) : Type 0 where
  instance : Instance
  there : slice_get instances i ≡ Some instance
  flat : IsFlat p keys taken instance

flat_at : {p : Program} {keys : List Key} {rows : List Taken} {instances : List Instance}
    → AreFlat p keys rows instances
    → (i : ℕ) (taken : Taken)
    → slice_get rows i ≡ Some taken
    → FlatOf p keys instances i taken
flat_at flat_none i taken q = absurd (some_or_none (sym q))
flat_at {p = p} {keys = keys} (flat_more {taken = first} {instance = instance} a b) zero taken q =
    record { instance = instance; there = refl; flat = subst (λ t. IsFlat p keys t instance) (same_Some first taken q) a }
flat_at (flat_more a b) (suc i) taken q = let o = flat_at b i taken q in record { instance = o.instance; there = o.there; flat = o.flat }

-- the instance of a key has its parameters, in order, and its result
pub record InstanceOf (p : Program) (instances : List Instance) (number : ℕ) (key : Key) : Type 0 where
  pub instance : Instance
  pub there : slice_get instances number ≡ Some instance
  pub params : instance.params ≡ reverse (params_of p key)
  pub result : instance.result ≡ result_of p key

pub instance_of : {p : Program} {start keys : List Key} {rows : List Taken} {instances : List Instance}
    → TakesAll p start zero rows keys
    → AreFlat p keys rows instances
    → (number : ℕ) (key : Key)
    → slice_get keys number ≡ Some key
    → InstanceOf p instances number key
instance_of {keys = keys} all flat number key q =
    let e : number ≡ number + zero = omega arith in
    let r = row_at all number key (subst (λ n. slice_get keys n ≡ Some key) e q) in
    let o = flat_at flat number r.taken r.there in
    record { instance = o.instance; there = o.there; params = o.flat.params ∙ ap reverse r.params; result = o.flat.result ∙ r.result }

-- ---- terms in order

have_append : {g : List MonoTree} {xs ys : List TermTree} {ts us : List MonoTree}
    → HaveMonotypes g xs ts
    → HaveMonotypes g ys us
    → HaveMonotypes g (xs ++ ys) (ts ++ us)
have_append typed_none b = b
have_append (typed_more d a) b = typed_more d (have_append a b)

-- parameters in order: the captured variables, the first met first, and then what is passed
in_order : (ts captured : List MonoTree) → reverse (reverse ts ++ captured) ≡ reverse captured ++ ts
in_order ts captured = reverse-append (reverse ts) captured ∙ ap (λ us. reverse captured ++ us) (reverse-reverse ts)

-- ---- a call

pub record TypedCall (instances : List Instance) (g : List MonoTree) (number : ℕ) (given : List TermTree) (r : MonoTree) : Type 0 where
  pub instance : Instance
  pub there : slice_get instances number ≡ Some instance
  pub params : HaveMonotypes g given instance.params
  pub result : instance.result ≡ r

-- where a made function has this shape, its key is that of a recursive function
record MadeCall (file : FileShapes) (g : Shapes) (number : ℕ) (values : TermTrees) (whole : Shape) : Type 0 where
  made : MadeShape
  found : slice_get file.made number ≡ Some made
  values_formed : IsFormedTerms file g values made.captured
  is : made.whole ≡ whole

made_call : {file : FileShapes} {g : Shapes} {number : ℕ} {values : TermTrees} {whole : Shape}
    → IsFormedNeutral file g (t_made number values) whole
    → MadeCall file g number values whole
made_call (w_made {m = m} d e) = record { made = m; found = d; values_formed = e; is = refl }

module _ (recs : List (List MonoTree)) (p : Program) (keys : List Key) (instances : List Instance) (program : IsFormedProgram recs p)
    (known : (n : ℕ) (k : Key) → slice_get keys n ≡ Some k → IsFormedKey (file_with recs p keys) p k)
    (closed : IsClosedFile (file_with recs p keys)) (e : HeadsEnd (file_with recs p keys))
    (there : (n : ℕ) (k : Key) → slice_get keys n ≡ Some k → InstanceOf p instances n k) where
  abbrev file : FileShapes
  file = file_with recs p keys

  named_call : (g : List MonoTree) (term : TermTree) (number : ℕ) (key : Key) {r : MonoTree}
      → All IsClosed g
      → IsFormedNeutral file (values_shapes g) term (sh_comp r)
      → keys_of_site p (record { call = term; context = g }) ≡ key ∷ []
      → IsKnownAs keys number key
      → TypedCall instances g number
      (captured_params p (record { call = term; context = g }) ++ passed_of (skeleton (head_ty p (head_of term))) (arguments_of term)) r
  named_call g term number key {r = r} c d names k =
      let site : Site = record { call = term; context = g } in
      let n = named recs p program keys site key closed c d names in
      let own : key_of_site p site ≡ key = own_key (head_of term) names in
      let i = there number k.known k.at in
      let same = same_key recs p program (known number k.known k.at) n.key (k.same ∙ ap plain_key (sym own)) in
      let params : i.instance.params ≡ reverse (key_of_site p site).captured ++ n.monos =
      i.params ∙ ap reverse (same.0 ∙ n.told.params) ∙ in_order n.monos (key_of_site p site).captured in
      let ns = captured_at p site in
      let captured : HaveMonotypes g (captured_params p site) (reverse (key_of_site p site).captured) =
      passed_typed e g c (stand_passed (values_shapes g) (reverse ns) (reverse (map (mono_at g) ns)) (stand_reverse (values_shapes g) ns (map (mono_at g) ns) n.captured)) in
      record {
        instance = i.instance;
        there = i.there;
        params =
            subst (HaveMonotypes g (captured_params p site ++ passed_of (skeleton (head_ty p (head_of term))) (arguments_of term))) (sym params)
            (have_append captured (passed_typed e g c n.passed));
        result = i.result ∙ same.1 ∙ n.told.result;
      }
    where
      own_key : {own : Key} (head : TermTree) → keys_of_head head own ≡ key ∷ [] → own ≡ key
      own_key (t_val n) q = first_key q
      own_key (t_fix at fix) q = first_key q
      own_key head q = absurd (none_key q)

  made_typed : (g : List MonoTree) (term : TermTree) (number : ℕ) (key : Key) (values : TermTrees) {r : MonoTree}
      → All IsClosed g
      → IsFormedNeutral file (values_shapes g) term (sh_comp r)
      → head_of term ≡ t_made number values
      → slice_get keys number ≡ Some key
      → TypedCall instances g number (list_of values ++ passed_of (skeleton (head_ty p key.head)) (arguments_of term)) r
  made_typed g term number key values {r = r} c d q found =
      let spine = spine_of d in
      let m = made_call (subst (λ h. IsFormedNeutral file (values_shapes g) h spine.whole) q spine.head) in
      let o = mapped made_shape keys number m.made m.found in
      let same : o.of ≡ key = same_Some o.of key (sym o.found ∙ found) in
      let made : made_shape key ≡ m.made = ap made_shape (sym same) ∙ o.is in
      let values_formed : IsFormedTerms file (values_shapes g) values (made_shape key).captured =
      subst (λ (x : MadeShape). IsFormedTerms file (values_shapes g) values x.captured) (sym made) m.values_formed in
      let arguments : FormedArguments file (values_shapes g) (made_shape key).whole (arguments_of term) (sh_comp r) =
      subst (λ s. FormedArguments file (values_shapes g) s (arguments_of term) (sh_comp r)) (sym m.is ∙ ap (λ (x : MadeShape). x.whole) (sym made)) spine.arguments in
      go (known number key found) values_formed arguments
    where
      not_called : {args : List Argument} → FormedArguments file (values_shapes g) not_made.whole args (sh_comp r) → ⊥
      not_called (arguments_term a more) = no_each g e c a

      go : IsFormedKey file p key
          → IsFormedTerms file (values_shapes g) values (made_shape key).captured
          → FormedArguments file (values_shapes g) (made_shape key).whole (arguments_of term) (sh_comp r)
          → TypedCall instances g number (list_of values ++ passed_of (skeleton (head_ty p key.head)) (arguments_of term)) r
      go (formed_val h f k x) v a =
          absurd (not_called (subst (λ s. FormedArguments file (values_shapes g) s (arguments_of term) (sh_comp r)) (ap (λ y. (made_of_head key.captured y).whole) h) a))
      go (formed_fix {at = at} {fix = fix} {s = s} {ts = ts} {r = answer} h fx k x) v a =
          let shape : (made_shape key).whole ≡ s = ap (λ y. (made_of_head key.captured y).whole) h ∙ fix_ty_shape fx in
          let captured : (made_shape key).captured ≡ reverse key.captured = ap (λ y. (made_of_head key.captured y).captured) h in
          let parts = parted (subst (λ z. FormedArguments file (values_shapes g) z (arguments_of term) (sh_comp r)) shape a) in
          let bones : bare s ≡ skeleton (head_ty p key.head) = ap bare (sym (fix_ty_shape fx)) ∙ bare_shape (fix_ty fix) ∙ ap (λ y. skeleton (head_ty p y)) (sym h) in
          let own : Told p key ts answer = fix_told h fx x in
          let told = plain_told (fix_plain fx) parts.fixed x in
          let i = there number key found in
          let params : i.instance.params ≡ reverse key.captured ++ parts.monos =
          i.params ∙ ap reverse own.params ∙ in_order ts key.captured ∙ ap (λ us. reverse key.captured ++ us) (sym (told.0)) in
          record {
            instance = i.instance;
            there = i.there;
            params =
                subst (HaveMonotypes g (list_of values ++ passed_of (skeleton (head_ty p key.head)) (arguments_of term))) (sym params)
                (have_append (terms_typed e g c (subst (IsFormedTerms file (values_shapes g) values) captured v))
                (subst (λ z. HaveMonotypes g (passed_of z (arguments_of term)) parts.monos) bones (passed_typed e g c parts.passed)));
            result = i.result ∙ own.result ∙ sym (told.1);
          }

  pub call_typed : (g : List MonoTree) {term : TermTree} {number : ℕ} {params : List TermTree} {r : MonoTree}
      → All IsClosed g
      → IsFormedNeutral file (values_shapes g) term (sh_comp r)
      → Names p keys (record { call = term; context = g }) number params
      → TypedCall instances g number params r
  call_typed g {term = term} c d (names_key {number = number} {key = key} q k) = named_call g term number key c d q k
  call_typed g {term = term} c d (names_made {number = number} {key = key} {values = values} q f) = made_typed g term number key values c d q f
