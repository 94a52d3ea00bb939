-- The emitted code of bodies, by induction on fuel and then the body.
use Rattle.std.proofs.Common.{◌≡◌, ◌≤◌, ℕ, zero, suc, ◌+◌, ◌-◌, List, [], ◌∷◌, ◌++◌, length, reverse, replicate, Bool, true, false, if◌then◌else◌}
use Rattle.std.proofs.Common.{Some, slice_get, refl, sym, ap, ◌∙◌, subst, arith, length-append}
use Rattle.std.proofs.lemmas.List.{length-replicate}
use Rattle.htt_syntax.specs.Trees.{MonoTree}
use Rattle.theory_values.specs.Values.{Value, width}
use Rattle.theory_values.specs.Heaps.{Heap}
use Rattle.theory_denotation.specs.Outcomes.{then_outcome}
use Rattle.word_loader_code.specs.Machine.{Stack, step, after_steps}
use Rattle.theory_machine.proofs.Standing.{All-slice_get}
use Rattle.theory_flat.specs.Flat.{FlatTree, FlatStepTree, flat_step, Instance}
use Rattle.theory_flat.specs.Reading.{Calling, flat_outcome, flat_step_outcome, body_outcome, calling}
use Rattle.theory_emission.specs.Terms.{Held, Emitted}
use Rattle.theory_emission.specs.Codes.{code_ended_by}
use Rattle.theory_emission.specs.Bodies.{Ending, is_held, is_returned, is_tail, gives_back, may_end, flat_mono}
use Rattle.theory_emission.specs.Bodies.{in_row, emit_flat, emit_last, emit_step}
use Rattle.theory_emission.specs.Bodies.{with_params, width_of_monos, emitted_body, emit_instance}
use Rattle.theory_emitted_words.specs.Frames.{machine_at, InstrsAt}
use Rattle.theory_emitted_words.proofs.Steps.{leads_none, stand_first, stand_second, stands_itself}
use Rattle.theory_emitted_terms.specs.Layouts.{HaveLayouts, encodings}
use Rattle.theory_emitted_terms.specs.Held.{ValuesAt, values_more}
use Rattle.theory_emitted_terms.proofs.Held.{hold_all_on}
use Rattle.theory_flat_typed.specs.Typed.{IsTyped, typed_ret, typed_step, IsTypedStep, typed_call, typed_alloc, typed_get, typed_set}
use Rattle.theory_flat_typed.specs.Typed.{typed_free, typed_if, IsTypedInstance, AreTyped}
use Rattle.theory_emitted_bodies.specs.Comes.{ComesTo, Returns, entered_for}
use Rattle.theory_emitted_bodies.specs.Laws.{LeavesFrame, BodiesAreEmitted}
use Rattle.theory_emitted_bodies.proofs.Grows.{flat_grows, step_grows}
use Rattle.theory_emitted_bodies.proofs.Comes.{comes_ended, comes_then, comes_as}
use Rattle.theory_emitted_bodies.proofs.Entry.{all_wide, entry}
use Rattle.theory_emitted_bodies.proofs.Steps.{alloc_comes, get_comes, set_comes, free_comes}
use Rattle.theory_emitted_bodies.proofs.Endings.{true_or_false, finds_bound, function_there, EndsAs, FitsResult, ends_on, leaving, fits_leaving, gives_mono, gives_value}
use Rattle.theory_emitted_bodies.proofs.Frames.{Calls, Within, code, base, here, FlatComes, StepComes, LastComes}
use Rattle.theory_emitted_bodies.proofs.Calls.{ret_comes, last_call, call_step}
use Rattle.theory_emitted_bodies.proofs.Branches.{last_if, if_step}

module _ (own : Within) where
  -- a step, and what follows it
  abbrev row : Ending → List Held → ℕ → ℕ → FlatStepTree → FlatTree → Emitted
  row e g next at step others =
      let first = emit_step own.instances g next at step in
      in_row first
      (emit_flat own.instances e (record { place = first.place; mono = flat_mono own.instances step } ∷ g) first.next (at + length first.instrs) others)

  row_comes : {monos : List MonoTree} {step : FlatStepTree} {others : FlatTree} {bound mono : MonoTree}
      → IsTypedStep own.instances monos step bound
      → IsTyped own.instances (bound ∷ monos) others mono
      → StepComes own step monos bound
      → FlatComes own others (bound ∷ monos) mono
      → (e : Ending)
      → FitsResult e own.f mono
      → (g : List Held) (vs : List Value) (at : ℕ) (locals : List ℕ) (next : ℕ) (h : Heap) (cs : List ℕ)
      → ValuesAt locals next g vs monos
      → InstrsAt own.f.body at (row e g next at step others).instrs
      → (row e g next at step others).next ≤ length locals
      → ComesTo (code own) (suc own.fuel) (EndsAs e (base own) at locals next (row e g next at step others) mono) (machine_at (here own h cs) at locals)
      (then_outcome (flat_step_outcome own.call vs step h cs) (λ v k ds. flat_outcome own.call (v ∷ vs) others k ds))
  row_comes {step = step} {others = others} {mono = mono} s r x y e fits g vs at locals next h cs hold stand within =
      let first = emit_step own.instances g next at step in
      let held : Held = record { place = first.place; mono = flat_mono own.instances step } in
      let rest = emit_flat own.instances e (held ∷ g) first.next (at + length first.instrs) others in
      let less = step_grows s g next at in
      let room = flat_grows r e (held ∷ g) first.next (at + length first.instrs) in
      comes_then (flat_step_outcome own.call vs step h cs) (λ v k ds. flat_outcome own.call (v ∷ vs) others k ds)
      (x g vs at locals next h cs hold (stand_first own.f.body at first.instrs rest.instrs stand) (omega (arith, room, within)))
      (λ v k ds m z.
      subst (λ m. ComesTo (code own) (suc own.fuel) (EndsAs e (base own) at locals next (in_row first rest) mono) m (flat_outcome own.call (v ∷ vs) others k ds)) (sym z.there)
      (comes_as (flat_outcome own.call (v ∷ vs) others k ds)
      (λ u k' ds' m' w. ends_on e (base own) at locals z.after next first rest mono u k' ds' m' z.keeps z.long less w)
      (y e fits (held ∷ g) (v ∷ vs) (at + length first.instrs) z.after first.next k ds
      (values_more (finds_bound s) z.holds (hold_all_on hold z.keeps less)) (stand_second own.f.body at first.instrs rest.instrs stand)
      (omega (arith, within, z.long)))))

  step_then : {monos : List MonoTree} {step : FlatStepTree} {others : FlatTree} {bound mono : MonoTree}
      → IsTypedStep own.instances monos step bound
      → IsTyped own.instances (bound ∷ monos) others mono
      → StepComes own step monos bound
      → LastComes own step monos bound
      → FlatComes own others (bound ∷ monos) mono
      → FlatComes own (flat_step step others) monos mono
  unfolding emit_flat flat_outcome
  step_then s r x z y is_held fits g vs at locals next h cs hold stand within = row_comes s r x y is_held fits g vs at locals next h cs hold stand within
  step_then s r x z y is_returned fits g vs at locals next h cs hold stand within =
      row_comes s r x y is_returned fits g vs at locals next h cs hold stand within
  step_then {step = step} {others = others} {mono = mono} s r x z y is_tail fits g vs at locals next h cs hold stand within =
      by (may_end step) (gives_back others) refl refl stand within
    where
      by : (b c : Bool)
          → may_end step ≡ b
          → gives_back others ≡ c
          → InstrsAt own.f.body at (if (if b then c else false) then emit_last own.instances g next at step else row is_tail g next at step others).instrs
          → (if (if b then c else false) then emit_last own.instances g next at step else row is_tail g next at step others).next ≤ length locals
          → ComesTo (code own) (suc own.fuel) (Returns own.stack mono) (machine_at (here own h cs) at locals)
          (then_outcome (flat_step_outcome own.call vs step h cs) (λ v k ds. flat_outcome own.call (v ∷ vs) others k ds))
      by true true p q stand within =
          comes_then (flat_step_outcome own.call vs step h cs) (λ v k ds. flat_outcome own.call (v ∷ vs) others k ds)
          (z p (ap width (gives_mono r q) ∙ fits) g vs at locals next h cs hold stand within)
          (λ v k ds m w.
          subst (λ o. ComesTo (code own) (suc own.fuel) (Returns own.stack mono) m o) (sym (gives_value own.call v vs k ds r q))
          (comes_ended (leads_none refl) (subst (λ t. Returns own.stack t v k ds m) (gives_mono r q) w)))
      by true false p q stand within = row_comes s r x y is_tail fits g vs at locals next h cs hold stand within
      by false c p q stand within = row_comes s r x y is_tail fits g vs at locals next h cs hold stand within

  mutual
    unfolding emit_flat flat_outcome

    flat_comes : {monos : List MonoTree} {flat : FlatTree} {mono : MonoTree} → IsTyped own.instances monos flat mono → FlatComes own flat monos mono
    flat_comes (typed_ret p) = ret_comes own p
    flat_comes (typed_step s r) = step_then s r (step_comes s) (last_comes s) (flat_comes r)

    step_comes : {monos : List MonoTree} {step : FlatStepTree} {mono : MonoTree} → IsTypedStep own.instances monos step mono → StepComes own step monos mono
    step_comes (typed_call {number = callee} q p) = call_step own callee q p
    step_comes {monos = monos} (typed_alloc k p) = λ g vs at locals next h cs hold stand within.
        alloc_comes (base own) own.f own.there g vs monos (suc own.fuel) at locals next h cs hold p stand within
    step_comes {monos = monos} (typed_get {t = mono} k p) = λ g vs at locals next h cs hold stand within.
        get_comes (base own) own.f own.there g vs monos (suc own.fuel) at locals next h cs hold mono p stand within
    step_comes {monos = monos} (typed_set k p w) = λ g vs at locals next h cs hold stand within.
        set_comes (base own) own.f own.there g vs monos (suc own.fuel) at locals next h cs hold p w stand within
    step_comes {monos = monos} (typed_free {t = mono} k p) = λ g vs at locals next h cs hold stand within.
        free_comes (base own) own.f own.there g vs monos (suc own.fuel) at locals next h cs hold mono p stand within
    step_comes (typed_if k p q r) = if_step own p q r (flat_comes q) (flat_comes r)

    last_comes : {monos : List MonoTree} {step : FlatStepTree} {mono : MonoTree} → IsTypedStep own.instances monos step mono → LastComes own step monos mono
    last_comes (typed_call {number = callee} q p) = last_call own callee q p
    last_comes (typed_alloc k p) = λ ends. absurd (true_or_false (sym ends))
    last_comes (typed_get k p) = λ ends. absurd (true_or_false (sym ends))
    last_comes (typed_set k p w) = λ ends. absurd (true_or_false (sym ends))
    last_comes (typed_free k p) = λ ends. absurd (true_or_false (sym ends))
    last_comes (typed_if k p q r) = last_if own p q r (flat_comes q) (flat_comes r)

module _ (instances : List Instance) (version : ℕ) (ending : Ending) where
  -- the body of an instance, where calls come to what they are to
  body_comes : AreTyped instances
      → LeavesFrame ending
      → (n : ℕ) (call : Calling)
      → Calls instances version ending n call
      → (number : ℕ) (instance : Instance) (vs : List Value) (h : Heap) (stack : Stack) (cs : List ℕ)
      → slice_get instances number ≡ Some instance
      → HaveLayouts vs instance.params
      → ComesTo (code_ended_by version ending instances) (suc n) (Returns stack instance.result) (entered_for number (emit_instance instances ending instance) vs h stack cs)
      (flat_outcome call (reverse vs) instance.body h cs)
  body_comes typed leaves n call calls number instance vs h stack cs q l =
      let k = emit_instance instances ending instance in
      let zeros = replicate (k.locals - k.params) 0 in
      let long = length-append (encodings vs) zeros in
      let own : Within = record {
        instances = instances;
        version = version;
        ending = ending;
        fuel = n;
        call = call;
        calls = calls;
        number = number;
        f = k;
        stack = stack;
        there = function_there instances version ending number instance q;
      } in
      comes_as (flat_outcome call (reverse vs) instance.body h cs)
      (λ v h' cs' m e. leaving ending leaves (base own) 0 (encodings vs ++ zeros) (width_of_monos instance.params)
      (emitted_body instances ending instance) instance.result v h' cs' m e)
      (flat_comes own ((All-slice_get (IsTypedInstance instances) instances number instance typed q).body) ending (fits_leaving ending k instance.result refl)
      (with_params [] 0 instance.params) (reverse vs) 0 (encodings vs ++ zeros) (width_of_monos instance.params) h cs (entry zeros l) (stands_itself k.body)
      (omega (arith, long, all_wide l, length-replicate {A = ℕ} (k.locals - k.params) 0)))

  calls_come : AreTyped instances → LeavesFrame ending → (n : ℕ) → Calls instances version ending n (calling instances n)
  unfolding calling after_steps
  calls_come typed leaves zero number instance vs h stack cs q l = record { follows = (0, omega arith, λ o. o) }
  calls_come typed leaves (suc n) number instance vs h stack cs q l =
      subst (λ o. ComesTo (code_ended_by version ending instances) (suc n) (Returns stack instance.result) (entered_for number (emit_instance instances ending instance) vs h stack cs)
      (body_outcome o (calling instances n) vs h cs)) (sym q)
      (body_comes typed leaves n (calling instances n) (calls_come typed leaves n) number instance vs h stack cs q l)

pub emitted_bodies : BodiesAreEmitted
emitted_bodies instances version ending typed leaves number instance vs q l n h stack cs =
    subst (λ o. ComesTo (code_ended_by version ending instances) (suc n) (Returns stack instance.result)
    (entered_for number (emit_instance instances ending instance) vs h stack cs) (body_outcome o (calling instances n) vs h cs)) (sym q)
    (body_comes instances version ending typed leaves n (calling instances n) (calls_come instances version ending typed leaves n) number instance vs h stack cs q l)
