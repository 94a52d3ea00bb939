-- Emitted bodies: their instructions are good, and they end in one that leaves.
use Rattle.std.proofs.Common.{◌≡◌, ◌≤◌, ◌<◌, ℕ, zero, suc, ◌+◌, List, [], ◌∷◌, ◌++◌, length, All, Bool, true, false, if◌then◌else◌, Option, Some, slice_get, option_map, refl, sym, ap, ◌∙◌, subst, arith}
use Rattle.std.proofs.lemmas.List.{length-append}
use Rattle.std.proofs.lemmas.Option.{same_Some, slice_get-map}
use Rattle.htt_syntax.specs.Trees.{MonoTree, TermTree, m_bool}
use Rattle.theory_values.specs.Values.{width}
use Rattle.word_loader_code.specs.declared.code.Code.{Code}
use Rattle.word_loader_code.specs.declared.code.Function.{Function}
use Rattle.word_loader_code.specs.declared.code.Instr.{Instr}
use Rattle.word_loader_code.specs.declared.code.Instr.TheVariants.{Mov, Alloc, Get, Set, Free, Jump, Jz, Call, Ret, Tail}
use Rattle.word_loader_code.specs.Valid.{Takes, ResultFitsAt, ReturnsAs, LastLeaves}
use Rattle.theory_flat.specs.Flat.{FlatTree, FlatStepTree, flat_step, Instance}
use Rattle.theory_flat_typed.specs.Typed.{HasMonotype, HaveMonotypes, typed_var, typed_word, typed_bool, typed_loc, typed_unit, typed_pair, typed_fst, typed_snd}
use Rattle.theory_flat_typed.specs.Typed.{typed_not, typed_bin, typed_eq, typed_sel, IsTyped, typed_ret, typed_step, IsTypedStep, typed_call, typed_alloc, typed_get}
use Rattle.theory_flat_typed.specs.Typed.{typed_set, typed_free, typed_if}
use Rattle.theory_emission.specs.Terms.{Held, Emitted, EmittedTerms, emit_term, emit_terms, moves, width_of_parts}
use Rattle.theory_emission.specs.Bodies.{Ending, is_held, is_returned, is_tail, ended_by, gives_back, may_end, result_in, flat_mono, called, tail_called}
use Rattle.theory_emission.specs.Bodies.{tested, first_branch, second_branch, step_end, joined, split, in_row, emit_flat, emit_last}
use Rattle.theory_emission.specs.Bodies.{emit_step, width_of_monos, emit_instance}
use Rattle.theory_emission.specs.Codes.{code_ended_by}
use Rattle.theory_emission_valid.specs.Limits.{EachMono, EachMonoOfStep, IsWithin}
use Rattle.theory_emission_valid.proofs.Standing.{IsGood, one_good, more_good, both_good, AreBelow, below_more, monos_of, Stands, width_within}
use Rattle.theory_emission_valid.proofs.Terms.{term_stands, StandAll, terms_stand, moves_good}

-- ---- the last instruction

-- a body whose second part ends it
leaves_after : (xs : List Instr) (y : Instr) (ys : List Instr) → LastLeaves (y ∷ ys) → LastLeaves (xs ++ (y ∷ ys))
leaves_after [] y ys l = l
leaves_after (x ∷ []) y ys l = l
leaves_after (x ∷ z ∷ xs) y ys l = leaves_after (z ∷ xs) y ys l

pub both_leave : (xs ys : List Instr) → LastLeaves ys → LastLeaves (xs ++ ys)
both_leave xs [] l = absurd l
both_leave xs (y ∷ ys) l = leaves_after xs y ys l

pub some_last : (xs : List Instr) → LastLeaves xs → 1 ≤ length xs
some_last [] l = absurd l
some_last (x ∷ xs) l = omega arith

-- the next instruction and those after it
next_length : (xs : List Instr) (i : Instr) → length (xs ++ i ∷ []) ≡ length xs + 1
next_length xs i = let q = length-append xs (i ∷ []) in omega (arith, q)

-- ---- endings

abbrev pub Leaves : Ending → List Instr → Type 0
Leaves is_held instrs = Unit {0}
Leaves ending instrs = LastLeaves instrs

-- a result that is held has its place
abbrev pub HasPlace : Ending → MonoTree → Emitted → Type 0
HasPlace is_held t e = e.place + width t ≤ e.next
HasPlace ending t e = Unit {0}

-- Where what is emitted may end in the body: before the end where the result is held, and else where a return
-- gives as many words as the function has to. Tail calls stand in version 2 alone.
abbrev pub MayEndAt : Code → Function → Ending → MonoTree → ℕ → Type 0
MayEndAt code f is_held t end = end < length f.body
MayEndAt code f is_returned t end = (end ≤ length f.body) × (width t ≡ f.result)
MayEndAt code f is_tail t end = (end ≤ length f.body) × (width t ≡ f.result) × (code.version ≡ 2)

pub record StandsBody (code : Code) (f : Function) (ending : Ending) (next at : ℕ) (t : MonoTree) (e : Emitted) : Type 0 where
  pub grows : next ≤ e.next
  pub room : HasPlace ending t e
  pub leaves : Leaves ending e.instrs
  pub good : e.next ≤ f.locals → MayEndAt code f ending t (at + length e.instrs) → All (IsGood code f) e.instrs

pub record StandsStep (code : Code) (f : Function) (next at : ℕ) (t : MonoTree) (e : Emitted) : Type 0 where
  pub grows : next ≤ e.next
  pub room : e.place + width t ≤ e.next
  pub good : e.next ≤ f.locals → at + length e.instrs < length f.body → All (IsGood code f) e.instrs

-- what stands before something that ends may not reach the end
before_end : (code : Code) (f : Function) (t : MonoTree) (ending : Ending) (instrs : List Instr) (at : ℕ)
    → Leaves ending instrs
    → MayEndAt code f ending t (at + length instrs)
    → at < length f.body
before_end code f t is_held instrs at l m = omega (arith, m)
before_end code f t is_returned instrs at l m = let s = some_last instrs l in let within = m.0 in omega (arith, s, within)
before_end code f t is_tail instrs at l m = let s = some_last instrs l in let within = m.0 in omega (arith, s, within)

leaves_row : (ending : Ending) (xs ys : List Instr) → Leaves ending ys → Leaves ending (xs ++ ys)
leaves_row is_held xs ys l = tt
leaves_row is_returned xs ys l = both_leave xs ys l
leaves_row is_tail xs ys l = both_leave xs ys l

place_row : (ending : Ending) (t : MonoTree) (first rest : Emitted) → HasPlace ending t rest → HasPlace ending t (in_row first rest)
place_row is_held t first rest p = p
place_row is_returned t first rest p = p
place_row is_tail t first rest p = p

-- a step, and what follows it
row_stands : {code : Code} {f : Function} {t u : MonoTree} (ending : Ending) (next at : ℕ) (first rest : Emitted)
    → StandsStep code f next at u first
    → StandsBody code f ending first.next (at + length first.instrs) t rest
    → StandsBody code f ending next at t (in_row first rest)
row_stands {code = code} {f = f} {t = t} ending next at first rest s r =
    let first_grows = s.grows in
    let rest_grows = r.grows in
    let long = length-append first.instrs rest.instrs in
    let q : at + length (first.instrs ++ rest.instrs) ≡ at + length first.instrs + length rest.instrs = omega (arith, long) in
    record {
      grows = omega (arith, first_grows, rest_grows);
      room = place_row ending t first rest r.room;
      leaves = leaves_row ending first.instrs rest.instrs r.leaves;
      good = λ within may.
          let m : MayEndAt code f ending t (at + length first.instrs + length rest.instrs) = subst (MayEndAt code f ending t) q may in
          both_good code f first.instrs rest.instrs
          (s.good (omega (arith, within, rest_grows)) (before_end code f t ending rest.instrs (at + length first.instrs) r.leaves m))
          (r.good within m);
    }

-- a term that ends a body
ret_stands : {code : Code} {f : Function} {t : MonoTree} (ending : Ending) (next at : ℕ) (e : Emitted)
    → Stands code f next t e
    → StandsBody code f ending next at t (ended_by ending e)
ret_stands is_held next at e s = record { grows = s.grows; room = s.room; leaves = tt; good = λ within may. s.good within }
ret_stands {code = code} {f = f} is_returned next at e s =
    let room = s.room in
    record {
      grows = s.grows;
      room = tt;
      leaves = both_leave e.instrs (Ret e.place ∷ []) tt;
      good = λ within may.
          let q = may.1 in
          both_good code f e.instrs (Ret e.place ∷ []) (s.good within) (one_good code f (Ret e.place) (omega (arith, within, room, q)) tt);
    }
ret_stands {code = code} {f = f} is_tail next at e s =
    let room = s.room in
    record {
      grows = s.grows;
      room = tt;
      leaves = both_leave e.instrs (Ret e.place ∷ []) tt;
      good = λ within may.
          let q = may.1 in
          both_good code f e.instrs (Ret e.place ∷ []) (s.good within) (one_good code f (Ret e.place) (omega (arith, within, room, q)) tt);
    }

-- ---- tail places

false_true : false ≡ true → ⊥
false_true q = cc

both_true : (a b : Bool) → (if a then b else false) ≡ true → (a ≡ true) × (b ≡ true)
both_true true b q = (refl, q)
both_true false b q = absurd (false_true q)

-- what gives back the step's variable is of its monotype
given_back : {instances : List Instance} {g : List MonoTree} {t u : MonoTree} {others : FlatTree}
    → IsTyped instances (u ∷ g) others t
    → gives_back others ≡ true
    → u ≡ t
given_back {t = t} {u = u} (typed_ret (typed_var {index = zero} q)) r = same_Some u t q
given_back (typed_ret (typed_var {index = suc n} q)) r = absurd (false_true r)
given_back (typed_ret (typed_word q)) r = absurd (false_true r)
given_back (typed_ret typed_bool) r = absurd (false_true r)
given_back (typed_ret (typed_loc q)) r = absurd (false_true r)
given_back (typed_ret typed_unit) r = absurd (false_true r)
given_back (typed_ret (typed_pair x y)) r = absurd (false_true r)
given_back (typed_ret (typed_fst x)) r = absurd (false_true r)
given_back (typed_ret (typed_snd x)) r = absurd (false_true r)
given_back (typed_ret (typed_not x)) r = absurd (false_true r)
given_back (typed_ret (typed_bin x y)) r = absurd (false_true r)
given_back (typed_ret (typed_eq c x y)) r = absurd (false_true r)
given_back (typed_ret (typed_sel c x y z)) r = absurd (false_true r)
given_back (typed_step s d) r = absurd (false_true r)

-- ---- branches

module _ (code : Code) (f : Function) where
  -- a test, and a jump from it
  test_good : (c : Emitted) (next target : ℕ)
      → Stands code f next m_bool c
      → c.next ≤ f.locals
      → target < length f.body
      → All (IsGood code f) (tested c target)
  test_good c next target s within there =
      let room = s.room in
      both_good code f c.instrs (Jz c.place target ∷ []) (s.good within) (one_good code f (Jz c.place target) (omega (arith, within, room), there) tt)

  split_stands : (next at : ℕ) (t : MonoTree) (c a b : Emitted)
      → Stands code f next m_bool c
      → StandsBody code f is_tail c.next (first_branch at c) t a
      → StandsBody code f is_tail a.next (second_branch at c a zero) t b
      → StandsBody code f is_tail next at t (split at c a b)
  split_stands next at t c a b r s k =
      let c_grows = r.grows in
      let a_grows = s.grows in
      let b_grows = k.grows in
      let test = c.instrs ++ Jz c.place (second_branch at c a zero) ∷ [] in
      let test_long : length test ≡ length c.instrs + 1 = next_length c.instrs (Jz c.place (second_branch at c a zero)) in
      let long = length-append test (a.instrs ++ b.instrs) in
      let branches_long = length-append a.instrs b.instrs in
      let last = some_last b.instrs k.leaves in
      record {
        grows = omega (arith, c_grows, a_grows, b_grows);
        room = tt;
        leaves = both_leave test (a.instrs ++ b.instrs) (both_leave a.instrs b.instrs k.leaves);
        good = λ within may.
            let end = may.0 in
            both_good code f test (a.instrs ++ b.instrs)
            (test_good c next (second_branch at c a zero) r (omega (arith, within, a_grows, b_grows))
            (omega (arith, end, long, test_long, branches_long, last)))
            (both_good code f a.instrs b.instrs
            (s.good (omega (arith, within, b_grows)) (omega (arith, end, long, test_long, branches_long), may.1, may.2))
            (k.good within (omega (arith, end, long, test_long, branches_long), may.1, may.2)));
      }

  join_stands : (next at : ℕ) (t : MonoTree) (c a b : Emitted)
      → Stands code f next m_bool c
      → StandsBody code f is_held (c.next + width t) (first_branch at c) t a
      → StandsBody code f is_held a.next (second_branch at c a 2) t b
      → StandsStep code f next at t (joined at c.next c (width t) a b)
  join_stands next at t c a b r s k =
      let c_grows = r.grows in
      let a_grows = s.grows in
      let b_grows = k.grows in
      let a_room = s.room in
      let b_room = k.room in
      let test = c.instrs ++ Jz c.place (second_branch at c a 2) ∷ [] in
      let second = b.instrs ++ Mov c.next b.place (width t) ∷ [] in
      let between = Mov c.next a.place (width t) ∷ Jump (step_end at c a b) ∷ second in
      let test_long : length test ≡ length c.instrs + 1 = next_length c.instrs (Jz c.place (second_branch at c a 2)) in
      let second_long : length second ≡ length b.instrs + 1 = next_length b.instrs (Mov c.next b.place (width t)) in
      let between_long : length between ≡ length second + 2 = omega arith in
      let branches_long : length (a.instrs ++ between) ≡ length a.instrs + length between = length-append a.instrs between in
      let long : length (test ++ (a.instrs ++ between)) ≡ length test + length (a.instrs ++ between) = length-append test (a.instrs ++ between) in
      record {
        grows = omega (arith, c_grows, a_grows, b_grows);
        room = omega (arith, a_grows, b_grows);
        good = λ within end.
            both_good code f test (a.instrs ++ between)
            (test_good c next (second_branch at c a 2) r (omega (arith, within, a_grows, b_grows))
            (omega (arith, end, long, test_long, branches_long, between_long, second_long)))
            (both_good code f a.instrs between
            (s.good (omega (arith, within, b_grows)) (omega (arith, end, long, test_long, branches_long, between_long, second_long)))
            (more_good code f (Mov c.next a.place (width t)) (Jump (step_end at c a b) ∷ second)
            (omega (arith, within, a_grows, b_grows), omega (arith, within, a_room, b_grows)) tt
            (more_good code f (Jump (step_end at c a b)) second (omega (arith, end, long, test_long, branches_long, between_long, second_long)) tt
            (both_good code f b.instrs (Mov c.next b.place (width t) ∷ [])
            (k.good within (omega (arith, end, long, test_long, branches_long, between_long, second_long)))
            (one_good code f (Mov c.next b.place (width t)) (omega (arith, within, a_grows, b_grows), omega (arith, within, b_room)) tt)))));
      }

-- ---- steps and bodies

module _ (version : ℕ) (how : Ending) (instances : List Instance) (f : Function) where
  abbrev code : Code
  code = code_ended_by version how instances

  -- an instance that is called is the function with its number
  callee : (number : ℕ) (instance : Instance)
      → slice_get instances number ≡ Some instance
      → slice_get code.functions number ≡ Some (emit_instance instances how instance)
  callee number instance q =
      slice_get-map (emit_instance instances how) instances number ∙ ap (option_map (emit_instance instances how)) q

  -- the parameters of a call stand in a new block
  block_good : (next : ℕ) (instance : Instance) (e : EmittedTerms)
      → StandAll code f next instance.params e
      → e.next + width_of_parts e.parts ≤ f.locals
      → All (IsGood code f) (e.instrs ++ moves e.next e.parts)
  block_good next instance e s within =
      both_good code f e.instrs (moves e.next e.parts) (s.good (omega (arith, within)))
      (moves_good code f e.next e.next e.parts s.room (omega (arith, within)) within)

  takes : (number : ℕ) (instance : Instance) (a : ℕ)
      → slice_get instances number ≡ Some instance
      → a + width_of_monos instance.params ≤ f.locals
      → Takes f (slice_get code.functions number) a
  takes number instance a q l = subst (λ (o : Option Function). Takes f o a) (sym (callee number instance q)) l

  result_is : (number : ℕ) (instance : Instance)
      → slice_get instances number ≡ Some instance
      → width (result_in (slice_get instances number)) ≡ width instance.result
  result_is number instance q = ap (λ (o : Option Instance). width (result_in o)) q

  called_stands : (next at number : ℕ) (instance : Instance) (e : EmittedTerms)
      → slice_get instances number ≡ Some instance
      → StandAll code f next instance.params e
      → StandsStep code f next at instance.result (called number (width (result_in (slice_get instances number))) e)
  called_stands next at number instance e q s =
      let grows = s.grows in
      let wide = result_is number instance q in
      let widths = s.widths in
      let words = width_of_parts e.parts in
      record {
        grows = omega (arith, grows);
        room = omega (arith, wide);
        good = λ within end.
            both_good code f (e.instrs ++ moves e.next e.parts) (Call number e.next (e.next + words) ∷ [])
            (block_good next instance e s (omega (arith, within)))
            (one_good code f (Call number e.next (e.next + words)) (
              takes number instance e.next q (omega (arith, within, widths)),
              subst (λ (o : Option Function). ResultFitsAt f o (e.next + words)) (sym (callee number instance q)) (omega (arith, within, wide)),
            ) tt);
      }

  tail_stands : (next at number : ℕ) (instance : Instance) (e : EmittedTerms)
      → slice_get instances number ≡ Some instance
      → StandAll code f next instance.params e
      → StandsBody code f is_tail next at instance.result (tail_called number e)
  tail_stands next at number instance e q s =
      let grows = s.grows in
      let widths = s.widths in
      let words = width_of_parts e.parts in
      record {
        grows = omega (arith, grows);
        room = tt;
        leaves = both_leave (e.instrs ++ moves e.next e.parts) (Tail number e.next ∷ []) tt;
        good = λ within may.
            both_good code f (e.instrs ++ moves e.next e.parts) (Tail number e.next ∷ [])
            (block_good next instance e s (omega (arith, within)))
            (one_good code f (Tail number e.next) (
              may.2,
              takes number instance e.next q (omega (arith, within, widths)),
              subst (ReturnsAs f) (sym (callee number instance q)) (may.1),
            ) tt);
      }

  -- emission finds the monotype of a step's variable
  step_found : {g : List MonoTree} {step : FlatStepTree} {u : MonoTree} → IsTypedStep instances g step u → flat_mono instances step ≡ u
  step_found (typed_call {instance = instance} q x) = ap result_in q
  step_found (typed_alloc c x) = refl
  step_found (typed_get c x) = refl
  step_found (typed_set c x y) = refl
  step_found (typed_free c x) = refl
  step_found (typed_if c x y z) = refl

  -- what is held behind a step
  abbrev with_step : List Held → ℕ → ℕ → FlatStepTree → List Held
  with_step g next at step = record { place = (emit_step instances g next at step).place; mono = flat_mono instances step } ∷ g

  step_below : (g : List Held) (next at : ℕ) {ts : List MonoTree} {step : FlatStepTree} {u : MonoTree}
      → AreBelow next g
      → IsTypedStep instances ts step u
      → StandsStep code f next at u (emit_step instances g next at step)
      → AreBelow (emit_step instances g next at step).next (with_step g next at step)
  step_below g next at {step = step} {u = u} b s r =
      let grows = r.grows in
      let room = r.room in
      let wide : width (flat_mono instances step) ≡ width u = ap width (step_found s) in
      (omega (arith, room, wide), below_more next (emit_step instances g next at step).next g grows b)

  -- a term under the variables that are held
  held_term : (g : List Held) {ts : List MonoTree} {term : TermTree} {t : MonoTree} → monos_of g ≡ ts → HasMonotype ts term t → HasMonotype (monos_of g) term t
  held_term g {term = term} {t = t} q x = subst (λ us. HasMonotype us term t) (sym q) x

  held_terms : (g : List Held) {ts us : List MonoTree} {terms : List TermTree} → monos_of g ≡ ts → HaveMonotypes ts terms us → HaveMonotypes (monos_of g) terms us
  held_terms g {us = us} {terms = terms} q x = subst (λ vs. HaveMonotypes vs terms us) (sym q) x

  -- a step of a tail body, in tail place or not
  tail_row : (g : List Held) (next at : ℕ) (step : FlatStepTree) (others : FlatTree) {ts : List MonoTree} {t u : MonoTree}
      → IsTyped instances (u ∷ ts) others t
      → (may_end step ≡ true → StandsBody code f is_tail next at u (emit_last instances g next at step))
      → StandsBody code f is_tail next at t
      (in_row (emit_step instances g next at step)
      (emit_flat instances is_tail (with_step g next at step) (emit_step instances g next at step).next
      (at + length (emit_step instances g next at step).instrs) others))
      → StandsBody code f is_tail next at t (emit_flat instances is_tail g next at (flat_step step others))
  unfolding emit_flat
  tail_row g next at step others {t = t} {u = u} d last row = by (if may_end step then gives_back others else false) refl
    where
      by : (tail : Bool)
          → (if may_end step then gives_back others else false) ≡ tail
          → StandsBody code f is_tail next at t
          (if tail then emit_last instances g next at step else
          (let first = emit_step instances g next at step in
          in_row first
          (emit_flat instances is_tail (record { place = first.place; mono = flat_mono instances step } ∷ g) first.next
          (at + length first.instrs) others)))
      by true q =
          let r = both_true (may_end step) (gives_back others) q in
          subst (λ x. StandsBody code f is_tail next at x (emit_last instances g next at step)) (given_back d (r.1)) (last (r.0))
      by false q = row

  mutual
    unfolding emit_flat EachMono

    pub body_stands : (ending : Ending) (g : List Held) (next at : ℕ) {ts : List MonoTree} {flat : FlatTree} {t : MonoTree}
        → AreBelow next g
        → monos_of g ≡ ts
        → IsTyped instances ts flat t
        → EachMono IsWithin flat
        → StandsBody code f ending next at t (emit_flat instances ending g next at flat)
    body_stands ending g next at b e (typed_ret {term = term} x) m =
        ret_stands ending next at (emit_term g next term) (term_stands code f g next b (held_term g e x))
    body_stands is_held g next at b e (typed_step {step = step} {others = others} s d) m =
        let first = emit_step instances g next at step in
        let r = step_stands g next at b e s (m.0) in
        let end = at + length first.instrs in
        let q = step_found s in
        row_stands is_held next at first (emit_flat instances is_held (with_step g next at step) first.next end others) r
        (body_stands is_held (with_step g next at step) first.next end (step_below g next at b s r) (λ j. q j ∷ e j) d (m.1))
    body_stands is_returned g next at b e (typed_step {step = step} {others = others} s d) m =
        let first = emit_step instances g next at step in
        let r = step_stands g next at b e s (m.0) in
        let end = at + length first.instrs in
        let q = step_found s in
        row_stands is_returned next at first (emit_flat instances is_returned (with_step g next at step) first.next end others) r
        (body_stands is_returned (with_step g next at step) first.next end (step_below g next at b s r) (λ j. q j ∷ e j) d (m.1))
    body_stands is_tail g next at b e (typed_step {step = step} {others = others} s d) m =
        let first = emit_step instances g next at step in
        let r = step_stands g next at b e s (m.0) in
        let end = at + length first.instrs in
        let q = step_found s in
        tail_row g next at step others d (λ k. last_stands g next at b e s k (m.0))
        (row_stands is_tail next at first (emit_flat instances is_tail (with_step g next at step) first.next end others) r
        (body_stands is_tail (with_step g next at step) first.next end (step_below g next at b s r) (λ j. q j ∷ e j) d (m.1)))

    -- a step in tail place
    last_stands : (g : List Held) (next at : ℕ) {ts : List MonoTree} {step : FlatStepTree} {u : MonoTree}
        → AreBelow next g
        → monos_of g ≡ ts
        → IsTypedStep instances ts step u
        → may_end step ≡ true
        → EachMonoOfStep IsWithin step
        → StandsBody code f is_tail next at u (emit_last instances g next at step)
    last_stands g next at b q (typed_call {number = number} {params = params} {instance = instance} i x) e m =
        tail_stands next at number instance (emit_terms g next params) i (terms_stand code f g next b (held_terms g q x))
    last_stands g next at b q (typed_if {t = t} {test = test} {on_true = on_true} {on_false = on_false} closed x y z) e m =
        let c = emit_term g next test in
        let r = term_stands code f g next b (held_term g q x) in
        let below = below_more next c.next g r.grows b in
        let a = emit_flat instances is_tail g c.next (first_branch at c) on_true in
        let s = body_stands is_tail g c.next (first_branch at c) below q y (m.1) in
        split_stands code f next at t c a (emit_flat instances is_tail g a.next (second_branch at c a zero) on_false) r s
        (body_stands is_tail g a.next (second_branch at c a zero) (below_more c.next a.next g s.grows below) q z (m.2))
    last_stands g next at b q (typed_alloc c x) e m = absurd (false_true e)
    last_stands g next at b q (typed_get c x) e m = absurd (false_true e)
    last_stands g next at b q (typed_set c x y) e m = absurd (false_true e)
    last_stands g next at b q (typed_free c x) e m = absurd (false_true e)

    step_stands : (g : List Held) (next at : ℕ) {ts : List MonoTree} {step : FlatStepTree} {u : MonoTree}
        → AreBelow next g
        → monos_of g ≡ ts
        → IsTypedStep instances ts step u
        → EachMonoOfStep IsWithin step
        → StandsStep code f next at u (emit_step instances g next at step)
    step_stands g next at b q (typed_call {number = number} {params = params} {instance = instance} i x) m =
        called_stands next at number instance (emit_terms g next params) i (terms_stand code f g next b (held_terms g q x))
    step_stands g next at b q (typed_alloc {t = t} {value = value} c x) m =
        let e = emit_term g next value in
        let s = term_stands code f g next b (held_term g q x) in
        let grows = s.grows in
        let room = s.room in
        record {
          grows = omega (arith, grows);
          room = omega arith;
          good = λ within end.
              both_good code f e.instrs (Alloc e.next e.place (width t) ∷ []) (s.good (omega (arith, within)))
              (one_good code f (Alloc e.next e.place (width t)) (omega (arith, within), omega (arith, within, room)) tt);
        }
    step_stands g next at b q (typed_get {t = t} {place = place} c x) m =
        let e = emit_term g next place in
        let s = term_stands code f g next b (held_term g q x) in
        let grows = s.grows in
        let room = s.room in
        record {
          grows = omega (arith, grows);
          room = omega arith;
          good = λ within end.
              both_good code f e.instrs (Get e.next e.place (width t) ∷ []) (s.good (omega (arith, within)))
              (one_good code f (Get e.next e.place (width t)) (omega (arith, within), omega (arith, within, room)) tt);
        }
    step_stands g next at b q (typed_set {t = t} {place = place} {value = value} c x y) m =
        let p = emit_term g next place in
        let r = term_stands code f g next b (held_term g q x) in
        let e = emit_term g p.next value in
        let s = term_stands code f g p.next (below_more next p.next g r.grows b) (held_term g q y) in
        let p_grows = r.grows in
        let p_room = r.room in
        let grows = s.grows in
        let room = s.room in
        record {
          grows = omega (arith, p_grows, grows);
          room = omega arith;
          good = λ within end.
              both_good code f (p.instrs ++ e.instrs) (Set p.place e.place (width t) ∷ [])
              (both_good code f p.instrs e.instrs (r.good (omega (arith, within, grows))) (s.good (omega (arith, within))))
              (one_good code f (Set p.place e.place (width t)) (omega (arith, within, p_room, grows), omega (arith, within, room)) tt);
        }
    step_stands g next at b q (typed_free {t = t} {place = place} c x) m =
        let p = emit_term g next place in
        let s = term_stands code f g next b (held_term g q x) in
        let grows = s.grows in
        let room = s.room in
        let few = width_within t in
        record {
          grows = omega (arith, grows);
          room = omega arith;
          good = λ within end.
              both_good code f p.instrs (Free p.place (width t) ∷ []) (s.good (omega (arith, within)))
              (one_good code f (Free p.place (width t)) (omega (arith, within, room)) (omega (arith, few, m)));
        }
    step_stands g next at b q (typed_if {t = t} {test = test} {on_true = on_true} {on_false = on_false} closed x y z) m =
        let c = emit_term g next test in
        let r = term_stands code f g next b (held_term g q x) in
        let grows = r.grows in
        let below = below_more next (c.next + width t) g (omega (arith, grows)) b in
        let a = emit_flat instances is_held g (c.next + width t) (first_branch at c) on_true in
        let s = body_stands is_held g (c.next + width t) (first_branch at c) below q y (m.1) in
        join_stands code f next at t c a (emit_flat instances is_held g a.next (second_branch at c a 2) on_false) r s
        (body_stands is_held g a.next (second_branch at c a 2) (below_more (c.next + width t) a.next g s.grows below) q z (m.2))
