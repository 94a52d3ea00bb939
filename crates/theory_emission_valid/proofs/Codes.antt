-- The code of a list of typed instances is valid, and its numbers fit.
use Rattle.std.proofs.Common.{◌≡◌, ◌≤◌, ◌⊎◌, inl, inr, ℕ, zero, suc, ◌+◌, List, [], ◌∷◌, ◌++◌, length, map, reverse, sum_by, All, Bool, true, false, if◌then◌else◌}
use Rattle.std.proofs.Common.{Option, Some, None, refl, sym, ap, ◌∙◌, subst, arith, append_assoc, append-nil}
use Rattle.std.specs.Prelude.{nat_lt}
use Rattle.std.specs.List.{flat_map}
use Rattle.std.proofs.lemmas.Bool.{ltb-false}
use Rattle.std.proofs.lemmas.List.{length-map, reverse-append}
use Rattle.std.proofs.lemmas.List.Sums.{sum_by-cons}
use Rattle.std.proofs.lemmas.List.Elements.{All-nil, All-cons, All-append, All-head, All-tail}
use Rattle.htt_syntax.specs.Trees.{MonoTree}
use Rattle.theory_values.specs.Values.{width}
use Rattle.word_loader_code.specs.declared.code.Code.{Code}
use Rattle.word_loader_code.specs.declared.code.Function.{Function}
use Rattle.word_loader_code.specs.declared.code.Instr.{Instr}
use Rattle.word_loader_code.specs.Valid.{IsValidInstr, LastLeaves, function_limit, word_limit, instr_limit, IsValidFunction, IsEntered, IsValid}
use Rattle.word_loader_format.specs.Layout.{FitsField, instr_fields, header_fields, body_fields, opening_fields, code_fields}
use Rattle.theory_flat.specs.Flat.{Instance}
use Rattle.theory_flat_typed.specs.Typed.{IsTypedInstance}
use Rattle.theory_emission.specs.Terms.{Held}
use Rattle.theory_emission.specs.Bodies.{Ending, is_held, is_returned, is_tail, with_params, width_of_monos, emit_instance}
use Rattle.theory_emission.specs.Codes.{code_ended_by, too_long, wide_function, length_refusal, refusal_for, emit_refusal}
use Rattle.theory_emission_valid.specs.Limits.{HasMonosWithin}
use Rattle.theory_emission_valid.specs.Laws.{BeginsWithMain, IsEmittable, EmittedIsValid, EmittedNumbersFit}
use Rattle.theory_emission_valid.proofs.Standing.{IsGood, AreBelow, below_more, monos_of, width_within}
use Rattle.theory_emission_valid.proofs.Bodies.{Leaves, MayEndAt, body_stands}
use Rattle.theory_emission_valid.proofs.Fields.{in_one, in_four, by_parts, all_flat_map, body_fits, header_fits}

-- ---- parameters

reverse_cons : (t : MonoTree) (ts : List MonoTree) → reverse (t ∷ ts) ≡ reverse ts ++ t ∷ []
reverse_cons t ts = reverse-append (t ∷ []) ts

params_monos : (g : List Held) (place : ℕ) (ts : List MonoTree) → monos_of (with_params g place ts) ≡ reverse ts ++ monos_of g
params_monos g place [] = refl
params_monos g place (t ∷ ts) =
    params_monos (record { place = place; mono = t } ∷ g) (place + width t) ts
    ∙ sym (append_assoc (reverse ts) (t ∷ []) (monos_of g))
    ∙ ap (λ xs. xs ++ monos_of g) (sym (reverse_cons t ts))

params_below : (g : List Held) (place : ℕ) (ts : List MonoTree) → AreBelow place g → AreBelow (place + width_of_monos ts) (with_params g place ts)
params_below g place [] b = subst (λ n. AreBelow n g) (omega arith) b
params_below g place (t ∷ ts) b =
    let q : place + width t + width_of_monos ts ≡ place + (width t + width_of_monos ts) = omega arith in
    subst (λ n. AreBelow n (with_params (record { place = place; mono = t } ∷ g) (place + width t) ts)) q
    (params_below (record { place = place; mono = t } ∷ g) (place + width t) ts (omega arith, below_more place (place + width t) g (omega arith) b))

-- ---- refusals

some_none : {A : Type 0} {x : A} → Some x ≡ None → ⊥
some_none q = cc

none_wide : (number : ℕ) (fs : List Function) → wide_function number fs ≡ None → All (λ (f : Function). f.locals ≤ word_limit) fs
none_wide number [] q = All-nil (λ (f : Function). f.locals ≤ word_limit)
none_wide number (f ∷ others) q = by (nat_lt word_limit f.locals) refl q (λ r. none_wide (suc number) others r)
  where
    by : (b : Bool)
        → nat_lt word_limit f.locals ≡ b
        → (if b then Some number else wide_function (suc number) others) ≡ None
        → (wide_function (suc number) others ≡ None → All (λ (f : Function). f.locals ≤ word_limit) others)
        → All (λ (f : Function). f.locals ≤ word_limit) (f ∷ others)
    by true r q rest = absurd (some_none q)
    by false r q rest = All-cons (λ (f : Function). f.locals ≤ word_limit) f others (ltb-false word_limit f.locals r) (rest q)

not_long : (count : ℕ) → length_refusal count ≡ None → count ≤ instr_limit
not_long count q = by (nat_lt instr_limit count) refl q
  where
    by : (b : Bool) → nat_lt instr_limit count ≡ b → (if b then Some too_long else None) ≡ None → count ≤ instr_limit
    by true r q = absurd (some_none q)
    by false r q = ltb-false instr_limit count r

none_refused : (code : Code)
    → emit_refusal code ≡ None
    → All (λ (f : Function). f.locals ≤ word_limit) code.functions × (sum_by (λ (f : Function). length f.body) code.functions ≤ instr_limit)
none_refused code q = by (wide_function zero code.functions) refl q
  where
    by : (o : Option ℕ)
        → wide_function zero code.functions ≡ o
        → refusal_for o (sum_by (λ (f : Function). length f.body) code.functions) ≡ None
        → All (λ (f : Function). f.locals ≤ word_limit) code.functions × (sum_by (λ (f : Function). length f.body) code.functions ≤ instr_limit)
    by (Some number) r q = absurd (some_none q)
    by None r q = (none_wide zero code.functions r, not_long (sum_by (λ (f : Function). length f.body) code.functions) q)

-- no body is longer than all together
each_short : (fs : List Function) (limit : ℕ)
    → sum_by (λ (f : Function). length f.body) fs ≤ limit
    → All (λ (f : Function). length f.body ≤ limit) fs
each_short [] limit l = All-nil (λ (f : Function). length f.body ≤ limit)
each_short (f ∷ fs) limit l =
    let q : sum_by (λ (f : Function). length f.body) (f ∷ fs) ≡ length f.body + sum_by (λ (f : Function). length f.body) fs =
    sum_by-cons (λ (f : Function). length f.body) f fs in
    All-cons (λ (f : Function). length f.body ≤ limit) f fs (omega (arith, l, q)) (each_short fs limit (omega (arith, l, q)))

-- ---- versions: bodies that end in a return, or that are tail bodies in version 2

abbrev pub IsVersion : Ending → ℕ → Type 0
IsVersion is_held version = ⊥
IsVersion is_returned version = version ≡ 1
IsVersion is_tail version = version ≡ 2

version_known : (how : Ending) (version : ℕ) → IsVersion how version → (version ≡ 1) ⊎ (version ≡ 2)
version_known is_held version q = absurd q
version_known is_returned version q = inl q
version_known is_tail version q = inr q

leaves_last : (how : Ending) (version : ℕ) (instrs : List Instr) → IsVersion how version → Leaves how instrs → LastLeaves instrs
leaves_last is_held version instrs v l = absurd v
leaves_last is_returned version instrs v l = l
leaves_last is_tail version instrs v l = l

may_end_at : (code : Code) (f : Function) (how : Ending) (t : MonoTree) (end : ℕ)
    → IsVersion how code.version
    → end ≤ length f.body
    → width t ≡ f.result
    → MayEndAt code f how t end
may_end_at code f is_held t end v l q = absurd v
may_end_at code f is_returned t end v l q = (l, q)
may_end_at code f is_tail t end v l q = (l, q, v)

-- ---- functions

pub record IsGoodFunction (code : Code) (f : Function) : Type 0 where
  valid : IsValidFunction code f
  good : All (IsGood code f) f.body

module _ (code : Code) where
  all_valid : (f : Function) (body : List Instr) → All (IsGood code f) body → All (IsValidInstr code f) body
  all_valid f [] a = All-nil (IsValidInstr code f)
  all_valid f (i ∷ body) a =
      All-cons (IsValidInstr code f) i body (All-head (IsGood code f) i body a).valid (all_valid f body (All-tail (IsGood code f) i body a))

  functions_valid : (fs : List Function) → All (IsGoodFunction code) fs → All (IsValidFunction code) fs
  functions_valid [] a = All-nil (IsValidFunction code)
  functions_valid (f ∷ fs) a =
      All-cons (IsValidFunction code) f fs (All-head (IsGoodFunction code) f fs a).valid (functions_valid fs (All-tail (IsGoodFunction code) f fs a))

  headers_fit : (fs : List Function)
      → length code.functions ≤ function_limit
      → All (IsGoodFunction code) fs
      → All (λ (f : Function). length f.body ≤ instr_limit) fs
      → All (λ (f : Function). All FitsField (header_fields f)) fs
  headers_fit [] few a b = All-nil (λ (f : Function). All FitsField (header_fields f))
  headers_fit (f ∷ fs) few a b =
      let v = (All-head (IsGoodFunction code) f fs a).valid in
      All-cons (λ (f : Function). All FitsField (header_fields f)) f fs
      (header_fits code few f v.locals (All-head (λ (f : Function). length f.body ≤ instr_limit) f fs b) v.params v.result)
      (headers_fit fs few (All-tail (IsGoodFunction code) f fs a) (All-tail (λ (f : Function). length f.body ≤ instr_limit) f fs b))

  bodies_fit : (fs : List Function)
      → length code.functions ≤ function_limit
      → All (IsGoodFunction code) fs
      → All (λ (f : Function). length f.body ≤ instr_limit) fs
      → All (λ (f : Function). All FitsField (body_fields f)) fs
  bodies_fit [] few a b = All-nil (λ (f : Function). All FitsField (body_fields f))
  bodies_fit (f ∷ fs) few a b =
      let s = All-head (IsGoodFunction code) f fs a in
      All-cons (λ (f : Function). All FitsField (body_fields f)) f fs
      (all_flat_map instr_fields f.body
      (body_fits code few f s.valid.locals (All-head (λ (f : Function). length f.body ≤ instr_limit) f fs b) f.body s.good))
      (bodies_fit fs few (All-tail (IsGoodFunction code) f fs a) (All-tail (λ (f : Function). length f.body ≤ instr_limit) f fs b))

-- ---- the code of a list

module _ (how : Ending) (version : ℕ) (right : IsVersion how version) (instances : List Instance) where
  abbrev code : Code
  code = code_ended_by version how instances

  good_function : (instance : Instance)
      → IsTypedInstance instances instance
      → HasMonosWithin instance
      → (emit_instance instances how instance).locals ≤ word_limit
      → IsGoodFunction code (emit_instance instances how instance)
  good_function instance typed within locals =
      let f = emit_instance instances how instance in
      let held = with_params [] zero instance.params in
      let q : reverse instance.params ≡ monos_of held = sym (params_monos [] zero instance.params ∙ append-nil (reverse instance.params)) in
      let wide : zero + width_of_monos instance.params ≡ width_of_monos instance.params = omega arith in
      let below : AreBelow (width_of_monos instance.params) held = subst (λ n. AreBelow n held) wide (params_below [] zero instance.params tt) in
      let s =
      body_stands version how instances f how held (width_of_monos instance.params) zero below
      (sym q) typed.body within.body in
      let good = s.good (omega arith) (may_end_at code f how instance.result (zero + length f.body) right (omega arith) refl) in
      let few = width_within instance.result in
      let small = within.result in
      record {
        valid = record {
          locals = locals;
          params = s.grows;
          result = omega (arith, few, small);
          instrs = all_valid code f f.body good;
          last = leaves_last how version f.body right s.leaves;
        };
        good = good;
      }

  good_functions : (others : List Instance)
      → All (IsTypedInstance instances) others
      → All HasMonosWithin others
      → All (λ (f : Function). f.locals ≤ word_limit) (map (emit_instance instances how) others)
      → All (IsGoodFunction code) (map (emit_instance instances how) others)
  good_functions [] t w l = All-nil (IsGoodFunction code)
  good_functions (instance ∷ others) t w l =
      let f = emit_instance instances how instance in
      let fs = map (emit_instance instances how) others in
      All-cons (IsGoodFunction code) f fs
      (good_function instance (All-head (IsTypedInstance instances) instance others t) (All-head HasMonosWithin instance others w)
      (All-head (λ (f : Function). f.locals ≤ word_limit) f fs l))
      (good_functions others (All-tail (IsTypedInstance instances) instance others t) (All-tail HasMonosWithin instance others w)
      (All-tail (λ (f : Function). f.locals ≤ word_limit) f fs l))

  entered : (list : List Instance) → BeginsWithMain list → IsEntered (map (emit_instance instances how) list)
  entered [] b = b
  entered (main ∷ others) b = ap width_of_monos b

  module _ (ready : IsEmittable instances) (fine : emit_refusal code ≡ None) where
    few : length code.functions ≤ function_limit
    few = let q = length-map instances (emit_instance instances how) in let l = ready.few in omega (arith, q, l)

    functions_good : All (IsGoodFunction code) code.functions
    functions_good = good_functions instances ready.typed ready.monos ((none_refused code fine).0)

    code_valid : IsValid code
    code_valid = record {
      version = version_known how version right;
      entered = entered instances ready.main;
      count = few;
      instrs = (none_refused code fine).1;
      functions = functions_valid code code.functions functions_good;
    }

    code_fits : All FitsField (code_fields code)
    code_fits =
        let short = each_short code.functions instr_limit ((none_refused code fine).1) in
        All-append FitsField (opening_fields code) (flat_map header_fields code.functions ++ flat_map body_fields code.functions)
        (by_parts (opening_fields code) (omega arith, (in_one version (small how version right), (in_four (length code.functions) (omega (arith, few)), tt))))
        (All-append FitsField (flat_map header_fields code.functions) (flat_map body_fields code.functions)
        (all_flat_map header_fields code.functions (headers_fit code code.functions few functions_good short))
        (all_flat_map body_fields code.functions (bodies_fit code code.functions few functions_good short)))
      where
        small : (how : Ending) (version : ℕ) → IsVersion how version → version ≤ 12
        small is_held version q = absurd q
        small is_returned version q = omega (arith, q)
        small is_tail version q = omega (arith, q)

pub is_valid : EmittedIsValid
is_valid = record {
  second = λ instances ready fine. code_valid is_tail 2 refl instances ready fine;
  first = λ instances ready fine. code_valid is_returned 1 refl instances ready fine;
}

pub numbers_fit : EmittedNumbersFit
numbers_fit = record {
  second = λ instances ready fine. code_fits is_tail 2 refl instances ready fine;
  first = λ instances ready fine. code_fits is_returned 1 refl instances ready fine;
}
