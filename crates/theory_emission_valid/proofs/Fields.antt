-- The numbers of good instructions fit their fields.
use Rattle.std.proofs.Common.{◌≡◌, ◌≤◌, ◌<◌, ◌^◌, ℕ, List, [], ◌∷◌, length, All, Option, Some, None, slice_get, refl, arith}
use Rattle.std.specs.List.{flat_map, AllByRecursion}
use Rattle.std.proofs.lemmas.List.Elements.{All-nil, All-cons, All-append, All-head, All-tail, All-from_recursion}
use Rattle.std.proofs.lemmas.Option.{slice_get_within}
use Rattle.theory_values.specs.Values.{IsWord}
use Rattle.word_loader_code.specs.declared.code.Code.{Code}
use Rattle.word_loader_code.specs.declared.code.Function.{Function}
use Rattle.word_loader_code.specs.declared.code.Instr.{Instr}
use Rattle.word_loader_code.specs.declared.code.Instr.TheVariants.{Const, Mov, Op, Sel, Alloc, Get, Set, Free, Jump, Jz, Call, Ret, Tail}
use Rattle.word_loader_code.specs.Valid.{Takes, ResultFitsAt, word_limit, instr_limit, function_limit}
use Rattle.word_loader_format.specs.Layout.{Field, FitsField, instr_fields, header_fields}
use Rattle.theory_emission_valid.proofs.Standing.{IsGood}

-- a number in a field of one, two, four and eight bytes
pub in_one : (n : ℕ) → n ≤ 12 → n < 256 ^ 1
in_one n l = omega (arith, l)

in_two : (n : ℕ) → n ≤ word_limit → n < 256 ^ 2
in_two n l = omega (arith, l)

pub in_four : (n : ℕ) → n ≤ instr_limit → n < 256 ^ 4
in_four n l = omega (arith, l)

in_count : (n : ℕ) → n < 2 ^ 16 → n < 256 ^ 2
in_count n l = omega (arith, l)

in_word : (n : ℕ) → IsWord n → n < 256 ^ 8
in_word n l = omega (arith, l)

-- each part of a list of fields
pub all_flat_map : {A : Type 0} (h : A → List Field) (xs : List A)
    → All (λ x. All FitsField (h x)) xs
    → All FitsField (flat_map h xs)
all_flat_map h [] a = All-nil FitsField
all_flat_map h (x ∷ xs) a =
    All-append FitsField (h x) (flat_map h xs) (All-head (λ y. All FitsField (h y)) x xs a) (all_flat_map h xs (All-tail (λ y. All FitsField (h y)) x xs a))

pub by_parts : (fs : List Field) → AllByRecursion FitsField fs → All FitsField fs
by_parts fs a = All-from_recursion FitsField fs a

module _ (code : Code) (few : length code.functions ≤ function_limit) (f : Function) (locals : f.locals ≤ word_limit) (long : length f.body ≤ instr_limit) where
  -- a function that is called is there
  callee_within : (g a : ℕ) (o : Option Function) → slice_get code.functions g ≡ o → Takes f o a → (g ≤ instr_limit) × (a ≤ word_limit)
  callee_within g a None q t = absurd t
  callee_within g a (Some k) q t = let there = slice_get_within code.functions g k q in (omega (arith, there, few), omega (arith, t, locals))

  pub instr_fits : (i : Instr) → IsGood code f i → All FitsField (instr_fields i)
  instr_fits (Const d v) s =
      let v1 = s.valid in by_parts (instr_fields (Const d v)) (in_one 0 (omega arith), (in_two d (omega (arith, v1, locals)), (in_word v s.bounded, tt)))
  instr_fits (Mov d x n) s =
      let v1 = s.valid.0 in
      let v2 = s.valid.1 in
      by_parts (instr_fields (Mov d x n))
      (in_one 1 (omega arith), (in_two d (omega (arith, v1, locals)), (in_two x (omega (arith, v2, locals)), (in_two n (omega (arith, v1, locals)), tt))))
  instr_fits (Op d o a b) s =
      let v1 = s.valid.0 in
      let v2 = s.valid.1.known in
      let v3 = s.valid.2 in
      let v4 = s.valid.3 in
      by_parts (instr_fields (Op d o a b)) (in_one 2 (omega arith), (in_two d (omega (arith, v1, locals)), (in_one o (omega (arith, v2)), (in_two a (omega (arith, v3, locals)), (in_two b (omega (arith, v4, locals)), tt)))))
  instr_fits (Sel d c a b n) s =
      let v1 = s.valid.0 in
      let v2 = s.valid.1 in
      let v3 = s.valid.2 in
      let v4 = s.valid.3 in
      by_parts (instr_fields (Sel d c a b n)) (in_one 3 (omega arith), (in_two d (omega (arith, v1, locals)), (in_two c (omega (arith, v2, locals)), (in_two a (omega (arith, v3, locals)), (in_two b (omega (arith, v4, locals)), (in_two n (omega (arith, v1, locals)), tt))))))
  instr_fits (Alloc d x n) s =
      let v1 = s.valid.0 in
      let v2 = s.valid.1 in
      by_parts (instr_fields (Alloc d x n))
      (in_one 4 (omega arith), (in_two d (omega (arith, v1, locals)), (in_two x (omega (arith, v2, locals)), (in_two n (omega (arith, v2, locals)), tt))))
  instr_fits (Get d p n) s =
      let v1 = s.valid.0 in
      let v2 = s.valid.1 in
      by_parts (instr_fields (Get d p n))
      (in_one 5 (omega arith), (in_two d (omega (arith, v1, locals)), (in_two p (omega (arith, v2, locals)), (in_two n (omega (arith, v1, locals)), tt))))
  instr_fits (Set p x n) s =
      let v1 = s.valid.0 in
      let v2 = s.valid.1 in
      by_parts (instr_fields (Set p x n))
      (in_one 6 (omega arith), (in_two p (omega (arith, v1, locals)), (in_two x (omega (arith, v2, locals)), (in_two n (omega (arith, v2, locals)), tt))))
  instr_fits (Free p n) s =
      let v1 = s.valid in
      by_parts (instr_fields (Free p n)) (in_one 7 (omega arith), (in_two p (omega (arith, v1, locals)), (in_count n s.bounded, tt)))
  instr_fits (Jump target) s =
      let v1 = s.valid in by_parts (instr_fields (Jump target)) (in_one 8 (omega arith), (in_four target (omega (arith, v1, long)), tt))
  instr_fits (Jz c target) s =
      let v1 = s.valid.0 in
      let v2 = s.valid.1 in
      by_parts (instr_fields (Jz c target)) (in_one 9 (omega arith), (in_two c (omega (arith, v1, locals)), (in_four target (omega (arith, v2, long)), tt)))
  instr_fits (Call g a d) s =
      let r = callee_within g a (slice_get code.functions g) refl (s.valid.0) in
      by_parts (instr_fields (Call g a d)) (in_one 10 (omega arith), (in_four g (r.0), (in_two a (r.1), (in_two d (result_within (slice_get code.functions g) (s.valid.1)), tt))))
    where
      result_within : (o : Option Function) → ResultFitsAt f o d → d ≤ word_limit
      result_within None t = absurd t
      result_within (Some k) t = omega (arith, t, locals)
  instr_fits (Ret x) s =
      let v1 = s.valid in by_parts (instr_fields (Ret x)) (in_one 11 (omega arith), (in_two x (omega (arith, v1, locals)), tt))
  instr_fits (Tail g a) s =
      let r = callee_within g a (slice_get code.functions g) refl (s.valid.1) in
      by_parts (instr_fields (Tail g a)) (in_one 12 (omega arith), (in_four g (r.0), (in_two a (r.1), tt)))

  pub body_fits : (body : List Instr) → All (IsGood code f) body → All (λ i. All FitsField (instr_fields i)) body
  body_fits [] a = All-nil (λ i. All FitsField (instr_fields i))
  body_fits (i ∷ body) a =
      All-cons (λ j. All FitsField (instr_fields j)) i body (instr_fits i (All-head (IsGood code f) i body a)) (body_fits body (All-tail (IsGood code f) i body a))

  pub header_fits : f.params ≤ f.locals → f.result ≤ word_limit → All FitsField (header_fields f)
  header_fits params result =
      by_parts (header_fields f) (in_two f.params (omega (arith, params, locals)), (in_two f.locals locals, (in_two f.result result, (in_four (length f.body) long, tt))))
