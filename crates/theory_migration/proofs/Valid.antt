-- What valid code is migrated to is valid.
use Rattle.std.proofs.Common.{◌≡◌, ◌≤◌, ◌<◌, ℕ, zero, suc, ◌+◌, List, [], ◌∷◌, length, map, All, sum_by, fold, Bool, true, false, Option, Some, None, slice_get}
use Rattle.std.proofs.Common.{refl}
use Rattle.std.proofs.Common.{sym, ap, ◌∙◌, subst, inl, inr, arith}
use Rattle.std.proofs.lemmas.List.Elements.{All-nil, All-cons, All-head, All-tail}
use Rattle.word_loader_code.specs.declared.code.Code.{Code}
use Rattle.word_loader_code.specs.declared.code.Function.{Function}
use Rattle.word_loader_code.specs.declared.code.Instr.{Instr}
use Rattle.word_loader_code.specs.declared.code.Instr.TheVariants.{Const, Mov, Op, Sel, Alloc, Get, Set, Free, Jump, Jz, Call, Ret, Tail}
use Rattle.word_loader_code.specs.Valid.{IsTarget, Takes, ResultFitsAt, ReturnsAs, IsValidInstr, LastLeaves, function_limit, instr_limit, IsValidFunction}
use Rattle.word_loader_code.specs.Valid.{IsEntered, IsValid}
use Rattle.theory_migration.specs.Migration.{is_returned, tail_or_call, retailed_instr, retailed_body, retailed_function, retailed}
use Rattle.theory_migration.specs.Laws.{MigratedIsValid}
use Rattle.theory_migration.proofs.Bodies.{function_or_none, function_there, body_length, returned_is}

module _ (code : Code) where
  takes_same : (f : Function) (o : Option Function) (a : ℕ) → Takes f o a → Takes (retailed_function code f) (function_or_none code o) a
  takes_same f None a t = t
  takes_same f (Some g) a t = t

  fits_same : (f : Function) (o : Option Function) (d : ℕ) → ResultFitsAt f o d → ResultFitsAt (retailed_function code f) (function_or_none code o) d
  fits_same f None d t = t
  fits_same f (Some g) d t = t

  returns_same : (f : Function) (o : Option Function) → ReturnsAs f o → ReturnsAs (retailed_function code f) (function_or_none code o)
  returns_same f None t = t
  returns_same f (Some g) t = t

  target_same : (f : Function) (target : ℕ) → IsTarget f target → IsTarget (retailed_function code f) target
  target_same f target t = let q = body_length code f f.body in omega (arith, t, q)

  takes_there : (f : Function) (g a : ℕ) → Takes f (slice_get code.functions g) a → Takes (retailed_function code f) (slice_get (retailed code).functions g) a
  takes_there f g a t =
      subst (λ o. Takes (retailed_function code f) o a) (sym (function_there code code.functions g)) (takes_same f (slice_get code.functions g) a t)

  call_valid : (f : Function) (g a d : ℕ) (b : Bool)
      → (b ≡ true → ReturnsAs f (slice_get code.functions g))
      → Takes f (slice_get code.functions g) a
      → ResultFitsAt f (slice_get code.functions g) d
      → IsValidInstr (retailed code) (retailed_function code f) (tail_or_call b g a d)
  call_valid f g a d true r t fits = (
    refl,
    takes_there f g a t,
    subst (ReturnsAs (retailed_function code f)) (sym (function_there code code.functions g)) (returns_same f (slice_get code.functions g) (r refl)),
  )
  call_valid f g a d false r t fits = (
    takes_there f g a t,
    subst (λ o. ResultFitsAt (retailed_function code f) o d) (sym (function_there code code.functions g)) (fits_same f (slice_get code.functions g) d fits),
  )

  instr_valid : (f : Function) (i : Instr) (behind : Option Instr)
      → IsValidInstr code f i
      → IsValidInstr (retailed code) (retailed_function code f) (retailed_instr code f i behind)
  instr_valid f (Const d v) behind t = t
  instr_valid f (Mov d s n) behind t = t
  instr_valid f (Op d o a b) behind t = t
  instr_valid f (Sel d c a b n) behind t = t
  instr_valid f (Alloc d s n) behind t = t
  instr_valid f (Get d p n) behind t = t
  instr_valid f (Set p s n) behind t = t
  instr_valid f (Free p n) behind t = t
  instr_valid f (Jump target) behind t = target_same f target t
  instr_valid f (Jz c target) behind t = (t.0, target_same f target (t.1))
  instr_valid f (Call g a d) behind t = call_valid f g a d (is_returned code f g d behind) (λ q. (returned_is code f g d behind q).1) (t.0) (t.1)
  instr_valid f (Ret s) behind t = t
  instr_valid f (Tail g a) behind t = (
    refl,
    takes_there f g a (t.1),
    subst (ReturnsAs (retailed_function code f)) (sym (function_there code code.functions g)) (returns_same f (slice_get code.functions g) (t.2)),
  )

  body_valid : (f : Function) (body : List Instr)
      → All (IsValidInstr code f) body
      → All (IsValidInstr (retailed code) (retailed_function code f)) (retailed_body code f body)
  body_valid f [] a = All-nil (IsValidInstr (retailed code) (retailed_function code f))
  body_valid f (i ∷ body) a =
      All-cons (IsValidInstr (retailed code) (retailed_function code f)) (retailed_instr code f i (slice_get body 0)) (retailed_body code f body)
      (instr_valid f i (slice_get body 0) (All-head (IsValidInstr code f) i body a)) (body_valid f body (All-tail (IsValidInstr code f) i body a))

  last_stays : (f : Function) (body : List Instr) → LastLeaves body → LastLeaves (retailed_body code f body)
  last_stays f [] a = a
  last_stays f (Const d v ∷ []) a = a
  last_stays f (Mov d s n ∷ []) a = a
  last_stays f (Op d o x y ∷ []) a = a
  last_stays f (Sel d c x y n ∷ []) a = a
  last_stays f (Alloc d s n ∷ []) a = a
  last_stays f (Get d p n ∷ []) a = a
  last_stays f (Set p s n ∷ []) a = a
  last_stays f (Free p n ∷ []) a = a
  last_stays f (Jump target ∷ []) a = a
  last_stays f (Jz c target ∷ []) a = a
  last_stays f (Call g x d ∷ []) a = a
  last_stays f (Ret s ∷ []) a = a
  last_stays f (Tail g x ∷ []) a = a
  last_stays f (i ∷ j ∷ body) a = last_stays f (j ∷ body) a

  function_valid : (f : Function) → IsValidFunction code f → IsValidFunction (retailed code) (retailed_function code f)
  function_valid f v = record {
    locals = v.locals;
    params = v.params;
    result = v.result;
    instrs = body_valid f f.body v.instrs;
    last = last_stays f f.body v.last;
  }

  functions_valid : (fs : List Function) → All (IsValidFunction code) fs → All (IsValidFunction (retailed code)) (map (retailed_function code) fs)
  functions_valid [] a = All-nil (IsValidFunction (retailed code))
  functions_valid (f ∷ fs) a =
      All-cons (IsValidFunction (retailed code)) (retailed_function code f) (map (retailed_function code) fs)
      (function_valid f (All-head (IsValidFunction code) f fs a)) (functions_valid fs (All-tail (IsValidFunction code) f fs a))

  entered_same : (fs : List Function) → IsEntered fs → IsEntered (map (retailed_function code) fs)
  entered_same [] a = a
  entered_same (f ∷ fs) a = a

  same_count : (fs : List Function) → length (map (retailed_function code) fs) ≡ length fs
  same_count [] = refl
  same_count (f ∷ fs) = ap suc (same_count fs)

  same_fold : (fs : List Function) (n : ℕ)
      → fold (λ (a : ℕ) (f : Function). a + length f.body) n (map (retailed_function code) fs) ≡ fold (λ (a : ℕ) (f : Function). a + length f.body) n fs
  same_fold [] n = refl
  same_fold (f ∷ fs) n =
      ap (λ m. fold (λ (a : ℕ) (f : Function). a + length f.body) (n + m) (map (retailed_function code) fs)) (body_length code f f.body)
      ∙ same_fold fs (n + length f.body)

  same_sum : (fs : List Function) → sum_by (λ (f : Function). length f.body) (map (retailed_function code) fs) ≡ sum_by (λ (f : Function). length f.body) fs
  same_sum fs = same_fold fs 0

pub migrated_valid : MigratedIsValid
migrated_valid code v = record {
  version = inr refl;
  entered = entered_same code code.functions v.entered;
  count = subst (λ n. n ≤ function_limit) (sym (same_count code code.functions)) v.count;
  instrs = subst (λ n. n ≤ instr_limit) (sym (same_sum code code.functions)) v.instrs;
  functions = functions_valid code code.functions v.functions;
}
