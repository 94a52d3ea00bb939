-- Where the functions and instructions of migrated code stand.
use Rattle.std.proofs.Common.{◌≡◌, ℕ, zero, suc, List, [], ◌∷◌, length, map, Bool, true, false, nat_eq, if◌then◌else◌, Option, Some, None, slice_get, refl, ap}
use Rattle.std.proofs.Common.{arith}
use Rattle.word_loader_code.specs.declared.code.Code.{Code}
use Rattle.word_loader_code.specs.declared.code.Function.{Function}
use Rattle.word_loader_code.specs.declared.code.Instr.{Instr}
use Rattle.word_loader_code.specs.declared.code.Instr.TheVariants.{Const, Mov, Op, Sel, Alloc, Get, Set, Free, Jump, Jz, Call, Ret, Tail}
use Rattle.word_loader_code.specs.Valid.{ReturnsAs}
use Rattle.theory_migration.specs.Migration.{returns_as, returns_at, is_returned, retailed_instr, retailed_body, retailed_function}

abbrev pub function_or_none : Code → Option Function → Option Function
function_or_none code (Some f) = Some (retailed_function code f)
function_or_none code None = None

pub function_there : (code : Code) (fs : List Function) (n : ℕ) → slice_get (map (retailed_function code) fs) n ≡ function_or_none code (slice_get fs n)
function_there code [] n = refl
function_there code (f ∷ fs) zero = refl
function_there code (f ∷ fs) (suc n) = function_there code fs n

pub instr_there : (code : Code) (f : Function) (body : List Instr) (n : ℕ) (i : Instr)
    → slice_get body n ≡ Some i
    → slice_get (retailed_body code f body) n ≡ Some (retailed_instr code f i (slice_get body (suc n)))
instr_there code f [] n i q = absurd (cc)
instr_there code f (x ∷ body) zero i q = let same : x ≡ i = cc in ap (λ k. Some (retailed_instr code f k (slice_get body 0))) same
instr_there code f (x ∷ body) (suc n) i q = instr_there code f body n i q

pub body_length : (code : Code) (f : Function) (body : List Instr) → length (retailed_body code f body) ≡ length body
body_length code f [] = refl
body_length code f (i ∷ body) = ap suc (body_length code f body)

-- a return of what is at d
returns_is : (d : ℕ) (behind : Option Instr) → returns_at d behind ≡ true → behind ≡ Some (Ret d)
returns_is d None q = absurd (cc)
returns_is d (Some (Ret s)) q = let same : s ≡ d = grind (arith, q) in ap (λ n. Some (Ret n)) same
returns_is d (Some (Const c v)) q = absurd (cc)
returns_is d (Some (Mov c s n)) q = absurd (cc)
returns_is d (Some (Op c o a b)) q = absurd (cc)
returns_is d (Some (Sel c t a b n)) q = absurd (cc)
returns_is d (Some (Alloc c s n)) q = absurd (cc)
returns_is d (Some (Get c p n)) q = absurd (cc)
returns_is d (Some (Set p s n)) q = absurd (cc)
returns_is d (Some (Free p n)) q = absurd (cc)
returns_is d (Some (Jump t)) q = absurd (cc)
returns_is d (Some (Jz c t)) q = absurd (cc)
returns_is d (Some (Call k a c)) q = absurd (cc)
returns_is d (Some (Tail k a)) q = absurd (cc)

returns_if : (f : Function) (o : Option Function) → returns_as f o ≡ true → ReturnsAs f o
returns_if f None q = absurd (cc)
returns_if f (Some g) q = grind (arith, q)

both_true : (a b : Bool) → (if a then b else false) ≡ true → (a ≡ true) × (b ≡ true)
both_true true b q = (refl, q)
both_true false b q = absurd (cc)

-- a call that is returned has this return behind it, and is of a function with as many words
pub returned_is : (code : Code) (f : Function) (g d : ℕ) (behind : Option Instr)
    → is_returned code f g d behind ≡ true
    → (behind ≡ Some (Ret d)) × ReturnsAs f (slice_get code.functions g)
returned_is code f g d behind q =
    let r = both_true (returns_at d behind) (returns_as f (slice_get code.functions g)) q in
    (returns_is d behind (r.0), returns_if f (slice_get code.functions g) (r.1))
