-- Which code is valid.
use Rattle.std.specs.Prelude.{ℕ, ◌≡◌, ◌+◌, ◌≤◌, ◌<◌, ◌⊎◌, List, [], ◌∷◌, length, All, sum_by, Option, Some, None}
use Rattle.std.specs.Prelude.{slice_get}
use Rattle.word_loader_code.specs.declared.code.Code.{Code}
use Rattle.word_loader_code.specs.declared.code.Function.{Function}
use Rattle.word_loader_code.specs.declared.code.Instr.{Instr}
use Rattle.word_loader_code.specs.declared.code.Instr.TheVariants.{Const, Mov, Op, Sel, Alloc, Get, Set, Free, Jump, Jz}
use Rattle.word_loader_code.specs.declared.code.Instr.TheVariants.{Call, Ret, Tail}

-- n words from a place on stand within the function's locals
abbrev pub FitsLocals : Function → ℕ → ℕ → Type 0
FitsLocals f place n = place + n ≤ f.locals

abbrev pub not_number : ℕ
not_number = 10

-- o is an operation's number; the operation `not` takes one place, written twice
pub record IsOperation (o a b : ℕ) : Type 0 where
  pub known : o ≤ not_number
  pub one_place : o ≡ not_number → b ≡ a

abbrev pub IsTarget : Function → ℕ → Type 0
IsTarget f target = target < length f.body

-- a call of g with parameters from a
abbrev pub Takes : Function → Option Function → ℕ → Type 0
Takes f None a = ⊥
Takes f (Some g) a = FitsLocals f a g.params

-- g's result fits at d
abbrev pub ResultFitsAt : Function → Option Function → ℕ → Type 0
ResultFitsAt f None d = ⊥
ResultFitsAt f (Some g) d = FitsLocals f d g.result

-- g returns as many words as f
abbrev pub ReturnsAs : Function → Option Function → Type 0
ReturnsAs f None = ⊥
ReturnsAs f (Some g) = g.result ≡ f.result

-- an instruction of f in this code
abbrev pub IsValidInstr : Code → Function → Instr → Type 0
IsValidInstr code f (Const d v) = FitsLocals f d 1
IsValidInstr code f (Mov d s n) = FitsLocals f d n × FitsLocals f s n
IsValidInstr code f (Op d o a b) = FitsLocals f d 1 × IsOperation o a b × FitsLocals f a 1 × FitsLocals f b 1
IsValidInstr code f (Sel d c a b n) = FitsLocals f d n × FitsLocals f c 1 × FitsLocals f a n × FitsLocals f b n
IsValidInstr code f (Alloc d s n) = FitsLocals f d 1 × FitsLocals f s n
IsValidInstr code f (Get d p n) = FitsLocals f d n × FitsLocals f p 1
IsValidInstr code f (Set p s n) = FitsLocals f p 1 × FitsLocals f s n
IsValidInstr code f (Free p n) = FitsLocals f p 1
IsValidInstr code f (Jump target) = IsTarget f target
IsValidInstr code f (Jz c target) = FitsLocals f c 1 × IsTarget f target
IsValidInstr code f (Call g a d) =
    Takes f (slice_get code.functions g) a × ResultFitsAt f (slice_get code.functions g) d
IsValidInstr code f (Ret s) = FitsLocals f s f.result
IsValidInstr code f (Tail g a) =
    (code.version ≡ 2) × Takes f (slice_get code.functions g) a × ReturnsAs f (slice_get code.functions g)

-- an instruction after which no next one is done
abbrev pub NeverFallsThrough : Instr → Type 0
NeverFallsThrough (Jump target) = Unit {0}
NeverFallsThrough (Ret s) = Unit {0}
NeverFallsThrough (Tail g a) = Unit {0}
NeverFallsThrough _ = ⊥

-- there is a last instruction, and it leaves
abbrev pub LastLeaves : List Instr → Type 0
LastLeaves [] = ⊥
LastLeaves (i ∷ []) = NeverFallsThrough i
LastLeaves (i ∷ j ∷ rest) = LastLeaves (j ∷ rest)

-- the most functions of a code, the most locals and the most result words of a function, and the most
-- instructions of all functions
abbrev pub function_limit : ℕ
function_limit = 4096

abbrev pub word_limit : ℕ
word_limit = 4096

abbrev pub instr_limit : ℕ
instr_limit = 1000000

pub record IsValidFunction (code : Code) (f : Function) : Type 0 where
  pub locals : f.locals ≤ word_limit
  pub params : f.params ≤ f.locals
  pub result : f.result ≤ word_limit
  pub instrs : All (IsValidInstr code f) f.body
  pub last : LastLeaves f.body

-- the function that the machine enters has no parameters
abbrev pub IsEntered : List Function → Type 0
IsEntered [] = ⊥
IsEntered (main ∷ rest) = main.params ≡ 0

pub record IsValid (code : Code) : Type 0 where
  pub version : (code.version ≡ 1) ⊎ (code.version ≡ 2)
  pub entered : IsEntered code.functions
  pub count : length code.functions ≤ function_limit
  pub instrs : sum_by (λ f. length f.body) code.functions ≤ instr_limit
  pub functions : All (IsValidFunction code) code.functions
