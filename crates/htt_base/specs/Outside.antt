-- What a call of the outside does: one definition for each aspect of a call.
-- What isn't told is None, and of that nothing is said. Names are their bytes.
use Rattle.std.specs.Prelude.{ℕ, ◌≡◌, ◌≢◌, ◌+◌, ◌-◌, ◌^◌, ◌<◌, ◌≤◌, ◌⊎◌, min, List, [], ◌∷◌, ◌++◌, length, Option, Some}
use Rattle.std.specs.Prelude.{None, Result, Ok, Err, IfOk, OnOk, IsErrOf, Vec}
use Rattle.std.specs.Global.{Global}
use Rattle.htt_base.specs.declared.outside.ReadStop.{ReadStop}
use Rattle.htt_base.specs.declared.outside.ReadStop.TheVariants as r
use Rattle.htt_base.specs.declared.outside.WriteStop.{WriteStop}
use Rattle.htt_base.specs.declared.outside.WriteStop.TheVariants as w
use Rattle.htt_base.specs.declared.outside.PutStop.{PutStop}
use Rattle.htt_base.specs.declared.outside.PutStop.TheVariants as p

-- what each name holds, if anything
abbrev pub Held : Type 0
Held = List ℕ → Option (List ℕ)

-- a fact about what is told
abbrev pub Told : {A : Type 0} → Option A → (A → Type 0) → Type 0
Told None P = Unit {0}
Told (Some a) P = P a

-- one more, or the count's end
abbrev pub one_more : ℕ → ℕ
one_more n = min (n + 1) (2 ^ 64 - 1)

-- the count went up, or stands at its end
abbrev pub Rose : ℕ → ℕ → Type 0
Rose before now = one_more before ≤ now

-- the answer of a read of a name that holds what h says; each cause yields to want of memory
pub record IsRead (h : Held) (name : List ℕ) (max : ℕ) (result : Result (Vec ℕ Global) ReadStop) : Type 0 where
  pub bytes : IfOk result (λ v. h name ≡ Some v.items)
  pub long : IsErrOf result r.TooLong → (b : List ℕ) × (h name ≡ Some b) × (max < length b)
  pub is_long : (b : List ℕ)
      → h name ≡ Some b
      → max < length b
      → IsErrOf result r.TooLong ⊎ IsErrOf result r.Failed ⊎ IsErrOf result r.NoMemory
  pub missing : h name ≡ None → IsErrOf result r.Failed ⊎ IsErrOf result r.NoMemory

abbrev pub ReadGives : Option Held → List ℕ → ℕ → Result (Vec ℕ Global) ReadStop → Type 0
ReadGives held name max result = Told held (λ h. IsRead h name max result)

-- the names that were read: one more at the end, unless memory ran out
abbrev pub names_after : List (List ℕ) → List ℕ → Result (Vec ℕ Global) ReadStop → List (List ℕ)
names_after before name (Ok v) = before ++ name ∷ []
names_after before name (Err r.Failed) = before ++ name ∷ []
names_after before name (Err r.TooLong) = before ++ name ∷ []
names_after before name (Err r.NoMemory) = before

abbrev pub NotesName : Option (List (List ℕ))
    → Option (List (List ℕ))
    → List ℕ
    → Result (Vec ℕ Global) ReadStop
    → Type 0
NotesName before now name result = Told before (λ names. now ≡ Some (names_after names name result))

-- the count of faults never falls, and a failed read has raised it
pub record CountsRead (before now : ℕ) (result : Result (Vec ℕ Global) ReadStop) : Type 0 where
  pub kept : before ≤ now
  pub failed : IsErrOf result r.Failed → Rose before now

-- what the names hold after a write: after a failed one this name may hold anything
pub record IsWritten (h k : Held) (name bytes : List ℕ) (result : Result (Unit {0}) WriteStop) : Type 0 where
  pub done : OnOk result (k name ≡ Some bytes)
  pub no_memory : IsErrOf result w.NoMemory → k name ≡ h name
  pub others : (n : List ℕ) → n ≢ name → k n ≡ h n

-- what was told before is told after
abbrev pub WriteGives : Option Held → Option Held → List ℕ → List ℕ → Result (Unit {0}) WriteStop → Type 0
WriteGives None now name bytes result = Unit {0}
WriteGives (Some h) None name bytes result = ⊥
WriteGives (Some h) (Some k) name bytes result = IsWritten h k name bytes result

-- the count of faults never falls, and a failed write has raised it
pub record CountsWrite (before now : ℕ) (result : Result (Unit {0}) WriteStop) : Type 0 where
  pub kept : before ≤ now
  pub failed : IsErrOf result w.Failed → Rose before now

-- all the bytes are appended, or a prefix of them where the put stops
pub record IsPut (before now bytes : List ℕ) (result : Result (Unit {0}) PutStop) : Type 0 where
  pub done : OnOk result (now ≡ before ++ bytes)
  pub part : (put left : List ℕ) × (bytes ≡ put ++ left) × (now ≡ before ++ put)

abbrev pub PutGives : Option (List ℕ) → Option (List ℕ) → List ℕ → Result (Unit {0}) PutStop → Type 0
PutGives None now bytes result = Unit {0}
PutGives (Some b) None bytes result = ⊥
PutGives (Some b) (Some n) bytes result = IsPut b n bytes result

-- the count of faults never falls, and a failed put has raised it
pub record CountsPut (before now : ℕ) (result : Result (Unit {0}) PutStop) : Type 0 where
  pub kept : before ≤ now
  pub failed : IsErrOf result p.Failed → Rose before now

-- the count after a call of an object that counts exactly its own failures
abbrev pub read_faults_after : ℕ → Result (Vec ℕ Global) ReadStop → ℕ
read_faults_after before (Ok v) = before
read_faults_after before (Err r.Failed) = one_more before
read_faults_after before (Err r.TooLong) = before
read_faults_after before (Err r.NoMemory) = before

abbrev pub write_faults_after : ℕ → Result (Unit {0}) WriteStop → ℕ
write_faults_after before (Ok v) = before
write_faults_after before (Err w.Failed) = one_more before
write_faults_after before (Err w.NoMemory) = before

abbrev pub put_faults_after : ℕ → Result (Unit {0}) PutStop → ℕ
put_faults_after before (Ok v) = before
put_faults_after before (Err p.Failed) = one_more before
put_faults_after before (Err p.NoMemory) = before
