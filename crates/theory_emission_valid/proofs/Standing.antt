-- What emitted instructions need: that they are valid, and that what validity doesn't bound is within bounds.
use Rattle.std.proofs.Common.{◌≡◌, ◌≤◌, ◌<◌, ◌^◌, ℕ, zero, suc, ◌+◌, List, [], ◌∷◌, ◌++◌, All, Some, slice_get, subst, arith}
use Rattle.std.proofs.lemmas.List.Elements.{All-nil, All-cons, All-append}
use Rattle.std.proofs.lemmas.Option.{same_Some}
use Rattle.htt_syntax.specs.Trees.{MonoTree, m_word, m_bool, m_loc, m_unit, m_pair, m_var}
use Rattle.theory_values.specs.Values.{IsWord, width}
use Rattle.theory_counts.specs.Nodes.{nodes_mono}
use Rattle.word_loader_code.specs.declared.code.Code.{Code}
use Rattle.word_loader_code.specs.declared.code.Function.{Function}
use Rattle.word_loader_code.specs.declared.code.Instr.{Instr}
use Rattle.word_loader_code.specs.declared.code.Instr.TheVariants.{Const, Free}
use Rattle.word_loader_code.specs.Valid.{IsValidInstr}
use Rattle.theory_emission.specs.Terms.{Held, held_at, Emitted}

-- no valid instruction bounds the word of `const` and the count of `free`
abbrev pub IsBounded : Instr → Type 0
IsBounded (Const d v) = IsWord v
IsBounded (Free p n) = n < 2 ^ 16
IsBounded i = Unit {0}

pub record IsGood (code : Code) (f : Function) (i : Instr) : Type 0 where
  pub valid : IsValidInstr code f i
  pub bounded : IsBounded i

-- ---- lists of instructions

pub one_good : (code : Code) (f : Function) (i : Instr) → IsValidInstr code f i → IsBounded i → All (IsGood code f) (i ∷ [])
one_good code f i v b = All-cons (IsGood code f) i [] (record { valid = v; bounded = b }) (All-nil (IsGood code f))

pub more_good : (code : Code) (f : Function) (i : Instr) (others : List Instr)
    → IsValidInstr code f i
    → IsBounded i
    → All (IsGood code f) others
    → All (IsGood code f) (i ∷ others)
more_good code f i others v b a = All-cons (IsGood code f) i others (record { valid = v; bounded = b }) a

pub both_good : (code : Code) (f : Function) (xs ys : List Instr) → All (IsGood code f) xs → All (IsGood code f) ys → All (IsGood code f) (xs ++ ys)
both_good code f xs ys a b = All-append (IsGood code f) xs ys a b

-- ---- places that are in use

abbrev pub AreBelow : ℕ → List Held → Type 0
AreBelow next [] = Unit {0}
AreBelow next (x ∷ g) = (x.place + width x.mono ≤ next) × AreBelow next g

pub below_more : (next more : ℕ) (g : List Held) → next ≤ more → AreBelow next g → AreBelow more g
below_more next more [] l b = tt
below_more next more (x ∷ g) l b = let here = b.0 in (omega (arith, l, here), below_more next more g l (b.1))

abbrev pub monos_of : List Held → List MonoTree
monos_of [] = []
monos_of (x ∷ g) = x.mono ∷ monos_of g

-- a variable of a monotype
pub held_is : (g : List Held) (index : ℕ) (t : MonoTree) → slice_get (monos_of g) index ≡ Some t → (held_at g index).mono ≡ t
held_is [] index t q = absurd (cc)
held_is (x ∷ g) zero t q = same_Some x.mono t q
held_is (x ∷ g) (suc index) t q = held_is g index t q

pub held_below : (g : List Held) (index next : ℕ) (t : MonoTree)
    → AreBelow next g
    → slice_get (monos_of g) index ≡ Some t
    → (held_at g index).place + width t ≤ next
held_below [] index next t b q = absurd (cc)
held_below (x ∷ g) zero next t b q = subst (λ (u : MonoTree). x.place + width u ≤ next) (same_Some x.mono t q) (b.0)
held_below (x ∷ g) (suc index) next t b q = held_below g index next t (b.1) q

-- ---- what emission leaves: a place for a value of this monotype, below the next free local

pub record Stands (code : Code) (f : Function) (next : ℕ) (t : MonoTree) (e : Emitted) : Type 0 where
  pub grows : next ≤ e.next
  pub room : e.place + width t ≤ e.next
  pub good : e.next ≤ f.locals → All (IsGood code f) e.instrs

-- ---- widths

-- a value has no more words than its monotype has nodes
pub width_within : (t : MonoTree) → width t ≤ nodes_mono t
unfolding nodes_mono
width_within m_word = omega arith
width_within m_bool = omega arith
width_within m_loc = omega arith
width_within m_unit = omega arith
width_within (m_pair t u) = let a = width_within t in let b = width_within u in omega (arith, a, b)
width_within (m_var index) = omega arith
