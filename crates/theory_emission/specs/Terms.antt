-- The emission of terms: the instructions that bring the value of a term to a place. Each new place takes the
-- next free locals, and is never used again.
use Rattle.std.specs.Prelude.{ℕ, zero, suc, ◌+◌, List, [], ◌∷◌, ◌++◌, true, false}
use Rattle.htt_syntax.specs.declared.mono.Op.{Op as Operation}
use Rattle.htt_syntax.specs.declared.mono.Op.TheVariants as ops
use Rattle.htt_syntax.specs.Trees.{MonoTree, TermTree, m_word, m_bool, m_loc, m_unit, m_pair, t_var, t_word, t_bool}
use Rattle.htt_syntax.specs.Trees.{t_loc, t_unit, t_pair, t_fst, t_snd, t_not, t_bin, t_eq, t_sel}
use Rattle.theory_values.specs.Values.{width, op_mono}
use Rattle.word_loader_code.specs.declared.code.Instr.{Instr}
use Rattle.word_loader_code.specs.declared.code.Instr.TheVariants.{Const, Mov, Op, Sel}
use Rattle.word_loader_code.specs.Valid.{not_number}

-- Where a variable stands, and its monotype.
pub record Held : Type 0 where
  pub place : ℕ
  pub mono : MonoTree

-- What is held for the variables, the innermost first. An index beyond them has a harmless place.
abbrev pub held_at : List Held → ℕ → Held
held_at [] n = record { place = zero; mono = m_unit }
held_at (x ∷ others) zero = x
held_at (x ∷ others) (suc n) = held_at others n

abbrev pub first_of_pair : MonoTree → MonoTree
first_of_pair (m_pair left right) = left
first_of_pair mono = m_unit

abbrev pub second_of_pair : MonoTree → MonoTree
second_of_pair (m_pair left right) = right
second_of_pair mono = m_unit

-- The monotype of a term.
abbrev pub mono_of_term : List Held → TermTree → MonoTree
mono_of_term g (t_var index) = (held_at g index).mono
mono_of_term g (t_word word) = m_word
mono_of_term g (t_bool truth) = m_bool
mono_of_term g (t_loc place) = m_loc
mono_of_term g (t_pair left right) = m_pair (mono_of_term g left) (mono_of_term g right)
mono_of_term g (t_fst pair) = first_of_pair (mono_of_term g pair)
mono_of_term g (t_snd pair) = second_of_pair (mono_of_term g pair)
mono_of_term g (t_not term) = m_bool
mono_of_term g (t_bin op left right) = op_mono op
mono_of_term g (t_eq mono left right) = m_bool
mono_of_term g (t_sel mono test on_true on_false) = mono
mono_of_term g term = m_unit

abbrev pub width_of_term : List Held → TermTree → ℕ
width_of_term g term = width (mono_of_term g term)

-- The numbers of the operations in code.
abbrev pub number_of_op : Operation → ℕ
number_of_op ops.Add = 0
number_of_op ops.Sub = 1
number_of_op ops.Mul = 2
number_of_op ops.And = 3
number_of_op ops.Or = 4
number_of_op ops.Xor = 5
number_of_op ops.Shl = 6
number_of_op ops.Shr = 7
number_of_op ops.Lt = 8

abbrev pub eq_number : ℕ
eq_number = 9

-- Instructions, the place at which they leave a value, and the next free local.
pub record Emitted : Type 0 where
  pub instrs : List Instr
  pub place : ℕ
  pub next : ℕ

-- A place that holds a value already, and a constant at a new place.
abbrev pub standing_at : ℕ → ℕ → Emitted
standing_at place next = record { instrs = []; place = place; next = next }

abbrev pub constant : ℕ → ℕ → Emitted
constant next value = record { instrs = Const next value ∷ []; place = next; next = next + 1 }

-- A new place of so many words for what instructions leave there, behind those that were emitted.
abbrev pub at_new_place : List Instr → ℕ → ℕ → (ℕ → List Instr) → Emitted
at_new_place before next words instrs = record { instrs = before ++ instrs next; place = next; next = next + words }

-- One after the other: what is emitted second begins where the first ends.
abbrev pub operation : ℕ → Emitted → Emitted → Emitted
operation number a b = at_new_place (a.instrs ++ b.instrs) b.next 1 (λ d. Op d number a.place b.place ∷ [])

abbrev pub paired : Emitted → ℕ → Emitted → ℕ → Emitted
paired a first b second =
    at_new_place (a.instrs ++ b.instrs) b.next (first + second)
    (λ d. Mov d a.place first ∷ Mov (d + first) b.place second ∷ [])

abbrev pub negated : Emitted → Emitted
negated a = at_new_place a.instrs a.next 1 (λ d. Op d not_number a.place a.place ∷ [])

abbrev pub selected : ℕ → Emitted → Emitted → Emitted → Emitted
selected words c a b =
    at_new_place (c.instrs ++ (a.instrs ++ b.instrs)) b.next words (λ d. Sel d c.place a.place b.place words ∷ [])

-- A part of a pair stands where the pair does.
abbrev pub moved_on : Emitted → ℕ → Emitted
moved_on a words = record { instrs = a.instrs; place = a.place + words; next = a.next }

-- A term, where so many locals are in use.
unfoldable pub emit_term : List Held → ℕ → TermTree → Emitted
emit_term g next (t_var index) = standing_at (held_at g index).place next
emit_term g next (t_word word) = constant next word
emit_term g next (t_bool true) = constant next 1
emit_term g next (t_bool false) = constant next 0
emit_term g next (t_loc place) = constant next place
emit_term g next (t_pair left right) =
    let a = emit_term g next left in
    paired a (width_of_term g left) (emit_term g a.next right) (width_of_term g right)
emit_term g next (t_fst pair) = emit_term g next pair
emit_term g next (t_snd pair) =
    moved_on (emit_term g next pair) (width (first_of_pair (mono_of_term g pair)))
emit_term g next (t_not term) = negated (emit_term g next term)
emit_term g next (t_bin op left right) =
    let a = emit_term g next left in operation (number_of_op op) a (emit_term g a.next right)
emit_term g next (t_eq mono left right) =
    let a = emit_term g next left in operation eq_number a (emit_term g a.next right)
emit_term g next (t_sel mono test on_true on_false) =
    let c = emit_term g next test in
    let a = emit_term g c.next on_true in
    selected (width mono) c a (emit_term g a.next on_false)
emit_term g next term = standing_at next next

-- Terms in order: the instructions, the place and the width of each, and the next free local.
pub record EmittedTerms : Type 0 where
  pub instrs : List Instr
  pub parts : List (ℕ × ℕ)
  pub next : ℕ

unfoldable pub emit_terms : List Held → ℕ → List TermTree → EmittedTerms
emit_terms g next [] = record { instrs = []; parts = []; next = next }
emit_terms g next (term ∷ others) =
    let a = emit_term g next term in
    let rest = emit_terms g a.next others in
    record {
      instrs = a.instrs ++ rest.instrs;
      parts = (a.place, width_of_term g term) ∷ rest.parts;
      next = rest.next;
    }

-- Parts, moved side by side from a place on, and their width together.
abbrev pub moves : ℕ → List (ℕ × ℕ) → List Instr
moves d [] = []
moves d (part ∷ others) = Mov d (part.0) (part.1) ∷ moves (d + part.1) others

abbrev pub width_of_parts : List (ℕ × ℕ) → ℕ
width_of_parts [] = zero
width_of_parts (part ∷ others) = part.1 + width_of_parts others
