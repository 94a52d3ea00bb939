-- The end of a body: the variables of its steps go under quantifiers, behind its result.
use Rattle.std.proofs.Common.{◌≡◌, ℕ, zero, suc, refl, List, [], ◌∷◌, length, ap, subst, sym, ◌∙◌}
use Rattle.htt_syntax.specs.Trees.{MonoTree, TermTree, FormulaTree, m_word, m_bool, m_loc, m_unit, m_pair, m_var, t_var}
use Rattle.theory_renaming.specs.Renaming.{lift, lifts, rename_mono, rename_term}
use Rattle.theory_states.specs.States.{past, some_values, within, ending, finish}
use Rattle.theory_formed_shapes.specs.Shapes.{sh_mono, fill_shape, renaming_of, in_heap, in_term, Shapes, IsHeapAt, heap_at_zero, heap_further, HasShape}
use Rattle.theory_formed_shapes.specs.Shapes.{shape_there}
use Rattle.theory_formed_shapes.specs.Formed.{FileShapes, IsFormedMono, IsFormedTerm, z_neutral, w_var, IsFormedFormula, z_and, z_ex_t, z_equal, IsClosedFile}
use Rattle.theory_formed_shapes.proofs.Fillings.{mono_renamed}
use Rattle.theory_formed_states.specs.Laws.{at_state, under, IsFormedRow}
use Rattle.theory_formed_states.proofs.Sent.{Sends, past_sends, deep, further, sends_further, sends_lift, mono_sent, term_sent, formula_sent, heap_sent}

-- Under i of the variables: where the context with them goes, and where the heaps, the result and the
-- context without them stand.
record At (i : ℕ) (t : MonoTree) (base g h : Shapes) : Type 0 where
  sends : Sends (lifts i (past 3)) g h
  mem : IsHeapAt h i
  init : IsHeapAt h (suc i)
  far : Sends (past (suc (suc (suc i)))) base h
  result : HasShape h (suc (suc i)) (fill_shape (renaming_of (past (suc (suc (suc i))))) (sh_mono t))

first_at : (t : MonoTree) (g : Shapes) → At zero t g g (in_heap ∷ in_heap ∷ in_term (sh_mono t) ∷ g)
unfolding lifts
first_at t g =
    let p = past_sends (in_heap ∷ in_heap ∷ in_term (sh_mono t) ∷ []) g in
    record { sends = p; mem = heap_at_zero; init = heap_further heap_at_zero; far = p; result = deep (in_heap ∷ in_heap ∷ []) g (sh_mono t) }

next_at : {i : ℕ} {t : MonoTree} {base g h : Shapes} (z : MonoTree)
    → At i t base g h
    → At (suc i) t base (in_term (sh_mono z) ∷ g) (in_term (sh_mono (rename_mono (lifts i (past 3)) z)) ∷ h)
unfolding lifts past
next_at {i = i} {t = t} {h = h} z a =
    let entry = in_term (sh_mono (rename_mono (lifts i (past 3)) z)) in
    record {
      sends = sends_lift z a.sends;
      mem = heap_further a.mem;
      init = heap_further a.init;
      far = sends_further entry a.far;
      result = subst (HasShape (entry ∷ h) (suc (suc (suc i)))) (further (past (suc (suc (suc i)))) (sh_mono t)) (shape_there a.result);
    }

-- past the variables, and then behind the result
behind_all : (j n : ℕ) → lifts j (past 3) (past j n) ≡ past (suc (suc (suc j))) n
unfolding lifts lift past
behind_all zero n = refl
behind_all (suc j) n = ap suc (behind_all j n)

mono_behind : (j : ℕ) (t : MonoTree) → rename_mono (lifts j (past 3)) (rename_mono (past j) t) ≡ rename_mono (past (suc (suc (suc j)))) t
unfolding rename_mono
mono_behind j m_word = refl
mono_behind j m_bool = refl
mono_behind j m_loc = refl
mono_behind j m_unit = refl
mono_behind j (m_pair left right) = λ k. m_pair (mono_behind j left k) (mono_behind j right k)
mono_behind j (m_var index) = ap m_var (behind_all j index)

-- so many variables and those of a row
abbrev count : ℕ → List MonoTree → ℕ
count i [] = i
count i (z ∷ zs) = count (suc i) zs

count_next : (i : ℕ) (zs : List MonoTree) → count (suc i) zs ≡ suc (count i zs)
count_next i [] = refl
count_next i (z ∷ zs) = count_next (suc i) zs

count_all : (zs : List MonoTree) → count zero zs ≡ length zs
count_all [] = refl
count_all (z ∷ zs) = count_next zero zs ∙ ap suc (count_all zs)

module _ {file : FileShapes} (c : IsClosedFile file) where
  ending_formed : {j : ℕ} {t : MonoTree} {base g h : Shapes} {R : FormulaTree} {M : TermTree}
      → At j t base g h
      → IsFormedFormula file (at_state g) R
      → IsFormedMono base t
      → IsFormedTerm file g M (sh_mono (rename_mono (past j) t))
      → IsFormedFormula file h (ending j R t M)
  unfolding ending within fill_shape
  ending_formed {j = j} {t = t} {h = h} {M = M} a r m d =
      let all = heap_sent {m = within j} a.mem (heap_sent {m = λ n. within j (suc n)} a.init a.sends) in
      let it =
      subst (λ (u : MonoTree). IsFormedTerm file h (t_var (suc (suc j))) (sh_mono u)) (mono_renamed (past (suc (suc (suc j)))) t)
      (z_neutral (w_var a.result)) in
      let sent = term_sent d c a.sends in
      z_and (formula_sent r c all)
      (z_equal (mono_sent m a.far) it
      (subst (λ (u : MonoTree). IsFormedTerm file h (rename_term (lifts j (past 3)) M) (sh_mono u)) (mono_behind j t) sent))

  some_formed : (i : ℕ) (zs : List MonoTree) {t : MonoTree} {base g h : Shapes} {R : FormulaTree} {M : TermTree}
      → At i t base g h
      → IsFormedRow g zs
      → IsFormedFormula file (at_state (under zs g)) R
      → IsFormedMono base t
      → IsFormedTerm file (under zs g) M (sh_mono (rename_mono (past (count i zs)) t))
      → IsFormedFormula file h (some_values i zs (ending (count i zs) R t M))
  unfolding some_values
  some_formed i [] a row r m d = ending_formed a r m d
  some_formed i (z ∷ zs) a row r m d = z_ex_t (mono_sent row.0 a.sends) (some_formed (suc i) zs (next_at z a) row.1 r m d)

  pub finish_formed : (zs : List MonoTree) {t : MonoTree} {g : Shapes} {R : FormulaTree} {M : TermTree}
      → IsFormedFormula file (at_state (under zs g)) R
      → IsFormedRow g zs
      → IsFormedMono g t
      → IsFormedTerm file (under zs g) M (sh_mono (rename_mono (past (length zs)) t))
      → IsFormedFormula file (at_state (in_term (sh_mono t) ∷ g)) (finish R zs t M)
  unfolding finish
  finish_formed zs {t = t} {g = g} {R = R} {M = M} r row m d =
      let counted = subst (λ (n : ℕ). IsFormedTerm file (under zs g) M (sh_mono (rename_mono (past n) t))) (sym (count_all zs)) d in
      subst (λ (n : ℕ). IsFormedFormula file (at_state (in_term (sh_mono t) ∷ g)) (some_values zero zs (ending n R t M))) (count_all zs)
      (some_formed zero zs (first_at t g) row r m counted)
