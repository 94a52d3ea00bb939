-- Where the renamings of states send their variables.
use Rattle.std.proofs.Common.{◌≡◌, ℕ, zero, suc, refl, [], ◌∷◌, length, sym, subst}
use Rattle.htt_syntax.specs.Trees.{MonoTree, TermTree, FormulaTree, m_word, m_bool, m_loc, m_unit, m_pair, m_var, t_var}
use Rattle.theory_renaming.specs.Renaming.{Map, lift, rename_mono, rename_term, rename_formula}
use Rattle.theory_substitution.specs.Monotypes.{fill_mono}
use Rattle.theory_states.specs.States.{past, at_heaps, at_heap, at_result}
use Rattle.theory_formed_shapes.specs.Shapes.{Shape, sh_mono, fill_shape, renaming_of, up_shape, in_heap, in_term, ShapeEntry, Shapes, IsMonoAt, mono_further}
use Rattle.theory_formed_shapes.specs.Shapes.{IsHeapAt, heap_further, HasShape, shape_here, shape_there}
use Rattle.theory_formed_shapes.specs.Formed.{FileShapes, IsFormedMono, z_m_var, IsFormedTerm, z_neutral, w_var, IsFormedFormula, IsClosedFile}
use Rattle.theory_formed_shapes.specs.Laws.{FillsFormed}
use Rattle.theory_formed_shapes.proofs.Fillings.{mono_renamed, shape_kept, one_way}
use Rattle.theory_formed_shapes.proofs.Filled.{mono_filled}
use Rattle.theory_formed_shapes.proofs.Renamed as renamed

-- a map that gives for each variable one of its sort and shape
pub record Sends (m : Map) (g h : Shapes) : Type 0 where
  pub monos : (n : ℕ) → IsMonoAt g n → IsMonoAt h (m n)
  pub heaps : (n : ℕ) → IsHeapAt g n → IsHeapAt h (m n)
  pub terms : (n : ℕ) (s : Shape) → HasShape g n s → HasShape h (m n) (fill_shape (renaming_of m) s)

pub fills : {m : Map} {g h : Shapes} → Sends m g h → FillsFormed (renaming_of m) m g h
fills p = record { monos = λ n d. z_m_var (p.monos n d); heaps = p.heaps; terms = p.terms }

-- shapes past one variable more, and seen from behind it
pub further : (m : Map) (s : Shape) → up_shape (fill_shape (renaming_of m) s) ≡ fill_shape (renaming_of (λ n. suc (m n))) s
unfolding fill_mono
further m s = one_way (renaming_of m) (renaming_of suc) (renaming_of (λ n. suc (m n))) (λ n. refl) s

behind : (m : Map) (s : Shape) → fill_shape (renaming_of m) (up_shape s) ≡ fill_shape (renaming_of (λ n. m (suc n))) s
unfolding fill_mono
behind m s = one_way (renaming_of suc) (renaming_of m) (renaming_of (λ n. m (suc n))) (λ n. refl) s

-- a context with these entries more
abbrev pub upon : Shapes → Shapes → Shapes
upon [] g = g
upon (entry ∷ entries) g = entry ∷ upon entries g

pub past_sends : (entries g : Shapes) → Sends (past (length entries)) g (upon entries g)
unfolding past
past_sends [] g = record { monos = λ n d. d; heaps = λ n d. d; terms = λ n s d. subst (HasShape g n) (sym (shape_kept s)) d }
past_sends (entry ∷ entries) g =
    let p = past_sends entries g in
    record {
      monos = λ n d. mono_further (p.monos n d);
      heaps = λ n d. heap_further (p.heaps n d);
      terms = λ n s d.
          subst (HasShape (entry ∷ upon entries g) (suc (past (length entries) n))) (further (past (length entries)) s)
          (shape_there (p.terms n s d));
    }

-- the variable under these entries
pub deep : (entries g : Shapes) (s : Shape)
    → HasShape (upon entries (in_term s ∷ g)) (length entries) (fill_shape (renaming_of (past (suc (length entries)))) s)
unfolding past
deep [] g s = shape_here
deep (entry ∷ entries) g s =
    subst (HasShape (entry ∷ upon entries (in_term s ∷ g)) (suc (length entries))) (further (past (suc (length entries))) s)
    (shape_there (deep entries g s))

pub variable : {file : FileShapes} (entries g : Shapes) (t : MonoTree)
    → IsFormedTerm file (upon entries (in_term (sh_mono t) ∷ g)) (t_var (length entries))
    (sh_mono (rename_mono (past (suc (length entries))) t))
unfolding fill_shape
variable {file = file} entries g t =
    subst (λ (u : MonoTree). IsFormedTerm file (upon entries (in_term (sh_mono t) ∷ g)) (t_var (length entries)) (sh_mono u))
    (mono_renamed (past (suc (length entries))) t) (z_neutral (w_var (deep entries g (sh_mono t))))

-- monotypes and terms past these entries
pub mono_sent : {m : Map} {g h : Shapes} {t : MonoTree} → IsFormedMono g t → Sends m g h → IsFormedMono h (rename_mono m t)
mono_sent {m = m} {h = h} {t = t} d p = subst (IsFormedMono h) (mono_renamed m t) (mono_filled d (fills p))

pub term_sent : {file : FileShapes} {m : Map} {g h : Shapes} {M : TermTree} {t : MonoTree}
    → IsFormedTerm file g M (sh_mono t)
    → IsClosedFile file
    → Sends m g h
    → IsFormedTerm file h (rename_term m M) (sh_mono (rename_mono m t))
unfolding fill_shape
term_sent {file = file} {m = m} {h = h} {M = M} {t = t} d c p =
    subst (λ (u : MonoTree). IsFormedTerm file h (rename_term m M) (sh_mono u)) (mono_renamed m t) (renamed.term_renamed d c (fills p))

pub formula_sent : {file : FileShapes} {m : Map} {g h : Shapes} {F : FormulaTree}
    → IsFormedFormula file g F
    → IsClosedFile file
    → Sends m g h
    → IsFormedFormula file h (rename_formula m F)
formula_sent d c p = renamed.formula_renamed d c (fills p)

-- a variable seen from behind one more
next_sent : (m : Map) {h : Shapes} {n : ℕ} (s : Shape)
    → HasShape h n (fill_shape (renaming_of (λ k. m (suc k))) s)
    → HasShape h n (fill_shape (renaming_of m) (up_shape s))
next_sent m {h = h} {n = n} s d = subst (HasShape h n) (sym (behind m s)) d

-- one heap, and the others
pub heap_sent : {m : Map} {g h : Shapes} → IsHeapAt h (m zero) → Sends (λ n. m (suc n)) g h → Sends m (in_heap ∷ g) h
heap_sent {m = m} {g = g} {h = h} a p = record { monos = monos; heaps = heaps; terms = terms }
  where
    monos : (n : ℕ) → IsMonoAt (in_heap ∷ g) n → IsMonoAt h (m n)
    monos zero d = elim d [ ]
    monos (suc n) (mono_further d) = p.monos n d

    heaps : (n : ℕ) → IsHeapAt (in_heap ∷ g) n → IsHeapAt h (m n)
    heaps zero d = a
    heaps (suc n) (heap_further d) = p.heaps n d

    terms : (n : ℕ) (s : Shape) → HasShape (in_heap ∷ g) n s → HasShape h (m n) (fill_shape (renaming_of m) s)
    terms zero s d = elim d [ ]
    terms (suc n) _ (shape_there {shape = a} d) = next_sent m a (p.terms n a d)

-- one term, and the others
pub value_sent : {m : Map} {g h : Shapes} (b : Shape)
    → HasShape h (m zero) (fill_shape (renaming_of (λ n. m (suc n))) b)
    → Sends (λ n. m (suc n)) g h
    → Sends m (in_term b ∷ g) h
value_sent {m = m} {g = g} {h = h} b a p = record { monos = λ n d. monos n b d; heaps = λ n d. heaps n b d; terms = λ n s d. terms n b s a d }
  where
    monos : (n : ℕ) (b : Shape) → IsMonoAt (in_term b ∷ g) n → IsMonoAt h (m n)
    monos zero b d = elim d [ ]
    monos (suc n) b (mono_further d) = p.monos n d

    heaps : (n : ℕ) (b : Shape) → IsHeapAt (in_term b ∷ g) n → IsHeapAt h (m n)
    heaps zero b d = elim d [ ]
    heaps (suc n) b (heap_further d) = p.heaps n d

    terms : (n : ℕ) (b s : Shape)
        → HasShape h (m zero) (fill_shape (renaming_of (λ k. m (suc k))) b)
        → HasShape (in_term b ∷ g) n s
        → HasShape h (m n) (fill_shape (renaming_of m) s)
    terms zero b _ q shape_here = next_sent m b q
    terms (suc n) b _ q (shape_there {shape = c} d) = next_sent m c (p.terms n c d)

-- past one entry more, and under a value
pub sends_further : {m : Map} {g h : Shapes} (entry : ShapeEntry) → Sends m g h → Sends (λ n. suc (m n)) g (entry ∷ h)
sends_further {m = m} {h = h} entry p = record {
  monos = λ n d. mono_further (p.monos n d);
  heaps = λ n d. heap_further (p.heaps n d);
  terms = λ n s d. subst (HasShape (entry ∷ h) (suc (m n))) (further m s) (shape_there (p.terms n s d));
}

pub sends_lift : {m : Map} {g h : Shapes} (z : MonoTree) → Sends m g h → Sends (lift m) (in_term (sh_mono z) ∷ g) (in_term (sh_mono (rename_mono m z)) ∷ h)
unfolding lift fill_shape
sends_lift {m = m} {g = g} {h = h} z p =
    let entry = in_term (sh_mono (rename_mono m z)) in
    let first =
    subst (λ (u : MonoTree). HasShape (in_term (sh_mono u) ∷ h) zero (fill_shape (renaming_of (λ n. suc (m n))) (sh_mono z)))
    (mono_renamed m z) (subst (HasShape (in_term (fill_shape (renaming_of m) (sh_mono z)) ∷ h) zero) (further m (sh_mono z)) shape_here) in
    value_sent {m = lift m} (sh_mono z) first (sends_further entry p)

pub heaps_sent : (k : ℕ) {m i : ℕ} {g h : Shapes} → IsHeapAt h m → IsHeapAt h i → Sends (past k) g h → Sends (at_heaps m i k) (in_heap ∷ in_heap ∷ g) h
unfolding at_heaps
heaps_sent k {m = m} {i = i} a b p = heap_sent {m = at_heaps m i k} a (heap_sent {m = λ n. at_heaps m i k (suc n)} b p)

pub pre_sent : (k : ℕ) {m : ℕ} {g h : Shapes} → IsHeapAt h m → Sends (past k) g h → Sends (at_heap m k) (in_heap ∷ g) h
unfolding at_heap
pre_sent k {m = m} a p = heap_sent {m = at_heap m k} a p

pub result_sent : (k : ℕ) {b a v : ℕ} {t : MonoTree} {g h : Shapes}
    → IsHeapAt h b
    → IsHeapAt h a
    → HasShape h v (fill_shape (renaming_of (past k)) (sh_mono t))
    → Sends (past k) g h
    → Sends (at_result b a v k) (in_heap ∷ in_heap ∷ in_term (sh_mono t) ∷ g) h
unfolding at_result
result_sent k {b = b} {a = a} {v = v} {t = t} q r s p =
    heap_sent {m = at_result b a v k} r
    (heap_sent {m = λ n. at_result b a v k (suc n)} q (value_sent {m = λ n. at_result b a v k (suc (suc n))} (sh_mono t) s p))

-- what an ex t binds, past two heaps and then past itself and two more
pub twice : (t : MonoTree) → rename_mono (past 3) (rename_mono (past 2) t) ≡ rename_mono (past 5) t
unfolding rename_mono past
twice m_word = refl
twice m_bool = refl
twice m_loc = refl
twice m_unit = refl
twice (m_pair left right) = λ j. m_pair (twice left j) (twice right j)
twice (m_var index) = refl
