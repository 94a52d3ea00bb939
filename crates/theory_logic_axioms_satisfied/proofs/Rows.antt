-- The formula of an axiom says in a valuation what it says of literals in the first-order reading.
use Rattle.std.proofs.Common.{◌≡◌, ℕ, suc, List, [], ◌∷◌, Option, Some, None, refl, ◌⊎◌}
use Rattle.std.specs.Prelude.{Bool, true, false}
use Rattle.htt_syntax.specs.declared.mono.Op.{Op}
use Rattle.htt_syntax.specs.declared.mono.Op.TheVariants.{Add, Sub, Mul, And, Or, Xor, Shl, Lt}
use Rattle.htt_syntax.specs.Trees.{MonoTree, TermTree, FormulaTree, ArgTree, m_word, m_bool, m_loc, m_unit, m_pair, t_var, t_word, t_bool, t_loc, t_unit, f_emp}
use Rattle.htt_syntax.specs.Trees.{f_cell, f_block, f_join, f_same, f_eq, a_heap, a_term}
use Rattle.theory_values.specs.Values.{Value, HasType, encoding, width}
use Rattle.theory_values.specs.Heaps.{Heap, IsHeap, IsEmpty, IsOnly, IsJoin, IsSame}
use Rattle.theory_truth.specs.TermValue.{term_value, loc_of}
use Rattle.theory_truth.specs.Truth.{NotNot, IsBlock, Recs, Holds}
use Rattle.theory_canonical.specs.Skeletons.{sk_o}
use Rattle.theory_logic_axioms.specs.Names.{AxiomName, emp_some, emp_one, join_emp, join_comm, join_assoc, join_fun, join_cancel, join_empty, join_cross}
use Rattle.theory_logic_axioms.specs.Names.{cell_block, cell_one, cell_val, cell_make, block_part, block_sep, block_null, block_emp, block_word, block_place}
use Rattle.theory_logic_axioms.specs.Names.{block_width, add_comm, mul_comm, add_assoc, mul_assoc, add_zero, mul_one, mul_zero, mul_add, sub_add, add_sub}
use Rattle.theory_logic_axioms.specs.Names.{lt_irrefl, lt_zero, lt_trans, lt_total, lt_step, lt_gap, lt_pred, eq_yes, eq_no, bool_or, bool_ne, pair_eta}
use Rattle.theory_logic_axioms.specs.Names.{unit_eta, and_zero, or_zero, xor_self, shl_one}
use Rattle.theory_logic_axioms.specs.Table.{op_of, up_mono, cross_parts, formula_of}
use Rattle.theory_denotation.specs.Valuations.{den_heap, den_term, Valuation, HeadEntries}
use Rattle.theory_denotation.specs.Denotation.{term_den}
use Rattle.theory_denotation.specs.Satisfaction.{Satisfies}
use Rattle.theory_logic_axioms_satisfied.proofs.Literals.{world_of, heap_read, mono_read, Alike, literal_of, literals_of, as_literal, op_alike, eq_alike}
use Rattle.theory_logic_axioms_satisfied.proofs.Literals.{parts_alike}
use Rattle.theory_logic_axioms_satisfied.proofs.Literals.{up_alike}

imp_same : {A B C D : Type 0} → A ≡ C → B ≡ D → (A → B) ≡ (C → D)
imp_same p q = λ j. p j → q j

and_same : {A B C D : Type 0} → A ≡ C → B ≡ D → (A × B) ≡ (C × D)
and_same p q = λ j. p j × q j

or_same : {A B C D : Type 0} → A ≡ C → B ≡ D → NotNot (A ⊎ B) ≡ NotNot (C ⊎ D)
or_same p q = λ j. NotNot (p j ⊎ q j)

emp_same : (R : Recs) (e : HeadEntries) (w : Valuation) (h : ℕ) → Satisfies R e w (f_emp h) ≡ Holds R (world_of w) (f_emp h)
unfolding Satisfies Holds
emp_same R e w h = λ j. IsEmpty (heap_read w h j)

same_same : (R : Recs) (e : HeadEntries) (w : Valuation) (h k : ℕ) → Satisfies R e w (f_same h k) ≡ Holds R (world_of w) (f_same h k)
unfolding Satisfies Holds
same_same R e w h k = λ j. IsSame (heap_read w h j) (heap_read w k j)

join_same : (R : Recs) (e : HeadEntries) (w : Valuation) (h a b : ℕ) → Satisfies R e w (f_join h a b) ≡ Holds R (world_of w) (f_join h a b)
unfolding Satisfies Holds
join_same R e w h a b = λ j. IsJoin (heap_read w h j) (heap_read w a j) (heap_read w b j)

eq_same : (R : Recs) {e : HeadEntries} {w : Valuation} (t : MonoTree) {m n m' n' : TermTree}
    → Alike e w m m'
    → Alike e w n n'
    → Satisfies R e w (f_eq t m n) ≡ Holds R (world_of w) (f_eq t m' n')
unfolding Satisfies Holds
eq_same R t p q = λ j. p.same j ≡ q.same j

cell_same : (R : Recs) {e : HeadEntries} {w : Valuation} (t : MonoTree) (h : ℕ) {m n m' n' : TermTree}
    → Alike e w m m'
    → Alike e w n n'
    → Satisfies R e w (f_cell t h m n) ≡ Holds R (world_of w) (f_cell t h m' n')
unfolding Satisfies Holds
cell_same R {w = w} t h p q = λ j. IsOnly (heap_read w h j) (loc_of (p.same j)) (encoding (q.same j))

block_same : (R : Recs) {e : HeadEntries} {w : Valuation} (t : MonoTree) (h : ℕ) {m m' : TermTree}
    → Alike e w m m'
    → Satisfies R e w (f_block t h m) ≡ Holds R (world_of w) (f_block t h m')
unfolding Satisfies Holds
block_same R {w = w} t h p = λ j. IsBlock (heap_read w h j) (loc_of (p.same j)) (width (mono_read w t j))

ex_heap_same : {A B : Heap → Type 0} → ((k : Heap) → A k ≡ B k) → NotNot ((k : Heap) × IsHeap k × A k) ≡ NotNot ((k : Heap) × IsHeap k × B k)
ex_heap_same p = λ j. NotNot ((k : Heap) × IsHeap k × p k j)

ex_value_same : {A B : Value → Type 0} {t u : MonoTree}
    → t ≡ u
    → ((v : Value) → A v ≡ B v)
    → NotNot ((v : Value) × HasType v t × A v) ≡ NotNot ((v : Value) × HasType v u × B v)
ex_value_same q p = λ j. NotNot ((v : Value) × HasType v (q j) × p v j)

first_alike : (e : HeadEntries) (w : Valuation) (v : Value) → Alike e (den_term sk_o v ∷ w) (t_var 0) (t_var 0)
unfolding term_den term_value
first_alike e w v = record { same = refl }

-- A formula says in the valuation what the other one says in the first-order reading.
abbrev pub SameSaying : Recs → HeadEntries → Valuation → Option FormulaTree → Option FormulaTree → Type 1
SameSaying R e w (Some F) (Some G) = Satisfies R e w F ≡ Holds R (world_of w) G
SameSaying R e w (Some F) None = ⊥ ≡ Unit {0}
SameSaying R e w None o = Unit {1}

module _ (R : Recs) (e : HeadEntries) (w : Valuation) where
  lit : (m : TermTree) → Alike e w m (literal_of e w m)
  lit m = as_literal e w m

  word : (n : ℕ) → Alike e w (t_word n) (t_word n)
  unfolding term_den term_value
  word n = record { same = refl }

  loc : (n : ℕ) → Alike e w (t_loc n) (t_loc n)
  unfolding term_den term_value
  loc n = record { same = refl }

  bool : (b : Bool) → Alike e w (t_bool b) (t_bool b)
  unfolding term_den term_value
  bool b = record { same = refl }

  unit_alike : Alike e w t_unit t_unit
  unfolding term_den term_value
  unit_alike = record { same = refl }

  op : (o : Op) {x x' y y' : TermTree} → Alike e w x x' → Alike e w y y' → Alike e w (op_of o x y) (op_of o x' y')
  op o p q = op_alike o p q

  cross_same : (a b c d : ℕ) → Satisfies R e w (cross_parts a b c d) ≡ Holds R (world_of w) (cross_parts a b c d)
  unfolding Satisfies Holds
  cross_same a b c d = ex_heap_same (λ p. ex_heap_same (λ q. ex_heap_same (λ r. ex_heap_same (λ s.
      let v = den_heap s ∷ den_heap r ∷ den_heap q ∷ den_heap p ∷ w in
      and_same (join_same R e v (suc (suc (suc (suc a)))) 3 2)
      (and_same (join_same R e v (suc (suc (suc (suc b)))) 1 0)
      (and_same (join_same R e v (suc (suc (suc (suc c)))) 3 1) (join_same R e v (suc (suc (suc (suc d)))) 2 0)))))))

  pub row : (axiom_name : AxiomName) (monos : List MonoTree) (arguments : List ArgTree)
      → SameSaying R e w (formula_of axiom_name monos arguments) (formula_of axiom_name monos (literals_of e w arguments))
  unfolding formula_of Satisfies Holds
  row emp_some [] [] = refl
  row emp_one [] (a_heap h ∷ a_heap k ∷ []) = imp_same (emp_same R e w h) (imp_same (emp_same R e w k) (same_same R e w h k))
  row join_emp [] (a_heap h ∷ a_heap o ∷ []) = imp_same (emp_same R e w o) (join_same R e w h h o)
  row join_comm [] (a_heap h ∷ a_heap a ∷ a_heap b ∷ []) = imp_same (join_same R e w h a b) (join_same R e w h b a)
  row join_assoc [] (a_heap h ∷ a_heap a ∷ a_heap b ∷ a_heap c ∷ a_heap d ∷ []) =
      imp_same (join_same R e w h a b)
      (imp_same (join_same R e w a c d)
      (ex_heap_same (λ k. and_same (join_same R e (den_heap k ∷ w) (suc h) (suc c) 0) (join_same R e (den_heap k ∷ w) 0 (suc d) (suc b)))))
  row join_fun [] (a_heap h ∷ a_heap k ∷ a_heap a ∷ a_heap b ∷ []) = imp_same (join_same R e w h a b) (imp_same (join_same R e w k a b) (same_same R e w h k))
  row join_cancel [] (a_heap h ∷ a_heap a ∷ a_heap b ∷ a_heap c ∷ []) =
      imp_same (join_same R e w h a b) (imp_same (join_same R e w h a c) (same_same R e w b c))
  row join_empty [] (a_heap h ∷ a_heap a ∷ a_heap b ∷ []) =
      imp_same (emp_same R e w h) (imp_same (join_same R e w h a b) (and_same (emp_same R e w a) (emp_same R e w b)))
  row join_cross [] (a_heap h ∷ a_heap a ∷ a_heap b ∷ a_heap c ∷ a_heap d ∷ []) =
      imp_same (join_same R e w h a b) (imp_same (join_same R e w h c d) (cross_same a b c d))
  row cell_block (t ∷ []) (a_heap h ∷ a_term m ∷ a_term n ∷ []) = imp_same (cell_same R t h (lit m) (lit n)) (block_same R t h (lit m))
  row cell_one (t ∷ []) (a_heap g ∷ a_heap k ∷ a_term m ∷ a_term n ∷ []) =
      imp_same (cell_same R t g (lit m) (lit n)) (imp_same (cell_same R t k (lit m) (lit n)) (same_same R e w g k))
  row cell_val (t ∷ []) (a_heap g ∷ a_term m ∷ a_term n ∷ a_term p ∷ []) =
      imp_same (cell_same R t g (lit m) (lit n)) (imp_same (cell_same R t g (lit m) (lit p)) (eq_same R t (lit n) (lit p)))
  row cell_make (t ∷ []) (a_term m ∷ a_term n ∷ []) =
      imp_same (imp_same (eq_same R m_loc (lit m) (loc 0)) refl)
      (ex_heap_same (λ k. cell_same R (up_mono t) 0 (up_alike (den_heap k) (lit m)) (up_alike (den_heap k) (lit n))))
  row block_part (t ∷ s ∷ []) (a_heap h ∷ a_heap a ∷ a_heap b ∷ a_heap c ∷ a_heap d ∷ a_term m ∷ []) =
      imp_same (block_same R t a (lit m))
      (imp_same (join_same R e w h a b)
      (imp_same (block_same R s c (lit m)) (imp_same (join_same R e w h c d) (and_same (same_same R e w a c) (same_same R e w b d)))))
  row block_sep (t ∷ s ∷ []) (a_heap h ∷ a_heap a ∷ a_heap b ∷ a_term m ∷ []) =
      imp_same (block_same R t a (lit m)) (imp_same (block_same R s b (lit m)) (imp_same (join_same R e w h a b) refl))
  row block_null (t ∷ []) (a_heap h ∷ []) = imp_same (block_same R t h (loc 0)) refl
  row block_emp (t ∷ []) (a_heap h ∷ a_term m ∷ []) = imp_same (block_same R t h (lit m)) (imp_same (emp_same R e w h) refl)
  row block_word [] (a_heap h ∷ a_term m ∷ []) =
      imp_same (block_same R m_word h (lit m))
      (ex_value_same (mono_read w m_word) (λ v. cell_same R m_word (suc h) (up_alike (den_term sk_o v) (lit m)) (first_alike e w v)))
  row block_place (t ∷ s ∷ []) (a_heap h ∷ a_term m ∷ a_term n ∷ []) =
      imp_same (block_same R t h (lit m)) (imp_same (block_same R s h (lit n)) (eq_same R m_loc (lit m) (lit n)))
  row block_width (t ∷ s ∷ []) (a_heap h ∷ a_term m ∷ []) = imp_same (block_same R t h (lit m)) (block_same R s h (lit m))
  row add_comm [] (a_term x ∷ a_term y ∷ []) = eq_same R m_word (op Add (lit x) (lit y)) (op Add (lit y) (lit x))
  row mul_comm [] (a_term x ∷ a_term y ∷ []) = eq_same R m_word (op Mul (lit x) (lit y)) (op Mul (lit y) (lit x))
  row add_assoc [] (a_term x ∷ a_term y ∷ a_term z ∷ []) = eq_same R m_word (op Add (op Add (lit x) (lit y)) (lit z)) (op Add (lit x) (op Add (lit y) (lit z)))
  row mul_assoc [] (a_term x ∷ a_term y ∷ a_term z ∷ []) = eq_same R m_word (op Mul (op Mul (lit x) (lit y)) (lit z)) (op Mul (lit x) (op Mul (lit y) (lit z)))
  row add_zero [] (a_term x ∷ []) = eq_same R m_word (op Add (lit x) (word 0)) (lit x)
  row mul_one [] (a_term x ∷ []) = eq_same R m_word (op Mul (lit x) (word 1)) (lit x)
  row mul_zero [] (a_term x ∷ []) = eq_same R m_word (op Mul (lit x) (word 0)) (word 0)
  row mul_add [] (a_term x ∷ a_term y ∷ a_term z ∷ []) =
      eq_same R m_word (op Mul (lit x) (op Add (lit y) (lit z))) (op Add (op Mul (lit x) (lit y)) (op Mul (lit x) (lit z)))
  row sub_add [] (a_term x ∷ a_term y ∷ []) = eq_same R m_word (op Add (op Sub (lit x) (lit y)) (lit y)) (lit x)
  row add_sub [] (a_term x ∷ a_term y ∷ []) = eq_same R m_word (op Sub (op Add (lit x) (lit y)) (lit y)) (lit x)
  row lt_irrefl [] (a_term x ∷ []) = eq_same R m_bool (op Lt (lit x) (lit x)) (bool false)
  row lt_zero [] (a_term x ∷ []) = eq_same R m_bool (op Lt (lit x) (word 0)) (bool false)
  row lt_trans [] (a_term x ∷ a_term y ∷ a_term z ∷ []) =
      imp_same (eq_same R m_bool (op Lt (lit x) (lit y)) (bool true))
      (imp_same (eq_same R m_bool (op Lt (lit y) (lit z)) (bool true)) (eq_same R m_bool (op Lt (lit x) (lit z)) (bool true)))
  row lt_total [] (a_term x ∷ a_term y ∷ []) =
      or_same (eq_same R m_bool (op Lt (lit x) (lit y)) (bool true))
      (or_same (eq_same R m_word (lit x) (lit y)) (eq_same R m_bool (op Lt (lit y) (lit x)) (bool true)))
  row lt_step [] (a_term x ∷ a_term y ∷ []) =
      imp_same (eq_same R m_bool (op Lt (lit x) (lit y)) (bool true))
      (eq_same R m_bool (op Lt (lit x) (op Add (lit x) (word 1))) (bool true))
  row lt_gap [] (a_term x ∷ a_term y ∷ []) =
      imp_same (eq_same R m_bool (op Lt (lit x) (lit y)) (bool true))
      (eq_same R m_bool (op Lt (lit y) (op Add (lit x) (word 1))) (bool false))
  row lt_pred [] (a_term x ∷ []) =
      imp_same (imp_same (eq_same R m_word (lit x) (word 0)) refl) (eq_same R m_bool (op Lt (op Sub (lit x) (word 1)) (lit x)) (bool true))
  row eq_yes (t ∷ []) (a_term m ∷ a_term n ∷ []) = imp_same (eq_same R m_bool (eq_alike t (lit m) (lit n)) (bool true)) (eq_same R t (lit m) (lit n))
  row eq_no (t ∷ []) (a_term m ∷ a_term n ∷ []) = imp_same (eq_same R t (lit m) (lit n)) (eq_same R m_bool (eq_alike t (lit m) (lit n)) (bool true))
  row bool_or [] (a_term b ∷ []) = or_same (eq_same R m_bool (lit b) (bool true)) (eq_same R m_bool (lit b) (bool false))
  row bool_ne [] [] = imp_same (eq_same R m_bool (bool true) (bool false)) refl
  row pair_eta (t ∷ s ∷ []) (a_term p ∷ []) = eq_same R (m_pair t s) (parts_alike (lit p)) (lit p)
  row unit_eta [] (a_term u ∷ []) = eq_same R m_unit (lit u) unit_alike
  row and_zero [] (a_term x ∷ []) = eq_same R m_word (op And (lit x) (word 0)) (word 0)
  row or_zero [] (a_term x ∷ []) = eq_same R m_word (op Or (lit x) (word 0)) (lit x)
  row xor_self [] (a_term x ∷ []) = eq_same R m_word (op Xor (lit x) (lit x)) (word 0)
  row shl_one [] (a_term x ∷ []) = eq_same R m_word (op Shl (lit x) (word 1)) (op Add (lit x) (lit x))
  row _ _ _ = tt
