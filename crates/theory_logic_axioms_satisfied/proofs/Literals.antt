-- A first-order reading of a valuation: monotypes and heaps stay, and what a term denotes becomes a
-- literal. Operations on terms that denote alike denote alike.
use Rattle.std.proofs.Common.{◌≡◌, ℕ, zero, suc, List, [], ◌∷◌, refl, sym, ap, ◌∙◌}
use Rattle.htt_syntax.specs.declared.mono.Op.{Op}
use Rattle.htt_syntax.specs.Trees.{MonoTree, TermTree, ArgTree, m_word, m_bool, m_loc, m_unit, m_pair, m_var, t_pair, t_fst, t_snd, t_bin, t_eq, a_heap, a_term}
use Rattle.theory_values.specs.Values.{Value, v_word, v_bool, v_loc, v_unit, v_pair, value_of_op, value_of_eq, value_of_fst, value_of_snd}
use Rattle.theory_truth.specs.Worlds.{Thing, World, th_mono, th_value, th_heap, thing_at, mono_of, heap_of, heap_at, mono_under}
use Rattle.theory_truth.specs.TermValue.{value_or_unit, term_value}
use Rattle.theory_truth.proofs.Renamed as truth
use Rattle.theory_canonical.specs.Skeletons.{sk_o}
use Rattle.theory_canonical.specs.Folding.{folding, literal}
use Rattle.theory_logic_axioms.specs.Table.{op_of}
use Rattle.theory_substitution.specs.Closing.{up}
use Rattle.theory_logic_axioms_true.proofs.Folded as values
use Rattle.theory_denotation.specs.Valuations.{ValuationEntry, den_mono, den_heap, den_term, Valuation, entry_at, mono_of_entry, heap_of_entry, mono_in}
use Rattle.theory_denotation.specs.Valuations.{heap_in, HeadEntries}
use Rattle.theory_denotation.specs.Denotation.{term_den}
use Rattle.theory_denotation_renaming.proofs.Renamed.{agree_suc, term_renamed}
use Rattle.theory_denotation_renaming.proofs.Folded as denotations

abbrev pub thing_of : ValuationEntry → Thing
thing_of (den_mono t) = th_mono t
thing_of (den_heap h) = th_heap h
thing_of (den_term sk_o v) = th_value v
thing_of _ = th_value v_unit

abbrev pub world_of : Valuation → World
world_of [] = []
world_of (x ∷ w) = thing_of x ∷ world_of w

thing_there : (w : Valuation) (n : ℕ) → thing_at (world_of w) n ≡ thing_of (entry_at w n)
thing_there [] n = refl
thing_there (x ∷ w) zero = refl
thing_there (x ∷ w) (suc n) = thing_there w n

heap_thing : (x : ValuationEntry) → heap_of_entry x ≡ heap_of (thing_of x)
heap_thing (den_mono t) = refl
heap_thing (den_heap h) = refl
heap_thing (den_term sk_o v) = refl
heap_thing _ = refl

mono_thing : (x : ValuationEntry) → mono_of_entry x ≡ mono_of (thing_of x)
mono_thing (den_mono t) = refl
mono_thing (den_heap h) = refl
mono_thing (den_term sk_o v) = refl
mono_thing _ = refl

pub heap_read : (w : Valuation) (n : ℕ) → heap_in w n ≡ heap_at (world_of w) n
heap_read w n = heap_thing (entry_at w n) ∙ ap heap_of (sym (thing_there w n))

pub mono_read : (w : Valuation) (t : MonoTree) → mono_in w t ≡ mono_under (world_of w) t
mono_read w m_word = refl
mono_read w m_bool = refl
mono_read w m_loc = refl
mono_read w m_unit = refl
mono_read w (m_pair t u) = λ j. m_pair (mono_read w t j) (mono_read w u j)
mono_read w (m_var index) = mono_thing (entry_at w index) ∙ ap mono_of (sym (thing_there w index))

pub literal_value : (w : World) (v : Value) → term_value w (literal v) ≡ v
unfolding term_value
literal_value w (v_word n) = refl
literal_value w (v_bool b) = refl
literal_value w (v_loc n) = refl
literal_value w v_unit = refl
literal_value w (v_pair x y) = λ j. v_pair (literal_value w x j) (literal_value w y j)

-- The first term denotes in the valuation what the second one is in its first-order reading.
pub record Alike (e : HeadEntries) (w : Valuation) (m n : TermTree) : Type 0 where
  pub same : term_den e w m sk_o ≡ term_value (world_of w) n

-- the literal of what a term denotes
abbrev pub literal_of : HeadEntries → Valuation → TermTree → TermTree
literal_of e w m = literal (term_den e w m sk_o)

pub as_literal : (e : HeadEntries) (w : Valuation) (m : TermTree) → Alike e w m (literal_of e w m)
as_literal e w m = record { same = sym (literal_value (world_of w) (term_den e w m sk_o)) }

abbrev pub literals_of : HeadEntries → Valuation → List ArgTree → List ArgTree
literals_of e w [] = []
literals_of e w (a_heap h ∷ others) = a_heap h ∷ literals_of e w others
literals_of e w (a_term m ∷ others) = a_term (literal_of e w m) ∷ literals_of e w others

pub op_alike : {e : HeadEntries} {w : Valuation} (op : Op) {x x' y y' : TermTree} → Alike e w x x' → Alike e w y y' → Alike e w (op_of op x y) (op_of op x' y')
unfolding term_den term_value
op_alike {e = e} {w = w} op {x = x} {x' = x'} {y = y} {y' = y'} p q = record {
  same =
      denotations.folded e w (t_bin op x y)
      ∙ (λ j. value_or_unit (value_of_op op (p.same j) (q.same j)))
      ∙ sym (values.folded (world_of w) (t_bin op x' y'));
}

pub eq_alike : {e : HeadEntries} {w : Valuation} (t : MonoTree) {x x' y y' : TermTree}
    → Alike e w x x'
    → Alike e w y y'
    → Alike e w (folding (t_eq t x y)) (folding (t_eq t x' y'))
unfolding term_den term_value
eq_alike {e = e} {w = w} t {x = x} {x' = x'} {y = y} {y' = y'} p q = record {
  same =
      denotations.folded e w (t_eq t x y)
      ∙ (λ j. value_or_unit (value_of_eq (mono_read w t j) (p.same j) (q.same j)))
      ∙ sym (values.folded (world_of w) (t_eq t x' y'));
}

pub parts_alike : {e : HeadEntries} {w : Valuation} {x x' : TermTree}
    → Alike e w x x'
    → Alike e w (t_pair (folding (t_fst x)) (folding (t_snd x))) (t_pair (folding (t_fst x')) (folding (t_snd x')))
unfolding term_den term_value
parts_alike {e = e} {w = w} {x = x} {x' = x'} p =
    let first = denotations.folded e w (t_fst x) ∙ (λ j. value_or_unit (value_of_fst (p.same j))) ∙ sym (values.folded (world_of w) (t_fst x')) in
    let second = denotations.folded e w (t_snd x) ∙ (λ j. value_or_unit (value_of_snd (p.same j))) ∙ sym (values.folded (world_of w) (t_snd x')) in
    record { same = λ j. v_pair (first j) (second j) }

-- under one more entry
pub up_alike : {e : HeadEntries} {w : Valuation} {m n : TermTree} (x : ValuationEntry) → Alike e w m n → Alike e (x ∷ w) (up m) (up n)
up_alike {e = e} {w = w} {m = m} {n = n} x p = record {
  same =
      term_renamed e m (agree_suc x w) sk_o
      ∙ p.same
      ∙ sym (truth.value_renamed {m = suc} {w = world_of w} {w' = thing_of x ∷ world_of w} (record { at = λ k. refl }) n);
}
