-- A sequent's context and hypotheses with a valuation that satisfies them, and what rules add to them.
use Rattle.std.proofs.Common.{suc, List, [], ◌∷◌, ◌++◌, sym, subst}
use Rattle.htt_syntax.specs.Trees.{MonoTree, FormulaTree, y_mono}
use Rattle.theory_renaming.specs.Renaming.{rename_formula}
use Rattle.theory_values.specs.Values.{Value, HasType}
use Rattle.theory_values.specs.Heaps.{Heap, IsHeap}
use Rattle.theory_truth.specs.Truth.{Recs}
use Rattle.theory_truth.specs.Predicates.{recs_of}
use Rattle.theory_canonical.specs.Skeletons.{sk_o, skeleton}
use Rattle.theory_canonical.specs.Contexts.{as_heap, as_term}
use Rattle.theory_canonical.specs.Canonical.{IsCanonicalMono, n_mono, IsCanonicalFormula}
use Rattle.theory_typing.specs.Contexts.{en_heap, en_term, Context, Environment}
use Rattle.theory_typing_canonical.specs.Environments.{standings, heads_of, heap_entry, term_entry}
use Rattle.theory_logic_rules.specs.Sequents.{raised}
use Rattle.theory_logic_true.specs.Sequents.{Each}
use Rattle.theory_denotation.specs.Valuations.{ValuationEntry, den_heap, den_term, Valuation, mono_in, HeadEntries}
use Rattle.theory_denotation.specs.Satisfaction.{Satisfies}
use Rattle.theory_denotation_renaming.proofs.Renamed.{agree_suc}
use Rattle.theory_denotation_renaming.proofs.RenamedTruth.{truth_renamed}
use Rattle.theory_denotation_shapes.specs.Shapes.{InShape, shaped_heap, shaped_term}
use Rattle.theory_logic_unfoldings_satisfied.specs.Entries.{Setting}
use Rattle.theory_logic_satisfied.specs.Laws.{AreCanonical, AreSatisfied}
use Rattle.theory_logic_satisfied.proofs.Forms.{raised_formed}
use Rattle.theory_logic_true.proofs.Scenes.{each_more, each_raised}

pub record Scene (env : Environment) (e : HeadEntries) (g : Context) (hypotheses : List FormulaTree) (w : Valuation) : Type 0 where
  pub around : Setting env e g w
  pub formed : AreCanonical env g hypotheses
  pub true : AreSatisfied env e w hypotheses

-- more hypotheses
pub with_more : {env : Environment} {e : HeadEntries} {g : Context} {hs : List FormulaTree} {w : Valuation} (more : List FormulaTree)
    → Scene env e g hs w
    → AreCanonical env g more
    → AreSatisfied env e w more
    → Scene env e g (hs ++ more) w
with_more {env = env} {e = e} {g = g} {hs = hs} {w = w} more s d t = record {
  around = s.around;
  formed = each_more (IsCanonicalFormula (heads_of env) (standings g)) hs more s.formed d;
  true = each_more (Satisfies (recs_of env.recs) e w) hs more s.true t;
}

pub with_hypothesis : {env : Environment} {e : HeadEntries} {g : Context} {hs : List FormulaTree} {w : Valuation} (F : FormulaTree)
    → Scene env e g hs w
    → IsCanonicalFormula (heads_of env) (standings g) F
    → Satisfies (recs_of env.recs) e w F
    → Scene env e g (hs ++ F ∷ []) w
with_hypothesis F s d t = with_more (F ∷ []) s (d, tt) (t, tt)

-- truth under one more entry
abbrev as_is : (A : Type 0) → Type 0
as_is A = A

pub raise : (R : Recs) (e : HeadEntries) (x : ValuationEntry) (w : Valuation) (F : FormulaTree)
    → Satisfies R e w F
    → Satisfies R e (x ∷ w) (rename_formula suc F)
raise R e x w F h = subst as_is (sym (truth_renamed R e F (agree_suc x w))) h

pub lower : (R : Recs) (e : HeadEntries) (x : ValuationEntry) (w : Valuation) (F : FormulaTree)
    → Satisfies R e (x ∷ w) (rename_formula suc F)
    → Satisfies R e w F
lower R e x w F h = subst as_is (truth_renamed R e F (agree_suc x w)) h

-- one more value, and one more heap
pub with_value : {env : Environment} {e : HeadEntries} {g : Context} {hs : List FormulaTree} {w : Valuation} (t : MonoTree) (v : Value)
    → Scene env e g hs w
    → IsCanonicalMono (standings g) t
    → HasType v (mono_in w t)
    → Scene env e (en_term (y_mono t) ∷ g) (raised hs) (den_term sk_o v ∷ w)
unfolding skeleton InShape
with_value {env = env} {e = e} {g = g} {hs = hs} {w = w} t v s m typed = record {
  around = record {
    environment = s.around.environment;
    heads = s.around.heads;
    context = term_entry s.around.context (n_mono m);
    valuation = shaped_term {ty = y_mono t} {d = v} typed s.around.valuation;
  };
  formed =
      each_raised (IsCanonicalFormula (heads_of env) (standings g)) (IsCanonicalFormula (heads_of env) (as_term sk_o ∷ standings g))
      (λ F. raised_formed (as_term sk_o) F) hs s.formed;
  true =
      each_raised (Satisfies (recs_of env.recs) e w) (Satisfies (recs_of env.recs) e (den_term sk_o v ∷ w))
      (λ F. raise (recs_of env.recs) e (den_term sk_o v) w F) hs s.true;
}

pub with_heap : {env : Environment} {e : HeadEntries} {g : Context} {hs : List FormulaTree} {w : Valuation} (h : Heap)
    → Scene env e g hs w
    → IsHeap h
    → Scene env e (en_heap ∷ g) (raised hs) (den_heap h ∷ w)
with_heap {env = env} {e = e} {g = g} {hs = hs} {w = w} h s is = record {
  around = record {
    environment = s.around.environment;
    heads = s.around.heads;
    context = heap_entry s.around.context;
    valuation = shaped_heap is s.around.valuation;
  };
  formed =
      each_raised (IsCanonicalFormula (heads_of env) (standings g)) (IsCanonicalFormula (heads_of env) (as_heap ∷ standings g))
      (λ F. raised_formed as_heap F) hs s.formed;
  true =
      each_raised (Satisfies (recs_of env.recs) e w) (Satisfies (recs_of env.recs) e (den_heap h ∷ w))
      (λ F. raise (recs_of env.recs) e (den_heap h) w F) hs s.true;
}
