-- That a derived file is sound needs its premises: files that lack one of them alone, with values that
-- miss their triples.
use Rattle.std.specs.Prelude.{◌≡◌, ℕ, List, [], ◌∷◌, Some, slice_get}
use Rattle.htt_syntax.specs.Trees.{TripleTree, m_word, m_loc, y_hoare, triple, t_var, t_word, t_do, c_ret, c_step}
use Rattle.htt_syntax.specs.Trees.{s_alloc, f_tt, f_ff, f_and, f_imp, f_same, f_eq, p_trivial, p_block, d_intro}
use Rattle.htt_syntax.specs.Trees.{y_mono, b_then, b_end}
use Rattle.theory_values.specs.Heaps.{empty_heap}
use Rattle.theory_triples.specs.Triples.{MeetsTriple, run_of_val}
use Rattle.theory_typing.specs.Contexts.{Environment, Obligation, en_heap, en_term}
use Rattle.theory_typing.specs.Laws.{none}
use Rattle.theory_items.specs.Items.{ItemTree, i_val}
use Rattle.theory_file_derived.specs.Derived.{by_auto, by_proof, ProofItem, DerivesAll, given_for, owed_at, IsDerived}
use Rattle.theory_file_derived.specs.Derived.{texts_of}

-- {tt} x : word {ff}
abbrev pub impossible : TripleTree
impossible = triple f_tt m_word f_ff

-- val main : {tt} x : word {ff} = do ret 0
abbrev pub wrong_file : List ItemTree
wrong_file = i_val (y_hoare impossible) (t_do (c_ret (t_word 0))) ∷ []

abbrev pub wrong_env : Environment
wrong_env = record { vals = y_hoare impossible ∷ []; defs = []; recs = [] }

-- what it owes: (tt /\ init = mem) /\ x =[word] 0 => ff
abbrev pub wrong_goal : Obligation
wrong_goal = record {
  context = en_heap ∷ en_heap ∷ en_term (y_mono m_word) ∷ [];
  goal = f_imp (f_and (f_and f_tt (f_same 0 1)) (f_eq m_word (t_var 2) (t_word 0))) f_ff;
}

-- proof main.1 = auto
abbrev pub left_to_provers : List ProofItem
left_to_provers = record { item = Some 0; number = 1; given = by_auto } ∷ []

-- The file derives, and exactly one proof is given for its obligation and aimed at it; but that is `auto`.
pub record AutoIsNoProof : Type 0 where
  pub derives : DerivesAll none wrong_file wrong_env ((wrong_goal ∷ []) ∷ [])
  pub one_given : given_for left_to_provers 0 1 ≡ by_auto ∷ []
  pub aimed : (n : ℕ) (proof : ProofItem)
      → slice_get left_to_provers n ≡ Some proof
      → (o : Obligation) × (owed_at ((wrong_goal ∷ []) ∷ []) proof.item proof.number ≡ Some o)
  pub triple_missed :
      MeetsTriple [] impossible (run_of_val (texts_of wrong_file) 0 1 []) empty_heap empty_heap → ⊥

-- {tt} x : loc {tt}
abbrev pub gives_place : TripleTree
gives_place = triple f_tt m_loc f_tt

-- val main : {tt} x : loc {tt} = do l <- alloc[word] 0; ret l
abbrev pub place_file : List ItemTree
place_file = i_val (y_hoare gives_place) (t_do (c_step (s_alloc m_word (t_word 0)) (c_ret (t_var 0)))) ∷ []

abbrev pub place_env : Environment
place_env = record { vals = y_hoare gives_place ∷ []; defs = []; recs = [] }

-- proof main.1 = intro u; trivial
abbrev pub place_proofs : List ProofItem
place_proofs =
    record { item = Some 0; number = 1; given = by_proof (p_block (b_then d_intro (b_end p_trivial))) } ∷ []

-- The file is derived, but the choice 2^64 is no word, and so the result is no place.
pub record ChoicesAreWords : Type 0 where
  pub derived : IsDerived place_file place_proofs place_env
  pub triple_missed :
      MeetsTriple [] gives_place (run_of_val (texts_of place_file) 0 1 (18446744073709551616 ∷ [])) empty_heap
      empty_heap
      → ⊥
