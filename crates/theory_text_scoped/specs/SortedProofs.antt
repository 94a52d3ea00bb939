-- Proofs in which each free variable is one of a context, of the sort that its place needs, and each hypothesis is one
-- of so many. An entry that a proof adds may be a term or a heap.
use Rattle.std.specs.Prelude.{ℕ, suc, ◌<◌, List, [], ◌∷◌}
use Rattle.htt_syntax.specs.Trees.{MonoTree, TermTree, FormulaTree, ArgTree, ProofTree, StmtTree, BlockTree, a_heap}
use Rattle.htt_syntax.specs.Trees.{a_term, p_hyp, p_trivial, p_refl, p_first, p_second, p_left, p_right, p_absurd}
use Rattle.htt_syntax.specs.Trees.{p_both, p_give, p_app, p_inst, p_case, p_rewrite, p_induct, p_split, p_axiom, p_lem}
use Rattle.htt_syntax.specs.Trees.{p_the, p_block, p_at, p_unfold, d_intro, d_gen, d_have, d_open, d_at, b_then, b_end}
use Rattle.theory_text_names.specs.Scopes.{a_term_or_heap}
use Rattle.theory_text_scoped.specs.Sorted.{Sorts, IsHeap, SortedMono, SortedTerm, SortedFormula}

unfoldable pub AreSortedMonos : Sorts → List MonoTree → Type 0
AreSortedMonos g [] = Unit {0}
AreSortedMonos g (t ∷ ts) = SortedMono g t × AreSortedMonos g ts

abbrev pub SortedArg : Sorts → ArgTree → Type 0
SortedArg g (a_heap h) = IsHeap g h
SortedArg g (a_term M) = SortedTerm g M

unfoldable pub AreSortedArgs : Sorts → List ArgTree → Type 0
AreSortedArgs g [] = Unit {0}
AreSortedArgs g (a ∷ others) = SortedArg g a × AreSortedArgs g others

-- the context, and the count of hypotheses, behind a statement
unfoldable pub sorts_after : StmtTree → Sorts → Sorts
sorts_after d_intro g = g
sorts_after d_gen g = a_term_or_heap ∷ g
sorts_after (d_have formula proof) g = g
sorts_after (d_open proof) g = a_term_or_heap ∷ g
sorts_after (d_at at stmt) g = sorts_after stmt g

unfoldable pub hypotheses_after : StmtTree → ℕ → ℕ
hypotheses_after d_intro n = suc n
hypotheses_after d_gen n = n
hypotheses_after (d_have formula proof) n = suc n
hypotheses_after (d_open proof) n = suc n
hypotheses_after (d_at at stmt) n = hypotheses_after stmt n

mutual
  pub data SortedProof : Sorts → ℕ → ProofTree → Type 0 where
    sorted_hyp : {g : Sorts} {n : ℕ} {number : ℕ} → number < n → SortedProof g n (p_hyp number)
    sorted_trivial : {g : Sorts} {n : ℕ} → SortedProof g n p_trivial
    sorted_refl : {g : Sorts} {n : ℕ} → SortedProof g n p_refl
    sorted_first : {g : Sorts} {n : ℕ} {p : ProofTree} → SortedProof g n p → SortedProof g n (p_first p)
    sorted_second : {g : Sorts} {n : ℕ} {p : ProofTree} → SortedProof g n p → SortedProof g n (p_second p)
    sorted_left : {g : Sorts} {n : ℕ} {p : ProofTree} → SortedProof g n p → SortedProof g n (p_left p)
    sorted_right : {g : Sorts} {n : ℕ} {p : ProofTree} → SortedProof g n p → SortedProof g n (p_right p)
    sorted_absurd : {g : Sorts} {n : ℕ} {p : ProofTree} → SortedProof g n p → SortedProof g n (p_absurd p)
    sorted_both : {g : Sorts} {n : ℕ} {p q : ProofTree}
        → SortedProof g n p
        → SortedProof g n q
        → SortedProof g n (p_both p q)
    sorted_give : {g : Sorts} {n : ℕ} {a : ArgTree} {p : ProofTree}
        → SortedArg g a
        → SortedProof g n p
        → SortedProof g n (p_give a p)
    sorted_app : {g : Sorts} {n : ℕ} {p q : ProofTree}
        → SortedProof g n p
        → SortedProof g n q
        → SortedProof g n (p_app p q)
    sorted_inst : {g : Sorts} {n : ℕ} {p : ProofTree} {a : ArgTree}
        → SortedProof g n p
        → SortedArg g a
        → SortedProof g n (p_inst p a)
    sorted_case : {g : Sorts} {n : ℕ} {p q r : ProofTree}
        → SortedProof g n p
        → SortedProof g (suc n) q
        → SortedProof g (suc n) r
        → SortedProof g n (p_case p q r)
    sorted_rewrite : {g : Sorts} {n : ℕ} {p q : ProofTree} {C : FormulaTree}
        → SortedProof g n p
        → SortedFormula (a_term_or_heap ∷ g) C
        → SortedProof g n q
        → SortedProof g n (p_rewrite p C q)
    sorted_induct : {g : Sorts} {n : ℕ} {C : FormulaTree} {M : TermTree} {p q : ProofTree}
        → SortedFormula (a_term_or_heap ∷ g) C
        → SortedTerm g M
        → SortedProof g n p
        → SortedProof (a_term_or_heap ∷ g) (suc (suc n)) q
        → SortedProof g n (p_induct C M p q)
    sorted_split : {g : Sorts} {n : ℕ} {C : FormulaTree} {M : TermTree} {p q : ProofTree}
        → SortedFormula (a_term_or_heap ∷ g) C
        → SortedTerm g M
        → SortedProof g n p
        → SortedProof g n q
        → SortedProof g n (p_split C M p q)
    sorted_axiom : {g : Sorts} {n : ℕ} {name : List ℕ} {ts : List MonoTree} {args : List ArgTree}
        → AreSortedMonos g ts
        → AreSortedArgs g args
        → SortedProof g n (p_axiom name ts args)
    sorted_lem : {g : Sorts} {n : ℕ} {F : FormulaTree} → SortedFormula g F → SortedProof g n (p_lem F)
    sorted_the : {g : Sorts} {n : ℕ} {F : FormulaTree} {p : ProofTree}
        → SortedFormula g F
        → SortedProof g n p
        → SortedProof g n (p_the F p)
    sorted_block : {g : Sorts} {n : ℕ} {b : BlockTree} → SortedBlock g n b → SortedProof g n (p_block b)
    sorted_at : {g : Sorts} {n : ℕ} {at : ℕ} {p : ProofTree} → SortedProof g n p → SortedProof g n (p_at at p)
    sorted_unfold : {g : Sorts} {n : ℕ} {number case : ℕ} {args : List ArgTree}
        → AreSortedArgs g args
        → SortedProof g n (p_unfold number case args)

  pub data SortedStmt : Sorts → ℕ → StmtTree → Type 0 where
    sorted_intro : {g : Sorts} {n : ℕ} → SortedStmt g n d_intro
    sorted_gen : {g : Sorts} {n : ℕ} → SortedStmt g n d_gen
    sorted_have : {g : Sorts} {n : ℕ} {F : FormulaTree} {p : ProofTree}
        → SortedFormula g F
        → SortedProof g n p
        → SortedStmt g n (d_have F p)
    sorted_open : {g : Sorts} {n : ℕ} {p : ProofTree} → SortedProof g n p → SortedStmt g n (d_open p)
    sorted_stmt_at : {g : Sorts} {n : ℕ} {at : ℕ} {d : StmtTree} → SortedStmt g n d → SortedStmt g n (d_at at d)

  pub data SortedBlock : Sorts → ℕ → BlockTree → Type 0 where
    sorted_then : {g : Sorts} {n : ℕ} {d : StmtTree} {b : BlockTree}
        → SortedStmt g n d
        → SortedBlock (sorts_after d g) (hypotheses_after d n) b
        → SortedBlock g n (b_then d b)
    sorted_end : {g : Sorts} {n : ℕ} {p : ProofTree} → SortedProof g n p → SortedBlock g n (b_end p)
