-- Eta-expansions, foldings and states are narrow where their parts are.
use Rattle.std.proofs.Common.{ℕ, zero, suc, ◌≤◌, Bool, true, false, List, [], ◌∷◌, length, Option, Some, None, arith}
use Rattle.htt_syntax.specs.declared.mono.Op.{Op}
use Rattle.htt_syntax.specs.declared.mono.Op.TheVariants.{Lt}
use Rattle.htt_syntax.specs.Trees.{MonoTree, TyTree, TermTree, FormulaTree, m_word, m_bool, m_loc, m_var, y_mono, y_fun, y_all, y_hoare}
use Rattle.htt_syntax.specs.Trees.{y_at, triple, t_var, t_app, t_inst, t_word, t_bool, t_loc, t_pair, t_fst, t_snd, t_not, t_bin, t_eq, t_sel}
use Rattle.theory_renaming.specs.Renaming.{Map, lift, lifts, rename_mono, rename_ty, rename_term, rename_formula}
use Rattle.theory_counts.specs.Nodes.{nodes_mono, nodes_option}
use Rattle.theory_counts.proofs.NodesKept.{nodes_mono_kept}
use Rattle.theory_counts_monotypes.specs.Monotypes.{greatest_in_ty, greatest_in_triple, greatest_in_term, greatest_in_comp, greatest_in_step}
use Rattle.theory_counts_monotypes.specs.Monotypes.{greatest_in_formula}
use Rattle.theory_states.specs.States.{past, at_heaps, at_heap, at_result, Move, move_alloc, move_get, move_set, move_free, move_run, move_claim, start}
use Rattle.theory_states.specs.States.{owes_block, owed, after, branch, some_values, within, ending, finish, merge, last}
use Rattle.theory_canonical.specs.Folding.{op_literal, contractum, folding}
use Rattle.theory_canonical.specs.Eta.{expansion}
use Rattle.theory_checking_narrow.specs.Narrow.{IsNarrowMono, IsNarrowTy, IsNarrowTriple, IsNarrowTerm, IsNarrowFormula}
use Rattle.theory_checking_narrow.proofs.Kept.{ty_kept, term_kept, formula_kept}

-- renamed trees

pub mono_sent : (m : Map) (t : MonoTree) → IsNarrowMono t → IsNarrowMono (rename_mono m t)
mono_sent m t p = let e = nodes_mono_kept m t in omega (arith, e, p)

pub ty_sent : (m : Map) (A : TyTree) → IsNarrowTy A → IsNarrowTy (rename_ty m A)
ty_sent m A p = let e = ty_kept m A in omega (arith, e, p)

pub term_sent : (m : Map) (M : TermTree) → IsNarrowTerm M → IsNarrowTerm (rename_term m M)
term_sent m M p = let e = term_kept m M in omega (arith, e, p)

pub formula_sent : (m : Map) (F : FormulaTree) → IsNarrowFormula F → IsNarrowFormula (rename_formula m F)
formula_sent m F p = let e = formula_kept m F in omega (arith, e, p)

-- an eta-expansion

pub eta_narrow : (m : Map) (M : TermTree) (A : TyTree) → IsNarrowTerm M → IsNarrowTy A → IsNarrowTerm (expansion m M A)
unfolding expansion greatest_in_term greatest_in_comp greatest_in_step greatest_in_ty greatest_in_triple nodes_option nodes_mono
eta_narrow m M (y_mono mono) p q = p
eta_narrow m M (y_fun argument answer) p q =
    eta_narrow (lift m) (t_app (rename_term suc M) (expansion (λ n. suc (m n)) (t_var zero) argument)) answer
    (omega (arith, term_sent suc M p, eta_narrow (λ n. suc (m n)) (t_var zero) argument (omega arith) (omega (arith, q)))) (omega (arith, q))
eta_narrow m M (y_all body) p q =
    eta_narrow (lift m) (t_inst (rename_term suc M) (m_var zero)) body (omega (arith, term_sent suc M p)) q
eta_narrow m M (y_hoare (triple pre mono post)) p q = omega (arith, p, mono_sent m mono (omega (arith, q)))
eta_narrow m M (y_at at ty) p q = eta_narrow m M ty p q

-- a folding

pub none : zero ≤ 64
none = omega arith

literal_narrow : (op : Op) (x y : ℕ) → IsNarrowTerm (op_literal op x y)
unfolding greatest_in_term
literal_narrow Lt x y = none
literal_narrow _ x y = none

pub folded_narrow : (M : TermTree) → IsNarrowTerm M → IsNarrowTerm (folding M)
unfolding contractum greatest_in_term
folded_narrow (t_bin op (t_word x) (t_word y)) p = literal_narrow op x y
folded_narrow (t_not (t_bool x)) p = none
folded_narrow (t_eq m_word (t_word x) (t_word y)) p = none
folded_narrow (t_eq m_bool (t_bool x) (t_bool y)) p = none
folded_narrow (t_eq m_loc (t_loc x) (t_loc y)) p = none
folded_narrow (t_fst (t_pair left right)) p = omega (arith, p)
folded_narrow (t_snd (t_pair left right)) p = omega (arith, p)
folded_narrow (t_sel mono (t_bool true) on_true on_false) p = omega (arith, p)
folded_narrow (t_sel mono (t_bool false) on_true on_false) p = omega (arith, p)
folded_narrow _ p = p

-- the parts of a move, a goal that may be owed, and monotypes

abbrev pub IsNarrowMove : Move → Type 0
IsNarrowMove (move_alloc t N) = IsNarrowMono t × IsNarrowTerm N
IsNarrowMove (move_get t M) = IsNarrowMono t × IsNarrowTerm M
IsNarrowMove (move_set t M N) = IsNarrowMono t × (IsNarrowTerm M × IsNarrowTerm N)
IsNarrowMove (move_free t M) = IsNarrowMono t × IsNarrowTerm M
IsNarrowMove (move_run spec) = IsNarrowTriple spec
IsNarrowMove (move_claim F) = IsNarrowFormula F

abbrev pub IsNarrowOwed : Option FormulaTree → Type 0
IsNarrowOwed None = Unit {0}
IsNarrowOwed (Some F) = IsNarrowFormula F

abbrev pub AreNarrowMonos : List MonoTree → Type 0
AreNarrowMonos [] = Unit {0}
AreNarrowMonos (z ∷ zs) = IsNarrowMono z × AreNarrowMonos zs

-- states

pub start_narrow : (P : FormulaTree) → IsNarrowFormula P → IsNarrowFormula (start P)
unfolding start greatest_in_formula
start_narrow P p = omega (arith, formula_sent (at_heap 1 2) P p)

block_narrow : (R : FormulaTree) (t : MonoTree) (M : TermTree)
    → IsNarrowFormula R
    → IsNarrowMono t
    → IsNarrowTerm M
    → IsNarrowFormula (owes_block R t M)
unfolding owes_block greatest_in_formula
block_narrow R t M r p q = omega (arith, r, mono_sent (past 4) t p, term_sent (past 4) M q)

pub owed_narrow : (move : Move) (R : FormulaTree) → IsNarrowMove move → IsNarrowFormula R → IsNarrowOwed (owed move R)
unfolding owed greatest_in_formula greatest_in_triple greatest_in_term
owed_narrow (move_alloc t N) R p r = tt
owed_narrow (move_get t M) R p r =
    omega (arith, r, mono_sent (past 2) t p.0, mono_sent (past 5) t p.0, term_sent (past 5) M p.1)
owed_narrow (move_set t M N) R p r = block_narrow R t M r p.0 p.1.0
owed_narrow (move_free t M) R p r = block_narrow R t M r p.0 p.1
owed_narrow (move_run (triple P t Q)) R p r = omega (arith, r, formula_sent (at_heap 1 4) P (omega (arith, p)))
owed_narrow (move_claim F) R p r = omega (arith, r, p)

pub after_narrow : (move : Move) (R : FormulaTree) → IsNarrowMove move → IsNarrowFormula R → IsNarrowFormula (after move R)
unfolding after greatest_in_formula greatest_in_triple greatest_in_term
after_narrow (move_alloc t N) R p r =
    omega (arith, formula_sent (at_heaps 0 2 4) R r, mono_sent (past 5) t p.0, term_sent (past 5) N p.1)
after_narrow (move_get t M) R p r =
    omega (arith, formula_sent (at_heaps 0 1 3) R r, mono_sent (past 5) t p.0, term_sent (past 5) M p.1)
after_narrow (move_set t M N) R p r =
    let mono = mono_sent (past 7) t p.0 in
    let place = term_sent (past 7) M p.1.0 in
    omega (arith, formula_sent (at_heaps 3 5 7) R r, mono, place, term_sent (past 7) N p.1.1)
after_narrow (move_free t M) R p r =
    omega (arith, formula_sent (at_heaps 1 3 5) R r, mono_sent (past 5) t p.0, term_sent (past 5) M p.1)
after_narrow (move_run (triple P t Q)) R p r =
    omega (arith, formula_sent (at_heaps 0 2 4) R r, formula_sent (at_heap 1 6) P (omega (arith, p)), formula_sent (at_result 2 0 6 7) Q (omega (arith, p)))
after_narrow (move_claim F) R p r = formula_sent (at_heaps 0 1 3) F p

pub branch_narrow : (R : FormulaTree) (M : TermTree) (side : Bool) → IsNarrowFormula R → IsNarrowTerm M → IsNarrowFormula (branch R M side)
unfolding branch greatest_in_formula greatest_in_term nodes_mono
branch_narrow R M side r p = omega (arith, r, term_sent (past 2) M p)

values_narrow : (i : ℕ) (zs : List MonoTree) (F : FormulaTree) → AreNarrowMonos zs → IsNarrowFormula F → IsNarrowFormula (some_values i zs F)
unfolding some_values greatest_in_formula
values_narrow i [] F z p = p
values_narrow i (t ∷ zs) F z p = omega (arith, mono_sent (lifts i (past 3)) t z.0, values_narrow (suc i) zs F z.1 p)

pub finish_narrow : (R : FormulaTree) (zs : List MonoTree) (t : MonoTree) (M : TermTree)
    → IsNarrowFormula R
    → AreNarrowMonos zs
    → IsNarrowMono t
    → IsNarrowTerm M
    → IsNarrowFormula (finish R zs t M)
unfolding finish ending greatest_in_formula greatest_in_term
finish_narrow R zs t M r z p q =
    values_narrow 0 zs (ending (length zs) R t M) z
    (omega (arith, formula_sent (within (length zs)) R r, mono_sent (past (suc (suc (suc (length zs))))) t p, term_sent (lifts (length zs) (past 3)) M q))

pub merge_narrow : (F G : FormulaTree) → IsNarrowFormula F → IsNarrowFormula G → IsNarrowFormula (merge F G)
unfolding merge greatest_in_formula
merge_narrow F G p q = omega (arith, p, q)

pub last_narrow : (F G : FormulaTree) → IsNarrowFormula F → IsNarrowFormula G → IsNarrowFormula (last F G)
unfolding last greatest_in_formula
last_narrow F G p q = omega (arith, p, q)
