-- What a phrase comes to is narrow: by the phrase, where each monotype and each result was tested.
use Rattle.std.proofs.Common.{◌≡◌, ℕ, suc, ◌≤◌, true, false, List, [], ◌∷◌, ◌++◌, All, Result, Ok, Option, Some, None, subst, arith}
use Rattle.std.proofs.lemmas.List.Elements.{All-head, All-tail}
use Rattle.htt_syntax.specs.declared.mono.Op.{Op}
use Rattle.htt_syntax.specs.declared.mono.Op.TheVariants.{Lt}
use Rattle.htt_syntax.specs.Trees.{MonoTree, TyTree, TripleTree, TermTree, FixTree, CompTree, StepTree, FormulaTree, TermTrees, m_word, m_bool, m_loc, m_unit}
use Rattle.htt_syntax.specs.Trees.{m_pair, y_mono, y_fun, y_all, y_hoare, y_at, triple, t_var, t_val, t_def, t_app, t_inst, t_lam, t_lam_t, t_do, t_fix}
use Rattle.htt_syntax.specs.Trees.{t_word, t_bool, t_loc, t_unit, t_pair, t_fst, t_snd, t_not, t_bin, t_eq, t_sel, t_ann, t_made, t_at, x_param, x_body}
use Rattle.htt_syntax.specs.Trees.{c_ret, c_step, s_run, s_alloc, s_get, s_set, s_free, s_if, s_claim, f_tt, f_ff, f_and, f_or, f_imp, f_all_t, f_ex_t}
use Rattle.htt_syntax.specs.Trees.{f_all_h, f_ex_h, f_emp, f_cell, f_block, f_join, f_same, f_eq, f_at, f_rec, no_terms, more_terms}
use Rattle.theory_renaming.specs.Renaming.{rename_mono, rename_ty, rename_triple}
use Rattle.theory_values.specs.Values.{op_mono}
use Rattle.theory_counts.specs.Nodes.{nodes_mono}
use Rattle.theory_counts_monotypes.specs.Monotypes.{greatest_in_ty, greatest_in_triple, greatest_in_term, greatest_in_fix, greatest_in_comp}
use Rattle.theory_counts_monotypes.specs.Monotypes.{greatest_in_step, greatest_in_formula, greatest_in_terms}
use Rattle.theory_states.specs.States.{Move, move_alloc, move_get, move_set, move_free, move_run, move_claim, start, owed, branch, finish}
use Rattle.theory_typing.specs.Contexts.{en_mono, en_heap, en_term, Context, Environment, HasEntryType, type_here, type_there, Obligation}
use Rattle.theory_typing.specs.Typing.{Mode, in_program, in_formula, with_heaps, owes, Part, part_step, part_comp, part_unit}
use Rattle.theory_checking.specs.Stops.{Stop, goes_on, Comes, comes, holds, finds}
use Rattle.theory_checking.specs.Results.{Typed, Fixed, Computed, Ran, Moved, Branched, Agrees, GoesOn, AssemblesTo, BodyComesTo}
use Rattle.theory_checking.specs.Results.{BranchComesTo}
use Rattle.theory_checking.specs.Checking.{TyComesTo, TripleComesTo, FormulaComesTo, TermsComeTo, TermComesTo, HeaderComesTo, FixComesTo, RunsTo, StepComesTo}
use Rattle.theory_checking.specs.Checking.{result_of}
use Rattle.theory_checking_derived.proofs.Pieces.{came_to, branch_to}
use Rattle.theory_checking_narrow.specs.Narrow.{IsNarrowMono, IsNarrowTy, IsNarrowTriple, IsNarrowTerm, IsNarrowComp, IsNarrowFormula, IsNarrowContext}
use Rattle.theory_checking_narrow.specs.Narrow.{AreNarrow, IsNarrowEnvironment}
use Rattle.theory_checking_narrow.specs.Laws.{IsNarrowTyped, IsNarrowComputed, IsNarrowAsked, WhatComesIsNarrow}
use Rattle.theory_checking_narrow.proofs.Kept.{triple_kept}
use Rattle.theory_checking_narrow.proofs.States.{none, mono_sent, ty_sent, eta_narrow, folded_narrow, IsNarrowMove, IsNarrowOwed}
use Rattle.theory_checking_narrow.proofs.States.{AreNarrowMonos, start_narrow, owed_narrow, after_narrow, branch_narrow, finish_narrow, merge_narrow, last_narrow}

-- what is owed

join : (o p : List Obligation) → AreNarrow o → AreNarrow p → AreNarrow (o ++ p)
join [] p a b = b
join (x ∷ o) p a b = (a.0, join o p a.1 b)

owing : (g : Context) (goal : Option FormulaTree) → IsNarrowContext g → IsNarrowOwed goal → AreNarrow (owes g goal)
owing g None c a = tt
owing g (Some goal) c a = (((tt, (tt, c)), a), tt)

-- types and their parts

as_same : {A B : TyTree} → A ≡ B → IsNarrowTy A → IsNarrowTy B
as_same e p = subst (λ (A : TyTree). IsNarrowTy A) e p

argument_narrow : {A B C : TyTree} → C ≡ y_fun A B → IsNarrowTy C → IsNarrowTy A
unfolding greatest_in_ty
argument_narrow e p = omega (arith, as_same e p)

left_narrow : (t u : MonoTree) → IsNarrowMono (m_pair t u) → IsNarrowMono t
unfolding nodes_mono
left_narrow t u p = omega (arith, p)

right_narrow : (t u : MonoTree) → IsNarrowMono (m_pair t u) → IsNarrowMono u
unfolding nodes_mono
right_narrow t u p = omega (arith, p)

of_pair : {A : TyTree} {t u : MonoTree} → A ≡ y_mono (m_pair t u) → IsNarrowTy A → IsNarrowMono (m_pair t u)
unfolding greatest_in_ty
of_pair e p = as_same e p

of_spec : {A : TyTree} {spec : TripleTree} → A ≡ y_hoare spec → IsNarrowTy A → IsNarrowTriple spec
unfolding greatest_in_ty
of_spec e p = as_same e p

result_narrow : (spec : TripleTree) → IsNarrowTriple spec → IsNarrowMono (result_of spec)
unfolding greatest_in_triple
result_narrow (triple pre mono post) p = omega (arith, p)

op_narrow : (op : Op) → IsNarrowTy (y_mono (op_mono op))
unfolding greatest_in_ty nodes_mono
op_narrow Lt = omega arith
op_narrow _ = omega arith

pub word_narrow : IsNarrowTy (y_mono m_word)
unfolding greatest_in_ty nodes_mono
word_narrow = omega arith

bool_narrow : IsNarrowTy (y_mono m_bool)
unfolding greatest_in_ty nodes_mono
bool_narrow = omega arith

loc_narrow : IsNarrowTy (y_mono m_loc)
unfolding greatest_in_ty nodes_mono
loc_narrow = omega arith

unit_narrow : IsNarrowTy (y_mono m_unit)
unfolding greatest_in_ty nodes_mono
unit_narrow = omega arith

triple_sent : (spec : TripleTree) → IsNarrowTriple spec → IsNarrowTriple (rename_triple suc spec)
triple_sent spec p = let e = triple_kept suc spec in omega (arith, e, p)

entry_narrow : {g : Context} {n : ℕ} {A : TyTree} → IsNarrowContext g → HasEntryType g n A → IsNarrowTy A
entry_narrow c (type_here {ty = A}) = ty_sent suc A c.0
entry_narrow c (type_there {ty = A} d) = ty_sent suc A (entry_narrow c.1 d)

-- terms

agreed : (at : ℕ) (asked : Option TyTree) {k z : Typed} (r : Typed)
    → IsNarrowAsked asked
    → Comes k (Ok z)
    → Agrees at asked z (Ok r)
    → IsNarrowTyped k
    → IsNarrowTyped r
agreed at None r q comes comes w = w
agreed at (Some A) r q comes (goes_on e comes) w = record { ty = q; term = w.term; owed = w.owed }

-- steps, and what they become

abbrev pub IsNarrowPart : Part → Type 0
IsNarrowPart (part_step step) = greatest_in_step step ≤ 64
IsNarrowPart (part_comp comp) = Unit {0}
IsNarrowPart part_unit = Unit {0}

abbrev pub AreNarrowParts : List Part → Type 0
AreNarrowParts [] = Unit {0}
AreNarrowParts (part ∷ parts) = IsNarrowPart part × AreNarrowParts parts

pub record IsNarrowRan (r : Ran) : Type 0 where
  pub end : IsNarrowFormula r.end
  pub zs : AreNarrowMonos r.zs
  pub value : IsNarrowTerm r.value
  pub parts : AreNarrowParts r.parts
  pub owed : AreNarrow r.owed

pub record IsNarrowMoved (s : Moved) : Type 0 where
  pub mono : IsNarrowMono s.mono
  pub next : IsNarrowFormula s.next
  pub part : IsNarrowPart s.part
  pub owed : AreNarrow s.owed

goes_on_narrow : (g : Context) (state : FormulaTree) (move : Move) (mono : MonoTree) (part : Part) (o : List Obligation) (s : Moved)
    → IsNarrowContext g
    → IsNarrowFormula state
    → IsNarrowMove move
    → IsNarrowMono mono
    → IsNarrowPart part
    → AreNarrow o
    → GoesOn g state move mono part o (Ok s)
    → IsNarrowMoved s
goes_on_narrow g state move mono part o s c r p q x w (goes_on a (goes_on h (goes_on b z))) =
    came_to IsNarrowMoved (record {
      mono = q;
      next = after_narrow move state p r;
      part = x;
      owed = join o (owes g (owed move state)) w (owing g (owed move state) c (owed_narrow move state p r));
    }) z

assembled_narrow : (parts : List Part) (value : TermTree) (E : CompTree)
    → AreNarrowParts parts
    → IsNarrowTerm value
    → AssemblesTo parts value (Ok E)
    → IsNarrowComp E
unfolding AssemblesTo greatest_in_comp
assembled_narrow [] value E p v comes = v
assembled_narrow (part_step step ∷ parts) value E p v (goes_on {given = F} a comes) = omega (arith, p.0, assembled_narrow parts value F p.1 v a)
assembled_narrow (part_comp comp ∷ parts) value E p v (goes_on a (goes_on b (goes_on (goes_on w (holds x)) comes))) = x
assembled_narrow (part_unit ∷ parts) value E p v (goes_on a (goes_on b (goes_on (goes_on w (holds x)) comes))) = x

pub record IsNarrowBranched (b : Branched) : Type 0 where
  pub ending : IsNarrowFormula b.ending
  pub comp : IsNarrowComp b.comp
  pub owed : AreNarrow b.owed

branch_narrows : (g : Context) (mono : MonoTree) (from : FormulaTree) (Row : FormulaTree → Result Ran Stop → Type 0) {b : Branched}
    → IsNarrowMono mono
    → ((r : Ran) → Row from (Ok r) → IsNarrowRan r)
    → BranchComesTo g mono from Row (Ok b)
    → IsNarrowBranched b
branch_narrows g mono from Row n f d =
    branch_to g mono from Row IsNarrowBranched (λ r E x a.
    let y = f r x in
    record {
      ending = finish_narrow r.end r.zs mono r.value y.end y.zs n y.value;
      comp = assembled_narrow r.parts r.value E y.parts y.value a;
      owed = y.owed;
    }) d

body_narrow : (g : Context) (spec : TripleTree) (k : Computed) (Row : MonoTree → FormulaTree → Result Ran Stop → Type 0)
    → IsNarrowContext g
    → IsNarrowTriple spec
    → ((mono : MonoTree) (state : FormulaTree) (r : Ran) → IsNarrowMono mono → IsNarrowFormula state → Row mono state (Ok r) → IsNarrowRan r)
    → BodyComesTo g spec Row (Ok k)
    → IsNarrowComputed k
unfolding greatest_in_triple
body_narrow g (triple pre mono post) k Row c p f
    (goes_on a (goes_on b (goes_on {given = r} d (goes_on h (goes_on e (goes_on l (goes_on {given = E} n comes))))))) =
    let x = f mono (start pre) r (omega (arith, p)) (start_narrow pre (omega (arith, p))) d in
    let end = finish_narrow r.end r.zs mono r.value x.end x.zs (omega (arith, p)) x.value in
    record {
      comp = assembled_narrow r.parts r.value E x.parts x.value n;
      owed = join r.owed _ x.owed
          (((tt, (tt, (omega (arith, p), c))), last_narrow (finish r.end r.zs mono r.value) post end (omega (arith, p))), tt);
    }

module _ (env : Environment) (known : IsNarrowEnvironment env) where
  mutual
    unfolding TyComesTo TripleComesTo FormulaComesTo TermsComeTo TermComesTo HeaderComesTo FixComesTo RunsTo StepComesTo greatest_in_ty
        greatest_in_triple greatest_in_term greatest_in_fix greatest_in_comp greatest_in_step greatest_in_formula greatest_in_terms

    pub ty_narrow : (g : Context) (at : ℕ) (A R : TyTree) → IsNarrowContext g → TyComesTo env g at A (Ok R) → IsNarrowTy R
    ty_narrow g at (y_mono mono) R c (goes_on (goes_on m (holds n)) comes) = n
    ty_narrow g at (y_fun argument answer) R c (goes_on {given = A} a (goes_on h (goes_on {given = B} b comes))) =
        let p = ty_narrow g at argument A c a in omega (arith, p, ty_narrow (en_term A ∷ g) at answer B (p, c) b)
    ty_narrow g at (y_all ty) R c (goes_on h (goes_on {given = A} a comes)) = ty_narrow (en_mono ∷ g) at ty A (tt, c) a
    ty_narrow g at (y_hoare spec) R c (goes_on {given = S} a comes) = triple_narrow g at spec S c a
    ty_narrow g at (y_at inner ty) R c a = ty_narrow g inner ty R c a

    triple_narrow : (g : Context) (at : ℕ) (spec R : TripleTree)
        → IsNarrowContext g
        → TripleComesTo env g at spec (Ok R)
        → IsNarrowTriple R
    triple_narrow g at (triple pre mono post) R c
        (goes_on h (goes_on {given = P} a (goes_on (goes_on m (holds n)) (goes_on k (goes_on {given = Q} b comes))))) =
        omega (
          arith,
          n,
          formula_narrow (en_heap ∷ g) at pre P (tt, c) a,
          formula_narrow (with_heaps (en_term (y_mono mono) ∷ g)) at post Q (tt, (tt, (n, c))) b,
        )

    pub formula_narrow : (g : Context) (at : ℕ) (F R : FormulaTree)
        → IsNarrowContext g
        → FormulaComesTo env g at F (Ok R)
        → IsNarrowFormula R
    formula_narrow g at f_tt R c comes = none
    formula_narrow g at f_ff R c comes = none
    formula_narrow g at (f_and left right) R c (goes_on {given = F} a (goes_on {given = G} b comes)) =
        omega (arith, formula_narrow g at left F c a, formula_narrow g at right G c b)
    formula_narrow g at (f_or left right) R c (goes_on {given = F} a (goes_on {given = G} b comes)) =
        omega (arith, formula_narrow g at left F c a, formula_narrow g at right G c b)
    formula_narrow g at (f_imp left right) R c (goes_on {given = F} a (goes_on {given = G} b comes)) =
        omega (arith, formula_narrow g at left F c a, formula_narrow g at right G c b)
    formula_narrow g at (f_all_t mono body) R c (goes_on (goes_on m (holds n)) (goes_on h (goes_on {given = F} a comes))) =
        omega (arith, n, formula_narrow (en_term (y_mono mono) ∷ g) at body F (n, c) a)
    formula_narrow g at (f_ex_t mono body) R c (goes_on (goes_on m (holds n)) (goes_on h (goes_on {given = F} a comes))) =
        omega (arith, n, formula_narrow (en_term (y_mono mono) ∷ g) at body F (n, c) a)
    formula_narrow g at (f_all_h body) R c (goes_on h (goes_on {given = F} a comes)) = formula_narrow (en_heap ∷ g) at body F (tt, c) a
    formula_narrow g at (f_ex_h body) R c (goes_on h (goes_on {given = F} a comes)) = formula_narrow (en_heap ∷ g) at body F (tt, c) a
    formula_narrow g at (f_emp heap) R c (goes_on i comes) = none
    formula_narrow g at (f_cell mono heap place value) R c
        (goes_on (goes_on m (holds n)) (goes_on i (goes_on {given = k} a (goes_on {given = l} b comes)))) =
        let x = term_narrow in_formula g at place (Some (y_mono m_loc)) k c loc_narrow a in
        let y = term_narrow in_formula g at value (Some (y_mono mono)) l c n b in
        omega (arith, n, x.term, y.term)
    formula_narrow g at (f_block mono heap place) R c (goes_on (goes_on m (holds n)) (goes_on i (goes_on {given = k} a comes))) =
        let x = term_narrow in_formula g at place (Some (y_mono m_loc)) k c loc_narrow a in
        omega (arith, n, x.term)
    formula_narrow g at (f_join whole_heap left_heap right_heap) R c (goes_on i (goes_on k (goes_on l comes))) = none
    formula_narrow g at (f_same left_heap right_heap) R c (goes_on i (goes_on k comes)) = none
    formula_narrow g at (f_eq mono first second) R c (goes_on (goes_on m (holds n)) (goes_on {given = k} a (goes_on {given = l} b comes))) =
        let x = term_narrow in_formula g at first (Some (y_mono mono)) k c n a in
        let y = term_narrow in_formula g at second (Some (y_mono mono)) l c n b in
        omega (arith, n, x.term, y.term)
    formula_narrow g at (f_rec number heap term terms) R c
        (goes_on {given = r} (finds l) (goes_on i (goes_on {given = k} a (goes_on n (goes_on {given = T} b comes))))) =
        let x = term_narrow in_formula g at term (Some (y_mono m_word)) k c word_narrow a in
        omega (arith, x.term, terms_narrow g at terms r.params T c (known.rec_params number r l) b)
    formula_narrow g at (f_at inner formula) R c a = formula_narrow g inner formula R c a

    terms_narrow : (g : Context) (at : ℕ) (terms : TermTrees) (params : List MonoTree) (R : TermTrees)
        → IsNarrowContext g
        → All IsNarrowMono params
        → TermsComeTo env g at terms params (Ok R)
        → greatest_in_terms R ≤ 64
    terms_narrow g at no_terms [] R c p comes = none
    terms_narrow g at no_terms (mono ∷ params) R c p a = elim a [ ]
    terms_narrow g at (more_terms term terms) [] R c p a = elim a [ ]
    terms_narrow g at (more_terms term terms) (mono ∷ params) R c p (goes_on {given = k} a (goes_on {given = T} b comes)) =
        let x = term_narrow in_formula g at term (Some (y_mono mono)) k c (All-head IsNarrowMono mono params p) a in
        omega (arith, x.term, terms_narrow g at terms params T c (All-tail IsNarrowMono mono params p) b)

    pub term_narrow : (m : Mode) (g : Context) (at : ℕ) (M : TermTree) (asked : Option TyTree) (r : Typed)
        → IsNarrowContext g
        → IsNarrowAsked asked
        → TermComesTo env m g at M asked (Ok r)
        → IsNarrowTyped r
    term_narrow m g at (t_var index) asked r c q (goes_on (goes_on {given = A} (finds d) z) s) =
        let p = entry_narrow c d in
        agreed at asked r q z s (record { ty = p; term = eta_narrow (λ n. n) (t_var index) A none p; owed = tt })
    term_narrow m g at (t_val number) asked r c q (goes_on (goes_on {given = A} (finds d) z) s) =
        let p = known.val_types number A d in
        agreed at asked r q z s (record { ty = p; term = eta_narrow (λ n. n) (t_val number) A none p; owed = tt })
    term_narrow m g at (t_def number) asked r c q (goes_on (goes_on {given = D} (finds d) z) s) =
        agreed at asked r q z s (record { ty = known.def_types number D d; term = known.def_terms number D d; owed = tt })
    term_narrow m g at (t_word word) asked r c q (goes_on (goes_on d z) s) =
        agreed at asked r q z s (record { ty = word_narrow; term = none; owed = tt })
    term_narrow m g at (t_bool truth) asked r c q (goes_on z s) =
        agreed at asked r q z s (record { ty = bool_narrow; term = none; owed = tt })
    term_narrow m g at (t_loc place) asked r c q (goes_on (goes_on d z) s) =
        agreed at asked r q z s (record { ty = loc_narrow; term = none; owed = tt })
    term_narrow m g at t_unit asked r c q (goes_on z s) =
        agreed at asked r q z s (record { ty = unit_narrow; term = none; owed = tt })
    term_narrow m g at (t_app function value) asked r c q
        (goes_on (goes_on {given = k} a (goes_on {given = f} (finds e) (goes_on {given = v} b
        (goes_on (goes_on p (goes_on (goes_on n (holds w)) comes)) (goes_on i (goes_on (goes_on o (goes_on (goes_on l (holds x)) comes)) z)))))) s) =
        let y = term_narrow m g at function None k c tt a in
        let u = term_narrow m g at value (Some (f.0)) v c (argument_narrow e y.ty) b in
        agreed at asked r q z s (record { ty = w; term = x; owed = join k.owed v.owed y.owed u.owed })
    term_narrow m g at (t_inst function mono) asked r c q
        (goes_on (goes_on {given = k} a (goes_on e (goes_on n (goes_on (goes_on o (holds w)) (goes_on i (goes_on (goes_on l (holds x)) z)))))) s) =
        agreed at asked r q z s (record { ty = w; term = x; owed = (term_narrow m g at function None k c tt a).owed })
    term_narrow m g at (t_ann term ty) asked r c q (goes_on (goes_on {given = A} a (goes_on {given = v} b z)) s) =
        let p = ty_narrow g at ty A c a in
        let u = term_narrow m g at term (Some A) v c p b in
        agreed at asked r q z s (record { ty = p; term = u.term; owed = u.owed })
    term_narrow m g at (t_pair first second) None r c q
        (goes_on {given = k} a (goes_on e (goes_on {given = l} b (goes_on f (goes_on (holds n) comes))))) =
        let x = term_narrow m g at first None k c tt a in
        let y = term_narrow m g at second None l c tt b in
        record { ty = n; term = omega (arith, x.term, y.term); owed = join k.owed l.owed x.owed y.owed }
    term_narrow m g at (t_pair first second) (Some (y_mono (m_pair left right))) r c q (goes_on {given = k} a (goes_on {given = l} b comes)) =
        let x = term_narrow m g at first (Some (y_mono left)) k c (left_narrow left right q) a in
        let y = term_narrow m g at second (Some (y_mono right)) l c (right_narrow left right q) b in
        record { ty = q; term = omega (arith, x.term, y.term); owed = join k.owed l.owed x.owed y.owed }
    term_narrow m g at (t_pair first second) (Some _) r c q a = elim a [ ]
    term_narrow m g at (t_fst term) asked r c q (goes_on (goes_on {given = k} a (goes_on {given = t} (finds e) z)) s) =
        let x = term_narrow m g at term None k c tt a in
        agreed at asked r q z s (record { ty = left_narrow (t.0) (t.1) (of_pair e x.ty); term = folded_narrow (t_fst k.term) x.term; owed = x.owed })
    term_narrow m g at (t_snd term) asked r c q (goes_on (goes_on {given = k} a (goes_on {given = t} (finds e) z)) s) =
        let x = term_narrow m g at term None k c tt a in
        agreed at asked r q z s (record { ty = right_narrow (t.0) (t.1) (of_pair e x.ty); term = folded_narrow (t_snd k.term) x.term; owed = x.owed })
    term_narrow m g at (t_bin op first second) asked r c q (goes_on (goes_on {given = k} a (goes_on {given = l} b z)) s) =
        let x = term_narrow m g at first (Some (y_mono m_word)) k c word_narrow a in
        let y = term_narrow m g at second (Some (y_mono m_word)) l c word_narrow b in
        agreed at asked r q z s
        (record { ty = op_narrow op; term = folded_narrow (t_bin op k.term l.term) (omega (arith, x.term, y.term)); owed = join k.owed l.owed x.owed y.owed })
    term_narrow m g at (t_not term) asked r c q (goes_on (goes_on {given = k} a z) s) =
        let x = term_narrow m g at term (Some (y_mono m_bool)) k c bool_narrow a in
        agreed at asked r q z s (record { ty = bool_narrow; term = folded_narrow (t_not k.term) x.term; owed = x.owed })
    term_narrow m g at (t_eq mono first second) asked r c q
        (goes_on (goes_on (goes_on o (holds n)) (goes_on i (goes_on {given = k} a (goes_on {given = l} b z)))) s) =
        let x = term_narrow m g at first (Some (y_mono mono)) k c n a in
        let y = term_narrow m g at second (Some (y_mono mono)) l c n b in
        agreed at asked r q z s (record {
          ty = bool_narrow;
          term = folded_narrow (t_eq mono k.term l.term) (omega (arith, n, x.term, y.term));
          owed = join k.owed l.owed x.owed y.owed;
        })
    term_narrow m g at (t_sel mono first second third) asked r c q
        (goes_on (goes_on (goes_on o (holds n)) (goes_on {given = k} a (goes_on {given = l} b (goes_on {given = i} d z)))) s) =
        let x = term_narrow m g at first (Some (y_mono m_bool)) k c bool_narrow a in
        let y = term_narrow m g at second (Some (y_mono mono)) l c n b in
        let w = term_narrow m g at third (Some (y_mono mono)) i c n d in
        agreed at asked r q z s (record {
          ty = n;
          term = folded_narrow (t_sel mono k.term l.term i.term) (omega (arith, n, x.term, y.term, w.term));
          owed = join (k.owed ++ l.owed) i.owed (join k.owed l.owed x.owed y.owed) w.owed;
        })
    term_narrow in_formula g at (t_fix keyword fix) asked r c q a = elim a [ ]
    term_narrow in_program g at (t_fix keyword fix) asked r c q (goes_on (goes_on {given = A} a (goes_on {given = x} b z)) s) =
        let p = header_narrow g at fix A c a in
        let y = fix_narrow g at A fix A x c p p b in
        agreed at asked r q z s (record { ty = p; term = eta_narrow (λ n. n) (t_fix keyword x.fix) A y.0 p; owed = y.1 })
    term_narrow m g at (t_lam term) None r c q a = elim a [ ]
    term_narrow m g at (t_lam term) (Some (y_fun argument answer)) r c q (goes_on h (goes_on {given = k} a comes)) =
        let x = term_narrow m (en_term argument ∷ g) at term (Some answer) k (omega (arith, q), c) (omega (arith, q)) a in
        record { ty = q; term = x.term; owed = x.owed }
    term_narrow m g at (t_lam term) (Some _) r c q a = elim a [ ]
    term_narrow m g at (t_lam_t term) None r c q a = elim a [ ]
    term_narrow m g at (t_lam_t term) (Some (y_all ty)) r c q (goes_on h (goes_on {given = k} a comes)) =
        let x = term_narrow m (en_mono ∷ g) at term (Some ty) k (tt, c) q a in
        record { ty = q; term = x.term; owed = x.owed }
    term_narrow m g at (t_lam_t term) (Some _) r c q a = elim a [ ]
    term_narrow in_formula g at (t_do comp) asked r c q a = elim a [ ]
    term_narrow in_program g at (t_do comp) None r c q a = elim a [ ]
    term_narrow in_program g at (t_do comp) (Some (y_hoare spec)) r c q (goes_on {given = k} a comes) =
        let x = body_narrow g spec k (λ mono state. RunsTo env g at mono state comp) c q
        (λ mono state y t p d. runs_narrow g at mono state comp y c t p d) a in
        record { ty = q; term = x.comp; owed = x.owed }
    term_narrow in_program g at (t_do comp) (Some _) r c q a = elim a [ ]
    term_narrow m g at (t_made number values) asked r c q a = elim a [ ]
    term_narrow m g at (t_at inner term) asked r c q a = term_narrow m g inner term asked r c q a

    header_narrow : (g : Context) (at : ℕ) (fix : FixTree) (R : TyTree) → IsNarrowContext g → HeaderComesTo env g at fix (Ok R) → IsNarrowTy R
    header_narrow g at (x_param argument rest) R c (goes_on {given = A} a (goes_on h (goes_on {given = B} b comes))) =
        let p = ty_narrow g at argument A c a in omega (arith, p, header_narrow (en_term A ∷ g) at rest B (p, c) b)
    header_narrow g at (x_body spec comp) R c (goes_on {given = S} a comes) = triple_narrow g at spec S c a

    fix_narrow : (g : Context) (at : ℕ) (whole : TyTree) (fix : FixTree) (A : TyTree) (x : Fixed)
        → IsNarrowContext g
        → IsNarrowTy whole
        → IsNarrowTy A
        → FixComesTo env g at whole fix A (Ok x)
        → (greatest_in_fix x.fix ≤ 64) × AreNarrow x.owed
    fix_narrow g at whole (x_param argument rest) (y_fun argument' answer) x c w q (goes_on {given = y} a comes) =
        let u = fix_narrow (en_term argument' ∷ g) at (rename_ty suc whole) rest answer y (omega (arith, q), c) (ty_sent suc whole w) (omega (arith, q)) a in
        (omega (arith, q, u.0), u.1)
    fix_narrow g at whole (x_param argument rest) _ x c w q a = elim a [ ]
    fix_narrow g at whole (x_body spec comp) (y_hoare spec') x c w q (goes_on h (goes_on {given = k} a comes)) =
        let u = body_narrow (en_term whole ∷ g) (rename_triple suc spec') k (λ mono state. RunsTo env (en_term whole ∷ g) at mono state comp) (w, c)
        (triple_sent spec' q) (λ mono state y t p d. runs_narrow (en_term whole ∷ g) at mono state comp y (w, c) t p d) a in
        (omega (arith, q, u.comp), u.owed)
    fix_narrow g at whole (x_body spec comp) _ x c w q a = elim a [ ]

    pub runs_narrow : (g : Context) (at : ℕ) (mono : MonoTree) (state : FormulaTree) (comp : CompTree) (r : Ran)
        → IsNarrowContext g
        → IsNarrowMono mono
        → IsNarrowFormula state
        → RunsTo env g at mono state comp (Ok r)
        → IsNarrowRan r
    runs_narrow g at mono state (c_ret term) r c t p (goes_on {given = k} a comes) =
        let x = term_narrow in_program g at term (Some (y_mono mono)) k c t a in
        record { end = p; zs = tt; value = x.term; parts = tt; owed = x.owed }
    runs_narrow g at mono state (c_step step others) r c t p (goes_on {given = s} a (goes_on {given = q} b comes)) =
        let x = step_narrow g at state step s c p a in
        let y = runs_narrow (en_term (y_mono s.mono) ∷ g) at (rename_mono suc mono) s.next others q (x.mono, c) (mono_sent suc mono t) x.next b in
        record {
          end = y.end;
          zs = (x.mono, y.zs);
          value = y.value;
          parts = (x.part, y.parts);
          owed = join s.owed q.owed x.owed y.owed;
        }

    step_narrow : (g : Context) (at : ℕ) (state : FormulaTree) (step : StepTree) (s : Moved)
        → IsNarrowContext g
        → IsNarrowFormula state
        → StepComesTo env g at state step (Ok s)
        → IsNarrowMoved s
    step_narrow g at state (s_alloc mono value) s c p (goes_on (goes_on m (holds n)) (goes_on {given = k} a o)) =
        let x = term_narrow in_program g at value (Some (y_mono mono)) k c n a in
        goes_on_narrow g state (move_alloc mono k.term) m_loc (part_step (s_alloc mono k.term)) k.owed s c p (n, x.term) loc_narrow
        (omega (arith, n, x.term)) x.owed o
    step_narrow g at state (s_get mono place) s c p (goes_on (goes_on m (holds n)) (goes_on {given = k} a o)) =
        let x = term_narrow in_program g at place (Some (y_mono m_loc)) k c loc_narrow a in
        goes_on_narrow g state (move_get mono k.term) mono (part_step (s_get mono k.term)) k.owed s c p (n, x.term) n (omega (arith, n, x.term)) x.owed o
    step_narrow g at state (s_set mono place value) s c p (goes_on (goes_on m (holds n)) (goes_on {given = k} a (goes_on {given = v} b o))) =
        let x = term_narrow in_program g at place (Some (y_mono m_loc)) k c loc_narrow a in
        let y = term_narrow in_program g at value (Some (y_mono mono)) v c n b in
        goes_on_narrow g state (move_set mono k.term v.term) m_unit (part_step (s_set mono k.term v.term)) (k.owed ++ v.owed) s c p
        (n, (x.term, y.term)) unit_narrow (omega (arith, n, x.term, y.term)) (join k.owed v.owed x.owed y.owed) o
    step_narrow g at state (s_free mono place) s c p (goes_on (goes_on m (holds n)) (goes_on {given = k} a o)) =
        let x = term_narrow in_program g at place (Some (y_mono m_loc)) k c loc_narrow a in
        goes_on_narrow g state (move_free mono k.term) m_unit (part_step (s_free mono k.term)) k.owed s c p (n, x.term) unit_narrow
        (omega (arith, n, x.term)) x.owed o
    step_narrow g at state (s_run term given) s c p (goes_on {given = k} a (goes_on {given = spec} (finds e) (goes_on {given = comp} f o))) =
        let x = term_narrow in_program g at term None k c tt a in
        let q = of_spec e x.ty in
        goes_on_narrow g state (move_run spec) (result_of spec) (part_comp comp) k.owed s c p q (result_narrow spec q) tt x.owed o
    step_narrow g at state (s_if mono test on_true on_false) s c p
        (goes_on (goes_on m (holds n)) (goes_on {given = k} a (goes_on {given = b} d (goes_on {given = e} f (goes_on h (goes_on w z)))))) =
        let x = term_narrow in_program g at test (Some (y_mono m_bool)) k c bool_narrow a in
        let y = branch_narrows g mono (branch state k.term true) (λ from. RunsTo env g at mono from on_true) n
        (λ r u. runs_narrow g at mono (branch state k.term true) on_true r c n (branch_narrow state k.term true p x.term) u) d in
        let v = branch_narrows g mono (branch state k.term false) (λ from. RunsTo env g at mono from on_false) n
        (λ r u. runs_narrow g at mono (branch state k.term false) on_false r c n (branch_narrow state k.term false p x.term) u) f in
        came_to IsNarrowMoved (record {
          mono = n;
          next = merge_narrow b.ending e.ending y.ending v.ending;
          part = omega (arith, n, x.term, y.comp, v.comp);
          owed = join (k.owed ++ b.owed) e.owed (join k.owed b.owed x.owed y.owed) v.owed;
        }) z
    step_narrow g at state (s_claim claim) s c p (goes_on k (goes_on {given = F} a o)) =
        goes_on_narrow g state (move_claim F) m_unit part_unit [] s c p (formula_narrow (with_heaps g) at claim F (tt, (tt, c)) a) unit_narrow tt tt o

pub what_comes_is_narrow : WhatComesIsNarrow
what_comes_is_narrow = record {
  types = λ env g known c at A R d. ty_narrow env known g at A R c d;
  formulas = λ env g known c at F R d. formula_narrow env known g at F R c d;
  terms = λ env g known c m at M asked k q d. term_narrow env known m g at M asked k c q d;
  bodies = λ env g known c at spec E k p d.
      body_narrow g spec k (λ mono state. RunsTo env g at mono state E) c p
      (λ mono state r t q x. runs_narrow env known g at mono state E r c t q x) d;
}
