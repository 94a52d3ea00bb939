-- What a phrase owes is within the limits: by the phrase, where each goal was tested.
use Rattle.std.proofs.Common.{ℕ, suc, ◌+◌, ◌≤◌, true, false, List, [], ◌∷◌, ◌++◌, length, All, Result, Ok, Option, Some, None, arith}
use Rattle.std.proofs.lemmas.List.Elements.{All-nil, All-cons, All-append}
use Rattle.htt_syntax.specs.Trees.{MonoTree, TyTree, TripleTree, TermTree, FixTree, CompTree, StepTree, FormulaTree, m_pair, m_bool, m_loc, m_unit, m_word, y_mono}
use Rattle.htt_syntax.specs.Trees.{y_fun, y_all, y_hoare, triple, t_var, t_val, t_def, t_app, t_inst, t_lam, t_lam_t, t_do, t_fix, t_word, t_bool, t_loc}
use Rattle.htt_syntax.specs.Trees.{t_unit, t_pair, t_fst, t_snd, t_not, t_bin, t_eq, t_sel, t_ann, t_made, t_at, x_param, x_body, c_ret, c_step, s_run}
use Rattle.htt_syntax.specs.Trees.{s_alloc, s_get, s_set, s_free, s_if, s_claim}
use Rattle.theory_renaming.specs.Renaming.{rename_mono, rename_ty, rename_triple}
use Rattle.theory_states.specs.States.{Move, move_alloc, move_get, move_set, move_free, move_run, move_claim, owed, start, branch, finish, last}
use Rattle.theory_typing.specs.Contexts.{en_mono, en_term, Context, Environment, Obligation}
use Rattle.theory_typing.specs.Typing.{Mode, in_program, in_formula, with_heaps, owes, Part, part_step, part_comp, part_unit}
use Rattle.theory_items.specs.Items.{ItemTree, i_abbreviation, i_pred, i_def, i_val, i_rec}
use Rattle.theory_checking.specs.Stops.{Stop, goes_on, Comes, comes, holds, finds, makes}
use Rattle.theory_checking.specs.Limits.{entry_limit, StateIsWithin, OwedIsWithin}
use Rattle.theory_checking.specs.Results.{Typed, Fixed, Computed, Ran, Moved, Branched, Agrees, GoesOn, BodyComesTo}
use Rattle.theory_checking.specs.Checking.{TermComesTo, FixComesTo, RunsTo, StepComesTo, result_of}
use Rattle.theory_checking_derived.proofs.Pieces.{came_to, branch_to}
use Rattle.theory_checking_items.specs.Items.{Checked, ItemComesTo}
use Rattle.theory_checking_canonical.specs.Laws.{IsWithin, OwedIsWithinLimits}

nothing : All IsWithin []
nothing = All-nil IsWithin

join : (o p : List Obligation) → All IsWithin o → All IsWithin p → All IsWithin (o ++ p)
join o p a b = All-append IsWithin o p a b

-- room for so many entries more
abbrev pub Room : Context → ℕ → Type 0
Room g n = length g + n ≤ entry_limit

one : (g : Context) (goal : FormulaTree) → Room g 0 → StateIsWithin goal (Ok tt) → All IsWithin (record { context = g; goal = goal } ∷ [])
one g goal room (goes_on (holds n) (holds d)) =
    All-cons IsWithin _ [] (record { nodes = n; depth = d; entries = omega (arith, room) }) nothing

owing : (g : Context) (goal : Option FormulaTree) → Room g 2 → OwedIsWithin goal (Ok tt) → All IsWithin (owes g goal)
owing g None room a = nothing
owing g (Some goal) room a = one (with_heaps g) goal (omega (arith, room)) a

agreed : (at : ℕ) (asked : Option TyTree) {k z : Typed} (r : Typed) → All IsWithin k.owed → Comes k (Ok z) → Agrees at asked z (Ok r) → All IsWithin r.owed
agreed at None r w comes comes = w
agreed at (Some A) r w comes (goes_on (holds e) comes) = w

-- a step leaves room for its variable and the heaps
abbrev pub StepWithin : Context → Moved → Type 0
StepWithin g s = All IsWithin s.owed × Room g 3

goes_on_within : (g : Context) (state : FormulaTree) (move : Move) (mono : MonoTree) (part : Part) (o : List Obligation) (s : Moved)
    → Room g 2
    → All IsWithin o
    → GoesOn g state move mono part o (Ok s)
    → StepWithin g s
goes_on_within g state move mono part o s room w (goes_on a (goes_on (holds h) (goes_on b z))) =
    (came_to (λ (x : Moved). All IsWithin x.owed) (join o (owes g (owed move state)) w (owing g (owed move state) room a)) z, h)

body_within : (g : Context) (spec : TripleTree) (c : Computed) (Row : MonoTree → FormulaTree → Result Ran Stop → Type 0)
    → ((mono : MonoTree) (state : FormulaTree) (r : Ran) → Room g 2 → Row mono state (Ok r) → All IsWithin r.owed)
    → BodyComesTo g spec Row (Ok c)
    → All IsWithin c.owed
body_within g (triple pre mono post) c Row f
    (goes_on (holds a) (goes_on b (goes_on {given = r} d (goes_on (holds h) (goes_on k (goes_on l (goes_on n comes))))))) =
    join r.owed _ (f mono (start pre) r a d)
    (one (with_heaps (en_term (y_mono mono) ∷ g)) (last (finish r.end r.zs mono r.value) post) (omega (arith, h)) l)

mutual
  unfolding TermComesTo FixComesTo RunsTo StepComesTo

  pub term_within : (env : Environment) (m : Mode) (g : Context) (at : ℕ) (M : TermTree) (asked : Option TyTree) (r : Typed)
      → TermComesTo env m g at M asked (Ok r)
      → All IsWithin r.owed
  term_within env m g at (t_var index) asked r (goes_on (goes_on (finds d) z) s) = agreed at asked r nothing z s
  term_within env m g at (t_val number) asked r (goes_on (goes_on (finds d) z) s) = agreed at asked r nothing z s
  term_within env m g at (t_def number) asked r (goes_on (goes_on (finds d) z) s) = agreed at asked r nothing z s
  term_within env m g at (t_word word) asked r (goes_on (goes_on (makes d) z) s) = agreed at asked r nothing z s
  term_within env m g at (t_bool truth) asked r (goes_on z s) = agreed at asked r nothing z s
  term_within env m g at (t_loc place) asked r (goes_on (goes_on (makes d) z) s) = agreed at asked r nothing z s
  term_within env m g at t_unit asked r (goes_on z s) = agreed at asked r nothing z s
  term_within env m g at (t_app function value) asked r
      (goes_on (goes_on {given = k} a (goes_on {given = f} e (goes_on {given = v} b (goes_on p (goes_on i (goes_on q z)))))) s) =
      agreed at asked r (join k.owed v.owed (term_within env m g at function None k a) (term_within env m g at value (Some (f.0)) v b)) z s
  term_within env m g at (t_inst function mono) asked r
      (goes_on (goes_on {given = k} a (goes_on e (goes_on n (goes_on w (goes_on i (goes_on v z)))))) s) =
      agreed at asked r (term_within env m g at function None k a) z s
  term_within env m g at (t_ann term ty) asked r (goes_on (goes_on {given = A} a (goes_on {given = v} b z)) s) =
      agreed at asked r (term_within env m g at term (Some A) v b) z s
  term_within env m g at (t_pair first second) None r (goes_on {given = k} a (goes_on e (goes_on {given = l} b (goes_on f (goes_on n comes))))) =
      join k.owed l.owed (term_within env m g at first None k a) (term_within env m g at second None l b)
  term_within env m g at (t_pair first second) (Some (y_mono (m_pair left right))) r (goes_on {given = k} a (goes_on {given = l} b comes)) =
      join k.owed l.owed (term_within env m g at first (Some (y_mono left)) k a) (term_within env m g at second (Some (y_mono right)) l b)
  term_within env m g at (t_pair first second) (Some _) r a = elim a [ ]
  term_within env m g at (t_fst term) asked r (goes_on (goes_on {given = k} a (goes_on e z)) s) = agreed at asked r (term_within env m g at term None k a) z s
  term_within env m g at (t_snd term) asked r (goes_on (goes_on {given = k} a (goes_on e z)) s) = agreed at asked r (term_within env m g at term None k a) z s
  term_within env m g at (t_bin op first second) asked r (goes_on (goes_on {given = k} a (goes_on {given = l} b z)) s) =
      agreed at asked r (join k.owed l.owed (term_within env m g at first (Some (y_mono m_word)) k a)
      (term_within env m g at second (Some (y_mono m_word)) l b)) z s
  term_within env m g at (t_not term) asked r (goes_on (goes_on {given = k} a z) s) =
      agreed at asked r (term_within env m g at term (Some (y_mono m_bool)) k a) z s
  term_within env m g at (t_eq mono first second) asked r (goes_on (goes_on n (goes_on i (goes_on {given = k} a (goes_on {given = l} b z)))) s) =
      agreed at asked r (join k.owed l.owed (term_within env m g at first (Some (y_mono mono)) k a)
      (term_within env m g at second (Some (y_mono mono)) l b)) z s
  term_within env m g at (t_sel mono first second third) asked r
      (goes_on (goes_on n (goes_on {given = k} a (goes_on {given = l} b (goes_on {given = i} c z)))) s) =
      agreed at asked r (join (k.owed ++ l.owed) i.owed
      (join k.owed l.owed (term_within env m g at first (Some (y_mono m_bool)) k a) (term_within env m g at second (Some (y_mono mono)) l b))
      (term_within env m g at third (Some (y_mono mono)) i c)) z s
  term_within env in_formula g at (t_fix keyword fix) asked r a = elim a [ ]
  term_within env in_program g at (t_fix keyword fix) asked r (goes_on (goes_on {given = A} a (goes_on {given = x} b z)) s) =
      agreed at asked r (fix_within env g at A fix A x b) z s
  term_within env m g at (t_lam term) None r a = elim a [ ]
  term_within env m g at (t_lam term) (Some (y_fun argument answer)) r (goes_on h (goes_on {given = k} a comes)) =
      term_within env m (en_term argument ∷ g) at term (Some answer) k a
  term_within env m g at (t_lam term) (Some _) r a = elim a [ ]
  term_within env m g at (t_lam_t term) None r a = elim a [ ]
  term_within env m g at (t_lam_t term) (Some (y_all ty)) r (goes_on h (goes_on {given = k} a comes)) =
      term_within env m (en_mono ∷ g) at term (Some ty) k a
  term_within env m g at (t_lam_t term) (Some _) r a = elim a [ ]
  term_within env in_formula g at (t_do comp) asked r a = elim a [ ]
  term_within env in_program g at (t_do comp) None r a = elim a [ ]
  term_within env in_program g at (t_do comp) (Some (y_hoare spec)) r (goes_on {given = c} a comes) =
      body_within g spec c (λ mono state. RunsTo env g at mono state comp) (λ mono state x room d. runs_within env g at mono state comp x room d) a
  term_within env in_program g at (t_do comp) (Some _) r a = elim a [ ]
  term_within env m g at (t_made number values) asked r a = elim a [ ]
  term_within env m g at (t_at inner term) asked r a = term_within env m g inner term asked r a

  fix_within : (env : Environment) (g : Context) (at : ℕ) (whole : TyTree) (fix : FixTree) (A : TyTree) (x : Fixed)
      → FixComesTo env g at whole fix A (Ok x)
      → All IsWithin x.owed
  fix_within env g at whole (x_param argument rest) (y_fun argument' answer) x (goes_on {given = y} a comes) =
      fix_within env (en_term argument' ∷ g) at (rename_ty suc whole) rest answer y a
  fix_within env g at whole (x_param argument rest) _ x a = elim a [ ]
  fix_within env g at whole (x_body spec comp) (y_hoare spec') x (goes_on h (goes_on {given = c} a comes)) =
      body_within (en_term whole ∷ g) (rename_triple suc spec') c (λ mono state. RunsTo env (en_term whole ∷ g) at mono state comp)
      (λ mono state r room d. runs_within env (en_term whole ∷ g) at mono state comp r room d) a
  fix_within env g at whole (x_body spec comp) _ x a = elim a [ ]

  pub runs_within : (env : Environment) (g : Context) (at : ℕ) (mono : MonoTree) (state : FormulaTree) (comp : CompTree) (r : Ran)
      → Room g 2
      → RunsTo env g at mono state comp (Ok r)
      → All IsWithin r.owed
  runs_within env g at mono state (c_ret term) r room (goes_on {given = k} a comes) = term_within env in_program g at term (Some (y_mono mono)) k a
  runs_within env g at mono state (c_step step others) r room (goes_on {given = s} a (goes_on {given = q} b comes)) =
      let x = step_within env g at state step s room a in
      let y = x.1 in
      join s.owed q.owed x.0 (runs_within env (en_term (y_mono s.mono) ∷ g) at (rename_mono suc mono) s.next others q (omega (arith, y)) b)

  step_within : (env : Environment) (g : Context) (at : ℕ) (state : FormulaTree) (step : StepTree) (s : Moved)
      → Room g 2
      → StepComesTo env g at state step (Ok s)
      → StepWithin g s
  step_within env g at state (s_alloc mono value) s room (goes_on n (goes_on {given = k} a o)) =
      goes_on_within g state (move_alloc mono k.term) m_loc (part_step (s_alloc mono k.term)) k.owed s room
      (term_within env in_program g at value (Some (y_mono mono)) k a) o
  step_within env g at state (s_get mono place) s room (goes_on n (goes_on {given = k} a o)) =
      goes_on_within g state (move_get mono k.term) mono (part_step (s_get mono k.term)) k.owed s room
      (term_within env in_program g at place (Some (y_mono m_loc)) k a) o
  step_within env g at state (s_set mono place value) s room (goes_on n (goes_on {given = p} a (goes_on {given = v} b o))) =
      goes_on_within g state (move_set mono p.term v.term) m_unit (part_step (s_set mono p.term v.term)) (p.owed ++ v.owed) s room
      (join p.owed v.owed (term_within env in_program g at place (Some (y_mono m_loc)) p a)
      (term_within env in_program g at value (Some (y_mono mono)) v b)) o
  step_within env g at state (s_free mono place) s room (goes_on n (goes_on {given = k} a o)) =
      goes_on_within g state (move_free mono k.term) m_unit (part_step (s_free mono k.term)) k.owed s room
      (term_within env in_program g at place (Some (y_mono m_loc)) k a) o
  step_within env g at state (s_run term given) s room (goes_on {given = k} a (goes_on {given = spec} e (goes_on {given = comp} f o))) =
      goes_on_within g state (move_run spec) (result_of spec) (part_comp comp) k.owed s room (term_within env in_program g at term None k a) o
  step_within env g at state (s_if mono test on_true on_false) s room
      (goes_on n (goes_on {given = k} a (goes_on {given = b} c (goes_on {given = d} e (goes_on (holds h) (goes_on w z)))))) = (
        came_to (λ (x : Moved). All IsWithin x.owed)
            (join (k.owed ++ b.owed) d.owed
            (join k.owed b.owed (term_within env in_program g at test (Some (y_mono m_bool)) k a)
            (branch_to g mono (branch state k.term true) (λ from. RunsTo env g at mono from on_true) (λ (y : Branched). All IsWithin y.owed)
            (λ r E x l. runs_within env g at mono (branch state k.term true) on_true r room x) c))
            (branch_to g mono (branch state k.term false) (λ from. RunsTo env g at mono from on_false) (λ (y : Branched). All IsWithin y.owed)
            (λ r E x l. runs_within env g at mono (branch state k.term false) on_false r room x) e)) z,
        h,
      )
  step_within env g at state (s_claim claim) s room (goes_on k (goes_on {given = F} a o)) =
      goes_on_within g state (move_claim F) m_unit part_unit [] s room nothing o

items_within : (env : Environment) (g : Context) (at : ℕ) (item : ItemTree) (c : Checked) → ItemComesTo env g at item (Ok c) → All IsWithin c.owed
items_within env g at (i_abbreviation t) c (goes_on a comes) = nothing
items_within env g at (i_pred n params body) c (goes_on k (goes_on a (goes_on l (goes_on b comes)))) = nothing
items_within env g at (i_def ty term) c (goes_on {given = A} a (goes_on {given = v} b comes)) = term_within env in_program g at term (Some A) v b
items_within env g at (i_val ty term) c (goes_on {given = A} a (goes_on e (goes_on {given = v} b comes))) =
    term_within env in_program g at term (Some A) v b
items_within env g at (i_rec r) c (goes_on a (goes_on k (goes_on x (goes_on l (goes_on y (goes_on i comes)))))) = nothing

pub owed_is_within_limits : OwedIsWithinLimits
owed_is_within_limits = record {
  terms = λ env m g at M asked k d. term_within env m g at M asked k d;
  bodies = λ env g at spec E c d.
      body_within g spec c (λ mono state. RunsTo env g at mono state E) (λ mono state r room x. runs_within env g at mono state E r room x) d;
  items = λ env g at item c d. items_within env g at item c d;
}
