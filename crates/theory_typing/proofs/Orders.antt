-- The derivations of the worked orders.
use Rattle.std.proofs.Common.{ℕ, [], ◌∷◌, true, refl, arith}
use Rattle.htt_syntax.specs.Trees.{MonoTree, TermTree, m_word, m_bool, m_loc, y_mono, triple, t_do, t_word, t_bool, t_loc, c_ret, f_tt, f_eq}
use Rattle.theory_renaming.specs.Renaming.{lift, lifts, rename_mono, rename_ty, rename_term}
use Rattle.theory_values.specs.Values.{IsWord}
use Rattle.theory_states.specs.States.{past, at_heaps, at_heap, at_result, start, owes_block, owed, after, branch, some_values, within, ending, finish, merge}
use Rattle.theory_states.specs.States.{last}
use Rattle.theory_canonical.specs.Skeletons.{sk_c, skeleton}
use Rattle.theory_canonical.specs.Folding.{contractum}
use Rattle.theory_canonical.specs.Eta.{expansion}
use Rattle.theory_substitution.specs.Closing.{closing}
use Rattle.theory_substitution.specs.Substitution.{SubTerm, SubTy, u_y_mono, u_y_fun, u_y_hoare, u_triple, u_f_tt, u_word, u_bool, u_loc, u_lam, u_do, u_kept}
use Rattle.theory_substitution.specs.Substitution.{u_reduced}
use Rattle.theory_substitution.specs.Substitution.{u_ret, u_step, u_spliced, u_run, u_x_param, u_x_body, k_var, k_fix, k_app, r_var, b_ret, b_step}
use Rattle.theory_typing.specs.Positions.{plain_ty}
use Rattle.theory_typing.specs.Contexts.{Context, FormsMono, en_term, type_here, type_there, forms_word, forms_bool, forms_loc, compares_word}
use Rattle.theory_typing.specs.Typing.{Mode, in_program, Gives, Fits, FormsTriple, FormsFormula, forms_mono, forms_fun, forms_hoare, forms_triple, forms_tt}
use Rattle.theory_typing.specs.Typing.{forms_eq}
use Rattle.theory_typing.specs.Typing.{gives_var, gives_word, gives_bool, gives_loc, gives_app, gives_ann, gives_pair, gives_bin, gives_eq, gives_sel}
use Rattle.theory_typing.specs.Typing.{gives_fix}
use Rattle.theory_typing.specs.Typing.{fits_lam, fits_pair, fits_do, fits_given, header_param, header_body, fix_param, fix_body, fits_body, runs_ret, runs_step}
use Rattle.theory_typing.specs.Typing.{moves_alloc, moves_get, moves_set, moves_free, moves_run, moves_if, moves_claim, joined_comp, joined_unit}
use Rattle.theory_typing.specs.Typing.{assembled_end, assembled_part}
use Rattle.theory_typing.specs.Laws.{none}
use Rattle.theory_typing.specs.Orders.{returning, owing, return_goal, TermsInOrder, StepsInOrder, RunsInOrder}

returning_formed : {g : Context} → FormsTriple none g (triple f_tt m_word f_tt) (triple f_tt m_word f_tt)
returning_formed = forms_triple forms_tt forms_word forms_tt

word_fits : {m : Mode} {g : Context} (n : ℕ) → IsWord n → Fits none m g (t_word n) (y_mono m_word) (t_word n) []
unfolding plain_ty
word_fits n w = fits_given tt (gives_word w) refl

-- a term that owes
owes_first : {g : Context} {t : MonoTree} {value : TermTree} (n : ℕ)
    → IsWord n
    → FormsMono (en_term returning ∷ g) t
    → Fits none in_program (en_term returning ∷ g) value (y_mono t) value []
    → SubTy (t_do (c_ret (t_word n))) sk_c 0 (y_mono t) (y_mono t)
    → SubTerm (t_do (c_ret (t_word n))) sk_c 0 value value
    → Gives none in_program g (owing n t value) (y_mono t) value (return_goal g n ∷ [])
unfolding lift lifts rename_mono rename_term past at_heap start some_values within ending finish last skeleton
owes_first n w f v u s =
    gives_app (gives_ann (forms_fun (forms_hoare returning_formed) (forms_mono f)) (fits_lam v))
    (fits_do (fits_body (runs_ret (word_fits n w)) assembled_end)) u s

owes_word : {g : Context} (n value : ℕ)
    → IsWord n
    → IsWord value
    → Gives none in_program g (owing n m_word (t_word value)) (y_mono m_word) (t_word value) (return_goal g n ∷ [])
unfolding rename_mono
owes_word n value w v = owes_first n w forms_word (word_fits value v) u_y_mono u_word

word_owes : {g : Context} (n value : ℕ)
    → IsWord n
    → IsWord value
    → Fits none in_program g (owing n m_word (t_word value)) (y_mono m_word) (t_word value) (return_goal g n ∷ [])
unfolding plain_ty
word_owes n value w v = fits_given tt (owes_word n value w v) refl

owes_bool : {g : Context} (n : ℕ)
    → IsWord n
    → Gives none in_program g (owing n m_bool (t_bool true)) (y_mono m_bool) (t_bool true) (return_goal g n ∷ [])
unfolding rename_mono plain_ty
owes_bool n w = owes_first n w forms_bool (fits_given tt gives_bool refl) u_y_mono u_bool

bool_owes : {g : Context} (n : ℕ)
    → IsWord n
    → Fits none in_program g (owing n m_bool (t_bool true)) (y_mono m_bool) (t_bool true) (return_goal g n ∷ [])
unfolding plain_ty
bool_owes n w = fits_given tt (owes_bool n w) refl

place_owes : {g : Context} (n : ℕ)
    → IsWord n
    → Fits none in_program g (owing n m_loc (t_loc 9)) (y_mono m_loc) (t_loc 9) (return_goal g n ∷ [])
unfolding rename_mono plain_ty
place_owes n w = fits_given tt (owes_first n w forms_loc (fits_given tt (gives_loc (omega arith)) refl) u_y_mono u_loc) refl

pub terms : TermsInOrder
unfolding lift lifts rename_mono rename_term past at_heap start some_values within ending finish last skeleton contractum closing
terms = record {
  function =
      gives_app (gives_app (gives_ann
      (forms_fun (forms_hoare returning_formed) (forms_fun (forms_hoare returning_formed) (forms_mono forms_word)))
      (fits_lam (fits_lam (word_fits 0 (omega arith))))) (fits_do (fits_body (runs_ret (word_fits 1 (omega arith))) assembled_end))
      (u_y_fun (u_y_hoare (u_triple u_f_tt u_f_tt)) u_y_mono) (u_lam u_word))
      (fits_do (fits_body (runs_ret (word_fits 2 (omega arith))) assembled_end)) u_y_mono u_word;
  pair_given = gives_pair (owes_word 1 0 (omega arith) (omega arith)) (owes_bool 2 (omega arith));
  pair_fitted = fits_pair (word_owes 1 0 (omega arith) (omega arith)) (bool_owes 2 (omega arith));
  sum = gives_bin (word_owes 1 3 (omega arith) (omega arith)) (word_owes 2 4 (omega arith) (omega arith));
  comparison = gives_eq forms_word compares_word (word_owes 1 3 (omega arith) (omega arith)) (word_owes 2 3 (omega arith) (omega arith));
  choice =
      gives_sel forms_word (bool_owes 1 (omega arith)) (word_owes 2 3 (omega arith) (omega arith))
      (word_owes 3 4 (omega arith) (omega arith));
}

claims_fits : {g : Context} (n : ℕ) → IsWord n → FormsFormula none g (f_eq m_word (t_word n) (t_word n)) (f_eq m_word (t_word n) (t_word n))
unfolding plain_ty
claims_fits n w = forms_eq forms_word (fits_given tt (gives_word w) refl) (fits_given tt (gives_word w) refl)

pub steps : StepsInOrder
unfolding lift lifts rename_mono rename_term past at_heaps start owes_block owed after branch some_values within ending finish merge closing
steps = record {
  alloc = moves_alloc forms_word (word_owes 1 0 (omega arith) (omega arith));
  get = moves_get forms_word (place_owes 1 (omega arith));
  set = moves_set forms_word (place_owes 1 (omega arith)) (word_owes 2 0 (omega arith) (omega arith));
  free = moves_free forms_word (place_owes 1 (omega arith));
  branches =
      moves_if forms_word (bool_owes 1 (omega arith))
      (runs_step (moves_claim (claims_fits 1 (omega arith))) (runs_ret (word_fits 1 (omega arith))))
      (assembled_part assembled_end (joined_unit (u_ret u_word)))
      (runs_step (moves_claim (claims_fits 2 (omega arith))) (runs_ret (word_fits 2 (omega arith))))
      (assembled_part assembled_end (joined_unit (u_ret u_word)));
}

pub runs : RunsInOrder
unfolding lift lifts rename_mono rename_ty rename_term past at_heaps at_heap at_result start owed after some_values within ending finish
    last skeleton contractum expansion closing plain_ty
runs = record {
  argument =
      fits_body (runs_step (moves_run (gives_app
      (gives_fix (header_param (forms_hoare returning_formed) (header_body returning_formed))
      (fix_param (fix_body (fits_body
      (runs_step (moves_run (gives_var (type_there type_here))) (runs_ret (fits_given tt (gives_var type_here) refl)))
      (assembled_part assembled_end (joined_comp (b_step (b_ret (u_ret (u_reduced (r_var refl)))))))))))
      (fits_do (fits_body (runs_step (moves_claim (claims_fits 1 (omega arith))) (runs_ret (word_fits 0 (omega arith))))
      (assembled_part assembled_end (joined_unit (u_ret u_word)))))
      (u_y_hoare (u_triple u_f_tt u_f_tt))
      (u_do (u_step
      (u_run (k_app
      (k_fix (u_x_param (u_y_hoare (u_triple u_f_tt u_f_tt))
      (u_x_body (u_triple u_f_tt u_f_tt)
      (u_step (u_run (k_var (λ e. omega (arith, e)))) (u_ret (u_kept (k_var (λ e. omega (arith, e)))))))))
      (u_do (u_spliced (r_var refl) (u_ret (u_kept (k_var (λ e. omega (arith, e))))) (b_ret (u_ret (u_reduced (r_var refl))))))))
      (u_ret (u_kept (k_var (λ e. omega (arith, e)))))))))
      (runs_ret (fits_given tt (gives_var type_here) refl)))
      (assembled_part assembled_end (joined_comp (b_step (b_ret (u_ret (u_reduced (r_var refl)))))));
  parameters =
      gives_fix (header_param (forms_mono forms_word)
      (header_param (forms_hoare (forms_triple
      (forms_eq forms_word (fits_given tt (gives_var (type_there type_here)) refl) (word_fits 3 (omega arith))) forms_word forms_tt))
      (header_body returning_formed)))
      (fix_param (fix_param (fix_body (fits_body
      (runs_step (moves_run (gives_var (type_there type_here))) (runs_ret (fits_given tt (gives_var type_here) refl)))
      (assembled_part assembled_end (joined_comp (b_step (b_ret (u_ret (u_reduced (r_var refl)))))))))));
  written =
      fits_body (runs_step
      (moves_run (gives_ann (forms_hoare returning_formed) (fits_do (fits_body (runs_ret (word_fits 5 (omega arith))) assembled_end))))
      (runs_ret (fits_given tt (gives_var type_here) refl)))
      (assembled_part assembled_end (joined_comp (b_ret (u_ret (u_reduced (r_var refl))))));
}
