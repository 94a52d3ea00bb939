-- What a declaration comes to when it is checked: what it adds and what it owes, or the first premise or limit
-- that stops it. `at` is the byte of the nearest position round it, 0 where there is none.
use Rattle.std.specs.Prelude.{ℕ, zero, suc, List, [], ◌∷◌, length, Result, Some}
use Rattle.htt_syntax_words.specs.declared.words.Rule.TheVariants.{Ending, Index}
use Rattle.htt_syntax.specs.Trees.{MonoTree, FormulaTree, y_mono, f_and, f_or, f_imp, f_all_t, f_ex_t, f_all_h, f_ex_h}
use Rattle.htt_syntax.specs.Trees.{f_at, f_rec}
use Rattle.theory_typing.specs.Contexts.{en_heap, en_term, Context, Environment, EndsInHoare, Obligation}
use Rattle.theory_typing.specs.Typing.{in_program}
use Rattle.theory_items.specs.Items.{with_params, ItemTree, i_abbreviation, i_pred, i_def, i_val, i_rec, Added}
use Rattle.theory_items.specs.Items.{adds_nothing}
use Rattle.theory_items.specs.Items.{adds_def, adds_val, adds_rec, with_monos, with_rec, zero_under, next_under}
use Rattle.theory_items.specs.Items.{OwnAtIndex}
use Rattle.theory_checking.specs.Stops.{Stop, refused, ◌>>=◌, ◌>>◌, Comes, Needs}
use Rattle.theory_checking.specs.Limits.{HasRoom, MonoComesTo}
use Rattle.theory_checking.specs.Results.{byte_of_ty}
use Rattle.theory_checking.specs.Checking.{TyComesTo, FormulaComesTo, TermComesTo}

-- What an item adds, and what it owes.
pub record Checked : Type 0 where
  pub added : Added
  pub owed : List Obligation

abbrev pub checked : Added → List Obligation → Checked
checked added owed = record { added = added; owed = owed }

-- parameters are formed, each under those before it: the context under all
unfoldable pub ParamsComeTo : Context → ℕ → List MonoTree → Result Context Stop → Type 0
ParamsComeTo g at [] = Comes g
ParamsComeTo g at (t ∷ ts) = do
  MonoComesTo g at t
  HasRoom g 1
  ParamsComeTo (en_term (y_mono t) ∷ g) at ts

-- the parameters of a recursive predicate are closed
unfoldable pub ClosedComeTo : Context → ℕ → List MonoTree → Result (Unit {0}) Stop → Type 0
ClosedComeTo g at [] = Comes tt
ClosedComeTo g at (t ∷ ts) = do
  MonoComesTo [] at t
  HasRoom g 1
  ClosedComeTo (en_term (y_mono t) ∷ g) at ts

-- Each atom of the predicate itself stands at the index less one: the first from the left that doesn't is
-- refused. The index counts as a canonical term, and the byte is that of the written atom, so a formula is
-- looked at beside its canonical form, under d binders.
unfoldable pub IndexComesTo : ℕ → ℕ → ℕ → ℕ → FormulaTree → FormulaTree → Result (Unit {0}) Stop → Type 0
IndexComesTo p params d at (f_and left right) (f_and left' right') = do
  IndexComesTo p params d at left left'
  IndexComesTo p params d at right right'
IndexComesTo p params d at (f_or left right) (f_or left' right') = do
  IndexComesTo p params d at left left'
  IndexComesTo p params d at right right'
IndexComesTo p params d at (f_imp left right) (f_imp left' right') = do
  IndexComesTo p params d at left left'
  IndexComesTo p params d at right right'
IndexComesTo p params d at (f_all_t mono body) (f_all_t mono' body') = IndexComesTo p params (suc d) at body body'
IndexComesTo p params d at (f_ex_t mono body) (f_ex_t mono' body') = IndexComesTo p params (suc d) at body body'
IndexComesTo p params d at (f_all_h body) (f_all_h body') = IndexComesTo p params (suc d) at body body'
IndexComesTo p params d at (f_ex_h body) (f_ex_h body') = IndexComesTo p params (suc d) at body body'
IndexComesTo p params d at (f_at inner formula) formula' = IndexComesTo p params d inner formula formula'
IndexComesTo p params d at (f_rec number heap place arguments) (f_rec number' heap' place' arguments') =
    Needs (OwnAtIndex p params d number' place') (refused Index at)
IndexComesTo p params d at _ _ = Comes tt

abbrev pub ItemComesTo : Environment → Context → ℕ → ItemTree → Result Checked Stop → Type 0
ItemComesTo env g at (i_abbreviation t) = do
  MonoComesTo g at t
  Comes (checked adds_nothing [])
ItemComesTo env g at (i_pred n params body) = do
  HasRoom g n
  h ← ParamsComeTo (with_monos n g) at params
  HasRoom h 1
  body' ← FormulaComesTo env (en_heap ∷ h) at body
  Comes (checked adds_nothing [])
ItemComesTo env g at (i_def ty term) = do
  ty' ← TyComesTo env g at ty
  v ← TermComesTo env in_program g at term (Some ty')
  Comes (checked (adds_def ty' v.term) v.owed)
ItemComesTo env g at (i_val ty term) = do
  ty' ← TyComesTo env g at ty
  Needs (EndsInHoare ty') (refused Ending (byte_of_ty at ty))
  v ← TermComesTo env in_program g at term (Some ty')
  Comes (checked (adds_val ty' v.term) v.owed)
ItemComesTo env g at (i_rec r) = do
  ClosedComeTo g at r.params
  HasRoom (with_params g r.params) 1
  at_zero ← FormulaComesTo env (zero_under g r.params) at r.at_zero
  HasRoom (with_params g r.params) 2
  at_next ← FormulaComesTo (with_rec env r) (next_under g r.params) at r.at_next
  IndexComesTo (length env.recs) (length r.params) zero at r.at_next at_next
  Comes (checked (adds_rec (record { params = r.params; at_zero = at_zero; at_next = at_next })) [])
