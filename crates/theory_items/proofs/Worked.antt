-- The worked examples hold.
use Rattle.std.proofs.Common.{List, [], ◌∷◌, refl, subst, arith}
use Rattle.std.proofs.lemmas.List.Elements.{All-nil, All-cons}
use Rattle.htt_syntax.specs.Trees.{m_word, m_var, y_mono, y_fun, t_var, t_lam, f_tt}
use Rattle.theory_renaming.specs.Renaming.{rename_mono, rename_ty}
use Rattle.theory_truth.specs.Atoms.{AtomsMeet}
use Rattle.theory_canonical.specs.Folding.{contractum}
use Rattle.theory_canonical.specs.Eta.{expansion}
use Rattle.theory_typing.specs.Positions.{plain_ty}
use Rattle.theory_typing.specs.Contexts.{Obligation, count_of, mono_here, mono_there, heap_here, type_here, type_there, FormsMono}
use Rattle.theory_typing.specs.Contexts.{forms_word, forms_var}
use Rattle.theory_typing.specs.Typing.{FormsFormula, forms_mono, forms_fun, forms_hoare, forms_triple, forms_tt, forms_eq, forms_rec, fits_none, fits_more}
use Rattle.theory_typing.specs.Typing.{gives_var, gives_word, gives_bin, fits_do, fits_given}
use Rattle.theory_typing.specs.Laws.{none}
use Rattle.theory_typing.proofs.Once.{formula_formed_once}
use Rattle.theory_typing.proofs.Worked as typed
use Rattle.theory_items.specs.Items.{next_context, i_pred, i_val, i_rec, Added, with_rec, params_none, params_more, OwnAtIndex, Derives, derives_pred}
use Rattle.theory_items.specs.Items.{derives_def, derives_val}
use Rattle.theory_items.specs.Items.{derives_rec}
use Rattle.theory_items.specs.Examples.{not_less, WorkedExamples}

no_function : (added : Added) (o : List Obligation) → Derives none [] (i_val (y_fun (y_mono m_word) (y_mono m_word)) (t_lam (t_var 0))) added o → ⊥
no_function added o (derives_val (forms_fun (forms_mono a) (forms_mono b)) h d) = h

no_mono : (added : Added) (o : List Obligation) → Derives none [] (i_pred 1 (m_var 0 ∷ m_var 0 ∷ []) f_tt) added o → ⊥
no_mono added o (derives_pred (params_more a (params_more (forms_var d) e)) b) = elim d [ ]

next_of_bad : FormsFormula (with_rec none not_less) (next_context []) not_less.at_next not_less.at_next
unfolding rename_ty rename_mono contractum expansion plain_ty count_of
next_of_bad =
    forms_rec refl heap_here
    (fits_given tt (gives_bin (fits_given tt (gives_var (type_there type_here)) refl) (fits_given tt (gives_word (omega arith)) refl)) refl)
    refl fits_none

no_index : AtomsMeet (OwnAtIndex 0 0) 0 not_less.at_next → ⊥
unfolding AtomsMeet
no_index f = let e = f refl in cc

not_at_index : (added : Added) (o : List Obligation) → Derives none [] (i_rec not_less) added o → ⊥
not_at_index added o (derives_rec f a b i) = no_index (subst (AtomsMeet (OwnAtIndex 0 0) 0) (formula_formed_once (with_rec none not_less) refl b next_of_bad) i)

pub worked : WorkedExamples
unfolding rename_ty rename_mono contractum expansion plain_ty count_of AtomsMeet
worked = record {
  definition = derives_def (forms_mono forms_word) (fits_given tt (gives_word (omega arith)) refl);
  val =
      derives_val (forms_hoare (forms_triple forms_tt forms_word
      (forms_eq forms_word (fits_given tt (gives_var (type_there (type_there type_here))) refl)
      (fits_given tt (gives_word (omega arith)) refl)))) tt (fits_do typed.worked.sum);
  no_val = no_function;
  predicate =
      derives_pred (params_more (forms_var mono_here) (params_more (forms_var (mono_there mono_here)) params_none))
      (forms_eq (forms_var (mono_there (mono_there (mono_there mono_here))))
      (fits_given tt (gives_var (type_there (type_there type_here))) refl) (fits_given tt (gives_var (type_there type_here)) refl));
  no_predicate = no_mono;
  recursive =
      derives_rec (All-cons (FormsMono []) m_word [] forms_word (All-nil (FormsMono [])))
      (forms_eq forms_word (fits_given tt (gives_var (type_there type_here)) refl) (fits_given tt (gives_word (omega arith)) refl))
      (forms_rec refl heap_here (fits_given tt (gives_var (type_there (type_there type_here))) refl) refl
      (fits_more (fits_given tt
      (gives_bin (fits_given tt (gives_var (type_there type_here)) refl) (fits_given tt (gives_word (omega arith)) refl)) refl) fits_none))
      (λ e. refl);
  index = not_at_index;
  in_context = derives_def (forms_mono forms_word) (fits_given tt (gives_var type_here) refl);
}
