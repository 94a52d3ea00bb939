-- The worked examples hold.
use Rattle.std.proofs.Common.{◌≡◌, inl, inr, ℕ, zero, suc, [], ◌∷◌, Some, None, slice_get, refl, subst, arith, true}
use Rattle.std.proofs.lemmas.List.Elements.{All-nil, All-cons}
use Rattle.std.proofs.lemmas.Option.{same_Some}
use Rattle.htt_syntax.specs.Trees.{TyTree, TermTree, m_word, y_mono, t_bool, t_do, t_word, c_ret}
use Rattle.theory_renaming.specs.Renaming.{rename_mono}
use Rattle.theory_truth.specs.Atoms.{AtomsMeet, IsFounded, IsFoundedTable}
use Rattle.theory_canonical.specs.Folding.{contractum}
use Rattle.theory_substitution.specs.Monotypes.{fill_mono}
use Rattle.theory_typing.specs.Contexts.{EndsInHoare, en_term}
use Rattle.theory_items.specs.Examples.{gives_five, doubles, not_less}
use Rattle.theory_formed_shapes.specs.Shapes.{fill_shape, shape_of, heap_at_zero, shape_here, shape_there}
use Rattle.theory_formed_shapes.specs.Formed.{FileShapes, file_shapes, IsFormedMono, z_m_word, IsFormedTerm, z_word, z_bin, z_neutral, w_var, z_no_terms}
use Rattle.theory_formed_shapes.specs.Formed.{z_more_terms, IsFormedTy, z_mono, z_hoare, z_triple, z_tt, z_equal, z_rec}
use Rattle.theory_formed_shapes.specs.Environments.{formed_none, formed_term}
use Rattle.theory_formed_items.specs.Environments.{IsFormedRec, IsFormedEnvironment, IsFormedIn}
use Rattle.theory_formed_items.specs.Examples.{small, WorkedExamples}

none_is_some : {A : Type 0} {x : A} → None ≡ Some x → ⊥
none_is_some e = cc

-- a list of one has nothing else
only_one : {A : Type 0} {x y : A} (n : ℕ) → slice_get (x ∷ []) n ≡ Some y → x ≡ y
only_one {x = x} {y = y} zero e = same_Some x y e
only_one (suc n) e = absurd (none_is_some e)

five_is_formed : IsFormedTy (file_shapes small) [] gives_five
unfolding fill_shape fill_mono rename_mono
five_is_formed = z_hoare (z_triple z_tt z_m_word (z_equal z_m_word (z_neutral (w_var (shape_there (shape_there shape_here)))) (z_word (omega arith))))

one_is_formed : IsFormedTerm (file_shapes small) [] (t_word 1) (shape_of (y_mono m_word))
unfolding shape_of
one_is_formed = z_word (omega arith)

doubles_is_formed : IsFormedRec (file_shapes small) doubles
unfolding fill_shape fill_mono rename_mono contractum shape_of
doubles_is_formed = record {
  params = All-cons (IsFormedMono []) m_word [] z_m_word (All-nil (IsFormedMono []));
  at_zero = z_equal z_m_word (z_neutral (w_var (shape_there shape_here))) (z_word (omega arith));
  at_next =
      z_rec refl heap_at_zero (z_neutral (w_var (shape_there (shape_there shape_here))))
      (z_more_terms (z_bin (z_neutral (w_var (shape_there shape_here))) (z_word (omega arith)) refl) z_no_terms);
}

doubles_is_founded : IsFoundedTable (doubles ∷ [])
unfolding AtomsMeet
doubles_is_founded zero r e = subst (IsFounded zero) (same_Some doubles r e) (record { zero_founded = tt; next_founded = inr (refl, refl) })
doubles_is_founded (suc p) r e = absurd (none_is_some e)

small_environment : IsFormedEnvironment small
small_environment = record {
  forms = record {
    vals = λ number ty e. subst (IsFormedTy (file_shapes small) []) (only_one number e) five_is_formed;
    def_types = λ number definition e. subst (λ (d : TyTree × TermTree). IsFormedTy (file_shapes small) [] (d.0)) (only_one number e) (z_mono z_m_word);
    def_terms = λ number definition e.
        subst (λ (d : TyTree × TermTree). IsFormedTerm (file_shapes small) [] (d.1) (shape_of (d.0))) (only_one number e) one_is_formed;
    rec_params = λ number r e. (subst (IsFormedRec (file_shapes small)) (only_one number e) doubles_is_formed).params;
  };
  vals_end = λ number ty e. subst EndsInHoare (only_one number e) tt;
  recs_formed = λ number r e. subst (IsFormedRec (file_shapes small)) (only_one number e) doubles_is_formed;
  recs_founded = doubles_is_founded;
}

small_is_formed : IsFormedIn small (en_term (y_mono m_word) ∷ [])
small_is_formed = record { environment = small_environment; entries = formed_term formed_none (z_mono z_m_word); few = omega arith }

bad_is_not_founded : IsFounded 0 not_less → ⊥
unfolding AtomsMeet
bad_is_not_founded f = elim f.next_founded [ inl l ↦ omega (arith, l) | inr e ↦ let p = e.1 in cc ]

no_truth : {file : FileShapes} → IsFormedTerm file [] (t_bool true) (shape_of (y_mono m_word)) → ⊥
unfolding shape_of
no_truth (z_neutral d) = elim d [ ]

no_computation : {file : FileShapes} → IsFormedTerm file [] (t_do (c_ret (t_word 1))) (shape_of (y_mono m_word)) → ⊥
unfolding shape_of
no_computation (z_neutral d) = elim d [ ]

pub worked : WorkedExamples
worked = record {
  formed = small_is_formed;
  value_of_word = λ f. f.vals_end 0 (y_mono m_word) refl;
  not_founded = λ f. bad_is_not_founded (f.recs_founded 0 not_less refl);
  other_monotype = λ f. no_truth (f.forms.def_terms 0 (y_mono m_word, t_bool true) refl);
  other_shape = λ f. no_computation (f.forms.def_terms 0 (y_mono m_word, t_do (c_ret (t_word 1))) refl);
}
