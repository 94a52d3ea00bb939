-- The variants miss their triples.
use Rattle.std.proofs.Common.{◌≡◌, ℕ, zero, suc, [], ◌∷◌, Some, None, refl, sym, subst, arith}
use Rattle.std.specs.Prelude.{slice_get}
use Rattle.std.proofs.lemmas.Option.{same_Some}
use Rattle.htt_syntax.specs.Trees.{m_word, m_loc, t_var, t_word, y_mono, f_tt, f_imp}
use Rattle.theory_renaming.specs.Renaming.{lift, lifts, rename_mono, rename_ty, rename_term, rename_formula}
use Rattle.theory_values.specs.Values.{Value, HasType, is_loc, v_word, v_loc}
use Rattle.theory_values.specs.Heaps.{empty_heap}
use Rattle.theory_values.proofs.Joins.{join_of_empty, empty_is_heap}
use Rattle.theory_truth.specs.Truth.{Holds}
use Rattle.theory_meaning.specs.Closures.{base}
use Rattle.theory_triples.specs.Triples.{MeetsTriple, run_of_val}
use Rattle.theory_states.specs.States.{past, at_heap, start, some_values, within, ending, finish, last, move_alloc, after, owed}
use Rattle.theory_canonical.specs.Eta.{expansion}
use Rattle.theory_typing.specs.Positions.{plain_ty}
use Rattle.theory_typing.specs.Contexts.{Obligation, en_heap, en_term, type_here, forms_word, forms_loc}
use Rattle.theory_typing.specs.Laws.{none}
use Rattle.theory_typing.specs.Typing.{forms_hoare, forms_triple, forms_tt, forms_ff, gives_var, gives_word, fits_given, fits_do, fits_body, runs_ret}
use Rattle.theory_typing.specs.Typing.{runs_step}
use Rattle.theory_typing.specs.Typing.{moves_alloc, joined_step, assembled_end, assembled_part}
use Rattle.theory_items.specs.Items.{derives_val}
use Rattle.theory_logic_rules.specs.Rules.{proves_trivial, proves_block, block_end, block_intro}
use Rattle.theory_file_derived.specs.Derived.{ProofItem, DerivesAll, derives_none, derives_more, owed_at, given_for, IsProvedOnce, texts_of}
use Rattle.theory_file_variants.specs.Variants.{impossible, wrong_file, wrong_env, wrong_goal, left_to_provers, AutoIsNoProof, gives_place, place_file}
use Rattle.theory_file_variants.specs.Variants.{place_env, place_proofs, ChoicesAreWords}

no_element : {A : Type 0} {x : A} → None ≡ Some x → ⊥
no_element q = cc

-- `auto`
wrong_derives : DerivesAll none wrong_file wrong_env ((wrong_goal ∷ []) ∷ [])
unfolding plain_ty lift lifts rename_mono rename_term rename_formula past at_heap start some_values within ending finish last
wrong_derives =
    derives_more (derives_val (forms_hoare (forms_triple forms_tt forms_word forms_ff)) tt
    (fits_do (fits_body (runs_ret (fits_given tt (gives_word (omega arith)) refl)) assembled_end))) derives_none

wrong_aimed : (n : ℕ) (proof : ProofItem)
    → slice_get left_to_provers n ≡ Some proof
    → (o : Obligation) × (owed_at ((wrong_goal ∷ []) ∷ []) proof.item proof.number ≡ Some o)
wrong_aimed zero proof q =
    subst (λ (p : ProofItem). (o : Obligation) × (owed_at ((wrong_goal ∷ []) ∷ []) p.item p.number ≡ Some o)) (same_Some _ proof q)
    (wrong_goal, refl)
wrong_aimed (suc n) proof q = absurd (no_element q)

wrong_missed : MeetsTriple [] impossible (run_of_val (texts_of wrong_file) 0 1 []) empty_heap empty_heap → ⊥
unfolding Holds
wrong_missed m =
    let a = m.ends_so empty_heap empty_is_heap (join_of_empty empty_heap) tt (base (v_word 0)) empty_heap [] refl in
    a.post

pub auto_no_proof : AutoIsNoProof
unfolding given_for
auto_no_proof = record { derives = wrong_derives; one_given = refl; aimed = wrong_aimed; triple_missed = wrong_missed }

-- a choice that is no word
place_goal : Obligation
place_goal = record {
  context = en_heap ∷ en_heap ∷ en_term (y_mono m_loc) ∷ [];
  goal = f_imp (finish (after (move_alloc m_word (t_word 0)) (start f_tt)) (m_loc ∷ []) m_loc (t_var 0)) f_tt;
}

place_derives : DerivesAll none place_file place_env ((place_goal ∷ []) ∷ [])
unfolding place_goal plain_ty rename_ty rename_mono expansion last owed
place_derives =
    derives_more (derives_val (forms_hoare (forms_triple forms_tt forms_loc forms_tt)) tt
    (fits_do (fits_body (runs_step (moves_alloc forms_word (fits_given tt (gives_word (omega arith)) refl))
    (runs_ret (fits_given tt (gives_var type_here) refl))) (assembled_part assembled_end joined_step)))) derives_none

place_proved : (item number : ℕ) (o : Obligation)
    → owed_at ((place_goal ∷ []) ∷ []) (Some item) number ≡ Some o
    → IsProvedOnce place_env place_proofs item number o
unfolding given_for place_goal
place_proved zero zero o q = absurd (no_element q)
place_proved zero (suc zero) o q =
    subst (IsProvedOnce place_env place_proofs 0 1) (same_Some place_goal o q)
    (record { proof = _; only = refl; proves = proves_block (block_intro (block_end proves_trivial)) })
place_proved zero (suc (suc n)) o q = absurd (no_element q)
place_proved (suc item) number o q = absurd (no_element q)

place_aimed : (n : ℕ) (proof : ProofItem)
    → slice_get place_proofs n ≡ Some proof
    → (o : Obligation) × (owed_at ((place_goal ∷ []) ∷ []) proof.item proof.number ≡ Some o)
place_aimed zero proof q =
    subst (λ (p : ProofItem). (o : Obligation) × (owed_at ((place_goal ∷ []) ∷ []) p.item p.number ≡ Some o)) (same_Some _ proof q)
    (place_goal, refl)
place_aimed (suc n) proof q = absurd (no_element q)

same_base : {x y : Value} → base x ≡ base y → x ≡ y
same_base e = cc

not_typed : HasType (v_loc 18446744073709551616) m_loc → ⊥
not_typed (is_loc l) = omega (arith, l)

place_missed : MeetsTriple [] gives_place (run_of_val (texts_of place_file) 0 1 (18446744073709551616 ∷ [])) empty_heap empty_heap → ⊥
unfolding Holds
place_missed m =
    let a = m.ends_so empty_heap empty_is_heap (join_of_empty empty_heap) tt (base (v_loc 18446744073709551616)) _ [] refl in
    not_typed (subst (λ (v : Value). HasType v m_loc) (sym (same_base a.is_value)) a.typed)

pub choices_words : ChoicesAreWords
choices_words = record {
  derived = record { rows = (place_goal ∷ []) ∷ []; derives = place_derives; proved = place_proved; aimed = place_aimed };
  triple_missed = place_missed;
}
