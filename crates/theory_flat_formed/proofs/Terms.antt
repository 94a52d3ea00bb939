-- Formed terms of monotypes, where all variables have values, are so as terms of flat bodies.
use Rattle.std.proofs.Common.{◌≡◌, ℕ, zero, suc, List, ◌∷◌, All, Some, slice_get, ◌⊎◌, inl, inr, refl, sym, ap, ◌∙◌, subst}
use Rattle.htt_syntax.specs.declared.mono.Op.{Op}
use Rattle.htt_syntax.specs.declared.mono.Op.TheVariants.{Lt}
use Rattle.htt_syntax.specs.Trees.{MonoTree, TermTree, TermTrees, m_pair, m_var, t_var}
use Rattle.theory_values.specs.Values.{IsClosed, closed_word, closed_bool, closed_loc, closed_unit, closed_pair, op_mono}
use Rattle.theory_substitution.specs.Monotypes.{Filling, next_filling}
use Rattle.theory_formed_shapes.specs.Shapes.{Shape, sh_mono, sh_fun, sh_all, sh_comp, fill_shape, renaming_of, up_shape, first_filled}
use Rattle.theory_formed_shapes.specs.Shapes.{in_mono, Shapes, HasShape, shape_there}
use Rattle.theory_formed_shapes.specs.Formed.{MadeShape, FileShapes, IsFormedTerm, z_word, z_bool, z_loc, z_unit, z_pair, z_fst, z_snd, z_not, z_bin, z_eq}
use Rattle.theory_formed_shapes.specs.Formed.{z_sel, z_lam_t, z_neutral, IsFormedNeutral, w_var, w_val, w_made, w_fix, w_app, w_inst}
use Rattle.theory_formed_shapes.specs.Formed.{IsFormedTerms, z_no_terms, z_more_terms}
use Rattle.theory_instances.specs.Calls.{list_of}
use Rattle.theory_flat_typed.specs.Typed.{HasMonotype, typed_var, typed_word, typed_bool, typed_loc, typed_unit, typed_pair, typed_fst, typed_snd, typed_not}
use Rattle.theory_flat_typed.specs.Typed.{typed_bin, typed_eq, typed_sel, HaveMonotypes, typed_none, typed_more}
use Rattle.theory_instances_formed.specs.Formed.{values_shapes}
use Rattle.theory_instances_formed.proofs.Shapes.{formed_closed, value_closed, value_at}
use Rattle.theory_instances_formed.proofs.Sites.{FormedPassed, passed_none, passed_more}
use Rattle.theory_instances_formed.proofs.Bodies.{IsPlain, fix_plain}

-- after all arguments there is a computation
abbrev pub EndsInComp : Shape → Type 0
EndsInComp (sh_mono t) = ⊥
EndsInComp (sh_fun a s) = EndsInComp s
EndsInComp (sh_all s) = EndsInComp s
EndsInComp (sh_comp t) = Unit {0}

pub record HeadsEnd (file : FileShapes) : Type 0 where
  pub vals : (n : ℕ) (s : Shape) → slice_get file.vals n ≡ Some s → EndsInComp s
  pub made : (n : ℕ) (m : MadeShape) → slice_get file.made n ≡ Some m → EndsInComp m.whole

pub ends_filled : (s : Shape) (f : Filling) → EndsInComp s → EndsInComp (fill_shape f s)
unfolding fill_shape
ends_filled (sh_mono t) f i = i
ends_filled (sh_fun a s) f i = ends_filled s f i
ends_filled (sh_all s) f i = ends_filled s (next_filling f) i
ends_filled (sh_comp t) f i = i

pub plain_ends : (s : Shape) → IsPlain s → EndsInComp s
plain_ends (sh_mono t) i = i
plain_ends (sh_fun a s) i = plain_ends s i
plain_ends (sh_all s) i = absurd i
plain_ends (sh_comp t) i = i

-- ---- where each term of the context is a value

record ClosedValue (s : Shape) : Type 0 where
  mono : MonoTree
  closed : IsClosed mono
  is : s ≡ sh_mono mono

abbrev OfValues : Shapes → Type 0
OfValues g = (n : ℕ) (s : Shape) → HasShape g n s → ClosedValue s

record IsVariable (g : Shapes) (M : TermTree) (s : Shape) : Type 0 where
  index : ℕ
  is : M ≡ t_var index
  entry : HasShape g index s
  value : ClosedValue s

no_function : {a s : Shape} {t : MonoTree} → sh_fun a s ≡ sh_mono t → ⊥
no_function q = cc

no_family : {s : Shape} {t : MonoTree} → sh_all s ≡ sh_mono t → ⊥
no_family q = cc

-- a formed head with arguments is a variable, or leads to a computation
head_case : {file : FileShapes} {g : Shapes} {M : TermTree} {s : Shape}
    → HeadsEnd file
    → OfValues g
    → IsFormedNeutral file g M s
    → IsVariable g M s ⊎ EndsInComp s
head_case e v (w_var {index = index} {s = s} d) = inl (record { index = index; is = refl; entry = d; value = v index s d })
head_case e v (w_val {number = number} {s = s} d) = inr (e.vals number s d)
head_case e v (w_made {number = number} {m = m} d a) = inr (e.made number m d)
head_case e v (w_fix {s = s} d) = inr (plain_ends s (fix_plain d))
head_case e v (w_app d a) = elim (head_case e v d) [ inl i ↦ absurd (no_function i.value.is) | inr k ↦ inr k ]
head_case e v (w_inst {t = t} {s = s} d m) =
    elim (head_case e v d) [ inl i ↦ absurd (no_family i.value.is) | inr k ↦ inr (ends_filled s (first_filled t) k) ]

values_of : (ts : List MonoTree) → All IsClosed ts → OfValues (values_shapes ts)
values_of ts c n s d = let r = value_at ts c d in record { mono = r.mono; closed = r.closed; is = r.is }

same_mono : {t u : MonoTree} → sh_mono t ≡ sh_mono u → t ≡ u
same_mono q = cc

module _ {file : FileShapes} (e : HeadsEnd file) (ts : List MonoTree) (c : All IsClosed ts) where
  variable_typed : {M : TermTree} {t : MonoTree} → IsVariable (values_shapes ts) M (sh_mono t) → HasMonotype ts M t
  variable_typed {t = t} i =
      let r = value_at ts c i.entry in
      subst (λ N. HasMonotype ts N t) (sym i.is) (typed_var (subst (λ u. slice_get ts i.index ≡ Some u) (sym (same_mono r.is)) r.there))

  pub term_typed : {M : TermTree} {t : MonoTree} → IsFormedTerm file (values_shapes ts) M (sh_mono t) → HasMonotype ts M t
  term_typed (z_word l) = typed_word l
  term_typed z_bool = typed_bool
  term_typed (z_loc l) = typed_loc l
  term_typed z_unit = typed_unit
  term_typed (z_pair d0 d1) = typed_pair (term_typed d0) (term_typed d1)
  term_typed (z_fst d0 q) = typed_fst (term_typed d0)
  term_typed (z_snd d0 q) = typed_snd (term_typed d0)
  term_typed (z_not d0 q) = typed_not (term_typed d0)
  term_typed (z_bin d0 d1 q) = typed_bin (term_typed d0) (term_typed d1)
  term_typed (z_eq k d0 d1 q) = typed_eq k (term_typed d0) (term_typed d1)
  term_typed (z_sel m d0 d1 d2 q) = typed_sel (formed_closed ts m) (term_typed d0) (term_typed d1) (term_typed d2)
  term_typed (z_neutral d) = elim (head_case e (values_of ts c) d) [ inl i ↦ variable_typed i | inr k ↦ absurd k ]

  pub passed_typed : {terms : List TermTree} {us : List MonoTree} → FormedPassed file (values_shapes ts) terms us → HaveMonotypes ts terms us
  passed_typed passed_none = typed_none
  passed_typed (passed_more d more) = typed_more (term_typed d) (passed_typed more)

  pub terms_typed : {terms : TermTrees} {us : List MonoTree} → IsFormedTerms file (values_shapes ts) terms us → HaveMonotypes ts (list_of terms) us
  terms_typed z_no_terms = typed_none
  terms_typed (z_more_terms d more) = typed_more (term_typed d) (terms_typed more)

-- ---- no term is a value of each monotype at once

op_closed : (op : Op) → IsClosed (op_mono op)
op_closed Lt = closed_bool
op_closed _ = closed_word

closed_left : {t u : MonoTree} → IsClosed (m_pair t u) → IsClosed t
closed_left (closed_pair a b) = a

closed_right : {t u : MonoTree} → IsClosed (m_pair t u) → IsClosed u
closed_right (closed_pair a b) = b

mono_closed : {file : FileShapes} {g : Shapes} {M : TermTree} {t : MonoTree}
    → HeadsEnd file
    → OfValues g
    → IsFormedTerm file g M (sh_mono t)
    → IsClosed t
mono_closed e v (z_word l) = closed_word
mono_closed e v z_bool = closed_bool
mono_closed e v (z_loc l) = closed_loc
mono_closed e v z_unit = closed_unit
mono_closed e v (z_pair d0 d1) = closed_pair (mono_closed e v d0) (mono_closed e v d1)
mono_closed e v (z_fst d0 q) = closed_left (mono_closed e v d0)
mono_closed e v (z_snd d0 q) = closed_right (mono_closed e v d0)
mono_closed e v (z_not d0 q) = closed_bool
mono_closed e v (z_bin {op = op} d0 d1 q) = op_closed op
mono_closed e v (z_eq k d0 d1 q) = closed_bool
mono_closed e v (z_sel m d0 d1 d2 q) = mono_closed e v d1
mono_closed e v (z_neutral d) = elim (head_case e v d) [ inl i ↦ subst IsClosed (sym (same_mono i.value.is)) i.value.closed | inr k ↦ absurd k ]

values_under : (ts : List MonoTree) → All IsClosed ts → OfValues (in_mono ∷ values_shapes ts)
values_under ts c zero s d = elim d [ ]
values_under ts c (suc n) _ (shape_there {shape = s} d) =
    let r = value_at ts c d in
    record { mono = r.mono; closed = r.closed; is = ap up_shape r.is ∙ value_closed r.closed (renaming_of suc) }

no_variable : {n : ℕ} → IsClosed (m_var n) → ⊥
no_variable c = elim c [ ]

pub no_each : {file : FileShapes} {M : TermTree} (ts : List MonoTree)
    → HeadsEnd file
    → All IsClosed ts
    → IsFormedTerm file (values_shapes ts) M (sh_all (sh_mono (m_var zero)))
    → ⊥
no_each ts e c (z_lam_t d) = no_variable (mono_closed e (values_under ts c) d)
