-- A tree in which a formed term is put for a variable of its shape is formed.
use Rattle.std.proofs.Common.{◌≡◌, ◌≢◌, ℕ, zero, suc, List, ◌∷◌, Some, refl, sym, ap, ◌∙◌, subst}
use Rattle.htt_syntax.specs.declared.mono.Op.{Op}
use Rattle.htt_syntax.specs.Trees.{MonoTree, TyTree, TripleTree, TermTree, FixTree, CompTree, StepTree, FormulaTree, TermTrees, m_word, m_bool, m_loc, m_unit}
use Rattle.htt_syntax.specs.Trees.{m_pair, m_var, triple, t_val, t_inst, t_lam, t_lam_t, t_do, t_bin, t_eq, t_sel, t_made, x_param, x_body, s_run}
use Rattle.theory_renaming.specs.Renaming.{Map, lift, rename_mono, rename_term, rename_comp}
use Rattle.theory_renaming.proofs.Composition.{mono_joins}
use Rattle.theory_values.specs.Values.{op_mono}
use Rattle.theory_canonical.specs.Skeletons.{Skeleton}
use Rattle.theory_canonical.specs.Folding.{folding}
use Rattle.theory_substitution.specs.Closing.{closing, up}
use Rattle.theory_substitution.specs.Monotypes.{Filling, next_filling, fill_mono, fill_term, put_mono, put_mono_term}
use Rattle.theory_substitution.specs.Substitution.{Kept, k_var, k_val, k_made, k_fix, k_app, k_inst, Reduced, r_var, r_app, r_inst, App, applied, SubTerm}
use Rattle.theory_substitution.specs.Substitution.{u_kept, u_reduced, u_word, u_bool, u_loc, u_unit, u_pair, u_fst, u_snd, u_not, u_bin, u_eq, u_sel, u_lam}
use Rattle.theory_substitution.specs.Substitution.{u_lam_t, u_do, SubTerms, u_no_terms, u_more_terms, SubFix, u_x_param, u_x_body, SubComp, u_ret, u_step}
use Rattle.theory_substitution.specs.Substitution.{u_spliced, Bind, b_ret, b_step, SubStep, u_run, u_s_alloc, u_s_get, u_s_set, u_s_free, u_s_if, SubTy}
use Rattle.theory_substitution.specs.Substitution.{u_y_mono, u_y_fun, u_y_all, u_y_hoare, SubTriple, u_triple, SubFormula, u_f_tt, u_f_ff, u_f_and, u_f_or}
use Rattle.theory_substitution.specs.Substitution.{u_f_imp, u_f_all_t, u_f_ex_t, u_f_all_h, u_f_ex_h, u_f_emp, u_f_cell, u_f_block, u_f_join, u_f_same, u_f_eq}
use Rattle.theory_substitution.specs.Substitution.{u_f_rec}
use Rattle.theory_formed_shapes.specs.Shapes.{Shape, sh_mono, sh_fun, sh_all, sh_comp, fill_shape, renaming_of, up_shape, first_filled, shape_of, ShapeEntry}
use Rattle.theory_formed_shapes.specs.Shapes.{in_mono, in_heap, in_term, Shapes, IsMonoAt, mono_at_zero, mono_further, IsHeapAt, heap_at_zero, heap_further}
use Rattle.theory_formed_shapes.specs.Shapes.{HasShape, shape_here, shape_there}
use Rattle.theory_formed_shapes.specs.Formed.{MadeShape, FileShapes, IsFormedMono, z_m_word, z_m_bool, z_m_loc, z_m_unit, z_m_pair, z_m_var, IsFormedTerm}
use Rattle.theory_formed_shapes.specs.Formed.{z_word, z_bool, z_loc, z_unit, z_pair, z_fst, z_snd, z_not, z_bin, z_eq, z_sel, z_lam, z_lam_t, z_do, z_neutral}
use Rattle.theory_formed_shapes.specs.Formed.{IsFormedNeutral, w_var, w_val, w_made, w_fix, w_app, w_inst, IsFormedTerms, z_no_terms, z_more_terms, IsFormedFix}
use Rattle.theory_formed_shapes.specs.Formed.{z_param, z_body, IsFormedComp, z_ret, z_step, IsFormedStep, z_run, z_alloc, z_get, z_set, z_free, z_if}
use Rattle.theory_formed_shapes.specs.Formed.{IsFormedTy, z_mono, z_fun, z_all, z_hoare, IsFormedTriple, z_triple, IsFormedFormula, z_tt, z_ff, z_and, z_or}
use Rattle.theory_formed_shapes.specs.Formed.{z_imp, z_all_t, z_ex_t, z_all_h, z_ex_h, z_emp, z_cell, z_block, z_join, z_same, z_equal, z_rec, fill_monos}
use Rattle.theory_formed_shapes.specs.Formed.{IsClosedFile}
use Rattle.theory_formed_shapes.specs.Laws.{FillsFormed}
use Rattle.theory_formed_shapes.proofs.Fillings.{mono_renamed, next_renaming, up_renamed, up_closed, up_mono_closed, one_way, shape_kept, first_and_renamed}
use Rattle.theory_formed_shapes.proofs.Fillings.{put_is_first}
use Rattle.theory_formed_shapes.proofs.ShapesOf.{shape_put}
use Rattle.theory_formed_shapes.proofs.Folded.{fst_folded, snd_folded, not_folded, bin_folded, eq_folded, sel_folded}
use Rattle.theory_formed_shapes.proofs.Filled.{term_filled, op_mono_filled, comparable_filled}
use Rattle.theory_formed_shapes.proofs.Renamed.{term_renamed, comp_renamed, fills_suc, fills_lift}
use Rattle.theory_formed_substitution.specs.Laws.{PutsFormed, SubstitutionKeepsFormed}

-- the filling that closes the gap of x
abbrev gap : ℕ → Filling
gap x = renaming_of (closing x)

suc_one : {n k : ℕ} → suc n ≡ suc k → n ≡ k
suc_one e = cc

no_suc : {n : ℕ} → zero ≡ suc n → ⊥
no_suc e = cc

-- the monotypes of the context
mono_gap : {file : FileShapes} {new : TermTree} {x : ℕ} {g h : Shapes} {t : MonoTree}
    → IsFormedMono g t
    → PutsFormed file new x g h
    → IsFormedMono h (fill_mono (renaming_of (closing x)) t)
unfolding fill_mono
mono_gap z_m_word p = z_m_word
mono_gap z_m_bool p = z_m_bool
mono_gap z_m_loc p = z_m_loc
mono_gap z_m_unit p = z_m_unit
mono_gap (z_m_pair a b) p = z_m_pair (mono_gap a p) (mono_gap b p)
mono_gap (z_m_var {index = index} d) p = z_m_var (p.monos index d)

mono_put : {file : FileShapes} {new : TermTree} {x : ℕ} {g h : Shapes} {t : MonoTree}
    → IsFormedMono g t
    → PutsFormed file new x g h
    → IsFormedMono h (rename_mono (closing x) t)
mono_put {x = x} {h = h} {t = t} d p = subst (IsFormedMono h) (mono_renamed (closing x) t) (mono_gap d p)

up_mono_put : (x : ℕ) (t : MonoTree) → rename_mono (closing (suc x)) (rename_mono suc t) ≡ rename_mono suc (rename_mono (closing x) t)
unfolding closing lift
up_mono_put x t =
    mono_joins (closing (suc x)) suc (λ n. suc (closing x n)) (λ n. refl) t
    ∙ sym (mono_joins suc (closing x) (λ n. suc (closing x n)) (λ n. refl) t)

up_shape_put : (x : ℕ) (a : Shape) → fill_shape (renaming_of (closing (suc x))) (up_shape a) ≡ up_shape (fill_shape (renaming_of (closing x)) a)
unfolding closing lift
up_shape_put x a = up_renamed (closing x) a

next_gap : (x : ℕ) → next_filling (renaming_of (closing x)) ≡ renaming_of (closing (suc x))
unfolding closing lift
next_gap x = next_renaming (closing x)

pub puts_next : {file : FileShapes} {new : TermTree} {x : ℕ} {g h : Shapes}
    → (a : Shape)
    → IsClosedFile file
    → PutsFormed file new x g h
    → PutsFormed file (up new) (suc x) (in_term a ∷ g) (in_term (fill_shape (renaming_of (closing x)) a) ∷ h)
unfolding closing lift
puts_next {file = file} {new = new} {x = x} {g = g} {h = h} a c p =
    record { here = λ s d. here (suc x) s refl d; others = others; monos = monos; heaps = heaps }
  where
    there : (i : ℕ) (s : Shape)
        → suc i ≡ suc x
        → HasShape g i s
        → IsFormedTerm file (in_term (fill_shape (renaming_of (closing x)) a) ∷ h) (up new)
        (fill_shape (renaming_of (closing (suc x))) (up_shape s))
    there i s e d =
        subst (IsFormedTerm file (in_term (fill_shape (renaming_of (closing x)) a) ∷ h) (up new)) (sym (up_shape_put x s))
        (term_renamed (p.here s (subst (λ (k : ℕ). HasShape g k s) (suc_one e) d)) c
        (fills_suc (in_term (fill_shape (renaming_of (closing x)) a)) h))

    here : (n : ℕ) (s : Shape)
        → n ≡ suc x
        → HasShape (in_term a ∷ g) n s
        → IsFormedTerm file (in_term (fill_shape (renaming_of (closing x)) a) ∷ h) (up new) (fill_shape (renaming_of (closing (suc x))) s)
    here n _ e shape_here = absurd (no_suc e)
    here n _ e (shape_there {n = i} {shape = s} d) = there i s e d

    others : (n : ℕ) (s : Shape)
        → n ≢ suc x
        → HasShape (in_term a ∷ g) n s
        → HasShape (in_term (fill_shape (renaming_of (closing x)) a) ∷ h) (closing (suc x) n) (fill_shape (renaming_of (closing (suc x))) s)
    others n _ e shape_here = subst (HasShape (in_term (fill_shape (renaming_of (closing x)) a) ∷ h) zero) (sym (up_shape_put x a)) shape_here
    others n _ e (shape_there {n = i} {shape = s} d) =
        subst (HasShape (in_term (fill_shape (renaming_of (closing x)) a) ∷ h) (suc (closing x i))) (sym (up_shape_put x s))
        (shape_there (p.others i s (λ q. e (ap suc q)) d))

    monos : (n : ℕ) → IsMonoAt (in_term a ∷ g) n → IsMonoAt (in_term (fill_shape (renaming_of (closing x)) a) ∷ h) (closing (suc x) n)
    monos n (mono_further {n = i} d) = mono_further (p.monos i d)

    heaps : (n : ℕ) → IsHeapAt (in_term a ∷ g) n → IsHeapAt (in_term (fill_shape (renaming_of (closing x)) a) ∷ h) (closing (suc x) n)
    heaps n (heap_further {n = i} d) = heap_further (p.heaps i d)

puts_mono : {file : FileShapes} {new : TermTree} {x : ℕ} {g h : Shapes}
    → IsClosedFile file
    → PutsFormed file new x g h
    → PutsFormed file (up new) (suc x) (in_mono ∷ g) (in_mono ∷ h)
unfolding closing lift
puts_mono {file = file} {new = new} {x = x} {g = g} {h = h} c p = record { here = λ s d. here (suc x) s refl d; others = others; monos = monos; heaps = heaps }
  where
    there : (i : ℕ) (s : Shape)
        → suc i ≡ suc x
        → HasShape g i s
        → IsFormedTerm file (in_mono ∷ h) (up new) (fill_shape (renaming_of (closing (suc x))) (up_shape s))
    there i s e d =
        subst (IsFormedTerm file (in_mono ∷ h) (up new)) (sym (up_shape_put x s))
        (term_renamed (p.here s (subst (λ (k : ℕ). HasShape g k s) (suc_one e) d)) c (fills_suc (in_mono) h))

    here : (n : ℕ) (s : Shape)
        → n ≡ suc x
        → HasShape (in_mono ∷ g) n s
        → IsFormedTerm file (in_mono ∷ h) (up new) (fill_shape (renaming_of (closing (suc x))) s)
    here n _ e (shape_there {n = i} {shape = s} d) = there i s e d

    others : (n : ℕ) (s : Shape)
        → n ≢ suc x
        → HasShape (in_mono ∷ g) n s
        → HasShape (in_mono ∷ h) (closing (suc x) n) (fill_shape (renaming_of (closing (suc x))) s)
    others n _ e (shape_there {n = i} {shape = s} d) =
        subst (HasShape (in_mono ∷ h) (suc (closing x i))) (sym (up_shape_put x s)) (shape_there (p.others i s (λ q. e (ap suc q)) d))

    monos : (n : ℕ) → IsMonoAt (in_mono ∷ g) n → IsMonoAt (in_mono ∷ h) (closing (suc x) n)
    monos n mono_at_zero = mono_at_zero
    monos n (mono_further {n = i} d) = mono_further (p.monos i d)

    heaps : (n : ℕ) → IsHeapAt (in_mono ∷ g) n → IsHeapAt (in_mono ∷ h) (closing (suc x) n)
    heaps n (heap_further {n = i} d) = heap_further (p.heaps i d)

pub puts_heap : {file : FileShapes} {new : TermTree} {x : ℕ} {g h : Shapes}
    → IsClosedFile file
    → PutsFormed file new x g h
    → PutsFormed file (up new) (suc x) (in_heap ∷ g) (in_heap ∷ h)
unfolding closing lift
puts_heap {file = file} {new = new} {x = x} {g = g} {h = h} c p = record { here = λ s d. here (suc x) s refl d; others = others; monos = monos; heaps = heaps }
  where
    there : (i : ℕ) (s : Shape)
        → suc i ≡ suc x
        → HasShape g i s
        → IsFormedTerm file (in_heap ∷ h) (up new) (fill_shape (renaming_of (closing (suc x))) (up_shape s))
    there i s e d =
        subst (IsFormedTerm file (in_heap ∷ h) (up new)) (sym (up_shape_put x s))
        (term_renamed (p.here s (subst (λ (k : ℕ). HasShape g k s) (suc_one e) d)) c (fills_suc (in_heap) h))

    here : (n : ℕ) (s : Shape)
        → n ≡ suc x
        → HasShape (in_heap ∷ g) n s
        → IsFormedTerm file (in_heap ∷ h) (up new) (fill_shape (renaming_of (closing (suc x))) s)
    here n _ e (shape_there {n = i} {shape = s} d) = there i s e d

    others : (n : ℕ) (s : Shape)
        → n ≢ suc x
        → HasShape (in_heap ∷ g) n s
        → HasShape (in_heap ∷ h) (closing (suc x) n) (fill_shape (renaming_of (closing (suc x))) s)
    others n _ e (shape_there {n = i} {shape = s} d) =
        subst (HasShape (in_heap ∷ h) (suc (closing x i))) (sym (up_shape_put x s)) (shape_there (p.others i s (λ q. e (ap suc q)) d))

    monos : (n : ℕ) → IsMonoAt (in_heap ∷ g) n → IsMonoAt (in_heap ∷ h) (closing (suc x) n)
    monos n (mono_further {n = i} d) = mono_further (p.monos i d)

    heaps : (n : ℕ) → IsHeapAt (in_heap ∷ g) n → IsHeapAt (in_heap ∷ h) (closing (suc x) n)
    heaps n heap_at_zero = heap_at_zero
    heaps n (heap_further {n = i} d) = heap_further (p.heaps i d)

pub puts_first : {file : FileShapes} {new : TermTree} {g : Shapes} {a : Shape} → IsFormedTerm file g new a → PutsFormed file new zero (in_term a ∷ g) g
unfolding closing
puts_first {file = file} {new = new} {g = g} {a = a} d = record { here = λ s i. here zero s refl i; others = others; monos = monos; heaps = heaps }
  where
    here : (n : ℕ) (s : Shape) → zero ≡ n → HasShape (in_term a ∷ g) n s → IsFormedTerm file g new (fill_shape (renaming_of (closing zero)) s)
    here n _ e shape_here = subst (IsFormedTerm file g new) (sym (up_closed a)) d
    here n _ e (shape_there i) = absurd (no_suc e)

    others : (n : ℕ) (s : Shape) → n ≢ zero → HasShape (in_term a ∷ g) n s → HasShape g (closing zero n) (fill_shape (renaming_of (closing zero)) s)
    others n _ e shape_here = absurd (e refl)
    others n _ e (shape_there {n = i} {shape = s} q) = subst (HasShape g i) (sym (up_closed s)) q

    monos : (n : ℕ) → IsMonoAt (in_term a ∷ g) n → IsMonoAt g (closing zero n)
    monos n (mono_further d) = d

    heaps : (n : ℕ) → IsHeapAt (in_term a ∷ g) n → IsHeapAt g (closing zero n)
    heaps n (heap_further d) = d

first_kept : (t : MonoTree) (s : Shape) → fill_shape (put_mono t zero) (up_shape s) ≡ s
unfolding fill_mono first_filled
first_kept t s =
    ap (λ (f : Filling). fill_shape f (up_shape s)) (put_is_first t)
    ∙ one_way (renaming_of suc) (first_filled t) (λ n. m_var n) (λ n. refl) s
    ∙ shape_kept s

-- a monotype for the innermost variable
pub fills_first : {g : Shapes} {t : MonoTree} → IsFormedMono g t → FillsFormed (put_mono t zero) (closing zero) (in_mono ∷ g) g
unfolding closing first_filled
fills_first {g = g} {t = t} d =
    record { monos = λ n i. subst (λ (f : Filling). IsFormedMono g (f n)) (sym (put_is_first t)) (monos n i); heaps = heaps; terms = terms }
  where
    monos : (n : ℕ) → IsMonoAt (in_mono ∷ g) n → IsFormedMono g (first_filled t n)
    monos n mono_at_zero = d
    monos n (mono_further i) = z_m_var i

    heaps : (n : ℕ) → IsHeapAt (in_mono ∷ g) n → IsHeapAt g (closing zero n)
    heaps n (heap_further i) = i

    terms : (n : ℕ) (s : Shape) → HasShape (in_mono ∷ g) n s → HasShape g (closing zero n) (fill_shape (put_mono t zero) s)
    terms n _ (shape_there {n = i} {shape = s} q) = subst (HasShape g i) (sym (first_kept t s)) q

pub lam_body : {file : FileShapes} {g : Shapes} {body : TermTree} {a b : Shape}
    → IsFormedTerm file g (t_lam body) (sh_fun a b)
    → IsFormedTerm file (in_term a ∷ g) body (up_shape b)
lam_body (z_lam d) = d

pub lam_t_body : {file : FileShapes} {g : Shapes} {body : TermTree} {a : Shape}
    → IsFormedTerm file g (t_lam_t body) (sh_all a)
    → IsFormedTerm file (in_mono ∷ g) body a
lam_t_body (z_lam_t d) = d

pub do_comp : {file : FileShapes} {g : Shapes} {comp : CompTree} {t : MonoTree} → IsFormedTerm file g (t_do comp) (sh_comp t) → IsFormedComp file g comp t
do_comp (z_do d) = d

-- a family at a monotype
pub instance_formed : {file : FileShapes} {g : Shapes} {body : TermTree} {a : Shape} {t : MonoTree}
    → IsFormedTerm file g (t_lam_t body) (sh_all a)
    → IsFormedMono g t
    → IsClosedFile file
    → IsFormedTerm file g (put_mono_term t zero body) (fill_shape (first_filled t) a)
instance_formed {file = file} {g = g} {body = body} {a = a} {t = t} d m c =
    subst (λ (f : Filling). IsFormedTerm file g (put_mono_term t zero body) (fill_shape f a)) (put_is_first t)
    (term_filled (lam_t_body d) c (fills_first m))

-- the shape of a family's instance where the gap of x is closed
instance_shape : (x : ℕ) (t : MonoTree) (s : Shape)
    → fill_shape (first_filled (rename_mono (closing x) t)) (fill_shape (next_filling (renaming_of (closing x))) s)
    ≡ fill_shape (renaming_of (closing x)) (fill_shape (first_filled t) s)
instance_shape x t s =
    ap (λ (f : Filling). fill_shape (first_filled (rename_mono (closing x) t)) (fill_shape f s)) (next_renaming (closing x))
    ∙ sym (first_and_renamed (closing x) t s)

-- a monotype's shape, where the gap is closed
as_mono : (x : ℕ) (t : MonoTree) → fill_mono (renaming_of (closing x)) t ≡ rename_mono (closing x) t
as_mono x t = mono_renamed (closing x) t

at_mono : {file : FileShapes} {h : Shapes} (x : ℕ) (M : TermTree) (t : MonoTree)
    → IsFormedTerm file h M (sh_mono (fill_mono (renaming_of (closing x)) t))
    → IsFormedTerm file h M (sh_mono (rename_mono (closing x) t))
at_mono {file = file} {h = h} x M t d = subst (λ (u : MonoTree). IsFormedTerm file h M (sh_mono u)) (as_mono x t) d

twice_raised : (u : MonoTree) → rename_mono (lift suc) (rename_mono suc u) ≡ rename_mono suc (rename_mono suc u)
unfolding lift
twice_raised u = mono_joins (lift suc) suc (λ n. suc (suc n)) (λ n. refl) u ∙ sym (mono_joins suc suc (λ n. suc (suc n)) (λ n. refl) u)

mutual
  unfolding fill_shape fill_mono closing rename_mono

  kept_put : {file : FileShapes} {new : TermTree} {sk : Skeleton} {x : ℕ} {g h : Shapes} {M R : TermTree} {a : Shape}
      → Kept new sk x M R
      → IsFormedNeutral file g M a
      → IsClosedFile file
      → PutsFormed file new x g h
      → IsFormedNeutral file h R (fill_shape (renaming_of (closing x)) a)
  kept_put (k_var {index = index} e) (w_var {s = s} d) c p = w_var (p.others index s e d)
  kept_put {file = file} {x = x} {h = h} k_val (w_val {number = number} {s = s} d) c p =
      subst (IsFormedNeutral file h (t_val number)) (sym (c.vals number s d (renaming_of (closing x)))) (w_val d)
  kept_put {file = file} {x = x} {h = h} (k_made {values' = values'} a) (w_made {number = number} {m = made} d e) c p =
      subst (IsFormedNeutral file h (t_made number values')) (sym (c.made number made d (renaming_of (closing x))))
      (w_made d (subst (IsFormedTerms file h values') (c.captured number made d (renaming_of (closing x))) (terms_put a e c p)))
  kept_put (k_fix a) (w_fix d) c p = w_fix (fix_put a d c p)
  kept_put (k_app a b) (w_app d e) c p = w_app (kept_put a d c p) (term_put b e c p)
  kept_put {file = file} {x = x} {h = h} (k_inst {function' = function'} a) (w_inst {t = t} {s = s} d m) c p =
      subst (IsFormedNeutral file h (t_inst function' (rename_mono (closing x) t))) (instance_shape x t s)
      (w_inst (kept_put a d c p) (mono_put m p))

  reduced_put : {file : FileShapes} {new : TermTree} {sk : Skeleton} {x : ℕ} {g h : Shapes} {M R : TermTree} {u : Skeleton} {a : Shape}
      → Reduced new sk x M R u
      → IsFormedNeutral file g M a
      → IsClosedFile file
      → PutsFormed file new x g h
      → IsFormedTerm file h R (fill_shape (renaming_of (closing x)) a)
  reduced_put {g = g} (r_var e) (w_var {s = s} d) c p = p.here s (subst (λ (k : ℕ). HasShape g k s) e d)
  reduced_put (r_app a b f) (w_app d e) c p = app_formed f (reduced_put a d c p) (term_put b e c p) c
  reduced_put {file = file} {x = x} {h = h} (r_inst {body = body} {mono = t} a) (w_inst {s = s} d m) c p =
      subst (IsFormedTerm file h (put_mono_term (rename_mono (closing x) t) zero body)) (instance_shape x t s)
      (instance_formed (reduced_put a d c p) (mono_put m p) c)

  pub app_formed : {file : FileShapes} {sk : Skeleton} {g : Shapes} {function argument R : TermTree} {a b : Shape}
      → App function sk argument R
      → IsFormedTerm file g function (sh_fun a b)
      → IsFormedTerm file g argument a
      → IsClosedFile file
      → IsFormedTerm file g R b
  app_formed {file = file} {g = g} {R = R} {b = b} (applied u) d e c = subst (IsFormedTerm file g R) (up_closed b) (term_put u (lam_body d) c (puts_first e))

  pub term_put : {file : FileShapes} {new : TermTree} {sk : Skeleton} {x : ℕ} {g h : Shapes} {M R : TermTree} {a : Shape}
      → SubTerm new sk x M R
      → IsFormedTerm file g M a
      → IsClosedFile file
      → PutsFormed file new x g h
      → IsFormedTerm file h R (fill_shape (renaming_of (closing x)) a)
  term_put (u_kept k) (z_neutral d) c p = z_neutral (kept_put k d c p)
  term_put (u_kept k) _ c p = elim k [ ]
  term_put (u_reduced r) (z_neutral d) c p = reduced_put r d c p
  term_put (u_reduced r) _ c p = elim r [ ]
  term_put u_word (z_word l) c p = z_word l
  term_put u_word (z_neutral d) c p = elim d [ ]
  term_put u_bool z_bool c p = z_bool
  term_put u_bool (z_neutral d) c p = elim d [ ]
  term_put u_loc (z_loc l) c p = z_loc l
  term_put u_loc (z_neutral d) c p = elim d [ ]
  term_put u_unit z_unit c p = z_unit
  term_put u_unit (z_neutral d) c p = elim d [ ]
  term_put (u_pair a b) (z_pair d e) c p = z_pair (term_put a d c p) (term_put b e c p)
  term_put (u_pair a b) (z_neutral d) c p = elim d [ ]
  term_put (u_fst a) (z_fst d q) c p = fst_folded _ (term_put a d c p)
  term_put (u_fst a) (z_neutral d) c p = elim d [ ]
  term_put (u_snd a) (z_snd d q) c p = snd_folded _ (term_put a d c p)
  term_put (u_snd a) (z_neutral d) c p = elim d [ ]
  term_put (u_not a) (z_not d q) c p = not_folded _ (term_put a d c p)
  term_put (u_not a) (z_neutral d) c p = elim d [ ]
  term_put {file = file} {x = x} {h = h} (u_bin {op = op} {left' = left} {right' = right} a b) (z_bin d e q) c p =
      subst (λ (u : MonoTree). IsFormedTerm file h (folding (t_bin op left right)) (sh_mono u))
      (sym (op_mono_filled (renaming_of (closing x)) op)) (bin_folded op left right (term_put a d c p) (term_put b e c p))
  term_put (u_bin a b) (z_neutral d) c p = elim d [ ]
  term_put {file = file} {x = x} {h = h} (u_eq {mono = t} {left' = left} {right' = right} a b) (z_eq k d e q) c p =
      subst (λ (u : MonoTree). IsFormedTerm file h (folding (t_eq u left right)) (sh_mono m_bool)) (as_mono x t)
      (eq_folded (fill_mono (renaming_of (closing x)) t) left right (comparable_filled (renaming_of (closing x)) k) (term_put a d c p)
      (term_put b e c p))
  term_put (u_eq a b) (z_neutral d) c p = elim d [ ]
  term_put {file = file} {x = x} {h = h} (u_sel {mono = t} {test' = test} {on_true' = left} {on_false' = right} a b f) (z_sel m d e i q) c p
      =
      subst (λ (u : MonoTree). IsFormedTerm file h (folding (t_sel u test left right)) (sh_mono (fill_mono (renaming_of (closing x)) t)))
      (as_mono x t) (sel_folded (fill_mono (renaming_of (closing x)) t) test left right (mono_gap m p) (term_put a d c p) (term_put b e c p)
      (term_put f i c p))
  term_put (u_sel a b f) (z_neutral d) c p = elim d [ ]
  term_put {file = file} {x = x} {h = h} (u_lam {body' = body} a) (z_lam {s = s} {t = t} d) c p =
      z_lam (subst (IsFormedTerm file (in_term (fill_shape (renaming_of (closing x)) s) ∷ h) body) (up_shape_put x t)
      (term_put a d c (puts_next s c p)))
  term_put (u_lam a) (z_neutral d) c p = elim d [ ]
  term_put {file = file} {x = x} {h = h} (u_lam_t {body' = body} a) (z_lam_t {s = s} d) c p =
      z_lam_t
      (subst (λ (f : Filling). IsFormedTerm file (in_mono ∷ h) body (fill_shape f s)) (sym (next_gap x)) (term_put a d c (puts_mono c p)))
  term_put (u_lam_t a) (z_neutral d) c p = elim d [ ]
  term_put {file = file} {x = x} {h = h} (u_do {comp' = comp} a) (z_do {t = t} d) c p =
      z_do (subst (IsFormedComp file h comp) (sym (as_mono x t)) (comp_put a d c p))
  term_put (u_do a) (z_neutral d) c p = elim d [ ]

  terms_put : {file : FileShapes} {new : TermTree} {sk : Skeleton} {x : ℕ} {g h : Shapes} {Ms Rs : TermTrees} {ts : List MonoTree}
      → SubTerms new sk x Ms Rs
      → IsFormedTerms file g Ms ts
      → IsClosedFile file
      → PutsFormed file new x g h
      → IsFormedTerms file h Rs (fill_monos (renaming_of (closing x)) ts)
  terms_put u_no_terms z_no_terms c p = z_no_terms
  terms_put (u_more_terms a b) (z_more_terms d e) c p = z_more_terms (term_put a d c p) (terms_put b e c p)

  fix_put : {file : FileShapes} {new : TermTree} {sk : Skeleton} {x : ℕ} {g h : Shapes} {fix R : FixTree} {whole a : Shape}
      → SubFix new sk x fix R
      → IsFormedFix file g whole fix a
      → IsClosedFile file
      → PutsFormed file new x g h
      → IsFormedFix file h (fill_shape (renaming_of (closing x)) whole) R (fill_shape (renaming_of (closing x)) a)
  fix_put {file = file} {x = x} {h = h} (u_x_param {ty' = ty'} {others' = others'} a b) (z_param {whole = whole} {t = t} {ty = ty} d e) c p =
      let q = shape_put a in
      let inner =
      subst (λ (u : Shape).
      IsFormedFix file (in_term (fill_shape (renaming_of (closing x)) (shape_of ty)) ∷ h) u others'
      (up_shape (fill_shape (renaming_of (closing x)) t))) (up_shape_put x whole)
      (subst (IsFormedFix file (in_term (fill_shape (renaming_of (closing x)) (shape_of ty)) ∷ h)
      (fill_shape (renaming_of (closing (suc x))) (up_shape whole)) others') (up_shape_put x t)
      (fix_put b e c (puts_next (shape_of ty) c p))) in
      subst (λ (u : Shape).
      IsFormedFix file h (fill_shape (renaming_of (closing x)) whole) (x_param ty' others')
      (sh_fun u (fill_shape (renaming_of (closing x)) t))) q
      (z_param (ty_put a d c p)
      (subst (λ (u : Shape).
      IsFormedFix file (in_term u ∷ h) (up_shape (fill_shape (renaming_of (closing x)) whole)) others'
      (up_shape (fill_shape (renaming_of (closing x)) t))) (sym q) inner))
  fix_put {file = file} {x = x} {h = h} (u_x_body {comp' = comp'} (u_triple {pre' = pre'} {post' = post'} a b) f) (z_body {whole = whole} {t = t} d e) c p =
      let inner =
      subst (IsFormedComp file (in_term (fill_shape (renaming_of (closing x)) whole) ∷ h) comp') (up_mono_put x t)
      (comp_put f e c (puts_next whole c p)) in
      subst (λ (u : MonoTree).
      IsFormedFix file h (fill_shape (renaming_of (closing x)) whole) (x_body (triple pre' (rename_mono (closing x) t) post') comp')
      (sh_comp u)) (sym (as_mono x t)) (z_body (triple_put (u_triple a b) d c p) inner)

  pub comp_put : {file : FileShapes} {new : TermTree} {sk : Skeleton} {x : ℕ} {g h : Shapes} {E R : CompTree} {t : MonoTree}
      → SubComp new sk x E R
      → IsFormedComp file g E t
      → IsClosedFile file
      → PutsFormed file new x g h
      → IsFormedComp file h R (rename_mono (closing x) t)
  comp_put {file = file} {x = x} {h = h} (u_ret {term' = term'} a) (z_ret {t = t} d) c p =
      z_ret (subst (λ (u : MonoTree). IsFormedTerm file h term' (sh_mono u)) (as_mono x t) (term_put a d c p))
  comp_put {file = file} {x = x} {h = h} (u_step {others' = others'} a b) (z_step {t = t} {u = u} d e) c p =
      z_step (step_put a d c p)
      (subst (λ (v : MonoTree). IsFormedComp file (in_term (sh_mono v) ∷ h) others' (rename_mono suc (rename_mono (closing x) t)))
      (as_mono x u) (subst (IsFormedComp file (in_term (sh_mono (fill_mono (renaming_of (closing x)) u)) ∷ h) others') (up_mono_put x t)
      (comp_put b e c (puts_next (sh_mono u) c p))))
  comp_put {file = file} {x = x} {h = h} (u_spliced {others' = others'} r b f) (z_step {t = t} (z_run {t = u} n m) e) c p =
      bind_formed f (do_comp (reduced_put r n c p))
      (subst (IsFormedComp file (in_term (sh_mono (fill_mono (renaming_of (closing x)) u)) ∷ h) others') (up_mono_put x t)
      (comp_put b e c (puts_next (sh_mono u) c p))) c

  pub bind_formed : {file : FileShapes} {g : Shapes} {comp others R : CompTree} {t u : MonoTree}
      → Bind comp others R
      → IsFormedComp file g comp t
      → IsFormedComp file (in_term (sh_mono t) ∷ g) others (rename_mono suc u)
      → IsClosedFile file
      → IsFormedComp file g R u
  bind_formed {file = file} {g = g} {R = R} {u = u} (b_ret a) (z_ret d) e c = subst (IsFormedComp file g R) (up_mono_closed u) (comp_put a e c (puts_first d))
  bind_formed {file = file} {g = g} {others = others} {u = u} (b_step b) (z_step {t = t} {u = v} d0 d1) e c =
      let inner = comp_renamed e c (fills_lift (sh_mono t) (fills_suc (in_term (sh_mono v)) g)) in
      let placed =
      subst (λ (w : MonoTree).
      IsFormedComp file (in_term (sh_mono w) ∷ in_term (sh_mono v) ∷ g) (rename_comp (lift suc) others)
      (rename_mono (lift suc) (rename_mono suc u))) (mono_renamed suc t) inner in
      z_step d0 (bind_formed b d1
      (subst (IsFormedComp file (in_term (sh_mono (rename_mono suc t)) ∷ in_term (sh_mono v) ∷ g) (rename_comp (lift suc) others))
      (twice_raised u) placed) c)

  step_put : {file : FileShapes} {new : TermTree} {sk : Skeleton} {x : ℕ} {g h : Shapes} {step R : StepTree} {t : MonoTree}
      → SubStep new sk x step R
      → IsFormedStep file g step t
      → IsClosedFile file
      → PutsFormed file new x g h
      → IsFormedStep file h R (rename_mono (closing x) t)
  step_put {file = file} {x = x} {h = h} (u_run {term' = term'} a) (z_run {t = t} n m) c p =
      z_run (subst (λ (u : MonoTree). IsFormedNeutral file h term' (sh_comp u)) (as_mono x t) (kept_put a n c p)) (mono_put m p)
  step_put {file = file} {x = x} {h = h} (u_s_alloc {value' = value'} a) (z_alloc {t = t} m d) c p =
      z_alloc (mono_put m p) (at_mono x value' t (term_put a d c p))
  step_put (u_s_get a) (z_get m d) c p = z_get (mono_put m p) (term_put a d c p)
  step_put {file = file} {x = x} {h = h} (u_s_set {value' = value'} a b) (z_set {t = t} m d e) c p =
      z_set (mono_put m p) (term_put a d c p) (at_mono x value' t (term_put b e c p))
  step_put (u_s_free a) (z_free m d) c p = z_free (mono_put m p) (term_put a d c p)
  step_put (u_s_if a b f) (z_if m d e i) c p = z_if (mono_put m p) (term_put a d c p) (comp_put b e c p) (comp_put f i c p)

  pub ty_put : {file : FileShapes} {new : TermTree} {sk : Skeleton} {x : ℕ} {g h : Shapes} {A R : TyTree}
      → SubTy new sk x A R
      → IsFormedTy file g A
      → IsClosedFile file
      → PutsFormed file new x g h
      → IsFormedTy file h R
  ty_put u_y_mono (z_mono m) c p = z_mono (mono_put m p)
  ty_put {file = file} {h = h} (u_y_fun {answer' = answer'} a b) (z_fun {argument = argument} d e) c p =
      z_fun (ty_put a d c p) (subst (λ (u : Shape). IsFormedTy file (in_term u ∷ h) answer') (sym (shape_put a))
      (ty_put b e c (puts_next (shape_of argument) c p)))
  ty_put (u_y_all a) (z_all d) c p = z_all (ty_put a d c (puts_mono c p))
  ty_put (u_y_hoare a) (z_hoare d) c p = z_hoare (triple_put a d c p)

  pub triple_put : {file : FileShapes} {new : TermTree} {sk : Skeleton} {x : ℕ} {g h : Shapes} {spec R : TripleTree}
      → SubTriple new sk x spec R
      → IsFormedTriple file g spec
      → IsClosedFile file
      → PutsFormed file new x g h
      → IsFormedTriple file h R
  triple_put {file = file} {x = x} {h = h} (u_triple {post' = post'} a b) (z_triple {t = t} d m e) c p =
      z_triple (formula_put a d c (puts_heap c p)) (mono_put m p)
      (subst (λ (u : MonoTree). IsFormedFormula file (in_heap ∷ in_heap ∷ in_term (sh_mono u) ∷ h) post') (as_mono x t)
      (formula_put b e c (puts_heap c (puts_heap c (puts_next (sh_mono t) c p)))))

  pub formula_put : {file : FileShapes} {new : TermTree} {sk : Skeleton} {x : ℕ} {g h : Shapes} {F R : FormulaTree}
      → SubFormula new sk x F R
      → IsFormedFormula file g F
      → IsClosedFile file
      → PutsFormed file new x g h
      → IsFormedFormula file h R
  formula_put u_f_tt z_tt c p = z_tt
  formula_put u_f_ff z_ff c p = z_ff
  formula_put (u_f_and a b) (z_and d e) c p = z_and (formula_put a d c p) (formula_put b e c p)
  formula_put (u_f_or a b) (z_or d e) c p = z_or (formula_put a d c p) (formula_put b e c p)
  formula_put (u_f_imp a b) (z_imp d e) c p = z_imp (formula_put a d c p) (formula_put b e c p)
  formula_put {file = file} {x = x} {h = h} (u_f_all_t {body' = body'} a) (z_all_t {t = t} m d) c p =
      z_all_t (mono_put m p) (subst (λ (u : MonoTree). IsFormedFormula file (in_term (sh_mono u) ∷ h) body') (as_mono x t)
      (formula_put a d c (puts_next (sh_mono t) c p)))
  formula_put {file = file} {x = x} {h = h} (u_f_ex_t {body' = body'} a) (z_ex_t {t = t} m d) c p =
      z_ex_t (mono_put m p) (subst (λ (u : MonoTree). IsFormedFormula file (in_term (sh_mono u) ∷ h) body') (as_mono x t)
      (formula_put a d c (puts_next (sh_mono t) c p)))
  formula_put (u_f_all_h a) (z_all_h d) c p = z_all_h (formula_put a d c (puts_heap c p))
  formula_put (u_f_ex_h a) (z_ex_h d) c p = z_ex_h (formula_put a d c (puts_heap c p))
  formula_put (u_f_emp {heap = heap}) (z_emp d) c p = z_emp (p.heaps heap d)
  formula_put {x = x} (u_f_cell {heap = heap} {value' = value'} a b) (z_cell {t = t} m i d e) c p =
      z_cell (mono_put m p) (p.heaps heap i) (term_put a d c p) (at_mono x value' t (term_put b e c p))
  formula_put (u_f_block {heap = heap} a) (z_block m i d) c p = z_block (mono_put m p) (p.heaps heap i) (term_put a d c p)
  formula_put (u_f_join {whole = whole} {left = left} {right = right}) (z_join i k l) c p = z_join (p.heaps whole i) (p.heaps left k) (p.heaps right l)
  formula_put (u_f_same {left = left} {right = right}) (z_same i k) c p = z_same (p.heaps left i) (p.heaps right k)
  formula_put {x = x} (u_f_eq {left' = left'} {right' = right'} a b) (z_equal {t = t} m d e) c p =
      z_equal (mono_put m p) (at_mono x left' t (term_put a d c p)) (at_mono x right' t (term_put b e c p))
  formula_put {file = file} {x = x} {h = h} (u_f_rec {heap = heap} {arguments' = arguments'} a b)
      (z_rec {number = number} {ts = ts} q i d e) c p =
      z_rec q (p.heaps heap i) (term_put a d c p)
      (subst (IsFormedTerms file h arguments') (c.recs number ts q (renaming_of (closing x))) (terms_put b e c p))

pub keeps_formed : SubstitutionKeepsFormed
keeps_formed = record {
  terms = λ file c new x g h p s M R a b d. term_put a d c p;
  computations = λ file c new x g h p s E R a t d. comp_put a d c p;
  types = λ file c new x g h p s A R a d. ty_put a d c p;
  formulas = λ file c new x g h p s F R a d. formula_put a d c p;
  applications = λ file c g s function argument R a b f d e. app_formed f d e c;
  splicing = λ file c g comp others R t u b d e. bind_formed b d e c;
}
