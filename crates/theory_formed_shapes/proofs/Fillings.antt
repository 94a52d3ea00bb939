-- One filling after another is a filling.
use Rattle.std.proofs.Common.{◌≡◌, ℕ, zero, suc, refl, sym, ap, ◌∙◌, arith}
use Rattle.std.specs.Prelude.{Bool, false, nat_eq, if◌then◌else◌}
use Rattle.std.proofs.lemmas.Bool.Decides.{nat_tests}
use Rattle.htt_syntax.specs.Trees.{MonoTree, m_word, m_bool, m_loc, m_unit, m_pair, m_var}
use Rattle.theory_renaming.specs.Renaming.{Map, lift, rename_mono}
use Rattle.theory_substitution.specs.Closing.{closing}
use Rattle.theory_substitution.specs.Monotypes.{Filling, next_filling, fill_mono, put_mono}
use Rattle.theory_formed_shapes.specs.Shapes.{Shape, sh_mono, sh_fun, sh_all, sh_comp, fill_shape, renaming_of, up_shape, dropping, first_filled}

-- fillings that agree at each variable are equal
pub all_equal : {f g : Filling} → ((n : ℕ) → f n ≡ g n) → f ≡ g
all_equal e = λ j n. e n j

pub mono_renamed : (m : Map) (t : MonoTree) → fill_mono (renaming_of m) t ≡ rename_mono m t
unfolding fill_mono rename_mono
mono_renamed m m_word = refl
mono_renamed m m_bool = refl
mono_renamed m m_loc = refl
mono_renamed m m_unit = refl
mono_renamed m (m_pair left right) = λ j. m_pair (mono_renamed m left j) (mono_renamed m right j)
mono_renamed m (m_var index) = refl

mono_then_renamed : (g : Filling) (m : Map) (t : MonoTree) → rename_mono m (fill_mono g t) ≡ fill_mono (λ n. rename_mono m (g n)) t
unfolding fill_mono rename_mono
mono_then_renamed g m m_word = refl
mono_then_renamed g m m_bool = refl
mono_then_renamed g m m_loc = refl
mono_then_renamed g m m_unit = refl
mono_then_renamed g m (m_pair left right) = λ j. m_pair (mono_then_renamed g m left j) (mono_then_renamed g m right j)
mono_then_renamed g m (m_var index) = refl

mono_renamed_then : (g : Filling) (m : Map) (t : MonoTree) → fill_mono g (rename_mono m t) ≡ fill_mono (λ n. g (m n)) t
unfolding fill_mono rename_mono
mono_renamed_then g m m_word = refl
mono_renamed_then g m m_bool = refl
mono_renamed_then g m m_loc = refl
mono_renamed_then g m m_unit = refl
mono_renamed_then g m (m_pair left right) = λ j. m_pair (mono_renamed_then g m left j) (mono_renamed_then g m right j)
mono_renamed_then g m (m_var index) = refl

pub mono_after : (f g : Filling) (t : MonoTree) → fill_mono g (fill_mono f t) ≡ fill_mono (λ n. fill_mono g (f n)) t
unfolding fill_mono
mono_after f g m_word = refl
mono_after f g m_bool = refl
mono_after f g m_loc = refl
mono_after f g m_unit = refl
mono_after f g (m_pair left right) = λ j. m_pair (mono_after f g left j) (mono_after f g right j)
mono_after f g (m_var index) = refl

pub mono_kept : (t : MonoTree) → fill_mono (λ n. m_var n) t ≡ t
unfolding fill_mono
mono_kept m_word = refl
mono_kept m_bool = refl
mono_kept m_loc = refl
mono_kept m_unit = refl
mono_kept (m_pair left right) = λ j. m_pair (mono_kept left j) (mono_kept right j)
mono_kept (m_var index) = refl

next_after : (f g : Filling) → (λ (n : ℕ). fill_mono (next_filling g) (next_filling f n)) ≡ next_filling (λ n. fill_mono g (f n))
unfolding next_filling fill_mono
next_after f g = all_equal go
  where
    go : (n : ℕ) → fill_mono (next_filling g) (next_filling f n) ≡ next_filling (λ n. fill_mono g (f n)) n
    go zero = refl
    go (suc n) = mono_renamed_then (next_filling g) suc (f n) ∙ sym (mono_then_renamed g suc (f n))

pub next_renaming : (m : Map) → next_filling (renaming_of m) ≡ renaming_of (lift m)
unfolding next_filling lift rename_mono
next_renaming m = all_equal go
  where
    go : (n : ℕ) → next_filling (renaming_of m) n ≡ renaming_of (lift m) n
    go zero = refl
    go (suc n) = refl

next_kept : next_filling (λ n. m_var n) ≡ (λ n. m_var n)
unfolding next_filling rename_mono
next_kept = all_equal go
  where
    go : (n : ℕ) → next_filling (λ n. m_var n) n ≡ m_var n
    go zero = refl
    go (suc n) = refl

pub shape_after : (f g : Filling) (A : Shape) → fill_shape g (fill_shape f A) ≡ fill_shape (λ n. fill_mono g (f n)) A
unfolding fill_shape
shape_after f g (sh_mono mono) = ap sh_mono (mono_after f g mono)
shape_after f g (sh_fun argument answer) = λ j. sh_fun (shape_after f g argument j) (shape_after f g answer j)
shape_after f g (sh_all body) = ap sh_all (shape_after (next_filling f) (next_filling g) body ∙ ap (λ (h : Filling). fill_shape h body) (next_after f g))
shape_after f g (sh_comp mono) = ap sh_comp (mono_after f g mono)

pub shape_kept : (A : Shape) → fill_shape (λ n. m_var n) A ≡ A
unfolding fill_shape
shape_kept (sh_mono mono) = ap sh_mono (mono_kept mono)
shape_kept (sh_fun argument answer) = λ j. sh_fun (shape_kept argument j) (shape_kept answer j)
shape_kept (sh_all body) = ap sh_all (ap (λ (h : Filling). fill_shape h body) next_kept ∙ shape_kept body)
shape_kept (sh_comp mono) = ap sh_comp (mono_kept mono)

-- two ways to fill that agree at each variable
pub both_ways : (f g h k : Filling)
    → ((n : ℕ) → fill_mono g (f n) ≡ fill_mono k (h n))
    → (A : Shape)
    → fill_shape g (fill_shape f A) ≡ fill_shape k (fill_shape h A)
both_ways f g h k e A = shape_after f g A ∙ ap (λ (r : Filling). fill_shape r A) (all_equal e) ∙ sym (shape_after h k A)

pub one_way : (f g h : Filling) → ((n : ℕ) → fill_mono g (f n) ≡ h n) → (A : Shape) → fill_shape g (fill_shape f A) ≡ fill_shape h A
one_way f g h e A = shape_after f g A ∙ ap (λ (r : Filling). fill_shape r A) (all_equal e)

-- under one more variable
pub up_filled : (f : Filling) (A : Shape) → fill_shape (next_filling f) (up_shape A) ≡ up_shape (fill_shape f A)
unfolding fill_mono next_filling
up_filled f A = both_ways (renaming_of suc) (next_filling f) f (renaming_of suc) (λ n. sym (mono_renamed suc (f n))) A

pub up_renamed : (m : Map) (A : Shape) → fill_shape (renaming_of (lift m)) (up_shape A) ≡ up_shape (fill_shape (renaming_of m) A)
unfolding fill_mono lift
up_renamed m A = both_ways (renaming_of suc) (renaming_of (lift m)) (renaming_of m) (renaming_of suc) (λ n. refl) A

-- and without it again
pub up_closed : (A : Shape) → fill_shape (renaming_of (closing zero)) (up_shape A) ≡ A
unfolding fill_mono closing
up_closed A = one_way (renaming_of suc) (renaming_of (closing zero)) (λ n. m_var n) (λ n. refl) A ∙ shape_kept A

pub up_dropped : (A : Shape) → fill_shape dropping (up_shape A) ≡ A
unfolding fill_mono dropping
up_dropped A = one_way (renaming_of suc) dropping (λ n. m_var n) (λ n. refl) A ∙ shape_kept A

-- a monotype for the innermost variable, before and after a filling
pub first_and_filled : (f : Filling) (t : MonoTree) (A : Shape)
    → fill_shape f (fill_shape (first_filled t) A) ≡ fill_shape (first_filled (fill_mono f t)) (fill_shape (next_filling f) A)
unfolding fill_mono next_filling first_filled
first_and_filled f t A = both_ways (first_filled t) f (next_filling f) (first_filled (fill_mono f t)) go A
  where
    go : (n : ℕ) → fill_mono f (first_filled t n) ≡ fill_mono (first_filled (fill_mono f t)) (next_filling f n)
    go zero = refl
    go (suc n) = sym (mono_renamed_then (first_filled (fill_mono f t)) suc (f n) ∙ mono_kept (f n))

pub first_and_renamed : (m : Map) (t : MonoTree) (A : Shape)
    → fill_shape (renaming_of m) (fill_shape (first_filled t) A)
    ≡ fill_shape (first_filled (rename_mono m t)) (fill_shape (renaming_of (lift m)) A)
first_and_renamed m t A = first_and_filled (renaming_of m) t A ∙ (λ j. fill_shape (first_filled (mono_renamed m t j)) (fill_shape (next_renaming m j) A))

-- the innermost variable for itself
pub first_is_itself : (A : Shape) → fill_shape (first_filled (m_var zero)) (fill_shape (renaming_of (lift suc)) A) ≡ A
unfolding fill_mono lift first_filled
first_is_itself A = one_way (renaming_of (lift suc)) (first_filled (m_var zero)) (λ n. m_var n) go A ∙ shape_kept A
  where
    go : (n : ℕ) → fill_mono (first_filled (m_var zero)) (renaming_of (lift suc) n) ≡ m_var n
    go zero = refl
    go (suc n) = refl

-- the filling of one variable is the filling of the innermost
pub put_is_first : (t : MonoTree) → put_mono t zero ≡ first_filled t
unfolding put_mono first_filled closing
put_is_first t = all_equal go
  where
    go : (n : ℕ) → put_mono t zero n ≡ first_filled t n
    go zero = refl
    go (suc n) = let e : nat_eq (suc n) zero ≡ false = grind (arith, nat_tests) in ap (λ (b : Bool). if b then t else m_var n) e

-- a monotype under one more variable
pub up_mono_filled : (f : Filling) (t : MonoTree) → fill_mono (next_filling f) (rename_mono suc t) ≡ rename_mono suc (fill_mono f t)
unfolding next_filling
up_mono_filled f t = mono_renamed_then (next_filling f) suc t ∙ sym (mono_then_renamed f suc t)

pub up_mono_first : (u t : MonoTree) → fill_mono (first_filled u) (rename_mono suc t) ≡ t
unfolding first_filled
up_mono_first u t = mono_renamed_then (first_filled u) suc t ∙ mono_kept t

pub up_mono_closed : (t : MonoTree) → rename_mono (closing zero) (rename_mono suc t) ≡ t
unfolding closing
up_mono_closed t = sym (mono_renamed (closing zero) (rename_mono suc t)) ∙ mono_renamed_then (renaming_of (closing zero)) suc t ∙ mono_kept t
