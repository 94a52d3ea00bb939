-- A formed term of a monotype has a value of it, where the context is first-order.
use Rattle.std.proofs.Common.{ℕ, suc, [], ◌∷◌, refl, sym, ap, ◌∙◌, subst}
use Rattle.std.specs.Prelude.{true, false}
use Rattle.htt_syntax.specs.declared.mono.Op.{Op}
use Rattle.htt_syntax.specs.declared.mono.Op.TheVariants.{Add, Sub, Mul, And, Or, Xor, Shl, Shr, Lt}
use Rattle.htt_syntax.specs.Trees.{MonoTree, TermTree, m_word, m_bool, m_loc, m_unit, m_pair, m_var}
use Rattle.theory_values.specs.Values.{Value, HasType, is_word, is_bool, is_loc, is_unit, is_pair, op_mono, value_of_op, value_of_not, value_of_eq}
use Rattle.theory_values.specs.Values.{value_of_sel, value_of_fst, value_of_snd}
use Rattle.theory_values.proofs.Operations.{op_is_typed}
use Rattle.theory_truth.specs.Worlds.{Thing, World, th_mono, th_value, value_at}
use Rattle.theory_truth.specs.Worlds.{mono_under}
use Rattle.theory_truth.specs.TermValue.{value_or_unit, term_value}
use Rattle.theory_truth.proofs.Renamed as truth
use Rattle.theory_typing.specs.Contexts.{Context, IsComparable, compares_word, compares_bool, compares_loc}
use Rattle.theory_typing.specs.Worlds.{IsWorldOf, world_none, world_mono, world_value, world_heap}
use Rattle.theory_formed_shapes.specs.Shapes.{Shape, sh_mono, sh_fun, sh_all, sh_comp, fill_shape, up_shape, first_filled, shape_of, in_mono, in_heap}
use Rattle.theory_formed_shapes.specs.Shapes.{in_term, Shapes, HasShape, shape_here, shape_there, shapes_of}
use Rattle.theory_formed_shapes.specs.Formed.{FileShapes, IsFormedTerm, z_word, z_bool, z_loc, z_unit, z_pair, z_fst, z_snd, z_not, z_bin, z_eq, z_sel}
use Rattle.theory_formed_shapes.specs.Formed.{z_lam, z_lam_t, z_do, z_neutral, IsFormedNeutral, w_var, w_val, w_made, w_fix, w_app, w_inst}
use Rattle.theory_formed_shapes.proofs.Fillings.{mono_renamed}
use Rattle.theory_formed_typing.proofs.Ends.{EndsInComp, ends_filled, fix_ends, FileEnds}

-- A world of first-order shapes.
pub data ShapesWorld : Shapes → World → Type 0 where
  sw_none : ShapesWorld [] []
  sw_mono : {g : Shapes} {w : World} {t : MonoTree} → ShapesWorld g w → ShapesWorld (in_mono ∷ g) (th_mono t ∷ w)
  sw_heap : {g : Shapes} {w : World} {x : Thing} → ShapesWorld g w → ShapesWorld (in_heap ∷ g) (x ∷ w)
  sw_value : {g : Shapes} {w : World} {t : MonoTree} {v : Value}
      → HasType v (mono_under w t)
      → ShapesWorld g w
      → ShapesWorld (in_term (sh_mono t) ∷ g) (th_value v ∷ w)

pub shapes_world : {g : Context} {w : World} → IsWorldOf g w → ShapesWorld (shapes_of g) w
unfolding shape_of
shapes_world world_none = sw_none
shapes_world (world_mono closed q) = sw_mono (shapes_world q)
shapes_world (world_heap is q) = sw_heap (shapes_world q)
shapes_world (world_value typed q) = sw_value typed (shapes_world q)

-- Of a value at a monotype's shape it is said that it is of the monotype; of others nothing.
abbrev pub ValueOf : World → Shape → Value → Type 0
ValueOf w (sh_mono t) v = HasType v (mono_under w t)
ValueOf w _ v = Unit {0}

raised_value : (x : Thing) (w : World) (A : Shape) (v : Value) → ValueOf w A v → ValueOf (x ∷ w) (up_shape A) v
unfolding fill_shape
raised_value x w (sh_mono t) v d =
    subst (HasType v)
    (sym (ap (mono_under (x ∷ w)) (mono_renamed suc t) ∙ truth.mono_renamed {m = suc} {w = w} {w' = x ∷ w} (record { at = λ n. refl }) t)) d
raised_value x w (sh_fun A B) v d = tt
raised_value x w (sh_all A) v d = tt
raised_value x w (sh_comp t) v d = tt

value_there : {g : Shapes} {w : World} {n : ℕ} {A : Shape} → ShapesWorld g w → HasShape g n A → ValueOf w A (value_at w n)
value_there (sw_value {w = w} {t = t} {v = v} d s) shape_here = raised_value (th_value v) w (sh_mono t) v d
value_there (sw_value {w = w} {v = v} d s) (shape_there {n = n} {shape = shape} i) = raised_value (th_value v) w shape (value_at w n) (value_there s i)
value_there (sw_mono {w = w} {t = t} s) (shape_there {n = n} {shape = shape} i) = raised_value (th_mono t) w shape (value_at w n) (value_there s i)
value_there (sw_heap {w = w} {x = x} s) (shape_there {n = n} {shape = shape} i) = raised_value x w shape (value_at w n) (value_there s i)
value_there sw_none i = elim i [ ]

abbrev IsMonoShape : Shape → Type 0
IsMonoShape (sh_mono t) = Unit {0}
IsMonoShape _ = ⊥

up_is_mono : (A : Shape) → IsMonoShape A → IsMonoShape (up_shape A)
unfolding fill_shape
up_is_mono (sh_mono t) d = tt
up_is_mono (sh_fun A B) d = absurd d
up_is_mono (sh_all A) d = absurd d
up_is_mono (sh_comp t) d = absurd d

-- a variable has the shape of a monotype
variable_is_mono : {g : Shapes} {w : World} {n : ℕ} {A : Shape} → ShapesWorld g w → HasShape g n A → IsMonoShape A
variable_is_mono (sw_value {t = t} d s) shape_here = up_is_mono (sh_mono t) tt
variable_is_mono (sw_value d s) (shape_there {shape = shape} i) = up_is_mono shape (variable_is_mono s i)
variable_is_mono (sw_mono s) (shape_there {shape = shape} i) = up_is_mono shape (variable_is_mono s i)
variable_is_mono (sw_heap s) (shape_there {shape = shape} i) = up_is_mono shape (variable_is_mono s i)
variable_is_mono sw_none i = elim i [ ]

-- a head of another shape ends in a computation
head_ends : {file : FileShapes} {g : Shapes} {w : World} {M : TermTree} {A : Shape}
    → IsFormedNeutral file g M A
    → FileEnds file
    → ShapesWorld g w
    → (IsMonoShape A → ⊥)
    → EndsInComp A
head_ends (w_var i) k s n = absurd (n (variable_is_mono s i))
head_ends (w_val {number = number} {s = A} q) k s n = k.vals number A q
head_ends (w_made {number = number} {m = m} q d) k s n = k.made number m q
head_ends (w_fix d) k s n = fix_ends d
head_ends (w_app h d) k s n = head_ends h k s (λ e. e)
head_ends (w_inst {t = mono} {s = body} h d) k s n = ends_filled (first_filled mono) body (head_ends h k s (λ e. e))

comp_value : (w : World) (A : Shape) (v : Value) → EndsInComp A → ValueOf w A v
comp_value w (sh_mono t) v e = absurd e
comp_value w (sh_fun A B) v e = tt
comp_value w (sh_all A) v e = tt
comp_value w (sh_comp t) v e = tt

head_value : {file : FileShapes} {g : Shapes} {w : World} {M : TermTree} {A : Shape}
    → IsFormedNeutral file g M A
    → FileEnds file
    → ShapesWorld g w
    → ValueOf w A (term_value w M)
unfolding term_value
head_value (w_var i) k s = value_there s i
head_value {w = w} {A = A} (w_val {number = number} q) k s = comp_value w A _ (k.vals number A q)
head_value {w = w} {A = A} (w_made {number = number} {m = m} q d) k s = comp_value w A _ (k.made number m q)
head_value {w = w} {A = A} (w_fix d) k s = comp_value w A _ (fix_ends d)
head_value {w = w} {A = A} (w_app h d) k s = comp_value w A _ (head_ends h k s (λ e. e))
head_value {w = w} {A = A} (w_inst {t = mono} {s = body} h d) k s = comp_value w A _ (ends_filled (first_filled mono) body (head_ends h k s (λ e. e)))

fst_value : {v : Value} {t u : MonoTree} → HasType v (m_pair t u) → HasType (value_or_unit (value_of_fst v)) t
fst_value (is_pair p q) = p

snd_value : {v : Value} {t u : MonoTree} → HasType v (m_pair t u) → HasType (value_or_unit (value_of_snd v)) u
snd_value (is_pair p q) = q

not_value : {v : Value} → HasType v m_bool → HasType (value_or_unit (value_of_not v)) m_bool
not_value is_bool = is_bool

op_value_typed : {x y : Value} (op : Op) → HasType x m_word → HasType y m_word → HasType (value_or_unit (value_of_op op x y)) (op_mono op)
op_value_typed op (is_word {n = n} l) (is_word {n = k} r) = op_is_typed op n k l r

op_under : (w : World) (op : Op) (v : Value) → HasType v (op_mono op) → HasType v (mono_under w (op_mono op))
op_under w Add v d = d
op_under w Sub v d = d
op_under w Mul v d = d
op_under w And v d = d
op_under w Or v d = d
op_under w Xor v d = d
op_under w Shl v d = d
op_under w Shr v d = d
op_under w Lt v d = d

eq_value : {x y : Value} (w : World) (t : MonoTree)
    → IsComparable t
    → HasType x (mono_under w t)
    → HasType y (mono_under w t)
    → HasType (value_or_unit (value_of_eq (mono_under w t) x y)) m_bool
eq_value w m_word compares_word (is_word l) (is_word r) = is_bool
eq_value w m_bool compares_bool is_bool is_bool = is_bool
eq_value w m_loc compares_loc (is_loc l) (is_loc r) = is_bool
eq_value w m_unit c p q = elim c [ ]
eq_value w (m_pair t u) c p q = elim c [ ]
eq_value w (m_var i) c p q = elim c [ ]

sel_value : {b x y : Value} {t : MonoTree} → HasType b m_bool → HasType x t → HasType y t → HasType (value_or_unit (value_of_sel b x y)) t
sel_value (is_bool {b = true}) p q = p
sel_value (is_bool {b = false}) p q = q

pub value_typed : {file : FileShapes} {g : Shapes} {w : World} {M : TermTree} {A : Shape}
    → IsFormedTerm file g M A
    → FileEnds file
    → ShapesWorld g w
    → ValueOf w A (term_value w M)
unfolding term_value
value_typed (z_word l) k s = is_word l
value_typed z_bool k s = is_bool
value_typed (z_loc l) k s = is_loc l
value_typed z_unit k s = is_unit
value_typed (z_pair p q) k s = is_pair (value_typed p k s) (value_typed q k s)
value_typed (z_fst p r) k s = fst_value (value_typed p k s)
value_typed (z_snd p r) k s = snd_value (value_typed p k s)
value_typed (z_not p r) k s = not_value (value_typed p k s)
value_typed {w = w} (z_bin {op = op} p q r) k s = op_under w op _ (op_value_typed op (value_typed p k s) (value_typed q k s))
value_typed {w = w} (z_eq {t = t} c p q r) k s = eq_value w t c (value_typed p k s) (value_typed q k s)
value_typed (z_sel m p q u r) k s = sel_value (value_typed p k s) (value_typed q k s) (value_typed u k s)
value_typed (z_lam p) k s = tt
value_typed (z_lam_t p) k s = tt
value_typed (z_do p) k s = tt
value_typed (z_neutral h) k s = head_value h k s
