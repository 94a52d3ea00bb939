-- Flat bodies that fit together by monotypes: each term is of a monotype, each call has parameters of those
-- of its instance, and a body returns what is of the instance's result. All monotypes are closed.
use Rattle.std.specs.Prelude.{◌≡◌, ℕ, List, [], ◌∷◌, All, reverse, Bool, Some, slice_get}
use Rattle.htt_syntax.specs.declared.mono.Op.{Op}
use Rattle.htt_syntax.specs.Trees.{MonoTree, TermTree, m_word, m_bool, m_loc, m_unit, m_pair, t_var, t_word, t_bool}
use Rattle.htt_syntax.specs.Trees.{t_loc, t_unit, t_pair, t_fst, t_snd, t_not, t_bin, t_eq, t_sel}
use Rattle.theory_values.specs.Values.{IsWord, IsClosed, op_mono}
use Rattle.theory_typing.specs.Contexts.{IsComparable}
use Rattle.theory_flat.specs.Flat.{FlatTree, FlatStepTree, flat_ret, flat_step, flat_call, flat_alloc, flat_get}
use Rattle.theory_flat.specs.Flat.{flat_set, flat_free, flat_if, Instance}

-- A term under variables of these monotypes, the innermost first.
pub data HasMonotype (g : List MonoTree) : TermTree → MonoTree → Type 0 where
  typed_var : {index : ℕ} {t : MonoTree} → slice_get g index ≡ Some t → HasMonotype g (t_var index) t
  typed_word : {word : ℕ} → IsWord word → HasMonotype g (t_word word) m_word
  typed_bool : {truth : Bool} → HasMonotype g (t_bool truth) m_bool
  typed_loc : {place : ℕ} → IsWord place → HasMonotype g (t_loc place) m_loc
  typed_unit : HasMonotype g t_unit m_unit
  typed_pair : {left right : TermTree} {t u : MonoTree}
      → HasMonotype g left t
      → HasMonotype g right u
      → HasMonotype g (t_pair left right) (m_pair t u)
  typed_fst : {pair : TermTree} {t u : MonoTree} → HasMonotype g pair (m_pair t u) → HasMonotype g (t_fst pair) t
  typed_snd : {pair : TermTree} {t u : MonoTree} → HasMonotype g pair (m_pair t u) → HasMonotype g (t_snd pair) u
  typed_not : {term : TermTree} → HasMonotype g term m_bool → HasMonotype g (t_not term) m_bool
  typed_bin : {op : Op} {left right : TermTree}
      → HasMonotype g left m_word
      → HasMonotype g right m_word
      → HasMonotype g (t_bin op left right) (op_mono op)
  typed_eq : {t : MonoTree} {left right : TermTree}
      → IsComparable t
      → HasMonotype g left t
      → HasMonotype g right t
      → HasMonotype g (t_eq t left right) m_bool
  typed_sel : {t : MonoTree} {test on_true on_false : TermTree}
      → IsClosed t
      → HasMonotype g test m_bool
      → HasMonotype g on_true t
      → HasMonotype g on_false t
      → HasMonotype g (t_sel t test on_true on_false) t

-- Terms in order.
pub data HaveMonotypes (g : List MonoTree) : List TermTree → List MonoTree → Type 0 where
  typed_none : HaveMonotypes g [] []
  typed_more : {term : TermTree} {others : List TermTree} {t : MonoTree} {ts : List MonoTree}
      → HasMonotype g term t
      → HaveMonotypes g others ts
      → HaveMonotypes g (term ∷ others) (t ∷ ts)

mutual
  -- a flat tree, with the monotype of its result
  pub data IsTyped (instances : List Instance) : List MonoTree → FlatTree → MonoTree → Type 0 where
    typed_ret : {g : List MonoTree} {term : TermTree} {t : MonoTree}
        → HasMonotype g term t
        → IsTyped instances g (flat_ret term) t
    typed_step : {g : List MonoTree} {step : FlatStepTree} {others : FlatTree} {t u : MonoTree}
        → IsTypedStep instances g step u
        → IsTyped instances (u ∷ g) others t
        → IsTyped instances g (flat_step step others) t

  -- a step, with the monotype of its variable
  pub data IsTypedStep (instances : List Instance) : List MonoTree → FlatStepTree → MonoTree → Type 0 where
    typed_call : {g : List MonoTree} {number : ℕ} {params : List TermTree} {instance : Instance}
        → slice_get instances number ≡ Some instance
        → HaveMonotypes g params instance.params
        → IsTypedStep instances g (flat_call number params) instance.result
    typed_alloc : {g : List MonoTree} {t : MonoTree} {value : TermTree}
        → IsClosed t
        → HasMonotype g value t
        → IsTypedStep instances g (flat_alloc t value) m_loc
    typed_get : {g : List MonoTree} {t : MonoTree} {place : TermTree}
        → IsClosed t
        → HasMonotype g place m_loc
        → IsTypedStep instances g (flat_get t place) t
    typed_set : {g : List MonoTree} {t : MonoTree} {place value : TermTree}
        → IsClosed t
        → HasMonotype g place m_loc
        → HasMonotype g value t
        → IsTypedStep instances g (flat_set t place value) m_unit
    typed_free : {g : List MonoTree} {t : MonoTree} {place : TermTree}
        → IsClosed t
        → HasMonotype g place m_loc
        → IsTypedStep instances g (flat_free t place) m_unit
    typed_if : {g : List MonoTree} {t : MonoTree} {test : TermTree} {on_true on_false : FlatTree}
        → IsClosed t
        → HasMonotype g test m_bool
        → IsTyped instances g on_true t
        → IsTyped instances g on_false t
        → IsTypedStep instances g (flat_if t test on_true on_false) t

-- An instance of a list, whose body stands under its parameters.
pub record IsTypedInstance (instances : List Instance) (instance : Instance) : Type 0 where
  pub params : All IsClosed instance.params
  pub result : IsClosed instance.result
  pub body : IsTyped instances (reverse instance.params) instance.body instance.result

abbrev pub AreTyped : List Instance → Type 0
AreTyped instances = All (IsTypedInstance instances) instances
