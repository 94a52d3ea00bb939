-- The worked examples are typed, or aren't.
use Rattle.std.proofs.Common.{◌≡◌, ℕ, List, [], ◌∷◌, All, true, Some, None, slice_get, refl, sym, subst, arith}
use Rattle.std.proofs.lemmas.List.Elements.{All-nil, All-cons, All-head}
use Rattle.std.proofs.lemmas.Option.{same_Some}
use Rattle.htt_syntax.specs.Trees.{MonoTree, TermTree, m_word, m_bool, m_loc, m_unit, t_var, t_word, t_bool}
use Rattle.theory_values.specs.Values.{IsClosed, closed_word, closed_bool, closed_loc, closed_pair}
use Rattle.theory_typing.specs.Contexts.{compares_word}
use Rattle.theory_flat.specs.Flat.{FlatTree, Instance, flat_ret, flat_step, flat_call, flat_get, flat_free}
use Rattle.theory_instances.specs.Examples.{word_and_bool}
use Rattle.theory_flat.specs.Examples.{dup_flat_at, dup_flat}
use Rattle.theory_flat_typed.specs.Typed.{HasMonotype, HaveMonotypes, typed_var, typed_word, typed_bool, typed_pair, typed_bin, typed_eq, typed_none, typed_more}
use Rattle.theory_flat_typed.specs.Typed.{IsTyped, typed_ret, typed_step, typed_call, typed_alloc, typed_get, typed_free, typed_if, IsTypedInstance}
use Rattle.theory_flat_typed.specs.Typed.{AreTyped}
use Rattle.theory_flat_typed.specs.Examples.{WorkedTyping}

-- the first instance of a list that is typed
body_of : {instance : Instance} {others : List Instance}
    → AreTyped (instance ∷ others)
    → IsTypedInstance (instance ∷ others) instance
body_of {instance = instance} {others = others} a = All-head (IsTypedInstance (instance ∷ others)) instance others a

only : (instance : Instance) → IsTypedInstance (instance ∷ []) instance → AreTyped (instance ∷ [])
only instance t = All-cons (IsTypedInstance (instance ∷ [])) instance [] t (All-nil (IsTypedInstance (instance ∷ [])))

two : (x y : Instance) → IsTypedInstance (x ∷ y ∷ []) x → IsTypedInstance (x ∷ y ∷ []) y → AreTyped (x ∷ y ∷ [])
two x y t u =
    let P = IsTypedInstance (x ∷ y ∷ []) in All-cons P x (y ∷ []) t (All-cons P y [] u (All-nil P))

three : (x y z : Instance)
    → IsTypedInstance (x ∷ y ∷ z ∷ []) x
    → IsTypedInstance (x ∷ y ∷ z ∷ []) y
    → IsTypedInstance (x ∷ y ∷ z ∷ []) z
    → AreTyped (x ∷ y ∷ z ∷ [])
three x y z t u v =
    let P = IsTypedInstance (x ∷ y ∷ z ∷ []) in
    All-cons P x (y ∷ z ∷ []) t (All-cons P y (z ∷ []) u (All-cons P z [] v (All-nil P)))

none_closed : All IsClosed []
none_closed = All-nil IsClosed

one_closed : (mono : MonoTree) → IsClosed mono → All IsClosed (mono ∷ [])
one_closed mono c = All-cons IsClosed mono [] c none_closed

-- what isn't there, and monotypes that differ
missing : {A : Type 0} {x : A} → None ≡ Some x → ⊥
missing q = cc

word_is_loc : m_word ≡ m_loc → ⊥
word_is_loc q = cc

bool_word : {g : List MonoTree} {word : ℕ} → HasMonotype g (t_word word) m_bool → ⊥
bool_word d = elim d [ ]

word_bool : {g : List MonoTree} → HasMonotype g (t_bool true) m_word → ⊥
word_bool d = elim d [ ]

var_there : {g : List MonoTree} {index : ℕ} {t : MonoTree} → HasMonotype g (t_var index) t → slice_get g index ≡ Some t
var_there (typed_var q) = q

too_large : {g : List MonoTree} {t : MonoTree} → HasMonotype g (t_word 18446744073709551616) t → ⊥
too_large (typed_word q) = omega (arith, q)

returned : {instances : List Instance} {g : List MonoTree} {term : TermTree} {t : MonoTree} → IsTyped instances g (flat_ret term) t → HasMonotype g term t
returned (typed_ret d) = d

read_at : {instances : List Instance} {g : List MonoTree} {index : ℕ} {others : FlatTree} {t : MonoTree}
    → IsTyped instances g (flat_step (flat_get m_word (t_var index)) others) t
    → slice_get g index ≡ Some m_loc
read_at (typed_step (typed_get c d) e) = var_there d

unit_bound : {instances : List Instance} {g : List MonoTree} {place : TermTree} {t : MonoTree}
    → IsTyped instances g (flat_step (flat_free m_word place) (flat_ret (t_var 0))) t
    → m_unit ≡ t
unit_bound {t = t} (typed_step (typed_free c d) (typed_ret e)) = same_Some m_unit t (var_there e)

-- the instance that is called, and its parameters
called_one : {instances : List Instance} {g : List MonoTree} {number : ℕ} {params : List TermTree} {others : FlatTree} {t : MonoTree}
    → IsTyped instances g (flat_step (flat_call number params) others) t
    → (instance : Instance) × (slice_get instances number ≡ Some instance) × HaveMonotypes g params instance.params
called_one (typed_step (typed_call {instance = instance} q d) e) = (instance, q, d)

with_params_of : {g : List MonoTree} {params : List TermTree} (x : Instance)
    → (instance : Instance) × (Some x ≡ Some instance) × HaveMonotypes g params instance.params
    → HaveMonotypes g params x.params
with_params_of {g = g} {params = params} x r =
    subst (λ (i : Instance). HaveMonotypes g params i.params) (sym (same_Some x (r.0) (r.1))) (r.2)

none_for_one : {g : List MonoTree} {t : MonoTree} → HaveMonotypes g [] (t ∷ []) → ⊥
none_for_one d = elim d [ ]

first_of : {g : List MonoTree} {term : TermTree} {t : MonoTree} → HaveMonotypes g (term ∷ []) (t ∷ []) → HasMonotype g term t
first_of (typed_more d e) = d

word_bound : m_unit ≡ m_word → ⊥
word_bound q = cc

doubled : (mono : MonoTree) → IsClosed mono → IsTypedInstance dup_flat (dup_flat_at mono)
doubled mono c = record {
  params = one_closed mono c;
  result = closed_pair c c;
  body = typed_ret (typed_pair (typed_var refl) (typed_var refl));
}

pub worked : WorkedTyping
worked = record {
  cell =
      only _
      (record {
        params = none_closed;
        result = closed_word;
        body =
            typed_step (typed_alloc closed_word (typed_word (omega arith)))
            (typed_step (typed_get closed_word (typed_var refl)) (typed_step (typed_free closed_word (typed_var refl)) (typed_ret (typed_var refl))));
      });
  seven =
      two _ _ (record { params = none_closed; result = closed_word; body = typed_step (typed_call refl typed_none) (typed_ret (typed_var refl)) })
      (record { params = none_closed; result = closed_word; body = typed_ret (typed_word (omega arith)) });
  dup =
      three _ _ _
      (record {
        params = none_closed;
        result = closed_pair (closed_pair closed_word closed_word) (closed_pair (closed_pair closed_word closed_bool) (closed_pair closed_word closed_bool));
        body =
            typed_step (typed_call refl (typed_more (typed_word (omega arith)) typed_none))
            (typed_step (typed_call refl (typed_more (typed_pair (typed_word (omega arith)) typed_bool) typed_none))
            (typed_ret (typed_pair (typed_var refl) (typed_var refl))));
      })
      (doubled m_word closed_word) (doubled word_and_bool (closed_pair closed_word closed_bool));
  rep =
      three _ _ _
      (record {
        params = none_closed;
        result = closed_word;
        body = typed_step (typed_call refl (typed_more (typed_word (omega arith)) typed_none)) (typed_ret (typed_var refl));
      })
      (record {
        params = one_closed m_word closed_word;
        result = closed_word;
        body = typed_step (typed_call refl (typed_more (typed_var refl) typed_none)) (typed_ret (typed_var refl));
      })
      (record {
        params = one_closed m_word closed_word;
        result = closed_word;
        body =
            typed_step
            (typed_if closed_word (typed_eq compares_word (typed_var refl) (typed_word (omega arith))) (typed_ret (typed_word (omega arith)))
            (typed_step (typed_call refl (typed_more (typed_bin (typed_var refl) (typed_word (omega arith))) typed_none))
            (typed_ret (typed_bin (typed_var refl) (typed_word (omega arith))))))
            (typed_ret (typed_var refl));
      });
  other_result = λ a. bool_word (returned (body_of a).body);
  no_word = λ a. too_large (returned (body_of a).body);
  no_variable = λ a. missing (var_there (returned (body_of a).body));
  location =
      only _
      (record {
        params = one_closed m_loc closed_loc;
        result = closed_word;
        body = typed_step (typed_get closed_word (typed_var refl)) (typed_ret (typed_var refl));
      });
  no_location = λ a. word_is_loc (same_Some m_word m_loc (read_at (body_of a).body));
  nothing_bound = λ a. word_bound (unit_bound (body_of a).body);
  no_instance = λ a. missing ((called_one (body_of a).body).1);
  no_parameter = λ a. none_for_one (with_params_of _ (called_one (body_of a).body));
  other_parameter = λ a. word_bool (first_of (with_params_of _ (called_one (body_of a).body)));
}
