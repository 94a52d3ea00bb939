-- One stage and then another: where each gives one value or one refusal, both together do.
use Rattle.std.proofs.Common.{ℕ, ◌≡◌, ◌≢◌, ◌<◌, ◌≤◌, ◌⊎◌, Some, Result, Ok, Err, sym, ◌∙◌, ap, subst, arith, ⊎_elim, inl, inr}
use Rattle.htt_top_answers.specs.declared.answer.Refusal.{Refusal}
use Rattle.htt_top_answers.specs.declared.answer.Refusal.TheVariants.{NoMemory}
use Rattle.htt_top.specs.Stages.{Then}

-- two results of a stage are related, want of memory aside
abbrev pub AgreeBy : {A : Type 0} → (Result A Refusal → Result A Refusal → Type 0) → (Result A Refusal → Type 0) → Type 0
AgreeBy {A = A} Related stage = (x y : Result A Refusal) → stage x → stage y → x ≢ Err NoMemory → y ≢ Err NoMemory → Related x y

abbrev pub Agree : {A : Type 0} → (Result A Refusal → Type 0) → Type 0
Agree {A = A} stage = (x y : Result A Refusal) → stage x → stage y → x ≢ Err NoMemory → y ≢ Err NoMemory → x ≡ y

abbrev pub value_result : {A : Type 0} → A → Result A Refusal
value_result a = Ok a

abbrev pub refusal_result : {A : Type 0} → Refusal → Result A Refusal
refusal_result r = Err r

pub values_agree : {A : Type 0} {a b : A} → value_result a ≡ value_result b → a ≡ b
values_agree e = cc

pub some_agree : {A : Type 0} {a b : A} → Some a ≡ Some b → a ≡ b
some_agree e = cc

pub refusals_agree : {A : Type 0} {r q : Refusal} → refusal_result {A = A} r ≡ refusal_result q → r ≡ q
refusals_agree e = cc

pub ok_is_no_err : {A : Type 0} {a : A} {r : Refusal} → value_result a ≡ refusal_result r → ⊥
ok_is_no_err e = cc

pub too_long : (a b n : ℕ) → a ≡ b → a ≤ n → n < b → ⊥
too_long a b n e d f = omega arith

pub then_agree : {A B : Type 0} (Related : Result B Refusal → Result B Refusal → Type 0) (related : (x : Result B Refusal) → Related x x)
    (first : Result A Refusal → Type 0) (next : A → Result B Refusal → Type 0)
    → Agree first → ((a : A) → first (Ok a) → AgreeBy Related (next a)) → AgreeBy Related (Then first next)
then_agree {A = A} {B = B} Related related first next f n x y p q m k =
    ⊎_elim
    (λ (i : (refusal : Refusal) × first (Err refusal) × (x ≡ Err refusal)).
    ⊎_elim
    (λ (j : (refusal : Refusal) × first (Err refusal) × (y ≡ Err refusal)).
    let e = refusals_agree (f (Err i.0) (Err j.0) i.1 j.1 (λ d. m (i.2 ∙ ap Err (refusals_agree d))) (λ d. k (j.2 ∙ ap Err (refusals_agree d)))) in
    subst (Related x) (i.2 ∙ ap Err e ∙ sym j.2) (related x))
    (λ (j : (a : A) × first (Ok a) × next a y).
    absurd (ok_is_no_err (sym (f (Err i.0) (Ok j.0) i.1 j.1 (λ d. m (i.2 ∙ ap Err (refusals_agree d))) ok_is_no_err))))
    q)
    (λ (i : (a : A) × first (Ok a) × next a x).
    ⊎_elim
    (λ (j : (refusal : Refusal) × first (Err refusal) × (y ≡ Err refusal)).
    absurd (ok_is_no_err (f (Ok i.0) (Err j.0) i.1 j.1 ok_is_no_err (λ d. k (j.2 ∙ ap Err (refusals_agree d))))))
    (λ (j : (a : A) × first (Ok a) × next a y).
    let e = values_agree (f (Ok i.0) (Ok j.0) i.1 j.1 ok_is_no_err ok_is_no_err) in
    n i.0 i.1 x y i.2 (subst (λ a. next a y) (sym e) j.2) m k)
    q)
    p
