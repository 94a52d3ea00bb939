-- What heads, steps and bindings come to, by their parts: where the whole has a result, so have the parts, and over
-- the parts' results there is one way on.
use Rattle.std.specs.Prelude.{◌≡◌, ◌≢◌, ℕ, zero, suc, true, false, Option, Some, None, option_map}
use Rattle.htt_syntax.specs.Trees.{MonoTree, TermTree, CompTree, StepTree, t_var, t_app, t_inst, t_lam, t_lam_t, t_do}
use Rattle.htt_syntax.specs.Trees.{c_ret, c_step, s_run}
use Rattle.theory_renaming.specs.Renaming.{lift, rename_mono, rename_comp}
use Rattle.theory_canonical.specs.Skeletons.{Skeleton, sk_o, sk_c, sk_arrow, sk_all}
use Rattle.theory_substitution.specs.Closing.{closing, up}
use Rattle.theory_substitution.specs.Monotypes.{put_mono_term}
use Rattle.theory_substitution.specs.Substitution.{SubTerm, SubComp, SubStep, Bind}
use Rattle.shared_terms_rows.specs.Parts.{Part, kind_of}
use Rattle.theory_rows_substitution.specs.Substitution.{SubPart}
use Rattle.theory_rows_heads.specs.Heads.{SubHead, is_head, is_fixed_head, is_run}

-- What a part becomes is one, and of the same kind.
abbrev pub OnePart : Type 0
OnePart =
    (new : TermTree) (s : Skeleton) (x : ℕ) (old p q : Part)
    → SubPart new s x old p
    → SubPart new s x old q
    → p ≡ q

abbrev pub KindStays : Type 0
KindStays = (new : TermTree) (s : Skeleton) (x : ℕ) (old p : Part) → SubPart new s x old p → kind_of p ≡ kind_of old

abbrev pub OneHead : Type 0
OneHead =
    (new : TermTree) (s : Skeleton) (x : ℕ) (term r q : TermTree) (k l : Option Skeleton)
    → SubHead new s x term r k
    → SubHead new s x term q l
    → (r ≡ q) × (k ≡ l)

-- A head's result is the term's, and a term with a head has no other.
abbrev pub HeadsAreTerms : Type 0
HeadsAreTerms =
    (new : TermTree) (s : Skeleton) (x : ℕ) (term r : TermTree) (k : Option Skeleton)
    → SubHead new s x term r k
    → SubTerm new s x term r

abbrev pub TermsHaveHeads : Type 0
TermsHaveHeads =
    (new : TermTree) (s : Skeleton) (x : ℕ) (term r : TermTree)
    → is_head term ≡ true
    → SubTerm new s x term r
    → (k : Option Skeleton) × SubHead new s x term r k

-- The variable becomes the new term, and others stay.
abbrev pub VariableGives : Type 0
VariableGives = (new : TermTree) (s : Skeleton) (x : ℕ) → SubHead new s x (t_var x) new (Some s)

abbrev pub VariableStays : Type 0
VariableStays =
    (new : TermTree) (s : Skeleton) (x index : ℕ)
    → index ≢ x
    → SubHead new s x (t_var index) (t_var (closing x index)) None

abbrev pub FixedHeadStays : Type 0
FixedHeadStays =
    (new : TermTree) (s : Skeleton) (x : ℕ) (term r : TermTree)
    → is_fixed_head term ≡ true
    → SubTerm new s x term r
    → SubHead new s x term r None

-- The results that the parts of a head with an argument have.
pub record ApplicationParts (new : TermTree) (s : Skeleton) (x : ℕ) (function argument : TermTree) : Type 0 where
  pub head : TermTree
  pub left : Option Skeleton
  pub of_function : SubHead new s x function head left
  pub value : TermTree
  pub of_argument : SubTerm new s x argument value

abbrev pub ApplicationHasParts : Type 0
ApplicationHasParts =
    (new : TermTree) (s : Skeleton) (x : ℕ) (function argument r : TermTree) (k : Option Skeleton)
    → SubHead new s x (t_app function argument) r k
    → ApplicationParts new s x function argument

abbrev pub ApplicationStays : Type 0
ApplicationStays =
    (new : TermTree) (s : Skeleton) (x : ℕ) (function argument head value : TermTree)
    → SubHead new s x function head None
    → SubTerm new s x argument value
    → SubHead new s x (t_app function argument) (t_app head value) None

abbrev pub ApplicationGives : Type 0
ApplicationGives =
    (new : TermTree) (s left right : Skeleton) (x : ℕ) (function argument body value r : TermTree)
    → SubHead new s x function (t_lam body) (Some (sk_arrow left right))
    → SubTerm new s x argument value
    → SubTerm value left zero body r
    → SubHead new s x (t_app function argument) r (Some right)

-- What was put is a function of the skeleton of functions, whose body has a result for the argument.
pub record Redex (head value : TermTree) (left : Skeleton) (r : TermTree) (k : Option Skeleton) : Type 0 where
  pub from : Skeleton
  pub to : Skeleton
  pub body : TermTree
  pub arrow : left ≡ sk_arrow from to
  pub function : head ≡ t_lam body
  pub put : SubTerm value from zero body r
  pub rest : k ≡ Some to

abbrev pub ApplicationIsRedex : Type 0
ApplicationIsRedex =
    (new : TermTree) (s left : Skeleton) (x : ℕ) (function argument head value r : TermTree) (k : Option Skeleton)
    → SubHead new s x (t_app function argument) r k
    → SubHead new s x function head (Some left)
    → SubTerm new s x argument value
    → Redex head value left r k

-- The same for a head with a monotype.
abbrev pub InstanceHasHead : Type 0
InstanceHasHead =
    (new : TermTree) (s : Skeleton) (x : ℕ) (function r : TermTree) (mono : MonoTree) (k : Option Skeleton)
    → SubHead new s x (t_inst function mono) r k
    → (head : TermTree) × (left : Option Skeleton) × SubHead new s x function head left

abbrev pub InstanceStays : Type 0
InstanceStays =
    (new : TermTree) (s : Skeleton) (x : ℕ) (function head : TermTree) (mono : MonoTree)
    → SubHead new s x function head None
    → SubHead new s x (t_inst function mono) (t_inst head (rename_mono (closing x) mono)) None

abbrev pub InstanceGives : Type 0
InstanceGives =
    (new : TermTree) (s left : Skeleton) (x : ℕ) (function body : TermTree) (mono : MonoTree)
    → SubHead new s x function (t_lam_t body) (Some (sk_all left))
    → SubHead new s x (t_inst function mono) (put_mono_term (rename_mono (closing x) mono) zero body) (Some left)

pub record FamilyRedex (head : TermTree) (mono : MonoTree) (left : Skeleton) (r : TermTree) (k : Option Skeleton) : Type 0 where
  pub to : Skeleton
  pub body : TermTree
  pub all : left ≡ sk_all to
  pub family : head ≡ t_lam_t body
  pub put : r ≡ put_mono_term mono zero body
  pub rest : k ≡ Some to

abbrev pub InstanceIsRedex : Type 0
InstanceIsRedex =
    (new : TermTree) (s left : Skeleton) (x : ℕ) (function head r : TermTree) (mono : MonoTree) (k : Option Skeleton)
    → SubHead new s x (t_inst function mono) r k
    → SubHead new s x function head (Some left)
    → FamilyRedex head (rename_mono (closing x) mono) left r k

-- A step and the computation behind it.
pub record RunParts (new : TermTree) (s : Skeleton) (x : ℕ) (term : TermTree) (others : CompTree) : Type 0 where
  pub head : TermTree
  pub left : Option Skeleton
  pub of_term : SubHead new s x term head left
  pub rest : CompTree
  pub of_others : SubComp (up new) s (suc x) others rest

abbrev pub RunHasParts : Type 0
RunHasParts =
    (new : TermTree) (s : Skeleton) (x : ℕ) (term : TermTree) (mono : Option MonoTree) (others r : CompTree)
    → SubComp new s x (c_step (s_run term mono) others) r
    → RunParts new s x term others

abbrev pub RunStays : Type 0
RunStays =
    (new : TermTree) (s : Skeleton) (x : ℕ) (term head : TermTree) (mono : Option MonoTree)
    → SubHead new s x term head None
    → SubStep new s x (s_run term mono) (s_run head (option_map (rename_mono (closing x)) mono))

abbrev pub RunGives : Type 0
RunGives =
    (new : TermTree) (s : Skeleton) (x : ℕ) (term : TermTree) (mono : Option MonoTree) (comp others rest r : CompTree)
    → SubHead new s x term (t_do comp) (Some sk_c)
    → SubComp (up new) s (suc x) others rest
    → Bind comp rest r
    → SubComp new s x (c_step (s_run term mono) others) r

pub record Spliced (head : TermTree) (left : Skeleton) (rest r : CompTree) : Type 0 where
  pub comp : CompTree
  pub skeleton : left ≡ sk_c
  pub computation : head ≡ t_do comp
  pub bound : Bind comp rest r

abbrev pub RunIsSpliced : Type 0
RunIsSpliced =
    (new : TermTree) (s left : Skeleton) (x : ℕ) (term head : TermTree) (mono : Option MonoTree) (others rest r : CompTree)
    → SubComp new s x (c_step (s_run term mono) others) r
    → SubHead new s x term head (Some left)
    → SubComp (up new) s (suc x) others rest
    → Spliced head left rest r

pub record StepParts (new : TermTree) (s : Skeleton) (x : ℕ) (step : StepTree) (others : CompTree) : Type 0 where
  pub first : StepTree
  pub of_step : SubStep new s x step first
  pub rest : CompTree
  pub of_others : SubComp (up new) s (suc x) others rest

abbrev pub StepHasParts : Type 0
StepHasParts =
    (new : TermTree) (s : Skeleton) (x : ℕ) (step : StepTree) (others r : CompTree)
    → is_run step ≡ false
    → SubComp new s x (c_step step others) r
    → StepParts new s x step others

abbrev pub StepStays : Type 0
StepStays =
    (new : TermTree) (s : Skeleton) (x : ℕ) (step first : StepTree) (others rest : CompTree)
    → SubStep new s x step first
    → SubComp (up new) s (suc x) others rest
    → SubComp new s x (c_step step others) (c_step first rest)

-- Binding: the result is put for the variable of what stands behind it, and steps stay before it.
abbrev pub BoundResult : Type 0
BoundResult =
    (term : TermTree) (others r : CompTree) → Bind (c_ret term) others r → SubComp term sk_o zero others r

abbrev pub ResultIsBound : Type 0
ResultIsBound =
    (term : TermTree) (others r : CompTree) → SubComp term sk_o zero others r → Bind (c_ret term) others r

abbrev pub BoundStep : Type 0
BoundStep =
    (step : StepTree) (comp others r : CompTree)
    → Bind (c_step step comp) others r
    → (rest : CompTree) × (r ≡ c_step step rest) × Bind comp (rename_comp (lift suc) others) rest

abbrev pub StepIsBound : Type 0
StepIsBound =
    (step : StepTree) (comp others rest : CompTree)
    → Bind comp (rename_comp (lift suc) others) rest
    → Bind (c_step step comp) others (c_step step rest)
