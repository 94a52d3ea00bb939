-- What the typing rules derive, checking gives, or a limit is passed.
use Rattle.std.specs.Prelude.{ℕ, List, Result, Err, Some, None}
use Rattle.htt_syntax_words.specs.declared.words.Rule.{Rule}
use Rattle.htt_syntax.specs.Trees.{TyTree, TripleTree, TermTree, CompTree, FormulaTree}
use Rattle.theory_typing.specs.Contexts.{Context, Environment, Obligation}
use Rattle.theory_typing.specs.Typing.{Mode, FormsTy, FormsFormula, Gives, Fits, FitsBody}
use Rattle.theory_items.specs.Items.{ItemTree, Added, Derives}
use Rattle.theory_checking.specs.Stops.{Stop, refused}
use Rattle.theory_checking.specs.Results.{Typed, typed, Computed, computed, BodyComesTo}
use Rattle.theory_checking.specs.Checking.{TyComesTo, FormulaComesTo, TermComesTo, RunsTo}
use Rattle.theory_checking_items.specs.Items.{Checked, checked, ItemComesTo}
use Rattle.theory_checking_complete.specs.Reaching.{IsOrLimit, Reaches}

-- what is derived comes to that, at whatever byte it stands, or to a limit
pub record DerivedReaches : Type 0 where
  pub types : (env : Environment) (g : Context) (at : ℕ) (A R : TyTree)
      → FormsTy env g A R
      → Reaches (TyComesTo env g at A) R
  pub formulas : (env : Environment) (g : Context) (at : ℕ) (F R : FormulaTree)
      → FormsFormula env g F R
      → Reaches (FormulaComesTo env g at F) R
  pub given : (env : Environment) (m : Mode) (g : Context) (at : ℕ) (M N : TermTree) (A : TyTree) (o : List Obligation)
      → Gives env m g M A N o
      → Reaches (TermComesTo env m g at M None) (typed A N o)
  pub fitting : (env : Environment) (m : Mode) (g : Context) (at : ℕ) (M N : TermTree) (A : TyTree)
      (o : List Obligation)
      → Fits env m g M A N o
      → Reaches (TermComesTo env m g at M (Some A)) (typed A N o)
  pub bodies : (env : Environment) (g : Context) (at : ℕ) (spec : TripleTree) (E R : CompTree) (o : List Obligation)
      → FitsBody env g E spec R o
      → Reaches (BodyComesTo g spec (λ mono state. RunsTo env g at mono state E)) (computed R o)
  pub items : (env : Environment) (g : Context) (at : ℕ) (item : ItemTree) (added : Added) (owed : List Obligation)
      → Derives env g item added owed
      → Reaches (ItemComesTo env g at item) (checked added owed)

-- what is derived comes to nothing else: no rule refuses it
pub record DerivedIsNotRefused : Type 0 where
  pub types : (env : Environment) (g : Context) (at : ℕ) (A R : TyTree) (r : Result TyTree Stop)
      → FormsTy env g A R
      → TyComesTo env g at A r
      → IsOrLimit R r
  pub formulas : (env : Environment) (g : Context) (at : ℕ) (F R : FormulaTree) (r : Result FormulaTree Stop)
      → FormsFormula env g F R
      → FormulaComesTo env g at F r
      → IsOrLimit R r
  pub given : (env : Environment) (m : Mode) (g : Context) (at : ℕ) (M N : TermTree) (A : TyTree) (o : List Obligation)
      (r : Result Typed Stop)
      → Gives env m g M A N o
      → TermComesTo env m g at M None r
      → IsOrLimit (typed A N o) r
  pub fitting : (env : Environment) (m : Mode) (g : Context) (at : ℕ) (M N : TermTree) (A : TyTree)
      (o : List Obligation) (r : Result Typed Stop)
      → Fits env m g M A N o
      → TermComesTo env m g at M (Some A) r
      → IsOrLimit (typed A N o) r
  pub bodies : (env : Environment) (g : Context) (at : ℕ) (spec : TripleTree) (E R : CompTree) (o : List Obligation)
      (r : Result Computed Stop)
      → FitsBody env g E spec R o
      → BodyComesTo g spec (λ mono state. RunsTo env g at mono state E) r
      → IsOrLimit (computed R o) r
  pub items : (env : Environment) (g : Context) (at : ℕ) (item : ItemTree) (added : Added) (owed : List Obligation)
      (r : Result Checked Stop)
      → Derives env g item added owed
      → ItemComesTo env g at item r
      → IsOrLimit (checked added owed) r

-- what a rule refuses isn't derived, whatever byte the refusal has
pub record RefusedIsNotDerived : Type 0 where
  pub types : (env : Environment) (g : Context) (at : ℕ) (A R : TyTree) (rule : Rule) (byte : ℕ)
      → TyComesTo env g at A (Err (refused rule byte))
      → FormsTy env g A R
      → ⊥
  pub formulas : (env : Environment) (g : Context) (at : ℕ) (F R : FormulaTree) (rule : Rule) (byte : ℕ)
      → FormulaComesTo env g at F (Err (refused rule byte))
      → FormsFormula env g F R
      → ⊥
  pub given : (env : Environment) (m : Mode) (g : Context) (at : ℕ) (M N : TermTree) (A : TyTree) (o : List Obligation)
      (rule : Rule) (byte : ℕ)
      → TermComesTo env m g at M None (Err (refused rule byte))
      → Gives env m g M A N o
      → ⊥
  pub fitting : (env : Environment) (m : Mode) (g : Context) (at : ℕ) (M N : TermTree) (A : TyTree)
      (o : List Obligation) (rule : Rule) (byte : ℕ)
      → TermComesTo env m g at M (Some A) (Err (refused rule byte))
      → Fits env m g M A N o
      → ⊥
  pub bodies : (env : Environment) (g : Context) (at : ℕ) (spec : TripleTree) (E R : CompTree) (o : List Obligation)
      (rule : Rule) (byte : ℕ)
      → BodyComesTo g spec (λ mono state. RunsTo env g at mono state E) (Err (refused rule byte))
      → FitsBody env g E spec R o
      → ⊥
  pub items : (env : Environment) (g : Context) (at : ℕ) (item : ItemTree) (added : Added) (owed : List Obligation)
      (rule : Rule) (byte : ℕ)
      → ItemComesTo env g at item (Err (refused rule byte))
      → Derives env g item added owed
      → ⊥
