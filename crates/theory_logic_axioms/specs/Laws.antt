-- The laws of the axioms.
use Rattle.std.specs.Prelude.{◌≡◌, ℕ, ◌<◌, List, [], ◌∷◌, is_some, IfSome}
use Rattle.htt_syntax.specs.Trees.{MonoTree, ArgTree, a_heap, a_term}
use Rattle.theory_renaming.specs.Scoped.{ScopedMono, ScopedTerm, ScopedFormula}
use Rattle.theory_canonical.specs.Skeletons.{sk_o}
use Rattle.theory_canonical.specs.Contexts.{Standing, as_heap, Stands, Heads}
use Rattle.theory_canonical.specs.Canonical.{IsCanonicalMono, IsCanonical, IsCanonicalFormula}
use Rattle.theory_logic_axioms.specs.Names.{AxiomName, text_of}
use Rattle.theory_logic_axioms.specs.Table.{argument_sorts, fits_shape, formula_of}

-- Each axiom has a text of its own.
abbrev pub OneNameForText : Type 0
OneNameForText = (a b : AxiomName) → text_of a ≡ text_of b → a ≡ b

-- The table has a formula exactly where the monotypes and arguments have the axiom's shape.
abbrev pub FormulaWhereShaped : Type 0
FormulaWhereShaped =
    (axiom_name : AxiomName) (monos : List MonoTree) (arguments : List ArgTree)
    → is_some (formula_of axiom_name monos arguments) ≡ fits_shape (argument_sorts axiom_name monos) arguments

abbrev pub AreScopedMonos : ℕ → List MonoTree → Type 0
AreScopedMonos n [] = Unit {0}
AreScopedMonos n (mono ∷ others) = ScopedMono n mono × AreScopedMonos n others

abbrev pub AreScopedArgs : ℕ → List ArgTree → Type 0
AreScopedArgs n [] = Unit {0}
AreScopedArgs n (a_heap heap ∷ others) = (heap < n) × AreScopedArgs n others
AreScopedArgs n (a_term term ∷ others) = ScopedTerm n term × AreScopedArgs n others

-- An instance at monotypes and arguments in scope is in scope.
abbrev pub InstanceInScope : Type 0
InstanceInScope =
    (n : ℕ) (axiom_name : AxiomName) (monos : List MonoTree) (arguments : List ArgTree)
    → AreScopedMonos n monos
    → AreScopedArgs n arguments
    → IfSome (formula_of axiom_name monos arguments) (ScopedFormula n)

abbrev pub AreCanonicalMonos : List Standing → List MonoTree → Type 0
AreCanonicalMonos g [] = Unit {0}
AreCanonicalMonos g (mono ∷ others) = IsCanonicalMono g mono × AreCanonicalMonos g others

abbrev pub AreCanonicalArgs : Heads → List Standing → List ArgTree → Type 0
AreCanonicalArgs heads g [] = Unit {0}
AreCanonicalArgs heads g (a_heap heap ∷ others) = Stands g heap as_heap × AreCanonicalArgs heads g others
AreCanonicalArgs heads g (a_term term ∷ others) = IsCanonical heads g term sk_o × AreCanonicalArgs heads g others

-- An instance at canonical monotypes and arguments is canonical.
abbrev pub InstanceIsCanonical : Type 0
InstanceIsCanonical =
    (heads : Heads) (g : List Standing) (axiom_name : AxiomName) (monos : List MonoTree) (arguments : List ArgTree)
    → AreCanonicalMonos g monos
    → AreCanonicalArgs heads g arguments
    → IfSome (formula_of axiom_name monos arguments) (IsCanonicalFormula heads g)
