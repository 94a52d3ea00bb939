-- The laws of derived files.
use Rattle.std.specs.Prelude.{◌≡◌, ℕ, List}
use Rattle.theory_typing.specs.Contexts.{Environment, Obligation}
use Rattle.theory_typing.specs.Laws.{none}
use Rattle.theory_items.specs.Items.{ItemTree}
use Rattle.theory_file_derived.specs.Derived.{ProofItem, DerivesAll, IsDerived, IsOpen}

pub record DerivedFiles : Type 0 where
  pub one_list : (env final other : Environment) (items : List ItemTree) (rows sides : List (List Obligation))
      → DerivesAll env items final rows
      → DerivesAll env items other sides
      → (final ≡ other) × (rows ≡ sides)
  pub one_environment : (items : List ItemTree) (proofs more : List ProofItem) (final other : Environment)
      → IsDerived items proofs final
      → IsDerived items more other
      → final ≡ other
  pub none_open : (items : List ItemTree) (proofs : List ProofItem) (final : Environment)
      → IsDerived items proofs final
      → (rows : List (List Obligation))
      → DerivesAll none items final rows
      → (item number : ℕ) (o : Obligation)
      → IsOpen rows proofs item number o
      → ⊥
