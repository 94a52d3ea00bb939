-- What a formed tree needs of its context are the entries of the variables that occur in it. So it is formed in
-- each context into which a map carries these. And they have entries.
use Rattle.std.specs.Prelude.{ℕ, zero, List, [], All}
use Rattle.htt_syntax.specs.Trees.{TermTree}
use Rattle.theory_renaming.specs.Renaming.{Map, rename_term}
use Rattle.theory_formed_shapes.specs.Shapes.{Shape, fill_shape, renaming_of, Shapes, IsMonoAt, IsHeapAt, HasShape}
use Rattle.theory_formed_shapes.specs.Formed.{FileShapes, IsFormedTerm, IsFormedNeutral, IsClosedFile}
use Rattle.theory_instances.specs.Occurrences.{Occurrence, met_in_term}

-- A map carries the entry of a variable of the one context to the other.
abbrev pub CarriesEntry : Map → Shapes → Shapes → ℕ → Type 0
CarriesEntry m g h n = (s : Shape) → HasShape g n s → HasShape h (m n) (fill_shape (renaming_of m) s)

-- It carries monotypes and heaps, and the entries of these variables.
pub record CarriesMet (m : Map) (g h : Shapes) (met : List Occurrence) : Type 0 where
  pub monos : (n : ℕ) → IsMonoAt g n → IsMonoAt h (m n)
  pub heaps : (n : ℕ) → IsHeapAt g n → IsHeapAt h (m n)
  pub terms : All (λ (o : Occurrence). CarriesEntry m g h o.variable) met

pub record OnlyMetIsNeeded : Type 0 where
  pub terms : (file : FileShapes)
      → IsClosedFile file
      → (m : Map) (g h : Shapes) (M : TermTree) (s : Shape)
      → CarriesMet m g h (met_in_term zero [] M)
      → IsFormedTerm file g M s
      → IsFormedTerm file h (rename_term m M) (fill_shape (renaming_of m) s)
  pub heads : (file : FileShapes)
      → IsClosedFile file
      → (m : Map) (g h : Shapes) (M : TermTree) (s : Shape)
      → CarriesMet m g h (met_in_term zero [] M)
      → IsFormedNeutral file g M s
      → IsFormedNeutral file h (rename_term m M) (fill_shape (renaming_of m) s)

-- The variable is a term of the context.
abbrev pub HasEntry : Shapes → ℕ → Type 0
HasEntry g n = (s : Shape) × HasShape g n s

pub record WhatOccursHasAnEntry : Type 0 where
  pub terms : (file : FileShapes) (g : Shapes) (M : TermTree) (s : Shape)
      → IsFormedTerm file g M s
      → All (λ (o : Occurrence). HasEntry g o.variable) (met_in_term zero [] M)
  pub heads : (file : FileShapes) (g : Shapes) (M : TermTree) (s : Shape)
      → IsFormedNeutral file g M s
      → All (λ (o : Occurrence). HasEntry g o.variable) (met_in_term zero [] M)
