-- Arguments as further entries, and what stands around the formulas of a sequent.
use Rattle.std.specs.Prelude.{◌≡◌, List, [], ◌∷◌}
use Rattle.htt_syntax.specs.Trees.{ArgTree, a_heap, a_term}
use Rattle.theory_canonical.specs.Skeletons.{sk_o}
use Rattle.theory_canonical.specs.Contexts.{Standing, as_heap, as_term}
use Rattle.theory_typing.specs.Contexts.{Context, Environment}
use Rattle.theory_typing_canonical.specs.Environments.{heads_of, IsCanonicalContext}
use Rattle.theory_denotation.specs.Valuations.{ValuationEntry, den_heap, den_term, Valuation, entry_at, heap_in}
use Rattle.theory_denotation.specs.Valuations.{HeadEntries}
use Rattle.theory_denotation.specs.Denotation.{term_den}
use Rattle.theory_denotation.specs.Valued.{HeadsValued}
use Rattle.theory_items_sound.specs.Environments.{SoundEnvironment}
use Rattle.theory_denotation_shapes.specs.Shapes.{ContextShaped}

-- What an argument stands for, and what it denotes.
abbrev pub standing_of_arg : ArgTree → Standing
standing_of_arg (a_heap heap) = as_heap
standing_of_arg (a_term term) = as_term sk_o

abbrev pub entry_of_arg : HeadEntries → Valuation → ArgTree → ValuationEntry
entry_of_arg e w (a_heap heap) = den_heap (heap_in w heap)
entry_of_arg e w (a_term term) = den_term sk_o (term_den e w term sk_o)

-- A context and a valuation with the arguments as further entries, the last of them innermost. The
-- arguments denote what they do in the valuation w.
abbrev pub with_args : List ArgTree → List Standing → List Standing
with_args [] g = g
with_args (argument ∷ others) g = with_args others (standing_of_arg argument ∷ g)

abbrev pub with_entries : HeadEntries → Valuation → List ArgTree → Valuation → Valuation
with_entries e w [] inner = inner
with_entries e w (argument ∷ others) inner = with_entries e w others (entry_of_arg e w argument ∷ inner)

-- Each heap among the arguments is one in the valuation.
abbrev pub AreHeapsIn : Valuation → List ArgTree → Type 0
AreHeapsIn w [] = Unit {0}
AreHeapsIn w (a_heap heap ∷ others) = (entry_at w heap ≡ den_heap (heap_in w heap)) × AreHeapsIn w others
AreHeapsIn w (a_term term ∷ others) = AreHeapsIn w others

-- A sound environment whose heads denote at their skeletons, and a canonical context with a valuation in
-- its shape.
pub record Setting (env : Environment) (e : HeadEntries) (g : Context) (w : Valuation) : Type 0 where
  pub environment : SoundEnvironment env
  pub heads : HeadsValued (heads_of env) e
  pub context : IsCanonicalContext (heads_of env) g
  pub valuation : ContextShaped g w
