-- The emitted code of a term ends with the term's value in its place, and keeps all places below.
use Rattle.std.specs.Prelude.{◌≡◌, ◌≤◌, ℕ, List, length, map, Some, slice_get}
use Rattle.htt_syntax.specs.Trees.{MonoTree, TermTree}
use Rattle.theory_values.specs.Values.{Value, HasType}
use Rattle.word_loader_code.specs.declared.code.Function.{Function}
use Rattle.theory_flat.specs.Reading.{value_in}
use Rattle.theory_emission.specs.Terms.{Held, emit_term, emit_terms}
use Rattle.theory_emitted_words.specs.Frames.{FrameSite, InstrsAt}
use Rattle.theory_emitted_terms.specs.Layouts.{HasLayout}
use Rattle.theory_flat_typed.specs.Typed.{HasMonotype, HaveMonotypes}
use Rattle.theory_emitted_terms.specs.Held.{ValuesAt, Brings, BringsAll}

pub record TermsAreEmitted : Type 0 where
  -- a value of a monotype is laid out so
  pub typed : (v : Value) (mono : MonoTree) → HasType v mono → HasLayout v mono
  pub terms : (a : FrameSite) (f : Function) (g : List Held) (vs : List Value) (monos : List MonoTree)
      (term : TermTree) (mono : MonoTree) (at : ℕ) (locals : List ℕ) (next : ℕ)
      → slice_get a.code.functions a.number ≡ Some f
      → HasMonotype monos term mono
      → ValuesAt locals next g vs monos
      → InstrsAt f.body at (emit_term g next term).instrs
      → (emit_term g next term).next ≤ length locals
      → Brings a at locals next (emit_term g next term) (value_in vs term) mono
  pub lists : (a : FrameSite) (f : Function) (g : List Held) (vs : List Value) (monos : List MonoTree)
      (terms : List TermTree) (params : List MonoTree) (at : ℕ) (locals : List ℕ) (next : ℕ)
      → slice_get a.code.functions a.number ≡ Some f
      → HaveMonotypes monos terms params
      → ValuesAt locals next g vs monos
      → InstrsAt f.body at (emit_terms g next terms).instrs
      → (emit_terms g next terms).next ≤ length locals
      → BringsAll a at locals next (emit_terms g next terms) (map (value_in vs) terms) params
