-- Where values stand in locals, and what instructions that bring a value to a place leave.
use Rattle.std.specs.Prelude.{◌≡◌, ◌≤◌, ℕ, ◌+◌, List, [], ◌∷◌, ◌++◌, length, take}
use Rattle.htt_syntax.specs.Trees.{MonoTree}
use Rattle.theory_values.specs.Values.{Value, width, encoding}
use Rattle.word_loader_code.specs.Machine.{words_at}
use Rattle.theory_emission.specs.Terms.{Held, Emitted, EmittedTerms, width_of_parts}
use Rattle.theory_emission.specs.Bodies.{width_of_monos}
use Rattle.theory_emitted_words.specs.Frames.{FrameSite, machine_at, Leads}
use Rattle.theory_emitted_terms.specs.Layouts.{HasLayout, HaveLayouts, encodings}

-- A value of the monotype stands at a place, below the next free local.
pub record ValueAt (locals : List ℕ) (next place : ℕ) (v : Value) (mono : MonoTree) : Type 0 where
  pub layout : HasLayout v mono
  pub words : words_at locals place (width mono) ≡ encoding v
  pub below : place + width mono ≤ next

-- Each variable is held with its monotype, and its value stands there.
pub data ValuesAt (locals : List ℕ) (next : ℕ) : List Held → List Value → List MonoTree → Type 0 where
  values_none : ValuesAt locals next [] [] []
  values_more : {held : Held} {v : Value} {mono : MonoTree} {g : List Held} {vs : List Value} {monos : List MonoTree}
      → held.mono ≡ mono
      → ValueAt locals next held.place v mono
      → ValuesAt locals next g vs monos
      → ValuesAt locals next (held ∷ g) (v ∷ vs) (mono ∷ monos)

-- The words of each part stand at its place, and together they are these.
pub data PartsAt (locals : List ℕ) (next : ℕ) : List (ℕ × ℕ) → List ℕ → Type 0 where
  parts_none : PartsAt locals next [] []
  parts_more : {part : ℕ × ℕ} {words : List ℕ} {parts : List (ℕ × ℕ)} {others : List ℕ}
      → words_at locals (part.0) (part.1) ≡ words
      → length words ≡ part.1
      → part.0 + part.1 ≤ next
      → PartsAt locals next parts others
      → PartsAt locals next (part ∷ parts) (words ++ others)

-- The frame goes on at another place with other locals, as many, that agree with the old ones below the next
-- free local.
pub record Goes (a : FrameSite) (at : ℕ) (locals : List ℕ) (next end : ℕ) (after : List ℕ) : Type 0 where
  pub leads : Leads a.code (machine_at a at locals) (machine_at a end after)
  pub keeps : take next after ≡ take next locals
  pub long : length after ≡ length locals

-- From the first instruction the frame goes on behind the last one, with the value at the place.
pub record Brings (a : FrameSite) (at : ℕ) (locals : List ℕ) (next : ℕ) (e : Emitted) (v : Value)
    (mono : MonoTree) : Type 0 where
  pub after : List ℕ
  pub goes : Goes a at locals next (at + length e.instrs) after
  pub holds : ValueAt after e.next e.place v mono
  pub grows : next ≤ e.next

pub record BringsAll (a : FrameSite) (at : ℕ) (locals : List ℕ) (next : ℕ) (e : EmittedTerms) (vs : List Value)
    (monos : List MonoTree) : Type 0 where
  pub after : List ℕ
  pub goes : Goes a at locals next (at + length e.instrs) after
  pub layouts : HaveLayouts vs monos
  pub parts : PartsAt after e.next e.parts (encodings vs)
  pub widths : width_of_parts e.parts ≡ width_of_monos monos
  pub grows : next ≤ e.next
