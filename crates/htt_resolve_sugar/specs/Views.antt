-- What is put into a body, as definitions speak of it, and its sizes.
use Rattle.std.specs.Prelude.{◌≡◌, ℕ, suc, ◌+◌, ◌<◌, ◌≤◌, ◌⊎◌, List, ◌∷◌, map, reverse, Option, Some, None, option_map}
use Rattle.htt_syntax.specs.Trees.{MonoTree, TermTree, t_ann, y_mono}
use Rattle.htt_syntax.specs.Views.{mono_tree, term_tree}
use Rattle.theory_text_sugar.specs.Putting as putting
use Rattle.htt_syntax_measure.specs.Measures.{mono_measure, term_measure}
use Rattle.htt_resolve_sugar.specs.declared.puts.Put.{Put}
use Rattle.htt_resolve_sugar.specs.declared.puts.Put.TheVariants as puts
use Rattle.htt_resolve_sugar.specs.declared.measure.PutSize.{PutSize}
use Rattle.htt_resolve_sugar.specs.declared.measure.PutSize.TheVariants as sizes

abbrev pub put_tree : Put → putting.Put
put_tree (puts.Mono t) = putting.put_mono (mono_tree t)
put_tree (puts.Term M) = putting.put_term (term_tree M)
put_tree (puts.Heap h) = putting.put_heap h

-- the code keeps the innermost one last
unfoldable pub puts_tree : List Put → List putting.Put
puts_tree all = reverse (map put_tree all)

-- an argument, with the monotype of its parameter, behind what is put before
abbrev pub with_argument : List putting.Put → MonoTree → TermTree → List putting.Put
with_argument before t M = putting.put_term (t_ann M (y_mono (putting.put_into_mono before t))) ∷ before

abbrev pub put_size : putting.Put → PutSize
put_size (putting.put_mono t) = sizes.Mono (mono_measure t)
put_size (putting.put_term M) = sizes.Term (term_measure M)
put_size (putting.put_heap h) = sizes.Heap

-- these are the sizes of what is put, the innermost one last
unfoldable pub Measures : List PutSize → List putting.Put → Type 0
Measures all put = map put_size put ≡ reverse all

abbrev pub IsMeasured : Option PutSize → Option putting.Put → Type 0
IsMeasured size put = option_map put_size put ≡ size

-- The place in a list of so many, of which the last one stands for the innermost free variable, that the variable of
-- this index has under so many binders; it has none where it is a variable of theirs or past the list.
abbrev pub IsPlace : ℕ → ℕ → ℕ → Option ℕ → Type 0
IsPlace count index depth None = (index < depth) ⊎ (count + depth ≤ index)
IsPlace count index depth (Some place) = (depth ≤ index) × (suc (place + index) ≡ count + depth)
