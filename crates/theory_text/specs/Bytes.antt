-- The first byte of a phrase that doesn't keep its own: that of its first part.
use Rattle.std.specs.Prelude.{ℕ}
use Rattle.htt_parser_trees.specs.declared.mono.MonoName.{MonoName}
use Rattle.htt_parser_trees.specs.declared.mono.MonoName.TheVariants as mono_names
use Rattle.htt_parser_trees.specs.Trees as raw

abbrev pub byte_of_mono_name : MonoName → ℕ
byte_of_mono_name (mono_names.Word at) = at
byte_of_mono_name (mono_names.Bool at) = at
byte_of_mono_name (mono_names.Loc at) = at
byte_of_mono_name (mono_names.Unit at) = at
byte_of_mono_name (mono_names.Name span) = span.from

abbrev pub byte_of_factor : raw.RawFactorTree → ℕ
byte_of_factor (raw.m_name name) = byte_of_mono_name name
byte_of_factor (raw.m_brackets at mono) = at

abbrev pub byte_of_mono : raw.RawMonoTree → ℕ
byte_of_mono (raw.m_factor factor) = byte_of_factor factor
byte_of_mono (raw.m_pair factor mono) = byte_of_factor factor

abbrev pub byte_of_atom : raw.RawAtomTree → ℕ
byte_of_atom (raw.a_name span) = span.from
byte_of_atom (raw.a_number at value) = at
byte_of_atom (raw.a_true at) = at
byte_of_atom (raw.a_false at) = at
byte_of_atom (raw.a_null at) = at
byte_of_atom (raw.a_place at value) = at
byte_of_atom (raw.a_eq at mono left right) = at
byte_of_atom (raw.a_sel at mono test on_true on_false) = at
byte_of_atom (raw.a_unit at) = at
byte_of_atom (raw.a_brackets at term) = at
byte_of_atom (raw.a_pair at left right) = at
byte_of_atom (raw.a_annotated at term ty) = at

abbrev pub byte_of_appl : raw.RawApplTree → ℕ
byte_of_appl (raw.l_unary at word operand) = at
byte_of_appl (raw.l_apply head parts) = byte_of_atom head

abbrev pub byte_of_prod : raw.RawProdTree → ℕ
byte_of_prod (raw.x_prod first rest) = byte_of_appl first

abbrev pub byte_of_sum : raw.RawSumTree → ℕ
byte_of_sum (raw.s_sum first rest) = byte_of_prod first

abbrev pub byte_of_rel : raw.RawRelTree → ℕ
byte_of_rel (raw.r_sum sum) = byte_of_sum sum
byte_of_rel (raw.r_less left right) = byte_of_sum left

abbrev pub byte_of_fatom : raw.RawFatomTree → ℕ
byte_of_fatom (raw.g_tt at) = at
byte_of_fatom (raw.g_ff at) = at
byte_of_fatom (raw.g_emp at) = at
byte_of_fatom (raw.g_brackets at formula) = at
byte_of_fatom (raw.g_at_heap at heap formula) = at
byte_of_fatom (raw.g_emp_of at heap) = at
byte_of_fatom (raw.g_same at left right) = at
byte_of_fatom (raw.g_join at whole left right) = at
byte_of_fatom (raw.g_cell at mono heap place value) = at
byte_of_fatom (raw.g_block at mono heap place) = at
byte_of_fatom (raw.g_use at name monos arguments) = at
byte_of_fatom (raw.g_use_at at name index arguments) = at
byte_of_fatom (raw.g_use_at_heap at name heap index arguments) = at
byte_of_fatom (raw.g_eq left mono right) = byte_of_rel left
byte_of_fatom (raw.g_points place mono value) = byte_of_rel place
byte_of_fatom (raw.g_points_any place mono) = byte_of_rel place

abbrev pub byte_of_star : raw.RawStarTree → ℕ
byte_of_star (raw.k_fatom fatom) = byte_of_fatom fatom
byte_of_star (raw.k_times fatom star) = byte_of_fatom fatom

abbrev pub byte_of_conj : raw.RawConjTree → ℕ
byte_of_conj (raw.j_star star) = byte_of_star star
byte_of_conj (raw.j_and star conj) = byte_of_star star

abbrev pub byte_of_disj : raw.RawDisjTree → ℕ
byte_of_disj (raw.d_conj conj) = byte_of_conj conj
byte_of_disj (raw.d_or conj disj) = byte_of_conj conj
