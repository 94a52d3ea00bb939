-- What declarations stand for, each behind those before it, or the first event that stops them.
use Rattle.std.specs.Prelude.{ℕ, zero, suc, Bool, true, false, not, ◌&&◌, if◌then◌else◌, List, [], ◌∷◌, ◌++◌, length}
use Rattle.std.specs.Prelude.{count_by, Option, Some, None, option_map, is_none, Result, Ok, Err, bytes_eq}
use Rattle.htt_syntax.specs.Trees.{MonoTree}
use Rattle.theory_items.specs.Items.{ItemTree, i_abbreviation, i_pred, i_def, i_val, i_rec}
use Rattle.htt_parser_trees.specs.declared.place.Span.{Span}
use Rattle.htt_parser_trees.specs.Trees.{RawMonoParamTree, mono_param, RawDeclTree, decl_type, decl_pred, decl_induct}
use Rattle.htt_parser_trees.specs.Trees.{decl_def, decl_val, decl_proof}
use Rattle.theory_text_names.specs.Stops.{Stop, duplicate, ◌>>=◌}
use Rattle.theory_text_names.specs.Scopes.{a_mono, a_term, Meaning, means_mono, means_pred, means_rec, means_def}
use Rattle.theory_text_names.specs.Scopes.{means_val, Declared, Names, Scope, bytes_of, is_reserved, with_local, under}
use Rattle.theory_text_names.specs.Scopes.{under_name, under_mem, at_top}
use Rattle.theory_text_names.specs.Uses.{declared_use}
use Rattle.theory_text.specs.Monotypes.{mono_comes}
use Rattle.theory_text.specs.Phrases.{ty_comes, term_comes, formula_comes}
use Rattle.theory_text_items.specs.Items.{an_item, a_proof, Row, Resolved}

-- ---- names that may be declared

abbrev pub may_be_declared : Names → List ℕ → Bool
may_be_declared names name = not (is_reserved name) && is_none (declared_use name names)

abbrev pub new_name : Scope → Span → Result (List ℕ) Stop
new_name s span =
    if may_be_declared s.names (bytes_of s.text span) then Ok (bytes_of s.text span) else Err (duplicate span.from)

abbrev pub row : ItemTree → List ℕ → Meaning → Row
row item name meaning = record { item = an_item item; declares = Some (record { name = name; meaning = meaning }) }

-- ---- numbers of definitions, values and recursive predicates, each from 0

abbrev pub a_definition : Meaning → Bool
a_definition (means_def number) = true
a_definition _ = false

abbrev pub a_value : Meaning → Bool
a_value (means_val number) = true
a_value _ = false

abbrev pub a_recursion : Meaning → Bool
a_recursion (means_rec number params) = true
a_recursion _ = false

-- how many of these names are such
abbrev pub declares_such : (Meaning → Bool) → Option Declared → Bool
declares_such such (Some d) = such d.meaning
declares_such such None = false

abbrev pub how_many : (Meaning → Bool) → Names → ℕ
how_many such names = count_by (declares_such such) names

-- ---- parameters of predicates

unfoldable pub under_monos : Scope → List Span → Scope
under_monos s [] = s
under_monos s (a ∷ others) = under_monos (under_name s a a_mono) others

unfoldable pub under_params : Scope → List RawMonoParamTree → Scope
under_params s [] = s
under_params s (mono_param x mono ∷ others) = under_params (under_name s x a_term) others

-- each monotype is under the parameters before it, whose names it doesn't see
unfoldable pub params_come : Scope → List RawMonoParamTree → Result (List MonoTree) Stop
params_come s [] = Ok []
params_come s (mono_param x mono ∷ others) = do
  t ← mono_comes s mono
  ts ← params_come (with_local None a_term s) others
  Ok (t ∷ ts)

-- those of a recursive predicate are closed
unfoldable pub closed_params_come : Scope → List RawMonoParamTree → Result (List MonoTree) Stop
closed_params_come s [] = Ok []
closed_params_come s (mono_param x mono ∷ others) = do
  t ← mono_comes s mono
  ts ← closed_params_come s others
  Ok (t ∷ ts)

-- ---- recursive predicates

-- what a recursive predicate is by its name: its number among them, and the count of its parameters
abbrev pub itself : Scope → List RawMonoParamTree → Meaning
itself s params = means_rec (how_many a_recursion s.names) (length params)

-- the top of a file behind a recursive predicate of this name
abbrev pub behind_itself : Scope → List ℕ → List RawMonoParamTree → Scope
behind_itself s x params = at_top s.text (s.names ++ Some (record { name = x; meaning = itself s params }) ∷ [])

-- ---- the item that a proof is for

abbrev pub declared_name : List ℕ → RawDeclTree → Option (List ℕ)
declared_name text (decl_type name mono) = Some (bytes_of text name)
declared_name text (decl_pred name monos params body) = Some (bytes_of text name)
declared_name text (decl_induct name b params at_zero at_next) = Some (bytes_of text name)
declared_name text (decl_def name ty term) = Some (bytes_of text name)
declared_name text (decl_val name ty term) = Some (bytes_of text name)
declared_name text (decl_proof at name number body) = None

abbrev pub has_name : List ℕ → Option (List ℕ) → Bool
has_name name (Some other) = bytes_eq other name
has_name name None = false

unfoldable pub item_named : List ℕ → List ℕ → List RawDeclTree → Option ℕ
item_named text name [] = None
item_named text name (d ∷ ds) =
    if has_name name (declared_name text d) then Some zero else option_map suc (item_named text name ds)

-- ---- declarations

-- a declaration at the top of a file with these declarations
abbrev pub declaration_comes : List RawDeclTree → Scope → RawDeclTree → Result Row Stop
declaration_comes file s (decl_type name mono) = do
  x ← new_name s name
  t ← mono_comes s mono
  Ok (row (i_abbreviation t) x (means_mono t))
declaration_comes file s (decl_pred name monos params body) = do
  x ← new_name s name
  ts ← params_come (under_monos s monos) params
  F ← formula_comes (under_mem (under_params (under_monos s monos) params)) body
  Ok (row (i_pred (length monos) ts F) x (means_pred (record { monos = length monos; params = ts; body = F })))
-- its second body sees the predicate itself
declaration_comes file s (decl_induct name index params at_zero at_next) = do
  x ← new_name s name
  ts ← closed_params_come s params
  F ← formula_comes (under_mem (under_params s params)) at_zero
  G ← formula_comes (under_mem (under_params (under (behind_itself s x params) index a_term) params)) at_next
  Ok (row (i_rec (record { params = ts; at_zero = F; at_next = G })) x (itself s params))
declaration_comes file s (decl_def name ty term) = do
  x ← new_name s name
  A ← ty_comes s ty
  M ← term_comes s term
  Ok (row (i_def A M) x (means_def (how_many a_definition s.names)))
declaration_comes file s (decl_val name ty term) = do
  x ← new_name s name
  A ← ty_comes s ty
  M ← term_comes s term
  Ok (row (i_val A M) x (means_val (how_many a_value s.names)))
-- the name of a proof isn't looked up here, and neither are the names in it
declaration_comes file s (decl_proof at name number body) =
    Ok (record { item = a_proof (item_named s.text (bytes_of s.text name) file) number; declares = None })

-- declarations of a file behind these names
unfoldable pub declarations_come : List RawDeclTree → List ℕ → Names → List RawDeclTree → Result Resolved Stop
declarations_come file text names [] = Ok (record { items = []; names = names })
declarations_come file text names (d ∷ ds) = do
  this ← declaration_comes file (at_top text names) d
  others ← declarations_come file text (names ++ this.declares ∷ []) ds
  Ok (record { items = this.item ∷ others.items; names = others.names })
