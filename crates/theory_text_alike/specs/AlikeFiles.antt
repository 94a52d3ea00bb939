-- Declarations of two texts that differ in bound names alone: they declare the same names, in the same order.
use Rattle.std.specs.Prelude.{◌≡◌, ℕ, List, [], ◌∷◌, ◌++◌, length, map, Option, Some, None, Ok}
use Rattle.theory_items.specs.Items.{i_abbreviation, i_pred, i_def, i_val, i_rec}
use Rattle.theory_typing.specs.Positions.{plain_ty, plain_term, plain_formula}
use Rattle.htt_parser_trees.specs.declared.place.Span.{Span}
use Rattle.htt_parser_trees.specs.declared.place.Binder.{Binder}
use Rattle.htt_parser_trees.specs.Trees as raw
use Rattle.theory_text_names.specs.Scopes.{a_term, Meaning, means_mono, means_pred, means_rec, means_def, means_val}
use Rattle.theory_text_names.specs.Scopes.{Declared, Names, Scope, bytes_of, with_local, under, under_mem, at_top}
use Rattle.theory_text_items.specs.Items.{FileItem, an_item, a_proof, Row, Resolved}
use Rattle.theory_text_items.specs.Declarations.{under_monos, under_params, behind_itself, declaration_comes}
use Rattle.theory_text_alike.specs.Alike.{plain_pred, AlikeTy, AlikeTerm, AlikeFormula, AlikeMono}

-- ---- without positions

abbrev pub plain_item : FileItem → FileItem
plain_item (an_item (i_abbreviation t)) = an_item (i_abbreviation t)
plain_item (an_item (i_pred monos params body)) = an_item (i_pred monos params (plain_formula body))
plain_item (an_item (i_def ty term)) = an_item (i_def (plain_ty ty) (plain_term term))
plain_item (an_item (i_val ty term)) = an_item (i_val (plain_ty ty) (plain_term term))
plain_item (an_item (i_rec r)) =
    an_item (i_rec (record { params = r.params; at_zero = plain_formula r.at_zero; at_next = plain_formula r.at_next }))
plain_item (a_proof target number) = a_proof target number

abbrev pub plain_meaning : Meaning → Meaning
plain_meaning (means_pred p) = means_pred (plain_pred p)
plain_meaning (means_mono t) = means_mono t
plain_meaning (means_rec number params) = means_rec number params
plain_meaning (means_def number) = means_def number
plain_meaning (means_val number) = means_val number

abbrev pub plain_declared : Option Declared → Option Declared
plain_declared None = None
plain_declared (Some d) = Some (record { name = d.name; meaning = plain_meaning d.meaning })

abbrev pub plain_row : Row → Row
plain_row row = record { item = plain_item row.item; declares = plain_declared row.declares }

abbrev pub plain_file : Resolved → Resolved
plain_file file = record { items = map plain_item file.items; names = map plain_declared file.names }

-- ---- declarations

-- monotypes of parameters, each under those before it, which have no names there; and closed ones
pub data AlikeParamMonos : Scope → Scope → List raw.RawMonoParamTree → List raw.RawMonoParamTree → Type 0 where
  alike_no_param_monos : {s s' : Scope} → AlikeParamMonos s s' [] []
  alike_more_param_monos : {s s' : Scope} {x x' : Span} {mono mono' : raw.RawMonoTree}
      {params params' : List raw.RawMonoParamTree}
      → AlikeMono s s' mono mono'
      → AlikeParamMonos (with_local None a_term s) (with_local None a_term s') params params'
      → AlikeParamMonos s s' (raw.mono_param x mono ∷ params) (raw.mono_param x' mono' ∷ params')

pub data AlikeClosedMonos : Scope → Scope → List raw.RawMonoParamTree → List raw.RawMonoParamTree → Type 0 where
  alike_no_closed_monos : {s s' : Scope} → AlikeClosedMonos s s' [] []
  alike_more_closed_monos : {s s' : Scope} {x x' : Span} {mono mono' : raw.RawMonoTree}
      {params params' : List raw.RawMonoParamTree}
      → AlikeMono s s' mono mono'
      → AlikeClosedMonos s s' params params'
      → AlikeClosedMonos s s' (raw.mono_param x mono ∷ params) (raw.mono_param x' mono' ∷ params')

abbrev pub SameName : Scope → Scope → Span → Span → Type 0
SameName s s' x x' = bytes_of s.text x ≡ bytes_of s'.text x'

pub data AlikeDecl (s s' : Scope) : raw.RawDeclTree → raw.RawDeclTree → Type 0 where
  alike_decl_type : {x x' : Span} {mono mono' : raw.RawMonoTree}
      → SameName s s' x x'
      → AlikeMono s s' mono mono'
      → AlikeDecl s s' (raw.decl_type x mono) (raw.decl_type x' mono')
  alike_decl_pred : {x x' : Span} {monos monos' : List Span} {params params' : List raw.RawMonoParamTree}
      {body body' : raw.RawFormulaTree}
      → SameName s s' x x'
      → length monos ≡ length monos'
      → AlikeParamMonos (under_monos s monos) (under_monos s' monos') params params'
      → AlikeFormula (under_mem (under_params (under_monos s monos) params))
      (under_mem (under_params (under_monos s' monos') params')) body body'
      → AlikeDecl s s' (raw.decl_pred x monos params body) (raw.decl_pred x' monos' params' body')
  alike_decl_induct : {x x' : Span} {b b' : Binder} {params params' : List raw.RawMonoParamTree}
      {at_zero at_zero' at_next at_next' : raw.RawFormulaTree}
      → SameName s s' x x'
      → AlikeClosedMonos s s' params params'
      → AlikeFormula (under_mem (under_params s params)) (under_mem (under_params s' params')) at_zero at_zero'
      → AlikeFormula (under_mem (under_params (under (behind_itself s (bytes_of s.text x) params) b a_term) params))
      (under_mem (under_params (under (behind_itself s' (bytes_of s'.text x') params') b' a_term) params')) at_next
      at_next'
      → AlikeDecl s s' (raw.decl_induct x b params at_zero at_next) (raw.decl_induct x' b' params' at_zero' at_next')
  alike_decl_def : {x x' : Span} {ty ty' : raw.RawTyTree} {term term' : raw.RawTermTree}
      → SameName s s' x x'
      → AlikeTy s s' ty ty'
      → AlikeTerm s s' term term'
      → AlikeDecl s s' (raw.decl_def x ty term) (raw.decl_def x' ty' term')
  alike_decl_val : {x x' : Span} {ty ty' : raw.RawTyTree} {term term' : raw.RawTermTree}
      → SameName s s' x x'
      → AlikeTy s s' ty ty'
      → AlikeTerm s s' term term'
      → AlikeDecl s s' (raw.decl_val x ty term) (raw.decl_val x' ty' term')
  -- the names in a proof are looked up elsewhere
  alike_decl_proof : {at at' : ℕ} {x x' : Span} {number : ℕ} {body body' : raw.RawBodyTree}
      → SameName s s' x x'
      → AlikeDecl s s' (raw.decl_proof at x number body) (raw.decl_proof at' x' number body')

-- declarations of two files, behind these names; where both stand for something, the others are behind what they
-- declare
pub data AlikeDecls (file file' : List raw.RawDeclTree) (text text' : List ℕ) : Names → Names → List raw.RawDeclTree
    → List raw.RawDeclTree → Type 0 where
  alike_no_decls : {names names' : Names} → AlikeDecls file file' text text' names names' [] []
  alike_more_decls : {names names' : Names} {d d' : raw.RawDeclTree} {ds ds' : List raw.RawDeclTree}
      → AlikeDecl (at_top text names) (at_top text' names') d d'
      → ((row row' : Row) → declaration_comes file (at_top text names) d ≡ Ok row →
      declaration_comes file' (at_top text' names') d' ≡ Ok row' →
      AlikeDecls file file' text text' (names ++ row.declares ∷ []) (names' ++ row'.declares ∷ []) ds ds')
      → AlikeDecls file file' text text' names names' (d ∷ ds) (d' ∷ ds')
