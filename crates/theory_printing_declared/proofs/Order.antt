-- What the items of a file declare is in order.
use Rattle.std.proofs.Common.{◌≡◌, ℕ, zero, suc, List, [], ◌∷◌, ◌++◌, take, Bool, true, false, not, ◌&&◌, is_none, refl, sym, subst, append_assoc, append-nil}
use Rattle.std.specs.Prelude.{if◌then◌else◌, Option, Some, None, Result, Ok, Err, IfOk}
use Rattle.htt_parser_trees.specs.declared.place.Span.{Span}
use Rattle.htt_parser_trees.specs.Trees.{RawDeclTree, decl_type, decl_pred, decl_induct, decl_def, decl_val, decl_proof}
use Rattle.theory_text_names.specs.Stops.{Stop, duplicate}
use Rattle.theory_text_names.specs.Scopes.{Declared, Names, Scope, bytes_of, is_reserved, at_top}
use Rattle.theory_text_names.specs.Uses.{Use, declared_use}
use Rattle.theory_text_items.specs.Items.{Resolved}
use Rattle.theory_text_items.specs.Declarations.{may_be_declared, new_name, declaration_comes, declarations_come}
use Rattle.theory_text_scoped.proofs.Binding.{Gives, gives, stops, if_bind, any_ok}
use Rattle.theory_text_bytes.specs.Texts.{IsText}
use Rattle.theory_printing_declared.specs.Tables.{IsNext, AreInOrder}

-- ---- a new name

not_there : (reserved : Bool) (o : Option Use) → (not reserved && is_none o) ≡ true → o ≡ None
not_there false None e = refl
not_there false (Some u) e = absurd (cc e)
not_there true o e = absurd (cc e)

by_test : (s : Scope) (span : Span) (b : Bool)
    → may_be_declared s.names (bytes_of s.text span) ≡ b
    → Gives (if b then Ok (bytes_of s.text span) else Err (duplicate span.from)) (λ x. declared_use x s.names ≡ None)
by_test s span true e = gives (not_there (is_reserved (bytes_of s.text span)) (declared_use (bytes_of s.text span) s.names) e)
by_test s span false e = stops

is_new : (s : Scope) (span : Span) → Gives (new_name s span) (λ x. declared_use x s.names ≡ None)
is_new s span = by_test s span (may_be_declared s.names (bytes_of s.text span)) refl

-- ---- declarations

row_next : (file : List RawDeclTree) (text : List ℕ) (names : Names) (d : RawDeclTree)
    → Gives (declaration_comes file (at_top text names) d) (λ row. IsNext names row.declares)
row_next file text names (decl_type name mono) = if_bind (is_new (at_top text names) name) (λ x new. if_bind (any_ok _) (λ t h. gives (new, tt)))
row_next file text names (decl_pred name monos params body) =
    if_bind (is_new (at_top text names) name) (λ x new. if_bind (any_ok _) (λ ts h. if_bind (any_ok _) (λ F k. gives (new, tt))))
row_next file text names (decl_induct name index params at_zero at_next) =
    if_bind (is_new (at_top text names) name)
    (λ x new. if_bind (any_ok _) (λ ts h. if_bind (any_ok _) (λ F k. if_bind (any_ok _) (λ G l. gives (new, refl)))))
row_next file text names (decl_def name ty term) =
    if_bind (is_new (at_top text names) name) (λ x new. if_bind (any_ok _) (λ A h. if_bind (any_ok _) (λ M k. gives (new, tt))))
row_next file text names (decl_val name ty term) =
    if_bind (is_new (at_top text names) name) (λ x new. if_bind (any_ok _) (λ A h. if_bind (any_ok _) (λ M k. gives (new, refl))))
row_next file text names (decl_proof at name number body) = gives tt

with_next : (names before : Names) (d : Option Declared) → AreInOrder before names → IsNext (before ++ names) d → AreInOrder before (names ++ d ∷ [])
unfolding AreInOrder
with_next [] before d order next = (subst (λ ns. IsNext ns d) (append-nil before) next, tt)
with_next (first ∷ names) before d order next = (
  order.0,
  with_next names (before ++ first ∷ []) d order.1 (subst (λ ns. IsNext ns d) (sym (append_assoc before (first ∷ []) names)) next),
)

rows_in_order : (file : List RawDeclTree) (text : List ℕ) (ds : List RawDeclTree) (names : Names)
    → AreInOrder [] names
    → Gives (declarations_come file text names ds) (λ r. AreInOrder [] r.names)
unfolding declarations_come
rows_in_order file text [] names order = gives order
rows_in_order file text (d ∷ ds) names order =
    if_bind (row_next file text names d) (λ row next.
    if_bind (rows_in_order file text ds (names ++ row.declares ∷ []) (with_next names [] row.declares order next)) (λ others k. gives k))

-- ---- those before a place

first_in_order : (visible : ℕ) (names before : Names) → AreInOrder before names → AreInOrder before (take visible names)
unfolding AreInOrder
first_in_order zero names before order = none names
  where
    none : (names : Names) → AreInOrder before (take zero names)
    none [] = tt
    none (d ∷ ds) = tt
first_in_order (suc visible) [] before order = tt
first_in_order (suc visible) (d ∷ ds) before order = (order.0, first_in_order visible ds (before ++ d ∷ []) order.1)

given_is : {A : Type 0} {P : A → Type 0} {r : Result A Stop} {a : A} → Gives r P → r ≡ Ok a → P a
given_is {P = P} h e = subst (λ r. IfOk r P) e h.given

nothing_before : AreInOrder [] []
unfolding AreInOrder
nothing_before = tt

pub files_in_order : (text : List ℕ) (file : Resolved) (visible : ℕ) → IsText text file → AreInOrder [] (take visible file.names)
files_in_order text file visible h =
    first_in_order visible file.names [] (given_is (rows_in_order h.decls text h.decls [] nothing_before) h.comes)
