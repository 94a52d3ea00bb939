-- The items of a file are sorted, and so is what its names stand for.
use Rattle.std.specs.Prelude.{◌≡◌, ℕ, suc, List, [], ◌∷◌, ◌++◌, length, Option, Some, None}
use Rattle.std.proofs.Common.{refl, sym, ap, subst, ◌∙◌}
use Rattle.htt_syntax.specs.Trees.{MonoTree, FormulaTree}
use Rattle.htt_parser_trees.specs.declared.place.Span.{Span}
use Rattle.htt_parser_trees.specs.declared.place.Binder.{Binder}
use Rattle.htt_parser_trees.specs.Trees as raw
use Rattle.htt_parser_trees.specs.Trees.{RawMonoParamTree, mono_param, RawDeclTree, decl_type, decl_pred, decl_induct, decl_def, decl_val, decl_proof}
use Rattle.theory_text_names.specs.Scopes.{a_mono, a_term, the_mem, Declared, Names, Scope, with_local, under, under_name, under_mem, at_top}
use Rattle.theory_text_items.specs.Declarations.{itself, behind_itself, under_monos, under_params, params_come, closed_params_come, declaration_comes}
use Rattle.theory_text_items.specs.Declarations.{declarations_come}
use Rattle.theory_text.specs.Phrases.{formula_comes}
use Rattle.theory_text_scoped.specs.Sorted.{SortedMono, SortedFormula}
use Rattle.theory_text_scoped.specs.Scopes.{sorts_in, under_monotypes, under_parameters, SortedParams, SortedPred, SortedDeclared, SortedNames, IsSortedScope}
use Rattle.theory_text_scoped.specs.Items.{AreClosed, SortedItem, AreSortedItems}
use Rattle.theory_text_scoped.proofs.Binding.{Gives, gives, but, if_bind, any_ok}
use Rattle.theory_text_scoped.proofs.Named.{under_fits, under_mem_fits, mono_sorted}
use Rattle.theory_text_scoped.proofs.Phrases.{ty_sorted, term_sorted, formula_sorted}

monos_fit : (s : Scope) (monos : List Span) → IsSortedScope s → IsSortedScope (under_monos s monos)
unfolding under_monos
monos_fit s [] fits = fits
monos_fit s (a ∷ others) fits = monos_fit (under_name s a a_mono) others (under_fits a_mono fits)

params_fit : (s : Scope) (params : List RawMonoParamTree) → IsSortedScope s → IsSortedScope (under_params s params)
unfolding under_params
params_fit s [] fits = fits
params_fit s (mono_param x mono ∷ others) fits = params_fit (under_name s x a_term) others (under_fits a_term fits)

monos_sorts : (s : Scope) (monos : List Span) → sorts_in (under_monos s monos).locals ≡ under_monotypes (length monos) (sorts_in s.locals)
unfolding under_monos under_monotypes sorts_in
monos_sorts s [] = refl
monos_sorts s (a ∷ others) = monos_sorts (under_name s a a_mono) others

params_sorts : (s : Scope) (params : List RawMonoParamTree) → sorts_in (under_params s params).locals ≡ under_parameters (length params) (sorts_in s.locals)
unfolding under_params under_parameters sorts_in
params_sorts s [] = refl
params_sorts s (mono_param x mono ∷ others) = params_sorts (under_name s x a_term) others

params_sorted : (s : Scope)
    → IsSortedScope s
    → (params : List RawMonoParamTree)
    → Gives (params_come s params) (λ ts. SortedParams (sorts_in s.locals) ts × (length ts ≡ length params))
unfolding params_come SortedParams sorts_in
params_sorted s fits [] = gives (tt, refl)
params_sorted s fits (mono_param x mono ∷ others) =
    if_bind (mono_sorted s fits mono)
    (λ t h. if_bind (params_sorted (with_local None a_term s) (under_fits a_term fits) others) (λ ts k. gives ((h, k.0), ap suc k.1)))

closed_sorted : (s : Scope)
    → IsSortedScope s
    → sorts_in s.locals ≡ []
    → (params : List RawMonoParamTree)
    → Gives (closed_params_come s params) (λ ts. AreClosed ts × (length ts ≡ length params))
unfolding closed_params_come AreClosed
closed_sorted s fits e [] = gives (tt, refl)
closed_sorted s fits e (mono_param x mono ∷ others) =
    if_bind (mono_sorted s fits mono)
    (λ t h. if_bind (closed_sorted s fits e others) (λ ts k. gives ((subst (λ g. SortedMono g t) e h, k.0), ap suc k.1)))

pub with_declared : (names : Names) (d : Option Declared) → SortedNames names → SortedDeclared d → SortedNames (names ++ d ∷ [])
unfolding SortedNames
with_declared [] d h k = (k, tt)
with_declared (first ∷ others) d h k = (h.0, with_declared others d h.1 k)

top_fits : (text : List ℕ) (names : Names) → SortedNames names → IsSortedScope (at_top text names)
top_fits text names h = record { names = h; current = tt }

pred_is : (s : Scope) (monos : List Span) (params : List RawMonoParamTree) (ts : List MonoTree) (F : FormulaTree)
    → SortedParams (sorts_in (under_monos (at_top s.text s.names) monos).locals) ts × (length ts ≡ length params)
    → SortedFormula (sorts_in (under_mem (under_params (under_monos (at_top s.text s.names) monos) params)).locals) F
    → SortedPred (record { monos = length monos; params = ts; body = F })
unfolding sorts_in
pred_is s monos params ts F hts hF =
    let top : Scope = at_top s.text s.names in
    let outer : sorts_in (under_monos top monos).locals ≡ under_monotypes (length monos) [] = monos_sorts top monos in
    let inner : sorts_in (under_params (under_monos top monos) params).locals
    ≡ under_parameters (length ts) (under_monotypes (length monos) []) =
    params_sorts (under_monos top monos) params ∙ (λ j. under_parameters (sym hts.1 j) (outer j)) in
    record { params = subst (λ g. SortedParams g ts) outer hts.0; body = subst (λ g. SortedFormula (the_mem ∷ g) F) inner hF }

at_empty : (text : List ℕ) (names : Names) → sorts_in (at_top text names).locals ≡ []
unfolding sorts_in
at_empty text names = refl

-- the second body of a recursive predicate
next_sorted : (inner : Scope)
    → IsSortedScope inner
    → sorts_in inner.locals ≡ []
    → (index : Binder) (params : List RawMonoParamTree) (n : ℕ)
    → length params ≡ n
    → (at_next : raw.RawFormulaTree)
    → Gives (formula_comes (under_mem (under_params (under inner index a_term) params)) at_next)
    (SortedFormula (the_mem ∷ under_parameters n (a_term ∷ [])))
unfolding sorts_in
next_sorted inner inside closed index params n e at_next =
    let s : Scope = under inner index a_term in
    let around : sorts_in (under_params s params).locals ≡ under_parameters n (a_term ∷ []) =
    params_sorts s params ∙ (λ j. under_parameters (e j) (a_term ∷ closed j)) in
    but (formula_sorted (under_mem (under_params s params)) (under_mem_fits (params_fit s params (under_fits a_term inside))) at_next)
    (λ G hG. subst (λ g. SortedFormula (the_mem ∷ g) G) around hG)

row_sorted : (file : List RawDeclTree) (text : List ℕ) (names : Names)
    → SortedNames names
    → (d : RawDeclTree)
    → Gives (declaration_comes file (at_top text names) d) (λ row. SortedItem row.item × SortedDeclared row.declares)
unfolding sorts_in
row_sorted file text names h (decl_type name mono) =
    if_bind (any_ok _) (λ x hx. if_bind (mono_sorted (at_top text names) (top_fits text names h) mono) (λ t ht. gives (ht, ht)))
row_sorted file text names h (decl_pred name monos params body) =
    let s : Scope = at_top text names in
    let inner : IsSortedScope (under_monos s monos) = monos_fit s monos (top_fits text names h) in
    if_bind (any_ok _) (λ x hx.
    if_bind (params_sorted (under_monos s monos) inner params) (λ ts hts.
    if_bind (formula_sorted (under_mem (under_params (under_monos s monos) params))
    (under_mem_fits (params_fit (under_monos s monos) params inner)) body) (λ F hF.
    let p = pred_is s monos params ts F hts hF in gives (p, p))))
row_sorted file text names h (decl_induct name index params at_zero at_next) =
    let s : Scope = at_top text names in
    let fits : IsSortedScope s = top_fits text names h in
    if_bind (any_ok _) (λ x hx.
    if_bind (closed_sorted s fits refl params) (λ ts hts.
    if_bind (formula_sorted (under_mem (under_params s params)) (under_mem_fits (params_fit s params fits)) at_zero) (λ F hF.
    let known : SortedNames (names ++ Some (record { name = x; meaning = itself s params }) ∷ []) =
    with_declared names (Some (record { name = x; meaning = itself s params })) h tt in
    if_bind (next_sorted (behind_itself s x params)
    (top_fits text (names ++ Some (record { name = x; meaning = itself s params }) ∷ []) known) refl index params (length ts) (sym hts.1)
    at_next) (λ G hG.
    gives (
      record {
        params = hts.0;
        at_zero = subst (λ g. SortedFormula (the_mem ∷ g) F) (params_sorts s params ∙ ap (λ n. under_parameters n []) (sym hts.1)) hF;
        at_next = hG;
      },
      tt,
    )))))
row_sorted file text names h (decl_def name ty term) =
    if_bind (any_ok _) (λ x hx.
    if_bind (ty_sorted (at_top text names) (top_fits text names h) ty)
    (λ A hA. if_bind (term_sorted (at_top text names) (top_fits text names h) term) (λ M hM. gives ((hA, hM), tt))))
row_sorted file text names h (decl_val name ty term) =
    if_bind (any_ok _) (λ x hx.
    if_bind (ty_sorted (at_top text names) (top_fits text names h) ty)
    (λ A hA. if_bind (term_sorted (at_top text names) (top_fits text names h) term) (λ M hM. gives ((hA, hM), tt))))
row_sorted file text names h (decl_proof at name number body) = gives (tt, tt)

pub rows_sorted : (file : List RawDeclTree) (text : List ℕ) (names : Names)
    → SortedNames names
    → (ds : List RawDeclTree)
    → Gives (declarations_come file text names ds) (λ r. AreSortedItems r.items × SortedNames r.names)
unfolding declarations_come AreSortedItems
rows_sorted file text names h [] = gives (tt, h)
rows_sorted file text names h (d ∷ ds) =
    if_bind (row_sorted file text names h d) (λ row k.
    if_bind (rows_sorted file text (names ++ row.declares ∷ []) (with_declared names row.declares h k.1) ds)
    (λ others l. gives ((k.0, l.0), l.1)))
