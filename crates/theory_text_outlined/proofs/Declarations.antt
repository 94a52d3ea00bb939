-- What stops declarations, and what they declare.
use Rattle.std.proofs.Common.{◌≡◌, ℕ, suc, refl, ap, subst, arith, List, [], ◌∷◌, ◌++◌, length, Option, Some, None, ◌+◌, sym, ◌∙◌, cond}
use Rattle.std.proofs.lemmas.List.Sums.{sum_by-cons}
use Rattle.std.specs.Prelude.{not, ◌&&◌, if◌then◌else◌, is_none, Result, Ok, Err}
use Rattle.htt_syntax.specs.Trees.{MonoTree}
use Rattle.htt_parser_trees.specs.declared.place.Span.{Span}
use Rattle.htt_parser_trees.specs.Trees as raw
use Rattle.htt_parser_trees.specs.Trees.{RawMonoParamTree, mono_param}
use Rattle.theory_text_names.specs.Stops.{Stop, duplicate, ◌>>=◌}
use Rattle.theory_text_names.specs.Scopes.{a_mono, a_term, Meaning, means_rec, Declared, Names, Scope, bytes_of, is_reserved, with_local, under, under_name}
use Rattle.theory_text_names.specs.Scopes.{under_mem, at_top}
use Rattle.theory_text_names.specs.Uses.{Use}
use Rattle.theory_text.specs.Phrases.{formula_comes}
use Rattle.theory_text_items.specs.Items.{Row}
use Rattle.theory_text_items.specs.Declarations.{may_be_declared, new_name, a_recursion, declares_such, how_many, under_monos, under_params, params_come}
use Rattle.theory_text_items.specs.Declarations.{closed_params_come, behind_itself, declaration_comes, declarations_come}
use Rattle.theory_text_outlined.specs.Outlines.{AlikeMeaning, alike_mono, alike_pred, alike_rec, alike_def, alike_val, AlikeRow, AlikeNames, with_names}
use Rattle.theory_text_outlined.specs.Outlines.{SameStop, Related, both_give, both_stop}
use Rattle.theory_text_outlined.specs.Laws.{DeclarationsHangOnOutlines}
use Rattle.theory_text_outlined.proofs.Uses.{AlikeUse, same_use, declared_alike, declared_uses, related_self, ok_same, bind_same, bind_related}
use Rattle.theory_text_outlined.proofs.Phrases.{mono_same, ty_same, term_same, formula_same}

-- one behind the other, where both give something or are stopped
bind_both : {A B C D : Type 0} {R : A → B → Type 0} {Q : C → D → Type 0} {a : Result A Stop} {b : Result B Stop} {f : A → Result C Stop} {g : B → Result D Stop}
    → Related R a b
    → ((x : A) (y : B) → R x y → Related Q (f x) (g y))
    → Related Q (a >>= f) (b >>= g)
unfolding ◌>>=◌
bind_both (both_give {x} {y} h) k = k x y h
bind_both both_stop k = both_stop

from_same : {A B : Type 0} {a : Result A Stop} {b : Result B Stop} → SameStop a b → Related (λ x y. Unit {0}) a b
from_same {a = Ok x} {b = Ok y} h = both_give tt
from_same {a = Ok x} {b = Err e} h = (let no : None ≡ Some e = h.same in grind arith)
from_same {a = Err e} {b = Ok y} h = (let no : Some e ≡ None = h.same in grind arith)
from_same {A = A} {B = B} {a = Err e} {b = Err f} h = by_stop h.same
  where
    stop_in : Option Stop → Stop
    stop_in None = e
    stop_in (Some x) = x

    by_stop : Some e ≡ Some f → Related {A = A} {B = B} (λ x y. Unit {0}) (Err e) (Err f)
    by_stop is = subst (λ x. Related {A = A} {B = B} (λ x y. Unit {0}) (Err e) (Err x)) (ap stop_in is) both_stop

-- ---- rows

alike_more : (ds es : Names) (d e : Option Declared) → AlikeNames ds es → AlikeRow d e → AlikeNames (ds ++ d ∷ []) (es ++ e ∷ [])
alike_more [] [] d e h k = (k, tt)
alike_more [] (y ∷ es) d e h k = absurd h
alike_more (x ∷ ds) [] d e h k = absurd h
alike_more (x ∷ ds) (y ∷ es) d e (row, rows) k = (row, alike_more ds es d e rows k)

recursion_alike : {m n : Meaning} → AlikeMeaning m n → a_recursion m ≡ a_recursion n
recursion_alike alike_mono = refl
recursion_alike (alike_pred h k) = refl
recursion_alike alike_rec = refl
recursion_alike alike_def = refl
recursion_alike alike_val = refl

row_alike : (d e : Option Declared) → AlikeRow d e → declares_such a_recursion d ≡ declares_such a_recursion e
row_alike None None h = refl
row_alike None (Some e) h = absurd h
row_alike (Some d) None h = absurd h
row_alike (Some d) (Some e) (same, alike) = recursion_alike alike

count_alike : (ds es : Names) → AlikeNames ds es → how_many a_recursion ds ≡ how_many a_recursion es
count_alike [] [] h = refl
count_alike [] (e ∷ es) h = absurd h
count_alike (d ∷ ds) [] h = absurd h
count_alike (d ∷ ds) (e ∷ es) (row, rows) =
    sum_by-cons (λ x. cond (declares_such a_recursion x) 1 0) d ds
    ∙ (λ j. cond (row_alike d e row j) 1 0 + count_alike ds es rows j)
    ∙ sym (sum_by-cons (λ x. cond (declares_such a_recursion x) 1 0) e es)

-- ---- new names

none_alike : {u v : Option Use} → AlikeUse u v → is_none u ≡ is_none v
none_alike (same_use e) = ap is_none e
none_alike (declared_alike h) = refl

may_alike : (ds es : Names) (name : List ℕ) → AlikeNames ds es → may_be_declared ds name ≡ may_be_declared es name
may_alike ds es name h = ap (λ b. not (is_reserved name) && b) (none_alike (declared_uses name ds es h))

new_name_related : (names : Names) (s : Scope)
    → AlikeNames s.names names
    → (span : Span)
    → Related (λ (x y : List ℕ). x ≡ y) (new_name s span) (new_name (with_names s names) span)
new_name_related names s h span =
    subst (λ b. Related (λ (x y : List ℕ). x ≡ y) (new_name s span) (if b then Ok (bytes_of s.text span) else Err (duplicate span.from)))
    (may_alike s.names names (bytes_of s.text span) h) (related_self (λ (x y : List ℕ). x ≡ y) (new_name s span) (λ x. refl))

-- ---- parameters

module _ (names : Names) where
  monos_alike : (s : Scope) (ms : List Span) → AlikeNames s.names names → AlikeNames (under_monos s ms).names names
  unfolding under_monos
  monos_alike s [] h = h
  monos_alike s (a ∷ ms) h = monos_alike (under_name s a a_mono) ms h

  monos_with : (s : Scope) (ms : List Span) → with_names (under_monos s ms) names ≡ under_monos (with_names s names) ms
  unfolding under_monos
  monos_with s [] = refl
  monos_with s (a ∷ ms) = monos_with (under_name s a a_mono) ms

  params_alike : (s : Scope) (ps : List RawMonoParamTree) → AlikeNames s.names names → AlikeNames (under_params s ps).names names
  unfolding under_params
  params_alike s [] h = h
  params_alike s (mono_param x m ∷ ps) h = params_alike (under_name s x a_term) ps h

  params_with : (s : Scope) (ps : List RawMonoParamTree) → with_names (under_params s ps) names ≡ under_params (with_names s names) ps
  unfolding under_params
  params_with s [] = refl
  params_with s (mono_param x m ∷ ps) = params_with (under_name s x a_term) ps

  params_related : (s : Scope) → AlikeNames s.names names → (ps : List RawMonoParamTree)
      → Related (λ (ts us : List MonoTree). length ts ≡ length us) (params_come s ps) (params_come (with_names s names) ps)
  unfolding params_come
  params_related s h [] = both_give refl
  params_related s h (mono_param x m ∷ ps) =
      bind_both (from_same (mono_same names s h m)) (λ _ _ _.
      bind_both (params_related (with_local None a_term s) h ps) (λ _ _ e. both_give (ap suc e)))

  closed_same : (s : Scope)
      → AlikeNames s.names names
      → (ps : List RawMonoParamTree)
      → SameStop (closed_params_come s ps) (closed_params_come (with_names s names) ps)
  unfolding closed_params_come
  closed_same s h [] = ok_same
  closed_same s h (mono_param x m ∷ ps) = bind_same (mono_same names s h m) (λ _ _. bind_same (closed_same s h ps) (λ _ _. ok_same))

  body_same : (s : Scope) (ps : List RawMonoParamTree) (F : raw.RawFormulaTree) → AlikeNames s.names names
      → Related (λ x y. Unit {0}) (formula_comes (under_mem (under_params s ps)) F) (formula_comes (under_mem (under_params (with_names s names) ps)) F)
  body_same s ps F h =
      subst (λ t. Related (λ x y. Unit {0}) (formula_comes (under_mem (under_params s ps)) F) (formula_comes (under_mem t) F)) (params_with s ps)
      (from_same (formula_same names (under_mem (under_params s ps)) (params_alike s ps h) F))

-- ---- declarations

behind_alike : (names : Names) (s : Scope) (x : List ℕ) (ps : List RawMonoParamTree) → AlikeNames s.names names
    → AlikeNames (behind_itself s x ps).names (behind_itself (with_names s names) x ps).names
behind_alike names s x ps h = alike_more s.names names _ _ h (refl, same_rec _ _ (length ps) (count_alike s.names names h))
  where
    same_rec : (n m params : ℕ) → n ≡ m → AlikeMeaning (means_rec n params) (means_rec m params)
    same_rec n m params e = subst (λ k. AlikeMeaning (means_rec n params) (means_rec k params)) e alike_rec

one_related : (file : List raw.RawDeclTree) (names : Names) (s : Scope) → AlikeNames s.names names → (d : raw.RawDeclTree)
    → Related (λ (r q : Row). AlikeRow r.declares q.declares) (declaration_comes file s d) (declaration_comes file (with_names s names) d)
one_related file names s h (raw.decl_type x m) =
    bind_both (new_name_related names s h x) (λ _ _ e.
    bind_both (from_same (mono_same names s h m)) (λ _ _ _. both_give (e, alike_mono)))
one_related file names s h (raw.decl_pred x ms ps F) =
    bind_both (new_name_related names s h x) (λ _ _ e.
    bind_both (subst
    (λ t. Related (λ (ts us : List MonoTree). length ts ≡ length us) (params_come (under_monos s ms) ps) (params_come t ps))
    (monos_with names s ms)
    (params_related names (under_monos s ms) (monos_alike names s ms h) ps)) (λ _ _ k.
    bind_both (subst (λ t.
    Related (λ x y. Unit {0}) (formula_comes (under_mem (under_params (under_monos s ms) ps)) F)
    (formula_comes (under_mem (under_params t ps)) F)) (monos_with names s ms)
    (body_same names (under_monos s ms) ps F (monos_alike names s ms h))) (λ _ _ _. both_give (e, alike_pred refl k))))
one_related file names s h (raw.decl_induct x b ps F G) =
    bind_both (new_name_related names s h x) (λ y z e.
    bind_both (from_same (closed_same names s h ps)) (λ _ _ _.
    bind_both (body_same names s ps F h) (λ _ _ _.
    bind_both (subst (λ w.
    Related (λ x y. Unit {0}) (formula_comes (under_mem (under_params (under (behind_itself s y ps) b a_term) ps)) G)
    (formula_comes (under_mem (under_params (under (behind_itself (with_names s names) w ps) b a_term) ps)) G)) e
    (body_same (behind_itself (with_names s names) y ps).names (under (behind_itself s y ps) b a_term) ps G (behind_alike names s y ps h))) (λ _ _ _.
    both_give (e, recs (count_alike s.names names h))))))
  where
    recs : {n m : ℕ} → n ≡ m → AlikeMeaning (means_rec n (length ps)) (means_rec m (length ps))
    recs {n} {m} e = subst (λ k. AlikeMeaning (means_rec n (length ps)) (means_rec k (length ps))) e alike_rec
one_related file names s h (raw.decl_def x A M) =
    bind_both (new_name_related names s h x) (λ _ _ e.
    bind_both (from_same (ty_same names s h A)) (λ _ _ _.
    bind_both (from_same (term_same names s h M)) (λ _ _ _. both_give (e, alike_def))))
one_related file names s h (raw.decl_val x A M) =
    bind_both (new_name_related names s h x) (λ _ _ e.
    bind_both (from_same (ty_same names s h A)) (λ _ _ _.
    bind_both (from_same (term_same names s h M)) (λ _ _ _. both_give (e, alike_val))))
one_related file names s h (raw.decl_proof at x n p) = both_give tt

all_same : (file : List raw.RawDeclTree) (text : List ℕ) (names others : Names) (ds : List raw.RawDeclTree) → AlikeNames names others
    → SameStop (declarations_come file text names ds) (declarations_come file text others ds)
unfolding declarations_come
all_same file text names others [] h = ok_same
all_same file text names others (d ∷ ds) h =
    bind_related (one_related file others (at_top text names) h d) (λ r q e.
    bind_same
    (all_same file text (names ++ r.declares ∷ []) (others ++ q.declares ∷ []) ds (alike_more names others r.declares q.declares h e))
    (λ _ _. ok_same))

pub law : DeclarationsHangOnOutlines
law = record { one = λ file s names d h. one_related file names s h d; all = all_same }
