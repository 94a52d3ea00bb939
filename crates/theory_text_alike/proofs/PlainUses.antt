-- A use of a predicate without positions.
use Rattle.std.specs.Prelude.{◌≡◌, ℕ, zero, suc, List, [], ◌∷◌, Option, Some, None, option_map, option_and_then, slice_get}
use Rattle.std.proofs.Common.{refl, sym, ap, ◌∙◌}
use Rattle.htt_syntax.specs.Trees.{MonoTree, TermTree, TermTrees, FormulaTree, no_terms, more_terms, y_mono, t_ann, f_at}
use Rattle.theory_renaming.specs.Renaming.{shifting}
use Rattle.theory_typing.specs.Positions.{plain_term, plain_terms, plain_formula}
use Rattle.theory_text_names.specs.Scopes.{PredTree}
use Rattle.theory_text_sugar.specs.Putting.{Put, put_mono, put_term, put_heap, from_outside, put_for, mono_for, term_for, heap_for, putting, put_into_mono}
use Rattle.theory_text_sugar.specs.Putting.{put_into_formula, with_monos, with_arguments, used_at}
use Rattle.theory_text_sugar.specs.Sugar.{placed}
use Rattle.theory_text.specs.Phrases.{list_of}
use Rattle.theory_text_alike.specs.Alike.{plain_pred}
use Rattle.theory_text_alike.proofs.PlainRenamed.{term_renamed}
use Rattle.theory_text_alike.proofs.PlainWalked.{PutsPlain, mono_walked, formula_walked}

plain_put : Put → Put
plain_put (put_mono t) = put_mono t
plain_put (put_term m) = put_term (plain_term m)
plain_put (put_heap h) = put_heap h

plain_puts : List Put → List Put
plain_puts [] = []
plain_puts (p ∷ ps) = plain_put p ∷ plain_puts ps

got : (ps : List Put) (n : ℕ) → slice_get (plain_puts ps) n ≡ option_map plain_put (slice_get ps n)
unfolding plain_puts
got [] n = refl
got (p ∷ ps) zero = refl
got (p ∷ ps) (suc n) = got ps n

got_if : (ps : List Put) (o : Option ℕ) → option_and_then (slice_get (plain_puts ps)) o ≡ option_map plain_put (option_and_then (slice_get ps) o)
got_if ps None = refl
got_if ps (Some n) = got ps n

mono_same : (d n : ℕ) (o : Option Put) → mono_for d n o ≡ mono_for d n (option_map plain_put o)
unfolding plain_put
mono_same d n None = refl
mono_same d n (Some (put_mono t)) = refl
mono_same d n (Some (put_term m)) = refl
mono_same d n (Some (put_heap h)) = refl

term_same : (d n : ℕ) (o : Option Put) → plain_term (term_for d n o) ≡ term_for d n (option_map plain_put o)
unfolding plain_put plain_term
term_same d n None = refl
term_same d n (Some (put_mono t)) = refl
term_same d n (Some (put_term m)) = term_renamed (shifting 0 d) m
term_same d n (Some (put_heap h)) = refl

heap_same : (d n : ℕ) (o : Option Put) → heap_for d n o ≡ heap_for d n (option_map plain_put o)
unfolding plain_put
heap_same d n None = refl
heap_same d n (Some (put_mono t)) = refl
heap_same d n (Some (put_term m)) = refl
heap_same d n (Some (put_heap h)) = refl

puts_plain : (ps : List Put) → PutsPlain (putting ps) (putting (plain_puts ps))
puts_plain ps = record {
  on_mono = λ d n. mono_same d n (put_for ps d n) ∙ ap (mono_for d n) (sym (got_if ps (from_outside d n)));
  on_term = λ d n. term_same d n (put_for ps d n) ∙ ap (term_for d n) (sym (got_if ps (from_outside d n)));
  on_heap = λ d n. heap_same d n (put_for ps d n) ∙ ap (heap_for d n) (sym (got_if ps (from_outside d n)));
}

plain_list : List TermTree → List TermTree
plain_list [] = []
plain_list (m ∷ ms) = plain_term m ∷ plain_list ms

list_plain : (Ms : TermTrees) → plain_list (list_of Ms) ≡ list_of (plain_terms Ms)
unfolding list_of plain_term plain_list
list_plain no_terms = refl
list_plain (more_terms M Ms) = ap (λ ms. plain_term M ∷ ms) (list_plain Ms)

monos_plain : (ps : List Put) (ts : List MonoTree) → plain_puts (with_monos ps ts) ≡ with_monos (plain_puts ps) ts
unfolding with_monos plain_puts plain_put
monos_plain ps [] = refl
monos_plain ps (t ∷ ts) = monos_plain (put_mono t ∷ ps) ts

arguments_plain : (ps : List Put) (ts : List MonoTree) (ms : List TermTree)
    → plain_puts (with_arguments ps ts ms) ≡ with_arguments (plain_puts ps) ts (plain_list ms)
unfolding with_arguments plain_puts plain_put plain_list plain_term
arguments_plain ps [] ms = refl
arguments_plain ps (t ∷ ts) [] = refl
arguments_plain ps (t ∷ ts) (m ∷ ms) =
    arguments_plain (put_term (t_ann m (y_mono (put_into_mono ps t))) ∷ ps) ts ms
    ∙ ap (λ u. with_arguments (put_term (t_ann (plain_term m) (y_mono u)) ∷ plain_puts ps) ts (plain_list ms))
    (mono_walked (puts_plain ps) 0 t)

pub use_plain : (p : PredTree) (ts : List MonoTree) (Ms : TermTrees) (h : ℕ)
    → plain_formula (used_at p ts (list_of Ms) h) ≡ used_at (plain_pred p) ts (list_of (plain_terms Ms)) h
unfolding plain_puts plain_put
use_plain p ts Ms h =
    let args : plain_puts (with_arguments (with_monos [] ts) p.params (list_of Ms))
    ≡ with_arguments (with_monos [] ts) p.params (list_of (plain_terms Ms)) =
    arguments_plain (with_monos [] ts) p.params (list_of Ms) ∙ (λ j. with_arguments (monos_plain [] ts j) p.params (list_plain Ms j)) in
    formula_walked (puts_plain (put_heap h ∷ with_arguments (with_monos [] ts) p.params (list_of Ms))) 0 p.body
    ∙ ap (λ ps. put_into_formula (put_heap h ∷ ps) (plain_formula p.body)) args

pub placed_plain : (at : ℕ) (F : FormulaTree) → plain_formula (placed at F) ≡ plain_formula F
unfolding plain_term
placed_plain at (f_at own F) = refl
placed_plain at F = refl
