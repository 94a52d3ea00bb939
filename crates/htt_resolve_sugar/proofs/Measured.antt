-- What is put has the size that is told for it.
use Rattle.std.proofs.Common.{◌≡◌, ℕ, ◌+◌, List, [], ◌∷◌, ◌++◌, sym, ap, ◌∙◌, arith, Option, Some, None}
use Rattle.std.specs.Prelude.{reverse}
use Rattle.std.proofs.lemmas.List.{reverse-append}
use Rattle.htt_syntax.specs.Trees.{MonoTree, TermTree, t_ann, y_mono}
use Rattle.theory_renaming.specs.Renaming.{shifting, rename_mono, rename_term}
use Rattle.theory_counts.proofs.NodesKept.{nodes_mono_kept, nodes_term_kept}
use Rattle.theory_counts.proofs.DepthKept.{depth_mono_kept, depth_term_kept}
use Rattle.htt_syntax_measure.specs.declared.size.Size.{Size}
use Rattle.htt_syntax_measure.specs.Measures.{told, leaf, node, node_of_two, mono_measure, term_measure}
use Rattle.htt_syntax_measure.proofs.MeasureLevels.{term_var_measure, mono_var_measure, term_ann_measure, ty_mono_measure}
use Rattle.theory_text_sugar.specs.Putting.{Put, put_mono, put_term, put_heap, mono_for, term_for, put_into_mono}
use Rattle.htt_resolve_sugar.specs.declared.measure.PutSize.{PutSize}
use Rattle.htt_resolve_sugar.specs.declared.measure.PutSize.TheVariants as sizes
use Rattle.htt_resolve_sugar.specs.Views.{Measures, IsMeasured}

renamed_term : (d : ℕ) (M : TermTree) → term_measure (rename_term (shifting 0 d) M) ≡ term_measure M
unfolding term_measure
renamed_term d M = λ j. told (nodes_term_kept (shifting 0 d) M j) (depth_term_kept (shifting 0 d) M j)

renamed_mono : (d : ℕ) (t : MonoTree) → mono_measure (rename_mono (shifting 0 d) t) ≡ mono_measure t
unfolding mono_measure
renamed_mono d t = λ j. told (nodes_mono_kept (shifting 0 d) t j) (depth_mono_kept (shifting 0 d) t j)

pub term_put : (d n : ℕ) (put : Option Put) (z : Size) → IsMeasured (Some (sizes.Term z)) put → z ≡ term_measure (term_for d n put)
term_put d n None z h = grind arith
term_put d n (Some (put_mono t)) z h = grind arith
term_put d n (Some (put_term M)) z h = (let is : term_measure M ≡ z = grind (arith, h) in sym is) ∙ sym (renamed_term d M)
term_put d n (Some (put_heap k)) z h = grind arith

pub term_of_mono : (d n : ℕ) (put : Option Put) (z x : Size) → x ≡ leaf → IsMeasured (Some (sizes.Mono z)) put → x ≡ term_measure (term_for d n put)
term_of_mono d n None z x is h = grind arith
term_of_mono d n (Some (put_mono t)) z x is h = is ∙ sym (term_var_measure n)
term_of_mono d n (Some (put_term M)) z x is h = grind arith
term_of_mono d n (Some (put_heap k)) z x is h = grind arith

pub term_of_heap : (d n : ℕ) (put : Option Put) (x : Size) → x ≡ leaf → IsMeasured (Some sizes.Heap) put → x ≡ term_measure (term_for d n put)
term_of_heap d n None x is h = grind arith
term_of_heap d n (Some (put_mono t)) x is h = grind arith
term_of_heap d n (Some (put_term M)) x is h = grind arith
term_of_heap d n (Some (put_heap k)) x is h = is ∙ sym (term_var_measure n)

pub term_of_none : (d n : ℕ) (put : Option Put) (x : Size) → x ≡ leaf → IsMeasured None put → x ≡ term_measure (term_for d n put)
term_of_none d n None x is h = is ∙ sym (term_var_measure n)
term_of_none d n (Some p) x is h = grind arith

pub ruleset terms = (term_put, term_of_mono, term_of_heap, term_of_none)

pub mono_put : (d n : ℕ) (put : Option Put) (z : Size) → IsMeasured (Some (sizes.Mono z)) put → z ≡ mono_measure (mono_for d n put)
mono_put d n None z h = grind arith
mono_put d n (Some (put_mono t)) z h = (let is : mono_measure t ≡ z = grind (arith, h) in sym is) ∙ sym (renamed_mono d t)
mono_put d n (Some (put_term M)) z h = grind arith
mono_put d n (Some (put_heap k)) z h = grind arith

pub mono_of_term : (d n : ℕ) (put : Option Put) (z x : Size) → x ≡ leaf → IsMeasured (Some (sizes.Term z)) put → x ≡ mono_measure (mono_for d n put)
mono_of_term d n None z x is h = grind arith
mono_of_term d n (Some (put_mono t)) z x is h = grind arith
mono_of_term d n (Some (put_term M)) z x is h = is ∙ sym (mono_var_measure n)
mono_of_term d n (Some (put_heap k)) z x is h = grind arith

pub mono_of_heap : (d n : ℕ) (put : Option Put) (x : Size) → x ≡ leaf → IsMeasured (Some sizes.Heap) put → x ≡ mono_measure (mono_for d n put)
mono_of_heap d n None x is h = grind arith
mono_of_heap d n (Some (put_mono t)) x is h = grind arith
mono_of_heap d n (Some (put_term M)) x is h = grind arith
mono_of_heap d n (Some (put_heap k)) x is h = is ∙ sym (mono_var_measure n)

pub mono_of_none : (d n : ℕ) (put : Option Put) (x : Size) → x ≡ leaf → IsMeasured None put → x ≡ mono_measure (mono_for d n put)
mono_of_none d n None x is h = is ∙ sym (mono_var_measure n)
mono_of_none d n (Some p) x is h = grind arith

pub ruleset monos = (mono_put, mono_of_term, mono_of_heap, mono_of_none)

-- one more is put
pub put_more : (all more : List PutSize) (put : List Put) (M : TermTree) (t : MonoTree) (z first mono : Size)
    → more ≡ all ++ sizes.Term z ∷ []
    → Measures all put
    → first ≡ term_measure M
    → mono ≡ mono_measure (put_into_mono put t)
    → z ≡ node_of_two first (node mono)
    → Measures more (put_term (t_ann M (y_mono (put_into_mono put t))) ∷ put)
unfolding Measures
put_more all more put M t z first mono is h f m zis =
    let size : term_measure (t_ann M (y_mono (put_into_mono put t))) ≡ z =
    (term_ann_measure M (y_mono (put_into_mono put t))
    ∙ ap (λ A. node_of_two (term_measure M) A) (ty_mono_measure (put_into_mono put t))
    ∙ (λ j. node_of_two (sym f j) (node (sym m j)))
    ∙ sym zis) in
    (λ j. sizes.Term (size j) ∷ h j)
    ∙ sym (reverse-append all (sizes.Term z ∷ []))
    ∙ ap reverse (sym is)
