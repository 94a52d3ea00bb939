-- The locals of a frame that is just entered hold the parameters.
use Rattle.std.proofs.Common.{◌≡◌, ℕ, ◌+◌, List, [], ◌∷◌, ◌++◌, length, reverse, refl, subst, arith, length-append}
use Rattle.std.proofs.lemmas.List.{take_at}
use mathlib.Core.List.{reverse_aux}
use Rattle.htt_syntax.specs.Trees.{MonoTree}
use Rattle.theory_values.specs.Values.{Value, width, encoding}
use Rattle.word_loader_code.specs.Machine.{words_at}
use Rattle.theory_emission.specs.Terms.{Held}
use Rattle.theory_emission.specs.Bodies.{with_params, width_of_monos}
use Rattle.theory_emitted_words.proofs.Words.{first, second}
use Rattle.theory_emitted_terms.specs.Layouts.{HaveLayouts, lay_none, lay_more, encodings}
use Rattle.theory_emitted_terms.specs.Held.{ValuesAt, values_none, values_more}
use Rattle.theory_emitted_terms.proofs.Values.{layout_width}
use Rattle.theory_emitted_terms.proofs.Held.{hold_all_on}

pub all_wide : {vs : List Value} {monos : List MonoTree} → HaveLayouts vs monos → length (encodings vs) ≡ width_of_monos monos
all_wide lay_none = refl
all_wide (lay_more {v = v} {vs = vs} l r) = omega (arith, length-append (encoding v) (encodings vs), layout_width l, all_wide r)

onto : {locals : List ℕ} {vs : List Value} {monos : List MonoTree}
    → HaveLayouts vs monos
    → (place : ℕ) (g : List Held) (us : List Value) (ks : List MonoTree)
    → ValuesAt locals place g us ks
    → words_at locals place (width_of_monos monos) ≡ encodings vs
    → ValuesAt locals (place + width_of_monos monos) (with_params g place monos) (reverse_aux vs us) (reverse_aux monos ks)
onto lay_none place g us ks h q = hold_all_on h refl (omega arith)
onto {locals = locals} (lay_more {v = v} {t = t} {vs = vs} {ts = ts} l r) place g us ks h q =
    let here = first locals place (width t) (width_of_monos ts) (encoding v) (encodings vs) q (layout_width l) in
    let rest = second locals place (width t) (width_of_monos ts) (encoding v) (encodings vs) q (layout_width l) in
    let held : Held = record { place = place; mono = t } in
    let with_it : ValuesAt locals (place + width t) (held ∷ g) (v ∷ us) (t ∷ ks) =
    values_more refl (record { layout = l; words = here; below = omega arith }) (hold_all_on h refl (omega arith)) in
    let sum : place + width t + width_of_monos ts ≡ place + (width t + width_of_monos ts) = omega arith in
    subst (λ n. ValuesAt locals n (with_params (held ∷ g) (place + width t) ts) (reverse_aux vs (v ∷ us)) (reverse_aux ts (t ∷ ks))) sum
    (onto r (place + width t) (held ∷ g) (v ∷ us) (t ∷ ks) with_it rest)

pub entry : {vs : List Value} {params : List MonoTree} (rest : List ℕ)
    → HaveLayouts vs params
    → ValuesAt (encodings vs ++ rest) (width_of_monos params) (with_params [] 0 params) (reverse vs) (reverse params)
entry {vs = vs} {params = params} rest l =
    let sum : 0 + width_of_monos params ≡ width_of_monos params = omega arith in
    subst (λ n. ValuesAt (encodings vs ++ rest) n (with_params [] 0 params) (reverse vs) (reverse params)) sum
    (onto l 0 [] [] [] values_none (take_at (encodings vs) rest (width_of_monos params) (all_wide l)))
