use Rattle.std.proofs.Common.{rules, ◌≡◌, ◌+◌, ◌-◌, ◌<◌, ◌^◌, ℕ, Bool, true, List, [], ◌∷◌, cond, ap, ◌∙◌, refl, arith}
use Rattle.std.specs.Prelude.{sum_by, min}
use Rattle.std.proofs.lemmas.List.Sums.{sum_by-cons}
use Rattle.std.specs.Map.{values_of}
use Rattle.std.specs.Map.Calls.{RetainsPairs}
use Rattle.heap_model_flat.specs.declared.span.Span.{Span}
use Rattle.heap_model_flat.specs.Spans.{span_from, moved_spans}
use Rattle.heap_model_flat.proofs.heap.move_spans.Goals as goal

total_len-cons : (e : ℕ × Span) (es : List (ℕ × Span))
    → sum_by (λ (s : Span). s.len) (values_of (e ∷ es)) ≡ e.1.len + sum_by (λ (s : Span). s.len) (values_of es)
total_len-cons e es = sum_by-cons (λ (s : Span). s.len) e.1 (values_of es)

-- a closure that keeps where the next span begins
moved_from : {F : Type 0} (T : F → ℕ → Span → Bool → Span → F → Type 0) (start : F → ℕ)
    → ((f : F) (k : ℕ) (v : Span) (b : Bool) (w : Span) (g : F) → T f k v b w g →
    (b ≡ true) × (w ≡ span_from (start f) v.len) × (start g ≡ min (start f + v.len) (2 ^ 64 - 1)))
    → (es kept : List (ℕ × Span)) (n : ℕ) (f : F)
    → start f ≡ n
    → n + sum_by (λ (s : Span). s.len) (values_of es) < 2 ^ 64
    → RetainsPairs T f es kept
    → kept ≡ moved_spans n es
moved_from T start told [] kept n f e low r = r
moved_from T start told (p ∷ es) kept n f e low r =
    let t = told f p.0 p.1 r.0 r.1 r.2 r.4 in
    let total = total_len-cons p es in
    let next : start r.2 ≡ n + p.1.len = omega (arith, t.2, e, low, total) in
    let rest = moved_from T start told es r.3 (n + p.1.len) r.2 next (omega (arith, low, total)) r.5 in
    r.6
    ∙ ap (λ (b : Bool). cond b ((p.0, r.1) ∷ r.3) r.3) t.0
    ∙ ap (λ (w : Span). (p.0, w) ∷ r.3) (t.1 ∙ ap (λ (m : ℕ). span_from m p.1.len) e)
    ∙ ap (λ (l : List (ℕ × Span)). (p.0, span_from n p.1.len) ∷ l) rest

pub returns : goal.returns
returns c = record {
  moved =
      moved_from _ (λ f. f.0) (λ f k v b w g t. (search rules, search rules, search rules)) c.args.table.now.entries
      c.retain.new.self.entries 0 _ refl (omega (arith, c.requires)) c.retain.ensures.filtered;
  was_ordered = c.retain.ensures.was_ordered;
}
