-- What is held stays held where the locals below stay as they are.
use Rattle.std.proofs.Common.{◌≡◌, ◌≤◌, ℕ, zero, suc, ◌+◌, List, [], ◌∷◌, ◌++◌, length, take, map, Some, None, slice_get, refl, ap, ◌∙◌, subst, arith, length-append}
use Rattle.std.proofs.lemmas.Option.{same_Some}
use Rattle.htt_syntax.specs.Trees.{MonoTree, m_pair}
use Rattle.theory_values.specs.Values.{Value, width, encoding, value_of_fst, value_of_snd}
use Rattle.theory_truth.specs.Worlds.{th_value, value_at}
use Rattle.theory_truth.specs.TermValue.{value_or_unit}
use Rattle.word_loader_code.specs.declared.code.Instr.{Instr}
use Rattle.word_loader_code.specs.Machine.{words_at, with_words, step}
use Rattle.theory_machine.proofs.Words.{length-with_words}
use Rattle.theory_emission.specs.Terms.{Held, held_at, Emitted}
use Rattle.theory_emitted_words.specs.Frames.{FrameSite, machine_at}
use Rattle.theory_emitted_words.proofs.Words.{written, before, agree_less, agreeing, first, second}
use Rattle.theory_emitted_words.proofs.Steps.{leads_none, leads_one, leads_on}
use Rattle.theory_emitted_terms.specs.Layouts.{HasLayout, lays_pair}
use Rattle.theory_emitted_terms.specs.Held.{ValueAt, ValuesAt, values_none, values_more, PartsAt, parts_none, parts_more, Goes, Brings}
use Rattle.theory_emitted_terms.proofs.Values.{layout_width}

pub hold_on : {locals others : List ℕ} {next more place : ℕ} {v : Value} {mono : MonoTree}
    → ValueAt locals next place v mono
    → take next others ≡ take next locals
    → next ≤ more
    → ValueAt others more place v mono
hold_on {locals = locals} {others = others} {next = next} {place = place} {mono = mono} x same less =
    record { layout = x.layout; words = agreeing locals others next place (width mono) same x.below ∙ x.words; below = omega (arith, x.below, less) }

pub hold_all_on : {locals others : List ℕ} {next more : ℕ} {g : List Held} {vs : List Value} {monos : List MonoTree}
    → ValuesAt locals next g vs monos
    → take next others ≡ take next locals
    → next ≤ more
    → ValuesAt others more g vs monos
hold_all_on values_none same less = values_none
hold_all_on (values_more q x r) same less = values_more q (hold_on x same less) (hold_all_on r same less)

pub parts_on : {locals others : List ℕ} {next more : ℕ} {parts : List (ℕ × ℕ)} {words : List ℕ}
    → PartsAt locals next parts words
    → take next others ≡ take next locals
    → next ≤ more
    → PartsAt others more parts words
parts_on parts_none same less = parts_none
parts_on {locals = locals} {others = others} {next = next} (parts_more {part = part} q n b r) same less =
    parts_more (agreeing locals others next (part.0) (part.1) same b ∙ q) n (omega (arith, b, less)) (parts_on r same less)

some_or_none : {A : Type 0} {x : A} → None ≡ Some x → ⊥
some_or_none q = cc

pub found : {locals : List ℕ} {next : ℕ} {g : List Held} {vs : List Value} {monos : List MonoTree} {mono : MonoTree}
    → ValuesAt locals next g vs monos
    → (n : ℕ)
    → slice_get monos n ≡ Some mono
    → ValueAt locals next (held_at g n).place (value_at (map th_value vs) n) mono
found values_none n q = absurd (some_or_none q)
found {locals = locals} {next = next} {mono = mono} (values_more {held = held} {v = v} {mono = other} e x r) zero q =
    subst (ValueAt locals next held.place v) (same_Some other mono q) x
found (values_more e x r) (suc n) q = found r n q

pub found_mono : {locals : List ℕ} {next : ℕ} {g : List Held} {vs : List Value} {monos : List MonoTree} {mono : MonoTree}
    → ValuesAt locals next g vs monos
    → (n : ℕ)
    → slice_get monos n ≡ Some mono
    → (held_at g n).mono ≡ mono
found_mono values_none n q = absurd (some_or_none q)
found_mono {mono = mono} (values_more {mono = other} e x r) zero q = e ∙ same_Some other mono q
found_mono (values_more e x r) (suc n) q = found_mono r n q

-- the parts of a pair
pub first_part : {v : Value} {t u : MonoTree}
    → HasLayout v (m_pair t u)
    → (locals : List ℕ) (next place : ℕ)
    → words_at locals place (width t + width u) ≡ encoding v
    → place + (width t + width u) ≤ next
    → ValueAt locals next place (value_or_unit (value_of_fst v)) t
first_part {t = t} {u = u} (lays_pair {x = x} {y = y} p q) locals next place words below =
    record { layout = p; words = first locals place (width t) (width u) (encoding x) (encoding y) words (layout_width p); below = omega (arith, below) }

pub second_part : {v : Value} {t u : MonoTree}
    → HasLayout v (m_pair t u)
    → (locals : List ℕ) (next place : ℕ)
    → words_at locals place (width t + width u) ≡ encoding v
    → place + (width t + width u) ≤ next
    → ValueAt locals next (place + width t) (value_or_unit (value_of_snd v)) u
second_part {t = t} {u = u} (lays_pair {x = x} {y = y} p q) locals next place words below =
    record { layout = q; words = second locals place (width t) (width u) (encoding x) (encoding y) words (layout_width p); below = omega (arith, below) }

pub goes_none : {a : FrameSite} {at : ℕ} {locals : List ℕ} {next end : ℕ} → at ≡ end → Goes a at locals next end locals
goes_none {a = a} {locals = locals} q = record { leads = leads_none (ap (λ n. machine_at a n locals) q); keeps = refl; long = refl }

pub goes_on : {a : FrameSite} {at end last : ℕ} {locals between after : List ℕ} {next more : ℕ}
    → Goes a at locals next end between
    → Goes a end between more last after
    → next ≤ more
    → Goes a at locals next last after
goes_on {between = between} {after = after} {next = next} {more = more} p q less =
    record { leads = leads_on p.leads q.leads; keeps = agree_less between after more next q.keeps less ∙ p.keeps; long = q.long ∙ p.long }

pub goes_to : {a : FrameSite} {at end other : ℕ} {locals after : List ℕ} {next : ℕ}
    → end ≡ other
    → Goes a at locals next end after
    → Goes a at locals next other after
goes_to {a = a} {at = at} {locals = locals} {after = after} {next = next} q g = subst (λ n. Goes a at locals next n after) q g

pub end_of : (at : ℕ) (xs ys : List Instr) → at + length xs + length ys ≡ at + length (xs ++ ys)
end_of at xs ys = omega (arith, length-append xs ys)

-- a write at d, which is no used place
pub goes_writing : {a : FrameSite} {at end : ℕ} {locals between : List ℕ} {next : ℕ} (d : ℕ) (words : List ℕ)
    → Goes a at locals next end between
    → step a.code (machine_at a end between) ≡ machine_at a (end + 1) (with_words between d words)
    → next ≤ d
    → d + length words ≤ length locals
    → Goes a at locals next (end + 1) (with_words between d words)
goes_writing {between = between} {next = next} d words g q less within =
    record {
      leads = leads_on g.leads (leads_one q);
      keeps = before between d words next less (omega (arith, within, g.long)) ∙ g.keeps;
      long = length-with_words between d words (omega (arith, within, g.long)) ∙ g.long;
    }

-- instructions, and then one that writes the words of a value at a new place
pub at_new : {a : FrameSite} {at : ℕ} {locals between : List ℕ} {next : ℕ} {v : Value} {mono : MonoTree}
    (front : List Instr) (i : Instr) (d n : ℕ) (words : List ℕ)
    → Goes a at locals next (at + length front) between
    → step a.code (machine_at a (at + length front) between) ≡ machine_at a (at + length front + 1) (with_words between d words)
    → HasLayout v mono
    → words ≡ encoding v
    → width mono ≡ n
    → next ≤ d
    → d + n ≤ length locals
    → Brings a at locals next (record { instrs = front ++ i ∷ []; place = d; next = d + n }) v mono
at_new {at = at} {between = between} {v = v} {mono = mono} front i d n words g q layout is wide less within =
    let long : length words ≡ width mono = ap length is ∙ layout_width layout in
    record {
      after = with_words between d words;
      goes = goes_to (let r = length-append front (i ∷ []) in omega (arith, r)) (goes_writing d words g q less (omega (arith, long, wide, within)));
      holds = record {
        layout = layout;
        words = written between d words (width mono) long (omega (arith, within, g.long)) ∙ is;
        below = omega (arith, wide);
      };
      grows = omega (arith, less);
    }

-- what two terms bring, one after the other
pub record Both (a : FrameSite) (at : ℕ) (locals : List ℕ) (next : ℕ) (e f : Emitted) (x y : Value) (t u : MonoTree) : Type 0 where
  pub after : List ℕ
  pub goes : Goes a at locals next (at + length (e.instrs ++ f.instrs)) after
  pub left : ValueAt after f.next e.place x t
  pub right : ValueAt after f.next f.place y u
  pub grows : next ≤ f.next

pub both : {a : FrameSite} {at : ℕ} {locals : List ℕ} {next : ℕ} {e f : Emitted} {x y : Value} {t u : MonoTree}
    → (r : Brings a at locals next e x t)
    → Brings a (at + length e.instrs) r.after e.next f y u
    → Both a at locals next e f x y t u
both {at = at} {e = e} {f = f} r s =
    record {
      after = s.after;
      goes = goes_to (end_of at e.instrs f.instrs) (goes_on r.goes s.goes r.grows);
      left = hold_on r.holds s.goes.keeps s.grows;
      right = s.holds;
      grows = omega (arith, r.grows, s.grows);
    }
