-- Phrases that differ in bound names alone, and phrases that don't, worked out by hand.
use Rattle.std.specs.Prelude.{ℕ, suc, List, [], codes}
use Rattle.htt_parser_trees.specs.declared.place.Span.{Span}
use Rattle.htt_parser_trees.specs.declared.place.Binder.TheVariants as binders
use Rattle.htt_parser_trees.specs.Trees as raw
use Rattle.theory_text_names.specs.Scopes.{Scope, at_top}
use Rattle.theory_text_alike.specs.Alike.{AlikeTerm}

abbrev pub sp : ℕ → ℕ → Span
sp from to = record { from = from; to = to }

-- a name of one byte, as a term
abbrev pub name_at : ℕ → raw.RawTermTree
name_at at =
    raw.t_rel (raw.r_sum (raw.s_sum
    (raw.x_prod (raw.l_apply (raw.a_name (sp at (suc at))) raw.no_parts) raw.x_end) raw.s_end))

-- fun b . fun c . d in a text of the form `fun b . fun c . d`
abbrev pub two_binders : raw.RawTermTree
two_binders = raw.t_fun 0 (binders.Name (sp 4 5)) (raw.t_fun 8 (binders.Name (sp 12 13)) (name_at 16))

abbrev pub of : List ℕ → Scope
of text = at_top text []

pub record WorkedAlike : Type 0 where
  -- the outer one of two binders, under other names
  pub renamed : AlikeTerm (of (codes "fun x . fun y . x")) (of (codes "fun a . fun b . a")) two_binders two_binders
  -- the outer one and the inner one
  pub other_binder : AlikeTerm (of (codes "fun x . fun y . x")) (of (codes "fun x . fun y . y")) two_binders two_binders
      → ⊥
  -- an inner binder of the same name hides the outer one
  pub hidden : AlikeTerm (of (codes "fun x . fun y . x")) (of (codes "fun a . fun a . a")) two_binders two_binders → ⊥
  -- names that stand for nothing are alike, whatever their bytes
  pub unbound : AlikeTerm (of (codes "fun x . fun y . z")) (of (codes "fun x . fun y . w")) two_binders two_binders
