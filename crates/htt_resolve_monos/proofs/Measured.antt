-- What monotypes measure, part by part.
use Rattle.std.proofs.Common.{◌≡◌, ℕ, zero, suc, ◌+◌, ◌<◌, ◌≤◌, List, [], ◌∷◌, take, drop, length, get_or, sym, ap, ◌∙◌, arith, subst}
use Rattle.std.proofs.lemmas.List.{take_all}
use Rattle.std.specs.Prelude.{Option, Some, None, Result, Ok, Err}
use Rattle.htt_syntax.specs.Trees.{MonoTree, m_var, m_pair}
use Rattle.htt_parser_trees.specs.declared.mono.MonoName.TheVariants as mono_names
use Rattle.htt_parser_trees.specs.declared.mono.RawMono.{RawMono}
use Rattle.htt_parser_trees.specs.declared.mono.RawRight.{more_of-RawMono, end_of-RawMono}
use Rattle.htt_parser_trees.specs.declared.mono.RawRight.TheVariants as vright
use Rattle.htt_parser_trees.specs.declared.mono.RawBracket.{RawBracket}
use Rattle.htt_parser_trees.specs.declared.mono.RawBracket as bracket
use Rattle.htt_parser_trees.specs.declared.mono.RawBracket.TheVariants as vbracket
use Rattle.htt_parser_trees.specs.declared.place.Span.{Span}
use Rattle.htt_parser_trees.specs.Trees as raw
use Rattle.htt_parser_trees.specs.Trees.{with_right}
use Rattle.htt_parser_trees.specs.MonoViews.{raw_right_tree, raw_bracket_tree, raw_brackets_row}
use Rattle.htt_parser_trees.specs.MonoLevels.{raw_mono_tree, raw_brackets_tree, raw_right_nothing, raw_right_times, raw_bracket_alone, raw_bracket_times}
use Rattle.htt_syntax_measure.specs.declared.size.Size.{Size}
use Rattle.htt_syntax_measure.specs.Measures.{leaf, nothing, node_of_two, mono_measure}
use Rattle.htt_syntax_measure.proofs.MeasureLevels.{mono_word_measure, mono_bool_measure, mono_loc_measure, mono_unit_measure, mono_var_measure}
use Rattle.htt_syntax_measure.proofs.MeasureLevels.{mono_pair_measure}
use Rattle.theory_text_names.specs.Stops.{Stop, ◌>>=◌}
use Rattle.theory_text_names.specs.Scopes.{Scope}
use Rattle.theory_text_names.specs.Uses.{mono_named}
use Rattle.theory_text.specs.Monotypes.{factor_comes, mono_comes}
use Rattle.htt_resolve_names.specs.declared.stop.NameStop.{NameStop}
use Rattle.htt_resolve_names.specs.Answers.{IsStop}
use Rattle.htt_resolve_monos.specs.Sized.{sized, AnswersSize}

-- ---- what stops a part

pub stop_sized : {X : Type 0} (size : X → Size) (stop : Option Stop) (due : Result X Stop)
    → IsStop stop due
    → IsStop stop (sized size due)
stop_sized size None due h = h
stop_sized size (Some stop) due h = ap (sized size) h

-- ---- first words

module _ (s : Scope) where
  pub word_sized : (at : ℕ) → sized mono_measure (factor_comes s (raw.m_name (mono_names.Word at))) ≡ Ok leaf
  unfolding factor_comes
  word_sized at = ap Ok mono_word_measure

  pub bool_sized : (at : ℕ) → sized mono_measure (factor_comes s (raw.m_name (mono_names.Bool at))) ≡ Ok leaf
  unfolding factor_comes
  bool_sized at = ap Ok mono_bool_measure

  pub loc_sized : (at : ℕ) → sized mono_measure (factor_comes s (raw.m_name (mono_names.Loc at))) ≡ Ok leaf
  unfolding factor_comes
  loc_sized at = ap Ok mono_loc_measure

  pub unit_sized : (at : ℕ) → sized mono_measure (factor_comes s (raw.m_name (mono_names.Unit at))) ≡ Ok leaf
  unfolding factor_comes
  unit_sized at = ap Ok mono_unit_measure

  pub name_sized : (span : Span) (r : Result Size NameStop)
      → AnswersSize mono_measure r (mono_named s span)
      → AnswersSize mono_measure r (factor_comes s (raw.m_name (mono_names.Name span)))
  unfolding factor_comes
  name_sized span r h = h

pub ruleset names = (word_sized, bool_sized, loc_sized, unit_sized, name_sized)

pub var_sized : (due : Result MonoTree Stop) (n : ℕ) → due ≡ Ok (m_var n) → sized mono_measure due ≡ Ok leaf
var_sized due n h = ap (sized mono_measure) h ∙ ap Ok (mono_var_measure n)

pub tree_sized : (due : Result MonoTree Stop) (t : MonoTree) (z : Size)
    → due ≡ Ok t
    → z ≡ mono_measure t
    → sized mono_measure due ≡ Ok z
tree_sized due t z h is = ap (sized mono_measure) h ∙ ap Ok (sym is)

pub ruleset uses = (stop_sized, var_sized, tree_sized)

-- ---- pairs

abbrev size_in : Result Size Stop → Size
size_in (Ok z) = z
size_in (Err stop) = nothing

both_sized : (L R : Result MonoTree Stop) (a b : Size)
    → sized mono_measure L ≡ Ok a
    → sized mono_measure R ≡ Ok b
    → sized mono_measure (L >>= (λ l. R >>= (λ r. Ok (m_pair l r)))) ≡ Ok (node_of_two a b)
unfolding ◌>>=◌
both_sized (Err stop) R a b h k = grind (arith, h)
both_sized (Ok l) (Err stop) a b h k = grind (arith, k)
both_sized (Ok l) (Ok r) a b h k =
    ap Ok (mono_pair_measure l r)
    ∙ (λ j. Ok (node_of_two (size_in (h j)) (size_in (k j))))

second_stops : (L R : Result MonoTree Stop) (a : Size) (stop : Option Stop)
    → sized mono_measure L ≡ Ok a
    → IsStop stop (sized mono_measure R)
    → IsStop stop (sized mono_measure (L >>= (λ l. R >>= (λ r. Ok (m_pair l r)))))
unfolding ◌>>=◌
second_stops L R a None h k = k
second_stops (Err other) R a (Some stop) h k = grind (arith, h)
second_stops (Ok l) (Ok r) a (Some stop) h k = grind (arith, k)
second_stops (Ok l) (Err other) a (Some stop) h k = k

first_stops : (L R : Result MonoTree Stop) (stop : Option Stop)
    → IsStop stop (sized mono_measure L)
    → IsStop stop (sized mono_measure (L >>= (λ l. R >>= (λ r. Ok (m_pair l r)))))
unfolding ◌>>=◌
first_stops L R None h = h
first_stops (Ok l) R (Some stop) h = grind (arith, h)
first_stops (Err other) R (Some stop) h = h

module _ (s : Scope) where
  pub pair_sized : (f : raw.RawFactorTree) (m : raw.RawMonoTree) (a b z : Size)
      → sized mono_measure (factor_comes s f) ≡ Ok a
      → sized mono_measure (mono_comes s m) ≡ Ok b
      → z ≡ node_of_two a b
      → sized mono_measure (mono_comes s (raw.m_pair f m)) ≡ Ok z
  unfolding factor_comes
  pair_sized f m a b z h k is = both_sized (factor_comes s f) (mono_comes s m) a b h k ∙ ap Ok (sym is)

  pub pair_stops : (f : raw.RawFactorTree) (m : raw.RawMonoTree) (a : Size) (stop : Option Stop)
      → sized mono_measure (factor_comes s f) ≡ Ok a
      → IsStop stop (sized mono_measure (mono_comes s m))
      → IsStop stop (sized mono_measure (mono_comes s (raw.m_pair f m)))
  unfolding factor_comes
  pair_stops f m a stop h k = second_stops (factor_comes s f) (mono_comes s m) a stop h k

  -- ---- what stands at the right

  pub nothing_right : (f : raw.RawFactorTree) (z : Size)
      → sized mono_measure (factor_comes s f) ≡ Ok z
      → sized mono_measure (mono_comes s (with_right f (raw_right_tree vright.Nothing))) ≡ Ok z
  unfolding factor_comes
  nothing_right f z h = ap (λ o. sized mono_measure (mono_comes s (with_right f o))) raw_right_nothing ∙ h

  pub times_right : (f : raw.RawFactorTree) (m : RawMono) (r : Result Size NameStop)
      → AnswersSize mono_measure r (mono_comes s (raw.m_pair f (raw_mono_tree m)))
      → AnswersSize mono_measure r (mono_comes s (with_right f (raw_right_tree (vright.Times m))))
  times_right f m r h =
      subst (λ o. AnswersSize mono_measure r (mono_comes s (with_right f o))) (sym (raw_right_times m)) h

  -- ---- brackets

  pub alone_bracket : (at : ℕ) (m : raw.RawMonoTree) (z : Size)
      → sized mono_measure (mono_comes s m) ≡ Ok z
      → sized mono_measure (mono_comes s (raw_bracket_tree (vbracket.Alone at) m)) ≡ Ok z
  unfolding factor_comes
  alone_bracket at m z h = ap (λ t. sized mono_measure (mono_comes s t)) (raw_bracket_alone at m) ∙ h

  pub times_bracket : (at : ℕ) (right : RawMono) (m : raw.RawMonoTree) (z : Size) (r : Result Size NameStop)
      → sized mono_measure (mono_comes s m) ≡ Ok z
      → ((f : raw.RawFactorTree)
      → sized mono_measure (factor_comes s f) ≡ Ok z
      → AnswersSize mono_measure r (mono_comes s (raw.m_pair f (raw_mono_tree right))))
      → AnswersSize mono_measure r (mono_comes s (raw_bracket_tree (vbracket.Times at right) m))
  unfolding factor_comes
  times_bracket at right m z r h k =
      subst (λ t. AnswersSize mono_measure r (mono_comes s t)) (sym (raw_bracket_times at right m)) (k (raw.m_brackets at m) h)

  right_stops : (f : raw.RawFactorTree) (o : Option raw.RawMonoTree) (stop : Option Stop)
      → IsStop stop (sized mono_measure (factor_comes s f))
      → IsStop stop (sized mono_measure (mono_comes s (with_right f o)))
  unfolding factor_comes
  right_stops f None stop h = h
  right_stops f (Some m) stop h = first_stops (factor_comes s f) (mono_comes s m) stop h

  bracket_stops : (b : RawBracket) (m : raw.RawMonoTree) (stop : Option Stop)
      → IsStop stop (sized mono_measure (mono_comes s m))
      → IsStop stop (sized mono_measure (mono_comes s (raw_bracket_tree b m)))
  unfolding factor_comes raw_right_tree
  bracket_stops (bracket.Alone at) m stop h = h
  bracket_stops (bracket.Times' at pa (more_of-RawMono a b pc c end_of-RawMono)) m stop h =
      right_stops (raw.m_brackets at m) (Some (raw_brackets_row c (with_right (raw.m_name a) (raw_right_tree b)))) stop h

  brackets_stop : (bs : List RawBracket) (m : raw.RawMonoTree) (stop : Option Stop)
      → IsStop stop (sized mono_measure (mono_comes s m))
      → IsStop stop (sized mono_measure (mono_comes s (raw_brackets_tree bs m)))
  brackets_stop [] m stop h = h
  brackets_stop (b ∷ bs) m stop h = brackets_stop bs (raw_bracket_tree b m) stop (bracket_stops b m stop h)

  -- the brackets up to one, this one, and those behind it
  brackets_at : (bs : List RawBracket) (i : ℕ) (b : RawBracket) (m : raw.RawMonoTree)
      → i < length bs
      → b ≡ get_or bs i b
      → raw_brackets_tree bs m ≡ raw_brackets_tree (drop (suc i) bs) (raw_bracket_tree b (raw_brackets_tree (take i bs) m))
  brackets_at [] i b m h is = absurd (omega (arith, h))
  brackets_at (c ∷ cs) zero b m h is = ap (λ x. raw_brackets_tree cs (raw_bracket_tree x m)) (sym is)
  brackets_at (c ∷ cs) (suc i) b m h is = brackets_at cs i b (raw_bracket_tree c m) (omega (arith, h)) is

  brackets_next : (bs : List RawBracket) (i : ℕ) (b : RawBracket) (m : raw.RawMonoTree)
      → i < length bs
      → b ≡ get_or bs i b
      → raw_brackets_tree (take (suc i) bs) m ≡ raw_bracket_tree b (raw_brackets_tree (take i bs) m)
  brackets_next [] i b m h is = absurd (omega (arith, h))
  brackets_next (c ∷ cs) zero b m h is = ap (λ x. raw_bracket_tree x m) (sym is)
  brackets_next (c ∷ cs) (suc i) b m h is = brackets_next cs i b (raw_bracket_tree c m) (omega (arith, h)) is

  -- a monotype in those of its brackets that were taken
  start : RawMono → raw.RawMonoTree
  start m = with_right (raw.m_name m.name) (raw_right_tree m.right)

  pub name_stops : (m : RawMono) (stop : Option Stop)
      → IsStop stop (sized mono_measure (factor_comes s (raw.m_name m.name)))
      → IsStop stop (sized mono_measure (mono_comes s (raw_brackets_tree m.brackets (with_right (raw.m_name m.name) (raw_right_tree m.right)))))
  name_stops m stop h = brackets_stop m.brackets _ stop (right_stops (raw.m_name m.name) (raw_right_tree m.right) stop h)

  pub start_stops : (bs : List RawBracket) (m : raw.RawMonoTree) (stop : Option Stop)
      → IsStop stop (sized mono_measure (mono_comes s m))
      → IsStop stop (sized mono_measure (mono_comes s (raw_brackets_tree bs m)))
  start_stops bs m stop h = brackets_stop bs m stop h

  pub inner_stops : (bs : List RawBracket) (i : ℕ) (b : RawBracket) (m : raw.RawMonoTree) (stop : Option Stop)
      → i < length bs
      → b ≡ get_or bs i b
      → IsStop stop (sized mono_measure (mono_comes s (raw_bracket_tree b (raw_brackets_tree (take i bs) m))))
      → IsStop stop (sized mono_measure (mono_comes s (raw_brackets_tree bs m)))
  inner_stops bs i b m stop below is h =
      subst (λ t. IsStop stop (sized mono_measure (mono_comes s t))) (sym (brackets_at bs i b m below is))
      (brackets_stop (drop (suc i) bs) (raw_bracket_tree b (raw_brackets_tree (take i bs) m)) stop h)

  pub start_sized : (bs : List RawBracket) (m : raw.RawMonoTree) (z : Size)
      → sized mono_measure (mono_comes s m) ≡ Ok z
      → sized mono_measure (mono_comes s (raw_brackets_tree (take 0 bs) m)) ≡ Ok z
  start_sized [] m z h = h
  start_sized (b ∷ bs) m z h = h

  pub next_sized : (bs : List RawBracket) (i : ℕ) (b : RawBracket) (m : raw.RawMonoTree) (z : Size)
      → i < length bs
      → b ≡ get_or bs i b
      → sized mono_measure (mono_comes s (raw_bracket_tree b (raw_brackets_tree (take i bs) m))) ≡ Ok z
      → sized mono_measure (mono_comes s (raw_brackets_tree (take (i + 1) bs) m)) ≡ Ok z
  next_sized bs i b m z below is h =
      let next : i + 1 ≡ suc i = omega arith in
      ap (λ n. sized mono_measure (mono_comes s (raw_brackets_tree (take n bs) m))) next
      ∙ ap (λ t. sized mono_measure (mono_comes s t)) (brackets_next bs i b m below is)
      ∙ h

  pub all_sized : (bs : List RawBracket) (i : ℕ) (m : raw.RawMonoTree) (z : Size)
      → length bs ≤ i
      → sized mono_measure (mono_comes s (raw_brackets_tree (take i bs) m)) ≡ Ok z
      → sized mono_measure (mono_comes s (raw_brackets_tree bs m)) ≡ Ok z
  all_sized bs i m z all h = subst (λ xs. sized mono_measure (mono_comes s (raw_brackets_tree xs m)) ≡ Ok z) (take_all i bs all) h

pub ruleset brackets = (name_stops, start_stops, inner_stops, start_sized, next_sized, all_sized)

pub ruleset pairs = (pair_sized, pair_stops)

pub ruleset rights = (nothing_right, times_right)

pub ruleset bracketed = (alone_bracket, times_bracket)
