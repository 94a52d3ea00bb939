-- What monotypes come to, part by part.
use Rattle.std.proofs.Common.{◌≡◌, ℕ, zero, suc, ◌+◌, ◌<◌, ◌≤◌, List, [], ◌∷◌, take, length, get_or, refl, sym, ap, ◌∙◌, arith, subst}
use Rattle.std.proofs.lemmas.List.{take_all}
use Rattle.std.specs.Prelude.{Option, Some, None, option_map, Result, Ok}
use Rattle.htt_syntax.specs.Trees.{MonoTree, m_pair}
use Rattle.htt_syntax.specs.Views.{mono_tree}
use Rattle.htt_syntax.specs.declared.mono.Mono.{Mono}
use Rattle.htt_syntax.specs.declared.mono.Mono.TheVariants as vmono
use Rattle.htt_syntax.specs.Levels.{mono_word, mono_bool, mono_loc, mono_unit}
use Rattle.htt_parser_trees.specs.declared.mono.MonoName.TheVariants as mono_names
use Rattle.htt_parser_trees.specs.declared.mono.RawMono.{RawMono}
use Rattle.htt_parser_trees.specs.declared.mono.RawRight.TheVariants as vright
use Rattle.htt_parser_trees.specs.declared.mono.RawBracket.{RawBracket}
use Rattle.htt_parser_trees.specs.declared.mono.RawBracket.TheVariants as vbracket
use Rattle.htt_parser_trees.specs.declared.place.Span.{Span}
use Rattle.htt_parser_trees.specs.Trees as raw
use Rattle.htt_parser_trees.specs.Trees.{with_right}
use Rattle.htt_parser_trees.specs.MonoViews.{raw_right_tree, raw_bracket_tree}
use Rattle.htt_parser_trees.specs.MonoLevels.{raw_mono_tree, raw_brackets_tree, raw_right_nothing, raw_right_times, raw_bracket_alone, raw_bracket_times}
use Rattle.theory_text_names.specs.Stops.{◌>>=◌}
use Rattle.theory_text_names.specs.Scopes.{Scope}
use Rattle.theory_text_names.specs.Uses.{mono_named}
use Rattle.theory_text.specs.Monotypes.{factor_comes, mono_comes}
use Rattle.htt_resolve_monos.specs.Sized.{Builds}
use Rattle.htt_resolve_monos.specs.Pairs.{paired, BuildsRight, BuildsBehind}

module _ (s : Scope) where
  -- ---- first words

  pub word_built : (at : ℕ) → factor_comes s (raw.m_name (mono_names.Word at)) ≡ Ok (mono_tree vmono.Word)
  unfolding factor_comes
  word_built at = ap Ok (sym mono_word)

  pub bool_built : (at : ℕ) → factor_comes s (raw.m_name (mono_names.Bool at)) ≡ Ok (mono_tree vmono.Bool)
  unfolding factor_comes
  bool_built at = ap Ok (sym mono_bool)

  pub loc_built : (at : ℕ) → factor_comes s (raw.m_name (mono_names.Loc at)) ≡ Ok (mono_tree vmono.Loc)
  unfolding factor_comes
  loc_built at = ap Ok (sym mono_loc)

  pub unit_built : (at : ℕ) → factor_comes s (raw.m_name (mono_names.Unit at)) ≡ Ok (mono_tree vmono.Unit)
  unfolding factor_comes
  unit_built at = ap Ok (sym mono_unit)

  pub name_built : {E : Type 0} (span : Span) (r : Result Mono E)
      → Builds mono_tree r (mono_named s span)
      → Builds mono_tree r (factor_comes s (raw.m_name (mono_names.Name span)))
  unfolding factor_comes
  name_built span r h = h

  -- ---- pairs

  pair_built : (f : raw.RawFactorTree) (m : raw.RawMonoTree) (left right : MonoTree)
      → factor_comes s f ≡ Ok left
      → mono_comes s m ≡ Ok right
      → mono_comes s (raw.m_pair f m) ≡ Ok (m_pair left right)
  unfolding factor_comes ◌>>=◌
  pair_built f m left right h k =
      ap (λ l. l >>= (λ a. mono_comes s m >>= (λ b. Ok (m_pair a b)))) h ∙ ap (λ r. r >>= (λ b. Ok (m_pair left b))) k

  -- ---- what stands at the right, and brackets

  pub nothing_right : BuildsRight s (raw_right_tree vright.Nothing) None
  unfolding factor_comes
  nothing_right f left h = ap (λ o. mono_comes s (with_right f o)) raw_right_nothing ∙ h

  pub times_right : (m : RawMono) (right : Mono)
      → mono_comes s (raw_mono_tree m) ≡ Ok (mono_tree right)
      → BuildsRight s (raw_right_tree (vright.Times m)) (Some (mono_tree right))
  times_right m right k f left h =
      ap (λ o. mono_comes s (with_right f o)) (raw_right_times m)
      ∙ pair_built f (raw_mono_tree m) left (mono_tree right) h k

  pub alone_behind : (at : ℕ) → BuildsBehind s (vbracket.Alone at) None
  unfolding factor_comes
  alone_behind at m left h = ap (mono_comes s) (raw_bracket_alone at m) ∙ h

  pub times_behind : (at : ℕ) (behind : RawMono) (right : Mono)
      → mono_comes s (raw_mono_tree behind) ≡ Ok (mono_tree right)
      → BuildsBehind s (vbracket.Times at behind) (Some (mono_tree right))
  unfolding factor_comes
  times_behind at behind right k m left h =
      ap (mono_comes s) (raw_bracket_times at behind m)
      ∙ pair_built (raw.m_brackets at m) (raw_mono_tree behind) left (mono_tree right) h k

  brackets_next : (bs : List RawBracket) (i : ℕ) (b : RawBracket) (m : raw.RawMonoTree)
      → i < length bs
      → b ≡ get_or bs i b
      → raw_brackets_tree (take (suc i) bs) m ≡ raw_bracket_tree b (raw_brackets_tree (take i bs) m)
  brackets_next [] i b m h is = absurd (omega (arith, h))
  brackets_next (c ∷ cs) zero b m h is = ap (λ x. raw_bracket_tree x m) (sym is)
  brackets_next (c ∷ cs) (suc i) b m h is = brackets_next cs i b (raw_bracket_tree c m) (omega (arith, h)) is

  pub start_built : (m : RawMono) (name t : Mono) (right : Option Mono)
      → factor_comes s (raw.m_name m.name) ≡ Ok (mono_tree name)
      → BuildsRight s (raw_right_tree m.right) (option_map mono_tree right)
      → mono_tree t ≡ paired (mono_tree name) (option_map mono_tree right)
      → mono_comes s (raw_brackets_tree (take 0 m.brackets) (with_right (raw.m_name m.name) (raw_right_tree m.right)))
      ≡ Ok (mono_tree t)
  start_built m name t right h k is = none_yet m.brackets ∙ k (raw.m_name m.name) (mono_tree name) h ∙ ap Ok (sym is)
    where
      none_yet : (bs : List RawBracket)
          → mono_comes s (raw_brackets_tree (take 0 bs) (with_right (raw.m_name m.name) (raw_right_tree m.right)))
          ≡ mono_comes s (with_right (raw.m_name m.name) (raw_right_tree m.right))
      none_yet [] = refl
      none_yet (b ∷ bs) = refl

  pub next_built : (bs : List RawBracket) (i : ℕ) (b : RawBracket) (m : raw.RawMonoTree) (before t : Mono) (right : Option Mono)
      → i < length bs
      → b ≡ get_or bs i b
      → mono_comes s (raw_brackets_tree (take i bs) m) ≡ Ok (mono_tree before)
      → BuildsBehind s b (option_map mono_tree right)
      → mono_tree t ≡ paired (mono_tree before) (option_map mono_tree right)
      → mono_comes s (raw_brackets_tree (take (i + 1) bs) m) ≡ Ok (mono_tree t)
  next_built bs i b m before t right below at h k is =
      let next : i + 1 ≡ suc i = omega arith in
      ap (λ n. mono_comes s (raw_brackets_tree (take n bs) m)) next
      ∙ ap (mono_comes s) (brackets_next bs i b m below at)
      ∙ k (raw_brackets_tree (take i bs) m) (mono_tree before) h
      ∙ ap Ok (sym is)

  pub all_built : (bs : List RawBracket) (i : ℕ) (m : raw.RawMonoTree) (t : Mono)
      → length bs ≤ i
      → mono_comes s (raw_brackets_tree (take i bs) m) ≡ Ok (mono_tree t)
      → mono_comes s (raw_brackets_tree bs m) ≡ Ok (mono_tree t)
  all_built bs i m t all h = subst (λ xs. mono_comes s (raw_brackets_tree xs m) ≡ Ok (mono_tree t)) (take_all i bs all) h

pub ruleset names = (word_built, bool_built, loc_built, unit_built, name_built)

pub ruleset rights = (nothing_right, times_right)

pub ruleset bracketed = (alone_behind, times_behind)

pub ruleset brackets = (start_built, next_built, all_built)
