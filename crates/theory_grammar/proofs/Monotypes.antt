-- The readers of names, numbers, heaps and monotypes get what is spelled.
use Rattle.std.proofs.Common.{◌≡◌, ℕ, zero, suc, ◌≤◌, List, [], ◌∷◌, refl, sym, ◌∙◌, ap, subst}
use Rattle.std.specs.Prelude.{Bool, true, false, ◌||◌, Option, Some, None}
use Rattle.htt_lexer_tokens.specs.declared.tokens.Kind.{Kind}
use Rattle.htt_lexer_tokens.specs.declared.tokens.Kind.TheVariants.{Sign}
use Rattle.htt_lexer_tokens.specs.declared.tokens.Token.{Token}
use Rattle.htt_lexer_tokens.specs.declared.tokens.Sign.TheVariants.{OpenParenSign, CloseParenSign, StarSign, CaretSign, CommaSign}
use Rattle.htt_parser_trees.specs.declared.place.Span.{Span}
use Rattle.htt_parser_trees.specs.declared.place.Binder.{Binder}
use Rattle.htt_parser_trees.specs.declared.place.Binder.TheVariants as binders
use Rattle.htt_parser_trees.specs.declared.mono.MonoName.{MonoName}
use Rattle.htt_parser_trees.specs.declared.mono.MonoName.TheVariants as mono_names
use Rattle.htt_parser_trees.specs.declared.tree.RawHeap.{RawHeap}
use Rattle.htt_parser_trees.specs.declared.tree.RawHeap.TheVariants as heaps
use Rattle.htt_parser_trees.specs.Trees.{with_right, RawFactorTree, RawMonoTree, m_name, m_brackets, m_factor, m_pair, RawTyTree, RawTermTree, RawCompTree}
use Rattle.htt_parser_trees.specs.Trees.{RawFormulaTree, RawDisjTree, RawConjTree, RawStarTree, RawProofTree}
use Rattle.theory_grammar.specs.Marks.{Mark, Limits, ◌⨟◌, sign, name, number, each_after}
use Rattle.theory_grammar.specs.Grammar
use Rattle.theory_grammar.specs.Readers.{Reader, measured, stop, either, same_kind, after_commas}
use Rattle.theory_grammar.specs.Beginnings.{begins_mono_name, begins_mono, goes_on_heap, goes_on_mono, goes_on_list, goes_on_rel, goes_on_star, goes_on_conj}
use Rattle.theory_grammar.specs.Beginnings.{goes_on_disj, goes_on_formula}
use Rattle.theory_grammar.specs.Phrases.{Deeper, a_binder, a_name_there, a_number_there, over_there, a_heap, mono_right, mono_closes, mono_name_case}
use Rattle.theory_grammar.specs.Phrases.{mono_inside, mono_case, mono_opens, mono_reader, bracketed, more_monos}
use Rattle.theory_grammar.proofs.Spells.{Spells, Stops, Leads, leads_of, leads_then}
use Rattle.theory_grammar.proofs.Gets.{Gets, giving, then, then_any, until_last, last, taken, taken_less, taken_at, taken_alone, passed, ended, measuring}
use Rattle.theory_grammar.proofs.Gets.{no_room, stops_less, or_left, or_right, regroup, nothing_after, that_not, skip, skip_last}
use Rattle.theory_grammar.proofs.Opens.{opens_factor}

-- the readers one level deeper read whatever is spelled at this level
pub record Knows (lim : Limits) (d : Deeper) (l : ℕ) : Type 0 where
  pub further : lim.chain ≤ suc d.further
  pub ty : {n : ℕ} (a : RawTyTree) → Gets lim goes_on_mono n d.ty (Grammar.ty l a) a
  pub term : {n : ℕ} (m : RawTermTree) → Gets lim goes_on_rel n d.term (Grammar.term l m) m
  pub comp : {n : ℕ} (e : RawCompTree) → Gets lim goes_on_rel n d.comp (Grammar.comp l e) e
  pub formula : {n : ℕ} (f : RawFormulaTree) → Gets lim goes_on_formula n d.formula (Grammar.formula l f) f
  pub disj : {n : ℕ} (e : RawDisjTree) → Gets lim goes_on_disj n d.disj (Grammar.disj l e) e
  pub conj : {n : ℕ} (e : RawConjTree) → Gets lim goes_on_conj n d.conj (Grammar.conj l e) e
  pub star : {n : ℕ} (e : RawStarTree) → Gets lim goes_on_star n d.star (Grammar.star l e) e
  pub mono : {n : ℕ} (m : RawMonoTree) → Gets lim goes_on_mono n d.mono (Grammar.mono l m) m
  pub proof : {n : ℕ} {c : Kind → Bool} (p : RawProofTree) → Gets lim c n d.proof (Grammar.proof l p) p

module _ {lim : Limits} {c : Kind → Bool} {n : ℕ} (l : ℕ) where
  pub binder_gets : (b : Binder) → Gets lim c n a_binder (Grammar.binder l b) b
  unfolding a_binder
  binder_gets (binders.Name s) = taken_alone _ _ refl (λ there at span. ap binders.Name span)
  binder_gets binders.Blank = taken_alone _ _ refl (λ there at span. refl)

  pub name_gets : (s : Span) → Gets lim c n a_name_there (name l s) s
  unfolding a_name_there
  name_gets s = taken_alone _ _ refl (λ there at span. span)

  pub number_gets : (v : ℕ) → Gets lim c n a_number_there (number l v) v
  unfolding a_number_there
  number_gets v = taken_alone _ _ refl (λ there at span. refl)

  mono_name_gets : (x : MonoName) → Gets lim c n (either mono_name_case stop) (Grammar.mono_name l x) x
  mono_name_gets (mono_names.Word at) = taken_alone _ _ refl (λ there e span. ap mono_names.Word e)
  mono_name_gets (mono_names.Bool at) = taken_alone _ _ refl (λ there e span. ap mono_names.Bool e)
  mono_name_gets (mono_names.Loc at) = taken_alone _ _ refl (λ there e span. ap mono_names.Loc e)
  mono_name_gets (mono_names.Unit at) = taken_alone _ _ refl (λ there e span. ap mono_names.Unit e)
  mono_name_gets (mono_names.Name s) = taken_alone _ _ refl (λ there at span. ap mono_names.Name span)

over_gets : {lim : Limits} {n : ℕ} (l : ℕ) (o : Option ℕ) → Gets lim goes_on_heap n over_there (Grammar.over l o) o
unfolding over_there
over_gets l None = ended (λ k h. that_not k (Sign CaretSign) _ h) giving
over_gets l (Some v) = taken _ _ _ refl (λ s at span. last Some (number_gets l v))

pub heap_gets : {lim : Limits} {n : ℕ} (l : ℕ) (h : RawHeap) → Gets lim goes_on_heap n a_heap (Grammar.heap l h) h
unfolding a_heap
heap_gets l (heaps.Name s) = taken_alone _ _ refl (λ there at span. ap heaps.Name span)
heap_gets l (heaps.Init at o) = taken_at (λ a. heaps.Init a o) _ _ _ _ _ _ refl (λ s. last (heaps.Init s.from) (over_gets l o))
heap_gets l (heaps.Mem at o) = taken_at (λ a. heaps.Mem a o) _ _ _ _ _ _ refl (λ s. last (heaps.Mem s.from) (over_gets l o))

-- ---- monotypes

pub leads_mono_name : (l : ℕ) (x : MonoName) → Leads begins_mono_name (Grammar.mono_name l x)
leads_mono_name l (mono_names.Word at) = refl
leads_mono_name l _ = refl

no_bracket : (next : List ℕ → Reader RawMonoTree) (opens : List ℕ) (k : Kind) → begins_mono_name k ≡ true → mono_case next opens k ≡ None
no_bracket next opens (Sign OpenParenSign) h = absurd (let no : false ≡ true = h in cc)
no_bracket next opens _ h = refl

pub leads_mark : (c : Kind → Bool) (m : Mark) (ns : List Mark) → c m.kind ≡ true → Leads c ((m ∷ []) ⨟ ns)
unfolding ◌⨟◌
leads_mark c m ns h = h

-- what stands before such a mark stops there
pub stops_at : (c : Kind → Bool) (lim : Limits) (m : Mark) (ns : List Mark) (mid rest : List Token)
    → c m.kind ≡ false
    → Spells lim ((m ∷ []) ⨟ ns) mid rest
    → Stops c mid
unfolding ◌⨟◌
stops_at c lim m ns mid rest ends s = subst (Stops c) (sym s.2) (ap c s.3.kind ∙ ends)

-- ---- lists with commas

-- a list goes on with a comma, and with what its last item goes on with
abbrev pub list_goes_on : (Kind → Bool) → Kind → Bool
list_goes_on c k = same_kind k (Sign CommaSign) || c k

module _ {A : Type 0} {lim : Limits} (c : Kind → Bool) (l : ℕ) (r : Reader A) (marks : A → List Mark) (ends : c (Sign CommaSign) ≡ false)
    (item : (n : ℕ) (x : A) → Gets lim c n r (marks x) x) where
  pub before_more : (xs : List A) (mid rest : List Token)
      → Spells lim (each_after (sign l CommaSign) marks xs) mid rest
      → Stops (list_goes_on c) rest
      → Stops c mid
  unfolding each_after
  before_more [] mid rest s stops = subst (Stops c) (sym s) (stops_less (list_goes_on c) c rest (λ k h. or_right (same_kind k (Sign CommaSign)) (c k) h) stops)
  before_more (x ∷ xs) mid rest s stops = stops_at c lim _ _ mid rest ends s

  -- and where a token follows that ends it
  pub each_stops : (m : Mark) (ns : List Mark)
      → c m.kind ≡ false
      → (xs : List A) (mid rest : List Token)
      → Spells lim (each_after (sign l CommaSign) marks xs ⨟ ((m ∷ []) ⨟ ns)) mid rest
      → Stops c mid
  unfolding each_after ◌⨟◌
  each_stops m ns end [] mid rest s = subst (Stops c) (sym s.2) (ap c s.3.kind ∙ end)
  each_stops m ns end (x ∷ xs) mid rest s = subst (Stops c) (sym s.2) (ap c s.3.kind ∙ ends)

  pub each_stops_last : (m : Mark)
      → c m.kind ≡ false
      → (xs : List A) (mid rest : List Token)
      → Spells lim (each_after (sign l CommaSign) marks xs ⨟ (m ∷ [])) mid rest
      → Stops c mid
  unfolding each_after ◌⨟◌
  each_stops_last m end [] mid rest s = subst (Stops c) (sym s.2) (ap c s.3.kind ∙ end)
  each_stops_last m end (x ∷ xs) mid rest s = subst (Stops c) (sym s.2) (ap c s.3.kind ∙ ends)

  pub commas_get : (n : ℕ) (xs : List A) → Gets lim (list_goes_on c) n (after_commas (Sign CommaSign) r n) (each_after (sign l CommaSign) marks xs) xs
  unfolding each_after after_commas
  commas_get zero [] = giving
  commas_get zero (x ∷ xs) = no_room goes_on_list (leads_mark goes_on_list _ _ refl)
  commas_get (suc n) [] = ended (λ k h. that_not k (Sign CommaSign) _ (or_left (same_kind k (Sign CommaSign)) (c k) h)) giving
  commas_get (suc n) (x ∷ xs) = taken_less _ _ _ refl (λ s at span. then _ (item n x) (before_more xs) (last (λ others. x ∷ others) (commas_get n xs)))

  -- the further items, where there are as many tokens as it takes
  pub more_get : {n : ℕ} (xs : List A) → Gets lim (list_goes_on c) n (measured (after_commas (Sign CommaSign) r)) (each_after (sign l CommaSign) marks xs) xs
  more_get xs = measuring (λ k. commas_get k xs)

module _ {lim : Limits} (d : Deeper) (l : ℕ) (know : Knows lim d (suc l)) where
  -- the marks of what stands at the right of a factor
  right_marks : Option RawMonoTree → List Mark
  right_marks None = []
  right_marks (Some m) = sign l StarSign ⨟ Grammar.mono (suc l) m

  right_gets : {n : ℕ} (r : Option RawMonoTree) → Gets lim goes_on_mono n (mono_right d) (right_marks r) r
  unfolding mono_right right_marks
  right_gets None = ended (λ k h. that_not k (Sign StarSign) _ h) giving
  right_gets (Some m) = taken _ _ _ refl (λ s at span. last Some (know.mono m))

  empty_between : {c : Kind → Bool} {n : ℕ} {r : Reader RawMonoTree} {y : RawMonoTree} (a ns : List Mark)
      → Gets lim c n r (a ⨟ ([] ⨟ ns)) y
      → Gets lim c n r (a ⨟ ns) y
  unfolding ◌⨟◌
  empty_between a ns gets = gets

  mutual
    unfolding Grammar.factor mono_opens mono_inside mono_closes right_marks

    spine : {c : Kind → Bool} (n : ℕ) (opens : List ℕ) (m : RawMonoTree) (ns : List Mark) (y : RawMonoTree)
        → ((mid rest : List Token) → Spells lim ns mid rest → Stops c rest → Stops goes_on_mono mid)
        → ((k : ℕ) → Gets lim c k (mono_closes d opens m) ns y)
        → Gets lim c n (mono_opens d n opens) (Grammar.mono l m ⨟ ns) y
    spine n opens (m_factor f) ns y before closes = empty_between (Grammar.factor l f) ns (spine_factor n opens f None ns y before closes)
    spine n opens (m_pair f r) ns y before closes = regroup _ _ _ (spine_factor n opens f (Some r) ns y before closes)

    spine_factor : {c : Kind → Bool} (n : ℕ) (opens : List ℕ) (f : RawFactorTree) (r : Option RawMonoTree) (ns : List Mark)
        (y : RawMonoTree)
        → ((mid rest : List Token) → Spells lim ns mid rest → Stops c rest → Stops goes_on_mono mid)
        → ((k : ℕ) → Gets lim c k (mono_closes d opens (with_right f r)) ns y)
        → Gets lim c n (mono_opens d n opens) (Grammar.factor l f ⨟ (right_marks r ⨟ ns)) y
    spine_factor zero opens f r ns y before closes =
        no_room begins_mono (leads_then begins_mono (Grammar.factor l f) _ (leads_of begins_mono l (Grammar.factor l f) (opens_factor l f)))
    spine_factor (suc n) opens (m_name x) r ns y before closes =
        passed begins_mono_name (leads_then begins_mono_name (Grammar.mono_name l x) _ (leads_mono_name l x)) (no_bracket (mono_opens d n) opens)
        (then_any _ (mono_name_gets l x) (then _ (right_gets r) before (closes (suc n))))
    spine_factor {c = c} (suc n) opens (m_brackets at m') r ns y before closes =
        regroup _ _ _ (taken_less _ _ _ refl (λ s e span. regroup _ _ _ (spine n (s.from ∷ opens) m' (sign l CloseParenSign ⨟ (right_marks r ⨟ ns)) y
        (λ mid rest told stops. stops_at goes_on_mono lim _ _ mid rest refl told)
        (λ k.
        skip _ _ _ refl (then _ (right_gets r) before
        (subst (λ a. Gets lim c k (mono_closes d opens (with_right (m_brackets a m') r)) ns y) (sym e) (closes k)))))))

  closed : {j : ℕ} (m : RawMonoTree) → Gets lim goes_on_mono j (mono_closes d [] m) [] m
  unfolding mono_closes
  closed m = giving

  pub mono_gets : {n : ℕ} (m : RawMonoTree) → Gets lim goes_on_mono n (mono_reader d) (Grammar.mono l m) m
  unfolding mono_reader
  mono_gets m =
      measuring (λ k.
      nothing_after (Grammar.mono l m) (spine k [] m [] m (λ mid rest s stops. subst (Stops goes_on_mono) (sym s) stops) (λ j. closed m)))

  pub bracketed_gets : {c : Kind → Bool} {n : ℕ} (m : RawMonoTree) → Gets lim c n (bracketed d) (Grammar.in_brackets l m) m
  unfolding bracketed
  bracketed_gets m = skip _ _ _ refl (until_last _ refl (mono_gets m) (skip_last _ refl))

  pub monos_stop : (m : Mark) (ns : List Mark)
      → goes_on_mono m.kind ≡ false
      → (ms : List RawMonoTree) (mid rest : List Token)
      → Spells lim (each_after (sign l CommaSign) (Grammar.mono l) ms ⨟ ((m ∷ []) ⨟ ns)) mid rest
      → Stops goes_on_mono mid
  monos_stop m ns end ms mid rest s = each_stops goes_on_mono l (mono_reader d) (Grammar.mono l) refl (λ n t. mono_gets t) m ns end ms mid rest s

  pub more_monos_get : {n : ℕ} (ms : List RawMonoTree)
      → Gets lim (list_goes_on goes_on_mono) n (more_monos d) (each_after (sign l CommaSign) (Grammar.mono l) ms) ms
  unfolding more_monos
  more_monos_get ms = more_get goes_on_mono l (mono_reader d) (Grammar.mono l) refl (λ n m. mono_gets m) ms
