-- The body of a recursive predicate says of arguments that are put in it what it says in the predicate's
-- own world.
use Rattle.std.proofs.Common.{◌≡◌, ℕ, zero, suc, List, [], ◌∷◌, ◌++◌, length, map, Some, arith, refl, sym, ap, ◌∙◌, subst}
use Rattle.std.specs.Prelude.{slice_get}
use Rattle.htt_syntax.specs.Trees.{MonoTree, TyTree, FormulaTree, ArgTree, m_var, y_mono, y_fun, y_all, y_hoare, y_at, a_heap, a_term}
use Rattle.theory_renaming.specs.Renaming.{Map, lift, rename_mono}
use Rattle.theory_denotation_renaming.proofs.Filled.{fill_next}
use Rattle.theory_renaming.proofs.Identity.{formula_stays}
use Rattle.theory_values.specs.Values.{Value}
use Rattle.theory_values.specs.Heaps.{Heap}
use Rattle.theory_truth.specs.Worlds.{World, th_value, th_heap}
use Rattle.theory_truth.specs.Truth.{Recs, Holds}
use Rattle.theory_truth.specs.Predicates.{world_of_values}
use Rattle.theory_canonical.specs.Skeletons.{Skeleton, sk_o, skeleton}
use Rattle.theory_canonical.specs.Contexts.{Standing, as_heap, as_term, Stands, here, there, KeepsStandings, Heads, HasSkeleton, first_head, later_head}
use Rattle.theory_canonical.specs.Canonical.{IsCanonicalFormula}
use Rattle.theory_canonical.proofs.Renamed.{keeps_lift, formula_renamed}
use Rattle.theory_substitution.specs.Monotypes.{Filling, next_filling, fill_formula}
use Rattle.theory_substitution_unused.proofs.FilledBack.{Undoes, formula_filled as formula_back}
use Rattle.theory_typing.specs.Contexts.{Context, Environment, en_term, EndsInHoare}
use Rattle.theory_items.specs.Items.{with_params}
use Rattle.theory_typing_canonical.specs.Environments.{standings, heads_of}
use Rattle.theory_logic_rules.specs.Sequents.{terms_of}
use Rattle.theory_denotation.specs.Valuations.{ValuationEntry, den_heap, den_term, Valuation, heap_in, HeadEntries}
use Rattle.theory_denotation.specs.Denotation.{term_den, terms_den}
use Rattle.theory_denotation.specs.Satisfaction.{Satisfies}
use Rattle.theory_denotation.specs.Valued.{ContextValued, HeadsValued, EndsInRun, ends_c, ends_arrow, ends_all, HeadsRun, OnlyValues, valuation_of}
use Rattle.theory_denotation.proofs.HeadsDenote.{valued_term, valued_other}
use Rattle.theory_denotation.proofs.FirstOrder.{truth_first}
use Rattle.theory_denotation_renaming.specs.Along.{FillAlong}
use Rattle.theory_denotation_renaming.proofs.FilledTruth.{truth_filled}
use Rattle.theory_items_sound.specs.Environments.{SoundEnvironment}
use Rattle.theory_logic_unfoldings_satisfied.specs.Entries.{with_args, with_entries}

-- Arguments of parameters are terms.
abbrev pub AllTerms : List ArgTree → Type 0
AllTerms [] = Unit {0}
AllTerms (a_heap h ∷ others) = ⊥
AllTerms (a_term m ∷ others) = AllTerms others

-- values as further entries, the first of them outermost
abbrev pub with_values : List Value → Valuation → Valuation
with_values [] w = w
with_values (v ∷ vs) w = with_values vs (den_term sk_o v ∷ w)

world_values : (vs : List Value) (w : World) → valuation_of (world_of_values w vs) ≡ with_values vs (valuation_of w)
world_values [] w = refl
world_values (v ∷ vs) w = world_values vs (th_value v ∷ w)

pub args_entries : (e : HeadEntries) (w : Valuation) (values : List ArgTree) (h : ℕ) (inner : Valuation)
    → AllTerms values
    → with_entries e w (values ++ a_heap h ∷ []) inner ≡ den_heap (heap_in w h) ∷ with_values (terms_den e w (terms_of values)) inner
unfolding term_den terms_of
args_entries e w [] h inner d = refl
args_entries e w (a_heap k ∷ others) h inner d = absurd d
args_entries e w (a_term m ∷ others) h inner d = args_entries e w others h (den_term sk_o (term_den e w m sk_o) ∷ inner) d

pub as_many : (e : HeadEntries) (w : Valuation) (values : List ArgTree) → AllTerms values → length (terms_den e w (terms_of values)) ≡ length values
unfolding term_den terms_of
as_many e w [] d = refl
as_many e w (a_heap k ∷ others) d = absurd d
as_many e w (a_term m ∷ others) d = ap suc (as_many e w others d)

-- the values of an environment end in computations
pub ends_run : (ty : TyTree) → EndsInHoare ty → EndsInRun (skeleton ty)
unfolding skeleton
ends_run (y_mono mono) r = absurd r
ends_run (y_fun argument answer) r = ends_arrow (ends_run answer r)
ends_run (y_all body) r = ends_all (ends_run body r)
ends_run (y_hoare spec) r = ends_c
ends_run (y_at at ty) r = absurd r

types_run : (types : List TyTree)
    → ((n : ℕ) (ty : TyTree) → slice_get types n ≡ Some ty → EndsInHoare ty)
    → (n : ℕ) (s : Skeleton)
    → HasSkeleton (map skeleton types) n s
    → EndsInRun s
types_run [] f n s d = elim d [ ]
types_run (u ∷ types) f zero s first_head = ends_run u (f zero u refl)
types_run (u ∷ types) f (suc n) s (later_head d) = types_run types (λ k. f (suc k)) n s d

pub heads_run : {env : Environment} → SoundEnvironment env → HeadsRun (heads_of env)
heads_run {env = env} s = record { vals = types_run env.vals s.vals_end; made = λ n s d. elim d [ ] }

-- entries of monotypes alone
only_none : OnlyValues []
only_none = record { at = λ n s d. elim d [ ] }

only_value : {g : List Standing} → OnlyValues g → OnlyValues (as_term sk_o ∷ g)
only_value {g = g} o = record { at = go }
  where
    go : (n : ℕ) (s : Skeleton) → Stands (as_term sk_o ∷ g) n (as_term s) → s ≡ sk_o
    go zero s here = refl
    go (suc n) s (there d) = o.at n s d

only_heap : {g : List Standing} → OnlyValues g → OnlyValues (as_heap ∷ g)
only_heap {g = g} o = record { at = go }
  where
    go : (n : ℕ) (s : Skeleton) → Stands (as_heap ∷ g) n (as_term s) → s ≡ sk_o
    go zero s d = elim d [ ]
    go (suc n) s (there d) = o.at n s d

only_params : (params : List MonoTree) (c : Context) → OnlyValues (standings c) → OnlyValues (standings (with_params c params))
unfolding skeleton
only_params [] c o = o
only_params (t ∷ params) c o = only_params params (en_term (y_mono t) ∷ c) (only_value o)

-- valuations that agree on a context
same_filling : next_filling m_var ≡ m_var
unfolding next_filling rename_mono
same_filling = λ j n. go n j
  where
    go : (n : ℕ) → next_filling m_var n ≡ m_var n
    go zero = refl
    go (suc n) = refl

same_map : lift (λ n. n) ≡ (λ n. n)
unfolding lift
same_map = λ j n. go n j
  where
    go : (n : ℕ) → lift (λ k. k) n ≡ n
    go zero = refl
    go (suc n) = refl

same_next : {g : List Standing} {w v : Valuation} (s : Standing) (x : ValuationEntry)
    → FillAlong m_var (λ n. n) g w v
    → FillAlong m_var (λ n. n) (s ∷ g) (x ∷ w) (x ∷ v)
same_next {g = g} {w = w} {v = v} s x k =
    subst (λ (f : Filling). FillAlong f (λ n. n) (s ∷ g) (x ∷ w) (x ∷ v)) same_filling
    (subst (λ (m : Map). FillAlong (next_filling m_var) m (s ∷ g) (x ∷ w) (x ∷ v)) same_map (fill_next s x k))

pub same_none : (w v : Valuation) → FillAlong m_var (λ n. n) [] w v
same_none w v = record { monos = λ n d. elim d [ ]; heaps = λ n d. elim d [ ]; terms = λ n s d. elim d [ ] }

pub same_value : {g : List Standing} {w v : Valuation} (x : Value)
    → FillAlong m_var (λ n. n) g w v
    → FillAlong m_var (λ n. n) (as_term sk_o ∷ g) (den_term sk_o x ∷ w) (den_term sk_o x ∷ v)
same_value x k = same_next (as_term sk_o) (den_term sk_o x) k

same_params : (params : List MonoTree) (vs : List Value) (c : Context) (w v : Valuation)
    → length vs ≡ length params
    → FillAlong m_var (λ n. n) (standings c) w v
    → FillAlong m_var (λ n. n) (standings (with_params c params)) (with_values vs w) (with_values vs v)
unfolding skeleton
same_params [] [] c w v q k = k
same_params [] (x ∷ vs) c w v q k = absurd (omega (arith, q))
same_params (t ∷ params) [] c w v q k = absurd (omega (arith, q))
same_params (t ∷ params) (x ∷ vs) c w v q k =
    same_params params vs (en_term (y_mono t) ∷ c) (den_term sk_o x ∷ w) (den_term sk_o x ∷ v) (omega (arith, q)) (same_value x k)

valued_params : (params : List MonoTree) (vs : List Value) (c : Context) (w : Valuation)
    → length vs ≡ length params
    → ContextValued (standings c) w
    → ContextValued (standings (with_params c params)) (with_values vs w)
unfolding skeleton
valued_params [] [] c w q z = z
valued_params [] (x ∷ vs) c w q z = absurd (omega (arith, q))
valued_params (t ∷ params) [] c w q z = absurd (omega (arith, q))
valued_params (t ∷ params) (x ∷ vs) c w q z = valued_params params vs (en_term (y_mono t) ∷ c) (den_term sk_o x ∷ w) (omega (arith, q)) (valued_term sk_o x z)

nothing_undone : Undoes m_var (λ n. n) (λ n. n)
nothing_undone = record { monos = λ n. refl; indices = λ n. refl }

formula_same : {heads : Heads} {g : List Standing} {F : FormulaTree} → IsCanonicalFormula heads g F → fill_formula m_var (λ n. n) F ≡ F
formula_same {F = F} c = ap (fill_formula m_var (λ n. n)) (sym (formula_stays (λ n. n) (λ n. refl) F)) ∙ formula_back nothing_undone c

truth_same : (R : Recs) {heads : Heads} {e : HeadEntries} {g : List Standing} {F : FormulaTree} {w v : Valuation}
    → HeadsValued heads e
    → IsCanonicalFormula heads g F
    → FillAlong m_var (λ n. n) g w v
    → ContextValued g w
    → Satisfies R e v F ≡ Satisfies R e w F
truth_same R {e = e} {v = v} h c k z = ap (Satisfies R e v) (sym (formula_same c)) ∙ truth_filled R h c k z

-- the body of a predicate in a larger context
keeps_none : (g : List Standing) → KeepsStandings (λ n. n) [] g
keeps_none g = record { at = λ n s d. elim d [ ] }

keeps_next : {g h : List Standing} (s : Standing) → KeepsStandings (λ n. n) g h → KeepsStandings (λ n. n) (s ∷ g) (s ∷ h)
keeps_next {g = g} {h = h} s k = subst (λ (m : Map). KeepsStandings m (s ∷ g) (s ∷ h)) same_map (keeps_lift s k)

keeps_params : (params : List MonoTree) (values : List ArgTree) (c : Context) (g : List Standing) (h : ℕ)
    → AllTerms values
    → length values ≡ length params
    → KeepsStandings (λ n. n) (standings c) g
    → KeepsStandings (λ n. n) (as_heap ∷ standings (with_params c params)) (with_args (values ++ a_heap h ∷ []) g)
unfolding skeleton
keeps_params [] [] c g h d q k = keeps_next as_heap k
keeps_params [] (x ∷ values) c g h d q k = absurd (omega (arith, q))
keeps_params (t ∷ params) [] c g h d q k = absurd (omega (arith, q))
keeps_params (t ∷ params) (a_heap i ∷ values) c g h d q k = absurd d
keeps_params (t ∷ params) (a_term m ∷ values) c g h d q k =
    keeps_params params values (en_term (y_mono t) ∷ c) (as_term sk_o ∷ g) h d (omega (arith, q)) (keeps_next (as_term sk_o) k)

pub body_wider : {heads : Heads} {F : FormulaTree} (params : List MonoTree) (values : List ArgTree) (c : Context) (g : List Standing)
    (h : ℕ)
    → AllTerms values
    → length values ≡ length params
    → KeepsStandings (λ n. n) (standings c) g
    → IsCanonicalFormula heads (as_heap ∷ standings (with_params c params)) F
    → IsCanonicalFormula heads (with_args (values ++ a_heap h ∷ []) g) F
body_wider {heads = heads} {F = F} params values c g h all q k d =
    subst (IsCanonicalFormula heads (with_args (values ++ a_heap h ∷ []) g)) (formula_stays (λ n. n) (λ n. refl) F)
    (formula_renamed d (keeps_params params values c g h all q k))

-- it says of values what it says in the world of these values, where the entries further out agree
pub body_said : (R : Recs) {heads : Heads} {e : HeadEntries} {F : FormulaTree} (params : List MonoTree) (vs : List Value) (k : Heap)
    (c : Context) (u : World) (w : Valuation)
    → HeadsValued heads e
    → HeadsRun heads
    → OnlyValues (standings c)
    → ContextValued (standings c) (valuation_of u)
    → FillAlong m_var (λ n. n) (standings c) (valuation_of u) w
    → length vs ≡ length params
    → IsCanonicalFormula heads (as_heap ∷ standings (with_params c params)) F
    → Satisfies R e (den_heap k ∷ with_values vs w) F ≡ Holds R (th_heap k ∷ world_of_values u vs) F
body_said R {e = e} {F = F} params vs k c u w h r o z a q d =
    truth_same R h d (same_next as_heap (den_heap k) (same_params params vs c (valuation_of u) w q a))
    (valued_other (den_heap k) (valued_params params vs c (valuation_of u) q z)).1
    ∙ ap (λ (v : Valuation). Satisfies R e (den_heap k ∷ v) F) (sym (world_values vs u))
    ∙ truth_first R e (th_heap k ∷ world_of_values u vs) r (only_heap (only_params params c o)) d

pub nothing_valued : ContextValued [] []
nothing_valued = record { at = λ n s d. elim d [ ] }

pub only : (OnlyValues []) × (OnlyValues (as_term sk_o ∷ []))
only = (only_none, only_value only_none)

pub keeps : (g : List Standing) → (KeepsStandings (λ n. n) [] g) × (KeepsStandings (λ n. n) (as_term sk_o ∷ []) (as_term sk_o ∷ g))
keeps g = (keeps_none g, keeps_next (as_term sk_o) (keeps_none g))
