-- What single rules need: terms and heaps that are put for variables, motives, and that an inferred
-- formula is sorted.
use Rattle.std.proofs.Common.{◌≡◌, ℕ, zero, suc, List, [], ◌∷◌, ◌++◌, map, Some, refl, sym, ◌∙◌, subst, arith}
use Rattle.std.specs.Prelude.{slice_get, true, false}
use Rattle.htt_syntax.specs.declared.mono.Op.TheVariants.{Add, Lt}
use Rattle.htt_syntax.specs.Trees.{MonoTree, TermTree, FormulaTree, ArgTree, ProofTree, f_rec, m_word, m_bool, y_mono, t_var, t_word, t_bool, t_bin, f_imp}
use Rattle.htt_syntax.specs.Trees.{a_heap, a_term}
use Rattle.theory_renaming.specs.Renaming.{lift, rename_formula}
use Rattle.theory_values.specs.Values.{Value, v_word, HasType, is_bool, IsWord}
use Rattle.theory_values.specs.Heaps.{Heap, IsSame}
use Rattle.theory_truth.specs.Worlds.{World, th_value, th_heap, thing_at, heap_at}
use Rattle.theory_truth.specs.TermValue.{term_value}
use Rattle.theory_truth.specs.Truth.{Recs, Holds}
use Rattle.theory_truth.specs.Predicates.{RecTree, recs_of}
use Rattle.theory_truth.proofs.Renamed.{agrees_next, truth_renamed}
use Rattle.theory_canonical.specs.Skeletons.{sk_o}
use Rattle.theory_canonical.specs.Folding.{folding}
use Rattle.theory_substitution.specs.Substitution.{SubFormula}
use Rattle.theory_typing.specs.Contexts.{en_term, Context, Environment}
use Rattle.theory_typing.specs.Typing.{FormsFormula}
use Rattle.theory_logic_axioms.specs.Table.{heap_sort, term_sort}
use Rattle.theory_logic_rules.specs.Sequents.{SameFormula, put_heap, PutArgs, terms_of, FitsArgs, fits_heap_arg, fits_term_arg, below_greatest, both_ways}
use Rattle.theory_logic_rules.specs.Rules.{Infers, infers_hyp, infers_first, infers_second, infers_app, infers_inst_term, infers_inst_heap, infers_axiom}
use Rattle.theory_logic_rules.specs.Rules.{infers_lem, infers_the, infers_at_zero, infers_at_next, infers_at}
use Rattle.theory_logic_sorts.specs.Sorts.{Sorts, for_value, SortedMono, SortedTerm, SortedFormula}
use Rattle.theory_logic_sorts.proofs.Renamed as sorting
use Rattle.theory_logic_sorts.proofs.Substituted as substituting
use Rattle.theory_logic_sorts.proofs.Arguments as arguing
use Rattle.theory_logic_substitution.proofs.Terms.{put_first, truth_put}
use Rattle.theory_logic_substitution.proofs.Heaps.{heaps}
use Rattle.theory_logic_axioms_true.proofs.Plain.{same_truth}
use Rattle.theory_logic_axioms_true.specs.WordLaws.{IsBelow, word_op}
use Rattle.theory_logic_axioms_true.proofs.Order.{below}
use Rattle.theory_logic_axioms_true.proofs.Induction.{word_induction}
use Rattle.theory_logic_axioms_true.proofs.Values.{literal_at, op_given, WordAt}
use Rattle.theory_typing_values.specs.FirstOrder.{sorts_of}
use Rattle.theory_formed_items.specs.Environments.{IsFormedEnvironment}
use Rattle.theory_typing_values.proofs.Formed.{SortedContext}
use Rattle.theory_items_sound.specs.Environments.{SoundEnvironment}
use Rattle.theory_formed_items.proofs.Sound.{formed_sound}
use Rattle.theory_typing_values.proofs.Sorted.{term_sorted, formula_sorted}
use Rattle.theory_logic_true.specs.Sequents.{AreSorted}
use Rattle.theory_logic_true.proofs.Scenes.{each_at, heap_entry}
use Rattle.theory_logic_true.proofs.Arguments as arguments
use Rattle.theory_logic_true.proofs.Unfoldings.{fits_terms, zero_sorted_put, next_sorted_put}

abbrev as_is : (A : Type 0) → Type 0
as_is A = A

-- a term for the innermost variable
pub put_in : (R : Recs) (new : TermTree) (g : Sorts) (w : World) {F G : FormulaTree}
    → SubFormula new sk_o zero F G
    → SortedFormula (for_value ∷ g) F
    → Holds R (th_value (term_value w new) ∷ w) F
    → Holds R w G
put_in R new g w p d h = subst as_is (sym (truth_put R p refl (put_first new g w) d)) h

pub take_out : (R : Recs) (new : TermTree) (g : Sorts) (w : World) {F G : FormulaTree}
    → SubFormula new sk_o zero F G
    → SortedFormula (for_value ∷ g) F
    → Holds R w G
    → Holds R (th_value (term_value w new) ∷ w) F
take_out R new g w p d h = subst as_is (truth_put R p refl (put_first new g w) d) h

pub put_sorted : (new : TermTree) (g : Sorts) {F G : FormulaTree}
    → SubFormula new sk_o zero F G
    → SortedTerm g new
    → SortedFormula (for_value ∷ g) F
    → SortedFormula g G
put_sorted new g p n d = substituting.formula_put refl (arguing.closes_first for_value g) n p d

-- a motive in a context with one more value, and with one more heap
pub motive_sorted : {env : Environment} {g : Context} {C C' : FormulaTree} (t : MonoTree)
    → FormsFormula env (en_term (y_mono t) ∷ g) C C'
    → SoundEnvironment env
    → SortedContext g
    → SortedMono (sorts_of g) t
    → SortedFormula (for_value ∷ sorts_of g) C'
motive_sorted t p s c d = formula_sorted p s (d, c)

-- an equation between terms, in a motive
pub rewritten : (R : Recs) (g : Sorts) (w : World) (m n : TermTree) (G : FormulaTree) {C at_left at_right : FormulaTree}
    → term_value w m ≡ term_value w n
    → SubFormula n sk_o zero C at_right
    → SameFormula G at_right
    → SubFormula m sk_o zero C at_left
    → SortedFormula (for_value ∷ g) C
    → Holds R w at_left
    → Holds R w G
rewritten R g w m n G {C = C} {at_right = at_right} e p same q d h =
    (same_truth R w G at_right same).1 (put_in R n g w p d (subst (λ (v : Value). Holds R (th_value v ∷ w) C) e (take_out R m g w q d h)))

-- the same for heaps
pub rewritten_heap : (env : Environment) (w : World) (h k : ℕ) (C G : FormulaTree)
    → IsSame (heap_at w h) (heap_at w k)
    → thing_at w h ≡ th_heap (heap_at w h)
    → thing_at w k ≡ th_heap (heap_at w k)
    → SameFormula G (put_heap k C)
    → Holds (recs_of env.recs) w (put_heap h C)
    → Holds (recs_of env.recs) w G
rewritten_heap env w h k C G s i j same t =
    let R = recs_of env.recs in
    let e : heap_at w h ≡ heap_at w k = λ q l. s.each l q in
    (same_truth R w G (put_heap k C) same).1
    ((heaps env.recs w k (heap_at w k) j C).1
    (subst (λ (x : Heap). Holds R (th_heap x ∷ w) C) e ((heaps env.recs w h (heap_at w h) i C).0 t)))

-- by induction on words, a motive is true at each word
zero_at : (w : World) → term_value w (t_word 0) ≡ v_word 0
unfolding term_value
zero_at w = refl

next_at : (y : ℕ) (w : World) → term_value (th_value (v_word y) ∷ w) (t_bin Add (t_var 0) (t_word 1)) ≡ v_word (word_op Add y 1)
unfolding term_value
next_at y w = refl

variable_at : (y : ℕ) (w : World) → WordAt (th_value (v_word y) ∷ w) (t_var 0) y
unfolding term_value
variable_at y w = record { same = refl }

-- the hypothesis that y isn't the greatest word
pub below_is_true : (R : Recs) (y : ℕ) (w : World) → IsBelow y 18446744073709551615 → Holds R (th_value (v_word y) ∷ w) (below_greatest (t_var 0))
unfolding Holds term_value
below_is_true R y w l = op_given (th_value (v_word y) ∷ w) Lt (variable_at y w) (literal_at (th_value (v_word y) ∷ w) 18446744073709551615) ∙ l

pub below_is_sorted : (g : Sorts) → SortedFormula (for_value ∷ g) (below_greatest (t_var 0))
unfolding SortedFormula SortedTerm SortedMono
below_is_sorted g = (tt, substituting.fold_sorted (for_value ∷ g) (t_bin Lt (t_var 0) (t_word 18446744073709551615)) (refl, tt), tt)

pub next_term_sorted : (g : Sorts) → SortedTerm (for_value ∷ g) (t_bin Add (t_var 0) (t_word 1))
unfolding SortedTerm
next_term_sorted g = (refl, tt)

-- the motive for the next word, in the context with y
pub motive_raised : (g : Sorts) (C : FormulaTree) → SortedFormula (for_value ∷ g) C → SortedFormula (for_value ∷ for_value ∷ g) (rename_formula (lift suc) C)
motive_raised g C d = sorting.formula_sorted C (sorting.keeps_next for_value (sorting.keeps_suc for_value g)) d

next_motive : (R : Recs) (g : Sorts) (y : ℕ) (w : World) (C at_next : FormulaTree)
    → SubFormula (t_bin Add (t_var 0) (t_word 1)) sk_o zero (rename_formula (lift suc) C) at_next
    → SortedFormula (for_value ∷ g) C
    → Holds R (th_value (v_word y) ∷ w) at_next
    → Holds R (th_value (v_word (word_op Add y 1)) ∷ w) C
next_motive R g y w C at_next p d h =
    let whole = take_out R (t_bin Add (t_var 0) (t_word 1)) (for_value ∷ g) (th_value (v_word y) ∷ w) p (motive_raised g C d) h in
    let x = th_value (v_word (word_op Add y 1)) in
    subst as_is (truth_renamed R C (agrees_next x (record { at = λ n. refl })))
    (subst (λ (v : Value). Holds R (th_value v ∷ th_value (v_word y) ∷ w) (rename_formula (lift suc) C)) (next_at y w) whole)

pub below_is_word : (y : ℕ) → IsBelow y 18446744073709551615 → IsWord y
below_is_word y l = let k = below y 18446744073709551615 l in omega (arith, k)

pub by_induction : (R : Recs) (g : Sorts) (w : World) (C at_zero at_next : FormulaTree)
    → SortedFormula (for_value ∷ g) C
    → SubFormula (t_word 0) sk_o zero C at_zero
    → Holds R w at_zero
    → SubFormula (t_bin Add (t_var 0) (t_word 1)) sk_o zero (rename_formula (lift suc) C) at_next
    →
    ((y : ℕ) → IsWord y → IsBelow y 18446744073709551615 → Holds R (th_value (v_word y) ∷ w) C → Holds R (th_value (v_word y) ∷ w) at_next)
    → (n : ℕ)
    → IsWord n
    → Holds R (th_value (v_word n) ∷ w) C
by_induction R g w C at_zero at_next d p base q step n word =
    word_induction (λ n. Holds R (th_value (v_word n) ∷ w) C)
    (subst (λ (v : Value). Holds R (th_value v ∷ w) C) (zero_at w) (take_out R (t_word 0) g w p d base))
    (λ y l h. next_motive R g y w C at_next q d (step y (below_is_word y l) l h))
    n word

-- a motive that is true at both truth values is true at each
pub at_each_truth : (R : Recs) (g : Sorts) (w : World) (C at_true at_false : FormulaTree)
    → SortedFormula (for_value ∷ g) C
    → SubFormula (t_bool true) sk_o zero C at_true
    → Holds R w at_true
    → SubFormula (t_bool false) sk_o zero C at_false
    → Holds R w at_false
    → (v : Value)
    → HasType v m_bool
    → Holds R (th_value v ∷ w) C
unfolding term_value
at_each_truth R g w C at_true at_false d p a q b v (is_bool {b = true}) = take_out R (t_bool true) g w p d a
at_each_truth R g w C at_true at_false d p a q b v (is_bool {b = false}) = take_out R (t_bool false) g w q d b

-- the sorts of what an unfolding infers
zero_is_sorted : (env : Environment)
    → IsFormedEnvironment env
    → (g : Context)
    → SortedContext g
    → (number : ℕ) (r : RecTree)
    → slice_get env.recs number ≡ Some r
    → (h : ℕ) (arguments values : List ArgTree)
    → FitsArgs env g arguments (heap_sort ∷ map term_sort r.params) (a_heap h ∷ values)
    → (F : FormulaTree)
    → PutArgs (values ++ a_heap h ∷ []) r.at_zero F
    → SortedFormula (sorts_of g) (both_ways (f_rec number h (t_word 0) (terms_of values)) F)
unfolding SortedFormula SortedTerm
zero_is_sorted env f g c number r e h args values (fits_heap_arg i rest) F put =
    let t = fits_terms rest r.params refl in
    let a = arguments.args_sorted rest (formed_sound env f) c in
    let body =
    arguing.arguments_sorted (sorts_of g) (values ++ a_heap h ∷ []) (arguments.more_sorted (sorts_of g) values h a (heap_entry i)) r.at_zero
    F put (zero_sorted_put env f number r e (sorts_of g) values h t.0 t.1) in
    let atom : SortedFormula (sorts_of g) (f_rec number h (t_word 0) (terms_of values)) =
    (heap_entry i, tt, arguments.terms_are_sorted (sorts_of g) values a) in
    ((atom, body), (body, atom))

next_is_sorted : (env : Environment)
    → IsFormedEnvironment env
    → (g : Context)
    → SortedContext g
    → (number : ℕ) (r : RecTree)
    → slice_get env.recs number ≡ Some r
    → (h : ℕ) (m : TermTree) (arguments values : List ArgTree)
    → FitsArgs env g arguments (heap_sort ∷ term_sort m_word ∷ map term_sort r.params) (a_heap h ∷ a_term m ∷ values)
    → (F : FormulaTree)
    → PutArgs (a_term m ∷ values ++ a_heap h ∷ []) r.at_next F
    → SortedFormula (sorts_of g)
    (f_imp (below_greatest m) (both_ways (f_rec number h (folding (t_bin Add m (t_word 1))) (terms_of values)) F))
unfolding SortedFormula SortedTerm SortedMono
next_is_sorted env f g c number r e h m args values (fits_heap_arg i (fits_term_arg d rest)) F put =
    let t = fits_terms rest r.params refl in
    let a = arguments.args_sorted rest (formed_sound env f) c in
    let n = term_sorted (formed_sound env f) c d in
    let body =
    arguing.arguments_sorted (sorts_of g) (a_term m ∷ values ++ a_heap h ∷ [])
    (n, arguments.more_sorted (sorts_of g) values h a (heap_entry i)) r.at_next F put
    (next_sorted_put env f number r e (sorts_of g) values h t.0 t.1) in
    let atom : SortedFormula (sorts_of g) (f_rec number h (folding (t_bin Add m (t_word 1))) (terms_of values)) = (
      heap_entry i,
      substituting.fold_sorted (sorts_of g) (t_bin Add m (t_word 1)) (n, tt),
      arguments.terms_are_sorted (sorts_of g) values a,
    ) in
    ((tt, substituting.fold_sorted (sorts_of g) (t_bin Lt m (t_word 18446744073709551615)) (n, tt), tt), ((atom, body), (body, atom)))

-- what is inferred is sorted where the hypotheses are
pub infers_sorted : {env : Environment} {g : Context} {hs : List FormulaTree} {p : ProofTree} {F : FormulaTree}
    → Infers env g hs p F
    → IsFormedEnvironment env
    → SortedContext g
    → AreSorted (sorts_of g) hs
    → SortedFormula (sorts_of g) F
unfolding SortedFormula
infers_sorted {g = g} {hs = hs} (infers_hyp {number = number} {F = F} e) f c s = each_at (SortedFormula (sorts_of g)) hs number F e s
infers_sorted (infers_first p) f c s = (infers_sorted p f c s).0
infers_sorted (infers_second p) f c s = (infers_sorted p f c s).1
infers_sorted (infers_app p q) f c s = (infers_sorted p f c s).1
infers_sorted {env = env} {g = g} (infers_inst_term {m' = m'} p d u) f c s =
    put_sorted m' (sorts_of g) u (term_sorted (formed_sound env f) c d) (infers_sorted p f c s).1
infers_sorted {g = g} (infers_inst_heap {h = h} {F = F} p i) f c s = sorting.heap_sorted h (sorts_of g) (heap_entry i) F (infers_sorted p f c s)
infers_sorted {env = env} {g = g} (infers_axiom axiom_name {monos = monos} {arguments' = values} {F = F} text m shaped side sorted fits row)
    f c s =
    arguments.instance_is_sorted (sorts_of g) axiom_name monos values F row (arguments.monos_sorted m)
    (arguments.args_sorted fits (formed_sound env f) c)
infers_sorted {env = env} (infers_lem p) f c s = let d = formula_sorted p (formed_sound env f) c in (d, (d, tt))
infers_sorted {env = env} (infers_the p q) f c s = formula_sorted p (formed_sound env f) c
infers_sorted {env = env} {g = g}
    (infers_at_zero {number = number} {r = r} {h = h} {arguments = args} {values = values} {F = F} e sorted fits put) f c s =
    zero_is_sorted env f g c number r e h args values fits F put
infers_sorted {env = env} {g = g}
    (infers_at_next {number = number} {r = r} {h = h} {m = m} {arguments = args} {values = values} {F = F} e sorted fits put) f c s =
    next_is_sorted env f g c number r e h m args values fits F put
infers_sorted (infers_at p) f c s = infers_sorted p f c s
