-- A proof infers at most one formula.
use Rattle.std.proofs.Common.{◌≡◌, ℕ, List, ◌∷◌, [], ◌++◌, length, map, Option, Some, refl, ap, ◌∙◌, sym, subst}
use Rattle.htt_syntax.specs.Trees.{MonoTree, TermTree, FormulaTree, ArgTree, ProofTree, m_word, y_mono, t_word, t_bin, f_and, f_or, f_imp, f_all_t, f_all_h}
use Rattle.htt_syntax.specs.Trees.{f_ff, f_rec, a_heap, a_term}
use Rattle.htt_syntax.specs.declared.mono.Op.TheVariants.{Add}
use Rattle.theory_renaming.specs.Renaming.{lifts, rename_formula}
use Rattle.theory_canonical.specs.Skeletons.{sk_o}
use Rattle.theory_canonical.specs.Folding.{folding}
use Rattle.theory_substitution.specs.Substitution.{SubFormula}
use Rattle.theory_substitution.proofs.Once.{formula_once}
use Rattle.theory_typing.specs.Contexts.{Context, Environment}
use Rattle.theory_typing.proofs.Once.{formula_formed_once, fits_once}
use Rattle.theory_logic_axioms.specs.Table.{ArgSort, heap_sort, term_sort, argument_sorts, formula_of}
use Rattle.theory_logic_axioms.proofs.Texts.{one_name}
use Rattle.theory_logic_rules.specs.Sequents.{putting, put_heap, PutArgs, put_none, put_term_first, put_heap_first, terms_of, FitsArgs, fits_no_args}
use Rattle.theory_logic_rules.specs.Sequents.{fits_heap_arg, fits_term_arg, below_greatest, both_ways}
use Rattle.theory_logic_rules.specs.Rules.{Infers, infers_hyp, infers_first, infers_second, infers_app, infers_inst_term, infers_inst_heap, infers_axiom}
use Rattle.theory_logic_rules.specs.Rules.{infers_lem, infers_the, infers_at_zero, infers_at_next, infers_at}
use Rattle.theory_logic_rules.specs.Laws.{OneInferred, OnePut, OneFit}

found_once : {A : Type 0} {o p : Option A} {x y : A} → o ≡ p → o ≡ Some x → p ≡ Some y → x ≡ y
found_once e f g = cc

and_left : {A B C D : FormulaTree} → f_and A B ≡ f_and C D → A ≡ C
and_left e = cc

and_right : {A B C D : FormulaTree} → f_and A B ≡ f_and C D → B ≡ D
and_right e = cc

imp_right : {A B C D : FormulaTree} → f_imp A B ≡ f_imp C D → B ≡ D
imp_right e = cc

all_mono : {t s : MonoTree} {F G : FormulaTree} → f_all_t t F ≡ f_all_t s G → t ≡ s
all_mono e = cc

all_body : {t s : MonoTree} {F G : FormulaTree} → f_all_t t F ≡ f_all_t s G → F ≡ G
all_body e = cc

heap_body : {F G : FormulaTree} → f_all_h F ≡ f_all_h G → F ≡ G
heap_body e = cc

first_sort : {a b : MonoTree} {xs ys : List ArgSort} → term_sort a ∷ xs ≡ term_sort b ∷ ys → a ≡ b
first_sort e = cc

other_sorts : {a b : ArgSort} {xs ys : List ArgSort} → a ∷ xs ≡ b ∷ ys → xs ≡ ys
other_sorts e = cc

first_heap : {a b : ℕ} {xs ys : List ArgTree} → a_heap a ∷ xs ≡ a_heap b ∷ ys → a ≡ b
first_heap e = cc

first_term : {a b : TermTree} {xs ys : List ArgTree} → a_term a ∷ xs ≡ a_term b ∷ ys → a ≡ b
first_term e = cc

others_of : {a b : ArgTree} {xs ys : List ArgTree} → a ∷ xs ≡ b ∷ ys → xs ≡ ys
others_of e = cc

sub_once : {n n' : TermTree} {x : ℕ} {F F' r q : FormulaTree} → n ≡ n' → F ≡ F' → SubFormula n sk_o x F r → SubFormula n' sk_o x F' q → r ≡ q
sub_once {x = x} {r = r} e f d d' = formula_once (subst (λ (X : Type 0). X) (λ j. SubFormula (e j) sk_o x (f j) r) d) d'

put_from : {arguments : List ArgTree} {F G P Q : FormulaTree} → F ≡ G → PutArgs arguments F P → PutArgs arguments G Q → P ≡ Q
put_from e put_none put_none = e
put_from e (put_term_first d a) (put_term_first d' b) = put_from (sub_once refl e d d') a b
put_from e (put_heap_first {h = h} {others = others} a) (put_heap_first b) = put_from (ap (rename_formula (lifts (length others) (putting h))) e) a b

put_once : {xs ys : List ArgTree} {F G P Q : FormulaTree} → xs ≡ ys → F ≡ G → PutArgs xs F P → PutArgs ys G Q → P ≡ Q
put_once {F = F} {P = P} s e a b = put_from e (subst (λ zs. PutArgs zs F P) s a) b

args_once : {env : Environment} {g : Context} {arguments r q : List ArgTree} {xs ys : List ArgSort}
    → xs ≡ ys
    → FitsArgs env g arguments xs r
    → FitsArgs env g arguments ys q
    → r ≡ q
args_once s fits_no_args fits_no_args = refl
args_once s (fits_heap_arg {h = h} d a) (fits_heap_arg e b) = ap (λ os. a_heap h ∷ os) (args_once (other_sorts s) a b)
args_once {env = env} s (fits_term_arg d a) (fits_term_arg e b) =
    λ j. a_term ((fits_once env refl (ap y_mono (first_sort s)) d e).0 j) ∷ args_once (other_sorts s) a b j

pub inferred_once : {env : Environment} {g : Context} {hs : List FormulaTree} {p : ProofTree} {F G : FormulaTree}
    → Infers env g hs p F
    → Infers env g hs p G
    → F ≡ G
inferred_once (infers_hyp d) (infers_hyp e) = found_once refl d e
inferred_once (infers_first d) (infers_first e) = and_left (inferred_once d e)
inferred_once (infers_second d) (infers_second e) = and_right (inferred_once d e)
inferred_once (infers_app d a) (infers_app e b) = imp_right (inferred_once d e)
inferred_once {env = env} (infers_inst_term d a s) (infers_inst_term e b u) =
    let same = inferred_once d e in
    sub_once (fits_once env refl (ap y_mono (all_mono same)) a b).0 (all_body same) s u
inferred_once (infers_inst_heap {h = h} d a) (infers_inst_heap e b) = ap (put_heap h) (heap_body (inferred_once d e))
inferred_once (infers_axiom c {monos = ts} n ms s w k a f) (infers_axiom c' n' ms' s' w' k' a' f') =
    let name : c ≡ c' = one_name c c' (n ∙ sym n') in
    let sorts = found_once (λ j. argument_sorts (name j) ts) s s' in
    let arguments = args_once sorts a a' in
    found_once (λ j. formula_of (name j) ts (arguments j)) f f'
inferred_once {env = env} (infers_lem d) (infers_lem e) = ap (λ F. f_or F (f_imp F f_ff)) (formula_formed_once env refl d e)
inferred_once {env = env} (infers_the d a) (infers_the e b) = formula_formed_once env refl d e
inferred_once (infers_at_zero {number = number} {r = r} {h = h} {values = vs} d k a s) (infers_at_zero {r = r'} {h = h'} {values = vs'} e l b u) =
    let same : r ≡ r' = found_once refl d e in
    let arguments = args_once (λ j. heap_sort ∷ map term_sort (same j).params) a b in
    let heap : h ≡ h' = first_heap arguments in
    let values : vs ≡ vs' = others_of arguments in
    let body = put_once (λ j. values j ++ a_heap (heap j) ∷ []) (λ j. (same j).at_zero) s u in
    λ j. both_ways (f_rec number (heap j) (t_word 0) (terms_of (values j))) (body j)
inferred_once (infers_at_next {number = number} {r = r} {h = h} {m = m} {values = vs} d k a s)
    (infers_at_next {r = r'} {h = h'} {m = m'} {values = vs'} e l b u) =
    let same : r ≡ r' = found_once refl d e in
    let arguments = args_once (λ j. heap_sort ∷ term_sort m_word ∷ map term_sort (same j).params) a b in
    let heap : h ≡ h' = first_heap arguments in
    let word : m ≡ m' = first_term (others_of arguments) in
    let values : vs ≡ vs' = others_of (others_of arguments) in
    let body = put_once (λ j. a_term (word j) ∷ values j ++ a_heap (heap j) ∷ []) (λ j. (same j).at_next) s u in
    λ j. f_imp (below_greatest (word j)) (both_ways (f_rec number (heap j) (folding (t_bin Add (word j) (t_word 1))) (terms_of (values j))) (body j))
inferred_once (infers_at d) (infers_at e) = inferred_once d e

pub one_inferred : OneInferred
one_inferred env g hs p F G d e = inferred_once d e

pub one_put : OnePut
one_put arguments F G H a b = put_from refl a b

pub one_fit : OneFit
one_fit env g arguments r q sorts a b = args_once refl a b
