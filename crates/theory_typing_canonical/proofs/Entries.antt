-- The entries of a canonical context, the values and definitions of a canonical environment, and the
-- parts of a computation.
use Rattle.std.proofs.Common.{◌≡◌, ℕ, zero, suc, List, [], ◌∷◌, ◌++◌, map, Option, Some, None, slice_get, refl, sym, ap, subst, arith, ◌∙◌}
use Rattle.std.proofs.lemmas.List.Elements.{All-nil, All-cons, All-append}
use Rattle.std.proofs.lemmas.Option.{same_Some}
use Rattle.htt_syntax.specs.declared.mono.Op.{Op}
use Rattle.htt_syntax.specs.declared.mono.Op.TheVariants.{Add, Sub, Mul, And, Or, Xor, Shl, Shr, Lt}
use Rattle.htt_syntax.specs.Trees.{MonoTree, TyTree, TripleTree, TermTree, CompTree, FormulaTree, y_mono, y_fun, y_all, y_hoare, y_at, triple, m_pair, t_lam}
use Rattle.htt_syntax.specs.Trees.{t_lam_t, t_do}
use Rattle.theory_renaming.proofs.Identity.{mono_stays, ty_stays, term_stays}
use Rattle.theory_values.specs.Values.{op_mono}
use Rattle.theory_canonical.specs.Skeletons.{Skeleton, sk_o, sk_c, sk_arrow, sk_all, skeleton}
use Rattle.theory_canonical.specs.Contexts.{Standing, as_mono, as_heap, as_term, Stands, here, there, Heads, HasSkeleton, first_head, later_head}
use Rattle.theory_canonical.specs.Contexts.{KeepsStandings}
use Rattle.theory_canonical.specs.Canonical.{IsCanonicalMono, IsCanonical, IsCanonicalComp, IsCanonicalStep, IsCanonicalTy, IsCanonicalTriple}
use Rattle.theory_canonical.specs.Canonical.{IsCanonicalFormula, n_m_word, n_m_bool, n_m_loc, n_m_unit, n_m_pair, n_m_var, n_mono, n_fun, n_all, n_hoare}
use Rattle.theory_canonical.specs.Canonical.{n_triple, n_lam, n_lam_t, n_do, n_ret, n_step, n_unit}
use Rattle.theory_canonical.proofs.Renamed.{keeps_suc, skeleton_stays, mono_renamed, term_renamed, ty_renamed}
use Rattle.theory_substitution_total.specs.Insertion.{ins_here}
use Rattle.theory_substitution_total.specs.Laws.{MayBePut}
use Rattle.theory_substitution_total.proofs.Results.{comp_result, bind_result}
use Rattle.theory_typing.specs.Positions.{plain_ty}
use Rattle.theory_typing.specs.Contexts.{en_term, Context, IsMonoEntry, mono_here, mono_there, IsHeapEntry, heap_here, heap_there, HasEntryType, type_here}
use Rattle.theory_typing.specs.Contexts.{type_there, FormsMono, forms_word, forms_bool, forms_loc, forms_unit, forms_pair, forms_var, Obligation}
use Rattle.theory_typing.specs.Typing.{Part, part_step, part_comp, part_unit, Joined, joined_step, joined_comp, joined_unit, with_heaps, owes}
use Rattle.theory_typing.specs.Typing.{Assembled, assembled_end, assembled_part}
use Rattle.theory_typing_canonical.specs.Environments.{standings, IsCanonicalContext, no_entry, mono_entry, heap_entry, term_entry, at_state, with_values}
use Rattle.theory_typing_canonical.specs.Environments.{IsCanonicalRow}
use Rattle.theory_typing_canonical.specs.Laws.{IsCanonicalOwed, AreCanonical}

mono_stands : {g : Context} {n : ℕ} → IsMonoEntry g n → Stands (standings g) n as_mono
mono_stands mono_here = here
mono_stands (mono_there d) = there (mono_stands d)

pub heap_stands : {g : Context} {n : ℕ} → IsHeapEntry g n → Stands (standings g) n as_heap
heap_stands heap_here = here
heap_stands (heap_there d) = there (heap_stands d)

pub mono_canonical : {g : Context} {t : MonoTree} → FormsMono g t → IsCanonicalMono (standings g) t
mono_canonical forms_word = n_m_word
mono_canonical forms_bool = n_m_bool
mono_canonical forms_loc = n_m_loc
mono_canonical forms_unit = n_m_unit
mono_canonical (forms_pair d e) = n_m_pair (mono_canonical d) (mono_canonical e)
mono_canonical (forms_var d) = n_m_var (mono_stands d)

pub op_mono_canonical : {g : List Standing} (op : Op) → IsCanonicalMono g (op_mono op)
op_mono_canonical Add = n_m_word
op_mono_canonical Sub = n_m_word
op_mono_canonical Mul = n_m_word
op_mono_canonical And = n_m_word
op_mono_canonical Or = n_m_word
op_mono_canonical Xor = n_m_word
op_mono_canonical Shl = n_m_word
op_mono_canonical Shr = n_m_word
op_mono_canonical Lt = n_m_bool

-- a skeleton passes over positions
skeleton_plain : (ty : TyTree) → skeleton (plain_ty ty) ≡ skeleton ty
unfolding skeleton plain_ty
skeleton_plain (y_mono mono) = refl
skeleton_plain (y_fun argument answer) = λ j. sk_arrow (skeleton_plain argument j) (skeleton_plain answer j)
skeleton_plain (y_all body) = λ j. sk_all (skeleton_plain body j)
skeleton_plain (y_hoare spec) = refl
skeleton_plain (y_at at ty) = skeleton_plain ty

pub same_skeleton : (ty other : TyTree) → plain_ty ty ≡ plain_ty other → skeleton ty ≡ skeleton other
same_skeleton ty other e = sym (skeleton_plain ty) ∙ ap skeleton e ∙ skeleton_plain other

module _ {heads : Heads} where
  pub entry_canonical : {g : Context} {n : ℕ} {ty : TyTree} → IsCanonicalContext heads g → HasEntryType g n ty → IsCanonicalTy heads (standings g) ty
  entry_canonical no_entry f = elim f [ ]
  entry_canonical (term_entry {g = g} {ty = ty} c d) type_here = ty_renamed d (keeps_suc (as_term (skeleton ty)) (standings g))
  entry_canonical (term_entry {g = g} {ty = ty} c d) (type_there f) = ty_renamed (entry_canonical c f) (keeps_suc (as_term (skeleton ty)) (standings g))
  entry_canonical (mono_entry {g = g} c) (type_there f) = ty_renamed (entry_canonical c f) (keeps_suc as_mono (standings g))
  entry_canonical (heap_entry {g = g} c) (type_there f) = ty_renamed (entry_canonical c f) (keeps_suc as_heap (standings g))

entry_stands : {g : Context} {n : ℕ} {ty : TyTree} → HasEntryType g n ty → Stands (standings g) n (as_term (skeleton ty))
entry_stands (type_here {g = g} {ty = ty}) = subst (λ (s : Skeleton). Stands (standings (en_term ty ∷ g)) zero (as_term s)) (sym (skeleton_stays suc ty)) here
entry_stands (type_there {g = g} {entry = entry} {n = n} {ty = ty} f) =
    subst (λ (s : Skeleton). Stands (standings (entry ∷ g)) (suc n) (as_term s)) (sym (skeleton_stays suc ty)) (there (entry_stands f))

pub variable_stands : {g : Context} {n : ℕ} {ty : TyTree} → HasEntryType g n ty → Stands (standings g) n (as_term (skeleton ty))
variable_stands d = entry_stands d

-- what is closed is canonical in each context
anywhere : (g : List Standing) → KeepsStandings (λ n. n) [] g
anywhere g = record { at = λ n entry d. elim d [ ] }

pub closed_mono : (g : List Standing) {t : MonoTree} → IsCanonicalMono [] t → IsCanonicalMono g t
closed_mono g {t = t} d = subst (IsCanonicalMono g) (mono_stays (λ n. n) (λ n. refl) t) (mono_renamed d (anywhere g))

pub closed_ty : {heads : Heads} (g : List Standing) {ty : TyTree} → IsCanonicalTy heads [] ty → IsCanonicalTy heads g ty
closed_ty {heads = heads} g {ty = ty} d = subst (IsCanonicalTy heads g) (ty_stays (λ n. n) (λ n. refl) ty) (ty_renamed d (anywhere g))

pub closed_term : {heads : Heads} (g : List Standing) {term : TermTree} {s : Skeleton} → IsCanonical heads [] term s → IsCanonical heads g term s
closed_term {heads = heads} g {term = term} {s = s} d =
    subst (λ (r : TermTree). IsCanonical heads g r s) (term_stays (λ n. n) (λ n. refl) term) (term_renamed d (anywhere g))

pub head_of : (types : List TyTree) (number : ℕ) (ty : TyTree) → slice_get types number ≡ Some ty → HasSkeleton (map skeleton types) number (skeleton ty)
head_of [] number ty e = grind arith
head_of (first ∷ types) zero ty e = subst (λ (t : TyTree). HasSkeleton (map skeleton (first ∷ types)) zero (skeleton t)) (same_Some first ty e) first_head
head_of (first ∷ types) (suc number) ty e = later_head (head_of types number ty e)

-- the parts of a canonical function type, of a function and of a computation
module _ {heads : Heads} {g : List Standing} where
  pub argument_part : {argument answer : TyTree} → IsCanonicalTy heads g (y_fun argument answer) → IsCanonicalTy heads g argument
  argument_part (n_fun d q e) = d

  pub answer_part : {argument answer : TyTree} → IsCanonicalTy heads g (y_fun argument answer) → IsCanonicalTy heads (as_term (skeleton argument) ∷ g) answer
  answer_part {answer = answer} (n_fun d q e) = subst (λ (s : Skeleton). IsCanonicalTy heads (as_term s ∷ g) answer) (sym q) e

  pub under_mono : {body : TyTree} → IsCanonicalTy heads g (y_all body) → IsCanonicalTy heads (as_mono ∷ g) body
  under_mono (n_all d) = d

  pub spec_part : {spec : TripleTree} → IsCanonicalTy heads g (y_hoare spec) → IsCanonicalTriple heads g spec
  spec_part (n_hoare d) = d

  pub spec_mono : {pre post : FormulaTree} {mono : MonoTree} → IsCanonicalTriple heads g (triple pre mono post) → IsCanonicalMono g mono
  spec_mono (n_triple d e f) = e

  pub left_mono_part : {t u : MonoTree} → IsCanonicalTy heads g (y_mono (m_pair t u)) → IsCanonicalMono g t
  left_mono_part (n_mono (n_m_pair d e)) = d

  pub right_mono_part : {t u : MonoTree} → IsCanonicalTy heads g (y_mono (m_pair t u)) → IsCanonicalMono g u
  right_mono_part (n_mono (n_m_pair d e)) = e

  pub mono_part : {t : MonoTree} → IsCanonicalTy heads g (y_mono t) → IsCanonicalMono g t
  mono_part (n_mono d) = d

  pub lam_body : {body : TermTree} {s t : Skeleton} → IsCanonical heads g (t_lam body) (sk_arrow s t) → IsCanonical heads (as_term s ∷ g) body t
  lam_body (n_lam d) = d

  pub lam_t_body : {body : TermTree} {s : Skeleton} → IsCanonical heads g (t_lam_t body) (sk_all s) → IsCanonical heads (as_mono ∷ g) body s
  lam_t_body (n_lam_t d) = d

  pub do_comp : {comp : CompTree} → IsCanonical heads g (t_do comp) sk_c → IsCanonicalComp heads g comp
  do_comp (n_do d) = d

-- a canonical term may be put for the innermost variable
pub put_here : {heads : Heads} {g : List Standing} {term : TermTree} {s : Skeleton} → IsCanonical heads g term s → MayBePut heads term s zero g (as_term s ∷ g)
put_here d = record { inserted = ins_here; canonical = d }

-- a part of a canonical computation
abbrev pub IsCanonicalPart : Heads → List Standing → Part → Type 0
IsCanonicalPart heads g (part_step step) = IsCanonicalStep heads g step
IsCanonicalPart heads g (part_comp comp) = IsCanonicalComp heads g comp
IsCanonicalPart heads g part_unit = Unit {0}

pub joined_canonical : {heads : Heads} {g : List Standing} {part : Part} {others result : CompTree}
    → IsCanonicalPart heads g part
    → IsCanonicalComp heads (as_term sk_o ∷ g) others
    → Joined part others result
    → IsCanonicalComp heads g result
joined_canonical d e joined_step = n_step d e
joined_canonical d e (joined_comp b) = bind_result d e b
joined_canonical d e (joined_unit b) = comp_result (put_here n_unit) e b

-- the parts of a body or a branch, each under the variables of those before it, and its result under all
unfoldable pub AreCanonicalParts : Heads → List Standing → List Part → TermTree → Type 0
AreCanonicalParts heads g [] value = IsCanonical heads g value sk_o
AreCanonicalParts heads g (part ∷ parts) value = IsCanonicalPart heads g part × AreCanonicalParts heads (as_term sk_o ∷ g) parts value

pub assembled_canonical : {heads : Heads} {g : List Standing} {parts : List Part} {value : TermTree} {result : CompTree}
    → AreCanonicalParts heads g parts value
    → Assembled parts value result
    → IsCanonicalComp heads g result
unfolding AreCanonicalParts
assembled_canonical d assembled_end = n_ret d
assembled_canonical d (assembled_part rest j) = joined_canonical d.0 (assembled_canonical d.1 rest) j

-- the goals that are owed
pub none_owed : (heads : Heads) → AreCanonical heads []
none_owed heads = All-nil (λ (x : Obligation). IsCanonicalFormula heads (standings x.context) x.goal)

pub one_owed : {heads : Heads} (o : Obligation) → IsCanonicalFormula heads (standings o.context) o.goal → AreCanonical heads (o ∷ [])
one_owed {heads = heads} o d = All-cons (λ (x : Obligation). IsCanonicalFormula heads (standings x.context) x.goal) o [] d (none_owed heads)

pub owed_joined : {heads : Heads} (o p : List Obligation) → AreCanonical heads o → AreCanonical heads p → AreCanonical heads (o ++ p)
owed_joined {heads = heads} o p d e = All-append (λ (x : Obligation). IsCanonicalFormula heads (standings x.context) x.goal) o p d e

pub owes_canonical : {heads : Heads} (g : Context) (owed : Option FormulaTree)
    → IsCanonicalOwed heads (at_state (standings g)) owed
    → AreCanonical heads (owes g owed)
owes_canonical {heads = heads} g None d = none_owed heads
owes_canonical g (Some goal) d = one_owed (record { context = with_heaps g; goal = goal }) d

-- one variable more in front of the others is one more behind them
pub values_inside : (i : ℕ) (g : List Standing) → with_values i (as_term sk_o ∷ g) ≡ with_values (suc i) g
unfolding with_values
values_inside zero g = refl
values_inside (suc i) g = ap (λ (h : List Standing). as_term sk_o ∷ h) (values_inside i g)

pub row_inside : (i : ℕ) (g : List Standing) (zs : List MonoTree) → IsCanonicalRow i (as_term sk_o ∷ g) zs → IsCanonicalRow (suc i) g zs
unfolding IsCanonicalRow
row_inside i g [] row = tt
row_inside i g (z ∷ zs) row = (subst (λ (h : List Standing). IsCanonicalMono h z) (values_inside i g) row.0, row_inside (suc i) g zs row.1)
