-- Contexts, entry by entry.
use Rattle.std.proofs.Common.{◌≡◌, ℕ, zero, suc, ◌+◌, ◌-◌, ◌<◌, ◌≤◌, List, [], ◌∷◌, length, map, get_or, Option, Some, None, refl, sym, ap, ◌∙◌, subst, arith}
use Rattle.std.specs.Prelude.{true, false, Result, Ok, Err, IfOk, IfErr, slice_get}
use Rattle.std.proofs.Math.ListN.{get_or-map}
use Rattle.std.proofs.lemmas.List.{get_or-reverse, length-map}
use Rattle.std.proofs.lemmas.Option.{slice_get_past, slice_get-get_or}
use Rattle.htt_syntax.specs.declared.sequent.Entry.{Entry}
use Rattle.htt_syntax.specs.Trees.{TyTree}
use Rattle.theory_renaming.specs.Renaming.{lifts, shifting, rename_ty}
use Rattle.theory_renaming.proofs.Composition.{ty_joins}
use Rattle.theory_typing.specs.Contexts.{EntryTree, en_mono, en_heap, en_term, Context, IsMonoEntry, mono_here, mono_there}
use Rattle.theory_typing.specs.Contexts.{IsHeapEntry, heap_here, heap_there, HasEntryType, type_here, type_there}
use Rattle.htt_syntax.specs.declared.tree.Ty.{Ty}
use Rattle.htt_syntax.specs.Views.{ty_tree}
use Rattle.htt_syntax_words.specs.declared.words.Rule.TheVariants.{Sort}
use Rattle.theory_checking.specs.Stops.{refused, Finds, finds}
use Rattle.kinds_types_entries.specs.declared.stop.TypeStop.{TypeStop}
use Rattle.kinds_types_entries.specs.declared.stop.TypeStop.TheVariants.{Ill, Limit, NoMemory}
use Rattle.kinds_types_entries.specs.Answers.{Answers}
use Rattle.kinds_types_entries.specs.Standing.{is_heap_tree, is_mono_tree, term_tree_of}
use Rattle.theory_views.specs.Contexts.{entry_tree, context_of}
use Rattle.theory_views.proofs.Turned.{turned}

-- ---- an index of the context, as a place of the entries

pub entry_there : (entries : List Entry) (place index : ℕ) (d : Entry)
    → place + suc index ≡ length entries
    → slice_get (context_of entries) index ≡ Some (entry_tree (get_or entries place d))
entry_there entries place index d at =
    let trees = map entry_tree entries in
    let many : length trees ≡ length entries = length-map entries entry_tree in
    let within : index < length (context_of entries) = (let m = turned.as_many entries in omega (arith, at, m)) in
    let inside : index < length trees = omega (arith, at, many) in
    let same : length trees - 1 - index ≡ place = omega (arith, at, many) in
    slice_get-get_or (context_of entries) index (entry_tree d) within
    ∙ ap Some (get_or-reverse trees index (entry_tree d) inside ∙ ap (λ k. get_or trees k (entry_tree d)) same ∙ get_or-map entry_tree entries place d)

pub entry_none : (entries : List Entry) (index : ℕ) → length entries ≤ index → slice_get (context_of entries) index ≡ None
entry_none entries index over =
    let m = turned.as_many entries in
    slice_get_past (context_of entries) index (omega (arith, over, m))

-- ---- what stands at an index

pub heap_stands : (g : Context) (n : ℕ) → slice_get g n ≡ Some en_heap → IsHeapEntry g n
heap_stands [] n there = absurd (grind (arith, there))
heap_stands (e ∷ g) zero there = let is : e ≡ en_heap = grind (arith, there) in subst (λ (x : EntryTree). IsHeapEntry (x ∷ g) zero) (sym is) heap_here
heap_stands (e ∷ g) (suc n) there = heap_there (heap_stands g n there)

pub heap_only : {g : Context} {n : ℕ} → IsHeapEntry g n → slice_get g n ≡ Some en_heap
heap_only heap_here = refl
heap_only (heap_there h) = heap_only h

pub mono_stands : (g : Context) (n : ℕ) → slice_get g n ≡ Some en_mono → IsMonoEntry g n
mono_stands [] n there = absurd (grind (arith, there))
mono_stands (e ∷ g) zero there = let is : e ≡ en_mono = grind (arith, there) in subst (λ (x : EntryTree). IsMonoEntry (x ∷ g) zero) (sym is) mono_here
mono_stands (e ∷ g) (suc n) there = mono_there (mono_stands g n there)

pub mono_only : {g : Context} {n : ℕ} → IsMonoEntry g n → slice_get g n ≡ Some en_mono
mono_only mono_here = refl
mono_only (mono_there h) = mono_only h

once_more : (n i : ℕ) → suc (shifting 0 (suc n) i) ≡ shifting 0 (suc (suc n)) i
unfolding lifts
once_more n i = omega arith

seen_once : (i : ℕ) → suc i ≡ shifting 0 (suc zero) i
unfolding lifts
seen_once i = omega arith

pub type_stands : (g : Context) (n : ℕ) (ty : TyTree) → slice_get g n ≡ Some (en_term ty) → HasEntryType g n (rename_ty (shifting 0 (suc n)) ty)
type_stands [] n ty there = absurd (grind (arith, there))
type_stands (e ∷ g) zero ty there =
    let is : e ≡ en_term ty = grind (arith, there) in
    let same : rename_ty suc ty ≡ rename_ty (shifting 0 (suc zero)) ty = λ j. rename_ty (λ i. seen_once i j) ty in
    subst (λ (x : EntryTree). HasEntryType (x ∷ g) zero (rename_ty (shifting 0 (suc zero)) ty)) (sym is)
    (subst (λ (t : TyTree). HasEntryType (en_term ty ∷ g) zero t) same type_here)
type_stands (e ∷ g) (suc n) ty there =
    let same = ty_joins suc (shifting 0 (suc n)) (shifting 0 (suc (suc n))) (once_more n) ty in
    subst (λ (t : TyTree). HasEntryType (e ∷ g) (suc n) t) same (type_there (type_stands g n ty there))

pub type_only : {g : Context} {n : ℕ} {ty : TyTree} → HasEntryType g n ty → (own : TyTree) × (slice_get g n ≡ Some (en_term own))
type_only (type_here {g} {ty}) = (ty, refl)
type_only (type_there h) = type_only h

-- ---- the answers

heap_of : (e : Option EntryTree) → is_heap_tree e ≡ true → e ≡ Some en_heap
heap_of None is = absurd (grind (arith, is))
heap_of (Some en_heap) is = refl
heap_of (Some en_mono) is = absurd (grind (arith, is))
heap_of (Some (en_term ty)) is = absurd (grind (arith, is))

mono_of : (e : Option EntryTree) → is_mono_tree e ≡ true → e ≡ Some en_mono
mono_of None is = absurd (grind (arith, is))
mono_of (Some en_mono) is = refl
mono_of (Some en_heap) is = absurd (grind (arith, is))
mono_of (Some (en_term ty)) is = absurd (grind (arith, is))

term_of : (e : Option EntryTree) (ty : TyTree) → Some ty ≡ term_tree_of e → e ≡ Some (en_term ty)
term_of None ty is = absurd (grind (arith, is))
term_of (Some en_mono) ty is = absurd (grind (arith, is))
term_of (Some en_heap) ty is = absurd (grind (arith, is))
term_of (Some (en_term own)) ty is = let same : own ≡ ty = grind (arith, is) in ap (λ t. Some (en_term t)) same

pub heap_true : (g : Context) (n : ℕ) → true ≡ is_heap_tree (slice_get g n) → IsHeapEntry g n
heap_true g n is = heap_stands g n (heap_of (slice_get g n) (sym is))

pub heap_false : (g : Context) (n : ℕ) → false ≡ is_heap_tree (slice_get g n) → IsHeapEntry g n → ⊥
heap_false g n is h = let no : false ≡ true = is ∙ ap is_heap_tree (heap_only h) in grind (arith, no)

pub mono_true : (g : Context) (n : ℕ) → true ≡ is_mono_tree (slice_get g n) → IsMonoEntry g n
mono_true g n is = mono_stands g n (mono_of (slice_get g n) (sym is))

pub mono_false : (g : Context) (n : ℕ) → false ≡ is_mono_tree (slice_get g n) → IsMonoEntry g n → ⊥
mono_false g n is h = let no : false ≡ true = is ∙ ap is_mono_tree (mono_only h) in grind (arith, no)

pub term_true : (g : Context) (n : ℕ) (ty : TyTree) → Some ty ≡ term_tree_of (slice_get g n) → HasEntryType g n (rename_ty (shifting 0 (suc n)) ty)
term_true g n ty is = type_stands g n ty (term_of (slice_get g n) ty is)

pub term_false : (g : Context) (n : ℕ) → None ≡ term_tree_of (slice_get g n) → (ty : TyTree) → HasEntryType g n ty → ⊥
term_false g n is ty h =
    let own = type_only h in
    let no : None ≡ Some own.0 = is ∙ ap term_tree_of own.1 in
    grind (arith, no)

-- the entry's type, as it is seen from the whole context
pub term_comes : (g : Context) (n at : ℕ) (ty : TyTree) (made : Result Ty TypeStop)
    → Some ty ≡ term_tree_of (slice_get g n)
    → IfOk made (λ seen. ty_tree seen ≡ rename_ty (shifting 0 (suc n)) ty)
    → IfErr made (λ stop. stop ≡ NoMemory)
    → Answers ty_tree (Finds (λ (t : TyTree). HasEntryType g n t) (refused Sort at)) made
term_comes g n at ty (Ok seen) is same memory =
    finds (subst (λ (t : TyTree). HasEntryType g n t) (sym same) (term_true g n ty is))
term_comes g n at ty (Err NoMemory) is same memory = tt
term_comes g n at ty (Err (Limit which)) is same memory = absurd (let e = memory in cc)
term_comes g n at ty (Err (Ill byte rule)) is same memory = absurd (let e = memory in cc)
