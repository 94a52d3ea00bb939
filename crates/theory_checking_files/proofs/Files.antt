-- The items of a file: one result, derived and reached, each item by the law of items.
use Rattle.std.proofs.Common.{◌≡◌, ℕ, zero, suc, List, [], ◌∷◌, All, Result, Ok, Err, refl, sym, ap, subst, arith}
use Rattle.std.proofs.lemmas.List.Elements.{All-nil, All-cons}
use Rattle.htt_syntax_words.specs.declared.words.Rule.{Rule}
use Rattle.theory_typing.specs.Contexts.{Environment, Obligation}
use Rattle.theory_typing_canonical.specs.Environments.{IsCanonicalEnvironment}
use Rattle.theory_items.specs.Items.{ItemTree, with_added}
use Rattle.theory_file_derived.specs.Derived.{DerivesAll, derives_none, derives_more}
use Rattle.theory_formed_items.specs.Environments.{IsFormedEnvironment}
use Rattle.theory_checking.specs.Stops.{Stop, refused}
use Rattle.theory_checking.proofs.Chains.{stop_of, given_of, not_both}
use Rattle.theory_checking_items.specs.Items.{Checked, checked, ItemComesTo}
use Rattle.theory_checking_items.proofs.Items.{items_come_to_one, checked_items_derive}
use Rattle.theory_checking_complete.specs.Reaching.{is_given, is_limit, Reaches, reaches}
use Rattle.theory_checking_complete.proofs.Complete.{derived_reaches}
use Rattle.theory_checking_canonical.specs.Laws.{IsWithin}
use Rattle.theory_checking_canonical.proofs.Within.{owed_is_within_limits}
use Rattle.theory_checking_canonical.proofs.Canonical.{checked_items_keep_canonical}
use Rattle.theory_checking_narrow.specs.Narrow.{IsNarrowEnvironment}
use Rattle.theory_checking_narrow.proofs.Items.{checked_items_are_narrow}
use Rattle.theory_checking_formed.proofs.Formed.{checked_items_keep_formed}
use Rattle.theory_checking_files.specs.Files.{CheckedAll, checked_all, ItemStop, item_stop, ItemsComeTo, items_end, item_stops, item_then_stop, item_then_items}
use Rattle.theory_checking_files.specs.Files.{AreOrLimit, are_given, are_cut}
use Rattle.theory_checking_files.specs.Laws.{FilesComeToOne, FirstStop, CheckedFilesDerive, DerivedFilesReach, CheckedFilesKeep}

-- one result

same_checked : (env : Environment) (item : ItemTree) (c b : Checked)
    → ItemComesTo env [] zero item (Ok c)
    → ItemComesTo env [] zero item (Ok b)
    → c ≡ b
unfolding given_of
same_checked env item c b d e = ap (given_of c) (items_come_to_one env [] zero item (Ok c) (Ok b) d e)

same_stop : (env : Environment) (item : ItemTree) (s t : Stop)
    → ItemComesTo env [] zero item (Err s)
    → ItemComesTo env [] zero item (Err t)
    → s ≡ t
unfolding stop_of
same_stop env item s t d e = ap (stop_of s) (items_come_to_one env [] zero item (Err s) (Err t) d e)

not_stopped : (env : Environment) (item : ItemTree) (c : Checked) (s : Stop)
    → ItemComesTo env [] zero item (Ok c)
    → ItemComesTo env [] zero item (Err s)
    → ⊥
not_stopped env item c s d e = not_both (Ok c) refl (items_come_to_one env [] zero item (Ok c) (Err s) d e)

not_all : (r : Result CheckedAll ItemStop) (k : CheckedAll) (s : ItemStop) → r ≡ Ok k → r ≡ Err s → ⊥
not_all r k s p q = cc

-- what a result is after one item more
abbrev with_row : List Obligation → Result CheckedAll ItemStop → Result CheckedAll ItemStop
with_row owed (Ok k) = Ok (checked_all k.final (owed ∷ k.rows))
with_row owed (Err s) = Err s

same_items : (n : ℕ) (env : Environment) (items : List ItemTree) (r : Result CheckedAll ItemStop) (c b : Checked)
    → c ≡ b
    → ItemsComeTo n (with_added env b.added) items r
    → ItemsComeTo n (with_added env c.added) items r
same_items n env items r c b p d = subst (λ (k : Checked). ItemsComeTo n (with_added env k.added) items r) (sym p) d

pub files_come_to_one : FilesComeToOne
files_come_to_one n env [] r q items_end items_end = refl
files_come_to_one n env (item ∷ items) r q (item_stops {stop = s} d) (item_stops {stop = t} e) =
    let p = same_stop env item s t d e in λ j. Err (item_stop n (p j))
files_come_to_one n env (item ∷ items) r q (item_stops {stop = s} d) (item_then_stop c e y) = absurd (not_stopped env item c s e d)
files_come_to_one n env (item ∷ items) r q (item_stops {stop = s} d) (item_then_items c e y) = absurd (not_stopped env item c s e d)
files_come_to_one n env (item ∷ items) r q (item_then_stop c d x) (item_stops {stop = s} e) = absurd (not_stopped env item c s d e)
files_come_to_one n env (item ∷ items) r q (item_then_items c d x) (item_stops {stop = s} e) = absurd (not_stopped env item c s d e)
files_come_to_one n env (item ∷ items) r q (item_then_stop {later = s} c d x) (item_then_stop {later = t} b e y) =
    files_come_to_one (suc n) (with_added env c.added) items (Err s) (Err t) x
    (same_items (suc n) env items (Err t) c b (same_checked env item c b d e) y)
files_come_to_one n env (item ∷ items) r q (item_then_stop {later = s} c d x) (item_then_items {final = h} {rows = u} b e y) =
    absurd (not_all (Ok (checked_all h u)) (checked_all h u) s refl
    (sym (files_come_to_one (suc n) (with_added env c.added) items (Err s) (Ok (checked_all h u)) x
    (same_items (suc n) env items (Ok (checked_all h u)) c b (same_checked env item c b d e) y))))
files_come_to_one n env (item ∷ items) r q (item_then_items {final = f} {rows = o} c d x) (item_then_stop {later = t} b e y) =
    absurd (not_all (Ok (checked_all f o)) (checked_all f o) t refl
    (files_come_to_one (suc n) (with_added env c.added) items (Ok (checked_all f o)) (Err t) x
    (same_items (suc n) env items (Err t) c b (same_checked env item c b d e) y)))
files_come_to_one n env (item ∷ items) r q (item_then_items {final = f} {rows = o} c d x) (item_then_items {final = h} {rows = u} b e y) =
    let p = same_checked env item c b d e in
    let i = files_come_to_one (suc n) (with_added env c.added) items (Ok (checked_all f o)) (Ok (checked_all h u)) x
    (same_items (suc n) env items (Ok (checked_all h u)) c b p y) in
    λ j. with_row ((p j).owed) (i j)

-- the first stop

pub first_stop : FirstStop
first_stop n env [] s d = elim d [ ]
first_stop n env (item ∷ items) s (item_stops d) = record {
  before = [];
  item = item;
  behind = items;
  these = refl;
  counted = omega arith;
  reached = checked_all env [];
  come = items_end;
  stop_there = d;
}
first_stop n env (item ∷ items) s (item_then_stop c d x) =
    let y = first_stop (suc n) (with_added env c.added) items s x in
    let counted = y.counted in
    record {
      before = item ∷ y.before;
      item = y.item;
      behind = y.behind;
      these = ap (λ (l : List ItemTree). item ∷ l) y.these;
      counted = omega (arith, counted);
      reached = checked_all y.reached.final (c.owed ∷ y.reached.rows);
      come = item_then_items c d y.come;
      stop_there = y.stop_there;
    }

-- derived, and reached

pub checked_files_derive : CheckedFilesDerive
checked_files_derive n env [] k items_end = derives_none
checked_files_derive n env (item ∷ items) k (item_then_items {final = f} {rows = o} c d x) =
    derives_more (checked_items_derive env [] zero item c d) (checked_files_derive (suc n) (with_added env c.added) items (checked_all f o) x)

abbrev Reached : ℕ → Environment → List ItemTree → Environment → List (List Obligation) → Type 0
Reached n env items final rows = (r : Result CheckedAll ItemStop) × ItemsComeTo n env items r × AreOrLimit final rows r

then_items : (n : ℕ) (env final : Environment) (item : ItemTree) (items : List ItemTree) (c : Checked) (rows : List (List Obligation))
    (r : Result CheckedAll ItemStop)
    → ItemComesTo env [] zero item (Ok c)
    → ItemsComeTo (suc n) (with_added env c.added) items r
    → AreOrLimit final rows r
    → Reached n env (item ∷ items) final (c.owed ∷ rows)
then_items n env final item items c rows r d x are_given = (Ok (checked_all final (c.owed ∷ rows)), item_then_items c d x, are_given)
then_items n env final item items c rows r d x (are_cut {n = m} {stop = s} l) = (Err (item_stop m s), item_then_stop c d x, are_cut l)

first_item : (n : ℕ) (env final : Environment) (item : ItemTree) (items : List ItemTree) (c : Checked) (rows : List (List Obligation))
    → Reaches (ItemComesTo env [] zero item) c
    → Reached (suc n) (with_added env c.added) items final rows
    → Reached n env (item ∷ items) final (c.owed ∷ rows)
first_item n env final item items c rows (reaches d is_given) y = then_items n env final item items c rows y.0 d y.1 y.2
first_item n env final item items c rows (reaches {result = r} d (is_limit {stop = s} l)) y = (Err (item_stop n s), item_stops d, are_cut l)

all_reached : (n : ℕ) {env final : Environment} {items : List ItemTree} {rows : List (List Obligation)}
    → DerivesAll env items final rows
    → Reached n env items final rows
all_reached n (derives_none {env = env}) = (Ok (checked_all env []), items_end, are_given)
all_reached n (derives_more {env = env} {final = final} {item = item} {added = added} {items = items} {owed = owed} {rows = rows} d rest) =
    first_item n env final item items (checked added owed) rows (derived_reaches.items env [] zero item added owed d) (all_reached (suc n) rest)

not_refused : {final : Environment} {rows : List (List Obligation)} {m : ℕ} {rule : Rule} {at : ℕ}
    → AreOrLimit final rows (Err (item_stop m (refused rule at)))
    → ⊥
not_refused (are_cut l) = elim l [ ]

only_reached : (n : ℕ) (env final : Environment) (items : List ItemTree) (rows : List (List Obligation)) (r : Result CheckedAll ItemStop)
    → DerivesAll env items final rows
    → ItemsComeTo n env items r
    → AreOrLimit final rows r
only_reached n env final items rows r d x =
    let y = all_reached n d in
    subst (λ (q : Result CheckedAll ItemStop). AreOrLimit final rows q) (files_come_to_one n env items y.0 r y.1 x) y.2

pub derived_files_reach : DerivedFilesReach
derived_files_reach = record {
  reaches = λ n env final items rows d. all_reached n d;
  only = only_reached;
  refused_is_not_derived = λ n m env final items rows rule at x d.
      not_refused (only_reached n env final items rows (Err (item_stop m (refused rule at))) d x);
}

-- what is kept

canonical_kept : (n : ℕ) (env : Environment) (items : List ItemTree) (k : CheckedAll)
    → IsCanonicalEnvironment env
    → ItemsComeTo n env items (Ok k)
    → IsCanonicalEnvironment k.final
canonical_kept n env [] k known items_end = known
canonical_kept n env (item ∷ items) k known (item_then_items {final = f} {rows = o} c d x) =
    canonical_kept (suc n) (with_added env c.added) items (checked_all f o) (checked_items_keep_canonical.environment env known zero item c d) x

formed_kept : (n : ℕ) (env : Environment) (items : List ItemTree) (k : CheckedAll)
    → IsFormedEnvironment env
    → ItemsComeTo n env items (Ok k)
    → IsFormedEnvironment k.final
formed_kept n env [] k known items_end = known
formed_kept n env (item ∷ items) k known (item_then_items {final = f} {rows = o} c d x) =
    formed_kept (suc n) (with_added env c.added) items (checked_all f o) (checked_items_keep_formed env known zero item c d) x

narrow_kept : (n : ℕ) (env : Environment) (items : List ItemTree) (k : CheckedAll)
    → IsNarrowEnvironment env
    → ItemsComeTo n env items (Ok k)
    → IsNarrowEnvironment k.final
narrow_kept n env [] k known items_end = known
narrow_kept n env (item ∷ items) k known (item_then_items {final = f} {rows = o} c d x) =
    narrow_kept (suc n) (with_added env c.added) items (checked_all f o)
    (checked_items_are_narrow.environment env c.added known (checked_items_are_narrow.added env [] known tt zero item c d)) x

within_kept : (n : ℕ) (env : Environment) (items : List ItemTree) (k : CheckedAll)
    → ItemsComeTo n env items (Ok k)
    → All (λ (owed : List Obligation). All IsWithin owed) k.rows
within_kept n env [] k items_end = All-nil (λ (owed : List Obligation). All IsWithin owed)
within_kept n env (item ∷ items) k (item_then_items {final = f} {rows = o} c d x) =
    All-cons (λ (owed : List Obligation). All IsWithin owed) c.owed o (owed_is_within_limits.items env [] zero item c d)
    (within_kept (suc n) (with_added env c.added) items (checked_all f o) x)

pub checked_files_keep : CheckedFilesKeep
checked_files_keep = record {
  canonical = canonical_kept;
  formed = formed_kept;
  narrow = narrow_kept;
  within = within_kept;
}
