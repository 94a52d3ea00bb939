-- What names stand for, with other names of the same outlines declared.
use Rattle.std.proofs.Common.{◌≡◌, ℕ, refl, ap, subst, arith, List, [], ◌∷◌, Option, Some, None}
use Rattle.std.specs.Prelude.{Bool, true, false, if◌then◌else◌, length, Result, Ok, Err, bytes_eq}
use Rattle.htt_parser_trees.specs.declared.place.Span.{Span}
use Rattle.htt_parser_trees.specs.declared.tree.RawHeap.{RawHeap}
use Rattle.htt_parser_trees.specs.declared.tree.RawHeap.TheVariants as heaps
use Rattle.theory_text_names.specs.Stops.{Stop, ◌>>=◌}
use Rattle.theory_text_names.specs.Scopes.{PredTree}
use Rattle.theory_text_names.specs.Scopes.{Meaning, Declared, Names, Scope, bytes_of}
use Rattle.theory_text_names.specs.Uses.{Use, a_declared, declares, meaning_of, declared_use, first_some, local_use, use_at}
use Rattle.theory_text_names.specs.Uses.{mono_of_use, term_of_use, heap_of_use, hypothesis_of_use, pred_of_use, rec_of_use}
use Rattle.theory_text_names.specs.Uses.{mono_named, term_named, hypothesis_named, pred_named, rec_named, heap_comes}
use Rattle.theory_text_outlined.specs.Outlines.{AlikeMeaning, alike_mono, alike_pred, alike_rec, alike_def, alike_val, AlikeRow, AlikeNames, with_names}
use Rattle.theory_text_outlined.specs.Outlines.{stop_of, SameStop, Related, both_give, both_stop}

-- ---- what stops one after the other

pub ok_same : {A B : Type 0} {x : A} {y : B} → SameStop (Ok x) (Ok y)
ok_same = record { same = refl }

pub bind_same : {A B C D : Type 0} {a : Result A Stop} {b : Result B Stop} {f : A → Result C Stop} {g : B → Result D Stop}
    → SameStop a b
    → ((x : A) (y : B) → SameStop (f x) (g y))
    → SameStop (a >>= f) (b >>= g)
unfolding ◌>>=◌
bind_same {a = Ok x} {b = Ok y} h k = k x y
bind_same {a = Ok x} {b = Err e} h k = (let no : None ≡ Some e = h.same in grind arith)
bind_same {a = Err e} {b = Ok y} h k = (let no : Some e ≡ None = h.same in grind arith)
bind_same {a = Err e} {b = Err e2} h k = record { same = h.same }

pub bind_related : {A B C D : Type 0} {R : A → B → Type 0} {a : Result A Stop} {b : Result B Stop} {f : A → Result C Stop} {g : B → Result D Stop}
    → Related R a b
    → ((x : A) (y : B) → R x y → SameStop (f x) (g y))
    → SameStop (a >>= f) (b >>= g)
unfolding ◌>>=◌
bind_related (both_give {x} {y} h) k = k x y h
bind_related both_stop k = record { same = refl }

-- ---- uses

pub data AlikeUse : Option Use → Option Use → Type 0 where
  same_use : {u v : Option Use} → u ≡ v → AlikeUse u v
  declared_alike : {m n : Meaning} → AlikeMeaning m n → AlikeUse (Some (a_declared m)) (Some (a_declared n))

chosen_alike : (name : List ℕ) (d e : Option Declared) (u v : Option Use) → AlikeRow d e → AlikeUse u v
    → AlikeUse (if declares name d then meaning_of d else u) (if declares name e then meaning_of e else v)
chosen_alike name None None u v h k = k
chosen_alike name (Some d) None u v h k = absurd h
chosen_alike name None (Some e) u v h k = absurd h
chosen_alike name (Some d) (Some e) u v (same, alike) k = by_test (bytes_eq d.name name) (bytes_eq e.name name) (ap (λ x. bytes_eq x name) same)
  where
    by_test : (b c : Bool) → b ≡ c → AlikeUse (if b then Some (a_declared d.meaning) else u) (if c then Some (a_declared e.meaning) else v)
    by_test true true t = declared_alike alike
    by_test true false t = grind (arith, t)
    by_test false true t = grind (arith, t)
    by_test false false t = k

pub declared_uses : (name : List ℕ) (ds es : Names) → AlikeNames ds es → AlikeUse (declared_use name ds) (declared_use name es)
unfolding declared_use
declared_uses name [] [] h = same_use refl
declared_uses name [] (e ∷ es) h = absurd h
declared_uses name (d ∷ ds) [] h = absurd h
declared_uses name (d ∷ ds) (e ∷ es) (row, rows) = chosen_alike name d e (declared_use name ds) (declared_use name es) row (declared_uses name ds es rows)

uses_alike : (s : Scope) (names : Names) (span : Span) → AlikeNames s.names names → AlikeUse (use_at s span) (use_at (with_names s names) span)
uses_alike s names span h = by_local (local_use (bytes_of s.text span) 0 s.locals)
  where
    by_local : (l : Option Use)
        → AlikeUse (first_some l (declared_use (bytes_of s.text span) s.names)) (first_some l (declared_use (bytes_of s.text span) names))
    by_local (Some u) = same_use refl
    by_local None = declared_uses (bytes_of s.text span) s.names names h

mono_alike : {u v : Option Use} (at : ℕ) → AlikeUse u v → SameStop (mono_of_use at u) (mono_of_use at v)
mono_alike at (same_use e) = record { same = ap (λ u. stop_of (mono_of_use at u)) e }
mono_alike at (declared_alike alike_mono) = record { same = refl }
mono_alike at (declared_alike (alike_pred h k)) = record { same = refl }
mono_alike at (declared_alike alike_rec) = record { same = refl }
mono_alike at (declared_alike alike_def) = record { same = refl }
mono_alike at (declared_alike alike_val) = record { same = refl }

term_alike : {u v : Option Use} (at : ℕ) → AlikeUse u v → SameStop (term_of_use at u) (term_of_use at v)
term_alike at (same_use e) = record { same = ap (λ u. stop_of (term_of_use at u)) e }
term_alike at (declared_alike alike_mono) = record { same = refl }
term_alike at (declared_alike (alike_pred h k)) = record { same = refl }
term_alike at (declared_alike alike_rec) = record { same = refl }
term_alike at (declared_alike alike_def) = record { same = refl }
term_alike at (declared_alike alike_val) = record { same = refl }

hypothesis_alike : {u v : Option Use} (at : ℕ) → AlikeUse u v → SameStop (hypothesis_of_use at u) (hypothesis_of_use at v)
hypothesis_alike at (same_use e) = record { same = ap (λ u. stop_of (hypothesis_of_use at u)) e }
hypothesis_alike at (declared_alike h) = record { same = refl }

-- predicates with as many monotypes and parameters
abbrev pub AlikePred : PredTree → PredTree → Type 0
AlikePred p q = (p.monos ≡ q.monos) × (length p.params ≡ length q.params)

pub related_self : {A : Type 0} (R : A → A → Type 0) (r : Result A Stop) → ((x : A) → R x x) → Related R r r
related_self R (Ok x) h = both_give (h x)
related_self R (Err e) h = both_stop

pred_alike : {u v : Option Use} (at : ℕ) → AlikeUse u v → Related AlikePred (pred_of_use at u) (pred_of_use at v)
pred_alike {u} at (same_use e) =
    subst (λ v. Related AlikePred (pred_of_use at u) (pred_of_use at v)) e (related_self AlikePred (pred_of_use at u) (λ p. (refl, refl)))
pred_alike at (declared_alike alike_mono) = both_stop
pred_alike at (declared_alike (alike_pred h k)) = both_give (h, k)
pred_alike at (declared_alike alike_rec) = both_stop
pred_alike at (declared_alike alike_def) = both_stop
pred_alike at (declared_alike alike_val) = both_stop

rec_alike : {u v : Option Use} (at : ℕ) → AlikeUse u v → Related (λ (p q : ℕ × ℕ). p ≡ q) (rec_of_use at u) (rec_of_use at v)
rec_alike {u} at (same_use e) =
    subst (λ v. Related (λ (p q : ℕ × ℕ). p ≡ q) (rec_of_use at u) (rec_of_use at v)) e
    (related_self (λ (p q : ℕ × ℕ). p ≡ q) (rec_of_use at u) (λ p. refl))
rec_alike at (declared_alike alike_mono) = both_stop
rec_alike at (declared_alike (alike_pred h k)) = both_stop
rec_alike at (declared_alike alike_rec) = both_give refl
rec_alike at (declared_alike alike_def) = both_stop
rec_alike at (declared_alike alike_val) = both_stop

module _ (names : Names) (s : Scope) (h : AlikeNames s.names names) where
  pub mono_name_same : (span : Span) → SameStop (mono_named s span) (mono_named (with_names s names) span)
  mono_name_same span = mono_alike span.from (uses_alike s names span h)

  pub term_name_same : (span : Span) → SameStop (term_named s span) (term_named (with_names s names) span)
  term_name_same span = term_alike span.from (uses_alike s names span h)

  pub hypothesis_name_same : (span : Span) → SameStop (hypothesis_named s span) (hypothesis_named (with_names s names) span)
  hypothesis_name_same span = hypothesis_alike span.from (uses_alike s names span h)

  pub pred_name_related : (span : Span) → Related AlikePred (pred_named s span) (pred_named (with_names s names) span)
  pred_name_related span = pred_alike span.from (uses_alike s names span h)

  pub rec_name_related : (span : Span) → Related (λ (p q : ℕ × ℕ). p ≡ q) (rec_named s span) (rec_named (with_names s names) span)
  rec_name_related span = rec_alike span.from (uses_alike s names span h)

-- heaps: the same one on both sides, since no declared name is a heap
heap_use_alike : {u v : Option Use} (at : ℕ) → AlikeUse u v → Related (λ (k l : ℕ). k ≡ l) (heap_of_use at u) (heap_of_use at v)
heap_use_alike {u} at (same_use e) =
    subst (λ v. Related (λ (k l : ℕ). k ≡ l) (heap_of_use at u) (heap_of_use at v)) e
    (related_self (λ (k l : ℕ). k ≡ l) (heap_of_use at u) (λ k. refl))
heap_use_alike at (declared_alike h) = both_stop

pub heap_related : (names : Names) (s : Scope) → AlikeNames s.names names → (k : RawHeap)
    → Related (λ (k l : ℕ). k ≡ l) (heap_comes s k) (heap_comes (with_names s names) k)
heap_related names s h (heaps.Name span) = heap_use_alike span.from (uses_alike s names span h)
heap_related names s h (heaps.Init at over) = related_self (λ (k l : ℕ). k ≡ l) _ (λ k. refl)
heap_related names s h (heaps.Mem at over) = related_self (λ (k l : ℕ). k ≡ l) _ (λ k. refl)
