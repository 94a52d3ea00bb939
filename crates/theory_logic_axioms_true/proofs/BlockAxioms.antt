-- The axioms of blocks are true, with heaps, locations and widths in place of their variables.
use Rattle.std.proofs.Common.{◌≡◌, ℕ, ◌<◌, [], ◌∷◌, length, Option, Some, None, refl, sym, ◌∙◌, subst, arith, ⊎_elim}
use Rattle.std.specs.Prelude.{All}
use Rattle.std.proofs.lemmas.Bool.{cases_eq}
use Rattle.std.proofs.lemmas.List.Elements.{All-head}
use Rattle.htt_syntax.specs.Trees.{m_word}
use Rattle.theory_values.specs.Values.{Value, v_word, IsWord, HasType, is_word, encoding}
use Rattle.theory_values.specs.Heaps.{Block, Heap, IsHeap, IsOnly, IsSame, IsEmpty, Joins, IsJoin}
use Rattle.theory_values.proofs.Joins.{only_parts}
use Rattle.theory_truth.specs.Truth.{NotNot, IsBlock}
use Rattle.theory_logic_axioms_true.proofs.CellAxioms.{only_once}

first_parts : {h a b c d : Heap} {l : ℕ} {x y : Block} → IsJoin h a b → IsOnly a l x → IsJoin h c d → IsOnly c l y → IsSame a c
first_parts {a = a} {c = c} {l = l} {x = x} j p k q = only_once a c l x p (subst (IsOnly c l) (sym (only_parts j p k q).0) q)

pub same_parts : (h a b c d : Heap) (l m n : ℕ) → IsBlock a l m → IsJoin h a b → IsBlock c l n → IsJoin h c d → IsSame a c × IsSame b d
same_parts h a b c d l m n p j q k = (first_parts j p.2 k q.2, (only_parts j p.2 k q.2).1)

not_both : (x a b : Option Block) (u v : Block) → a ≡ Some u → b ≡ Some v → Joins x a b → ⊥
not_both x (Some a) (Some b) u v p q j = j
not_both x None b u v p q j = let e : None ≡ Some u = p in cc
not_both x (Some a) None u v p q j = let e : None ≡ Some v = q in cc

pub apart : (h a b : Heap) (l m n : ℕ) → IsBlock a l m → IsBlock b l n → IsJoin h a b → ⊥
apart h a b l m n p q j = not_both (h l) (a l) (b l) p.0 q.0 p.2.here q.2.here (j.each l)

pub not_at_zero : (h : Heap) (n : ℕ) → IsHeap h → IsBlock h 0 n → ⊥
not_at_zero h n i p = let l : 0 < 0 = i.above_zero 0 p.0 p.2.here in omega (arith, l)

pub not_empty : (h : Heap) (l n : ℕ) → IsBlock h l n → IsEmpty h → ⊥
not_empty h l n p e = let f : None ≡ Some p.0 = sym (e.each l) ∙ p.2.here in cc

one_word : (b : Block) → length b ≡ 1 → (n : ℕ) × (b ≡ n ∷ [])
one_word [] e = absurd (omega (arith, e))
one_word (n ∷ []) e = (n, refl)
one_word (n ∷ m ∷ others) e = absurd (omega (arith, e))

first_is_word : (n : ℕ) (b : Block) → b ≡ n ∷ [] → All IsWord b → IsWord n
first_is_word n b e a = All-head IsWord n [] (subst (All IsWord) e a)

held : (h : Heap) (l : ℕ) → IsHeap h → (b : Block) → length b ≡ 1 → IsOnly h l b → (v : Value) × HasType v m_word × IsOnly h l (encoding v)
held h l i b e o = let r = one_word b e in (v_word r.0, is_word (first_is_word r.0 b r.1 (i.of_words l b o.here)), subst (IsOnly h l) r.1 o)

pub word_held : (h : Heap) (l : ℕ) → IsHeap h → IsBlock h l 1 → NotNot ((v : Value) × HasType v m_word × IsOnly h l (encoding v))
word_held h l i p deny = deny (held h l i p.0 p.1 p.2)

-- the one block stands at one place
placed_once : {h : Heap} {l k : ℕ} {b c : Block} → IsOnly h l b → IsOnly h k c → l ≡ k
placed_once {h = h} {l = l} {k = k} {b = b} p q =
    ⊎_elim (λ (e : l ≡ k). e) (λ (n : l ≡ k → ⊥). let f : None ≡ Some b = sym (q.others l n) ∙ p.here in cc) (cases_eq l k)

pub one_place : (h : Heap) (l k m n : ℕ) → IsBlock h l m → IsBlock h k n → l ≡ k
one_place h l k m n p q = placed_once p.2 q.2

pub other_width : (h : Heap) (l m n : ℕ) → m ≡ n → IsBlock h l m → IsBlock h l n
other_width h l m n e p = subst (IsBlock h l) e p
