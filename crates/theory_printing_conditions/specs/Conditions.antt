-- Which trees have a text: what is printed of them in a scope is read back there. Each index names an entry or a
-- hypothesis that may stand at its place, each number a value or a recursive predicate; there is no definition and no
-- made function; a block has statements, and doesn't end in a block.
use Rattle.std.specs.Prelude.{◌≡◌, Bool, ℕ, zero, suc, ◌^◌, ◌<◌, false, List, [], ◌∷◌, length, Option, Some, None}
use Rattle.std.specs.Prelude.{IsUtf8, slice_get, true}
use Rattle.std.specs.List.{list_all}
use Rattle.std.specs.Str.{encode_utf8_all}
use Rattle.unicode_ident.specs.Ident.{is_xid_continue}
use Rattle.htt_lexer_tokens.specs.declared.tokens.Kind.TheVariants.{Name}
use Rattle.htt_lexer.specs.Tokens.{begins_word, word_kind}
use Rattle.htt_syntax.specs.Trees.{MonoTree, TyTree, TripleTree, TermTree, FixTree, CompTree, StepTree, FormulaTree}
use Rattle.htt_syntax.specs.Trees.{TermTrees, ArgTree, ProofTree, StmtTree, BlockTree, m_word, m_bool, m_loc, m_unit}
use Rattle.htt_syntax.specs.Trees.{m_pair, m_var, y_mono, y_fun, y_all, y_hoare, y_at, triple, t_var, t_val, t_def}
use Rattle.htt_syntax.specs.Trees.{t_app, t_inst, t_lam, t_lam_t, t_do, t_fix, t_word, t_bool, t_loc, t_unit, t_pair}
use Rattle.htt_syntax.specs.Trees.{t_fst, t_snd, t_not, t_bin, t_eq, t_sel, t_ann, t_made, t_at, x_param, x_body, c_ret}
use Rattle.htt_syntax.specs.Trees.{c_step, s_run, s_alloc, s_get, s_set, s_free, s_if, s_claim, f_tt, f_ff, f_and, f_or}
use Rattle.htt_syntax.specs.Trees.{f_imp, f_all_t, f_ex_t, f_all_h, f_ex_h, f_emp, f_cell, f_block, f_join, f_same}
use Rattle.htt_syntax.specs.Trees.{f_eq}
use Rattle.htt_syntax.specs.Trees.{f_at, f_rec, no_terms, more_terms, a_heap, a_term, p_hyp, p_trivial, p_refl, p_first}
use Rattle.htt_syntax.specs.Trees.{p_second, p_left, p_right, p_absurd, p_both, p_give, p_app, p_inst, p_case}
use Rattle.htt_syntax.specs.Trees.{p_rewrite}
use Rattle.htt_syntax.specs.Trees.{p_induct, p_split, p_axiom, p_lem, p_the, p_block, p_at, p_unfold, d_intro, d_gen}
use Rattle.htt_syntax.specs.Trees.{d_have, d_open, d_at, b_then, b_end}
use Rattle.theory_text_names.specs.Scopes as sorts
use Rattle.theory_text_names.specs.Scopes.{Sort, a_mono, a_term_or_heap, the_init, the_mem, is_reserved}
use Rattle.theory_printing.specs.Names.{PrintScope, with_entry, with_hypothesis, under_mem, under_heaps}
use Rattle.theory_printing.specs.Proofs.{after_stmt, under_next}

-- ---- names

-- a text that is one word, which is no keyword and not `_`
pub record IsName (name : List ℕ) : Type 0 where
  pub utf8 : IsUtf8 name
  pub first : ℕ
  pub others : List ℕ
  pub spelled : encode_utf8_all (first ∷ others) ≡ name
  pub begins : begins_word first ≡ true
  pub goes_on : list_all is_xid_continue others ≡ true
  pub kind : word_kind name ≡ Name

-- a name that may be declared
abbrev pub HasName : Option (List ℕ) → Type 0
HasName None = ⊥
HasName (Some name) = IsName name × (is_reserved name ≡ false)

-- ---- entries; their positions are numbers that a text can write

abbrev pub StandsForMono : Option Sort → Type 0
StandsForMono (Some a_mono) = Unit {0}
StandsForMono _ = ⊥

abbrev pub StandsForTerm : Option Sort → Type 0
StandsForTerm (Some sorts.a_term) = Unit {0}
StandsForTerm (Some a_term_or_heap) = Unit {0}
StandsForTerm _ = ⊥

abbrev pub StandsForHeap : Option Sort → Type 0
StandsForHeap (Some sorts.a_heap) = Unit {0}
StandsForHeap (Some a_term_or_heap) = Unit {0}
StandsForHeap (Some the_init) = Unit {0}
StandsForHeap (Some the_mem) = Unit {0}
StandsForHeap _ = ⊥

abbrev pub IsMonoEntry : PrintScope → ℕ → Type 0
IsMonoEntry s index = StandsForMono (slice_get s.entries index) × (length s.entries < 2 ^ 64)

abbrev pub IsTermEntry : PrintScope → ℕ → Type 0
IsTermEntry s index = StandsForTerm (slice_get s.entries index) × (length s.entries < 2 ^ 64)

abbrev pub IsHeapEntry : PrintScope → ℕ → Type 0
IsHeapEntry s index = StandsForHeap (slice_get s.entries index) × (length s.entries < 2 ^ 64)

abbrev pub IsHypothesis : PrintScope → ℕ → Type 0
IsHypothesis s number = (number < s.hypotheses) × (s.hypotheses < 2 ^ 64)

-- ---- phrases, where the recursive predicates have so many parameters each

unfoldable pub terms_in : TermTrees → ℕ
terms_in no_terms = zero
terms_in (more_terms M Ms) = suc (terms_in Ms)

unfoldable pub HasTextMono : List ℕ → PrintScope → MonoTree → Type 0
HasTextMono counts s m_word = Unit {0}
HasTextMono counts s m_bool = Unit {0}
HasTextMono counts s m_loc = Unit {0}
HasTextMono counts s m_unit = Unit {0}
HasTextMono counts s (m_pair t u) = HasTextMono counts s t × HasTextMono counts s u
HasTextMono counts s (m_var index) = IsMonoEntry s index

unfoldable mutual
  pub HasTextTy : List ℕ → PrintScope → TyTree → Type 0
  HasTextTy counts s (y_mono t) = HasTextMono counts s t
  HasTextTy counts s (y_fun A B) = HasTextTy counts s A × HasTextTy counts (with_entry sorts.a_term s) B
  HasTextTy counts s (y_all B) = HasTextTy counts (with_entry a_mono s) B
  HasTextTy counts s (y_hoare T) = HasTextSpec counts s T
  HasTextTy counts s (y_at at A) = HasTextTy counts s A

  pub HasTextSpec : List ℕ → PrintScope → TripleTree → Type 0
  HasTextSpec counts s (triple P t Q) =
      HasTextFormula counts (under_mem s) P
      × HasTextMono counts s t
      × HasTextFormula counts (under_heaps (with_entry sorts.a_term s)) Q

  pub HasTextTerm : List ℕ → PrintScope → TermTree → Type 0
  HasTextTerm counts s (t_var index) = IsTermEntry s index
  HasTextTerm counts s (t_val number) = HasName (slice_get s.vals number)
  HasTextTerm counts s (t_app K M) = HasTextTerm counts s K × HasTextTerm counts s M
  HasTextTerm counts s (t_inst K t) = HasTextTerm counts s K × HasTextMono counts s t
  HasTextTerm counts s (t_lam M) = HasTextTerm counts (with_entry sorts.a_term s) M
  HasTextTerm counts s (t_lam_t M) = HasTextTerm counts (with_entry a_mono s) M
  HasTextTerm counts s (t_do E) = HasTextComp counts s E
  HasTextTerm counts s (t_fix at X) = HasTextFix counts s X
  HasTextTerm counts s (t_word n) = n < 2 ^ 64
  HasTextTerm counts s (t_bool truth) = Unit {0}
  HasTextTerm counts s (t_loc n) = n < 2 ^ 64
  HasTextTerm counts s t_unit = Unit {0}
  HasTextTerm counts s (t_pair M N) = HasTextTerm counts s M × HasTextTerm counts s N
  HasTextTerm counts s (t_fst M) = HasTextTerm counts s M
  HasTextTerm counts s (t_snd M) = HasTextTerm counts s M
  HasTextTerm counts s (t_not M) = HasTextTerm counts s M
  HasTextTerm counts s (t_bin op M N) = HasTextTerm counts s M × HasTextTerm counts s N
  HasTextTerm counts s (t_eq t M N) = HasTextMono counts s t × HasTextTerm counts s M × HasTextTerm counts s N
  HasTextTerm counts s (t_sel t B M N) =
      HasTextMono counts s t × HasTextTerm counts s B × HasTextTerm counts s M × HasTextTerm counts s N
  HasTextTerm counts s (t_ann M A) = HasTextTerm counts s M × HasTextTy counts s A
  HasTextTerm counts s (t_at at M) = HasTextTerm counts s M
  HasTextTerm counts s (t_def number) = ⊥
  HasTextTerm counts s (t_made number captured) = ⊥

  pub HasTextFix : List ℕ → PrintScope → FixTree → Type 0
  HasTextFix counts s (x_param A X) = HasTextTy counts s A × HasTextFix counts (with_entry sorts.a_term s) X
  HasTextFix counts s (x_body T E) = HasTextSpec counts s T × HasTextComp counts (with_entry sorts.a_term s) E

  pub HasTextComp : List ℕ → PrintScope → CompTree → Type 0
  HasTextComp counts s (c_ret M) = HasTextTerm counts s M
  HasTextComp counts s (c_step S E) = HasTextStep counts s S × HasTextComp counts (with_entry sorts.a_term s) E

  pub HasTextStep : List ℕ → PrintScope → StepTree → Type 0
  HasTextStep counts s (s_run K t) = HasTextTerm counts s K
  HasTextStep counts s (s_alloc t M) = HasTextMono counts s t × HasTextTerm counts s M
  HasTextStep counts s (s_get t M) = HasTextMono counts s t × HasTextTerm counts s M
  HasTextStep counts s (s_set t M N) = HasTextMono counts s t × HasTextTerm counts s M × HasTextTerm counts s N
  HasTextStep counts s (s_free t M) = HasTextMono counts s t × HasTextTerm counts s M
  HasTextStep counts s (s_if t B E E') =
      HasTextMono counts s t × HasTextTerm counts s B × HasTextComp counts s E × HasTextComp counts s E'
  HasTextStep counts s (s_claim F) = HasTextFormula counts (under_heaps s) F

  pub HasTextFormula : List ℕ → PrintScope → FormulaTree → Type 0
  HasTextFormula counts s f_tt = Unit {0}
  HasTextFormula counts s f_ff = Unit {0}
  HasTextFormula counts s (f_and F G) = HasTextFormula counts s F × HasTextFormula counts s G
  HasTextFormula counts s (f_or F G) = HasTextFormula counts s F × HasTextFormula counts s G
  HasTextFormula counts s (f_imp F G) = HasTextFormula counts s F × HasTextFormula counts s G
  HasTextFormula counts s (f_all_t t F) = HasTextMono counts s t × HasTextFormula counts (with_entry sorts.a_term s) F
  HasTextFormula counts s (f_ex_t t F) = HasTextMono counts s t × HasTextFormula counts (with_entry sorts.a_term s) F
  HasTextFormula counts s (f_all_h F) = HasTextFormula counts (with_entry sorts.a_heap s) F
  HasTextFormula counts s (f_ex_h F) = HasTextFormula counts (with_entry sorts.a_heap s) F
  HasTextFormula counts s (f_emp h) = IsHeapEntry s h
  HasTextFormula counts s (f_cell t h M N) =
      HasTextMono counts s t × IsHeapEntry s h × HasTextTerm counts s M × HasTextTerm counts s N
  HasTextFormula counts s (f_block t h M) = HasTextMono counts s t × IsHeapEntry s h × HasTextTerm counts s M
  HasTextFormula counts s (f_join h a b) = IsHeapEntry s h × IsHeapEntry s a × IsHeapEntry s b
  HasTextFormula counts s (f_same h k) = IsHeapEntry s h × IsHeapEntry s k
  HasTextFormula counts s (f_eq t M N) = HasTextTerm counts s M × HasTextMono counts s t × HasTextTerm counts s N
  HasTextFormula counts s (f_at at F) = HasTextFormula counts s F
  HasTextFormula counts s (f_rec p h N Ms) =
      HasName (slice_get s.recs p) × IsHeapEntry s h × HasTextTerm counts s N × HasTextTerms counts s Ms ×
      (slice_get counts p ≡ Some (terms_in Ms))

  pub HasTextTerms : List ℕ → PrintScope → TermTrees → Type 0
  HasTextTerms counts s no_terms = Unit {0}
  HasTextTerms counts s (more_terms M Ms) = HasTextTerm counts s M × HasTextTerms counts s Ms

-- ---- proofs

unfoldable pub HasTextMonos : List ℕ → PrintScope → List MonoTree → Type 0
HasTextMonos counts s [] = Unit {0}
HasTextMonos counts s (t ∷ ts) = HasTextMono counts s t × HasTextMonos counts s ts

abbrev pub HasTextArg : List ℕ → PrintScope → ArgTree → Type 0
HasTextArg counts s (a_heap h) = IsHeapEntry s h
HasTextArg counts s (a_term M) = HasTextTerm counts s M

unfoldable pub HasTextArgs : List ℕ → PrintScope → List ArgTree → Type 0
HasTextArgs counts s [] = Unit {0}
HasTextArgs counts s (a ∷ others) = HasTextArg counts s a × HasTextArgs counts s others

abbrev pub AreSome : List ArgTree → Type 0
AreSome [] = ⊥
AreSome (a ∷ others) = Unit {0}

abbrev pub BeginsBlock : BlockTree → Type 0
BeginsBlock (b_then d b) = Unit {0}
BeginsBlock (b_end p) = ⊥

unfoldable pub is_block : ProofTree → Bool
is_block (p_block b) = true
is_block (p_at at p) = is_block p
is_block _ = false

unfoldable mutual
  pub HasTextProof : List ℕ → PrintScope → ProofTree → Type 0
  HasTextProof counts s (p_hyp number) = IsHypothesis s number
  HasTextProof counts s p_trivial = Unit {0}
  HasTextProof counts s p_refl = Unit {0}
  HasTextProof counts s (p_first p) = HasTextProof counts s p
  HasTextProof counts s (p_second p) = HasTextProof counts s p
  HasTextProof counts s (p_left p) = HasTextProof counts s p
  HasTextProof counts s (p_right p) = HasTextProof counts s p
  HasTextProof counts s (p_absurd p) = HasTextProof counts s p
  HasTextProof counts s (p_both p q) = HasTextProof counts s p × HasTextProof counts s q
  HasTextProof counts s (p_give a p) = HasTextArg counts s a × HasTextProof counts s p
  HasTextProof counts s (p_app p q) = HasTextProof counts s p × HasTextProof counts s q
  HasTextProof counts s (p_inst p a) = HasTextProof counts s p × HasTextArg counts s a
  HasTextProof counts s (p_case p q r) =
      HasTextProof counts s p × HasTextProof counts (with_hypothesis s) q × HasTextProof counts (with_hypothesis s) r
  HasTextProof counts s (p_rewrite p C q) =
      HasTextProof counts s p × HasTextFormula counts (with_entry a_term_or_heap s) C × HasTextProof counts s q
  HasTextProof counts s (p_induct C M p q) =
      HasTextFormula counts (with_entry a_term_or_heap s) C
      × HasTextTerm counts s M
      × HasTextProof counts s p
      × HasTextProof counts (under_next s) q
  HasTextProof counts s (p_split C M p q) =
      HasTextFormula counts (with_entry a_term_or_heap s) C
      × HasTextTerm counts s M
      × HasTextProof counts s p
      × HasTextProof counts s q
  HasTextProof counts s (p_axiom c ts more) = IsName c × HasTextMonos counts s ts × HasTextArgs counts s more
  HasTextProof counts s (p_unfold number at_next more) =
      HasName (slice_get s.recs number) × (at_next < 2 ^ 64) × AreSome more × HasTextArgs counts s more
  HasTextProof counts s (p_lem F) = HasTextFormula counts s F
  HasTextProof counts s (p_the F p) = HasTextFormula counts s F × HasTextProof counts s p
  HasTextProof counts s (p_block b) = BeginsBlock b × HasTextBlock counts s b
  HasTextProof counts s (p_at at p) = HasTextProof counts s p

  pub HasTextBlock : List ℕ → PrintScope → BlockTree → Type 0
  HasTextBlock counts s (b_then d b) = HasTextStmt counts s d × HasTextBlock counts (after_stmt d s) b
  HasTextBlock counts s (b_end p) = (is_block p ≡ false) × HasTextProof counts s p

  pub HasTextStmt : List ℕ → PrintScope → StmtTree → Type 0
  HasTextStmt counts s d_intro = Unit {0}
  HasTextStmt counts s d_gen = Unit {0}
  HasTextStmt counts s (d_have F p) = HasTextFormula counts s F × HasTextProof counts s p
  HasTextStmt counts s (d_open p) = HasTextProof counts s p
  HasTextStmt counts s (d_at at d) = HasTextStmt counts s d
