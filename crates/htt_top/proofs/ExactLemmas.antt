-- Each stage gives one value or one refusal, want of memory aside, where the files tell what they hold
-- and no read failed. So one answer is due to a command.
use Rattle.std.proofs.Common.{ℕ, ◌≡◌, ◌≢◌, ◌<◌, ◌≤◌, ◌⊎◌, List, length, Option, Some, None, Result, Ok, Err, refl, sym, ◌∙◌, ap, subst, arith, ⊎_elim, inl, inr}
use Rattle.htt_base.specs.Outside.{Held, Told, Rose}
use Rattle.htt_syntax_words.specs.declared.words.Which.{Which}
use Rattle.htt_syntax_words.specs.declared.words.Which.TheVariants.{File, CodeFile, HeapFile}
use Rattle.theory_values.specs.Heaps.{Heap}
use Rattle.heap_model_text.specs.HeapText.{IsHeapFile, IsBadLine}
use Rattle.heap_model_text.proofs.FileLemmas.{heap_text_laws}
use Rattle.word_loader_code.specs.declared.code.Code.{Code}
use Rattle.word_loader_format.specs.Layout.{Bytes}
use Rattle.word_loader_format.specs.Rows.{IsRefused}
use Rattle.word_loader_format.proofs.LawProofs.{one_code_lem, coded_isnt_refused_lem, one_refusal_lem}
use Rattle.word_machine.specs.declared.runs.End.{End}
use Rattle.word_machine.specs.Runs.{EndsShipped}
use Rattle.htt_parser_trees.specs.Trees.{RawDeclTree}
use Rattle.htt_top_one_form.specs.declared.form.Form.{Form as TextForm}
use Rattle.htt_top_one_form.specs.Form.{IsForm}
use Rattle.htt_top_words.specs.Forms.{WordsForm, go, run, HasForm, HasNoForm}
use Rattle.htt_top_words.proofs.FormLemmas.{one_form_lem}
use Rattle.htt_top_answers.specs.declared.answer.Refusal.{Refusal}
use Rattle.htt_top_answers.specs.declared.answer.Refusal.TheVariants.{Usage, ReadFault, Limit, Syntax, NotInferred, BadCode, BadHeap, Fault, Stopped, NoMemory}
use Rattle.htt_top_answers.specs.Answers.{Answer, value, halt}
use Rattle.htt_top_answers.specs.Lines.{limit_of}
use Rattle.htt_top.specs.Words.{step_limit}
use Rattle.htt_top.specs.Stages.{Seen, Then, FileGives, LoadGives, CodeGives, HeapGives, StartGives, RunGives, TokensGive, ParseGives, DeclsGive, GoGives}
use Rattle.htt_top.specs.Stages.{answer_of_end}
use Rattle.htt_top.specs.Due.{WordsGive, DueToForm, Due}
use Rattle.htt_top.specs.Answers.{IsOtherFile, IsSyntax, IsSameAnswer}
use Rattle.htt_top.proofs.EndLemmas.{one_end}
use Rattle.htt_top.proofs.StageLemmas.{Agree, AgreeBy, some_agree, too_long, then_agree}
use Rattle.htt_top.proofs.TextLemmas.{tokens_agree, parse_agrees, decls_agree}

-- ---- bytes as code, as a heap

load_cases : (bytes : List ℕ) (x : Result Code Refusal)
    → LoadGives bytes x
    → x ≢ Err NoMemory
    → ((code : Code) × (x ≡ Ok code) × Bytes bytes code) ⊎ ((at row : ℕ) × (x ≡ Err (BadCode at)) × IsRefused bytes at row)
load_cases bytes (Ok code) p m = inl (code, refl, p)
load_cases bytes (Err (BadCode at)) p m = inr (at, p.0, refl, p.1)
load_cases bytes (Err NoMemory) p m = absurd (m refl)
load_cases bytes (Err Usage) p m = absurd p
load_cases bytes (Err ReadFault) p m = absurd p
load_cases bytes (Err (Limit which)) p m = absurd p
load_cases bytes (Err (Syntax at kind)) p m = absurd p
load_cases bytes (Err (NotInferred at)) p m = absurd p
load_cases bytes (Err (BadHeap line)) p m = absurd p
load_cases bytes (Err (Fault kind location)) p m = absurd p
load_cases bytes (Err (Stopped bound count)) p m = absurd p

load_agrees : (bytes : List ℕ) → Agree (LoadGives bytes)
load_agrees bytes x y p q m k =
    ⊎_elim
    (λ (i : (code : Code) × (x ≡ Ok code) × Bytes bytes code).
    ⊎_elim
    (λ (j : (code : Code) × (y ≡ Ok code) × Bytes bytes code). i.1 ∙ ap Ok (one_code_lem bytes i.0 j.0 i.2 j.2) ∙ sym j.1)
    (λ (j : (at row : ℕ) × (y ≡ Err (BadCode at)) × IsRefused bytes at row). absurd (coded_isnt_refused_lem bytes i.0 j.0 j.1 i.2 j.3))
    (load_cases bytes y q k))
    (λ (i : (at row : ℕ) × (x ≡ Err (BadCode at)) × IsRefused bytes at row).
    ⊎_elim
    (λ (j : (code : Code) × (y ≡ Ok code) × Bytes bytes code). absurd (coded_isnt_refused_lem bytes j.0 i.0 i.1 j.2 i.3))
    (λ (j : (at row : ℕ) × (y ≡ Err (BadCode at)) × IsRefused bytes at row).
    let e = (one_refusal_lem bytes i.0 i.1 j.0 j.1 i.3 j.3).0 in
    i.2 ∙ ap (λ (at : ℕ). Err (BadCode at)) e ∙ sym j.2)
    (load_cases bytes y q k))
    (load_cases bytes x p m)

heap_cases : (bytes : List ℕ) (x : Result Heap Refusal)
    → HeapGives bytes x
    → x ≢ Err NoMemory
    → ((h : Heap) × (x ≡ Ok h) × IsHeapFile bytes h) ⊎ ((line : ℕ) × (x ≡ Err (BadHeap line)) × IsBadLine bytes line)
heap_cases bytes (Ok h) p m = inl (h, refl, p)
heap_cases bytes (Err (BadHeap line)) p m = inr (line, refl, p)
heap_cases bytes (Err NoMemory) p m = absurd (m refl)
heap_cases bytes (Err Usage) p m = absurd p
heap_cases bytes (Err ReadFault) p m = absurd p
heap_cases bytes (Err (Limit which)) p m = absurd p
heap_cases bytes (Err (Syntax at kind)) p m = absurd p
heap_cases bytes (Err (NotInferred at)) p m = absurd p
heap_cases bytes (Err (BadCode at)) p m = absurd p
heap_cases bytes (Err (Fault kind location)) p m = absurd p
heap_cases bytes (Err (Stopped bound count)) p m = absurd p

one_heap : (bytes : List ℕ) (h k : Heap) → IsHeapFile bytes h → IsHeapFile bytes k → h ≡ k
one_heap bytes h k p q = let s = heap_text_laws.heaps_agree h k bytes p.is_heap q.is_heap p.is_text q.is_text in λ j l. s.each l j

heap_agrees : (bytes : List ℕ) → Agree (HeapGives bytes)
heap_agrees bytes x y p q m k =
    ⊎_elim
    (λ (i : (h : Heap) × (x ≡ Ok h) × IsHeapFile bytes h).
    ⊎_elim
    (λ (j : (h : Heap) × (y ≡ Ok h) × IsHeapFile bytes h). i.1 ∙ ap Ok (one_heap bytes i.0 j.0 i.2 j.2) ∙ sym j.1)
    (λ (j : (line : ℕ) × (y ≡ Err (BadHeap line)) × IsBadLine bytes line). absurd (heap_text_laws.bad_is_no_file bytes j.0 i.0 j.2 i.2))
    (heap_cases bytes y q k))
    (λ (i : (line : ℕ) × (x ≡ Err (BadHeap line)) × IsBadLine bytes line).
    ⊎_elim
    (λ (j : (h : Heap) × (y ≡ Ok h) × IsHeapFile bytes h). absurd (heap_text_laws.bad_is_no_file bytes i.0 j.0 i.2 j.2))
    (λ (j : (line : ℕ) × (y ≡ Err (BadHeap line)) × IsBadLine bytes line).
    i.1 ∙ ap (λ (line : ℕ). Err (BadHeap line)) (heap_text_laws.bad_lines_agree bytes i.0 j.0 i.2 j.2) ∙ sym j.1)
    (heap_cases bytes y q k))
    (heap_cases bytes x p m)

-- ---- answers

same_refl : (words : List (List ℕ)) (s : Seen) (x : Answer) → IsSameAnswer words s x x
same_refl words s x = inl refl

same_by : (words : List (List ℕ)) (s : Seen) (stage : Answer → Type 0) → Agree stage → AgreeBy (IsSameAnswer words s) stage
same_by words s stage agree x y p q m k = inl (sym (agree x y p q m k))

runs_agree : (code : Code) (h : Heap) (steps : ℕ) → Agree (RunGives code h steps)
runs_agree code h steps x y p q m k =
    ⊎_elim
    (λ (i : x ≡ Err NoMemory). absurd (m i))
    (λ (i : (end : End) × EndsShipped code h steps end × (x ≡ answer_of_end end)).
    ⊎_elim
    (λ (j : y ≡ Err NoMemory). absurd (k j))
    (λ (j : (end : End) × EndsShipped code h steps end × (y ≡ answer_of_end end)).
    i.2 ∙ one_end code h steps i.0 j.0 i.1 j.1 ∙ sym j.2)
    q)
    p

words_cases : (words : List (List ℕ)) (x : Result WordsForm Refusal)
    → WordsGive words x
    → x ≢ Err NoMemory
    → ((form : WordsForm) × (x ≡ Ok form) × HasForm words form) ⊎ ((x ≡ Err Usage) × HasNoForm words)
words_cases words (Ok form) p m = inl (form, refl, p)
words_cases words (Err Usage) p m = inr (refl, p)
words_cases words (Err NoMemory) p m = absurd (m refl)
words_cases words (Err ReadFault) p m = absurd p
words_cases words (Err (Limit which)) p m = absurd p
words_cases words (Err (Syntax at kind)) p m = absurd p
words_cases words (Err (NotInferred at)) p m = absurd p
words_cases words (Err (BadCode at)) p m = absurd p
words_cases words (Err (BadHeap line)) p m = absurd p
words_cases words (Err (Fault kind location)) p m = absurd p
words_cases words (Err (Stopped bound count)) p m = absurd p

words_agree : (words : List (List ℕ)) → Agree (WordsGive words)
words_agree words x y p q m k =
    ⊎_elim
    (λ (i : (form : WordsForm) × (x ≡ Ok form) × HasForm words form).
    ⊎_elim
    (λ (j : (form : WordsForm) × (y ≡ Ok form) × HasForm words form). i.1 ∙ ap Ok (one_form_lem words i.0 j.0 i.2 j.2) ∙ sym j.1)
    (λ (j : (y ≡ Err Usage) × HasNoForm words). absurd (j.1 i.0 i.2))
    (words_cases words y q k))
    (λ (i : (x ≡ Err Usage) × HasNoForm words).
    ⊎_elim
    (λ (j : (form : WordsForm) × (y ≡ Ok form) × HasForm words form). absurd (i.1 j.0 j.2))
    (λ (j : (y ≡ Err Usage) × HasNoForm words). i.0 ∙ sym j.0)
    (words_cases words y q k))
    (words_cases words x p m)

-- ---- files that tell, and no failed read

told_at : (o : Option Held) (held : Held) (P : Held → Type 0) → o ≡ Some held → Told o P → P held
told_at o held P e t = let z : Told (Some held) P = subst (λ x. Told x P) e t in z

module _ (s : Seen) (held : Held) (is_told : s.held ≡ Some held) (quiet : Rose s.before s.now → ⊥) where
  file_cases : (name : List ℕ) (which : Which) (x : Result (List ℕ) Refusal)
      → FileGives s name which x
      → x ≢ Err NoMemory
      → ((b : List ℕ) × (x ≡ Ok b) × (held name ≡ Some b) × (length b ≤ limit_of which))
      ⊎ ((b : List ℕ) × (x ≡ Err (Limit which)) × (held name ≡ Some b) × (limit_of which < length b))
  file_cases name which (Ok b) p m = inl (b, refl, told_at s.held held (λ h. h name ≡ Some b) is_told p.0, p.1)
  file_cases name which (Err (Limit passed)) p m =
      let t = told_at s.held held (λ h. (b : List ℕ) × (h name ≡ Some b) × (limit_of which < length b)) is_told p.1 in
      inr (t.0, ap (λ (w : Which). Err (Limit w)) p.0, t.1, t.2)
  file_cases name which (Err ReadFault) p m = absurd (quiet p)
  file_cases name which (Err NoMemory) p m = absurd (m refl)
  file_cases name which (Err Usage) p m = absurd p
  file_cases name which (Err (Syntax at kind)) p m = absurd p
  file_cases name which (Err (NotInferred at)) p m = absurd p
  file_cases name which (Err (BadCode at)) p m = absurd p
  file_cases name which (Err (BadHeap line)) p m = absurd p
  file_cases name which (Err (Fault kind location)) p m = absurd p
  file_cases name which (Err (Stopped bound count)) p m = absurd p

  one_content : (name b c : List ℕ) → held name ≡ Some b → held name ≡ Some c → b ≡ c
  one_content name b c p q = some_agree (sym p ∙ q)

  not_both : (name b c : List ℕ) (n : ℕ) → held name ≡ Some b → held name ≡ Some c → length b ≤ n → n < length c → ⊥
  not_both name b c n p q d f = too_long (length b) (length c) n (ap length (one_content name b c p q)) d f

  file_agrees : (name : List ℕ) (which : Which) → Agree (FileGives s name which)
  file_agrees name which x y p q m k =
      ⊎_elim
      (λ (i : (b : List ℕ) × (x ≡ Ok b) × (held name ≡ Some b) × (length b ≤ limit_of which)).
      ⊎_elim
      (λ (j : (b : List ℕ) × (y ≡ Ok b) × (held name ≡ Some b) × (length b ≤ limit_of which)). i.1 ∙ ap Ok (one_content name i.0 j.0 i.2 j.2) ∙ sym j.1)
      (λ (j : (b : List ℕ) × (y ≡ Err (Limit which)) × (held name ≡ Some b) × (limit_of which < length b)).
      absurd (not_both name i.0 j.0 (limit_of which) i.2 j.2 i.3 j.3))
      (file_cases name which y q k))
      (λ (i : (b : List ℕ) × (x ≡ Err (Limit which)) × (held name ≡ Some b) × (limit_of which < length b)).
      ⊎_elim
      (λ (j : (b : List ℕ) × (y ≡ Ok b) × (held name ≡ Some b) × (length b ≤ limit_of which)). absurd (not_both name j.0 i.0 (limit_of which) j.2 i.2 j.3 i.3))
      (λ (j : (b : List ℕ) × (y ≡ Err (Limit which)) × (held name ≡ Some b) × (limit_of which < length b)). i.1 ∙ sym j.1)
      (file_cases name which y q k))
      (file_cases name which x p m)

  code_agrees : (name : List ℕ) → Agree (CodeGives s name)
  code_agrees name = then_agree (λ x y. x ≡ y) (λ x. refl) (FileGives s name CodeFile) LoadGives (file_agrees name CodeFile) (λ bytes read. load_agrees bytes)

  start_agrees : (name : Option (List ℕ)) → Agree (StartGives s name)
  start_agrees None x y p q m k = p ∙ sym q
  start_agrees (Some name) x y p q m k =
      then_agree (λ x y. x ≡ y) (λ x. refl) (FileGives s name HeapFile) HeapGives (file_agrees name HeapFile)
      (λ bytes read. heap_agrees bytes) x y p q m k

  decls_same : (words : List (List ℕ)) (bytes : List ℕ) (decls : List RawDeclTree)
      → (((f : TextForm) → IsForm bytes decls f → ⊥) → IsOtherFile words s)
      → AgreeBy (IsSameAnswer words s) (DeclsGive bytes decls)
  decls_same words bytes decls other x y p q m k =
      ⊎_elim
      (λ (i : x ≡ y). inl (sym i))
      (λ (i : ((f : TextForm) → IsForm bytes decls f → ⊥) × IsSyntax x × IsSyntax y). inr (other i.0, i.1, i.2))
      (decls_agree bytes decls x y p q m k)

  texts_same : (words : List (List ℕ)) (name bytes : List ℕ)
      → HasForm words (go name)
      → FileGives s name File (Ok bytes)
      → AgreeBy (IsSameAnswer words s) (GoGives bytes)
  texts_same words name bytes named read =
      then_agree (IsSameAnswer words s) (same_refl words s) (TokensGive bytes) (λ tokens. Then (ParseGives bytes tokens) (DeclsGive bytes))
      (tokens_agree bytes)
      (λ tokens cut. then_agree (IsSameAnswer words s) (same_refl words s) (ParseGives bytes tokens) (DeclsGive bytes)
      (parse_agrees bytes tokens)
      (λ decls parsed.
      decls_same words bytes decls (λ other. record {
        name = name;
        bytes = bytes;
        tokens = tokens;
        decls = decls;
        named = named;
        read = read;
        cut = cut;
        parsed = parsed;
        other = other;
      })))

  commands_agree : (words : List (List ℕ)) (form : WordsForm) → HasForm words form → AgreeBy (IsSameAnswer words s) (DueToForm s form)
  commands_agree words (go file) named =
      then_agree (IsSameAnswer words s) (same_refl words s) (FileGives s file File) GoGives (file_agrees file File)
      (λ bytes read. texts_same words file bytes named read)
  commands_agree words (run code heap steps) named =
      same_by words s _
      (then_agree (λ x y. x ≡ y) (λ x. refl) (CodeGives s code) (λ c. Then (StartGives s heap) (λ h. RunGives c h (step_limit steps)))
      (code_agrees code)
      (λ c coded.
      then_agree (λ x y. x ≡ y) (λ x. refl) (StartGives s heap) (λ h. RunGives c h (step_limit steps)) (start_agrees heap)
      (λ h started. runs_agree c h (step_limit steps))))

  pub answers_agree : (words : List (List ℕ)) → AgreeBy (IsSameAnswer words s) (Due words s)
  answers_agree words = then_agree (IsSameAnswer words s) (same_refl words s) (WordsGive words) (DueToForm s) (words_agree words) (commands_agree words)
