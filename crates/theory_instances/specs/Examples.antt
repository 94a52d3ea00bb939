-- Instances that were worked out by hand.
use Rattle.std.specs.Prelude.{◌≡◌, ℕ, List, [], ◌∷◌, map, true, Some, None}
use Rattle.htt_syntax.specs.declared.mono.Op.TheVariants.{Add, Sub}
use Rattle.htt_syntax.specs.Trees.{MonoTree, TyTree, TermTree, FixTree, CompTree, m_word, m_bool, m_loc, m_unit, m_pair}
use Rattle.htt_syntax.specs.Trees.{m_var, y_mono, y_fun, y_all, y_hoare, triple, t_var, t_val, t_app, t_inst, t_lam}
use Rattle.htt_syntax.specs.Trees.{t_lam_t}
use Rattle.htt_syntax.specs.Trees.{t_do, t_fix, t_word, t_bool, t_unit, t_pair, t_fst, t_snd, t_bin, t_eq, t_made}
use Rattle.htt_syntax.specs.Trees.{x_param, x_body, c_ret}
use Rattle.htt_syntax.specs.Trees.{c_step, s_run, s_alloc, s_get, s_free, s_if, f_tt, f_eq, no_terms, more_terms}
use Rattle.theory_canonical.specs.Skeletons.{sk_o, sk_c, sk_arrow}
use Rattle.theory_instances.specs.Calls.{Program, of_term, of_mono, Site, sites_of}
use Rattle.theory_instances.specs.Keys.{Key, key_of_site, IsSameKey}
use Rattle.theory_instances.specs.Bodies.{params_of, made_of}
use Rattle.theory_instances.specs.Lists.{Taken, HasInstances, RefusesInstances, no_main, has_parameters, is_varying}
use Rattle.theory_instances.specs.Lists.{main_key}

-- {tt} x : t {tt}
abbrev pub always : MonoTree → TyTree
always mono = y_hoare (triple f_tt mono f_tt)

abbrev pub without_parameters : MonoTree → CompTree → Taken
without_parameters mono body = record { key = main_key 0; params = []; result = mono; body = body }

-- val main : {tt} x : word {x =[word] 5} = do ret 2 + 3
abbrev pub sum : Program
sum = record {
  vals = record {
    ty = y_hoare (triple f_tt m_word (f_eq m_word (t_var 2) (t_word 5)));
    term = t_do (c_ret (t_word 5));
  } ∷ [];
  main = Some 0;
}

abbrev pub sum_instances : List Taken
sum_instances = without_parameters m_word (c_ret (t_word 5)) ∷ []

-- do l <- alloc[word] 7; v <- get[word] l; _ <- free[word] l; ret v
abbrev pub cell_body : CompTree
cell_body =
    c_step (s_alloc m_word (t_word 7))
    (c_step (s_get m_word (t_var 0)) (c_step (s_free m_word (t_var 1)) (c_ret (t_var 1))))

abbrev pub cell : Program
cell = record { vals = record { ty = always m_word; term = t_do cell_body } ∷ []; main = Some 0 }

abbrev pub cell_instances : List Taken
cell_instances = without_parameters m_word cell_body ∷ []

-- do l <- alloc[unit] (); k <- alloc[unit] (); ret eq[loc](l, k)
abbrev pub blocks_body : CompTree
blocks_body =
    c_step (s_alloc m_unit t_unit)
    (c_step (s_alloc m_unit t_unit) (c_ret (t_eq m_loc (t_var 1) (t_var 0))))

abbrev pub blocks : Program
blocks = record { vals = record { ty = always m_bool; term = t_do blocks_body } ∷ []; main = Some 0 }

abbrev pub blocks_instances : List Taken
blocks_instances = without_parameters m_bool blocks_body ∷ []

-- val seven : {tt} x : word {tt} = do ret 7 and val main : {tt} x : word {tt} = do x <- seven; ret x
abbrev pub seven_body : CompTree
seven_body = c_step (s_run (t_val 0) (Some m_word)) (c_ret (t_var 0))

abbrev pub seven : Program
seven = record {
  vals = record { ty = always m_word; term = t_do (c_ret (t_word 7)) } ∷
      record { ty = always m_word; term = t_do seven_body } ∷ [];
  main = Some 1;
}

abbrev pub seven_instances : List Taken
seven_instances =
    record { key = main_key 1; params = []; result = m_word; body = seven_body } ∷
    without_parameters m_word (c_ret (t_word 7)) ∷ []

-- val dup : [a] -> (x : a) -> {tt} p : a * a {tt} = fun [a] . fun x . do ret (x, x), and
-- val main = do a <- dup [word] 3; b <- dup [word * bool] (4, true); ret (a, b)
abbrev pub word_and_bool : MonoTree
word_and_bool = m_pair m_word m_bool

abbrev pub twice_result : CompTree
twice_result = c_ret (t_pair (t_var 0) (t_var 0))

abbrev pub dup_body : CompTree
dup_body =
    c_step (s_run (t_app (t_inst (t_val 0) m_word) (t_word 3)) (Some (m_pair m_word m_word)))
    (c_step
    (s_run (t_app (t_inst (t_val 0) word_and_bool) (t_pair (t_word 4) (t_bool true)))
    (Some (m_pair word_and_bool word_and_bool))) (c_ret (t_pair (t_var 1) (t_var 0))))

abbrev pub dup_result : MonoTree
dup_result = m_pair (m_pair m_word m_word) (m_pair word_and_bool word_and_bool)

abbrev pub dup : Program
dup = record {
  vals = record {
    ty = y_all (y_fun (y_mono (m_var 0)) (y_hoare (triple f_tt (m_pair (m_var 1) (m_var 1)) f_tt)));
    term = t_lam_t (t_lam (t_do twice_result));
  } ∷ record { ty = always dup_result; term = t_do dup_body } ∷ [];
  main = Some 1;
}

abbrev pub dup_at : MonoTree → Taken
dup_at mono = record {
  key = record { head = t_val 0; fixed = of_mono mono ∷ []; captured = [] };
  params = mono ∷ [];
  result = m_pair mono mono;
  body = twice_result;
}

abbrev pub dup_instances : List Taken
dup_instances =
    record { key = main_key 1; params = []; result = dup_result; body = dup_body } ∷ dup_at m_word ∷
    dup_at word_and_bool ∷ []

-- fun x . x + 2, and (x : word) -> word
abbrev pub plus_two : TermTree
plus_two = t_lam (t_bin Add (t_var 0) (t_word 2))

abbrev pub word_to_word : TyTree
word_to_word = y_fun (y_mono m_word) (y_mono m_word)

-- fix f (h : (x : word) -> word) (n : word) : {tt} z : word {tt} .
--   b <- if [word] eq[word](n, 0) { ret 0 } { y <- f PASSED (n - 1); ret h y }; ret b
abbrev pub counted : TermTree → FixTree
counted passed =
    x_param word_to_word (x_param (y_mono m_word)
    (x_body (triple f_tt m_word f_tt)
    (c_step
    (s_if m_word (t_eq m_word (t_var 1) (t_word 0)) (c_ret (t_word 0))
    (c_step (s_run (t_app (t_app (t_var 0) passed) (t_bin Sub (t_var 1) (t_word 1))) (Some m_word))
    (c_ret (t_app (t_var 3) (t_var 0))))) (c_ret (t_var 0)))))

-- fun x . h x, and fun x . h (h x), where h is the parameter
abbrev pub passed_on : TermTree
passed_on = t_lam (t_app (t_var 3) (t_var 0))

abbrev pub changed : TermTree
changed = t_lam (t_app (t_var 3) (t_app (t_var 3) (t_var 0)))

-- val rep : (h : (x : word) -> word) -> (n : word) -> {tt} z : word {tt} = fun h . fun n .
--   do r <- (fix f ..) h n; ret r, and val main = do r <- rep (fun x . x + 2) 5; ret r; the keyword `fix` is byte 100
abbrev pub repeated : FixTree → TermTree → TermTree → CompTree
repeated fix function count =
    c_step (s_run (t_app (t_app (t_fix 100 fix) function) count) (Some m_word)) (c_ret (t_var 0))

abbrev pub rep_main : CompTree
rep_main = c_step (s_run (t_app (t_app (t_val 0) plus_two) (t_word 5)) (Some m_word)) (c_ret (t_var 0))

abbrev pub rep : TermTree → Program
rep passed = record {
  vals = record {
    ty = y_fun word_to_word (y_fun (y_mono m_word) (always m_word));
    term = t_lam (t_lam (t_do (repeated (counted passed) (t_lam (t_app (t_var 2) (t_var 0))) (t_var 0))));
  } ∷ record { ty = always m_word; term = t_do rep_main } ∷ [];
  main = Some 1;
}

-- b <- if [word] eq[word](n, 0) { ret 0 } { y <- (this instance) (fun x . x + 2) (n - 1); ret y + 2 }; ret b
abbrev pub counted_body : CompTree
counted_body =
    c_step
    (s_if m_word (t_eq m_word (t_var 0) (t_word 0)) (c_ret (t_word 0))
    (c_step (s_run (t_app (t_app (t_made 2 no_terms) plus_two) (t_bin Sub (t_var 0) (t_word 1))) (Some m_word))
    (c_ret (t_bin Add (t_var 0) (t_word 2))))) (c_ret (t_var 0))

abbrev pub rep_key : Key
rep_key = record { head = t_val 0; fixed = of_term plus_two ∷ []; captured = [] }

abbrev pub fix_key : TermTree → Key
fix_key passed = record { head = t_fix 100 (counted passed); fixed = of_term plus_two ∷ []; captured = [] }

abbrev pub rep_taken : TermTree → Taken
rep_taken passed = record {
  key = rep_key;
  params = m_word ∷ [];
  result = m_word;
  body = repeated (counted passed) plus_two (t_var 0);
}

abbrev pub rep_instances : List Taken
rep_instances =
    record { key = main_key 1; params = []; result = m_word; body = rep_main } ∷ rep_taken passed_on ∷
    record { key = fix_key passed_on; params = m_word ∷ []; result = m_word; body = counted_body } ∷ []

-- under l : word and k : loc, the variables 1 and 0: fix f (n : word) : {k =[loc] k} z : word {l =[word] l} . ret n
abbrev pub capturing : TermTree → TermTree → FixTree
capturing in_pre in_post =
    x_param (y_mono m_word)
    (x_body (triple (f_eq m_loc in_pre in_pre) m_word (f_eq m_word in_post in_post)) (c_ret (t_var 1)))

abbrev pub two_words : MonoTree
two_words = m_pair m_word m_word

-- fix f (n : word) : {b =[bool] b} z : word {q =[word * word] q} .
--   s <- if [word] b { ret snd q } { t <- f (n + 1); ret t }; ret s, which captures b and q
abbrev pub picking : TermTree → TermTree → TermTree → TermTree → FixTree
picking b_in_pre q_in_post b q =
    x_param (y_mono m_word)
    (x_body (triple (f_eq m_bool b_in_pre b_in_pre) m_word (f_eq two_words q_in_post q_in_post))
    (c_step
    (s_if m_word b (c_ret (t_snd q))
    (c_step (s_run (t_app (t_var 0) (t_bin Add (t_var 1) (t_word 1))) (Some m_word)) (c_ret (t_var 0)))) (c_ret (t_var 0))))

-- (fix f ..) (fst q) under q : word * word and b : bool, the variables 1 and 0, and its key
abbrev pub picking_call : ℕ → TermTree
picking_call at = t_app (t_fix at (picking (t_var 2) (t_var 5) (t_var 2) (t_var 3))) (t_fst (t_var 1))

abbrev pub picking_key : ℕ → Key
picking_key at =
    record {
      head = t_fix at (picking (t_var 3) (t_var 4) (t_var 3) (t_var 2));
      fixed = [];
      captured = two_words ∷ m_bool ∷ [];
    }

-- val pick : (q : word * word) -> (b : bool) -> {tt} z : word {tt} = fun q . fun b . do r <- (fix f ..) (fst q); ret r, and
-- val main = do r <- pick (3, 4) true; ret r
abbrev pub pick : Program
pick = record {
  vals = record {
    ty = y_fun (y_mono two_words) (y_fun (y_mono m_bool) (always m_word));
    term = t_lam (t_lam (t_do (c_step (s_run (picking_call 50) (Some m_word)) (c_ret (t_var 0)))));
  } ∷ record {
    ty = always m_word;
    term = t_do (c_step (s_run (t_app (t_app (t_val 0) (t_pair (t_word 3) (t_word 4))) (t_bool true)) (Some m_word))
        (c_ret (t_var 0)));
  } ∷ [];
  main = Some 1;
}

-- s <- if [word] true { r <- (value 1); ret r } { r <- (value 2); ret r }; ret s
abbrev pub running : ℕ → CompTree
running number = c_step (s_run (t_val number) (Some m_word)) (c_ret (t_var 0))

abbrev pub either_runs : CompTree
either_runs = c_step (s_if m_word (t_bool true) (running 1) (running 2)) (c_ret (t_var 0))

pub record WorkedInstances : Type 0 where
  pub sum_has : HasInstances sum sum_instances (main_key 0 ∷ [])
  pub cell_has : HasInstances cell cell_instances (main_key 0 ∷ [])
  pub blocks_have : HasInstances blocks blocks_instances (main_key 0 ∷ [])
  pub seven_has : HasInstances seven seven_instances (main_key 1 ∷ main_key 0 ∷ [])
  pub dup_has : HasInstances dup dup_instances (main_key 1 ∷ (dup_at m_word).key ∷ (dup_at word_and_bool).key ∷ [])
  pub rep_has : HasInstances (rep passed_on) rep_instances (main_key 1 ∷ rep_key ∷ fix_key passed_on ∷ [])
  -- the function that is passed varies: the byte of `fix`, and the first parameter
  pub changed_varies : RefusesInstances (rep changed) (is_varying 100 1)
  pub unnamed : RefusesInstances (record { vals = []; main = None }) no_main
  pub function :
      RefusesInstances (record {
        vals = record { ty = y_fun (y_mono m_word) (always m_word); term = t_lam (t_do (c_ret (t_var 0))) } ∷ [];
        main = Some 0;
      }) has_parameters

pub record WorkedKeys : Type 0 where
  -- k is met first, in the precondition, and becomes the outer one of the two; the call is (fix f ..) 2
  pub captured_in_formulas :
      key_of_site sum
      (record { call = t_app (t_fix 7 (capturing (t_var 2) (t_var 5))) (t_word 2); context = m_loc ∷ m_word ∷ [] })
      ≡ record { head = t_fix 7 (capturing (t_var 3) (t_var 4)); fixed = []; captured = m_word ∷ m_loc ∷ [] }
  -- rep (fun x . x + b) a, where a and b are the variables 2 and 1: b alone is captured
  pub captured_by_a_function :
      key_of_site (rep passed_on)
      (record {
        call = t_app (t_app (t_val 0) (t_lam (t_bin Add (t_var 0) (t_var 2)))) (t_var 2);
        context = m_bool ∷ m_word ∷ m_loc ∷ [];
      })
      ≡ record { head = t_val 0; fixed = of_term (t_lam (t_bin Add (t_var 0) (t_var 1))) ∷ []; captured = m_word ∷ [] }
  -- b is met first, in the precondition, and becomes the outer one, though q stands further out
  pub two_captured : key_of_site pick (record { call = picking_call 50; context = m_bool ∷ two_words ∷ [] }) ≡ picking_key 50
  -- the parameters are b, q and n, with n the innermost
  pub captured_before_passed : params_of pick (picking_key 50) ≡ m_word ∷ two_words ∷ m_bool ∷ []
  -- under n the captured variables are 2 and 1
  pub made_with_captured :
      made_of 2 (sk_arrow sk_o sk_c) (picking_key 50) ≡ t_made 2 (more_terms (t_var 2) (more_terms (t_var 1) no_terms))
  -- the bytes of recursive functions don't count
  pub same_at_another_byte : IsSameKey (picking_key 50) (picking_key 70)
  pub first_branch_first : map (λ (site : Site). site.call) (sites_of [] either_runs) ≡ t_val 1 ∷ t_val 2 ∷ []
