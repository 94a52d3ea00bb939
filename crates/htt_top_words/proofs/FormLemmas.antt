-- Which forms words have.
use Rattle.std.proofs.Common.{◌≡◌, ℕ, ◌++◌, List, codes, Option, Some, None, refl, ap, option_map, arith}
use Rattle.std.specs.Fmt.{decimal}
use Rattle.std.proofs.lemmas.Fmt.{decimal_injective}
use Rattle.htt_top_words.specs.Forms.{WordsForm, go, run, HasForm, IsStepCount, AsksSteps, option_words, words_of}

abbrev options_of : Option (List ℕ) → Option ℕ → List (List ℕ)
options_of heap steps = option_words (codes "--heap") heap ++ option_words (codes "--steps") (option_map decimal steps)

one_count : (m n : ℕ) → IsStepCount m → IsStepCount n → decimal m ≡ decimal n → m ≡ n
one_count m n p q e = decimal_injective m n (omega (arith, p.most)) (omega (arith, q.most)) e

one_heap : (h k : Option (List ℕ)) (s t : Option ℕ) → options_of h s ≡ options_of k t → h ≡ k
one_heap None None s t e = refl
one_heap None (Some k) None t e = cc
one_heap None (Some k) (Some n) t e = cc
one_heap (Some h) None s None e = cc
one_heap (Some h) None s (Some n) e = cc
one_heap (Some h) (Some k) s t e = cc

one_steps : (h k : Option (List ℕ)) (s t : Option ℕ) → AsksSteps s → AsksSteps t → options_of h s ≡ options_of k t → s ≡ t
one_steps None None None None p q e = refl
one_steps None None None (Some n) p q e = cc
one_steps None None (Some m) None p q e = cc
one_steps None None (Some m) (Some n) p q e = ap Some (one_count m n p q cc)
one_steps None (Some k) None t p q e = cc
one_steps None (Some k) (Some n) t p q e = cc
one_steps (Some h) None s None p q e = cc
one_steps (Some h) None s (Some n) p q e = cc
one_steps (Some h) (Some k) None None p q e = refl
one_steps (Some h) (Some k) None (Some n) p q e = cc
one_steps (Some h) (Some k) (Some m) None p q e = cc
one_steps (Some h) (Some k) (Some m) (Some n) p q e = ap Some (one_count m n p q cc)

one_words : (a b : WordsForm) → words_of a ≡ words_of b → HasForm (words_of a) a → HasForm (words_of b) b → a ≡ b
one_words (go f) (go g) e p q = cc
one_words (go f) (run c h s) e p q = cc
one_words (run c h s) (go f) e p q = cc
one_words (run c h s) (run d k t) e p q =
    let options : options_of h s ≡ options_of k t = cc in
    let x = one_heap h k s t options in
    let y = one_steps h k s t p.within q.within options in
    cc

pub one_form_lem : (words : List (List ℕ)) (a b : WordsForm) → HasForm words a → HasForm words b → a ≡ b
one_form_lem words a b p q =
    let e : words_of a ≡ words_of b = cc in
    one_words a b e (record { said = refl; within = p.within }) (record { said = refl; within = q.within })
