-- Derived files whose proofs speak of what stands behind them.
use Rattle.std.specs.Prelude.{ℕ, List, [], ◌∷◌, All, Some}
use Rattle.htt_syntax.specs.declared.mono.Op.TheVariants.{Add}
use Rattle.htt_syntax.specs.Trees.{TyTree, ProofTree, m_word, y_mono, y_fun, y_hoare, triple, t_var, t_val, t_def}
use Rattle.htt_syntax.specs.Trees.{t_app, t_lam, t_do, t_word, t_bin, c_ret, f_tt, f_ff, f_ex_t, f_eq, a_term, p_hyp}
use Rattle.htt_syntax.specs.Trees.{p_refl, p_trivial, p_first, p_second, p_give, p_block, d_intro, d_have, b_then}
use Rattle.htt_syntax.specs.Trees.{b_end}
use Rattle.theory_values.specs.Values.{IsWord}
use Rattle.theory_values.specs.Heaps.{Heap}
use Rattle.theory_triples.specs.Triples.{MeetsTriple, run_of_val}
use Rattle.theory_typing.specs.Contexts.{Environment}
use Rattle.theory_items.specs.Items.{ItemTree, i_def, i_val}
use Rattle.theory_items.specs.Examples.{gives_five}
use Rattle.theory_file_derived.specs.Derived.{by_proof, ProofItem, IsDerived, texts_of}

-- val main : {tt} x : word {x =[word] 5} = do ret 2 + 3
-- def five : word = 5
abbrev pub with_five : List ItemTree
with_five = i_val gives_five (t_do (c_ret (t_bin Add (t_word 2) (t_word 3)))) ∷ i_def (y_mono m_word) (t_word 5) ∷ []

-- proof main.1 = intro u; have v : [five =[word] 5] = refl; second(u)
abbrev pub five_used : List ProofItem
five_used =
    record {
      item = Some 0;
      number = 1;
      given =
          by_proof (p_block
          (b_then d_intro (b_then (d_have (f_eq m_word (t_def 0) (t_word 5)) p_refl) (b_end (p_second (p_hyp 0))))));
    } ∷ []

abbrev pub five_env : Environment
five_env = record { vals = gives_five ∷ []; defs = (y_mono m_word, t_word 5) ∷ []; recs = [] }

-- {ff} x : word {ff}, {tt} z : word {tt}, and a function of such a computation
abbrev pub never : TyTree
never = y_hoare (triple f_ff m_word f_ff)

abbrev pub always : TyTree
always = y_hoare (triple f_tt m_word f_tt)

abbrev pub taker : TyTree
taker = y_fun (y_fun never (y_mono m_word)) always

-- val f : (k : (c : {ff} x : word {ff}) -> word) -> {tt} z : word {tt} = fun k . do ret 0
-- val g : {ff} x : word {ff} = do ret 0
abbrev pub circle : List ItemTree
circle = i_val taker (t_lam (t_do (c_ret (t_word 0)))) ∷ i_val never (t_do (c_ret (t_word 0))) ∷ []

-- intro u; have e : [ex y : word . y =[word] k g] = give(k g, refl); trivial, where k is f's argument: that
-- `k g` has a value of `word` doesn't need that g is what its type says
abbrev pub with_later : ProofTree
with_later =
    p_block (b_then d_intro (b_then
    (d_have (f_ex_t m_word (f_eq m_word (t_var 0) (t_app (t_var 4) (t_val 1))))
    (p_give (a_term (t_app (t_var 3) (t_val 1))) p_refl)) (b_end p_trivial)))

-- proof f.1, and proof g.1 = intro u; first(first(u))
abbrev pub circle_proofs : List ProofItem
circle_proofs =
    record { item = Some 0; number = 1; given = by_proof with_later } ∷ record {
      item = Some 1;
      number = 1;
      given = by_proof (p_block (b_then d_intro (b_end (p_first (p_first (p_hyp 0))))));
    } ∷ []

abbrev pub circle_env : Environment
circle_env = record { vals = taker ∷ never ∷ []; defs = []; recs = [] }

pub record WorkedFiles : Type 0 where
  -- the proof uses the definition, which stands behind the value
  pub definition_behind : IsDerived with_five five_used five_env
  pub five_is_met : (fuel : ℕ) (cs : List ℕ)
      → All IsWord cs
      → (h k : Heap)
      → MeetsTriple [] (triple f_tt m_word (f_eq m_word (t_var 2) (t_word 5)))
      (run_of_val (texts_of with_five) 0 fuel cs) h k
  -- the proof of f.1 uses g, which stands behind f, as the argument of f's variable
  pub later_value : IsDerived circle circle_proofs circle_env
