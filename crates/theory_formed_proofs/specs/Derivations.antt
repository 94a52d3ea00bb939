-- What it means that a derivation is formed all through: each formula that it infers, and each sequent
-- that it proves, is formed.
use Rattle.std.specs.Prelude.{List}
use Rattle.htt_syntax.specs.Trees.{FormulaTree, ProofTree, BlockTree}
use Rattle.theory_typing.specs.Contexts.{Context, Environment}
use Rattle.theory_logic_rules.specs.Rules.{Infers, Proves, ProvesBlock, infers_hyp, infers_first, infers_second}
use Rattle.theory_logic_rules.specs.Rules.{infers_app, infers_inst_term, infers_inst_heap, infers_axiom, infers_lem}
use Rattle.theory_logic_rules.specs.Rules.{infers_the, infers_at_zero, infers_at_next, infers_at, proves_both}
use Rattle.theory_logic_rules.specs.Rules.{proves_left, proves_right, proves_give_term, proves_give_heap}
use Rattle.theory_logic_rules.specs.Rules.{proves_trivial, proves_refl_term, proves_refl_heap, proves_absurd}
use Rattle.theory_logic_rules.specs.Rules.{proves_case, proves_rewrite_term, proves_rewrite_heap, proves_induct}
use Rattle.theory_logic_rules.specs.Rules.{proves_split, proves_inferred, proves_block, proves_at, block_end}
use Rattle.theory_logic_rules.specs.Rules.{block_intro, block_gen_term, block_gen_heap, block_have, block_open_term}
use Rattle.theory_logic_rules.specs.Rules.{block_open_heap, block_at}
use Rattle.theory_formed_proofs.specs.Sequents.{IsFormedIn, IsFormedSequent}

unfoldable mutual
  pub FormedInference : {env : Environment} {g : Context} {hs : List FormulaTree} {p : ProofTree} {F : FormulaTree}
      → Infers env g hs p F
      → Type 0
  FormedInference {env = env} {g = g} {F = F} (infers_hyp q) = IsFormedIn env g F
  FormedInference {env = env} {g = g} {F = F} (infers_first p) = IsFormedIn env g F × FormedInference p
  FormedInference {env = env} {g = g} {F = F} (infers_second p) = IsFormedIn env g F × FormedInference p
  FormedInference {env = env} {g = g} {F = F} (infers_app p q) =
      IsFormedIn env g F × FormedInference p × FormedProof q
  FormedInference {env = env} {g = g} {F = F} (infers_inst_term p m u) = IsFormedIn env g F × FormedInference p
  FormedInference {env = env} {g = g} {F = F} (infers_inst_heap p i) = IsFormedIn env g F × FormedInference p
  FormedInference {env = env} {g = g} {F = F} (infers_axiom a text m shaped side sorted fits row) = IsFormedIn env g F
  FormedInference {env = env} {g = g} {F = F} (infers_lem c) = IsFormedIn env g F
  FormedInference {env = env} {g = g} {F = F} (infers_the c p) = IsFormedIn env g F × FormedProof p
  FormedInference {env = env} {g = g} {F = F} (infers_at_zero q sorted fits put) = IsFormedIn env g F
  FormedInference {env = env} {g = g} {F = F} (infers_at_next q sorted fits put) = IsFormedIn env g F
  FormedInference (infers_at p) = FormedInference p

  pub FormedProof : {env : Environment} {g : Context} {hs : List FormulaTree} {p : ProofTree} {G : FormulaTree}
      → Proves env g hs p G
      → Type 0
  FormedProof {env = env} {g = g} {hs = hs} {G = G} (proves_both p q) =
      IsFormedSequent env g hs G × FormedProof p × FormedProof q
  FormedProof {env = env} {g = g} {hs = hs} {G = G} (proves_left p) = IsFormedSequent env g hs G × FormedProof p
  FormedProof {env = env} {g = g} {hs = hs} {G = G} (proves_right p) = IsFormedSequent env g hs G × FormedProof p
  FormedProof {env = env} {g = g} {hs = hs} {G = G} (proves_give_term m u p) =
      IsFormedSequent env g hs G × FormedProof p
  FormedProof {env = env} {g = g} {hs = hs} {G = G} (proves_give_heap i p) =
      IsFormedSequent env g hs G × FormedProof p
  FormedProof {env = env} {g = g} {hs = hs} {G = G} proves_trivial = IsFormedSequent env g hs G
  FormedProof {env = env} {g = g} {hs = hs} {G = G} (proves_refl_term q) = IsFormedSequent env g hs G
  FormedProof {env = env} {g = g} {hs = hs} {G = G} proves_refl_heap = IsFormedSequent env g hs G
  FormedProof {env = env} {g = g} {hs = hs} {G = G} (proves_absurd p) = IsFormedSequent env g hs G × FormedProof p
  FormedProof {env = env} {g = g} {hs = hs} {G = G} (proves_case p q r) =
      IsFormedSequent env g hs G × FormedInference p × FormedProof q × FormedProof r
  FormedProof {env = env} {g = g} {hs = hs} {G = G} (proves_rewrite_term p c u same v q) =
      IsFormedSequent env g hs G × FormedInference p × FormedProof q
  FormedProof {env = env} {g = g} {hs = hs} {G = G} (proves_rewrite_heap p c same q) =
      IsFormedSequent env g hs G × FormedInference p × FormedProof q
  FormedProof {env = env} {g = g} {hs = hs} {G = G} (proves_induct c m u same z p n q) =
      IsFormedSequent env g hs G × FormedProof p × FormedProof q
  FormedProof {env = env} {g = g} {hs = hs} {G = G} (proves_split c m u same t p f q) =
      IsFormedSequent env g hs G × FormedProof p × FormedProof q
  FormedProof {env = env} {g = g} {hs = hs} {G = G} (proves_inferred p same) =
      IsFormedSequent env g hs G × FormedInference p
  FormedProof (proves_block p) = FormedBlock p
  FormedProof (proves_at p) = FormedProof p

  pub FormedBlock : {env : Environment} {g : Context} {hs : List FormulaTree} {block : BlockTree} {G : FormulaTree}
      → ProvesBlock env g hs block G
      → Type 0
  FormedBlock (block_end p) = FormedProof p
  FormedBlock {env = env} {g = g} {hs = hs} {G = G} (block_intro p) = IsFormedSequent env g hs G × FormedBlock p
  FormedBlock {env = env} {g = g} {hs = hs} {G = G} (block_gen_term p) = IsFormedSequent env g hs G × FormedBlock p
  FormedBlock {env = env} {g = g} {hs = hs} {G = G} (block_gen_heap p) = IsFormedSequent env g hs G × FormedBlock p
  FormedBlock {env = env} {g = g} {hs = hs} {G = G} (block_have c p q) =
      IsFormedSequent env g hs G × FormedProof p × FormedBlock q
  FormedBlock {env = env} {g = g} {hs = hs} {G = G} (block_open_term p q) =
      IsFormedSequent env g hs G × FormedInference p × FormedBlock q
  FormedBlock {env = env} {g = g} {hs = hs} {G = G} (block_open_heap p q) =
      IsFormedSequent env g hs G × FormedInference p × FormedBlock q
  FormedBlock (block_at p) = FormedBlock p
