-- Tokens are one, the grammar derives one tree, and a tree comes to one thing.
use Rattle.std.specs.Prelude.{◌≡◌, ℕ, List, [], Result, Ok, Err}
use Rattle.std.proofs.Common.{refl, sym, ap, subst, ◌∙◌}
use Rattle.htt_lexer_tokens.specs.declared.tokens.Token.{Token}
use Rattle.htt_lexer.proofs.TokenLaws as lexer
use Rattle.theory_grammar.proofs.One.{one_type, one_formula, one_proof, one_file}
use Rattle.theory_text_names.specs.Stops.{Stop, ◌>>=◌}
use Rattle.theory_text_items.specs.Items.{Resolved}
use Rattle.theory_text.specs.Phrases.{ty_comes, formula_comes}
use Rattle.theory_text.specs.Proofs.{proof_comes}
use Rattle.theory_text_items.specs.Declarations.{declarations_come}
use Rattle.theory_text_items.specs.Limits.{items_within}
use Rattle.theory_text_items.specs.Resolving.{file_comes}
use Rattle.theory_text_bytes.specs.Texts.{Derives, IsText, IsStopped, IsWithin}
use Rattle.theory_text_bytes.specs.Laws.{TextsAreOne, StopsAreOne}

pub one_tree : {T : Type 0} {IsTree : List Token → T → Type 0}
    → ((tokens : List Token) (tree other : T) → IsTree tokens tree → IsTree tokens other → tree ≡ other)
    → (text : List ℕ) (tree other : T)
    → Derives IsTree text tree
    → Derives IsTree text other
    → tree ≡ other
one_tree {IsTree = IsTree} one text tree other h k =
    one k.tokens tree other
    (subst (λ tokens. IsTree tokens tree) (lexer.laws.one_list text h.tokens k.tokens h.are_tokens k.are_tokens) h.is_tree) k.is_tree

one_ok : {A : Type 0} {r : Result A Stop} {a b : A} → r ≡ Ok a → r ≡ Ok b → a ≡ b
one_ok e f = cc (sym e ∙ f)

one_err : {A : Type 0} {r : Result A Stop} {a b : Stop} → r ≡ Err a → r ≡ Err b → a ≡ b
one_err e f = cc (sym e ∙ f)

err_ok : {A : Type 0} {r : Result A Stop} {stop : Stop} {a : A} → r ≡ Err stop → r ≡ Ok a → ⊥
err_ok e f = cc (sym e ∙ f)

-- what the limits leave is what the declarations come to
found : Resolved → Result Resolved Stop
found file = Ok file

kept : (file f : Resolved) (within : Result (Unit {0}) Stop) → (within >>= (λ fits. found f)) ≡ found file → f ≡ file
unfolding ◌>>=◌ found
kept file f (Ok u) e = cc e
kept file f (Err stop) e = absurd (err_ok refl e)

before : (file : Resolved) (r : Result Resolved Stop) → (r >>= (λ f. items_within f.items >>= (λ fits. Ok f))) ≡ Ok file → r ≡ Ok file
unfolding ◌>>=◌ found
before file (Ok f) e = ap found (kept file f (items_within f.items) e)
before file (Err stop) e = absurd (err_ok refl e)

pub texts : TextsAreOne
texts = record {
  files = λ text file other h k.
      one_ok (subst (λ ds. declarations_come ds text [] ds ≡ Ok file) (one_tree one_file text h.decls k.decls h.derives k.derives) h.comes)
      k.comes;
  types = λ s A B h k. one_ok (subst (λ t. ty_comes s t ≡ Ok A) (one_tree one_type s.text h.tree k.tree h.derives k.derives) h.comes) k.comes;
  formulas = λ s F G h k. one_ok (subst (λ t. formula_comes s t ≡ Ok F) (one_tree one_formula s.text h.tree k.tree h.derives k.derives) h.comes) k.comes;
  proofs = λ s p q h k. one_ok (subst (λ t. proof_comes s t ≡ Ok p) (one_tree one_proof s.text h.tree k.tree h.derives k.derives) h.comes) k.comes;
}

pub stops : StopsAreOne
stops = record {
  one = λ text stop other h k.
      one_err (subst (λ ds. file_comes text ds ≡ Err stop) (one_tree one_file text h.decls k.decls h.derives k.derives) h.comes) k.comes;
  no_items = λ text stop file h k.
      err_ok (subst (λ ds. file_comes text ds ≡ Err stop) (one_tree one_file text h.decls k.decls h.derives k.derives) h.comes) k.comes;
  stands = λ text file h. record { decls = h.decls; derives = h.derives; comes = before file (declarations_come h.decls text [] h.decls) h.comes };
}
