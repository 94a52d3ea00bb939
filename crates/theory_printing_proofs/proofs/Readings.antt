-- What printed proofs, blocks and statements are read as.
use Rattle.std.proofs.Common.{◌≡◌, ℕ, List, Bool, true, false, refl, sym, subst}
use Rattle.std.specs.Prelude.{Option, Result, Ok}
use Rattle.htt_syntax.specs.Trees.{ProofTree, StmtTree, BlockTree, d_at, b_end}
use Rattle.htt_parser_trees.specs.Trees as raw
use Rattle.theory_grammar.specs.Grammar as grammar
use Rattle.theory_text_names.specs.Stops.{Stop}
use Rattle.theory_text_names.specs.Scopes.{Local, Scope}
use Rattle.theory_text.specs.Proofs as texts
use Rattle.theory_text.specs.Proofs.{proof_comes, block_comes, stmt_comes, end_comes}
use Rattle.theory_printing.specs.Pieces.{Printed}
use Rattle.theory_printing.specs.Names.{PrintScope}
use Rattle.theory_printing.specs.Proofs.{after_stmt}
use Rattle.theory_printing_tokens.specs.Spoken.{Spoken}
use Rattle.theory_printing_forms.specs.Readings.{MeetsPrinted, Reads}
use Rattle.theory_printing_forms.specs.Said.{said_proof, said_block, said_stmt}
use Rattle.theory_printing_names.specs.Scopes.{HasPrintedNames}
use Rattle.theory_printing_forms.proofs.Forms.{bind}
use Rattle.theory_printing_proofs.specs.Laws.{ReadsProof}

abbrev pub ReadsEnd : (r : Scope) (l : ℕ) (p : Printed) → Spoken r.text p → ProofTree → Type 0
ReadsEnd r l p v told = Reads (grammar.ending l) (end_comes r) said_proof r.text l p v told

abbrev pub ReadsBlock : (r : Scope) (l : ℕ) (p : Printed) → Spoken r.text p → BlockTree → Type 0
ReadsBlock r l p v told = Reads (grammar.proof l) (block_comes r) said_block r.text l p v told

abbrev pub NaturalProof : (r : Scope) (l : ℕ) (p : Printed) → Spoken r.text p → ProofTree → Bool → Type 0
NaturalProof r l p v told true = ReadsProof r l p v told
NaturalProof r l p v told false = ReadsEnd r l p v told

-- a printed proof that is read as what it is: a block, or not
pub record ProofRead (r : Scope) (l : ℕ) (p : Printed) (v : Spoken r.text p) (told : ProofTree) (block : Bool) : Type 0 where
  pub natural : NaturalProof r l p v told block

-- a statement, and the place of what follows it
pub record ReadsStmt (s : PrintScope) (counts : List ℕ) (r : Scope) (l : ℕ) (d : StmtTree) (p : Printed) (v : Spoken r.text p) : Type 0 where
  pub tree : raw.RawStmtTree
  pub meets : MeetsPrinted r.text l p v (grammar.stmt l tree)
  pub given : StmtTree
  pub comes : stmt_comes r tree ≡ Ok given
  pub same : said_stmt given ≡ said_stmt d
  pub locals : List Local
  pub current : Option ℕ
  pub is : texts.after_stmt r tree ≡ record { text = r.text; names = r.names; locals = locals; current = current }
  pub names : HasPrintedNames (after_stmt d s) counts (record { text = r.text; names = r.names; locals = locals; current = current })

pub same_stmt : {s : PrintScope} {counts : List ℕ} {r : Scope} {l at : ℕ} {d : StmtTree} {p : Printed} {v : Spoken r.text p}
    → ReadsStmt s counts r l d p v
    → ReadsStmt s counts r l (d_at at d) p v
unfolding said_proof after_stmt
same_stmt h =
    record {
      tree = h.tree;
      meets = h.meets;
      given = h.given;
      comes = h.comes;
      same = h.same;
      locals = h.locals;
      current = h.current;
      is = h.is;
      names = h.names;
    }

-- at a place that is the same
pub there : {q r : Scope} (tree : raw.RawProofTree) {b : Result BlockTree Stop} → r ≡ q → block_comes q tree ≡ b → block_comes r tree ≡ b
there tree {b = b} e h = subst (λ r. block_comes r tree ≡ b) (sym e) h

pub any_proof : {r : Scope} {l : ℕ} {p : Printed} {v : Spoken r.text p} {told : ProofTree} (b : Bool) → ProofRead r l p v told b → ReadsProof r l p v told
unfolding grammar.proof proof_comes
any_proof true h = h.natural
any_proof false h =
    let e = h.natural in
    record { tree = raw.p_end e.tree; meets = record { meets = e.meets.meets }; given = e.given; comes = e.comes; same = e.same }

pub as_end : {r : Scope} {l : ℕ} {p : Printed} {v : Spoken r.text p} {told : ProofTree} {b : Bool} → b ≡ false → ProofRead r l p v told b → ReadsEnd r l p v told
as_end {r} {l} {p} {v} {told} e h = (subst (λ b. ProofRead r l p v told b) e h).natural

pub end_of_block : (r : Scope) {l : ℕ} {p : Printed} {v : Spoken r.text p} {told : ProofTree} → ReadsEnd r l p v told → ReadsBlock r l p v (b_end told)
unfolding grammar.proof proof_comes said_proof
end_of_block r h =
    record { tree = raw.p_end h.tree; meets = record { meets = h.meets.meets }; given = b_end h.given; comes = bind _ h.comes refl; same = λ i. b_end (h.same i) }
