-- When a term may be put for a variable, and the valuation of the whole context gives for it what the
-- term denotes.
use Rattle.std.specs.Prelude.{ℕ, List}
use Rattle.htt_syntax.specs.Trees.{TermTree}
use Rattle.theory_canonical.specs.Skeletons.{Skeleton}
use Rattle.theory_canonical.specs.Contexts.{Standing, Heads}
use Rattle.theory_substitution_total.specs.Laws.{MayBePut}
use Rattle.theory_denotation.specs.Valuations.{den_term, Valuation, HeadEntries}
use Rattle.theory_denotation.specs.Denotation.{term_den}
use Rattle.theory_denotation.specs.Valued.{ContextValued, HeadsValued}
use Rattle.theory_denotation_renaming.specs.Insertion.{InsertedEntry}

pub record MayPutIn (heads :
    Heads) (e : HeadEntries) (new : TermTree) (s : Skeleton) (x : ℕ) (g whole : List Standing) (w w' : Valuation) :
    Type 0 where
  pub may : MayBePut heads new s x g whole
  pub valuation : InsertedEntry x (den_term s (term_den e w new s)) w w'
  pub valued : ContextValued g w
  pub heads_valued : HeadsValued heads e
