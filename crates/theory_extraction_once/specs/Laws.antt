-- A program has at most one list of instances, with one list of flat bodies, or one reason why it has none; and so
-- has a file at most one code, or one reason, of each version.
use Rattle.std.specs.Prelude.{◌≡◌, ℕ, List, Option}
use Rattle.word_loader_code.specs.declared.code.Code.{Code}
use Rattle.theory_items.specs.Items.{ItemTree}
use Rattle.theory_instances.specs.Calls.{Program}
use Rattle.theory_instances.specs.Keys.{Key}
use Rattle.theory_instances.specs.Lists.{Taken, HasInstances, Refusal, RefusesInstances}
use Rattle.theory_flat.specs.Flat.{Instance, HasFlatInstances}
use Rattle.theory_extraction.specs.Extraction.{HasCodeBy, ExtractionRefusal, RefusesCodeBy}

pub record InstancesAreOne : Type 0 where
  pub lists : (p : Program) (instances others : List Taken) (keys more : List Key)
      → HasInstances p instances keys
      → HasInstances p others more
      → (instances ≡ others) × (keys ≡ more)
  pub flat_bodies : (p : Program) (instances others : List Instance)
      → HasFlatInstances p instances
      → HasFlatInstances p others
      → instances ≡ others
  pub refusals : (p : Program) (refusal other : Refusal)
      → RefusesInstances p refusal
      → RefusesInstances p other
      → refusal ≡ other
  pub either : (p : Program) (instances : List Taken) (keys : List Key) (refusal : Refusal)
      → HasInstances p instances keys
      → RefusesInstances p refusal
      → ⊥

-- Of the code that instances are written as.
pub record CodeIsOne (written : List Instance → Code) : Type 0 where
  pub codes : (items : List ItemTree) (main : Option ℕ) (code other : Code)
      → HasCodeBy written items main code
      → HasCodeBy written items main other
      → code ≡ other
  pub refusals : (items : List ItemTree) (main : Option ℕ) (refusal other : ExtractionRefusal)
      → RefusesCodeBy written items main refusal
      → RefusesCodeBy written items main other
      → refusal ≡ other
  pub either : (items : List ItemTree) (main : Option ℕ) (code : Code) (refusal : ExtractionRefusal)
      → HasCodeBy written items main code
      → RefusesCodeBy written items main refusal
      → ⊥
