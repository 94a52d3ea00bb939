-- What the body of an instance denotes: what its head does, given the arguments.
use Rattle.std.specs.Prelude.{◌≡◌, ℕ, List, map, Some, slice_get}
use Rattle.htt_syntax.specs.Trees.{TermTree, FixTree, CompTree, t_val, t_fix}
use Rattle.theory_renaming.specs.Renaming.{rename_fix}
use Rattle.theory_canonical.specs.Skeletons.{Skeleton, sk_c, skeleton}
use Rattle.theory_canonical.specs.Contexts.{Standing, Heads, KeepsStandings}
use Rattle.theory_canonical.specs.Canonical.{IsCanonical, IsNeutral, IsCanonicalFix}
use Rattle.theory_denotation.specs.Valuations.{den_term, Valuation, HeadEntries}
use Rattle.theory_denotation.specs.Recursion.{recursion}
use Rattle.theory_denotation.specs.Denotation.{term_den, head_den, fix_den, comp_den}
use Rattle.theory_denotation.specs.Valued.{ContextValued, HeadsValued}
use Rattle.theory_denotation_renaming.specs.Along.{AgreeAlong}
use Rattle.theory_instances.specs.Calls.{ProgramVal, Program}
use Rattle.theory_instances.specs.Keys.{Key}
use Rattle.theory_instances.specs.Bodies.{HasBody, arguments_within, past_passed, made_of}
use Rattle.theory_instances.specs.Varying.{NeverVaries}
use Rattle.theory_instances_passing.specs.Pinned.{AtEach, pinned, given, applied_to, Splits}
use Rattle.theory_instances_denoted.specs.Arguments.{CanonicalArguments}

-- The head of an instance is a value: its body denotes the value's term at the arguments.
abbrev pub ValBodiesDenote : Type 0
ValBodiesDenote =
    (heads : Heads) (e : HeadEntries) (g : List Standing) (w : Valuation)
    → HeadsValued heads e
    → ContextValued g w
    → (p : Program) (number n : ℕ) (key : Key) (val : ProgramVal) (results : List TermTree) (comp : CompTree)
    → key.head ≡ t_val n
    → slice_get p.vals n ≡ Some val
    → IsCanonical heads g val.term (skeleton val.ty)
    → CanonicalArguments heads g (skeleton val.ty) (arguments_within (skeleton val.ty) key) sk_c
    → HasBody p number key results comp
    → den_term sk_c (comp_den e w comp)
    ≡ applied_to (den_term (skeleton val.ty) (term_den e w val.term (skeleton val.ty)))
    (map (given e w) (arguments_within (skeleton val.ty) key))

-- The instance's own made function denotes its recursive function, whose fixed parameters are pinned to the
-- key's arguments, whatever a call gives for them. The recursive function is valued with the captured
-- variables, which w0 has; w has the passed ones before them.
pub record MadeIsPinned (e :
    HeadEntries) (number : ℕ) (key : Key) (fix : FixTree) (s : Skeleton) (set : List AtEach) (w0 w : Valuation) :
    Type 0 where
  pub splits : Splits s (map (given e w) (arguments_within s key)) set
  pub is_pinned : head_den e w (made_of number s key)
      ≡ den_term s (pinned s set (recursion s (λ own. fix_den e w0 (den_term s own) fix s)))

-- The head is a recursive function that never varies: the body denotes its computation at the arguments, where
-- the recursion variable is the recursive function itself, though in the body the made function stands for it.
abbrev pub FixBodiesDenote : Type 0
FixBodiesDenote =
    (heads : Heads) (e : HeadEntries) (g0 g : List Standing) (w0 w : Valuation)
    → HeadsValued heads e
    → ContextValued g0 w0
    → ContextValued g w
    → (p : Program) (number at : ℕ) (key : Key) (fix : FixTree) (s : Skeleton) (set : List AtEach)
    (results : List TermTree) (comp : CompTree)
    → key.head ≡ t_fix at fix
    → KeepsStandings (past_passed s) g0 g
    → AgreeAlong (past_passed s) w0 w
    → IsCanonicalFix heads g0 s fix s
    → NeverVaries (t_fix at fix)
    → IsNeutral heads g (made_of number s key) s
    → CanonicalArguments heads g s (arguments_within s key) sk_c
    → MadeIsPinned e number key fix s set w0 w
    → HasBody p number key results comp
    → den_term sk_c (comp_den e w comp)
    ≡ applied_to
    (den_term s (fix_den e w0 (den_term s (recursion s (λ own. fix_den e w0 (den_term s own) fix s))) fix s))
    (map (given e w) (arguments_within s key))
