-- The two tables of the language: its keywords and its signs, each with its spelling.
use Rattle.std.specs.Prelude.{ℕ, List, [], ◌∷◌, Option, Some, None, if◌then◌else◌, codes}
use Rattle.std.specs.Str.{bytes_eq}
use Rattle.htt_lexer_tokens.specs.declared.tokens.Keyword.{Keyword}
use Rattle.htt_lexer_tokens.specs.declared.tokens.Keyword.TheVariants as words
use Rattle.htt_lexer_tokens.specs.declared.tokens.Sign.{Sign}
use Rattle.htt_lexer_tokens.specs.declared.tokens.Sign.TheVariants as signs

-- what the table has for this spelling, if anything
abbrev pub lookup : {A : Type 0} → List (List ℕ × A) → List ℕ → Option A
lookup [] spelling = None
lookup (row ∷ rows) spelling = if bytes_eq spelling row.0 then Some row.1 else lookup rows spelling

-- the keywords
unfoldable pub keyword_table : List (List ℕ × Keyword)
keyword_table =
    (codes "type", words.TypeWord) ∷
    (codes "pred", words.PredWord) ∷
    (codes "def", words.DefWord) ∷
    (codes "val", words.ValWord) ∷
    (codes "proof", words.ProofWord) ∷
    (codes "auto", words.AutoWord) ∷
    (codes "word", words.WordWord) ∷
    (codes "bool", words.BoolWord) ∷
    (codes "loc", words.LocWord) ∷
    (codes "unit", words.UnitWord) ∷
    (codes "heap", words.HeapWord) ∷
    (codes "fun", words.FunWord) ∷
    (codes "do", words.DoWord) ∷
    (codes "fix", words.FixWord) ∷
    (codes "ret", words.RetWord) ∷
    (codes "alloc", words.AllocWord) ∷
    (codes "get", words.GetWord) ∷
    (codes "set", words.SetWord) ∷
    (codes "free", words.FreeWord) ∷
    (codes "if", words.IfWord) ∷
    (codes "claim", words.ClaimWord) ∷
    (codes "true", words.TrueWord) ∷
    (codes "false", words.FalseWord) ∷
    (codes "null", words.NullWord) ∷
    (codes "place", words.PlaceWord) ∷
    (codes "fst", words.FstWord) ∷
    (codes "snd", words.SndWord) ∷
    (codes "not", words.NotWord) ∷
    (codes "eq", words.EqWord) ∷
    (codes "sel", words.SelWord) ∷
    (codes "emp", words.EmpWord) ∷
    (codes "tt", words.TtWord) ∷
    (codes "ff", words.FfWord) ∷
    (codes "all", words.AllWord) ∷
    (codes "ex", words.ExWord) ∷
    (codes "Emp", words.CapitalEmpWord) ∷
    (codes "Cell", words.CellWord) ∷
    (codes "Block", words.BlockWord) ∷
    (codes "Join", words.JoinWord) ∷
    (codes "Same", words.SameWord) ∷
    (codes "init", words.InitWord) ∷
    (codes "mem", words.MemWord) ∷
    (codes "intro", words.IntroWord) ∷
    (codes "gen", words.GenWord) ∷
    (codes "have", words.HaveWord) ∷
    (codes "open", words.OpenWord) ∷
    (codes "both", words.BothWord) ∷
    (codes "left", words.LeftWord) ∷
    (codes "right", words.RightWord) ∷
    (codes "give", words.GiveWord) ∷
    (codes "trivial", words.TrivialWord) ∷
    (codes "refl", words.ReflWord) ∷
    (codes "absurd", words.AbsurdWord) ∷
    (codes "case", words.CaseWord) ∷
    (codes "rewrite", words.RewriteWord) ∷
    (codes "induct", words.InductWord) ∷
    (codes "split", words.SplitWord) ∷
    (codes "first", words.FirstWord) ∷
    (codes "second", words.SecondWord) ∷
    (codes "app", words.AppWord) ∷
    (codes "inst", words.InstWord) ∷
    (codes "axiom", words.AxiomWord) ∷
    (codes "lem", words.LemWord) ∷
    (codes "the", words.TheWord) ∷
    []

-- the signs but `_`, which is told among the words, since it is a sign only where no word goes on
unfoldable pub sign_table : List (List ℕ × Sign)
sign_table =
    (codes "(", signs.OpenParenSign) ∷
    (codes ")", signs.CloseParenSign) ∷
    (codes "[", signs.OpenBracketSign) ∷
    (codes "]", signs.CloseBracketSign) ∷
    (codes "{", signs.OpenBraceSign) ∷
    (codes "}", signs.CloseBraceSign) ∷
    (codes ",", signs.CommaSign) ∷
    (codes ";", signs.SemicolonSign) ∷
    (codes ":", signs.ColonSign) ∷
    (codes ".", signs.DotSign) ∷
    (codes "=", signs.EqualSign) ∷
    (codes "=>", signs.ImpliesSign) ∷
    (codes "->", signs.ArrowSign) ∷
    (codes "<-", signs.LeftArrowSign) ∷
    (codes "|->", signs.PointsToSign) ∷
    (codes "+", signs.PlusSign) ∷
    (codes "-", signs.MinusSign) ∷
    (codes "*", signs.StarSign) ∷
    (codes "&", signs.AmpersandSign) ∷
    (codes "|", signs.BarSign) ∷
    (codes "^", signs.CaretSign) ∷
    (codes "<<", signs.ShiftLeftSign) ∷
    (codes ">>", signs.ShiftRightSign) ∷
    (codes "<", signs.LessSign) ∷
    (codes "**", signs.DoubleStarSign) ∷
    (codes "/\\", signs.AndSign) ∷
    (codes "\\/", signs.OrSign) ∷
    (codes "@", signs.AtSign) ∷
    (codes "!", signs.BangSign) ∷
    []
