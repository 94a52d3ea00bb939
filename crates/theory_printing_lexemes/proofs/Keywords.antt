-- The keywords before what may follow them.
use Rattle.std.proofs.Common.{◌≡◌, ℕ, List, ◌∷◌, true, refl}
use Rattle.std.specs.Prelude.{IsUtf8, codes}
use Rattle.htt_lexer_tokens.specs.declared.tokens.Keyword.{Keyword}
use Rattle.htt_lexer_tokens.specs.declared.tokens.Keyword.TheVariants as words
use Rattle.htt_lexer_tokens.specs.declared.tokens.Kind.{Kind}
use Rattle.htt_lexer_tokens.specs.declared.tokens.Kind.TheVariants as kinds
use Rattle.htt_lexer.specs.Tables.{keyword_table}
use Rattle.htt_lexer.specs.Tokens.{IsToken, word_kind}
use Rattle.htt_lexer.proofs.Words.{is_letter}
use Rattle.theory_printing.specs.Spellings.{word_spelling}
use Rattle.theory_printing_lexemes.specs.Follows.{ends}
use Rattle.theory_printing_lexemes.proofs.Words.{are_plain, IsPlainWord, plain_token, plain_word_utf8}

of_letters : (b : ℕ) (bs : List ℕ) (kind : Kind)
    → is_letter b ≡ true
    → are_plain (b ∷ bs) ≡ true
    → word_kind (b ∷ bs) ≡ kind
    → IsPlainWord (b ∷ bs) kind
of_letters b bs kind letter plain is = record { first = b; others = bs; spelled = refl; letter = letter; plain = plain; is = is }

is_plain_word : (w : Keyword) → IsPlainWord (word_spelling w) (kinds.Keyword w)
unfolding keyword_table
is_plain_word words.TypeWord = of_letters 116 (codes "ype") (kinds.Keyword words.TypeWord) refl refl refl
is_plain_word words.PredWord = of_letters 112 (codes "red") (kinds.Keyword words.PredWord) refl refl refl
is_plain_word words.DefWord = of_letters 100 (codes "ef") (kinds.Keyword words.DefWord) refl refl refl
is_plain_word words.ValWord = of_letters 118 (codes "al") (kinds.Keyword words.ValWord) refl refl refl
is_plain_word words.ProofWord = of_letters 112 (codes "roof") (kinds.Keyword words.ProofWord) refl refl refl
is_plain_word words.AutoWord = of_letters 97 (codes "uto") (kinds.Keyword words.AutoWord) refl refl refl
is_plain_word words.WordWord = of_letters 119 (codes "ord") (kinds.Keyword words.WordWord) refl refl refl
is_plain_word words.BoolWord = of_letters 98 (codes "ool") (kinds.Keyword words.BoolWord) refl refl refl
is_plain_word words.LocWord = of_letters 108 (codes "oc") (kinds.Keyword words.LocWord) refl refl refl
is_plain_word words.UnitWord = of_letters 117 (codes "nit") (kinds.Keyword words.UnitWord) refl refl refl
is_plain_word words.HeapWord = of_letters 104 (codes "eap") (kinds.Keyword words.HeapWord) refl refl refl
is_plain_word words.FunWord = of_letters 102 (codes "un") (kinds.Keyword words.FunWord) refl refl refl
is_plain_word words.DoWord = of_letters 100 (codes "o") (kinds.Keyword words.DoWord) refl refl refl
is_plain_word words.FixWord = of_letters 102 (codes "ix") (kinds.Keyword words.FixWord) refl refl refl
is_plain_word words.RetWord = of_letters 114 (codes "et") (kinds.Keyword words.RetWord) refl refl refl
is_plain_word words.AllocWord = of_letters 97 (codes "lloc") (kinds.Keyword words.AllocWord) refl refl refl
is_plain_word words.GetWord = of_letters 103 (codes "et") (kinds.Keyword words.GetWord) refl refl refl
is_plain_word words.SetWord = of_letters 115 (codes "et") (kinds.Keyword words.SetWord) refl refl refl
is_plain_word words.FreeWord = of_letters 102 (codes "ree") (kinds.Keyword words.FreeWord) refl refl refl
is_plain_word words.IfWord = of_letters 105 (codes "f") (kinds.Keyword words.IfWord) refl refl refl
is_plain_word words.ClaimWord = of_letters 99 (codes "laim") (kinds.Keyword words.ClaimWord) refl refl refl
is_plain_word words.TrueWord = of_letters 116 (codes "rue") (kinds.Keyword words.TrueWord) refl refl refl
is_plain_word words.FalseWord = of_letters 102 (codes "alse") (kinds.Keyword words.FalseWord) refl refl refl
is_plain_word words.NullWord = of_letters 110 (codes "ull") (kinds.Keyword words.NullWord) refl refl refl
is_plain_word words.PlaceWord = of_letters 112 (codes "lace") (kinds.Keyword words.PlaceWord) refl refl refl
is_plain_word words.FstWord = of_letters 102 (codes "st") (kinds.Keyword words.FstWord) refl refl refl
is_plain_word words.SndWord = of_letters 115 (codes "nd") (kinds.Keyword words.SndWord) refl refl refl
is_plain_word words.NotWord = of_letters 110 (codes "ot") (kinds.Keyword words.NotWord) refl refl refl
is_plain_word words.EqWord = of_letters 101 (codes "q") (kinds.Keyword words.EqWord) refl refl refl
is_plain_word words.SelWord = of_letters 115 (codes "el") (kinds.Keyword words.SelWord) refl refl refl
is_plain_word words.EmpWord = of_letters 101 (codes "mp") (kinds.Keyword words.EmpWord) refl refl refl
is_plain_word words.TtWord = of_letters 116 (codes "t") (kinds.Keyword words.TtWord) refl refl refl
is_plain_word words.FfWord = of_letters 102 (codes "f") (kinds.Keyword words.FfWord) refl refl refl
is_plain_word words.AllWord = of_letters 97 (codes "ll") (kinds.Keyword words.AllWord) refl refl refl
is_plain_word words.ExWord = of_letters 101 (codes "x") (kinds.Keyword words.ExWord) refl refl refl
is_plain_word words.CapitalEmpWord = of_letters 69 (codes "mp") (kinds.Keyword words.CapitalEmpWord) refl refl refl
is_plain_word words.CellWord = of_letters 67 (codes "ell") (kinds.Keyword words.CellWord) refl refl refl
is_plain_word words.BlockWord = of_letters 66 (codes "lock") (kinds.Keyword words.BlockWord) refl refl refl
is_plain_word words.JoinWord = of_letters 74 (codes "oin") (kinds.Keyword words.JoinWord) refl refl refl
is_plain_word words.SameWord = of_letters 83 (codes "ame") (kinds.Keyword words.SameWord) refl refl refl
is_plain_word words.InitWord = of_letters 105 (codes "nit") (kinds.Keyword words.InitWord) refl refl refl
is_plain_word words.MemWord = of_letters 109 (codes "em") (kinds.Keyword words.MemWord) refl refl refl
is_plain_word words.IntroWord = of_letters 105 (codes "ntro") (kinds.Keyword words.IntroWord) refl refl refl
is_plain_word words.GenWord = of_letters 103 (codes "en") (kinds.Keyword words.GenWord) refl refl refl
is_plain_word words.HaveWord = of_letters 104 (codes "ave") (kinds.Keyword words.HaveWord) refl refl refl
is_plain_word words.OpenWord = of_letters 111 (codes "pen") (kinds.Keyword words.OpenWord) refl refl refl
is_plain_word words.BothWord = of_letters 98 (codes "oth") (kinds.Keyword words.BothWord) refl refl refl
is_plain_word words.LeftWord = of_letters 108 (codes "eft") (kinds.Keyword words.LeftWord) refl refl refl
is_plain_word words.RightWord = of_letters 114 (codes "ight") (kinds.Keyword words.RightWord) refl refl refl
is_plain_word words.GiveWord = of_letters 103 (codes "ive") (kinds.Keyword words.GiveWord) refl refl refl
is_plain_word words.TrivialWord = of_letters 116 (codes "rivial") (kinds.Keyword words.TrivialWord) refl refl refl
is_plain_word words.ReflWord = of_letters 114 (codes "efl") (kinds.Keyword words.ReflWord) refl refl refl
is_plain_word words.AbsurdWord = of_letters 97 (codes "bsurd") (kinds.Keyword words.AbsurdWord) refl refl refl
is_plain_word words.CaseWord = of_letters 99 (codes "ase") (kinds.Keyword words.CaseWord) refl refl refl
is_plain_word words.RewriteWord = of_letters 114 (codes "ewrite") (kinds.Keyword words.RewriteWord) refl refl refl
is_plain_word words.InductWord = of_letters 105 (codes "nduct") (kinds.Keyword words.InductWord) refl refl refl
is_plain_word words.SplitWord = of_letters 115 (codes "plit") (kinds.Keyword words.SplitWord) refl refl refl
is_plain_word words.FirstWord = of_letters 102 (codes "irst") (kinds.Keyword words.FirstWord) refl refl refl
is_plain_word words.SecondWord = of_letters 115 (codes "econd") (kinds.Keyword words.SecondWord) refl refl refl
is_plain_word words.AppWord = of_letters 97 (codes "pp") (kinds.Keyword words.AppWord) refl refl refl
is_plain_word words.InstWord = of_letters 105 (codes "nst") (kinds.Keyword words.InstWord) refl refl refl
is_plain_word words.AxiomWord = of_letters 97 (codes "xiom") (kinds.Keyword words.AxiomWord) refl refl refl
is_plain_word words.LemWord = of_letters 108 (codes "em") (kinds.Keyword words.LemWord) refl refl refl
is_plain_word words.TheWord = of_letters 116 (codes "he") (kinds.Keyword words.TheWord) refl refl refl

pub keyword_token : (w : Keyword) (rest : List ℕ) → ends rest ≡ true → IsToken (word_spelling w) rest (kinds.Keyword w)
keyword_token w rest e = plain_token (is_plain_word w) rest e

pub keyword_utf8 : (w : Keyword) → IsUtf8 (word_spelling w)
keyword_utf8 w = plain_word_utf8 (is_plain_word w)
