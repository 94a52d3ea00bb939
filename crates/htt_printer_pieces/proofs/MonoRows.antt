-- What is printed of monotypes, a row for each form.
use Rattle.std.proofs.Common.{◌≡◌, ℕ, ◌++◌, ◌∷◌, List, refl, ap, sym}
use Rattle.std.specs.Prelude.{codes, true, false, if◌then◌else◌}
use Rattle.htt_syntax.specs.Trees.{MonoTree, m_word, m_bool, m_loc, m_unit, m_pair, m_var}
use Rattle.theory_printing.specs.Pieces.{bytes_of, in_parens}
use Rattle.theory_printing.specs.Names.{PrintScope, entry}
use Rattle.theory_printing.specs.Brackets.{an_operand, mono_form, needs_brackets}
use Rattle.theory_printing.specs.Phrases.{mono}
use Rattle.htt_printer_pieces.specs.Bytes.{mono_bytes, mono_operand_bytes}

pub mono_word : (s : PrintScope) → mono_bytes s m_word ≡ codes "word"
unfolding mono_bytes bytes_of mono
mono_word s = refl

pub mono_bool : (s : PrintScope) → mono_bytes s m_bool ≡ codes "bool"
unfolding mono_bytes bytes_of mono
mono_bool s = refl

pub mono_loc : (s : PrintScope) → mono_bytes s m_loc ≡ codes "loc"
unfolding mono_bytes bytes_of mono
mono_loc s = refl

pub mono_unit : (s : PrintScope) → mono_bytes s m_unit ≡ codes "unit"
unfolding mono_bytes bytes_of mono
mono_unit s = refl

star : (x y : List ℕ) → x ++ (codes " * " ++ y) ≡ x ++ (32 ∷ 42 ∷ 32 ∷ y)
star x y = refl

pub mono_pair : (s : PrintScope) (t u : MonoTree)
    → mono_bytes s (m_pair t u) ≡ mono_operand_bytes s t ++ (codes " * " ++ mono_operand_bytes s u)
unfolding mono_bytes mono_operand_bytes bytes_of mono
mono_pair s t u = sym (star (mono_operand_bytes s t) (mono_operand_bytes s u))

pub mono_var : (s : PrintScope) (index : ℕ) → mono_bytes s (m_var index) ≡ bytes_of (entry s index)
unfolding mono_bytes mono
mono_var s index = refl

pub mono_bracketed : (s : PrintScope) (t : MonoTree) → needs_brackets an_operand (mono_form t) ≡ true
    → mono_operand_bytes s t ≡ codes "(" ++ mono_bytes s t ++ codes ")"
unfolding mono_bytes mono_operand_bytes bytes_of
mono_bracketed s t is = ap (λ b. bytes_of (if b then in_parens (mono s t) else mono s t)) is

pub mono_bare : (s : PrintScope) (t : MonoTree) → needs_brackets an_operand (mono_form t) ≡ false
    → mono_operand_bytes s t ≡ mono_bytes s t
unfolding mono_bytes mono_operand_bytes bytes_of
mono_bare s t is = ap (λ b. bytes_of (if b then in_parens (mono s t) else mono s t)) is

pub ruleset mono_rows = (mono_word, mono_bool, mono_loc, mono_unit, mono_pair, mono_var)

pub ruleset mono_places = (mono_bracketed, mono_bare)
