-- Where reading stops, in worked examples.
use Rattle.std.proofs.Common.{refl}
use Rattle.theory_grammar.specs.Readers.{give, ◌>>=◌, stop, refuse, either, if_first, measured, token}
use Rattle.theory_grammar.specs.Phrases.{a_binder, mono_right, mono_closes, mono_inside, mono_opens, mono_reader, atom_reader, parts_on, appl_reader}
use Rattle.theory_grammar.specs.Phrases.{prod_reader, prod_on, sum_reader, sum_on, rel_reader, term_reader, fatom_reader, star_reader, conj_reader, disj_reader}
use Rattle.theory_grammar.specs.Phrases.{formula_reader, ty_reader}
use Rattle.theory_grammar.specs.Reading.{deeper, file_on}
use Rattle.theory_refusals.specs.Examples.{WorkedRefusals, TwoStars, NotClosed, OneLeft, NoConjunct, BlankInBrackets, ThirdLevel, NoThirdLevel, ThirdOperand}
use Rattle.theory_refusals.specs.Examples.{NoMoreDeclarations, NoDeclaration}

two_stars : TwoStars
unfolding deeper give ◌>>=◌ stop refuse either if_first measured token mono_right mono_closes mono_inside mono_opens mono_reader
two_stars = refl

not_closed : NotClosed
unfolding deeper give ◌>>=◌ stop refuse either if_first measured token mono_right mono_closes mono_inside mono_opens mono_reader
not_closed = refl

one_left : OneLeft
unfolding deeper give ◌>>=◌ stop refuse either if_first measured token mono_right mono_closes mono_inside mono_opens mono_reader
one_left = refl

no_conjunct : NoConjunct
unfolding deeper give ◌>>=◌ stop refuse either if_first measured token a_binder fatom_reader star_reader conj_reader disj_reader
    formula_reader rel_reader sum_reader prod_reader appl_reader atom_reader
no_conjunct = refl

blank_in_brackets : BlankInBrackets
unfolding ty_reader give ◌>>=◌ stop either token a_binder
blank_in_brackets d = refl

third_level : ThirdLevel
unfolding deeper give ◌>>=◌ stop refuse either if_first measured token mono_right mono_closes mono_inside mono_opens mono_reader
third_level further = refl

no_third_level : NoThirdLevel
unfolding deeper give ◌>>=◌ stop refuse either if_first measured token mono_right mono_closes mono_inside mono_opens mono_reader
no_third_level further = refl

third_operand : ThirdOperand
unfolding deeper give ◌>>=◌ stop refuse either if_first measured token term_reader rel_reader sum_reader sum_on prod_reader prod_on
    appl_reader parts_on atom_reader
third_operand = refl

no_more_declarations : NoMoreDeclarations
unfolding file_on if_first refuse
no_more_declarations d = refl

no_declaration : NoDeclaration
unfolding file_on if_first refuse
no_declaration d = refl

pub worked_refusals : WorkedRefusals
worked_refusals = record {
  two_stars = two_stars;
  not_closed = not_closed;
  one_left = one_left;
  no_conjunct = no_conjunct;
  blank_in_brackets = blank_in_brackets;
  third_level = third_level;
  no_third_level = no_third_level;
  third_operand = third_operand;
  no_more_declarations = no_more_declarations;
  no_declaration = no_declaration;
}
