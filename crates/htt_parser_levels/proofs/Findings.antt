-- What was found, where it is known what was wanted.
use Rattle.std.proofs.Common.{◌≡◌, List, refl, sym, ◌∙◌, ap}
use Rattle.std.specs.Prelude.{Result, Ok, Err}
use Rattle.htt_lexer_tokens.specs.declared.tokens.Token.{Token}
use Rattle.htt_parser_trees.specs.Trees.{RawTyTree, RawTermTree, RawCompTree, RawFormulaTree, RawDisjTree, RawConjTree, RawStarTree}
use Rattle.htt_parser_trees.specs.TreeLevels.{raw_comp_tree}
use Rattle.htt_parser_trees.specs.TreeViews.{raw_ty_tree, raw_term_tree, raw_formula_tree, raw_disj_tree, raw_conj_tree, raw_star_tree}
use Rattle.htt_parser_trees.specs.declared.tree.RawTy.{RawTy}
use Rattle.htt_parser_trees.specs.declared.tree.RawTerm.{RawTerm}
use Rattle.htt_parser_trees.specs.declared.tree.RawComp.{RawComp}
use Rattle.htt_parser_trees.specs.declared.tree.RawFormula.{RawFormula}
use Rattle.htt_parser_trees.specs.declared.tree.RawDisj.{RawDisj}
use Rattle.htt_parser_trees.specs.declared.tree.RawConj.{RawConj}
use Rattle.htt_parser_trees.specs.declared.tree.RawStar.{RawStar}
use Rattle.theory_grammar.specs.Readers.{Halt, give}
use Rattle.htt_parser_words.specs.declared.cursor.Halted.{Halted}
use Rattle.htt_parser_words.specs.declared.cursor.Halted.TheVariants as halts
use Rattle.htt_parser_words.specs.Results.{StopsAs, mapped}
use Rattle.htt_parser_levels.specs.declared.found.Found.{Found}
use Rattle.htt_parser_levels.specs.declared.found.Found.TheVariants as found
use Rattle.htt_parser_levels.specs.Levels.{ty_found, term_found, comp_found, formula_found, disj_found, conj_found, star_found, found_tree}

-- a stop says nothing of what is made of the result
pub stops_within : {A B : Type 0} (make : A → B) (ts : List Token) (e : Halted) (told : Result (A × List Token) Halt)
    → StopsAs ts e (mapped make told)
    → StopsAs ts e told
unfolding give
stops_within make ts (halts.At reason at) (Ok read) h = cc
stops_within make ts (halts.At reason at) (Err halt) h = cc
stops_within make ts halts.NoMemory told h = tt

-- what a result was made of
pub record MadeOf {A B : Type 0} (make : A → B) (told : Result (A × List Token) Halt) (whole : B) (rest : List Token) : Type 0 where
  pub part : A
  pub makes : whole ≡ make part
  pub tells : told ≡ Ok (part, rest)

pub made_of : {A B : Type 0} (make : A → B) (told : Result (A × List Token) Halt) (whole : B) (rest : List Token)
    → mapped make told ≡ Ok (whole, rest)
    → MadeOf make told whole rest
unfolding give
made_of {A} {B} make (Ok read) whole rest h =
    let both : (make read.0, read.1) ≡ (whole, rest) = cc in
    record { part = read.0; makes = sym (ap (λ (p : B × List Token). p.0) both); tells = ap (λ (p : B × List Token). Ok (read.0, p.1)) both }
made_of make (Err halt) whole rest h = absurd (let no : Err halt ≡ Ok (whole, rest) = h in cc)

-- ---- ty

pub only_ty : (it : Found) (x : RawTyTree) → found_tree it ≡ ty_found x → ((y : _) → it ≡ found.Type y → ⊥) → ⊥
only_ty (found.Type y) x h other = other y refl
only_ty _ x h other = cc

ty_part : (x y : RawTyTree) → ty_found x ≡ ty_found y → x ≡ y
ty_part x y h = cc

pub found_ty : (it : Found) (y : RawTy) (told : Result (RawTyTree × List Token) Halt) (rest : List Token)
    → mapped ty_found told ≡ Ok (found_tree it, rest)
    → it ≡ found.Type y
    → told ≡ Ok (raw_ty_tree y, rest)
found_ty it y told rest h is =
    let made = made_of ty_found told (found_tree it) rest h in
    made.tells ∙ ap (λ z. Ok (z, rest)) (ty_part made.part (raw_ty_tree y) (sym made.makes ∙ ap found_tree is))

-- ---- term

pub only_term : (it : Found) (x : RawTermTree) → found_tree it ≡ term_found x → ((y : _) → it ≡ found.Term y → ⊥) → ⊥
only_term (found.Term y) x h other = other y refl
only_term _ x h other = cc

term_part : (x y : RawTermTree) → term_found x ≡ term_found y → x ≡ y
term_part x y h = cc

pub found_term : (it : Found) (y : RawTerm) (told : Result (RawTermTree × List Token) Halt) (rest : List Token)
    → mapped term_found told ≡ Ok (found_tree it, rest)
    → it ≡ found.Term y
    → told ≡ Ok (raw_term_tree y, rest)
found_term it y told rest h is =
    let made = made_of term_found told (found_tree it) rest h in
    made.tells ∙ ap (λ z. Ok (z, rest)) (term_part made.part (raw_term_tree y) (sym made.makes ∙ ap found_tree is))

-- ---- comp

pub only_comp : (it : Found) (x : RawCompTree) → found_tree it ≡ comp_found x → ((y : _) → it ≡ found.Computation y → ⊥) → ⊥
only_comp (found.Computation y) x h other = other y refl
only_comp _ x h other = cc

comp_part : (x y : RawCompTree) → comp_found x ≡ comp_found y → x ≡ y
comp_part x y h = cc

pub found_comp : (it : Found) (y : RawComp) (told : Result (RawCompTree × List Token) Halt) (rest : List Token)
    → mapped comp_found told ≡ Ok (found_tree it, rest)
    → it ≡ found.Computation y
    → told ≡ Ok (raw_comp_tree y, rest)
found_comp it y told rest h is =
    let made = made_of comp_found told (found_tree it) rest h in
    made.tells ∙ ap (λ z. Ok (z, rest)) (comp_part made.part (raw_comp_tree y) (sym made.makes ∙ ap found_tree is))

-- ---- formula

pub only_formula : (it : Found) (x : RawFormulaTree) → found_tree it ≡ formula_found x → ((y : _) → it ≡ found.Formula y → ⊥) → ⊥
only_formula (found.Formula y) x h other = other y refl
only_formula _ x h other = cc

formula_part : (x y : RawFormulaTree) → formula_found x ≡ formula_found y → x ≡ y
formula_part x y h = cc

pub found_formula : (it : Found) (y : RawFormula) (told : Result (RawFormulaTree × List Token) Halt) (rest : List Token)
    → mapped formula_found told ≡ Ok (found_tree it, rest)
    → it ≡ found.Formula y
    → told ≡ Ok (raw_formula_tree y, rest)
found_formula it y told rest h is =
    let made = made_of formula_found told (found_tree it) rest h in
    made.tells ∙ ap (λ z. Ok (z, rest)) (formula_part made.part (raw_formula_tree y) (sym made.makes ∙ ap found_tree is))

-- ---- disj

pub only_disj : (it : Found) (x : RawDisjTree) → found_tree it ≡ disj_found x → ((y : _) → it ≡ found.Disjunction y → ⊥) → ⊥
only_disj (found.Disjunction y) x h other = other y refl
only_disj _ x h other = cc

disj_part : (x y : RawDisjTree) → disj_found x ≡ disj_found y → x ≡ y
disj_part x y h = cc

pub found_disj : (it : Found) (y : RawDisj) (told : Result (RawDisjTree × List Token) Halt) (rest : List Token)
    → mapped disj_found told ≡ Ok (found_tree it, rest)
    → it ≡ found.Disjunction y
    → told ≡ Ok (raw_disj_tree y, rest)
found_disj it y told rest h is =
    let made = made_of disj_found told (found_tree it) rest h in
    made.tells ∙ ap (λ z. Ok (z, rest)) (disj_part made.part (raw_disj_tree y) (sym made.makes ∙ ap found_tree is))

-- ---- conj

pub only_conj : (it : Found) (x : RawConjTree) → found_tree it ≡ conj_found x → ((y : _) → it ≡ found.Conjunction y → ⊥) → ⊥
only_conj (found.Conjunction y) x h other = other y refl
only_conj _ x h other = cc

conj_part : (x y : RawConjTree) → conj_found x ≡ conj_found y → x ≡ y
conj_part x y h = cc

pub found_conj : (it : Found) (y : RawConj) (told : Result (RawConjTree × List Token) Halt) (rest : List Token)
    → mapped conj_found told ≡ Ok (found_tree it, rest)
    → it ≡ found.Conjunction y
    → told ≡ Ok (raw_conj_tree y, rest)
found_conj it y told rest h is =
    let made = made_of conj_found told (found_tree it) rest h in
    made.tells ∙ ap (λ z. Ok (z, rest)) (conj_part made.part (raw_conj_tree y) (sym made.makes ∙ ap found_tree is))

-- ---- star

pub only_star : (it : Found) (x : RawStarTree) → found_tree it ≡ star_found x → ((y : _) → it ≡ found.Star y → ⊥) → ⊥
only_star (found.Star y) x h other = other y refl
only_star _ x h other = cc

star_part : (x y : RawStarTree) → star_found x ≡ star_found y → x ≡ y
star_part x y h = cc

pub found_star : (it : Found) (y : RawStar) (told : Result (RawStarTree × List Token) Halt) (rest : List Token)
    → mapped star_found told ≡ Ok (found_tree it, rest)
    → it ≡ found.Star y
    → told ≡ Ok (raw_star_tree y, rest)
found_star it y told rest h is =
    let made = made_of star_found told (found_tree it) rest h in
    made.tells ∙ ap (λ z. Ok (z, rest)) (star_part made.part (raw_star_tree y) (sym made.makes ∙ ap found_tree is))
