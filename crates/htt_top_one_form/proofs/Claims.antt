-- Formulas and types compared with those of the form, one variant of a tree at a time.
use Rattle.std.proofs.Common.{◌≡◌, ℕ, List, [], ◌∷◌, length, refl, ◌∙◌, ap}
use Rattle.std.specs.Prelude.{None, Some, Option, Bool, true, false, ◌&&◌, ◌==◌, codes}
use Rattle.htt_parser_trees.specs.declared.mono.MonoName.{MonoName}
use Rattle.htt_parser_trees.specs.declared.mono.RawMono.{RawMono}
use Rattle.htt_parser_trees.specs.declared.mono.RawRight.{more_of-RawMono, end_of-RawMono}
use Rattle.htt_parser_trees.specs.declared.mono.RawRight.TheVariants as vright
use Rattle.htt_parser_trees.specs.declared.mono.RawBracket.{RawBracket}
use Rattle.htt_parser_trees.specs.declared.mono.RawBracket as bracket
use Rattle.htt_parser_trees.specs.declared.tree.RawRel.{RawRel}
use Rattle.htt_parser_trees.specs.declared.tree.RawFatom.{RawFatom}
use Rattle.htt_parser_trees.specs.declared.tree.RawFatom as fatom
use Rattle.htt_parser_trees.specs.declared.tree.RawFatom.TheVariants as vfatom
use Rattle.htt_parser_trees.specs.declared.tree.RawStar.{RawStar}
use Rattle.htt_parser_trees.specs.declared.tree.RawStar.TheVariants as vstar
use Rattle.htt_parser_trees.specs.declared.tree.RawConj.{RawConj}
use Rattle.htt_parser_trees.specs.declared.tree.RawConj.TheVariants as vconj
use Rattle.htt_parser_trees.specs.declared.tree.RawDisj.{RawDisj}
use Rattle.htt_parser_trees.specs.declared.tree.RawDisj.TheVariants as vdisj
use Rattle.htt_parser_trees.specs.declared.tree.RawFormula.{RawFormula}
use Rattle.htt_parser_trees.specs.declared.tree.RawFormula as formula
use Rattle.htt_parser_trees.specs.declared.tree.RawFormula.TheVariants as vformula
use Rattle.htt_parser_trees.specs.declared.tree.RawTriple.{RawTriple}
use Rattle.htt_parser_trees.specs.declared.tree.RawTy.{RawTy}
use Rattle.htt_parser_trees.specs.declared.tree.RawTy as ty
use Rattle.htt_parser_trees.specs.declared.tree.RawTy.TheVariants as vty
use Rattle.htt_parser_trees.specs.declared.tree.ProdOperand.TheBlock as block
use Rattle.htt_parser_trees.specs.declared.tree.ProdOperand.TheBlock.{end_of-RawDisj, end_of-RawFormula, end_of-RawRel, end_of-RawTerm, end_of-RawTriple}
use Rattle.htt_parser_trees.specs.declared.tree.ProdOperand.TheBlock.{end_of-RawTy, more_of-RawDisj, more_of-RawFormula, more_of-RawRel, more_of-RawTerm}
use Rattle.htt_parser_trees.specs.declared.tree.ProdOperand.TheBlock.{more_of-RawTriple, more_of-RawTy}
use Rattle.htt_parser_trees.specs.Trees.{RawMonoTree, m_name, with_right}
use Rattle.htt_parser_trees.specs.MonoViews.{raw_right_tree, raw_bracket_tree}
use Rattle.htt_parser_trees.specs.MonoLevels.{raw_mono_tree, raw_brackets_tree, raw_right_nothing, raw_right_times}
use Rattle.htt_parser_trees.specs.TreeViews.{raw_ty_tree, raw_rel_tree, raw_fatom_tree, raw_star_tree, raw_conj_tree, raw_disj_tree, raw_formula_tree}
use Rattle.htt_parser_trees.specs.TreeLevels.{raw_fatom_tt, raw_fatom_eq, raw_star_fatom, raw_star_times, raw_conj_star, raw_conj_and, raw_disj_conj}
use Rattle.htt_parser_trees.specs.TreeLevels.{raw_disj_or, raw_formula_disj, raw_triple_tree, raw_ty_hoare}
use Rattle.htt_top_one_form.specs.declared.formulas.Claim.TheVariants as claims
use Rattle.htt_top_one_form.proofs.Lists.{some_left}
use Rattle.htt_top_one_form.specs.Matching.{where_true, is_word_name, is_nothing, is_word, equation, fatom_claim, star_claim, conj_claim, disj_claim}
use Rattle.htt_top_one_form.specs.Matching.{formula_claim, binds, both_claims, triple_claim, claimed}

-- ---- the monotype `word`

pub nothing_matched : is_nothing (raw_right_tree vright.Nothing) ≡ true
nothing_matched = ap is_nothing raw_right_nothing

pub times_matched : (m : RawMono) → is_nothing (raw_right_tree (vright.Times m)) ≡ false
times_matched m = ap is_nothing (raw_right_times m)

pub ruleset rights = (nothing_matched, times_matched)

a_bracket : (b : RawBracket) (m : RawMonoTree) → is_word (raw_bracket_tree b m) ≡ false
unfolding raw_right_tree is_word
a_bracket (bracket.Alone at) m = refl
a_bracket (bracket.Times' at _ (more_of-RawMono a b _ c end_of-RawMono)) m = refl

in_brackets : (bs : List RawBracket) (m : RawMonoTree) → is_word m ≡ false → is_word (raw_brackets_tree bs m) ≡ false
in_brackets [] m h = h
in_brackets (b ∷ bs) m h = in_brackets bs (raw_bracket_tree b m) (a_bracket b m)

unbracketed : (x : MonoName) (r : Option RawMonoTree) → is_word (with_right (m_name x) r) ≡ (is_word_name x && is_nothing r)
unfolding is_word
unbracketed x None = by_name (is_word_name x)
  where
    by_name : (b : Bool) → b ≡ (b && true)
    by_name true = refl
    by_name false = refl
unbracketed x (Some m) = by_name (is_word_name x)
  where
    by_name : (b : Bool) → false ≡ (b && false)
    by_name true = refl
    by_name false = refl

by_brackets : (bs : List RawBracket) (x : MonoName) (r : Option RawMonoTree)
    → is_word (raw_brackets_tree bs (with_right (m_name x) r)) ≡ (length bs == 0 && (is_word_name x && is_nothing r))
by_brackets [] x r = unbracketed x r
by_brackets (b ∷ bs) x r =
    in_brackets bs (raw_bracket_tree b (with_right (m_name x) r)) (a_bracket b (with_right (m_name x) r))
    ∙ ap (λ e. e && (is_word_name x && is_nothing r)) (some_left b bs)

pub word_matched : (m : RawMono) → is_word (raw_mono_tree m) ≡ (length m.brackets == 0 && (is_word_name m.name && is_nothing (raw_right_tree m.right)))
unfolding raw_mono_tree
word_matched m = by_brackets m.brackets m.name (raw_right_tree m.right)

-- ---- formulas

pub tt_matched : (text : List ℕ) (at : ℕ) → fatom_claim text (raw_fatom_tree (vfatom.Tt at)) ≡ Some claims.Nothing
unfolding fatom_claim
tt_matched text at = ap (fatom_claim text) (raw_fatom_tt at)

pub eq_matched : (text : List ℕ) (left : RawRel) (m : RawMono) (right : RawRel)
    → fatom_claim text (raw_fatom_tree (vfatom.Eq left m right))
    ≡ where_true (is_word (raw_mono_tree m)) (equation text (raw_rel_tree left) (raw_rel_tree right))
unfolding fatom_claim
eq_matched text left m right = ap (fatom_claim text) (raw_fatom_eq left m right)

pub other_fatom : (text : List ℕ) (f : RawFatom)
    → ((at : ℕ) → f ≡ vfatom.Tt at → ⊥)
    → ((left : RawRel) (m : RawMono) (right : RawRel) → f ≡ vfatom.Eq left m right → ⊥)
    → None ≡ fatom_claim text (raw_fatom_tree f)
unfolding raw_ty_tree fatom_claim block.hidden-the_row-RawRel-7 denote.Hole.Carrier.hidden
other_fatom text (fatom.Tt x1) n m = absurd (n x1 refl)
other_fatom text (fatom.Ff x1) n m = refl
other_fatom text (fatom.Emp x1) n m = refl
other_fatom text (fatom.Brackets' x1 _ (more_of-RawFormula x2 end_of-RawFormula)) n m = refl
other_fatom text (fatom.AtHeap' x1 x2 _ (more_of-RawFormula x3 end_of-RawFormula)) n m = refl
other_fatom text (fatom.EmpOf x1 x2) n m = refl
other_fatom text (fatom.Same x1 x2 x3) n m = refl
other_fatom text (fatom.Join x1 x2 x3 x4) n m = refl
other_fatom text (fatom.Cell' x1 x2 x3 _ (more_of-RawTerm x4 end_of-RawTerm) _ (more_of-RawTerm x5 end_of-RawTerm)) n m = refl
other_fatom text (fatom.Block' x1 x2 x3 _ (more_of-RawTerm x4 end_of-RawTerm)) n m = refl
other_fatom text (fatom.Use' x1 x2 x3 _ x4) n m = refl
other_fatom text (fatom.UseAt' x1 x2 _ (more_of-RawTerm x3 end_of-RawTerm) _ x4) n m = refl
other_fatom text (fatom.UseAtHeap' x1 x2 x3 _ (more_of-RawTerm x4 end_of-RawTerm) _ x5) n m = refl
other_fatom text (fatom.Eq' _ (more_of-RawRel x1 end_of-RawRel) x2 _ (more_of-RawRel x3 end_of-RawRel)) n m = absurd (m x1 x2 x3 refl)
other_fatom text (fatom.PointsTo' _ (more_of-RawRel x1 end_of-RawRel) x2 _ (more_of-RawRel x3 end_of-RawRel)) n m = refl
other_fatom text (fatom.PointsToAny' _ (more_of-RawRel x1 end_of-RawRel) x2) n m = refl

pub ruleset fatoms = (tt_matched, eq_matched, other_fatom)

pub fatom_matched : (text : List ℕ) (f : RawFatom) → star_claim text (raw_star_tree (vstar.Fatom f)) ≡ fatom_claim text (raw_fatom_tree f)
unfolding star_claim
fatom_matched text f = ap (star_claim text) (raw_star_fatom f)

pub product_matched : (text : List ℕ) (f : RawFatom) (s : RawStar) → star_claim text (raw_star_tree (vstar.Times f s)) ≡ None
unfolding star_claim
product_matched text f s = ap (star_claim text) (raw_star_times f s)

pub ruleset stars = (fatom_matched, product_matched)

pub star_matched : (text : List ℕ) (s : RawStar) → conj_claim text (raw_conj_tree (vconj.Star s)) ≡ star_claim text (raw_star_tree s)
unfolding conj_claim
star_matched text s = ap (conj_claim text) (raw_conj_star s)

pub and_matched : (text : List ℕ) (s : RawStar) (c : RawConj) → conj_claim text (raw_conj_tree (vconj.And s c)) ≡ None
unfolding conj_claim
and_matched text s c = ap (conj_claim text) (raw_conj_and s c)

pub ruleset conjs = (star_matched, and_matched)

pub conj_matched : (text : List ℕ) (c : RawConj) → disj_claim text (raw_disj_tree (vdisj.Conj c)) ≡ conj_claim text (raw_conj_tree c)
unfolding disj_claim
conj_matched text c = ap (disj_claim text) (raw_disj_conj c)

pub or_matched : (text : List ℕ) (c : RawConj) (d : RawDisj) → disj_claim text (raw_disj_tree (vdisj.Or c d)) ≡ None
unfolding disj_claim
or_matched text c d = ap (disj_claim text) (raw_disj_or c d)

pub ruleset disjs = (conj_matched, or_matched)

pub disj_matched : (text : List ℕ) (d : RawDisj) → formula_claim text (raw_formula_tree (vformula.Disj d)) ≡ disj_claim text (raw_disj_tree d)
unfolding formula_claim
disj_matched text d = ap (formula_claim text) (raw_formula_disj d)

pub no_disj : (text : List ℕ) (f : RawFormula) → ((d : RawDisj) → f ≡ vformula.Disj d → ⊥) → None ≡ formula_claim text (raw_formula_tree f)
unfolding raw_ty_tree formula_claim block.hidden-the_row-RawDisj-4 denote.Hole.Carrier.hidden
no_disj text (formula.All' x1 x2 x3 _ (more_of-RawFormula x4 end_of-RawFormula)) n = refl
no_disj text (formula.Ex' x1 x2 x3 _ (more_of-RawFormula x4 end_of-RawFormula)) n = refl
no_disj text (formula.Disj' _ (more_of-RawDisj x1 end_of-RawDisj)) n = absurd (n x1 refl)
no_disj text (formula.Implies' _ (more_of-RawDisj x1 end_of-RawDisj) _ (more_of-RawFormula x2 end_of-RawFormula)) n = refl

pub ruleset formulas = (disj_matched, no_disj)

-- ---- types

pub triple_matched : (text : List ℕ) (t : RawTriple)
    → triple_claim text (raw_triple_tree t)
    ≡ where_true (binds text t.name (codes "x") && is_word (raw_mono_tree t.result))
    (both_claims (formula_claim text (raw_formula_tree t.pre)) (formula_claim text (raw_formula_tree t.post)))
unfolding raw_triple_tree triple_claim
triple_matched text t = refl

pub hoare_matched : (text : List ℕ) (at : ℕ) (t : RawTriple) → claimed text (raw_ty_tree (vty.Hoare at t)) ≡ triple_claim text (raw_triple_tree t)
unfolding claimed
hoare_matched text at t = ap (claimed text) (raw_ty_hoare at t)

pub no_hoare : (text : List ℕ) (a : RawTy) → ((at : ℕ) (t : RawTriple) → a ≡ vty.Hoare at t → ⊥) → None ≡ claimed text (raw_ty_tree a)
unfolding raw_ty_tree claimed block.hidden-the_row-RawTriple-15 denote.Hole.Carrier.hidden
no_hoare text (ty.Fun' x1 x2 _ (more_of-RawTy x3 end_of-RawTy) _ (more_of-RawTy x4 end_of-RawTy)) n = refl
no_hoare text (ty.All' x1 x2 _ (more_of-RawTy x3 end_of-RawTy)) n = refl
no_hoare text (ty.Hoare' x1 _ (more_of-RawTriple x2 x3 x4 x5 end_of-RawTriple)) n = absurd (n x1 (record { pre = x2; name = x3; result = x4; post = x5 }) refl)
no_hoare text (ty.Mono x1) n = refl

pub ruleset types = (hoare_matched, no_hoare)
